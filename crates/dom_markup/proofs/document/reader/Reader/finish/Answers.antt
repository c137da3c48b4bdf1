use Rattle.std.proofs.Common.{◌≡◌, [], ◌∷◌, sym, ◌∙◌, ap, subst, List, map, length, refl, inl, inr}
use Rattle.std.proofs.lemmas.Bool.{eqb-true, eqb-false}
use Rattle.dom_markup.specs.Frames.{HasRead}
use Rattle.dom_markup.specs.Reader.{IsWhole, opened_by}
use Rattle.dom_markup.specs.declared.document.reader.Open.{Open}
use Rattle.dom_markup.proofs.rows.Frames.{nil_from_length0, whole_read, leaves_open}
use Rattle.dom_markup.proofs.document.reader.Reader.finish.Goals as goal

pub returns-in-Ok : goal.returns-in-Ok
returns-in-Ok c = λ items h.
    let nil : c.args.self.stack.items ≡ [] = nil_from_length0 _ (sym c.args.self.stack.ok.0 ∙ eqb-true _ 0 (sym c.is_empty.ensures ∙ c.if-not-is_empty.false)) in
    subst (IsWhole items) (sym c.in-Ok.ensures)
    (whole_read items c.args.self.tree (subst (λ (os : List Open). HasRead items c.args.self.tree (map opened_by os)) nil h))

pub returns : goal.returns
returns c = λ items h. inl refl

nil_from_map : (os : List Open) → map opened_by os ≡ [] → os ≡ []
nil_from_map [] nil = refl
nil_from_map (o ∷ os) nil = cc

pub returns-then-not-is_empty : goal.returns-then-not-is_empty
returns-then-not-is_empty c =
    let some = eqb-false _ 0 (sym c.is_empty.ensures ∙ c.if-not-is_empty.true) in
    λ items h. inr (refl, leaves_open items c.args.self.tree (map opened_by c.args.self.stack.items) (λ nil. some (c.args.self.stack.ok.0 ∙ ap length (nil_from_map _ nil))) h)
