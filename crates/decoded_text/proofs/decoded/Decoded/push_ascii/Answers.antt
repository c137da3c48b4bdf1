use Rattle.std.proofs.Common.{refl, sym, ◌∙◌, ◌≡◌, ◌++◌, length, append-nil, eqb-true, ap, []}
use Rattle.std.proofs.lemmas.List.{nil_from_length}
use Rattle.std.specs.Prelude.{string_bytes}
use Rattle.decoded_text.proofs.Texts.{appends-ascii}
use Rattle.decoded_text.proofs.decoded.Decoded.push_ascii.Goals as goal

pub returns-then-is_empty-clause-appends : goal.returns-then-is_empty-clause-appends
returns-then-is_empty-clause-appends c =
    let none : c.args.ascii.now ≡ [] = nil_from_length _ (eqb-true (length c.args.ascii.now) 0 (sym c.is_empty.ensures ∙ c.if-is_empty.true)) in
    let old = string_bytes c.args.self.now.text in
    appends-ascii _ _ _ c.requires.ascii (sym (ap (λ bs. old ++ bs) none ∙ append-nil old)) refl

pub returns-clause-appends : goal.returns-clause-appends
returns-clause-appends c = appends-ascii _ _ _ c.requires.ascii c.in_ok-push_str.ensures.bytes refl
