use Rattle.std.proofs.Common.{arith, ◌≡◌, List, [], ◌∷◌, map, length, refl, sym, ◌∙◌, ap}
use Rattle.std.proofs.lemmas.Result.{err_from_is_err_and}
use Rattle.std.proofs.lemmas.Bool.{eqb-true, eqb-false}
use Rattle.dom_nodes.specs.declared.node_data.NodeData.TheVariants.{Doctype}
use Rattle.dom_markup.specs.Markup.Item.{doctype}
use Rattle.dom_markup.specs.Frames.{is_top}
use Rattle.dom_markup.specs.Reader.{opened_by}
use Rattle.dom_markup.specs.declared.document.reader.Open.{Open}
use Rattle.dom_markup.proofs.rows.Frames.{doctype_leaf, top_where_none, leaves_open, nil_from_length0}
use Rattle.dom_markup.specs.Bytes.{folded}
use Rattle.dom_markup.proofs.rows.Steps.{no_number, leaf_read}
use Rattle.dom_markup.proofs.document.reader.Reader.read_doctype.Goals as goal

nil_from_map : (os : List Open) → map opened_by os ≡ [] → os ≡ []
nil_from_map [] nil = refl
nil_from_map (o ∷ os) nil = cc

pub returns-then-not-is_empty : goal.returns-then-not-is_empty
returns-then-not-is_empty c = λ items h.
    let some = eqb-false _ 0 (sym c.is_empty.ensures ∙ c.if-not-is_empty.true) in
    leaves_open items c.args.self.now.tree (map opened_by c.args.self.now.stack.items) (λ nil. some (c.args.self.now.stack.ok.0 ∙ ap length (nil_from_map _ nil))) h

pub returns-in_err-append : goal.returns-in_err-append
returns-in_err-append c =
    let p = err_from_is_err_and c.from_residual.result c.from_residual.ensures.1 in
    let read = c.args.written in
    rw (p.1, p.2) (λ items h. no_number items (doctype (folded read.name.now) read.public.now read.system.now) _ _ _ _ h (omega arith) (omega arith) c.in_err-append.ensures.grown)

pub returns : goal.returns
returns c = λ items h.
    let read = c.args.written in
    let name = folded read.name.now in
    let nil : c.args.self.now.stack.items ≡ [] = nil_from_length0 _ (sym c.args.self.now.stack.ok.0 ∙ eqb-true _ 0 (sym c.is_empty.ensures ∙ c.if-not-is_empty.false)) in
    let top = top_where_none h.frames (sym (ap (map opened_by) nil) ∙ h.stack_is) in
    leaf_read items c.args.self.now c.append.new.self (doctype name read.public.now read.system.now) _ (Doctype name read.public.now read.system.now) h (doctype_leaf (is_top h.frames) name read.public.now read.system.now top) c.in_ok-append.ensures.grown.1
    c.in-Ok.ensures.doctype c.in_ok-append.ensures.stack
