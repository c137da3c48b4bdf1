use Rattle.std.proofs.Common.{◌≡◌, ◌∷◌, [], arith, refl}
use Rattle.std.proofs.lemmas.Result.{err_from_is_err_and}
use Rattle.dom_trees.specs.NewNodes.{text_node}
use Rattle.dom_markup.specs.Frames.{is_top}
use Rattle.dom_markup.specs.Markup.Item.{characters}
use Rattle.dom_markup.specs.Refusals.{nodes_begun}
use Rattle.dom_markup.proofs.rows.Frames.{text_leaf}
use Rattle.dom_markup.proofs.rows.Steps.{no_number, leaf_read}
use Rattle.dom_markup.proofs.document.reader.Reader.read_plain.Goals as goal

pub returns-in_err-append_text : goal.returns-in_err-append_text
returns-in_err-append_text c =
    let p = err_from_is_err_and c.from_residual.result c.from_residual.ensures.1 in
    rw (p.1, p.2) (λ items h.
    let one : nodes_begun (characters c.args.text.now ∷ []) ≡ 1 = refl in
    no_number items (characters c.args.text.now) _ _ _ _ h (omega (arith, one)) (omega (arith, one)) c.in_err-append_text.ensures.grown)

pub returns : goal.returns
returns c = λ items h.
    leaf_read items c.args.self.now c.append_text.new.self (characters c.args.text.now) _ (text_node c.args.text.now) h (text_leaf (is_top h.frames) c.args.text.now) c.in_ok-append_text.ensures.grown.1 refl c.in_ok-append_text.ensures.stack
