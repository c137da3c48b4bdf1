use Rattle.std.proofs.Common.{◌≡◌, ◌∷◌, [], Bool, Some, arith, refl, subst}
use Rattle.std.proofs.lemmas.Result.{err_from_is_err_and}
use Rattle.dom_nodes.specs.declared.node_data.NodeData.{NodeData}
use Rattle.dom_nodes.specs.declared.node_data.NodeData.TheVariants.{Text, Comment}
use Rattle.dom_markup.specs.Frames.{is_top}
use Rattle.dom_markup.specs.Markup.{Item}
use Rattle.dom_markup.specs.Markup.Item.{characters, comment}
use Rattle.dom_markup.specs.Reader.{leaf_item}
use Rattle.dom_markup.specs.Refusals.{nodes_begun}
use Rattle.dom_markup.proofs.rows.Frames.{IsLeaf, comment_leaf, text_leaf}
use Rattle.dom_markup.proofs.rows.Steps.{no_number, leaf_read}
use Rattle.dom_markup.proofs.document.reader.Reader.read_leaf.Goals as goal

leaf_is : (top : Bool) (content : NodeData) (item : Item) → leaf_item content ≡ Some item → IsLeaf item content top
leaf_is top (Text c) item e = subst (λ (i : Item). IsLeaf i (Text c) top) (search) (text_leaf top c)
leaf_is top (Comment c) item e = subst (λ (i : Item). IsLeaf i (Comment c) top) (search) (comment_leaf top c)
leaf_is top _ item e = cc

one_begun : (content : NodeData) (item : Item) → leaf_item content ≡ Some item → nodes_begun (item ∷ []) ≡ 1
one_begun (Text c) item e =
    let is : characters c ≡ item = search in
    subst (λ (i : Item). nodes_begun (i ∷ []) ≡ 1) is refl
one_begun (Comment c) item e =
    let is : comment c ≡ item = search in
    subst (λ (i : Item). nodes_begun (i ∷ []) ≡ 1) is refl
one_begun _ item e = cc

pub returns-in_err-append : goal.returns-in_err-append
returns-in_err-append c =
    let p = err_from_is_err_and c.from_residual.result c.from_residual.ensures.1 in
    rw (p.1, p.2) (λ item is items h.
    let one = one_begun c.args.content item is in
    no_number items item _ _ _ _ h (omega (arith, one)) (omega (arith, one)) c.in_err-append.ensures.grown)

pub returns : goal.returns
returns c = λ item is items h.
    leaf_read items c.args.self.now c.append.new.self item _ c.args.content h (leaf_is (is_top h.frames) c.args.content item is) c.in_ok-append.ensures.grown.1 refl c.in_ok-append.ensures.stack
