use Rattle.std.proofs.Common.{◌∙◌, ◌∷◌, ◌++◌, [], ap, subst, sym, take}
use Rattle.std.proofs.lemmas.List.{take_more}
use Rattle.dom_edits.specs.Edits.{Each, edit_at}
use Rattle.dom_edits.proofs.EachLemmas.{each-more}
use Rattle.dom_edits.proofs.edit.edit_each.Goals as goal

pub loop-done-preserved : goal.loop-done-preserved
loop-done-preserved c =
    let i = c.loop-done.done in
    let nodes = c.args.nodes.now in
    let next = take_more nodes i c.index-nodes-done.result c.loop-done-test.true ∙ ap (λ n. take i nodes ++ n ∷ []) (sym c.index-nodes-done.is) in
    subst (λ ns. Each (edit_at c.args.edit) ns c.args.tree.now c.edit_node.new.tree) (sym next)
    (each-more (edit_at c.args.edit) (take i nodes) c.index-nodes-done.result c.args.tree.now c.loop-done.tree c.edit_node.new.tree
    c.loop-done.invariant c.in_default.ensures.allowed c.in_default.ensures.ok)
