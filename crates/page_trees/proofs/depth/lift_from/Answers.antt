use Rattle.page_trees.specs.Lifts.{all_lifted}
use Rattle.page_trees.proofs.LiftLemmas.{lifting_begins, lifting_goes_on, lifting_moves}
use Rattle.page_trees.proofs.depth.lift_from.Goals as goal

pub returns-then-is_none : goal.returns-then-is_none
returns-then-is_none c = all_lifted

pub returns-in_err-children : goal.returns-in_err-children
returns-in_err-children c = all_lifted

pub loop-child-init : goal.loop-child-init
loop-child-init c =
    lifting_begins c.args.tree.now _ c.args.element c.args.holder c.parent_id.result _ c.is_forest.ensures c.nodes.ensures.value c.parent_id.ensures c.is_none.result c.is_none.ensures c.if-is_none.false c.requires c.in_ok-children.ensures

pub lift_child-requires : goal.lift_child-requires
lift_child-requires c =
    lifting_moves c.args.tree.now c.loop-child.tree c.args.element c.args.holder c.in-Some.child c.loop-child.children.items c.pop.new.self.items c.is_forest-in-Some.ensures c.loop-child.invariant c.in-Some.ensures.items

pub loop-child-preserved : goal.loop-child-preserved
loop-child-preserved c =
    lifting_goes_on c.args.tree.now c.loop-child.tree c.lift_child.new.tree c.args.element c.args.holder c.in-Some.child c.loop-child.children.items c.pop.new.self.items c.is_forest-in-Some.ensures
    c.loop-child.invariant c.in-Some.ensures.items c.lift_child.ensures.lifted c.lift_child.ensures.other
