use Rattle.std.proofs.Common.{◌∙◌}
use Rattle.page_trees.proofs.EndedForms.{form_closed, form_closed_before, form_out_of_scope}
use Rattle.page_trees.proofs.growing.GrowingTree.close_form.Goals as goal

pub returns-in_default : goal.returns-in_default
returns-in_default c t form b = form_closed_before _ _ t c.args.id c.self.view_is (c.in_default.ensures c.self.invariant.1) form b

pub returns-then-not-is_in_scope : goal.returns-then-not-is_in_scope
returns-then-not-is_in_scope c t form b =
    form_out_of_scope _ _ t c.args.id c.in-Some.place c.is_in_scope.result c.self.view_is (c.in-Some.ensures c.self.invariant.1) (c.is_in_scope.ensures c.self.invariant.1).1 c.if-not-is_in_scope.true form b

pub returns : goal.returns
returns c t form b =
    form_closed _ _ _ c.truncate.new.self c.mark.new.self t c.args.id c.in-Some.place c.depth_of_implied-count.result c.is_in_scope.result c.self.view_is c.self.invariant.0.order
    (c.in-Some.ensures c.self.invariant.1) (c.is_in_scope.ensures c.self.invariant.1).0 c.if-not-is_in_scope.false (λ u is. c.depth_of_implied-count.ensures u tt is) c.truncate.ensures
    (c.mark.ensures ∙ c.remove_at.ensures) form b
