use Rattle.std.proofs.Common.{refl, subst, sym, ◌∙◌}
use Rattle.page_trees.specs.Stands.{IsStackOf}
use Rattle.page_trees.proofs.DroppedElements.{nobr_closed, nobr_left}
use Rattle.page_trees.proofs.builder.TreeBuilder.close_nobr.Goals as goal

pub returns-then-in_scope-clause-rule : goal.returns-then-in_scope-clause-rule
returns-then-in_scope-clause-rule c =
    nobr_closed c.args.tag.now c.args.self.now c.adopt.new.self
    (λ b stands. sym (c.in_scope.ensures.rule b.tree refl (subst (IsStackOf b.tree) (sym c.open.ensures.elements) stands.tree.stack) c.open.ensures.index) ∙ c.if-in_scope.true)
    (c.adopt.ensures.rule refl)

pub returns-else-in_scope-clause-rule : goal.returns-else-in_scope-clause-rule
returns-else-in_scope-clause-rule c =
    nobr_left c.args.tag.now c.args.self.now
    (λ b stands. sym (c.in_scope.ensures.rule b.tree refl (subst (IsStackOf b.tree) (sym c.open.ensures.elements) stands.tree.stack) c.open.ensures.index) ∙ c.if-in_scope.false)
