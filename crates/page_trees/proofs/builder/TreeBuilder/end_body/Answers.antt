use Rattle.std.proofs.Common.{refl, subst, sym}
use Rattle.standard_trees.specs.RuleWords.{InBody}
use Rattle.page_trees.specs.Constructs.{Outcome}
use Rattle.page_trees.specs.Stands.{IsStackOf}
use Rattle.page_trees.specs.declared.builder.Mode.{Mode}
use Rattle.page_trees.specs.declared.builder.Next.{Next}
use Rattle.page_trees.proofs.BodyEnds.{body_left, body_stays}
use Rattle.page_trees.proofs.BuilderSteps.{entered}
use Rattle.page_trees.proofs.builder.TreeBuilder.end_body.Goals as goal

pub returns-then-in_scope-clause-rule : goal.returns-then-in_scope-clause-rule
returns-then-in_scope-clause-rule c tag covers ends within b current stands test =
    let told = c.in_scope.ensures.rule b.tree refl (subst (IsStackOf b.tree) (sym c.open.ensures.elements) stands.tree.stack) c.open.ensures.index in
    subst (λ (n : Next). Outcome InBody b c.done_in.new.self n) (sym c.done_in.ensures.next)
    (body_left tag b c.done_in.new.self c.in_scope.result c.if-in_scope.true told current ends (entered c.args.self.now c.done_in.new.self Mode.AfterBody c.done_in.ensures.mode refl b stands))

pub returns-clause-rule : goal.returns-clause-rule
returns-clause-rule c tag covers ends within b current stands test =
    let told = c.in_scope.ensures.rule b.tree refl (subst (IsStackOf b.tree) (sym c.open.ensures.elements) stands.tree.stack) c.open.ensures.index in
    body_stays tag b c.args.self.now c.in_scope.result c.if-in_scope.false told current ends stands
