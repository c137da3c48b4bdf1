use Rattle.std.proofs.Common.{refl, subst, sym}
use Rattle.page_trees.specs.Stands.{IsStackOf}
use Rattle.page_trees.proofs.BodyEnds.{p_implied, p_there}
use Rattle.page_trees.proofs.builder.TreeBuilder.imply_paragraph.Goals as goal

pub returns-then-not-in_scope-clause-rule : goal.returns-then-not-in_scope-clause-rule
returns-then-not-in_scope-clause-rule c within b stands =
    let told = c.in_scope.ensures.rule b.tree refl (subst (IsStackOf b.tree) (sym c.open.ensures.elements) stands.tree.stack) c.open.ensures.index in
    p_implied c.args.self.now c.insert_implied.new.self b c.in_scope.result c.if-not-in_scope.true told (c.insert_implied.ensures.rule refl within b stands)

pub returns-else-not-in_scope-clause-rule : goal.returns-else-not-in_scope-clause-rule
returns-else-not-in_scope-clause-rule c within b stands =
    let told = c.in_scope.ensures.rule b.tree refl (subst (IsStackOf b.tree) (sym c.open.ensures.elements) stands.tree.stack) c.open.ensures.index in
    p_there c.args.self.now b c.in_scope.result c.if-not-in_scope.false told stands
