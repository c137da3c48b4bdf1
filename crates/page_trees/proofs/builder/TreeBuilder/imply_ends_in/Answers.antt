use Rattle.std.proofs.Common.{[], subst, sym, ◌∙◌, ◌∷◌}
use Rattle.page_trees.specs.Names.{text_of}
use Rattle.page_trees.specs.Stands.{IsStackOf, text_list}
use Rattle.page_trees.proofs.BodyControls.{implied_absent, implied_present}
use Rattle.page_trees.proofs.builder.TreeBuilder.imply_ends_in.Goals as goal

pub returns-then-not-in_scope-clause-found : goal.returns-then-not-in_scope-clause-found
returns-then-not-in_scope-clause-found c known t built =
    let told = c.in_scope.ensures.rule t known (subst (IsStackOf t) (sym c.open.ensures.elements) built.stack) c.open.ensures.index in
    sym (sym told ∙ c.if-not-in_scope.true)

pub returns-then-not-in_scope-clause-rule : goal.returns-then-not-in_scope-clause-rule
returns-then-not-in_scope-clause-rule c known but within b stands =
    let told = c.in_scope.ensures.rule b.tree known (subst (IsStackOf b.tree) (sym c.open.ensures.elements) stands.tree.stack) c.open.ensures.index in
    implied_absent c.args.self.now b (text_of c.args.outer ∷ []) (text_list c.args.except) c.in_scope.result told c.if-not-in_scope.true stands

pub returns-clause-found : goal.returns-clause-found
returns-clause-found c known t built =
    let told = c.in_scope.ensures.rule t known (subst (IsStackOf t) (sym c.open.ensures.elements) built.stack) c.open.ensures.index in
    sym (sym told ∙ c.if-not-in_scope.false)

pub returns-clause-rule : goal.returns-clause-rule
returns-clause-rule c known but within b stands =
    let told = c.in_scope.ensures.rule b.tree known (subst (IsStackOf b.tree) (sym c.open.ensures.elements) stands.tree.stack) c.open.ensures.index in
    implied_present c.args.self.now c.generate_implied_end_tags.new.self b (text_of c.args.outer ∷ []) (text_list c.args.except) c.in_scope.result told c.if-not-in_scope.false
    (c.generate_implied_end_tags.ensures but) stands
