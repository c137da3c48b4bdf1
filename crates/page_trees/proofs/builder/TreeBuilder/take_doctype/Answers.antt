use Rattle.std.proofs.Common.{ap, sym, ◌∙◌}
use Rattle.page_trees.specs.Modes.{mode_of}
use Rattle.page_trees.proofs.TokenRules.{doctype_first, doctype_ignored, foreign_doctype, initial_is}
use Rattle.page_trees.proofs.builder.TreeBuilder.take_doctype.Goals as goal

pub returns-then-is_current_foreign-clause-rule : goal.returns-then-is_current_foreign-clause-rule
returns-then-is_current_foreign-clause-rule c d is early within b token stands =
    foreign_doctype b _ d token stands.tree.nodes.root (sym (c.is_current_foreign.ensures b.tree stands.tree) ∙ c.if-is_current_foreign.true) stands

pub returns-then-is_initial-clause-rule : goal.returns-then-is_initial-clause-rule
returns-then-is_initial-clause-rule c d is early within b token stands =
    let first = initial_is c.args.self.now.mode (sym c.is_initial.ensures ∙ c.if-is_initial.true) in
    doctype_first b _ d (sym (c.is_current_foreign.ensures b.tree stands.tree) ∙ c.if-is_current_foreign.false) (stands.mode ∙ ap mode_of first) token
    (c.begin_by.ensures.rule d is first within b token stands)

pub returns-clause-rule : goal.returns-clause-rule
returns-clause-rule c d is early within b token stands =
    doctype_ignored c.args.self.now.mode b _ d early (sym c.is_initial.ensures ∙ c.if-is_initial.false) stands.mode stands.tree.nodes.root token stands
