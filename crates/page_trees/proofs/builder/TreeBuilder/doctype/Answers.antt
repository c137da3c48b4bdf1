use Rattle.std.proofs.Common.{refl, ap, ◌∙◌}
use Rattle.standard_tokens.specs.Tokens.{ADoctype}
use Rattle.standard_trees.specs.Building.{with_next}
use Rattle.page_trees.specs.TokenSteps.{keeps_characters}
use Rattle.page_trees.specs.declared.builder.TreeBuilder.{TreeBuilder}
use Rattle.page_trees.proofs.TokenCalls.{doctype_whole}
use Rattle.page_trees.proofs.TokenRules.{processed}
use Rattle.page_trees.proofs.TokenStates.{begun}
use Rattle.page_trees.proofs.builder.TreeBuilder.doctype.Goals as goal

pub returns-clause-tokens : goal.returns-clause-tokens
returns-clause-tokens c d is =
    doctype_whole d c.args.self.now _ c.settle_table_text.new.self _ refl c.settle_table_text.ensures.same c.settle_table_text.ensures.rule c.take_doctype.ensures.limits
    (c.take_doctype.ensures.rule d is)

pub returns-clause-rule : goal.returns-clause-rule
returns-clause-rule c d is early quiet within b stands =
    let same = c.settle_table_text.ensures.same early in
    processed (ADoctype d) b _ refl
    (c.take_doctype.ensures.rule d is (ap (λ (s : TreeBuilder). keeps_characters s.mode) same ∙ early) within (with_next (ADoctype d) b) refl
    (begun c.args.self.now _ (ADoctype d) same quiet b stands))
