use Rattle.std.proofs.Common.{refl, ap, ◌∙◌}
use Rattle.standard_tokens.specs.Tokens.{AComment}
use Rattle.standard_trees.specs.Building.{with_next}
use Rattle.page_trees.specs.TokenSteps.{keeps_characters}
use Rattle.page_trees.specs.declared.builder.TreeBuilder.{TreeBuilder}
use Rattle.page_trees.proofs.TokenCalls.{comment_whole}
use Rattle.page_trees.proofs.TokenRules.{processed}
use Rattle.page_trees.proofs.TokenStates.{begun}
use Rattle.page_trees.proofs.builder.TreeBuilder.comment.Goals as goal

pub returns-clause-tokens : goal.returns-clause-tokens
returns-clause-tokens c cs spelt =
    comment_whole cs c.args.self.now _ c.settle_table_text.new.self _ refl c.settle_table_text.ensures.same c.settle_table_text.ensures.rule c.insert_comment.ensures.limits
    (c.insert_comment.ensures.rule cs spelt)

pub returns-clause-rule : goal.returns-clause-rule
returns-clause-rule c cs spelt early quiet within b ends stands =
    let same = c.settle_table_text.ensures.same early in
    processed (AComment cs) b _ refl
    (c.insert_comment.ensures.rule cs spelt (ap (λ (s : TreeBuilder). keeps_characters s.mode) same ∙ early) within (with_next (AComment cs) b) ends refl
    (begun c.args.self.now _ (AComment cs) same quiet b stands))
