use Rattle.std.proofs.Common.{◌∙◌, Bool, ap, sym}
use Rattle.page_trees.specs.CharacterTexts.{unskipped}
use Rattle.page_trees.proofs.builder.TreeBuilder.past_line_feed.Goals as goal

pub returns-then-skip-clause-rest : goal.returns-then-skip-clause-rest
returns-then-skip-clause-rest c = c.without_line_feed.ensures ∙ sym (ap (λ (x : Bool). unskipped x c.args.text.now) c.if-skip.true)

pub returns-clause-rest : goal.returns-clause-rest
returns-clause-rest c = sym (ap (λ (x : Bool). unskipped x c.args.text.now) c.if-skip.false)
