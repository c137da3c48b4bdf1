use Rattle.std.proofs.Common.{◌∙◌}
use Rattle.page_trees.proofs.NumberedNames.{number_is}
use Rattle.page_trees.proofs.formatting.index.FormattingIndex.known_number.Goals as goal

pub returns : goal.returns
returns c = c.copied.ensures ∙ c.get.ensures.value ∙ number_is c.args.self.now.numbers.entries c.args.written.now
