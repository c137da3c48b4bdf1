use Rattle.std.proofs.Common.{◌∙◌}
use Rattle.page_trees.proofs.reading.PageReader.tell_characters.Goals as goal

pub returns-clause-builds : goal.returns-clause-builds
returns-clause-builds c cs spelt = c.characters.ensures.rule cs (c.text.ensures ∙ spelt)
