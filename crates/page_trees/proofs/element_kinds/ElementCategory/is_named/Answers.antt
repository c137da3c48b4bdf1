use Rattle.std.proofs.Common.{ap, ◌∙◌}
use Rattle.dom_nodes.specs.Words.{is_among}
use Rattle.page_trees.proofs.element_kinds.ElementCategory.is_named.Goals as goal

pub returns : goal.returns
returns c = c.is_one_of.ensures ∙ ap (is_among c.args.name.now) c.names.ensures
