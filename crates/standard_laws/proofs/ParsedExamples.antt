-- The prover computes the documents of the examples.
use Rattle.std.specs.Prelude.{refl, true, false}
use Rattle.standard_tokens.specs.Machine.{longest_name, step, taken as taken_entry, value_of}
use Rattle.standard_tokens.specs.NamedReferences.{named_references}
use Rattle.standard_tokens.specs.Table.{entries}
use Rattle.standard_trees.specs.Building.{perform, run, taken, tree_step}
use Rattle.standard_trees.specs.Parsing.{parsed}
use Rattle.standard_trees.specs.TreeRules.{rules}
use Rattle.standard_laws.specs.Examples.{ImpliedTagsAreParsed, TextStatesAreParsed}

pub implied_tags : ImpliedTagsAreParsed
unfolding parsed step taken_entry entries longest_name value_of named_references tree_step run taken perform rules
implied_tags true = (12, 100, refl)
implied_tags false = (12, 100, refl)

pub text_states : TextStatesAreParsed
unfolding parsed step taken_entry entries longest_name value_of named_references tree_step run taken perform rules
text_states true = (12, 150, refl)
text_states false = (12, 150, refl)
