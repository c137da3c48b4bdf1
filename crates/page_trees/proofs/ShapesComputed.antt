-- The shapes of the examples, computed by the prover.
use Rattle.std.specs.Prelude.{refl}
use Rattle.standard_tokens.specs.Machine.{longest_name, step, taken as taken_entry, value_of}
use Rattle.standard_tokens.specs.NamedReferences.{named_references}
use Rattle.standard_tokens.specs.Table.{entries}
use Rattle.standard_trees.specs.QuirksTexts.{either_quirks_public_begins, limited_quirks_public_begins, quirks_public_begins, quirks_public_is, quirks_system_is}
use Rattle.standard_trees.specs.TreeRules.{rules}
use Rattle.standard_trees.specs.Building.{perform, run, taken, tree_step}
use Rattle.standard_trees.specs.Parsing.{parsed}
use Rattle.page_trees.specs.ShapeExamples.{PagesAreShaped}

pub pages_are_shaped : PagesAreShaped
unfolding longest_name step taken_entry value_of named_references entries quirks_public_is quirks_system_is quirks_public_begins
    either_quirks_public_begins limited_quirks_public_begins rules perform run taken tree_step parsed
pages_are_shaped = record { empty = refl; implied = refl; comments = refl; fostered = refl; template = refl; frames = refl; formatted = refl }
