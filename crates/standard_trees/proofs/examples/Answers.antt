use Rattle.standard_trees.proofs.ExamplesComputed.{pages_are_parsed}
use Rattle.standard_trees.proofs.examples.Goals as goal

pub returns : goal.returns
returns c = pages_are_parsed
