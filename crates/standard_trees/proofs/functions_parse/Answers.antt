use Rattle.standard_trees.proofs.OneWay.{functions_parse as all_functions_parse}
use Rattle.standard_trees.proofs.functions_parse.Goals as goal

pub returns : goal.returns
returns c = all_functions_parse
