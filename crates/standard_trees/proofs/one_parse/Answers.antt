use Rattle.standard_trees.proofs.OneWay.{documents_one_way, fragments_one_way}
use Rattle.standard_trees.proofs.one_parse.Goals as goal

pub returns-clause-documents : goal.returns-clause-documents
returns-clause-documents c = documents_one_way

pub returns-clause-fragments : goal.returns-clause-fragments
returns-clause-fragments c = fragments_one_way
