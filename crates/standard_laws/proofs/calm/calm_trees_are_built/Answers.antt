use Rattle.standard_laws.proofs.CalmBuilt.{calm_documents_built, calm_fragments_built}
use Rattle.standard_laws.proofs.calm.calm_trees_are_built.Goals as goal

pub returns-clause-document : goal.returns-clause-document
returns-clause-document c = calm_documents_built c.plain_pages_are_built.ensures

pub returns-clause-fragment : goal.returns-clause-fragment
returns-clause-fragment c = calm_fragments_built c.plain_fragments_are_built.ensures
