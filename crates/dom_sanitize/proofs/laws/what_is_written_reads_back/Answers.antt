use Rattle.dom_sanitize.proofs.Written.{reads_back_clean}
use Rattle.dom_sanitize.proofs.laws.what_is_written_reads_back.Goals as goal

pub returns : goal.returns
returns c = reads_back_clean c.html_of_trees.ensures.document c.plain_reads_back.ensures c.one_meaning.ensures c.documents_stand_for_their_trees.ensures c.documents_are_forests.ensures
