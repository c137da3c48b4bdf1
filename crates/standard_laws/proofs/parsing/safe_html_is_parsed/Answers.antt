use Rattle.standard_laws.proofs.Pieces.{safe_writes_values}
use Rattle.dom_markup.specs.WrittenTrees.{safe_char}
use Rattle.standard_laws.specs.Values.{safe_piece}
use Rattle.standard_laws.proofs.CalmParsed.{documents_parsed, fragments_parsed, pages_parsed}
use Rattle.standard_laws.proofs.Kept.{safe_shows}
use Rattle.standard_laws.proofs.parsing.safe_html_is_parsed.Goals as goal

pub returns-clause-page : goal.returns-clause-page
returns-clause-page c =
    pages_parsed c.plain_texts_are_parsed.ensures.page c.one_meaning.ensures c.what_is_read_is_plain.ensures c.documents_stand_for_their_trees.ensures safe_char safe_piece safe_writes_values safe_shows

pub returns-clause-document : goal.returns-clause-document
returns-clause-document c = documents_parsed c.plain_texts_are_parsed.ensures.page safe_char safe_piece safe_writes_values

pub returns-clause-fragment : goal.returns-clause-fragment
returns-clause-fragment c = fragments_parsed c.plain_texts_are_parsed.ensures.fragment safe_char safe_piece safe_writes_values
