use Rattle.dom_nodes.specs.Escaping.{value_char}
use Rattle.standard_laws.proofs.Pieces.{html_writes_values}
use Rattle.standard_laws.specs.Values.{value_piece}
use Rattle.standard_laws.proofs.CalmParsed.{documents_parsed, fragments_parsed, html_parsed, pages_parsed}
use Rattle.standard_laws.proofs.Kept.{value_shows}
use Rattle.standard_laws.proofs.parsing.calm_html_is_parsed.Goals as goal

pub returns-clause-html : goal.returns-clause-html
returns-clause-html c = html_parsed c.plain_texts_are_parsed.ensures.page c.one_meaning.ensures c.html_of_trees.ensures.document

pub returns-clause-page : goal.returns-clause-page
returns-clause-page c =
    pages_parsed c.plain_texts_are_parsed.ensures.page c.one_meaning.ensures c.what_is_read_is_plain.ensures c.documents_stand_for_their_trees.ensures value_char value_piece html_writes_values value_shows

pub returns-clause-document : goal.returns-clause-document
returns-clause-document c = documents_parsed c.plain_texts_are_parsed.ensures.page value_char value_piece html_writes_values

pub returns-clause-fragment : goal.returns-clause-fragment
returns-clause-fragment c = fragments_parsed c.plain_texts_are_parsed.ensures.fragment value_char value_piece html_writes_values
