use Rattle.dom_clean.proofs.CleanedParsed.{pages_parsed, texts_parsed}
use Rattle.dom_clean.proofs.laws.cleaned_text_is_parsed.Goals as goal

pub returns-clause-text : goal.returns-clause-text
returns-clause-text c =
    texts_parsed c.one_meaning.ensures c.what_is_read_is_plain.ensures c.documents_stand_for_their_trees.ensures c.safe_html_is_parsed.ensures.page c.safe_html_is_parsed.ensures.fragment
    c.one_parse.ensures.documents c.one_parse.ensures.fragments

pub returns-clause-page : goal.returns-clause-page
returns-clause-page c = pages_parsed c.safe_html_is_parsed.ensures.page c.one_parse.ensures.documents
