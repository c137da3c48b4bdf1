use Rattle.standard_laws.proofs.WrittenPages.{written_parsed}
use Rattle.standard_laws.proofs.parsing.written_pages_are_parsed.Goals as goal

pub returns : goal.returns
returns c = written_parsed c.calm_html_is_parsed.ensures.page c.safe_html_is_parsed.ensures.page c.one_parse.ensures.documents
