use Rattle.standard_laws.proofs.HtmlRead.{html_read, html_read_one_way}
use Rattle.standard_laws.proofs.tokens.html_is_read.Goals as goal

pub returns-clause-read : goal.returns-clause-read
returns-clause-read c = html_read c.plain_pages.ensures.read c.html_of_trees.ensures.document

pub returns-clause-only : goal.returns-clause-only
returns-clause-only c = html_read_one_way c.plain_pages.ensures.only c.html_of_trees.ensures.document
