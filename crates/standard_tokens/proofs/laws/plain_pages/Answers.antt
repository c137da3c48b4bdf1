use Rattle.standard_tokens.proofs.PlainPages.{plain_page, plain_page_only}
use Rattle.standard_tokens.proofs.laws.plain_pages.Goals as goal

pub returns-clause-read : goal.returns-clause-read
returns-clause-read c = plain_page

pub returns-clause-only : goal.returns-clause-only
returns-clause-only c = plain_page_only
