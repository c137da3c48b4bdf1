use Rattle.page_tokens.proofs.WholePages.{begins, characters, ends, texts, tokens}
use Rattle.page_tokens.proofs.laws.pages.Goals as goal

pub returns-clause-begin : goal.returns-clause-begin
returns-clause-begin c = begins

pub returns-clause-texts : goal.returns-clause-texts
returns-clause-texts c = texts

pub returns-clause-characters : goal.returns-clause-characters
returns-clause-characters c = characters

pub returns-clause-tokens : goal.returns-clause-tokens
returns-clause-tokens c = tokens

pub returns-clause-end : goal.returns-clause-end
returns-clause-end c = ends
