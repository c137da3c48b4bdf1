use Rattle.page_tokens.proofs.WholePages.{texts_called, tokens_called}
use Rattle.page_tokens.proofs.laws.calls.Goals as goal

pub returns-clause-texts : goal.returns-clause-texts
returns-clause-texts c = texts_called

pub returns-clause-tokens : goal.returns-clause-tokens
returns-clause-tokens c = tokens_called
