use Rattle.page_tokens.proofs.PageTexts.{then_text}
use Rattle.page_tokens.proofs.laws.pieces.Goals as goal

pub returns : goal.returns
returns c = then_text
