use Rattle.text_decoding.proofs.Lending.{utf8_itself}
use Rattle.text_decoding.proofs.whole.lent_utf8.Goals as goal

pub returns-in-Ok-clause-itself : goal.returns-in-Ok-clause-itself
returns-in-Ok-clause-itself c = utf8_itself _ c.in-Ok.ensures.cases.1
