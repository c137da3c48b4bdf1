use Rattle.standard_tokens.proofs.ReadExamples.{all_read}
use Rattle.standard_tokens.proofs.laws.examples.Goals as goal

pub returns : goal.returns
returns c = all_read
