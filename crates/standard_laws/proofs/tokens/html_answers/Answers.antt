use Rattle.standard_laws.proofs.Answering.{html_answers}
use Rattle.standard_laws.proofs.tokens.html_answers.Goals as goal

pub returns : goal.returns
returns c = html_answers
