use Rattle.dom_selectors.proofs.PrintedLemmas.{printed_reads}
use Rattle.dom_selectors.proofs.laws.printed_string.Goals as goal

pub returns : goal.returns
returns c = printed_reads
