use Rattle.dom_markup.proofs.grammar.FaultLemmas.{fault_mark, limit_fault, nesting_fault, token_fault}
use Rattle.dom_markup.proofs.laws.faults.kinds_of_faults.Goals as goal

pub returns : goal.returns
returns c = record {
  tokens = token_fault;
  nesting = nesting_fault;
  marks = fault_mark;
  limits = limit_fault;
}
