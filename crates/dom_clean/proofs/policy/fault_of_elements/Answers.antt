use Rattle.std.proofs.Common.{rules}
use Rattle.dom_clean.specs.Faults.Fault.{bad_element}
use Rattle.dom_clean.specs.Policy.{may_keep}
use Rattle.dom_clean.proofs.FaultTests.{search-none, search-some}
use Rattle.dom_clean.proofs.policy.fault_of_elements.Goals as goal

pub returns-in_err-name : goal.returns-in_err-name
returns-in_err-name c = rw c.from_residual.ensures (search-none (λ name. bad_element name) may_keep c.args.names.now c.in_err-name.ensures)

pub returns : goal.returns
returns c = search-some (λ name. bad_element name) may_keep c.args.names.now c.in_ok-name.name.now c.element_fault.result c.in_ok-name.ensures c.element_fault.ensures
