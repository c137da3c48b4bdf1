use Rattle.std.proofs.Common.{rules}
use Rattle.dom_clean.specs.Faults.Fault.{bad_scheme}
use Rattle.dom_clean.specs.Policy.{may_lead}
use Rattle.dom_clean.proofs.FaultTests.{search-none, search-some}
use Rattle.dom_clean.proofs.policy.fault_of_schemes.Goals as goal

pub returns-in_err-scheme : goal.returns-in_err-scheme
returns-in_err-scheme c = rw c.from_residual.ensures (search-none (λ name. bad_scheme name) may_lead c.args.schemes.now c.in_err-scheme.ensures)

pub returns : goal.returns
returns c = search-some (λ name. bad_scheme name) may_lead c.args.schemes.now c.in_ok-scheme.scheme.now c.scheme_fault.result c.in_ok-scheme.ensures c.scheme_fault.ensures
