use Rattle.std.proofs.Common.{Some}
use Rattle.dom_query.proofs.Driving.{report-begun}
use Rattle.dom_query.proofs.driver.drive.Goals as goal

pub returns-in-Err-clause-drove : goal.returns-in-Err-clause-drove
returns-in-Err-clause-drove g c = record {
  fault = Some c.in-Err.fault;
  status_is = c.status_of_fault.ensures;
  reports = report-begun _ _ c.report.result _ c.report.ensures;
  stopped = c.in-Err.ensures.cause;
  begun = c.in-Err.ensures.begun;
}
