use Rattle.dom_query.proofs.Statuses.{status-means}
use Rattle.dom_query.proofs.laws.status_determines_ending.Goals as goal

pub returns : goal.returns
returns c = status-means
