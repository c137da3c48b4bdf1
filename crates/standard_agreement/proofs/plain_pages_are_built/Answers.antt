use Rattle.standard_agreement.proofs.Pages.{page_built}
use Rattle.standard_agreement.proofs.plain_pages_are_built.Goals as goal

pub returns : goal.returns
returns c = page_built
