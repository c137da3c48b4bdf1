use Rattle.dom_article.proofs.FoundLemmas.{taken_by}
use Rattle.dom_article.proofs.finding.found_for.Goals as goal

pub returns : goal.returns
returns c = taken_by c.args.page.now c.in_ok-found.field-0 c.in-Some.found c.leave_out_title.new.self.root c.in_ok-found.ensures c.in-Some.is c.leave_out_title.ensures
