use Rattle.dom_article.specs.Found.{one, three, two}
use Rattle.dom_article.proofs.finding.found_in.Goals as goal

pub returns-then-first : goal.returns-then-first
returns-then-first c = one c.in_ok-first.first c.in_ok-first.ensures c.if-first.true

pub returns-then-second : goal.returns-then-second
returns-then-second c = two c.in_ok-first.first c.in_ok-second.second c.in_ok-first.ensures c.if-first.false c.in_ok-second.ensures c.if-second.true

pub returns : goal.returns
returns c = three c.in_ok-first.first c.in_ok-second.second c.in_ok-third.third c.in_ok-first.ensures c.if-first.false c.in_ok-second.ensures c.if-second.false c.in_ok-third.ensures
