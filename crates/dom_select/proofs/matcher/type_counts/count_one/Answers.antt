use Rattle.std.proofs.Common.{rules}
use Rattle.dom_select.proofs.types.TypeCountLemmas.{count_set}
use Rattle.dom_select.proofs.matcher.type_counts.count_one.Goals as goal

pub returns-in-Ok : goal.returns-in-Ok
returns-in-Ok c = (search rules, λ other. count_set c.args.counts.now c.insert.new.self c.args.name other c.in_ok-count.count (c.in-Ok.ensures.updates.0 other))
