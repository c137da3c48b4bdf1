use Rattle.page_tokens.proofs.NameLemmas.{below_inside, below_past}
use Rattle.page_tokens.proofs.named_references.is_below.Goals as goal

pub returns-then-place-name : goal.returns-then-place-name
returns-then-place-name c = below_inside c.args.place c.args.letter _ _ _ c.name-name.ensures c.if-place-name.true c.from.ensures

pub returns-else-place-name : goal.returns-else-place-name
returns-else-place-name c = below_past c.args.place c.args.letter _ _ c.name-name.ensures c.if-place-name.false
