use Rattle.page_tokens.proofs.SortedNames.{ordered_at, within_at, part_is_name}
use Rattle.page_tokens.proofs.named_references.name.Goals as goal

pub part-requires-clause-ordered : goal.part-requires-clause-ordered
part-requires-clause-ordered c = ordered_at c.args.index _ _ c.requires c.from-start.ensures c.from-end.ensures

pub part-requires-clause-within : goal.part-requires-clause-within
part-requires-clause-within c = within_at c.args.index _ c.requires c.from-end.ensures

pub returns : goal.returns
returns c = part_is_name c.args.index _ _ _ c.from-start.ensures c.from-end.ensures c.part.ensures
