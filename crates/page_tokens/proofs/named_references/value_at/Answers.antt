use Rattle.std.proofs.Common.{refl}
use Rattle.page_tokens.proofs.SortedNames.{first_scalar, second_scalar, value-is}
use Rattle.page_tokens.proofs.named_references.value_at.Goals as goal

pub value_of-requires-clause-first : goal.value_of-requires-clause-first
value_of-requires-clause-first c = first_scalar c.args.index _ c.requires refl

pub value_of-requires-clause-second : goal.value_of-requires-clause-second
value_of-requires-clause-second c = second_scalar c.args.index _ c.requires refl

pub returns : goal.returns
returns c = value-is c.args.index _ _ _ refl refl c.value_of.ensures
