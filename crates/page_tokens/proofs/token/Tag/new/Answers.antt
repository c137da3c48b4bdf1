use Rattle.std.proofs.Common.{refl}
use Rattle.page_tokens.proofs.AttributeLemmas.{folded-folded, length-folded}
use Rattle.page_tokens.proofs.token.Tag.new.Goals as goal

pub invariant_of-result : goal.invariant_of-result
invariant_of-result c = record {
  not_empty = rw (c.make_ascii_lowercase.ensures.bytes, c.in_ok-folded.ensures.ok, length-folded) c.requires;
  folded = rw c.make_ascii_lowercase.ensures.bytes (folded-folded _);
  distinct = rw c.new.ensures.items refl;
}
