use Rattle.page_tokens.proofs.LongestNames.{is_longest_nothing}
use Rattle.page_tokens.proofs.tokenizer.named.Match.new.Goals as goal

pub invariant_of-result : goal.invariant_of-result
invariant_of-result c = record { longest = is_longest_nothing _ c.all.ensures }
