use Rattle.std.proofs.Common.{map}
use Rattle.dom_article.specs.Words.{IsIndexTo, pair_at, table}
use Rattle.dom_article.proofs.words.Words.new.Given as goal

-- the words so far are in the index
abbrev pub invariant-loop-at : goal.invariant-loop-at
invariant-loop-at l = IsIndexTo (map pair_at table) l.at l.words.starts.items l.words.ends.items
