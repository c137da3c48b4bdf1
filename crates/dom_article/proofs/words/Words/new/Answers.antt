use Rattle.std.proofs.Common.{ℕ, ◌≡◌, arith, map, rules, subst}
use Rattle.dom_article.specs.Words.{IsIndexTo, pair_at, table}
use Rattle.dom_article.proofs.WordLemmas.{none_indexed}
use Rattle.dom_article.proofs.words.Words.new.Goals as goal

pub loop-at-init : goal.loop-at-init
loop-at-init c = none_indexed (map pair_at table) _ _ (search rules) (search rules)

pub returns : goal.returns
returns c =
    let end : c.loop-at.at ≡ 118 = omega arith in
    subst (λ (n : ℕ). IsIndexTo (map pair_at table) n c.loop-at.words.starts.items c.loop-at.words.ends.items) end c.loop-at.invariant
