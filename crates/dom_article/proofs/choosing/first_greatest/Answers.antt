use Rattle.std.proofs.Common.{ℕ, ◌≡◌, ◌<◌, ◌+◌, ◌∙◌, Bool, cond, List, Option, Some, sym, ap, subst, arith, length, take, get_or}
use Rattle.dom_article.specs.Best.{IsBestOf, is_candidate, score_at}
use Rattle.dom_article.proofs.BestLemmas.{best_next}
use Rattle.dom_article.proofs.choosing.first_greatest.Goals as goal
use Rattle.dom_article.proofs.choosing.first_greatest.Goals.{then-beats, else-beats}

pub loop-id-preserved : goal.loop-id-preserved
loop-id-preserved c =
    let page = c.args.page.now in
    let round = c.args.round.now in
    let ns = page.order.items in
    let i = c.loop-id.id-index in
    let n = c.id-item.result in
    let old = c.loop-id.greatest in
    let inside : i < length ns = (let e = ap length c.deref-id-items.ensures.value in omega arith) in
    let is : n ≡ get_or ns i n = subst (λ (xs : List ℕ). n ≡ get_or xs i n) c.deref-id-items.ensures.value c.id-item.is in
    let next = best_next (is_candidate page round) (score_at round) ns i n old inside is c.loop-id.invariant in
    elim c.if-beats.branch [
      | then-beats w ↦ subst (λ (best : Option ℕ). IsBestOf (is_candidate page round) (score_at round) (take (i + 1) ns) best)
          (ap (λ (b : Bool). cond b (Some n) old) (sym c.beats.ensures ∙ w.if-beats.true) ∙ sym w.greatest-is) next
      | else-beats w ↦ subst (λ (best : Option ℕ). IsBestOf (is_candidate page round) (score_at round) (take (i + 1) ns) best)
          (ap (λ (b : Bool). cond b (Some n) old) (sym c.beats.ensures ∙ w.if-beats.false) ∙ sym w.greatest-is) next
    ]
