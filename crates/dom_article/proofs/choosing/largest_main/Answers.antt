use Rattle.std.proofs.Common.{ℕ, ◌≡◌, ◌<◌, ◌+◌, ◌∙◌, Bool, cond, List, Option, Some, sym, ap, subst, arith, length, take, get_or}
use Rattle.dom_article.specs.Best.{IsBestOf}
use Rattle.dom_article.specs.Chosen.{is_main_at, size_at}
use Rattle.dom_article.proofs.BestLemmas.{best_next}
use Rattle.dom_article.proofs.choosing.largest_main.Goals as goal
use Rattle.dom_article.proofs.choosing.largest_main.Goals.{then-is_larger, else-is_larger}

pub loop-id-preserved : goal.loop-id-preserved
loop-id-preserved c =
    let page = c.args.page.now in
    let round = c.args.round.now in
    let ns = page.order.items in
    let i = c.loop-id.id-index in
    let n = c.id-item.result in
    let old = c.loop-id.largest in
    let inside : i < length ns = (let e = ap length c.deref-id-items.ensures.value in omega arith) in
    let is : n ≡ get_or ns i n = subst (λ (xs : List ℕ). n ≡ get_or xs i n) c.deref-id-items.ensures.value c.id-item.is in
    let next = best_next (is_main_at page round) (size_at round) ns i n old inside is c.loop-id.invariant in
    elim c.if-is_larger.branch [
      | then-is_larger w ↦ subst (λ (best : Option ℕ). IsBestOf (is_main_at page round) (size_at round) (take (i + 1) ns) best)
          (ap (λ (b : Bool). cond b (Some n) old) (sym c.is_larger.ensures ∙ w.if-is_larger.true) ∙ sym w.largest-is) next
      | else-is_larger w ↦ subst (λ (best : Option ℕ). IsBestOf (is_main_at page round) (size_at round) (take (i + 1) ns) best)
          (ap (λ (b : Bool). cond b (Some n) old) (sym c.is_larger.ensures ∙ w.if-is_larger.false) ∙ sym w.largest-is) next
    ]
