use Rattle.std.proofs.Common.{ℕ, ◌≡◌, ◌<◌, ◌+◌, Bool, List, sym, ap, subst, arith, length, take, get_or}
use Rattle.dom_article.proofs.GoneLemmas.{LookedAt, looks_next}
use Rattle.dom_article.proofs.rounds.Gone.of.Goals as goal

pub loop-id-preserved : goal.loop-id-preserved
loop-id-preserved c =
    let page = c.args.page.now in
    let ns = page.order.items in
    let i = c.loop-id.id-index in
    let n = c.id-item.result in
    let inside : i < length ns = (let e = ap length c.deref-id-items.ensures.value in omega arith) in
    let is : n ≡ get_or ns i n = subst (λ (xs : List ℕ). n ≡ get_or xs i n) c.deref-id-items.ensures.value c.id-item.is in
    subst (λ (gone : List Bool). LookedAt page c.args.rules gone (take (i + 1) ns)) (sym c.look_at.ensures)
    (looks_next page c.args.rules c.loop-id.found.gone.items ns i n c.forest_laws.ensures.forest c.forest_laws.ensures.lines c.requires inside is c.loop-id.invariant)
