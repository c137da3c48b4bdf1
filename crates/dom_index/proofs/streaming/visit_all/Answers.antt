use Rattle.std.proofs.Common.{◌∙◌, arith, subst, sym, true≢false}
use Rattle.dom_index.specs.declared.chains.Chain.{Chain}
use Rattle.dom_index.specs.Tracks.{IsFollowing, Reaches}
use Rattle.dom_index.proofs.FlagLemmas.{both_ways}
use Rattle.dom_index.proofs.PlainLemmas.{following_one, following_set, none_here, some_here}
use Rattle.dom_index.proofs.streaming.visit_all.Goals as goal

pub returns-then-branch-clause-is : goal.returns-then-branch-clause-is
returns-then-branch-clause-is c =
    let visited = c.args.visited.now in
    let one = c.index-chains-i.result in
    let held = (both_ways c.in_ok-visit.field-0 (Reaches one visited.tree.now visited.id) c.in_ok-visit.ensures.is).0 c.if-branch.true in
    some_here c.args.chains.now c.loop-i.i one visited.tree.now visited.id (omega arith) (subst (λ (k : Chain). Reaches k visited.tree.now visited.id) c.index-chains-i.is held)

pub returns-then-branch-clause-following : goal.returns-then-branch-clause-following
returns-then-branch-clause-following c =
    let visited = c.args.visited.now in
    let followed = subst (λ (k : Chain). IsFollowing k c.visit.new.rows visited.tree.now c.visit.new.shared.caches) c.index-chains-i.is c.in_ok-visit.ensures.following in
    following_set c.args.chains.now c.loop-i.rows.items c.loop-i.i c.index-chains-i.result c.visit.new.rows visited.tree.now c.loop-i.shared.caches c.visit.new.shared.caches (omega arith) c.loop-i.invariant.following followed

pub loop-i-preserved : goal.loop-i-preserved
loop-i-preserved c =
    let visited = c.args.visited.now in
    let one = c.index-chains-i.result in
    let followed = subst (λ (k : Chain). IsFollowing k c.visit.new.rows visited.tree.now c.visit.new.shared.caches) c.index-chains-i.is c.in_ok-visit.ensures.following in
    let answer = subst (λ (k : Chain). Reaches k visited.tree.now visited.id → ⊥) c.index-chains-i.is (λ r. true≢false (sym ((both_ways c.in_ok-visit.field-0 (Reaches one visited.tree.now visited.id) c.in_ok-visit.ensures.is).1 r) ∙ c.if-branch.false)) in
    record {
      following = following_set c.args.chains.now c.loop-i.rows.items c.loop-i.i one c.visit.new.rows visited.tree.now c.loop-i.shared.caches c.visit.new.shared.caches (omega arith) c.loop-i.invariant.following followed;
      none = none_here c.args.chains.now c.loop-i.i one visited.tree.now visited.id (omega arith) c.loop-i.invariant.none answer;
    }

pub visit-requires : goal.visit-requires
visit-requires c =
    let visited = c.args.visited.now in
    subst (λ (k : Chain). IsFollowing k c.index_mut.result.now visited.tree.now c.loop-i.shared.caches) (sym c.index-chains-i.is)
    (following_one c.args.chains.now c.loop-i.rows.items c.loop-i.i c.index-chains-i.result c.index_mut.result.now visited.tree.now c.loop-i.shared.caches c.loop-i-test.true c.index_mut.ensures.value c.loop-i.invariant.following)

pub returns-in_err-visit-clause-following : goal.returns-in_err-visit-clause-following
returns-in_err-visit-clause-following c =
    let visited = c.args.visited.now in
    let followed = subst (λ (k : Chain). IsFollowing k c.visit.new.rows visited.tree.now c.visit.new.shared.caches) c.index-chains-i.is c.in_err-visit.ensures.following in
    following_set c.args.chains.now c.loop-i.rows.items c.loop-i.i c.index-chains-i.result c.visit.new.rows visited.tree.now c.loop-i.shared.caches c.visit.new.shared.caches (omega arith) c.loop-i.invariant.following followed
