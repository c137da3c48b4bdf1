use Rattle.std.proofs.Common.{subst, sym, true≢false, ◌∙◌, ◌++◌, ◌∷◌, [], List, ℕ}
use Rattle.dom_select.specs.Selected.{FiltersTo}
use Rattle.dom_select.proofs.FilterLemmas.{leaves_last, filters_last}
use Rattle.dom_index.specs.Tracks.{IsReached}
use Rattle.dom_index.proofs.FlagLemmas.{both_ways}
use Rattle.dom_index.proofs.streaming.select_among.Goals as goal

pub loop-id-preserved-then-not-branch : goal.loop-id-preserved-then-not-branch
loop-id-preserved-then-not-branch g c =
    let P = IsReached c.args.chains.now c.args.tree.now in
    let both = both_ways c.in_ok-is_selected.field-0 (P c.in-Some.id) c.in_ok-is_selected.ensures.is in
    record {
      following = c.in_ok-is_selected.ensures.following;
      so_far = leaves_last P c.loop-id.yielded c.loop-id.matched.items c.in-Some.id (λ p. true≢false (sym (both.1 p) ∙ c.if-not-branch.true)) c.loop-id.invariant.so_far;
    }

pub loop-id-preserved : goal.loop-id-preserved
loop-id-preserved g c =
    let n = c.in-Some.id in
    let P = IsReached c.args.chains.now c.args.tree.now in
    let both = both_ways c.in_ok-is_selected.field-0 (P n) c.in_ok-is_selected.ensures.is in
    record {
      following = c.in_ok-is_selected.ensures.following;
      so_far = subst (λ (ns : List ℕ). FiltersTo P (c.loop-id.yielded ++ n ∷ []) ns) {x = c.loop-id.matched.items ++ n ∷ []} (sym c.in_ok-push.ensures.items) (filters_last P c.loop-id.yielded c.loop-id.matched.items n (both.0 c.if-not-branch.false) c.loop-id.invariant.so_far);
    }
