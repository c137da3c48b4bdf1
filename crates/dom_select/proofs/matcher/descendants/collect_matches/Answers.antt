use Rattle.std.proofs.Common.{subst, sym, ◌∙◌, ◌++◌, ◌∷◌, [], List, ℕ}
use Rattle.std.specs.Iterator.{Yields}
use Rattle.dom_links.specs.Forest.{Forest}
use Rattle.dom_select.specs.Descendants.{IsMatch}
use Rattle.dom_select.specs.Selected.{FiltersTo}
use Rattle.dom_select.proofs.FilterLemmas.{leaves_last, filters_last}
use Rattle.dom_select.proofs.matcher.descendants.collect_matches.Goals as goal

pub loop-id-preserved-then-not-is_match_of_types : goal.loop-id-preserved-then-not-is_match_of_types
loop-id-preserved-then-not-is_match_of_types g c = record {
  kept = c.is_match_of_types.ensures.same ∙ c.loop-id.invariant.kept;
  so_far =
      let n = c.in-Some.id in
      let other = subst (λ (forest : Forest). IsMatch c.args.matcher.now forest n → ⊥) c.loop-id.invariant.kept c.if-not-is_match_of_types.ensures.is in
      leaves_last (IsMatch c.args.matcher.now c.args.tree.now) c.loop-id.yielded c.loop-id.matched.items n other c.loop-id.invariant.so_far;
}

pub loop-id-preserved : goal.loop-id-preserved
loop-id-preserved g c = record {
  kept = c.is_match_of_types.ensures.same ∙ c.loop-id.invariant.kept;
  so_far =
      let n = c.in-Some.id in
      let P = IsMatch c.args.matcher.now c.args.tree.now in
      let meant : P n = subst (λ (forest : Forest). IsMatch c.args.matcher.now forest n) c.loop-id.invariant.kept c.if-not-is_match_of_types.ensures.is in
      subst (λ (ns : List ℕ). FiltersTo P (c.loop-id.yielded ++ n ∷ []) ns) {x = c.loop-id.matched.items ++ n ∷ []} (sym c.in_ok-push.ensures.items) (filters_last P c.loop-id.yielded c.loop-id.matched.items n meant c.loop-id.invariant.so_far);
}

pub returns : goal.returns
returns g c =
    let yields = subst (λ (it : g.row.I.Denot). Yields g.I.Iterator.next_gives it c.loop-id.yielded c.loop-id.id-iterator) c.into_iter-id-iterator.ensures.into_iter_gives c.loop-id.yielded_by in
    (c.loop-id.yielded, (c.next.new.self, (c.loop-id.id-iterator, yields, c.in-None.ensures.steps)), c.loop-id.invariant.so_far)
