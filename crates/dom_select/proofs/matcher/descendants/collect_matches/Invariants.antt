use Rattle.std.proofs.Common.{◌≡◌}
use Rattle.dom_select.specs.Descendants.{IsMatch}
use Rattle.dom_select.specs.Selected.{FiltersTo}
use Rattle.dom_select.proofs.matcher.descendants.collect_matches.Given as goal

abbrev pub invariant-loop-id : goal.invariant-loop-id
invariant-loop-id g l = record {
  kept : l.caches ≡ l.tree;
  so_far : FiltersTo (IsMatch l.matcher l.tree) l.yielded l.matched.items;
}
