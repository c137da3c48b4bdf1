use Rattle.std.proofs.Common.{◌≡◌, length, replicate, true, false}
use Rattle.dom_links.specs.Forest.{forest_of}
use Rattle.dom_mini.specs.PathFlags.{IsSearch, found_by, led_from, to_visit}
use Rattle.dom_mini.proofs.mini_selector.search.follow.Given as goal

abbrev pub invariant-loop-id : goal.invariant-loop-id
invariant-loop-id l = record {
  search : IsSearch (forest_of l.nodes) l.path l.search;
  found : found_by (forest_of l.nodes) l.path l.search ≡ led_from (forest_of l.nodes) l.path true (replicate (length l.path) false) l.fn.start;
}

abbrev pub decreases-loop-id : goal.decreases-loop-id
decreases-loop-id l = to_visit (forest_of l.nodes) l.search.pending.items
