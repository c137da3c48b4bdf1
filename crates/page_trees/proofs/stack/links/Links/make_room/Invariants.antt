use Rattle.std.proofs.Common.{ℕ, ◌≡◌, ◌+◌, ◌-◌, get_or, vec_len}
use Rattle.page_trees.proofs.stack.links.Links.make_room.Given as goal

abbrev pub invariant-loop-self : goal.invariant-loop-self
invariant-loop-self l = record {
  same : l.self.same.items ≡ l.initial.self.same.items;
  next : l.self.next.items ≡ l.initial.self.next.items;
  tops : (k : ℕ) → get_or l.self.tops.items k 0 ≡ get_or l.initial.self.tops.items k 0;
}

abbrev pub decreases-loop-self : goal.decreases-loop-self
decreases-loop-self l = l.key + 1 - vec_len l.self.tops
