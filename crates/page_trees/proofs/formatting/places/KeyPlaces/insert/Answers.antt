use Rattle.std.proofs.Common.{ℕ, List, ◌≡◌, ◌≤◌, length, sym, subst, ◌∙◌, ap, arith}
use Rattle.page_trees.specs.KeyPlaces.{AreRanked, FitsAt, keys_of}
use Rattle.page_trees.specs.declared.formatting.places.Ranked.{Ranked}
use Rattle.page_trees.proofs.KeyLemmas.{keys_inserted, length_keys, ranked_more, ranked_with}
use Rattle.page_trees.proofs.RankLemmas.{extends_inserted, extends_same}
use Rattle.page_trees.proofs.formatting.places.KeyPlaces.insert.Goals as goal

pub invariant_of-self : goal.invariant_of-self
invariant_of-self c =
    ranked_more c.self.inside.rows.items c.self.inside.ranks c.insert.new.self
    (extends_same c.self.inside.ranks c.insert.new.self c.in_err-insert.ensures.err) c.self.invariant

pub invariant_of-self-in_err-insert-2 : goal.invariant_of-self-in_err-insert-2
invariant_of-self-in_err-insert-2 c =
    rw c.in_err-insert-2.ensures.items (ranked_more c.self.inside.rows.items c.self.inside.ranks c.insert.new.self
    (extends_inserted c.self.inside.ranks c.insert.new.self (c.args.key, c.in-Some.rank) c.in_ok-insert.ensures.updates) c.self.invariant)

pub invariant_of-self-2 : goal.invariant_of-self-2
invariant_of-self-2 c =
    let le : c.args.place ≤ length c.self.inside.rows.items =
    (let req = c.requires in let long = length_keys c.self.inside.rows.items in let view = ap length c.self.view_is in omega (arith, req, long, view)) in
    rw c.in_ok-insert-2.ensures.items (ranked_with c.self.inside.rows.items c.args.place (record { key = c.args.key; rank = c.in-Some.rank })
    c.insert.new.self le (subst (λ (rows : List Ranked). FitsAt rows c.args.place c.in-Some.rank) c.as_slice.ensures.value c.in-Some.ensures) c.in_ok-insert.ensures.updates.1
    (ranked_more c.self.inside.rows.items c.self.inside.ranks c.insert.new.self
    (extends_inserted c.self.inside.ranks c.insert.new.self (c.args.key, c.in-Some.rank) c.in_ok-insert.ensures.updates) c.self.invariant))
