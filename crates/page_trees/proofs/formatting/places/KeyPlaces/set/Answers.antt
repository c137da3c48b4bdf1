use Rattle.std.proofs.Common.{ℕ, List, ◌≡◌, length, sym, ◌∙◌, ap, subst, refl}
use Rattle.std.specs.Prelude.{slice_set}
use Rattle.page_trees.specs.KeyPlaces.{AreRanked, keys_of}
use Rattle.page_trees.specs.declared.formatting.places.Ranked.{Ranked}
use Rattle.page_trees.proofs.KeyLemmas.{got_at, keys_set, ranked_more, ranked_set, set_same}
use Rattle.page_trees.proofs.RankLemmas.{extends_inserted, extends_same, other_key_stays, stays_removed}
use Rattle.page_trees.proofs.formatting.places.KeyPlaces.set.Goals as goal

pub invariant_of-self-in_err-insert : goal.invariant_of-self-in_err-insert
invariant_of-self-in_err-insert c =
    subst (λ (rows : List Ranked). AreRanked rows c.insert.new.self) (sym (set_same c.self.inside.rows.items c.args.place c.in-Some.row.now (got_at c.self.inside.rows.items c.args.place c.in-Some.row.now c.in-Some.ensures.item.3.0 c.in-Some.ensures.item.1)))
    (ranked_more c.self.inside.rows.items c.self.inside.ranks c.insert.new.self
    (extends_same c.self.inside.ranks c.insert.new.self c.in_err-insert.ensures.err) c.self.invariant)

pub invariant_of-self-then-old-key : goal.invariant_of-self-then-old-key
invariant_of-self-then-old-key c =
    ranked_set c.self.inside.rows.items c.args.place c.in-Some.row.now (record { key = c.args.key; rank = c.in-Some.row.now.rank }) c.self.inside.ranks
    c.remove.new.self (got_at c.self.inside.rows.items c.args.place c.in-Some.row.now c.in-Some.ensures.item.3.0 c.in-Some.ensures.item.1) refl
    (other_key_stays c.insert.new.self c.remove.new.self (c.in-Some.row.now.key, c.in-Some.row.now.rank) c.remove.ensures.updates c.args.key
    c.in-Some.row.now.rank c.if-old-key.true c.in_ok-insert.ensures.updates.1)
    (λ key rank apart there. stays_removed c.insert.new.self c.remove.new.self (c.in-Some.row.now.key, c.in-Some.row.now.rank)
    c.remove.ensures.updates key rank apart (extends_inserted c.self.inside.ranks c.insert.new.self (c.args.key, c.in-Some.row.now.rank)
    c.in_ok-insert.ensures.updates key rank there))
    c.self.invariant

pub invariant_of-self-else-old-key : goal.invariant_of-self-else-old-key
invariant_of-self-else-old-key c =
    ranked_set c.self.inside.rows.items c.args.place c.in-Some.row.now (record { key = c.args.key; rank = c.in-Some.row.now.rank }) c.self.inside.ranks
    c.insert.new.self (got_at c.self.inside.rows.items c.args.place c.in-Some.row.now c.in-Some.ensures.item.3.0 c.in-Some.ensures.item.1) refl c.in_ok-insert.ensures.updates.1
    (λ key rank apart there. extends_inserted c.self.inside.ranks c.insert.new.self (c.args.key, c.in-Some.row.now.rank)
    c.in_ok-insert.ensures.updates key rank there)
    c.self.invariant

pub returns-then-old-key : goal.returns-then-old-key
returns-then-old-key c =
    keys_set c.self.inside.rows.items c.args.place (record { key = c.args.key; rank = c.in-Some.row.now.rank })
    ∙ ap (λ ks. slice_set ks c.args.place c.args.key) c.self.view_is

pub returns-else-old-key : goal.returns-else-old-key
returns-else-old-key c =
    keys_set c.self.inside.rows.items c.args.place (record { key = c.args.key; rank = c.in-Some.row.now.rank })
    ∙ ap (λ ks. slice_set ks c.args.place c.args.key) c.self.view_is
