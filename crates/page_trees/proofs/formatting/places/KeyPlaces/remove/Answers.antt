use Rattle.std.proofs.Common.{ℕ, ◌≡◌, ◌<◌, length, sym, ◌∙◌, ap, arith}
use Rattle.std.specs.Prelude.{remove}
use Rattle.page_trees.specs.KeyPlaces.{keys_of}
use Rattle.page_trees.proofs.KeyLemmas.{got_at, keys_removed, length_keys, ranked_without}
use Rattle.page_trees.proofs.RankLemmas.{stays_removed}
use Rattle.page_trees.proofs.formatting.places.KeyPlaces.remove.Goals as goal

pub invariant_of-self : goal.invariant_of-self
invariant_of-self c =
    let less : c.args.place < length c.self.inside.rows.items =
    (let req = c.requires in let long = length_keys c.self.inside.rows.items in let view = ap length c.self.view_is in omega (arith, req, long, view)) in
    rw c.remove-gone.ensures.items (ranked_without c.self.inside.rows.items c.args.place c.remove-gone.result c.self.inside.ranks c.remove.new.self
    (got_at c.self.inside.rows.items c.args.place c.remove-gone.result less c.remove-gone.ensures.value)
    (stays_removed c.self.inside.ranks c.remove.new.self (c.remove-gone.result.key, c.remove-gone.result.rank) c.remove.ensures.updates)
    c.self.invariant)

pub returns : goal.returns
returns c = ap keys_of c.remove-gone.ensures.items ∙ keys_removed c.self.inside.rows.items c.args.place ∙ ap (λ ks. remove ks c.args.place) c.self.view_is
