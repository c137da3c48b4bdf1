use Rattle.std.proofs.Common.{ℕ, List, ◌≡◌, length, sym, ◌∙◌, ap, subst}
use Rattle.std.specs.Prelude.{take}
use Rattle.page_trees.specs.KeyPlaces.{AreRanked, keys_of, last_key}
use Rattle.page_trees.specs.declared.formatting.places.Ranked.{Ranked}
use Rattle.page_trees.proofs.KeyLemmas.{keys_taken, ranked_front}
use Rattle.page_trees.proofs.formatting.places.KeyPlaces.last_before.Goals as goal

pub last_in-requires : goal.last_in-requires
last_in-requires c =
    ranked_front c.as_slice.result.now c.args.place c.self.inside.ranks
    (subst (λ (rows : List Ranked). AreRanked rows c.self.inside.ranks) (sym c.as_slice.ensures.value) c.self.invariant)

pub returns : goal.returns
returns c within =
    c.last_in.ensures ∙ ap (last_key c.args.key) (keys_taken c.args.place c.as_slice.result.now
    ∙ ap (λ (rows : List Ranked). take c.args.place (keys_of rows)) c.as_slice.ensures.value ∙ ap (take c.args.place) c.self.view_is)
