use Rattle.std.proofs.Common.{arith, length, refl, subst, suc, ℕ, ◌+◌, ◌≡◌}
use Rattle.std.specs.Prelude.{take}
use Rattle.std.proofs.lemmas.Option.{slice_get_read}
use Rattle.page_trees.specs.Likeness.{AreKeysOf}
use Rattle.page_trees.specs.ListIndex.{AreIndexed, likes_in}
use Rattle.page_trees.proofs.IndexedLists.{indexed_next}
use Rattle.page_trees.proofs.LikeKeys.{keys_next}
use Rattle.page_trees.proofs.formatting.made_index.Goals as goal

pub loop-place-preserved : goal.loop-place-preserved
loop-place-preserved c =
    let got = slice_get_read c.args.entries.now (length c.args.entries.now) c.loop-place.place c.in-Some.entry.now refl c.in-Some.ensures.lookup.3.0 c.in-Some.ensures.lookup.1 in
    let next : suc c.loop-place.place ≡ c.loop-place.place + 1 = omega arith in
    record {
      indexed = subst (λ (n : ℕ). AreIndexed (take n c.args.entries.now) c.add.new.self) next
          (indexed_next c.args.entries.now c.loop-place.place c.in-Some.entry.now c.in_ok-likeness.likeness c.loop-place.index c.likeness_in.new.self
          c.add.new.self got c.loop-place.invariant.indexed c.likeness_in.ensures.ids c.likeness_in.ensures.names c.likeness_in.ensures.likes
          c.in-Ok.ensures.ids c.in-Ok.ensures.names c.in-Ok.ensures.likes);
      keys = subst (λ (n : ℕ). AreKeysOf c.args.tree.now (likes_in c.add.new.self).numbers (take n c.args.entries.now) c.add.new.self.likes) next
          (keys_next c.args.tree.now c.args.entries.now c.loop-place.place c.in-Some.entry.now c.in_ok-likeness.likeness c.loop-place.index
          c.likeness_in.new.self c.add.new.self got c.loop-place.invariant.keys c.likeness_in.ensures.likes c.in_ok-likeness.ensures.kept
          c.in_ok-likeness.ensures.number c.in-Ok.ensures.likes c.add.ensures.numbers);
    }
