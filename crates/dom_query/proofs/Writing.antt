-- Texts of nodes, joined, of which a beginning was written.
use Rattle.std.proofs.Common.{◌≡◌, ◌<◌, ◌≤◌, ◌+◌, ℕ, List, [], ◌++◌, Option, sym, ◌∙◌, ap, append_assoc, append-nil, take, drop, length, get_or, subst}
use Rattle.std.proofs.lemmas.List.{take_all}
use Rattle.std.specs.List.{flat_map}
use Rattle.std.specs.Io.KnownBytes.{Appends}
use Rattle.dom_markup.specs.Writing.{AppendsBeginning}
use Rattle.dom_markup.proofs.html.WritingLemmas.{beginning-more, beginning-then, fault-first, flat_map-split}

-- a whole text is a beginning of itself
pub whole-begun : (a b : Option (List ℕ)) (text : List ℕ) → Appends a b text → AppendsBeginning a b text
whole-begun a b text written = record { front = text; back = []; whole = append-nil text; written = written }

module _ (f : ℕ → List ℕ) (ns : List ℕ) (k n : ℕ) (within : k < length ns) (is : n ≡ get_or ns k n) (a b c : Option (List ℕ)) (end : List ℕ) where
  -- the texts before that of one node, and that one
  split : (flat_map f (take k ns) ++ f n) ++ (flat_map f (drop (k + 1) ns) ++ end) ≡ flat_map f ns ++ end
  split =
      sym (append_assoc (flat_map f (take k ns) ++ f n) (flat_map f (drop (k + 1) ns)) end)
      ∙ ap (λ xs. xs ++ end) (ap (λ m. (flat_map f (take k ns) ++ f m) ++ flat_map f (drop (k + 1) ns)) is ∙ sym (flat_map-split f ns k n within))

  -- the texts of the first nodes were written, and no more
  pub joined-so_far : Appends a b (flat_map f (take k ns)) → AppendsBeginning a b (flat_map f ns ++ end)
  joined-so_far written = fault-first a b _ _ _ (beginning-more a b (flat_map f (take k ns)) (f n) (whole-begun a b (flat_map f (take k ns)) written)) split

  -- then a beginning of the next one's was
  pub joined-next : (text : List ℕ) → text ≡ f n → Appends a b (flat_map f (take k ns)) → AppendsBeginning b c text → AppendsBeginning a c (flat_map f ns ++ end)
  joined-next text so written begun = fault-first a c _ _ _ (beginning-then a b c (flat_map f (take k ns)) (f n) written (subst (AppendsBeginning b c) so begun)) split

-- all the texts were written, and then a beginning of what follows them
pub joined-all : (f : ℕ → List ℕ) (ns : List ℕ) (k : ℕ) → length ns ≤ k → (a b c : Option (List ℕ)) (end : List ℕ)
    → Appends a b (flat_map f (take k ns)) → AppendsBeginning b c end → AppendsBeginning a c (flat_map f ns ++ end)
joined-all f ns k past a b c end written begun =
    subst (λ ms. AppendsBeginning a c (flat_map f ms ++ end)) (take_all k ns past) (beginning-then a b c (flat_map f (take k ns)) end written begun)
