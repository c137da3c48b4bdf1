-- Marking one node more.
use Rattle.std.proofs.Common.{◌≡◌, ◌<◌, ◌==◌, ℕ, List, ◌∷◌, Bool, true, false, true≢false, inl, inr, refl, sym, ◌∙◌, subst, length, set, replicate, get_or, None, arith}
use Rattle.std.proofs.lemmas.List.{get_or-replicate, length-replicate, get_or-set_other, get_or-set_same, get_or_past}
use Rattle.std.proofs.lemmas.Bool.{cases_lt, cases_Bool, cases_eq, eq-eqb}
use Rattle.std.proofs.lemmas.Option.{same_Some, none-some}
use Rattle.dom_links.specs.Forest.{Forest, parent}
use Rattle.dom_links.specs.Laws.{AreLines}
use Rattle.dom_links.specs.Lists.{is_member}
use Rattle.dom_links.specs.Sound.{IsForest}
use Rattle.dom_links.specs.Trees.{ancestors, descendants_in_order}
use Rattle.dom_article.specs.Hidden.{IsHidden, hidden_at, itself, inside}
use Rattle.dom_article.specs.Pruned.{AreAmong, Gains, IsExtract, HasMarkedParent, HasNone, IsBelowMarked, IsPruned, NothingHidden, marked}

-- A node that has a marked parent, and isn't hidden itself, isn't hidden.
pub not_hidden : (forest : Forest) (marks : List Bool) (n : ℕ) → NothingHidden forest marks → hidden_at forest n ≡ false → HasMarkedParent forest marks n → IsHidden forest n → ⊥
not_hidden forest marks _ clean shown above (itself n is) = true≢false (sym is ∙ shown)
not_hidden forest marks _ clean shown above (inside p n up hidden) =
    clean p (subst (λ (q : ℕ). marked marks q ≡ true) (same_Some above.0 p (sym above.1 ∙ up)) above.2) hidden

pub hidden_gained : (forest : Forest) (old new : List Bool) (n : ℕ) → NothingHidden forest old → (IsHidden forest n → ⊥) → Gains n old new → NothingHidden forest new
hidden_gained forest old new n clean shown gains m is hidden =
    elim (gains.only m is) [ inl e ↦ shown (subst (IsHidden forest) e hidden) | inr was ↦ clean m was hidden ]

-- A node without a parent that isn't hidden itself isn't hidden.
top_shown : (forest : Forest) (n : ℕ) → hidden_at forest n ≡ false → parent forest n ≡ None → IsHidden forest n → ⊥
top_shown forest _ shown alone (itself n is) = true≢false (sym is ∙ shown)
top_shown forest _ shown alone (inside p n up hidden) = none-some p (sym alone ∙ up)

-- The root of a forest that isn't hidden itself isn't hidden.
pub root_shown : (forest : Forest) → IsForest forest → hidden_at forest 0 ≡ false → IsHidden forest 0 → ⊥
root_shown forest is shown hidden = top_shown forest 0 shown ((is.alone 0 is.rooted refl).0) hidden

-- Membership in a list with one more node in front.
member_first : (p r : ℕ) (ms : List ℕ) → p ≡ r → is_member r (p ∷ ms) ≡ true
member_first p r ms e = rw (eq-eqb p r e) refl

member_later : (p r : ℕ) (ms : List ℕ) → is_member r ms ≡ true → is_member r (p ∷ ms) ≡ true
member_later p r ms is = elim (cases_Bool (p == r)) [ inl t ↦ rw t refl | inr f ↦ rw f is ]

-- A node with a marked parent is below the root.
below_of : (forest : Forest) (root : ℕ) (marks : List Bool) (n : ℕ) → AreLines forest → IsPruned forest root marks → HasMarkedParent forest marks n → is_member n (descendants_in_order forest root) ≡ true
below_of forest root marks n lines pruned above =
    let p = above.0 in
    let among : is_member root (p ∷ ancestors forest p) ≡ true = elim (pruned p above.2) [ inl e ↦ member_first p root (ancestors forest p) e | inr b ↦ member_later p root (ancestors forest p) (sym (lines.below_above root p) ∙ b.below) ] in
    lines.below_above root n ∙ subst (λ (ms : List ℕ). is_member root ms ≡ true) (sym (lines.up n p above.1)) among

-- What was below the root with a marked parent still is.
still_below : (forest : Forest) (root : ℕ) (old new : List Bool) (n m : ℕ) → Gains n old new → IsBelowMarked forest root old m → IsBelowMarked forest root new m
still_below forest root old new n m gains b = record {
  below = b.below;
  parent_marked = (b.parent_marked.0, b.parent_marked.1, gains.all b.parent_marked.0 b.parent_marked.2);
}

-- A node may be marked whose parent is marked.
pub pruned_gained : (forest : Forest) (root : ℕ) (old new : List Bool) (n : ℕ) → AreLines forest → IsPruned forest root old → HasMarkedParent forest old n → Gains n old new → IsPruned forest root new
pruned_gained forest root old new n lines pruned above gains m is =
    elim (gains.only m is) [
      | inl e ↦ inr (subst (IsBelowMarked forest root new) (sym e) (record {
        below = below_of forest root old n lines pruned above;
        parent_marked = (above.0, above.1, gains.all above.0 above.2);
      }))
      | inr was ↦ elim (pruned m was) [ inl r ↦ inl r | inr b ↦ inr (still_below forest root old new n m gains b) ]
    ]

-- The root alone.
pub root_pruned : (forest : Forest) (root : ℕ) (old new : List Bool) → HasNone old → Gains root old new → IsPruned forest root new
root_pruned forest root old new none gains m is = elim (gains.only m is) [ inl e ↦ inl e | inr was ↦ absurd (none m was) ]

-- Marks among others.
pub among_gained : (old new others : List Bool) (n : ℕ) → AreAmong old others → marked others n ≡ true → Gains n old new → AreAmong new others
among_gained old new others n among other gains m is =
    elim (gains.only m is) [ inl e ↦ subst (λ (k : ℕ). marked others k ≡ true) (sym e) other | inr was ↦ among m was ]

pub none_among : (marks others : List Bool) → HasNone marks → AreAmong marks others
none_among marks others none n is = absurd (none n is)

pub none_pruned : (forest : Forest) (root : ℕ) (marks : List Bool) → HasNone marks → IsPruned forest root marks
none_pruned forest root marks none n is = absurd (none n is)

pub none_hidden : (forest : Forest) (marks : List Bool) → HasNone marks → NothingHidden forest marks
none_hidden forest marks none n is hidden = none n is

-- A list without marks has none.
pub has_none : (count : ℕ) (marks : List Bool) → marks ≡ replicate count false → HasNone marks
has_none count marks e n is = true≢false (sym is ∙ subst (λ (ms : List Bool). get_or ms n false ≡ false) (sym e) (none_at count n))
  where
    none_at : (count n : ℕ) → get_or (replicate count false) n false ≡ false
    none_at count n = elim (cases_lt n count) [ inl l ↦ get_or-replicate count n false false l | inr g ↦ get_or_past (replicate count false) n false (omega (arith, length-replicate count false)) ]

-- Setting a mark marks the node, and no other.
pub gains_set : (old : List Bool) (n : ℕ) → n < length old → Gains n old (set old n true)
gains_set old n known = record {
  only = λ m is. elim (cases_eq m n) [ inl e ↦ inl e | inr ne ↦ inr (sym (get_or-set_other old n m true false ne) ∙ is) ];
  all = λ m is. elim (cases_eq m n) [ inl e ↦ subst (λ (k : ℕ). marked (set old n true) k ≡ true) (sym e) (get_or-set_same old n true false known) | inr ne ↦ get_or-set_other old n m true false ne ∙ is ];
}

-- A node that there isn't a mark for isn't marked.
pub gains_past : (old : List Bool) (n : ℕ) → Gains n old old
gains_past old n = record { only = λ m is. inr is; all = λ m is. is }

-- What is pruned, and marked among what is shown, is an extract.
pub extract_of : (forest : Forest) (root : ℕ) (marks others : List Bool) → NothingHidden forest others → IsPruned forest root marks → AreAmong marks others → IsExtract forest root marks
extract_of forest root marks others clean pruned among = record {
  pruned = pruned;
  shown = λ n is hidden. clean n (among n is) hidden;
}

pub none_extract : (forest : Forest) (root : ℕ) (marks : List Bool) → HasNone marks → IsExtract forest root marks
none_extract forest root marks none = record {
  pruned = none_pruned forest root marks none;
  shown = none_hidden forest marks none;
}
