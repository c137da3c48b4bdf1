-- What is matched of numbers that come one after the other.
use Rattle.std.proofs.Common.{ℕ, ◌≡◌, List, [], ◌∷◌, ◌++◌, Bool, true, false, refl, sym, ap, ◌∙◌, subst, inl, inr}
use Rattle.std.specs.Iterator.{Drains, YieldsFirst}
use Rattle.dom_selectors.specs.Spelling.{Decides}
use Rattle.dom_select.specs.Selected.{FiltersTo, one_if}

module _ (P : ℕ → Type 0) where
  pub filters_last : (ns matched : List ℕ) (n : ℕ) → P n → FiltersTo P ns matched → FiltersTo P (ns ++ n ∷ []) (matched ++ n ∷ [])
  filters_last [] matched n p h = inl (p, [], ap (λ ms. ms ++ n ∷ []) h, refl)
  filters_last (m ∷ ns) matched n p h =
      elim h [
        | inl x ↦ inl (x.0, x.1 ++ n ∷ [], ap (λ ms. ms ++ n ∷ []) x.2, filters_last ns x.1 n p x.3)
        | inr x ↦ inr (x.0, filters_last ns matched n p x.1)
      ]

  pub leaves_last : (ns matched : List ℕ) (n : ℕ) → (P n → ⊥) → FiltersTo P ns matched → FiltersTo P (ns ++ n ∷ []) matched
  leaves_last [] matched n other h = inr (other, h)
  leaves_last (m ∷ ns) matched n other h =
      elim h [
        | inl x ↦ inl (x.0, x.1, x.2, leaves_last ns x.1 n other x.3)
        | inr x ↦ inr (x.0, leaves_last ns matched n other x.1)
      ]

  -- what is matched of two lists, one after the other
  pub filters_append : (ns ms one other : List ℕ) → FiltersTo P ns one → FiltersTo P ms other → FiltersTo P (ns ++ ms) (one ++ other)
  filters_append [] ms one other h r = subst (λ c. FiltersTo P ms (c ++ other)) (sym h) r
  filters_append (n ∷ ns) ms one other h r =
      elim h [
        | inl x ↦ inl (x.0, x.1 ++ other, ap (λ c. c ++ other) x.2, filters_append ns ms x.1 other x.3 r)
        | inr x ↦ inr (x.0, filters_append ns ms one other x.1 r)
      ]

  pub filters_one : (n : ℕ) (ns matched : List ℕ) (b : Bool) → Decides b (P n) → FiltersTo P ns matched → FiltersTo P (n ∷ ns) (one_if b n ++ matched)
  filters_one n ns matched true p h = inl (p, matched, refl, h)
  filters_one n ns matched false other h = inr (other, h)

  pub filters_none : (ns : List ℕ) → ((n : ℕ) → P n → ⊥) → FiltersTo P ns []
  filters_none [] other = refl
  filters_none (n ∷ ns) other = inr (other n, filters_none ns other)

  pub filters_same : (Q : ℕ → Type 0) (ns matched : List ℕ) → ((n : ℕ) → P n → Q n) → ((n : ℕ) → Q n → P n) → FiltersTo P ns matched → FiltersTo Q ns matched
  filters_same Q [] matched to from h = h
  filters_same Q (n ∷ ns) matched to from h =
      elim h [
        | inl x ↦ inl (to n x.0, x.1, x.2, filters_same Q ns x.1 to from x.3)
        | inr x ↦ inr ((λ q. x.0 (from n q)), filters_same Q ns matched to from x.1)
      ]

-- what calls give until nothing comes is what was left
pub drained : {S : Type 0} (rest : S → List ℕ) (s : S) (ns : List ℕ) → Drains (YieldsFirst rest) s ns → ns ≡ rest s
drained rest s [] d = sym (ap rest d.1.1 ∙ d.1.2.0)
drained rest s (n ∷ ns) d = let y = d.1.1 in ap (λ ms. n ∷ ms) (drained rest y.0 ns (d.0, (d.1.0, y.2, d.1.2))) ∙ sym y.1

-- what is matched of all that calls give is what is matched of what was left
pub filtered_of_all : (P : ℕ → Type 0) (left matched : List ℕ) (Gives : List ℕ → Type 0) → ((ns : List ℕ) → Gives ns → ns ≡ left) → (ns : List ℕ) × Gives ns × FiltersTo P ns matched → FiltersTo P left matched
filtered_of_all P left matched Gives all h = subst (λ ns. FiltersTo P ns matched) (all h.0 h.1) h.2
