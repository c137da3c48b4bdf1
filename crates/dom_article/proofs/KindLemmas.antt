-- The kinds that are kept.
use Rattle.std.proofs.Common.{ℕ, zero, suc, ◌≡◌, ◌<◌, ◌⊎◌, ◌∙◌, true≢false, Option, None, Some, List, [], ◌∷◌, inl, inr, refl, sym, ap, subst, get_or, set}
use Rattle.std.specs.Prelude.{◌==◌, slice_index_or}
use Rattle.std.specs.Option.{option_map_or}
use Rattle.std.proofs.lemmas.Bool.{cases_Bool, eq-eqb, eqb-true}
use Rattle.std.proofs.lemmas.List.{get_or-set_other}
use Rattle.dom_nodes.specs.KnownNames.{known_name}
use Rattle.dom_article.specs.Names.{kind_of}
use Rattle.dom_article.specs.declared.kinds.Kind.{Kind}

-- A place that is changed has the new value, or is none of the list's.
got : (xs : List (Option Kind)) (n : ℕ) (x : Option Kind) → (get_or (set xs n x) n None ≡ x) ⊎ (get_or (set xs n x) n None ≡ get_or xs n None)
got [] zero x = inr refl
got [] (suc n) x = inr refl
got (y ∷ ys) zero x = inl refl
got (y ∷ ys) (suc n) x = got ys n x

same_or_not : (a b : ℕ) → (a ≡ b) ⊎ (a ≡ b → ⊥)
same_or_not a b = elim (cases_Bool (a == b)) [ inl t ↦ inl (eqb-true a b t) | inr f ↦ inr (λ e. true≢false (sym (eq-eqb a b e) ∙ f)) ]

pub kept_kinds : (old new : List (Option Kind)) (n : ℕ) (kind : Kind) (name : List ℕ) → new ≡ set old n (Some kind) → known_name n ≡ name → kind ≡ kind_of name →
    ((m : ℕ) (other : Kind) → m < 247 → slice_index_or old m None ≡ Some other → other ≡ kind_of (known_name m)) →
    (m : ℕ) (other : Kind) → m < 247 → slice_index_or new m None ≡ Some other → other ≡ kind_of (known_name m)
kept_kinds old new n kind name is_new known is_kind each m other small is =
    let at_m : get_or (set old n (Some kind)) m None ≡ Some other = sym (ap (λ (ks : List (Option Kind)). get_or ks m None) is_new) ∙ is in
    elim (same_or_not m n) [
      | inl e ↦ (let at_n : get_or (set old n (Some kind)) n None ≡ Some other = subst (λ (k : ℕ). get_or (set old n (Some kind)) k None ≡ Some other) e at_m in
          elim (got old n (Some kind)) [
            | inl here ↦ (let same : kind ≡ other = ap (λ (o : Option Kind). option_map_or (λ k. k) o kind) (sym here ∙ at_n) in
                sym same ∙ (is_kind ∙ ap (λ ks. kind_of ks) (sym known ∙ ap known_name (sym e))))
            | inr there ↦ each m other small (subst (λ (k : ℕ). get_or old k None ≡ Some other) (sym e) (sym there ∙ at_n))
          ])
      | inr apart ↦ each m other small (sym (get_or-set_other old n m (Some kind) None apart) ∙ at_m)
    ]
