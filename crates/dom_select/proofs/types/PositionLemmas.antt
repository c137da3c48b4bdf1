-- One index that is asked for, and counting siblings as far as it.
use Rattle.std.proofs.Common.{◌≡◌, ◌+◌, ℕ, Bool, Option, Some, None, inl, inr, refl, sym, ◌∙◌, arith, true≢false}
use Rattle.std.specs.Prelude.{◌==◌, IfSome, count_by}
use Rattle.std.proofs.lemmas.Bool.{cases_Bool, eqb-true, eq-eqb}
use Rattle.dom_nodes.specs.declared.indexes.Nth.{Nth}
use Rattle.dom_links.specs.Forest.{Forest}
use Rattle.dom_links.specs.Indexes.{IsNth}
use Rattle.dom_links.specs.Walk.{later, row_on}
use Rattle.dom_selectors.specs.Spelling.{Decides}
use Rattle.dom_select.specs.Parts.{AsksFor}

-- a node has the index or not
pub at_index : (nth : Nth) (index count i : ℕ) (b : Bool) → AsksFor nth index → i ≡ 1 + count → b ≡ (1 + count == index) → Decides b (IsNth nth i)
at_index nth index count i b asks is decided =
    let same = asks i (omega arith) in
    elim (cases_Bool b) [
      | inl t ↦ rw t (same.1 (is ∙ eqb-true (1 + count) index (sym decided ∙ t)))
      | inr f ↦ rw f (λ h. true≢false (sym (eq-eqb (1 + count) index (sym is ∙ same.0 h)) ∙ sym decided ∙ f))
    ]

-- the same of an answer that may be missing
pub at_index_if : (nth : Nth) (index count : ℕ) (answer : Option Bool) → AsksFor nth index → IfSome answer (λ b. b ≡ (1 + count == index)) → IfSome answer (λ b. Decides b (IsNth nth (1 + count)))
at_index_if nth index count None asks h = h
at_index_if nth index count (Some b) asks h = at_index nth index count (1 + count) b asks refl h

-- how many nodes count from a node on, on one side
abbrev pub counted_on : (ℕ → Bool) → Forest → Bool → Option ℕ → ℕ
counted_on P forest rev next = count_by P (row_on forest rev next)

-- so many nodes that count are left where the node has the index, and only there
abbrev pub LeftDecides : (ℕ → Bool) → Forest → Bool → ℕ → ℕ → Option ℕ → ℕ → Type 0
LeftDecides P forest rev n index next left = (counted_on P forest rev next == left) ≡ (1 + count_by P (later forest rev n) == index)
