use Rattle.std.proofs.Common.{◌≡◌, List, [], ◌∷◌, ℕ, refl, false, sym, inl, inr}
use Rattle.std.specs.Str.{bytes_eq}
use Rattle.std.proofs.lemmas.Bool.{cases_Bool}
use Rattle.std.proofs.lemmas.Slice.Eq.{bytes_eq-Decides}
use Rattle.dom_nodes.specs.Words.{is_among}
use Rattle.dom_md.specs.Formatted.{block_names}
use Rattle.dom_md.proofs.formatting.names.is_block_text.Goals as goal

abbrev IsNone : List ℕ → List (List ℕ) → Type 0
IsNone name [] = Unit
IsNone name (word ∷ words) = (name ≡ word → ⊥) × IsNone name words

none-among : (name : List ℕ) (words : List (List ℕ)) → IsNone name words → false ≡ is_among name words
none-among name [] none = refl
none-among name (word ∷ words) none = elim (cases_Bool (bytes_eq word name)) [
  | inl same ↦ absurd (none.0 (sym ((bytes_eq-Decides word name).0 same)))
  | inr f ↦ rw f (none-among name words none.1)
]

pub returns-in_default : goal.returns-in_default
unfolding block_names
returns-in_default c =
    let no = c.in_default in
    none-among c.args.name.now block_names (no.not-article, (no.not-blockquote, (no.not-section, (no.not-div, (no.not-p, (no.not-pre, (no.not-h1, (no.not-h2, (no.not-h3, (no.not-h4, (no.not-h5, (no.not-h6, (no.not-ul, (no.not-ol, (no.not-dl, (no.not-table, tt))))))))))))))))
