-- Rows of labels.
use Rattle.std.proofs.Common.{◌≡◌, ℕ, ◌+◌, ◌<◌, ◌≤◌, List, Bool, true, false, cond, map, length, drop, get_or, refl, sym, ap, ◌∙◌, Some, None}
use Rattle.std.proofs.lemmas.List.{at_drop_more, at_drop_all}
use Rattle.std.specs.Prelude.{◌↔◌, IsTrue, Decides, bytes_eq}
use Rattle.std.specs.Char.{to_ascii_lowercase}
use Rattle.std.proofs.lemmas.Slice.Eq.{bytes_eq-Decides}
use Rattle.encodings.specs.declared.encoding.Encoding.{Encoding}
use Rattle.encodings.specs.Labels.{labelled}

same : (b t : Bool) (P : Type 0) → (IsTrue b ↔ P) → (Decides t P) → b ≡ t
same true true P h k = refl
same true false P h k = sym (k.1 (h.0 refl))
same false true P h k = h.1 (k.0 refl)
same false false P h k = refl

pub same_test : (b : Bool) (xs ys : List ℕ) → (IsTrue b ↔ (xs ≡ ys)) → b ≡ bytes_eq xs ys
same_test b xs ys h = same b (bytes_eq xs ys) (xs ≡ ys) h (bytes_eq-Decides xs ys)

-- the rows from one on
from_row : {R : Type 0} → (name : R → List ℕ) (encoding : R → Encoding) (rows : List R) (i : ℕ) (d : R) (label : List ℕ) → i < length rows →
    labelled name encoding (drop i rows) label
    ≡ cond (bytes_eq (map to_ascii_lowercase (name (get_or rows i d))) label) (Some (encoding (get_or rows i d))) (labelled name encoding (drop (i + 1) rows) label)
unfolding labelled
from_row name encoding rows i d label h = at_drop_more (λ rs. labelled name encoding rs label) rows i d h

pub not_here : {R : Type 0} → (name : R → List ℕ) (encoding : R → Encoding) (rows : List R) (i : ℕ) (d : R) (text label : List ℕ) → i < length rows → text ≡ name (get_or rows i d) →
    false ≡ bytes_eq (map to_ascii_lowercase text) label → labelled name encoding (drop i rows) label ≡ labelled name encoding rows label →
    labelled name encoding (drop (i + 1) rows) label ≡ labelled name encoding rows label
not_here name encoding rows i d text label h is other so_far =
    ap (λ t. cond t (Some (encoding (get_or rows i d))) (labelled name encoding (drop (i + 1) rows) label)) (other ∙ ap (λ t. bytes_eq (map to_ascii_lowercase t) label) is)
    ∙ sym (from_row name encoding rows i d label h) ∙ so_far

pub here : {R : Type 0} → (name : R → List ℕ) (encoding : R → Encoding) (rows : List R) (i : ℕ) (d : R) (text label : List ℕ) → i < length rows → text ≡ name (get_or rows i d) →
    true ≡ bytes_eq (map to_ascii_lowercase text) label → labelled name encoding (drop i rows) label ≡ labelled name encoding rows label →
    Some (encoding (get_or rows i d)) ≡ labelled name encoding rows label
here name encoding rows i d text label h is same so_far =
    ap (λ t. cond t (Some (encoding (get_or rows i d))) (labelled name encoding (drop (i + 1) rows) label)) (same ∙ ap (λ t. bytes_eq (map to_ascii_lowercase t) label) is)
    ∙ sym (from_row name encoding rows i d label h) ∙ so_far

pub nowhere : {R : Type 0} → (name : R → List ℕ) (encoding : R → Encoding) (rows : List R) (i : ℕ) (label : List ℕ) → length rows ≤ i →
    labelled name encoding (drop i rows) label ≡ labelled name encoding rows label → None ≡ labelled name encoding rows label
unfolding labelled
nowhere name encoding rows i label h so_far = sym (at_drop_all (λ rs. labelled name encoding rs label) rows i h) ∙ so_far
