-- Words in letters of any case, and labels.
use Rattle.std.proofs.Common.{◌≡◌, ℕ, ◌-◌, ◌<◌, List, Bool, true, false, map, length, take, arith, refl, sym, ap, ◌∙◌, take_all}
use Rattle.std.specs.Prelude.{◌↔◌, Decides, IsTrue, bytes_eq}
use Rattle.std.specs.Char.{to_ascii_lowercase}
use Rattle.std.specs.List.{slice_range}
use Rattle.std.specs.Str.{IsTrimAscii}
use Rattle.std.proofs.lemmas.List.{length-map}
use Rattle.std.proofs.lemmas.Slice.Eq.{bytes_eq-Decides}
use Rattle.std.proofs.lemmas.Str.Ascii.{trim_ascii_is}
use Rattle.encodings.specs.Bytes.{begins_with_word}
use Rattle.encodings.specs.Labels.{trimmed_end, trimmed_front}
use Rattle.encodings.proofs.Rows.{same_test}

no_less : (n : ℕ) → n - 0 ≡ n
no_less n = omega arith

pub range_front : (bytes front : List ℕ) (n : ℕ) → front ≡ slice_range bytes 0 n → front ≡ take n bytes
range_front bytes front n is = is ∙ ap (λ k. take k bytes) (no_less n)

pub word_there : (b : Bool) (front word bytes : List ℕ) → (IsTrue b ↔ (map to_ascii_lowercase front ≡ map to_ascii_lowercase word)) → map to_ascii_lowercase word ≡ word → front ≡ slice_range bytes 0 (length word) →
    b ≡ begins_with_word word bytes
unfolding begins_with_word
word_there b front word bytes h low range =
    let is : front ≡ take (length word) bytes = range_front bytes front (length word) range in
    same_test b (map to_ascii_lowercase (take (length word) bytes)) word
    (λ t. ap (map to_ascii_lowercase) (sym is) ∙ h.0 t ∙ low, λ e. h.1 (ap (map to_ascii_lowercase) is ∙ e ∙ sym low))

shorter : (xs ys : List ℕ) (t : Bool) → Decides t (xs ≡ ys) → length xs < length ys → false ≡ t
shorter xs ys true h less = absurd (omega (arith, ap length (h.0 refl)))
shorter xs ys false h less = refl

pub word_nowhere : (word bytes : List ℕ) → length bytes < length word → false ≡ begins_with_word word bytes
unfolding begins_with_word
word_nowhere word bytes less =
    shorter (map to_ascii_lowercase (take (length word) bytes)) word _ (bytes_eq-Decides (map to_ascii_lowercase (take (length word) bytes)) word)
    (omega (arith, length-map (take (length word) bytes) to_ascii_lowercase, ap length (take_all (length word) bytes (omega arith))))

pub trimmed_is : (bytes trimmed : List ℕ) → IsTrimAscii bytes trimmed → trimmed ≡ trimmed_end (trimmed_front bytes)
trimmed_is bytes trimmed is = trim_ascii_is bytes trimmed (trimmed_front bytes) refl is

pub same_word : (b : Bool) (name word : List ℕ) → (IsTrue b ↔ (map to_ascii_lowercase name ≡ map to_ascii_lowercase word)) → map to_ascii_lowercase word ≡ word →
    b ≡ bytes_eq (map to_ascii_lowercase name) word
same_word b name word h low = same_test b (map to_ascii_lowercase name) word (λ t. h.0 t ∙ low, λ e. h.1 (e ∙ sym low))
