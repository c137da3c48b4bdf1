-- Strings that are written character by character.
use Rattle.std.proofs.Common.{◌≡◌, ℕ, List, [], ◌∷◌, ◌++◌, encode_utf8, encode_utf8_all, flat_map, sym, ap, ◌∙◌}
use Rattle.std.proofs.lemmas.Str.{encodes-append}
use Rattle.std.proofs.lemmas.List.{append-nil}
use Rattle.std.proofs.lemmas.List.Concat.{flat_map-append}
use Rattle.dom_selectors.specs.Css.{css_char, css_string}

-- the text of one character more
pub css_more : (new old : List ℕ) (read : List ℕ) (c : ℕ) → new ≡ old ++ encode_utf8_all (css_char c) → old ≡ encode_utf8_all (34 ∷ flat_map css_char read) →
    new ≡ encode_utf8_all (34 ∷ flat_map css_char (read ++ c ∷ []))
css_more new old read c e h =
    let one : flat_map css_char (read ++ c ∷ []) ≡ flat_map css_char read ++ css_char c = flat_map-append css_char read (c ∷ []) ∙ ap (λ t. flat_map css_char read ++ t) (append-nil (css_char c)) in
    e ∙ ap (λ t. t ++ encode_utf8_all (css_char c)) h ∙ sym (encodes-append (34 ∷ flat_map css_char read) (css_char c)) ∙ ap (λ t. encode_utf8_all (34 ∷ t)) (sym one)

-- and the quote that closes
pub css_closed : (new old : List ℕ) (read : List ℕ) → new ≡ old ++ encode_utf8 34 → old ≡ encode_utf8_all (34 ∷ flat_map css_char read) → new ≡ encode_utf8_all (css_string read)
css_closed new old read e h = e ∙ ap (λ t. t ++ encode_utf8 34) h ∙ ap (λ t. encode_utf8_all (34 ∷ flat_map css_char read) ++ t) (sym (append-nil (encode_utf8 34))) ∙ sym (encodes-append (34 ∷ flat_map css_char read) (34 ∷ []))
