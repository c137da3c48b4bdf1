-- Decoded pieces, one behind the other.
use Rattle.std.proofs.Common.{◌≡◌, ℕ, ◌<◌, ◌≤◌, ◌+◌, List, [], ◌++◌, length, drop, get_or, map, sym, ap, ◌∙◌, subst, append_assoc, arith, zero-add, Bor, IfSome, Option, None, Some}
use Rattle.std.proofs.lemmas.Str.{encodes-chars}
use Rattle.std.specs.Str.{IsUtf8, chars}
use Rattle.std.proofs.lemmas.List.{at_drop_more, at_drop_all}
use Rattle.std.specs.Prelude.{string_bytes}
use Rattle.decoded_text.specs.declared.decoded.Decoded.{Decoded}
use Rattle.decoded_text.specs.Characters.{Continues, IsCounted, IsDecoded, errors_in, text_of}
use Rattle.decoded_text.proofs.Texts.{continues-end, decoded-all, errors-all, errors-append, errors-nil, text-all, text-append, text-nil}
use Rattle.encodings.specs.declared.encoding.Encoding.TheVariants.{Utf8}
use Rattle.text_decoding.specs.declared.decoder.Decoder.{Decoder}
use Rattle.text_decoding.specs.Decoding.{Begins, BeginsWith, IsBetweenCharacters, characters_behind, characters_from, joined}
use Rattle.text_decoding.specs.declared.whole.DecodedText.TheVariants.{Lent}
use Rattle.text_decoding.specs.Utf8.{characters as utf8_characters, fresh}
use Rattle.text_decoding.proofs.Utf8Steps.{as_fresh}
use Rattle.text_decoding.proofs.Utf8Texts.{text}

pub counted_new : (decoded : Decoded) → IsDecoded decoded [] → IsCounted decoded
counted_new decoded empty = let e = errors-nil in let g = empty.replaced in omega arith

pub begins : (old new : Decoded) (before after : List (Option ℕ)) → IsDecoded old [] → Continues old before new after → Begins new before after
begins old new before after empty all = record {
  text = sym (all.text ∙ ap (λ t. t ++ text_of before) (empty.text ∙ text-nil));
  replaced = let e = errors-nil in let f = all.replaced in let g = empty.replaced in omega arith;
}

pub whole : (old new : Decoded) (before after : List (Option ℕ)) → IsDecoded old [] → Continues old before new after → after ≡ [] → IsDecoded new before
whole old new before after empty all none =
    let P : List (Option ℕ) → Type 0 = λ a. Continues old before new a in
    decoded-all old new before empty (continues-end old new before (subst P none all))

pub begins_as : (decoded : Decoded) (whole same rest : List (Option ℕ)) → whole ≡ same → Begins decoded same rest → Begins decoded whole rest
begins_as decoded whole same rest is so_far = let P : List (Option ℕ) → Type 0 = λ w. Begins decoded w rest in subst P (sym is) so_far

-- nothing was decoded yet
pub nothing : (decoded : Decoded) (characters : List (Option ℕ)) → IsDecoded decoded [] → Begins decoded characters characters
nothing decoded characters empty = record {
  text = ap (λ t. t ++ text_of characters) (sym (empty.text ∙ text-nil));
  replaced = let e = errors-nil in let g = empty.replaced in omega arith;
}

-- a piece more
pub piece_more : (old piece new : Decoded) (whole between rest : List (Option ℕ)) → Begins old whole between → Begins piece between rest →
    string_bytes new.text ≡ string_bytes old.text ++ string_bytes piece.text → new.replaced ≡ old.replaced + piece.replaced → Begins new whole rest
piece_more old piece new whole between rest first second text replaced = record {
  text = first.text ∙ ap (λ t. string_bytes old.text ++ t) second.text ∙ sym (append_assoc (string_bytes old.text) (string_bytes piece.text) (text_of rest))
      ∙ ap (λ t. t ++ text_of rest) (sym text);
  replaced = let e = first.replaced in let f = second.replaced in omega arith;
}

pub piece_last : (old piece new : Decoded) (whole between : List (Option ℕ)) → Begins old whole between → IsDecoded piece between →
    string_bytes new.text ≡ string_bytes old.text ++ string_bytes piece.text → new.replaced ≡ old.replaced + piece.replaced → IsDecoded new whole
piece_last old piece new whole between first last text replaced = record {
  text = text ∙ ap (λ t. string_bytes old.text ++ t) last.text ∙ sym first.text;
  replaced = let e = first.replaced in let f = last.replaced in omega arith;
}

pub joined_more : {R : Type 0} → (bytes : R → List ℕ) (pieces : List R) (i : ℕ) (d : R) → i < length pieces → joined bytes (drop i pieces) ≡ bytes (get_or pieces i d) ++ joined bytes (drop (i + 1) pieces)
joined_more bytes pieces i d h = at_drop_more (joined bytes) pieces i d h

pub joined_all : {R : Type 0} → (bytes : R → List ℕ) (pieces : List R) (i : ℕ) → length pieces ≤ i → joined bytes (drop i pieces) ≡ []
joined_all bytes pieces i h = at_drop_all (joined bytes) pieces i h

pub begins_to : (decoded : Decoded) (whole rest same : List (Option ℕ)) → rest ≡ same → Begins decoded whole rest → Begins decoded whole same
begins_to decoded whole rest same is so_far = let P : List (Option ℕ) → Type 0 = λ r. Begins decoded whole r in subst P is so_far

-- ---- a piece that is lent

between : (d : Decoder) (bytes : List ℕ) → d.encoding ≡ Utf8 → IsBetweenCharacters d → characters_behind d bytes ≡ utf8_characters fresh bytes
between d bytes e at =
    ap (λ encoding. characters_from encoding d.state (d.waiting.items ++ bytes)) e
    ∙ ap (λ waiting. utf8_characters d.state.utf8 (waiting ++ bytes)) at.waiting ∙ as_fresh d.state.utf8 bytes at.utf8

lent_text : (d : Decoder) (piece more : List ℕ) → d.encoding ≡ Utf8 → IsBetweenCharacters d → IsUtf8 piece →
    text_of (characters_behind d (piece ++ more)) ≡ piece ++ text_of (characters_behind d more)
lent_text d piece more e at is =
    ap text_of (between d (piece ++ more) e at ∙ text piece more is) ∙ text-append (map Some (chars piece)) (utf8_characters fresh more)
    ∙ ap (λ t. t ++ text_of (utf8_characters fresh more)) (text-all (chars piece) ∙ encodes-chars piece is)
    ∙ ap (λ cs. piece ++ text_of cs) (sym (between d more e at))

lent_errors : (d : Decoder) (piece more : List ℕ) → d.encoding ≡ Utf8 → IsBetweenCharacters d → IsUtf8 piece →
    errors_in (characters_behind d (piece ++ more)) ≡ errors_in (characters_behind d more)
lent_errors d piece more e at is =
    ap errors_in (between d (piece ++ more) e at ∙ text piece more is) ∙ errors-append (map Some (chars piece)) (utf8_characters fresh more)
    ∙ ap (λ n. n + errors_in (utf8_characters fresh more)) (errors-all (chars piece)) ∙ zero-add (errors_in (utf8_characters fresh more))
    ∙ ap errors_in (sym (between d more e at))

pub lent_piece : (d : Decoder) (piece more : List ℕ) (result : Option (Bor (List ℕ))) → d.encoding ≡ Utf8 → IsBetweenCharacters d →
    IfSome result (λ t. t.now ≡ piece) → IfSome result (λ _. IsUtf8 piece) →
    IfSome result (λ t. BeginsWith (Lent t) (characters_behind d (piece ++ more)) (characters_behind d more))
lent_piece d piece more (Some t) e at same is =
    (lent_text d piece more e at is ∙ ap (λ bytes. bytes ++ text_of (characters_behind d more)) (sym same), lent_errors d piece more e at is)
lent_piece d piece more None e at same is = is
