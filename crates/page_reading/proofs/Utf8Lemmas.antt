-- Pages in UTF-8: what comes of their bytes, in pieces.
use Rattle.std.proofs.Common.{◌≡◌, ◌≢◌, ◌∙◌, ◌∷◌, ◌++◌, ◌==◌, ◌&&◌, Bool, List, Option, [], ap, false, length, map, refl, subst, sym, true, ℕ, cond, arith, take, codes}
use Rattle.std.specs.Prelude.{encode_utf8, encode_utf8_all, nat_eq}
use Rattle.std.specs.Char.{to_ascii_lowercase}
use Rattle.std.proofs.lemmas.Bool.{eqb-true}
use Rattle.std.proofs.lemmas.Bool.Decides.{nat_tests}
use Rattle.std.proofs.lemmas.List.{append_assoc}
use Rattle.std.proofs.lemmas.Str.{cons_from_encodes, encodes-append, encodes-chars, encodes_same, length-le-encodes}
use Rattle.std.specs.Str.{IsUtf8, chars}
use Rattle.encodings.specs.declared.encoding.Encoding.TheVariants.{Utf8}
use Rattle.text_decoding.proofs.Lending.{utf8_itself}
use Rattle.decoded_text.specs.Characters.{text_of}
use Rattle.text_decoding.specs.Decoding.{BeginsWith, characters, characters_behind, text_bytes}
use Rattle.text_decoding.specs.Utf8.{characters as utf8_characters}
use Rattle.text_decoding.specs.declared.decoder.Decoder.{Decoder}
use Rattle.text_decoding.specs.declared.whole.DecodedText.{DecodedText}
use Rattle.text_decoding.specs.declared.whole.DecodedText.TheVariants.{Lent, Owned}
use Rattle.page_trees.specs.Framed.{IsFramed}
use lib.Utf8.{encode}
use Rattle.page_reading.specs.Utf8Pages.{text_behind, unmarked, unmarked_if, utf8_text, with_replacements}
use Rattle.page_reading.specs.declared.utf8_pieces.Utf8Pieces.{Utf8Pieces}

-- ---- the byte order mark

-- what follows it
pub marked : (cs rest : List ℕ) → encode_utf8_all cs ≡ encode_utf8 0xFEFF ++ rest → rest ≡ encode_utf8_all (unmarked cs)
marked cs rest e =
    let found = cons_from_encodes cs rest 0xFEFF e in
    sym found.2 ∙ ap (λ ds. encode_utf8_all (unmarked ds)) (sym found.1)

-- a calm page doesn't begin with it
pub not_framed : (text rest : List ℕ) → text ≡ encode_utf8 0xFEFF ++ rest → IsFramed text → ⊥
unfolding encode
not_framed text rest e framed = by _ _ (subst (λ t. map to_ascii_lowercase (take 20 t) ≡ codes "<!doctype html><html") e framed.front)
  where
    by : (xs ys : List ℕ) → 239 ∷ xs ≡ 60 ∷ ys → ⊥
    by xs ys h = cc

-- a text that doesn't begin with it
pub not_marked : (cs : List ℕ) → ((rest : List ℕ) → encode_utf8_all cs ≢ encode_utf8 0xFEFF ++ rest) → cs ≡ unmarked cs
not_marked [] other = refl
not_marked (c ∷ cs) other = by (c == 0xFEFF) (λ e. eqb-true c 0xFEFF e)
  where
    by : (t : Bool) → (t ≡ true → c ≡ 0xFEFF) → c ∷ cs ≡ cond t cs (c ∷ cs)
    by true is = absurd (other (encode_utf8_all cs) (ap (λ d. encode_utf8_all (d ∷ cs)) (is refl)))
    by false is = refl

some_text : (c : ℕ) (cs : List ℕ) → nat_eq (length (encode_utf8_all (c ∷ cs))) 0 ≡ false
some_text c cs = let long = length-le-encodes (c ∷ cs) in grind (arith, nat_tests)

-- it is removed from the first text that isn't empty
unmarked_parts : (first : Bool) (cs more : List ℕ) →
    unmarked_if first (cs ++ more) ≡ unmarked_if first cs ++ unmarked_if (first && nat_eq (length (encode_utf8_all cs)) 0) more
unmarked_parts false cs more = refl
unmarked_parts true [] more = refl
unmarked_parts true (c ∷ cs) more =
    by (c == 0xFEFF) ∙ ap (λ first. unmarked (c ∷ cs) ++ unmarked_if first more) (sym (some_text c cs))
  where
    by : (t : Bool) → cond t (cs ++ more) (c ∷ cs ++ more) ≡ cond t cs (c ∷ cs) ++ more
    by true = refl
    by false = refl

pub no_mark_in_none : (first : Bool) → unmarked_if first [] ≡ []
no_mark_in_none true = refl
no_mark_in_none false = refl

-- ---- pieces

-- nothing is left before the first piece
pub nothing_behind : (decoder : Decoder) → ((bytes : List ℕ) → characters_behind decoder bytes ≡ characters Utf8 bytes) → characters_behind decoder [] ≡ []
unfolding utf8_characters
nothing_behind decoder is = is []

pub is_spelt : (text : List ℕ) (decoded : List (Option ℕ)) → text ≡ text_of decoded → text ≡ encode_utf8_all (with_replacements decoded)
unfolding text_of
is_spelt text decoded e = e

-- the text of a piece stands before that of the bytes behind it
piece_text : (text : DecodedText) (whole rest : List (Option ℕ)) → BeginsWith text whole rest → text_of whole ≡ text_bytes text ++ text_of rest
piece_text (Lent text) whole rest begins = begins.0
piece_text (Owned decoded) whole rest begins = begins.text

pub piece_behind : (text : DecodedText) (whole rest : List (Option ℕ)) (cs : List ℕ) → BeginsWith text whole rest → text_bytes text ≡ encode_utf8_all cs →
    with_replacements whole ≡ cs ++ with_replacements rest
unfolding text_of
piece_behind text whole rest cs begins spelt =
    encodes_same (with_replacements whole) (cs ++ with_replacements rest)
    (piece_text text whole rest begins ∙ ap (λ bytes. bytes ++ text_of rest) spelt ∙ sym (encodes-append cs (with_replacements rest)))

-- and without a byte order mark, if it is the first text
pub piece_follows : (first : Bool) (whole rest : List (Option ℕ)) (read cs : List ℕ) → with_replacements whole ≡ cs ++ with_replacements rest →
    read ++ unmarked_if first (with_replacements whole)
    ≡ (read ++ unmarked_if first cs) ++ unmarked_if (first && nat_eq (length (encode_utf8_all cs)) 0) (with_replacements rest)
piece_follows first whole rest read cs e =
    ap (λ text. read ++ unmarked_if first text) e ∙ ap (λ text. read ++ text) (unmarked_parts first cs (with_replacements rest))
    ∙ sym (append_assoc read (unmarked_if first cs) (unmarked_if (first && nat_eq (length (encode_utf8_all cs)) 0) (with_replacements rest)))

-- a piece is parsed, and then the bytes behind it follow
pub bytes_follow : (old mid new : Utf8Pieces) (bytes piece read cs : List ℕ) (text : DecodedText) → ((more : List ℕ) → utf8_text (bytes ++ more) ≡ read ++ text_behind old more) →
    ((more : List ℕ) → BeginsWith text (characters_behind old.decoder (piece ++ more)) (characters_behind mid.decoder more)) → text_bytes text ≡ encode_utf8_all cs →
    mid ≡ record old { decoder = mid.decoder } → new ≡ record mid { is_start = mid.is_start && nat_eq (length (text_bytes text)) 0 } →
    (more : List ℕ) → utf8_text ((bytes ++ piece) ++ more) ≡ (read ++ unmarked_if old.is_start cs) ++ text_behind new more
bytes_follow old mid new bytes piece read cs text follows begins spelt one two more =
    let rest : List ℕ = with_replacements (characters_behind mid.decoder more) in
    let first : old.is_start && nat_eq (length (encode_utf8_all cs)) 0 ≡ mid.is_start && nat_eq (length (text_bytes text)) 0 =
    ap (λ t. old.is_start && nat_eq (length t) 0) (sym spelt) ∙ sym (ap (λ (p : Utf8Pieces). p.is_start && nat_eq (length (text_bytes text)) 0) one) in
    ap utf8_text (append_assoc bytes piece more) ∙ follows (piece ++ more)
    ∙ piece_follows old.is_start (characters_behind old.decoder (piece ++ more)) (characters_behind mid.decoder more) read cs
    (piece_behind text (characters_behind old.decoder (piece ++ more)) (characters_behind mid.decoder more) cs (begins more) spelt)
    ∙ ap (λ t. (read ++ unmarked_if old.is_start cs) ++ unmarked_if t rest) first
    ∙ ap (λ t. (read ++ unmarked_if old.is_start cs) ++ t) (sym (ap (λ (p : Utf8Pieces). text_behind p more) two))

-- ---- a text that is UTF-8 already

-- its characters
pub utf8_chars : (bytes : List ℕ) → IsUtf8 bytes → with_replacements (characters Utf8 bytes) ≡ chars bytes
unfolding text_of
utf8_chars bytes utf8 = encodes_same (with_replacements (characters Utf8 bytes)) (chars bytes) ((utf8_itself bytes utf8).0 ∙ sym (encodes-chars bytes utf8))
