-- How the bytes of a page are decoded, while its encoding has to be found.
use Rattle.std.proofs.Common.{◌≡◌, ◌∙◌, ◌∷◌, ◌++◌, ◌⊎◌, ◌≤◌, Bool, List, None, Option, Some, [], ap, arith}
use Rattle.std.proofs.Common.{drop, false, inl, inr, length, map, refl, subst, sym, take, true, zero, ℕ, suc, ◌<◌}
use Rattle.std.specs.Prelude.{encode_utf8_all, nat_eq, unwrap_or, if◌then◌else◌}
use Rattle.std.proofs.lemmas.Bool.Decides.{nat_tests}
use Rattle.std.specs.Option.{option_map_or}
use Rattle.std.specs.Str.{IsAscii, chars}
use Rattle.std.specs.List.{starts_with}
use Rattle.std.proofs.lemmas.List.{append-nil, append_assoc, drop-append-le, take-append-drop}
use Rattle.std.proofs.lemmas.Str.{IsUtf8-from_ascii, chars-IsAscii, encodes-IsAscii, encodes_same}
use Rattle.decoded_text.specs.Characters.{text_of}
use Rattle.decoded_text.proofs.Loops.{ascii_runs}
use Rattle.encodings.specs.Labels.{for_bom}
use Rattle.encodings.specs.SingleByte.{character_of, characters as single_byte_characters, index_of}
use Rattle.encodings.specs.declared.encoding.Encoding.{Encoding}
use Rattle.encodings.specs.declared.encoding.Encoding.TheVariants.{SingleByte, Utf8, Utf16Be, Utf16Le}
use Rattle.encodings.specs.declared.single_byte.SingleByte.TheVariants.{Windows1252}
use Rattle.text_decoding.specs.Decoding.{characters, characters_behind}
use Rattle.text_decoding.specs.Pages.{behind_mark}
use Rattle.text_decoding.proofs.Lending.{ascii_itself}
use Rattle.text_decoding.proofs.Utf8Texts.{text}
use Rattle.page_reading.specs.PageDecoding.{DecodesHeld, Finds, FindsAt, HasDecoded, IsGuess, IsUnknown}
use Rattle.page_reading.specs.PageDecoding.{LacksMark, MayCome, StandsAt, WaitsAt, text_ahead, text_in}
use Rattle.page_reading.specs.Utf8Pages.{with_replacements}
use Rattle.page_reading.specs.declared.page_decoder.PageDecoder.{PageDecoder}
use Rattle.page_reading.specs.declared.page_decoder.Part.{Part}
use Rattle.page_reading.specs.declared.page_decoder.Stage.{Stage}
use Rattle.page_reading.specs.declared.page_decoder.Stage.TheVariants as stage

first_known : stage.First ≡ stage.Known → ⊥
first_known e = cc

ascii_known : stage.Ascii ≡ stage.Known → ⊥
ascii_known e = cc

-- ---- lists

drop_none : (n : ℕ) → ◌≡◌ {A = List ℕ} (drop n []) []
drop_none zero = refl
drop_none (suc n) = refl

drop_whole : (xs : List ℕ) → drop (length xs) xs ≡ []
drop_whole [] = refl
drop_whole (x ∷ xs) = drop_whole xs

take_whole : (n : ℕ) (xs : List ℕ) → drop n xs ≡ [] → take n xs ≡ xs
take_whole n xs none = sym (append-nil (take n xs)) ∙ ap (λ r. take n xs ++ r) (sym none) ∙ take-append-drop n xs

-- ---- byte order marks

-- three bytes decide, or else no more come
pub mark_same : (ended : Bool) (bytes more : List ℕ) → (ended ≡ false → 3 ≤ length bytes) → MayCome ended more →
    for_bom (bytes ++ more) ≡ for_bom bytes
mark_same true bytes more long none = ap (λ m. for_bom (bytes ++ m)) none ∙ ap for_bom (append-nil bytes)
mark_same false (a ∷ b ∷ c ∷ bytes) more long none = refl
mark_same false [] more long none = absurd (omega (arith, long refl))
mark_same false (a ∷ []) more long none = absurd (omega (arith, long refl))
mark_same false (a ∷ b ∷ []) more long none = absurd (omega (arith, long refl))

-- what follows a mark
pub behind_found : (ended : Bool) (bytes more : List ℕ) (encoding : Encoding) (n : ℕ) → for_bom bytes ≡ Some (encoding, n) →
    (ended ≡ false → 3 ≤ length bytes) → MayCome ended more →
    behind_mark (bytes ++ more) ≡ drop n bytes ++ more
behind_found ended bytes more encoding n found long may =
    ap (λ mark. drop (option_map_or (λ (m : Encoding × ℕ). m.1) mark 0) (bytes ++ more)) (mark_same ended bytes more long may ∙ found)
    ∙ by ended long may
  where
    number : (a : Encoding) (x : ℕ) → ◌≡◌ {A = Option (Encoding × ℕ)} (Some (a, x)) (Some (encoding, n)) → x ≡ n
    number a x e = ap (λ (o : Option (Encoding × ℕ)). option_map_or (λ (m : Encoding × ℕ). m.1) o 0) e

    three : (t u v : Bool) → ◌≡◌ {A = Option (Encoding × ℕ)}
        (if t then Some (Utf8, 3) else (if u then Some (Utf16Be, 2) else (if v then Some (Utf16Le, 2) else None))) (Some (encoding, n)) →
        n ≤ 3
    three true u v e = let is = number Utf8 3 e in omega (arith, is)
    three false true v e = let is = number Utf16Be 2 e in omega (arith, is)
    three false false true e = let is = number Utf16Le 2 e in omega (arith, is)
    three false false false e = cc

    by : (ended : Bool) → (ended ≡ false → 3 ≤ length bytes) → MayCome ended more → drop n (bytes ++ more) ≡ drop n bytes ++ more
    by true far none =
        ap (λ m. drop n (bytes ++ m)) none ∙ ap (drop n) (append-nil bytes) ∙ sym (append-nil (drop n bytes))
        ∙ ap (λ m. drop n bytes ++ m) (sym none)
    by false far none = drop-append-le n bytes more (let l = far refl in let t = three _ _ _ found in omega (arith, l, t))

-- where there is none
pub lacks_found : (ended : Bool) (bytes : List ℕ) → for_bom bytes ≡ None → (ended ≡ false → 3 ≤ length bytes) → LacksMark ended bytes
lacks_found ended bytes none long more may = mark_same ended bytes more long may ∙ none

pub whole_text : (ended : Bool) (encoding : Encoding) (bytes more : List ℕ) → LacksMark ended bytes → MayCome ended more →
    text_in encoding (bytes ++ more) ≡ with_replacements (characters encoding (bytes ++ more))
whole_text ended encoding bytes more lacks may =
    ap (λ mark. with_replacements (characters encoding (drop (option_map_or (λ (m : Encoding × ℕ).
    m.1) mark 0) (bytes ++ more)))) (lacks more may)

-- ---- ASCII

some_first : (xs : List ℕ) (ys : List (Option ℕ)) → with_replacements (map Some xs ++ ys) ≡ xs ++ with_replacements ys
some_first [] ys = refl
some_first (x ∷ xs) ys = ap (λ r. x ∷ r) (some_first xs ys)

one_byte : (index : List ℕ) (b : ℕ) → b < 128 → character_of index b ≡ Some b
unfolding character_of
one_byte index b h = grind (arith, nat_tests)

single_ahead : (index before more : List ℕ) → IsAscii before →
    with_replacements (single_byte_characters index (before ++ more)) ≡ before ++ with_replacements (single_byte_characters index more)
single_ahead index [] more ascii = refl
single_ahead index (b ∷ before) more ascii =
    ap (λ c. unwrap_or c 0xFFFD ∷ with_replacements (single_byte_characters index (before ++ more))) (one_byte index b (ascii 0))
    ∙ ap (λ r. b ∷ r) (single_ahead index before more (λ i. ascii (suc i)))

-- in the encodings that are guessed, ASCII is what it is
pub ascii_ahead : (encoding : Encoding) (before more : List ℕ) → IsGuess encoding → IsAscii before →
    with_replacements (characters encoding (before ++ more)) ≡ before ++ with_replacements (characters encoding more)
ascii_ahead encoding before more (inl e) ascii = subst (λ x.
    with_replacements (characters x (before ++ more)) ≡ before ++ with_replacements (characters x more)) (sym e)
    (ap with_replacements (text before more (IsUtf8-from_ascii before ascii)) ∙ some_first (chars before) (characters Utf8 more)
    ∙ ap (λ xs. xs ++ with_replacements (characters Utf8 more)) (chars-IsAscii before ascii))
ascii_ahead encoding before more (inr e) ascii = subst (λ x.
    with_replacements (characters x (before ++ more)) ≡ before ++ with_replacements (characters x more)) (sym e)
    (single_ahead (index_of Windows1252) before more ascii)

ascii_joined : (xs ys : List ℕ) → IsAscii xs → IsAscii ys → IsAscii (xs ++ ys)
ascii_joined [] ys one other i = other i
ascii_joined (x ∷ xs) ys one other zero = one 0
ascii_joined (x ∷ xs) ys one other (suc i) = ascii_joined xs ys (λ j. one (suc j)) other i

-- the text of ASCII is the bytes
pub ascii_text : (piece cs bytes : List ℕ) → IsAscii piece → bytes ≡ text_of (characters Utf8 piece) → bytes ≡ encode_utf8_all cs →
    cs ≡ piece
ascii_text piece cs bytes ascii is spelt =
    encodes_same cs piece (sym spelt ∙ is ∙ (ascii_itself Utf8 piece refl ascii).0 ∙ sym (encodes-IsAscii piece ascii))

-- ---- which bytes are decoded

-- all of them, in an encoding that is said
pub finds_said : (ended : Bool) (bytes : List ℕ) (new : PageDecoder) → LacksMark ended bytes → ((more : List ℕ) →
    characters_behind new.decoder more ≡ characters new.encoding more) →
    FindsAt stage.Known ended [] bytes (record { from = 0; to = length bytes }) new
finds_said ended bytes new lacks decoder = (
  drop_whole bytes,
  λ more may. whole_text ended new.encoding bytes more lacks may
      ∙ ap with_replacements (sym (decoder (bytes ++ more))),
)

-- or in one that is guessed, behind ASCII
pub finds_guessed : (ended : Bool) (before bytes : List ℕ) (new : PageDecoder) → IsAscii before → LacksMark ended (before ++ bytes) →
    IsGuess new.encoding →
    ((more : List ℕ) → characters_behind new.decoder more ≡ characters new.encoding more) →
    FindsAt stage.Known ended before bytes (record { from = 0; to = length bytes }) new
finds_guessed ended before bytes new ascii lacks guess decoder = (
  drop_whole bytes,
  λ more may.
      whole_text ended new.encoding (before ++ bytes) more lacks may
      ∙ ap (λ all. with_replacements (characters new.encoding all)) (append_assoc before bytes more)
      ∙ ascii_ahead new.encoding before (bytes ++ more) guess ascii
      ∙ ap (λ all. before ++ with_replacements all) (sym (decoder (bytes ++ more))),
)

-- all but the mark
pub finds_marked : (ended : Bool) (bytes : List ℕ) (new : PageDecoder) (n : ℕ) → for_bom bytes ≡ Some (new.encoding, n) → (ended ≡ false →
    3 ≤ length bytes) →
    ((more : List ℕ) → characters_behind new.decoder more ≡ characters new.encoding more) →
    FindsAt stage.Known ended [] bytes (record { from = n; to = length bytes }) new
finds_marked ended bytes new n found long decoder = (
  drop_whole bytes,
  λ more may.
      ap (λ rest. with_replacements (characters new.encoding rest)) (behind_found ended bytes more new.encoding n found long may)
      ∙ ap with_replacements (sym (decoder (drop n bytes ++ more))),
)

-- ---- what was held is decoded

-- the bytes that are decoded
abbrev pub piece_of : Part → List ℕ → List ℕ
piece_of part held = drop part.from (take part.to held)

-- Finds, and then decodes. `after` is the decoder that has read the piece.
pub held_decoded : (ended : Bool) (held read bytes cs text : List ℕ) (part : Part) (mid after new : PageDecoder) → bytes ≡ read ++ held →
    Finds ended read held part mid →
    after ≡ record mid { decoder = after.decoder } →
    (mid.stage ≡ stage.Known → (more : List ℕ) →
    with_replacements (characters_behind mid.decoder (piece_of part held ++ more)) ≡ cs ++ text_ahead after more) →
    ((mid.stage ≡ stage.Known → ⊥) → (after ≡ mid) × (text ≡ text_of (characters Utf8 (piece_of part held)))) → text ≡ encode_utf8_all cs →
    new ≡ record after { held = new.held } → new.held.items ≡ drop part.to held → HasDecoded ended bytes (read ++ cs) new
held_decoded ended held read bytes cs text part mid after new whole finds one known ascii spelt two items =
    subst (λ s. StandsAt s ended bytes (read ++ cs) new) (sym (ap (λ (d : PageDecoder). d.stage) two
    ∙ ap (λ (d : PageDecoder). d.stage) one)) (by mid.stage refl finds)
  where
    unknown : (after ≡ mid) → IsUnknown mid → IsUnknown new
    unknown same is = subst IsUnknown (sym two) (subst IsUnknown (sym same) is)

    by : (s : Stage) → mid.stage ≡ s → FindsAt s ended read held part mid → StandsAt s ended bytes (read ++ cs) new
    by stage.First e found =
        let decoded = ascii (λ known. first_known (sym e ∙ known)) in
        let none : piece_of part held ≡ [] = ap (λ n. drop part.from (take n held)) found.3 ∙ drop_none part.from in
        let no_text : cs ≡ [] = ascii_text [] cs text (λ i. omega arith) (decoded.1 ∙ ap (λ p. text_of (characters Utf8 p)) none) spelt in (
          found.0,
          unknown decoded.0 found.1,
          ap (λ r. r ++ cs) found.2 ∙ no_text,
          items ∙ ap (λ n. drop n held) found.3
              ∙ ap (λ r. r ++ held) (sym found.2) ∙ sym whole,
        )
    by stage.Ascii e found =
        let decoded = ascii (λ known. ascii_known (sym e ∙ known)) in
        let piece : piece_of part held ≡ take part.to held = ap (λ n. drop n (take part.to held)) found.0 in
        let same : cs ≡ take part.to held = ascii_text (take part.to held) cs text found.2 (decoded.1
        ∙ ap (λ p. text_of (characters Utf8 p)) piece) spelt in (
          whole ∙ ap (λ h. read ++ h) (sym (take-append-drop part.to held))
              ∙ sym (append_assoc read (take part.to held) (drop part.to held))
              ∙ ap (λ c. (read ++ c) ++ drop part.to held) (sym same) ∙ ap (λ h. (read ++ cs) ++ h) (sym items),
          subst (λ c. IsAscii (read ++ c)) (sym same) (ascii_joined read (take part.to held) found.1 found.2),
          unknown decoded.0 found.3,
          subst (LacksMark ended) (sym whole) found.4,
          λ end. items ∙ found.5 end,
        )
    by stage.Known e found =
        let piece : piece_of part held ≡ drop part.from held = ap (drop part.from) (take_whole part.to held found.0) in (
          items ∙ found.0,
          λ more may.
              ap (λ (d : PageDecoder). text_in d.encoding (bytes ++ more)) (two ∙ ap (λ (d : PageDecoder). record d { held = new.held }) one)
              ∙ ap (λ b. text_in mid.encoding (b ++ more)) whole ∙ found.1 more may
              ∙ ap (λ p. read ++ with_replacements (characters_behind mid.decoder (p ++ more))) (sym piece)
              ∙ ap (λ t. read ++ t) (known e more) ∙ sym (append_assoc read cs (text_ahead after more))
              ∙ ap (λ (d : PageDecoder). (read ++ cs) ++ text_ahead d more) (sym two),
        )
