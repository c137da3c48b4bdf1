-- What becomes of the bytes of a page that are held, and of those that come.
use Rattle.std.proofs.Common.{Err, IfOk, Ok, Result, ◌≡◌, ◌∙◌, ◌++◌, ◌≤◌, Bool, List, Option, Some, []}
use Rattle.std.proofs.Common.{ap, drop, false, inl, length, refl, subst, sym, take, true, zero, suc, ℕ}
use Rattle.std.specs.Prelude.{encode_utf8_all, string_bytes}
use Rattle.std.specs.Str.{IsAscii, IsUtf8, chars}
use Rattle.std.proofs.lemmas.Bool.{true≢false}
use Rattle.std.proofs.lemmas.List.{append-nil, append_assoc}
use Rattle.std.proofs.lemmas.Str.{encodes-append, encodes-chars, encodes_same}
use Rattle.decoded_text.specs.Characters.{text_of}
use Rattle.decoded_text.specs.declared.decoded.Decoded.{Decoded}
use Rattle.encodings.specs.Labels.{for_bom}
use Rattle.encodings.specs.declared.encoding.Encoding.{Encoding}
use Rattle.encodings.specs.declared.encoding.Encoding.TheVariants.{Utf8}
use Rattle.text_decoding.specs.Decoding.{Begins, BeginsWith, characters, characters_behind, text_bytes}
use Rattle.text_decoding.specs.Utf8.{characters as utf8_characters}
use Rattle.text_decoding.specs.declared.page.Confidence.{Confidence}
use Rattle.text_decoding.specs.declared.whole.DecodedText.{DecodedText}
use Rattle.text_decoding.specs.declared.whole.DecodedText.TheVariants.{Owned}
use Rattle.page_reading.specs.PageDecoding.{DecodesHeld, DecodesOn, Finds, FindsAt, HasDecoded, IsGuess, IsUnknown, LacksMark}
use Rattle.page_reading.specs.PageDecoding.{StandsAt, WaitsAt, text_ahead, text_in}
use Rattle.page_reading.specs.Utf8Pages.{with_replacements}
use Rattle.page_reading.specs.declared.page_decoder.PageDecoder.{PageDecoder}
use Rattle.page_reading.specs.declared.page_decoder.Part.{Part}
use Rattle.page_reading.specs.declared.page_decoder.Stage.{Stage}
use Rattle.page_reading.specs.declared.page_decoder.Stage.TheVariants as stage
use Rattle.page_reading.proofs.DecodingLemmas.{ascii_ahead, finds_guessed, finds_marked, finds_said, held_decoded, piece_of, whole_text}
use Rattle.page_reading.proofs.Utf8Lemmas.{piece_behind}

-- ---- the encoding becomes known

pub record IsKnown (encoding : Encoding) (d : PageDecoder) : Type 0 where
  pub stage_is : d.stage ≡ stage.Known
  pub encoding_is : d.encoding ≡ encoding
  pub decoder : (more : List ℕ) → characters_behind d.decoder more ≡ characters encoding more

pub knows : (encoding : Encoding) (confidence : Confidence) (old new : PageDecoder) →
    new ≡ record old { encoding = encoding; decoder = new.decoder; confidence = confidence; stage = stage.Known } →
    ((more : List ℕ) → characters_behind new.decoder more ≡ characters encoding more) → IsKnown encoding new
knows encoding confidence old new only decoder = record {
  stage_is = ap (λ (d : PageDecoder). d.stage) only;
  encoding_is = ap (λ (d : PageDecoder). d.encoding) only;
  decoder = decoder;
}

-- the decoder reads the encoding that is named
own : (encoding : Encoding) (d : PageDecoder) → IsKnown encoding d → (more : List ℕ) →
    characters_behind d.decoder more ≡ characters d.encoding more
own encoding d known more = known.decoder more ∙ ap (λ e. characters e more) (sym known.encoding_is)

found : (ended : Bool) (before held : List ℕ) (part : Part) (encoding : Encoding) (d : PageDecoder) → IsKnown encoding d →
    FindsAt stage.Known ended before held part d → Finds ended before held part d
found ended before held part encoding d known here = subst (λ s. FindsAt s ended before held part d) (sym known.stage_is) here

-- by a byte order mark
pub found_marked : (ended : Bool) (bytes : List ℕ) (encoding : Encoding) (n : ℕ) (d : PageDecoder) → IsKnown encoding d →
    for_bom bytes ≡ Some (encoding, n) → (ended ≡ false → 3 ≤ length bytes) →
    Finds ended [] bytes (record { from = n; to = length bytes }) d
found_marked ended bytes encoding n d known mark long =
    found ended [] bytes (record { from = n; to = length bytes }) encoding d known
    (finds_marked ended bytes d n (mark ∙ ap (λ e. Some (e, n)) (sym known.encoding_is)) long (own encoding d known))

-- by what says it
pub found_said : (ended : Bool) (bytes : List ℕ) (encoding : Encoding) (d : PageDecoder) → IsKnown encoding d → LacksMark ended bytes →
    Finds ended [] bytes (record { from = 0; to = length bytes }) d
found_said ended bytes encoding d known lacks =
    found ended [] bytes (record { from = 0; to = length bytes }) encoding d known (finds_said ended bytes d lacks (own encoding d known))

-- by a guess, behind ASCII
pub found_guessed : (ended : Bool) (before bytes : List ℕ) (encoding : Encoding) (d : PageDecoder) → IsKnown encoding d → IsGuess encoding →
    IsAscii before → LacksMark ended (before ++ bytes) → Finds ended before bytes (record { from = 0; to = length bytes }) d
found_guessed ended before bytes encoding d known guess ascii lacks =
    found ended before bytes (record { from = 0; to = length bytes }) encoding d known
    (finds_guessed ended before bytes d ascii lacks (subst IsGuess (sym known.encoding_is) guess) (own encoding d known))

-- ---- it stays unknown

pub found_ascii : (ended : Bool) (before held : List ℕ) (n : ℕ) (d : PageDecoder) → d.stage ≡ stage.Ascii → IsUnknown d → IsAscii before →
    IsAscii (take n held) → LacksMark ended (before ++ held) → (ended ≡ true → drop n held ≡ []) →
    Finds ended before held (record { from = 0; to = n }) d
found_ascii ended before held n d e unknown ascii front lacks end =
    subst (λ s. FindsAt s ended before held (record { from = 0; to = n }) d) (sym e) (refl, ascii, front, unknown, lacks, end)

pub found_none : (ended : Bool) (held : List ℕ) (d : PageDecoder) → d.stage ≡ stage.First → IsUnknown d → ended ≡ false →
    Finds ended [] held (record { from = 0; to = 0 }) d
found_none ended held d e unknown on = subst (λ s.
    FindsAt s ended [] held (record { from = 0; to = 0 }) d) (sym e) (on, unknown, refl, refl)

pub lacks_still : (ended : Bool) (bytes : List ℕ) → LacksMark false bytes → LacksMark ended bytes
lacks_still ended bytes lacks = λ more may. lacks more tt

-- the bytes that are held wait for the encoding to be found
pub waits_none : (before held : List ℕ) (d : PageDecoder) → d.stage ≡ stage.Known → WaitsAt d.stage before held d → ⊥
waits_none before held d e waits = subst (λ s. WaitsAt s before held d) e waits

pub waits_ascii : (before held : List ℕ) (d : PageDecoder) → d.stage ≡ stage.Ascii → WaitsAt d.stage before held d →
    WaitsAt stage.Ascii before held d
waits_ascii before held d e waits = subst (λ s. WaitsAt s before held d) e waits

pub waits_first : (before held : List ℕ) (d : PageDecoder) → d.stage ≡ stage.First → WaitsAt d.stage before held d →
    WaitsAt stage.First before held d
waits_first before held d e waits = subst (λ s. WaitsAt s before held d) e waits

-- so do they after other bytes are held
pub waits_still : (s : Stage) (before held : List ℕ) (old new : PageDecoder) → new ≡ record old { held = new.held } →
    WaitsAt s before held old → WaitsAt s before held new
waits_still stage.First before held old new only waits = (waits.0, subst IsUnknown (sym only) waits.1)
waits_still stage.Ascii before held old new only waits = (waits.0, subst IsUnknown (sym only) waits.1, waits.2)
waits_still stage.Known before held old new only waits = waits

-- ---- what was held is decoded

take_none : (n : ℕ) → ◌≡◌ {A = List ℕ} (take n []) []
take_none zero = refl
take_none (suc n) = refl

drop_none : (n : ℕ) → ◌≡◌ {A = List ℕ} (drop n []) []
drop_none zero = refl
drop_none (suc n) = refl

pub decodes_held : (ended : Bool) (held text : List ℕ) (old mid after new : PageDecoder) (part : Part) → old.held.items ≡ held →
    ((before : List ℕ) → WaitsAt old.stage before held old → Finds ended before held part mid) →
    (old.stage ≡ stage.Known → mid ≡ record old { held = mid.held }) →
    after ≡ record mid { decoder = after.decoder } →
    (mid.stage ≡ stage.Known → (cs : List ℕ) → text ≡ encode_utf8_all cs → (more : List ℕ) →
    with_replacements (characters_behind mid.decoder (piece_of part held ++ more)) ≡ cs ++ text_ahead after more) →
    ((mid.stage ≡ stage.Known → ⊥) → (after ≡ mid) × (text ≡ text_of (characters Utf8 (piece_of part held)))) →
    new ≡ record after { held = new.held } → new.held.items ≡ drop part.to held → DecodesHeld ended old new text
decodes_held ended held text old mid after new part items finds same one known ascii two rest bytes read cs has spelt = by old.stage refl
    has
  where
    waits : (s : Stage) → old.stage ≡ s → WaitsAt s read held old → bytes ≡ read ++ held → HasDecoded ended bytes (read ++ cs) new
    waits s e waiting whole =
        held_decoded ended held read bytes cs text part mid after new whole (finds read (subst (λ t.
        WaitsAt t read held old) (sym e) waiting)) one
        (λ here. known here cs spelt) ascii spelt two rest

    by : (s : Stage) → old.stage ≡ s → StandsAt s false bytes read old → HasDecoded ended bytes (read ++ cs) new
    by stage.First e stands = waits stage.First e (stands.2, stands.1) (sym stands.3 ∙ items ∙ ap (λ r. r ++ held) (sym stands.2))
    by stage.Ascii e stands =
        let whole : bytes ≡ read ++ held = stands.0 ∙ ap (λ h. read ++ h) items in
        waits stage.Ascii e (stands.1, stands.2, subst (LacksMark false) whole stands.3) whole
    by stage.Known e stands =
        let kept = same e in
        let none : held ≡ [] = sym items ∙ stands.0 in
        let piece : piece_of part held ≡ [] = ap (piece_of part) none ∙ ap (drop part.from) (take_none part.to) ∙ drop_none part.from in
        let here : mid.stage ≡ stage.Known = ap (λ (d : PageDecoder). d.stage) kept ∙ e in
        subst (λ s. StandsAt s ended bytes (read ++ cs) new)
        (sym (ap (λ (d : PageDecoder). d.stage) two ∙ ap (λ (d : PageDecoder). d.stage) one ∙ here)) (
          rest ∙ ap (drop part.to) none ∙ drop_none part.to,
          λ more may.
              ap (λ (d : PageDecoder). text_in d.encoding (bytes ++ more)) two ∙ ap (λ (d : PageDecoder). text_in d.encoding (bytes ++ more)) one
              ∙ ap (λ (d : PageDecoder). text_in d.encoding (bytes ++ more)) kept ∙ stands.1 more tt
              ∙ ap (λ (d : PageDecoder). read ++ text_ahead d more) (sym kept)
              ∙ ap (λ p. read ++ with_replacements (characters_behind mid.decoder (p ++ more))) (sym piece)
              ∙ ap (λ t. read ++ t) (known here cs spelt more) ∙ sym (append_assoc read cs (text_ahead after more))
              ∙ ap (λ (d : PageDecoder). (read ++ cs) ++ text_ahead d more) (sym two),
        )

-- a text that is decoded stands before that of the bytes behind it
pub part_text : (text : Decoded) (whole rest : List (Option ℕ)) (cs : List ℕ) → Begins text whole rest →
    string_bytes text.text ≡ encode_utf8_all cs →
    with_replacements whole ≡ cs ++ with_replacements rest
part_text text whole rest cs begins spelt = piece_behind (Owned text) whole rest cs begins spelt

-- ---- more bytes come

-- they are held
pub holds_more : (bytes piece read : List ℕ) (old new : PageDecoder) → (old.stage ≡ stage.Known → ⊥) →
    new ≡ record old { held = new.held } →
    new.held.items ≡ old.held.items ++ piece → HasDecoded false bytes read old → HasDecoded false (bytes ++ piece) read new
holds_more bytes piece read old new unknown only items has =
    subst (λ s. StandsAt s false (bytes ++ piece) read new) (sym (ap (λ (d : PageDecoder). d.stage) only)) (by old.stage refl has)
  where
    same : IsUnknown old → IsUnknown new
    same is = subst IsUnknown (sym only) is

    by : (s : Stage) → old.stage ≡ s → StandsAt s false bytes read old → StandsAt s false (bytes ++ piece) read new
    by stage.First e stands = (refl, same stands.1, stands.2, items ∙ ap (λ b. b ++ piece) stands.3)
    by stage.Ascii e stands = (
      ap (λ b. b ++ piece) stands.0 ∙ append_assoc read old.held.items piece ∙ ap (λ h. read ++ h) (sym items),
      stands.1,
      same stands.2,
      λ more may. ap for_bom (append_assoc bytes piece more) ∙ stands.3 (piece ++ more) tt,
      λ end. absurd (true≢false (sym end)),
    )
    by stage.Known e stands = absurd (unknown e)

-- they are decoded, where the encoding is known
pub known_on : (piece : List ℕ) (old new : PageDecoder) (text : DecodedText) → old.stage ≡ stage.Known →
    new ≡ record old { decoder = new.decoder } →
    ((more : List ℕ) → BeginsWith text (characters_behind old.decoder (piece ++ more)) (characters_behind new.decoder more)) →
    DecodesOn piece old new (text_bytes text)
known_on piece old new text e only begins bytes read cs has spelt =
    let known : StandsAt stage.Known false bytes read old = subst (λ s. StandsAt s false bytes read old) e has in
    subst (λ s. StandsAt s false (bytes ++ piece) (read ++ cs) new) (sym (ap (λ (d : PageDecoder). d.stage) only ∙ e)) (
      ap (λ (d : PageDecoder). d.held.items) only ∙ known.0,
      λ more may.
          ap (λ (d : PageDecoder). text_in d.encoding ((bytes ++ piece) ++ more)) only ∙ ap (text_in old.encoding) (append_assoc bytes piece more)
          ∙ known.1 (piece ++ more) tt
          ∙ ap (λ t. read ++ t)
          (piece_behind text (characters_behind old.decoder (piece ++ more)) (characters_behind new.decoder more) cs (begins more) spelt)
          ∙ sym (append_assoc read cs (text_ahead new more)),
    )

pub lent_on : {E : Type 0} (r : Result DecodedText E) (piece : List ℕ) (old new : PageDecoder) → old.stage ≡ stage.Known →
    new ≡ record old { decoder = new.decoder } →
    ((more : List ℕ) → IfOk r (λ text. BeginsWith text (characters_behind old.decoder (piece ++ more))
    (characters_behind new.decoder more))) →
    IfOk r (λ text. DecodesOn piece old new (text_bytes text))
lent_on (Ok text) piece old new e only begins = known_on piece old new text e only begins
lent_on (Err x) piece old new e only begins = tt

-- ---- the page ends

no_bytes : characters Utf8 [] ≡ []
unfolding utf8_characters
no_bytes = refl

ends_with : (bytes read : List ℕ) (d : PageDecoder) → HasDecoded true bytes read d → text_in d.encoding bytes ≡ read ++ text_ahead d []
ends_with bytes read d has = by d.stage has
  where
    by : (s : Stage) → StandsAt s true bytes read d → text_in d.encoding bytes ≡ read ++ text_ahead d []
    by stage.First stands = absurd (true≢false stands.0)
    by stage.Ascii stands =
        let whole : bytes ≡ read = stands.0 ∙ ap (λ h. read ++ h) (stands.4 refl) ∙ append-nil read in
        ap (λ e. text_in e bytes) stands.2.0 ∙ ap (text_in Utf8) (sym (append-nil bytes)) ∙ whole_text true Utf8 bytes [] stands.3 refl
        ∙ ap (λ b. with_replacements (characters Utf8 (b ++ []))) whole ∙ ascii_ahead Utf8 read [] (inl refl) stands.1
        ∙ ap (λ t. read ++ with_replacements t) (no_bytes ∙ sym stands.2.1)
    by stage.Known stands = ap (text_in d.encoding) (sym (append-nil bytes)) ∙ stands.1 [] refl

-- what was held is decoded, and then what is left
pub page_ends : (bytes read cs first last all : List ℕ) (old new : PageDecoder) → DecodesHeld true old new first → IsUtf8 first →
    last ≡ text_of (characters_behind new.decoder []) → all ≡ first ++ last → HasDecoded false bytes read old → all ≡ encode_utf8_all cs →
    text_in new.encoding bytes ≡ read ++ cs
unfolding text_of
page_ends bytes read cs first last all old new decodes utf8 last_is all_is has spelt =
    let given : first ≡ encode_utf8_all (chars first) = sym (encodes-chars first utf8) in
    ends_with bytes (read ++ chars first) new (decodes bytes read (chars first) has given)
    ∙ append_assoc read (chars first) (text_ahead new [])
    ∙ ap (λ t. read ++ t) (encodes_same (chars first ++ text_ahead new []) cs
    (encodes-append (chars first) (text_ahead new []) ∙ ap (λ a. a ++ encode_utf8_all (text_ahead new [])) (sym given)
    ∙ ap (λ b. first ++ b) (sym last_is) ∙ sym all_is ∙ spelt))
