-- Pages in UTF-8.
use Rattle.std.proofs.Common.{◌≡◌, ◌≤◌, ℕ, List, [], ◌∷◌, Bool, false, length, map, take, codes, refl, sym, ap, subst, ◌∙◌, arith, Option, Some, None}
use Rattle.std.specs.Prelude.{IsUtf8, MatchOption, nat_eq}
use Rattle.std.specs.Char.{to_ascii_lowercase}
use Rattle.std.proofs.lemmas.Bool.Decides.{nat_tests}
use Rattle.dom_links.specs.Forest.{Forest}
use Rattle.calm_pages.specs.Calm.{IsCalmPage, SpellsCalmPage}
use Rattle.page_reading.specs.Pages.{ReadsAsWritten}
use Rattle.page_trees.specs.Framed.{IsFramed}
use Rattle.encodings.specs.Labels.{for_bom}
use Rattle.encodings.specs.Prescan.{declared_encoding}
use Rattle.encodings.specs.declared.encoding.Encoding.{Encoding}
use Rattle.encodings.specs.declared.encoding.Encoding.TheVariants.{Utf8}
use Rattle.text_decoding.specs.Pages.{IsFallback, IsPageEncoding, page_text, said}
use Rattle.text_decoding.specs.declared.page.Charset.{Charset}
use Rattle.text_decoding.specs.declared.page.Confidence.{Confidence}
use Rattle.text_decoding.specs.declared.page.Confidence.TheVariants.{Fallback as Unsaid}
use Rattle.text_decoding.proofs.PageTexts.{utf8_page}

-- the bytes of the marks are no letters
other_byte : (mark byte : ℕ) → 128 ≤ mark → to_ascii_lowercase byte ≡ 60 → nat_eq mark byte ≡ false
other_byte mark byte high is = grind (arith, nat_tests)

-- a calm page begins with `<`, and so with no byte order mark
no_mark_at : (byte : ℕ) (rest : List ℕ) → to_ascii_lowercase byte ≡ 60 → for_bom (byte ∷ rest) ≡ None
no_mark_at byte rest is =
    let first : nat_eq 0xEF byte ≡ false = other_byte 0xEF byte (omega arith) is in
    let second : nat_eq 0xFE byte ≡ false = other_byte 0xFE byte (omega arith) is in
    let third : nat_eq 0xFF byte ≡ false = other_byte 0xFF byte (omega arith) is in
    rw (first, second, third) refl

no_mark : (bytes : List ℕ) → IsFramed bytes → for_bom bytes ≡ None
no_mark [] framed = absurd (omega (arith, framed.long))
no_mark (byte ∷ rest) framed = no_mark_at byte rest (head_is _ _ _ _ framed.front)
  where
    head_is : (a b : ℕ) (xs ys : List ℕ) → a ∷ xs ≡ b ∷ ys → a ≡ b
    head_is a b xs ys is = cc

abbrev of_said : Charset → List ℕ → Encoding → Confidence → Option (Encoding × Confidence) → Type 0
of_said charset bytes encoding confidence found =
    MatchOption found (IsFallback charset.fallback bytes encoding × (confidence ≡ Unsaid)) (λ said. said ≡ (encoding, confidence))

said_utf8 : (charset : Charset) (bytes : List ℕ) (encoding : Encoding) (confidence : Confidence) → charset.transport ≡ Some Utf8 → for_bom bytes ≡ None →
    IsPageEncoding charset bytes encoding confidence → encoding ≡ Utf8
said_utf8 charset bytes encoding confidence transport none is =
    let found : said (for_bom bytes) charset.transport (declared_encoding bytes) ≡ said None (Some Utf8) (declared_encoding bytes) =
    ap (λ mark. said mark charset.transport (declared_encoding bytes)) none ∙ ap (λ t. said None t (declared_encoding bytes)) transport in
    sym (ap (λ pair. pair.0) (subst (of_said charset bytes encoding confidence) found is))

-- a page in UTF-8 that comes as UTF-8 is parsed as it is written
pub utf8_written : (charset : Charset) (bytes : List ℕ) (encoding : Encoding) (confidence : Confidence) (tree : Forest) → charset.transport ≡ Some Utf8 → IsUtf8 bytes →
    IsPageEncoding charset bytes encoding confidence → ReadsAsWritten (page_text encoding bytes) tree → ReadsAsWritten bytes tree
utf8_written charset bytes encoding confidence tree transport utf8 is read = record {
  calm = λ trees page. read.calm trees (subst (λ text. IsCalmPage text trees) (sym (itself page.framed)) page);
  same = λ forest spelled. read.same forest (subst (λ text. SpellsCalmPage text forest) (sym (itself spelled.page.framed)) spelled);
}
  where
    itself : IsFramed bytes → page_text encoding bytes ≡ bytes
    itself framed =
        let none : for_bom bytes ≡ None = no_mark bytes framed in
        ap (λ e. page_text e bytes) (said_utf8 charset bytes encoding confidence transport none is) ∙ utf8_page bytes utf8 none
