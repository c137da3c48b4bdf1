-- Where parse errors are collected, a text is read in parts. What is read of a part at the front of the text is read of the text.
-- Collecting the errors changes nothing of where the tokenizer stands.
use Rattle.std.specs.Prelude.{◌≡◌, ℕ, ◌+◌, ◌+◌, ◌-◌, List, ◌++◌, length, take, drop, Option, refl}
use Rattle.std.proofs.Common.{arith}
use Rattle.std.specs.Str.{IsCharBoundary, IsUtf8, encode_utf8_all}
use Rattle.std.proofs.Math.Seq.{drop-append_seam}
use Rattle.std.proofs.lemmas.List.{append_assoc, length-append, take-append-drop}
use Rattle.std.proofs.lemmas.Str.{IsCharBoundary-at_seam, IsUtf8-append}
use mathlib.Core.Path.{◌∙◌, sym, ap, subst}
use Rattle.page_tokens.specs.StandardPages.{BehindText, ReadsText, ReadsUpTo}
use Rattle.page_tokens.specs.declared.token.TokenKind.{TokenKind}
use Rattle.page_tokens.specs.declared.tokenizer.Tokenizer.{Tokenizer}
use Rattle.page_tokens.proofs.Placed.{holds_on}

-- errors are collected first
abbrev pub CollectsErrors : Tokenizer → Tokenizer → Type 0
CollectsErrors old new = new ≡ record old { errors = new.errors }

errors_first : (old mid new : Tokenizer) (read : List ℕ) (told : Option TokenKind) → CollectsErrors old mid →
    ReadsText mid new read told → ReadsText old new read told
errors_first old mid new read told only reads = go (subst (λ t. ReadsText t new read told) only reads)
  where
    made : Tokenizer
    made = record old { errors = mid.errors }

    go : ReadsText made new read told → ReadsText old new read told
    go text = record {
      memory = text.memory;
      in_foreign = text.in_foreign;
      reads = λ wants flag flag_is kept spelled m ahead rest holds.
          let to : BehindText flag kept made new read told m ahead rest = text.reads wants flag flag_is kept spelled m ahead rest (holds_on old made ahead m refl holds) in
          record {
            machine = to.machine;
            ahead' = to.ahead';
            all = to.all;
            tokens = to.tokens;
            goes = to.goes;
            holds = to.holds;
            text = to.text;
            ends = to.ends;
          };
    }

-- ---- the part is the first `n` bytes of the text, of which `left` is left

front_read : (text part left read : List ℕ) (n : ℕ) → part ≡ take n text → part ≡ read ++ left →
    text ≡ read ++ (left ++ drop n text)
front_read text part left read n front cut =
    sym (take-append-drop n text) ∙ ap (λ e. e ++ drop n text) (sym front ∙ cut) ∙ append_assoc read left (drop n text)

read_length : (part left read : List ℕ) → part ≡ read ++ left → length part - length left ≡ length read
read_length part left read cut =
    let e : length part ≡ length read + length left = ap length cut ∙ length-append read left in
    omega (arith, e)

pub part_seam : (text part left read : List ℕ) (n : ℕ) → part ≡ take n text → part ≡ read ++ left → IsUtf8 left →
    IsUtf8 (drop n text) → IsCharBoundary text (length part - length left)
part_seam text part left read n front cut utf8 more =
    subst (λ k. IsCharBoundary text k) (sym (read_length part left read cut))
    (IsCharBoundary-at_seam text read (left ++ drop n text) (front_read text part left read n front cut)
    (IsUtf8-append left (drop n text) utf8 more))

pub part_read : (old mid new : Tokenizer) (text part left rest : List ℕ) (n : ℕ) (before after : Option TokenKind) →
    CollectsErrors old mid → part ≡ take n text → rest ≡ drop (length part - length left) text →
    ReadsUpTo mid new part left before after → ReadsUpTo old new text rest before after
part_read old mid new text part left rest n before after only front is up =
    let read : List ℕ = encode_utf8_all up.read in
    let all : text ≡ read ++ (left ++ drop n text) = front_read text part left read n front up.cut in
    let same : rest ≡ left ++ drop n text =
    is ∙ ap (λ k. drop k text) (read_length part left read up.cut) ∙ ap (drop (length read)) all
    ∙ drop-append_seam read (left ++ drop n text) in
    record {
      read = up.read;
      told = up.told;
      cut = all ∙ ap (λ e. read ++ e) (sym same);
      reads = errors_first old mid new up.read up.told only up.reads;
      kind = up.kind;
    }
