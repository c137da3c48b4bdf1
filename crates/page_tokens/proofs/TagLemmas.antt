-- Tags as they are written, and the parts into which they are read.
use Rattle.std.proofs.Common.{ℕ, ◌≡◌, ◌<◌, ◌≤◌, ◌+◌, ◌-◌, true, false, not, List, [], ◌∷◌, ◌++◌, refl, sym, ap, ◌∙◌, length, map, take, drop, take_all, take_at, drop_at, get_or, string_bytes, subst, Option, Some, None, IfSome, Bor, arith}
use Rattle.std.specs.Char.{is_ascii_lowercase, is_ascii_alphabetic, to_ascii_lowercase}
use Rattle.std.specs.List.{list_all}
use Rattle.std.specs.Option.{IsSomeAnd}
use Rattle.std.specs.Str.{IsUtf8}
use Rattle.std.specs.Str.Pattern.{GetsRange}
use Rattle.std.proofs.lemmas.Bool.{and_parts}
use Rattle.std.proofs.lemmas.Str.{IsCharBoundary-after_ascii, IsCharBoundary-end}
use Rattle.std.proofs.lemmas.List.Sums.{prefix_len_is}
use Rattle.page_tokens.specs.Runs.{ends_tag_name, tag_name_len_of}
use Rattle.page_tokens.specs.Tags.{is_plain_letter, IsPlainName, IsBareTag, IsBareTagToken}
use Rattle.page_tokens.specs.Drafts.{IsTagOf}
use Rattle.page_tokens.specs.declared.token.Tag.{Tag}
use Rattle.page_tokens.specs.declared.token.TagKind.{TagKind}
use Rattle.page_tokens.specs.declared.token.Token.{Token}
use Rattle.page_tokens.specs.declared.token.Token.TheVariants.{Tag as TheTag}
use Rattle.page_tokens.specs.declared.tokenizer.Tokenizer.{Tokenizer}
use Rattle.page_tokens.specs.Reading.{IsInText, text_of}
use Rattle.page_tokens.specs.declared.tokenizer.draft.TagDraft.{TagDraft}

-- no byte before n ends a tag name, and that at n does, if there is one
pub tag_name_len_is : (text : List ℕ) (n : ℕ) → n ≤ length text → ((k : ℕ) → k < n → ends_tag_name (get_or text k 0) ≡ false) →
    (n < length text → ends_tag_name (get_or text n 0) ≡ true) → n ≡ tag_name_len_of text
tag_name_len_is text n within before at =
    sym (prefix_len_is (λ b. not (ends_tag_name b)) text n 0 within (λ k h. ap not (before k h)) (λ h. ap not (at h)))

get_behind_byte : (byte : ℕ) (rest : List ℕ) (r : Option (Bor (List ℕ))) → IsUtf8 (byte ∷ rest) → byte < 128 → GetsRange (byte ∷ rest) 1 (length (byte ∷ rest)) r →
    IsSomeAnd r (λ left. left.now ≡ rest)
get_behind_byte byte rest None utf8 low gets = absurd (gets (omega arith) (IsCharBoundary-after_ascii (byte ∷ rest) 0 utf8 (omega arith) low) (IsCharBoundary-end (byte ∷ rest)))
get_behind_byte byte rest (Some x) utf8 low gets =
    let e : length (byte ∷ rest) - 1 ≡ length rest = omega arith in
    gets.0 ∙ ap (λ n. take n rest) e ∙ take_all (length rest) rest (omega arith)

-- what follows the byte at the front of a text
pub get_behind : (s rest : List ℕ) (byte : ℕ) (r : Option (Bor (List ℕ))) → IsUtf8 s → byte < 128 → s ≡ byte ∷ rest → GetsRange s 1 (length s) r →
    IsSomeAnd r (λ left. left.now ≡ rest)
get_behind s rest byte r utf8 low is gets =
    get_behind_byte byte rest r (subst IsUtf8 is utf8) low (subst (λ (t : List ℕ). GetsRange t 1 (length t) r) is gets)

-- the byte at the front of a text, in front of what follows
pub front_byte : (s : List ℕ) (byte : ℕ) (r : Option (Bor (List ℕ))) → get_or s 0 0 ≡ byte → GetsRange s 1 (length s) r → IfSome r (λ left. s ≡ byte ∷ left.now)
front_byte s byte None first gets = tt
front_byte [] byte (Some x) first gets = let no : length x.now + 1 ≡ 0 = gets.1 in absurd (omega (arith, no))
front_byte (b ∷ s) byte (Some x) first gets =
    let e : length (b ∷ s) - 1 ≡ length s = omega arith in
    let left : x.now ≡ s = gets.0 ∙ ap (λ n. take n s) e ∙ take_all (length s) s (omega arith) in
    ap (λ k. k ∷ s) first ∙ ap (λ (t : List ℕ). byte ∷ t) (sym left)

pub letter_ends_no_name : (b : ℕ) → is_plain_letter b ≡ true → ends_tag_name b ≡ false
letter_ends_no_name b h = grind arith

pub letter_is_folded : (b : ℕ) → is_plain_letter b ≡ true → to_ascii_lowercase b ≡ b
letter_is_folded b h = grind arith

letters_len : (name rest : List ℕ) → list_all is_plain_letter name ≡ true → tag_name_len_of (name ++ 62 ∷ rest) ≡ length name
letters_len [] rest h = refl
letters_len (b ∷ name) rest h =
    let parts = and_parts (is_plain_letter b) (list_all is_plain_letter name) h in
    let e : 1 + length name ≡ length (b ∷ name) = omega arith in
    rw (letter_ends_no_name b parts.0, letters_len name rest parts.1) e

letters_folded : (name : List ℕ) → list_all is_plain_letter name ≡ true → map to_ascii_lowercase name ≡ name
letters_folded [] h = refl
letters_folded (b ∷ name) h =
    let parts = and_parts (is_plain_letter b) (list_all is_plain_letter name) h in
    rw (letter_is_folded b parts.0, letters_folded name parts.1) refl

-- the letters of a plain name
pub letters_of : (name : List ℕ) → IsPlainName name → list_all is_plain_letter name ≡ true
letters_of [] h = absurd (cc)
letters_of (b ∷ name) h =
    let parts = and_parts (is_ascii_lowercase b) (list_all is_plain_letter name) h in
    rw (parts.0, parts.1) refl

pub plain_len : (name rest : List ℕ) → IsPlainName name → tag_name_len_of (name ++ 62 ∷ rest) ≡ length name
plain_len name rest h = letters_len name rest (letters_of name h)

pub plain_folded : (name : List ℕ) → IsPlainName name → map to_ascii_lowercase name ≡ name
plain_folded name h = letters_folded name (letters_of name h)

pub plain_some : (name : List ℕ) → IsPlainName name → 0 < length name
plain_some [] h = absurd (cc)
plain_some (b ∷ name) h = omega arith

-- a plain name and what follows it, cut where the name ends
pub plain_cut : (text name rest front back : List ℕ) (n : ℕ) → IsPlainName name → text ≡ name ++ 62 ∷ rest → n ≡ tag_name_len_of text →
    front ≡ take n text → back ≡ drop n text → (front ≡ name) × (back ≡ 62 ∷ rest)
plain_cut text name rest front back n plain is len front_is back_is =
    let at : length name ≡ n = sym (len ∙ ap tag_name_len_of is ∙ plain_len name rest plain) in
    (front_is ∙ ap (λ (t : List ℕ). take n t) is ∙ take_at name (62 ∷ rest) n at, back_is ∙ ap (λ (t : List ℕ). drop n t) is ∙ drop_at name (62 ∷ rest) n at)

-- the tag that was read is the one of that kind and that plain name
pub bare_of : (draft : TagDraft) (kind : TagKind) (name : List ℕ) (ended : Option Tag) → IsPlainName name → draft.kind ≡ kind → string_bytes draft.name ≡ name →
    draft.attrs.kept.items ≡ [] → draft.self_closing ≡ false → IsSomeAnd ended (IsTagOf draft) → IsSomeAnd ended (IsBareTag kind name)
bare_of draft kind name None plain kind_is name_is attrs self_closing tag = absurd tag
bare_of draft kind name (Some ended) plain kind_is name_is attrs self_closing tag = record {
  kind_is = tag.kind ∙ kind_is;
  name_is = tag.name ∙ ap (map to_ascii_lowercase) name_is ∙ plain_folded name plain;
  attrs = tag.attrs ∙ attrs;
  self_closing = tag.self_closing ∙ self_closing;
}

letter_begins : (b : ℕ) → is_ascii_lowercase b ≡ true → is_ascii_alphabetic b ≡ true
letter_begins b h = grind arith

-- a name of a tag begins with a letter
pub begins_name : (name rest : List ℕ) → IsPlainName name → is_ascii_alphabetic (get_or (name ++ 62 ∷ rest) 0 0) ≡ true
begins_name [] rest plain = absurd (cc)
begins_name (b ∷ name) rest plain =
    let lower : is_ascii_lowercase b ≡ true = (and_parts (is_ascii_lowercase b) (list_all is_plain_letter name) plain).0 in
    letter_begins b lower

-- the tag that ended last is the token that is taken out
pub taken_of : (kind : TagKind) (name : List ℕ) (old mid new : Tokenizer) (token : Option Token) (ended : Option Tag) → mid.ended ≡ ended →
    IsSomeAnd ended (IsBareTag kind name) →
    ((tag : Tag) → mid.ended ≡ Some tag → (token ≡ Some (TheTag tag)) × (new ≡ record mid { ended = None })) → IsInText mid → text_of mid ≡ text_of old →
    IsSomeAnd token (IsBareTagToken kind name) × IsInText new × (text_of new ≡ text_of old)
taken_of kind name old mid new token None is tag put in_text text = absurd tag
taken_of kind name old mid new token (Some ended) is tag put in_text text =
    let p = put ended is in
    let in_new : IsInText (record mid { ended = None }) = record { state = in_text.state; reference = in_text.reference; after_return = in_text.after_return } in
    (subst (λ (t : Option Token). IsSomeAnd t (IsBareTagToken kind name)) (sym p.0) tag, subst IsInText (sym p.1) in_new, ap text_of p.1 ∙ text)
