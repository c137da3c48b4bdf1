-- The token that the tokenizer keeps is the one that tree construction is told.
use Rattle.std.proofs.Common.{◌≡◌, ◌∙◌, ◌∷◌, ◌||◌, ◌&&◌, Bool, List, [], ap, false, inl, inr, map, not, refl, reverse, subst, sym, true, ℕ, true≢false}
use Rattle.std.specs.Char.{char_set_contains, is_ascii_uppercase, to_ascii_lowercase}
use Rattle.std.specs.Option.{IsSomeAnd}
use Rattle.std.specs.Prelude.{None, Some, codes, encode_utf8_all, nat_le, string_bytes, ◌==◌}
use Rattle.std.proofs.lemmas.Bool.{and_parts, cases_lt, le-leb}
use Rattle.std.proofs.lemmas.Str.Ascii.{lowercase_is}
use Rattle.standard_tokens.specs.Entries.{TagKind as StandardKind, Ending, Starting}
use Rattle.standard_tokens.specs.Machine.{Tag as StandardTag, distinct, token_of}
use Rattle.standard_tokens.specs.Tokens.{AComment, ADoctype, AStart, AnEnd, Doctype as StandardDoctype, Token}
use Rattle.standard_trees.specs.GrowingTree.{lower}
use Rattle.standard_trees.specs.TreeStore.{is_member}
use Rattle.page_tokens.specs.PlainNames.{are_plain, has_plain_names, is_name_char, is_plain}
use Rattle.page_tokens.specs.Standard.{IsDoctype, IsTag, Told}
use Rattle.page_tokens.specs.declared.token.Doctype.{Doctype}
use Rattle.page_tokens.specs.declared.token.Tag.{Tag}
use Rattle.page_tokens.specs.declared.token.TokenKind.TheVariants as kind
use Rattle.page_tokens.specs.declared.tokenizer.Tokenizer.{Tokenizer}
use Rattle.page_trees.specs.CoveredTurns.{TakesTokens}
use Rattle.page_trees.specs.Stands.{IsTagName}
use Rattle.page_trees.specs.declared.builder.TreeBuilder.{TreeBuilder}

-- ---- names

no_or : (x y : Bool) → not (x || y) ≡ true → (x ≡ false) × (y ≡ false)
no_or true y h = absurd (true≢false (sym h))
no_or false true h = absurd (true≢false (sym h))
no_or false false h = (refl, refl)

lower_kept : (c : ℕ) → is_ascii_uppercase c ≡ false → to_ascii_lowercase c ≡ c
lower_kept c plain = elim (cases_lt c 65) [
  | inl below ↦ (lowercase_is c).1 below
  | inr from ↦
      elim (cases_lt 90 c) [
        | inl above ↦ (lowercase_is c).2 above
        | inr upto ↦ absurd (true≢false (sym (ap (λ x. x && nat_le c 90) (le-leb 65 c from) ∙ le-leb c 90 upto) ∙ plain))
      ]
]

pub lower_same : (name : List ℕ) → is_plain name ≡ true → lower name ≡ name
lower_same [] h = refl
lower_same (c ∷ name) h =
    let parts = and_parts (is_name_char c) (is_plain name) h in
    ap (λ d. d ∷ map to_ascii_lowercase name) (lower_kept c (no_or (char_set_contains (0x9 ∷ 0xa ∷ 0xc ∷ 0x20 ∷ codes "/>") c) (is_ascii_uppercase c) parts.0).1)
    ∙ ap (λ cs. c ∷ cs) (lower_same name parts.1)

unspaced : (name : List ℕ) → is_plain name ≡ true → is_member 32 name ≡ false
unspaced [] h = refl
unspaced (c ∷ name) h =
    let parts = and_parts (is_name_char c) (is_plain name) h in
    let marks = (no_or (char_set_contains (0x9 ∷ 0xa ∷ 0xc ∷ 0x20 ∷ codes "/>") c) (is_ascii_uppercase c) parts.0).0 in
    ap (λ x. x || is_member 32 name) (fourth (9 == c) (10 == c) (12 == c) (32 == c) (char_set_contains (codes "/>") c) marks) ∙ unspaced name parts.1
  where
    fourth : (x y z w v : Bool) → x || (y || (z || (w || v))) ≡ false → w ≡ false
    fourth true y z w v h = absurd (true≢false h)
    fourth false true z w v h = absurd (true≢false h)
    fourth false false true w v h = absurd (true≢false h)
    fourth false false false true v h = absurd (true≢false h)
    fourth false false false false v h = refl

pub tag_named : (one : StandardTag) → has_plain_names (token_of one) ≡ true → IsTagName one.name
tag_named one h =
    let plain = by one.kind h in
    record { lower_case = lower_same one.name plain; unspaced = unspaced one.name plain }
  where
    by : (k : StandardKind) → has_plain_names (elim k [ Starting ↦ AStart one.name (distinct (reverse one.attrs)) one.self_closing | Ending ↦ AnEnd one.name ]) ≡ true → is_plain one.name ≡ true
    by Starting e = (and_parts (is_plain one.name) (are_plain (distinct (reverse one.attrs))) e).0
    by Ending e = e

-- ---- tokens

head_of : (t u : Token) → t ∷ [] ≡ u ∷ [] → t ≡ u
head_of t u e = cc

pub tag_told : (t : Tokenizer) (tag : Tag) (token : Token) (a b : TreeBuilder) → t.ended ≡ Some tag →
    ((one : StandardTag) → IsTag one tag → has_plain_names (token_of one) ≡ true → TakesTokens (token_of one ∷ []) a b) → Told (Some kind.Tag) t (token ∷ []) → has_plain_names token ≡ true →
    TakesTokens (token ∷ []) a b
tag_told t tag token a b ended takes told plain =
    subst (λ ts. TakesTokens ts a b) (sym told.1)
    (takes told.0 (subst (λ o. IsSomeAnd o (IsTag told.0)) ended told.2) (ap has_plain_names (sym (head_of token (token_of told.0) told.1)) ∙ plain))

pub no_tag_told : (t : Tokenizer) (token : Token) (a b : TreeBuilder) → t.ended ≡ None → Told (Some kind.Tag) t (token ∷ []) → TakesTokens (token ∷ []) a b
no_tag_told t token a b none told = absurd (subst (λ o. IsSomeAnd o (IsTag told.0)) none told.2)

pub comment_told : (t : Tokenizer) (text : List ℕ) (token : Token) (a b : TreeBuilder) → text ≡ string_bytes t.comment →
    ((cs : List ℕ) → text ≡ encode_utf8_all cs → TakesTokens (AComment cs ∷ []) a b) → Told (Some kind.Comment) t (token ∷ []) → TakesTokens (token ∷ []) a b
comment_told t text token a b same takes told = subst (λ ts. TakesTokens ts a b) (sym told.1) (takes told.0 (same ∙ told.2))

pub doctype_told : (t : Tokenizer) (doctype : Doctype) (token : Token) (a b : TreeBuilder) → doctype ≡ t.doctype →
    ((one : StandardDoctype) → IsDoctype doctype one → TakesTokens (ADoctype one ∷ []) a b) → Told (Some kind.Doctype) t (token ∷ []) → TakesTokens (token ∷ []) a b
doctype_told t doctype token a b same takes told =
    subst (λ ts. TakesTokens ts a b) (sym told.1) (takes told.0 (subst (λ (d : Doctype). IsDoctype d told.0) (sym same) told.2))
