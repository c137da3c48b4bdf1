-- The tokenizer reads the letters of names and the ends of tags as the standard does.
use Rattle.std.specs.Prelude.{◌≡◌, ℕ, ◌<◌, Bool, true, false, List, [], ◌∷◌, ◌++◌, map, length, reverse, Option, None, Some, string_bytes, MatchBool, refl}
use Rattle.std.proofs.Common.{arith}
use Rattle.std.specs.Char.{to_ascii_lowercase}
use Rattle.std.specs.List.{list_any}
use Rattle.std.specs.Option.{IsSomeAnd}
use Rattle.std.specs.Str.{encode_utf8_all}
use mathlib.Core.Path.{◌∙◌, sym, ap, subst}
use Rattle.standard_tokens.specs.Entries.{TagKind as StandardKind, Starting, Ending}
use Rattle.standard_tokens.specs.Machine.{Tag as StandardTag, distinct, last_start_of}
use Rattle.standard_tokens.specs.Tokens.{Attr}
use Rattle.page_tokens.specs.Attributes.{AddsAttr, is_named}
use Rattle.page_tokens.specs.Drafts.{FinishesAttr, IsTagOf, NotesKind, NotesStart}
use Rattle.page_tokens.specs.Changes.{Remembers}
use Rattle.page_tokens.specs.Reading.{text_of}
use Rattle.page_tokens.specs.Standard.{AreAttrs, EmitsTag, HoldsAttrs, IsDraft, IsLast, IsTag, kind_of}
use Rattle.page_tokens.specs.declared.attribute.TagAttr.{TagAttr}
use Rattle.page_tokens.specs.declared.token.Tag.{Tag}
use Rattle.page_tokens.specs.declared.token.TagKind.{TagKind}
use Rattle.page_tokens.specs.declared.token.TagKind.TheVariants as kind
use Rattle.page_tokens.specs.declared.token.TokenKind.{TokenKind}
use Rattle.page_tokens.specs.declared.token.TokenKind.TheVariants as token
use Rattle.page_tokens.specs.declared.tokenizer.Tokenizer.{Tokenizer}
use Rattle.page_tokens.specs.declared.tokenizer.state.State.TheVariants as state
use Rattle.page_tokens.specs.declared.tokenizer.draft.TagDraft.{TagDraft}
use Rattle.page_tokens.proofs.Lowered.{lowered_once}
use Rattle.page_tokens.proofs.RepeatedAttributes.{finished_first, finished_twice}

-- what is held of attributes, once the one that was being read is finished
finished_attrs : (old new : List TagAttr) (name value : List ℕ) (attr : Attr) (attrs : List Attr) → AreAttrs old (distinct (reverse attrs)) → name ≡ encode_utf8_all attr.name → value ≡ encode_utf8_all attr.value →
    AddsAttr old new name value → AreAttrs new (distinct (reverse (attr ∷ attrs)))
finished_attrs old new name value attr attrs are name_is value_is adds = go (list_any (is_named name) old) refl adds
  where
    go : (b : Bool) → list_any (is_named name) old ≡ b →
        MatchBool b (new ≡ old) ((k : TagAttr) × (new ≡ old ++ k ∷ []) × (string_bytes k.name ≡ name) × (string_bytes k.value ≡ value)) → AreAttrs new (distinct (reverse (attr ∷ attrs)))
    go true has same = subst (λ ks. AreAttrs ks (distinct (reverse (attr ∷ attrs)))) (sym same) (finished_twice old attrs attr name are name_is has)
    go false has more =
        let k : TagAttr = more.0 in
        subst (λ ks. AreAttrs ks (distinct (reverse (attr ∷ attrs)))) (sym more.1)
        (finished_first old attrs attr k are (record { name = more.2 ∙ name_is; value = more.3 ∙ value_is }) (ap (λ n. list_any (is_named n) old) more.2 ∙ has))

-- with an attribute that is being read
pub unfinished : (kept : List TagAttr) (name value : List ℕ) (attrs : List Attr) → 0 < length name → HoldsAttrs kept name value attrs →
    (attr : Attr) × (older : List Attr) × (attrs ≡ attr ∷ older) × (map to_ascii_lowercase name ≡ encode_utf8_all attr.name) × (value ≡ encode_utf8_all attr.value) × AreAttrs kept (distinct (reverse older))
unfinished kept [] value attrs some held = absurd (omega (arith, some))
unfinished kept (b ∷ name) value [] some held = absurd held
unfinished kept (b ∷ name) value (attr ∷ older) some held = (attr, older, refl, held.0, held.1, held.2)

-- the tag is the same behind it
pub draft_finished : (old new : TagDraft) (other : StandardTag) → 0 < length (string_bytes old.attr_name) → FinishesAttr old new → IsDraft old other → IsDraft new other
draft_finished old new other some finishes is =
    let open_attr : (attr : Attr) × (older : List Attr) × (other.attrs ≡ attr ∷ older) × (map to_ascii_lowercase (string_bytes old.attr_name) ≡ encode_utf8_all attr.name)
    × (string_bytes old.attr_value ≡ encode_utf8_all attr.value) × AreAttrs old.attrs.kept.items (distinct (reverse older)) =
    unfinished old.attrs.kept.items (string_bytes old.attr_name) (string_bytes old.attr_value) other.attrs some is.attrs in
    let are : AreAttrs new.attrs.kept.items (distinct (reverse other.attrs)) =
    subst (λ attrs. AreAttrs new.attrs.kept.items (distinct (reverse attrs))) (sym open_attr.2)
    (finished_attrs old.attrs.kept.items new.attrs.kept.items (map to_ascii_lowercase (string_bytes old.attr_name)) (string_bytes old.attr_value) open_attr.0 open_attr.1 open_attr.5 open_attr.3 open_attr.4 finishes.adds) in
    record {
      kind = ap (λ d. kind_of d.kind) finishes.only ∙ is.kind;
      named = subst (λ (d : TagDraft). 0 < length (string_bytes d.name)) (sym finishes.only) is.named;
      name = ap (λ d. map to_ascii_lowercase (string_bytes d.name)) finishes.only ∙ is.name;
      attrs = holds new.attrs.kept.items (string_bytes new.attr_name) (string_bytes new.attr_value) other.attrs finishes.name finishes.value are;
      self_closing = ap (λ d. d.self_closing) finishes.only ∙ is.self_closing;
    }
  where
    holds : (kept : List TagAttr) (name value : List ℕ) (attrs : List Attr) → name ≡ [] → value ≡ [] → AreAttrs kept (distinct (reverse attrs)) → HoldsAttrs kept name value attrs
    holds kept [] value attrs e f are = (f, are)
    holds kept (b ∷ name) value attrs e f are = absurd (cc)

-- the finished tag is the one that the standard emits
pub tag_of_draft : (draft : TagDraft) (tag : Tag) (other : StandardTag) → string_bytes draft.attr_name ≡ [] → IsDraft draft other → IsTagOf draft tag → IsTag other tag
tag_of_draft draft tag other none is of = record {
  kind = ap kind_of of.kind ∙ is.kind;
  name = of.name ∙ is.name;
  attrs = subst (λ ks. AreAttrs ks (distinct (reverse other.attrs))) (sym of.attrs) (all_finished draft.attrs.kept.items (string_bytes draft.attr_name) (string_bytes draft.attr_value) other.attrs none is.attrs);
  self_closing = of.self_closing ∙ is.self_closing;
}
  where
    all_finished : (kept : List TagAttr) (name value : List ℕ) (attrs : List Attr) → name ≡ [] → HoldsAttrs kept name value attrs → AreAttrs kept (distinct (reverse attrs))
    all_finished kept [] value attrs e held = held.1
    all_finished kept (b ∷ name) value attrs e held = absurd (cc)

-- whether or not an attribute was being read
pub draft_of_finish : (old new : TagDraft) (other : StandardTag) → (string_bytes old.attr_name ≡ [] → new ≡ old) → (0 < length (string_bytes old.attr_name) → FinishesAttr old new) → IsDraft old other →
    IsDraft new other × (string_bytes new.attr_name ≡ [])
draft_of_finish old new other none some is = go (string_bytes old.attr_name) refl
  where
    go : (name : List ℕ) → string_bytes old.attr_name ≡ name → IsDraft new other × (string_bytes new.attr_name ≡ [])
    go [] e = (subst (λ d. IsDraft d other) (sym (none e)) is, ap (λ d. string_bytes d.attr_name) (none e) ∙ e)
    go (b ∷ name) e =
        let long : 0 < length (string_bytes old.attr_name) = subst (λ (n : List ℕ). 0 < length n) (sym e) (omega arith) in
        (draft_finished old new other long (some long) is, (some long).name)

name_of_finish : (old new : TagDraft) → (string_bytes old.attr_name ≡ [] → new ≡ old) → (0 < length (string_bytes old.attr_name) → FinishesAttr old new) → new.name ≡ old.name
name_of_finish old new none some = go (string_bytes old.attr_name) refl
  where
    go : (name : List ℕ) → string_bytes old.attr_name ≡ name → new.name ≡ old.name
    go [] e = ap (λ d. d.name) (none e)
    go (b ∷ name) e = ap (λ d. d.name) (some (subst (λ (n : List ℕ). 0 < length n) (sym e) (omega arith))).only

-- the tag that ended is the standard's
last_is : (draft : TagDraft) (ended : Option Tag) (other : StandardTag) → string_bytes draft.attr_name ≡ [] → IsDraft draft other → IsSomeAnd ended (IsTagOf draft) → IsSomeAnd ended (IsTag other)
last_is draft None other none is of = of
last_is draft (Some tag) other none is of = tag_of_draft draft tag other none is of

-- and so is the name of the last start tag
last_start_is : (draft : TagDraft) (ended : Option Tag) (other : StandardTag) (old new : Tokenizer) (was : Option (List ℕ)) → IsSomeAnd ended (IsTag other) → IsSomeAnd ended (IsTagOf draft) → NotesStart ended old new → IsLast old.last_start was → IsLast new.last_start (last_start_of other was)
last_start_is draft None other old new was is of_draft notes last = absurd is
last_start_is draft (Some tag) other old new was is of_draft notes last = go tag.kind refl notes
  where
    of : (one : TagKind) (that : StandardKind) → kind_of one ≡ that → IsLast new.last_start (elim (kind_of one) [ Starting ↦ Some other.name | Ending ↦ was ]) → IsLast new.last_start (elim that [ Starting ↦ Some other.name | Ending ↦ was ])
    of one that e = subst (λ (k : StandardKind). IsLast new.last_start (elim k [ Starting ↦ Some other.name | Ending ↦ was ])) e

    go : (one : TagKind) → tag.kind ≡ one → NotesKind one tag old new → IsLast new.last_start (last_start_of other was)
    go kind.Start e noted = of kind.Start other.kind (sym (ap kind_of e) ∙ is.kind)
        (noted ∙ is.name, ap (map to_ascii_lowercase) (noted ∙ of_draft.name) ∙ lowered_once (string_bytes draft.name) ∙ sym (noted ∙ of_draft.name))
    go kind.End e noted = of kind.End other.kind (sym (ap kind_of e) ∙ is.kind) (subst (λ name. IsLast name was) (sym noted) last)

-- what emitting a tag comes to: `done` is the tokenizer with the attribute finished, `checked` with errors
pub emits : (old done checked new : Tokenizer) (draft : TagDraft) (ended : Option Tag) (told : Option TokenKind) → done ≡ record old { tag = done.tag } →
    (string_bytes old.tag.attr_name ≡ [] → done ≡ old) → (0 < length (string_bytes old.tag.attr_name) → FinishesAttr old.tag done.tag) →
    checked ≡ record done { state = state.Data; errors = checked.errors; refused = checked.refused } → Remembers done checked → 0 < length (string_bytes old.tag.name) → (0 < length (string_bytes checked.tag.name) → (result : Bool) × IsSomeAnd ended (IsTagOf checked.tag)) →
    new ≡ record checked { tag = draft; ended = ended; last_start = new.last_start } → NotesStart ended (record checked { tag = draft; ended = ended }) new → told ≡ Some token.Tag → new.refused ≡ false → EmitsTag old new told
emits old done checked new draft ended told done_is none some checked_is remembers named of_named new_is notes told_is free =
    let checked_free : checked.refused ≡ false = sym (ap (λ t. t.refused) new_is) ∙ free in
    let done_free : done.refused ≡ false = remembers checked_free in
    let tag_is : checked.tag ≡ done.tag = ap (λ t. t.tag) checked_is in
    let name_is : checked.tag.name ≡ old.tag.name = ap (λ d. d.name) tag_is ∙ name_of_finish old.tag done.tag (λ e. ap (λ t. t.tag) (none e)) some in
    let of : IsSomeAnd ended (IsTagOf checked.tag) = (of_named (subst (λ name. 0 < length (string_bytes name)) (sym name_is) named)).1 in
    let finished : (other : StandardTag) → IsDraft old.tag other → IsDraft checked.tag other × (string_bytes checked.tag.attr_name ≡ []) = λ other is.
    subst (λ d. IsDraft d other × (string_bytes d.attr_name ≡ [])) (sym tag_is) (draft_of_finish old.tag done.tag other (λ e. ap (λ t. t.tag) (none e)) some is) in
    let last : (other : StandardTag) → IsDraft old.tag other → IsSomeAnd ended (IsTag other) = λ other is. last_is checked.tag ended other (finished other is).1 (finished other is).0 of in
    record {
      memory = sym (ap (λ t. t.refused) done_is) ∙ done_free;
      told_is = told_is;
      leaves = record {
        in_foreign = ap (λ t. t.in_foreign) new_is ∙ ap (λ t. t.in_foreign) checked_is ∙ ap (λ t. t.in_foreign) done_is;
        after_return = ap (λ t. t.after_return) new_is ∙ ap (λ t. t.after_return) checked_is ∙ ap (λ t. t.after_return) done_is;
      };
      now_state = ap (λ t. t.state) new_is ∙ ap (λ t. t.state) checked_is;
      same_reference = ap (λ t. t.reference) new_is ∙ ap (λ t. t.reference) checked_is ∙ ap (λ t. t.reference) done_is;
      text = ap text_of new_is ∙ ap text_of checked_is ∙ ap text_of done_is;
      last_tag = λ other is. subst (λ (e : Option Tag). IsSomeAnd e (IsTag other)) (sym (ap (λ t. t.ended) new_is)) (last other is);
      last_start = λ other is was before. last_start_is checked.tag ended other (record checked { tag = draft; ended = ended }) new was (last other is) of notes
          (subst (λ name. IsLast name was) (sym (ap (λ t. t.last_start) checked_is ∙ ap (λ t. t.last_start) done_is)) before);
    }
