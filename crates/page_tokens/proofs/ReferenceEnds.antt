-- Where a character reference stands, and what its end does: its characters go to the value of an attribute or to the text.
use Rattle.std.specs.Prelude.{◌≡◌, ℕ, ◌<◌, Bool, true, false, cond, List, [], ◌∷◌, ◌++◌, ◌⊎◌, map, length, string_bytes, refl}
use Rattle.std.proofs.Common.{inl, inr, arith}
use Rattle.std.specs.Str.{encode_utf8_all}
use Rattle.std.proofs.lemmas.List.{append-nil}
use Rattle.std.proofs.lemmas.Str.{encodes-append}
use mathlib.Core.Path.{◌∙◌, sym, ap, subst}
use Rattle.standard_tokens.specs.Entries.{Flush, AttrValue}
use Rattle.standard_tokens.specs.Machine.{Machine, Tag as StandardTag, added, at_state, done, emitted, is_value, with_value}
use Rattle.standard_tokens.specs.States.{State as StandardState}
use Rattle.standard_tokens.specs.Tokens.{Attr, Token as StandardToken, AChar}
use Rattle.page_tokens.specs.Changes.{Gains}
use Rattle.page_tokens.specs.Reading.{text_of}
use Rattle.page_tokens.specs.References.{EndsReference}
use Rattle.page_tokens.specs.Standard.{AllowsReference, Held, HoldsAttrs, IsDraft, IsLast, Leaves, ReferenceHeld, Stands, StandsInReference}
use Rattle.page_tokens.specs.StandardStates.{state_in, state_of}
use Rattle.page_tokens.specs.declared.tokenizer.Tokenizer.{Tokenizer}
use Rattle.page_tokens.specs.declared.tokenizer.draft.TagDraft.{TagDraft}
use Rattle.page_tokens.specs.declared.tokenizer.references.Reference.TheVariants as reference
use Rattle.page_tokens.specs.declared.tokenizer.state.AttrState.TheVariants as attr
use Rattle.page_tokens.specs.declared.tokenizer.state.Place.TheVariants as place
use Rattle.page_tokens.specs.declared.tokenizer.state.Quote.TheVariants as quote
use Rattle.page_tokens.specs.declared.tokenizer.state.State.{State}
use Rattle.page_tokens.specs.declared.tokenizer.state.State.TheVariants as state
use Rattle.page_tokens.proofs.PlaceLetters.{ReadsLetters, data_letters, double_letters, put_if, rcdata_letters, shown_if, single_letters, unquoted_letters}

-- ---- outside of the reference

-- the reference stands in text
pub record InText (s : State) : Type 0 where
  pub reads : ReadsLetters false (state_of s)
  pub no_value : is_value (state_of s) ≡ false
  pub allows : AllowsReference s
  pub held : (t : Tokenizer) (m : Machine) → Held s t [] m

-- the reference stands in the value of an attribute
pub record InValue (s : State) (draft : TagDraft) (tag : StandardTag) : Type 0 where
  pub reads : ReadsLetters true (state_of s)
  pub value : is_value (state_of s) ≡ true
  pub named : 0 < length (string_bytes draft.attr_name)
  pub is : IsDraft draft tag
  pub allows : AllowsReference s
  pub held : (t : Tokenizer) (m : Machine) → 0 < length (string_bytes t.tag.attr_name) → IsDraft t.tag m.tag → Held s t [] m

abbrev pub Place_of : State → TagDraft → StandardTag → Type 0
Place_of s draft tag = InText s ⊎ InValue s draft tag

pub place_of_reference : (s : State) (t : Tokenizer) (m : Machine) → AllowsReference s → Held s t [] m → Place_of s t.tag m.tag
place_of_reference state.Data t m allows held = inl (record { reads = data_letters; no_value = refl; allows = tt; held = λ t m. refl })
place_of_reference state.Rcdata t m allows held = inl (record { reads = rcdata_letters; no_value = refl; allows = tt; held = λ t m. refl })
place_of_reference (state.Attribute (attr.Quoted quote.Double)) t m allows held = inr (record { reads = double_letters; value = refl; named = held.2; is = held.1; allows = tt; held = λ t m some is. (refl, is, some) })
place_of_reference (state.Attribute (attr.Quoted quote.Single)) t m allows held = inr (record { reads = single_letters; value = refl; named = held.2; is = held.1; allows = tt; held = λ t m some is. (refl, is, some) })
place_of_reference (state.Attribute attr.Unquoted) t m allows held = inr (record { reads = unquoted_letters; value = refl; named = held.2; is = held.1; allows = tt; held = λ t m some is. (refl, is, some) })
place_of_reference (state.Attribute attr.BeforeName) t m allows held = absurd allows
place_of_reference (state.Attribute attr.Name) t m allows held = absurd allows
place_of_reference (state.Attribute attr.AfterName) t m allows held = absurd allows
place_of_reference (state.Attribute attr.BeforeValue) t m allows held = absurd allows
place_of_reference (state.Attribute attr.AfterQuoted) t m allows held = absurd allows
place_of_reference state.Rawtext t m allows held = absurd allows
place_of_reference state.Script t m allows held = absurd allows
place_of_reference state.Plaintext t m allows held = absurd allows
place_of_reference (state.Cdata inner) t m allows held = absurd allows
place_of_reference (state.Tag inner) t m allows held = absurd allows
place_of_reference (state.EndTag kind inner) t m allows held = absurd allows
place_of_reference (state.ScriptData inner) t m allows held = absurd allows
place_of_reference (state.Declaration seen) t m allows held = absurd allows
place_of_reference (state.Comment inner) t m allows held = absurd allows
place_of_reference (state.Doctype inner) t m allows held = absurd allows

-- what a machine in a reference has of the place of the reference
pub record Outside (t : Tokenizer) (m : Machine) : Type 0 where
  pub back : m.return_state ≡ state_of t.state
  pub last_start : IsLast t.last_start m.last_start
  pub place : Place_of t.state t.tag m.tag

pub outside_of : (t : Tokenizer) (ahead : List ℕ) (m : Machine) → StandsInReference t ahead m → Outside t m
outside_of t ahead m stands = record {
  back = stands.back;
  last_start = stands.last_start;
  place = place_of_reference t.state t m stands.place stands.outside;
}

-- a machine that is still in the reference
pub stands_in : (t : Tokenizer) (ahead : List ℕ) (m : Machine) → Outside t m → m.state ≡ state_in t.reference t.state → ReferenceHeld t.reference t ahead m → StandsInReference t ahead m
stands_in t ahead m outside at inside = go outside.place
  where
    go : Place_of t.state t.tag m.tag → StandsInReference t ahead m
    go (inl text) = record { state = at; back = outside.back; last_start = outside.last_start; place = text.allows; outside = text.held t m; inside = inside }
    go (inr value) = record { state = at; back = outside.back; last_start = outside.last_start; place = value.allows; outside = value.held t m value.named value.is; inside = inside }

-- ---- the reference ends

-- the machine behind the act that flushes the buffer
abbrev pub flushing : Machine → Machine
flushing m = at_state (done [] Flush m) (done [] Flush m).return_state

pub record Flushed (old new : Tokenizer) (P : List StandardToken → Machine → Type 0) : Type 0 where
  pub machine : Machine
  pub characters : List ℕ
  pub goes : P (map AChar characters) machine
  pub stands : Stands new [] machine
  pub text : text_of new ≡ text_of old ++ encode_utf8_all characters

-- characters are added to the value of the attribute
pub value_more : (old new : TagDraft) (tag : StandardTag) (put : List ℕ) → 0 < length (string_bytes old.attr_name) → IsDraft old tag → string_bytes new.attr_value ≡ string_bytes old.attr_value ++ encode_utf8_all put →
    IsDraft (record old { attr_value = new.attr_value }) (record tag { attrs = with_value tag.attrs put })
value_more old new tag put some is bytes = record {
  kind = is.kind;
  named = is.named;
  name = is.name;
  attrs = more (string_bytes old.attr_name) tag.attrs some is.attrs;
  self_closing = is.self_closing;
}
  where
    more : (name : List ℕ) (attrs : List Attr) → 0 < length name → HoldsAttrs old.attrs.kept.items name (string_bytes old.attr_value) attrs →
        HoldsAttrs old.attrs.kept.items name (string_bytes new.attr_value) (with_value attrs put)
    more [] attrs some held = absurd (omega (arith, some))
    more (b ∷ name) [] some held = absurd held
    more (b ∷ name) (one ∷ attrs) some held = (held.0, bytes ∙ ap (λ e. e ++ encode_utf8_all put) held.1 ∙ sym (encodes-append one.value put), held.2)

-- these characters are put where the reference stands
pub record PutsThere (old new : Tokenizer) (m : Machine) (put : List ℕ) : Type 0 where
  pub characters : List ℕ
  pub shows : shown_if (is_value m.return_state) put ≡ map AChar characters
  pub text : text_of new ≡ text_of old ++ encode_utf8_all characters
  pub outside : Outside new (put_if (is_value m.return_state) put m)

puts_text : (old new : Tokenizer) (m : Machine) (put : List ℕ) → Outside old m → InText old.state → Gains place.Text (record old { reference = reference.None; written = new.written }) new (encode_utf8_all put) → PutsThere old new m put
puts_text old new m put outside text gains =
    let e : is_value m.return_state ≡ false = ap is_value outside.back ∙ text.no_value in
    let made : Tokenizer = record old { reference = reference.None; written = new.written; text = new.text; errors = new.errors; refused = new.refused } in
    let there : Outside made m = record { back = outside.back; last_start = outside.last_start; place = inl text } in
    record {
      characters = put;
      shows = ap (λ x. shown_if x put) e;
      text = gains.1;
      outside = subst (λ x. Outside new (put_if x put m)) (sym e) (subst (λ t. Outside t m) (sym gains.0) there);
    }

puts_value : (old new : Tokenizer) (m : Machine) (put : List ℕ) → Outside old m → InValue old.state old.tag m.tag → Gains place.AttrValue (record old { reference = reference.None; written = new.written }) new (encode_utf8_all put) → PutsThere old new m put
puts_value old new m put outside value gains =
    let e : is_value m.return_state ≡ true = ap is_value outside.back ∙ value.value in
    let made : Tokenizer = record old { reference = reference.None; written = new.written; tag = record old.tag { attr_value = new.tag.attr_value }; errors = new.errors; refused = new.refused } in
    let there : Outside made (added AttrValue put m) = record {
      back = outside.back;
      last_start = outside.last_start;
      place = inr (record { reads = value.reads; value = value.value; named = value.named; is = value_more old.tag new.tag m.tag put value.named value.is gains.1; allows = value.allows; held = value.held });
    } in
    record {
      characters = [];
      shows = ap (λ x. shown_if x put) e;
      text = ap text_of gains.0 ∙ sym (append-nil (text_of old));
      outside = subst (λ x. Outside new (put_if x put m)) (sym e) (subst (λ t. Outside t (added AttrValue put m)) (sym gains.0) there);
    }

pub puts_there : (old new : Tokenizer) (m : Machine) (put : List ℕ) → Outside old m → EndsReference old new (encode_utf8_all put) → PutsThere old new m put
puts_there old new m put outside ends = go outside.place
  where
    was : Tokenizer
    was = record old { reference = reference.None; written = new.written }

    place_is : (b : Bool) → is_value (state_of old.state) ≡ b → Gains (cond b place.AttrValue place.Text) was new (encode_utf8_all put)
    place_is b e = subst (λ x. Gains (cond x place.AttrValue place.Text) was new (encode_utf8_all put)) e ends.gains

    go : Place_of old.state old.tag m.tag → PutsThere old new m put
    go (inl text) = puts_text old new m put outside text (place_is false text.no_value)
    go (inr value) = puts_value old new m put outside value (place_is true value.value)

-- in no reference
pub stands_out : (t : Tokenizer) (m : Machine) → t.reference ≡ reference.None → m.state ≡ state_of t.state → Outside t m → Stands t [] m
stands_out t m none at outside = go outside.place
  where
    go : Place_of t.state t.tag m.tag → Stands t [] m
    go (inl text) = record { reference = none; state = at; last_start = outside.last_start; held = text.held t m }
    go (inr value) = record { reference = none; state = at; last_start = outside.last_start; held = value.held t m value.named value.is }

pub outside_at : (t : Tokenizer) (m : Machine) (s : StandardState) → Outside t m → Outside t (at_state m s)
outside_at t m s outside = record { back = outside.back; last_start = outside.last_start; place = outside.place }

pub ends_none : (old new : Tokenizer) (put : List ℕ) → EndsReference old new put → new.reference ≡ reference.None
ends_none old new put ends = go (is_value (state_of old.state)) ends.gains
  where
    go : (b : Bool) → Gains (cond b place.AttrValue place.Text) (record old { reference = reference.None; written = new.written }) new put → new.reference ≡ reference.None
    go true gains = ap (λ t. t.reference) gains.0
    go false gains = ap (λ t. t.reference) gains.0

-- the buffer is flushed
pub flushed : (old new : Tokenizer) (m : Machine) (P : List StandardToken → Machine → Type 0) → Outside old m → EndsReference old new (encode_utf8_all m.buffer) →
    P (emitted [] Flush m ++ []) (flushing m) → Flushed old new P
flushed old new m P outside ends goes =
    let there : PutsThere old new m m.buffer = puts_there old new m m.buffer outside ends in
    let n : Machine = flushing m in
    record {
      machine = n;
      characters = there.characters;
      goes = subst (λ ts. P ts n) (append-nil (emitted [] Flush m) ∙ there.shows) goes;
      stands = stands_out new n (ends_none old new (encode_utf8_all m.buffer) ends) there.outside.back (outside_at new (done [] Flush m) n.state there.outside);
      text = there.text;
    }

-- what an end leaves as it was
pub ends_leaves : (old new : Tokenizer) (put : List ℕ) → EndsReference old new put → Leaves old new
ends_leaves old new put ends = go (is_value (state_of old.state)) ends.gains
  where
    go : (b : Bool) → Gains (cond b place.AttrValue place.Text) (record old { reference = reference.None; written = new.written }) new put → Leaves old new
    go true gains = record { in_foreign = ap (λ t. t.in_foreign) gains.0; after_return = ap (λ t. t.after_return) gains.0 }
    go false gains = record { in_foreign = ap (λ t. t.in_foreign) gains.0; after_return = ap (λ t. t.after_return) gains.0 }
