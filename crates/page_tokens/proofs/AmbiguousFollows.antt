-- The tokenizer reads what follows an ampersand as the standard does: a number begins, or no reference; and letters that are no name.
use Rattle.std.specs.Prelude.{◌≡◌, ℕ, Bool, true, false, cond, List, [], ◌∷◌, ◌++◌, codes, None, string_bytes, refl}
use Rattle.std.proofs.Common.{inl, inr}
use Rattle.std.specs.Char.{encode_utf8, is_ascii_alphanumeric}
use Rattle.std.specs.Str.{encode_utf8_all}
use Rattle.std.proofs.lemmas.Bool.{ne_eqb}
use Rattle.std.proofs.lemmas.List.{append-nil}
use mathlib.Core.Path.{◌∙◌, sym, ap, subst}
use Rattle.standard_tokens.specs.Entries.{AttrValue}
use Rattle.standard_tokens.specs.Machine.{Machine, added, at_state, is_value}
use Rattle.standard_tokens.specs.States as there
use Rattle.page_tokens.specs.Changes.{Gains, Remembers}
use Rattle.page_tokens.specs.Reading.{text_of}
use Rattle.page_tokens.specs.References.{EndsReference, FollowsInReference, Puts, ReadsReference, WritesOn}
use Rattle.page_tokens.specs.Standard.{Behind, Goes, Held, Leaves, ReferenceHeld, Stands, StandsInReference}
use Rattle.page_tokens.specs.StandardStates.{state_in, state_of}
use Rattle.page_tokens.specs.declared.tokenizer.Tokenizer.{Tokenizer}
use Rattle.page_tokens.specs.declared.tokenizer.references.Reference.TheVariants as reference
use Rattle.page_tokens.specs.declared.tokenizer.state.Place.TheVariants as place
use Rattle.page_tokens.proofs.AmbiguousSteps.{Letter, ambiguous, ambiguous_ends, letter_of, no_letter_of, no_reference, number_begins, text_letter, value_letter, with_ampersand}
use Rattle.page_tokens.proofs.NumberFollows.{At, at, ended, outside_on, placed, writes_on}
use Rattle.page_tokens.proofs.ReferenceEnds.{InText, InValue, Outside, Place_of, flushed, stands_in, value_more}
use Rattle.page_tokens.proofs.StandardSteps.{in_its_state}

-- ---- letters that are no name

letter_reads : (old new : Tokenizer) (c : ℕ) → old.reference ≡ reference.Ambiguous → Letter c → Puts old new (encode_utf8 c) → (m : Machine) (ahead rest : List ℕ) → StandsInReference old ahead m → Behind old new (c ∷ []) None m ahead rest
letter_reads old new c is letter puts m ahead rest stands = go here.outside.place
  where
    here : At old reference.Ambiguous ahead m
    here = at old reference.Ambiguous ahead m is stands

    b : Bool
    b = old.in_foreign

    one : encode_utf8 c ≡ encode_utf8_all (c ∷ [])
    one = sym (append-nil (encode_utf8 c))

    place_is : (x : Bool) → is_value (state_of old.state) ≡ x → Gains (cond x place.AttrValue place.Text) old new (encode_utf8_all (c ∷ []))
    place_is x e = subst (λ bytes. Gains (cond x place.AttrValue place.Text) old new bytes) one (subst (λ x. Gains (cond x place.AttrValue place.Text) old new (encode_utf8 c)) e puts.gains)

    in_text : InText old.state → Gains place.Text old new (encode_utf8_all (c ∷ [])) → Behind old new (c ∷ []) None m ahead rest
    in_text text gains =
        let made : Tokenizer = record old { text = new.text; errors = new.errors; refused = new.refused } in
        let e : is_value m.return_state ≡ false = ap is_value here.outside.back ∙ text.no_value in
        let outside : Outside made (ambiguous m) = record { back = here.outside.back; last_start = here.outside.last_start; place = here.outside.place } in
        let stands_on : StandsInReference made [] (ambiguous m) = stands_in made [] (ambiguous m) outside (sym (ap (λ k. state_in k old.state) is)) (subst (λ k. ReferenceHeld k made [] (ambiguous m)) (sym is) refl) in
        record {
          machine = ambiguous m;
          ahead' = [];
          characters = c ∷ [];
          tokens = [];
          goes = placed m there.AmbiguousAmpersand c ahead rest here.state here.inside (text_letter b m c rest e letter);
          holds = inr (subst (λ t. StandsInReference t [] (ambiguous m)) (sym gains.0) stands_on);
          text = gains.1;
          ends = refl;
        }

    in_value : InValue old.state old.tag m.tag → Gains place.AttrValue old new (encode_utf8_all (c ∷ [])) → Behind old new (c ∷ []) None m ahead rest
    in_value value gains =
        let made : Tokenizer = record old { tag = record old.tag { attr_value = new.tag.attr_value }; errors = new.errors; refused = new.refused } in
        let n : Machine = ambiguous (added AttrValue (c ∷ []) m) in
        let e : is_value m.return_state ≡ true = ap is_value here.outside.back ∙ value.value in
        let outside : Outside made n = record {
          back = here.outside.back;
          last_start = here.outside.last_start;
          place = inr (record { reads = value.reads; value = value.value; named = value.named; is = value_more old.tag new.tag m.tag (c ∷ []) value.named value.is gains.1; allows = value.allows; held = value.held });
        } in
        let stands_on : StandsInReference made [] n = stands_in made [] n outside (sym (ap (λ k. state_in k old.state) is)) (subst (λ k. ReferenceHeld k made [] n) (sym is) refl) in
        record {
          machine = n;
          ahead' = [];
          characters = [];
          tokens = [];
          goes = placed m there.AmbiguousAmpersand c ahead rest here.state here.inside (value_letter b m c rest e letter);
          holds = inr (subst (λ t. StandsInReference t [] n) (sym gains.0) stands_on);
          text = ap text_of gains.0 ∙ sym (append-nil (text_of old));
          ends = refl;
        }

    go : Place_of old.state old.tag m.tag → Behind old new (c ∷ []) None m ahead rest
    go (inl text) = in_text text (place_is false text.no_value)
    go (inr value) = in_value value (place_is true value.value)

puts_leaves : (old new : Tokenizer) (put : List ℕ) → Puts old new put → Leaves old new
puts_leaves old new put puts = go (is_value (state_of old.state)) puts.gains
  where
    go : (x : Bool) → Gains (cond x place.AttrValue place.Text) old new put → Leaves old new
    go true gains = record { in_foreign = ap (λ t. t.in_foreign) gains.0; after_return = ap (λ t. t.after_return) gains.0 }
    go false gains = record { in_foreign = ap (λ t. t.in_foreign) gains.0; after_return = ap (λ t. t.after_return) gains.0 }

-- a letter or a digit
pub letter_arm : (old new : Tokenizer) (c : ℕ) (is_part : Bool) → is_ascii_alphanumeric c ≡ true → is_part ≡ true → (new.refused ≡ false → Puts old new (encode_utf8 c)) →
    old.reference ≡ reference.Ambiguous → FollowsInReference old new c is_part
letter_arm old new c is_part letter part puts is none = subst (ReadsReference old new c) (sym part) (record {
  memory = (puts none).memory;
  leaves = puts_leaves old new (encode_utf8 c) (puts none);
  reads = λ m ahead rest stands. letter_reads old new c is (letter_of c letter) (puts none) m ahead rest stands;
})

-- anything else ends the reference
pub other_arm : (old mid new : Tokenizer) (c : ℕ) (is_part : Bool) → is_ascii_alphanumeric c ≡ false → is_part ≡ false → mid ≡ record old { errors = mid.errors; refused = mid.refused } → Remembers old mid →
    new ≡ record mid { reference = reference.None } → old.reference ≡ reference.Ambiguous → FollowsInReference old new c is_part
other_arm old mid new c is_part letter part mid_is remembers new_is is none =
    let made : Tokenizer = record old { reference = reference.None; errors = mid.errors; refused = mid.refused } in
    let only : new ≡ made = new_is ∙ ap {A = Tokenizer} (λ t. record t { reference = reference.None }) mid_is in
    subst (ReadsReference old new c) (sym part) (record {
      memory = remembers (sym (ap (λ t. t.refused) new_is) ∙ none);
      leaves = record { in_foreign = ap (λ t. t.in_foreign) only; after_return = ap (λ t. t.after_return) only };
      reads = λ m ahead rest stands.
          let here : At old reference.Ambiguous ahead m = at old reference.Ambiguous ahead m is stands in
          let n : Machine = at_state m m.return_state in
          let stands_on : Stands made [] n = record { reference = refl; state = here.outside.back; last_start = here.outside.last_start; held = held_of made n here.outside.place } in
          record {
            machine = n;
            characters = [];
            goes = subst (λ front. Goes m (front ++ c ∷ rest) [] n (c ∷ rest)) (sym here.inside)
                (subst (λ k. Goes k (c ∷ rest) [] n (c ∷ rest)) (in_its_state m there.AmbiguousAmpersand here.state) (ambiguous_ends old.in_foreign m c rest (no_letter_of c letter)));
            stands = subst (λ t. Stands t [] n) (sym only) stands_on;
            text = ap text_of only ∙ sym (append-nil (text_of old));
          };
    })
  where
    held_of : (t : Tokenizer) (n : Machine) → Place_of t.state t.tag n.tag → Held t.state t [] n
    held_of t n (inl text) = text.held t n
    held_of t n (inr value) = value.held t n value.named value.is

-- ---- behind an ampersand

-- `&#`
pub number_arm : (old new : Tokenizer) (c : ℕ) (is_part : Bool) → c ≡ 35 → is_part ≡ true → (new.refused ≡ false → WritesOn old new reference.Number (encode_utf8 c)) → old.reference ≡ reference.Begun →
    FollowsInReference old new c is_part
unfolding encode_utf8
number_arm old new c is_part is_sharp part writes is none =
    let w : WritesOn old new reference.Number (encode_utf8 c) = writes none in
    subst (ReadsReference old new c) (sym part) (writes_on old new reference.Number (encode_utf8 c) c w (λ m ahead rest stands.
    let here : At old reference.Begun ahead m = at old reference.Begun ahead m is stands in
    record {
      machine = record m { state = there.NumericCharacterReference; buffer = codes "&#" };
      ahead = [];
      goes = placed m there.CharacterReference c ahead rest here.state here.inside.0
          (subst (λ d. Goes (at_state m there.CharacterReference) (d ∷ rest) [] (record m { state = there.NumericCharacterReference; buffer = codes "&#" }) rest) (sym is_sharp) (number_begins old.in_foreign m rest));
      outside = outside_on old m there.NumericCharacterReference (codes "&#") m.code here.outside;
      state = refl;
      inside = (refl, w.written ∙ ap (λ e. e ++ encode_utf8 c) here.inside.1 ∙ ap (λ d. codes "&" ++ encode_utf8 d) is_sharp);
    }))

-- no reference begins
pub none_arm : (old new : Tokenizer) (c : ℕ) (is_part : Bool) → is_ascii_alphanumeric c ≡ false → (c ≡ 35 → ⊥) → is_part ≡ false → (new.refused ≡ false → EndsReference old new (string_bytes old.written)) →
    old.reference ≡ reference.Begun → FollowsInReference old new c is_part
unfolding encode_utf8
none_arm old new c is_part letter no_sharp part ends is none =
    subst (ReadsReference old new c) (sym part) (ended old new c false (string_bytes old.written) (ends none) (λ m ahead rest stands.
    let here : At old reference.Begun ahead m = at old reference.Begun ahead m is stands in
    flushed old new (with_ampersand m) (λ ts n. Goes m (ahead ++ (c ∷ []) ++ rest) ts n (c ∷ rest)) (outside_on old m there.CharacterReference (codes "&") m.code here.outside)
    (subst (EndsReference old new) here.inside.1 (ends none))
    (placed m there.CharacterReference c ahead rest here.state here.inside.0 (no_reference old.in_foreign m c rest (no_letter_of c letter) (ne_eqb 35 c (λ e. no_sharp (sym e)))))))
