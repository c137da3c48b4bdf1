-- The tokenizer reads numeric character references as the standard does.
use Rattle.std.specs.Prelude.{◌≡◌, ℕ, ◌+◌, ◌-◌, ◌*◌, ◌<◌, min, Bool, true, false, ◌==◌, List, [], ◌∷◌, ◌++◌, ◌⊎◌, map, None, Some, string_bytes, encode_utf8, refl}
use Rattle.std.proofs.Common.{inl, inr, arith}
use Rattle.std.specs.Char.{IsDigitOf, digit_value}
use Rattle.std.specs.Str.{encode_utf8_all}
use Rattle.std.proofs.lemmas.List.{append-nil, append_assoc}
use Rattle.std.proofs.lemmas.Str.{encodes-append}
use mathlib.Core.Path.{◌∙◌, sym, ap, subst}
use Rattle.standard_tokens.specs.Machine.{Machine, at_state}
use Rattle.standard_tokens.specs.States as there
use Rattle.standard_tokens.specs.States.{State as StandardState}
use Rattle.standard_tokens.specs.Tokens.{Token as StandardToken, AChar}
use Rattle.page_tokens.specs.Numbers.{character_of}
use Rattle.page_tokens.specs.Reading.{text_of}
use Rattle.page_tokens.specs.References.{DigitsFollow, EndsReference, FollowsInReference, ReadsOrEnds, ReadsReference, WritesOn, base_of, number_of, with_digit_of}
use Rattle.page_tokens.specs.Standard.{Goes, ReferenceHeld, StandsInReference}
use Rattle.page_tokens.specs.StandardStates.{state_in}
use Rattle.page_tokens.specs.declared.tokenizer.Tokenizer.{Tokenizer}
use Rattle.page_tokens.specs.declared.tokenizer.references.Reference.{Reference}
use Rattle.page_tokens.specs.declared.tokenizer.references.Reference.TheVariants as reference
use Rattle.page_tokens.proofs.NumberSteps.{behind_number, coded, decimal_begins, decimal_digit, decimal_ends, decimal_step, hex_begins, hex_digit, hex_ends, hex_starts, hex_step, is_digit, more_of, no_decimal, no_digit, no_hex, no_hexadecimal, numbered, same_character}
use Rattle.page_tokens.proofs.ReferenceEnds.{Flushed, Outside, ends_leaves, flushed, outside_of, stands_in}
use Rattle.page_tokens.proofs.StandardSteps.{in_its_state}

-- ---- the reference goes on

-- the machine goes on in the reference
pub record Continues (old made : Tokenizer) (m : Machine) (text rest : List ℕ) : Type 0 where
  pub machine : Machine
  pub ahead : List ℕ
  pub goes : Goes m text [] machine (ahead ++ rest)
  pub outside : Outside old machine
  pub state : machine.state ≡ state_in made.reference old.state
  pub inside : ReferenceHeld made.reference made ahead machine

pub writes_on : (old new : Tokenizer) (next : Reference) (more : List ℕ) (c : ℕ) → WritesOn old new next more →
    ((m : Machine) (ahead rest : List ℕ) → StandsInReference old ahead m → Continues old (record old { reference = next; written = new.written; refused = new.refused }) m (ahead ++ (c ∷ []) ++ rest) rest) →
    ReadsReference old new c true
writes_on old new next more c writes continues = record {
  memory = writes.memory;
  leaves = record { in_foreign = ap (λ t. t.in_foreign) writes.only; after_return = ap (λ t. t.after_return) writes.only };
  reads = λ m ahead rest stands.
      let made : Tokenizer = record old { reference = next; written = new.written; refused = new.refused } in
      let to : Continues old made m (ahead ++ (c ∷ []) ++ rest) rest = continues m ahead rest stands in
      let outside : Outside made to.machine = record { back = to.outside.back; last_start = to.outside.last_start; place = to.outside.place } in
      record {
        machine = to.machine;
        ahead' = to.ahead;
        characters = [];
        tokens = [];
        goes = to.goes;
        holds = inr (subst (λ t. StandsInReference t to.ahead to.machine) (sym writes.only) (stands_in made to.ahead to.machine outside to.state to.inside));
        text = ap text_of writes.only ∙ sym (append-nil (text_of old));
        ends = refl;
      };
}

-- a step from the state in which the machine stands, with nothing read ahead
pub placed : {ts : List StandardToken} {n : Machine} {behind : List ℕ} (m : Machine) (s : StandardState) (c : ℕ) (ahead rest : List ℕ) → m.state ≡ s → ahead ≡ [] →
    Goes (at_state m s) (c ∷ rest) ts n behind → Goes m (ahead ++ (c ∷ []) ++ rest) ts n behind
placed {ts} {n} {behind} m s c ahead rest at nothing goes =
    subst (λ front. Goes m (front ++ (c ∷ []) ++ rest) ts n behind) (sym nothing) (subst (λ k. Goes k (c ∷ rest) ts n behind) (in_its_state m s at) goes)

-- ---- the reference ends

-- the text behind what ends a reference: a character that is part of it, or else not
pub ended : (old new : Tokenizer) (c : ℕ) (is_part : Bool) (put : List ℕ) → EndsReference old new put →
    ((m : Machine) (ahead rest : List ℕ) → StandsInReference old ahead m → Flushed old new (λ ts n. Goes m (ahead ++ (c ∷ []) ++ rest) ts n (behind_number is_part c rest))) →
    ReadsReference old new c is_part
ended old new c is_part put ends flushes = record {
  memory = ends.memory;
  leaves = ends_leaves old new put ends;
  reads = λ m ahead rest stands. go is_part m ahead rest (flushes m ahead rest stands);
}
  where
    go : (is_part : Bool) (m : Machine) (ahead rest : List ℕ) → Flushed old new (λ ts n. Goes m (ahead ++ (c ∷ []) ++ rest) ts n (behind_number is_part c rest)) → ReadsOrEnds is_part old new c m ahead rest
    go true m ahead rest f = record {
      machine = f.machine;
      ahead' = [];
      characters = f.characters;
      tokens = [];
      goes = subst (λ ts. Goes m (ahead ++ (c ∷ []) ++ rest) ts f.machine rest) (sym (append-nil (map AChar f.characters))) f.goes;
      holds = inl f.stands;
      text = f.text;
      ends = refl;
    }
    go false m ahead rest f = record {
      machine = f.machine;
      characters = f.characters;
      goes = subst (λ text. Goes m text (map AChar f.characters) f.machine (c ∷ rest)) (append_assoc ahead (c ∷ []) rest) f.goes;
      stands = f.stands;
      text = f.text;
    }

-- a machine with another buffer, code or state stands in the same place
pub outside_on : (t : Tokenizer) (m : Machine) (s : StandardState) (buffer : List ℕ) (code : ℕ) → Outside t m → Outside t (record m { state = s; buffer = buffer; code = code })
outside_on t m s buffer code outside = record { back = outside.back; last_start = outside.last_start; place = outside.place }

-- ---- the arms

-- where a machine stands in a reference of this kind
pub record At (old : Tokenizer) (r : Reference) (ahead : List ℕ) (m : Machine) : Type 0 where
  pub state : m.state ≡ state_in r old.state
  pub inside : ReferenceHeld r old ahead m
  pub outside : Outside old m

pub at : (old : Tokenizer) (r : Reference) (ahead : List ℕ) (m : Machine) → old.reference ≡ r → StandsInReference old ahead m → At old r ahead m
at old r ahead m is stands = record {
  state = stands.state ∙ ap (λ k. state_in k old.state) is;
  inside = subst (λ k. ReferenceHeld k old ahead m) is stands.inside;
  outside = outside_of old ahead m stands;
}

abbrev Writing : Tokenizer → Tokenizer → Reference → Tokenizer
Writing old new next = record old { reference = next; written = new.written; refused = new.refused }

digit_continues : (old new : Tokenizer) (c d : ℕ) (r : Reference) → DigitsFollow r c → IsDigitOf c d → d < base_of r → (m : Machine) (ahead rest : List ℕ) → At old r ahead m →
    Continues old (Writing old new (with_digit_of r d)) m (ahead ++ (c ∷ []) ++ rest) rest
digit_continues old new c d reference.Number follow is less m ahead rest here =
    let digit : (is_digit c ≡ true) × (c - 0x30 ≡ d) = decimal_digit c d is less in
    record {
      machine = coded m there.DecimalCharacterReference (0 * 10 + d);
      ahead = [];
      goes = placed m there.NumericCharacterReference c ahead rest here.state here.inside.0 (decimal_begins old.in_foreign m c d rest follow.0 follow.1 digit.0 digit.1);
      outside = outside_on old m there.DecimalCharacterReference m.buffer (0 * 10 + d) here.outside;
      state = refl;
      inside = (refl, refl);
    }
digit_continues old new c d reference.HexStart follow is less m ahead rest here =
    record {
      machine = coded m there.HexadecimalCharacterReference (m.code * 16 + d);
      ahead = [];
      goes = placed m there.HexadecimalCharacterReferenceStart c ahead rest here.state here.inside.0 (hex_begins old.in_foreign m c d rest (hex_digit c d is less));
      outside = outside_on old m there.HexadecimalCharacterReference m.buffer (m.code * 16 + d) here.outside;
      state = refl;
      inside = (refl, ap (λ n. min (n * 16 + d) 0x110000) (sym here.inside.2));
    }
digit_continues old new c d (reference.Hex number) follow is less m ahead rest here =
    record {
      machine = coded m there.HexadecimalCharacterReference (m.code * 16 + d);
      ahead = [];
      goes = placed m there.HexadecimalCharacterReference c ahead rest here.state here.inside.0 (hex_step old.in_foreign m m.code c d rest (hex_digit c d is less));
      outside = outside_on old m there.HexadecimalCharacterReference m.buffer (m.code * 16 + d) here.outside;
      state = refl;
      inside = (refl, ap (λ n. min (n * 16 + d) 0x110000) here.inside.1 ∙ more_of m.code 16 d (omega arith));
    }
digit_continues old new c d (reference.Decimal number) follow is less m ahead rest here =
    let digit : (is_digit c ≡ true) × (c - 0x30 ≡ d) = decimal_digit c d is less in
    record {
      machine = coded m there.DecimalCharacterReference (m.code * 10 + d);
      ahead = [];
      goes = placed m there.DecimalCharacterReference c ahead rest here.state here.inside.0 (decimal_step old.in_foreign m m.code c d rest digit.0 digit.1);
      outside = outside_on old m there.DecimalCharacterReference m.buffer (m.code * 10 + d) here.outside;
      state = refl;
      inside = (refl, ap (λ n. min (n * 10 + d) 0x110000) here.inside.1 ∙ more_of m.code 10 d (omega arith));
    }
digit_continues old new c d reference.None follow is less m ahead rest here = absurd follow
digit_continues old new c d reference.Begun follow is less m ahead rest here = absurd follow
digit_continues old new c d (reference.Named found) follow is less m ahead rest here = absurd follow
digit_continues old new c d reference.Ambiguous follow is less m ahead rest here = absurd follow

-- a digit
pub digit_arm : (old new : Tokenizer) (c d base : ℕ) (next : Reference) (is_part : Bool) → base ≡ base_of old.reference → (d < base) → IsDigitOf c d → next ≡ with_digit_of old.reference d →
    is_part ≡ true → (new.refused ≡ false → WritesOn old new next (encode_utf8 c)) → DigitsFollow old.reference c → FollowsInReference old new c is_part
digit_arm old new c d base next is_part base_is less is next_is part writes follow none =
    let w : WritesOn old new (with_digit_of old.reference d) (encode_utf8 c) = subst (λ r. WritesOn old new r (encode_utf8 c)) next_is (writes none) in
    subst (ReadsReference old new c) (sym part)
    (writes_on old new (with_digit_of old.reference d) (encode_utf8 c) c w (λ m ahead rest stands.
    digit_continues old new c d old.reference follow is (subst (λ n. d < n) base_is less) m ahead rest (at old old.reference ahead m refl stands)))

-- `x` behind `&#`
pub hex_arm : (old new : Tokenizer) (c : ℕ) (is_part : Bool) → old.reference ≡ reference.Number → (c ≡ 120) ⊎ (c ≡ 88) → is_part ≡ true →
    (new.refused ≡ false → WritesOn old new reference.HexStart (encode_utf8 c)) → FollowsInReference old new c is_part
hex_arm old new c is_part is x part writes none =
    let w : WritesOn old new reference.HexStart (encode_utf8 c) = writes none in
    subst (ReadsReference old new c) (sym part) (writes_on old new reference.HexStart (encode_utf8 c) c w (λ m ahead rest stands.
    let here : At old reference.Number ahead m = at old reference.Number ahead m is stands in
    record {
      machine = record m { state = there.HexadecimalCharacterReferenceStart; code = 0; buffer = m.buffer ++ c ∷ [] };
      ahead = [];
      goes = placed m there.NumericCharacterReference c ahead rest here.state here.inside.0 (hex_starts old.in_foreign m c rest x);
      outside = outside_on old m there.HexadecimalCharacterReferenceStart (m.buffer ++ c ∷ []) 0 here.outside;
      state = refl;
      inside = (refl, one_more (string_bytes new.written) (string_bytes old.written) m.buffer c w.written here.inside.1, refl);
    }))
  where
    one_more : (bytes old_bytes before : List ℕ) (c : ℕ) → bytes ≡ old_bytes ++ encode_utf8 c → old_bytes ≡ encode_utf8_all before → bytes ≡ encode_utf8_all (before ++ c ∷ [])
    one_more bytes old_bytes before c is old_is =
        is ∙ ap (λ e. e ++ encode_utf8 c) old_is ∙ ap (λ e. encode_utf8_all before ++ e) (sym (append-nil (encode_utf8 c))) ∙ sym (encodes-append before (c ∷ []))

-- the number ends
number_flushed : (old new : Tokenizer) (c number : ℕ) (r : Reference) → DigitsFollow r c → (digit_value c < base_of r → ⊥) → number_of r ≡ Some number → EndsReference old new (encode_utf8 (character_of number)) →
    (m : Machine) (ahead rest : List ℕ) → At old r ahead m → Flushed old new (λ ts n. Goes m (ahead ++ (c ∷ []) ++ rest) ts n (behind_number (c == 59) c rest))
number_flushed old new c number (reference.Hex value) follow other is ends m ahead rest here =
    let same : number ≡ value = cc in
    let bytes : encode_utf8 (character_of number) ≡ encode_utf8_all (numbered m).buffer =
    ap (λ n. encode_utf8 (character_of n)) (same ∙ here.inside.1) ∙ ap encode_utf8 (same_character m.code) ∙ sym (append-nil (encode_utf8 (character_of m.code))) in
    flushed old new (numbered m) (λ ts n. Goes m (ahead ++ (c ∷ []) ++ rest) ts n (behind_number (c == 59) c rest))
    (outside_on old m there.NumericCharacterReferenceEnd (numbered m).buffer m.code here.outside) (subst (EndsReference old new) bytes ends)
    (placed m there.HexadecimalCharacterReference c ahead rest here.state here.inside.0 (hex_ends old.in_foreign m c rest (no_hex c other)))
number_flushed old new c number (reference.Decimal value) follow other is ends m ahead rest here =
    let same : number ≡ value = cc in
    let bytes : encode_utf8 (character_of number) ≡ encode_utf8_all (numbered m).buffer =
    ap (λ n. encode_utf8 (character_of n)) (same ∙ here.inside.1) ∙ ap encode_utf8 (same_character m.code) ∙ sym (append-nil (encode_utf8 (character_of m.code))) in
    flushed old new (numbered m) (λ ts n. Goes m (ahead ++ (c ∷ []) ++ rest) ts n (behind_number (c == 59) c rest))
    (outside_on old m there.NumericCharacterReferenceEnd (numbered m).buffer m.code here.outside) (subst (EndsReference old new) bytes ends)
    (placed m there.DecimalCharacterReference c ahead rest here.state here.inside.0 (decimal_ends old.in_foreign m c rest (no_digit c other)))
number_flushed old new c number reference.Number follow other is ends m ahead rest here = absurd (cc)
number_flushed old new c number reference.HexStart follow other is ends m ahead rest here = absurd (cc)
number_flushed old new c number reference.None follow other is ends m ahead rest here = absurd follow
number_flushed old new c number reference.Begun follow other is ends m ahead rest here = absurd follow
number_flushed old new c number (reference.Named found) follow other is ends m ahead rest here = absurd follow
number_flushed old new c number reference.Ambiguous follow other is ends m ahead rest here = absurd follow

pub number_arm : (old new : Tokenizer) (c number base : ℕ) (is_part : Bool) → base ≡ base_of old.reference → (digit_value c < base → ⊥) → Some number ≡ number_of old.reference →
    is_part ≡ (c == 59) → (new.refused ≡ false → EndsReference old new (encode_utf8 (character_of number))) → DigitsFollow old.reference c → FollowsInReference old new c is_part
number_arm old new c number base is_part base_is no_base is_number part ends follow none =
    let other : digit_value c < base_of old.reference → ⊥ = subst (λ n. digit_value c < n → ⊥) base_is no_base in
    let is : number_of old.reference ≡ Some number = sym is_number in
    subst (ReadsReference old new c) (sym part) (ended old new c (c == 59) (encode_utf8 (character_of number)) (ends none) (λ m ahead rest stands.
    number_flushed old new c number old.reference follow other is (ends none) m ahead rest (at old old.reference ahead m refl stands)))

-- no number follows
none_flushed : (old new : Tokenizer) (c : ℕ) (r : Reference) → DigitsFollow r c → (digit_value c < base_of r → ⊥) → number_of r ≡ None → EndsReference old new (string_bytes old.written) →
    (m : Machine) (ahead rest : List ℕ) → At old r ahead m → Flushed old new (λ ts n. Goes m (ahead ++ (c ∷ []) ++ rest) ts n (c ∷ rest))
none_flushed old new c reference.Number follow other is ends m ahead rest here =
    flushed old new (coded m there.DecimalCharacterReferenceStart 0) (λ ts n. Goes m (ahead ++ (c ∷ []) ++ rest) ts n (c ∷ rest))
    (outside_on old m there.DecimalCharacterReferenceStart m.buffer 0 here.outside) (subst (EndsReference old new) here.inside.1 ends)
    (placed m there.NumericCharacterReference c ahead rest here.state here.inside.0 (no_decimal old.in_foreign m c rest follow.0 follow.1 (no_digit c other)))
none_flushed old new c reference.HexStart follow other is ends m ahead rest here =
    flushed old new (at_state m there.HexadecimalCharacterReferenceStart) (λ ts n. Goes m (ahead ++ (c ∷ []) ++ rest) ts n (c ∷ rest))
    (outside_on old m there.HexadecimalCharacterReferenceStart m.buffer m.code here.outside) (subst (EndsReference old new) here.inside.1 ends)
    (placed m there.HexadecimalCharacterReferenceStart c ahead rest here.state here.inside.0 (no_hexadecimal old.in_foreign m c rest (no_hex c other)))
none_flushed old new c (reference.Hex value) follow other is ends m ahead rest here = absurd (cc)
none_flushed old new c (reference.Decimal value) follow other is ends m ahead rest here = absurd (cc)
none_flushed old new c reference.None follow other is ends m ahead rest here = absurd follow
none_flushed old new c reference.Begun follow other is ends m ahead rest here = absurd follow
none_flushed old new c (reference.Named found) follow other is ends m ahead rest here = absurd follow
none_flushed old new c reference.Ambiguous follow other is ends m ahead rest here = absurd follow

pub none_arm : (old new : Tokenizer) (c base : ℕ) (is_part : Bool) → base ≡ base_of old.reference → (digit_value c < base → ⊥) → None ≡ number_of old.reference →
    is_part ≡ false → (new.refused ≡ false → EndsReference old new (string_bytes old.written)) → DigitsFollow old.reference c → FollowsInReference old new c is_part
none_arm old new c base is_part base_is no_base is_number part ends follow none =
    let other : digit_value c < base_of old.reference → ⊥ = subst (λ n. digit_value c < n → ⊥) base_is no_base in
    let is : number_of old.reference ≡ None = sym is_number in
    subst (ReadsReference old new c) (sym part) (ended old new c false (string_bytes old.written) (ends none) (λ m ahead rest stands.
    none_flushed old new c old.reference follow other is (ends none) m ahead rest (at old old.reference ahead m refl stands)))

-- in no reference there is nothing to read
pub outside_arm : (old : Tokenizer) (c : ℕ) → old.reference ≡ reference.None → FollowsInReference old old c false
outside_arm old c is none = record {
  memory = none;
  leaves = record { in_foreign = refl; after_return = refl };
  reads = λ m ahead rest stands. absurd ((at old reference.None ahead m is stands).inside);
}
