-- The end of the page in a character reference.
use Rattle.std.specs.Prelude.{◌≡◌, ℕ, Bool, false, List, [], ◌∷◌, ◌++◌, map, codes, Some, string_bytes, refl}
use Rattle.std.proofs.Common.{inl, inr}
use Rattle.std.specs.Char.{encode_utf8}
use Rattle.std.specs.Str.{encode_utf8_all}
use Rattle.std.proofs.lemmas.List.{append-nil}
use mathlib.Core.Path.{◌∙◌, sym, ap, subst}
use Rattle.standard_tokens.specs.Entries.{Add, Buffer, BufferNumber, CodeZero, Flush, Reconsume, ReconsumeBack, SetEmpty, These}
use Rattle.standard_tokens.specs.Machine.{Machine, at_state, emitted, taken}
use Rattle.standard_tokens.specs.States as there
use Rattle.standard_tokens.specs.States.{State as StandardState}
use Rattle.standard_tokens.specs.Table.{entries}
use Rattle.standard_tokens.specs.Tokens.{Token as StandardToken, AChar}
use Rattle.page_tokens.specs.Numbers.{character_of}
use Rattle.page_tokens.specs.PageEnds.{EndsInReference}
use Rattle.page_tokens.specs.Reading.{text_of}
use Rattle.page_tokens.specs.References.{EndsReference, number_of}
use Rattle.page_tokens.specs.Standard.{Goes, Held, Stands, StandsInReference}
use Rattle.page_tokens.specs.declared.tokenizer.Tokenizer.{Tokenizer}
use Rattle.page_tokens.specs.declared.tokenizer.references.Reference.{Reference}
use Rattle.page_tokens.specs.declared.tokenizer.references.Reference.TheVariants as reference
use Rattle.page_tokens.proofs.AmbiguousSteps.{with_ampersand}
use Rattle.page_tokens.proofs.NumberFollows.{At, at, outside_on}
use Rattle.page_tokens.proofs.NumberSteps.{coded, numbered, same_character}
use Rattle.page_tokens.proofs.ReferenceEnds.{Flushed, Place_of, ends_leaves, flushed, flushing}
use Rattle.page_tokens.proofs.StandardSteps.{by_entry, in_its_state, taking, then_on}

-- from the state in which the machine stands, with nothing read ahead
stopped : {ts : List StandardToken} {n : Machine} (m : Machine) (s : StandardState) (ahead : List ℕ) → m.state ≡ s → ahead ≡ [] → Goes (at_state m s) [] ts n [] → Goes m ahead ts n []
stopped {ts} {n} m s ahead at nothing goes =
    subst (λ front. Goes m front ts n []) (sym nothing) (subst (λ k. Goes k [] ts n []) (in_its_state m s at) goes)

-- ---- what the standard does

ampersand_ends : (b : Bool) (m : Machine) → Goes (at_state m there.CharacterReference) [] (emitted [] Flush (with_ampersand m) ++ []) (flushing (with_ampersand m)) []
unfolding taken entries
ampersand_ends b m = by_entry (at_state m there.CharacterReference) [] (taking (SetEmpty Buffer ∷ Add Buffer (These (codes "&")) ∷ Flush ∷ []) ReconsumeBack []) (λ x. refl) refl

pub letters_end : (b : Bool) (m : Machine) → Goes (at_state m there.AmbiguousAmpersand) [] [] (at_state m m.return_state) []
unfolding taken entries
letters_end b m = by_entry (at_state m there.AmbiguousAmpersand) [] (taking [] ReconsumeBack []) (λ x. refl) refl

no_decimal_ends : (b : Bool) (m : Machine) →
    Goes (at_state m there.NumericCharacterReference) [] (emitted [] Flush (coded m there.DecimalCharacterReferenceStart 0) ++ []) (flushing (coded m there.DecimalCharacterReferenceStart 0)) []
unfolding taken entries
no_decimal_ends b m =
    then_on (by_entry (at_state m there.NumericCharacterReference) [] (taking (CodeZero ∷ []) (Reconsume there.DecimalCharacterReferenceStart) []) (λ x. refl) refl)
    (by_entry (coded m there.DecimalCharacterReferenceStart 0) [] (taking (Flush ∷ []) ReconsumeBack []) (λ x. refl) refl)

no_hex_ends : (b : Bool) (m : Machine) →
    Goes (at_state m there.HexadecimalCharacterReferenceStart) [] (emitted [] Flush (at_state m there.HexadecimalCharacterReferenceStart) ++ []) (flushing (at_state m there.HexadecimalCharacterReferenceStart)) []
unfolding taken entries
no_hex_ends b m = by_entry (at_state m there.HexadecimalCharacterReferenceStart) [] (taking (Flush ∷ []) ReconsumeBack []) (λ x. refl) refl

hex_ends : (b : Bool) (m : Machine) → Goes (at_state m there.HexadecimalCharacterReference) [] (emitted [] Flush (numbered m) ++ []) (flushing (numbered m)) []
unfolding taken entries
hex_ends b m =
    then_on (by_entry (at_state m there.HexadecimalCharacterReference) [] (taking [] (Reconsume there.NumericCharacterReferenceEnd) []) (λ x. refl) refl)
    (by_entry (at_state m there.NumericCharacterReferenceEnd) [] (taking (BufferNumber ∷ Flush ∷ []) ReconsumeBack []) (λ x. refl) refl)

decimal_ends : (b : Bool) (m : Machine) → Goes (at_state m there.DecimalCharacterReference) [] (emitted [] Flush (numbered m) ++ []) (flushing (numbered m)) []
unfolding taken entries
decimal_ends b m =
    then_on (by_entry (at_state m there.DecimalCharacterReference) [] (taking [] (Reconsume there.NumericCharacterReferenceEnd) []) (λ x. refl) refl)
    (by_entry (at_state m there.NumericCharacterReferenceEnd) [] (taking (BufferNumber ∷ Flush ∷ []) ReconsumeBack []) (λ x. refl) refl)

-- ---- the reference ends

ends_flushed : (old new : Tokenizer) (put : List ℕ) → EndsReference old new put → ((m : Machine) (ahead : List ℕ) → StandsInReference old ahead m → Flushed old new (λ ts n. Goes m ahead ts n [])) → EndsInReference old new
ends_flushed old new put ends flushes = record {
  memory = ends.memory;
  leaves = ends_leaves old new put ends;
  ends = λ m ahead stands.
      let f : Flushed old new (λ ts n. Goes m ahead ts n []) = flushes m ahead stands in
      record { machine = f.machine; characters = f.characters; goes = subst (λ text. Goes m text (map AChar f.characters) f.machine []) (sym (append-nil ahead)) f.goes; stands = f.stands; text = f.text };
}

-- an ampersand alone
pub begun_arm : (old new : Tokenizer) → old.reference ≡ reference.Begun → (new.refused ≡ false → EndsReference old new (string_bytes old.written)) → new.refused ≡ false → EndsInReference old new
unfolding encode_utf8
begun_arm old new is ends memory = ends_flushed old new (string_bytes old.written) (ends memory) (λ m ahead stands.
    let here : At old reference.Begun ahead m = at old reference.Begun ahead m is stands in
    flushed old new (with_ampersand m) (λ ts n. Goes m ahead ts n []) (outside_on old m there.CharacterReference (codes "&") m.code here.outside)
    (subst (EndsReference old new) here.inside.1 (ends memory)) (stopped m there.CharacterReference ahead here.state here.inside.0 (ampersand_ends old.in_foreign m)))

-- letters that are no name
pub ambiguous_arm : (old new : Tokenizer) → old.reference ≡ reference.Ambiguous → new ≡ record old { reference = reference.None } → new.refused ≡ false → EndsInReference old new
ambiguous_arm old new is only memory =
    let made : Tokenizer = record old { reference = reference.None } in
    record {
      memory = sym (ap (λ t. t.refused) only) ∙ memory;
      leaves = record { in_foreign = ap (λ t. t.in_foreign) only; after_return = ap (λ t. t.after_return) only };
      ends = λ m ahead stands.
          let here : At old reference.Ambiguous ahead m = at old reference.Ambiguous ahead m is stands in
          let n : Machine = at_state m m.return_state in
          let stands_on : Stands made [] n = record { reference = refl; state = here.outside.back; last_start = here.outside.last_start; held = held_of made n here.outside.place } in
          record {
            machine = n;
            characters = [];
            goes = subst (λ text. Goes m text [] n []) (sym (append-nil ahead)) (stopped m there.AmbiguousAmpersand ahead here.state here.inside (letters_end old.in_foreign m));
            stands = subst (λ t. Stands t [] n) (sym only) stands_on;
            text = ap text_of only ∙ sym (append-nil (text_of old));
          };
    }
  where
    held_of : (t : Tokenizer) (n : Machine) → Place_of t.state t.tag n.tag → Held t.state t [] n
    held_of t n (inl text) = text.held t n
    held_of t n (inr value) = value.held t n value.named value.is

number_flushed : (old new : Tokenizer) (number : ℕ) (r : Reference) → number_of r ≡ Some number → EndsReference old new (encode_utf8 (character_of number)) → (m : Machine) (ahead : List ℕ) → At old r ahead m →
    Flushed old new (λ ts n. Goes m ahead ts n [])
number_flushed old new number (reference.Hex value) is ends m ahead here =
    let same : number ≡ value = cc in
    let bytes : encode_utf8 (character_of number) ≡ encode_utf8_all (numbered m).buffer =
    ap (λ n. encode_utf8 (character_of n)) (same ∙ here.inside.1) ∙ ap encode_utf8 (same_character m.code) ∙ sym (append-nil (encode_utf8 (character_of m.code))) in
    flushed old new (numbered m) (λ ts n. Goes m ahead ts n []) (outside_on old m there.NumericCharacterReferenceEnd (numbered m).buffer m.code here.outside) (subst (EndsReference old new) bytes ends)
    (stopped m there.HexadecimalCharacterReference ahead here.state here.inside.0 (hex_ends old.in_foreign m))
number_flushed old new number (reference.Decimal value) is ends m ahead here =
    let same : number ≡ value = cc in
    let bytes : encode_utf8 (character_of number) ≡ encode_utf8_all (numbered m).buffer =
    ap (λ n. encode_utf8 (character_of n)) (same ∙ here.inside.1) ∙ ap encode_utf8 (same_character m.code) ∙ sym (append-nil (encode_utf8 (character_of m.code))) in
    flushed old new (numbered m) (λ ts n. Goes m ahead ts n []) (outside_on old m there.NumericCharacterReferenceEnd (numbered m).buffer m.code here.outside) (subst (EndsReference old new) bytes ends)
    (stopped m there.DecimalCharacterReference ahead here.state here.inside.0 (decimal_ends old.in_foreign m))
number_flushed old new number reference.Number is ends m ahead here = absurd (cc)
number_flushed old new number reference.HexStart is ends m ahead here = absurd (cc)
number_flushed old new number reference.None is ends m ahead here = absurd (cc)
number_flushed old new number reference.Begun is ends m ahead here = absurd (cc)
number_flushed old new number (reference.Named found) is ends m ahead here = absurd (cc)
number_flushed old new number reference.Ambiguous is ends m ahead here = absurd (cc)

-- a number
pub number_arm : (old new : Tokenizer) (number : ℕ) → number_of old.reference ≡ Some number → (new.refused ≡ false → EndsReference old new (encode_utf8 (character_of number))) → new.refused ≡ false → EndsInReference old new
number_arm old new number is ends memory = ends_flushed old new (encode_utf8 (character_of number)) (ends memory) (λ m ahead stands.
    number_flushed old new number old.reference is (ends memory) m ahead (at old old.reference ahead m refl stands))

-- the beginning of a number
pub sharp_arm : (old new : Tokenizer) → old.reference ≡ reference.Number → (new.refused ≡ false → EndsReference old new (string_bytes old.written)) → new.refused ≡ false → EndsInReference old new
sharp_arm old new is ends memory = ends_flushed old new (string_bytes old.written) (ends memory) (λ m ahead stands.
    let here : At old reference.Number ahead m = at old reference.Number ahead m is stands in
    flushed old new (coded m there.DecimalCharacterReferenceStart 0) (λ ts n. Goes m ahead ts n []) (outside_on old m there.DecimalCharacterReferenceStart m.buffer 0 here.outside)
    (subst (EndsReference old new) here.inside.1 (ends memory)) (stopped m there.NumericCharacterReference ahead here.state here.inside.0 (no_decimal_ends old.in_foreign m)))

pub hex_arm : (old new : Tokenizer) → old.reference ≡ reference.HexStart → (new.refused ≡ false → EndsReference old new (string_bytes old.written)) → new.refused ≡ false → EndsInReference old new
hex_arm old new is ends memory = ends_flushed old new (string_bytes old.written) (ends memory) (λ m ahead stands.
    let here : At old reference.HexStart ahead m = at old reference.HexStart ahead m is stands in
    flushed old new (at_state m there.HexadecimalCharacterReferenceStart) (λ ts n. Goes m ahead ts n []) (outside_on old m there.HexadecimalCharacterReferenceStart m.buffer m.code here.outside)
    (subst (EndsReference old new) here.inside.1 (ends memory)) (stopped m there.HexadecimalCharacterReferenceStart ahead here.state here.inside.0 (no_hex_ends old.in_foreign m)))
