-- The end of the page in a character reference by name.
use Rattle.std.specs.Prelude.{◌≡◌, ℕ, Bool, true, false, not, cond, ◌&&◌, List, [], ◌++◌, length, drop, Option, None, Some, unwrap_or, string_bytes, refl}
use Rattle.std.specs.Char.{is_ascii_alphanumeric}
use Rattle.std.specs.List.{list_all}
use Rattle.std.specs.Str.{encode_utf8_all}
use Rattle.std.proofs.lemmas.List.{append-nil}
use mathlib.Core.Path.{◌∙◌, sym, ap, subst}
use Rattle.standard_tokens.specs.Entries.{Flush}
use Rattle.standard_tokens.specs.Machine.{Machine, at_state, emitted, ends_open, goes_on, is_value, longest_name}
use Rattle.standard_tokens.specs.States as there
use Rattle.page_tokens.specs.NamedReferences.{IsLongest, after_name, longest_in, read_of}
use Rattle.page_tokens.specs.PageEnds.{EndsInReference}
use Rattle.page_tokens.specs.References.{EndsReference, is_part_of_word, meant_by, put_for, replaced_by}
use Rattle.page_tokens.specs.Standard.{Goes}
use Rattle.page_tokens.specs.StandardStates.{state_of}
use Rattle.page_tokens.specs.declared.named_references.Value.{Value}
use Rattle.page_tokens.specs.declared.tokenizer.Tokenizer.{Tokenizer}
use Rattle.page_tokens.specs.declared.tokenizer.named.Match.{Match}
use Rattle.page_tokens.specs.declared.tokenizer.references.Reference.TheVariants as reference
use Rattle.page_tokens.proofs.LongestNames.{after_letters, letters_encode}
use Rattle.page_tokens.proofs.NameFollows.{name_in_front}
use Rattle.page_tokens.proofs.NameSteps.{IsFound, ambiguous_letters, is_historical, named, no_name, none_found, some_found}
use Rattle.page_tokens.proofs.NumberFollows.{At, at, outside_on}
use Rattle.page_tokens.proofs.PlaceLetters.{letters_behind, put_if, shown_if}
use Rattle.page_tokens.proofs.ReferenceEnds.{PutsThere, ends_leaves, ends_none, outside_at, puts_there, stands_out}
use Rattle.page_tokens.proofs.ReferenceStops.{letters_end}
use Rattle.page_tokens.proofs.StandardSteps.{in_its_state, then_on}

-- what is known of what was read
record Known (found : Match) (ahead : List ℕ) : Type 0 where
  pub longest : IsLongest ahead found.value found.closed
  pub letters : list_all is_ascii_alphanumeric (after_name ahead) ≡ true

known_of : (found : Match) (ahead : List ℕ) → ahead ≡ read_of found.names → Known found ahead
known_of found ahead read = subst (Known found) (sym read) (record { longest = found.longest; letters = after_letters found.names.low found.names.high found.names.place found.names.exactly })

three_tests : (a b c : Bool) → (b && (a && c)) ≡ (a && b && c)
three_tests true true c = refl
three_tests true false c = refl
three_tests false true c = refl
three_tests false false c = refl

undone : (x : Bool) → not (not x) ≡ x
undone true = refl
undone false = refl

-- the test of the tokenizer is that of the standard
same_test : (t : Tokenizer) (closed : Bool) (m : Machine) (read name : List ℕ) → m.return_state ≡ state_of t.state → closed ≡ not (ends_open (longest_in read)) → longest_name read ≡ Some name → string_bytes t.behind ≡ after_name read →
    (not closed && is_part_of_word t None) ≡ is_historical m name (after_name read ++ [])
same_test t closed m read name back ends longest behind =
    let unclosed : not closed ≡ ends_open name = ap not ends ∙ undone (ends_open (longest_in read)) ∙ ap (λ (o : Option (List ℕ)). ends_open (unwrap_or o [])) longest in
    let value : is_value (state_of t.state) ≡ is_value m.return_state = ap is_value (sym back) in
    let word : goes_on (string_bytes t.behind ++ []) ≡ goes_on (after_name read ++ []) = ap (λ (after : List ℕ). goes_on (after ++ [])) behind in
    ap (λ x. x && is_part_of_word t None) unclosed ∙ ap (λ x. ends_open name && (x && goes_on (string_bytes t.behind ++ []))) value ∙ ap (λ x. ends_open name && (is_value m.return_state && x)) word
    ∙ three_tests (is_value m.return_state) (ends_open name) (goes_on (after_name read ++ []))

-- the longest name has this value
found_stops : (old new : Tokenizer) (found : Match) (value : Value) → old.reference ≡ reference.Named found → found.value ≡ Some value → EndsReference old new (replaced_by found None old) → EndsInReference old new
found_stops old new found value is some ends =
    let word : Bool = not found.closed && is_part_of_word old None in
    let put : List ℕ = cond word (string_bytes old.written) (meant_by value old) in
    let e : EndsReference old new put = subst (λ v. EndsReference old new (put_for v word old)) some ends in
    record {
      memory = e.memory;
      leaves = ends_leaves old new put e;
      ends = λ m ahead stands.
          let here : At old (reference.Named found) ahead m = at old (reference.Named found) ahead m is stands in
          let known : Known found ahead = known_of found ahead here.inside.0 in
          let longest : IsLongest ahead (Some value) found.closed = subst (λ v. IsLongest ahead v found.closed) some known.longest in
          let f : IsFound ahead value = some_found ahead value found.closed longest in
          let plain : string_bytes old.behind ≡ after_name ahead = here.inside.3 ∙ letters_encode (after_name ahead) known.letters in
          name_in_front old new m ahead [] value word f here.outside here.state here.inside.2 here.inside.3 known.letters (ap longest_name (append-nil ahead))
          (sym (same_test old found.closed m ahead f.name here.outside.back longest.ends f.longest plain)) e;
    }

same_back : (in_value : Bool) (put : List ℕ) (m : Machine) → (put_if in_value put m).return_state ≡ m.return_state
same_back true put m = refl
same_back false put m = refl

-- no name begins what was read: its letters and digits are text
none_stops : (old new : Tokenizer) (found : Match) → old.reference ≡ reference.Named found → found.value ≡ None → EndsReference old new (replaced_by found None old) → EndsInReference old new
none_stops old new found is no_value ends =
    let e : EndsReference old new (string_bytes old.written) = subst (λ v. EndsReference old new (put_for v (not found.closed && is_part_of_word old None) old)) no_value ends in
    record {
      memory = e.memory;
      leaves = ends_leaves old new (string_bytes old.written) e;
      ends = λ m ahead stands.
          let b : Bool = old.in_foreign in
          let here : At old (reference.Named found) ahead m = at old (reference.Named found) ahead m is stands in
          let known : Known found ahead = known_of found ahead here.inside.0 in
          let nothing : longest_name ahead ≡ None = none_found ahead found.closed (subst (λ v. IsLongest ahead v found.closed) no_value known.longest) in
          let after : after_name ahead ≡ ahead = ap (λ (o : Option (List ℕ)). drop (length (unwrap_or o [])) ahead) nothing in
          let letters : list_all is_ascii_alphanumeric ahead ≡ true = subst (λ t. list_all is_ascii_alphanumeric t ≡ true) after known.letters in
          let k : Machine = named m.buffer m in
          let v : Bool = is_value k.return_state in
          let put : List ℕ = k.buffer ++ ahead in
          let n : Machine = at_state (put_if v put k) k.return_state in
          let written : EndsReference old new (encode_utf8_all put) = subst (EndsReference old new) here.inside.2 e in
          let puts : PutsThere old new k put = puts_there old new k put (outside_on old m there.NamedCharacterReference m.buffer m.code here.outside) written in
          let first : Goes m (ahead ++ []) (emitted [] Flush k ++ []) (at_state (put_if v k.buffer k) there.AmbiguousAmpersand) (ahead ++ []) =
          subst (λ from. Goes from (ahead ++ []) (emitted [] Flush k ++ []) (at_state (put_if v k.buffer k) there.AmbiguousAmpersand) (ahead ++ [])) (in_its_state m there.NamedCharacterReference here.state)
          (no_name b m (ahead ++ []) (ap longest_name (append-nil ahead) ∙ nothing)) in
          let all : Goes m (ahead ++ []) (shown_if v put) (at_state (put_if v put k) there.AmbiguousAmpersand) [] = letters_behind v there.AmbiguousAmpersand (ambiguous_letters v) b m k (ahead ++ []) ahead [] refl letters first in
          let back : Goes (at_state (put_if v put k) there.AmbiguousAmpersand) [] [] n [] =
          subst (λ s. Goes (at_state (put_if v put k) there.AmbiguousAmpersand) [] [] (at_state (put_if v put k) s) []) (same_back v put k) (letters_end b (put_if v put k)) in
          record {
            machine = n;
            characters = puts.characters;
            goes = subst (λ ts. Goes m (ahead ++ []) ts n []) (append-nil (shown_if v put) ∙ puts.shows) (then_on all back);
            stands = stands_out new n (ends_none old new (encode_utf8_all put) written) (sym (same_back v put k) ∙ puts.outside.back) (outside_at new (put_if v put k) k.return_state puts.outside);
            text = puts.text;
          };
    }

pub named_arm : (old new : Tokenizer) (found : Match) → old.reference ≡ reference.Named found → (new.refused ≡ false → EndsReference old new (replaced_by found None old)) → new.refused ≡ false → EndsInReference old new
named_arm old new found is ends memory = go found.value refl
  where
    go : (v : Option Value) → found.value ≡ v → EndsInReference old new
    go None e = none_stops old new found is e (ends memory)
    go (Some value) e = found_stops old new found value is e (ends memory)
