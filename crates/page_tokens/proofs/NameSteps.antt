-- What the standard does where the name of a reference ends, and what the tokenizer puts in place of the name.
use Rattle.std.specs.Prelude.{◌≡◌, ℕ, Bool, true, false, not, ◌&&◌, List, [], ◌∷◌, ◌++◌, take, drop, length, Option, None, Some, unwrap_or, string_bytes, refl}
use Rattle.std.specs.Option.{option_map}
use Rattle.std.specs.Str.{encode_utf8_all}
use Rattle.std.proofs.lemmas.List.{append_assoc}
use Rattle.std.proofs.lemmas.Str.{encodes-append}
use mathlib.Core.Path.{◌∙◌, sym, ap, ap₂}
use Rattle.standard_tokens.specs.Entries.{Add, Buffer, BufferName, Current, Flush, Reconsume, SwitchBack}
use Rattle.standard_tokens.specs.Machine.{Machine, at_state, emitted, ends_open, goes_on, is_value, longest_name, taken, value_of}
use Rattle.standard_tokens.specs.States as there
use Rattle.standard_tokens.specs.Table.{entries}
use Rattle.page_tokens.specs.NameTable.{characters_of}
use Rattle.page_tokens.specs.NamedReferences.{IsLongest, after_name, longest_in}
use Rattle.page_tokens.specs.References.{is_part_of_word, meant_by}
use Rattle.page_tokens.specs.Standard.{Goes}
use Rattle.page_tokens.specs.StandardStates.{state_of}
use Rattle.page_tokens.specs.declared.named_references.Value.{Value}
use Rattle.page_tokens.specs.declared.tokenizer.Tokenizer.{Tokenizer}
use Rattle.page_tokens.proofs.AmbiguousSteps.{letter_of, text_letter, value_letter}
use Rattle.page_tokens.proofs.LongestNames.{longest_parts}
use Rattle.page_tokens.proofs.PlaceLetters.{ReadsLetters}
use Rattle.page_tokens.proofs.ReferenceEnds.{flushing}
use Rattle.page_tokens.proofs.StandardSteps.{by_entry, taking}

-- ---- the steps

-- the machine in the named character reference state, with this buffer
abbrev pub named : List ℕ → Machine → Machine
named buffer m = record m { state = there.NamedCharacterReference; buffer = buffer }

-- whether the name that is consumed is part of a word
abbrev pub is_historical : Machine → List ℕ → List ℕ → Bool
is_historical m name rest = is_value m.return_state && ends_open name && goes_on rest

pub part_of_word : (b : Bool) (m : Machine) (text name : List ℕ) → longest_name text ≡ Some name → is_historical m name (drop (length name) text) ≡ true →
    Goes (named m.buffer m) text (emitted [] Flush (named (m.buffer ++ name) m) ++ []) (flushing (named (m.buffer ++ name) m)) (drop (length name) text)
unfolding taken entries
part_of_word b m text name longest test = by_entry (named m.buffer m) text (taking (Add Buffer Current ∷ Flush ∷ []) SwitchBack name) (λ x. rw (longest, test) refl) refl

pub name_means : (b : Bool) (m : Machine) (text name : List ℕ) → longest_name text ≡ Some name → is_historical m name (drop (length name) text) ≡ false →
    Goes (named m.buffer m) text (emitted [] Flush (named (value_of name) m) ++ []) (flushing (named (value_of name) m)) (drop (length name) text)
unfolding taken entries
name_means b m text name longest test = by_entry (named m.buffer m) text (taking (BufferName ∷ Flush ∷ []) SwitchBack name) (λ x. rw (longest, test) refl) refl

pub no_name : (b : Bool) (m : Machine) (text : List ℕ) → longest_name text ≡ None →
    Goes (named m.buffer m) text (emitted [] Flush (named m.buffer m) ++ []) (at_state (flushing (named m.buffer m)) there.AmbiguousAmpersand) text
unfolding taken entries
no_name b m text longest = by_entry (named m.buffer m) text (taking (Flush ∷ []) (Reconsume there.AmbiguousAmpersand) (take 1 text)) (λ x. rw longest refl) refl

-- letters and digits in the ambiguous ampersand state
pub ambiguous_letters : (in_value : Bool) → ReadsLetters in_value there.AmbiguousAmpersand
ambiguous_letters true b m c rest e letter = value_letter b m c rest e (letter_of c letter)
ambiguous_letters false b m c rest e letter = text_letter b m c rest e (letter_of c letter)

-- ---- what takes the place of the name

-- where the longest name begins no text, nothing was found
pub none_found : (read : List ℕ) (closed : Bool) → IsLongest read None closed → longest_name read ≡ None
none_found read closed h = go (longest_name read) h.means
  where
    go : (found : Option (List ℕ)) → option_map characters_of None ≡ option_map value_of found → found ≡ None
    go None e = refl
    go (Some name) e = absurd (cc)

-- a name, and its characters are those that were found
pub record IsFound (read : List ℕ) (value : Value) : Type 0 where
  pub name : List ℕ
  pub longest : longest_name read ≡ Some name
  pub means : characters_of value ≡ value_of name

pub some_found : (read : List ℕ) (value : Value) (closed : Bool) → IsLongest read (Some value) closed → IsFound read value
some_found read value closed h = go (longest_name read) refl h.means
  where
    go : (found : Option (List ℕ)) → longest_name read ≡ found → Some (characters_of value) ≡ option_map value_of found → IsFound read value
    go None e means = absurd (cc)
    go (Some name) e means = record { name = name; longest = e; means = cc }

-- what comes first decides whether a word goes on
goes_on_first : (after : List ℕ) (c : ℕ) (rest : List ℕ) → goes_on (after ++ c ∷ rest) ≡ goes_on (after ++ c ∷ [])
goes_on_first [] c rest = refl
goes_on_first (d ∷ after) c rest = refl

three_tests : (a b c : Bool) → (b && (a && c)) ≡ (a && b && c)
three_tests true true c = refl
three_tests true false c = refl
three_tests false true c = refl
three_tests false false c = refl

undone : (x : Bool) → not (not x) ≡ x
undone true = refl
undone false = refl

-- the test of the tokenizer is that of the standard
pub same_test : (t : Tokenizer) (closed : Bool) (m : Machine) (read name : List ℕ) (c : ℕ) (rest : List ℕ) → m.return_state ≡ state_of t.state → closed ≡ not (ends_open (longest_in read)) → longest_name read ≡ Some name →
    string_bytes t.behind ≡ after_name read → (not closed && is_part_of_word t (Some c)) ≡ is_historical m name (after_name read ++ c ∷ rest)
same_test t closed m read name c rest back ends longest behind =
    let unclosed : not closed ≡ ends_open name = ap not ends ∙ undone (ends_open (longest_in read)) ∙ ap (λ (o : Option (List ℕ)). ends_open (unwrap_or o [])) longest in
    let value : is_value (state_of t.state) ≡ is_value m.return_state = ap is_value (sym back) in
    let word : goes_on (string_bytes t.behind ++ c ∷ []) ≡ goes_on (after_name read ++ c ∷ rest) = ap (λ (after : List ℕ). goes_on (after ++ c ∷ [])) behind ∙ sym (goes_on_first (after_name read) c rest) in
    ap (λ x. x && is_part_of_word t (Some c)) unclosed ∙ ap (λ x. ends_open name && (x && goes_on (string_bytes t.behind ++ c ∷ []))) value ∙ ap (λ x. ends_open name && (is_value m.return_state && x)) word
    ∙ three_tests (is_value m.return_state) (ends_open name) (goes_on (after_name read ++ c ∷ rest))

-- what was written: the ampersand, the name, and what was read after it
pub written_parts : (written read name buffer : List ℕ) → longest_name read ≡ Some name → written ≡ encode_utf8_all (buffer ++ read) → written ≡ encode_utf8_all (buffer ++ name ++ after_name read)
written_parts written read name buffer longest is =
    is ∙ ap (λ (t : List ℕ). encode_utf8_all (buffer ++ t)) (longest_parts read name longest).0 ∙ ap encode_utf8_all (sym (append_assoc buffer name (after_name read)))

-- what the name means, and what was read after it
pub meant_parts : (t : Tokenizer) (value : Value) (read name : List ℕ) → characters_of value ≡ value_of name → string_bytes t.behind ≡ encode_utf8_all (after_name read) → meant_by value t ≡ encode_utf8_all (value_of name ++ after_name read)
meant_parts t value read name means behind = ap₂ (λ (a b : List ℕ). encode_utf8_all a ++ b) means behind ∙ sym (encodes-append (value_of name) (after_name read))
