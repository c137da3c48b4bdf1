-- How a character reference is read (13.2.5.72 to 13.2.5.80).
use Rattle.std.specs.Prelude.{◌≡◌, ℕ, ◌+◌, ◌*◌, min, Bool, true, false, not, cond, ◌==◌, ◌&&◌, ◌||◌, List, [], ◌∷◌, ◌++◌, map, Option}
use Rattle.std.specs.Prelude.{None, Some, MatchOption, encode_utf8, string_bytes}
use Rattle.std.specs.Char.{is_ascii_alphanumeric}
use Rattle.std.specs.Option.{option_map_or}
use Rattle.std.specs.Str.{encode_utf8_all}
use Rattle.standard_tokens.specs.Machine.{Machine, goes_on, is_value, longest_name}
use Rattle.standard_tokens.specs.Tokens.{AChar}
use Rattle.page_tokens.specs.Changes.{Gains}
use Rattle.page_tokens.specs.NameTable.{characters_of}
use Rattle.page_tokens.specs.NamedReferences.{read_of, IsSettled}
use Rattle.page_tokens.specs.Reading.{text_of}
use Rattle.page_tokens.specs.Standard.{Behind, Goes, Leaves, Stands, StandsInReference}
use Rattle.page_tokens.specs.StandardStates.{state_of}
use Rattle.page_tokens.specs.declared.named_references.Value.{Value}
use Rattle.page_tokens.specs.declared.tokenizer.Tokenizer.{Tokenizer}
use Rattle.page_tokens.specs.declared.tokenizer.named.Match.{Match}
use Rattle.page_tokens.specs.declared.tokenizer.references.Reference.{Reference}
use Rattle.page_tokens.specs.declared.tokenizer.references.Reference.TheVariants as reference
use Rattle.page_tokens.specs.declared.tokenizer.state.Place.{Place}
use Rattle.page_tokens.specs.declared.tokenizer.state.Place.TheVariants as place
use Rattle.page_tokens.specs.declared.tokenizer.state.State.{State}

-- ---- a character in a reference

-- The reference ends in front of a character: the machine stands there, outside of references.
pub record InFront (old new : Tokenizer) (m : Machine) (ahead rest : List ℕ) : Type 0 where
  pub machine : Machine
  pub characters : List ℕ
  pub goes : Goes m (ahead ++ rest) (map AChar characters) machine rest
  pub stands : Stands new [] machine
  pub text : text_of new ≡ text_of old ++ encode_utf8_all characters

-- The character is part of the reference, or the reference ends in front of it.
abbrev pub ReadsOrEnds : Bool → Tokenizer → Tokenizer → ℕ → Machine → List ℕ → List ℕ → Type 0
ReadsOrEnds true old new c m ahead rest = Behind old new (c ∷ []) None m ahead rest
ReadsOrEnds false old new c m ahead rest = InFront old new m ahead (c ∷ rest)

pub record ReadsReference (old new : Tokenizer) (c : ℕ) (is_part : Bool) : Type 0 where
  pub memory : old.refused ≡ false
  pub leaves : Leaves old new
  pub reads : (m : Machine) (ahead rest : List ℕ) → StandsInReference old ahead m → ReadsOrEnds is_part old new c m ahead rest

-- The call reads a character in a reference as the standard does, and tells whether it is part of the reference.
abbrev pub FollowsInReference : Tokenizer → Tokenizer → ℕ → Bool → Type 0
FollowsInReference old new c is_part = new.refused ≡ false → ReadsReference old new c is_part

-- ---- what the small steps change

-- the reference goes on, and the character is appended to what was written
pub record WritesOn (old new : Tokenizer) (next : Reference) (more : List ℕ) : Type 0 where
  pub memory : old.refused ≡ false
  pub only : new ≡ record old { reference = next; written = new.written; refused = new.refused }
  pub written : string_bytes new.written ≡ string_bytes old.written ++ more

-- where the characters of a reference go: to the value of the attribute, or else to the text
abbrev pub place_of : State → Place
place_of outer = cond (is_value (state_of outer)) place.AttrValue place.Text

-- these bytes are appended there
pub record Puts (old new : Tokenizer) (put : List ℕ) : Type 0 where
  pub memory : old.refused ≡ false
  pub gains : Gains (place_of old.state) old new put

-- the reference ends, and these bytes take its place
pub record EndsReference (old new : Tokenizer) (put : List ℕ) : Type 0 where
  pub memory : old.refused ≡ false
  pub gains : Gains (place_of old.state) (record old { reference = reference.None; written = new.written }) new put

-- ---- numbers

-- the base of the digits that may follow
abbrev pub base_of : Reference → ℕ
base_of reference.HexStart = 16
base_of (reference.Hex number) = 16
base_of _ = 10

abbrev pub number_of : Reference → Option ℕ
number_of (reference.Hex number) = Some number
number_of (reference.Decimal number) = Some number
number_of _ = None

-- the reference with one more digit; the numbers above the last code point are all the same
abbrev pub with_digit_of : Reference → ℕ → Reference
with_digit_of reference.HexStart digit = reference.Hex (min (0 * 16 + digit) 0x110000)
with_digit_of (reference.Hex number) digit = reference.Hex (min (number * 16 + digit) 0x110000)
with_digit_of (reference.Decimal number) digit = reference.Decimal (min (number * 10 + digit) 0x110000)
with_digit_of _ digit = reference.Decimal (min (0 * 10 + digit) 0x110000)

-- a digit may come; behind `&#` the character is no `x`, with which a hexadecimal number begins
abbrev pub DigitsFollow : Reference → ℕ → Type 0
DigitsFollow reference.Number c = (c ≡ 120 → ⊥) × (c ≡ 88 → ⊥)
DigitsFollow reference.HexStart c = Unit {0}
DigitsFollow (reference.Hex number) c = Unit {0}
DigitsFollow (reference.Decimal number) c = Unit {0}
DigitsFollow _ c = ⊥

-- ---- names

-- The match is extended by a character: the longest name is now all that was read, or else the one before.
pub record IsExtended (found : Match) (c : ℕ) (more : Match) : Type 0 where
  pub read : read_of more.names ≡ read_of found.names ++ c ∷ []
  pub longest : longest_name (read_of more.names) ≡ cond more.is_whole (Some (read_of more.names)) (longest_name (read_of found.names))

-- the match is extended by a character, or no name goes on with it
abbrev pub MatchesOn : Match → ℕ → Option Match → Type 0
MatchesOn found c result = MatchOption result (IsSettled (read_of found.names) c) (IsExtended found c)

-- the name goes on with a character; if all that was read is a name, nothing was read after it yet
pub record NameGoesOn (old new : Tokenizer) (found : Match) (c : ℕ) : Type 0 where
  pub memory : old.refused ≡ false
  pub only : new ≡ record old { reference = reference.Named found; written = new.written; behind = new.behind; refused = new.refused }
  pub written : string_bytes new.written ≡ string_bytes old.written ++ encode_utf8 c
  pub behind : string_bytes new.behind ≡ cond found.is_whole [] (string_bytes old.behind ++ encode_utf8 c)

-- a letter, a digit or `=`
abbrev pub is_of_word : ℕ → Bool
is_of_word c = c == 61 || is_ascii_alphanumeric c

-- In the value of an attribute one of these follows the longest name; `next` is the character after what was read.
abbrev pub is_part_of_word : Tokenizer → Option ℕ → Bool
is_part_of_word t next = is_value (state_of t.state) && goes_on (string_bytes t.behind ++ option_map_or (λ c. c ∷ []) next [])

-- what the longest name means, and what was read after it
abbrev pub meant_by : Value → Tokenizer → List ℕ
meant_by value t = encode_utf8_all (characters_of value) ++ string_bytes t.behind

-- what takes the place of a name that ends, of which the longest name has this value, or there is none
abbrev pub put_for : Option Value → Bool → Tokenizer → List ℕ
put_for None part t = string_bytes t.written
put_for (Some value) part t = cond part (string_bytes t.written) (meant_by value t)

abbrev pub replaced_by : Match → Option ℕ → Tokenizer → List ℕ
replaced_by found next t = put_for found.value (not found.closed && is_part_of_word t next) t

-- the buffer of the reference has these bytes in place of those before
pub record Rewrites (old new : Tokenizer) (bytes : List ℕ) : Type 0 where
  pub memory : old.refused ≡ false
  pub only : new ≡ record old { written = new.written; errors = new.errors; refused = new.refused }
  pub written : string_bytes new.written ≡ bytes
