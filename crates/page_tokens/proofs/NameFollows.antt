-- The tokenizer reads named character references as the standard does.
use Rattle.std.specs.Prelude.{◌≡◌, ℕ, Bool, true, false, not, cond, ◌&&◌, List, [], ◌∷◌, ◌++◌, map, codes, length, drop, Option, None, Some, unwrap_or, string_bytes, refl}
use Rattle.std.proofs.Common.{inl, inr}
use Rattle.std.specs.Char.{encode_utf8, is_ascii_alphanumeric}
use Rattle.std.specs.List.{list_all}
use Rattle.std.specs.Option.{is_some}
use Rattle.std.specs.Str.{encode_utf8_all}
use Rattle.std.proofs.lemmas.List.{append-nil, append_assoc, map-append}
use Rattle.std.proofs.lemmas.Str.{encodes-append}
use mathlib.Core.Path.{◌∙◌, sym, ap, subst}
use Rattle.standard_tokens.specs.Entries.{Flush}
use Rattle.standard_tokens.specs.Machine.{Machine, at_state, emitted, is_value, longest_name, value_of}
use Rattle.standard_tokens.specs.States as there
use Rattle.standard_tokens.specs.Tokens.{AChar}
use Rattle.page_tokens.specs.NamedReferences.{IsLongest, IsSettled, after_name, read_of}
use Rattle.page_tokens.specs.Reading.{text_of}
use Rattle.page_tokens.specs.References.{EndsReference, FollowsInReference, InFront, IsExtended, NameGoesOn, ReadsOrEnds, ReadsReference, is_part_of_word, meant_by, put_for, replaced_by}
use Rattle.page_tokens.specs.Standard.{Goes, Leaves, StandsInReference, stays}
use Rattle.page_tokens.specs.declared.named_references.Value.{Value}
use Rattle.page_tokens.specs.declared.tokenizer.Tokenizer.{Tokenizer}
use Rattle.page_tokens.specs.declared.tokenizer.named.Match.{Match}
use Rattle.page_tokens.specs.declared.tokenizer.references.Reference.{Reference}
use Rattle.page_tokens.specs.declared.tokenizer.references.Reference.TheVariants as reference
use Rattle.page_tokens.proofs.AmbiguousSteps.{letter_of, name_begins}
use Rattle.page_tokens.proofs.LongestNames.{after_letters, after_more, after_nothing, letters_encode, rest_after}
use Rattle.page_tokens.proofs.NameSteps.{IsFound, ambiguous_letters, is_historical, meant_parts, name_means, named, no_name, none_found, part_of_word, same_test, some_found, written_parts}
use Rattle.page_tokens.proofs.NumberFollows.{At, at, outside_on, placed}
use Rattle.page_tokens.proofs.PlaceLetters.{ReadsLetters, letters_behind, put_if, shown_if}
use Rattle.page_tokens.proofs.ReferenceEnds.{Outside, Place_of, PutsThere, ends_leaves, ends_none, flushing, outside_at, puts_there, stands_in, stands_out}
use Rattle.page_tokens.proofs.StandardSteps.{in_its_state, then_on}

-- the tokenizer in a reference by name
abbrev pub with_name : Tokenizer → Match → Tokenizer
with_name old found = record old { reference = reference.Named found }

pub in_its_reference : (old new : Tokenizer) (found : Match) (c : ℕ) (is_part : Bool) → old.reference ≡ reference.Named found → FollowsInReference (with_name old found) new c is_part → FollowsInReference old new c is_part
in_its_reference old new found c is_part is follows none =
    subst (λ t. ReadsReference t new c is_part) (ap (λ (r : Reference). record old { reference = r }) (sym is)) (follows none)

-- ---- the name goes on

one_more : (bytes old_bytes before : List ℕ) (c : ℕ) → bytes ≡ old_bytes ++ encode_utf8 c → old_bytes ≡ encode_utf8_all before → bytes ≡ encode_utf8_all (before ++ c ∷ [])
one_more bytes old_bytes before c is old_is =
    is ∙ ap (λ e. e ++ encode_utf8 c) old_is ∙ ap (λ e. encode_utf8_all before ++ e) (sym (append-nil (encode_utf8 c))) ∙ sym (encodes-append before (c ∷ []))

behind_more : (bytes old_bytes read text : List ℕ) (c : ℕ) (whole : Bool) → bytes ≡ cond whole [] (old_bytes ++ encode_utf8 c) → old_bytes ≡ encode_utf8_all (after_name read) →
    after_name text ≡ cond whole [] (after_name read ++ c ∷ []) → bytes ≡ encode_utf8_all (after_name text)
behind_more bytes old_bytes read text c true is old_is after = is ∙ ap encode_utf8_all (sym after)
behind_more bytes old_bytes read text c false is old_is after = one_more bytes old_bytes (after_name read) c is old_is ∙ ap encode_utf8_all (sym after)

pub goes_on_arm : (old new : Tokenizer) (found more : Match) (c : ℕ) (is_part : Bool) → IsExtended found c more → is_part ≡ true → (new.refused ≡ false → NameGoesOn old new more c) → FollowsInReference (with_name old found) new c is_part
goes_on_arm old new found more c is_part extended part goes none =
    let w : NameGoesOn old new more c = goes none in
    let made : Tokenizer = record old { reference = reference.Named more; written = new.written; behind = new.behind; refused = new.refused } in
    subst (ReadsReference (with_name old found) new c) (sym part) (record {
      memory = w.memory;
      leaves = record { in_foreign = ap (λ t. t.in_foreign) w.only; after_return = ap (λ t. t.after_return) w.only };
      reads = λ m ahead rest stands.
          let here : At (with_name old found) (reference.Named found) ahead m = at (with_name old found) (reference.Named found) ahead m refl stands in
          let read : read_of more.names ≡ ahead ++ c ∷ [] = extended.read ∙ ap (λ t. t ++ c ∷ []) (sym here.inside.0) in
          let longest : longest_name (ahead ++ c ∷ []) ≡ cond more.is_whole (Some (ahead ++ c ∷ [])) (longest_name ahead) =
          subst (λ t. longest_name t ≡ cond more.is_whole (Some t) (longest_name ahead)) read (subst (λ t. longest_name (read_of more.names) ≡ cond more.is_whole (Some (read_of more.names)) (longest_name t)) (sym here.inside.0) extended.longest) in
          let outside : Outside made m = record { back = here.outside.back; last_start = here.outside.last_start; place = here.outside.place } in
          let written : string_bytes new.written ≡ encode_utf8_all (m.buffer ++ (ahead ++ c ∷ [])) =
          one_more (string_bytes new.written) (string_bytes old.written) (m.buffer ++ ahead) c w.written here.inside.2 ∙ ap encode_utf8_all (append_assoc m.buffer ahead (c ∷ [])) in
          let behind : string_bytes new.behind ≡ encode_utf8_all (after_name (ahead ++ c ∷ [])) =
          behind_more (string_bytes new.behind) (string_bytes old.behind) ahead (ahead ++ c ∷ []) c more.is_whole w.behind here.inside.3 (after_more ahead (ahead ++ c ∷ []) c more.is_whole refl longest) in
          let on : StandsInReference made (ahead ++ c ∷ []) m = stands_in made (ahead ++ c ∷ []) m outside here.state (sym read, here.inside.1, written, behind) in
          record {
            machine = m;
            ahead' = ahead ++ c ∷ [];
            characters = [];
            tokens = [];
            goes = stays_here old.in_foreign m (ahead ++ (c ∷ []) ++ rest);
            holds = inr (subst (λ t. StandsInReference t (ahead ++ c ∷ []) m) (sym w.only) on);
            text = ap text_of w.only ∙ sym (append-nil (text_of old));
            ends = refl;
          };
    })
  where
    stays_here : (b : Bool) (m : Machine) (text : List ℕ) → Goes m text [] m text
    stays_here b m text = stays

-- ---- after steps in front of the character

more_text : (before mid after front back : List ℕ) → mid ≡ before ++ encode_utf8_all front → after ≡ mid ++ encode_utf8_all back → after ≡ before ++ encode_utf8_all (front ++ back)
more_text before mid after front back one two =
    two ∙ ap (λ e. e ++ encode_utf8_all back) one ∙ append_assoc before (encode_utf8_all front) (encode_utf8_all back) ∙ ap (λ e. before ++ e) (sym (encodes-append front back))

-- the character is read after steps that emit characters
then_reads : (old mid new : Tokenizer) (c : ℕ) (is_part : Bool) (m n : Machine) (ahead rest characters : List ℕ) → Goes m (ahead ++ c ∷ rest) (map AChar characters) n (c ∷ rest) → mid.in_foreign ≡ old.in_foreign →
    text_of mid ≡ text_of old ++ encode_utf8_all characters → ReadsOrEnds is_part mid new c n [] rest → ReadsOrEnds is_part old new c m ahead rest
then_reads old mid new c true m n ahead rest characters goes same text reads =
    let b : Bool = old.in_foreign in
    let first : Goes m (ahead ++ (c ∷ []) ++ rest) (map AChar characters) n (c ∷ rest) = subst (λ t. Goes m t (map AChar characters) n (c ∷ rest)) (sym (append_assoc ahead (c ∷ []) rest)) goes in
    let later : Goes n (c ∷ rest) (map AChar reads.characters ++ reads.tokens) reads.machine (reads.ahead' ++ rest) =
    subst (λ b. Goes n (c ∷ rest) (map AChar reads.characters ++ reads.tokens) reads.machine (reads.ahead' ++ rest)) same reads.goes in
    let all : map AChar characters ++ (map AChar reads.characters ++ reads.tokens) ≡ map AChar (characters ++ reads.characters) ++ reads.tokens =
    sym (append_assoc (map AChar characters) (map AChar reads.characters) reads.tokens) ∙ ap (λ ts. ts ++ reads.tokens) (sym (map-append AChar characters reads.characters)) in
    record {
      machine = reads.machine;
      ahead' = reads.ahead';
      characters = characters ++ reads.characters;
      tokens = reads.tokens;
      goes = subst (λ ts. Goes m (ahead ++ (c ∷ []) ++ rest) ts reads.machine (reads.ahead' ++ rest)) all (then_on first later);
      holds = reads.holds;
      text = more_text (text_of old) (text_of mid) (text_of new) characters reads.characters text reads.text;
      ends = reads.ends;
    }
then_reads old mid new c false m n ahead rest characters goes same text reads =
    let b : Bool = old.in_foreign in
    let later : Goes n (c ∷ rest) (map AChar reads.characters) reads.machine (c ∷ rest) = subst (λ b. Goes n (c ∷ rest) (map AChar reads.characters) reads.machine (c ∷ rest)) same reads.goes in
    record {
      machine = reads.machine;
      characters = characters ++ reads.characters;
      goes = subst (λ ts. Goes m (ahead ++ c ∷ rest) ts reads.machine (c ∷ rest)) (sym (map-append AChar characters reads.characters)) (then_on goes later);
      stands = reads.stands;
      text = more_text (text_of old) (text_of mid) (text_of new) characters reads.characters text reads.text;
    }

-- a name begins
pub begins_arm : (old mid new : Tokenizer) (found : Match) (c : ℕ) (is_part : Bool) → is_ascii_alphanumeric c ≡ true → read_of found.names ≡ [] → mid ≡ record old { behind = mid.behind } → string_bytes mid.behind ≡ [] →
    FollowsInReference (with_name mid found) new c is_part → old.reference ≡ reference.Begun → FollowsInReference old new c is_part
unfolding encode_utf8
begins_arm old mid new found c is_part letter read only empty follows is none =
    let f : ReadsReference (with_name mid found) new c is_part = follows none in
    let made : Tokenizer = record old { behind = mid.behind; reference = reference.Named found } in
    let mid_is : with_name mid found ≡ made = ap (λ t. with_name t found) only in
    record {
      memory = sym (ap (λ t. t.refused) only) ∙ f.memory;
      leaves = record { in_foreign = f.leaves.in_foreign ∙ ap (λ t. t.in_foreign) only; after_return = f.leaves.after_return ∙ ap (λ t. t.after_return) only };
      reads = λ m ahead rest stands.
          let here : At old reference.Begun ahead m = at old reference.Begun ahead m is stands in
          let n : Machine = named (codes "&") m in
          let goes : Goes m (ahead ++ c ∷ rest) [] n (c ∷ rest) =
          subst (λ t. Goes m t [] n (c ∷ rest)) (append_assoc ahead (c ∷ []) rest) (placed m there.CharacterReference c ahead rest here.state here.inside.0 (name_begins old.in_foreign m c rest (letter_of c letter))) in
          let outside : Outside made n = record { back = here.outside.back; last_start = here.outside.last_start; place = here.outside.place } in
          let on : StandsInReference made [] n = stands_in made [] n outside refl (sym read, refl, here.inside.1, empty ∙ ap encode_utf8_all (sym after_nothing)) in
          then_reads old (with_name mid found) new c is_part m n ahead rest [] goes (ap (λ t. t.in_foreign) only) (ap text_of only ∙ sym (append-nil (text_of old)))
          (f.reads n [] rest (subst (λ t. StandsInReference t [] n) (sym mid_is) on));
    }

-- ---- the name ends

-- letters and digits are read in the place of the reference
record PlaceReads (m : Machine) : Type 0 where
  pub in_value : Bool
  pub is : is_value m.return_state ≡ in_value
  pub reads : ReadsLetters in_value m.return_state

place_reads : (t : Tokenizer) (m : Machine) → Outside t m → PlaceReads m
place_reads t m outside = go outside.place
  where
    go : Place_of t.state t.tag m.tag → PlaceReads m
    go (inl text) = record { in_value = false; is = ap is_value outside.back ∙ text.no_value; reads = subst (ReadsLetters false) (sym outside.back) text.reads }
    go (inr value) = record { in_value = true; is = ap is_value outside.back ∙ value.value; reads = subst (ReadsLetters true) (sym outside.back) value.reads }

same_back : (in_value : Bool) (put : List ℕ) (m : Machine) → (put_if in_value put m).return_state ≡ m.return_state
same_back true put m = refl
same_back false put m = refl

-- the buffer is flushed, and the letters and digits after the name are read
in_front : (old new : Tokenizer) (m k : Machine) (ahead after tail : List ℕ) → Outside old k → list_all is_ascii_alphanumeric after ≡ true → EndsReference old new (encode_utf8_all (k.buffer ++ after)) →
    Goes m (ahead ++ tail) (emitted [] Flush k ++ []) (flushing k) (after ++ tail) → InFront old new m ahead tail
in_front old new m k ahead after tail outside letters ends goes =
    let b : Bool = old.in_foreign in
    let v : Bool = is_value k.return_state in
    let put : List ℕ = k.buffer ++ after in
    let n : Machine = at_state (put_if v put k) k.return_state in
    let there : PutsThere old new k put = puts_there old new k put outside ends in
    let r : PlaceReads k = place_reads old k outside in
    let first : Goes m (ahead ++ tail) (emitted [] Flush k ++ []) (at_state (put_if v k.buffer k) k.return_state) (after ++ tail) =
    subst (λ s. Goes m (ahead ++ tail) (emitted [] Flush k ++ []) (at_state (put_if v k.buffer k) s) (after ++ tail)) (same_back v k.buffer k) goes in
    let all : Goes m (ahead ++ tail) (shown_if v put) n tail = letters_behind r.in_value k.return_state r.reads b m k (ahead ++ tail) after tail r.is letters first in
    record {
      machine = n;
      characters = there.characters;
      goes = subst (λ ts. Goes m (ahead ++ tail) ts n tail) there.shows all;
      stands = stands_out new n (ends_none old new (encode_utf8_all put) ends) (sym (same_back v put k) ∙ there.outside.back) (outside_at new (put_if v put k) k.return_state there.outside);
      text = there.text;
    }

-- a name ends in front of a text with which no name goes on
pub name_in_front : (old new : Tokenizer) (m : Machine) (ahead tail : List ℕ) (value : Value) (word : Bool) (f : IsFound ahead value) → Outside old m → m.state ≡ there.NamedCharacterReference →
    string_bytes old.written ≡ encode_utf8_all (m.buffer ++ ahead) → string_bytes old.behind ≡ encode_utf8_all (after_name ahead) → list_all is_ascii_alphanumeric (after_name ahead) ≡ true →
    longest_name (ahead ++ tail) ≡ longest_name ahead → is_historical m f.name (after_name ahead ++ tail) ≡ word → EndsReference old new (cond word (string_bytes old.written) (meant_by value old)) → InFront old new m ahead tail
name_in_front old new m ahead tail value true f outside state written behind letters settled test ends =
    let k : Machine = named (m.buffer ++ f.name) m in
    let rest : drop (length f.name) (ahead ++ tail) ≡ after_name ahead ++ tail = rest_after ahead f.name tail f.longest in
    in_front old new m k ahead (after_name ahead) tail (outside_on old m there.NamedCharacterReference k.buffer m.code outside) letters
    (subst (EndsReference old new) (written_parts (string_bytes old.written) ahead f.name m.buffer f.longest written) ends)
    (subst (λ from. Goes from (ahead ++ tail) (emitted [] Flush k ++ []) (flushing k) (after_name ahead ++ tail)) (in_its_state m there.NamedCharacterReference state)
    (subst (λ t. Goes (named m.buffer m) (ahead ++ tail) (emitted [] Flush k ++ []) (flushing k) t) rest
    (part_of_word old.in_foreign m (ahead ++ tail) f.name (settled ∙ f.longest) (ap (is_historical m f.name) rest ∙ test))))
name_in_front old new m ahead tail value false f outside state written behind letters settled test ends =
    let k : Machine = named (value_of f.name) m in
    let rest : drop (length f.name) (ahead ++ tail) ≡ after_name ahead ++ tail = rest_after ahead f.name tail f.longest in
    in_front old new m k ahead (after_name ahead) tail (outside_on old m there.NamedCharacterReference k.buffer m.code outside) letters
    (subst (EndsReference old new) (meant_parts old value ahead f.name f.means behind) ends)
    (subst (λ from. Goes from (ahead ++ tail) (emitted [] Flush k ++ []) (flushing k) (after_name ahead ++ tail)) (in_its_state m there.NamedCharacterReference state)
    (subst (λ t. Goes (named m.buffer m) (ahead ++ tail) (emitted [] Flush k ++ []) (flushing k) t) rest
    (name_means old.in_foreign m (ahead ++ tail) f.name (settled ∙ f.longest) (ap (is_historical m f.name) rest ∙ test))))

-- what the match says of the characters that were read
record Known (found : Match) (c : ℕ) (ahead : List ℕ) : Type 0 where
  pub longest : IsLongest ahead found.value found.closed
  pub letters : list_all is_ascii_alphanumeric (after_name ahead) ≡ true
  pub settled : (rest : List ℕ) → longest_name (ahead ++ c ∷ rest) ≡ longest_name ahead

known_of : (found : Match) (c : ℕ) (ahead : List ℕ) → ahead ≡ read_of found.names → IsSettled (read_of found.names) c → Known found c ahead
known_of found c ahead read settled = subst (Known found c) (sym read) (record {
  longest = found.longest;
  letters = after_letters found.names.low found.names.high found.names.place found.names.exactly;
  settled = settled;
})

ends_named : (old new : Tokenizer) (found : Match) (put : List ℕ) → EndsReference old new put → EndsReference (with_name old found) new put
ends_named old new found put ends = record { memory = ends.memory; gains = ends.gains }

-- the longest name has this value
found_arm : (old new : Tokenizer) (found : Match) (value : Value) (c : ℕ) (is_part : Bool) → found.value ≡ Some value → is_part ≡ false → IsSettled (read_of found.names) c →
    (new.refused ≡ false → EndsReference old new (replaced_by found (Some c) old)) → FollowsInReference (with_name old found) new c is_part
found_arm old new found value c is_part some part settled ends none =
    let base : Tokenizer = with_name old found in
    let word : Bool = not found.closed && is_part_of_word old (Some c) in
    let put : List ℕ = cond word (string_bytes old.written) (meant_by value old) in
    let e : EndsReference base new put = subst (λ v. EndsReference base new (put_for v word old)) some (ends_named old new found (replaced_by found (Some c) old) (ends none)) in
    subst (ReadsReference base new c) (sym part) (record {
      memory = e.memory;
      leaves = ends_leaves base new put e;
      reads = λ m ahead rest stands.
          let here : At base (reference.Named found) ahead m = at base (reference.Named found) ahead m refl stands in
          let known : Known found c ahead = known_of found c ahead here.inside.0 settled in
          let longest : IsLongest ahead (Some value) found.closed = subst (λ v. IsLongest ahead v found.closed) some known.longest in
          let f : IsFound ahead value = some_found ahead value found.closed longest in
          let plain : string_bytes base.behind ≡ after_name ahead = here.inside.3 ∙ letters_encode (after_name ahead) known.letters in
          name_in_front base new m ahead (c ∷ rest) value word f here.outside here.state here.inside.2 here.inside.3 known.letters (known.settled rest)
          (sym (same_test old found.closed m ahead f.name c rest here.outside.back longest.ends f.longest plain)) e;
    })

-- there is a longest name
pub value_arm : (old new : Tokenizer) (found : Match) (c : ℕ) (is_part : Bool) → is_some found.value ≡ true → is_part ≡ false → IsSettled (read_of found.names) c → (new.refused ≡ false → EndsReference old new (replaced_by found (Some c) old)) →
    FollowsInReference (with_name old found) new c is_part
value_arm old new found c is_part some part settled ends = go found.value refl some
  where
    go : (v : Option Value) → found.value ≡ v → is_some v ≡ true → FollowsInReference (with_name old found) new c is_part
    go None e h = absurd (cc)
    go (Some value) e h = found_arm old new found value c is_part e part settled ends

none_from : (v : Option Value) → is_some v ≡ false → v ≡ None
none_from None h = refl
none_from (Some value) h = absurd (cc)

-- no name begins what was read: its letters and digits are text
pub ambiguous_arm : (old mid new : Tokenizer) (found : Match) (c : ℕ) (is_part : Bool) → is_some found.value ≡ false → IsSettled (read_of found.names) c → (mid.refused ≡ false → EndsReference old mid (replaced_by found (Some c) old)) →
    FollowsInReference (record mid { reference = reference.Ambiguous }) new c is_part → FollowsInReference (with_name old found) new c is_part
ambiguous_arm old mid new found c is_part empty settled ends follows none =
    let no_value : found.value ≡ None = none_from found.value empty in
    let base : Tokenizer = with_name old found in
    let made : Tokenizer = record mid { reference = reference.Ambiguous } in
    let f : ReadsReference made new c is_part = follows none in
    let e : EndsReference base mid (string_bytes old.written) =
    subst (λ v. EndsReference base mid (put_for v (not found.closed && is_part_of_word old (Some c)) old)) no_value (ends_named old mid found (replaced_by found (Some c) old) (ends f.memory)) in
    let left : Leaves base mid = ends_leaves base mid (string_bytes old.written) e in
    record {
      memory = e.memory;
      leaves = record { in_foreign = f.leaves.in_foreign ∙ left.in_foreign; after_return = f.leaves.after_return ∙ left.after_return };
      reads = λ m ahead rest stands.
          let b : Bool = base.in_foreign in
          let here : At base (reference.Named found) ahead m = at base (reference.Named found) ahead m refl stands in
          let known : Known found c ahead = known_of found c ahead here.inside.0 settled in
          let nothing : longest_name ahead ≡ None = none_found ahead found.closed (subst (λ v. IsLongest ahead v found.closed) no_value known.longest) in
          let after : after_name ahead ≡ ahead = ap (λ (o : Option (List ℕ)). drop (length (unwrap_or o [])) ahead) nothing in
          let letters : list_all is_ascii_alphanumeric ahead ≡ true = subst (λ t. list_all is_ascii_alphanumeric t ≡ true) after known.letters in
          let k : Machine = named m.buffer m in
          let v : Bool = is_value k.return_state in
          let put : List ℕ = k.buffer ++ ahead in
          let n : Machine = at_state (put_if v put k) there.AmbiguousAmpersand in
          let puts : PutsThere base mid k put = puts_there base mid k put (outside_on base m there.NamedCharacterReference m.buffer m.code here.outside) (subst (EndsReference base mid) here.inside.2 e) in
          let first : Goes m (ahead ++ c ∷ rest) (emitted [] Flush k ++ []) (at_state (put_if v k.buffer k) there.AmbiguousAmpersand) (ahead ++ c ∷ rest) =
          subst (λ from. Goes from (ahead ++ c ∷ rest) (emitted [] Flush k ++ []) (at_state (put_if v k.buffer k) there.AmbiguousAmpersand) (ahead ++ c ∷ rest)) (in_its_state m there.NamedCharacterReference here.state)
          (no_name b m (ahead ++ c ∷ rest) (known.settled rest ∙ nothing)) in
          let all : Goes m (ahead ++ c ∷ rest) (shown_if v put) n (c ∷ rest) = letters_behind v there.AmbiguousAmpersand (ambiguous_letters v) b m k (ahead ++ c ∷ rest) ahead (c ∷ rest) refl letters first in
          let outside : Outside made n = record { back = puts.outside.back; last_start = puts.outside.last_start; place = puts.outside.place } in
          then_reads base made new c is_part m n ahead rest puts.characters (subst (λ ts. Goes m (ahead ++ c ∷ rest) ts n (c ∷ rest)) puts.shows all) left.in_foreign puts.text
          (f.reads n [] rest (stands_in made [] n outside refl refl));
    }
