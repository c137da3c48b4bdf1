-- Pieces of plain markup, as the tokenizer reads them.
use Rattle.std.specs.Prelude.{◌≡◌, ℕ, Bool, true, false, cond, ◌&&◌, List, [], ◌∷◌, ◌++◌, map, flat_map, drop, length, None, Some, codes, refl}
use Rattle.std.specs.List.{list_all}
use Rattle.std.proofs.lemmas.Bool.{and_parts}
use Rattle.std.proofs.lemmas.List.{append-nil, append_assoc}
use Rattle.std.proofs.Math.Seq.{drop-append_seam}
use mathlib.Core.Path.{◌∙◌, ap, subst}
use Rattle.standard_tokens.proofs.Steps.{go_on, loud, other, silent, step_to, taking}
use Rattle.standard_tokens.specs.Entries.{Emit, Current, These, Stay, Switch, Reconsume, SwitchBack, ReturnTo, SetEmpty, Add, Buffer, BufferName, Flush, AttrValue}
use Rattle.standard_tokens.specs.Machine.{Machine, Taken, added, all_emitted, longest_name, step_by, value_of, at_state, ends_open, goes_on, is_value, taken}
use Rattle.standard_tokens.specs.PlainMarkup.{Piece, Itself, Amp, Lt, Gt, Quot, Nbsp, character, is_text_char, is_plain_piece, written_piece}
use Rattle.standard_tokens.specs.Reading.{Feedback, IsFeedback, Reads, here, reader, switched}
use Rattle.standard_tokens.specs.States.{State, Data, RCDATA, CharacterReference, NamedCharacterReference}
use Rattle.standard_tokens.specs.Table.{entries}
use Rattle.standard_tokens.specs.Tokens.{Token, AChar}
use Rattle.standard_tokens.specs.NamedReferences.{named_references}

-- ---- in the data state

-- the text is read up to the rest: these tokens come, and it is in the data state again
abbrev pub IsRead : Feedback → List ℕ → List Token → Type 0
IsRead f written tokens = (m : Machine) (rest : List ℕ) (seen : List Token) →
    (n : Machine) × Reads f (reader (at_state m Data) (written ++ rest) seen) (reader (at_state n Data) rest (seen ++ tokens))

-- the states of texts with references: the data state, and that of a `title`
abbrev pub texting : Bool → State
texting false = Data
texting true = RCDATA

plain_taken : (b foreign : Bool) (m : Machine) (c : ℕ) (text : List ℕ) → is_text_char c ≡ true →
    taken foreign m (c ∷ text) (entries (texting b)) ≡ taking (Emit Current ∷ []) Stay (c ∷ [])
unfolding taken entries
plain_taken false foreign m c text h = rw (other is_text_char 38 c h refl, other is_text_char 60 c h refl, other is_text_char 0 c h refl) refl
plain_taken true foreign m c text h = rw (other is_text_char 38 c h refl, other is_text_char 60 c h refl, other is_text_char 0 c h refl) refl

-- the name of a reference, and what it stands for
pub record IsReference (c : ℕ) (name : List ℕ) (v : ℕ) : Type 0 where
  pub begins : (foreign : Bool) (m : Machine) (text : List ℕ) → taken foreign m (c ∷ text) (entries CharacterReference)
      ≡ taking (SetEmpty Buffer ∷ Add Buffer (These (codes "&")) ∷ []) (Reconsume NamedCharacterReference) (c ∷ [])
  pub longest : (rest : List ℕ) → longest_name (c ∷ (name ++ rest)) ≡ Some (c ∷ name)
  pub value : value_of (c ∷ name) ≡ v ∷ []
  pub ends : ends_open (c ∷ name) ≡ false

pub named_taken : (foreign : Bool) (m : Machine) (c v : ℕ) (name rest : List ℕ) → IsReference c name v →
    taken foreign m (c ∷ (name ++ rest)) (entries NamedCharacterReference) ≡ taking (BufferName ∷ Flush ∷ []) SwitchBack (c ∷ name)
unfolding taken entries
named_taken foreign m c v name rest is = rw (is.longest rest, is.ends) (both_false (is_value m.return_state))
  where
    both_false : (b : Bool) → cond ((b && false) && goes_on (drop (length (c ∷ name)) (c ∷ (name ++ rest)))) (taking (Add Buffer Current ∷ Flush ∷ []) SwitchBack (c ∷ name)) (taking (BufferName ∷ Flush ∷ []) SwitchBack (c ∷ name))
        ≡ taking (BufferName ∷ Flush ∷ []) SwitchBack (c ∷ name)
    both_false true = refl
    both_false false = refl

-- what stands behind the name
pub behind_name : (c : ℕ) (name rest : List ℕ) → drop (length (c ∷ name)) (c ∷ (name ++ rest)) ≡ rest
behind_name c name rest = drop-append_seam (c ∷ name) rest

-- the machine in a text, behind a reference
abbrev pub in_text : Bool → Machine → State → List ℕ → Machine
in_text b m back buffer = record m { state = texting b; return_state = back; buffer = buffer }

reference_taken : (b foreign : Bool) (m : Machine) (text : List ℕ) →
    taken foreign m (38 ∷ text) (entries (texting b)) ≡ taking (ReturnTo (texting b) ∷ []) (Switch CharacterReference) (38 ∷ [])
unfolding taken entries
reference_taken false foreign m text = refl
reference_taken true foreign m text = refl

flushed : (b : Bool) (cs : List ℕ) → cond (is_value (texting b)) [] (map AChar cs) ≡ map AChar cs
flushed false cs = refl
flushed true cs = refl

kept : (b : Bool) (m n : Machine) → cond (is_value (texting b)) n m ≡ m
kept false m n = refl
kept true m n = refl

ref_read : (f : Feedback) → IsFeedback f → (b : Bool) (c v : ℕ) (name : List ℕ) → IsReference c name v → (m : Machine) (rest : List ℕ) (seen : List Token) →
    Reads f (reader (at_state m (texting b)) (38 ∷ c ∷ (name ++ rest)) seen) (reader (in_text b m (texting b) (value_of (c ∷ name))) rest (seen ++ AChar v ∷ []))
ref_read f honest b c v name is m rest seen =
    let m1 : Machine = record m { state = CharacterReference; return_state = texting b } in
    let m2 : Machine = record m { state = NamedCharacterReference; return_state = texting b; buffer = 38 ∷ [] } in
    let m3 : Machine = in_text b m (texting b) (value_of (c ∷ name)) in
    let t3 : Taken = taking (BufferName ∷ Flush ∷ []) SwitchBack (c ∷ name) in
    let one : Reads f (reader (at_state m (texting b)) (38 ∷ c ∷ (name ++ rest)) seen) (reader m1 (c ∷ (name ++ rest)) seen) =
    silent (taking (ReturnTo (texting b) ∷ []) (Switch CharacterReference) (38 ∷ [])) (reference_taken b (f.in_foreign seen) (at_state m (texting b)) (c ∷ (name ++ rest))) refl refl in
    let two : Reads f (reader m1 (c ∷ (name ++ rest)) seen) (reader m2 (c ∷ (name ++ rest)) seen) =
    silent (taking (SetEmpty Buffer ∷ Add Buffer (These (codes "&")) ∷ []) (Reconsume NamedCharacterReference) (c ∷ [])) (is.begins (f.in_foreign seen) m1 (name ++ rest)) refl refl in
    let emits : all_emitted (c ∷ name) t3.acts m2 ≡ AChar v ∷ [] =
    ap (λ ts. ts ++ []) (flushed b (value_of (c ∷ name))) ∙ ap (λ cs. map AChar cs ++ []) is.value in
    let filled : Machine = record m2 { buffer = value_of (c ∷ name) } in
    let stays : switched None (step_by m2 (c ∷ (name ++ rest)) t3).machine ≡ m3 =
    ap (λ n. at_state n n.return_state) (kept b filled (added AttrValue (value_of (c ∷ name)) filled)) in
    let three : Reads f (reader m2 (c ∷ (name ++ rest)) seen) (reader m3 (drop (length (c ∷ name)) (c ∷ (name ++ rest))) (seen ++ AChar v ∷ [])) =
    step_to t3 (AChar v ∷ []) m3 (named_taken (f.in_foreign seen) m2 c v name rest is) refl emits
    (ap (λ state. switched state (step_by m2 (c ∷ (name ++ rest)) t3).machine) (honest seen (AChar v) refl) ∙ stays) in
    go_on one (go_on two (subst (λ text. Reads f (reader m2 (c ∷ (name ++ rest)) seen) (reader m3 text (seen ++ AChar v ∷ []))) (behind_name c name rest) three))

pub amp_is : IsReference 97 (codes "mp;") 38
unfolding taken entries longest_name value_of named_references
amp_is = record { begins = λ foreign m text. refl; longest = λ rest. refl; value = refl; ends = refl }

pub lt_is : IsReference 108 (codes "t;") 60
unfolding taken entries longest_name value_of named_references
lt_is = record { begins = λ foreign m text. refl; longest = λ rest. refl; value = refl; ends = refl }

pub gt_is : IsReference 103 (codes "t;") 62
unfolding taken entries longest_name value_of named_references
gt_is = record { begins = λ foreign m text. refl; longest = λ rest. refl; value = refl; ends = refl }

pub quot_is : IsReference 113 (codes "uot;") 34
unfolding taken entries longest_name value_of named_references
quot_is = record { begins = λ foreign m text. refl; longest = λ rest. refl; value = refl; ends = refl }

pub nbsp_is : IsReference 110 (codes "bsp;") 160
unfolding taken entries longest_name value_of named_references
nbsp_is = record { begins = λ foreign m text. refl; longest = λ rest. refl; value = refl; ends = refl }

-- where reading is in a text behind a piece of it
pub record InText (f : Feedback) (b : Bool) (m : Machine) (written rest : List ℕ) (seen found : List Token) : Type 0 where
  pub back : State
  pub buffer : List ℕ
  pub reads : Reads f (reader (at_state m (texting b)) (written ++ rest) seen) (reader (in_text b m back buffer) rest (seen ++ found))

by_reference : {f : Feedback} {b : Bool} {m : Machine} {written rest : List ℕ} {seen found : List Token} (value : List ℕ) →
    Reads f (reader (at_state m (texting b)) (written ++ rest) seen) (reader (in_text b m (texting b) value) rest (seen ++ found)) → InText f b m written rest seen found
by_reference {f} {b} value reads = record { back = texting b; buffer = value; reads = reads }

-- a character, as itself or as a reference
pub piece_in : (f : Feedback) → IsFeedback f → (b : Bool) (piece : Piece) → is_plain_piece is_text_char piece ≡ true → (m : Machine) (rest : List ℕ) (seen : List Token) →
    InText f b m (written_piece piece) rest seen (AChar (character piece) ∷ [])
piece_in f honest b (Itself c) h m rest seen = record {
  back = m.return_state;
  buffer = m.buffer;
  reads = loud honest (taking (Emit Current ∷ []) Stay (c ∷ [])) (AChar c) (plain_taken b (f.in_foreign seen) (at_state m (texting b)) c rest h) refl refl refl;
}
piece_in f honest b Amp h m rest seen = by_reference (value_of (codes "amp;")) (ref_read f honest b 97 38 (codes "mp;") amp_is m rest seen)
piece_in f honest b Lt h m rest seen = by_reference (value_of (codes "lt;")) (ref_read f honest b 108 60 (codes "t;") lt_is m rest seen)
piece_in f honest b Gt h m rest seen = by_reference (value_of (codes "gt;")) (ref_read f honest b 103 62 (codes "t;") gt_is m rest seen)
piece_in f honest b Quot h m rest seen = by_reference (value_of (codes "quot;")) (ref_read f honest b 113 34 (codes "uot;") quot_is m rest seen)
piece_in f honest b Nbsp h m rest seen = by_reference (value_of (codes "nbsp;")) (ref_read f honest b 110 160 (codes "bsp;") nbsp_is m rest seen)

-- in the data state
pub piece_read : (f : Feedback) → IsFeedback f → (piece : Piece) → is_plain_piece is_text_char piece ≡ true → IsRead f (written_piece piece) (AChar (character piece) ∷ [])
piece_read f honest piece h m rest seen =
    let inside : InText f false m (written_piece piece) rest seen (AChar (character piece) ∷ []) = piece_in f honest false piece h m rest seen in
    (in_text false m inside.back inside.buffer, inside.reads)

-- pieces of a text, one behind the other
pub pieces_in : (f : Feedback) → IsFeedback f → (b : Bool) (pieces : List Piece) → list_all (is_plain_piece is_text_char) pieces ≡ true → (m : Machine) (rest : List ℕ) (seen : List Token) →
    InText f b m (flat_map written_piece pieces) rest seen (map AChar (map character pieces))
pieces_in f honest b [] h m rest seen = record { back = m.return_state; buffer = m.buffer; reads = rw (append-nil seen) here }
pieces_in f honest b (piece ∷ pieces) h m rest seen =
    let parts : (is_plain_piece is_text_char piece ≡ true) × (list_all (is_plain_piece is_text_char) pieces ≡ true) = and_parts (is_plain_piece is_text_char piece) (list_all (is_plain_piece is_text_char) pieces) h in
    let first : InText f b m (written_piece piece) (flat_map written_piece pieces ++ rest) seen (AChar (character piece) ∷ []) =
    piece_in f honest b piece parts.0 m (flat_map written_piece pieces ++ rest) seen in
    let more : InText f b (in_text b m first.back first.buffer) (flat_map written_piece pieces) rest (seen ++ AChar (character piece) ∷ []) (map AChar (map character pieces)) =
    pieces_in f honest b pieces parts.1 (in_text b m first.back first.buffer) rest (seen ++ AChar (character piece) ∷ []) in
    record {
      back = more.back;
      buffer = more.buffer;
      reads = rw (append_assoc (written_piece piece) (flat_map written_piece pieces) rest, ← append_assoc seen (AChar (character piece) ∷ []) (map AChar (map character pieces))) (go_on first.reads more.reads);
    }
