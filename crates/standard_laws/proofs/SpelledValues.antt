-- Values of attributes, in quotes or without, as the tokenizer reads them.
use Rattle.std.specs.Prelude.{◌≡◌, ℕ, Bool, true, false, not, cond, ◌==◌, ◌&&◌, ◌||◌, nat_le, List, [], ◌∷◌, ◌++◌, map, flat_map, drop, take, length}
use Rattle.std.specs.Prelude.{codes, if◌then◌else◌, refl}
use Rattle.std.proofs.Common.{inl, inr}
use Rattle.std.specs.Char.{is_ascii_alphanumeric}
use Rattle.std.proofs.lemmas.Bool.{and_parts, cases_Bool, eqb-true}
use Rattle.std.proofs.lemmas.List.{append-nil, append_assoc}
use mathlib.Core.Path.{sym, ap, subst}
use native.Mathlib.Omega.{arith}
use Rattle.calm_pages.specs.Calm.{is_bare}
use Rattle.standard_tokens.proofs.PlainParts.{IsReference, amp_is, behind_name as behind_reference, gt_is, lt_is, named_taken, nbsp_is, quot_is}
use Rattle.standard_tokens.proofs.PlainTags.{at_attr, tagging}
use Rattle.standard_tokens.proofs.Steps.{go_on, other, silent, step_to, taking}
use Rattle.standard_tokens.specs.Entries.{Current, These, Stay, Switch, Reconsume, SwitchBack, ReconsumeBack, ReturnTo, SetEmpty, Add, Buffer}
use Rattle.standard_tokens.specs.Entries.{BufferName, Flush, AttrValue}
use Rattle.standard_tokens.specs.Machine.{Machine, Tag, Taken, added, all_emitted, at_state, is_value, step_by, stops, taken, value_of}
use Rattle.standard_tokens.specs.PlainMarkup.{Piece, Itself, Amp, Lt, Gt, Quot, Nbsp, character, written_piece}
use Rattle.standard_tokens.specs.Reading.{Feedback, Reader, Reads, here, reader}
use Rattle.standard_tokens.specs.States.{State, CharacterReference, NamedCharacterReference, AttributeValueDoubleQuoted, AttributeValueSingleQuoted}
use Rattle.standard_tokens.specs.States.{AttributeValueUnquoted}
use Rattle.standard_tokens.specs.Table.{entries}
use Rattle.standard_tokens.specs.Tokens.{Token}
use Rattle.standard_laws.specs.SpelledMarkup.{Quoting, Double, Single, Unquoted, are_pieces, ends_value, is_piece, is_value_at}
use Rattle.standard_laws.proofs.SpelledNames.{Goes, goes_on}

-- a step that emits nothing, of which the machine behind it is known
pub silent_to : {f : Feedback} {r : Reader} (t : Taken) (m : Machine) → taken (f.in_foreign r.seen) r.machine r.text (entries r.machine.state) ≡ t → stops t.goes ≡ false →
    all_emitted t.current t.acts r.machine ≡ [] → (step_by r.machine r.text t).machine ≡ m → Reads f r (reader m (step_by r.machine r.text t).rest r.seen)
silent_to {f} {r} t m is runs none same =
    subst (λ seen. Reads f r (reader m (step_by r.machine r.text t).rest seen)) (append-nil r.seen) (step_to t [] m is runs none same)

-- ---- an `&` that begins no reference

alone : (b : ℕ) → not (is_ascii_alphanumeric b || b == 35) ≡ true → ((nat_le 48 b && nat_le b 57) ≡ false) × ((nat_le 65 b && nat_le b 90) ≡ false) × ((nat_le 97 b && nat_le b 122) ≡ false)
alone b h = (digit, upper, lower)
  where
    digit : (nat_le 48 b && nat_le b 57) ≡ false
    digit = grind arith

    upper : (nat_le 65 b && nat_le b 90) ≡ false
    upper = grind arith

    lower : (nat_le 97 b && nat_le b 122) ≡ false
    lower = grind arith

pub bare_taken : (foreign : Bool) (m : Machine) (rest : List ℕ) → is_bare rest ≡ true →
    taken foreign m rest (entries CharacterReference) ≡ taking (SetEmpty Buffer ∷ Add Buffer (These (codes "&")) ∷ Flush ∷ []) ReconsumeBack (take 1 rest)
unfolding taken entries
bare_taken foreign m [] h = refl
bare_taken foreign m (b ∷ rest) h =
    let is : ((nat_le 48 b && nat_le b 57) ≡ false) × ((nat_le 65 b && nat_le b 90) ≡ false) × ((nat_le 97 b && nat_le b 122) ≡ false) = alone b h in
    rw (is.0, is.1, is.2, other (λ c. not (is_ascii_alphanumeric c || c == 35)) 35 b h refl) refl

-- ---- pieces of values

abbrev pub value_state : Quoting → State
value_state Double = AttributeValueDoubleQuoted
value_state Single = AttributeValueSingleQuoted
value_state Unquoted = AttributeValueUnquoted

flushed : {X : Type 0} (q : Quoting) (a b : X) → cond (is_value (value_state q)) a b ≡ a
flushed Double a b = refl
flushed Single a b = refl
flushed Unquoted a b = refl

amp_taken : (q : Quoting) (foreign : Bool) (m : Machine) (text : List ℕ) →
    taken foreign m (38 ∷ text) (entries (value_state q)) ≡ taking (ReturnTo (value_state q) ∷ []) (Switch CharacterReference) (38 ∷ [])
unfolding taken entries
amp_taken Double foreign m text = refl
amp_taken Single foreign m text = refl
amp_taken Unquoted foreign m text = refl

-- an `&`, and what follows it
abbrev referring : Machine → Quoting → Tag → Machine
referring m q t = record m { state = CharacterReference; return_state = value_state q; tag = t }

amp_opens : (f : Feedback) (q : Quoting) (t : Tag) (m : Machine) (text : List ℕ) (seen : List Token) →
    Reads f (reader (tagging m (value_state q) t) (38 ∷ text) seen) (reader (referring m q t) text seen)
amp_opens f q t m text seen = silent (taking (ReturnTo (value_state q) ∷ []) (Switch CharacterReference) (38 ∷ [])) (amp_taken q (f.in_foreign seen) (tagging m (value_state q) t) text) refl refl

-- what stands in a value so far
abbrev valued : Tag → List ℕ → List ℕ → Tag
valued tag attr value = at_attr tag attr value

bare_goes : (f : Feedback) (seen : List Token) (q : Quoting) (tag : Tag) (attr before rest : List ℕ) → is_bare rest ≡ true →
    Goes f seen (value_state q) (valued tag attr before) (38 ∷ rest) (value_state q) (valued tag attr (before ++ 38 ∷ [])) rest
bare_goes f seen q tag attr before rest h m =
    let t : Tag = valued tag attr before in
    let m1 : Machine = referring m q t in
    let n : Machine = record m { return_state = value_state q; buffer = 38 ∷ [] } in
    let filled : Machine = record m1 { buffer = 38 ∷ [] } in
    let flush : Taken = taking (SetEmpty Buffer ∷ Add Buffer (These (codes "&")) ∷ Flush ∷ []) ReconsumeBack (take 1 rest) in
    let same : (step_by m1 rest flush).machine ≡ tagging n (value_state q) (valued tag attr (before ++ 38 ∷ [])) =
    ap (λ k. at_state k k.return_state) (flushed q (added AttrValue (38 ∷ []) filled) filled) in
    (n, go_on (amp_opens f q t m rest seen) (silent_to flush (tagging n (value_state q) (valued tag attr (before ++ 38 ∷ []))) (bare_taken (f.in_foreign seen) m1 rest h) refl (ap (λ ts. ts ++ []) (flushed q [] _)) same))

reference_goes : (f : Feedback) (seen : List Token) (q : Quoting) (tag : Tag) (attr before : List ℕ) (c v : ℕ) (name rest : List ℕ) → IsReference c name v →
    Goes f seen (value_state q) (valued tag attr before) (38 ∷ c ∷ (name ++ rest)) (value_state q) (valued tag attr (before ++ v ∷ [])) rest
reference_goes f seen q tag attr before c v name rest is m =
    let t : Tag = valued tag attr before in
    let m1 : Machine = referring m q t in
    let m2 : Machine = record m1 { state = NamedCharacterReference; buffer = 38 ∷ [] } in
    let value : List ℕ = value_of (c ∷ name) in
    let n : Machine = record m { return_state = value_state q; buffer = value } in
    let filled : Machine = record m2 { buffer = value } in
    let flush : Taken = taking (BufferName ∷ Flush ∷ []) SwitchBack (c ∷ name) in
    let after : Machine = tagging n (value_state q) (valued tag attr (before ++ value)) in
    let same : (step_by m2 (c ∷ (name ++ rest)) flush).machine ≡ after = ap (λ k. at_state k k.return_state) (flushed q (added AttrValue value filled) filled) in
    let two : Reads f (reader m1 (c ∷ (name ++ rest)) seen) (reader m2 (c ∷ (name ++ rest)) seen) =
    silent (taking (SetEmpty Buffer ∷ Add Buffer (These (codes "&")) ∷ []) (Reconsume NamedCharacterReference) (c ∷ [])) (is.begins (f.in_foreign seen) m1 (name ++ rest)) refl refl in
    let three : Reads f (reader m2 (c ∷ (name ++ rest)) seen) (reader after (drop (length (c ∷ name)) (c ∷ (name ++ rest))) seen) =
    silent_to flush after (named_taken (f.in_foreign seen) m2 c v name rest is) refl (ap (λ ts. ts ++ []) (flushed q [] _)) same in
    let ends : Reads f (reader m2 (c ∷ (name ++ rest)) seen) (reader after rest seen) =
    subst (λ text. Reads f (reader m2 (c ∷ (name ++ rest)) seen) (reader after text seen)) (behind_reference c name rest) three in
    let all : Reads f (reader m2 (c ∷ (name ++ rest)) seen) (reader (tagging n (value_state q) (valued tag attr (before ++ v ∷ []))) rest seen) =
    subst (λ cs. Reads f (reader m2 (c ∷ (name ++ rest)) seen) (reader (tagging n (value_state q) (valued tag attr (before ++ cs))) rest seen)) is.value ends in
    (n, go_on (amp_opens f q t m (c ∷ (name ++ rest)) seen) (go_on two all))

-- ---- a character as itself

abbrev may_stand : Quoting → ℕ → Bool
may_stand q c = not (0 == c || 13 == c || ends_value q c)

itself_taken : (q : Quoting) (foreign : Bool) (m : Machine) (c : ℕ) (text : List ℕ) → may_stand q c ≡ true → (38 == c) ≡ false →
    taken foreign m (c ∷ text) (entries (value_state q)) ≡ taking (Add AttrValue Current ∷ []) Stay (c ∷ [])
unfolding taken entries
itself_taken Double foreign m c text h amp = rw (other (may_stand Double) 34 c h refl, amp, other (may_stand Double) 0 c h refl) refl
itself_taken Single foreign m c text h amp = rw (other (may_stand Single) 39 c h refl, amp, other (may_stand Single) 0 c h refl) refl
itself_taken Unquoted foreign m c text h amp =
    rw (
      other (may_stand Unquoted) 9 c h refl,
      other (may_stand Unquoted) 10 c h refl,
      other (may_stand Unquoted) 12 c h refl,
      other (may_stand Unquoted) 32 c h refl,
      amp,
      other (may_stand Unquoted) 62 c h refl,
      other (may_stand Unquoted) 0 c h refl,
    ) refl

itself_goes : (f : Feedback) (seen : List Token) (q : Quoting) (tag : Tag) (attr before : List ℕ) (c : ℕ) (rest : List ℕ) → is_value_at q c rest ≡ true →
    Goes f seen (value_state q) (valued tag attr before) (c ∷ rest) (value_state q) (valued tag attr (before ++ c ∷ [])) rest
itself_goes f seen q tag attr before c rest h =
    let parts : (may_stand q c ≡ true) × ((if 38 == c then is_bare rest else true) ≡ true) = and_parts (may_stand q c) (if 38 == c then is_bare rest else true) h in
    elim (cases_Bool (38 == c)) [
      | inl amp ↦
          subst (λ k. Goes f seen (value_state q) (valued tag attr before) (k ∷ rest) (value_state q) (valued tag attr (before ++ k ∷ [])) rest) (eqb-true 38 c amp)
          (bare_goes f seen q tag attr before rest (subst (λ b. (if b then is_bare rest else true) ≡ true) amp parts.1))
      | inr none ↦ λ m. (m, silent (taking (Add AttrValue Current ∷ []) Stay (c ∷ [])) (itself_taken q (f.in_foreign seen) (tagging m (value_state q) (valued tag attr before)) c rest parts.0 none) refl refl)
    ]

piece_goes : (f : Feedback) (seen : List Token) (q : Quoting) (tag : Tag) (attr before : List ℕ) (piece : Piece) (rest : List ℕ) → is_piece (is_value_at q) piece rest ≡ true →
    Goes f seen (value_state q) (valued tag attr before) (written_piece piece ++ rest) (value_state q) (valued tag attr (before ++ character piece ∷ [])) rest
piece_goes f seen q tag attr before (Itself c) rest h = itself_goes f seen q tag attr before c rest h
piece_goes f seen q tag attr before Amp rest h = reference_goes f seen q tag attr before 97 38 (codes "mp;") rest amp_is
piece_goes f seen q tag attr before Lt rest h = reference_goes f seen q tag attr before 108 60 (codes "t;") rest lt_is
piece_goes f seen q tag attr before Gt rest h = reference_goes f seen q tag attr before 103 62 (codes "t;") rest gt_is
piece_goes f seen q tag attr before Quot rest h = reference_goes f seen q tag attr before 113 34 (codes "uot;") rest quot_is
piece_goes f seen q tag attr before Nbsp rest h = reference_goes f seen q tag attr before 110 160 (codes "bsp;") rest nbsp_is

pub pieces_go : (f : Feedback) (seen : List Token) (q : Quoting) (tag : Tag) (attr before : List ℕ) (pieces : List Piece) (rest : List ℕ) → are_pieces (is_value_at q) pieces rest ≡ true →
    Goes f seen (value_state q) (at_attr tag attr before) (flat_map written_piece pieces ++ rest) (value_state q) (at_attr tag attr (before ++ map character pieces)) rest
pieces_go f seen q tag attr before [] rest h = λ m. (m, rw (append-nil before) here)
pieces_go f seen q tag attr before (piece ∷ pieces) rest h =
    let S : State = value_state q in
    let more : List ℕ = before ++ character piece ∷ [] in
    let tail : List ℕ = flat_map written_piece pieces ++ rest in
    let parts : (is_piece (is_value_at q) piece tail ≡ true) × (are_pieces (is_value_at q) pieces rest ≡ true) = and_parts (is_piece (is_value_at q) piece tail) (are_pieces (is_value_at q) pieces rest) h in
    let all : Goes f seen S (at_attr tag attr before) (written_piece piece ++ tail) S (at_attr tag attr (more ++ map character pieces)) rest =
    goes_on f seen S S S (at_attr tag attr before) (at_attr tag attr more) (at_attr tag attr (more ++ map character pieces)) (written_piece piece ++ tail) tail rest
    (piece_goes f seen q tag attr before piece tail parts.0) (pieces_go f seen q tag attr more pieces rest parts.1) in
    let texts : Goes f seen S (at_attr tag attr before) (flat_map written_piece (piece ∷ pieces) ++ rest) S (at_attr tag attr (more ++ map character pieces)) rest =
    subst (λ text. Goes f seen S (at_attr tag attr before) text S (at_attr tag attr (more ++ map character pieces)) rest) (sym (append_assoc (written_piece piece) (flat_map written_piece pieces) rest)) all in
    subst (λ (n : List ℕ). Goes f seen S (at_attr tag attr before) (flat_map written_piece (piece ∷ pieces) ++ rest) S (at_attr tag attr n) rest)
    (append_assoc before (character piece ∷ []) (map character pieces)) texts
