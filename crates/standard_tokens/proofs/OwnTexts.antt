-- Raw texts and scripts, as the tokenizer reads them, up to the `<` of their end tag.
use Rattle.std.specs.Prelude.{◌≡◌, ℕ, Bool, true, false, eqb, cond, ◌||◌, ◌==◌, List, [], ◌∷◌, ◌++◌, map, flat_map, drop, take, None, Some, bytes_eq, codes, refl}
use Rattle.std.proofs.Common.{inl, inr}
use Rattle.std.specs.Char.{is_ascii_lowercase, to_ascii_lowercase}
use Rattle.std.specs.List.{list_all, list_any}
use Rattle.std.specs.Cmp.Derive.{both_true}
use Rattle.std.proofs.lemmas.Bool.{and_parts, cases_Bool, eqb-true, eq-eqb, or_cases, or_parts, true≢false}
use Rattle.std.proofs.lemmas.List.{append-nil, append_assoc, map-append}
use Rattle.std.proofs.lemmas.Slice.Eq.{bytes_eq-Decides}
use Rattle.std.proofs.lemmas.Str.Ascii.{lowercase-lowercase}
use native.Mathlib.Omega.{arith}
use mathlib.Core.Path.{◌∙◌, sym, ap, subst}
use Rattle.standard_tokens.proofs.OwnEnds.{begins_lower, begins_upper, is_upper, less_state, less_taken, lower_taken, name_state, naming, open_state, slash_taken, own_end_read, upper_taken, within}
use Rattle.standard_tokens.proofs.PlainParts.{InText, in_text, pieces_in}
use Rattle.standard_tokens.proofs.Steps.{go_on, loud, other, silent, taking, telling}
use Rattle.standard_tokens.proofs.WordFacts.{behind-lacks, from_not, front-lacks}
use Rattle.standard_tokens.specs.Entries.{Act, Mark, Entry, entry, Next, Appropriate, Current, Lower, TheBuffer, These, Stay, Switch, Reconsume, SetEmpty, Buffer, NewTag, EmitTag, space, chars, Add, TheTagName, Emit, Ending, Then}
use Rattle.standard_tokens.specs.Machine.{Machine, at_state, fits_mark, is_name_of, same_case_less, taken, taken_if}
use Rattle.standard_tokens.specs.PlainMarkup.{TextKind, Rcdata, Rawtext, Script, Piece, begins_with, character, contains_word, is_letter_name, is_own_char, is_plain_piece, is_text_char, lacks_end, state_of, written_end, written_piece}
use Rattle.standard_tokens.specs.Reading.{Feedback, IsFeedback, Reads, here, reader}
use Rattle.standard_tokens.specs.States.{Data, RCDATA, BeforeAttributeName, SelfClosingStartTag, RCDATAEndTagName, RAWTEXTEndTagName, ScriptDataEndTagName, ScriptData, ScriptDataEscapeStart, ScriptDataEscapeStartDash}
use Rattle.standard_tokens.specs.Table.{entries}
use Rattle.standard_tokens.specs.Tokens.{Token, AChar, AnEnd}

-- ---- where reading is in the text

-- in the text, behind `<`, behind `</`, behind `</` and letters; in a script also behind `<!` and behind `<!-`
data Mode : Type 0 where
  In Less Open : Mode
  Naming : List ℕ → Mode
  Bang BangDash : Mode

-- the last of what was read
abbrev last_of : Mode → List ℕ
last_of In = []
last_of Less = codes "<"
last_of Open = codes "</"
last_of (Naming letters) = codes "</" ++ letters
last_of Bang = codes "<!"
last_of BangDash = codes "<!-"

-- what of it isn't emitted yet
abbrev pending : Mode → List ℕ
pending Bang = []
pending BangDash = []
pending mode = last_of mode

abbrev is_mode_of : TextKind → Mode → Bool
is_mode_of Script mode = true
is_mode_of kind Bang = false
is_mode_of kind BangDash = false
is_mode_of kind mode = true

abbrev in_mode : TextKind → List ℕ → Mode → Machine → Machine
in_mode kind name In m = within (state_of kind) name m
in_mode kind name Less m = within (less_state kind) name m
in_mode kind name Open m = record m { state = open_state kind; buffer = []; last_start = Some name }
in_mode kind name (Naming letters) m = naming kind name (map to_ascii_lowercase letters) letters m
in_mode kind name Bang m = within ScriptDataEscapeStart name m
in_mode kind name BangDash m = within ScriptDataEscapeStartDash name m

-- ---- what the text lacks

abbrev end_word : List ℕ → List ℕ
end_word name = codes "</" ++ name

record Lacks (kind : TextKind) (name text : List ℕ) : Type 0 where
  pub ends : contains_word same_case_less (end_word name) text ≡ false
  pub opens : kind ≡ Script → contains_word eqb (codes "<!--") text ≡ false

abbrev is_script : TextKind → Bool
is_script Script = true
is_script Rawtext = false
is_script Rcdata = false

lacks_from : (kind : TextKind) (name text : List ℕ) → lacks_end kind name text ≡ true → Lacks kind name text
lacks_from Script name text h =
    let parts : (contains_word same_case_less (end_word name) text ≡ false) × (contains_word eqb (codes "<!--") text ≡ false) =
    or_parts (contains_word same_case_less (end_word name) text) (contains_word eqb (codes "<!--") text) (from_not (contains_word same_case_less (end_word name) text || contains_word eqb (codes "<!--") text) h) in
    record { ends = parts.0; opens = λ e. parts.1 }
lacks_from Rawtext name text h = record { ends = from_not (contains_word same_case_less (end_word name) text) h; opens = λ e. absurd (true≢false (sym (ap is_script e))) }
lacks_from Rcdata name text h = record { ends = from_not (contains_word same_case_less (end_word name) text) h; opens = λ e. absurd (true≢false (sym (ap is_script e))) }

lacks_behind : (kind : TextKind) (name front text : List ℕ) → Lacks kind name (front ++ text) → Lacks kind name text
lacks_behind kind name front text l = record {
  ends = behind-lacks same_case_less (end_word name) front text l.ends;
  opens = λ e. behind-lacks eqb (codes "<!--") front text (l.opens e);
}

-- a text that begins with these letters begins with them in any case
begins_in_any_case : (letters text : List ℕ) → begins_with same_case_less (map to_ascii_lowercase letters) (letters ++ text) ≡ true
begins_in_any_case [] text = refl
begins_in_any_case (c ∷ letters) text =
    both_true (eq-eqb (to_ascii_lowercase (to_ascii_lowercase c)) (to_ascii_lowercase c) (lowercase-lowercase c)) (begins_in_any_case letters text)

-- ---- what ends a mode

abbrev is_any_letter : ℕ → Bool
is_any_letter c = is_upper c || is_ascii_lowercase c

-- the mode doesn't go on with the character
abbrev Falls : TextKind → List ℕ → Mode → ℕ → Type 0
Falls kind name In c = Unit {0}
Falls kind name Less c = ((47 == c) ≡ false) × (kind ≡ Script → (33 == c) ≡ false)
Falls kind name Open c = is_any_letter c ≡ false
Falls kind name (Naming letters) c = (is_any_letter c ≡ false) × (bytes_eq name (map to_ascii_lowercase letters) ≡ false)
Falls kind name Bang c = (45 == c) ≡ false
Falls kind name BangDash c = (45 == c) ≡ false

-- an entry for an appropriate end tag is passed over behind another name
passed : (foreign : Bool) (m : Machine) (text : List ℕ) (marks : List Mark) (acts : List Act) (goes : Then) (others : List Entry) → is_name_of m.last_start m.tag.name ≡ false →
    taken foreign m text (entry (Next marks) Appropriate acts goes ∷ others) ≡ taken foreign m text others
unfolding taken
passed foreign m text marks acts goes others h = by_test (list_any (λ mark. fits_mark mark text) marks)
  where
    by_test : (b : Bool) → taken_if foreign (cond b (Some (take 1 text)) None) Appropriate acts goes m text (taken foreign m text others) ≡ taken foreign m text others
    by_test true = rw h refl
    by_test false = refl

less_falls : (kind : TextKind) (foreign : Bool) (m : Machine) (c : ℕ) (text : List ℕ) → ((47 == c) ≡ false) × (kind ≡ Script → (33 == c) ≡ false) →
    taken foreign m (c ∷ text) (entries (less_state kind)) ≡ taking (Emit (These (codes "<")) ∷ []) (Reconsume (state_of kind)) (c ∷ [])
unfolding taken entries
less_falls Rcdata foreign m c text h = rw h.0 refl
less_falls Rawtext foreign m c text h = rw h.0 refl
less_falls Script foreign m c text h = rw (h.0, h.1 refl) refl

open_falls : (kind : TextKind) (foreign : Bool) (m : Machine) (c : ℕ) (text : List ℕ) → is_any_letter c ≡ false →
    taken foreign m (c ∷ text) (entries (open_state kind)) ≡ taking (Emit (These (codes "</")) ∷ []) (Reconsume (state_of kind)) (c ∷ [])
unfolding taken entries
open_falls kind foreign m c text h = by_kind kind
  where
    by_kind : (kind : TextKind) → taken foreign m (c ∷ text) (entries (open_state kind)) ≡ taking (Emit (These (codes "</")) ∷ []) (Reconsume (state_of kind)) (c ∷ [])
    by_kind Rcdata = let parts : (is_upper c ≡ false) × (is_ascii_lowercase c ≡ false) = or_parts (is_upper c) (is_ascii_lowercase c) h in rw (parts.0, parts.1) refl
    by_kind Rawtext = let parts : (is_upper c ≡ false) × (is_ascii_lowercase c ≡ false) = or_parts (is_upper c) (is_ascii_lowercase c) h in rw (parts.0, parts.1) refl
    by_kind Script = let parts : (is_upper c ≡ false) × (is_ascii_lowercase c ≡ false) = or_parts (is_upper c) (is_ascii_lowercase c) h in rw (parts.0, parts.1) refl

-- behind the name of another element
name_falls : (kind : TextKind) (foreign : Bool) (m : Machine) (c : ℕ) (text : List ℕ) → is_any_letter c ≡ false → is_name_of m.last_start m.tag.name ≡ false →
    taken foreign m (c ∷ text) (entries (name_state kind)) ≡ taking (Emit (These (codes "</")) ∷ Emit TheBuffer ∷ []) (Reconsume (state_of kind)) (c ∷ [])
unfolding taken entries
name_falls kind foreign m c text h names = by_kind kind
  where
    by_kind : (kind : TextKind) → taken foreign m (c ∷ text) (entries (name_state kind)) ≡ taking (Emit (These (codes "</")) ∷ Emit TheBuffer ∷ []) (Reconsume (state_of kind)) (c ∷ [])
    by_kind Rcdata =
        let parts : (is_upper c ≡ false) × (is_ascii_lowercase c ≡ false) = or_parts (is_upper c) (is_ascii_lowercase c) h in
        passed foreign m (c ∷ text) (space ∷ []) [] (Switch BeforeAttributeName) (drop 1 (entries RCDATAEndTagName)) names
        ∙ passed foreign m (c ∷ text) (chars "/" ∷ []) [] (Switch SelfClosingStartTag) (drop 2 (entries RCDATAEndTagName)) names
        ∙ passed foreign m (c ∷ text) (chars ">" ∷ []) (EmitTag ∷ []) (Switch Data) (drop 3 (entries RCDATAEndTagName)) names ∙ rw (parts.0, parts.1) refl
    by_kind Rawtext =
        let parts : (is_upper c ≡ false) × (is_ascii_lowercase c ≡ false) = or_parts (is_upper c) (is_ascii_lowercase c) h in
        passed foreign m (c ∷ text) (space ∷ []) [] (Switch BeforeAttributeName) (drop 1 (entries RAWTEXTEndTagName)) names
        ∙ passed foreign m (c ∷ text) (chars "/" ∷ []) [] (Switch SelfClosingStartTag) (drop 2 (entries RAWTEXTEndTagName)) names
        ∙ passed foreign m (c ∷ text) (chars ">" ∷ []) (EmitTag ∷ []) (Switch Data) (drop 3 (entries RAWTEXTEndTagName)) names ∙ rw (parts.0, parts.1) refl
    by_kind Script =
        let parts : (is_upper c ≡ false) × (is_ascii_lowercase c ≡ false) = or_parts (is_upper c) (is_ascii_lowercase c) h in
        passed foreign m (c ∷ text) (space ∷ []) [] (Switch BeforeAttributeName) (drop 1 (entries ScriptDataEndTagName)) names
        ∙ passed foreign m (c ∷ text) (chars "/" ∷ []) [] (Switch SelfClosingStartTag) (drop 2 (entries ScriptDataEndTagName)) names
        ∙ passed foreign m (c ∷ text) (chars ">" ∷ []) (EmitTag ∷ []) (Switch Data) (drop 3 (entries ScriptDataEndTagName)) names ∙ rw (parts.0, parts.1) refl

-- what of the mode is pending is emitted, and the character is read in the text
falls : (f : Feedback) → IsFeedback f → (kind : TextKind) (name : List ℕ) (mode : Mode) (c : ℕ) → is_mode_of kind mode ≡ true → Falls kind name mode c →
    (m : Machine) (rest : List ℕ) (seen : List Token) →
    (n : Machine) × Reads f (reader (in_mode kind name mode m) (c ∷ rest) seen) (reader (in_mode kind name In n) (c ∷ rest) (seen ++ map AChar (pending mode)))
unfolding taken entries
falls f honest kind name In c ok h m rest seen = (m, rw (append-nil seen) here)
falls f honest kind name Less c ok h m rest seen =
    (m, telling honest (taking (Emit (These (codes "<")) ∷ []) (Reconsume (state_of kind)) (c ∷ [])) 60 [] (less_falls kind (f.in_foreign seen) (in_mode kind name Less m) c rest h) refl refl)
falls f honest kind name Open c ok h m rest seen = (
  record m { buffer = [] },
  telling honest (taking (Emit (These (codes "</")) ∷ []) (Reconsume (state_of kind)) (c ∷ [])) 60 (47 ∷ []) (open_falls kind (f.in_foreign seen) (in_mode kind name Open m) c rest h) refl refl,
)
falls f honest kind name (Naming letters) c ok h m rest seen = (
  in_mode kind name (Naming letters) m,
  telling honest (taking (Emit (These (codes "</")) ∷ Emit TheBuffer ∷ []) (Reconsume (state_of kind)) (c ∷ [])) 60 (47 ∷ letters)
      (name_falls kind (f.in_foreign seen) (in_mode kind name (Naming letters) m) c rest h.0 h.1) refl (ap (λ ts. AChar 60 ∷ AChar 47 ∷ ts) (append-nil (map AChar letters))),
)
falls f honest Script name Bang c ok h m rest seen = (m, rw (append-nil seen) (silent (taking [] (Reconsume ScriptData) (c ∷ [])) (rw h refl) refl refl))
falls f honest Script name BangDash c ok h m rest seen = (m, rw (append-nil seen) (silent (taking [] (Reconsume ScriptData) (c ∷ [])) (rw h refl) refl refl))
falls f honest Rawtext name Bang c ok h m rest seen = cc
falls f honest Rawtext name BangDash c ok h m rest seen = cc
falls f honest Rcdata name Bang c ok h m rest seen = cc
falls f honest Rcdata name BangDash c ok h m rest seen = cc

-- ---- a character

-- what reading a character leads to
record Goes (f : Feedback) (kind : TextKind) (name : List ℕ) (mode : Mode) (c : ℕ) (text : List ℕ) : Type 0 where
  pub mode' : Mode
  pub ok : is_mode_of kind mode' ≡ true
  pub lacks : Lacks kind name (last_of mode' ++ text)
  pub emitted : List ℕ
  pub all : emitted ++ pending mode' ≡ pending mode ++ c ∷ []
  pub reads : (m : Machine) (rest : List ℕ) (seen : List Token) →
      (n : Machine) × Reads f (reader (in_mode kind name mode m) (c ∷ rest) seen) (reader (in_mode kind name mode' n) rest (seen ++ map AChar emitted))

char_taken : (kind : TextKind) (foreign : Bool) (m : Machine) (c : ℕ) (text : List ℕ) → is_own_char kind c ≡ true → (60 == c) ≡ false →
    taken foreign m (c ∷ text) (entries (state_of kind)) ≡ taking (Emit Current ∷ []) Stay (c ∷ [])
unfolding taken entries
char_taken Rcdata foreign m c text h less = rw (other (is_own_char Rcdata) 38 c h refl, less, other (is_own_char Rcdata) 0 c h refl) refl
char_taken Rawtext foreign m c text h less = rw (less, other (is_own_char Rawtext) 0 c h refl) refl
char_taken Script foreign m c text h less = rw (less, other (is_own_char Script) 0 c h refl) refl

in_step : (f : Feedback) → IsFeedback f → (kind : TextKind) (name : List ℕ) (c : ℕ) (text : List ℕ) → is_own_char kind c ≡ true → is_mode_of kind In ≡ true →
    Lacks kind name (c ∷ text) → Goes f kind name In c text
in_step f honest kind name c text h ok l =
    elim (cases_Bool (60 == c)) [
      | inl less ↦ subst (λ d. Lacks kind name (d ∷ text) → Goes f kind name In d text) (eqb-true 60 c less)
          (λ here_lacks. record {
            mode' = Less;
            ok = less_ok kind;
            lacks = here_lacks;
            emitted = [];
            all = refl;
            reads = λ m rest seen. (m, rw (append-nil seen) (silent (taking [] (Switch (less_state kind)) (60 ∷ [])) (less_taken kind (f.in_foreign seen) (in_mode kind name In m) rest) refl refl));
          }) l
      | inr more ↦ record {
        mode' = In;
        ok = ok;
        lacks = lacks_behind kind name (c ∷ []) text l;
        emitted = c ∷ [];
        all = refl;
        reads = λ m rest seen. (m, loud honest (taking (Emit Current ∷ []) Stay (c ∷ [])) (AChar c) (char_taken kind (f.in_foreign seen) (in_mode kind name In m) c rest h more) refl refl refl);
      }
    ]
  where
    less_ok : (kind : TextKind) → is_mode_of kind Less ≡ true
    less_ok Rcdata = refl
    less_ok Rawtext = refl
    less_ok Script = refl

-- where the mode falls, the character is read in the text
fallen : (f : Feedback) → IsFeedback f → (kind : TextKind) (name : List ℕ) (mode : Mode) (c : ℕ) (text : List ℕ) → is_own_char kind c ≡ true → is_mode_of kind mode ≡ true →
    Lacks kind name (last_of mode ++ c ∷ text) → Falls kind name mode c → Goes f kind name mode c text
fallen f honest kind name mode c text h ok l fails =
    let inside : Goes f kind name In c text = in_step f honest kind name c text h (in_ok kind) (lacks_behind kind name (last_of mode) (c ∷ text) l) in
    record {
      mode' = inside.mode';
      ok = inside.ok;
      lacks = inside.lacks;
      emitted = pending mode ++ inside.emitted;
      all = append_assoc (pending mode) inside.emitted (pending inside.mode') ∙ ap (λ cs. pending mode ++ cs) inside.all;
      reads = λ m rest seen.
          let one : (n : Machine) × Reads f (reader (in_mode kind name mode m) (c ∷ rest) seen) (reader (in_mode kind name In n) (c ∷ rest) (seen ++ map AChar (pending mode))) =
          falls f honest kind name mode c ok fails m rest seen in
          let two : (n : Machine) × Reads f (reader (in_mode kind name In one.0) (c ∷ rest) (seen ++ map AChar (pending mode)))
          (reader (in_mode kind name inside.mode' n) rest (seen ++ map AChar (pending mode) ++ map AChar inside.emitted)) =
          inside.reads one.0 rest (seen ++ map AChar (pending mode)) in
          let same : seen ++ map AChar (pending mode) ++ map AChar inside.emitted ≡ seen ++ map AChar (pending mode ++ inside.emitted) =
          append_assoc seen (map AChar (pending mode)) (map AChar inside.emitted) ∙ ap (λ ts. seen ++ ts) (sym (map-append AChar (pending mode) inside.emitted)) in
          (two.0, subst (λ ts. Reads f (reader (in_mode kind name mode m) (c ∷ rest) seen) (reader (in_mode kind name inside.mode' two.0) rest ts)) same (go_on one.1 two.1));
    }
  where
    in_ok : (kind : TextKind) → is_mode_of kind In ≡ true
    in_ok Rcdata = refl
    in_ok Rawtext = refl
    in_ok Script = refl

-- no end tag of the element is read
no_end : (kind : TextKind) (name letters text : List ℕ) → Lacks kind name (codes "</" ++ letters ++ text) → bytes_eq name (map to_ascii_lowercase letters) ≡ false
no_end kind name letters text l =
    elim (cases_Bool (bytes_eq name (map to_ascii_lowercase letters))) [
      | inl same ↦ let is : name ≡ map to_ascii_lowercase letters = (bytes_eq-Decides name (map to_ascii_lowercase letters)).0 same in
          let begins : begins_with same_case_less name (letters ++ text) ≡ true = subst (λ n. begins_with same_case_less n (letters ++ text) ≡ true) (sym is) (begins_in_any_case letters text) in
          absurd (true≢false (sym begins ∙ front-lacks same_case_less (end_word name) 60 (47 ∷ (letters ++ text)) l.ends))
      | inr other_name ↦ other_name
    ]

lower_stays : (c : ℕ) → is_ascii_lowercase c ≡ true → to_ascii_lowercase c ≡ c
lower_stays c h = grind arith

-- a letter more of a name
letter_read : (f : Feedback) (kind : TextKind) (name letters : List ℕ) (c : ℕ) → is_any_letter c ≡ true → (m : Machine) (rest : List ℕ) (seen : List Token) →
    Reads f (reader (in_mode kind name (Naming letters) m) (c ∷ rest) seen) (reader (in_mode kind name (Naming (letters ++ c ∷ [])) m) rest seen)
letter_read f kind name letters c h m rest seen =
    elim (or_cases (is_upper c) (is_ascii_lowercase c) h) [
      | inl upper ↦ subst (λ low. Reads f (reader (in_mode kind name (Naming letters) m) (c ∷ rest) seen) (reader (naming kind name low (letters ++ c ∷ []) m) rest seen))
          (sym (map-append to_ascii_lowercase letters (c ∷ [])))
          (silent (taking (Add TheTagName Lower ∷ Add Buffer Current ∷ []) Stay (c ∷ [])) (upper_taken kind (f.in_foreign seen) (in_mode kind name (Naming letters) m) c rest upper) refl refl)
      | inr lower ↦ subst (λ low. Reads f (reader (in_mode kind name (Naming letters) m) (c ∷ rest) seen) (reader (naming kind name low (letters ++ c ∷ []) m) rest seen))
          (ap (λ d. map to_ascii_lowercase letters ++ d ∷ []) (sym (lower_stays c lower)) ∙ sym (map-append to_ascii_lowercase letters (c ∷ [])))
          (silent (taking (Add TheTagName Current ∷ Add Buffer Current ∷ []) Stay (c ∷ [])) (lower_taken kind (f.in_foreign seen) (in_mode kind name (Naming letters) m) c rest lower) refl refl)
    ]

-- the first letter of a name
first_letter : (f : Feedback) (kind : TextKind) (name : List ℕ) (c : ℕ) → is_any_letter c ≡ true → (m : Machine) (rest : List ℕ) (seen : List Token) →
    Reads f (reader (in_mode kind name Open m) (c ∷ rest) seen) (reader (in_mode kind name (Naming (c ∷ [])) m) rest seen)
first_letter f kind name c h m rest seen =
    go_on
    (elim (or_cases (is_upper c) (is_ascii_lowercase c) h) as (λ _. Reads f (reader (in_mode kind name Open m) (c ∷ rest) seen) (reader (in_mode kind name (Naming []) m) (c ∷ rest) seen)) [
      | inl upper ↦ silent (taking (NewTag Ending ∷ []) (Reconsume (name_state kind)) (c ∷ [])) (begins_upper kind (f.in_foreign seen) (in_mode kind name Open m) c rest upper) refl refl
      | inr lower ↦ silent (taking (NewTag Ending ∷ []) (Reconsume (name_state kind)) (c ∷ [])) (begins_lower kind (f.in_foreign seen) (in_mode kind name Open m) c rest lower) refl refl
    ])
    (letter_read f kind name [] c h m rest seen)

-- `/` behind `<`
slash_goes : (f : Feedback) (kind : TextKind) (name text : List ℕ) → Lacks kind name (codes "</" ++ text) → Goes f kind name Less 47 text
slash_goes f kind name text l = record {
  mode' = Open;
  ok = open_ok kind;
  lacks = l;
  emitted = [];
  all = refl;
  reads = λ m rest seen. (m, rw (append-nil seen) (silent (taking (SetEmpty Buffer ∷ []) (Switch (open_state kind)) (47 ∷ [])) (slash_taken kind (f.in_foreign seen) (in_mode kind name Less m) rest) refl refl));
}
  where
    open_ok : (kind : TextKind) → is_mode_of kind Open ≡ true
    open_ok Rcdata = refl
    open_ok Rawtext = refl
    open_ok Script = refl

-- `!` behind `<`, in a script
bang_goes : (f : Feedback) → IsFeedback f → (name text : List ℕ) → Lacks Script name (codes "<!" ++ text) → Goes f Script name Less 33 text
unfolding taken entries
bang_goes f honest name text l = record {
  mode' = Bang;
  ok = refl;
  lacks = l;
  emitted = codes "<!";
  all = refl;
  reads = λ m rest seen. (m, telling honest (taking (Emit (These (codes "<!")) ∷ []) (Switch ScriptDataEscapeStart) (33 ∷ [])) 60 (33 ∷ []) refl refl refl);
}

-- `-` behind `<!`, in a script
dash_goes : (f : Feedback) → IsFeedback f → (name text : List ℕ) → Lacks Script name (codes "<!-" ++ text) → Goes f Script name Bang 45 text
unfolding taken entries
dash_goes f honest name text l = record {
  mode' = BangDash;
  ok = refl;
  lacks = l;
  emitted = codes "-";
  all = refl;
  reads = λ m rest seen. (m, telling honest (taking (Emit (These (codes "-")) ∷ []) (Switch ScriptDataEscapeStartDash) (45 ∷ [])) 45 [] refl refl refl);
}

less_goes : (f : Feedback) → IsFeedback f → (kind : TextKind) (name : List ℕ) (c : ℕ) (text : List ℕ) → is_own_char kind c ≡ true → is_mode_of kind Less ≡ true →
    Lacks kind name (codes "<" ++ c ∷ text) → (47 == c) ≡ false → Goes f kind name Less c text
less_goes f honest Rcdata name c text h ok l no_slash = fallen f honest Rcdata name Less c text h ok l (no_slash, λ e. absurd (true≢false (sym (ap is_script e))))
less_goes f honest Rawtext name c text h ok l no_slash = fallen f honest Rawtext name Less c text h ok l (no_slash, λ e. absurd (true≢false (sym (ap is_script e))))
less_goes f honest Script name c text h ok l no_slash =
    elim (cases_Bool (33 == c)) [
      | inl bang ↦ subst (λ d. Lacks Script name (codes "<" ++ d ∷ text) → Goes f Script name Less d text) (eqb-true 33 c bang) (bang_goes f honest name text) l
      | inr no_bang ↦ fallen f honest Script name Less c text h ok l (no_slash, λ e. no_bang)
    ]

naming_ok : (kind : TextKind) (letters : List ℕ) → is_mode_of kind (Naming letters) ≡ true
naming_ok Rcdata letters = refl
naming_ok Rawtext letters = refl
naming_ok Script letters = refl

-- no `<!--` is read
never : (c : ℕ) (text : List ℕ) → contains_word eqb (codes "<!--") (codes "<!-" ++ c ∷ text) ≡ false → (45 == c) ≡ false
never c text h =
    elim (cases_Bool (45 == c)) [
      | inl dash ↦ absurd (true≢false (sym (both_true dash refl) ∙ front-lacks eqb (codes "<!--") 60 (33 ∷ 45 ∷ c ∷ text) h))
      | inr no_dash ↦ no_dash
    ]

goes : (f : Feedback) → IsFeedback f → (kind : TextKind) (name : List ℕ) (mode : Mode) (c : ℕ) (text : List ℕ) → is_own_char kind c ≡ true → is_mode_of kind mode ≡ true →
    Lacks kind name (last_of mode ++ c ∷ text) → Goes f kind name mode c text
goes f honest kind name In c text h ok l = in_step f honest kind name c text h ok l
goes f honest kind name Less c text h ok l =
    elim (cases_Bool (47 == c)) [
      | inl slash ↦ subst (λ d. Lacks kind name (codes "<" ++ d ∷ text) → Goes f kind name Less d text) (eqb-true 47 c slash) (slash_goes f kind name text) l
      | inr no_slash ↦ less_goes f honest kind name c text h ok l no_slash
    ]
goes f honest kind name Open c text h ok l =
    elim (cases_Bool (is_any_letter c)) [
      | inl letter ↦ record {
        mode' = Naming (c ∷ []);
        ok = naming_ok kind (c ∷ []);
        lacks = l;
        emitted = [];
        all = refl;
        reads = λ m rest seen. (m, rw (append-nil seen) (first_letter f kind name c letter m rest seen));
      }
      | inr no_letter ↦ fallen f honest kind name Open c text h ok l no_letter
    ]
goes f honest kind name (Naming letters) c text h ok l =
    elim (cases_Bool (is_any_letter c)) [
      | inl letter ↦ record {
        mode' = Naming (letters ++ c ∷ []);
        ok = naming_ok kind (letters ++ c ∷ []);
        lacks = subst (λ rest. Lacks kind name (60 ∷ 47 ∷ rest)) (sym (append_assoc letters (c ∷ []) text)) l;
        emitted = [];
        all = refl;
        reads = λ m rest seen. (m, rw (append-nil seen) (letter_read f kind name letters c letter m rest seen));
      }
      | inr no_letter ↦ fallen f honest kind name (Naming letters) c text h ok l (no_letter, no_end kind name letters (c ∷ text) l)
    ]
goes f honest Script name Bang c text h ok l =
    elim (cases_Bool (45 == c)) [
      | inl dash ↦ subst (λ d. Lacks Script name (codes "<!" ++ d ∷ text) → Goes f Script name Bang d text) (eqb-true 45 c dash) (dash_goes f honest name text) l
      | inr no_dash ↦ fallen f honest Script name Bang c text h ok l no_dash
    ]
goes f honest Script name BangDash c text h ok l =
    elim (cases_Bool (45 == c)) [
      | inl dash ↦ absurd (true≢false (sym dash ∙ never c text (l.opens refl)))
      | inr no_dash ↦ fallen f honest Script name BangDash c text h ok l no_dash
    ]
goes f honest Rawtext name Bang c text h ok l = cc
goes f honest Rawtext name BangDash c text h ok l = cc
goes f honest Rcdata name Bang c text h ok l = cc
goes f honest Rcdata name BangDash c text h ok l = cc

-- ---- whole texts

-- the mode falls at the `<` of the end tag
falls_at_end : (kind : TextKind) (name : List ℕ) (mode : Mode) → Lacks kind name (last_of mode ++ []) → Falls kind name mode 60
falls_at_end kind name In l = tt
falls_at_end kind name Less l = (refl, λ e. refl)
falls_at_end kind name Open l = refl
falls_at_end kind name (Naming letters) l = (refl, no_end kind name letters [] l)
falls_at_end kind name Bang l = refl
falls_at_end kind name BangDash l = refl

text_read : (f : Feedback) → IsFeedback f → (kind : TextKind) (name : List ℕ) (mode : Mode) (text : List ℕ) → list_all (is_own_char kind) text ≡ true → is_mode_of kind mode ≡ true →
    Lacks kind name (last_of mode ++ text) → (m : Machine) (rest : List ℕ) (seen : List Token) →
    (n : Machine) × Reads f (reader (in_mode kind name mode m) (text ++ 60 ∷ rest) seen) (reader (in_mode kind name In n) (60 ∷ rest) (seen ++ map AChar (pending mode ++ text)))
text_read f honest kind name mode [] h ok l m rest seen =
    let end : (n : Machine) × Reads f (reader (in_mode kind name mode m) (60 ∷ rest) seen) (reader (in_mode kind name In n) (60 ∷ rest) (seen ++ map AChar (pending mode))) =
    falls f honest kind name mode 60 ok (falls_at_end kind name mode l) m rest seen in
    (end.0, subst (λ cs. Reads f (reader (in_mode kind name mode m) (60 ∷ rest) seen) (reader (in_mode kind name In end.0) (60 ∷ rest) (seen ++ map AChar cs))) (sym (append-nil (pending mode))) end.1)
text_read f honest kind name mode (c ∷ text) h ok l m rest seen =
    let parts : (is_own_char kind c ≡ true) × (list_all (is_own_char kind) text ≡ true) = and_parts (is_own_char kind c) (list_all (is_own_char kind) text) h in
    let first : Goes f kind name mode c text = goes f honest kind name mode c text parts.0 ok l in
    let one : (n : Machine) × Reads f (reader (in_mode kind name mode m) (c ∷ (text ++ 60 ∷ rest)) seen) (reader (in_mode kind name first.mode' n) (text ++ 60 ∷ rest) (seen ++ map AChar first.emitted)) =
    first.reads m (text ++ 60 ∷ rest) seen in
    let more : (n : Machine) × Reads f (reader (in_mode kind name first.mode' one.0) (text ++ 60 ∷ rest) (seen ++ map AChar first.emitted))
    (reader (in_mode kind name In n) (60 ∷ rest) (seen ++ map AChar first.emitted ++ map AChar (pending first.mode' ++ text))) =
    text_read f honest kind name first.mode' text parts.1 first.ok first.lacks one.0 rest (seen ++ map AChar first.emitted) in
    let chars_same : first.emitted ++ (pending first.mode' ++ text) ≡ pending mode ++ c ∷ text =
    sym (append_assoc first.emitted (pending first.mode') text) ∙ ap (λ cs. cs ++ text) first.all ∙ append_assoc (pending mode) (c ∷ []) text in
    let same : seen ++ map AChar first.emitted ++ map AChar (pending first.mode' ++ text) ≡ seen ++ map AChar (pending mode ++ c ∷ text) =
    append_assoc seen (map AChar first.emitted) (map AChar (pending first.mode' ++ text))
    ∙ ap (λ ts. seen ++ ts) (sym (map-append AChar first.emitted (pending first.mode' ++ text)) ∙ ap (λ cs. map AChar cs) chars_same) in
    (more.0, subst (λ ts. Reads f (reader (in_mode kind name mode m) (c ∷ (text ++ 60 ∷ rest)) seen) (reader (in_mode kind name In more.0) (60 ∷ rest) ts)) same (go_on one.1 more.1))

-- a raw text and its end tag, behind its start tag
pub raw_read : (f : Feedback) → IsFeedback f → (kind : TextKind) (name text : List ℕ) → is_letter_name name ≡ true → list_all (is_own_char kind) text ≡ true → lacks_end kind name text ≡ true →
    (m : Machine) (rest : List ℕ) (seen : List Token) →
    (n : Machine) × Reads f (reader (within (state_of kind) name m) (text ++ written_end name ++ rest) seen) (reader (at_state n Data) rest (seen ++ (map AChar text ++ AnEnd name ∷ [])))
raw_read f honest kind name text letters h lacks m rest seen =
    let tail : List ℕ = 47 ∷ (name ++ 62 ∷ []) ++ rest in
    let one : (n : Machine) × Reads f (reader (within (state_of kind) name m) (text ++ 60 ∷ tail) seen) (reader (within (state_of kind) name n) (60 ∷ tail) (seen ++ map AChar text)) =
    text_read f honest kind name In text h (in_ok kind) (lacks_from kind name text lacks) m tail seen in
    let two : (n : Machine) × Reads f (reader (within (state_of kind) name one.0) (60 ∷ tail) (seen ++ map AChar text)) (reader (at_state n Data) rest (seen ++ map AChar text ++ AnEnd name ∷ [])) =
    own_end_read f honest kind name letters one.0 rest (seen ++ map AChar text) in
    (two.0, rw (append_assoc text (written_end name) rest, ← append_assoc seen (map AChar text) (AnEnd name ∷ [])) (go_on one.1 two.1))
  where
    in_ok : (kind : TextKind) → is_mode_of kind In ≡ true
    in_ok Rcdata = refl
    in_ok Rawtext = refl
    in_ok Script = refl

-- a text with references and its end tag, behind its start tag
pub own_text_read : (f : Feedback) → IsFeedback f → (name : List ℕ) (pieces : List Piece) → is_letter_name name ≡ true → list_all (is_plain_piece is_text_char) pieces ≡ true →
    (m : Machine) (rest : List ℕ) (seen : List Token) →
    (n : Machine) × Reads f (reader (within RCDATA name m) (flat_map written_piece pieces ++ written_end name ++ rest) seen)
    (reader (at_state n Data) rest (seen ++ (map AChar (map character pieces) ++ AnEnd name ∷ [])))
own_text_read f honest name pieces letters h m rest seen =
    let tail : List ℕ = written_end name ++ rest in
    let text : List ℕ = flat_map written_piece pieces in
    let chars : List Token = map AChar (map character pieces) in
    let began : Machine = record m { last_start = Some name } in
    let one : InText f true began text tail seen chars = pieces_in f honest true pieces h began tail seen in
    let inside : Machine = in_text true began one.back one.buffer in
    let two : (n : Machine) × Reads f (reader (within RCDATA name inside) tail (seen ++ chars)) (reader (at_state n Data) rest (seen ++ chars ++ AnEnd name ∷ [])) =
    own_end_read f honest Rcdata name letters inside rest (seen ++ chars) in
    (two.0, rw (append_assoc text (written_end name) rest, ← append_assoc seen chars (AnEnd name ∷ [])) (go_on one.reads two.1))
