-- A token that is no character is emitted where `>` is read, by a step that leads to the data state. Where that `>` is the last character that is
-- read, it is the last step.
use Rattle.std.specs.Prelude.{◌≡◌, ℕ, suc, ◌+◌, ◌≤◌, ◌==◌, Bool, true, false, not, cond, ◌&&◌, ◌||◌, List, [], ◌∷◌, ◌++◌, ◌⊎◌, map, length, take, drop, reverse, Option, None, Some, refl}
use Rattle.std.proofs.Common.{arith, inl, inr}
use Rattle.std.specs.List.{list_all}
use Rattle.std.proofs.lemmas.Bool.{and_parts, cases_Bool, eqb-true, true≢false}
use Rattle.std.proofs.lemmas.List.{append_assoc, length-append, take-append-drop}
use Rattle.std.proofs.lemmas.Option.{none-some, same_Some}
use mathlib.Core.Path.{◌∙◌, sym, ap, subst}
use Rattle.standard_tokens.specs.Entries.{Act, Emit, EmitTag, EmitComment, EmitDoctype, EmitEndOfFile, NewTag, NewAttr, NewComment, NewDoctype}
use Rattle.standard_tokens.specs.Entries.{SelfClosing, ForceQuirks, Add, SetEmpty, ReturnTo, CodeZero, CodeDigit, BufferNumber, BufferName, Flush}
use Rattle.standard_tokens.specs.Entries.{On, Next, Word, AnyCase, Name, Else, OneOf, Range, End, Guard, Then, Stay, Switch, Reconsume, SwitchBack}
use Rattle.standard_tokens.specs.Entries.{ReconsumeBack, Stop, Entry, entry, Starting, Ending, TagKind as StandardKind}
use Rattle.standard_tokens.specs.Machine.{Machine, Step, Tag as StandardTag, Taken, all_done, all_emitted, at_state, characters, consumed, distinct, done, emitted, is_met, is_value}
use Rattle.standard_tokens.specs.Machine.{rest_behind, state_behind, step, step_by, stops, taken, taken_if, token_of}
use Rattle.standard_tokens.specs.States as there
use Rattle.standard_tokens.specs.States.{State as StandardState}
use Rattle.standard_tokens.specs.Table.{entries}
use Rattle.standard_tokens.specs.Tokens.{Token as StandardToken, AChar, AComment, ADoctype, AStart, AnEnd}
use Rattle.page_tokens.specs.Standard.{Goes, stays, steps}
use Rattle.page_tokens.proofs.EveryState.{every_state, is_state, same_state, third}
use Rattle.page_tokens.proofs.StandardSteps.{in_its_state}
use Rattle.page_tokens.proofs.TextFollows.{map_append}

-- ---- the table

abbrev is_mark : Act → Bool
is_mark EmitTag = true
is_mark EmitComment = true
is_mark EmitDoctype = true
is_mark _ = false

-- emits nothing
abbrev is_silent : Act → Bool
is_silent (Emit what) = false
is_silent EmitTag = false
is_silent EmitComment = false
is_silent EmitDoctype = false
is_silent EmitEndOfFile = false
is_silent Flush = false
is_silent _ = true

-- emits characters at most
abbrev shows : Act → Bool
shows EmitTag = false
shows EmitComment = false
shows EmitDoctype = false
shows EmitEndOfFile = false
shows _ = true

abbrev ends_in_mark : List Act → Bool
ends_in_mark [] = false
ends_in_mark (act ∷ []) = is_mark act
ends_in_mark (act ∷ next ∷ acts) = is_silent act && ends_in_mark (next ∷ acts)

abbrev is_greater : On → Bool
is_greater (Next (OneOf (c ∷ []) ∷ [])) = c == 62
is_greater _ = false

abbrev pub is_data : StandardState → Bool
is_data s = is_state s there.Data

abbrev to_data : Then → Bool
to_data (Switch state) = is_data state
to_data _ = false

-- an entry emits characters at most, or it stops, or it emits one token at `>` and leads to the data state
abbrev as_wanted : Entry → Bool
as_wanted (entry on guard acts goes) = list_all shows acts || (stops goes || (ends_in_mark acts && (is_greater on && to_data goes)))

every : (s : StandardState) → list_all as_wanted (entries s) ≡ true
unfolding entries
every = every_state (λ s. list_all as_wanted (entries s)) refl

-- ---- the entry that is taken

record Marks (t : Taken) (text : List ℕ) : Type 0 where
  pub acts : ends_in_mark t.acts ≡ true
  pub goes : to_data t.goes ≡ true
  pub after : List ℕ
  pub text_is : text ≡ 62 ∷ after
  pub current : t.current ≡ 62 ∷ []

abbrev Wanted : Taken → List ℕ → Type 0
Wanted t text = (list_all shows t.acts ≡ true) ⊎ ((stops t.goes ≡ true) ⊎ Marks t text)

-- `>` is consumed
record TookGreater (text cur : List ℕ) : Type 0 where
  pub after : List ℕ
  pub text_is : text ≡ 62 ∷ after
  pub current : cur ≡ 62 ∷ []

took_by : (d : ℕ) (after cur : List ℕ) (x : Bool) → (62 == d) ≡ x → cond (x || false) (Some (d ∷ [])) None ≡ Some cur → TookGreater (d ∷ after) cur
took_by d after cur true e took =
    let is : d ≡ 62 = sym (eqb-true 62 d e) in
    record { after = after; text_is = ap (λ c. c ∷ after) is; current = sym (same_Some _ _ took) ∙ ap (λ c. c ∷ []) is }
took_by d after cur false e took = absurd (none-some _ took)

took : (c : ℕ) (text cur : List ℕ) → c ≡ 62 → consumed (Next (OneOf (c ∷ []) ∷ [])) text ≡ Some cur → TookGreater text cur
took c [] cur is h = absurd (none-some _ h)
took c (d ∷ after) cur is h = took_by d after cur (62 == d) refl (over (subst (λ k. consumed (Next (OneOf (k ∷ []) ∷ [])) (d ∷ after) ≡ Some cur) is h))
  where
    or_false : (x : Bool) → (x || false) ≡ x
    or_false true = refl
    or_false false = refl

    over : consumed (Next (OneOf (62 ∷ []) ∷ [])) (d ∷ after) ≡ Some cur → cond ((62 == d) || false) (Some (d ∷ [])) None ≡ Some cur
    over e = subst (λ x. cond x (Some (d ∷ [])) None ≡ Some cur) (or_false ((62 == d) || false)) e

greater : (on : On) (text cur : List ℕ) → is_greater on ≡ true → consumed on text ≡ Some cur → TookGreater text cur
greater (Next (OneOf (c ∷ []) ∷ [])) text cur is h = took c text cur (eqb-true c 62 is) h
greater (Next (OneOf (c ∷ []) ∷ mark ∷ marks)) text cur is h = absurd (true≢false (sym is))
greater (Next (OneOf (c ∷ d ∷ cs) ∷ marks)) text cur is h = absurd (true≢false (sym is))
greater (Next (OneOf [] ∷ marks)) text cur is h = absurd (true≢false (sym is))
greater (Next (Range low high ∷ marks)) text cur is h = absurd (true≢false (sym is))
greater (Next (End ∷ marks)) text cur is h = absurd (true≢false (sym is))
greater (Next []) text cur is h = absurd (true≢false (sym is))
greater (Word word) text cur is h = absurd (true≢false (sym is))
greater (AnyCase word) text cur is h = absurd (true≢false (sym is))
greater Name text cur is h = absurd (true≢false (sym is))
greater Else text cur is h = absurd (true≢false (sym is))

of_entry : (on : On) (guard : Guard) (acts : List Act) (goes : Then) (text cur : List ℕ) → as_wanted (entry on guard acts goes) ≡ true → consumed on text ≡ Some cur →
    Wanted (record { acts = acts; goes = goes; current = cur }) text
of_entry on guard acts goes text cur h is = go (third (list_all shows acts) (stops goes) (ends_in_mark acts && (is_greater on && to_data goes)) h)
  where
    go : (list_all shows acts ≡ true) ⊎ ((stops goes ≡ true) ⊎ ((ends_in_mark acts && (is_greater on && to_data goes)) ≡ true)) → Wanted (record { acts = acts; goes = goes; current = cur }) text
    go (inl e) = inl e
    go (inr (inl e)) = inr (inl e)
    go (inr (inr e)) =
        let one : (ends_in_mark acts ≡ true) × ((is_greater on && to_data goes) ≡ true) = and_parts (ends_in_mark acts) (is_greater on && to_data goes) e in
        let two : (is_greater on ≡ true) × (to_data goes ≡ true) = and_parts (is_greater on) (to_data goes) one.1 in
        let at : TookGreater text cur = greater on text cur two.0 is in
        inr (inr (record { acts = one.0; goes = two.1; after = at.after; text_is = at.text_is; current = at.current }))

picked : (b : Bool) (m : Machine) (text : List ℕ) (on : On) (guard : Guard) (acts : List Act) (goes : Then) (other : Taken) → as_wanted (entry on guard acts goes) ≡ true → Wanted other text →
    (o : Option (List ℕ)) → consumed on text ≡ o → Wanted (taken_if b o guard acts goes m text other) text
picked b m text on guard acts goes other h rest None is = rest
picked b m text on guard acts goes other h rest (Some cur) is = go (is_met b guard m cur (drop (length cur) text))
  where
    go : (x : Bool) → Wanted (cond x (record { acts = acts; goes = goes; current = cur }) other) text
    go true = of_entry on guard acts goes text cur h is
    go false = rest

wanted : (b : Bool) (m : Machine) (text : List ℕ) (es : List Entry) → list_all as_wanted es ≡ true → Wanted (taken b m text es) text
unfolding taken
wanted b m text [] all = inl refl
wanted b m text (entry on guard acts goes ∷ es) all =
    let parts : (as_wanted (entry on guard acts goes) ≡ true) × (list_all as_wanted es ≡ true) = and_parts (as_wanted (entry on guard acts goes)) (list_all as_wanted es) all in
    picked b m text on guard acts goes (taken b m text es) parts.0 (wanted b m text es parts.1) (consumed on text) refl

-- ---- what a step emits

-- characters alone
record AreShown (tokens : List StandardToken) : Type 0 where
  pub characters : List ℕ
  pub are : tokens ≡ map AChar characters

shown : (act : Act) (cur : List ℕ) (m : Machine) → shows act ≡ true → AreShown (emitted cur act m)
shown (Emit what) cur m h = record { characters = characters what m cur; are = refl }
shown Flush cur m h = go (is_value m.return_state)
  where
    go : (x : Bool) → AreShown (cond x [] (map AChar m.buffer))
    go true = record { characters = []; are = refl }
    go false = record { characters = m.buffer; are = refl }
shown EmitTag cur m h = absurd (true≢false (sym h))
shown EmitComment cur m h = absurd (true≢false (sym h))
shown EmitDoctype cur m h = absurd (true≢false (sym h))
shown EmitEndOfFile cur m h = absurd (true≢false (sym h))
shown (NewTag kind) cur m h = record { characters = []; are = refl }
shown NewAttr cur m h = record { characters = []; are = refl }
shown NewComment cur m h = record { characters = []; are = refl }
shown NewDoctype cur m h = record { characters = []; are = refl }
shown SelfClosing cur m h = record { characters = []; are = refl }
shown ForceQuirks cur m h = record { characters = []; are = refl }
shown (Add place what) cur m h = record { characters = []; are = refl }
shown (SetEmpty place) cur m h = record { characters = []; are = refl }
shown (ReturnTo state) cur m h = record { characters = []; are = refl }
shown CodeZero cur m h = record { characters = []; are = refl }
shown (CodeDigit base less) cur m h = record { characters = []; are = refl }
shown BufferNumber cur m h = record { characters = []; are = refl }
shown BufferName cur m h = record { characters = []; are = refl }

all_shown : (acts : List Act) (cur : List ℕ) (m : Machine) → list_all shows acts ≡ true → AreShown (all_emitted cur acts m)
all_shown [] cur m h = record { characters = []; are = refl }
all_shown (act ∷ acts) cur m h =
    let parts : (shows act ≡ true) × (list_all shows acts ≡ true) = and_parts (shows act) (list_all shows acts) h in
    let one : AreShown (emitted cur act m) = shown act cur m parts.0 in
    let more : AreShown (all_emitted cur acts (done cur act m)) = all_shown acts cur (done cur act m) parts.1 in
    record {
      characters = one.characters ++ more.characters;
      are = ap (λ ts. ts ++ all_emitted cur acts (done cur act m)) one.are ∙ ap (λ ts. map AChar one.characters ++ ts) more.are ∙ sym (map_append AChar one.characters more.characters);
    }

abbrev pub is_no_char : StandardToken → Bool
is_no_char (AChar c) = false
is_no_char _ = true

-- one token that is no character
pub record IsOne (tokens : List StandardToken) : Type 0 where
  pub token : StandardToken
  pub are : tokens ≡ token ∷ []
  pub no_char : is_no_char token ≡ true

pub tag_is : (tag : StandardTag) → is_no_char (token_of tag) ≡ true
tag_is tag = go tag.kind
  where
    go : (kind : StandardKind) → is_no_char (elim kind [ Starting ↦ AStart tag.name (distinct (reverse tag.attrs)) tag.self_closing | Ending ↦ AnEnd tag.name ]) ≡ true
    go Starting = refl
    go Ending = refl

mark_one : (act : Act) (cur : List ℕ) (m : Machine) → is_mark act ≡ true → IsOne (emitted cur act m ++ [])
mark_one EmitTag cur m h = record { token = token_of m.tag; are = refl; no_char = tag_is m.tag }
mark_one EmitComment cur m h = record { token = AComment m.comment; are = refl; no_char = refl }
mark_one EmitDoctype cur m h = record { token = ADoctype m.doctype; are = refl; no_char = refl }
mark_one (Emit what) cur m h = absurd (true≢false (sym h))
mark_one Flush cur m h = absurd (true≢false (sym h))
mark_one EmitEndOfFile cur m h = absurd (true≢false (sym h))
mark_one (NewTag kind) cur m h = absurd (true≢false (sym h))
mark_one NewAttr cur m h = absurd (true≢false (sym h))
mark_one NewComment cur m h = absurd (true≢false (sym h))
mark_one NewDoctype cur m h = absurd (true≢false (sym h))
mark_one SelfClosing cur m h = absurd (true≢false (sym h))
mark_one ForceQuirks cur m h = absurd (true≢false (sym h))
mark_one (Add place what) cur m h = absurd (true≢false (sym h))
mark_one (SetEmpty place) cur m h = absurd (true≢false (sym h))
mark_one (ReturnTo state) cur m h = absurd (true≢false (sym h))
mark_one CodeZero cur m h = absurd (true≢false (sym h))
mark_one (CodeDigit base less) cur m h = absurd (true≢false (sym h))
mark_one BufferNumber cur m h = absurd (true≢false (sym h))
mark_one BufferName cur m h = absurd (true≢false (sym h))

silent : (act : Act) (cur : List ℕ) (m : Machine) → is_silent act ≡ true → emitted cur act m ≡ []
silent (Emit what) cur m h = absurd (true≢false (sym h))
silent Flush cur m h = absurd (true≢false (sym h))
silent EmitTag cur m h = absurd (true≢false (sym h))
silent EmitComment cur m h = absurd (true≢false (sym h))
silent EmitDoctype cur m h = absurd (true≢false (sym h))
silent EmitEndOfFile cur m h = absurd (true≢false (sym h))
silent (NewTag kind) cur m h = refl
silent NewAttr cur m h = refl
silent NewComment cur m h = refl
silent NewDoctype cur m h = refl
silent SelfClosing cur m h = refl
silent ForceQuirks cur m h = refl
silent (Add place what) cur m h = refl
silent (SetEmpty place) cur m h = refl
silent (ReturnTo state) cur m h = refl
silent CodeZero cur m h = refl
silent (CodeDigit base less) cur m h = refl
silent BufferNumber cur m h = refl
silent BufferName cur m h = refl

all_one : (acts : List Act) (cur : List ℕ) (m : Machine) → ends_in_mark acts ≡ true → IsOne (all_emitted cur acts m)
all_one [] cur m h = absurd (true≢false (sym h))
all_one (act ∷ []) cur m h = mark_one act cur m h
all_one (act ∷ next ∷ acts) cur m h =
    let parts : (is_silent act ≡ true) × (ends_in_mark (next ∷ acts) ≡ true) = and_parts (is_silent act) (ends_in_mark (next ∷ acts)) h in
    let later : List StandardToken = all_emitted cur (next ∷ acts) (done cur act m) in
    subst (λ ts. IsOne (ts ++ later)) (sym (silent act cur m parts.0)) (all_one (next ∷ acts) cur (done cur act m) parts.1)

-- ---- a step

-- a step that emits one token, at `>`
record MarkStep (s : Step) (text : List ℕ) : Type 0 where
  pub one : IsOne s.tokens
  pub leads : s.machine.state ≡ there.Data
  pub text_is : text ≡ 62 ∷ s.rest

data_behind : (goes : Then) (m : Machine) → to_data goes ≡ true → state_behind goes m ≡ there.Data
data_behind (Switch state) m h = same_state state there.Data h
data_behind Stay m h = absurd (true≢false (sym h))
data_behind (Reconsume state) m h = absurd (true≢false (sym h))
data_behind SwitchBack m h = absurd (true≢false (sym h))
data_behind ReconsumeBack m h = absurd (true≢false (sym h))
data_behind Stop m h = absurd (true≢false (sym h))

rest_is : (goes : Then) (cur text after : List ℕ) → to_data goes ≡ true → cur ≡ 62 ∷ [] → text ≡ 62 ∷ after → rest_behind goes cur text ≡ after
rest_is (Switch state) cur text after h c t = ap (λ k. drop (length k) text) c ∙ ap (drop 1) t
rest_is Stay cur text after h c t = absurd (true≢false (sym h))
rest_is (Reconsume state) cur text after h c t = absurd (true≢false (sym h))
rest_is SwitchBack cur text after h c t = absurd (true≢false (sym h))
rest_is ReconsumeBack cur text after h c t = absurd (true≢false (sym h))
rest_is Stop cur text after h c t = absurd (true≢false (sym h))

of_taken : (m : Machine) (text : List ℕ) (t : Taken) → stops t.goes ≡ false → Wanted t text → AreShown (step_by m text t).tokens ⊎ MarkStep (step_by m text t) text
of_taken m text t runs (inl e) = inl (all_shown t.acts t.current m e)
of_taken m text t runs (inr (inl e)) = absurd (true≢false (sym e ∙ runs))
of_taken m text t runs (inr (inr marks)) = inr (record {
  one = all_one t.acts t.current m marks.acts;
  leads = data_behind t.goes (all_done t.current t.acts m) marks.goes;
  text_is = marks.text_is ∙ ap (λ r. 62 ∷ r) (sym (rest_is t.goes t.current text marks.after marks.goes marks.current marks.text_is));
})

step_wanted : (b : Bool) (m : Machine) (text : List ℕ) → (step b m text).stopped ≡ false → AreShown (step b m text).tokens ⊎ MarkStep (step b m text) text
unfolding step
step_wanted b m text runs = of_taken m text (taken b m text (entries m.state)) runs (wanted b m text (entries m.state) (every m.state))

-- ---- what steps leave of the text

pub record Splits (text rest : List ℕ) : Type 0 where
  pub front : List ℕ
  pub is : text ≡ front ++ rest

rest_split : (goes : Then) (cur text : List ℕ) → Splits text (rest_behind goes cur text)
rest_split (Reconsume state) cur text = record { front = []; is = refl }
rest_split ReconsumeBack cur text = record { front = []; is = refl }
rest_split (Switch state) cur text = record { front = take (length cur) text; is = sym (take-append-drop (length cur) text) }
rest_split Stay cur text = record { front = take (length cur) text; is = sym (take-append-drop (length cur) text) }
rest_split SwitchBack cur text = record { front = take (length cur) text; is = sym (take-append-drop (length cur) text) }
rest_split Stop cur text = record { front = take (length cur) text; is = sym (take-append-drop (length cur) text) }

pub step_split : (b : Bool) (m : Machine) (text : List ℕ) → Splits text (step b m text).rest
unfolding step
step_split b m text = let t : Taken = taken b m text (entries m.state) in rest_split t.goes t.current text

pub goes_split : {m n : Machine} {text rest : List ℕ} {ts : List StandardToken} → Goes m text ts n rest → Splits text rest
goes_split stays = record { front = []; is = refl }
goes_split {m} {n} {text} {rest} {ts} (steps s is runs goes) =
    let one : Splits text s.rest = subst (λ (s : Step). Splits text s.rest) (is false) (step_split false m text) in
    let more : Splits s.rest rest = goes_split goes in
    record { front = one.front ++ more.front; is = one.is ∙ ap (λ r. one.front ++ r) more.is ∙ sym (append_assoc one.front more.front rest) }

-- in the data state each step reads a character
record StepsOver (text rest : List ℕ) : Type 0 where
  pub c : ℕ
  pub is : text ≡ c ∷ rest

rest_of : (b : Bool) (m : Machine) (c : ℕ) (rest : List ℕ) → (step b (at_state m there.Data) (c ∷ rest)).rest ≡ rest
unfolding taken entries step
rest_of b m c rest = elim (cases_Bool (38 == c)) [
  | inl t ↦ rw t refl
  | inr f ↦ elim (cases_Bool (60 == c)) [
    | inl t ↦ rw (f, t) refl
    | inr g ↦ elim (cases_Bool (0 == c)) [
      | inl t ↦ rw (f, g, t) refl
      | inr h ↦ rw (f, g, h) refl
    ]
  ]
]

over : (b : Bool) (m : Machine) (text : List ℕ) → (step b (at_state m there.Data) text).stopped ≡ false → StepsOver text (step b (at_state m there.Data) text).rest
unfolding taken entries step
over b m [] runs = absurd (true≢false runs)
over b m (c ∷ rest) runs = record { c = c; is = ap (λ r. c ∷ r) (sym (rest_of b m c rest)) }

data_over : (b : Bool) (m : Machine) (text : List ℕ) → m.state ≡ there.Data → (step b m text).stopped ≡ false → StepsOver text (step b m text).rest
data_over b m text at_data =
    subst (λ (k : Machine). (step b k text).stopped ≡ false → StepsOver text (step b k text).rest) (in_its_state m there.Data at_data) (over b m text)

-- ---- the step that emits the token

record Found (b : Bool) (m : Machine) (text cs : List ℕ) (token : StandardToken) (n : Machine) (rest : List ℕ) : Type 0 where
  pub before : Machine
  pub left : List ℕ
  pub goes : Goes m text (map AChar cs) before left
  pub runs : (step b before left).stopped ≡ false
  pub marks : MarkStep (step b before left) left
  pub tokens : (step b before left).tokens ≡ token ∷ []
  pub later : Goes (step b before left).machine (step b before left).rest [] n rest

pub head_of : {A : Type 0} (x y : A) (xs ys : List A) → x ∷ xs ≡ y ∷ ys → x ≡ y
head_of x y xs ys e = cc

pub tail_of : {A : Type 0} (x y : A) (xs ys : List A) → x ∷ xs ≡ y ∷ ys → xs ≡ ys
tail_of x y xs ys e = cc

pub nil_cons : {A : Type 0} (x : A) (xs : List A) → [] ≡ x ∷ xs → ⊥
nil_cons x xs e = cc

char_of : (c d : ℕ) → AChar c ≡ AChar d → c ≡ d
char_of c d e = cc

no_tokens : (cs : List ℕ) (token : StandardToken) → [] ≡ map AChar cs ++ token ∷ [] → ⊥
no_tokens [] token e = nil_cons token [] e
no_tokens (c ∷ cs) token e = nil_cons (AChar c) (map AChar cs ++ token ∷ []) e

-- characters at the front of characters and a token
record Cut (ds cs : List ℕ) (later : List StandardToken) (token : StandardToken) : Type 0 where
  pub more : List ℕ
  pub is : cs ≡ ds ++ more
  pub later_is : later ≡ map AChar more ++ token ∷ []

cut_chars : (ds cs : List ℕ) (later : List StandardToken) (token : StandardToken) → is_no_char token ≡ true → map AChar ds ++ later ≡ map AChar cs ++ token ∷ [] → Cut ds cs later token
cut_chars [] cs later token mark e = record { more = cs; is = refl; later_is = e }
cut_chars (d ∷ ds) [] later token mark e =
    let head : AChar d ≡ token = head_of (AChar d) token (map AChar ds ++ later) [] e in
    absurd (true≢false (sym mark ∙ ap is_no_char (sym head)))
cut_chars (d ∷ ds) (c ∷ cs) later token mark e =
    let tail : map AChar ds ++ later ≡ map AChar cs ++ token ∷ [] = tail_of (AChar d) (AChar c) (map AChar ds ++ later) (map AChar cs ++ token ∷ []) e in
    let head : c ≡ d = sym (char_of d c (head_of (AChar d) (AChar c) (map AChar ds ++ later) (map AChar cs ++ token ∷ []) e)) in
    let more : Cut ds cs later token = cut_chars ds cs later token mark tail in
    record { more = more.more; is = ap (λ x. x ∷ cs) head ∙ ap (λ xs. d ∷ xs) more.is; later_is = more.later_is }

record Alone (one : StandardToken) (later : List StandardToken) (cs : List ℕ) (token : StandardToken) : Type 0 where
  pub none : cs ≡ []
  pub same : one ≡ token
  pub last : later ≡ []

alone : (one : StandardToken) (later : List StandardToken) (cs : List ℕ) (token : StandardToken) → is_no_char one ≡ true → one ∷ later ≡ map AChar cs ++ token ∷ [] → Alone one later cs token
alone one later [] token mark e = record { none = refl; same = head_of one token later [] e; last = tail_of one token later [] e }
alone one later (c ∷ cs) token mark e =
    let head : one ≡ AChar c = head_of one (AChar c) later (map AChar cs ++ token ∷ []) e in
    absurd (true≢false (sym mark ∙ ap is_no_char head))

on_step : {b : Bool} {m n : Machine} {text rest : List ℕ} (s : Step) → ((x : Bool) → step x m text ≡ s) → s.stopped ≡ false → (later : List StandardToken) → Goes s.machine s.rest later n rest → (cs : List ℕ) (token : StandardToken) →
    is_no_char token ≡ true → s.tokens ++ later ≡ map AChar cs ++ token ∷ [] → ((es : List ℕ) → later ≡ map AChar es ++ token ∷ [] → Found b s.machine s.rest es token n rest) → AreShown s.tokens ⊎ MarkStep s text →
    Found b m text cs token n rest
on_step {b} {m} {n} {text} {rest} s is runs later goes cs token mark e more (inl shows) =
    let cut : Cut shows.characters cs later token = cut_chars shows.characters cs later token mark (sym (ap (λ ts. ts ++ later) shows.are) ∙ e) in
    let found : Found b s.machine s.rest cut.more token n rest = more cut.more cut.later_is in
    record {
      before = found.before;
      left = found.left;
      goes = subst (λ ts. Goes m text ts found.before found.left) (ap (λ ts. ts ++ map AChar cut.more) shows.are ∙ sym (map_append AChar shows.characters cut.more) ∙ sym (ap (map AChar) cut.is)) (steps s is runs found.goes);
      runs = found.runs;
      marks = found.marks;
      tokens = found.tokens;
      later = found.later;
    }
on_step {b} {m} {n} {text} {rest} s is runs later goes cs token mark e more (inr marks) =
    let first : Alone marks.one.token later cs token = alone marks.one.token later cs token marks.one.no_char (sym (ap (λ ts. ts ++ later) marks.one.are) ∙ e) in
    record {
      before = m;
      left = text;
      goes = subst (λ ds. Goes m text (map AChar ds) m text) (sym first.none) stays;
      runs = ap (λ (s : Step). s.stopped) (is b) ∙ runs;
      marks = subst (λ (s : Step). MarkStep s text) (sym (is b)) marks;
      tokens = ap (λ (s : Step). s.tokens) (is b) ∙ marks.one.are ∙ ap (λ t. t ∷ []) first.same;
      later = subst (λ (s : Step). Goes s.machine s.rest [] n rest) (sym (is b)) (subst (λ ts. Goes s.machine s.rest ts n rest) first.last goes);
    }

find : {b : Bool} {m n : Machine} {text rest : List ℕ} {ts : List StandardToken} → Goes m text ts n rest → (cs : List ℕ) (token : StandardToken) → is_no_char token ≡ true → ts ≡ map AChar cs ++ token ∷ [] → Found b m text cs token n rest
find stays cs token mark e = absurd (no_tokens cs token e)
find {b} {m} {n} {text} {rest} {ts} (steps {tokens = later} s is runs goes) cs token mark e =
    on_step s is runs later goes cs token mark e (λ es same. find goes es token mark same)
    (subst (λ (s : Step). s.stopped ≡ false → AreShown s.tokens ⊎ MarkStep s text) (is b) (step_wanted b m text) runs)

-- where no character is left to read, no step follows
stays_there : {m n : Machine} {text rest : List ℕ} {ts : List StandardToken} → Goes m text ts n rest → m.state ≡ there.Data → length text ≤ length rest → (m ≡ n) × (text ≡ rest)
stays_there stays at_data long = (refl, refl)
stays_there {m} {n} {text} {rest} {ts} (steps s is runs goes) at_data long =
    let read : StepsOver text s.rest = subst (λ (s : Step). s.stopped ≡ false → StepsOver text s.rest) (is false) (data_over false m text at_data) runs in
    let more : Splits s.rest rest = goes_split goes in
    let one : length text ≡ suc (length s.rest) = ap length read.is in
    let two : length s.rest ≡ length more.front + length rest = ap length more.is ∙ length-append more.front rest in
    absurd (omega (arith, long, one, two))

-- no `>` is among the characters
abbrev pub lacks_greater : List ℕ → Bool
lacks_greater cs = list_all (λ c. not (c == 62)) cs

not_longer : (front ahead after tail : List ℕ) (c : ℕ) → front ++ 62 ∷ after ≡ ahead ++ c ∷ tail → lacks_greater ahead ≡ true → length after ≤ length tail
not_longer [] [] after tail c e lacks =
    let same : after ≡ tail = tail_of 62 c after tail e in
    let long : length after ≡ length tail = ap length same in
    omega (arith, long)
not_longer [] (a ∷ ahead) after tail c e lacks =
    let head : a ≡ 62 = sym (head_of 62 a after (ahead ++ c ∷ tail) e) in
    absurd (true≢false (sym lacks ∙ ap (λ d. not (d == 62) && lacks_greater ahead) head))
not_longer (f ∷ front) [] after tail c e lacks =
    let same : front ++ 62 ∷ after ≡ tail = tail_of f c (front ++ 62 ∷ after) tail e in
    let long : length front + length (62 ∷ after) ≡ length tail = sym (length-append front (62 ∷ after)) ∙ ap length same in
    let more : length (62 ∷ after) ≡ suc (length after) = refl in
    omega (arith, long, more)
not_longer (f ∷ front) (a ∷ ahead) after tail c e lacks =
    let same : front ++ 62 ∷ after ≡ ahead ++ c ∷ tail = tail_of f a (front ++ 62 ∷ after) (ahead ++ c ∷ tail) e in
    not_longer front ahead after tail c same (and_parts (not (a == 62)) (lacks_greater ahead) lacks).1

-- the token is emitted by the last step, whatever the flag is there
pub record EmitsBy (b : Bool) (m : Machine) (text characters : List ℕ) (token : StandardToken) (n : Machine) (rest : List ℕ) : Type 0 where
  pub before : Machine
  pub left : List ℕ
  pub goes : Goes m text (map AChar characters) before left
  pub runs : (step b before left).stopped ≡ false
  pub tokens : (step b before left).tokens ≡ token ∷ []
  pub machine : (step b before left).machine ≡ n
  pub rest_is : (step b before left).rest ≡ rest
  pub leads : n.state ≡ there.Data

-- A call that reads one character, of which no `>` was read ahead, emits the token by its last step.
pub last_step : {b : Bool} {m n : Machine} {ts : List StandardToken} (ahead : List ℕ) (c : ℕ) (tail back cs : List ℕ) (token : StandardToken) → Goes m (ahead ++ (c ∷ []) ++ tail) ts n (back ++ tail) →
    ts ≡ map AChar cs ++ token ∷ [] → is_no_char token ≡ true → lacks_greater ahead ≡ true → EmitsBy b m (ahead ++ (c ∷ []) ++ tail) cs token n (back ++ tail)
last_step {b} {m} {n} {ts} ahead c tail back cs token goes are mark lacks =
    let found : Found b m (ahead ++ (c ∷ []) ++ tail) cs token n (back ++ tail) = find goes cs token mark are in
    let s : Step = step b found.before found.left in
    let split : Splits (ahead ++ (c ∷ []) ++ tail) found.left = goes_split found.goes in
    let same : split.front ++ 62 ∷ s.rest ≡ ahead ++ c ∷ tail = ap (λ r. split.front ++ r) (sym found.marks.text_is) ∙ sym split.is ∙ append_assoc ahead (c ∷ []) tail in
    let short : length s.rest ≤ length tail = not_longer split.front ahead s.rest tail c same lacks in
    let all : length (back ++ tail) ≡ length back + length tail = length-append back tail in
    let ends : (s.machine ≡ n) × (s.rest ≡ back ++ tail) = stays_there found.later found.marks.leads (omega (arith, short, all)) in
    record {
      before = found.before;
      left = found.left;
      goes = found.goes;
      runs = found.runs;
      tokens = found.tokens;
      machine = ends.0;
      rest_is = ends.1;
      leads = sym (ap (λ (k : Machine). k.state) ends.0) ∙ found.marks.leads;
    }
