-- The tokenizer reads characters outside of tags as the standard does.
use Rattle.std.specs.Prelude.{◌≡◌, ℕ, Bool, false, List, [], ◌∷◌, ◌++◌, map, Option, None, string_bytes, encode_utf8, refl}
use Rattle.std.proofs.Common.{inl, inr}
use Rattle.std.specs.Str.{encode_utf8_all}
use Rattle.std.proofs.lemmas.List.{append-nil, append_assoc}
use Rattle.std.proofs.lemmas.Str.{encodes-append}
use mathlib.Core.Path.{◌∙◌, sym, ap, subst}
use Rattle.standard_tokens.specs.Entries.{ReturnTo, Switch}
use Rattle.standard_tokens.specs.Machine.{Machine, at_state, taken}
use Rattle.standard_tokens.specs.States as there
use Rattle.standard_tokens.specs.Table.{entries}
use Rattle.standard_tokens.specs.Tokens.{AChar}
use Rattle.page_tokens.specs.Changes.{Gains, Remembers}
use Rattle.page_tokens.specs.Comments.{shown_of}
use Rattle.page_tokens.specs.Reading.{text_of}
use Rattle.page_tokens.specs.Standard.{AllowsReference, Behind, FollowsStandard, Goes, Held, IsLast, Leaves, ReferenceHeld, Stands}
use Rattle.page_tokens.specs.StandardStates.{state_in, state_of}
use Rattle.page_tokens.specs.TextStates.{BeginsReference, TextGoesOn}
use Rattle.page_tokens.specs.declared.token.TokenKind.{TokenKind}
use Rattle.page_tokens.specs.declared.tokenizer.Tokenizer.{Tokenizer}
use Rattle.page_tokens.specs.declared.tokenizer.references.Reference.TheVariants as reference
use Rattle.page_tokens.specs.declared.tokenizer.state.Place.TheVariants as place
use Rattle.page_tokens.specs.declared.tokenizer.state.State.{State}
use Rattle.page_tokens.proofs.StandardSteps.{by_entry, in_its_state, taking, then_on}
use Rattle.page_tokens.proofs.Switches.{ReadsNothingAhead}

-- ---- characters are emitted

-- the machine goes on, emits these characters, and stands with the tokenizer
pub record Emits (old new : Tokenizer) (m : Machine) (text : List ℕ) (shown rest : List ℕ) : Type 0 where
  pub machine : Machine
  pub goes : Goes m text (map AChar shown) machine rest
  pub stands : Stands new [] machine

-- the characters are read, and these are emitted
pub emits_text : (old new : Tokenizer) (read shown : List ℕ) → old.refused ≡ false → Leaves old new → text_of new ≡ text_of old ++ encode_utf8_all shown →
    ((m : Machine) (ahead rest : List ℕ) → Stands old ahead m → Emits old new m (ahead ++ read ++ rest) shown rest) → FollowsStandard old new read None
emits_text old new read shown memory leaves text emits = record {
  memory = memory;
  leaves = leaves;
  reads = λ m ahead rest stands.
      let to : Emits old new m (ahead ++ read ++ rest) shown rest = emits m ahead rest stands in
      record {
        machine = to.machine;
        ahead' = [];
        characters = shown;
        tokens = [];
        goes = subst (λ ts. Goes m (ahead ++ read ++ rest) ts to.machine rest) (sym (append-nil (map AChar shown))) to.goes;
        holds = inl to.stands;
        text = text;
        ends = refl;
      };
}

pub map_append : {A B : Type 0} (f : A → B) (xs ys : List A) → map f (xs ++ ys) ≡ map f xs ++ map f ys
map_append f [] ys = refl
map_append f (x ∷ xs) ys = ap (λ t. f x ∷ t) (map_append f xs ys)

-- these are emitted, and the characters are then read in another state
pub emits_before : (old mid new : Tokenizer) (read : List ℕ) (shown_by : Machine → List ℕ) (told : Option TokenKind) → (mid.refused ≡ false → old.refused ≡ false) → Leaves old mid →
    ((m : Machine) (ahead : List ℕ) → Stands old ahead m → text_of mid ≡ text_of old ++ encode_utf8_all (shown_by m)) →
    ((m : Machine) (ahead rest : List ℕ) → Stands old ahead m → Emits old mid m (ahead ++ read ++ rest) (shown_by m) (read ++ rest)) → FollowsStandard mid new read told → FollowsStandard old new read told
emits_before old mid new read shown_by told remembers leaves text emits follows = record {
  memory = remembers follows.memory;
  leaves = record { in_foreign = follows.leaves.in_foreign ∙ leaves.in_foreign; after_return = follows.leaves.after_return ∙ leaves.after_return };
  reads = λ m ahead rest stands.
      let shown : List ℕ = shown_by m in
      let to : Emits old mid m (ahead ++ read ++ rest) shown (read ++ rest) = emits m ahead rest stands in
      let more : Behind mid new read told to.machine [] rest = follows.reads to.machine [] rest to.stands in
      let b : Bool = old.in_foreign in
      let later : Goes to.machine (read ++ rest) (map AChar more.characters ++ more.tokens) more.machine (more.ahead' ++ rest) =
      subst (λ b. Goes to.machine (read ++ rest) (map AChar more.characters ++ more.tokens) more.machine (more.ahead' ++ rest)) leaves.in_foreign more.goes in
      let all : map AChar shown ++ (map AChar more.characters ++ more.tokens) ≡ map AChar (shown ++ more.characters) ++ more.tokens =
      sym (append_assoc (map AChar shown) (map AChar more.characters) more.tokens) ∙ ap (λ ts. ts ++ more.tokens) (sym (map_append AChar shown more.characters)) in
      record {
        machine = more.machine;
        ahead' = more.ahead';
        characters = shown ++ more.characters;
        tokens = more.tokens;
        goes = subst (λ ts. Goes m (ahead ++ read ++ rest) ts more.machine (more.ahead' ++ rest)) all (then_on to.goes later);
        holds = more.holds;
        text = more.text ∙ ap (λ e. e ++ encode_utf8_all more.characters) (text m ahead stands) ∙ append_assoc (text_of old) (encode_utf8_all shown) (encode_utf8_all more.characters)
            ∙ ap (λ e. text_of old ++ e) (sym (encodes-append shown more.characters));
        ends = more.ends;
      };
}

-- ---- one character

-- nothing is held in the state but that nothing is read ahead
abbrev pub HoldsNothing : State → Type 0
HoldsNothing to = (t : Tokenizer) (m : Machine) → Held to t [] m

-- only errors changed
abbrev pub OnlyErrors : Tokenizer → Tokenizer → Type 0
OnlyErrors old mid = mid ≡ record old { errors = mid.errors; refused = mid.refused }

-- from one state to another, over a character
abbrev pub Over : State → State → ℕ → List ℕ → Type 0
Over from to c shown = (b : Bool) (m : Machine) (rest : List ℕ) → Goes (at_state m (state_of from)) (c ∷ rest) (map AChar shown) (at_state m (state_of to)) rest

-- the same, and the character is read again
abbrev pub BackTo : State → State → ℕ → List ℕ → Type 0
BackTo from to c shown = (b : Bool) (m : Machine) (rest : List ℕ) → Goes (at_state m (state_of from)) (c ∷ rest) (map AChar shown) (at_state m (state_of to)) (c ∷ rest)

-- the text goes on over a character
pub goes_on_over : (old mid new : Tokenizer) (from to : State) (c : ℕ) (shown bytes : List ℕ) (told : Option TokenKind) → old.state ≡ from → OnlyErrors old mid → Remembers old mid → TextGoesOn mid new to bytes →
    bytes ≡ encode_utf8_all shown → told ≡ None → Over from to c shown → ReadsNothingAhead from → HoldsNothing to → FollowsStandard old new (c ∷ []) told
goes_on_over old mid new from to c shown bytes told is only remembers goes bytes_are told_is over nothing holds =
    let made : Tokenizer = record old { state = to; text = new.text; errors = new.errors; refused = new.refused } in
    let new_is : new ≡ made = goes.only ∙ ap {A = Tokenizer} (λ t. record t { state = to; text = new.text; errors = new.errors; refused = new.refused }) only in
    let text : string_bytes new.text ≡ string_bytes old.text ++ encode_utf8_all shown = goes.text ∙ ap (λ t. string_bytes t.text ++ bytes) only ∙ ap (λ e. string_bytes old.text ++ e) bytes_are in
    subst (λ t. FollowsStandard old t (c ∷ []) told) (sym new_is) (subst (λ k. FollowsStandard old made (c ∷ []) k) (sym told_is)
    (emits_text old made (c ∷ []) shown (remembers goes.memory) (record { in_foreign = refl; after_return = refl }) text (λ m ahead rest stands.
    let held : Held from old ahead m = subst (λ s. Held s old ahead m) is stands.held in
    let b : Bool = old.in_foreign in
    let n : Machine = at_state m (state_of to) in
    let at : m.state ≡ state_of from = stands.state ∙ ap state_of is in
    record {
      machine = n;
      goes = subst (λ front. Goes m (front ++ (c ∷ []) ++ rest) (map AChar shown) n rest) (sym (nothing old ahead m held)) (subst (λ k. Goes k (c ∷ rest) (map AChar shown) n rest) (in_its_state m (state_of from) at) (over b m rest));
      stands = record { reference = stands.reference; state = refl; last_start = stands.last_start; held = holds made n };
    })))

-- the text goes on, and the character is read in another state
pub goes_on_before : (old mid new : Tokenizer) (from to : State) (c : ℕ) (shown bytes : List ℕ) (told : Option TokenKind) → old.state ≡ from → (mid.refused ≡ false → TextGoesOn old mid to bytes) →
    bytes ≡ encode_utf8_all shown → BackTo from to c shown → ReadsNothingAhead from → HoldsNothing to → FollowsStandard mid new (c ∷ []) told → FollowsStandard old new (c ∷ []) told
goes_on_before old mid new from to c shown bytes told is goes_if bytes_are back nothing holds follows =
    let goes : TextGoesOn old mid to bytes = goes_if follows.memory in
    emits_before old mid new (c ∷ []) (λ m. shown) told (λ none. goes.memory) (record { in_foreign = ap (λ t. t.in_foreign) goes.only; after_return = ap (λ t. t.after_return) goes.only })
    (λ m ahead stands. goes.text ∙ ap (λ e. string_bytes old.text ++ e) bytes_are) (λ m ahead rest stands.
    let held : Held from old ahead m = subst (λ s. Held s old ahead m) is stands.held in
    let b : Bool = old.in_foreign in
    let n : Machine = at_state m (state_of to) in
    let at : m.state ≡ state_of from = stands.state ∙ ap state_of is in
    let made : Tokenizer = record old { state = to; text = mid.text; errors = mid.errors; refused = mid.refused } in
    record {
      machine = n;
      goes = subst (λ front. Goes m (front ++ (c ∷ []) ++ rest) (map AChar shown) n (c ∷ rest)) (sym (nothing old ahead m held))
          (subst (λ k. Goes k (c ∷ rest) (map AChar shown) n (c ∷ rest)) (in_its_state m (state_of from) at) (back b m rest));
      stands = subst (λ t. Stands t [] n) (sym goes.only) (record { reference = stands.reference; state = refl; last_start = stands.last_start; held = holds made n });
    }) follows

-- ---- a character reference begins

pub begins_reference : (old new : Tokenizer) (from : State) (told : Option TokenKind) → old.state ≡ from → AllowsReference from → BeginsReference old new → told ≡ None → new.refused ≡ false →
    ((b : Bool) (m : Machine) (rest : List ℕ) → taken b (at_state m (state_of from)) (38 ∷ rest) (entries (state_of from)) ≡ taking (ReturnTo (state_of from) ∷ []) (Switch there.CharacterReference) (38 ∷ [])) →
    ReadsNothingAhead from → ((m : Machine) (ahead : List ℕ) → Held from old ahead m → Held from new [] (record m { state = there.CharacterReference; return_state = state_of from })) → FollowsStandard old new (38 ∷ []) told
begins_reference old new from told is allows begins told_is none entry nothing also = subst (λ k. FollowsStandard old new (38 ∷ []) k) (sym told_is) (record {
  memory = sym (ap (λ t. t.refused) begins.only) ∙ none;
  leaves = record { in_foreign = ap (λ t. t.in_foreign) begins.only; after_return = ap (λ t. t.after_return) begins.only };
  reads = λ m ahead rest stands.
      let held : Held from old ahead m = subst (λ s. Held s old ahead m) is stands.held in
      let b : Bool = old.in_foreign in
      let n : Machine = record m { state = there.CharacterReference; return_state = state_of from } in
      let at : m.state ≡ state_of from = stands.state ∙ ap state_of is in
      let same_state : new.state ≡ from = ap (λ t. t.state) begins.only ∙ is in
      let new_reference : new.reference ≡ reference.Begun = ap (λ t. t.reference) begins.only in
      let step : Goes (at_state m (state_of from)) (38 ∷ rest) [] n rest =
      by_entry (at_state m (state_of from)) (38 ∷ rest) (taking (ReturnTo (state_of from) ∷ []) (Switch there.CharacterReference) (38 ∷ [])) (λ x. entry x m rest) refl in
      record {
        machine = n;
        ahead' = [];
        characters = [];
        tokens = [];
        goes = subst (λ front. Goes m (front ++ (38 ∷ []) ++ rest) [] n rest) (sym (nothing old ahead m held)) (subst (λ k. Goes k (38 ∷ rest) [] n rest) (in_its_state m (state_of from) at) step);
        holds = inr (record {
          state = ap (λ r. state_in r new.state) (sym new_reference);
          back = ap state_of (sym same_state);
          last_start = subst (λ t. IsLast t.last_start m.last_start) (sym begins.only) stands.last_start;
          place = subst AllowsReference (sym same_state) allows;
          outside = subst (λ s. Held s new [] n) (sym same_state) (also m ahead held);
          inside = subst (λ r. ReferenceHeld r new [] n) (sym new_reference) (refl, begins.written);
        });
        text = ap text_of begins.only ∙ sym (append-nil (text_of old));
        ends = refl;
      };
})

-- ---- characters as they are written

-- what `letter` appends to the text, in a state that it leaves as it is
pub letter_follows : (old new : Tokenizer) (from : State) (c : ℕ) (told : Option TokenKind) → old.state ≡ from → Gains place.Text old new (encode_utf8 (shown_of c)) → Remembers old new → told ≡ None →
    new.refused ≡ false → Over from from c (shown_of c ∷ []) → ReadsNothingAhead from → HoldsNothing from → FollowsStandard old new (c ∷ []) told
letter_follows old new from c told is gains keeps told_is none over nothing holds =
    goes_on_over old old new from from c (shown_of c ∷ []) (encode_utf8 (shown_of c)) told is refl (λ e. e) (record {
      memory = keeps none;
      only = gains.0 ∙ ap {A = State} (λ s. record old { state = s; text = new.text; errors = new.errors; refused = new.refused }) is;
      text = gains.1;
    }) (sym (append-nil (encode_utf8 (shown_of c)))) told_is over nothing holds

-- a character that is no null stands for itself
pub character_follows : (old mid new : Tokenizer) (from to : State) (c : ℕ) (told : Option TokenKind) → old.state ≡ from → OnlyErrors old mid → Remembers old mid → TextGoesOn mid new to (encode_utf8 c) →
    told ≡ None → Over from to c (c ∷ []) → ReadsNothingAhead from → HoldsNothing to → FollowsStandard old new (c ∷ []) told
character_follows old mid new from to c told is only remembers goes told_is over nothing holds =
    goes_on_over old mid new from to c (c ∷ []) (encode_utf8 c) told is only remembers goes (sym (append-nil (encode_utf8 c))) told_is over nothing holds

-- a text is appended, and then a character
pub text_twice : (old mid new : Tokenizer) (to next : State) (front more : List ℕ) → (mid.refused ≡ false → TextGoesOn old mid to front) → TextGoesOn mid new next more → TextGoesOn old new next (front ++ more)
text_twice old mid new to next front more first_if second =
    let first : TextGoesOn old mid to front = first_if second.memory in
    record {
      memory = first.memory;
      only = second.only ∙ ap {A = Tokenizer} (λ t. record t { state = next; text = new.text; errors = new.errors; refused = new.refused }) first.only;
      text = second.text ∙ ap (λ e. e ++ more) first.text ∙ append_assoc (string_bytes old.text) front more;
    }

-- only the state changes
pub moved : (old new : Tokenizer) (next : State) → new ≡ record old { state = next } → new.refused ≡ false → TextGoesOn old new next []
moved old new next only none =
    subst (λ t. TextGoesOn old t next []) (sym only) (record { memory = sym (ap (λ t. t.refused) only) ∙ none; only = refl; text = sym (append-nil (string_bytes old.text)) })
