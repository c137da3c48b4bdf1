-- What a call in a state of tags or attributes has to show, once the machine is put in front of the character.
use Rattle.std.specs.Prelude.{◌≡◌, ℕ, ◌<◌, ◌==◌, ◌||◌, Bool, true, false, List, [], ◌∷◌, ◌++◌, length, Option, None, string_bytes, refl}
use Rattle.std.proofs.Common.{inl}
use Rattle.std.proofs.lemmas.List.{append-nil}
use mathlib.Core.Path.{◌∙◌, sym, ap, subst}
use Rattle.standard_tokens.specs.Entries.{Act, EmitTag, Stay, Switch, Then}
use Rattle.standard_tokens.specs.Machine.{Machine, Tag as StandardTag, at_state, last_start_of, taken, token_of}
use Rattle.standard_tokens.specs.States as there
use Rattle.standard_tokens.specs.States.{State as StandardState}
use Rattle.standard_tokens.specs.Table.{entries}
use Rattle.page_tokens.specs.Changes.{Remembers}
use Rattle.page_tokens.specs.Reading.{text_of}
use Rattle.page_tokens.specs.Standard.{EmitsTag, FollowsStandard, Goes, Held, IsDraft, IsLast, Keeps, Leaves, Stands, Told}
use Rattle.page_tokens.specs.StandardStates.{state_of}
use Rattle.page_tokens.specs.TagStates.{ends_name_of}
use Rattle.page_tokens.specs.declared.token.TokenKind.{TokenKind}
use Rattle.page_tokens.specs.declared.tokenizer.Tokenizer.{Tokenizer}
use Rattle.page_tokens.specs.declared.tokenizer.state.State.{State}
use Rattle.page_tokens.proofs.DeclarationFollows.{Leads, led, through}
use Rattle.page_tokens.proofs.StandardSteps.{by_bool, by_entry, in_its_state, taking}
use Rattle.page_tokens.proofs.Switches.{HoldsAlso, ReadsNothingAhead}
use Rattle.page_tokens.proofs.TagNames.{HoldsDraft, differs}
use Rattle.page_tokens.proofs.TagSteps.{IsNameLetter}

-- ---- entries of the table

-- in this state, the character takes the entry that does this
abbrev pub Entry : StandardState → ℕ → List Act → Then → Type 0
Entry s c acts goes = (b : Bool) (m : Machine) (rest : List ℕ) → taken b (at_state m s) (c ∷ rest) (entries s) ≡ taking acts goes (c ∷ [])

-- the character leads from one state to another
abbrev pub Over : StandardState → StandardState → ℕ → Type 0
Over s to c = (b : Bool) (m : Machine) (rest : List ℕ) → Goes (at_state m s) (c ∷ rest) [] (at_state m to) rest

pub switched : (s to : StandardState) (c : ℕ) → Entry s c [] (Switch to) → Over s to c
switched s to c entry b m rest = by_entry (at_state m s) (c ∷ rest) (taking [] (Switch to) (c ∷ [])) (λ x. entry x m rest) refl

pub stayed : (s : StandardState) (c : ℕ) → Entry s c [] Stay → Over s s c
stayed s c entry b m rest = by_entry (at_state m s) (c ∷ rest) (taking [] Stay (c ∷ [])) (λ x. entry x m rest) refl

-- ---- kinds of characters

-- a space, `/` and `>`
pub ends_cases : (P : ℕ → Type 0) (c : ℕ) → ends_name_of c ≡ true → P 9 → P 10 → P 12 → P 32 → P 47 → P 62 → P c
ends_cases P c h p9 p10 p12 p32 p47 p62 =
    by_bool (λ e x. (x || e == 10 || e == 12 || e == 32 || e == 47 || e == 62) ≡ true → P e) c 9 (λ _. p9)
    (λ h9. by_bool (λ e x. (x || e == 12 || e == 32 || e == 47 || e == 62) ≡ true → P e) c 10 (λ _. p10)
    (λ h10. by_bool (λ e x. (x || e == 32 || e == 47 || e == 62) ≡ true → P e) c 12 (λ _. p12)
    (λ h12. by_bool (λ e x. (x || e == 47 || e == 62) ≡ true → P e) c 32 (λ _. p32)
    (λ h32. by_bool (λ e x. (x || e == 62) ≡ true → P e) c 47 (λ _. p47)
    (λ h47. by_bool (λ e x. x ≡ true → P e) c 62 (λ _. p62) (λ h62 f. absurd (cc))))))) h

pub no_end : (c : ℕ) → ends_name_of c ≡ false → IsNameLetter c
no_end c h = record {
  tab = differs ends_name_of 9 c h refl;
  line_feed = differs ends_name_of 10 c h refl;
  form_feed = differs ends_name_of 12 c h refl;
  space = differs ends_name_of 32 c h refl;
  slash = differs ends_name_of 47 c h refl;
  greater = differs ends_name_of 62 c h refl;
}

-- ---- the machine stands in front of the character

-- only errors changed
abbrev pub OnlyErrors : Tokenizer → Tokenizer → Type 0
OnlyErrors old mid = mid ≡ record old { errors = mid.errors; refused = mid.refused }

at_front : (old new : Tokenizer) (from : State) (c : ℕ) (m : Machine) (ahead rest left : List ℕ) → old.state ≡ from → Stands old ahead m → ReadsNothingAhead from →
    (Stands old [] m → Leads old new (at_state m (state_of from)) (c ∷ rest) left) → Leads old new m (ahead ++ (c ∷ []) ++ rest) left
at_front old new from c m ahead rest left is stands nothing leads =
    let none : ahead ≡ [] = nothing old ahead m (subst (λ s. Held s old ahead m) is stands.held) in
    let at : at_state m (state_of from) ≡ m = in_its_state m (state_of from) (stands.state ∙ ap state_of is) in
    subst (λ front. Leads old new m (front ++ (c ∷ []) ++ rest) left) (sym none) (subst (λ k. Leads old new k (c ∷ rest) left) at (leads (subst (λ a. Stands old a m) none stands)))

-- the character is read
pub moves : (old new : Tokenizer) (from : State) (c : ℕ) (told : Option TokenKind) → old.state ≡ from → old.refused ≡ false → Leaves old new → text_of new ≡ text_of old → told ≡ None → ReadsNothingAhead from →
    ((m : Machine) (rest : List ℕ) → Stands old [] m → Leads old new (at_state m (state_of from)) (c ∷ rest) rest) → FollowsStandard old new (c ∷ []) told
moves old new from c told is memory leaves text told_is nothing leads =
    subst (λ k. FollowsStandard old new (c ∷ []) k) (sym told_is) (led old new (c ∷ []) memory leaves text (λ m ahead rest stands. at_front old new from c m ahead rest rest is stands nothing (leads m rest)))

-- the character is read again
pub moves_before : (old mid new : Tokenizer) (from : State) (c : ℕ) (told : Option TokenKind) → old.state ≡ from → Remembers old mid → Leaves old mid → text_of mid ≡ text_of old → ReadsNothingAhead from →
    ((m : Machine) (rest : List ℕ) → Stands old [] m → Leads old mid (at_state m (state_of from)) (c ∷ rest) (c ∷ rest)) → FollowsStandard mid new (c ∷ []) told → FollowsStandard old new (c ∷ []) told
moves_before old mid new from c told is remembers leaves text nothing leads follows =
    through old mid new (c ∷ []) told remembers leaves text (λ m ahead rest stands. at_front old mid from c m ahead rest (c ∷ rest) is stands nothing (leads m rest)) follows

-- the character only changes the state, and errors
pub switches_on : (old new : Tokenizer) (from to : State) (c : ℕ) (told : Option TokenKind) → old.state ≡ from → new ≡ record old { state = to; errors = new.errors; refused = new.refused } → old.refused ≡ false → told ≡ None →
    Over (state_of from) (state_of to) c → ReadsNothingAhead from → HoldsAlso from to → FollowsStandard old new (c ∷ []) told
switches_on old new from to c told is only memory told_is over nothing also =
    moves old new from c told is memory (record { in_foreign = ap (λ t. t.in_foreign) only; after_return = ap (λ t. t.after_return) only }) (ap text_of only) told_is nothing (λ m rest stands.
    let n : Machine = at_state m (state_of to) in
    let held : Held from old [] m = subst (λ s. Held s old [] m) is stands.held in
    record {
      machine = n;
      goes = over old.in_foreign m rest;
      stands = subst (λ t. Stands t [] n) (sym only) (record { reference = stands.reference; state = refl; last_start = stands.last_start; held = also old new [] m held });
    })

-- the character changes nothing
pub stays_on : (old : Tokenizer) (from : State) (c : ℕ) → old.state ≡ from → Over (state_of from) (state_of from) c → ReadsNothingAhead from → HoldsAlso from from → old.refused ≡ false → FollowsStandard old old (c ∷ []) None
stays_on old from c is over nothing also none = switches_on old old from from c None is (ap {A = State} (λ s. record old { state = s }) is) none refl over nothing also

-- ---- a tag is emitted

-- at `>` the standard emits what is `made` of its current tag
abbrev pub EmitsOver : StandardState → (StandardTag → StandardTag) → Type 0
EmitsOver s made = (b : Bool) (m : Machine) (rest : List ℕ) →
    Goes (at_state m s) (62 ∷ rest) (token_of (made m.tag) ∷ []) (record m { state = there.Data; tag = made m.tag; last_start = last_start_of (made m.tag) m.last_start }) rest

-- the tag is emitted as it is
abbrev pub as_it_is : StandardTag → StandardTag
as_it_is one = one

pub emitted_plain : (s : StandardState) → Entry s 62 (EmitTag ∷ []) (Switch there.Data) → EmitsOver s as_it_is
emitted_plain s entry b m rest = by_entry (at_state m s) (62 ∷ rest) (taking (EmitTag ∷ []) (Switch there.Data) (62 ∷ [])) (λ x. entry x m rest) refl

-- `mid` has what the standard emits, which is `made` of its current tag
pub emitted_on : (old mid new : Tokenizer) (from : State) (made : StandardTag → StandardTag) (told : Option TokenKind) → old.state ≡ from → mid ≡ record old { tag = mid.tag; errors = mid.errors; refused = mid.refused } → Remembers old mid →
    ((one : StandardTag) → IsDraft old.tag one → IsDraft mid.tag (made one)) → Keeps mid new → (0 < length (string_bytes mid.tag.name) → EmitsTag mid new told) →
    EmitsOver (state_of from) made → ReadsNothingAhead from → HoldsDraft from → FollowsStandard old new (62 ∷ []) told
emitted_on old mid new from made told is only remembers is_draft keeps named_emits goes nothing drafted = record {
  memory = remembers keeps.memory;
  leaves = record { in_foreign = keeps.leaves.in_foreign ∙ ap (λ t. t.in_foreign) only; after_return = keeps.leaves.after_return ∙ ap (λ t. t.after_return) only };
  reads = λ m ahead rest stands.
      let held : Held from old ahead m = subst (λ s. Held s old ahead m) is stands.held in
      let draft : IsDraft mid.tag (made m.tag) = is_draft m.tag (drafted old ahead m held) in
      let emits : EmitsTag mid new told = named_emits draft.named in
      let b : Bool = old.in_foreign in
      let n : Machine = record m { state = there.Data; tag = made m.tag; last_start = last_start_of (made m.tag) m.last_start } in
      let at : m.state ≡ state_of from = stands.state ∙ ap state_of is in
      let started : IsLast mid.last_start m.last_start = subst (λ (t : Tokenizer). IsLast t.last_start m.last_start) (sym only) stands.last_start in
      record {
        machine = n;
        ahead' = [];
        characters = [];
        tokens = token_of (made m.tag) ∷ [];
        goes = subst (λ front. Goes m (front ++ (62 ∷ []) ++ rest) (token_of (made m.tag) ∷ []) n rest) (sym (nothing old ahead m held))
            (subst (λ k. Goes k (62 ∷ rest) (token_of (made m.tag) ∷ []) n rest) (in_its_state m (state_of from) at) (goes b m rest));
        holds = inl (record {
          reference = emits.same_reference ∙ ap (λ t. t.reference) only ∙ stands.reference;
          state = ap state_of (sym emits.now_state);
          last_start = emits.last_start (made m.tag) draft m.last_start started;
          held = subst (λ s. Held s new [] n) (sym emits.now_state) refl;
        });
        text = emits.text ∙ ap text_of only ∙ sym (append-nil (text_of old));
        ends = subst (λ k. Told k new (token_of (made m.tag) ∷ [])) (sym emits.told_is) (made m.tag, refl, emits.last_tag (made m.tag) draft);
      };
}
