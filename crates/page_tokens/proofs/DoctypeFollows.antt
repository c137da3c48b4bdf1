-- The tokenizer reads doctypes as the standard does.
use Rattle.std.specs.Prelude.{◌≡◌, ℕ, Bool, true, false, List, [], ◌∷◌, ◌++◌, Option, None, Some, String, Result, Ok, Err, IfOk, OnOk, string_bytes, refl}
use Rattle.std.proofs.Common.{inl}
use Rattle.std.specs.Char.{encode_utf8, to_ascii_lowercase}
use Rattle.std.specs.Option.{IsSomeAnd}
use Rattle.std.specs.Str.{encode_utf8_all}
use Rattle.std.proofs.lemmas.List.{append-nil, append_assoc}
use mathlib.Core.Path.{◌∙◌, sym, ap, subst}
use Rattle.standard_tokens.specs.Machine.{Machine, no_doctype, with_more}
use Rattle.standard_tokens.specs.States as there
use Rattle.standard_tokens.specs.States.{State as StandardState}
use Rattle.standard_tokens.specs.Tokens.{Doctype as StandardDoctype, ADoctype}
use Rattle.page_tokens.specs.Changes.{Remembers}
use Rattle.page_tokens.specs.Comments.{shown_of}
use Rattle.page_tokens.specs.DoctypeSteps.{AddsTo, AddsToId, AddsToName, BeginsId, BeginsName, broken, doctype_step_of}
use Rattle.page_tokens.specs.Reading.{text_of}
use Rattle.page_tokens.specs.Standard.{DoctypeHeld, Follows, FollowsStandard, Goes, Held, IsDoctype, IsLast, IsNoDoctype, MaySpell, stays}
use Rattle.page_tokens.specs.StandardStates.{doctype_state_of, state_of}
use Rattle.page_tokens.specs.declared.token.Doctype.{Doctype}
use Rattle.page_tokens.specs.declared.token.TokenKind.{TokenKind}
use Rattle.page_tokens.specs.declared.token.TokenKind.TheVariants as token
use Rattle.page_tokens.specs.declared.tokenizer.Tokenizer.{Tokenizer}
use Rattle.page_tokens.specs.declared.tokenizer.doctypes.DoctypeStep.TheVariants as its
use Rattle.page_tokens.specs.declared.tokenizer.state.DoctypeState.{DoctypeState}
use Rattle.page_tokens.specs.declared.tokenizer.state.DoctypeState.TheVariants as doctype
use Rattle.page_tokens.specs.declared.tokenizer.state.Id.{Id}
use Rattle.page_tokens.specs.declared.tokenizer.state.Id.TheVariants as id
use Rattle.page_tokens.specs.declared.tokenizer.state.Quote.{Quote}
use Rattle.page_tokens.specs.declared.tokenizer.state.State.{State}
use Rattle.page_tokens.specs.declared.tokenizer.state.State.TheVariants as state
use Rattle.page_tokens.proofs.DeclarationFollows.{led, one_more}
use Rattle.page_tokens.proofs.DoctypeSteps.{Comes, IsAhead, at, broken_there, comes, holding, id_of, made_at, with_id}
use Rattle.page_tokens.proofs.StandardSteps.{in_its_state}
use Rattle.page_tokens.proofs.TextFollows.{OnlyErrors}

-- ---- what is held

is_ahead : (inner : DoctypeState) (t : Tokenizer) (ahead : List ℕ) (m : Machine) → DoctypeHeld inner t ahead m → IsAhead inner ahead
is_ahead doctype.Begin t ahead m held = held.0
is_ahead doctype.BeforeName t ahead m held = held.0
is_ahead doctype.Name t ahead m held = held.0
is_ahead doctype.AfterName t ahead m held = held.0
is_ahead (doctype.Keyword which n) t ahead m held = held.0
is_ahead (doctype.AfterKeyword which) t ahead m held = held.0
is_ahead (doctype.BeforeId which) t ahead m held = held.0
is_ahead (doctype.Quoted which mark) t ahead m held = held.0
is_ahead (doctype.AfterId which) t ahead m held = held.0
is_ahead doctype.BetweenIds t ahead m held = held.0
is_ahead doctype.Bogus t ahead m held = held.0

may_none : {A : Type 0} (text : Option (String A)) → text ≡ None → MaySpell text None
may_none text e = subst (λ t. MaySpell t None) (sym e) tt

is_none : (one : Doctype) → IsNoDoctype one → IsDoctype one no_doctype
is_none one is = record { name = may_none one.name is.name; public_id = may_none one.public_id is.public_id; system_id = may_none one.system_id is.system_id; force_quirks = is.force_quirks }

is_made : (inner : DoctypeState) (t : Tokenizer) (ahead : List ℕ) (m : Machine) → DoctypeHeld inner t ahead m → IsDoctype t.doctype (made_at inner m.doctype)
is_made doctype.Begin t ahead m held = is_none t.doctype held.1
is_made doctype.BeforeName t ahead m held = is_none t.doctype held.1
is_made doctype.Name t ahead m held = held.1
is_made doctype.AfterName t ahead m held = held.1
is_made (doctype.Keyword which n) t ahead m held = held.1
is_made (doctype.AfterKeyword which) t ahead m held = held.1
is_made (doctype.BeforeId which) t ahead m held = held.1
is_made (doctype.Quoted which mark) t ahead m held = held.1
is_made (doctype.AfterId which) t ahead m held = held.1
is_made doctype.BetweenIds t ahead m held = held.1
is_made doctype.Bogus t ahead m held = held.1

is_broken : (breaks : Bool) (one : Doctype) (other : StandardDoctype) → IsDoctype one other → IsDoctype (broken breaks one) (broken_there breaks other)
is_broken true one other is = record { name = is.name; public_id = is.public_id; system_id = is.system_id; force_quirks = refl }
is_broken false one other is = is

-- ---- the doctype goes on

-- the doctype at which the machine arrives
record Arrives (b : Bool) (new : Tokenizer) (next : DoctypeState) (m : Machine) (text rest : List ℕ) : Type 0 where
  pub doctype : StandardDoctype
  pub goes : Goes m text [] (holding m (doctype_state_of next) doctype) rest
  pub held : DoctypeHeld next new [] (holding m (doctype_state_of next) doctype)

went_on : (old new : Tokenizer) (inner next : DoctypeState) (c : ℕ) (told : Option TokenKind) → old.state ≡ state.Doctype inner → old.refused ≡ false →
    new ≡ record old { state = state.Doctype next; doctype = new.doctype; errors = new.errors; refused = new.refused } → told ≡ None →
    ((b : Bool) (m : Machine) (ahead rest : List ℕ) → DoctypeHeld inner old ahead m → Arrives b new next (at inner m) (ahead ++ c ∷ rest) rest) → FollowsStandard old new (c ∷ []) told
went_on old new inner next c told is memory only told_is arrives =
    subst (λ k. FollowsStandard old new (c ∷ []) k) (sym told_is)
    (led old new (c ∷ []) memory (record { in_foreign = ap (λ t. t.in_foreign) only; after_return = ap (λ t. t.after_return) only }) (ap text_of only) (λ m ahead rest stands.
    let held : DoctypeHeld inner old ahead m = subst (λ s. Held s old ahead m) is stands.held in
    let b : Bool = old.in_foreign in
    let to : Arrives b new next (at inner m) (ahead ++ c ∷ rest) rest = arrives b m ahead rest held in
    let n : Machine = holding m (doctype_state_of next) to.doctype in
    let new_state : new.state ≡ state.Doctype next = ap (λ t. t.state) only in
    record {
      machine = n;
      goes = subst (λ text. Goes m text [] n rest) (sym (append_assoc ahead (c ∷ []) rest))
          (subst (λ k. Goes k (ahead ++ c ∷ rest) [] n rest) (in_its_state m (doctype_state_of inner) (stands.state ∙ ap state_of is)) to.goes);
      stands = record {
        reference = ap (λ t. t.reference) only ∙ stands.reference;
        state = ap state_of (sym new_state);
        last_start = subst (λ t. IsLast t.last_start m.last_start) (sym only) stands.last_start;
        held = subst (λ s. Held s new [] n) (sym new_state) to.held;
      };
    }))

-- the same behind an error
behind_error : (old mid new : Tokenizer) (next : DoctypeState) (one : Doctype) → OnlyErrors old mid → new ≡ record mid { state = state.Doctype next; doctype = one; errors = new.errors; refused = new.refused } →
    new ≡ record old { state = state.Doctype next; doctype = new.doctype; errors = new.errors; refused = new.refused }
behind_error old mid new next one only new_is =
    new_is ∙ ap {A = Tokenizer} (λ t. record t { state = state.Doctype next; doctype = one; errors = new.errors; refused = new.refused }) only
    ∙ ap {A = Doctype} (λ d. record old { state = state.Doctype next; doctype = d; errors = new.errors; refused = new.refused }) (sym (ap (λ t. t.doctype) new_is))

-- what is held does not depend on the state
same_held : (next : DoctypeState) (old mid : Tokenizer) (s : State) (k : StandardState) (m : Machine) → DoctypeHeld next old [] m →
    DoctypeHeld next (record old { state = s; errors = mid.errors; refused = mid.refused }) [] (holding m k m.doctype)
same_held doctype.Begin old mid s k m held = held
same_held doctype.BeforeName old mid s k m held = held
same_held doctype.Name old mid s k m held = held
same_held doctype.AfterName old mid s k m held = held
same_held (doctype.Keyword which n) old mid s k m held = held
same_held (doctype.AfterKeyword which) old mid s k m held = held
same_held (doctype.BeforeId which) old mid s k m held = held
same_held (doctype.Quoted which mark) old mid s k m held = held
same_held (doctype.AfterId which) old mid s k m held = held
same_held doctype.BetweenIds old mid s k m held = held
same_held doctype.Bogus old mid s k m held = held

pub then_arm : {E : Type 0} (old mid new : Tokenizer) (inner next : DoctypeState) (c : ℕ) (r : Result (Option TokenKind) E) → old.state ≡ state.Doctype inner → OnlyErrors old mid → Remembers old mid →
    its.Then next ≡ doctype_step_of inner c → new ≡ record mid { state = state.Doctype next } → IfOk r (λ told. told ≡ None) → Follows old new (c ∷ []) r
then_arm old mid new inner next c (Ok told) is only remembers came new_is told_is = λ none.
    let new_of : new ≡ record old { state = state.Doctype next; errors = mid.errors; refused = mid.refused } = new_is ∙ ap {A = Tokenizer} (λ t. record t { state = state.Doctype next }) only in
    let made : Tokenizer = record old { state = state.Doctype next; errors = mid.errors; refused = mid.refused } in
    subst (λ t. FollowsStandard old t (c ∷ []) told) (sym new_of)
    (went_on old made inner next c told is (remembers (sym (ap (λ t. t.refused) new_is) ∙ none)) refl told_is (λ b m ahead rest held.
    let steps : Comes b inner m ahead rest c (its.Then next) = subst (Comes b inner m ahead rest c) (sym came) (comes inner b m ahead rest c (is_ahead inner old ahead m held)) in
    record { doctype = m.doctype; goes = steps.0; held = same_held next old mid (state.Doctype next) (doctype_state_of next) m (steps.1 old ahead m held) }))
then_arm old mid new inner next c (Err e) is only remembers came new_is told_is = tt

pub letter_arm : {E : Type 0} (old mid new : Tokenizer) (inner : DoctypeState) (which : Id) (n c : ℕ) (r : Result (Option TokenKind) E) → old.state ≡ state.Doctype inner → OnlyErrors old mid → Remembers old mid →
    its.Letter which n ≡ doctype_step_of inner c → new ≡ record mid { state = state.Doctype (doctype.Keyword which n) } → IfOk r (λ told. told ≡ None) → Follows old new (c ∷ []) r
letter_arm old mid new inner which n c (Ok told) is only remembers came new_is told_is = λ none.
    let made : Tokenizer = record old { state = state.Doctype (doctype.Keyword which n); errors = mid.errors; refused = mid.refused } in
    let new_of : new ≡ made = new_is ∙ ap {A = Tokenizer} (λ t. record t { state = state.Doctype (doctype.Keyword which n) }) only in
    subst (λ t. FollowsStandard old t (c ∷ []) told) (sym new_of) (subst (λ k. FollowsStandard old made (c ∷ []) k) (sym told_is) (record {
      memory = remembers (sym (ap (λ t. t.refused) new_is) ∙ none);
      leaves = record { in_foreign = refl; after_return = refl };
      reads = λ m ahead rest stands.
          let held : DoctypeHeld inner old ahead m = subst (λ s. Held s old ahead m) is stands.held in
          let b : Bool = old.in_foreign in
          let steps : Comes b inner m ahead rest c (its.Letter which n) = subst (Comes b inner m ahead rest c) (sym came) (comes inner b m ahead rest c (is_ahead inner old ahead m held)) in
          record {
            machine = m;
            ahead' = ahead ++ c ∷ [];
            characters = [];
            tokens = [];
            goes = stays;
            holds = inl (record { reference = stands.reference; state = stands.state ∙ ap state_of is ∙ steps.0; last_start = stands.last_start; held = (steps.2, subst (IsDoctype old.doctype) (steps.1 m.doctype) (is_made inner old ahead m held)) });
            text = sym (append-nil (text_of old));
            ends = refl;
          };
    }))
letter_arm old mid new inner which n c (Err e) is only remembers came new_is told_is = tt

pub malformed_arm : {E : Type 0} (old mid new : Tokenizer) (inner : DoctypeState) (breaks : Bool) (c : ℕ) (r : Result (Option TokenKind) E) → old.state ≡ state.Doctype inner → OnlyErrors old mid → Remembers old mid →
    its.Malformed breaks ≡ doctype_step_of inner c →
    new ≡ record mid { state = state.Doctype doctype.Bogus; doctype = broken breaks mid.doctype; errors = new.errors; refused = new.refused } → Remembers mid new → IfOk r (λ told. told ≡ None) → Follows old new (c ∷ []) r
malformed_arm old mid new inner breaks c (Ok told) is only remembers came new_is keeps told_is = λ none.
    let doctype_is : new.doctype ≡ broken breaks old.doctype = ap (λ t. t.doctype) new_is ∙ ap (λ t. broken breaks t.doctype) only in
    went_on old new inner doctype.Bogus c told is (remembers (keeps none)) (behind_error old mid new doctype.Bogus (broken breaks mid.doctype) only new_is) told_is (λ b m ahead rest held.
    let steps : Comes b inner m ahead rest c (its.Malformed breaks) = subst (Comes b inner m ahead rest c) (sym came) (comes inner b m ahead rest c (is_ahead inner old ahead m held)) in
    record {
      doctype = broken_there breaks (made_at inner m.doctype);
      goes = steps;
      held = (refl, subst (λ d. IsDoctype d (broken_there breaks (made_at inner m.doctype))) (sym doctype_is) (is_broken breaks old.doctype (made_at inner m.doctype) (is_made inner old ahead m held)));
    })
malformed_arm old mid new inner breaks c (Err e) is only remembers came new_is keeps told_is = tt

-- ---- the doctype ends

pub ends_arm : {E : Type 0} (old mid new : Tokenizer) (inner : DoctypeState) (breaks : Bool) (c : ℕ) (r : Result (Option TokenKind) E) → old.state ≡ state.Doctype inner → OnlyErrors old mid → Remembers old mid →
    its.Ends breaks ≡ doctype_step_of inner c → new ≡ record mid { state = state.Data; doctype = broken breaks mid.doctype } → IfOk r (λ told. told ≡ Some token.Doctype) → Follows old new (c ∷ []) r
ends_arm old mid new inner breaks c (Ok told) is only remembers came new_is told_is = λ none.
    let made : Tokenizer = record old { state = state.Data; doctype = broken breaks old.doctype; errors = mid.errors; refused = mid.refused } in
    let new_of : new ≡ made = new_is ∙ ap {A = Tokenizer} (λ t. record t { state = state.Data; doctype = broken breaks t.doctype }) only in
    subst (λ t. FollowsStandard old t (c ∷ []) told) (sym new_of) (subst (λ k. FollowsStandard old made (c ∷ []) k) (sym told_is) (record {
      memory = remembers (sym (ap (λ t. t.refused) new_is) ∙ none);
      leaves = record { in_foreign = refl; after_return = refl };
      reads = λ m ahead rest stands.
          let held : DoctypeHeld inner old ahead m = subst (λ s. Held s old ahead m) is stands.held in
          let b : Bool = old.in_foreign in
          let one : StandardDoctype = broken_there breaks (made_at inner m.doctype) in
          let n : Machine = holding m there.Data one in
          let steps : Goes (at inner m) (ahead ++ c ∷ rest) (ADoctype one ∷ []) n rest = subst (Comes b inner m ahead rest c) (sym came) (comes inner b m ahead rest c (is_ahead inner old ahead m held)) in
          record {
            machine = n;
            ahead' = [];
            characters = [];
            tokens = ADoctype one ∷ [];
            goes = subst (λ text. Goes m text (ADoctype one ∷ []) n rest) (sym (append_assoc ahead (c ∷ []) rest))
                (subst (λ k. Goes k (ahead ++ c ∷ rest) (ADoctype one ∷ []) n rest) (in_its_state m (doctype_state_of inner) (stands.state ∙ ap state_of is)) steps);
            holds = inl (record { reference = stands.reference; state = refl; last_start = stands.last_start; held = refl });
            text = sym (append-nil (text_of old));
            ends = (one, refl, is_broken breaks old.doctype (made_at inner m.doctype) (is_made inner old ahead m held));
          };
    }))
ends_arm old mid new inner breaks c (Err e) is only remembers came new_is told_is = tt

-- ---- names and identifiers

begun : {A : Type 0} (text : Option (String A)) (cs : List ℕ) → IsSomeAnd text (λ t. string_bytes t ≡ encode_utf8_all cs) → MaySpell text (Some cs)
begun None cs is = absurd is
begun (Some text) cs is = is

one_letter : {A : Type 0} (text : Option (String A)) (c : ℕ) → IsSomeAnd text (λ t. string_bytes t ≡ encode_utf8 c) → MaySpell text (Some (c ∷ []))
one_letter None c is = absurd is
one_letter (Some text) c is = is ∙ sym (append-nil (encode_utf8 c))

added : {A : Type 0} (old new : Option (String A)) (cs : Option (List ℕ)) (c : ℕ) → MaySpell old cs → AddsTo old new c → MaySpell new (with_more cs (c ∷ []))
added None None cs c spells adds = absurd adds
added None (Some new) None c spells adds = adds ∙ sym (append-nil (encode_utf8 c))
added None (Some new) (Some cs) c spells adds = absurd spells
added (Some old) None cs c spells adds = absurd adds
added (Some old) (Some new) None c spells adds = absurd spells
added (Some old) (Some new) (Some cs) c spells adds = one_more (string_bytes new) (string_bytes old) cs c adds spells

with_name : (one new : Doctype) (other : StandardDoctype) (name : Option (List ℕ)) → new ≡ record one { name = new.name } → IsDoctype one other → MaySpell new.name name → IsDoctype new (record other { name = name })
with_name one new other name only is spells =
    subst (λ d. IsDoctype d (record other { name = name })) (sym only) (record { name = spells; public_id = is.public_id; system_id = is.system_id; force_quirks = is.force_quirks })

pub with_public : (one new : Doctype) (other : StandardDoctype) (text : Option (List ℕ)) → new ≡ record one { public_id = new.public_id } → IsDoctype one other → MaySpell new.public_id text →
    IsDoctype new (record other { public_id = text })
with_public one new other text only is spells =
    subst (λ d. IsDoctype d (record other { public_id = text })) (sym only) (record { name = is.name; public_id = spells; system_id = is.system_id; force_quirks = is.force_quirks })

pub with_system : (one new : Doctype) (other : StandardDoctype) (text : Option (List ℕ)) → new ≡ record one { system_id = new.system_id } → IsDoctype one other → MaySpell new.system_id text →
    IsDoctype new (record other { system_id = text })
with_system one new other text only is spells =
    subst (λ d. IsDoctype d (record other { system_id = text })) (sym only) (record { name = is.name; public_id = is.public_id; system_id = spells; force_quirks = is.force_quirks })

same_doctype : (old mid : Tokenizer) → OnlyErrors old mid → mid.doctype ≡ old.doctype
same_doctype old mid only = ap (λ t. t.doctype) only

pub name_begins_arm : {E : Type 0} (old mid new : Tokenizer) (inner : DoctypeState) (c : ℕ) (r : Result (Option TokenKind) E) → old.state ≡ state.Doctype inner → OnlyErrors old mid → Remembers old mid →
    its.NameBegins ≡ doctype_step_of inner c → OnOk r (BeginsName mid new c) → Remembers mid new → IfOk r (λ told. told ≡ None) → Follows old new (c ∷ []) r
name_begins_arm old mid new inner c (Ok told) is only remembers came begins keeps told_is = λ none.
    let d : ℕ = shown_of (to_ascii_lowercase c) in
    went_on old new inner doctype.Name c told is (remembers (keeps none)) (behind_error old mid new doctype.Name (record mid.doctype { name = new.doctype.name }) only begins.only) told_is (λ b m ahead rest held.
    let steps : Comes b inner m ahead rest c its.NameBegins = subst (Comes b inner m ahead rest c) (sym came) (comes inner b m ahead rest c (is_ahead inner old ahead m held)) in
    let before : IsDoctype mid.doctype no_doctype = subst (λ d. IsDoctype d no_doctype) (sym (same_doctype old mid only)) (subst (IsDoctype old.doctype) (steps.1 m.doctype) (is_made inner old ahead m held)) in
    record {
      doctype = record no_doctype { name = Some (d ∷ []) };
      goes = steps.0;
      held = (refl, with_name mid.doctype new.doctype no_doctype (Some (d ∷ [])) (ap (λ t. t.doctype) begins.only) before (one_letter new.doctype.name d begins.name));
    })
name_begins_arm old mid new inner c (Err e) is only remembers came begins keeps told_is = tt

-- the state stays
stays_in : (old mid new : Tokenizer) (inner : DoctypeState) (one : Doctype) → old.state ≡ state.Doctype inner → OnlyErrors old mid → new ≡ record mid { doctype = one; errors = new.errors; refused = new.refused } →
    new ≡ record old { state = state.Doctype inner; doctype = new.doctype; errors = new.errors; refused = new.refused }
stays_in old mid new inner one is only new_is =
    let mid_state : mid.state ≡ state.Doctype inner = ap (λ t. t.state) only ∙ is in
    behind_error old mid new inner one only (new_is ∙ ap {A = State} (λ s. record mid { state = s; doctype = one; errors = new.errors; refused = new.refused }) mid_state)

pub name_letter_arm : {E : Type 0} (old mid new : Tokenizer) (inner : DoctypeState) (c : ℕ) (r : Result (Option TokenKind) E) → old.state ≡ state.Doctype inner → OnlyErrors old mid → Remembers old mid →
    its.NameLetter ≡ doctype_step_of inner c → OnOk r (AddsToName mid new c) → Remembers mid new → IfOk r (λ told. told ≡ None) → Follows old new (c ∷ []) r
name_letter_arm old mid new inner c (Ok told) is only remembers came adds keeps told_is = λ none.
    let d : ℕ = shown_of (to_ascii_lowercase c) in
    went_on old new inner inner c told is (remembers (keeps none)) (stays_in old mid new inner (record mid.doctype { name = new.doctype.name }) is only adds.only) told_is (λ b m ahead rest held.
    let steps : Comes b inner m ahead rest c its.NameLetter = subst (Comes b inner m ahead rest c) (sym came) (comes inner b m ahead rest c (is_ahead inner old ahead m held)) in
    let other : StandardDoctype = made_at inner m.doctype in
    let before : IsDoctype mid.doctype other = subst (λ k. IsDoctype k other) (sym (same_doctype old mid only)) (is_made inner old ahead m held) in
    let more : Option (List ℕ) = with_more other.name (d ∷ []) in
    let after : IsDoctype new.doctype (record other { name = more }) =
    with_name mid.doctype new.doctype other more (ap (λ t. t.doctype) adds.only) before (added mid.doctype.name new.doctype.name other.name d before.name adds.name) in
    record { doctype = record other { name = more }; goes = steps.0; held = steps.1 new (holding m (doctype_state_of inner) (record other { name = more })) after })
name_letter_arm old mid new inner c (Err e) is only remembers came adds keeps told_is = tt

-- an identifier begins
record IdBegins (mid new : Tokenizer) (which : Id) (mark : Quote) (other : StandardDoctype) : Type 0 where
  pub only : new ≡ record mid { state = state.Doctype (doctype.Quoted which mark); doctype = new.doctype }
  pub doctype : IsDoctype new.doctype (with_id which (Some []) other)

id_begins : (mid new : Tokenizer) (which : Id) (mark : Quote) (other : StandardDoctype) → BeginsId which mark mid new → IsDoctype mid.doctype other → IdBegins mid new which mark other
id_begins mid new id.Public mark other begins is =
    let doctype_is : new.doctype ≡ record mid.doctype { public_id = new.doctype.public_id } = ap (λ t. t.doctype) begins.0 in
    record {
      only = begins.0 ∙ ap {A = Doctype} (λ d. record mid { state = state.Doctype (doctype.Quoted id.Public mark); doctype = d }) (sym doctype_is);
      doctype = with_public mid.doctype new.doctype other (Some []) doctype_is is (begun new.doctype.public_id [] begins.1);
    }
id_begins mid new id.System mark other begins is =
    let doctype_is : new.doctype ≡ record mid.doctype { system_id = new.doctype.system_id } = ap (λ t. t.doctype) begins.0 in
    record {
      only = begins.0 ∙ ap {A = Doctype} (λ d. record mid { state = state.Doctype (doctype.Quoted id.System mark); doctype = d }) (sym doctype_is);
      doctype = with_system mid.doctype new.doctype other (Some []) doctype_is is (begun new.doctype.system_id [] begins.1);
    }

only_begins : (mid new : Tokenizer) (which : Id) (mark : Quote) → BeginsId which mark mid new → new ≡ record mid { state = state.Doctype (doctype.Quoted which mark); doctype = new.doctype }
only_begins mid new id.Public mark begins = begins.0 ∙ ap {A = Doctype} (λ d. record mid { state = state.Doctype (doctype.Quoted id.Public mark); doctype = d }) (sym (ap (λ t. t.doctype) begins.0))
only_begins mid new id.System mark begins = begins.0 ∙ ap {A = Doctype} (λ d. record mid { state = state.Doctype (doctype.Quoted id.System mark); doctype = d }) (sym (ap (λ t. t.doctype) begins.0))

quoted_holds : (which : Id) (mark : Quote) (t : Tokenizer) (m : Machine) → IsDoctype t.doctype m.doctype → DoctypeHeld (doctype.Quoted which mark) t [] m
quoted_holds which mark t m is = (refl, is)

pub id_begins_arm : {E : Type 0} (old mid new : Tokenizer) (inner : DoctypeState) (which : Id) (mark : Quote) (c : ℕ) (r : Result (Option TokenKind) E) → old.state ≡ state.Doctype inner → OnlyErrors old mid →
    Remembers old mid → its.IdBegins which mark ≡ doctype_step_of inner c → BeginsId which mark mid new → IfOk r (λ told. told ≡ None) → Follows old new (c ∷ []) r
id_begins_arm old mid new inner which mark c (Ok told) is only remembers came begins told_is = λ none.
    let new_is : new ≡ record mid { state = state.Doctype (doctype.Quoted which mark); doctype = new.doctype } = only_begins mid new which mark begins in
    let made : Tokenizer = record old { state = state.Doctype (doctype.Quoted which mark); doctype = new.doctype; errors = mid.errors; refused = mid.refused } in
    let new_of : new ≡ made = new_is ∙ ap {A = Tokenizer} (λ t. record t { state = state.Doctype (doctype.Quoted which mark); doctype = new.doctype }) only in
    subst (λ t. FollowsStandard old t (c ∷ []) told) (sym new_of)
    (went_on old made inner (doctype.Quoted which mark) c told is (remembers (sym (ap (λ t. t.refused) new_is) ∙ none)) refl told_is (λ b m ahead rest held.
    let steps : Comes b inner m ahead rest c (its.IdBegins which mark) = subst (Comes b inner m ahead rest c) (sym came) (comes inner b m ahead rest c (is_ahead inner old ahead m held)) in
    let other : StandardDoctype = made_at inner m.doctype in
    let before : IsDoctype mid.doctype other = subst (λ k. IsDoctype k other) (sym (same_doctype old mid only)) (is_made inner old ahead m held) in
    record {
      doctype = with_id which (Some []) other;
      goes = steps;
      held = quoted_holds which mark made (holding m (doctype_state_of (doctype.Quoted which mark)) (with_id which (Some []) other)) (id_begins mid new which mark other begins before).doctype;
    }))
id_begins_arm old mid new inner which mark c (Err e) is only remembers came begins told_is = tt

-- one more character of an identifier
id_adds : (mid new : Tokenizer) (which : Id) (c : ℕ) (other : StandardDoctype) → AddsToId which mid new c → IsDoctype mid.doctype other →
    IsDoctype new.doctype (with_id which (with_more (id_of which other) (shown_of c ∷ [])) other)
id_adds mid new id.Public c other adds is =
    with_public mid.doctype new.doctype other (with_more other.public_id (shown_of c ∷ [])) (ap (λ t. t.doctype) adds.0) is (added mid.doctype.public_id new.doctype.public_id other.public_id (shown_of c) is.public_id adds.1)
id_adds mid new id.System c other adds is =
    with_system mid.doctype new.doctype other (with_more other.system_id (shown_of c ∷ [])) (ap (λ t. t.doctype) adds.0) is (added mid.doctype.system_id new.doctype.system_id other.system_id (shown_of c) is.system_id adds.1)

only_adds : (mid new : Tokenizer) (which : Id) (c : ℕ) → AddsToId which mid new c → new ≡ record mid { doctype = new.doctype; errors = new.errors; refused = new.refused }
only_adds mid new id.Public c adds = adds.0 ∙ ap {A = Doctype} (λ d. record mid { doctype = d; errors = new.errors; refused = new.refused }) (sym (ap (λ t. t.doctype) adds.0))
only_adds mid new id.System c adds = adds.0 ∙ ap {A = Doctype} (λ d. record mid { doctype = d; errors = new.errors; refused = new.refused }) (sym (ap (λ t. t.doctype) adds.0))

pub id_letter_arm : {E : Type 0} (old mid new : Tokenizer) (inner : DoctypeState) (which : Id) (c : ℕ) (r : Result (Option TokenKind) E) → old.state ≡ state.Doctype inner → OnlyErrors old mid → Remembers old mid →
    its.IdLetter which ≡ doctype_step_of inner c → OnOk r (AddsToId which mid new c) → Remembers mid new → IfOk r (λ told. told ≡ None) → Follows old new (c ∷ []) r
id_letter_arm old mid new inner which c (Ok told) is only remembers came adds keeps told_is = λ none.
    went_on old new inner inner c told is (remembers (keeps none)) (stays_in old mid new inner new.doctype is only (only_adds mid new which c adds)) told_is (λ b m ahead rest held.
    let steps : Comes b inner m ahead rest c (its.IdLetter which) = subst (Comes b inner m ahead rest c) (sym came) (comes inner b m ahead rest c (is_ahead inner old ahead m held)) in
    let other : StandardDoctype = made_at inner m.doctype in
    let before : IsDoctype mid.doctype other = subst (λ k. IsDoctype k other) (sym (same_doctype old mid only)) (is_made inner old ahead m held) in
    let after : StandardDoctype = with_id which (with_more (id_of which other) (shown_of c ∷ [])) other in
    record { doctype = after; goes = steps.0; held = steps.1 new (holding m (doctype_state_of inner) after) (id_adds mid new which c other adds before) })
id_letter_arm old mid new inner which c (Err e) is only remembers came adds keeps told_is = tt
