-- What a character in a doctype does, in the standard.
use Rattle.std.specs.Prelude.{◌≡◌, ℕ, zero, suc, ◌<◌, ◌+◌, Bool, true, false, ◌==◌, ◌||◌, cond, List, [], ◌∷◌, ◌++◌, map, take, codes, Option, Some, refl}
use Rattle.std.proofs.Common.{arith}
use Rattle.std.specs.Char.{to_ascii_lowercase}
use Rattle.std.specs.List.{starts_with}
use Rattle.std.proofs.Math.Seq.{drop-append_seam}
use Rattle.std.proofs.lemmas.Bool.{eqb-true, eqb-false}
use Rattle.std.proofs.lemmas.List.{append_assoc}
use mathlib.Core.Path.{◌∙◌, sym, ap, subst}
use Rattle.standard_tokens.specs.Entries.{Act, Add, Current, DoctypeName, EmitDoctype, ForceQuirks, Lower, NewDoctype, Place, PublicId, Reconsume, SetEmpty, Stay, Switch, SystemId, What, replacement}
use Rattle.standard_tokens.specs.Machine.{Machine, at_state, characters, no_doctype, same_case_less, taken, with_more}
use Rattle.standard_tokens.specs.States as there
use Rattle.standard_tokens.specs.States.{State as StandardState}
use Rattle.standard_tokens.specs.Table.{entries}
use Rattle.standard_tokens.specs.Tokens.{Doctype as StandardDoctype, ADoctype}
use Rattle.page_tokens.specs.Comments.{shown_of}
use Rattle.page_tokens.specs.Declarations.{letter_is}
use Rattle.page_tokens.specs.DoctypeSteps.{after_name_of, before_id_of, doctype_step_of, ends_or_of, keyword_step_of, quoted_step_of, spaced_of}
use Rattle.page_tokens.specs.Runs.{is_space_of}
use Rattle.page_tokens.specs.Standard.{DoctypeHeld, Goes, IsDoctype, IsKeyword, keyword_of, stays}
use Rattle.page_tokens.specs.StandardStates.{doctype_state_of}
use Rattle.page_tokens.specs.declared.tokenizer.Tokenizer.{Tokenizer}
use Rattle.page_tokens.specs.declared.tokenizer.doctypes.DoctypeStep.{DoctypeStep}
use Rattle.page_tokens.specs.declared.tokenizer.doctypes.DoctypeStep.TheVariants as its
use Rattle.page_tokens.specs.declared.tokenizer.state.DoctypeState.{DoctypeState}
use Rattle.page_tokens.specs.declared.tokenizer.state.DoctypeState.TheVariants as doctype
use Rattle.page_tokens.specs.declared.tokenizer.state.Id.{Id}
use Rattle.page_tokens.specs.declared.tokenizer.state.Id.TheVariants as id
use Rattle.page_tokens.specs.declared.tokenizer.state.Quote.{Quote}
use Rattle.page_tokens.specs.declared.tokenizer.state.Quote.TheVariants as quote
use Rattle.page_tokens.proofs.DeclarationSteps.{AllThemselves, High, high_taken, lower_themselves}
use Rattle.page_tokens.proofs.ScriptSteps.{is_upper, stays_lower}
use Rattle.page_tokens.proofs.StandardSteps.{by_bool, by_entry, by_test, taking, then_on}
use Rattle.page_tokens.proofs.TagMoves.{Entry, Over, stayed, switched}
use Rattle.page_tokens.proofs.TagNames.{differs, space_cases}
use Rattle.page_tokens.proofs.WordSteps.{begins, extends, fails, map_snoc, taken_word}

-- ---- the machine in a doctype

abbrev pub at : DoctypeState → Machine → Machine
at inner m = at_state m (doctype_state_of inner)

abbrev pub holding : Machine → StandardState → StandardDoctype → Machine
holding m state one = record m { state = state; doctype = one }

abbrev pub broken_there : Bool → StandardDoctype → StandardDoctype
broken_there true one = record one { force_quirks = true }
broken_there false one = one

abbrev pub id_of : Id → StandardDoctype → Option (List ℕ)
id_of id.Public one = one.public_id
id_of id.System one = one.system_id

abbrev pub with_id : Id → Option (List ℕ) → StandardDoctype → StandardDoctype
with_id id.Public text one = record one { public_id = text }
with_id id.System text one = record one { system_id = text }

-- before its name, the doctype has not been made
abbrev pub made_at : DoctypeState → StandardDoctype → StandardDoctype
made_at doctype.Begin one = no_doctype
made_at doctype.BeforeName one = no_doctype
made_at _ one = one

abbrev pub IsAhead : DoctypeState → List ℕ → Type 0
IsAhead (doctype.Keyword which n) ahead = IsKeyword which n ahead
IsAhead _ ahead = ahead ≡ []

-- what is held in one state is held in the other
abbrev pub Passes : DoctypeState → DoctypeState → Type 0
Passes inner next = (t : Tokenizer) (ahead : List ℕ) (m : Machine) → DoctypeHeld inner t ahead m → DoctypeHeld next t [] m

-- in the state, the doctype has been made
abbrev pub IsMadeIn : DoctypeState → Type 0
IsMadeIn inner = (t : Tokenizer) (m : Machine) → IsDoctype t.doctype m.doctype → DoctypeHeld inner t [] m

-- what a character comes to, behind what was read ahead
abbrev pub Comes : Bool → DoctypeState → Machine → List ℕ → List ℕ → ℕ → DoctypeStep → Type 0
Comes b inner m ahead rest c (its.Then next) = Goes (at inner m) (ahead ++ c ∷ rest) [] (at next m) rest × Passes inner next
Comes b inner m ahead rest c its.NameBegins =
    Goes (at inner m) (ahead ++ c ∷ rest) [] (holding m there.DOCTYPEName (record no_doctype { name = Some (shown_of (to_ascii_lowercase c) ∷ []) })) rest
    × ((one : StandardDoctype) → made_at inner one ≡ no_doctype)
Comes b inner m ahead rest c its.NameLetter =
    Goes (at inner m) (ahead ++ c ∷ rest) [] (holding m (doctype_state_of inner) (record (made_at inner m.doctype) { name = with_more (made_at inner m.doctype).name (shown_of (to_ascii_lowercase c) ∷ []) })) rest
    × IsMadeIn inner
Comes b inner m ahead rest c (its.IdBegins which mark) = Goes (at inner m) (ahead ++ c ∷ rest) [] (holding m (doctype_state_of (doctype.Quoted which mark)) (with_id which (Some []) (made_at inner m.doctype))) rest
Comes b inner m ahead rest c (its.IdLetter which) =
    Goes (at inner m) (ahead ++ c ∷ rest) [] (holding m (doctype_state_of inner) (with_id which (with_more (id_of which (made_at inner m.doctype)) (shown_of c ∷ [])) (made_at inner m.doctype))) rest
    × IsMadeIn inner
Comes b inner m ahead rest c (its.Letter which n) = (doctype_state_of inner ≡ there.AfterDOCTYPEName) × ((one : StandardDoctype) → made_at inner one ≡ one) × IsKeyword which n (ahead ++ c ∷ [])
Comes b inner m ahead rest c (its.Ends breaks) =
    Goes (at inner m) (ahead ++ c ∷ rest) (ADoctype (broken_there breaks (made_at inner m.doctype)) ∷ []) (holding m there.Data (broken_there breaks (made_at inner m.doctype))) rest
Comes b inner m ahead rest c (its.Malformed breaks) = Goes (at inner m) (ahead ++ c ∷ rest) [] (holding m there.BogusDOCTYPE (broken_there breaks (made_at inner m.doctype))) rest

-- ---- white space

record NoSpace (c : ℕ) : Type 0 where
  pub tab : (9 == c) ≡ false
  pub line_feed : (10 == c) ≡ false
  pub form_feed : (12 == c) ≡ false
  pub space : (32 == c) ≡ false

no_space : (c : ℕ) → is_space_of c ≡ false → NoSpace c
no_space c h = record { tab = differs is_space_of 9 c h refl; line_feed = differs is_space_of 10 c h refl; form_feed = differs is_space_of 12 c h refl; space = differs is_space_of 32 c h refl }

spaced : (P : ℕ → DoctypeStep → Type 0) (next : DoctypeState) (c : ℕ) (other : DoctypeStep) → P 9 (its.Then next) → P 10 (its.Then next) → P 12 (its.Then next) → P 32 (its.Then next) → (NoSpace c → P c other) →
    P c (spaced_of next c other)
spaced P next c other p9 p10 p12 p32 otherwise = go (is_space_of c) refl
  where
    go : (x : Bool) → is_space_of c ≡ x → P c (cond x (its.Then next) other)
    go true e = space_cases (λ d. P d (its.Then next)) c e p9 p10 p12 p32
    go false e = otherwise (no_space c e)

-- white space leads from one state to the other
abbrev SpaceOver : StandardState → StandardState → Type 0
SpaceOver s to = Over s to 9 × Over s to 10 × Over s to 12 × Over s to 32

spaces_stay : (s : StandardState) → Entry s 9 [] Stay → Entry s 10 [] Stay → Entry s 12 [] Stay → Entry s 32 [] Stay → SpaceOver s s
spaces_stay s e9 e10 e12 e32 = (stayed s 9 e9, stayed s 10 e10, stayed s 12 e12, stayed s 32 e32)

spaces_switch : (s to : StandardState) → Entry s 9 [] (Switch to) → Entry s 10 [] (Switch to) → Entry s 12 [] (Switch to) → Entry s 32 [] (Switch to) → SpaceOver s to
spaces_switch s to e9 e10 e12 e32 = (switched s to 9 e9, switched s to 10 e10, switched s to 12 e12, switched s to 32 e32)

spaced_over : (inner next : DoctypeState) (b : Bool) (m : Machine) (rest : List ℕ) (c : ℕ) (other : DoctypeStep) → SpaceOver (doctype_state_of inner) (doctype_state_of next) → Passes inner next → (NoSpace c → Comes b inner m [] rest c other) →
    Comes b inner m [] rest c (spaced_of next c other)
spaced_over inner next b m rest c other over passes otherwise =
    spaced (λ d k. Comes b inner m [] rest d k) next c other (over.0 b m rest, passes) (over.1 b m rest, passes) (over.2 b m rest, passes) (over.3 b m rest, passes) otherwise

-- ---- the rest of a malformed doctype

bogus : (b : Bool) (m : Machine) (rest : List ℕ) (c : ℕ) (one : StandardDoctype) → (62 == c) ≡ false → Goes (holding m there.BogusDOCTYPE one) (c ∷ rest) [] (holding m there.BogusDOCTYPE one) rest
unfolding taken entries
bogus b m rest c one h62 =
    by_bool (λ e _. Goes (holding m there.BogusDOCTYPE one) (e ∷ rest) [] (holding m there.BogusDOCTYPE one) rest) c 0
    (by_entry (holding m there.BogusDOCTYPE one) (0 ∷ rest) (taking [] Stay (0 ∷ [])) (λ x. refl) refl)
    (λ h0. by_entry (holding m there.BogusDOCTYPE one) (c ∷ rest) (taking [] Stay (c ∷ [])) (λ x. rw (h62, h0) refl) refl)

-- ---- letters in lower case

lower_some : (c : ℕ) → (0 == c) ≡ false → (to_ascii_lowercase c == 0) ≡ false
lower_some c h = grind arith

shown_lower : (c : ℕ) → (0 == c) ≡ false → shown_of (to_ascii_lowercase c) ≡ to_ascii_lowercase c
shown_lower c h = ap (λ x. cond x 0xfffd (to_ascii_lowercase c)) (lower_some c h)

upper_some : (c : ℕ) → is_upper c ≡ true → (0 == c) ≡ false
upper_some c h = grind arith

name_begins : (b : Bool) (m : Machine) (rest : List ℕ) (c : ℕ) → NoSpace c → (62 == c) ≡ false → Goes (at doctype.BeforeName m) (c ∷ rest) [] (holding m there.DOCTYPEName (record no_doctype { name = Some (shown_of (to_ascii_lowercase c) ∷ []) })) rest
unfolding taken entries
name_begins b m rest c s h62 =
    by_bool (λ e _. Goes (at doctype.BeforeName m) (e ∷ rest) [] (holding m there.DOCTYPEName (record no_doctype { name = Some (shown_of (to_ascii_lowercase e) ∷ []) })) rest) c 0
    (by_entry (at doctype.BeforeName m) (0 ∷ rest) (taking (NewDoctype ∷ Add DoctypeName replacement ∷ []) (Switch there.DOCTYPEName) (0 ∷ [])) (λ x. refl) refl)
    (λ h0. subst (λ d. Goes (at doctype.BeforeName m) (c ∷ rest) [] (holding m there.DOCTYPEName (record no_doctype { name = Some (d ∷ []) })) rest) (sym (shown_lower c h0)) (go h0 (is_upper c) refl))
  where
    go : (0 == c) ≡ false → (x : Bool) → is_upper c ≡ x → Goes (at doctype.BeforeName m) (c ∷ rest) [] (holding m there.DOCTYPEName (record no_doctype { name = Some (to_ascii_lowercase c ∷ []) })) rest
    go h0 true e = by_entry (at doctype.BeforeName m) (c ∷ rest) (taking (NewDoctype ∷ Add DoctypeName Lower ∷ []) (Switch there.DOCTYPEName) (c ∷ [])) (λ x. rw (s.tab, s.line_feed, s.form_feed, s.space, h62, e) refl) refl
    go h0 false e =
        subst (λ d. Goes (at doctype.BeforeName m) (c ∷ rest) [] (holding m there.DOCTYPEName (record no_doctype { name = Some (d ∷ []) })) rest) (sym (stays_lower c e))
        (by_entry (at doctype.BeforeName m) (c ∷ rest) (taking (NewDoctype ∷ Add DoctypeName Current ∷ []) (Switch there.DOCTYPEName) (c ∷ [])) (λ x. rw (s.tab, s.line_feed, s.form_feed, s.space, h62, e, h0) refl) refl)

name_letter : (b : Bool) (m : Machine) (rest : List ℕ) (c : ℕ) → NoSpace c → (62 == c) ≡ false → Goes (at doctype.Name m) (c ∷ rest) [] (holding m there.DOCTYPEName (record m.doctype { name = with_more m.doctype.name (shown_of (to_ascii_lowercase c) ∷ []) })) rest
unfolding taken entries
name_letter b m rest c s h62 =
    by_bool (λ e _. Goes (at doctype.Name m) (e ∷ rest) [] (holding m there.DOCTYPEName (record m.doctype { name = with_more m.doctype.name (shown_of (to_ascii_lowercase e) ∷ []) })) rest) c 0
    (by_entry (at doctype.Name m) (0 ∷ rest) (taking (Add DoctypeName replacement ∷ []) (Stay) (0 ∷ [])) (λ x. refl) refl)
    (λ h0. subst (λ d. Goes (at doctype.Name m) (c ∷ rest) [] (holding m there.DOCTYPEName (record m.doctype { name = with_more m.doctype.name (d ∷ []) })) rest) (sym (shown_lower c h0)) (go h0 (is_upper c) refl))
  where
    go : (0 == c) ≡ false → (x : Bool) → is_upper c ≡ x → Goes (at doctype.Name m) (c ∷ rest) [] (holding m there.DOCTYPEName (record m.doctype { name = with_more m.doctype.name (to_ascii_lowercase c ∷ []) })) rest
    go h0 true e = by_entry (at doctype.Name m) (c ∷ rest) (taking (Add DoctypeName Lower ∷ []) (Stay) (c ∷ [])) (λ x. rw (s.tab, s.line_feed, s.form_feed, s.space, h62, e) refl) refl
    go h0 false e =
        subst (λ d. Goes (at doctype.Name m) (c ∷ rest) [] (holding m there.DOCTYPEName (record m.doctype { name = with_more m.doctype.name (d ∷ []) })) rest) (sym (stays_lower c e))
        (by_entry (at doctype.Name m) (c ∷ rest) (taking (Add DoctypeName Current ∷ []) (Stay) (c ∷ [])) (λ x. rw (s.tab, s.line_feed, s.form_feed, s.space, h62, e, h0) refl) refl)

before_name : (b : Bool) (m : Machine) (rest : List ℕ) (c : ℕ) → Comes b doctype.BeforeName m [] rest c (doctype_step_of doctype.BeforeName c)
unfolding taken entries
before_name b m rest c =
    spaced_over doctype.BeforeName doctype.BeforeName b m rest c (ends_or_of true c its.NameBegins)
    (spaces_stay (doctype_state_of doctype.BeforeName) (λ b m rest. refl) (λ b m rest. refl) (λ b m rest. refl) (λ b m rest. refl)) (λ t ahead m held. (refl, held.1))
    (λ s. by_test (λ d k. Comes b doctype.BeforeName m [] rest d k) c 62 (its.Ends true) its.NameBegins
    (by_entry (at doctype.BeforeName m) (62 ∷ rest) (taking (NewDoctype ∷ ForceQuirks ∷ EmitDoctype ∷ []) (Switch there.Data) (62 ∷ [])) (λ x. refl) refl)
    (λ h62. (name_begins b m rest c s h62, (λ one. refl))))

at_begin : (b : Bool) (m : Machine) (rest : List ℕ) (c : ℕ) → Comes b doctype.Begin m [] rest c (doctype_step_of doctype.Begin c)
unfolding taken entries
at_begin b m rest c =
    spaced_over doctype.Begin doctype.BeforeName b m rest c (ends_or_of true c its.NameBegins)
    (spaces_switch (doctype_state_of doctype.Begin) (doctype_state_of doctype.BeforeName) (λ b m rest. refl) (λ b m rest. refl) (λ b m rest. refl) (λ b m rest. refl)) (λ t ahead m held. (refl, held.1))
    (λ s. by_test (λ d k. Comes b doctype.Begin m [] rest d k) c 62 (its.Ends true) its.NameBegins
    (then_on (by_entry (at doctype.Begin m) (62 ∷ rest) (taking ([]) (Reconsume there.BeforeDOCTYPEName) (62 ∷ [])) (λ x. refl) refl) (by_entry (at doctype.BeforeName m) (62 ∷ rest) (taking (NewDoctype ∷ ForceQuirks ∷ EmitDoctype ∷ []) (Switch there.Data) (62 ∷ [])) (λ x. refl) refl))
    (λ h62. (then_on (by_entry (at doctype.Begin m) (c ∷ rest) (taking ([]) (Reconsume there.BeforeDOCTYPEName) (c ∷ [])) (λ x. rw (s.tab, s.line_feed, s.form_feed, s.space, h62) refl) refl) (name_begins b m rest c s h62), (λ one. refl))))

in_name : (b : Bool) (m : Machine) (rest : List ℕ) (c : ℕ) → Comes b doctype.Name m [] rest c (doctype_step_of doctype.Name c)
unfolding taken entries
in_name b m rest c =
    spaced_over doctype.Name doctype.AfterName b m rest c (ends_or_of false c its.NameLetter)
    (spaces_switch (doctype_state_of doctype.Name) (doctype_state_of doctype.AfterName) (λ b m rest. refl) (λ b m rest. refl) (λ b m rest. refl) (λ b m rest. refl)) (λ t ahead m held. (refl, held.1))
    (λ s. by_test (λ d k. Comes b doctype.Name m [] rest d k) c 62 (its.Ends false) its.NameLetter
    (by_entry (at doctype.Name m) (62 ∷ rest) (taking (EmitDoctype ∷ []) (Switch there.Data) (62 ∷ [])) (λ x. refl) refl)
    (λ h62. (name_letter b m rest c s h62, (λ t m is. (refl, is)))))

-- ---- identifiers

abbrev place_of_id : Id → Place
place_of_id id.Public = PublicId
place_of_id id.System = SystemId

-- the doctype has been made before the state
abbrev IsMadeBefore : DoctypeState → Type 0
IsMadeBefore inner = (one : StandardDoctype) → made_at inner one ≡ one

id_begins : (inner : DoctypeState) (which : Id) (mark : Quote) (d : ℕ) → IsMadeBefore inner → Entry (doctype_state_of inner) d (SetEmpty (place_of_id which) ∷ []) (Switch (doctype_state_of (doctype.Quoted which mark))) →
    (b : Bool) (m : Machine) (rest : List ℕ) → Comes b inner m [] rest d (its.IdBegins which mark)
id_begins inner id.Public mark d made entry b m rest =
    subst (λ one. Goes (at inner m) (d ∷ rest) [] (holding m (doctype_state_of (doctype.Quoted id.Public mark)) (with_id id.Public (Some []) one)) rest) (sym (made m.doctype))
    (by_entry (at inner m) (d ∷ rest) (taking (SetEmpty PublicId ∷ []) (Switch (doctype_state_of (doctype.Quoted id.Public mark))) (d ∷ [])) (λ x. entry x m rest) refl)
id_begins inner id.System mark d made entry b m rest =
    subst (λ one. Goes (at inner m) (d ∷ rest) [] (holding m (doctype_state_of (doctype.Quoted id.System mark)) (with_id id.System (Some []) one)) rest) (sym (made m.doctype))
    (by_entry (at inner m) (d ∷ rest) (taking (SetEmpty SystemId ∷ []) (Switch (doctype_state_of (doctype.Quoted id.System mark))) (d ∷ [])) (λ x. entry x m rest) refl)

abbrev ends_by : Bool → List Act
ends_by true = ForceQuirks ∷ EmitDoctype ∷ []
ends_by false = EmitDoctype ∷ []

ends_there : (inner : DoctypeState) (breaks : Bool) → IsMadeBefore inner → Entry (doctype_state_of inner) 62 (ends_by breaks) (Switch there.Data) → (b : Bool) (m : Machine) (rest : List ℕ) → Comes b inner m [] rest 62 (its.Ends breaks)
ends_there inner true made entry b m rest =
    subst (λ one. Goes (at inner m) (62 ∷ rest) (ADoctype (broken_there true one) ∷ []) (holding m there.Data (broken_there true one)) rest) (sym (made m.doctype))
    (by_entry (at inner m) (62 ∷ rest) (taking (ForceQuirks ∷ EmitDoctype ∷ []) (Switch there.Data) (62 ∷ [])) (λ x. entry x m rest) refl)
ends_there inner false made entry b m rest =
    subst (λ one. Goes (at inner m) (62 ∷ rest) (ADoctype (broken_there false one) ∷ []) (holding m there.Data (broken_there false one)) rest) (sym (made m.doctype))
    (by_entry (at inner m) (62 ∷ rest) (taking (EmitDoctype ∷ []) (Switch there.Data) (62 ∷ [])) (λ x. entry x m rest) refl)

malformed_there : (inner : DoctypeState) (c : ℕ) → IsMadeBefore inner → (62 == c) ≡ false → Entry (doctype_state_of inner) c (ForceQuirks ∷ []) (Reconsume there.BogusDOCTYPE) → (b : Bool) (m : Machine) (rest : List ℕ) →
    Comes b inner m [] rest c (its.Malformed true)
malformed_there inner c made h62 entry b m rest =
    subst (λ one. Goes (at inner m) (c ∷ rest) [] (holding m there.BogusDOCTYPE (broken_there true one)) rest) (sym (made m.doctype))
    (then_on (by_entry (at inner m) (c ∷ rest) (taking (ForceQuirks ∷ []) (Reconsume there.BogusDOCTYPE) (c ∷ [])) (λ x. entry x m rest) refl) (bogus b m rest c (record m.doctype { force_quirks = true }) h62))

-- where an identifier may begin
before_id : (inner next : DoctypeState) (which : Id) (breaks : Bool) → IsMadeBefore inner → SpaceOver (doctype_state_of inner) (doctype_state_of next) → Passes inner next →
    Entry (doctype_state_of inner) 34 (SetEmpty (place_of_id which) ∷ []) (Switch (doctype_state_of (doctype.Quoted which quote.Double))) →
    Entry (doctype_state_of inner) 39 (SetEmpty (place_of_id which) ∷ []) (Switch (doctype_state_of (doctype.Quoted which quote.Single))) → Entry (doctype_state_of inner) 62 (ends_by breaks) (Switch there.Data) →
    ((c : ℕ) → NoSpace c → (34 == c) ≡ false → (39 == c) ≡ false → (62 == c) ≡ false → Entry (doctype_state_of inner) c (ForceQuirks ∷ []) (Reconsume there.BogusDOCTYPE)) → (b : Bool) (m : Machine) (rest : List ℕ) (c : ℕ) →
    Comes b inner m [] rest c (spaced_of next c (before_id_of which breaks c))
before_id inner next which breaks made over passes double single greater other b m rest c =
    let P : ℕ → DoctypeStep → Type 0 = λ d k. Comes b inner m [] rest d k in
    spaced_over inner next b m rest c (before_id_of which breaks c) over passes
    (λ s. by_test P c 34 (its.IdBegins which quote.Double) (cond (c == 39) (its.IdBegins which quote.Single) (ends_or_of breaks c (its.Malformed true))) (id_begins inner which quote.Double 34 made double b m rest)
    (λ h34. by_test P c 39 (its.IdBegins which quote.Single) (ends_or_of breaks c (its.Malformed true)) (id_begins inner which quote.Single 39 made single b m rest)
    (λ h39. by_test P c 62 (its.Ends breaks) (its.Malformed true) (ends_there inner breaks made greater b m rest) (λ h62. malformed_there inner c made h62 (other c s h34 h39 h62) b m rest))))

after_public_keyword : (b : Bool) (m : Machine) (rest : List ℕ) (c : ℕ) → Comes b (doctype.AfterKeyword id.Public) m [] rest c (spaced_of (doctype.BeforeId id.Public) c (before_id_of id.Public true c))
unfolding taken entries
after_public_keyword =
    before_id (doctype.AfterKeyword id.Public) (doctype.BeforeId id.Public) id.Public true (λ one. refl) (spaces_switch (doctype_state_of (doctype.AfterKeyword id.Public)) (doctype_state_of (doctype.BeforeId id.Public)) (λ b m rest. refl) (λ b m rest. refl) (λ b m rest. refl) (λ b m rest. refl))
    (λ t ahead m held. (refl, held.1)) (λ b m rest. refl) (λ b m rest. refl) (λ b m rest. refl) (λ c s h34 h39 h62 b m rest. rw (s.tab, s.line_feed, s.form_feed, s.space, h34, h39, h62) refl)

before_public_id : (b : Bool) (m : Machine) (rest : List ℕ) (c : ℕ) → Comes b (doctype.BeforeId id.Public) m [] rest c (spaced_of (doctype.BeforeId id.Public) c (before_id_of id.Public true c))
unfolding taken entries
before_public_id =
    before_id (doctype.BeforeId id.Public) (doctype.BeforeId id.Public) id.Public true (λ one. refl) (spaces_stay (doctype_state_of (doctype.BeforeId id.Public)) (λ b m rest. refl) (λ b m rest. refl) (λ b m rest. refl) (λ b m rest. refl))
    (λ t ahead m held. (refl, held.1)) (λ b m rest. refl) (λ b m rest. refl) (λ b m rest. refl) (λ c s h34 h39 h62 b m rest. rw (s.tab, s.line_feed, s.form_feed, s.space, h34, h39, h62) refl)

after_system_keyword : (b : Bool) (m : Machine) (rest : List ℕ) (c : ℕ) → Comes b (doctype.AfterKeyword id.System) m [] rest c (spaced_of (doctype.BeforeId id.System) c (before_id_of id.System true c))
unfolding taken entries
after_system_keyword =
    before_id (doctype.AfterKeyword id.System) (doctype.BeforeId id.System) id.System true (λ one. refl) (spaces_switch (doctype_state_of (doctype.AfterKeyword id.System)) (doctype_state_of (doctype.BeforeId id.System)) (λ b m rest. refl) (λ b m rest. refl) (λ b m rest. refl) (λ b m rest. refl))
    (λ t ahead m held. (refl, held.1)) (λ b m rest. refl) (λ b m rest. refl) (λ b m rest. refl) (λ c s h34 h39 h62 b m rest. rw (s.tab, s.line_feed, s.form_feed, s.space, h34, h39, h62) refl)

before_system_id : (b : Bool) (m : Machine) (rest : List ℕ) (c : ℕ) → Comes b (doctype.BeforeId id.System) m [] rest c (spaced_of (doctype.BeforeId id.System) c (before_id_of id.System true c))
unfolding taken entries
before_system_id =
    before_id (doctype.BeforeId id.System) (doctype.BeforeId id.System) id.System true (λ one. refl) (spaces_stay (doctype_state_of (doctype.BeforeId id.System)) (λ b m rest. refl) (λ b m rest. refl) (λ b m rest. refl) (λ b m rest. refl))
    (λ t ahead m held. (refl, held.1)) (λ b m rest. refl) (λ b m rest. refl) (λ b m rest. refl) (λ c s h34 h39 h62 b m rest. rw (s.tab, s.line_feed, s.form_feed, s.space, h34, h39, h62) refl)

after_public_id : (b : Bool) (m : Machine) (rest : List ℕ) (c : ℕ) → Comes b (doctype.AfterId id.Public) m [] rest c (spaced_of doctype.BetweenIds c (before_id_of id.System false c))
unfolding taken entries
after_public_id =
    before_id (doctype.AfterId id.Public) doctype.BetweenIds id.System false (λ one. refl) (spaces_switch (doctype_state_of (doctype.AfterId id.Public)) (doctype_state_of doctype.BetweenIds) (λ b m rest. refl) (λ b m rest. refl) (λ b m rest. refl) (λ b m rest. refl))
    (λ t ahead m held. (refl, held.1)) (λ b m rest. refl) (λ b m rest. refl) (λ b m rest. refl) (λ c s h34 h39 h62 b m rest. rw (s.tab, s.line_feed, s.form_feed, s.space, h34, h39, h62) refl)

between_ids : (b : Bool) (m : Machine) (rest : List ℕ) (c : ℕ) → Comes b doctype.BetweenIds m [] rest c (spaced_of doctype.BetweenIds c (before_id_of id.System false c))
unfolding taken entries
between_ids =
    before_id doctype.BetweenIds doctype.BetweenIds id.System false (λ one. refl) (spaces_stay (doctype_state_of doctype.BetweenIds) (λ b m rest. refl) (λ b m rest. refl) (λ b m rest. refl) (λ b m rest. refl))
    (λ t ahead m held. (refl, held.1)) (λ b m rest. refl) (λ b m rest. refl) (λ b m rest. refl) (λ c s h34 h39 h62 b m rest. rw (s.tab, s.line_feed, s.form_feed, s.space, h34, h39, h62) refl)

-- a character of an identifier
id_letter : (which : Id) (mark : Quote) (d : ℕ) (what : What) (shown : List ℕ) → ((m : Machine) → characters what m (d ∷ []) ≡ shown) → Entry (doctype_state_of (doctype.Quoted which mark)) d (Add (place_of_id which) what ∷ []) Stay →
    (b : Bool) (m : Machine) (rest : List ℕ) → Goes (at (doctype.Quoted which mark) m) (d ∷ rest) [] (holding m (doctype_state_of (doctype.Quoted which mark)) (with_id which (with_more (id_of which m.doctype) shown) m.doctype)) rest
id_letter id.Public mark d what shown is entry b m rest =
    let M : Machine = at (doctype.Quoted id.Public mark) m in
    subst (λ cs. Goes M (d ∷ rest) [] (holding m M.state (with_id id.Public (with_more m.doctype.public_id cs) m.doctype)) rest) (is M) (by_entry M (d ∷ rest) (taking (Add PublicId what ∷ []) Stay (d ∷ [])) (λ x. entry x m rest) refl)
id_letter id.System mark d what shown is entry b m rest =
    let M : Machine = at (doctype.Quoted id.System mark) m in
    subst (λ cs. Goes M (d ∷ rest) [] (holding m M.state (with_id id.System (with_more m.doctype.system_id cs) m.doctype)) rest) (is M) (by_entry M (d ∷ rest) (taking (Add SystemId what ∷ []) Stay (d ∷ [])) (λ x. entry x m rest) refl)

in_quotes : (which : Id) (mark : Quote) (q : ℕ) → Entry (doctype_state_of (doctype.Quoted which mark)) q [] (Switch (doctype_state_of (doctype.AfterId which))) → Entry (doctype_state_of (doctype.Quoted which mark)) 62 (ForceQuirks ∷ EmitDoctype ∷ []) (Switch there.Data) →
    Entry (doctype_state_of (doctype.Quoted which mark)) 0 (Add (place_of_id which) replacement ∷ []) Stay →
    ((c : ℕ) → (q == c) ≡ false → (62 == c) ≡ false → (0 == c) ≡ false → Entry (doctype_state_of (doctype.Quoted which mark)) c (Add (place_of_id which) Current ∷ []) Stay) → (b : Bool) (m : Machine) (rest : List ℕ) (c : ℕ) →
    Comes b (doctype.Quoted which mark) m [] rest c (cond (c == q) (its.Then (doctype.AfterId which)) (ends_or_of true c (its.IdLetter which)))
in_quotes which mark q closed greater null other b m rest c =
    let inner : DoctypeState = doctype.Quoted which mark in
    let P : ℕ → DoctypeStep → Type 0 = λ d k. Comes b inner m [] rest d k in
    by_test P c q (its.Then (doctype.AfterId which)) (ends_or_of true c (its.IdLetter which))
    (switched (doctype_state_of inner) (doctype_state_of (doctype.AfterId which)) q closed b m rest, (λ t ahead m held. (refl, held.1)))
    (λ hq. by_test P c 62 (its.Ends true) (its.IdLetter which) (ends_there inner true (λ one. refl) greater b m rest)
    (λ h62. (
      by_bool (λ e x. Goes (at inner m) (e ∷ rest) [] (holding m (doctype_state_of inner) (with_id which (with_more (id_of which m.doctype) (cond x 0xfffd e ∷ [])) m.doctype)) rest) c 0
          (id_letter which mark 0 replacement (0xfffd ∷ []) (λ m. refl) null b m rest)
          (λ h0. id_letter which mark c Current (c ∷ []) (λ m. refl) (other c hq h62 h0) b m rest),
      (λ t m is. (refl, is)),
    )))

in_quoted : (which : Id) (mark : Quote) (b : Bool) (m : Machine) (rest : List ℕ) (c : ℕ) → Comes b (doctype.Quoted which mark) m [] rest c (quoted_step_of which mark c)
unfolding taken entries
in_quoted id.Public quote.Double = in_quotes id.Public quote.Double 34 (λ b m rest. refl) (λ b m rest. refl) (λ b m rest. refl) (λ c h34 h62 h0 b m rest. rw (h34, h0, h62) refl)
in_quoted id.Public quote.Single = in_quotes id.Public quote.Single 39 (λ b m rest. refl) (λ b m rest. refl) (λ b m rest. refl) (λ c h39 h62 h0 b m rest. rw (h39, h0, h62) refl)
in_quoted id.System quote.Double = in_quotes id.System quote.Double 34 (λ b m rest. refl) (λ b m rest. refl) (λ b m rest. refl) (λ c h34 h62 h0 b m rest. rw (h34, h0, h62) refl)
in_quoted id.System quote.Single = in_quotes id.System quote.Single 39 (λ b m rest. refl) (λ b m rest. refl) (λ b m rest. refl) (λ c h39 h62 h0 b m rest. rw (h39, h0, h62) refl)

after_system_id : (b : Bool) (m : Machine) (rest : List ℕ) (c : ℕ) → Comes b (doctype.AfterId id.System) m [] rest c (doctype_step_of (doctype.AfterId id.System) c)
unfolding taken entries
after_system_id b m rest c =
    spaced_over (doctype.AfterId id.System) (doctype.AfterId id.System) b m rest c (ends_or_of false c (its.Malformed false))
    (spaces_stay (doctype_state_of (doctype.AfterId id.System)) (λ b m rest. refl) (λ b m rest. refl) (λ b m rest. refl) (λ b m rest. refl)) (λ t ahead m held. (refl, held.1))
    (λ s. by_test (λ d k. Comes b (doctype.AfterId id.System) m [] rest d k) c 62 (its.Ends false) (its.Malformed false)
    (by_entry (at (doctype.AfterId id.System) m) (62 ∷ rest) (taking (EmitDoctype ∷ []) (Switch there.Data) (62 ∷ [])) (λ x. refl) refl)
    (λ h62. then_on (by_entry (at (doctype.AfterId id.System) m) (c ∷ rest) (taking ([]) (Reconsume there.BogusDOCTYPE) (c ∷ [])) (λ x. rw (s.tab, s.line_feed, s.form_feed, s.space, h62) refl) refl) (bogus b m rest c m.doctype h62)))

in_bogus : (b : Bool) (m : Machine) (rest : List ℕ) (c : ℕ) → Comes b doctype.Bogus m [] rest c (doctype_step_of doctype.Bogus c)
unfolding taken entries
in_bogus b m rest c =
    let P : ℕ → DoctypeStep → Type 0 = λ d k. Comes b doctype.Bogus m [] rest d k in
    by_test P c 62 (its.Ends false) (its.Malformed false)
    (by_entry (at doctype.Bogus m) (62 ∷ rest) (taking (EmitDoctype ∷ []) (Switch there.Data) (62 ∷ [])) (λ x. refl) refl)
    (λ h62. bogus b m rest c m.doctype h62)

-- ---- the keywords

-- the machine behind the name
abbrev pub behind_name : Machine → Machine
behind_name m = at_state m there.AfterDOCTYPEName

abbrev pub publics : List ℕ → Bool
publics text = starts_with same_case_less text (codes "PUBLIC")

abbrev pub systems : List ℕ → Bool
systems text = starts_with same_case_less text (codes "SYSTEM")

-- the first character is no white space and no `>`
pub record IsFirst (a : ℕ) : Type 0 where
  pub tab : (9 == a) ≡ false
  pub line_feed : (10 == a) ≡ false
  pub form_feed : (12 == a) ≡ false
  pub space : (32 == a) ≡ false
  pub greater : (62 == a) ≡ false

public_taken : (b : Bool) (m : Machine) (a : ℕ) (text : List ℕ) → IsFirst a → publics (a ∷ text) ≡ true → taken b m (a ∷ text) (entries there.AfterDOCTYPEName) ≡ taking [] (Switch there.AfterDOCTYPEPublicKeyword) (take 6 (a ∷ text))
unfolding taken entries
public_taken b m a text s is = rw (s.tab, s.line_feed, s.form_feed, s.space, s.greater, is) refl

system_taken : (b : Bool) (m : Machine) (a : ℕ) (text : List ℕ) → IsFirst a → publics (a ∷ text) ≡ false → systems (a ∷ text) ≡ true →
    taken b m (a ∷ text) (entries there.AfterDOCTYPEName) ≡ taking [] (Switch there.AfterDOCTYPESystemKeyword) (take 6 (a ∷ text))
unfolding taken entries
system_taken b m a text s public is = rw (s.tab, s.line_feed, s.form_feed, s.space, s.greater, public, is) refl

pub no_keyword_taken : (b : Bool) (m : Machine) (a : ℕ) (text : List ℕ) → IsFirst a → publics (a ∷ text) ≡ false → systems (a ∷ text) ≡ false →
    taken b m (a ∷ text) (entries there.AfterDOCTYPEName) ≡ taking (ForceQuirks ∷ []) (Reconsume there.BogusDOCTYPE) (a ∷ [])
unfolding taken entries
no_keyword_taken b m a text s one other = rw (s.tab, s.line_feed, s.form_feed, s.space, s.greater, one, other) refl

first_of : (c : ℕ) → NoSpace c → (62 == c) ≡ false → IsFirst c
first_of c s h62 = record { tab = s.tab; line_feed = s.line_feed; form_feed = s.form_feed; space = s.space; greater = h62 }

no_p : (c : ℕ) → (112 == c) ≡ false → (80 == c) ≡ false → (112 == to_ascii_lowercase c) ≡ false
no_p c one two = grind arith

no_s : (c : ℕ) → (115 == c) ≡ false → (83 == c) ≡ false → (115 == to_ascii_lowercase c) ≡ false
no_s c one two = grind arith

after_name : (b : Bool) (m : Machine) (rest : List ℕ) (c : ℕ) → Comes b doctype.AfterName m [] rest c (doctype_step_of doctype.AfterName c)
unfolding taken entries
after_name b m rest c =
    let P : ℕ → DoctypeStep → Type 0 = λ d k. Comes b doctype.AfterName m [] rest d k in
    spaced_over doctype.AfterName doctype.AfterName b m rest c (after_name_of c)
    (spaces_stay (doctype_state_of doctype.AfterName) (λ b m rest. refl) (λ b m rest. refl) (λ b m rest. refl) (λ b m rest. refl)) (λ t ahead m held. (refl, held.1))
    (λ s. by_bool (λ e x. P e (cond (x || e == 80) (its.Letter id.Public 1) (cond (e == 115 || e == 83) (its.Letter id.System 1) (ends_or_of false e (its.Malformed true))))) c 112
    (refl, (λ one. refl), (omega arith, omega arith, refl))
    (λ h112. by_bool (λ e x. P e (cond x (its.Letter id.Public 1) (cond (e == 115 || e == 83) (its.Letter id.System 1) (ends_or_of false e (its.Malformed true))))) c 80
    (refl, (λ one. refl), (omega arith, omega arith, refl))
    (λ h80. by_bool (λ e x. P e (cond (x || e == 83) (its.Letter id.System 1) (ends_or_of false e (its.Malformed true)))) c 115
    (refl, (λ one. refl), (omega arith, omega arith, refl))
    (λ h115. by_bool (λ e x. P e (cond x (its.Letter id.System 1) (ends_or_of false e (its.Malformed true)))) c 83
    (refl, (λ one. refl), (omega arith, omega arith, refl))
    (λ h83. by_test P c 62 (its.Ends false) (its.Malformed true)
    (by_entry (at doctype.AfterName m) (62 ∷ rest) (taking (EmitDoctype ∷ []) (Switch there.Data) (62 ∷ [])) (λ x. refl) refl)
    (λ h62. then_on (by_entry (at doctype.AfterName m) (c ∷ rest) (taking (ForceQuirks ∷ []) (Reconsume there.BogusDOCTYPE) (c ∷ []))
    (λ x. no_keyword_taken x (at doctype.AfterName m) c rest (first_of c s h62) (rw (no_p c h112 h80) refl) (rw (no_s c h115 h83) refl)) refl) (bogus b m rest c (record m.doctype { force_quirks = true }) h62)))))))

-- letters of a malformed doctype
pub bogus_run : (b : Bool) (m : Machine) (front rest : List ℕ) (one : StandardDoctype) → AllThemselves front → Goes (holding m there.BogusDOCTYPE one) (front ++ rest) [] (holding m there.BogusDOCTYPE one) rest
bogus_run b m [] rest one all = stays
bogus_run b m (c ∷ front) rest one all = then_on (bogus b m (front ++ rest) c one all.0.no_end) (bogus_run b m front rest one all.1)

-- the letter that is first
abbrev pub first_letter : Id → ℕ
first_letter id.Public = 112
first_letter id.System = 115

pub first_is : (which : Id) (a : ℕ) → to_ascii_lowercase a ≡ first_letter which → IsFirst a
first_is id.Public a is = record { tab = no9 a is; line_feed = no10 a is; form_feed = no12 a is; space = no32 a is; greater = no62 a is }
  where
    no9 : (a : ℕ) → to_ascii_lowercase a ≡ 112 → (9 == a) ≡ false
    no9 a is = grind arith

    no10 : (a : ℕ) → to_ascii_lowercase a ≡ 112 → (10 == a) ≡ false
    no10 a is = grind arith

    no12 : (a : ℕ) → to_ascii_lowercase a ≡ 112 → (12 == a) ≡ false
    no12 a is = grind arith

    no32 : (a : ℕ) → to_ascii_lowercase a ≡ 112 → (32 == a) ≡ false
    no32 a is = grind arith

    no62 : (a : ℕ) → to_ascii_lowercase a ≡ 112 → (62 == a) ≡ false
    no62 a is = grind arith
first_is id.System a is = record { tab = no9 a is; line_feed = no10 a is; form_feed = no12 a is; space = no32 a is; greater = no62 a is }
  where
    no9 : (a : ℕ) → to_ascii_lowercase a ≡ 115 → (9 == a) ≡ false
    no9 a is = grind arith

    no10 : (a : ℕ) → to_ascii_lowercase a ≡ 115 → (10 == a) ≡ false
    no10 a is = grind arith

    no12 : (a : ℕ) → to_ascii_lowercase a ≡ 115 → (12 == a) ≡ false
    no12 a is = grind arith

    no32 : (a : ℕ) → to_ascii_lowercase a ≡ 115 → (32 == a) ≡ false
    no32 a is = grind arith

    no62 : (a : ℕ) → to_ascii_lowercase a ≡ 115 → (62 == a) ≡ false
    no62 a is = grind arith

-- the other keyword does not begin with it
pub no_system : (a : ℕ) (text : List ℕ) → to_ascii_lowercase a ≡ 112 → systems (a ∷ text) ≡ false
no_system a text is = rw (other a is) refl
  where
    other : (a : ℕ) → to_ascii_lowercase a ≡ 112 → (115 == to_ascii_lowercase a) ≡ false
    other a is = grind arith

pub no_public : (a : ℕ) (text : List ℕ) → to_ascii_lowercase a ≡ 115 → publics (a ∷ text) ≡ false
no_public a text is = rw (other a is) refl
  where
    other : (a : ℕ) → to_ascii_lowercase a ≡ 115 → (112 == to_ascii_lowercase a) ≡ false
    other a is = grind arith

-- the whole keyword was read
whole : (which : Id) (b : Bool) (m : Machine) (front rest : List ℕ) → map to_ascii_lowercase front ≡ keyword_of which → Goes (behind_name m) (front ++ rest) [] (at (doctype.AfterKeyword which) m) rest
whole which b m [] rest same = absurd (none which same)
  where
    none : (which : Id) → [] ≡ keyword_of which → ⊥
    none id.Public e = cc
    none id.System e = cc
whole id.Public b m (a ∷ front) rest same =
    let cut : take 6 (a ∷ front ++ rest) ≡ a ∷ front = taken_word to_ascii_lowercase (codes "PUBLIC") (a ∷ front) rest same in
    let low : to_ascii_lowercase a ≡ 112 = cc in
    subst (λ t. Goes (behind_name m) (a ∷ front ++ rest) [] (at_state m there.AfterDOCTYPEPublicKeyword) t) (drop-append_seam (a ∷ front) rest)
    (by_entry (behind_name m) (a ∷ (front ++ rest)) (taking [] (Switch there.AfterDOCTYPEPublicKeyword) (a ∷ front))
    (λ x. public_taken x (behind_name m) a (front ++ rest) (first_is id.Public a low) (begins to_ascii_lowercase (codes "PUBLIC") (a ∷ front) rest same) ∙ ap (taking [] (Switch there.AfterDOCTYPEPublicKeyword)) cut) refl)
whole id.System b m (a ∷ front) rest same =
    let cut : take 6 (a ∷ front ++ rest) ≡ a ∷ front = taken_word to_ascii_lowercase (codes "SYSTEM") (a ∷ front) rest same in
    let low : to_ascii_lowercase a ≡ 115 = cc in
    subst (λ t. Goes (behind_name m) (a ∷ front ++ rest) [] (at_state m there.AfterDOCTYPESystemKeyword) t) (drop-append_seam (a ∷ front) rest)
    (by_entry (behind_name m) (a ∷ (front ++ rest)) (taking [] (Switch there.AfterDOCTYPESystemKeyword) (a ∷ front))
    (λ x. system_taken x (behind_name m) a (front ++ rest) (first_is id.System a low) (no_public a (front ++ rest) low) (begins to_ascii_lowercase (codes "SYSTEM") (a ∷ front) rest same) ∙ ap (taking [] (Switch there.AfterDOCTYPESystemKeyword)) cut) refl)

pub letters_high : (which : Id) → High (keyword_of which)
letters_high id.Public = (omega arith, (omega arith, (omega arith, (omega arith, (omega arith, (omega arith, tt))))))
letters_high id.System = (omega arith, (omega arith, (omega arith, (omega arith, (omega arith, (omega arith, tt))))))

-- another character than the keyword's next one
no_keyword : (which : Id) (b : Bool) (m : Machine) (ahead rest : List ℕ) (n c : ℕ) → IsKeyword which n ahead → letter_is (keyword_of which) n (to_ascii_lowercase c) ≡ false →
    Goes (behind_name m) (ahead ++ c ∷ rest) [] (holding m there.BogusDOCTYPE (record m.doctype { force_quirks = true })) (c ∷ rest)
no_keyword which b m ahead rest zero c is other = absurd (omega (arith, is.0))
no_keyword which b m [] rest (suc n) c is other = absurd (none which is.2)
  where
    none : (which : Id) → [] ≡ take (suc n) (keyword_of which) → ⊥
    none id.Public e = cc
    none id.System e = cc
no_keyword id.Public b m (a ∷ ahead) rest (suc n) c is other =
    let text : List ℕ = ahead ++ c ∷ rest in
    let low : to_ascii_lowercase a ≡ 112 = cc in
    then_on (by_entry (behind_name m) (a ∷ text) (taking (ForceQuirks ∷ []) (Reconsume there.BogusDOCTYPE) (a ∷ []))
    (λ x. no_keyword_taken x (behind_name m) a text (first_is id.Public a low) (fails to_ascii_lowercase (codes "PUBLIC") (a ∷ ahead) (suc n) c rest is.2 is.1 other) (no_system a text low)) refl)
    (bogus_run b m (a ∷ ahead) (c ∷ rest) (record m.doctype { force_quirks = true }) (lower_themselves (a ∷ ahead) (take (suc n) (codes "public")) is.2 (high_taken (suc n) (codes "public") (letters_high id.Public))))
no_keyword id.System b m (a ∷ ahead) rest (suc n) c is other =
    let text : List ℕ = ahead ++ c ∷ rest in
    let low : to_ascii_lowercase a ≡ 115 = cc in
    then_on (by_entry (behind_name m) (a ∷ text) (taking (ForceQuirks ∷ []) (Reconsume there.BogusDOCTYPE) (a ∷ []))
    (λ x. no_keyword_taken x (behind_name m) a text (first_is id.System a low) (no_public a text low) (fails to_ascii_lowercase (codes "SYSTEM") (a ∷ ahead) (suc n) c rest is.2 is.1 other)) refl)
    (bogus_run b m (a ∷ ahead) (c ∷ rest) (record m.doctype { force_quirks = true }) (lower_themselves (a ∷ ahead) (take (suc n) (codes "system")) is.2 (high_taken (suc n) (codes "system") (letters_high id.System))))

ends_bogus : (b : Bool) (m : Machine) (rest : List ℕ) (one : StandardDoctype) → Goes (holding m there.BogusDOCTYPE one) (62 ∷ rest) (ADoctype one ∷ []) (holding m there.Data one) rest
unfolding taken entries
ends_bogus b m rest one = by_entry (holding m there.BogusDOCTYPE one) (62 ∷ rest) (taking (EmitDoctype ∷ []) (Switch there.Data) (62 ∷ [])) (λ x. refl) refl

not_five : (n : ℕ) → ((n ≡ 5) → ⊥) → n < 6 → n + 1 < 6
not_five n other low = omega (arith, other, low)

in_keyword : (which : Id) (b : Bool) (m : Machine) (ahead rest : List ℕ) (n c : ℕ) → IsKeyword which n ahead → Comes b (doctype.Keyword which n) m ahead rest c (keyword_step_of which n c)
in_keyword which b m ahead rest n c is = go (letter_is (keyword_of which) n (to_ascii_lowercase c)) refl
  where
    longer : letter_is (keyword_of which) n (to_ascii_lowercase c) ≡ true → map to_ascii_lowercase (ahead ++ c ∷ []) ≡ take (suc n) (keyword_of which)
    longer h = map_snoc to_ascii_lowercase ahead c ∙ ap (λ t. t ++ to_ascii_lowercase c ∷ []) is.2 ∙ sym (extends (keyword_of which) n (to_ascii_lowercase c) h)

    all_of : (which : Id) → take 6 (keyword_of which) ≡ keyword_of which
    all_of id.Public = refl
    all_of id.System = refl

    goes_on : letter_is (keyword_of which) n (to_ascii_lowercase c) ≡ true → (x : Bool) → (n == 5) ≡ x → Comes b (doctype.Keyword which n) m ahead rest c (cond x (its.Then (doctype.AfterKeyword which)) (its.Letter which (n + 1)))
    goes_on h true five =
        let same : map to_ascii_lowercase (ahead ++ c ∷ []) ≡ keyword_of which = longer h ∙ ap (λ k. take (suc k) (keyword_of which)) (eqb-true n 5 five) ∙ all_of which in (
          subst (λ t. Goes (behind_name m) t [] (at (doctype.AfterKeyword which) m) rest) (append_assoc ahead (c ∷ []) rest) (whole which b m (ahead ++ c ∷ []) rest same),
          (λ t ahead m held. (refl, held.1)),
        )
    goes_on h false no_five =
        let e : suc n ≡ n + 1 = omega arith in
        (refl, (λ one. refl), (omega arith, not_five n (eqb-false n 5 no_five) is.1, longer h ∙ ap (λ k. take k (keyword_of which)) e))

    stops : letter_is (keyword_of which) n (to_ascii_lowercase c) ≡ false → Comes b (doctype.Keyword which n) m ahead rest c (ends_or_of true c (its.Malformed true))
    stops h =
        by_test (λ d k. Goes (behind_name m) (ahead ++ d ∷ rest) [] (holding m there.BogusDOCTYPE (record m.doctype { force_quirks = true })) (d ∷ rest) → Comes b (doctype.Keyword which n) m ahead rest d k) c 62
        (its.Ends true) (its.Malformed true) (λ goes. then_on goes (ends_bogus b m rest (record m.doctype { force_quirks = true })))
        (λ h62 goes. then_on goes (bogus b m rest c (record m.doctype { force_quirks = true }) h62)) (no_keyword which b m ahead rest n c is h)

    go : (x : Bool) → letter_is (keyword_of which) n (to_ascii_lowercase c) ≡ x →
        Comes b (doctype.Keyword which n) m ahead rest c (cond x (cond (n == 5) (its.Then (doctype.AfterKeyword which)) (its.Letter which (n + 1))) (ends_or_of true c (its.Malformed true)))
    go true h = goes_on h (n == 5) refl
    go false h = stops h

-- ---- every state

pub comes : (inner : DoctypeState) (b : Bool) (m : Machine) (ahead rest : List ℕ) (c : ℕ) → IsAhead inner ahead → Comes b inner m ahead rest c (doctype_step_of inner c)
comes (doctype.Keyword which n) b m ahead rest c is = in_keyword which b m ahead rest n c is
comes doctype.Begin b m ahead rest c is = subst (λ t. Comes b doctype.Begin m t rest c (doctype_step_of doctype.Begin c)) (sym is) (at_begin b m rest c)
comes doctype.BeforeName b m ahead rest c is = subst (λ t. Comes b doctype.BeforeName m t rest c (doctype_step_of doctype.BeforeName c)) (sym is) (before_name b m rest c)
comes doctype.Name b m ahead rest c is = subst (λ t. Comes b doctype.Name m t rest c (doctype_step_of doctype.Name c)) (sym is) (in_name b m rest c)
comes doctype.AfterName b m ahead rest c is = subst (λ t. Comes b doctype.AfterName m t rest c (doctype_step_of doctype.AfterName c)) (sym is) (after_name b m rest c)
comes (doctype.AfterKeyword id.Public) b m ahead rest c is = subst (λ t. Comes b (doctype.AfterKeyword id.Public) m t rest c (doctype_step_of (doctype.AfterKeyword id.Public) c)) (sym is) (after_public_keyword b m rest c)
comes (doctype.AfterKeyword id.System) b m ahead rest c is = subst (λ t. Comes b (doctype.AfterKeyword id.System) m t rest c (doctype_step_of (doctype.AfterKeyword id.System) c)) (sym is) (after_system_keyword b m rest c)
comes (doctype.BeforeId id.Public) b m ahead rest c is = subst (λ t. Comes b (doctype.BeforeId id.Public) m t rest c (doctype_step_of (doctype.BeforeId id.Public) c)) (sym is) (before_public_id b m rest c)
comes (doctype.BeforeId id.System) b m ahead rest c is = subst (λ t. Comes b (doctype.BeforeId id.System) m t rest c (doctype_step_of (doctype.BeforeId id.System) c)) (sym is) (before_system_id b m rest c)
comes (doctype.Quoted which mark) b m ahead rest c is = subst (λ t. Comes b (doctype.Quoted which mark) m t rest c (doctype_step_of (doctype.Quoted which mark) c)) (sym is) (in_quoted which mark b m rest c)
comes (doctype.AfterId id.Public) b m ahead rest c is = subst (λ t. Comes b (doctype.AfterId id.Public) m t rest c (doctype_step_of (doctype.AfterId id.Public) c)) (sym is) (after_public_id b m rest c)
comes (doctype.AfterId id.System) b m ahead rest c is = subst (λ t. Comes b (doctype.AfterId id.System) m t rest c (doctype_step_of (doctype.AfterId id.System) c)) (sym is) (after_system_id b m rest c)
comes doctype.BetweenIds b m ahead rest c is = subst (λ t. Comes b doctype.BetweenIds m t rest c (doctype_step_of doctype.BetweenIds c)) (sym is) (between_ids b m rest c)
comes doctype.Bogus b m ahead rest c is = subst (λ t. Comes b doctype.Bogus m t rest c (doctype_step_of doctype.Bogus c)) (sym is) (in_bogus b m rest c)
