-- The end of the page behind `<!` and in a doctype.
use Rattle.std.specs.Prelude.{◌≡◌, ℕ, zero, suc, ◌<◌, Bool, true, false, ◌==◌, List, [], ◌∷◌, map, take, codes, Option, Some, None, String, refl}
use Rattle.std.proofs.Common.{arith}
use Rattle.std.specs.Char.{to_ascii_lowercase}
use Rattle.std.proofs.lemmas.List.{append-nil}
use mathlib.Core.Path.{◌∙◌, sym, ap, subst}
use Rattle.standard_tokens.specs.Entries.{ForceQuirks, NewComment, Reconsume}
use Rattle.standard_tokens.specs.Machine.{Machine, at_state, no_doctype, step, taken}
use Rattle.standard_tokens.specs.States as there
use Rattle.standard_tokens.specs.Table.{entries}
use Rattle.standard_tokens.specs.Tokens.{Doctype as StandardDoctype, Token as StandardToken, AComment, ADoctype}
use Rattle.page_tokens.specs.PageEnds.{EndsMark, ended_doctype_of}
use Rattle.page_tokens.specs.Reading.{text_of}
use Rattle.page_tokens.specs.Standard.{DoctypeHeld, Goes, stays, Held, IsDoctype, IsKeyword, IsSeen, MaySpell, Spells, StopsAsStandard}
use Rattle.page_tokens.specs.StandardStates.{doctype_state_of, state_of}
use Rattle.page_tokens.specs.declared.token.TokenKind.{TokenKind}
use Rattle.page_tokens.specs.declared.token.TokenKind.TheVariants as token
use Rattle.page_tokens.specs.declared.tokenizer.Tokenizer.{Tokenizer}
use Rattle.page_tokens.specs.declared.tokenizer.state.CommentState.{CommentState}
use Rattle.page_tokens.specs.declared.tokenizer.state.DoctypeState.{DoctypeState}
use Rattle.page_tokens.specs.declared.tokenizer.state.DoctypeState.TheVariants as doctype
use Rattle.page_tokens.specs.declared.tokenizer.state.Id.TheVariants as id
use Rattle.page_tokens.specs.declared.tokenizer.state.Quote.TheVariants as quote
use Rattle.page_tokens.specs.declared.tokenizer.state.Seen.{Seen}
use Rattle.page_tokens.specs.declared.tokenizer.state.Seen.TheVariants as seen
use Rattle.page_tokens.specs.declared.tokenizer.state.State.TheVariants as state
use Rattle.page_tokens.proofs.CommentEnds.{comment_end}
use Rattle.page_tokens.proofs.CommentSteps.{commenting}
use Rattle.page_tokens.proofs.DeclarationSteps.{AllThemselves, bogus_run, bogus_taken, cdata_themselves, cdatas, dashes, doctypes, high_taken, letters_high, lower_themselves, map_same, same, themselves_taken}
use Rattle.page_tokens.proofs.DoctypeSteps.{IsAhead, at, behind_name, holding, no_keyword_taken, no_public, no_system, first_is}
use Rattle.page_tokens.proofs.DoctypeSteps.{bogus_run as doctype_run, letters_high as keyword_high}
use Rattle.page_tokens.proofs.PageEnds.{Stopping}
use Rattle.page_tokens.proofs.StandardSteps.{by_entry, in_its_state, taking, then_on}
use Rattle.page_tokens.proofs.WordSteps.{begun_fails}

behind_steps : {b : Bool} {m n : Machine} {text : List ℕ} {tokens : List StandardToken} → Goes m text [] n [] → Stopping b n [] [] [] tokens → Stopping b m text [] [] tokens
behind_steps goes ends = record { machine = ends.machine; goes = then_on goes ends.goes; stops = ends.stops; emits = ends.emits }

-- ---- behind `<!`

bogus_stops : (b : Bool) (m : Machine) (d : List ℕ) → Stopping b (commenting m there.BogusComment d) [] [] [] (AComment d ∷ [])
unfolding step taken entries
bogus_stops b m d = record { machine = commenting m there.BogusComment d; goes = stays; stops = refl; emits = refl }

-- what was read is a bogus comment
is_bogus : (b : Bool) (m : Machine) (ahead : List ℕ) → dashes ahead ≡ false → doctypes ahead ≡ false → cdatas ahead ≡ false → AllThemselves ahead →
    Stopping b (at_state m there.MarkupDeclarationOpen) ahead [] [] (AComment ahead ∷ [])
is_bogus b m ahead one two three all =
    let M : Machine = at_state m there.MarkupDeclarationOpen in
    let first : Goes M ahead [] (commenting m there.BogusComment []) ahead =
    by_entry M ahead (taking (NewComment ∷ []) (Reconsume there.BogusComment) (take 1 ahead)) (λ x. bogus_taken x M ahead one two three) refl in
    let run : Goes (commenting m there.BogusComment []) ahead [] (commenting m there.BogusComment ahead) [] =
    subst (λ t. Goes (commenting m there.BogusComment []) t [] (commenting m there.BogusComment ahead) []) (append-nil ahead) (bogus_run b m [] ahead [] all) in
    behind_steps (then_on first run) (bogus_stops b m ahead)

in_doctype_word : (b : Bool) (m : Machine) (ahead : List ℕ) (n : ℕ) → 0 < n → n < 7 → map to_ascii_lowercase ahead ≡ take n (codes "doctype") → Stopping b (at_state m there.MarkupDeclarationOpen) ahead [] [] (AComment ahead ∷ [])
in_doctype_word b m ahead zero some low is = absurd (omega (arith, some))
in_doctype_word b m [] (suc n) some low is = absurd (cc)
in_doctype_word b m (a ∷ ahead) (suc n) some low is =
    let first : to_ascii_lowercase a ≡ 100 = cc in
    is_bogus b m (a ∷ ahead) (rw (no_dash a first) refl) (begun_fails to_ascii_lowercase (codes "DOCTYPE") (a ∷ ahead) (suc n) is low) (rw (no_bracket a first) refl)
    (lower_themselves (a ∷ ahead) (take (suc n) (codes "doctype")) is (high_taken (suc n) (codes "doctype") letters_high))
  where
    no_dash : (a : ℕ) → to_ascii_lowercase a ≡ 100 → (45 == a) ≡ false
    no_dash a is = grind arith

    no_bracket : (a : ℕ) → to_ascii_lowercase a ≡ 100 → (91 == a) ≡ false
    no_bracket a is = grind arith

in_cdata_word : (b : Bool) (m : Machine) (n : ℕ) → 0 < n → n < 7 → Stopping b (at_state m there.MarkupDeclarationOpen) (take n (codes "[CDATA[")) [] [] (AComment (take n (codes "[CDATA[")) ∷ [])
in_cdata_word b m zero some low = absurd (omega (arith, some))
in_cdata_word b m (suc n) some low =
    is_bogus b m (take (suc n) (codes "[CDATA[")) refl refl (begun_fails same (codes "[CDATA[") (take (suc n) (codes "[CDATA[")) (suc n) (map_same (take (suc n) (codes "[CDATA["))) low)
    (themselves_taken (suc n) (codes "[CDATA[") cdata_themselves)

declared_stops : (s : Seen) (b : Bool) (m : Machine) (ahead : List ℕ) → IsSeen s ahead → Stopping b (at_state m there.MarkupDeclarationOpen) ahead [] [] (AComment ahead ∷ [])
declared_stops seen.Nothing b m ahead is = subst (λ t. Stopping b (at_state m there.MarkupDeclarationOpen) t [] [] (AComment t ∷ [])) (sym is) (is_bogus b m [] refl refl refl tt)
declared_stops seen.Dash b m ahead is =
    subst (λ t. Stopping b (at_state m there.MarkupDeclarationOpen) t [] [] (AComment t ∷ [])) (sym is) (is_bogus b m (codes "-") refl refl refl (record { no_end = refl; no_null = refl }, tt))
declared_stops (seen.Doctype n) b m ahead is = in_doctype_word b m ahead n is.0 is.1 is.2
declared_stops (seen.Cdata n) b m ahead is = subst (λ t. Stopping b (at_state m there.MarkupDeclarationOpen) t [] [] (AComment t ∷ [])) (sym is.2) (in_cdata_word b m n is.0 is.1)

declaration_ends : (old new : Tokenizer) (s : Seen) → old.state ≡ state.Declaration s → new ≡ record old { state = state.Data } → StopsAsStandard old new (Some token.Comment)
declaration_ends old new s is only m ahead stands =
    let held : Held (state.Declaration s) old ahead m = subst (λ s. Held s old ahead m) is stands.held in
    let b : Bool = old.in_foreign in
    let ends : Stopping b (at_state m there.MarkupDeclarationOpen) ahead [] [] (AComment ahead ∷ []) = declared_stops s b m ahead held.1 in
    record {
      machine = ends.machine;
      characters = [];
      last = [];
      tokens = AComment ahead ∷ [];
      goes = subst (λ k. Goes k ahead [] ends.machine []) (in_its_state m there.MarkupDeclarationOpen (stands.state ∙ ap state_of is)) ends.goes;
      stops = ends.stops;
      emits = ends.emits;
      text = ap text_of only ∙ sym (append-nil (text_of old));
      ends = (ahead, refl, subst (λ (t : Tokenizer). Spells t.comment ahead) (sym only) held.0);
    }

-- ---- in a doctype

abbrev quirky : StandardDoctype → StandardDoctype
quirky one = record one { force_quirks = true }

-- the doctype that the standard emits
abbrev ended_there : DoctypeState → StandardDoctype → StandardDoctype
ended_there doctype.Begin one = quirky no_doctype
ended_there doctype.BeforeName one = quirky no_doctype
ended_there doctype.Bogus one = one
ended_there _ one = quirky one

malformed_stops : (b : Bool) (m : Machine) (one : StandardDoctype) → Stopping b (holding m there.BogusDOCTYPE one) [] [] [] (ADoctype one ∷ [])
unfolding step taken entries
malformed_stops b m one = record { machine = holding m there.BogusDOCTYPE one; goes = stays; stops = refl; emits = refl }

-- the letters of a keyword are no keyword
run_out : (b : Bool) (m : Machine) (front : List ℕ) (one : StandardDoctype) → AllThemselves front → Goes (holding m there.BogusDOCTYPE one) front [] (holding m there.BogusDOCTYPE one) []
run_out b m front one all =
    subst (λ t. Goes (holding m there.BogusDOCTYPE one) t [] (holding m there.BogusDOCTYPE one) []) (append-nil front) (doctype_run b m front [] one all)

in_public : (b : Bool) (m : Machine) (ahead : List ℕ) (n : ℕ) → IsKeyword id.Public n ahead → Stopping b (behind_name m) ahead [] [] (ADoctype (quirky m.doctype) ∷ [])
in_public b m ahead zero is = absurd (omega (arith, is.0))
in_public b m [] (suc n) is = absurd (none is.2)
  where
    none : [] ≡ take (suc n) (codes "public") → ⊥
    none e = cc
in_public b m (a ∷ ahead) (suc n) is =
    let low : to_ascii_lowercase a ≡ 112 = cc in
    behind_steps (then_on (by_entry (behind_name m) (a ∷ ahead) (taking (ForceQuirks ∷ []) (Reconsume there.BogusDOCTYPE) (a ∷ []))
    (λ x. no_keyword_taken x (behind_name m) a ahead (first_is id.Public a low) (begun_fails to_ascii_lowercase (codes "PUBLIC") (a ∷ ahead) (suc n) is.2 is.1) (no_system a ahead low)) refl)
    (run_out b m (a ∷ ahead) (quirky m.doctype) (lower_themselves (a ∷ ahead) (take (suc n) (codes "public")) is.2 (high_taken (suc n) (codes "public") (keyword_high id.Public)))))
    (malformed_stops b m (quirky m.doctype))

in_system : (b : Bool) (m : Machine) (ahead : List ℕ) (n : ℕ) → IsKeyword id.System n ahead → Stopping b (behind_name m) ahead [] [] (ADoctype (quirky m.doctype) ∷ [])
in_system b m ahead zero is = absurd (omega (arith, is.0))
in_system b m [] (suc n) is = absurd (none is.2)
  where
    none : [] ≡ take (suc n) (codes "system") → ⊥
    none e = cc
in_system b m (a ∷ ahead) (suc n) is =
    let low : to_ascii_lowercase a ≡ 115 = cc in
    behind_steps (then_on (by_entry (behind_name m) (a ∷ ahead) (taking (ForceQuirks ∷ []) (Reconsume there.BogusDOCTYPE) (a ∷ []))
    (λ x. no_keyword_taken x (behind_name m) a ahead (first_is id.System a low) (no_public a ahead low) (begun_fails to_ascii_lowercase (codes "SYSTEM") (a ∷ ahead) (suc n) is.2 is.1)) refl)
    (run_out b m (a ∷ ahead) (quirky m.doctype) (lower_themselves (a ∷ ahead) (take (suc n) (codes "system")) is.2 (high_taken (suc n) (codes "system") (keyword_high id.System)))))
    (malformed_stops b m (quirky m.doctype))

-- nothing is read ahead
with_nothing : (m : Machine) (ahead : List ℕ) (b : Bool) (tokens : List StandardToken) → ahead ≡ [] → Stopping b m [] [] [] tokens → Stopping b m ahead [] [] tokens
with_nothing m ahead b tokens nothing ends = subst (λ t. Stopping b m t [] [] tokens) (sym nothing) ends

doctype_stops : (inner : DoctypeState) (b : Bool) (m : Machine) (ahead : List ℕ) → IsAhead inner ahead → Stopping b (at inner m) ahead [] [] (ADoctype (ended_there inner m.doctype) ∷ [])
unfolding step taken entries
doctype_stops doctype.Begin b m ahead is = with_nothing _ ahead b _ is (record { machine = at doctype.Begin m; goes = stays; stops = refl; emits = refl })
doctype_stops doctype.BeforeName b m ahead is = with_nothing _ ahead b _ is (record { machine = at doctype.BeforeName m; goes = stays; stops = refl; emits = refl })
doctype_stops doctype.Name b m ahead is = with_nothing _ ahead b _ is (record { machine = at doctype.Name m; goes = stays; stops = refl; emits = refl })
doctype_stops doctype.AfterName b m ahead is = with_nothing _ ahead b _ is (record { machine = at doctype.AfterName m; goes = stays; stops = refl; emits = refl })
doctype_stops (doctype.Keyword id.Public n) b m ahead is = in_public b m ahead n is
doctype_stops (doctype.Keyword id.System n) b m ahead is = in_system b m ahead n is
doctype_stops (doctype.AfterKeyword id.Public) b m ahead is = with_nothing _ ahead b _ is (record { machine = at (doctype.AfterKeyword id.Public) m; goes = stays; stops = refl; emits = refl })
doctype_stops (doctype.AfterKeyword id.System) b m ahead is = with_nothing _ ahead b _ is (record { machine = at (doctype.AfterKeyword id.System) m; goes = stays; stops = refl; emits = refl })
doctype_stops (doctype.BeforeId id.Public) b m ahead is = with_nothing _ ahead b _ is (record { machine = at (doctype.BeforeId id.Public) m; goes = stays; stops = refl; emits = refl })
doctype_stops (doctype.BeforeId id.System) b m ahead is = with_nothing _ ahead b _ is (record { machine = at (doctype.BeforeId id.System) m; goes = stays; stops = refl; emits = refl })
doctype_stops (doctype.Quoted id.Public quote.Double) b m ahead is = with_nothing _ ahead b _ is (record { machine = at (doctype.Quoted id.Public quote.Double) m; goes = stays; stops = refl; emits = refl })
doctype_stops (doctype.Quoted id.Public quote.Single) b m ahead is = with_nothing _ ahead b _ is (record { machine = at (doctype.Quoted id.Public quote.Single) m; goes = stays; stops = refl; emits = refl })
doctype_stops (doctype.Quoted id.System quote.Double) b m ahead is = with_nothing _ ahead b _ is (record { machine = at (doctype.Quoted id.System quote.Double) m; goes = stays; stops = refl; emits = refl })
doctype_stops (doctype.Quoted id.System quote.Single) b m ahead is = with_nothing _ ahead b _ is (record { machine = at (doctype.Quoted id.System quote.Single) m; goes = stays; stops = refl; emits = refl })
doctype_stops (doctype.AfterId id.Public) b m ahead is = with_nothing _ ahead b _ is (record { machine = at (doctype.AfterId id.Public) m; goes = stays; stops = refl; emits = refl })
doctype_stops (doctype.AfterId id.System) b m ahead is = with_nothing _ ahead b _ is (record { machine = at (doctype.AfterId id.System) m; goes = stays; stops = refl; emits = refl })
doctype_stops doctype.BetweenIds b m ahead is = with_nothing _ ahead b _ is (record { machine = at doctype.BetweenIds m; goes = stays; stops = refl; emits = refl })
doctype_stops doctype.Bogus b m ahead is = with_nothing _ ahead b _ is (record { machine = at doctype.Bogus m; goes = stays; stops = refl; emits = refl })

missing : {A : Type 0} (text : Option (String A)) → text ≡ None → MaySpell text None
missing text e = subst (λ t. MaySpell t None) (sym e) tt

-- what is held of it
holds_doctype : (inner : DoctypeState) (t : Tokenizer) (ahead : List ℕ) (m : Machine) → DoctypeHeld inner t ahead m → IsAhead inner ahead × IsDoctype (ended_doctype_of inner t.doctype) (ended_there inner m.doctype)
holds_doctype doctype.Begin t ahead m held = (held.0, record { name = missing t.doctype.name held.1.name; public_id = missing t.doctype.public_id held.1.public_id; system_id = missing t.doctype.system_id held.1.system_id; force_quirks = refl })
holds_doctype doctype.BeforeName t ahead m held = (held.0, record { name = missing t.doctype.name held.1.name; public_id = missing t.doctype.public_id held.1.public_id; system_id = missing t.doctype.system_id held.1.system_id; force_quirks = refl })
holds_doctype doctype.Name t ahead m held = (held.0, record { name = held.1.name; public_id = held.1.public_id; system_id = held.1.system_id; force_quirks = refl })
holds_doctype doctype.AfterName t ahead m held = (held.0, record { name = held.1.name; public_id = held.1.public_id; system_id = held.1.system_id; force_quirks = refl })
holds_doctype (doctype.Keyword which n) t ahead m held = (held.0, record { name = held.1.name; public_id = held.1.public_id; system_id = held.1.system_id; force_quirks = refl })
holds_doctype (doctype.AfterKeyword which) t ahead m held = (held.0, record { name = held.1.name; public_id = held.1.public_id; system_id = held.1.system_id; force_quirks = refl })
holds_doctype (doctype.BeforeId which) t ahead m held = (held.0, record { name = held.1.name; public_id = held.1.public_id; system_id = held.1.system_id; force_quirks = refl })
holds_doctype (doctype.Quoted which mark) t ahead m held = (held.0, record { name = held.1.name; public_id = held.1.public_id; system_id = held.1.system_id; force_quirks = refl })
holds_doctype (doctype.AfterId which) t ahead m held = (held.0, record { name = held.1.name; public_id = held.1.public_id; system_id = held.1.system_id; force_quirks = refl })
holds_doctype doctype.BetweenIds t ahead m held = (held.0, record { name = held.1.name; public_id = held.1.public_id; system_id = held.1.system_id; force_quirks = refl })
holds_doctype doctype.Bogus t ahead m held = (held.0, held.1)

doctype_ends : (old new : Tokenizer) (inner : DoctypeState) → old.state ≡ state.Doctype inner → new ≡ record old { state = state.Data; doctype = ended_doctype_of inner old.doctype } → StopsAsStandard old new (Some token.Doctype)
doctype_ends old new inner is only m ahead stands =
    let held : DoctypeHeld inner old ahead m = subst (λ s. Held s old ahead m) is stands.held in
    let has : IsAhead inner ahead × IsDoctype (ended_doctype_of inner old.doctype) (ended_there inner m.doctype) = holds_doctype inner old ahead m held in
    let b : Bool = old.in_foreign in
    let ends : Stopping b (at inner m) ahead [] [] (ADoctype (ended_there inner m.doctype) ∷ []) = doctype_stops inner b m ahead has.0 in
    record {
      machine = ends.machine;
      characters = [];
      last = [];
      tokens = ADoctype (ended_there inner m.doctype) ∷ [];
      goes = subst (λ k. Goes k ahead [] ends.machine []) (in_its_state m (doctype_state_of inner) (stands.state ∙ ap state_of is)) ends.goes;
      stops = ends.stops;
      emits = ends.emits;
      text = ap text_of only ∙ sym (append-nil (text_of old));
      ends = (ended_there inner m.doctype, refl, subst (λ (t : Tokenizer). IsDoctype t.doctype (ended_there inner m.doctype)) (sym only) has.1);
    }

-- ---- the arms

ends_mark : (old new : Tokenizer) (kind told : Option TokenKind) → told ≡ kind → new.refused ≡ old.refused → StopsAsStandard old new kind → new.refused ≡ false → EndsMark old new told
ends_mark old new kind told is same stops memory = subst (EndsMark old new) (sym is) (record { memory = sym same ∙ memory; stops = stops })

pub declaration_arm : (old new : Tokenizer) (s : Seen) (told : Option TokenKind) → old.state ≡ state.Declaration s → told ≡ Some token.Comment → new ≡ record old { state = state.Data } → new.refused ≡ false → EndsMark old new told
declaration_arm old new s told is told_is only = ends_mark old new (Some token.Comment) told told_is (ap (λ t. t.refused) only) (declaration_ends old new s is only)

pub comment_arm : (old new : Tokenizer) (inner : CommentState) (told : Option TokenKind) → old.state ≡ state.Comment inner → told ≡ Some token.Comment → new ≡ record old { state = state.Data } → new.refused ≡ false → EndsMark old new told
comment_arm old new inner told is told_is only = ends_mark old new (Some token.Comment) told told_is (ap (λ t. t.refused) only) (comment_end old new inner is only)

pub doctype_arm : (old new : Tokenizer) (inner : DoctypeState) (told : Option TokenKind) → old.state ≡ state.Doctype inner → told ≡ Some token.Doctype →
    new ≡ record old { state = state.Data; doctype = ended_doctype_of inner old.doctype } → new.refused ≡ false → EndsMark old new told
doctype_arm old new inner told is told_is only = ends_mark old new (Some token.Doctype) told told_is (ap (λ t. t.refused) only) (doctype_ends old new inner is only)
