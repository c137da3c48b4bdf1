-- Runs in the identifiers of a doctype are copied as the standard reads them.
use Rattle.std.specs.Prelude.{◌≡◌, ℕ, ◌<◌, Bool, true, false, List, [], ◌∷◌, ◌++◌, length, Option, None, Some, String, string_bytes, unwrap_or, refl}
use Rattle.std.proofs.Common.{arith}
use Rattle.std.specs.Str.{encode_utf8_all}
use Rattle.std.proofs.lemmas.List.{append_assoc}
use mathlib.Core.Path.{◌∙◌, sym, ap, subst}
use Rattle.standard_tokens.specs.Machine.{Machine, with_more}
use Rattle.standard_tokens.specs.Tokens.{Doctype as StandardDoctype}
use Rattle.page_tokens.specs.DoctypeSteps.{doctype_step_of}
use Rattle.page_tokens.specs.FastPaths.{Appends, AppendsToId}
use Rattle.page_tokens.specs.RunEnds.{ends_run}
use Rattle.page_tokens.specs.Standard.{DoctypeHeld, FollowsStandard, Goes, Held, IsDoctype, MaySpell}
use Rattle.page_tokens.specs.StandardStates.{doctype_state_of, state_of}
use Rattle.page_tokens.specs.declared.token.Doctype.{Doctype}
use Rattle.page_tokens.specs.declared.tokenizer.Tokenizer.{Tokenizer}
use Rattle.page_tokens.specs.declared.tokenizer.doctypes.DoctypeStep.TheVariants as its
use Rattle.page_tokens.specs.declared.tokenizer.runs.Run.TheVariants as run
use Rattle.page_tokens.specs.declared.tokenizer.state.DoctypeState.{DoctypeState}
use Rattle.page_tokens.specs.declared.tokenizer.state.DoctypeState.TheVariants as doctype
use Rattle.page_tokens.specs.declared.tokenizer.state.Id.{Id}
use Rattle.page_tokens.specs.declared.tokenizer.state.Id.TheVariants as id
use Rattle.page_tokens.specs.declared.tokenizer.state.Quote.{Quote}
use Rattle.page_tokens.specs.declared.tokenizer.state.Quote.TheVariants as quote
use Rattle.page_tokens.specs.declared.tokenizer.state.State.TheVariants as state
use Rattle.page_tokens.proofs.DeclarationFollows.{led}
use Rattle.page_tokens.proofs.DoctypeFollows.{with_public, with_system}
use Rattle.page_tokens.proofs.DoctypeSteps.{Comes, comes, holding, id_of, with_id}
use Rattle.page_tokens.proofs.RunFollows.{NoneEnds, each, gathered_plain, is_other, more_spelled, shown_same}
use Rattle.page_tokens.proofs.StandardSteps.{in_its_state, then_on}

-- a character of a run is a letter of the identifier
letter_of : (which : Id) (mark : Quote) (c : ℕ) → ends_run (run.DoctypeId which mark) c ≡ false → doctype_step_of (doctype.Quoted which mark) c ≡ its.IdLetter which
letter_of which quote.Double c goes_on =
    let ends : ℕ → Bool = ends_run (run.DoctypeId which quote.Double) in
    rw (is_other ends c 34 goes_on refl, is_other ends c 62 goes_on refl) refl
letter_of which quote.Single c goes_on =
    let ends : ℕ → Bool = ends_run (run.DoctypeId which quote.Single) in
    rw (is_other ends c 39 goes_on refl, is_other ends c 62 goes_on refl) refl

null_ends : (which : Id) (mark : Quote) → ends_run (run.DoctypeId which mark) 0 ≡ true
null_ends which quote.Double = refl
null_ends which quote.Single = refl

-- the machine with this identifier
abbrev with_text : Machine → Id → Quote → Option (List ℕ) → Machine
with_text m which mark text = holding m (doctype_state_of (doctype.Quoted which mark)) (with_id which text m.doctype)

one_more : (b : Bool) (m : Machine) (which : Id) (mark : Quote) (text : Option (List ℕ)) (c : ℕ) (rest : List ℕ) → ends_run (run.DoctypeId which mark) c ≡ false →
    Goes (with_text m which mark text) (c ∷ rest) [] (with_text m which mark (with_more text (c ∷ []))) rest
one_more b m id.Public mark text c rest goes_on =
    let k : Machine = with_text m id.Public mark text in
    let inner : DoctypeState = doctype.Quoted id.Public mark in
    let steps : Comes b inner k [] rest c (its.IdLetter id.Public) = subst (Comes b inner k [] rest c) (letter_of id.Public mark c goes_on) (comes inner b k [] rest c refl) in
    subst (λ d. Goes k (c ∷ rest) [] (with_text m id.Public mark (with_more text (d ∷ []))) rest) (shown_same (ends_run (run.DoctypeId id.Public mark)) c goes_on (null_ends id.Public mark)) steps.0
one_more b m id.System mark text c rest goes_on =
    let k : Machine = with_text m id.System mark text in
    let inner : DoctypeState = doctype.Quoted id.System mark in
    let steps : Comes b inner k [] rest c (its.IdLetter id.System) = subst (Comes b inner k [] rest c) (letter_of id.System mark c goes_on) (comes inner b k [] rest c refl) in
    subst (λ d. Goes k (c ∷ rest) [] (with_text m id.System mark (with_more text (d ∷ []))) rest) (shown_same (ends_run (run.DoctypeId id.System mark)) c goes_on (null_ends id.System mark)) steps.0

-- all of them
all_more : (b : Bool) (m : Machine) (which : Id) (mark : Quote) (text : Option (List ℕ)) (cs rest : List ℕ) → 0 < length cs → NoneEnds (ends_run (run.DoctypeId which mark)) cs →
    Goes (with_text m which mark text) (cs ++ rest) [] (with_text m which mark (with_more text cs)) rest
all_more b m which mark text [] rest some all = absurd (omega (arith, some))
all_more b m which mark text (c ∷ cs) rest some all =
    let ends : ℕ → Bool = ends_run (run.DoctypeId which mark) in
    let parts : (ends c ≡ false) × NoneEnds ends cs = each ends c cs all in
    let front : List ℕ = unwrap_or text [] ++ c ∷ [] in
    subst (λ d. Goes (with_text m which mark text) (c ∷ (cs ++ rest)) [] (with_text m which mark (Some d)) rest) (append_assoc (unwrap_or text []) (c ∷ []) cs)
    (then_on (one_more b m which mark text c (cs ++ rest) parts.0)
    (gathered_plain ends (λ d. with_text m which mark (Some d)) (λ d c rest goes_on. one_more b m which mark (Some d) c rest goes_on) front cs rest parts.1))

-- ---- what is held

appended : {A : Type 0} (old new : Option (String A)) (text : Option (List ℕ)) (cs : List ℕ) → MaySpell old text → Appends old new (encode_utf8_all cs) → MaySpell new (with_more text cs)
appended None None text cs spells adds = absurd adds
appended None (Some new) None cs spells adds = adds
appended None (Some new) (Some read) cs spells adds = absurd spells
appended (Some old) None text cs spells adds = absurd adds
appended (Some old) (Some new) None cs spells adds = absurd spells
appended (Some old) (Some new) (Some read) cs spells adds = more_spelled (string_bytes new) (string_bytes old) cs read adds spells

-- the doctype is that of the standard
record Appended (old new : Tokenizer) (which : Id) (other : StandardDoctype) (cs : List ℕ) : Type 0 where
  pub only : new ≡ record old { doctype = new.doctype }
  pub doctype : IsDoctype new.doctype (with_id which (with_more (id_of which other) cs) other)

is_appended : (old new : Tokenizer) (which : Id) (other : StandardDoctype) (cs : List ℕ) → AppendsToId which old new (encode_utf8_all cs) → IsDoctype old.doctype other → Appended old new which other cs
is_appended old new id.Public other cs adds is = record {
  only = adds.0 ∙ ap {A = Doctype} (λ d. record old { doctype = d }) (sym (ap (λ t. t.doctype) adds.0));
  doctype = with_public old.doctype new.doctype other (with_more other.public_id cs) (ap (λ t. t.doctype) adds.0) is (appended old.doctype.public_id new.doctype.public_id other.public_id cs is.public_id adds.1);
}
is_appended old new id.System other cs adds is = record {
  only = adds.0 ∙ ap {A = Doctype} (λ d. record old { doctype = d }) (sym (ap (λ t. t.doctype) adds.0));
  doctype = with_system old.doctype new.doctype other (with_more other.system_id cs) (ap (λ t. t.doctype) adds.0) is (appended old.doctype.system_id new.doctype.system_id other.system_id cs is.system_id adds.1);
}

only_doctype : (old new : Tokenizer) (which : Id) (more : List ℕ) → AppendsToId which old new more → new ≡ record old { doctype = new.doctype }
only_doctype old new id.Public more adds = adds.0 ∙ ap {A = Doctype} (λ d. record old { doctype = d }) (sym (ap (λ t. t.doctype) adds.0))
only_doctype old new id.System more adds = adds.0 ∙ ap {A = Doctype} (λ d. record old { doctype = d }) (sym (ap (λ t. t.doctype) adds.0))

at_id : (m : Machine) (which : Id) (mark : Quote) → m.state ≡ doctype_state_of (doctype.Quoted which mark) → with_text m which mark (id_of which m.doctype) ≡ m
at_id m id.Public mark at = in_its_state m (doctype_state_of (doctype.Quoted id.Public mark)) at
at_id m id.System mark at = in_its_state m (doctype_state_of (doctype.Quoted id.System mark)) at

pub id_run : (old new : Tokenizer) (which : Id) (mark : Quote) (cs : List ℕ) → old.state ≡ state.Doctype (doctype.Quoted which mark) → AppendsToId which old new (encode_utf8_all cs) → 0 < length cs → old.refused ≡ false →
    NoneEnds (ends_run (run.DoctypeId which mark)) cs → FollowsStandard old new cs None
id_run old new which mark cs is adds some none all =
    let made : Tokenizer = record old { doctype = new.doctype } in
    let only : new ≡ made = only_doctype old new which (encode_utf8_all cs) adds in
    subst (λ t. FollowsStandard old t cs None) (sym only)
    (led old made cs none (record { in_foreign = refl; after_return = refl }) refl (λ m ahead rest stands.
    let inner : DoctypeState = doctype.Quoted which mark in
    let held : DoctypeHeld inner old ahead m = subst (λ s. Held s old ahead m) is stands.held in
    let b : Bool = old.in_foreign in
    let text : Option (List ℕ) = id_of which m.doctype in
    let n : Machine = with_text m which mark (with_more text cs) in
    let to : Appended old new which m.doctype cs = is_appended old new which m.doctype cs adds held.1 in
    record {
      machine = n;
      goes = subst (λ front. Goes m (front ++ cs ++ rest) [] n rest) (sym held.0)
          (subst (λ k. Goes k (cs ++ rest) [] n rest) (at_id m which mark (stands.state ∙ ap state_of is)) (all_more b m which mark text cs rest some all));
      stands = record { reference = stands.reference; state = ap state_of (sym is); last_start = stands.last_start; held = subst (λ s. Held s made [] n) (sym is) (refl, to.doctype) };
    }))
