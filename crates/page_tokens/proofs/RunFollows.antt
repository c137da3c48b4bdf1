-- Runs are copied as the standard reads them, one character after the other.
use Rattle.std.specs.Prelude.{◌≡◌, ℕ, ◌<◌, Bool, true, false, not, ◌==◌, cond, List, [], ◌∷◌, ◌++◌, map, length, None, string_bytes, refl}
use Rattle.std.specs.Char.{encode_utf8, to_ascii_lowercase}
use Rattle.std.specs.List.{list_all}
use Rattle.std.specs.Str.{encode_utf8_all}
use Rattle.std.proofs.lemmas.Bool.{and_parts, ne_eqb, true≢false}
use Rattle.std.proofs.lemmas.List.{append-nil, append_assoc}
use Rattle.std.proofs.lemmas.Str.{encodes-append}
use mathlib.Core.Path.{◌∙◌, sym, ap, subst}
use Rattle.standard_tokens.specs.Machine.{Machine, at_state}
use Rattle.standard_tokens.specs.States as there
use Rattle.standard_tokens.specs.Tokens.{AChar}
use Rattle.page_tokens.specs.Comments.{shown_of}
use Rattle.page_tokens.specs.FastPaths.{AddsToComment, AddsToTagName, AddsToText}
use Rattle.page_tokens.specs.Standard.{FollowsStandard, Goes, Held, IsDraft, stays}
use Rattle.page_tokens.specs.StandardStates.{comment_state_of, state_of}
use Rattle.page_tokens.specs.declared.tokenizer.Tokenizer.{Tokenizer}
use Rattle.page_tokens.specs.declared.tokenizer.state.CommentState.{CommentState}
use Rattle.page_tokens.specs.declared.tokenizer.state.State.{State}
use Rattle.page_tokens.specs.declared.tokenizer.state.State.TheVariants as state
use Rattle.page_tokens.specs.declared.tokenizer.state.TagState.TheVariants as tag
use Rattle.page_tokens.proofs.CommentFollows.{InComment, in_comment}
use Rattle.page_tokens.proofs.CommentSteps.{commenting}
use Rattle.page_tokens.proofs.DeclarationFollows.{led}
use Rattle.page_tokens.proofs.Lowered.{lowered_encoded, map_append}
use Rattle.page_tokens.proofs.RunSteps.{emitted_run}
use Rattle.page_tokens.proofs.StandardSteps.{in_its_state, then_on}
use Rattle.page_tokens.proofs.Switches.{ReadsNothingAhead}
use Rattle.page_tokens.proofs.TagNames.{long}
use Rattle.page_tokens.proofs.TagSteps.{naming}
use Rattle.page_tokens.proofs.TextFollows.{HoldsNothing, Over, emits_text}

-- ---- the characters of a run

-- none of the characters ends the run
abbrev pub NoneEnds : (ℕ → Bool) → List ℕ → Type 0
NoneEnds ends cs = list_all (λ c. not (ends c)) cs ≡ true

pub not_true : (x : Bool) → not x ≡ true → x ≡ false
not_true true h = absurd (cc)
not_true false h = refl

pub each : (ends : ℕ → Bool) (c : ℕ) (cs : List ℕ) → NoneEnds ends (c ∷ cs) → (ends c ≡ false) × NoneEnds ends cs
each ends c cs all =
    let parts : (not (ends c) ≡ true) × NoneEnds ends cs = and_parts (not (ends c)) (list_all (λ c. not (ends c)) cs) all in
    (not_true (ends c) parts.0, parts.1)

-- a character that does not end the run is another one than one that does
pub is_other : (ends : ℕ → Bool) (c k : ℕ) → ends c ≡ false → ends k ≡ true → (c == k) ≡ false
is_other ends c k goes_on stops = ne_eqb c k (λ e. true≢false (sym stops ∙ ap ends (sym e) ∙ goes_on))

pub shown_same : (ends : ℕ → Bool) (c : ℕ) → ends c ≡ false → ends 0 ≡ true → shown_of c ≡ c
shown_same ends c goes_on null = ap (λ x. cond x 0xfffd c) (is_other ends c 0 goes_on null)

-- ---- a run that is gathered

-- each character is gathered as `f` has it; M d is the machine that has gathered d
pub gathered_by : (f : ℕ → ℕ) (ends : ℕ → Bool) (M : List ℕ → Machine) →
    ((d : List ℕ) (c : ℕ) (rest : List ℕ) → ends c ≡ false → Goes (M d) (c ∷ rest) [] (M (d ++ f c ∷ [])) rest) →
    (d front rest : List ℕ) → NoneEnds ends front → Goes (M d) (front ++ rest) [] (M (d ++ map f front)) rest
gathered_by f ends M one d [] rest all = subst (λ e. Goes (M d) rest [] (M e) rest) (sym (append-nil d)) stays
gathered_by f ends M one d (c ∷ front) rest all =
    let parts : (ends c ≡ false) × NoneEnds ends front = each ends c front all in
    subst (λ e. Goes (M d) (c ∷ (front ++ rest)) [] (M e) rest) (append_assoc d (f c ∷ []) (map f front))
    (then_on (one d c (front ++ rest) parts.0) (gathered_by f ends M one (d ++ f c ∷ []) front rest parts.1))

map_same : (cs : List ℕ) → map (λ c. c) cs ≡ cs
map_same [] = refl
map_same (c ∷ cs) = ap (λ t. c ∷ t) (map_same cs)

-- each is gathered as it is
pub gathered_plain : (ends : ℕ → Bool) (M : List ℕ → Machine) →
    ((d : List ℕ) (c : ℕ) (rest : List ℕ) → ends c ≡ false → Goes (M d) (c ∷ rest) [] (M (d ++ c ∷ [])) rest) →
    (d front rest : List ℕ) → NoneEnds ends front → Goes (M d) (front ++ rest) [] (M (d ++ front)) rest
gathered_plain ends M one d front rest all = subst (λ e. Goes (M d) (front ++ rest) [] (M (d ++ e)) rest) (map_same front) (gathered_by (λ c. c) ends M one d front rest all)

-- the bytes of what is gathered
pub more_spelled : (bytes old more : List ℕ) (read : List ℕ) → bytes ≡ old ++ encode_utf8_all more → old ≡ encode_utf8_all read → bytes ≡ encode_utf8_all (read ++ more)
more_spelled bytes old more read is old_is = is ∙ ap (λ e. e ++ encode_utf8_all more) old_is ∙ sym (encodes-append read more)

pub all_lowered : (cs : List ℕ) → map to_ascii_lowercase (encode_utf8_all cs) ≡ encode_utf8_all (map to_ascii_lowercase cs)
all_lowered [] = refl
all_lowered (c ∷ cs) =
    map_append to_ascii_lowercase (encode_utf8 c) (encode_utf8_all cs) ∙ ap (λ e. e ++ map to_ascii_lowercase (encode_utf8_all cs)) (lowered_encoded c)
    ∙ ap (λ e. encode_utf8 (to_ascii_lowercase c) ++ e) (all_lowered cs)

-- the same of a name, in lower case
pub more_lowered : (bytes old more : List ℕ) (read : List ℕ) → bytes ≡ old ++ encode_utf8_all more → map to_ascii_lowercase old ≡ encode_utf8_all read →
    map to_ascii_lowercase bytes ≡ encode_utf8_all (read ++ map to_ascii_lowercase more)
more_lowered bytes old more read is old_is =
    ap (map to_ascii_lowercase) is ∙ map_append to_ascii_lowercase old (encode_utf8_all more) ∙ ap (λ e. map to_ascii_lowercase old ++ e) (all_lowered more)
    ∙ ap (λ e. e ++ encode_utf8_all (map to_ascii_lowercase more)) old_is ∙ sym (encodes-append read (map to_ascii_lowercase more))

-- ---- text

pub text_run : (old new : Tokenizer) (from : State) (ends : ℕ → Bool) (cs : List ℕ) → old.state ≡ from → AddsToText old new (encode_utf8_all cs) → old.refused ≡ false →
    ((c : ℕ) → ends c ≡ false → Over from from c (c ∷ [])) → ReadsNothingAhead from → HoldsNothing from → NoneEnds ends cs → FollowsStandard old new cs None
text_run old new from ends cs is adds none over nothing holds all =
    let made : Tokenizer = record old { text = new.text } in
    subst (λ t. FollowsStandard old t cs None) (sym adds.0)
    (emits_text old made cs cs none (record { in_foreign = refl; after_return = refl }) adds.1 (λ m ahead rest stands.
    let held : Held from old ahead m = subst (λ s. Held s old ahead m) is stands.held in
    let b : Bool = old.in_foreign in
    let n : Machine = at_state m (state_of from) in
    let at : m.state ≡ state_of from = stands.state ∙ ap state_of is in
    let run : Goes n (cs ++ rest) (map AChar cs) n rest = emitted_run (λ c. not (ends c)) n (λ c rest goes_on. over c (not_true (ends c) goes_on) b m rest) cs rest all in
    record {
      machine = n;
      goes = subst (λ front. Goes m (front ++ cs ++ rest) (map AChar cs) n rest) (sym (nothing old ahead m held)) (subst (λ k. Goes k (cs ++ rest) (map AChar cs) n rest) (in_its_state m (state_of from) at) run);
      stands = record { reference = stands.reference; state = ap state_of (sym is); last_start = stands.last_start; held = subst (λ s. Held s made [] n) (sym is) (holds made n) };
    }))

-- ---- comments

pub comment_run : (old new : Tokenizer) (inner : CommentState) (ends : ℕ → Bool) (cs : List ℕ) → old.state ≡ state.Comment inner → AddsToComment old new (encode_utf8_all cs) → old.refused ≡ false →
    ((b : Bool) (m : Machine) (d : List ℕ) (c : ℕ) (rest : List ℕ) → ends c ≡ false →
    Goes (commenting m (comment_state_of inner) d) (c ∷ rest) [] (commenting m (comment_state_of inner) (d ++ c ∷ [])) rest) →
    NoneEnds ends cs → FollowsStandard old new cs None
comment_run old new inner ends cs is adds none one all =
    let made : Tokenizer = record old { comment = new.comment } in
    subst (λ t. FollowsStandard old t cs None) (sym adds.0)
    (led old made cs none (record { in_foreign = refl; after_return = refl }) refl (λ m ahead rest stands.
    let at : InComment old inner ahead m = in_comment old inner ahead m is stands in
    let b : Bool = old.in_foreign in
    let s = comment_state_of inner in
    let n : Machine = commenting m s (m.comment ++ cs) in
    let run : Goes (commenting m s m.comment) (cs ++ rest) [] n rest = gathered_plain ends (commenting m s) (λ d c rest goes_on. one b m d c rest goes_on) m.comment cs rest all in
    record {
      machine = n;
      goes = subst (λ front. Goes m (front ++ cs ++ rest) [] n rest) (sym at.nothing) (subst (λ k. Goes k (cs ++ rest) [] n rest) at.machine run);
      stands = record {
        reference = stands.reference;
        state = ap state_of (sym is);
        last_start = stands.last_start;
        held = subst (λ s. Held s made [] n) (sym is) (refl, more_spelled (string_bytes new.comment) (string_bytes old.comment) cs m.comment adds.1 at.comment);
      };
    }))

-- ---- names of tags

pub name_run : (old new : Tokenizer) (ends : ℕ → Bool) (cs : List ℕ) → old.state ≡ state.Tag tag.Name → AddsToTagName old new (encode_utf8_all cs) → old.refused ≡ false →
    ((b : Bool) (m : Machine) (d : List ℕ) (c : ℕ) (rest : List ℕ) → ends c ≡ false → Goes (naming m d) (c ∷ rest) [] (naming m (d ++ to_ascii_lowercase c ∷ [])) rest) →
    NoneEnds ends cs → FollowsStandard old new cs None
name_run old new ends cs is adds none one all =
    let made : Tokenizer = record old { tag = record old.tag { name = new.tag.name } } in
    subst (λ t. FollowsStandard old t cs None) (sym adds.0)
    (led old made cs none (record { in_foreign = refl; after_return = refl }) refl (λ m ahead rest stands.
    let held : Held (state.Tag tag.Name) old ahead m = subst (λ s. Held s old ahead m) is stands.held in
    let draft : IsDraft old.tag m.tag = held.1 in
    let b : Bool = old.in_foreign in
    let n : Machine = naming m (m.tag.name ++ map to_ascii_lowercase cs) in
    let at : m.state ≡ there.TagName = stands.state ∙ ap state_of is in
    let run : Goes (naming m m.tag.name) (cs ++ rest) [] n rest = gathered_by to_ascii_lowercase ends (naming m) (λ d c rest goes_on. one b m d c rest goes_on) m.tag.name cs rest all in
    let new_draft : IsDraft made.tag n.tag = record {
      kind = draft.kind;
      named = subst (λ (bytes : List ℕ). 0 < length bytes) (sym adds.1) (long (string_bytes old.tag.name) (encode_utf8_all cs) draft.named);
      name = more_lowered (string_bytes new.tag.name) (string_bytes old.tag.name) cs m.tag.name adds.1 draft.name;
      attrs = draft.attrs;
      self_closing = draft.self_closing;
    } in
    record {
      machine = n;
      goes = subst (λ front. Goes m (front ++ cs ++ rest) [] n rest) (sym held.0) (subst (λ k. Goes k (cs ++ rest) [] n rest) (in_its_state m there.TagName at) run);
      stands = record { reference = stands.reference; state = ap state_of (sym is); last_start = stands.last_start; held = subst (λ s. Held s made [] n) (sym is) (refl, new_draft) };
    }))
