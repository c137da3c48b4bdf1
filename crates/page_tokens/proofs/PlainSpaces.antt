-- Spaces, `/` and `>` in a tag, in each state in which they may come.
use Rattle.std.specs.Prelude.{◌≡◌, ℕ, zero, suc, ◌+◌, ◌<◌, ◌≤◌, get_or, Bool, true, false, not, ◌==◌, List, [], ◌∷◌, ◌++◌, length, take, drop, Option, None, Some, Ok, string_bytes, refl}
use Rattle.std.proofs.Common.{arith, inl, inr}
use Rattle.std.specs.List.{list_all, prefix_len}
use Rattle.std.specs.Str.{IsCharBoundary, IsUtf8, encode_utf8_all}
use Rattle.std.proofs.lemmas.Bool.{and_parts, cases_Bool, ne_eqb, true≢false}
use Rattle.std.proofs.lemmas.List.{take-append-drop}
use Rattle.std.proofs.lemmas.Option.{none-some, same_Some}
use Rattle.std.proofs.lemmas.List.Sums.{prefix_len_is}
use Rattle.std.proofs.lemmas.Str.{IsCharBoundary-after_ascii, IsCharBoundary-start, encode_ascii}
use mathlib.Core.Path.{◌∙◌, sym, ap, subst}
use Rattle.page_tokens.specs.FastPaths.{IsOutside, ReadsAny, is_unquoted_in, spaced_of}
use Rattle.page_tokens.specs.Runs.{is_space_of}
use Rattle.page_tokens.specs.Standard.{EmitsTag, FollowsStandard, Keeps}
use Rattle.page_tokens.specs.TagStates.{ends_name_of}
use Rattle.page_tokens.specs.declared.token.TokenKind.{TokenKind}
use Rattle.page_tokens.specs.declared.tokenizer.Tokenizer.{Tokenizer}
use Rattle.page_tokens.specs.declared.tokenizer.state.AttrState.TheVariants as attr
use Rattle.page_tokens.specs.declared.tokenizer.state.State.{State}
use Rattle.page_tokens.specs.declared.tokenizer.state.State.TheVariants as state
use Rattle.page_tokens.specs.declared.tokenizer.state.TagState.TheVariants as tag
use Rattle.page_tokens.proofs.AttrNames.{end_in_name, greater_after, greater_before, slash_after, slash_before, space_after, space_before}
use Rattle.page_tokens.proofs.AttrValues.{greater_after_value, greater_closes, greater_unquoted, slash_after_value, space_after_value, space_unquoted}
use Rattle.page_tokens.proofs.FollowsOn.{follows_on}
use Rattle.page_tokens.proofs.Fronts.{any_on, one_read}
use Rattle.page_tokens.proofs.RunRead.{front_passes}
use Rattle.page_tokens.proofs.TagNames.{greater_arm, slash_arm, space_arm}

-- ---- how many spaces come first

pub spaces_len_is : (text : List ℕ) (n : ℕ) → n ≤ length text → ((k : ℕ) → k < n → is_space_of (get_or text k 0) ≡ true) → (n < length text → is_space_of (get_or text n 0) ≡ false) → n ≡ prefix_len is_space_of text
spaces_len_is text n within before at = sym (prefix_len_is is_space_of text n 0 within before at)

low : (c : ℕ) → is_space_of c ≡ true → c < 128
low c h = grind arith

-- a character begins behind a space
pub spaces_boundary : (text : List ℕ) (n : ℕ) → IsUtf8 text → n ≤ length text → ((k : ℕ) → k < n → is_space_of (get_or text k 0) ≡ true) → IsCharBoundary text n
spaces_boundary text zero utf8 within before = IsCharBoundary-start text utf8
spaces_boundary text (suc k) utf8 within before =
    let one : k + 1 ≡ suc k = omega arith in
    subst (λ n. IsCharBoundary text n) one (IsCharBoundary-after_ascii text k utf8 (omega (arith, within)) (low (get_or text k 0) (before k (omega arith))))

-- ---- `>`

keeps_in : (old new : Tokenizer) (s : State) → Keeps old new → Keeps (record old { state = s }) new
keeps_in old new s keeps = record { memory = keeps.memory; leaves = record { in_foreign = keeps.leaves.in_foreign; after_return = keeps.leaves.after_return } }

emits_in : (old new : Tokenizer) (s : State) (told : Option TokenKind) → EmitsTag old new told → EmitsTag (record old { state = s }) new told
emits_in old new s told e = record {
  memory = e.memory;
  told_is = e.told_is;
  leaves = record { in_foreign = e.leaves.in_foreign; after_return = e.leaves.after_return };
  now_state = e.now_state;
  same_reference = e.same_reference;
  text = e.text;
  last_tag = e.last_tag;
  last_start = e.last_start;
}

pub greater_in : (from to : State) → spaced_of from ≡ Some to → (old new : Tokenizer) (told : Option TokenKind) → old.state ≡ from → (new.refused ≡ false → Keeps old new) →
    (0 < length (string_bytes old.tag.name) → new.refused ≡ false → EmitsTag old new told) → new.refused ≡ false → FollowsStandard old new (62 ∷ []) told
greater_in (state.Tag tag.Name) to e old new told is keeps emits = greater_arm {E = Bool} old new 62 (Ok told) is refl keeps emits
greater_in (state.Attribute attr.BeforeName) to e old new told is keeps emits = greater_before {E = Bool} old new 62 (Ok told) is refl keeps emits
greater_in (state.Attribute attr.Name) to e old new told is keeps emits =
    let mid : Tokenizer = record old { state = state.Attribute attr.AfterName } in
    end_in_name {E = Bool} old old new 62 (Ok told) is refl refl (λ e. e)
    (greater_after {E = Bool} mid new 62 (Ok told) refl refl (λ free. keeps_in old new (state.Attribute attr.AfterName) (keeps free)) (λ named free. emits_in old new (state.Attribute attr.AfterName) told (emits named free)))
greater_in (state.Attribute attr.AfterName) to e old new told is keeps emits = greater_after {E = Bool} old new 62 (Ok told) is refl keeps emits
greater_in (state.Attribute attr.Unquoted) to e old new told is keeps emits = greater_unquoted {E = Bool} old new 62 (Ok told) is refl keeps emits
greater_in (state.Attribute attr.AfterQuoted) to e old new told is keeps emits = greater_after_value {E = Bool} old new 62 (Ok told) is refl keeps emits
greater_in (state.Tag tag.Open) to e old new told is keeps emits = absurd (none-some to e)
greater_in (state.Tag tag.EndOpen) to e old new told is keeps emits = absurd (none-some to e)
greater_in (state.Tag tag.SelfClosing) to e old new told is keeps emits = absurd (none-some to e)
greater_in (state.Attribute attr.BeforeValue) to e old new told is keeps emits = absurd (none-some to e)
greater_in (state.Attribute (attr.Quoted mark)) to e old new told is keeps emits = absurd (none-some to e)
greater_in state.Data to e old new told is keeps emits = absurd (none-some to e)
greater_in state.Rcdata to e old new told is keeps emits = absurd (none-some to e)
greater_in state.Rawtext to e old new told is keeps emits = absurd (none-some to e)
greater_in state.Script to e old new told is keeps emits = absurd (none-some to e)
greater_in state.Plaintext to e old new told is keeps emits = absurd (none-some to e)
greater_in (state.Cdata inner) to e old new told is keeps emits = absurd (none-some to e)
greater_in (state.EndTag raw inner) to e old new told is keeps emits = absurd (none-some to e)
greater_in (state.ScriptData inner) to e old new told is keeps emits = absurd (none-some to e)
greater_in (state.Declaration seen) to e old new told is keeps emits = absurd (none-some to e)
greater_in (state.Comment inner) to e old new told is keeps emits = absurd (none-some to e)
greater_in (state.Doctype inner) to e old new told is keeps emits = absurd (none-some to e)

pub greater_read : (old new : Tokenizer) (text rest : List ℕ) (to : State) (told : Option TokenKind) → IsOutside old → spaced_of old.state ≡ Some to → text ≡ 62 ∷ rest → (new.refused ≡ false → Keeps old new) →
    (0 < length (string_bytes old.tag.name) → new.refused ≡ false → EmitsTag old new told) → ReadsAny old new text rest told
greater_read old new text rest to told outside spaced cut keeps emits = one_read old new 62 text rest told outside (omega arith) refl cut (greater_in old.state to spaced old new told refl keeps emits)

-- ---- `/`

-- the tokenizer behind the `/` of a tag
abbrev pub slashed : Tokenizer → Tokenizer
slashed old = record old { state = state.Tag tag.SelfClosing }

pub slash_in : (from to : State) → spaced_of from ≡ Some to → is_unquoted_in from ≡ false → (old : Tokenizer) → old.state ≡ from → old.refused ≡ false → FollowsStandard old (slashed old) (47 ∷ []) None
slash_in (state.Tag tag.Name) to e other old is = slash_arm {E = Bool} old (slashed old) 47 (Ok None) is refl refl refl
slash_in (state.Attribute attr.BeforeName) to e other old is = slash_before {E = Bool} old (slashed old) 47 (Ok None) is refl refl refl
slash_in (state.Attribute attr.Name) to e other old is =
    let mid : Tokenizer = record old { state = state.Attribute attr.AfterName } in
    end_in_name {E = Bool} old old (slashed old) 47 (Ok None) is refl refl (λ e. e) (slash_after {E = Bool} mid (slashed old) 47 (Ok None) refl refl refl refl)
slash_in (state.Attribute attr.AfterName) to e other old is = slash_after {E = Bool} old (slashed old) 47 (Ok None) is refl refl refl
slash_in (state.Attribute attr.Unquoted) to e other old is = absurd (true≢false other)
slash_in (state.Attribute attr.AfterQuoted) to e other old is = slash_after_value {E = Bool} old (slashed old) 47 (Ok None) is refl refl refl
slash_in (state.Tag tag.Open) to e other old is = absurd (none-some to e)
slash_in (state.Tag tag.EndOpen) to e other old is = absurd (none-some to e)
slash_in (state.Tag tag.SelfClosing) to e other old is = absurd (none-some to e)
slash_in (state.Attribute attr.BeforeValue) to e other old is = absurd (none-some to e)
slash_in (state.Attribute (attr.Quoted mark)) to e other old is = absurd (none-some to e)
slash_in state.Data to e other old is = absurd (none-some to e)
slash_in state.Rcdata to e other old is = absurd (none-some to e)
slash_in state.Rawtext to e other old is = absurd (none-some to e)
slash_in state.Script to e other old is = absurd (none-some to e)
slash_in state.Plaintext to e other old is = absurd (none-some to e)
slash_in (state.Cdata inner) to e other old is = absurd (none-some to e)
slash_in (state.EndTag raw inner) to e other old is = absurd (none-some to e)
slash_in (state.ScriptData inner) to e other old is = absurd (none-some to e)
slash_in (state.Declaration seen) to e other old is = absurd (none-some to e)
slash_in (state.Comment inner) to e other old is = absurd (none-some to e)
slash_in (state.Doctype inner) to e other old is = absurd (none-some to e)

pub slash_read : (old : Tokenizer) (text rest : List ℕ) (to : State) → IsOutside old → spaced_of old.state ≡ Some to → is_unquoted_in old.state ≡ false → text ≡ 47 ∷ rest → ReadsAny old (slashed old) text rest None
slash_read old text rest to outside spaced other cut = one_read old (slashed old) 47 text rest None outside (omega arith) refl cut (slash_in old.state to spaced other old refl)

-- `/>`
pub closed_read : (old new : Tokenizer) (text mid rest : List ℕ) (to : State) (told : Option TokenKind) → IsOutside old → spaced_of old.state ≡ Some to → is_unquoted_in old.state ≡ false → text ≡ 47 ∷ mid → mid ≡ 62 ∷ rest →
    (new.refused ≡ false → Keeps (record (slashed old) { tag = record old.tag { self_closing = true } }) new) →
    (0 < length (string_bytes old.tag.name) → new.refused ≡ false → EmitsTag (record (slashed old) { tag = record old.tag { self_closing = true } }) new told) → ReadsAny old new text rest told
closed_read old new text mid rest to told outside spaced other cut last keeps emits =
    any_on old (slashed old) new text mid rest told (slash_read old text mid to outside spaced other cut)
    (one_read (slashed old) new 62 mid rest told (record { reference = outside.reference; after_return = outside.after_return }) (omega arith) refl last
    (greater_closes {E = Bool} (slashed old) new 62 (Ok told) refl refl keeps emits))

-- ---- spaces

space_in : (from to : State) → spaced_of from ≡ Some to → (c : ℕ) → is_space_of c ≡ true → (old : Tokenizer) → old.state ≡ from → old.refused ≡ false → FollowsStandard old (record old { state = to }) (c ∷ []) None
space_in (state.Tag tag.Name) to e c space old is none =
    let s : State = state.Attribute attr.BeforeName in
    subst (λ k. FollowsStandard old (record old { state = k }) (c ∷ []) None) (same_Some s to e) (space_arm {E = Bool} old (record old { state = s }) c (Ok None) is space refl refl none)
space_in (state.Attribute attr.BeforeName) to e c space old is none =
    let s : State = state.Attribute attr.BeforeName in
    subst (λ k. FollowsStandard old (record old { state = k }) (c ∷ []) None) (same_Some s to e)
    (subst (λ k. FollowsStandard old (record old { state = k }) (c ∷ []) None) is (space_before old c is space none))
space_in (state.Attribute attr.Name) to e c space old is none =
    let s : State = state.Attribute attr.AfterName in
    let mid : Tokenizer = record old { state = s } in
    subst (λ k. FollowsStandard old (record old { state = k }) (c ∷ []) None) (same_Some s to e)
    (end_in_name {E = Bool} old old mid c (Ok None) is (ends c space) refl (λ e. e) (λ free. space_after mid c refl space free) none)
  where
    ends : (c : ℕ) → is_space_of c ≡ true → ends_name_of c ≡ true
    ends c h = rw h refl
space_in (state.Attribute attr.AfterName) to e c space old is none =
    let s : State = state.Attribute attr.AfterName in
    subst (λ k. FollowsStandard old (record old { state = k }) (c ∷ []) None) (same_Some s to e)
    (subst (λ k. FollowsStandard old (record old { state = k }) (c ∷ []) None) is (space_after old c is space none))
space_in (state.Attribute attr.Unquoted) to e c space old is none =
    let s : State = state.Attribute attr.BeforeName in
    subst (λ k. FollowsStandard old (record old { state = k }) (c ∷ []) None) (same_Some s to e) (space_unquoted {E = Bool} old (record old { state = s }) c (Ok None) is space refl refl none)
space_in (state.Attribute attr.AfterQuoted) to e c space old is none =
    let s : State = state.Attribute attr.BeforeName in
    subst (λ k. FollowsStandard old (record old { state = k }) (c ∷ []) None) (same_Some s to e) (space_after_value {E = Bool} old (record old { state = s }) c (Ok None) is space refl refl none)
space_in (state.Tag tag.Open) to e c space old is none = absurd (none-some to e)
space_in (state.Tag tag.EndOpen) to e c space old is none = absurd (none-some to e)
space_in (state.Tag tag.SelfClosing) to e c space old is none = absurd (none-some to e)
space_in (state.Attribute attr.BeforeValue) to e c space old is none = absurd (none-some to e)
space_in (state.Attribute (attr.Quoted mark)) to e c space old is none = absurd (none-some to e)
space_in state.Data to e c space old is none = absurd (none-some to e)
space_in state.Rcdata to e c space old is none = absurd (none-some to e)
space_in state.Rawtext to e c space old is none = absurd (none-some to e)
space_in state.Script to e c space old is none = absurd (none-some to e)
space_in state.Plaintext to e c space old is none = absurd (none-some to e)
space_in (state.Cdata inner) to e c space old is none = absurd (none-some to e)
space_in (state.EndTag raw inner) to e c space old is none = absurd (none-some to e)
space_in (state.ScriptData inner) to e c space old is none = absurd (none-some to e)
space_in (state.Declaration seen) to e c space old is none = absurd (none-some to e)
space_in (state.Comment inner) to e c space old is none = absurd (none-some to e)
space_in (state.Doctype inner) to e c space old is none = absurd (none-some to e)

spaced_again : (from to : State) → spaced_of from ≡ Some to → spaced_of to ≡ Some to
spaced_again (state.Tag tag.Name) to e = subst (λ k. spaced_of k ≡ Some k) (same_Some (state.Attribute attr.BeforeName) to e) refl
spaced_again (state.Attribute attr.BeforeName) to e = subst (λ k. spaced_of k ≡ Some k) (same_Some (state.Attribute attr.BeforeName) to e) refl
spaced_again (state.Attribute attr.Name) to e = subst (λ k. spaced_of k ≡ Some k) (same_Some (state.Attribute attr.AfterName) to e) refl
spaced_again (state.Attribute attr.AfterName) to e = subst (λ k. spaced_of k ≡ Some k) (same_Some (state.Attribute attr.AfterName) to e) refl
spaced_again (state.Attribute attr.Unquoted) to e = subst (λ k. spaced_of k ≡ Some k) (same_Some (state.Attribute attr.BeforeName) to e) refl
spaced_again (state.Attribute attr.AfterQuoted) to e = subst (λ k. spaced_of k ≡ Some k) (same_Some (state.Attribute attr.BeforeName) to e) refl
spaced_again (state.Tag tag.Open) to e = absurd (none-some to e)
spaced_again (state.Tag tag.EndOpen) to e = absurd (none-some to e)
spaced_again (state.Tag tag.SelfClosing) to e = absurd (none-some to e)
spaced_again (state.Attribute attr.BeforeValue) to e = absurd (none-some to e)
spaced_again (state.Attribute (attr.Quoted mark)) to e = absurd (none-some to e)
spaced_again state.Data to e = absurd (none-some to e)
spaced_again state.Rcdata to e = absurd (none-some to e)
spaced_again state.Rawtext to e = absurd (none-some to e)
spaced_again state.Script to e = absurd (none-some to e)
spaced_again state.Plaintext to e = absurd (none-some to e)
spaced_again (state.Cdata inner) to e = absurd (none-some to e)
spaced_again (state.EndTag raw inner) to e = absurd (none-some to e)
spaced_again (state.ScriptData inner) to e = absurd (none-some to e)
spaced_again (state.Declaration seen) to e = absurd (none-some to e)
spaced_again (state.Comment inner) to e = absurd (none-some to e)
spaced_again (state.Doctype inner) to e = absurd (none-some to e)

spaces_in : (from to : State) → spaced_of from ≡ Some to → (c : ℕ) (cs : List ℕ) → list_all is_space_of (c ∷ cs) ≡ true → (old : Tokenizer) → old.state ≡ from → old.refused ≡ false →
    FollowsStandard old (record old { state = to }) (c ∷ cs) None
spaces_in from to e c [] all old is none = space_in from to e c (and_parts (is_space_of c) true all).0 old is none
spaces_in from to e c (d ∷ cs) all old is none =
    let parts : (is_space_of c ≡ true) × (list_all is_space_of (d ∷ cs) ≡ true) = and_parts (is_space_of c) (list_all is_space_of (d ∷ cs)) all in
    let mid : Tokenizer = record old { state = to } in
    follows_on old mid mid (c ∷ []) (d ∷ cs) None refl (space_in from to e c parts.0 old is none) (spaces_in to to (spaced_again from to e) d cs parts.1 mid refl none)

-- spaces are bytes
spelled : (cs : List ℕ) → list_all is_space_of cs ≡ true → encode_utf8_all cs ≡ cs
spelled [] all = refl
spelled (c ∷ cs) all =
    let parts : (is_space_of c ≡ true) × (list_all is_space_of cs ≡ true) = and_parts (is_space_of c) (list_all is_space_of cs) all in
    ap (λ e. e ++ encode_utf8_all cs) (encode_ascii c (low c parts.0)) ∙ ap (λ e. c ∷ e) (spelled cs parts.1)

no_return : (cs : List ℕ) → list_all is_space_of cs ≡ true → list_all (λ c. not (c == 13)) cs ≡ true
no_return [] all = refl
no_return (c ∷ cs) all =
    let parts : (is_space_of c ≡ true) × (list_all is_space_of cs ≡ true) = and_parts (is_space_of c) (list_all is_space_of cs) all in
    let other : (c == 13) ≡ false = ne_eqb c 13 (λ e. true≢false (sym parts.0 ∙ ap is_space_of e)) in
    rw (other, no_return cs parts.1) refl

some_front : (p : ℕ → Bool) (text : List ℕ) → (prefix_len p text ≡ 0 → ⊥) → 0 < length (take (prefix_len p text) text)
some_front p [] some = absurd (some refl)
some_front p (x ∷ text) some = elim (cases_Bool (p x)) [
  | inl t ↦ (
      let one : 1 + prefix_len p text ≡ suc (prefix_len p text) = omega arith in
      let long : 0 < length (x ∷ take (prefix_len p text) text) = omega arith in
      rw (t, one) long)
  | inr f ↦ absurd (some (rw f refl))
]

pub spaces_read : (old : Tokenizer) (text rest : List ℕ) (n : ℕ) (to : State) → IsOutside old → n ≡ prefix_len is_space_of text → (n ≡ 0 → ⊥) → spaced_of old.state ≡ Some to → rest ≡ drop n text → ReadsAny old (record old { state = to }) text rest None
spaces_read old text rest n to outside len some spaced rest_is = go (take (prefix_len is_space_of text) text) refl (some_front is_space_of text (λ e. some (len ∙ e))) (front_passes is_space_of text)
  where
    go : (front : List ℕ) → take (prefix_len is_space_of text) text ≡ front → 0 < length front → list_all is_space_of front ≡ true → ReadsAny old (record old { state = to }) text rest None
    go [] is long all = absurd (omega (arith, long))
    go (c ∷ cs) is long all = inr (record {
      outside = outside.reference;
      fresh = outside.after_return;
      read = c ∷ cs;
      some = long;
      cut = sym (take-append-drop n text) ∙ ap (λ k. take k text ++ drop n text) len ∙ ap (λ e. e ++ drop n text) (is ∙ sym (spelled (c ∷ cs) all)) ∙ ap (λ e. encode_utf8_all (c ∷ cs) ++ e) (sym rest_is);
      no_return = no_return (c ∷ cs) all;
      follows = λ free. spaces_in old.state to spaced c cs all old refl free;
      last = λ free. tt;
    })
