-- The tokenizer reads what may be an end tag of raw text as the standard does.
use Rattle.std.specs.Prelude.{◌≡◌, ◌↔◌, ℕ, ◌<◌, Bool, true, false, IsTrue, ◌==◌, cond, List, [], ◌∷◌, ◌++◌, map, length, codes, Option, None, Some, Result, Ok, Err, IfOk, OnOk, string_bytes, refl}
use Rattle.std.proofs.Common.{arith, inl, inr, ◌⊎◌}
use Rattle.std.specs.Char.{encode_utf8, is_ascii_alphabetic, to_ascii_lowercase}
use Rattle.std.specs.Str.{bytes_eq, encode_utf8_all}
use Rattle.std.proofs.lemmas.Bool.Decides.{same_from_decides, Decides-like}
use Rattle.std.proofs.lemmas.List.{append-nil}
use Rattle.std.proofs.lemmas.Slice.Eq.{bytes_eq-Decides}
use Rattle.std.proofs.lemmas.Str.{encode_ascii, encodes-append, encodes_same}
use mathlib.Core.Path.{◌∙◌, sym, ap, subst}
use Rattle.standard_tokens.specs.Entries.{Switch}
use Rattle.standard_tokens.specs.Machine.{Machine, at_state, is_name_of, taken}
use Rattle.standard_tokens.specs.States as there
use Rattle.standard_tokens.specs.Table.{entries}
use Rattle.standard_tokens.specs.Tokens.{AChar}
use Rattle.page_tokens.specs.RawEndTags.{AddsNameLetter, BeginsEndTag, end_tag_step_of, less_than_step_of}
use Rattle.page_tokens.specs.Runs.{is_space_of}
use Rattle.page_tokens.specs.Standard.{AreAttrs, EmitsTag, Follows, FollowsStandard, Goes, Held, HoldsAttrs, IsDraft, IsLast, Keeps, Spells, Stands, kind_of}
use Rattle.page_tokens.specs.StandardStates.{end_tag_state_of, state_of}
use Rattle.page_tokens.specs.TextStates.{TextGoesOn, raw_state_of}
use Rattle.page_tokens.specs.declared.attribute.TagAttr.{TagAttr}
use Rattle.page_tokens.specs.declared.token.TokenKind.{TokenKind}
use Rattle.page_tokens.specs.declared.tokenizer.Tokenizer.{Tokenizer}
use Rattle.page_tokens.specs.declared.tokenizer.raw_end_tags.EndTagStep.{EndTagStep}
use Rattle.page_tokens.specs.declared.tokenizer.raw_end_tags.EndTagStep.TheVariants as ends
use Rattle.page_tokens.specs.declared.tokenizer.raw_end_tags.LessThanStep.TheVariants as its
use Rattle.page_tokens.specs.declared.tokenizer.state.AttrState.TheVariants as attr
use Rattle.page_tokens.specs.declared.tokenizer.state.EndTagState.TheVariants as end_tag
use Rattle.page_tokens.specs.declared.tokenizer.state.Raw.{Raw}
use Rattle.page_tokens.specs.declared.tokenizer.state.Raw.TheVariants as raw
use Rattle.page_tokens.specs.declared.tokenizer.state.ScriptState.TheVariants as script
use Rattle.page_tokens.specs.declared.tokenizer.state.State.{State}
use Rattle.page_tokens.specs.declared.tokenizer.state.State.TheVariants as state
use Rattle.page_tokens.specs.declared.tokenizer.state.TagState.TheVariants as tag
use Rattle.page_tokens.proofs.DeclarationFollows.{led, one_more}
use Rattle.page_tokens.proofs.EndTagSteps.{Comes, comes, greater_taken, is_appropriate, letter_begins, letter_over, begun, naming, no_letter_begins, other_character, other_name, slash_taken, space_taken, with_letter}
use Rattle.page_tokens.proofs.Lowered.{lowered_encoded, one_lowered}
use Rattle.page_tokens.proofs.ScriptSteps.{IsLetter}
use Rattle.page_tokens.proofs.StandardSteps.{by_entry, by_test, in_its_state, taking}
use Rattle.page_tokens.proofs.Switches.{ReadsNothingAhead}
use Rattle.page_tokens.proofs.TagNames.{differs, emitted_tag_where, long}
use Rattle.page_tokens.proofs.TextFollows.{HoldsNothing, emits_before, goes_on_before, goes_on_over, text_twice}

-- ---- texts

less : codes "<" ≡ encode_utf8_all (codes "<")
unfolding encode_utf8
less = refl

less_bang : codes "<!" ≡ encode_utf8_all (codes "<!")
unfolding encode_utf8
less_bang = refl

less_slash : codes "</" ≡ encode_utf8_all (codes "</")
unfolding encode_utf8
less_slash = refl

-- a text is appended, and then the state is another
put_then : (old put new : Tokenizer) (s to : State) (front : List ℕ) → new ≡ record put { state = to } → (put.refused ≡ false → TextGoesOn old put s front) → new.refused ≡ false → TextGoesOn old new to front
put_then old put new s to front only goes_if none =
    let goes : TextGoesOn old put s front = goes_if (sym (ap (λ t. t.refused) only) ∙ none) in
    subst (λ t. TextGoesOn old t to front) (sym only) (record { memory = goes.memory; only = ap {A = Tokenizer} (λ t. record t { state = to }) goes.only; text = goes.text })

raw_holds : (which : Raw) → HoldsNothing (raw_state_of which)
raw_holds raw.Rcdata t m = refl
raw_holds raw.Rawtext t m = refl
raw_holds raw.Script t m = refl
raw_holds raw.Escaped t m = refl

less_nothing : (which : Raw) → ReadsNothingAhead (state.EndTag which end_tag.LessThan)
less_nothing which t ahead m held = held

open_nothing : (which : Raw) → ReadsNothingAhead (state.EndTag which end_tag.Open)
open_nothing which t ahead m held = held.0

name_nothing : (which : Raw) → ReadsNothingAhead (state.EndTag which end_tag.Name)
name_nothing which t ahead m held = held.0

-- ---- behind `<`

pub end_tag_arm : {E : Type 0} (old new : Tokenizer) (which : Raw) (c : ℕ) (r : Result (Option TokenKind) E) → old.state ≡ state.EndTag which end_tag.LessThan → its.EndTag ≡ less_than_step_of which c →
    new ≡ record old { state = state.EndTag which end_tag.Open } → IfOk r (λ told. told ≡ None) → Follows old new (c ∷ []) r
end_tag_arm old new which c (Ok told) is came only told_is = λ none.
    let made : Tokenizer = record old { state = state.EndTag which end_tag.Open } in
    let steps : Comes which c its.EndTag = subst (Comes which c) (sym came) (comes which c) in
    subst (λ t. FollowsStandard old t (c ∷ []) told) (sym only) (subst (λ k. FollowsStandard old made (c ∷ []) k) (sym told_is)
    (led old made (c ∷ []) (sym (ap (λ t. t.refused) only) ∙ none) (record { in_foreign = refl; after_return = refl }) refl (λ m ahead rest stands.
    let held : Held (state.EndTag which end_tag.LessThan) old ahead m = subst (λ s. Held s old ahead m) is stands.held in
    let b : Bool = old.in_foreign in
    let n : Machine = record m { state = end_tag_state_of which end_tag.Open; buffer = [] } in
    let at : m.state ≡ end_tag_state_of which end_tag.LessThan = stands.state ∙ ap state_of is in
    record {
      machine = n;
      goes = subst (λ front. Goes m (front ++ (c ∷ []) ++ rest) [] n rest) (sym held) (subst (λ k. Goes k (c ∷ rest) [] n rest) (in_its_state m (end_tag_state_of which end_tag.LessThan) at) (steps b m rest));
      stands = record { reference = stands.reference; state = refl; last_start = stands.last_start; held = (refl, refl) };
    })))
end_tag_arm old new which c (Err e) is came only told_is = tt

pub escape_arm : {E : Type 0} (old put new : Tokenizer) (which : Raw) (c : ℕ) (r : Result (Option TokenKind) E) → old.state ≡ state.EndTag which end_tag.LessThan → its.Escape ≡ less_than_step_of which c →
    (put.refused ≡ false → TextGoesOn old put old.state (codes "<!")) → new ≡ record put { state = state.ScriptData script.EscapeStart } → IfOk r (λ told. told ≡ None) → Follows old new (c ∷ []) r
escape_arm old put new which c (Ok told) is came goes only told_is = λ none.
    goes_on_over old old new (state.EndTag which end_tag.LessThan) (state.ScriptData script.EscapeStart) c (codes "<!") (codes "<!") told is refl (λ e. e)
    (put_then old put new old.state (state.ScriptData script.EscapeStart) (codes "<!") only goes none) less_bang told_is (subst (Comes which c) (sym came) (comes which c)) (less_nothing which) (λ t m. refl)
escape_arm old put new which c (Err e) is came goes only told_is = tt

pub double_arm : {E : Type 0} (old cleared put mid new : Tokenizer) (which : Raw) (c : ℕ) (r : Result (Option TokenKind) E) → old.state ≡ state.EndTag which end_tag.LessThan → its.Double ≡ less_than_step_of which c →
    cleared ≡ record old { letters = cleared.letters } → string_bytes cleared.letters ≡ [] → (put.refused ≡ false → TextGoesOn cleared put cleared.state (codes "<")) →
    mid ≡ record put { state = state.ScriptData script.DoubleStart } → Follows mid new (c ∷ []) r → Follows old new (c ∷ []) r
double_arm old cleared put mid new which c (Ok told) is came cleared_is empty goes only follows = λ none.
    let after : FollowsStandard mid new (c ∷ []) told = follows none in
    let text : TextGoesOn cleared mid (state.ScriptData script.DoubleStart) (codes "<") = put_then cleared put mid cleared.state (state.ScriptData script.DoubleStart) (codes "<") only goes after.memory in
    let made : Tokenizer = record old { state = state.ScriptData script.DoubleStart; letters = cleared.letters; text = mid.text; errors = mid.errors; refused = mid.refused } in
    let mid_is : mid ≡ made = text.only ∙ ap {A = Tokenizer} (λ t. record t { state = state.ScriptData script.DoubleStart; text = mid.text; errors = mid.errors; refused = mid.refused }) cleared_is in
    let steps : Comes which c its.Double = subst (Comes which c) (sym came) (comes which c) in
    emits_before old mid new (c ∷ []) (λ m. codes "<") told (λ _. sym (ap (λ t. t.refused) cleared_is) ∙ text.memory) (record { in_foreign = ap (λ t. t.in_foreign) mid_is; after_return = ap (λ t. t.after_return) mid_is })
    (λ m ahead stands. text.text ∙ ap (λ t. string_bytes t.text ++ codes "<") cleared_is ∙ ap (λ e. string_bytes old.text ++ e) less) (λ m ahead rest stands.
    let held : Held (state.EndTag which end_tag.LessThan) old ahead m = subst (λ s. Held s old ahead m) is stands.held in
    let b : Bool = old.in_foreign in
    let n : Machine = record m { state = there.ScriptDataDoubleEscapeStart; buffer = [] } in
    let at : m.state ≡ end_tag_state_of which end_tag.LessThan = stands.state ∙ ap state_of is in
    record {
      machine = n;
      goes = subst (λ front. Goes m (front ++ (c ∷ []) ++ rest) (AChar 60 ∷ []) n (c ∷ rest)) (sym held)
          (subst (λ k. Goes k (c ∷ rest) (AChar 60 ∷ []) n (c ∷ rest)) (in_its_state m (end_tag_state_of which end_tag.LessThan) at) (steps b m rest));
      stands = subst (λ t. Stands t [] n) (sym mid_is) (record { reference = stands.reference; state = refl; last_start = stands.last_start; held = (refl, empty) });
    }) after
double_arm old cleared put mid new which c (Err e) is came cleared_is empty goes only follows = tt

pub text_arm : {E : Type 0} (old put mid new : Tokenizer) (which : Raw) (c : ℕ) (r : Result (Option TokenKind) E) → old.state ≡ state.EndTag which end_tag.LessThan → its.Text ≡ less_than_step_of which c →
    (put.refused ≡ false → TextGoesOn old put old.state (codes "<")) → mid ≡ record put { state = raw_state_of which } → Follows mid new (c ∷ []) r → Follows old new (c ∷ []) r
text_arm old put mid new which c (Ok told) is came goes only follows = λ none.
    goes_on_before old mid new (state.EndTag which end_tag.LessThan) (raw_state_of which) c (codes "<") (codes "<") told is (put_then old put mid old.state (raw_state_of which) (codes "<") only goes) less
    (subst (Comes which c) (sym came) (comes which c)) (less_nothing which) (raw_holds which) (follows none)
text_arm old put mid new which c (Err e) is came goes only follows = tt

-- ---- behind `</`

holds_none : (kept : List TagAttr) (name value : List ℕ) → kept ≡ [] → name ≡ [] → value ≡ [] → HoldsAttrs kept name value []
holds_none kept [] value k n v = (v, subst (λ ks. AreAttrs ks []) (sym k) tt)
holds_none kept (b ∷ name) value k n v = absurd (cc)

is_ascii : (c : ℕ) → is_ascii_alphabetic c ≡ true → c < 128
is_ascii c h = grind arith

begins : (old new : Tokenizer) (which : Raw) (c : ℕ) → old.state ≡ state.EndTag which end_tag.Open → is_ascii_alphabetic c ≡ true → BeginsEndTag old new which c → new.refused ≡ false → FollowsStandard old new (c ∷ []) None
begins old new which c is letter starts none =
    let made : Tokenizer = record old { state = state.EndTag which end_tag.Name; tag = new.tag } in
    subst (λ t. FollowsStandard old t (c ∷ []) None) (sym starts.only)
    (led old made (c ∷ []) (sym (ap (λ t. t.refused) starts.only) ∙ none) (record { in_foreign = refl; after_return = refl }) refl (λ m ahead rest stands.
    let held : Held (state.EndTag which end_tag.Open) old ahead m = subst (λ s. Held s old ahead m) is stands.held in
    let b : Bool = old.in_foreign in
    let n : Machine = with_letter which (begun which m) c in
    let at : m.state ≡ end_tag_state_of which end_tag.Open = stands.state ∙ ap state_of is in
    let draft : IsDraft new.tag n.tag = record {
      kind = ap kind_of starts.kind;
      named = subst (λ (bytes : List ℕ). 0 < length bytes) (sym (starts.name ∙ encode_ascii c (is_ascii c letter))) (omega arith);
      name = ap (map to_ascii_lowercase) starts.name ∙ lowered_encoded c ∙ sym (append-nil (encode_utf8 (to_ascii_lowercase c)));
      attrs = holds_none new.tag.attrs.kept.items (string_bytes new.tag.attr_name) (string_bytes new.tag.attr_value) starts.attrs starts.attr_name starts.attr_value;
      self_closing = starts.self_closing;
    } in
    let spells : Spells new.tag.name (m.buffer ++ c ∷ []) = starts.name ∙ sym (append-nil (encode_utf8 c)) ∙ ap (λ d. encode_utf8_all (d ++ c ∷ [])) (sym held.1) in
    record {
      machine = n;
      goes = subst (λ front. Goes m (front ++ (c ∷ []) ++ rest) [] n rest) (sym held.0)
          (subst (λ k. Goes k (c ∷ rest) [] n rest) (in_its_state m (end_tag_state_of which end_tag.Open) at) (letter_begins which b m rest c letter));
      stands = record { reference = stands.reference; state = refl; last_start = stands.last_start; held = (refl, (draft, spells)) };
    }))

pub begins_arm : {E : Type 0} (old new : Tokenizer) (which : Raw) (c : ℕ) (r : Result (Option TokenKind) E) → old.state ≡ state.EndTag which end_tag.Open → is_ascii_alphabetic c ≡ true → OnOk r (BeginsEndTag old new which c) →
    IfOk r (λ told. told ≡ None) → Follows old new (c ∷ []) r
begins_arm old new which c (Ok told) is letter starts told_is = λ none. subst (λ k. FollowsStandard old new (c ∷ []) k) (sym told_is) (begins old new which c is letter starts none)
begins_arm old new which c (Err e) is letter starts told_is = tt

pub no_letter_arm : {E : Type 0} (old put mid new : Tokenizer) (which : Raw) (c : ℕ) (r : Result (Option TokenKind) E) → old.state ≡ state.EndTag which end_tag.Open → is_ascii_alphabetic c ≡ false →
    (put.refused ≡ false → TextGoesOn old put old.state (codes "</")) → mid ≡ record put { state = raw_state_of which } → Follows mid new (c ∷ []) r → Follows old new (c ∷ []) r
no_letter_arm old put mid new which c (Ok told) is letter goes only follows = λ none.
    goes_on_before old mid new (state.EndTag which end_tag.Open) (raw_state_of which) c (codes "</") (codes "</") told is (put_then old put mid old.state (raw_state_of which) (codes "</") only goes) less_slash
    (no_letter_begins which c letter) (open_nothing which) (raw_holds which) (follows none)
no_letter_arm old put mid new which c (Err e) is letter goes only follows = tt

-- ---- in the name

letter : (old new : Tokenizer) (which : Raw) (c : ℕ) → old.state ≡ state.EndTag which end_tag.Name → is_ascii_alphabetic c ≡ true → AddsNameLetter old new c → new.refused ≡ false → FollowsStandard old new (c ∷ []) None
letter old new which c is alphabetic adds none =
    let made : Tokenizer = record old { tag = record old.tag { name = new.tag.name } } in
    subst (λ t. FollowsStandard old t (c ∷ []) None) (sym adds.only)
    (led old made (c ∷ []) (sym (ap (λ t. t.refused) adds.only) ∙ none) (record { in_foreign = refl; after_return = refl }) refl (λ m ahead rest stands.
    let held : Held (state.EndTag which end_tag.Name) old ahead m = subst (λ s. Held s old ahead m) is stands.held in
    let draft : IsDraft old.tag m.tag = held.1.0 in
    let b : Bool = old.in_foreign in
    let n : Machine = with_letter which m c in
    let at : m.state ≡ end_tag_state_of which end_tag.Name = stands.state ∙ ap state_of is in
    let new_draft : IsDraft made.tag n.tag = record {
      kind = draft.kind;
      named = subst (λ (bytes : List ℕ). 0 < length bytes) (sym adds.name) (long (string_bytes old.tag.name) (encode_utf8 c) draft.named);
      name = ap (map to_ascii_lowercase) adds.name ∙ one_lowered (string_bytes old.tag.name) (encode_utf8 c) m.tag.name c draft.name refl;
      attrs = draft.attrs;
      self_closing = draft.self_closing;
    } in
    let spells : Spells made.tag.name n.buffer = one_more (string_bytes new.tag.name) (string_bytes old.tag.name) m.buffer c adds.name held.1.1 in
    record {
      machine = n;
      goes = subst (λ front. Goes m (front ++ (c ∷ []) ++ rest) [] n rest) (sym held.0)
          (subst (λ k. Goes k (c ∷ rest) [] n rest) (in_its_state m (end_tag_state_of which end_tag.Name) at) (letter_over which b m rest c alphabetic));
      stands = record { reference = stands.reference; state = ap state_of (sym is); last_start = stands.last_start; held = subst (λ s. Held s made [] n) (sym is) (refl, (new_draft, spells)) };
    }))

pub letter_arm : {E : Type 0} (old new : Tokenizer) (which : Raw) (c : ℕ) (r : Result (Option TokenKind) E) → old.state ≡ state.EndTag which end_tag.Name → is_ascii_alphabetic c ≡ true → OnOk r (AddsNameLetter old new c) →
    IfOk r (λ told. told ≡ None) → Follows old new (c ∷ []) r
letter_arm old new which c (Ok told) is alphabetic adds told_is = λ none. subst (λ k. FollowsStandard old new (c ∷ []) k) (sym told_is) (letter old new which c is alphabetic adds none)
letter_arm old new which c (Err e) is alphabetic adds told_is = tt

-- ---- behind the name

-- the names are the same
abbrev pub SameNames : Tokenizer → Type 0
SameNames t = map to_ascii_lowercase (string_bytes t.tag.name) ≡ map to_ascii_lowercase (string_bytes t.last_start)

map_some : (f : ℕ → ℕ) (xs : List ℕ) → 0 < length xs → map f xs ≡ [] → ⊥
map_some f [] some e = omega (arith, some)
map_some f (x ∷ xs) some e = cc

-- the code's test is the standard's
appropriate_is : (t : Tokenizer) (m : Machine) (x : Bool) → IsDraft t.tag m.tag → IsLast t.last_start m.last_start → (IsTrue x ↔ SameNames t) → is_appropriate m ≡ x
appropriate_is t m x draft last decides = go m.last_start last
  where
    none : (y : Bool) → (IsTrue y ↔ SameNames t) → string_bytes t.last_start ≡ [] → false ≡ y
    none true same empty = absurd (map_some to_ascii_lowercase (string_bytes t.tag.name) draft.named (same.0 refl ∙ ap (map to_ascii_lowercase) empty))
    none false same empty = refl

    go : (name : Option (List ℕ)) → IsLast t.last_start name → is_name_of name m.tag.name ≡ x
    go None is = none x decides is
    go (Some cs) is = same_from_decides (bytes_eq cs m.tag.name) x (bytes_eq-Decides cs m.tag.name)
        (Decides-like x (λ e. encodes_same cs m.tag.name (sym is.0 ∙ sym is.1 ∙ sym e ∙ draft.name)) (λ e. draft.name ∙ ap encode_utf8_all (sym e) ∙ sym is.0 ∙ sym is.1) decides)

-- what the step means
abbrev Means : Bool → ℕ → EndTagStep → Type 0
Means x c ends.SelfClosing = (x ≡ true) × (c ≡ 47)
Means x c ends.Ends = (x ≡ true) × (c ≡ 62)
Means x c ends.Space = (x ≡ true) × (is_space_of c ≡ true)
Means x c ends.Text = (x ≡ false) ⊎ IsLetter c

means : (x : Bool) (c : ℕ) → Means x c (end_tag_step_of x c)
means false c = inl refl
means true c =
    by_test (Means true) c 47 ends.SelfClosing (cond (c == 62) ends.Ends (cond (is_space_of c) ends.Space ends.Text)) (refl, refl)
    (λ h47. by_test (Means true) c 62 ends.Ends (cond (is_space_of c) ends.Space ends.Text) (refl, refl) (λ h62. go h47 h62 (is_space_of c) refl))
  where
    go : (47 == c) ≡ false → (62 == c) ≡ false → (y : Bool) → is_space_of c ≡ y → Means true c (cond y ends.Space ends.Text)
    go h47 h62 true e = (refl, e)
    go h47 h62 false e = inr (record {
      tab = differs is_space_of 9 c e refl;
      line_feed = differs is_space_of 10 c e refl;
      form_feed = differs is_space_of 12 c e refl;
      space = differs is_space_of 32 c e refl;
      slash = h47;
      greater = h62;
    })

-- the tag goes on
goes_on : (old new : Tokenizer) (which : Raw) (to : State) (c : ℕ) → old.state ≡ state.EndTag which end_tag.Name → (IsTrue true ↔ SameNames old) → new ≡ record old { state = to } → new.refused ≡ false →
    ((b : Bool) (m : Machine) (rest : List ℕ) → is_appropriate m ≡ true → taken b (naming which m) (c ∷ rest) (entries (end_tag_state_of which end_tag.Name)) ≡ taking [] (Switch (state_of to)) (c ∷ [])) →
    ((t : Tokenizer) (m : Machine) → IsDraft t.tag m.tag → Held to t [] m) → FollowsStandard old new (c ∷ []) None
goes_on old new which to c is decides only none entry holds =
    let made : Tokenizer = record old { state = to } in
    subst (λ t. FollowsStandard old t (c ∷ []) None) (sym only)
    (led old made (c ∷ []) (sym (ap (λ t. t.refused) only) ∙ none) (record { in_foreign = refl; after_return = refl }) refl (λ m ahead rest stands.
    let held : Held (state.EndTag which end_tag.Name) old ahead m = subst (λ s. Held s old ahead m) is stands.held in
    let b : Bool = old.in_foreign in
    let n : Machine = at_state m (state_of to) in
    let at : m.state ≡ end_tag_state_of which end_tag.Name = stands.state ∙ ap state_of is in
    let step : Goes (naming which m) (c ∷ rest) [] n rest =
    by_entry (naming which m) (c ∷ rest) (taking [] (Switch (state_of to)) (c ∷ [])) (λ x. entry x m rest (appropriate_is old m true held.1.0 stands.last_start decides)) refl in
    record {
      machine = n;
      goes = subst (λ front. Goes m (front ++ (c ∷ []) ++ rest) [] n rest) (sym held.0) (subst (λ k. Goes k (c ∷ rest) [] n rest) (in_its_state m (end_tag_state_of which end_tag.Name) at) step);
      stands = record { reference = stands.reference; state = refl; last_start = stands.last_start; held = holds made n held.1.0 };
    }))

at_name : (old : Tokenizer) (x : Bool) → x ≡ true → (IsTrue x ↔ SameNames old) → (IsTrue true ↔ SameNames old)
at_name old x e decides = subst (λ y. IsTrue y ↔ SameNames old) e decides

pub self_closing_arm : {E : Type 0} (old new : Tokenizer) (which : Raw) (x : Bool) (c : ℕ) (r : Result (Option TokenKind) E) → old.state ≡ state.EndTag which end_tag.Name → (IsTrue x ↔ SameNames old) →
    ends.SelfClosing ≡ end_tag_step_of x c → new ≡ record old { state = state.Tag tag.SelfClosing } → IfOk r (λ told. told ≡ None) → Follows old new (c ∷ []) r
self_closing_arm old new which x c (Ok told) is decides came only told_is = λ none.
    let step : Means x c ends.SelfClosing = subst (Means x c) (sym came) (means x c) in
    subst (λ k. FollowsStandard old new (c ∷ []) k) (sym told_is) (subst (λ d. FollowsStandard old new (d ∷ []) None) (sym step.1)
    (goes_on old new which (state.Tag tag.SelfClosing) 47 is (at_name old x step.0 decides) only none (λ b m rest. slash_taken which b m rest) (λ t m draft. (refl, draft))))
self_closing_arm old new which x c (Err e) is decides came only told_is = tt

pub space_arm : {E : Type 0} (old new : Tokenizer) (which : Raw) (x : Bool) (c : ℕ) (r : Result (Option TokenKind) E) → old.state ≡ state.EndTag which end_tag.Name → (IsTrue x ↔ SameNames old) →
    ends.Space ≡ end_tag_step_of x c → new ≡ record old { state = state.Attribute attr.BeforeName } → IfOk r (λ told. told ≡ None) → Follows old new (c ∷ []) r
space_arm old new which x c (Ok told) is decides came only told_is = λ none.
    let step : Means x c ends.Space = subst (Means x c) (sym came) (means x c) in
    subst (λ k. FollowsStandard old new (c ∷ []) k) (sym told_is)
    (goes_on old new which (state.Attribute attr.BeforeName) c is (at_name old x step.0 decides) only none (λ b m rest named. space_taken which b m rest c named step.1) (λ t m draft. (refl, draft)))
space_arm old new which x c (Err e) is decides came only told_is = tt

pub greater_arm : {E : Type 0} (old new : Tokenizer) (which : Raw) (x : Bool) (c : ℕ) (r : Result (Option TokenKind) E) → old.state ≡ state.EndTag which end_tag.Name → (IsTrue x ↔ SameNames old) →
    ends.Ends ≡ end_tag_step_of x c → OnOk r (new.refused ≡ false → Keeps old new) → (0 < length (string_bytes old.tag.name) → IfOk r (λ told. new.refused ≡ false → EmitsTag old new told)) → Follows old new (c ∷ []) r
greater_arm old new which x c (Ok told) is decides came keeps emits = λ none.
    let step : Means x c ends.Ends = subst (Means x c) (sym came) (means x c) in
    subst (λ d. FollowsStandard old new (d ∷ []) told) (sym step.1)
    (emitted_tag_where old new (state.EndTag which end_tag.Name) told is (keeps none) (λ named. emits named none) (λ b m ahead rest stands.
    let held : Held (state.EndTag which end_tag.Name) old ahead m = subst (λ s. Held s old ahead m) is stands.held in
    greater_taken which b m rest (appropriate_is old m true held.1.0 stands.last_start (at_name old x step.0 decides))) (name_nothing which) (λ t ahead m held. held.1.0))
greater_arm old new which x c (Err e) is decides came keeps emits = tt

-- it is no end tag
pub no_tag_arm : {E : Type 0} (old put named mid new : Tokenizer) (which : Raw) (x : Bool) (c : ℕ) (r : Result (Option TokenKind) E) → old.state ≡ state.EndTag which end_tag.Name → is_ascii_alphabetic c ≡ false →
    (IsTrue x ↔ SameNames old) → ends.Text ≡ end_tag_step_of x c → (put.refused ≡ false → TextGoesOn old put old.state (codes "</")) → (named.refused ≡ false → TextGoesOn put named put.state (string_bytes put.tag.name)) →
    mid ≡ record named { state = raw_state_of which } → Follows mid new (c ∷ []) r → Follows old new (c ∷ []) r
no_tag_arm old put named mid new which x c (Ok told) is letter decides came first second only follows = λ none.
    let after : FollowsStandard mid new (c ∷ []) told = follows none in
    let step : Means x c ends.Text = subst (Means x c) (sym came) (means x c) in
    let named_free : named.refused ≡ false = sym (ap (λ t. t.refused) only) ∙ after.memory in
    let name : TextGoesOn put named put.state (string_bytes put.tag.name) = second named_free in
    let same_tag : put.tag ≡ old.tag = ap (λ t. t.tag) (first name.memory).only in
    let both : TextGoesOn old named put.state (codes "</" ++ string_bytes put.tag.name) = text_twice old put named old.state put.state (codes "</") (string_bytes put.tag.name) first name in
    let goes : TextGoesOn old mid (raw_state_of which) (codes "</" ++ string_bytes put.tag.name) =
    put_then old named mid put.state (raw_state_of which) (codes "</" ++ string_bytes put.tag.name) only (λ _. both) after.memory in
    let made : Tokenizer = record old { state = raw_state_of which; text = mid.text; errors = mid.errors; refused = mid.refused } in
    let held_of : (m : Machine) (ahead : List ℕ) → Stands old ahead m → Held (state.EndTag which end_tag.Name) old ahead m = λ m ahead stands. subst (λ s. Held s old ahead m) is stands.held in
    emits_before old mid new (c ∷ []) (λ m. codes "</" ++ m.buffer) told (λ _. goes.memory) (record { in_foreign = ap (λ t. t.in_foreign) goes.only; after_return = ap (λ t. t.after_return) goes.only })
    (λ m ahead stands. goes.text ∙ ap (λ d. string_bytes old.text ++ (codes "</" ++ string_bytes d.name)) same_tag
    ∙ ap (λ e. string_bytes old.text ++ e) (ap (λ e. codes "</" ++ e) (held_of m ahead stands).1.1 ∙ ap (λ e. e ++ encode_utf8_all m.buffer) less_slash ∙ sym (encodes-append (codes "</") m.buffer))) (λ m ahead rest stands.
    let held : Held (state.EndTag which end_tag.Name) old ahead m = held_of m ahead stands in
    let b : Bool = old.in_foreign in
    let n : Machine = at_state m (state_of (raw_state_of which)) in
    let at : m.state ≡ end_tag_state_of which end_tag.Name = stands.state ∙ ap state_of is in
    let same : is_appropriate m ≡ x = appropriate_is old m x held.1.0 stands.last_start decides in
    let steps : Goes (naming which m) (c ∷ rest) (map AChar (codes "</" ++ m.buffer)) n (c ∷ rest) = elim step [
      | inl other ↦ other_name which c letter b m rest (same ∙ other)
      | inr no_end ↦ other_character which c letter no_end b m rest
    ] in
    record {
      machine = n;
      goes = subst (λ front. Goes m (front ++ (c ∷ []) ++ rest) (map AChar (codes "</" ++ m.buffer)) n (c ∷ rest)) (sym held.0)
          (subst (λ k. Goes k (c ∷ rest) (map AChar (codes "</" ++ m.buffer)) n (c ∷ rest)) (in_its_state m (end_tag_state_of which end_tag.Name) at) steps);
      stands = subst (λ t. Stands t [] n) (sym goes.only) (record { reference = stands.reference; state = refl; last_start = stands.last_start; held = raw_holds which made n });
    }) after
no_tag_arm old put named mid new which x c (Err e) is letter decides came first second only follows = tt
