-- Attributes that are read at once: a name, and a value in quotes or without them.
use Rattle.std.specs.Prelude.{◌≡◌, ℕ, ◌<◌, Bool, true, false, not, ◌==◌, List, [], ◌∷◌, ◌++◌, map, length, take, drop, reverse, None, Result, Ok, Err, OnOk, string_bytes, refl}
use Rattle.std.proofs.Common.{arith, inr}
use Rattle.std.specs.Char.{to_ascii_lowercase}
use Rattle.std.specs.List.{list_all}
use Rattle.std.specs.Str.{IsUtf8, encode_utf8_all}
use Rattle.std.proofs.lemmas.Bool.{true≢false}
use Rattle.std.proofs.lemmas.List.{take-append-drop}
use mathlib.Core.Path.{◌∙◌, sym, ap, subst}
use Rattle.standard_tokens.specs.Entries.{Reconsume}
use Rattle.standard_tokens.specs.Machine.{Machine, Tag as StandardTag, at_state, distinct, taken}
use Rattle.standard_tokens.specs.States as there
use Rattle.standard_tokens.specs.Table.{entries}
use Rattle.page_tokens.specs.Drafts.{FinishesAttr}
use Rattle.page_tokens.specs.FastPaths.{IsOutside, ReadsAny, ReadsFront, begins_attr_in}
use Rattle.page_tokens.specs.Reading.{text_of}
use Rattle.page_tokens.specs.RunEnds.{ends_attr_name, ends_run, ends_unquoted_value, run_len_of}
use Rattle.page_tokens.specs.Standard.{AreAttrs, FollowsStandard, Goes, Held, IsDraft, Stands}
use Rattle.page_tokens.specs.StandardStates.{state_of}
use Rattle.page_tokens.specs.TagStates.{BeginsAttr, quote_of}
use Rattle.page_tokens.specs.declared.tokenizer.Tokenizer.{Tokenizer}
use Rattle.page_tokens.specs.declared.tokenizer.draft.TagDraft.{TagDraft}
use Rattle.page_tokens.specs.declared.tokenizer.runs.Run.{Run}
use Rattle.page_tokens.specs.declared.tokenizer.runs.Run.TheVariants as run
use Rattle.page_tokens.specs.declared.tokenizer.state.AttrState.TheVariants as attr
use Rattle.page_tokens.specs.declared.tokenizer.state.Quote.{Quote}
use Rattle.page_tokens.specs.declared.tokenizer.state.Quote.TheVariants as quote
use Rattle.page_tokens.specs.declared.tokenizer.state.State.{State}
use Rattle.page_tokens.specs.declared.tokenizer.state.State.TheVariants as state
use Rattle.page_tokens.proofs.AttrFollows.{Begins, begins_after, begins_before, holds_attr, none_held}
use Rattle.page_tokens.proofs.AttrNames.{equals_in_name}
use Rattle.page_tokens.proofs.AttrValues.{quote_before_value, quote_in_value}
use Rattle.page_tokens.proofs.DeclarationFollows.{led}
use Rattle.page_tokens.proofs.Fronts.{one_read}
use Rattle.page_tokens.proofs.RunFollows.{NoneEnds, all_lowered, each, gathered_by, shown_same}
use Rattle.page_tokens.proofs.RunRead.{front_passes, low, no_return, return_ends, some_characters}
use Rattle.page_tokens.proofs.RunStates.{attr_name_step, letter_of, run_follows}
use Rattle.page_tokens.proofs.RunSteps.{characters_of_run}
use Rattle.page_tokens.proofs.StandardSteps.{by_entry, in_its_state, taking, then_on}
use Rattle.page_tokens.proofs.Switches.{ReadsNothingAhead, reconsumes_all}
use Rattle.page_tokens.proofs.TagFollows.{draft_of_finish}
use Rattle.page_tokens.proofs.TagNames.{HoldsDraft, differs}
use Rattle.page_tokens.proofs.TagSteps.{IsNameLetter, an_attr, with_attrs}

-- ---- a run at the front of a text

-- the characters of the run
record IsRunOf (kind : Run) (text front rest : List ℕ) (cs : List ℕ) : Type 0 where
  pub spelled : encode_utf8_all cs ≡ front
  pub none_ends : NoneEnds (ends_run kind) cs
  pub cut : text ≡ encode_utf8_all cs ++ rest
  pub no_return : list_all (λ c. not (c == 13)) cs ≡ true

run_of : (kind : Run) (text front rest : List ℕ) (n : ℕ) (utf8 : IsUtf8 front) → front ≡ take n text → rest ≡ drop n text → n ≡ run_len_of kind text → IsRunOf kind text front rest utf8.0
run_of kind text front rest n utf8 front_is rest_is len =
    let ends : ℕ → Bool = ends_run kind in
    let cs : List ℕ = utf8.0 in
    let spelled : encode_utf8_all cs ≡ front = utf8.1.1 in
    let bytes : list_all (λ b. not (ends b)) (encode_utf8_all cs) ≡ true =
    ap (list_all (λ b. not (ends b))) (spelled ∙ front_is ∙ ap (λ k. take k text) len) ∙ front_passes (λ b. not (ends b)) text in
    let all : NoneEnds ends cs = characters_of_run ends (low kind) cs bytes in
    record {
      spelled = spelled;
      none_ends = all;
      cut = sym (take-append-drop n text) ∙ ap (λ e. e ++ drop n text) (sym front_is ∙ sym spelled) ∙ ap (λ e. encode_utf8_all cs ++ e) (sym rest_is);
      no_return = no_return ends cs (return_ends kind) all;
    }

none_spelled : {P : Type 0} (front : List ℕ) → encode_utf8_all [] ≡ front → 0 < length front → P
none_spelled front spelled some = let none : 0 < 0 = subst (λ (bytes : List ℕ). 0 < length bytes) (sym spelled) some in absurd (omega (arith, none))

run_front : (old new : Tokenizer) (kind : Run) (text front rest : List ℕ) (cs : List ℕ) → IsOutside old → IsRunOf kind text front rest cs → 0 < length front → (new.refused ≡ false → FollowsStandard old new cs None) → ReadsFront old new text rest None
run_front old new kind text front rest cs outside is some follows = record {
  outside = outside.reference;
  fresh = outside.after_return;
  read = cs;
  some = some_characters cs front is.spelled some;
  cut = is.cut;
  no_return = is.no_return;
  follows = follows;
  last = λ free. tt;
}

-- ---- a name

begins_after_value : (c : ℕ) → IsNameLetter c → Begins there.AfterAttributeValueQuoted c
unfolding taken entries
begins_after_value c is b m rest =
    then_on (by_entry (at_state m there.AfterAttributeValueQuoted) (c ∷ rest) (taking [] (Reconsume there.BeforeAttributeName) (c ∷ [])) (λ x. rw (is.tab, is.line_feed, is.form_feed, is.space, is.slash, is.greater) refl) refl)
    (begins_before c is b m rest)

begun : (draft more : TagDraft) (one : StandardTag) (cs : List ℕ) → IsDraft draft one → string_bytes draft.attr_name ≡ [] → string_bytes more.attr_name ≡ encode_utf8_all cs → 0 < length (encode_utf8_all cs) →
    IsDraft (record draft { attr_name = more.attr_name }) (record one { attrs = an_attr (map to_ascii_lowercase cs) [] ∷ one.attrs })
begun draft more one cs is none name_is some =
    let held : (string_bytes draft.attr_value ≡ []) × AreAttrs draft.attrs.kept.items (distinct (reverse one.attrs)) = none_held draft.attrs.kept.items (string_bytes draft.attr_name) (string_bytes draft.attr_value) one.attrs none is.attrs in
    record {
      kind = is.kind;
      named = is.named;
      name = is.name;
      attrs = holds_attr draft.attrs.kept.items (string_bytes more.attr_name) (string_bytes draft.attr_value) (an_attr (map to_ascii_lowercase cs) []) one.attrs (subst (λ (bytes : List ℕ). 0 < length bytes) (sym name_is) some)
          (ap (map to_ascii_lowercase) name_is ∙ all_lowered cs) held.0 held.1;
      self_closing = is.self_closing;
    }

names_follow : (old new : Tokenizer) (from : State) (c : ℕ) (cs : List ℕ) → old.state ≡ from → BeginsAttr old new (encode_utf8_all (c ∷ cs)) → 0 < length (encode_utf8_all (c ∷ cs)) → NoneEnds ends_attr_name (c ∷ cs) → Begins (state_of from) c →
    ReadsNothingAhead from → HoldsDraft from → FollowsStandard old new (c ∷ cs) None
names_follow old new from c cs is begins long all goes nothing drafted =
    let done : TagDraft = begins.finished in
    let made : Tokenizer = record old { state = state.Attribute attr.Name; tag = record done { attr_name = new.tag.attr_name }; errors = new.errors; refused = new.refused } in
    let only : new ≡ made = begins.only in
    led old new (c ∷ cs) begins.memory (record { in_foreign = ap (λ t. t.in_foreign) only; after_return = ap (λ t. t.after_return) only }) (ap text_of only) (λ m ahead rest stands.
    let b : Bool = old.in_foreign in
    let held : Held from old ahead m = subst (λ s. Held s old ahead m) is stands.held in
    let finished : IsDraft done m.tag × (string_bytes done.attr_name ≡ []) = draft_of_finish old.tag done m.tag begins.none begins.some (drafted old ahead m held) in
    let parts : (ends_attr_name c ≡ false) × NoneEnds ends_attr_name cs = each ends_attr_name c cs all in
    let n : Machine = with_attrs m there.AttributeName (an_attr (map to_ascii_lowercase (c ∷ cs)) [] ∷ m.tag.attrs) in
    let first : Goes (at_state m (state_of from)) (c ∷ (cs ++ rest)) [] (with_attrs m there.AttributeName (an_attr (to_ascii_lowercase c ∷ []) [] ∷ m.tag.attrs)) (cs ++ rest) =
    subst (λ e. Goes (at_state m (state_of from)) (c ∷ (cs ++ rest)) [] (with_attrs m there.AttributeName (an_attr (to_ascii_lowercase e ∷ []) [] ∷ m.tag.attrs)) (cs ++ rest)) (shown_same ends_attr_name c parts.0 refl) (goes b m (cs ++ rest)) in
    let more : Goes (with_attrs m there.AttributeName (an_attr (to_ascii_lowercase c ∷ []) [] ∷ m.tag.attrs)) (cs ++ rest) [] n rest =
    gathered_by to_ascii_lowercase ends_attr_name (λ d. with_attrs m there.AttributeName (an_attr d [] ∷ m.tag.attrs)) (λ d c rest goes_on. attr_name_step b m d [] m.tag.attrs c rest goes_on) (to_ascii_lowercase c ∷ []) cs rest parts.1 in
    let some : 0 < length (string_bytes new.tag.attr_name) = subst (λ (bytes : List ℕ). 0 < length bytes) (sym begins.name_is) long in
    let draft : IsDraft made.tag n.tag = begun done new.tag m.tag (c ∷ cs) finished.0 finished.1 begins.name_is long in
    let at : at_state m (state_of from) ≡ m = in_its_state m (state_of from) (stands.state ∙ ap state_of is) in
    record {
      machine = n;
      goes = subst (λ front. Goes m (front ++ (c ∷ cs) ++ rest) [] n rest) (sym (nothing old ahead m held)) (subst (λ k. Goes k (c ∷ (cs ++ rest)) [] n rest) at (then_on first more));
      stands = subst (λ t. Stands t [] n) (sym only) (record { reference = stands.reference; state = refl; last_start = stands.last_start; held = (refl, draft, some) });
    })

name_letter_of : (c : ℕ) → ends_attr_name c ≡ false → IsNameLetter c
name_letter_of c goes_on = letter_of ends_attr_name c goes_on refl refl refl refl refl refl

names_in : (from : State) → begins_attr_in from ≡ true → (old new : Tokenizer) (c : ℕ) (cs : List ℕ) → old.state ≡ from → BeginsAttr old new (encode_utf8_all (c ∷ cs)) → 0 < length (encode_utf8_all (c ∷ cs)) → NoneEnds ends_attr_name (c ∷ cs) →
    FollowsStandard old new (c ∷ cs) None
names_in (state.Attribute attr.BeforeName) e old new c cs is begins long all =
    names_follow old new (state.Attribute attr.BeforeName) c cs is begins long all (begins_before c (name_letter_of c (each ends_attr_name c cs all).0)) (λ t ahead m held. held.0) (λ t ahead m held. held.1)
names_in (state.Attribute attr.AfterName) e old new c cs is begins long all =
    let goes_on : ends_attr_name c ≡ false = (each ends_attr_name c cs all).0 in
    names_follow old new (state.Attribute attr.AfterName) c cs is begins long all (begins_after c (name_letter_of c goes_on) (differs ends_attr_name 61 c goes_on refl)) (λ t ahead m held. held.0) (λ t ahead m held. held.1)
names_in (state.Attribute attr.AfterQuoted) e old new c cs is begins long all =
    names_follow old new (state.Attribute attr.AfterQuoted) c cs is begins long all (begins_after_value c (name_letter_of c (each ends_attr_name c cs all).0)) (λ t ahead m held. held.0) (λ t ahead m held. held.1)
names_in (state.Attribute attr.Name) e old new c cs is begins long all = absurd (true≢false (sym e))
names_in (state.Attribute attr.BeforeValue) e old new c cs is begins long all = absurd (true≢false (sym e))
names_in (state.Attribute attr.Unquoted) e old new c cs is begins long all = absurd (true≢false (sym e))
names_in (state.Attribute (attr.Quoted mark)) e old new c cs is begins long all = absurd (true≢false (sym e))
names_in (state.Tag inner) e old new c cs is begins long all = absurd (true≢false (sym e))
names_in state.Data e old new c cs is begins long all = absurd (true≢false (sym e))
names_in state.Rcdata e old new c cs is begins long all = absurd (true≢false (sym e))
names_in state.Rawtext e old new c cs is begins long all = absurd (true≢false (sym e))
names_in state.Script e old new c cs is begins long all = absurd (true≢false (sym e))
names_in state.Plaintext e old new c cs is begins long all = absurd (true≢false (sym e))
names_in (state.Cdata inner) e old new c cs is begins long all = absurd (true≢false (sym e))
names_in (state.EndTag raw inner) e old new c cs is begins long all = absurd (true≢false (sym e))
names_in (state.ScriptData inner) e old new c cs is begins long all = absurd (true≢false (sym e))
names_in (state.Declaration seen) e old new c cs is begins long all = absurd (true≢false (sym e))
names_in (state.Comment inner) e old new c cs is begins long all = absurd (true≢false (sym e))
names_in (state.Doctype inner) e old new c cs is begins long all = absurd (true≢false (sym e))

pub name_read : (old new : Tokenizer) (text front rest : List ℕ) (n : ℕ) → IsOutside old → begins_attr_in old.state ≡ true → IsUtf8 front → front ≡ take n text → rest ≡ drop n text → n ≡ run_len_of run.AttrName text → 0 < length front →
    (new.refused ≡ false → BeginsAttr old new front) → ReadsAny old new text rest None
name_read old new text front rest n outside begins utf8 front_is rest_is len some named =
    let is : IsRunOf run.AttrName text front rest utf8.0 = run_of run.AttrName text front rest n utf8 front_is rest_is len in
    inr (run_front old new run.AttrName text front rest utf8.0 outside is some (go utf8.0 is))
  where
    go : (cs : List ℕ) → IsRunOf run.AttrName text front rest cs → new.refused ≡ false → FollowsStandard old new cs None
    go [] is free = none_spelled front is.spelled some
    go (c ∷ cs) is free = names_in old.state begins old new c cs refl (subst (BeginsAttr old new) (sym is.spelled) (named free)) (subst (λ (bytes : List ℕ). 0 < length bytes) (sym is.spelled) some) is.none_ends

-- what `begin_plain_attr` does: `done` is the tokenizer with the attribute before it finished
pub begins_plain : (old done new : Tokenizer) (name : List ℕ) → done ≡ record old { tag = done.tag } → (string_bytes old.tag.attr_name ≡ [] → done ≡ old) →
    (0 < length (string_bytes old.tag.attr_name) → FinishesAttr old.tag done.tag) →
    new ≡ record done { state = state.Attribute attr.Name; tag = record done.tag { attr_name = new.tag.attr_name } } → string_bytes new.tag.attr_name ≡ string_bytes done.tag.attr_name ++ name → new.refused ≡ false → BeginsAttr old new name
begins_plain old done new name done_is none some new_is name_is free = record {
  memory = sym (ap (λ t. t.refused) new_is ∙ ap (λ t. t.refused) done_is) ∙ free;
  finished = done.tag;
  none = λ e. ap (λ t. t.tag) (none e);
  some = some;
  only = all;
  name_is = name_is ∙ ap (λ e. e ++ name) (no_name (string_bytes old.tag.attr_name) refl);
}
  where
    -- errors and memory are as they were
    all : new ≡ record old { state = state.Attribute attr.Name; tag = record done.tag { attr_name = new.tag.attr_name }; errors = new.errors; refused = new.refused }
    all =
        let made : Tokenizer = record old { state = state.Attribute attr.Name; tag = record done.tag { attr_name = new.tag.attr_name } } in
        let is : new ≡ made = new_is ∙ ap {A = Tokenizer} (λ t. record t { state = state.Attribute attr.Name; tag = record done.tag { attr_name = new.tag.attr_name } }) done_is in
        is ∙ ap {A = Tokenizer} (λ t. record made { errors = t.errors; refused = t.refused }) (sym is)

    no_name : (bytes : List ℕ) → string_bytes old.tag.attr_name ≡ bytes → string_bytes done.tag.attr_name ≡ []
    no_name [] e = ap (λ t. string_bytes t.tag.attr_name) (none e) ∙ e
    no_name (b ∷ bytes) e = (some (subst (λ (n : List ℕ). 0 < length n) (sym e) (omega arith))).name

pub begins_plain_arm : {T E : Type 0} (old done new : Tokenizer) (name : List ℕ) (r : Result T E) → done ≡ record old { tag = done.tag } → (string_bytes old.tag.attr_name ≡ [] → done ≡ old) →
    (0 < length (string_bytes old.tag.attr_name) → FinishesAttr old.tag done.tag) → new ≡ record done { state = state.Attribute attr.Name; tag = record done.tag { attr_name = new.tag.attr_name } } →
    OnOk r (string_bytes new.tag.attr_name ≡ string_bytes done.tag.attr_name ++ name) → OnOk r (new.refused ≡ false → BeginsAttr old new name)
begins_plain_arm old done new name (Ok u) done_is none some new_is name_is = begins_plain old done new name done_is none some new_is name_is
begins_plain_arm old done new name (Err e) done_is none some new_is name_is = tt

-- ---- a value

-- `=` behind the name
pub equals_read : (old : Tokenizer) (text rest : List ℕ) → IsOutside old → old.state ≡ state.Attribute attr.Name → text ≡ 61 ∷ rest → ReadsAny old (record old { state = state.Attribute attr.BeforeValue }) text rest None
equals_read old text rest outside is cut =
    one_read old (record old { state = state.Attribute attr.BeforeValue }) 61 text rest None outside (omega arith) refl cut
    (equals_in_name {E = Bool} old old (record old { state = state.Attribute attr.BeforeValue }) 61 (Ok None) is refl refl (λ e. e) refl refl)

quote_low : (mark : Quote) → quote_of mark < 128
quote_low quote.Double = omega arith
quote_low quote.Single = omega arith

quote_no_return : (mark : Quote) → (quote_of mark == 13) ≡ false
quote_no_return quote.Double = refl
quote_no_return quote.Single = refl

-- the quote in front of the value
pub quote_read : (old : Tokenizer) (mark : Quote) (text rest : List ℕ) → IsOutside old → old.state ≡ state.Attribute attr.BeforeValue → text ≡ quote_of mark ∷ rest → ReadsAny old (record old { state = state.Attribute (attr.Quoted mark) }) text rest None
quote_read old mark text rest outside is cut =
    one_read old (record old { state = state.Attribute (attr.Quoted mark) }) (quote_of mark) text rest None outside (quote_low mark) (quote_no_return mark) cut
    (quote_before_value {E = Bool} old (record old { state = state.Attribute (attr.Quoted mark) }) mark (quote_of mark) (Ok None) is refl refl refl)

-- and behind it
pub quote_closes : (old : Tokenizer) (mark : Quote) (text rest : List ℕ) → IsOutside old → old.state ≡ state.Attribute (attr.Quoted mark) → text ≡ quote_of mark ∷ rest → ReadsAny old (record old { state = state.Attribute attr.AfterQuoted }) text rest None
quote_closes old mark text rest outside is cut =
    one_read old (record old { state = state.Attribute attr.AfterQuoted }) (quote_of mark) text rest None outside (quote_low mark) (quote_no_return mark) cut
    (quote_in_value {E = Bool} old (record old { state = state.Attribute attr.AfterQuoted }) mark (quote_of mark) (Ok None) is refl refl refl)

-- the characters of a value in quotes
pub value_read : (old new : Tokenizer) (mark : Quote) (text front rest : List ℕ) (n : ℕ) → IsOutside old → old.state ≡ state.Attribute (attr.Quoted mark) → IsUtf8 front → front ≡ take n text → rest ≡ drop n text →
    n ≡ run_len_of (run.AttrValue mark) text → 0 < length front → new ≡ record old { tag = record old.tag { attr_value = new.tag.attr_value } } → string_bytes new.tag.attr_value ≡ string_bytes old.tag.attr_value ++ front → ReadsAny old new text rest None
value_read old new mark text front rest n outside is utf8 front_is rest_is len some only bytes =
    let run_is : IsRunOf (run.AttrValue mark) text front rest utf8.0 = run_of (run.AttrValue mark) text front rest n utf8 front_is rest_is len in
    inr (run_front old new (run.AttrValue mark) text front rest utf8.0 outside run_is some (λ free.
    run_follows (state.Attribute (attr.Quoted mark)) (run.AttrValue mark) refl old new utf8.0 is (only, bytes ∙ ap (λ e. string_bytes old.tag.attr_value ++ e) (sym run_is.spelled)) (some_characters utf8.0 front run_is.spelled some)
    (sym (ap (λ t. t.refused) only) ∙ free) run_is.none_ends))

-- a value without quotes, from its first character on
unquoted_in : (old new : Tokenizer) (c : ℕ) (cs : List ℕ) → old.state ≡ state.Attribute attr.BeforeValue → ends_unquoted_value c ≡ false → FollowsStandard (record old { state = state.Attribute attr.Unquoted }) new (c ∷ cs) None → FollowsStandard old new (c ∷ cs) None
unfolding taken entries
unquoted_in old new c cs is goes_on follows =
    let ends : ℕ → Bool = ends_unquoted_value in
    let h9 : (9 == c) ≡ false = differs ends 9 c goes_on refl in
    let h10 : (10 == c) ≡ false = differs ends 10 c goes_on refl in
    let h12 : (12 == c) ≡ false = differs ends 12 c goes_on refl in
    let h32 : (32 == c) ≡ false = differs ends 32 c goes_on refl in
    let h34 : (34 == c) ≡ false = differs ends 34 c goes_on refl in
    let h39 : (39 == c) ≡ false = differs ends 39 c goes_on refl in
    let h62 : (62 == c) ≡ false = differs ends 62 c goes_on refl in
    reconsumes_all old (record old { state = state.Attribute attr.Unquoted }) new (state.Attribute attr.BeforeValue) (state.Attribute attr.Unquoted) c cs None is refl (λ e. e) (λ b m rest. rw (h9, h10, h12, h32, h34, h39, h62) refl)
    (λ t ahead m held. held.0) (λ t other ahead m held. (refl, held.1, held.2)) follows

pub unquoted_read : (old new : Tokenizer) (text front rest : List ℕ) (n : ℕ) → IsOutside old → old.state ≡ state.Attribute attr.BeforeValue → IsUtf8 front → front ≡ take n text → rest ≡ drop n text →
    n ≡ run_len_of run.UnquotedValue text → 0 < length front → new ≡ record old { state = state.Attribute attr.Unquoted; tag = record old.tag { attr_value = new.tag.attr_value } } → string_bytes new.tag.attr_value ≡ string_bytes old.tag.attr_value ++ front →
    ReadsAny old new text rest None
unquoted_read old new text front rest n outside is utf8 front_is rest_is len some only bytes =
    let run_is : IsRunOf run.UnquotedValue text front rest utf8.0 = run_of run.UnquotedValue text front rest n utf8 front_is rest_is len in
    inr (run_front old new run.UnquotedValue text front rest utf8.0 outside run_is some (go utf8.0 run_is))
  where
    go : (cs : List ℕ) → IsRunOf run.UnquotedValue text front rest cs → new.refused ≡ false → FollowsStandard old new cs None
    go [] run_is free = none_spelled front run_is.spelled some
    go (c ∷ cs) run_is free = unquoted_in old new c cs is (each (ends_run run.UnquotedValue) c cs run_is.none_ends).0
        (run_follows (state.Attribute attr.Unquoted) run.UnquotedValue refl (record old { state = state.Attribute attr.Unquoted }) new (c ∷ cs) refl (only, bytes ∙ ap (λ e. string_bytes old.tag.attr_value ++ e) (sym run_is.spelled)) (omega arith)
        (sym (ap (λ t. t.refused) only) ∙ free) run_is.none_ends)
