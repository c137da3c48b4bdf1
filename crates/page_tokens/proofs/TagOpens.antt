-- What follows `<` and `</`.
use Rattle.std.specs.Prelude.{◌≡◌, ℕ, ◌<◌, ◌==◌, ◌&&◌, nat_le, Bool, true, false, List, [], ◌∷◌, ◌++◌, map, length, codes, Option, None, Result, Ok, Err, IfOk, OnOk, string_bytes, refl}
use Rattle.std.proofs.Common.{arith}
use Rattle.std.proofs.lemmas.Bool.{ne_eqb, true≢false}
use Rattle.std.specs.Char.{encode_utf8, is_ascii_alphabetic, to_ascii_lowercase}
use mathlib.Core.Path.{◌∙◌, sym, ap, subst}
use Rattle.standard_tokens.specs.Entries.{Emit, Ending, NewComment, NewTag, Reconsume, Starting, These, TagKind as StandardKind}
use Rattle.standard_tokens.specs.Machine.{Machine, at_state, taken}
use Rattle.standard_tokens.specs.States as there
use Rattle.standard_tokens.specs.States.{State as StandardState}
use Rattle.standard_tokens.specs.Table.{entries}
use Rattle.page_tokens.specs.Changes.{Remembers}
use Rattle.page_tokens.specs.Comments.{shown_of}
use Rattle.page_tokens.specs.Reading.{text_of}
use Rattle.page_tokens.specs.Standard.{Follows, FollowsStandard, Goes, HoldsAttrs, IsDraft, Stands, kind_of}
use Rattle.page_tokens.specs.StandardStates.{state_of}
use Rattle.page_tokens.specs.TagStates.{BeginsBogus, BeginsTag}
use Rattle.page_tokens.specs.TextStates.{TextGoesOn}
use Rattle.page_tokens.specs.declared.attribute.TagAttr.{TagAttr}
use Rattle.page_tokens.specs.declared.token.TagKind.{TagKind}
use Rattle.page_tokens.specs.declared.token.TagKind.TheVariants as kind
use Rattle.page_tokens.specs.declared.token.TokenKind.{TokenKind}
use Rattle.page_tokens.specs.declared.tokenizer.Tokenizer.{Tokenizer}
use Rattle.page_tokens.specs.declared.tokenizer.state.CommentState.TheVariants as comment
use Rattle.page_tokens.specs.declared.tokenizer.state.Seen.TheVariants as seen
use Rattle.page_tokens.specs.declared.tokenizer.state.State.{State}
use Rattle.page_tokens.specs.declared.tokenizer.state.State.TheVariants as state
use Rattle.page_tokens.specs.declared.tokenizer.state.TagState.TheVariants as tag
use Rattle.page_tokens.proofs.AttrFollows.{some_bytes}
use Rattle.page_tokens.proofs.CommentSteps.{commenting}
use Rattle.page_tokens.proofs.Lowered.{one_lowered}
use Rattle.page_tokens.proofs.StandardSteps.{by_entry, taking, then_on}
use Rattle.page_tokens.proofs.Switches.{ReadsNothingAhead}
use Rattle.page_tokens.proofs.TagArms.{switch_arm}
use Rattle.page_tokens.proofs.TagMoves.{Entry, OnlyErrors, Over, moves, moves_before, switched}
use Rattle.page_tokens.proofs.TextFollows.{goes_on_before}
use Rattle.page_tokens.proofs.TagSteps.{IsNameLetter, is_upper, name_letter, naming}

-- ---- letters

abbrev is_lower : ℕ → Bool
is_lower c = nat_le 97 c && nat_le c 122

not_at : (c k : ℕ) → is_ascii_alphabetic c ≡ true → is_ascii_alphabetic k ≡ false → (k == c) ≡ false
not_at c k h other = ne_eqb k c (λ e. true≢false (sym h ∙ ap is_ascii_alphabetic (sym e) ∙ other))

letter_of_name : (c : ℕ) → is_ascii_alphabetic c ≡ true → IsNameLetter c
letter_of_name c h = record {
  tab = not_at c 9 h refl;
  line_feed = not_at c 10 h refl;
  form_feed = not_at c 12 h refl;
  space = not_at c 32 h refl;
  slash = not_at c 47 h refl;
  greater = not_at c 62 h refl;
}

no_upper : (c : ℕ) → is_ascii_alphabetic c ≡ false → is_upper c ≡ false
no_upper c h = grind arith

no_lower : (c : ℕ) → is_ascii_alphabetic c ≡ false → is_lower c ≡ false
no_lower c h = grind arith

is_lower_else : (c : ℕ) → is_ascii_alphabetic c ≡ true → is_upper c ≡ false → is_lower c ≡ true
is_lower_else c h none = grind arith

-- ---- a tag begins

-- the tag is new
abbrev pub fresh : Machine → StandardKind → Machine
fresh m kind = record m { tag = record { kind = kind; name = []; attrs = []; self_closing = false } }

new_tag : (s : StandardState) (kind : StandardKind) (c : ℕ) → is_ascii_alphabetic c ≡ true → Entry s c (NewTag kind ∷ []) (Reconsume there.TagName) → (b : Bool) (m : Machine) (rest : List ℕ) →
    Goes (at_state m s) (c ∷ rest) [] (naming (fresh m kind) (to_ascii_lowercase (shown_of c) ∷ [])) rest
new_tag s kind c letter entry b m rest =
    then_on (by_entry (at_state m s) (c ∷ rest) (taking (NewTag kind ∷ []) (Reconsume there.TagName) (c ∷ [])) (λ x. entry x m rest) refl) (name_letter b (fresh m kind) [] rest c (letter_of_name c letter))

pub no_attrs : (kept : List TagAttr) (name value : List ℕ) → kept ≡ [] → name ≡ [] → value ≡ [] → HoldsAttrs kept name value []
no_attrs [] [] value kept_is name_is value_is = (value_is, tt)
no_attrs [] (b ∷ name) value kept_is name_is value_is = absurd (cc)
no_attrs (k ∷ kept) name value kept_is name_is value_is = absurd (cc)

shown_letter : (c : ℕ) → is_ascii_alphabetic c ≡ true → shown_of c ≡ c
shown_letter c h = grind arith

pub begins_tag : (old new : Tokenizer) (from : State) (which : TagKind) (c : ℕ) (told : Option TokenKind) → old.state ≡ from → BeginsTag old new which (encode_utf8 c) → told ≡ None → is_ascii_alphabetic c ≡ true →
    Entry (state_of from) c (NewTag (kind_of which) ∷ []) (Reconsume there.TagName) → ReadsNothingAhead from → new.refused ≡ false → FollowsStandard old new (c ∷ []) told
begins_tag old new from which c told is begins told_is letter entry nothing free =
    let made : Tokenizer = record old { state = state.Tag tag.Name; tag = new.tag } in
    let only : new ≡ made = begins.only in
    moves old new from c told is (sym (ap (λ t. t.refused) only) ∙ free) (record { in_foreign = ap (λ t. t.in_foreign) only; after_return = ap (λ t. t.after_return) only }) (ap text_of only) told_is nothing (λ m rest stands.
    let n : Machine = naming (fresh m (kind_of which)) (to_ascii_lowercase (shown_of c) ∷ []) in
    let draft : IsDraft new.tag n.tag = record {
      kind = ap kind_of begins.kind_is;
      named = subst (λ (bytes : List ℕ). 0 < length bytes) (sym begins.name_is) (some_bytes c);
      name = ap (map to_ascii_lowercase) begins.name_is ∙ one_lowered [] (encode_utf8 c) [] (shown_of c) refl (ap encode_utf8 (sym (shown_letter c letter)));
      attrs = no_attrs new.tag.attrs.kept.items (string_bytes new.tag.attr_name) (string_bytes new.tag.attr_value) begins.attrs begins.attr_name begins.attr_value;
      self_closing = begins.self_closing;
    } in
    record {
      machine = n;
      goes = new_tag (state_of from) (kind_of which) c letter entry old.in_foreign m rest;
      stands = subst (λ t. Stands t [] n) (sym only) (record { reference = stands.reference; state = refl; last_start = stands.last_start; held = (refl, draft) });
    })

pub start_entry : (c : ℕ) → is_ascii_alphabetic c ≡ true → Entry there.TagOpen c (NewTag Starting ∷ []) (Reconsume there.TagName)
unfolding taken entries
start_entry c h b m rest = go (is_upper c) refl
  where
    h33 : (33 == c) ≡ false
    h33 = not_at c 33 h refl

    h47 : (47 == c) ≡ false
    h47 = not_at c 47 h refl

    go : (x : Bool) → is_upper c ≡ x → taken b (at_state m there.TagOpen) (c ∷ rest) (entries there.TagOpen) ≡ taking (NewTag Starting ∷ []) (Reconsume there.TagName) (c ∷ [])
    go true e = rw (h33, h47, e) refl
    go false e = rw (h33, h47, e, is_lower_else c h e) refl

pub end_entry : (c : ℕ) → is_ascii_alphabetic c ≡ true → Entry there.EndTagOpen c (NewTag Ending ∷ []) (Reconsume there.TagName)
unfolding taken entries
end_entry c h b m rest = go (is_upper c) refl
  where
    go : (x : Bool) → is_upper c ≡ x → taken b (at_state m there.EndTagOpen) (c ∷ rest) (entries there.EndTagOpen) ≡ taking (NewTag Ending ∷ []) (Reconsume there.TagName) (c ∷ [])
    go true e = rw e refl
    go false e = rw (e, is_lower_else c h e) refl

pub start_begins : {E : Type 0} (old new : Tokenizer) (c : ℕ) (r : Result (Option TokenKind) E) → old.state ≡ state.Tag tag.Open → is_ascii_alphabetic c ≡ true → OnOk r (BeginsTag old new kind.Start (encode_utf8 c)) →
    IfOk r (λ told. told ≡ None) → Follows old new (c ∷ []) r
start_begins old new c (Ok told) is letter begins told_is = begins_tag old new (state.Tag tag.Open) kind.Start c told is begins told_is letter (start_entry c letter) (λ t ahead m held. held)
start_begins old new c (Err e) is letter begins told_is = tt

pub end_begins : {E : Type 0} (old new : Tokenizer) (c : ℕ) (r : Result (Option TokenKind) E) → old.state ≡ state.Tag tag.EndOpen → is_ascii_alphabetic c ≡ true → OnOk r (BeginsTag old new kind.End (encode_utf8 c)) →
    IfOk r (λ told. told ≡ None) → Follows old new (c ∷ []) r
end_begins old new c (Ok told) is letter begins told_is = begins_tag old new (state.Tag tag.EndOpen) kind.End c told is begins told_is letter (end_entry c letter) (λ t ahead m held. held)
end_begins old new c (Err e) is letter begins told_is = tt

-- ---- a bogus comment begins

bogus_follows : (old mid begun new : Tokenizer) (from : State) (c : ℕ) (told : Option TokenKind) → old.state ≡ from → OnlyErrors old mid → Remembers old mid →
    begun ≡ record mid { state = state.Comment comment.Bogus; comment = begun.comment } → string_bytes begun.comment ≡ [] → Entry (state_of from) c (NewComment ∷ []) (Reconsume there.BogusComment) → ReadsNothingAhead from →
    FollowsStandard begun new (c ∷ []) told → FollowsStandard old new (c ∷ []) told
bogus_follows old mid begun new from c told is mid_is remembers begun_is empty entry nothing follows =
    let made : Tokenizer = record old { state = state.Comment comment.Bogus; comment = begun.comment; errors = mid.errors; refused = mid.refused } in
    let all : begun ≡ made = begun_is ∙ ap {A = Tokenizer} (λ t. record t { state = state.Comment comment.Bogus; comment = begun.comment }) mid_is in
    moves_before old begun new from c told is (λ e. remembers (sym (ap (λ t. t.refused) begun_is) ∙ e)) (record { in_foreign = ap (λ t. t.in_foreign) all; after_return = ap (λ t. t.after_return) all }) (ap text_of all) nothing (λ m rest stands.
    let n : Machine = commenting m there.BogusComment [] in
    record {
      machine = n;
      goes = by_entry (at_state m (state_of from)) (c ∷ rest) (taking (NewComment ∷ []) (Reconsume there.BogusComment) (c ∷ [])) (λ x. entry x m rest) refl;
      stands = subst (λ t. Stands t [] n) (sym all) (record { reference = stands.reference; state = refl; last_start = stands.last_start; held = (refl, empty) });
    }) follows

bogus_arm : {E : Type 0} (old mid new : Tokenizer) (from : State) (c : ℕ) (r : Result (Option TokenKind) E) → old.state ≡ from → OnlyErrors old mid → Remembers old mid → BeginsBogus mid new c r →
    Entry (state_of from) c (NewComment ∷ []) (Reconsume there.BogusComment) → ReadsNothingAhead from → Follows old new (c ∷ []) r
bogus_arm old mid new from c (Ok told) is mid_is remembers begins entry nothing = λ none. bogus_follows old mid begins.0 new from c told is mid_is remembers begins.1 begins.2 entry nothing (begins.3 none)
bogus_arm old mid new from c (Err e) is mid_is remembers begins entry nothing = tt

pub question_begins : {E : Type 0} (old mid new : Tokenizer) (c : ℕ) (r : Result (Option TokenKind) E) → old.state ≡ state.Tag tag.Open → c ≡ 63 → OnlyErrors old mid → Remembers old mid → BeginsBogus mid new c r → Follows old new (c ∷ []) r
unfolding taken entries
question_begins old mid new c r is at mid_is remembers begins =
    bogus_arm old mid new (state.Tag tag.Open) c r is mid_is remembers begins (subst (λ d. Entry there.TagOpen d (NewComment ∷ []) (Reconsume there.BogusComment)) (sym at) (λ b m rest. refl)) (λ t ahead m held. held)

pub other_end_begins : {E : Type 0} (old mid new : Tokenizer) (c : ℕ) (r : Result (Option TokenKind) E) → old.state ≡ state.Tag tag.EndOpen → is_ascii_alphabetic c ≡ false → (c ≡ 62 → ⊥) → OnlyErrors old mid → Remembers old mid →
    BeginsBogus mid new c r → Follows old new (c ∷ []) r
unfolding taken entries
other_end_begins old mid new c r is no_letter no_greater mid_is remembers begins =
    let h62 : (62 == c) ≡ false = ne_eqb 62 c (λ e. no_greater (sym e)) in
    bogus_arm old mid new (state.Tag tag.EndOpen) c r is mid_is remembers begins (λ b m rest. rw (no_upper c no_letter, no_lower c no_letter, h62) refl) (λ t ahead m held. held)

-- ---- other characters

-- `</>` is nothing
pub greater_after_slash : {E : Type 0} (old mid new : Tokenizer) (c : ℕ) (r : Result (Option TokenKind) E) → old.state ≡ state.Tag tag.EndOpen → c ≡ 62 → OnlyErrors old mid → Remembers old mid → new ≡ record mid { state = state.Data } →
    IfOk r (λ told. told ≡ None) → Follows old new (c ∷ []) r
unfolding taken entries
greater_after_slash old mid new c r is at mid_is remembers only told_is =
    switch_arm old mid new (state.Tag tag.EndOpen) state.Data c r is mid_is remembers only told_is (subst (Over there.EndTagOpen there.Data) (sym at) (switched there.EndTagOpen there.Data 62 (λ b m rest. refl)))
    (λ t ahead m held. held) (λ t other ahead m held. refl)

pub slash_opens : {E : Type 0} (old new : Tokenizer) (c : ℕ) (r : Result (Option TokenKind) E) → old.state ≡ state.Tag tag.Open → c ≡ 47 → new ≡ record old { state = state.Tag tag.EndOpen } → IfOk r (λ told. told ≡ None) →
    Follows old new (c ∷ []) r
unfolding taken entries
slash_opens old new c r is at only told_is =
    switch_arm old old new (state.Tag tag.Open) (state.Tag tag.EndOpen) c r is refl (λ e. e) only told_is (subst (Over there.TagOpen there.EndTagOpen) (sym at) (switched there.TagOpen there.EndTagOpen 47 (λ b m rest. refl)))
    (λ t ahead m held. held) (λ t other ahead m held. refl)

-- `<!`
declaration_follows : (old mid new : Tokenizer) (told : Option TokenKind) → old.state ≡ state.Tag tag.Open → mid ≡ record old { comment = mid.comment } → string_bytes mid.comment ≡ [] →
    new ≡ record mid { state = state.Declaration seen.Nothing } → told ≡ None → new.refused ≡ false → FollowsStandard old new (33 ∷ []) told
unfolding taken entries
declaration_follows old mid new told is mid_is empty only told_is free =
    let made : Tokenizer = record old { state = state.Declaration seen.Nothing; comment = mid.comment } in
    let all : new ≡ made = only ∙ ap {A = Tokenizer} (λ t. record t { state = state.Declaration seen.Nothing }) mid_is in
    moves old new (state.Tag tag.Open) 33 told is (sym (ap (λ t. t.refused) all) ∙ free) (record { in_foreign = ap (λ t. t.in_foreign) all; after_return = ap (λ t. t.after_return) all }) (ap text_of all) told_is (λ t ahead m held. held) (λ m rest stands.
    let n : Machine = at_state m there.MarkupDeclarationOpen in
    record {
      machine = n;
      goes = switched there.TagOpen there.MarkupDeclarationOpen 33 (λ b m rest. refl) old.in_foreign m rest;
      stands = subst (λ t. Stands t [] n) (sym all) (record { reference = stands.reference; state = refl; last_start = stands.last_start; held = (empty, refl) });
    })

pub declaration_opens : {E : Type 0} (old mid new : Tokenizer) (c : ℕ) (r : Result (Option TokenKind) E) → old.state ≡ state.Tag tag.Open → c ≡ 33 → mid ≡ record old { comment = mid.comment } → string_bytes mid.comment ≡ [] →
    new ≡ record mid { state = state.Declaration seen.Nothing } → IfOk r (λ told. told ≡ None) → Follows old new (c ∷ []) r
declaration_opens old mid new c (Ok told) is at mid_is empty only told_is = λ none. subst (λ d. FollowsStandard old new (d ∷ []) told) (sym at) (declaration_follows old mid new told is mid_is empty only told_is none)
declaration_opens old mid new c (Err e) is at mid_is empty only told_is = tt

goes_before : (old erred put : Tokenizer) (bytes : List ℕ) → OnlyErrors old erred → Remembers old erred → TextGoesOn erred put erred.state bytes → TextGoesOn old (record put { state = state.Data }) state.Data bytes
goes_before old erred put bytes erred_is remembers goes = record {
  memory = remembers goes.memory;
  only = ap {A = Tokenizer} (λ t. record t { state = state.Data }) goes.only ∙ ap {A = Tokenizer} (λ t. record t { state = state.Data; text = put.text; errors = put.errors; refused = put.refused }) erred_is;
  text = goes.text ∙ ap (λ t. string_bytes t.text ++ bytes) erred_is;
}

-- the `<` is text, and the character is read as what follows it
pub other_opens : {E : Type 0} (old erred put new : Tokenizer) (c : ℕ) (r : Result (Option TokenKind) E) → old.state ≡ state.Tag tag.Open → is_ascii_alphabetic c ≡ false → (c ≡ 33 → ⊥) → (c ≡ 47 → ⊥) → (c ≡ 63 → ⊥) →
    OnlyErrors old erred → Remembers old erred → (put.refused ≡ false → TextGoesOn erred put erred.state (codes "<")) → Follows (record put { state = state.Data }) new (c ∷ []) r → Follows old new (c ∷ []) r
unfolding taken entries encode_utf8
other_opens old erred put new c (Ok told) is no_letter no_bang no_slash no_question erred_is remembers goes follows = λ none.
    let h33 : (33 == c) ≡ false = ne_eqb 33 c (λ e. no_bang (sym e)) in
    let h47 : (47 == c) ≡ false = ne_eqb 47 c (λ e. no_slash (sym e)) in
    let h63 : (63 == c) ≡ false = ne_eqb 63 c (λ e. no_question (sym e)) in
    goes_on_before old (record put { state = state.Data }) new (state.Tag tag.Open) state.Data c (codes "<") (codes "<") told is (λ free. goes_before old erred put (codes "<") erred_is remembers (goes free)) refl
    (λ b m rest. by_entry (at_state m there.TagOpen) (c ∷ rest) (taking (Emit (These (codes "<")) ∷ []) (Reconsume there.Data) (c ∷ [])) (λ x. rw (h33, h47, no_upper c no_letter, no_lower c no_letter, h63) refl) refl)
    (λ t ahead m held. held) (λ t m. refl) (follows none)
other_opens old erred put new c (Err e) is no_letter no_bang no_slash no_question erred_is remembers goes follows = tt
