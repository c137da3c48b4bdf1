-- Whole pages: where the tokenizer stands, the standard's machine stands that has read the same page.
use Rattle.std.specs.Prelude.{◌≡◌, ℕ, Bool, List, [], ◌∷◌, ◌++◌, map, reverse, Option, None, Some, String, string_bytes, refl}
use Rattle.std.proofs.Common.{inl, inr}
use Rattle.std.specs.Option.{IsSomeAnd}
use Rattle.std.specs.Str.{encode_utf8_all}
use Rattle.std.proofs.lemmas.Bool.{true≢false}
use Rattle.std.proofs.lemmas.List.{append-nil, append_assoc}
use Rattle.std.proofs.lemmas.Str.{encodes-append, encodes_same}
use mathlib.Core.Path.{◌∙◌, sym, ap, subst}
use Rattle.standard_tokens.specs.Entries.{TagKind as StandardKind, Starting, Ending}
use Rattle.standard_tokens.specs.Machine.{Machine, Step, Tag as StandardTag, at_state, distinct, normalized, normalized_behind, start_in, step, token_of}
use Rattle.standard_tokens.specs.Reading.{Feedback, IsFeedback, Reader, Reads, here, next, after, answered, reader, switched}
use Rattle.standard_tokens.specs.States as there
use Rattle.standard_tokens.specs.States.{State as StandardState}
use Rattle.standard_tokens.specs.Tokens.{Attr, Doctype as StandardDoctype, Token as StandardToken, AChar, AComment, ADoctype, AStart, AnEnd, AnEof}
use Rattle.page_tokens.specs.PageLaws.{CallsReadTexts, CallsReadTokens, CharactersAreTold, IsAnswered, PagesBegin, PagesEnd, TextsAreRead, TokensAreRead}
use Rattle.page_tokens.specs.Reading.{text_of}
use Rattle.page_tokens.specs.Standard.{AreAttrs, Held, Holds, IsAttr, IsDoctype, IsLast, IsTag, MaySpell, ReferenceHeld, Stands, Stops, Told}
use Rattle.page_tokens.specs.StandardPages as come
use Rattle.page_tokens.specs.StandardPages.{BehindText, Comes, EmitsLast, Finishes, HasRead, IsAnswering, IsAt, IsTextState, ReadsText, told_or}
use Rattle.page_tokens.specs.StandardStates.{attr_state_of, cdata_state_of, comment_state_of, doctype_state_of, end_tag_state_of, script_state_of, state_in, state_of, tag_state_of}
use Rattle.page_tokens.specs.declared.attribute.TagAttr.{TagAttr}
use Rattle.page_tokens.specs.declared.token.Doctype.{Doctype}
use Rattle.page_tokens.specs.declared.token.Tag.{Tag}
use Rattle.page_tokens.specs.declared.token.TokenKind.{TokenKind}
use Rattle.page_tokens.specs.declared.token.TokenKind.TheVariants as token
use Rattle.page_tokens.specs.declared.tokenizer.Tokenizer.{Tokenizer}
use Rattle.page_tokens.specs.declared.tokenizer.references.Reference.{Reference}
use Rattle.page_tokens.specs.declared.tokenizer.references.Reference.TheVariants as reference
use Rattle.page_tokens.specs.declared.tokenizer.state.AttrState.{AttrState}
use Rattle.page_tokens.specs.declared.tokenizer.state.AttrState.TheVariants as attr
use Rattle.page_tokens.specs.declared.tokenizer.state.CdataState.{CdataState}
use Rattle.page_tokens.specs.declared.tokenizer.state.CdataState.TheVariants as cdata
use Rattle.page_tokens.specs.declared.tokenizer.state.CommentState.{CommentState}
use Rattle.page_tokens.specs.declared.tokenizer.state.CommentState.TheVariants as comment
use Rattle.page_tokens.specs.declared.tokenizer.state.DoctypeState.{DoctypeState}
use Rattle.page_tokens.specs.declared.tokenizer.state.DoctypeState.TheVariants as doctype
use Rattle.page_tokens.specs.declared.tokenizer.state.DoubleState.TheVariants as double
use Rattle.page_tokens.specs.declared.tokenizer.state.EndTagState.{EndTagState}
use Rattle.page_tokens.specs.declared.tokenizer.state.EndTagState.TheVariants as end_tag
use Rattle.page_tokens.specs.declared.tokenizer.state.Id.TheVariants as id
use Rattle.page_tokens.specs.declared.tokenizer.state.Quote.TheVariants as quote
use Rattle.page_tokens.specs.declared.tokenizer.state.Raw.{Raw}
use Rattle.page_tokens.specs.declared.tokenizer.state.Raw.TheVariants as raw
use Rattle.page_tokens.specs.declared.tokenizer.state.ScriptState.{ScriptState}
use Rattle.page_tokens.specs.declared.tokenizer.state.ScriptState.TheVariants as script
use Rattle.page_tokens.specs.declared.tokenizer.state.State.{State}
use Rattle.page_tokens.specs.declared.tokenizer.state.State.TheVariants as state
use Rattle.page_tokens.specs.declared.tokenizer.state.TagState.{TagState}
use Rattle.page_tokens.specs.declared.tokenizer.state.TagState.TheVariants as tag
use Rattle.page_tokens.proofs.FlagAsked.{from_goes}
use Rattle.page_tokens.proofs.ForeignFlag.{same_step}
use Rattle.page_tokens.proofs.LastSteps.{IsOne, head_of, is_data}
use Rattle.page_tokens.proofs.PageTexts.{told_one}
use Rattle.page_tokens.proofs.Placed.{beside, holds_on, stands_beside}
use Rattle.page_tokens.proofs.TextFollows.{map_append}

-- ---- the data state

no_cdata : (s : CdataState) → cdata_state_of s ≡ there.Data → ⊥
no_cdata cdata.Section e = true≢false (sym (ap is_data e))
no_cdata cdata.Bracket e = true≢false (sym (ap is_data e))
no_cdata cdata.End e = true≢false (sym (ap is_data e))

no_tag : (s : TagState) → tag_state_of s ≡ there.Data → ⊥
no_tag tag.Open e = true≢false (sym (ap is_data e))
no_tag tag.EndOpen e = true≢false (sym (ap is_data e))
no_tag tag.Name e = true≢false (sym (ap is_data e))
no_tag tag.SelfClosing e = true≢false (sym (ap is_data e))

no_end_tag : (kind : Raw) (s : EndTagState) → end_tag_state_of kind s ≡ there.Data → ⊥
no_end_tag raw.Rcdata end_tag.LessThan e = true≢false (sym (ap is_data e))
no_end_tag raw.Rcdata end_tag.Open e = true≢false (sym (ap is_data e))
no_end_tag raw.Rcdata end_tag.Name e = true≢false (sym (ap is_data e))
no_end_tag raw.Rawtext end_tag.LessThan e = true≢false (sym (ap is_data e))
no_end_tag raw.Rawtext end_tag.Open e = true≢false (sym (ap is_data e))
no_end_tag raw.Rawtext end_tag.Name e = true≢false (sym (ap is_data e))
no_end_tag raw.Script end_tag.LessThan e = true≢false (sym (ap is_data e))
no_end_tag raw.Script end_tag.Open e = true≢false (sym (ap is_data e))
no_end_tag raw.Script end_tag.Name e = true≢false (sym (ap is_data e))
no_end_tag raw.Escaped end_tag.LessThan e = true≢false (sym (ap is_data e))
no_end_tag raw.Escaped end_tag.Open e = true≢false (sym (ap is_data e))
no_end_tag raw.Escaped end_tag.Name e = true≢false (sym (ap is_data e))

no_script : (s : ScriptState) → script_state_of s ≡ there.Data → ⊥
no_script script.EscapeStart e = true≢false (sym (ap is_data e))
no_script script.EscapeStartDash e = true≢false (sym (ap is_data e))
no_script script.Escaped e = true≢false (sym (ap is_data e))
no_script script.EscapedDash e = true≢false (sym (ap is_data e))
no_script script.EscapedDashDash e = true≢false (sym (ap is_data e))
no_script script.DoubleStart e = true≢false (sym (ap is_data e))
no_script (script.Double double.Escaped) e = true≢false (sym (ap is_data e))
no_script (script.Double double.Dash) e = true≢false (sym (ap is_data e))
no_script (script.Double double.DashDash) e = true≢false (sym (ap is_data e))
no_script (script.Double double.LessThan) e = true≢false (sym (ap is_data e))
no_script (script.Double double.End) e = true≢false (sym (ap is_data e))

no_attr : (s : AttrState) → attr_state_of s ≡ there.Data → ⊥
no_attr attr.BeforeName e = true≢false (sym (ap is_data e))
no_attr attr.Name e = true≢false (sym (ap is_data e))
no_attr attr.AfterName e = true≢false (sym (ap is_data e))
no_attr attr.BeforeValue e = true≢false (sym (ap is_data e))
no_attr (attr.Quoted quote.Double) e = true≢false (sym (ap is_data e))
no_attr (attr.Quoted quote.Single) e = true≢false (sym (ap is_data e))
no_attr attr.Unquoted e = true≢false (sym (ap is_data e))
no_attr attr.AfterQuoted e = true≢false (sym (ap is_data e))

no_comment : (s : CommentState) → comment_state_of s ≡ there.Data → ⊥
no_comment comment.Bogus e = true≢false (sym (ap is_data e))
no_comment comment.Start e = true≢false (sym (ap is_data e))
no_comment comment.StartDash e = true≢false (sym (ap is_data e))
no_comment comment.Comment e = true≢false (sym (ap is_data e))
no_comment comment.LessThan e = true≢false (sym (ap is_data e))
no_comment comment.LessThanBang e = true≢false (sym (ap is_data e))
no_comment comment.LessThanBangDash e = true≢false (sym (ap is_data e))
no_comment comment.LessThanBangDashDash e = true≢false (sym (ap is_data e))
no_comment comment.EndDash e = true≢false (sym (ap is_data e))
no_comment comment.End e = true≢false (sym (ap is_data e))
no_comment comment.EndBang e = true≢false (sym (ap is_data e))

no_doctype : (s : DoctypeState) → doctype_state_of s ≡ there.Data → ⊥
no_doctype doctype.Begin e = true≢false (sym (ap is_data e))
no_doctype doctype.BeforeName e = true≢false (sym (ap is_data e))
no_doctype doctype.Name e = true≢false (sym (ap is_data e))
no_doctype doctype.AfterName e = true≢false (sym (ap is_data e))
no_doctype doctype.BetweenIds e = true≢false (sym (ap is_data e))
no_doctype doctype.Bogus e = true≢false (sym (ap is_data e))
no_doctype (doctype.Keyword which count) e = true≢false (sym (ap is_data e))
no_doctype (doctype.AfterKeyword id.Public) e = true≢false (sym (ap is_data e))
no_doctype (doctype.AfterKeyword id.System) e = true≢false (sym (ap is_data e))
no_doctype (doctype.BeforeId id.Public) e = true≢false (sym (ap is_data e))
no_doctype (doctype.BeforeId id.System) e = true≢false (sym (ap is_data e))
no_doctype (doctype.AfterId id.Public) e = true≢false (sym (ap is_data e))
no_doctype (doctype.AfterId id.System) e = true≢false (sym (ap is_data e))
no_doctype (doctype.Quoted id.Public quote.Double) e = true≢false (sym (ap is_data e))
no_doctype (doctype.Quoted id.Public quote.Single) e = true≢false (sym (ap is_data e))
no_doctype (doctype.Quoted id.System quote.Double) e = true≢false (sym (ap is_data e))
no_doctype (doctype.Quoted id.System quote.Single) e = true≢false (sym (ap is_data e))

no_data : (s : State) → state_of s ≡ there.Data → s ≡ state.Data
no_data state.Data e = refl
no_data state.Rcdata e = absurd (true≢false (sym (ap is_data e)))
no_data state.Rawtext e = absurd (true≢false (sym (ap is_data e)))
no_data state.Script e = absurd (true≢false (sym (ap is_data e)))
no_data state.Plaintext e = absurd (true≢false (sym (ap is_data e)))
no_data (state.Cdata inner) e = absurd (no_cdata inner e)
no_data (state.Tag inner) e = absurd (no_tag inner e)
no_data (state.EndTag kind inner) e = absurd (no_end_tag kind inner e)
no_data (state.ScriptData inner) e = absurd (no_script inner e)
no_data (state.Attribute inner) e = absurd (no_attr inner e)
no_data (state.Declaration seen) e = absurd (true≢false (sym (ap is_data e)))
no_data (state.Comment inner) e = absurd (no_comment inner e)
no_data (state.Doctype inner) e = absurd (no_doctype inner e)

no_reference : (r : Reference) (s : State) (t : Tokenizer) (ahead : List ℕ) (m : Machine) → state_in r s ≡ there.Data → ReferenceHeld r t ahead m → ⊥
no_reference reference.None s t ahead m e held = held
no_reference reference.Begun s t ahead m e held = true≢false (sym (ap is_data e))
no_reference (reference.Named found) s t ahead m e held = true≢false (sym (ap is_data e))
no_reference reference.Ambiguous s t ahead m e held = true≢false (sym (ap is_data e))
no_reference reference.Number s t ahead m e held = true≢false (sym (ap is_data e))
no_reference reference.HexStart s t ahead m e held = true≢false (sym (ap is_data e))
no_reference (reference.Hex number) s t ahead m e held = true≢false (sym (ap is_data e))
no_reference (reference.Decimal number) s t ahead m e held = true≢false (sym (ap is_data e))

-- the tokenizer stands in the data state where the machine does, and has read nothing ahead
record InData (t : Tokenizer) (ahead : List ℕ) (m : Machine) : Type 0 where
  pub none : ahead ≡ []
  pub stands : Stands t [] m

in_data : (t : Tokenizer) (ahead : List ℕ) (m : Machine) → m.state ≡ there.Data → Holds t ahead m → InData t ahead m
in_data t ahead m at_data (inl stands) =
    let is : t.state ≡ state.Data = no_data t.state (sym stands.state ∙ at_data) in
    let none : ahead ≡ [] = subst (λ s. Held s t ahead m) is stands.held in
    record { none = none; stands = subst (λ a. Stands t a m) none stands }
in_data t ahead m at_data (inr inside) = absurd (no_reference t.reference t.state t ahead m (sym inside.state ∙ at_data) inside.inside)

-- ---- the token that the tokenizer keeps is one

same_spelled : {A : Type 0} (text : String A) (xs ys : List ℕ) → string_bytes text ≡ encode_utf8_all xs → string_bytes text ≡ encode_utf8_all ys → xs ≡ ys
same_spelled text xs ys one other = encodes_same xs ys (sym one ∙ other)

same_may : {A : Type 0} (o : Option (String A)) (x y : Option (List ℕ)) → MaySpell o x → MaySpell o y → x ≡ y
same_may None None None one other = refl
same_may None None (Some ys) one other = absurd other
same_may None (Some xs) y one other = absurd one
same_may (Some text) None y one other = absurd one
same_may (Some text) (Some xs) None one other = absurd other
same_may (Some text) (Some xs) (Some ys) one other = ap (λ cs. Some cs) (same_spelled text xs ys one other)

same_doctype : (kept : Doctype) (one other : StandardDoctype) → IsDoctype kept one → IsDoctype kept other → one ≡ other
same_doctype kept one other a b =
    let of : Option (List ℕ) → Option (List ℕ) → Option (List ℕ) → Bool → StandardDoctype = λ name public system quirks. record { name = name; public_id = public; system_id = system; force_quirks = quirks } in
    ap (λ x. of x one.public_id one.system_id one.force_quirks) (same_may kept.name one.name other.name a.name b.name)
    ∙ ap (λ x. of other.name x one.system_id one.force_quirks) (same_may kept.public_id one.public_id other.public_id a.public_id b.public_id)
    ∙ ap (λ x. of other.name other.public_id x one.force_quirks) (same_may kept.system_id one.system_id other.system_id a.system_id b.system_id)
    ∙ ap (λ x. of other.name other.public_id other.system_id x) (sym a.force_quirks ∙ b.force_quirks)

same_attr : (kept : TagAttr) (one other : Attr) → IsAttr kept one → IsAttr kept other → one ≡ other
same_attr kept one other a b =
    let of : List ℕ → List ℕ → Attr = λ name value. record { name = name; value = value } in
    ap (λ x. of x one.value) (same_spelled kept.name one.name other.name a.name b.name) ∙ ap (λ x. of other.name x) (same_spelled kept.value one.value other.value a.value b.value)

same_attrs : (kept : List TagAttr) (ones others : List Attr) → AreAttrs kept ones → AreAttrs kept others → ones ≡ others
same_attrs [] [] [] a b = refl
same_attrs [] [] (y ∷ ys) a b = absurd b
same_attrs [] (x ∷ xs) ys a b = absurd a
same_attrs (k ∷ kept) [] ys a b = absurd a
same_attrs (k ∷ kept) (x ∷ xs) [] a b = absurd b
same_attrs (k ∷ kept) (x ∷ xs) (y ∷ ys) a b = ap (λ z. z ∷ xs) (same_attr k x y a.0 b.0) ∙ ap (λ zs. y ∷ zs) (same_attrs kept xs ys a.1 b.1)

-- the token of such a tag
abbrev tag_token : StandardKind → List ℕ → List Attr → Bool → StandardToken
tag_token kind name attrs closing = elim kind [ Starting ↦ AStart name attrs closing | Ending ↦ AnEnd name ]

same_tag : (kept : Tag) (one other : StandardTag) → IsTag one kept → IsTag other kept → token_of one ≡ token_of other
same_tag kept one other a b =
    let attrs : distinct (reverse one.attrs) ≡ distinct (reverse other.attrs) = same_attrs kept.attrs.items (distinct (reverse one.attrs)) (distinct (reverse other.attrs)) a.attrs b.attrs in
    ap (λ x. tag_token x one.name (distinct (reverse one.attrs)) one.self_closing) (sym a.kind ∙ b.kind)
    ∙ ap (λ x. tag_token other.kind x (distinct (reverse one.attrs)) one.self_closing) (same_spelled kept.name one.name other.name a.name b.name)
    ∙ ap (λ x. tag_token other.kind other.name x one.self_closing) attrs
    ∙ ap (λ x. tag_token other.kind other.name (distinct (reverse other.attrs)) x) (sym a.self_closing ∙ b.self_closing)

same_ended : (kept : Option Tag) (one other : StandardTag) → IsSomeAnd kept (IsTag one) → IsSomeAnd kept (IsTag other) → token_of one ≡ token_of other
same_ended None one other a b = absurd a
same_ended (Some kept) one other a b = same_tag kept one other a b

same_one : (x y : StandardToken) → x ∷ [] ≡ y ∷ [] → x ≡ y
same_one x y e = head_of x y [] [] e

same_told : (kind : TokenKind) (t : Tokenizer) (one other : StandardToken) → Told (Some kind) t (one ∷ []) → Told (Some kind) t (other ∷ []) → one ≡ other
same_told token.Comment t one other a b =
    same_one one (AComment a.0) a.1 ∙ ap AComment (same_spelled t.comment a.0 b.0 a.2 b.2) ∙ sym (same_one other (AComment b.0) b.1)
same_told token.Doctype t one other a b =
    same_one one (ADoctype a.0) a.1 ∙ ap ADoctype (same_doctype t.doctype a.0 b.0 a.2 b.2) ∙ sym (same_one other (ADoctype b.0) b.1)
same_told token.Tag t one other a b =
    same_one one (token_of a.0) a.1 ∙ same_ended t.ended a.0 b.0 a.2 b.2 ∙ sym (same_one other (token_of b.0) b.1)

-- ---- steps that emit characters

go_on : {f : Feedback} {a b c : Reader} → Reads f a b → Reads f b c → Reads f a c
go_on here more = more
go_on (next s is runs reads) more = next s is runs (go_on reads more)

chars_stay : (f : Feedback) → IsFeedback f → (seen : List StandardToken) (c : ℕ) (cs : List ℕ) → f.switch (seen ++ map AChar (c ∷ cs)) ≡ None
chars_stay f honest seen c [] = honest seen (AChar c) refl
chars_stay f honest seen c (d ∷ cs) = ap f.switch (sym (append_assoc seen (AChar c ∷ []) (map AChar (d ∷ cs)))) ∙ chars_stay f honest (seen ++ AChar c ∷ []) d cs

none_answered : (f : Feedback) → IsFeedback f → (seen : List StandardToken) (cs : List ℕ) (m : Machine) → answered f seen (map AChar cs) m ≡ m
none_answered f honest seen [] m = refl
none_answered f honest seen (c ∷ cs) m = ap (λ o. switched o m) (chars_stay f honest seen c cs)

-- what tree construction's flag is, behind the characters that are kept
abbrev flag_behind : Feedback → List StandardToken → List ℕ → Bool
flag_behind f told kept = f.in_foreign (told ++ map AChar kept)

told_on : (told : List StandardToken) (kept cs : List ℕ) → (told ++ map AChar kept) ++ map AChar cs ≡ told ++ map AChar (kept ++ cs)
told_on told kept cs = append_assoc told (map AChar kept) (map AChar cs) ∙ ap (λ ts. told ++ ts) (sym (map_append AChar kept cs))

-- where the machine comes by steps that emit characters, reading comes with the answers of tree construction
reads_on : (f : Feedback) → IsFeedback f → (told : List StandardToken) {kept all : List ℕ} {m n : Machine} {text rest : List ℕ} → Comes (flag_behind f told) kept m text all n rest →
    Reads f (reader m text (told ++ map AChar kept)) (reader n rest (told ++ map AChar all))
reads_on f honest told come.here = here
reads_on f honest told {kept} {all} {m} {n} {text} {rest} (come.next s shown is runs tokens comes) =
    let seen : List StandardToken = told ++ map AChar kept in
    let same : after f (reader m text seen) s ≡ reader s.machine s.rest (told ++ map AChar (kept ++ shown)) =
    ap (λ ts. reader (answered f seen ts s.machine) s.rest (seen ++ ts)) tokens ∙ ap (λ k. reader k s.rest (seen ++ map AChar shown)) (none_answered f honest seen shown s.machine)
    ∙ ap (λ ts. reader s.machine s.rest ts) (told_on told kept shown) in
    next s is runs (subst (λ r. Reads f r (reader n rest (told ++ map AChar all))) (sym same) (reads_on f honest told comes))

-- ---- the beginning

pub begins : PagesBegin
begins f first t fresh empty holds = λ rest. record {
  machine = start_in first;
  ahead = [];
  kept = [];
  reads = subst (λ x. Reads f (reader (start_in first) (normalized rest) []) (reader (start_in first) (normalized_behind x rest) [])) (sym fresh) here;
  holds = holds;
  text = empty;
}

-- ---- a text

-- the place before, with more text in front of the rest
at_more : (f : Feedback) (first : StandardState) (read more : List ℕ) (told : List StandardToken) (old : Tokenizer) (rest : List ℕ) (at : IsAt f first read told old (more ++ rest)) →
    Reads f (reader (start_in first) (normalized ((read ++ more) ++ rest)) []) (reader at.machine (at.ahead ++ normalized_behind old.after_return (more ++ rest)) (told ++ map AChar at.kept))
at_more f first read more told old rest at =
    subst (λ text. Reads f (reader (start_in first) (normalized text) []) (reader at.machine (at.ahead ++ normalized_behind old.after_return (more ++ rest)) (told ++ map AChar at.kept))) (sym (append_assoc read more rest)) at.reads

-- the flag where no characters are kept
flag_now : (f : Feedback) (told : List StandardToken) (t : Tokenizer) → IsAnswering f told t → flag_behind f told [] ≡ t.in_foreign
flag_now f told t answers = ap f.in_foreign (append-nil told) ∙ answers.flag

pub texts : TextsAreRead
texts f first read more told old new honest answers has reads = λ rest.
    let at : IsAt f first read told old (more ++ rest) = has (more ++ rest) in
    let to : BehindText (flag_behind f told) at.kept old new more None at.machine at.ahead rest =
    reads.reads answers.wants (flag_behind f told) (flag_now f told old answers) at.kept at.text at.machine at.ahead rest at.holds in
    let text : List ℕ = at.ahead ++ normalized_behind old.after_return (more ++ rest) in
    let left : List ℕ = to.ahead' ++ normalized_behind new.after_return rest in
    let comes : Comes (flag_behind f told) at.kept at.machine text to.all to.machine left = subst (λ ts. Finishes (flag_behind f told) at.kept at.machine text to.all ts to.machine left) to.ends to.goes in
    record {
      machine = to.machine;
      ahead = to.ahead';
      kept = to.all;
      reads = go_on (at_more f first read more told old rest at) (reads_on f honest told comes);
      holds = to.holds;
      text = to.text;
    }

-- ---- characters that are told

pub characters : CharactersAreTold
characters f first read told old new has taken cs spelled = λ rest.
    let at : IsAt f first read told old rest = has rest in
    let same : at.kept ≡ cs = encodes_same at.kept cs (sym at.text ∙ spelled) in
    let fresh : new.after_return ≡ old.after_return = ap (λ t. t.after_return) taken.only in
    let seen : told ++ map AChar at.kept ≡ (told ++ map AChar cs) ++ [] = ap (λ ds. told ++ map AChar ds) same ∙ sym (append-nil (told ++ map AChar cs)) in
    record {
      machine = at.machine;
      ahead = at.ahead;
      kept = [];
      reads = subst (λ x. Reads f (reader (start_in first) (normalized (read ++ rest)) []) (reader at.machine (at.ahead ++ normalized_behind x rest) ((told ++ map AChar cs) ++ []))) (sym fresh)
          (subst (λ ts. Reads f (reader (start_in first) (normalized (read ++ rest)) []) (reader at.machine (at.ahead ++ normalized_behind old.after_return rest) ts)) seen at.reads);
      holds = holds_on old new at.ahead at.machine (subst (λ x. x ≡ beside old x) (sym taken.only) refl) at.holds;
      text = taken.empty;
    }

-- ---- a token

-- where a token ended
record TokenAt (f : Feedback) (first : StandardState) (read : List ℕ) (told : List StandardToken) (kind : TokenKind) (t : Tokenizer) (rest : List ℕ) : Type 0 where
  pub machine : Machine
  pub kept : List ℕ
  pub token : StandardToken
  pub is : Told (Some kind) t (token ∷ [])
  pub text : text_of t ≡ encode_utf8_all kept
  pub stands : Stands t [] machine
  pub reads : Reads f (reader (start_in first) (normalized (read ++ rest)) [])
      (reader (switched (f.switch (told ++ map AChar kept ++ token ∷ [])) machine) (normalized_behind t.after_return rest) (told ++ map AChar kept ++ token ∷ []))

-- the last step, and the answer to its token
last_answered : (f : Feedback) → IsFeedback f → (told : List StandardToken) {kept all : List ℕ} {m n : Machine} {text rest : List ℕ} (one : StandardToken) → EmitsLast (flag_behind f told) kept m text all one n rest →
    Reads f (reader m text (told ++ map AChar kept)) (reader (switched (f.switch (told ++ map AChar all ++ one ∷ [])) n) rest (told ++ map AChar all ++ one ∷ []))
last_answered f honest told {kept} {all} {m} {n} {text} {rest} one last =
    let now : List StandardToken = told ++ map AChar all in
    let s : Step = step (flag_behind f told all) last.before last.left in
    let same : after f (reader last.before last.left now) s ≡ reader (switched (f.switch (now ++ one ∷ [])) n) rest (now ++ one ∷ []) =
    ap (λ ts. reader (answered f now ts s.machine) s.rest (now ++ ts)) last.tokens
    ∙ ap (λ k. reader (switched (f.switch (now ++ one ∷ [])) k) s.rest (now ++ one ∷ [])) last.machine
    ∙ ap (λ r. reader (switched (f.switch (now ++ one ∷ [])) n) r (now ++ one ∷ [])) last.rest_is in
    go_on (reads_on f honest told last.comes) (next s refl last.runs (subst (λ r. Reads f (after f (reader last.before last.left now) s) r) same here))

token_at : (f : Feedback) (first : StandardState) (read more : List ℕ) (told : List StandardToken) (old new : Tokenizer) (kind : TokenKind) → IsFeedback f → IsAnswering f told old → HasRead f first read told old →
    ReadsText old new more (Some kind) → (rest : List ℕ) → TokenAt f first (read ++ more) told kind new rest
token_at f first read more told old new kind honest answers has reads rest =
    let at : IsAt f first read told old (more ++ rest) = has (more ++ rest) in
    let to : BehindText (flag_behind f told) at.kept old new more (Some kind) at.machine at.ahead rest =
    reads.reads answers.wants (flag_behind f told) (flag_now f told old answers) at.kept at.text at.machine at.ahead rest at.holds in
    let text : List ℕ = at.ahead ++ normalized_behind old.after_return (more ++ rest) in
    let left : List ℕ = to.ahead' ++ normalized_behind new.after_return rest in
    let one : IsOne to.tokens = told_one kind new to.tokens to.ends in
    let last : EmitsLast (flag_behind f told) at.kept at.machine text to.all one.token to.machine left =
    subst (λ ts. Finishes (flag_behind f told) at.kept at.machine text to.all ts to.machine left) one.are to.goes in
    let at_data : InData new to.ahead' to.machine = in_data new to.ahead' to.machine last.leads to.holds in
    let now : List StandardToken = told ++ map AChar to.all ++ one.token ∷ [] in
    record {
      machine = to.machine;
      kept = to.all;
      token = one.token;
      is = subst (λ ts. Told (Some kind) new ts) one.are to.ends;
      text = to.text;
      stands = at_data.stands;
      reads = go_on (at_more f first read more told old rest at)
          (subst (λ a. Reads f (reader at.machine text (told ++ map AChar at.kept)) (reader (switched (f.switch now) to.machine) (a ++ normalized_behind new.after_return rest) now)) at_data.none
          (last_answered f honest told one.token last));
    }

-- tree construction answers
held_in_text : (s : State) (t : Tokenizer) (m : Machine) → IsTextState s → Held s t [] m
held_in_text state.Data t m is = refl
held_in_text state.Rcdata t m is = refl
held_in_text state.Rawtext t m is = refl
held_in_text state.Script t m is = refl
held_in_text state.Plaintext t m is = refl
held_in_text (state.Cdata inner) t m is = absurd is
held_in_text (state.Tag inner) t m is = absurd is
held_in_text (state.EndTag kind inner) t m is = absurd is
held_in_text (state.ScriptData inner) t m is = absurd is
held_in_text (state.Attribute inner) t m is = absurd is
held_in_text (state.Declaration seen) t m is = absurd is
held_in_text (state.Comment inner) t m is = absurd is
held_in_text (state.Doctype inner) t m is = absurd is

fed_back : (answer : Option StandardState) (old new : Tokenizer) (m : Machine) → new ≡ record old { state = new.state; text = new.text; in_foreign = new.in_foreign } → IsAnswered answer old new → Stands old [] m → Stands new [] (switched answer m)
fed_back None old new m only is stands =
    let all : new ≡ record old { text = new.text; in_foreign = new.in_foreign } = only ∙ ap (λ s. record old { state = s; text = new.text; in_foreign = new.in_foreign }) is in
    subst (λ t. Stands t [] m) (sym (subst (λ x. x ≡ beside old x) (sym all) refl)) (stands_beside old new [] m stands)
fed_back (Some to) old new m only is stands = record {
  reference = ap (λ t. t.reference) only ∙ stands.reference;
  state = sym is.0;
  last_start = subst (λ name. IsLast name m.last_start) (sym (ap (λ t. t.last_start) only)) stands.last_start;
  held = held_in_text new.state new (at_state m to) is.1;
}

pub tokens : TokensAreRead
tokens f first read more told old new kind honest answers has reads =
    let at : (rest : List ℕ) → TokenAt f first (read ++ more) told kind new rest = token_at f first read more told old new kind honest answers has reads in
    let chosen : TokenAt f first (read ++ more) told kind new [] = at [] in
    let now : List StandardToken = told ++ map AChar chosen.kept ++ chosen.token ∷ [] in
    record {
      token = chosen.token;
      characters = chosen.kept;
      is = chosen.is;
      text = chosen.text;
      goes_on = λ fed fed_is rest.
          let here_at : TokenAt f first (read ++ more) told kind new rest = at rest in
          let kept : here_at.kept ≡ chosen.kept = encodes_same here_at.kept chosen.kept (sym here_at.text ∙ chosen.text) in
          let one : here_at.token ≡ chosen.token = same_told kind new here_at.token chosen.token here_at.is chosen.is in
          let same : told ++ map AChar here_at.kept ++ here_at.token ∷ [] ≡ now = ap (λ cs. told ++ map AChar cs ++ here_at.token ∷ []) kept ∙ ap (λ t. told ++ map AChar chosen.kept ++ t ∷ []) one in
          let fresh : fed.after_return ≡ new.after_return = ap (λ t. t.after_return) fed_is.only in
          record {
            machine = switched (f.switch now) here_at.machine;
            ahead = [];
            kept = [];
            reads = subst (λ x. Reads f (reader (start_in first) (normalized ((read ++ more) ++ rest)) []) (reader (switched (f.switch now) here_at.machine) (normalized_behind x rest) (now ++ []))) (sym fresh)
                (subst (λ ts. Reads f (reader (start_in first) (normalized ((read ++ more) ++ rest)) []) (reader (switched (f.switch now) here_at.machine) (normalized_behind new.after_return rest) ts)) (sym (append-nil now))
                (subst (λ ts. Reads f (reader (start_in first) (normalized ((read ++ more) ++ rest)) []) (reader (switched (f.switch ts) here_at.machine) (normalized_behind new.after_return rest) ts)) same here_at.reads));
            holds = inl (fed_back (f.switch now) new fed here_at.machine fed_is.only fed_is.state here_at.stands);
            text = fed_is.empty;
          };
    }

-- ---- a call

told_is : (told after : Option TokenKind) → after ≡ told_or told None → told ≡ after
told_is None after e = sym e
told_is (Some kind) after e = sym e

pub texts_called : CallsReadTexts
texts_called f first read told old new text rest honest answers has up =
    (up.read, up.cut, texts f first read up.read told old new honest answers has (subst (λ k. ReadsText old new up.read k) (told_is up.told None up.kind) up.reads))

pub tokens_called : CallsReadTokens
tokens_called f first read told old new text rest kind honest answers has up =
    (up.read, up.cut, tokens f first read up.read told old new kind honest answers has (subst (λ k. ReadsText old new up.read k) (told_is up.told (Some kind) up.kind) up.reads))

-- ---- the end

kept_text : (a b : List ℕ) (kept cs : List ℕ) → a ≡ encode_utf8_all kept → b ≡ a ++ encode_utf8_all cs → b ≡ encode_utf8_all (kept ++ cs)
kept_text a b kept cs one other = other ∙ ap (λ e. e ++ encode_utf8_all cs) one ∙ sym (encodes-append kept cs)

pub ends : PagesEnd
ends f first read told old new kind honest has page =
    let at : IsAt f first read told old [] = has [] in
    let stop : Stops old new kind at.machine at.ahead = page.stops at.machine at.ahead at.holds in
    let b : Bool = old.in_foreign in
    let all : List ℕ = at.kept ++ stop.characters in
    let now : List StandardToken = told ++ map AChar all in
    let left : Reads f (reader (start_in first) (normalized (read ++ [])) []) (reader at.machine at.ahead (told ++ map AChar at.kept)) =
    subst (λ text. Reads f (reader (start_in first) (normalized (read ++ [])) []) (reader at.machine text (told ++ map AChar at.kept))) (append-nil at.ahead) at.reads in
    let goes : Reads f (reader at.machine at.ahead (told ++ map AChar at.kept)) (reader stop.machine [] now) = reads_on f honest told (from_goes (flag_behind f told) at.kept stop.characters stop.goes refl) in
    let flag : step (f.in_foreign now) stop.machine [] ≡ step b stop.machine [] = same_step (f.in_foreign now) b stop.machine [] refl in
    let joined : told ++ map AChar (at.kept ++ (stop.characters ++ stop.last)) ≡ now ++ map AChar stop.last =
    ap (λ cs. told ++ map AChar cs) (sym (append_assoc at.kept stop.characters stop.last)) ∙ sym (told_on told all stop.last) in
    let tokens : told ++ map AChar (at.kept ++ (stop.characters ++ stop.last)) ++ stop.tokens ++ AnEof ∷ [] ≡ now ++ (map AChar stop.last ++ stop.tokens ++ AnEof ∷ []) =
    ap (λ ts. ts ++ stop.tokens ++ AnEof ∷ []) joined
    ∙ ap (λ ts. ts ++ AnEof ∷ []) (append_assoc now (map AChar stop.last) stop.tokens) ∙ append_assoc now (map AChar stop.last ++ stop.tokens) (AnEof ∷ []) in
    record {
      tokens = stop.tokens;
      characters = at.kept ++ (stop.characters ++ stop.last);
      is = stop.ends;
      text = kept_text (text_of old) (text_of new) at.kept (stop.characters ++ stop.last) at.text stop.text;
      whole = record {
        last = reader stop.machine [] now;
        reads = go_on (subst (λ text. Reads f (reader (start_in first) (normalized text) []) (reader at.machine at.ahead (told ++ map AChar at.kept))) (append-nil read) left) goes;
        stops = ap (λ (s : Step). s.stopped) flag ∙ stop.stops;
        all = tokens ∙ ap (λ ts. now ++ ts) (sym (ap (λ (s : Step). s.tokens) flag ∙ stop.emits));
      };
    }
