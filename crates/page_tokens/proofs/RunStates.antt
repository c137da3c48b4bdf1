-- A run that a state copies is read as the standard reads it, in each state.
use Rattle.std.specs.Prelude.{◌≡◌, ℕ, ◌<◌, Bool, true, false, ◌==◌, List, [], ◌∷◌, ◌++◌, length, None, Some, refl}
use Rattle.std.specs.Char.{to_ascii_lowercase}
use Rattle.std.specs.Str.{encode_utf8_all}
use Rattle.std.proofs.lemmas.Option.{none-some, same_Some}
use mathlib.Core.Path.{ap, subst}
use Rattle.standard_tokens.specs.Machine.{Machine, taken}
use Rattle.standard_tokens.specs.States as there
use Rattle.standard_tokens.specs.Table.{entries}
use Rattle.standard_tokens.specs.Tokens.{Attr}
use Rattle.page_tokens.specs.Comments.{Adds, added_again, came_of, shown_of, state_again}
use Rattle.page_tokens.specs.FastPaths.{CopiesRun}
use Rattle.page_tokens.specs.RunEnds.{ends_attr_name, ends_run, run_in}
use Rattle.page_tokens.specs.Runs.{ends_tag_name}
use Rattle.page_tokens.specs.ScriptStates.{doubled, escaped, script_step_of}
use Rattle.page_tokens.specs.Standard.{FollowsStandard, Goes}
use Rattle.page_tokens.specs.StandardStates.{comment_state_of}
use Rattle.page_tokens.specs.declared.tokenizer.Tokenizer.{Tokenizer}
use Rattle.page_tokens.specs.declared.tokenizer.runs.Run.{Run}
use Rattle.page_tokens.specs.declared.tokenizer.runs.Run.TheVariants as run
use Rattle.page_tokens.specs.declared.tokenizer.script_data.ScriptStep.TheVariants as its
use Rattle.page_tokens.specs.declared.tokenizer.state.AttrState.TheVariants as attr
use Rattle.page_tokens.specs.declared.tokenizer.state.CdataState.TheVariants as cdata
use Rattle.page_tokens.specs.declared.tokenizer.state.CommentState.TheVariants as comment
use Rattle.page_tokens.specs.declared.tokenizer.state.DoctypeState.TheVariants as doctype
use Rattle.page_tokens.specs.declared.tokenizer.state.DoubleState.TheVariants as double
use Rattle.page_tokens.specs.declared.tokenizer.state.Quote.{Quote}
use Rattle.page_tokens.specs.declared.tokenizer.state.Quote.TheVariants as quote
use Rattle.page_tokens.specs.declared.tokenizer.state.ScriptState.{ScriptState}
use Rattle.page_tokens.specs.declared.tokenizer.state.ScriptState.TheVariants as script
use Rattle.page_tokens.specs.declared.tokenizer.state.State.{State}
use Rattle.page_tokens.specs.declared.tokenizer.state.State.TheVariants as state
use Rattle.page_tokens.specs.declared.tokenizer.state.TagState.TheVariants as tag
use Rattle.page_tokens.proofs.AttrRuns.{attr_name_run, value_run}
use Rattle.page_tokens.proofs.CdataSections.{section_over}
use Rattle.page_tokens.proofs.CommentSteps.{Comes, again, came_comes, commenting}
use Rattle.page_tokens.proofs.IdRuns.{id_run}
use Rattle.page_tokens.proofs.RawTexts.{data_over, plaintext_over, rawtext_over, rcdata_over, script_over}
use Rattle.page_tokens.proofs.RunFollows.{NoneEnds, comment_run, is_other, name_run, shown_same, text_run}
use Rattle.page_tokens.proofs.ScriptSteps.{Comes as ComesInScript, comes as comes_in_script}
use Rattle.page_tokens.proofs.TagNames.{differs}
use Rattle.page_tokens.proofs.TagSteps.{IsNameLetter, an_attr, attr_letter, name_letter, naming, with_attrs}
use Rattle.page_tokens.proofs.TextFollows.{Over}

-- a run of this kind is read in the state as the standard reads it
abbrev pub Copied : State → Run → Type 0
Copied from kind = (old new : Tokenizer) (cs : List ℕ) → old.state ≡ from → CopiesRun kind old new (encode_utf8_all cs) → 0 < length cs → old.refused ≡ false → NoneEnds (ends_run kind) cs → FollowsStandard old new cs None

-- ---- text

shown_over : (from : State) (ends : ℕ → Bool) (c : ℕ) → ends c ≡ false → ends 0 ≡ true → Over from from c (shown_of c ∷ []) → Over from from c (c ∷ [])
shown_over from ends c goes_on null over = subst (λ d. Over from from c (d ∷ [])) (shown_same ends c goes_on null) over

in_data : Copied state.Data run.Text
in_data old new cs is adds some none all =
    let ends : ℕ → Bool = ends_run run.Text in
    text_run old new state.Data ends cs is adds none (λ c goes_on. data_over c (differs ends 38 c goes_on refl) (differs ends 60 c goes_on refl)) (λ t ahead m held. held) (λ t m. refl) all

in_rcdata : Copied state.Rcdata run.Text
in_rcdata old new cs is adds some none all =
    let ends : ℕ → Bool = ends_run run.Text in
    text_run old new state.Rcdata ends cs is adds none (λ c goes_on. shown_over state.Rcdata ends c goes_on refl (rcdata_over c (differs ends 38 c goes_on refl) (differs ends 60 c goes_on refl)))
    (λ t ahead m held. held) (λ t m. refl) all

in_rawtext : Copied state.Rawtext run.Raw
in_rawtext old new cs is adds some none all =
    let ends : ℕ → Bool = ends_run run.Raw in
    text_run old new state.Rawtext ends cs is adds none (λ c goes_on. shown_over state.Rawtext ends c goes_on refl (rawtext_over c (differs ends 60 c goes_on refl))) (λ t ahead m held. held) (λ t m. refl) all

in_script : Copied state.Script run.Raw
in_script old new cs is adds some none all =
    let ends : ℕ → Bool = ends_run run.Raw in
    text_run old new state.Script ends cs is adds none (λ c goes_on. shown_over state.Script ends c goes_on refl (script_over c (differs ends 60 c goes_on refl))) (λ t ahead m held. held) (λ t m. refl) all

in_plaintext : Copied state.Plaintext run.Plaintext
in_plaintext old new cs is adds some none all =
    let ends : ℕ → Bool = ends_run run.Plaintext in
    text_run old new state.Plaintext ends cs is adds none (λ c goes_on. shown_over state.Plaintext ends c goes_on refl (plaintext_over c)) (λ t ahead m held. held) (λ t m. refl) all

escaped_over : (c : ℕ) → ends_run run.Escaped c ≡ false → Over escaped escaped c (c ∷ [])
escaped_over c goes_on =
    let ends : ℕ → Bool = ends_run run.Escaped in
    let step : script_step_of script.Escaped c ≡ its.Text escaped = rw (is_other ends c 45 goes_on refl, is_other ends c 60 goes_on refl) refl in
    let steps : ComesInScript script.Escaped script.Escaped c (its.Text escaped) = subst (ComesInScript script.Escaped script.Escaped c) step (comes_in_script script.Escaped c) in
    shown_over escaped ends c goes_on refl steps.0

doubled_over : (c : ℕ) → ends_run run.Escaped c ≡ false → Over (doubled double.Escaped) (doubled double.Escaped) c (c ∷ [])
doubled_over c goes_on =
    let ends : ℕ → Bool = ends_run run.Escaped in
    let from : ScriptState = script.Double double.Escaped in
    let step : script_step_of from c ≡ its.Text (doubled double.Escaped) = rw (is_other ends c 45 goes_on refl, is_other ends c 60 goes_on refl) refl in
    let steps : ComesInScript from from c (its.Text (doubled double.Escaped)) = subst (ComesInScript from from c) step (comes_in_script from c) in
    shown_over (doubled double.Escaped) ends c goes_on refl steps.0

in_escaped : Copied escaped run.Escaped
in_escaped old new cs is adds some none all = text_run old new escaped (ends_run run.Escaped) cs is adds none escaped_over (λ t ahead m held. held) (λ t m. refl) all

in_doubled : Copied (doubled double.Escaped) run.Escaped
in_doubled old new cs is adds some none all = text_run old new (doubled double.Escaped) (ends_run run.Escaped) cs is adds none doubled_over (λ t ahead m held. held) (λ t m. refl) all

in_cdata : Copied (state.Cdata cdata.Section) run.Cdata
in_cdata old new cs is adds some none all =
    let ends : ℕ → Bool = ends_run run.Cdata in
    text_run old new (state.Cdata cdata.Section) ends cs is adds none (λ c goes_on. section_over c (differs ends 93 c goes_on refl)) (λ t ahead m held. held) (λ t m. refl) all

-- ---- comments

in_comment : Copied (state.Comment comment.Comment) run.Comment
in_comment old new cs is adds some none all =
    let ends : ℕ → Bool = ends_run run.Comment in
    comment_run old new comment.Comment ends cs is adds none (λ b m d c rest goes_on.
    let h60 : (c == 60) ≡ false = is_other ends c 60 goes_on refl in
    let h45 : (c == 45) ≡ false = is_other ends c 45 goes_on refl in
    let same_state : state_again c ≡ comment.Comment = rw (h60, h45) refl in
    let one : added_again c ≡ c ∷ [] = rw (h60, h45) (ap (λ e. e ∷ []) (shown_same ends c goes_on refl)) in
    subst (λ e. Goes (commenting m (comment_state_of comment.Comment) d) (c ∷ rest) [] (commenting m (comment_state_of comment.Comment) (d ++ e)) rest) one
    (subst (λ s. Goes (commenting m (comment_state_of comment.Comment) d) (c ∷ rest) [] (commenting m (comment_state_of s) (d ++ added_again c)) rest) same_state (again b m d rest c))) all

in_bogus : Copied (state.Comment comment.Bogus) run.BogusComment
in_bogus old new cs is adds some none all =
    let ends : ℕ → Bool = ends_run run.BogusComment in
    comment_run old new comment.Bogus ends cs is adds none (λ b m d c rest goes_on.
    let came : came_of comment.Bogus c ≡ Adds = rw (is_other ends c 62 goes_on refl) refl in
    let steps : Comes b comment.Bogus m d rest c Adds = subst (Comes b comment.Bogus m d rest c) came (came_comes comment.Bogus b m d rest c) in
    subst (λ e. Goes (commenting m (comment_state_of comment.Bogus) d) (c ∷ rest) [] (commenting m (comment_state_of comment.Bogus) (d ++ e ∷ [])) rest) (shown_same ends c goes_on refl) steps) all

-- ---- names and values in tags

pub letter_of : (ends : ℕ → Bool) (c : ℕ) → ends c ≡ false → ends 9 ≡ true → ends 10 ≡ true → ends 12 ≡ true → ends 32 ≡ true → ends 47 ≡ true → ends 62 ≡ true → IsNameLetter c
letter_of ends c goes_on tab line_feed form_feed space slash greater = record {
  tab = differs ends 9 c goes_on tab;
  line_feed = differs ends 10 c goes_on line_feed;
  form_feed = differs ends 12 c goes_on form_feed;
  space = differs ends 32 c goes_on space;
  slash = differs ends 47 c goes_on slash;
  greater = differs ends 62 c goes_on greater;
}

-- a character of a tag's name
pub name_step : (b : Bool) (m : Machine) (d : List ℕ) (c : ℕ) (rest : List ℕ) → ends_tag_name c ≡ false → Goes (naming m d) (c ∷ rest) [] (naming m (d ++ to_ascii_lowercase c ∷ [])) rest
name_step b m d c rest goes_on =
    subst (λ e. Goes (naming m d) (c ∷ rest) [] (naming m (d ++ to_ascii_lowercase e ∷ [])) rest) (shown_same ends_tag_name c goes_on refl)
    (name_letter b m d rest c (letter_of ends_tag_name c goes_on refl refl refl refl refl refl))

in_tag_name : Copied (state.Tag tag.Name) run.TagName
in_tag_name old new cs is adds some none all = name_run old new ends_tag_name cs is adds none name_step all

-- a character of an attribute's name
pub attr_name_step : (b : Bool) (m : Machine) (name value : List ℕ) (older : List Attr) (c : ℕ) (rest : List ℕ) → ends_attr_name c ≡ false →
    Goes (with_attrs m there.AttributeName (an_attr name value ∷ older)) (c ∷ rest) [] (with_attrs m there.AttributeName (an_attr (name ++ to_ascii_lowercase c ∷ []) value ∷ older)) rest
attr_name_step b m name value older c rest goes_on =
    subst (λ e. Goes (with_attrs m there.AttributeName (an_attr name value ∷ older)) (c ∷ rest) [] (with_attrs m there.AttributeName (an_attr (name ++ to_ascii_lowercase e ∷ []) value ∷ older)) rest) (shown_same ends_attr_name c goes_on refl)
    (attr_letter b m name value rest older c (letter_of ends_attr_name c goes_on refl refl refl refl refl refl) (differs ends_attr_name 61 c goes_on refl))

in_attr_name : Copied (state.Attribute attr.Name) run.AttrName
in_attr_name old new cs is adds some none all = attr_name_run old new ends_attr_name cs is adds none attr_name_step all

in_quoted : (mark : Quote) → Copied (state.Attribute (attr.Quoted mark)) (run.AttrValue mark)
unfolding taken entries
in_quoted quote.Double old new cs is adds some none all =
    let ends : ℕ → Bool = ends_run (run.AttrValue quote.Double) in
    value_run old new (attr.Quoted quote.Double) ends cs is adds none
    (λ c goes_on b m rest.
    let h34 : (34 == c) ≡ false = differs ends 34 c goes_on refl in
    let h38 : (38 == c) ≡ false = differs ends 38 c goes_on refl in
    let h0 : (0 == c) ≡ false = differs ends 0 c goes_on refl in
    rw (h34, h38, h0) refl) (λ t ahead m held. held.0) (λ t ahead m held. held.1) (λ t m. ((λ held. held.2), (λ draft some. (refl, draft, some)))) all
in_quoted quote.Single old new cs is adds some none all =
    let ends : ℕ → Bool = ends_run (run.AttrValue quote.Single) in
    value_run old new (attr.Quoted quote.Single) ends cs is adds none
    (λ c goes_on b m rest.
    let h39 : (39 == c) ≡ false = differs ends 39 c goes_on refl in
    let h38 : (38 == c) ≡ false = differs ends 38 c goes_on refl in
    let h0 : (0 == c) ≡ false = differs ends 0 c goes_on refl in
    rw (h39, h38, h0) refl) (λ t ahead m held. held.0) (λ t ahead m held. held.1) (λ t m. ((λ held. held.2), (λ draft some. (refl, draft, some)))) all

in_unquoted : Copied (state.Attribute attr.Unquoted) run.UnquotedValue
unfolding taken entries
in_unquoted old new cs is adds some none all =
    let ends : ℕ → Bool = ends_run run.UnquotedValue in
    value_run old new attr.Unquoted ends cs is adds none
    (λ c goes_on b m rest.
    let h9 : (9 == c) ≡ false = differs ends 9 c goes_on refl in
    let h10 : (10 == c) ≡ false = differs ends 10 c goes_on refl in
    let h12 : (12 == c) ≡ false = differs ends 12 c goes_on refl in
    let h32 : (32 == c) ≡ false = differs ends 32 c goes_on refl in
    let h38 : (38 == c) ≡ false = differs ends 38 c goes_on refl in
    let h62 : (62 == c) ≡ false = differs ends 62 c goes_on refl in
    let h0 : (0 == c) ≡ false = differs ends 0 c goes_on refl in
    rw (h9, h10, h12, h32, h38, h62, h0) refl) (λ t ahead m held. held.0) (λ t ahead m held. held.1) (λ t m. ((λ held. held.2), (λ draft some. (refl, draft, some)))) all

-- ---- each state

-- the state copies runs of this kind and no other
only_kind : (from : State) (one kind : Run) → Some one ≡ Some kind → Copied from one → Copied from kind
only_kind from one kind e copied = subst (Copied from) (same_Some one kind e) copied

none_copied : (from : State) (kind : Run) → None ≡ Some kind → Copied from kind
none_copied from kind e = absurd (none-some kind e)

pub run_follows : (from : State) (kind : Run) → run_in from ≡ Some kind → Copied from kind
run_follows state.Data kind e = only_kind state.Data run.Text kind e in_data
run_follows state.Rcdata kind e = only_kind state.Rcdata run.Text kind e in_rcdata
run_follows state.Rawtext kind e = only_kind state.Rawtext run.Raw kind e in_rawtext
run_follows state.Script kind e = only_kind state.Script run.Raw kind e in_script
run_follows state.Plaintext kind e = only_kind state.Plaintext run.Plaintext kind e in_plaintext
run_follows (state.Cdata cdata.Section) kind e = only_kind (state.Cdata cdata.Section) run.Cdata kind e in_cdata
run_follows (state.Cdata cdata.Bracket) kind e = none_copied (state.Cdata cdata.Bracket) kind e
run_follows (state.Cdata cdata.End) kind e = none_copied (state.Cdata cdata.End) kind e
run_follows (state.Tag tag.Open) kind e = none_copied (state.Tag tag.Open) kind e
run_follows (state.Tag tag.EndOpen) kind e = none_copied (state.Tag tag.EndOpen) kind e
run_follows (state.Tag tag.Name) kind e = only_kind (state.Tag tag.Name) run.TagName kind e in_tag_name
run_follows (state.Tag tag.SelfClosing) kind e = none_copied (state.Tag tag.SelfClosing) kind e
run_follows (state.EndTag raw inner) kind e = none_copied (state.EndTag raw inner) kind e
run_follows (state.ScriptData script.EscapeStart) kind e = none_copied (state.ScriptData script.EscapeStart) kind e
run_follows (state.ScriptData script.EscapeStartDash) kind e = none_copied (state.ScriptData script.EscapeStartDash) kind e
run_follows (state.ScriptData script.Escaped) kind e = only_kind escaped run.Escaped kind e in_escaped
run_follows (state.ScriptData script.EscapedDash) kind e = none_copied (state.ScriptData script.EscapedDash) kind e
run_follows (state.ScriptData script.EscapedDashDash) kind e = none_copied (state.ScriptData script.EscapedDashDash) kind e
run_follows (state.ScriptData script.DoubleStart) kind e = none_copied (state.ScriptData script.DoubleStart) kind e
run_follows (state.ScriptData (script.Double double.Escaped)) kind e = only_kind (doubled double.Escaped) run.Escaped kind e in_doubled
run_follows (state.ScriptData (script.Double double.Dash)) kind e = none_copied (doubled double.Dash) kind e
run_follows (state.ScriptData (script.Double double.DashDash)) kind e = none_copied (doubled double.DashDash) kind e
run_follows (state.ScriptData (script.Double double.LessThan)) kind e = none_copied (doubled double.LessThan) kind e
run_follows (state.ScriptData (script.Double double.End)) kind e = none_copied (doubled double.End) kind e
run_follows (state.Attribute attr.BeforeName) kind e = none_copied (state.Attribute attr.BeforeName) kind e
run_follows (state.Attribute attr.Name) kind e = only_kind (state.Attribute attr.Name) run.AttrName kind e in_attr_name
run_follows (state.Attribute attr.AfterName) kind e = none_copied (state.Attribute attr.AfterName) kind e
run_follows (state.Attribute attr.BeforeValue) kind e = none_copied (state.Attribute attr.BeforeValue) kind e
run_follows (state.Attribute (attr.Quoted mark)) kind e = only_kind (state.Attribute (attr.Quoted mark)) (run.AttrValue mark) kind e (in_quoted mark)
run_follows (state.Attribute attr.Unquoted) kind e = only_kind (state.Attribute attr.Unquoted) run.UnquotedValue kind e in_unquoted
run_follows (state.Attribute attr.AfterQuoted) kind e = none_copied (state.Attribute attr.AfterQuoted) kind e
run_follows (state.Declaration seen) kind e = none_copied (state.Declaration seen) kind e
run_follows (state.Comment comment.Bogus) kind e = only_kind (state.Comment comment.Bogus) run.BogusComment kind e in_bogus
run_follows (state.Comment comment.Start) kind e = none_copied (state.Comment comment.Start) kind e
run_follows (state.Comment comment.StartDash) kind e = none_copied (state.Comment comment.StartDash) kind e
run_follows (state.Comment comment.Comment) kind e = only_kind (state.Comment comment.Comment) run.Comment kind e in_comment
run_follows (state.Comment comment.LessThan) kind e = none_copied (state.Comment comment.LessThan) kind e
run_follows (state.Comment comment.LessThanBang) kind e = none_copied (state.Comment comment.LessThanBang) kind e
run_follows (state.Comment comment.LessThanBangDash) kind e = none_copied (state.Comment comment.LessThanBangDash) kind e
run_follows (state.Comment comment.LessThanBangDashDash) kind e = none_copied (state.Comment comment.LessThanBangDashDash) kind e
run_follows (state.Comment comment.EndDash) kind e = none_copied (state.Comment comment.EndDash) kind e
run_follows (state.Comment comment.End) kind e = none_copied (state.Comment comment.End) kind e
run_follows (state.Comment comment.EndBang) kind e = none_copied (state.Comment comment.EndBang) kind e
run_follows (state.Doctype doctype.Begin) kind e = none_copied (state.Doctype doctype.Begin) kind e
run_follows (state.Doctype doctype.BeforeName) kind e = none_copied (state.Doctype doctype.BeforeName) kind e
run_follows (state.Doctype doctype.Name) kind e = none_copied (state.Doctype doctype.Name) kind e
run_follows (state.Doctype doctype.AfterName) kind e = none_copied (state.Doctype doctype.AfterName) kind e
run_follows (state.Doctype (doctype.Keyword which count)) kind e = none_copied (state.Doctype (doctype.Keyword which count)) kind e
run_follows (state.Doctype (doctype.AfterKeyword which)) kind e = none_copied (state.Doctype (doctype.AfterKeyword which)) kind e
run_follows (state.Doctype (doctype.BeforeId which)) kind e = none_copied (state.Doctype (doctype.BeforeId which)) kind e
run_follows (state.Doctype (doctype.Quoted which mark)) kind e =
    only_kind (state.Doctype (doctype.Quoted which mark)) (run.DoctypeId which mark) kind e (λ old new cs is adds some none all. id_run old new which mark cs is adds some none all)
run_follows (state.Doctype (doctype.AfterId which)) kind e = none_copied (state.Doctype (doctype.AfterId which)) kind e
run_follows (state.Doctype doctype.BetweenIds) kind e = none_copied (state.Doctype doctype.BetweenIds) kind e
run_follows (state.Doctype doctype.Bogus) kind e = none_copied (state.Doctype doctype.Bogus) kind e
