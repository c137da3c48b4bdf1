-- The end of the page in a state outside of comments, doctypes and what may be one of these.
use Rattle.std.specs.Prelude.{◌≡◌, ℕ, Bool, true, false, List, [], ◌∷◌, ◌++◌, map, codes, None, string_bytes, refl}
use Rattle.std.specs.Char.{encode_utf8}
use Rattle.std.specs.Str.{encode_utf8_all}
use Rattle.std.proofs.lemmas.List.{append-nil}
use mathlib.Core.Path.{◌∙◌, sym, ap, subst}
use Rattle.standard_tokens.specs.Entries.{Emit, Reconsume, TheBuffer, These}
use Rattle.standard_tokens.specs.Machine.{Machine, at_state, step, taken}
use Rattle.standard_tokens.specs.States as there
use Rattle.standard_tokens.specs.Table.{entries}
use Rattle.standard_tokens.specs.Tokens.{Token as StandardToken, AChar, AnEof}
use Rattle.page_tokens.specs.PageEnds.{EndsMark, IsNoMark, left_of}
use Rattle.page_tokens.specs.Reading.{text_of}
use Rattle.page_tokens.specs.Standard.{Goes, stays, Held, StopsAsStandard}
use Rattle.page_tokens.specs.StandardStates.{state_of}
use Rattle.page_tokens.specs.TextStates.{TextGoesOn}
use Rattle.page_tokens.specs.declared.tokenizer.Tokenizer.{Tokenizer}
use Rattle.page_tokens.specs.declared.tokenizer.state.AttrState.TheVariants as attr
use Rattle.page_tokens.specs.declared.tokenizer.state.CdataState.TheVariants as cdata
use Rattle.page_tokens.specs.declared.tokenizer.state.CommentState.{CommentState}
use Rattle.page_tokens.specs.declared.tokenizer.state.DoctypeState.{DoctypeState}
use Rattle.page_tokens.specs.declared.tokenizer.state.Seen.{Seen}
use Rattle.page_tokens.specs.declared.tokenizer.state.DoubleState.TheVariants as double
use Rattle.page_tokens.specs.declared.tokenizer.state.EndTagState.TheVariants as end_tag
use Rattle.page_tokens.specs.declared.tokenizer.state.Quote.TheVariants as quote
use Rattle.page_tokens.specs.declared.tokenizer.state.Raw.TheVariants as raw
use Rattle.page_tokens.specs.declared.tokenizer.state.ScriptState.TheVariants as script
use Rattle.page_tokens.specs.declared.tokenizer.state.State.{State}
use Rattle.page_tokens.specs.declared.tokenizer.state.State.TheVariants as state
use Rattle.page_tokens.specs.declared.tokenizer.state.TagState.TheVariants as tag
use Rattle.page_tokens.proofs.StandardSteps.{by_entry, in_its_state, taking}

-- where the machine stops behind this text: it has emitted characters, and emits more with the token that ends
pub record Stopping (b : Bool) (m : Machine) (text shown last : List ℕ) (tokens : List StandardToken) : Type 0 where
  pub machine : Machine
  pub goes : Goes m text (map AChar shown) machine []
  pub stops : (step b machine []).stopped ≡ true
  pub emits : (step b machine []).tokens ≡ map AChar last ++ tokens ++ AnEof ∷ []

-- the characters that the machine emits before it stops
abbrev shown_in : State → Machine → List ℕ
shown_in (state.Cdata cdata.Bracket) m = codes "]"
shown_in (state.Cdata cdata.End) m = codes "]]"
shown_in (state.EndTag kind end_tag.LessThan) m = codes "<"
shown_in (state.EndTag kind end_tag.Open) m = codes "</"
shown_in (state.EndTag kind end_tag.Name) m = codes "</" ++ m.buffer
shown_in _ m = []

-- and where it stops
abbrev last_in : State → List ℕ
last_in (state.Tag tag.Open) = codes "<"
last_in (state.Tag tag.EndOpen) = codes "</"
last_in _ = []

abbrev EndsIn : State → Bool → Machine → Type 0
EndsIn s b m = Stopping b (at_state m (state_of s)) [] (shown_in s m) (last_in s) []

ends_in : (s : State) (b : Bool) (m : Machine) → IsNoMark s → EndsIn s b m
unfolding step taken entries
ends_in state.Data b m no_mark =
    record { machine = at_state m there.Data; goes = stays; stops = refl; emits = refl }
ends_in state.Rcdata b m no_mark =
    record { machine = at_state m there.RCDATA; goes = stays; stops = refl; emits = refl }
ends_in state.Rawtext b m no_mark =
    record { machine = at_state m there.RAWTEXT; goes = stays; stops = refl; emits = refl }
ends_in state.Script b m no_mark =
    record { machine = at_state m there.ScriptData; goes = stays; stops = refl; emits = refl }
ends_in state.Plaintext b m no_mark =
    record { machine = at_state m there.PLAINTEXT; goes = stays; stops = refl; emits = refl }
ends_in (state.Cdata cdata.Section) b m no_mark =
    record { machine = at_state m there.CDATASection; goes = stays; stops = refl; emits = refl }
ends_in (state.Cdata cdata.Bracket) b m no_mark =
    record { machine = at_state m there.CDATASection; goes = by_entry (at_state m there.CDATASectionBracket) [] (taking (Emit (These (codes "]")) ∷ []) (Reconsume there.CDATASection) []) (λ x. refl) refl; stops = refl; emits = refl }
ends_in (state.Cdata cdata.End) b m no_mark =
    record { machine = at_state m there.CDATASection; goes = by_entry (at_state m there.CDATASectionEnd) [] (taking (Emit (These (codes "]]")) ∷ []) (Reconsume there.CDATASection) []) (λ x. refl) refl; stops = refl; emits = refl }
ends_in (state.Tag tag.Open) b m no_mark =
    record { machine = at_state m there.TagOpen; goes = stays; stops = refl; emits = refl }
ends_in (state.Tag tag.EndOpen) b m no_mark =
    record { machine = at_state m there.EndTagOpen; goes = stays; stops = refl; emits = refl }
ends_in (state.Tag tag.Name) b m no_mark =
    record { machine = at_state m there.TagName; goes = stays; stops = refl; emits = refl }
ends_in (state.Tag tag.SelfClosing) b m no_mark =
    record { machine = at_state m there.SelfClosingStartTag; goes = stays; stops = refl; emits = refl }
ends_in (state.EndTag raw.Rcdata end_tag.LessThan) b m no_mark =
    record { machine = at_state m there.RCDATA; goes = by_entry (at_state m there.RCDATALessThanSign) [] (taking (Emit (These (codes "<")) ∷ []) (Reconsume there.RCDATA) []) (λ x. refl) refl; stops = refl; emits = refl }
ends_in (state.EndTag raw.Rcdata end_tag.Open) b m no_mark =
    record { machine = at_state m there.RCDATA; goes = by_entry (at_state m there.RCDATAEndTagOpen) [] (taking (Emit (These (codes "</")) ∷ []) (Reconsume there.RCDATA) []) (λ x. refl) refl; stops = refl; emits = refl }
ends_in (state.EndTag raw.Rcdata end_tag.Name) b m no_mark =
    record {
      machine = at_state m there.RCDATA;
      goes = subst (λ ts. Goes (at_state m there.RCDATAEndTagName) [] (AChar 60 ∷ AChar 47 ∷ ts) (at_state m there.RCDATA) []) (append-nil (map AChar m.buffer))
          (by_entry (at_state m there.RCDATAEndTagName) [] (taking (Emit (These (codes "</")) ∷ Emit TheBuffer ∷ []) (Reconsume there.RCDATA) []) (λ x. refl) refl);
      stops = refl;
      emits = refl;
    }
ends_in (state.EndTag raw.Rawtext end_tag.LessThan) b m no_mark =
    record { machine = at_state m there.RAWTEXT; goes = by_entry (at_state m there.RAWTEXTLessThanSign) [] (taking (Emit (These (codes "<")) ∷ []) (Reconsume there.RAWTEXT) []) (λ x. refl) refl; stops = refl; emits = refl }
ends_in (state.EndTag raw.Rawtext end_tag.Open) b m no_mark =
    record { machine = at_state m there.RAWTEXT; goes = by_entry (at_state m there.RAWTEXTEndTagOpen) [] (taking (Emit (These (codes "</")) ∷ []) (Reconsume there.RAWTEXT) []) (λ x. refl) refl; stops = refl; emits = refl }
ends_in (state.EndTag raw.Rawtext end_tag.Name) b m no_mark =
    record {
      machine = at_state m there.RAWTEXT;
      goes = subst (λ ts. Goes (at_state m there.RAWTEXTEndTagName) [] (AChar 60 ∷ AChar 47 ∷ ts) (at_state m there.RAWTEXT) []) (append-nil (map AChar m.buffer))
          (by_entry (at_state m there.RAWTEXTEndTagName) [] (taking (Emit (These (codes "</")) ∷ Emit TheBuffer ∷ []) (Reconsume there.RAWTEXT) []) (λ x. refl) refl);
      stops = refl;
      emits = refl;
    }
ends_in (state.EndTag raw.Script end_tag.LessThan) b m no_mark =
    record { machine = at_state m there.ScriptData; goes = by_entry (at_state m there.ScriptDataLessThanSign) [] (taking (Emit (These (codes "<")) ∷ []) (Reconsume there.ScriptData) []) (λ x. refl) refl; stops = refl; emits = refl }
ends_in (state.EndTag raw.Script end_tag.Open) b m no_mark =
    record { machine = at_state m there.ScriptData; goes = by_entry (at_state m there.ScriptDataEndTagOpen) [] (taking (Emit (These (codes "</")) ∷ []) (Reconsume there.ScriptData) []) (λ x. refl) refl; stops = refl; emits = refl }
ends_in (state.EndTag raw.Script end_tag.Name) b m no_mark =
    record {
      machine = at_state m there.ScriptData;
      goes = subst (λ ts. Goes (at_state m there.ScriptDataEndTagName) [] (AChar 60 ∷ AChar 47 ∷ ts) (at_state m there.ScriptData) []) (append-nil (map AChar m.buffer))
          (by_entry (at_state m there.ScriptDataEndTagName) [] (taking (Emit (These (codes "</")) ∷ Emit TheBuffer ∷ []) (Reconsume there.ScriptData) []) (λ x. refl) refl);
      stops = refl;
      emits = refl;
    }
ends_in (state.EndTag raw.Escaped end_tag.LessThan) b m no_mark =
    record { machine = at_state m there.ScriptDataEscaped; goes = by_entry (at_state m there.ScriptDataEscapedLessThanSign) [] (taking (Emit (These (codes "<")) ∷ []) (Reconsume there.ScriptDataEscaped) []) (λ x. refl) refl; stops = refl; emits = refl }
ends_in (state.EndTag raw.Escaped end_tag.Open) b m no_mark =
    record { machine = at_state m there.ScriptDataEscaped; goes = by_entry (at_state m there.ScriptDataEscapedEndTagOpen) [] (taking (Emit (These (codes "</")) ∷ []) (Reconsume there.ScriptDataEscaped) []) (λ x. refl) refl; stops = refl; emits = refl }
ends_in (state.EndTag raw.Escaped end_tag.Name) b m no_mark =
    record {
      machine = at_state m there.ScriptDataEscaped;
      goes = subst (λ ts. Goes (at_state m there.ScriptDataEscapedEndTagName) [] (AChar 60 ∷ AChar 47 ∷ ts) (at_state m there.ScriptDataEscaped) []) (append-nil (map AChar m.buffer))
          (by_entry (at_state m there.ScriptDataEscapedEndTagName) [] (taking (Emit (These (codes "</")) ∷ Emit TheBuffer ∷ []) (Reconsume there.ScriptDataEscaped) []) (λ x. refl) refl);
      stops = refl;
      emits = refl;
    }
ends_in (state.ScriptData script.EscapeStart) b m no_mark =
    record { machine = at_state m there.ScriptData; goes = by_entry (at_state m there.ScriptDataEscapeStart) [] (taking [] (Reconsume there.ScriptData) []) (λ x. refl) refl; stops = refl; emits = refl }
ends_in (state.ScriptData script.EscapeStartDash) b m no_mark =
    record { machine = at_state m there.ScriptData; goes = by_entry (at_state m there.ScriptDataEscapeStartDash) [] (taking [] (Reconsume there.ScriptData) []) (λ x. refl) refl; stops = refl; emits = refl }
ends_in (state.ScriptData script.Escaped) b m no_mark =
    record { machine = at_state m there.ScriptDataEscaped; goes = stays; stops = refl; emits = refl }
ends_in (state.ScriptData script.EscapedDash) b m no_mark =
    record { machine = at_state m there.ScriptDataEscapedDash; goes = stays; stops = refl; emits = refl }
ends_in (state.ScriptData script.EscapedDashDash) b m no_mark =
    record { machine = at_state m there.ScriptDataEscapedDashDash; goes = stays; stops = refl; emits = refl }
ends_in (state.ScriptData script.DoubleStart) b m no_mark =
    record { machine = at_state m there.ScriptDataEscaped; goes = by_entry (at_state m there.ScriptDataDoubleEscapeStart) [] (taking [] (Reconsume there.ScriptDataEscaped) []) (λ x. refl) refl; stops = refl; emits = refl }
ends_in (state.ScriptData (script.Double double.Escaped)) b m no_mark =
    record { machine = at_state m there.ScriptDataDoubleEscaped; goes = stays; stops = refl; emits = refl }
ends_in (state.ScriptData (script.Double double.Dash)) b m no_mark =
    record { machine = at_state m there.ScriptDataDoubleEscapedDash; goes = stays; stops = refl; emits = refl }
ends_in (state.ScriptData (script.Double double.DashDash)) b m no_mark =
    record { machine = at_state m there.ScriptDataDoubleEscapedDashDash; goes = stays; stops = refl; emits = refl }
ends_in (state.ScriptData (script.Double double.LessThan)) b m no_mark =
    record { machine = at_state m there.ScriptDataDoubleEscaped; goes = by_entry (at_state m there.ScriptDataDoubleEscapedLessThanSign) [] (taking [] (Reconsume there.ScriptDataDoubleEscaped) []) (λ x. refl) refl; stops = refl; emits = refl }
ends_in (state.ScriptData (script.Double double.End)) b m no_mark =
    record { machine = at_state m there.ScriptDataDoubleEscaped; goes = by_entry (at_state m there.ScriptDataDoubleEscapeEnd) [] (taking [] (Reconsume there.ScriptDataDoubleEscaped) []) (λ x. refl) refl; stops = refl; emits = refl }
ends_in (state.Attribute attr.BeforeName) b m no_mark =
    record { machine = at_state m there.AfterAttributeName; goes = by_entry (at_state m there.BeforeAttributeName) [] (taking [] (Reconsume there.AfterAttributeName) []) (λ x. refl) refl; stops = refl; emits = refl }
ends_in (state.Attribute attr.Name) b m no_mark =
    record { machine = at_state m there.AfterAttributeName; goes = by_entry (at_state m there.AttributeName) [] (taking [] (Reconsume there.AfterAttributeName) []) (λ x. refl) refl; stops = refl; emits = refl }
ends_in (state.Attribute attr.AfterName) b m no_mark =
    record { machine = at_state m there.AfterAttributeName; goes = stays; stops = refl; emits = refl }
ends_in (state.Attribute attr.BeforeValue) b m no_mark =
    record { machine = at_state m there.AttributeValueUnquoted; goes = by_entry (at_state m there.BeforeAttributeValue) [] (taking [] (Reconsume there.AttributeValueUnquoted) []) (λ x. refl) refl; stops = refl; emits = refl }
ends_in (state.Attribute (attr.Quoted quote.Double)) b m no_mark =
    record { machine = at_state m there.AttributeValueDoubleQuoted; goes = stays; stops = refl; emits = refl }
ends_in (state.Attribute (attr.Quoted quote.Single)) b m no_mark =
    record { machine = at_state m there.AttributeValueSingleQuoted; goes = stays; stops = refl; emits = refl }
ends_in (state.Attribute attr.Unquoted) b m no_mark =
    record { machine = at_state m there.AttributeValueUnquoted; goes = stays; stops = refl; emits = refl }
ends_in (state.Attribute attr.AfterQuoted) b m no_mark =
    record { machine = at_state m there.AfterAttributeValueQuoted; goes = stays; stops = refl; emits = refl }
ends_in (state.Declaration seen) b m no_mark = absurd no_mark
ends_in (state.Comment inner) b m no_mark = absurd no_mark
ends_in (state.Doctype inner) b m no_mark = absurd no_mark

-- nothing is read ahead
nothing_ahead : (s : State) (t : Tokenizer) (ahead : List ℕ) (m : Machine) → IsNoMark s → Held s t ahead m → ahead ≡ []
nothing_ahead state.Data t ahead m no_mark held = held
nothing_ahead state.Rcdata t ahead m no_mark held = held
nothing_ahead state.Rawtext t ahead m no_mark held = held
nothing_ahead state.Script t ahead m no_mark held = held
nothing_ahead state.Plaintext t ahead m no_mark held = held
nothing_ahead (state.Cdata cdata.Section) t ahead m no_mark held = held
nothing_ahead (state.Cdata cdata.Bracket) t ahead m no_mark held = held
nothing_ahead (state.Cdata cdata.End) t ahead m no_mark held = held
nothing_ahead (state.Tag tag.Open) t ahead m no_mark held = held
nothing_ahead (state.Tag tag.EndOpen) t ahead m no_mark held = held
nothing_ahead (state.Tag tag.Name) t ahead m no_mark held = held.0
nothing_ahead (state.Tag tag.SelfClosing) t ahead m no_mark held = held.0
nothing_ahead (state.EndTag raw.Rcdata end_tag.LessThan) t ahead m no_mark held = held
nothing_ahead (state.EndTag raw.Rcdata end_tag.Open) t ahead m no_mark held = held.0
nothing_ahead (state.EndTag raw.Rcdata end_tag.Name) t ahead m no_mark held = held.0
nothing_ahead (state.EndTag raw.Rawtext end_tag.LessThan) t ahead m no_mark held = held
nothing_ahead (state.EndTag raw.Rawtext end_tag.Open) t ahead m no_mark held = held.0
nothing_ahead (state.EndTag raw.Rawtext end_tag.Name) t ahead m no_mark held = held.0
nothing_ahead (state.EndTag raw.Script end_tag.LessThan) t ahead m no_mark held = held
nothing_ahead (state.EndTag raw.Script end_tag.Open) t ahead m no_mark held = held.0
nothing_ahead (state.EndTag raw.Script end_tag.Name) t ahead m no_mark held = held.0
nothing_ahead (state.EndTag raw.Escaped end_tag.LessThan) t ahead m no_mark held = held
nothing_ahead (state.EndTag raw.Escaped end_tag.Open) t ahead m no_mark held = held.0
nothing_ahead (state.EndTag raw.Escaped end_tag.Name) t ahead m no_mark held = held.0
nothing_ahead (state.ScriptData script.EscapeStart) t ahead m no_mark held = held
nothing_ahead (state.ScriptData script.EscapeStartDash) t ahead m no_mark held = held
nothing_ahead (state.ScriptData script.Escaped) t ahead m no_mark held = held
nothing_ahead (state.ScriptData script.EscapedDash) t ahead m no_mark held = held
nothing_ahead (state.ScriptData script.EscapedDashDash) t ahead m no_mark held = held
nothing_ahead (state.ScriptData script.DoubleStart) t ahead m no_mark held = held.0
nothing_ahead (state.ScriptData (script.Double double.Escaped)) t ahead m no_mark held = held
nothing_ahead (state.ScriptData (script.Double double.Dash)) t ahead m no_mark held = held
nothing_ahead (state.ScriptData (script.Double double.DashDash)) t ahead m no_mark held = held
nothing_ahead (state.ScriptData (script.Double double.LessThan)) t ahead m no_mark held = held
nothing_ahead (state.ScriptData (script.Double double.End)) t ahead m no_mark held = held.0
nothing_ahead (state.Attribute attr.BeforeName) t ahead m no_mark held = held.0
nothing_ahead (state.Attribute attr.Name) t ahead m no_mark held = held.0
nothing_ahead (state.Attribute attr.AfterName) t ahead m no_mark held = held.0
nothing_ahead (state.Attribute attr.BeforeValue) t ahead m no_mark held = held.0
nothing_ahead (state.Attribute (attr.Quoted quote.Double)) t ahead m no_mark held = held.0
nothing_ahead (state.Attribute (attr.Quoted quote.Single)) t ahead m no_mark held = held.0
nothing_ahead (state.Attribute attr.Unquoted) t ahead m no_mark held = held.0
nothing_ahead (state.Attribute attr.AfterQuoted) t ahead m no_mark held = held.0
nothing_ahead (state.Declaration seen) t ahead m no_mark held = absurd no_mark
nothing_ahead (state.Comment inner) t ahead m no_mark held = absurd no_mark
nothing_ahead (state.Doctype inner) t ahead m no_mark held = absurd no_mark

-- the bytes that the tokenizer appends
appended : (s : State) (t : Tokenizer) (ahead : List ℕ) (m : Machine) → IsNoMark s → Held s t ahead m → left_of s (string_bytes t.tag.name) ≡ encode_utf8_all (shown_in s m ++ last_in s)
unfolding encode_utf8
appended state.Data t ahead m no_mark held = refl
appended state.Rcdata t ahead m no_mark held = refl
appended state.Rawtext t ahead m no_mark held = refl
appended state.Script t ahead m no_mark held = refl
appended state.Plaintext t ahead m no_mark held = refl
appended (state.Cdata cdata.Section) t ahead m no_mark held = refl
appended (state.Cdata cdata.Bracket) t ahead m no_mark held = refl
appended (state.Cdata cdata.End) t ahead m no_mark held = refl
appended (state.Tag tag.Open) t ahead m no_mark held = refl
appended (state.Tag tag.EndOpen) t ahead m no_mark held = refl
appended (state.Tag tag.Name) t ahead m no_mark held = refl
appended (state.Tag tag.SelfClosing) t ahead m no_mark held = refl
appended (state.EndTag raw.Rcdata end_tag.LessThan) t ahead m no_mark held = refl
appended (state.EndTag raw.Rcdata end_tag.Open) t ahead m no_mark held = refl
appended (state.EndTag raw.Rcdata end_tag.Name) t ahead m no_mark held = ap (λ e. 60 ∷ 47 ∷ e) (held.1.1 ∙ ap encode_utf8_all (sym (append-nil m.buffer)))
appended (state.EndTag raw.Rawtext end_tag.LessThan) t ahead m no_mark held = refl
appended (state.EndTag raw.Rawtext end_tag.Open) t ahead m no_mark held = refl
appended (state.EndTag raw.Rawtext end_tag.Name) t ahead m no_mark held = ap (λ e. 60 ∷ 47 ∷ e) (held.1.1 ∙ ap encode_utf8_all (sym (append-nil m.buffer)))
appended (state.EndTag raw.Script end_tag.LessThan) t ahead m no_mark held = refl
appended (state.EndTag raw.Script end_tag.Open) t ahead m no_mark held = refl
appended (state.EndTag raw.Script end_tag.Name) t ahead m no_mark held = ap (λ e. 60 ∷ 47 ∷ e) (held.1.1 ∙ ap encode_utf8_all (sym (append-nil m.buffer)))
appended (state.EndTag raw.Escaped end_tag.LessThan) t ahead m no_mark held = refl
appended (state.EndTag raw.Escaped end_tag.Open) t ahead m no_mark held = refl
appended (state.EndTag raw.Escaped end_tag.Name) t ahead m no_mark held = ap (λ e. 60 ∷ 47 ∷ e) (held.1.1 ∙ ap encode_utf8_all (sym (append-nil m.buffer)))
appended (state.ScriptData script.EscapeStart) t ahead m no_mark held = refl
appended (state.ScriptData script.EscapeStartDash) t ahead m no_mark held = refl
appended (state.ScriptData script.Escaped) t ahead m no_mark held = refl
appended (state.ScriptData script.EscapedDash) t ahead m no_mark held = refl
appended (state.ScriptData script.EscapedDashDash) t ahead m no_mark held = refl
appended (state.ScriptData script.DoubleStart) t ahead m no_mark held = refl
appended (state.ScriptData (script.Double double.Escaped)) t ahead m no_mark held = refl
appended (state.ScriptData (script.Double double.Dash)) t ahead m no_mark held = refl
appended (state.ScriptData (script.Double double.DashDash)) t ahead m no_mark held = refl
appended (state.ScriptData (script.Double double.LessThan)) t ahead m no_mark held = refl
appended (state.ScriptData (script.Double double.End)) t ahead m no_mark held = refl
appended (state.Attribute attr.BeforeName) t ahead m no_mark held = refl
appended (state.Attribute attr.Name) t ahead m no_mark held = refl
appended (state.Attribute attr.AfterName) t ahead m no_mark held = refl
appended (state.Attribute attr.BeforeValue) t ahead m no_mark held = refl
appended (state.Attribute (attr.Quoted quote.Double)) t ahead m no_mark held = refl
appended (state.Attribute (attr.Quoted quote.Single)) t ahead m no_mark held = refl
appended (state.Attribute attr.Unquoted) t ahead m no_mark held = refl
appended (state.Attribute attr.AfterQuoted) t ahead m no_mark held = refl
appended (state.Declaration seen) t ahead m no_mark held = absurd no_mark
appended (state.Comment inner) t ahead m no_mark held = absurd no_mark
appended (state.Doctype inner) t ahead m no_mark held = absurd no_mark

-- the beginning of markup becomes text
text_stops : (old new : Tokenizer) → IsNoMark old.state → (new.refused ≡ false → TextGoesOn old new old.state (left_of old.state (string_bytes old.tag.name))) → new.refused ≡ false → StopsAsStandard old new None
text_stops old new no_mark goes memory m ahead stands =
    let s : State = old.state in
    let b : Bool = old.in_foreign in
    let ends : EndsIn s b m = ends_in s b m no_mark in
    let put : TextGoesOn old new s (left_of s (string_bytes old.tag.name)) = goes memory in
    record {
      machine = ends.machine;
      characters = shown_in s m;
      last = last_in s;
      tokens = [];
      goes = subst (λ text. Goes m text (map AChar (shown_in s m)) ends.machine []) (sym (nothing_ahead s old ahead m no_mark stands.held))
          (subst (λ k. Goes k [] (map AChar (shown_in s m)) ends.machine []) (in_its_state m (state_of s) stands.state) ends.goes);
      stops = ends.stops;
      emits = ends.emits;
      text = put.text ∙ ap (λ e. text_of old ++ e) (appended s old ahead m no_mark stands.held);
      ends = refl;
    }

pub text_arm : (old new : Tokenizer) → IsNoMark old.state → (new.refused ≡ false → TextGoesOn old new old.state (left_of old.state (string_bytes old.tag.name))) → new.refused ≡ false → EndsMark old new None
text_arm old new no_mark goes memory = record { memory = (goes memory).memory; stops = text_stops old new no_mark goes memory }

-- a state that is none of the three
pub no_mark : (s : State) → ((i : Seen) → s ≡ state.Declaration i → ⊥) → ((i : CommentState) → s ≡ state.Comment i → ⊥) → ((i : DoctypeState) → s ≡ state.Doctype i → ⊥) → IsNoMark s
no_mark state.Data a b c = tt
no_mark state.Rcdata a b c = tt
no_mark state.Rawtext a b c = tt
no_mark state.Script a b c = tt
no_mark state.Plaintext a b c = tt
no_mark (state.Cdata i) a b c = tt
no_mark (state.Tag i) a b c = tt
no_mark (state.EndTag k i) a b c = tt
no_mark (state.ScriptData i) a b c = tt
no_mark (state.Attribute i) a b c = tt
no_mark (state.Declaration i) a b c = absurd (a i refl)
no_mark (state.Comment i) a b c = absurd (b i refl)
no_mark (state.Doctype i) a b c = absurd (c i refl)
