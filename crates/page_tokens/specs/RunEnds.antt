-- Which characters the states copy unchanged, and what ends such a run.
use Rattle.std.specs.Prelude.{ℕ, Bool, ◌||◌, ◌==◌, not, List, Option, None, Some}
use Rattle.std.specs.List.{prefix_len}
use Rattle.page_tokens.specs.Runs.{ends_tag_name, ends_text}
use Rattle.page_tokens.specs.TagStates.{quote_of}
use Rattle.page_tokens.specs.declared.tokenizer.runs.Run.{Run}
use Rattle.page_tokens.specs.declared.tokenizer.runs.Run.TheVariants as run
use Rattle.page_tokens.specs.declared.tokenizer.state.AttrState.TheVariants as attr
use Rattle.page_tokens.specs.declared.tokenizer.state.CdataState.TheVariants as cdata
use Rattle.page_tokens.specs.declared.tokenizer.state.CommentState.TheVariants as comment
use Rattle.page_tokens.specs.declared.tokenizer.state.DoctypeState.TheVariants as doctype
use Rattle.page_tokens.specs.declared.tokenizer.state.DoubleState.TheVariants as double
use Rattle.page_tokens.specs.declared.tokenizer.state.Quote.{Quote}
use Rattle.page_tokens.specs.declared.tokenizer.state.ScriptState.TheVariants as script
use Rattle.page_tokens.specs.declared.tokenizer.state.State.{State}
use Rattle.page_tokens.specs.declared.tokenizer.state.State.TheVariants as state
use Rattle.page_tokens.specs.declared.tokenizer.state.TagState.TheVariants as tag

-- the characters that the state copies unchanged, if it copies any
abbrev pub run_in : State → Option Run
run_in state.Data = Some run.Text
run_in state.Rcdata = Some run.Text
run_in state.Rawtext = Some run.Raw
run_in state.Script = Some run.Raw
run_in state.Plaintext = Some run.Plaintext
run_in (state.ScriptData script.Escaped) = Some run.Escaped
run_in (state.ScriptData (script.Double double.Escaped)) = Some run.Escaped
run_in (state.Comment comment.Comment) = Some run.Comment
run_in (state.Comment comment.Bogus) = Some run.BogusComment
run_in (state.Tag tag.Name) = Some run.TagName
run_in (state.Attribute attr.Name) = Some run.AttrName
run_in (state.Attribute (attr.Quoted mark)) = Some (run.AttrValue mark)
run_in (state.Attribute attr.Unquoted) = Some run.UnquotedValue
run_in (state.Doctype (doctype.Quoted which mark)) = Some (run.DoctypeId which mark)
run_in (state.Cdata cdata.Section) = Some run.Cdata
run_in _ = None

-- what ends an attribute's name, or is a parse error in one
abbrev pub ends_attr_name : ℕ → Bool
ends_attr_name b = ends_tag_name b || b == 34 || b == 39 || b == 60 || b == 61

-- what ends a run in a quoted value: null, carriage return, `&` and the quote
abbrev pub ends_value : Quote → ℕ → Bool
ends_value mark b = b == 0 || b == 13 || b == 38 || b == quote_of mark

-- what ends an unquoted value, starts a reference in it, or is a parse error there
abbrev pub ends_unquoted_value : ℕ → Bool
ends_unquoted_value b =
    b == 0 || b == 9 || b == 10 || b == 12 || b == 13 || b == 32 || b == 38 || b == 62 || b == 34 || b == 39
    || b == 60 || b == 61 || b == 96

-- what ends the run; a null and a carriage return end each
abbrev pub ends_run : Run → ℕ → Bool
ends_run run.Text b = ends_text b
ends_run run.Raw b = b == 0 || b == 13 || b == 60
ends_run run.Plaintext b = b == 0 || b == 13
ends_run run.Escaped b = b == 0 || b == 13 || b == 45 || b == 60
ends_run run.Comment b = b == 0 || b == 13 || b == 45 || b == 60
ends_run run.BogusComment b = b == 0 || b == 13 || b == 62
ends_run run.TagName b = ends_tag_name b
ends_run run.AttrName b = ends_attr_name b
ends_run (run.AttrValue mark) b = ends_value mark b
ends_run run.UnquotedValue b = ends_unquoted_value b
ends_run (run.DoctypeId which mark) b = b == 0 || b == 13 || b == 62 || b == quote_of mark
ends_run run.Cdata b = b == 0 || b == 13 || b == 93

-- how many bytes come before the first that ends the run
abbrev pub run_len_of : Run → List ℕ → ℕ
run_len_of kind text = prefix_len (λ b. not (ends_run kind b)) text
