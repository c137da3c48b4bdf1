-- End tags in RCDATA, RAWTEXT and script data.
use Rattle.std.specs.Prelude.{◌≡◌, ℕ, ◌==◌, Bool, true, false, cond, [], ◌++◌, encode_utf8, string_bytes}
use Rattle.std.specs.Char.{is_ascii_alphabetic}
use Rattle.page_tokens.specs.Runs.{is_space_of}
use Rattle.page_tokens.specs.declared.token.TagKind.TheVariants as kind
use Rattle.page_tokens.specs.declared.tokenizer.Tokenizer.{Tokenizer}
use Rattle.page_tokens.specs.declared.tokenizer.raw_end_tags.EndTagStep.{EndTagStep}
use Rattle.page_tokens.specs.declared.tokenizer.raw_end_tags.EndTagStep.TheVariants as ends
use Rattle.page_tokens.specs.declared.tokenizer.raw_end_tags.LessThanStep.{LessThanStep}
use Rattle.page_tokens.specs.declared.tokenizer.raw_end_tags.LessThanStep.TheVariants as behind
use Rattle.page_tokens.specs.declared.tokenizer.state.EndTagState.TheVariants as end_tag
use Rattle.page_tokens.specs.declared.tokenizer.state.Raw.{Raw}
use Rattle.page_tokens.specs.declared.tokenizer.state.Raw.TheVariants as raw
use Rattle.page_tokens.specs.declared.tokenizer.state.State.TheVariants as state

abbrev pub less_than_step_of : Raw → ℕ → LessThanStep
less_than_step_of raw.Script c = cond (c == 47) behind.EndTag (cond (c == 33) behind.Escape behind.Text)
less_than_step_of raw.Escaped c = cond (c == 47) behind.EndTag (cond (is_ascii_alphabetic c) behind.Double behind.Text)
less_than_step_of _ c = cond (c == 47) behind.EndTag behind.Text

-- a character behind the name, which is that of the last start tag or another one
abbrev pub end_tag_step_of : Bool → ℕ → EndTagStep
end_tag_step_of true c = cond (c == 47) ends.SelfClosing (cond (c == 62) ends.Ends (cond (is_space_of c) ends.Space ends.Text))
end_tag_step_of false c = ends.Text

-- what may be an end tag begins with the first letter of its name
pub record BeginsEndTag (old new : Tokenizer) (which : Raw) (c : ℕ) : Type 0 where
  pub only : new ≡ record old { state = state.EndTag which end_tag.Name; tag = new.tag }
  pub kind : new.tag.kind ≡ kind.End
  pub name : string_bytes new.tag.name ≡ encode_utf8 c
  pub attrs : new.tag.attrs.kept.items ≡ []
  pub attr_name : string_bytes new.tag.attr_name ≡ []
  pub attr_value : string_bytes new.tag.attr_value ≡ []
  pub self_closing : new.tag.self_closing ≡ false

-- one more letter of the name
pub record AddsNameLetter (old new : Tokenizer) (c : ℕ) : Type 0 where
  pub only : new ≡ record old { tag = record old.tag { name = new.tag.name } }
  pub name : string_bytes new.tag.name ≡ string_bytes old.tag.name ++ encode_utf8 c
