-- The states of the tokenizer, and the 80 states of the HTML Standard that they stand for.
use Rattle.std.specs.Prelude.{Bool, false, true}
use Rattle.standard_tokens.specs.States as there
use Rattle.standard_tokens.specs.States.{State as StandardState}
use Rattle.page_tokens.specs.declared.tokenizer.references.Reference.{Reference}
use Rattle.page_tokens.specs.declared.tokenizer.references.Reference.TheVariants as reference
use Rattle.page_tokens.specs.declared.tokenizer.state.AttrState.{AttrState}
use Rattle.page_tokens.specs.declared.tokenizer.state.AttrState.TheVariants as attr
use Rattle.page_tokens.specs.declared.tokenizer.state.CdataState.{CdataState}
use Rattle.page_tokens.specs.declared.tokenizer.state.CdataState.TheVariants as cdata
use Rattle.page_tokens.specs.declared.tokenizer.state.CommentState.{CommentState}
use Rattle.page_tokens.specs.declared.tokenizer.state.CommentState.TheVariants as comment
use Rattle.page_tokens.specs.declared.tokenizer.state.DoctypeState.{DoctypeState}
use Rattle.page_tokens.specs.declared.tokenizer.state.DoctypeState.TheVariants as doctype
use Rattle.page_tokens.specs.declared.tokenizer.state.DoubleState.{DoubleState}
use Rattle.page_tokens.specs.declared.tokenizer.state.DoubleState.TheVariants as double
use Rattle.page_tokens.specs.declared.tokenizer.state.EndTagState.{EndTagState}
use Rattle.page_tokens.specs.declared.tokenizer.state.EndTagState.TheVariants as end_tag
use Rattle.page_tokens.specs.declared.tokenizer.state.Id.TheVariants as id
use Rattle.page_tokens.specs.declared.tokenizer.state.Quote.TheVariants as quote
use Rattle.page_tokens.specs.declared.tokenizer.state.Raw.{Raw}
use Rattle.page_tokens.specs.declared.tokenizer.state.Raw.TheVariants as raw
use Rattle.page_tokens.specs.declared.tokenizer.state.ScriptState.{ScriptState}
use Rattle.page_tokens.specs.declared.tokenizer.state.ScriptState.TheVariants as script
use Rattle.page_tokens.specs.declared.tokenizer.state.Seen.TheVariants as seen
use Rattle.page_tokens.specs.declared.tokenizer.state.State.{State}
use Rattle.page_tokens.specs.declared.tokenizer.state.State.TheVariants as state
use Rattle.page_tokens.specs.declared.tokenizer.state.TagState.{TagState}
use Rattle.page_tokens.specs.declared.tokenizer.state.TagState.TheVariants as tag

abbrev pub cdata_state_of : CdataState → StandardState
cdata_state_of cdata.Section = there.CDATASection
cdata_state_of cdata.Bracket = there.CDATASectionBracket
cdata_state_of cdata.End = there.CDATASectionEnd

abbrev pub tag_state_of : TagState → StandardState
tag_state_of tag.Open = there.TagOpen
tag_state_of tag.EndOpen = there.EndTagOpen
tag_state_of tag.Name = there.TagName
tag_state_of tag.SelfClosing = there.SelfClosingStartTag

abbrev pub end_tag_state_of : Raw → EndTagState → StandardState
end_tag_state_of raw.Rcdata end_tag.LessThan = there.RCDATALessThanSign
end_tag_state_of raw.Rcdata end_tag.Open = there.RCDATAEndTagOpen
end_tag_state_of raw.Rcdata end_tag.Name = there.RCDATAEndTagName
end_tag_state_of raw.Rawtext end_tag.LessThan = there.RAWTEXTLessThanSign
end_tag_state_of raw.Rawtext end_tag.Open = there.RAWTEXTEndTagOpen
end_tag_state_of raw.Rawtext end_tag.Name = there.RAWTEXTEndTagName
end_tag_state_of raw.Script end_tag.LessThan = there.ScriptDataLessThanSign
end_tag_state_of raw.Script end_tag.Open = there.ScriptDataEndTagOpen
end_tag_state_of raw.Script end_tag.Name = there.ScriptDataEndTagName
end_tag_state_of raw.Escaped end_tag.LessThan = there.ScriptDataEscapedLessThanSign
end_tag_state_of raw.Escaped end_tag.Open = there.ScriptDataEscapedEndTagOpen
end_tag_state_of raw.Escaped end_tag.Name = there.ScriptDataEscapedEndTagName

abbrev pub double_state_of : DoubleState → StandardState
double_state_of double.Escaped = there.ScriptDataDoubleEscaped
double_state_of double.Dash = there.ScriptDataDoubleEscapedDash
double_state_of double.DashDash = there.ScriptDataDoubleEscapedDashDash
double_state_of double.LessThan = there.ScriptDataDoubleEscapedLessThanSign
double_state_of double.End = there.ScriptDataDoubleEscapeEnd

abbrev pub script_state_of : ScriptState → StandardState
script_state_of script.EscapeStart = there.ScriptDataEscapeStart
script_state_of script.EscapeStartDash = there.ScriptDataEscapeStartDash
script_state_of script.Escaped = there.ScriptDataEscaped
script_state_of script.EscapedDash = there.ScriptDataEscapedDash
script_state_of script.EscapedDashDash = there.ScriptDataEscapedDashDash
script_state_of script.DoubleStart = there.ScriptDataDoubleEscapeStart
script_state_of (script.Double inner) = double_state_of inner

abbrev pub attr_state_of : AttrState → StandardState
attr_state_of attr.BeforeName = there.BeforeAttributeName
attr_state_of attr.Name = there.AttributeName
attr_state_of attr.AfterName = there.AfterAttributeName
attr_state_of attr.BeforeValue = there.BeforeAttributeValue
attr_state_of (attr.Quoted quote.Double) = there.AttributeValueDoubleQuoted
attr_state_of (attr.Quoted quote.Single) = there.AttributeValueSingleQuoted
attr_state_of attr.Unquoted = there.AttributeValueUnquoted
attr_state_of attr.AfterQuoted = there.AfterAttributeValueQuoted

abbrev pub comment_state_of : CommentState → StandardState
comment_state_of comment.Bogus = there.BogusComment
comment_state_of comment.Start = there.CommentStart
comment_state_of comment.StartDash = there.CommentStartDash
comment_state_of comment.Comment = there.CommentState
comment_state_of comment.LessThan = there.CommentLessThanSign
comment_state_of comment.LessThanBang = there.CommentLessThanSignBang
comment_state_of comment.LessThanBangDash = there.CommentLessThanSignBangDash
comment_state_of comment.LessThanBangDashDash = there.CommentLessThanSignBangDashDash
comment_state_of comment.EndDash = there.CommentEndDash
comment_state_of comment.End = there.CommentEnd
comment_state_of comment.EndBang = there.CommentEndBang

-- in a keyword, the standard's tokenizer is still in front of it
abbrev pub doctype_state_of : DoctypeState → StandardState
doctype_state_of doctype.Begin = there.DOCTYPEState
doctype_state_of doctype.BeforeName = there.BeforeDOCTYPEName
doctype_state_of doctype.Name = there.DOCTYPEName
doctype_state_of doctype.AfterName = there.AfterDOCTYPEName
doctype_state_of (doctype.Keyword which count) = there.AfterDOCTYPEName
doctype_state_of (doctype.AfterKeyword id.Public) = there.AfterDOCTYPEPublicKeyword
doctype_state_of (doctype.AfterKeyword id.System) = there.AfterDOCTYPESystemKeyword
doctype_state_of (doctype.BeforeId id.Public) = there.BeforeDOCTYPEPublicIdentifier
doctype_state_of (doctype.BeforeId id.System) = there.BeforeDOCTYPESystemIdentifier
doctype_state_of (doctype.Quoted id.Public quote.Double) = there.DOCTYPEPublicIdentifierDoubleQuoted
doctype_state_of (doctype.Quoted id.Public quote.Single) = there.DOCTYPEPublicIdentifierSingleQuoted
doctype_state_of (doctype.Quoted id.System quote.Double) = there.DOCTYPESystemIdentifierDoubleQuoted
doctype_state_of (doctype.Quoted id.System quote.Single) = there.DOCTYPESystemIdentifierSingleQuoted
doctype_state_of (doctype.AfterId id.Public) = there.AfterDOCTYPEPublicIdentifier
doctype_state_of (doctype.AfterId id.System) = there.AfterDOCTYPESystemIdentifier
doctype_state_of doctype.BetweenIds = there.BetweenDOCTYPEPublicAndSystemIdentifiers
doctype_state_of doctype.Bogus = there.BogusDOCTYPE

-- behind `<!` likewise
abbrev pub state_of : State → StandardState
state_of state.Data = there.Data
state_of state.Rcdata = there.RCDATA
state_of state.Rawtext = there.RAWTEXT
state_of state.Script = there.ScriptData
state_of state.Plaintext = there.PLAINTEXT
state_of (state.Cdata inner) = cdata_state_of inner
state_of (state.Tag inner) = tag_state_of inner
state_of (state.EndTag kind inner) = end_tag_state_of kind inner
state_of (state.ScriptData inner) = script_state_of inner
state_of (state.Attribute inner) = attr_state_of inner
state_of (state.Declaration seen) = there.MarkupDeclarationOpen
state_of (state.Comment inner) = comment_state_of inner
state_of (state.Doctype inner) = doctype_state_of inner

-- what was read of the text may begin a CDATA section
abbrev pub may_begin_cdata : State → Bool
may_begin_cdata (state.Declaration (seen.Cdata count)) = true
may_begin_cdata _ = false

-- the state in a character reference, or else this one
abbrev pub state_in : Reference → State → StandardState
state_in reference.None outer = state_of outer
state_in reference.Begun outer = there.CharacterReference
state_in (reference.Named found) outer = there.NamedCharacterReference
state_in reference.Ambiguous outer = there.AmbiguousAmpersand
state_in reference.Number outer = there.NumericCharacterReference
state_in reference.HexStart outer = there.HexadecimalCharacterReferenceStart
state_in (reference.Hex number) outer = there.HexadecimalCharacterReference
state_in (reference.Decimal number) outer = there.DecimalCharacterReference
