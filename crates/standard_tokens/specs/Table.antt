-- What each state of the tokenizer does (13.2.5.1 to 13.2.5.80). Made from docs/standard/tokenizer.txt by tests/standard/definitions.py.
use Rattle.std.specs.Prelude.{List, [], ◌∷◌, codes}
use Rattle.standard_tokens.specs.States.{State, Data, RCDATA, RAWTEXT, ScriptData, PLAINTEXT, TagOpen, EndTagOpen, TagName}
use Rattle.standard_tokens.specs.States.{RCDATALessThanSign, RCDATAEndTagOpen, RCDATAEndTagName, RAWTEXTLessThanSign, RAWTEXTEndTagOpen}
use Rattle.standard_tokens.specs.States.{RAWTEXTEndTagName, ScriptDataLessThanSign, ScriptDataEndTagOpen, ScriptDataEndTagName}
use Rattle.standard_tokens.specs.States.{ScriptDataEscapeStart, ScriptDataEscapeStartDash, ScriptDataEscaped, ScriptDataEscapedDash}
use Rattle.standard_tokens.specs.States.{ScriptDataEscapedDashDash, ScriptDataEscapedLessThanSign, ScriptDataEscapedEndTagOpen}
use Rattle.standard_tokens.specs.States.{ScriptDataEscapedEndTagName, ScriptDataDoubleEscapeStart, ScriptDataDoubleEscaped}
use Rattle.standard_tokens.specs.States.{ScriptDataDoubleEscapedDash, ScriptDataDoubleEscapedDashDash, ScriptDataDoubleEscapedLessThanSign}
use Rattle.standard_tokens.specs.States.{ScriptDataDoubleEscapeEnd, BeforeAttributeName, AttributeName, AfterAttributeName}
use Rattle.standard_tokens.specs.States.{BeforeAttributeValue, AttributeValueDoubleQuoted, AttributeValueSingleQuoted}
use Rattle.standard_tokens.specs.States.{AttributeValueUnquoted, AfterAttributeValueQuoted, SelfClosingStartTag, BogusComment}
use Rattle.standard_tokens.specs.States.{MarkupDeclarationOpen, CommentStart, CommentStartDash, CommentState, CommentLessThanSign}
use Rattle.standard_tokens.specs.States.{CommentLessThanSignBang, CommentLessThanSignBangDash, CommentLessThanSignBangDashDash}
use Rattle.standard_tokens.specs.States.{CommentEndDash, CommentEnd, CommentEndBang, DOCTYPEState, BeforeDOCTYPEName, DOCTYPEName}
use Rattle.standard_tokens.specs.States.{AfterDOCTYPEName, AfterDOCTYPEPublicKeyword, BeforeDOCTYPEPublicIdentifier}
use Rattle.standard_tokens.specs.States.{DOCTYPEPublicIdentifierDoubleQuoted, DOCTYPEPublicIdentifierSingleQuoted}
use Rattle.standard_tokens.specs.States.{AfterDOCTYPEPublicIdentifier, BetweenDOCTYPEPublicAndSystemIdentifiers, AfterDOCTYPESystemKeyword}
use Rattle.standard_tokens.specs.States.{BeforeDOCTYPESystemIdentifier, DOCTYPESystemIdentifierDoubleQuoted}
use Rattle.standard_tokens.specs.States.{DOCTYPESystemIdentifierSingleQuoted, AfterDOCTYPESystemIdentifier, BogusDOCTYPE, CDATASection}
use Rattle.standard_tokens.specs.States.{CDATASectionBracket, CDATASectionEnd, CharacterReference, NamedCharacterReference}
use Rattle.standard_tokens.specs.States.{AmbiguousAmpersand, NumericCharacterReference, HexadecimalCharacterReferenceStart}
use Rattle.standard_tokens.specs.States.{DecimalCharacterReferenceStart, HexadecimalCharacterReference, DecimalCharacterReference}
use Rattle.standard_tokens.specs.States.{NumericCharacterReferenceEnd}
use Rattle.standard_tokens.specs.Entries.{Entry, entry, Next, Word, AnyCase, Name, Else, End, chars, space, null, upper, lower, digit}
use Rattle.standard_tokens.specs.Entries.{upper_hex, lower_hex, Always, Appropriate, IsScript, InForeign, InAttribute, Historical, Current}
use Rattle.standard_tokens.specs.Entries.{Lower, TheBuffer, These, replacement, TheTagName, AttrName, AttrValue, Comment, DoctypeName}
use Rattle.standard_tokens.specs.Entries.{PublicId, SystemId, Buffer, Starting, Ending, Emit, EmitTag, EmitComment, EmitDoctype}
use Rattle.standard_tokens.specs.Entries.{EmitEndOfFile, NewTag, NewAttr, NewComment, NewDoctype, SelfClosing, ForceQuirks, Add, SetEmpty}
use Rattle.standard_tokens.specs.Entries.{ReturnTo, CodeZero, CodeDigit, BufferNumber, BufferName, Flush, Stay, Switch, Reconsume}
use Rattle.standard_tokens.specs.Entries.{SwitchBack, ReconsumeBack, Stop}

-- the entries of each state; the first that fits is taken
unfoldable pub entries : State → List Entry
-- 13.2.5.1
entries Data =
    entry (Next (chars "&" ∷ [])) Always (ReturnTo Data ∷ []) (Switch CharacterReference)
    ∷ entry (Next (chars "<" ∷ [])) Always [] (Switch TagOpen)
    ∷ entry (Next (null ∷ [])) Always (Emit Current ∷ []) Stay
    ∷ entry (Next (End ∷ [])) Always (EmitEndOfFile ∷ []) Stop
    ∷ entry Else Always (Emit Current ∷ []) Stay
    ∷ []
-- 13.2.5.2
entries RCDATA =
    entry (Next (chars "&" ∷ [])) Always (ReturnTo RCDATA ∷ []) (Switch CharacterReference)
    ∷ entry (Next (chars "<" ∷ [])) Always [] (Switch RCDATALessThanSign)
    ∷ entry (Next (null ∷ [])) Always (Emit replacement ∷ []) Stay
    ∷ entry (Next (End ∷ [])) Always (EmitEndOfFile ∷ []) Stop
    ∷ entry Else Always (Emit Current ∷ []) Stay
    ∷ []
-- 13.2.5.3
entries RAWTEXT =
    entry (Next (chars "<" ∷ [])) Always [] (Switch RAWTEXTLessThanSign)
    ∷ entry (Next (null ∷ [])) Always (Emit replacement ∷ []) Stay
    ∷ entry (Next (End ∷ [])) Always (EmitEndOfFile ∷ []) Stop
    ∷ entry Else Always (Emit Current ∷ []) Stay
    ∷ []
-- 13.2.5.4
entries ScriptData =
    entry (Next (chars "<" ∷ [])) Always [] (Switch ScriptDataLessThanSign)
    ∷ entry (Next (null ∷ [])) Always (Emit replacement ∷ []) Stay
    ∷ entry (Next (End ∷ [])) Always (EmitEndOfFile ∷ []) Stop
    ∷ entry Else Always (Emit Current ∷ []) Stay
    ∷ []
-- 13.2.5.5
entries PLAINTEXT =
    entry (Next (null ∷ [])) Always (Emit replacement ∷ []) Stay
    ∷ entry (Next (End ∷ [])) Always (EmitEndOfFile ∷ []) Stop
    ∷ entry Else Always (Emit Current ∷ []) Stay
    ∷ []
-- 13.2.5.6
entries TagOpen =
    entry (Next (chars "!" ∷ [])) Always [] (Switch MarkupDeclarationOpen)
    ∷ entry (Next (chars "/" ∷ [])) Always [] (Switch EndTagOpen)
    ∷ entry (Next (upper ∷ lower ∷ [])) Always (NewTag Starting ∷ []) (Reconsume TagName)
    ∷ entry (Next (chars "?" ∷ [])) Always (NewComment ∷ []) (Reconsume BogusComment)
    ∷ entry (Next (End ∷ [])) Always (Emit (These (codes "<")) ∷ EmitEndOfFile ∷ []) Stop
    ∷ entry Else Always (Emit (These (codes "<")) ∷ []) (Reconsume Data)
    ∷ []
-- 13.2.5.7
entries EndTagOpen =
    entry (Next (upper ∷ lower ∷ [])) Always (NewTag Ending ∷ []) (Reconsume TagName)
    ∷ entry (Next (chars ">" ∷ [])) Always [] (Switch Data)
    ∷ entry (Next (End ∷ [])) Always (Emit (These (codes "</")) ∷ EmitEndOfFile ∷ []) Stop
    ∷ entry Else Always (NewComment ∷ []) (Reconsume BogusComment)
    ∷ []
-- 13.2.5.8
entries TagName =
    entry (Next (space ∷ [])) Always [] (Switch BeforeAttributeName)
    ∷ entry (Next (chars "/" ∷ [])) Always [] (Switch SelfClosingStartTag)
    ∷ entry (Next (chars ">" ∷ [])) Always (EmitTag ∷ []) (Switch Data)
    ∷ entry (Next (upper ∷ [])) Always (Add TheTagName Lower ∷ []) Stay
    ∷ entry (Next (null ∷ [])) Always (Add TheTagName replacement ∷ []) Stay
    ∷ entry (Next (End ∷ [])) Always (EmitEndOfFile ∷ []) Stop
    ∷ entry Else Always (Add TheTagName Current ∷ []) Stay
    ∷ []
-- 13.2.5.9
entries RCDATALessThanSign =
    entry (Next (chars "/" ∷ [])) Always (SetEmpty Buffer ∷ []) (Switch RCDATAEndTagOpen)
    ∷ entry Else Always (Emit (These (codes "<")) ∷ []) (Reconsume RCDATA)
    ∷ []
-- 13.2.5.10
entries RCDATAEndTagOpen =
    entry (Next (upper ∷ lower ∷ [])) Always (NewTag Ending ∷ []) (Reconsume RCDATAEndTagName)
    ∷ entry Else Always (Emit (These (codes "</")) ∷ []) (Reconsume RCDATA)
    ∷ []
-- 13.2.5.11
entries RCDATAEndTagName =
    entry (Next (space ∷ [])) Appropriate [] (Switch BeforeAttributeName)
    ∷ entry (Next (chars "/" ∷ [])) Appropriate [] (Switch SelfClosingStartTag)
    ∷ entry (Next (chars ">" ∷ [])) Appropriate (EmitTag ∷ []) (Switch Data)
    ∷ entry (Next (upper ∷ [])) Always (Add TheTagName Lower ∷ Add Buffer Current ∷ []) Stay
    ∷ entry (Next (lower ∷ [])) Always (Add TheTagName Current ∷ Add Buffer Current ∷ []) Stay
    ∷ entry Else Always (Emit (These (codes "</")) ∷ Emit TheBuffer ∷ []) (Reconsume RCDATA)
    ∷ []
-- 13.2.5.12
entries RAWTEXTLessThanSign =
    entry (Next (chars "/" ∷ [])) Always (SetEmpty Buffer ∷ []) (Switch RAWTEXTEndTagOpen)
    ∷ entry Else Always (Emit (These (codes "<")) ∷ []) (Reconsume RAWTEXT)
    ∷ []
-- 13.2.5.13
entries RAWTEXTEndTagOpen =
    entry (Next (upper ∷ lower ∷ [])) Always (NewTag Ending ∷ []) (Reconsume RAWTEXTEndTagName)
    ∷ entry Else Always (Emit (These (codes "</")) ∷ []) (Reconsume RAWTEXT)
    ∷ []
-- 13.2.5.14
entries RAWTEXTEndTagName =
    entry (Next (space ∷ [])) Appropriate [] (Switch BeforeAttributeName)
    ∷ entry (Next (chars "/" ∷ [])) Appropriate [] (Switch SelfClosingStartTag)
    ∷ entry (Next (chars ">" ∷ [])) Appropriate (EmitTag ∷ []) (Switch Data)
    ∷ entry (Next (upper ∷ [])) Always (Add TheTagName Lower ∷ Add Buffer Current ∷ []) Stay
    ∷ entry (Next (lower ∷ [])) Always (Add TheTagName Current ∷ Add Buffer Current ∷ []) Stay
    ∷ entry Else Always (Emit (These (codes "</")) ∷ Emit TheBuffer ∷ []) (Reconsume RAWTEXT)
    ∷ []
-- 13.2.5.15
entries ScriptDataLessThanSign =
    entry (Next (chars "/" ∷ [])) Always (SetEmpty Buffer ∷ []) (Switch ScriptDataEndTagOpen)
    ∷ entry (Next (chars "!" ∷ [])) Always (Emit (These (codes "<!")) ∷ []) (Switch ScriptDataEscapeStart)
    ∷ entry Else Always (Emit (These (codes "<")) ∷ []) (Reconsume ScriptData)
    ∷ []
-- 13.2.5.16
entries ScriptDataEndTagOpen =
    entry (Next (upper ∷ lower ∷ [])) Always (NewTag Ending ∷ []) (Reconsume ScriptDataEndTagName)
    ∷ entry Else Always (Emit (These (codes "</")) ∷ []) (Reconsume ScriptData)
    ∷ []
-- 13.2.5.17
entries ScriptDataEndTagName =
    entry (Next (space ∷ [])) Appropriate [] (Switch BeforeAttributeName)
    ∷ entry (Next (chars "/" ∷ [])) Appropriate [] (Switch SelfClosingStartTag)
    ∷ entry (Next (chars ">" ∷ [])) Appropriate (EmitTag ∷ []) (Switch Data)
    ∷ entry (Next (upper ∷ [])) Always (Add TheTagName Lower ∷ Add Buffer Current ∷ []) Stay
    ∷ entry (Next (lower ∷ [])) Always (Add TheTagName Current ∷ Add Buffer Current ∷ []) Stay
    ∷ entry Else Always (Emit (These (codes "</")) ∷ Emit TheBuffer ∷ []) (Reconsume ScriptData)
    ∷ []
-- 13.2.5.18
entries ScriptDataEscapeStart =
    entry (Next (chars "-" ∷ [])) Always (Emit (These (codes "-")) ∷ []) (Switch ScriptDataEscapeStartDash)
    ∷ entry Else Always [] (Reconsume ScriptData)
    ∷ []
-- 13.2.5.19
entries ScriptDataEscapeStartDash =
    entry (Next (chars "-" ∷ [])) Always (Emit (These (codes "-")) ∷ []) (Switch ScriptDataEscapedDashDash)
    ∷ entry Else Always [] (Reconsume ScriptData)
    ∷ []
-- 13.2.5.20
entries ScriptDataEscaped =
    entry (Next (chars "-" ∷ [])) Always (Emit (These (codes "-")) ∷ []) (Switch ScriptDataEscapedDash)
    ∷ entry (Next (chars "<" ∷ [])) Always [] (Switch ScriptDataEscapedLessThanSign)
    ∷ entry (Next (null ∷ [])) Always (Emit replacement ∷ []) Stay
    ∷ entry (Next (End ∷ [])) Always (EmitEndOfFile ∷ []) Stop
    ∷ entry Else Always (Emit Current ∷ []) Stay
    ∷ []
-- 13.2.5.21
entries ScriptDataEscapedDash =
    entry (Next (chars "-" ∷ [])) Always (Emit (These (codes "-")) ∷ []) (Switch ScriptDataEscapedDashDash)
    ∷ entry (Next (chars "<" ∷ [])) Always [] (Switch ScriptDataEscapedLessThanSign)
    ∷ entry (Next (null ∷ [])) Always (Emit replacement ∷ []) (Switch ScriptDataEscaped)
    ∷ entry (Next (End ∷ [])) Always (EmitEndOfFile ∷ []) Stop
    ∷ entry Else Always (Emit Current ∷ []) (Switch ScriptDataEscaped)
    ∷ []
-- 13.2.5.22
entries ScriptDataEscapedDashDash =
    entry (Next (chars "-" ∷ [])) Always (Emit (These (codes "-")) ∷ []) Stay
    ∷ entry (Next (chars "<" ∷ [])) Always [] (Switch ScriptDataEscapedLessThanSign)
    ∷ entry (Next (chars ">" ∷ [])) Always (Emit (These (codes ">")) ∷ []) (Switch ScriptData)
    ∷ entry (Next (null ∷ [])) Always (Emit replacement ∷ []) (Switch ScriptDataEscaped)
    ∷ entry (Next (End ∷ [])) Always (EmitEndOfFile ∷ []) Stop
    ∷ entry Else Always (Emit Current ∷ []) (Switch ScriptDataEscaped)
    ∷ []
-- 13.2.5.23
entries ScriptDataEscapedLessThanSign =
    entry (Next (chars "/" ∷ [])) Always (SetEmpty Buffer ∷ []) (Switch ScriptDataEscapedEndTagOpen)
    ∷ entry (Next (upper ∷ lower ∷ [])) Always (SetEmpty Buffer ∷ Emit (These (codes "<")) ∷ []) (Reconsume ScriptDataDoubleEscapeStart)
    ∷ entry Else Always (Emit (These (codes "<")) ∷ []) (Reconsume ScriptDataEscaped)
    ∷ []
-- 13.2.5.24
entries ScriptDataEscapedEndTagOpen =
    entry (Next (upper ∷ lower ∷ [])) Always (NewTag Ending ∷ []) (Reconsume ScriptDataEscapedEndTagName)
    ∷ entry Else Always (Emit (These (codes "</")) ∷ []) (Reconsume ScriptDataEscaped)
    ∷ []
-- 13.2.5.25
entries ScriptDataEscapedEndTagName =
    entry (Next (space ∷ [])) Appropriate [] (Switch BeforeAttributeName)
    ∷ entry (Next (chars "/" ∷ [])) Appropriate [] (Switch SelfClosingStartTag)
    ∷ entry (Next (chars ">" ∷ [])) Appropriate (EmitTag ∷ []) (Switch Data)
    ∷ entry (Next (upper ∷ [])) Always (Add TheTagName Lower ∷ Add Buffer Current ∷ []) Stay
    ∷ entry (Next (lower ∷ [])) Always (Add TheTagName Current ∷ Add Buffer Current ∷ []) Stay
    ∷ entry Else Always (Emit (These (codes "</")) ∷ Emit TheBuffer ∷ []) (Reconsume ScriptDataEscaped)
    ∷ []
-- 13.2.5.26
entries ScriptDataDoubleEscapeStart =
    entry (Next (space ∷ chars "/>" ∷ [])) IsScript (Emit Current ∷ []) (Switch ScriptDataDoubleEscaped)
    ∷ entry (Next (space ∷ chars "/>" ∷ [])) Always (Emit Current ∷ []) (Switch ScriptDataEscaped)
    ∷ entry (Next (upper ∷ [])) Always (Add Buffer Lower ∷ Emit Current ∷ []) Stay
    ∷ entry (Next (lower ∷ [])) Always (Add Buffer Current ∷ Emit Current ∷ []) Stay
    ∷ entry Else Always [] (Reconsume ScriptDataEscaped)
    ∷ []
-- 13.2.5.27
entries ScriptDataDoubleEscaped =
    entry (Next (chars "-" ∷ [])) Always (Emit (These (codes "-")) ∷ []) (Switch ScriptDataDoubleEscapedDash)
    ∷ entry (Next (chars "<" ∷ [])) Always (Emit (These (codes "<")) ∷ []) (Switch ScriptDataDoubleEscapedLessThanSign)
    ∷ entry (Next (null ∷ [])) Always (Emit replacement ∷ []) Stay
    ∷ entry (Next (End ∷ [])) Always (EmitEndOfFile ∷ []) Stop
    ∷ entry Else Always (Emit Current ∷ []) Stay
    ∷ []
-- 13.2.5.28
entries ScriptDataDoubleEscapedDash =
    entry (Next (chars "-" ∷ [])) Always (Emit (These (codes "-")) ∷ []) (Switch ScriptDataDoubleEscapedDashDash)
    ∷ entry (Next (chars "<" ∷ [])) Always (Emit (These (codes "<")) ∷ []) (Switch ScriptDataDoubleEscapedLessThanSign)
    ∷ entry (Next (null ∷ [])) Always (Emit replacement ∷ []) (Switch ScriptDataDoubleEscaped)
    ∷ entry (Next (End ∷ [])) Always (EmitEndOfFile ∷ []) Stop
    ∷ entry Else Always (Emit Current ∷ []) (Switch ScriptDataDoubleEscaped)
    ∷ []
-- 13.2.5.29
entries ScriptDataDoubleEscapedDashDash =
    entry (Next (chars "-" ∷ [])) Always (Emit (These (codes "-")) ∷ []) Stay
    ∷ entry (Next (chars "<" ∷ [])) Always (Emit (These (codes "<")) ∷ []) (Switch ScriptDataDoubleEscapedLessThanSign)
    ∷ entry (Next (chars ">" ∷ [])) Always (Emit (These (codes ">")) ∷ []) (Switch ScriptData)
    ∷ entry (Next (null ∷ [])) Always (Emit replacement ∷ []) (Switch ScriptDataDoubleEscaped)
    ∷ entry (Next (End ∷ [])) Always (EmitEndOfFile ∷ []) Stop
    ∷ entry Else Always (Emit Current ∷ []) (Switch ScriptDataDoubleEscaped)
    ∷ []
-- 13.2.5.30
entries ScriptDataDoubleEscapedLessThanSign =
    entry (Next (chars "/" ∷ [])) Always (SetEmpty Buffer ∷ Emit (These (codes "/")) ∷ []) (Switch ScriptDataDoubleEscapeEnd)
    ∷ entry Else Always [] (Reconsume ScriptDataDoubleEscaped)
    ∷ []
-- 13.2.5.31
entries ScriptDataDoubleEscapeEnd =
    entry (Next (space ∷ chars "/>" ∷ [])) IsScript (Emit Current ∷ []) (Switch ScriptDataEscaped)
    ∷ entry (Next (space ∷ chars "/>" ∷ [])) Always (Emit Current ∷ []) (Switch ScriptDataDoubleEscaped)
    ∷ entry (Next (upper ∷ [])) Always (Add Buffer Lower ∷ Emit Current ∷ []) Stay
    ∷ entry (Next (lower ∷ [])) Always (Add Buffer Current ∷ Emit Current ∷ []) Stay
    ∷ entry Else Always [] (Reconsume ScriptDataDoubleEscaped)
    ∷ []
-- 13.2.5.32
entries BeforeAttributeName =
    entry (Next (space ∷ [])) Always [] Stay
    ∷ entry (Next (chars "/>" ∷ End ∷ [])) Always [] (Reconsume AfterAttributeName)
    ∷ entry (Next (chars "=" ∷ [])) Always (NewAttr ∷ Add AttrName Current ∷ []) (Switch AttributeName)
    ∷ entry Else Always (NewAttr ∷ []) (Reconsume AttributeName)
    ∷ []
-- 13.2.5.33
entries AttributeName =
    entry (Next (space ∷ chars "/>" ∷ End ∷ [])) Always [] (Reconsume AfterAttributeName)
    ∷ entry (Next (chars "=" ∷ [])) Always [] (Switch BeforeAttributeValue)
    ∷ entry (Next (upper ∷ [])) Always (Add AttrName Lower ∷ []) Stay
    ∷ entry (Next (null ∷ [])) Always (Add AttrName replacement ∷ []) Stay
    ∷ entry Else Always (Add AttrName Current ∷ []) Stay
    ∷ []
-- 13.2.5.34
entries AfterAttributeName =
    entry (Next (space ∷ [])) Always [] Stay
    ∷ entry (Next (chars "/" ∷ [])) Always [] (Switch SelfClosingStartTag)
    ∷ entry (Next (chars "=" ∷ [])) Always [] (Switch BeforeAttributeValue)
    ∷ entry (Next (chars ">" ∷ [])) Always (EmitTag ∷ []) (Switch Data)
    ∷ entry (Next (End ∷ [])) Always (EmitEndOfFile ∷ []) Stop
    ∷ entry Else Always (NewAttr ∷ []) (Reconsume AttributeName)
    ∷ []
-- 13.2.5.35
entries BeforeAttributeValue =
    entry (Next (space ∷ [])) Always [] Stay
    ∷ entry (Next (chars "\"" ∷ [])) Always [] (Switch AttributeValueDoubleQuoted)
    ∷ entry (Next (chars "'" ∷ [])) Always [] (Switch AttributeValueSingleQuoted)
    ∷ entry (Next (chars ">" ∷ [])) Always (EmitTag ∷ []) (Switch Data)
    ∷ entry Else Always [] (Reconsume AttributeValueUnquoted)
    ∷ []
-- 13.2.5.36
entries AttributeValueDoubleQuoted =
    entry (Next (chars "\"" ∷ [])) Always [] (Switch AfterAttributeValueQuoted)
    ∷ entry (Next (chars "&" ∷ [])) Always (ReturnTo AttributeValueDoubleQuoted ∷ []) (Switch CharacterReference)
    ∷ entry (Next (null ∷ [])) Always (Add AttrValue replacement ∷ []) Stay
    ∷ entry (Next (End ∷ [])) Always (EmitEndOfFile ∷ []) Stop
    ∷ entry Else Always (Add AttrValue Current ∷ []) Stay
    ∷ []
-- 13.2.5.37
entries AttributeValueSingleQuoted =
    entry (Next (chars "'" ∷ [])) Always [] (Switch AfterAttributeValueQuoted)
    ∷ entry (Next (chars "&" ∷ [])) Always (ReturnTo AttributeValueSingleQuoted ∷ []) (Switch CharacterReference)
    ∷ entry (Next (null ∷ [])) Always (Add AttrValue replacement ∷ []) Stay
    ∷ entry (Next (End ∷ [])) Always (EmitEndOfFile ∷ []) Stop
    ∷ entry Else Always (Add AttrValue Current ∷ []) Stay
    ∷ []
-- 13.2.5.38
entries AttributeValueUnquoted =
    entry (Next (space ∷ [])) Always [] (Switch BeforeAttributeName)
    ∷ entry (Next (chars "&" ∷ [])) Always (ReturnTo AttributeValueUnquoted ∷ []) (Switch CharacterReference)
    ∷ entry (Next (chars ">" ∷ [])) Always (EmitTag ∷ []) (Switch Data)
    ∷ entry (Next (null ∷ [])) Always (Add AttrValue replacement ∷ []) Stay
    ∷ entry (Next (End ∷ [])) Always (EmitEndOfFile ∷ []) Stop
    ∷ entry Else Always (Add AttrValue Current ∷ []) Stay
    ∷ []
-- 13.2.5.39
entries AfterAttributeValueQuoted =
    entry (Next (space ∷ [])) Always [] (Switch BeforeAttributeName)
    ∷ entry (Next (chars "/" ∷ [])) Always [] (Switch SelfClosingStartTag)
    ∷ entry (Next (chars ">" ∷ [])) Always (EmitTag ∷ []) (Switch Data)
    ∷ entry (Next (End ∷ [])) Always (EmitEndOfFile ∷ []) Stop
    ∷ entry Else Always [] (Reconsume BeforeAttributeName)
    ∷ []
-- 13.2.5.40
entries SelfClosingStartTag =
    entry (Next (chars ">" ∷ [])) Always (SelfClosing ∷ EmitTag ∷ []) (Switch Data)
    ∷ entry (Next (End ∷ [])) Always (EmitEndOfFile ∷ []) Stop
    ∷ entry Else Always [] (Reconsume BeforeAttributeName)
    ∷ []
-- 13.2.5.41
entries BogusComment =
    entry (Next (chars ">" ∷ [])) Always (EmitComment ∷ []) (Switch Data)
    ∷ entry (Next (End ∷ [])) Always (EmitComment ∷ EmitEndOfFile ∷ []) Stop
    ∷ entry (Next (null ∷ [])) Always (Add Comment replacement ∷ []) Stay
    ∷ entry Else Always (Add Comment Current ∷ []) Stay
    ∷ []
-- 13.2.5.42
entries MarkupDeclarationOpen =
    entry (Word (codes "--")) Always (NewComment ∷ []) (Switch CommentStart)
    ∷ entry (AnyCase (codes "DOCTYPE")) Always [] (Switch DOCTYPEState)
    ∷ entry (Word (codes "[CDATA[")) InForeign [] (Switch CDATASection)
    ∷ entry (Word (codes "[CDATA[")) Always (NewComment ∷ Add Comment Current ∷ []) (Switch BogusComment)
    ∷ entry Else Always (NewComment ∷ []) (Reconsume BogusComment)
    ∷ []
-- 13.2.5.43
entries CommentStart =
    entry (Next (chars "-" ∷ [])) Always [] (Switch CommentStartDash)
    ∷ entry (Next (chars ">" ∷ [])) Always (EmitComment ∷ []) (Switch Data)
    ∷ entry Else Always [] (Reconsume CommentState)
    ∷ []
-- 13.2.5.44
entries CommentStartDash =
    entry (Next (chars "-" ∷ [])) Always [] (Switch CommentEnd)
    ∷ entry (Next (chars ">" ∷ [])) Always (EmitComment ∷ []) (Switch Data)
    ∷ entry (Next (End ∷ [])) Always (EmitComment ∷ EmitEndOfFile ∷ []) Stop
    ∷ entry Else Always (Add Comment (These (codes "-")) ∷ []) (Reconsume CommentState)
    ∷ []
-- 13.2.5.45
entries CommentState =
    entry (Next (chars "<" ∷ [])) Always (Add Comment Current ∷ []) (Switch CommentLessThanSign)
    ∷ entry (Next (chars "-" ∷ [])) Always [] (Switch CommentEndDash)
    ∷ entry (Next (null ∷ [])) Always (Add Comment replacement ∷ []) Stay
    ∷ entry (Next (End ∷ [])) Always (EmitComment ∷ EmitEndOfFile ∷ []) Stop
    ∷ entry Else Always (Add Comment Current ∷ []) Stay
    ∷ []
-- 13.2.5.46
entries CommentLessThanSign =
    entry (Next (chars "!" ∷ [])) Always (Add Comment Current ∷ []) (Switch CommentLessThanSignBang)
    ∷ entry (Next (chars "<" ∷ [])) Always (Add Comment Current ∷ []) Stay
    ∷ entry Else Always [] (Reconsume CommentState)
    ∷ []
-- 13.2.5.47
entries CommentLessThanSignBang =
    entry (Next (chars "-" ∷ [])) Always [] (Switch CommentLessThanSignBangDash)
    ∷ entry Else Always [] (Reconsume CommentState)
    ∷ []
-- 13.2.5.48
entries CommentLessThanSignBangDash =
    entry (Next (chars "-" ∷ [])) Always [] (Switch CommentLessThanSignBangDashDash)
    ∷ entry Else Always [] (Reconsume CommentEndDash)
    ∷ []
-- 13.2.5.49
entries CommentLessThanSignBangDashDash =
    entry (Next (chars ">" ∷ End ∷ [])) Always [] (Reconsume CommentEnd)
    ∷ entry Else Always [] (Reconsume CommentEnd)
    ∷ []
-- 13.2.5.50
entries CommentEndDash =
    entry (Next (chars "-" ∷ [])) Always [] (Switch CommentEnd)
    ∷ entry (Next (End ∷ [])) Always (EmitComment ∷ EmitEndOfFile ∷ []) Stop
    ∷ entry Else Always (Add Comment (These (codes "-")) ∷ []) (Reconsume CommentState)
    ∷ []
-- 13.2.5.51
entries CommentEnd =
    entry (Next (chars ">" ∷ [])) Always (EmitComment ∷ []) (Switch Data)
    ∷ entry (Next (chars "!" ∷ [])) Always [] (Switch CommentEndBang)
    ∷ entry (Next (chars "-" ∷ [])) Always (Add Comment (These (codes "-")) ∷ []) Stay
    ∷ entry (Next (End ∷ [])) Always (EmitComment ∷ EmitEndOfFile ∷ []) Stop
    ∷ entry Else Always (Add Comment (These (codes "--")) ∷ []) (Reconsume CommentState)
    ∷ []
-- 13.2.5.52
entries CommentEndBang =
    entry (Next (chars "-" ∷ [])) Always (Add Comment (These (codes "--!")) ∷ []) (Switch CommentEndDash)
    ∷ entry (Next (chars ">" ∷ [])) Always (EmitComment ∷ []) (Switch Data)
    ∷ entry (Next (End ∷ [])) Always (EmitComment ∷ EmitEndOfFile ∷ []) Stop
    ∷ entry Else Always (Add Comment (These (codes "--!")) ∷ []) (Reconsume CommentState)
    ∷ []
-- 13.2.5.53
entries DOCTYPEState =
    entry (Next (space ∷ [])) Always [] (Switch BeforeDOCTYPEName)
    ∷ entry (Next (chars ">" ∷ [])) Always [] (Reconsume BeforeDOCTYPEName)
    ∷ entry (Next (End ∷ [])) Always (NewDoctype ∷ ForceQuirks ∷ EmitDoctype ∷ EmitEndOfFile ∷ []) Stop
    ∷ entry Else Always [] (Reconsume BeforeDOCTYPEName)
    ∷ []
-- 13.2.5.54
entries BeforeDOCTYPEName =
    entry (Next (space ∷ [])) Always [] Stay
    ∷ entry (Next (upper ∷ [])) Always (NewDoctype ∷ Add DoctypeName Lower ∷ []) (Switch DOCTYPEName)
    ∷ entry (Next (null ∷ [])) Always (NewDoctype ∷ Add DoctypeName replacement ∷ []) (Switch DOCTYPEName)
    ∷ entry (Next (chars ">" ∷ [])) Always (NewDoctype ∷ ForceQuirks ∷ EmitDoctype ∷ []) (Switch Data)
    ∷ entry (Next (End ∷ [])) Always (NewDoctype ∷ ForceQuirks ∷ EmitDoctype ∷ EmitEndOfFile ∷ []) Stop
    ∷ entry Else Always (NewDoctype ∷ Add DoctypeName Current ∷ []) (Switch DOCTYPEName)
    ∷ []
-- 13.2.5.55
entries DOCTYPEName =
    entry (Next (space ∷ [])) Always [] (Switch AfterDOCTYPEName)
    ∷ entry (Next (chars ">" ∷ [])) Always (EmitDoctype ∷ []) (Switch Data)
    ∷ entry (Next (upper ∷ [])) Always (Add DoctypeName Lower ∷ []) Stay
    ∷ entry (Next (null ∷ [])) Always (Add DoctypeName replacement ∷ []) Stay
    ∷ entry (Next (End ∷ [])) Always (ForceQuirks ∷ EmitDoctype ∷ EmitEndOfFile ∷ []) Stop
    ∷ entry Else Always (Add DoctypeName Current ∷ []) Stay
    ∷ []
-- 13.2.5.56
entries AfterDOCTYPEName =
    entry (Next (space ∷ [])) Always [] Stay
    ∷ entry (Next (chars ">" ∷ [])) Always (EmitDoctype ∷ []) (Switch Data)
    ∷ entry (Next (End ∷ [])) Always (ForceQuirks ∷ EmitDoctype ∷ EmitEndOfFile ∷ []) Stop
    ∷ entry (AnyCase (codes "PUBLIC")) Always [] (Switch AfterDOCTYPEPublicKeyword)
    ∷ entry (AnyCase (codes "SYSTEM")) Always [] (Switch AfterDOCTYPESystemKeyword)
    ∷ entry Else Always (ForceQuirks ∷ []) (Reconsume BogusDOCTYPE)
    ∷ []
-- 13.2.5.57
entries AfterDOCTYPEPublicKeyword =
    entry (Next (space ∷ [])) Always [] (Switch BeforeDOCTYPEPublicIdentifier)
    ∷ entry (Next (chars "\"" ∷ [])) Always (SetEmpty PublicId ∷ []) (Switch DOCTYPEPublicIdentifierDoubleQuoted)
    ∷ entry (Next (chars "'" ∷ [])) Always (SetEmpty PublicId ∷ []) (Switch DOCTYPEPublicIdentifierSingleQuoted)
    ∷ entry (Next (chars ">" ∷ [])) Always (ForceQuirks ∷ EmitDoctype ∷ []) (Switch Data)
    ∷ entry (Next (End ∷ [])) Always (ForceQuirks ∷ EmitDoctype ∷ EmitEndOfFile ∷ []) Stop
    ∷ entry Else Always (ForceQuirks ∷ []) (Reconsume BogusDOCTYPE)
    ∷ []
-- 13.2.5.58
entries BeforeDOCTYPEPublicIdentifier =
    entry (Next (space ∷ [])) Always [] Stay
    ∷ entry (Next (chars "\"" ∷ [])) Always (SetEmpty PublicId ∷ []) (Switch DOCTYPEPublicIdentifierDoubleQuoted)
    ∷ entry (Next (chars "'" ∷ [])) Always (SetEmpty PublicId ∷ []) (Switch DOCTYPEPublicIdentifierSingleQuoted)
    ∷ entry (Next (chars ">" ∷ [])) Always (ForceQuirks ∷ EmitDoctype ∷ []) (Switch Data)
    ∷ entry (Next (End ∷ [])) Always (ForceQuirks ∷ EmitDoctype ∷ EmitEndOfFile ∷ []) Stop
    ∷ entry Else Always (ForceQuirks ∷ []) (Reconsume BogusDOCTYPE)
    ∷ []
-- 13.2.5.59
entries DOCTYPEPublicIdentifierDoubleQuoted =
    entry (Next (chars "\"" ∷ [])) Always [] (Switch AfterDOCTYPEPublicIdentifier)
    ∷ entry (Next (null ∷ [])) Always (Add PublicId replacement ∷ []) Stay
    ∷ entry (Next (chars ">" ∷ [])) Always (ForceQuirks ∷ EmitDoctype ∷ []) (Switch Data)
    ∷ entry (Next (End ∷ [])) Always (ForceQuirks ∷ EmitDoctype ∷ EmitEndOfFile ∷ []) Stop
    ∷ entry Else Always (Add PublicId Current ∷ []) Stay
    ∷ []
-- 13.2.5.60
entries DOCTYPEPublicIdentifierSingleQuoted =
    entry (Next (chars "'" ∷ [])) Always [] (Switch AfterDOCTYPEPublicIdentifier)
    ∷ entry (Next (null ∷ [])) Always (Add PublicId replacement ∷ []) Stay
    ∷ entry (Next (chars ">" ∷ [])) Always (ForceQuirks ∷ EmitDoctype ∷ []) (Switch Data)
    ∷ entry (Next (End ∷ [])) Always (ForceQuirks ∷ EmitDoctype ∷ EmitEndOfFile ∷ []) Stop
    ∷ entry Else Always (Add PublicId Current ∷ []) Stay
    ∷ []
-- 13.2.5.61
entries AfterDOCTYPEPublicIdentifier =
    entry (Next (space ∷ [])) Always [] (Switch BetweenDOCTYPEPublicAndSystemIdentifiers)
    ∷ entry (Next (chars ">" ∷ [])) Always (EmitDoctype ∷ []) (Switch Data)
    ∷ entry (Next (chars "\"" ∷ [])) Always (SetEmpty SystemId ∷ []) (Switch DOCTYPESystemIdentifierDoubleQuoted)
    ∷ entry (Next (chars "'" ∷ [])) Always (SetEmpty SystemId ∷ []) (Switch DOCTYPESystemIdentifierSingleQuoted)
    ∷ entry (Next (End ∷ [])) Always (ForceQuirks ∷ EmitDoctype ∷ EmitEndOfFile ∷ []) Stop
    ∷ entry Else Always (ForceQuirks ∷ []) (Reconsume BogusDOCTYPE)
    ∷ []
-- 13.2.5.62
entries BetweenDOCTYPEPublicAndSystemIdentifiers =
    entry (Next (space ∷ [])) Always [] Stay
    ∷ entry (Next (chars ">" ∷ [])) Always (EmitDoctype ∷ []) (Switch Data)
    ∷ entry (Next (chars "\"" ∷ [])) Always (SetEmpty SystemId ∷ []) (Switch DOCTYPESystemIdentifierDoubleQuoted)
    ∷ entry (Next (chars "'" ∷ [])) Always (SetEmpty SystemId ∷ []) (Switch DOCTYPESystemIdentifierSingleQuoted)
    ∷ entry (Next (End ∷ [])) Always (ForceQuirks ∷ EmitDoctype ∷ EmitEndOfFile ∷ []) Stop
    ∷ entry Else Always (ForceQuirks ∷ []) (Reconsume BogusDOCTYPE)
    ∷ []
-- 13.2.5.63
entries AfterDOCTYPESystemKeyword =
    entry (Next (space ∷ [])) Always [] (Switch BeforeDOCTYPESystemIdentifier)
    ∷ entry (Next (chars "\"" ∷ [])) Always (SetEmpty SystemId ∷ []) (Switch DOCTYPESystemIdentifierDoubleQuoted)
    ∷ entry (Next (chars "'" ∷ [])) Always (SetEmpty SystemId ∷ []) (Switch DOCTYPESystemIdentifierSingleQuoted)
    ∷ entry (Next (chars ">" ∷ [])) Always (ForceQuirks ∷ EmitDoctype ∷ []) (Switch Data)
    ∷ entry (Next (End ∷ [])) Always (ForceQuirks ∷ EmitDoctype ∷ EmitEndOfFile ∷ []) Stop
    ∷ entry Else Always (ForceQuirks ∷ []) (Reconsume BogusDOCTYPE)
    ∷ []
-- 13.2.5.64
entries BeforeDOCTYPESystemIdentifier =
    entry (Next (space ∷ [])) Always [] Stay
    ∷ entry (Next (chars "\"" ∷ [])) Always (SetEmpty SystemId ∷ []) (Switch DOCTYPESystemIdentifierDoubleQuoted)
    ∷ entry (Next (chars "'" ∷ [])) Always (SetEmpty SystemId ∷ []) (Switch DOCTYPESystemIdentifierSingleQuoted)
    ∷ entry (Next (chars ">" ∷ [])) Always (ForceQuirks ∷ EmitDoctype ∷ []) (Switch Data)
    ∷ entry (Next (End ∷ [])) Always (ForceQuirks ∷ EmitDoctype ∷ EmitEndOfFile ∷ []) Stop
    ∷ entry Else Always (ForceQuirks ∷ []) (Reconsume BogusDOCTYPE)
    ∷ []
-- 13.2.5.65
entries DOCTYPESystemIdentifierDoubleQuoted =
    entry (Next (chars "\"" ∷ [])) Always [] (Switch AfterDOCTYPESystemIdentifier)
    ∷ entry (Next (null ∷ [])) Always (Add SystemId replacement ∷ []) Stay
    ∷ entry (Next (chars ">" ∷ [])) Always (ForceQuirks ∷ EmitDoctype ∷ []) (Switch Data)
    ∷ entry (Next (End ∷ [])) Always (ForceQuirks ∷ EmitDoctype ∷ EmitEndOfFile ∷ []) Stop
    ∷ entry Else Always (Add SystemId Current ∷ []) Stay
    ∷ []
-- 13.2.5.66
entries DOCTYPESystemIdentifierSingleQuoted =
    entry (Next (chars "'" ∷ [])) Always [] (Switch AfterDOCTYPESystemIdentifier)
    ∷ entry (Next (null ∷ [])) Always (Add SystemId replacement ∷ []) Stay
    ∷ entry (Next (chars ">" ∷ [])) Always (ForceQuirks ∷ EmitDoctype ∷ []) (Switch Data)
    ∷ entry (Next (End ∷ [])) Always (ForceQuirks ∷ EmitDoctype ∷ EmitEndOfFile ∷ []) Stop
    ∷ entry Else Always (Add SystemId Current ∷ []) Stay
    ∷ []
-- 13.2.5.67
entries AfterDOCTYPESystemIdentifier =
    entry (Next (space ∷ [])) Always [] Stay
    ∷ entry (Next (chars ">" ∷ [])) Always (EmitDoctype ∷ []) (Switch Data)
    ∷ entry (Next (End ∷ [])) Always (ForceQuirks ∷ EmitDoctype ∷ EmitEndOfFile ∷ []) Stop
    ∷ entry Else Always [] (Reconsume BogusDOCTYPE)
    ∷ []
-- 13.2.5.68
entries BogusDOCTYPE =
    entry (Next (chars ">" ∷ [])) Always (EmitDoctype ∷ []) (Switch Data)
    ∷ entry (Next (null ∷ [])) Always [] Stay
    ∷ entry (Next (End ∷ [])) Always (EmitDoctype ∷ EmitEndOfFile ∷ []) Stop
    ∷ entry Else Always [] Stay
    ∷ []
-- 13.2.5.69
entries CDATASection =
    entry (Next (chars "]" ∷ [])) Always [] (Switch CDATASectionBracket)
    ∷ entry (Next (End ∷ [])) Always (EmitEndOfFile ∷ []) Stop
    ∷ entry Else Always (Emit Current ∷ []) Stay
    ∷ []
-- 13.2.5.70
entries CDATASectionBracket =
    entry (Next (chars "]" ∷ [])) Always [] (Switch CDATASectionEnd)
    ∷ entry Else Always (Emit (These (codes "]")) ∷ []) (Reconsume CDATASection)
    ∷ []
-- 13.2.5.71
entries CDATASectionEnd =
    entry (Next (chars "]" ∷ [])) Always (Emit (These (codes "]")) ∷ []) Stay
    ∷ entry (Next (chars ">" ∷ [])) Always [] (Switch Data)
    ∷ entry Else Always (Emit (These (codes "]]")) ∷ []) (Reconsume CDATASection)
    ∷ []
-- 13.2.5.72
entries CharacterReference =
    entry (Next (digit ∷ upper ∷ lower ∷ [])) Always (SetEmpty Buffer ∷ Add Buffer (These (codes "&")) ∷ [])
    (Reconsume NamedCharacterReference)
    ∷ entry (Next (chars "#" ∷ [])) Always (SetEmpty Buffer ∷ Add Buffer (These (codes "&")) ∷ Add Buffer Current ∷ [])
    (Switch NumericCharacterReference)
    ∷ entry Else Always (SetEmpty Buffer ∷ Add Buffer (These (codes "&")) ∷ Flush ∷ []) ReconsumeBack
    ∷ []
-- 13.2.5.73
entries NamedCharacterReference =
    entry Name Historical (Add Buffer Current ∷ Flush ∷ []) SwitchBack
    ∷ entry Name Always (BufferName ∷ Flush ∷ []) SwitchBack
    ∷ entry Else Always (Flush ∷ []) (Reconsume AmbiguousAmpersand)
    ∷ []
-- 13.2.5.74
entries AmbiguousAmpersand =
    entry (Next (digit ∷ upper ∷ lower ∷ [])) InAttribute (Add AttrValue Current ∷ []) Stay
    ∷ entry (Next (digit ∷ upper ∷ lower ∷ [])) Always (Emit Current ∷ []) Stay
    ∷ entry (Next (chars ";" ∷ [])) Always [] ReconsumeBack
    ∷ entry Else Always [] ReconsumeBack
    ∷ []
-- 13.2.5.75
entries NumericCharacterReference =
    entry (Next (chars "xX" ∷ [])) Always (CodeZero ∷ Add Buffer Current ∷ []) (Switch HexadecimalCharacterReferenceStart)
    ∷ entry Else Always (CodeZero ∷ []) (Reconsume DecimalCharacterReferenceStart)
    ∷ []
-- 13.2.5.76
entries HexadecimalCharacterReferenceStart =
    entry (Next (digit ∷ upper_hex ∷ lower_hex ∷ [])) Always [] (Reconsume HexadecimalCharacterReference)
    ∷ entry Else Always (Flush ∷ []) ReconsumeBack
    ∷ []
-- 13.2.5.77
entries DecimalCharacterReferenceStart =
    entry (Next (digit ∷ [])) Always [] (Reconsume DecimalCharacterReference)
    ∷ entry Else Always (Flush ∷ []) ReconsumeBack
    ∷ []
-- 13.2.5.78
entries HexadecimalCharacterReference =
    entry (Next (digit ∷ [])) Always (CodeDigit 16 0x30 ∷ []) Stay
    ∷ entry (Next (upper_hex ∷ [])) Always (CodeDigit 16 0x37 ∷ []) Stay
    ∷ entry (Next (lower_hex ∷ [])) Always (CodeDigit 16 0x57 ∷ []) Stay
    ∷ entry (Next (chars ";" ∷ [])) Always [] (Switch NumericCharacterReferenceEnd)
    ∷ entry Else Always [] (Reconsume NumericCharacterReferenceEnd)
    ∷ []
-- 13.2.5.79
entries DecimalCharacterReference =
    entry (Next (digit ∷ [])) Always (CodeDigit 10 0x30 ∷ []) Stay
    ∷ entry (Next (chars ";" ∷ [])) Always [] (Switch NumericCharacterReferenceEnd)
    ∷ entry Else Always [] (Reconsume NumericCharacterReferenceEnd)
    ∷ []
-- 13.2.5.80
entries NumericCharacterReferenceEnd =
    entry Else Always (BufferNumber ∷ Flush ∷ []) ReconsumeBack
    ∷ []
