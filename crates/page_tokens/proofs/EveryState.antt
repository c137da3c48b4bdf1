-- What a test says of each of the 80 states, by one computation over the list of them.
use Rattle.std.specs.Prelude.{◌≡◌, ℕ, zero, suc, ◌==◌, ◌||◌, Bool, true, false, List, [], ◌∷◌, ◌⊎◌, Option, None, Some, refl}
use Rattle.std.proofs.Common.{inl, inr}
use Rattle.std.specs.List.{list_all}
use Rattle.std.proofs.lemmas.Bool.{and_parts, eqb-true}
use Rattle.std.proofs.lemmas.Option.{none-some, same_Some}
use mathlib.Core.Path.{◌∙◌, sym, ap, subst}
use Rattle.standard_tokens.specs.States as there
use Rattle.standard_tokens.specs.States.{State as StandardState}

abbrev states : List StandardState
states =
    there.Data ∷ there.RCDATA ∷ there.RAWTEXT ∷ there.ScriptData ∷ there.PLAINTEXT ∷ there.TagOpen ∷ there.EndTagOpen
    ∷ there.TagName ∷ there.RCDATALessThanSign ∷ there.RCDATAEndTagOpen ∷ there.RCDATAEndTagName ∷ there.RAWTEXTLessThanSign
    ∷ there.RAWTEXTEndTagOpen ∷ there.RAWTEXTEndTagName ∷ there.ScriptDataLessThanSign ∷ there.ScriptDataEndTagOpen
    ∷ there.ScriptDataEndTagName ∷ there.ScriptDataEscapeStart ∷ there.ScriptDataEscapeStartDash ∷ there.ScriptDataEscaped
    ∷ there.ScriptDataEscapedDash ∷ there.ScriptDataEscapedDashDash ∷ there.ScriptDataEscapedLessThanSign
    ∷ there.ScriptDataEscapedEndTagOpen ∷ there.ScriptDataEscapedEndTagName ∷ there.ScriptDataDoubleEscapeStart
    ∷ there.ScriptDataDoubleEscaped ∷ there.ScriptDataDoubleEscapedDash ∷ there.ScriptDataDoubleEscapedDashDash
    ∷ there.ScriptDataDoubleEscapedLessThanSign ∷ there.ScriptDataDoubleEscapeEnd ∷ there.BeforeAttributeName
    ∷ there.AttributeName ∷ there.AfterAttributeName ∷ there.BeforeAttributeValue ∷ there.AttributeValueDoubleQuoted
    ∷ there.AttributeValueSingleQuoted ∷ there.AttributeValueUnquoted ∷ there.AfterAttributeValueQuoted
    ∷ there.SelfClosingStartTag ∷ there.BogusComment ∷ there.MarkupDeclarationOpen ∷ there.CommentStart ∷ there.CommentStartDash
    ∷ there.CommentState ∷ there.CommentLessThanSign ∷ there.CommentLessThanSignBang ∷ there.CommentLessThanSignBangDash
    ∷ there.CommentLessThanSignBangDashDash ∷ there.CommentEndDash ∷ there.CommentEnd ∷ there.CommentEndBang
    ∷ there.DOCTYPEState ∷ there.BeforeDOCTYPEName ∷ there.DOCTYPEName ∷ there.AfterDOCTYPEName
    ∷ there.AfterDOCTYPEPublicKeyword ∷ there.BeforeDOCTYPEPublicIdentifier ∷ there.DOCTYPEPublicIdentifierDoubleQuoted
    ∷ there.DOCTYPEPublicIdentifierSingleQuoted ∷ there.AfterDOCTYPEPublicIdentifier
    ∷ there.BetweenDOCTYPEPublicAndSystemIdentifiers ∷ there.AfterDOCTYPESystemKeyword ∷ there.BeforeDOCTYPESystemIdentifier
    ∷ there.DOCTYPESystemIdentifierDoubleQuoted ∷ there.DOCTYPESystemIdentifierSingleQuoted ∷ there.AfterDOCTYPESystemIdentifier
    ∷ there.BogusDOCTYPE ∷ there.CDATASection ∷ there.CDATASectionBracket ∷ there.CDATASectionEnd ∷ there.CharacterReference
    ∷ there.NamedCharacterReference ∷ there.AmbiguousAmpersand ∷ there.NumericCharacterReference
    ∷ there.HexadecimalCharacterReferenceStart ∷ there.DecimalCharacterReferenceStart ∷ there.HexadecimalCharacterReference
    ∷ there.DecimalCharacterReference ∷ there.NumericCharacterReferenceEnd ∷ []

-- the state at a place of the list, from 0
abbrev at : List StandardState → ℕ → Option StandardState
at [] n = None
at (s ∷ ss) zero = Some s
at (s ∷ ss) (suc n) = at ss n

-- ---- each state has its place in the list

abbrev placed : (s : StandardState) → (n : ℕ) × (at states n ≡ Some s)
placed there.Data = (0, refl)
placed there.RCDATA = (1, refl)
placed there.RAWTEXT = (2, refl)
placed there.ScriptData = (3, refl)
placed there.PLAINTEXT = (4, refl)
placed there.TagOpen = (5, refl)
placed there.EndTagOpen = (6, refl)
placed there.TagName = (7, refl)
placed there.RCDATALessThanSign = (8, refl)
placed there.RCDATAEndTagOpen = (9, refl)
placed there.RCDATAEndTagName = (10, refl)
placed there.RAWTEXTLessThanSign = (11, refl)
placed there.RAWTEXTEndTagOpen = (12, refl)
placed there.RAWTEXTEndTagName = (13, refl)
placed there.ScriptDataLessThanSign = (14, refl)
placed there.ScriptDataEndTagOpen = (15, refl)
placed there.ScriptDataEndTagName = (16, refl)
placed there.ScriptDataEscapeStart = (17, refl)
placed there.ScriptDataEscapeStartDash = (18, refl)
placed there.ScriptDataEscaped = (19, refl)
placed there.ScriptDataEscapedDash = (20, refl)
placed there.ScriptDataEscapedDashDash = (21, refl)
placed there.ScriptDataEscapedLessThanSign = (22, refl)
placed there.ScriptDataEscapedEndTagOpen = (23, refl)
placed there.ScriptDataEscapedEndTagName = (24, refl)
placed there.ScriptDataDoubleEscapeStart = (25, refl)
placed there.ScriptDataDoubleEscaped = (26, refl)
placed there.ScriptDataDoubleEscapedDash = (27, refl)
placed there.ScriptDataDoubleEscapedDashDash = (28, refl)
placed there.ScriptDataDoubleEscapedLessThanSign = (29, refl)
placed there.ScriptDataDoubleEscapeEnd = (30, refl)
placed there.BeforeAttributeName = (31, refl)
placed there.AttributeName = (32, refl)
placed there.AfterAttributeName = (33, refl)
placed there.BeforeAttributeValue = (34, refl)
placed there.AttributeValueDoubleQuoted = (35, refl)
placed there.AttributeValueSingleQuoted = (36, refl)
placed there.AttributeValueUnquoted = (37, refl)
placed there.AfterAttributeValueQuoted = (38, refl)
placed there.SelfClosingStartTag = (39, refl)
placed there.BogusComment = (40, refl)
placed there.MarkupDeclarationOpen = (41, refl)
placed there.CommentStart = (42, refl)
placed there.CommentStartDash = (43, refl)
placed there.CommentState = (44, refl)
placed there.CommentLessThanSign = (45, refl)
placed there.CommentLessThanSignBang = (46, refl)
placed there.CommentLessThanSignBangDash = (47, refl)
placed there.CommentLessThanSignBangDashDash = (48, refl)
placed there.CommentEndDash = (49, refl)
placed there.CommentEnd = (50, refl)
placed there.CommentEndBang = (51, refl)
placed there.DOCTYPEState = (52, refl)
placed there.BeforeDOCTYPEName = (53, refl)
placed there.DOCTYPEName = (54, refl)
placed there.AfterDOCTYPEName = (55, refl)
placed there.AfterDOCTYPEPublicKeyword = (56, refl)
placed there.BeforeDOCTYPEPublicIdentifier = (57, refl)
placed there.DOCTYPEPublicIdentifierDoubleQuoted = (58, refl)
placed there.DOCTYPEPublicIdentifierSingleQuoted = (59, refl)
placed there.AfterDOCTYPEPublicIdentifier = (60, refl)
placed there.BetweenDOCTYPEPublicAndSystemIdentifiers = (61, refl)
placed there.AfterDOCTYPESystemKeyword = (62, refl)
placed there.BeforeDOCTYPESystemIdentifier = (63, refl)
placed there.DOCTYPESystemIdentifierDoubleQuoted = (64, refl)
placed there.DOCTYPESystemIdentifierSingleQuoted = (65, refl)
placed there.AfterDOCTYPESystemIdentifier = (66, refl)
placed there.BogusDOCTYPE = (67, refl)
placed there.CDATASection = (68, refl)
placed there.CDATASectionBracket = (69, refl)
placed there.CDATASectionEnd = (70, refl)
placed there.CharacterReference = (71, refl)
placed there.NamedCharacterReference = (72, refl)
placed there.AmbiguousAmpersand = (73, refl)
placed there.NumericCharacterReference = (74, refl)
placed there.HexadecimalCharacterReferenceStart = (75, refl)
placed there.DecimalCharacterReferenceStart = (76, refl)
placed there.HexadecimalCharacterReference = (77, refl)
placed there.DecimalCharacterReference = (78, refl)
placed there.NumericCharacterReferenceEnd = (79, refl)

passes : (p : StandardState → Bool) (ss : List StandardState) (n : ℕ) (s : StandardState) → list_all p ss ≡ true → at ss n ≡ Some s →
    p s ≡ true
passes p [] n s all is = absurd (none-some s is)
passes p (t ∷ ss) zero s all is =
    let parts : (p t ≡ true) × (list_all p ss ≡ true) = and_parts (p t) (list_all p ss) all in
    subst (λ q. p q ≡ true) (same_Some t s is) parts.0
passes p (t ∷ ss) (suc n) s all is =
    let parts : (p t ≡ true) × (list_all p ss ≡ true) = and_parts (p t) (list_all p ss) all in
    passes p ss n s parts.1 is

-- a test that each state of the list passes is passed by each state
pub every_state : (p : StandardState → Bool) → list_all p states ≡ true → (s : StandardState) → p s ≡ true
every_state p all s = passes p states (placed s).0 s all (placed s).1

-- ---- whether two states are equal

abbrev pub is_state : StandardState → StandardState → Bool
is_state s t = (placed s).0 == (placed t).0

pub same_state : (s t : StandardState) → is_state s t ≡ true → s ≡ t
same_state s t is = same_Some s t (sym (placed s).1 ∙ ap (at states) (eqb-true (placed s).0 (placed t).0 is) ∙ (placed t).1)

-- one of three tests is passed
pub third : (a s x : Bool) → (a || (s || x)) ≡ true → (a ≡ true) ⊎ ((s ≡ true) ⊎ (x ≡ true))
third true s x h = inl refl
third false true x h = inr (inl refl)
third false false x h = inr (inr h)
