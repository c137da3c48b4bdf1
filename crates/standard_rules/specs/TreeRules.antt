-- The rules of tree construction (13.2.6.4), written by generate.py from rules.txt.
use Rattle.std.specs.Prelude.{ℕ, List, [], ◌∷◌, ◌++◌, codes}
use Rattle.standard_rules.specs.RuleWords.{AdoptionAgency, AfterAfterBody, AfterBody, AfterHead, Always, AnyEnd, AnyOtherEndTag, AnyStart}
use Rattle.standard_rules.specs.RuleWords.{AnythingElse, AppendDoctype, BeforeHead, BeforeHtml, ButtonScope, Character, ClearStackTo}
use Rattle.standard_rules.specs.RuleWords.{ClearToMarker, CloseItems, CloseP, Comment, CurrentNode, Doctype, DoctypeOf, DropLineFeed}
use Rattle.standard_rules.specs.RuleWords.{EndForm, EndOf, EndOfFile, FramesetNotOk, Hidden, ImpliedEndTags, ImpliedEndTagsBut, InBody}
use Rattle.standard_rules.specs.RuleWords.{InCaption, InCell, InColumnGroup, InHead, InRow, InScope, InTable, InTableBody, Initial}
use Rattle.standard_rules.specs.RuleWords.{InsertCharacter, InsertComment, InsertElement, InsertNamed, ListElement, ListItemScope}
use Rattle.standard_rules.specs.RuleWords.{ListMarker, Mode, NoForm, NoListed, NoRule, Null, Own, Pop, PopIf, PopUntil, ReadText}
use Rattle.standard_rules.specs.RuleWords.{Reconstruct, ReprocessIn, ResetAndReprocess, ResetMode, Rule, Scope, SetForm, StartOf, Stay}
use Rattle.standard_rules.specs.RuleWords.{Stop, SwitchBack, SwitchTo, TableScope, Text, These, UseRulesFor, WhiteSpace, rule}

abbrev pub headings : List (List ℕ)
headings = codes "h1" ∷ codes "h2" ∷ codes "h3" ∷ codes "h4" ∷ codes "h5" ∷ codes "h6" ∷ []

abbrev pub formatting : List (List ℕ)
formatting = codes "a" ∷ codes "b" ∷ codes "big" ∷ codes "code" ∷ codes "em" ∷ codes "font" ∷ codes "i" ∷ codes "s" ∷ codes "small"
    ∷ codes "strike" ∷ codes "strong" ∷ codes "tt" ∷ codes "u" ∷ []

abbrev pub blocks : List (List ℕ)
blocks = codes "address" ∷ codes "article" ∷ codes "aside" ∷ codes "blockquote" ∷ codes "center" ∷ codes "details" ∷ codes "dialog"
    ∷ codes "dir" ∷ codes "div" ∷ codes "dl" ∷ codes "fieldset" ∷ codes "figcaption" ∷ codes "figure" ∷ codes "footer" ∷ codes "header"
    ∷ codes "hgroup" ∷ codes "main" ∷ codes "menu" ∷ codes "nav" ∷ codes "ol" ∷ codes "search" ∷ codes "section" ∷ codes "summary"
    ∷ codes "ul" ∷ []

abbrev pub cells : List (List ℕ)
cells = codes "td" ∷ codes "th" ∷ []

abbrev pub groups : List (List ℕ)
groups = codes "tbody" ∷ codes "tfoot" ∷ codes "thead" ∷ []

abbrev pub tabular : List (List ℕ)
tabular = codes "caption" ∷ codes "col" ∷ codes "colgroup" ∷ codes "tbody" ∷ codes "td" ∷ codes "tfoot" ∷ codes "th" ∷ codes "thead"
    ∷ codes "tr" ∷ []

abbrev pub outer : List (List ℕ)
outer = codes "body" ∷ codes "html" ∷ []

unfoldable pub rules : Mode → List Rule
rules Initial =
    rule WhiteSpace Always ([]) Stay ∷
    rule Comment Always (InsertComment ∷ []) Stay ∷
    rule (DoctypeOf (codes "html")) Always (AppendDoctype ∷ []) (SwitchTo BeforeHtml) ∷ []
rules BeforeHtml =
    rule WhiteSpace Always ([]) Stay ∷
    rule Doctype Always ([]) Stay ∷
    rule Comment Always (InsertComment ∷ []) Stay ∷
    rule (StartOf (codes "html" ∷ [])) Always (InsertElement ∷ []) (SwitchTo BeforeHead) ∷
    rule (EndOf (codes "head" ∷ codes "body" ∷ codes "html" ∷ codes "br" ∷ [])) Always (InsertNamed (codes "html") ∷ [])
    (ReprocessIn BeforeHead) ∷
    rule AnyEnd Always ([]) Stay ∷
    rule AnythingElse Always (InsertNamed (codes "html") ∷ []) (ReprocessIn BeforeHead) ∷ []
rules BeforeHead =
    rule WhiteSpace Always ([]) Stay ∷
    rule Doctype Always ([]) Stay ∷
    rule Comment Always (InsertComment ∷ []) Stay ∷
    rule (StartOf (codes "html" ∷ [])) Always ([]) NoRule ∷
    rule (StartOf (codes "head" ∷ [])) Always (InsertElement ∷ []) (SwitchTo InHead) ∷
    rule (EndOf (codes "head" ∷ codes "body" ∷ codes "html" ∷ codes "br" ∷ [])) Always (InsertNamed (codes "head") ∷ [])
    (ReprocessIn InHead) ∷
    rule AnyEnd Always ([]) Stay ∷
    rule AnythingElse Always (InsertNamed (codes "head") ∷ []) (ReprocessIn InHead) ∷ []
rules InHead =
    rule WhiteSpace Always (InsertCharacter ∷ []) Stay ∷
    rule Doctype Always ([]) Stay ∷
    rule Comment Always (InsertComment ∷ []) Stay ∷
    rule (StartOf (codes "base" ∷ codes "basefont" ∷ codes "bgsound" ∷ codes "link" ∷ codes "meta" ∷ [])) Always (InsertElement ∷ Pop ∷ [])
    Stay ∷
    rule (StartOf (codes "title" ∷ codes "noframes" ∷ codes "style" ∷ codes "script" ∷ [])) Always (InsertElement ∷ []) ReadText ∷
    rule (StartOf (codes "html" ∷ codes "noscript" ∷ codes "template" ∷ [])) Always ([]) NoRule ∷
    rule (StartOf (codes "head" ∷ [])) Always ([]) Stay ∷
    rule (EndOf (codes "head" ∷ [])) Always (Pop ∷ []) (SwitchTo AfterHead) ∷
    rule (EndOf (codes "body" ∷ codes "html" ∷ codes "br" ∷ [])) Always (Pop ∷ []) (ReprocessIn AfterHead) ∷
    rule (EndOf (codes "template" ∷ [])) Always ([]) NoRule ∷
    rule AnyEnd Always ([]) Stay ∷
    rule AnythingElse Always (Pop ∷ []) (ReprocessIn AfterHead) ∷ []
rules AfterHead =
    rule WhiteSpace Always (InsertCharacter ∷ []) Stay ∷
    rule Doctype Always ([]) Stay ∷
    rule Comment Always (InsertComment ∷ []) Stay ∷
    rule (StartOf
    (codes "html" ∷ codes "frameset" ∷ codes "base" ∷ codes "basefont" ∷ codes "bgsound" ∷ codes "link" ∷ codes "meta"
    ∷ codes "noframes" ∷ codes "script" ∷ codes "style" ∷ codes "template" ∷ codes "title" ∷ [])) Always ([]) NoRule ∷
    rule (StartOf (codes "head" ∷ [])) Always ([]) Stay ∷
    rule (StartOf (codes "body" ∷ [])) Always (InsertElement ∷ FramesetNotOk ∷ []) (SwitchTo InBody) ∷
    rule (EndOf (codes "body" ∷ codes "html" ∷ codes "br" ∷ [])) Always (InsertNamed (codes "body") ∷ []) (ReprocessIn InBody) ∷
    rule (EndOf (codes "template" ∷ [])) Always ([]) NoRule ∷
    rule AnyEnd Always ([]) Stay ∷
    rule AnythingElse Always (InsertNamed (codes "body") ∷ []) (ReprocessIn InBody) ∷ []
rules InBody =
    rule Null Always ([]) Stay ∷
    rule WhiteSpace Always (Reconstruct ∷ InsertCharacter ∷ []) Stay ∷
    rule Character Always (Reconstruct ∷ InsertCharacter ∷ FramesetNotOk ∷ []) Stay ∷
    rule Comment Always (InsertComment ∷ []) Stay ∷
    rule Doctype Always ([]) Stay ∷
    rule (StartOf (codes "html" ∷ codes "body" ∷ codes "frameset" ∷ [])) Always ([]) NoRule ∷
    rule (StartOf
    (codes "base" ∷ codes "basefont" ∷ codes "bgsound" ∷ codes "link" ∷ codes "meta" ∷ codes "noframes" ∷ codes "script" ∷ codes "style"
    ∷ codes "title" ∷ [])) Always ([]) (UseRulesFor InHead) ∷
    rule (StartOf
    (codes "template" ∷ codes "image" ∷ codes "textarea" ∷ codes "xmp" ∷ codes "iframe" ∷ codes "noembed" ∷ codes "noscript"
    ∷ codes "select" ∷ codes "optgroup" ∷ codes "option" ∷ codes "math" ∷ codes "svg" ∷ codes "nobr" ∷ codes "plaintext" ∷ [])) Always
    ([]) NoRule ∷
    rule (EndOf (codes "template" ∷ [])) Always ([]) NoRule ∷
    rule EndOfFile Always ([]) Stop ∷
    rule (EndOf (codes "body" ∷ [])) (InScope Scope (These (codes "body" ∷ []))) ([]) (SwitchTo AfterBody) ∷
    rule (EndOf (codes "html" ∷ [])) (InScope Scope (These (codes "body" ∷ []))) ([]) (ReprocessIn AfterBody) ∷
    rule (StartOf (blocks ++ codes "p" ∷ [])) Always (CloseP ∷ InsertElement ∷ []) Stay ∷
    rule (StartOf headings) Always (CloseP ∷ PopIf headings ∷ InsertElement ∷ []) Stay ∷
    rule (StartOf (codes "pre" ∷ codes "listing" ∷ [])) Always (CloseP ∷ InsertElement ∷ DropLineFeed ∷ FramesetNotOk ∷ []) Stay ∷
    rule (StartOf (codes "form" ∷ [])) NoForm (CloseP ∷ InsertElement ∷ SetForm ∷ []) Stay ∷
    rule (StartOf (codes "form" ∷ [])) Always ([]) Stay ∷
    rule (StartOf (codes "li" ∷ [])) Always (FramesetNotOk ∷ CloseItems (codes "li" ∷ []) ∷ CloseP ∷ InsertElement ∷ []) Stay ∷
    rule (StartOf (codes "dd" ∷ codes "dt" ∷ [])) Always
    (FramesetNotOk ∷ CloseItems (codes "dd" ∷ codes "dt" ∷ []) ∷ CloseP ∷ InsertElement ∷ []) Stay ∷
    rule (StartOf (codes "button" ∷ [])) (InScope Scope (These (codes "button" ∷ [])))
    (ImpliedEndTags ∷ PopUntil (These (codes "button" ∷ [])) ∷ Reconstruct ∷ InsertElement ∷ FramesetNotOk ∷ []) Stay ∷
    rule (StartOf (codes "button" ∷ [])) Always (Reconstruct ∷ InsertElement ∷ FramesetNotOk ∷ []) Stay ∷
    rule (EndOf (blocks ++ codes "button" ∷ codes "listing" ∷ codes "pre" ∷ [])) (InScope Scope Own) (ImpliedEndTags ∷ PopUntil Own ∷ [])
    Stay ∷
    rule (EndOf (codes "form" ∷ [])) Always (EndForm ∷ []) Stay ∷
    rule (EndOf (codes "p" ∷ [])) (InScope ButtonScope (These (codes "p" ∷ []))) (CloseP ∷ []) Stay ∷
    rule (EndOf (codes "p" ∷ [])) Always (InsertNamed (codes "p") ∷ CloseP ∷ []) Stay ∷
    rule (EndOf (codes "li" ∷ [])) (InScope ListItemScope Own) (ImpliedEndTagsBut Own ∷ PopUntil Own ∷ []) Stay ∷
    rule (EndOf (codes "dd" ∷ codes "dt" ∷ [])) (InScope Scope Own) (ImpliedEndTagsBut Own ∷ PopUntil Own ∷ []) Stay ∷
    rule (EndOf headings) (InScope Scope (These headings)) (ImpliedEndTags ∷ PopUntil (These headings) ∷ []) Stay ∷
    rule (StartOf (codes "a" ∷ [])) (NoListed (These (codes "a" ∷ []))) (Reconstruct ∷ InsertElement ∷ ListElement ∷ []) Stay ∷
    rule (StartOf (codes "a" ∷ [])) Always ([]) NoRule ∷
    rule (StartOf formatting) Always (Reconstruct ∷ InsertElement ∷ ListElement ∷ []) Stay ∷
    rule (EndOf formatting) Always (AdoptionAgency ∷ []) Stay ∷
    rule (StartOf (codes "applet" ∷ codes "marquee" ∷ codes "object" ∷ [])) Always
    (Reconstruct ∷ InsertElement ∷ ListMarker ∷ FramesetNotOk ∷ []) Stay ∷
    rule (EndOf (codes "applet" ∷ codes "marquee" ∷ codes "object" ∷ [])) (InScope Scope Own)
    (ImpliedEndTags ∷ PopUntil Own ∷ ClearToMarker ∷ []) Stay ∷
    rule (StartOf (codes "table" ∷ [])) Always (CloseP ∷ InsertElement ∷ FramesetNotOk ∷ []) (SwitchTo InTable) ∷
    rule (EndOf (codes "br" ∷ codes "nobr" ∷ [])) Always ([]) NoRule ∷
    rule (StartOf (codes "area" ∷ codes "br" ∷ codes "embed" ∷ codes "img" ∷ codes "keygen" ∷ codes "wbr" ∷ [])) Always
    (Reconstruct ∷ InsertElement ∷ Pop ∷ FramesetNotOk ∷ []) Stay ∷
    rule (StartOf (codes "input" ∷ [])) Hidden (Reconstruct ∷ InsertElement ∷ Pop ∷ []) Stay ∷
    rule (StartOf (codes "input" ∷ [])) Always (Reconstruct ∷ InsertElement ∷ Pop ∷ FramesetNotOk ∷ []) Stay ∷
    rule (StartOf (codes "param" ∷ codes "source" ∷ codes "track" ∷ [])) Always (InsertElement ∷ Pop ∷ []) Stay ∷
    rule (StartOf (codes "hr" ∷ [])) Always (CloseP ∷ InsertElement ∷ Pop ∷ FramesetNotOk ∷ []) Stay ∷
    rule (StartOf (tabular ++ codes "frame" ∷ codes "head" ∷ [])) Always ([]) Stay ∷
    rule (StartOf (codes "rb" ∷ codes "rtc" ∷ [])) (InScope Scope (These (codes "ruby" ∷ []))) (ImpliedEndTags ∷ InsertElement ∷ []) Stay ∷
    rule (StartOf (codes "rb" ∷ codes "rtc" ∷ [])) Always (InsertElement ∷ []) Stay ∷
    rule (StartOf (codes "rp" ∷ codes "rt" ∷ [])) (InScope Scope (These (codes "ruby" ∷ [])))
    (ImpliedEndTagsBut (These (codes "rtc" ∷ [])) ∷ InsertElement ∷ []) Stay ∷
    rule (StartOf (codes "rp" ∷ codes "rt" ∷ [])) Always (InsertElement ∷ []) Stay ∷
    rule AnyStart Always (Reconstruct ∷ InsertElement ∷ []) Stay ∷
    rule (EndOf
    (blocks ++ headings ++ outer ++ codes "button" ∷ codes "listing" ∷ codes "pre" ∷ codes "li" ∷ codes "dd" ∷ codes "dt"
    ∷ codes "applet" ∷ codes "marquee" ∷ codes "object" ∷ [])) Always ([]) Stay ∷
    rule AnyEnd Always (AnyOtherEndTag ∷ []) Stay ∷ []
rules Text =
    rule Character Always (InsertCharacter ∷ []) Stay ∷
    rule AnyEnd Always (Pop ∷ []) SwitchBack ∷ []
rules InTable =
    rule WhiteSpace (CurrentNode (These (groups ++ codes "table" ∷ codes "tr" ∷ []))) (InsertCharacter ∷ []) Stay ∷
    rule Comment Always (InsertComment ∷ []) Stay ∷
    rule Doctype Always ([]) Stay ∷
    rule (StartOf (codes "caption" ∷ [])) Always (ClearStackTo (codes "table" ∷ []) ∷ ListMarker ∷ InsertElement ∷ []) (SwitchTo InCaption)
    ∷
    rule (StartOf (codes "colgroup" ∷ [])) Always (ClearStackTo (codes "table" ∷ []) ∷ InsertElement ∷ []) (SwitchTo InColumnGroup) ∷
    rule (StartOf (codes "col" ∷ [])) Always (ClearStackTo (codes "table" ∷ []) ∷ InsertNamed (codes "colgroup") ∷ [])
    (ReprocessIn InColumnGroup) ∷
    rule (StartOf groups) Always (ClearStackTo (codes "table" ∷ []) ∷ InsertElement ∷ []) (SwitchTo InTableBody) ∷
    rule (StartOf (codes "td" ∷ codes "th" ∷ codes "tr" ∷ [])) Always (ClearStackTo (codes "table" ∷ []) ∷ InsertNamed (codes "tbody") ∷ [])
    (ReprocessIn InTableBody) ∷
    rule (StartOf (codes "table" ∷ [])) (InScope TableScope (These (codes "table" ∷ []))) (PopUntil (These (codes "table" ∷ [])) ∷ [])
    ResetAndReprocess ∷
    rule (EndOf (codes "table" ∷ [])) (InScope TableScope (These (codes "table" ∷ []))) (PopUntil (These (codes "table" ∷ [])) ∷ [])
    ResetMode ∷
    rule (EndOf (codes "table" ∷ [])) Always ([]) Stay ∷
    rule (EndOf (outer ++ tabular)) Always ([]) Stay ∷
    rule (StartOf (codes "style" ∷ codes "script" ∷ [])) Always ([]) (UseRulesFor InHead) ∷
    rule EndOfFile Always ([]) (UseRulesFor InBody) ∷ []
rules InCaption =
    rule (EndOf (codes "caption" ∷ [])) (InScope TableScope (These (codes "caption" ∷ [])))
    (ImpliedEndTags ∷ PopUntil (These (codes "caption" ∷ [])) ∷ ClearToMarker ∷ []) (SwitchTo InTable) ∷
    rule (StartOf tabular) (InScope TableScope (These (codes "caption" ∷ [])))
    (ImpliedEndTags ∷ PopUntil (These (codes "caption" ∷ [])) ∷ ClearToMarker ∷ []) (ReprocessIn InTable) ∷
    rule (EndOf (codes "table" ∷ [])) (InScope TableScope (These (codes "caption" ∷ [])))
    (ImpliedEndTags ∷ PopUntil (These (codes "caption" ∷ [])) ∷ ClearToMarker ∷ []) (ReprocessIn InTable) ∷
    rule (StartOf tabular) Always ([]) Stay ∷
    rule (EndOf (outer ++ tabular ++ codes "table" ∷ [])) Always ([]) Stay ∷
    rule AnythingElse Always ([]) (UseRulesFor InBody) ∷ []
rules InColumnGroup =
    rule WhiteSpace Always (InsertCharacter ∷ []) Stay ∷
    rule Comment Always (InsertComment ∷ []) Stay ∷
    rule Doctype Always ([]) Stay ∷
    rule (StartOf (codes "html" ∷ codes "template" ∷ [])) Always ([]) NoRule ∷
    rule (StartOf (codes "col" ∷ [])) Always (InsertElement ∷ Pop ∷ []) Stay ∷
    rule (EndOf (codes "colgroup" ∷ [])) (CurrentNode (These (codes "colgroup" ∷ []))) (Pop ∷ []) (SwitchTo InTable) ∷
    rule (EndOf (codes "col" ∷ codes "colgroup" ∷ [])) Always ([]) Stay ∷
    rule (EndOf (codes "template" ∷ [])) Always ([]) NoRule ∷
    rule EndOfFile Always ([]) (UseRulesFor InBody) ∷
    rule AnythingElse (CurrentNode (These (codes "colgroup" ∷ []))) (Pop ∷ []) (ReprocessIn InTable) ∷
    rule AnythingElse Always ([]) Stay ∷ []
rules InTableBody =
    rule (StartOf (codes "tr" ∷ [])) Always (ClearStackTo groups ∷ InsertElement ∷ []) (SwitchTo InRow) ∷
    rule (StartOf cells) Always (ClearStackTo groups ∷ InsertNamed (codes "tr") ∷ []) (ReprocessIn InRow) ∷
    rule (EndOf groups) (InScope TableScope Own) (ClearStackTo groups ∷ Pop ∷ []) (SwitchTo InTable) ∷
    rule (EndOf groups) Always ([]) Stay ∷
    rule (StartOf (groups ++ codes "caption" ∷ codes "col" ∷ codes "colgroup" ∷ [])) (InScope TableScope (These groups))
    (ClearStackTo groups ∷ Pop ∷ []) (ReprocessIn InTable) ∷
    rule (EndOf (codes "table" ∷ [])) (InScope TableScope (These groups)) (ClearStackTo groups ∷ Pop ∷ []) (ReprocessIn InTable) ∷
    rule (StartOf (groups ++ codes "caption" ∷ codes "col" ∷ codes "colgroup" ∷ [])) Always ([]) Stay ∷
    rule (EndOf (outer ++ codes "table" ∷ codes "caption" ∷ codes "col" ∷ codes "colgroup" ∷ codes "td" ∷ codes "th" ∷ codes "tr" ∷ []))
    Always ([]) Stay ∷
    rule AnythingElse Always ([]) (UseRulesFor InTable) ∷ []
rules InRow =
    rule (StartOf cells) Always (ClearStackTo (codes "tr" ∷ []) ∷ InsertElement ∷ ListMarker ∷ []) (SwitchTo InCell) ∷
    rule (EndOf (codes "tr" ∷ [])) (InScope TableScope (These (codes "tr" ∷ []))) (ClearStackTo (codes "tr" ∷ []) ∷ Pop ∷ [])
    (SwitchTo InTableBody) ∷
    rule (StartOf (groups ++ codes "caption" ∷ codes "col" ∷ codes "colgroup" ∷ codes "tr" ∷ []))
    (InScope TableScope (These (codes "tr" ∷ []))) (ClearStackTo (codes "tr" ∷ []) ∷ Pop ∷ []) (ReprocessIn InTableBody) ∷
    rule (EndOf (codes "table" ∷ [])) (InScope TableScope (These (codes "tr" ∷ []))) (ClearStackTo (codes "tr" ∷ []) ∷ Pop ∷ [])
    (ReprocessIn InTableBody) ∷
    rule (EndOf groups) Always ([]) NoRule ∷
    rule (StartOf (groups ++ codes "caption" ∷ codes "col" ∷ codes "colgroup" ∷ codes "tr" ∷ [])) Always ([]) Stay ∷
    rule (EndOf (outer ++ codes "table" ∷ codes "tr" ∷ codes "caption" ∷ codes "col" ∷ codes "colgroup" ∷ codes "td" ∷ codes "th" ∷ []))
    Always ([]) Stay ∷
    rule AnythingElse Always ([]) (UseRulesFor InTable) ∷ []
rules InCell =
    rule (EndOf cells) (InScope TableScope Own) (ImpliedEndTags ∷ PopUntil Own ∷ ClearToMarker ∷ []) (SwitchTo InRow) ∷
    rule (EndOf cells) Always ([]) Stay ∷
    rule (StartOf tabular) (InScope TableScope (These cells)) (ImpliedEndTags ∷ PopUntil (These cells) ∷ ClearToMarker ∷ [])
    (ReprocessIn InRow) ∷
    rule (EndOf (outer ++ codes "caption" ∷ codes "col" ∷ codes "colgroup" ∷ [])) Always ([]) Stay ∷
    rule (EndOf (groups ++ codes "table" ∷ codes "tr" ∷ [])) (InScope TableScope Own)
    (ImpliedEndTags ∷ PopUntil (These cells) ∷ ClearToMarker ∷ []) (ReprocessIn InRow) ∷
    rule (EndOf (groups ++ codes "table" ∷ codes "tr" ∷ [])) Always ([]) Stay ∷
    rule AnythingElse Always ([]) (UseRulesFor InBody) ∷ []
rules AfterBody =
    rule WhiteSpace Always ([]) (UseRulesFor InBody) ∷
    rule Doctype Always ([]) Stay ∷
    rule Comment Always ([]) NoRule ∷
    rule (EndOf (codes "html" ∷ [])) Always ([]) (SwitchTo AfterAfterBody) ∷
    rule EndOfFile Always ([]) Stop ∷
    rule AnythingElse Always ([]) (ReprocessIn InBody) ∷ []
rules AfterAfterBody =
    rule WhiteSpace Always ([]) (UseRulesFor InBody) ∷
    rule Doctype Always ([]) (UseRulesFor InBody) ∷
    rule Comment Always ([]) NoRule ∷
    rule EndOfFile Always ([]) Stop ∷
    rule AnythingElse Always ([]) (ReprocessIn InBody) ∷ []
