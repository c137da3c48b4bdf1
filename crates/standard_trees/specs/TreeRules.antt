-- The rules of tree construction (13.2.6), each behind its line of docs/standard/tree_construction.txt; made by
-- tests/standard/trees/definition.py.
use Rattle.std.specs.Prelude.{Bool, List, [], codes, cond, ℕ, ◌∷◌}
use Rattle.standard_tokens.specs.States.{Data, PLAINTEXT, RAWTEXT, RCDATA, ScriptData, State}
use Rattle.standard_trees.specs.NameLists.{breakouts, fostering_names, headings, table_body_context, table_context, table_row_context}
use Rattle.standard_trees.specs.RuleWords.{AddToPending, AdjustForeignAttributes, AdjustMathmlAttributes, AdjustSvgAttributes}
use Rattle.standard_trees.specs.RuleWords.{AdjustSvgName, AdjustedCurrentNode, AdjustedCurrentNodeInHtml, AdjustedCurrentNodeInMathml}
use Rattle.standard_trees.specs.RuleWords.{AdoptionAgency, AfterAfterBody, AfterAfterFrameset, AfterBody, AfterFrameset, AfterHead}
use Rattle.standard_trees.specs.RuleWords.{AllImpliedEndTags, Always, AnyAttribute, AnyEndTag, AnyOtherEndTag, AnyStartTag, Anything}
use Rattle.standard_trees.specs.RuleWords.{AppendDoctype, AtAMathmlTextIntegrationPoint, AtAnHtmlIntegrationPoint, AttributeTypeHidden}
use Rattle.standard_trees.specs.RuleWords.{BeforeHead, BeforeHtml, ButtonScope, Character, ClearListToMarker, CloseItems, CloseP, Comment}
use Rattle.standard_trees.specs.RuleWords.{Context, CurrentNode, CurrentNodeIsTopmost, Dispatcher, Doctype, DropFound, EmptyPending}
use Rattle.standard_trees.specs.RuleWords.{EndForm, EndOfFile, EndTagOf, FindListed, ForeignContent, FormPointerSet, FosterOff, FosterOn}
use Rattle.standard_trees.specs.RuleWords.{Fragment, FramesetNotOk, FramesetOk, HeadPointerIsSet, ImpliedEndTags, ImpliedEndTagsBut, InBody}
use Rattle.standard_trees.specs.RuleWords.{InCaption, InCell, InColumnGroup, InFrameset, InHead, InHeadNoscript, InRow, InScope, InTable}
use Rattle.standard_trees.specs.RuleWords.{InTableBody, InTableText, InTemplate, Initial, InsertCharacter, InsertComment}
use Rattle.standard_trees.specs.RuleWords.{InsertCommentInDocument, InsertCommentInHtml, InsertElement, InsertMathmlElement, InsertNamed}
use Rattle.standard_trees.specs.RuleWords.{InsertPending, InsertReplacement, InsertRootElement, InsertRootNamed, InsertSvgElement, KeepMode}
use Rattle.standard_trees.specs.RuleWords.{ListElement, ListItemScope, ListMarker, Listed, MergeAttributesIntoBody, MergeAttributesIntoHtml}
use Rattle.standard_trees.specs.RuleWords.{Mode, NoOpenElements, NotTopmost, Null, Own, OwnBeforeHtml, PendingAllWhiteSpace, PlainText, Pop}
use Rattle.standard_trees.specs.RuleWords.{PopForeignElements, PopTemplateMode, PopToTopmost, PopUntil, PopUntilOwnInAnyCase, PopUpTo}
use Rattle.standard_trees.specs.RuleWords.{PushHeadPointer, PushTemplateMode, Quirks, RawText, RcdataText, ReconstructFormatting}
use Rattle.standard_trees.specs.RuleWords.{RemoveBody, RemoveHeadFromStack, Rename, Reprocess, Reset, ResetMode, Rule, Scope, ScriptText}
use Rattle.standard_trees.specs.RuleWords.{Scripting, SecondElement, SelfClosing, SetFormPointer, SetHeadPointer, SetQuirks}
use Rattle.standard_trees.specs.RuleWords.{SetQuirksByDoctype, SkipNextLineFeed, StartTagBut, StartTagOf, Stop, SwitchBack, SwitchTo}
use Rattle.standard_trees.specs.RuleWords.{TableScope, TemplateModeSet, TemplateOpen, Text, These, TokenizerTo, Use, UseCurrentMode}
use Rattle.standard_trees.specs.RuleWords.{UseForEachPending, WhiteSpace, does, goes, is, isnt, reset_to, reset_to_template_mode, rule}

unfoldable pub rules : Mode → List Rule
-- 13.2.6
rules Dispatcher =
    -- anything if no open elements: use current mode
    rule (Anything ∷ []) (is NoOpenElements ∷ []) (goes UseCurrentMode ∷ []) ∷
    -- anything if adjusted current node in HTML: use current mode
    rule (Anything ∷ []) (is AdjustedCurrentNodeInHtml ∷ []) (goes UseCurrentMode ∷ []) ∷
    -- start tag but mglyph malignmark if at a MathML text integration point: use current mode
    rule (StartTagBut (codes "mglyph" ∷ codes "malignmark" ∷ []) ∷ []) (is AtAMathmlTextIntegrationPoint ∷ []) (goes UseCurrentMode ∷ []) ∷
    -- character if at a MathML text integration point: use current mode
    rule (Character ∷ []) (is AtAMathmlTextIntegrationPoint ∷ []) (goes UseCurrentMode ∷ []) ∷
    -- <svg> if adjusted current node math:annotation-xml: use current mode
    rule (StartTagOf (codes "svg" ∷ []) ∷ []) (is (AdjustedCurrentNode (These (codes "math annotation-xml" ∷ []))) ∷
    []) (goes UseCurrentMode ∷ []) ∷
    -- any start tag if at an HTML integration point: use current mode
    rule (AnyStartTag ∷ []) (is AtAnHtmlIntegrationPoint ∷ []) (goes UseCurrentMode ∷ []) ∷
    -- character if at an HTML integration point: use current mode
    rule (Character ∷ []) (is AtAnHtmlIntegrationPoint ∷ []) (goes UseCurrentMode ∷ []) ∷
    -- end of file: use current mode
    rule (EndOfFile ∷ []) [] (goes UseCurrentMode ∷ []) ∷
    -- anything: use "foreign content"
    rule (Anything ∷ []) [] (goes (Use ForeignContent) ∷ []) ∷ []
-- 13.2.6.4.1
rules Initial =
    -- white space: ignore
    rule (WhiteSpace ∷ []) [] ([]) ∷
    -- comment: insert comment in document
    rule (Comment ∷ []) [] (does InsertCommentInDocument [] ∷ []) ∷
    -- doctype: append doctype, set quirks by doctype, switch to "before html"
    rule (Doctype ∷ []) [] (does AppendDoctype [] ∷ does SetQuirksByDoctype [] ∷ does (SwitchTo BeforeHtml) [] ∷ []) ∷
    -- anything else: set quirks, switch to "before html", reprocess
    rule (Anything ∷ []) [] (does SetQuirks [] ∷ does (SwitchTo BeforeHtml) [] ∷ goes Reprocess ∷ []) ∷ []
-- 13.2.6.4.2
rules BeforeHtml =
    -- doctype: ignore
    rule (Doctype ∷ []) [] ([]) ∷
    -- comment: insert comment in document
    rule (Comment ∷ []) [] (does InsertCommentInDocument [] ∷ []) ∷
    -- white space: ignore
    rule (WhiteSpace ∷ []) [] ([]) ∷
    -- <html>: insert root element, switch to "before head"
    rule (StartTagOf (codes "html" ∷ []) ∷ []) [] (does InsertRootElement [] ∷ does (SwitchTo BeforeHead) [] ∷ []) ∷
    -- </head body html br>: as anything else
    rule (EndTagOf (codes "head" ∷ codes "body" ∷ codes "html" ∷ codes "br" ∷ []) ∷ []) [] (does (InsertRootNamed (codes "html")) [] ∷
    does (SwitchTo BeforeHead) [] ∷ goes Reprocess ∷ []) ∷
    -- any end tag: ignore
    rule (AnyEndTag ∷ []) [] ([]) ∷
    -- anything else: insert root element html, switch to "before head", reprocess
    rule (Anything ∷ []) [] (does (InsertRootNamed (codes "html")) [] ∷ does (SwitchTo BeforeHead) [] ∷ goes Reprocess ∷ []) ∷ []
-- 13.2.6.4.3
rules BeforeHead =
    -- white space: ignore
    rule (WhiteSpace ∷ []) [] ([]) ∷
    -- comment: insert comment
    rule (Comment ∷ []) [] (does InsertComment [] ∷ []) ∷
    -- doctype: ignore
    rule (Doctype ∷ []) [] ([]) ∷
    -- <html>: use "in body"
    rule (StartTagOf (codes "html" ∷ []) ∷ []) [] (goes (Use InBody) ∷ []) ∷
    -- <head>: insert element, set head pointer, switch to "in head"
    rule (StartTagOf (codes "head" ∷ []) ∷ []) [] (does InsertElement [] ∷ does SetHeadPointer [] ∷ does (SwitchTo InHead) [] ∷ []) ∷
    -- </head body html br>: as anything else
    rule (EndTagOf (codes "head" ∷ codes "body" ∷ codes "html" ∷ codes "br" ∷ []) ∷ []) [] (does (InsertNamed (codes "head")) [] ∷
    does SetHeadPointer [] ∷ does (SwitchTo InHead) [] ∷ goes Reprocess ∷ []) ∷
    -- any end tag: ignore
    rule (AnyEndTag ∷ []) [] ([]) ∷
    -- anything else: insert element head, set head pointer, switch to "in head", reprocess
    rule (Anything ∷ []) [] (does (InsertNamed (codes "head")) [] ∷ does SetHeadPointer [] ∷ does (SwitchTo InHead) [] ∷ goes Reprocess ∷
    []) ∷ []
-- 13.2.6.4.4
rules InHead =
    -- white space: insert character
    rule (WhiteSpace ∷ []) [] (does InsertCharacter [] ∷ []) ∷
    -- comment: insert comment
    rule (Comment ∷ []) [] (does InsertComment [] ∷ []) ∷
    -- doctype: ignore
    rule (Doctype ∷ []) [] ([]) ∷
    -- <html>: use "in body"
    rule (StartTagOf (codes "html" ∷ []) ∷ []) [] (goes (Use InBody) ∷ []) ∷
    -- <base basefont bgsound link>: insert element, pop
    rule (StartTagOf (codes "base" ∷ codes "basefont" ∷ codes "bgsound" ∷ codes "link" ∷ []) ∷ []) [] (does InsertElement [] ∷ does Pop [] ∷
    []) ∷
    -- <meta>: insert element, pop
    rule (StartTagOf (codes "meta" ∷ []) ∷ []) [] (does InsertElement [] ∷ does Pop [] ∷ []) ∷
    -- <title>: insert element, tokenizer to RCDATA, keep mode, switch to "text"
    rule (StartTagOf (codes "title" ∷ []) ∷ []) [] (does InsertElement [] ∷ does (TokenizerTo RcdataText) [] ∷ does KeepMode [] ∷
    does (SwitchTo Text) [] ∷ []) ∷
    -- <noscript> if scripting: insert element, tokenizer to RAWTEXT, keep mode, switch to "text"
    rule (StartTagOf (codes "noscript" ∷ []) ∷ []) (is Scripting ∷ []) (does InsertElement [] ∷ does (TokenizerTo RawText) [] ∷
    does KeepMode [] ∷ does (SwitchTo Text) [] ∷ []) ∷
    -- <noframes style>: insert element, tokenizer to RAWTEXT, keep mode, switch to "text"
    rule (StartTagOf (codes "noframes" ∷ codes "style" ∷ []) ∷ []) [] (does InsertElement [] ∷ does (TokenizerTo RawText) [] ∷
    does KeepMode [] ∷ does (SwitchTo Text) [] ∷ []) ∷
    -- <noscript>: insert element, switch to "in head noscript"
    rule (StartTagOf (codes "noscript" ∷ []) ∷ []) [] (does InsertElement [] ∷ does (SwitchTo InHeadNoscript) [] ∷ []) ∷
    -- <script>: insert element, tokenizer to ScriptData, keep mode, switch to "text"
    rule (StartTagOf (codes "script" ∷ []) ∷ []) [] (does InsertElement [] ∷ does (TokenizerTo ScriptText) [] ∷ does KeepMode [] ∷
    does (SwitchTo Text) [] ∷ []) ∷
    -- </head>: pop, switch to "after head"
    rule (EndTagOf (codes "head" ∷ []) ∷ []) [] (does Pop [] ∷ does (SwitchTo AfterHead) [] ∷ []) ∷
    -- </body html br>: as anything else
    rule (EndTagOf (codes "body" ∷ codes "html" ∷ codes "br" ∷ []) ∷ []) [] (does Pop [] ∷ does (SwitchTo AfterHead) [] ∷ goes Reprocess ∷
    []) ∷
    -- <template>: list marker, frameset not ok, switch to "in template", push template mode "in template", insert element
    rule (StartTagOf (codes "template" ∷ []) ∷ []) [] (does ListMarker [] ∷ does FramesetNotOk [] ∷ does (SwitchTo InTemplate) [] ∷
    does (PushTemplateMode InTemplate) [] ∷ does InsertElement [] ∷ []) ∷
    -- </template> if not template open: ignore
    rule (EndTagOf (codes "template" ∷ []) ∷ []) (isnt TemplateOpen ∷ []) ([]) ∷
    -- </template>: all implied end tags, pop until template, clear list to marker, pop template mode, reset mode
    rule (EndTagOf (codes "template" ∷ []) ∷ []) [] (does AllImpliedEndTags [] ∷ does (PopUntil (These (codes "template" ∷ []))) [] ∷
    does ClearListToMarker [] ∷ does PopTemplateMode [] ∷ does ResetMode [] ∷ []) ∷
    -- <head> or any end tag: ignore
    rule (StartTagOf (codes "head" ∷ []) ∷ AnyEndTag ∷ []) [] ([]) ∷
    -- anything else: pop, switch to "after head", reprocess
    rule (Anything ∷ []) [] (does Pop [] ∷ does (SwitchTo AfterHead) [] ∷ goes Reprocess ∷ []) ∷ []
-- 13.2.6.4.5
rules InHeadNoscript =
    -- doctype: ignore
    rule (Doctype ∷ []) [] ([]) ∷
    -- <html>: use "in body"
    rule (StartTagOf (codes "html" ∷ []) ∷ []) [] (goes (Use InBody) ∷ []) ∷
    -- </noscript>: pop, switch to "in head"
    rule (EndTagOf (codes "noscript" ∷ []) ∷ []) [] (does Pop [] ∷ does (SwitchTo InHead) [] ∷ []) ∷
    -- white space or comment or <basefont bgsound link meta noframes style>: use "in head"
    rule (WhiteSpace ∷ Comment ∷ StartTagOf (codes "basefont" ∷ codes "bgsound" ∷ codes "link" ∷ codes "meta" ∷ codes "noframes" ∷
    codes "style" ∷ []) ∷ []) [] (goes (Use InHead) ∷ []) ∷
    -- </br>: as anything else
    rule (EndTagOf (codes "br" ∷ []) ∷ []) [] (does Pop [] ∷ does (SwitchTo InHead) [] ∷ goes Reprocess ∷ []) ∷
    -- <head noscript> or any end tag: ignore
    rule (StartTagOf (codes "head" ∷ codes "noscript" ∷ []) ∷ AnyEndTag ∷ []) [] ([]) ∷
    -- anything else: pop, switch to "in head", reprocess
    rule (Anything ∷ []) [] (does Pop [] ∷ does (SwitchTo InHead) [] ∷ goes Reprocess ∷ []) ∷ []
-- 13.2.6.4.6
rules AfterHead =
    -- white space: insert character
    rule (WhiteSpace ∷ []) [] (does InsertCharacter [] ∷ []) ∷
    -- comment: insert comment
    rule (Comment ∷ []) [] (does InsertComment [] ∷ []) ∷
    -- doctype: ignore
    rule (Doctype ∷ []) [] ([]) ∷
    -- <html>: use "in body"
    rule (StartTagOf (codes "html" ∷ []) ∷ []) [] (goes (Use InBody) ∷ []) ∷
    -- <body>: insert element, frameset not ok, switch to "in body"
    rule (StartTagOf (codes "body" ∷ []) ∷ []) [] (does InsertElement [] ∷ does FramesetNotOk [] ∷ does (SwitchTo InBody) [] ∷ []) ∷
    -- <frameset>: insert element, switch to "in frameset"
    rule (StartTagOf (codes "frameset" ∷ []) ∷ []) [] (does InsertElement [] ∷ does (SwitchTo InFrameset) [] ∷ []) ∷
    -- <base basefont bgsound link meta noframes script style template title>: push head pointer, use "in head", remove head from stack
    rule (StartTagOf (codes "base" ∷ codes "basefont" ∷ codes "bgsound" ∷ codes "link" ∷ codes "meta" ∷ codes "noframes" ∷ codes "script" ∷
    codes "style" ∷ codes "template" ∷ codes "title" ∷ []) ∷ []) [] (does PushHeadPointer [] ∷ goes (Use InHead) ∷
    does RemoveHeadFromStack [] ∷ []) ∷
    -- </template>: use "in head"
    rule (EndTagOf (codes "template" ∷ []) ∷ []) [] (goes (Use InHead) ∷ []) ∷
    -- </body html br>: as anything else
    rule (EndTagOf (codes "body" ∷ codes "html" ∷ codes "br" ∷ []) ∷ []) [] (does (InsertNamed (codes "body")) [] ∷
    does (SwitchTo InBody) [] ∷ goes Reprocess ∷ []) ∷
    -- <head> or any end tag: ignore
    rule (StartTagOf (codes "head" ∷ []) ∷ AnyEndTag ∷ []) [] ([]) ∷
    -- anything else: insert element body, switch to "in body", reprocess
    rule (Anything ∷ []) [] (does (InsertNamed (codes "body")) [] ∷ does (SwitchTo InBody) [] ∷ goes Reprocess ∷ []) ∷ []
-- 13.2.6.4.7
rules InBody =
    -- null: ignore
    rule (Null ∷ []) [] ([]) ∷
    -- white space: reconstruct formatting, insert character
    rule (WhiteSpace ∷ []) [] (does ReconstructFormatting [] ∷ does InsertCharacter [] ∷ []) ∷
    -- character: reconstruct formatting, insert character, frameset not ok
    rule (Character ∷ []) [] (does ReconstructFormatting [] ∷ does InsertCharacter [] ∷ does FramesetNotOk [] ∷ []) ∷
    -- comment: insert comment
    rule (Comment ∷ []) [] (does InsertComment [] ∷ []) ∷
    -- doctype: ignore
    rule (Doctype ∷ []) [] ([]) ∷
    -- <html> if template open: ignore
    rule (StartTagOf (codes "html" ∷ []) ∷ []) (is TemplateOpen ∷ []) ([]) ∷
    -- <html>: merge attributes into html
    rule (StartTagOf (codes "html" ∷ []) ∷ []) [] (does MergeAttributesIntoHtml [] ∷ []) ∷
    -- <base basefont bgsound link meta noframes script style template title> or </template>: use "in head"
    rule (StartTagOf (codes "base" ∷ codes "basefont" ∷ codes "bgsound" ∷ codes "link" ∷ codes "meta" ∷ codes "noframes" ∷ codes "script" ∷
    codes "style" ∷ codes "template" ∷ codes "title" ∷ []) ∷ EndTagOf (codes "template" ∷ []) ∷ []) [] (goes (Use InHead) ∷ []) ∷
    -- <body> if not second element body: ignore
    rule (StartTagOf (codes "body" ∷ []) ∷ []) (isnt (SecondElement (These (codes "body" ∷ []))) ∷ []) ([]) ∷
    -- <body> if template open: ignore
    rule (StartTagOf (codes "body" ∷ []) ∷ []) (is TemplateOpen ∷ []) ([]) ∷
    -- <body>: frameset not ok, merge attributes into body
    rule (StartTagOf (codes "body" ∷ []) ∷ []) [] (does FramesetNotOk [] ∷ does MergeAttributesIntoBody [] ∷ []) ∷
    -- <frameset> if not second element body: ignore
    rule (StartTagOf (codes "frameset" ∷ []) ∷ []) (isnt (SecondElement (These (codes "body" ∷ []))) ∷ []) ([]) ∷
    -- <frameset> if not frameset-ok: ignore
    rule (StartTagOf (codes "frameset" ∷ []) ∷ []) (isnt FramesetOk ∷ []) ([]) ∷
    -- <frameset>: remove body, pop to topmost, insert element, switch to "in frameset"
    rule (StartTagOf (codes "frameset" ∷ []) ∷ []) [] (does RemoveBody [] ∷ does PopToTopmost [] ∷ does InsertElement [] ∷
    does (SwitchTo InFrameset) [] ∷ []) ∷
    -- end of file if template mode set: use "in template"
    rule (EndOfFile ∷ []) (is TemplateModeSet ∷ []) (goes (Use InTemplate) ∷ []) ∷
    -- end of file: stop
    rule (EndOfFile ∷ []) [] (does Stop [] ∷ []) ∷
    -- </body> if not in scope body: ignore
    rule (EndTagOf (codes "body" ∷ []) ∷ []) (isnt (InScope Scope (These (codes "body" ∷ []))) ∷ []) ([]) ∷
    -- </body>: switch to "after body"
    rule (EndTagOf (codes "body" ∷ []) ∷ []) [] (does (SwitchTo AfterBody) [] ∷ []) ∷
    -- </html> if not in scope body: ignore
    rule (EndTagOf (codes "html" ∷ []) ∷ []) (isnt (InScope Scope (These (codes "body" ∷ []))) ∷ []) ([]) ∷
    -- </html>: switch to "after body", reprocess
    rule (EndTagOf (codes "html" ∷ []) ∷ []) [] (does (SwitchTo AfterBody) [] ∷ goes Reprocess ∷ []) ∷
    -- <address article aside blockquote center details dialog dir div dl fieldset figcaption figure footer header hgroup main menu nav ol p
    --    search section summary ul>: close p, insert element
    rule (StartTagOf (codes "address" ∷ codes "article" ∷ codes "aside" ∷ codes "blockquote" ∷ codes "center" ∷ codes "details" ∷
    codes "dialog" ∷ codes "dir" ∷ codes "div" ∷ codes "dl" ∷ codes "fieldset" ∷ codes "figcaption" ∷ codes "figure" ∷ codes "footer" ∷
    codes "header" ∷ codes "hgroup" ∷ codes "main" ∷ codes "menu" ∷ codes "nav" ∷ codes "ol" ∷ codes "p" ∷ codes "search" ∷
    codes "section" ∷ codes "summary" ∷ codes "ul" ∷ []) ∷ []) [] (does CloseP [] ∷ does InsertElement [] ∷ []) ∷
    -- <$headings>: close p, pop if current node $headings, insert element
    rule (StartTagOf headings ∷ []) [] (does CloseP [] ∷ does Pop (is (CurrentNode (These headings)) ∷ []) ∷ does InsertElement [] ∷ []) ∷
    -- <pre listing>: close p, insert element, skip next line feed, frameset not ok
    rule (StartTagOf (codes "pre" ∷ codes "listing" ∷ []) ∷ []) [] (does CloseP [] ∷ does InsertElement [] ∷ does SkipNextLineFeed [] ∷
    does FramesetNotOk [] ∷ []) ∷
    -- <form> if form pointer set and not template open: ignore
    rule (StartTagOf (codes "form" ∷ []) ∷ []) (is FormPointerSet ∷ isnt TemplateOpen ∷ []) ([]) ∷
    -- <form>: close p, insert element, set form pointer if not template open
    rule (StartTagOf (codes "form" ∷ []) ∷ []) [] (does CloseP [] ∷ does InsertElement [] ∷ does SetFormPointer (isnt TemplateOpen ∷ []) ∷
    []) ∷
    -- <li>: frameset not ok, close items li, close p, insert element
    rule (StartTagOf (codes "li" ∷ []) ∷ []) [] (does FramesetNotOk [] ∷ does (CloseItems (codes "li" ∷ [])) [] ∷ does CloseP [] ∷
    does InsertElement [] ∷ []) ∷
    -- <dd dt>: frameset not ok, close items dd dt, close p, insert element
    rule (StartTagOf (codes "dd" ∷ codes "dt" ∷ []) ∷ []) [] (does FramesetNotOk [] ∷ does (CloseItems (codes "dd" ∷ codes "dt" ∷ [])) [] ∷
    does CloseP [] ∷ does InsertElement [] ∷ []) ∷
    -- <plaintext>: close p, insert element, tokenizer to PLAINTEXT
    rule (StartTagOf (codes "plaintext" ∷ []) ∷ []) [] (does CloseP [] ∷ does InsertElement [] ∷ does (TokenizerTo PlainText) [] ∷ []) ∷
    -- <button> if in scope button: implied end tags, pop until button, reconstruct formatting, insert element, frameset not ok
    rule (StartTagOf (codes "button" ∷ []) ∷ []) (is (InScope Scope (These (codes "button" ∷ []))) ∷ []) (does ImpliedEndTags [] ∷
    does (PopUntil (These (codes "button" ∷ []))) [] ∷ does ReconstructFormatting [] ∷ does InsertElement [] ∷ does FramesetNotOk [] ∷
    []) ∷
    -- <button>: reconstruct formatting, insert element, frameset not ok
    rule (StartTagOf (codes "button" ∷ []) ∷ []) [] (does ReconstructFormatting [] ∷ does InsertElement [] ∷ does FramesetNotOk [] ∷ []) ∷
    -- </address article aside blockquote button center details dialog dir div dl fieldset figcaption figure footer header hgroup listing
    --    main menu nav ol pre search section select summary ul> if not in scope own: ignore
    rule (EndTagOf (codes "address" ∷ codes "article" ∷ codes "aside" ∷ codes "blockquote" ∷ codes "button" ∷ codes "center" ∷
    codes "details" ∷ codes "dialog" ∷ codes "dir" ∷ codes "div" ∷ codes "dl" ∷ codes "fieldset" ∷ codes "figcaption" ∷ codes "figure" ∷
    codes "footer" ∷ codes "header" ∷ codes "hgroup" ∷ codes "listing" ∷ codes "main" ∷ codes "menu" ∷ codes "nav" ∷ codes "ol" ∷
    codes "pre" ∷ codes "search" ∷ codes "section" ∷ codes "select" ∷ codes "summary" ∷ codes "ul" ∷ []) ∷
    []) (isnt (InScope Scope Own) ∷ []) ([]) ∷
    -- </address article aside blockquote button center details dialog dir div dl fieldset figcaption figure footer header hgroup listing
    --    main menu nav ol pre search section select summary ul>: implied end tags, pop until own
    rule (EndTagOf (codes "address" ∷ codes "article" ∷ codes "aside" ∷ codes "blockquote" ∷ codes "button" ∷ codes "center" ∷
    codes "details" ∷ codes "dialog" ∷ codes "dir" ∷ codes "div" ∷ codes "dl" ∷ codes "fieldset" ∷ codes "figcaption" ∷ codes "figure" ∷
    codes "footer" ∷ codes "header" ∷ codes "hgroup" ∷ codes "listing" ∷ codes "main" ∷ codes "menu" ∷ codes "nav" ∷ codes "ol" ∷
    codes "pre" ∷ codes "search" ∷ codes "section" ∷ codes "select" ∷ codes "summary" ∷ codes "ul" ∷ []) ∷
    []) [] (does ImpliedEndTags [] ∷ does (PopUntil Own) [] ∷ []) ∷
    -- </form> if not template open: end form
    rule (EndTagOf (codes "form" ∷ []) ∷ []) (isnt TemplateOpen ∷ []) (does EndForm [] ∷ []) ∷
    -- </form> if not in scope form: ignore
    rule (EndTagOf (codes "form" ∷ []) ∷ []) (isnt (InScope Scope (These (codes "form" ∷ []))) ∷ []) ([]) ∷
    -- </form>: implied end tags, pop until form
    rule (EndTagOf (codes "form" ∷ []) ∷ []) [] (does ImpliedEndTags [] ∷ does (PopUntil (These (codes "form" ∷ []))) [] ∷ []) ∷
    -- </p>: insert element p if not in button scope p, close p
    rule (EndTagOf (codes "p" ∷ []) ∷ []) [] (does (InsertNamed (codes "p")) (isnt (InScope ButtonScope (These (codes "p" ∷ []))) ∷ []) ∷
    does CloseP [] ∷ []) ∷
    -- </li> if not in list item scope li: ignore
    rule (EndTagOf (codes "li" ∷ []) ∷ []) (isnt (InScope ListItemScope (These (codes "li" ∷ []))) ∷ []) ([]) ∷
    -- </li>: implied end tags but li, pop until li
    rule (EndTagOf (codes "li" ∷ []) ∷ []) [] (does (ImpliedEndTagsBut (These (codes "li" ∷ []))) [] ∷ does (PopUntil (These (codes "li" ∷
    []))) [] ∷ []) ∷
    -- </dd dt> if not in scope own: ignore
    rule (EndTagOf (codes "dd" ∷ codes "dt" ∷ []) ∷ []) (isnt (InScope Scope Own) ∷ []) ([]) ∷
    -- </dd dt>: implied end tags but own, pop until own
    rule (EndTagOf (codes "dd" ∷ codes "dt" ∷ []) ∷ []) [] (does (ImpliedEndTagsBut Own) [] ∷ does (PopUntil Own) [] ∷ []) ∷
    -- </$headings> if not in scope $headings: ignore
    rule (EndTagOf headings ∷ []) (isnt (InScope Scope (These headings)) ∷ []) ([]) ∷
    -- </$headings>: implied end tags, pop until $headings
    rule (EndTagOf headings ∷ []) [] (does ImpliedEndTags [] ∷ does (PopUntil (These headings)) [] ∷ []) ∷
    -- </sarcasm>: any other end tag
    rule (EndTagOf (codes "sarcasm" ∷ []) ∷ []) [] (does AnyOtherEndTag [] ∷ []) ∷
    -- <a> if listed a: find listed a, adoption agency, drop found, reconstruct formatting, insert element, list element
    rule (StartTagOf (codes "a" ∷ []) ∷ []) (is (Listed (These (codes "a" ∷ []))) ∷ []) (does (FindListed (These (codes "a" ∷ []))) [] ∷
    does AdoptionAgency [] ∷ does DropFound [] ∷ does ReconstructFormatting [] ∷ does InsertElement [] ∷ does ListElement [] ∷ []) ∷
    -- <a>: reconstruct formatting, insert element, list element
    rule (StartTagOf (codes "a" ∷ []) ∷ []) [] (does ReconstructFormatting [] ∷ does InsertElement [] ∷ does ListElement [] ∷ []) ∷
    -- <b big code em font i s small strike strong tt u>: reconstruct formatting, insert element, list element
    rule (StartTagOf (codes "b" ∷ codes "big" ∷ codes "code" ∷ codes "em" ∷ codes "font" ∷ codes "i" ∷ codes "s" ∷ codes "small" ∷
    codes "strike" ∷ codes "strong" ∷ codes "tt" ∷ codes "u" ∷ []) ∷ []) [] (does ReconstructFormatting [] ∷ does InsertElement [] ∷
    does ListElement [] ∷ []) ∷
    -- <nobr>: reconstruct formatting, adoption agency if in scope nobr, reconstruct formatting, insert element, list element
    rule (StartTagOf (codes "nobr" ∷ []) ∷ []) [] (does ReconstructFormatting [] ∷
    does AdoptionAgency (is (InScope Scope (These (codes "nobr" ∷ []))) ∷ []) ∷ does ReconstructFormatting [] ∷ does InsertElement [] ∷
    does ListElement [] ∷ []) ∷
    -- </a b big code em font i nobr s small strike strong tt u>: adoption agency
    rule (EndTagOf (codes "a" ∷ codes "b" ∷ codes "big" ∷ codes "code" ∷ codes "em" ∷ codes "font" ∷ codes "i" ∷ codes "nobr" ∷ codes "s" ∷
    codes "small" ∷ codes "strike" ∷ codes "strong" ∷ codes "tt" ∷ codes "u" ∷ []) ∷ []) [] (does AdoptionAgency [] ∷ []) ∷
    -- <applet marquee object>: reconstruct formatting, insert element, list marker, frameset not ok
    rule (StartTagOf (codes "applet" ∷ codes "marquee" ∷ codes "object" ∷ []) ∷ []) [] (does ReconstructFormatting [] ∷
    does InsertElement [] ∷ does ListMarker [] ∷ does FramesetNotOk [] ∷ []) ∷
    -- </applet marquee object> if not in scope own: ignore
    rule (EndTagOf (codes "applet" ∷ codes "marquee" ∷ codes "object" ∷ []) ∷ []) (isnt (InScope Scope Own) ∷ []) ([]) ∷
    -- </applet marquee object>: implied end tags, pop until own, clear list to marker
    rule (EndTagOf (codes "applet" ∷ codes "marquee" ∷ codes "object" ∷ []) ∷ []) [] (does ImpliedEndTags [] ∷ does (PopUntil Own) [] ∷
    does ClearListToMarker [] ∷ []) ∷
    -- <table>: close p if not quirks, insert element, frameset not ok, switch to "in table"
    rule (StartTagOf (codes "table" ∷ []) ∷ []) [] (does CloseP (isnt Quirks ∷ []) ∷ does InsertElement [] ∷ does FramesetNotOk [] ∷
    does (SwitchTo InTable) [] ∷ []) ∷
    -- </br>: reconstruct formatting, insert element br, pop, frameset not ok
    rule (EndTagOf (codes "br" ∷ []) ∷ []) [] (does ReconstructFormatting [] ∷ does (InsertNamed (codes "br")) [] ∷ does Pop [] ∷
    does FramesetNotOk [] ∷ []) ∷
    -- <area br embed img keygen wbr>: reconstruct formatting, insert element, pop, frameset not ok
    rule (StartTagOf (codes "area" ∷ codes "br" ∷ codes "embed" ∷ codes "img" ∷ codes "keygen" ∷ codes "wbr" ∷ []) ∷
    []) [] (does ReconstructFormatting [] ∷ does InsertElement [] ∷ does Pop [] ∷ does FramesetNotOk [] ∷ []) ∷
    -- <input> if context select: ignore
    rule (StartTagOf (codes "input" ∷ []) ∷ []) (is (Context (These (codes "select" ∷ []))) ∷ []) ([]) ∷
    -- <input>: pop until select if in scope select, reconstruct formatting, insert element, pop, frameset not ok if not attribute type
    --    hidden
    rule (StartTagOf (codes "input" ∷ []) ∷ []) [] (does (PopUntil (These (codes "select" ∷
    []))) (is (InScope Scope (These (codes "select" ∷ []))) ∷ []) ∷ does ReconstructFormatting [] ∷ does InsertElement [] ∷
    does Pop [] ∷ does FramesetNotOk (isnt AttributeTypeHidden ∷ []) ∷ []) ∷
    -- <param source track>: insert element, pop
    rule (StartTagOf (codes "param" ∷ codes "source" ∷ codes "track" ∷ []) ∷ []) [] (does InsertElement [] ∷ does Pop [] ∷ []) ∷
    -- <hr>: close p, implied end tags if in scope select, insert element, pop, frameset not ok
    rule (StartTagOf (codes "hr" ∷ []) ∷ []) [] (does CloseP [] ∷ does ImpliedEndTags (is (InScope Scope (These (codes "select" ∷ []))) ∷
    []) ∷ does InsertElement [] ∷ does Pop [] ∷ does FramesetNotOk [] ∷ []) ∷
    -- <image>: rename img, reprocess
    rule (StartTagOf (codes "image" ∷ []) ∷ []) [] (does (Rename (codes "img")) [] ∷ goes Reprocess ∷ []) ∷
    -- <textarea>: insert element, skip next line feed, tokenizer to RCDATA, keep mode, frameset not ok, switch to "text"
    rule (StartTagOf (codes "textarea" ∷ []) ∷ []) [] (does InsertElement [] ∷ does SkipNextLineFeed [] ∷ does (TokenizerTo RcdataText) [] ∷
    does KeepMode [] ∷ does FramesetNotOk [] ∷ does (SwitchTo Text) [] ∷ []) ∷
    -- <xmp>: close p, reconstruct formatting, frameset not ok, insert element, tokenizer to RAWTEXT, keep mode, switch to "text"
    rule (StartTagOf (codes "xmp" ∷ []) ∷ []) [] (does CloseP [] ∷ does ReconstructFormatting [] ∷ does FramesetNotOk [] ∷
    does InsertElement [] ∷ does (TokenizerTo RawText) [] ∷ does KeepMode [] ∷ does (SwitchTo Text) [] ∷ []) ∷
    -- <iframe>: frameset not ok, insert element, tokenizer to RAWTEXT, keep mode, switch to "text"
    rule (StartTagOf (codes "iframe" ∷ []) ∷ []) [] (does FramesetNotOk [] ∷ does InsertElement [] ∷ does (TokenizerTo RawText) [] ∷
    does KeepMode [] ∷ does (SwitchTo Text) [] ∷ []) ∷
    -- <noembed>: insert element, tokenizer to RAWTEXT, keep mode, switch to "text"
    rule (StartTagOf (codes "noembed" ∷ []) ∷ []) [] (does InsertElement [] ∷ does (TokenizerTo RawText) [] ∷ does KeepMode [] ∷
    does (SwitchTo Text) [] ∷ []) ∷
    -- <noscript> if scripting: insert element, tokenizer to RAWTEXT, keep mode, switch to "text"
    rule (StartTagOf (codes "noscript" ∷ []) ∷ []) (is Scripting ∷ []) (does InsertElement [] ∷ does (TokenizerTo RawText) [] ∷
    does KeepMode [] ∷ does (SwitchTo Text) [] ∷ []) ∷
    -- <select> if context select: ignore
    rule (StartTagOf (codes "select" ∷ []) ∷ []) (is (Context (These (codes "select" ∷ []))) ∷ []) ([]) ∷
    -- <select> if in scope select: pop until select
    rule (StartTagOf (codes "select" ∷ []) ∷ []) (is (InScope Scope (These (codes "select" ∷ []))) ∷
    []) (does (PopUntil (These (codes "select" ∷ []))) [] ∷ []) ∷
    -- <select>: reconstruct formatting, insert element, frameset not ok
    rule (StartTagOf (codes "select" ∷ []) ∷ []) [] (does ReconstructFormatting [] ∷ does InsertElement [] ∷ does FramesetNotOk [] ∷ []) ∷
    -- <option> if in scope select: implied end tags but optgroup, reconstruct formatting, insert element
    rule (StartTagOf (codes "option" ∷ []) ∷ []) (is (InScope Scope (These (codes "select" ∷ []))) ∷
    []) (does (ImpliedEndTagsBut (These (codes "optgroup" ∷ []))) [] ∷ does ReconstructFormatting [] ∷ does InsertElement [] ∷ []) ∷
    -- <optgroup> if in scope select: implied end tags, reconstruct formatting, insert element
    rule (StartTagOf (codes "optgroup" ∷ []) ∷ []) (is (InScope Scope (These (codes "select" ∷ []))) ∷ []) (does ImpliedEndTags [] ∷
    does ReconstructFormatting [] ∷ does InsertElement [] ∷ []) ∷
    -- <optgroup option>: pop if current node option, reconstruct formatting, insert element
    rule (StartTagOf (codes "optgroup" ∷ codes "option" ∷ []) ∷ []) [] (does Pop (is (CurrentNode (These (codes "option" ∷ []))) ∷ []) ∷
    does ReconstructFormatting [] ∷ does InsertElement [] ∷ []) ∷
    -- <rb rtc>: implied end tags if in scope ruby, insert element
    rule (StartTagOf (codes "rb" ∷ codes "rtc" ∷ []) ∷ []) [] (does ImpliedEndTags (is (InScope Scope (These (codes "ruby" ∷ []))) ∷ []) ∷
    does InsertElement [] ∷ []) ∷
    -- <rp rt>: implied end tags but rtc if in scope ruby, insert element
    rule (StartTagOf (codes "rp" ∷ codes "rt" ∷ []) ∷ []) [] (does (ImpliedEndTagsBut (These (codes "rtc" ∷
    []))) (is (InScope Scope (These (codes "ruby" ∷ []))) ∷ []) ∷ does InsertElement [] ∷ []) ∷
    -- <math>: reconstruct formatting, adjust MathML attributes, adjust foreign attributes, insert MathML element, pop if self-closing
    rule (StartTagOf (codes "math" ∷ []) ∷ []) [] (does ReconstructFormatting [] ∷ does AdjustMathmlAttributes [] ∷
    does AdjustForeignAttributes [] ∷ does InsertMathmlElement [] ∷ does Pop (is SelfClosing ∷ []) ∷ []) ∷
    -- <svg>: reconstruct formatting, adjust SVG attributes, adjust foreign attributes, insert SVG element, pop if self-closing
    rule (StartTagOf (codes "svg" ∷ []) ∷ []) [] (does ReconstructFormatting [] ∷ does AdjustSvgAttributes [] ∷
    does AdjustForeignAttributes [] ∷ does InsertSvgElement [] ∷ does Pop (is SelfClosing ∷ []) ∷ []) ∷
    -- <caption col colgroup frame head tbody td tfoot th thead tr>: ignore
    rule (StartTagOf (codes "caption" ∷ codes "col" ∷ codes "colgroup" ∷ codes "frame" ∷ codes "head" ∷ codes "tbody" ∷ codes "td" ∷
    codes "tfoot" ∷ codes "th" ∷ codes "thead" ∷ codes "tr" ∷ []) ∷ []) [] ([]) ∷
    -- any start tag: reconstruct formatting, insert element
    rule (AnyStartTag ∷ []) [] (does ReconstructFormatting [] ∷ does InsertElement [] ∷ []) ∷
    -- any end tag: any other end tag
    rule (AnyEndTag ∷ []) [] (does AnyOtherEndTag [] ∷ []) ∷ []
-- 13.2.6.4.8
rules Text =
    -- character: insert character
    rule (Character ∷ []) [] (does InsertCharacter [] ∷ []) ∷
    -- end of file: pop, switch back, reprocess
    rule (EndOfFile ∷ []) [] (does Pop [] ∷ does SwitchBack [] ∷ goes Reprocess ∷ []) ∷
    -- </script>: pop, switch back
    rule (EndTagOf (codes "script" ∷ []) ∷ []) [] (does Pop [] ∷ does SwitchBack [] ∷ []) ∷
    -- any end tag: pop, switch back
    rule (AnyEndTag ∷ []) [] (does Pop [] ∷ does SwitchBack [] ∷ []) ∷ []
-- 13.2.6.4.9
rules InTable =
    -- character if current node table tbody template tfoot thead tr: empty pending, keep mode, switch to "in table text", reprocess
    rule (Character ∷ []) (is (CurrentNode (These (codes "table" ∷ codes "tbody" ∷ codes "template" ∷ codes "tfoot" ∷ codes "thead" ∷
    codes "tr" ∷ []))) ∷ []) (does EmptyPending [] ∷ does KeepMode [] ∷ does (SwitchTo InTableText) [] ∷ goes Reprocess ∷ []) ∷
    -- comment: insert comment
    rule (Comment ∷ []) [] (does InsertComment [] ∷ []) ∷
    -- doctype: ignore
    rule (Doctype ∷ []) [] ([]) ∷
    -- <caption>: pop up to table template html, list marker, insert element, switch to "in caption"
    rule (StartTagOf (codes "caption" ∷ []) ∷ []) [] (does (PopUpTo (These table_context)) [] ∷ does ListMarker [] ∷ does InsertElement [] ∷
    does (SwitchTo InCaption) [] ∷ []) ∷
    -- <colgroup>: pop up to table template html, insert element, switch to "in column group"
    rule (StartTagOf (codes "colgroup" ∷ []) ∷ []) [] (does (PopUpTo (These table_context)) [] ∷ does InsertElement [] ∷
    does (SwitchTo InColumnGroup) [] ∷ []) ∷
    -- <col>: pop up to table template html, insert element colgroup, switch to "in column group", reprocess
    rule (StartTagOf (codes "col" ∷ []) ∷ []) [] (does (PopUpTo (These table_context)) [] ∷ does (InsertNamed (codes "colgroup")) [] ∷
    does (SwitchTo InColumnGroup) [] ∷ goes Reprocess ∷ []) ∷
    -- <tbody tfoot thead>: pop up to table template html, insert element, switch to "in table body"
    rule (StartTagOf (codes "tbody" ∷ codes "tfoot" ∷ codes "thead" ∷ []) ∷ []) [] (does (PopUpTo (These table_context)) [] ∷
    does InsertElement [] ∷ does (SwitchTo InTableBody) [] ∷ []) ∷
    -- <td th tr>: pop up to table template html, insert element tbody, switch to "in table body", reprocess
    rule (StartTagOf (codes "td" ∷ codes "th" ∷ codes "tr" ∷ []) ∷ []) [] (does (PopUpTo (These table_context)) [] ∷
    does (InsertNamed (codes "tbody")) [] ∷ does (SwitchTo InTableBody) [] ∷ goes Reprocess ∷ []) ∷
    -- <table> if not in table scope table: ignore
    rule (StartTagOf (codes "table" ∷ []) ∷ []) (isnt (InScope TableScope (These (codes "table" ∷ []))) ∷ []) ([]) ∷
    -- <table>: pop until table, reset mode, reprocess
    rule (StartTagOf (codes "table" ∷ []) ∷ []) [] (does (PopUntil (These (codes "table" ∷ []))) [] ∷ does ResetMode [] ∷ goes Reprocess ∷
    []) ∷
    -- </table> if not in table scope table: ignore
    rule (EndTagOf (codes "table" ∷ []) ∷ []) (isnt (InScope TableScope (These (codes "table" ∷ []))) ∷ []) ([]) ∷
    -- </table>: pop until table, reset mode
    rule (EndTagOf (codes "table" ∷ []) ∷ []) [] (does (PopUntil (These (codes "table" ∷ []))) [] ∷ does ResetMode [] ∷ []) ∷
    -- </body caption col colgroup html tbody td tfoot th thead tr>: ignore
    rule (EndTagOf (codes "body" ∷ codes "caption" ∷ codes "col" ∷ codes "colgroup" ∷ codes "html" ∷ codes "tbody" ∷ codes "td" ∷
    codes "tfoot" ∷ codes "th" ∷ codes "thead" ∷ codes "tr" ∷ []) ∷ []) [] ([]) ∷
    -- <style script template> or </template>: use "in head"
    rule (StartTagOf (codes "style" ∷ codes "script" ∷ codes "template" ∷ []) ∷ EndTagOf (codes "template" ∷ []) ∷
    []) [] (goes (Use InHead) ∷ []) ∷
    -- <input> if attribute type hidden: insert element, pop
    rule (StartTagOf (codes "input" ∷ []) ∷ []) (is AttributeTypeHidden ∷ []) (does InsertElement [] ∷ does Pop [] ∷ []) ∷
    -- <form> if template open: ignore
    rule (StartTagOf (codes "form" ∷ []) ∷ []) (is TemplateOpen ∷ []) ([]) ∷
    -- <form> if form pointer set: ignore
    rule (StartTagOf (codes "form" ∷ []) ∷ []) (is FormPointerSet ∷ []) ([]) ∷
    -- <form>: insert element, set form pointer, pop
    rule (StartTagOf (codes "form" ∷ []) ∷ []) [] (does InsertElement [] ∷ does SetFormPointer [] ∷ does Pop [] ∷ []) ∷
    -- end of file: use "in body"
    rule (EndOfFile ∷ []) [] (goes (Use InBody) ∷ []) ∷
    -- anything else: foster on, use "in body", foster off
    rule (Anything ∷ []) [] (does FosterOn [] ∷ goes (Use InBody) ∷ does FosterOff [] ∷ []) ∷ []
-- 13.2.6.4.10
rules InTableText =
    -- null: ignore
    rule (Null ∷ []) [] ([]) ∷
    -- character: add to pending
    rule (Character ∷ []) [] (does AddToPending [] ∷ []) ∷
    -- anything else if pending all white space: insert pending, switch back, reprocess
    rule (Anything ∷ []) (is PendingAllWhiteSpace ∷ []) (does InsertPending [] ∷ does SwitchBack [] ∷ goes Reprocess ∷ []) ∷
    -- anything else: foster on, use "in body" for each pending, foster off, switch back, reprocess
    rule (Anything ∷ []) [] (does FosterOn [] ∷ goes (UseForEachPending InBody) ∷ does FosterOff [] ∷ does SwitchBack [] ∷ goes Reprocess ∷
    []) ∷ []
-- 13.2.6.4.11
rules InCaption =
    -- </caption> if not in table scope caption: ignore
    rule (EndTagOf (codes "caption" ∷ []) ∷ []) (isnt (InScope TableScope (These (codes "caption" ∷ []))) ∷ []) ([]) ∷
    -- </caption>: implied end tags, pop until caption, clear list to marker, switch to "in table"
    rule (EndTagOf (codes "caption" ∷ []) ∷ []) [] (does ImpliedEndTags [] ∷ does (PopUntil (These (codes "caption" ∷ []))) [] ∷
    does ClearListToMarker [] ∷ does (SwitchTo InTable) [] ∷ []) ∷
    -- <caption col colgroup tbody td tfoot th thead tr> or </table> if not in table scope caption: ignore
    rule (StartTagOf (codes "caption" ∷ codes "col" ∷ codes "colgroup" ∷ codes "tbody" ∷ codes "td" ∷ codes "tfoot" ∷ codes "th" ∷
    codes "thead" ∷ codes "tr" ∷ []) ∷ EndTagOf (codes "table" ∷ []) ∷ []) (isnt (InScope TableScope (These (codes "caption" ∷ []))) ∷
    []) ([]) ∷
    -- <caption col colgroup tbody td tfoot th thead tr> or </table>: implied end tags, pop until caption, clear list to marker, switch to
    --    "in table", reprocess
    rule (StartTagOf (codes "caption" ∷ codes "col" ∷ codes "colgroup" ∷ codes "tbody" ∷ codes "td" ∷ codes "tfoot" ∷ codes "th" ∷
    codes "thead" ∷ codes "tr" ∷ []) ∷ EndTagOf (codes "table" ∷ []) ∷ []) [] (does ImpliedEndTags [] ∷
    does (PopUntil (These (codes "caption" ∷ []))) [] ∷ does ClearListToMarker [] ∷ does (SwitchTo InTable) [] ∷ goes Reprocess ∷ []) ∷
    -- </body col colgroup html tbody td tfoot th thead tr>: ignore
    rule (EndTagOf (codes "body" ∷ codes "col" ∷ codes "colgroup" ∷ codes "html" ∷ codes "tbody" ∷ codes "td" ∷ codes "tfoot" ∷ codes "th" ∷
    codes "thead" ∷ codes "tr" ∷ []) ∷ []) [] ([]) ∷
    -- anything else: use "in body"
    rule (Anything ∷ []) [] (goes (Use InBody) ∷ []) ∷ []
-- 13.2.6.4.12
rules InColumnGroup =
    -- white space: insert character
    rule (WhiteSpace ∷ []) [] (does InsertCharacter [] ∷ []) ∷
    -- comment: insert comment
    rule (Comment ∷ []) [] (does InsertComment [] ∷ []) ∷
    -- doctype: ignore
    rule (Doctype ∷ []) [] ([]) ∷
    -- <html>: use "in body"
    rule (StartTagOf (codes "html" ∷ []) ∷ []) [] (goes (Use InBody) ∷ []) ∷
    -- <col>: insert element, pop
    rule (StartTagOf (codes "col" ∷ []) ∷ []) [] (does InsertElement [] ∷ does Pop [] ∷ []) ∷
    -- </colgroup> if not current node colgroup: ignore
    rule (EndTagOf (codes "colgroup" ∷ []) ∷ []) (isnt (CurrentNode (These (codes "colgroup" ∷ []))) ∷ []) ([]) ∷
    -- </colgroup>: pop, switch to "in table"
    rule (EndTagOf (codes "colgroup" ∷ []) ∷ []) [] (does Pop [] ∷ does (SwitchTo InTable) [] ∷ []) ∷
    -- </col>: ignore
    rule (EndTagOf (codes "col" ∷ []) ∷ []) [] ([]) ∷
    -- <template> or </template>: use "in head"
    rule (StartTagOf (codes "template" ∷ []) ∷ EndTagOf (codes "template" ∷ []) ∷ []) [] (goes (Use InHead) ∷ []) ∷
    -- end of file: use "in body"
    rule (EndOfFile ∷ []) [] (goes (Use InBody) ∷ []) ∷
    -- anything else if not current node colgroup: ignore
    rule (Anything ∷ []) (isnt (CurrentNode (These (codes "colgroup" ∷ []))) ∷ []) ([]) ∷
    -- anything else: pop, switch to "in table", reprocess
    rule (Anything ∷ []) [] (does Pop [] ∷ does (SwitchTo InTable) [] ∷ goes Reprocess ∷ []) ∷ []
-- 13.2.6.4.13
rules InTableBody =
    -- <tr>: pop up to tbody tfoot thead template html, insert element, switch to "in row"
    rule (StartTagOf (codes "tr" ∷ []) ∷ []) [] (does (PopUpTo (These table_body_context)) [] ∷ does InsertElement [] ∷
    does (SwitchTo InRow) [] ∷ []) ∷
    -- <th td>: pop up to tbody tfoot thead template html, insert element tr, switch to "in row", reprocess
    rule (StartTagOf (codes "th" ∷ codes "td" ∷ []) ∷ []) [] (does (PopUpTo (These table_body_context)) [] ∷
    does (InsertNamed (codes "tr")) [] ∷ does (SwitchTo InRow) [] ∷ goes Reprocess ∷ []) ∷
    -- </tbody tfoot thead> if not in table scope own: ignore
    rule (EndTagOf (codes "tbody" ∷ codes "tfoot" ∷ codes "thead" ∷ []) ∷ []) (isnt (InScope TableScope Own) ∷ []) ([]) ∷
    -- </tbody tfoot thead>: pop up to tbody tfoot thead template html, pop, switch to "in table"
    rule (EndTagOf (codes "tbody" ∷ codes "tfoot" ∷ codes "thead" ∷ []) ∷ []) [] (does (PopUpTo (These table_body_context)) [] ∷
    does Pop [] ∷ does (SwitchTo InTable) [] ∷ []) ∷
    -- <caption col colgroup tbody tfoot thead> or </table> if not in table scope tbody thead tfoot: ignore
    rule (StartTagOf (codes "caption" ∷ codes "col" ∷ codes "colgroup" ∷ codes "tbody" ∷ codes "tfoot" ∷ codes "thead" ∷ []) ∷
    EndTagOf (codes "table" ∷ []) ∷ []) (isnt (InScope TableScope (These (codes "tbody" ∷ codes "thead" ∷ codes "tfoot" ∷ []))) ∷
    []) ([]) ∷
    -- <caption col colgroup tbody tfoot thead> or </table>: pop up to tbody tfoot thead template html, pop, switch to "in table", reprocess
    rule (StartTagOf (codes "caption" ∷ codes "col" ∷ codes "colgroup" ∷ codes "tbody" ∷ codes "tfoot" ∷ codes "thead" ∷ []) ∷
    EndTagOf (codes "table" ∷ []) ∷ []) [] (does (PopUpTo (These table_body_context)) [] ∷ does Pop [] ∷ does (SwitchTo InTable) [] ∷
    goes Reprocess ∷ []) ∷
    -- </body caption col colgroup html td th tr>: ignore
    rule (EndTagOf (codes "body" ∷ codes "caption" ∷ codes "col" ∷ codes "colgroup" ∷ codes "html" ∷ codes "td" ∷ codes "th" ∷ codes "tr" ∷
    []) ∷ []) [] ([]) ∷
    -- anything else: use "in table"
    rule (Anything ∷ []) [] (goes (Use InTable) ∷ []) ∷ []
-- 13.2.6.4.14
rules InRow =
    -- <th td>: pop up to tr template html, insert element, switch to "in cell", list marker
    rule (StartTagOf (codes "th" ∷ codes "td" ∷ []) ∷ []) [] (does (PopUpTo (These table_row_context)) [] ∷ does InsertElement [] ∷
    does (SwitchTo InCell) [] ∷ does ListMarker [] ∷ []) ∷
    -- </tr> if not in table scope tr: ignore
    rule (EndTagOf (codes "tr" ∷ []) ∷ []) (isnt (InScope TableScope (These (codes "tr" ∷ []))) ∷ []) ([]) ∷
    -- </tr>: pop up to tr template html, pop, switch to "in table body"
    rule (EndTagOf (codes "tr" ∷ []) ∷ []) [] (does (PopUpTo (These table_row_context)) [] ∷ does Pop [] ∷ does (SwitchTo InTableBody) [] ∷
    []) ∷
    -- <caption col colgroup tbody tfoot thead tr> or </table> if not in table scope tr: ignore
    rule (StartTagOf (codes "caption" ∷ codes "col" ∷ codes "colgroup" ∷ codes "tbody" ∷ codes "tfoot" ∷ codes "thead" ∷ codes "tr" ∷ []) ∷
    EndTagOf (codes "table" ∷ []) ∷ []) (isnt (InScope TableScope (These (codes "tr" ∷ []))) ∷ []) ([]) ∷
    -- <caption col colgroup tbody tfoot thead tr> or </table>: pop up to tr template html, pop, switch to "in table body", reprocess
    rule (StartTagOf (codes "caption" ∷ codes "col" ∷ codes "colgroup" ∷ codes "tbody" ∷ codes "tfoot" ∷ codes "thead" ∷ codes "tr" ∷ []) ∷
    EndTagOf (codes "table" ∷ []) ∷ []) [] (does (PopUpTo (These table_row_context)) [] ∷ does Pop [] ∷ does (SwitchTo InTableBody) [] ∷
    goes Reprocess ∷ []) ∷
    -- </tbody tfoot thead> if not in table scope own: ignore
    rule (EndTagOf (codes "tbody" ∷ codes "tfoot" ∷ codes "thead" ∷ []) ∷ []) (isnt (InScope TableScope Own) ∷ []) ([]) ∷
    -- </tbody tfoot thead> if not in table scope tr: ignore
    rule (EndTagOf (codes "tbody" ∷ codes "tfoot" ∷ codes "thead" ∷ []) ∷ []) (isnt (InScope TableScope (These (codes "tr" ∷ []))) ∷
    []) ([]) ∷
    -- </tbody tfoot thead>: pop up to tr template html, pop, switch to "in table body", reprocess
    rule (EndTagOf (codes "tbody" ∷ codes "tfoot" ∷ codes "thead" ∷ []) ∷ []) [] (does (PopUpTo (These table_row_context)) [] ∷
    does Pop [] ∷ does (SwitchTo InTableBody) [] ∷ goes Reprocess ∷ []) ∷
    -- </body caption col colgroup html td th>: ignore
    rule (EndTagOf (codes "body" ∷ codes "caption" ∷ codes "col" ∷ codes "colgroup" ∷ codes "html" ∷ codes "td" ∷ codes "th" ∷ []) ∷
    []) [] ([]) ∷
    -- anything else: use "in table"
    rule (Anything ∷ []) [] (goes (Use InTable) ∷ []) ∷ []
-- 13.2.6.4.15
rules InCell =
    -- </td th> if not in table scope own: ignore
    rule (EndTagOf (codes "td" ∷ codes "th" ∷ []) ∷ []) (isnt (InScope TableScope Own) ∷ []) ([]) ∷
    -- </td th>: implied end tags, pop until own, clear list to marker, switch to "in row"
    rule (EndTagOf (codes "td" ∷ codes "th" ∷ []) ∷ []) [] (does ImpliedEndTags [] ∷ does (PopUntil Own) [] ∷ does ClearListToMarker [] ∷
    does (SwitchTo InRow) [] ∷ []) ∷
    -- <caption col colgroup tbody td tfoot th thead tr> if not in table scope td th: ignore
    rule (StartTagOf (codes "caption" ∷ codes "col" ∷ codes "colgroup" ∷ codes "tbody" ∷ codes "td" ∷ codes "tfoot" ∷ codes "th" ∷
    codes "thead" ∷ codes "tr" ∷ []) ∷ []) (isnt (InScope TableScope (These (codes "td" ∷ codes "th" ∷ []))) ∷ []) ([]) ∷
    -- <caption col colgroup tbody td tfoot th thead tr>: implied end tags, pop until td th, clear list to marker, switch to "in row",
    --    reprocess
    rule (StartTagOf (codes "caption" ∷ codes "col" ∷ codes "colgroup" ∷ codes "tbody" ∷ codes "td" ∷ codes "tfoot" ∷ codes "th" ∷
    codes "thead" ∷ codes "tr" ∷ []) ∷ []) [] (does ImpliedEndTags [] ∷ does (PopUntil (These (codes "td" ∷ codes "th" ∷ []))) [] ∷
    does ClearListToMarker [] ∷ does (SwitchTo InRow) [] ∷ goes Reprocess ∷ []) ∷
    -- </body caption col colgroup html>: ignore
    rule (EndTagOf (codes "body" ∷ codes "caption" ∷ codes "col" ∷ codes "colgroup" ∷ codes "html" ∷ []) ∷ []) [] ([]) ∷
    -- </table tbody tfoot thead tr> if not in table scope own: ignore
    rule (EndTagOf fostering_names ∷ []) (isnt (InScope TableScope Own) ∷ []) ([]) ∷
    -- </table tbody tfoot thead tr>: implied end tags, pop until td th, clear list to marker, switch to "in row", reprocess
    rule (EndTagOf fostering_names ∷ []) [] (does ImpliedEndTags [] ∷ does (PopUntil (These (codes "td" ∷ codes "th" ∷ []))) [] ∷
    does ClearListToMarker [] ∷ does (SwitchTo InRow) [] ∷ goes Reprocess ∷ []) ∷
    -- anything else: use "in body"
    rule (Anything ∷ []) [] (goes (Use InBody) ∷ []) ∷ []
-- 13.2.6.4.16
rules InTemplate =
    -- character or comment or doctype: use "in body"
    rule (Character ∷ Comment ∷ Doctype ∷ []) [] (goes (Use InBody) ∷ []) ∷
    -- <base basefont bgsound link meta noframes script style template title> or </template>: use "in head"
    rule (StartTagOf (codes "base" ∷ codes "basefont" ∷ codes "bgsound" ∷ codes "link" ∷ codes "meta" ∷ codes "noframes" ∷ codes "script" ∷
    codes "style" ∷ codes "template" ∷ codes "title" ∷ []) ∷ EndTagOf (codes "template" ∷ []) ∷ []) [] (goes (Use InHead) ∷ []) ∷
    -- <caption colgroup tbody tfoot thead>: pop template mode, push template mode "in table", switch to "in table", reprocess
    rule (StartTagOf (codes "caption" ∷ codes "colgroup" ∷ codes "tbody" ∷ codes "tfoot" ∷ codes "thead" ∷ []) ∷
    []) [] (does PopTemplateMode [] ∷ does (PushTemplateMode InTable) [] ∷ does (SwitchTo InTable) [] ∷ goes Reprocess ∷ []) ∷
    -- <col>: pop template mode, push template mode "in column group", switch to "in column group", reprocess
    rule (StartTagOf (codes "col" ∷ []) ∷ []) [] (does PopTemplateMode [] ∷ does (PushTemplateMode InColumnGroup) [] ∷
    does (SwitchTo InColumnGroup) [] ∷ goes Reprocess ∷ []) ∷
    -- <tr>: pop template mode, push template mode "in table body", switch to "in table body", reprocess
    rule (StartTagOf (codes "tr" ∷ []) ∷ []) [] (does PopTemplateMode [] ∷ does (PushTemplateMode InTableBody) [] ∷
    does (SwitchTo InTableBody) [] ∷ goes Reprocess ∷ []) ∷
    -- <td th>: pop template mode, push template mode "in row", switch to "in row", reprocess
    rule (StartTagOf (codes "td" ∷ codes "th" ∷ []) ∷ []) [] (does PopTemplateMode [] ∷ does (PushTemplateMode InRow) [] ∷
    does (SwitchTo InRow) [] ∷ goes Reprocess ∷ []) ∷
    -- any start tag: pop template mode, push template mode "in body", switch to "in body", reprocess
    rule (AnyStartTag ∷ []) [] (does PopTemplateMode [] ∷ does (PushTemplateMode InBody) [] ∷ does (SwitchTo InBody) [] ∷ goes Reprocess ∷
    []) ∷
    -- any end tag: ignore
    rule (AnyEndTag ∷ []) [] ([]) ∷
    -- end of file if not template open: stop
    rule (EndOfFile ∷ []) (isnt TemplateOpen ∷ []) (does Stop [] ∷ []) ∷
    -- end of file: pop until template, clear list to marker, pop template mode, reset mode, reprocess
    rule (EndOfFile ∷ []) [] (does (PopUntil (These (codes "template" ∷ []))) [] ∷ does ClearListToMarker [] ∷ does PopTemplateMode [] ∷
    does ResetMode [] ∷ goes Reprocess ∷ []) ∷ []
-- 13.2.6.4.17
rules AfterBody =
    -- white space: use "in body"
    rule (WhiteSpace ∷ []) [] (goes (Use InBody) ∷ []) ∷
    -- comment: insert comment in html
    rule (Comment ∷ []) [] (does InsertCommentInHtml [] ∷ []) ∷
    -- doctype: ignore
    rule (Doctype ∷ []) [] ([]) ∷
    -- <html>: use "in body"
    rule (StartTagOf (codes "html" ∷ []) ∷ []) [] (goes (Use InBody) ∷ []) ∷
    -- </html> if fragment: ignore
    rule (EndTagOf (codes "html" ∷ []) ∷ []) (is Fragment ∷ []) ([]) ∷
    -- </html>: switch to "after after body"
    rule (EndTagOf (codes "html" ∷ []) ∷ []) [] (does (SwitchTo AfterAfterBody) [] ∷ []) ∷
    -- end of file: stop
    rule (EndOfFile ∷ []) [] (does Stop [] ∷ []) ∷
    -- anything else: switch to "in body", reprocess
    rule (Anything ∷ []) [] (does (SwitchTo InBody) [] ∷ goes Reprocess ∷ []) ∷ []
-- 13.2.6.4.18
rules InFrameset =
    -- white space: insert character
    rule (WhiteSpace ∷ []) [] (does InsertCharacter [] ∷ []) ∷
    -- comment: insert comment
    rule (Comment ∷ []) [] (does InsertComment [] ∷ []) ∷
    -- doctype: ignore
    rule (Doctype ∷ []) [] ([]) ∷
    -- <html>: use "in body"
    rule (StartTagOf (codes "html" ∷ []) ∷ []) [] (goes (Use InBody) ∷ []) ∷
    -- <frameset>: insert element
    rule (StartTagOf (codes "frameset" ∷ []) ∷ []) [] (does InsertElement [] ∷ []) ∷
    -- </frameset> if current node is topmost: ignore
    rule (EndTagOf (codes "frameset" ∷ []) ∷ []) (is CurrentNodeIsTopmost ∷ []) ([]) ∷
    -- </frameset>: pop, switch to "after frameset" if not fragment and not current node frameset
    rule (EndTagOf (codes "frameset" ∷ []) ∷ []) [] (does Pop [] ∷ does (SwitchTo AfterFrameset) (isnt Fragment ∷
    isnt (CurrentNode (These (codes "frameset" ∷ []))) ∷ []) ∷ []) ∷
    -- <frame>: insert element, pop
    rule (StartTagOf (codes "frame" ∷ []) ∷ []) [] (does InsertElement [] ∷ does Pop [] ∷ []) ∷
    -- <noframes>: use "in head"
    rule (StartTagOf (codes "noframes" ∷ []) ∷ []) [] (goes (Use InHead) ∷ []) ∷
    -- end of file: stop
    rule (EndOfFile ∷ []) [] (does Stop [] ∷ []) ∷
    -- anything else: ignore
    rule (Anything ∷ []) [] ([]) ∷ []
-- 13.2.6.4.19
rules AfterFrameset =
    -- white space: insert character
    rule (WhiteSpace ∷ []) [] (does InsertCharacter [] ∷ []) ∷
    -- comment: insert comment
    rule (Comment ∷ []) [] (does InsertComment [] ∷ []) ∷
    -- doctype: ignore
    rule (Doctype ∷ []) [] ([]) ∷
    -- <html>: use "in body"
    rule (StartTagOf (codes "html" ∷ []) ∷ []) [] (goes (Use InBody) ∷ []) ∷
    -- </html>: switch to "after after frameset"
    rule (EndTagOf (codes "html" ∷ []) ∷ []) [] (does (SwitchTo AfterAfterFrameset) [] ∷ []) ∷
    -- <noframes>: use "in head"
    rule (StartTagOf (codes "noframes" ∷ []) ∷ []) [] (goes (Use InHead) ∷ []) ∷
    -- end of file: stop
    rule (EndOfFile ∷ []) [] (does Stop [] ∷ []) ∷
    -- anything else: ignore
    rule (Anything ∷ []) [] ([]) ∷ []
-- 13.2.6.4.20
rules AfterAfterBody =
    -- comment: insert comment in document
    rule (Comment ∷ []) [] (does InsertCommentInDocument [] ∷ []) ∷
    -- doctype or white space or <html>: use "in body"
    rule (Doctype ∷ WhiteSpace ∷ StartTagOf (codes "html" ∷ []) ∷ []) [] (goes (Use InBody) ∷ []) ∷
    -- end of file: stop
    rule (EndOfFile ∷ []) [] (does Stop [] ∷ []) ∷
    -- anything else: switch to "in body", reprocess
    rule (Anything ∷ []) [] (does (SwitchTo InBody) [] ∷ goes Reprocess ∷ []) ∷ []
-- 13.2.6.4.21
rules AfterAfterFrameset =
    -- comment: insert comment in document
    rule (Comment ∷ []) [] (does InsertCommentInDocument [] ∷ []) ∷
    -- doctype or white space or <html>: use "in body"
    rule (Doctype ∷ WhiteSpace ∷ StartTagOf (codes "html" ∷ []) ∷ []) [] (goes (Use InBody) ∷ []) ∷
    -- end of file: stop
    rule (EndOfFile ∷ []) [] (does Stop [] ∷ []) ∷
    -- <noframes>: use "in head"
    rule (StartTagOf (codes "noframes" ∷ []) ∷ []) [] (goes (Use InHead) ∷ []) ∷
    -- anything else: ignore
    rule (Anything ∷ []) [] ([]) ∷ []
-- 13.2.6.5
rules ForeignContent =
    -- null: insert U+FFFD
    rule (Null ∷ []) [] (does InsertReplacement [] ∷ []) ∷
    -- white space: insert character
    rule (WhiteSpace ∷ []) [] (does InsertCharacter [] ∷ []) ∷
    -- character: insert character, frameset not ok
    rule (Character ∷ []) [] (does InsertCharacter [] ∷ does FramesetNotOk [] ∷ []) ∷
    -- comment: insert comment
    rule (Comment ∷ []) [] (does InsertComment [] ∷ []) ∷
    -- doctype: ignore
    rule (Doctype ∷ []) [] ([]) ∷
    -- <$breakouts>: pop foreign elements, use current mode
    rule (StartTagOf breakouts ∷ []) [] (does PopForeignElements [] ∷ goes UseCurrentMode ∷ []) ∷
    -- <font> if any attribute color face size: pop foreign elements, use current mode
    rule (StartTagOf (codes "font" ∷ []) ∷ []) (is (AnyAttribute (codes "color" ∷ codes "face" ∷ codes "size" ∷ [])) ∷
    []) (does PopForeignElements [] ∷ goes UseCurrentMode ∷ []) ∷
    -- </br p>: pop foreign elements, use current mode
    rule (EndTagOf (codes "br" ∷ codes "p" ∷ []) ∷ []) [] (does PopForeignElements [] ∷ goes UseCurrentMode ∷ []) ∷
    -- any start tag if adjusted current node in MathML: adjust MathML attributes, adjust foreign attributes, insert MathML element, pop if
    --    self-closing
    rule (AnyStartTag ∷ []) (is AdjustedCurrentNodeInMathml ∷ []) (does AdjustMathmlAttributes [] ∷ does AdjustForeignAttributes [] ∷
    does InsertMathmlElement [] ∷ does Pop (is SelfClosing ∷ []) ∷ []) ∷
    -- any start tag: adjust SVG name, adjust SVG attributes, adjust foreign attributes, insert SVG element, pop if self-closing
    rule (AnyStartTag ∷ []) [] (does AdjustSvgName [] ∷ does AdjustSvgAttributes [] ∷ does AdjustForeignAttributes [] ∷
    does InsertSvgElement [] ∷ does Pop (is SelfClosing ∷ []) ∷ []) ∷
    -- </script> if current node svg:script: pop
    rule (EndTagOf (codes "script" ∷ []) ∷ []) (is (CurrentNode (These (codes "svg script" ∷ []))) ∷ []) (does Pop [] ∷ []) ∷
    -- any end tag if current node is topmost: ignore
    rule (AnyEndTag ∷ []) (is CurrentNodeIsTopmost ∷ []) ([]) ∷
    -- any end tag if own before HTML: pop until own in any case
    rule (AnyEndTag ∷ []) (is OwnBeforeHtml ∷ []) (does PopUntilOwnInAnyCase [] ∷ []) ∷
    -- any end tag: use current mode
    rule (AnyEndTag ∷ []) [] (goes UseCurrentMode ∷ []) ∷ []

-- reset the insertion mode appropriately, 13.2.4.1; for the topmost element of another name it is in body
abbrev pub resets : List Reset
resets =
    reset_to (codes "td" ∷ codes "th" ∷ []) NotTopmost InCell ∷
    reset_to (codes "tr" ∷ []) Always InRow ∷
    reset_to (codes "tbody" ∷ codes "thead" ∷ codes "tfoot" ∷ []) Always InTableBody ∷
    reset_to (codes "caption" ∷ []) Always InCaption ∷
    reset_to (codes "colgroup" ∷ []) Always InColumnGroup ∷
    reset_to (codes "table" ∷ []) Always InTable ∷
    reset_to_template_mode (codes "template" ∷ []) ∷
    reset_to (codes "head" ∷ []) NotTopmost InHead ∷
    reset_to (codes "body" ∷ []) Always InBody ∷
    reset_to (codes "frameset" ∷ []) Always InFrameset ∷
    reset_to (codes "html" ∷ []) HeadPointerIsSet AfterHead ∷
    reset_to (codes "html" ∷ []) Always BeforeHead ∷ []

-- the state in which the tokenizer begins with a fragment, by the context element, 13.4; of others it is Data;
-- the flag says whether scripting is enabled
abbrev pub first_states : Bool → List (List (List ℕ) × State)
first_states scripting =
    ((codes "title" ∷ codes "textarea" ∷ []), RCDATA) ∷
    ((codes "style" ∷ codes "xmp" ∷ codes "iframe" ∷ codes "noembed" ∷ codes "noframes" ∷ []), RAWTEXT) ∷
    ((codes "script" ∷ []), ScriptData) ∷
    ((codes "noscript" ∷ []), cond scripting RAWTEXT Data) ∷
    ((codes "plaintext" ∷ []), PLAINTEXT) ∷ []
