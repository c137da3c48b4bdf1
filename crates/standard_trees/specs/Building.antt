-- Tree construction (13.2.6): its state, what the conditions and actions of the rules mean, and `tree_step`, which processes one token.
use Rattle.std.specs.Prelude.{Bool, List, None, Option, Some, [], bytes_eq, codes, cond, drop, false, find, length, map, nat_eq, not}
use Rattle.std.specs.Prelude.{option_map, reverse, suc, take, true, unwrap_or, zero, ℕ, ◌&&◌, ◌++◌, ◌==◌, ◌||◌, ◌∷◌}
use Rattle.std.specs.List.{list_all, list_any, starts_with}
use Rattle.std.specs.Option.{option_and_then, option_map_or}
use Rattle.standard_tokens.specs.Tokens.{AChar, AComment, ADoctype, AStart, AnEnd, AnEof, Doctype as DoctypeToken, Token}
use Rattle.standard_trees.specs.RuleWords.{Act, Action, AddToPending, AdjustForeignAttributes, AdjustMathmlAttributes, AdjustSvgAttributes}
use Rattle.standard_trees.specs.RuleWords.{AdjustSvgName, AdjustedCurrentNode, AdjustedCurrentNodeInHtml, AdjustedCurrentNodeInMathml}
use Rattle.standard_trees.specs.RuleWords.{AdoptionAgency, AllImpliedEndTags, Always, AnyAttribute, AnyEndTag, AnyOtherEndTag, AnyStartTag}
use Rattle.standard_trees.specs.RuleWords.{Anything, AppendDoctype, AtAMathmlTextIntegrationPoint, AtAnHtmlIntegrationPoint}
use Rattle.standard_trees.specs.RuleWords.{AttributeTypeHidden, Character, ClearListToMarker, CloseItems, CloseP, Comment, Condition}
use Rattle.standard_trees.specs.RuleWords.{Context, CurrentNode, CurrentNodeIsTopmost, Dispatcher, Doctype, DropFound, EmptyPending}
use Rattle.standard_trees.specs.RuleWords.{EndForm, EndOfFile, EndTagOf, FindListed, FormPointerSet, FosterOff, FosterOn, Fragment}
use Rattle.standard_trees.specs.RuleWords.{FramesetNotOk, FramesetOk, HeadPointerIsSet, HeadPointerSet, ImpliedEndTags, ImpliedEndTagsBut}
use Rattle.standard_trees.specs.RuleWords.{InBody, InScope, InTemplate, Initial, InsertCharacter, InsertComment, InsertCommentInDocument}
use Rattle.standard_trees.specs.RuleWords.{InsertCommentInHtml, InsertElement, InsertMathmlElement, InsertNamed, InsertPending}
use Rattle.standard_trees.specs.RuleWords.{InsertReplacement, InsertRootElement, InsertRootNamed, InsertSvgElement, KeepMode, ListElement}
use Rattle.standard_trees.specs.RuleWords.{ListMarker, Listed, MergeAttributesIntoBody, MergeAttributesIntoHtml, Mode, Names}
use Rattle.standard_trees.specs.RuleWords.{NoOpenElements, NodeTest, NotTopmost, Null, Own, OwnBeforeHtml, Pattern, PendingAllWhiteSpace}
use Rattle.standard_trees.specs.RuleWords.{Pop, PopForeignElements, PopTemplateMode, PopToTopmost, PopUntil, PopUntilOwnInAnyCase, PopUpTo}
use Rattle.standard_trees.specs.RuleWords.{PushHeadPointer, PushTemplateMode, Quirks, ReconstructFormatting, RemoveBody}
use Rattle.standard_trees.specs.RuleWords.{RemoveHeadFromStack, Rename, Reprocess, Reset, ResetMode, Rule, Scripting, SecondElement}
use Rattle.standard_trees.specs.RuleWords.{SelfClosing, SetFormPointer, SetHeadPointer, SetQuirks, SetQuirksByDoctype, SkipNextLineFeed}
use Rattle.standard_trees.specs.RuleWords.{StartTagBut, StartTagOf, Stop, SwitchBack, SwitchTo, TemplateModeSet, TemplateOpen, Test}
use Rattle.standard_trees.specs.RuleWords.{TextState, These, TokenizerTo, Use, UseCurrentMode, UseForEachPending, Way, WhiteSpace, does}
use Rattle.standard_trees.specs.RuleWords.{goes, is, isnt, reset_to, reset_to_template_mode, rule}
use Rattle.standard_trees.specs.TreeStore.{DoctypeNode, DocumentNode, ElementNode, EndOf, Html, Kind, MathMl, NoSpace, NodeAttr, Space, Svg}
use Rattle.standard_trees.specs.TreeStore.{Trees, XLink, Xml, XmlNs, is_html, is_mathml, key_in, leaf, node_at, removed, space_in, trees_of}
use Rattle.standard_trees.specs.NameLists.{foreign_attributes, implied, mathml_attributes, svg_attributes, svg_names, text_points}
use Rattle.standard_trees.specs.NameLists.{thoroughly_implied}
use Rattle.standard_trees.specs.QuirksTexts.{either_quirks_public_begins, limited_quirks_public_begins, quirks_public_begins}
use Rattle.standard_trees.specs.QuirksTexts.{quirks_public_is, quirks_system_is}
use Rattle.standard_trees.specs.TreeRules.{resets, rules}
use Rattle.standard_trees.specs.GrowingTree.{FormAt, FormOfContext, FormPointer, GrowingTree, Marker, NoForm, adjusted_current, beyond}
use Rattle.standard_trees.specs.GrowingTree.{created_at, current, has_in_scope, has_value, implied_of, inserted, inserted_at, is_among}
use Rattle.standard_trees.specs.GrowingTree.{is_foreign, is_html_point, is_named, is_one, is_single, is_template, key, kind_of, lower}
use Rattle.standard_trees.specs.GrowingTree.{merged_into, own_before_html, past, place, popped_until, popped_up_to, second, topmost}
use Rattle.standard_trees.specs.GrowingTree.{unstacked, with_char, with_chars, with_comment, with_stack}
use Rattle.standard_trees.specs.Formatting.{adoption, any_other_end, cleared, closed_item, enlisted, form_ended, last_listed, local_of}
use Rattle.standard_trees.specs.Formatting.{open_item, reconstructed, without_found, without_p}

pub data QuirksMode : Type 0 where
  NoQuirks LimitedQuirks FullQuirks : QuirksMode

pub record Building : Type 0 where
  pub tree : GrowingTree
  pub mode : Mode  -- the insertion mode
  pub original : Mode  -- the original insertion mode
  pub template_modes : List Mode  -- the stack of template insertion modes, the current one first
  pub frameset_ok : Bool
  pub scripting : Bool
  pub quirks : QuirksMode  -- the mode of the Document
  pub pending : List ℕ  -- the pending table character tokens, the last first
  pub skip : Bool  -- a line feed that comes next is ignored
  pub token : Token  -- the current token
  pub attrs : List NodeAttr  -- its attributes
  pub tokenizer : Option TextState  -- the state to which the tokenizer is switched

-- ---- the token

abbrev pub is_space : ℕ → Bool
is_space c = c == 9 || c == 10 || c == 12 || c == 13 || c == 32

abbrev pub own_name : Token → List ℕ
own_name (AStart name attrs closing) = name
own_name (AnEnd name) = name
own_name _ = []

abbrev pub names_for : Names → Token → List (List ℕ)
names_for Own token = own_name token ∷ []
names_for (These names) token = names

abbrev pub char_of : Token → List ℕ
char_of (AChar c) = c ∷ []
char_of _ = []

abbrev pub comment_of : Token → List ℕ
comment_of (AComment text) = text
comment_of _ = []

abbrev pub is_self_closing : Token → Bool
is_self_closing (AStart name attrs closing) = closing
is_self_closing _ = false

abbrev pub token_attrs : Token → List NodeAttr
token_attrs (AStart name attrs closing) = map (λ a. record { space = NoSpace; name = a.name; value = a.value }) attrs
token_attrs _ = []

abbrev pub renamed : List ℕ → Token → Token
renamed new (AStart name attrs closing) = AStart new attrs closing
renamed new (AnEnd name) = AnEnd name
renamed new (AChar c) = AChar c
renamed new (AComment text) = AComment text
renamed new (ADoctype doctype) = ADoctype doctype
renamed new AnEof = AnEof

-- a name of the list that is the same in lower case, or the name itself
abbrev pub adjusted : List (List ℕ) → List ℕ → List ℕ
adjusted names name = unwrap_or (find (λ one. bytes_eq (lower one) name) names) name

-- "adjust MathML attributes", "adjust SVG attributes"
abbrev pub with_names : List (List ℕ) → List NodeAttr → List NodeAttr
with_names names attrs = map {A = NodeAttr} (λ a. record a { name = adjusted names a.name }) attrs

-- "adjust foreign attributes": one of these is in the namespace of its prefix, and its local name is what follows; `xmlns` is in that
-- of XMLNS
abbrev pub with_space : NodeAttr → NodeAttr
with_space a =
    elim (is_among a.name foreign_attributes) [
      | false ↦ a
      | true ↦
          elim (starts_with nat_eq a.name (codes "xlink:")) [
            | true ↦ record a { space = XLink; name = drop 6 a.name }
            | false ↦ elim (starts_with nat_eq a.name (codes "xml:")) [
              | true ↦ record a { space = Xml; name = drop 4 a.name }
              | false ↦ record a { space = XmlNs; name = cond (bytes_eq a.name (codes "xmlns")) a.name (drop 6 a.name) }
            ]
          ]
    ]

-- ---- quirks mode (13.2.6.4.1)

abbrev pub is_text : List ℕ → List ℕ → Bool
is_text text other = bytes_eq (lower text) (lower other)

abbrev pub begins : List ℕ → List ℕ → Bool
begins text front = is_text (take (length front) text) front

abbrev pub passes : (List ℕ → List ℕ → Bool) → Option (List ℕ) → List (List ℕ) → Bool
passes test text others = option_map_or (λ one. list_any (test one) others) text false

abbrev pub is_missing : Option (List ℕ) → Bool
is_missing None = true
is_missing (Some text) = false

-- "set the Document to quirks mode" for these doctypes
abbrev pub is_quirky : DoctypeToken → Bool
is_quirky d =
    d.force_quirks || not (option_map_or (bytes_eq (codes "html")) d.name false) || passes is_text d.public_id quirks_public_is ||
    passes is_text d.system_id quirks_system_is || passes begins d.public_id quirks_public_begins ||
    (is_missing d.system_id && passes begins d.public_id either_quirks_public_begins)

-- "otherwise, set it to limited-quirks mode" for these
abbrev pub is_half_quirky : DoctypeToken → Bool
is_half_quirky d = passes begins d.public_id limited_quirks_public_begins || passes begins d.public_id either_quirks_public_begins

abbrev pub quirks_of : Token → QuirksMode → QuirksMode
quirks_of (ADoctype d) old = cond (is_quirky d) FullQuirks (cond (is_half_quirky d) LimitedQuirks old)
quirks_of _ old = old

abbrev pub with_doctype : Token → GrowingTree → GrowingTree
with_doctype (ADoctype d) t = created_at (EndOf 0) (DoctypeNode d) t
with_doctype _ t = t

-- ---- reset the insertion mode appropriately (13.2.4.1)

abbrev pub is_present : Option ℕ → Bool
is_present None = false
is_present (Some n) = true

-- of a node, by the elements above it on the stack and the head element pointer
abbrev pub node_test : NodeTest → Option ℕ → List ℕ → Bool
node_test Always head above = true
node_test NotTopmost head [] = false
node_test NotTopmost head (n ∷ ns) = true
node_test HeadPointerIsSet head above = is_present head

-- the current template insertion mode
abbrev pub top_mode : List Mode → Mode
top_mode [] = InBody
top_mode (mode ∷ modes) = mode

-- what the table says of a node of that name
abbrev pub reset_by : List Reset → List ℕ → List Mode → Option ℕ → List ℕ → Option Mode
reset_by [] name modes head above = None
reset_by (reset_to names test mode ∷ more) name modes head above =
    elim (is_among name names && node_test test head above) [ true ↦ Some mode | false ↦ reset_by more name modes head above ]
reset_by (reset_to_template_mode names ∷ more) name modes head above =
    elim (is_among name names) [ true ↦ Some (top_mode modes) | false ↦ reset_by more name modes head above ]

-- from a node of the stack up; "if node is the first node in the stack of open elements, then set last to true, and, if the parser was
-- created as part of the HTML fragment parsing algorithm (fragment case), set node to the context element"
abbrev pub reset_from : GrowingTree → List Mode → List ℕ → Mode
reset_from t modes [] = InBody
reset_from t modes (n ∷ []) = unwrap_or (reset_by resets (key_in (unwrap_or t.context (kind_of t n))) modes t.head []) InBody
reset_from t modes (n ∷ m ∷ ns) =
    elim (reset_by resets (key t n) modes t.head (m ∷ ns)) [ Some mode ↦ mode | None ↦ reset_from t modes (m ∷ ns) ]

abbrev pub reset : Building → Building
reset b = record b { mode = reset_from b.tree b.template_modes b.tree.stack }

-- ---- which rule is taken

abbrev pub fits : Pattern → Token → Bool
fits Anything token = true
fits WhiteSpace (AChar c) = is_space c
fits Null (AChar c) = c == 0
fits Character (AChar c) = true
fits Comment (AComment text) = true
fits Doctype (ADoctype doctype) = true
fits EndOfFile AnEof = true
fits AnyStartTag (AStart name attrs closing) = true
fits (StartTagOf names) (AStart name attrs closing) = is_among name names
fits (StartTagBut names) (AStart name attrs closing) = not (is_among name names)
fits AnyEndTag (AnEnd name) = true
fits (EndTagOf names) (AnEnd name) = is_among name names
fits _ _ = false

abbrev pub is_quirks : QuirksMode → Bool
is_quirks FullQuirks = true
is_quirks LimitedQuirks = false
is_quirks NoQuirks = false

abbrev pub is_set : FormPointer → Bool
is_set NoForm = false
is_set FormOfContext = true
is_set (FormAt n) = true

abbrev pub is_empty : {X : Type 0} → List X → Bool
is_empty [] = true
is_empty (x ∷ xs) = false

abbrev pub holds : Condition → Building → Bool
holds (InScope kind names) b = has_in_scope kind (names_for names b.token) b.tree
holds (CurrentNode names) b = is_one b.tree (names_for names b.token) (current b.tree)
holds (AdjustedCurrentNode names) b = is_named (names_for names b.token) (adjusted_current b.tree)
holds (SecondElement names) b = option_map_or (is_one b.tree (names_for names b.token)) (second b.tree.stack) false
holds (Context names) b = option_map_or (is_named (names_for names b.token)) b.tree.context false
holds (Listed names) b = is_present (last_listed b.tree (names_for names b.token) b.tree.listed)
holds (AnyAttribute names) b = list_any (λ a. is_among a.name names) b.attrs
holds NoOpenElements b = is_empty b.tree.stack
holds AdjustedCurrentNodeInHtml b = is_html (space_in (adjusted_current b.tree))
holds AdjustedCurrentNodeInMathml b = is_mathml (space_in (adjusted_current b.tree))
holds AtAMathmlTextIntegrationPoint b = is_named text_points (adjusted_current b.tree)
holds AtAnHtmlIntegrationPoint b = is_html_point (adjusted_current b.tree)
holds TemplateOpen b = list_any (is_one b.tree (codes "template" ∷ [])) b.tree.stack
holds TemplateModeSet b = not (is_empty b.template_modes)
holds FormPointerSet b = is_set b.tree.form
holds HeadPointerSet b = is_present b.tree.head
holds Scripting b = b.scripting
holds FramesetOk b = b.frameset_ok
holds Quirks b = is_quirks b.quirks
holds Fragment b = option_map_or (λ kind. true) b.tree.context false
holds SelfClosing b = is_self_closing b.token
holds CurrentNodeIsTopmost b = is_single b.tree.stack
holds AttributeTypeHidden b = has_value (codes "type") (codes "hidden" ∷ []) b.attrs
holds PendingAllWhiteSpace b = list_all is_space b.pending
holds OwnBeforeHtml b = own_before_html b.tree (own_name b.token) b.tree.stack

abbrev pub is_met : Building → Test → Bool
is_met b (is condition) = holds condition b
is_met b (isnt condition) = not (holds condition b)

-- what the first rule says that is for the token and whose tests are met
unfoldable pub taken : Building → List Rule → List Act
taken b [] = []
taken b (rule patterns tests acts ∷ more) =
    elim (list_any (λ pattern. fits pattern b.token) patterns) [
      | true ↦ elim (list_all (is_met b) tests) [ true ↦ acts | false ↦ taken b more ]
      | false ↦ taken b more
    ]

-- ---- what an action does

abbrev pub with_tree : Building → GrowingTree → Building
with_tree b t = record b { tree = t }

abbrev pub with_head : Option ℕ → List ℕ → List ℕ
with_head None stack = stack
with_head (Some n) stack = n ∷ stack

-- "remove the second element on the stack of open elements from its parent node, if it has one"
abbrev pub body_removed : Option ℕ → GrowingTree → GrowingTree
body_removed None t = t
body_removed (Some n) t = record t { nodes = removed n t.nodes }

-- an action on the current token
unfoldable pub perform : Action → Building → Building
perform InsertCharacter b = with_tree b (with_chars (char_of b.token) b.tree)
perform InsertReplacement b = with_tree b (with_char 0xfffd b.tree)
perform InsertComment b = with_tree b (with_comment (comment_of b.token) (place b.tree) b.tree)
perform InsertCommentInDocument b = with_tree b (with_comment (comment_of b.token) (EndOf 0) b.tree)
perform InsertCommentInHtml b = with_tree b (with_comment (comment_of b.token) (EndOf (topmost b.tree.stack)) b.tree)
perform AppendDoctype b = with_tree b (with_doctype b.token b.tree)
perform SetQuirksByDoctype b = record b { quirks = quirks_of b.token b.quirks }
perform SetQuirks b = record b { quirks = FullQuirks }
perform InsertElement b = with_tree b (inserted Html (own_name b.token) b.attrs b.tree)
perform InsertRootElement b = with_tree b (inserted_at (EndOf 0) Html (own_name b.token) b.attrs b.tree)
perform InsertMathmlElement b = with_tree b (inserted MathMl (own_name b.token) b.attrs b.tree)
perform InsertSvgElement b = with_tree b (inserted Svg (own_name b.token) b.attrs b.tree)
perform (InsertNamed name) b = with_tree b (inserted Html name [] b.tree)
perform (InsertRootNamed name) b = with_tree b (inserted_at (EndOf 0) Html name [] b.tree)
perform SetHeadPointer b = with_tree b (record b.tree { head = Some (current b.tree) })
perform PushHeadPointer b = with_tree b (with_stack b.tree (with_head b.tree.head b.tree.stack))
perform RemoveHeadFromStack b = with_tree b (option_map_or (λ n. unstacked n b.tree) b.tree.head b.tree)
perform SetFormPointer b = with_tree b (record b.tree { form = FormAt (current b.tree) })
perform Pop b = with_tree b (with_stack b.tree (drop 1 b.tree.stack))
perform PopToTopmost b = with_tree b (with_stack b.tree (topmost b.tree.stack ∷ []))
perform PopForeignElements b = with_tree b (with_stack b.tree (beyond (is_foreign b.tree) b.tree.stack))
perform PopUntilOwnInAnyCase b =
    with_tree b (with_stack b.tree (past (λ n. bytes_eq (lower (local_of b.tree n)) (own_name b.token)) b.tree.stack))
perform (PopUntil names) b = with_tree b (popped_until (names_for names b.token) b.tree)
perform (PopUpTo names) b = with_tree b (popped_up_to (names_for names b.token) b.tree)
perform FramesetNotOk b = record b { frameset_ok = false }
perform KeepMode b = record b { original = b.mode }
perform SwitchBack b = record b { mode = b.original }
perform ResetMode b = reset b
perform PopTemplateMode b = record b { template_modes = drop 1 b.template_modes }
perform (SwitchTo mode) b = record b { mode = mode }
perform (PushTemplateMode mode) b = record b { template_modes = mode ∷ b.template_modes }
perform (TokenizerTo state) b = record b { tokenizer = Some state }
perform ListMarker b = with_tree b (record b.tree { listed = Marker ∷ b.tree.listed })
perform ListElement b = with_tree b (enlisted b.tree)
perform ClearListToMarker b = with_tree b (record b.tree { listed = cleared b.tree.listed })
perform ReconstructFormatting b = with_tree b (reconstructed b.tree)
perform AdoptionAgency b = with_tree b (adoption (own_name b.token) b.tree)
perform DropFound b = with_tree b (without_found b.tree.found b.tree)
perform (FindListed names) b = with_tree b (record b.tree { found = last_listed b.tree (names_for names b.token) b.tree.listed })
perform CloseP b = with_tree b (without_p b.tree)
perform ImpliedEndTags b = with_tree b (implied_of implied [] b.tree)
perform AllImpliedEndTags b = with_tree b (implied_of thoroughly_implied [] b.tree)
perform EndForm b = with_tree b (form_ended b.tree.form (record b.tree { form = NoForm }))
perform AnyOtherEndTag b = with_tree b (any_other_end (own_name b.token) b.tree)
perform SkipNextLineFeed b = record b { skip = true }
perform (ImpliedEndTagsBut names) b = with_tree b (implied_of implied (names_for names b.token) b.tree)
perform (CloseItems names) b = with_tree b (closed_item (open_item b.tree names b.tree.stack) b.tree)
perform MergeAttributesIntoHtml b = with_tree b (merged_into (Some (topmost b.tree.stack)) b.attrs b.tree)
perform MergeAttributesIntoBody b = with_tree b (merged_into (second b.tree.stack) b.attrs b.tree)
perform RemoveBody b = with_tree b (body_removed (second b.tree.stack) b.tree)
perform AdjustMathmlAttributes b = record b { attrs = with_names mathml_attributes b.attrs }
perform AdjustSvgAttributes b = record b { attrs = with_names svg_attributes b.attrs }
perform AdjustSvgName b = record b { token = renamed (adjusted svg_names (own_name b.token)) b.token }
perform AdjustForeignAttributes b = record b { attrs = map with_space b.attrs }
perform (Rename name) b = record b { token = renamed name b.token }
perform FosterOn b = with_tree b (record b.tree { fostering = true })
perform FosterOff b = with_tree b (record b.tree { fostering = false })
perform EmptyPending b = record b { pending = [] }
perform AddToPending b = record b { pending = char_of b.token ++ b.pending }
perform InsertPending b = with_tree b (with_chars (reverse b.pending) b.tree)
perform Stop b = b

-- ---- rules

-- the current token, and its attributes
abbrev pub with_token : Token → List NodeAttr → Building → Building
with_token token attrs b = record b { token = token; attrs = attrs }

-- each of these characters is processed using the rules for a mode, which `again` does with the current token
abbrev pub each_char : (Building → Option Building) → List ℕ → Building → Option Building
each_char again [] b = Some b
each_char again (c ∷ cs) b = option_and_then (each_char again cs) (again (with_token (AChar c) [] b))

-- where the current token goes
abbrev pub gone : (Mode → Building → Option Building) → Way → Building → Option Building
gone again Reprocess b = again Dispatcher b
gone again UseCurrentMode b = again b.mode b
gone again (Use mode) b = again mode b
gone again (UseForEachPending mode) b = option_map (with_token b.token b.attrs) (each_char (again mode) (reverse b.pending) b)

-- what a rule says, one act after another
abbrev pub performed : (Mode → Building → Option Building) → List Act → Building → Option Building
performed again [] b = Some b
performed again (does action tests ∷ acts) b =
    performed again acts (elim (list_all (is_met b) tests) [ true ↦ perform action b | false ↦ b ])
performed again (goes way ∷ acts) b = option_and_then (performed again acts) (gone again way b)

-- process the current token using the rules for a mode; None if rules would use rules more than so many deep
unfoldable pub run : ℕ → Mode → Building → Option Building
unfolding rules taken perform
run zero mode b = None
run (suc depth) mode b = performed (run depth) (taken b (rules mode)) b

-- ---- a step

abbrev pub is_line_feed : Token → Bool
is_line_feed (AChar c) = c == 10
is_line_feed _ = false

abbrev pub with_next : Token → Building → Building
with_next token b = record b { token = token; attrs = token_attrs token; tokenizer = None; skip = false }

-- process a token; a line feed behind the start tag of `pre`, `listing` or `textarea` is ignored
unfoldable pub tree_step : ℕ → Building → Token → Option Building
unfolding run
tree_step depth b token =
    elim (b.skip && is_line_feed token) [
      | true ↦ Some (with_next token b)
      | false ↦ run depth Dispatcher (with_next token b)
    ]

-- process tokens in their order
abbrev pub tree_steps : ℕ → Building → List Token → Option Building
tree_steps depth b [] = Some b
tree_steps depth b (token ∷ more) = option_and_then (λ after. tree_steps depth after more) (tree_step depth b token)

-- ---- pages and fragments

-- before the first token of a page
abbrev pub empty_tree : GrowingTree
empty_tree = record {
  nodes = leaf DocumentNode ∷ [];
  stack = [];
  listed = [];
  head = None;
  form = NoForm;
  found = None;
  fostering = false;
  context = None;
}

abbrev pub start : Bool → Building
start scripting = record {
  tree = empty_tree;
  mode = Initial;
  original = Initial;
  template_modes = [];
  frameset_ok = true;
  scripting = scripting;
  quirks = NoQuirks;
  pending = [];
  skip = false;
  token = AnEof;
  attrs = [];
  tokenizer = None;
}

-- the context element of a fragment, with what its document and the elements above it say (13.4)
pub record Surroundings : Type 0 where
  pub space : Space
  pub name : List ℕ
  pub attrs : List NodeAttr
  pub in_form : Bool  -- a form element is above the context element
  pub quirks : QuirksMode  -- the mode of its document

-- "set the parser's form element pointer to the nearest node to the context element that is a form element (going straight up the
-- ancestor chain, and including the element itself, if it is a form element), if any"
abbrev pub form_of : Surroundings → FormPointer
form_of around = cond (around.in_form || (is_html around.space && bytes_eq around.name (codes "form"))) FormOfContext NoForm

abbrev pub context_of : Surroundings → Kind
context_of around = ElementNode around.space around.name around.attrs None

-- before the first token of a fragment: an element `html` is open; "if the context element is a template element, then push in template
-- onto the stack of template insertion modes"; "reset the parser's insertion mode appropriately"
abbrev pub fragment_start : Bool → Surroundings → Building
fragment_start scripting around =
    let tree : GrowingTree = inserted_at (EndOf 0) Html (codes "html") [] empty_tree in
    reset (record (start scripting) {
      tree = record tree { form = form_of around; context = Some (context_of around) };
      quirks = around.quirks;
      template_modes = cond (is_template around.space around.name) (InTemplate ∷ []) [];
    })

-- the children of a node of the tree
abbrev pub children_at : GrowingTree → ℕ → Trees
children_at t n = trees_of (length t.nodes) t.nodes (node_at t.nodes n).children
