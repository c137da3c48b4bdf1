-- Tree construction (13.2.6): the state of a tree under construction, and what the rules do to it.
-- A step gives None where the token is outside of what the rules describe.
use Rattle.std.specs.Prelude.{ℕ, zero, suc, Bool, true, false, not, cond, ◌&&◌, ◌||◌, ◌==◌, nat_eq, List, [], ◌∷◌, ◌++◌, map, Option, None}
use Rattle.std.specs.Prelude.{Some, unwrap_or, bytes_eq, codes}
use Rattle.std.specs.Char.{to_ascii_lowercase}
use Rattle.std.specs.List.{list_any, list_all}
use Rattle.std.specs.Option.{option_and_then}
use Rattle.standard_rules.specs.ElementNames.{implied_names, scope_of, special_names}
use Rattle.standard_rules.specs.TreeRules.{rules, cells, groups}
use Rattle.standard_tokens.specs.Tokens.{Attr, Doctype as DoctypeToken, Token, AChar, AComment, ADoctype, AStart, AnEnd, AnEof}
use Rattle.standard_rules.specs.TreeTokens.{Trees, no_trees, comment_node, doctype_node, element_node, joined, with_char, is_among}
use Rattle.standard_rules.specs.RuleWords.{Mode, Initial, InBody, Text, InTable, InCaption, InColumnGroup, InTableBody, InRow, InCell}
use Rattle.standard_rules.specs.RuleWords.{Names, Own, These, Pattern, WhiteSpace, Null, Character, Comment, Doctype, EndOfFile}
use Rattle.standard_rules.specs.RuleWords.{AnythingElse, AnyStart, AnyEnd, DoctypeOf, StartOf, EndOf, ButtonScope, Condition, Always}
use Rattle.standard_rules.specs.RuleWords.{NoForm, Hidden, NoListed, CurrentNode, InScope, Action, InsertCharacter, InsertComment}
use Rattle.standard_rules.specs.RuleWords.{AppendDoctype, InsertElement, InsertNamed, Pop, FramesetNotOk, Reconstruct, CloseP}
use Rattle.standard_rules.specs.RuleWords.{ImpliedEndTags, ImpliedEndTagsBut, ListElement, ListMarker, ClearToMarker, AdoptionAgency}
use Rattle.standard_rules.specs.RuleWords.{SetForm, EndForm, AnyOtherEndTag, DropLineFeed, PopIf, PopUntil, CloseItems, ClearStackTo, Next}
use Rattle.standard_rules.specs.RuleWords.{Stay, SwitchTo, ReprocessIn, UseRulesFor, ReadText, SwitchBack, ResetMode, ResetAndReprocess}
use Rattle.standard_rules.specs.RuleWords.{Stop, NoRule, Rule, rule}

-- an open element, and the nodes that have been finished in it; the number tells elements apart
pub record Open : Type 0 where
  pub number : ℕ
  pub name : List ℕ
  pub attrs : List Attr
  pub children : Trees

-- an entry of the list of active formatting elements: a marker, or an element's number, name and attributes
pub data Entry : Type 0 where
  Marker : Entry
  Listed : ℕ → List ℕ → List Attr → Entry

pub record Building : Type 0 where
  pub document : Trees  -- the children of the document that come before the lowest open element
  pub stack : List Open  -- the stack of open elements, the current node first
  pub listed : List Entry  -- the list of active formatting elements, the last entry first
  pub mode : Mode
  pub original : Mode  -- the original insertion mode
  pub form : Option ℕ  -- the form element pointer
  pub frameset_ok : Bool
  pub skip : Bool  -- a line feed that comes next is ignored
  pub next : ℕ  -- the number of the next element
  pub context : Option (List ℕ)  -- for a fragment, the name of its context element

-- ---- the token's tag

abbrev pub own_name : Token → List ℕ
own_name (AStart name attrs closing) = name
own_name (AnEnd name) = name
own_name _ = []

abbrev pub own_attrs : Token → List Attr
own_attrs (AStart name attrs closing) = attrs
own_attrs _ = []

abbrev pub names_for : Names → Token → List (List ℕ)
names_for Own token = own_name token ∷ []
names_for (These names) token = names

-- ---- the stack of open elements

-- the current node is one of these
abbrev pub top_is : List (List ℕ) → List Open → Bool
top_is names [] = false
top_is names (o ∷ os) = is_among o.name names

-- one of the names comes before an element that bounds the scope
unfoldable pub in_scope : List (List ℕ) → List (List ℕ) → List Open → Bool
in_scope bounds names [] = false
in_scope bounds names (o ∷ os) = is_among o.name names || (not (is_among o.name bounds) && in_scope bounds names os)

-- an element, with another as its last child
abbrev pub holding : Open → Open → Open
holding p o = record p { children = joined p.children (element_node o.name o.attrs o.children no_trees) }

-- without the current node, which becomes a child of the one below; the lowest element is never popped
abbrev pub popped : List Open → Option (List Open)
popped [] = None
popped (o ∷ []) = None
popped (o ∷ p ∷ os) = Some (holding p o ∷ os)

abbrev pub popped_until_from : List (List ℕ) → Open → List Open → Option (List Open)
popped_until_from names o [] = None
popped_until_from names o (p ∷ os) =
    elim (is_among o.name names) [ true ↦ Some (holding p o ∷ os) | false ↦ popped_until_from names (holding p o) os ]

-- pop elements until one of these has been popped
abbrev pub popped_until : List (List ℕ) → List Open → Option (List Open)
popped_until names [] = None
popped_until names (o ∷ os) = popped_until_from names o os

abbrev pub popped_while_from : (List ℕ → Bool) → Open → List Open → List Open
popped_while_from test o [] = o ∷ []
popped_while_from test o (p ∷ os) = elim (test o.name) [ true ↦ popped_while_from test (holding p o) os | false ↦ o ∷ p ∷ os ]

-- pop elements while the current node's name passes the test
abbrev pub popped_while : (List ℕ → Bool) → List Open → List Open
popped_while test [] = []
popped_while test (o ∷ os) = popped_while_from test o os

-- generate implied end tags, except for these
abbrev pub implied_but : List (List ℕ) → List Open → List Open
implied_but names os = popped_while (λ name. is_among name implied_names && not (is_among name names)) os

-- generate implied end tags except for these, and then pop elements until one of these has been popped
abbrev pub closed : List (List ℕ) → List Open → Option (List Open)
closed names os = popped_until names (implied_but names os)

-- if the stack has a p element in button scope, close a p element
abbrev pub closed_p : List Open → Option (List Open)
closed_p os = elim (in_scope (scope_of ButtonScope) (codes "p" ∷ []) os) [ true ↦ closed (codes "p" ∷ []) os | false ↦ Some os ]

-- the first of these items from the current node down that comes before a special element other than address, div and p
abbrev pub open_item : List (List ℕ) → List Open → Option (List ℕ)
open_item names [] = None
open_item names (o ∷ os) =
    elim (is_among o.name names) [
      | true ↦ Some o.name
      | false ↦
          elim (is_among o.name special_names && not (is_among o.name (codes "address" ∷ codes "div" ∷ codes "p" ∷ [])))
          [ true ↦ None | false ↦ open_item names os ]
    ]

abbrev pub closed_item : Option (List ℕ) → List Open → Option (List Open)
closed_item None os = Some os
closed_item (Some name) os = closed (name ∷ []) os

-- an element of that name comes before a special one
abbrev pub ends_other : List ℕ → List Open → Bool
ends_other name [] = false
ends_other name (o ∷ os) = bytes_eq o.name name || (not (is_among o.name special_names) && ends_other name os)

-- any other end tag
abbrev pub ended_other : List ℕ → List Open → Option (List Open)
ended_other name os = elim (ends_other name os) [ true ↦ closed (name ∷ []) os | false ↦ Some os ]

abbrev pub is_open : ℕ → List Open → Bool
is_open number os = list_any (λ o. nat_eq o.number number) os

-- ---- the list of active formatting elements

abbrev pub same_attr : Attr → Attr → Bool
same_attr a b = bytes_eq a.name b.name && bytes_eq a.value b.value

abbrev pub holds_all : List Attr → List Attr → Bool
holds_all attrs others = list_all (λ a. list_any (same_attr a) others) attrs

abbrev pub same_attrs : List Attr → List Attr → Bool
same_attrs attrs others = holds_all attrs others && holds_all others attrs

-- without the earliest element of that name with these attributes, if there are three after the last marker (the "Noah's Ark clause")
abbrev pub without_third : ℕ → List ℕ → List Attr → List Entry → List Entry
without_third count name attrs [] = []
without_third count name attrs (Marker ∷ es) = Marker ∷ es
without_third count name attrs (Listed n m bs ∷ es) =
    elim (bytes_eq m name && same_attrs bs attrs) [
      | true ↦ elim (nat_eq count 2) [ true ↦ es | false ↦ Listed n m bs ∷ without_third (suc count) name attrs es ]
      | false ↦ Listed n m bs ∷ without_third count name attrs es
    ]

-- push the current node onto the list
abbrev pub enlisted : List Open → List Entry → List Entry
enlisted [] es = es
enlisted (o ∷ os) es = Listed o.number o.name o.attrs ∷ without_third 0 o.name o.attrs es

-- clear the list up to the last marker
abbrev pub cleared : List Entry → List Entry
cleared [] = []
cleared (Marker ∷ es) = es
cleared (Listed n m bs ∷ es) = cleared es

-- the number of the last element of these names after the last marker
abbrev pub last_listed : List (List ℕ) → List Entry → Option ℕ
last_listed names [] = None
last_listed names (Marker ∷ es) = None
last_listed names (Listed n m bs ∷ es) = elim (is_among m names) [ true ↦ Some n | false ↦ last_listed names es ]

abbrev pub is_listed : ℕ → List Entry → Bool
is_listed number [] = false
is_listed number (Marker ∷ es) = is_listed number es
is_listed number (Listed n m bs ∷ es) = nat_eq n number || is_listed number es

abbrev pub unlisted : ℕ → List Entry → List Entry
unlisted number [] = []
unlisted number (Marker ∷ es) = Marker ∷ unlisted number es
unlisted number (Listed n m bs ∷ es) = elim (nat_eq n number) [ true ↦ es | false ↦ Listed n m bs ∷ unlisted number es ]

-- there is nothing to reconstruct: the list is empty, or its last entry is a marker or an open element
abbrev pub needs_none : List Entry → List Open → Bool
needs_none [] os = true
needs_none (Marker ∷ es) os = true
needs_none (Listed n m bs ∷ es) os = is_open n os

-- ---- actions

-- changes the children of the current node; where no element is open, of the document
abbrev pub at_top : (Trees → Trees) → Building → Building
at_top f b =
    elim b.stack [ [] ↦ record b { document = f b.document } | o ∷ os ↦ record b { stack = record o { children = f o.children } ∷ os } ]

abbrev pub with_stack : Building → List Open → Building
with_stack b os = record b { stack = os }

-- insert an HTML element
abbrev pub inserted : List ℕ → List Attr → Building → Building
inserted name attrs b =
    record b { stack = record { number = b.next; name = name; attrs = attrs; children = no_trees } ∷ b.stack; next = suc b.next }

abbrev pub top_number : List Open → Option ℕ
top_number [] = None
top_number (o ∷ os) = Some o.number

abbrev pub is_number : Option ℕ → ℕ → Bool
is_number None n = false
is_number (Some m) n = nat_eq m n

abbrev pub on_stack : Building → Option (List Open) → Option Building
on_stack b None = None
on_stack b (Some os) = Some (with_stack b os)

-- the adoption agency for an element that is listed under this number: only where it is the current node
abbrev pub adopted_by : List ℕ → Option ℕ → Building → Option Building
adopted_by name None b = on_stack b (ended_other name b.stack)
adopted_by name (Some n) b =
    elim (is_number (top_number b.stack) n) [ true ↦ on_stack (record b { listed = unlisted n b.listed }) (popped b.stack) | false ↦ None ]

-- the current node is not in the list of active formatting elements
abbrev pub top_unlisted : Building → Bool
top_unlisted b = elim b.stack [ [] ↦ false | o ∷ os ↦ not (is_listed o.number b.listed) ]

-- the adoption agency: a current node of that name that is not listed is popped, and nothing else is done
abbrev pub adopted : List ℕ → Building → Option Building
adopted name b =
    elim (top_is (name ∷ []) b.stack && top_unlisted b)
    [ true ↦ on_stack b (popped b.stack) | false ↦ adopted_by name (last_listed (name ∷ []) b.listed) b ]

-- the end tag of `form`: only where the form is the current node
abbrev pub form_ended : Option ℕ → Building → Option Building
form_ended None b = Some b
form_ended (Some n) b =
    elim (is_number (top_number b.stack) n) [ true ↦ on_stack (record b { form = None }) (popped b.stack) | false ↦ None ]

abbrev pub with_text_char : Token → Trees → Trees
with_text_char (AChar c) ts = with_char ts c
with_text_char _ ts = ts

abbrev pub with_comment : Token → Trees → Trees
with_comment (AComment text) ts = joined ts (comment_node text no_trees)
with_comment _ ts = ts

abbrev pub with_doctype : Token → Trees → Trees
with_doctype (ADoctype doctype) ts = joined ts (doctype_node (unwrap_or doctype.name []) no_trees)
with_doctype _ ts = ts

unfoldable pub act : Action → Token → Building → Option Building
act InsertCharacter token b = Some (at_top (with_text_char token) b)
act InsertComment token b = Some (at_top (with_comment token) b)
act AppendDoctype token b = Some (at_top (with_doctype token) b)
act InsertElement token b = Some (inserted (own_name token) (own_attrs token) b)
act (InsertNamed name) token b = Some (inserted name [] b)
act Pop token b = on_stack b (popped b.stack)
act FramesetNotOk token b = Some (record b { frameset_ok = false })
act Reconstruct token b = elim (needs_none b.listed b.stack) [ true ↦ Some b | false ↦ None ]
act CloseP token b = on_stack b (closed_p b.stack)
act ImpliedEndTags token b = Some (with_stack b (implied_but [] b.stack))
act (ImpliedEndTagsBut names) token b = Some (with_stack b (implied_but (names_for names token) b.stack))
act ListElement token b = Some (record b { listed = enlisted b.stack b.listed })
act ListMarker token b = Some (record b { listed = Marker ∷ b.listed })
act ClearToMarker token b = Some (record b { listed = cleared b.listed })
act AdoptionAgency token b = adopted (own_name token) b
act SetForm token b = Some (record b { form = top_number b.stack })
act EndForm token b = form_ended b.form b
act AnyOtherEndTag token b = on_stack b (ended_other (own_name token) b.stack)
act DropLineFeed token b = Some (record b { skip = true })
act (PopIf names) token b = elim (top_is names b.stack) [ true ↦ on_stack b (popped b.stack) | false ↦ Some b ]
act (PopUntil names) token b = on_stack b (popped_until (names_for names token) b.stack)
act (CloseItems names) token b = on_stack b (closed_item (open_item names b.stack) b.stack)
act (ClearStackTo names) token b =
    Some (with_stack b (popped_while (λ name. not (is_among name (codes "html" ∷ codes "template" ∷ names))) b.stack))

abbrev pub all_acts : List Action → Token → Building → Option Building
all_acts [] token b = Some b
all_acts (a ∷ acts) token b = option_and_then (all_acts acts token) (act a token b)

-- ---- which rule is taken

-- a tab, a line feed, a form feed, a carriage return or a space
abbrev pub is_space : ℕ → Bool
is_space c = c == 9 || c == 10 || c == 12 || c == 13 || c == 32

abbrev pub is_missing : Option (List ℕ) → Bool
is_missing None = true
is_missing (Some text) = false

abbrev pub is_word : List ℕ → Option (List ℕ) → Bool
is_word word None = false
is_word word (Some text) = bytes_eq text word

-- a doctype of that name without identifiers, for which the document stays in no-quirks mode
abbrev pub is_plain_doctype : List ℕ → DoctypeToken → Bool
is_plain_doctype word doctype = is_word word doctype.name && is_missing doctype.public_id && is_missing doctype.system_id
    && not doctype.force_quirks

abbrev pub fits : Pattern → Token → Bool
fits AnythingElse token = true
fits WhiteSpace (AChar c) = is_space c
fits Null (AChar c) = c == 0
fits Character (AChar c) = true
fits Comment (AComment text) = true
fits Doctype (ADoctype doctype) = true
fits (DoctypeOf word) (ADoctype doctype) = is_plain_doctype word doctype
fits EndOfFile AnEof = true
fits AnyStart (AStart name attrs closing) = true
fits (StartOf names) (AStart name attrs closing) = is_among name names
fits AnyEnd (AnEnd name) = true
fits (EndOf names) (AnEnd name) = is_among name names
fits _ _ = false

abbrev pub is_hidden : List Attr → Bool
is_hidden attrs = list_any (λ a. bytes_eq a.name (codes "type") && bytes_eq (map to_ascii_lowercase a.value) (codes "hidden")) attrs

abbrev pub is_none : Option ℕ → Bool
is_none None = true
is_none (Some n) = false

abbrev pub holds : Condition → Token → Building → Bool
holds Always token b = true
holds NoForm token b = is_none b.form
holds Hidden token b = is_hidden (own_attrs token)
holds (NoListed names) token b = is_none (last_listed (names_for names token) b.listed)
holds (CurrentNode names) token b = top_is (names_for names token) b.stack
holds (InScope kind names) token b = in_scope (scope_of kind) (names_for names token) b.stack

pub record Taken : Type 0 where
  pub acts : List Action
  pub goes : Next

-- what the first rule says that fits the token and whose condition is met
unfoldable pub taken : Token → Building → List Rule → Taken
taken token b [] = record { acts = []; goes = NoRule }
taken token b (rule pattern condition acts goes ∷ rs) =
    elim (fits pattern token) [
      | true ↦ elim (holds condition token b) [ true ↦ record { acts = acts; goes = goes } | false ↦ taken token b rs ]
      | false ↦
          taken token b rs
    ]

-- ---- reset the insertion mode appropriately (13.2.4.1)

-- what a node says of the mode: it gives one, it leaves that to the node below, or it is outside of what is described
pub data Verdict : Type 0 where
  Gives : Mode → Verdict
  Below Outside : Verdict

-- by the name of a node; `last` says that it is the lowest of the stack
abbrev pub verdict : Bool → List ℕ → Verdict
verdict last name =
    cond (not last && is_among name cells) (Gives InCell)
    (cond (bytes_eq name (codes "tr")) (Gives InRow)
    (cond (is_among name groups) (Gives InTableBody)
    (cond (bytes_eq name (codes "caption")) (Gives InCaption)
    (cond (bytes_eq name (codes "colgroup")) (Gives InColumnGroup)
    (cond (bytes_eq name (codes "table")) (Gives InTable)
    (cond (bytes_eq name (codes "body")) (Gives InBody)
    (cond (is_among name (codes "select" ∷ codes "template" ∷ codes "frameset" ∷ codes "head" ∷ codes "html" ∷ [])) Outside Below)))))))

-- by the names of the stack; the context element takes the place of the lowest node of a fragment
abbrev pub mode_of : Option (List ℕ) → List (List ℕ) → Option Mode
mode_of context [] = None
mode_of context (name ∷ []) = elim (verdict true (unwrap_or context name)) [ Gives mode ↦ Some mode | Below ↦ Some InBody | Outside ↦ None ]
mode_of context (name ∷ below ∷ names) =
    elim (verdict false name) [ Gives mode ↦ Some mode | Below ↦ mode_of context (below ∷ names) | Outside ↦ None ]

abbrev pub names_of_stack : List Open → List (List ℕ)
names_of_stack [] = []
names_of_stack (o ∷ os) = o.name ∷ names_of_stack os

abbrev pub at_mode : Mode → Building → Building
at_mode mode b = record b { mode = mode }

abbrev pub in_found_mode : Building → Option Mode → Option Building
in_found_mode b None = None
in_found_mode b (Some mode) = Some (at_mode mode b)

abbrev pub reset : Building → Option Building
reset b = in_found_mode b (mode_of b.context (names_of_stack b.stack))

-- ---- a step

abbrev pub goes_on : (Mode → Building → Option Building) → Next → Building → Option Building
goes_on again Stay b = Some b
goes_on again (SwitchTo mode) b = Some (at_mode mode b)
goes_on again (ReprocessIn mode) b = again mode (at_mode mode b)
goes_on again (UseRulesFor mode) b = again mode b
goes_on again ReadText b = Some (record b { original = b.mode; mode = Text })
goes_on again SwitchBack b = Some (at_mode b.original b)
goes_on again ResetMode b = reset b
goes_on again ResetAndReprocess b = option_and_then (λ after. again after.mode after) (reset b)
goes_on again Stop b = Some b
goes_on again NoRule b = None

-- the actions of a rule, and what comes after them; `again` processes the token by the rules of a mode
abbrev pub done : (Mode → Building → Option Building) → Taken → Token → Building → Option Building
done again t token b = option_and_then (goes_on again t.goes) (all_acts t.acts token b)

-- process the token by the rules of a mode, by at most so many rules
unfoldable pub run : ℕ → Token → Mode → Building → Option Building
unfolding rules taken act in_scope
run zero token mode b = None
run (suc fuel) token mode b = done (run fuel token) (taken token b (rules mode)) token b

abbrev pub is_line_feed : Token → Bool
is_line_feed (AChar c) = c == 10
is_line_feed _ = false

-- process one token; no token takes more than 12 rules
unfoldable pub tree_step : Building → Token → Option Building
unfolding run
tree_step b token =
    let after : Building = record b { skip = false } in
    elim (b.skip && is_line_feed token) [ true ↦ Some after | false ↦ run 12 token b.mode after ]

-- process tokens in their order
abbrev pub tree_steps : Building → List Token → Option Building
tree_steps b [] = Some b
tree_steps b (token ∷ more) = option_and_then (λ after. tree_steps after more) (tree_step b token)

-- ---- pages and fragments

abbrev pub start : Building
start =
    record {
      document = no_trees;
      stack = [];
      listed = [];
      mode = Initial;
      original = Initial;
      form = None;
      frameset_ok = true;
      skip = false;
      next = 0;
      context = None;
    }

-- the HTML fragment parsing algorithm (13.4), by the name of the context element: an element `html` is open, and the mode is reset
abbrev pub fragment_start : List ℕ → Option Building
fragment_start name =
    reset
    (record start
    { stack = record { number = 0; name = codes "html"; attrs = []; children = no_trees } ∷ []; next = 1; context = Some name })

-- the document, once all open elements have been popped
abbrev pub finished_from : Trees → Open → List Open → Trees
finished_from document o [] = joined document (element_node o.name o.attrs o.children no_trees)
finished_from document o (p ∷ os) = finished_from document (holding p o) os

abbrev pub finished : Building → Trees
finished b = elim b.stack [ [] ↦ b.document | o ∷ os ↦ finished_from b.document o os ]

abbrev pub tree_of : Option Building → Option Trees
tree_of None = None
tree_of (Some b) = Some (finished b)

-- the document of a page of these tokens
abbrev pub built : List Token → Option Trees
built page = tree_of (tree_steps start (page ++ AnEof ∷ []))

-- the children of the lowest element, once all others have been popped
abbrev pub children_from : Open → List Open → Trees
children_from o [] = o.children
children_from o (p ∷ os) = children_from (holding p o) os

abbrev pub children_of : Option Building → Option Trees
children_of None = None
children_of (Some b) = elim b.stack [ [] ↦ None | o ∷ os ↦ Some (children_from o os) ]

-- the nodes of a fragment of these tokens in a context element of that name
abbrev pub built_fragment : List ℕ → List Token → Option Trees
built_fragment context fragment = children_of (option_and_then (λ b. tree_steps b (fragment ++ AnEof ∷ [])) (fragment_start context))
