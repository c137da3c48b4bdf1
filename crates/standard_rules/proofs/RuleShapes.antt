-- What the rules do with the tags of one name: the statements that RuleFacts shows for each name.
use Rattle.std.specs.Prelude.{◌≡◌, ℕ, suc, Bool, true, false, List, [], ◌∷◌, None, Some, codes}
use Rattle.standard_rules.specs.Building.{Building, Open, Listed, Marker, adopted, cleared, closed_item, closed_p, form_ended, is_space, open_item, inserted, last_listed, mode_of, names_of_stack, needs_none, run, top_is, with_stack, without_third}
use Rattle.standard_rules.specs.RuleWords.{Mode, InBody, InCaption, InCell, InHead, InTable, Text}
use Rattle.standard_rules.specs.TreeRules.{formatting, headings}
use Rattle.standard_tokens.specs.Reading.{switch_at}
use Rattle.standard_tokens.specs.Tokens.{Attr, Token, AChar, AStart, AnEnd}
use Rattle.standard_rules.specs.TreeTokens.{Trees, no_trees, element_node, end_of, is_among, joined, with_char}
use Rattle.standard_rules.proofs.StackKeys.{FlowMode, body, caption, cell, mode_at, Gives, Listable, Passes, Unlisted, markers}

abbrev pub Three : (Mode → Type 0) → Type 0
Three X = X InBody × X InCaption × X InCell

pub pick : (X : Mode → Type 0) → Three X → (flow : FlowMode) → X (mode_at flow)
pick X three body = three.0
pick X three caption = three.1
pick X three cell = three.2

-- the token takes the one state to the other, by the rules of a mode
abbrev pub RunsIn : Mode → Token → Building → Building → Type 0
RunsIn mode token b c = run 12 token mode b ≡ Some c

-- the same in each of the modes in which the contents of a body are read
abbrev pub Runs : Token → Building → Building → Type 0
Runs token b c = Three (λ mode. RunsIn mode token b c)

abbrev pub open_of : ℕ → List ℕ → List Attr → Trees → Open
open_of number name attrs children = record { number = number; name = name; attrs = attrs; children = children }

-- an open element with one more element as its last child
abbrev pub grown : Open → List ℕ → List Attr → Trees → Open
grown o name attrs children = record o { children = joined o.children (element_node name attrs children no_trees) }

-- ---- elements among the contents of a body

-- the end tag of the current node closes it
abbrev pub Closes : List ℕ → Type 0
Closes name = (b : Building) (number : ℕ) (attrs : List Attr) (children : Trees) (o : Open) (os : List Open) →
    Runs (AnEnd name) (with_stack b (open_of number name attrs children ∷ o ∷ os)) (with_stack b (grown o name attrs children ∷ os))

-- an element that has an end tag, is not listed, and leaves the mode as it is
pub record Ordinary (name : List ℕ) : Type 0 where
  pub closes : Closes name
  pub ends : end_of name ≡ AnEnd name ∷ []
  pub unswitched : switch_at name ≡ None
  pub unlisted : Unlisted name
  pub passes : Passes name

abbrev pub NoP : Building → Type 0
NoP b = closed_p b.stack ≡ Some b.stack

abbrev pub Complete : Building → Type 0
Complete b = needs_none b.listed b.stack ≡ true

abbrev pub inserted_plainly : List ℕ → List Attr → Building → Building
inserted_plainly name attrs b = inserted name attrs (record b { frameset_ok = false })

abbrev pub OpensBlock : List ℕ → Type 0
OpensBlock name = (attrs : List Attr) (b : Building) → NoP b → Runs (AStart name attrs false) b (inserted name attrs b)

abbrev pub OpensHeading : List ℕ → Type 0
OpensHeading name = (attrs : List Attr) (b : Building) → NoP b → top_is headings b.stack ≡ false → Runs (AStart name attrs false) b (inserted name attrs b)

abbrev pub OpensPhrase : List ℕ → Type 0
OpensPhrase name = (attrs : List Attr) (b : Building) → Complete b → Runs (AStart name attrs false) b (inserted name attrs b)

abbrev pub OpensItem : List (List ℕ) → List ℕ → Type 0
OpensItem names name = (attrs : List Attr) (b : Building) → closed_item (open_item names b.stack) b.stack ≡ Some b.stack → NoP b → Runs (AStart name attrs false) b (inserted_plainly name attrs b)

abbrev pub OpensPre : List ℕ → Type 0
OpensPre name = (attrs : List Attr) (b : Building) → NoP b → Runs (AStart name attrs false) b (record (inserted_plainly name attrs b) { skip = true })

abbrev pub OpensRubyText : List ℕ → List ℕ → Type 0
OpensRubyText parent name = (attrs : List Attr) (b : Building) (number : ℕ) (bs : List Attr) (children : Trees) (o : Open) (os : List Open) →
    Runs (AStart name attrs false) (with_stack b (open_of number parent bs children ∷ o ∷ os)) (inserted name attrs (with_stack b (open_of number parent bs children ∷ o ∷ os)))

-- under an element of that name no item is open that would be closed
abbrev pub HoldsItems : List (List ℕ) → List ℕ → Type 0
HoldsItems names name = (number : ℕ) (attrs : List Attr) (children : Trees) (os : List Open) → open_item names (open_of number name attrs children ∷ os) ≡ None

-- ---- formatting elements

abbrev pub marked : List ℕ → List Attr → Building → Building
marked name attrs b = record (inserted name attrs b) { listed = Listed b.next name attrs ∷ without_third 0 name attrs b.listed }

abbrev pub OpensAnchor : List ℕ → Type 0
OpensAnchor name = (attrs : List Attr) (b : Building) → Complete b → last_listed (codes "a" ∷ []) b.listed ≡ None → Runs (AStart name attrs false) b (marked name attrs b)

abbrev pub OpensFormatting : List ℕ → Type 0
OpensFormatting name = (attrs : List Attr) (b : Building) → Complete b → Runs (AStart name attrs false) b (marked name attrs b)

abbrev pub ClosesFormatting : List ℕ → Type 0
ClosesFormatting name = (b c : Building) → adopted name b ≡ Some c → Runs (AnEnd name) b c

-- a listed element that has an end tag and leaves the mode as it is
pub record Formatting (name : List ℕ) : Type 0 where
  pub closes : ClosesFormatting name
  pub ends : end_of name ≡ AnEnd name ∷ []
  pub unswitched : switch_at name ≡ None
  pub listed : Listable name
  pub passes : Passes name

-- ---- void elements

-- with that element as a child of the current node
abbrev pub with_leaf : List ℕ → List Attr → Bool → Building → Open → List Open → Building
with_leaf name attrs ok b o os = record b { stack = grown o name attrs no_trees ∷ os; next = suc b.next; frameset_ok = ok }

pub record IsVoid (name : List ℕ) : Type 0 where
  pub made : (attrs : List Attr) (b : Building) (o : Open) (os : List Open) → needs_none b.listed (o ∷ os) ≡ true → Runs (AStart name attrs false) (with_stack b (o ∷ os)) (with_leaf name attrs false b o os)
  pub ends : end_of name ≡ []
  pub unswitched : switch_at name ≡ None

pub record IsBreak (name : List ℕ) : Type 0 where
  pub made : (attrs : List Attr) (b : Building) (o : Open) (os : List Open) → closed_p (o ∷ os) ≡ Some (o ∷ os) → Runs (AStart name attrs false) (with_stack b (o ∷ os)) (with_leaf name attrs false b o os)
  pub ends : end_of name ≡ []
  pub unswitched : switch_at name ≡ None

pub record IsSource (name : List ℕ) : Type 0 where
  pub made : (attrs : List Attr) (b : Building) (o : Open) (os : List Open) → Runs (AStart name attrs false) (with_stack b (o ∷ os)) (with_leaf name attrs b.frameset_ok b o os)
  pub ends : end_of name ≡ []
  pub unswitched : switch_at name ≡ None

-- a void element in that mode
pub record IsLeafIn (mode : Mode) (name : List ℕ) : Type 0 where
  pub made : (attrs : List Attr) (b : Building) (o : Open) (os : List Open) → RunsIn mode (AStart name attrs false) (with_stack b (o ∷ os)) (with_leaf name attrs b.frameset_ok b o os)
  pub ends : end_of name ≡ []
  pub unswitched : switch_at name ≡ None

-- ---- elements that hold a text alone

abbrev pub in_text : List ℕ → List Attr → Building → Building
in_text name attrs b = record (inserted name attrs b) { original = b.mode; mode = Text }

pub record IsRawText (name : List ℕ) : Type 0 where
  pub opens : (attrs : List Attr) (b : Building) → Runs (AStart name attrs false) b (in_text name attrs b)
  pub opens_in_head : (attrs : List Attr) (b : Building) → RunsIn InHead (AStart name attrs false) b (in_text name attrs b)
  pub closes : (b : Building) (number : ℕ) (attrs : List Attr) (children : Trees) (o : Open) (os : List Open) →
      RunsIn Text (AnEnd name) (with_stack b (open_of number name attrs children ∷ o ∷ os)) (with_stack (record b { mode = b.original }) (grown o name attrs children ∷ os))
  pub ends : end_of name ≡ AnEnd name ∷ []

-- ---- tables

-- in a mode, where the current node has the parent's name, the start tag opens an element and switches the mode; the end tag undoes that
pub record IsPart (mode : Mode) (parent : List ℕ) (after : Mode) (name : List ℕ) : Type 0 where
  pub opens : (b : Building) (attrs bs : List Attr) (n : ℕ) (children : Trees) (o : Open) (os : List Open) →
      RunsIn mode (AStart name attrs false) (with_stack b (open_of n parent bs children ∷ o ∷ os)) (record (inserted name attrs (with_stack b (open_of n parent bs children ∷ o ∷ os))) { mode = after })
  pub closes : (b : Building) (attrs : List Attr) (n : ℕ) (children : Trees) (o : Open) (os : List Open) →
      RunsIn after (AnEnd name) (with_stack b (open_of n name attrs children ∷ o ∷ os)) (with_stack (record b { mode = mode }) (grown o name attrs children ∷ os))
  pub ends : end_of name ≡ AnEnd name ∷ []
  pub unswitched : switch_at name ≡ None
  pub unlisted : Unlisted name

-- the same of an element that puts a marker into the list of active formatting elements, and holds what a body holds
pub record IsMarkedPart (mode : Mode) (parent : List ℕ) (after : Mode) (name : List ℕ) : Type 0 where
  pub opens : (b : Building) (attrs bs : List Attr) (n : ℕ) (children : Trees) (o : Open) (os : List Open) →
      RunsIn mode (AStart name attrs false) (with_stack b (open_of n parent bs children ∷ o ∷ os))
      (record (inserted name attrs (with_stack b (open_of n parent bs children ∷ o ∷ os))) { mode = after; listed = Marker ∷ b.listed })
  pub closes : (b : Building) (attrs : List Attr) (n : ℕ) (children : Trees) (o : Open) (os : List Open) →
      RunsIn after (AnEnd name) (with_stack b (open_of n name attrs children ∷ o ∷ os)) (with_stack (record b { mode = mode; listed = cleared b.listed }) (grown o name attrs children ∷ os))
  pub ends : end_of name ≡ AnEnd name ∷ []
  pub unswitched : switch_at name ≡ None
  pub gives : Gives after name
  pub marker : is_among name markers ≡ true
  pub unlisted : is_among name formatting ≡ false

-- ---- tables and forms, by their names

pub record IsTable (name : List ℕ) : Type 0 where
  pub opens : (attrs : List Attr) (b : Building) → NoP b → Runs (AStart name attrs false) b (record (inserted name attrs b) { mode = InTable; frameset_ok = false })
  -- the mode is that which the stack gives
  pub closes : (b : Building) (attrs : List Attr) (n : ℕ) (children : Trees) (o : Open) (os : List Open) (mode : Mode) → mode_of b.context (names_of_stack (o ∷ os)) ≡ Some mode →
      RunsIn InTable (AnEnd name) (with_stack b (open_of n name attrs children ∷ o ∷ os)) (with_stack (record b { mode = mode }) (grown o name attrs children ∷ os))
  pub ends : end_of name ≡ AnEnd name ∷ []
  pub unswitched : switch_at name ≡ None
  pub unlisted : Unlisted name

pub record IsForm (name : List ℕ) : Type 0 where
  pub opens : (attrs : List Attr) (b : Building) → b.form ≡ None → NoP b → Runs (AStart name attrs false) b (record (inserted name attrs b) { form = Some b.next })
  pub closes : (b c : Building) → form_ended b.form b ≡ Some c → Runs (AnEnd name) b c
  pub ends : end_of name ≡ AnEnd name ∷ []
  pub unswitched : switch_at name ≡ None
  pub unlisted : Unlisted name
  pub passes : Passes name

abbrev pub with_one : Open → ℕ → Open
with_one o c = record o { children = with_char o.children c }

-- in a mode, where the current node has that name, white space becomes a text
abbrev pub KeepsSpace : Mode → List ℕ → Type 0
KeepsSpace mode name = (b : Building) (n : ℕ) (attrs : List Attr) (children : Trees) (os : List Open) (c : ℕ) → is_space c ≡ true →
    RunsIn mode (AChar c) (with_stack b (open_of n name attrs children ∷ os)) (with_stack b (with_one (open_of n name attrs children) c ∷ os))
