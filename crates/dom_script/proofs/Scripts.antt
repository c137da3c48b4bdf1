-- A script has one reading at most.
use Rattle.std.proofs.Common.{◌≡◌, ◌+◌, ℕ, zero, suc, List, [], ◌∷◌, ◌++◌, inl, inr, refl, sym, ◌∙◌, ap, codes, length, arith, subst}
use Rattle.std.specs.Prelude.{if◌then◌else◌}
use Rattle.std.specs.Str.{bytes_eq, chars}
use Rattle.dom_selectors.specs.Syntax.{SelectorList}
use Rattle.dom_selectors.specs.Grammar.{StandsFor}
use Rattle.dom_script.specs.declared.script.Command.{Command}
use Rattle.dom_script.specs.declared.script.Command.TheVariants.{Nothing, Query, Navigate, Render, Attr, Edit, Sanitize}
use Rattle.dom_script.specs.declared.script.edit_line.EditLine.TheVariants.{SetAttr, RemoveAttr, Rename, AddClass, RemoveClass, SetText, Strip, Put, Remove, Unwrap, Normalize}
use Rattle.dom_script.specs.declared.script.Navigation.TheVariants.{Parent, Children, Ancestors, Next, Prev, First, Last}
use Rattle.dom_script.specs.declared.script.QueryKind.{QueryKind}
use Rattle.dom_script.specs.declared.script.QueryKind.TheVariants.{Select, Find, Filter, Add}
use Rattle.dom_script.specs.declared.script.Rendering.TheVariants.{Count, Text, Formatted, Html, InnerHtml, Document}
use Rattle.dom_script.specs.Script.{AreCommands, FirstBad, HasSelector, IsBad, IsCommand, IsNoScript, IsScript, lines_of, navigation_word, query_word, rendering_word}
use Rattle.dom_links.specs.Forest.{Forest}
use Rattle.dom_links.specs.declared.gap.Place.{Place}
use Rattle.dom_links.specs.declared.gap.Place.TheVariants.{After, Around, AtEnd, AtFront, Before, InsteadOfChildren, InsteadOfNode}
use Rattle.dom_markup.specs.Documents.{IsSpelled}
use Rattle.dom_markup.specs.Markup.{Spells}
use Rattle.dom_markup.specs.Numbered.{document_of}
use Rattle.dom_markup.specs.ValueTrees.{ValueTrees}
use Rattle.dom_script.specs.EditLine.{HasMarkup, HasPair}
use Rattle.dom_script.specs.Words.{HasArgument}
use Rattle.dom_script.proofs.Lines.{argument-once}
use Rattle.dom_script.proofs.Names.{pair-once, word_in}

-- a text stands for one selector at most
abbrev pub OneSelector : Type 0
OneSelector = (text : List ℕ) (a b : SelectorList) → StandsFor text a → StandsFor text b → a ≡ b

-- a text spells one list of trees at most
abbrev pub OneReading : Type 0
OneReading = (text : List ℕ) (trees others : ValueTrees) → Spells text trees → Spells text others → trees ≡ others

-- what a word asks for: a command alone, one with a selector behind the word, one that is made of what stands behind it, or
-- that sets an attribute
data Reading : Type 0 where
  nothing : Reading
  alone : Command → Reading
  kind : QueryKind → Reading
  taking : List ℕ → (List ℕ → Command) → Reading
  setting : Reading
  putting : List ℕ → Place → Reading

-- what the word of one of these asks for, or the other reading where it is none of theirs
abbrev among : {A : Type 0} → (A → List ℕ) → (A → Reading) → List A → List ℕ → Reading → Reading
among word_of asks [] word other = other
among word_of asks (known ∷ more) word other = if bytes_eq word (word_of known) then asks known else among word_of asks more word other

-- the table of words
abbrev reading : List ℕ → Reading
reading word =
    if bytes_eq word [] then alone Nothing
    else among query_word kind (Select ∷ Find ∷ Filter ∷ Add ∷ []) word
    (among navigation_word (λ navigation. alone (Navigate navigation)) (Parent ∷ Children ∷ Ancestors ∷ Next ∷ Prev ∷ First ∷ Last ∷ []) word
    (among rendering_word (λ rendering. alone (Render rendering)) (Count ∷ Text ∷ Formatted ∷ Html ∷ InnerHtml ∷ Document ∷ []) word
    (if bytes_eq word (codes "attr") then taking (codes "attr") Attr
    else if bytes_eq word (codes "set-attr") then setting
    else if bytes_eq word (codes "remove-attr") then taking (codes "remove-attr") (λ name. Edit (RemoveAttr name))
    else if bytes_eq word (codes "rename") then taking (codes "rename") (λ name. Edit (Rename name))
    else if bytes_eq word (codes "add-class") then taking (codes "add-class") (λ text. Edit (AddClass text))
    else if bytes_eq word (codes "remove-class") then taking (codes "remove-class") (λ text. Edit (RemoveClass text))
    else if bytes_eq word (codes "set-text") then taking (codes "set-text") (λ text. Edit (SetText text))
    else if bytes_eq word (codes "strip") then taking (codes "strip") (λ names. Edit (Strip names))
    else if bytes_eq word (codes "set-html") then putting (codes "set-html") InsteadOfChildren
    else if bytes_eq word (codes "append-html") then putting (codes "append-html") AtEnd
    else if bytes_eq word (codes "prepend-html") then putting (codes "prepend-html") AtFront
    else if bytes_eq word (codes "before-html") then putting (codes "before-html") Before
    else if bytes_eq word (codes "after-html") then putting (codes "after-html") After
    else if bytes_eq word (codes "replace-html") then putting (codes "replace-html") InsteadOfNode
    else if bytes_eq word (codes "remove") then alone (Edit Remove)
    else if bytes_eq word (codes "unwrap") then alone (Edit Unwrap)
    else if bytes_eq word (codes "normalize") then alone (Edit Normalize)
    else if bytes_eq word (codes "sanitize") then taking (codes "sanitize") Sanitize
    else nothing)))

-- a selector stands behind the word, and the command is made of it
record IsQueryRead (line : List ℕ) (how : QueryKind) (command : Command) : Type 0 where
  selector : SelectorList
  has : HasSelector line (query_word how) selector
  is : command ≡ Query how selector

-- the command is made of what stands behind the word
record IsTaken (line word : List ℕ) (make : List ℕ → Command) (command : Command) : Type 0 where
  argument : List ℕ
  has : HasArgument line word argument
  is : command ≡ make argument

-- a name and a value stand behind the word
record IsSet (line : List ℕ) (command : Command) : Type 0 where
  argument : List ℕ
  name : List ℕ
  value : List ℕ
  has : HasArgument line (codes "set-attr") argument
  pair : HasPair argument name value
  is : command ≡ Edit (SetAttr name value)

-- markup stands behind the word
record IsPutIn (line word : List ℕ) (place : Place) (command : Command) : Type 0 where
  read : Forest
  has : HasMarkup line word read
  is : command ≡ Edit (Put place read)

abbrev IsReadAs : Reading → List ℕ → Command → Type 0
IsReadAs nothing line command = ⊥
IsReadAs (alone known) line command = command ≡ known
IsReadAs (kind how) line command = IsQueryRead line how command
IsReadAs (taking word make) line command = IsTaken line word make command
IsReadAs setting line command = IsSet line command
IsReadAs (putting word place) line command = IsPutIn line word place command

-- a line that is the word and what the table has for it
at_word : (line word : List ℕ) (command : Command) → line ≡ word → IsReadAs (reading (word_in word)) word command → IsReadAs (reading (word_in line)) line command
at_word line word command is known = subst (λ (l : List ℕ). IsReadAs (reading (word_in l)) l command) (sym is) known

-- a line with an argument behind the word, of which the table has this
with_argument : (line word argument : List ℕ) (r : Reading) (command : Command) → HasArgument line word argument
    → reading (word_in (word ++ 32 ∷ argument)) ≡ r → reading (word_in word) ≡ r → IsReadAs r line command → IsReadAs (reading (word_in line)) line command
with_argument line word argument r command (inl is) spaced bare known = subst (λ k. IsReadAs k line command) (sym (ap (λ (l : List ℕ). reading (word_in l)) is ∙ spaced)) known
with_argument line word argument r command (inr p) spaced bare known = subst (λ k. IsReadAs k line command) (sym (ap (λ (l : List ℕ). reading (word_in l)) p.0 ∙ bare)) known

query_read : (line : List ℕ) (how : QueryKind) (selector : SelectorList) → HasSelector line (query_word how) selector → IsQueryRead line how (Query how selector)
query_read line how selector h = record { selector = selector; has = h; is = refl }

taken : (line word argument : List ℕ) (make : List ℕ → Command) → HasArgument line word argument → IsTaken line word make (make argument)
taken line word argument make h = record { argument = argument; has = h; is = refl }

with_text : (line word text : List ℕ) (make : List ℕ → Command) → HasArgument line word text
    → reading (word_in (word ++ 32 ∷ text)) ≡ taking word make → reading (word_in word) ≡ taking word make → IsReadAs (reading (word_in line)) line (make text)
with_text line word text make has spaced bare = with_argument line word text (taking word make) (make text) has spaced bare (taken line word text make has)

with_markup : (line word : List ℕ) (place : Place) (read : Forest) (h : HasMarkup line word read)
    → reading (word_in (word ++ 32 ∷ h.0)) ≡ putting word place → reading (word_in word) ≡ putting word place → IsReadAs (reading (word_in line)) line (Edit (Put place read))
with_markup line word place read h spaced bare = with_argument line word h.0 (putting word place) (Edit (Put place read)) h.1 spaced bare (record { read = read; has = h; is = refl })

-- each command is what the table has for its word
is_read : (line : List ℕ) (command : Command) → IsCommand line command → IsReadAs (reading (word_in line)) line command
is_read line Nothing p = at_word line [] Nothing p refl
is_read line (Query Select selector) p = with_argument line (codes "select") p.0 (kind Select) (Query Select selector) p.1 refl refl (query_read line Select selector p)
is_read line (Query other selector) p = with_argument line (query_word other) p.0 (kind other) (Query other selector) p.1 refl refl (query_read line other selector p)
is_read line (Navigate Parent) p = at_word line (codes "parent") (Navigate Parent) p refl
is_read line (Navigate other) p = at_word line (navigation_word other) (Navigate other) p refl
is_read line (Render Count) p = at_word line (codes "count") (Render Count) p refl
is_read line (Render other) p = at_word line (rendering_word other) (Render other) p refl
is_read line (Attr name) p = with_text line (codes "attr") name Attr p.0 refl refl
is_read line (Edit (SetAttr name value)) p =
    with_argument line (codes "set-attr") p.0 setting (Edit (SetAttr name value)) p.1 refl refl (record { argument = p.0; name = name; value = value; has = p.1; pair = p.2; is = refl })
is_read line (Edit (RemoveAttr name)) p = with_text line (codes "remove-attr") name (λ t. Edit (RemoveAttr t)) p.0 refl refl
is_read line (Edit (Rename name)) p = with_text line (codes "rename") name (λ t. Edit (Rename t)) p.0 refl refl
is_read line (Edit (AddClass classes)) p = with_text line (codes "add-class") classes (λ t. Edit (AddClass t)) p refl refl
is_read line (Edit (RemoveClass classes)) p = with_text line (codes "remove-class") classes (λ t. Edit (RemoveClass t)) p refl refl
is_read line (Edit (SetText text)) p = with_text line (codes "set-text") text (λ t. Edit (SetText t)) p refl refl
is_read line (Edit (Strip names)) p = with_text line (codes "strip") names (λ t. Edit (Strip t)) p.0 refl refl
is_read line (Edit (Put InsteadOfChildren read)) p = with_markup line (codes "set-html") InsteadOfChildren read p refl refl
is_read line (Edit (Put AtEnd read)) p = with_markup line (codes "append-html") AtEnd read p refl refl
is_read line (Edit (Put AtFront read)) p = with_markup line (codes "prepend-html") AtFront read p refl refl
is_read line (Edit (Put Before read)) p = with_markup line (codes "before-html") Before read p refl refl
is_read line (Edit (Put After read)) p = with_markup line (codes "after-html") After read p refl refl
is_read line (Edit (Put InsteadOfNode read)) p = with_markup line (codes "replace-html") InsteadOfNode read p refl refl
is_read line (Edit (Put Around read)) p = absurd p
is_read line (Edit Remove) p = at_word line (codes "remove") (Edit Remove) p refl
is_read line (Edit Unwrap) p = at_word line (codes "unwrap") (Edit Unwrap) p refl
is_read line (Edit Normalize) p = at_word line (codes "normalize") (Edit Normalize) p refl
is_read line (Sanitize lists) p = with_text line (codes "sanitize") lists Sanitize p.0 refl refl

-- of a text one forest is read at most
read-once : OneReading → (text : List ℕ) (a b : Forest) → IsSpelled text a → IsSpelled text b → a ≡ b
read-once unique text a b (trees, p, is) (others, q, so) = is ∙ ap document_of (unique text trees others p q) ∙ sym so

reading-once : OneReading → OneSelector → (r : Reading) (line : List ℕ) (a b : Command) → IsReadAs r line a → IsReadAs r line b → a ≡ b
reading-once unique one nothing line a b p q = absurd p
reading-once unique one (alone known) line a b p q = p ∙ sym q
reading-once unique one (kind how) line a b p q =
    let same = argument-once line (query_word how) p.has.0 q.has.0 p.has.1 q.has.1 in
    p.is ∙ ap (Query how) (one (chars q.has.0) p.selector q.selector (subst (λ text. StandsFor (chars text) p.selector) same p.has.2) q.has.2) ∙ sym q.is
reading-once unique one (putting word place) line a b p q =
    let same = argument-once line word p.has.0 q.has.0 p.has.1 q.has.1 in
    p.is ∙ ap (λ read. Edit (Put place read)) (read-once unique q.has.0 p.read q.read (subst (λ text. IsSpelled text p.read) same p.has.2) q.has.2) ∙ sym q.is
reading-once unique one setting line a b p q =
    let same = argument-once line (codes "set-attr") p.argument q.argument p.has q.has in
    let parts = pair-once q.argument p.name q.name p.value q.value (subst (λ text. HasPair text p.name p.value) same p.pair) q.pair in
    p.is ∙ (ap (λ n. Edit (SetAttr n p.value)) parts.0 ∙ ap (λ v. Edit (SetAttr q.name v)) parts.1) ∙ sym q.is
reading-once unique one (taking word make) line a b p q = p.is ∙ ap make (argument-once line word p.argument q.argument p.has q.has) ∙ sym q.is

-- a line asks for one command at most
pub command-once : OneReading → OneSelector → (line : List ℕ) (a b : Command) → IsCommand line a → IsCommand line b → a ≡ b
command-once unique one line a b p q = reading-once unique one (reading (word_in line)) line a b (is_read line a p) (is_read line b q)

pub commands-once : OneReading → OneSelector → (lines : List (List ℕ)) (a b : List Command) → AreCommands lines a → AreCommands lines b → a ≡ b
commands-once unique one [] [] [] p q = refl
commands-once unique one [] [] (d ∷ ds) p q = absurd q
commands-once unique one [] (c ∷ cs) b p q = absurd p
commands-once unique one (line ∷ lines) [] b p q = absurd p
commands-once unique one (line ∷ lines) (c ∷ cs) [] p q = absurd q
commands-once unique one (line ∷ lines) (c ∷ cs) (d ∷ ds) p q =
    ap (λ x. x ∷ cs) (command-once unique one line c d p.0 q.0) ∙ ap (λ xs. d ∷ xs) (commands-once unique one lines cs ds p.1 q.1)

pub script-once : OneReading → OneSelector → (script : List ℕ) (a b : List Command) → IsScript script a → IsScript script b → a ≡ b
script-once unique one script a b p q = commands-once unique one (lines_of script) a b p.are_commands q.are_commands

-- one of the lines asks for no command
good-line : (good later : List (List ℕ)) (bad : List ℕ) (commands : List Command) → AreCommands (good ++ bad ∷ later) commands → IsBad bad → ⊥
good-line [] later bad [] are is_bad = are
good-line [] later bad (c ∷ cs) are is_bad = is_bad c are.0
good-line (line ∷ good) later bad [] are is_bad = are
good-line (line ∷ good) later bad (c ∷ cs) are is_bad = good-line good later bad cs are.1 is_bad

-- two first bad lines have as many lines before them
bad-once : (good more : List (List ℕ)) (cs ds : List Command) (bad worse : List ℕ) (later last : List (List ℕ))
    → good ++ bad ∷ later ≡ more ++ worse ∷ last → AreCommands good cs → AreCommands more ds → IsBad bad → IsBad worse → length good ≡ length more
bad-once [] [] cs ds bad worse later last e p q x y = refl
bad-once [] (m ∷ more) cs [] bad worse later last e p q x y = absurd q
bad-once [] (m ∷ more) cs (d ∷ ds) bad worse later last e p q x y = let same : bad ≡ m = cc in absurd (x d (subst (λ l. IsCommand l d) (sym same) q.0))
bad-once (g ∷ good) [] [] ds bad worse later last e p q x y = absurd p
bad-once (g ∷ good) [] (c ∷ cs) ds bad worse later last e p q x y = let same : worse ≡ g = cc in absurd (y c (subst (λ l. IsCommand l c) (sym same) p.0))
bad-once (g ∷ good) (m ∷ more) [] ds bad worse later last e p q x y = absurd p
bad-once (g ∷ good) (m ∷ more) (c ∷ cs) [] bad worse later last e p q x y = absurd q
bad-once (g ∷ good) (m ∷ more) (c ∷ cs) (d ∷ ds) bad worse later last e p q x y =
    let tails : good ++ bad ∷ later ≡ more ++ worse ∷ last = cc in
    let same = bad-once good more cs ds bad worse later last tails p.1 q.1 x y in
    omega arith

first-bad-once : (lines : List (List ℕ)) (n m : ℕ) → FirstBad lines n → FirstBad lines m → n ≡ m
first-bad-once lines n m a b =
    let same = bad-once a.good b.good a.commands b.commands a.bad b.bad a.later b.later (sym a.is ∙ b.is) a.are_good b.are_good a.is_bad b.is_bad in
    a.counted ∙ (ap (λ k. k + 1) same ∙ sym b.counted)

pub no-script-once : (script : List ℕ) (n m : ℕ) → IsNoScript script n → IsNoScript script m → n ≡ m
no-script-once script zero zero a b = refl
no-script-once script zero (suc m) a b = absurd (a b.0)
no-script-once script (suc n) zero a b = absurd (b a.0)
no-script-once script (suc n) (suc m) a b = first-bad-once (lines_of script) (suc n) (suc m) a.1 b.1

-- a script isn't refused
pub no-script-none : (script : List ℕ) (commands : List Command) (n : ℕ) → IsScript script commands → IsNoScript script n → ⊥
no-script-none script commands zero a b = b a.utf8
no-script-none script commands (suc n) a b =
    let bad = b.1 in
    good-line bad.good bad.later bad.bad commands (subst (λ lines. AreCommands lines commands) bad.is a.are_commands) bad.is_bad
