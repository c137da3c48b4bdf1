-- The grammar of the script lines that edit the tree.
use Rattle.std.specs.Prelude.{◌≡◌, ◌≢◌, ◌==◌, ℕ, true, List, codes}
use Rattle.std.specs.List.{list_all, slice_split}
use Rattle.dom_links.specs.Forest.{Forest}
use Rattle.dom_links.specs.declared.gap.Place.{Place}
use Rattle.dom_links.specs.declared.gap.Place.TheVariants.{After, Around, AtEnd, AtFront, Before, InsteadOfChildren, InsteadOfNode}
use Rattle.dom_markup.specs.Documents.{IsSpelled}
use Rattle.dom_markup.specs.Refusals.{BeginsTooManyNodes}
use Rattle.dom_script.specs.declared.script.edit_line.EditLine.{EditLine}
use Rattle.dom_script.specs.declared.script.edit_line.EditLine.TheVariants.{SetAttr, RemoveAttr, Rename, AddClass, RemoveClass, SetText, Strip, Put, Remove, Unwrap, Normalize}
use Rattle.dom_script.specs.Words.{HasArgument, HasName, HasNoArgument, HasNoName, is_name}

-- The text is a name, one space and the value; or a name alone, and the value is empty.
abbrev pub HasPair : List ℕ → List ℕ → List ℕ → Type 0
HasPair text name value = HasArgument text name value × (is_name name ≡ true)

-- The text is no such pair.
abbrev pub HasNoPair : List ℕ → Type 0
HasNoPair text = (name value : List ℕ) → HasPair text name value → ⊥

-- The pieces of the text between single spaces.
abbrev pub names_in : List ℕ → List (List ℕ)
names_in text = slice_split (λ b. b == 32) text

-- The line is the word and markup, and this is the parsed markup.
abbrev pub HasMarkup : List ℕ → List ℕ → Forest → Type 0
HasMarkup line word read = (argument : List ℕ) × HasArgument line word argument × IsSpelled argument read

-- The line isn't the word and markup.
abbrev pub HasNoMarkup : List ℕ → List ℕ → Type 0
HasNoMarkup line word = (read : Forest) → HasMarkup line word read → ⊥

-- The markup after the word has more nodes than there are ids.
abbrev pub HasLargeMarkup : List ℕ → Type 0
HasLargeMarkup line = (word : List ℕ) × (argument : List ℕ) × HasArgument line word argument × BeginsTooManyNodes argument

-- The line inserts this parsed markup at this place.
abbrev pub IsPut : List ℕ → Place → Forest → Type 0
IsPut line InsteadOfChildren read = HasMarkup line (codes "set-html") read
IsPut line AtEnd read = HasMarkup line (codes "append-html") read
IsPut line AtFront read = HasMarkup line (codes "prepend-html") read
IsPut line Before read = HasMarkup line (codes "before-html") read
IsPut line After read = HasMarkup line (codes "after-html") read
IsPut line InsteadOfNode read = HasMarkup line (codes "replace-html") read
IsPut line Around read = ⊥

-- The line inserts no markup.
abbrev pub IsNoPut : List ℕ → Type 0
IsNoPut line = (place : Place) (read : Forest) → IsPut line place read → ⊥

-- The line is this edit.
abbrev pub IsEdit : List ℕ → EditLine → Type 0
IsEdit line (SetAttr name value) = (argument : List ℕ) × HasArgument line (codes "set-attr") argument × HasPair argument name value
IsEdit line (RemoveAttr name) = HasName line (codes "remove-attr") name
IsEdit line (Rename name) = HasName line (codes "rename") name
IsEdit line (AddClass classes) = HasArgument line (codes "add-class") classes
IsEdit line (RemoveClass classes) = HasArgument line (codes "remove-class") classes
IsEdit line (SetText text) = HasArgument line (codes "set-text") text
IsEdit line (Strip names) = HasArgument line (codes "strip") names × (list_all is_name (names_in names) ≡ true)
IsEdit line (Put place read) = IsPut line place read
IsEdit line Remove = line ≡ codes "remove"
IsEdit line Unwrap = line ≡ codes "unwrap"
IsEdit line Normalize = line ≡ codes "normalize"

-- The line is no edit.
abbrev pub IsNoEdit : List ℕ → Type 0
IsNoEdit line = (edit : EditLine) → IsEdit line edit → ⊥

-- The line is no edit without an argument.
abbrev pub IsNoBareEdit : List ℕ → Type 0
IsNoBareEdit line = (line ≢ codes "remove") × (line ≢ codes "unwrap") × (line ≢ codes "normalize")

-- The line is no edit with a name.
abbrev pub IsNoNamedEdit : List ℕ → Type 0
IsNoNamedEdit line = HasNoName line (codes "remove-attr") × HasNoName line (codes "rename")

-- The line is no edit with a text.
abbrev pub IsNoTextEdit : List ℕ → Type 0
IsNoTextEdit line = HasNoArgument line (codes "add-class") × HasNoArgument line (codes "remove-class") × HasNoArgument line (codes "set-text")

-- The line doesn't set an attribute.
abbrev pub IsNoSetAttr : List ℕ → Type 0
IsNoSetAttr line = (name value : List ℕ) → IsEdit line (SetAttr name value) → ⊥

-- The line doesn't replace elements by their children.
abbrev pub IsNoStrip : List ℕ → Type 0
IsNoStrip line = (names : List ℕ) → IsEdit line (Strip names) → ⊥
