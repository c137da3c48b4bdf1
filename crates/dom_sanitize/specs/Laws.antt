-- Facts about every sanitized tree.
use Rattle.std.specs.Prelude.{ℕ, ◌≡◌, true, List, [], ◌++◌, Some, slice_get}
use Rattle.std.specs.Option.{option_map}
use Rattle.dom_nodes.specs.declared.node_data.NodeData.TheVariants.{Text}
use Rattle.dom_links.specs.Forest.{Forest, children_of}
use Rattle.dom_links.specs.Lists.{is_member}
use Rattle.dom_links.specs.Sound.{IsForest}
use Rattle.dom_links.specs.Texts.{text_at, text_of}
use Rattle.dom_links.specs.Trees.{NoTrees, Tree, Trees, trees, descendants_in_order}
use Rattle.dom_sanitize.specs.Clean.{Cleaned, Lists, fate_at, kept}
use Rattle.dom_sanitize.specs.declared.plan.Fate.{Fate}
use Rattle.dom_sanitize.specs.declared.plan.Fate.TheVariants.{Stay, Vanish}

-- The node is a text or an allowed element, and all its attributes are allowed.
pub record IsAllowed (allow : Lists) (forest : Forest) (n : ℕ) : Type 0 where
  pub stays : fate_at allow forest n ≡ Stay
  pub attrs : option_map (kept allow) (slice_get forest.content n) ≡ slice_get forest.content n

-- Each node below the root is allowed.
abbrev pub AreAllowed : Lists → Forest → Type 0
AreAllowed allow forest = (n : ℕ) → is_member n (descendants_in_order forest 0) ≡ true → IsAllowed allow forest n

-- Each node below the root was below the root before.
abbrev pub NothingAppears : (old new : Forest) → Type 0
NothingAppears old new = (n : ℕ) → is_member n (descendants_in_order new 0) ≡ true → is_member n (descendants_in_order old 0) ≡ true

-- Sanitizing the forest again changes nothing.
abbrev pub StaysClean : Lists → Forest → Type 0
StaysClean allow forest = (again : Forest) → IsForest again → Cleaned allow forest again → again ≡ forest

-- The lists make only one forest of this one.
abbrev pub HasOneClean : Lists → Forest → Type 0
HasOneClean allow forest = (a b : Forest) → IsForest a → IsForest b → Cleaned allow forest a → Cleaned allow forest b → a ≡ b

-- The text of a node that isn't removed with everything below it.
abbrev pub if_left : Fate → List ℕ → List ℕ
if_left Vanish text = []
if_left _ text = text

-- The text of trees without the nodes that are removed with everything below them.
abbrev pub left_text : Lists → Forest → Trees → List ℕ
left_text allow forest NoTrees = []
left_text allow forest (Tree n contents children later) =
    if_left (fate_at allow forest n) (text_at forest n ++ left_text allow forest children) ++ left_text allow forest later

-- The text of the root is what it was, without the text of the nodes that were removed with
-- everything below them.
abbrev pub KeepsText : Lists → (old new : Forest) → Type 0
KeepsText allow old new = text_of new 0 ≡ text_at old 0 ++ left_text allow old (trees old (children_of old 0))

-- Below the root there are only texts.
abbrev pub HoldsTextsAlone : Forest → Type 0
HoldsTextsAlone forest = (n : ℕ) → is_member n (descendants_in_order forest 0) ≡ true → (contents : List ℕ) × (slice_get forest.content n ≡ Some (Text contents))

-- The law is true of a forest `old` and the sanitized forest `new`.
abbrev pub OnceCleaned : Lists → Forest → Forest → Type 0 → Type 0
OnceCleaned allow old new Law = IsForest old → IsForest new → Cleaned allow old new → Law
