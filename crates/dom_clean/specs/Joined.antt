-- Trees that can be written, in which texts side by side may be one.
use Rattle.std.specs.Prelude.{◌≡◌, ◌≢◌, ℕ, Bool, true, false, List, [], ◌∷◌}
use Rattle.std.specs.Str.{IsUtf8, chars}
use Rattle.dom_nodes.specs.Words.{is_among}
use Rattle.dom_markup.specs.Bytes.{folded}
use Rattle.dom_markup.specs.Markup.{IsTagName, has_name}
use Rattle.dom_markup.specs.Names.{raw_names, text_names, void_names}
use Rattle.dom_markup.specs.Plain.{IsPlainName}
use Rattle.dom_markup.specs.ValueTrees.{Attribute, ValueTrees}
use Rattle.dom_markup.specs.ValueTrees.ValueTrees.{no_trees, text_node, comment_node, doctype_node, element_node}
use Rattle.page_trees.specs.ElementKinds.{kind_of}
use Rattle.page_trees.specs.declared.element_kinds.ElementCategory.{ElementCategory}
use Rattle.page_trees.specs.declared.element_kinds.ElementCategory.TheVariants.{Verbatim}
use Rattle.dom_clean.specs.Spelled.{AreSpelled, Front, IsQuietName}

-- an element that may hold two texts may hold them as one
abbrev pub merges : ElementCategory → Bool
merges Verbatim = false
merges kind = true

-- an element that is read as markup, by its own name
abbrev pub IsMarkupName : List ℕ → Type 0
IsMarkupName name = IsTagName name × (folded name ≡ name) × (is_among name raw_names ≡ false) × (is_among name text_names ≡ false)
    × (merges (kind_of name) ≡ true)

-- a text as a page can have it
pub record IsWritable (text : List ℕ) : Type 0 where
  pub utf8 : IsUtf8 text
  pub spelled : AreSpelled (chars text)

-- attributes of plain names, none of which comes twice
abbrev pub AreTidyAttributes : List Attribute → Type 0
AreTidyAttributes [] = Unit {0}
AreTidyAttributes (attribute ∷ later) =
    IsPlainName attribute.name × Front attribute.name × IsWritable attribute.value × (has_name attribute.name later ≡ false)
    × AreTidyAttributes later

-- texts, and elements that are read as markup; void elements have no children
abbrev pub AreTidy : ValueTrees → Type 0
AreTidy no_trees = Unit {0}
AreTidy (text_node contents later) = (contents ≢ []) × IsWritable contents × AreTidy later
AreTidy (comment_node contents later) = ⊥
AreTidy (doctype_node name public system later) = ⊥
AreTidy (element_node name attributes children later) =
    (IsMarkupName name × IsQuietName name) × AreTidyAttributes attributes × (is_among name void_names ≡ true → children ≡ no_trees)
    × AreTidy children × AreTidy later
