-- Trees whose text is calm byte by byte.
use Rattle.std.specs.Prelude.{◌≡◌, ◌==◌, ℕ, true, false, List, [], ◌∷◌, ◌++◌}
use Rattle.std.specs.Str.{chars}
use Rattle.dom_markup.specs.ValueTrees.{Attribute, ValueTrees}
use Rattle.dom_markup.specs.ValueTrees.ValueTrees.{no_trees, text_node, comment_node, doctype_node, element_node}
use Rattle.calm_pages.specs.Calm.{begins_other_tag, is_calm_text}

-- in front of any calm text it makes a calm text
pub record Front (text : List ℕ) : Type 0 where
  pub front : (rest : List ℕ) → is_calm_text rest ≡ true → is_calm_text (text ++ rest) ≡ true

-- a character that a page can spell
abbrev pub IsSpelled : ℕ → Type 0
IsSpelled c = ((c == 0) ≡ false) × ((c == 13) ≡ false)

abbrev pub AreSpelled : List ℕ → Type 0
AreSpelled [] = Unit {0}
AreSpelled (c ∷ cs) = IsSpelled c × AreSpelled cs

-- a name of lower case letters and the like, that is not the beginning of a tag that calm pages lack
pub record IsQuietName (name : List ℕ) : Type 0 where
  pub quiet : Front name
  pub tag : (rest : List ℕ) → begins_other_tag (name ++ (62 ∷ rest)) ≡ false
  pub spaced_tag : (rest : List ℕ) → begins_other_tag (name ++ (32 ∷ rest)) ≡ false

abbrev pub AreQuiet : List Attribute → Type 0
AreQuiet [] = Unit {0}
AreQuiet (attribute ∷ later) = Front attribute.name × AreSpelled (chars attribute.value) × AreQuiet later

-- texts, values and names can be spelled
abbrev pub IsSpellable : ValueTrees → Type 0
IsSpellable no_trees = Unit {0}
IsSpellable (text_node contents later) = AreSpelled (chars contents) × IsSpellable later
IsSpellable (comment_node contents later) = ⊥
IsSpellable (doctype_node name public system later) = ⊥
IsSpellable (element_node name attributes children later) = IsQuietName name × AreQuiet attributes × IsSpellable children
    × IsSpellable later
