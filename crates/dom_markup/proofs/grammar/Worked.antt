-- What the definitions say of small texts.
use Rattle.std.proofs.Common.{◌≡◌, ℕ, List, [], ◌∷◌, refl, sym, inl, None}
use Rattle.std.proofs.lemmas.Bool.{true≢false}
use Rattle.std.specs.Prelude.{codes}
use Rattle.dom_nodes.specs.declared.node_data.NodeData.TheVariants.{Document, Text}
use Rattle.dom_markup.specs.Names.{void_names, raw_names, text_names}
use Rattle.dom_markup.specs.ValueTrees.{Attribute, ValueTrees}
use Rattle.dom_markup.specs.ValueTrees.ValueTrees.{no_trees, text_node, element_node}
use Rattle.dom_markup.specs.Markup.{NamesElement, Spells, kept_after}
use Rattle.dom_markup.specs.Numbered.{read_element, document_of}

abbrev paragraph : ValueTrees
paragraph = element_node (codes "p") [] (text_node (codes "a") no_trees) no_trees

upper_p : NamesElement (codes "P") (codes "p")
unfolding void_names raw_names text_names
upper_p = ((refl, refl), refl)

lower_p : NamesElement (codes "p") (codes "p")
unfolding void_names raw_names text_names
lower_p = ((refl, refl), refl)

spelled : Spells (codes "<P>a</p >") paragraph
unfolding void_names raw_names text_names
spelled = record {
  items = (
    codes "a</p >",
    record { written = codes "P"; more = codes ">a</p >"; all = []; is = refl; names = upper_p; ends = ([], refl, inl refl); kept = refl },
    (
      codes "</p >",
      (λ e. cc, refl, refl),
      ([], record { written = codes "p"; space = codes " "; is = refl; names = lower_p; is_space = refl }, refl),
    ),
  );
  in_place = (λ v. absurd (true≢false (sym v)), tt, tt);
}

-- a root, and below it the element, and below that the text
numbered : document_of paragraph ≡ record {
  content = Document ∷ read_element (codes "p") [] None ∷ Text (codes "a") ∷ [];
  children = (1 ∷ []) ∷ (2 ∷ []) ∷ [] ∷ [];
  runs = (0 ∷ []) ∷ [] ∷ [] ∷ [];
}
unfolding document_of
numbered = refl

abbrev attribute : List ℕ → List ℕ → Attribute
attribute name value = record { name = name; value = value }

-- two texts beside an element are numbered in order of start
numbered_siblings : document_of (element_node (codes "b") [] (text_node (codes "x") no_trees) (text_node (codes "y") no_trees)) ≡ record {
  content = Document ∷ read_element (codes "b") [] None ∷ Text (codes "x") ∷ Text (codes "y") ∷ [];
  children = (1 ∷ 3 ∷ []) ∷ (2 ∷ []) ∷ [] ∷ [] ∷ [];
  runs = (0 ∷ []) ∷ [] ∷ [] ∷ [] ∷ [];
}
unfolding document_of
numbered_siblings = refl

first_kept : kept_after [] (attribute (codes "a") (codes "1") ∷ attribute (codes "b") (codes "2") ∷ attribute (codes "a") (codes "3") ∷ [])
    ≡ attribute (codes "a") (codes "1") ∷ attribute (codes "b") (codes "2") ∷ []
first_kept = refl
