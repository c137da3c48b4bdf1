-- The indexes by type of siblings that are passed in order.
use Rattle.std.proofs.Common.{ℕ, ◌≡◌, ◌+◌, Bool, true, false, cond, List, [], ◌∷◌, Option, Some, None, inl, inr, refl, sym, ap, ◌∙◌, arith, slice_get}
use Rattle.std.specs.Prelude.{count_by, not, if◌then◌else◌, IfSome}
use Rattle.std.specs.BTreeMap.{BTreeMap}
use Rattle.std.specs.Option.{option_map_or}
use Rattle.std.proofs.lemmas.Bool.{cases_Bool}
use Rattle.std.proofs.lemmas.Option.{none-some}
use Rattle.dom_nodes.specs.Attrs.{element_of}
use Rattle.dom_nodes.specs.NameLaws.{same_name-equiv}
use Rattle.dom_nodes.specs.Names.{same_name}
use Rattle.dom_nodes.specs.declared.name.NameParts.{NameParts}
use Rattle.dom_nodes.specs.Elements.{Element as AnElement}
use Rattle.dom_nodes.specs.declared.node_data.NodeData.{NodeData}
use Rattle.dom_nodes.specs.declared.node_data.NodeData.TheVariants.{Element}
use Rattle.dom_links.specs.Forest.{Forest, StandsOnce, siblings}
use Rattle.dom_links.specs.Indexes.{counts, index_at, of_one_type}
use Rattle.dom_links.specs.Laws.{AreLines}
use Rattle.dom_links.specs.Lists.{after}
use Rattle.dom_links.specs.Trees.{in_order}
use Rattle.dom_links.specs.Walk.{later, row_on}
use Rattle.dom_links.proofs.walks.IndexLemmas.{one_more}
use Rattle.dom_select.specs.TypeCounts.{CountsOne, count_of, name_of, type_kind}
use Rattle.dom_select.specs.declared.matcher.type_counts.TypeName.{TypeName}
use Rattle.dom_select.proofs.RightLemmas.{back_from, forth_from}

-- the data is an element's of that name
abbrev pub bears : NameParts → Option NodeData → Bool
bears name o = option_map_or (λ node. option_map_or (λ element. same_name name element.name) (element_of node) false) o false

abbrev pub has_name : Forest → NameParts → ℕ → Bool
has_name forest name n = bears name (slice_get forest.content n)

-- under each name that many elements are counted as stand on one side of the node
abbrev pub AreCounted : Forest → Bool → BTreeMap TypeName ℕ → Option ℕ → Type 0
AreCounted forest before counts None = Unit {0}
AreCounted forest before counts (Some n) = (name : TypeName) → count_of counts name ≡ count_by (has_name forest (name_of name)) (later forest before n)

count_alike : (p q : ℕ → Bool) → ((m : ℕ) → p m ≡ q m) → (ns : List ℕ) → count_by p ns ≡ count_by q ns
count_alike p q h [] = refl
count_alike p q h (n ∷ ns) = one_more p n ns (q n) (h n) ∙ ap (λ k. cond (q n) 1 0 + k) (count_alike p q h ns) ∙ sym (one_more q n ns (q n) refl)

-- names that are the same are borne by the same nodes

named_alike : (a b : NameParts) (o : Option AnElement) → same_name a b ≡ true → option_map_or (λ element. same_name a element.name) o false ≡ option_map_or (λ element. same_name b element.name) o false
named_alike a b None h = refl
named_alike a b (Some e) h = same_name-equiv.congr a b e.name h

bears_alike : (a b : NameParts) (o : Option NodeData) → same_name a b ≡ true → bears a o ≡ bears b o
bears_alike a b None h = refl
bears_alike a b (Some node) h = named_alike a b (element_of node) h

-- the elements of one type are those that bear the name

one_type : (node other : NodeData) (e : AnElement) → element_of node ≡ Some e → of_one_type node other ≡ bears e.name (Some other)
one_type (Element a) (Element b) e h = ap (λ o. option_map_or (λ x. same_name x.name b.name) o false) h
one_type (Element a) _ e h = refl
one_type _ other e h = absurd (none-some e h)

types_are : (node : NodeData) (e : AnElement) (o : Option NodeData) → element_of node ≡ Some e → option_map_or (of_one_type node) o false ≡ bears e.name o
types_are node e None h = refl
types_are node e (Some other) h = one_type node other e h

module _ (forest : Forest) (n : ℕ) (node : NodeData) (e : AnElement) (here : slice_get forest.content n ≡ Some node) (is : element_of node ≡ Some e) where
  typed : (m : ℕ) → option_map_or (λ x. option_map_or (of_one_type x) (slice_get forest.content m) false) (slice_get forest.content n) false ≡ has_name forest e.name m
  typed m = ap (λ o. option_map_or (λ x. option_map_or (of_one_type x) (slice_get forest.content m) false) o false) here ∙ types_are node e (slice_get forest.content m) is

  index_is : (before : Bool) → 1 + count_by (has_name forest e.name) (later forest before n) ≡ index_at (type_kind before) forest n
  index_is true = ap (λ k. 1 + k) (sym (count_alike _ _ typed (later forest true n)))
  index_is false = ap (λ k. 1 + k) (sym (count_alike _ _ typed (later forest false n)))

  -- one more than how many were counted under the name
  pub next_index : (before : Bool) (old new : BTreeMap TypeName ℕ) (name : TypeName) (count : ℕ) → name_of name ≡ e.name → CountsOne old new name (Some count) → AreCounted forest before old (Some n) → count ≡ index_at (type_kind before) forest n
  next_index before old new name count same one counted =
      one.0 ∙ ap (λ k. 1 + k) (counted name ∙ ap (λ x. count_by (has_name forest x) (later forest before n)) same) ∙ index_is before

-- the node is passed
module _ (forest : Forest) (before : Bool) (n : ℕ) (node : NodeData) (here : slice_get forest.content n ≡ Some node) where
  passes : (name : NameParts) (b : Bool) → bears name (Some node) ≡ b → has_name forest name n ≡ b
  passes name b h = ap (bears name) here ∙ h

  row_passed : (name : NameParts) (b : Bool) (m : ℕ) → bears name (Some node) ≡ b → later forest before m ≡ n ∷ later forest before n →
      count_by (has_name forest name) (later forest before m) ≡ cond b 1 0 + count_by (has_name forest name) (later forest before n)
  row_passed name b m h row = ap (count_by (has_name forest name)) row ∙ one_more (has_name forest name) n (later forest before n) b (passes name b h)

  row_kept : (name : NameParts) (m : ℕ) → bears name (Some node) ≡ false → later forest before m ≡ n ∷ later forest before n →
      count_by (has_name forest name) (later forest before n) ≡ count_by (has_name forest name) (later forest before m)
  row_kept name m h row = let more = row_passed name false m h row in omega arith

  -- it is no element
  pub other_passed : (known : BTreeMap TypeName ℕ) (next : Option ℕ) → element_of node ≡ None → AreCounted forest before known (Some n) → IfSome next (λ m. later forest before m ≡ n ∷ later forest before n) → AreCounted forest before known next
  other_passed known None none counted row = tt
  other_passed known (Some m) none counted row = λ name.
      counted name ∙ row_kept (name_of name) m (ap (λ o. option_map_or (λ e. same_name (name_of name) e.name) o false) none) row

  -- it is an element, which is counted
  pub element_passed : (old new : BTreeMap TypeName ℕ) (name : TypeName) (e : AnElement) (count : ℕ) (next : Option ℕ) → element_of node ≡ Some e → name_of name ≡ e.name → CountsOne old new name (Some count) →
      AreCounted forest before old (Some n) → IfSome next (λ m. later forest before m ≡ n ∷ later forest before n) → AreCounted forest before new next
  element_passed old new name e count None is same one counted row = tt
  element_passed old new name e count (Some m) is same one counted row = λ other.
      let bearing : (b : Bool) → same_name (name_of name) (name_of other) ≡ b → bears (name_of other) (Some node) ≡ b =
      λ b h. ap (λ o. option_map_or (λ x. same_name (name_of other) x.name) o false) is ∙ ap (same_name (name_of other)) (sym same) ∙ same_name-equiv.symm (name_of other) (name_of name) ∙ h in
      elim (cases_Bool (same_name (name_of name) (name_of other))) [
        | inl t ↦ one.1 other ∙ ap (λ (b : Bool). if b then count else count_of old other) t ∙ one.0
            ∙ ap (λ k. 1 + k) (counted name ∙ count_alike _ _ (λ m. bears_alike (name_of name) (name_of other) (slice_get forest.content m) t) (later forest before n))
            ∙ sym (row_passed (name_of other) true m (bearing true t) row)
        | inr f ↦ one.1 other ∙ ap (λ (b : Bool). if b then count else count_of old other) f ∙ counted other ∙ row_kept (name_of other) m (bearing false f) row
      ]

-- what lies before the next node
pub onward_row : (forest : Forest) (lines : AreLines forest) (once : StandsOnce forest) (before : Bool) (n : ℕ) (next : Option ℕ) → next ≡ after (in_order (not before) (siblings forest n)) n →
    IfSome next (λ m. later forest before m ≡ n ∷ later forest before n)
onward_row forest lines once before n None link = tt
onward_row forest lines once true n (Some m) link = lines.beside true m ∙ ap (row_on forest true) (back_from forest lines once n m (sym link))
onward_row forest lines once false n (Some m) link = lines.beside false m ∙ ap (row_on forest false) (forth_from forest lines once n m (sym link))
