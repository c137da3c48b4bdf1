-- The last element with a name after the last marker of the list of active formatting elements is found.
use Rattle.std.proofs.Common.{rules, ◌≡◌, ℕ, Bool, true, false, ◌&&◌, not, List, [], ◌∷◌, map, reverse, refl, sym, ap, ◌∙◌, Option, Some, None, inl, inr, subst}
use Rattle.std.specs.Prelude.{All, MatchOption}
use Rattle.std.specs.Option.{option_map}
use Rattle.std.proofs.lemmas.List.Elements.{All-head, All-tail}
use denote.Enum.Bare.{same_true}
use denote.Enum.Declared.{tag_of}
use Rattle.std.proofs.lemmas.Bool.{eq-eqb}
use Rattle.standard_trees.specs.Formatting.{last_listed}
use Rattle.standard_trees.specs.GrowingTree.{GrowingTree}
use Rattle.standard_trees.specs.GrowingTree.{is_one as is_one_of}
use Rattle.page_trees.specs.Formatting.{IsFirst, IsNamed, NoneHas, after_marker, up_to_marker}
use Rattle.page_trees.specs.Listing.{FindsListed}
use Rattle.page_trees.specs.Names.{text_of}
use Rattle.page_trees.specs.Scopes.{is_name, is_named}
use Rattle.page_trees.specs.Sets.{is_in_html}
use Rattle.page_trees.specs.Stands.{Builds, EntryStands, entry_of}
use Rattle.page_trees.specs.TreeState.{TreeState}
use Rattle.page_trees.specs.contracts.name.Name.{the_type}
use Rattle.page_trees.specs.declared.formatting.Entry.{Entry}
use Rattle.page_trees.specs.declared.name.Name.{Name}
use Rattle.page_trees.specs.declared.stack.ElementNamespace.{ElementNamespace}
use Rattle.page_trees.specs.declared.stack.Open.{Open}
use Rattle.page_trees.proofs.CopiedElements.{formatting_html}
use Rattle.page_trees.proofs.ListedEntries.{all_turned}
use Rattle.page_trees.proofs.StandingNames.{named_agrees}

-- of a formatting element, whether it has a name
named_is : (name : Name) → is_name name Name.Other ≡ false → (o : Open) → o.ns ≡ ElementNamespace.Html → is_named name o ≡ is_name o.name name
named_is name known o html =
    ap (λ b. not b && (is_in_html o.ns && is_name o.name name)) known ∙ ap (λ (ns : ElementNamespace). is_in_html ns && is_name o.name name) html

is_name_self : (name : Name) → is_name name name ≡ true
is_name_self name = eq-eqb (tag_of the_type name) (tag_of the_type name) refl

none_named : (name : Name) (o : Open) → (IsNamed name o → ⊥) → is_name o.name name ≡ false
none_named name o lacks = by (is_name o.name name) refl
  where
    by : (b : Bool) → is_name o.name name ≡ b → is_name o.name name ≡ false
    by false e = e
    by true e = absurd (lacks (same_true the_type (search rules) o.name name e))

itself : (name : Name) (o : Open) → o.name ≡ name → is_name o.name name ≡ true
itself name o e = ap (λ n. is_name n name) e ∙ is_name_self name

module _ (t : GrowingTree) (name : Name) (known : is_name name Name.Other ≡ false) where
  abbrev names : List (List ℕ)
  names = text_of name ∷ []

  tells : (o : Open) → EntryStands t.nodes (Entry.Element o) → is_name o.name name ≡ is_one_of t names o.id
  tells o stands = sym (named_is name known o (formatting_html o stands.1)) ∙ named_agrees name known t o stands.0

  found : (es : List Entry) → All (EntryStands t.nodes) es → (r : Option Open) → MatchOption r (NoneHas (IsNamed name) (up_to_marker es)) (IsFirst (IsNamed name) (up_to_marker es)) →
      option_map (λ o. o.id) r ≡ last_listed t names (map entry_of es)
  found [] all None is = refl
  found [] all (Some x) is = absurd is
  found (Entry.Marker ∷ es) all None is = refl
  found (Entry.Marker ∷ es) all (Some x) is = absurd is
  found (Entry.Element o ∷ es) all None is =
      let lacks = All-head (λ (x : Open). IsNamed name x → ⊥) o (up_to_marker es) is in
      let no : is_one_of t names o.id ≡ false = sym (tells o (All-head (EntryStands t.nodes) (Entry.Element o) es all)) ∙ none_named name o lacks in
      found es (All-tail (EntryStands t.nodes) (Entry.Element o) es all) None (All-tail (λ (x : Open). IsNamed name x → ⊥) o (up_to_marker es) is)
      ∙ sym (ap (λ b. (let one : Option ℕ = elim b [ true ↦ Some o.id | false ↦ last_listed t names (map entry_of es) ] in one)) no)
  found (Entry.Element o ∷ es) all (Some x) (inl here) =
      let yes : is_one_of t names o.id ≡ true = sym (tells o (All-head (EntryStands t.nodes) (Entry.Element o) es all)) ∙ itself name o here.0 in
      ap (λ (p : Open). Some p.id) (sym here.1)
      ∙ sym (ap (λ b. (let one : Option ℕ = elim b [ true ↦ Some o.id | false ↦ last_listed t names (map entry_of es) ] in one)) yes)
  found (Entry.Element o ∷ es) all (Some x) (inr later) =
      let no : is_one_of t names o.id ≡ false = sym (tells o (All-head (EntryStands t.nodes) (Entry.Element o) es all)) ∙ none_named name o later.0 in
      found es (All-tail (EntryStands t.nodes) (Entry.Element o) es all) (Some x) later.1
      ∙ sym (ap (λ b. (let one : Option ℕ = elim b [ true ↦ Some o.id | false ↦ last_listed t names (map entry_of es) ] in one)) no)

pub finds : (s old : TreeState) (name : Name) (r : Option Open) → s ≡ old → is_name name Name.Other ≡ false →
    MatchOption r (NoneHas (IsNamed name) (after_marker s.formatting)) (IsFirst (IsNamed name) (after_marker s.formatting)) → FindsListed name old r
finds s old name r same known is t built =
    let b : Builds s t = subst (λ (o : TreeState). Builds o t) (sym same) built in
    found t name known (reverse s.formatting) (all_turned (EntryStands t.nodes) s.formatting b.listed.elements) r is ∙ ap (last_listed t (text_of name ∷ [])) (sym b.listed.list)
