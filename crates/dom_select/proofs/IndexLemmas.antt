-- The four indexes of a node: what stays right where one is written, and that they are small.
use Rattle.std.proofs.Common.{◌≡◌, ◌<◌, ◌≤◌, ◌≢◌, ◌+◌, ◌∙◌, ℕ, zero, suc, List, Some, inl, inr, refl, sym, ap, subst, length, set, slice_get, get_or-set_other, get_or-set_same, arith}
use Rattle.std.specs.Prelude.{◌==◌, if◌then◌else◌}
use Rattle.std.proofs.lemmas.Bool.{cases_Bool, eqb-true, eq-eqb, true≢false}
use Rattle.std.proofs.lemmas.Option.{same_Some}
use Rattle.dom_nodes.specs.declared.indexes.IndexKind.{IndexKind}
use Rattle.dom_nodes.specs.declared.indexes.IndexKind.TheVariants.{Child, LastChild, OfType, LastOfType}
use Rattle.dom_nodes.specs.declared.node_data.TreeNode.{TreeNode}
use Rattle.dom_links.specs.Forest.{Forest, forest_of}
use Rattle.dom_links.specs.Indexes.{index_at, is_from_first}
use Rattle.dom_links.specs.Sound.{IsForest, IsSoundArena}
use Rattle.dom_links.specs.Walk.{IsNodeOf}
use Rattle.dom_links.proofs.moves.Cuts.{length-contents}
use Rattle.dom_links.proofs.walks.IndexLemmas.{starts}
use Rattle.dom_links.proofs.walks.KnownLemmas.{never_many}
use Rattle.dom_selectors.specs.declared.syntax.Part.{Part}
use Rattle.dom_selectors.specs.declared.syntax.Part.TheVariants.{Universal, Id, Class, Attribute, Root, Link, Never, Empty, OnlyText, HasText, Contains, Position}
use Rattle.dom_selectors.specs.declared.syntax.Position as positions
use Rattle.dom_select.specs.Answers.{HasIndex, HasIndexFor, kind_place}

-- each kind has a place of its own

abbrev kind_at : ℕ → IndexKind
kind_at zero = Child
kind_at (suc zero) = LastChild
kind_at (suc (suc zero)) = OfType
kind_at (suc (suc (suc n))) = LastOfType

kind_back : (kind : IndexKind) → kind_at (kind_place kind) ≡ kind
kind_back Child = refl
kind_back LastChild = refl
kind_back OfType = refl
kind_back LastOfType = refl

pub place_few : (kind : IndexKind) → kind_place kind < 4
place_few Child = omega arith
place_few LastChild = omega arith
place_few OfType = omega arith
place_few LastOfType = omega arith

-- the index that was written
pub index_here : (forest : Forest) (n : ℕ) (kind : IndexKind) (indexes : List ℕ) (index : ℕ) → length indexes ≡ 4 → index ≡ index_at kind forest n → HasIndex kind forest n (set indexes (kind_place kind) index)
index_here forest n kind indexes index long is = let few = place_few kind in get_or-set_same indexes (kind_place kind) index 0 (omega (arith, few, long)) ∙ is

-- writing the index of one kind
pub index_written : (forest : Forest) (n : ℕ) (kind other : IndexKind) (indexes : List ℕ) (index : ℕ) → length indexes ≡ 4 → index ≡ index_at kind forest n →
    (HasIndex other forest n indexes → HasIndex other forest n (set indexes (kind_place kind) index))
index_written forest n kind other indexes index long is right = elim (cases_Bool (kind_place kind == kind_place other)) [
  | inl t ↦
      let same : kind ≡ other = sym (kind_back kind) ∙ ap kind_at (eqb-true (kind_place kind) (kind_place other) t) ∙ kind_back other in
      subst (λ k. HasIndex k forest n (set indexes (kind_place kind) index)) same (index_here forest n kind indexes index long is)
  | inr f ↦ get_or-set_other indexes (kind_place kind) (kind_place other) index 0 (λ e. true≢false (sym (eq-eqb (kind_place kind) (kind_place other) (sym e)) ∙ f)) ∙ right
]

-- the same of what a simple selector asks for
pub kept_for : (part : Part) (forest : Forest) (n : ℕ) (kind : IndexKind) (indexes : List ℕ) (index : ℕ) → length indexes ≡ 4 → index ≡ index_at kind forest n →
    HasIndexFor part forest n indexes → HasIndexFor part forest n (set indexes (kind_place kind) index)
kept_for (Position position) forest n kind indexes index long is right = index_written forest n kind position.kind indexes index long is right
kept_for Universal forest n kind indexes index long is right = tt
kept_for (Part.«Type» name) forest n kind indexes index long is right = tt
kept_for (Id value) forest n kind indexes index long is right = tt
kept_for (Class word) forest n kind indexes index long is right = tt
kept_for (Attribute asked) forest n kind indexes index long is right = tt
kept_for Root forest n kind indexes index long is right = tt
kept_for Link forest n kind indexes index long is right = tt
kept_for Never forest n kind indexes index long is right = tt
kept_for Empty forest n kind indexes index long is right = tt
kept_for OnlyText forest n kind indexes index long is right = tt
kept_for (HasText text) forest n kind indexes index long is right = tt
kept_for (Contains text) forest n kind indexes index long is right = tt

-- a simple selector that asks for no index
pub asks_for_none : (part : Part) (forest : Forest) (n : ℕ) (indexes : List ℕ) → ((position : positions.Position) → part ≡ Position position → ⊥) → HasIndexFor part forest n indexes
asks_for_none (Position position) forest n indexes other = absurd (other position refl)
asks_for_none Universal forest n indexes other = tt
asks_for_none (Part.«Type» name) forest n indexes other = tt
asks_for_none (Id value) forest n indexes other = tt
asks_for_none (Class word) forest n indexes other = tt
asks_for_none (Attribute asked) forest n indexes other = tt
asks_for_none Root forest n indexes other = tt
asks_for_none Link forest n indexes other = tt
asks_for_none Never forest n indexes other = tt
asks_for_none Empty forest n indexes other = tt
asks_for_none OnlyText forest n indexes other = tt
asks_for_none (HasText text) forest n indexes other = tt
asks_for_none (Contains text) forest n indexes other = tt

-- the first simple selectors of a list have their indexes

abbrev pub AreIndexesBelow : ℕ → List Part → Forest → ℕ → List ℕ → Type 0
AreIndexesBelow count parts forest n indexes = (i : ℕ) (part : Part) → i < count → slice_get parts i ≡ Some part → HasIndexFor part forest n indexes

pub one_more_part : (count : ℕ) (parts : List Part) (part : Part) (forest : Forest) (n : ℕ) (indexes : List ℕ) → slice_get parts count ≡ Some part →
    AreIndexesBelow count parts forest n indexes → HasIndexFor part forest n indexes → AreIndexesBelow (count + 1) parts forest n indexes
one_more_part count parts part forest n indexes here so_far right i other below found = elim (cases_Bool (i == count)) [
  | inl t ↦
      let same : part ≡ other = same_Some part other (sym here ∙ ap (slice_get parts) (sym (eqb-true i count t)) ∙ found) in
      subst (λ p. HasIndexFor p forest n indexes) same right
  | inr f ↦ so_far i other (let apart : i ≢ count = λ e. true≢false (sym (eq-eqb i count e) ∙ f) in omega (arith, below, apart)) found
]

pub part_written : (count : ℕ) (parts : List Part) (position : positions.Position) (forest : Forest) (n : ℕ) (indexes : List ℕ) (index : ℕ) → length indexes ≡ 4 → index ≡ index_at position.kind forest n →
    slice_get parts count ≡ Some (Position position) → AreIndexesBelow count parts forest n indexes → AreIndexesBelow (count + 1) parts forest n (set indexes (kind_place position.kind) index)
part_written count parts position forest n indexes index long is here so_far =
    one_more_part count parts (Position position) forest n (set indexes (kind_place position.kind) index) here
    (λ i part below found. kept_for part forest n position.kind indexes index long is (so_far i part below found))
    (index_here forest n position.kind indexes index long is)

-- no index is more than the greatest number
pub index_small : (forest : Forest) (nodes : List TreeNode) (kind : IndexKind) (n : ℕ) (node : TreeNode) → IsSoundArena nodes → forest_of nodes ≡ forest → IsNodeOf forest n node → index_at kind forest n ≤ 4294967295
index_small forest nodes kind n node sound is known =
    let good = subst IsForest is sound.forest in
    let long = length-contents (forest_of nodes) nodes sound.arena.links ∙ ap (λ f. length f.content) is in
    let few : length forest.content ≤ 4294967295 = let numbered = sound.numbered in omega (arith, numbered, long) in
    let next = if is_from_first kind then node.prev_sibling else node.next_sibling in
    never_many forest kind n 1 next (starts forest kind n node (is_from_first kind) next good few known refl refl)
