-- Matches of compounds by type bytes.
use Rattle.std.proofs.Common.{◌≡◌, ◌<◌, ℕ, List, ◌∷◌, [], Bool, true, false, true≢false, Some, ◌⊎◌, inl, inr, refl, sym, ap, ◌∙◌, subst, length, slice_get, map, arith}
use Rattle.std.specs.Option.{option_map_or}
use Rattle.std.specs.Prelude.{nat_eq, nat_lt, not, ◌==◌, ◌&&◌, ◌||◌}
use Rattle.dom_index.proofs.ChainLemmas.{both_true}
use Rattle.std.specs.Str.{bytes_eq}
use Rattle.std.proofs.lemmas.Bool.{cases_Bool, eqb-true, eq-eqb, ltb-true, lt-ltb, or_cases, or_right}
use Rattle.std.proofs.lemmas.Option.{none-some, same_Some, slice_get_cases, slice_get_within}
use Rattle.std.proofs.lemmas.List.{nil_from_length}
use Rattle.std.proofs.lemmas.Slice.Eq.{bytes_eq-Decides}
use Rattle.dom_nodes.specs.declared.node_data.NodeData.{NodeData}
use Rattle.dom_nodes.specs.declared.node_data.NodeData.TheVariants.{Comment, Doctype, Document, Element as AnElement, Fragment, ProcessingInstruction, Text}
use Rattle.dom_nodes.specs.declared.name.Namespace.{Namespace}
use Rattle.dom_nodes.specs.Kinds.{is_element}
use Rattle.dom_nodes.specs.KnownNames.{known_name}
use Rattle.dom_nodes.proofs.KnownLemmas.{known-same}
use Rattle.dom_links.specs.Forest.{Forest}
use Rattle.dom_links.specs.ListMoves.{element_at}
use Rattle.dom_selectors.specs.declared.syntax.Compound.{Compound}
use Rattle.dom_selectors.specs.declared.syntax.Part.{Part}
use Rattle.dom_selectors.specs.ListsAsTrees.{lists_of}
use Rattle.dom_selectors.specs.Syntax.{CompoundSelector, compound, no_lists}
use Rattle.dom_selectors.specs.ValuesAsTrees.{read_compound, read_nested}
use Rattle.dom_selectors.proofs.Layers.{read_compound_is}
use Rattle.dom_select.specs.Meaning.{Holds, PartsHold}
use Rattle.dom_select.specs.Parts.{PartHolds, name_within, node_passes}
use Rattle.dom_index.specs.declared.type_filter.TypeFilter.{TypeFilter}
use Rattle.dom_index.specs.TypeBytes.{AreElements, HaveKnownTypes, IsFilteredByType, AreTypeBytes, HasKnownName, IsTypeFilterOf, byte_at, lists_in, is_type_byte}
use Rattle.dom_index.specs.NodeSets.{AllHold, IsPrefiltered, IsSetOf, in_set}
use Rattle.dom_index.proofs.FillLemmas.{same_decided}

-- what the byte is
abbrev IsNameByte : NodeData → ℕ → Type 0
IsNameByte (AnElement element) byte = (byte ≡ 254) ⊎ ((byte < 247) × (known_name byte ≡ element.name.local))
IsNameByte _ byte = byte ≡ 255

name_decided : (node : NodeData) (byte : ℕ) → is_type_byte node byte ≡ true → IsNameByte node byte
name_decided (AnElement element) byte h = elim (or_cases (byte == 254) (nat_lt byte 247 && bytes_eq (known_name byte) element.name.local) h) [
  | inl e ↦ inl (eqb-true byte 254 e)
  | inr both ↦ (let two = both_true (nat_lt byte 247) (bytes_eq (known_name byte) element.name.local) both in inr (ltb-true byte 247 two.0, (bytes_eq-Decides (known_name byte) element.name.local).0 two.1))
]
name_decided Document byte h = eqb-true byte 255 h
name_decided Fragment byte h = eqb-true byte 255 h
name_decided (Doctype _ _ _) byte h = eqb-true byte 255 h
name_decided (Text _) byte h = eqb-true byte 255 h
name_decided (Comment _) byte h = eqb-true byte 255 h
name_decided (ProcessingInstruction _ _) byte h = eqb-true byte 255 h

-- the byte of a known name
pub known_decided : (byte : ℕ) (local : List ℕ) → byte < 247 → known_name byte ≡ local → ((byte == 254) || (nat_lt byte 247 && bytes_eq (known_name byte) local)) ≡ true
known_decided byte local low is = or_right (byte == 254) _ (rw (lt-ltb byte 247 low, (bytes_eq-Decides (known_name byte) local).1 is) refl)

known_once : (n m : ℕ) → n < 247 → m < 247 → known_name n ≡ known_name m → n ≡ m
known_once n m h k e = eqb-true n m (known-same n m h k ∙ (bytes_eq-Decides (known_name n) (known_name m)).1 e)

-- a node with another byte doesn't have this name
other_name : (node : NodeData) (byte number : ℕ) → number < 247 → IsNameByte node byte → (byte ≡ 254 → ⊥) → (byte ≡ number → ⊥) → HasKnownName number node → ⊥
other_name (AnElement element) byte number low (inl e) known other bears = known e
other_name (AnElement element) byte number low (inr h) known other bears = other (known_once byte number h.0 low (h.1 ∙ bears))
other_name Document byte number low h known other bears = bears
other_name Fragment byte number low h known other bears = bears
other_name (Doctype name public_id system_id) byte number low h known other bears = bears
other_name (Text contents) byte number low h known other bears = bears
other_name (Comment contents) byte number low h known other bears = bears
other_name (ProcessingInstruction target contents) byte number low h known other bears = bears

-- and one with this byte does
this_name : (node : NodeData) (byte number : ℕ) → number < 247 → IsNameByte node byte → byte ≡ number → HasKnownName number node
this_name (AnElement element) byte number low (inl e) same = absurd (omega arith)
this_name (AnElement element) byte number low (inr h) same = sym h.1 ∙ ap known_name same
this_name Document byte number low h same = absurd (omega arith)
this_name Fragment byte number low h same = absurd (omega arith)
this_name (Doctype name public_id system_id) byte number low h same = absurd (omega arith)
this_name (Text contents) byte number low h same = absurd (omega arith)
this_name (Comment contents) byte number low h same = absurd (omega arith)
this_name (ProcessingInstruction target contents) byte number low h same = absurd (omega arith)

-- only a node that is no element has the byte for that
byte_of_none : (node : NodeData) (byte : ℕ) → IsNameByte node byte → (byte ≡ 255 → is_element node ≡ false) × ((byte ≡ 255 → ⊥) → is_element node ≡ true)
byte_of_none (AnElement element) byte (inl e) = (λ same. absurd (omega arith), λ other. refl)
byte_of_none (AnElement element) byte (inr h) = (λ same. absurd (let low = h.0 in omega arith), λ other. refl)
byte_of_none Document byte h = (λ same. refl, λ other. absurd (other h))
byte_of_none Fragment byte h = (λ same. refl, λ other. absurd (other h))
byte_of_none (Doctype name public_id system_id) byte h = (λ same. refl, λ other. absurd (other h))
byte_of_none (Text contents) byte h = (λ same. refl, λ other. absurd (other h))
byte_of_none (Comment contents) byte h = (λ same. refl, λ other. absurd (other h))
byte_of_none (ProcessingInstruction target contents) byte h = (λ same. refl, λ other. absurd (other h))

-- by the byte of a node alone
module _ (forest : Forest) (n byte : ℕ) (known : n < length forest.content) (named : (node : NodeData) → slice_get forest.content n ≡ Some node → is_type_byte node byte ≡ true) where
  node_here : (node : NodeData) × (slice_get forest.content n ≡ Some node)
  node_here = elim (slice_get_cases forest.content n).1 [
    | inl some ↦ (some.0, some.2)
    | inr none ↦ absurd (let past = none.0 in omega arith)
  ]

  -- the byte of an element, and of no element
  pub element_by_byte : not (nat_eq byte 255) ≡ element_at forest n
  element_by_byte =
      let here : element_at forest n ≡ is_element node_here.0 = ap (λ o. option_map_or is_element o false) node_here.1 in
      let kinds = byte_of_none node_here.0 byte (name_decided node_here.0 byte (named node_here.0 node_here.1)) in
      (elim (cases_Bool (nat_eq byte 255)) [
        | inl t ↦ ap not t ∙ sym (kinds.0 (eqb-true byte 255 t))
        | inr f ↦ ap not f ∙ sym (kinds.1 (λ e. true≢false (sym (eq-eqb byte 255 e) ∙ f)))
      ]) ∙ sym here

  pub refused_at : (c : CompoundSelector) (wanted : TypeFilter) → IsTypeFilterOf c wanted → (byte ≡ 254 → ⊥) → (byte ≡ wanted.number → ⊥) → Holds c forest n → ⊥
  refused_at c wanted is known_one other holds = other_name node_here.0 byte wanted.number is.known (name_decided node_here.0 byte (named node_here.0 node_here.1)) known_one other (is.needs forest n node_here.0 node_here.1 holds)

  pub met_at : (c : CompoundSelector) (wanted : TypeFilter) → IsTypeFilterOf c wanted → byte ≡ wanted.number → wanted.is_all ≡ true → Holds c forest n
  met_at c wanted is same all = is.suffices all forest n node_here.0 node_here.1 (this_name node_here.0 byte wanted.number is.known (name_decided node_here.0 byte (named node_here.0 node_here.1)) same)

module _ (forest : Forest) (bytes : List ℕ) (type_bytes : AreTypeBytes forest bytes) (n : ℕ) (known : n < length forest.content) where
  found : (node : NodeData) × (slice_get forest.content n ≡ Some node)
  found = elim (slice_get_cases forest.content n).1 [
    | inl some ↦ (some.0, some.2)
    | inr none ↦ absurd (let past = none.0 in omega arith)
  ]

  -- the byte of an element, and of no element
  pub element_decided : (byte : ℕ) → byte ≡ byte_at bytes n → not (nat_eq byte 255) ≡ element_at forest n
  element_decided byte is =
      let node = found.0 in
      let here : element_at forest n ≡ is_element node = ap (λ o. option_map_or is_element o false) found.1 in
      let kinds = byte_of_none node byte (subst (IsNameByte node) (sym is) (name_decided node (byte_at bytes n) (type_bytes.each n node found.1))) in
      (elim (cases_Bool (nat_eq byte 255)) [
        | inl t ↦ ap not t ∙ sym (kinds.0 (eqb-true byte 255 t))
        | inr f ↦ ap not f ∙ sym (kinds.1 (λ e. true≢false (sym (eq-eqb byte 255 e) ∙ f)))
      ]) ∙ sym here

  module _ (c : CompoundSelector) (wanted : TypeFilter) (is : IsTypeFilterOf c wanted) where
    pub refused_by_name : (byte_at bytes n ≡ 254 → ⊥) → (byte_at bytes n ≡ wanted.number → ⊥) → Holds c forest n → ⊥
    refused_by_name known_one other holds =
        let node = found.0 in
        other_name node (byte_at bytes n) wanted.number is.known (name_decided node (byte_at bytes n) (type_bytes.each n node found.1)) known_one other (is.needs forest n node found.1 holds)

    pub met_by_name : byte_at bytes n ≡ wanted.number → wanted.is_all ≡ true → Holds c forest n
    met_by_name same all =
        let node = found.0 in
        is.suffices all forest n node found.1 (this_name node (byte_at bytes n) wanted.number is.known (name_decided node (byte_at bytes n) (type_bytes.each n node found.1)) same)

-- the set of the elements
pub elements_decided : (forest : Forest) (bytes : List ℕ) → AreTypeBytes forest bytes → (table : List Bool) → AreElements bytes table → IsSetOf table (length forest.content) (λ n. element_at forest n ≡ true)
elements_decided forest bytes type_bytes table answer = record {
  long = answer.long ∙ type_bytes.long;
  each = λ n known. same_decided (in_set table n) (element_at forest n) (answer.each n (let long = type_bytes.long in omega arith) ∙ element_decided forest bytes type_bytes n known (byte_at bytes n) refl);
}

-- a node with the name is kept by its byte
byte_kept : (byte number : ℕ) → ((byte ≡ 254 → ⊥) → (byte ≡ number → ⊥) → ⊥) → ((byte == number) || (byte == 254)) ≡ true
byte_kept byte number h = elim (cases_Bool (byte == number)) [
  | inl t ↦ ap (λ b. b || (byte == 254)) t
  | inr f ↦ or_right (byte == number) (byte == 254) (elim (cases_Bool (byte == 254)) [
    | inl t ↦ t
    | inr g ↦ absurd (h (λ e. true≢false (sym (eq-eqb byte 254 e) ∙ g)) (λ e. true≢false (sym (eq-eqb byte number e) ∙ f)))
  ])
]

pub named_asked : (forest : Forest) (bytes : List ℕ) → AreTypeBytes forest bytes → (c : CompoundSelector) (wanted : TypeFilter) → IsTypeFilterOf c wanted → (table other : List Bool) → length other ≡ length forest.content →
    IsFilteredByType bytes wanted.number table other → IsPrefiltered forest c table other
named_asked forest bytes type_bytes c wanted is table other long named = record {
  long = named.long;
  answer = λ n known t. (both_true (in_set other n) _ (sym (named.each n known) ∙ t)).0;
  kept = λ n known t holds. let inside : n < length forest.content = omega arith in
      named.each n known ∙ (ap (λ b. b && ((byte_at bytes n == wanted.number) || (byte_at bytes n == 254))) t
      ∙ byte_kept (byte_at bytes n) wanted.number (λ known_one other_one. refused_by_name forest bytes type_bytes n inside c wanted is known_one other_one holds));
}

-- and a sole type selector matches each that is kept, where the bytes name the types
pub named_hold : (forest : Forest) (bytes : List ℕ) → AreTypeBytes forest bytes → (c : CompoundSelector) (wanted : TypeFilter) → IsTypeFilterOf c wanted → (table other : List Bool) → length other ≡ length forest.content →
    IsFilteredByType bytes wanted.number table other → wanted.is_all ≡ true → HaveKnownTypes bytes table (length table) → AllHold forest c table
named_hold forest bytes type_bytes c wanted is table other long named all known = λ n inside t.
    let there : n < length other = omega arith in
    let here : n < length table = let same = named.long in omega arith in
    let both = both_true (in_set other n) _ (sym (named.each n there) ∙ t) in
    met_by_name forest bytes type_bytes n inside c wanted is (elim (or_cases (byte_at bytes n == wanted.number) (byte_at bytes n == 254) both.1) [
      | inl e ↦ eqb-true (byte_at bytes n) wanted.number e
      | inr e ↦ absurd (known n here t (eqb-true (byte_at bytes n) 254 e))
    ]) all

-- the name that a type selector needs
asks_name : (name : List ℕ) (number : ℕ) → ((ns : Namespace) → name_within ns name ≡ known_name number) → (node : NodeData) → node_passes (Part.«Type» name) node ≡ true → HasKnownName number node
asks_name name number same (AnElement element) h = (bytes_eq-Decides element.name.local (name_within element.name.ns name)).0 h ∙ same element.name.ns
asks_name name number same Document h = true≢false (sym h)
asks_name name number same Fragment h = true≢false (sym h)
asks_name name number same (Doctype _ _ _) h = true≢false (sym h)
asks_name name number same (Text _) h = true≢false (sym h)
asks_name name number same (Comment _) h = true≢false (sym h)
asks_name name number same (ProcessingInstruction _ _) h = true≢false (sym h)

bears_name : (name : List ℕ) (number : ℕ) → ((ns : Namespace) → name_within ns name ≡ known_name number) → (node : NodeData) → HasKnownName number node → node_passes (Part.«Type» name) node ≡ true
bears_name name number same (AnElement element) h = (bytes_eq-Decides element.name.local (name_within element.name.ns name)).1 (h ∙ sym (same element.name.ns))
bears_name name number same Document h = absurd h
bears_name name number same Fragment h = absurd h
bears_name name number same (Doctype _ _ _) h = absurd h
bears_name name number same (Text _) h = absurd h
bears_name name number same (Comment _) h = absurd h
bears_name name number same (ProcessingInstruction _ _) h = absurd h

module _ (c : Compound) (p : Part) (name : List ℕ) (number : ℕ) (same : (ns : Namespace) → name_within ns name ≡ known_name number) (at : slice_get c.parts.items 0 ≡ Some p) (named : p ≡ Part.«Type» name) where
  first_holds : (forest : Forest) (n : ℕ) (qs : List Part) → slice_get qs 0 ≡ Some p → PartsHold qs forest n → PartHolds (Part.«Type» name) forest n
  unfolding PartsHold
  first_holds forest n [] none h = absurd (none-some p none)
  first_holds forest n (q ∷ qs) is h = subst (λ r. PartHolds r forest n) (same_Some q p is ∙ named) h.1.0

  name_needed : (forest : Forest) (n : ℕ) (node : NodeData) → slice_get forest.content n ≡ Some node → Holds (read_compound c) forest n → HasKnownName number node
  name_needed forest n node is held =
      let all : Holds (compound c.parts.items (lists_of (map read_nested c.nested.items))) forest n = subst (λ k. Holds k forest n) (read_compound_is c) held in
      let passes : option_map_or (node_passes (Part.«Type» name)) (slice_get forest.content n) false ≡ true = first_holds forest n c.parts.items at all.0 in
      asks_name name number same node (sym (ap (λ o. option_map_or (node_passes (Part.«Type» name)) o false) is) ∙ passes)

  name_suffices : length c.parts.items ≡ 1 → length c.nested.items ≡ 0 → (forest : Forest) (n : ℕ) (node : NodeData) → slice_get forest.content n ≡ Some node → HasKnownName number node → Holds (read_compound c) forest n
  unfolding PartsHold
  name_suffices one none forest n node is bears =
      let passes : option_map_or (node_passes (Part.«Type» name)) (slice_get forest.content n) false ≡ true =
      ap (λ o. option_map_or (node_passes (Part.«Type» name)) o false) is ∙ bears_name name number same node bears in
      let held : Holds (compound (Part.«Type» name ∷ []) no_lists) forest n = ((slice_get_within forest.content n node is, (passes, tt)), tt) in
      let parts : c.parts.items ≡ Part.«Type» name ∷ [] = alone c.parts.items one at ∙ ap (λ q. q ∷ []) named in
      let lists : c.nested.items ≡ [] = nil_from_length c.nested.items none in
      subst (λ k. Holds k forest n) (sym (read_compound_is c ∙ (ap (λ qs. compound qs (lists_of (map read_nested c.nested.items))) parts ∙ ap (λ ls. compound (Part.«Type» name ∷ []) (lists_of (map read_nested ls))) lists))) held
    where
      alone : (qs : List Part) → length qs ≡ 1 → slice_get qs 0 ≡ Some p → qs ≡ p ∷ []
      alone [] one is = absurd (none-some p is)
      alone (q ∷ []) one is = ap (λ r. r ∷ []) (same_Some q p is)
      alone (q ∷ r ∷ qs) one is = absurd (omega arith)

  pub name_wanted : (is_all : Bool) → number < 247 → (is_all ≡ true → (length c.parts.items ≡ 1) × (length c.nested.items ≡ 0)) → IsTypeFilterOf (read_compound c) (record { number = number; is_all = is_all })
  name_wanted is_all low only = record {
    known = low;
    needs = name_needed;
    suffices = λ all. name_suffices (only all).0 (only all).1;
    alone = λ all. ap lists_in (read_compound_is c) ∙ ap (λ ls. lists_of (map read_nested ls)) (nil_from_length c.nested.items (only all).1);
  }
