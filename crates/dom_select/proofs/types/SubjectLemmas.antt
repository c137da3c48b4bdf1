-- Types of the elements that selectors match, by the numbers of their names.
use Rattle.std.proofs.Common.{◌≡◌, ◌⊎◌, ◌<◌, ◌≤◌, ◌+◌, ℕ, List, ◌∷◌, Bool, true, false, true≢false, Option, None, Some, IfSome, IsTrue, ◌↔◌, length, set, map, drop, get_or, slice_get, inl, inr, sym, ap, ◌∙◌, subst}
use Rattle.std.specs.Prelude.{slice_index_or}
use Rattle.std.specs.Option.{option_map_or}
use Rattle.std.proofs.lemmas.Bool.{cases_eq, eqb-true}
use Rattle.std.proofs.lemmas.List.{drop_all, drop_more, get_or-set_same, get_or-set_other}
use Rattle.std.proofs.lemmas.Slice.Eq.{bytes_eq-Decides}
use Rattle.dom_nodes.specs.declared.node_data.NodeData.{NodeData}
use Rattle.dom_nodes.specs.declared.node_data.NodeData.TheVariants.{Comment, Doctype, Document, Element as AnElement, Fragment, ProcessingInstruction, Text}
use Rattle.dom_nodes.specs.declared.name.Namespace.TheVariants.{Html}
use Rattle.dom_nodes.specs.Kinds.{is_element}
use Rattle.dom_nodes.specs.KnownNames.{HasNumber, known_name}
use Rattle.dom_nodes.proofs.KnownLemmas.{known-same}
use Rattle.dom_links.specs.Forest.{Forest}
use Rattle.dom_selectors.specs.declared.syntax.Part.{Part}
use Rattle.dom_selectors.specs.declared.syntax.Selector.{Selector, out-Selector}
use Rattle.dom_selectors.specs.Spelling.{Decides}
use Rattle.dom_selectors.specs.Syntax.{SelectorList}
use Rattle.dom_selectors.specs.ValuesAsTrees.{read_compound, read_list, read_step}
use Rattle.dom_select.specs.declared.matcher.has.Start.TheVariants.{Absolute}
use Rattle.dom_select.specs.Descendants.{IsMatch}
use Rattle.dom_select.specs.Ends.{SubjectImpliesType}
use Rattle.dom_select.specs.Meaning.{MatchesNode}
use Rattle.dom_select.specs.Parts.{name_within, node_passes}
use Rattle.dom_select.specs.Subjects.{MayBear, MayBeSubject, SubjectIsAmong}
use Rattle.dom_select.proofs.EndLemmas.{means_one}
use Rattle.dom_select.proofs.MeaningLemmas.{decides}
use Rattle.dom_select.proofs.types.TypeLemmas.{type_known}

known_once : (n m : ℕ) → n < 247 → m < 247 → known_name n ≡ known_name m → n ≡ m
known_once n m h k e = eqb-true n m (known-same n m h k ∙ (bytes_eq-Decides (known_name n) (known_name m)).1 e)

-- one more type has a flag

module _ (types : List Bool) (number : ℕ) (within : number < length types) where
  flag_here : (k : ℕ) → k ≡ number → slice_index_or (set types number true) k false ≡ true
  flag_here k e = ap (λ j. slice_index_or (set types number true) j false) e ∙ get_or-set_same types number true false within

  still_flagged : (node : NodeData) → MayBear types node → MayBear (set types number true) node
  still_flagged (AnElement element) may = λ html k has. elim (cases_eq k number) [
    | inl e ↦ flag_here k e
    | inr other ↦ get_or-set_other types number k true false other ∙ may html k has
  ]
  still_flagged Document none = none
  still_flagged Fragment none = none
  still_flagged (Doctype _ _ _) none = none
  still_flagged (Text _) none = none
  still_flagged (Comment _) none = none
  still_flagged (ProcessingInstruction _ _) none = none

  now_flagged : (name : List ℕ) (node : NodeData) → HasNumber (name_within Html name) number → node_passes (Part.«Type» name) node ≡ true → MayBear (set types number true) node
  now_flagged name (AnElement element) is passes = λ html k has.
      let local : element.name.local ≡ known_name number = (bytes_eq-Decides element.name.local (name_within element.name.ns name)).0 passes ∙ (ap (λ ns. name_within ns name) html ∙ sym is.1) in
      flag_here k (known_once k number has.0 is.0 (has.1 ∙ local))
  now_flagged name Document is passes = true≢false (sym passes)
  now_flagged name Fragment is passes = true≢false (sym passes)
  now_flagged name (Doctype _ _ _) is passes = true≢false (sym passes)
  now_flagged name (Text _) is passes = true≢false (sym passes)
  now_flagged name (Comment _) is passes = true≢false (sym passes)
  now_flagged name (ProcessingInstruction _ _) is passes = true≢false (sym passes)

-- what the selectors match has one of the types with a flag, or is matched by one of the selectors that are left
abbrev pub AreMetTo : List Bool → List Selector → ℕ → Type 0
AreMetTo types selectors i =
    (forest : Forest) (n : ℕ) (node : NodeData) → slice_get forest.content n ≡ Some node → MatchesNode (read_list selectors) forest n → MayBear types node ⊎ MatchesNode (read_list (drop i selectors)) forest n

module _ (selectors : List Selector) (i : ℕ) (types : List Bool) where
  pub met_more : (number : ℕ) (name : List ℕ) (s : Selector) → i < length selectors → s ≡ get_or selectors i s → number < length types →
      SubjectImpliesType name (read_compound (out-Selector s).first) (map read_step (out-Selector s).rest.items) → HasNumber (name_within Html name) number → AreMetTo types selectors i → AreMetTo (set types number true) selectors (i + 1)
  met_more number name s within is below ends numbered met forest n node e m = by (met forest n node e m)
    where
      left : drop i selectors ≡ s ∷ drop (i + 1) selectors
      left = drop_more selectors i s within ∙ ap (λ x. x ∷ drop (i + 1) selectors) (sym is)

      by : MayBear types node ⊎ MatchesNode (read_list (drop i selectors)) forest n → MayBear (set types number true) node ⊎ MatchesNode (read_list (drop (i + 1) selectors)) forest n
      by (inl had) = inl (still_flagged types number below node had)
      by (inr next) = elim (means_one s (drop (i + 1) selectors) forest n (subst (λ l. MatchesNode (read_list l) forest n) left next)) [
        | inl r ↦ inl (now_flagged types number below name node numbered ((type_known name forest n node e).1 (ends Absolute forest n n r)))
        | inr more ↦ inr more
      ]

  pub met_all : length selectors ≤ i → AreMetTo types selectors i → SubjectIsAmong types (read_list selectors)
  met_all past met forest n node e m = elim (met forest n node e m) [
    | inl had ↦ had
    | inr more ↦ absurd (subst (λ l. MatchesNode (read_list l) forest n) (drop_all i selectors past) more)
  ]

-- a node that was looked up

module _ (list : SelectorList) (forest : Forest) (n : ℕ) (node : NodeData) (e : slice_get forest.content n ≡ Some node) where
  pub match_may_be : (types : Option (List Bool)) → IfSome types (λ types. SubjectIsAmong types list) → IsMatch list forest n → MayBeSubject types node
  match_may_be types among match = (sym (ap (λ found. option_map_or is_element found false) e) ∙ match.0, bears types among)
    where
      bears : (o : Option (List Bool)) → IfSome o (λ types. SubjectIsAmong types list) → IfSome o (λ types. MayBear types node)
      bears None none = tt
      bears (Some types) h = h forest n node e match.1

  pub match_decided : (b : Bool) → is_element node ≡ true → (IsTrue b ↔ MatchesNode list forest n) → Decides b (IsMatch list forest n)
  match_decided b element fact = decides b (IsMatch list forest n) ((λ t. (ap (λ found. option_map_or is_element found false) e ∙ element, fact.0 t)), λ match. fact.1 match.1)
