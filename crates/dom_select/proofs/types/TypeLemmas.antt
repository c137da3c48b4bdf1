-- Selectors that are a type and nothing else.
use Rattle.std.proofs.Common.{◌≡◌, ◌↔◌, ◌<◌, ◌≤◌, ℕ, Bool, true, false, List, [], ◌∷◌, Option, None, Some, IfSome, length, map, slice_get, get_or, sym, ap, ◌∙◌, refl, subst, inl, inr, true≢false, arith}
use Rattle.std.specs.Borrow.{Bor}
use Rattle.std.specs.Option.{option_map_or}
use Rattle.std.specs.Prelude.{◌==◌, IsTrue}
use Rattle.dom_nodes.specs.declared.node_data.NodeData.{NodeData}
use Rattle.dom_nodes.specs.declared.node_data.NodeData.TheVariants.{Element as AnElement}
use Rattle.dom_nodes.specs.Kinds.{is_element}
use Rattle.dom_links.specs.Forest.{Forest}
use Rattle.dom_links.specs.ListMoves.{element_at}
use Rattle.dom_selectors.specs.declared.syntax.Part.{Part}
use Rattle.dom_selectors.specs.declared.syntax.Compound.{Compound}
use Rattle.dom_selectors.specs.declared.syntax.Selector.{Selector, out-Selector}
use Rattle.dom_selectors.specs.declared.syntax.Step.{Step}
use Rattle.dom_selectors.specs.ListsAsTrees.{selector_list, steps_of}
use Rattle.dom_selectors.specs.Syntax.{CompoundSelector, SelectorList, alternative, compound, no_lists, no_selectors, no_steps}
use Rattle.dom_selectors.specs.ValuesAsTrees.{read_compound, read_list, read_step}
use Rattle.dom_selectors.proofs.Layers.{read_selector_is}
use Rattle.dom_select.specs.Descendants.{IsMatch}
use Rattle.dom_select.specs.Ends.{AreDecided, IsSubjectType}
use Rattle.dom_select.specs.declared.matcher.has.Start.TheVariants.{Absolute}
use Rattle.dom_select.specs.Meaning.{HasType, Holds, IsTypeAlone, MatchesNode, MeansType, PartsHold}
use Rattle.dom_select.specs.Parts.{node_passes}
use Rattle.dom_select.proofs.FollowLemmas.{is_nil}
use Rattle.dom_select.proofs.HasLemmas.{alone_matches}
use Rattle.dom_select.proofs.MeaningLemmas.{decided, one_part, parts_known, passes_known}

-- a selector that is a type alone means what bears the name
pub means_type : (name : List ℕ) (s : Selector) → read_compound (out-Selector s).first ≡ compound (Part.«Type» name ∷ []) no_lists → (out-Selector s).rest.items ≡ [] → MeansType name (read_list (s ∷ []))
means_type name s e f forest n =
    let is : read_list (s ∷ []) ≡ alternative (out-Selector s).lead (compound (Part.«Type» name ∷ []) no_lists) no_steps no_selectors =
    ap (λ t. selector_list (t ∷ [])) (read_selector_is s) ∙ (ap (λ c. alternative (out-Selector s).lead c (steps_of (map read_step (out-Selector s).rest.items)) no_selectors) e ∙ ap (λ r. alternative (out-Selector s).lead (compound (Part.«Type» name ∷ []) no_lists) (steps_of (map read_step r)) no_selectors) f) in
    let there : MatchesNode (alternative (out-Selector s).lead (compound (Part.«Type» name ∷ []) no_lists) no_steps no_selectors) forest n ↔ PartsHold (Part.«Type» name ∷ []) forest n =
    ((λ h. elim h [ inl x ↦ subst (λ m. PartsHold (Part.«Type» name ∷ []) forest m) x.2 x.1.0 | inr none ↦ absurd none ]), λ held. inl (n, (held, tt), refl)) in
    subst (λ l. MatchesNode l forest n ↔ PartsHold (Part.«Type» name ∷ []) forest n) (sym is) there

pub list_of_one : {A : Type 0} (xs : List A) (x : A) → 1 ≤ length xs → length xs < 2 → x ≡ get_or xs 0 x → xs ≡ x ∷ []
list_of_one [] x low high is = absurd (omega arith)
list_of_one (y ∷ []) x low high is = ap (λ z. z ∷ []) (sym is)
list_of_one (y ∷ z ∷ more) x low high is = absurd (omega arith)

pub type_of_one : (found : Option (Bor (List ℕ))) (selectors : List Selector) (s : Selector) → 1 ≤ length selectors → length selectors < 2 → s ≡ get_or selectors 0 s → (length (out-Selector s).rest.items == 0) ≡ true →
    IfSome found (λ name. read_compound (out-Selector s).first ≡ compound (Part.«Type» name.now ∷ []) no_lists) → IfSome found (λ name. MeansType name.now (read_list selectors))
type_of_one None selectors s low high is none h = h
type_of_one (Some name) selectors s low high is none h =
    subst (λ l. MeansType name.now (read_list l)) (sym (list_of_one selectors s low high is)) (means_type name.now s h (is_nil (out-Selector s).rest.items none))

-- what bears a name as a type is an element
pub type_is_element : (name : List ℕ) (forest : Forest) (n : ℕ) → PartsHold (Part.«Type» name ∷ []) forest n → element_at forest n ≡ true
unfolding PartsHold
type_is_element name forest n held = at (slice_get forest.content n) held.1.0
  where
    at : (found : Option NodeData) → option_map_or (node_passes (Part.«Type» name)) found false ≡ true → option_map_or is_element found false ≡ true
    at None h = h
    at (Some (AnElement element)) h = refl
    at (Some _) h = h

-- where a selector means what bears the name, that is all there is to ask
pub bears_wanted : (name : List ℕ) (list : SelectorList) (forest : Forest) (n : ℕ) → MeansType name list → PartsHold (Part.«Type» name ∷ []) forest n → IsMatch list forest n
bears_wanted name list forest n means held = (type_is_element name forest n held, (means forest n).1 held)

pub type_known : (name : List ℕ) (forest : Forest) (n : ℕ) (node : NodeData) → slice_get forest.content n ≡ Some node → IsTrue (node_passes (Part.«Type» name) node) ↔ HasType name forest n
type_known name forest n node e =
    let part = Part.«Type» name in
    let b = node_passes part node in
    decided b (HasType name forest n) (parts_known _ forest n node e b (one_part part forest n b (passes_known part forest n node b e refl)))

pub type_alone_known : (name : List ℕ) (c : CompoundSelector) (forest : Forest) (n : ℕ) (node : NodeData) (b : Bool) → IsTypeAlone name c → slice_get forest.content n ≡ Some node → b ≡ node_passes (Part.«Type» name) node → IsTrue b ↔ Holds c forest n
type_alone_known name c forest n node b alone e is =
    let known = type_known name forest n node e in
    subst (λ d. IsTrue b ↔ Holds d forest n) (sym alone) ((λ t. (known.0 (sym is ∙ t), tt)), λ h. is ∙ known.1 h.0)

-- compounds that are a type alone match a node that bears it, and compounds whose subject has a type no node that doesn't
pub type_decides : (name : List ℕ) (first : Compound) (steps : List Step) (node : NodeData) (b : Bool) → (length steps == 0) ≡ true → IsTypeAlone name (read_compound first) → b ≡ node_passes (Part.«Type» name) node → AreDecided first steps node b
type_decides name first steps node b none alone is forest n e = alone_matches first steps forest n b none (type_alone_known name (read_compound first) forest n node b alone e is)

pub ruled_out : (name : List ℕ) (first : Compound) (steps : List Step) (node : NodeData) (b : Bool) → IsSubjectType first steps name → b ≡ node_passes (Part.«Type» name) node → b ≡ false → AreDecided first steps node false
ruled_out name first steps node b ends is lacks forest n e =
    ((λ t. absurd (true≢false (sym t))), λ r. absurd (true≢false (sym ((type_known name forest n node e).1 (ends Absolute forest n n (r.0, r.1, r.2))) ∙ (sym is ∙ lacks))))
