-- When the parts of a compound hold of a node that was looked up.
use Rattle.std.proofs.Common.{◌≡◌, ◌<◌, ◌≤◌, ◌↔◌, ◌+◌, ℕ, Bool, true, false, List, [], ◌∷◌, Some, length, map, drop, get_or, slice_get, sym, ap, ◌∙◌, refl, subst, inl, inr, true≢false, MatchBool, IsTrue, arith}
use Rattle.std.specs.Option.{option_map_or}
use Rattle.std.proofs.lemmas.List.{drop_all, drop_more}
use Rattle.std.proofs.lemmas.Option.{slice_get_within}
use Rattle.dom_nodes.specs.declared.node_data.NodeData.{NodeData}
use Rattle.dom_links.specs.Forest.{Forest}
use Rattle.dom_selectors.specs.declared.syntax.Compound.{Compound}
use Rattle.dom_selectors.specs.declared.syntax.Nested.{Nested}
use Rattle.dom_selectors.specs.declared.syntax.Part.{Part}
use Rattle.dom_selectors.specs.ListsAsTrees.{lists_of}
use Rattle.dom_selectors.specs.ValuesAsTrees.{read_compound, read_nested}
use Rattle.dom_selectors.proofs.Layers.{read_compound_is}
use Rattle.dom_selectors.specs.Syntax.{CompoundSelector, SelectorList, Steps, alternative, compound, no_selectors, no_steps, step}
use Rattle.dom_select.specs.Meaning.{Holds, ListHolds, ListsHold, MatchesNode, PartsHold, StepsMatch}
use Rattle.dom_select.specs.Parts.{EachHolds, PartHolds, node_passes, passes_at}

-- a test as a decision, and back
pub decided : (b : Bool) (P : Type 0) → MatchBool b P (P → ⊥) → IsTrue b ↔ P
decided true P h = ((λ t. h), λ p. refl)
decided false P h = ((λ t. absurd (true≢false (sym t))), λ p. absurd (h p))

pub decides : (b : Bool) (P : Type 0) → (IsTrue b ↔ P) → MatchBool b P (P → ⊥)
decides true P h = h.0 refl
decides false P h = λ p. true≢false (sym (h.1 p))

-- a part that asks what the node is
pub passes_known : (part : Part) (forest : Forest) (n : ℕ) (node : NodeData) (b : Bool) → slice_get forest.content n ≡ Some node → b ≡ node_passes part node → IsTrue b ↔ passes_at part forest n
passes_known part forest n node b e h =
    let is : option_map_or (node_passes part) (slice_get forest.content n) false ≡ b = ap (λ o. option_map_or (node_passes part) o false) e ∙ sym h in
    ((λ t. is ∙ t), λ p. sym is ∙ p)

pub parts_known : (parts : List Part) (forest : Forest) (n : ℕ) (node : NodeData) → slice_get forest.content n ≡ Some node → (b : Bool) → (IsTrue b ↔ EachHolds parts forest n) → MatchBool b (PartsHold parts forest n) (PartsHold parts forest n → ⊥)
unfolding PartsHold
parts_known parts forest n node e b h = decides b (PartsHold parts forest n) ((λ t. (slice_get_within forest.content n node e, h.0 t)), λ held. h.1 held.1)

pub parts_unknown : (parts : List Part) (forest : Forest) (n : ℕ) → length forest.content ≤ n → PartsHold parts forest n → ⊥
unfolding PartsHold
parts_unknown parts forest n past held = let known = held.0 in omega arith

pub one_part : (part : Part) (forest : Forest) (n : ℕ) (b : Bool) → (IsTrue b ↔ PartHolds part forest n) → IsTrue b ↔ EachHolds (part ∷ []) forest n
one_part part forest n b h = ((λ t. (h.0 t, tt)), λ held. h.1 held.0)

-- what is matched is a node of the forest

known_by : (c : CompoundSelector) (forest : Forest) (n : ℕ) → Holds c forest n → n < length forest.content
unfolding PartsHold
known_by (compound parts lists) forest n h = h.0.0

known_last : (steps : Steps) (forest : Forest) (exempt w n : ℕ) → w < length forest.content → StepsMatch steps forest exempt w n → n < length forest.content
known_last no_steps forest exempt w n known led = subst (λ m. m < length forest.content) led known
known_last (step k c more) forest exempt w n known (v, joined, holds, led) = known_last more forest exempt v n (known_by c forest v holds) led

pub means_unknown : (list : SelectorList) (forest : Forest) (n : ℕ) → length forest.content ≤ n → MatchesNode list forest n → ⊥
means_unknown no_selectors forest n past m = m
means_unknown (alternative lead first rest more) forest n past (inl (w, holds, led)) = let known = known_last rest forest n w n (known_by first forest w holds) led in omega arith
means_unknown (alternative lead first rest more) forest n past (inr m) = means_unknown more forest n past m

pub holds_unknown : (c : CompoundSelector) (forest : Forest) (n : ℕ) → length forest.content ≤ n → Holds c forest n → ⊥
holds_unknown c forest n past h = let known = known_by c forest n h in omega arith

-- a compound holds of a node that was looked up where each of its parts and of its lists does
pub holds_known : (c : Compound) (forest : Forest) (n : ℕ) (node : NodeData) → slice_get forest.content n ≡ Some node → Holds (read_compound c) forest n ↔ (EachHolds c.parts.items forest n × ListsHold (lists_of (map read_nested c.nested.items)) forest n)
unfolding PartsHold
holds_known c forest n node e =
    subst (λ k. Holds k forest n ↔ (EachHolds c.parts.items forest n × ListsHold (lists_of (map read_nested c.nested.items)) forest n)) (sym (read_compound_is c))
    ((λ h. (h.0.1, h.1)), λ h. ((slice_get_within forest.content n node e, h.0), h.1))

-- the lists that are left, and that none is left
pub next_list : (lists : List Nested) (i : ℕ) (x : Nested) (forest : Forest) (n : ℕ) → i < length lists → x ≡ get_or lists i x → ListsHold (lists_of (map read_nested (drop i lists))) forest n → ListHolds (read_nested x) forest n
next_list lists i x forest n within is h =
    (subst (λ xs. ListsHold (lists_of (map read_nested xs)) forest n) (drop_more lists i x within ∙ ap (λ y. y ∷ drop (i + 1) lists) (sym is)) h).0

pub no_list_left : (lists : List Nested) (i : ℕ) (forest : Forest) (n : ℕ) → length lists ≤ i → ListsHold (lists_of (map read_nested (drop i lists))) forest n
no_list_left lists i forest n past = subst (λ xs. ListsHold (lists_of (map read_nested xs)) forest n) (sym (drop_all i lists past)) tt
