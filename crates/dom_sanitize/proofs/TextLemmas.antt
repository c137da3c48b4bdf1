-- The texts of a tree that was cleaned.
use Rattle.std.proofs.Common.{ℕ, ◌≡◌, List, [], ◌∷◌, ◌++◌, Option, Some, None, refl, sym, ap, ◌∙◌, append_assoc}
use Rattle.std.specs.Prelude.{slice_get, true, if◌then◌else◌, ◌||◌, Bool, false}
use Rattle.std.specs.List.{flat_map}
use Rattle.std.specs.Option.{option_map, option_map_or}
use Rattle.std.proofs.lemmas.Grind.{flat_map-append}
use Rattle.dom_nodes.specs.declared.node_data.NodeData.{NodeData}
use Rattle.dom_nodes.specs.declared.node_data.NodeData.TheVariants.{Document, Fragment, Doctype, Text, Comment, Element, ProcessingInstruction}
use Rattle.dom_nodes.specs.Words.{is_among}
use Rattle.dom_links.specs.Forest.{Forest, children_of}
use Rattle.dom_links.specs.Laws.{AreTrees}
use Rattle.dom_links.specs.Sound.{IsForest}
use Rattle.dom_links.specs.Texts.{text_at, text_in}
use Rattle.dom_links.specs.Trees.{trees, walk, descendants_in_order}
use Rattle.dom_sanitize.specs.Clean.{Clean, nothing, stays, is_unwrapped, vanishes, Cleaned, Lists, fate_at, fate_of, is_template, kept}
use Rattle.dom_sanitize.specs.Laws.{HoldsTextsAlone, KeepsText, if_left, left_text}
use Rattle.dom_sanitize.specs.declared.plan.Fate.TheVariants.{Stay, Unwrap, Vanish}
use Rattle.dom_sanitize.proofs.CleanLemmas.{are_allowed, children_inside, inside_back, inside_front, walk-append, walk-cons, walk-none}
use Rattle.dom_sanitize.proofs.PlanLemmas.{AreInside, inside_rest}

-- ---- the text of what is left

text_stays : (allow : Lists) (o : Option NodeData) → option_map_or text_in (option_map (kept allow) o) [] ≡ option_map_or text_in o []
text_stays allow None = refl
text_stays allow (Some Document) = refl
text_stays allow (Some Fragment) = refl
text_stays allow (Some (Doctype name public_id system_id)) = refl
text_stays allow (Some (Text contents)) = refl
text_stays allow (Some (Comment contents)) = refl
text_stays allow (Some (Element element)) = refl
text_stays allow (Some (ProcessingInstruction target contents)) = refl

-- only an element is unwrapped
no_text : (allow : Lists) (o : Option NodeData) → option_map_or (fate_of allow) o Vanish ≡ Unwrap → option_map_or text_in o [] ≡ []
no_text allow None e = refl
no_text allow (Some Document) e = refl
no_text allow (Some Fragment) e = refl
no_text allow (Some (Doctype name public_id system_id)) e = refl
no_text allow (Some (Text contents)) e = absurd (let bad : Stay ≡ Unwrap = e in cc)
no_text allow (Some (Comment contents)) e = refl
no_text allow (Some (Element element)) e = refl
no_text allow (Some (ProcessingInstruction target contents)) e = refl

module _ (allow : Lists) (old new : Forest) (was : IsForest old) (were : AreTrees old) (good : IsForest new) (are : AreTrees new) where
  old_text : (n : ℕ) (ns : List ℕ) → AreInside old (n ∷ ns) → left_text allow old (trees old (n ∷ ns)) ≡ if_left (fate_at allow old n) (text_at old n ++ left_text allow old (trees old (children_of old n))) ++ left_text allow old (trees old ns)
  old_text n ns there = ap (left_text allow old) (were.a_tree n ns there)

  kept_in : (ns ms : List ℕ) → Clean allow old new ns ms → AreInside old ns → AreInside new ms → flat_map (text_at new) (walk (trees new ms)) ≡ left_text allow old (trees old ns)
  kept_in _ _ nothing there known = ap (flat_map (text_at new)) (walk-none new are) ∙ ap (left_text allow old) (sym were.no_trees)
  kept_in _ _ (stays n ns ms fate content inner later) there known =
      let here : text_at new n ≡ text_at old n = ap (λ o. option_map_or text_in o []) content ∙ text_stays allow (slice_get old.content n) in
      let under = kept_in (children_of old n) (children_of new n) inner (children_inside old was n) (children_inside new good n) in
      let rest = kept_in ns ms later (inside_rest old n ns there) (inside_rest new n ms known) in
      ap (flat_map (text_at new)) (walk-cons new are n ms known)
      ∙ ap (λ t. text_at new n ++ t) (flat_map-append (text_at new) (descendants_in_order new n) (walk (trees new ms)))
      ∙ sym (append_assoc (text_at new n) (flat_map (text_at new) (descendants_in_order new n)) (flat_map (text_at new) (walk (trees new ms))))
      ∙ ap (λ t. (t ++ flat_map (text_at new) (descendants_in_order new n)) ++ flat_map (text_at new) (walk (trees new ms))) here
      ∙ ap (λ t. (text_at old n ++ t) ++ flat_map (text_at new) (walk (trees new ms))) under
      ∙ ap (λ t. (text_at old n ++ left_text allow old (trees old (children_of old n))) ++ t) rest
      ∙ ap (λ f. if_left f (text_at old n ++ left_text allow old (trees old (children_of old n))) ++ left_text allow old (trees old ns)) (sym fate)
      ∙ sym (old_text n ns there)
  kept_in _ _ (is_unwrapped n ns ks ms fate same none inner later) there known =
      let here : text_at old n ≡ [] = no_text allow (slice_get old.content n) fate in
      let under = kept_in (children_of old n) ks inner (children_inside old was n) (inside_front new ks ms known) in
      let rest = kept_in ns ms later (inside_rest old n ns there) (inside_back new ks ms known) in
      ap (flat_map (text_at new)) (walk-append new are ks ms known)
      ∙ flat_map-append (text_at new) (walk (trees new ks)) (walk (trees new ms))
      ∙ ap (λ t. t ++ flat_map (text_at new) (walk (trees new ms))) under
      ∙ ap (λ t. left_text allow old (trees old (children_of old n)) ++ t) rest
      ∙ ap (λ t. (t ++ left_text allow old (trees old (children_of old n))) ++ left_text allow old (trees old ns)) (sym here)
      ∙ ap (λ f. if_left f (text_at old n ++ left_text allow old (trees old (children_of old n))) ++ left_text allow old (trees old ns)) (sym fate)
      ∙ sym (old_text n ns there)
  kept_in _ _ (vanishes n ns ms fate left later) there known =
      kept_in ns ms later (inside_rest old n ns there) known
      ∙ ap (λ f. if_left f (text_at old n ++ left_text allow old (trees old (children_of old n))) ++ left_text allow old (trees old ns)) (sym fate)
      ∙ sym (old_text n ns there)

  pub text_kept : Cleaned allow old new → KeepsText allow old new
  text_kept cleaned =
      let here : text_at new 0 ≡ text_at old 0 = ap (λ o. option_map_or text_in o []) cleaned.root in
      ap (λ t. t ++ flat_map (text_at new) (descendants_in_order new 0)) here
      ∙ ap (λ t. text_at old 0 ++ t) (kept_in (children_of old 0) (children_of new 0) cleaned.below (children_inside old was 0) (children_inside new good 0))

-- ---- where no element is allowed

stays_not : (vanish : Bool) → (if vanish then Vanish else Unwrap) ≡ Stay → ⊥
stays_not true e = cc
stays_not false e = cc

is_text : (allow : Lists) → allow.elements ≡ [] → (o : Option NodeData) → option_map_or (fate_of allow) o Vanish ≡ Stay → (contents : List ℕ) × (o ≡ Some (Text contents))
is_text allow none None e = absurd (let bad : Vanish ≡ Stay = e in cc)
is_text allow none (Some Document) e = absurd (let bad : Vanish ≡ Stay = e in cc)
is_text allow none (Some Fragment) e = absurd (let bad : Vanish ≡ Stay = e in cc)
is_text allow none (Some (Doctype name public_id system_id)) e = absurd (let bad : Vanish ≡ Stay = e in cc)
is_text allow none (Some (Text contents)) e = (contents, refl)
is_text allow none (Some (Comment contents)) e = absurd (let bad : Vanish ≡ Stay = e in cc)
is_text allow none (Some (Element element)) e =
    let vanish : Bool = is_template element || is_among element.name.local allow.drop in
    let now : (if vanish then Vanish else (if is_among element.name.local [] then Stay else Unwrap)) ≡ Stay =
    ap (λ names. if vanish then Vanish else (if is_among element.name.local names then Stay else Unwrap)) (sym none) ∙ e in
    absurd (stays_not vanish now)
is_text allow none (Some (ProcessingInstruction target contents)) e = absurd (let bad : Vanish ≡ Stay = e in cc)

pub texts_alone : (allow : Lists) (old new : Forest) → IsForest new → AreTrees new → Cleaned allow old new → allow.elements ≡ [] → HoldsTextsAlone new
texts_alone allow old new good are cleaned none = λ n s. is_text allow none (slice_get new.content n) (are_allowed allow old new good are cleaned n s).stays
