-- A comment that is inserted as the last child of `html` is one of the definition.
use Rattle.std.proofs.Common.{◌≡◌, ℕ, ◌||◌, Bool, true, false, List, [], ◌∷◌, ◌++◌, map, reverse, refl, sym, ap, subst, ◌∙◌, codes, Some, None, true≢false}
use Rattle.std.specs.Prelude.{encode_utf8_all, slice_get}
use Rattle.std.specs.Option.{option_map}
use Rattle.std.specs.Str.{bytes_eq}
use Rattle.std.proofs.lemmas.List.{reverse-append}
use Rattle.std.proofs.lemmas.Option.{none-some, same_Some}
use Rattle.std.proofs.lemmas.Slice.Eq.{bytes_eq-Decides}
use Rattle.dom_nodes.specs.declared.node_data.NodeData.TheVariants.{Comment}
use Rattle.dom_links.specs.AddedTexts.{with_node_at}
use Rattle.dom_links.specs.Forest.{Forest}
use Rattle.dom_links.specs.Sound.{IsForest, IsOpenGap}
use Rattle.dom_links.specs.declared.gap.InsertionPoint.TheVariants.{EndOf as TheEndOf}
use Rattle.standard_trees.specs.GrowingTree.{GrowingTree, is_among, topmost, with_comment}
use Rattle.standard_trees.specs.TreeStore.{EndOf, Node, contents_in, key_in, node_at}
use Rattle.page_trees.specs.LateMerges.{IsBelowHtml}
use Rattle.page_trees.specs.Stands.{AllStand, Builds, StandsFor}
use Rattle.page_trees.specs.TreeState.{TreeState}
use Rattle.page_trees.specs.declared.stack.Open.{Open}
use Rattle.page_trees.proofs.BuiltNodes.{comment_built}
use Rattle.page_trees.proofs.OpenNames.{first_is_html, nothing_below}
use Rattle.page_trees.proofs.StandingNames.{one_agrees}
use Rattle.page_trees.proofs.StandingPlaces.{template_known}

last_stands : (nodes : List Node) (os : List Open) (o : Open) → AllStand nodes (os ++ o ∷ []) → StandsFor nodes o
last_stands nodes [] o s = s.0
last_stands nodes (one ∷ os) o s = last_stands nodes os o s.1

first_stands : (nodes : List Node) (all : List Open) (o : Open) → Some o ≡ slice_get all 0 → AllStand nodes (reverse all) → StandsFor nodes o
first_stands nodes [] o got s = absurd (none-some o (sym got))
first_stands nodes (one ∷ os) o got s =
    subst (StandsFor nodes) (sym (same_Some o one got)) (last_stands nodes (reverse os) one (subst (AllStand nodes) (reverse-append (one ∷ []) os) s))

no_template : (key : List ℕ) → is_among key (codes "html" ∷ []) ≡ true → is_among key (codes "template" ∷ []) ≡ false
no_template key h = by (bytes_eq key (codes "html")) refl h
  where
    by : (b : Bool) → bytes_eq key (codes "html") ≡ b → (b || false) ≡ true → is_among key (codes "template" ∷ []) ≡ false
    by true e is = ap (λ k. is_among k (codes "template" ∷ [])) ((bytes_eq-Decides key (codes "html")).0 e)
    by false e is = absurd (true≢false (sym is))

pub html_comment_built : (s : TreeState) (t : GrowingTree) (h : Forest) (o : Open) (text cs : List ℕ) → Builds s t → IsForest s.forest → IsOpenGap (TheEndOf o.id) s.forest →
    Some o ≡ slice_get s.stack 0 → IsBelowHtml t → text ≡ encode_utf8_all cs → h ≡ with_node_at (TheEndOf o.id) (Comment text) s.forest →
    Builds (record s { forest = h }) (with_comment cs (EndOf (topmost t.stack)) t)
html_comment_built s t h o text cs b good opens got html spelt e =
    let same : topmost t.stack ≡ o.id = same_Some _ _ (sym (first_is_html s t b html) ∙ ap (option_map (λ (x : Open). x.id)) (sym got)) in
    let stands : StandsFor t.nodes o = first_stands t.nodes s.stack o got b.stack.nodes in
    let plain = stands.plain (one_agrees (codes "template" ∷ []) template_known t o stands
    ∙ no_template (key_in (node_at t.nodes o.id).kind) (ap (λ (n : ℕ). is_among (key_in (node_at t.nodes n).kind) (codes "html" ∷ [])) (sym same) ∙ html)) in
    subst (λ (n : ℕ). Builds (record s { forest = h }) (with_comment cs (EndOf n) t)) (sym same)
    (comment_built s t h (TheEndOf o.id) (EndOf o.id) text cs b good opens (refl, ap contents_in stands.kind ∙ plain) spelt e)

-- where nothing is open, no element `html` is
pub none_below : (s : TreeState) (t : GrowingTree) → Builds s t → None ≡ slice_get s.stack 0 → IsBelowHtml t → ⊥
none_below s t b got html = nothing_below s t b (by s.stack b.stack.ids got) html
  where
    by : (os : List Open) → t.stack ≡ map (λ (x : Open). x.id) (reverse os) → None ≡ slice_get os 0 → t.stack ≡ []
    by [] ids none = ids
    by (o ∷ os) ids none = absurd (none-some o none)
