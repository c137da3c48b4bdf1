-- Nodes that are changed later: the forest may grow meanwhile, as the changed one does.
use Rattle.std.specs.Prelude.{slice_get}
use Rattle.std.specs.List.{All, fold}
use Rattle.std.specs.Option.{option_map_or}
use Rattle.std.proofs.Common.{◌≡◌, ◌<◌, ℕ, zero, suc, false, List, [], ◌∷◌, ◌++◌, length, refl, sym, ap, ◌∙◌, subst, arith}
use Rattle.std.proofs.lemmas.List.{length-append}
use Rattle.std.proofs.lemmas.List.Elements.{All-head, All-tail}
use Rattle.dom_nodes.specs.Kinds.{children_allowed}
use Rattle.dom_nodes.specs.declared.node_data.NodeData.{NodeData}
use Rattle.dom_nodes.specs.declared.node_data.NodeData.TheVariants.{Fragment}
use Rattle.dom_links.specs.Contents.{changed_at, with_content, KeepsKind}
use Rattle.dom_links.specs.Forest.{Forest}
use Rattle.dom_links.specs.Growth.{with_child, with_node, with_template}
use Rattle.dom_links.specs.Moves.{put}
use Rattle.dom_links.specs.Sound.{children_allowed_at}
use Rattle.dom_links.specs.declared.gap.InsertionPoint.TheVariants.{EndOf}
use Rattle.dom_links.proofs.forest.Changing.{length-changed}

-- ---- one change of a list

changed-append : {X : Type 0} (x : ℕ) (change : X → X) (xs ys : List X) → x < length xs → changed_at x change (xs ++ ys) ≡ changed_at x change xs ++ ys
changed-append x change [] ys lt = absurd (omega arith)
changed-append zero change (z ∷ zs) ys lt = refl
changed-append (suc x) change (z ∷ zs) ys lt = ap (λ l. z ∷ l) (changed-append x change zs ys (omega arith))

changed-last : {X : Type 0} (change : X → X) (xs : List X) (y : X) → changed_at (length xs) change (xs ++ y ∷ []) ≡ xs ++ change y ∷ []
changed-last change [] y = refl
changed-last change (z ∷ zs) y = ap (λ l. z ∷ l) (changed-last change zs y)

-- ---- one change of a forest

node-changed : (x : ℕ) (change : NodeData → NodeData) (c : NodeData) (forest : Forest) → x < length forest.content → with_node c (with_content x change forest) ≡ with_content x change (with_node c forest)
node-changed x change c forest lt =
    ap (λ (n : ℕ). record (with_content x change (with_node c forest)) { content = changed_at x change forest.content ++ c ∷ []; runs = forest.runs ++ (n ∷ []) ∷ [] }) (length-changed change forest.content x)
    ∙ ap (λ (content : List NodeData). record (with_node c forest) { content = content }) (sym (changed-append x change forest.content (c ∷ []) lt))

child-changed : (t x : ℕ) (change : NodeData → NodeData) (c : NodeData) (forest : Forest) → x < length forest.content → with_child t c (with_content x change forest) ≡ with_content x change (with_child t c forest)
child-changed t x change c forest lt =
    ap (λ (n : ℕ). put (EndOf t) (n ∷ []) (with_node c (with_content x change forest))) (length-changed change forest.content x)
    ∙ ap (put (EndOf t) (length forest.content ∷ [])) (node-changed x change c forest lt)

-- the last child that was made
pub last-changed : (t : ℕ) (change : NodeData → NodeData) (c : NodeData) (forest : Forest) → with_content (length forest.content) change (with_child t c forest) ≡ with_child t (change c) forest
last-changed t change c forest =
    ap (λ (content : List NodeData). record (with_child t c forest) { content = content }) (changed-last change forest.content c)

allowed-changed : (change : NodeData → NodeData) (x n : ℕ) (content : List NodeData) → KeepsKind change → option_map_or children_allowed (slice_get (changed_at x change content) n) false ≡ option_map_or children_allowed (slice_get content n) false
allowed-changed change x n [] keeps = refl
allowed-changed change zero zero (c ∷ cs) keeps = (keeps c).parents_allow
allowed-changed change zero (suc n) (c ∷ cs) keeps = refl
allowed-changed change (suc x) zero (c ∷ cs) keeps = refl
allowed-changed change (suc x) (suc n) (c ∷ cs) keeps = allowed-changed change x n cs keeps

-- ---- all changes

-- the forest may grow before it is changed or after, to the same one and at the same places
pub record CommutesWithGrowth (changed : Forest → Forest) (forest : Forest) : Type 0 where
  pub as_many : length (changed forest).content ≡ length forest.content
  pub child : (t : ℕ) (c : NodeData) → with_child t c (changed forest) ≡ changed (with_child t c forest)
  pub template : (t : ℕ) (c : NodeData) → with_template t c (changed forest) ≡ changed (with_template t c forest)
  pub allowed : (n : ℕ) → children_allowed_at (changed forest) n ≡ children_allowed_at forest n

change_commutes : (x : ℕ) (change : NodeData → NodeData) (forest : Forest) → KeepsKind change → x < length forest.content → CommutesWithGrowth (with_content x change) forest
change_commutes x change forest keeps lt = record {
  as_many = length-changed change forest.content x;
  child = λ t c. child-changed t x change c forest lt;
  template = λ t c. ap (with_node Fragment) (child-changed t x change c forest lt) ∙ node-changed x change Fragment (with_child t c forest) (omega (arith, lt, length-append forest.content (c ∷ [])));
  allowed = λ n. allowed-changed change x n forest.content keeps;
}

-- the forest with the changes that wait, made one after another
abbrev with_changes : {W : Type 0} → (W → ℕ) → (W → NodeData → NodeData) → List W → Forest → Forest
with_changes number change ws forest = fold (λ forest w. with_content (number w) (change w) forest) forest ws

pub changes_commute : {W : Type 0} (number : W → ℕ) (change : W → NodeData → NodeData) (ws : List W) (forest : Forest) → ((w : W) → KeepsKind (change w)) → All (λ w. number w < length forest.content) ws →
    CommutesWithGrowth (with_changes number change ws) forest
changes_commute number change [] forest keeps among = record { as_many = refl; child = λ t c. refl; template = λ t c. refl; allowed = λ n. refl }
changes_commute number change (w ∷ ws) forest keeps among =
    let first = change_commutes (number w) (change w) forest (keeps w) (All-head (λ v. number v < length forest.content) w ws among) in
    let rest = changes_commute number change ws (with_content (number w) (change w) forest) keeps (subst (λ n. All (λ v. number v < n) ws) (sym first.as_many) (All-tail (λ v. number v < length forest.content) w ws among)) in
    record {
      as_many = rest.as_many ∙ first.as_many;
      child = λ t c. rest.child t c ∙ ap (with_changes number change ws) (first.child t c);
      template = λ t c. rest.template t c ∙ ap (with_changes number change ws) (first.template t c);
      allowed = λ n. rest.allowed n ∙ first.allowed n;
    }
