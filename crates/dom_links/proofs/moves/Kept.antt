-- A move of one node that is allowed leaves a forest.
use Rattle.std.proofs.Common.{ℕ, ◌≡◌, ◌<◌, true, List, [], ◌∷◌, sym, ap, subst, arith, length}
use Rattle.dom_nodes.specs.declared.node_data.TreeNode.{TreeNode}
use Rattle.dom_links.specs.Forest.{Forest, IsArenaOf, forest_of}
use Rattle.dom_links.specs.Moves.{InsertionPoint, detach, moved_to}
use Rattle.dom_links.specs.Sound.{is_open, target, IsForest, MayPlace, Removed}
use Rattle.dom_links.proofs.moves.Cuts.{length-contents, only}
use Rattle.dom_links.proofs.moves.BlockCuts.{one_node}
use Rattle.dom_links.proofs.moves.BlockKept.{forest-cut_out, forest-moved_list}
use Rattle.dom_links.proofs.forest.Chains.{forest_of-arena}

pub forest-moved : (forest : Forest) (gap : InsertionPoint) (x : ℕ) → IsForest forest → x < length forest.content → target gap < length forest.content → is_open gap forest ≡ true → MayPlace forest (target gap) x →
    IsForest (moved_to (x ∷ []) gap forest)
forest-moved forest gap x good hx ht open' may =
    forest-moved_list forest gap (x ∷ []) good (one_node forest x hx)
    (record { target_known = ht; open_here = open'; may = λ n s. subst (MayPlace forest (target gap)) (only x n s) may })

pub forest-detach : (forest : Forest) (x : ℕ) → IsForest forest → x < length forest.content → IsForest (detach (x ∷ []) forest)
forest-detach forest x good hx = forest-cut_out forest (x ∷ []) good (one_node forest x hx) (λ n s _. ap (λ (k : ℕ). k ∷ []) (only x n s))

pub removed : (old new : List TreeNode) (x : ℕ) → IsArenaOf (forest_of old) old → x < length old → IsArenaOf (detach (x ∷ []) (forest_of old)) new → Removed old new x
removed old new x before h arena =
    let long = length-contents (forest_of old) old before.links in
    let is : forest_of new ≡ detach (x ∷ []) (forest_of old) = forest_of-arena (detach (x ∷ []) (forest_of old)) new arena in
    record {
      made = is;
      linked = subst (λ (forest : Forest). IsArenaOf forest new) (sym is) arena;
      kept = λ _ good. subst IsForest (sym is) (forest-detach (forest_of old) x good (omega arith));
    }
