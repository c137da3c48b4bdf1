use Rattle.std.proofs.Common.{◌≡◌, ◌<◌, length, ℕ, ◌∙◌, get_or}
use Rattle.dom_nodes.specs.declared.node_data.TreeNode.{TreeNode}
use Rattle.dom_links.specs.Lists.{before, after}
use Rattle.dom_links.specs.Forest.{IsArenaOf, forest_of, parent, siblings}
use Rattle.dom_links.proofs.moves.Kept.{removed}
use Rattle.dom_links.proofs.forest.Written.{link-read}
use Rattle.dom_links.proofs.moves.Cuts.{parent_known, prev_known, next_known}
use Rattle.dom_links.proofs.moves.OneCuts.{arena-detach}
use Rattle.dom_links.proofs.ops.TreeNodeOps.remove_from_parent.Goals as goal

-- what is read at x is the forest's
read_parent : (nodes : _) (i x : ℕ) (d : TreeNode) → IsArenaOf (forest_of nodes) nodes → x < length nodes → i ≡ x → (get_or nodes i d).parent ≡ parent (forest_of nodes) x
read_parent nodes i x d arena h e = rw e (link-read (λ node. node.parent) nodes x d h ∙ arena.links.parents x h)

read_prev : (nodes : _) (i x : ℕ) (d : TreeNode) → IsArenaOf (forest_of nodes) nodes → x < length nodes → i ≡ x → (get_or nodes i d).prev_sibling ≡ before (siblings (forest_of nodes) x) x
read_prev nodes i x d arena h e = rw e (link-read (λ node. node.prev_sibling) nodes x d h ∙ arena.links.prevs x h)

read_next : (nodes : _) (i x : ℕ) (d : TreeNode) → IsArenaOf (forest_of nodes) nodes → x < length nodes → i ≡ x → (get_or nodes i d).next_sibling ≡ after (siblings (forest_of nodes) x) x
read_next nodes i x d arena h e = rw e (link-read (λ node. node.next_sibling) nodes x d h ∙ arena.links.nexts x h)

pub join-requires-clause-owner_known : goal.join-requires-clause-owner_known
join-requires-clause-owner_known c =
    parent_known (forest_of c.args.nodes.now) c.args.nodes.now c.args.x _ c.requires.linked c.requires.known
    (c.get-parent.ensures ∙ read_parent c.args.nodes.now c.value.result c.args.x c.index-nodes-value.result c.requires.linked c.requires.known c.value.ensures.number)

pub join-requires-clause-left_known : goal.join-requires-clause-left_known
join-requires-clause-left_known c =
    prev_known (forest_of c.args.nodes.now) c.args.nodes.now c.args.x _ c.requires.linked c.requires.known
    (c.get-prev.ensures ∙ read_prev c.args.nodes.now c.value.result c.args.x c.index-nodes-value.result c.requires.linked c.requires.known c.value.ensures.number)

pub join-requires-clause-right_known : goal.join-requires-clause-right_known
join-requires-clause-right_known c =
    next_known (forest_of c.args.nodes.now) c.args.nodes.now c.args.x _ c.requires.linked c.requires.known
    (c.get-next.ensures ∙ read_next c.args.nodes.now c.value.result c.args.x c.index-nodes-value.result c.requires.linked c.requires.known c.value.ensures.number)

pub returns-clause-arena : goal.returns-clause-arena
returns-clause-arena c =
    arena-detach (forest_of c.args.nodes.now) c.args.nodes.now c.join.new.nodes c.set_links.new.nodes c.args.x _ _ _ c.requires.linked c.requires.known
    (c.get-parent.ensures ∙ read_parent c.args.nodes.now c.value.result c.args.x c.index-nodes-value.result c.requires.linked c.requires.known c.value.ensures.number)
    (c.get-prev.ensures ∙ read_prev c.args.nodes.now c.value.result c.args.x c.index-nodes-value.result c.requires.linked c.requires.known c.value.ensures.number)
    (c.get-next.ensures ∙ read_next c.args.nodes.now c.value.result c.args.x c.index-nodes-value.result c.requires.linked c.requires.known c.value.ensures.number)
    c.join.ensures c.set_links.ensures

pub returns-clause-removed : goal.returns-clause-removed
returns-clause-removed c = removed c.args.nodes.now c.set_links.new.nodes c.args.x c.requires.linked c.requires.known (returns-clause-arena c)
