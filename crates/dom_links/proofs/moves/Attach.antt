-- What is read at a node of an arena.
use Rattle.std.proofs.Common.{ℕ, ◌≡◌, ◌<◌, List, Option, sym, ◌∙◌, arith, length, get_or}
use Rattle.std.specs.Option.{IfSome}
use Rattle.dom_nodes.specs.declared.node_data.TreeNode.{TreeNode}
use Rattle.dom_links.specs.Lists.{first, last, after, before}
use Rattle.dom_links.specs.Forest.{Forest, IsArenaOf, children_of, parent, siblings}
use Rattle.dom_links.proofs.forest.Neighbours.{first-stands, last-stands}
use Rattle.dom_links.proofs.forest.Written.{link-read}
use Rattle.dom_links.proofs.moves.Cuts.{length-contents, if_some}

-- what is read at a node is the forest's
pub read_parent : (forest : Forest) (nodes : List TreeNode) (i x : ℕ) (d : TreeNode) → IsArenaOf forest nodes → x < length nodes → i ≡ x → (get_or nodes i d).parent ≡ parent forest x
read_parent forest nodes i x d arena h e = rw e (link-read (λ node. node.parent) nodes x d h ∙ arena.links.parents x h)

pub read_prev : (forest : Forest) (nodes : List TreeNode) (i x : ℕ) (d : TreeNode) → IsArenaOf forest nodes → x < length nodes → i ≡ x → (get_or nodes i d).prev_sibling ≡ before (siblings forest x) x
read_prev forest nodes i x d arena h e = rw e (link-read (λ node. node.prev_sibling) nodes x d h ∙ arena.links.prevs x h)

pub read_next : (forest : Forest) (nodes : List TreeNode) (i x : ℕ) (d : TreeNode) → IsArenaOf forest nodes → x < length nodes → i ≡ x → (get_or nodes i d).next_sibling ≡ after (siblings forest x) x
read_next forest nodes i x d arena h e = rw e (link-read (λ node. node.next_sibling) nodes x d h ∙ arena.links.nexts x h)

pub read_first : (forest : Forest) (nodes : List TreeNode) (i x : ℕ) (d : TreeNode) → IsArenaOf forest nodes → x < length nodes → i ≡ x → (get_or nodes i d).first_child ≡ first (children_of forest x)
read_first forest nodes i x d arena h e = rw e (link-read (λ node. node.first_child) nodes x d h ∙ arena.links.firsts x h)

pub read_last : (forest : Forest) (nodes : List TreeNode) (i x : ℕ) (d : TreeNode) → IsArenaOf forest nodes → x < length nodes → i ≡ x → (get_or nodes i d).last_child ≡ last (children_of forest x)
read_last forest nodes i x d arena h e = rw e (link-read (λ node. node.last_child) nodes x d h ∙ arena.links.lasts x h)

pub first_known : (forest : Forest) (nodes : List TreeNode) (t : ℕ) (o : Option ℕ) → IsArenaOf forest nodes → o ≡ first (children_of forest t) → IfSome o (λ m. m < length nodes)
first_known forest nodes t o arena e =
    let long : length nodes ≡ length forest.content = length-contents forest nodes arena.links in
    if_some o (λ m. m < length nodes) (λ m some. let there : m < length forest.content = (arena.once.in_children t m (first-stands (children_of forest t) m (sym e ∙ some))).0 in omega arith)

pub last_known : (forest : Forest) (nodes : List TreeNode) (t : ℕ) (o : Option ℕ) → IsArenaOf forest nodes → o ≡ last (children_of forest t) → IfSome o (λ m. m < length nodes)
last_known forest nodes t o arena e =
    let long : length nodes ≡ length forest.content = length-contents forest nodes arena.links in
    if_some o (λ m. m < length nodes) (λ m some. let there : m < length forest.content = (arena.once.in_children t m (last-stands (children_of forest t) m (sym e ∙ some))).0 in omega arith)
