-- What is read of an arena's nodes is what its forest has.
use Rattle.std.proofs.Common.{ℕ, zero, suc, ◌≡◌, ◌<◌, ◌≤◌, List, [], ◌∷◌, Option, Some, None, refl, sym, ap, ◌∙◌, subst, arith, length, map, get_or}
use Rattle.std.specs.Prelude.{slice_get, option_and_then, IfSome, MatchOption}
use Rattle.std.specs.Borrow.{Bor}
use Rattle.std.proofs.lemmas.List.{get_or_past}
use Rattle.std.proofs.lemmas.Option.{slice_get_within, slice_get_read}
use Rattle.dom_nodes.specs.declared.node_data.TreeNode.{TreeNode}
use Rattle.dom_links.specs.Forest.{Forest, StandsOnce, IsArenaOf, children_of, siblings}
use Rattle.dom_links.specs.Walk.{IsNodeOf}
use Rattle.dom_links.proofs.forest.Places.{siblings_run}
use Rattle.dom_links.proofs.moves.Cuts.{length-contents}
use Rattle.dom_links.proofs.forest.Grown.{new_parentless}

got : {X Y : Type 0} (f : X → Y) (xs : List X) (n : ℕ) (x : X) → slice_get xs n ≡ Some x → slice_get (map f xs) n ≡ Some (f x)
got f [] n x e = cc
got f (y ∷ xs) zero x e = (let same : y ≡ x = cc in ap (λ z. Some (f z)) same)
got f (y ∷ xs) (suc n) x e = got f xs n x e

-- the node that is read at a place
pub node_read : (forest : Forest) (nodes : List TreeNode) (n : ℕ) (node : TreeNode) → IsArenaOf forest nodes → slice_get nodes n ≡ Some node → IsNodeOf forest n node
node_read forest nodes n node arena read =
    let here : n < length nodes = slice_get_within nodes n node read in
    let id : Some node.id ≡ Some n = sym (got (λ x. x.id) nodes n node read) ∙ arena.links.ids n here in
    record {
      content_is = ap (λ contents. slice_get contents n) (sym arena.links.contents) ∙ got (λ x. x.content) nodes n node read;
      id_is = cc;
      parent_is = sym (ap (option_and_then (λ x. x.parent)) read) ∙ arena.links.parents n here;
      prev_is = sym (ap (option_and_then (λ x. x.prev_sibling)) read) ∙ arena.links.prevs n here;
      next_is = sym (ap (option_and_then (λ x. x.next_sibling)) read) ∙ arena.links.nexts n here;
      first_is = sym (ap (option_and_then (λ x. x.first_child)) read) ∙ arena.links.firsts n here;
      last_is = sym (ap (option_and_then (λ x. x.last_child)) read) ∙ arena.links.lasts n here;
    }

pub children_past : (forest : Forest) (n : ℕ) → StandsOnce forest → length forest.content ≤ n → children_of forest n ≡ []
children_past forest n once past = get_or_past forest.children n [] (omega (arith, once.children_each))

pub siblings_past : (forest : Forest) (n : ℕ) → StandsOnce forest → length forest.content ≤ n → siblings forest n ≡ []
siblings_past forest n once past = siblings_run forest n (new_parentless forest n once past) ∙ get_or_past forest.runs n [] (omega (arith, once.runs_each))

-- the node that is looked up
pub looked_up : (forest : Forest) (nodes : List TreeNode) (n i : ℕ) (o : Option (Bor TreeNode)) (Q : Bor TreeNode → Type 0) → IsArenaOf forest nodes → i ≡ n →
    IfSome o (λ x. x.now ≡ get_or nodes i x.now) → MatchOption o (length nodes ≤ i) (λ x. (i < length nodes) × Q x) → MatchOption o (length forest.content ≤ n) (λ x. IsNodeOf forest n x.now)
looked_up forest nodes n i None Q arena same read h = (let long = length-contents forest nodes arena.links in omega arith)
looked_up forest nodes n i (Some x) Q arena same read h =
    subst (λ (k : ℕ). IsNodeOf forest k x.now) same (node_read forest nodes i x.now arena (slice_get_read nodes (length nodes) i x.now refl h.0 read))
