-- Going along a list to its end, or to the nearest element.
use Rattle.std.proofs.Common.{ℕ, ◌≡◌, ◌<◌, Bool, true, false, Option, Some, None, refl, ap, ◌∙◌, arith, cond, length}
use Rattle.std.specs.Prelude.{find, if◌then◌else◌}
use Rattle.std.specs.Option.{option_map_or, option_or}
use Rattle.dom_nodes.specs.declared.node_data.TreeNode.{TreeNode}
use Rattle.dom_nodes.specs.Kinds.{is_element}
use Rattle.dom_links.specs.Lists.{after, last}
use Rattle.dom_links.specs.Forest.{Forest, siblings}
use Rattle.dom_links.specs.ListMoves.{element_at}
use Rattle.dom_links.specs.Sound.{IsForest}
use Rattle.dom_links.specs.Trees.{in_order}
use Rattle.dom_links.specs.Walk.{IsNodeOf, IsWithin, later, row_on}
use Rattle.dom_links.proofs.forest.Neighbours.{last-cons}
use Rattle.dom_links.proofs.walks.Later.{Follows, follows}

-- the sibling that follows in a direction
pub neighbour_is : (forest : Forest) (rev : Bool) (at : ℕ) (node : TreeNode) → IsNodeOf forest at node →
    (if rev then node.prev_sibling else node.next_sibling) ≡ after (in_order rev (siblings forest at)) at
neighbour_is forest true at node is = is.prev_is
neighbour_is forest false at node is = is.next_is

pub element_is : (forest : Forest) (at : ℕ) (node : TreeNode) → IsNodeOf forest at node → element_at forest at ≡ is_element node.content
element_is forest at node is = ap (λ o. option_map_or is_element o false) is.content_is

-- No element was met yet on the way along the list from a node
pub record Seeking (forest : Forest) (rev : Bool) (from next : Option ℕ) : Type 0 where
  pub same : find (element_at forest) (row_on forest rev from) ≡ find (element_at forest) (row_on forest rev next)
  pub within : IsWithin forest next

-- another node is passed
pub record Passed (forest : Forest) (rev : Bool) (from next beyond : Option ℕ) : Type 0 where
  pub seeking : Seeking forest rev from beyond
  pub fewer : length (row_on forest rev beyond) < length (row_on forest rev next)

pub passed_it : (forest : Forest) (rev : Bool) (from next beyond : Option ℕ) (at : ℕ) → IsForest forest → Seeking forest rev from next → next ≡ Some at → element_at forest at ≡ false →
    beyond ≡ after (in_order rev (siblings forest at)) at → Passed forest rev from next beyond
passed_it forest rev from next beyond at good seeking is missed on =
    let rest = follows forest rev at beyond good on in
    record {
      seeking = record {
        same = seeking.same ∙ ap (λ o. find (element_at forest) (row_on forest rev o)) is ∙ ap (λ t. cond t (Some at) (find (element_at forest) (later forest rev at))) missed
            ∙ ap (find (element_at forest)) (Follows.rest rest);
        within = Follows.within rest;
      };
      fewer = omega (arith, ap (λ o. length (row_on forest rev o)) is, ap length (Follows.rest rest));
    }

-- The last node so far on the way along the siblings after a node
pub record Going (forest : Forest) (n : ℕ) (next found : Option ℕ) : Type 0 where
  pub same : last (later forest false n) ≡ option_or (last (row_on forest false next)) found
  pub within : IsWithin forest next

pub goes : (forest : Forest) (n : ℕ) (next : Option ℕ) → IsForest forest → next ≡ after (siblings forest n) n → Going forest n next None
goes forest n next good is =
    let rest = follows forest false n next good is in
    record { same = ap last (Follows.rest rest) ∙ or_none (last (row_on forest false next)); within = Follows.within rest }
  where
    or_none : (o : Option ℕ) → o ≡ option_or o None
    or_none None = refl
    or_none (Some m) = refl

or_twice : (o old : Option ℕ) (at : ℕ) → option_or (option_or o (Some at)) old ≡ option_or o (Some at)
or_twice None old at = refl
or_twice (Some m) old at = refl

pub record WentOn (forest : Forest) (n : ℕ) (next beyond : Option ℕ) (at : ℕ) : Type 0 where
  pub going : Going forest n beyond (Some at)
  pub fewer : length (row_on forest false beyond) < length (row_on forest false next)

pub goes_on : (forest : Forest) (n : ℕ) (next beyond found : Option ℕ) (at : ℕ) → IsForest forest → Going forest n next found → next ≡ Some at → beyond ≡ after (siblings forest at) at →
    WentOn forest n next beyond at
goes_on forest n next beyond found at good going is on =
    let rest = follows forest false at beyond good on in
    record {
      going = record {
        same = going.same ∙ ap (λ o. option_or (last (row_on forest false o)) found) is ∙ ap (λ o. option_or o found) (last-cons at (later forest false at))
            ∙ or_twice (last (later forest false at)) found at ∙ ap (λ ns. option_or (last ns) (Some at)) (Follows.rest rest);
        within = Follows.within rest;
      };
      fewer = omega (arith, ap (λ o. length (row_on forest false o)) is, ap length (Follows.rest rest));
    }
