use Rattle.std.proofs.Common.{◌≡◌, [], ◌∷◌, Some, refl, ap}
use Rattle.dom_links.specs.Examples.{small}
use Rattle.dom_links.specs.Forest.{chain, children_of, parent}
use Rattle.dom_links.specs.Trees.{ancestors, limited, trees, trees_to, upward, walk}
use Rattle.dom_links.proofs.laws.worked_walks.Goals as goal

pub returns : goal.returns
unfolding trees upward
returns c = λ content seven.
    let up : ancestors (small content) 4 ≡ 1 ∷ 0 ∷ [] = ap (λ most. chain (parent (small content)) most (Some 1)) seven in
    record {
      above_three = refl;
      above_five = refl;
      ends = (refl, refl);
      beside_three = refl;
      after_three = refl;
      before_three = refl;
      before_two = refl;
      below_root = ap (λ most. walk (trees_to (small content) most (children_of (small content) 0))) seven;
      below_five = ap (λ most. walk (trees_to (small content) most (children_of (small content) 5))) seven;
      up_from_four = up;
      one_up = ap (limited (Some 1)) up;
      all_up = ap (limited (Some 0)) up;
      backwards = refl;
    }
