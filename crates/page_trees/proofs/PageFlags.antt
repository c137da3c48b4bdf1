-- Tree construction's flag for foreign content: what it is behind the tokens so far.
use Rattle.std.proofs.Common.{◌≡◌, ◌∙◌, ◌∷◌, ◌++◌, ◌&&◌, Bool, List, [], ap, false, map, not, refl, sym, true, ℕ}
use Rattle.std.specs.Option.{option_map_or}
use Rattle.std.specs.Prelude.{Some}
use Rattle.standard_tokens.specs.Reading.{Feedback}
use Rattle.standard_tokens.specs.Tokens.{Token}
use Rattle.standard_trees.specs.Building.{Building, is_empty}
use Rattle.standard_trees.specs.GrowingTree.{GrowingTree, in_foreign}
use Rattle.standard_trees.specs.Parsing.{is_foreign_now}
use Rattle.standard_trees.specs.TreeStore.{Kind, is_html, space_in}
use Rattle.standard_order.specs.Beginnings.{Beginning, first_building}
use Rattle.page_trees.specs.CoveredTurns.{covered_turn}
use Rattle.page_trees.specs.PagesRead.{page_feedback, page_steps}
use Rattle.page_trees.specs.Stands.{Builds, Tells}
use Rattle.page_trees.specs.TreeState.{TreeState}
use Rattle.page_trees.proofs.TurnsPassed.{while_all_steps}

-- ---- the answer

-- where nothing is open, the Document is the current node
pub foreign_alike : (s : TreeState) (t : GrowingTree) → Builds s t → (not (is_empty t.stack) && in_foreign t) ≡ in_foreign t
foreign_alike s t built = by t.stack
  where
    by : (stack : List ℕ) → (not (is_empty stack) && in_foreign (record t { stack = stack })) ≡ in_foreign (record t { stack = stack })
    by [] = sym (ap (λ (kind : Kind). not (is_html (space_in kind))) built.nodes.root)
    by (n ∷ ns) = refl

-- the code's answer is the definition's
pub flag_told : (depth : ℕ) (beginning : Beginning) (told : List Token) (now : Building) → page_steps depth beginning told ≡ Some now → (s : TreeState) → Builds s now.tree →
    (foreign : Bool) → Tells in_foreign s foreign → (page_feedback depth beginning).in_foreign told ≡ foreign
flag_told depth beginning told now builds s built foreign tells =
    ap (λ o. option_map_or is_foreign_now o false) (while_all_steps covered_turn depth told (first_building beginning) now builds)
    ∙ foreign_alike s now.tree built ∙ sym (tells now.tree built)
