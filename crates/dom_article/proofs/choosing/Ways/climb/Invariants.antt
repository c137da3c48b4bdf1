use Rattle.std.proofs.Common.{ℕ, ◌≡◌, true}
use Rattle.dom_links.specs.Lists.{is_member}
use Rattle.dom_links.specs.Trees.{ancestors}
use Rattle.dom_article.specs.Found.{IsAtOrAbove}
use Rattle.dom_article.proofs.choosing.Ways.climb.Given as goal

-- the root so far is the block or an ancestor, and so are those that are left
abbrev pub invariant-loop-above : goal.invariant-loop-above
invariant-loop-above l =
    IsAtOrAbove l.page.tree.now l.fn.best l.root ×
    ((m : ℕ) → is_member m l.above-iterator ≡ true → is_member m (ancestors l.page.tree.now l.fn.best) ≡ true)
