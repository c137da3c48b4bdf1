-- What the search of a round starts from.
use Rattle.std.specs.Prelude.{ℕ, ◌≡◌, ◌≤◌, ℤ, pos, ◌*ℤ◌, int_lt, ◌&&◌, not, Bool, true, false, List, [], ◌∷◌}
use Rattle.std.specs.Prelude.{Option, Some, None, if◌then◌else◌}
use Rattle.std.specs.Int.{saturate_to_bits}
use Rattle.dom_links.specs.Trees.{ancestors}
use Rattle.dom_article.specs.Best.{IsBestOf, NonePasses, facts_at, is_candidate, is_gone, score_at, sums_at}
use Rattle.dom_article.specs.declared.kinds.Tag.{Tag}
use Rattle.dom_article.specs.declared.kinds.Tag.TheVariants.{Body, Document, Html}
use Rattle.dom_article.specs.declared.page.Page.{Page}
use Rattle.dom_article.specs.declared.rounds.Round.{Round}

-- ---- the promoted block

-- Products stop at the greatest number of 64 bits.
abbrev pub times : ℕ → ℤ → ℤ
times n score = saturate_to_bits 63 (pos n *ℤ score)

-- Whether a score is at least two thirds of another.
abbrev pub has_two_thirds : (top score : ℤ) → Bool
has_two_thirds top score = not (int_lt (times 3 score) (times 2 top))

-- The document, `html` and `body`, which no block is promoted to.
abbrev pub is_frame_tag : Tag → Bool
is_frame_tag Document = true
is_frame_tag Html = true
is_frame_tag Body = true
is_frame_tag _ = false

abbrev pub is_frame_at : Page → ℕ → Bool
is_frame_at page n = is_frame_tag (facts_at page.facts.items n).kind.tag

-- The last node of a list that passes the test, before the first one of a frame; or else this one.
abbrev pub last_inside : (frame test : ℕ → Bool) → ℕ → List ℕ → ℕ
last_inside frame test n [] = n
last_inside frame test n (m ∷ ms) =
    if frame m then n else last_inside frame test (if test m then m else n) ms

-- The outermost one of a block and its ancestors below `body` that has two thirds of the block's score.
abbrev pub promoted : Page → Round → ℕ → ℕ
promoted page round n =
    last_inside (is_frame_at page) (λ m. has_two_thirds (score_at round n) (score_at round m)) n (ancestors page.tree.now n)

-- ---- the element that says that it is the article

abbrev pub is_main_at : Page → Round → ℕ → Bool
is_main_at page round n = not (is_gone round n) && (facts_at page.facts.items n).is_main

abbrev pub size_at : Round → ℕ → ℤ
size_at round n = pos (sums_at round.sums.items n).size

-- In a round that leaves no bad blocks out, the first of the largest elements that say that they are the article, if it has 400
-- characters.
pub record IsLargest (page : Page) (round : Round) (n : ℕ) : Type 0 where
  pub keeps_bad : round.rules.cleans ≡ false
  pub largest : IsBestOf (is_main_at page round) (size_at round) page.order.items (Some n)
  pub large : 400 ≤ (sums_at round.sums.items n).size

abbrev pub IsLargeMain : Page → Round → Option ℕ → Type 0
IsLargeMain page round (Some n) = IsLargest page round n
IsLargeMain page round None = (n : ℕ) → IsLargest page round n → ⊥

-- ---- the start

-- The search of a round starts from such an element; or else from the first block with the greatest score, promoted; and from
-- nothing, if there is no candidate.
pub data Starts (page : Page) (round : Round) : Option ℕ → Type 0 where
  at_main : (n : ℕ) → IsLargest page round n → Starts page round (Some n)
  at_best : (n : ℕ) → IsLargeMain page round None →
      IsBestOf (is_candidate page round) (score_at round) page.order.items (Some n) →
      Starts page round (Some (promoted page round n))
  nowhere : IsLargeMain page round None → NonePasses (is_candidate page round) page.order.items → Starts page round None
