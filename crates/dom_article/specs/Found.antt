-- The root of an article.
use Rattle.std.specs.Prelude.{ℕ, ◌≡◌, ◌⊎◌, ◌/◌, ◌&&◌, ◌||◌, nat_le, nat_lt, Bool, true, false, List, Option, Some, None, if◌then◌else◌}
use Rattle.dom_links.specs.Forest.{Forest}
use Rattle.dom_links.specs.Lists.{is_member}
use Rattle.dom_links.specs.Trees.{ancestors}
use Rattle.dom_article.specs.Badness.{long_times}
use Rattle.dom_article.specs.Best.{sums_at}
use Rattle.dom_article.specs.Chosen.{Starts}
use Rattle.dom_article.specs.Facts.{AreFacts}
use Rattle.dom_article.specs.Nodes.{IsOrdered, IsRound}
use Rattle.dom_article.specs.Pruned.{IsExtract}
use Rattle.dom_article.specs.Texts.{keeps_text}
use Rattle.dom_article.specs.declared.finding.Found.{Found}
use Rattle.dom_article.specs.declared.finding.Taking.{Taking}
use Rattle.dom_article.specs.declared.page.Page.{Page}
use Rattle.dom_article.specs.declared.rounds.Round.{Round}
use Rattle.dom_article.specs.declared.rounds.Rules.{Rules}

-- The root is a block or one of its ancestors.
abbrev pub IsAtOrAbove : Forest → (block root : ℕ) → Type 0
IsAtOrAbove forest block root = (root ≡ block) ⊎ (is_member root (ancestors forest block) ≡ true)

-- The root is the block from which the search of a round starts, or an ancestor of it.
pub record IsChosen (page : Page) (round : Round) (root : ℕ) : Type 0 where
  pub best : ℕ
  pub starts : Starts page round (Some best)
  pub above : IsAtOrAbove page.tree.now best root

-- ---- the rounds

-- Whether a round found enough, so that no later one is asked: texts of 400 characters; or paragraphs of 100 in the root, and a sixth
-- of what isn't gone.
abbrev pub is_enough : Round → (root total : ℕ) → Bool
is_enough round root total =
    nat_le 400 total || (nat_le 100 (sums_at round.sums.items root).in_paragraphs && nat_le round.visible (long_times total 6))

-- A round of a page by these rules found this.
pub record IsFoundBy (page : Page) (rules : Rules) (found : Found) : Type 0 where
  pub round : Round
  pub is_round : IsRound page rules round
  pub chosen : IsChosen page round found.root
  pub enough : found.is_enough ≡ is_enough round found.root found.total
  pub sure : found.sure ≡ (found.is_enough && rules.cleans)

-- A round of a page by these rules has no block to start from.
pub record FindsNothing (page : Page) (rules : Rules) : Type 0 where
  pub round : Round
  pub is_round : IsRound page rules round
  pub nowhere : Starts page round None

-- Whether what a round found takes the place of what is taken: if it has a text, or more than twice as much.
abbrev pub is_more : Option Found → Found → Bool
is_more None found = nat_lt 0 found.total
is_more (Some other) found = nat_lt other.total (found.total / 2)

abbrev pub better : Option Found → Found → Option Found
better taken found = if is_more taken found then Some found else taken

-- What is taken after one more round, and whether that was the last one.
pub data IsStep (page : Page) (rules : Rules) (taken : Option Found) : Taking → Type 0 where
  nothing : FindsNothing page rules → IsStep page rules taken (record { taken = taken; is_last = false })
  something : (found : Found) → IsFoundBy page rules found →
      IsStep page rules taken (record { taken = better taken found; is_last = found.is_enough })

abbrev pub first_rules : Rules
first_rules = record { hints = true; cleans = true }

abbrev pub second_rules : Rules
second_rules = record { hints = true; cleans = false }

abbrev pub third_rules : Rules
third_rules = record { hints = false; cleans = false }

-- What the rounds find: a later one is asked only if no earlier one was the last.
pub data AreRounds (page : Page) : Option Found → Type 0 where
  one : (first : Taking) → IsStep page first_rules None first → first.is_last ≡ true → AreRounds page first.taken
  two : (first second : Taking) → IsStep page first_rules None first → first.is_last ≡ false →
      IsStep page second_rules first.taken second → second.is_last ≡ true → AreRounds page second.taken
  three : (first second third : Taking) → IsStep page first_rules None first → first.is_last ≡ false →
      IsStep page second_rules first.taken second → second.is_last ≡ false → IsStep page third_rules second.taken third →
      AreRounds page third.taken

-- The rounds of a page take what has this root.
pub record IsTaken (page : Page) (root : ℕ) : Type 0 where
  pub found : Found
  pub rounds : AreRounds page (Some found)
  pub root_is : root ≡ found.root

-- ---- articles

-- The root of an article: that of the page, or that of the round that is taken, by what is known of each node of the page.
pub data IsRoot (forest : Forest) : ℕ → Type 0 where
  of_page : IsRoot forest 0
  of_round : (page : Page) (root : ℕ) → page.tree.now ≡ forest → IsOrdered page → AreFacts forest page.facts.items → IsTaken page root →
      IsRoot forest root

-- What an article keeps of a page: the page's tree below a root that was chosen, with subtrees left out; nothing hidden; and a
-- text.
pub record IsArticle (forest : Forest) (root : ℕ) (marks : List Bool) : Type 0 where
  pub extract : IsExtract forest root marks
  pub has_text : keeps_text forest marks ≡ true
  pub root_is : IsRoot forest root
