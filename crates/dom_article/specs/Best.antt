-- The best block of a page in a round.
use Rattle.std.specs.Prelude.{ℕ, ◌≡◌, ◌<ℤ◌, ◌≤ℤ◌, ℤ, pos, int_lt, ◌&&◌, ◌||◌, not, Bool, true, false, List, ◌∷◌, ◌++◌, Option, Some, None}
use Rattle.std.specs.Prelude.{MatchOption, slice_index_or}
use Rattle.dom_links.specs.Lists.{is_member}
use Rattle.dom_article.specs.declared.kinds.Tag.{Tag}
use Rattle.dom_article.specs.declared.kinds.Tag.TheVariants.{Body, Document, Html, Other, Text}
use Rattle.dom_article.specs.declared.page.Facts.{Facts}
use Rattle.dom_article.specs.declared.page.Page.{Page}
use Rattle.dom_article.specs.declared.rounds.Round.{Round}
use Rattle.dom_article.specs.declared.sums.Sums.{Sums}

-- Whether a block with this tag may be the best one: `body` always, the document, `html` and texts
-- never, and any other unless it is a leaf without a score.
abbrev pub may_have_tag : Tag → (is_leaf : Bool) → (score : ℤ) → Bool
may_have_tag Body is_leaf score = true
may_have_tag Document is_leaf score = false
may_have_tag Html is_leaf score = false
may_have_tag Text is_leaf score = false
may_have_tag _ is_leaf score = not is_leaf || (int_lt score (pos 0) || int_lt (pos 0) score)

-- Whether a node that isn't gone is a candidate: a block with such a tag.
abbrev pub may_be_best : Facts → Sums → Bool
may_be_best facts sums = not sums.is_inline && may_have_tag facts.kind.tag sums.is_leaf sums.score

-- No node of the list passes the test.
abbrev pub NonePasses : (ℕ → Bool) → List ℕ → Type 0
NonePasses test ns = (m : ℕ) → is_member m ns ≡ true → test m ≡ false

-- The node is the first one with the greatest score among the nodes of the list that pass the test:
-- those before it have smaller scores, and those after it no greater ones.
pub record IsFirstGreatest (test : ℕ → Bool) (score : ℕ → ℤ) (ns : List ℕ) (n : ℕ) : Type 0 where
  pub passes : test n ≡ true
  pub before : List ℕ
  pub later : List ℕ
  pub split : ns ≡ before ++ n ∷ later
  pub greater : (m : ℕ) → is_member m before ≡ true → test m ≡ true → score m <ℤ score n
  pub as_great : (m : ℕ) → is_member m later ≡ true → test m ≡ true → score m ≤ℤ score n

-- The best of a list, if one of its nodes passes the test.
abbrev pub IsBestOf : (ℕ → Bool) → (ℕ → ℤ) → List ℕ → Option ℕ → Type 0
IsBestOf test score ns best = MatchOption best (NonePasses test ns) (λ n. IsFirstGreatest test score ns n)

-- Whether a node takes the place of the best one so far.
abbrev pub beats : (ℕ → Bool) → (ℕ → ℤ) → Option ℕ → ℕ → Bool
beats test score None n = test n
beats test score (Some best) n = test n && int_lt (score best) (score n)

-- What is known of a node by itself; of an unknown node that it is hidden.
abbrev pub facts_at : List Facts → ℕ → Facts
facts_at facts n = slice_index_or facts n unknown
  where
    unknown : Facts
    unknown = record {
      kind = record {
        tag = Other;
        is_block = false;
        is_heading = false;
        is_never = true;
        is_place = false;
        stays = false;
        is_never_bad = false;
        base = pos 0;
      };
      text = record { size = 0; commas = 0; ends = true; copyright = false };
      weight = pos 0;
      is_main = false;
      holds = false;
      is_hidden = true;
      has_role = false;
      is_unlikely = false;
      has_class = false;
      is_byline = false;
      is_date = false;
      is_raised = false;
      is_link = false;
      is_input = false;
    }

-- The sums of an inline node without text.
abbrev pub no_sums : Sums
no_sums = record {
  size = 0;
  link = 0;
  commas = 0;
  images = 0;
  inputs = 0;
  in_paragraphs = 0;
  paragraphs = 0;
  in_headings = 0;
  in_lists = 0;
  link_runs = 0;
  raw = 0;
  score = pos 0;
  like = None;
  is_inline = true;
  is_leaf = true;
  is_bad = false;
  ends = true;
  copyright = false;
}

-- What was added up of a node; of an unknown node nothing.
abbrev pub sums_at : List Sums → ℕ → Sums
sums_at sums n = slice_index_or sums n no_sums

-- Whether a node is gone. An unknown node is.
abbrev pub gone_at : List Bool → ℕ → Bool
gone_at gone n = slice_index_or gone n true

abbrev pub is_gone : Round → ℕ → Bool
is_gone round n = gone_at round.gone.items n

-- The score of a node in a round.
abbrev pub score_at : Round → ℕ → ℤ
score_at round n = (sums_at round.sums.items n).score

-- Whether a node is a candidate for the best block of a round.
abbrev pub is_candidate : Page → Round → ℕ → Bool
is_candidate page round n = not (is_gone round n) && may_be_best (facts_at page.facts.items n) (sums_at round.sums.items n)
