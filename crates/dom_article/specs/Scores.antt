-- The score of a block, in sixtieths of a point.
use Rattle.std.specs.Prelude.{ℕ, suc, ◌-◌, ◌*◌, ◌/◌, ◌^◌, ◌==◌, ℤ, pos, negsuc, ◌+ℤ◌, ◌-ℤ◌, neg_ℤ, int_lt, min}
use Rattle.std.specs.Prelude.{◌&&◌, ◌||◌, not, Bool, true, false, if◌then◌else◌}
use Rattle.std.specs.Int.{saturate_to_bits}
use Rattle.dom_article.specs.Sums.{long_plus, plus}
use Rattle.dom_article.specs.declared.kinds.Tag.{Tag}
use Rattle.dom_article.specs.declared.kinds.Tag.TheVariants.{Article, Cell, Div, Main, Section}
use Rattle.dom_article.specs.declared.page.Facts.{Facts}
use Rattle.dom_article.specs.declared.rounds.Rules.{Rules}
use Rattle.dom_article.specs.declared.sums.Sums.{Sums}

-- Sums of points stop at the ends of 32 bits.
abbrev pub points_plus : ℤ → ℤ → ℤ
points_plus a b = saturate_to_bits 31 (a +ℤ b)

-- Those of its name, and 25 for a node that says that it is the article by its role.
abbrev pub raised_points : Facts → ℤ
raised_points facts = if facts.is_raised then points_plus facts.kind.base (pos 25) else facts.kind.base

-- The points that a block begins with: those, and those of the words in its class and id, where they count.
abbrev pub points : (hints : Bool) → Facts → ℤ
points hints facts = if hints then points_plus (raised_points facts) facts.weight else raised_points facts

-- Elements that hold whole articles.
abbrev pub holds_articles : Tag → Bool
holds_articles Div = true
holds_articles Section = true
holds_articles Article = true
holds_articles Main = true
holds_articles Cell = true
holds_articles _ = false

-- A single paragraph has a score only if a good word says so of an element that holds articles.
abbrev pub may_be_leaf : (hints : Bool) → Facts → Bool
may_be_leaf hints facts = hints && int_lt (pos 0) facts.weight && holds_articles facts.kind.tag

abbrev pub has_none : Rules → Facts → Sums → Bool
has_none rules facts sums =
    (sums.raw == 0) || (sums.size == 0) || (sums.is_leaf && not (may_be_leaf rules.hints facts))

-- The weights of the texts with the points.
abbrev pub whole : (raw : ℕ) → (points : ℤ) → ℤ
whole raw (pos p) = pos (long_plus raw (p * 60))
whole raw (negsuc p) = pos raw -ℤ pos (suc p * 60)

-- The part of it that isn't that of links, which count in rounds that leave bad blocks out.
abbrev pub text_part : (cleans : Bool) → Sums → ℕ → ℕ
text_part cleans sums n = n * (sums.size - (if cleans then sums.link else 0)) / sums.size

-- In such rounds, of that the part of paragraphs among paragraphs and runs of links, one paragraph more than there are.
abbrev pub paragraphs_part : (cleans : Bool) → Sums → ℕ → ℕ
paragraphs_part cleans sums n =
    if cleans then n * plus sums.paragraphs 1 / plus (plus sums.paragraphs 1) sums.link_runs else n

abbrev pub of_whole : (cleans : Bool) → Sums → ℤ → ℤ
of_whole cleans sums (pos n) = pos (min (paragraphs_part cleans sums (text_part cleans sums n)) (2 ^ 63 - 1))
of_whole cleans sums (negsuc n) = neg_ℤ (pos (text_part cleans sums (suc n)))

-- The score of a block.
abbrev pub score : Rules → Facts → Sums → ℤ
score rules facts sums =
    if has_none rules facts sums then pos 0
    else of_whole rules.cleans sums (whole sums.raw (points rules.hints facts))
