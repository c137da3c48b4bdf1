-- Which blocks are bad: left out of the sums of the blocks around them, and of the article.
use Rattle.std.specs.Prelude.{ℕ, ◌*◌, ◌/◌, ◌^◌, ◌-◌, ◌==◌, ℤ, pos, int_lt, min, nat_lt}
use Rattle.std.specs.Prelude.{◌&&◌, ◌||◌, not, Bool, true, false, if◌then◌else◌}
use Rattle.dom_article.specs.declared.kinds.Tag.{Tag}
use Rattle.dom_article.specs.declared.kinds.Tag.TheVariants.{Aside, Document, Figure, Footer, List, Section, Table}
use Rattle.dom_article.specs.declared.page.Facts.{Facts}
use Rattle.dom_article.specs.declared.rounds.Rules.{Rules}
use Rattle.dom_article.specs.declared.sums.Sums.{Sums}

-- Products stop at the greatest number of 64 bits.
abbrev pub long_times : ℕ → ℕ → ℕ
long_times m n = min (m * n) (2 ^ 64 - 1)

-- Whether a part is more than so many of so many equal shares of a whole.
abbrev pub exceeds : (part share among whole : ℕ) → Bool
exceeds part share among whole = nat_lt (long_times whole share) (long_times part among)

abbrev pub has_few_commas : Sums → Bool
has_few_commas sums = nat_lt sums.commas 10

abbrev pub is_document : Tag → Bool
is_document Document = true
is_document _ = false

abbrev pub is_aside : Tag → Bool
is_aside Aside = true
is_aside Footer = true
is_aside _ = false

abbrev pub is_section : Tag → Bool
is_section Section = true
is_section _ = false

abbrev pub is_figure : Tag → Bool
is_figure Figure = true
is_figure _ = false

-- More than one image, and not half as many paragraphs, unless it is a figure.
abbrev pub has_many_images : Tag → Sums → Bool
has_many_images tag sums = nat_lt 1 sums.images && not (is_figure tag) && nat_lt (sums.paragraphs * 2) sums.images

-- Fewer than 25 characters with a link, without an image, and less than nine tenths of them in headings.
abbrev pub is_short : Sums → Bool
is_short sums =
    nat_lt sums.size 25 && nat_lt 0 sums.link && (sums.images == 0) && nat_lt (sums.in_headings * 10) (sums.size * 9)

-- Too many of its characters are in links: four fifths of a list of lists, half of another block, and two fifths of one without
-- a good word.
abbrev pub is_of_links : (weight : ℤ) → Sums → Bool
is_of_links weight sums =
    exceeds sums.link 1 2 sums.size || (exceeds sums.link 2 5 sums.size && int_lt weight (pos 25))

-- A block that is neither a list nor a table. The first line that applies decides.
abbrev pub is_bad_text : Tag → (weight : ℤ) → Sums → Bool
is_bad_text tag weight sums =
    if int_lt weight (pos 0) && not (is_section tag) then true
    else if not (has_few_commas sums) then false
    else if has_many_images tag sums || nat_lt (sums.paragraphs / 3) sums.inputs then true
    else if exceeds sums.in_lists 9 10 sums.size then exceeds sums.link 4 5 sums.size
    else is_of_links weight sums || is_short sums

-- A table is bad by its links only if it has few commas.
abbrev pub is_bad_table : (weight : ℤ) → Sums → Bool
is_bad_table weight sums = int_lt weight (pos 0) || (exceeds sums.link 1 2 sums.size && has_few_commas sums)

abbrev pub is_bad_kind : Tag → (weight : ℤ) → Sums → Bool
is_bad_kind List weight sums = int_lt weight (pos 0)
is_bad_kind Table weight sums = is_bad_table weight sums
is_bad_kind tag weight sums = is_bad_text tag weight sums

-- The words in a class and an id, where they count.
abbrev pub weight_of : Rules → Facts → ℤ
weight_of rules facts = if rules.hints then facts.weight else pos 0

-- Whether a block is bad. The first line that applies decides.
abbrev pub is_bad : Rules → Facts → Sums → Bool
is_bad rules facts sums =
    if facts.kind.is_never_bad || is_document facts.kind.tag then false
    else if facts.kind.is_heading then int_lt (weight_of rules facts) (pos 0) || (sums.size == 0)
    else if sums.size == 0 then sums.images == 0
    else if is_aside facts.kind.tag && rules.hints then true
    else if not rules.cleans then false
    else is_bad_kind facts.kind.tag (weight_of rules facts) sums

-- Whether a node is gone by itself: hidden; or, where hints count, by its role, or by words in its class and id, unless it holds
-- the article.
abbrev pub is_gone_by : Rules → Facts → Bool
is_gone_by rules facts =
    facts.is_hidden || (rules.hints && (facts.has_role || (facts.is_unlikely && not facts.holds)))
