-- What is added up of the nodes of a page, and of runs of texts.
use Rattle.std.specs.Prelude.{ℕ, ◌+◌, ◌-◌, ◌*◌, ◌/◌, ◌^◌, ◌&&◌, ◌||◌, not, min, nat_le, nat_lt, Bool, if◌then◌else◌}
use Rattle.dom_article.specs.declared.sums.Run.{Run}
use Rattle.dom_article.specs.declared.sums.Sums.{Sums}

-- Sums stop at the greatest number of 32 or 64 bits.
abbrev pub plus : ℕ → ℕ → ℕ
plus m n = min (m + n) (2 ^ 32 - 1)

abbrev pub long_plus : ℕ → ℕ → ℕ
long_plus m n = min (m + n) (2 ^ 64 - 1)

-- One if it is so, otherwise nothing.
abbrev pub one_if : Bool → ℕ
one_if b = if b then 1 else 0

-- A run of at least 60 characters, less than a quarter of them in links, is a paragraph, unless it
-- is a notice of a copyright.
abbrev pub is_paragraph : Run → Bool
is_paragraph run = not run.copyright && nat_le 60 run.size && nat_lt (run.link * 4) run.size

-- A run of at least five characters, at least four fifths of them in links, is one of links.
abbrev pub is_of_links : Run → Bool
is_of_links run = nat_le 5 run.size && nat_le (run.size * 4) (run.link * 5)

-- What a run adds to the score of its block, in sixtieths of a point. In a round that leaves out
-- bad blocks: two points, one for each comma, and one for each 80 characters, but not more than
-- three; links take their share. In other rounds: one point, one for each comma, and one for each
-- 80 characters.
abbrev pub weight : (cleans : Bool) → Run → ℕ
weight cleans run =
    if run.copyright then 0
    else if not cleans then (run.commas + 1) * 60 + 60 * run.size / 80
    else if nat_lt run.size 20 then 0
    else ((run.commas + 2) * 60 + min (60 * run.size / 80) 180) * (run.size - run.link) / run.size

abbrev pub weight_if : (weighs cleans : Bool) → Run → ℕ
weight_if weighs cleans run = if weighs then weight cleans run else 0

-- Whether a text ends with a mark that ends a sentence, when a node comes behind it.
abbrev pub ends_with : Bool → Sums → Bool
ends_with ends node = if nat_lt 0 node.size then node.ends else ends

-- A run with one inline node more.
abbrev pub run_with : Run → Sums → Run
run_with run node = record {
  size = plus run.size node.size;
  link = plus run.link node.link;
  commas = plus run.commas node.commas;
  ends = ends_with run.ends node;
  copyright = run.copyright || node.copyright;
}

-- An inline node with one inline child more.
abbrev pub with_inline : (node child : Sums) → Sums
with_inline node child = record node {
  size = plus node.size child.size;
  link = plus node.link child.link;
  commas = plus node.commas child.commas;
  images = plus node.images child.images;
  copyright = node.copyright || child.copyright;
  ends = ends_with node.ends child;
}

-- A block with one child more that is a block and isn't bad.
abbrev pub with_block : (block child : Sums) → Sums
with_block block child = record block {
  size = plus block.size child.size;
  link = plus block.link child.link;
  commas = plus block.commas child.commas;
  images = plus block.images child.images;
  in_paragraphs = plus block.in_paragraphs child.in_paragraphs;
  paragraphs = plus block.paragraphs child.paragraphs;
  in_headings = plus block.in_headings child.in_headings;
  in_lists = plus block.in_lists child.in_lists;
  raw = long_plus block.raw (if child.is_leaf then child.raw else child.raw / 2);
  ends = ends_with block.ends child;
}

-- A block with one run more. In headings a run has no weight and is no paragraph.
abbrev pub with_run : (weighs cleans : Bool) → (block : Sums) → Run → Sums
with_run weighs cleans block run = record block {
  size = plus block.size run.size;
  link = plus block.link run.link;
  commas = plus block.commas run.commas;
  ends = run.ends;
  link_runs = plus block.link_runs (one_if (is_of_links run));
  paragraphs = plus block.paragraphs (one_if (weighs && is_paragraph run));
  in_paragraphs = plus block.in_paragraphs (if weighs && is_paragraph run then run.size else 0);
  raw = long_plus block.raw (weight_if weighs cleans run);
}
