-- What is added up of each node of a page in a round, from the sums of its children.
use Rattle.std.specs.Prelude.{ℕ, ◌≡◌, ◌^◌, ◌-◌, ◌&&◌, ◌||◌, not, min, nat_lt, slice_set, Bool, true, false}
use Rattle.std.specs.Prelude.{List, [], ◌∷◌, Some, if◌then◌else◌}
use Rattle.std.specs.List.{list_any}
use Rattle.std.specs.Option.{option_map_or}
use Rattle.dom_links.specs.Forest.{children_of, parent}
use Rattle.dom_links.specs.Lists.{is_member}
use Rattle.dom_links.specs.Trees.{descendants_in_order}
use Rattle.dom_article.specs.Badness.{is_bad, is_document, is_gone_by}
use Rattle.dom_article.specs.Best.{facts_at, gone_at, is_gone, no_sums, sums_at}
use Rattle.dom_article.specs.Blocks.{all_of, begun, ended, with_block_child, with_images, with_inputs, with_line_break, with_text}
use Rattle.dom_article.specs.Scores.{score}
use Rattle.dom_article.specs.Sums.{with_inline}
use Rattle.dom_article.specs.Texts.{page_nodes}
use Rattle.dom_article.specs.declared.blocks.Block.{Block}
use Rattle.dom_article.specs.declared.kinds.Tag.{Tag}
use Rattle.dom_article.specs.declared.kinds.Tag.TheVariants.{Article, Br, Image, List as AList, Section, Text}
use Rattle.dom_article.specs.declared.page.Facts.{Facts}
use Rattle.dom_article.specs.declared.page.Page.{Page}
use Rattle.dom_article.specs.declared.rounds.Round.{Round}
use Rattle.dom_article.specs.declared.rounds.Rules.{Rules}
use Rattle.dom_article.specs.declared.sums.Sums.{Sums}

abbrev pub is_text : Tag → Bool
is_text Text = true
is_text _ = false

abbrev pub is_image : Tag → Bool
is_image Image = true
is_image _ = false

abbrev pub is_break : Tag → Bool
is_break Br = true
is_break _ = false

abbrev pub is_list : Tag → Bool
is_list AList = true
is_list _ = false

abbrev pub is_part : Tag → Bool
is_part Article = true
is_part Section = true
is_part _ = false

-- ---- texts

-- The sums of a text.
abbrev pub text_sums : Facts → Sums
text_sums facts =
    if nat_lt 0 facts.text.size
    then record no_sums { size = facts.text.size; commas = facts.text.commas; ends = facts.text.ends; copyright = facts.text.copyright }
    else record no_sums { size = facts.text.size }

-- ---- inline elements

abbrev pub begun_inline : Facts → Sums
begun_inline facts = if is_image facts.kind.tag then record no_sums { images = 1 } else no_sums

-- An inline element with one child more; one that is gone doesn't count.
abbrev pub with_inline_child : (gone : ℕ → Bool) (sums : ℕ → Sums) → Sums → ℕ → Sums
with_inline_child gone sums node n = if gone n then node else with_inline node (sums n)

abbrev pub with_inline_children : (gone : ℕ → Bool) (sums : ℕ → Sums) → Sums → List ℕ → Sums
with_inline_children gone sums node [] = node
with_inline_children gone sums node (n ∷ ns) = with_inline_children gone sums (with_inline_child gone sums node n) ns

-- In a link all is link.
abbrev pub linked : Facts → Sums → Sums
linked facts sums = if facts.is_link then record sums { link = sums.size } else sums

-- ---- blocks

abbrev pub with_inline_in : Facts → Sums → Block → Block
with_inline_in facts below block =
    if is_break facts.kind.tag then with_line_break block
    else if nat_lt 0 below.size then with_text below block
    else block

abbrev pub with_shown : Facts → Sums → Block → Block
with_shown facts below block =
    if below.is_inline then with_inline_in facts below (with_images below.images block) else with_block_child below (ended block)

abbrev pub with_hidden : Facts → Block → Block
with_hidden facts block = if facts.is_input then with_inputs 1 block else block

-- A block with one child more. One that is gone counts only as an input.
abbrev pub with_child : List Facts → (gone : ℕ → Bool) (sums : ℕ → Sums) → Block → ℕ → Block
with_child facts gone sums block n =
    if gone n then with_hidden (facts_at facts n) block else with_shown (facts_at facts n) (sums n) block

abbrev pub with_children : List Facts → (gone : ℕ → Bool) (sums : ℕ → Sums) → Block → List ℕ → Block
with_children facts gone sums block [] = block
with_children facts gone sums block (n ∷ ns) = with_children facts gone sums (with_child facts gone sums block n) ns

-- A section, an article or an element with a class says itself of what kind it is.
abbrev pub is_kind_of_its_own : Facts → Bool
is_kind_of_its_own facts = facts.has_class || is_part facts.kind.tag

abbrev pub with_like : Facts → ℕ → Sums → Sums
with_like facts n sums = if is_kind_of_its_own facts then record sums { like = Some (min n (2 ^ 32 - 1)) } else sums

abbrev pub as_link : Facts → Sums → Sums
as_link facts sums = if facts.is_link then record sums { link = sums.size; raw = 0; in_paragraphs = 0; paragraphs = 0 } else sums

abbrev pub as_heading : Facts → Sums → Sums
as_heading facts sums = if facts.kind.is_heading then record sums { in_headings = sums.size } else sums

abbrev pub as_list : Facts → Sums → Sums
as_list facts sums = if is_list facts.kind.tag then record sums { in_lists = sums.size } else sums

-- The sums with what the name, the class and the address of the block say.
abbrev pub with_kind : Facts → ℕ → Sums → Sums
with_kind facts n sums = as_list facts (as_heading facts (as_link facts (with_like facts n sums)))

-- The sums with the score, and with whether the block is bad.
abbrev pub judged : Rules → Facts → Sums → Sums
judged rules facts sums =
    let scored = record sums { score = score rules facts sums } in
    record scored { is_bad = is_bad rules facts scored }

abbrev pub finished : Rules → Facts → ℕ → Sums → Sums
finished rules facts n sums = judged rules facts (with_kind facts n sums)

-- ---- all nodes

abbrev pub is_block : (gone : ℕ → Bool) (sums : ℕ → Sums) → ℕ → Bool
is_block gone sums n = not (gone n) && not (sums n).is_inline

-- What is added up of an inline element with these children.
abbrev pub inline_sums : Facts → (gone : ℕ → Bool) (sums : ℕ → Sums) (children : List ℕ) → Sums
inline_sums facts gone sums children = linked facts (with_inline_children gone sums (begun_inline facts) children)

-- What is added up of a block with these children.
abbrev pub block_sums : Page → Rules → (gone : ℕ → Bool) (sums : ℕ → Sums) (n : ℕ) (children : List ℕ) → Sums
block_sums page rules gone sums n children =
    finished rules (facts_at page.facts.items n) n
    (all_of (ended (with_children page.facts.items gone sums
    (begun (not (facts_at page.facts.items n).kind.is_heading) rules.cleans) children)))

-- Whether an element is a block by itself.
abbrev pub is_block_itself : Facts → Bool
is_block_itself facts = is_document facts.kind.tag || facts.kind.is_block

-- What is added up of a node that isn't gone: a text; a block by itself or by a child that is one; or an inline element.
abbrev pub by_kind : Facts → (has_block : Bool) (as_block as_inline : Sums) → Sums
by_kind facts has_block as_block as_inline =
    if is_text facts.kind.tag then text_sums facts
    else if is_block_itself facts || has_block then as_block
    else as_inline

abbrev pub shown_sums : Page → Rules → (gone : ℕ → Bool) (sums : ℕ → Sums) (n : ℕ) (children : List ℕ) → Sums
shown_sums page rules gone sums n children =
    by_kind (facts_at page.facts.items n) (list_any (is_block gone sums) children)
    (block_sums page rules gone sums n children)
    (inline_sums (facts_at page.facts.items n) gone sums children)

-- What is added up of a node, from the sums of its children; nothing of a node that is gone.
abbrev pub node_sums : Page → Rules → (gone : ℕ → Bool) (sums : ℕ → Sums) (n : ℕ) → Sums
node_sums page rules gone sums n =
    if gone n then no_sums else shown_sums page rules gone sums n (children_of page.tree.now n)

-- ---- what is gone

-- Whether the parent of a node is gone.
abbrev pub has_gone_parent : Page → List Bool → ℕ → Bool
has_gone_parent page gone n = option_map_or (gone_at gone) (parent page.tree.now n) false

-- Whether a node is gone: by itself, or because its parent is.
abbrev pub is_gone_in : Page → Rules → List Bool → ℕ → Bool
is_gone_in page rules gone n = is_gone_by rules (facts_at page.facts.items n) || has_gone_parent page gone n

-- The list with node n gone too, if it is.
abbrev pub with_gone : Page → Rules → ℕ → List Bool → List Bool
with_gone page rules n gone = if is_gone_in page rules gone n then slice_set gone n true else gone

-- The nodes that are gone: never the root, and of the other ones those that are gone by themselves or whose parent is.
pub record AreGone (page : Page) (rules : Rules) (gone : List Bool) : Type 0 where
  pub root : gone_at gone 0 ≡ false
  pub each : (n : ℕ) → is_member n (descendants_in_order page.tree.now 0) ≡ true → gone_at gone n ≡ is_gone_in page rules gone n

-- The order of a page is that of its document.
abbrev pub IsOrdered : Page → Type 0
IsOrdered page = page.order.items ≡ descendants_in_order page.tree.now 0

-- The sums of these nodes are those from the sums of their children.
abbrev pub AreSummed : Page → Rules → (gone : ℕ → Bool) → List Sums → (ns : List ℕ) → Type 0
AreSummed page rules gone sums ns =
    (n : ℕ) → is_member n ns ≡ true → sums_at sums n ≡ node_sums page rules gone (sums_at sums) n

-- A round of a page by these rules: what is gone, and of each node its sums from those of its children.
pub record IsRound (page : Page) (rules : Rules) (round : Round) : Type 0 where
  pub rules_are : round.rules ≡ rules
  pub gone : AreGone page rules round.gone.items
  pub summed : AreSummed page rules (is_gone round) round.sums.items (page_nodes page.tree.now)
