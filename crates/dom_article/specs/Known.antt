-- The steps by which the facts of the nodes of a page are found.
use Rattle.std.specs.Prelude.{ℕ, ◌≡◌, ◌<◌, false, List, Some, length, slice_get, slice_set}
use Rattle.dom_links.specs.Forest.{Forest}
use Rattle.dom_nodes.specs.declared.node_data.NodeData.{NodeData}
use Rattle.dom_article.specs.Best.{facts_at}
use Rattle.dom_article.specs.Contents.{no_text}
use Rattle.dom_article.specs.Facts.{AreKnown, IsBare, IsNode, holds_in}
use Rattle.dom_article.specs.declared.kinds.Tag.TheVariants.{Document}
use Rattle.dom_article.specs.declared.page.Facts.{Facts}

-- The facts of the root and of these nodes by themselves.
pub record AreEachKnown (forest : Forest) (facts : List Facts) (ns : List ℕ) : Type 0 where
  pub long : length facts ≡ length forest.content
  pub root : IsBare Document no_text false (facts_at facts 0)
  pub each : AreKnown forest facts ns

-- One node was looked at by itself.
pub record IsLookedAt (forest : Forest) (n : ℕ) (old new : List Facts) : Type 0 where
  pub long : length new ≡ length old
  pub here : (content : NodeData) → slice_get forest.content n ≡ Some content → n < length old → IsNode content (facts_at new n)
  pub others : (m : ℕ) → (m ≡ n → ⊥) → facts_at new m ≡ facts_at old m

-- The facts with whether node n holds the article.
abbrev pub with_held : Forest → ℕ → List Facts → List Facts
with_held forest n facts = slice_set facts n (record (facts_at facts n) { holds = holds_in forest facts n })

abbrev pub without_held : Facts → Facts
without_held facts = record facts { holds = false }

-- The facts are the same but for whether nodes hold the article.
pub record AreAlike (old new : List Facts) : Type 0 where
  pub long : length new ≡ length old
  pub each : (n : ℕ) → without_held (facts_at new n) ≡ without_held (facts_at old n)
