-- Which nodes a mini selector matches.
use Rattle.std.specs.Prelude.{ℕ, Bool}
use Rattle.dom_links.specs.Forest.{Forest}
use Rattle.dom_trees.specs.Views.{node_is}
use Rattle.dom_selectors.specs.MiniSyntax.{Mini}
use Rattle.dom_selectors.specs.MiniTruth.{node_passes}

abbrev pub mini_holds : Mini → Forest → ℕ → Bool
mini_holds mini forest n = node_is (node_passes mini) forest n
