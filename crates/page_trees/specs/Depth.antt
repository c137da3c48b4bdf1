-- How deep the elements of a tree nest.
use Rattle.std.specs.Prelude.{◌≡◌, ◌+◌, ◌==◌, ◌&&◌, ◌||◌, Bool, IfSome, Option, true, false, ℕ, if◌then◌else◌, max, nat_lt}
use Rattle.std.specs.Prelude.{slice_get}
use Rattle.std.specs.Option.{option_map_or}
use Rattle.dom_nodes.specs.Kinds.{is_fragment}
use Rattle.dom_links.specs.Forest.{Forest, children_of}
use Rattle.dom_links.specs.ListMoves.{element_at}
use Rattle.dom_links.specs.Trees.{NoTrees, Tree, Trees, trees}

-- whether a node is a document fragment, as the contents of a template are
abbrev pub fragment_at : Forest → ℕ → Bool
fragment_at forest n = option_map_or is_fragment (slice_get forest.content n) false

-- An element may be inside so many others if with itself they are at most `most`. If it stands directly in a fragment, it may be one more.
abbrev pub may_nest : (most above : ℕ) → (spare : Bool) → Bool
may_nest most above spare = nat_lt above most || (spare && above == most)

-- The elements of these trees, which are inside so many others, nest no deeper than that; and nor do those in the contents of templates.
abbrev pub nest_to : Forest → (most above : ℕ) → (spare : Bool) → Trees → Bool
nest_to forest most above spare NoTrees = true
nest_to forest most above spare (Tree n contents children later) =
    (if element_at forest n
    then may_nest most above spare
    && (nest_to forest most (above + 1) false contents && nest_to forest most (above + 1) false children)
    else if fragment_at forest n then nest_to forest most above true children else true)
    && nest_to forest most above spare later

-- No more than `most` elements of the tree are nested in one another. Template contents count as being inside their template; one more
-- element may stand directly in the contents of a template.
abbrev pub nests_to : ℕ → Forest → Bool
nests_to most forest = nest_to forest most 0 (fragment_at forest 0) (trees forest (children_of forest 0))

-- the elements of the tree nest no deeper than the limit, if there is one; a limit below 3 is taken as 3
abbrev pub NestsWithin : Option ℕ → Forest → Type 0
NestsWithin max_depth forest = IfSome max_depth (λ most. nests_to (max most 3) forest ≡ true)
