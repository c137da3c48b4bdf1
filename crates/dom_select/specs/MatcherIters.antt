-- Iterators over the matches below any number of nodes.
use Rattle.std.specs.Prelude.{[], Option}
use Rattle.dom_trees.specs.declared.node_ref.NodeRef.{NodeRef}
use Rattle.dom_select.specs.Descendants.{GivesMatch, Matches}
use Rattle.dom_select.specs.declared.matcher.matcher_iter.MatcherIter.{MatcherIter}
use Rattle.dom_select.specs.declared.matcher.matcher_iter.MatcherIter.TheVariants.{One, Several, Empty}

-- the nodes that are still to be visited, their tree, and the selector
abbrev pub matches_of : MatcherIter → Matches
matches_of (One matches) = matches
matches_of (Several matches) = matches
matches_of (Empty tree selector) = record { left = []; tree = tree; selector = selector.now }

-- a call of `next` does what it does for one node or for several
abbrev pub gives_match : MatcherIter → Option NodeRef → MatcherIter → Type 0
gives_match before given later = GivesMatch (matches_of before) given (matches_of later)
