use Rattle.std.proofs.Common.{ℕ, List, true, ◌⊎◌, ◌≡◌, ◌+◌, ◌≤◌, map, drop, length, ◌↔◌}
use Rattle.dom_links.specs.Forest.{Forest}
use Rattle.dom_links.specs.Lists.{is_member}
use Rattle.dom_links.specs.Trees.{descendants_in_order}
use Rattle.dom_select.specs.declared.matcher.has.Start.TheVariants.{Relative}
use Rattle.dom_selectors.specs.declared.syntax.Selector.{Selector}
use Rattle.dom_selectors.specs.ListsAsTrees.{lists_of, steps_of}
use Rattle.dom_select.specs.Leftward.{line, ends_at}
use Rattle.dom_select.specs.Meaning.{HasHolds, ListsHold, MatchesNode, RelativeMatches}
use Rattle.dom_selectors.specs.ValuesAsTrees.{read_compound, read_list, read_nested, read_step}
use Rattle.dom_selectors.proofs.Weights.{compound_weight, lists_weight, list_weight, selectors_weight, steps_weight}
use Rattle.dom_select.proofs.ReachLemmas.{IsMeant, SomeOnLine}
use Rattle.dom_select.specs.Chains.{BeginsChain, binding_level}
use Rattle.dom_select.specs.Has.{SelectorMatches, MatchesWithin, right_row, row_combinator, search_roots, search_roots_from}
use Rattle.dom_select.proofs.FollowLemmas.{Following}
use Rattle.dom_select.proofs.RightLemmas.{SomeOfRow}
use Rattle.dom_selectors.specs.Syntax.{SelectorList, no_steps}
use Rattle.dom_select.proofs.matcher.matches.+matching.Given as goal

-- the selectors that are left decide
abbrev LeftDecide : (SelectorList → Type 0) → List Selector → ℕ → Forest → Forest → Type 0
LeftDecide P selectors i before caches =
    let all = read_list selectors in
    let left = read_list (drop i selectors) in
    record {
      kept : caches ≡ before;
      same : P left ↔ P all;
      light : selectors_weight left ≤ selectors_weight all;
    }

abbrev pub decreases-holds : goal.decreases-holds
decreases-holds l = compound_weight (read_compound l.compound.now)

abbrev pub decreases-holds_of : goal.decreases-holds_of
decreases-holds_of l = lists_weight (lists_of (map read_nested l.compound.now.nested.items))

abbrev pub decreases-list_holds : goal.decreases-list_holds
decreases-list_holds l = list_weight (read_nested l.list.now)

abbrev pub decreases-means_node : goal.decreases-means_node
decreases-means_node l = selectors_weight (read_list l.selectors.now)

abbrev pub decreases-compounds_match : goal.decreases-compounds_match
decreases-compounds_match l = 10 + compound_weight (read_compound l.first.now) + steps_weight (steps_of (map read_step l.steps.now))

abbrev pub decreases-chain_matches : goal.decreases-chain_matches
decreases-chain_matches l = 9 + compound_weight (read_compound l.first.now) + steps_weight (steps_of (map read_step l.steps.now))

abbrev pub decreases-last_holds : goal.decreases-last_holds
decreases-last_holds l = 2 + compound_weight (read_compound l.chain.now.first.now) + steps_weight (steps_of (map read_step l.steps.now))

abbrev pub decreases-match_suffix : goal.decreases-match_suffix
decreases-match_suffix l = 3 + compound_weight (read_compound l.chain.now.first.now) + steps_weight (steps_of (map read_step l.steps.now)) + l.level

abbrev pub decreases-match_from_candidates : goal.decreases-match_from_candidates
decreases-match_from_candidates l = 4 + compound_weight (read_compound l.chain.now.first.now) + steps_weight (steps_of (map read_step l.steps.now)) + binding_level l.combinator

-- the lists that are left decide
abbrev pub invariant-holds_of-loop-list : goal.invariant-holds_of-loop-list
invariant-holds_of-loop-list l =
    let lists = l.compound.nested.items in
    let all = lists_of (map read_nested lists) in
    let left = lists_of (map read_nested (drop l.list-index lists)) in
    record {
      kept : l.caches ≡ l.fn.caches;
      same : ListsHold left l.fn.caches l.id ↔ ListsHold all l.fn.caches l.id;
      light : lists_weight left ≤ lists_weight all;
    }

abbrev pub invariant-means_node-loop-selector : goal.invariant-means_node-loop-selector
invariant-means_node-loop-selector l = LeftDecide (λ list. MatchesNode list l.fn.caches l.id) l.selectors l.selector-index l.fn.caches l.caches

-- the steps are followed so far
abbrev pub invariant-match_suffix-loop-last : goal.invariant-match_suffix-loop-last
invariant-match_suffix-loop-last l = record {
  kept : l.caches ≡ l.fn.caches;
  following : Following l.fn.caches l.chain.exempt (BeginsChain l.chain l.fn.caches) l.level (map read_step l.steps) (map read_step l.remainder.left.now) l.fn.id l.remainder.at;
}

abbrev pub decreases-match_suffix-loop-last : goal.decreases-match_suffix-loop-last
decreases-match_suffix-loop-last l = length l.remainder.left.now

-- what is left of the way decides
abbrev pub invariant-match_from_candidates-loop-v : goal.invariant-match_from_candidates-loop-v
invariant-match_from_candidates-loop-v l =
    let ends = ends_at l.fn.caches l.combinator in
    let meant = SomeOnLine ends (IsMeant l.fn.caches l.chain.exempt (BeginsChain l.chain l.fn.caches) (steps_of (map read_step l.steps)) l.combinator) in
    record {
      kept : l.caches ≡ l.fn.caches;
      forth : meant (line l.fn.caches l.combinator l.fn.id) → meant (line l.fn.caches l.combinator l.at);
      back : (v : ℕ) → SomeOnLine ends (λ n. n ≡ v) (line l.fn.caches l.combinator l.at) → SomeOnLine ends (λ n. n ≡ v) (line l.fn.caches l.combinator l.fn.id);
    }

abbrev pub decreases-match_from_candidates-loop-v : goal.decreases-match_from_candidates-loop-v
decreases-match_from_candidates-loop-v l = length (line l.fn.caches l.combinator l.at)

abbrev pub decreases-begins : goal.decreases-begins
decreases-begins l = 1 + compound_weight (read_compound l.chain.now.first.now)

abbrev pub decreases-has_holds : goal.decreases-has_holds
decreases-has_holds l = selectors_weight (read_list l.selectors.now)

abbrev pub decreases-relative_matches : goal.decreases-relative_matches
decreases-relative_matches l = 11 + compound_weight (read_compound l.first.now) + steps_weight (steps_of (map read_step l.steps.now))

abbrev pub decreases-matches_within : goal.decreases-matches_within
decreases-matches_within l = 10 + compound_weight (read_compound l.first.now) + steps_weight (steps_of (map read_step l.steps.now))

abbrev pub invariant-has_holds-loop-selector : goal.invariant-has_holds-loop-selector
invariant-has_holds-loop-selector l = LeftDecide (λ list. HasHolds list l.fn.caches l.id) l.selectors l.selector-index l.fn.caches l.caches

-- what is led to lies at or below a node that is left
abbrev pub invariant-relative_matches-loop-top : goal.invariant-relative_matches-loop-top
invariant-relative_matches-loop-top l = record {
  kept : l.caches ≡ l.fn.caches;
  left : (t : ℕ) → is_member t (search_roots l.fn.caches l.fn.lead l.fn.id) ≡ true →
      MatchesWithin (Relative l.fn.lead l.fn.id) (read_compound l.first) (steps_of (map read_step l.steps)) l.fn.caches t → is_member t (search_roots_from l.fn.caches l.fn.lead l.top) ≡ true;
}

abbrev pub decreases-relative_matches-loop-top : goal.decreases-relative_matches-loop-top
decreases-relative_matches-loop-top l = length (search_roots_from l.fn.caches l.fn.lead l.top)

-- what is reached is among the nodes left, which stand below the top
abbrev pub invariant-matches_within-loop-y : goal.invariant-matches_within-loop-y
invariant-matches_within-loop-y l = record {
  kept : l.caches ≡ l.fn.caches;
  left : (y : ℕ) → ((y ≡ l.fn.top) ⊎ (is_member y (descendants_in_order l.fn.caches l.fn.top) ≡ true)) →
      SelectorMatches l.start (read_compound l.first) (steps_of (map read_step l.steps)) l.fn.caches y → is_member y l.y-iterator.left ≡ true;
  among : (y : ℕ) → is_member y l.y-iterator.left ≡ true → is_member y (descendants_in_order l.fn.caches l.fn.top) ≡ true;
}

abbrev pub decreases-holds_beside : goal.decreases-holds_beside
decreases-holds_beside l = 2 + compound_weight (read_compound l.first.now)

abbrev pub decreases-holds_of_element : goal.decreases-holds_of_element
decreases-holds_of_element l = 1 + compound_weight (read_compound l.compound.now)

-- the nodes that are left decide
abbrev pub invariant-holds_beside-loop-next : goal.invariant-holds_beside-loop-next
invariant-holds_beside-loop-next l = record {
  kept : l.caches ≡ l.fn.caches;
  same : SomeOfRow (read_compound l.first) l.fn.caches (right_row l.fn.caches l.fn.lead l.next) ↔ RelativeMatches l.fn.lead (read_compound l.first) no_steps l.fn.caches l.fn.id;
}

abbrev pub decreases-holds_beside-loop-next : goal.decreases-holds_beside-loop-next
decreases-holds_beside-loop-next l = length (right_row l.fn.caches l.fn.lead l.next)

abbrev pub decreases-matches_in_row : goal.decreases-matches_in_row
decreases-matches_in_row l = 10 + compound_weight (read_compound l.first.now) + steps_weight (steps_of (map read_step l.steps.now))

-- what is reached is among the nodes left
abbrev pub invariant-matches_in_row-loop-next : goal.invariant-matches_in_row-loop-next
invariant-matches_in_row-loop-next l = record {
  kept : l.caches ≡ l.fn.caches;
  left : (y : ℕ) → SelectorMatches (Relative l.fn.lead l.fn.id) (read_compound l.first) (steps_of (map read_step l.steps)) l.fn.caches y → is_member y (right_row l.fn.caches (row_combinator l.fn.lead) l.next) ≡ true;
}

abbrev pub decreases-matches_in_row-loop-next : goal.decreases-matches_in_row-loop-next
decreases-matches_in_row-loop-next l = length (right_row l.fn.caches (row_combinator l.fn.lead) l.next)
