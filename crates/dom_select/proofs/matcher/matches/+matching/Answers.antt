use Rattle.std.proofs.Common.{◌≡◌, ◌↔◌, ◌∷◌, IsTrue, Some, false, true≢false, refl, inl, ◌<◌, ◌≤◌, ℕ, inr, length, ap, map, sym, ◌∙◌, subst, arith}
use Rattle.dom_links.specs.Lists.{is_member}
use Rattle.dom_selectors.specs.ListsAsTrees.{steps_of}
use Rattle.dom_selectors.specs.ValuesAsTrees.{read_compound, read_step}
use Rattle.dom_select.specs.Chains.{BeginsChain, binding_level}
use Rattle.dom_select.specs.Has.{Begins, CompoundsMatch, CompoundsMatchFrom, right_row, row_combinator, search_roots_from}
use Rattle.dom_select.specs.declared.matcher.has.Start.TheVariants.{Relative}
use Rattle.std.proofs.lemmas.Bool.Decides.{when_true}
use Rattle.std.proofs.lemmas.Grind.{common_steps}
use Rattle.dom_select.proofs.ChildRowLemmas.{shorter}
use Rattle.dom_select.proofs.EndLemmas.{not_reached}
use Rattle.dom_select.proofs.ReachLemmas.{IsMeant, left_ends, left_farther, left_nowhere, line_some, to_line}
use Rattle.dom_select.proofs.HasLemmas.{alone_matches, ends_if, steps_here, steps_later, led_to, list_lighter, reached_from, stands_first, stands_on}
use Rattle.dom_select.proofs.MeaningLemmas.{holds_known, holds_unknown, next_list, no_list_left}
use Rattle.dom_select.proofs.types.TypeLemmas.{type_alone_known}
use Rattle.dom_select.proofs.RightLemmas.{leads_beside, reached_in_row, row_ends, row_goes_near, row_here, row_later}
use Rattle.dom_select.proofs.StepLemmas.{read_front_and_last, weight_front_and_last}
use Rattle.dom_select.proofs.FollowLemmas.{ends_here, ends_match, followed_all, followed_nearest, followed_so_far, following_at, following_none, following_more, following_not, is_nil, line_back, next_precedes, chain_alone, chain_end, some_where, weight_cut}
use Rattle.dom_select.proofs.matcher.matches.+matching.Goals as goal
use Rattle.dom_select.proofs.matcher.matches.+matching.Goals.{match_from_candidates-After-ends_at, match_from_candidates-then-is_candidate+in_default-match_suffix, match_from_candidates-else-is_candidate}

pub last_holds-holds-requires : goal.last_holds-holds-requires
last_holds-holds-requires t c =
    let w = weight_front_and_last c.args.steps.now c.in-Some.field-0-1.now c.in-Some.last.now c.in-Some.ensures.cases.0 in
    omega (arith, w, c.decreases)

pub last_holds-returns-else-not-may_be_operand-clause-is : goal.last_holds-returns-else-not-may_be_operand-clause-is
last_holds-returns-else-not-may_be_operand-clause-is t c =
    let is = read_front_and_last c.args.steps.now c.in-Some.field-0-1.now c.in-Some.last.now c.in-Some.ensures.cases.0 in
    ends_match c.args.caches.now c.args.chain.now.exempt (BeginsChain c.args.chain.now c.args.caches.now) (map read_step c.args.steps.now) _ _ c.args.id c.holds.result is
    ((rw c.tree.ensures at c.may_be_operand.ensures).0 c.if-not-may_be_operand.false) c.holds.ensures.is

pub match_suffix-returns-then-not-last_holds-clause-is : goal.match_suffix-returns-then-not-last_holds-clause-is
match_suffix-returns-then-not-last_holds-clause-is t c = λ r. c.if-not-last_holds.ensures.is (chain_end c.args.caches.now c.args.chain.now.exempt (BeginsChain c.args.chain.now c.args.caches.now) (map read_step c.args.steps.now) c.args.id r)

pub match_suffix-loop-last-init : goal.match_suffix-loop-last-init
match_suffix-loop-last-init t c =
    record { kept = c.last_holds.ensures.kept; following = following_none c.args.caches.now c.args.chain.now.exempt (BeginsChain c.args.chain.now c.args.caches.now) c.args.level (map read_step c.args.steps.now) c.args.id c.if-not-last_holds.ensures.is }

pub match_suffix-returns-then-binding_level-level-clause-is : goal.match_suffix-returns-then-binding_level-level-clause-is
match_suffix-returns-then-binding_level-level-clause-is t c =
    let is = read_front_and_last c.loop-last.remainder.left.now c.in-Some.front.now c.in-Some.last.now c.in-Some.ensures.cases.0 in
    let far : c.args.level ≤ binding_level c.in-Some.last.now.combinator = omega (arith, c.binding_level.ensures, c.if-binding_level-level.true) in
    followed_so_far c.args.caches.now c.args.chain.now.exempt (BeginsChain c.args.chain.now c.args.caches.now) c.args.level (map read_step c.args.steps.now) (map read_step c.loop-last.remainder.left.now) c.args.id c.loop-last.remainder.at
    (ends_here c.args.caches.now c.args.chain.now.exempt (BeginsChain c.args.chain.now c.args.caches.now) c.args.level _ _ _ is far) c.loop-last.invariant.following

pub match_suffix-match_from_candidates-requires : goal.match_suffix-match_from_candidates-requires
match_suffix-match_from_candidates-requires t c =
    let lines = rw (c.tree.ensures ∙ c.last_holds.ensures.kept) at c.line_laws.ensures in
    let at = c.loop-last.invariant.following in
    let w = weight_front_and_last c.loop-last.remainder.left.now c.in-Some.front.now c.in-Some.last.now c.in-Some.ensures.cases.0 in
    let cut = weight_cut (map read_step c.args.steps.now) (map read_step c.loop-last.remainder.left.now) at.passed at.split in
    let below : binding_level c.in-Some.last.now.combinator < c.args.level = omega (arith, c.binding_level.ensures, c.if-binding_level-level.false) in (
      omega (arith, w, cut, below, c.decreases),
      rw c.loop-last.invariant.kept (following_at c.args.caches.now c.args.chain.now.exempt (BeginsChain c.args.chain.now c.args.caches.now) c.args.level (map read_step c.args.steps.now) (map read_step c.loop-last.remainder.left.now) c.args.id c.loop-last.remainder.at lines c.requires at),
    )

pub match_suffix-returns-in_default-match_from_candidates-clause-is : goal.match_suffix-returns-in_default-match_from_candidates-clause-is
match_suffix-returns-in_default-match_from_candidates-clause-is t c =
    let is = read_front_and_last c.loop-last.remainder.left.now c.in-Some.front.now c.in-Some.last.now c.in-Some.ensures.cases.0 in
    following_not c.args.caches.now c.args.chain.now.exempt (BeginsChain c.args.chain.now c.args.caches.now) c.args.level (map read_step c.args.steps.now) (map read_step c.loop-last.remainder.left.now) _ _ c.args.id c.loop-last.remainder.at is
    c.loop-last.invariant.following (rw c.loop-last.invariant.kept at c.in_default-match_from_candidates.ensures.is)

pub match_suffix-loop-last-preserved : goal.match_suffix-loop-last-preserved
match_suffix-loop-last-preserved t c =
    let is = read_front_and_last c.loop-last.remainder.left.now c.in-Some.front.now c.in-Some.last.now c.in-Some.ensures.cases.0 in
    let below : binding_level c.in-Some.last.now.combinator < c.args.level = omega (arith, c.binding_level.ensures, c.if-binding_level-level.false) in
    record {
      kept = c.in-Some-match_from_candidates.ensures.kept ∙ c.loop-last.invariant.kept;
      following = following_more c.args.caches.now c.args.chain.now.exempt (BeginsChain c.args.chain.now c.args.caches.now) c.args.level (map read_step c.args.steps.now) (map read_step c.loop-last.remainder.left.now) _ (map read_step c.in-Some-match_from_candidates.next.left.now) _
          c.args.id c.loop-last.remainder.at c.in-Some-match_from_candidates.next.at is below c.loop-last.invariant.following (rw c.loop-last.invariant.kept at c.in-Some-match_from_candidates.ensures.is);
    }

pub match_from_candidates-match_suffix-requires : goal.match_from_candidates-match_suffix-requires
match_from_candidates-match_suffix-requires t c =
    let lines = rw c.tree-tree.ensures at c.left_of.ensures.lines in
    let link = sym (rw c.tree-tree.ensures at c.in-Some.ensures.link) in
    let same = c.loop-v.invariant.kept in (
      omega (arith, c.binding_level-level.ensures, c.decreases),
      rw same (inr (next_precedes c.args.caches.now c.args.chain.now.exempt (BeginsChain c.args.chain.now c.args.caches.now) lines c.args.combinator (map read_step c.args.steps.now) c.args.id c.loop-v.at c.in-Some.v c.requires c.loop-v.invariant.back link)),
    )

pub match_from_candidates-returns-in-Some-match_suffix-clause-is : goal.match_from_candidates-returns-in-Some-match_suffix-clause-is
match_from_candidates-returns-in-Some-match_suffix-clause-is t c =
    let lines = rw c.tree-tree.ensures at c.left_of.ensures.lines in
    let link = sym (rw c.tree-tree.ensures at c.in-Some.ensures.link) in
    let same = c.loop-v.invariant.kept in
    let may = rw c.tree-tree.ensures at c.is_candidate.ensures in
    followed_nearest c.args.caches.now c.args.chain.now.exempt (BeginsChain c.args.chain.now c.args.caches.now) lines c.args.combinator (map read_step c.args.steps.now) (map read_step c.in-Some-match_suffix.remainder.left.now)
    c.args.id c.loop-v.at c.in-Some.v c.in-Some-match_suffix.remainder.at c.binding_level-level.result c.requires link (when_true _ _ c.if-is_candidate.true may).0 c.binding_level-level.ensures (rw same at c.in-Some-match_suffix.ensures.is)
    c.loop-v.invariant.forth c.loop-v.invariant.back

-- a node that was turned away is not meant
turned_away : (t : ℕ) (c : match_from_candidates-After-ends_at t) →
    IsMeant c.args.caches.now c.args.chain.now.exempt (BeginsChain c.args.chain.now c.args.caches.now) (steps_of (map read_step c.args.steps.now)) c.args.combinator c.in-Some.v → ⊥
turned_away t c =
    let may = rw c.tree-tree.ensures at c.is_candidate.ensures in
    elim c.if-is_candidate.branch [
      | match_from_candidates-then-is_candidate+in_default-match_suffix w ↦ λ q. (rw c.loop-v.invariant.kept at w.in_default-match_suffix.ensures.is) q.1
      | match_from_candidates-else-is_candidate w ↦ λ q. not_reached c.subject_type-name.result (read_compound c.args.chain.now.first.now) (map read_step c.args.steps.now) c.args.combinator c.args.caches.now c.args.chain.now.exempt c.in-Some.v c.is_candidate.result
          c.subject_type-name.ensures may w.if-is_candidate.false c.args.chain.now.start.now q
    ]

pub match_from_candidates-returns-then-ends_at-clause-is : goal.match_from_candidates-returns-then-ends_at-clause-is
match_from_candidates-returns-then-ends_at-clause-is t c =
    let lines = rw c.tree-tree.ensures at c.left_of.ensures.lines in
    let link = sym (rw c.tree-tree.ensures at c.in-Some.ensures.link) in
    let forest = c.args.caches.now in
    let k = c.args.combinator in
    let Q : ℕ → Type 0 = IsMeant forest c.args.chain.now.exempt (BeginsChain c.args.chain.now c.args.caches.now) (steps_of (map read_step c.args.steps.now)) k in
    let none = left_ends forest k Q lines c.loop-v.at c.in-Some.v link (turned_away t (goal.at.match_from_candidates-returns-then-ends_at-clause-is t c).After-ends_at) (sym (rw c.tree-tree.ensures at c.ends_at.ensures) ∙ c.if-ends_at.true) in
    λ s. none (c.loop-v.invariant.forth (to_line Q forest k c.args.id s.0 lines s.1 s.2))

pub match_from_candidates-loop-v-smaller : goal.match_from_candidates-loop-v-smaller
match_from_candidates-loop-v-smaller t c =
    let lines = rw c.tree-tree.ensures at c.left_of.ensures.lines in
    let link = sym (rw c.tree-tree.ensures at c.in-Some.ensures.link) in
    let is = ap length (line_some c.args.caches.now c.args.combinator c.loop-v.at c.in-Some.v lines link) in
    omega arith

pub match_from_candidates-loop-v-preserved : goal.match_from_candidates-loop-v-preserved
match_from_candidates-loop-v-preserved t c =
    let lines = rw c.tree-tree.ensures at c.left_of.ensures.lines in
    let link = sym (rw c.tree-tree.ensures at c.in-Some.ensures.link) in
    let same = c.loop-v.invariant.kept in
    let forest = c.args.caches.now in
    let k = c.args.combinator in
    let Q : ℕ → Type 0 = IsMeant forest c.args.chain.now.exempt (BeginsChain c.args.chain.now c.args.caches.now) (steps_of (map read_step c.args.steps.now)) k in
    let goes = sym (rw c.tree-tree.ensures at c.ends_at.ensures) ∙ c.if-ends_at.false in
    record {
      kept = elim c.if-is_candidate.branch [
        | match_from_candidates-then-is_candidate+in_default-match_suffix w ↦ w.caches-is ∙ (w.in_default-match_suffix.ensures.kept ∙ same)
        | match_from_candidates-else-is_candidate w ↦ w.caches-is ∙ same
      ];
      forth = λ s. (left_farther forest k Q lines c.loop-v.at c.in-Some.v link (turned_away t (goal.at.match_from_candidates-loop-v-preserved t c).After-ends_at) goes).0 (c.loop-v.invariant.forth s);
      back = λ u s. c.loop-v.invariant.back u (line_back forest c.args.chain.now.exempt (BeginsChain c.args.chain.now c.args.caches.now) lines k (map read_step c.args.steps.now) c.loop-v.at c.in-Some.v u link goes s);
    }

pub match_from_candidates-returns-clause-is : goal.match_from_candidates-returns-clause-is
match_from_candidates-returns-clause-is t c =
    let lines = rw c.tree-tree.ensures at c.left_of.ensures.lines in
    let forest = c.args.caches.now in
    let k = c.args.combinator in
    let Q : ℕ → Type 0 = IsMeant forest c.args.chain.now.exempt (BeginsChain c.args.chain.now c.args.caches.now) (steps_of (map read_step c.args.steps.now)) k in
    let none = left_nowhere forest k Q lines c.loop-v.at (sym (rw c.tree-tree.ensures at c.left_of.ensures.link) ∙ c.in_default.is) in
    λ s. none (c.loop-v.invariant.forth (to_line Q forest k c.args.id s.0 lines s.1 s.2))

pub chain_matches-returns-clause-is : goal.chain_matches-returns-clause-is
chain_matches-returns-clause-is t c =
    let first = Begins c.args.start.now (read_compound c.args.first.now) c.args.caches.now in
    let steps = map read_step c.args.steps.now in
    ends_if c.args.start.now (read_compound c.args.first.now) (steps_of steps) c.args.caches.now c.args.id _ (sym (rw c.tree.ensures at c.may_be_subject.ensures) ∙ c.if-not-may_be_subject.false)
    (some_where c.match_suffix.result c.is_some.result _ _ (λ remainder f. followed_all c.args.caches.now c.args.id first steps (map read_step remainder.left.now) c.args.id remainder.at f) c.match_suffix.ensures.is c.is_some.ensures)

pub chain_matches-begins-requires : goal.chain_matches-begins-requires
chain_matches-begins-requires t c = omega (arith, c.decreases)

pub chain_matches-returns-then-is_empty-clause-is : goal.chain_matches-returns-then-is_empty-clause-is
chain_matches-returns-then-is_empty-clause-is t c =
    let first = Begins c.args.start.now (read_compound c.args.first.now) c.args.caches.now in
    let none = is_nil c.args.steps.now (sym c.is_empty.ensures ∙ c.if-is_empty.true) in
    ends_if c.args.start.now (read_compound c.args.first.now) (steps_of (map read_step c.args.steps.now)) c.args.caches.now c.args.id _ (sym (rw c.tree.ensures at c.may_be_subject.ensures) ∙ c.if-not-may_be_subject.false)
    (chain_alone c.args.caches.now c.args.id first (map read_step c.args.steps.now) c.args.id c.begins.result (ap (map read_step) none) c.begins.ensures.is)

pub has_holds-returns-then-relative_matches-clause-is : goal.has_holds-returns-then-relative_matches-clause-is
has_holds-returns-then-relative_matches-clause-is t c =
    let here = steps_here c.args.selectors.now c.loop-selector.selector-index c.selector-item.result c.deref.result.now c.args.caches.now c.args.id c.relative_matches.result (omega (arith, c.loop-selector-test.true)) c.selector-item.is c.deref.ensures.value (rw c.loop-selector.invariant.kept at c.relative_matches.ensures.is) c.if-relative_matches.true in
    (λ e. c.loop-selector.invariant.same.0 here, λ h. refl)

pub has_holds-loop-selector-preserved : goal.has_holds-loop-selector-preserved
has_holds-loop-selector-preserved t c =
    let same = steps_later c.args.selectors.now c.loop-selector.selector-index c.selector-item.result c.deref.result.now c.args.caches.now c.args.id c.relative_matches.result (omega (arith, c.loop-selector-test.true)) c.selector-item.is c.deref.ensures.value (rw c.loop-selector.invariant.kept at c.relative_matches.ensures.is) c.if-relative_matches.false in
    let less = list_lighter c.args.selectors.now c.loop-selector.selector-index c.selector-item.result (omega (arith, c.loop-selector-test.true)) c.selector-item.is in
    let light = c.loop-selector.invariant.light in
    record { kept = c.relative_matches.ensures.kept ∙ c.loop-selector.invariant.kept; same = (λ h. c.loop-selector.invariant.same.0 (same.0 h), λ h. same.1 (c.loop-selector.invariant.same.1 h)); light = omega arith }

pub relative_matches-returns-then-matches_within-clause-is : goal.relative_matches-returns-then-matches_within-clause-is
relative_matches-returns-then-matches_within-clause-is t c =
    (λ e. led_to c.args.caches.now (rw c.tree-tree.ensures at c.line_laws.ensures) c.args.lead (read_compound c.args.first.now) (steps_of (map read_step c.args.steps.now)) c.args.id c.in-Some.at (rw c.loop-top.invariant.kept at c.if-matches_within.ensures.is), λ h. refl)

pub relative_matches-returns-clause-is : goal.relative_matches-returns-clause-is
relative_matches-returns-clause-is t c = (
  λ e. absurd (true≢false (sym e)),
  λ s.
      let r = reached_from c.args.caches.now (rw c.tree-tree.ensures at c.line_laws.ensures) c.args.lead (read_compound c.args.first.now) (steps_of (map read_step c.args.steps.now)) c.args.id s in
      let there = c.loop-top.invariant.left r.0 r.1 r.2 in
      let none : is_member r.0 (search_roots_from c.args.caches.now c.args.lead c.loop-top.top) ≡ false = ap (λ o. is_member r.0 (search_roots_from c.args.caches.now c.args.lead o)) c.in_default.is in
      absurd (true≢false (sym there ∙ none)),
)

pub matches_within-returns-then-chain_matches-2-clause-is : goal.matches_within-returns-then-chain_matches-2-clause-is
matches_within-returns-then-chain_matches-2-clause-is t c =
    (c.in-Some.y, inr (c.loop-y.invariant.among c.in-Some.y (ap (is_member c.in-Some.y) c.in-Some.ensures.steps.first ∙ stands_first c.in-Some.y _)), (rw c.loop-y.invariant.kept at c.chain_matches-in-loop-y.ensures.is).0 c.if-chain_matches-2.true)

pub relative_matches-holds_beside-requires : goal.relative_matches-holds_beside-requires
relative_matches-holds_beside-requires t c = (omega (arith, c.decreases), (c.is_near.ensures c.if-is_near.true).1)

pub relative_matches-returns-then-is_near-clause-is : goal.relative_matches-returns-then-is_near-clause-is
relative_matches-returns-then-is_near-clause-is t c =
    let none = (c.is_near.ensures c.if-is_near.true).0 in
    subst (λ steps. IsTrue c.holds_beside.result ↔ CompoundsMatchFrom c.args.lead c.args.first.now steps c.args.caches.now c.args.id) (sym none) c.holds_beside.ensures.is

pub holds_beside-loop-next-init : goal.holds_beside-loop-next-init
holds_beside-loop-next-init t c = record {
  kept = refl;
  same = leads_beside (read_compound c.args.first.now) c.args.caches.now c.args.lead c.args.id _ (rw c.tree-tree.ensures at c.first_right-next.ensures);
}

pub holds_beside-returns-then-holds_of_element-clause-is : goal.holds_beside-returns-then-holds_of_element-clause-is
holds_beside-returns-then-holds_of_element-clause-is t c =
    let first = read_compound c.args.first.now in
    let forest = c.args.caches.now in
    let here = (rw c.loop-next.invariant.kept at c.holds_of_element.ensures.is).0 c.if-holds_of_element.true in
    (λ e. c.loop-next.invariant.same.0 (row_here first forest (right_row forest c.args.lead c.loop-next.next) _ c.in-Some.at (ap (right_row forest c.args.lead) c.in-Some.is) here), λ h. refl)

pub holds_beside-loop-next-smaller : goal.holds_beside-loop-next-smaller
holds_beside-loop-next-smaller t c =
    let forest = c.args.caches.now in
    shorter _ _ c.in-Some.at (ap (right_row forest c.args.lead) c.in-Some.is ∙ subst (λ f. right_row f c.args.lead (Some c.in-Some.at) ≡ c.in-Some.at ∷ right_row f c.args.lead c.next_right-next.result) c.tree-tree.ensures c.next_right-next.ensures)

pub holds_beside-loop-next-preserved : goal.holds_beside-loop-next-preserved
holds_beside-loop-next-preserved t c =
    let first = read_compound c.args.first.now in
    let forest = c.args.caches.now in
    let fact = rw c.loop-next.invariant.kept at c.holds_of_element.ensures.is in
    let on = ap (right_row forest c.args.lead) c.in-Some.is ∙ subst (λ f. right_row f c.args.lead (Some c.in-Some.at) ≡ c.in-Some.at ∷ right_row f c.args.lead c.next_right-next.result) c.tree-tree.ensures c.next_right-next.ensures in
    let later = row_later first forest (right_row forest c.args.lead c.loop-next.next) _ c.in-Some.at on (λ h. true≢false (sym (fact.1 h) ∙ c.if-holds_of_element.false)) in
    record {
      kept = c.holds_of_element.ensures.kept ∙ c.loop-next.invariant.kept;
      same = (λ h. c.loop-next.invariant.same.0 (later.0 h), λ h. later.1 (c.loop-next.invariant.same.1 h));
    }

pub holds_beside-returns-clause-is : goal.holds_beside-returns-clause-is
holds_beside-returns-clause-is t c =
    (λ e. absurd (true≢false (sym e)), λ r. absurd (row_ends (read_compound c.args.first.now) c.args.caches.now c.args.lead _ c.in_default.is (c.loop-next.invariant.same.1 r)))

pub holds_of_element-returns-clause-is : goal.holds_of_element-returns-clause-is
holds_of_element-returns-clause-is t c =
    let el = sym (rw c.tree.ensures at c.element_at.ensures) ∙ c.if-not-element_at.false in
    (λ e. (el, c.holds.ensures.is.0 e), λ p. c.holds.ensures.is.1 p.1)

pub relative_matches-matches_in_row-requires : goal.relative_matches-matches_in_row-requires
relative_matches-matches_in_row-requires t c = (omega (arith, c.decreases), c.is_in_row.ensures c.if-is_in_row.true)

pub matches_in_row-first_right-next-requires : goal.matches_in_row-first_right-next-requires
matches_in_row-first_right-next-requires t c = λ e. row_goes_near c.args.lead (sym c.row_combinator-row.ensures ∙ e)

pub matches_in_row-loop-next-init : goal.matches_in_row-loop-next-init
matches_in_row-loop-next-init t c = record {
  kept = refl;
  left = λ y m.
      let right = rw c.row_combinator-row.ensures at (rw c.tree-tree.ensures at c.first_right-next.ensures) in
      let lines = rw c.tree-tree.ensures at c.line_laws.ensures in
      (right y m.0).1 (reached_in_row c.args.caches.now lines c.args.lead (read_compound c.args.first.now) c.args.steps.now c.args.id y c.requires m);
}

pub matches_in_row-returns-then-chain_matches-clause-is : goal.matches_in_row-returns-then-chain_matches-clause-is
matches_in_row-returns-then-chain_matches-clause-is t c =
    let forest = c.args.caches.now in
    let reached = (rw c.loop-next.invariant.kept at c.chain_matches.ensures.is).0 c.if-chain_matches.true in
    (λ e. led_to forest (rw c.tree-tree.ensures at c.line_laws.ensures) c.args.lead (read_compound c.args.first.now) (steps_of (map read_step c.args.steps.now)) c.args.id c.in-Some.at (c.in-Some.at, inl refl, reached), λ h. refl)

pub matches_in_row-loop-next-smaller : goal.matches_in_row-loop-next-smaller
matches_in_row-loop-next-smaller t c =
    let forest = c.args.caches.now in
    let row = row_combinator c.args.lead in
    let step = subst (λ k. right_row forest k (Some c.in-Some.at) ≡ c.in-Some.at ∷ right_row forest k c.next_right-next.result) c.row_combinator-row.ensures
    (subst (λ f. right_row f c.row_combinator-row.result (Some c.in-Some.at) ≡ c.in-Some.at ∷ right_row f c.row_combinator-row.result c.next_right-next.result) c.tree-tree.ensures c.next_right-next.ensures) in
    shorter _ _ c.in-Some.at (ap (right_row forest row) c.in-Some.is ∙ step)

pub matches_in_row-loop-next-preserved : goal.matches_in_row-loop-next-preserved
matches_in_row-loop-next-preserved t c =
    let forest = c.args.caches.now in
    let row = row_combinator c.args.lead in
    let fact = rw c.loop-next.invariant.kept at c.chain_matches.ensures.is in
    let step = subst (λ k. right_row forest k (Some c.in-Some.at) ≡ c.in-Some.at ∷ right_row forest k c.next_right-next.result) c.row_combinator-row.ensures
    (subst (λ f. right_row f c.row_combinator-row.result (Some c.in-Some.at) ≡ c.in-Some.at ∷ right_row f c.row_combinator-row.result c.next_right-next.result) c.tree-tree.ensures c.next_right-next.ensures) in
    let on = ap (right_row forest row) c.in-Some.is ∙ step in
    record {
      kept = c.chain_matches.ensures.kept ∙ c.loop-next.invariant.kept;
      left = λ y m.
          let other : y ≡ c.in-Some.at → ⊥ = λ e.
          let here = subst (λ n. CompoundsMatch (Relative c.args.lead c.args.id) c.args.first.now c.args.steps.now forest n) e m in
          true≢false (sym (fact.1 here) ∙ c.if-chain_matches.false) in
          stands_on (right_row forest row c.loop-next.next) _ c.in-Some.at y on (c.loop-next.invariant.left y m) other;
    }

pub matches_in_row-returns-clause-is : goal.matches_in_row-returns-clause-is
matches_in_row-returns-clause-is t c = (
  λ e. absurd (true≢false (sym e)),
  λ s.
      let forest = c.args.caches.now in
      let r = reached_from forest (rw c.tree-tree.ensures at c.line_laws.ensures) c.args.lead (read_compound c.args.first.now) (steps_of (map read_step c.args.steps.now)) c.args.id s in
      let y = r.2.0 in
      let there = c.loop-next.invariant.left y r.2.2 in
      let none : is_member y (right_row forest (row_combinator c.args.lead) c.loop-next.next) ≡ false = ap (λ o. is_member y (right_row forest (row_combinator c.args.lead) o)) c.in_default.is in
      absurd (true≢false (sym there ∙ none)),
)

pub holds-returns-in_default-clause-is : goal.holds-returns-in_default-clause-is
holds-returns-in_default-clause-is t c =
    (λ e. absurd (true≢false (sym e)), λ h. absurd (holds_unknown (read_compound c.args.compound.now) c.args.caches.now c.args.id (rw c.tree.ensures at c.in_default.ensures) h))

pub holds-returns-in-Some-sole_type_selector-clause-is : goal.holds-returns-in-Some-sole_type_selector-clause-is
holds-returns-in-Some-sole_type_selector-clause-is t c =
    let node = rw c.tree.ensures at c.in-Some.ensures.content_is in
    type_alone_known c.in-Some-sole_type_selector.name.now (read_compound c.args.compound.now) c.args.caches.now c.args.id c.in-Some.found.now.content c.is_named_node.result c.in-Some-sole_type_selector.ensures node c.is_named_node.ensures

pub holds_of-returns-then-not-each_holds-clause-is : goal.holds_of-returns-then-not-each_holds-clause-is
holds_of-returns-then-not-each_holds-clause-is t c =
    let known = holds_known c.args.compound.now c.args.caches.now c.args.id c.args.node.now c.requires in
    let refused = rw c.deref.ensures.value at c.if-not-each_holds.ensures.is in
    (λ e. absurd (true≢false (sym e)), λ h. refused.1 (known.0 h).0)

pub holds_of-returns-then-not-list_holds-clause-is : goal.holds_of-returns-then-not-list_holds-clause-is
holds_of-returns-then-not-list_holds-clause-is t c =
    let known = holds_known c.args.compound.now c.args.caches.now c.args.id c.args.node.now c.requires in
    let refused = rw c.loop-list.invariant.kept at c.if-not-list_holds.ensures.is in
    let next = rw c.deref-list-items.ensures.value at (next_list c.deref-list-items.result.now c.loop-list.list-index c.list-item.result c.args.caches.now c.args.id (omega (arith, c.loop-list-test.true)) c.list-item.is) in
    (λ e. absurd (true≢false (sym e)), λ h. refused.1 (next (c.loop-list.invariant.same.1 (known.0 h).1)))

pub holds_of-returns-clause-is : goal.holds_of-returns-clause-is
holds_of-returns-clause-is t c =
    let known = holds_known c.args.compound.now c.args.caches.now c.args.id c.args.node.now c.requires in
    let each = rw c.deref.ensures.value at c.if-not-each_holds.ensures.is in
    let none = rw c.deref-list-items.ensures.value at (no_list_left c.deref-list-items.result.now c.loop-list.list-index c.args.caches.now c.args.id (omega (arith, c.loop-list-test.false))) in
    (λ e. known.1 (each.0 refl, c.loop-list.invariant.same.0 none), λ h. refl)

pub compounds_match-returns-in-Some-clause-is : goal.compounds_match-returns-in-Some-clause-is
compounds_match-returns-in-Some-clause-is t c = c.in-Some.ensures c.args.caches.now c.args.id c.requires

pub compounds_match-returns-then-is_empty-clause-is : goal.compounds_match-returns-then-is_empty-clause-is
compounds_match-returns-then-is_empty-clause-is t c =
    alone_matches c.args.first.now c.args.steps.now c.args.caches.now c.args.id c.holds_of.result (sym c.is_empty.ensures ∙ c.if-is_empty.true) c.holds_of.ensures.is

pub has_holds-returns-clause-is : goal.has_holds-returns-clause-is
has_holds-returns-clause-is t c = grind (arith, common_steps)

pub holds_of-list_holds-requires : goal.holds_of-list_holds-requires
holds_of-list_holds-requires t c = grind (arith, common_steps)

pub holds_of-loop-list-preserved : goal.holds_of-loop-list-preserved
holds_of-loop-list-preserved t c = grind (arith, common_steps)

pub last_holds-returns-in-None-clause-is : goal.last_holds-returns-in-None-clause-is
last_holds-returns-in-None-clause-is t c = grind (arith, common_steps)

pub means_node-returns-clause-is : goal.means_node-returns-clause-is
means_node-returns-clause-is t c = grind (arith, common_steps)
