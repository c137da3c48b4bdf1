-- Lists of selectors, selector by selector: the set that is united so far, and its tests.
use Rattle.std.proofs.Common.{◌≡◌, ◌⊎◌, ◌<◌, ◌≤◌, ◌+◌, ◌*◌, ℕ, List, Bool, sym, ap, ◌∙◌, subst, length, map, drop, get_or, arith}
use Rattle.dom_selectors.specs.declared.syntax.Combinator.{Combinator}
use Rattle.dom_selectors.specs.declared.syntax.Selector.{Selector, out-Selector}
use Rattle.dom_selectors.specs.declared.syntax.Step.{Step}
use Rattle.dom_selectors.specs.ListsAsTrees.{steps_of}
use Rattle.dom_selectors.specs.Spelling.{Decides}
use Rattle.dom_selectors.specs.Syntax.{CompoundSelector, SelectorList, alternative, Steps}
use Rattle.dom_selectors.specs.ValuesAsTrees.{read_compound, read_list, read_step}
use Rattle.dom_selectors.proofs.Weights.{selectors_weight}
use Rattle.dom_links.specs.Forest.{Forest}
use Rattle.dom_select.specs.Meaning.{Holds, HasHolds, RelativeMatches, MatchesNode, ChainMatches}
use Rattle.dom_index.specs.TestCounts.{AddsTests, RelativeTests, HasTests, SelectorTests, SelectorsTests}
use Rattle.dom_index.specs.CompoundCounts.{compound_count, selectors_count, steps_count}
use Rattle.dom_index.specs.NodeSets.{IsUnion, in_set}
use Rattle.dom_index.proofs.TestCountLemmas.{Asking, asking_more, asks_selectors, tests_relative}
use Rattle.dom_index.proofs.ListLemmas.{Anywhere, Wanted, Widened, enough, selectors_cut, widened_more}
use Rattle.dom_index.proofs.RestLemmas.{selectors_asked}

-- the tests that were made, where the selectors after this one are never asked
pub selectors_within : (m old now new : ℕ) (selectors : List Selector) (i : ℕ) (s : Selector) (steps : List Step) → i < length selectors → s ≡ get_or selectors i s → steps ≡ (out-Selector s).rest.items →
    now + selectors_count (read_list (drop i selectors)) * m ≤ old + selectors_count (read_list selectors) * m → new ≤ now + (compound_count (read_compound (out-Selector s).first) + steps_count (steps_of (map read_step steps))) * m →
    new ≤ old + selectors_count (read_list selectors) * m
selectors_within m old now new selectors i s steps known is same so_far asked =
    enough (selectors_count (read_list (drop (i + 1) selectors))) m new _ (selectors_asked m old now new selectors i s steps known is same so_far asked)

module _ (Here : ℕ → Type 0) (count : ℕ) (Truth Asks : SelectorList → ℕ → Type 0) where
  -- the set of the selectors that were met, and the tests of those that are left
  abbrev pub Unfinished : List Selector → ℕ → List Bool → ℕ → ℕ → Type 0
  Unfinished selectors i table before tests =
      let all = read_list selectors in
      let left = read_list (drop i selectors) in
      record {
        table : Widened Here count table (Truth all) (Truth left);
        asking : Asking before tests (Asks all) (Asks left);
        tests : tests + selectors_count left * count ≤ before + selectors_count all * count;
        light : selectors_weight left ≤ selectors_weight all;
      }

  -- what one selector more makes of it, where its set is united with the others'
  abbrev pub GoesOn : (Combinator → CompoundSelector → Steps → ℕ → Type 0) → (Combinator → CompoundSelector → Steps → ℕ → Type 0) → Type 0
  GoesOn One OneAsks =
      (selectors : List Selector) (i : ℕ) (s : Selector) (steps : List Step) → i < length selectors → s ≡ get_or selectors i s → steps ≡ (out-Selector s).rest.items →
      (table other new : List Bool) (old now next : ℕ) → Unfinished selectors i table old now →
      ((n : ℕ) → n < count → Here n → Decides (in_set other n) (One (out-Selector s).lead (read_compound (out-Selector s).first) (steps_of (map read_step steps)) n)) → IsUnion new table other →
      AddsTests now next (OneAsks (out-Selector s).lead (read_compound (out-Selector s).first) (steps_of (map read_step steps))) →
      next ≤ now + (compound_count (read_compound (out-Selector s).first) + steps_count (steps_of (map read_step steps))) * count →
      Unfinished selectors (i + 1) new old next

  selector_more : (One OneAsks : Combinator → CompoundSelector → Steps → ℕ → Type 0) →
      ((k : Combinator) (c : CompoundSelector) (ss : Steps) (more : SelectorList) (table : List Bool) (All : ℕ → Type 0) → Widened Here count table All (Truth (alternative k c ss more)) → Widened Here count table All (λ n. One k c ss n ⊎ Truth more n)) →
      ((k : Combinator) (c : CompoundSelector) (ss : Steps) (more : SelectorList) (one rest : ℕ) → OneAsks k c ss one → Asks more rest → Asks (alternative k c ss more) (one + rest)) →
      GoesOn One OneAsks
  selector_more One OneAsks parts join selectors i s steps known is same table other new old now next so_far answer either counted asked =
      let k = (out-Selector s).lead in
      let c = read_compound (out-Selector s).first in
      let ss = steps_of (map read_step steps) in
      let rest = read_list (drop (i + 1) selectors) in
      let All = Truth (read_list selectors) in
      let cut : read_list (drop i selectors) ≡ alternative k c ss rest = selectors_cut i selectors s known is ∙ ap (λ (zs : List Step). alternative k c (steps_of (map read_step zs)) rest) (sym same) in
      let light = ap selectors_weight cut in
      let less = so_far.light in
      record {
        table = widened_more Here count All (One k c ss) (Truth rest) table other new answer either (parts k c ss rest table All (subst (λ z. Widened Here count table All (Truth z)) cut so_far.table));
        asking = asking_more old now next (Asks (read_list selectors)) (Asks (alternative k c ss rest)) (OneAsks k c ss) (Asks rest) (subst (λ z. Asking old now (Asks (read_list selectors)) (Asks z)) cut so_far.asking) counted (join k c ss rest);
        tests = selectors_asked count old now next selectors i s steps known is same so_far.tests asked;
        light = omega (arith, light, less);
      }

-- a list at the nodes of a set
module _ (forest : Forest) (wanted : List Bool) where
  abbrev pub ListUnfinished : List Selector → ℕ → List Bool → ℕ → ℕ → Type 0
  ListUnfinished = Unfinished (Wanted wanted) (length forest.content) (λ list. MatchesNode list forest) (λ list. SelectorsTests list forest wanted)

  pub list_more : GoesOn (Wanted wanted) (length forest.content) (λ list. MatchesNode list forest) (λ list. SelectorsTests list forest wanted) (λ k c ss n. ChainMatches (Holds c forest) ss forest n n) (λ k c ss. SelectorTests c ss forest wanted)
  list_more = selector_more (Wanted wanted) (length forest.content) (λ list. MatchesNode list forest) (λ list. SelectorsTests list forest wanted) _ _ (λ k c ss more table All h. h) (λ k c ss more. asks_selectors k c ss more forest wanted)

-- the list of `:has`
module _ (forest : Forest) where
  abbrev pub HasUnfinished : List Selector → ℕ → List Bool → ℕ → ℕ → Type 0
  HasUnfinished = Unfinished Anywhere (length forest.content) (λ list. HasHolds list forest) (λ list. HasTests list forest)

  pub has_more : GoesOn Anywhere (length forest.content) (λ list. HasHolds list forest) (λ list. HasTests list forest) (λ k c ss. RelativeMatches k c ss forest) (λ k c ss. RelativeTests c ss forest)
  has_more = selector_more Anywhere (length forest.content) (λ list. HasHolds list forest) (λ list. HasTests list forest) _ _ (λ k c ss more table All h. h) (λ k c ss more. tests_relative k c ss more forest)
