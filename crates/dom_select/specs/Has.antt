-- The relative selectors of `:has`: where they start, and which nodes they can match.
use Rattle.std.specs.Prelude.{if◌then◌else◌, Bool, true, false, Option, Some, None, ◌≡◌, ◌⊎◌, ◌↔◌, ℕ, List, [], ◌∷◌, map}
use Rattle.std.specs.List.{list_all}
use Rattle.dom_links.specs.Forest.{Forest}
use Rattle.dom_links.specs.Lists.{is_member}
use Rattle.dom_links.specs.Trees.{descendants_in_order}
use Rattle.dom_links.specs.Walk.{later, row_on}
use Rattle.dom_select.specs.declared.matcher.has.Start.{Start}
use Rattle.dom_select.specs.declared.matcher.has.Start.TheVariants.{Absolute, Relative}
use Rattle.dom_selectors.specs.declared.syntax.Combinator.{Combinator}
use Rattle.dom_selectors.specs.declared.syntax.Combinator.TheVariants.{Descendant, Child, Adjacent, Sibling}
use Rattle.dom_links.specs.ListMoves.{element_at}
use Rattle.dom_select.specs.Meaning.{ChainMatches, CombinatorHolds, Holds, IsJoined, RelativeMatches}
use Rattle.dom_selectors.specs.declared.syntax.Compound.{Compound}
use Rattle.dom_selectors.specs.declared.syntax.Step.{Step}
use Rattle.dom_selectors.specs.ListsAsTrees.{steps_of}
use Rattle.dom_selectors.specs.Syntax.{CompoundSelector, Steps}
use Rattle.dom_selectors.specs.ValuesAsTrees.{read_compound, read_step}

-- the first compound selector matches the node, and in a relative selector the leading combinator relates it to the anchor
abbrev pub Begins : Start → CompoundSelector → Forest → ℕ → Type 0
Begins Absolute first forest w = Holds first forest w
Begins (Relative k x) first forest w = IsJoined forest x k x w × Holds first forest w

-- in a relative selector, the matched node has to be an element
abbrev pub may_be_subject : Start → Forest → ℕ → Bool
may_be_subject Absolute forest n = true
may_be_subject (Relative k x) forest n = element_at forest n

-- the compound selectors match `n`, from the start
abbrev pub SelectorMatches : Start → CompoundSelector → Steps → Forest → ℕ → Type 0
SelectorMatches Absolute first steps forest n = ChainMatches (Holds first forest) steps forest n n
SelectorMatches (Relative k x) first steps forest n = (element_at forest n ≡ true) × ChainMatches (Begins (Relative k x) first forest) steps forest n n

-- every descendant may be on the right of the combinator
abbrev pub is_deep : Combinator → Bool
is_deep Descendant = true
is_deep Child = false
is_deep Adjacent = false
is_deep Sibling = false

-- the combinator relates siblings
abbrev pub is_sideways : Combinator → Bool
is_sideways Descendant = false
is_sideways Child = false
is_sideways Adjacent = true
is_sideways Sibling = true

-- the nodes at or below which all matches of a relative selector are: the anchor itself, or its later siblings
abbrev pub search_roots : Forest → Combinator → ℕ → List ℕ
search_roots forest k x = if is_sideways k then later forest false x else x ∷ []

-- one of these nodes, and those after it
abbrev pub search_roots_from : Forest → Combinator → Option ℕ → List ℕ
search_roots_from forest k None = []
search_roots_from forest k (Some t) = t ∷ (if is_sideways k then later forest false t else [])

-- the compound selectors match a node at or below `t`
abbrev pub MatchesWithin : Start → CompoundSelector → Steps → Forest → ℕ → Type 0
MatchesWithin start first steps forest t = (y : ℕ) × ((y ≡ t) ⊎ (is_member y (descendants_in_order forest t) ≡ true)) × SelectorMatches start first steps forest y

-- Matching for compound selectors in the program's representation: they match `n`, a node at or below `t`, or an element relative
-- to `x`.
abbrev pub CompoundsMatch : Start → Compound → List Step → Forest → ℕ → Type 0
CompoundsMatch start first steps forest n = SelectorMatches start (read_compound first) (steps_of (map read_step steps)) forest n

abbrev pub CompoundsMatchWithin : Start → Compound → List Step → Forest → ℕ → Type 0
CompoundsMatchWithin start first steps forest t = MatchesWithin start (read_compound first) (steps_of (map read_step steps)) forest t

abbrev pub CompoundsMatchFrom : Combinator → Compound → List Step → Forest → ℕ → Type 0
CompoundsMatchFrom lead first steps forest x = RelativeMatches lead (read_compound first) (steps_of (map read_step steps)) forest x

-- A relative selector of one compound selector, whose combinator is not the descendant combinator. Only children or siblings can
-- match.
abbrev pub IsNear : Combinator → List Step → Type 0
IsNear k steps = (steps ≡ []) × (k ≡ Descendant → ⊥)

-- A relative selector whose later combinators relate siblings. Only children or siblings can match.
abbrev pub IsInRow : Combinator → List Step → Type 0
IsInRow k steps = (list_all (λ s. is_sideways s.combinator) steps ≡ true) × (k ≡ Descendant → ⊥)

-- the combinator that covers all these children or siblings
abbrev pub row_combinator : Combinator → Combinator
row_combinator Child = Child
row_combinator _ = Sibling

-- whether the search among siblings ends here: for `+`, at the first element
abbrev pub ends_right : Forest → Combinator → ℕ → Bool
ends_right forest Adjacent n = element_at forest n
ends_right forest _ n = false

-- the nodes of the list up to the first at which the search ends
abbrev pub row_to : (ℕ → Bool) → List ℕ → List ℕ
row_to ends [] = []
row_to ends (n ∷ ns) = n ∷ (if ends n then [] else row_to ends ns)

-- the nodes from `next` on that are searched for this combinator
abbrev pub right_row : Forest → Combinator → Option ℕ → List ℕ
right_row forest k next = row_to (ends_right forest k) (row_on forest false next)

-- the elements of the list are those that the combinator relates to `x` on their left
abbrev pub AreRightOf : Forest → Combinator → ℕ → List ℕ → Type 0
AreRightOf forest k x ns = (w : ℕ) → element_at forest w ≡ true → (is_member w ns ≡ true) ↔ CombinatorHolds forest k x w

-- the node is an element that the compound selector matches
abbrev pub IsElementThat : CompoundSelector → Forest → ℕ → Type 0
IsElementThat c forest n = (element_at forest n ≡ true) × Holds c forest n
