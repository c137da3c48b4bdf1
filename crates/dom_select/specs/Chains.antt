-- How compound selectors with combinators are matched from right to left.
use Rattle.std.specs.Prelude.{◌≡◌, ◌<◌, ◌≤◌, ◌⊎◌, ℕ, List, [], ◌∷◌, ◌++◌, Option, IfSome, MatchOption, length, map}
use Rattle.std.specs.Borrow.{Bor}
use Rattle.dom_links.specs.Forest.{Forest}
use Rattle.dom_links.specs.Trees.{ancestors}
use Rattle.dom_selectors.specs.declared.syntax.Combinator.{Combinator}
use Rattle.dom_selectors.specs.declared.syntax.Combinator.TheVariants.{Descendant, Child, Adjacent, Sibling}
use Rattle.dom_selectors.specs.declared.syntax.Step.{Step}
use Rattle.dom_selectors.specs.ListsAsTrees.{steps_of}
use Rattle.dom_selectors.specs.ValuesAsTrees.{read_compound, read_step}
use Rattle.dom_select.specs.declared.matcher.matches.Chain.{Chain}
use Rattle.dom_select.specs.declared.matcher.matches.Remainder.{Remainder}
use Rattle.dom_select.specs.Has.{Begins}
use Rattle.dom_select.specs.Leftward.{earlier}
use Rattle.dom_select.specs.Meaning.{ChainMatches, CombinatorHolds, HasType, Holds, MayBeOperand, StepsMatch}
use Rattle.dom_selectors.specs.Syntax.{CompoundSelector}

-- `n` may be the node for the first compound selector
abbrev pub BeginsChain : Chain → Forest → ℕ → Type 0
BeginsChain chain forest n = Begins chain.start.now (read_compound chain.first.now) forest n

-- how loosely a combinator binds: `+` binds most tightly, and whitespace most loosely
abbrev pub binding_level : Combinator → ℕ
binding_level Adjacent = 1
binding_level Sibling = 2
binding_level Child = 3
binding_level Descendant = 4

-- `v` is nearer to the root than `n`, or at the same depth with fewer siblings before it
abbrev pub Precedes : Forest → ℕ → ℕ → Type 0
Precedes forest v n = (length (ancestors forest v) < length (ancestors forest n))
    ⊎ ((length (ancestors forest v) ≡ length (ancestors forest n)) × (length (earlier forest v) < length (earlier forest n)))

abbrev pub IsOrPrecedes : Forest → ℕ → ℕ → Type 0
IsOrPrecedes forest v n = (v ≡ n) ⊎ Precedes forest v n

-- each combinator of the steps binds more tightly than this level
abbrev pub AreTighter : ℕ → List (Combinator × CompoundSelector) → Type 0
AreTighter level [] = Unit {0}
AreTighter level (s ∷ ss) = (binding_level s.0 < level) × AreTighter level ss

-- the last combinator of the steps, if there is one, binds at this level or more loosely
abbrev pub EndsLoosely : ℕ → List (Combinator × CompoundSelector) → Type 0
EndsLoosely level steps = (front : List (Combinator × CompoundSelector)) (last : Combinator × CompoundSelector) → steps ≡ front ++ last ∷ [] → level ≤ binding_level last.0

-- the last compound selector matches `n`, and `n` is allowed on the right of the combinator before it
pub record LastHolds (forest : Forest) (exempt : ℕ) (first : ℕ → Type 0) (steps : List (Combinator × CompoundSelector)) (n : ℕ) : Type 0 where
  pub alone : steps ≡ [] → first n
  pub behind : (front : List (Combinator × CompoundSelector)) (last : Combinator × CompoundSelector) → steps ≡ front ++ last ∷ [] →
      MayBeOperand forest exempt last.0 n × Holds last.1 forest n

-- The last steps, all of which bind more tightly than this level, lead from `w` to `n`. The compound selector before them matches
-- `w`, and `w` is as good as any other such node: if the whole chain matches `n`, then the steps that are left match `w`.
pub record SuffixMatches (forest : Forest) (exempt : ℕ) (first : ℕ → Type 0) (level : ℕ) (steps left : List (Combinator × CompoundSelector)) (n w : ℕ) : Type 0 where
  pub passed : List (Combinator × CompoundSelector)
  pub split : steps ≡ left ++ passed
  pub tighter : AreTighter level passed
  pub loose : EndsLoosely level left
  pub led : StepsMatch (steps_of passed) forest exempt w n
  pub held : LastHolds forest exempt first left w
  pub whole : ChainMatches first (steps_of steps) forest exempt n → ChainMatches first (steps_of left) forest exempt w

-- the steps match some node that the combinator relates to `n`
abbrev pub SomeCandidateMatches : Forest → ℕ → (ℕ → Type 0) → List (Combinator × CompoundSelector) → Combinator → ℕ → Type 0
SomeCandidateMatches forest exempt first steps k n = (v : ℕ) × CombinatorHolds forest k v n × (MayBeOperand forest exempt k v × ChainMatches first (steps_of steps) forest exempt v)

-- `SuffixMatches` from a node that the combinator relates to `n`
pub record SuffixMatchesFrom (forest : Forest) (exempt : ℕ) (first : ℕ → Type 0) (k : Combinator) (steps left : List (Combinator × CompoundSelector)) (n w : ℕ) : Type 0 where
  pub at : ℕ
  pub stands : CombinatorHolds forest k at n
  pub beside : MayBeOperand forest exempt k at
  pub followed : SuffixMatches forest exempt first (binding_level k) steps left at w
  pub whole : SomeCandidateMatches forest exempt first steps k n → ChainMatches first (steps_of left) forest exempt w

-- the last compound selector of the chain matches `n`
abbrev pub EndsChain : Chain → List Step → Forest → ℕ → Type 0
EndsChain chain steps forest n = LastHolds forest chain.exempt (BeginsChain chain forest) (map read_step steps) n

-- `n` is allowed beside the combinator, and has the type if one is known
abbrev pub IsCandidate : Option (Bor (List ℕ)) → Combinator → Forest → ℕ → ℕ → Type 0
IsCandidate name k forest exempt n = MayBeOperand forest exempt k n × IfSome name (λ name. HasType name.now forest n)

-- How far the chain was matched from `n` to the left, over the steps that bind more tightly; `None` if the chain doesn't match
-- `n`.
abbrev pub FollowsChain : Chain → List Step → ℕ → Forest → ℕ → Option Remainder → Type 0
FollowsChain chain steps level forest n followed = MatchOption followed
    (ChainMatches (BeginsChain chain forest) (steps_of (map read_step steps)) forest chain.exempt n → ⊥)
    (λ remainder. SuffixMatches forest chain.exempt (BeginsChain chain forest) level (map read_step steps) (map read_step remainder.left.now) n remainder.at)

-- How far the chain was matched to the left from a node that the combinator relates to `n`; `None` if the chain matches no such
-- node.
abbrev pub FollowsCandidate : Chain → List Step → Combinator → Forest → ℕ → Option Remainder → Type 0
FollowsCandidate chain steps k forest n followed = MatchOption followed
    (SomeCandidateMatches forest chain.exempt (BeginsChain chain forest) (map read_step steps) k n → ⊥)
    (λ remainder. SuffixMatchesFrom forest chain.exempt (BeginsChain chain forest) k (map read_step steps) (map read_step remainder.left.now) n remainder.at)
