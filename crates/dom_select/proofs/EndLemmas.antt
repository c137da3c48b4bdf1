-- Names that the last compounds of selectors begin with.
use Rattle.std.proofs.Common.{◌≡◌, ℕ, Bool, true, false, List, [], ◌∷◌, ◌++◌, Option, None, Some, IfSome, map, slice_get, sym, ap, ◌∙◌, subst, true≢false}
use Rattle.std.specs.Prelude.{◌⊎◌}
use Rattle.std.specs.Borrow.{Bor}
use Rattle.std.proofs.lemmas.Option.{none-some, same_Some}
use Rattle.dom_links.specs.Forest.{Forest}
use Rattle.dom_selectors.specs.declared.syntax.Combinator.{Combinator}
use Rattle.dom_selectors.specs.declared.syntax.Compound.{Compound}
use Rattle.dom_selectors.specs.declared.syntax.Part.{Part}
use Rattle.dom_selectors.specs.declared.syntax.Selector.{Selector, out-Selector}
use Rattle.dom_selectors.specs.ListsAsTrees.{lists_of, selector_list, steps_of}
use Rattle.dom_selectors.specs.Spelling.{Decides}
use Rattle.dom_selectors.specs.Syntax.{CompoundSelector, compound}
use Rattle.dom_selectors.specs.ValuesAsTrees.{read_compound, read_list, read_nested, read_selector, read_step}
use Rattle.dom_selectors.proofs.Layers.{read_compound_is, read_selector_is}
use Rattle.dom_select.specs.declared.matcher.has.Start.{Start}
use Rattle.dom_select.specs.declared.matcher.has.Start.TheVariants.{Absolute, Relative}
use Rattle.dom_select.specs.Ends.{ImpliesType, SubjectImpliesType}
use Rattle.dom_select.specs.Has.{Begins}
use Rattle.dom_select.specs.Meaning.{Holds, MayBeOperand, MatchesNode, PartsHold, ChainMatches}
use Rattle.dom_select.specs.Parts.{PartHolds}
use Rattle.dom_select.proofs.FollowLemmas.{chain_end}

-- a compound that begins with a type holds of what bears its name
pub begins_as : (name : List ℕ) (c : Compound) (parts : List Part) (p : Part) → parts ≡ c.parts.items → Some p ≡ slice_get parts 0 → p ≡ Part.«Type» name → ImpliesType name (read_compound c)
unfolding PartsHold
begins_as name c parts p same is named forest n held = first c.parts.items (is ∙ ap (λ qs. slice_get qs 0) same) all.0
  where
    all : Holds (compound c.parts.items (lists_of (map read_nested c.nested.items))) forest n
    all = subst (λ k. Holds k forest n) (read_compound_is c) held

    first : (qs : List Part) → Some p ≡ slice_get qs 0 → PartsHold qs forest n → PartsHold (Part.«Type» name ∷ []) forest n
    first [] none h = absurd (none-some p (sym none))
    first (q ∷ qs) at h = (h.0, (subst (λ r. PartHolds r forest n) (same_Some q p (sym at) ∙ named) h.1.0, tt))

begun : (start : Start) (first : CompoundSelector) (forest : Forest) (n : ℕ) → Begins start first forest n → Holds first forest n
begun Absolute first forest n h = h
begun (Relative k x) first forest n h = h.1

pub behind_as : (found : Option (Bor (List ℕ))) (first : CompoundSelector) (steps front : List (Combinator × CompoundSelector)) (last : Combinator × CompoundSelector) → steps ≡ front ++ last ∷ [] →
    IfSome found (λ name. ImpliesType name.now last.1) → IfSome found (λ name. SubjectImpliesType name.now first steps)
behind_as None first steps front last is h = h
behind_as (Some name) first steps front last is h = λ start forest exempt n r. h forest n ((chain_end forest exempt (Begins start first forest) steps n r).behind front last is).1

-- what the first selector means is what its compounds reach
pub means_one : (s : Selector) (more : List Selector) (forest : Forest) (n : ℕ) → MatchesNode (read_list (s ∷ more)) forest n →
    ChainMatches (Begins Absolute (read_compound (out-Selector s).first) forest) (steps_of (map read_step (out-Selector s).rest.items)) forest n n ⊎ MatchesNode (read_list more) forest n
means_one s more forest n h = subst (λ (t : Combinator × CompoundSelector × _). MatchesNode (selector_list (t ∷ map read_selector more)) forest n) (read_selector_is s) h

-- a node that is no candidate isn't reached
pub not_reached : (found : Option (Bor (List ℕ))) (first : CompoundSelector) (steps : List (Combinator × CompoundSelector)) (k : Combinator) (forest : Forest) (exempt n : ℕ) (b : Bool) → IfSome found (λ name. SubjectImpliesType name.now first steps) →
    Decides b (MayBeOperand forest exempt k n × IfSome found (λ name. PartsHold (Part.«Type» name.now ∷ []) forest n)) → b ≡ false →
    (start : Start) → MayBeOperand forest exempt k n × ChainMatches (Begins start first forest) (steps_of steps) forest exempt n → ⊥
not_reached found first steps k forest exempt n true ends h e start r = true≢false e
not_reached found first steps k forest exempt n false ends h e start r = h (r.0, bears found ends)
  where
    bears : (o : Option (Bor (List ℕ))) → IfSome o (λ name. SubjectImpliesType name.now first steps) → IfSome o (λ name. PartsHold (Part.«Type» name.now ∷ []) forest n)
    bears None none = tt
    bears (Some name) implied = implied start forest exempt n r.1
