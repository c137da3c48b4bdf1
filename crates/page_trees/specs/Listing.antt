-- What is done to the list of active formatting elements (13.2.4.3) as the definition does it.
use Rattle.std.specs.Prelude.{◌≡◌, Bool, IfSome, None, Option, Some, [], ◌∷◌, List, codes, false, not, true, ℕ, ◌&&◌, ◌||◌, if◌then◌else◌}
use Rattle.std.specs.Option.{option_map}
use Rattle.standard_trees.specs.Building.{Building, holds, own_name, perform}
use Rattle.standard_trees.specs.Formatting.{adopted_for, any_other_end, enlisted, is_listed, last_listed, unlisted}
use Rattle.standard_trees.specs.GrowingTree.{GrowingTree, current, is_among, unstacked}
use Rattle.standard_trees.specs.GrowingTree.{is_one as is_one_of}
use Rattle.standard_trees.specs.RuleWords.{Act, AdoptionAgency, DropFound, FindListed, InScope, Listed, Mode as StandardMode}
use Rattle.standard_trees.specs.RuleWords.{ReconstructFormatting, Scope, These, does, is}
pub use Rattle.standard_order.specs.ListedOnce.{lists_once}
use Rattle.page_tokens.specs.declared.token.Tag.{Tag}
use Rattle.page_trees.specs.Constructs.{Constructs, IsCurrentTag, Outcome, ProcessesTag, WithinLimits}
use Rattle.page_trees.specs.Modes.{is_start_kind}
use Rattle.page_trees.specs.Names.{text_of}
use Rattle.page_trees.specs.Stands.{Builds, EntryStands, formatting_names}
use Rattle.page_trees.specs.TreeState.{TreeState}
use Rattle.page_trees.specs.declared.builder.Next.{Next}
use Rattle.page_trees.specs.declared.builder.TreeBuilder.{TreeBuilder}
use Rattle.page_trees.specs.declared.formatting.Entry.{Entry}
use Rattle.page_trees.specs.declared.modes.groups.Group.{Group}
use Rattle.page_trees.specs.declared.name.Name.{Name}
use Rattle.page_trees.specs.declared.stack.Open.{Open}

-- ---- the tree

-- "push onto the list of active formatting elements that element": the current node, which is one of those that the rules add
abbrev pub Enlists : TreeState → TreeState → Type 0
Enlists old new =
    (t : GrowingTree) → is_one_of t formatting_names (current t) ≡ true → Builds old t → Builds new (enlisted t)

-- the last element of that name after the last marker
abbrev pub FindsListed : Name → TreeState → Option Open → Type 0
FindsListed name state found =
    (t : GrowingTree) → Builds state t → option_map (λ o. o.id) found ≡ last_listed t (text_of name ∷ []) t.listed

-- "remove the element from the list of active formatting elements"
abbrev pub Unlists : ℕ → TreeState → TreeState → Type 0
Unlists n old new =
    (t : GrowingTree) → lists_once t.listed ≡ true → Builds old t → Builds new (unlisted n t)

-- the element that is found is one of those that the rules add to the list
abbrev pub FindsEntry : TreeState → Option Open → Type 0
FindsEntry state found =
    IfSome found (λ o. (t : GrowingTree) → Builds state t → EntryStands t.nodes (Entry.Element o))

-- "remove the element from the stack of open elements": one of those that the rules add to the list
abbrev pub Unstacks : Open → TreeState → TreeState → Type 0
Unstacks o old new =
    (t : GrowingTree) → EntryStands t.nodes (Entry.Element o) → Builds old t → Builds new (unstacked o.id t)

-- ---- the adoption agency algorithm

-- no element is in the list twice
abbrev pub lists_well : GrowingTree → Bool
lists_well t = lists_once t.listed

abbrev pub listed_named : List ℕ → GrowingTree → Option ℕ
listed_named name t = last_listed t (name ∷ []) t.listed

-- elements are moved, and copies of some are made; this stays
pub record StaysAlike (t after : GrowingTree) : Type 0 where
  pub fosters : after.fostering ≡ t.fostering
  pub found : after.found ≡ t.found
  pub stands : (o : Open) → EntryStands t.nodes (Entry.Element o) → EntryStands after.nodes (Entry.Element o)

-- the state is that of the definition, which comes from another one
pub record LeadsTo (t after : GrowingTree) (new : TreeState) : Type 0 where
  pub built : Builds new after
  pub well : lists_well after ≡ true
  pub alike : StaysAlike t after

-- the outer loop comes to its end in this round, whatever another round would do
pub record IsRoundDone (name : List ℕ) (t : GrowingTree) (new : TreeState) : Type 0 where
  pub after : GrowingTree
  pub leads : LeadsTo t after new
  pub result : (again : GrowingTree → GrowingTree) → adopted_for (listed_named name t) name again t ≡ after

-- the outer loop goes on after this round
pub record IsRoundRun (name : List ℕ) (t : GrowingTree) (new : TreeState) : Type 0 where
  pub after : GrowingTree
  pub leads : LeadsTo t after new
  pub result : (again : GrowingTree → GrowingTree) → adopted_for (listed_named name t) name again t ≡ again after

-- what the outer loop does once: the algorithm is done, or the tag is to be processed like any other end tag, or the loop goes on
abbrev pub RoundEnd : List ℕ → GrowingTree → TreeState → Option Bool → Type 0
RoundEnd name t new (Some true) = IsRoundDone name t new
RoundEnd name t new (Some false) = (listed_named name t ≡ None) × LeadsTo t t new
RoundEnd name t new None = IsRoundRun name t new

abbrev pub RoundEnds : Name → Bool → TreeState → TreeState → Option Bool → Type 0
RoundEnds name foster old new end =
    (t : GrowingTree) → lists_well t ≡ true → t.fostering ≡ foster → Builds old t → RoundEnd (text_of name) t new end

-- an algorithm was run for an element of that name; where the tag is not handled yet, it is to be processed like any other end tag
pub record IsAdopted (name : List ℕ) (t made : GrowingTree) (new : TreeState) (handled : Bool) : Type 0 where
  pub after : GrowingTree
  pub leads : LeadsTo t after new
  pub result : made ≡ (if handled then after else any_other_end name after)

-- this of an algorithm
abbrev pub AdoptsBy : (List ℕ → GrowingTree → GrowingTree) → Name → Bool → TreeState → TreeState → Bool → Type 0
AdoptsBy algorithm name foster old new handled =
    (t : GrowingTree) → lists_well t ≡ true → t.fostering ≡ foster → Builds old t →
    IsAdopted (text_of name) t (algorithm (text_of name) t) new handled

-- the current node has the name, and is not in the list
abbrev pub TellsBare : Name → TreeState → Bool → Type 0
TellsBare name state bare =
    (t : GrowingTree) → Builds state t →
    bare ≡ (is_one_of t (text_of name ∷ []) (current t) && not (is_listed t (current t)))

-- ---- the builder

-- the name is of an element that the rules add to the list
abbrev pub is_formatting_name : Name → Bool
is_formatting_name name = is_among (text_of name) formatting_names

-- no `a` is in the list
abbrev pub lists_no_a : Building → Bool
lists_no_a b = not (holds (Listed (These (codes "a" ∷ []))) b)

-- nothing is done, where the old state passes a test
abbrev pub StaysWhere : (Building → Bool) → TreeBuilder → TreeBuilder → Type 0
StaysWhere test old new = (b : Building) → test b ≡ true → Constructs old b → new ≡ old

-- the list of active formatting elements is one that the adoption agency algorithm is proved for
abbrev pub allows_agency : Building → Bool
allows_agency b = lists_well b.tree

-- within the limits, the adoption agency algorithm is run for a tag
abbrev pub AdoptsFor : Name → TreeBuilder → TreeBuilder → Type 0
AdoptsFor name old new =
    WithinLimits new → (b : Building) → allows_agency b ≡ true → own_name b.token ≡ text_of name → Constructs old b →
    Constructs new (perform AdoptionAgency b) × LeadsTo b.tree (perform AdoptionAgency b).tree new.tree

-- within the limits, a start tag is processed by the rules for a mode
abbrev pub ProcessesStart : StandardMode → Name → Tag → TreeBuilder → TreeBuilder → Next → Type 0
ProcessesStart mode name tag old new next = is_start_kind tag.kind ≡ true → ProcessesTag mode name tag old new next

-- the same, if the old state passes a test
abbrev pub ProcessesStartWhere : (Building → Bool) → StandardMode → Name → Tag → TreeBuilder → TreeBuilder → Next → Type 0
ProcessesStartWhere test mode name tag old new next =
    is_start_kind tag.kind ≡ true → WithinLimits new → (b : Building) → test b ≡ true → IsCurrentTag name tag b → Constructs old b →
    Outcome mode b new next

-- within the limits, an end tag is processed by the rules for a mode, if the old state passes a test
abbrev pub ProcessesEndWhere : (Building → Bool) → StandardMode → Name → Tag → TreeBuilder → TreeBuilder → Next → Type 0
ProcessesEndWhere test mode name tag old new next =
    is_start_kind tag.kind ≡ false → WithinLimits new → (b : Building) → test b ≡ true → IsCurrentTag name tag b → Constructs old b →
    Outcome mode b new next

-- "find the last `a` in the list; run the adoption agency algorithm; remove that element from the list and from the stack"
abbrev pub dropping_a : List Act
dropping_a = does (FindListed (These (codes "a" ∷ []))) [] ∷ does AdoptionAgency [] ∷ does DropFound [] ∷ []

-- an `a` is in the list
abbrev pub drops_a : Building → Bool
drops_a b = holds (Listed (These (codes "a" ∷ []))) b && allows_agency b

abbrev pub starts_a : Building → Bool
starts_a b = lists_no_a b || drops_a b

-- "if a `nobr` is in scope, run the adoption agency algorithm"
abbrev pub closing_nobr : List Act
closing_nobr = does AdoptionAgency (is (InScope Scope (These (codes "nobr" ∷ []))) ∷ []) ∷ []

-- if a `nobr` is in scope, the algorithm is run
abbrev pub closes_nobr : Building → Bool
closes_nobr b = not (holds (InScope Scope (These (codes "nobr" ∷ []))) b) || allows_agency b

-- The start tag `nobr` first reconstructs the active formatting elements.
abbrev pub starts_nobr : Building → Bool
starts_nobr b = closes_nobr (perform ReconstructFormatting b)

-- the groups of formatting elements
abbrev pub formats : Group → Bool
formats Group.A = true
formats Group.Formatting = true
formats Group.Nobr = true
formats _ = false
