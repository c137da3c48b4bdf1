-- What comes before the element of a start tag `a` or `nobr` is made, where another one is in the list or in scope.
use Rattle.std.proofs.Common.{◌≡◌, ℕ, ◌&&◌, ◌||◌, not, Bool, true, false, [], ◌∷◌, codes, refl, sym, ap, subst, ◌∙◌, Option, Some, None, true≢false}
use Rattle.standard_trees.specs.Building.{Building, holds, is_present, own_name, perform, with_tree}
use Rattle.standard_trees.specs.Formatting.{adoption, last_listed, unlisted, without_found}
use Rattle.standard_trees.specs.GrowingTree.{GrowingTree, unstacked}
use Rattle.standard_trees.specs.RuleWords.{AdoptionAgency, DropFound, FindListed, InScope, Listed, Scope, These}
use Rattle.page_tokens.specs.declared.token.Tag.{Tag}
use Rattle.page_trees.specs.BodyTags.{ActsWhere, acted}
use Rattle.page_trees.specs.Constructs.{Constructs, IsCurrentTag, WithinLimits}
use Rattle.page_trees.specs.Listing.{AdoptsFor, FindsEntry, FindsListed, LeadsTo, Unlists, Unstacks, allows_agency, closes_nobr, closing_nobr, dropping_a, drops_a}
use Rattle.page_trees.specs.Listing.{lists_once}
use Rattle.page_trees.specs.Stands.{Builds, EntryStands}
use Rattle.page_trees.specs.TreeState.{TreeState}
use Rattle.page_trees.specs.declared.builder.TreeBuilder.{TreeBuilder}
use Rattle.page_trees.specs.declared.formatting.Entry.{Entry}
use Rattle.page_trees.specs.declared.name.Name.{Name}
use Rattle.page_trees.specs.declared.stack.Open.{Open}
use Rattle.page_trees.proofs.AgencyRounds.{Named, found_stands}
use Rattle.page_trees.proofs.BuilderSteps.{moved}
use Rattle.page_trees.proofs.NamesAgree.{both}
use Rattle.page_trees.proofs.TableRules.{own_is}
use Rattle.page_trees.proofs.TableTags.{current_kept}

-- ---- the search in the list

pub finds_entry : (name : Name) (view old : TreeState) (r : Option Open) → view ≡ old → Named name view r → FindsEntry old r
finds_entry name view old None same named = tt
finds_entry name view old (Some o) same named = λ t b.
    found_stands name old t (Some o) o (subst (λ (s : TreeState). Named name s (Some o)) same named) refl b

-- `found` is no part of what the code keeps
found_built : (s : TreeState) (t : GrowingTree) (n : Option ℕ) → Builds s t → Builds s (record t { found = n })
found_built s t n b = record {
  nodes = b.nodes;
  stack = record { ids = b.stack.ids; nodes = b.stack.nodes };
  numbered = b.numbered;
  listed = b.listed;
  head = b.head;
  head_named = b.head_named;
  form = b.form;
  form_named = b.form_named;
  context = b.context;
  late = b.late;
  lone = b.lone;
}

-- ---- `<a>` where an `a` is in the list

abbrev listed_a : Building → Option ℕ
listed_a b = last_listed b.tree (codes "a" ∷ []) b.tree.listed

abbrev with_found : Building → GrowingTree
with_found b = record b.tree { found = listed_a b }

-- the entry and the element are removed
both_removed : (mid : TreeBuilder) (tree left : TreeState) (o : Open) (b : Building) → Unlists o.id mid.tree tree → Unstacks o tree left → Constructs mid b →
    lists_once b.tree.listed ≡ true → EntryStands b.tree.nodes (Entry.Element o) → b.tree.found ≡ Some o.id →
    Constructs (record mid { tree = left }) (perform DropFound b)
unfolding perform
both_removed mid tree left o b unlists unstacks c once stands found =
    let t : GrowingTree = unstacked o.id (unlisted o.id b.tree) in
    let built : Builds left t = unstacks (unlisted o.id b.tree) stands (unlists b.tree once c.tree) in
    subst (λ (n : Option ℕ). Constructs (record mid { tree = left }) (with_tree b (without_found n b.tree))) (sym found)
    (moved mid (record mid { tree = left }) left mid.fault mid.too_deep refl b t c built refl)

-- the algorithm is run
record IsAgencyRun (mid : TreeBuilder) (b : Building) : Type 0 where
  pub constructs : Constructs mid (with_tree b (adoption (own_name b.token) (with_found b)))
  pub leads : LeadsTo (with_found b) (adoption (own_name b.token) (with_found b)) mid.tree

agency_run : (tag : Tag) (old mid new : TreeBuilder) (left : TreeState) (b : Building) → new ≡ record mid { tree = left } → AdoptsFor Name.A old mid → WithinLimits new → drops_a b ≡ true → IsCurrentTag Name.A tag b →
    Constructs old b → IsAgencyRun mid b
unfolding perform
agency_run tag old mid new left b e adopts within test current c =
    let parts = both (holds (Listed (These (codes "a" ∷ []))) b) _ test in
    let own : own_name b.token ≡ codes "a" = own_is Name.A tag b refl current in
    let c_found : Constructs old (with_tree b (with_found b)) = moved old old old.tree old.fault old.too_deep refl b (with_found b) c (found_built old.tree b.tree (listed_a b) c.tree) refl in
    let fault = ap (λ (s : TreeBuilder). s.fault) e in
    let deep = ap (λ (s : TreeBuilder). s.too_deep) e in
    let both_ways = adopts (record { fault = sym fault ∙ within.fault; depth = sym deep ∙ within.depth }) (with_tree b (with_found b)) parts.1 own c_found in
    record { constructs = both_ways.0; leads = both_ways.1 }

pub a_dropped : (tag : Tag) (old mid new : TreeBuilder) (tree left : TreeState) (o : Open) → new ≡ record mid { tree = left } → FindsListed Name.A old.tree (Some o) → FindsEntry old.tree (Some o) →
    AdoptsFor Name.A old mid → Unlists o.id mid.tree tree → Unstacks o tree left → ActsWhere drops_a Name.A tag dropping_a old new
unfolding perform
a_dropped tag old mid new tree left o e finds entry adopts unlists unstacks starts within b test current c =
    let run = agency_run tag old mid new left b e adopts within test current c in
    let after : GrowingTree = adoption (own_name b.token) (with_found b) in
    let stands : EntryStands after.nodes (Entry.Element o) = run.leads.alike.stands o (entry b.tree c.tree) in
    subst (λ (s : TreeBuilder). Constructs s (acted dropping_a b)) (sym e)
    (both_removed mid tree left o (with_tree b after) unlists unstacks run.constructs run.leads.well stands (run.leads.alike.found ∙ sym (finds b.tree c.tree)))

no_a : (o : Option ℕ) → None ≡ o → is_present o ≡ true → ⊥
no_a None e h = true≢false (sym h)
no_a (Some n) e h = cc

-- none is found
none_there : {A : Type 0} (old : TreeBuilder) (b : Building) → FindsListed Name.A old.tree None → drops_a b ≡ true → Constructs old b → A
none_there old b finds test c =
    let parts = both (holds (Listed (These (codes "a" ∷ []))) b) _ test in
    absurd (no_a (listed_a b) (finds b.tree c.tree) parts.0)

pub none_dropped : (tag : Tag) (old : TreeBuilder) → FindsListed Name.A old.tree None → ActsWhere drops_a Name.A tag dropping_a old old
none_dropped tag old finds starts within b test current c = none_there old b finds test c

pub dropped_current : (tag : Tag) (b : Building) → IsCurrentTag Name.A tag b → IsCurrentTag Name.A tag (acted dropping_a b)
dropped_current tag b c =
    let found : Building = perform (FindListed (These (codes "a" ∷ []))) b in
    current_kept DropFound refl Name.A tag (perform AdoptionAgency found)
    (current_kept AdoptionAgency refl Name.A tag found (current_kept (FindListed (These (codes "a" ∷ []))) refl Name.A tag b c))

-- ---- `<nobr>` where one is in scope

abbrev scoped_nobr : Building → Bool
scoped_nobr b = holds (InScope Scope (These (codes "nobr" ∷ []))) b

abbrev if_scoped : Bool → Building → Building
if_scoped scoped b = elim (scoped && true) [ true ↦ perform AdoptionAgency b | false ↦ b ]

or_right : (a b : Bool) → a ≡ true → (not a || b) ≡ true → b ≡ true
or_right true b e h = h
or_right false b e h = absurd (true≢false (sym e))

nobr_run : (tag : Tag) (old new : TreeBuilder) (b : Building) → scoped_nobr b ≡ true → AdoptsFor Name.Nobr old new → WithinLimits new → closes_nobr b ≡ true → IsCurrentTag Name.Nobr tag b → Constructs old b →
    Constructs new (perform AdoptionAgency b) × LeadsTo b.tree (perform AdoptionAgency b).tree new.tree
nobr_run tag old new b scoped adopts within test current c =
    adopts within b (or_right (scoped_nobr b) (allows_agency b) scoped test) (own_is Name.Nobr tag b refl current) c

pub nobr_closed : (tag : Tag) (old new : TreeBuilder) → ((b : Building) → Constructs old b → scoped_nobr b ≡ true) → AdoptsFor Name.Nobr old new →
    ActsWhere closes_nobr Name.Nobr tag closing_nobr old new
nobr_closed tag old new tells adopts starts within b test current c =
    let scoped = tells b c in
    subst (λ x. Constructs new (if_scoped x b)) (sym scoped) (nobr_run tag old new b scoped adopts within test current c).0

pub nobr_left : (tag : Tag) (old : TreeBuilder) → ((b : Building) → Constructs old b → scoped_nobr b ≡ false) → ActsWhere closes_nobr Name.Nobr tag closing_nobr old old
nobr_left tag old tells starts within b test current c = subst (λ x. Constructs old (if_scoped x b)) (sym (tells b c)) c

pub closed_current : (tag : Tag) (b : Building) → IsCurrentTag Name.Nobr tag b → IsCurrentTag Name.Nobr tag (acted closing_nobr b)
closed_current tag b c = by (scoped_nobr b) (current_kept AdoptionAgency refl Name.Nobr tag b c)
  where
    by : (x : Bool) → IsCurrentTag Name.Nobr tag (perform AdoptionAgency b) → IsCurrentTag Name.Nobr tag (if_scoped x b)
    by true after = after
    by false after = c
