-- What the rules for "in body" make of the tags of formatting elements.
use Rattle.std.proofs.Common.{◌≡◌, ℕ, ◌&&◌, ◌||◌, not, Bool, true, false, List, [], ◌∷◌, codes, refl, sym, ap, ◌∙◌, subst, ◌⊎◌, inl, inr, Option, Some, None, true≢false}
use Rattle.std.specs.Prelude.{Err}
use Rattle.standard_trees.specs.Building.{Building, holds, own_name, perform, with_tree}
use Rattle.standard_trees.specs.Formatting.{adoption}
use Rattle.standard_trees.specs.GrowingTree.{GrowingTree, in_scope, is_one, popped_until}
use Rattle.standard_trees.specs.RuleWords.{Act, AdoptionAgency, DropFound, FindListed, InBody, InScope, InsertElement, ListElement, Listed, ReconstructFormatting, Scope, These, does, is}
use Rattle.standard_trees.specs.TreeRules.{rules}
use Rattle.page_tokens.specs.declared.token.Tag.{Tag}
use Rattle.page_trees.specs.BodyTags.{ActsWhere, acted}
use Rattle.page_trees.specs.Closing.{closed_before, is_special_node}
use Rattle.page_trees.specs.Constructs.{Constructs, IsCurrentTag, Outcome, Performs, PerformsFor, RemembersLimits, first_fault}
use Rattle.page_trees.specs.Groups.{body_rules_for, example_of, group_named}
use Rattle.page_trees.specs.Listing.{AdoptsBy, AdoptsFor, LeadsTo, ProcessesEndWhere, ProcessesStart, ProcessesStartWhere, StaysWhere, allows_agency, closes_nobr, closing_nobr, dropping_a}
use Rattle.page_trees.specs.Listing.{drops_a, formats, is_formatting_name, lists_no_a, starts_a, starts_nobr}
use Rattle.page_trees.specs.Modes.{is_start_kind}
use Rattle.page_trees.specs.Names.{text_of}
use Rattle.page_trees.specs.Scopes.{is_name}
use Rattle.page_trees.specs.Stands.{Builds, Does}
use Rattle.page_trees.specs.TreeState.{TreeState}
use Rattle.page_trees.specs.declared.builder.Next.{Next}
use Rattle.page_trees.specs.declared.builder.TreeBuilder.{TreeBuilder}
use Rattle.page_trees.specs.declared.fault.PageFault.{PageFault}
use Rattle.page_trees.specs.declared.modes.groups.Group.{Group}
use Rattle.page_trees.specs.declared.name.Name.{Name}
use Rattle.page_trees.proofs.BodyEnds.{group_end, known_group}
use Rattle.page_trees.proofs.BodyRules.{choice, end_rules_for, outcome_of_acts, own_of_end, started_by}
use Rattle.page_trees.proofs.BuilderSteps.{limits_kept, moved}
use Rattle.page_trees.proofs.ClosedElements.{any_other_is}
use Rattle.page_trees.proofs.DroppedElements.{closed_current, dropped_current}
use Rattle.page_trees.proofs.FormattingRules.{listing}
use Rattle.page_trees.proofs.NamesAgree.{both}
use Rattle.page_trees.proofs.TableTags.{current_kept}

-- ---- start tags

abbrev listing_acts : List Act
listing_acts = does ReconstructFormatting [] ∷ does InsertElement [] ∷ does ListElement [] ∷ []

formatting_row : (b : Building) → choice b (body_rules_for (example_of Group.Formatting)) ≡ listing_acts
unfolding rules
formatting_row b = refl

pub plain_formats : (name : Name) → group_named name ≡ Group.Formatting → is_formatting_name name ≡ true
plain_formats Name.B h = refl
plain_formats Name.Big h = refl
plain_formats Name.Code h = refl
plain_formats Name.Em h = refl
plain_formats Name.Font h = refl
plain_formats Name.I h = refl
plain_formats Name.S h = refl
plain_formats Name.Small h = refl
plain_formats Name.Strike h = refl
plain_formats Name.Strong h = refl
plain_formats Name.Tt h = refl
plain_formats Name.U h = refl
plain_formats _ h = absurd (cc)

-- a formatting element that is no `a` and no `nobr`
pub formatting_started : (name : Name) (tag : Tag) (old new : TreeBuilder) (next : Next) → group_named name ≡ Group.Formatting → next ≡ Next.Done →
    (is_formatting_name name ≡ true → PerformsFor name tag listing old new) → ProcessesStart InBody name tag old new next
formatting_started name tag old new next e done rule starts within b current stands =
    subst (λ (n : Next). Outcome InBody b new n) (sym done)
    (started_by Group.Formatting name tag b new listing_acts e current starts (formatting_row b) refl (rule (plain_formats name e) starts within b current stands))

abbrev acts_by : Bool → List Act → List Act
acts_by x acts = elim (x && true) [ true ↦ acts | false ↦ listing_acts ]

a_row : (b : Building) → choice b (body_rules_for (example_of Group.A)) ≡
    acts_by (holds (Listed (These (codes "a" ∷ []))) b) (does (FindListed (These (codes "a" ∷ []))) [] ∷ does AdoptionAgency [] ∷ does DropFound [] ∷ listing_acts)
unfolding rules
a_row b = refl

not_true : (x : Bool) → not x ≡ true → x ≡ false
not_true true h = absurd (true≢false (sym h))
not_true false h = refl

either : (a b : Bool) → (a || b) ≡ true → (a ≡ true) ⊎ (b ≡ true)
either true b h = inl refl
either false b h = inr h

abbrev a_acts : List Act
a_acts = does (FindListed (These (codes "a" ∷ []))) [] ∷ does AdoptionAgency [] ∷ does DropFound [] ∷ listing_acts

-- `<a>` where no `a` is in the list
a_alone : (tag : Tag) (old new : TreeBuilder) → PerformsFor Name.A tag listing old new → ProcessesStartWhere lists_no_a InBody Name.A tag old new Next.Done
a_alone tag old new rule starts within b none current stands =
    started_by Group.A Name.A tag b new listing_acts refl current starts (a_row b ∙ ap (λ x. acts_by x a_acts) (not_true _ none)) refl
    (rule starts within b current stands)

-- `<a>` where one is
a_again : (tag : Tag) (old mid new : TreeBuilder) → RemembersLimits mid new → ActsWhere drops_a Name.A tag dropping_a old mid →
    PerformsFor Name.A tag listing mid new → ProcessesStartWhere drops_a InBody Name.A tag old new Next.Done
a_again tag old mid new remembers drops rule starts within b test current stands =
    let parts = both (holds (Listed (These (codes "a" ∷ []))) b) _ test in
    started_by Group.A Name.A tag b new a_acts refl current starts (a_row b ∙ ap (λ x. acts_by x a_acts) parts.0) refl
    (rule starts within (acted dropping_a b) (dropped_current tag b current) (drops starts (remembers within) b test current stands))

pub a_started : (tag : Tag) (old mid new : TreeBuilder) (next : Next) → next ≡ Next.Done → RemembersLimits mid new → StaysWhere lists_no_a old mid →
    ActsWhere drops_a Name.A tag dropping_a old mid → PerformsFor Name.A tag listing mid new →
    ProcessesStartWhere starts_a InBody Name.A tag old new next
a_started tag old mid new next done remembers stays drops rule starts within b test current stands = elim (either (lists_no_a b) (drops_a b) test) [
  | inl none ↦ subst (λ (n : Next). Outcome InBody b new n) (sym done)
      (a_alone tag mid new rule starts within b none current (subst (λ (s : TreeBuilder). Constructs s b) (sym (stays b none stands)) stands))
  | inr drop ↦ subst (λ (n : Next). Outcome InBody b new n) (sym done) (a_again tag old mid new remembers drops rule starts within b drop current stands)
]

nobr_row : (b : Building) → choice b (body_rules_for (example_of Group.Nobr)) ≡
    does ReconstructFormatting [] ∷ does AdoptionAgency (is (InScope Scope (These (codes "nobr" ∷ []))) ∷ []) ∷ listing_acts
unfolding rules
nobr_row b = refl

-- `<nobr>`
pub nobr_started : (tag : Tag) (old again mid new : TreeBuilder) (next : Next) → next ≡ Next.Done → RemembersLimits again mid → RemembersLimits mid new →
    Performs (ReconstructFormatting ∷ []) old again → ActsWhere closes_nobr Name.Nobr tag closing_nobr again mid →
    PerformsFor Name.Nobr tag listing mid new → ProcessesStartWhere starts_nobr InBody Name.Nobr tag old new next
nobr_started tag old again mid new next done first later reconstructs closes rule starts within b test current stands =
    let c : Building = perform ReconstructFormatting b in
    let here : IsCurrentTag Name.Nobr tag c = current_kept ReconstructFormatting refl Name.Nobr tag b current in
    let again_stands : Constructs again c = reconstructs (first (later within)) b stands in
    let closed : Constructs mid (acted closing_nobr c) = closes starts (later within) c test here again_stands in
    subst (λ (n : Next). Outcome InBody b new n) (sym done)
    (started_by Group.Nobr Name.Nobr tag b new _ refl current starts (nobr_row b) refl
    (rule starts within (acted closing_nobr c) (closed_current tag c here) closed))

-- ---- the adoption agency algorithm is run for a tag

-- it handles the tag
pub adopted_for_tag : (name : Name) (old new : TreeBuilder) (tree : TreeState) → new ≡ record old { tree = tree } → AdoptsBy adoption name old.placing.foster old.tree tree true → AdoptsFor name old new
unfolding perform
adopted_for_tag name old new tree e adopts within b well own c =
    let is = adopts b.tree well c.foster c.tree in
    subst (λ written. Constructs new (with_tree b (adoption written b.tree)) × LeadsTo b.tree (adoption written b.tree) new.tree) (sym own)
    (subst (λ (t : GrowingTree). Constructs new (with_tree b t) × LeadsTo b.tree t new.tree) (sym is.result) (
      moved old new tree old.fault old.too_deep e b is.after c is.leads.built is.leads.alike.fosters,
      subst (LeadsTo b.tree is.after) (sym (ap (λ (s : TreeBuilder). s.tree) e)) is.leads,
    ))

-- the state once elements are popped, or not
closed_leads : (x : Bool) (t u : GrowingTree) (stack : List ℕ) (mid left : TreeState) → LeadsTo t u mid → (let v : GrowingTree = elim x [ true ↦ record u { stack = stack } | false ↦ u ] in
    Builds left v → LeadsTo t v left)
closed_leads true t u stack mid left leads built =
    record { built = built; well = leads.well; alike = record { fosters = leads.alike.fosters; found = leads.alike.found; stands = leads.alike.stands } }
closed_leads false t u stack mid left leads built = record { built = built; well = leads.well; alike = leads.alike }

-- the tag is processed like any other end tag
pub other_adopted : (name : Name) (old new : TreeBuilder) (tree left : TreeState) → new ≡ record old { tree = left } → AdoptsBy adoption name old.placing.foster old.tree tree false →
    Does (closed_before is_special_node (text_of name ∷ [])) tree left → AdoptsFor name old new
unfolding perform
other_adopted name old new tree left e adopts closes within b well own c =
    let names : List (List ℕ) = text_of name ∷ [] in
    let is = adopts b.tree well c.foster c.tree in
    let after : GrowingTree = closed_before is_special_node names is.after in
    let same : adoption (text_of name) b.tree ≡ after = is.result ∙ any_other_is (text_of name) is.after in
    let leads : LeadsTo b.tree after left =
    closed_leads (in_scope (is_one is.after names) (is_special_node is.after) is.after.stack) b.tree is.after (popped_until names is.after).stack tree left is.leads (closes is.after is.leads.built) in
    subst (λ written. Constructs new (with_tree b (adoption written b.tree)) × LeadsTo b.tree (adoption written b.tree) new.tree) (sym own)
    (subst (λ (t : GrowingTree). Constructs new (with_tree b t) × LeadsTo b.tree t new.tree) (sym same) (
      moved old new left old.fault old.too_deep e b after c leads.built leads.alike.fosters,
      subst (LeadsTo b.tree after) (sym (ap (λ (s : TreeBuilder). s.tree) e)) leads,
    ))

no_memory : (f : Option PageFault) (fault : PageFault) → first_fault f (Err fault) ≡ None → ⊥
no_memory None fault e = cc
no_memory (Some one) fault e = cc

pub adopted_in_vain : (name : Name) (old new : TreeBuilder) (f : Option PageFault) (fault : PageFault) → new.fault ≡ first_fault f (Err fault) → AdoptsFor name old new
adopted_in_vain name old new f fault e within b well own c = absurd (no_memory f fault (sym e ∙ within.fault))

pub fault_kept : (old new : TreeBuilder) (fault : PageFault) (tree : TreeState) → new ≡ record (record old { tree = tree }) { fault = first_fault old.fault (Err fault) } → RemembersLimits old new
fault_kept old new fault tree e =
    limits_kept old new new (Err fault) (ap (λ (s : TreeBuilder). s.fault) e) (ap (λ (s : TreeBuilder). s.too_deep) e) refl (λ h. h)

-- ---- end tags

b_row : (b : Building) → choice b (end_rules_for Name.B) ≡ does AdoptionAgency [] ∷ []
unfolding rules
b_row b = refl

pub formats_known : (name : Name) (group : Group) → group_named name ≡ group → formats group ≡ true → is_name name Name.Other ≡ false
formats_known name Group.A e h = known_group name Group.A e refl
formats_known name Group.Formatting e h = known_group name Group.Formatting e refl
formats_known name Group.Nobr e h = known_group name Group.Nobr e refl
formats_known name _ e h = absurd (true≢false (sym h))

ended : (group : Group) (name : Name) (tag : Tag) (b : Building) (new : TreeBuilder) → formats group ≡ true → group_named name ≡ group → IsCurrentTag name tag b →
    is_start_kind tag.kind ≡ false → Constructs new (perform AdoptionAgency b) → Outcome InBody b new Next.Done
ended Group.A name tag b new h e current ends stands = outcome_of_acts InBody b new (does AdoptionAgency [] ∷ []) refl (group_end Group.A name tag b e current ends ∙ b_row b) stands
ended Group.Formatting name tag b new h e current ends stands = outcome_of_acts InBody b new (does AdoptionAgency [] ∷ []) refl (group_end Group.Formatting name tag b e current ends ∙ b_row b) stands
ended Group.Nobr name tag b new h e current ends stands = outcome_of_acts InBody b new (does AdoptionAgency [] ∷ []) refl (group_end Group.Nobr name tag b e current ends ∙ b_row b) stands
ended _ name tag b new h e current ends stands = absurd (true≢false (sym h))

not_other : (name : Name) → is_name name Name.Other ≡ false → name ≡ Name.Other → ⊥
not_other name known e = true≢false (sym (ap (λ (n : Name). is_name n Name.Other) e) ∙ known)

pub formatting_ended : (name : Name) (tag : Tag) (old new : TreeBuilder) → formats (group_named name) ≡ true → (is_name name Name.Other ≡ false → AdoptsFor name old new) →
    ProcessesEndWhere allows_agency InBody name tag old new Next.Done
formatting_ended name tag old new h adopts ends within b well current stands =
    let known = formats_known name (group_named name) refl h in
    let own : own_name b.token ≡ text_of name = own_of_end name tag b current ends (not_other name known) in
    ended (group_named name) name tag b new h refl current ends
    (adopts known within b well own stands).0
