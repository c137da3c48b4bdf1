-- What the rules for "in body" make of the tags of formatting elements.
use Rattle.std.proofs.Common.{◌≡◌, ℕ, Bool, true, false, not, List, [], ◌∷◌, codes, reverse, refl, sym, ap, ◌∙◌, Option, Some, None, Result, true≢false}
use Rattle.std.specs.Prelude.{OnOk}
use Rattle.standard_tokens.specs.Entries.{Ending, Starting}
use Rattle.standard_tokens.specs.Machine.{Tag as StandardTag, distinct, token_of}
use Rattle.standard_tokens.specs.Tokens.{AStart, AnEnd}
use Rattle.standard_trees.specs.Building.{Building, holds, is_present, own_name, perform, with_tree}
use Rattle.standard_trees.specs.Formatting.{enlisted, last_listed, reconstructed}
use Rattle.standard_trees.specs.GrowingTree.{GrowingTree, current, inserted_at, is_among, place}
use Rattle.standard_trees.specs.GrowingTree.{is_one as is_one_of}
use Rattle.standard_trees.specs.RuleWords.{Action, InsertElement, ListElement, Listed, ReconstructFormatting, These}
use Rattle.standard_trees.specs.TreeStore.{Html}
use Rattle.page_tokens.specs.Standard.{kind_of}
use Rattle.page_tokens.specs.declared.token.Tag.{Tag}
use Rattle.page_tokens.specs.declared.token.TagKind.{TagKind}
use Rattle.page_trees.specs.Constructs.{Constructs, IsCurrentTag, RemembersLimits, WithinLimits, all_performed, first_fault}
use Rattle.page_trees.specs.Listing.{Enlists, FindsListed, is_formatting_name, lists_no_a}
use Rattle.page_trees.specs.Modes.{is_start_kind}
use Rattle.page_trees.specs.Names.{html_rows, rare_rows, text_of}
use Rattle.page_trees.specs.Stands.{Builds, formatting_names}
use Rattle.page_trees.specs.TreeState.{TreeState}
use Rattle.page_trees.specs.declared.builder.TreeBuilder.{TreeBuilder}
use Rattle.page_trees.specs.declared.fault.PageFault.{PageFault}
use Rattle.page_trees.specs.declared.name.Name.{Name}
use Rattle.page_trees.specs.declared.stack.Open.{Open}
use Rattle.page_trees.proofs.BuilderSteps.{limits_kept, moved, was_ok}
use Rattle.page_trees.proofs.RulesTaken.{among}
use Rattle.page_trees.proofs.StandingNames.{are_known}
use Rattle.page_trees.proofs.TagKinds.{inserted_one}

-- ---- the name of the tag

starts : (k : TagKind) → is_start_kind k ≡ true → kind_of k ≡ Starting
starts TagKind.Start h = refl
starts TagKind.End h = absurd (true≢false (sym h))

own : (standard : StandardTag) → standard.kind ≡ Starting → own_name (token_of standard) ≡ standard.name
own standard e =
    ap (λ k. own_name (elim k [ Starting ↦ AStart standard.name (distinct (reverse standard.attrs)) standard.self_closing | Ending ↦ AnEnd standard.name ])) e

pub name_among : (name : Name) (tag : Tag) (b : Building) (names : List (List ℕ)) → are_known names ≡ true → is_start_kind tag.kind ≡ true → IsCurrentTag name tag b →
    is_among (own_name b.token) names ≡ is_among (text_of name) names
name_among name tag b names known h c =
    let kind : c.standard.kind ≡ Starting = sym c.is.kind ∙ starts tag.kind h in
    ap (λ written. is_among written names) (ap own_name c.token ∙ own c.standard kind)
    ∙ among c.standard.name c.written names known ∙ ap (λ (n : Name). is_among (text_of n) names) (sym c.named)

formatting_known : are_known formatting_names ≡ true
unfolding html_rows rare_rows
formatting_known = refl

-- ---- "reconstruct the active formatting elements, insert an HTML element for the token, push it onto the list"

abbrev pub listing : List Action
listing = ReconstructFormatting ∷ InsertElement ∷ ListElement ∷ []

pub element_listed : (name : Name) (tag : Tag) (b : Building) (old new : TreeBuilder) (done : Result Unit PageFault) (tree : TreeState) →
    new ≡ record old { tree = tree; fault = first_fault old.fault done } → OnOk done (Enlists old.tree tree) → is_formatting_name name ≡ true → is_start_kind tag.kind ≡ true →
    WithinLimits new → IsCurrentTag name tag b → Constructs old (all_performed (ReconstructFormatting ∷ InsertElement ∷ []) b) →
    Constructs new (all_performed listing b)
unfolding perform
element_listed name tag b old new done tree e does formats start within now c =
    let r : GrowingTree = reconstructed b.tree in
    let made : GrowingTree = inserted_at (place r) Html (own_name b.token) b.attrs r in
    let no : first_fault old.fault done ≡ None = sym (ap (λ (s : TreeBuilder). s.fault) e) ∙ within.fault in
    let named : is_one_of made formatting_names (current made) ≡ true =
    inserted_one formatting_names (place r) Html (own_name b.token) b.attrs r ∙ name_among name tag b formatting_names formatting_known start now ∙ formats in
    let built : Builds tree (enlisted made) = was_ok old.fault done (Enlists old.tree tree) no does made named c.tree in
    moved old new tree (first_fault old.fault done) old.too_deep e (with_tree b made) (enlisted made) c built refl

pub listed_limits : (before old new : TreeBuilder) (done : Result Unit PageFault) (tree : TreeState) → new ≡ record old { tree = tree; fault = first_fault old.fault done } →
    RemembersLimits before old → RemembersLimits before new
listed_limits before old new done tree e first within =
    first (limits_kept old new new done (ap (λ (s : TreeBuilder). s.fault) e) (ap (λ (s : TreeBuilder). s.too_deep) e) refl (λ h. h) within)

-- ---- `<a>` where no `a` is in the list

not_both : (a : Bool) → not a ≡ true → a ≡ true → ⊥
not_both true e f = true≢false (sym e)
not_both false e f = true≢false (sym f)

present : (o : Option ℕ) (n : ℕ) → Some n ≡ o → is_present o ≡ true
present None n e = cc
present (Some m) n e = refl

-- an `a` that is found is in the list
pub none_to_drop : (old : TreeBuilder) (o : Open) (b : Building) → FindsListed Name.A old.tree (Some o) → lists_no_a b ≡ true → Constructs old b → ⊥
none_to_drop old o b finds test c =
    not_both (holds (Listed (These (codes "a" ∷ []))) b) test (present (last_listed b.tree (codes "a" ∷ []) b.tree.listed) o.id (finds b.tree c.tree))
