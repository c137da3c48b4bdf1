-- What the state of tree construction stands for after an element is inserted.
use Rattle.std.proofs.Common.{◌≡◌, ◌≤◌, ℕ, Bool, true, false, List, [], ◌∷◌, refl, sym, ap, subst, ◌∙◌, codes, length, map, reverse, suc, true≢false}
use lib.Utf8.{encode}
use Rattle.std.specs.Char.{to_ascii_lowercase}
use Rattle.std.specs.Prelude.{None, OnOk, Option, Some, Result, encode_utf8_all, string_bytes}
use Rattle.standard_tokens.specs.Entries.{Ending, Starting}
use Rattle.standard_tokens.specs.Machine.{Tag as StandardTag, distinct, token_of}
use Rattle.standard_tokens.specs.Tokens.{AStart, AnEnd}
use Rattle.standard_trees.specs.Building.{Building, own_name, perform, token_attrs, with_tree}
use Rattle.standard_trees.specs.GrowingTree.{GrowingTree, created, current, fresh, inserted_at, is_among, is_one, is_template, lower, place}
use Rattle.standard_trees.specs.RuleWords.{InsertElement, InsertNamed, InsertRootElement, SetHeadPointer}
use Rattle.standard_trees.specs.TreeStore.{ContentsNode, ElementNode, EndOf, Html, NodeAttr, Place, Space}
use Rattle.page_tokens.specs.Standard.{kind_of}
use Rattle.page_tokens.specs.declared.token.Tag.{Tag}
use Rattle.page_tokens.specs.declared.token.TagKind.{TagKind}
use Rattle.page_trees.specs.Constructs.{Constructs, IsCurrentTag, Performs, PerformsFor, RemembersLimits, WithinLimits}
use Rattle.page_trees.specs.Constructs.{first_fault, implying}
use Rattle.page_trees.specs.Modes.{is_start_kind}
use Rattle.page_trees.specs.Names.{html_rows, rare_rows, text_of}
use Rattle.page_trees.specs.Stands.{Builds, Does, DoesIn, IsTagName, IsTagOf, inserted_in, place_for, with_head}
use Rattle.page_trees.specs.TreeState.{TreeState}
use Rattle.page_trees.specs.TagInsertions.{InsertsTag, InsertsTagAt}
use Rattle.page_trees.specs.declared.builder.TreeBuilder.{TreeBuilder}
use Rattle.page_trees.specs.declared.fault.PageFault.{PageFault}
use Rattle.page_trees.specs.declared.growing.placing.Placing.{Placing}
use Rattle.page_trees.specs.declared.name.Name.{Name}
use Rattle.page_trees.specs.declared.stack.ElementNamespace.{ElementNamespace}
use Rattle.page_trees.proofs.BuilderSteps.{moved, limits_kept, was_ok}
use Rattle.page_trees.proofs.NamesAgree.{again}
use Rattle.page_trees.proofs.TagKinds.{implied_tag, inserted_one, token_tag}
use Rattle.page_trees.proofs.RulesTaken.{among}
use Rattle.page_trees.proofs.StandingNames.{are_known}

-- ---- an element is inserted

keeps_fostering : (spot : Place) (space : Space) (name : List ℕ) (attrs : List NodeAttr) (t : GrowingTree) → (inserted_at spot space name attrs t).fostering ≡ t.fostering
keeps_fostering spot space name attrs t = by (is_template space name)
  where
    by : (x : Bool) → (let made : GrowingTree = elim x [
      | true ↦ created ContentsNode (created (ElementNode space name attrs (Some (suc (fresh t)))) t)
      | false ↦ created (ElementNode space name attrs None) t
    ] in made.fostering) ≡ t.fostering
    by true = refl
    by false = refl

-- the appropriate place is the one that the rules have
here : (placing : Placing) (t : GrowingTree) → placing.in_head ≡ false → place_for placing t ≡ place t
here placing t e = rw e refl

pub element_in : (old new : TreeBuilder) (done : Result Unit PageFault) (tree : TreeState) (deep : Bool) (space : Space) (name : List ℕ) (attrs : List NodeAttr) →
    new ≡ record old { tree = tree; fault = first_fault old.fault done; too_deep = deep } → (deep ≡ false → length tree.stack ≤ old.placing.max_depth) →
    OnOk done (DoesIn old.placing (inserted_in old.placing space name attrs) old.tree tree) → WithinLimits new → (b : Building) → Constructs old b →
    Constructs new (with_tree b (inserted_at (place b.tree) space name attrs b.tree))
element_in old new done tree deep space name attrs e fits does within b c =
    let no : first_fault old.fault done ≡ None = sym (ap (λ (s : TreeBuilder). s.fault) e) ∙ within.fault in
    let low : deep ≡ false = sym (ap (λ (s : TreeBuilder). s.too_deep) e) ∙ within.depth in
    let built = was_ok old.fault done (DoesIn old.placing (inserted_in old.placing space name attrs) old.tree tree) no does (fits low) b.tree c.foster c.tree in
    let put : Builds tree (inserted_at (place b.tree) space name attrs b.tree) =
    subst (λ (spot : Place). Builds tree (inserted_at spot space name attrs b.tree)) (here old.placing b.tree c.in_head) built in
    moved old new tree (first_fault old.fault done) deep e b _ c put (keeps_fostering (place b.tree) space name attrs b.tree)

pub element_at : (old new : TreeBuilder) (done : Result Unit PageFault) (tree : TreeState) (deep : Bool) (spot : Place) (space : Space) (name : List ℕ) (attrs : List NodeAttr) →
    new ≡ record old { tree = tree; fault = first_fault old.fault done; too_deep = deep } →
    OnOk done (Does (inserted_at spot space name attrs) old.tree tree) → WithinLimits new → (b : Building) → Constructs old b →
    Constructs new (with_tree b (inserted_at spot space name attrs b.tree))
element_at old new done tree deep spot space name attrs e does within b c =
    let no : first_fault old.fault done ≡ None = sym (ap (λ (s : TreeBuilder). s.fault) e) ∙ within.fault in
    let put : Builds tree (inserted_at spot space name attrs b.tree) =
    was_ok old.fault done (Does (inserted_at spot space name attrs) old.tree tree) no does b.tree c.tree in
    moved old new tree (first_fault old.fault done) deep e b _ c put (keeps_fostering spot space name attrs b.tree)

-- the same where the fault is kept first, and the depth is noted then
abbrev pub Noted : TreeBuilder → TreeBuilder → Type 0
Noted kept new = (new ≡ record kept { too_deep = new.too_deep }) × (new.too_deep ≡ false → kept.too_deep ≡ false)
    × (new.too_deep ≡ false → length kept.tree.stack ≤ kept.placing.max_depth)

pub noted_limits : (old kept new : TreeBuilder) (done : Result Unit PageFault) (tree : TreeState) → kept ≡ record old { tree = tree; fault = first_fault old.fault done } →
    Noted kept new → RemembersLimits old new
noted_limits old kept new done tree e n =
    limits_kept old kept new done (ap (λ (s : TreeBuilder). s.fault) e) (ap (λ (s : TreeBuilder). s.too_deep) e) (ap (λ (s : TreeBuilder). s.fault) n.0) n.1

joined : (old kept new : TreeBuilder) (tree : TreeState) (fault : Option PageFault) → kept ≡ record old { tree = tree; fault = fault } → new ≡ record kept { too_deep = new.too_deep } →
    new ≡ record old { tree = tree; fault = fault; too_deep = new.too_deep }
joined old kept new tree fault e f = f ∙ ap (λ (s : TreeBuilder). record s { too_deep = new.too_deep }) e

pub noted_element : (old kept new : TreeBuilder) (done : Result Unit PageFault) (tree : TreeState) (space : Space) (name : List ℕ) (attrs : List NodeAttr) →
    kept ≡ record old { tree = tree; fault = first_fault old.fault done } → Noted kept new →
    OnOk done (DoesIn old.placing (inserted_in old.placing space name attrs) old.tree tree) → WithinLimits new → (b : Building) → Constructs old b →
    Constructs new (with_tree b (inserted_at (place b.tree) space name attrs b.tree))
noted_element old kept new done tree space name attrs e n does within b c =
    element_in old new done tree new.too_deep space name attrs (joined old kept new tree (first_fault old.fault done) e n.0)
    (λ h. subst (λ (s : TreeBuilder). length s.tree.stack ≤ s.placing.max_depth) e (n.2 h)) does within b c

pub noted_root : (old kept new : TreeBuilder) (done : Result Unit PageFault) (tree : TreeState) (name : List ℕ) (attrs : List NodeAttr) →
    kept ≡ record old { tree = tree; fault = first_fault old.fault done } → Noted kept new →
    OnOk done (Does (inserted_at (EndOf 0) Html name attrs) old.tree tree) → WithinLimits new → (b : Building) → Constructs old b →
    Constructs new (with_tree b (inserted_at (EndOf 0) Html name attrs b.tree))
noted_root old kept new done tree name attrs e n does within b c =
    element_at old new done tree new.too_deep (EndOf 0) Html name attrs (joined old kept new tree (first_fault old.fault done) e n.0) does within b c

-- ---- the element of a tag

starts : (k : TagKind) → is_start_kind k ≡ true → kind_of k ≡ Starting
starts TagKind.Start h = refl
starts TagKind.End h = absurd (true≢false (sym h))

own : (standard : StandardTag) → standard.kind ≡ Starting → own_name (token_of standard) ≡ standard.name
own standard e =
    ap (λ k. own_name (elim k [ Starting ↦ AStart standard.name (distinct (reverse standard.attrs)) standard.self_closing | Ending ↦ AnEnd standard.name ])) e

-- the current start tag makes this element
pub current_element : (name : Name) (tag : Tag) (b : Building) → is_start_kind tag.kind ≡ true → IsCurrentTag name tag b →
    IsTagOf ElementNamespace.Html name tag (own_name b.token) b.attrs
current_element name tag b h c =
    let kind : c.standard.kind ≡ Starting = sym c.is.kind ∙ starts tag.kind h in
    let attrs : token_attrs (token_of c.standard) ≡ b.attrs = sym (c.attrs ∙ ap token_attrs c.token) in
    let named : c.standard.name ≡ own_name b.token = sym (ap own_name c.token ∙ own c.standard kind) in
    subst (λ written. IsTagOf ElementNamespace.Html name tag written b.attrs) named
    (subst (IsTagOf ElementNamespace.Html name tag c.standard.name) attrs (token_tag c.standard name tag c.is c.written c.named kind))

pub element_of_tag : (name : Name) (tag : Tag) (old new : TreeBuilder) → InsertsTag ElementNamespace.Html name tag old new → PerformsFor name tag (InsertElement ∷ []) old new
unfolding perform
element_of_tag name tag old new inserts start within b current c = inserts (own_name b.token) b.attrs (current_element name tag b start current) within b c

pub root_of_tag : (tag : Tag) (old new : TreeBuilder) → InsertsTagAt (λ t. EndOf 0) ElementNamespace.Html Name.Html tag old new →
    PerformsFor Name.Html tag (InsertRootElement ∷ []) old new
unfolding perform
root_of_tag tag old new inserts start within b current c = inserts (own_name b.token) b.attrs (current_element Name.Html tag b start current) within b c

-- ---- an element for which there is no tag

plain_name : (name : Name) → IsTagName (text_of name)
plain_name Name.A = record { lower_case = refl; unspaced = refl }
plain_name _ = record { lower_case = refl; unspaced = refl }

plain_bytes : (name : Name) → encode_utf8_all (text_of name) ≡ text_of name
unfolding encode
plain_bytes Name.A = refl
plain_bytes _ = refl

-- the tag that is made for the element
pub implied : (name : Name) (tag : Tag) (text : List ℕ) → text ≡ text_of name → string_bytes tag.name ≡ map to_ascii_lowercase text → tag.attrs.items ≡ [] →
    IsTagOf ElementNamespace.Html name tag (text_of name) []
implied name tag text e spelt none =
    implied_tag name tag (text_of name) (plain_name name) (sym (again name))
    (spelt ∙ ap lower e ∙ (plain_name name).lower_case ∙ sym (plain_bytes name)) none

pub implied_root : (tag : Tag) (old new : TreeBuilder) → InsertsTagAt (λ t. EndOf 0) ElementNamespace.Html Name.Html tag old new →
    IsTagOf ElementNamespace.Html Name.Html tag (codes "html") [] → Performs (implying Name.Html ∷ []) old new
unfolding perform
implied_root tag old new inserts is within b c = inserts (codes "html") [] is within b c

pub implied_element : (name : Name) (tag : Tag) (old new : TreeBuilder) → (name ≡ Name.Html → ⊥) → InsertsTag ElementNamespace.Html name tag old new →
    IsTagOf ElementNamespace.Html name tag (text_of name) [] → Performs (implying name ∷ []) old new
unfolding perform
implied_element Name.Html tag old new other inserts is within b c = absurd (other refl)
implied_element Name.A tag old new other inserts is within b c = inserts (text_of Name.A) [] is within b c
implied_element name tag old new other inserts is within b c = inserts (text_of name) [] is within b c

-- ---- the head element pointer

-- "set the head element pointer to the newly created element"
head_set : (old : TreeBuilder) (tree : TreeState) → ((t : GrowingTree) → is_one t (codes "head" ∷ []) (current t) ≡ true → Builds old.tree t → Builds tree (with_head t)) →
    (b : Building) → is_one b.tree (codes "head" ∷ []) (current b.tree) ≡ true → Constructs old b → Constructs (record old { tree = tree }) (perform SetHeadPointer b)
unfolding perform
head_set old tree sets b is c = moved old (record old { tree = tree }) tree old.fault old.too_deep refl b (with_head b.tree) c (sets b.tree is c.tree) refl

head_known : are_known (codes "head" ∷ []) ≡ true
unfolding html_rows rare_rows
head_known = refl

head_named : (tag : Tag) (b : Building) → is_start_kind tag.kind ≡ true → IsCurrentTag Name.Head tag b → is_among (own_name b.token) (codes "head" ∷ []) ≡ true
head_named tag b h c =
    let kind : c.standard.kind ≡ Starting = sym c.is.kind ∙ starts tag.kind h in
    ap (λ written. is_among written (codes "head" ∷ [])) (ap own_name c.token ∙ own c.standard kind)
    ∙ among c.standard.name c.written (codes "head" ∷ []) head_known ∙ ap (λ (n : Name). is_among (text_of n) (codes "head" ∷ [])) (sym c.named)

pub head_of_tag : (tag : Tag) (old : TreeBuilder) (tree : TreeState) (b : Building) → is_start_kind tag.kind ≡ true → IsCurrentTag Name.Head tag b →
    ((t : GrowingTree) → is_one t (codes "head" ∷ []) (current t) ≡ true → Builds old.tree t → Builds tree (with_head t)) →
    Constructs old (perform InsertElement b) → Constructs (record old { tree = tree }) (perform SetHeadPointer (perform InsertElement b))
unfolding perform
head_of_tag tag old tree b h current sets c =
    head_set old tree sets (with_tree b (inserted_at (place b.tree) Html (own_name b.token) b.attrs b.tree))
    (inserted_one (codes "head" ∷ []) (place b.tree) Html (own_name b.token) b.attrs b.tree ∙ head_named tag b h current) c

pub implied_head : (old : TreeBuilder) (tree : TreeState) (b : Building) →
    ((t : GrowingTree) → is_one t (codes "head" ∷ []) (current t) ≡ true → Builds old.tree t → Builds tree (with_head t)) →
    Constructs old (perform (InsertNamed (codes "head")) b) → Constructs (record old { tree = tree }) (perform SetHeadPointer (perform (InsertNamed (codes "head")) b))
unfolding perform
implied_head old tree b sets c =
    head_set old tree sets (with_tree b (inserted_at (place b.tree) Html (codes "head") [] b.tree))
    (inserted_one (codes "head" ∷ []) (place b.tree) Html (codes "head") [] b.tree) c
