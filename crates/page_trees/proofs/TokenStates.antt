-- What the state of tree construction stands for once a token begins, and after a comment or a doctype is inserted.
use Rattle.std.proofs.Common.{◌≡◌, ℕ, false, List, [], ◌∷◌, refl, sym, ap, subst, ◌∙◌, true≢false}
use Rattle.std.specs.Prelude.{None, OnOk, Option, Result}
use Rattle.standard_tokens.specs.Tokens.{AComment, ADoctype, Doctype as StandardDoctype, Token}
use Rattle.standard_trees.specs.Building.{Building, NoQuirks, QuirksMode as StandardQuirks, comment_of, perform, quirks_of, with_doctype, with_next, with_tree}
use Rattle.standard_trees.specs.GrowingTree.{GrowingTree, created_at, place, topmost, with_comment}
use Rattle.standard_trees.specs.RuleWords.{AppendDoctype, BeforeHtml, InsertComment, InsertCommentInDocument, SetQuirksByDoctype, SwitchTo}
use Rattle.standard_trees.specs.TreeStore.{DoctypeNode, EndOf, Place}
use Rattle.dom_trees.specs.declared.quirks.QuirksMode.{QuirksMode}
use Rattle.page_trees.specs.Constructs.{Constructs, RemembersLimits, WithinLimits, first_fault}
use Rattle.page_trees.specs.LateMerges.{CommentsInHtml}
use Rattle.page_trees.specs.Quirks.{mode_of as mode_for}
use Rattle.page_trees.specs.Stands.{Builds, Does, DoesAtAnyDepth, place_for}
use Rattle.page_trees.specs.TokenSteps.{PerformsOn, PutsInHtml, is_initial, keeps_characters}
use Rattle.page_trees.specs.TreeState.{TreeState}
use Rattle.page_trees.specs.declared.builder.Mode.{Mode}
use Rattle.page_trees.specs.declared.builder.TreeBuilder.{TreeBuilder}
use Rattle.page_trees.specs.declared.fault.PageFault.{PageFault}
use Rattle.page_trees.specs.declared.growing.placing.Placing.{Placing}
use Rattle.page_trees.proofs.BuilderSteps.{limits_kept, moved, was_ok}

-- ---- a token begins

pub begun : (old new : TreeBuilder) (token : Token) → new ≡ record old { skip_line_feed = false } → old.switch ≡ None → (b : Building) → Constructs old b →
    Constructs new (with_next token b)
begun old new token e quiet b c = subst (λ (s : TreeBuilder). Constructs s (with_next token b)) (sym e) (record {
  tree = c.tree;
  foster = c.foster;
  in_head = c.in_head;
  mode = c.mode;
  original = c.original;
  template_modes = c.template_modes;
  frameset_ok = c.frameset_ok;
  scripting = c.scripting;
  quirks = c.quirks;
  unread = c.unread;
  pending = c.pending;
  skip = refl;
  tokenizer = sym quiet;
})

pub begun_limits : (old new : TreeBuilder) → new ≡ record old { skip_line_feed = false } → WithinLimits new → WithinLimits old
begun_limits old new e within = record {
  fault = sym (ap (λ (s : TreeBuilder). s.fault) e) ∙ within.fault;
  depth = sym (ap (λ (s : TreeBuilder). s.too_deep) e) ∙ within.depth;
}

-- ---- an edit of the tree

-- the edit did not fail
unbroken : (old new : TreeBuilder) (tree : TreeState) (done : Result Unit PageFault) → new ≡ record old { tree = tree; fault = first_fault old.fault done } → WithinLimits new →
    first_fault old.fault done ≡ None
unbroken old new tree done e within = sym (ap (λ (s : TreeBuilder). s.fault) e) ∙ within.fault

pub edit_limits : (old new : TreeBuilder) (tree : TreeState) (done : Result Unit PageFault) → new ≡ record old { tree = tree; fault = first_fault old.fault done } → RemembersLimits old new
edit_limits old new tree done e =
    limits_kept old new new done (ap (λ (s : TreeBuilder). s.fault) e) (ap (λ (s : TreeBuilder). s.too_deep) e) refl (λ h. h)

-- the appropriate place is the one that the rules have
at_place : (placing : Placing) (t : GrowingTree) → placing.in_head ≡ false → place_for placing t ≡ place t
at_place placing t e = rw e refl

-- ---- comments

comment_put : (old new : TreeBuilder) (tree : TreeState) (fault : Option PageFault) (spot : Place) (cs : List ℕ) → new ≡ record old { tree = tree; fault = fault } → (b : Building) →
    b.token ≡ AComment cs → Constructs old b → Builds tree (with_comment cs spot b.tree) → Constructs new (with_tree b (with_comment (comment_of b.token) spot b.tree))
comment_put old new tree fault spot cs e b token c built =
    subst (λ (t : Token). Constructs new (with_tree b (with_comment (comment_of t) spot b.tree))) (sym token)
    (moved old new tree fault old.too_deep e b (with_comment cs spot b.tree) c built refl)

pub comment_here : (old new : TreeBuilder) (tree : TreeState) (done : Result Unit PageFault) (cs : List ℕ) → new ≡ record old { tree = tree; fault = first_fault old.fault done } →
    OnOk done (DoesAtAnyDepth old.placing (λ t. with_comment cs (place_for old.placing t) t) old.tree tree) → PerformsOn (AComment cs) (InsertComment ∷ []) old new
unfolding perform
comment_here old new tree done cs e does within b token c =
    let step : GrowingTree → GrowingTree = λ t. with_comment cs (place_for old.placing t) t in
    let built = was_ok old.fault done (DoesAtAnyDepth old.placing step old.tree tree) (unbroken old new tree done e within) does b.tree c.foster c.tree in
    comment_put old new tree (first_fault old.fault done) (place b.tree) cs e b token c
    (subst (λ (spot : Place). Builds tree (with_comment cs spot b.tree)) (at_place old.placing b.tree c.in_head) built)

pub comment_at_top : (old new : TreeBuilder) (tree : TreeState) (done : Result Unit PageFault) (cs : List ℕ) → new ≡ record old { tree = tree; fault = first_fault old.fault done } →
    OnOk done (Does (with_comment cs (EndOf 0)) old.tree tree) → PerformsOn (AComment cs) (InsertCommentInDocument ∷ []) old new
unfolding perform
comment_at_top old new tree done cs e does within b token c =
    comment_put old new tree (first_fault old.fault done) (EndOf 0) cs e b token c
    (was_ok old.fault done (Does (with_comment cs (EndOf 0)) old.tree tree) (unbroken old new tree done e within) does b.tree c.tree)

pub comment_in_html : (old new : TreeBuilder) (tree : TreeState) (done : Result Unit PageFault) (cs : List ℕ) → new ≡ record old { tree = tree; fault = first_fault old.fault done } →
    OnOk done (CommentsInHtml cs old.tree tree) → PutsInHtml cs old new
unfolding perform
comment_in_html old new tree done cs e does within b html token c =
    comment_put old new tree (first_fault old.fault done) (EndOf (topmost b.tree.stack)) cs e b token c
    (was_ok old.fault done (CommentsInHtml cs old.tree tree) (unbroken old new tree done e within) does b.tree html c.tree)

-- ---- doctypes

abbrev begun_page : StandardDoctype → Building → Building
begun_page d b = record b { tree = created_at (EndOf 0) (DoctypeNode d) b.tree; quirks = quirks_of (ADoctype d) NoQuirks; mode = BeforeHtml }

begun_by : (old new : TreeBuilder) (tree : TreeState) (fault : Option PageFault) (quirks : QuirksMode) (d : StandardDoctype) →
    new ≡ record old { quirks = quirks; mode = Mode.BeforeHtml; tree = tree; fault = fault } → quirks ≡ mode_for (quirks_of (ADoctype d) NoQuirks) → (b : Building) → Constructs old b →
    Builds tree (created_at (EndOf 0) (DoctypeNode d) b.tree) → Constructs new (begun_page d b)
begun_by old new tree fault set d e q b c built = subst (λ (s : TreeBuilder). Constructs s (begun_page d b)) (sym e) (record {
  tree = built;
  foster = c.foster;
  in_head = c.in_head;
  mode = refl;
  original = λ h. absurd (true≢false (sym h));
  template_modes = c.template_modes;
  frameset_ok = c.frameset_ok;
  scripting = c.scripting;
  quirks = sym q;
  unread = λ h. absurd (true≢false (sym (ap is_initial h)));
  pending = λ h. absurd (true≢false (sym (ap keeps_characters h)));
  skip = c.skip;
  tokenizer = c.tokenizer;
})

pub doctype_appended : (old new : TreeBuilder) (tree : TreeState) (done : Result Unit PageFault) (quirks : QuirksMode) (d : StandardDoctype) →
    new ≡ record old { quirks = quirks; mode = Mode.BeforeHtml; tree = tree; fault = first_fault old.fault done } → quirks ≡ mode_for (quirks_of (ADoctype d) NoQuirks) →
    old.mode ≡ Mode.Initial → OnOk done (Does (created_at (EndOf 0) (DoctypeNode d)) old.tree tree) →
    PerformsOn (ADoctype d) (AppendDoctype ∷ SetQuirksByDoctype ∷ SwitchTo BeforeHtml ∷ []) old new
unfolding perform
doctype_appended old new tree done set d e q first does within b token c =
    let no : first_fault old.fault done ≡ None = sym (ap (λ (s : TreeBuilder). s.fault) e) ∙ within.fault in
    let built = was_ok old.fault done (Does (created_at (EndOf 0) (DoctypeNode d)) old.tree tree) no does b.tree c.tree in
    let made = begun_by old new tree (first_fault old.fault done) set d e q b c built in
    let named = subst (λ (t : Token). Constructs new (record b { tree = with_doctype t b.tree; quirks = quirks_of t NoQuirks; mode = BeforeHtml })) (sym token) made in
    subst (λ (was : StandardQuirks). Constructs new (record b { tree = with_doctype b.token b.tree; quirks = quirks_of b.token was; mode = BeforeHtml })) (sym (c.unread first)) named

pub doctype_limits : (old new : TreeBuilder) (tree : TreeState) (done : Result Unit PageFault) (quirks : QuirksMode) (m : Mode) →
    new ≡ record old { quirks = quirks; mode = m; tree = tree; fault = first_fault old.fault done } → RemembersLimits old new
doctype_limits old new tree done set m e =
    limits_kept old new new done (ap (λ (s : TreeBuilder). s.fault) e) (ap (λ (s : TreeBuilder). s.too_deep) e) refl (λ h. h)
