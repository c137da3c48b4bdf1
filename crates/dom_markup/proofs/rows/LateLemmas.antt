-- Texts that get their contents later: the forest may grow and elements get attributes meanwhile.
use Rattle.std.specs.Prelude.{slice_get, IfErr, IfSome, OnErr, OnOk, Result, Ok, Err}
use Rattle.std.proofs.Common.{◌≡◌, ◌<◌, ◌≤◌, ◌+◌, ℕ, zero, suc, List, [], ◌∷◌, ◌++◌, length, take, drop, get_or, refl, sym, ap, ◌∙◌, subst, arith}
use Rattle.std.proofs.lemmas.List.{append_assoc, flat_map_more, length-append, take_more, take-append-drop}
use Rattle.std.proofs.lemmas.List.Concat.{flat_map-append}
use Rattle.std.proofs.Math.Seq.{drop-append_seam, take-append_seam}
use Rattle.dom_nodes.specs.Blocks.{LiesAt}
use Rattle.dom_nodes.specs.Changes.{with_attrs}
use Rattle.dom_nodes.specs.Updates.{edit_of, with_edit}
use Rattle.dom_nodes.specs.declared.fault.EditFault.{EditFault}
use Rattle.dom_nodes.specs.declared.fault.EditFault.TheVariants.{UnknownNode}
use Rattle.dom_nodes.specs.declared.name.Attr.{Attr}
use Rattle.dom_nodes.specs.declared.node_data.NodeData.{NodeData}
use Rattle.dom_nodes.specs.declared.node_data.NodeData.TheVariants.{Element}
use Rattle.dom_nodes.specs.declared.node_data.node_edit.NodeEdit.{NodeEdit}
use Rattle.dom_links.specs.Contents.{changed_at, with_content, IsUpdatedAt}
use Rattle.dom_links.specs.Forest.{Forest}
use Rattle.dom_links.proofs.forest.Changing.{changed-past, keeps_edit}
use Rattle.dom_trees.specs.Refusals.{KnownCause}
use Rattle.dom_markup.specs.DeferredTexts.{AreAmong, joined, with_contents, with_texts}
use Rattle.dom_markup.specs.declared.document.late_texts.Late.{Late}
use Rattle.dom_markup.proofs.rows.LateChanges.{changes_commute, CommutesWithGrowth}

-- the forest may grow while texts wait
pub texts_commute : (ts : List Late) (forest : Forest) → AreAmong (length forest.content) ts → CommutesWithGrowth (with_texts ts) forest
texts_commute ts forest = changes_commute (λ (t : Late). t.number) (λ t. with_contents t.text.now) ts forest (λ t c. keeps_edit (record (edit_of c) { contents = t.text.now }) c)

-- ---- an element gets attributes

contents-attrs : (text : List ℕ) (change : List Attr → List Attr) (c : NodeData) → with_contents text (with_attrs change c) ≡ with_attrs change (with_contents text c)
contents-attrs text change (Element e) = refl
contents-attrs text change c = refl

-- two changes that may be made in either order at one place may be so at any two
changed-swap : (x y : ℕ) (f g : NodeData → NodeData) (content : List NodeData) → ((c : NodeData) → f (g c) ≡ g (f c)) → changed_at x f (changed_at y g content) ≡ changed_at y g (changed_at x f content)
changed-swap x y f g [] same = refl
changed-swap zero zero f g (c ∷ cs) same = ap (λ d. d ∷ cs) (same c)
changed-swap zero (suc y) f g (c ∷ cs) same = refl
changed-swap (suc x) zero f g (c ∷ cs) same = refl
changed-swap (suc x) (suc y) f g (c ∷ cs) same = ap (λ l. c ∷ l) (changed-swap x y f g cs same)

pub attrs-texts : (x : ℕ) (change : List Attr → List Attr) (ts : List Late) (forest : Forest) → with_texts ts (with_content x (with_attrs change) forest) ≡ with_content x (with_attrs change) (with_texts ts forest)
attrs-texts x change [] forest = refl
attrs-texts x change (t ∷ ts) forest =
    ap (λ (content : List NodeData). with_texts ts (record forest { content = content })) (changed-swap t.number x (with_contents t.text.now) (with_attrs change) forest.content (contents-attrs t.text.now change))
    ∙ attrs-texts x change ts (with_content t.number (with_contents t.text.now) forest)

-- ---- the texts get their contents

contents_left : (text : List ℕ) (MayLeave : NodeEdit → NodeEdit → Type 0) (edit : NodeEdit) (content : List NodeData) (x : ℕ) → ((a b : NodeEdit) → MayLeave a b → b ≡ record a { contents = text }) →
    IfSome (slice_get content x) (λ c. MayLeave (edit_of c) edit) → changed_at x (with_edit edit) content ≡ changed_at x (with_contents text) content
contents_left text MayLeave edit [] x leaves left = refl
contents_left text MayLeave edit (c ∷ cs) zero leaves left = ap (λ (e : NodeEdit). with_edit e c ∷ cs) (leaves (edit_of c) edit left)
contents_left text MayLeave edit (c ∷ cs) (suc x) leaves left = ap (λ l. c ∷ l) (contents_left text MayLeave edit cs x leaves left)

unknown : (x : ℕ) (forest : Forest) (fault : EditFault) → KnownCause x forest fault → length forest.content ≤ x
unknown x forest UnknownNode cause = cause
unknown x forest _ cause = absurd cause

-- a node that isn't known stays
pub contents_set : (result : Result Unit EditFault) (x : ℕ) (text : List ℕ) (MayLeave : NodeEdit → NodeEdit → Type 0) (old new : Forest) → ((a b : NodeEdit) → MayLeave a b → b ≡ record a { contents = text }) →
    OnOk result (IsUpdatedAt MayLeave x old new) → OnErr result (new ≡ old) → IfErr result (KnownCause x old) → new ≡ with_content x (with_contents text) old
contents_set (Ok u) x text MayLeave old new leaves ok err cause =
    ok.made ∙ ap (λ (content : List NodeData). record old { content = content }) (contents_left text MayLeave ok.edit old.content x leaves ok.left)
contents_set (Err fault) x text MayLeave old new leaves ok err cause =
    err ∙ ap (λ (content : List NodeData). record old { content = content }) (sym (changed-past (with_contents text) old.content x (unknown x old fault cause)))

-- one text more is joined
joined_more : (ts : List Late) (i : ℕ) (t : Late) → i < length ts → t ≡ get_or ts i t → joined (take (i + 1) ts) ≡ joined (take i ts) ++ t.text.now
joined_more ts i t lt is =
    ap joined (take_more ts i t lt) ∙ sym (flat_map_more (λ (s : Late). s.text.now) [] (take i ts) (get_or ts i t)) ∙ ap (λ (s : Late). joined (take i ts) ++ s.text.now) (sym is)

lies_between : (before text behind : List ℕ) → LiesAt text (length before) (before ++ (text ++ behind))
lies_between before text behind = (
  omega (arith, length-append before (text ++ behind), length-append text behind),
  ap (take (length text)) (drop-append_seam before (text ++ behind)) ∙ take-append_seam text behind,
)

-- each text lies behind those before it
pub lies_joined : (ts : List Late) (i : ℕ) (t : Late) → i < length ts → t ≡ get_or ts i t → LiesAt t.text.now (length (joined (take i ts))) (joined ts)
lies_joined ts i t lt is =
    let behind = joined (drop (i + 1) ts) in
    let parts : joined ts ≡ joined (take i ts) ++ (t.text.now ++ behind) =
    ap joined (sym (take-append-drop (i + 1) ts)) ∙ flat_map-append (λ (s : Late). s.text.now) (take (i + 1) ts) (drop (i + 1) ts) ∙ ap (λ l. l ++ behind) (joined_more ts i t lt is)
    ∙ append_assoc (joined (take i ts)) t.text.now behind in
    subst (LiesAt t.text.now (length (joined (take i ts)))) (sym parts) (lies_between (joined (take i ts)) t.text.now behind)
