-- The attributes of later tags are put into the tree one element after the other.
use Rattle.std.proofs.Common.{◌≡◌, ℕ, suc, zero, ◌+◌, ◌≤◌, ◌==◌, ◌||◌, Bool, true, false, not, List, [], ◌∷◌, ◌++◌, filter, refl, sym, ap, subst, ◌∙◌, Some, arith, inl, inr, true≢false, if◌then◌else◌}
use Rattle.std.specs.Prelude.{◌-◌, Ok, OnOk, Result, slice_get, take}
use Rattle.std.specs.List.{list_any}
use Rattle.std.specs.Option.{option_map_or}
use Rattle.std.proofs.lemmas.Bool.{cases_Bool}
use Rattle.std.proofs.lemmas.Bool.Decides.{eqb_tells}
use Rattle.std.proofs.lemmas.List.{append-nil}
use Rattle.dom_nodes.specs.Attrs.{attrs_in}
use Rattle.dom_nodes.specs.Changes.{has_attr_named, with_attrs as with_changed, with_missing}
use Rattle.dom_nodes.specs.declared.name.Attr.{Attr}
use Rattle.dom_nodes.specs.declared.node_data.NodeData.{NodeData}
use Rattle.dom_nodes.specs.declared.node_data.NodeData.TheVariants.{Comment, Doctype, Document, Element, Fragment, ProcessingInstruction, Text}
use Rattle.dom_links.specs.Contents.{changed_at, with_content}
use Rattle.dom_links.specs.Forest.{Forest}
use Rattle.dom_links.specs.Lists.{map_from}
use Rattle.dom_nodes.specs.declared.fault.EditFault.{EditFault}
use Rattle.dom_trees.specs.Edits.{Edits, TreeEdit}
use Rattle.dom_trees.specs.Views.{node_attrs}
use Rattle.page_trees.specs.TreeState.{Late, added_to, completed, late_of, with_attrs}
use Rattle.page_trees.specs.declared.growing.late.LateAttrs.{LateAttrs}
use Rattle.page_trees.proofs.LateNodes.{no_attrs}
use Rattle.page_trees.proofs.MergedAttrs.{late_for}

-- ---- one node

-- two changes that agree at what they change
changed_alike : (x : ℕ) (g h : NodeData → NodeData) (cs : List NodeData) → ((c : NodeData) → slice_get cs x ≡ Some c → g c ≡ h c) → changed_at x g cs ≡ changed_at x h cs
changed_alike x g h [] same = refl
changed_alike zero g h (c ∷ cs) same = ap (λ d. d ∷ cs) (same c refl)
changed_alike (suc x) g h (c ∷ cs) same = ap (λ ds. c ∷ ds) (changed_alike x g h cs same)

-- a change of what was changed
changed_twice : (x : ℕ) (g h k : NodeData → NodeData) (cs : List NodeData) → ((c : NodeData) → g (h c) ≡ k c) → changed_at x g (changed_at x h cs) ≡ changed_at x k cs
changed_twice x g h k [] same = refl
changed_twice zero g h k (c ∷ cs) same = ap (λ d. d ∷ cs) (same c)
changed_twice (suc x) g h k (c ∷ cs) same = ap (λ ds. c ∷ ds) (changed_twice x g h k cs same)

none_missing : (attrs : List Attr) → filter (λ attr. not (has_attr_named [] attr.name)) attrs ≡ attrs
none_missing [] = refl
none_missing (attr ∷ attrs) = ap (λ rest. attr ∷ rest) (none_missing attrs)

given_anew : (attrs : List Attr) (c : NodeData) → with_changed (with_missing attrs) (with_changed (λ own. []) c) ≡ with_changed (λ own. attrs) c
given_anew attrs (Element element) = ap (λ (given : List Attr). Element (record element { attrs = given })) (none_missing attrs)
given_anew attrs Document = refl
given_anew attrs Fragment = refl
given_anew attrs (Doctype name public_id system_id) = refl
given_anew attrs (Text text) = refl
given_anew attrs (Comment text) = refl
given_anew attrs (ProcessingInstruction name text) = refl

-- an edit that did not fail was made
pub edit_made : (r : Result (Unit {0}) EditFault) (v : Unit {0}) (f g : Forest) (edit : TreeEdit) → r ≡ Ok v → Edits r f g edit → g ≡ edit.after f
edit_made r v f g edit ok edits = subst (λ (one : Result (Unit {0}) EditFault). OnOk one (g ≡ edit.after f)) ok edits.ok

-- an element whose attributes are taken away, and that gets others, has these
attrs_given : (n : ℕ) (attrs : List Attr) (f g h : Forest) → g ≡ with_content n (with_changed (λ own. [])) f → h ≡ with_content n (with_changed (with_missing attrs)) g →
    h ≡ with_content n (with_changed (λ own. attrs)) f
attrs_given n attrs f g h first second =
    second ∙ ap (with_content n (with_changed (with_missing attrs))) first
    ∙ ap (λ (cs : List NodeData). record f { content = cs }) (changed_twice n (with_changed (with_missing attrs)) (with_changed (λ own. [])) (with_changed (λ own. attrs)) f.content (given_anew attrs))

given_more : (own added : List Attr) (c : NodeData) → own ≡ attrs_in c → with_changed (λ old. own ++ added) c ≡ with_attrs added c
given_more own added (Element element) is = ap (λ (given : List Attr). Element (record element { attrs = given ++ added })) is
given_more own added Document is = refl
given_more own added Fragment is = refl
given_more own added (Doctype name public_id system_id) is = refl
given_more own added (Text text) is = refl
given_more own added (Comment text) is = refl
given_more own added (ProcessingInstruction name text) is = refl

-- an element that gets its own attributes and more of them keeps its own, and gets more
pub attrs_added : (n : ℕ) (own added all : List Attr) (f g h : Forest) → own ≡ node_attrs f n → all ≡ own ++ added → g ≡ with_content n (with_changed (λ old. [])) f →
    h ≡ with_content n (with_changed (with_missing all)) g → h ≡ with_content n (with_attrs added) f
attrs_added n own added all f g h first more taken made =
    let is : all ≡ node_attrs f n ++ added = more ∙ ap (λ (attrs : List Attr). attrs ++ added) first in
    attrs_given n all f g h taken made ∙ ap (λ (cs : List NodeData). record f { content = cs })
    (changed_alike n (with_changed (λ own. all)) (with_attrs added) f.content
    (λ c got. ap (λ (given : List Attr). with_changed (λ own. given) c) is ∙ given_more (node_attrs f n) added c (ap (λ o. option_map_or attrs_in o []) got)))

-- ---- all nodes

abbrev dressed : List Late → ℕ → NodeData → NodeData
dressed late n c = with_attrs (added_to late n) c

mapped_alike : (i : ℕ) (f g : ℕ → NodeData → NodeData) (cs : List NodeData) → ((n : ℕ) (c : NodeData) → i ≤ n → f n c ≡ g n c) → map_from i f cs ≡ map_from i g cs
mapped_alike i f g [] same = refl
mapped_alike i f g (c ∷ cs) same =
    ap (λ d. d ∷ map_from (i + 1) f cs) (same i c (omega arith)) ∙ ap (λ ds. g i c ∷ ds) (mapped_alike (i + 1) f g cs (λ n d h. same n d (omega (arith, h))))

mapped_changed : (i x : ℕ) (f g : ℕ → NodeData → NodeData) (h : NodeData → NodeData) (cs : List NodeData) → ((c : NodeData) → f (i + x) c ≡ g (i + x) (h c)) →
    ((n : ℕ) (c : NodeData) → (i + x ≡ n → ⊥) → f n c ≡ g n c) → map_from i f cs ≡ map_from i g (changed_at x h cs)
mapped_changed i x f g h [] here other = refl
mapped_changed i zero f g h (c ∷ cs) here other =
    let at : f i c ≡ g i (h c) = subst_at (omega arith) in
    ap (λ d. d ∷ map_from (i + 1) f cs) at ∙ ap (λ ds. g i (h c) ∷ ds) (mapped_alike (i + 1) f g cs (λ n d le. other n d (λ e. omega (arith, le, e))))
  where
    subst_at : i + 0 ≡ i → f i c ≡ g i (h c)
    subst_at e = sym (ap (λ (k : ℕ). f k c) e) ∙ here c ∙ ap (λ (k : ℕ). g k (h c)) e
mapped_changed i (suc x) f g h (c ∷ cs) here other =
    let moved : (i + 1) + x ≡ i + suc x = omega arith in
    ap (λ d. d ∷ map_from (i + 1) f cs) (other i c (λ e. omega (arith, e)))
    ∙ ap (λ ds. g i c ∷ ds) (mapped_changed (i + 1) x f g h cs
    (λ d. ap (λ (k : ℕ). f k d) moved ∙ here d ∙ sym (ap (λ (k : ℕ). g k (h d)) moved)) (λ n d apart. other n d (λ e. apart (moved ∙ e))))

-- ---- one element more

abbrev has : ℕ → List Late → Bool
has n late = list_any (λ one. one.id == n) late

none_added : (late : List Late) (n : ℕ) → has n late ≡ false → added_to late n ≡ []
none_added [] n none = refl
none_added (one ∷ late) n none = by (one.id == n) none (none_added late n)
  where
    by : (b : Bool) → (b || has n late) ≡ false → (has n late ≡ false → added_to late n ≡ []) → (if b then one.added else added_to late n) ≡ []
    by true h later = absurd (true≢false h)
    by false h later = later h

added_before : (late : List Late) (last : Late) (n : ℕ) → has n late ≡ true → added_to (late ++ last ∷ []) n ≡ added_to late n
added_before [] last n stands = absurd (true≢false (sym stands))
added_before (one ∷ late) last n stands = by (one.id == n) stands (added_before late last n)
  where
    by : (b : Bool) → (b || has n late) ≡ true → (has n late ≡ true → added_to (late ++ last ∷ []) n ≡ added_to late n) →
        (if b then one.added else added_to (late ++ last ∷ []) n) ≡ (if b then one.added else added_to late n)
    by true h later = refl
    by false h later = later h

added_last : (late : List Late) (last : Late) (n : ℕ) → has n late ≡ false → added_to (late ++ last ∷ []) n ≡ added_to (last ∷ []) n
added_last [] last n none = refl
added_last (one ∷ late) last n none = by (one.id == n) none (added_last late last n)
  where
    by : (b : Bool) → (b || has n late) ≡ false → (has n late ≡ false → added_to (late ++ last ∷ []) n ≡ added_to (last ∷ []) n) →
        (if b then one.added else added_to (late ++ last ∷ []) n) ≡ added_to (last ∷ []) n
    by true h later = absurd (true≢false h)
    by false h later = later h

added_here : (last : Late) (n : ℕ) → last.id ≡ n → added_to (last ∷ []) n ≡ last.added
added_here last n e = elim (eqb_tells last.id n) [
  | inl is ↦ ap (λ (b : Bool). (let attrs : List Attr = if b then last.added else [] in attrs)) is.0
  | inr is ↦ absurd (is.1 e)
]

added_else : (last : Late) (n : ℕ) → (last.id ≡ n → ⊥) → added_to (last ∷ []) n ≡ []
added_else last n apart = elim (eqb_tells last.id n) [
  | inl is ↦ absurd (apart is.1)
  | inr is ↦ ap (λ (b : Bool). (let attrs : List Attr = if b then last.added else [] in attrs)) is.0
]

-- an element that stands before in the list counts there alone
skipped : (late : List Late) (last : Late) (f : Forest) → has last.id late ≡ true → completed (late ++ last ∷ []) f ≡ completed late f
unfolding completed
skipped late last f stands =
    ap (λ (cs : List NodeData). record f { content = cs }) (mapped_alike 0 (dressed (late ++ last ∷ [])) (dressed late) f.content (λ n c le. ap (λ attrs. with_attrs attrs c) (same n)))
  where
    same : (n : ℕ) → added_to (late ++ last ∷ []) n ≡ added_to late n
    same n = elim (cases_Bool (has n late)) [
      | inl t ↦ added_before late last n t
      | inr none ↦ added_last late last n none ∙ added_else last n (λ e. true≢false (sym stands ∙ ap (λ (k : ℕ). has k late) e ∙ none)) ∙ sym (none_added late n none)
    ]

-- and another one is completed first
put_first : (late : List Late) (last : Late) (f : Forest) → has last.id late ≡ false → completed (late ++ last ∷ []) f ≡ completed late (with_content last.id (with_attrs last.added) f)
unfolding completed
put_first late last f none =
    ap (λ (cs : List NodeData). record f { content = cs })
    (mapped_changed 0 last.id (dressed (late ++ last ∷ [])) (dressed late) (with_attrs last.added) f.content (λ c. here c (omega arith)) (λ n c apart. other n c (λ e. apart (omega (arith, e)))))
  where
    here : (c : NodeData) → 0 + last.id ≡ last.id → dressed (late ++ last ∷ []) (0 + last.id) c ≡ dressed late (0 + last.id) (with_attrs last.added c)
    here c e =
        ap (λ (k : ℕ). dressed (late ++ last ∷ []) k c) e
        ∙ ap (λ attrs. with_attrs attrs c) (added_last late last last.id none ∙ added_here last last.id refl)
        ∙ sym (no_attrs (with_attrs last.added c))
        ∙ sym (ap (λ attrs. with_attrs attrs (with_attrs last.added c)) (none_added late last.id none))
        ∙ sym (ap (λ (k : ℕ). dressed late k (with_attrs last.added c)) e)

    other : (n : ℕ) (c : NodeData) → (last.id ≡ n → ⊥) → dressed (late ++ last ∷ []) n c ≡ dressed late n c
    other n c apart = elim (cases_Bool (has n late)) [
      | inl t ↦ ap (λ attrs. with_attrs attrs c) (added_before late last n t)
      | inr f ↦ ap (λ attrs. with_attrs attrs c) (added_last late last n f ∙ added_else last n apart ∙ sym (none_added late n f))
    ]

none_late : (i : ℕ) (cs : List NodeData) → map_from i (dressed []) cs ≡ cs
none_late i [] = refl
none_late i (c ∷ cs) = ap (λ d. d ∷ map_from (i + 1) (dressed []) cs) (no_attrs c) ∙ ap (λ ds. c ∷ ds) (none_late (i + 1) cs)

pub nothing_late : (f : Forest) → completed [] f ≡ f
unfolding completed
nothing_late f = ap (λ (cs : List NodeData). record f { content = cs }) (none_late 0 f.content)

-- ---- the list of the code

has_is : (items : List LateAttrs) (n : ℕ) → list_any (λ (late : LateAttrs). late.id == n) items ≡ has n (late_of items)
has_is [] n = refl
has_is (late ∷ items) n = ap (λ b. (late.id == n) || b) (has_is items n)

late_last : (items : List LateAttrs) (late : LateAttrs) → late_of (items ++ late ∷ []) ≡ late_of items ++ late_for late ∷ []
late_last [] late = refl
late_last (one ∷ items) late = ap (λ (rest : List Late). late_for one ∷ rest) (late_last items late)

pub skips_last : (all items : List LateAttrs) (late : LateAttrs) (f : Forest) → all ≡ items ++ late ∷ [] → list_any (λ (one : LateAttrs). one.id == late.id) items ≡ true →
    completed (late_of items) f ≡ completed (late_of all) f
skips_last all items late f is stands =
    sym (ap (λ (ls : List LateAttrs). completed (late_of ls) f) is ∙ ap (λ (ls : List Late). completed ls f) (late_last items late)
    ∙ skipped (late_of items) (late_for late) f (sym (has_is items late.id) ∙ stands))

pub puts_last : (all items : List LateAttrs) (late : LateAttrs) (f g : Forest) → all ≡ items ++ late ∷ [] → list_any (λ (one : LateAttrs). one.id == late.id) items ≡ false →
    g ≡ with_content late.id (with_attrs late.added.items) f → completed (late_of items) g ≡ completed (late_of all) f
puts_last all items late f g is none made =
    ap (completed (late_of items)) made
    ∙ sym (ap (λ (ls : List LateAttrs). completed (late_of ls) f) is ∙ ap (λ (ls : List Late). completed ls f) (late_last items late)
    ∙ put_first (late_of items) (late_for late) f (sym (has_is items late.id) ∙ none))

take_none : (items : List LateAttrs) → take 0 items ≡ []
take_none [] = refl
take_none (late ∷ items) = refl

-- where nothing could be popped, nothing is left
pub nothing_left : (old new : List LateAttrs) (n : ℕ) (f : Forest) → n ≡ 0 → old ≡ new ++ [] → new ≡ take (n - 1) old → completed (late_of old) f ≡ f
nothing_left old new n f none all rest =
    let empty : old ≡ [] = all ∙ append-nil new ∙ rest ∙ ap (λ (k : ℕ). take (k - 1) old) none ∙ take_none old in
    ap (λ (ls : List LateAttrs). completed (late_of ls) f) empty ∙ nothing_late f
