-- A calm document is readable, if what is written of it is calm byte by byte.
use Rattle.std.specs.Prelude.{◌≡◌, ℕ, Bool, true, false, not, ◌==◌, ◌&&◌, ◌⊎◌, List, [], ◌∷◌, ◌++◌, codes, refl, if◌then◌else◌}
use Rattle.std.specs.List.{flat_map, list_all}
use Rattle.std.specs.Str.{IsUtf8, bytes_eq, chars}
use Rattle.std.proofs.Common.{inl, inr}
use Rattle.std.proofs.lemmas.Bool.{and_parts, true≢false}
use mathlib.Core.Path.{◌∙◌, sym, ap, subst}
use Rattle.dom_nodes.specs.Words.{is_among}
use Rattle.dom_markup.specs.Escaping.{escaped_text}
use Rattle.dom_markup.specs.Names.{mode_in, raw_names, raw_text_of, text_names, void_names}
use Rattle.dom_markup.specs.Plain.{IsPlainIn, IsPlainTrees}
use Rattle.dom_markup.specs.ValueTrees.{Attribute, ValueTrees}
use Rattle.dom_markup.specs.ValueTrees.ValueTrees.{no_trees, text_node, comment_node, doctype_node, element_node}
use Rattle.calm_pages.specs.Calm.{IsCalmDocument, admits, are_calm, bars, behind, behind_text, has_close, inside, may_hold_comment, may_hold_text, top}
use Rattle.calm_pages.specs.declared.nesting.Scope.{Scope}
use Rattle.page_trees.specs.ElementKinds.{holds_comments, kind_of, may_hold}
use Rattle.page_trees.specs.declared.element_kinds.ElementCategory.{ElementCategory}
use Rattle.page_trees.specs.declared.element_kinds.ElementCategory.TheVariants.{Html, Head, Body, Verbatim}
use Rattle.standard_laws.proofs.CategoryPlaces.{is_inner}
use Rattle.standard_laws.proofs.CalmPlain.{inner_behind}
use Rattle.standard_laws.proofs.CalmDocuments.{body_kind, calm_parts, head_kind, html_kind}
use Rattle.standard_laws.specs.ReadableTrees.{AreKept, AreReadable, EndsByTag, kind_of as text_kind}
use Rattle.dom_markup.specs.Html.{end_tag}
use Rattle.dom_markup.specs.WrittenTrees.{ValueChar, attr_by, start_by, text_by}
use Rattle.standard_laws.proofs.TreesPlain.{mode_by}
use Rattle.standard_laws.proofs.CalmTokens.{Known, body_name, head_name, held, html_name, inner_inside, known_name}
use Rattle.standard_laws.proofs.Kept.{ShowsBoth, comment_kept, is_kept, kept_by, kept_parts, kept_text, raw_lacks}

-- ---- names and comments in UTF-8

-- the names of attributes are UTF-8
abbrev pub HaveUtf8Names : List Attribute → Type 0
HaveUtf8Names [] = Unit {0}
HaveUtf8Names (attribute ∷ later) = IsUtf8 attribute.name × HaveUtf8Names later

-- names of attributes and comments are UTF-8; of other texts and of values `IsPlainTrees` says so
abbrev pub AreUtf8 : ValueTrees → Type 0
AreUtf8 no_trees = Unit {0}
AreUtf8 (text_node contents later) = AreUtf8 later
AreUtf8 (comment_node contents later) = IsUtf8 contents × AreUtf8 later
AreUtf8 (doctype_node name public system later) = AreUtf8 later
AreUtf8 (element_node name attributes children later) = HaveUtf8Names attributes × AreUtf8 children × AreUtf8 later

-- ---- attributes

attrs_kept : (by : ValueChar) → ShowsBoth by → (attributes : List Attribute) → HaveUtf8Names attributes → list_all is_kept (flat_map (attr_by by) attributes) ≡ true → AreKept attributes
attrs_kept by shows [] u h = tt
attrs_kept by shows (a ∷ later) u h =
    let text : List ℕ = flat_map by (chars a.value) in
    let p : (list_all is_kept (attr_by by a) ≡ true) × (list_all is_kept (flat_map (attr_by by) later) ≡ true) = kept_parts (attr_by by a) (flat_map (attr_by by) later) h in
    let q : (list_all is_kept (codes " ") ≡ true) × (list_all is_kept (a.name ++ (codes "=\"" ++ (text ++ codes "\""))) ≡ true) = kept_parts (codes " ") (a.name ++ (codes "=\"" ++ (text ++ codes "\""))) p.0 in
    let r : (list_all is_kept a.name ≡ true) × (list_all is_kept (codes "=\"" ++ (text ++ codes "\"")) ≡ true) = kept_parts a.name (codes "=\"" ++ (text ++ codes "\"")) q.1 in
    let s : (list_all is_kept (codes "=\"") ≡ true) × (list_all is_kept (text ++ codes "\"") ≡ true) = kept_parts (codes "=\"") (text ++ codes "\"") r.1 in
    (u.0, kept_by by shows (chars a.value) (kept_parts text (codes "\"") s.1).0, attrs_kept by shows later u.1 p.1)

-- ---- how the content of an element ends

unraw_ends : (name : List ℕ) (children : ValueTrees) → is_among name raw_names ≡ false → EndsByTag (mode_in name) children
unraw_ends name children h = subst (λ b. EndsByTag (mode_by b (is_among name text_names) name) children) (sym h) (by_text (is_among name text_names))
  where
    by_text : (y : Bool) → EndsByTag (mode_by false y name) children
    by_text true = tt
    by_text false = tt

raw_ends : (name : List ℕ) (scope : Scope) (children : ValueTrees) → bytes_eq name (codes "plaintext") ≡ false → IsPlainIn (raw_text_of name) children → IsPlainTrees false children →
    are_calm (inside scope Verbatim) children ≡ true → EndsByTag (raw_text_of name) children
raw_ends name scope no_trees plain inner p c = plain
raw_ends name scope (text_node contents no_trees) plain inner p c =
    let h : (not (has_close contents) ≡ true) × (true ≡ true) = and_parts (not (has_close contents)) true c in
    (plain, raw_lacks (text_kind name) (chars name) contents p.1 (from_not (has_close contents) h.0))
  where
    from_not : (x : Bool) → not x ≡ true → x ≡ false
    from_not true k = absurd (true≢false (sym k))
    from_not false k = refl
raw_ends name scope (text_node contents (text_node more later)) plain inner p c = absurd inner
raw_ends name scope (text_node contents (comment_node more later)) plain inner p c = absurd inner
raw_ends name scope (text_node contents (doctype_node n public system later)) plain inner p c = absurd inner
raw_ends name scope (text_node contents (element_node n attributes below later)) plain inner p c = absurd inner
raw_ends name scope (comment_node contents later) plain inner p c = absurd inner
raw_ends name scope (doctype_node n public system later) plain inner p c = absurd inner
raw_ends name scope (element_node n attributes below later) plain inner p c = absurd inner

known_ends : (name : List ℕ) → Known name → (scope : Scope) (children : ValueTrees) → IsPlainIn (mode_in name) children → IsPlainTrees false children → are_calm (inside scope (kind_of name)) children ≡ true →
    EndsByTag (mode_in name) children
known_ends name known scope children inner p c = by_raw (is_among name raw_names) refl known.read
  where
    by_raw : (x : Bool) → is_among name raw_names ≡ x → (is_among name raw_names ≡ false) ⊎ ((kind_of name ≡ Verbatim) × (bytes_eq name (codes "plaintext") ≡ false)) → EndsByTag (mode_in name) children
    by_raw false e how = unraw_ends name children e
    by_raw true e (inl unraw) = absurd (true≢false (sym e ∙ unraw))
    by_raw true e (inr how) =
        subst (λ b. EndsByTag (mode_by b (is_among name text_names) name) children) (sym e)
        (raw_ends name scope children how.1 (subst (λ b. IsPlainIn (mode_by b (is_among name text_names) name) children) e inner) p
        (subst (λ (k : ElementCategory). are_calm (inside scope k) children ≡ true) how.0 c))

-- ---- an element

element_readable : (by : ValueChar) → ShowsBoth by → (name : List ℕ) → Known name → (attributes : List Attribute) (children later : ValueTrees) (raw : Bool) → HaveUtf8Names attributes →
    (is_among name void_names ≡ true → children ≡ no_trees) → EndsByTag (mode_in name) children → (list_all is_kept (text_by by (is_among name raw_names) children) ≡ true → AreReadable children) →
    (list_all is_kept (text_by by raw later) ≡ true → AreReadable later) → list_all is_kept (text_by by raw (element_node name attributes children later)) ≡ true → AreReadable (element_node name attributes children later)
element_readable by shows name known attributes children later raw u void ends inner after h =
    let middle : List ℕ = if is_among name void_names then [] else text_by by (is_among name raw_names) children ++ end_tag name in
    let p : (list_all is_kept (start_by by name attributes) ≡ true) × (list_all is_kept (middle ++ text_by by raw later) ≡ true) = kept_parts (start_by by name attributes) (middle ++ text_by by raw later) h in
    let q : (list_all is_kept middle ≡ true) × (list_all is_kept (text_by by raw later) ≡ true) = kept_parts middle (text_by by raw later) p.1 in
    let r : (list_all is_kept (codes "<") ≡ true) × (list_all is_kept (name ++ (flat_map (attr_by by) attributes ++ codes ">")) ≡ true) = kept_parts (codes "<") (name ++ (flat_map (attr_by by) attributes ++ codes ">")) p.0 in
    let s : (list_all is_kept name ≡ true) × (list_all is_kept (flat_map (attr_by by) attributes ++ codes ">") ≡ true) = kept_parts name (flat_map (attr_by by) attributes ++ codes ">") r.1 in
    (known.utf8, attrs_kept by shows attributes u (kept_parts (flat_map (attr_by by) attributes) (codes ">") s.1).0, ends, by_void (is_among name void_names) refl q.0, after q.1)
  where
    by_void : (x : Bool) → is_among name void_names ≡ x → list_all is_kept (if x then [] else text_by by (is_among name raw_names) children ++ end_tag name) ≡ true → AreReadable children
    by_void true e k = subst AreReadable (sym (void e)) tt
    by_void false e k = inner (kept_parts (text_by by (is_among name raw_names) children) (end_tag name) k).0

-- ---- trees in a head or a body

trees_readable : (by : ValueChar) → ShowsBoth by → (scope : Scope) (raw : Bool) (t : ValueTrees) → is_inner scope.parent ≡ true → IsPlainTrees false t → AreUtf8 t → are_calm scope t ≡ true →
    list_all is_kept (text_by by raw t) ≡ true → AreReadable t
trees_readable by shows scope raw no_trees i p u c h = tt
trees_readable by shows scope raw (text_node contents later) i p u c h =
    let parts : (list_all is_kept (if raw then contents else escaped_text contents) ≡ true) × (list_all is_kept (text_by by raw later) ≡ true) = kept_parts (if raw then contents else escaped_text contents) (text_by by raw later) h in
    let calm : (may_hold_text scope.parent contents ≡ true) × (are_calm (behind scope) later ≡ true) = and_parts (may_hold_text scope.parent contents) (are_calm (behind scope) later) c in
    (kept_text raw contents p.1 parts.0, trees_readable by shows (behind scope) raw later (inner_behind scope.parent i) p.3 u calm.1 parts.1)
trees_readable by shows scope raw (comment_node contents later) i p u c h =
    let calm : (may_hold_comment scope.parent contents ≡ true) × (are_calm (behind scope) later ≡ true) = and_parts (may_hold_comment scope.parent contents) (are_calm (behind scope) later) c in
    let free : list_all (λ b. not (b == 62)) contents ≡ true = (and_parts (holds_comments scope.parent) (list_all (λ b. not (b == 62)) contents) calm.0).1 in
    let a : (list_all is_kept (codes "<!--") ≡ true) × (list_all is_kept (contents ++ (codes "-->" ++ text_by by raw later)) ≡ true) = kept_parts (codes "<!--") (contents ++ (codes "-->" ++ text_by by raw later)) h in
    let b : (list_all is_kept contents ≡ true) × (list_all is_kept (codes "-->" ++ text_by by raw later) ≡ true) = kept_parts contents (codes "-->" ++ text_by by raw later) a.1 in
    (u.0, comment_kept contents u.0 b.0 free, trees_readable by shows (behind scope) raw later (inner_behind scope.parent i) p.1 u.1 calm.1 (kept_parts (codes "-->") (text_by by raw later) b.1).1)
trees_readable by shows scope raw (doctype_node name public system later) i p u c h = absurd (true≢false (sym p.0))
trees_readable by shows scope raw (element_node name attributes children later) i p u c h =
    let kind : ElementCategory = kind_of name in
    let g : ((admits scope kind && are_calm (inside scope kind) children) ≡ true) × (are_calm (behind scope) later ≡ true) = and_parts (admits scope kind && are_calm (inside scope kind) children) (are_calm (behind scope) later) c in
    let k : (admits scope kind ≡ true) × (are_calm (inside scope kind) children ≡ true) = and_parts (admits scope kind) (are_calm (inside scope kind) children) g.0 in
    let may : may_hold scope.parent kind ≡ true = (and_parts (may_hold scope.parent kind) (not (bars scope kind)) k.0).0 in
    let known : Known name = known_name name (held scope.parent kind i may) in
    element_readable by shows name known attributes children later raw u.0 p.3 (known_ends name known scope children p.4 p.5 k.1)
    (λ e. trees_readable by shows (inside scope kind) (is_among name raw_names) children (inner_inside scope kind i may) p.5 u.1 k.1 e)
    (λ e. trees_readable by shows (behind scope) raw later (inner_behind scope.parent i) p.6 u.2 g.1 e) h

-- ---- documents

body_readable : (by : ValueChar) → ShowsBoth by → (raw : Bool) (attributes : List Attribute) (body : ValueTrees) → are_calm (inside top Html) (element_node (codes "body") attributes body no_trees) ≡ true →
    IsPlainTrees false (element_node (codes "body") attributes body no_trees) → AreUtf8 (element_node (codes "body") attributes body no_trees) →
    list_all is_kept (text_by by raw (element_node (codes "body") attributes body no_trees)) ≡ true → AreReadable (element_node (codes "body") attributes body no_trees)
unfolding raw_names
body_readable by shows raw attributes body c p u h =
    let inner : are_calm (inside (inside top Html) Body) body ≡ true = (calm_parts (inside top Html) (codes "body") Body attributes body no_trees body_kind c).0 in
    element_readable by shows (codes "body") body_name attributes body no_trees raw u.0 p.3 (unraw_ends (codes "body") body refl)
    (λ e. trees_readable by shows (inside (inside top Html) Body) (is_among (codes "body") raw_names) body refl p.5 u.1 inner e) (λ e. tt) h

rest_readable : (by : ValueChar) → ShowsBoth by → (raw : Bool) (space : List ℕ) (attributes : List Attribute) (body : ValueTrees) →
    are_calm (inside top Html) (behind_text space (element_node (codes "body") attributes body no_trees)) ≡ true → IsPlainTrees false (behind_text space (element_node (codes "body") attributes body no_trees)) →
    AreUtf8 (behind_text space (element_node (codes "body") attributes body no_trees)) → list_all is_kept (text_by by raw (behind_text space (element_node (codes "body") attributes body no_trees))) ≡ true →
    AreReadable (behind_text space (element_node (codes "body") attributes body no_trees))
rest_readable by shows raw [] attributes body c p u h = body_readable by shows raw attributes body c p u h
rest_readable by shows raw (b ∷ space) attributes body c p u h =
    let e : ValueTrees = element_node (codes "body") attributes body no_trees in
    let text : List ℕ = if raw then b ∷ space else escaped_text (b ∷ space) in
    let parts : (list_all is_kept text ≡ true) × (list_all is_kept (text_by by raw e) ≡ true) = kept_parts text (text_by by raw e) h in
    let calm : (may_hold_text Html (b ∷ space) ≡ true) × (are_calm (inside top Html) e ≡ true) = and_parts (may_hold_text Html (b ∷ space)) (are_calm (inside top Html) e) c in
    (kept_text raw (b ∷ space) p.1 parts.0, body_readable by shows raw attributes body calm.1 p.3 u parts.1)

abbrev pub whole : (html head_attributes body_attributes : List Attribute) (head : ValueTrees) (space : List ℕ) (body : ValueTrees) → ValueTrees
whole html head_attributes body_attributes head space body = doctype_node (codes "html") [] [] (element_node (codes "html") html
    (element_node (codes "head") head_attributes head (behind_text space (element_node (codes "body") body_attributes body no_trees))) no_trees)

whole_readable : (by : ValueChar) → ShowsBoth by → (html head_attributes body_attributes : List Attribute) (head : ValueTrees) (space : List ℕ) (body : ValueTrees) →
    are_calm top (whole html head_attributes body_attributes head space body) ≡ true → IsPlainTrees true (whole html head_attributes body_attributes head space body) →
    AreUtf8 (whole html head_attributes body_attributes head space body) → list_all is_kept (text_by by false (whole html head_attributes body_attributes head space body)) ≡ true →
    AreReadable (whole html head_attributes body_attributes head space body)
unfolding raw_names
whole_readable by shows html head_attributes body_attributes head space body c p u h =
    let rest : ValueTrees = behind_text space (element_node (codes "body") body_attributes body no_trees) in
    let inner : ValueTrees = element_node (codes "head") head_attributes head rest in
    let root : ValueTrees = element_node (codes "html") html inner no_trees in
    let outer : (are_calm (inside top Html) inner ≡ true) × (are_calm top no_trees ≡ true) = calm_parts top (codes "html") Html html inner no_trees html_kind c in
    let parts : (are_calm (inside (inside top Html) Head) head ≡ true) × (are_calm (inside top Html) rest ≡ true) = calm_parts (inside top Html) (codes "head") Head head_attributes head rest head_kind outer.0 in
    let a : (list_all is_kept (codes "<!DOCTYPE ") ≡ true) × (list_all is_kept (codes "html" ++ (codes ">" ++ text_by by false root)) ≡ true) = kept_parts (codes "<!DOCTYPE ") (codes "html" ++ (codes ">" ++ text_by by false root)) h in
    let b : (list_all is_kept (codes "html") ≡ true) × (list_all is_kept (codes ">" ++ text_by by false root) ≡ true) = kept_parts (codes "html") (codes ">" ++ text_by by false root) a.1 in (
      html_name.utf8,
      element_readable by shows (codes "html") html_name html inner no_trees false u.0 p.4.3 (unraw_ends (codes "html") inner refl)
          (λ e. element_readable by shows (codes "head") head_name head_attributes head rest (is_among (codes "html") raw_names) u.1.0 p.4.5.3 (unraw_ends (codes "head") head refl)
          (λ f. trees_readable by shows (inside (inside top Html) Head) (is_among (codes "head") raw_names) head refl p.4.5.5 u.1.1 parts.0 f)
          (λ f. rest_readable by shows (is_among (codes "html") raw_names) space body_attributes body parts.1 p.4.5.6 u.1.2 f) e) (λ e. tt) (kept_parts (codes ">") (text_by by false root) b.1).1,
    )

pub document_readable : (by : ValueChar) → ShowsBoth by → (t : ValueTrees) → IsCalmDocument t → IsPlainTrees true t → AreUtf8 t → list_all is_kept (text_by by false t) ≡ true → AreReadable t
document_readable by shows t d p u h =
    subst AreReadable (sym d.is)
    (whole_readable by shows d.html_attributes d.head_attributes d.body_attributes d.head d.space d.body (ap (are_calm top) (sym d.is) ∙ d.calm) (subst (IsPlainTrees true) d.is p) (subst AreUtf8 d.is u)
    (ap (λ (x : ValueTrees). list_all is_kept (text_by by false x)) (sym d.is) ∙ h))
