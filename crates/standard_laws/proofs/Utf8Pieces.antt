-- If what is written of calm trees is UTF-8, so are the names and comments in them.
use Rattle.std.specs.Prelude.{◌≡◌, ◌<◌, ◌≤◌, ℕ, Bool, true, false, not, ◌&&◌, List, [], ◌∷◌, ◌++◌, length, get_or, codes, refl, if◌then◌else◌}
use Rattle.std.specs.List.{flat_map}
use Rattle.std.specs.Str.{IsCharBoundary, IsUtf8, chars}
use Rattle.std.proofs.Common.{arith}
use Rattle.std.proofs.Math.Seq.{drop-append_seam, get_or-append_seam, take-append_seam}
use Rattle.std.proofs.Math.Utf8.{encode}
use Rattle.std.proofs.lemmas.Bool.{and_parts, ltb-true, true≢false}
use Rattle.std.proofs.lemmas.List.{append_assoc, length-append}
use Rattle.std.proofs.lemmas.Str.{IsCharBoundary-before_ascii, IsCharBoundary-from_take, IsUtf8-append, IsUtf8-drop, IsUtf8-take}
use mathlib.Core.Path.{◌∙◌, sym, ap, subst}
use Rattle.dom_nodes.specs.Words.{is_among}
use Rattle.dom_markup.specs.Escaping.{escaped_text}
use Rattle.dom_markup.specs.Names.{raw_names, void_names}
use Rattle.dom_markup.specs.Plain.{ArePlain, HaveNoIdentifiers, IsPlainTrees}
use Rattle.dom_markup.specs.ValueTrees.{Attribute, ValueTrees}
use Rattle.dom_markup.specs.ValueTrees.ValueTrees.{no_trees, text_node, comment_node, doctype_node, element_node}
use Rattle.calm_pages.specs.Calm.{IsCalmDocument, admits, are_calm, bars, behind, behind_text, inside, may_hold_comment, may_hold_text, top}
use Rattle.calm_pages.specs.declared.nesting.Scope.{Scope}
use Rattle.page_trees.specs.ElementKinds.{holds_doctype, kind_of, may_hold}
use Rattle.page_trees.specs.declared.element_kinds.ElementCategory.{ElementCategory}
use Rattle.page_trees.specs.declared.element_kinds.ElementCategory.TheVariants.{Document, Html, Head, Body, Metadata, Verbatim, Phrase, Anchor, Button, Paragraph, Block, Heading, Form, Pre, ItemList, Item, DescriptionList, Description, Ruby, RubyText, Table, Caption, ColumnGroup, Column, RowGroup}
use Rattle.page_trees.specs.declared.element_kinds.ElementCategory.TheVariants.{TableRow, Cell, Other}
use Rattle.standard_tokens.specs.PlainMarkup.{Piece}
use Rattle.standard_laws.proofs.CategoryPlaces.{is_inner}
use Rattle.standard_laws.proofs.CalmPlain.{inner_behind}
use Rattle.standard_laws.proofs.CalmDocuments.{body_kind, calm_parts, head_kind, html_kind}
use Rattle.standard_laws.specs.Values.{WritesValues}
use Rattle.dom_markup.specs.Html.{end_tag}
use Rattle.dom_markup.specs.WrittenTrees.{ValueChar, attr_by, text_by}
use Rattle.standard_laws.proofs.Encodings.{Encodes, encodes_chars}
use Rattle.standard_laws.proofs.Pieces.{text_encodes, value_encodes}
use Rattle.standard_laws.proofs.CalmReadable.{AreUtf8, HaveUtf8Names, whole}
use Rattle.standard_laws.proofs.CalmTokens.{Known, body_name, head_name, held, html_name, inner_inside, known_name}

-- ---- pieces of a text

pub utf8_behind : (xs ys : List ℕ) → IsUtf8 (xs ++ ys) → IsUtf8 xs → IsUtf8 ys
utf8_behind xs ys u front =
    let long : length xs ≤ length (xs ++ ys) = omega (arith, length-append xs ys) in
    let cut : IsCharBoundary (xs ++ ys) (length xs) = IsCharBoundary-from_take (xs ++ ys) (length xs) u long (subst IsUtf8 (sym (take-append_seam xs ys)) front) in
    subst IsUtf8 (drop-append_seam xs ys) (IsUtf8-drop (xs ++ ys) (length xs) u cut)

-- in front of an ASCII character
pub utf8_before : (xs : List ℕ) (c : ℕ) (ys : List ℕ) → c < 128 → IsUtf8 (xs ++ c ∷ ys) → IsUtf8 xs
utf8_before xs c ys low u =
    let long : length xs < length (xs ++ c ∷ ys) = omega (arith, length-append xs (c ∷ ys)) in
    let ascii : get_or (xs ++ c ∷ ys) (length xs) 0 < 128 = subst (λ d. d < 128) (sym (get_or-append_seam xs c ys 0)) low in
    subst IsUtf8 (take-append_seam xs (c ∷ ys)) (IsUtf8-take (xs ++ c ∷ ys) (length xs) u (IsCharBoundary-before_ascii (xs ++ c ∷ ys) (length xs) long ascii))

of_encodes : {cs bytes : List ℕ} → Encodes cs bytes → IsUtf8 bytes
of_encodes {cs} e = (cs, (e.scalars, e.same))

-- the words between names, values and texts
record Words : Type 0 where
  space : IsUtf8 (codes " ")
  equals : IsUtf8 (codes "=\"")
  quote : IsUtf8 (codes "\"")
  less : IsUtf8 (codes "<")
  greater : IsUtf8 (codes ">")
  close : IsUtf8 (codes "</")
  comment : IsUtf8 (codes "<!--")
  comment_end : IsUtf8 (codes "-->")
  doctype : IsUtf8 (codes "<!DOCTYPE ")

words : Words
unfolding encode
words = record {
  space = (codes " ", (refl, refl));
  equals = (codes "=\"", (refl, refl));
  quote = (codes "\"", (refl, refl));
  less = (codes "<", (refl, refl));
  greater = (codes ">", (refl, refl));
  close = (codes "</", (refl, refl));
  comment = (codes "<!--", (refl, refl));
  comment_end = (codes "-->", (refl, refl));
  doctype = (codes "<!DOCTYPE ", (refl, refl));
}

-- ---- attributes

value_utf8 : (by : ValueChar) (piece : ℕ → Piece) → WritesValues by piece → (value : List ℕ) → IsUtf8 value → IsUtf8 (flat_map by (chars value))
value_utf8 by piece writes value u = of_encodes (value_encodes by piece writes (chars value) (encodes_chars value u).scalars)

attrs_utf8 : (by : ValueChar) (piece : ℕ → Piece) → WritesValues by piece → (attributes : List Attribute) → ArePlain attributes → (rest : List ℕ) → IsUtf8 (flat_map (attr_by by) attributes ++ rest) →
    HaveUtf8Names attributes × IsUtf8 rest
attrs_utf8 by piece writes [] plain rest u = (tt, u)
attrs_utf8 by piece writes (a ∷ later) plain rest u =
    let value : List ℕ = flat_map by (chars a.value) in
    let more : List ℕ = flat_map (attr_by by) later ++ rest in
    let first : IsUtf8 (codes " " ++ (a.name ++ (codes "=\"" ++ (value ++ (codes "\"" ++ more))))) =
    subst IsUtf8 (append_assoc (attr_by by a) (flat_map (attr_by by) later) rest ∙ append_assoc (codes " ") (a.name ++ (codes "=\"" ++ (value ++ codes "\""))) more
    ∙ ap (λ t. codes " " ++ t) (append_assoc a.name (codes "=\"" ++ (value ++ codes "\"")) more
    ∙ ap (λ t. a.name ++ t) (append_assoc (codes "=\"") (value ++ codes "\"") more ∙ ap (λ t. codes "=\"" ++ t) (append_assoc value (codes "\"") more)))) u in
    let named : IsUtf8 (a.name ++ (codes "=\"" ++ (value ++ (codes "\"" ++ more)))) = utf8_behind (codes " ") (a.name ++ (codes "=\"" ++ (value ++ (codes "\"" ++ more)))) first words.space in
    let name : IsUtf8 a.name = utf8_before a.name 61 (34 ∷ (value ++ (codes "\"" ++ more))) (ltb-true 61 128 refl) named in
    let valued : IsUtf8 (value ++ (codes "\"" ++ more)) =
    utf8_behind (codes "=\"") (value ++ (codes "\"" ++ more)) (utf8_behind a.name (codes "=\"" ++ (value ++ (codes "\"" ++ more))) named name) words.equals in
    let after : IsUtf8 more = utf8_behind (codes "\"") more (utf8_behind value (codes "\"" ++ more) valued (value_utf8 by piece writes a.value plain.1)) words.quote in
    let others : HaveUtf8Names later × IsUtf8 rest = attrs_utf8 by piece writes later plain.3 rest after in
    ((name, others.0), others.1)

-- ---- elements

text_utf8 : (raw : Bool) (text : List ℕ) → IsUtf8 text → IsUtf8 (if raw then text else escaped_text text)
text_utf8 true text u = u
text_utf8 false text u = of_encodes (text_encodes (chars text) (encodes_chars text u).scalars)

end_utf8 : (name : List ℕ) → IsUtf8 name → IsUtf8 (end_tag name)
end_utf8 name u = IsUtf8-append (codes "</") (name ++ codes ">") words.close (IsUtf8-append name (codes ">") u words.greater)

element_utf8 : (by : ValueChar) (piece : ℕ → Piece) → WritesValues by piece → (name : List ℕ) → Known name → (attributes : List Attribute) (children later : ValueTrees) (raw : Bool) → ArePlain attributes →
    (is_among name void_names ≡ true → children ≡ no_trees) → (IsUtf8 (text_by by (is_among name raw_names) children) → AreUtf8 children) → (IsUtf8 (text_by by raw later) → AreUtf8 later) →
    IsUtf8 (text_by by raw (element_node name attributes children later)) → AreUtf8 (element_node name attributes children later)
element_utf8 by piece writes name known attributes children later raw plain void inner after u =
    let attrs : List ℕ = flat_map (attr_by by) attributes in
    let middle : List ℕ = if is_among name void_names then [] else text_by by (is_among name raw_names) children ++ end_tag name in
    let rest : List ℕ = middle ++ text_by by raw later in
    let first : IsUtf8 (codes "<" ++ (name ++ (attrs ++ (codes ">" ++ rest)))) =
    subst IsUtf8 (append_assoc (codes "<") (name ++ (attrs ++ codes ">")) rest ∙ ap (λ t. codes "<" ++ t) (append_assoc name (attrs ++ codes ">") rest ∙ ap (λ t. name ++ t) (append_assoc attrs (codes ">") rest))) u in
    let tag : IsUtf8 (attrs ++ (codes ">" ++ rest)) =
    utf8_behind name (attrs ++ (codes ">" ++ rest)) (utf8_behind (codes "<") (name ++ (attrs ++ (codes ">" ++ rest))) first words.less) known.utf8 in
    let a : HaveUtf8Names attributes × IsUtf8 (codes ">" ++ rest) = attrs_utf8 by piece writes attributes plain (codes ">" ++ rest) tag in
    let b : AreUtf8 children × IsUtf8 (text_by by raw later) = by_void (is_among name void_names) refl (utf8_behind (codes ">") rest a.1 words.greater) in
    (a.0, b.0, after b.1)
  where
    by_void : (x : Bool) → is_among name void_names ≡ x → IsUtf8 ((if x then [] else text_by by (is_among name raw_names) children ++ end_tag name) ++ text_by by raw later) →
        AreUtf8 children × IsUtf8 (text_by by raw later)
    by_void true e k = (subst AreUtf8 (sym (void e)) tt, k)
    by_void false e k =
        let below : List ℕ = text_by by (is_among name raw_names) children in
        let more : List ℕ = text_by by raw later in
        let parts : IsUtf8 (below ++ (end_tag name ++ more)) = subst IsUtf8 (append_assoc below (end_tag name) more) k in
        let own : IsUtf8 below = utf8_before below 60 (47 ∷ ((name ++ codes ">") ++ more)) (ltb-true 60 128 refl) parts in
        (inner own, utf8_behind (end_tag name) more (utf8_behind below (end_tag name ++ more) parts own) (end_utf8 name known.utf8))

-- ---- trees in a head or a body

trees_utf8 : (by : ValueChar) (piece : ℕ → Piece) → WritesValues by piece → (scope : Scope) (raw : Bool) (t : ValueTrees) → is_inner scope.parent ≡ true → IsPlainTrees false t → are_calm scope t ≡ true →
    IsUtf8 (text_by by raw t) → AreUtf8 t
trees_utf8 by piece writes scope raw no_trees i p c u = tt
trees_utf8 by piece writes scope raw (text_node contents later) i p c u =
    let text : List ℕ = if raw then contents else escaped_text contents in
    let calm : (may_hold_text scope.parent contents ≡ true) × (are_calm (behind scope) later ≡ true) = and_parts (may_hold_text scope.parent contents) (are_calm (behind scope) later) c in
    trees_utf8 by piece writes (behind scope) raw later (inner_behind scope.parent i) p.3 calm.1 (utf8_behind text (text_by by raw later) u (text_utf8 raw contents p.1))
trees_utf8 by piece writes scope raw (comment_node contents later) i p c u =
    let more : List ℕ = text_by by raw later in
    let calm : (may_hold_comment scope.parent contents ≡ true) × (are_calm (behind scope) later ≡ true) = and_parts (may_hold_comment scope.parent contents) (are_calm (behind scope) later) c in
    let rest : IsUtf8 (contents ++ (codes "-->" ++ more)) = utf8_behind (codes "<!--") (contents ++ (codes "-->" ++ more)) u words.comment in
    let own : IsUtf8 contents = utf8_before contents 45 (45 ∷ 62 ∷ more) (ltb-true 45 128 refl) rest in
    (own, trees_utf8 by piece writes (behind scope) raw later (inner_behind scope.parent i) p.1 calm.1 (utf8_behind (codes "-->") more (utf8_behind contents (codes "-->" ++ more) rest own) words.comment_end))
trees_utf8 by piece writes scope raw (doctype_node name public system later) i p c u = absurd (true≢false (sym p.0))
trees_utf8 by piece writes scope raw (element_node name attributes children later) i p c u =
    let kind : ElementCategory = kind_of name in
    let g : ((admits scope kind && are_calm (inside scope kind) children) ≡ true) × (are_calm (behind scope) later ≡ true) = and_parts (admits scope kind && are_calm (inside scope kind) children) (are_calm (behind scope) later) c in
    let k : (admits scope kind ≡ true) × (are_calm (inside scope kind) children ≡ true) = and_parts (admits scope kind) (are_calm (inside scope kind) children) g.0 in
    let may : may_hold scope.parent kind ≡ true = (and_parts (may_hold scope.parent kind) (not (bars scope kind)) k.0).0 in
    element_utf8 by piece writes name (known_name name (held scope.parent kind i may)) attributes children later raw p.2 p.3
    (λ e. trees_utf8 by piece writes (inside scope kind) (is_among name raw_names) children (inner_inside scope kind i may) p.5 k.1 e)
    (λ e. trees_utf8 by piece writes (behind scope) raw later (inner_behind scope.parent i) p.6 g.1 e) u

-- ---- documents

body_utf8 : (by : ValueChar) (piece : ℕ → Piece) → WritesValues by piece → (raw : Bool) (attributes : List Attribute) (body : ValueTrees) → are_calm (inside top Html) (element_node (codes "body") attributes body no_trees) ≡ true →
    IsPlainTrees false (element_node (codes "body") attributes body no_trees) → IsUtf8 (text_by by raw (element_node (codes "body") attributes body no_trees)) → AreUtf8 (element_node (codes "body") attributes body no_trees)
body_utf8 by piece writes raw attributes body c p u =
    let inner : are_calm (inside (inside top Html) Body) body ≡ true = (calm_parts (inside top Html) (codes "body") Body attributes body no_trees body_kind c).0 in
    element_utf8 by piece writes (codes "body") body_name attributes body no_trees raw p.2 p.3
    (λ e. trees_utf8 by piece writes (inside (inside top Html) Body) (is_among (codes "body") raw_names) body refl p.5 inner e) (λ e. tt) u

rest_utf8 : (by : ValueChar) (piece : ℕ → Piece) → WritesValues by piece → (raw : Bool) (space : List ℕ) (attributes : List Attribute) (body : ValueTrees) →
    are_calm (inside top Html) (behind_text space (element_node (codes "body") attributes body no_trees)) ≡ true → IsPlainTrees false (behind_text space (element_node (codes "body") attributes body no_trees)) →
    IsUtf8 (text_by by raw (behind_text space (element_node (codes "body") attributes body no_trees))) → AreUtf8 (behind_text space (element_node (codes "body") attributes body no_trees))
rest_utf8 by piece writes raw [] attributes body c p u = body_utf8 by piece writes raw attributes body c p u
rest_utf8 by piece writes raw (b ∷ space) attributes body c p u =
    let e : ValueTrees = element_node (codes "body") attributes body no_trees in
    let text : List ℕ = if raw then b ∷ space else escaped_text (b ∷ space) in
    let calm : (may_hold_text Html (b ∷ space) ≡ true) × (are_calm (inside top Html) e ≡ true) = and_parts (may_hold_text Html (b ∷ space)) (are_calm (inside top Html) e) c in
    body_utf8 by piece writes raw attributes body calm.1 p.3 (utf8_behind text (text_by by raw e) u (text_utf8 raw (b ∷ space) p.1))

whole_utf8 : (by : ValueChar) (piece : ℕ → Piece) → WritesValues by piece → (html head_attributes body_attributes : List Attribute) (head : ValueTrees) (space : List ℕ) (body : ValueTrees) →
    are_calm top (whole html head_attributes body_attributes head space body) ≡ true → IsPlainTrees true (whole html head_attributes body_attributes head space body) →
    IsUtf8 (text_by by false (whole html head_attributes body_attributes head space body)) → AreUtf8 (whole html head_attributes body_attributes head space body)
whole_utf8 by piece writes html head_attributes body_attributes head space body c p u =
    let rest : ValueTrees = behind_text space (element_node (codes "body") body_attributes body no_trees) in
    let inner : ValueTrees = element_node (codes "head") head_attributes head rest in
    let root : ValueTrees = element_node (codes "html") html inner no_trees in
    let outer : (are_calm (inside top Html) inner ≡ true) × (are_calm top no_trees ≡ true) = calm_parts top (codes "html") Html html inner no_trees html_kind c in
    let parts : (are_calm (inside (inside top Html) Head) head ≡ true) × (are_calm (inside top Html) rest ≡ true) = calm_parts (inside top Html) (codes "head") Head head_attributes head rest head_kind outer.0 in
    let named : IsUtf8 (codes "html" ++ (codes ">" ++ text_by by false root)) = utf8_behind (codes "<!DOCTYPE ") (codes "html" ++ (codes ">" ++ text_by by false root)) u words.doctype in
    let below : IsUtf8 (text_by by false root) =
    utf8_behind (codes ">") (text_by by false root) (utf8_behind (codes "html") (codes ">" ++ text_by by false root) named html_name.utf8) words.greater in
    element_utf8 by piece writes (codes "html") html_name html inner no_trees false p.4.2 p.4.3
    (λ e. element_utf8 by piece writes (codes "head") head_name head_attributes head rest (is_among (codes "html") raw_names) p.4.5.2 p.4.5.3
    (λ f. trees_utf8 by piece writes (inside (inside top Html) Head) (is_among (codes "head") raw_names) head refl p.4.5.5 parts.0 f)
    (λ f. rest_utf8 by piece writes (is_among (codes "html") raw_names) space body_attributes body parts.1 p.4.5.6 f) e) (λ e. tt) below

pub document_utf8 : (by : ValueChar) (piece : ℕ → Piece) → WritesValues by piece → (t : ValueTrees) → IsCalmDocument t → IsPlainTrees true t → IsUtf8 (text_by by false t) → AreUtf8 t
document_utf8 by piece writes t d p u =
    subst AreUtf8 (sym d.is)
    (whole_utf8 by piece writes d.html_attributes d.head_attributes d.body_attributes d.head d.space d.body (ap (are_calm top) (sym d.is) ∙ d.calm) (subst (IsPlainTrees true) d.is p)
    (subst (λ (x : ValueTrees). IsUtf8 (text_by by false x)) d.is u))

-- ---- doctypes

-- only the document holds one
no_doctype : (p : ElementCategory) → is_inner p ≡ true → holds_doctype p ≡ false
no_doctype Document i = absurd (true≢false (sym i))
no_doctype Html i = refl
no_doctype Head i = refl
no_doctype Body i = refl
no_doctype Metadata i = refl
no_doctype Verbatim i = refl
no_doctype Phrase i = refl
no_doctype Anchor i = refl
no_doctype Button i = refl
no_doctype Paragraph i = refl
no_doctype Block i = refl
no_doctype Heading i = refl
no_doctype Form i = refl
no_doctype Pre i = refl
no_doctype ItemList i = refl
no_doctype Item i = refl
no_doctype DescriptionList i = refl
no_doctype Description i = refl
no_doctype Ruby i = refl
no_doctype RubyText i = refl
no_doctype Table i = refl
no_doctype Caption i = refl
no_doctype ColumnGroup i = refl
no_doctype Column i = refl
no_doctype RowGroup i = refl
no_doctype TableRow i = refl
no_doctype Cell i = refl
no_doctype Other i = refl

inner_bare : (scope : Scope) (t : ValueTrees) → is_inner scope.parent ≡ true → are_calm scope t ≡ true → HaveNoIdentifiers t
inner_bare scope no_trees i c = tt
inner_bare scope (text_node contents later) i c =
    inner_bare (behind scope) later (inner_behind scope.parent i) (and_parts (may_hold_text scope.parent contents) (are_calm (behind scope) later) c).1
inner_bare scope (comment_node contents later) i c =
    inner_bare (behind scope) later (inner_behind scope.parent i) (and_parts (may_hold_comment scope.parent contents) (are_calm (behind scope) later) c).1
inner_bare scope (doctype_node name public system later) i c =
    absurd (true≢false (sym (and_parts (holds_doctype scope.parent) (are_calm (behind scope) later) c).0 ∙ no_doctype scope.parent i))
inner_bare scope (element_node name attributes children later) i c =
    let kind : ElementCategory = kind_of name in
    let g : ((admits scope kind && are_calm (inside scope kind) children) ≡ true) × (are_calm (behind scope) later ≡ true) = and_parts (admits scope kind && are_calm (inside scope kind) children) (are_calm (behind scope) later) c in
    let k : (admits scope kind ≡ true) × (are_calm (inside scope kind) children ≡ true) = and_parts (admits scope kind) (are_calm (inside scope kind) children) g.0 in
    let may : may_hold scope.parent kind ≡ true = (and_parts (may_hold scope.parent kind) (not (bars scope kind)) k.0).0 in
    (inner_bare (inside scope kind) children (inner_inside scope kind i may) k.1, inner_bare (behind scope) later (inner_behind scope.parent i) g.1)

rest_bare : (space : List ℕ) (attributes : List Attribute) (body : ValueTrees) → are_calm (inside top Html) (behind_text space (element_node (codes "body") attributes body no_trees)) ≡ true →
    HaveNoIdentifiers (behind_text space (element_node (codes "body") attributes body no_trees))
rest_bare [] attributes body c = (inner_bare (inside (inside top Html) Body) body refl (calm_parts (inside top Html) (codes "body") Body attributes body no_trees body_kind c).0, tt)
rest_bare (b ∷ space) attributes body c =
    let e : ValueTrees = element_node (codes "body") attributes body no_trees in
    let calm : are_calm (inside top Html) e ≡ true = (and_parts (may_hold_text Html (b ∷ space)) (are_calm (inside top Html) e) c).1 in
    (inner_bare (inside (inside top Html) Body) body refl (calm_parts (inside top Html) (codes "body") Body attributes body no_trees body_kind calm).0, tt)

whole_bare : (html head_attributes body_attributes : List Attribute) (head : ValueTrees) (space : List ℕ) (body : ValueTrees) →
    are_calm top (whole html head_attributes body_attributes head space body) ≡ true → HaveNoIdentifiers (whole html head_attributes body_attributes head space body)
whole_bare html head_attributes body_attributes head space body c =
    let rest : ValueTrees = behind_text space (element_node (codes "body") body_attributes body no_trees) in
    let inner : ValueTrees = element_node (codes "head") head_attributes head rest in
    let outer : (are_calm (inside top Html) inner ≡ true) × (are_calm top no_trees ≡ true) = calm_parts top (codes "html") Html html inner no_trees html_kind c in
    let parts : (are_calm (inside (inside top Html) Head) head ≡ true) × (are_calm (inside top Html) rest ≡ true) = calm_parts (inside top Html) (codes "head") Head head_attributes head rest head_kind outer.0 in
    (refl, refl, ((inner_bare (inside (inside top Html) Head) head refl parts.0, rest_bare space body_attributes body parts.1), tt))

pub document_bare : (t : ValueTrees) → IsCalmDocument t → HaveNoIdentifiers t
document_bare t d =
    subst HaveNoIdentifiers (sym d.is) (whole_bare d.html_attributes d.head_attributes d.body_attributes d.head d.space d.body (ap (are_calm top) (sym d.is) ∙ d.calm))
