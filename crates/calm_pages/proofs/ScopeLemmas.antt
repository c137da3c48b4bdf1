-- The scopes of a read document's nodes, found in order of number, are those that its trees are tested in.
use Rattle.std.proofs.Common.{◌≡◌, ℕ, zero, suc, drop, ◌+◌, ◌≤◌, true, false, Bool, List, [], ◌∷◌, ◌++◌, length, Option, Some, None, refl, sym, ap, ◌∙◌, arith, inl, inr, append-nil, append_assoc, length-append, slice_get}
use Rattle.std.specs.Prelude.{◌&&◌, ◌==◌, ◌<◌, codes, if◌then◌else◌, not}
use Rattle.std.specs.Option.{option_and_then, option_map_or}
use Rattle.std.proofs.Math.Bool.{and_assoc}
use Rattle.std.proofs.Math.Seq.{drop-nil}
use Rattle.std.proofs.lemmas.Bool.{cases_Bool, eq-eqb, eqb-true}
use Rattle.std.proofs.lemmas.List.{length_push}
use Rattle.std.proofs.lemmas.Option.{slice_get_within}
use Rattle.std.proofs.lemmas.Slice.Eq.{bytes_eq-Decides}
use Rattle.dom_nodes.specs.declared.node_data.NodeData.{NodeData}
use Rattle.dom_nodes.specs.declared.node_data.NodeData.TheVariants.{Comment, Doctype, Fragment, Text}
use Rattle.dom_links.proofs.forest.Grown.{slice_get-before, slice_get-there}
use Rattle.dom_markup.specs.Names.{is_template}
use Rattle.dom_markup.specs.Numbered.{Row, read_element, rows_from, size}
use Rattle.dom_markup.specs.ValueTrees.{ValueTrees}
use Rattle.dom_markup.specs.ValueTrees.ValueTrees.{no_trees, text_node, comment_node, doctype_node, element_node}
use Rattle.calm_pages.specs.Calm.{admits, are_calm, bars, behind, behind_first, inside, may_hold_comment, may_hold_text, top}
use Rattle.page_trees.specs.ElementKinds.{holds_doctype, kind_of, may_hold, names_of}
use Rattle.calm_pages.specs.Scopes.{next_scope, scope_at, scope_below}
use Rattle.page_trees.specs.declared.element_kinds.ElementCategory.{ElementCategory}
use Rattle.page_trees.specs.declared.element_kinds.ElementCategory.TheVariants.{Document, Pre, Other}
use Rattle.calm_pages.specs.declared.nesting.Scope.{Scope}

-- each of these rows may stand where it stands, where the nodes before them have these scopes
abbrev pub all_fit : List Scope → List Row → Bool
all_fit scopes [] = true
all_fit scopes (row ∷ rows) = option_map_or (λ scope. all_fit (scopes ++ scope ∷ []) rows) (next_scope scopes row.parent row.content) false

abbrev below : ℕ → NodeData → Row
below p content = record { parent = Some p; content = content }

-- what the node of number n stands in, as a child of p
abbrev placed : ℕ → ℕ → Scope → Scope
placed p n scope = scope_at (p + 1 == n) scope

behind_twice : (kind : ElementCategory) → behind_first (behind_first kind) ≡ behind_first kind
behind_twice Pre = refl
behind_twice _ = refl

behind_at : (is_first : Bool) (scope : Scope) → behind (scope_at is_first scope) ≡ behind scope
behind_at true scope = refl
behind_at false scope = ap (λ (kind : ElementCategory). record scope { parent = kind }) (behind_twice scope.parent)

not_first : (p m : ℕ) → p + 1 < m → (p + 1 == m) ≡ false
not_first p m h = elim (cases_Bool (p + 1 == m)) [
  | inl is ↦ (let same : p + 1 ≡ m = eqb-true (p + 1) m is in absurd (omega (arith, h, same)))
  | inr isnt ↦ isnt
]

-- the later siblings of a node
later_placed : (p n m : ℕ) (scope : Scope) → p < n → n < m → behind (placed p n scope) ≡ placed p m scope
later_placed p n m scope low more = behind_at (p + 1 == n) scope ∙ ap (λ (b : Bool). scope_at b scope) (sym (not_first p m (omega (arith, low, more))))

-- the first child of a node
first_placed : (n : ℕ) (scope : Scope) → placed n (n + 1) scope ≡ scope
first_placed n scope = ap (λ (b : Bool). scope_at b scope) (eq-eqb (n + 1) (n + 1) refl)

found : (scopes : List Scope) (p n : ℕ) (scope : Scope) (content : NodeData) → length scopes ≡ n → slice_get scopes p ≡ Some scope →
    next_scope scopes (Some p) content ≡ scope_below (placed p n scope) content
found scopes p n scope content long at =
    ap (option_and_then (λ s. scope_below (scope_at (p + 1 == length scopes) s) content)) at
    ∙ ap (λ (k : ℕ). scope_below (scope_at (p + 1 == k) scope) content) long

-- a row fits where its test holds and the rows after it fit
stepped : (ok : Bool) (content : NodeData) (p n : ℕ) (scope made : Scope) (scopes : List Scope) (rows : List Row) →
    length scopes ≡ n → slice_get scopes p ≡ Some scope → scope_below (placed p n scope) content ≡ (if ok then Some made else None) →
    all_fit scopes (below p content ∷ rows) ≡ (ok && all_fit (scopes ++ made ∷ []) rows)
stepped true content p n scope made scopes rows long at is =
    ap (λ (o : Option Scope). option_map_or (λ s. all_fit (scopes ++ s ∷ []) rows) o false) (found scopes p n scope content long at ∙ is)
stepped false content p n scope made scopes rows long at is =
    ap (λ (o : Option Scope). option_map_or (λ s. all_fit (scopes ++ s ∷ []) rows) o false) (found scopes p n scope content long at ∙ is)

pushed_at : (scopes : List Scope) (made scope : Scope) (p : ℕ) → slice_get scopes p ≡ Some scope → slice_get (scopes ++ made ∷ []) p ≡ Some scope
pushed_at scopes made scope p at = slice_get-before scopes made p (slice_get_within scopes p scope at) ∙ at

appended_at : (scopes more : List Scope) (scope : Scope) (p : ℕ) → slice_get scopes p ≡ Some scope → slice_get (scopes ++ more) p ≡ Some scope
appended_at scopes [] scope p at = ap (λ (s : List Scope). slice_get s p) (append-nil scopes) ∙ at
appended_at scopes (x ∷ more) scope p at =
    ap (λ (s : List Scope). slice_get s p) (sym (append_assoc scopes (x ∷ []) more)) ∙ appended_at (scopes ++ x ∷ []) more scope p (pushed_at scopes x scope p at)

-- what follows so many rows fits, whatever scopes these rows have
abbrev FitsAfter : List Scope → ℕ → List Row → Bool → Type 0
FitsAfter scopes count rest is = (more : List Scope) → length more ≡ count → all_fit (scopes ++ more) rest ≡ is

after_one : (scopes : List Scope) (made : Scope) (count : ℕ) (rest : List Row) (is : Bool) → FitsAfter scopes (1 + count) rest is → FitsAfter (scopes ++ made ∷ []) count rest is
after_one scopes made count rest is h more long = ap (λ (s : List Scope). all_fit s rest) (append_assoc scopes (made ∷ []) more) ∙ h (made ∷ more) (omega (arith, long))

-- the rows of some trees, and then others, fit where the trees are calm and the others fit
abbrev Walked : Scope → ℕ → ℕ → ValueTrees → Type 0
Walked scope p n trees = (scopes : List Scope) (rest : List Row) (is : Bool) → length scopes ≡ n → slice_get scopes p ≡ Some scope →
    FitsAfter scopes (size trees) rest is → all_fit scopes (rows_from p n trees ++ rest) ≡ (are_calm (placed p n scope) trees && is)

below_number : (scopes : List Scope) (p n : ℕ) (scope : Scope) → length scopes ≡ n → slice_get scopes p ≡ Some scope → p < n
below_number scopes p n scope long at = let within = slice_get_within scopes p scope at in omega (arith, long, within)

leaf_walked : (ok : Bool) (content : NodeData) (scope : Scope) (p n : ℕ) (later : ValueTrees) → scope_below (placed p n scope) content ≡ (if ok then Some (placed p n scope) else None) →
    Walked scope p (n + 1) later → (scopes : List Scope) (rest : List Row) (is : Bool) → length scopes ≡ n → slice_get scopes p ≡ Some scope →
    FitsAfter scopes (1 + size later) rest is → all_fit scopes (below p content ∷ (rows_from p (n + 1) later ++ rest)) ≡ ((ok && are_calm (behind (placed p n scope)) later) && is)
leaf_walked ok content scope p n later tests more scopes rest is long at after =
    let made = placed p n scope in
    let low = below_number scopes p n scope long at in
    stepped ok content p n scope made scopes (rows_from p (n + 1) later ++ rest) long at tests
    ∙ ap (λ (b : Bool). ok && b) (more (scopes ++ made ∷ []) rest is (length_push scopes made ∙ ap (λ k. k + 1) long) (pushed_at scopes made scope p at) (after_one scopes made (size later) rest is after))
    ∙ ap (λ (s : Scope). ok && (are_calm s later && is)) (sym (later_placed p n (n + 1) scope low (omega arith)))
    ∙ sym (and_assoc ok (are_calm (behind (placed p n scope)) later) is)

-- a template isn't calm
template_other : (name : List ℕ) → is_template name ≡ true → kind_of name ≡ Other
unfolding kind_of names_of
template_other name h = let is : codes "template" ≡ name = (bytes_eq-Decides (codes "template") name).0 h in sym (ap kind_of is)

holds_no_other : (kind : ElementCategory) → may_hold kind Other ≡ false
holds_no_other Document = refl
holds_no_other _ = refl

admits_no_other : (scope : Scope) → admits scope Other ≡ false
admits_no_other scope = ap (λ (b : Bool). b && not (bars scope Other)) (holds_no_other scope.parent)

walked : (trees : ValueTrees) (scope : Scope) (p n : ℕ) → Walked scope p n trees
walked no_trees scope p n scopes rest is long at after = ap (λ (s : List Scope). all_fit s rest) (sym (append-nil scopes)) ∙ after [] refl
walked (text_node contents later) scope p n scopes rest is long at after =
    leaf_walked (may_hold_text (placed p n scope).parent contents) (Text contents) scope p n later refl (walked later scope p (n + 1)) scopes rest is long at after
walked (comment_node contents later) scope p n scopes rest is long at after =
    leaf_walked (may_hold_comment (placed p n scope).parent contents) (Comment contents) scope p n later refl (walked later scope p (n + 1)) scopes rest is long at after
walked (doctype_node name public system later) scope p n scopes rest is long at after =
    leaf_walked (holds_doctype (placed p n scope).parent) (Doctype name public system) scope p n later refl (walked later scope p (n + 1)) scopes rest is long at after
walked (element_node name attributes children later) scope p n scopes rest is long at after =
    by_name (is_template name) refl (walked children (inside (placed p n scope) (kind_of name)) n (n + 1)) (walked later scope p (n + 1 + size children)) scopes rest is long at after
  where
    by_name : (t : Bool) → is_template name ≡ t → Walked (inside (placed p n scope) (kind_of name)) n (n + 1) children → Walked scope p (n + 1 + size children) later →
        (scopes : List Scope) (rest : List Row) (is : Bool) → length scopes ≡ n → slice_get scopes p ≡ Some scope → FitsAfter scopes (size (element_node name attributes children later)) rest is →
        all_fit scopes (rows_from p n (element_node name attributes children later) ++ rest) ≡ (are_calm (placed p n scope) (element_node name attributes children later) && is)
    by_name true t inner outer scopes rest is long at after =
        let here = placed p n scope in
        let none : admits here (kind_of name) ≡ false = ap (admits here) (template_other name t) ∙ admits_no_other here in
        let fragment : Row = record { parent = None; content = Fragment } in
        let rows : List Row = fragment ∷ ((rows_from (n + 1) (n + 2) children ++ rows_from p (n + 2 + size children) later) ++ rest) in
        rw t (
        stepped false (read_element name attributes (Some (n + 1))) p n scope scope scopes rows long at (ap (λ (b : Bool). if b then Some (inside here (kind_of name)) else None) none)
        ∙ sym (ap (λ (b : Bool). (b && are_calm (inside here (kind_of name)) children && are_calm (behind here) later) && is) none)
        )
    by_name false t inner outer scopes rest is long at after =
        let kind = kind_of name in
        let here = placed p n scope in
        let made = inside here kind in
        let low = below_number scopes p n scope long at in
        let first = rows_from n (n + 1) children in
        let second = rows_from p (n + 1 + size children) later in
        let all : FitsAfter scopes (1 + size children + size later) rest is = rw t at after in
        let scopes2 = scopes ++ made ∷ [] in
        let long2 : length scopes2 ≡ n + 1 = length_push scopes made ∙ ap (λ k. k + 1) long in
        let rest2 : FitsAfter scopes2 (size children) (second ++ rest) (are_calm (placed p (n + 1 + size children) scope) later && is) = λ more many.
        outer (scopes2 ++ more) rest is (omega (arith, length-append scopes2 more, long2, many)) (appended_at scopes2 more scope p (pushed_at scopes made scope p at))
        (λ last few. ap (λ (s : List Scope). all_fit s rest) (append_assoc scopes2 more last ∙ append_assoc scopes (made ∷ []) (more ++ last)) ∙ all (made ∷ (more ++ last)) (omega (arith, length-append more last, many, few))) in
        rw t (
        ap (λ (rows : List Row). all_fit scopes (below p (read_element name attributes None) ∷ rows)) (append_assoc first second rest)
        ∙ stepped (admits here kind) (read_element name attributes None) p n scope made scopes (first ++ (second ++ rest)) long at refl
        ∙ ap (λ (b : Bool). admits here kind && b) (inner scopes2 (second ++ rest) (are_calm (placed p (n + 1 + size children) scope) later && is) long2 (slice_get-there scopes made n (sym long)) rest2)
        ∙ ap (λ (s : Scope). admits here kind && (are_calm s children && (are_calm (placed p (n + 1 + size children) scope) later && is))) (first_placed n made)
        ∙ ap (λ (s : Scope). admits here kind && (are_calm made children && (are_calm s later && is))) (sym (later_placed p n (n + 1 + size children) scope low (omega arith)))
        ∙ sym (and_assoc (admits here kind) (are_calm made children) (are_calm (behind here) later && is))
        ∙ sym (and_assoc (admits here kind && are_calm made children) (are_calm (behind here) later) is)
        )

-- the rows below a document's root fit where its trees are calm at the top
pub rows_fit : (trees : ValueTrees) → all_fit (top ∷ []) (rows_from 0 1 trees) ≡ are_calm top trees
rows_fit trees = ap (all_fit (top ∷ [])) (sym (append-nil (rows_from 0 1 trees)))
    ∙ walked trees top 0 1 (top ∷ []) [] true refl refl (λ more many. refl)
    ∙ and_true (are_calm top trees)
  where
    and_true : (b : Bool) → (b && true) ≡ b
    and_true true = refl
    and_true false = refl

-- the first of the rows that are left
pub fits_next : (scopes : List Scope) (rows : List Row) (i : ℕ) (row : Row) → slice_get rows i ≡ Some row →
    all_fit scopes (drop i rows) ≡ option_map_or (λ s. all_fit (scopes ++ s ∷ []) (drop (suc i) rows)) (next_scope scopes row.parent row.content) false
fits_next scopes [] i row is = absurd (cc)
fits_next scopes (r ∷ rows) zero row is =
    let same : r ≡ row = cc in
    ap (λ (x : Row). option_map_or (λ s. all_fit (scopes ++ s ∷ []) rows) (next_scope scopes x.parent x.content) false) same
fits_next scopes (r ∷ rows) (suc i) row is = fits_next scopes rows i row is

-- past the last row nothing is left
pub fits_none : (scopes : List Scope) (rows : List Row) (i : ℕ) → length rows ≤ i → all_fit scopes (drop i rows) ≡ true
fits_none scopes [] i h = ap (all_fit scopes) (drop-nil i)
fits_none scopes (row ∷ rows) zero h = absurd (omega arith)
fits_none scopes (row ∷ rows) (suc i) h = fits_none scopes rows i (omega arith)
