-- A calm document has the shape of a page, with whitespace between its head and its body at most.
use Rattle.std.proofs.Common.{◌≡◌, ℕ, true, List, [], ◌∷◌, ◌++◌, Some, refl, sym, ap, subst, ◌∙◌}
use Rattle.std.specs.Prelude.{codes, filter, find, not, slice_get}
use Rattle.dom_nodes.specs.declared.node_data.NodeData.TheVariants.{Doctype}
use Rattle.dom_nodes.specs.Kinds.{is_comment, is_doctype}
use Rattle.dom_links.specs.Forest.{Forest, children_of}
use Rattle.dom_links.specs.ListMoves.{element_at}
use Rattle.dom_links.specs.Lists.{first, last}
use Rattle.dom_trees.specs.Views.{node_is}
use Rattle.dom_markup.specs.Numbered.{document_of}
use Rattle.dom_markup.specs.Plain.{IsElement, Represents}
use Rattle.dom_markup.specs.ValueTrees.{Attribute, ValueTrees}
use Rattle.dom_markup.specs.ValueTrees.ValueTrees.{no_trees, doctype_node, element_node}
use Rattle.dom_markup.proofs.plain.PlainRows.{document-represents}
use Rattle.calm_pages.specs.Calm.{IsCalmDocument, behind_text, has_elements_at_ends, is_element_at}
use Rattle.page_trees.specs.Shape.{IsPage, besides_comments, elements_of, is_html}

-- the shape of a page whose element `html` holds whitespace between its parts alone
pub record IsCalmShape (f : Forest) : Type 0 where
  pub page : IsPage f
  pub ends : has_elements_at_ends f ≡ true

-- a head and a body, and what stands between them is no element
parted : (f : Forest) (n m h d : ℕ) (between : List ℕ) (a b c : List Attribute) (below below_head below_body : List ℕ) →
    children_of f 0 ≡ n ∷ m ∷ [] → children_of f m ≡ h ∷ (between ++ d ∷ []) → slice_get f.content n ≡ Some (Doctype (codes "html") [] []) →
    IsElement f m (codes "html") a below → IsElement f h (codes "head") b below_head → IsElement f d (codes "body") c below_body →
    filter (element_at f) (between ++ d ∷ []) ≡ d ∷ [] → last (h ∷ (between ++ d ∷ [])) ≡ Some d → IsCalmShape f
parted f n m h d between a b c below below_head below_body all inner doctype_is html_is head_is body_is alone closes =
    let besides : besides_comments f 0 ≡ n ∷ m ∷ [] = ap (filter (λ child. not (node_is is_comment f child))) all ∙ rw (doctype_is, html_is.read) refl in
    let elements : elements_of f m ≡ h ∷ d ∷ [] = ap (filter (element_at f)) inner ∙ rw (head_is.read, alone) refl in
    let doctype : node_is is_doctype f n ≡ true = rw doctype_is refl in
    let html : is_html f m (codes "html") ≡ true = rw html_is.read refl in
    let one : is_html f h (codes "head") ≡ true = rw head_is.read refl in
    let two : is_html f d (codes "body") ≡ true = rw body_is.read refl in
    let root : find (element_at f) (children_of f 0) ≡ Some m = ap (find (element_at f)) all ∙ rw (doctype_is, html_is.read) refl in
    let begins : is_element_at f (first (children_of f m)) ≡ true = ap (λ ns. is_element_at f (first ns)) inner ∙ rw head_is.read refl in
    let ends : is_element_at f (last (children_of f m)) ≡ true = ap (λ ns. is_element_at f (last ns)) inner ∙ (ap (is_element_at f) closes ∙ rw body_is.read refl) in
    record {
      page = rw (besides, doctype, html, elements, one, two) refl;
      ends = rw (root, begins, ends) refl;
    }

abbrev body_trees : List Attribute → ValueTrees → ValueTrees
body_trees c body = element_node (codes "body") c body no_trees

abbrev page_trees : List Attribute → List Attribute → ValueTrees → ValueTrees → ValueTrees
page_trees a b head later = doctype_node (codes "html") [] [] (element_node (codes "html") a (element_node (codes "head") b head later) no_trees)

page_shaped : (f : Forest) (a b c : List Attribute) (head body : ValueTrees) (space : List ℕ) →
    Represents f (children_of f 0) (page_trees a b head (behind_text space (body_trees c body))) → IsCalmShape f
page_shaped f a b c head body [] (n, _, tops, doctype_is, (m, _, below, tops2, html_is, (h, _, under_head, parts, head_is, _, (d, _, under_body, parts2, body_is, _, parts3)), tops3)) =
    let all : children_of f 0 ≡ n ∷ m ∷ [] = tops ∙ ap (λ (ns : List ℕ). n ∷ ns) (tops2 ∙ ap (λ (ns : List ℕ). m ∷ ns) tops3) in
    let held : below ≡ h ∷ d ∷ [] = parts ∙ ap (λ (ns : List ℕ). h ∷ ns) (parts2 ∙ ap (λ (ns : List ℕ). d ∷ ns) parts3) in
    let inner : children_of f m ≡ h ∷ d ∷ [] = sym html_is.holds.1 ∙ held in
    parted f n m h d [] a b c below under_head under_body all inner doctype_is html_is head_is body_is (rw body_is.read refl) refl
page_shaped f a b c head body (s ∷ more) (n, _, tops, doctype_is, (m, _, below, tops2, html_is, (h, _, under_head, parts, head_is, _, (t, _, parts1, text_is, (d, _, under_body, parts2, body_is, _, parts3))), tops3)) =
    let all : children_of f 0 ≡ n ∷ m ∷ [] = tops ∙ ap (λ (ns : List ℕ). n ∷ ns) (tops2 ∙ ap (λ (ns : List ℕ). m ∷ ns) tops3) in
    let later = parts2 ∙ ap (λ (ns : List ℕ). d ∷ ns) parts3 in
    let held : below ≡ h ∷ t ∷ d ∷ [] = parts ∙ ap (λ (ns : List ℕ). h ∷ ns) (parts1 ∙ ap (λ (ns : List ℕ). t ∷ ns) later) in
    let inner : children_of f m ≡ h ∷ t ∷ d ∷ [] = sym html_is.holds.1 ∙ held in
    let alone : filter (element_at f) (t ∷ d ∷ []) ≡ d ∷ [] = rw (text_is, body_is.read) refl in
    parted f n m h d (t ∷ []) a b c below under_head under_body all inner doctype_is html_is head_is body_is alone refl

pub calm_shape : (trees : ValueTrees) → IsCalmDocument trees → IsCalmShape (document_of trees)
calm_shape trees calm =
    page_shaped (document_of trees) calm.html_attributes calm.head_attributes calm.body_attributes calm.head calm.body calm.space
    (subst (λ (ts : ValueTrees). Represents (document_of trees) (children_of (document_of trees) 0) ts) calm.is (document-represents trees))
