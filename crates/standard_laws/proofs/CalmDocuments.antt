-- Calm documents are plain pages.
use Rattle.std.specs.Prelude.{◌≡◌, ℕ, true, false, not, ◌==◌, ◌&&◌, List, [], ◌∷◌, codes, refl}
use Rattle.std.specs.List.{list_all}
use Rattle.std.specs.Str.{chars}
use Rattle.std.proofs.Math.Utf8.{encodes}
use Rattle.std.proofs.lemmas.Bool.{and_parts}
use Rattle.std.proofs.lemmas.Str.{chars-nil, encodes-chars}
use mathlib.Core.Path.{◌∙◌, sym, ap, subst}
use Rattle.dom_markup.specs.Bytes.{is_whitespace}
use Rattle.dom_markup.specs.Plain.{IsPlainTrees}
use Rattle.dom_markup.specs.ValueTrees.{Attribute, ValueTrees}
use Rattle.dom_markup.specs.ValueTrees.ValueTrees.{no_trees, doctype_node, element_node}
use Rattle.calm_pages.specs.Calm.{IsCalmDocument, admits, are_calm, behind, behind_text, inside, may_hold_text, top}
use Rattle.calm_pages.specs.declared.nesting.Scope.{Scope}
use Rattle.page_trees.specs.ElementKinds.{kind_of, names_of}
use Rattle.page_trees.specs.declared.element_kinds.ElementCategory.{ElementCategory}
use Rattle.page_trees.specs.declared.element_kinds.ElementCategory.TheVariants.{Html, Head, Body}
use Rattle.standard_rules.specs.Building.{is_space}
use Rattle.standard_rules.specs.PlainTrees.{FlowPlace, IsPlainPage, Page, are_plain, flow_contexts, outermost, page_trees, space_node}
use Rattle.standard_rules.specs.TreeTokens.{is_among, no_trees as no_nodes, text_node as text, doctype_node as doctype, element_node as element}
use Rattle.standard_rules.proofs.TreeLists.{of_each}
use Rattle.standard_laws.specs.CalmTrees.{have_no_null, scope_in}
use Rattle.standard_laws.proofs.PlainNodes.{place_in, plain_attrs, plain_nodes}
use Rattle.standard_laws.proofs.CalmPlain.{calm_is_plain}
use Rattle.standard_laws.proofs.CategoryPlaces.{is_inner}
use Rattle.standard_laws.proofs.CharTexts.{space_chars}

pub html_kind : kind_of (codes "html") ≡ Html
unfolding kind_of names_of
html_kind = refl

pub head_kind : kind_of (codes "head") ≡ Head
unfolding kind_of names_of
head_kind = refl

pub body_kind : kind_of (codes "body") ≡ Body
unfolding kind_of names_of
body_kind = refl

-- an element of that name and category: its children are calm, and so is what follows
pub calm_parts : (scope : Scope) (name : List ℕ) (kind : ElementCategory) (attributes : List Attribute) (children later : ValueTrees) → kind_of name ≡ kind →
    are_calm scope (element_node name attributes children later) ≡ true → (are_calm (inside scope kind) children ≡ true) × (are_calm (behind scope) later ≡ true)
calm_parts scope name kind attributes children later is c =
    let h : ((admits scope (kind_of name) && are_calm (inside scope (kind_of name)) children) ≡ true) × (are_calm (behind scope) later ≡ true) =
    and_parts (admits scope (kind_of name) && are_calm (inside scope (kind_of name)) children) (are_calm (behind scope) later) c in
    (ap (λ k. are_calm (inside scope k) children) (sym is) ∙ (and_parts (admits scope (kind_of name)) (are_calm (inside scope (kind_of name)) children) h.0).1, h.1)

-- the element `body`
body_plain : (attributes : List Attribute) (body : ValueTrees) → are_calm (inside top Html) (element_node (codes "body") attributes body no_trees) ≡ true → IsPlainTrees false body →
    have_no_null body ≡ true → are_plain (outermost FlowPlace) (plain_nodes body) ≡ true
body_plain attributes body c p z = calm_is_plain (inside (inside top Html) Body) body refl p z (calm_parts (inside top Html) (codes "body") Body attributes body no_trees body_kind c).0

record Rest (space : List ℕ) (attributes : List Attribute) (body : ValueTrees) : Type 0 where
  white : list_all is_space (chars space) ≡ true
  contents : are_plain (outermost FlowPlace) (plain_nodes body) ≡ true
  is : plain_nodes (behind_text space (element_node (codes "body") attributes body no_trees)) ≡ space_node (chars space) (element (codes "body") (plain_attrs attributes) (plain_nodes body) no_nodes)

-- white space, if any, and the body
rest_plain : (space : List ℕ) (attributes : List Attribute) (body : ValueTrees) → are_calm (inside top Html) (behind_text space (element_node (codes "body") attributes body no_trees)) ≡ true →
    IsPlainTrees false (behind_text space (element_node (codes "body") attributes body no_trees)) → have_no_null (behind_text space (element_node (codes "body") attributes body no_trees)) ≡ true →
    Rest space attributes body
rest_plain [] attributes body c p z =
    let none : [] ≡ chars [] = sym chars-nil in
    record {
      white = ap (list_all is_space) (sym none);
      contents = body_plain attributes body c p.5 (and_parts (have_no_null body) true z).0;
      is = ap (λ s. space_node s (element (codes "body") (plain_attrs attributes) (plain_nodes body) no_nodes)) none;
    }
rest_plain (b ∷ space) attributes body c p z =
    let e : ValueTrees = element_node (codes "body") attributes body no_trees in
    let h : (may_hold_text Html (b ∷ space) ≡ true) × (are_calm (inside top Html) e ≡ true) = and_parts (list_all is_whitespace (b ∷ space)) (are_calm (inside top Html) e) c in
    let n : (list_all (λ c. not (c == 0)) (chars (b ∷ space)) ≡ true) × (have_no_null e ≡ true) = and_parts (list_all (λ c. not (c == 0)) (chars (b ∷ space))) (have_no_null e) z in
    record {
      white = space_chars (b ∷ space) p.1 h.0;
      contents = body_plain attributes body h.1 p.3.5 (and_parts (have_no_null body) true n.1).0;
      is = by_chars (chars (b ∷ space)) refl;
    }
  where
    by_chars : (cs : List ℕ) → chars (b ∷ space) ≡ cs →
        text (chars (b ∷ space)) (element (codes "body") (plain_attrs attributes) (plain_nodes body) no_nodes) ≡ space_node (chars (b ∷ space)) (element (codes "body") (plain_attrs attributes) (plain_nodes body) no_nodes)
    by_chars [] f = absurd (p.0 (sym (encodes-chars (b ∷ space) p.1) ∙ ap encodes f))
    by_chars (x ∷ xs) f =
        ap (λ s. text s (element (codes "body") (plain_attrs attributes) (plain_nodes body) no_nodes)) f ∙ sym (ap (λ s. space_node s (element (codes "body") (plain_attrs attributes) (plain_nodes body) no_nodes)) f)

document : (html head_attributes body_attributes : List Attribute) (head : ValueTrees) (space : List ℕ) (body : ValueTrees) → ValueTrees
document html head_attributes body_attributes head space body = doctype_node (codes "html") [] [] (element_node (codes "html") html
    (element_node (codes "head") head_attributes head (behind_text space (element_node (codes "body") body_attributes body no_trees))) no_trees)

-- a calm document is a plain page
pub record PlainDocument (t : ValueTrees) : Type 0 where
  pub page : Page
  pub same : plain_nodes t ≡ page_trees page
  pub plain : IsPlainPage page

document_plain : (html head_attributes body_attributes : List Attribute) (head : ValueTrees) (space : List ℕ) (body : ValueTrees) →
    are_calm top (document html head_attributes body_attributes head space body) ≡ true → IsPlainTrees true (document html head_attributes body_attributes head space body) →
    have_no_null (document html head_attributes body_attributes head space body) ≡ true → PlainDocument (document html head_attributes body_attributes head space body)
unfolding document
document_plain html head_attributes body_attributes head space body c p z =
    let rest : ValueTrees = behind_text space (element_node (codes "body") body_attributes body no_trees) in
    let inner : ValueTrees = element_node (codes "head") head_attributes head rest in
    let outer : (are_calm (inside top Html) inner ≡ true) × (are_calm top no_trees ≡ true) = calm_parts top (codes "html") Html html inner no_trees html_kind c in
    let parts : (are_calm (inside (inside top Html) Head) head ≡ true) × (are_calm (inside top Html) rest ≡ true) = calm_parts (inside top Html) (codes "head") Head head_attributes head rest head_kind outer.0 in
    let n : (have_no_null head ≡ true) × (have_no_null rest ≡ true) = and_parts (have_no_null head) (have_no_null rest) (and_parts (have_no_null inner) true z).0 in
    let r : Rest space body_attributes body = rest_plain space body_attributes body parts.1 p.4.5.6 n.1 in
    record {
      page = record { html = plain_attrs html; head = plain_attrs head_attributes; metadata = plain_nodes head; space = chars space; body = plain_attrs body_attributes; contents = plain_nodes body };
      same = ap (λ t. doctype (codes "html") (element (codes "html") (plain_attrs html) (element (codes "head") (plain_attrs head_attributes) (plain_nodes head) t) no_nodes)) r.is;
      plain = record { metadata = calm_is_plain (inside (inside top Html) Head) head refl p.4.5.5 n.0 parts.0; space = r.white; contents = r.contents };
    }

pub calm_document_plain : (t : ValueTrees) → IsCalmDocument t → IsPlainTrees true t → have_no_null t ≡ true → PlainDocument t
unfolding document
calm_document_plain t d p z =
    let same : t ≡ document d.html_attributes d.head_attributes d.body_attributes d.head d.space d.body = d.is in
    subst PlainDocument (sym same)
    (document_plain d.html_attributes d.head_attributes d.body_attributes d.head d.space d.body (ap (are_calm top) (sym same) ∙ d.calm) (subst (IsPlainTrees true) same p) (ap have_no_null (sym same) ∙ z))

-- what the category of a context is to the rules
FlowContext : List ℕ → Type 0
FlowContext context = (is_inner (kind_of context) ≡ true) × (place_in (kind_of context) ≡ FlowPlace)

contexts : (context : List ℕ) → is_among context flow_contexts ≡ true → FlowContext context
unfolding kind_of names_of FlowContext
contexts = of_each (λ context. (is_inner (kind_of context) ≡ true) × (place_in (kind_of context) ≡ FlowPlace)) flow_contexts ((refl, refl), ((refl, refl), ((refl, refl), ((refl, refl), ((refl, refl), tt)))))

pub inner_context : (context : List ℕ) → is_among context flow_contexts ≡ true → is_inner (kind_of context) ≡ true
unfolding FlowContext
inner_context context is = (contexts context is).0

-- the same of calm trees in such a context
pub calm_fragment_plain : (context : List ℕ) (t : ValueTrees) → is_among context flow_contexts ≡ true → are_calm (scope_in context) t ≡ true → IsPlainTrees false t → have_no_null t ≡ true →
    are_plain (outermost FlowPlace) (plain_nodes t) ≡ true
unfolding FlowContext
calm_fragment_plain context t is c p z =
    let k : (is_inner (kind_of context) ≡ true) × (place_in (kind_of context) ≡ FlowPlace) = contexts context is in
    ap (λ place. are_plain (outermost place) (plain_nodes t)) (sym k.1) ∙ calm_is_plain (scope_in context) t k.0 p z c
