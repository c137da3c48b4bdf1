-- The edges of trees are written as the trees.
use Rattle.std.proofs.Common.{◌≡◌, ℕ, Bool, true, false, List, [], ◌∷◌, ◌++◌, Some, refl, sym, ◌∙◌, ap, append_assoc, append-nil, slice_get, inl, inr}
use Rattle.std.proofs.lemmas.Bool.{cases_Bool}
use Rattle.std.proofs.lemmas.Grind.{flat_map-append}
use Rattle.std.proofs.lemmas.Option.{slice_get_cases}
use Rattle.dom_nodes.specs.declared.node_data.NodeData.{NodeData}
use Rattle.dom_nodes.specs.declared.node_data.NodeData.TheVariants.{Document, Fragment, Doctype, Text, Comment, ProcessingInstruction, Element as AnElement}
use Rattle.dom_links.specs.Forest.{Forest, children_of}
use Rattle.dom_links.specs.Trees.{Trees, NoTrees, Tree, trees}
use Rattle.dom_markup.specs.Html.{end_tag, following, html_of, inner_html_of, is_bare, is_void, keeps_texts, opening, trees_text}
use Rattle.dom_markup.specs.EdgeTexts.{edge_text, edges_text, entered, written_nodes}
use Rattle.dom_links.specs.Edges.{child_edges, edges, edges_inside, mark_below, mark_of, node_edges}
use Rattle.dom_links.specs.declared.edges.Edge.{Edge}
use Rattle.dom_links.specs.declared.edges.Edge.TheVariants.{Close}

inside-text : (forest : Forest) (n : ℕ) (content : NodeData) (contents children : List Edge) → slice_get forest.content n ≡ Some content →
    edges_text forest (edges_inside n (entered content) contents children) ≡ following content (edges_text forest contents) (edges_text forest children)
inside-text forest n Document contents children read = flat_map-append (edge_text forest) children (Close n ∷ []) ∙ rw read (append-nil _)
inside-text forest n Fragment contents children read = flat_map-append (edge_text forest) children (Close n ∷ []) ∙ rw read (append-nil _)
inside-text forest n (AnElement e) contents children read =
    elim (cases_Bool (is_void e)) as (λ t. edges_text forest (edges_inside n (entered (AnElement e)) contents children) ≡ following (AnElement e) (edges_text forest contents) (edges_text forest children)) [
      | inl t ↦ rw t refl
      | inr f ↦ rw f (flat_map-append (edge_text forest) contents (children ++ Close n ∷ []) ∙ ap (λ t. edges_text forest contents ++ t) (flat_map-append (edge_text forest) children (Close n ∷ [])
          ∙ rw read (ap (λ t. edges_text forest children ++ t) (append-nil (end_tag e.name.local)))))
    ]
inside-text forest n (Doctype name public system) contents children read = refl
inside-text forest n (Text text) contents children read = refl
inside-text forest n (Comment text) contents children read = refl
inside-text forest n (ProcessingInstruction target text) contents children read = refl

trees-text : (forest : Forest) (raw : Bool) (ts : Trees) → edges_text forest (edges written_nodes forest raw ts) ≡ trees_text forest raw ts
trees-text forest raw NoTrees = refl
trees-text forest raw (Tree n contents children later) = elim ((slice_get_cases forest.content n).1) [
  | inr past ↦ rw past.1 (trees-text forest raw later)
  | inl found ↦ (
      let content = found.0 in
      let read = found.2 in
      let first = opening content raw in
      let inner = edges written_nodes forest false contents in
      let below = edges written_nodes forest (keeps_texts content) children in
      let mine = edges_inside n (entered content) inner below in
      let others = edges written_nodes forest raw later in
      let node = inside-text forest n content inner below read in
      rw read (ap (λ t. first ++ t) (flat_map-append (edge_text forest) mine others ∙ (ap (λ t. t ++ edges_text forest others) node
      ∙ (ap (λ t. following content t (edges_text forest below) ++ edges_text forest others) (trees-text forest false contents)
      ∙ (ap (λ t. following content (trees_text forest false contents) t ++ edges_text forest others) (trees-text forest (keeps_texts content) children)
      ∙ ap (λ t. following content (trees_text forest false contents) (trees_text forest (keeps_texts content) children) ++ t) (trees-text forest raw later)))))
      ∙ sym (append_assoc first (following content (trees_text forest false contents) (trees_text forest (keeps_texts content) children)) (trees_text forest raw later)))
      )
]

-- where the forest is a tree's
pub node-text : (forest tree : Forest) → forest ≡ tree → (n : ℕ) (es : List Edge) → es ≡ node_edges written_nodes forest n → html_of tree n ≡ edges_text forest es
unfolding html_of
node-text forest tree same n es is = sym (ap (edges_text forest) is ∙ (trees-text forest (mark_of written_nodes forest n) (trees forest (n ∷ [])) ∙ ap (λ f. html_of f n) same))

pub children-text : (forest tree : Forest) → forest ≡ tree → (n : ℕ) (es : List Edge) → is_bare forest n ≡ false → es ≡ child_edges written_nodes forest n → inner_html_of tree n ≡ edges_text forest es
unfolding inner_html_of
children-text forest tree same n es open_here is =
    let here : inner_html_of forest n ≡ trees_text forest (mark_below written_nodes forest n) (trees forest (children_of forest n)) = rw open_here refl in
    sym (ap (edges_text forest) is ∙ (trees-text forest (mark_below written_nodes forest n) (trees forest (children_of forest n)) ∙ (sym here ∙ ap (λ f. inner_html_of f n) same)))

pub bare-text : (forest tree : Forest) → forest ≡ tree → (n : ℕ) → is_bare forest n ≡ true → inner_html_of tree n ≡ []
unfolding inner_html_of
bare-text forest tree same n bare = ap (λ f. inner_html_of f n) (sym same) ∙ rw bare refl
