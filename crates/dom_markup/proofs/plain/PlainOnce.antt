-- Nodes stand for one list of trees at most.
use Rattle.std.proofs.Common.{◌≡◌, ℕ, Bool, true, false, List, [], ◌∷◌, Option, Some, None, refl, sym, ap, ◌∙◌, subst, slice_get}
use Rattle.std.proofs.lemmas.Bool.Decides.{when_true, when_false}
use Rattle.std.proofs.lemmas.Option.{same_Some}
use Rattle.dom_nodes.specs.declared.name.Attr.{Attr}
use Rattle.dom_nodes.specs.declared.node_data.NodeData.{NodeData}
use Rattle.dom_nodes.specs.declared.node_data.NodeData.TheVariants.{Element as AnElement}
use Rattle.dom_nodes.specs.Elements.{Element as ElementData}
use Rattle.dom_links.specs.Forest.{Forest, children_of}
use Rattle.dom_markup.specs.Names.{is_template}
use Rattle.dom_markup.specs.ValueTrees.{Attribute, ValueTrees}
use Rattle.dom_markup.specs.ValueTrees.ValueTrees.{no_trees, text_node, comment_node, doctype_node, element_node}
use Rattle.dom_markup.specs.Plain.{html_element, IsElement, Represents, StandForAttributes}

-- the first node and what it holds are determined
record SameFirst (x y : NodeData) (xs ys : List ℕ) : Type 0 where
  holds : x ≡ y
  others : xs ≡ ys

same_first : (forest : Forest) (ns : List ℕ) (n m : ℕ) (xs ys : List ℕ) (x y : NodeData) → ns ≡ n ∷ xs → ns ≡ m ∷ ys → slice_get forest.content n ≡ Some x → slice_get forest.content m ≡ Some y → SameFirst x y xs ys
same_first forest ns n m xs ys x y p q a b =
    let both : n ∷ xs ≡ m ∷ ys = sym p ∙ q in
    let number : n ≡ m = cc in
    record {
      holds = same_Some x y (sym a ∙ (ap (slice_get forest.content) number ∙ b));
      others = cc;
    }

not_empty : (ns : List ℕ) (n : ℕ) (xs : List ℕ) → ns ≡ [] → ns ≡ n ∷ xs → ⊥
not_empty ns n xs p q = let no : [] ≡ n ∷ xs = sym p ∙ q in cc

attribute_same : (a b : Attribute) → a.name ≡ b.name → a.value ≡ b.value → a ≡ b
attribute_same a b e f = ap (λ (n : List ℕ). record { name = n; value = a.value }) e ∙ ap (λ (v : List ℕ). record { name = b.name; value = v }) f

attributes_same : (attrs : List Attr) (xs ys : List Attribute) → StandForAttributes attrs xs → StandForAttributes attrs ys → xs ≡ ys
attributes_same [] [] [] p q = refl
attributes_same [] [] (y ∷ ys) p q = absurd q
attributes_same [] (x ∷ xs) ys p q = absurd p
attributes_same (a ∷ attrs) [] ys p q = absurd p
attributes_same (a ∷ attrs) (x ∷ xs) [] p q = absurd q
attributes_same (a ∷ attrs) (x ∷ xs) (y ∷ ys) p q =
    ap (λ t. t ∷ xs) (attribute_same x y (sym p.1 ∙ q.1) (sym p.2 ∙ q.2)) ∙ ap (λ t. y ∷ t) (attributes_same attrs xs ys p.3 q.3)

record SameElement (name other : List ℕ) (attrs more : List Attr) (contents inner : Option ℕ) : Type 0 where
  names : name ≡ other
  attributes : attrs ≡ more
  same_contents : contents ≡ inner

same_data : (x y : ElementData) → AnElement x ≡ AnElement y → x ≡ y
same_data x y is = cc

element_parts : (name other : List ℕ) (attrs more : List Attr) (contents inner : Option ℕ) (flag mark : Bool) → html_element name attrs contents flag ≡ html_element other more inner mark → SameElement name other attrs more contents inner
element_parts name other attrs more contents inner flag mark is =
    let both = same_data _ _ is in
    record { names = ap (λ e. e.name.local) both; attributes = ap (λ e. e.attrs) both; same_contents = ap (λ e. e.template_contents) both }

first_number : (ns : List ℕ) (n m : ℕ) (xs ys : List ℕ) → ns ≡ n ∷ xs → ns ≡ m ∷ ys → n ≡ m
first_number ns n m xs ys p q = let both : n ∷ xs ≡ m ∷ ys = sym p ∙ q in cc

below_of : (forest : Forest) (n m : ℕ) (name other : List ℕ) (xs ys : List Attribute) (below under : List ℕ) → n ≡ m → name ≡ other → (p : IsElement forest n name xs below) (q : IsElement forest m other ys under) → p.contents ≡ q.contents → below ≡ under
below_of forest n m name other xs ys below under number names p q same = by_name (is_template name) p.contents q.contents refl refl refl same
  where
    by_name : (t : Bool) (c d : Option ℕ) → is_template name ≡ t → p.contents ≡ c → q.contents ≡ d → c ≡ d → below ≡ under
    by_name false c d t a b e = (when_false _ _ t p.holds).1 ∙ (ap (children_of forest) number ∙ sym (when_false _ _ (ap is_template (sym names) ∙ t) q.holds).1)
    by_name true None d t a b e = absurd (rw a at (when_true _ _ t p.holds))
    by_name true (Some c) None t a b e = absurd (rw b at (when_true _ _ (ap is_template (sym names) ∙ t) q.holds))
    by_name true (Some c) (Some d) t a b e =
        let one : (children_of forest n ≡ []) × (below ≡ children_of forest c) = rw a at (when_true _ _ t p.holds) in
        let two : (children_of forest m ≡ []) × (under ≡ children_of forest d) = rw b at (when_true _ _ (ap is_template (sym names) ∙ t) q.holds) in
        one.1 ∙ (ap (children_of forest) (same_Some c d e) ∙ sym two.1)

-- nodes stand for one list of trees at most
pub represents_same : (forest : Forest) (ns : List ℕ) (t u : ValueTrees) → Represents forest ns t → Represents forest ns u → t ≡ u
represents_same forest ns no_trees no_trees a b = refl
represents_same forest ns no_trees (text_node d after) a b = absurd (not_empty ns b.0 b.1 a b.2)
represents_same forest ns no_trees (comment_node d after) a b = absurd (not_empty ns b.0 b.1 a b.2)
represents_same forest ns no_trees (doctype_node d q r after) a b = absurd (not_empty ns b.0 b.1 a b.2)
represents_same forest ns no_trees (element_node m ys below after) a b = absurd (not_empty ns b.0 b.1 a b.3)
represents_same forest ns (text_node c later) no_trees a b = absurd (not_empty ns a.0 a.1 b a.2)
represents_same forest ns (text_node c later) (text_node d after) a b =
    let first = same_first forest ns a.0 b.0 a.1 b.1 _ _ a.2 b.2 a.3 b.3 in
    let more = represents_same forest a.1 later after a.4 (subst (λ (l : List ℕ). Represents forest l after) (sym first.others) b.4) in
    let contents : c ≡ d = cc (first.holds) in
    ap (λ x. text_node x later) contents ∙ ap (λ x. text_node d x) more
represents_same forest ns (text_node c later) (comment_node d after) a b = let is = (same_first forest ns a.0 b.0 a.1 b.1 _ _ a.2 b.2 a.3 b.3).holds in absurd (cc)
represents_same forest ns (text_node c later) (doctype_node d q r after) a b = let is = (same_first forest ns a.0 b.0 a.1 b.1 _ _ a.2 b.2 a.3 b.3).holds in absurd (cc)
represents_same forest ns (text_node c later) (element_node m ys below after) a b = let is = (same_first forest ns a.0 b.0 a.1 b.1 _ _ a.2 b.3 a.3 b.4.read).holds in absurd (cc)
represents_same forest ns (comment_node c later) no_trees a b = absurd (not_empty ns a.0 a.1 b a.2)
represents_same forest ns (comment_node c later) (text_node d after) a b = let is = (same_first forest ns a.0 b.0 a.1 b.1 _ _ a.2 b.2 a.3 b.3).holds in absurd (cc)
represents_same forest ns (comment_node c later) (comment_node d after) a b =
    let first = same_first forest ns a.0 b.0 a.1 b.1 _ _ a.2 b.2 a.3 b.3 in
    let more = represents_same forest a.1 later after a.4 (subst (λ (l : List ℕ). Represents forest l after) (sym first.others) b.4) in
    let contents : c ≡ d = cc (first.holds) in
    ap (λ x. comment_node x later) contents ∙ ap (λ x. comment_node d x) more
represents_same forest ns (comment_node c later) (doctype_node d q r after) a b = let is = (same_first forest ns a.0 b.0 a.1 b.1 _ _ a.2 b.2 a.3 b.3).holds in absurd (cc)
represents_same forest ns (comment_node c later) (element_node m ys below after) a b = let is = (same_first forest ns a.0 b.0 a.1 b.1 _ _ a.2 b.3 a.3 b.4.read).holds in absurd (cc)
represents_same forest ns (doctype_node c p s later) no_trees a b = absurd (not_empty ns a.0 a.1 b a.2)
represents_same forest ns (doctype_node c p s later) (text_node d after) a b = let is = (same_first forest ns a.0 b.0 a.1 b.1 _ _ a.2 b.2 a.3 b.3).holds in absurd (cc)
represents_same forest ns (doctype_node c p s later) (comment_node d after) a b = let is = (same_first forest ns a.0 b.0 a.1 b.1 _ _ a.2 b.2 a.3 b.3).holds in absurd (cc)
represents_same forest ns (doctype_node c p s later) (doctype_node d q r after) a b =
    let first = same_first forest ns a.0 b.0 a.1 b.1 _ _ a.2 b.2 a.3 b.3 in
    let more = represents_same forest a.1 later after a.4 (subst (λ (l : List ℕ). Represents forest l after) (sym first.others) b.4) in
    let name : c ≡ d = cc (first.holds) in
    let public : p ≡ q = cc (first.holds) in
    let system : s ≡ r = cc (first.holds) in
    cc
represents_same forest ns (doctype_node c p s later) (element_node m ys below after) a b = let is = (same_first forest ns a.0 b.0 a.1 b.1 _ _ a.2 b.3 a.3 b.4.read).holds in absurd (cc)
represents_same forest ns (element_node n xs children later) no_trees a b = absurd (not_empty ns a.0 a.1 b a.3)
represents_same forest ns (element_node n xs children later) (text_node d after) a b = let is = (same_first forest ns a.0 b.0 a.1 b.1 _ _ a.3 b.2 a.4.read b.3).holds in absurd (cc)
represents_same forest ns (element_node n xs children later) (comment_node d after) a b = let is = (same_first forest ns a.0 b.0 a.1 b.1 _ _ a.3 b.2 a.4.read b.3).holds in absurd (cc)
represents_same forest ns (element_node n xs children later) (doctype_node d q r after) a b = let is = (same_first forest ns a.0 b.0 a.1 b.1 _ _ a.3 b.2 a.4.read b.3).holds in absurd (cc)
represents_same forest ns (element_node n xs children later) (element_node m ys below after) a b =
    let first = same_first forest ns a.0 b.0 a.1 b.1 _ _ a.3 b.3 a.4.read b.4.read in
    let parts = element_parts n m a.4.attrs b.4.attrs a.4.contents b.4.contents a.4.flag b.4.flag first.holds in
    let number : a.0 ≡ b.0 = first_number ns a.0 b.0 a.1 b.1 a.3 b.3 in
    let attributes : xs ≡ ys = attributes_same b.4.attrs xs ys (subst (λ k. StandForAttributes k xs) parts.attributes a.4.named) b.4.named in
    let under : a.2 ≡ b.2 = below_of forest a.0 b.0 n m xs ys a.2 b.2 number parts.names a.4 b.4 parts.same_contents in
    let inner = represents_same forest a.2 children below a.5 (subst (λ (l : List ℕ). Represents forest l below) (sym under) b.5) in
    let more = represents_same forest a.1 later after a.6 (subst (λ (l : List ℕ). Represents forest l after) (sym first.others) b.6) in
    ap (λ x. element_node x xs children later) parts.names ∙ (ap (λ x. element_node m x children later) attributes ∙ (ap (λ x. element_node m ys x later) inner ∙ ap (λ x. element_node m ys below x) more))
