-- What is known of each node of a page by itself.
use Rattle.std.proofs.Common.{ℕ, ◌≡◌, ◌<◌, ◌⊎◌, Bool, true, false, true≢false, List, [], ◌∷◌, ◌++◌, Some, inl, inr, sym, ap, ◌∙◌, subst, arith, append_assoc, append-nil, length, replicate}
use Rattle.std.specs.Prelude.{◌==◌, slice_get}
use Rattle.std.proofs.lemmas.Bool.{cases_Bool, eq-eqb, eqb-true, or_right}
use Rattle.std.proofs.lemmas.List.{get_or-replicate, length-replicate}
use Rattle.dom_links.specs.Forest.{Forest}
use Rattle.dom_links.specs.Laws.{AreLines}
use Rattle.dom_links.specs.Lists.{is_member}
use Rattle.dom_links.specs.Sound.{IsForest}
use Rattle.dom_links.specs.Trees.{descendants_in_order}
use Rattle.dom_links.proofs.forest.Depth.{here_stands}
use Rattle.dom_links.proofs.forest.Neighbours.{is_member-append}
use Rattle.dom_links.proofs.walks.Apart.{walk-inside}
use Rattle.dom_nodes.specs.declared.node_data.NodeData.{NodeData}
use Rattle.dom_nodes.specs.declared.node_data.NodeData.TheVariants.{Text, Element as AnElement}
use Rattle.dom_article.specs.Best.{facts_at}
use Rattle.dom_article.specs.Contents.{no_text}
use Rattle.dom_article.specs.Facts.{AreFacts, AreHeld, IsBare, IsElement, IsNode}
use Rattle.dom_article.specs.Known.{AreAlike, AreEachKnown, IsLookedAt, without_held}
use Rattle.dom_article.specs.Texts.{page_nodes}
use Rattle.dom_article.specs.declared.kinds.Kind.{Kind}
use Rattle.dom_article.specs.declared.kinds.Tag.{Tag}
use Rattle.dom_article.specs.declared.kinds.Tag.TheVariants.{Document}
use Rattle.dom_article.specs.declared.page.Facts.{Facts}
use Rattle.dom_article.specs.declared.texts.TextFacts.{TextFacts}
use Rattle.dom_article.specs.declared.words.Found.{Found}
use Rattle.dom_nodes.specs.declared.name.Attr.{Attr}
use Rattle.dom_article.proofs.GoneLemmas.{in_joined}
use Rattle.dom_article.proofs.SumLemmas.{root_apart}

-- ---- one node more

-- What is known of the nodes so far stays known when one more node is looked at.
pub known_more : (forest : Forest) (old new : List Facts) (ns : List ℕ) (n : ℕ) → IsForest forest → AreLines forest → is_member n (descendants_in_order forest 0) ≡ true →
    AreEachKnown forest old ns → IsLookedAt forest n old new → AreEachKnown forest new (ns ++ n ∷ [])
known_more forest old new ns n good lines stands was looks = record {
  long = looks.long ∙ was.long;
  root = subst (IsBare Document no_text false) (sym (looks.others 0 (λ e. true≢false (sym (subst (λ (k : ℕ). is_member k (descendants_in_order forest 0) ≡ true) (sym e) stands) ∙ root_apart forest good lines)))) was.root;
  each = λ m content s is. elim (same_or_not n m) [
    | inl e ↦ subst (λ (k : ℕ). IsNode content (facts_at new k)) e (looks.here content (subst (λ (k : ℕ). slice_get forest.content k ≡ Some content) (sym e) is) inside)
    | inr other ↦ subst (IsNode content) (sym (looks.others m (λ e. other (sym e)))) (was.each m content (elim (in_joined ns n m s) [ inl before ↦ before | inr e ↦ absurd (other e) ]) is)
  ];
}
  where
    inside : n < length old
    inside = let e = was.long in let k = walk-inside forest 0 n good stands in omega arith

    same_or_not : (a b : ℕ) → (a ≡ b) ⊎ (a ≡ b → ⊥)
    same_or_not a b = elim (cases_Bool (a == b)) [ inl t ↦ inl (eqb-true a b t) | inr f ↦ inr (λ e. true≢false (sym (eq-eqb a b e) ∙ f)) ]

-- The nodes of the order before those that are left were looked at.
abbrev pub KnownBefore : Forest → (order : List ℕ) → List Facts → (left : List ℕ) → Type 0
KnownBefore forest order facts left = (done : List ℕ) × (order ≡ done ++ left) × AreEachKnown forest facts done

pub known_none : (forest : Forest) (facts : List Facts) (document : Facts) (count : ℕ) → facts ≡ replicate count document → count ≡ length forest.content → IsForest forest →
    IsBare Document no_text false document → AreEachKnown forest facts []
known_none forest facts document count is long good bare = record {
  long = ap length is ∙ (length-replicate count document ∙ long);
  root = subst (IsBare Document no_text false) (sym (ap (λ (fs : List Facts). facts_at fs 0) is ∙ get_or-replicate count 0 document _ (let e = long in let k = good.rooted in omega arith))) bare;
  each = λ n content s is_content. absurd (true≢false (sym s));
}

-- The next node of the order.
pub known_on : (forest : Forest) (order : List ℕ) (old new : List Facts) (left rest : List ℕ) (n : ℕ) → IsForest forest → AreLines forest → order ≡ descendants_in_order forest 0 →
    left ≡ n ∷ rest → KnownBefore forest order old left → IsLookedAt forest n old new → KnownBefore forest order new rest
known_on forest order old new left rest n good lines ordered step (done, split, was) looks =
    let is : order ≡ done ++ n ∷ rest = split ∙ ap (λ ks. done ++ ks) step in
    let all : descendants_in_order forest 0 ≡ done ++ n ∷ rest = sym ordered ∙ is in
    let here : is_member n (descendants_in_order forest 0) ≡ true =
    ap (is_member n) all ∙ (is_member-append done (n ∷ rest) n ∙ or_right (is_member n done) _ (here_stands n rest)) in
    (done ++ n ∷ [], is ∙ sym (append_assoc done (n ∷ []) rest), known_more forest old new done n good lines here was looks)

-- All nodes of the order.
pub known_all : (forest : Forest) (order : List ℕ) (facts : List Facts) (left : List ℕ) → order ≡ descendants_in_order forest 0 → left ≡ [] →
    KnownBefore forest order facts left → AreEachKnown forest facts (descendants_in_order forest 0)
known_all forest order facts left ordered none (done, split, was) =
    let is : done ≡ descendants_in_order forest 0 = sym (append-nil done) ∙ (sym (ap (λ ks. done ++ ks) none) ∙ (sym split ∙ ordered)) in
    subst (AreEachKnown forest facts) is was

-- ---- facts that are alike

bare_alike : (tag : Tag) (text : TextFacts) (hidden : Bool) (one other : Facts) → without_held other ≡ without_held one → IsBare tag text hidden one → IsBare tag text hidden other
bare_alike tag text hidden one other same is = record {
  kind_is = ap (λ (f : Facts). f.kind) same ∙ is.kind_is;
  text_is = ap (λ (f : Facts). f.text) same ∙ is.text_is;
  weight = ap (λ (f : Facts). f.weight) same ∙ is.weight;
  is_main = ap (λ (f : Facts). f.is_main) same ∙ is.is_main;
  is_hidden = ap (λ (f : Facts). f.is_hidden) same ∙ is.is_hidden;
  has_role = ap (λ (f : Facts). f.has_role) same ∙ is.has_role;
  is_unlikely = ap (λ (f : Facts). f.is_unlikely) same ∙ is.is_unlikely;
  has_class = ap (λ (f : Facts). f.has_class) same ∙ is.has_class;
  is_raised = ap (λ (f : Facts). f.is_raised) same ∙ is.is_raised;
  is_link = ap (λ (f : Facts). f.is_link) same ∙ is.is_link;
  is_input = ap (λ (f : Facts). f.is_input) same ∙ is.is_input;
}

element_alike : (kind : Kind) (attrs : List Attr) (class id : Found) (one other : Facts) → without_held other ≡ without_held one →
    IsElement kind attrs class id one → IsElement kind attrs class id other
element_alike kind attrs class id one other same is = record {
  kind_is = ap (λ (f : Facts). f.kind) same ∙ is.kind_is;
  text = ap (λ (f : Facts). f.text) same ∙ is.text;
  weight = ap (λ (f : Facts). f.weight) same ∙ is.weight;
  is_main = ap (λ (f : Facts). f.is_main) same ∙ is.is_main;
  is_hidden = ap (λ (f : Facts). f.is_hidden) same ∙ is.is_hidden;
  has_role = ap (λ (f : Facts). f.has_role) same ∙ is.has_role;
  is_unlikely_is = ap (λ (f : Facts). f.is_unlikely) same ∙ is.is_unlikely_is;
  has_class = ap (λ (f : Facts). f.has_class) same ∙ is.has_class;
  is_raised = ap (λ (f : Facts). f.is_raised) same ∙ is.is_raised;
  is_link = ap (λ (f : Facts). f.is_link) same ∙ is.is_link;
  is_input = ap (λ (f : Facts). f.is_input) same ∙ is.is_input;
}

node_alike : (content : NodeData) (one other : Facts) → without_held other ≡ without_held one → IsNode content one → IsNode content other
node_alike (Text contents) one other same is = bare_alike _ _ _ one other same is
node_alike (AnElement e) one other same is = element_alike _ _ _ _ one other same is
node_alike _ one other same is = bare_alike _ _ _ one other same is

pub facts_known : (forest : Forest) (own facts : List Facts) → AreEachKnown forest own (descendants_in_order forest 0) → AreAlike own facts →
    AreHeld forest facts (page_nodes forest) → AreFacts forest facts
facts_known forest own facts known alike held = record {
  root = bare_alike _ _ _ (facts_at own 0) (facts_at facts 0) (alike.each 0) known.root;
  each = λ n content s is. node_alike content (facts_at own n) (facts_at facts n) (alike.each n) (known.each n content s is);
  holds = held;
}
