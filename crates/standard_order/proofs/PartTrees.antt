-- In the modes of the body, what is done to the tree leaves the child elements of `html` and which open elements stand on which.
use Rattle.std.specs.Prelude.{◌≡◌, ◌&&◌, ◌||◌, ◌⊎◌, refl, ℕ, zero, suc, Bool, true, false, List, [], ◌∷◌, ◌++◌, Option, None, Some, bytes_eq}
use Rattle.std.specs.Prelude.{length, unwrap_or}
use Rattle.std.proofs.Common.{inl, inr}
use Rattle.std.specs.List.{list_all}
use Rattle.std.proofs.lemmas.Slice.Eq.{bytes_eq-Decides}
use mathlib.Core.Path.{◌∙◌, sym, ap, subst}
use Rattle.standard_trees.specs.TreeStore.{Before, ContentsNode, ElementNode, EndOf, Kind, Node, NodeAttr}
use Rattle.standard_trees.specs.TreeStore.{Place, Space, changed_at, contents_in, leaf}
use Rattle.standard_trees.specs.TreeStore.{put_at}
use Rattle.standard_trees.specs.GrowingTree.{Entry, FormAt, FormOfContext, FormPointer, Formatting, GrowingTree, Marker, NoForm, created}
use Rattle.standard_trees.specs.GrowingTree.{created_element, fresh, in_contents}
use Rattle.standard_trees.specs.GrowingTree.{is_among, is_template as is_template_name, kind_of}
use Rattle.standard_trees.specs.GrowingTree.{pushed, with_stack}
use Rattle.standard_order.proofs.StandingStacks.{both, never}
use Rattle.standard_order.proofs.NodeTags.{BodyC, Cls, ContentsC, HtmlC, Keeps, PlainC, Tag, class_at, class_kept}
use Rattle.standard_order.proofs.NodeTags.{is_element, is_there, keeps_both, keeps_more, keeps_same, kind_class, last_tag, name_class, none_past, tag_at}
use Rattle.standard_order.proofs.NodeTags.{tag_of, tags, tags_more, tags_put, there}
use Rattle.standard_order.proofs.NodeKids.{AllThere, all_weaker, kids_more, target}
use Rattle.standard_order.proofs.NodeTops.{Rooted, Same, Top, is_root, joined_nodes, same_element, same_element_at, same_kids, same_kind, same_leaf}
use Rattle.standard_order.proofs.NodeTops.{same_put, split_at}
use Rattle.standard_order.proofs.TreeTops.{Doc, Elements, elements_kept}
use Rattle.standard_order.proofs.TreeTops.{held_is, is_movable, movable_top}
use Rattle.standard_order.proofs.PartKids.{Bodied, Frame, Headed, Parts, classes_kept, framed_fresh, framed_kids, framed_kind, framed_more, framed_put}
use Rattle.standard_order.proofs.PartKids.{Bald, Emptied, Framed, framed_quiet, is_body, is_part, is_plainly, kids_made}
use Rattle.standard_order.proofs.Chains.{Rest, Site, chain, context, has_body, is_deep, is_inner, is_plain}
use Rattle.standard_order.proofs.Chains.{of, rest_pushed, templates_in}

-- ---- nodes

abbrev pub Unique : ℕ → List Tag → Type 0
Unique r ts = (n : ℕ) → is_root (class_at ts n) ≡ true → n ≡ r

abbrev pub NoBody : List Tag → Type 0
NoBody ts = (n : ℕ) → is_body (class_at ts n) ≡ false

abbrev pub OneBody : List Tag → Type 0
OneBody ts = (n m : ℕ) → is_body (class_at ts n) ≡ true → is_body (class_at ts m) ≡ true → n ≡ m

-- there is no body before it is inserted, and then no other
abbrev pub Bodies : Parts → List Tag → Type 0
Bodies Bald ts = NoBody ts
Bodies Headed ts = NoBody ts
Bodies Bodied ts = OneBody ts
Bodies Emptied ts = Unit {0}
Bodies Framed ts = Unit {0}

pub record Nodes (r : ℕ) (parts : Parts) (nodes : List Node) : Type 0 where
  pub top : Top Rooted nodes
  pub frame : Frame r parts nodes
  pub unique : Unique r (tags nodes)
  pub bodies : Bodies parts (tags nodes)
  pub bare : (tag_at (tags nodes) r).held ≡ None  -- `html` is no template

pub record Step (r : ℕ) (parts : Parts) (old new : List Node) : Type 0 where
  pub keeps : Keeps (tags old) (tags new)
  pub nodes : Nodes r parts old → Nodes r parts new

pub bare_kept : (r : ℕ) (parts : Parts) (old new : List Node) → Keeps (tags old) (tags new) → Nodes r parts old → (tag_at (tags new) r).held ≡ None
bare_kept r parts old new keeps h = ap (λ u. u.held) (keeps r (ap is_there h.frame.root)) ∙ h.bare

pub step_both : (r : ℕ) (parts : Parts) (a b c : List Node) → Step r parts a b → Step r parts b c → Step r parts a c
step_both r parts a b c one two = record {
  keeps = keeps_both (tags a) (tags b) (tags c) one.keeps two.keeps;
  nodes = λ h. two.nodes (one.nodes h);
}

pub unique_same : (r : ℕ) (ts us : List Tag) → us ≡ ts → Unique r ts → Unique r us
unique_same r ts us e h = subst (Unique r) (sym e) h

unique_more : (r : ℕ) (nodes : List Node) (more : List Tag) → ((j : ℕ) → is_root (tag_at more j).cls ≡ false) → Unique r (tags nodes) →
    Unique r (tags nodes ++ more)
unique_more r nodes more none old n h = by (split_at nodes more n)
  where
    by : (is_there (class_at (tags nodes) n) ≡ true) ⊎ ((j : ℕ) × (tag_at (tags nodes ++ more) n ≡ tag_at more j)) → n ≡ r
    by (inl old_one) = old n (subst (λ t. is_root t.cls ≡ true) (keeps_more (tags nodes) more n old_one) h)
    by (inr one) = never (sym (none one.0) ∙ subst (λ t. is_root t.cls ≡ true) one.1 h)

-- neither `html` nor `body`
abbrev pub is_single : Cls → Bool
is_single c = is_root c || is_body c

pub single_root : (c : Cls) → is_single c ≡ false → is_root c ≡ false
single_root HtmlC h = never (sym h)
single_root _ h = refl

pub single_body : (c : Cls) → is_single c ≡ false → is_body c ≡ false
single_body BodyC h = never (sym h)
single_body _ h = refl

pub bodies_same : (parts : Parts) (ts us : List Tag) → us ≡ ts → Bodies parts ts → Bodies parts us
bodies_same parts ts us e h = subst (Bodies parts) (sym e) h

old_body : (nodes : List Node) (more : List Tag) → ((j : ℕ) → is_body (tag_at more j).cls ≡ false) → (n : ℕ) →
    is_body (class_at (tags nodes ++ more) n) ≡ true → is_body (class_at (tags nodes) n) ≡ true
old_body nodes more none n h = by (split_at nodes more n)
  where
    by : (is_there (class_at (tags nodes) n) ≡ true) ⊎ ((j : ℕ) × (tag_at (tags nodes ++ more) n ≡ tag_at more j)) → is_body (class_at (tags nodes) n) ≡ true
    by (inl old) = subst (λ t. is_body t.cls ≡ true) (keeps_more (tags nodes) more n old) h
    by (inr one) = never (sym (none one.0) ∙ subst (λ t. is_body t.cls ≡ true) one.1 h)

pub bodies_more : (parts : Parts) (nodes : List Node) (more : List Tag) → ((j : ℕ) → is_body (tag_at more j).cls ≡ false) → Bodies parts (tags nodes) →
    Bodies parts (tags nodes ++ more)
bodies_more parts nodes more none h = by parts h
  where
    no_body : NoBody (tags nodes) → NoBody (tags nodes ++ more)
    no_body off n = cut (is_body (class_at (tags nodes ++ more) n)) refl
      where
        cut : (x : Bool) → is_body (class_at (tags nodes ++ more) n) ≡ x → x ≡ false
        cut true e = never (sym (off n) ∙ old_body nodes more none n e)
        cut false e = refl

    by : (parts : Parts) → Bodies parts (tags nodes) → Bodies parts (tags nodes ++ more)
    by Bald k = no_body k
    by Headed k = no_body k
    by Bodied k = λ n m a b. k n m (old_body nodes more none n a) (old_body nodes more none m b)
    by Emptied k = tt
    by Framed k = tt

one_more_body : (kind : Kind) → is_body (kind_class kind) ≡ false → (j : ℕ) → is_body (tag_at (tag_of kind ∷ []) j).cls ≡ false
one_more_body kind off zero = off
one_more_body kind off (suc j) = refl

one_more : (kind : Kind) → is_root (kind_class kind) ≡ false → (j : ℕ) → is_root (tag_at (tag_of kind ∷ []) j).cls ≡ false
one_more kind off zero = off
one_more kind off (suc j) = refl

last_is : (kind : Kind) (nodes : List Node) → tag_at (tags (nodes ++ leaf kind ∷ [])) (length nodes) ≡ tag_of kind
last_is kind nodes = ap (λ ts. tag_at ts (length nodes)) (tags_more nodes (leaf kind ∷ [])) ∙ last_tag (tags nodes) (tag_of kind) nodes refl

-- a text or a comment
pub step_leaf : (r : ℕ) (parts : Parts) (kind : Kind) (spot : Place) (nodes : List Node) → (Same nodes (put_at (length nodes) spot (nodes ++ leaf kind ∷ []))) →
    contents_in kind ≡ None → is_element (kind_class kind) ≡ false → is_there (kind_class kind) ≡ true → is_single (kind_class kind) ≡ false →
    Step r parts nodes (put_at (length nodes) spot (nodes ++ leaf kind ∷ []))
step_leaf r parts kind spot nodes same none quiet present off = record {
  keeps = same.keeps;
  nodes = λ h. record {
    top = same.top Rooted h.top;
    frame = framed_quiet r parts (length nodes) spot nodes (nodes ++ leaf kind ∷ []) (none_past nodes)
        (ap (λ t. is_element t.cls) (last_is kind nodes) ∙ quiet) (ap (λ t. is_there t.cls) (last_is kind nodes) ∙ present)
        (same_leaf kind nodes none).keeps (kids_more nodes (leaf kind ∷ []) r (ap is_there h.frame.root)) h.frame;
    unique = unique_same r (tags (nodes ++ leaf kind ∷ [])) _ (tags_put (length nodes) spot (nodes ++ leaf kind ∷ []))
        (subst (Unique r) (sym (tags_more nodes (leaf kind ∷ []))) (unique_more r nodes (tags (leaf kind ∷ [])) (one_more kind (single_root (kind_class kind) off)) h.unique));
    bodies = bodies_same parts (tags (nodes ++ leaf kind ∷ [])) _ (tags_put (length nodes) spot (nodes ++ leaf kind ∷ []))
        (subst (Bodies parts) (sym (tags_more nodes (leaf kind ∷ [])))
        (bodies_more parts nodes (tags (leaf kind ∷ [])) (one_more_body kind (single_body (kind_class kind) off)) h.bodies));
    bare = bare_kept r parts nodes (put_at (length nodes) spot (nodes ++ leaf kind ∷ [])) same.keeps h;
  };
}

pub unique_element : (r : ℕ) (space : Space) (name : List ℕ) (attrs : List NodeAttr) (t : GrowingTree) →
    ((contents : Option ℕ) → is_root (kind_class (ElementNode space name attrs contents)) ≡ false) → Unique r (tags t.nodes) →
    Unique r (tags (created_element space name attrs t).nodes)
unique_element r space name attrs t off h = by (is_template_name space name)
  where
    kind : Kind
    kind = ElementNode space name attrs (Some (suc (fresh t)))

    two : (j : ℕ) → is_root (tag_at (tag_of kind ∷ tag_of ContentsNode ∷ []) j).cls ≡ false
    two zero = off (Some (suc (fresh t)))
    two (suc zero) = refl
    two (suc (suc j)) = refl

    by : (x : Bool) → Unique r (tags (elim x as (λ _. GrowingTree) [
      | true ↦ created ContentsNode (created (ElementNode space name attrs (Some (suc (fresh t)))) t)
      | false ↦ created (ElementNode space name attrs None) t
    ]).nodes)
    by true = subst (Unique r) (sym (ap tags (joined_nodes t.nodes (leaf kind ∷ []) (leaf ContentsNode ∷ [])) ∙ tags_more t.nodes (leaf kind ∷ leaf ContentsNode ∷ [])))
        (unique_more r t.nodes (tags (leaf kind ∷ leaf ContentsNode ∷ [])) two h)
    by false = subst (Unique r) (sym (tags_more t.nodes (leaf (ElementNode space name attrs None) ∷ [])))
        (unique_more r t.nodes (tags (leaf (ElementNode space name attrs None) ∷ [])) (one_more (ElementNode space name attrs None) (off None)) h)

pub bodies_element : (parts : Parts) (space : Space) (name : List ℕ) (attrs : List NodeAttr) (t : GrowingTree) →
    ((contents : Option ℕ) → is_body (kind_class (ElementNode space name attrs contents)) ≡ false) → Bodies parts (tags t.nodes) →
    Bodies parts (tags (created_element space name attrs t).nodes)
bodies_element parts space name attrs t off h = by (is_template_name space name)
  where
    kind : Kind
    kind = ElementNode space name attrs (Some (suc (fresh t)))

    two : (j : ℕ) → is_body (tag_at (tag_of kind ∷ tag_of ContentsNode ∷ []) j).cls ≡ false
    two zero = off (Some (suc (fresh t)))
    two (suc zero) = refl
    two (suc (suc j)) = refl

    by : (x : Bool) → Bodies parts (tags (elim x as (λ _. GrowingTree) [
      | true ↦ created ContentsNode (created (ElementNode space name attrs (Some (suc (fresh t)))) t)
      | false ↦ created (ElementNode space name attrs None) t
    ]).nodes)
    by true = subst (Bodies parts) (sym (ap tags (joined_nodes t.nodes (leaf kind ∷ []) (leaf ContentsNode ∷ [])) ∙ tags_more t.nodes (leaf kind ∷ leaf ContentsNode ∷ [])))
        (bodies_more parts t.nodes (tags (leaf kind ∷ leaf ContentsNode ∷ [])) two h)
    by false = subst (Bodies parts) (sym (tags_more t.nodes (leaf (ElementNode space name attrs None) ∷ [])))
        (bodies_more parts t.nodes (tags (leaf (ElementNode space name attrs None) ∷ [])) (one_more_body (ElementNode space name attrs None) (off None)) h)

-- a node of that class is an old one or the first new one
pub last_one : (test : Cls → Bool) (nodes : List Node) (t : Tag) (more : List Tag) → ((j : ℕ) → test (tag_at more j).cls ≡ false) → (n : ℕ) →
    test (class_at (tags nodes ++ t ∷ more) n) ≡ true → (test (class_at (tags nodes) n) ≡ true) ⊎ (n ≡ length nodes)
last_one test [] t more none zero h = inr refl
last_one test [] t more none (suc n) h = never (sym (none n) ∙ h)
last_one test (node ∷ nodes) t more none zero h = inl h
last_one test (node ∷ nodes) t more none (suc n) h = by (last_one test nodes t more none n h)
  where
    by : (test (class_at (tags nodes) n) ≡ true) ⊎ (n ≡ length nodes) → (test (class_at (tags nodes) n) ≡ true) ⊎ (suc n ≡ suc (length nodes))
    by (inl k) = inl k
    by (inr e) = inr (ap suc e)

-- a body where there is none
one_body : (nodes : List Node) (t : Tag) (more : List Tag) → ((j : ℕ) → is_body (tag_at more j).cls ≡ false) → NoBody (tags nodes) →
    OneBody (tags nodes ++ t ∷ more)
one_body nodes t more none off n m a b = at n a ∙ sym (at m b)
  where
    at : (i : ℕ) → is_body (class_at (tags nodes ++ t ∷ more) i) ≡ true → i ≡ length nodes
    at i h = by (last_one is_body nodes t more none i h)
      where
        by : (is_body (class_at (tags nodes) i) ≡ true) ⊎ (i ≡ length nodes) → i ≡ length nodes
        by (inl k) = never (sym (off i) ∙ k)
        by (inr e) = e

pub first_body : (space : Space) (name : List ℕ) (attrs : List NodeAttr) (t : GrowingTree) → NoBody (tags t.nodes) →
    OneBody (tags (created_element space name attrs t).nodes)
first_body space name attrs t h = by (is_template_name space name)
  where
    kind : Kind
    kind = ElementNode space name attrs (Some (suc (fresh t)))

    by : (x : Bool) → OneBody (tags (elim x as (λ _. GrowingTree) [
      | true ↦ created ContentsNode (created (ElementNode space name attrs (Some (suc (fresh t)))) t)
      | false ↦ created (ElementNode space name attrs None) t
    ]).nodes)
    by true = subst OneBody (sym (ap tags (joined_nodes t.nodes (leaf kind ∷ []) (leaf ContentsNode ∷ [])) ∙ tags_more t.nodes (leaf kind ∷ leaf ContentsNode ∷ [])))
        (one_body t.nodes (tag_of kind) (tag_of ContentsNode ∷ []) (one_more_body ContentsNode refl) h)
    by false = subst OneBody (sym (tags_more t.nodes (leaf (ElementNode space name attrs None) ∷ [])))
        (one_body t.nodes (tag_of (ElementNode space name attrs None)) [] (λ j. refl) h)

abbrev pub Off : ℕ → Place → Type 0
Off r spot = (target spot ≡ 0 → ⊥) × (target spot ≡ r → ⊥)

-- an element elsewhere than in the Document and in `html`
pub step_made : (r : ℕ) (parts : Parts) (space : Space) (name : List ℕ) (attrs : List NodeAttr) (t : GrowingTree) →
    ((contents : Option ℕ) → is_single (kind_class (ElementNode space name attrs contents)) ≡ false) →
    Step r parts t.nodes (created_element space name attrs t).nodes
step_made r parts space name attrs t off = record {
  keeps = (same_element space name attrs t).keeps;
  nodes = λ h. record {
    top = (same_element space name attrs t).top Rooted h.top;
    frame = framed_more r parts t.nodes (created_element space name attrs t).nodes (same_element space name attrs t).keeps
        (kids_made space name attrs t r (ap is_there h.frame.root)) h.frame;
    unique = unique_element r space name attrs t (λ contents. single_root _ (off contents)) h.unique;
    bodies = bodies_element parts space name attrs t (λ contents. single_body _ (off contents)) h.bodies;
    bare = bare_kept r parts t.nodes (created_element space name attrs t).nodes (same_element space name attrs t).keeps h;
  };
}

pub step_element : (r : ℕ) (parts : Parts) (spot : Place) (space : Space) (name : List ℕ) (attrs : List NodeAttr) (t : GrowingTree) → Off r spot →
    ((contents : Option ℕ) → is_single (kind_class (ElementNode space name attrs contents)) ≡ false) →
    Step r parts t.nodes (put_at (fresh t) spot (created_element space name attrs t).nodes)
step_element r parts spot space name attrs t away off = record {
  keeps = (same_element_at spot space name attrs t away.0).keeps;
  nodes = λ h. record {
    top = (same_element_at spot space name attrs t away.0).top Rooted h.top;
    frame = framed_fresh r parts (fresh t) spot t.nodes (created_element space name attrs t).nodes away.1 (none_past t.nodes)
        (same_element space name attrs t).keeps (kids_made space name attrs t r (ap is_there h.frame.root)) h.frame;
    unique = unique_same r (tags (created_element space name attrs t).nodes) _ (tags_put (fresh t) spot (created_element space name attrs t).nodes)
        (unique_element r space name attrs t (λ contents. single_root _ (off contents)) h.unique);
    bodies = bodies_same parts (tags (created_element space name attrs t).nodes) _ (tags_put (fresh t) spot (created_element space name attrs t).nodes)
        (bodies_element parts space name attrs t (λ contents. single_body _ (off contents)) h.bodies);
    bare = bare_kept r parts t.nodes _ (same_element_at spot space name attrs t away.0).keeps h;
  };
}

pub step_kind : (r : ℕ) (parts : Parts) (f : Node → Node) (nodes : List Node) (q : ℕ) → ((node : Node) → (f node).children ≡ node.children) →
    tags (changed_at f nodes q) ≡ tags nodes → Step r parts nodes (changed_at f nodes q)
step_kind r parts f nodes q same e = record {
  keeps = keeps_same (tags nodes) (tags (changed_at f nodes q)) e;
  nodes = λ h. record {
    top = (same_kind f nodes q same e).top Rooted h.top;
    frame = framed_kind r parts f nodes q same e h.frame;
    unique = unique_same r (tags nodes) (tags (changed_at f nodes q)) e h.unique;
    bodies = bodies_same parts (tags nodes) (tags (changed_at f nodes q)) e h.bodies;
    bare = bare_kept r parts nodes (changed_at f nodes q) (keeps_same (tags nodes) (tags (changed_at f nodes q)) e) h;
  };
}

pub step_kids : (r : ℕ) (parts : Parts) (f : Node → Node) (nodes : List Node) (q : ℕ) → (q ≡ 0 → ⊥) → (q ≡ r → ⊥) →
    tags (changed_at f nodes q) ≡ tags nodes → Step r parts nodes (changed_at f nodes q)
step_kids r parts f nodes q doc html e = record {
  keeps = keeps_same (tags nodes) (tags (changed_at f nodes q)) e;
  nodes = λ h. record {
    top = (same_kids f nodes q doc e).top Rooted h.top;
    frame = framed_kids r parts f nodes q html e h.frame;
    unique = unique_same r (tags nodes) (tags (changed_at f nodes q)) e h.unique;
    bodies = bodies_same parts (tags nodes) (tags (changed_at f nodes q)) e h.bodies;
    bare = bare_kept r parts nodes (changed_at f nodes q) (keeps_same (tags nodes) (tags (changed_at f nodes q)) e) h;
  };
}

pub plain_movable : (c : Cls) → is_plain c ≡ true → is_movable c ≡ true
plain_movable PlainC h = refl
plain_movable _ h = never h

plain_apart : (c : Cls) → is_plain c ≡ true → is_part c ≡ false
plain_apart PlainC h = refl
plain_apart _ h = never h

pub plain_element : (c : Cls) → is_plain c ≡ true → is_element c ≡ true
plain_element PlainC h = refl
plain_element _ h = never h

pub plain_root : (c : Cls) → is_plain c ≡ true → is_root c ≡ false
plain_root PlainC h = refl
plain_root _ h = never h

pub plain_single : (c : Cls) → is_plain c ≡ true → is_single c ≡ false
plain_single PlainC h = refl
plain_single _ h = never h

pub step_put : (r : ℕ) (parts : Parts) (m : ℕ) (spot : Place) (nodes : List Node) → is_plainly parts ≡ true → Off r spot →
    is_plain (class_at (tags nodes) m) ≡ true → Step r parts nodes (put_at m spot nodes)
step_put r parts m spot nodes plainly away p = record {
  keeps = keeps_same (tags nodes) (tags (put_at m spot nodes)) (tags_put m spot nodes);
  nodes = λ h. record {
    top = (same_put m spot nodes away.0 (movable_top _ (plain_movable _ p))).top Rooted h.top;
    frame = framed_put r parts m spot nodes plainly away.1 (plain_apart _ p) h.frame;
    unique = unique_same r (tags nodes) (tags (put_at m spot nodes)) (tags_put m spot nodes) h.unique;
    bodies = bodies_same parts (tags nodes) (tags (put_at m spot nodes)) (tags_put m spot nodes) h.bodies;
    bare = bare_kept r parts nodes (put_at m spot nodes) (keeps_same (tags nodes) (tags (put_at m spot nodes)) (tags_put m spot nodes)) h;
  };
}

-- ---- the tree in the modes of the body

abbrev pub cls : GrowingTree → List Cls
cls t = of (class_at (tags t.nodes)) t.stack

abbrev pub parts_for : List Cls → Parts
parts_for cs = elim (has_body cs) [ true ↦ Bodied | false ↦ Headed ]

abbrev pub PlainListed : List Tag → List Entry → Type 0
PlainListed ts [] = Unit {0}
PlainListed ts (Marker ∷ es) = PlainListed ts es
PlainListed ts (Formatting n ∷ es) = (is_plain (class_at ts n) ≡ true) × PlainListed ts es

abbrev pub PlainForm : List Tag → FormPointer → Type 0
PlainForm ts NoForm = Unit {0}
PlainForm ts FormOfContext = Unit {0}
PlainForm ts (FormAt n) = is_plain (class_at ts n) ≡ true

abbrev pub PlainFound : List Tag → Option ℕ → Type 0
PlainFound ts None = Unit {0}
PlainFound ts (Some n) = is_plain (class_at ts n) ≡ true

pub record In (r : ℕ) (c : Site) (t : GrowingTree) : Type 0 where
  pub nodes : Nodes r (parts_for (cls t)) t.nodes
  pub open_ : Elements (tags t.nodes) t.stack
  pub chained : chain (cls t) ≡ true
  pub within : context (cls t) ≡ c.inner
  pub few : templates_in (cls t) ≡ c.templates
  pub inner : is_inner c.inner ≡ true
  pub listed : PlainListed (tags t.nodes) t.listed
  pub form : PlainForm (tags t.nodes) t.form
  pub page : t.context ≡ None
  pub found : PlainFound (tags t.nodes) t.found

pub doc_in : (r : ℕ) (c : Site) (t : GrowingTree) → In r c t → Doc Rooted t
doc_in r c t i = record { top = i.nodes.top; open_ = i.open_ }

pub plainly_for : (cs : List Cls) → is_plainly (parts_for cs) ≡ true
plainly_for cs = by (has_body cs)
  where
    by : (x : Bool) → is_plainly (elim x as (λ _. Parts) [ true ↦ Bodied | false ↦ Headed ]) ≡ true
    by true = refl
    by false = refl

pub elements_there : (ts : List Tag) (ns : List ℕ) → Elements ts ns → AllThere ts ns
elements_there ts ns h = all_weaker (λ n. is_element (class_at ts n)) (λ n. is_there (class_at ts n)) (λ n k. there is_element refl (class_at ts n) k) ns h

pub listed_kept : (ts us : List Tag) → Keeps ts us → (es : List Entry) → PlainListed ts es → PlainListed us es
listed_kept ts us keeps [] h = tt
listed_kept ts us keeps (Marker ∷ es) h = listed_kept ts us keeps es h
listed_kept ts us keeps (Formatting n ∷ es) h = (class_kept is_plain refl ts us keeps n h.0, listed_kept ts us keeps es h.1)

pub form_kept : (ts us : List Tag) → Keeps ts us → (form : FormPointer) → PlainForm ts form → PlainForm us form
form_kept ts us keeps NoForm h = tt
form_kept ts us keeps FormOfContext h = tt
form_kept ts us keeps (FormAt n) h = class_kept is_plain refl ts us keeps n h

pub found_kept : (ts us : List Tag) → Keeps ts us → (o : Option ℕ) → PlainFound ts o → PlainFound us o
found_kept ts us keeps None h = tt
found_kept ts us keeps (Some n) h = class_kept is_plain refl ts us keeps n h

-- other nodes
pub in_nodes : (r : ℕ) (c : Site) (t : GrowingTree) (nodes : List Node) → Step r (parts_for (cls t)) t.nodes nodes → In r c t → In r c (record t { nodes = nodes })
in_nodes r c t nodes step i = record {
  nodes = subst (λ cs. Nodes r (parts_for cs) nodes) (sym same) (step.nodes i.nodes);
  open_ = elements_kept (tags t.nodes) (tags nodes) step.keeps t.stack i.open_;
  chained = ap chain same ∙ i.chained;
  within = ap context same ∙ i.within;
  few = ap templates_in same ∙ i.few;
  inner = i.inner;
  listed = listed_kept (tags t.nodes) (tags nodes) step.keeps t.listed i.listed;
  form = form_kept (tags t.nodes) (tags nodes) step.keeps t.form i.form;
  page = i.page;
  found = found_kept (tags t.nodes) (tags nodes) step.keeps t.found i.found;
}
  where
    same : of (class_at (tags nodes)) t.stack ≡ cls t
    same = classes_kept (tags t.nodes) (tags nodes) step.keeps t.stack (elements_there (tags t.nodes) t.stack i.open_)

-- another stack
pub in_rest : (r : ℕ) (c : Site) (t : GrowingTree) (s : List ℕ) → Rest (cls t) (of (class_at (tags t.nodes)) s) → Elements (tags t.nodes) s → In r c t →
    In r c (with_stack t s)
in_rest r c t s rest elements i = record {
  nodes = subst (λ x. Nodes r (elim x as (λ _. Parts) [ true ↦ Bodied | false ↦ Headed ]) t.nodes) (sym rest.body) i.nodes;
  open_ = elements;
  chained = rest.chained;
  within = rest.within ∙ i.within;
  few = rest.few ∙ i.few;
  inner = i.inner;
  listed = i.listed;
  form = i.form;
  page = i.page;
  found = i.found;
}

-- an ordinary element is pushed
pub in_pushed : (r : ℕ) (c : Site) (t : GrowingTree) (n : ℕ) → is_plain (class_at (tags t.nodes) n) ≡ true → In r c t → In r c (pushed n t)
in_pushed r c t n p i =
    in_rest r c t (n ∷ t.stack) (rest_pushed (class_at (tags t.nodes) n) (cls t) p (subst (λ d. is_inner d ≡ true) (sym i.within) i.inner) i.chained)
    (ap (λ x. x && list_all (λ m. is_element (class_at (tags t.nodes) m)) t.stack) (plain_element _ p) ∙ i.open_) i

-- ---- names

pub named_class : (test : Cls → Bool) (name : List ℕ) (names : List (List ℕ)) → list_all (λ one. test (name_class one)) names ≡ true → is_among name names ≡ true →
    test (name_class name) ≡ true
named_class test name [] all h = never h
named_class test name (one ∷ names) all h =
    by (bytes_eq name one) refl h (λ k. named_class test name names (both (test (name_class one)) _ all).1 k)
  where
    by : (x : Bool) → bytes_eq name one ≡ x → x || is_among name names ≡ true → (is_among name names ≡ true → test (name_class name) ≡ true) →
        test (name_class name) ≡ true
    by true e k go = subst (λ n. test (name_class n) ≡ true) (sym ((bytes_eq-Decides name one).0 e)) (both (test (name_class one)) (list_all (λ o. test (name_class o)) names) all).0
    by false e k go = go k

-- ---- places

deep_root : (c : Cls) → c ≡ HtmlC → is_deep c ≡ true → ⊥
deep_root c e h = never (sym (ap is_deep e) ∙ h)

pub deep_off : (r : ℕ) (c : Site) (t : GrowingTree) (x : ℕ) → In r c t → is_deep (class_at (tags t.nodes) x) ≡ true → x ≡ r → ⊥
deep_off r c t x i h e = deep_root (class_at (tags t.nodes) r) i.nodes.frame.root (subst (λ n. is_deep (class_at (tags t.nodes) n) ≡ true) e h)

contents_html : (r : ℕ) (c : Site) (t : GrowingTree) → In r c t → (n k : ℕ) → contents_in (kind_of t n) ≡ Some k → k ≡ r → ⊥
contents_html r c t i n k e same =
    clash (class_at (tags t.nodes) r) i.nodes.frame.root
    (subst (λ m. class_at (tags t.nodes) m ≡ ContentsC) same (i.nodes.top.contents n k (held_is t.nodes n k e)))
  where
    is_contents : Cls → Bool
    is_contents ContentsC = true
    is_contents _ = false

    clash : (d : Cls) → d ≡ HtmlC → d ≡ ContentsC → ⊥
    clash d f g = never (sym (ap is_contents f) ∙ ap is_contents g)

pub in_contents_html : (r : ℕ) (c : Site) (t : GrowingTree) → In r c t → (spot : Place) → (target spot ≡ r → ⊥) → target (in_contents t spot) ≡ r → ⊥
in_contents_html r c t i (EndOf p) off = by (contents_in (kind_of t p)) refl
  where
    by : (o : Option ℕ) → contents_in (kind_of t p) ≡ o → unwrap_or o p ≡ r → ⊥
    by None e = off
    by (Some k) e = contents_html r c t i p k e
in_contents_html r c t i (Before p m) off = by (contents_in (kind_of t p)) refl
  where
    by : (o : Option ℕ) → contents_in (kind_of t p) ≡ o → target (elim o as (λ _. Place) [ Some k ↦ EndOf k | None ↦ Before p m ]) ≡ r → ⊥
    by None e = off
    by (Some k) e = contents_html r c t i p k e
