-- Each page has its parts: from the first token to the end of the page.
use Rattle.std.specs.Prelude.{◌≡◌, ◌&&◌, ◌||◌, ◌⊎◌, refl, ℕ, zero, suc, Bool, true, false, List, [], ◌∷◌, ◌++◌, Option, None, Some, bytes_eq, codes, length}
use Rattle.std.proofs.Common.{inl, inr}
use Rattle.std.proofs.lemmas.Slice.Eq.{bytes_eq-Decides}
use mathlib.Core.Path.{◌∙◌, sym, ap, subst}
use Rattle.standard_tokens.specs.Tokens.{Token}
use Rattle.standard_trees.specs.RuleWords.{AfterAfterFrameset, AfterFrameset, AfterHead, BeforeHead, Dispatcher, InFrameset, InHead, InHeadNoscript, InTableText, Mode, Text}
use Rattle.standard_trees.specs.TreeStore.{ContentsNode, ElementNode, EndOf, Html, Kind, Node, NodeAttr, leaf, put_at, without}
use Rattle.standard_trees.specs.GrowingTree.{FormAt, FormOfContext, FormPointer, GrowingTree, NoForm, created, created_element, fresh, inserted_at, is_among, is_template, pushed, put}
use Rattle.standard_trees.specs.Building.{Building, with_next}
use Rattle.standard_order.specs.PageTops.{PagesHaveTheirShape}
use Rattle.standard_order.proofs.StandingStacks.{never}
use Rattle.standard_order.proofs.LevelFacts.{is_at_node}
use Rattle.standard_order.proofs.NodeTags.{Cls, HtmlC, Tag, class_at, is_element, last_tag, name_class, tag_at, tag_of, tags, tags_more, tags_put}
use Rattle.standard_order.proofs.NodeKids.{AllThere, counted, kids, kids_put}
use Rattle.standard_order.proofs.NodeTops.{Early, Rooted, is_root}
use Rattle.standard_order.proofs.TreeTops.{Doc, created_only, element_off, fresh_passes}
use Rattle.standard_order.proofs.TopPages.{Begun, Blank, Roots, all_pages, doc_root, pages_have_one_root, root_name}
use Rattle.standard_order.proofs.PageParts.{shaped_by_parts}
use Rattle.standard_order.proofs.PartKids.{Bald, is_body}
use Rattle.standard_order.proofs.PartTrees.{Nodes, PlainForm, PlainFound, PlainListed, bodies_element, bodies_same, last_one, single_body, single_root}
use Rattle.standard_order.proofs.PartStates.{EarlyAt, Headless}
use Rattle.standard_order.proofs.PartPhases.{HomeAt, TextAt}
use Rattle.standard_order.proofs.PartBegins.{Whole}
use Rattle.standard_order.proofs.PartRuns.{all_parts}

-- ---- `html` is inserted

html_class : (c : Cls) → is_root c ≡ true → c ≡ HtmlC
html_class HtmlC h = refl
html_class _ h = never h

root_body : (c : Cls) → is_root c ≡ true → is_body c ≡ false
root_body HtmlC h = refl
root_body _ h = never h

-- such an element is no template
root_contents : (name : List ℕ) → is_root (name_class name) ≡ true → is_template Html name ≡ false
root_contents name h = by (bytes_eq name (codes "template")) refl
  where
    by : (x : Bool) → bytes_eq name (codes "template") ≡ x → x ≡ false
    by true e = never (ap (λ n. is_root (name_class n)) (sym ((bytes_eq-Decides name (codes "template")).0 e)) ∙ h)
    by false e = refl

kids_last : (nodes : List Node) (kind : Kind) → kids (nodes ++ leaf kind ∷ []) (length nodes) ≡ []
kids_last [] kind = refl
kids_last (node ∷ nodes) kind = kids_last nodes kind

-- the nodes with a new element `html`
made : (name : List ℕ) (attrs : List NodeAttr) (t : GrowingTree) → is_root (name_class name) ≡ true →
    (created_element Html name attrs t).nodes ≡ t.nodes ++ leaf (ElementNode Html name attrs None) ∷ []
made name attrs t h = ap (λ x. (elim x as (λ _. GrowingTree) [
  | true ↦ created ContentsNode (created (ElementNode Html name attrs (Some (suc (fresh t)))) t)
  | false ↦ created (ElementNode Html name attrs None) t
]).nodes) (root_contents name h)

root_nodes : (name : List ℕ) (attrs : List NodeAttr) (t : GrowingTree) → is_root (name_class name) ≡ true → Doc Early t → Blank (tags t.nodes) →
    Nodes (fresh t) Bald (put_at (fresh t) (EndOf 0) (created_element Html name attrs t).nodes)
root_nodes name attrs t h doc blank = record {
  top = (doc_root name attrs t h doc).top;
  frame = record {
    root = root;
    valid = subst (AllThere (tags nodes)) (sym no_kids) refl;
    form = ap (λ ns. Rattle.standard_order.proofs.PartKids.fits Bald (Rattle.std.specs.Prelude.map (class_at (tags nodes)) (counted is_element (tags nodes) ns))) no_kids;
  };
  unique = λ n k. only n (last_one is_root t.nodes (tag_of kind) [] (λ j. refl) n (subst (λ ts. is_root (class_at ts n) ≡ true) tags_are k));
  bodies = bodies_same Bald (tags mid) (tags nodes) (tags_put (fresh t) (EndOf 0) mid)
      (bodies_element Bald Html name attrs t (λ contents. root_body (name_class name) h) (λ n. single_body _ (blank n)));
  bare = ap (λ ts. (tag_at ts (fresh t)).held) tags_are ∙ ap (λ u. u.held) (last_tag (tags t.nodes) (tag_of kind) t.nodes refl);
}
  where
    kind : Kind
    kind = ElementNode Html name attrs None

    mid : List Node
    mid = (created_element Html name attrs t).nodes

    nodes : List Node
    nodes = put_at (fresh t) (EndOf 0) (created_element Html name attrs t).nodes

    tags_are : tags (put_at (fresh t) (EndOf 0) (created_element Html name attrs t).nodes) ≡ tags t.nodes ++ tag_of (ElementNode Html name attrs None) ∷ []
    tags_are = tags_put (fresh t) (EndOf 0) (created_element Html name attrs t).nodes ∙ ap tags (made name attrs t h)
        ∙ tags_more t.nodes (leaf (ElementNode Html name attrs None) ∷ [])

    root : class_at (tags (put_at (fresh t) (EndOf 0) (created_element Html name attrs t).nodes)) (fresh t) ≡ HtmlC
    root = html_class _ (subst (λ ts. is_root (class_at ts (fresh t)) ≡ true) (sym (tags_put (fresh t) (EndOf 0) (created_element Html name attrs t).nodes))
        (fresh_passes is_root refl Html name attrs (λ contents. h) t))

    away : 0 ≡ fresh t → ⊥
    away e = element_off Rooted nodes (fresh t) (doc_root name attrs t h doc).top (ap is_element root) (sym e)

    no_kids : kids (put_at (fresh t) (EndOf 0) (created_element Html name attrs t).nodes) (fresh t) ≡ []
    no_kids = kids_put (fresh t) (EndOf 0) (created_element Html name attrs t).nodes (fresh t) away
        ∙ ap (without (fresh t)) (ap (λ ns. kids ns (fresh t)) (made name attrs t h) ∙ kids_last t.nodes (ElementNode Html name attrs None))

    only : (n : ℕ) → (is_root (class_at (tags t.nodes) n) ≡ true) ⊎ (n ≡ length t.nodes) → n ≡ fresh t
    only n (inl k) = never (sym (single_root _ (blank n)) ∙ k)
    only n (inr e) = e

early_form : (ts : List Tag) (form : FormPointer) → is_at_node form ≡ false → PlainForm ts form
early_form ts NoForm h = tt
early_form ts FormOfContext h = tt
early_form ts (FormAt n) h = never (sym h)

root_begun : (name : List ℕ) (attrs : List NodeAttr) (b : Building) → Begun b → Doc Early b.tree → is_among name (codes "html" ∷ []) ≡ true →
    EarlyAt (fresh b.tree) Headless 0 (inserted_at (EndOf 0) Html name attrs b.tree)
root_begun name attrs b begun doc h =
    subst (λ (new : GrowingTree). EarlyAt (fresh b.tree) Headless 0 (pushed (fresh b.tree) (put (fresh b.tree) (EndOf 0) new))) (sym (created_only Html name attrs b.tree)) (record {
      nodes = root_nodes name attrs b.tree (root_name name h) doc begun.blank;
      stack = ap (λ s. fresh b.tree ∷ s) begun.bare.0;
      plainly = record {
        listed = subst (PlainListed (tags nodes)) (sym begun.bare.1.0) tt;
        form = early_form (tags nodes) b.tree.form begun.bare.1.1;
        page = begun.page;
        found = subst (PlainFound (tags nodes)) (sym begun.bare.1.2) tt;
      };
    })
  where
    nodes : List Node
    nodes = put_at (fresh b.tree) (EndOf 0) (created_element Html name attrs b.tree).nodes

-- ---- tokens

text_next : (mode : Mode) (r : ℕ) (token : Token) (b : Building) → TextAt mode r b → TextAt mode r (with_next token b)
text_next InHead r token b h = h
text_next InHeadNoscript r token b h = h
text_next AfterHead r token b h = h
text_next InFrameset r token b h = h
text_next AfterFrameset r token b h = h
text_next AfterAfterFrameset r token b h = h
text_next _ r token b h = h

home_next : (mode : Mode) (r : ℕ) (token : Token) (b : Building) → HomeAt mode r b → HomeAt mode r (with_next token b)
home_next BeforeHead r token b h = h
home_next InHead r token b h = h
home_next InHeadNoscript r token b h = h
home_next AfterHead r token b h = h
home_next InFrameset r token b h = h
home_next AfterFrameset r token b h = h
home_next AfterAfterFrameset r token b h = h
home_next Text r token b h = text_next b.original r token b h
home_next InTableText r token b h = h
home_next _ r token b h = h

-- with some element `html`
abbrev pub Parted : Building → Type 0
Parted b = (r : ℕ) × HomeAt b.mode r b

parted_roots : Roots Parted Whole
parted_roots = record {
  root = λ name attrs b begun doc h. (fresh b.tree, root_begun name attrs b begun doc h);
  runs = λ d b c turn p e.
      let now : Rattle.standard_order.proofs.LevelFacts.Turn c × HomeAt c.mode p.0 c × (b.token ≡ Rattle.standard_tokens.specs.Tokens.AnEof → Whole c) =
      (all_parts p.0 d).uses Dispatcher b c turn p.1 e in
      (now.0, (p.0, now.1), now.2);
  next = λ token b p. (p.0, home_next b.mode p.0 token b p.1);
}

pub pages_have_their_shape : PagesHaveTheirShape
pages_have_their_shape depth scripting tokens end e =
    shaped_by_parts end.tree (pages_have_one_root depth scripting tokens end e) (all_pages Parted Whole parted_roots depth scripting tokens end e)
