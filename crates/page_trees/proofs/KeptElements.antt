-- The elements of the definition's store stay as they are where nodes are made and moved, and texts grow.
use Rattle.std.proofs.Common.{◌≡◌, ℕ, suc, zero, ◌≤◌, ◌==◌, Bool, true, false, List, [], ◌∷◌, ◌++◌, refl, sym, ap, ◌∙◌, length, Option, Some, None, arith, subst, codes, true≢false, if◌then◌else◌}
use Rattle.std.specs.Prelude.{All, IfSome, get_or}
use Rattle.std.specs.Option.{option_map_or}
use Rattle.std.proofs.lemmas.List.Elements.{All-weaker}
use Rattle.dom_nodes.specs.declared.name.Attr.{Attr}
use Rattle.dom_links.specs.Contents.{changed_at as changed}
use Rattle.dom_links.specs.Forest.{Forest}
use Rattle.standard_trees.specs.GrowingTree.{FormAt, FormOfContext, FormPointer as StandardForm, GrowingTree, NoForm, is_among}
use Rattle.standard_trees.specs.GrowingTree.{is_named as is_of_kind}
use Rattle.standard_trees.specs.TreeStore.{CommentNode, ContentsNode, DoctypeNode, DocumentNode, ElementNode, Kind, Node, NodeAttr, Place, Space, TextNode}
use Rattle.standard_trees.specs.TreeStore.{changed_at, contents_in, is_document, leaf, node_at, node_before, put_at, removed, text_in, local_in}
use Rattle.page_trees.specs.SameNodes.{AreNodes, text_after, with_kind, with_kind_at, with_text_at}
use Rattle.page_trees.specs.Stands.{AllStand, Builds, EntryStands, IsFormNamed, IsHeadNamed, IsOfKind, StandsFor, TakeAttrs, TakesAttrs, late_names}
use Rattle.page_trees.specs.TreeState.{Late, TreeState, added_to, completed, late_at}
use Rattle.page_trees.specs.declared.formatting.Entry.{Entry}
use Rattle.page_trees.specs.declared.stack.Open.{Open}
use Rattle.page_trees.proofs.NumberedNames.{still_numbered}
use Rattle.page_trees.proofs.StoreLemmas.{kind_at, kind_from, kinds, kinds_changed, kinds_more, kinds_put, kinds_removed, with_kind_of}

-- each element of the old nodes is one of the new nodes, and no other node became a Document
pub record Keeps (old new : List Node) : Type 0 where
  pub elements : (n : ℕ) (space : Space) (name : List ℕ) (attrs : List NodeAttr) (contents : Option ℕ) →
      (node_at old n).kind ≡ ElementNode space name attrs contents → (node_at new n).kind ≡ ElementNode space name attrs contents
  pub documents : (n : ℕ) → is_document (node_at new n).kind ≡ true → is_document (node_at old n).kind ≡ true

-- ---- changes

pub keeps_same : (old new : List Node) → kinds new ≡ kinds old → Keeps old new
keeps_same old new e = record {
  elements = λ n space name attrs contents is. kind_from new old n e ∙ is;
  documents = λ n is. ap is_document (sym (kind_from new old n e)) ∙ is;
}

pub keeps_both : (a b c : List Node) → Keeps a b → Keeps b c → Keeps a c
keeps_both a b c one two = record {
  elements = λ n space name attrs contents is. two.elements n space name attrs contents (one.elements n space name attrs contents is);
  documents = λ n is. one.documents n (two.documents n is);
}

more_elements : (ks more : List Kind) (n : ℕ) (space : Space) (name : List ℕ) (attrs : List NodeAttr) (contents : Option ℕ) →
    get_or ks n ContentsNode ≡ ElementNode space name attrs contents → get_or (ks ++ more) n ContentsNode ≡ ElementNode space name attrs contents
more_elements [] more n space name attrs contents is = cc
more_elements (k ∷ ks) more zero space name attrs contents is = is
more_elements (k ∷ ks) more (suc n) space name attrs contents is = more_elements ks more n space name attrs contents is

more_documents : (ks : List Kind) (kind : Kind) (n : ℕ) → is_document kind ≡ false → is_document (get_or (ks ++ kind ∷ []) n ContentsNode) ≡ true → is_document (get_or ks n ContentsNode) ≡ true
more_documents [] kind zero plain is = absurd (true≢false (sym is ∙ plain))
more_documents [] kind (suc n) plain is = is
more_documents (k ∷ ks) kind zero plain is = is
more_documents (k ∷ ks) kind (suc n) plain is = more_documents ks kind n plain is

keeps_more : (kind : Kind) (nodes : List Node) → is_document kind ≡ false → Keeps nodes (nodes ++ leaf kind ∷ [])
keeps_more kind nodes plain =
    let at : (n : ℕ) → (node_at (nodes ++ leaf kind ∷ []) n).kind ≡ get_or (kinds nodes ++ kind ∷ []) n ContentsNode =
    λ n. kind_at (nodes ++ leaf kind ∷ []) n ∙ ap (λ (ks : List Kind). get_or ks n ContentsNode) (kinds_more nodes kind) in
    record {
      elements = λ n space name attrs contents is. at n ∙ more_elements (kinds nodes) (kind ∷ []) n space name attrs contents (sym (kind_at nodes n) ∙ is);
      documents = λ n is. ap is_document (kind_at nodes n) ∙ more_documents (kinds nodes) kind n plain (ap is_document (sym (at n)) ∙ is);
    }

pub keeps_kind : (kind : Kind) (nodes : List Node) → is_document kind ≡ false → Keeps nodes (with_kind kind nodes)
keeps_kind kind nodes plain = by (contents_in kind)
  where
    by : (o : Option ℕ) → Keeps nodes (elim o [ None ↦ nodes ++ leaf kind ∷ [] | Some contents ↦ (nodes ++ leaf kind ∷ []) ++ leaf ContentsNode ∷ [] ])
    by None = keeps_more kind nodes plain
    by (Some c) = keeps_both nodes (nodes ++ leaf kind ∷ []) ((nodes ++ leaf kind ∷ []) ++ leaf ContentsNode ∷ []) (keeps_more kind nodes plain) (keeps_more ContentsNode (nodes ++ leaf kind ∷ []) refl)

pub keeps_put : (x : ℕ) (spot : Place) (nodes : List Node) → Keeps nodes (put_at x spot nodes)
keeps_put x spot nodes = keeps_same nodes (put_at x spot nodes) (kinds_put x spot nodes)

pub keeps_cut : (x : ℕ) (nodes : List Node) → Keeps nodes (removed x nodes)
keeps_cut x nodes = keeps_same nodes (removed x nodes) (kinds_removed x nodes)

pub keeps_kind_at : (kind : Kind) (spot : Place) (nodes : List Node) → is_document kind ≡ false → Keeps nodes (with_kind_at kind spot nodes)
keeps_kind_at kind spot nodes plain =
    keeps_both nodes (with_kind kind nodes) (with_kind_at kind spot nodes) (keeps_kind kind nodes plain) (keeps_put (length nodes) spot (with_kind kind nodes))

changed_elements : (ks : List Kind) (old text : List ℕ) (m n : ℕ) (space : Space) (name : List ℕ) (attrs : List NodeAttr) (contents : Option ℕ) → text_in (get_or ks m ContentsNode) ≡ Some old →
    get_or ks n ContentsNode ≡ ElementNode space name attrs contents → get_or (changed m (λ _. TextNode text) ks) n ContentsNode ≡ ElementNode space name attrs contents
changed_elements [] old text m n space name attrs contents e is = is
changed_elements (k ∷ ks) old text zero zero space name attrs contents e is = (let none : text_in k ≡ None = ap text_in is in cc)
changed_elements (k ∷ ks) old text zero (suc n) space name attrs contents e is = is
changed_elements (k ∷ ks) old text (suc m) zero space name attrs contents e is = is
changed_elements (k ∷ ks) old text (suc m) (suc n) space name attrs contents e is = changed_elements ks old text m n space name attrs contents e is

changed_documents : (ks : List Kind) (text : List ℕ) (m n : ℕ) → is_document (get_or (changed m (λ _. TextNode text) ks) n ContentsNode) ≡ true → is_document (get_or ks n ContentsNode) ≡ true
changed_documents [] text m n is = is
changed_documents (k ∷ ks) text zero zero is = absurd (true≢false (sym is))
changed_documents (k ∷ ks) text zero (suc n) is = is
changed_documents (k ∷ ks) text (suc m) zero is = is
changed_documents (k ∷ ks) text (suc m) (suc n) is = changed_documents ks text m n is

keeps_longer : (nodes : List Node) (m : ℕ) (old text : List ℕ) → text_in (node_at nodes m).kind ≡ Some old → Keeps nodes (changed_at (with_kind_of (TextNode text)) nodes m)
keeps_longer nodes m old text e =
    let new : List Node = changed_at (with_kind_of (TextNode text)) nodes m in
    let at : (n : ℕ) → (node_at new n).kind ≡ get_or (changed m (λ _. TextNode text) (kinds nodes)) n ContentsNode =
    λ n. kind_at new n ∙ ap (λ (ks : List Kind). get_or ks n ContentsNode) (kinds_changed (TextNode text) nodes m) in
    record {
      elements = λ n space name attrs contents is.
          at n ∙ changed_elements (kinds nodes) old text m n space name attrs contents (ap text_in (sym (kind_at nodes m)) ∙ e) (sym (kind_at nodes n) ∙ is);
      documents = λ n is. ap is_document (kind_at nodes n) ∙ changed_documents (kinds nodes) text m n (ap is_document (sym (at n)) ∙ is);
    }

pub keeps_text_at : (text : List ℕ) (spot : Place) (nodes : List Node) → Keeps nodes (with_text_at text spot nodes)
keeps_text_at text spot nodes = by (node_before nodes spot)
  where
    at_node : (m : ℕ) (o : Option (List ℕ)) → text_in (node_at nodes m).kind ≡ o →
        Keeps nodes (elim o [ Some before ↦ changed_at (with_kind_of (TextNode (before ++ text))) nodes m | None ↦ with_kind_at (TextNode text) spot nodes ])
    at_node m None e = keeps_kind_at (TextNode text) spot nodes refl
    at_node m (Some old) e = keeps_longer nodes m old (old ++ text) e

    by : (o : Option ℕ) → Keeps nodes (text_after o text spot nodes)
    by None = keeps_kind_at (TextNode text) spot nodes refl
    by (Some m) = at_node m (text_in (node_at nodes m).kind) refl

-- ---- what is known of elements

-- a node with a name is an element
pub named_kept : (old new : List Node) → Keeps old new → (names : List (List ℕ)) → is_among [] names ≡ false → (n : ℕ) → is_of_kind names (node_at old n).kind ≡ true →
    (node_at new n).kind ≡ (node_at old n).kind
named_kept old new kept names none n h = by (node_at old n).kind refl h
  where
    by : (kind : Kind) → (node_at old n).kind ≡ kind → is_of_kind names kind ≡ true → (node_at new n).kind ≡ (node_at old n).kind
    by (ElementNode space name attrs contents) e named = kept.elements n space name attrs contents e ∙ sym e
    by (TextNode text) e named = absurd (true≢false (sym named ∙ none))
    by (CommentNode text) e named = absurd (true≢false (sym named ∙ none))
    by (DoctypeNode doctype) e named = absurd (true≢false (sym named ∙ none))
    by DocumentNode e named = absurd (true≢false (sym named ∙ none))
    by ContentsNode e named = absurd (true≢false (sym named ∙ none))

element_kept : (old new : List Node) → Keeps old new → (o : Open) → StandsFor old o → (node_at new o.id).kind ≡ (node_at old o.id).kind
element_kept old new kept o s = kept.elements o.id _ _ _ _ s.kind ∙ sym s.kind

pub stands_kept : (old new : List Node) → Keeps old new → (o : Open) → StandsFor old o → StandsFor new o
stands_kept old new kept o s = subst (IsOfKind o) (sym (element_kept old new kept o s)) s

pub all_kept : (old new : List Node) → Keeps old new → (os : List Open) → AllStand old os → AllStand new os
all_kept old new kept [] s = tt
all_kept old new kept (o ∷ os) s = (stands_kept old new kept o s.0, all_kept old new kept os s.1)

entry_kept : (old new : List Node) → Keeps old new → (e : Entry) → EntryStands old e → EntryStands new e
entry_kept old new kept Entry.Marker s = tt
entry_kept old new kept (Entry.Element o) s = (stands_kept old new kept o s.0, s.1)

pub entries_kept : (old new : List Node) → Keeps old new → (es : List Entry) → All (EntryStands old) es → All (EntryStands new) es
entries_kept old new kept es s = All-weaker (EntryStands old) (EntryStands new) (entry_kept old new kept) es s

form_kept : (old new : List Node) → Keeps old new → (form : StandardForm) → IsFormNamed old form → IsFormNamed new form
form_kept old new kept NoForm named = tt
form_kept old new kept FormOfContext named = tt
form_kept old new kept (FormAt n) named = ap (is_of_kind (codes "form" ∷ [])) (named_kept old new kept (codes "form" ∷ []) refl n named) ∙ named

head_kept : (old new : List Node) → Keeps old new → (head : Option ℕ) → IsHeadNamed old head → IsHeadNamed new head
head_kept old new kept None named = tt
head_kept old new kept (Some n) named =
    let same = named_kept old new kept (codes "head" ∷ []) refl n named.0 in
    (ap (is_of_kind (codes "head" ∷ [])) same ∙ named.0, ap contents_in same ∙ named.1)

late_kept : (old new : List Node) → Keeps old new → (late : List Late) → TakeAttrs old late → TakeAttrs new late
late_kept old new kept late takes n = by (late_at late n) (takes n)
  where
    by : (o : Option Late) → IfSome o (TakesAttrs (node_at old n).kind) → IfSome o (TakesAttrs (node_at new n).kind)
    by None is = tt
    by (Some one) is = subst (λ (kind : Kind). TakesAttrs kind one) (sym (named_kept old new kept late_names refl n is.named)) is

-- ---- the state with other nodes

pub built_grown : (s : TreeState) (t : GrowingTree) (h : Forest) (nodes : List Node) → Builds s t → Keeps t.nodes nodes → AreNodes nodes (completed s.late h) →
    Builds (record s { forest = h }) (record t { nodes = nodes })
built_grown s t h nodes b kept are = record {
  nodes = are;
  stack = record { ids = b.stack.ids; nodes = all_kept t.nodes nodes kept _ b.stack.nodes };
  numbered = still_numbered s.numbers t.nodes nodes s.stack b.stack.nodes (λ o stands. ap local_in (element_kept t.nodes nodes kept o stands)) b.numbered;
  listed = record { list = b.listed.list; elements = entries_kept t.nodes nodes kept s.formatting b.listed.elements };
  head = b.head;
  head_named = head_kept t.nodes nodes kept t.head b.head_named;
  form = b.form;
  form_named = form_kept t.nodes nodes kept t.form b.form_named;
  context = b.context;
  late = late_kept t.nodes nodes kept s.late b.late;
  lone = λ n is. b.lone n (kept.documents n is);
}

-- ---- a node that is made now is for no later tag

pub past_kind : (nodes : List Node) (n : ℕ) → length nodes ≤ n → (node_at nodes n).kind ≡ ContentsNode
past_kind [] n h = refl
past_kind (node ∷ nodes) zero h = absurd (omega (arith, h))
past_kind (node ∷ nodes) (suc n) h = past_kind nodes n (omega (arith, h))

-- what is added to an element is what the tags for it add
pub added_is : (late : List Late) (n : ℕ) → added_to late n ≡ option_map_or (λ (one : Late). one.added) (late_at late n) []
added_is [] n = refl
added_is (late ∷ others) n = by (late.id == n) (added_is others n)
  where
    by : (b : Bool) → added_to others n ≡ option_map_or (λ (one : Late). one.added) (late_at others n) [] →
        (let attrs : List Attr = if b then late.added else added_to others n in attrs) ≡ option_map_or (λ (one : Late). one.added) (if b then Some late else late_at others n) []
    by true e = refl
    by false e = e

pub none_added : (nodes : List Node) (late : List Late) (n : ℕ) → TakeAttrs nodes late → length nodes ≤ n → added_to late n ≡ []
none_added nodes late n takes h = added_is late n ∙ by (late_at late n) (takes n)
  where
    by : (o : Option Late) → IfSome o (TakesAttrs (node_at nodes n).kind) → option_map_or (λ (one : Late). one.added) o [] ≡ []
    by None is = refl
    by (Some one) is = absurd (true≢false (sym is.named ∙ ap (is_of_kind late_names) (past_kind nodes n h)))
