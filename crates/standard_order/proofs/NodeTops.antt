-- The children of the Document: what changes of nodes leave them as they are.
use Rattle.std.specs.Prelude.{◌≡◌, ◌&&◌, ◌||◌, ◌⊎◌, refl, ℕ, zero, suc, Bool, true, false, List, [], ◌∷◌, ◌++◌, None, Some, length, map}
use Rattle.std.proofs.Common.{inl, inr}
use Rattle.std.specs.List.{list_all}
use mathlib.Core.Path.{◌∙◌, sym, ap, subst}
use Rattle.standard_trees.specs.TreeStore.{ContentsNode, ElementNode, Kind, Node, NodeAttr, Place, Space}
use Rattle.standard_trees.specs.TreeStore.{changed_at, contents_in, leaf, put_at, removed, without}
use Rattle.standard_trees.specs.GrowingTree.{GrowingTree, created, created_element, fresh, is_template}
use Rattle.standard_order.proofs.NodeTags.{Cls, CommentC, ContentsC, DocC, DoctypeC, HtmlC, Keeps, NoC, Tag, class_at, is_there}
use Rattle.standard_order.proofs.NodeTags.{keeps_both, keeps_more, keeps_same, kind_there, none_past, tag_at, tag_of, tags, tags_more}
use Rattle.standard_order.proofs.NodeTags.{tags_put, tags_removed}
use Rattle.standard_order.proofs.NodeKids.{AllThere, all_joined, all_weaker, all_without, counted, counted_joined, counted_kept, counted_without}
use Rattle.standard_order.proofs.NodeKids.{kids, kids_at, kids_more, kids_other, kids_put, kids_removed, same_without, target, there_kept}
use Rattle.standard_order.proofs.StandingStacks.{both, never}

-- comments are not counted
abbrev pub is_counted : Cls → Bool
is_counted CommentC = false
is_counted _ = true

abbrev pub is_doctype : Cls → Bool
is_doctype DoctypeC = true
is_doctype _ = false

abbrev pub is_root : Cls → Bool
is_root HtmlC = true
is_root _ = false

abbrev pub is_top : Cls → Bool
is_top c = is_doctype c || is_root c

abbrev pub is_document : Cls → Bool
is_document DocC = true
is_document _ = false

-- nothing; before `html` is there, a doctype or nothing; `html`, behind a doctype or not
pub data Stage : Type 0 where
  Empty Early Rooted : Stage

abbrev pub are_tops : Stage → List Cls → Bool
are_tops Empty [] = true
are_tops Empty (c ∷ more) = false
are_tops Rooted [] = false
are_tops Rooted (c ∷ []) = is_root c
are_tops Rooted (c ∷ d ∷ []) = is_doctype c && is_root d
are_tops Rooted (c ∷ d ∷ e ∷ more) = false
are_tops Early [] = true
are_tops Early (c ∷ []) = is_doctype c
are_tops Early (c ∷ d ∷ more) = false

abbrev pub tops : List Node → List ℕ
tops nodes = counted is_counted (tags nodes) (kids nodes 0)

abbrev pub Contents : List Tag → Type 0
Contents ts = (n k : ℕ) → (tag_at ts n).held ≡ Some k → class_at ts k ≡ ContentsC

pub record Top (stage : Stage) (nodes : List Node) : Type 0 where
  pub doc : class_at (tags nodes) 0 ≡ DocC
  pub valid : AllThere (tags nodes) (kids nodes 0)
  pub form : are_tops stage (map (class_at (tags nodes)) (tops nodes)) ≡ true
  pub contents : Contents (tags nodes)

-- ---- the classes of these children

doctype_top : (c : Cls) → is_doctype c ≡ true → is_top c ≡ true
doctype_top DoctypeC h = refl
doctype_top _ h = never h

root_top : (c : Cls) → is_root c ≡ true → is_top c ≡ true
root_top HtmlC h = refl
root_top _ h = never h

abbrev pub AllTop : List Tag → List ℕ → Type 0
AllTop ts ns = list_all (λ n. is_top (class_at ts n)) ns ≡ true

pub all_top : (stage : Stage) (ts : List Tag) (ns : List ℕ) → are_tops stage (map (class_at ts) ns) ≡ true → AllTop ts ns
all_top Empty ts [] h = refl
all_top Empty ts (n ∷ ns) h = never h
all_top Rooted ts [] h = refl
all_top Rooted ts (n ∷ []) h = ap (λ x. x && true) (root_top (class_at ts n) h)
all_top Rooted ts (n ∷ m ∷ []) h =
    let two : (is_doctype (class_at ts n) ≡ true) × (is_root (class_at ts m) ≡ true) = both (is_doctype (class_at ts n)) (is_root (class_at ts m)) h in
    ap (λ x. x && (is_top (class_at ts m) && true)) (doctype_top (class_at ts n) two.0) ∙ ap (λ x. x && true) (root_top (class_at ts m) two.1)
all_top Rooted ts (n ∷ m ∷ k ∷ ns) h = never h
all_top Early ts [] h = refl
all_top Early ts (n ∷ []) h = ap (λ x. x && true) (doctype_top (class_at ts n) h)
all_top Early ts (n ∷ m ∷ ns) h = never h

pub top_there : (c : Cls) → is_top c ≡ true → is_there c ≡ true
top_there NoC h = never h
top_there _ h = refl

pub same_classes : (ts us : List Tag) → Keeps ts us → (ns : List ℕ) → AllTop ts ns → map (class_at us) ns ≡ map (class_at ts) ns
same_classes ts us keeps [] h = refl
same_classes ts us keeps (n ∷ ns) h =
    let two : (is_top (class_at ts n) ≡ true) × AllTop ts ns = both (is_top (class_at ts n)) (list_all (λ m. is_top (class_at ts m)) ns) h in
    ap (λ t. t.cls ∷ map (class_at us) ns) (keeps n (top_there (class_at ts n) two.0)) ∙ ap (λ q. class_at ts n ∷ q) (same_classes ts us keeps ns two.1)

-- ---- changes that leave them

pub record Same (old new : List Node) : Type 0 where
  pub keeps : Keeps (tags old) (tags new)
  pub top : (stage : Stage) → Top stage old → Top stage new

pub same_both : (a b c : List Node) → Same a b → Same b c → Same a c
same_both a b c one two = record {
  keeps = keeps_both (tags a) (tags b) (tags c) one.keeps two.keeps;
  top = λ stage h. two.top stage (one.top stage h);
}

pub same_nodes : (nodes : List Node) → Same nodes nodes
same_nodes nodes = record { keeps = keeps_same (tags nodes) (tags nodes) refl; top = λ stage h. h }

there_doc : (c : Cls) → c ≡ DocC → is_there c ≡ true
there_doc c e = ap is_there e

pub zero_there : (stage : Stage) (nodes : List Node) → Top stage nodes → is_there (class_at (tags nodes) 0) ≡ true
zero_there stage nodes h = there_doc (class_at (tags nodes) 0) h.doc

-- with the same children that count
pub still_top : (stage : Stage) (old new : List Node) → Keeps (tags old) (tags new) → tops new ≡ tops old → AllThere (tags new) (kids new 0) →
    Contents (tags new) → Top stage old → Top stage new
still_top stage old new keeps same valid contents h = record {
  doc = ap (λ t. t.cls) (keeps 0 (zero_there stage old h)) ∙ h.doc;
  valid = valid;
  form = ap (λ ns. are_tops stage (map (class_at (tags new)) ns)) same
      ∙ ap (are_tops stage) (same_classes (tags old) (tags new) keeps (tops old) (all_top stage (tags old) (tops old) h.form)) ∙ h.form;
  contents = contents;
}

-- where tags and children stay as they are
same_store : (old new : List Node) → tags new ≡ tags old → ((stage : Stage) → Top stage old → kids new 0 ≡ kids old 0) → Same old new
same_store old new e same = record {
  keeps = keeps_same (tags old) (tags new) e;
  top = λ stage h. still_top stage old new (keeps_same (tags old) (tags new) e)
      (ap (λ ts. counted is_counted ts (kids new 0)) e ∙ ap (counted is_counted (tags old)) (same stage h))
      (subst (λ ts. AllThere ts (kids new 0)) (sym e) (subst (AllThere (tags old)) (sym (same stage h)) h.valid))
      (subst Contents (sym e) h.contents) h;
}

pub same_kind : (f : Node → Node) (nodes : List Node) (q : ℕ) → ((node : Node) → (f node).children ≡ node.children) →
    tags (changed_at f nodes q) ≡ tags nodes → Same nodes (changed_at f nodes q)
same_kind f nodes q same e = same_store nodes (changed_at f nodes q) e (λ stage h. Rattle.standard_order.proofs.NodeKids.kids_same f same nodes q 0)

pub same_kids : (f : Node → Node) (nodes : List Node) (q : ℕ) → (q ≡ 0 → ⊥) → tags (changed_at f nodes q) ≡ tags nodes →
    Same nodes (changed_at f nodes q)
same_kids f nodes q off e = same_store nodes (changed_at f nodes q) e (λ stage h. kids_other f nodes q 0 off)

-- a node that is no child of the Document is taken out
pub without_top : (ts : List Tag) (m : ℕ) (ns : List ℕ) → is_top (class_at ts m) ≡ false → AllTop ts (counted is_counted ts ns) →
    counted is_counted ts (without m ns) ≡ counted is_counted ts ns
without_top ts m ns off all = counted_without is_counted ts m ns ∙ same_without (λ n. is_top (class_at ts n)) m (counted is_counted ts ns) all off

same_less : (m : ℕ) (old new : List Node) → tags new ≡ tags old → kids new 0 ≡ without m (kids old 0) → is_top (class_at (tags old) m) ≡ false →
    Same old new
same_less m old new e less off = record {
  keeps = keeps_same (tags old) (tags new) e;
  top = λ stage h. still_top stage old new (keeps_same (tags old) (tags new) e)
      (ap (λ ts. counted is_counted ts (kids new 0)) e ∙ ap (counted is_counted (tags old)) less
      ∙ without_top (tags old) m (kids old 0) off (all_top stage (tags old) (tops old) h.form))
      (subst (λ ts. AllThere ts (kids new 0)) (sym e) (subst (AllThere (tags old)) (sym less)
      (all_without (λ c. is_there (class_at (tags old) c)) m (kids old 0) h.valid)))
      (subst Contents (sym e) h.contents) h;
}

pub same_removed : (m : ℕ) (nodes : List Node) → is_top (class_at (tags nodes) m) ≡ false → Same nodes (removed m nodes)
same_removed m nodes off = same_less m nodes (removed m nodes) (tags_removed m nodes) (kids_removed m nodes 0) off

pub same_put : (m : ℕ) (spot : Place) (nodes : List Node) → (target spot ≡ 0 → ⊥) → is_top (class_at (tags nodes) m) ≡ false →
    Same nodes (put_at m spot nodes)
same_put m spot nodes off one = same_less m nodes (put_at m spot nodes) (tags_put m spot nodes) (kids_put m spot nodes 0 off) one

-- ---- nodes that are created

-- a number is that of an old node, or counts from the end
pub split_at : (nodes : List Node) (more : List Tag) (n : ℕ) → (is_there (class_at (tags nodes) n) ≡ true) ⊎
    ((j : ℕ) × (tag_at (tags nodes ++ more) n ≡ tag_at more j))
split_at [] more n = inr (n, refl)
split_at (node ∷ nodes) more zero = inl (kind_there node.kind)
split_at (node ∷ nodes) more (suc n) = split_at nodes more n

contents_more : (nodes : List Node) (more : List Tag) → Contents (tags nodes) →
    ((j k : ℕ) → (tag_at more j).held ≡ Some k → class_at (tags nodes ++ more) k ≡ ContentsC) → Contents (tags nodes ++ more)
contents_more nodes more old new n k e = by (split_at nodes more n)
  where
    contents_there : (c : Cls) → c ≡ ContentsC → is_there c ≡ true
    contents_there c f = ap is_there f

    by : (is_there (class_at (tags nodes) n) ≡ true) ⊎ ((j : ℕ) × (tag_at (tags nodes ++ more) n ≡ tag_at more j)) →
        class_at (tags nodes ++ more) k ≡ ContentsC
    by (inl there) =
        let was : class_at (tags nodes) k ≡ ContentsC = old n k (subst (λ t. t.held ≡ Some k) (keeps_more (tags nodes) more n there) e) in
        ap (λ t. t.cls) (keeps_more (tags nodes) more k (contents_there (class_at (tags nodes) k) was)) ∙ was
    by (inr one) = new one.0 k (subst (λ t. t.held ≡ Some k) one.1 e)

-- nodes behind the old ones
same_appended : (old new : List Node) (more : List Node) → new ≡ old ++ more →
    ((j k : ℕ) → (tag_at (tags more) j).held ≡ Some k → class_at (tags old ++ tags more) k ≡ ContentsC) → Same old new
same_appended old new more e created = record {
  keeps = keeps;
  top = λ stage h. still_top stage old new keeps
      (ap (counted is_counted (tags new)) (kids_are stage h) ∙ counted_kept is_counted (tags old) (tags new) keeps (kids old 0) h.valid)
      (subst (AllThere (tags new)) (sym (kids_are stage h)) (there_kept (tags old) (tags new) keeps (kids old 0) h.valid))
      (subst Contents (sym tags_are) (contents_more old (tags more) h.contents created)) h;
}
  where
    tags_are : tags new ≡ tags old ++ tags more
    tags_are = ap tags e ∙ tags_more old more

    keeps : Keeps (tags old) (tags new)
    keeps = subst (Keeps (tags old)) (sym tags_are) (keeps_more (tags old) (tags more))

    kids_are : (stage : Stage) → Top stage old → kids new 0 ≡ kids old 0
    kids_are stage h = ap (λ ns. kids ns 0) e ∙ kids_more old more 0 (zero_there stage old h)

pub same_leaf : (kind : Kind) (nodes : List Node) → contents_in kind ≡ None → Same nodes (nodes ++ leaf kind ∷ [])
same_leaf kind nodes none = same_appended nodes (nodes ++ leaf kind ∷ []) (leaf kind ∷ []) refl no_contents
  where
    some_none : (k : ℕ) → None ≡ Some k → ⊥
    some_none k e = cc

    no_contents : (j k : ℕ) → (tag_at (tag_of kind ∷ []) j).held ≡ Some k → class_at (tags nodes ++ tag_of kind ∷ []) k ≡ ContentsC
    no_contents zero k e = absurd (some_none k (sym none ∙ e))
    no_contents (suc j) k e = absurd (some_none k e)

second_last : (nodes : List Node) (one two : Tag) → tag_at (tags nodes ++ one ∷ two ∷ []) (suc (length nodes)) ≡ two
second_last [] one two = refl
second_last (node ∷ nodes) one two = second_last nodes one two

pub joined_nodes : (xs ys zs : List Node) → (xs ++ ys) ++ zs ≡ xs ++ (ys ++ zs)
joined_nodes [] ys zs = refl
joined_nodes (x ∷ xs) ys zs = ap (λ l. x ∷ l) (joined_nodes xs ys zs)

pub same_element : (space : Space) (name : List ℕ) (attrs : List NodeAttr) (t : GrowingTree) → Same t.nodes (created_element space name attrs t).nodes
same_element space name attrs t = by (is_template space name)
  where
    kind : Kind
    kind = ElementNode space name attrs (Some (suc (fresh t)))

    same_number_is : (k : ℕ) → Some (suc (fresh t)) ≡ Some k → suc (fresh t) ≡ k
    same_number_is k e = Rattle.std.proofs.lemmas.Option.same_Some (suc (fresh t)) k e

    some_none : (k : ℕ) → None ≡ Some k → ⊥
    some_none k e = cc

    contents_are : (j k : ℕ) → (tag_at (tag_of kind ∷ tag_of ContentsNode ∷ []) j).held ≡ Some k →
        class_at (tags t.nodes ++ tag_of kind ∷ tag_of ContentsNode ∷ []) k ≡ ContentsC
    contents_are zero k e = subst (λ i. class_at (tags t.nodes ++ tag_of kind ∷ tag_of ContentsNode ∷ []) i ≡ ContentsC) (same_number_is k e)
        (ap (λ u. u.cls) (second_last t.nodes (tag_of kind) (tag_of ContentsNode)))
    contents_are (suc zero) k e = absurd (some_none k e)
    contents_are (suc (suc j)) k e = absurd (some_none k e)

    by : (x : Bool) → Same t.nodes (elim x as (λ _. GrowingTree) [
      | true ↦ created ContentsNode (created (ElementNode space name attrs (Some (suc (fresh t)))) t)
      | false ↦ created (ElementNode space name attrs None) t
    ]).nodes
    by true = same_appended t.nodes ((t.nodes ++ leaf kind ∷ []) ++ leaf ContentsNode ∷ []) (leaf kind ∷ leaf ContentsNode ∷ [])
        (joined_nodes t.nodes (leaf kind ∷ []) (leaf ContentsNode ∷ [])) contents_are
    by false = same_leaf (ElementNode space name attrs None) t.nodes refl

-- ---- nodes that are created and put somewhere

-- behind the old nodes, elsewhere than in the Document
pub same_fresh : (m : ℕ) (spot : Place) (old mid : List Node) → (target spot ≡ 0 → ⊥) → is_there (class_at (tags old) m) ≡ false →
    ((stage : Stage) → Top stage old → kids mid 0 ≡ kids old 0) → Same old mid → Same old (put_at m spot mid)
same_fresh m spot old mid off new kids_are same = record {
  keeps = keeps_both (tags old) (tags mid) (tags (put_at m spot mid)) same.keeps (keeps_same (tags mid) (tags (put_at m spot mid)) (tags_put m spot mid));
  top = λ stage h. still_top stage mid (put_at m spot mid) (keeps_same (tags mid) (tags (put_at m spot mid)) (tags_put m spot mid))
      (ap (λ ts. counted is_counted ts (kids (put_at m spot mid) 0)) (tags_put m spot mid) ∙ ap (counted is_counted (tags mid)) (kids_now stage h))
      (subst (λ ts. AllThere ts (kids (put_at m spot mid) 0)) (sym (tags_put m spot mid)) (subst (AllThere (tags mid)) (sym (kids_now stage h))
      (same.top stage h).valid))
      (subst Contents (sym (tags_put m spot mid)) (same.top stage h).contents) (same.top stage h);
}
  where
    kids_now : (stage : Stage) → Top stage old → kids (put_at m spot mid) 0 ≡ kids mid 0
    kids_now stage h =
        kids_put m spot mid 0 off ∙ ap (without m) (kids_are stage h)
        ∙ same_without (λ c. is_there (class_at (tags old) c)) m (kids old 0) h.valid new ∙ sym (kids_are stage h)

pub kids_leaf : (kind : Kind) (nodes : List Node) (stage : Stage) → Top stage nodes → kids (nodes ++ leaf kind ∷ []) 0 ≡ kids nodes 0
kids_leaf kind nodes stage h = kids_more nodes (leaf kind ∷ []) 0 (zero_there stage nodes h)

pub kids_element : (space : Space) (name : List ℕ) (attrs : List NodeAttr) (t : GrowingTree) (stage : Stage) → Top stage t.nodes →
    kids (created_element space name attrs t).nodes 0 ≡ kids t.nodes 0
kids_element space name attrs t stage h = by (is_template space name)
  where
    first : List Node
    first = t.nodes ++ leaf (ElementNode space name attrs (Some (suc (fresh t)))) ∷ []

    by : (x : Bool) → kids (elim x as (λ _. GrowingTree) [
      | true ↦ created ContentsNode (created (ElementNode space name attrs (Some (suc (fresh t)))) t)
      | false ↦ created (ElementNode space name attrs None) t
    ]).nodes 0 ≡ kids t.nodes 0
    by true = ap (λ ns. kids ns 0) (joined_nodes t.nodes (leaf (ElementNode space name attrs (Some (suc (fresh t)))) ∷ []) (leaf ContentsNode ∷ []))
        ∙ kids_more t.nodes (leaf (ElementNode space name attrs (Some (suc (fresh t)))) ∷ leaf ContentsNode ∷ []) 0 (zero_there stage t.nodes h)
    by false = kids_more t.nodes (leaf (ElementNode space name attrs None) ∷ []) 0 (zero_there stage t.nodes h)

pub same_leaf_at : (kind : Kind) (spot : Place) (nodes : List Node) → (target spot ≡ 0 → ⊥) → contents_in kind ≡ None →
    Same nodes (put_at (length nodes) spot (nodes ++ leaf kind ∷ []))
same_leaf_at kind spot nodes off none =
    same_fresh (length nodes) spot nodes (nodes ++ leaf kind ∷ []) off (none_past nodes) (λ stage h. kids_leaf kind nodes stage h)
    (same_leaf kind nodes none)

pub same_element_at : (spot : Place) (space : Space) (name : List ℕ) (attrs : List NodeAttr) (t : GrowingTree) → (target spot ≡ 0 → ⊥) →
    Same t.nodes (put_at (fresh t) spot (created_element space name attrs t).nodes)
same_element_at spot space name attrs t off =
    same_fresh (fresh t) spot t.nodes (created_element space name attrs t).nodes off (none_past t.nodes)
    (λ stage h. kids_element space name attrs t stage h) (same_element space name attrs t)
