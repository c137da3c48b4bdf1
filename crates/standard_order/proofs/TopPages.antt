-- How a page begins: until `html` is a child of the Document, it has comments and at most one doctype; and the end of the page puts it there.
use Rattle.std.specs.Prelude.{◌≡◌, ◌&&◌, ◌||◌, ◌⊎◌, refl, ℕ, zero, suc, Bool, true, false, not, ◌==◌, List, [], ◌∷◌, ◌++◌, Option, None, Some, codes, filter}
use Rattle.std.specs.Prelude.{cond, length, map}
use Rattle.std.proofs.Common.{inl, inr}
use Rattle.std.specs.List.{list_all, list_any}
use Rattle.std.specs.Option.{option_and_then}
use Rattle.std.proofs.lemmas.Option.{same_Some}
use mathlib.Core.Path.{◌∙◌, sym, ap, subst}
use Rattle.standard_tokens.specs.Tokens.{AChar, AComment, ADoctype, AStart, AnEnd, AnEof, Token}
use Rattle.standard_trees.specs.RuleWords.{Act, Dispatcher, InsertCommentInDocument, InsertRootElement, InsertRootNamed}
use Rattle.standard_trees.specs.RuleWords.{Reprocess, SetQuirks, SwitchTo, does, goes}
use Rattle.standard_trees.specs.RuleWords.{BeforeHead, BeforeHtml, Initial}
use Rattle.standard_trees.specs.TreeRules.{rules}
use Rattle.standard_trees.specs.TreeStore.{CommentNode, DoctypeNode, ElementNode, EndOf, Html, Kind, Node, NodeAttr, leaf, node_at, put_at, removed, without}
use Rattle.standard_trees.specs.GrowingTree.{GrowingTree, created_at, created_element, fresh, inserted_at, is_among, pushed, put}
use Rattle.standard_trees.specs.Building.{Building, comment_of, empty_tree, is_line_feed, is_space, perform, performed, run, start, taken, tree_step, tree_steps}
use Rattle.standard_trees.specs.Building.{with_next}
use Rattle.standard_order.specs.PageShape.{is_comment_kind, is_doctype_kind, is_html_at, is_html_kind}
use Rattle.standard_order.specs.PageTops.{PagesHaveOneRoot, is_root_top}
use Rattle.standard_order.proofs.StandingStacks.{both, never}
use Rattle.standard_order.proofs.Levels.{Any, Bare, Before, Level, RootMade, Start, is_first}
use Rattle.standard_order.proofs.LevelFacts.{At, Content, EarlyIs, IsBare, Turn}
use Rattle.standard_order.proofs.RulesPassed.{any_holds}
use Rattle.standard_order.proofs.RulesUsed.{ends_turn, next_of_at, with_tok}
use Rattle.standard_order.proofs.TurnsRun.{turn_next}
use Rattle.standard_order.proofs.NodeTags.{Cls, CommentC, ContentsC, DocC, DoctypeC, HtmlC, Keeps, NoC, Tag, TextC, class_at, is_element, is_there, keeps_more, keeps_same, kind_class}
use Rattle.standard_order.proofs.NodeTags.{last_tag, name_class, none_past, tag_at, tag_of, tag_there, tags, tags_more, tags_put, tags_removed}
use Rattle.standard_order.proofs.NodeKids.{AllThere, all_joined, counted, counted_joined, kids, kids_at, kids_removed, same_without}
use Rattle.standard_order.proofs.NodeTops.{AllTop, Contents, Early, Empty, Rooted, Same, Stage, Top, all_top, are_tops, is_counted, is_doctype, is_root, is_top}
use Rattle.standard_order.proofs.NodeTops.{kids_element, kids_leaf, same_classes, same_element, same_leaf, split_at, tops, zero_there}
use Rattle.standard_order.proofs.TreeTops.{Doc, Elements, created_only, doc_comment_in, elements_kept, fresh_element, fresh_passes}
use Rattle.standard_order.proofs.TopRuns.{all_settled, then_some}
use Rattle.standard_order.proofs.TopSteps.{Settled}
use Rattle.standard_order.proofs.PartTrees.{is_single}

-- ---- a node that is put behind the children of the Document

joined_map : (f : ℕ → Cls) (xs ys : List ℕ) → map f (xs ++ ys) ≡ map f xs ++ map f ys
joined_map f [] ys = refl
joined_map f (x ∷ xs) ys = ap (λ q. f x ∷ q) (joined_map f xs ys)

top_end : (stage next : Stage) (m : ℕ) (old mid : List Node) → Same old mid → kids mid 0 ≡ kids old 0 → is_there (class_at (tags old) m) ≡ false →
    is_counted (class_at (tags mid) m) ≡ true → is_there (class_at (tags mid) m) ≡ true →
    ((cs : List Cls) → are_tops stage cs ≡ true → are_tops next (cs ++ class_at (tags mid) m ∷ []) ≡ true) → Top stage old →
    Top next (put_at m (EndOf 0) mid)
top_end stage next m old mid same kids_are absent counts present step h = record {
  doc = ap (λ ts. class_at ts 0) tags_are ∙ middle.doc;
  valid = subst (λ ts. AllThere ts (kids new 0)) (sym tags_are) (subst (AllThere (tags mid)) (sym kids_now)
      (all_joined (λ c. is_there (class_at (tags mid) c)) (kids old 0) (m ∷ []) (subst (AllThere (tags mid)) kids_are middle.valid) (ap (λ x. x && true) present)));
  form = ap (λ ts. are_tops next (map (class_at ts) (counted is_counted ts (kids new 0)))) tags_are
      ∙ ap (λ ns. are_tops next (map (class_at (tags mid)) ns)) (ap (counted is_counted (tags mid)) kids_now ∙ counted_joined is_counted (tags mid) (kids old 0) (m ∷ [])
      ∙ ap (λ x. counted is_counted (tags mid) (kids old 0) ++ cond x (m ∷ []) []) counts)
      ∙ ap (are_tops next) (joined_map (class_at (tags mid)) (counted is_counted (tags mid) (kids old 0)) (m ∷ []))
      ∙ step (map (class_at (tags mid)) (counted is_counted (tags mid) (kids old 0)))
      (subst (λ ns. are_tops stage (map (class_at (tags mid)) (counted is_counted (tags mid) ns)) ≡ true) kids_are middle.form);
  contents = subst Contents (sym tags_are) middle.contents;
}
  where
    new : List Node
    new = put_at m (EndOf 0) mid

    middle : Top stage mid
    middle = same.top stage h

    tags_are : tags new ≡ tags mid
    tags_are = tags_put m (EndOf 0) mid

    kids_now : kids new 0 ≡ kids old 0 ++ m ∷ []
    kids_now =
        kids_at (λ node. record node { children = node.children ++ m ∷ [] }) (removed m mid) 0
        (subst (λ ts. is_there (class_at ts 0) ≡ true) (sym (tags_removed m mid)) (zero_there stage mid middle))
        ∙ ap (λ ns. ns ++ m ∷ []) (kids_removed m mid 0 ∙ ap (without m) kids_are
        ∙ same_without (λ c. is_there (class_at (tags old) c)) m (kids old 0) h.valid absent)

root_counted : (c : Cls) → is_root c ≡ true → is_counted c ≡ true
root_counted HtmlC h = refl
root_counted _ h = never h

root_there : (c : Cls) → is_root c ≡ true → is_there c ≡ true
root_there HtmlC h = refl
root_there _ h = never h

root_step : (c : Cls) → is_root c ≡ true → (cs : List Cls) → are_tops Early cs ≡ true → are_tops Rooted (cs ++ c ∷ []) ≡ true
root_step c r [] h = r
root_step c r (d ∷ []) h = ap (λ x. x && is_root c) h ∙ r
root_step c r (d ∷ e ∷ cs) h = never h

pub doc_root : (name : List ℕ) (attrs : List NodeAttr) (t : GrowingTree) → is_root (name_class name) ≡ true → Doc Early t →
    Doc Rooted (inserted_at (EndOf 0) Html name attrs t)
doc_root name attrs t r doc =
    subst (λ (made : GrowingTree). Doc Rooted (pushed (fresh t) (put (fresh t) (EndOf 0) made))) (sym (created_only Html name attrs t)) (record {
      top = top_end Early Rooted (fresh t) t.nodes mid same (kids_element Html name attrs t Early doc.top) (none_past t.nodes)
          (root_counted (class_at (tags mid) (fresh t)) is_html) (root_there (class_at (tags mid) (fresh t)) is_html)
          (root_step (class_at (tags mid) (fresh t)) is_html) doc.top;
      open_ = subst (λ ts. Elements ts (fresh t ∷ t.stack)) (sym (tags_put (fresh t) (EndOf 0) mid))
          (ap (λ x. x && list_all (λ n. is_element (class_at (tags mid) n)) t.stack) (fresh_element Html name attrs t)
          ∙ elements_kept (tags t.nodes) (tags mid) same.keeps t.stack doc.open_);
    })
  where
    mid : List Node
    mid = (created_element Html name attrs t).nodes

    same : Same t.nodes mid
    same = same_element Html name attrs t

    is_html : is_root (class_at (tags mid) (fresh t)) ≡ true
    is_html = fresh_passes is_root refl Html name attrs (λ contents. r) t

doctype_step : (c : Cls) → is_doctype c ≡ true → (cs : List Cls) → are_tops Empty cs ≡ true → are_tops Early (cs ++ c ∷ []) ≡ true
doctype_step c r [] h = r
doctype_step c r (d ∷ cs) h = never h

doc_doctype : (d : _) (t : GrowingTree) → Doc Empty t → Doc Early (created_at (EndOf 0) (DoctypeNode d) t)
doc_doctype d t doc = record {
  top = top_end Empty Early (length t.nodes) t.nodes mid same (kids_leaf (DoctypeNode d) t.nodes Empty doc.top) (none_past t.nodes)
      (ap (λ u. is_counted u.cls) last) (ap (λ u. is_there u.cls) last)
      (doctype_step (class_at (tags mid) (length t.nodes)) (ap (λ u. is_doctype u.cls) last)) doc.top;
  open_ = subst (λ ts. Elements ts t.stack) (sym (tags_put (length t.nodes) (EndOf 0) mid)) (elements_kept (tags t.nodes) (tags mid) same.keeps t.stack doc.open_);
}
  where
    mid : List Node
    mid = t.nodes ++ leaf (DoctypeNode d) ∷ []

    same : Same t.nodes mid
    same = same_leaf (DoctypeNode d) t.nodes refl

    last : tag_at (tags mid) (length t.nodes) ≡ tag_of (DoctypeNode d)
    last = ap (λ ts. tag_at ts (length t.nodes)) (tags_more t.nodes (leaf (DoctypeNode d) ∷ [])) ∙ last_tag (tags t.nodes) (tag_of (DoctypeNode d)) t.nodes refl

early : (t : GrowingTree) → Doc Empty t → Doc Early t
early t doc = record {
  top = record { doc = doc.top.doc; valid = doc.top.valid; form = by (map (class_at (tags t.nodes)) (tops t.nodes)) doc.top.form; contents = doc.top.contents };
  open_ = doc.open_;
}
  where
    by : (cs : List Cls) → are_tops Empty cs ≡ true → are_tops Early cs ≡ true
    by [] h = refl
    by (c ∷ cs) h = never h

-- ---- before `html`

-- what is known of the mode and of the Document
abbrev pub Stages : Building → Type 0
Stages b = ((b.mode ≡ Initial) × Doc Empty b.tree) ⊎ ((b.mode ≡ BeforeHtml) × Doc Early b.tree)

-- there is neither an element `html` nor a body
abbrev pub Blank : List Tag → Type 0
Blank ts = (n : ℕ) → is_single (class_at ts n) ≡ false

pub record Begun (b : Building) : Type 0 where
  pub modes : Content b.template_modes
  pub bare : EarlyIs IsBare b.tree
  pub stage : Stages b
  pub blank : Blank (tags b.tree.nodes)
  pub page : b.tree.context ≡ None

-- What is so of a page once `html` is inserted: the rules leave the first of these, and at the end of the page come to the second, too.
pub record Roots (P Q : Building → Type 0) : Type 0 where
  pub root : (name : List ℕ) (attrs : List NodeAttr) (b : Building) → Begun b → Doc Early b.tree → is_among name (codes "html" ∷ []) ≡ true →
      P (record b { tree = inserted_at (EndOf 0) Html name attrs b.tree; mode = BeforeHead })
  pub runs : (d : ℕ) (b c : Building) → Turn b → P b → run d Dispatcher b ≡ Some c → Turn c × P c × (b.token ≡ AnEof → Q c)
  pub next : (token : Token) (b : Building) → P b → P (with_next token b)

-- `html` is there, or the token wasn't the end of the page
abbrev pub Goes : (P Q : Building → Type 0) → Building → Building → Type 0
Goes P Q b c = (Turn c × P c × (b.token ≡ AnEof → Q c)) ⊎ (Begun c × (b.token ≡ AnEof → ⊥))

abbrev pub Again : (P Q : Building → Type 0) → ℕ → Type 0
Again P Q d = (b c : Building) → Begun b → run d Dispatcher b ≡ Some c → Goes P Q b c

first_bare : (b : Building) → Begun b → At Bare b
first_bare b begun = (by begun.stage, begun.modes, begun.bare)
  where
    by : Stages b → is_first b.mode ≡ true
    by (inl one) = ap is_first one.0
    by (inr one) = ap is_first one.0

-- the name of such an element
pub root_name : (name : List ℕ) → is_among name (codes "html" ∷ []) ≡ true → is_root (name_class name) ≡ true
root_name name h = ap (λ x. is_root (elim x as (λ _. Cls) [
  | true ↦ HtmlC
  | false ↦ Rattle.standard_order.proofs.NodeTags.class_in Rattle.standard_order.proofs.NodeTags.other_classes name
])) h

-- a doctype or a comment
blank_leaf : (kind : Kind) (nodes : List Node) → is_single (kind_class kind) ≡ false → Blank (tags nodes) →
    Blank (tags (put_at (length nodes) (EndOf 0) (nodes ++ leaf kind ∷ [])))
blank_leaf kind nodes off blank =
    subst Blank (sym (tags_put (length nodes) (EndOf 0) (nodes ++ leaf kind ∷ []) ∙ tags_more nodes (leaf kind ∷ []))) (λ n. by n (split_at nodes (tags (leaf kind ∷ [])) n))
  where
    one : (j : ℕ) → is_single (tag_at (tag_of kind ∷ []) j).cls ≡ false
    one zero = off
    one (suc j) = refl

    by : (n : ℕ) → (is_there (class_at (tags nodes) n) ≡ true) ⊎ ((j : ℕ) × (tag_at (tags nodes ++ tags (leaf kind ∷ [])) n ≡ tag_at (tags (leaf kind ∷ [])) j)) →
        is_single (class_at (tags nodes ++ tags (leaf kind ∷ [])) n) ≡ false
    by n (inl old) = ap (λ t. is_single t.cls) (keeps_more (tags nodes) (tags (leaf kind ∷ [])) n old) ∙ blank n
    by n (inr new) = ap (λ t. is_single t.cls) new.1 ∙ one new.0

-- `html` is inserted, and the mode is "before head"
rooted : (P Q : Building → Type 0) → Roots P Q → (name : List ℕ) (b : Building) → Begun b → Doc Early b.tree → is_among name (codes "html" ∷ []) ≡ true →
    At Before (perform (SwitchTo BeforeHead) (perform (InsertRootNamed name) b)) × P (perform (SwitchTo BeforeHead) (perform (InsertRootNamed name) b))
unfolding perform
rooted P Q roots name b begun doc h = by (is_among name (codes "html" ∷ [])) refl h
  where
    by : (x : Bool) → is_among name (codes "html" ∷ []) ≡ x → x ≡ true →
        At Before (perform (SwitchTo BeforeHead) (perform (InsertRootNamed name) b)) × P (perform (SwitchTo BeforeHead) (perform (InsertRootNamed name) b))
    by true e k =
        let made : At RootMade (perform (InsertRootNamed name) b) =
        next_of_at Bare (Any [] []) (InsertRootNamed name) [] b RootMade (any_holds b.token) (ap (λ x. Rattle.standard_order.proofs.Levels.if_so x RootMade) e) (first_bare b begun) in (
          next_of_at RootMade (Any [] []) (SwitchTo BeforeHead) [] (perform (InsertRootNamed name) b) Before (any_holds (perform (InsertRootNamed name) b).token) refl made,
          roots.root name [] b begun doc h,
        )
    by false e k = never k

rooted_element : (P Q : Building → Type 0) → Roots P Q → (name : List ℕ) (attrs : List _) (closing : Bool) (u : Building) → Begun (with_tok (AStart name attrs closing) u) →
    Doc Early u.tree → is_among name (codes "html" ∷ []) ≡ true →
    At Before (perform (SwitchTo BeforeHead) (perform InsertRootElement (with_tok (AStart name attrs closing) u))) ×
    P (perform (SwitchTo BeforeHead) (perform InsertRootElement (with_tok (AStart name attrs closing) u)))
unfolding perform
rooted_element P Q roots name attrs closing u begun doc h =
    let b : Building = with_tok (AStart name attrs closing) u in
    let made : At RootMade (perform InsertRootElement b) =
    next_of_at Bare (Start (codes "html" ∷ [])) InsertRootElement [] b RootMade h refl (first_bare b begun) in (
      next_of_at RootMade (Any [] []) (SwitchTo BeforeHead) [] (perform InsertRootElement b) Before (any_holds (perform InsertRootElement b).token) refl made,
      roots.root name u.attrs b begun doc h,
    )

abbrev pub root_acts : List Act
root_acts = does (InsertRootNamed (codes "html")) [] ∷ does (SwitchTo BeforeHead) [] ∷ goes Reprocess ∷ []

root_goes : (P Q : Building → Type 0) → Roots P Q → (d : ℕ) (b c : Building) → Begun b → Doc Early b.tree → performed (run d) root_acts b ≡ Some c → Goes P Q b c
unfolding perform
root_goes P Q roots d b c begun doc e =
    let made : At Before (perform (SwitchTo BeforeHead) (perform (InsertRootNamed (codes "html")) b)) ×
    P (perform (SwitchTo BeforeHead) (perform (InsertRootNamed (codes "html")) b)) = rooted P Q roots (codes "html") b begun doc refl in
    let u : Building = perform (SwitchTo BeforeHead) (perform (InsertRootNamed (codes "html")) b) in
    let one : (x : Building) × (run d Dispatcher u ≡ Some x) × (performed (run d) [] x ≡ Some c) = then_some (performed (run d) []) (run d Dispatcher u) c e in
    inl (subst (λ v. Turn v × P v × (b.token ≡ AnEof → Q v)) (same_Some one.0 c one.2) (roots.runs d u one.0 (ends_turn Before u refl made.0) made.1 one.1))

stays : (P Q : Building → Type 0) → (b c : Building) → Begun b → (b.token ≡ AnEof → ⊥) → Some b ≡ Some c → Goes P Q b c
stays P Q b c begun other e = inr (subst Begun (same_Some b c e) begun, other)

comment_stays : (P Q : Building → Type 0) → (d : ℕ) (b c : Building) → Begun b → (b.token ≡ AnEof → ⊥) →
    performed (run d) (does InsertCommentInDocument [] ∷ []) b ≡ Some c → Goes P Q b c
unfolding perform
comment_stays P Q d b c begun other e = inr (
  subst Begun (same_Some _ c e) (record {
    modes = begun.modes;
    bare = begun.bare;
    stage = by begun.stage;
    blank = blank_leaf (CommentNode (comment_of b.token)) b.tree.nodes refl begun.blank;
    page = begun.page;
  }),
  other,
)
  where
    by : Stages b → Stages (perform InsertCommentInDocument b)
    by (inl one) = inl (one.0, doc_comment_in Empty _ b.tree one.1)
    by (inr one) = inr (one.0, doc_comment_in Early _ b.tree one.1)

html_goes : (P Q : Building → Type 0) → Roots P Q → (d : ℕ) (t : Token) (u : Building) (c : Building) → Begun (with_tok t u) → Doc Early u.tree →
    performed (run d) (taken (with_tok t u) (rules BeforeHtml)) (with_tok t u) ≡ Some c → Goes P Q (with_tok t u) c
unfolding rules taken
html_goes P Q roots d (ADoctype doctype) u c begun doc e = stays P Q (with_tok (ADoctype doctype) u) c begun (λ k. other k) e
  where
    other : ADoctype doctype ≡ AnEof → ⊥
    other k = cc
html_goes P Q roots d (AComment text) u c begun doc e = comment_stays P Q d (with_tok (AComment text) u) c begun (λ k. other k) e
  where
    other : AComment text ≡ AnEof → ⊥
    other k = cc
html_goes P Q roots d AnEof u c begun doc e = root_goes P Q roots d (with_tok AnEof u) c begun doc e
html_goes P Q roots d (AChar x) u c begun doc e = by (is_space x || false) e
  where
    other : AChar x ≡ AnEof → ⊥
    other k = cc

    by : (y : Bool) → performed (run d) (elim y as (λ _. List Act) [ true ↦ [] | false ↦ root_acts ]) (with_tok (AChar x) u) ≡ Some c →
        Goes P Q (with_tok (AChar x) u) c
    by true k = stays P Q (with_tok (AChar x) u) c begun (λ l. other l) k
    by false k = root_goes P Q roots d (with_tok (AChar x) u) c begun doc k
html_goes P Q roots d (AStart name attrs closing) u c begun doc e = by (is_among name (codes "html" ∷ [])) refl e
  where
    other : AStart name attrs closing ≡ AnEof → ⊥
    other k = cc

    by : (y : Bool) → is_among name (codes "html" ∷ []) ≡ y →
        performed (run d) (elim (y || false) as (λ _. List Act) [ true ↦ does InsertRootElement [] ∷ does (SwitchTo BeforeHead) [] ∷ [] | false ↦ root_acts ])
        (with_tok (AStart name attrs closing) u) ≡ Some c → Goes P Q (with_tok (AStart name attrs closing) u) c
    by true f k =
        let made : At Before (perform (SwitchTo BeforeHead) (perform InsertRootElement (with_tok (AStart name attrs closing) u))) ×
        P (perform (SwitchTo BeforeHead) (perform InsertRootElement (with_tok (AStart name attrs closing) u))) =
        rooted_element P Q roots name attrs closing u begun doc f in
        inl (subst (λ v. Turn v × P v × (AStart name attrs closing ≡ AnEof → Q v))
        (same_Some (perform (SwitchTo BeforeHead) (perform InsertRootElement (with_tok (AStart name attrs closing) u))) c k)
        (ends_turn Before _ refl made.0, made.1, λ l. absurd (other l)))
    by false f k = root_goes P Q roots d (with_tok (AStart name attrs closing) u) c begun doc k
html_goes P Q roots d (AnEnd name) u c begun doc e = by (is_among name (codes "head" ∷ codes "body" ∷ codes "html" ∷ codes "br" ∷ []) || false) e
  where
    other : AnEnd name ≡ AnEof → ⊥
    other k = cc

    by : (y : Bool) → performed (run d) (elim y as (λ _. List Act) [ true ↦ root_acts | false ↦ [] ]) (with_tok (AnEnd name) u) ≡ Some c →
        Goes P Q (with_tok (AnEnd name) u) c
    by true k = root_goes P Q roots d (with_tok (AnEnd name) u) c begun doc k
    by false k = stays P Q (with_tok (AnEnd name) u) c begun (λ l. other l) k

abbrev pub quirk_acts : List Act
quirk_acts = does SetQuirks [] ∷ does (SwitchTo BeforeHtml) [] ∷ goes Reprocess ∷ []

quirk_goes : (P Q : Building → Type 0) → (d : ℕ) (b c : Building) → Again P Q d → Begun b → Doc Empty b.tree → performed (run d) quirk_acts b ≡ Some c → Goes P Q b c
unfolding perform
quirk_goes P Q d b c again begun doc e =
    let u : Building = perform (SwitchTo BeforeHtml) (perform SetQuirks b) in
    let one : (x : Building) × (run d Dispatcher u ≡ Some x) × (performed (run d) [] x ≡ Some c) = then_some (performed (run d) []) (run d Dispatcher u) c e in
    subst (Goes P Q b) (same_Some one.0 c one.2)
    (again u one.0 (record { modes = begun.modes; bare = begun.bare; stage = inr (refl, early b.tree doc); blank = begun.blank; page = begun.page }) one.1)

initial_goes : (P Q : Building → Type 0) → (d : ℕ) (t : Token) (u : Building) (c : Building) → Again P Q d → Begun (with_tok t u) → Doc Empty u.tree →
    performed (run d) (taken (with_tok t u) (rules Initial)) (with_tok t u) ≡ Some c → Goes P Q (with_tok t u) c
unfolding rules taken perform
initial_goes P Q d (ADoctype doctype) u c again begun doc e = inr (
  subst Begun (same_Some _ c e) (record {
    modes = begun.modes;
    bare = begun.bare;
    stage = inr (refl, doc_doctype doctype u.tree doc);
    blank = blank_leaf (DoctypeNode doctype) u.tree.nodes refl begun.blank;
    page = begun.page;
  }),
  λ k. other k,
)
  where
    other : ADoctype doctype ≡ AnEof → ⊥
    other k = cc
initial_goes P Q d (AComment text) u c again begun doc e = comment_stays P Q d (with_tok (AComment text) u) c begun (λ k. other k) e
  where
    other : AComment text ≡ AnEof → ⊥
    other k = cc
initial_goes P Q d (AChar x) u c again begun doc e = by (is_space x || false) e
  where
    other : AChar x ≡ AnEof → ⊥
    other k = cc

    by : (y : Bool) → performed (run d) (elim y as (λ _. List Act) [ true ↦ [] | false ↦ quirk_acts ]) (with_tok (AChar x) u) ≡ Some c →
        Goes P Q (with_tok (AChar x) u) c
    by true k = stays P Q (with_tok (AChar x) u) c begun (λ l. other l) k
    by false k = quirk_goes P Q d (with_tok (AChar x) u) c again begun doc k
initial_goes P Q d AnEof u c again begun doc e = quirk_goes P Q d (with_tok AnEof u) c again begun doc e
initial_goes P Q d (AStart name attrs closing) u c again begun doc e = quirk_goes P Q d (with_tok (AStart name attrs closing) u) c again begun doc e
initial_goes P Q d (AnEnd name) u c again begun doc e = quirk_goes P Q d (with_tok (AnEnd name) u) c again begun doc e

no_result : {P : Type 0} (c : Building) → None ≡ Some c → P
no_result c h = cc

begun_goes : (P Q : Building → Type 0) → Roots P Q → (d : ℕ) → Again P Q d
unfolding run
begun_goes P Q roots zero b c begun e = no_result c e
begun_goes P Q roots (suc zero) b c begun e = no_result c (via b c begun e)
  where
    via : (b c : Building) → Begun b → performed (run zero) (taken b (rules Dispatcher)) b ≡ Some c → None ≡ Some c
    via b c begun e = by (then_some (performed (run zero) []) (run zero b.mode b) c (subst (λ acts. performed (run zero) acts b ≡ Some c)
        (Rattle.standard_order.proofs.TopRuns.dispatched_bare b begun.bare.0) e))
      where
        by : (x : Building) × (None ≡ Some x) × (performed (run zero) [] x ≡ Some c) → None ≡ Some c
        by one = no_result one.0 one.1
begun_goes P Q roots (suc (suc d)) b c begun e =
    let one : (x : Building) × (run (suc d) b.mode b ≡ Some x) × (performed (run (suc d)) [] x ≡ Some c) =
    then_some (performed (run (suc d)) []) (run (suc d) b.mode b) c (subst (λ acts. performed (run (suc d)) acts b ≡ Some c)
    (Rattle.standard_order.proofs.TopRuns.dispatched_bare b begun.bare.0) e) in
    subst (Goes P Q b) (same_Some one.0 c one.2) (by b begun.stage one.0 one.1 begun (begun_goes P Q roots d))
  where
    by : (b : Building) → Stages b → (x : Building) → performed (run d) (taken b (rules b.mode)) b ≡ Some x → Begun b → Again P Q d → Goes P Q b x
    by b (inl one) x f start_ again =
        initial_goes P Q d b.token b x again start_ one.1 (subst (λ m. performed (run d) (taken b (rules m)) b ≡ Some x) one.0 f)
    by b (inr one) x f start_ again = html_goes P Q roots d b.token b x start_ one.1 (subst (λ m. performed (run d) (taken b (rules m)) b ≡ Some x) one.0 f)

-- ---- tokens

abbrev pub State : (P : Building → Type 0) → Building → Type 0
State P b = (Turn b × P b) ⊎ Begun b

next_state : (P Q : Building → Type 0) → Roots P Q → (token : Token) (b : Building) → State P b → State P (with_next token b)
next_state P Q roots token b (inl one) = inl (turn_next token b one.0, roots.next token b one.1)
next_state P Q roots token b (inr begun) = inr (record { modes = begun.modes; bare = begun.bare; stage = begun.stage; blank = begun.blank; page = begun.page })

step_state : (P Q : Building → Type 0) → Roots P Q → (d : ℕ) (token : Token) (b c : Building) → State P b → tree_step d b token ≡ Some c → State P c
unfolding tree_step
step_state P Q roots d token b c s e = by (b.skip && is_line_feed token) e
  where
    run_state : State P (with_next token b) → run d Dispatcher (with_next token b) ≡ Some c → State P c
    run_state (inl one) k =
        let now : Turn c × P c × (token ≡ AnEof → Q c) = roots.runs d (with_next token b) c one.0 one.1 k in
        inl (now.0, now.1)
    run_state (inr begun) k = of_goes (begun_goes P Q roots d (with_next token b) c begun k)
      where
        of_goes : Goes P Q (with_next token b) c → State P c
        of_goes (inl one) = inl (one.0, one.1)
        of_goes (inr one) = inr one.0

    by : (x : Bool) → elim x [ true ↦ Some (with_next token b) | false ↦ run d Dispatcher (with_next token b) ] ≡ Some c → State P c
    by true k = subst (State P) (same_Some (with_next token b) c k) (next_state P Q roots token b s)
    by false k = run_state (next_state P Q roots token b s) k

end_state : (P Q : Building → Type 0) → Roots P Q → (d : ℕ) (b c : Building) → State P b → tree_step d b AnEof ≡ Some c → Q c
unfolding tree_step
end_state P Q roots d b c s e = by (b.skip && false) e
  where
    run_state : State P (with_next AnEof b) → run d Dispatcher (with_next AnEof b) ≡ Some c → Q c
    run_state (inl one) k =
        let now : Turn c × P c × (AnEof ≡ AnEof → Q c) = roots.runs d (with_next AnEof b) c one.0 one.1 k in
        now.2 refl
    run_state (inr begun) k = of_goes (begun_goes P Q roots d (with_next AnEof b) c begun k)
      where
        of_goes : Goes P Q (with_next AnEof b) c → Q c
        of_goes (inl one) = one.2 refl
        of_goes (inr one) = absurd (one.1 refl)

    cut : (x : Bool) → elim (x && false) [ true ↦ Some (with_next AnEof b) | false ↦ run d Dispatcher (with_next AnEof b) ] ≡ Some c →
        run d Dispatcher (with_next AnEof b) ≡ Some c
    cut true k = k
    cut false k = k

    by : (x : Bool) → elim (b.skip && false) [ true ↦ Some (with_next AnEof b) | false ↦ run d Dispatcher (with_next AnEof b) ] ≡ Some c → Q c
    by x k = run_state (next_state P Q roots AnEof b s) (cut b.skip k)

page_state : (P Q : Building → Type 0) → Roots P Q → (d : ℕ) (tokens : List Token) (b c : Building) → State P b → tree_steps d b (tokens ++ AnEof ∷ []) ≡ Some c → Q c
page_state P Q roots d [] b c s e =
    let one : (x : Building) × (tree_step d b AnEof ≡ Some x) × (tree_steps d x [] ≡ Some c) = then_some (λ after. tree_steps d after []) (tree_step d b AnEof) c e in
    subst Q (same_Some one.0 c one.2) (end_state P Q roots d b one.0 s one.1)
page_state P Q roots d (token ∷ tokens) b c s e =
    let one : (x : Building) × (tree_step d b token ≡ Some x) × (tree_steps d x (tokens ++ AnEof ∷ []) ≡ Some c) =
    then_some (λ after. tree_steps d after (tokens ++ AnEof ∷ [])) (tree_step d b token) c e in
    page_state P Q roots d tokens one.0 c (step_state P Q roots d token b one.0 s one.1) one.2

start_begun : (scripting : Bool) → Begun (start scripting)
start_begun scripting = record {
  modes = refl;
  bare = (refl, (refl, refl, refl, refl));
  stage = inl (
    refl,
    record {
      top = record { doc = refl; valid = refl; form = refl; contents = λ n k e. none n k e };
      open_ = refl;
    },
  );
  blank = λ n. blank n;
  page = refl;
}
  where
    none : (n k : ℕ) → (tag_at (tags (empty_tree).nodes) n).held ≡ Some k → class_at (tags (empty_tree).nodes) k ≡ ContentsC
    none zero k e = cc
    none (suc n) k e = cc

    blank : (n : ℕ) → is_single (class_at (tags (empty_tree).nodes) n) ≡ false
    blank zero = refl
    blank (suc n) = refl

-- what is so of each page
pub all_pages : (P Q : Building → Type 0) → Roots P Q → (depth : ℕ) (scripting : Bool) (tokens : List Token) (end : Building) →
    tree_steps depth (start scripting) (tokens ++ AnEof ∷ []) ≡ Some end → Q end
all_pages P Q roots depth scripting tokens end e = page_state P Q roots depth tokens (start scripting) end (inr (start_begun scripting)) e

settled_roots : Roots Settled Settled
settled_roots = record {
  root = λ name attrs b begun doc h. (doc_root name attrs b.tree (root_name name h) doc, refl);
  runs = λ d b c turn s e.
      let now : Turn c × Settled c = (all_settled d).uses Dispatcher b c turn refl s e in
      (now.0, now.1, λ eof. now.1);
  next = λ token b s. (record { top = s.0.top; open_ = s.0.open_ }, s.1);
}

-- ---- the test of the tree

comment_same : (kind : Kind) → not (is_comment_kind kind) ≡ is_counted (kind_class kind)
comment_same (CommentNode text) = refl
comment_same (Rattle.standard_trees.specs.TreeStore.TextNode text) = refl
comment_same (DoctypeNode d) = refl
comment_same Rattle.standard_trees.specs.TreeStore.DocumentNode = refl
comment_same Rattle.standard_trees.specs.TreeStore.ContentsNode = refl
comment_same (ElementNode Rattle.standard_trees.specs.TreeStore.Svg name attrs contents) = refl
comment_same (ElementNode Rattle.standard_trees.specs.TreeStore.MathMl name attrs contents) = refl
comment_same (ElementNode Html name attrs contents) =
    sym (Rattle.standard_order.proofs.NodeTags.class_passes is_counted name Rattle.standard_order.proofs.NodeTags.classes refl)

counted_same : (nodes : List Node) (ns : List ℕ) → AllThere (tags nodes) ns →
    filter (λ child. not (is_comment_kind (node_at nodes child).kind)) ns ≡ counted is_counted (tags nodes) ns
counted_same nodes [] h = refl
counted_same nodes (n ∷ ns) h =
    let two : (is_there (class_at (tags nodes) n) ≡ true) × AllThere (tags nodes) ns = both (is_there (class_at (tags nodes) n)) _ h in
    ap (λ q. cond (not (is_comment_kind (node_at nodes n).kind)) (n ∷ q) q) (counted_same nodes ns two.1)
    ∙ ap (λ x. cond x (n ∷ counted is_counted (tags nodes) ns) (counted is_counted (tags nodes) ns))
    (comment_same (node_at nodes n).kind ∙ ap (λ u. is_counted u.cls) (sym (tag_there nodes n two.0)))

doctype_is : (kind : Kind) → is_doctype (kind_class kind) ≡ true → is_doctype_kind kind ≡ true
doctype_is (DoctypeNode d) h = refl
doctype_is (CommentNode text) h = never h
doctype_is (Rattle.standard_trees.specs.TreeStore.TextNode text) h = never h
doctype_is Rattle.standard_trees.specs.TreeStore.DocumentNode h = never h
doctype_is Rattle.standard_trees.specs.TreeStore.ContentsNode h = never h
doctype_is (ElementNode Rattle.standard_trees.specs.TreeStore.Svg name attrs contents) h = never h
doctype_is (ElementNode Rattle.standard_trees.specs.TreeStore.MathMl name attrs contents) h = never h
doctype_is (ElementNode Html name attrs contents) h =
    never (sym (ap not h) ∙ Rattle.standard_order.proofs.NodeTags.class_passes (λ c. not (is_doctype c)) name Rattle.standard_order.proofs.NodeTags.classes refl)

root_is : (kind : Kind) → is_root (kind_class kind) ≡ true → is_html_kind (codes "html") kind ≡ true
root_is (DoctypeNode d) h = never h
root_is (CommentNode text) h = never h
root_is (Rattle.standard_trees.specs.TreeStore.TextNode text) h = never h
root_is Rattle.standard_trees.specs.TreeStore.DocumentNode h = never h
root_is Rattle.standard_trees.specs.TreeStore.ContentsNode h = never h
root_is (ElementNode Rattle.standard_trees.specs.TreeStore.Svg name attrs contents) h = never h
root_is (ElementNode Rattle.standard_trees.specs.TreeStore.MathMl name attrs contents) h = never h
root_is (ElementNode Html name attrs contents) h = by (Rattle.std.specs.Prelude.bytes_eq name (codes "html")) refl h
  where
    by : (x : Bool) → Rattle.std.specs.Prelude.bytes_eq name (codes "html") ≡ x → is_root (elim (x || false) as (λ _. Cls) [
      | true ↦ HtmlC
      | false ↦ Rattle.standard_order.proofs.NodeTags.class_in Rattle.standard_order.proofs.NodeTags.other_classes name
    ]) ≡ true → x ≡ true
    by true e k = refl
    by false e k =
        never (sym (ap not k) ∙ Rattle.standard_order.proofs.NodeTags.class_passes (λ c. not (is_root c)) name Rattle.standard_order.proofs.NodeTags.other_classes refl)

root_test : (nodes : List Node) (ns : List ℕ) → AllTop (tags nodes) ns → are_tops Rooted (map (class_at (tags nodes)) ns) ≡ true → is_root_top nodes ns ≡ true
root_test nodes [] all h = never h
root_test nodes (r ∷ []) all h = root_is (node_at nodes r).kind (subst (λ u. is_root u.cls ≡ true) (tag_there nodes r (Rattle.standard_order.proofs.NodeTops.top_there _ (both (is_top (class_at (tags nodes) r)) true all).0)) h)
root_test nodes (d ∷ r ∷ []) all h =
    let two : (is_doctype (class_at (tags nodes) d) ≡ true) × (is_root (class_at (tags nodes) r) ≡ true) = both (is_doctype (class_at (tags nodes) d)) (is_root (class_at (tags nodes) r)) h in
    let tops_are : (is_top (class_at (tags nodes) d) ≡ true) × AllTop (tags nodes) (r ∷ []) = both (is_top (class_at (tags nodes) d)) _ all in
    ap (λ x. x && is_html_at nodes (codes "html") r)
    (doctype_is (node_at nodes d).kind (subst (λ u. is_doctype u.cls ≡ true) (tag_there nodes d (Rattle.standard_order.proofs.NodeTops.top_there _ tops_are.0)) two.0))
    ∙ root_is (node_at nodes r).kind (subst (λ u. is_root u.cls ≡ true) (tag_there nodes r (Rattle.standard_order.proofs.NodeTops.top_there _ (both (is_top (class_at (tags nodes) r)) true tops_are.1).0)) two.1)
root_test nodes (a ∷ b ∷ c ∷ ns) all h = never h

pub pages_have_one_root : PagesHaveOneRoot
pages_have_one_root depth scripting tokens end e =
    let s : Settled end = all_pages Settled Settled settled_roots depth scripting tokens end e in
    subst (λ ns. is_root_top end.tree.nodes ns ≡ true) (sym (counted_same end.tree.nodes (kids end.tree.nodes 0) s.0.top.valid))
    (root_test end.tree.nodes (tops end.tree.nodes) (all_top Rooted (tags end.tree.nodes) (tops end.tree.nodes) s.0.top.form) s.0.top.form)
