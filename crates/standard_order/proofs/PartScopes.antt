-- In the modes of the body: parts of tables that are popped with all above them, and "reset the insertion mode appropriately".
use Rattle.std.specs.Prelude.{◌≡◌, ◌&&◌, ◌||◌, refl, ℕ, zero, suc, Bool, true, false, not, List, [], ◌∷◌, Option, None, Some, bytes_eq, codes}
use Rattle.std.specs.List.{list_all, list_any}
use Rattle.std.proofs.lemmas.Option.{same_Some}
use mathlib.Core.Path.{◌∙◌, sym, ap, subst}
use Rattle.standard_trees.specs.RuleWords.{AfterAfterBody, AfterBody, Always, HeadPointerIsSet, InBody, InCaption, InCell, InColumnGroup, InRow, InTable, InTableBody}
use Rattle.standard_trees.specs.RuleWords.{InTemplate, Mode, NodeTest, NotTopmost, Reset, reset_to, reset_to_template_mode}
use Rattle.standard_trees.specs.TreeStore.{CommentNode, ContentsNode, DoctypeNode, DocumentNode, ElementNode, Html, Kind, MathMl, Svg, TextNode, key_in}
use Rattle.standard_trees.specs.TreeRules.{resets}
use Rattle.standard_trees.specs.GrowingTree.{GrowingTree, in_scope, is_among, key, kind_of, past, with_stack}
use Rattle.standard_trees.specs.Building.{node_test, reset_by, reset_from, top_mode}
use Rattle.standard_order.proofs.StandingStacks.{both, never}
use Rattle.standard_order.proofs.Levels.{is_content}
use Rattle.standard_order.proofs.LevelFacts.{Content}
use Rattle.standard_order.proofs.NodeTags.{BodyC, CaptionC, CellC, Cls, GroupC, HtmlC, PlainC, RowC, TableC, TemplateC, class_at, classes, is_element, kind_class, name_class}
use Rattle.standard_order.proofs.NodeTags.{tag_at, tag_of, tag_there, tags, there}
use Rattle.standard_order.proofs.NodeTops.{is_root}
use Rattle.standard_order.proofs.TreeTops.{Elements, elements_past}
use Rattle.standard_order.proofs.PartKids.{is_body}
use Rattle.standard_order.proofs.Chains.{Site, at_most, chain, context, counted_on, first, has_body, is_deep, is_group, is_inner, is_plain, is_row, is_table, is_template, of, on, site_of, templates_in}
use Rattle.standard_order.proofs.PartTrees.{In, cls, named_class}
use Rattle.standard_order.proofs.PartPlaces.{class_among}
use Rattle.standard_order.proofs.PartTables.{deep_inner, in_turned}

-- ---- elements in table scope

abbrev pub ends_table : Cls → Bool
ends_table HtmlC = true
ends_table TemplateC = true
ends_table TableC = true
ends_table _ = false

-- a table or a part of one
abbrev pub is_tabular : Cls → Bool
is_tabular TableC = true
is_tabular GroupC = true
is_tabular RowC = true
is_tabular CellC = true
is_tabular CaptionC = true
is_tabular _ = false

-- such open elements are asked for in table scope
pub record Asked (f : ℕ → Cls) (wants : Cls → Bool) (wanted ends : ℕ → Bool) : Type 0 where
  pub only : (n : ℕ) → wanted n ≡ true → wants (f n) ≡ true
  pub tabular : (c : Cls) → wants c ≡ true → is_tabular c ≡ true
  pub ending : (n : ℕ) → ends_table (f n) ≡ true → ends n ≡ true

-- what they stand on
pub record Below (f : ℕ → Cls) (wants : Cls → Bool) (s q : List ℕ) : Type 0 where
  pub chained : chain (of f q) ≡ true
  pub stood : (c : Cls) × (wants c ≡ true) × (on c (first (of f q)) ≡ true)
  pub body : has_body (of f q) ≡ has_body (of f s)
  pub fewer : at_most (templates_in (of f q)) (templates_in (of f s)) ≡ true

tabular_body : (c : Cls) → is_tabular c ≡ true → is_body c ≡ false
tabular_body BodyC h = never h
tabular_body _ h = refl

not_asked : (f : ℕ → Cls) (wants : Cls → Bool) (wanted ends : ℕ → Bool) → Asked f wants wanted ends → (n : ℕ) (rest : Bool) → is_tabular (f n) ≡ false →
    ends_table (f n) ≡ true → wanted n || (not (ends n) && rest) ≡ true → ⊥
not_asked f wants wanted ends asked n rest off end h = by (wanted n) (ends n) refl (asked.ending n end) h
  where
    by : (x y : Bool) → wanted n ≡ x → y ≡ true → x || (not y && rest) ≡ true → ⊥
    by true y e k l = never (sym off ∙ asked.tabular (f n) (asked.only n e))
    by false true e k l = never l
    by false false e k l = never k

pub most_self : (n : ℕ) → at_most n n ≡ true
most_self zero = refl
most_self (suc n) = most_self n

pub most_more : (n m : ℕ) → at_most n m ≡ true → at_most n (suc m) ≡ true
most_more zero m h = refl
most_more (suc n) zero h = never h
most_more (suc n) (suc m) h = most_more n m h

pub most_on : (c : Cls) (n m : ℕ) → at_most n m ≡ true → at_most n (counted_on c m) ≡ true
most_on c n m h = by (is_template c)
  where
    by : (x : Bool) → at_most n (elim x as (λ _. ℕ) [ true ↦ suc m | false ↦ m ]) ≡ true
    by true = most_more n m h
    by false = h

root_end : (c : Cls) → is_root c ≡ true → (is_tabular c ≡ false) × (ends_table c ≡ true)
root_end HtmlC h = (refl, refl)
root_end _ h = never h

pub scoped_below : (f : ℕ → Cls) (wants : Cls → Bool) (wanted ends : ℕ → Bool) → Asked f wants wanted ends → (s : List ℕ) → chain (of f s) ≡ true →
    in_scope wanted ends s ≡ true → Below f wants s (past wanted s)
scoped_below f wants wanted ends asked [] h scope = never h
scoped_below f wants wanted ends asked (n ∷ []) h scope =
    absurd (not_asked f wants wanted ends asked n false (root_end (f n) h).0 (root_end (f n) h).1 scope)
scoped_below f wants wanted ends asked (n ∷ m ∷ ms) h scope =
    by (wanted n) (ends n) refl scope (λ k. scoped_below f wants wanted ends asked (m ∷ ms) links.1 k)
  where
    links : (on (f n) (f m) ≡ true) × (chain (of f (m ∷ ms)) ≡ true)
    links = both (on (f n) (f m)) (chain (of f (m ∷ ms))) h

    body_off : in_scope wanted ends (m ∷ ms) ≡ true → is_body (f n) ≡ false
    body_off k = cut (f n) links.0
      where
        cut : (c : Cls) → on c (f m) ≡ true → is_body c ≡ false
        cut BodyC o = absurd (not_asked f wants wanted ends asked m (in_scope wanted ends ms) (root_end (f m) o).0 (root_end (f m) o).1 k)
        cut _ o = refl

    by : (x y : Bool) → wanted n ≡ x → x || (not y && in_scope wanted ends (m ∷ ms)) ≡ true →
        (in_scope wanted ends (m ∷ ms) ≡ true → Below f wants (m ∷ ms) (past wanted (m ∷ ms))) →
        Below f wants (n ∷ m ∷ ms) (elim x as (λ _. List ℕ) [ true ↦ m ∷ ms | false ↦ past wanted (m ∷ ms) ])
    by true y e k go = record {
      chained = links.1;
      stood = (f n, asked.only n e, links.0);
      body = sym (ap (λ x. x || has_body (of f (m ∷ ms))) (tabular_body (f n) (asked.tabular (f n) (asked.only n e))));
      fewer = most_on (f n) (templates_in (of f (m ∷ ms))) (templates_in (of f (m ∷ ms))) (most_self (templates_in (of f (m ∷ ms))));
    }
    by false true e k go = never k
    by false false e k go =
        let rest : Below f wants (m ∷ ms) (past wanted (m ∷ ms)) = go k in
        record {
          chained = rest.chained;
          stood = rest.stood;
          body = rest.body ∙ sym (ap (λ x. x || has_body (of f (m ∷ ms))) (body_off k));
          fewer = most_on (f n) (templates_in (of f (past wanted (m ∷ ms)))) (templates_in (of f (m ∷ ms))) rest.fewer;
        }

host_deep : (d : Cls) → is_table d || is_template d ≡ true → is_deep d ≡ true
host_deep TableC h = refl
host_deep TemplateC h = refl
host_deep _ h = never h

group_deep : (d : Cls) → is_group d || is_template d ≡ true → is_deep d ≡ true
group_deep GroupC h = refl
group_deep TemplateC h = refl
group_deep _ h = never h

row_deep : (d : Cls) → is_row d || is_template d ≡ true → is_deep d ≡ true
row_deep RowC h = refl
row_deep TemplateC h = refl
row_deep _ h = never h

pub tabular_deep : (c d : Cls) → is_tabular c ≡ true → on c d ≡ true → is_deep d ≡ true
tabular_deep TableC d h o = o
tabular_deep GroupC d h o = host_deep d o
tabular_deep CaptionC d h o = host_deep d o
tabular_deep RowC d h o = group_deep d o
tabular_deep CellC d h o = row_deep d o
tabular_deep _ d h o = never h

-- the first of these is popped, with all above it
pub record Popped (r : ℕ) (wants : Cls → Bool) (open_ : ℕ) (t : GrowingTree) : Type 0 where
  pub site : Site
  pub now : In r site t
  pub fewer : at_most site.templates open_ ≡ true
  pub stood : (c : Cls) × (wants c ≡ true) × (on c (first (cls t)) ≡ true)

pub in_scoped_past : (r : ℕ) (c : Site) (t : GrowingTree) (wants : Cls → Bool) (wanted ends : ℕ → Bool) → Asked (class_at (tags t.nodes)) wants wanted ends →
    in_scope wanted ends t.stack ≡ true → In r c t → Popped r wants c.templates (with_stack t (past wanted t.stack))
in_scoped_past r c t wants wanted ends asked scope i =
    let below : Below (class_at (tags t.nodes)) wants t.stack (past wanted t.stack) =
    scoped_below (class_at (tags t.nodes)) wants wanted ends asked t.stack i.chained scope in
    record {
      site = site_of (of (class_at (tags t.nodes)) (past wanted t.stack));
      now = in_turned r c (site_of (of (class_at (tags t.nodes)) (past wanted t.stack))) t (past wanted t.stack) below.chained refl
          (deep_inner (of (class_at (tags t.nodes)) (past wanted t.stack)) below.chained
          (tabular_deep below.stood.0 _ (asked.tabular below.stood.0 below.stood.1) below.stood.2)) below.body refl (elements_past (tags t.nodes) wanted t.stack i.open_) i;
      fewer = subst (λ k. at_most (templates_in (of (class_at (tags t.nodes)) (past wanted t.stack))) k ≡ true) i.few below.fewer;
      stood = below.stood;
    }

-- where such an element is in table scope, the innermost one isn't a template
pub scoped_template : (f : ℕ → Cls) (wants : Cls → Bool) (wanted ends : ℕ → Bool) → Asked f wants wanted ends → (s : List ℕ) →
    context (of f s) ≡ TemplateC → in_scope wanted ends s ≡ true → ⊥
scoped_template f wants wanted ends asked [] w scope = never scope
scoped_template f wants wanted ends asked (n ∷ ns) w scope = by (is_plain (f n)) refl w (λ k l. scoped_template f wants wanted ends asked ns k l)
  where
    under : (x y : Bool) → wanted n ≡ x → is_plain (f n) ≡ true → x || (not y && in_scope wanted ends ns) ≡ true → in_scope wanted ends ns ≡ true
    under true y e p k = clash (f n) p (asked.tabular (f n) (asked.only n e))
      where
        clash : (c : Cls) → is_plain c ≡ true → is_tabular c ≡ true → in_scope wanted ends ns ≡ true
        clash PlainC a b = never b
        clash _ a b = never a
    under false true e p k = never k
    under false false e p k = k

    by : (x : Bool) → is_plain (f n) ≡ x → elim x as (λ _. Cls) [ true ↦ context (of f ns) | false ↦ f n ] ≡ TemplateC →
        (context (of f ns) ≡ TemplateC → in_scope wanted ends ns ≡ true → ⊥) → ⊥
    by true p k go = go k (under (wanted n) (ends n) refl p scope)
    by false p k go = not_asked f wants wanted ends asked n (in_scope wanted ends ns) (ap is_tabular k) (ap ends_table k) scope

-- ---- the insertion mode

-- the innermost open element that isn't an ordinary one, in each mode of the body
abbrev pub home : Mode → Cls → Bool
home InBody c = is_body c || is_template c
home InTable c = is_table c || is_template c
home InCaption CaptionC = true
home InColumnGroup CaptionC = true
home InColumnGroup TemplateC = true
home InTableBody c = is_group c || is_template c
home InRow c = is_row c || is_template c
home InCell CellC = true
home InTemplate c = is_template c
home AfterBody c = is_body c
home AfterAfterBody c = is_body c
home _ c = false

pub content_home : (mode : Mode) → is_content mode ≡ true → home mode TemplateC ≡ true
content_home InBody h = refl
content_home InTable h = refl
content_home InColumnGroup h = refl
content_home InTableBody h = refl
content_home InRow h = refl
content_home InTemplate h = refl
content_home _ h = never h

top_home : (modes : List Mode) → Content modes → home (top_mode modes) TemplateC ≡ true
top_home [] h = refl
top_home (mode ∷ modes) h = content_home mode (both (is_content mode) (list_all is_content modes) h).0

abbrev pub tells_home : Mode → Cls → Bool
tells_home mode c = not (is_plain c) && (not (is_inner c) || home mode c)

abbrev pub reset_fits : Reset → Bool
reset_fits (reset_to names test mode) = list_all (λ one. tells_home mode (name_class one)) names
reset_fits (reset_to_template_mode names) = list_all (λ one. is_template (name_class one)) names

template_is : (c : Cls) → is_template c ≡ true → c ≡ TemplateC
template_is TemplateC h = refl
template_is _ h = never h

-- a mode that is told is one for the element
reset_home_by : (rs : List Reset) → list_all reset_fits rs ≡ true → (name : List ℕ) (modes : List Mode) → Content modes → (pointer : Option ℕ) (above : List ℕ)
    (mode : Mode) → reset_by rs name modes pointer above ≡ Some mode → tells_home mode (name_class name) ≡ true
reset_home_by [] all name modes content pointer above mode e = cc
reset_home_by (reset_to ones when one ∷ more) all name modes content pointer above mode e =
    by (is_among name ones) (node_test when pointer above) refl e (λ k. reset_home_by more two.1 name modes content pointer above mode k)
  where
    two : (list_all (λ o. tells_home one (name_class o)) ones ≡ true) × (list_all reset_fits more ≡ true)
    two = both (list_all (λ o. tells_home one (name_class o)) ones) (list_all reset_fits more) all

    by : (x y : Bool) → is_among name ones ≡ x → elim (x && y) as (λ _. Option Mode) [ true ↦ Some one | false ↦ reset_by more name modes pointer above ] ≡ Some mode →
        (reset_by more name modes pointer above ≡ Some mode → tells_home mode (name_class name) ≡ true) → tells_home mode (name_class name) ≡ true
    by true true f k go = subst (λ m. tells_home m (name_class name) ≡ true) (same_Some one mode k) (named_class (tells_home one) name ones two.0 f)
    by true false f k go = go k
    by false y f k go = go k
reset_home_by (reset_to_template_mode ones ∷ more) all name modes content pointer above mode e =
    by (is_among name ones) refl e (λ k. reset_home_by more two.1 name modes content pointer above mode k)
  where
    two : (list_all (λ o. is_template (name_class o)) ones ≡ true) × (list_all reset_fits more ≡ true)
    two = both (list_all (λ o. is_template (name_class o)) ones) (list_all reset_fits more) all

    by : (x : Bool) → is_among name ones ≡ x → elim x as (λ _. Option Mode) [ true ↦ Some (top_mode modes) | false ↦ reset_by more name modes pointer above ] ≡ Some mode →
        (reset_by more name modes pointer above ≡ Some mode → tells_home mode (name_class name) ≡ true) → tells_home mode (name_class name) ≡ true
    by true f k go = subst (λ m. tells_home m (name_class name) ≡ true) (same_Some (top_mode modes) mode k)
        (subst (λ c. tells_home (top_mode modes) c ≡ true) (sym (template_is (name_class name) (named_class is_template name ones two.0 f))) (top_home modes content))
    by false f k go = go k

-- for these a mode is told wherever they are above another
abbrev pub is_free : NodeTest → Bool
is_free Always = true
is_free NotTopmost = true
is_free HeadPointerIsSet = false

abbrev pub hits : List ℕ → Reset → Bool
hits name (reset_to names test mode) = is_among name names && is_free test
hits name (reset_to_template_mode names) = is_among name names

reset_misses : (rs : List Reset) (name : List ℕ) (modes : List Mode) (pointer : Option ℕ) (m : ℕ) (ms : List ℕ) → list_any (hits name) rs ≡ true →
    reset_by rs name modes pointer (m ∷ ms) ≡ None → ⊥
reset_misses [] name modes pointer m ms h e = never h
reset_misses (reset_to ones when one ∷ more) name modes pointer m ms h e =
    by (is_among name ones) when h e (λ k l. reset_misses more name modes pointer m ms k l)
  where
    by : (x : Bool) (test : NodeTest) → (x && is_free test) || list_any (hits name) more ≡ true →
        elim (x && node_test test pointer (m ∷ ms)) as (λ _. Option Mode) [ true ↦ Some one | false ↦ reset_by more name modes pointer (m ∷ ms) ] ≡ None →
        (list_any (hits name) more ≡ true → reset_by more name modes pointer (m ∷ ms) ≡ None → ⊥) → ⊥
    by true Always k l go = cc
    by true NotTopmost k l go = cc
    by true HeadPointerIsSet k l go = cut (Rattle.standard_trees.specs.Building.is_present pointer) l
      where
        cut : (x : Bool) → elim x as (λ _. Option Mode) [ true ↦ Some one | false ↦ reset_by more name modes pointer (m ∷ ms) ] ≡ None → ⊥
        cut true n = cc
        cut false n = go k n
    by false test k l go = go k l
reset_misses (reset_to_template_mode ones ∷ more) name modes pointer m ms h e = by (is_among name ones) h e (λ k l. reset_misses more name modes pointer m ms k l)
  where
    by : (x : Bool) → x || list_any (hits name) more ≡ true →
        elim x as (λ _. Option Mode) [ true ↦ Some (top_mode modes) | false ↦ reset_by more name modes pointer (m ∷ ms) ] ≡ None →
        (list_any (hits name) more ≡ true → reset_by more name modes pointer (m ∷ ms) ≡ None → ⊥) → ⊥
    by true k l go = cc
    by false k l go = go k l

abbrev pub pick : ℕ → (Reset → Bool) → List Reset → Bool
pick k P [] = false
pick zero P (r ∷ rs) = P r
pick (suc k) P (r ∷ rs) = pick k P rs

pick_any : (k : ℕ) (P : Reset → Bool) (rs : List Reset) → pick k P rs ≡ true → list_any P rs ≡ true
pick_any k P [] h = never h
pick_any zero P (r ∷ rs) h = ap (λ x. x || list_any P rs) h
pick_any (suc k) P (r ∷ rs) h = by (P r) (pick_any k P rs h)
  where
    by : (x : Bool) → list_any P rs ≡ true → x || list_any P rs ≡ true
    by true more = refl
    by false more = more

free : {x : Bool} → x ≡ true → x && true ≡ true
free h = ap (λ z. z && true) h

abbrev pub is_cell_class : Cls → Bool
is_cell_class CellC = true
is_cell_class _ = false

abbrev pub is_caption_class : Cls → Bool
is_caption_class CaptionC = true
is_caption_class _ = false

inner_hit : (name : List ℕ) (c : Cls) → name_class name ≡ c → is_inner c ≡ true → list_any (hits name) resets ≡ true
inner_hit name CellC e h = pick_any 0 (hits name) resets (free (class_among is_cell_class (codes "td" ∷ codes "th" ∷ []) classes refl name (ap is_cell_class e)))
inner_hit name RowC e h = pick_any 1 (hits name) resets (free (class_among is_row (codes "tr" ∷ []) classes refl name (ap is_row e)))
inner_hit name GroupC e h =
    pick_any 2 (hits name) resets (free (class_among is_group (codes "tbody" ∷ codes "thead" ∷ codes "tfoot" ∷ []) classes refl name (ap is_group e)))
inner_hit name CaptionC e h =
    by (bytes_eq name (codes "caption")) (bytes_eq name (codes "colgroup")) refl refl
    (class_among is_caption_class (codes "caption" ∷ codes "colgroup" ∷ []) classes refl name (ap is_caption_class e))
  where
    by : (x y : Bool) → bytes_eq name (codes "caption") ≡ x → bytes_eq name (codes "colgroup") ≡ y → x || (y || false) ≡ true → list_any (hits name) resets ≡ true
    by true y f g k = pick_any 3 (hits name) resets (free (ap (λ z. z || false) f))
    by false true f g k = pick_any 4 (hits name) resets (free (ap (λ z. z || false) g))
    by false false f g k = never k
inner_hit name TableC e h = pick_any 5 (hits name) resets (free (class_among is_table (codes "table" ∷ []) classes refl name (ap is_table e)))
inner_hit name TemplateC e h = pick_any 6 (hits name) resets (class_among is_template (codes "template" ∷ []) classes refl name (ap is_template e))
inner_hit name BodyC e h = pick_any 8 (hits name) resets (free (class_among is_body (codes "body" ∷ []) classes refl name (ap is_body e)))
inner_hit name _ e h = never h

-- what is told of a node above another
abbrev pub Told : Kind → Option Mode → Type 0
Told kind None = is_inner (kind_class kind) ≡ false
Told kind (Some mode) = tells_home mode (kind_class kind) ≡ true

told : (kind : Kind) (modes : List Mode) (pointer : Option ℕ) (m : ℕ) (ms : List ℕ) → Content modes → is_element (kind_class kind) ≡ true →
    Told kind (reset_by resets (key_in kind) modes pointer (m ∷ ms))
told (ElementNode Html name attrs contents) modes pointer m ms content h = by (reset_by resets name modes pointer (m ∷ ms)) refl
  where
    none : (x : Bool) → is_inner (name_class name) ≡ x → reset_by resets name modes pointer (m ∷ ms) ≡ None → x ≡ false
    none true k e = absurd (reset_misses resets name modes pointer m ms (inner_hit name (name_class name) refl k) e)
    none false k e = refl

    by : (o : Option Mode) → reset_by resets name modes pointer (m ∷ ms) ≡ o → Told (ElementNode Html name attrs contents) o
    by None e = none (is_inner (name_class name)) refl e
    by (Some mode) e = reset_home_by resets refl name modes content pointer (m ∷ ms) mode e
told (ElementNode Svg name attrs contents) modes pointer m ms content h = refl
told (ElementNode MathMl name attrs contents) modes pointer m ms content h = refl
told (TextNode text) modes pointer m ms content h = never h
told (CommentNode text) modes pointer m ms content h = never h
told (DoctypeNode d) modes pointer m ms content h = never h
told DocumentNode modes pointer m ms content h = never h
told ContentsNode modes pointer m ms content h = never h

root_inner : (c : Cls) → is_root c ≡ true → is_plain c ≡ false
root_inner HtmlC h = refl
root_inner _ h = never h

root_out : (c : Cls) → is_root c ≡ true → is_inner c ≡ false
root_out HtmlC h = refl
root_out _ h = never h

pub reset_home : (t : GrowingTree) (modes : List Mode) (s : List ℕ) → Content modes → chain (of (class_at (tags t.nodes)) s) ≡ true → Elements (tags t.nodes) s →
    is_inner (context (of (class_at (tags t.nodes)) s)) ≡ true → home (reset_from t modes s) (context (of (class_at (tags t.nodes)) s)) ≡ true
reset_home t modes [] content h e i = never h
reset_home t modes (n ∷ []) content h e i = cut (is_plain (class_at (tags t.nodes) n)) (root_inner (class_at (tags t.nodes) n) h) i
  where
    cut : (x : Bool) → x ≡ false → is_inner (elim x as (λ _. Cls) [ true ↦ Rattle.standard_order.proofs.NodeTags.NoC | false ↦ class_at (tags t.nodes) n ]) ≡ true →
        home (reset_from t modes (n ∷ [])) (elim x as (λ _. Cls) [ true ↦ Rattle.standard_order.proofs.NodeTags.NoC | false ↦ class_at (tags t.nodes) n ]) ≡ true
    cut true a b = never (sym a)
    cut false a b = never (sym (root_out (class_at (tags t.nodes) n) h) ∙ b)
reset_home t modes (n ∷ m ∷ ms) content h e i =
    by (reset_by resets (key t n) modes t.head (m ∷ ms)) (is_plain (f n)) refl
    (subst (λ c. Says c (reset_by resets (key t n) modes t.head (m ∷ ms))) (sym (ap (λ u. u.cls) same))
    (says (kind_of t n) (reset_by resets (key t n) modes t.head (m ∷ ms)) (told (kind_of t n) modes t.head m ms content (subst (λ u. is_element u.cls ≡ true) same elements.0))))
    i (λ k. reset_home t modes (m ∷ ms) content (both (on (f n) (f m)) (chain (of f (m ∷ ms))) h).1 elements.1 k)
  where
    f : ℕ → Cls
    f = class_at (tags t.nodes)

    elements : (is_element (class_at (tags t.nodes) n) ≡ true) × Elements (tags t.nodes) (m ∷ ms)
    elements = both (is_element (class_at (tags t.nodes) n)) (list_all (λ j. is_element (class_at (tags t.nodes) j)) (m ∷ ms)) e

    same : tag_at (tags t.nodes) n ≡ tag_of (kind_of t n)
    same = tag_there t.nodes n (there is_element refl (class_at (tags t.nodes) n) elements.0)

    Says : Cls → Option Mode → Type 0
    Says c None = is_inner c ≡ false
    Says c (Some mode) = tells_home mode c ≡ true

    says : (kind : Kind) (o : Option Mode) → Told kind o → Says (kind_class kind) o
    says kind None k = k
    says kind (Some mode) k = k

    by : (o : Option Mode) (x : Bool) → is_plain (f n) ≡ x → Says (f n) o →
        is_inner (elim x as (λ _. Cls) [ true ↦ context (of f (m ∷ ms)) | false ↦ f n ]) ≡ true →
        (is_inner (context (of f (m ∷ ms))) ≡ true → home (reset_from t modes (m ∷ ms)) (context (of f (m ∷ ms))) ≡ true) →
        home (elim o as (λ _. Mode) [ Some mode ↦ mode | None ↦ reset_from t modes (m ∷ ms) ])
        (elim x as (λ _. Cls) [ true ↦ context (of f (m ∷ ms)) | false ↦ f n ]) ≡ true
    by None true p k j go = go j
    by None false p k j go = never (sym k ∙ j)
    by (Some mode) true p k j go = never (sym (ap not p) ∙ (both (not (is_plain (f n))) (not (is_inner (f n)) || home mode (f n)) k).0)
    by (Some mode) false p k j go =
        sym (ap (λ y. not y || home mode (f n)) j) ∙ (both (not (is_plain (f n))) (not (is_inner (f n)) || home mode (f n)) k).1
