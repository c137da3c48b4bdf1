-- In the modes of the body, a template that is closed.
use Rattle.std.specs.Prelude.{◌≡◌, ◌&&◌, ◌||◌, ◌⊎◌, refl, ℕ, suc, Bool, true, false, not, List, [], ◌∷◌, bytes_eq, codes}
use Rattle.std.proofs.Common.{inl, inr}
use Rattle.std.specs.List.{list_any}
use Rattle.std.proofs.lemmas.Slice.Eq.{bytes_eq-Decides}
use mathlib.Core.Path.{◌∙◌, sym, ap, subst}
use Rattle.standard_trees.specs.NameLists.{thoroughly_implied}
use Rattle.standard_trees.specs.GrowingTree.{GrowingTree, beyond, implied_of, is_among, is_one, key, past, popped_until}
use Rattle.standard_trees.specs.GrowingTree.{with_stack}
use Rattle.standard_order.proofs.StandingStacks.{both, never}
use Rattle.standard_order.proofs.NodeTags.{BodyC, Cls, HeadC, HtmlC, TemplateC, class_at, tags}
use Rattle.standard_order.proofs.NodeTops.{is_root}
use Rattle.standard_order.proofs.TreeTops.{Elements, elements_past}
use Rattle.standard_order.proofs.PartKids.{Framed, Headed, is_body, is_head}
use Rattle.standard_order.proofs.Chains.{Site, at_most, chain, first, has_body, is_deep, is_template, of, on, site_of, templates_in}
use Rattle.standard_order.proofs.PartTrees.{In, Nodes, cls}
use Rattle.standard_order.proofs.PartPops.{one_any}
use Rattle.standard_order.proofs.PartScopes.{most_on, most_self}
use Rattle.standard_order.proofs.PartTables.{deep_inner, in_turned}
use Rattle.standard_order.proofs.PartBegun.{Open}

-- ---- what a template stands on

abbrev pub bears_template : Cls → Bool
bears_template d = is_deep d || (is_head d || is_root d)

pub record Left (f : ℕ → Cls) (s q : List ℕ) : Type 0 where
  pub chained : chain (of f q) ≡ true
  pub stood : bears_template (first (of f q)) ≡ true
  pub body : has_body (of f q) ≡ has_body (of f s)
  pub fewer : at_most (suc (templates_in (of f q))) (templates_in (of f s)) ≡ true

template_on : (c d : Cls) → is_template c ≡ true → on c d ≡ true → bears_template d ≡ true
template_on TemplateC d h o = o
template_on _ d h o = never h

template_body : (c : Cls) → is_template c ≡ true → is_body c ≡ false
template_body TemplateC h = refl
template_body _ h = never h

template_root : (c : Cls) → is_template c ≡ true → is_root c ≡ true → ⊥
template_root TemplateC h k = never k
template_root _ h k = never h

-- nothing is below `html`
root_last : (c d : Cls) → is_root c ≡ true → on c d ≡ true → ⊥
root_last HtmlC d h o = never o
root_last _ d h o = never h

root_none : (f : ℕ → Cls) (test : ℕ → Bool) → ((n : ℕ) → test n ≡ true → is_template (f n) ≡ true) → (m : ℕ) (ms : List ℕ) → is_root (f m) ≡ true →
    chain (of f (m ∷ ms)) ≡ true → list_any test (m ∷ ms) ≡ true → ⊥
root_none f test only m [] r h any = by (test m) refl any
  where
    by : (x : Bool) → test m ≡ x → x || false ≡ true → ⊥
    by true e k = template_root (f m) (only m e) r
    by false e k = never k
root_none f test only m (k ∷ ks) r h any = root_last (f m) (f k) r (both (on (f m) (f k)) (chain (of f (k ∷ ks))) h).0

pub template_past : (f : ℕ → Cls) (test : ℕ → Bool) → ((n : ℕ) → test n ≡ true → is_template (f n) ≡ true) → (s : List ℕ) → chain (of f s) ≡ true →
    list_any test s ≡ true → Left f s (past test s)
template_past f test only [] h any = never h
template_past f test only (n ∷ []) h any = absurd (root_none f test only n [] h h any)
template_past f test only (n ∷ m ∷ ms) h any = by (test n) refl any (λ k. template_past f test only (m ∷ ms) links.1 k)
  where
    links : (on (f n) (f m) ≡ true) × (chain (of f (m ∷ ms)) ≡ true)
    links = both (on (f n) (f m)) (chain (of f (m ∷ ms))) h

    body_off : list_any test (m ∷ ms) ≡ true → is_body (f n) ≡ false
    body_off k = cut (f n) links.0
      where
        cut : (c : Cls) → on c (f m) ≡ true → is_body c ≡ false
        cut BodyC o = absurd (root_none f test only m ms o links.1 k)
        cut _ o = refl

    by : (x : Bool) → test n ≡ x → x || list_any test (m ∷ ms) ≡ true → (list_any test (m ∷ ms) ≡ true → Left f (m ∷ ms) (past test (m ∷ ms))) →
        Left f (n ∷ m ∷ ms) (elim x as (λ _. List ℕ) [ true ↦ m ∷ ms | false ↦ past test (m ∷ ms) ])
    by true e k go = record {
      chained = links.1;
      stood = template_on (f n) (f m) (only n e) links.0;
      body = sym (ap (λ x. x || has_body (of f (m ∷ ms))) (template_body (f n) (only n e)));
      fewer = ap (λ x. at_most (suc (templates_in (of f (m ∷ ms)))) (elim x as (λ _. ℕ) [
        | true ↦ suc (templates_in (of f (m ∷ ms)))
        | false ↦ templates_in (of f (m ∷ ms))
      ])) (only n e) ∙ most_self (templates_in (of f (m ∷ ms)));
    }
    by false e k go =
        let rest : Left f (m ∷ ms) (past test (m ∷ ms)) = go k in
        record {
          chained = rest.chained;
          stood = rest.stood;
          body = rest.body ∙ sym (ap (λ x. x || has_body (of f (m ∷ ms))) (body_off k));
          fewer = most_on (f n) (suc (templates_in (of f (past test (m ∷ ms))))) (templates_in (of f (m ∷ ms))) rest.fewer;
        }

-- elements that are popped before it are popped with it, too
pub past_implied : (test other : ℕ → Bool) → ((n : ℕ) → other n ≡ true → test n ≡ false) → (s : List ℕ) → past test (beyond other s) ≡ past test s
past_implied test other apart [] = refl
past_implied test other apart (n ∷ ns) = by (other n) refl (past_implied test other apart ns)
  where
    by : (x : Bool) → other n ≡ x → past test (beyond other ns) ≡ past test ns →
        past test (elim x as (λ _. List ℕ) [ true ↦ beyond other ns | false ↦ n ∷ ns ]) ≡ past test (n ∷ ns)
    by true e rest = rest ∙ sym (ap (λ y. elim y as (λ _. List ℕ) [ true ↦ ns | false ↦ past test ns ]) (apart n e))
    by false e rest = refl

-- ---- a template that is closed

-- another mode of the body is told; or the head is open; or `html` alone is
abbrev pub Closing : ℕ → ℕ → GrowingTree → Type 0
Closing r open_ t =
    ((c : Site) × In r c t × (at_most (suc c.templates) open_ ≡ true))
    ⊎ (((h : ℕ) × Open r Headed (h ∷ r ∷ []) t × (is_head (class_at (tags t.nodes) h) ≡ true)) ⊎ Open r Headed (r ∷ []) t)

pub template_closed : (r : ℕ) (c : Site) (t : GrowingTree) → list_any (is_one t (codes "template" ∷ [])) t.stack ≡ true → In r c t →
    Closing r c.templates (popped_until (codes "template" ∷ []) t)
template_closed r c t any i = by (past test t.stack) left (elements_past (tags t.nodes) test t.stack i.open_)
  where
    test : ℕ → Bool
    test = is_one t (codes "template" ∷ [])

    f : ℕ → Cls
    f = class_at (tags t.nodes)

    left : Left (class_at (tags t.nodes)) t.stack (past (is_one t (codes "template" ∷ [])) t.stack)
    left = template_past (class_at (tags t.nodes)) (is_one t (codes "template" ∷ []))
        (λ n e. one_any is_template (codes "template" ∷ []) refl (λ name. refl) (λ name. refl) refl t.nodes n e) t.stack i.chained any

    open_html : (q : List ℕ) (s : List ℕ) → q ≡ s → has_body (of f q) ≡ false → has_body (of f q) ≡ has_body (cls t) → Open r Headed s (with_stack t q)
    open_html q s e none same = record {
      nodes = subst (λ x. Nodes r (elim x as (λ _. Rattle.standard_order.proofs.PartKids.Parts) [
        | true ↦ Rattle.standard_order.proofs.PartKids.Bodied
        | false ↦ Headed
      ]) t.nodes) (sym same ∙ none) i.nodes;
      stack_is = e;
      plainly = record { listed = i.listed; form = i.form; page = i.page; found = i.found };
    }

    head_body : (c : Cls) → is_head c ≡ true → is_body c ≡ false
    head_body HeadC h = refl
    head_body _ h = never h

    root_body : (c : Cls) → is_root c ≡ true → is_body c ≡ false
    root_body HtmlC h = refl
    root_body _ h = never h

    on_root : (c d : Cls) → is_head c ≡ true → on c d ≡ true → is_root d ≡ true
    on_root HeadC d h o = o
    on_root _ d h o = never h

    head_root : (c : Cls) → is_head c ≡ true → is_root c ≡ true → ⊥
    head_root HeadC h k = never k
    head_root _ h k = never h

    alone : (x : ℕ) (xs : List ℕ) → is_root (f x) ≡ true → chain (of f (x ∷ xs)) ≡ true → x ∷ xs ≡ r ∷ []
    alone x [] k h = ap (λ m. m ∷ []) (i.nodes.unique x k)
    alone x (y ∷ ys) k h = absurd (root_last (f x) (f y) k (both (on (f x) (f y)) (chain (of f (y ∷ ys))) h).0)

    by : (q : List ℕ) → Left f t.stack q → Elements (tags t.nodes) q → Closing r c.templates (with_stack t q)
    by [] l e = never l.chained
    by (n ∷ ns) l e = cut (is_deep (f n)) (is_head (f n)) (is_root (f n)) refl refl refl l.stood
      where
        in_head : (ms : List ℕ) → is_head (f n) ≡ true → chain (of f (n ∷ ms)) ≡ true → has_body (of f (n ∷ ms)) ≡ has_body (cls t) →
            Closing r c.templates (with_stack t (n ∷ ms))
        in_head [] h k same = absurd (head_root (f n) h k)
        in_head (m ∷ ms) h k same =
            let links : (on (f n) (f m) ≡ true) × (chain (of f (m ∷ ms)) ≡ true) = both (on (f n) (f m)) (chain (of f (m ∷ ms))) k in
            let rest : m ∷ ms ≡ r ∷ [] = alone m ms (on_root (f n) (f m) h links.0) links.1 in
            inr (inl (
              n,
              open_html (n ∷ m ∷ ms) (n ∷ r ∷ []) (ap (λ s. n ∷ s) rest)
                  (ap (λ x. x || has_body (of f (m ∷ ms))) (head_body (f n) h) ∙ ap (λ s. has_body (of f s)) rest
                  ∙ ap (λ x. x || false) (ap is_body i.nodes.frame.root)) same,
              h,
            ))

        cut : (x y z : Bool) → is_deep (f n) ≡ x → is_head (f n) ≡ y → is_root (f n) ≡ z → x || (y || z) ≡ true → Closing r c.templates (with_stack t (n ∷ ns))
        cut true y z d h k s = inl (
          site_of (of f (n ∷ ns)),
          in_turned r c (site_of (of f (n ∷ ns))) t (n ∷ ns) l.chained refl (deep_inner (of f (n ∷ ns)) l.chained d) l.body refl e i,
          subst (λ k. at_most (suc (templates_in (of f (n ∷ ns)))) k ≡ true) i.few l.fewer,
        )
        cut false true z d h k s = in_head ns h l.chained l.body
        cut false false true d h k s = inr (inr (open_html (n ∷ ns) (r ∷ []) (alone n ns k l.chained)
            (ap (λ s. has_body (of f s)) (alone n ns k l.chained) ∙ ap (λ x. x || false) (ap is_body i.nodes.frame.root)) l.body))
        cut false false false d h k s = never s

implied_apart : (t : GrowingTree) (n : ℕ) → is_one t thoroughly_implied n && not (is_one t [] n) ≡ true → is_one t (codes "template" ∷ []) n ≡ false
implied_apart t n h = by (bytes_eq (key t n) (codes "template")) refl
  where
    by : (x : Bool) → bytes_eq (key t n) (codes "template") ≡ x → x || false ≡ false
    by true e = never (subst (λ name. is_among name thoroughly_implied ≡ true) ((bytes_eq-Decides (key t n) (codes "template")).0 e)
        (both (is_one t thoroughly_implied n) (not (is_one t [] n)) h).0)
    by false e = refl

-- behind the end tags that are implied thoroughly
pub template_ended : (r : ℕ) (c : Site) (t : GrowingTree) → list_any (is_one t (codes "template" ∷ [])) t.stack ≡ true → In r c t →
    Closing r c.templates (popped_until (codes "template" ∷ []) (implied_of thoroughly_implied [] t))
template_ended r c t any i =
    subst (λ q. Closing r c.templates (with_stack t q))
    (sym (past_implied (is_one t (codes "template" ∷ [])) (λ n. is_one t thoroughly_implied n && not (is_one t [] n)) (implied_apart t) t.stack))
    (template_closed r c t any i)
