-- Which open elements stand directly on which, and that what is popped, inserted or replaced among other elements leaves that.
use Rattle.std.specs.Prelude.{◌≡◌, ◌&&◌, ◌||◌, refl, ℕ, suc, zero, Bool, true, false, not, List, [], ◌∷◌, cond, map, nat_eq}
use Rattle.std.specs.List.{list_all, list_any}
use mathlib.Core.Path.{◌∙◌, sym, ap, subst}
use Rattle.standard_trees.specs.TreeStore.{without}
use Rattle.standard_trees.specs.GrowingTree.{beyond, in_scope, past}
use Rattle.standard_trees.specs.Formatting.{before_in, replaced_node, stacked_below}
use Rattle.standard_order.proofs.StandingStacks.{both, never, same_number}
use Rattle.standard_order.proofs.NodeTags.{BodyC, CaptionC, CellC, Cls, GroupC, HeadC, HtmlC, NoC, PlainC, RowC}
use Rattle.standard_order.proofs.NodeTags.{TableC, TemplateC}
use Rattle.standard_order.proofs.NodeTops.{is_root}
use Rattle.standard_order.proofs.PartKids.{is_body, is_head}

abbrev pub is_plain : Cls → Bool
is_plain PlainC = true
is_plain _ = false

abbrev pub is_template : Cls → Bool
is_template TemplateC = true
is_template _ = false

abbrev pub is_table : Cls → Bool
is_table TableC = true
is_table _ = false

abbrev pub is_group : Cls → Bool
is_group GroupC = true
is_group _ = false

abbrev pub is_row : Cls → Bool
is_row RowC = true
is_row _ = false

-- elements in which a mode of the body is told by "reset the insertion mode appropriately"
abbrev pub is_inner : Cls → Bool
is_inner BodyC = true
is_inner TemplateC = true
is_inner TableC = true
is_inner GroupC = true
is_inner RowC = true
is_inner CellC = true
is_inner CaptionC = true
is_inner _ = false

abbrev pub is_deep : Cls → Bool
is_deep c = is_plain c || is_inner c

-- an element may stand directly on another
abbrev pub on : Cls → Cls → Bool
on PlainC d = is_deep d
on TableC d = is_deep d
on TemplateC d = is_deep d || (is_head d || is_root d)
on GroupC d = is_table d || is_template d
on CaptionC d = is_table d || is_template d
on RowC d = is_group d || is_template d
on CellC d = is_row d || is_template d
on HeadC d = is_root d
on BodyC d = is_root d
on _ d = false

abbrev pub chain : List Cls → Bool
chain [] = false
chain (c ∷ []) = is_root c
chain (c ∷ d ∷ cs) = on c d && chain (d ∷ cs)

-- the first that isn't an ordinary element
abbrev pub context : List Cls → Cls
context [] = NoC
context (c ∷ cs) = elim (is_plain c) [ true ↦ context cs | false ↦ c ]

abbrev pub has_body : List Cls → Bool
has_body cs = list_any is_body cs

-- how many templates are open
abbrev pub counted_on : Cls → ℕ → ℕ
counted_on c n = elim (is_template c) [ true ↦ suc n | false ↦ n ]

abbrev pub templates_in : List Cls → ℕ
templates_in [] = 0
templates_in (c ∷ cs) = counted_on c (templates_in cs)

-- the innermost element that isn't an ordinary one, and how many templates are open
pub record Site : Type 0 where
  pub inner : Cls
  pub templates : ℕ

abbrev pub site_of : List Cls → Site
site_of cs = record { inner = context cs; templates = templates_in cs }

-- with another element
abbrev pub above : Cls → Site → Site
above d c = record { inner = d; templates = counted_on d c.templates }

abbrev pub at_most : ℕ → ℕ → Bool
at_most zero m = true
at_most (suc n) zero = false
at_most (suc n) (suc m) = at_most n m

-- what is left of the elements
pub record Rest (cs ds : List Cls) : Type 0 where
  pub chained : chain ds ≡ true
  pub within : context ds ≡ context cs
  pub body : has_body ds ≡ has_body cs
  pub few : templates_in ds ≡ templates_in cs

pub rest_both : (a b c : List Cls) → Rest a b → Rest b c → Rest a c
rest_both a b c one two = record {
  chained = two.chained;
  within = two.within ∙ one.within;
  body = two.body ∙ one.body;
  few = two.few ∙ one.few;
}

pub rest_same : (cs : List Cls) → chain cs ≡ true → Rest cs cs
rest_same cs h = record { chained = h; within = refl; body = refl; few = refl }

-- ---- one element

plain_is : (c : Cls) → is_plain c ≡ true → PlainC ≡ c
plain_is PlainC h = refl
plain_is _ h = never h

pub rest_tail : (c : Cls) (cs : List Cls) → is_plain c ≡ true → chain (c ∷ cs) ≡ true → Rest (c ∷ cs) cs
rest_tail c cs p h = by cs (subst (λ d. chain (d ∷ cs) ≡ true) (sym (plain_is c p)) h)
  where
    by : (ds : List Cls) → chain (PlainC ∷ ds) ≡ true → Rest (c ∷ ds) ds
    by [] k = never k
    by (d ∷ ds) k = record {
      chained = (both (is_deep d) (chain (d ∷ ds)) k).1;
      within = sym (ap (λ x. elim x as (λ _. Cls) [ true ↦ context (d ∷ ds) | false ↦ c ]) p);
      body = ap (λ e. is_body e || has_body (d ∷ ds)) (plain_is c p);
      few = ap (λ e. counted_on e (templates_in (d ∷ ds))) (plain_is c p);
    }

abbrev pub first : List Cls → Cls
first [] = NoC
first (c ∷ cs) = c

inner_deep : (c : Cls) → is_inner c ≡ true → is_deep c ≡ true
inner_deep BodyC h = refl
inner_deep TemplateC h = refl
inner_deep TableC h = refl
inner_deep GroupC h = refl
inner_deep RowC h = refl
inner_deep CellC h = refl
inner_deep CaptionC h = refl
inner_deep _ h = never h

plain_deep : (c : Cls) → is_plain c ≡ true → is_deep c ≡ true
plain_deep PlainC h = refl
plain_deep _ h = never h

pub first_deep : (cs : List Cls) → is_inner (context cs) ≡ true → is_deep (first cs) ≡ true
first_deep [] h = never h
first_deep (c ∷ cs) h = by (is_plain c) refl h
  where
    by : (x : Bool) → is_plain c ≡ x → is_inner (elim x as (λ _. Cls) [ true ↦ context cs | false ↦ c ]) ≡ true → is_deep c ≡ true
    by true e k = plain_deep c e
    by false e k = inner_deep c k

-- an ordinary element on top
pub rest_pushed : (c : Cls) (cs : List Cls) → is_plain c ≡ true → is_inner (context cs) ≡ true → chain cs ≡ true → Rest cs (c ∷ cs)
rest_pushed c cs p i h = by cs i h
  where
    by : (ds : List Cls) → is_inner (context ds) ≡ true → chain ds ≡ true → Rest ds (c ∷ ds)
    by [] k l = never k
    by (d ∷ ds) k l = record {
      chained = subst (λ e. on e d && chain (d ∷ ds) ≡ true) (plain_is c p) (ap (λ x. x && chain (d ∷ ds)) (first_deep (d ∷ ds) k) ∙ l);
      within = ap (λ x. elim x as (λ _. Cls) [ true ↦ context (d ∷ ds) | false ↦ c ]) p;
      body = sym (ap (λ e. is_body e || has_body (d ∷ ds)) (plain_is c p));
      few = sym (ap (λ e. counted_on e (templates_in (d ∷ ds))) (plain_is c p));
    }

-- ---- elements that are popped

abbrev pub of : (ℕ → Cls) → List ℕ → List Cls
of f s = map f s

pub rest_beyond : (f : ℕ → Cls) (test : ℕ → Bool) → ((n : ℕ) → test n ≡ true → is_plain (f n) ≡ true) → (s : List ℕ) → chain (of f s) ≡ true →
    Rest (of f s) (of f (beyond test s))
rest_beyond f test only [] h = never h
rest_beyond f test only (n ∷ ns) h = by (test n) refl (λ k. rest_beyond f test only ns k)
  where
    by : (x : Bool) → test n ≡ x → (chain (of f ns) ≡ true → Rest (of f ns) (of f (beyond test ns))) →
        Rest (f n ∷ of f ns) (of f (elim x as (λ _. List ℕ) [ true ↦ beyond test ns | false ↦ n ∷ ns ]))
    by true e go =
        let one : Rest (f n ∷ of f ns) (of f ns) = rest_tail (f n) (of f ns) (only n e) h in
        rest_both (f n ∷ of f ns) (of f ns) (of f (beyond test ns)) one (go one.chained)
    by false e go = rest_same (f n ∷ of f ns) h

-- ---- elements in scope

-- these end the scope
abbrev pub ends_it : Cls → Bool
ends_it HtmlC = true
ends_it TemplateC = true
ends_it TableC = true
ends_it CellC = true
ends_it _ = false

abbrev pub drop_one : List Cls → List Cls
drop_one [] = []
drop_one (c ∷ cs) = cs

-- Above an ordinary element that is in scope there are ordinary elements alone.
plain_above : (c : Cls) (cs : List Cls) (seen : Bool) → ends_it c ≡ false → chain (c ∷ cs) ≡ true →
    (ends_it (first cs) ≡ true → seen ≡ false) → (is_group (first cs) ≡ true → ends_it (first (drop_one cs)) ≡ true → seen ≡ false) →
    seen ≡ true → is_plain c ≡ true
plain_above c cs seen off h one two s = by c cs off h one two
  where
    none : {P : Type 0} → seen ≡ false → P
    none e = never (sym e ∙ s)

    root_ends : (d : Cls) → is_root d ≡ true → ends_it d ≡ true
    root_ends HtmlC k = refl
    root_ends _ k = never k

    host : (d : Cls) → is_table d || is_template d ≡ true → ends_it d ≡ true
    host TableC k = refl
    host TemplateC k = refl
    host _ k = never k

    by : (c : Cls) (cs : List Cls) → ends_it c ≡ false → chain (c ∷ cs) ≡ true → (ends_it (first cs) ≡ true → seen ≡ false) →
        (is_group (first cs) ≡ true → ends_it (first (drop_one cs)) ≡ true → seen ≡ false) → is_plain c ≡ true
    by PlainC cs o k a b = refl
    by HtmlC cs o k a b = never (sym o)
    by TemplateC cs o k a b = never (sym o)
    by TableC cs o k a b = never (sym o)
    by CellC cs o k a b = never (sym o)
    by HeadC [] o k a b = never k
    by HeadC (d ∷ ds) o k a b = none (a (root_ends d (both (is_root d) (chain (d ∷ ds)) k).0))
    by BodyC [] o k a b = never k
    by BodyC (d ∷ ds) o k a b = none (a (root_ends d (both (is_root d) (chain (d ∷ ds)) k).0))
    by GroupC [] o k a b = never k
    by GroupC (d ∷ ds) o k a b = none (a (host d (both (is_table d || is_template d) (chain (d ∷ ds)) k).0))
    by CaptionC [] o k a b = never k
    by CaptionC (d ∷ ds) o k a b = none (a (host d (both (is_table d || is_template d) (chain (d ∷ ds)) k).0))
    by RowC [] o k a b = never k
    by RowC (d ∷ ds) o k a b = row d ds (both (is_group d || is_template d) (chain (d ∷ ds)) k).0 (both (is_group d || is_template d) (chain (d ∷ ds)) k).1 a b
      where
        row : (d : Cls) (ds : List Cls) → is_group d || is_template d ≡ true → chain (d ∷ ds) ≡ true → (ends_it d ≡ true → seen ≡ false) →
            (is_group d ≡ true → ends_it (first ds) ≡ true → seen ≡ false) → is_plain RowC ≡ true
        row TemplateC ds k l a b = none (a refl)
        row GroupC [] k l a b = never l
        row GroupC (e ∷ es) k l a b = none (b refl (host e (both (is_table e || is_template e) (chain (e ∷ es)) l).0))
        row _ ds k l a b = never k
    by _ [] o k a b = never k
    by _ (d ∷ ds) o k a b = never k

-- ---- up to an element in scope

-- only ordinary elements are wanted, and these elements end the scope
pub record Scoping (f : ℕ → Cls) (wanted ends : ℕ → Bool) : Type 0 where
  pub only : (n : ℕ) → wanted n ≡ true → is_plain (f n) ≡ true
  pub ending : (n : ℕ) → ends_it (f n) ≡ true → ends n ≡ true

plain_or_end : (c : Cls) → is_plain c ≡ true → ends_it c ≡ true → ⊥
plain_or_end PlainC p e = never e
plain_or_end _ p e = never p

plain_or_group : (c : Cls) → is_plain c ≡ true → is_group c ≡ true → ⊥
plain_or_group PlainC p e = never e
plain_or_group _ p e = never p

unwanted : (f : ℕ → Cls) (wanted ends : ℕ → Bool) → Scoping f wanted ends → (n : ℕ) → (is_plain (f n) ≡ true → ⊥) → wanted n ≡ false
unwanted f wanted ends s n off = by (wanted n) refl
  where
    by : (x : Bool) → wanted n ≡ x → x ≡ false
    by true e = absurd (off (s.only n e))
    by false e = refl

ended : (f : ℕ → Cls) (wanted ends : ℕ → Bool) → Scoping f wanted ends → (n : ℕ) (ns : List ℕ) → ends_it (f n) ≡ true →
    in_scope wanted ends (n ∷ ns) ≡ false
ended f wanted ends s n ns e =
    ap (λ x. x || (not (ends n) && in_scope wanted ends ns)) (unwanted f wanted ends s n (λ p. plain_or_end (f n) p e))
    ∙ ap (λ x. not x && in_scope wanted ends ns) (s.ending n e)

past_group : (f : ℕ → Cls) (wanted ends : ℕ → Bool) → Scoping f wanted ends → (n m : ℕ) (ns : List ℕ) → is_group (f n) ≡ true →
    ends_it (f m) ≡ true → in_scope wanted ends (n ∷ m ∷ ns) ≡ false
past_group f wanted ends s n m ns g e =
    ap (λ x. x || (not (ends n) && in_scope wanted ends (m ∷ ns))) (unwanted f wanted ends s n (λ p. plain_or_group (f n) p g))
    ∙ ap (λ x. not (ends n) && x) (ended f wanted ends s m ns e) ∙ nothing (not (ends n))
  where
    nothing : (x : Bool) → x && false ≡ false
    nothing true = refl
    nothing false = refl

-- an element above the one that is wanted
above_wanted : (f : ℕ → Cls) (wanted ends : ℕ → Bool) → Scoping f wanted ends → (n : ℕ) (ns : List ℕ) → wanted n ≡ false → chain (of f (n ∷ ns)) ≡ true →
    in_scope wanted ends (n ∷ ns) ≡ true → (is_plain (f n) ≡ true) × (in_scope wanted ends ns ≡ true)
above_wanted f wanted ends s n ns other h scope =
    (plain_above (f n) (of f ns) (in_scope wanted ends ns) (ends_not (ends n) refl rest) h (one ns) (two ns) (later (ends n) rest), later (ends n) rest)
  where
    rest : not (ends n) && in_scope wanted ends ns ≡ true
    rest = sym (ap (λ x. x || (not (ends n) && in_scope wanted ends ns)) other) ∙ scope

    later : (x : Bool) → not x && in_scope wanted ends ns ≡ true → in_scope wanted ends ns ≡ true
    later true k = never k
    later false k = k

    ends_not : (x : Bool) → ends n ≡ x → not x && in_scope wanted ends ns ≡ true → ends_it (f n) ≡ false
    ends_not true e k = never k
    ends_not false e k = by (ends_it (f n)) refl
      where
        by : (y : Bool) → ends_it (f n) ≡ y → y ≡ false
        by true g = never (sym e ∙ s.ending n g)
        by false g = refl

    one : (ms : List ℕ) → ends_it (first (of f ms)) ≡ true → in_scope wanted ends ms ≡ false
    one [] e = refl
    one (m ∷ ms) e = ended f wanted ends s m ms e

    two : (ms : List ℕ) → is_group (first (of f ms)) ≡ true → ends_it (first (drop_one (of f ms))) ≡ true → in_scope wanted ends ms ≡ false
    two [] g e = refl
    two (m ∷ []) g e = never e
    two (m ∷ k ∷ ks) g e = past_group f wanted ends s m k ks g e

pub rest_past : (f : ℕ → Cls) (wanted ends : ℕ → Bool) → Scoping f wanted ends → (s : List ℕ) → chain (of f s) ≡ true →
    in_scope wanted ends s ≡ true → Rest (of f s) (of f (past wanted s))
rest_past f wanted ends scoping [] h scope = never h
rest_past f wanted ends scoping (n ∷ ns) h scope = by (wanted n) refl (λ k more. rest_past f wanted ends scoping ns k more)
  where
    by : (x : Bool) → wanted n ≡ x → (chain (of f ns) ≡ true → in_scope wanted ends ns ≡ true → Rest (of f ns) (of f (past wanted ns))) →
        Rest (f n ∷ of f ns) (of f (elim x as (λ _. List ℕ) [ true ↦ ns | false ↦ past wanted ns ]))
    by true e go = rest_tail (f n) (of f ns) (scoping.only n e) h
    by false e go =
        let two : (is_plain (f n) ≡ true) × (in_scope wanted ends ns ≡ true) = above_wanted f wanted ends scoping n ns e h scope in
        let one : Rest (f n ∷ of f ns) (of f ns) = rest_tail (f n) (of f ns) two.0 h in
        rest_both (f n ∷ of f ns) (of f ns) (of f (past wanted ns)) one (go one.chained two.1)

abbrev pub AllPlain : (ℕ → Cls) → List ℕ → Type 0
AllPlain f ns = list_all (λ n. is_plain (f n)) ns ≡ true

-- the elements above one in scope
pub plain_before : (f : ℕ → Cls) (target : ℕ) (ends : ℕ → Bool) → Scoping f (nat_eq target) ends → (s : List ℕ) → chain (of f s) ≡ true →
    in_scope (nat_eq target) ends s ≡ true → AllPlain f (before_in target s)
plain_before f target ends scoping [] h scope = refl
plain_before f target ends scoping (n ∷ ns) h scope = by (nat_eq n target) (nat_eq target n) refl refl (λ k more. plain_before f target ends scoping ns k more)
  where
    by : (x y : Bool) → nat_eq n target ≡ x → nat_eq target n ≡ y →
        (chain (of f ns) ≡ true → in_scope (nat_eq target) ends ns ≡ true → AllPlain f (before_in target ns)) →
        AllPlain f (elim x as (λ _. List ℕ) [ true ↦ [] | false ↦ n ∷ before_in target ns ])
    by true y e g go = refl
    by false true e g go = never (sym e ∙ subst (λ i. nat_eq i target ≡ true) (same_number target n g) (Rattle.standard_order.proofs.GoodEnds.same_again target))
    by false false e g go =
        let two : (is_plain (f n) ≡ true) × (in_scope (nat_eq target) ends ns ≡ true) = above_wanted f (nat_eq target) ends scoping n ns g h scope in
        let one : Rest (f n ∷ of f ns) (of f ns) = rest_tail (f n) (of f ns) two.0 h in
        ap (λ x. x && list_all (λ i. is_plain (f i)) (before_in target ns)) two.0 ∙ go one.chained two.1

-- ---- elements that are taken out, put in, or replaced

on_deep : (c d : Cls) → on c PlainC ≡ true → is_deep d ≡ true → on c d ≡ true
on_deep PlainC d h k = k
on_deep TableC d h k = k
on_deep TemplateC d h k = ap (λ x. x || (is_head d || is_root d)) k
on_deep _ d h k = never h

pub chain_cons : (c : Cls) (cs : List Cls) → on c (first cs) ≡ true → chain cs ≡ true → chain (c ∷ cs) ≡ true
chain_cons c [] h k = never k
chain_cons c (d ∷ ds) h k = ap (λ x. x && chain (d ∷ ds)) h ∙ k

rest_cons : (c : Cls) (cs ds : List Cls) → on c (first ds) ≡ true → Rest cs ds → Rest (c ∷ cs) (c ∷ ds)
rest_cons c cs ds h rest = record {
  chained = chain_cons c ds h rest.chained;
  within = ap (λ e. elim (is_plain c) as (λ _. Cls) [ true ↦ e | false ↦ c ]) rest.within;
  body = ap (λ x. is_body c || x) rest.body;
  few = ap (counted_on c) rest.few;
}

on_without : (f : ℕ → Cls) (m : ℕ) → is_plain (f m) ≡ true → (c : Cls) (ns : List ℕ) → on c (first (of f ns)) ≡ true → chain (of f ns) ≡ true →
    on c (first (of f (without m ns))) ≡ true
on_without f m p c [] h k = h
on_without f m p c (n ∷ ns) h k = by (nat_eq n m) refl (λ a b. on_without f m p c ns a b)
  where
    by : (x : Bool) → nat_eq n m ≡ x → (on c (first (of f ns)) ≡ true → chain (of f ns) ≡ true → on c (first (of f (without m ns))) ≡ true) →
        on c (first (of f (cond (not x) (n ∷ without m ns) (without m ns)))) ≡ true
    by true e go = below ns k go
      where
        same : PlainC ≡ f n
        same = plain_is (f n) (subst (λ i. is_plain (f i) ≡ true) (sym (same_number n m e)) p)

        below : (ms : List ℕ) → chain (f n ∷ of f ms) ≡ true → (on c (first (of f ms)) ≡ true → chain (of f ms) ≡ true → on c (first (of f (without m ms))) ≡ true) →
            on c (first (of f (without m ms))) ≡ true
        below [] l go = never (subst (λ d. is_root d ≡ true) (sym same) l)
        below (j ∷ js) l go =
            let two : (is_deep (f j) ≡ true) × (chain (of f (j ∷ js)) ≡ true) = both (is_deep (f j)) (chain (of f (j ∷ js)))
            (subst (λ d. on d (f j) && chain (of f (j ∷ js)) ≡ true) (sym same) l) in
            go (on_deep c (f j) (subst (λ d. on c d ≡ true) (sym same) h) two.0) two.1
    by false e go = h

pub rest_without : (f : ℕ → Cls) (m : ℕ) → is_plain (f m) ≡ true → (s : List ℕ) → chain (of f s) ≡ true → Rest (of f s) (of f (without m s))
rest_without f m p [] h = never h
rest_without f m p (n ∷ ns) h = by ns (nat_eq n m) refl h (λ k. rest_without f m p ns k)
  where
    by : (ms : List ℕ) (x : Bool) → nat_eq n m ≡ x → chain (f n ∷ of f ms) ≡ true → (chain (of f ms) ≡ true → Rest (of f ms) (of f (without m ms))) →
        Rest (f n ∷ of f ms) (of f (cond (not x) (n ∷ without m ms) (without m ms)))
    by ms true e k go =
        let one : Rest (f n ∷ of f ms) (of f ms) = rest_tail (f n) (of f ms) (subst (λ i. is_plain (f i) ≡ true) (sym (same_number n m e)) p) k in
        rest_both (f n ∷ of f ms) (of f ms) (of f (without m ms)) one (go one.chained)
    by [] false e k go = rest_same (f n ∷ []) k
    by (j ∷ js) false e k go =
        let two : (on (f n) (f j) ≡ true) × (chain (of f (j ∷ js)) ≡ true) = both (on (f n) (f j)) (chain (of f (j ∷ js))) k in
        rest_cons (f n) (of f (j ∷ js)) (of f (without m (j ∷ js))) (on_without f m p (f n) (j ∷ js) two.0 two.1) (go two.1)

-- one ordinary element in place of another
pub of_replaced : (f : ℕ → Cls) (old new : ℕ) → is_plain (f old) ≡ true → is_plain (f new) ≡ true → (s : List ℕ) → of f (map (replaced_node old new) s) ≡ of f s
of_replaced f old new p q [] = refl
of_replaced f old new p q (n ∷ ns) = by (nat_eq n old) refl (of_replaced f old new p q ns)
  where
    by : (x : Bool) → nat_eq n old ≡ x → of f (map (replaced_node old new) ns) ≡ of f ns →
        f (cond x new n) ∷ of f (map (replaced_node old new) ns) ≡ f n ∷ of f ns
    by true e rest =
        ap (λ c. c ∷ of f (map (replaced_node old new) ns)) (sym (plain_is (f new) q) ∙ plain_is (f n) (subst (λ i. is_plain (f i) ≡ true) (sym (same_number n old e)) p))
        ∙ ap (λ cs. f n ∷ cs) rest
    by false e rest = ap (λ cs. f n ∷ cs) rest

-- one ordinary element just above another
first_below : (f : ℕ → Cls) (new block : ℕ) → is_plain (f block) ≡ true → is_plain (f new) ≡ true → (s : List ℕ) →
    first (of f (stacked_below new block s)) ≡ first (of f s)
first_below f new block p q [] = refl
first_below f new block p q (n ∷ ns) = by (nat_eq n block) refl
  where
    by : (x : Bool) → nat_eq n block ≡ x → first (of f (elim x as (λ _. List ℕ) [ true ↦ new ∷ n ∷ ns | false ↦ n ∷ stacked_below new block ns ])) ≡ f n
    by true e = sym (plain_is (f new) q) ∙ plain_is (f n) (subst (λ i. is_plain (f i) ≡ true) (sym (same_number n block e)) p)
    by false e = refl

pub rest_below : (f : ℕ → Cls) (new block : ℕ) → is_plain (f block) ≡ true → is_plain (f new) ≡ true → (s : List ℕ) → chain (of f s) ≡ true →
    Rest (of f s) (of f (stacked_below new block s))
rest_below f new block p q [] h = never h
rest_below f new block p q (n ∷ ns) h = by ns (nat_eq n block) refl h (λ k. rest_below f new block p q ns k)
  where
    by : (ms : List ℕ) (x : Bool) → nat_eq n block ≡ x → chain (f n ∷ of f ms) ≡ true →
        (chain (of f ms) ≡ true → Rest (of f ms) (of f (stacked_below new block ms))) →
        Rest (f n ∷ of f ms) (of f (elim x as (λ _. List ℕ) [ true ↦ new ∷ n ∷ ms | false ↦ n ∷ stacked_below new block ms ]))
    by ms true e k go =
        let plain : is_plain (f n) ≡ true = subst (λ i. is_plain (f i) ≡ true) (sym (same_number n block e)) p in
        record {
          chained = subst (λ c. on c (f n) && chain (f n ∷ of f ms) ≡ true) (plain_is (f new) q) (ap (λ x. x && chain (f n ∷ of f ms)) (plain_deep (f n) plain) ∙ k);
          within = ap (λ x. elim x as (λ _. Cls) [ true ↦ context (f n ∷ of f ms) | false ↦ f new ]) q;
          body = sym (ap (λ c. is_body c || has_body (f n ∷ of f ms)) (plain_is (f new) q));
          few = sym (ap (λ c. counted_on c (templates_in (f n ∷ of f ms))) (plain_is (f new) q));
        }
    by [] false e k go = rest_same (f n ∷ []) k
    by (j ∷ js) false e k go =
        let two : (on (f n) (f j) ≡ true) × (chain (of f (j ∷ js)) ≡ true) = both (on (f n) (f j)) (chain (of f (j ∷ js))) k in
        rest_cons (f n) (of f (j ∷ js)) (of f (stacked_below new block (j ∷ js)))
        (ap (on (f n)) (first_below f new block p q (j ∷ js)) ∙ two.0) (go two.1)

-- ---- tables

abbrev pub is_host : Cls → Bool
is_host c = is_table c || is_template c

abbrev pub is_tabled : Cls → Bool
is_tabled c = is_table c || (is_group c || is_row c)

-- below a part of a table there are a table or a template
pub tabled_host : (c : Cls) (cs : List Cls) → is_tabled c ≡ true → chain (c ∷ cs) ≡ true → list_any is_host (c ∷ cs) ≡ true
tabled_host TableC cs t h = refl
tabled_host GroupC [] t h = never h
tabled_host GroupC (d ∷ ds) t h = ap (λ x. x || list_any is_host ds) (both (is_host d) (chain (d ∷ ds)) h).0
tabled_host RowC [] t h = never h
tabled_host RowC (d ∷ ds) t h = below d ds (both (is_group d || is_template d) (chain (d ∷ ds)) h).0 (both (is_group d || is_template d) (chain (d ∷ ds)) h).1
  where
    below : (d : Cls) (ds : List Cls) → is_group d || is_template d ≡ true → chain (d ∷ ds) ≡ true → list_any is_host (d ∷ ds) ≡ true
    below TemplateC ds a b = refl
    below GroupC [] a b = never b
    below GroupC (e ∷ es) a b = ap (λ x. x || list_any is_host es) (both (is_host e) (chain (e ∷ es)) b).0
    below _ ds a b = never a
tabled_host _ cs t h = never t
