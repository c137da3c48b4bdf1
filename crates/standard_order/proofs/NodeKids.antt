-- What changes of nodes make of the children of one node, and of those among them that count.
use Rattle.std.specs.Prelude.{◌≡◌, ◌&&◌, ◌||◌, refl, ℕ, zero, suc, Bool, true, false, not, List, [], ◌∷◌, ◌++◌, Option, Some, cond, filter}
use Rattle.std.specs.Prelude.{nat_eq}
use Rattle.std.specs.List.{list_all}
use mathlib.Core.Path.{◌∙◌, sym, ap, subst}
use Rattle.standard_trees.specs.TreeStore.{Before, EndOf, Node, Place, changed_at, is_member, node_at, parent_from, parent_of}
use Rattle.standard_trees.specs.TreeStore.{put_at, removed, without}
use Rattle.standard_order.proofs.NodeTags.{Cls, Keeps, Tag, class_at, is_there, tags}
use Rattle.standard_order.proofs.StandingStacks.{both, never, same_number}

abbrev pub kids : List Node → ℕ → List ℕ
kids nodes n = (node_at nodes n).children

-- ---- lists of numbers

pub same_without : (P : ℕ → Bool) (m : ℕ) (ns : List ℕ) → list_all P ns ≡ true → P m ≡ false → without m ns ≡ ns
same_without P m [] all off = refl
same_without P m (n ∷ ns) all off = by (nat_eq n m) refl (same_without P m ns (both (P n) (list_all P ns) all).1 off)
  where
    by : (x : Bool) → nat_eq n m ≡ x → without m ns ≡ ns → cond (not x) (n ∷ without m ns) (without m ns) ≡ n ∷ ns
    by true e rest = never (sym (subst (λ i. P i ≡ false) (sym (same_number n m e)) off) ∙ (both (P n) (list_all P ns) all).0)
    by false e rest = ap (λ q. n ∷ q) rest

pub all_without : (P : ℕ → Bool) (m : ℕ) (ns : List ℕ) → list_all P ns ≡ true → list_all P (without m ns) ≡ true
all_without P m [] all = refl
all_without P m (n ∷ ns) all = by (nat_eq n m) (both (P n) (list_all P ns) all).0 (all_without P m ns (both (P n) (list_all P ns) all).1)
  where
    by : (x : Bool) → P n ≡ true → list_all P (without m ns) ≡ true → list_all P (cond (not x) (n ∷ without m ns) (without m ns)) ≡ true
    by true one rest = rest
    by false one rest = ap (λ y. y && list_all P (without m ns)) one ∙ rest

pub all_joined : (P : ℕ → Bool) (ns ms : List ℕ) → list_all P ns ≡ true → list_all P ms ≡ true → list_all P (ns ++ ms) ≡ true
all_joined P [] ms h k = k
all_joined P (n ∷ ns) ms h k =
    ap (λ y. y && list_all P (ns ++ ms)) (both (P n) (list_all P ns) h).0 ∙ all_joined P ns ms (both (P n) (list_all P ns) h).1 k

pub all_weaker : (P Q : ℕ → Bool) → ((n : ℕ) → P n ≡ true → Q n ≡ true) → (ns : List ℕ) → list_all P ns ≡ true → list_all Q ns ≡ true
all_weaker P Q weaker [] h = refl
all_weaker P Q weaker (n ∷ ns) h =
    ap (λ y. y && list_all Q ns) (weaker n (both (P n) (list_all P ns) h).0) ∙ all_weaker P Q weaker ns (both (P n) (list_all P ns) h).1

pub all_member : (P : ℕ → Bool) (n : ℕ) (ns : List ℕ) → list_all P ns ≡ true → is_member n ns ≡ true → P n ≡ true
all_member P n [] all e = cc
all_member P n (m ∷ ms) all e = by (nat_eq n m) refl e (λ k. all_member P n ms (both (P m) (list_all P ms) all).1 k)
  where
    by : (x : Bool) → nat_eq n m ≡ x → x || is_member n ms ≡ true → (is_member n ms ≡ true → P n ≡ true) → P n ≡ true
    by true f k go = subst (λ i. P i ≡ true) (sym (same_number n m f)) (both (P m) (list_all P ms) all).0
    by false f k go = go k

-- ---- those that count

abbrev pub counted : (Cls → Bool) → List Tag → List ℕ → List ℕ
counted test ts ns = filter (λ c. test (class_at ts c)) ns

abbrev pub AllThere : List Tag → List ℕ → Type 0
AllThere ts ns = list_all (λ c. is_there (class_at ts c)) ns ≡ true

pub there_kept : (ts us : List Tag) → Keeps ts us → (ns : List ℕ) → AllThere ts ns → AllThere us ns
there_kept ts us keeps ns h =
    all_weaker (λ c. is_there (class_at ts c)) (λ c. is_there (class_at us c))
    (λ n k. subst (λ t. is_there t.cls ≡ true) (sym (keeps n k)) k) ns h

pub counted_kept : (test : Cls → Bool) (ts us : List Tag) → Keeps ts us → (ns : List ℕ) → AllThere ts ns → counted test us ns ≡ counted test ts ns
counted_kept test ts us keeps [] h = refl
counted_kept test ts us keeps (n ∷ ns) h =
    let two : (is_there (class_at ts n) ≡ true) × AllThere ts ns = both (is_there (class_at ts n)) _ h in
    ap (λ t. cond (test t.cls) (n ∷ counted test us ns) (counted test us ns)) (keeps n two.0)
    ∙ ap (λ q. cond (test (class_at ts n)) (n ∷ q) q) (counted_kept test ts us keeps ns two.1)

pub counted_without : (test : Cls → Bool) (ts : List Tag) (m : ℕ) (ns : List ℕ) → counted test ts (without m ns) ≡ without m (counted test ts ns)
counted_without test ts m [] = refl
counted_without test ts m (n ∷ ns) = by (nat_eq n m) (test (class_at ts n)) refl refl (counted_without test ts m ns)
  where
    by : (x y : Bool) → nat_eq n m ≡ x → test (class_at ts n) ≡ y →
        counted test ts (without m ns) ≡ without m (counted test ts ns) →
        counted test ts (cond (not x) (n ∷ without m ns) (without m ns)) ≡ without m (cond y (n ∷ counted test ts ns) (counted test ts ns))
    by true true e f rest =
        rest ∙ sym (ap (λ x. cond (not x) (n ∷ without m (counted test ts ns)) (without m (counted test ts ns))) e)
    by true false e f rest = rest
    by false true e f rest =
        ap (λ y. cond y (n ∷ counted test ts (without m ns)) (counted test ts (without m ns))) f ∙ ap (λ q. n ∷ q) rest
        ∙ sym (ap (λ x. cond (not x) (n ∷ without m (counted test ts ns)) (without m (counted test ts ns))) e)
    by false false e f rest = ap (λ y. cond y (n ∷ counted test ts (without m ns)) (counted test ts (without m ns))) f ∙ rest

pub counted_joined : (test : Cls → Bool) (ts : List Tag) (ns ms : List ℕ) → counted test ts (ns ++ ms) ≡ counted test ts ns ++ counted test ts ms
counted_joined test ts [] ms = refl
counted_joined test ts (n ∷ ns) ms =
    ap (λ q. cond (test (class_at ts n)) (n ∷ q) q) (counted_joined test ts ns ms) ∙ by (test (class_at ts n))
  where
    by : (x : Bool) → cond x (n ∷ (counted test ts ns ++ counted test ts ms)) (counted test ts ns ++ counted test ts ms) ≡
        cond x (n ∷ counted test ts ns) (counted test ts ns) ++ counted test ts ms
    by true = refl
    by false = refl

-- one that is among the children and counts is among those
pub counted_member : (test : Cls → Bool) (ts : List Tag) (P : ℕ → Bool) (n : ℕ) (ns : List ℕ) → is_member n ns ≡ true →
    test (class_at ts n) ≡ true → list_all P (counted test ts ns) ≡ true → P n ≡ true
counted_member test ts P n [] e f all = cc
counted_member test ts P n (m ∷ ms) e f all =
    by (nat_eq n m) (test (class_at ts m)) refl refl e all (λ k rest. counted_member test ts P n ms k f rest)
  where
    by : (x y : Bool) → nat_eq n m ≡ x → test (class_at ts m) ≡ y → x || is_member n ms ≡ true →
        list_all P (cond y (m ∷ counted test ts ms) (counted test ts ms)) ≡ true →
        (is_member n ms ≡ true → list_all P (counted test ts ms) ≡ true → P n ≡ true) → P n ≡ true
    by true true g h k rest go = subst (λ i. P i ≡ true) (sym (same_number n m g)) (both (P m) (list_all P (counted test ts ms)) rest).0
    by true false g h k rest go = never (sym h ∙ subst (λ i. test (class_at ts i) ≡ true) (same_number n m g) f)
    by false true g h k rest go = go k (both (P m) (list_all P (counted test ts ms)) rest).1
    by false false g h k rest go = go k rest

-- ---- the children of one node

pub kids_removed : (m : ℕ) (nodes : List Node) (p : ℕ) → kids (removed m nodes) p ≡ without m (kids nodes p)
kids_removed m [] p = refl
kids_removed m (node ∷ nodes) zero = refl
kids_removed m (node ∷ nodes) (suc p) = kids_removed m nodes p

pub kids_other : (f : Node → Node) (nodes : List Node) (q p : ℕ) → (q ≡ p → ⊥) → kids (changed_at f nodes q) p ≡ kids nodes p
kids_other f [] q p off = refl
kids_other f (node ∷ nodes) zero zero off = absurd (off refl)
kids_other f (node ∷ nodes) zero (suc p) off = refl
kids_other f (node ∷ nodes) (suc q) zero off = refl
kids_other f (node ∷ nodes) (suc q) (suc p) off = kids_other f nodes q p (λ e. off (ap suc e))

pub kids_same : (f : Node → Node) → ((node : Node) → (f node).children ≡ node.children) → (nodes : List Node) (q p : ℕ) →
    kids (changed_at f nodes q) p ≡ kids nodes p
kids_same f same [] q p = refl
kids_same f same (node ∷ nodes) zero zero = same node
kids_same f same (node ∷ nodes) zero (suc p) = refl
kids_same f same (node ∷ nodes) (suc q) zero = refl
kids_same f same (node ∷ nodes) (suc q) (suc p) = kids_same f same nodes q p

pub kids_at : (f : Node → Node) (nodes : List Node) (p : ℕ) → is_there (class_at (tags nodes) p) ≡ true →
    kids (changed_at f nodes p) p ≡ (f (node_at nodes p)).children
kids_at f [] p h = cc
kids_at f (node ∷ nodes) zero h = refl
kids_at f (node ∷ nodes) (suc p) h = kids_at f nodes p h

pub kids_more : (nodes more : List Node) (p : ℕ) → is_there (class_at (tags nodes) p) ≡ true → kids (nodes ++ more) p ≡ kids nodes p
kids_more [] more p h = cc
kids_more (node ∷ nodes) more zero h = refl
kids_more (node ∷ nodes) more (suc p) h = kids_more nodes more p h

abbrev pub target : Place → ℕ
target (EndOf p) = p
target (Before p m) = p

pub kids_put : (m : ℕ) (spot : Place) (nodes : List Node) (p : ℕ) → (target spot ≡ p → ⊥) → kids (put_at m spot nodes) p ≡ without m (kids nodes p)
kids_put m (EndOf q) nodes p off = kids_other _ (removed m nodes) q p off ∙ kids_removed m nodes p
kids_put m (Before q k) nodes p off = kids_other _ (removed m nodes) q p off ∙ kids_removed m nodes p

-- ---- the parent of a node

parent_later : (i n : ℕ) (nodes : List Node) → parent_from (suc i) n nodes ≡ Some 0 → ⊥
parent_later i n [] e = cc
parent_later i n (node ∷ nodes) e = by (is_member n node.children) e (λ k. parent_later (suc i) n nodes k)
  where
    by : (x : Bool) → elim x as (λ _. Option ℕ) [ true ↦ Some (suc i) | false ↦ parent_from (suc (suc i)) n nodes ] ≡ Some 0 →
        (parent_from (suc (suc i)) n nodes ≡ Some 0 → ⊥) → ⊥
    by true k go = cc
    by false k go = go k

-- where it is the Document, the node is among its children
pub parent_document : (n : ℕ) (nodes : List Node) → parent_of nodes n ≡ Some 0 → is_member n (kids nodes 0) ≡ true
parent_document n [] e = cc
parent_document n (node ∷ nodes) e = by (is_member n node.children) refl e
  where
    by : (x : Bool) → is_member n node.children ≡ x → elim x as (λ _. Option ℕ) [ true ↦ Some 0 | false ↦ parent_from 1 n nodes ] ≡ Some 0 → x ≡ true
    by true f k = refl
    by false f k = absurd (parent_later 0 n nodes k)
