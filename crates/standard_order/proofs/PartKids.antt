-- The child elements of `html`: what changes of nodes leave them as they are.
use Rattle.std.specs.Prelude.{◌≡◌, ◌&&◌, ◌||◌, refl, ℕ, suc, Bool, true, false, List, [], ◌∷◌, ◌++◌, None, Some, cond, map, nat_eq}
use Rattle.std.specs.List.{list_all}
use mathlib.Core.Path.{◌∙◌, sym, ap, subst}
use Rattle.standard_trees.specs.TreeStore.{Before, ContentsNode, ElementNode, EndOf, Node, NodeAttr, Place, Space, changed_at, leaf, placed_before, put_at}
use Rattle.standard_trees.specs.TreeStore.{removed, without}
use Rattle.standard_trees.specs.GrowingTree.{GrowingTree, created, created_element, fresh, is_template}
use Rattle.standard_order.proofs.StandingStacks.{both, never, same_number}
use Rattle.standard_order.proofs.GoodEnds.{same_again}
use Rattle.standard_order.proofs.NodeTags.{BodyC, Cls, FramesetC, HeadC, HtmlC, Keeps, Tag, class_at, is_element, is_there, keeps_same, tags, tags_put, tags_removed}
use Rattle.standard_order.proofs.NodeKids.{AllThere, all_joined, all_without, counted, counted_joined, counted_kept, counted_without, kids, kids_at, kids_more}
use Rattle.standard_order.proofs.NodeKids.{kids_other, kids_put, kids_removed, same_without, target, there_kept}

abbrev pub is_head : Cls → Bool
is_head HeadC = true
is_head _ = false

abbrev pub is_body : Cls → Bool
is_body BodyC = true
is_body _ = false

abbrev pub is_frameset : Cls → Bool
is_frameset FramesetC = true
is_frameset _ = false

abbrev pub is_part : Cls → Bool
is_part c = is_head c || is_body c

-- none; a head; a head and a body; a head, where the body has been removed; a head, a frameset, and any others
pub data Parts : Type 0 where
  Bald Headed Bodied Emptied Framed : Parts

abbrev pub fits : Parts → List Cls → Bool
fits Bald [] = true
fits Bald (c ∷ cs) = false
fits Headed [] = false
fits Headed (c ∷ []) = is_head c
fits Headed (c ∷ d ∷ cs) = false
fits Emptied [] = false
fits Emptied (c ∷ []) = is_head c
fits Emptied (c ∷ d ∷ cs) = false
fits Bodied [] = false
fits Bodied (c ∷ []) = false
fits Bodied (c ∷ d ∷ []) = is_head c && is_body d
fits Bodied (c ∷ d ∷ e ∷ cs) = false
fits Framed [] = false
fits Framed (c ∷ []) = false
fits Framed (c ∷ d ∷ cs) = is_head c && is_frameset d

abbrev pub parts_in : List Node → ℕ → List ℕ
parts_in nodes r = counted is_element (tags nodes) (kids nodes r)

pub record Frame (r : ℕ) (parts : Parts) (nodes : List Node) : Type 0 where
  pub root : class_at (tags nodes) r ≡ HtmlC
  pub valid : AllThere (tags nodes) (kids nodes r)
  pub form : fits parts (map (class_at (tags nodes)) (parts_in nodes r)) ≡ true

pub root_there : (r : ℕ) (parts : Parts) (nodes : List Node) → Frame r parts nodes → is_there (class_at (tags nodes) r) ≡ true
root_there r parts nodes h = ap is_there h.root

-- ---- lists

pub all_counted : (P : ℕ → Bool) (test : Cls → Bool) (ts : List Tag) (ns : List ℕ) → list_all P ns ≡ true → list_all P (counted test ts ns) ≡ true
all_counted P test ts [] h = refl
all_counted P test ts (n ∷ ns) h = by (test (class_at ts n)) (both (P n) (list_all P ns) h).0 (all_counted P test ts ns (both (P n) (list_all P ns) h).1)
  where
    by : (x : Bool) → P n ≡ true → list_all P (counted test ts ns) ≡ true → list_all P (cond x (n ∷ counted test ts ns) (counted test ts ns)) ≡ true
    by true one rest = ap (λ y. y && list_all P (counted test ts ns)) one ∙ rest
    by false one rest = rest

pub classes_kept : (ts us : List Tag) → Keeps ts us → (ns : List ℕ) → AllThere ts ns → map (class_at us) ns ≡ map (class_at ts) ns
classes_kept ts us keeps [] h = refl
classes_kept ts us keeps (n ∷ ns) h =
    let two : (is_there (class_at ts n) ≡ true) × AllThere ts ns = both (is_there (class_at ts n)) (list_all (λ m. is_there (class_at ts m)) ns) h in
    ap (λ t. t.cls ∷ map (class_at us) ns) (keeps n two.0) ∙ ap (λ q. class_at ts n ∷ q) (classes_kept ts us keeps ns two.1)

counted_placed : (test : Cls → Bool) (ts : List Tag) (m k : ℕ) (ns : List ℕ) → test (class_at ts m) ≡ false →
    counted test ts (placed_before m k ns) ≡ counted test ts ns
counted_placed test ts m k [] off = ap (λ x. cond x (m ∷ []) []) off
counted_placed test ts m k (n ∷ ns) off = by (nat_eq n k) (counted_placed test ts m k ns off)
  where
    by : (x : Bool) → counted test ts (placed_before m k ns) ≡ counted test ts ns →
        counted test ts (elim x as (λ _. List ℕ) [ true ↦ m ∷ n ∷ ns | false ↦ n ∷ placed_before m k ns ]) ≡ counted test ts (n ∷ ns)
    by true rest = ap (λ x. cond x (m ∷ counted test ts (n ∷ ns)) (counted test ts (n ∷ ns))) off
    by false rest = ap (λ q. cond (test (class_at ts n)) (n ∷ q) q) rest

all_placed : (P : ℕ → Bool) (m k : ℕ) (ns : List ℕ) → P m ≡ true → list_all P ns ≡ true → list_all P (placed_before m k ns) ≡ true
all_placed P m k [] one h = ap (λ x. x && true) one
all_placed P m k (n ∷ ns) one h = by (nat_eq n k) (both (P n) (list_all P ns) h).0 (all_placed P m k ns one (both (P n) (list_all P ns) h).1)
  where
    by : (x : Bool) → P n ≡ true → list_all P (placed_before m k ns) ≡ true →
        list_all P (elim x as (λ _. List ℕ) [ true ↦ m ∷ n ∷ ns | false ↦ n ∷ placed_before m k ns ]) ≡ true
    by true a rest = ap (λ x. x && list_all P (n ∷ ns)) one ∙ h
    by false a rest = ap (λ x. x && list_all P (placed_before m k ns)) a ∙ rest

-- ---- changes

-- with the same child elements
pub still_framed : (r : ℕ) (parts : Parts) (old new : List Node) → Keeps (tags old) (tags new) → parts_in new r ≡ parts_in old r →
    AllThere (tags new) (kids new r) → Frame r parts old → Frame r parts new
still_framed r parts old new keeps same valid h = record {
  root = ap (λ t. t.cls) (keeps r (root_there r parts old h)) ∙ h.root;
  valid = valid;
  form = ap (λ ns. fits parts (map (class_at (tags new)) ns)) same
      ∙ ap (fits parts) (classes_kept (tags old) (tags new) keeps (parts_in old r)
      (all_counted (λ c. is_there (class_at (tags old) c)) is_element (tags old) (kids old r) h.valid)) ∙ h.form;
}

pub framed_store : (r : ℕ) (parts : Parts) (old new : List Node) → tags new ≡ tags old → kids new r ≡ kids old r → Frame r parts old → Frame r parts new
framed_store r parts old new e same h =
    still_framed r parts old new (keeps_same (tags old) (tags new) e)
    (ap (λ ts. counted is_element ts (kids new r)) e ∙ ap (counted is_element (tags old)) same)
    (subst (λ ts. AllThere ts (kids new r)) (sym e) (subst (AllThere (tags old)) (sym same) h.valid)) h

-- nodes behind the old ones
pub framed_more : (r : ℕ) (parts : Parts) (old new : List Node) → Keeps (tags old) (tags new) → kids new r ≡ kids old r → Frame r parts old → Frame r parts new
framed_more r parts old new keeps same h =
    still_framed r parts old new keeps
    (ap (counted is_element (tags new)) same ∙ counted_kept is_element (tags old) (tags new) keeps (kids old r) h.valid)
    (subst (AllThere (tags new)) (sym same) (there_kept (tags old) (tags new) keeps (kids old r) h.valid)) h

pub kids_made : (space : Space) (name : List ℕ) (attrs : List NodeAttr) (t : GrowingTree) (p : ℕ) → is_there (class_at (tags t.nodes) p) ≡ true →
    kids (created_element space name attrs t).nodes p ≡ kids t.nodes p
kids_made space name attrs t p h = by (is_template space name)
  where
    first : List Node
    first = t.nodes ++ leaf (ElementNode space name attrs (Some (suc (fresh t)))) ∷ []

    joined : (xs ys zs : List Node) → (xs ++ ys) ++ zs ≡ xs ++ (ys ++ zs)
    joined [] ys zs = refl
    joined (x ∷ xs) ys zs = ap (λ l. x ∷ l) (joined xs ys zs)

    by : (x : Bool) → kids (elim x as (λ _. GrowingTree) [
      | true ↦ created ContentsNode (created (ElementNode space name attrs (Some (suc (fresh t)))) t)
      | false ↦ created (ElementNode space name attrs None) t
    ]).nodes p ≡ kids t.nodes p
    by true = ap (λ ns. kids ns p) (joined t.nodes (leaf (ElementNode space name attrs (Some (suc (fresh t)))) ∷ []) (leaf ContentsNode ∷ []))
        ∙ kids_more t.nodes (leaf (ElementNode space name attrs (Some (suc (fresh t)))) ∷ leaf ContentsNode ∷ []) p h
    by false = kids_more t.nodes (leaf (ElementNode space name attrs None) ∷ []) p h

-- a new node elsewhere
pub framed_fresh : (r : ℕ) (parts : Parts) (m : ℕ) (spot : Place) (old mid : List Node) → (target spot ≡ r → ⊥) → is_there (class_at (tags old) m) ≡ false →
    Keeps (tags old) (tags mid) → kids mid r ≡ kids old r → Frame r parts old → Frame r parts (put_at m spot mid)
framed_fresh r parts m spot old mid off absent keeps same h =
    framed_store r parts mid (put_at m spot mid) (tags_put m spot mid)
    (kids_put m spot mid r off ∙ ap (without m) same ∙ same_without (λ c. is_there (class_at (tags old) c)) m (kids old r) h.valid absent ∙ sym same)
    (framed_more r parts old mid keeps same h)

is_off : (q r : ℕ) → nat_eq q r ≡ false → q ≡ r → ⊥
is_off q r f e = never (sym (subst (λ i. nat_eq q i ≡ false) (sym e) f) ∙ same_again q)

-- a new node that is no element, wherever it is
pub framed_quiet : (r : ℕ) (parts : Parts) (m : ℕ) (spot : Place) (old mid : List Node) → is_there (class_at (tags old) m) ≡ false →
    is_element (class_at (tags mid) m) ≡ false → is_there (class_at (tags mid) m) ≡ true →
    Keeps (tags old) (tags mid) → kids mid r ≡ kids old r → Frame r parts old → Frame r parts (put_at m spot mid)
framed_quiet r parts m spot old mid absent quiet present keeps same h = by spot
  where
    middle : Frame r parts mid
    middle = framed_more r parts old mid keeps same h

    there_now : is_there (class_at (tags (removed m mid)) r) ≡ true
    there_now = subst (λ ts. is_there (class_at ts r) ≡ true) (sym (tags_removed m mid)) (root_there r parts mid middle)

    as_it_was : without m (kids mid r) ≡ kids mid r
    as_it_was = ap (without m) same ∙ same_without (λ c. is_there (class_at (tags old) c)) m (kids old r) h.valid absent ∙ sym same

    at_root : (spot : Place) → counted is_element (tags mid) (kids (put_at m spot mid) r) ≡ parts_in mid r → AllThere (tags mid) (kids (put_at m spot mid) r) →
        Frame r parts (put_at m spot mid)
    at_root spot e valid =
        still_framed r parts mid (put_at m spot mid) (keeps_same (tags mid) (tags (put_at m spot mid)) (tags_put m spot mid))
        (ap (λ ts. counted is_element ts (kids (put_at m spot mid) r)) (tags_put m spot mid) ∙ e)
        (subst (λ ts. AllThere ts (kids (put_at m spot mid) r)) (sym (tags_put m spot mid)) valid) middle

    end : kids (put_at m (EndOf r) mid) r ≡ kids mid r ++ m ∷ []
    end = kids_at (λ node. record node { children = node.children ++ m ∷ [] }) (removed m mid) r there_now
        ∙ ap (λ ns. ns ++ m ∷ []) (kids_removed m mid r ∙ as_it_was)

    before : (k : ℕ) → kids (put_at m (Before r k) mid) r ≡ placed_before m k (kids mid r)
    before k = kids_at (λ node. record node { children = placed_before m k node.children }) (removed m mid) r there_now
        ∙ ap (placed_before m k) (kids_removed m mid r ∙ as_it_was)

    nothing : (ms : List ℕ) → ms ++ [] ≡ ms
    nothing [] = refl
    nothing (x ∷ xs) = ap (λ q. x ∷ q) (nothing xs)

    at_end : Frame r parts (put_at m (EndOf r) mid)
    at_end = at_root (EndOf r)
        (ap (counted is_element (tags mid)) end ∙ counted_joined is_element (tags mid) (kids mid r) (m ∷ [])
        ∙ ap (λ x. parts_in mid r ++ cond x (m ∷ []) []) quiet ∙ nothing (parts_in mid r))
        (subst (AllThere (tags mid)) (sym end) (all_joined (λ c. is_there (class_at (tags mid) c)) (kids mid r) (m ∷ []) middle.valid (ap (λ x. x && true) present)))

    at_before : (k : ℕ) → Frame r parts (put_at m (Before r k) mid)
    at_before k = at_root (Before r k)
        (ap (counted is_element (tags mid)) (before k) ∙ counted_placed is_element (tags mid) m k (kids mid r) quiet)
        (subst (AllThere (tags mid)) (sym (before k)) (all_placed (λ c. is_there (class_at (tags mid) c)) m k (kids mid r) present middle.valid))

    by_end : (q : ℕ) (x : Bool) → nat_eq q r ≡ x → Frame r parts (put_at m (EndOf q) mid)
    by_end q true e = subst (λ i. Frame r parts (put_at m (EndOf i) mid)) (sym (same_number q r e)) at_end
    by_end q false e = framed_fresh r parts m (EndOf q) old mid (is_off q r e) absent keeps same h

    by_before : (q k : ℕ) (x : Bool) → nat_eq q r ≡ x → Frame r parts (put_at m (Before q k) mid)
    by_before q k true e = subst (λ i. Frame r parts (put_at m (Before i k) mid)) (sym (same_number q r e)) (at_before k)
    by_before q k false e = framed_fresh r parts m (Before q k) old mid (is_off q r e) absent keeps same h

    by : (spot : Place) → Frame r parts (put_at m spot mid)
    by (EndOf q) = by_end q (nat_eq q r) refl
    by (Before q k) = by_before q k (nat_eq q r) refl

-- a new element behind the others
pub framed_end : (r : ℕ) (parts next : Parts) (m : ℕ) (old mid : List Node) → is_there (class_at (tags old) m) ≡ false →
    is_element (class_at (tags mid) m) ≡ true → is_there (class_at (tags mid) m) ≡ true →
    ((cs : List Cls) → fits parts cs ≡ true → fits next (cs ++ class_at (tags mid) m ∷ []) ≡ true) →
    Keeps (tags old) (tags mid) → kids mid r ≡ kids old r → Frame r parts old → Frame r next (put_at m (EndOf r) mid)
framed_end r parts next m old mid absent element present step keeps same h = record {
  root = ap (λ ts. class_at ts r) tags_are ∙ middle.root;
  valid = subst (λ ts. AllThere ts (kids new r)) (sym tags_are) (subst (AllThere (tags mid)) (sym end)
      (all_joined (λ c. is_there (class_at (tags mid) c)) (kids mid r) (m ∷ []) middle.valid (ap (λ x. x && true) present)));
  form = ap (λ ts. fits next (map (class_at ts) (counted is_element ts (kids new r)))) tags_are
      ∙ ap (λ ns. fits next (map (class_at (tags mid)) ns)) (ap (counted is_element (tags mid)) end ∙ counted_joined is_element (tags mid) (kids mid r) (m ∷ [])
      ∙ ap (λ x. parts_in mid r ++ cond x (m ∷ []) []) element)
      ∙ ap (fits next) (joined_map (parts_in mid r) (m ∷ [])) ∙ step (map (class_at (tags mid)) (parts_in mid r)) middle.form;
}
  where
    new : List Node
    new = put_at m (EndOf r) mid

    middle : Frame r parts mid
    middle = framed_more r parts old mid keeps same h

    tags_are : tags new ≡ tags mid
    tags_are = tags_put m (EndOf r) mid

    joined_map : (xs ys : List ℕ) → map (class_at (tags mid)) (xs ++ ys) ≡ map (class_at (tags mid)) xs ++ map (class_at (tags mid)) ys
    joined_map [] ys = refl
    joined_map (x ∷ xs) ys = ap (λ q. class_at (tags mid) x ∷ q) (joined_map xs ys)

    end : kids new r ≡ kids mid r ++ m ∷ []
    end = kids_at (λ node. record node { children = node.children ++ m ∷ [] }) (removed m mid) r
        (subst (λ ts. is_there (class_at ts r) ≡ true) (sym (tags_removed m mid)) (root_there r parts mid middle))
        ∙ ap (λ ns. ns ++ m ∷ []) (kids_removed m mid r ∙ ap (without m) same ∙
        same_without (λ c. is_there (class_at (tags old) c)) m (kids old r) h.valid absent ∙ sym same)

-- ---- nodes that are moved

abbrev pub is_plainly : Parts → Bool
is_plainly Framed = false
is_plainly _ = true

head_part : (c : Cls) → is_head c ≡ true → is_part c ≡ true
head_part HeadC h = refl
head_part _ h = never h

body_part : (c : Cls) → is_body c ≡ true → is_part c ≡ true
body_part BodyC h = refl
body_part _ h = never h

pub all_parts : (parts : Parts) (ts : List Tag) (ns : List ℕ) → is_plainly parts ≡ true → fits parts (map (class_at ts) ns) ≡ true →
    list_all (λ n. is_part (class_at ts n)) ns ≡ true
all_parts Bald ts [] p h = refl
all_parts Bald ts (n ∷ ns) p h = never h
all_parts Headed ts [] p h = never h
all_parts Headed ts (n ∷ []) p h = ap (λ x. x && true) (head_part (class_at ts n) h)
all_parts Headed ts (n ∷ m ∷ ns) p h = never h
all_parts Emptied ts [] p h = never h
all_parts Emptied ts (n ∷ []) p h = ap (λ x. x && true) (head_part (class_at ts n) h)
all_parts Emptied ts (n ∷ m ∷ ns) p h = never h
all_parts Bodied ts [] p h = never h
all_parts Bodied ts (n ∷ []) p h = never h
all_parts Bodied ts (n ∷ m ∷ []) p h =
    let two : (is_head (class_at ts n) ≡ true) × (is_body (class_at ts m) ≡ true) = both (is_head (class_at ts n)) (is_body (class_at ts m)) h in
    ap (λ x. x && (is_part (class_at ts m) && true)) (head_part (class_at ts n) two.0) ∙ ap (λ x. x && true) (body_part (class_at ts m) two.1)
all_parts Bodied ts (n ∷ m ∷ k ∷ ns) p h = never h
all_parts Framed ts ns p h = never p

pub framed_less : (r : ℕ) (parts : Parts) (m : ℕ) (old new : List Node) → is_plainly parts ≡ true → tags new ≡ tags old →
    kids new r ≡ without m (kids old r) → is_part (class_at (tags old) m) ≡ false → Frame r parts old → Frame r parts new
framed_less r parts m old new p e less off h =
    still_framed r parts old new (keeps_same (tags old) (tags new) e)
    (ap (λ ts. counted is_element ts (kids new r)) e ∙ ap (counted is_element (tags old)) less ∙ counted_without is_element (tags old) m (kids old r)
    ∙ same_without (λ n. is_part (class_at (tags old) n)) m (parts_in old r) (all_parts parts (tags old) (parts_in old r) p h.form) off)
    (subst (λ ts. AllThere ts (kids new r)) (sym e) (subst (AllThere (tags old)) (sym less)
    (all_without (λ c. is_there (class_at (tags old) c)) m (kids old r) h.valid))) h

pub framed_put : (r : ℕ) (parts : Parts) (m : ℕ) (spot : Place) (nodes : List Node) → is_plainly parts ≡ true → (target spot ≡ r → ⊥) →
    is_part (class_at (tags nodes) m) ≡ false → Frame r parts nodes → Frame r parts (put_at m spot nodes)
framed_put r parts m spot nodes p off one h = framed_less r parts m nodes (put_at m spot nodes) p (tags_put m spot nodes) (kids_put m spot nodes r off) one h

pub framed_kind : (r : ℕ) (parts : Parts) (f : Node → Node) (nodes : List Node) (q : ℕ) → ((node : Node) → (f node).children ≡ node.children) →
    tags (changed_at f nodes q) ≡ tags nodes → Frame r parts nodes → Frame r parts (changed_at f nodes q)
framed_kind r parts f nodes q same e h =
    framed_store r parts nodes (changed_at f nodes q) e (Rattle.standard_order.proofs.NodeKids.kids_same f same nodes q r) h

pub framed_kids : (r : ℕ) (parts : Parts) (f : Node → Node) (nodes : List Node) (q : ℕ) → (q ≡ r → ⊥) → tags (changed_at f nodes q) ≡ tags nodes →
    Frame r parts nodes → Frame r parts (changed_at f nodes q)
framed_kids r parts f nodes q off e h = framed_store r parts nodes (changed_at f nodes q) e (kids_other f nodes q r off) h
