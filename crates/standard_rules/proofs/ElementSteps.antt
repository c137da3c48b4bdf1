-- An element: its start tag opens it, its children are built, and its end tag closes it.
use Rattle.std.specs.Prelude.{◌≡◌, ℕ, suc, Bool, true, false, ◌&&◌, ◌⊎◌, nat_lt, List, [], ◌∷◌, ◌++◌, None, Some, bytes_eq, refl}
use Rattle.std.proofs.Common.{inl, inr, true≢false}
use Rattle.std.proofs.lemmas.Bool.{and_parts}
use Rattle.std.proofs.lemmas.Slice.Eq.{bytes_eq-Decides}
use mathlib.Core.Path.{◌∙◌, sym, subst}
use Rattle.std.specs.Cmp.Derive.{both_true}
use Rattle.standard_rules.specs.Building.{Building, Open, Entry, Listed, adopted, adopted_by, is_listed, last_listed, tree_step, unlisted, with_stack}
use Rattle.standard_rules.specs.PlainTrees.{Within, begins_text}
use Rattle.standard_rules.specs.TreeRules.{formatting}
use Rattle.standard_tokens.specs.Reading.{switch_at}
use Rattle.standard_tokens.specs.Tokens.{Attr, Token, AStart, AnEnd}
use Rattle.standard_rules.specs.TreeTokens.{Trees, no_trees, element_node, end_of, is_among, joined, tokens}
use Rattle.standard_rules.proofs.TreeLists.{Steps, ends_text, joined_joined, plain_start, step_on, steps_on}
use Rattle.standard_rules.proofs.RuleShapes.{Closes, ClosesFormatting, Runs, grown, inserted_plainly, open_of, marked}
use Rattle.standard_rules.proofs.StackKeys.{InFlow, Listable, Unlisted, mark, markers, Key, Outer, Ready, Steady, Fits, none, pass, mine, are_below, below_more, below_self, fits_below, fits_less, key, key_of, keys, outer, same_number, unlisted_number}
use Rattle.standard_rules.proofs.TextSteps.{Built, step_by_rules}

-- after a start tag that opened an element; the state outside of it is x
pub record Begun (b : Building) (o : Open) (os : List Open) (name : List ℕ) (attrs : List Attr) (x : Outer) : Type 0 where
  pub after : Building
  pub step : tree_step (with_stack b (o ∷ os)) (AStart name attrs false) ≡ Some (with_stack after (open_of b.next name attrs no_trees ∷ o ∷ os))
  pub ready : Ready after (key_of b.next name ∷ key o ∷ keys os)
  pub kept : outer after ≡ x

-- after its end tag
pub record Ended (b : Building) (number : ℕ) (name : List ℕ) (attrs : List Attr) (children : Trees) (o : Open) (os : List Open) (x : Outer) : Type 0 where
  pub after : Building
  pub step : tree_step (with_stack b (open_of number name attrs children ∷ o ∷ os)) (AnEnd name) ≡ Some (with_stack after (grown o name attrs children ∷ os))
  pub ready : Ready after (key o ∷ keys os)
  pub kept : outer after ≡ x

pub more_numbers : (next : ℕ) (name : List ℕ) (ks : List Key) → are_below next ks ≡ true → are_below (suc next) (key_of next name ∷ ks) ≡ true
more_numbers next name ks h = both_true (below_self next) (below_more next ks h)

pub less_numbers : (number next : ℕ) (name : List ℕ) (ks : List Key) → are_below next (key_of number name ∷ ks) ≡ true → are_below next ks ≡ true
less_numbers number next name ks h = (and_parts (nat_lt number next) (are_below next ks) h).1

-- ---- elements among the contents of a body

-- the end tag of an element that is not listed
pub ended : (name : List ℕ) → Closes name → Unlisted name → (b : Building) (number : ℕ) (attrs : List Attr) (children : Trees) (o : Open) (os : List Open) (ks : List Key) → InFlow (outer b) ks →
    Ready b (key_of number name ∷ key o ∷ keys os) → Ended b number name attrs children o os (outer b)
ended name closes other b number attrs children o os ks f r =
    let bb : Building = with_stack b (open_of number name attrs children ∷ o ∷ os) in
    record {
      after = b;
      step = step_by_rules bb (with_stack b (grown o name attrs children ∷ os)) ks (AnEnd name) f r.skip (closes b number attrs children o os);
      ready = record { skip = r.skip; fits = fits_below other r.fits; numbers = less_numbers number b.next name (key o ∷ keys os) r.numbers };
      kept = refl;
    }

same_bytes : (name : List ℕ) → bytes_eq name name ≡ true
same_bytes name = (bytes_eq-Decides name name).1 refl

-- the top is the last of the list, or is not in it
is_last : {k : Key} {ks : List Key} {es : List Entry} → is_among k.name markers ≡ false → Fits (k ∷ ks) es → are_below k.number ks ≡ true →
    (Fits ks es × (is_listed k.number es ≡ false)) ⊎ ((attrs : List Attr) × (others : List Entry) × (es ≡ Listed k.number k.name attrs ∷ others) × Fits ks others)
is_last h none low = inl (none, refl)
is_last h (pass {k} f) low = inl (f, unlisted_number k.number low f)
is_last h (mine {k} {ks} {es} attrs is f) low = inr (attrs, es, refl, f)
is_last h (mark is f) low = absurd (true≢false (sym is ∙ h))

adopted_unlisted : (name : List ℕ) (b : Building) (number : ℕ) (attrs : List Attr) (children : Trees) (o : Open) (os : List Open) → is_listed number b.listed ≡ false →
    adopted name (with_stack b (open_of number name attrs children ∷ o ∷ os)) ≡ Some (with_stack b (grown o name attrs children ∷ os))
adopted_unlisted name b number attrs children o os h = rw (same_bytes name, h) refl

last_is : (name : List ℕ) (number : ℕ) (bs : List Attr) (es : List Entry) → last_listed (name ∷ []) (Listed number name bs ∷ es) ≡ Some number
last_is name number bs es = rw (same_bytes name, last_listed) refl

unlisted_is : (name : List ℕ) (number : ℕ) (bs : List Attr) (es : List Entry) → unlisted number (Listed number name bs ∷ es) ≡ es
unlisted_is name number bs es = rw (same_number number, unlisted) refl

adopted_listed : (name : List ℕ) (b : Building) (number : ℕ) (attrs bs : List Attr) (es : List Entry) (children : Trees) (o : Open) (os : List Open) →
    adopted name (with_stack (record b { listed = Listed number name bs ∷ es }) (open_of number name attrs children ∷ o ∷ os)) ≡ Some (with_stack (record b { listed = es }) (grown o name attrs children ∷ os))
adopted_listed name b number attrs bs es children o os = rw (same_bytes name, same_number number) (rw (last_is name number bs es) (rw (same_number number, adopted_by) (rw (unlisted_is name number bs es) refl)))

ended_listed : (name : List ℕ) → ClosesFormatting name → (b : Building) (number : ℕ) (attrs bs : List Attr) (es : List Entry) (children : Trees) (o : Open) (os : List Open) →
    Fits (key o ∷ keys os) es → (ks : List Key) → InFlow (outer b) ks → Ready b (key_of number name ∷ key o ∷ keys os) →
    Ended (record b { listed = Listed number name bs ∷ es }) number name attrs children o os (outer b)
ended_listed name closes b number attrs bs es children o os f ks flow r =
    let bb : Building = with_stack (record b { listed = Listed number name bs ∷ es }) (open_of number name attrs children ∷ o ∷ os) in
    let cc : Building = with_stack (record b { listed = es }) (grown o name attrs children ∷ os) in
    record {
      after = record b { listed = es };
      step = step_by_rules bb cc ks (AnEnd name) flow r.skip (closes bb cc (adopted_listed name b number attrs bs es children o os));
      ready = record { skip = r.skip; fits = f; numbers = less_numbers number b.next name (key o ∷ keys os) r.numbers };
      kept = refl;
    }

-- the same of a formatting element: it is the last in the list, or is not in it
pub ended_formatting : (name : List ℕ) → Listable name → ClosesFormatting name → (b : Building) (number : ℕ) (attrs : List Attr) (children : Trees) (o : Open) (os : List Open) →
    (ks : List Key) → InFlow (outer b) ks → Ready b (key_of number name ∷ key o ∷ keys os) → are_below number (key o ∷ keys os) ≡ true → Ended b number name attrs children o os (outer b)
ended_formatting name is closes b number attrs children o os ks flow r low = by_case (is_last is.1 r.fits low)
  where
    by_case : (Fits (key o ∷ keys os) b.listed × (is_listed number b.listed ≡ false)) ⊎ ((bs : List Attr) × (others : List Entry) × (b.listed ≡ Listed number name bs ∷ others) × Fits (key o ∷ keys os) others) → Ended b number name attrs children o os (outer b)
    by_case (inl w) =
        let bb : Building = with_stack b (open_of number name attrs children ∷ o ∷ os) in
        record {
          after = b;
          step = step_by_rules bb (with_stack b (grown o name attrs children ∷ os)) ks (AnEnd name) flow r.skip (closes bb (with_stack b (grown o name attrs children ∷ os)) (adopted_unlisted name b number attrs children o os w.1));
          ready = record { skip = r.skip; fits = w.0; numbers = less_numbers number b.next name (key o ∷ keys os) r.numbers };
          kept = refl;
        }
    by_case (inr w) = subst (λ (x : List Entry). Ended (record b { listed = x }) number name attrs children o os (outer b)) (sym w.2) (ended_listed name closes b number attrs w.0 w.1 children o os w.3 ks flow r)

-- a start tag that only opens an element
pub begun : (name : List ℕ) (attrs : List Attr) (b : Building) (o : Open) (os : List Open) → InFlow (outer b) (key o ∷ keys os) → Ready b (key o ∷ keys os) →
    Runs (AStart name attrs false) (with_stack b (o ∷ os)) (with_stack (record b { next = suc b.next }) (open_of b.next name attrs no_trees ∷ o ∷ os)) → Begun b o os name attrs (outer b)
begun name attrs b o os f r runs =
    let bb : Building = with_stack b (o ∷ os) in
    record {
      after = record b { next = suc b.next };
      step = step_by_rules bb (with_stack (record b { next = suc b.next }) (open_of b.next name attrs no_trees ∷ o ∷ os)) (key o ∷ keys os) (AStart name attrs false) f r.skip runs;
      ready = record { skip = r.skip; fits = pass r.fits; numbers = more_numbers b.next name (key o ∷ keys os) r.numbers };
      kept = refl;
    }

-- the same, where frames are no more possible
pub begun_plainly : (name : List ℕ) (attrs : List Attr) (b : Building) (o : Open) (os : List Open) → InFlow (outer b) (key o ∷ keys os) → Ready b (key o ∷ keys os) →
    Runs (AStart name attrs false) (with_stack b (o ∷ os)) (inserted_plainly name attrs (with_stack b (o ∷ os))) → Begun b o os name attrs (outer b)
begun_plainly name attrs b o os f r runs =
    record {
      after = record b { next = suc b.next; frameset_ok = false };
      step = step_by_rules (with_stack b (o ∷ os)) (inserted_plainly name attrs (with_stack b (o ∷ os))) (key o ∷ keys os) (AStart name attrs false) f r.skip runs;
      ready = record { skip = r.skip; fits = pass r.fits; numbers = more_numbers b.next name (key o ∷ keys os) r.numbers };
      kept = refl;
    }

-- a start tag that opens an element and puts it into the list
pub begun_formatting : (name : List ℕ) (attrs : List Attr) (b : Building) (o : Open) (os : List Open) → is_among name formatting ≡ true → InFlow (outer b) (key o ∷ keys os) → Ready b (key o ∷ keys os) →
    Runs (AStart name attrs false) (with_stack b (o ∷ os)) (marked name attrs (with_stack b (o ∷ os))) → Begun b o os name attrs (outer b)
begun_formatting name attrs b o os is f r runs =
    let bb : Building = with_stack b (o ∷ os) in
    record {
      after = record b { next = suc b.next; listed = (marked name attrs bb).listed };
      step = step_by_rules bb (marked name attrs bb) (key o ∷ keys os) (AStart name attrs false) f r.skip runs;
      ready = record {
        skip = r.skip;
        fits = mine attrs is (fits_less 0 name attrs r.fits);
        numbers = more_numbers b.next name (key o ∷ keys os) r.numbers;
      };
      kept = refl;
    }

-- ---- a whole element

-- nodes that stand in that are built wherever they stand
abbrev pub IsBuilt : Within → Trees → Type 0
IsBuilt w t = (b : Building) (o : Open) (os : List Open) → (begins_text t && ends_text o.children) ≡ false → Steady w (outer b) (key o ∷ keys os) → Ready b (key o ∷ keys os) → Built b o os (tokens t) t

abbrev pub one : List ℕ → List Attr → Trees → Trees
one name attrs children = element_node name attrs children no_trees

pub no_and : (x : Bool) → (x && false) ≡ false
no_and true = refl
no_and false = refl

-- the children and the end tag, once the element is open
pub record Filled (c b : Building) (n : ℕ) (name : List ℕ) (attrs : List Attr) (children : Trees) (o : Open) (os : List Open) (x : Outer) : Type 0 where
  pub after : Building
  pub steps : Steps (with_stack c (open_of n name attrs no_trees ∷ o ∷ os)) (tokens children ++ end_of name) (with_stack after (grown o name attrs children ∷ os))
  pub ready : Ready after (key o ∷ keys os)
  pub kept : outer after ≡ x

pub filled : (name : List ℕ) (attrs : List Attr) (children : Trees) (v : Within) (c b : Building) (n : ℕ) (o : Open) (os : List Open) (x : Outer) → end_of name ≡ AnEnd name ∷ [] →
    Ready c (key_of n name ∷ key o ∷ keys os) → Steady v (outer c) (key_of n name ∷ key o ∷ keys os) → IsBuilt v children →
    ((d : Building) → outer d ≡ outer c → Ready d (key_of n name ∷ key o ∷ keys os) → Ended d n name attrs children o os x) → Filled c b n name attrs children o os x
filled name attrs children v c b n o os x ends ready steady inner finish =
    let p : Open = open_of n name attrs no_trees in
    let q : Open = open_of n name attrs children in
    let i : Built c p (o ∷ os) (tokens children) children = inner c p (o ∷ os) (no_and (begins_text children)) steady ready in
    let e : Ended i.after n name attrs children o os x = finish i.after i.kept i.ready in
    let last : Steps (with_stack i.after (q ∷ o ∷ os)) (end_of name) (with_stack e.after (grown o name attrs children ∷ os)) =
    rw ends (step_on (with_stack i.after (q ∷ o ∷ os)) (with_stack e.after (grown o name attrs children ∷ os)) (with_stack e.after (grown o name attrs children ∷ os)) (AnEnd name) [] refl e.step refl) in
    record {
      after = e.after;
      steps = steps_on (with_stack c (p ∷ o ∷ os)) (with_stack i.after (q ∷ o ∷ os)) (with_stack e.after (grown o name attrs children ∷ os)) (tokens children) (end_of name) i.steps last;
      ready = e.ready;
      kept = e.kept;
    }

-- by its start tag, its children and its end tag
pub element_built : (name : List ℕ) (attrs : List Attr) (children : Trees) (v : Within) (b : Building) (o : Open) (os : List Open) (x : Outer) → end_of name ≡ AnEnd name ∷ [] → switch_at name ≡ None →
    Begun b o os name attrs x → Steady v x (key_of b.next name ∷ key o ∷ keys os) → IsBuilt v children →
    ((d : Building) → outer d ≡ x → Ready d (key_of b.next name ∷ key o ∷ keys os) → Ended d b.next name attrs children o os (outer b)) →
    Built b o os (AStart name attrs false ∷ (tokens children ++ end_of name)) (one name attrs children)
element_built name attrs children v b o os x ends unswitched start steady inner finish =
    let c : Building = start.after in
    let f : Filled c b b.next name attrs children o os (outer b) =
    filled name attrs children v c b b.next o os (outer b) ends start.ready (subst (λ (y : Outer). Steady v y (key_of b.next name ∷ key o ∷ keys os)) (sym start.kept) steady) inner
    (λ d kept r. finish d (kept ∙ start.kept) r) in
    record {
      after = f.after;
      steps =
          step_on (with_stack b (o ∷ os)) (with_stack c (open_of b.next name attrs no_trees ∷ o ∷ os)) (with_stack f.after (grown o name attrs children ∷ os)) (AStart name attrs false) (tokens children ++ end_of name)
          (plain_start name attrs (with_stack c (open_of b.next name attrs no_trees ∷ o ∷ os)) unswitched) start.step f.steps;
      ready = f.ready;
      kept = f.kept;
    }

-- nodes, and then more nodes
pub then_built : (b : Building) (o : Open) (os : List Open) (xs ys : List Token) (s t : Trees) → (first : Built b o os xs s) →
    Built first.after (record o { children = joined o.children s }) os ys t → Built b o os (xs ++ ys) (joined s t)
then_built b o os xs ys s t first rest =
    let o' : Open = record o { children = joined o.children s } in
    let whole : Steps (with_stack b (o ∷ os)) (xs ++ ys) (with_stack rest.after (record o { children = joined (joined o.children s) t } ∷ os)) =
    steps_on (with_stack b (o ∷ os)) (with_stack first.after (o' ∷ os)) (with_stack rest.after (record o { children = joined (joined o.children s) t } ∷ os)) xs ys first.steps rest.steps in
    record {
      after = rest.after;
      steps = subst (λ (x : Trees). Steps (with_stack b (o ∷ os)) (xs ++ ys) (with_stack rest.after (record o { children = x } ∷ os))) (joined_joined o.children s t) whole;
      ready = rest.ready;
      kept = rest.kept ∙ first.kept;
    }
