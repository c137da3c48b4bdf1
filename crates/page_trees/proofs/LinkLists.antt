-- The links as lists, which the code writes entry by entry.
use Rattle.std.proofs.Common.{ℕ, zero, suc, ◌≡◌, ◌+◌, ◌-◌, ◌<◌, ◌≤◌, inl, inr, List, [], ◌∷◌, ◌++◌, length, get_or, set, refl, sym, ap, ◌∙◌, subst, arith}
use Rattle.std.specs.Prelude.{Option, Some, None, IfNone}
use Rattle.std.specs.Option.{option_to_list}
use Rattle.std.proofs.lemmas.Bool.{cases_eq, cases_lt}
use Rattle.std.proofs.lemmas.Grind.{get_or-set_at}
use Rattle.std.proofs.lemmas.List.{get_or-set_other, get_or_append_left, get_or_past, get_or_push, get_or-set_same, length-set, length_push, set-get_or}
use Rattle.page_trees.specs.Links.{IsLast, AreLinked, AreLinks, set_before, set_where_none}
use Rattle.page_trees.proofs.LinkLemmas.{add_linked, cut_linked, linked_same, turn_linked, IsAdded, IsCut, IsExchanged, IsTurned, AreTurned}

-- ---- an entry is replaced

pub set_before_some : (xs : List ℕ) (t v : ℕ) → 0 < t → set xs (t - 1) v ≡ set_before xs t v
set_before_some xs zero v lt = absurd (omega (arith, lt))
set_before_some xs (suc k) v lt = let e : suc k - 1 ≡ k = omega arith in ap (λ i. set xs i v) e

pub set_before_none : (xs : List ℕ) (t v : ℕ) → t ≤ 0 → xs ≡ set_before xs t v
set_before_none xs zero v le = refl
set_before_none xs (suc k) v le = absurd (omega (arith, le))

pub set_none : (z : ℕ) (xs : List ℕ) (i v : ℕ) → z ≡ 0 → set xs i v ≡ set_where_none z xs i v
set_none zero xs i v e = refl
set_none (suc k) xs i v e = absurd (omega (arith, e))

pub set_some : (z : ℕ) (xs : List ℕ) (i v : ℕ) → (z ≡ 0 → ⊥) → xs ≡ set_where_none z xs i v
set_some zero xs i v ne = absurd (ne refl)
set_some (suc k) xs i v ne = refl

at_before : (xs : List ℕ) (t v k : ℕ) → t ≡ suc k → k < length xs → get_or (set_before xs t v) k 0 ≡ v
at_before xs zero v k e lt = absurd (omega (arith, e))
at_before xs (suc i) v k e lt = get_or-set_at xs i k v 0 (omega (arith, e)) (omega (arith, e, lt))

off_before : (xs : List ℕ) (t v k : ℕ) → (t ≡ suc k → ⊥) → get_or (set_before xs t v) k 0 ≡ get_or xs k 0
off_before xs zero v k ne = refl
off_before xs (suc i) v k ne = get_or-set_other xs i k v 0 (λ e. ne (ap suc (sym e)))

length_before : (xs : List ℕ) (t v : ℕ) → length (set_before xs t v) ≡ length xs
length_before xs zero v = refl
length_before xs (suc i) v = length-set xs i v

at_none : (z : ℕ) (xs : List ℕ) (i v k : ℕ) → z ≡ 0 → k ≡ i → i < length xs → get_or (set_where_none z xs i v) k 0 ≡ v
at_none zero xs i v k e q lt = get_or-set_at xs i k v 0 q lt
at_none (suc z) xs i v k e q lt = absurd (omega (arith, e))

off_none : (z : ℕ) (xs : List ℕ) (i v k : ℕ) → (k ≡ i → z ≡ 0 → ⊥) → get_or (set_where_none z xs i v) k 0 ≡ get_or xs k 0
off_none zero xs i v k ne = get_or-set_other xs i k v 0 (λ e. ne e refl)
off_none (suc z) xs i v k ne = refl

length_none : (z : ℕ) (xs : List ℕ) (i v : ℕ) → length (set_where_none z xs i v) ≡ length xs
length_none zero xs i v = length-set xs i v
length_none (suc z) xs i v = refl

-- a key that an element has is within the list of the last ones
within_tops : (xs : List ℕ) (i : ℕ) → 0 < get_or xs i 0 → i < length xs
within_tops xs i lt = elim (cases_lt i (length xs)) [ inl l ↦ l | inr le ↦ absurd (omega (arith, lt, get_or_past xs i 0 le)) ]

one_longer : (xs ys : List ℕ) (x y : ℕ) → length (xs ++ x ∷ []) ≡ length (ys ++ y ∷ []) → length xs ≡ length ys
one_longer xs ys x y e = omega (arith, e, length_push xs x, length_push ys y)

longer_both : (xs ys : List ℕ) (x y : ℕ) → length xs ≡ length ys → length (xs ++ x ∷ []) ≡ length (ys ++ y ∷ [])
longer_both xs ys x y e = omega (arith, e, length_push xs x, length_push ys y)

pub no_links : AreLinks [] [] [] []
no_links = record {
  same_long = refl;
  next_long = refl;
  linked = record {
    before = λ k lt. absurd (omega (arith, lt));
    after = λ j k lt e. absurd (omega (arith, lt));
    back = λ j k lt e. absurd (omega (arith, lt));
    last = λ key. record { within = omega arith; here = λ k e. absurd (omega (arith, e)); none = λ j le lt e. omega (arith, lt) };
  };
}

-- ---- the last element is taken off

module _ (keys same next tops : List ℕ) (key b c : ℕ) (old : AreLinks (keys ++ key ∷ []) (same ++ b ∷ []) (next ++ c ∷ []) tops) where
  old_linked : AreLinked (λ k. get_or (keys ++ key ∷ []) k 0) (suc (length keys)) (λ k. get_or (same ++ b ∷ []) k 0) (λ k. get_or (next ++ c ∷ []) k 0) (λ k. get_or tops k 0)
  old_linked =
      let e : length (keys ++ key ∷ []) ≡ suc (length keys) = omega (arith, length_push keys key) in
      subst (λ n. AreLinked (λ k. get_or (keys ++ key ∷ []) k 0) n (λ k. get_or (same ++ b ∷ []) k 0) (λ k. get_or (next ++ c ∷ []) k 0) (λ k. get_or tops k 0)) e old.linked

  old_key : get_or (keys ++ key ∷ []) (length keys) 0 ≡ key
  old_key = get_or_push keys key 0 (length keys) refl

  old_same : get_or (same ++ b ∷ []) (length keys) 0 ≡ b
  old_same = get_or_push same b 0 (length keys) (one_longer same keys b key old.same_long)

  old_top : key < length tops
  old_top = within_tops tops key (elim (cases_lt 0 (get_or tops key 0)) [
    | inl lt ↦ lt
    | inr le ↦ absurd ((old_linked.last key).none (length keys) (omega (arith, le)) (omega arith) old_key)
  ])

  is_cut : IsCut (λ k. get_or (keys ++ key ∷ []) k 0) (length keys) (λ k. get_or (same ++ b ∷ []) k 0) (λ k. get_or (next ++ c ∷ []) k 0) (λ k. get_or tops k 0)
      (λ k. get_or same k 0) (λ k. get_or (set_before next b 0) k 0) (λ k. get_or (set tops key b) k 0)
  is_cut =
      let es : length same ≡ length keys = one_longer same keys b key old.same_long in
      let en : length next ≡ length keys = one_longer next keys c key old.next_long in
      record {
        same = λ k lt. sym (get_or_append_left same (b ∷ []) 0 k (omega (arith, lt, es)));
        freed = λ j lt e. at_before next b 0 j (sym old_same ∙ e) (omega (arith, lt, en));
        kept = λ j lt ne. off_before next b 0 j (λ e. ne (old_same ∙ e)) ∙ sym (get_or_append_left next (c ∷ []) 0 j (omega (arith, lt, en)));
        top = get_or-set_at tops key (get_or (keys ++ key ∷ []) (length keys) 0) b 0 old_key old_top ∙ sym old_same;
        tops = λ k ne. get_or-set_other tops key k b 0 (λ e. ne (e ∙ sym old_key));
      }

  pub cut_links : AreLinks keys same (set_before next b 0) (set tops key b)
  cut_links = record {
    same_long = one_longer same keys b key old.same_long;
    next_long = length_before next b 0 ∙ one_longer next keys c key old.next_long;
    linked = linked_same (λ k. get_or (keys ++ key ∷ []) k 0) (λ k. get_or keys k 0) (length keys) (λ k. get_or same k 0) (λ k. get_or (set_before next b 0) k 0) (λ k. get_or (set tops key b) k 0)
        (λ j lt. get_or_append_left keys (key ∷ []) 0 j lt)
        (cut_linked (λ k. get_or (keys ++ key ∷ []) k 0) (length keys) (λ k. get_or (same ++ b ∷ []) k 0) (λ k. get_or (next ++ c ∷ []) k 0) (λ k. get_or tops k 0)
        (λ k. get_or same k 0) (λ k. get_or (set_before next b 0) k 0) (λ k. get_or (set tops key b) k 0) old_linked is_cut);
  }

-- ---- an element is added

module _ (keys same next tops : List ℕ) (key p : ℕ) (lt : key < length tops) (ep : p ≡ length same + 1) (old : AreLinks keys same next tops) where
  before_added : AreLinked (λ k. get_or (keys ++ key ∷ []) k 0) (length keys) (λ k. get_or same k 0) (λ k. get_or next k 0) (λ k. get_or tops k 0)
  before_added = linked_same (λ k. get_or keys k 0) (λ k. get_or (keys ++ key ∷ []) k 0) (length keys) (λ k. get_or same k 0) (λ k. get_or next k 0) (λ k. get_or tops k 0)
      (λ j l. sym (get_or_append_left keys (key ∷ []) 0 j l)) old.linked

  new_key : get_or (keys ++ key ∷ []) (length keys) 0 ≡ key
  new_key = get_or_push keys key 0 (length keys) refl

  is_added : IsAdded (λ k. get_or (keys ++ key ∷ []) k 0) (length keys) (λ k. get_or same k 0) (λ k. get_or next k 0) (λ k. get_or tops k 0)
      (λ k. get_or (same ++ get_or tops key 0 ∷ []) k 0) (λ k. get_or (set_before (next ++ 0 ∷ []) (get_or tops key 0) p) k 0) (λ k. get_or (set tops key p) k 0)
  is_added =
      let es : length same ≡ length keys = old.same_long in
      let en : length next ≡ length keys = old.next_long in
      let e : get_or tops (get_or (keys ++ key ∷ []) (length keys) 0) 0 ≡ get_or tops key 0 = ap (λ k. get_or tops k 0) new_key in
      let eq : p ≡ suc (length keys) = omega (arith, ep, es) in
      record {
        same = λ k l. get_or_append_left same (get_or tops key 0 ∷ []) 0 k (omega (arith, l, es));
        own = get_or_push same (get_or tops key 0) 0 (length keys) es ∙ sym e;
        led = λ j l f. at_before (next ++ 0 ∷ []) (get_or tops key 0) p j (sym e ∙ f) (omega (arith, l, en, length_push next 0)) ∙ eq;
        kept = λ j l ne. off_before (next ++ 0 ∷ []) (get_or tops key 0) p j (λ f. ne (e ∙ f)) ∙ get_or_append_left next (0 ∷ []) 0 j (omega (arith, l, en));
        end = off_before (next ++ 0 ∷ []) (get_or tops key 0) p (length keys) (λ f. omega (arith, f, (old.linked.last key).within)) ∙ get_or_push next 0 0 (length keys) en;
        top = get_or-set_at tops key (get_or (keys ++ key ∷ []) (length keys) 0) p 0 new_key lt ∙ eq;
        tops = λ k ne. get_or-set_other tops key k p 0 (λ f. ne (f ∙ sym new_key));
      }

  pub add_links : AreLinks (keys ++ key ∷ []) (same ++ get_or tops key 0 ∷ []) (set_before (next ++ 0 ∷ []) (get_or tops key 0) p) (set tops key p)
  add_links =
      let eq : suc (length keys) ≡ length (keys ++ key ∷ []) = omega (arith, length_push keys key) in
      record {
        same_long = longer_both same keys (get_or tops key 0) key old.same_long;
        next_long = length_before (next ++ 0 ∷ []) (get_or tops key 0) p ∙ longer_both next keys 0 key old.next_long;
        linked = subst (λ n. AreLinked (λ k. get_or (keys ++ key ∷ []) k 0) n (λ k. get_or (same ++ get_or tops key 0 ∷ []) k 0) (λ k. get_or (set_before (next ++ 0 ∷ []) (get_or tops key 0) p) k 0) (λ k. get_or (set tops key p) k 0)) eq
            (add_linked (λ k. get_or (keys ++ key ∷ []) k 0) (length keys) (λ k. get_or same k 0) (λ k. get_or next k 0) (λ k. get_or tops k 0)
            (λ k. get_or (same ++ get_or tops key 0 ∷ []) k 0) (λ k. get_or (set_before (next ++ 0 ∷ []) (get_or tops key 0) p) k 0) (λ k. get_or (set tops key p) k 0) before_added is_added);
      }

-- ---- two neighbours change places

module _ (list : List ℕ) (B : ℕ → ℕ) (n p : ℕ) (long : length list ≡ n) (lp : suc p < n) (l0 : B p ≡ suc p → ⊥) (l1 : B p ≡ suc (suc p) → ⊥)
    (u0 : B (suc p) ≡ suc p → ⊥) (u1 : B (suc p) ≡ suc (suc p) → ⊥) (apart : (k : ℕ) → B p ≡ suc k → B (suc p) ≡ suc k → ⊥) where
  abbrev turned : List ℕ
  turned = set_before (set_before (set_before (set_before list (suc (suc p)) (get_or list p 0)) (B p) (suc (suc p))) (suc p) (get_or list (suc p) 0)) (B (suc p)) (suc p)

  long1 : length (set_before list (suc (suc p)) (get_or list p 0)) ≡ n
  long1 = length_before list (suc (suc p)) (get_or list p 0) ∙ long

  long2 : length (set_before (set_before list (suc (suc p)) (get_or list p 0)) (B p) (suc (suc p))) ≡ n
  long2 = length_before (set_before list (suc (suc p)) (get_or list p 0)) (B p) (suc (suc p)) ∙ long1

  long3 : length (set_before (set_before (set_before list (suc (suc p)) (get_or list p 0)) (B p) (suc (suc p))) (suc p) (get_or list (suc p) 0)) ≡ n
  long3 = length_before (set_before (set_before list (suc (suc p)) (get_or list p 0)) (B p) (suc (suc p))) (suc p) (get_or list (suc p) 0) ∙ long2

  pub turned_long : length (set_before (set_before (set_before (set_before list (suc (suc p)) (get_or list p 0)) (B p) (suc (suc p))) (suc p) (get_or list (suc p) 0)) (B (suc p)) (suc p)) ≡ n
  turned_long = length_before (set_before (set_before (set_before list (suc (suc p)) (get_or list p 0)) (B p) (suc (suc p))) (suc p) (get_or list (suc p) 0)) (B (suc p)) (suc p) ∙ long3

  off4 : (k : ℕ) → (B (suc p) ≡ suc k → ⊥) → get_or turned k 0 ≡ get_or (set_before (set_before (set_before list (suc (suc p)) (get_or list p 0)) (B p) (suc (suc p))) (suc p) (get_or list (suc p) 0)) k 0
  off4 k ne = off_before (set_before (set_before (set_before list (suc (suc p)) (get_or list p 0)) (B p) (suc (suc p))) (suc p) (get_or list (suc p) 0)) (B (suc p)) (suc p) k ne

  off3 : (k : ℕ) → (k ≡ p → ⊥) → get_or (set_before (set_before (set_before list (suc (suc p)) (get_or list p 0)) (B p) (suc (suc p))) (suc p) (get_or list (suc p) 0)) k 0
      ≡ get_or (set_before (set_before list (suc (suc p)) (get_or list p 0)) (B p) (suc (suc p))) k 0
  off3 k ne = off_before (set_before (set_before list (suc (suc p)) (get_or list p 0)) (B p) (suc (suc p))) (suc p) (get_or list (suc p) 0) k (λ e. ne (omega (arith, e)))

  off2 : (k : ℕ) → (B p ≡ suc k → ⊥) → get_or (set_before (set_before list (suc (suc p)) (get_or list p 0)) (B p) (suc (suc p))) k 0 ≡ get_or (set_before list (suc (suc p)) (get_or list p 0)) k 0
  off2 k ne = off_before (set_before list (suc (suc p)) (get_or list p 0)) (B p) (suc (suc p)) k ne

  pub is_turned : IsTurned n p (λ k. get_or list k 0) B
      (λ k. get_or (set_before (set_before (set_before (set_before list (suc (suc p)) (get_or list p 0)) (B p) (suc (suc p))) (suc p) (get_or list (suc p) 0)) (B (suc p)) (suc p)) k 0)
  is_turned = record {
    lower = off4 p u0 ∙ at_before (set_before (set_before list (suc (suc p)) (get_or list p 0)) (B p) (suc (suc p))) (suc p) (get_or list (suc p) 0) p refl (omega (arith, long2, lp));
    upper = off4 (suc p) u1 ∙ off3 (suc p) (λ e. omega (arith, e)) ∙ off2 (suc p) l1 ∙ at_before list (suc (suc p)) (get_or list p 0) (suc p) refl (omega (arith, long, lp));
    up = λ k lt e. off4 k (λ f. apart k e f) ∙ off3 k (λ f. l0 (e ∙ ap suc f)) ∙ at_before (set_before list (suc (suc p)) (get_or list p 0)) (B p) (suc (suc p)) k e (omega (arith, long1, lt));
    down = λ k lt e. at_before (set_before (set_before (set_before list (suc (suc p)) (get_or list p 0)) (B p) (suc (suc p))) (suc p) (get_or list (suc p) 0)) (B (suc p)) (suc p) k e (omega (arith, long3, lt));
    rest = λ k lt n0 n1 b0 b1. off4 k b1 ∙ off3 k n0 ∙ off2 k b0 ∙ off_before list (suc (suc p)) (get_or list p 0) k (λ e. n1 (omega (arith, e)));
  }

module _ (keys same next tops : List ℕ) (p lower upper : ℕ) (lp : suc p < length keys) (kl : get_or keys p 0 ≡ lower) (ku : get_or keys (suc p) 0 ≡ upper) (other : lower ≡ upper → ⊥)
    (old : AreLinks keys same next tops) where
  is_exchanged : IsExchanged (λ k. get_or keys k 0) (λ k. get_or (set (set keys p upper) (suc p) lower) k 0) p
  is_exchanged = record {
    lower = get_or-set_other (set keys p upper) (suc p) p lower 0 (λ e. omega (arith, e)) ∙ get_or-set_same keys p upper 0 (omega (arith, lp)) ∙ sym ku;
    upper = get_or-set_same (set keys p upper) (suc p) lower 0 (omega (arith, lp, length-set keys p upper)) ∙ sym kl;
    rest = λ j n0 n1. get_or-set_other (set keys p upper) (suc p) j lower 0 n1 ∙ get_or-set_other keys p j upper 0 n0;
  }

  keys_differ : get_or keys p 0 ≡ get_or keys (suc p) 0 → ⊥
  keys_differ e = other (sym kl ∙ e ∙ ku)

  low : p < length keys
  low = omega (arith, lp)

  below_key : (key q : ℕ) → q < length keys → get_or keys q 0 ≡ key → key < length tops
  below_key key q lt e = within_tops tops key (elim (cases_lt 0 (get_or tops key 0)) [ inl l ↦ l | inr le ↦ absurd ((old.linked.last key).none q (omega (arith, le)) lt e) ])

  same_turned : IsTurned (length keys) p (λ k. get_or same k 0) (λ k. get_or next k 0)
      (λ k. get_or (set_before (set_before (set_before (set_before same (suc (suc p)) (get_or same p 0)) (get_or next p 0) (suc (suc p))) (suc p) (get_or same (suc p) 0)) (get_or next (suc p) 0) (suc p)) k 0)
  same_turned = is_turned same (λ k. get_or next k 0) (length keys) p old.same_long lp
      (λ e. omega (arith, (old.linked.after p p low e).1, (old.linked.before p low).within))
      (λ e. keys_differ ((old.linked.before (suc p) lp).here p (old.linked.after p (suc p) low e).1))
      (λ e. omega (arith, (old.linked.after (suc p) p lp e).1, (old.linked.before p low).within))
      (λ e. omega (arith, (old.linked.after (suc p) (suc p) lp e).1, (old.linked.before (suc p) lp).within))
      (λ k e f. omega (arith, (old.linked.after p k low e).1, (old.linked.after (suc p) k lp f).1))

  next_turned : IsTurned (length keys) p (λ k. get_or next k 0) (λ k. get_or same k 0)
      (λ k. get_or (set_before (set_before (set_before (set_before next (suc (suc p)) (get_or next p 0)) (get_or same p 0) (suc (suc p))) (suc p) (get_or next (suc p) 0)) (get_or same (suc p) 0) (suc p)) k 0)
  next_turned = is_turned next (λ k. get_or same k 0) (length keys) p old.next_long lp
      (λ e. omega (arith, e, (old.linked.before p low).within))
      (λ e. omega (arith, e, (old.linked.before p low).within))
      (λ e. keys_differ ((old.linked.before (suc p) lp).here p e))
      (λ e. omega (arith, e, (old.linked.before (suc p) lp).within))
      (λ k e f. keys_differ (sym ((old.linked.before p low).here k e) ∙ (old.linked.before (suc p) lp).here k f))

  tops_turned : AreTurned (λ k. get_or keys k 0) p (λ k. get_or next k 0) (λ k. get_or tops k 0)
      (λ k. get_or (set_where_none (get_or next (suc p) 0) (set_where_none (get_or next p 0) tops lower (suc (suc p))) upper (suc p)) k 0)
  tops_turned = record {
    lower = λ z. off_none (get_or next (suc p) 0) (set_where_none (get_or next p 0) tops lower (suc (suc p))) upper (suc p) (get_or keys p 0) (λ e _. keys_differ (e ∙ sym ku))
        ∙ at_none (get_or next p 0) tops lower (suc (suc p)) (get_or keys p 0) z kl (below_key lower p low kl);
    upper = λ z. at_none (get_or next (suc p) 0) (set_where_none (get_or next p 0) tops lower (suc (suc p))) upper (suc p) (get_or keys (suc p) 0) z ku
        (omega (arith, length_none (get_or next p 0) tops lower (suc (suc p)), below_key upper (suc p) lp ku));
    rest = λ key n0 n1. off_none (get_or next (suc p) 0) (set_where_none (get_or next p 0) tops lower (suc (suc p))) upper (suc p) key (λ e z. n1 (e ∙ sym ku) z)
        ∙ off_none (get_or next p 0) tops lower (suc (suc p)) key (λ e z. n0 (e ∙ sym kl) z);
  }

  keys_long : length keys ≡ length (set (set keys p upper) (suc p) lower)
  keys_long = sym (length-set (set keys p upper) (suc p) lower ∙ length-set keys p upper)

  turn_links : AreLinks (set (set keys p upper) (suc p) lower)
      (set_before (set_before (set_before (set_before same (suc (suc p)) (get_or same p 0)) (get_or next p 0) (suc (suc p))) (suc p) (get_or same (suc p) 0)) (get_or next (suc p) 0) (suc p))
      (set_before (set_before (set_before (set_before next (suc (suc p)) (get_or next p 0)) (get_or same p 0) (suc (suc p))) (suc p) (get_or next (suc p) 0)) (get_or same (suc p) 0) (suc p))
      (set_where_none (get_or next (suc p) 0) (set_where_none (get_or next p 0) tops lower (suc (suc p))) upper (suc p))
  turn_links = record {
    same_long = length_before (set_before (set_before (set_before same (suc (suc p)) (get_or same p 0)) (get_or next p 0) (suc (suc p))) (suc p) (get_or same (suc p) 0)) (get_or next (suc p) 0) (suc p)
        ∙ length_before (set_before (set_before same (suc (suc p)) (get_or same p 0)) (get_or next p 0) (suc (suc p))) (suc p) (get_or same (suc p) 0)
        ∙ length_before (set_before same (suc (suc p)) (get_or same p 0)) (get_or next p 0) (suc (suc p)) ∙ length_before same (suc (suc p)) (get_or same p 0) ∙ old.same_long ∙ keys_long;
    next_long = length_before (set_before (set_before (set_before next (suc (suc p)) (get_or next p 0)) (get_or same p 0) (suc (suc p))) (suc p) (get_or next (suc p) 0)) (get_or same (suc p) 0) (suc p)
        ∙ length_before (set_before (set_before next (suc (suc p)) (get_or next p 0)) (get_or same p 0) (suc (suc p))) (suc p) (get_or next (suc p) 0)
        ∙ length_before (set_before next (suc (suc p)) (get_or next p 0)) (get_or same p 0) (suc (suc p)) ∙ length_before next (suc (suc p)) (get_or next p 0) ∙ old.next_long ∙ keys_long;
    linked = subst (λ n. AreLinked (λ k. get_or (set (set keys p upper) (suc p) lower) k 0) n
        (λ k. get_or (set_before (set_before (set_before (set_before same (suc (suc p)) (get_or same p 0)) (get_or next p 0) (suc (suc p))) (suc p) (get_or same (suc p) 0)) (get_or next (suc p) 0) (suc p)) k 0)
        (λ k. get_or (set_before (set_before (set_before (set_before next (suc (suc p)) (get_or next p 0)) (get_or same p 0) (suc (suc p))) (suc p) (get_or next (suc p) 0)) (get_or same (suc p) 0) (suc p)) k 0)
        (λ k. get_or (set_where_none (get_or next (suc p) 0) (set_where_none (get_or next p 0) tops lower (suc (suc p))) upper (suc p)) k 0)) keys_long
        (turn_linked (λ k. get_or keys k 0) (λ k. get_or (set (set keys p upper) (suc p) lower) k 0) (length keys) (λ k. get_or same k 0) (λ k. get_or next k 0) (λ k. get_or tops k 0)
        (λ k. get_or (set_before (set_before (set_before (set_before same (suc (suc p)) (get_or same p 0)) (get_or next p 0) (suc (suc p))) (suc p) (get_or same (suc p) 0)) (get_or next (suc p) 0) (suc p)) k 0)
        (λ k. get_or (set_before (set_before (set_before (set_before next (suc (suc p)) (get_or next p 0)) (get_or same p 0) (suc (suc p))) (suc p) (get_or next (suc p) 0)) (get_or same (suc p) 0) (suc p)) k 0)
        (λ k. get_or (set_where_none (get_or next (suc p) 0) (set_where_none (get_or next p 0) tops lower (suc (suc p))) upper (suc p)) k 0)
        p lp keys_differ old.linked is_exchanged same_turned next_turned tops_turned);
  }

-- ---- as the code has it

-- neighbours with one key
pub keys_alike : (keys : List ℕ) (p lower upper : ℕ) → get_or keys p 0 ≡ lower → get_or keys (p + 1) 0 ≡ upper → lower ≡ upper → keys ≡ set (set keys p upper) (p + 1) lower
keys_alike keys p lower upper kl ku e =
    let first : set keys p upper ≡ keys = ap (λ x. set keys p x) (sym e ∙ sym kl) ∙ set-get_or keys p 0 in
    sym (ap (λ xs. set xs (p + 1) lower) first ∙ ap (λ x. set keys (p + 1) x) (e ∙ sym ku) ∙ set-get_or keys (p + 1) 0)

pub exchange_links : (keys same next tops same1 next1 tops1 same2 next2 tops2 : List ℕ) (p lower upper above sl nl su nu : ℕ) → p + 1 < length keys → above ≡ p + 1 →
    get_or keys p 0 ≡ lower → get_or keys (p + 1) 0 ≡ upper → (lower ≡ upper → ⊥) →
    sl ≡ get_or same p 0 → nl ≡ get_or next p 0 → su ≡ get_or same above 0 → nu ≡ get_or next above 0 →
    same1 ≡ set_before (set_before same (above + 1) sl) nl (above + 1) → next1 ≡ set_before (set_before next (above + 1) nl) sl (above + 1) → tops1 ≡ set_where_none nl tops lower (above + 1) →
    same2 ≡ set_before (set_before same1 above su) nu above → next2 ≡ set_before (set_before next1 above nu) su above → tops2 ≡ set_where_none nu tops1 upper above →
    AreLinks keys same next tops → AreLinks (set (set keys p upper) (p + 1) lower) same2 next2 tops2
exchange_links keys same next tops same1 next1 tops1 same2 next2 tops2 p lower upper above sl nl su nu lp ea kl ku other esl enl esu enu es1 en1 et1 es2 en2 et2 old =
    let one : p + 1 ≡ suc p = omega arith in
    let ab : above ≡ suc p = omega (arith, ea) in
    let ab1 : above + 1 ≡ suc (suc p) = omega (arith, ea) in
    let esu' : su ≡ get_or same (suc p) 0 = esu ∙ ap (λ i. get_or same i 0) ab in
    let enu' : nu ≡ get_or next (suc p) 0 = enu ∙ ap (λ i. get_or next i 0) ab in
    let it = turn_links keys same next tops p lower upper (omega (arith, lp)) kl (sym (ap (λ i. get_or keys i 0) one) ∙ ku) other old in
    let ds : same2 ≡ set_before (set_before (set_before (set_before same (suc (suc p)) (get_or same p 0)) (get_or next p 0) (suc (suc p))) (suc p) (get_or same (suc p) 0)) (get_or next (suc p) 0) (suc p) = cc in
    let dn : next2 ≡ set_before (set_before (set_before (set_before next (suc (suc p)) (get_or next p 0)) (get_or same p 0) (suc (suc p))) (suc p) (get_or next (suc p) 0)) (get_or same (suc p) 0) (suc p) = cc in
    let dt : tops2 ≡ set_where_none (get_or next (suc p) 0) (set_where_none (get_or next p 0) tops lower (suc (suc p))) upper (suc p) = cc in
    subst (λ xs. AreLinks xs same2 next2 tops2) (ap (λ i. set (set keys p upper) i lower) (sym one))
    (subst (λ xs. AreLinks (set (set keys p upper) (suc p) lower) xs next2 tops2) (sym ds)
    (subst (λ xs. AreLinks (set (set keys p upper) (suc p) lower) (set_before (set_before (set_before (set_before same (suc (suc p)) (get_or same p 0)) (get_or next p 0) (suc (suc p))) (suc p) (get_or same (suc p) 0)) (get_or next (suc p) 0) (suc p)) xs tops2) (sym dn)
    (subst (λ xs. AreLinks (set (set keys p upper) (suc p) lower) (set_before (set_before (set_before (set_before same (suc (suc p)) (get_or same p 0)) (get_or next p 0) (suc (suc p))) (suc p) (get_or same (suc p) 0)) (get_or next (suc p) 0) (suc p))
    (set_before (set_before (set_before (set_before next (suc (suc p)) (get_or next p 0)) (get_or same p 0) (suc (suc p))) (suc p) (get_or next (suc p) 0)) (get_or same (suc p) 0) (suc p)) xs) (sym dt) it)))

-- more room for keys that no element has
pub room_links : (keys same next tops tops' : List ℕ) → ((key : ℕ) → get_or tops' key 0 ≡ get_or tops key 0) → AreLinks keys same next tops → AreLinks keys same next tops'
room_links keys same next tops tops' e old = record {
  same_long = old.same_long;
  next_long = old.next_long;
  linked = record {
    before = old.linked.before;
    after = old.linked.after;
    back = old.linked.back;
    last = λ key. subst (λ t. IsLast (λ j. get_or keys j 0 ≡ key) (length keys) t) (sym (e key)) (old.linked.last key);
  };
}

pub zero_more : (xs : List ℕ) (k : ℕ) → get_or (xs ++ 0 ∷ []) k 0 ≡ get_or xs k 0
zero_more xs k = elim (cases_lt k (length xs)) [
  | inl lt ↦ get_or_append_left xs (0 ∷ []) 0 k lt
  | inr le ↦ elim (cases_eq k (length xs)) [
    | inl e ↦ get_or_push xs 0 0 k (sym e) ∙ sym (get_or_past xs k 0 le)
    | inr ne ↦ get_or_past (xs ++ 0 ∷ []) k 0 (omega (arith, length_push xs 0, le, ne)) ∙ sym (get_or_past xs k 0 le)
  ]
]

-- the last element is popped off three lists
pub pop_links : (keys same0 same next0 next2 next tops0 tops : List ℕ) (key b : ℕ) (r : Option ℕ) → same0 ≡ same ++ b ∷ [] → next0 ≡ next ++ option_to_list r → IfNone r (next0 ≡ []) →
    next2 ≡ set_before next b 0 → tops ≡ set tops0 key b → AreLinks (keys ++ key ∷ []) same0 next0 tops0 → AreLinks keys same next2 tops
pop_links keys same0 same next0 next2 next tops0 tops key b None es en none e2 et old = absurd (omega (arith, ap length none, old.next_long, length_push keys key))
pop_links keys same0 same next0 next2 next tops0 tops key b (Some c) es en none e2 et old =
    let old1 : AreLinks (keys ++ key ∷ []) (same ++ b ∷ []) next0 tops0 = subst (λ xs. AreLinks (keys ++ key ∷ []) xs next0 tops0) es old in
    let old2 : AreLinks (keys ++ key ∷ []) (same ++ b ∷ []) (next ++ c ∷ []) tops0 = subst (λ xs. AreLinks (keys ++ key ∷ []) (same ++ b ∷ []) xs tops0) en old1 in
    subst (λ xs. AreLinks keys same next2 xs) (sym et) (subst (λ xs. AreLinks keys same xs (set tops0 key b)) (sym e2) (cut_links keys same next tops0 key b c old2))

pub push_links : (keys same same' next next1 next' tops tops' : List ℕ) (key b p : ℕ) → key < length tops → b ≡ get_or tops key 0 → p ≡ length same' → same' ≡ same ++ b ∷ [] → next1 ≡ next ++ 0 ∷ [] →
    next' ≡ set_before next1 b p → tops' ≡ set tops key p → AreLinks keys same next tops → AreLinks (keys ++ key ∷ []) same' next' tops'
push_links keys same same' next next1 next' tops tops' key b p lt eb ep es en1 en et old =
    let long : p ≡ length same + 1 = ep ∙ ap length es ∙ length_push same b in
    let it = add_links keys same next tops key p lt long old in
    let ds : same ++ get_or tops key 0 ∷ [] ≡ same' = cc in
    let dn : set_before (next ++ 0 ∷ []) (get_or tops key 0) p ≡ next' = cc in
    subst (λ xs. AreLinks (keys ++ key ∷ []) same' next' xs) (sym et)
    (subst (λ xs. AreLinks (keys ++ key ∷ []) same' xs (set tops key p)) dn
    (subst (λ xs. AreLinks (keys ++ key ∷ []) xs (set_before (next ++ 0 ∷ []) (get_or tops key 0) p) (set tops key p)) ds it))

-- the same, of equal lists
pub same_links : (keys same same' next next' tops tops' : List ℕ) → same' ≡ same → next' ≡ next → ((key : ℕ) → get_or tops' key 0 ≡ get_or tops key 0) → AreLinks keys same next tops → AreLinks keys same' next' tops'
same_links keys same same' next next' tops tops' es en et old =
    subst (λ xs. AreLinks keys xs next' tops') (sym es) (subst (λ xs. AreLinks keys same xs tops') (sym en) (room_links keys same next tops tops' et old))
