-- A block in a list without repetition: who stands beside whom with it, and without it.
use Rattle.std.proofs.Common.{ℕ, ◌≡◌, true, false, List, [], ◌∷◌, ◌++◌, Some, None, reverse, refl, sym, ap, ◌∙◌, cond, inl, inr, append_assoc}
use Rattle.std.specs.Prelude.{◌==◌, ◌||◌}
use Rattle.std.specs.Option.{option_or, is_none}
use Rattle.std.proofs.lemmas.List.{reverse-append, append-nil}
use Rattle.std.proofs.lemmas.Bool.{cases_Bool, true≢false, eq-eqb, or_right}
use Rattle.dom_links.specs.Lists.{is_member, IsDistinct, first, last, after, before, without, names}
use Rattle.dom_links.proofs.forest.Neighbours.{is_member-append, is_member-reverse, first-append, after-append, after-joined, distinct_parts, distinct-append, distinct-reverse, none_first, last-reverse, without-append}

-- the block's nodes are those that the list has and the others don't
pub is_member-block : (front block back : List ℕ) (n : ℕ) → is_member n (front ++ (block ++ back)) ≡ (is_member n block || is_member n (front ++ back))
is_member-block front block back n = rw (is_member-append front (block ++ back) n, is_member-append block back n, is_member-append front back n)
    (elim (is_member n block) as (λ t. (is_member n front || (t || is_member n back)) ≡ (t || (is_member n front || is_member n back))) [
      | true ↦ (elim (is_member n front) as (λ u. (u || true) ≡ true) [ true ↦ refl | false ↦ refl ])
      | false ↦ refl
    ])

-- two lists have no number in common
abbrev pub Apart : List ℕ → List ℕ → Type 0
Apart ns ms = (n : ℕ) → is_member n ns ≡ true → is_member n ms ≡ false

pub apart_back : (ns ms : List ℕ) → Apart ns ms → Apart ms ns
apart_back ns ms apart n s = elim (cases_Bool (is_member n ns)) [ inr f ↦ f | inl t ↦ absurd (true≢false (sym s ∙ apart n t)) ]

pub not_front : (front back : List ℕ) (n : ℕ) → is_member n (front ++ back) ≡ false → is_member n front ≡ false
not_front front back n h =
    (elim (is_member n front) as (λ t. (t || is_member n back) ≡ false → t ≡ false) [ true ↦ (λ e. e) | false ↦ (λ e. refl) ]) (sym (is_member-append front back n) ∙ h)

pub not_back : (front back : List ℕ) (n : ℕ) → is_member n (front ++ back) ≡ false → is_member n back ≡ false
not_back front back n h =
    (elim (is_member n front) as (λ t. (t || is_member n back) ≡ false → is_member n back ≡ false) [ true ↦ (λ e. cc) | false ↦ (λ e. e) ]) (sym (is_member-append front back n) ∙ h)

pub distinct-block : (front block back : List ℕ) → IsDistinct (front ++ back) → IsDistinct block → Apart block (front ++ back) → IsDistinct (front ++ (block ++ back))
distinct-block front block back d e apart =
    let parts = distinct_parts front back d in
    distinct-append front (block ++ back) parts.0
    (distinct-append block back e parts.1 (λ n s. not_back front back n (apart n s)))
    (λ n s. is_member-append block back n ∙
    (elim (cases_Bool (is_member n block)) [
      | inl t ↦ absurd (true≢false (sym s ∙ not_front front back n (apart n t)))
      | inr f ↦ rw (f, parts.2 n s) refl
    ]))

-- who follows a node of the block: the last one is followed by what comes behind the block
pub after-inside : (front block back : List ℕ) (n : ℕ) → IsDistinct block → is_member n front ≡ false → is_member n block ≡ true →
    after (front ++ (block ++ back)) n ≡ cond (names (last block) n) (first back) (after block n)
after-inside front block back n d f s = rw (after-append front (block ++ back) n, f, after-joined block back n d, s) refl

-- who follows another node: with the block, its first one is what the last before it is followed by
pub after-outside : (front block back : List ℕ) (x n : ℕ) → IsDistinct front → first block ≡ Some x → is_member n block ≡ false →
    after (front ++ (block ++ back)) n ≡ cond (names (last front) n) (Some x) (after (front ++ back) n)
after-outside front block back x n d e f =
    rw (after-joined front (block ++ back) n d, after-joined front back n d, first-append block back, e, after-append block back n, f)
    (elim (names (last front) n) as (λ t. cond t (Some x) (cond (is_member n front) (after front n) (after back n)) ≡ cond t (Some x) (cond t (first back) (cond (is_member n front) (after front n) (after back n))))
    [ true ↦ refl | false ↦ refl ])

-- and without the block
pub after-less : (front block back : List ℕ) (x n : ℕ) → IsDistinct front → first block ≡ Some x → is_member n block ≡ false →
    after (front ++ back) n ≡ cond (names (last front) n) (first back) (after (front ++ (block ++ back)) n)
after-less front block back x n d e f =
    rw (after-joined front (block ++ back) n d, after-joined front back n d, first-append block back, e, after-append block back n, f)
    (elim (names (last front) n) as (λ t. cond t (first back) (cond (is_member n front) (after front n) (after back n)) ≡ cond t (first back) (cond t (Some x) (cond (is_member n front) (after front n) (after back n))))
    [ true ↦ refl | false ↦ refl ])

pub reverse-block : (front block back : List ℕ) → reverse (front ++ (block ++ back)) ≡ reverse back ++ (reverse block ++ reverse front)
reverse-block front block back =
    reverse-append front (block ++ back) ∙ ap (λ ns. ns ++ reverse front) (reverse-append block back) ∙ append_assoc (reverse back) (reverse block) (reverse front)

pub before-inside : (front block back : List ℕ) (n : ℕ) → IsDistinct block → is_member n back ≡ false → is_member n block ≡ true →
    before (front ++ (block ++ back)) n ≡ cond (names (first block) n) (last front) (before block n)
before-inside front block back n d f s =
    rw (reverse-block front block back, ← last-reverse block)
    (after-inside (reverse back) (reverse block) (reverse front) n (distinct-reverse block d) (is_member-reverse back n ∙ f) (is_member-reverse block n ∙ s))

pub before-outside : (front block back : List ℕ) (y n : ℕ) → IsDistinct back → last block ≡ Some y → is_member n block ≡ false →
    before (front ++ (block ++ back)) n ≡ cond (names (first back) n) (Some y) (before (front ++ back) n)
before-outside front block back y n d e f =
    rw (reverse-block front block back, reverse-append front back, ← last-reverse back)
    (after-outside (reverse back) (reverse block) (reverse front) y n (distinct-reverse back d) e (is_member-reverse block n ∙ f))

-- the ends of a list with a block
pub first-block : (front block back : List ℕ) (x : ℕ) → first block ≡ Some x → first (front ++ (block ++ back)) ≡ cond (is_none (last front)) (Some x) (first (front ++ back))
first-block front block back x e = rw (none_first front, first-append front (block ++ back), first-append block back, first-append front back, e)
    (elim (first front) as (λ o. option_or o (Some x) ≡ cond (is_none o) (Some x) (option_or o (first back))) [ None ↦ refl | Some m ↦ refl ])

pub last-block : (front block back : List ℕ) (y : ℕ) → last block ≡ Some y → last (front ++ (block ++ back)) ≡ cond (is_none (first back)) (Some y) (last (front ++ back))
last-block front block back y e = rw (reverse-block front block back, reverse-append front back, ← last-reverse back) (first-block (reverse back) (reverse block) (reverse front) y e)

-- a list whose nodes all leave, and one of which none does
pub without_all : (moved ns : List ℕ) → ((n : ℕ) → is_member n ns ≡ true → is_member n moved ≡ true) → without moved ns ≡ []
without_all moved [] all = refl
without_all moved (n ∷ ns) all =
    let here : is_member n moved ≡ true = all n (rw (eq-eqb n n refl) refl) in
    rw here (without_all moved ns (λ m s. all m (or_right (n == m) (is_member m ns) s)))

pub without_none : (moved ns : List ℕ) → Apart ns moved → without moved ns ≡ ns
without_none moved [] none = refl
without_none moved (n ∷ ns) none =
    let here : is_member n moved ≡ false = none n (rw (eq-eqb n n refl) refl) in
    rw here (ap (λ ms. n ∷ ms) (without_none moved ns (λ m s. none m (or_right (n == m) (is_member m ns) s))))

pub without_end : (moved front : List ℕ) → Apart front moved → without moved (front ++ moved) ≡ front
without_end moved front apart =
    without-append moved front moved ∙ ap (λ ns. ns ++ without moved moved) (without_none moved front apart) ∙ ap (λ ns. front ++ ns) (without_all moved moved (λ n s. s)) ∙ append-nil front

-- the list up to its last nodes, of which x is the first
pub after-cut_end : (front moved : List ℕ) (x n : ℕ) → IsDistinct front → first moved ≡ Some x → is_member n moved ≡ false →
    after front n ≡ cond (names (last front) n) None (after (front ++ moved) n)
after-cut_end front moved x n d e f =
    ap (λ ns. after ns n) (sym (append-nil front)) ∙ after-less front moved [] x n d e f ∙ ap (λ ns. cond (names (last front) n) None (after (front ++ ns) n)) (append-nil moved)

pub after-end : (front moved : List ℕ) (n : ℕ) → is_member n front ≡ false → after (front ++ moved) n ≡ after moved n
after-end front moved n f = rw (after-append front moved n, f) refl

pub before-cut_end : (front moved : List ℕ) (n : ℕ) → is_member n moved ≡ false → before (front ++ moved) n ≡ before front n
before-cut_end front moved n f = ap (λ ns. after ns n) (reverse-append front moved) ∙ after-end (reverse moved) (reverse front) n (is_member-reverse moved n ∙ f)

pub before-end : (front moved : List ℕ) (x n : ℕ) → IsDistinct moved → first moved ≡ Some x → is_member n moved ≡ true →
    before moved n ≡ cond (x == n) None (before (front ++ moved) n)
before-end front moved x n d e s =
    let it : before (front ++ moved) n ≡ cond (names (first moved) n) (last front) (before moved n) =
    ap (λ ns. before (front ++ ns) n) (sym (append-nil moved)) ∙ before-inside front moved [] n d refl s in
    let start : before moved n ≡ cond (x == n) None (before moved n) =
    ap (λ ns. before ns n) (sym (append-nil moved)) ∙ before-inside [] moved [] n d refl s ∙ ap (λ o. cond (names o n) None (before moved n)) e in
    rw (it, e) ((elim (x == n) as (λ t. before moved n ≡ cond t None (before moved n) → before moved n ≡ cond t None (cond t (last front) (before moved n))) [ true ↦ (λ h. h) | false ↦ (λ h. h) ]) start)

pub first-cut_end : (front moved : List ℕ) → first front ≡ cond (is_none (last front)) None (first (front ++ moved))
first-cut_end front moved = rw (none_first front, first-append front moved)
    (elim (first front) as (λ o. o ≡ cond (is_none o) None (option_or o (first moved))) [ None ↦ refl | Some m ↦ refl ])
