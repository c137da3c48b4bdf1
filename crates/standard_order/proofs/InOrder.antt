-- Where a turn may begin, the outermost open element is `html`, and in "after head" the head element is not open.
use Rattle.std.specs.Prelude.{◌≡◌, ◌||◌, refl, ℕ, Bool, true, false, not, ◌&&◌, List, [], ◌∷◌, Option, None, Some, nat_eq}
use Rattle.std.proofs.Common.{inl, inr}
use Rattle.std.specs.List.{list_any}
use Rattle.std.specs.Option.{option_map_or}
use mathlib.Core.Path.{sym, ap, subst}
use Rattle.standard_trees.specs.RuleWords.{Mode}
use Rattle.standard_trees.specs.RuleWords.{Dispatcher, Initial, BeforeHtml, BeforeHead, InHead, InHeadNoscript, AfterHead, InBody, Text}
use Rattle.standard_trees.specs.RuleWords.{InTable, InTableText, InCaption, InColumnGroup, InTableBody, InRow, InCell, InTemplate}
use Rattle.standard_trees.specs.RuleWords.{AfterBody, InFrameset, AfterFrameset, AfterAfterBody, AfterAfterFrameset, ForeignContent}
use Rattle.standard_trees.specs.TreeStore.{is_member}
use Rattle.standard_trees.specs.GrowingTree.{topmost}
use Rattle.standard_trees.specs.Building.{Building}
use Rattle.standard_order.specs.Order.{has_html, head_is_closed, is_after_head, is_before_html, is_in_order}
use Rattle.standard_order.proofs.Labels.{Is as IsAt, Label, kind_at, labels, never_at}
use Rattle.standard_order.proofs.StandingStacks.{Closed, IsHead, IsRoot, Stands, allowed, head, html, never, same_number}
use Rattle.standard_order.proofs.GoodTrees.{IsHeadPointer}
use Rattle.standard_order.proofs.Levels.{Above, Head, Held, Loose, Nothing, Plain, Root, Shape, Std, own}
use Rattle.standard_order.proofs.LevelFacts.{Stk, TreeIs, Turn, TurnIs, never_empty}
use Rattle.standard_order.proofs.LevelTrees.{topmost_html}
use Rattle.standard_order.proofs.Carried.{closed_not_head, html_not_head}
use Rattle.standard_order.proofs.StandingStacks.{Inside}

-- ---- the outermost element

html_of_root : (ls : List Label) (s : List ℕ) → IsRoot ls s → IsAt html ls (topmost s)
html_of_root ls [] h = absurd h
html_of_root ls (r ∷ []) h = h
html_of_root ls (r ∷ m ∷ ns) h = absurd h

html_of_head : (ls : List Label) (s : List ℕ) → IsHead ls s → IsAt html ls (topmost s)
html_of_head ls [] h = absurd h
html_of_head ls (n ∷ []) h = absurd h.1
html_of_head ls (n ∷ r ∷ []) h = h.1
html_of_head ls (n ∷ r ∷ m ∷ ns) h = absurd h.1

-- the shapes of modes
html_of_own : (shape : Shape) (ls : List Label) (s : List ℕ) → Stk shape ls s → IsAt html ls (topmost s)
html_of_own Nothing ls s h = absurd h
html_of_own Root ls s h = html_of_root ls s h
html_of_own Head ls s h = html_of_head ls s h
html_of_own Loose ls s (inl h) = topmost_html Inside ls s h
html_of_own Loose ls s (inr h) = html_of_head ls s h
html_of_own (Std k claim) ls s h = topmost_html k ls s h.0
html_of_own (Held shape) ls [] h = absurd h
html_of_own (Held shape) ls (n ∷ []) h = absurd (never_empty shape ls h.1)
html_of_own (Held shape) ls (n ∷ m ∷ ns) h = html_of_own shape ls (m ∷ ns) h.1
html_of_own (Plain shape) ls [] h = absurd h
html_of_own (Plain shape) ls (n ∷ []) h = absurd (never_empty shape ls h.1)
html_of_own (Plain shape) ls (n ∷ m ∷ ns) h = html_of_own shape ls (m ∷ ns) h.1
html_of_own (Above shape) ls [] h = absurd h
html_of_own (Above shape) ls (n ∷ []) h = absurd (never_empty shape ls h)
html_of_own (Above shape) ls (n ∷ m ∷ ns) h = html_of_own shape ls (m ∷ ns) h

has_html_at : (b : Building) → IsAt html (labels b.tree.nodes) (topmost b.tree.stack) → has_html b ≡ true
has_html_at b at = kind_at html b.tree.nodes (topmost b.tree.stack) at

-- ---- the head element

other_node : (ls : List Label) (test : Label → Bool) (n m : ℕ) → ((l : Label) → test l ≡ true → head l ≡ true → ⊥) → IsAt head ls n →
    IsAt test ls m → nat_eq n m ≡ false
other_node ls test n m off h at = by (nat_eq n m) refl
  where
    by : (x : Bool) → nat_eq n m ≡ x → x ≡ false
    by true e = absurd (never_at test head off ls m at (subst (λ i. IsAt head ls i) (same_number n m e) h))
    by false e = refl

neither : (x y : Bool) → x ≡ false → y ≡ false → x || y ≡ false
neither true y e f = e
neither false y e f = f

no_head : (ls : List Label) (n : ℕ) → IsAt head ls n → (s : List ℕ) → Stands Closed ls s → list_any (nat_eq n) s ≡ false
no_head ls n h [] st = refl
no_head ls n h (m ∷ ms) (inl root) =
    neither (nat_eq n m) (list_any (nat_eq n) ms) (other_node ls html n m html_not_head h root.0)
    (subst (λ q. list_any (nat_eq n) q ≡ false) (sym root.1) refl)
no_head ls n h (m ∷ ms) (inr (inl a)) = never a.0
no_head ls n h (m ∷ ms) (inr (inr a)) =
    neither (nat_eq n m) (list_any (nat_eq n) ms) (other_node ls (allowed Closed) n m closed_not_head h a.0) (no_head ls n h ms a.1)

head_closed : (b : Building) → TreeIs (Std Closed false) b.tree → head_is_closed b ≡ true
head_closed b h = by b.tree.head h.1.head_is
  where
    by : (o : Option ℕ) → IsHeadPointer (labels b.tree.nodes) b.tree.context o → option_map_or (λ n. not (is_member n b.tree.stack)) o true ≡ true
    by None k = refl
    by (Some n) k = ap not (no_head (labels b.tree.nodes) n k b.tree.stack h.0.0)

-- ---- turns

both_so : (x y : Bool) → x ≡ true → y ≡ true → x && y ≡ true
both_so true y e f = f
both_so false y e f = e

pub turn_in_order : (b : Building) → Turn b → is_in_order b ≡ true
turn_in_order b turn = by b.mode turn.1
  where
    outer : (shape : Shape) → TreeIs shape b.tree → has_html b && true ≡ true
    outer shape h = ap (λ x. x && true) (has_html_at b (html_of_own shape (labels b.tree.nodes) b.tree.stack h.0))

    by : (m : Mode) → TurnIs m b → (is_before_html m || has_html b) && (not (is_after_head m) || head_is_closed b) ≡ true
    by Dispatcher h = absurd h.0
    by Initial h = refl
    by BeforeHtml h = refl
    by BeforeHead h = ap (λ x. x && true) (has_html_at b (html_of_root (labels b.tree.nodes) b.tree.stack h.0))
    by InHead h = outer (own InHead) h
    by InHeadNoscript h = outer (own InHeadNoscript) h
    by AfterHead h = both_so (has_html b) (head_is_closed b)
        (has_html_at b (html_of_own (Std Closed false) (labels b.tree.nodes) b.tree.stack h.0)) (head_closed b h)
    by InBody h = outer (own InBody) h
    by Text h = outer (Held (own b.original)) h
    by InTable h = outer (own InTable) h
    by InTableText h = outer (own b.original) h.0
    by InCaption h = outer (own InCaption) h
    by InColumnGroup h = outer (own InColumnGroup) h
    by InTableBody h = outer (own InTableBody) h
    by InRow h = outer (own InRow) h
    by InCell h = outer (own InCell) h
    by InTemplate h = outer (own InTemplate) h
    by AfterBody h = outer (own AfterBody) h
    by InFrameset h = outer (own InFrameset) h
    by AfterFrameset h = outer (own AfterFrameset) h
    by AfterAfterBody h = outer (own AfterAfterBody) h
    by AfterAfterFrameset h = outer (own AfterAfterFrameset) h
    by ForeignContent h = absurd h.0
