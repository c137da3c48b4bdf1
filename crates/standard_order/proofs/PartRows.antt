-- In the modes of tables, "clear the stack back", parts that are opened there, and parts that are popped.
use Rattle.std.specs.Prelude.{◌≡◌, ◌||◌, refl, ℕ, Bool, true, false, List, [], ◌∷◌, drop}
use mathlib.Core.Path.{◌∙◌, sym, ap, subst}
use Rattle.standard_trees.specs.NameLists.{table_body_context, table_context, table_row_context}
use Rattle.standard_trees.specs.RuleWords.{InRow, InTable, InTableBody}
use Rattle.standard_trees.specs.GrowingTree.{GrowingTree, popped_up_to, with_stack}
use Rattle.standard_order.proofs.StandingStacks.{both, never}
use Rattle.standard_order.proofs.NodeTags.{CaptionC, CellC, Cls, GroupC, PlainC, RowC}
use Rattle.standard_order.proofs.NodeTops.{is_root}
use Rattle.standard_order.proofs.Chains.{Site, chain, context, counted_on, first, is_group, is_plain, is_row, is_table, is_template, on, templates_in}
use Rattle.standard_order.proofs.PartTrees.{In, cls}
use Rattle.standard_order.proofs.PartTables.{InAt, class_has, in_popped_inner, in_up_to, is_opened, tail}
use Rattle.standard_order.proofs.PartScopes.{home, is_tabular, tabular_deep}

-- ---- "clear the stack back"

pub in_table_context : (r : ℕ) (c : Site) (t : GrowingTree) → home InTable c.inner ≡ true → In r c t → InAt r c (popped_up_to table_context t)
in_table_context r c t h i =
    in_up_to r c t table_context (record { all = refl; svg = λ name. refl; math = λ name. refl; none = refl })
    (class_has (λ d. is_table d || is_template d) table_context refl refl t c.inner h) i

pub in_body_context : (r : ℕ) (c : Site) (t : GrowingTree) → home InTableBody c.inner ≡ true → In r c t → InAt r c (popped_up_to table_body_context t)
in_body_context r c t h i =
    in_up_to r c t table_body_context (record { all = refl; svg = λ name. refl; math = λ name. refl; none = refl })
    (class_has (λ d. is_group d || is_template d) table_body_context refl refl t c.inner h) i

pub in_row_context : (r : ℕ) (c : Site) (t : GrowingTree) → home InRow c.inner ≡ true → In r c t → InAt r c (popped_up_to table_row_context t)
in_row_context r c t h i =
    in_up_to r c t table_row_context (record { all = refl; svg = λ name. refl; math = λ name. refl; none = refl })
    (class_has (λ d. is_row d || is_template d) table_row_context refl refl t c.inner h) i

-- ---- a part that is popped

-- a part of a table that stands on no ordinary element
abbrev pub is_bound : Cls → Bool
is_bound GroupC = true
is_bound RowC = true
is_bound CellC = true
is_bound CaptionC = true
is_bound _ = false

pub bound_odd : (c d : Cls) → is_bound c ≡ true → on c d ≡ true → is_plain d ≡ false
bound_odd c PlainC b o = none c b o
  where
    none : (c : Cls) → is_bound c ≡ true → on c PlainC ≡ true → is_plain PlainC ≡ false
    none GroupC x y = never y
    none RowC x y = never y
    none CellC x y = never y
    none CaptionC x y = never y
    none _ x y = never x
bound_odd c _ b o = refl

bound_tabular : (c : Cls) → is_bound c ≡ true → is_tabular c ≡ true
bound_tabular GroupC h = refl
bound_tabular RowC h = refl
bound_tabular CellC h = refl
bound_tabular CaptionC h = refl
bound_tabular _ h = never h

bound_opened : (c : Cls) → is_bound c ≡ true → is_opened c ≡ true
bound_opened GroupC h = refl
bound_opened RowC h = refl
bound_opened CellC h = refl
bound_opened CaptionC h = refl
bound_opened _ h = never h

bound_root : (c : Cls) → is_bound c ≡ true → is_root c ≡ true → ⊥
bound_root GroupC h k = never k
bound_root RowC h k = never k
bound_root CellC h k = never k
bound_root CaptionC h k = never k
bound_root _ h k = never h

on_tail : (c : Cls) (cs : List Cls) → is_bound c ≡ true → first cs ≡ c → chain cs ≡ true → on c (first (tail cs)) ≡ true
on_tail c [] b e h = never h
on_tail c (x ∷ []) b e h = absurd (bound_root c b (subst (λ d. is_root d ≡ true) e h))
on_tail c (x ∷ y ∷ ys) b e h = subst (λ d. on d y ≡ true) e (both (on x y) (chain (y ∷ ys)) h).0

pub context_first : (cs : List Cls) → is_plain (first cs) ≡ false → context cs ≡ first cs
context_first [] h = refl
context_first (c ∷ cs) h = ap (λ x. elim x as (λ _. Cls) [ true ↦ context cs | false ↦ c ]) h

bound_few : (c : Cls) (n : ℕ) → is_bound c ≡ true → counted_on c n ≡ n
bound_few GroupC n h = refl
bound_few RowC n h = refl
bound_few CellC n h = refl
bound_few CaptionC n h = refl
bound_few _ n h = never h

tail_few : (c : Cls) (cs : List Cls) → is_bound c ≡ true → first cs ≡ c → templates_in (tail cs) ≡ templates_in cs
tail_few c [] b e = refl
tail_few c (x ∷ xs) b e = sym (ap (λ d. counted_on d (templates_in xs)) e ∙ bound_few c (templates_in xs) b)

-- what the current node stands on is the innermost element then
pub part_popped : (r : ℕ) (c : Site) (t : GrowingTree) → is_bound c.inner ≡ true → InAt r c t →
    (d : Cls) × (on c.inner d ≡ true) × In r (record { inner = d; templates = c.templates }) (with_stack t (drop 1 t.stack))
part_popped r c t b at = (
  first (tail (cls t)),
  stands,
  subst (λ d. In r (record { inner = d; templates = c.templates }) (with_stack t (drop 1 t.stack)))
      (context_first (tail (cls t)) (bound_odd c.inner (first (tail (cls t))) b stands))
      (subst (λ k. In r (record { inner = context (tail (cls t)); templates = k }) (with_stack t (drop 1 t.stack))) (tail_few c.inner (cls t) b at.top_ ∙ at.now.few)
      (in_popped_inner r c t at (bound_opened c.inner b) (tabular_deep c.inner (first (tail (cls t))) (bound_tabular c.inner b) stands))),
)
  where
    stands : on c.inner (first (tail (cls t))) ≡ true
    stands = on_tail c.inner (cls t) b at.top_ at.now.chained
