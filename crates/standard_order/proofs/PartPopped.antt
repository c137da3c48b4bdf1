-- In the body, actions that pop elements, tell another mode, or take the body away leave what is computed for them.
use Rattle.std.specs.Prelude.{◌≡◌, ◌&&◌, ◌||◌, ◌⊎◌, refl, ℕ, zero, suc, Bool, true, false, not, List, [], ◌∷◌, Option, None, Some, codes, cond, drop, length, map, nat_eq}
use Rattle.std.proofs.Common.{inl, inr}
use Rattle.std.specs.List.{list_all, list_any}
use Rattle.std.specs.Option.{option_map_or}
use Rattle.std.proofs.lemmas.Option.{same_Some}
use mathlib.Core.Path.{◌∙◌, sym, ap, subst}
use Rattle.standard_tokens.specs.Tokens.{AChar, AComment, ADoctype, AStart, AnEnd, AnEof, Token}
use Rattle.standard_trees.specs.NameLists.{table_scope}
use Rattle.standard_trees.specs.RuleWords.{Action, AllImpliedEndTags, AnyOtherEndTag, CurrentNode, InScope, InTemplate, InsertElement, InsertMathmlElement, InsertNamed}
use Rattle.standard_trees.specs.RuleWords.{InsertSvgElement, Mode, Names, Own, Pop, PopTemplateMode, PopUntil, PopUntilOwnInAnyCase, PopUpTo, RemoveBody, ResetMode, ScopeKind}
use Rattle.standard_trees.specs.RuleWords.{Scope, ListItemScope, ButtonScope, SwitchTo, TableScope, Test, Text, These, is}
use Rattle.standard_trees.specs.TreeStore.{MathMl, Node, Svg, removed, without}
use Rattle.standard_trees.specs.GrowingTree.{GrowingTree, current, ends_scope, has_in_scope, in_scope, is_among, is_one, past, popped_until, second, topmost, with_stack}
use Rattle.standard_trees.specs.Building.{Building, body_removed, is_met, names_for, own_name, perform}
use Rattle.standard_order.proofs.StandingStacks.{both, cells, never, same_number}
use Rattle.standard_order.proofs.GoodTrees.{among_more}
use Rattle.standard_order.proofs.GoodEnds.{same_again}
use Rattle.standard_order.proofs.Levels.{End, EndBut, Foreign, Info, Level, Opened, Scoped, is_end_info, names_among, next_of, own_apart, own_within}
use Rattle.standard_order.proofs.LevelFacts.{At, Content}
use Rattle.standard_order.proofs.LevelTrees.{holds_of, own_apart_so, own_within_so}
use Rattle.standard_order.proofs.LevelSteps.{either_way}
use Rattle.standard_order.proofs.LevelNext.{after}
use Rattle.standard_order.proofs.NodeTags.{BodyC, CaptionC, CellC, Cls, HeadC, HtmlC, TableC, TemplateC, Tag, class_at, is_element, is_there, keeps_same, tags, tags_removed}
use Rattle.standard_order.proofs.NodeKids.{AllThere, all_without, counted, counted_without, kids, kids_removed}
use Rattle.standard_order.proofs.NodeTops.{Rooted, is_root, is_top, same_removed}
use Rattle.standard_order.proofs.TopSteps.{content_at}
use Rattle.standard_order.proofs.AdoptionTops.{is_not}
use Rattle.standard_order.proofs.PartKids.{Bodied, Emptied, Headed, Parts, fits, is_body, is_head, parts_in}
use Rattle.standard_order.proofs.Chains.{Site, at_most, chain, context, first, has_body, is_inner, is_plain, is_template, of, on}
use Rattle.standard_order.proofs.PartTrees.{In as InTree, Nodes, OneBody, bare_kept, bodies_same, cls, parts_for, unique_same}
use Rattle.standard_order.proofs.PartPlaces.{class_is_one}
use Rattle.standard_order.proofs.PartPops.{in_past, is_wide, one_any, scope_ends}
use Rattle.standard_order.proofs.PartAdoption.{OtherName}
use Rattle.standard_order.proofs.PartEnds.{in_other_end, in_own_popped, in_popped, plain_other}
use Rattle.standard_order.proofs.PartTables.{InAt, class_has, in_up_to, past_beyond}
use Rattle.standard_order.proofs.PartRows.{bound_odd, context_first, is_bound, part_popped}
use Rattle.standard_order.proofs.PartScopes.{Popped, ends_table, home, in_scoped_past, is_caption_class, is_cell_class, is_tabular, most_more, reset_home}
use Rattle.standard_order.proofs.PartSteps.{in_scope_more, names_more, names_plain, names_plain_so, odd_names, only_these, own_plain, plain_names}
use Rattle.standard_order.proofs.PartTemplates.{template_closed, template_ended}
use Rattle.standard_order.proofs.PartPhases.{Among, BodySecond, Ended, Ending, Few, Fits, Fitting, Inner, InnerAt, Innermost, Lent, NoPeak, Opening, Ordinary, Emptying, Peak, PeakIs}
use Rattle.standard_order.proofs.PartPhases.{Phase, PhaseAt, Range, RangeIs, Told, ToldAmong, Turning, Unknown, classes_in, inner_next, is_fitting, is_foreign_level}
use Rattle.standard_order.proofs.PartPhases.{is_low, is_opened_level, is_other_end, is_second, is_told, or_else, own_cells, part_of, plainly_until, pop_if_next, pop_next, scoped_until, some_if}
use Rattle.standard_order.proofs.PartPhases.{switched_next, tabular_until, these_are, under, unfitted, until_if_next, until_next}
use Rattle.standard_order.proofs.PartInner.{among_at, body_home, body_text, class_told, each_class, either_so, foreign_at, it_is, low_plain, made_at, named_at, names_same, none_some}
use Rattle.standard_order.proofs.PartInner.{ordinary_at, part_is, range_same, some_so, told_home, under_has, up_to_at, with_tree_at}

-- ---- the current node is popped

popped_plainly : (r : ℕ) (range : Range) (c : Site) (b : Building) → InTree r c b.tree → RangeIs range c b → Few c b →
    is_plain (class_at (tags b.tree.nodes) (current b.tree)) ≡ true →
    InnerAt r (unfitted range) NoPeak false false (record b { tree = with_stack b.tree (drop 1 b.tree.stack) })
popped_plainly r range c b i ranged few plain =
    with_tree_at r range NoPeak c b (with_stack b.tree (drop 1 b.tree.stack)) (in_popped r c b.tree plain i) ranged few tt

popped_part : (r : ℕ) (part : Cls) (c : Site) (b : Building) (t : GrowingTree) → is_bound part ≡ true → c.inner ≡ part → Few c b → InAt r c t →
    InnerAt r (Among (under part)) NoPeak false false (record b { tree = with_stack t (drop 1 t.stack) })
popped_part r part c b t bound same few at =
    let popped : (d : Cls) × (on c.inner d ≡ true) × InTree r (record { inner = d; templates = c.templates }) (with_stack t (drop 1 t.stack)) =
    part_popped r c t (ap is_bound same ∙ bound) at in
    among_at r (under part) NoPeak (record { inner = popped.0; templates = c.templates }) b (with_stack t (drop 1 t.stack)) popped.2
    (under_has part popped.0 (subst (λ x. on x popped.0 ≡ true) same popped.1) popped.2.inner) few tt

pop_at : (r : ℕ) (range : Range) (peak : Peak) (kept sure : Bool) (info : Info) (b : Building) (next : Phase) → pop_next range peak kept info ≡ Some next →
    InnerAt r range peak kept sure b → PhaseAt r next (record b { tree = with_stack b.tree (drop 1 b.tree.stack) })
pop_at r range Ordinary kept sure info b next f (c, i, ranged, few, peaked, was, sured) = it_is r _ next _ f (popped_plainly r range c b i ranged few peaked)
pop_at r range Innermost kept sure info b next f (c, i, ranged, few, peaked, was, sured) =
    some_so r (is_bound (part_of (classes_in range))) _ next _ f
    (λ h. popped_part r (part_of (classes_in range)) c b b.tree h (part_is (classes_in range) c.inner h (class_told r range c b i ranged)) few
    (record { now = i; top_ = peaked }))
pop_at r range NoPeak kept sure info b next f inner = none_some f
pop_at r range BodySecond kept sure info b next f inner = none_some f

left_at : (r : ℕ) (range : Range) (c : Site) (b : Building) → InTree r c b.tree → RangeIs range c b → Few c b → InnerAt r (unfitted range) NoPeak false false b
left_at r range c b i ranged few = (c, i, range_same range c b b refl ranged, few, tt, λ k. never k, tt)

named_popped : (r : ℕ) (range : Range) (names : List (List ℕ)) (c : Site) (b : Building) → plain_names names ≡ true → InTree r c b.tree → RangeIs range c b →
    Few c b → InnerAt r (unfitted range) NoPeak false false (after (is (CurrentNode (These names)) ∷ []) Pop b)
unfolding perform
named_popped r range names c b p i ranged few = by (is_one b.tree names (current b.tree)) refl
  where
    by : (x : Bool) → is_one b.tree names (current b.tree) ≡ x →
        InnerAt r (unfitted range) NoPeak false false (elim (x && true) as (λ _. Building) [
          | true ↦ record b { tree = with_stack b.tree (drop 1 b.tree.stack) }
          | false ↦ b
        ])
    by true e = popped_plainly r range c b i ranged few (only_these names p b.tree (current b.tree) e)
    by false e = left_at r range c b i ranged few

plainly_if : (r : ℕ) (range : Range) (tests : List Test) (c : Site) (b : Building) → InTree r c b.tree → RangeIs range c b → Few c b →
    is_plain (class_at (tags b.tree.nodes) (current b.tree)) ≡ true → InnerAt r (unfitted range) NoPeak false false (after tests Pop b)
unfolding perform
plainly_if r range tests c b i ranged few plain =
    either_way (InnerAt r (unfitted range) NoPeak false false) (list_all (is_met b) tests) b (record b { tree = with_stack b.tree (drop 1 b.tree.stack) })
    (popped_plainly r range c b i ranged few plain) (left_at r range c b i ranged few)

if_ordinary : (r : ℕ) (range : Range) (peak : Peak) (kept sure : Bool) (tests : List Test) (b : Building) (next : Phase) → is_low peak ≡ true →
    Some (Inner (unfitted range) NoPeak false false) ≡ Some next → InnerAt r range peak kept sure b → PhaseAt r next (after tests Pop b)
if_ordinary r range peak kept sure tests b next low f (c, i, ranged, few, peaked, was, sured) =
    it_is r _ next _ f (plainly_if r range tests c b i ranged few (low_plain peak c b.tree peaked low))

pop_if_at : (r : ℕ) (range : Range) (peak : Peak) (kept sure : Bool) (tests : List Test) (b : Building) (next : Phase) → pop_if_next range peak tests ≡ Some next →
    InnerAt r range peak kept sure b → PhaseAt r next (after tests Pop b)
pop_if_at r range peak kept sure (is (CurrentNode (These names)) ∷ []) b next f (c, i, ranged, few, peaked, was, sured) =
    some_so r (plain_names names) _ next _ f (λ p. named_popped r range names c b p i ranged few)
pop_if_at r range Ordinary kept sure tests b next f inner = if_ordinary r range Ordinary kept sure tests b next refl f inner
pop_if_at r range _ kept sure tests b next f inner = none_some f

-- ---- popped until one in scope

plainly_past : (r : ℕ) (c : Site) (info : Info) (kind : ScopeKind) (wanted names : Names) (b : Building) → holds_of info b.token ≡ true →
    has_in_scope kind (names_for wanted b.token) b.tree ≡ true → plainly_until kind wanted info names ≡ true → InTree r c b.tree →
    InTree r c (popped_until (names_for names b.token) b.tree)
plainly_past r c info kind wanted names b h scoped p i =
    in_past r c b.tree (is_one b.tree (names_for names b.token)) (ends_scope kind b.tree)
    (record {
      only = only_these (names_for names b.token) (names_plain_so info names b.token h more.1) b.tree;
      ending = scope_ends kind more.0 b.tree;
    })
    (in_scope_more (is_one b.tree (names_for wanted b.token)) (is_one b.tree (names_for names b.token)) (ends_scope kind b.tree)
    (names_more b.tree wanted names b.token two.0) b.tree.stack scoped) i
  where
    two : (names_among wanted names ≡ true) × (is_wide kind && names_plain info names ≡ true)
    two = both (names_among wanted names) _ p

    more : (is_wide kind ≡ true) × (names_plain info names ≡ true)
    more = both (is_wide kind) (names_plain info names) two.1

until_if_at : (r : ℕ) (range : Range) (peak : Peak) (kept sure : Bool) (info : Info) (names : Names) (tests : List Test) (b : Building) (next : Phase) →
    holds_of info b.token ≡ true → until_if_next range info names tests ≡ Some next → InnerAt r range peak kept sure b → PhaseAt r next (after tests (PopUntil names) b)
unfolding perform
until_if_at r range peak kept sure info names (is (InScope kind wanted) ∷ []) b next h f (c, i, ranged, few, peaked, was, sured) =
    some_so r (plainly_until kind wanted info names) _ next _ f (λ p. by p (has_in_scope kind (names_for wanted b.token) b.tree) refl)
  where
    by : plainly_until kind wanted info names ≡ true → (x : Bool) → has_in_scope kind (names_for wanted b.token) b.tree ≡ x →
        InnerAt r (unfitted range) NoPeak false false (elim (x && true) as (λ _. Building) [
          | true ↦ record b { tree = popped_until (names_for names b.token) b.tree }
          | false ↦ b
        ])
    by p true e = with_tree_at r range NoPeak c b (popped_until (names_for names b.token) b.tree) (plainly_past r c info kind wanted names b h e p i) ranged few tt
    by p false e = left_at r range c b i ranged few
until_if_at r range peak kept sure info names _ b next h f inner = none_some f

pub most_both : (n m k : ℕ) → at_most n m ≡ true → at_most m k ≡ true → at_most n k ≡ true
most_both zero m k h l = refl
most_both (suc n) zero k h l = never h
most_both (suc n) (suc m) zero h l = never l
most_both (suc n) (suc m) (suc k) h l = most_both n m k h l

narrow_is : (kind : ScopeKind) → is_wide kind ≡ false → TableScope ≡ kind
narrow_is TableScope h = refl
narrow_is Scope h = never (sym h)
narrow_is ListItemScope h = never (sym h)
narrow_is ButtonScope h = never (sym h)

ends_element : (c : Cls) → ends_table c ≡ true → is_element c ≡ true
ends_element HtmlC h = refl
ends_element TemplateC h = refl
ends_element TableC h = refl
ends_element _ h = never h

tabular_past : (r : ℕ) (c : Site) (wants : Cls → Bool) (names : List (List ℕ)) (t : GrowingTree) →
    ((n : ℕ) → is_one t names n ≡ true → wants (class_at (tags t.nodes) n) ≡ true) → ((d : Cls) → wants d ≡ true → is_tabular d ≡ true) →
    in_scope (is_one t names) (ends_scope TableScope t) t.stack ≡ true → InTree r c t → Popped r wants c.templates (popped_until names t)
tabular_past r c wants names t only tabular scoped i =
    in_scoped_past r c t wants (is_one t names) (ends_scope TableScope t) (record {
      only = only;
      tabular = tabular;
      ending = λ n e. class_is_one ends_table table_scope refl refl t n (ends_element _ e) e;
    }) scoped i

-- what is left stands below such a part
popped_under : (r : ℕ) (part : Cls) (wants : Cls → Bool) (c : Site) (b : Building) (t : GrowingTree) → ((d : Cls) → wants d ≡ true → d ≡ part) → is_bound part ≡ true →
    Few c b → Popped r wants c.templates t → InnerAt r (Among (under part)) NoPeak false false (record b { tree = t })
popped_under r part wants c b t only bound few p =
    among_at r (under part) NoPeak p.site b t p.now (under_has part p.site.inner (ap (on part) (sym below) ∙ stood) p.now.inner)
    (most_both p.site.templates c.templates (length b.template_modes) p.fewer few) tt
  where
    stood : on part (first (cls t)) ≡ true
    stood = subst (λ d. on d (first (cls t)) ≡ true) (only p.stood.0 p.stood.1) p.stood.2

    below : first (cls t) ≡ p.site.inner
    below = sym (context_first (cls t) (bound_odd part (first (cls t)) bound stood)) ∙ p.now.within

table_only : (d : Cls) → Rattle.standard_order.proofs.Chains.is_table d ≡ true → is_tabular d ≡ true
table_only TableC h = refl
table_only _ h = never h

caption_only : (d : Cls) → is_caption_class d ≡ true → d ≡ CaptionC
caption_only CaptionC h = refl
caption_only _ h = never h

cell_only : (d : Cls) → is_cell_class d ≡ true → d ≡ CellC
cell_only CellC h = refl
cell_only _ h = never h

pub these_is : (names : Names) (others : List (List ℕ)) → these_are names others ≡ true → names ≡ These others
these_is (These names) others h = ap These (names_same names others h)
these_is Own others h = never h

own_both : (wanted : Names) (info : Info) (names : Names) → own_cells wanted info names ≡ true → (wanted ≡ Own) × (names ≡ Own) × (own_within cells info ≡ true)
own_both Own info Own h = (refl, refl, h)
own_both Own info (These names) h = never h
own_both (These wanted) info names h = never h

scoped_at : (r : ℕ) (range : Range) (peak : Peak) (kept sure : Bool) (kind : ScopeKind) (wanted : Names) (info : Info) (names : Names) (b : Building) (next : Phase) →
    holds_of info b.token ≡ true → has_in_scope kind (names_for wanted b.token) b.tree ≡ true → scoped_until range kind wanted info names ≡ Some next →
    InnerAt r range peak kept sure b → PhaseAt r next (record b { tree = popped_until (names_for names b.token) b.tree })
scoped_at r range peak kept sure kind wanted info names b next h scoped f (c, i, ranged, few, peaked, was, sured) =
    by (plainly_until kind wanted info names) (is_wide kind) (tabular_until wanted info names (codes "table" ∷ [])) (tabular_until wanted info names (codes "caption" ∷ []))
    refl refl refl refl f
  where
    narrow : is_wide kind ≡ false → in_scope (is_one b.tree (names_for wanted b.token)) (ends_scope TableScope b.tree) b.tree.stack ≡ true
    narrow e = subst (λ k. in_scope (is_one b.tree (names_for wanted b.token)) (ends_scope k b.tree) b.tree.stack ≡ true) (sym (narrow_is kind e)) scoped

    among : names_among wanted names ≡ true → is_wide kind ≡ false → in_scope (is_one b.tree (names_for names b.token)) (ends_scope TableScope b.tree) b.tree.stack ≡ true
    among a e = in_scope_more (is_one b.tree (names_for wanted b.token)) (is_one b.tree (names_for names b.token)) (ends_scope TableScope b.tree)
        (names_more b.tree wanted names b.token a) b.tree.stack (narrow e)

    tables : tabular_until wanted info names (codes "table" ∷ []) ≡ true → is_wide kind ≡ false →
        InnerAt r Unknown NoPeak false false (record b { tree = popped_until (names_for names b.token) b.tree })
    tables t e = from (both (names_among wanted names) _ t)
      where
        from : (names_among wanted names ≡ true) × (these_are names (codes "table" ∷ []) ≡ true) →
            InnerAt r Unknown NoPeak false false (record b { tree = popped_until (names_for names b.token) b.tree })
        from two =
            let p : Popped r Rattle.standard_order.proofs.Chains.is_table c.templates (popped_until (names_for names b.token) b.tree) =
            tabular_past r c Rattle.standard_order.proofs.Chains.is_table (names_for names b.token) b.tree
            (subst (λ ns. (n : ℕ) → is_one b.tree (names_for ns b.token) n ≡ true → Rattle.standard_order.proofs.Chains.is_table (class_at (tags b.tree.nodes) n) ≡ true)
            (sym (these_is names (codes "table" ∷ []) two.1))
            (λ n k. one_any Rattle.standard_order.proofs.Chains.is_table (codes "table" ∷ []) refl (λ name. refl) (λ name. refl) refl b.tree.nodes n k))
            table_only (among two.0 e) i in
            (p.site, p.now, tt, most_both p.site.templates c.templates (length b.template_modes) p.fewer few, tt, λ k. never k, tt)

    captions : tabular_until wanted info names (codes "caption" ∷ []) ≡ true → is_wide kind ≡ false →
        InnerAt r (Among (under CaptionC)) NoPeak false false (record b { tree = popped_until (names_for names b.token) b.tree })
    captions t e = from (both (names_among wanted names) _ t)
      where
        from : (names_among wanted names ≡ true) × (these_are names (codes "caption" ∷ []) ≡ true) →
            InnerAt r (Among (under CaptionC)) NoPeak false false (record b { tree = popped_until (names_for names b.token) b.tree })
        from two =
            popped_under r CaptionC is_caption_class c b (popped_until (names_for names b.token) b.tree) caption_only refl few
            (tabular_past r c is_caption_class (names_for names b.token) b.tree
            (subst (λ ns. (n : ℕ) → is_one b.tree (names_for ns b.token) n ≡ true → is_caption_class (class_at (tags b.tree.nodes) n) ≡ true)
            (sym (these_is names (codes "caption" ∷ []) two.1))
            (λ n k. one_any is_caption_class (codes "caption" ∷ []) refl (λ name. refl) (λ name. refl) refl b.tree.nodes n k))
            (λ d k. subst (λ x. is_tabular x ≡ true) (sym (caption_only d k)) refl) (among two.0 e) i)

    owns : own_cells wanted info names ≡ true → is_wide kind ≡ false →
        InnerAt r (Among (under CellC)) NoPeak false false (record b { tree = popped_until (names_for names b.token) b.tree })
    owns o e = from (own_both wanted info names o)
      where
        from : (wanted ≡ Own) × (names ≡ Own) × (own_within cells info ≡ true) →
            InnerAt r (Among (under CellC)) NoPeak false false (record b { tree = popped_until (names_for names b.token) b.tree })
        from (w, m, within) =
            subst (λ ns. InnerAt r (Among (under CellC)) NoPeak false false (record b { tree = popped_until (names_for ns b.token) b.tree })) (sym m)
            (popped_under r CellC is_cell_class c b (popped_until (own_name b.token ∷ []) b.tree) cell_only refl few
            (tabular_past r c is_cell_class (own_name b.token ∷ []) b.tree
            (λ n k. one_any is_cell_class cells refl (λ name. refl) (λ name. refl) refl b.tree.nodes n
            (among_more (Rattle.standard_trees.specs.GrowingTree.key b.tree n) (own_name b.token ∷ []) cells
            (ap (λ x. x && true) (own_within_so cells info b.token within h)) k))
            (λ d k. subst (λ x. is_tabular x ≡ true) (sym (cell_only d k)) refl)
            (subst (λ ns. in_scope (is_one b.tree (names_for ns b.token)) (ends_scope TableScope b.tree) b.tree.stack ≡ true) w (narrow e)) i))

    by : (x y z u : Bool) → plainly_until kind wanted info names ≡ x → is_wide kind ≡ y → tabular_until wanted info names (codes "table" ∷ []) ≡ z →
        tabular_until wanted info names (codes "caption" ∷ []) ≡ u →
        elim x as (λ _. Option Phase) [
          | true ↦ Some (Inner (unfitted range) NoPeak false false)
          | false ↦ elim y as (λ _. Option Phase) [
            | true ↦ None
            | false ↦ elim z as (λ _. Option Phase) [
              | true ↦ Some (Inner Unknown NoPeak false false)
              | false ↦ elim u as (λ _. Option Phase) [
                | true ↦ Some (Inner (Among (under CaptionC)) NoPeak false false)
                | false ↦ some_if (own_cells wanted info names) (Inner (Among (under CellC)) NoPeak false false)
              ]
            ]
          ]
        ] ≡ Some next → PhaseAt r next (record b { tree = popped_until (names_for names b.token) b.tree })
    by true y z u p w q v g = it_is r _ next _ g
        (with_tree_at r range NoPeak c b (popped_until (names_for names b.token) b.tree) (plainly_past r c info kind wanted names b h scoped p i) ranged few tt)
    by false true z u p w q v g = none_some g
    by false false true u p w q v g = it_is r _ next _ g (tables q w)
    by false false false true p w q v g = it_is r _ next _ g (captions v w)
    by false false false false p w q v g = some_so r (own_cells wanted info names) _ next _ g (λ o. owns o w)

-- ---- popped until the cell

cell_at : (r : ℕ) (range : Range) (peak : Peak) (kept sure : Bool) (names : Names) (b : Building) → these_are names cells && list_all is_cell_class (classes_in range) ≡ true →
    InnerAt r range peak kept sure b → InnerAt r (Among (under CellC)) NoPeak false false (record b { tree = popped_until (names_for names b.token) b.tree })
cell_at r range peak kept sure names b h (c, i, ranged, few, peaked, was, sured) =
    subst (λ ns. InnerAt r (Among (under CellC)) NoPeak false false (record b { tree = popped_until (names_for ns b.token) b.tree })) (sym (these_is names cells two.0))
    (subst (λ s. InnerAt r (Among (under CellC)) NoPeak false false (record b { tree = with_stack b.tree s })) (sym (past_beyond (is_one b.tree cells) b.tree.stack))
    (popped_part r CellC c b (Rattle.standard_trees.specs.GrowingTree.popped_up_to cells b.tree) refl cell few
    (in_up_to r c b.tree cells (record { all = refl; svg = λ name. refl; math = λ name. refl; none = refl })
    (class_has is_cell_class cells refl refl b.tree c.inner is_cell) i)))
  where
    two : (these_are names cells ≡ true) × (list_all is_cell_class (classes_in range) ≡ true)
    two = both (these_are names cells) _ h

    is_cell : is_cell_class c.inner ≡ true
    is_cell = each_class is_cell_class (classes_in range) c.inner two.1 (class_told r range c b i ranged)

    cell : c.inner ≡ CellC
    cell = cell_only c.inner is_cell

template_at : (r : ℕ) (range : Range) (peak : Peak) (kept sure : Bool) (names : Names) (b : Building) → these_are names (codes "template" ∷ []) ≡ true →
    list_any (is_one b.tree (codes "template" ∷ [])) b.tree.stack ≡ true → InnerAt r range peak kept sure b →
    PhaseAt r Ended (record b { tree = popped_until (names_for names b.token) b.tree })
template_at r range peak kept sure names b h any (c, i, ranged, few, peaked, was, sured) =
    subst (λ ns. PhaseAt r Ended (record b { tree = popped_until (names_for ns b.token) b.tree })) (sym (these_is names (codes "template" ∷ []) h))
    (c.templates, template_closed r c b.tree any i, few)

until_at : (r : ℕ) (level : Level) (range : Range) (peak : Peak) (kept sure : Bool) (info : Info) (names : Names) (b : Building) (next : Phase) →
    holds_of info b.token ≡ true → At level b → until_next level range info names ≡ Some next → InnerAt r range peak kept sure b →
    PhaseAt r next (record b { tree = popped_until (names_for names b.token) b.tree })
until_at r (Scoped place kind wanted) range peak kept sure info names b next h at f inner =
    by (these_are names cells && list_all is_cell_class (classes_in range)) refl f
  where
    by : (x : Bool) → these_are names cells && list_all is_cell_class (classes_in range) ≡ x →
        or_else (some_if x (Inner (Among (under CellC)) NoPeak false false)) (scoped_until range kind wanted info names) ≡ Some next →
        PhaseAt r next (record b { tree = popped_until (names_for names b.token) b.tree })
    by true e g = it_is r _ next _ g (cell_at r range peak kept sure names b e inner)
    by false e g = scoped_at r range peak kept sure kind wanted info names b next h at.2 g inner
until_at r (Opened place) range peak kept sure info names b next h at f inner =
    some_so r (these_are names (codes "template" ∷ [])) Ended next _ f (λ t. template_at r range peak kept sure names b t at.2 inner)
until_at r _ range peak kept sure info names b next h at f inner =
    some_so r (these_are names cells && list_all is_cell_class (classes_in range)) _ next _ f (λ t. cell_at r range peak kept sure names b t inner)

-- ---- any other end tag

fits_so : (c : Cls) (info : Info) (token : Token) → Fits c token → is_end_info info ≡ true → own_apart (codes "body" ∷ codes "template" ∷ []) info ≡ true →
    holds_of info token ≡ true → OtherName (own_name token) c
fits_so c info (AnEnd name) f e a h = f (is_not (is_among name (codes "body" ∷ codes "template" ∷ [])) (own_apart_so (codes "body" ∷ codes "template" ∷ []) info (AnEnd name) refl a h))
fits_so c (End names) (AStart name attrs closing) f e a h = never h
fits_so c (End names) (AChar x) f e a h = never h
fits_so c (End names) (AComment text) f e a h = never h
fits_so c (End names) (ADoctype d) f e a h = never h
fits_so c (End names) AnEof f e a h = never h
fits_so c (EndBut names) (AStart name attrs closing) f e a h = never h
fits_so c (EndBut names) (AChar x) f e a h = never h
fits_so c (EndBut names) (AComment text) f e a h = never h
fits_so c (EndBut names) (ADoctype d) f e a h = never h
fits_so c (EndBut names) AnEof f e a h = never h
fits_so c _ token f e a h = never e

fitting_so : (range : Range) (c : Site) (b : Building) → is_fitting range ≡ true → RangeIs range c b → Fits c.inner b.token
fitting_so Fitting c b h k = k.1
fitting_so Told c b h k = never h
fitting_so Unknown c b h k = never h
fitting_so (ToldAmong cs) c b h k = never h
fitting_so (Among cs) c b h k = never h

other_at : (r : ℕ) (range : Range) (peak : Peak) (kept sure : Bool) (info : Info) (b : Building) → holds_of info b.token ≡ true → is_other_end range info ≡ true →
    InnerAt r range peak kept sure b →
    InnerAt r (unfitted range) NoPeak false false (record b { tree = Rattle.standard_trees.specs.Formatting.any_other_end (own_name b.token) b.tree })
other_at r range peak kept sure info b h o (c, i, ranged, few, peaked, was, sured) =
    with_tree_at r range NoPeak c b (Rattle.standard_trees.specs.Formatting.any_other_end (own_name b.token) b.tree)
    (in_other_end r c (own_name b.token) b.tree (by (either_so (own_apart odd_names info) _ o)) i) ranged few tt
  where
    by : (own_apart odd_names info ≡ true) ⊎ (is_fitting range && (is_end_info info && own_apart (codes "body" ∷ codes "template" ∷ []) info) ≡ true) →
        OtherName (own_name b.token) c.inner
    by (inl a) = plain_other (own_name b.token) c.inner (own_plain info b.token a h)
    by (inr k) =
        let two : (is_fitting range ≡ true) × (is_end_info info && own_apart (codes "body" ∷ codes "template" ∷ []) info ≡ true) = both (is_fitting range) _ k in
        let more : (is_end_info info ≡ true) × (own_apart (codes "body" ∷ codes "template" ∷ []) info ≡ true) = both (is_end_info info) _ two.1 in
        fits_so c.inner info b.token (fitting_so range c b two.0 ranged) more.0 more.1 h

own_popped_at : (r : ℕ) (level : Level) (range : Range) (peak : Peak) (kept sure : Bool) (b : Building) → is_foreign_level level ≡ true → At level b →
    InnerAt r range peak kept sure b → InnerAt r (unfitted range) NoPeak false false (perform PopUntilOwnInAnyCase b)
unfolding perform
own_popped_at r (Foreign place) range peak kept sure b f at (c, i, ranged, few, peaked, was, sured) =
    with_tree_at r range NoPeak c b _ (in_own_popped r c (own_name b.token) b.tree at.2 i) ranged few tt
own_popped_at r _ range peak kept sure b f at inner = never f

-- ---- modes

reset_at : (r : ℕ) (range : Range) (peak : Peak) (kept sure : Bool) (b : Building) → Content b.template_modes → InnerAt r range peak kept sure b →
    PhaseAt r Turning (perform ResetMode b)
unfolding perform
reset_at r range peak kept sure b content (c, i, ranged, few, peaked, was, sured) =
    body_home (perform ResetMode b).mode r (perform ResetMode b) (
      c,
      i,
      subst (λ d. home (Rattle.standard_trees.specs.Building.reset_from b.tree b.template_modes b.tree.stack) d ≡ true) i.within
          (reset_home b.tree b.template_modes b.tree.stack content i.chained i.open_ (ap is_inner i.within ∙ i.inner)),
      few,
    )

all_implied_at : (r : ℕ) (level : Level) (range : Range) (peak : Peak) (kept sure : Bool) (b : Building) → is_opened_level level ≡ true → At level b →
    InnerAt r range peak kept sure b → PhaseAt r Ending (perform AllImpliedEndTags b)
unfolding perform
all_implied_at r (Opened place) range peak kept sure b o at (c, i, ranged, few, peaked, was, sured) = (c.templates, template_ended r c b.tree at.2 i, few)
all_implied_at r _ range peak kept sure b o at inner = never o

template_only : (d : Cls) → is_template d ≡ true → d ≡ TemplateC
template_only TemplateC h = refl
template_only _ h = never h

pub one_less : {X : Type 0} (n : ℕ) (xs : List X) → at_most n (length xs) ≡ true → at_most n (suc (length (drop 1 xs))) ≡ true
one_less n [] h = most_more n 0 h
one_less n (x ∷ xs) h = h

lent_at : (r : ℕ) (range : Range) (peak : Peak) (kept sure : Bool) (b : Building) → list_all is_template (classes_in range) ≡ true → InnerAt r range peak kept sure b →
    PhaseAt r Lent (perform PopTemplateMode b)
unfolding perform
lent_at r range peak kept sure b all (c, i, ranged, few, peaked, was, sured) =
    (c, i, template_only c.inner (each_class is_template (classes_in range) c.inner all (class_told r range c b i ranged)), one_less c.templates b.template_modes few)

switched_at : (r : ℕ) (range : Range) (peak : Peak) (kept sure : Bool) (mode : Mode) (b : Building) (next : Phase) → switched_next range peak kept mode ≡ Some next →
    InnerAt r range peak kept sure b → PhaseAt r next (record b { mode = mode })
switched_at r range peak kept sure InTemplate b next f (c, i, ranged, few, peaked, was, sured) = it_is r (Opening false) next _ f (refl, inl (c, i, few))
switched_at r range peak kept sure Text b next f (c, i, ranged, few, peaked, was, sured) =
    some_so r (kept && (is_low peak && is_told range)) Turning next (record b { mode = Text }) f (λ h.
    let two : (kept ≡ true) × (is_low peak && is_told range ≡ true) = both kept _ h in
    let more : (is_low peak ≡ true) × (is_told range ≡ true) = both (is_low peak) (is_told range) two.1 in
    body_text b.original r (record b { mode = Text }) c i (ap (λ m. home m c.inner) (was two.0) ∙ told_home range c b more.1 ranged) few
    (low_plain peak c b.tree peaked more.0))
switched_at r range peak kept sure mode b next f (c, i, ranged, few, peaked, was, sured) =
    some_so r _ (Inner Told NoPeak false false) next _ f
    (λ h. (c, i, each_class (home mode) (classes_in range) c.inner h (class_told r range c b i ranged), few, tt, λ k. never k, tt))

-- ---- the body is taken away

pub topmost_root : (f : ℕ → Cls) (s : List ℕ) → chain (of f s) ≡ true → is_root (f (topmost s)) ≡ true
topmost_root f [] h = never h
topmost_root f (n ∷ []) h = h
topmost_root f (n ∷ m ∷ ns) h = topmost_root f (m ∷ ns) (both (on (f n) (f m)) (chain (of f (m ∷ ns))) h).1

second_any : (f : ℕ → Cls) (s : List ℕ) (n : ℕ) → second s ≡ Some n → is_body (f n) ≡ true → has_body (of f s) ≡ true
second_any f [] n e h = none_some e
second_any f (m ∷ []) n e h = none_some e
second_any f (m ∷ r ∷ []) n e h = ap (λ x. x || (is_body (f r) || false)) (subst (λ i. is_body (f i) ≡ true) (sym (same_Some m n e)) h)
second_any f (m ∷ r ∷ q ∷ ns) n e h = by (is_body (f m)) (second_any f (r ∷ q ∷ ns) n e h)
  where
    by : (x : Bool) → has_body (of f (r ∷ q ∷ ns)) ≡ true → x || has_body (of f (r ∷ q ∷ ns)) ≡ true
    by true k = refl
    by false k = k

body_top : (c : Cls) → is_body c ≡ true → is_top c ≡ false
body_top BodyC h = refl
body_top _ h = never h

head_not_body : (c : Cls) → is_head c ≡ true → is_body c ≡ true → ⊥
head_not_body HeadC h k = never k
head_not_body _ h k = never h

-- without the body there is the head
less_body : (ts : List Tag) (n : ℕ) (ns : List ℕ) → OneBody ts → is_body (class_at ts n) ≡ true → fits Bodied (map (class_at ts) ns) ≡ true →
    fits Emptied (map (class_at ts) (without n ns)) ≡ true
less_body ts n [] one body h = never h
less_body ts n (m ∷ []) one body h = never h
less_body ts n (m ∷ k ∷ []) one body h =
    by (nat_eq m n) (nat_eq k n) refl refl
  where
    two : (is_head (class_at ts m) ≡ true) × (is_body (class_at ts k) ≡ true)
    two = both (is_head (class_at ts m)) (is_body (class_at ts k)) h

    by : (x y : Bool) → nat_eq m n ≡ x → nat_eq k n ≡ y →
        fits Emptied (map (class_at ts) (cond (not x) (m ∷ cond (not y) (k ∷ []) []) (cond (not y) (k ∷ []) []))) ≡ true
    by true y e g = absurd (head_not_body (class_at ts m) two.0 (subst (λ i. is_body (class_at ts i) ≡ true) (sym (same_number m n e)) body))
    by false true e g = two.0
    by false false e g = never (sym g ∙ subst (λ i. nat_eq i n ≡ true) (one n k body two.1) (same_again n))
less_body ts n (m ∷ k ∷ j ∷ ns) one body h = never h

emptied : (r n : ℕ) (nodes : List Node) → is_body (class_at (tags nodes) n) ≡ true → Nodes r Bodied nodes → Nodes r Emptied (removed n nodes)
emptied r n nodes body h = record {
  top = (same_removed n nodes (body_top _ body)).top Rooted h.top;
  frame = record {
    root = ap (λ ts. class_at ts r) (tags_removed n nodes) ∙ h.frame.root;
    valid = subst (λ ts. AllThere ts (kids (removed n nodes) r)) (sym (tags_removed n nodes)) (subst (AllThere (tags nodes)) (sym (kids_removed n nodes r))
        (all_without (λ c. is_there (class_at (tags nodes) c)) n (kids nodes r) h.frame.valid));
    form = ap (λ ts. fits Emptied (map (class_at ts) (counted is_element ts (kids (removed n nodes) r)))) (tags_removed n nodes)
        ∙ ap (λ ns. fits Emptied (map (class_at (tags nodes)) (counted is_element (tags nodes) ns))) (kids_removed n nodes r)
        ∙ ap (λ ns. fits Emptied (map (class_at (tags nodes)) ns)) (counted_without is_element (tags nodes) n (kids nodes r))
        ∙ less_body (tags nodes) n (parts_in nodes r) h.bodies body h.frame.form;
  };
  unique = unique_same r (tags nodes) (tags (removed n nodes)) (tags_removed n nodes) h.unique;
  bodies = tt;
  bare = bare_kept r Bodied nodes (removed n nodes) (keeps_same (tags nodes) (tags (removed n nodes)) (tags_removed n nodes)) h;
}

second_peak : (peak : Peak) (c : Site) (t : GrowingTree) → is_second peak ≡ true → PeakIs peak c t → option_map_or (is_one t (codes "body" ∷ [])) (second t.stack) false ≡ true
second_peak BodySecond c t h k = k
second_peak NoPeak c t h k = never h
second_peak Ordinary c t h k = never h
second_peak Innermost c t h k = never h

emptying_at : (r : ℕ) (range : Range) (peak : Peak) (kept sure : Bool) (b : Building) → is_second peak ≡ true → InnerAt r range peak kept sure b →
    PhaseAt r Emptying (perform RemoveBody b)
unfolding perform
emptying_at r range peak kept sure b s (c, i, ranged, few, peaked, was, sured) = by (second b.tree.stack) refl (second_peak peak c b.tree s peaked)
  where
    by : (o : Option ℕ) → second b.tree.stack ≡ o → option_map_or (is_one b.tree (codes "body" ∷ [])) o false ≡ true →
        PhaseAt r Emptying (record b { tree = body_removed o b.tree })
    by None e k = never k
    by (Some n) e k = (
      emptied r n b.tree.nodes body (subst (λ x. Nodes r (elim x as (λ _. Parts) [ true ↦ Bodied | false ↦ Headed ]) b.tree.nodes)
          (second_any (class_at (tags b.tree.nodes)) b.tree.stack n e body) i.nodes),
      i.nodes.unique (topmost b.tree.stack) (topmost_root (class_at (tags b.tree.nodes)) b.tree.stack i.chained),
      record {
        listed = subst (λ ts. Rattle.standard_order.proofs.PartTrees.PlainListed ts b.tree.listed) (sym (tags_removed n b.tree.nodes)) i.listed;
        form = subst (λ ts. Rattle.standard_order.proofs.PartTrees.PlainForm ts b.tree.form) (sym (tags_removed n b.tree.nodes)) i.form;
        page = i.page;
        found = subst (λ ts. Rattle.standard_order.proofs.PartTrees.PlainFound ts b.tree.found) (sym (tags_removed n b.tree.nodes)) i.found;
      },
    )
      where
        body : is_body (class_at (tags b.tree.nodes) n) ≡ true
        body = one_any is_body (codes "body" ∷ []) refl (λ name. refl) (λ name. refl) refl b.tree.nodes n k

-- ---- each action

pub inner_at : (r : ℕ) (level : Level) (range : Range) (peak : Peak) (kept sure : Bool) (info : Info) (action : Action) (tests : List Test) (b : Building) (new : Level)
    (next : Phase) → holds_of info b.token ≡ true → next_of level info action tests ≡ Some new → At level b →
    inner_next level range peak kept info action tests ≡ Some next → InnerAt r range peak kept sure b → PhaseAt r next (after tests action b)
unfolding perform
inner_at r level range peak kept sure info (SwitchTo mode) [] b new next h e at f inner = switched_at r range peak kept sure mode b next f inner
inner_at r level range peak kept sure info InsertElement [] b new next h e at f inner = made_at r range peak kept sure info b next h f inner
inner_at r level range peak kept sure info (InsertNamed name) [] b new next h e at f inner = named_at r range peak kept sure name b next f inner
inner_at r level range peak kept sure info InsertMathmlElement [] b new next h e at f inner =
    it_is r _ next _ f (foreign_at r range peak kept sure MathMl (own_name b.token) b.attrs b (λ contents. refl) inner)
inner_at r level range peak kept sure info InsertSvgElement [] b new next h e at f inner =
    it_is r _ next _ f (foreign_at r range peak kept sure Svg (own_name b.token) b.attrs b (λ contents. refl) inner)
inner_at r level range peak kept sure info (PopUpTo (These names)) [] b new next h e at f inner = up_to_at r range peak kept sure names b next f inner
inner_at r level range peak kept sure info (PopUntil names) [] b new next h e at f inner = until_at r level range peak kept sure info names b next h at f inner
inner_at r level range peak kept sure info (PopUntil names) (test ∷ tests) b new next h e at f inner =
    until_if_at r range peak kept sure info names (test ∷ tests) b next h f inner
inner_at r level range peak kept sure info Pop [] b new next h e at f inner = pop_at r range peak kept sure info b next f inner
inner_at r level range peak kept sure info Pop (test ∷ tests) b new next h e at f inner = pop_if_at r range peak kept sure (test ∷ tests) b next f inner
inner_at r level range peak kept sure info AnyOtherEndTag [] b new next h e at f inner =
    some_so r (is_other_end range info) _ next _ f (λ o. other_at r range peak kept sure info b h o inner)
inner_at r level range peak kept sure info PopUntilOwnInAnyCase [] b new next h e at f inner =
    some_so r (is_foreign_level level) _ next _ f (λ o. own_popped_at r level range peak kept sure b o at inner)
inner_at r level range peak kept sure info ResetMode [] b new next h e at f inner =
    it_is r Turning next _ f (reset_at r range peak kept sure b (content_at level b at) inner)
inner_at r level range peak kept sure info AllImpliedEndTags [] b new next h e at f inner =
    some_so r (is_opened_level level) _ next _ f (λ o. all_implied_at r level range peak kept sure b o at inner)
inner_at r level range peak kept sure info PopTemplateMode [] b new next h e at f inner =
    some_so r (list_all is_template (classes_in range)) _ next _ f (λ o. lent_at r range peak kept sure b o inner)
inner_at r level range peak kept sure info RemoveBody [] b new next h e at f inner =
    some_so r (is_second peak) _ next _ f (λ o. emptying_at r range peak kept sure b o inner)
inner_at r level range peak kept sure info action tests b new next h e at f inner =
    ordinary_at r level range peak kept sure info action tests b new next h e at f inner
