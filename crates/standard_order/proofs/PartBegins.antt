-- Which rule is taken, and what is known of the parts of a page when its acts begin.
use Rattle.std.specs.Prelude.{◌≡◌, ◌&&◌, ◌||◌, ◌⊎◌, refl, ℕ, suc, Bool, true, false, not, List, [], ◌∷◌, ◌++◌, codes, filter, length}
use Rattle.std.proofs.Common.{inl, inr}
use Rattle.std.specs.List.{list_all, list_any}
use Rattle.std.specs.Option.{option_map_or}
use mathlib.Core.Path.{◌∙◌, sym, ap, subst}
use Rattle.standard_tokens.specs.Tokens.{AnEof, Token}
use Rattle.standard_trees.specs.NameLists.{table_scope}
use Rattle.standard_trees.specs.RuleWords.{Act, Anything, CurrentNode, InScope, Mode, Names, Own, Pattern, Rule, Scope, SecondElement, TableScope, TemplateModeSet, TemplateOpen, Test}
use Rattle.standard_trees.specs.RuleWords.{These, is, isnt, rule}
use Rattle.standard_trees.specs.GrowingTree.{GrowingTree, current, ends_scope, in_scope, is_one, key, second as second_of}
use Rattle.standard_trees.specs.Building.{Building, fits, is_empty, is_met, names_for, own_name, taken}
use Rattle.standard_order.specs.PageTops.{roots_have_parts}
use Rattle.standard_order.proofs.StandingStacks.{both, never}
use Rattle.standard_order.proofs.GoodTrees.{among_more}
use Rattle.standard_order.proofs.Levels.{Any, Info, Level, Prior, end_names, info_of, prior_facts, prior_of, ruled_out, start_names, with_facts}
use Rattle.standard_order.proofs.LevelFacts.{At}
use Rattle.standard_order.proofs.LevelTrees.{holds_of, own_within_so}
use Rattle.standard_order.proofs.RulesPassed.{PriorSo, any_holds, facts_at, fitting, info_holds, out_more, out_same, prior_met, prior_unfit, prior_unmet, rules_out, second}
use Rattle.standard_order.proofs.NodeTags.{BodyC, CaptionC, CellC, Cls, GroupC, HtmlC, NoC, PlainC, RowC, TableC, TemplateC, class_at, is_element, tags}
use Rattle.standard_order.proofs.NodeTops.{is_root}
use Rattle.standard_order.proofs.PartKids.{Bodied, Framed, Headed, Parts, is_body}
use Rattle.standard_order.proofs.Chains.{Site, at_most, chain, context, counted_on, ends_it, first, has_body, is_inner, is_plain, is_template, of, on, templates_in}
use Rattle.standard_order.proofs.PartTrees.{In as InTree, Nodes, cls}
use Rattle.standard_order.proofs.PartPlaces.{class_is_one, first_of, stack_filled}
use Rattle.standard_order.proofs.PartPops.{one_any, scope_ends}
use Rattle.standard_order.proofs.PartRows.{context_first}
use Rattle.standard_order.proofs.PartScopes.{ends_table, is_caption_class, is_tabular, scoped_template}
use Rattle.standard_order.proofs.PartStages.{no_template_body, whole_parts}
use Rattle.standard_order.proofs.PartSteps.{only_these, plain_names}
use Rattle.standard_order.proofs.PartPhases.{Among, BodySecond, Few, Inner, InnerAt, Innermost, Ordinary, Peak, PeakIs, Phase, PhaseAt, Range, RangeIs, ToldAmong, all_facts, are_tabular}
use Rattle.standard_order.proofs.PartPhases.{classes_in, has_class, inner_fact, is_nil, is_told, is_whole_phase, may_end, narrowed, part_ends, part_fact, part_facts, pattern_begins, rules_part}
use Rattle.standard_order.proofs.PartPhases.{same_names, tabular_names}
use Rattle.standard_order.proofs.PartInner.{class_told, each_class, either_so, has_filtered, names_same, told_home}

-- ---- facts

narrowed_is : (range : Range) (cs : List Cls) (c : Site) (b : Building) → RangeIs range c b → has_class cs c.inner ≡ true → RangeIs (narrowed range cs) c b
narrowed_is range cs c b ranged h = by (is_told range) refl
  where
    by : (x : Bool) → is_told range ≡ x → RangeIs (elim x as (λ _. Range) [ true ↦ ToldAmong cs | false ↦ Among cs ]) c b
    by true e = (told_home range c b e ranged, h)
    by false e = h

-- a table or a part of one in table scope
tabular_one : (info : Info) (names : Names) (b : Building) → holds_of info b.token ≡ true → are_tabular info names ≡ true → (n : ℕ) →
    is_one b.tree (names_for names b.token) n ≡ true → is_tabular (class_at (tags b.tree.nodes) n) ≡ true
tabular_one info Own b h t n k =
    one_any is_tabular tabular_names refl (λ name. refl) (λ name. refl) refl b.tree.nodes n
    (among_more (key b.tree n) (own_name b.token ∷ []) tabular_names (ap (λ x. x && true) (own_within_so tabular_names info b.token t h)) k)
tabular_one info (These names) b h t n k =
    one_any is_tabular tabular_names refl (λ name. refl) (λ name. refl) refl b.tree.nodes n (among_more (key b.tree n) names tabular_names t k)

ends_element : (c : Cls) → ends_table c ≡ true → is_element c ≡ true
ends_element HtmlC h = refl
ends_element TemplateC h = refl
ends_element TableC h = refl
ends_element _ h = never h

no_template : (r : ℕ) (c : Site) (info : Info) (names : Names) (b : Building) → holds_of info b.token ≡ true → are_tabular info names ≡ true →
    in_scope (is_one b.tree (names_for names b.token)) (ends_scope TableScope b.tree) b.tree.stack ≡ true → InTree r c b.tree → not (is_template c.inner) ≡ true
no_template r c info names b h t scoped i = by (is_template c.inner) refl
  where
    inner : is_template c.inner ≡ true → c.inner ≡ TemplateC
    inner e = cut c.inner e
      where
        cut : (d : Cls) → is_template d ≡ true → d ≡ TemplateC
        cut TemplateC k = refl
        cut _ k = never k

    by : (x : Bool) → is_template c.inner ≡ x → not x ≡ true
    by false e = refl
    by true e = absurd (scoped_template (class_at (tags b.tree.nodes)) is_tabular (is_one b.tree (names_for names b.token)) (ends_scope TableScope b.tree) (record {
      only = tabular_one info names b h t;
      tabular = λ d k. k;
      ending = λ n e. class_is_one ends_table table_scope refl refl b.tree n (ends_element _ e) e;
    }) b.tree.stack (i.within ∙ inner e) scoped)

-- where a body is in scope, it is the innermost element that isn't an ordinary one
wanted_not : (f : ℕ → Cls) (wanted : ℕ → Bool) → ((n : ℕ) → wanted n ≡ true → is_body (f n) ≡ true) → (n : ℕ) → is_body (f n) ≡ false → wanted n ≡ false
wanted_not f wanted only n off = by (wanted n) refl
  where
    by : (x : Bool) → wanted n ≡ x → wanted n ≡ false
    by true e = never (sym off ∙ only n e)
    by false e = e

ended_body : (f : ℕ → Cls) (wanted ends : ℕ → Bool) → ((n : ℕ) → wanted n ≡ true → is_body (f n) ≡ true) → ((n : ℕ) → ends_it (f n) ≡ true → ends n ≡ true) →
    (n : ℕ) (ns : List ℕ) → ends_it (f n) ≡ true → in_scope wanted ends (n ∷ ns) ≡ true → ⊥
ended_body f wanted ends only ending n ns e h =
    never (sym (ap (λ x. x || (not (ends n) && in_scope wanted ends ns)) (wanted_not f wanted only n (apart (f n) e))
    ∙ ap (λ x. not x && in_scope wanted ends ns) (ending n e)) ∙ h)
  where
    apart : (c : Cls) → ends_it c ≡ true → is_body c ≡ false
    apart BodyC k = never k
    apart _ k = refl

later_scope : (x y z : Bool) → x ≡ false → x || (not y && z) ≡ true → z ≡ true
later_scope true y z e h = never (sym e)
later_scope false true z e h = never h
later_scope false false z e h = h

body_scoped : (f : ℕ → Cls) (wanted ends : ℕ → Bool) → ((n : ℕ) → wanted n ≡ true → is_body (f n) ≡ true) → ((n : ℕ) → ends_it (f n) ≡ true → ends n ≡ true) →
    (s : List ℕ) → chain (of f s) ≡ true → is_inner (context (of f s)) ≡ true → in_scope wanted ends s ≡ true → context (of f s) ≡ BodyC
body_scoped f wanted ends only ending [] h i scoped = never h
body_scoped f wanted ends only ending (n ∷ ns) h i scoped =
    by (f n) refl ns h i (λ off. later_scope (wanted n) (ends n) (in_scope wanted ends ns) (wanted_not f wanted only n off) scoped)
    (λ k l. body_scoped f wanted ends only ending ns k l)
  where
    ended : (m : ℕ) (ms : List ℕ) → ends_it (f m) ≡ true → in_scope wanted ends (m ∷ ms) ≡ true → ⊥
    ended = ended_body f wanted ends only ending

    host : (c : Cls) → Rattle.standard_order.proofs.Chains.is_table c || is_template c ≡ true → ends_it c ≡ true
    host TableC k = refl
    host TemplateC k = refl
    host _ k = never k

    on_host : (ms : List ℕ) → (c : Cls) → ((d : Cls) → on c d ≡ true → ends_it d ≡ true) → is_root c ≡ false → chain (c ∷ of f ms) ≡ true →
        in_scope wanted ends ms ≡ true → ⊥
    on_host [] c o root k l = never (sym root ∙ k)
    on_host (m ∷ ms) c o root k l = ended m ms (o (f m) (both (on c (f m)) (chain (of f (m ∷ ms))) k).0) l

    on_row : (ms : List ℕ) → chain (RowC ∷ of f ms) ≡ true → in_scope wanted ends ms ≡ true → ⊥
    on_row [] k l = never k
    on_row (m ∷ ms) k l = cut (f m) refl (both (on RowC (f m)) (chain (of f (m ∷ ms))) k).0
      where
        cut : (d : Cls) → f m ≡ d → on RowC d ≡ true → ⊥
        cut TemplateC e o = ended m ms (ap ends_it e) l
        cut GroupC e o = on_host ms GroupC host refl (subst (λ d. chain (d ∷ of f ms) ≡ true) e (both (on RowC (f m)) (chain (of f (m ∷ ms))) k).1)
            (later_scope (wanted m) (ends m) (in_scope wanted ends ms) (wanted_not f wanted only m (ap is_body e)) l)
        cut _ e o = never o

    deep : (ms : List ℕ) → chain (PlainC ∷ of f ms) ≡ true → chain (of f ms) ≡ true
    deep [] k = never k
    deep (m ∷ ms) k = (both (on PlainC (f m)) (chain (of f (m ∷ ms))) k).1

    by : (c : Cls) → f n ≡ c → (ms : List ℕ) → chain (c ∷ of f ms) ≡ true → is_inner (elim (is_plain c) as (λ _. Cls) [ true ↦ context (of f ms) | false ↦ c ]) ≡ true →
        (is_body (f n) ≡ false → in_scope wanted ends ms ≡ true) →
        (chain (of f ms) ≡ true → is_inner (context (of f ms)) ≡ true → in_scope wanted ends ms ≡ true → context (of f ms) ≡ BodyC) →
        elim (is_plain c) as (λ _. Cls) [ true ↦ context (of f ms) | false ↦ c ] ≡ BodyC
    by PlainC e ms k j l go = go (deep ms k) j (l (ap is_body e))
    by BodyC e ms k j l go = refl
    by TemplateC e ms k j l go = absurd (ended n ns (ap ends_it e) scoped)
    by TableC e ms k j l go = absurd (ended n ns (ap ends_it e) scoped)
    by CellC e ms k j l go = absurd (ended n ns (ap ends_it e) scoped)
    by GroupC e ms k j l go = absurd (on_host ms GroupC host refl k (l (ap is_body e)))
    by CaptionC e ms k j l go = absurd (on_host ms CaptionC host refl k (l (ap is_body e)))
    by RowC e ms k j l go = absurd (on_row ms k (l (ap is_body e)))
    by _ e ms k j l go = never j

-- ---- no template

templates_none : (cs : List Cls) → at_most (templates_in cs) 0 ≡ true → list_any is_template cs ≡ false
templates_none [] h = refl
templates_none (c ∷ cs) h = by (is_template c) h (λ k. templates_none cs k)
  where
    by : (x : Bool) → at_most (elim x as (λ _. ℕ) [ true ↦ suc (templates_in cs) | false ↦ templates_in cs ]) 0 ≡ true →
        (at_most (templates_in cs) 0 ≡ true → list_any is_template cs ≡ false) → x || list_any is_template cs ≡ false
    by true k go = never k
    by false k go = go k

no_modes : (modes : List Mode) (n : ℕ) → not (not (is_empty modes)) ≡ true → at_most n (length modes) ≡ true → at_most n 0 ≡ true
no_modes [] n e h = h
no_modes (mode ∷ modes) n e h = never e

template_element : (c : Cls) → is_template c ≡ true → is_element c ≡ true
template_element TemplateC h = refl
template_element _ h = never h

none_open : (t : GrowingTree) (s : List ℕ) → not (list_any (is_one t (codes "template" ∷ [])) s) ≡ true → list_any is_template (of (class_at (tags t.nodes)) s) ≡ false
none_open t [] h = refl
none_open t (n ∷ ns) h = by (is_template (class_at (tags t.nodes) n)) (is_one t (codes "template" ∷ []) n) refl refl h (λ k. none_open t ns k)
  where
    by : (x y : Bool) → is_template (class_at (tags t.nodes) n) ≡ x → is_one t (codes "template" ∷ []) n ≡ y →
        not (y || list_any (is_one t (codes "template" ∷ [])) ns) ≡ true →
        (not (list_any (is_one t (codes "template" ∷ [])) ns) ≡ true → list_any is_template (of (class_at (tags t.nodes)) ns) ≡ false) →
        x || list_any is_template (of (class_at (tags t.nodes)) ns) ≡ false
    by x true e g k go = never k
    by true false e g k go = never (sym g ∙ class_is_one is_template (codes "template" ∷ []) refl refl t n (template_element _ e) e)
    by false false e g k go = go k

caption_odd : (c : Cls) → is_caption_class c ≡ true → c ≡ CaptionC
caption_odd CaptionC h = refl
caption_odd _ h = never h

not_plain : (c : Cls) → c ≡ CaptionC → is_plain c ≡ false
not_plain c e = ap is_plain e

-- ---- what the tests of a rule say

sure_at : (r : ℕ) (range : Range) (peak : Peak) (kept sure : Bool) (b : Building) → (c : Site) → InTree r c b.tree → RangeIs range c b → Few c b → PeakIs peak c b.tree →
    Rattle.standard_order.proofs.PartPhases.KeptIs kept b → list_any is_template (cls b.tree) ≡ false → InnerAt r range peak kept true b
sure_at r range peak kept sure b c i ranged few peaked was none =
    (c, i, ranged, few, peaked, was, no_template_body (cls b.tree) i.chained (ap is_inner i.within ∙ i.inner) none)

inner_fact_at : (r : ℕ) (range : Range) (peak : Peak) (kept sure : Bool) (info : Info) (test : Test) (b : Building) → holds_of info b.token ≡ true →
    is_met b test ≡ true → InnerAt r range peak kept sure b → PhaseAt r (inner_fact range peak kept sure info test) b
inner_fact_at r range peak kept sure info (is (InScope TableScope names)) b h met (c, i, ranged, few, peaked, was, sured) = by (are_tabular info names) refl
  where
    by : (x : Bool) → are_tabular info names ≡ x → PhaseAt r (elim x as (λ _. Phase) [
      | true ↦ Inner (Rattle.standard_order.proofs.PartPhases.without_template range) peak kept sure
      | false ↦ Inner range peak kept sure
    ]) b
    by true e = (
      c,
      i,
      narrowed_is range (filter (λ d. not (is_template d)) (classes_in range)) c b ranged
          (has_filtered (λ d. not (is_template d)) (classes_in range) c.inner (no_template r c info names b h e met i) (class_told r range c b i ranged)),
      few,
      peaked,
      was,
      sured,
    )
    by false e = (c, i, ranged, few, peaked, was, sured)
inner_fact_at r range peak kept sure info (is (InScope Scope (These names))) b h met (c, i, ranged, few, peaked, was, sured) = by (same_names names (codes "body" ∷ [])) refl
  where
    body : same_names names (codes "body" ∷ []) ≡ true → c.inner ≡ BodyC
    body e = sym i.within ∙ body_scoped (class_at (tags b.tree.nodes)) (is_one b.tree names) (ends_scope Scope b.tree)
        (subst (λ ns. (n : ℕ) → is_one b.tree ns n ≡ true → is_body (class_at (tags b.tree.nodes) n) ≡ true) (sym (names_same names (codes "body" ∷ []) e))
        (λ n k. one_any is_body (codes "body" ∷ []) refl (λ name. refl) (λ name. refl) refl b.tree.nodes n k)) (scope_ends Scope refl b.tree) b.tree.stack i.chained
        (ap is_inner i.within ∙ i.inner) met

    by : (x : Bool) → same_names names (codes "body" ∷ []) ≡ x → PhaseAt r (elim x as (λ _. Phase) [
      | true ↦ Inner (narrowed range (BodyC ∷ [])) peak kept sure
      | false ↦ Inner range peak kept sure
    ]) b
    by true e = (c, i, narrowed_is range (BodyC ∷ []) c b ranged (ap (has_class (BodyC ∷ [])) (body e)), few, peaked, was, sured)
    by false e = (c, i, ranged, few, peaked, was, sured)
inner_fact_at r range peak kept sure info (is (CurrentNode (These names))) b h met (c, i, ranged, few, peaked, was, sured) =
    by (plain_names names) (same_names names (codes "colgroup" ∷ [])) refl refl
  where
    f : ℕ → Cls
    f = class_at (tags b.tree.nodes)

    column : same_names names (codes "colgroup" ∷ []) ≡ true → first (cls b.tree) ≡ CaptionC
    column e = sym (first_of (class_at (tags b.tree.nodes)) b.tree.stack (stack_filled r c b.tree i))
        ∙ caption_odd _ (one_any is_caption_class (codes "colgroup" ∷ []) refl (λ name. refl) (λ name. refl) refl b.tree.nodes (current b.tree)
        (subst (λ ns. is_one b.tree ns (current b.tree) ≡ true) (names_same names (codes "colgroup" ∷ []) e) met))

    same : same_names names (codes "colgroup" ∷ []) ≡ true → c.inner ≡ CaptionC
    same e = sym i.within ∙ context_first (cls b.tree) (not_plain _ (column e)) ∙ column e

    by : (x y : Bool) → plain_names names ≡ x → same_names names (codes "colgroup" ∷ []) ≡ y → PhaseAt r (elim x as (λ _. Phase) [
      | true ↦ Inner range Ordinary kept sure
      | false ↦ elim y as (λ _. Phase) [ true ↦ Inner (narrowed range (CaptionC ∷ [])) Innermost kept sure | false ↦ Inner range peak kept sure ]
    ]) b
    by true y e g = (c, i, ranged, few, only_these names e b.tree (current b.tree) met, was, sured)
    by false true e g = (c, i, narrowed_is range (CaptionC ∷ []) c b ranged (ap (has_class (CaptionC ∷ [])) (same g)), few, column g ∙ sym (same g), was, sured)
    by false false e g = (c, i, ranged, few, peaked, was, sured)
inner_fact_at r range peak kept sure info (is (SecondElement (These names))) b h met (c, i, ranged, few, peaked, was, sured) = by (same_names names (codes "body" ∷ [])) refl
  where
    by : (x : Bool) → same_names names (codes "body" ∷ []) ≡ x → PhaseAt r (elim x as (λ _. Phase) [
      | true ↦ Inner range BodySecond kept sure
      | false ↦ Inner range peak kept sure
    ]) b
    by true e = (
      c,
      i,
      ranged,
      few,
      subst (λ ns. option_map_or (is_one b.tree ns) (second_of b.tree.stack) false ≡ true) (names_same names (codes "body" ∷ []) e) met,
      was,
      sured,
    )
    by false e = (c, i, ranged, few, peaked, was, sured)
inner_fact_at r range peak kept sure info (isnt TemplateModeSet) b h met (c, i, ranged, few, peaked, was, sured) =
    sure_at r range peak kept sure b c i ranged few peaked was
    (templates_none (cls b.tree) (subst (λ n. at_most n 0 ≡ true) (sym i.few) (no_modes b.template_modes c.templates met few)))
inner_fact_at r range peak kept sure info (isnt TemplateOpen) b h met (c, i, ranged, few, peaked, was, sured) =
    sure_at r range peak kept sure b c i ranged few peaked was (none_open b.tree b.tree.stack met)
inner_fact_at r range peak kept sure info _ b h met inner = inner

part_fact_at : (r : ℕ) (info : Info) (test : Test) (phase : Phase) (b : Building) → holds_of info b.token ≡ true → is_met b test ≡ true → PhaseAt r phase b →
    PhaseAt r (part_fact info test phase) b
part_fact_at r info test (Inner range peak kept sure) b h met p = inner_fact_at r range peak kept sure info test b h met p
part_fact_at r info test _ b h met p = p

part_facts_at : (r : ℕ) (info : Info) (tests : List Test) (phase : Phase) (b : Building) → holds_of info b.token ≡ true → list_all (is_met b) tests ≡ true →
    PhaseAt r phase b → PhaseAt r (part_facts info tests phase) b
part_facts_at r info [] phase b h met p = p
part_facts_at r info (test ∷ tests) phase b h met p =
    part_facts_at r info tests (part_fact info test phase) b h (both (is_met b test) (list_all (is_met b) tests) met).1
    (part_fact_at r info test phase b h (both (is_met b test) (list_all (is_met b) tests) met).0 p)

-- ---- the rules before

abbrev pub PriorsSo : List Prior → Building → Type 0
PriorsSo [] b = Unit {0}
PriorsSo (prior ∷ priors) b = PriorSo prior b × PriorsSo priors b

all_met : (b : Building) (some others : List Test) → list_all (is_met b) some ≡ true → list_all (is_met b) others ≡ true → list_all (is_met b) (some ++ others) ≡ true
all_met b [] others h k = k
all_met b (test ∷ some) others h k =
    let two : (is_met b test ≡ true) × (list_all (is_met b) some ≡ true) = both (is_met b test) (list_all (is_met b) some) h in
    ap (λ x. x && list_all (is_met b) (some ++ others)) two.0 ∙ all_met b some others two.1 k

priors_met : (priors : List Prior) (pattern : Pattern) (b : Building) → PriorsSo priors b → fits pattern b.token ≡ true →
    list_all (is_met b) (all_facts priors pattern) ≡ true
priors_met [] pattern b so f = refl
priors_met (prior ∷ priors) pattern b so f =
    all_met b (prior_facts prior pattern) (all_facts priors pattern) (prior_met prior pattern b so.0 f) (priors_met priors pattern b so.1 f)

-- ---- the rule that is taken

-- the acts with what is known when they begin
abbrev pub PartReady : ℕ → List Act → Building → Type 0
PartReady r acts b = (level : Level) × (phase : Phase) × (info : Info) × (tests : List Test) × (pattern : Pattern) × (out : Bool) ×
    (holds_of info b.token ≡ true) × At level b × PhaseAt r phase b × (list_all (is_met b) tests ≡ true) × (fits pattern b.token ≡ true) ×
    (out ≡ true → b.token ≡ AnEof → ⊥) × (pattern_begins level phase tests info out pattern acts ≡ true)

end_fits : (ps : List Pattern) (t : Token) → t ≡ AnEof → list_any may_end ps ≡ true → list_any (λ p. fits p t) ps ≡ true
end_fits ps t e h = subst (λ u. list_any (λ p. fits p u) ps ≡ true) (sym e) (by ps h)
  where
    one : (p : Pattern) → may_end p ≡ true → fits p AnEof ≡ true
    one Rattle.standard_trees.specs.RuleWords.EndOfFile k = refl
    one Anything k = refl
    one _ k = never k

    by : (ps : List Pattern) → list_any may_end ps ≡ true → list_any (λ p. fits p AnEof) ps ≡ true
    by [] k = never k
    by (p ∷ ps) k = cut (may_end p) refl k (λ l. by ps l)
      where
        or_later : (x : Bool) → list_any (λ q. fits q AnEof) ps ≡ true → x || list_any (λ q. fits q AnEof) ps ≡ true
        or_later true l = refl
        or_later false l = l

        cut : (x : Bool) → may_end p ≡ x → x || list_any may_end ps ≡ true → (list_any may_end ps ≡ true → list_any (λ q. fits q AnEof) ps ≡ true) →
            fits p AnEof || list_any (λ q. fits q AnEof) ps ≡ true
        cut true f l go = ap (λ x. x || list_any (λ q. fits q AnEof) ps) (one p f)
        cut false f l go = or_later (fits p AnEof) (go l)

nil_met : (tests : List Test) (b : Building) → is_nil tests ≡ true → list_all (is_met b) tests ≡ false → ⊥
nil_met [] b n f = never (sym f)
nil_met (test ∷ tests) b n f = never n

pub taken_part : (r : ℕ) (skip : List (List ℕ) → List (List ℕ) → Pattern → Bool) (level : Level) (phase : Phase) (b : Building) (rs : List Rule) (priors : List Prior)
    (starts ends_ : List (List ℕ)) (out : Bool) →
    ((starts ends_ : List (List ℕ)) (p : Pattern) → rules_out starts ends_ b.token → fits p b.token ≡ true → skip starts ends_ p ≡ true → ⊥) →
    At level b → PhaseAt r phase b → PriorsSo priors b → rules_out starts ends_ b.token → (out ≡ true → b.token ≡ AnEof → ⊥) →
    rules_part skip level phase priors starts ends_ out rs ≡ true → PartReady r (taken b rs) b
unfolding taken
taken_part r skip level phase b [] priors starts ends_ out skipped at p so ruled over pass = (
  level,
  phase,
  Any [] [],
  [],
  Anything,
  out,
  any_holds b.token,
  at,
  p,
  refl,
  refl,
  over,
  ending (Rattle.standard_order.proofs.PartPhases.is_never level) (part_ends phase) out pass,
)
  where
    ending : (x y z : Bool) → y && z ≡ true → x || (y && (z || false)) ≡ true
    ending true y z h = refl
    ending false true true h = refl
    ending false true false h = never h
    ending false false z h = never h
taken_part r skip level phase b (rule ps tests acts ∷ more) priors starts ends_ out skipped at p so ruled over pass =
    by (list_any (λ q. fits q b.token) ps) (list_all (is_met b) tests) refl refl (both _ _ pass).0
    (λ k q o. taken_part r skip level phase b more (prior_of ps tests ∷ priors) (ruled_out tests (start_names ps) starts) (ruled_out tests (end_names ps) ends_)
    (out || (is_nil tests && list_any may_end ps)) skipped at p (q, so) k o (both _ _ pass).1)
  where
    facts : Pattern → List Test
    facts q = tests ++ all_facts priors q

    ok : Pattern → Bool
    ok q = skip starts ends_ q || pattern_begins (with_facts (tests ++ all_facts priors q) level) (part_facts (info_of starts ends_ q) (tests ++ all_facts priors q) phase)
        tests (info_of starts ends_ q) out q acts

    found : list_all (is_met b) tests ≡ true → (q : Pattern) × (ok q ≡ true) × (fits q b.token ≡ true) → PartReady r acts b
    found met one =
        let known : list_all (is_met b) (tests ++ all_facts priors one.0) ≡ true =
        all_met b tests (all_facts priors one.0) met (priors_met priors one.0 b so one.2) in (
          with_facts (tests ++ all_facts priors one.0) level,
          part_facts (info_of starts ends_ one.0) (tests ++ all_facts priors one.0) phase,
          info_of starts ends_ one.0,
          tests,
          one.0,
          out,
          info_holds starts ends_ one.0 b.token ruled one.2,
          facts_at (tests ++ all_facts priors one.0) level b known at,
          part_facts_at r (info_of starts ends_ one.0) (tests ++ all_facts priors one.0) phase b (info_holds starts ends_ one.0 b.token ruled one.2) known p,
          met,
          one.2,
          over,
          second _ _ (λ s. skipped starts ends_ one.0 ruled one.2 s) one.1,
        )

    more_out : (list_any (λ q. fits q b.token) ps ≡ false) ⊎ (list_all (is_met b) tests ≡ false) → out || (is_nil tests && list_any may_end ps) ≡ true →
        b.token ≡ AnEof → ⊥
    more_out unfit h e = cut (either_so out (is_nil tests && list_any may_end ps) h) unfit
      where
        cut : (out ≡ true) ⊎ (is_nil tests && list_any may_end ps ≡ true) →
            (list_any (λ q. fits q b.token) ps ≡ false) ⊎ (list_all (is_met b) tests ≡ false) → ⊥
        cut (inl o) u = over o e
        cut (inr k) (inl u) = never (sym u ∙ end_fits ps b.token e (both (is_nil tests) (list_any may_end ps) k).1)
        cut (inr k) (inr u) = nil_met tests b (both (is_nil tests) (list_any may_end ps) k).0 u

    by : (x y : Bool) → list_any (λ q. fits q b.token) ps ≡ x → list_all (is_met b) tests ≡ y → list_all ok ps ≡ true →
        (rules_out (ruled_out tests (start_names ps) starts) (ruled_out tests (end_names ps) ends_) b.token → PriorSo (prior_of ps tests) b →
        (out || (is_nil tests && list_any may_end ps) ≡ true → b.token ≡ AnEof → ⊥) → PartReady r (taken b more) b) →
        PartReady r (elim x as (λ _. List Act) [ true ↦ elim y as (λ _. List Act) [ true ↦ acts | false ↦ taken b more ] | false ↦ taken b more ]) b
    by true true e f all go = found f (fitting ok (λ q. fits q b.token) ps all e)
    by true false e f all go = go (out_same starts ends_ (start_names ps) (end_names ps) tests b f ruled) (prior_unmet ps tests b f) (more_out (inr f))
    by false y e f all go = go (out_more starts ends_ ps tests b.token ruled e) (prior_unfit ps tests b e) (more_out (inl e))

-- ---- the end of a page

context_body : (cs : List Cls) → context cs ≡ BodyC → has_body cs ≡ true
context_body [] h = no h
  where
    is_none : Cls → Bool
    is_none NoC = true
    is_none _ = false

    no : NoC ≡ BodyC → has_body [] ≡ true
    no e = never (sym (ap is_none e))
context_body (c ∷ cs) h = by (is_plain c) h (λ k. context_body cs k)
  where
    later : (x : Bool) → has_body cs ≡ true → x || has_body cs ≡ true
    later true k = refl
    later false k = k

    by : (x : Bool) → elim x as (λ _. Cls) [ true ↦ context cs | false ↦ c ] ≡ BodyC → (context cs ≡ BodyC → has_body cs ≡ true) → is_body c || has_body cs ≡ true
    by true k go = later (is_body c) (go k)
    by false k go = ap (λ d. is_body d || has_body cs) k

-- the page has its parts
abbrev pub Whole : Building → Type 0
Whole b = roots_have_parts b.tree ≡ true

bodied_whole : (r : ℕ) (c : Site) (t : GrowingTree) → has_body (cls t) ≡ true → InTree r c t → roots_have_parts t ≡ true
bodied_whole r c t body i =
    whole_parts r Bodied t refl (subst (λ x. Nodes r (elim x as (λ _. Parts) [ true ↦ Bodied | false ↦ Headed ]) t.nodes) body i.nodes)

pub whole_phase : (r : ℕ) (phase : Phase) (b : Building) → is_whole_phase phase ≡ true → PhaseAt r phase b → Whole b
whole_phase r (Inner range peak kept true) b h (c, i, ranged, few, peaked, was, sured) = bodied_whole r c b.tree sured i
whole_phase r (Inner range peak kept false) b h (c, i, ranged, few, peaked, was, sured) =
    bodied_whole r c b.tree (context_body (cls b.tree) (i.within ∙ body_class c.inner (each_class is_body (classes_in range) c.inner h (class_told r range c b i ranged)))) i
  where
    body_class : (d : Cls) → is_body d ≡ true → d ≡ BodyC
    body_class BodyC k = refl
    body_class _ k = never k
whole_phase r (Rattle.standard_order.proofs.PartPhases.Framing known kept) b h p = whole_parts r Framed b.tree refl p.0.nodes
whole_phase r _ b h p = never h
