-- "Reset the insertion mode appropriately" gives a mode that suits the stack.
use Rattle.std.specs.Prelude.{◌≡◌, ◌||◌, ◌⊎◌, refl, ℕ, Bool, true, false, not, ◌&&◌, List, [], ◌∷◌, Option, None, Some, bytes_eq, codes}
use Rattle.std.specs.Prelude.{unwrap_or}
use Rattle.std.proofs.Common.{inl, inr}
use Rattle.std.specs.List.{list_all, list_any}
use Rattle.std.proofs.lemmas.Option.{same_Some}
use Rattle.std.proofs.lemmas.Slice.Eq.{bytes_eq-Decides}
use mathlib.Core.Path.{◌∙◌, sym, ap, subst}
use Rattle.standard_trees.specs.RuleWords.{AfterAfterBody, AfterAfterFrameset, AfterBody, AfterFrameset, AfterHead, BeforeHead, BeforeHtml}
use Rattle.standard_trees.specs.RuleWords.{Dispatcher, ForeignContent, InBody, InCaption, InCell, InColumnGroup, InFrameset, InHead}
use Rattle.standard_trees.specs.RuleWords.{Always, HeadPointerIsSet, InHeadNoscript, NodeTest, NotTopmost}
use Rattle.standard_trees.specs.RuleWords.{InRow, InTable, InTableBody, InTableText, InTemplate, Initial, Mode, Reset, Text, reset_to}
use Rattle.standard_trees.specs.RuleWords.{reset_to_template_mode}
use Rattle.standard_trees.specs.TreeRules.{resets}
use Rattle.standard_trees.specs.TreeStore.{Kind, key_in}
use Rattle.standard_trees.specs.GrowingTree.{GrowingTree, is_among, key, kind_of}
use Rattle.standard_trees.specs.Building.{node_test, reset_by, reset_from, top_mode}
use Rattle.standard_order.proofs.Labels.{Is as IsAt, Label, at_kind, is_at, kind_at, labels}
use Rattle.standard_order.proofs.StandingStacks.{Closed, Has, Inside, IsHead, Stands, allowed, both, cell, cells, head, html, never}
use Rattle.standard_order.proofs.StandingStacks.{opposite, plain, template, pushed_on}
use Rattle.standard_order.proofs.Levels.{has_all, is_cell, is_content, is_inside}
use Rattle.standard_order.proofs.LevelFacts.{Content}
use Rattle.standard_order.proofs.GoodTrees.{IsHeadPointer, among_more, is_whole}
use Rattle.standard_order.proofs.Labels.{at_both}
use Rattle.standard_order.proofs.LevelTrees.{plain_from}

pub key_is : (one name : List ℕ) → is_among name (one ∷ []) ≡ true → name ≡ one
key_is one name h = by (bytes_eq name one) refl h
  where
    by : (x : Bool) → bytes_eq name one ≡ x → x || false ≡ true → name ≡ one
    by true e k = (bytes_eq-Decides name one).0 e
    by false e k = cc

content_inside : (mode : Mode) → is_content mode ≡ true → (is_inside mode ≡ true) × (is_cell mode ≡ false)
content_inside Dispatcher h = cc
content_inside Initial h = cc
content_inside BeforeHtml h = cc
content_inside BeforeHead h = cc
content_inside InHead h = cc
content_inside InHeadNoscript h = cc
content_inside AfterHead h = cc
content_inside InBody h = (refl, refl)
content_inside Text h = cc
content_inside InTable h = (refl, refl)
content_inside InTableText h = cc
content_inside InCaption h = cc
content_inside InColumnGroup h = (refl, refl)
content_inside InTableBody h = (refl, refl)
content_inside InRow h = (refl, refl)
content_inside InCell h = cc
content_inside InTemplate h = (refl, refl)
content_inside AfterBody h = cc
content_inside InFrameset h = cc
content_inside AfterFrameset h = cc
content_inside AfterAfterBody h = cc
content_inside AfterAfterFrameset h = cc
content_inside ForeignContent h = cc

top_inside : (modes : List Mode) → Content modes → (is_inside (top_mode modes) ≡ true) × (is_cell (top_mode modes) ≡ false)
top_inside [] h = (refl, refl)
top_inside (mode ∷ modes) h = content_inside mode (both (is_content mode) (list_all is_content modes) h).0

-- a mode for such a name
abbrev pub Suits : List ℕ → Mode → Type 0
Suits name mode = (is_inside mode ≡ true) × (is_cell mode ≡ true → is_among name cells ≡ true)

abbrev pub suits_all : Reset → Bool
suits_all (reset_to names test mode) = has_all names (codes "html" ∷ codes "head" ∷ codes "frameset" ∷ []) || (is_inside mode &&
    (not (is_cell mode) || has_all names cells))
suits_all (reset_to_template_mode names) = true

reset_suits : (rs : List Reset) → list_all suits_all rs ≡ true → (name : List ℕ) →
    not (is_among name (codes "html" ∷ codes "head" ∷ codes "frameset" ∷ [])) ≡ true → (modes : List Mode) → Content modes →
    (h : Option ℕ) (above : List ℕ) (mode : Mode) → reset_by rs name modes h above ≡ Some mode → Suits name mode
reset_suits [] all name ok modes content h above mode e = cc
reset_suits (reset_to_template_mode names ∷ more) all name ok modes content h above mode e =
    by (is_among name names) e (λ k. reset_suits more all name ok modes content h above mode k)
  where
    by : (x : Bool) → elim x as (λ _. Option Mode) [ true ↦ Some (top_mode modes) | false ↦ reset_by more name modes h above ] ≡ Some mode →
        (reset_by more name modes h above ≡ Some mode → Suits name mode) → Suits name mode
    by true k go = subst (Suits name) (same_Some (top_mode modes) mode k) (
      (top_inside modes content).0,
      λ c. never (sym (top_inside modes content).1 ∙ c),
    )
    by false k go = go k
reset_suits (reset_to names test one ∷ more) all name ok modes content h above mode e =
    by (is_among name names) (node_test test h above) refl e (λ k. reset_suits more parts.1 name ok modes content h above mode k)
  where
    parts : (suits_all (reset_to names test one) ≡ true) × (list_all suits_all more ≡ true)
    parts = both (suits_all (reset_to names test one)) (list_all suits_all more) all

    fits : is_among name names ≡ true → Suits name one
    fits f = kinds (has_all names (codes "html" ∷ codes "head" ∷ codes "frameset" ∷ [])) (is_inside one) (is_cell one) (has_all names cells)
        refl refl refl refl parts.0
      where
        kinds : (x y z w : Bool) → has_all names (codes "html" ∷ codes "head" ∷ codes "frameset" ∷ []) ≡ x → is_inside one ≡ y →
            is_cell one ≡ z → has_all names cells ≡ w → x || (y && (not z || w)) ≡ true → Suits name one
        kinds true y z w a b c d k = absurd (opposite (is_among name (codes "html" ∷ codes "head" ∷ codes "frameset" ∷ [])) ok
            (among_more name names (codes "html" ∷ codes "head" ∷ codes "frameset" ∷ []) a f))
        kinds false true false w a b c d k = (b, λ g. never (sym c ∙ g))
        kinds false true true true a b c d k = (b, λ g. among_more name names cells d f)
        kinds false true true false a b c d k = cc
        kinds false false z w a b c d k = cc

    by : (x y : Bool) → is_among name names ≡ x → elim (x && y) as (λ _. Option Mode) [
      | true ↦ Some one
      | false ↦ reset_by more name modes h
          above
    ] ≡ Some mode → (reset_by more name modes h above ≡ Some mode → Suits name mode) → Suits name mode
    by true true f k go = subst (Suits name) (same_Some one mode k) (fits f)
    by true false f k go = go k
    by false y f k go = go k

-- a template is decisive
template_decides : (name : List ℕ) → is_among name (codes "template" ∷ []) ≡ true → (modes : List Mode) (h : Option ℕ) (above : List ℕ) →
    reset_by resets name modes h above ≡ None → ⊥
template_decides name is modes h above e = clash (sym (ap (λ n. reset_by resets n modes h above) (key_is (codes "template") name is)) ∙ e)
  where
    clash : Some (top_mode modes) ≡ None → ⊥
    clash f = cc

-- ---- at the outermost element

-- the modes for `html`, and for a context element of that name
abbrev pub is_last : Mode → Bool
is_last AfterHead = true
is_last InFrameset = true
is_last _ = false

-- a mode inside in which no cell is claimed, or one of those
abbrev pub is_outer : Mode → Bool
is_outer mode = (is_inside mode && not (is_cell mode)) || is_last mode

abbrev pub needs_more : NodeTest → Bool
needs_more NotTopmost = true
needs_more Always = false
needs_more HeadPointerIsSet = false

abbrev pub outer_all : Reset → Bool
outer_all (reset_to names test mode) = has_all names (codes "html" ∷ []) || (needs_more test || is_outer mode)
outer_all (reset_to_template_mode names) = true

top_outer : (modes : List Mode) → Content modes → is_outer (top_mode modes) ≡ true
top_outer modes content =
    ap (λ x. (x && not (is_cell (top_mode modes))) || is_last (top_mode modes)) (top_inside modes content).0
    ∙ ap (λ x. not x || is_last (top_mode modes)) (top_inside modes content).1

reset_outer : (rs : List Reset) → list_all outer_all rs ≡ true → (name : List ℕ) → is_among name (codes "html" ∷ []) ≡ false →
    (modes : List Mode) → Content modes → (h : Option ℕ) → is_outer (unwrap_or (reset_by rs name modes h []) InBody) ≡ true
reset_outer [] all name other modes content h = refl
reset_outer (reset_to_template_mode names ∷ more) all name other modes content h =
    by (is_among name names) (reset_outer more all name other modes content h)
  where
    by : (x : Bool) → is_outer (unwrap_or (reset_by more name modes h []) InBody) ≡ true →
        is_outer (unwrap_or (elim x as (λ _. Option Mode) [ true ↦ Some (top_mode modes) | false ↦ reset_by more name modes h [] ]) InBody) ≡ true
    by true go = top_outer modes content
    by false go = go
reset_outer (reset_to names test one ∷ more) all name other modes content h =
    by (is_among name names) (node_test test h []) refl refl (reset_outer more parts.1 name other modes content h)
  where
    parts : (outer_all (reset_to names test one) ≡ true) × (list_all outer_all more ≡ true)
    parts = both (outer_all (reset_to names test one)) (list_all outer_all more) all

    outer : is_among name names ≡ true → (x : Bool) → has_all names (codes "html" ∷ []) ≡ x → x || is_outer one ≡ true → is_outer one ≡ true
    outer f true a k = never (sym other ∙ among_more name names (codes "html" ∷ []) a f)
    outer f false a k = k

    at_node : (when : NodeTest) → test ≡ when → is_among name names ≡ true → node_test when h [] ≡ true → is_outer one ≡ true
    at_node NotTopmost e f k = never k
    at_node Always e f k = outer f (has_all names (codes "html" ∷ [])) refl
        (ap (λ w. has_all names (codes "html" ∷ []) || (needs_more w || is_outer one)) (sym e) ∙ parts.0)
    at_node HeadPointerIsSet e f k = outer f (has_all names (codes "html" ∷ [])) refl
        (ap (λ w. has_all names (codes "html" ∷ []) || (needs_more w || is_outer one)) (sym e) ∙ parts.0)

    by : (x y : Bool) → is_among name names ≡ x → node_test test h [] ≡ y → is_outer (unwrap_or (reset_by more name modes h []) InBody) ≡ true →
        is_outer (unwrap_or (elim (x && y) as (λ _. Option Mode) [ true ↦ Some one | false ↦ reset_by more name modes h [] ]) InBody) ≡ true
    by true true f k go = at_node test refl f k
    by true false f k go = go
    by false y f k go = go

-- the mode for a stack
abbrev pub Fits : GrowingTree → List ℕ → Mode → Type 0
Fits t s mode = ((is_inside mode ≡ true) × (is_cell mode ≡ true → Has cell (labels t.nodes) s)) ⊎ ((is_last mode ≡ true) × Stands Closed
    (labels t.nodes) s)

outer_fits : (t : GrowingTree) (n : ℕ) (mode : Mode) → Stands Closed (labels t.nodes) (n ∷ []) → is_outer mode ≡ true → Fits t (n ∷ []) mode
outer_fits t n mode st h = by (is_inside mode) (is_cell mode) refl refl h
  where
    by : (x y : Bool) → is_inside mode ≡ x → is_cell mode ≡ y → (x && not y) || is_last mode ≡ true → Fits t (n ∷ []) mode
    by true false e f k = inl (e, λ c. never (sym f ∙ c))
    by true true e f k = inr (k, st)
    by false y e f k = inr (k, st)

at_last : (t : GrowingTree) (modes : List Mode) (n : ℕ) → IsHeadPointer (labels t.nodes) t.context t.head → Content modes →
    IsAt html (labels t.nodes) n → is_outer (reset_from t modes (n ∷ [])) ≡ true
at_last t modes n pointer content at = by t.context t.head pointer
  where
    named : (name : List ℕ) (h : ℕ) → is_among name (codes "html" ∷ []) ≡ true →
        is_outer (unwrap_or (reset_by resets name modes (Some h) []) InBody) ≡ true
    named name h e = ap (λ x. is_outer (unwrap_or (reset_by resets x modes (Some h) []) InBody)) (key_is (codes "html") name e)

    by : (o : Option Kind) (h : Option ℕ) → IsHeadPointer (labels t.nodes) o h →
        is_outer (unwrap_or (reset_by resets (key_in (unwrap_or o (kind_of t n))) modes h []) InBody) ≡ true
    by None (Some h) p = named (key t n) h (kind_at html t.nodes n at)
    by None None p = never (sym p)
    by (Some kind) h p = other (is_whole (Some kind)) refl h p
      where
        other : (x : Bool) → is_whole (Some kind) ≡ x → (h : Option ℕ) → IsHeadPointer (labels t.nodes) (Some kind) h →
            is_outer (unwrap_or (reset_by resets (key_in kind) modes h []) InBody) ≡ true
        other false e h p = reset_outer resets refl (key_in kind) e modes content h
        other true e (Some h) p = named (key_in kind) h e
        other true e None p = never (sym p ∙ e)

pub reset_fits : (t : GrowingTree) (modes : List Mode) → IsHeadPointer (labels t.nodes) t.context t.head → Content modes → (s : List ℕ) →
    Stands Inside (labels t.nodes) s → Fits t s (reset_from t modes s)
reset_fits t modes pointer content [] st = absurd st
reset_fits t modes pointer content (n ∷ []) (inl at_html) = outer_fits t n (reset_from t modes (n ∷ [])) (inl at_html) (at_last t modes n pointer content at_html.0)
reset_fits t modes pointer content (n ∷ []) (inr (inl at_head)) = absurd at_head.2
reset_fits t modes pointer content (n ∷ []) (inr (inr above)) = absurd above.1
reset_fits t modes pointer content (n ∷ m ∷ ns) (inl at_html) = absurd (no_more at_html.1)
  where
    no_more : m ∷ ns ≡ [] → ⊥
    no_more e = cc
reset_fits t modes pointer content (n ∷ m ∷ ns) (inr (inl at_head)) =
    inl (subst (λ mode. (is_inside mode ≡ true) × (is_cell mode ≡ true → Has cell (labels t.nodes) (n ∷ m ∷ ns))) (sym is) (
      two.0,
      λ c. never (sym two.1 ∙ c),
    ))
  where
    two : (is_inside (top_mode modes) ≡ true) × (is_cell (top_mode modes) ≡ false)
    two = top_inside modes content

    is : reset_from t modes (n ∷ m ∷ ns) ≡ top_mode modes
    is = ap (λ name. elim (reset_by resets name modes t.head (m ∷ ns)) as (λ _. Mode) [
      | Some mode ↦ mode
      | None ↦ reset_from t modes
          (m ∷ ns)
    ]) (key_is (codes "template") (key t n) (kind_at template t.nodes n at_head.1))
reset_fits t modes pointer content (n ∷ m ∷ ns) (inr (inr above)) = by (reset_by resets (key t n) modes t.head (m ∷ ns)) refl
    (reset_fits t modes pointer content (m ∷ ns) above.1)
  where
    ls : List Label
    ls = labels t.nodes

    outer_not : not (is_among (key t n) (codes "html" ∷ codes "head" ∷ codes "frameset" ∷ [])) ≡ true
    outer_not = kind_at (allowed Inside) t.nodes n above.0

    cell_at : is_among (key t n) cells ≡ true → Has cell ls (n ∷ m ∷ ns)
    cell_at c = ap (λ x. x || list_any (is_at cell ls) (m ∷ ns)) (at_kind (allowed Inside) cell t.nodes n above.0 c)

    with_more : (x : Bool) {y : Bool} → y ≡ true → x || y ≡ true
    with_more true k = refl
    with_more false k = k

    by : (o : Option Mode) → reset_by resets (key t n) modes t.head (m ∷ ns) ≡ o → Fits t (m ∷ ns) (reset_from t modes (m ∷ ns)) →
        Fits t (n ∷ m ∷ ns) (elim o as (λ _. Mode) [ Some mode ↦ mode | None ↦ reset_from t modes (m ∷ ns) ])
    by (Some mode) e rest =
        let suits : Suits (key t n) mode = reset_suits resets refl (key t n) outer_not modes content t.head (m ∷ ns) mode e in
        inl (suits.0, λ c. cell_at (suits.1 c))
    by None e (inl rest) = inl (rest.0, λ c. with_more (is_at cell ls n) (rest.1 c))
    by None e (inr rest) = inr (rest.0, pushed_on Closed ls n (m ∷ ns) is_plain rest.1)
      where
        not_template : not (is_among (key t n) (codes "template" ∷ [])) ≡ true
        not_template = test (is_among (key t n) (codes "template" ∷ [])) refl
          where
            test : (x : Bool) → is_among (key t n) (codes "template" ∷ []) ≡ x → not x ≡ true
            test true f = absurd (template_decides (key t n) f modes t.head (m ∷ ns) e)
            test false f = refl

        is_plain : IsAt plain ls n
        is_plain = at_both (allowed Inside) (λ l. not (is_among l.name (codes "template" ∷ []))) plain (plain_from Inside) ls n above.0
            (at_kind (allowed Inside) (λ l. not (is_among l.name (codes "template" ∷ []))) t.nodes n above.0 not_template)

pub head_resets : (t : GrowingTree) (modes : List Mode) (s : List ℕ) → IsHead (labels t.nodes) s → reset_from t modes s ≡ InHead
head_resets t modes [] h = absurd h
head_resets t modes (n ∷ []) h = absurd h.1
head_resets t modes (n ∷ m ∷ k ∷ ns) h = absurd h.1
head_resets t modes (n ∷ m ∷ []) h =
    ap (λ name. elim (reset_by resets name modes t.head (m ∷ [])) as (λ _. Mode) [ Some mode ↦ mode | None ↦ reset_from t modes (m ∷ []) ])
    (key_is (codes "head") (key t n) (kind_at head t.nodes n h.0))
