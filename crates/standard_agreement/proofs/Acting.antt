-- What single actions do in both definitions.
use Rattle.std.specs.Prelude.{◌≡◌, refl, ℕ, suc, ◌<◌, ◌≤◌, Bool, true, false, cond, not, ◌&&◌, ◌||◌, nat_eq, List, [], ◌∷◌, Option, None, Some, codes}
use Rattle.std.specs.Prelude.{drop}
use Rattle.std.proofs.Common.{arith}
use Rattle.std.proofs.lemmas.Bool.{true≢false}
use Rattle.std.proofs.lemmas.Option.{same_Some}
use mathlib.Core.Path.{◌∙◌, sym, ap, subst}
use Rattle.standard_rules.specs.Building.{Building, Entry as OldEntry, Open, adopted, adopted_by as old_adopted_by, ended_other, form_ended as old_form_ended, is_listed as old_is_listed, is_number}
use Rattle.standard_rules.specs.Building.{last_listed as old_last_listed, on_stack, popped, top_is, top_number, top_unlisted, unlisted as old_unlisted, with_stack as old_with_stack}
use Rattle.standard_rules.specs.PlainTrees.{flow_contexts}
use Rattle.standard_rules.specs.TreeTokens.{Trees, is_among}
use Rattle.standard_trees.specs.RuleWords.{Scope}
use Rattle.standard_trees.specs.TreeStore.{ElementNode, Html, Kind, NodeAttr, is_member, without}
use Rattle.standard_trees.specs.GrowingTree.{FormAt, FormOfContext, FormPointer, GrowingTree, NoForm, current, ends_scope, in_scope, is_named, is_one, past, beyond, top, with_stack}
use Rattle.standard_trees.specs.Formatting.{adopt, adopted_for, adopted_once, adoption, any_other_end, before_in, form_ended, is_listed, last_listed, last_special, unlisted}
use Rattle.standard_trees.specs.NameLists.{implied}
use Rattle.standard_trees.specs.Building.{Building as WholeBuilding, NoQuirks, with_tree}
use Rattle.standard_agreement.proofs.Names.{alike}
use Rattle.standard_agreement.proofs.Preorder.{after as after_all, grows}
use Rattle.standard_agreement.proofs.Store.{free, numbers}
use Rattle.standard_agreement.proofs.Stack.{kind_now, one_tests, same_self}
use Rattle.standard_agreement.proofs.Listing.{FormIs, FoundIs, Linked, last_is, listed_is, unlisted_is}
use Rattle.standard_agreement.proofs.Parts.{Parts, StackOp, alike_self, other_op, pop_op}

-- the context element, in both definitions
abbrev pub ContextIs : Option (List ℕ) → Option Kind → Type 0
ContextIs None None = Unit {0}
ContextIs (Some name) (Some kind) = (attrs : List NodeAttr) × (kind ≡ ElementNode Html name attrs None) × (is_among name flow_contexts ≡ true)
ContextIs _ _ = ⊥

-- the one state is the other, but for the modes
pub record Stands (around : Option Kind) (b : Building) (c : WholeBuilding) : Type 0 where
  pub parts : Parts b.document b.stack b.listed b.form b.next around c.tree
  pub context : ContextIs b.context around
  pub templates : c.template_modes ≡ []
  pub quirks : c.quirks ≡ NoQuirks
  pub skip : c.skip ≡ b.skip

-- ---- actions on the stack

pub stack_act : (f : List Open → Option (List Open)) (g : GrowingTree → GrowingTree) → StackOp f g → (around : Option Kind) (b after : Building) (c : WholeBuilding) → Stands around b c →
    on_stack b (f b.stack) ≡ Some after → Stands around after (with_tree c (g c.tree))
stack_act f g op around b after c s h = by_stack (f b.stack) refl h
  where
    by_stack : (o : Option (List Open)) → f b.stack ≡ o → on_stack b o ≡ Some after → Stands around after (with_tree c (g c.tree))
    by_stack None is k = cc
    by_stack (Some rest) is k =
        subst (λ (x : Building). Stands around x (with_tree c (g c.tree))) (same_Some (old_with_stack b rest) after k)
        (record { parts = op b.document b.stack b.listed b.form b.next around c.tree rest s.parts is; context = s.context; templates = s.templates; quirks = s.quirks; skip = s.skip })

-- ---- the current node

pub top_test : (names others : List (List ℕ)) → alike names others ≡ true → (document : Trees) (os : List Open) (es : List OldEntry) (form : Option ℕ) (next : ℕ) (around : Option Kind)
    (t : GrowingTree) → Parts document os es form next around t → is_one t names (current t) ≡ top_is others os
top_test names others same document [] es form next around t p = absurd p.fits.3
top_test names others same document (o ∷ os) es form next around t p =
    ap (λ s. is_one t names (top s)) p.stack ∙ one_tests t names others same (free document os) o.name o.attrs (kind_now t document o os [] p.fits.0) p.fits.2.0

unlisted_test : (document : Trees) (os : List Open) (es : List OldEntry) (form : Option ℕ) (next : ℕ) (around : Option Kind) (t : GrowingTree) → Parts document os es form next around t →
    not (is_listed t (current t)) ≡ elim os [ [] ↦ false | o ∷ os ↦ not (old_is_listed o.number es) ]
unlisted_test document [] es form next around t p = absurd p.fits.3
unlisted_test document (o ∷ os) es form next around t p =
    ap (λ s. not (is_listed t (top s))) p.stack ∙ ap not (listed_is t next document o os es t.listed p.listed)

-- ---- the adoption agency

adopted_top : (t : GrowingTree) (n : ℕ) (ns name : List ℕ) (again : GrowingTree → GrowingTree) → t.stack ≡ n ∷ ns → adopted_for (Some n) name again t ≡ unlisted n (with_stack t ns)
adopted_top t n ns name again is =
    ap (λ s. elim (is_member n s) [
      | false ↦ unlisted n t
      | true ↦ elim (in_scope (nat_eq n) (ends_scope Scope t) s) [ false ↦ t | true ↦ adopted_once n (last_special t None (before_in n s)) again t ]
    ]) is
    ∙ ap (λ x. elim (x || is_member n ns) [
      | false ↦ unlisted n t
      | true ↦ elim (x || (not (ends_scope Scope t n) && in_scope (nat_eq n) (ends_scope Scope t) ns)) [
        | false ↦ t
        | true ↦ adopted_once n (last_special t None (elim x [ true ↦ [] | false ↦ n ∷ before_in n ns ])) again t
      ]
    ]) (same_self n)
    ∙ ap (λ s. unlisted n (with_stack t (past (nat_eq n) s))) is
    ∙ ap (λ x. unlisted n (with_stack t (elim x [ true ↦ ns | false ↦ past (nat_eq n) ns ]))) (same_self n)

same_number : (m n : ℕ) → nat_eq m n ≡ true → m ≡ n
same_number m n h = grind arith

-- the element that was found is the current node
adopted_found : (around : Option Kind) (b after : Building) (c : WholeBuilding) → (os : List Open) → b.stack ≡ os → (k n : ℕ) (name found : List ℕ) (attrs : List _) (again : GrowingTree → GrowingTree) →
    Linked c.tree.nodes b.next b.document os k found attrs n → Parts b.document os b.listed b.form b.next around c.tree → Stands around b c →
    elim (is_number (top_number os) k) [ true ↦ on_stack (record b { listed = old_unlisted k b.listed }) (popped os) | false ↦ None ] ≡ Some after →
    Stands around after (with_tree c (adopted_for (Some n) name again c.tree))
adopted_found around b after c [] is k n name found attrs again l p s h = absurd p.fits.3
adopted_found around b after c (o ∷ os) is k n name found attrs again l p s h = by_number (nat_eq o.number k) refl h
  where
    document : Trees
    document = b.document

    m : ℕ
    m = free b.document os

    less : Parts b.document (o ∷ os) (old_unlisted o.number b.listed) b.form b.next around (unlisted m c.tree)
    less = record {
      fits = p.fits;
      stack = p.stack;
      listed = unlisted_is c.tree.nodes b.next b.document o os b.listed c.tree.listed p.listed;
      pointer = p.pointer;
      below = p.below;
      fostering = p.fostering;
      around = p.around;
    }

    here : Stands around (record b { stack = o ∷ os; listed = old_unlisted o.number b.listed }) (with_tree c (unlisted m c.tree))
    here = record { parts = less; context = s.context; templates = s.templates; quirks = s.quirks; skip = s.skip }

    there : on_stack (record b { listed = old_unlisted o.number b.listed }) (popped (o ∷ os)) ≡ Some after →
        Stands around after (with_tree c (with_stack (unlisted m c.tree) (drop 1 c.tree.stack)))
    there e =
        stack_act popped (λ t. with_stack t (drop 1 t.stack)) pop_op around (record b { stack = o ∷ os; listed = old_unlisted o.number b.listed }) after (with_tree c (unlisted m c.tree)) here e

    same : adopted_for (Some m) name again c.tree ≡ unlisted m (with_stack c.tree (drop 1 c.tree.stack))
    same = adopted_top c.tree m (numbers b.document os) name again p.stack ∙ ap (λ ns. unlisted m (with_stack c.tree (drop 1 ns))) (sym p.stack)

    by_number : (x : Bool) → nat_eq o.number k ≡ x → elim x [ true ↦ on_stack (record b { listed = old_unlisted k b.listed }) (popped (o ∷ os)) | false ↦ None ] ≡ Some after →
        Stands around after (with_tree c (adopted_for (Some n) name again c.tree))
    by_number false e j = cc
    by_number true e j =
        subst (λ i. Stands around after (with_tree c (adopted_for (Some i) name again c.tree))) (same_number m n (sym l.matched.0 ∙ e))
        (subst (λ (t : GrowingTree). Stands around after (with_tree c t)) (sym same)
        (there (ap (λ i. on_stack (record b { listed = old_unlisted i b.listed }) (popped (o ∷ os))) (same_number o.number k e) ∙ j)))

pub adoption_act : (around : Option Kind) (name : List ℕ) (b after : Building) (c : WholeBuilding) → Stands around b c → adopted name b ≡ Some after →
    Stands around after (with_tree c (adoption name c.tree))
adoption_act around name b after c s h =
    by_top (top_is (name ∷ []) b.stack && top_unlisted b)
    (is_one c.tree (name ∷ []) (current c.tree) && not (is_listed c.tree (current c.tree)))
    (ap (λ x. x && not (is_listed c.tree (current c.tree)))
    (top_test (name ∷ []) (name ∷ []) (alike_self (name ∷ [])) b.document b.stack b.listed b.form b.next around c.tree s.parts)
    ∙ ap (λ x. top_is (name ∷ []) b.stack && x) (unlisted_test b.document b.stack b.listed b.form b.next around c.tree s.parts)) h
  where
    by_found : (x : Option ℕ) (y : Option ℕ) → FoundIs c.tree.nodes b.next b.document b.stack x y → old_adopted_by name x b ≡ Some after →
        Stands around after (with_tree c (adopted_for y name (adopt 7 name) c.tree))
    by_found None None f k = stack_act (ended_other name) (any_other_end name) (other_op name) around b after c s k
    by_found None (Some n) f k = absurd f
    by_found (Some m) None f k = absurd f
    by_found (Some m) (Some n) f k = adopted_found around b after c b.stack refl m n name f.0 f.1 (adopt 7 name) f.2 s.parts s k

    by_top : (x y : Bool) → y ≡ x → elim x [ true ↦ on_stack b (popped b.stack) | false ↦ old_adopted_by name (old_last_listed (name ∷ []) b.listed) b ] ≡ Some after →
        Stands around after (with_tree c (elim y [ true ↦ with_stack c.tree (drop 1 c.tree.stack) | false ↦ adopt 8 name c.tree ]))
    by_top true true e k = stack_act popped (λ t. with_stack t (drop 1 t.stack)) pop_op around b after c s k
    by_top true false e k = cc
    by_top false true e k = cc
    by_top false false e k =
        by_found (old_last_listed (name ∷ []) b.listed) (last_listed c.tree (name ∷ []) c.tree.listed)
        (last_is c.tree b.next b.document b.stack (name ∷ []) (name ∷ []) (alike_self (name ∷ [])) b.listed c.tree.listed s.parts.listed) k

-- ---- the end tag of a form

without_numbers : (document : Trees) (n : ℕ) (os : List Open) → free document os ≤ n → without n (numbers document os) ≡ numbers document os
without_numbers document n [] h = refl
without_numbers document n (o ∷ os) h =
    let g : suc (free document os) ≤ after_all (suc (free document os)) o.children = grows (suc (free document os)) o.children in
    by_test (nat_eq (free document os) n) (other (free document os) n (omega arith)) (without_numbers document n os (omega arith))
  where
    other : (m k : ℕ) → m < k → nat_eq m k ≡ false
    other m k l = grind arith

    by_test : (x : Bool) → x ≡ false → without n (numbers document os) ≡ numbers document os →
        cond (not x) (free document os ∷ without n (numbers document os)) (without n (numbers document os)) ≡ numbers document (o ∷ os)
    by_test true e later = absurd (true≢false e)
    by_test false e later = ap (λ l. free document os ∷ l) later

ended_top : (t : GrowingTree) (document : Trees) (o : Open) (os : List Open) → t.stack ≡ numbers document (o ∷ os) → is_one t implied (free document os) ≡ false →
    form_ended (FormAt (free document os)) t ≡ with_stack t (numbers document os)
ended_top t document o os is bare =
    ap (λ s. elim (in_scope (nat_eq n) (ends_scope Scope t) s) [ true ↦ with_stack t (without n (beyond test s)) | false ↦ t ]) is
    ∙ ap (λ x. elim (x || (not (ends_scope Scope t n) && in_scope (nat_eq n) (ends_scope Scope t) ns)) [ true ↦ with_stack t (without n (beyond test (n ∷ ns))) | false ↦ t ]) (same_self n)
    ∙ ap (λ x. with_stack t (without n (elim (x && not (is_one t [] n)) [ true ↦ beyond test ns | false ↦ n ∷ ns ]))) bare
    ∙ ap (λ x. with_stack t (cond (not x) (n ∷ without n ns) (without n ns))) (same_self n)
    ∙ ap (with_stack t) (without_numbers document n os (omega arith))
  where
    n : ℕ
    n = free document os

    ns : List ℕ
    ns = numbers document os

    test : ℕ → Bool
    test m = is_one t implied m && not (is_one t [] m)

pub end_form_act : (around : Option Kind) (b after : Building) (c : WholeBuilding) → Stands around b c → old_form_ended b.form b ≡ Some after →
    Stands around after (with_tree c (form_ended c.tree.form (record c.tree { form = NoForm })))
end_form_act around b after c s h = by_form b.form c.tree.form s.parts.pointer refl h
  where
    free_tree : GrowingTree
    free_tree = record c.tree { form = NoForm }

    bare : (os : List Open) → Parts b.document os b.listed b.form b.next around c.tree → Parts b.document os b.listed None b.next around (record c.tree { form = NoForm })
    bare os p = record { fits = p.fits; stack = p.stack; listed = p.listed; pointer = tt; below = p.below; fostering = p.fostering; around = p.around }

    by_stack : (os : List Open) (k n : ℕ) → (attrs : List _) → Linked c.tree.nodes b.next b.document os k (codes "form") attrs n → Parts b.document os b.listed b.form b.next around c.tree →
        elim (is_number (top_number os) k) [ true ↦ on_stack (record b { form = None }) (popped os) | false ↦ None ] ≡ Some after →
        Stands around after (with_tree c (form_ended (FormAt n) (record c.tree { form = NoForm })))
    by_stack [] k n attrs l p j = absurd p.fits.3
    by_stack (o ∷ os) k n attrs l p j = by_number (nat_eq o.number k) refl j
      where
        m : ℕ
        m = free b.document os

        t : GrowingTree
        t = record c.tree { form = NoForm }

        here : Stands around (record b { stack = o ∷ os; form = None }) (with_tree c t)
        here = record {
          parts = record { fits = p.fits; stack = p.stack; listed = p.listed; pointer = tt; below = p.below; fostering = p.fostering; around = p.around };
          context = s.context;
          templates = s.templates;
          quirks = s.quirks;
          skip = s.skip;
        }

        same : m ≡ n → form_ended (FormAt m) t ≡ with_stack t (drop 1 t.stack)
        same e =
            ended_top t b.document o os p.stack (ap (λ i. is_one c.tree implied i) e ∙ ap (is_named implied) l.kind) ∙ ap (λ ns. with_stack t (drop 1 ns)) (sym p.stack)

        by_number : (x : Bool) → nat_eq o.number k ≡ x → elim x [ true ↦ on_stack (record b { form = None }) (popped (o ∷ os)) | false ↦ None ] ≡ Some after →
            Stands around after (with_tree c (form_ended (FormAt n) t))
        by_number false e i = cc
        by_number true e i =
            let g : m ≡ n = same_number m n (sym l.matched.0 ∙ e) in
            subst (λ q. Stands around after (with_tree c (form_ended (FormAt q) t))) g
            (subst (λ (u : GrowingTree). Stands around after (with_tree c u)) (sym (same g))
            (stack_act popped (λ u. with_stack u (drop 1 u.stack)) pop_op around (record b { stack = o ∷ os; form = None }) after (with_tree c t) here i))

    by_form : (x : Option ℕ) (y : FormPointer) → FormIs c.tree.nodes b.next b.document b.stack x y → x ≡ b.form → old_form_ended x b ≡ Some after →
        Stands around after (with_tree c (form_ended y (record c.tree { form = NoForm })))
    by_form None NoForm f e k =
        subst (λ (a : Building). Stands around a (with_tree c (record c.tree { form = NoForm }))) (same_Some b after k)
        (record { parts = subst (λ x. Parts b.document b.stack b.listed x b.next around (record c.tree { form = NoForm })) e (bare b.stack s.parts); context = s.context; templates = s.templates; quirks = s.quirks; skip = s.skip })
    by_form (Some m) (FormAt n) f e k = by_stack b.stack m n f.0 f.1 s.parts k
    by_form None (FormAt n) f e k = absurd f
    by_form None FormOfContext f e k = absurd f
    by_form (Some m) NoForm f e k = absurd f
    by_form (Some m) FormOfContext f e k = absurd f
