-- What the rules come to for characters, one after the other.
use Rattle.std.proofs.Common.{◌≡◌, ℕ, zero, suc, Bool, true, false, ◌&&◌, List, [], ◌∷◌, map, refl, sym, ap, subst, ◌∙◌, Option, None, Some, true≢false}
use Rattle.std.specs.Prelude.{not, option_map}
use Rattle.std.specs.List.{list_all}
use Rattle.std.specs.Option.{option_and_then}
use Rattle.standard_tokens.specs.Tokens.{AChar, Token}
use Rattle.standard_trees.specs.Building.{Building, perform, performed, run, taken, tree_step, tree_steps}
use Rattle.standard_trees.specs.GrowingTree.{GrowingTree, with_char, with_chars}
use Rattle.standard_trees.specs.RuleWords.{Action, Dispatcher, Mode as StandardMode, TextState, Use, UseCurrentMode, goes}
use Rattle.standard_trees.specs.TreeRules.{rules}
use Rattle.standard_trees.specs.TreeStore.{NodeAttr}
use Rattle.page_trees.specs.CharacterSteps.{Completes, has_begun, is_nowhere, ok_behind, ok_behind_all, then_chars}
use Rattle.page_trees.specs.Constructs.{Constructs, all_performed, state_for}
use Rattle.page_trees.specs.declared.builder.Next.{Next}
use Rattle.page_trees.specs.declared.builder.TreeBuilder.{TreeBuilder}
use Rattle.page_trees.proofs.NamesAgree.{both}
use Rattle.page_trees.proofs.RulesRun.{plainly}

-- ---- the only result

-- whatever depth gives a result, it is this one
abbrev pub ComesOnlyTo : StandardMode → Building → Building → Type 0
ComesOnlyTo mode b c = (depth : ℕ) (x : Building) → run depth mode b ≡ Some x → x ≡ c

some_one : {A : Type 0} (x y : A) → Some x ≡ Some y → x ≡ y
some_one x y e = cc

pub end_of_plain : (actions : List Action) (b : Building) (d : ℕ) → performed (run d) (plainly actions Next.Done) b ≡ Some (all_performed actions b)
end_of_plain [] b d = refl
end_of_plain (action ∷ actions) b d = end_of_plain actions (perform action b) d

the_same : {A : Type 0} (o : Option A) (x : A) → option_and_then (λ y. Some y) o ≡ Some x → o ≡ Some x
the_same None x e = cc
the_same (Some y) x e = e

pub only_performed : (mode : StandardMode) (b : Building) (actions : List Action) → taken b (rules mode) ≡ plainly actions Next.Done → ComesOnlyTo mode b (all_performed actions b)
unfolding run
only_performed mode b actions e zero x h = cc
only_performed mode b actions e (suc d) x h =
    some_one _ _ (sym h ∙ ap (λ acts. performed (run d) acts b) e ∙ end_of_plain actions b d)

pub only_used : (mode other : StandardMode) (b c : Building) → taken b (rules mode) ≡ goes (Use other) ∷ [] → ComesOnlyTo other b c → ComesOnlyTo mode b c
unfolding run
only_used mode other b c e only zero x h = cc
only_used mode other b c e only (suc d) x h =
    only d x (the_same (run d other b) x (sym (ap (λ acts. performed (run d) acts b) e) ∙ h))

pub only_in_mode : (b c : Building) → taken b (rules Dispatcher) ≡ goes UseCurrentMode ∷ [] → ComesOnlyTo b.mode b c → ComesOnlyTo Dispatcher b c
unfolding run
only_in_mode b c e only zero x h = cc
only_in_mode b c e only (suc d) x h =
    only d x (the_same (run d b.mode b) x (sym (ap (λ acts. performed (run d) acts b) e) ∙ h))

-- ---- behind characters

-- the state is that before them, but for the tree, the flag frameset-ok and the token
abbrev pub behind : Building → GrowingTree → Bool → Token → List NodeAttr → Building
behind b t ok token attrs = record b { tree = t; frameset_ok = ok; token = token; attrs = attrs; skip = false; tokenizer = None }

pub record IsBehind (b : Building) (t : GrowingTree) (ok : Bool) (c : Building) : Type 0 where
  pub token : Token
  pub attrs : List NodeAttr
  pub is : c ≡ behind b t ok token attrs

-- several, one after the other
abbrev pub all_of : {A : Type 0} → (ℕ → A → A) → List ℕ → A → A
all_of f [] a = a
all_of f (c ∷ cs) a = all_of f cs (f c a)

-- The rules do this with each character that passes a test, in each tree that is good, which it stays.
pub record Treats (b : Building) (passes : ℕ → Bool) (Good : GrowingTree → Type 0) (change : ℕ → GrowingTree → GrowingTree) (flag : ℕ → Bool → Bool) : Type 0 where
  pub once : (t : GrowingTree) (ok : Bool) (c : ℕ) (attrs : List NodeAttr) → Good t → passes c ≡ true →
      ComesOnlyTo Dispatcher (behind b t ok (AChar c) attrs) (behind b (change c t) (flag c ok) (AChar c) attrs)
  pub good : (t : GrowingTree) (c : ℕ) → Good t → Good (change c t)

-- the first result is known, and what follows from more characters
pub next_chars : (d : ℕ) (cs : List ℕ) (y x : Building) (R : Type 0) (o : Option Building) → ((z : Building) → o ≡ Some z → z ≡ y) →
    (tree_steps d y (map (λ c. AChar c) cs) ≡ Some x → R) → then_chars d cs o ≡ Some x → R
next_chars d cs y x R None only rest h = absurd (cc)
next_chars d cs y x R (Some z) only rest h = rest (sym (ap (λ (w : Building). tree_steps d w (map (λ c. AChar c) cs)) (only z refl)) ∙ h)

begun_step : (b : Building) (t : GrowingTree) (ok : Bool) (token : Token) (attrs : List NodeAttr) (c : ℕ) (d : ℕ) →
    tree_step d (behind b t ok token attrs) (AChar c) ≡ run d Dispatcher (behind b t ok (AChar c) [])
unfolding tree_step
begun_step b t ok token attrs c d = refl

pub treated : (b : Building) (passes : ℕ → Bool) (Good : GrowingTree → Type 0) (change : ℕ → GrowingTree → GrowingTree) (flag : ℕ → Bool → Bool) →
    Treats b passes Good change flag → (cs : List ℕ) → list_all passes cs ≡ true → (t : GrowingTree) (ok : Bool) (token : Token) (attrs : List NodeAttr) → Good t →
    (d : ℕ) (x : Building) → tree_steps d (behind b t ok token attrs) (map (λ c. AChar c) cs) ≡ Some x → IsBehind b (all_of change cs t) (all_of flag cs ok) x
treated b passes Good change flag treats [] all t ok token attrs good d x h =
    record { token = token; attrs = attrs; is = sym (some_one _ _ h) }
treated b passes Good change flag treats (c ∷ cs) all t ok token attrs good d x h =
    let two = both (passes c) (list_all passes cs) all in
    next_chars d cs (behind b (change c t) (flag c ok) (AChar c) []) x (IsBehind b (all_of change (c ∷ cs) t) (all_of flag (c ∷ cs) ok) x) (run d Dispatcher (behind b t ok (AChar c) []))
    (λ y e. treats.once t ok c [] good two.0 d y e)
    (λ k. treated b passes Good change flag treats cs two.1 (change c t) (flag c ok) (AChar c) [] (treats.good t c good) d x k)
    (sym (ap (then_chars d cs) (begun_step b t ok token attrs c d)) ∙ h)

-- ---- what the code is to show

pub no_skip : (b : Building) → has_begun b ≡ true → b.skip ≡ false
no_skip b e = by b.skip (is_nowhere b.tokenizer) e
  where
    by : (x y : Bool) → (not x && y) ≡ true → x ≡ false
    by true y h = absurd (true≢false (sym h))
    by false y h = refl

pub no_state : (b : Building) → has_begun b ≡ true → b.tokenizer ≡ None
no_state b e = by b.skip b.tokenizer e
  where
    by : (x : Bool) (o : Option TextState) → (not x && is_nowhere o) ≡ true → o ≡ None
    by true o h = absurd (true≢false (sym h))
    by false None h = refl
    by false (Some state) h = absurd (true≢false (sym h))

-- with a token that has begun, the state is of that form
pub begun_is : (b : Building) (c : ℕ) → has_begun b ≡ true → b.token ≡ AChar c → b ≡ behind b b.tree b.frameset_ok (AChar c) b.attrs
begun_is b c begun token =
    ap (λ (skip : Bool). record b { skip = skip }) (no_skip b begun)
    ∙ ap (λ (state : Option TextState). record b { skip = false; tokenizer = state }) (no_state b begun)
    ∙ ap (λ (token : Token). record b { skip = false; tokenizer = None; token = token }) token

-- the token does not matter
pub stands_behind : (new : TreeBuilder) (b : Building) (t : GrowingTree) (ok : Bool) (c : Building) → has_begun b ≡ true → Constructs new (record b { tree = t; frameset_ok = ok }) →
    IsBehind b t ok c → Constructs new c
stands_behind new b t ok c begun stands is = subst (λ (x : Building). Constructs new x) (sym is.is) (record {
  tree = stands.tree;
  foster = stands.foster;
  in_head = stands.in_head;
  mode = stands.mode;
  original = stands.original;
  template_modes = stands.template_modes;
  frameset_ok = stands.frameset_ok;
  scripting = stands.scripting;
  quirks = stands.quirks;
  unread = stands.unread;
  pending = stands.pending;
  skip = sym (no_skip b begun) ∙ stands.skip;
  tokenizer = sym (ap (λ (o : Option TextState). option_map state_for o) (no_state b begun)) ∙ stands.tokenizer;
})

-- the first character leads to a good tree, and each of the others is treated
pub completed : (new : TreeBuilder) (b : Building) (c : ℕ) (cs : List ℕ) (t : GrowingTree) (ok : Bool) (passes : ℕ → Bool) (Good : GrowingTree → Type 0)
    (change : ℕ → GrowingTree → GrowingTree) (flag : ℕ → Bool → Bool) → has_begun b ≡ true → b.token ≡ AChar c →
    ComesOnlyTo Dispatcher (behind b b.tree b.frameset_ok (AChar c) b.attrs) (behind b t ok (AChar c) b.attrs) → Treats b passes Good change flag → list_all passes cs ≡ true → Good t →
    Constructs new (record b { tree = all_of change cs t; frameset_ok = all_of flag cs ok }) → Completes cs b new
completed new b c cs t ok passes Good change flag begun token first treats all good stands d x h =
    next_chars d cs (behind b t ok (AChar c) b.attrs) x (Constructs new x) (run d Dispatcher b)
    (λ y e. first d y (ap (run d Dispatcher) (sym (begun_is b c begun token)) ∙ e))
    (λ k. stands_behind new b (all_of change cs t) (all_of flag cs ok) x begun stands (treated b passes Good change flag treats cs all t ok (AChar c) b.attrs good d x k)) h

-- ---- folds

pub all_chars : (cs : List ℕ) (t : GrowingTree) → all_of with_char cs t ≡ with_chars cs t
all_chars [] t = refl
all_chars (c ∷ cs) t = all_chars cs (with_char c t)

pub all_left : {A : Type 0} (cs : List ℕ) (a : A) → all_of (λ c x. x) cs a ≡ a
all_left [] a = refl
all_left (c ∷ cs) a = all_left cs a

pub all_ok : (cs : List ℕ) (ok : Bool) → all_of ok_behind cs ok ≡ ok_behind_all cs ok
all_ok [] ok = refl
all_ok (c ∷ cs) ok = all_ok cs (ok_behind c ok)

-- ---- tests

pub is_false : (x : Bool) → not x ≡ true → x ≡ false
is_false true e = absurd (true≢false (sym e))
is_false false e = refl

pub is_true : (x : Bool) → not x ≡ false → x ≡ true
is_true true e = refl
is_true false e = absurd (true≢false e)
