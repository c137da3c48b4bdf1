-- A walk that passes over what a selector doesn't mean.
use Rattle.std.proofs.Common.{ℕ, ◌≡◌, ◌<◌, List, [], ◌∷◌, ◌++◌, Option, Some, None, append_assoc, length, length-append, refl, sym, ap, ◌∙◌, subst, inl, inr, arith}
use Rattle.std.specs.Borrow.{Bor}
use Rattle.std.proofs.lemmas.List.{append-nil}
use Rattle.dom_links.specs.Forest.{Forest}
use Rattle.dom_trees.specs.declared.node_ref.NodeRef.{NodeRef}
use Rattle.dom_selectors.specs.Syntax.{SelectorList}
use Rattle.dom_select.specs.Selected.{FiltersTo}
use Rattle.dom_select.specs.Descendants.{Matches, IsFirstMatch, IsMatch, ToCome, GivesMatch}

abbrev pub walk_of : List ℕ → Bor Forest → SelectorList → Matches
walk_of left tree selector = record { left = left; tree = tree; selector = selector }

module _ (P : ℕ → Type 0) where
  -- none of the numbers is matched, nor one more behind them
  none_more : (ns : List ℕ) (n : ℕ) → FiltersTo P ns [] → (P n → ⊥) → FiltersTo P (ns ++ n ∷ []) []
  none_more [] n h out = inr (out, refl)
  none_more (m ∷ ms) n (inl h) out = absurd (let e = h.2 in cc)
  none_more (m ∷ ms) n (inr h) out = inr (h.0, none_more ms n h.1 out)

  -- what is matched from the numbers behind some of which none is matched
  pub filters_behind : (front ns ids : List ℕ) → FiltersTo P front [] → FiltersTo P ns ids → FiltersTo P (front ++ ns) ids
  filters_behind [] ns ids h k = k
  filters_behind (m ∷ ms) ns ids (inl h) k = absurd (let e = h.2 in cc)
  filters_behind (m ∷ ms) ns ids (inr h) k = inr (h.0, filters_behind ms ns ids h.1 k)

-- some nodes were passed over, none of which is meant
pub record Passes (before now : Matches) : Type 0 where
  pub tree : now.tree ≡ before.tree
  pub selector : now.selector ≡ before.selector
  pub front : List ℕ
  pub stands : before.left ≡ front ++ now.left
  pub none : FiltersTo (IsMatch before.selector before.tree.now) front []

pub passes_none : (walk : Matches) → Passes walk walk
passes_none walk = record { tree = refl; selector = refl; front = []; stands = refl; none = refl }

pub passes_one : (before : Matches) (left more : List ℕ) (tree : Bor Forest) (selector : SelectorList) (n : ℕ) → Passes before (walk_of left tree selector) → left ≡ n ∷ more →
    (IsMatch selector tree.now n → ⊥) → Passes before (walk_of more tree selector)
passes_one before left more tree selector n p e out =
    let out_before : IsMatch before.selector before.tree.now n → ⊥ = λ h. out (subst (λ (t : Bor Forest). IsMatch selector t.now n) (sym p.tree) (subst (λ (s : SelectorList). IsMatch s before.tree.now n) (sym p.selector) h)) in
    record {
      tree = p.tree;
      selector = p.selector;
      front = p.front ++ n ∷ [];
      stands = p.stands ∙ ap (λ ns. p.front ++ ns) e ∙ sym (append_assoc p.front (n ∷ []) more);
      none = none_more (IsMatch before.selector before.tree.now) p.front n p.none out_before;
    }

pub gives_one : (before : Matches) (left more : List ℕ) (tree : Bor Forest) (selector : SelectorList) (n : ℕ) (node : NodeRef) → Passes before (walk_of left tree selector) → left ≡ n ∷ more →
    IsMatch selector tree.now n → node ≡ record { id = n; tree = tree } → GivesMatch before (Some node) (walk_of more tree selector)
gives_one before left more tree selector n node p e here f =
    let meant : IsMatch before.selector before.tree.now n = subst (λ (s : SelectorList). IsMatch s before.tree.now n) p.selector (subst (λ (t : Bor Forest). IsMatch selector t.now n) p.tree here) in
    let first : IsFirstMatch before (record { id = n; tree = tree }) (walk_of more tree selector) = record {
      tree = p.tree;
      meant = meant;
      passed = p.front;
      stands = p.stands ∙ ap (λ ns. p.front ++ ns) e;
      none_before = p.none;
    } in
    let given : GivesMatch before (Some (record { id = n; tree = tree })) (walk_of more tree selector) = record { tree = p.tree; selector = p.selector; first = first } in
    subst (λ x. GivesMatch before (Some x) (walk_of more tree selector)) (sym f) given

pub gives_none : (before : Matches) (left more : List ℕ) (tree : Bor Forest) (selector : SelectorList) (given : Option NodeRef) → Passes before (walk_of left tree selector) → left ≡ [] → more ≡ [] →
    given ≡ None → GivesMatch before given (walk_of more tree selector)
gives_none before left more tree selector given p e f none =
    let all : before.left ≡ p.front = p.stands ∙ ap (λ ns. p.front ++ ns) e ∙ append-nil p.front in
    let nothing : GivesMatch before None (walk_of more tree selector) = record {
      tree = p.tree;
      selector = p.selector;
      first = (subst (λ ns. FiltersTo (IsMatch before.selector before.tree.now) ns []) (sym all) p.none, f);
    } in subst (λ x. GivesMatch before x (walk_of more tree selector)) (sym none) nothing

pub gives_from : (one other : Matches) (given : Option NodeRef) (later : Matches) → one ≡ other → GivesMatch one given later → GivesMatch other given later
gives_from one other given later e h = subst (λ walk. GivesMatch walk given later) e h

-- what is to come behind a match that is given was to come behind it before
pub come_next : (before later : Matches) (node : NodeRef) → GivesMatch before (Some node) later → (ids : List ℕ) → ToCome later ids → ToCome before (node.id ∷ ids)
come_next before later node given ids h =
    let first : IsFirstMatch before node later = given.first in
    let P : ℕ → Type 0 = IsMatch before.selector before.tree.now in
    let same : FiltersTo P later.left ids = subst (λ (s : SelectorList). FiltersTo (IsMatch s before.tree.now) later.left ids) given.selector (subst (λ (t : Bor Forest). FiltersTo (IsMatch later.selector t.now) later.left ids) given.tree h) in
    subst (λ ns. FiltersTo P ns (node.id ∷ ids)) (sym first.stands) (filters_behind P first.passed (node.id ∷ later.left) (node.id ∷ ids) first.none_before (inl (first.meant, ids, refl, same)))

-- fewer nodes are left behind a match
pub fewer_left : (before later : Matches) (node : NodeRef) → GivesMatch before (Some node) later → length later.left < length before.left
fewer_left before later node given =
    let first : IsFirstMatch before node later = given.first in
    let all = ap length first.stands in
    let long = length-append first.passed (node.id ∷ later.left) in
    omega arith
