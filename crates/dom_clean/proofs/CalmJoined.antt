-- Calm trees stay calm where texts side by side become one.
use Rattle.std.proofs.Common.{◌≡◌, ◌≢◌, ◌&&◌, ℕ, true, List, [], ◌∷◌, ◌++◌, refl, sym, ap, ◌∙◌}
use Rattle.std.specs.List.{list_all}
use Rattle.std.proofs.lemmas.Bool.{and_from, and_parts, true≢false}
use Rattle.std.proofs.lemmas.List.Folds.{list_all-append}
use Rattle.dom_markup.specs.Bytes.{is_whitespace}
use Rattle.dom_markup.specs.ValueTrees.{ValueTrees}
use Rattle.dom_markup.specs.ValueTrees.ValueTrees.{no_trees, text_node, comment_node, doctype_node, element_node}
use Rattle.page_trees.specs.ElementKinds.{kind_of}
use Rattle.page_trees.specs.declared.element_kinds.ElementCategory.{ElementCategory}
use Rattle.page_trees.specs.declared.element_kinds.ElementCategory.TheVariants.{Html, Head, Verbatim, Pre, Table, ColumnGroup, RowGroup, TableRow}
use Rattle.calm_pages.specs.Calm.{admits, are_calm, behind, behind_first, inside, may_hold_text}
use Rattle.calm_pages.specs.declared.nesting.Scope.{Scope}
use Rattle.dom_sanitize.specs.Written.{joined, with_text}
use Rattle.dom_clean.specs.Joined.{AreTidy, merges}

both_white : (a b : List ℕ) → list_all is_whitespace a ≡ true → list_all is_whitespace b ≡ true → list_all is_whitespace (a ++ b) ≡ true
both_white a b p q = list_all-append is_whitespace a b ∙ and_from (list_all is_whitespace a) (list_all is_whitespace b) p q

holds_more : (kind : ElementCategory) (a b : List ℕ) → merges kind ≡ true → a ≢ [] → may_hold_text kind a ≡ true → may_hold_text (behind_first kind) b ≡ true → may_hold_text kind (a ++ b) ≡ true
holds_more Verbatim a b ok some p q = absurd (true≢false (sym ok))
holds_more Pre [] b ok some p q = absurd (some refl)
holds_more Pre (x ∷ a) b ok some p q = p
holds_more Html a b ok some p q = both_white a b p q
holds_more Head a b ok some p q = both_white a b p q
holds_more Table a b ok some p q = both_white a b p q
holds_more ColumnGroup a b ok some p q = both_white a b p q
holds_more RowGroup a b ok some p q = both_white a b p q
holds_more TableRow a b ok some p q = both_white a b p q
holds_more _ a b ok some p q = p

merges_behind : (kind : ElementCategory) → merges kind ≡ true → merges (behind_first kind) ≡ true
merges_behind Pre ok = refl
merges_behind _ ok = ok

merges_inside : (scope : Scope) (kind : ElementCategory) → merges kind ≡ true → merges (inside scope kind).parent ≡ true
merges_inside scope Verbatim ok = ok
merges_inside scope _ ok = ok

twice : (scope : Scope) → behind (behind scope) ≡ behind scope
twice scope = ap (λ (kind : ElementCategory). record scope { parent = kind }) (kinds scope.parent)
  where
    kinds : (kind : ElementCategory) → behind_first (behind_first kind) ≡ behind_first kind
    kinds Pre = refl
    kinds _ = refl

calm_with_text : (scope : Scope) (text : List ℕ) (later : ValueTrees) → merges scope.parent ≡ true → text ≢ [] → may_hold_text scope.parent text ≡ true → are_calm (behind scope) later ≡ true → are_calm scope (with_text text later) ≡ true
calm_with_text scope text no_trees ok some p q = and_from (may_hold_text scope.parent text) _ p q
calm_with_text scope text (text_node more later) ok some p q =
    let h = and_parts (may_hold_text (behind_first scope.parent) more) (are_calm (behind (behind scope)) later) q in
    and_from (may_hold_text scope.parent (text ++ more)) (are_calm (behind scope) later) (holds_more scope.parent text more ok some p h.0) (ap (λ s. are_calm s later) (sym (twice scope)) ∙ h.1)
calm_with_text scope text (comment_node c later) ok some p q = and_from (may_hold_text scope.parent text) _ p q
calm_with_text scope text (doctype_node n u s later) ok some p q = and_from (may_hold_text scope.parent text) _ p q
calm_with_text scope text (element_node n a children later) ok some p q = and_from (may_hold_text scope.parent text) _ p q

pub calm_joined : (scope : Scope) (ts : ValueTrees) → AreTidy ts → merges scope.parent ≡ true → are_calm scope ts ≡ true → are_calm scope (joined ts) ≡ true
calm_joined scope no_trees tidy ok p = refl
calm_joined scope (text_node c later) tidy ok p =
    let h = and_parts (may_hold_text scope.parent c) (are_calm (behind scope) later) p in
    calm_with_text scope c (joined later) ok tidy.0 h.0 (calm_joined (behind scope) later tidy.2 (merges_behind scope.parent ok) h.1)
calm_joined scope (comment_node c later) tidy ok p = absurd tidy
calm_joined scope (doctype_node n u s later) tidy ok p = absurd tidy
calm_joined scope (element_node n a children later) tidy ok p =
    let kind = kind_of n in
    let h = and_parts (admits scope kind && are_calm (inside scope kind) children) (are_calm (behind scope) later) p in
    let k = and_parts (admits scope kind) (are_calm (inside scope kind) children) h.0 in
    and_from (admits scope kind && are_calm (inside scope kind) (joined children)) (are_calm (behind scope) (joined later))
    (and_from (admits scope kind) (are_calm (inside scope kind) (joined children)) k.0 (calm_joined (inside scope kind) children tidy.3 (merges_inside scope kind tidy.0.0.4) k.1))
    (calm_joined (behind scope) later tidy.4 (merges_behind scope.parent ok) h.1)
