-- Attribute parts have one reading.
use Rattle.std.proofs.Common.{◌≡◌, ℕ, List, [], ◌∷◌, Bool, true, false, nat_eq, refl, sym, ap, ◌∙◌, subst, true≢false, MatchBool, Option, Some, None, arith}
use Rattle.std.proofs.lemmas.Bool.Decides.{nat_tests}
use Rattle.dom_selectors.specs.declared.syntax.AttrOperator.{AttrOperator}
use Rattle.dom_nodes.specs.declared.case_sensitivity.CaseSensitivity.{CaseSensitivity}
use Rattle.dom_nodes.specs.declared.case_sensitivity.CaseSensitivity.TheVariants.{CaseSensitive}
use Rattle.dom_selectors.specs.Spelling.{SpellsNone}
use Rattle.dom_selectors.specs.Characters.{after_white, begins}
use Rattle.dom_selectors.specs.Names.{SpellsName}
use Rattle.dom_selectors.specs.declared.syntax.Comparison.{Comparison}
use Rattle.dom_selectors.specs.declared.syntax.Attribute.{Attribute}
use Rattle.dom_selectors.specs.Strings.{is_quote}
use Rattle.dom_selectors.specs.Attributes.{SpellsOperator, SpellsValue, SpellsFlag, SpellsCase, SpellsComparison, SpellsAsked, SpellsAttribute, flag_of}
use Rattle.dom_selectors.proofs.Runs.{IsOnce}
use Rattle.dom_selectors.proofs.NameLemmas.{both, by_test, name_once}
use Rattle.dom_selectors.proofs.StringLemmas.{string_once}

pub operator_once : IsOnce SpellsOperator
operator_once v w [] r s h k = absurd h
operator_once v w (c ∷ more) r s h k =
    both (nat_eq c 61) _ _ _ _ _ (λ _ p q. (p.0 ∙ sym q.0, p.1 ∙ sym q.1))
    (λ _ p q. let a = p.0 in let b = q.0 in let d = p.1 in let e = q.1 in let same : v ≡ w = cc in let rest : r ≡ s = cc in (same, rest)) h k

pub value_once : IsOnce SpellsValue
value_once v w text r s h k =
    both (begins is_quote text) _ _ _ _ _ (λ _ p q. string_once v w text r s p q) (λ _ p q. name_once v w text r s p q) h k

-- what follows the same name
named_alike : (text : List ℕ) (name after : List ℕ) → SpellsName name text after → (v : CaseSensitivity) (rest : List ℕ) (h : SpellsFlag v text rest) →
    (name ≡ h.name) × (after ≡ h.after)
named_alike text name after named v rest h = name_once name h.name text after h.after named h.named

pub flag_once : IsOnce SpellsFlag
flag_once v w text r s h k =
    let same = named_alike text h.name h.after h.named w s k in
    let a = h.flag in let b = k.flag in let d = h.closes in let e = k.closes in
    let name = same.0 in let after = same.1 in
    let one : v ≡ w = cc in
    let rest : r ≡ s = cc in
    (one, rest)

pub case_once : IsOnce SpellsCase
case_once v w text r s h k =
    both (begins (λ c. nat_eq c 93) text) _ _ _ _ _
    (λ _ p q. let d = p.1 in let e = q.1 in let rest : r ≡ s = cc in (p.0 ∙ sym q.0, rest))
    (λ _ p q. flag_once v w text r s p q) h k

same_comparison : (v w : Comparison) → v.operator ≡ w.operator → v.value ≡ w.value → v.case_sensitivity ≡ w.case_sensitivity → v ≡ w
same_comparison v w a b d =
    let of : AttrOperator → List ℕ → CaseSensitivity → Comparison = λ o t k. record { operator = o; value = t; case_sensitivity = k } in
    ap (λ o. of o v.value v.case_sensitivity) a ∙ ap (λ t. of w.operator t v.case_sensitivity) b ∙ ap (λ k. of w.operator w.value k) d

pub comparison_once : IsOnce SpellsComparison
comparison_once v w text r s h k =
    let operator = operator_once v.operator w.operator text h.after_operator k.after_operator h.operator k.operator in
    let value = value_once v.value w.value (after_white h.after_operator) h.after_value k.after_value h.value (subst (λ t. SpellsValue w.value (after_white t) k.after_value) (sym operator.1) k.value) in
    let case = case_once v.case_sensitivity w.case_sensitivity (after_white h.after_value) r s h.case_sensitivity (subst (λ t. SpellsCase w.case_sensitivity (after_white t) s) (sym value.1) k.case_sensitivity) in
    (same_comparison v w operator.0 value.0 case.0, case.1)

pub asked_once : IsOnce SpellsAsked
asked_once v w text r s h k =
    both (begins (λ c. nat_eq c 93) text) _ _ _ _ _
    (λ _ p q. let d = p.1 in let e = q.1 in let rest : r ≡ s = cc in (p.0 ∙ sym q.0, rest))
    (λ _ p q. let same = comparison_once p.0 q.0 text r s p.1 q.1 in (p.2 ∙ ap Some same.0 ∙ sym q.2, same.1)) h k

pub attribute_once : IsOnce SpellsAttribute
attribute_once v w text r s h k =
    let name = name_once v.name w.name (after_white text) h.after_name k.after_name h.name k.name in
    let asked = asked_once v.comparison w.comparison (after_white h.after_name) r s h.asked (subst (λ t. SpellsAsked w.comparison (after_white t) s) (sym name.1) k.asked) in
    let of : List ℕ → Option Comparison → Attribute = λ n o. record { name = n; comparison = o } in
    (ap (λ n. of n v.comparison) name.0 ∙ ap (λ o. of w.name o) asked.0, asked.1)

pub not_begun : (c : ℕ) (text : List ℕ) → ((rest : List ℕ) → text ≡ c ∷ rest → ⊥) → begins (λ d. nat_eq d c) text ≡ false
not_begun c [] none = refl
not_begun c (d ∷ text) none = by (nat_eq d c) refl
  where
    by : (b : Bool) → nat_eq d c ≡ b → b ≡ false
    by true e = let same : d ≡ c = grind (arith, nat_tests) in absurd (none text (ap (λ x. x ∷ text) same))
    by false e = refl

pub flag_no_name : (text : List ℕ) → SpellsNone SpellsName text → SpellsNone SpellsFlag text
flag_no_name text none v rest h = none h.name h.after h.named

pub flag_no_flag : (text name after : List ℕ) → SpellsName name text after → flag_of name ≡ None → SpellsNone SpellsFlag text
flag_no_flag text name after named none v rest h =
    let same = named_alike text name after named v rest h in
    let a = h.flag in let b = same.0 in cc

pub flag_no_close : (text name after : List ℕ) → SpellsName name text after → ((rest : List ℕ) → after_white after ≡ 93 ∷ rest → ⊥) → SpellsNone SpellsFlag text
flag_no_close text name after named none v rest h =
    none rest (ap after_white (named_alike text name after named v rest h).1 ∙ h.closes)

pub case_from_flag : (text : List ℕ) → begins (λ d. nat_eq d 93) text ≡ false → (v : CaseSensitivity) (rest : List ℕ) → SpellsFlag v text rest → SpellsCase v text rest
case_from_flag text e v rest h = subst (λ b. MatchBool b ((v ≡ CaseSensitive) × (text ≡ 93 ∷ rest)) (SpellsFlag v text rest)) (sym e) h

pub flag_from_case : (text : List ℕ) → begins (λ d. nat_eq d 93) text ≡ false → (v : CaseSensitivity) (rest : List ℕ) → SpellsCase v text rest → SpellsFlag v text rest
flag_from_case text e v rest h = by_test (begins (λ d. nat_eq d 93) text) _ _ _ (λ t _. absurd (true≢false (sym t ∙ e))) (λ _ p. p) h

pub comparison_no_value : (text mid : List ℕ) (o : AttrOperator) → SpellsOperator o text mid → SpellsNone SpellsValue (after_white mid) → SpellsNone SpellsComparison text
comparison_no_value text mid o h none v rest k =
    let same = operator_once o v.operator text mid k.after_operator h k.operator in
    none v.value k.after_value (subst (λ t. SpellsValue v.value (after_white t) k.after_value) (sym same.1) k.value)

pub comparison_no_case : (text mid after : List ℕ) (o : AttrOperator) (value : List ℕ) → SpellsOperator o text mid → SpellsValue value (after_white mid) after →
    SpellsNone SpellsCase (after_white after) → SpellsNone SpellsComparison text
comparison_no_case text mid after o value h valued none v rest k =
    let same = operator_once o v.operator text mid k.after_operator h k.operator in
    let values = value_once value v.value (after_white mid) after k.after_value valued (subst (λ t. SpellsValue v.value (after_white t) k.after_value) (sym same.1) k.value) in
    none v.case_sensitivity rest (subst (λ t. SpellsCase v.case_sensitivity (after_white t) rest) (sym values.1) k.case_sensitivity)

pub asked_no_comparison : (text : List ℕ) → begins (λ d. nat_eq d 93) text ≡ false → SpellsNone SpellsComparison text → SpellsNone SpellsAsked text
asked_no_comparison text e none v rest h =
    by_test (begins (λ d. nat_eq d 93) text) _ _ _ (λ t _. true≢false (sym t ∙ e)) (λ _ p. none p.0 rest p.1) h

pub attribute_no_name : (text : List ℕ) → SpellsNone SpellsName (after_white text) → SpellsNone SpellsAttribute text
attribute_no_name text none v rest h = none v.name h.after_name h.name

pub attribute_no_asked : (text name after : List ℕ) → SpellsName name (after_white text) after → SpellsNone SpellsAsked (after_white after) → SpellsNone SpellsAttribute text
attribute_no_asked text name after named none v rest h =
    let same = name_once name v.name (after_white text) after h.after_name named h.name in
    none v.comparison rest (subst (λ t. SpellsAsked v.comparison (after_white t) rest) (sym same.1) h.asked)
