use Rattle.std.proofs.Common.{◌≡◌, ◌++◌, ◌∙◌, Global, List, Option, Some, None, String, ap, map, not, string_bytes, sym, ℕ}
use Rattle.std.specs.List.{find}
use Rattle.std.specs.Option.{option_map, option_or}
use Rattle.std.proofs.lemmas.List.Folds.{find-append}
use Rattle.dom_clean.specs.Faults.{first_failing}
use Rattle.dom_clean.specs.Policies.{own_of}
use Rattle.dom_clean.specs.Policy.{OwnAttribute, may_have}
use Rattle.dom_clean.specs.declared.lists.OwnAttribute.{OwnAttribute as OwnLists}
use Rattle.dom_clean.proofs.Owns.{same_names}
use Rattle.dom_clean.proofs.Searches.{find-map, map-twice}
use Rattle.dom_clean.proofs.policy.refused_attribute.Goals as goal

-- what is found in two lists, by what is found in the first
both : (names own_names : List (List ℕ)) (found : Option (List ℕ)) → found ≡ first_failing may_have names → option_or found (first_failing may_have own_names) ≡ first_failing may_have (names ++ own_names)
both names own_names found is =
    let test = λ (name : List ℕ). not (may_have name) in
    ap (λ (f : Option (List ℕ)). option_or f (find test own_names)) is ∙ sym (find-append test names own_names)

-- what is found in the first list
common : (names : List (String Global)) (found : Option (String Global)) → found ≡ find (λ name. not (may_have (string_bytes name))) names → option_map string_bytes found ≡ first_failing may_have (map string_bytes names)
common names found is = ap (option_map string_bytes) is ∙ find-map string_bytes (λ name. not (may_have name)) names

-- what is found in the other one
own : (owns : List OwnLists) → option_map string_bytes (option_map (λ (own : OwnLists). own.attribute) (find (λ (own : OwnLists). not (may_have (string_bytes own.attribute))) owns))
    ≡ first_failing may_have (map (λ (own : OwnAttribute). own.attribute) (map own_of owns))
own owns =
    map-twice string_bytes (λ (own : OwnLists). own.attribute) (find (λ (own : OwnLists). not (may_have (string_bytes own.attribute))) owns)
    ∙ find-map (λ (own : OwnLists). string_bytes own.attribute) (λ name. not (may_have name)) owns
    ∙ ap (first_failing may_have) (same_names owns)

pub returns-in-Some : goal.returns-in-Some
returns-in-Some c =
    let items = c.args.lists.now.attributes.items in
    let test = λ (name : String Global). not (may_have (string_bytes name)) in
    let own_names : List (List ℕ) = map (λ (own : OwnAttribute). own.attribute) (map own_of c.args.lists.now.own_attributes.items) in
    both (map string_bytes items) own_names (Some (string_bytes c.in-Some.name.now)) (common items (Some c.in-Some.name.now) (c.in-Some.ensures ∙ ap (find test) c.deref.ensures.value))

pub returns : goal.returns
returns c =
    let items = c.args.lists.now.attributes.items in
    let owns = c.args.lists.now.own_attributes.items in
    let test = λ (name : String Global). not (may_have (string_bytes name)) in
    let own_names : List (List ℕ) = map (λ (own : OwnAttribute). own.attribute) (map own_of owns) in
    ap (option_map string_bytes) (c.refused_own.ensures ∙ ap (λ (owns : List OwnLists). option_map (λ (own : OwnLists). own.attribute) (find (λ (own : OwnLists). not (may_have (string_bytes own.attribute))) owns)) c.deref-2.ensures.value)
    ∙ own owns
    ∙ both (map string_bytes items) own_names None (common items None (c.in_default.ensures ∙ ap (find test) c.deref.ensures.value))
