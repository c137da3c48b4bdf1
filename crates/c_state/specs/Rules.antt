-- The changes of a policy's rules that calls with numbers name.
use Rattle.std.specs.Prelude.{◌≡◌, ◌==◌, ◌++◌, ℕ, Bool, true, false, not, List, [], ◌∷◌, Option, None, Some, Ok, Result, IfOk, MatchResult, slice_get}
use Rattle.std.specs.Option.{option_map, option_map_or}
use Rattle.url.specs.Parser.{parse_url}
use Rattle.url.specs.Parts.{Parts}
use Rattle.dom_clean.specs.Policy.{OwnAttribute, Policy, Relative, without, without_own}
use Rattle.dom_clean.specs.Policy.Relative.{dropped, kept, resolved}
use Rattle.c_state.specs.declared.fault.Fault.{Fault}

-- The rules that have a text, by their numbers
abbrev pub with_rules : List ℕ → Policy → List Policy
with_rules text rules =
    record rules { elements = rules.elements ++ text ∷ [] }
    ∷ record rules { dropped = rules.dropped ++ text ∷ [] }
    ∷ record rules { attributes = rules.attributes ++ text ∷ [] }
    ∷ record rules { schemes = rules.schemes ++ text ∷ [] }
    ∷ record rules { classes = Some (option_map_or (λ classes. classes) rules.classes [] ++ text ∷ []) }
    ∷ record rules { rel = Some text }
    ∷ record rules { id_prefix = text }
    ∷ record rules { elements = without text rules.elements }
    ∷ record rules { dropped = without text rules.dropped }
    ∷ record rules { attributes = without text rules.attributes }
    ∷ record rules { schemes = without text rules.schemes }
    ∷ record rules { classes = option_map (without text) rules.classes }
    ∷ []

-- The rules with the one of that number
abbrev pub rule_numbered : ℕ → List ℕ → Policy → Option Policy
rule_numbered number text rules = slice_get (with_rules text rules) number

-- The rules with one more attribute of an element
abbrev pub with_own : OwnAttribute → Policy → Policy
with_own own rules = record rules { own_attributes = rules.own_attributes ++ own ∷ [] }

-- The rules without an attribute of an element
abbrev pub without_attribute_of : List ℕ → List ℕ → Policy → Policy
without_attribute_of element name rules = record rules { own_attributes = without_own element name rules.own_attributes }

-- The text is an absolute URL, against which addresses without a scheme are resolved
abbrev pub IsResolvedBy : List ℕ → Policy → Policy → Type 0
IsResolvedBy text old new = (base : Parts) × (parse_url None text ≡ Ok base) × (new ≡ record old { relative = resolved base })

-- What becomes of addresses without a scheme
abbrev pub relative_by : Bool → Relative
relative_by true = kept
relative_by false = dropped

-- The settings that have a number, by their own numbers
abbrev pub with_settings : ℕ → Policy → List Policy
with_settings number rules =
    record rules { depth = number }
    ∷ record rules { data_attributes = not (number == 0) }
    ∷ record rules { relative = relative_by (not (number == 0)) }
    ∷ record rules { rel = None }
    ∷ []

-- The rules with the setting of that number
abbrev pub setting_numbered : ℕ → ℕ → Policy → Option Policy
setting_numbered setting number rules = slice_get (with_settings number rules) setting

-- There were rules, and they become others that the relation allows; or the call is refused
abbrev pub IsChangedTo : Result Policy Fault → Result Policy Fault → (Policy → Policy → Type 0) → Type 0
IsChangedTo old result Becomes = IfOk result (λ new. MatchResult old (λ rules. Becomes rules new) (λ _. ⊥))
