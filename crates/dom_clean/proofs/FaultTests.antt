-- Searches for faults: where one is found, and where none is.
use Rattle.std.proofs.Common.{◌≡◌, ◌&&◌, ◌||◌, ◌∙◌, ℕ, Bool, Global, String, subst, true, false, not, List, [], ◌∷◌, map, Option, None, Some, string_bytes, refl, sym, ap}
use Rattle.std.specs.Prelude.{is_none, codes, nat_le, if◌then◌else◌}
use Rattle.std.specs.List.{find, list_all}
use Rattle.std.specs.Option.{option_and_then, option_map, option_map_or}
use Rattle.dom_nodes.specs.Words.{is_among}
use Rattle.dom_clean.specs.Faults.{Fault, IsReported, Tells, fault_of_limits, fault_of_names, fault_of_rel, first_failing, first_fault, first_of, missing_part, unless}
use Rattle.dom_clean.specs.Faults.Fault.{bad_element, bad_attribute, bad_scheme, bad_class, no_part, bad_base, bad_rel, second_rel, bad_prefix, bad_depth}
use Rattle.dom_clean.specs.Policy.{Policy, are_names_sound, attribute_names, is_class, is_rel, is_simple_byte, is_sound, is_worded, joins_well, keeps_tables, may_have, may_keep, may_lead, table_parts}
use Rattle.dom_clean.specs.declared.policy.PolicyFault.{PolicyFault}
use Rattle.dom_clean.proofs.Searches.{find-map}

-- ---- what is reported

-- a fault that was found first
pub told-first : (found : Option Fault) (later : List (Option Fault)) (report : PolicyFault) → IsReported found (Some report) → IsReported (first_of (found ∷ later)) (Some report)
told-first None later report told = absurd told
told-first (Some fault) later report told = told

-- or else what is found later
pub told-later : (found : Option Fault) (later : List (Option Fault)) (reported : Option PolicyFault) → IsReported found None → IsReported (first_of later) reported → IsReported (first_of (found ∷ later)) reported
told-later None later reported none told = told
told-later (Some fault) later reported none told = absurd none

-- what a search among the names reports
pub search-none : (make : List ℕ → Fault) (test : List ℕ → Bool) (names : List (String Global)) → None ≡ find (λ name. not (test (string_bytes name))) names →
    IsReported (option_map make (first_failing test (map string_bytes names))) None
search-none make test names none = subst (λ (found : Option (List ℕ)). IsReported (option_map make found) None) (ap (option_map string_bytes) none ∙ find-map string_bytes (λ name. not (test name)) names) tt

pub search-some : (make : List ℕ → Fault) (test : List ℕ → Bool) (names : List (String Global)) (name : String Global) (report : PolicyFault) →
    Some name ≡ find (λ name. not (test (string_bytes name))) names → Tells report (make (string_bytes name)) → IsReported (option_map make (first_failing test (map string_bytes names))) (Some report)
search-some make test names name report found told =
    subst (λ (found : Option (List ℕ)). IsReported (option_map make found) (Some report)) (ap (option_map string_bytes) found ∙ find-map string_bytes (λ name. not (test name)) names) told

-- ---- where none is found

none-failing : (test : List ℕ → Bool) (names : List (List ℕ)) → is_none (first_failing test names) ≡ list_all test names
none-failing test [] = refl
none-failing test (name ∷ names) = elim (test name) as (λ b. is_none (if not b then Some name else first_failing test names) ≡ (b && list_all test names)) [
  | true ↦ none-failing test names
  | false ↦ refl
]

none-unless : (b : Bool) (fault : Fault) → is_none (unless b fault) ≡ b
none-unless true fault = refl
none-unless false fault = refl

none-mapped : (make : List ℕ → Fault) (found : Option (List ℕ)) → is_none (option_map make found) ≡ is_none found
none-mapped make None = refl
none-mapped make (Some name) = refl

none-first : (fault : Option Fault) (later : List (Option Fault)) → is_none (first_of (fault ∷ later)) ≡ (is_none fault && is_none (first_of later))
none-first None later = refl
none-first (Some fault) later = refl

with-true : (b : Bool) → (b && true) ≡ b
with-true true = refl
with-true false = refl

-- one more test
one : (fault : Option Fault) (later : List (Option Fault)) (b rest : Bool) → is_none fault ≡ b → is_none (first_of later) ≡ rest → is_none (first_of (fault ∷ later)) ≡ (b && rest)
one fault later b rest is are = none-first fault later ∙ (ap (λ x. x && is_none (first_of later)) is ∙ ap (λ x. b && x) are)

last : (fault : Option Fault) (b : Bool) → is_none fault ≡ b → is_none (first_of (fault ∷ [])) ≡ b
last fault b is = none-first fault [] ∙ (with-true (is_none fault) ∙ is)

named : (make : List ℕ → Fault) (test : List ℕ → Bool) (names : List (List ℕ)) → is_none (option_map make (first_failing test names)) ≡ list_all test names
named make test names = none-mapped make (first_failing test names) ∙ none-failing test names

none-missing : (elements : List (List ℕ)) → is_none (option_map no_part (missing_part elements)) ≡ keeps_tables elements
none-missing elements = none-mapped no_part (missing_part elements) ∙ (elim (is_among (codes "table") elements) as (λ b.
    is_none (if b then first_failing (λ part. is_among part elements) table_parts else None) ≡ (not b || list_all (λ part. is_among part elements) table_parts)) [
      | true ↦ none-failing (λ part. is_among part elements) table_parts
      | false ↦ refl
    ])

none-names : (rules : Policy) → is_none (fault_of_names rules) ≡ are_names_sound rules
none-names rules =
    one (option_map bad_element (first_failing may_keep rules.elements)) _ (list_all may_keep rules.elements) (keeps_tables rules.elements && list_all may_have (attribute_names rules)) (named bad_element may_keep rules.elements)
    (one (option_map no_part (missing_part rules.elements)) _ (keeps_tables rules.elements) (list_all may_have (attribute_names rules)) (none-missing rules.elements)
    (last (option_map bad_attribute (first_failing may_have (attribute_names rules))) (list_all may_have (attribute_names rules)) (named bad_attribute may_have (attribute_names rules))))

none-rel : (rules : Policy) (rel : Option (List ℕ)) → is_none (option_and_then (fault_of_rel rules) rel) ≡ option_map_or (is_rel rules) rel true
none-rel rules None = refl
none-rel rules (Some rel) =
    let free = not (is_among (codes "rel") (attribute_names rules)) in
    one (unless (is_worded rel) bad_rel) _ (is_worded rel) free (none-unless (is_worded rel) bad_rel) (last (unless free second_rel) free (none-unless free second_rel))

none-classes : (classes : Option (List (List ℕ))) → is_none (option_map bad_class (option_and_then (first_failing is_class) classes)) ≡ option_map_or (list_all is_class) classes true
none-classes None = refl
none-classes (Some classes) = named bad_class is_class classes

none-limits : (rules : Policy) → is_none (fault_of_limits rules) ≡ (list_all is_simple_byte rules.id_prefix && nat_le rules.depth 256)
none-limits rules =
    let plain = list_all is_simple_byte rules.id_prefix in
    let low = nat_le rules.depth 256 in
    one (unless plain bad_prefix) _ plain low (none-unless plain bad_prefix) (last (unless low bad_depth) low (none-unless low bad_depth))

pub none-sound : (rules : Policy) → is_none (first_fault rules) ≡ is_sound rules
none-sound rules =
    let joins = joins_well rules.schemes rules.relative in
    let limits = list_all is_simple_byte rules.id_prefix && nat_le rules.depth 256 in
    let classes = option_map_or (list_all is_class) rules.classes true in
    let rel = option_map_or (is_rel rules) rules.rel true in
    let leads = list_all may_lead rules.schemes in
    one (fault_of_names rules) _ (are_names_sound rules) (leads && (joins && (rel && (classes && limits)))) (none-names rules)
    (one (option_map bad_scheme (first_failing may_lead rules.schemes)) _ leads (joins && (rel && (classes && limits))) (named bad_scheme may_lead rules.schemes)
    (one (unless joins bad_base) _ joins (rel && (classes && limits)) (none-unless joins bad_base)
    (one (option_and_then (fault_of_rel rules) rules.rel) _ rel (classes && limits) (none-rel rules rules.rel)
    (one (option_map bad_class (option_and_then (first_failing is_class) rules.classes)) _ classes limits (none-classes rules.classes)
    (last (fault_of_limits rules) limits (none-limits rules))))))
