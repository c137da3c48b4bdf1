-- Why rules can't be a policy: the first of their faults, and what is reported of it.
use Rattle.std.specs.Prelude.{◌≡◌, ℕ, Bool, true, false, not, nat_le, List, [], ◌∷◌, Option, None, Some, MatchOption, codes, string_bytes}
use Rattle.std.specs.Prelude.{if◌then◌else◌}
use Rattle.std.specs.List.{find, list_all}
use Rattle.std.specs.Option.{option_and_then, option_map}
use Rattle.dom_nodes.specs.Words.{is_among}
use Rattle.dom_clean.specs.Policy.{Policy, attribute_names, is_class, is_simple_byte, is_worded, joins_well, may_have, may_keep, may_lead}
use Rattle.dom_clean.specs.Policy.{table_parts}
use Rattle.dom_clean.specs.declared.policy.PolicyFault.{PolicyFault}
use Rattle.dom_clean.specs.declared.policy.PolicyFault.TheVariants.{Element, Table, Attribute, Scheme, Base, Rel, RelTwice, Class, Prefix}
use Rattle.dom_clean.specs.declared.policy.PolicyFault.TheVariants.{Depth, Memory}

pub data Fault : Type 0 where
  -- a name that can't be allowed
  bad_element : List ℕ → Fault
  bad_attribute : List ℕ → Fault
  bad_scheme : List ℕ → Fault
  bad_class : List ℕ → Fault
  -- `table` is allowed without this part
  no_part : List ℕ → Fault
  -- the scheme of the base isn't allowed
  bad_base : Fault
  -- the `rel` of links can't be written, or is beside an allowed attribute `rel`
  bad_rel : Fault
  second_rel : Fault
  bad_prefix : Fault
  bad_depth : Fault

-- ---- the first fault

-- the first name that fails the test
abbrev pub first_failing : (List ℕ → Bool) → List (List ℕ) → Option (List ℕ)
first_failing test names = find (λ name. not (test name)) names

abbrev pub unless : Bool → Fault → Option Fault
unless true fault = None
unless false fault = Some fault

abbrev pub first_of : List (Option Fault) → Option Fault
first_of [] = None
first_of (None ∷ later) = first_of later
first_of (Some fault ∷ later) = Some fault

-- the first part of tables that isn't allowed although `table` is
abbrev pub missing_part : List (List ℕ) → Option (List ℕ)
missing_part elements = if is_among (codes "table") elements then first_failing (λ part. is_among part elements) table_parts else None

abbrev pub fault_of_names : Policy → Option Fault
fault_of_names rules = first_of (
    option_map bad_element (first_failing may_keep rules.elements)
    ∷ option_map no_part (missing_part rules.elements)
    ∷ option_map bad_attribute (first_failing may_have (attribute_names rules))
    ∷ [])

abbrev pub fault_of_rel : Policy → List ℕ → Option Fault
fault_of_rel rules rel = first_of (
    unless (is_worded rel) bad_rel
    ∷ unless (not (is_among (codes "rel") (attribute_names rules))) second_rel
    ∷ [])

abbrev pub fault_of_limits : Policy → Option Fault
fault_of_limits rules = first_of (
    unless (list_all is_simple_byte rules.id_prefix) bad_prefix
    ∷ unless (nat_le rules.depth 256) bad_depth
    ∷ [])

-- the faults are looked for in this order
abbrev pub first_fault : Policy → Option Fault
first_fault rules = first_of (
    fault_of_names rules
    ∷ option_map bad_scheme (first_failing may_lead rules.schemes)
    ∷ unless (joins_well rules.schemes rules.relative) bad_base
    ∷ option_and_then (fault_of_rel rules) rules.rel
    ∷ option_map bad_class (option_and_then (first_failing is_class) rules.classes)
    ∷ fault_of_limits rules
    ∷ [])

-- ---- what is reported

-- the fault that is told; none where memory for its name was refused
abbrev pub told_by : PolicyFault → Option Fault
told_by (Element name) = Some (bad_element (string_bytes name))
told_by (Table part) = Some (no_part part.now)
told_by (Attribute name) = Some (bad_attribute (string_bytes name))
told_by (Scheme name) = Some (bad_scheme (string_bytes name))
told_by Base = Some bad_base
told_by Rel = Some bad_rel
told_by RelTwice = Some second_rel
told_by (Class name) = Some (bad_class (string_bytes name))
told_by Prefix = Some bad_prefix
told_by Depth = Some bad_depth
told_by Memory = None

-- the fault has a name that is copied
abbrev pub has_name : Fault → Bool
has_name (bad_element name) = true
has_name (bad_attribute name) = true
has_name (bad_scheme name) = true
has_name (bad_class name) = true
has_name fault = false

-- exactly this fault is told, or memory for its name was refused
abbrev pub Tells : PolicyFault → Fault → Type 0
Tells report fault = MatchOption (told_by report) (has_name fault ≡ true) (λ told. told ≡ fault)

-- this fault is told, if there is one
abbrev pub IsReported : Option Fault → Option PolicyFault → Type 0
IsReported (Some fault) (Some report) = Tells report fault
IsReported None None = Unit {0}
IsReported found reported = ⊥
