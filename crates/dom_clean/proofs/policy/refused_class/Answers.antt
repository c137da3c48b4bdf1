use Rattle.std.proofs.Common.{Global, List, String, ap, find, map, not, string_bytes, ◌∙◌, ◌≡◌, option_copied}
use Rattle.std.specs.Option.{option_map}
use Rattle.dom_clean.specs.Faults.{first_failing}
use Rattle.dom_clean.specs.Policy.{is_class}
use Rattle.dom_clean.proofs.Searches.{find-map}
use Rattle.dom_clean.proofs.policy.refused_class.Goals as goal

pub returns-in-Some : goal.returns-in-Some
returns-in-Some c =
    let names = c.in-Some.classes.items in
    let test = λ (name : String Global). not (is_class (string_bytes name)) in
    let found : option_map string_bytes (option_copied c.refused_among_classes.result) ≡ first_failing is_class (map string_bytes names) =
    ap (option_map string_bytes) (c.refused_among_classes.ensures ∙ ap (find test) c.deref.ensures.value) ∙ find-map string_bytes (λ name. not (is_class name)) names in
    rw c.in-Some.is found
