use Rattle.std.proofs.Common.{rules, ap, map, not, string_bytes, ◌∙◌}
use Rattle.std.proofs.lemmas.Fn.{filter_same}
use Rattle.std.specs.Str.{bytes_eq}
use Rattle.dom_clean.proofs.Searches.{filter-map}
use Rattle.dom_clean.proofs.lists.remove_name.Goals as goal

pub returns : goal.returns
returns c =
    ap (map string_bytes) (filter_same _ (λ one. not (bytes_eq (string_bytes one) c.args.name.now)) _ (λ x b f' k. search rules) _ _ c.retain.ensures.filtered)
    ∙ filter-map string_bytes (λ one. not (bytes_eq one c.args.name.now)) _
