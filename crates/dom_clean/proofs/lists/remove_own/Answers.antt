use Rattle.std.proofs.Common.{rules, ap, map, not, ◌&&◌, ◌∙◌}
use Rattle.std.proofs.lemmas.Fn.{filter_same}
use Rattle.std.specs.Str.{bytes_eq}
use Rattle.dom_clean.specs.Policies.{own_of}
use Rattle.dom_clean.specs.Policy.{OwnAttribute}
use Rattle.dom_clean.specs.declared.lists.OwnAttribute.{OwnAttribute as OwnLists}
use Rattle.dom_clean.proofs.Searches.{filter-map}
use Rattle.dom_clean.proofs.lists.remove_own.Goals as goal

pub returns : goal.returns
returns c =
    let test = λ (own : OwnAttribute). not (bytes_eq own.element c.args.element.now && bytes_eq own.attribute c.args.name.now) in
    ap (map own_of) (filter_same _ (λ (one : OwnLists). test (own_of one)) _ (λ x b f' k. search rules) _ _ c.retain.ensures.filtered)
    ∙ filter-map own_of test _
