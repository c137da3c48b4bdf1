use Rattle.std.proofs.Common.{◌≡◌, ◌||◌, ◌∙◌, List, ap, false, map, string_bytes, sym, ℕ}
use Rattle.std.specs.Prelude.{codes}
use Rattle.std.specs.Str.{bytes_eq}
use Rattle.std.proofs.lemmas.List.Folds.{list_any-append}
use Rattle.dom_nodes.specs.Words.{is_among}
use Rattle.dom_clean.specs.Policies.{own_of}
use Rattle.dom_clean.specs.Policy.{OwnAttribute}
use Rattle.dom_clean.specs.declared.lists.OwnAttribute.{OwnAttribute as OwnLists}
use Rattle.dom_clean.proofs.Owns.{same_names}
use Rattle.dom_clean.proofs.policy.has_rel.Goals as goal

pub returns : goal.returns
returns c =
    let rel = codes "rel" in
    let owns = c.args.lists.now.own_attributes.items in
    let names : List (List ℕ) = map string_bytes c.args.lists.now.attributes.items in
    let own_names : List (List ℕ) = map (λ (own : OwnAttribute). own.attribute) (map own_of owns) in
    let none : is_among rel names ≡ false = cc in
    let own : c.has_own.result ≡ is_among rel (map (λ (own : OwnLists). string_bytes own.attribute) owns) = cc in
    own ∙ ap (is_among rel) (same_names owns) ∙ sym (list_any-append (λ name. bytes_eq name rel) names own_names ∙ ap (λ b. b || is_among rel own_names) none)
