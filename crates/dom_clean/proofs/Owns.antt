-- The attributes of single elements, as rules list them and as a policy does.
use Rattle.std.proofs.Common.{◌≡◌, List, [], ◌∷◌, map, string_bytes, refl, ap}
use Rattle.dom_clean.specs.Policies.{own_of}
use Rattle.dom_clean.specs.Policy.{OwnAttribute}
use Rattle.dom_clean.specs.declared.lists.OwnAttribute.{OwnAttribute as OwnLists}

pub same_names : (owns : List OwnLists) → map (λ (own : OwnLists). string_bytes own.attribute) owns ≡ map (λ (own : OwnAttribute). own.attribute) (map own_of owns)
same_names [] = refl
same_names (own ∷ owns) = ap (λ names. string_bytes own.attribute ∷ names) (same_names owns)
