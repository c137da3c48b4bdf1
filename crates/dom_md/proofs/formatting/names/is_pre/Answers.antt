use Rattle.std.proofs.Common.{◌≡◌, true, refl}
use Rattle.std.specs.Prelude.{◌==◌, codes}
use Rattle.std.specs.Str.{bytes_eq}
use Rattle.std.proofs.lemmas.Bool.{agree_below}
use Rattle.dom_nodes.specs.KnownNames.{known_name}
use Rattle.dom_md.proofs.NumberLemmas.{decides_name}
use Rattle.dom_md.proofs.formatting.names.is_pre.Goals as goal

number_is : agree_below (λ n. n == 49) (λ n. bytes_eq (known_name n) (codes "pre")) 247 ≡ true
unfolding known_name
number_is = refl

pub returns-in-Some : goal.returns-in-Some
returns-in-Some c = decides_name (λ n. n == 49) (λ name. bytes_eq name (codes "pre")) _ _ number_is c.in-Some.ensures.0 c.in-Some.ensures.1
