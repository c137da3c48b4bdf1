use Rattle.std.proofs.Common.{◌≡◌, true, get_or, refl}
use Rattle.std.specs.Prelude.{◌==◌}
use Rattle.std.proofs.lemmas.Bool.{agree_below}
use Rattle.dom_nodes.specs.KnownNames.{known_name}
use Rattle.dom_nodes.specs.Words.{is_among}
use Rattle.dom_md.specs.Formatted.{line_names}
use Rattle.dom_md.specs.declared.formatting.names.TheConstants.{KINDS}
use Rattle.dom_md.proofs.NumberLemmas.{decides_name}
use Rattle.dom_md.proofs.formatting.names.is_line.Goals as goal

table_is : agree_below (λ n. get_or KINDS n 0 == 2) (λ n. is_among (known_name n) line_names) 247 ≡ true
unfolding known_name line_names
table_is = refl

pub returns-in-Some : goal.returns-in-Some
returns-in-Some c = decides_name (λ n. get_or KINDS n 0 == 2) (λ name. is_among name line_names) _ _ table_is c.in-Some.ensures.0 c.in-Some.ensures.1
