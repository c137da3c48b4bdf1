use Rattle.std.proofs.Common.{refl}
use Rattle.dom_nodes.specs.KnownNames.{known_name}
use Rattle.dom_markup.specs.Names.{void_names}
use Rattle.dom_markup.proofs.html.TreatedNames.{TreatsAs, treated_as}
use Rattle.dom_markup.proofs.names.is_void_name.Goals as goal

table_is : TreatsAs 1 void_names
unfolding known_name void_names
table_is = refl

pub returns-in-Some : goal.returns-in-Some
returns-in-Some c = treated_as 1 void_names c.in-Some.number _ table_is c.in-Some.ensures.0 c.in-Some.ensures.1
