use Rattle.std.proofs.Common.{◌+◌, ◌-◌}
use Rattle.dom_nodes.specs.KnownNames.{start, known_name}
use Rattle.dom_nodes.proofs.KnownLemmas.{start-le, end-le, known_utf8}
use Rattle.dom_nodes.proofs.name.known.name_of.Goals as goal

pub slice_bounds-from_utf8_unchecked-count : goal.slice_bounds-from_utf8_unchecked-count
slice_bounds-from_utf8_unchecked-count c = start-le c.args.number c.requires

pub slice_bounds-from_utf8_unchecked-start : goal.slice_bounds-from_utf8_unchecked-start
slice_bounds-from_utf8_unchecked-start c = start-le c.args.number c.requires

pub slice_bounds-from_utf8_unchecked-end : goal.slice_bounds-from_utf8_unchecked-end
slice_bounds-from_utf8_unchecked-end c = end-le c.args.number c.requires

pub from_utf8_unchecked-requires : goal.from_utf8_unchecked-requires
from_utf8_unchecked-requires c = known_utf8 (start c.args.number) (start (c.args.number + 1) - start c.args.number)

pub returns : goal.returns
unfolding known_name
returns c = c.from_utf8_unchecked.ensures
