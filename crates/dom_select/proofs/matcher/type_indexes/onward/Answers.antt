use Rattle.std.proofs.Common.{subst}
use Rattle.dom_links.specs.Forest.{StandsOnce}
use Rattle.dom_select.proofs.types.TypeIndexLemmas.{onward_row}
use Rattle.dom_select.proofs.matcher.type_indexes.onward.Goals as goal

pub returns-clause-passed : goal.returns-clause-passed
returns-clause-passed c =
    let once = subst StandsOnce c.nodes-nodes.ensures.value c.nodes-nodes.ensures.sound.forest.once in
    onward_row c.args.tree.now c.line_laws.ensures once c.args.from_first c.args.at _ c.beside.ensures
