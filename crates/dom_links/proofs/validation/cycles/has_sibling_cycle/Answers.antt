use Rattle.dom_links.specs.Forest.{prev_link}
use Rattle.dom_links.proofs.checks.Checked.{cycles_given, no_prev_past}
use Rattle.std.proofs.Common.{length}
use Rattle.dom_links.proofs.validation.cycles.has_sibling_cycle.Goals as goal

pub returns : goal.returns
returns c =
    cycles_given c.deref.result.now c.in_ok-prevs.prevs.items (length c.args.nodes.now) (prev_link c.args.nodes.now) c.has_cycle.result c.deref.ensures.value c.in_ok-prevs.ensures
    (no_prev_past c.args.nodes.now) c.has_cycle.ensures
