use Rattle.std.proofs.Common.{length}
use Rattle.dom_links.specs.Validation.{parent_or_host}
use Rattle.dom_links.proofs.checks.Checked.{known_given, cycles_given, no_step_past, step_known}
use Rattle.dom_links.proofs.validation.cycles.has_ancestor_cycle.Goals as goal

pub has_cycle-requires : goal.has_cycle-requires
has_cycle-requires c =
    known_given c.deref.result.now c.in_ok-ups.ups.items (length c.args.nodes.now) (parent_or_host c.args.nodes.now c.args.hosts.now) c.deref.ensures.value c.in_ok-ups.ensures
    (λ m. no_step_past c.args.nodes.now c.args.hosts.now m c.requires.hosts.long)
    (λ n. step_known c.args.nodes.now c.args.hosts.now n c.requires.known c.requires.hosts)

pub returns : goal.returns
returns c =
    cycles_given c.deref.result.now c.in_ok-ups.ups.items (length c.args.nodes.now) (parent_or_host c.args.nodes.now c.args.hosts.now) c.has_cycle.result c.deref.ensures.value c.in_ok-ups.ensures
    (λ m. no_step_past c.args.nodes.now c.args.hosts.now m c.requires.hosts.long) c.has_cycle.ensures
