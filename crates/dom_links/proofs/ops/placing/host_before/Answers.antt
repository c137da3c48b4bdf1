use Rattle.std.proofs.Common.{sym, ◌∙◌}
use Rattle.std.proofs.lemmas.Bool.{eqb-true}
use Rattle.dom_links.specs.Forest.{forest_of}
use Rattle.dom_links.proofs.forest.Climbs.{holder_found}
use Rattle.dom_links.proofs.ops.placing.host_before.Goals as goal

pub returns-then-eq : goal.returns-then-eq
returns-then-eq c =
    holder_found (forest_of c.args.nodes.now) c.args.nodes.now c.in_ok-checked_sub.field-0 c.in_ok-contents.contents c.args.n c.in_ok-before.before.now c.requires.linked c.in_ok-before.ensures.lookup.3.0 c.in_ok-before.ensures.lookup.1
    (sym c.template_contents.ensures ∙ c.in_ok-contents.was) (eqb-true c.in_ok-contents.contents c.args.n (sym c.eq.ensures ∙ c.if-eq.true))
