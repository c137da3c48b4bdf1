use Rattle.dom_links.proofs.forest.Templates.{created_template}
use Rattle.dom_links.proofs.ops.templates.create_template.Goals as goal

pub returns-clause-ok : goal.returns-clause-ok
returns-clause-ok c = created_template c.args.nodes.now.items c.push_alone.new.nodes.items c.create_fragment.new.nodes.items c.args.content c.in_ok-id.ensures.ok c.in_ok-create_fragment.ensures.ok
