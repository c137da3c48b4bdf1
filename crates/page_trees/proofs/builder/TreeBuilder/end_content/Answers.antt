use Rattle.std.proofs.Common.{rules}
use Rattle.page_trees.proofs.PageEnds.{body_in_template, no_template_ends}
use Rattle.page_trees.proofs.builder.TreeBuilder.end_content.Goals as goal

pub returns-then-is_empty-clause-rule : goal.returns-then-is_empty-clause-rule
returns-then-is_empty-clause-rule c within b token stands = no_template_ends c.args.self.now b (search rules) token stands

pub returns-clause-rule : goal.returns-clause-rule
returns-clause-rule c = body_in_template c.args.self.now c.end_in_template.new.self c.end_in_template.result (search rules) c.end_in_template.ensures.rule
