use Rattle.page_trees.proofs.TableTags.{no_section_in_row, row_in_section, section_is_known}
use Rattle.page_trees.proofs.builder.TreeBuilder.leave_row_in.Goals as goal

pub returns-then-has_in_table-clause-rule : goal.returns-then-has_in_table-clause-rule
returns-then-has_in_table-clause-rule c tag section ends within b current stands =
    row_in_section c.args.name tag b c.leave_row.new.self c.has_in_table.result c.leave_row.result section current ends
    (c.has_in_table.ensures (section_is_known c.args.name section) b.tree stands.tree) c.if-has_in_table.true
    (c.leave_row.ensures.found b.tree stands.tree) (c.leave_row.ensures.rule within b stands)

pub returns-clause-rule : goal.returns-clause-rule
returns-clause-rule c tag section ends within b current stands =
    no_section_in_row c.args.name tag b _ c.has_in_table.result section current ends
    (c.has_in_table.ensures (section_is_known c.args.name section) b.tree stands.tree) c.if-has_in_table.false stands
