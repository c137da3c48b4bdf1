use Rattle.std.proofs.Common.{None, Some, subst, sym, ◌∙◌}
use Rattle.page_trees.specs.Groups.{IsGroupOf}
use Rattle.page_trees.proofs.GroupRules.{block_follows, other_follows}
use Rattle.page_trees.proofs.modes.groups.group_of.Goals as goal

pub returns-then-is_block-clause-follows : goal.returns-then-is_block-clause-follows
returns-then-is_block-clause-follows c = block_follows c.args.name (sym c.is_block.ensures ∙ c.if-is_block.true)

pub returns-in-Some-clause-follows : goal.returns-in-Some-clause-follows
returns-in-Some-clause-follows c =
    other_follows c.args.name (Some c.in-Some.group) (sym c.is_block.ensures ∙ c.if-is_block.false) (sym c.common_group_of.ensures ∙ c.in-Some.is)

pub returns-in-None-clause-follows : goal.returns-in-None-clause-follows
returns-in-None-clause-follows c =
    subst (IsGroupOf c.args.name) (sym c.rare_group_of.ensures)
    (other_follows c.args.name None (sym c.is_block.ensures ∙ c.if-is_block.false) (sym c.common_group_of.ensures ∙ c.in-None.is))
