use Rattle.page_trees.proofs.FormattingRules.{element_listed, listed_limits}
use Rattle.page_trees.proofs.builder.TreeBuilder.start_listed.Goals as goal

pub returns-clause-limits : goal.returns-clause-limits
returns-clause-limits c =
    listed_limits c.args.self.now c.insert_inline.new.self c.keep.new.self c.push_formatting-pushed.result c.push_formatting-pushed.new.self c.keep.ensures c.insert_inline.ensures.limits

pub returns-clause-rule : goal.returns-clause-rule
returns-clause-rule c formats start within b current stands =
    let limits = listed_limits c.insert_inline.new.self c.insert_inline.new.self c.keep.new.self c.push_formatting-pushed.result c.push_formatting-pushed.new.self c.keep.ensures (λ w. w)
    (record { fault = within.fault; depth = within.depth }) in
    element_listed c.args.name c.args.tag.now b c.insert_inline.new.self c.keep.new.self c.push_formatting-pushed.result c.push_formatting-pushed.new.self c.keep.ensures
    c.push_formatting-pushed.ensures formats start (record { fault = within.fault; depth = within.depth }) current
    (c.insert_inline.ensures.rule start (record { fault = limits.fault; depth = limits.depth }) b current stands)
