use Rattle.std.proofs.Common.{refl}
use Rattle.page_trees.specs.Constructs.{WithinLimits}
use Rattle.page_trees.proofs.HeadEdits.{template_started}
use Rattle.page_trees.proofs.builder.TreeBuilder.start_template.Goals as goal

pub returns-clause-rule : goal.returns-clause-rule
returns-clause-rule c within b stands =
    let pushed : WithinLimits c.push_template_mode.new.self = record { fault = within.fault; depth = within.depth } in
    let marked = c.push_template_mode.ensures.limits pushed in
    template_started c.push_marker.new.self c.push_template_mode.new.self b
    (c.push_marker.ensures.rule (record { fault = marked.fault; depth = marked.depth }) b stands)
    (λ d stands. c.push_template_mode.ensures.rule refl pushed d stands)
