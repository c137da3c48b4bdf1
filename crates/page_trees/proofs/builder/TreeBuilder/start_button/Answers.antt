use Rattle.std.proofs.Common.{refl}
use Rattle.page_trees.proofs.BodyStarts.{button_started}
use Rattle.page_trees.proofs.builder.TreeBuilder.start_button.Goals as goal

pub returns-clause-rule : goal.returns-clause-rule
returns-clause-rule c =
    button_started c.args.tag.now c.args.self.now c.close.new.self c.insert_inline.new.self c.insert_inline.result c.insert_inline.ensures.next (λ within. (let w = c.insert_inline.ensures.limits within in record { fault = w.fault; depth = w.depth }))
    (c.close.ensures.rule refl) c.insert_inline.ensures.rule
