use Rattle.page_trees.proofs.BodyImages.{image_made, image_started}
use Rattle.page_trees.proofs.builder.TreeBuilder.start_image.Goals as goal

pub returns-clause-rule : goal.returns-clause-rule
returns-clause-rule c =
    image_started c.args.tag.now c.args.self.now c.insert.new.self c.pop.new.self (λ within. c.insert.ensures.limits (record { fault = within.fault; depth = within.depth }))
    c.insert.ensures.element c.pop.ensures

pub returns-clause-image : goal.returns-clause-image
returns-clause-image c = image_made c.args.tag.now c.args.self.now c.insert.new.self c.pop.new.self c.insert.ensures.element c.pop.ensures
