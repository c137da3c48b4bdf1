use Rattle.std.proofs.Common.{refl}
use Rattle.page_trees.proofs.FosteredImages.{image_brought}
use Rattle.page_trees.proofs.builder.TreeBuilder.fostered_image.Goals as goal

pub returns-clause-rule : goal.returns-clause-rule
returns-clause-rule c =
    image_brought c.args.tag.now c.args.self.now _ c.before_start.new.self c.start_image.new.self _ refl refl c.before_start.ensures.rule c.start_image.ensures.limits c.start_image.ensures.image
