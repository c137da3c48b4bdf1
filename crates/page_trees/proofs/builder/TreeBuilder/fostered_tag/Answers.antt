use Rattle.std.proofs.Common.{refl, sym, ◌∙◌}
use Rattle.page_trees.proofs.FosteredImages.{image_fostered}
use Rattle.page_trees.proofs.FosteredTags.{tag_fostered}
use Rattle.page_trees.proofs.builder.TreeBuilder.fostered_tag.Goals as goal

pub returns-then-is_image : goal.returns-then-is_image
returns-then-is_image c = record {
  rule = image_fostered c.args.name c.args.tag.now c.args.self.now _ c.fostered_image.result (sym c.is_image.ensures ∙ c.if-is_image.true) c.fostered_image.ensures.next
      c.fostered_image.ensures.rule;
}

pub returns : goal.returns
returns c = record {
  rule = tag_fostered c.args.name c.args.tag.now c.args.self.now _ c.body_tag-next.new.self _ c.body_tag-next.result refl refl (sym c.is_image.ensures ∙ c.if-is_image.false)
      c.body_tag-next.ensures.rule;
}
