use Rattle.page_trees.specs.declared.modes.groups.Group.{Group}
use Rattle.page_trees.specs.declared.name.Name.{Name}
use Rattle.page_trees.proofs.BodyStarts.{by_name, inline_left}
use Rattle.page_trees.proofs.BodyElements.{head_started}
use Rattle.page_trees.proofs.BodyFormatting.{a_continued, a_named, formatting_continued, nobr_continued, nobr_named}
use Rattle.page_trees.proofs.ForeignSteps.{math_started, svg_started}
use Rattle.page_trees.proofs.builder.TreeBuilder.start_phrase.Goals as goal

pub returns-in-Metadata : goal.returns-in-Metadata
returns-in-Metadata c = record {
  rule = λ phrase. head_started c.args.group c.args.name c.args.tag.now c.args.self.now c.head_element.new.self c.head_element.result c.in-Metadata.is c.head_element.ensures.limits
      c.head_element.ensures.rule;
}

pub returns-in-A : goal.returns-in-A
returns-in-A c = record {
  rule = λ phrase. by_name c.args.group Group.A c.args.name Name.A c.args.tag.now c.args.self.now c.start_a.new.self c.start_a.result c.in-A.is (a_named c.args.name)
      (a_continued c.args.tag.now c.args.self.now c.start_a.new.self c.start_a.result c.start_a.ensures.limits c.start_a.ensures.rule);
}

pub returns-in-Formatting : goal.returns-in-Formatting
returns-in-Formatting c = record {
  rule = λ phrase. formatting_continued c.args.group c.args.name c.args.tag.now c.args.self.now c.start_formatting.new.self c.start_formatting.result c.in-Formatting.is
      c.start_formatting.ensures.limits c.start_formatting.ensures.rule;
}

pub returns-in-Nobr : goal.returns-in-Nobr
returns-in-Nobr c = record {
  rule = λ phrase. by_name c.args.group Group.Nobr c.args.name Name.Nobr c.args.tag.now c.args.self.now c.start_nobr.new.self c.start_nobr.result c.in-Nobr.is (nobr_named c.args.name)
      (nobr_continued c.args.tag.now c.args.self.now c.start_nobr.new.self c.start_nobr.result c.start_nobr.ensures.limits c.start_nobr.ensures.rule);
}

pub returns-in-Math : goal.returns-in-Math
returns-in-Math c = record {
  rule = λ phrase. math_started c.args.group c.args.name c.args.tag.now c.args.self.now c.insert_foreign.new.self c.insert_foreign.result c.in-Math.is
      c.insert_foreign.ensures.next c.insert_foreign.ensures.limits c.insert_foreign.ensures.rule;
}

pub returns-in-Svg : goal.returns-in-Svg
returns-in-Svg c = record {
  rule = λ phrase. svg_started c.args.group c.args.name c.args.tag.now c.args.self.now c.insert_foreign-in-Svg.new.self c.insert_foreign-in-Svg.result c.in-Svg.is
      c.insert_foreign-in-Svg.ensures.next c.insert_foreign-in-Svg.ensures.limits c.insert_foreign-in-Svg.ensures.rule;
}

pub returns-in_default : goal.returns-in_default
returns-in_default c = record {
  rule = λ phrase. c.start_inline.ensures.rule (inline_left c.args.group c.in_default.not-Metadata c.in_default.not-Template c.in_default.not-A c.in_default.not-Formatting
      c.in_default.not-Nobr c.in_default.not-Math c.in_default.not-Svg phrase);
}
