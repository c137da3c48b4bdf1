use Rattle.std.proofs.Common.{refl}
use Rattle.page_trees.specs.declared.modes.groups.Group.{Group}
use Rattle.page_trees.proofs.BodyStarts.{by_name, object_started, stray_started, text_left, void_started}
use Rattle.page_trees.specs.declared.name.Name.{Name}
use Rattle.page_trees.proofs.BodyControls.{base_started, hr_named, hr_started, optgroup_started, option_started, text_started}
use Rattle.page_trees.proofs.BodyElements.{table_named, table_started}
use Rattle.page_trees.proofs.BodyImages.{image_named}
use Rattle.page_trees.proofs.BodyInputs.{input_named, select_named}
use Rattle.page_trees.proofs.builder.TreeBuilder.start_inline.Goals as goal

pub returns-in-Stray : goal.returns-in-Stray
returns-in-Stray c = record { rule = λ inline. stray_started c.args.group c.args.name c.args.tag.now c.args.self.now c.in-Stray.is }

pub returns-in-Object : goal.returns-in-Object
returns-in-Object c = record { rule = λ inline. object_started c.args.group c.args.name c.args.tag.now c.args.self.now c.insert_marked.new.self c.insert_marked.result c.in-Object.is c.insert_marked.ensures.next c.insert_marked.ensures.limits c.insert_marked.ensures.rule }

pub returns-in-Void : goal.returns-in-Void
returns-in-Void c = record { rule = λ inline. void_started c.args.group c.args.name c.args.tag.now c.args.self.now c.insert_void.new.self c.insert_void.result c.in-Void.is c.insert_void.ensures.next c.insert_void.ensures.limits c.insert_void.ensures.rule }

pub returns-in-Table : goal.returns-in-Table
returns-in-Table c = record {
  rule = λ inline. by_name c.args.group Group.Table c.args.name Name.Table c.args.tag.now c.args.self.now c.start_table.new.self c.start_table.result c.in-Table.is (table_named c.args.name)
      (table_started c.args.tag.now c.args.self.now c.start_table.new.self c.start_table.result c.start_table.ensures.next c.start_table.ensures.limits c.start_table.ensures.rule);
}

pub returns-in-Hr : goal.returns-in-Hr
returns-in-Hr c = record {
  rule = λ inline. by_name c.args.group Group.Hr c.args.name Name.Hr c.args.tag.now c.args.self.now c.start_hr.new.self c.start_hr.result c.in-Hr.is (hr_named c.args.name)
      (hr_started c.args.tag.now c.args.self.now c.start_hr.new.self c.start_hr.result c.start_hr.ensures.next c.start_hr.ensures.limits c.start_hr.ensures.rule);
}

pub returns-in-Image : goal.returns-in-Image
returns-in-Image c = record {
  rule = λ inline. by_name c.args.group Group.Image c.args.name Name.Image c.args.tag.now c.args.self.now c.start_image.new.self c.start_image.result c.in-Image.is (image_named c.args.name)
      c.start_image.ensures.rule;
}

pub returns-in-Input : goal.returns-in-Input
returns-in-Input c = record {
  rule = λ inline. by_name c.args.group Group.Input c.args.name Name.Input c.args.tag.now c.args.self.now c.start_input.new.self c.start_input.result c.in-Input.is (input_named c.args.name)
      c.start_input.ensures.rule;
}

pub returns-in-Select : goal.returns-in-Select
returns-in-Select c = record {
  rule = λ inline. by_name c.args.group Group.Select c.args.name Name.Select c.args.tag.now c.args.self.now c.start_select.new.self c.start_select.result c.in-Select.is (select_named c.args.name)
      c.start_select.ensures.rule;
}

pub returns-in-Optgroup : goal.returns-in-Optgroup
returns-in-Optgroup c = record {
  rule = λ inline. optgroup_started c.args.group c.args.name c.args.tag.now c.args.self.now c.start_option.new.self c.start_option.result c.in-Optgroup.is c.start_option.ensures.next c.start_option.ensures.limits
      (c.start_option.ensures.rule tt);
}

pub returns-in-Option : goal.returns-in-Option
returns-in-Option c = record {
  rule = λ inline. option_started c.args.group c.args.name c.args.tag.now c.args.self.now c.start_option-in-Option.new.self c.start_option-in-Option.result c.in-Option.is c.start_option-in-Option.ensures.next c.start_option-in-Option.ensures.limits
      (c.start_option-in-Option.ensures.rule refl);
}

pub returns-in-RubyBase : goal.returns-in-RubyBase
returns-in-RubyBase c = record {
  rule = λ inline. base_started c.args.group c.args.name c.args.tag.now c.args.self.now c.start_ruby.new.self c.start_ruby.result c.in-RubyBase.is c.start_ruby.ensures.next c.start_ruby.ensures.limits
      (c.start_ruby.ensures.rule tt);
}

pub returns-in-RubyText : goal.returns-in-RubyText
returns-in-RubyText c = record {
  rule = λ inline. text_started c.args.group c.args.name c.args.tag.now c.args.self.now c.start_ruby-in-RubyText.new.self c.start_ruby-in-RubyText.result c.in-RubyText.is c.start_ruby-in-RubyText.ensures.next c.start_ruby-in-RubyText.ensures.limits
      (c.start_ruby-in-RubyText.ensures.rule refl);
}

pub returns-in_default : goal.returns-in_default
returns-in_default c = record {
  rule = λ inline. c.start_text.ensures.rule (text_left c.args.group c.in_default.not-Stray c.in_default.not-Object c.in_default.not-Table c.in_default.not-Void c.in_default.not-Param
      c.in_default.not-Hr c.in_default.not-Image c.in_default.not-Input c.in_default.not-Select c.in_default.not-Optgroup c.in_default.not-Option c.in_default.not-RubyBase
      c.in_default.not-RubyText inline);
}
