use Rattle.page_trees.specs.declared.modes.groups.Group.{Group}
use Rattle.page_trees.specs.declared.name.Name.{Name}
use Rattle.page_trees.proofs.BodyStarts.{block_started, button_named, by_name, heading_started, item_started, phrase_left, pre_started}
use Rattle.page_trees.proofs.BodyElements.{html_named, html_started}
use Rattle.page_trees.proofs.BodyForms.{form_named}
use Rattle.page_trees.proofs.LaterBodies.{body_named, frameset_named}
use Rattle.page_trees.proofs.builder.TreeBuilder.start_block.Goals as goal

pub returns-in-Block : goal.returns-in-Block
returns-in-Block c = record { rule = block_started c.args.group c.args.name c.args.tag.now c.args.self.now c.insert_done.new.self c.insert_done.result c.in-Block.is c.insert_done.ensures.next c.insert_done.ensures.limits c.insert_done.ensures.rule }

pub returns-in-Heading : goal.returns-in-Heading
returns-in-Heading c = record { rule = heading_started c.args.group c.args.name c.args.tag.now c.args.self.now c.start_heading.new.self c.start_heading.result c.in-Heading.is c.start_heading.ensures.next c.start_heading.ensures.limits c.start_heading.ensures.rule }

pub returns-in-Pre : goal.returns-in-Pre
returns-in-Pre c = record { rule = pre_started c.args.group c.args.name c.args.tag.now c.args.self.now c.start_pre.new.self c.start_pre.result c.in-Pre.is c.start_pre.ensures.next c.start_pre.ensures.limits c.start_pre.ensures.rule }

pub returns-in-Li : goal.returns-in-Li
returns-in-Li c = record { rule = item_started c.args.group c.args.name c.args.tag.now c.args.self.now c.start_item.new.self c.start_item.result c.in-Li.is c.start_item.ensures.next c.start_item.ensures.limits c.start_item.ensures.rule }

pub returns-in-Html : goal.returns-in-Html
returns-in-Html c = record {
  rule = by_name c.args.group Group.Html c.args.name Name.Html c.args.tag.now c.args.self.now c.add_html_attrs.new.self c.add_html_attrs.result c.in-Html.is (html_named c.args.name)
      (html_started c.args.tag.now c.args.self.now c.add_html_attrs.new.self c.add_html_attrs.result c.add_html_attrs.ensures.limits c.add_html_attrs.ensures.rule);
}

pub returns-in-Body : goal.returns-in-Body
returns-in-Body c = record {
  rule = by_name c.args.group Group.Body c.args.name Name.Body c.args.tag.now c.args.self.now c.start_body.new.self c.start_body.result c.in-Body.is (body_named c.args.name)
      c.start_body.ensures.rule;
}

pub returns-in-Frameset : goal.returns-in-Frameset
returns-in-Frameset c = record {
  rule = by_name c.args.group Group.Frameset c.args.name Name.Frameset c.args.tag.now c.args.self.now c.start_frameset.new.self c.start_frameset.result c.in-Frameset.is (frameset_named c.args.name)
      c.start_frameset.ensures.rule;
}

pub returns-in-Form : goal.returns-in-Form
returns-in-Form c = record {
  rule = by_name c.args.group Group.Form c.args.name Name.Form c.args.tag.now c.args.self.now c.start_form.new.self c.start_form.result c.in-Form.is (form_named c.args.name)
      c.start_form.ensures.rule;
}

pub returns-in-Button : goal.returns-in-Button
returns-in-Button c = record {
  rule = by_name c.args.group Group.Button c.args.name Name.Button c.args.tag.now c.args.self.now c.start_button.new.self c.start_button.result c.in-Button.is (button_named c.args.name)
      c.start_button.ensures.rule;
}

pub returns-in_default : goal.returns-in_default
returns-in_default c = record {
  rule = c.start_phrase.ensures.rule (phrase_left c.args.group c.in_default.not-Block c.in_default.not-P c.in_default.not-Html c.in_default.not-Body c.in_default.not-Frameset
      c.in_default.not-Heading c.in_default.not-Pre c.in_default.not-Form c.in_default.not-Li c.in_default.not-Description c.in_default.not-Button);
}
