use Rattle.std.proofs.Common.{ap, inl, inr, refl, sym, ◌∙◌}
use Rattle.page_trees.specs.BodyTags.{ends_otherwise}
use Rattle.page_trees.specs.declared.modes.groups.Group.{Group}
use Rattle.page_trees.specs.declared.name.Name.{Name}
use Rattle.page_trees.proofs.BodyEnds.{block_ended, body_named, description_ended, ends_by_name, heading_ended, html_named, left_over, li_ended, p_ended}
use Rattle.page_trees.proofs.BodyFormatting.{formatting_closed}
use Rattle.page_trees.proofs.BodyForms.{form_named}
use Rattle.page_trees.proofs.ObjectEnds.{object_ended, template_ended}
use Rattle.page_trees.proofs.builder.TreeBuilder.body_end.Goals as goal

pub returns-in-Block : goal.returns-in-Block
returns-in-Block c = record {
  rule = elim c.in-Block.is [
    | inl e ↦ block_ended Group.Block c.args.name c.args.tag.now c.args.self.now c.end_in.new.self c.end_in.result (sym c.group_of.ensures.named ∙ e) refl c.end_in.ensures.next c.end_in.ensures.rule
    | inr some ↦ elim some [
      | inl e ↦ block_ended Group.Button c.args.name c.args.tag.now c.args.self.now c.end_in.new.self c.end_in.result (sym c.group_of.ensures.named ∙ e) refl c.end_in.ensures.next c.end_in.ensures.rule
      | inr more ↦ elim more [
        | inl e ↦ block_ended Group.Pre c.args.name c.args.tag.now c.args.self.now c.end_in.new.self c.end_in.result (sym c.group_of.ensures.named ∙ e) refl c.end_in.ensures.next c.end_in.ensures.rule
        | inr e ↦ block_ended Group.Select c.args.name c.args.tag.now c.args.self.now c.end_in.new.self c.end_in.result (sym c.group_of.ensures.named ∙ e) refl c.end_in.ensures.next c.end_in.ensures.rule
      ]
    ]
  ];
}

pub returns-in-Description : goal.returns-in-Description
returns-in-Description c = record {
  rule = description_ended c.args.name c.args.tag.now c.args.self.now c.end_in-in-Description.new.self c.end_in-in-Description.result (sym c.group_of.ensures.named ∙ c.in-Description.is) c.end_in-in-Description.ensures.next
      c.end_in-in-Description.ensures.rule;
}

pub returns-in-Li : goal.returns-in-Li
returns-in-Li c = record {
  rule = li_ended c.args.name c.args.tag.now c.args.self.now c.end_in-in-Li.new.self c.end_in-in-Li.result (sym c.group_of.ensures.named ∙ c.in-Li.is) c.end_in-in-Li.ensures.next c.end_in-in-Li.ensures.rule;
}

pub returns-in-Heading : goal.returns-in-Heading
returns-in-Heading c = record {
  rule = heading_ended c.args.name c.args.tag.now c.args.self.now c.end_heading.new.self c.end_heading.result (sym c.group_of.ensures.named ∙ c.in-Heading.is) c.end_heading.ensures.next c.end_heading.ensures.rule;
}

pub returns-in-A : goal.returns-in-A
returns-in-A c = record {
  rule = elim c.in-A.is [
    | inl e ↦ formatting_closed Group.A c.args.name c.args.tag.now c.args.self.now c.end_formatting.new.self c.end_formatting.result (sym c.group_of.ensures.named ∙ e) refl c.end_formatting.ensures.rule
    | inr more ↦ elim more [
      | inl e ↦ formatting_closed Group.Formatting c.args.name c.args.tag.now c.args.self.now c.end_formatting.new.self c.end_formatting.result (sym c.group_of.ensures.named ∙ e) refl c.end_formatting.ensures.rule
      | inr e ↦ formatting_closed Group.Nobr c.args.name c.args.tag.now c.args.self.now c.end_formatting.new.self c.end_formatting.result (sym c.group_of.ensures.named ∙ e) refl c.end_formatting.ensures.rule
    ]
  ];
}

pub returns-in-Template : goal.returns-in-Template
returns-in-Template c = record {
  rule = template_ended c.args.name c.args.tag.now c.args.self.now c.end_template.new.self c.end_template.result (sym c.group_of.ensures.named ∙ c.in-Template.is) c.end_template.ensures.rule;
}

pub returns-in-Body : goal.returns-in-Body
returns-in-Body c = record {
  rule = ends_by_name Group.Body c.args.name Name.Body c.args.tag.now c.args.self.now c.end_body.new.self c.end_body.result (sym c.group_of.ensures.named ∙ c.in-Body.is) (body_named c.args.name)
      (c.end_body.ensures.rule c.args.tag.now);
}

pub returns-in-Html : goal.returns-in-Html
returns-in-Html c = record {
  rule = ends_by_name Group.Html c.args.name Name.Html c.args.tag.now c.args.self.now c.end_html.new.self c.end_html.result (sym c.group_of.ensures.named ∙ c.in-Html.is) (html_named c.args.name)
      (c.end_html.ensures.rule c.args.tag.now);
}

pub returns-in-Form : goal.returns-in-Form
returns-in-Form c = record {
  rule = ends_by_name Group.Form c.args.name Name.Form c.args.tag.now c.args.self.now c.end_form.new.self c.end_form.result (sym c.group_of.ensures.named ∙ c.in-Form.is) (form_named c.args.name)
      (c.end_form.ensures.rule c.args.tag.now);
}

pub returns-in-P : goal.returns-in-P
returns-in-P c = record {
  rule = p_ended c.args.name c.args.tag.now c.args.self.now c.end_p.new.self c.end_p.result (sym c.group_of.ensures.named ∙ c.in-P.is) c.end_p.ensures.next c.end_p.ensures.rule;
}

pub returns-in-Object : goal.returns-in-Object
returns-in-Object c = record {
  rule = object_ended c.args.name c.args.tag.now c.args.self.now c.end_object.new.self c.end_object.result (sym c.group_of.ensures.named ∙ c.in-Object.is) c.end_object.ensures.next
      c.end_object.ensures.rule;
}

pub returns-in_default : goal.returns-in_default
returns-in_default c = record {
  rule = c.end_other.ensures.rule (ap ends_otherwise (sym c.group_of.ensures.named) ∙ left_over c.group_of.result c.in_default.not-Block c.in_default.not-Button c.in_default.not-Pre
      c.in_default.not-Select c.in_default.not-Heading c.in_default.not-Description c.in_default.not-Object c.in_default.not-A c.in_default.not-Formatting c.in_default.not-Nobr
      c.in_default.not-Html c.in_default.not-Template c.in_default.not-Body c.in_default.not-P c.in_default.not-Form c.in_default.not-Li);
}
