-- The element that is stored as a name form and a list of attributes.
use Rattle.std.specs.Prelude.{List}
use Rattle.dom_nodes.specs.declared.name.Attr.{Attr}
use Rattle.dom_nodes.specs.declared.name.form.NameForm.{NameForm}
use Rattle.dom_nodes.specs.Elements.{Element}
use Rattle.dom_nodes.specs.QualForms.{form_contents, form_flag, form_name}

abbrev pub element_of_form : NameForm → List Attr → Element
element_of_form form attrs = record {
  name = form_name form;
  attrs = attrs;
  template_contents = form_contents form;
  mathml_annotation_xml_integration_point = form_flag form;
}
