use Rattle.std.proofs.Common.{◌∙◌, ap, sym}
use Rattle.std.proofs.lemmas.Result.{on_ok_weaker}
use Rattle.dom_clean.specs.Removals.{an_address, an_attribute, an_element, removal_of}
use Rattle.dom_clean.proofs.Totals.{address_counted, attribute_counted, element_counted}
use Rattle.dom_clean.proofs.counting.count_one.Goals as goal

pub returns-in-Element : goal.returns-in-Element
returns-in-Element c = on_ok_weaker c.add_one.result
    (λ adds. element_counted c.args.counts.now c.add_one.new.counts c.as_str.result.now (removal_of c.args.one.now) (ap removal_of c.in-Element.is ∙ ap an_element (sym c.as_str.ensures.value)) adds)
    c.add_one.ensures

pub returns-in-Attribute : goal.returns-in-Attribute
returns-in-Attribute c = on_ok_weaker c.add_one-in-Attribute.result
    (λ adds. attribute_counted c.args.counts.now c.add_one-in-Attribute.new.counts c.as_str-in-Attribute.result.now (removal_of c.args.one.now) (ap removal_of c.in-Attribute.is ∙ ap an_attribute (sym c.as_str-in-Attribute.ensures.value)) adds)
    c.add_one-in-Attribute.ensures

pub returns-in-Address : goal.returns-in-Address
returns-in-Address c = on_ok_weaker c.add_one-in-Address.result
    (λ adds. address_counted c.args.counts.now c.add_one-in-Address.new.counts c.as_str-in-Address.result.now (removal_of c.args.one.now) (ap removal_of c.in-Address.is ∙ ap an_address (sym c.as_str-in-Address.ensures.value)) adds)
    c.add_one-in-Address.ensures
