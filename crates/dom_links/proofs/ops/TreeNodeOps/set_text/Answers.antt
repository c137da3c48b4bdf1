use Rattle.std.proofs.Common.{◌∙◌, ap, rules, sym, arith}
use Rattle.std.proofs.lemmas.Grind.{common_steps}
use Rattle.dom_links.specs.Forest.{forest_of}
use Rattle.dom_links.specs.ListMoves.{element_at}
use Rattle.dom_links.specs.SetTexts.{is_text_at}
use Rattle.dom_links.proofs.texts.SettingTexts.{nothing_set}
use Rattle.dom_links.proofs.ops.TreeNodeOps.set_text.Goals as goal

pub returns-else-is_text_at : goal.returns-else-is_text_at
returns-else-is_text_at c = record {
  made = nothing_set (forest_of c.args.nodes.now.items) c.args.id c.args.text.now
      (ap (λ nodes. element_at (forest_of nodes) c.args.id) (sym c.deref.ensures.value) ∙ (sym c.is_element_at.ensures ∙ c.if-is_element_at.false))
      (ap (λ nodes. is_text_at (forest_of nodes) c.args.id) (sym c.deref-2.ensures.value) ∙ (sym c.is_text_at.ensures ∙ c.if-is_text_at.false));
  err = search rules;
  cause = search rules;
  sound = search rules;
}

pub returns-in_ok-contents : goal.returns-in_ok-contents
returns-in_ok-contents c = grind (arith, common_steps)
