use Rattle.std.proofs.Common.{refl, sym, true≢false, ◌∙◌}
use Rattle.page_trees.specs.declared.modes.other_tokens.AtEnd.{AtEnd}
use Rattle.page_trees.proofs.PageEnds.{end_leaves, end_of_content, end_of_template, end_of_text, end_stops, no_text_at_end, text_at_end}
use Rattle.page_trees.proofs.builder.TreeBuilder.end_step.Goals as goal

pub returns-in-Leave : goal.returns-in-Leave
returns-in-Leave c = record {
  rule = λ plain. end_leaves c.args.self.now _ _ (sym c.at_end.ensures ∙ c.in-Leave.is) c.leave_mode.ensures.rule;
  pending = λ keeps. absurd (no_text_at_end c.args.self.now.mode AtEnd.Leave (sym c.at_end.ensures ∙ c.in-Leave.is) refl keeps);
}

pub returns-in-EndText : goal.returns-in-EndText
returns-in-EndText c = record {
  rule = λ plain. end_of_text c.args.self.now _ _ (sym c.at_end.ensures ∙ c.in-EndText.is) plain c.leave_for.ensures.next c.leave_for.ensures.rule;
  pending = λ keeps. absurd (no_text_at_end c.args.self.now.mode AtEnd.EndText (sym c.at_end.ensures ∙ c.in-EndText.is) refl keeps);
}

pub returns-in-EndTableText : goal.returns-in-EndTableText
returns-in-EndTableText c = record {
  rule = λ plain. absurd (true≢false (sym (text_at_end c.args.self.now.mode (sym c.at_end.ensures ∙ c.in-EndTableText.is)) ∙ plain.settled));
  pending = λ keeps. record { again = c.leave_table_text.ensures.next; rule = c.leave_table_text.ensures.rule };
}

pub returns-in-EndTemplate : goal.returns-in-EndTemplate
returns-in-EndTemplate c = record {
  rule = λ plain. end_of_template c.args.self.now _ _ (sym c.at_end.ensures ∙ c.in-EndTemplate.is) c.end_in_template.ensures.rule;
  pending = λ keeps. absurd (no_text_at_end c.args.self.now.mode AtEnd.EndTemplate (sym c.at_end.ensures ∙ c.in-EndTemplate.is) refl keeps);
}

pub returns-in-EndContent : goal.returns-in-EndContent
returns-in-EndContent c = record {
  rule = λ plain. end_of_content c.args.self.now _ _ (sym c.at_end.ensures ∙ c.in-EndContent.is) plain c.end_content.ensures.rule;
  pending = λ keeps. absurd (no_text_at_end c.args.self.now.mode AtEnd.EndContent (sym c.at_end.ensures ∙ c.in-EndContent.is) refl keeps);
}

pub returns-in-Stop : goal.returns-in-Stop
returns-in-Stop c = record {
  rule = λ plain. end_stops c.args.self.now (sym c.at_end.ensures ∙ c.in-Stop.is);
  pending = λ keeps. absurd (no_text_at_end c.args.self.now.mode AtEnd.Stop (sym c.at_end.ensures ∙ c.in-Stop.is) refl keeps);
}
