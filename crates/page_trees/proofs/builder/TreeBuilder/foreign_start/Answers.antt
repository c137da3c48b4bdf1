use Rattle.std.proofs.Common.{sym, ◌∙◌}
use Rattle.page_trees.proofs.ForeignStarts.{start_left, start_stays}
use Rattle.page_trees.proofs.builder.TreeBuilder.foreign_start.Goals as goal

pub returns-then-ends_foreign : goal.returns-then-ends_foreign
returns-then-ends_foreign c = record {
  rule = λ starts. start_left c.args.name c.args.tag.now c.args.self.now _ _ (sym c.ends_foreign.ensures ∙ c.if-ends_foreign.true) c.leave_foreign.ensures.rule starts;
}

pub returns : goal.returns
returns c = record {
  rule = λ starts. start_stays c.current_namespace-ns.result c.args.name c.args.tag.now c.args.self.now _ _ (sym c.ends_foreign.ensures ∙ c.if-ends_foreign.false) c.insert_foreign.ensures.next
      c.insert_foreign.ensures.rule c.current_namespace-ns.ensures starts;
}
