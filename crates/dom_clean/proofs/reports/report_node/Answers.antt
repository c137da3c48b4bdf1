use Rattle.std.proofs.Common.{List, ◌∙◌, ap, map, subst, sym}
use Rattle.dom_clean.specs.Counts.{Counts}
use Rattle.dom_clean.specs.Removals.{Removal, removal_of}
use Rattle.dom_clean.proofs.reports.report_node.Goals as goal

pub returns-clause-of : goal.returns-clause-of
returns-clause-of c = record {
  text = c.in_ok-text.ensures.text;
  removed = subst (λ (l : List Removal). Counts l c.in_ok-removed.removed) (ap (map removal_of) c.as_slice.ensures.value ∙ c.in_ok-list.ensures) c.in_ok-removed.ensures;
}

pub returns-clause-report : goal.returns-clause-report
returns-clause-report c = record {
  cleaned = c.in_ok-text.ensures.cleaned;
  forest = c.args.tree.now;
  below = c.args.id;
  is = record {
    text = c.in_ok-text.ensures.text;
    removed = subst (λ (l : List Removal). Counts l c.in_ok-removed.removed) (ap (map removal_of) c.as_slice.ensures.value ∙ c.in_ok-list.ensures) c.in_ok-removed.ensures;
  };
}
