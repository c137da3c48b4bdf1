use Rattle.std.proofs.Common.{subst, sym, ◌∙◌, ◌∷◌}
use Rattle.page_trees.specs.CharacterSteps.{RunOutcome}
use Rattle.page_trees.specs.declared.builder.Next.{Next}
use Rattle.page_trees.proofs.GroupRuns.{run_left_group}
use Rattle.page_trees.proofs.RunOutcomes.{run_ignored, run_in_body, run_left, run_put}
use Rattle.page_trees.proofs.TableRuns.{pending_plain, run_pending}
use Rattle.page_trees.proofs.builder.TreeBuilder.run_in_mode.Goals as goal

pub returns-in-Ignore : goal.returns-in-Ignore
returns-in-Ignore c x xs run within b token goes covered stands =
    run_ignored c.args.kind _ x xs (sym c.way_of.ensures ∙ c.in-Ignore.is) run.run run.fits b token goes covered stands

pub returns-in-Put : goal.returns-in-Put
returns-in-Put c x xs run within b token goes covered stands =
    subst (λ (n : Next). RunOutcome c.args.kind x xs b c.put_run.new.self n) (sym c.put_run.ensures.next)
    (run_put c.args.kind c.args.self.now _ x xs (sym c.way_of.ensures ∙ c.in-Put.is) run.run b token goes covered stands (c.put_run.ensures.rule x xs run.spelt within b stands))

pub returns-in-Body : goal.returns-in-Body
returns-in-Body c x xs run within b token goes covered stands =
    subst (λ (n : Next). RunOutcome c.args.kind x xs b c.body_run.new.self n) (sym c.body_run.ensures.next)
    (run_in_body c.args.kind c.args.self.now _ x xs (sym c.way_of.ensures ∙ c.in-Body.is) run.run b token goes covered stands (c.body_run.ensures.rule x xs run.spelt within b stands))

pub returns-in-Table : goal.returns-in-Table
returns-in-Table c x xs run within b token goes covered stands =
    c.table_run.ensures (sym c.way_of.ensures ∙ c.in-Table.is) x xs run within b token goes covered stands

pub returns-in-Pending : goal.returns-in-Pending
returns-in-Pending c x xs run within b token goes covered stands =
    let way = sym c.way_of.ensures ∙ c.in-Pending.is in
    subst (λ (n : Next). RunOutcome c.args.kind x xs b c.pending_run.new.self n) (sym c.pending_run.ensures.next)
    (run_pending c.args.kind c.args.self.now _ x xs way run.run b token goes covered stands
    (λ keeps. c.pending_run.ensures.rule (x ∷ xs) run.spelt run.run (pending_plain c.args.kind c.args.self.now.mode (x ∷ xs) way run.run) keeps within b stands))

pub returns-in-Leave : goal.returns-in-Leave
returns-in-Leave c x xs run within b token goes covered stands =
    let way = sym c.way_of.ensures ∙ c.in-Leave.is in
    run_left c.args.kind c.args.self.now _ _ x xs way run.run run.fits c.leave_mode.ensures.rule within b token goes stands
    (λ is. run_left_group c.args.kind c.args.self.now _ _ x xs way run.run run.fits (c.leave_mode.ensures.group is) is within b token goes covered stands)
