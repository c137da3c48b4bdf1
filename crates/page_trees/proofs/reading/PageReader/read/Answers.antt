use Rattle.std.proofs.Common.{refl, rules, sym, ◌∙◌}
use Rattle.page_trees.proofs.PageTurns.{none_left, none_read, some_on}
use Rattle.page_trees.proofs.reading.PageReader.read.Goals as goal

pub loop-rest-init : goal.loop-rest-init
loop-rest-init c = record { options = refl; limits = λ within. within; reads = λ within. none_read c.args.piece.now c.args.self.now; utf8 = search rules }

pub loop-rest-preserved : goal.loop-rest-preserved
loop-rest-preserved c = record {
  options = c.read_token-rest.ensures.options ∙ c.loop-rest.invariant.options;
  limits = λ within. c.loop-rest.invariant.limits (c.read_token-rest.ensures.limits within);
  reads = some_on _ _ _ _ _ _ c.loop-rest.invariant.reads c.read_token-rest.ensures.limits c.read_token-rest.ensures.reads;
  utf8 = search rules;
}

pub returns-clause-reads : goal.returns-clause-reads
returns-clause-reads c = none_left _ _ _ _ (sym c.loop-rest-test.ensures) c.loop-rest.invariant.reads
