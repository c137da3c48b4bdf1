use Rattle.std.proofs.Common.{rules, sym}
use Rattle.page_trees.proofs.TextPieces.{leaves_all, leaves_next, take_rest}
use Rattle.page_trees.proofs.builder.TreeBuilder.words.Goals as goal

pub loop-rest-init : goal.loop-rest-init
loop-rest-init c = record { utf8 = search rules; limits = λ within. within; rule = leaves_all c.args.text.now c.args.self.now }

pub loop-rest-preserved : goal.loop-rest-preserved
loop-rest-preserved c = record {
  utf8 = search rules;
  limits = λ within. c.loop-rest.invariant.limits (c.word-rest.ensures.limits within);
  rule = leaves_next _ _ _ _ _ _ c.word-rest.ensures.limits c.loop-rest.invariant.rule c.word-rest.ensures.rule;
}

pub returns-clause-rule : goal.returns-clause-rule
returns-clause-rule c = take_rest _ _ _ _ (sym c.loop-rest-test.ensures) c.loop-rest.invariant.rule
