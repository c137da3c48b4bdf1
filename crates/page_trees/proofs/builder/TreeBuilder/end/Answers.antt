use Rattle.std.proofs.Common.{refl}
use Rattle.page_trees.proofs.TokenCalls.{end_taken}
use Rattle.page_trees.proofs.builder.TreeBuilder.end.Goals as goal

pub returns-clause-tokens : goal.returns-clause-tokens
returns-clause-tokens c = end_taken c.args.self.now _ _ refl c.process.ensures.rule
