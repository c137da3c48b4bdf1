use Rattle.std.proofs.Common.{refl}
use Rattle.page_trees.proofs.TokenCalls.{tag_taken}
use Rattle.page_trees.proofs.builder.TreeBuilder.tag.Goals as goal

pub returns-clause-rule : goal.returns-clause-rule
returns-clause-rule c standard is plain = tag_taken standard c.args.tag c.args.self.now _ _ is plain refl c.process_tag.ensures.rule
