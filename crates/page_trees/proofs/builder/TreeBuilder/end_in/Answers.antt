use Rattle.std.proofs.Common.{[], ◌∷◌}
use Rattle.page_trees.specs.Names.{text_of}
use Rattle.page_trees.specs.Stands.{scope_kind}
use Rattle.page_trees.proofs.BodyEnds.{closing_step}
use Rattle.page_trees.proofs.builder.TreeBuilder.end_in.Goals as goal

pub returns-clause-rule : goal.returns-clause-rule
returns-clause-rule c known = closing_step c.args.self.now c.close.new.self (scope_kind c.args.scope) (text_of c.args.name ∷ []) (c.close.ensures.rule known)
