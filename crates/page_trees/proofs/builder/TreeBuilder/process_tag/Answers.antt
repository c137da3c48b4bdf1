use Rattle.std.proofs.Common.{string_bytes, subst}
use Rattle.page_trees.specs.CoveredTurns.{ProcessesToken}
use Rattle.page_trees.specs.Names.{name_of}
use Rattle.page_trees.specs.declared.modes.Token.{Token}
use Rattle.page_trees.specs.declared.name.Name.{Name}
use Rattle.page_trees.proofs.TokenCalls.{none_kept}
use Rattle.page_trees.proofs.builder.TreeBuilder.process_tag.Goals as goal

pub returns-in-Ok-clause-rule : goal.returns-in-Ok-clause-rule
returns-in-Ok-clause-rule c =
    subst (λ (n : Name). ProcessesToken (Token.Tag n c.args.tag) c.args.self.now c.process.new.self) c.in-Ok.ensures c.process.ensures.rule

pub returns-in-Err-clause-rule : goal.returns-in-Err-clause-rule
returns-in-Err-clause-rule c = none_kept c.args.self.now _ _ (Token.Tag (name_of (string_bytes c.args.tag.now.name)) c.args.tag) c.keep.ensures
