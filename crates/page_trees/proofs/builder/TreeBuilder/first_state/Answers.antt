use Rattle.std.proofs.Common.{ap, subst, sym, ◌∙◌}
use Rattle.standard_trees.specs.Parsing.{state_among}
use Rattle.standard_trees.specs.TreeRules.{first_states}
use Rattle.page_tokens.specs.StandardStates.{state_of}
use Rattle.page_trees.specs.Names.{text_of}
use Rattle.page_trees.specs.Sets.{key_for}
use Rattle.page_trees.specs.declared.stack.ElementNamespace.{ElementNamespace}
use Rattle.page_trees.proofs.ContextElements.{state_told}
use Rattle.page_trees.proofs.builder.TreeBuilder.first_state.Goals as goal

pub returns-in-Html-clause-rule : goal.returns-in-Html-clause-rule
returns-in-Html-clause-rule c b stands =
    state_told c.args.self.now b c.in-Some.context (state_of c.state_in.result) stands (sym c.context.ensures ∙ c.in-Some.is)
    (c.state_in.ensures.state ∙ ap (λ (ns : ElementNamespace). state_among (first_states c.args.self.now.scripting) (key_for ns (text_of c.in-Some.context.name))) (sym c.in-Html.is))

pub returns-in-Html-clause-text : goal.returns-in-Html-clause-text
returns-in-Html-clause-text c = c.state_in.ensures.text
