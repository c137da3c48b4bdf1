use Rattle.std.proofs.Common.{Option, ap, false, sym, ◌∙◌}
use Rattle.std.specs.Option.{option_map_or}
use Rattle.page_trees.specs.Scopes.{has_name}
use Rattle.page_trees.specs.TreeState.{TreeState}
use Rattle.page_trees.specs.declared.stack.Open.{Open}
use Rattle.page_trees.proofs.BuiltTests.{context_tells}
use Rattle.page_trees.proofs.growing.GrowingTree.is_context.Goals as goal

pub returns-in-Some : goal.returns-in-Some
returns-in-Some c known t b =
    c.is_html.ensures ∙ ap (λ (o : Option Open). option_map_or (has_name c.args.name) o false) (sym c.in-Some.is) ∙ ap (λ (s : TreeState). option_map_or (has_name c.args.name) s.context false) c.self.view_is
    ∙ context_tells c.args.self.now t c.args.name known b

pub returns-in-None : goal.returns-in-None
returns-in-None c known t b =
    ap (λ (o : Option Open). option_map_or (has_name c.args.name) o false) (sym c.in-None.is) ∙ ap (λ (s : TreeState). option_map_or (has_name c.args.name) s.context false) c.self.view_is
    ∙ context_tells c.args.self.now t c.args.name known b
