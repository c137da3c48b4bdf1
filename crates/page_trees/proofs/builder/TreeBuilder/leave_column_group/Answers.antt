use Rattle.std.proofs.Common.{◌∙◌, ◌≡◌, ◌-◌, refl, sym, ap, subst, Bool, List, false, length}
use Rattle.std.specs.Prelude.{slice_get}
use Rattle.std.specs.Option.{option_map_or}
use Rattle.page_trees.specs.Scopes.{has_name}
use Rattle.page_trees.specs.declared.stack.Open.{Open}
use Rattle.page_trees.specs.Constructs.{Constructs, all_performed}
use Rattle.page_trees.specs.TableSteps.{closing_group, if_found, is_again}
use Rattle.page_trees.specs.declared.name.Name.{Name}
use Rattle.page_trees.proofs.BuiltStacks.{current_tells}
use Rattle.page_trees.proofs.builder.TreeBuilder.leave_column_group.Goals as goal

pub returns-then-current_is-clause-found : goal.returns-then-current_is-clause-found
returns-then-current_is-clause-found c t b =
    ap is_again c.leave_for.ensures.next ∙ sym c.if-current_is.true ∙ current_tells c.args.self.now.tree c.args.self.now.tree t Name.Colgroup refl refl b _ (subst (λ (os : List Open). c.current_is.result ≡ option_map_or (has_name Name.Colgroup) (slice_get os
    (length os - 1)) false) c.open.ensures.elements c.current_is.ensures)

pub returns-then-current_is-clause-rule : goal.returns-then-current_is-clause-rule
returns-then-current_is-clause-rule c within b stands =
    subst (λ (found : Bool). Constructs c.leave_for.new.self (all_performed (if_found found closing_group) b)) (sym (ap is_again c.leave_for.ensures.next)) (c.leave_for.ensures.rule refl within b stands)

pub returns-clause-found : goal.returns-clause-found
returns-clause-found c t b = sym c.if-current_is.false ∙ current_tells c.args.self.now.tree c.args.self.now.tree t Name.Colgroup refl refl b _ (subst (λ (os : List Open). c.current_is.result ≡ option_map_or (has_name Name.Colgroup) (slice_get os
    (length os - 1)) false) c.open.ensures.elements c.current_is.ensures)
