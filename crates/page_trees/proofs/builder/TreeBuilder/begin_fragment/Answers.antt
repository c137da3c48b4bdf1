use Rattle.std.proofs.Common.{ap, map, refl, subst, sym, ◌∙◌}
use Rattle.std.specs.Char.{to_ascii_lowercase}
use Rattle.std.specs.Str.{IsUtf8}
use Rattle.standard_trees.specs.Building.{context_of, perform, start}
use Rattle.standard_trees.specs.TreeStore.{Kind}
use Rattle.page_trees.specs.Constructs.{Constructs}
use Rattle.page_trees.specs.Contexts.{context_for, surroundings_of}
use Rattle.page_trees.specs.Names.{name_of}
use Rattle.page_trees.specs.Stands.{IsOfKind}
use Rattle.page_trees.specs.declared.stack.ElementNamespace.{ElementNamespace}
use Rattle.page_trees.proofs.ContextElements.{begun_is, context_is, with_root}
use Rattle.page_trees.proofs.builder.TreeBuilder.begin_fragment.Goals as goal

pub returns-in-Ok-clause-rule : goal.returns-in-Ok-clause-rule
unfolding perform
returns-in-Ok-clause-rule c unspaced within scripting stands =
    let context = c.args.context in
    let kind : Kind = context_of (surroundings_of context) in
    let is : IsOfKind (context_for c.namespace.result c.of.result) kind =
    subst (λ (ns : ElementNamespace). IsOfKind (context_for ns c.of.result) kind) (sym c.namespace.ensures)
    (context_is context c.of.result c.in-Ok.local (subst IsUtf8 c.written.ensures c.written.utf8) unspaced
    (c.in-Ok.ensures ∙ ap (map to_ascii_lowercase) c.written.ensures) (c.of.ensures ∙ ap name_of c.by_ref.ensures)) in
    subst (Constructs c.begin_in.new.self) (begun_is scripting context)
    (c.begin_in.ensures.rule within (with_root scripting) refl kind is
    (c.insert_implied.ensures.rule refl (c.begin_in.ensures.limits within) (start scripting) stands))
