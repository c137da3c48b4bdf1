use Rattle.std.proofs.Common.{ap, codes, false, refl, subst, sym, ◌∙◌}
use Rattle.std.specs.Option.{option_map_or}
use Rattle.std.specs.Prelude.{slice_get}
use Rattle.page_trees.specs.LateMerges.{is_open}
use Rattle.page_trees.specs.Scopes.{has_name}
use Rattle.page_trees.specs.Stands.{IsStackOf}
use Rattle.page_trees.specs.declared.name.Name.{Name}
use Rattle.page_trees.proofs.LaterBodies.{body_acts, body_added, body_ignored, body_is_no_second, body_is_second, unless_other}
use Rattle.page_trees.proofs.builder.TreeBuilder.start_body.Goals as goal

pub returns-then-not-has_body : goal.returns-then-not-has_body
returns-then-not-has_body c = record {
  rule =
      body_ignored c.args.tag.now c.args.self.now (λ b stands.
      body_is_no_second c.args.self.now c.has_body.result (c.has_body.ensures ∙ ap (λ os. option_map_or (has_name Name.Body) (slice_get os 1) false) c.open.ensures.elements)
      c.if-not-has_body.true b stands (is_open (codes "template") b.tree) body_acts);
}

pub returns-then-has : goal.returns-then-has
returns-then-has c = record {
  rule =
      body_ignored c.args.tag.now c.args.self.now (λ b stands.
      let open_is = c.has.ensures.rule b.tree refl (subst (IsStackOf b.tree) (sym c.open-2.ensures.elements) stands.tree.stack) c.open-2.ensures.index in
      unless_other (body_is_second b) (is_open (codes "template") b.tree) body_acts (sym open_is ∙ c.if-has.true));
}

pub returns : goal.returns
returns c = record {
  rule =
      body_added c.args.tag.now c.args.self.now c.add_attrs.new.self c.has_body.result
      (c.has_body.ensures ∙ ap (λ os. option_map_or (has_name Name.Body) (slice_get os 1) false) c.open.ensures.elements) c.if-not-has_body.false
      (λ b stands.
      let open_is = c.has.ensures.rule b.tree refl (subst (IsStackOf b.tree) (sym c.open-2.ensures.elements) stands.tree.stack) c.open-2.ensures.index in
      sym open_is ∙ c.if-has.false)
      c.add_attrs.ensures.limits c.add_attrs.ensures.rule;
}
