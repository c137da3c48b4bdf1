use Rattle.std.proofs.Common.{ap, false, not, refl, ◌∙◌}
use Rattle.std.specs.Option.{option_map_or}
use Rattle.std.specs.Prelude.{slice_get}
use Rattle.page_trees.specs.Scopes.{has_name}
use Rattle.page_trees.specs.declared.name.Name.{Name}
use Rattle.page_trees.proofs.LaterBodies.{body_is_no_second, body_is_second, frameset_acts, frameset_ignored, frameset_not_ok, frameset_placed}
use Rattle.page_trees.proofs.builder.TreeBuilder.start_frameset.Goals as goal

pub returns-then-not-has_body : goal.returns-then-not-has_body
returns-then-not-has_body c = record {
  rule =
      frameset_ignored c.args.tag.now c.args.self.now (λ b stands.
      body_is_no_second c.args.self.now c.has_body.result (c.has_body.ensures ∙ ap (λ os. option_map_or (has_name Name.Body) (slice_get os 1) false) c.open.ensures.elements)
      c.if-not-has_body.true b stands (not b.frameset_ok) frameset_acts);
}

pub returns-then-not-self : goal.returns-then-not-self
returns-then-not-self c = record {
  rule =
      frameset_ignored c.args.tag.now c.args.self.now (λ b stands. frameset_not_ok c.args.self.now c.if-not-self.true b stands (body_is_second b) frameset_acts);
}

pub returns : goal.returns
returns c = record {
  rule =
      frameset_placed c.args.tag.now c.args.self.now c.insert_then.new.self c.insert_then.result c.cut_out.new.self c.truncate.new.self c.has_body.result c.insert_then.ensures.next
      (c.has_body.ensures ∙ ap (λ os. option_map_or (has_name Name.Body) (slice_get os 1) false) c.open.ensures.elements) c.if-not-has_body.false c.if-not-self.false
      c.insert_then.ensures.limits c.cut_out.ensures c.truncate.ensures (c.insert_then.ensures.rule refl);
}
