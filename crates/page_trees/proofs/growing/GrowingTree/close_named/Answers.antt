use Rattle.std.proofs.Common.{[], refl, sym, true≢false, ◌∷◌}
use Rattle.page_trees.specs.Closing.{is_special_node}
use Rattle.page_trees.specs.Names.{text_of}
use Rattle.page_trees.specs.Scopes.{is_named}
use Rattle.page_trees.specs.Sets.{is_special_element}
use Rattle.page_trees.proofs.ClosedElements.{closed_at, nothing_closed, others_agree}
use Rattle.page_trees.proofs.OtherNamesClosed.{other_closed, other_missed, other_unknown}
use Rattle.page_trees.proofs.growing.GrowingTree.close_named.Goals as goal

pub returns-in_default : goal.returns-in_default
returns-in_default c = record {
  rule = λ known. absurd (true≢false (sym (c.in_default.ensures.known known)));
  other = λ text is t b. other_unknown c.args.self.now c.args.self.now _ _ text t refl b is (c.in_default.ensures.other is.other);
}

pub returns-in-Some-last_named : goal.returns-in-Some-last_named
returns-in-Some-last_named c = record {
  rule = λ known t b.
      closed_at (is_named c.args.name) is_special_element is_special_node (text_of c.args.name ∷ []) (others_agree c.args.name known) _ _ _ t _ c.self.view_is b
      (c.in-Some-last_named.ensures.known known c.self.invariant.1) c.truncate.ensures;
  other = λ text is t b.
      other_closed _ _ _ _ _ text t _ _ c.self.view_is b is (c.in-Some.ensures.other is.other) (c.in-Some-last_named.ensures.other c.self.invariant.1) c.truncate.ensures;
}

pub returns-in_default-last_named : goal.returns-in_default-last_named
returns-in_default-last_named c = record {
  rule = λ known t b.
      nothing_closed (is_named c.args.name) is_special_element is_special_node (text_of c.args.name ∷ []) (others_agree c.args.name known) _ _ t c.self.view_is b
      (c.in_default-last_named.ensures.known known c.self.invariant.1);
  other = λ text is t b.
      other_missed _ _ _ _ text t _ c.self.view_is b is (c.in-Some.ensures.other is.other) (c.in_default-last_named.ensures.other c.self.invariant.1);
}
