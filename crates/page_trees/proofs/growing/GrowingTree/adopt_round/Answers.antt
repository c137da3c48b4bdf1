use Rattle.page_trees.proofs.AgencyRounds.{ends_popped, ends_unlisted, ends_unnamed, ends_unscoped, goes_on}
use Rattle.page_trees.proofs.growing.GrowingTree.adopt_round.Goals as goal

pub returns-in_default : goal.returns-in_default
returns-in_default c known = ends_unnamed c.args.name c.args.foster _ c.args.self.now c.named.result c.self.view_is known c.named.ensures c.in_default.is

pub returns-in_default-place_among : goal.returns-in_default-place_among
returns-in_default-place_among c known =
    ends_unlisted c.args.name c.args.foster _ c.args.self.now c.remove_formatting.new.self c.named.result c.in-Some.formatting c.self.view_is known c.named.ensures c.in-Some.is
    (c.in_default-place_among.ensures c.self.invariant.1) c.remove_formatting.ensures.rule

pub returns-then-not-is_in_scope : goal.returns-then-not-is_in_scope
returns-then-not-is_in_scope c known =
    ends_unscoped c.args.name c.args.foster _ c.args.self.now c.named.result c.in-Some.formatting c.in-Some-place_among.place c.is_in_scope.result c.self.view_is known c.named.ensures c.in-Some.is
    (c.in-Some-place_among.ensures c.self.invariant.1) (c.is_in_scope.ensures c.self.invariant.1).1 c.if-not-is_in_scope.true

pub returns-in_default-furthest_block : goal.returns-in_default-furthest_block
returns-in_default-furthest_block c known =
    ends_popped c.args.name c.args.foster _ c.args.self.now c.truncate.new.self c.remove_formatting-in_default-furthest_block.new.self c.named.result c.in-Some.formatting c.in-Some-place_among.place c.is_in_scope.result c.self.view_is known c.named.ensures c.in-Some.is
    (c.in-Some-place_among.ensures c.self.invariant.1) (c.is_in_scope.ensures c.self.invariant.1).0 c.if-not-is_in_scope.false c.in_default-furthest_block.ensures c.truncate.ensures c.remove_formatting-in_default-furthest_block.ensures.rule

pub returns : goal.returns
returns c known =
    goes_on c.args.name c.args.foster _ c.args.self.now c.adopt_once.new.self c.named.result c.in-Some.formatting c.in-Some-place_among.place c.in-Some-furthest_block.furthest c.is_in_scope.result c.bookmark_at-bookmark.result c.self.view_is known c.named.ensures c.in-Some.is
    c.self.invariant.0.order (c.in-Some-place_among.ensures c.self.invariant.1) (c.is_in_scope.ensures c.self.invariant.1).0 c.if-not-is_in_scope.false c.in-Some-furthest_block.ensures
    c.bookmark_at-bookmark.ensures.index c.bookmark_at-bookmark.ensures.renewed c.in_ok-adopt_once.ensures
