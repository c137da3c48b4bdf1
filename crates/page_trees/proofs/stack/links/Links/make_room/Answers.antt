use Rattle.std.proofs.Common.{ap, ◌∙◌, get_or}
use Rattle.page_trees.proofs.LinkLists.{same_links}
use Rattle.page_trees.proofs.stack.links.Links.make_room.Goals as goal

pub returns-in_err-push : goal.returns-in_err-push
returns-in_err-push c keys old =
    same_links keys c.args.self.now.same.items c.loop-self.self.same.items c.args.self.now.next.items c.loop-self.self.next.items c.args.self.now.tops.items c.push.new.self.items
    c.loop-self.invariant.same c.loop-self.invariant.next (λ k. ap (λ xs. get_or xs k 0) c.in_err-push.ensures.items ∙ c.loop-self.invariant.tops k) old

pub returns : goal.returns
returns c keys old =
    same_links keys c.args.self.now.same.items c.loop-self.self.same.items c.args.self.now.next.items c.loop-self.self.next.items c.args.self.now.tops.items c.loop-self.self.tops.items
    c.loop-self.invariant.same c.loop-self.invariant.next c.loop-self.invariant.tops old
