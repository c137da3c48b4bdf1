use Rattle.std.proofs.Common.{◌≡◌, [], rules}
use Rattle.std.specs.Prelude.{IfNone}
use Rattle.page_trees.proofs.LinkLists.{pop_links}
use Rattle.page_trees.proofs.stack.links.Links.pop.Goals as goal

pub returns-in-Some : goal.returns-in-Some
returns-in-Some c keys old =
    let none : IfNone c.pop-in-Some.result (c.args.self.now.next.items ≡ []) = search rules in
    pop_links keys c.args.self.now.same.items c.pop.new.self.items c.args.self.now.next.items c.put_before.new.numbers.items c.pop-in-Some.new.self.items c.args.self.now.tops.items c.put.new.numbers.items
    c.args.key c.in-Some.before c.pop-in-Some.result c.in-Some.ensures.items c.pop-in-Some.ensures.items none c.put_before.ensures c.put.ensures old
