use Rattle.std.proofs.Common.{◌≡◌, length, rules}
use Rattle.page_trees.proofs.LinkLists.{push_links}
use Rattle.page_trees.proofs.stack.links.Links.push.Goals as goal

pub returns : goal.returns
returns c keys old =
    let long : c.len-position.result ≡ length c.push_reserved.new.self.items = search rules in
    push_links keys c.args.self.now.same.items c.push_reserved.new.self.items c.args.self.now.next.items c.push_reserved-2.new.self.items c.put_before.new.numbers.items c.args.self.now.tops.items c.put.new.numbers.items
    c.args.key c.top-before.result c.len-position.result c.requires.key c.top-before.ensures long c.push_reserved.ensures.items c.push_reserved-2.ensures.items c.put_before.ensures c.put.ensures old
