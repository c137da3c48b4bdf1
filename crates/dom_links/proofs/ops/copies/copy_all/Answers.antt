use Rattle.std.proofs.Common.{arith}
use Rattle.dom_links.proofs.copies.CopiedForests.{all_may, none_left, all_copied, taken_back}
use Rattle.dom_links.proofs.ops.copies.copy_all.Goals as goal

pub copy_each-requires : goal.copy_each-requires
copy_each-requires g c = (c.requires.1, (all_may g.at.source c.args.ids.now c.requires.3, tt))

pub returns-in-Ok : goal.returns-in-Ok
returns-in-Ok g c =
    let way = c.copy_each.ensures.copies.under_way in
    all_copied g.at.source c.args.ids.now c.args.nodes.now.items c.copy_each.new.nodes.items c.in-Ok.made way.good c.requires.3 c.requires.0 way.linked way.numbered c.in-Ok.ensures.copies.made c.in-Ok.ensures.numbers

pub returns-in-Err : goal.returns-in-Err
returns-in-Err g c =
    let way = c.copy_each.ensures.copies.under_way in
    let back = taken_back c.args.nodes.now.items c.copy_each.new.nodes.items c.truncate.new.self.items g.at.base c.len-count.result c.requires.0 c.requires.2 way.linked way.kept (omega (arith, c.len-count.ensures)) c.truncate.ensures.items in
    none_left g.at.source c.args.ids.now c.args.nodes.now.items c.truncate.new.self.items c.in-Err.fault c.requires.0 back c.in-Err.ensures.copies.cause
