use Rattle.std.proofs.Common.{◌≡◌, ◌+◌, arith}
use Rattle.page_trees.proofs.LinkLists.{exchange_links}
use Rattle.page_trees.proofs.stack.links.Links.exchange.Goals as goal

pub returns : goal.returns
returns c keys lp kl ku old =
    let above : c.saturating_add-above.result ≡ c.args.place + 1 = omega (arith, c.saturating_add-above.ensures) in
    exchange_links keys c.args.self.now.same.items c.args.self.now.next.items c.args.self.now.tops.items c.relink.new.self.same.items c.relink.new.self.next.items c.relink.new.self.tops.items
    c.relink-2.new.self.same.items c.relink-2.new.self.next.items c.relink-2.new.self.tops.items c.args.place c.args.lower c.args.upper c.saturating_add-above.result
    c.neighbours-of_lower.result.before c.neighbours-of_lower.result.after c.neighbours-of_upper.result.before c.neighbours-of_upper.result.after lp above kl ku (λ e. c.if-lower-upper.false e)
    c.neighbours-of_lower.ensures.before c.neighbours-of_lower.ensures.after c.neighbours-of_upper.ensures.before c.neighbours-of_upper.ensures.after
    c.relink.ensures.same c.relink.ensures.next c.relink.ensures.tops c.relink-2.ensures.same c.relink-2.ensures.next c.relink-2.ensures.tops old
