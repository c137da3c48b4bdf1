use Rattle.std.proofs.Common.{arith, sym}
use Rattle.page_trees.specs.Scopes.{ends_in, is_named}
use Rattle.page_trees.proofs.ScopeLemmas.{scope_search}
use Rattle.page_trees.proofs.stack.OpenElements.comes_first.Goals as goal

pub returns-then-top-eq0 : goal.returns-then-top-eq0
returns-then-top-eq0 c is =
    sym ((scope_search (is_named c.args.name) (ends_in c.args.scope) c.args.self.now.elements.items).missed (λ lt le. omega (arith, lt, c.top-top.ensures is, c.if-top-eq0.true)))

pub returns-then-top-scope_end : goal.returns-then-top-scope_end
returns-then-top-scope_end c is =
    sym ((scope_search (is_named c.args.name) (ends_in c.args.scope) c.args.self.now.elements.items).missed (λ lt le. omega (arith, le, c.top-top.ensures is, c.scope_end.ensures is, c.if-top-scope_end.true)))

pub returns : goal.returns
returns c is =
    sym ((scope_search (is_named c.args.name) (ends_in c.args.scope) c.args.self.now.elements.items).found
    (omega (arith, c.top-top.ensures is, c.if-top-eq0.false)) (omega (arith, c.top-top.ensures is, c.scope_end.ensures is, c.if-top-scope_end.false)))
