use Rattle.std.proofs.Common.{ap, eqb, sym, true, ◌∙◌}
use Rattle.page_trees.specs.Scopes.{is_named, last_place}
use Rattle.page_trees.specs.SearchIndex.{key_for, key_of}
use Rattle.page_trees.proofs.AlikeLemmas.{key_named, unnamed}
use Rattle.page_trees.proofs.ScopeLemmas.{last_place_none, last_place_same}
use Rattle.page_trees.proofs.stack.OpenElements.top.Goals as goal

pub returns-then-eq : goal.returns-then-eq
returns-then-eq c is = sym (last_place_none (is_named c.args.name) (unnamed c.args.name (sym c.if-eq.ensures)) c.args.self.now.elements.items)

pub returns : goal.returns
returns c is =
    c.last.ensures is ∙ ap (λ k. last_place (λ o. eqb (key_of o) k) c.args.self.now.elements.items) c.key_for.ensures
    ∙ last_place_same (λ o. eqb (key_of o) (key_for true c.args.name 0)) (is_named c.args.name) (key_named c.args.name (sym c.if-eq.ensures)) c.args.self.now.elements.items
