use Rattle.std.proofs.Common.{ap, eqb, true, ◌∙◌}
use Rattle.page_trees.specs.Scopes.{is_named, last_place}
use Rattle.page_trees.specs.SearchIndex.{has_key, key_of}
use Rattle.page_trees.proofs.AlikeLemmas.{known_key}
use Rattle.page_trees.proofs.ScopeLemmas.{last_place_same}
use Rattle.page_trees.proofs.stack.OpenElements.top_numbered.Goals as goal

pub returns-clause-known : goal.returns-clause-known
returns-clause-known c known is =
    c.last.ensures is ∙ ap (λ k. last_place (λ o. eqb (key_of o) k) c.args.self.now.elements.items) c.key_for.ensures
    ∙ last_place_same (has_key true c.args.name c.args.number) (is_named c.args.name) (known_key c.args.name known c.args.number) c.args.self.now.elements.items

pub returns-clause-other : goal.returns-clause-other
returns-clause-other c is = c.last.ensures is ∙ ap (λ k. last_place (λ o. eqb (key_of o) k) c.args.self.now.elements.items) c.key_for.ensures
