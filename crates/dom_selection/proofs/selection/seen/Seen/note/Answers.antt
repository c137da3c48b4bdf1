use Rattle.std.proofs.Common.{ap, ◌∙◌, ℕ, List, not, ◌==◌, ◌||◌}
use Rattle.dom_links.specs.Lists.{is_member}
use Rattle.dom_selection.proofs.SeenLemmas.{any-stands, noted}
use Rattle.dom_selection.proofs.selection.seen.Seen.note.Goals as goal

pub returns-clause-new : goal.returns-clause-new
returns-clause-new c =
    c.in_ok-insert.ensures.added
    ∙ ap not (any-stands c.value.result c.self.inside.numbers.keys ∙ ap (λ (n : ℕ). is_member n c.self.inside.numbers.keys) c.value.ensures.number
    ∙ ap (λ (ns : List ℕ). is_member c.args.id ns) c.self.view_is)

pub returns-clause-noted : goal.returns-clause-noted
returns-clause-noted c = λ n.
    noted c.self.inside.numbers c.insert.new.self c.value.result c.in_ok-insert.ensures.updates n
    ∙ ap (λ (m : ℕ). (m == n) || is_member n c.self.inside.numbers.keys) c.value.ensures.number
    ∙ ap (λ (ns : List ℕ). (c.args.id == n) || is_member n ns) c.self.view_is
