use Rattle.std.proofs.Common.{ap, ◌∙◌, ℕ, List}
use Rattle.dom_links.specs.Lists.{is_member}
use Rattle.dom_selection.proofs.SeenLemmas.{any-stands}
use Rattle.dom_selection.proofs.selection.seen.Seen.has.Goals as goal

pub returns : goal.returns
returns c =
    c.contains.ensures ∙ any-stands c.value.result c.self.inside.numbers.keys
    ∙ ap (λ (n : ℕ). is_member n c.self.inside.numbers.keys) c.value.ensures.number ∙ ap (λ (ns : List ℕ). is_member c.args.id ns) c.self.view_is
