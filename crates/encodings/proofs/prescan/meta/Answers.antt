use Rattle.std.proofs.Common.{ap, sym, ◌∙◌}
use Rattle.encodings.specs.Prescan.{of_meta, or_next}
use Rattle.encodings.proofs.prescan.meta.Goals as goal

pub returns-in-Some : goal.returns-in-Some
returns-in-Some c =
    let read = c.in-Some.ensures in
    c.or_next.ensures ∙ ap (λ found. or_next found c.in-Some.read.1.now) (c.found.ensures read.0 read.1) ∙ ap of_meta (sym read.2)

pub returns-in-None : goal.returns-in-None
returns-in-None c = ap of_meta (sym c.in-None.ensures)
