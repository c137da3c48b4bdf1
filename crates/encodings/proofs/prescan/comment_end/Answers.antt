use Rattle.std.proofs.Common.{Some, ap, drop, ◌∙◌}
use Rattle.std.specs.Prelude.{codes}
use Rattle.std.specs.Option.{option_map}
use Rattle.encodings.specs.Bytes.{from_first}
use Rattle.encodings.specs.Prescan.{begins_with}
use Rattle.encodings.proofs.prescan.comment_end.Goals as goal

pub returns-in-Some : goal.returns-in-Some
returns-in-Some c = ap (λ end. Some end) c.behind.ensures ∙ ap (option_map (drop 2)) (c.in-Some.ensures ∙ ap (from_first (begins_with (codes "-->"))) c.behind-rest.ensures)

pub returns-in-None : goal.returns-in-None
returns-in-None c = ap (option_map (drop 2)) (c.in-None.ensures ∙ ap (from_first (begins_with (codes "-->"))) c.behind-rest.ensures)
