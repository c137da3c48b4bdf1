use Rattle.std.proofs.Common.{◌≡◌, drop, map}
use Rattle.std.specs.Char.{to_ascii_lowercase}
use Rattle.encodings.specs.Labels.{labelled}
use Rattle.encodings.proofs.encoding.find.Given as goal

abbrev pub invariant-loop-name : goal.invariant-loop-name
invariant-loop-name l =
    labelled (λ row. row.0.now) (λ row. row.1) (drop l.name-index l.rows) (map to_ascii_lowercase l.label) ≡ labelled (λ row. row.0.now) (λ row. row.1) l.rows (map to_ascii_lowercase l.label)
