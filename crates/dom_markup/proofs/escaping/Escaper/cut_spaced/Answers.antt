use Rattle.std.proofs.Common.{◌≡◌, ◌+◌, refl, arith}
use Rattle.std.specs.Prelude.{codes}
use Rattle.dom_markup.specs.Escaping.{spaced}
use Rattle.dom_markup.proofs.html.EscapeLemmas.{no_space, no_space_byte, first_space, space_before, space_after, cut_parts, cut_shorter}
use Rattle.dom_markup.proofs.escaping.Escaper.cut_spaced.Goals as goal

pub returns-in_err-find_byte : goal.returns-in_err-find_byte
returns-in_err-find_byte c =
    let none = rw c.as_bytes-bytes.ensures.value at c.in_err-find_byte.ensures in
    rw c.from_residual.ensures (no_space c.args.text.now c.utf8.text (no_space_byte c.args.text.now none))

pub returns-in_err-at : goal.returns-in_err-at
returns-in_err-at c =
    let none = rw (c.as_bytes-bytes.ensures.value, c.args.self.now.needle) at c.in_err-at.ensures in
    rw c.from_residual-in_err-at.ensures (no_space c.args.text.now c.utf8.text none)

pub range-requires-clause-end_boundary : goal.range-requires-clause-end_boundary
range-requires-clause-end_boundary c =
    let found = rw (c.as_bytes-bytes.ensures.value, c.args.self.now.needle) at c.in_ok-at.ensures in
    space_before c.args.text.now c.in_ok-at.at found.1

pub range_from-requires : goal.range_from-requires
range_from-requires c =
    let found = rw (c.as_bytes-bytes.ensures.value, c.args.self.now.needle) at c.in_ok-at.ensures in
    λ some. space_after c.args.text.now c.in_ok-at.at c.utf8.text found.1

pub returns : goal.returns
returns c =
    let found = rw (c.as_bytes-bytes.ensures.value, c.args.self.now.needle) at c.in_ok-at.ensures in
    let text = c.args.text.now in
    let at = c.in_ok-at.at in
    let name : codes "&nbsp;" ≡ codes "&nbsp;" = refl in
    record {
      whole = cut_parts spaced (λ plain. plain) text _ _ _ at (at + 2) _ c.range.ensures.value name c.range_from.ensures.value (first_space text at c.utf8.text found.0 found.1);
      shorter = cut_shorter text _ (at + 2) c.range_from.ensures.value (omega arith) (omega (arith, found.1.fits));
    }
