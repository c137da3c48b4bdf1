use Rattle.std.proofs.Common.{◌≡◌, false}
use Rattle.dom_markup.specs.ByteClasses.{begins_space}
use Rattle.dom_markup.proofs.grammar.Reading.{no_space_begins}
use Rattle.dom_markup.proofs.document.scan.attribute_at.Goals as goal

pub returns-then-not-begins_space-clause-none : goal.returns-then-not-begins_space-clause-none
returns-then-not-begins_space-clause-none c =
    let plain : begins_space c.args.text.now ≡ false = search in
    no_space_begins c.args.text.now plain

pub returns-in_err-value-clause-none : goal.returns-in_err-value-clause-none
returns-in_err-value-clause-none c = rw c.from_residual-in_err-value.ensures (λ a rest h.
    c.in_err-value.ensures.none _ rest (c.in_ok-name.ensures.some.valued a rest h))
