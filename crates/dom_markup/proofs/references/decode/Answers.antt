use Rattle.dom_markup.proofs.grammar.ReferenceLemmas.{decoded-none}
use Rattle.dom_markup.proofs.references.decode.Goals as goal

pub returns-in_default : goal.returns-in_default
returns-in_default c =
    let none = rw c.as_bytes.ensures.value at c.in_default.ensures in
    rw (decoded-none c.args.text.now none) c.new.ensures
