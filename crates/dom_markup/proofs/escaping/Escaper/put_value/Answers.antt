use Rattle.dom_markup.proofs.html.EscapeLemmas.{nothing_named}
use Rattle.dom_markup.proofs.escaping.Escaper.put_value.Goals as goal

pub returns-in-None : goal.returns-in-None
returns-in-None g c =
    let none = rw c.as_bytes.ensures.value at c.in-None.ensures in
    rw (nothing_named c.args.text.now c.utf8.text none) c.put.ensures
