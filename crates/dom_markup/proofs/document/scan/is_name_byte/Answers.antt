use Rattle.std.proofs.Common.{sym}
use Rattle.dom_markup.proofs.grammar.NameBytes.{above}
use Rattle.dom_markup.proofs.document.scan.is_name_byte.Goals as goal

pub returns-then-byte-gt62 : goal.returns-then-byte-gt62
returns-then-byte-gt62 c = sym (above c.args.byte c.if-byte-gt62.true)
