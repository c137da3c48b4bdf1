use Rattle.std.proofs.Common.{sym}
use Rattle.dom_markup.proofs.grammar.NameBytes.{no_whitespace}
use Rattle.dom_markup.proofs.document.scan.is_whitespace.Goals as goal

pub returns-then-byte-gt32 : goal.returns-then-byte-gt32
returns-then-byte-gt32 c = sym (no_whitespace c.args.byte c.if-byte-gt32.true)
