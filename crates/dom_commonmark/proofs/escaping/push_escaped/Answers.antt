use Rattle.std.proofs.Common.{string_bytes}
use Rattle.dom_commonmark.proofs.ReadingLemmas.{reads-escaped}
use Rattle.dom_commonmark.proofs.escaping.push_escaped.Goals as goal

pub returns-clause-reads : goal.returns-clause-reads
returns-clause-reads c = reads-escaped c.args.place (string_bytes c.args.out.now) _ c.args.text.now c.in_ok-push_marks.ensures
