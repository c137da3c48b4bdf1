use Rattle.std.proofs.Common.{reverse, sym, ◌∙◌}
use Rattle.dom_commonmark.proofs.MarkLemmas.{plain_unmarked}
use Rattle.dom_commonmark.proofs.escaping.is_marked.Goals as goal

pub returns-then-is_plain : goal.returns-then-is_plain
returns-then-is_plain c = sym (plain_unmarked c.args.place (reverse c.args.before.now) c.args.byte c.args.after.now (sym c.is_plain.ensures ∙ c.if-is_plain.true))
