use Rattle.std.proofs.Common.{sym, ◌∙◌}
use Rattle.dom_markup.proofs.grammar.Reading.{bare_none}
use Rattle.dom_markup.proofs.grammar.Spans.{nil_from_length}
use Rattle.dom_markup.proofs.document.scan.value_at.Goals as goal

pub returns-then-is_empty : goal.returns-then-is_empty
returns-then-is_empty c = record { some = tt; none = bare_none _ _ _ c.in_default.ensures.none c.in_default-strip.ensures.none c.split_front.ensures (nil_from_length _ (sym c.is_empty.ensures ∙ c.if-is_empty.true)) }
