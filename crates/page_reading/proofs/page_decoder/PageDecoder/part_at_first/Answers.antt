use Rattle.page_reading.proofs.HeldLemmas.{found_none}
use Rattle.page_reading.proofs.page_decoder.PageDecoder.part_at_first.Goals as goal

pub returns-then-awaits_first-clause-finds : goal.returns-then-awaits_first-clause-finds
returns-then-awaits_first-clause-finds c = λ first unknown.
    found_none c.args.is_end c.args.bytes.now c.args.self.now first unknown (c.awaits_first.ensures.few c.if-awaits_first.true)

pub returns-clause-finds : goal.returns-clause-finds
returns-clause-finds c = λ first unknown. c.first_part.ensures.finds (c.awaits_first.ensures.enough c.if-awaits_first.false) unknown
