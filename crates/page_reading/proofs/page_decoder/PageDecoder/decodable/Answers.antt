use Rattle.std.proofs.Common.{IfOk, List, ◌++◌, subst, sym, ℕ}
use Rattle.page_reading.specs.PageDecoding.{Finds}
use Rattle.page_reading.proofs.HeldLemmas.{lacks_still, waits_ascii, waits_first, waits_none}
use Rattle.page_reading.proofs.page_decoder.PageDecoder.decodable.Goals as goal

pub returns-in-Known-clause-finds : goal.returns-in-Known-clause-finds
returns-in-Known-clause-finds c = λ before waits. absurd (waits_none before c.args.bytes.now c.args.self.now c.in-Known.is waits)

pub returns-in-Ascii-clause-finds : goal.returns-in-Ascii-clause-finds
returns-in-Ascii-clause-finds c = λ before waits.
    let w = waits_ascii before c.args.bytes.now c.args.self.now c.in-Ascii.is waits in
    c.ascii_part.ensures.finds before c.in-Ascii.is w.1 w.0 (lacks_still c.args.is_end (before ++ c.args.bytes.now) w.2)

pub returns-in-First-clause-finds : goal.returns-in-First-clause-finds
returns-in-First-clause-finds c = λ before waits.
    let w = waits_first before c.args.bytes.now c.args.self.now c.in-First.is waits in
    subst (λ (b : List ℕ). IfOk c.part_at_first.result (λ part. Finds c.args.is_end b c.args.bytes.now part c.part_at_first.new.self))
    (sym w.0) (c.part_at_first.ensures.finds c.in-First.is w.1)
