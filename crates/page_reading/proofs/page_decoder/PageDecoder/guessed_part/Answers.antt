use Rattle.std.proofs.Common.{[], refl, subst, sym}
use Rattle.std.proofs.lemmas.Str.Ascii.{IsAscii-nil}
use Rattle.page_reading.specs.PageDecoding.{Finds}
use Rattle.page_reading.specs.declared.page_decoder.Part.{Part}
use Rattle.page_reading.proofs.HeldLemmas.{found_guessed, knows}
use Rattle.page_reading.proofs.page_decoder.PageDecoder.guessed_part.Goals as goal

pub returns-then-is_ascii-clause-finds : goal.returns-then-is_ascii-clause-finds
returns-then-is_ascii-clause-finds c = λ lacks unknown. c.ascii_part.ensures.finds [] refl unknown IsAscii-nil lacks

pub returns-clause-finds : goal.returns-clause-finds
returns-clause-finds c = λ lacks unknown.
    let encoding = c.in_ok-encoding.encoding in
    subst (λ (part : Part). Finds c.args.is_end [] c.args.bytes.now part c.know.new.self) (sym c.all_of.ensures)
    (found_guessed c.args.is_end [] c.args.bytes.now encoding c.know.new.self
    (knows encoding _ c.args.self.now c.know.new.self c.know.ensures.only c.know.ensures.decoder) c.in_ok-encoding.ensures IsAscii-nil
    lacks)
