use Rattle.std.proofs.Common.{◌∙◌, subst, sym}
use Rattle.page_reading.specs.PageDecoding.{Finds}
use Rattle.page_reading.specs.declared.page_decoder.Part.{Part}
use Rattle.page_reading.proofs.HeldLemmas.{found_ascii, found_guessed, knows}
use Rattle.page_reading.proofs.page_decoder.PageDecoder.ascii_part.Goals as goal

pub returns-then-awaits_character-clause-finds : goal.returns-then-awaits_character-clause-finds
returns-then-awaits_character-clause-finds c = λ before first unknown ascii lacks.
    found_ascii c.args.is_end before c.args.bytes.now c.ascii_length-ascii.result c.args.self.now first unknown ascii
    c.ascii_length-ascii.ensures lacks
    (λ end. sym c.behind-rest.ensures ∙ c.awaits_character.ensures c.if-awaits_character.true end)

pub returns-clause-finds : goal.returns-clause-finds
returns-clause-finds c = λ before first unknown ascii lacks.
    let encoding = c.in_ok-encoding.encoding in
    subst (λ (part : Part). Finds c.args.is_end before c.args.bytes.now part c.know.new.self) (sym c.all_of.ensures)
    (found_guessed c.args.is_end before c.args.bytes.now encoding c.know.new.self
    (knows encoding _ c.args.self.now c.know.new.self c.know.ensures.only c.know.ensures.decoder) c.in_ok-encoding.ensures ascii lacks)
