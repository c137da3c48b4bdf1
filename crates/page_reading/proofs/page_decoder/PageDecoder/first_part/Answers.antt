use Rattle.std.proofs.Common.{◌≡◌, ◌∙◌, None, [], rules, subst, sym}
use Rattle.encodings.specs.Labels.{for_bom}
use Rattle.page_reading.specs.PageDecoding.{Finds}
use Rattle.page_reading.specs.declared.page_decoder.Part.{Part}
use Rattle.page_reading.proofs.DecodingLemmas.{lacks_found}
use Rattle.page_reading.proofs.HeldLemmas.{found_marked, found_said, knows}
use Rattle.page_reading.proofs.page_decoder.PageDecoder.first_part.Goals as goal

pub returns-in-Some-clause-finds : goal.returns-in-Some-clause-finds
returns-in-Some-clause-finds c = λ long unknown.
    let encoding = c.in-Some.encoding in
    found_marked c.args.is_end c.args.bytes.now encoding c.in-Some.length c.know.new.self
    (knows encoding _ c.args.self.now c.know.new.self c.know.ensures.only c.know.ensures.decoder) (sym c.for_bom.ensures
    ∙ c.in-Some.is) long

pub returns-in-Some-said-clause-finds : goal.returns-in-Some-said-clause-finds
returns-in-Some-said-clause-finds c = λ long unknown.
    let none : for_bom c.args.bytes.now ≡ None = search rules in
    let encoding = c.in-Some-said.encoding in
    subst (λ (part : Part). Finds c.args.is_end [] c.args.bytes.now part c.know-in-Some-said.new.self) (sym c.all_of.ensures)
    (found_said c.args.is_end c.args.bytes.now encoding c.know-in-Some-said.new.self
    (knows encoding _ c.args.self.now c.know-in-Some-said.new.self c.know-in-Some-said.ensures.only c.know-in-Some-said.ensures.decoder)
    (lacks_found c.args.is_end c.args.bytes.now none long))

pub returns-clause-finds : goal.returns-clause-finds
returns-clause-finds c = λ long unknown.
    let none : for_bom c.args.bytes.now ≡ None = search rules in
    c.guessed_part.ensures.finds (lacks_found c.args.is_end c.args.bytes.now none long) unknown
