use Rattle.std.proofs.Common.{ap, sym, ◌∙◌}
use Rattle.std.specs.Prelude.{encode_utf8_all}
use Rattle.page_reading.proofs.Utf8Lemmas.{marked, not_framed, not_marked}
use Rattle.page_reading.proofs.utf8_pieces.without_mark.Goals as goal

pub returns-in-Some-clause-rest : goal.returns-in-Some-clause-rest
returns-in-Some-clause-rest c = λ cs spelt.
    let found = c.in-Some.ensures.cases in
    found.2 ∙ marked cs _ (sym spelt ∙ found.1.split)

pub returns-in-Some-clause-framed : goal.returns-in-Some-clause-framed
returns-in-Some-clause-framed c = λ framed. absurd (not_framed c.args.text.now _ c.in-Some.ensures.cases.1.split framed)

pub returns-in-None-clause-rest : goal.returns-in-None-clause-rest
returns-in-None-clause-rest c = λ cs spelt. spelt ∙ ap encode_utf8_all (not_marked cs (λ rest e. c.in-None.ensures.cases rest (spelt ∙ e)))
