use Rattle.std.proofs.Common.{sym, ◌∙◌}
use Rattle.gb18030.specs.declared.table.TheConstants.{CODES, FIRSTS, GB18030}
use Rattle.gb18030.specs.Decoding.{characters}
use Rattle.gb18030.proofs.Steps.{cut_one, pair}
use Rattle.gb18030.proofs.decoding.pair.Goals as goal

pub returns-then-is_last-clause-some : goal.returns-then-is_last-clause-some
returns-then-is_last-clause-some c = λ more last. cut_one _ _ _ _ more _ c.requires c.in_default.ensures.cases (last c.if-is_last.true)

pub returns-clause-some : goal.returns-clause-some
returns-clause-some c =
    λ more last. pair _ _ _ _ _ _ more _ _ _ _ c.requires (sym c.is_digit.ensures ∙ c.if-is_digit.false) c.in-Some.ensures.cases.0 c.of_two-found.ensures
    (c.character_or_error.ensures.gives (characters GB18030 FIRSTS CODES) more)
