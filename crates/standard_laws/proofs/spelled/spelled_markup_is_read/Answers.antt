use Rattle.standard_laws.proofs.SpelledDoctypes.{doctypes_read}
use Rattle.standard_laws.proofs.SpelledOwn.{own_texts_read}
use Rattle.standard_laws.proofs.SpelledTags.{ends_read, starts_read}
use Rattle.standard_laws.proofs.SpelledTexts.{texts_read}
use Rattle.standard_laws.proofs.spelled.spelled_markup_is_read.Goals as goal

pub returns-clause-starts : goal.returns-clause-starts
returns-clause-starts c = starts_read

pub returns-clause-ends : goal.returns-clause-ends
returns-clause-ends c = ends_read

pub returns-clause-texts : goal.returns-clause-texts
returns-clause-texts c = texts_read

pub returns-clause-doctypes : goal.returns-clause-doctypes
returns-clause-doctypes c = doctypes_read

pub returns-clause-own : goal.returns-clause-own
returns-clause-own c = own_texts_read
