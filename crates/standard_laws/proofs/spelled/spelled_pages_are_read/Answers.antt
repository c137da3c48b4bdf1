use Rattle.standard_laws.proofs.SpelledPages.{example_read, items_read, pages_read, pages_read_one_way}
use Rattle.standard_laws.proofs.spelled.spelled_pages_are_read.Goals as goal

pub returns-clause-items : goal.returns-clause-items
returns-clause-items c = items_read

pub returns-clause-read : goal.returns-clause-read
returns-clause-read c = pages_read

pub returns-clause-only : goal.returns-clause-only
returns-clause-only c = pages_read_one_way c.one_reading.ensures

pub returns-clause-example : goal.returns-clause-example
returns-clause-example c = example_read
