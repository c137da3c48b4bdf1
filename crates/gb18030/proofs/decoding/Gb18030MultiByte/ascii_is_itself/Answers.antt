use Rattle.gb18030.specs.declared.table.TheConstants.{CODES, FIRSTS, GB18030}
use Rattle.gb18030.proofs.Steps.{ascii}
use Rattle.gb18030.proofs.decoding.Gb18030MultiByte.ascii_is_itself.Goals as goal

pub returns : goal.returns
returns c = ascii GB18030 FIRSTS CODES
