use Rattle.big5.specs.declared.table.TheConstants.{BIG5}
use Rattle.big5.proofs.Steps.{ascii}
use Rattle.big5.proofs.decoding.Big5MultiByte.ascii_is_itself.Goals as goal

pub returns : goal.returns
returns c = ascii BIG5
