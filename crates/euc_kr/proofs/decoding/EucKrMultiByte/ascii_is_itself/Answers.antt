use Rattle.euc_kr.specs.declared.table.TheConstants.{EUC_KR}
use Rattle.euc_kr.proofs.Steps.{ascii}
use Rattle.euc_kr.proofs.decoding.EucKrMultiByte.ascii_is_itself.Goals as goal

pub returns : goal.returns
returns c = ascii EUC_KR
