use Rattle.encodings.proofs.Steps.{end_cut, end_read}
use Rattle.encodings.proofs.prescan.tag_end.Goals as goal

pub returns-in-Some : goal.returns-in-Some
returns-in-Some c = end_read c.args.bytes.now _ _ _ c.skip.ensures c.in-Some.ensures.2

pub returns-in-None : goal.returns-in-None
returns-in-None c = end_cut c.args.bytes.now _ c.skip.ensures c.in-None.ensures
