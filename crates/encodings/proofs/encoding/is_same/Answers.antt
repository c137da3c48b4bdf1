use Rattle.encodings.proofs.Rows.{same_test}
use Rattle.encodings.proofs.encoding.is_same.Goals as goal

pub returns : goal.returns
returns c = same_test _ _ _ c.eq_ignore_ascii_case.ensures.test
