use Rattle.std.proofs.Common.{sym}
use Rattle.std.proofs.lemmas.Bool.{ne_eqb}
use Rattle.page_tokens.proofs.RawTexts.{rcdata_reference_arm}
use Rattle.page_tokens.proofs.tokenizer.Tokenizer.in_rcdata.Goals as goal

pub returns-then-c-eq38 : goal.returns-then-c-eq38
returns-then-c-eq38 c is = rcdata_reference_arm c.args.self.now _ c.args.c _ is c.if-c-eq38.true c.begin_reference.ensures.begins c.begin_reference.ensures.told

pub returns : goal.returns
returns c is = c.in_raw.ensures is (ne_eqb 38 c.args.c (λ e. c.if-c-eq38.false (sym e)))
