use Rattle.std.proofs.Common.{refl}
use Rattle.page_tokens.proofs.tokenizer.Tokenizer.back_to.Goals as goal

pub returns-in-Rcdata : goal.returns-in-Rcdata
returns-in-Rcdata c = rw c.in-Rcdata.is (c.in_rcdata.ensures refl)

pub returns-in-Rawtext : goal.returns-in-Rawtext
returns-in-Rawtext c = rw c.in-Rawtext.is (c.in_raw.ensures refl tt)

pub returns-in-Script : goal.returns-in-Script
returns-in-Script c = rw c.in-Script.is (c.in_raw-in-Script.ensures refl tt)

pub returns-in-Escaped : goal.returns-in-Escaped
returns-in-Escaped c = rw c.in-Escaped.is (c.in_script.ensures refl)
