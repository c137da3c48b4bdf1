use Rattle.std.proofs.Common.{arith, refl}
use Rattle.std.proofs.lemmas.Str.{IsCharBoundary-start}
use Rattle.dom_commonmark.proofs.escaping.push_marks.Goals as goal

pub loop-cut-init : goal.loop-cut-init
loop-cut-init c = (omega arith, IsCharBoundary-start c.args.text.now c.utf8.text, refl)
