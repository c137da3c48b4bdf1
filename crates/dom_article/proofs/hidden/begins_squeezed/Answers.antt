use Rattle.std.proofs.Common.{◌∙◌, sym, arith}
use Rattle.dom_article.proofs.HiddenLemmas.{begins_ends}
use Rattle.dom_article.proofs.hidden.begins_squeezed.Goals as goal

pub returns : goal.returns
returns c = c.is_empty.ensures ∙ (sym (begins_ends c.loop-byte.rest.now c.args.text.now c.loop-byte.byte-index (omega arith)) ∙ c.loop-byte.invariant)
