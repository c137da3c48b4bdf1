use Rattle.std.proofs.Common.{◌≡◌, take}
use Rattle.dom_markup.specs.DeferredTexts.{joined}
use Rattle.dom_markup.proofs.document.late_texts.block_of.Given as goal

-- the first texts stand in the list
abbrev pub invariant-loop-one : goal.invariant-loop-one
invariant-loop-one l = record {
  joined : l.all.items ≡ joined (take l.one-index l.late);
}
