use Rattle.std.proofs.Common.{◌≡◌, length, take}
use Rattle.dom_markup.specs.DeferredTexts.{joined, with_texts}
use Rattle.dom_markup.proofs.document.late_texts.share.Given as goal

-- the first texts have their contents, and the next one lies behind theirs
abbrev pub invariant-loop-one : goal.invariant-loop-one
invariant-loop-one l = record {
  given : l.tree ≡ with_texts (take l.one-index l.late) l.initial.tree;
  start : l.start ≡ length (joined (take l.one-index l.late));
}
