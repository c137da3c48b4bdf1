use Rattle.std.proofs.Common.{arith, inl, inr}
use Rattle.encodings.proofs.Words.{word_nowhere, word_there}
use Rattle.encodings.proofs.places.begins_with_word.Goals as goal

pub returns-in-Some : goal.returns-in-Some
returns-in-Some c =
    word_there _ c.in-Some.front.now c.args.word.now c.args.bytes.now c.eq_ignore_ascii_case.ensures.test c.requires c.in-Some.ensures.lookup.0.2

pub returns-in-None : goal.returns-in-None
returns-in-None c = word_nowhere c.args.word.now c.args.bytes.now (elim c.in-None.ensures.lookup.0 [ inl h ↦ omega arith | inr h ↦ h ])
