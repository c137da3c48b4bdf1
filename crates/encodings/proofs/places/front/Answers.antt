use Rattle.std.proofs.Common.{arith, inl, inr, sym, take_all}
use Rattle.encodings.proofs.Words.{range_front}
use Rattle.encodings.proofs.places.front.Goals as goal

pub returns-in-None : goal.returns-in-None
returns-in-None c = sym (take_all c.args.length c.args.bytes.now (elim c.in-None.ensures.lookup.0 [ inl h ↦ omega arith | inr h ↦ omega arith ]))

pub returns-in-Some : goal.returns-in-Some
returns-in-Some c = range_front c.args.bytes.now _ c.args.length c.in-Some.ensures.lookup.0.2
