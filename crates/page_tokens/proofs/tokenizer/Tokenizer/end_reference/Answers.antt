use Rattle.std.proofs.Common.{ap, refl}
use Rattle.page_tokens.specs.References.{number_of}
use Rattle.page_tokens.proofs.NameStops.{named_arm}
use Rattle.page_tokens.proofs.ReferenceStops.{ambiguous_arm, begun_arm, hex_arm, number_arm, sharp_arm}
use Rattle.page_tokens.proofs.tokenizer.Tokenizer.end_reference.Goals as goal

pub returns-in-Begun-clause-ends : goal.returns-in-Begun-clause-ends
returns-in-Begun-clause-ends c = begun_arm c.args.self.now _ c.in-Begun.is c.put_written.ensures.put

pub returns-in-Ambiguous-clause-ends : goal.returns-in-Ambiguous-clause-ends
returns-in-Ambiguous-clause-ends c = ambiguous_arm c.args.self.now _ c.in-Ambiguous.is refl

pub returns-in-Number-clause-ends : goal.returns-in-Number-clause-ends
returns-in-Number-clause-ends c = sharp_arm c.args.self.now _ c.in-Number.is c.without_digits.ensures.put

pub returns-in-HexStart-clause-ends : goal.returns-in-HexStart-clause-ends
returns-in-HexStart-clause-ends c = hex_arm c.args.self.now _ c.in-HexStart.is c.without_digits-in-HexStart.ensures.put

pub returns-in-Hex-clause-ends : goal.returns-in-Hex-clause-ends
returns-in-Hex-clause-ends c = number_arm c.args.self.now _ c.in-Hex.number (ap number_of c.in-Hex.is) c.numbered.ensures.put

pub returns-in-Decimal-clause-ends : goal.returns-in-Decimal-clause-ends
returns-in-Decimal-clause-ends c = number_arm c.args.self.now _ c.in-Decimal.number (ap number_of c.in-Decimal.is) c.numbered-in-Decimal.ensures.put

pub returns-in-Named-clause-ends : goal.returns-in-Named-clause-ends
returns-in-Named-clause-ends c = named_arm c.args.self.now _ c.in-Named.found c.in-Named.is c.put_named.ensures.put
