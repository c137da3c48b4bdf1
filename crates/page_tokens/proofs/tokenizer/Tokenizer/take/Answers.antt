use Rattle.page_tokens.proofs.AnyState.{front_arm, part_arm, some_reference}
use Rattle.page_tokens.proofs.tokenizer.Tokenizer.take.Goals as goal

pub returns-then-reference : goal.returns-then-reference
returns-then-reference c =
    part_arm c.args.self.now _ c.args.c _ c.if-reference.true (some_reference c.args.self.now _ c.if-not-is_in_reference.false c.is_in_reference.ensures.none) c.reference.ensures

pub returns : goal.returns
returns c =
    front_arm c.args.self.now c.reference.new.self _ c.args.c _ _ c.if-reference.false (some_reference c.args.self.now _ c.if-not-is_in_reference.false c.is_in_reference.ensures.none) c.reference.ensures
    c.read-2.ensures
