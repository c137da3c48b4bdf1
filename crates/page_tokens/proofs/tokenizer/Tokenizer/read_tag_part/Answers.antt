use Rattle.std.proofs.Common.{arith}
use Rattle.page_tokens.proofs.Fronts.{none_told, outside_state, plain_on, run_told}
use Rattle.page_tokens.proofs.tokenizer.Tokenizer.read_tag_part.Goals as goal

pub returns-then-not-is_plain : goal.returns-then-not-is_plain
returns-then-not-is_plain c none = none_told c.args.self.now c.args.text.now _ none

pub returns-in-Some : goal.returns-in-Some
returns-in-Some c none =
    let outside = c.is_plain.ensures.outside c.if-not-is_plain.false in
    plain_on c.args.self.now c.skip_spaces-rest.new.self _ c.args.text.now c.skip_spaces-rest.result.now _ c.read_greater.result (c.skip_spaces-rest.ensures.follows outside)
    (c.read_greater.ensures (outside_state c.args.self.now c.skip_spaces-rest.new.self c.skip_spaces-rest.ensures.only outside) none (c.in-Some.ensures.cut (omega arith)))

pub returns-in-Some-behind : goal.returns-in-Some-behind
returns-in-Some-behind c none =
    let outside = c.is_plain.ensures.outside c.if-not-is_plain.false in
    plain_on c.args.self.now c.skip_spaces-rest.new.self _ c.args.text.now c.skip_spaces-rest.result.now _ c.read_slash.result (c.skip_spaces-rest.ensures.follows outside)
    (c.read_slash.ensures (outside_state c.args.self.now c.skip_spaces-rest.new.self c.skip_spaces-rest.ensures.only outside) none (c.in-Some-behind.ensures.cut (omega arith)))

pub returns : goal.returns
returns c none =
    let outside = c.is_plain.ensures.outside c.if-not-is_plain.false in
    plain_on c.args.self.now c.skip_spaces-rest.new.self _ c.args.text.now c.skip_spaces-rest.result.now _ c.read_plain_attr.result (c.skip_spaces-rest.ensures.follows outside)
    (run_told c.skip_spaces-rest.new.self _ c.skip_spaces-rest.result.now _ c.read_plain_attr.result none (c.read_plain_attr.ensures (outside_state c.args.self.now c.skip_spaces-rest.new.self c.skip_spaces-rest.ensures.only outside)))
