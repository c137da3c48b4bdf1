use Rattle.page_tokens.proofs.PlainReferences.{begins_amp, begins_gt, begins_lt, begins_nbsp, begins_quot}
use Rattle.page_tokens.proofs.tokenizer.plain.plain_reference.Goals as goal

pub returns-in-Some : goal.returns-in-Some
returns-in-Some c = begins_amp c.args.text.now c.in-Some.rest.now c.in-Some.ensures

pub returns-in-Some-after_word : goal.returns-in-Some-after_word
returns-in-Some-after_word c = begins_gt c.args.text.now c.in-Some-after_word.rest.now c.in-Some-after_word.ensures

pub returns-in-Some-after_word-2 : goal.returns-in-Some-after_word-2
returns-in-Some-after_word-2 c = begins_lt c.args.text.now c.in-Some-after_word-2.rest.now c.in-Some-after_word-2.ensures

pub returns-in-Some-after_word-3 : goal.returns-in-Some-after_word-3
returns-in-Some-after_word-3 c = begins_quot c.args.text.now c.in-Some-after_word-3.rest.now c.in-Some-after_word-3.ensures

pub returns : goal.returns
returns c = begins_nbsp c.args.text.now c.in_ok-rest.rest.now c.in_ok-rest.ensures
