use Rattle.std.proofs.Common.{arith, length-drop, sym, ap, ◌∙◌}
use Rattle.dom_markup.specs.Markup.{begins_markup}
use Rattle.dom_markup.proofs.grammar.Texts.{front_ends, front_goes_on, front_all}
use Rattle.dom_markup.proofs.document.scan.text_len.Goals as goal

pub returns-then-begins_markup : goal.returns-then-begins_markup
returns-then-begins_markup c =
    let found = rw c.bytes_from.ensures at c.in-Some.ensures in
    let begins = sym (c.begins_markup.ensures ∙ ap begins_markup c.bytes_from-in-Some.ensures) ∙ c.if-begins_markup.true in
    front_ends c.args.bytes.now c.loop-found.at c.in-Some.found c.loop-found.invariant.within c.loop-found.invariant.same found.0 begins

pub loop-found-preserved : goal.loop-found-preserved
loop-found-preserved c =
    let found = rw c.bytes_from.ensures at c.in-Some.ensures in
    let begins = sym (c.begins_markup.ensures ∙ ap begins_markup c.bytes_from-in-Some.ensures) ∙ c.if-begins_markup.false in
    record {
      within = omega (arith, found.0.high, length-drop c.loop-found.at c.args.bytes.now);
      same = front_goes_on c.args.bytes.now c.loop-found.at c.in-Some.found c.loop-found.invariant.within c.loop-found.invariant.same found.0 begins;
    }

pub returns : goal.returns
returns c = front_all c.args.bytes.now c.loop-found.at c.loop-found.invariant.within c.loop-found.invariant.same (rw c.bytes_from.ensures at c.in_default.ensures)
