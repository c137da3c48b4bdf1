use Rattle.std.proofs.Common.{◌∙◌, ap, arith, length, sym}
use lib.Utf8.{encode}
use Rattle.std.proofs.lemmas.Str.{IsUtf8-past_char}
use Rattle.dom_clean.specs.Cleaned.{after_lines}
use Rattle.dom_clean.proofs.Lines.{lines_stay}
use Rattle.dom_clean.proofs.values.after_lines.Goals as goal

pub loop-later-preserved : goal.loop-later-preserved
unfolding encode
loop-later-preserved c = record {
  utf8 = IsUtf8-past_char c.loop-later.rest.now c.in-Some.later.now 10 c.loop-later.invariant.utf8 c.in-Some.ensures;
  same = sym (ap after_lines c.in-Some.ensures) ∙ c.loop-later.invariant.same;
}

pub loop-later-smaller : goal.loop-later-smaller
loop-later-smaller c = omega (arith, ap length c.in-Some.ensures)

pub returns : goal.returns
returns c = sym (lines_stay c.loop-later.rest.now c.in_default.ensures) ∙ c.loop-later.invariant.same
