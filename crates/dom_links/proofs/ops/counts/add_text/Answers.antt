use Rattle.std.proofs.Common.{sym, ◌∙◌, arith, refl}
use Rattle.std.proofs.lemmas.Iterator.{YieldsList-from_chars}
use Rattle.std.proofs.lemmas.Iterator.Consumers.{YieldsList-turn, YieldsList-end}
use Rattle.dom_links.proofs.texts.Counting.{starts, ends, white_read, letter_read}
use Rattle.dom_links.proofs.ops.counts.add_text.Goals as goal
use Rattle.dom_links.proofs.ops.counts.add_text.Goals.{then-read, else-read}

pub loop-c-preserved-then-is_whitespace : goal.loop-c-preserved-then-is_whitespace
loop-c-preserved-then-is_whitespace c = λ rest total h.
    let t = YieldsList-turn (YieldsList-from_chars c.args.text.now c.utf8.text cc) c.loop-c.yielded _ c.loop-c.yielded_by _ _ c.in-Some.c c.in-Some.is c.next.ensures.steps in
    white_read c.loop-c.read.count c.loop-c.read.gap _ c.args.text.now c.loop-c.yielded rest total c.in-Some.c t.0 t.1 (sym c.is_whitespace.ensures ∙ c.if-is_whitespace.true) refl (c.loop-c.invariant rest total h)

pub loop-c-preserved : goal.loop-c-preserved
loop-c-preserved c = λ rest total h.
    let t = YieldsList-turn (YieldsList-from_chars c.args.text.now c.utf8.text cc) c.loop-c.yielded _ c.loop-c.yielded_by _ _ c.in-Some.c c.in-Some.is c.next.ensures.steps in
    letter_read c.loop-c.read.count c.if-read.more c.saturating_add-read.result c.loop-c.read.gap c.args.text.now c.loop-c.yielded rest total c.in-Some.c t.0 t.1 (sym c.is_whitespace.ensures ∙ c.if-is_whitespace.false)
    c.saturating_add-read.ensures
    (elim c.if-read.branch [ then-read w ↦ w.more-is ∙ rw w.if-read.true refl | else-read w ↦ w.more-is ∙ rw w.if-read.false refl ]) (c.loop-c.invariant rest total h)

pub returns : goal.returns
returns c = λ rest total h.
    let t = YieldsList-end (YieldsList-from_chars c.args.text.now c.utf8.text cc) c.loop-c.yielded _ c.loop-c.yielded_by _ _ c.in-None.is c.next.ensures.steps in
    ends c.loop-c.read.count c.loop-c.read.gap c.args.text.now c.loop-c.yielded rest total (omega (arith, t.1)) (c.loop-c.invariant rest total (starts c.args.read.now.count c.args.read.now.gap c.args.text.now rest total c.utf8.text h))
