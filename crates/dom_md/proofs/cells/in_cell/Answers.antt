use Rattle.std.proofs.Common.{◌≡◌, ◌++◌, encode_utf8, append_assoc, string_bytes, ◌∙◌, ap, arith}
use Rattle.std.proofs.lemmas.Iterator.{YieldsList-from_chars}
use Rattle.std.proofs.lemmas.Iterator.Consumers.{YieldsList-turn, YieldsList-end}
use Rattle.dom_md.proofs.CellLemmas.{cell_done, cell_front, cell_more, cell_start, front_yes, front_held, front_other}
use Rattle.dom_md.proofs.cells.in_cell.Goals as goal
use Rattle.dom_md.proofs.cells.in_cell.Goals.{then-c-eq124+then-not-after+in_ok-push, else-c-eq124, else-c-eq124-via-then-c-eq124+else-not-after, else-c-eq124-via-else-c-eq124}

pub loop-c-init : goal.loop-c-init
loop-c-init c = cell_start c.args.text.now _ c.utf8.text c.new-escaped.ensures.bytes

pub loop-c-preserved : goal.loop-c-preserved
loop-c-preserved c =
    let t = YieldsList-turn (YieldsList-from_chars c.args.text.now c.utf8.text cc) c.loop-c.yielded _ c.loop-c.yielded_by _ _ c.in-Some.c c.in-Some.is c.next.ensures.steps in
    let old = string_bytes c.loop-c.escaped in
    let new = string_bytes c.if-c-eq124.escaped in
    let front : new ≡ old ++ cell_front c.loop-c.after c.in-Some.c = elim c.if-c-eq124.branch [
      | then-c-eq124+then-not-after+in_ok-push w ↦ front_yes old new c.loop-c.after c.in-Some.c w.if-c-eq124.true w.if-not-after.true (ap string_bytes w.escaped-is ∙ w.in_ok-push.ensures.bytes)
      | else-c-eq124 w ↦ elim w.else-c-eq124.branch [
        | else-c-eq124-via-then-c-eq124+else-not-after v ↦ front_held old new c.loop-c.after c.in-Some.c v.if-c-eq124.true v.if-not-after.false (ap string_bytes w.escaped-is)
        | else-c-eq124-via-else-c-eq124 v ↦ front_other old new c.loop-c.after c.in-Some.c v.if-c-eq124.false (ap string_bytes w.escaped-is)
      ]
    ] in
    cell_more c.args.text.now old (string_bytes c.push-in-loop-c.new.self) c.loop-c.yielded c.loop-c.after c.in-Some.c t.0 t.1
    (c.in_ok-push-2.ensures.bytes ∙ (ap (λ t. t ++ encode_utf8 c.in-Some.c) front ∙ append_assoc old (cell_front c.loop-c.after c.in-Some.c) (encode_utf8 c.in-Some.c))) c.loop-c.invariant

pub returns : goal.returns
returns c =
    let t = YieldsList-end (YieldsList-from_chars c.args.text.now c.utf8.text cc) c.loop-c.yielded _ c.loop-c.yielded_by _ _ c.in-None.is c.next.ensures.steps in
    cell_done c.args.text.now _ c.loop-c.after c.loop-c.yielded (omega (arith, t.1)) c.loop-c.invariant
