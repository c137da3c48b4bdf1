use Rattle.std.proofs.Common.{arith, ◌∙◌, ◌++◌, ◌<◌, ap, sym, string_bytes, subst, length}
use Rattle.std.specs.Prelude.{false, not}
use Rattle.std.proofs.lemmas.Bool.{eqb-true}
use Rattle.std.proofs.lemmas.Result.{on_ok_weaker}
use Rattle.dom_nodes.specs.Words.{words_of}
use Rattle.dom_md.specs.Resolved.{Reads}
use Rattle.dom_md.specs.Words.{spaced}
use Rattle.dom_md.specs.Written.{written}
use Rattle.dom_md.proofs.WrittenLemmas.{reads-nothing, reads-parted, reads-trimmed, some_left}
use Rattle.dom_md.proofs.serializer.words.push_words.Goals as goal
use Rattle.dom_md.proofs.serializer.words.push_words.Goals.{then-parted+in_ok-push, else-parted}

space_low : 32 < 128
space_low = omega arith

pub returns-then-is_empty : goal.returns-then-is_empty
returns-then-is_empty c = λ on. reads-nothing (string_bytes c.args.text.now) c.args.added.now c.trim_ascii_start-row.result.now c.args.parted c.trim_ascii_start-row.ensures.value
    (eqb-true (length c.trim_ascii_start-row.result.now) 0 (sym c.if-is_empty.ensures))

pub returns : goal.returns
returns c = on_ok_weaker c.push_row.result (λ reads on.
    let old = string_bytes c.args.text.now in
    let new = string_bytes c.push_row.new.text in
    let row = c.trim_ascii_start-row.result.now in
    let trimmed = c.trim_ascii_start-row.ensures.value in
    let some = some_left row c.if-is_empty.ensures in
    let read : Reads (string_bytes c.if-parted.text) new (written false row) = reads (ap (λ b. not b) on) in
    elim c.if-parted.branch [
      | then-parted+in_ok-push w ↦ subst (λ p. Reads old new (spaced p (words_of c.args.added.now))) (sym w.if-parted.true)
          (reads-parted old (string_bytes c.if-parted.text) new c.args.added.now row trimmed some
          (ap string_bytes w.text-is ∙ w.in_ok-push.ensures.bytes ∙ ap (λ t. old ++ t) (w.in_ok-push.ensures.ascii space_low)) read)
      | else-parted w ↦ subst (λ p. Reads old new (spaced p (words_of c.args.added.now))) (sym w.if-parted.false)
          (reads-trimmed old new c.args.added.now row trimmed some (subst (λ t. Reads (string_bytes t) new (written false row)) w.text-is read))
    ]) c.push_row.ensures
