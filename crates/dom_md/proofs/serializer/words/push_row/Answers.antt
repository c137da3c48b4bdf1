use Rattle.std.proofs.Common.{◌∙◌, ◌++◌, ap, string_bytes}
use Rattle.dom_md.specs.Written.{written}
use Rattle.dom_md.proofs.WrittenLemmas.{reads-row-cut, reads-written}
use Rattle.dom_md.proofs.serializer.words.push_row.Goals as goal

pub returns-then-begins_with_stop : goal.returns-then-begins_with_stop
returns-then-begins_with_stop c = λ escapes. reads-row-cut (string_bytes c.args.text.now) (string_bytes c.push_first_word.new.text) (string_bytes c.push_written.new.text) c.args.row.now _ _ _ c.word_len-end.result
    c.as_bytes.ensures.value c.word_len-end.ensures.word c.range.ensures.value c.range_from.ensures.value c.in_ok-push_first_word.ensures c.in_ok-push_written.ensures

pub returns : goal.returns
returns c = λ escapes. reads-written (string_bytes c.args.text.now) (string_bytes c.push_written-2.new.text) c.args.row.now
    (c.in_ok-push_written-2.ensures ∙ ap (λ e. string_bytes c.args.text.now ++ written e c.args.row.now) escapes)
