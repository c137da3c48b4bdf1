use Rattle.std.proofs.Common.{arith, ◌++◌, ◌∙◌, ap, string_bytes, sym}
use Rattle.dom_md.proofs.ReadLemmas.{reads-stop}
use Rattle.dom_md.proofs.serializer.words.push_first_word.Goals as goal

pub returns-then-ends_in_marker_digits : goal.returns-then-ends_in_marker_digits
returns-then-ends_in_marker_digits c = reads-stop (string_bytes c.args.text.now) (string_bytes c.push_str.new.self) c.args.word.now (sym c.is_stop_word.ensures ∙ c.if-is_stop_word.true)
    (c.in_ok-push_str.ensures.bytes ∙ ap (λ t. t ++ c.args.word.now) (c.in_ok-push.ensures.bytes ∙ ap (λ t. string_bytes c.args.text.now ++ t) (c.in_ok-push.ensures.ascii (omega arith))))
