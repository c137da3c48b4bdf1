use Rattle.std.proofs.Common.{◌≡◌, ◌+◌, ◌∙◌, ap, sym, arith}
use Rattle.std.specs.List.{prefix_len}
use Rattle.std.proofs.lemmas.List.Sums.{prefix_len-le-length}
use Rattle.dom_markup.specs.Bytes.{is_name_byte}
use Rattle.dom_markup.proofs.grammar.NameBytes.{past_high}
use Rattle.dom_markup.proofs.document.scan.name_len.Goals as goal

pub returns : goal.returns
returns c =
    let run = past_high c.args.bytes.now c.high_len-high.result c.high_len-high.ensures in
    ap (λ n. c.high_len-high.result + n) (c.front_len-2.ensures ∙ ap (prefix_len is_name_byte) c.bytes_from.ensures) ∙ sym run

pub overflow_add-result : goal.overflow_add-result
overflow_add-result c =
    let run = past_high c.args.bytes.now c.high_len-high.result c.high_len-high.ensures in
    let is : c.high_len-high.result + c.front_len-2.result ≡ prefix_len is_name_byte c.args.bytes.now =
    ap (λ n. c.high_len-high.result + n) (c.front_len-2.ensures ∙ ap (prefix_len is_name_byte) c.bytes_from.ensures) ∙ sym run in
    omega (arith, is, prefix_len-le-length is_name_byte c.args.bytes.now)
