use Rattle.std.proofs.Common.{rules}
use Rattle.std.specs.Str.{encode_utf8_all}
use Rattle.std.proofs.lemmas.Str.{IsUtf8-drop}
use Rattle.page_tokens.proofs.CheckedParts.{part_read, part_seam}
use Rattle.page_tokens.proofs.tokenizer.Tokenizer.read_checked.Goals as goal

pub split_at-requires-2 : goal.split_at-requires-2
split_at-requires-2 c =
    part_seam c.args.text.now c.split_at.result.0.now c.in_ok-left.left.now (encode_utf8_all c.in_ok-left.ensures.standard.read)
    c.part_len.result c.split_at.ensures.front c.in_ok-left.ensures.standard.cut (search rules)
    (IsUtf8-drop c.args.text.now c.part_len.result c.utf8.text c.part_len.ensures.boundary)

pub returns-clause-standard : goal.returns-clause-standard
returns-clause-standard c =
    part_read c.args.self.now c.check_input.new.self c.read_settled.new.self c.args.text.now c.split_at.result.0.now
    c.in_ok-left.left.now c.split_at-2.result.1.now c.part_len.result _ _
    c.check_input.ensures c.split_at.ensures.front c.split_at-2.ensures.back c.in_ok-left.ensures.standard
