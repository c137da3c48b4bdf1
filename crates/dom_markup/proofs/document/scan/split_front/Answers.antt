use Rattle.std.proofs.Common.{◌≡◌, ℕ, subst, take, drop}
use Rattle.std.specs.List.{prefix_len}
use Rattle.std.specs.Str.{IsCharBoundary}
use Rattle.dom_markup.specs.ByteClasses.{passes, Splits}
use Rattle.dom_markup.proofs.grammar.Spans.{splits_front, front_boundary}
use Rattle.dom_markup.proofs.document.scan.split_front.Goals as goal

pub split_at-requires : goal.split_at-requires
split_at-requires c =
    let len : prefix_len (passes c.args.byte_class) c.args.text.now ≡ c.class_len.result = cc c.class_len.ensures in
    subst (IsCharBoundary c.args.text.now) len (front_boundary c.args.byte_class c.args.text.now c.utf8.text)

pub returns : goal.returns
returns c =
    let text = c.args.text.now in
    let len : prefix_len (passes c.args.byte_class) text ≡ c.class_len.result = cc c.class_len.ensures in
    let split : Splits (passes c.args.byte_class) text (take c.class_len.result text) (drop c.class_len.result text) =
    subst (λ (n : ℕ). Splits (passes c.args.byte_class) text (take n text) (drop n text)) len (splits_front (passes c.args.byte_class) text) in
    rw (c.split_at.ensures.front, c.split_at.ensures.back) split
