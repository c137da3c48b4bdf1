use Rattle.std.proofs.Common.{◌≡◌, ◌-◌, List, ℕ, [], ◌∷◌, ◌++◌, ◌∙◌, ap, arith, drop, string_bytes, take}
use Rattle.dom_nodes.specs.Ascii.{backslash}
use Rattle.dom_commonmark.specs.Lines.{IsLineMark, marked_at}
use Rattle.dom_commonmark.proofs.LineLemmas.{joined, written_marked}
use Rattle.dom_commonmark.proofs.line_marks.push_line.Goals as goal

pub returns : goal.returns
unfolding lib.Utf8.encode
returns c =
    let line = c.args.line.now in
    let at = c.in-Some.at in
    let old = string_bytes c.args.out.now in
    let mark : IsLineMark line at = rw c.as_bytes.ensures.value at c.in-Some.ensures in
    let less : at - 0 ≡ at = omega arith in
    let front : string_bytes c.push_str-2.new.self ≡ old ++ take at line =
    c.in_ok-push_str-2.ensures.bytes ∙ ap (λ (t : List ℕ). old ++ t) (c.range.ensures.value ∙ ap (λ (n : ℕ). take n line) less) in
    let middle : string_bytes c.push.new.self ≡ string_bytes c.push_str-2.new.self ++ backslash ∷ [] = c.in_ok-push.ensures.bytes in
    let back : string_bytes c.push_str-3.new.self ≡ string_bytes c.push.new.self ++ drop at line = c.in_ok-push_str-3.ensures.bytes ∙ ap (λ (t : List ℕ). string_bytes c.push.new.self ++ t) c.range_from.ensures.value in
    let all : string_bytes c.push_str-3.new.self ≡ ((old ++ take at line) ++ backslash ∷ []) ++ drop at line = cc in
    (marked_at line at, all ∙ joined old (take at line) (drop at line), written_marked line at mark)
