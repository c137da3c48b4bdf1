use Rattle.std.proofs.Common.{◌≡◌, ◌++◌, [], ◌∙◌, ap, append-nil, arith, encode_utf8, length, string_bytes, sym}
use Rattle.std.specs.Prelude.{◌==◌, if◌then◌else◌}
use Rattle.std.proofs.lemmas.Result.{IfOk-weaker}
use Rattle.dom_nodes.specs.Ascii.{space}
use Rattle.dom_md.specs.Formatted.{spaced_words}
use Rattle.dom_md.proofs.SpacedLemmas.{push_char, push_gap, trimmed-shorter}
use Rattle.dom_md.proofs.formatting.steps.push_next.Goals as goal
use Rattle.dom_md.proofs.formatting.steps.push_next.Goals.{then-not-is_empty+in_ok-push-2, else-not-is_empty}

pub returns-then-not-is_whitespace-clause-words : goal.returns-then-not-is_whitespace-clause-words
returns-then-not-is_whitespace-clause-words c =
    let is = sym c.chars-chars.ensures.rest ∙ c.in-Some.ensures.steps.0 in
    let dark = sym c.is_whitespace.ensures ∙ c.if-not-is_whitespace.true in
    let next = c.next.new.self.rest.now in
    let one = ap (λ t. t ++ spaced_words next) c.in_ok-push.ensures.bytes ∙ push_char (string_bytes c.args.text.now) c.args.rest.now next c.in-Some.c c.utf8.rest is dark in
    IfOk-weaker c.push_letters.result _ _ (λ after h. h ∙ (ap (λ t. string_bytes c.push.new.self ++ spaced_words t) c.as_str.ensures ∙ one)) c.push_letters.ensures.words

pub returns-clause-words : goal.returns-clause-words
returns-clause-words c =
    let old = string_bytes c.args.text.now in
    let words = c.trim_start-words.result.now in
    let is = sym c.chars-chars.ensures.rest ∙ c.in-Some.ensures.steps.0 in
    let white = sym c.is_whitespace.ensures ∙ c.if-not-is_whitespace.false in
    let made : string_bytes c.if-not-is_empty.text ≡ old ++ (if length words == 0 then [] else encode_utf8 space) = elim c.if-not-is_empty.branch [
      | then-not-is_empty+in_ok-push-2 w ↦ ap string_bytes w.text-is ∙ (w.in_ok-push-2.ensures.bytes ∙ ap (λ b. old ++ (if b then [] else encode_utf8 space)) (sym (sym c.is_empty.ensures ∙ w.if-not-is_empty.true)))
      | else-not-is_empty w ↦ ap string_bytes w.text-is ∙ (sym (append-nil old) ∙ ap (λ b. old ++ (if b then [] else encode_utf8 space)) (sym (sym c.is_empty.ensures ∙ w.if-not-is_empty.false)))
    ] in
    push_gap old (string_bytes c.if-not-is_empty.text) c.args.rest.now c.next.new.self.rest.now words c.in-Some.c c.utf8.rest is white c.trim_start-words.ensures.trim made

pub returns-clause-shorter : goal.returns-clause-shorter
returns-clause-shorter c =
    let is = sym c.chars-chars.ensures.rest ∙ c.in-Some.ensures.steps.0 in
    let white = sym c.is_whitespace.ensures ∙ c.if-not-is_whitespace.false in
    let less = trimmed-shorter c.args.rest.now c.next.new.self.rest.now c.trim_start-words.result.now c.in-Some.c c.utf8.rest is white c.trim_start-words.ensures.trim in
    omega (arith, less)
