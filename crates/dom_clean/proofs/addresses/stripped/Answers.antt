use Rattle.std.proofs.Common.{◌≡◌, ◌+◌, ◌++◌, ◌∙◌, ◌∷◌, [], Bool, ap, append-nil, arith, cond, filter, get_or, not, sym, take, take_all, ℕ}
use Rattle.std.proofs.lemmas.List.Elements.{filter_more}
use Rattle.url.specs.Input.{is_tab_or_new_line, strip_tabs_and_new_lines}
use Rattle.dom_clean.proofs.addresses.stripped.Goals as goal

abbrev stays : ℕ → Bool
stays b = not (is_tab_or_new_line b)

pub loop-byte-preserved-then-is_tab_or_new_line : goal.loop-byte-preserved-then-is_tab_or_new_line
loop-byte-preserved-then-is_tab_or_new_line c =
    let bytes = c.args.bytes.now in
    let at = c.loop-byte.byte-index in
    let b = get_or bytes at 0 in
    let before = filter stays (take at bytes) in
    sym (filter_more stays bytes at 0 (omega arith) ∙ ap (λ t. before ++ cond (not t) (b ∷ []) []) (sym c.is_tab_or_new_line.ensures ∙ c.if-is_tab_or_new_line.true) ∙ append-nil before ∙ sym c.loop-byte.invariant)

pub loop-byte-preserved : goal.loop-byte-preserved
loop-byte-preserved c =
    let bytes = c.args.bytes.now in
    let at = c.loop-byte.byte-index in
    let b = get_or bytes at 0 in
    let before = filter stays (take at bytes) in
    let more : filter stays (take (at + 1) bytes) ≡ before ++ b ∷ [] =
    filter_more stays bytes at 0 (omega arith) ∙ ap (λ t. before ++ cond (not t) (b ∷ []) []) (sym c.is_tab_or_new_line.ensures ∙ c.if-is_tab_or_new_line.false) in
    c.in_ok-push.ensures.items ∙ ap (λ kept. kept ++ b ∷ []) c.loop-byte.invariant ∙ sym more

pub returns : goal.returns
unfolding strip_tabs_and_new_lines
returns c = c.loop-byte.invariant ∙ ap (filter stays) (take_all c.loop-byte.byte-index c.args.bytes.now (omega arith))
