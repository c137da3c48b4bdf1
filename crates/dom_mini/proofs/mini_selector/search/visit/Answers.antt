use Rattle.std.proofs.Common.{◌≡◌, ◌∙◌, ◌++◌, ◌-◌, sym, ap, length}
use Rattle.std.proofs.lemmas.Result.{on_ok_weaker}
use Rattle.dom_links.specs.Forest.{forest_of}
use Rattle.dom_mini.specs.PathFlags.{data_at, flags_before, flags_below, flags_beside, is_led, last_flags}
use Rattle.dom_select.specs.Selected.{one_if}
use Rattle.dom_mini.proofs.SearchLemmas.{data_is, was_visited}
use Rattle.dom_mini.proofs.mini_selector.search.visit.Goals as goal

pub returns : goal.returns
returns c =
    let forest = forest_of c.args.nodes.now in
    let path = c.args.path.now in
    let old = c.args.search.now in
    let here = c.args.is_start in
    let last = last_flags path old.flags.items in
    let good = c.requires.sound.forest in
    let node = c.in-Some.node.now.content in
    let same : node ≡ data_at forest c.args.id = sym (data_is forest.content c.args.id node c.in-Some.ensures.content_is) in
    let stepped = c.step_last-is_led.ensures.stepped in
    on_ok_weaker c.wait_below.result
    (λ inner. was_visited forest path (c.trees_of_a_forest.ensures forest good) (c.lines_of_a_forest.ensures forest good) c.args.id here c.requires.known old _ _ _ _
    (ap (λ k. k - length path) (c.len.ensures ∙ old.flags.ok.0)) c.requires.visit stepped.pending
    (stepped.beside ∙ ap (λ n. flags_before path old.flags.items ++ flags_beside path n here last) same)
    (stepped.below ∙ ap (λ n. flags_below path n here last) same)
    (c.in_ok-push_if.ensures ∙ ap (λ ns. ns ++ one_if c.step_last-is_led.result c.args.id) stepped.found ∙ ap (λ b. old.found.items ++ one_if b c.args.id) (c.step_last-is_led.ensures.led ∙ ap (λ n. is_led path n here last) same))
    c.in_ok-wait_beside.ensures inner)
    c.wait_below.ensures
