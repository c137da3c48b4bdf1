use Rattle.std.proofs.Common.{◌∙◌, [], ap, string_bytes}
use Rattle.std.proofs.lemmas.Result.{err_from_is_err_and}
use Rattle.dom_clean.specs.Cleaned.{cleaned_below}
use Rattle.dom_clean.specs.Policies.{policy_of}
use Rattle.dom_clean.specs.Written.{text_of}
use Rattle.dom_markup.proofs.html.WritingLemmas.{nothing-begun, nothing-written}
use Rattle.dom_clean.proofs.EntryTexts.{written-all, written-beginning, written-entry, written-fault}
use Rattle.dom_clean.proofs.Writing.{starts}
use Rattle.dom_clean.proofs.streaming.write_forest.Goals as goal

pub loop-entry-init : goal.loop-entry-init
loop-entry-init g c =
    let forest = c.args.tree.now in
    let P = policy_of c.args.lists.now in
    let start = starts P forest (c.trees_of_a_forest.ensures forest c.requires) (c.lines_of_a_forest.ensures forest c.requires) c.first_below-first.result c.root_id-root.result c.in_body.result c.new-ahead.result c.push_row.new.ahead
    c.first_below-first.ensures c.in_body.ensures c.new-ahead.ensures c.in_ok-push_row.ensures in
    record {
      front = [];
      written = nothing-written _;
      emptied = c.new.ensures.bytes;
      known = start.0;
      whole = start.1 ∙ ap (λ n. text_of (cleaned_below P forest n)) c.root_id-root.ensures;
    }

pub loop-entry-preserved : goal.loop-entry-preserved
loop-entry-preserved g c =
    let forest = c.args.tree.now in
    let P = policy_of c.args.lists.now in
    written-entry P forest (text_of (cleaned_below P forest 0)) (g.W.Write.contents c.args.w.now) (g.W.Write.contents c.loop-entry.w) (g.W.Write.contents c.write_out.new.w)
    (string_bytes c.loop-entry.output.text) (string_bytes c.write_entry.new.output.text) (string_bytes c.write_out.new.output.text)
    c.loop-entry.output.in_front c.write_entry.new.output.in_front c.write_out.new.output.in_front c.in-Some.entry c.loop-entry.ahead c.pop.new.self c.write_entry.new.ahead
    c.in-Some.ensures c.loop-entry.invariant c.in_ok-write_entry.ensures c.in_ok-write_out.ensures.written c.in_ok-write_out.ensures.emptied c.write_out.ensures.front

pub returns-in_err-push_row : goal.returns-in_err-push_row
returns-in_err-push_row g c =
    let p = err_from_is_err_and c.from_residual.result c.from_residual.ensures.1 in
    rw p.1 (nothing-begun _ _)

pub returns-in_err-write_entry : goal.returns-in_err-write_entry
returns-in_err-write_entry g c =
    let P = policy_of c.args.lists.now in
    let p = err_from_is_err_and c.from_residual-in_err-write_entry.result c.from_residual-in_err-write_entry.ensures.1 in
    rw p.1 (written-beginning P c.args.tree.now _ _ _ _ _ _ c.loop-entry.invariant)

pub returns-in_err-write_out : goal.returns-in_err-write_out
returns-in_err-write_out g c =
    let forest = c.args.tree.now in
    let P = policy_of c.args.lists.now in
    let p = err_from_is_err_and c.from_residual-in_err-write_out.result c.from_residual-in_err-write_out.ensures.1 in
    rw p.1 (written-fault P forest _ _ _ _ _ _ _ _ c.in-Some.entry c.loop-entry.ahead c.pop.new.self c.write_entry.new.ahead c.in-Some.ensures c.loop-entry.invariant c.in_ok-write_entry.ensures c.in_err-write_out.ensures.written)

pub returns : goal.returns
returns g c =
    let P = policy_of c.args.lists.now in
    written-all P c.args.tree.now _ _ _ _ _ c.loop-entry.ahead c.in_default.ensures c.loop-entry.invariant
