use Rattle.std.proofs.Common.{◌∙◌, ◌++◌, ◌-◌, sym, ap, refl, length, take, drop}
use Rattle.std.proofs.lemmas.List.{take_rest, with_items_is}
use Rattle.dom_mini.specs.PathFlags.{flags_before, flags_below, flags_beside, last_flags}
use Rattle.dom_mini.proofs.SearchLemmas.{as_many_below, as_many_kept, as_many_last, rest_put}
use Rattle.dom_mini.proofs.mini_selector.search.PathSearch.step_last.Goals as goal

pub returns-clause-stepped : goal.returns-clause-stepped
returns-clause-stepped c =
    let path = c.args.path.now in
    let old = c.args.self.now in
    let fs = old.flags.items in
    let node = c.args.node.now in
    let here = c.args.is_start in
    let lent = c.deref_mut.result.now in
    let steps = length path in
    let top = c.len.ensures ∙ old.flags.ok.0 in
    let last_is = take_rest lent (c.len.result - steps) ∙ ap (λ n. drop (n - steps) lent) top ∙ ap (drop (length fs - steps)) c.deref_mut.ensures.value in
    let beside = rest_put lent c.step_flags.new.flags (c.len.result - steps) ∙ ap (λ n. take (n - steps) lent ++ c.step_flags.new.flags) top ∙ ap (λ xs. take (length fs - steps) xs ++ c.step_flags.new.flags) c.deref_mut.ensures.value
    ∙ ap (λ xs. flags_before path fs ++ xs) (c.step_flags.ensures.beside ∙ ap (flags_beside path node here) last_is) in
    let below = c.step_flags.ensures.below ∙ ap (flags_below path node here) last_is in
    record {
      beside = with_items_is old.flags _ (ap length beside ∙ as_many_kept path node here fs c.requires.room ∙ sym old.flags.ok.0) ∙ beside;
      below = with_items_is old.below _ (ap length below ∙ as_many_below path node here (last_flags path fs) (as_many_last path fs c.requires.room) ∙ sym c.requires.below ∙ sym old.below.ok.0) ∙ below;
      found = refl;
      pending = refl;
    }
