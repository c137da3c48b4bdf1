use Rattle.std.proofs.Common.{◌≡◌, subst}
use Rattle.std.specs.List.{prefix_len}
use Rattle.std.specs.Str.{IsCharBoundary}
use Rattle.dom_selectors.specs.MiniLetters.{isnt}
use Rattle.dom_selectors.proofs.MiniScanLemmas.{stop_boundary}
use Rattle.dom_selectors.proofs.mini_selector.scan.split_before.Goals as goal

pub split_at-requires : goal.split_at-requires
split_at-requires c =
    let len : prefix_len (isnt c.args.stop) c.args.text.now ≡ c.len_before.result = cc c.len_before.ensures in
    subst (IsCharBoundary c.args.text.now) len (stop_boundary c.args.stop c.args.text.now c.requires)
