use Rattle.std.proofs.Common.{◌≡◌, subst}
use Rattle.std.specs.List.{prefix_len}
use Rattle.std.specs.Str.{IsCharBoundary}
use Rattle.dom_selectors.specs.MiniLetters.{passes}
use Rattle.dom_selectors.proofs.MiniScanLemmas.{run_boundary}
use Rattle.dom_selectors.proofs.mini_selector.scan.split_run.Goals as goal

pub split_at-requires : goal.split_at-requires
split_at-requires c =
    let len : prefix_len (passes c.args.kind) c.args.text.now ≡ c.run_len.result = cc c.run_len.ensures in
    subst (IsCharBoundary c.args.text.now) len (run_boundary c.args.kind c.args.text.now c.utf8.text)
