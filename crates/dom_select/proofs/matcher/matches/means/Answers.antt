use Rattle.std.proofs.Common.{true≢false, sym}
use Rattle.dom_select.proofs.MeaningLemmas.{means_unknown}
use Rattle.dom_selectors.specs.ValuesAsTrees.{read_list}
use Rattle.dom_select.proofs.matcher.matches.means.Goals as goal

pub returns-in-None-clause-is : goal.returns-in-None-clause-is
returns-in-None-clause-is c =
    (λ e. absurd (true≢false (sym e)), λ m. absurd (means_unknown (read_list c.args.selectors.now) c.args.caches.now c.args.id (rw c.tree.ensures at c.in-None.ensures) m))
