use Rattle.std.proofs.Common.{◌≡◌}
use Rattle.dom_article.specs.Best.{is_gone}
use Rattle.dom_article.proofs.SumLemmas.{SummedBehind}
use Rattle.dom_article.proofs.rounds.Round.add_up_all.Given as goal

-- the nodes behind those that are left were added up
abbrev pub invariant-loop-id : goal.invariant-loop-id
invariant-loop-id l =
    (l.self.rules ≡ l.fn.self.rules) × (l.self.gone.items ≡ l.fn.self.gone.items) ×
    SummedBehind l.page l.fn.self.rules (is_gone l.fn.self) l.self.sums.items l.id-iterator.iter.rest.now
