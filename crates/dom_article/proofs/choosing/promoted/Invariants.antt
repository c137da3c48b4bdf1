use Rattle.std.proofs.Common.{◌≡◌}
use Rattle.dom_article.specs.Best.{score_at}
use Rattle.dom_article.specs.Chosen.{has_two_thirds, is_frame_at, last_inside, promoted}
use Rattle.dom_article.proofs.choosing.promoted.Given as goal

-- the ancestors that are left decide
abbrev pub invariant-loop-above : goal.invariant-loop-above
invariant-loop-above l = last_inside (is_frame_at l.page) (λ m. has_two_thirds l.top (score_at l.round m)) l.best l.above-iterator ≡ promoted l.page l.round l.fn.first
