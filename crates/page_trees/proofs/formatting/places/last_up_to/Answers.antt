use Rattle.std.proofs.Common.{◌≡◌, ℕ, List, [], rules}
use Rattle.page_trees.specs.KeyPlaces.{IsTopUpTo, NoneUpTo}
use Rattle.page_trees.proofs.RankLemmas.{IsRange, none_up_to, range_at, top_up_to}
use Rattle.page_trees.proofs.formatting.places.last_up_to.Goals as goal

pub returns-in_err-found : goal.returns-in_err-found
returns-in_err-found c =
    rw c.from_residual.ensures (none_up_to c.args.ranks.now c.args.key c.args.bound c.range.result
    (range_at c.args.ranks.now _ _ (c.args.key, 0) (c.args.key, c.args.bound) c.range.result c.new.ensures.start c.new.ensures.end
    (c.range.ensures.in_range c.new.ensures.exhausted)) c.in_err-found.ensures.steps.0)

pub returns : goal.returns
returns c =
    top_up_to c.args.ranks.now c.args.key c.args.bound c.range.result
    (range_at c.args.ranks.now _ _ (c.args.key, 0) (c.args.key, c.args.bound) c.range.result c.new.ensures.start c.new.ensures.end
    (c.range.ensures.in_range c.new.ensures.exhausted)) c.in_ok-found.found.now c.next_back.new.self c.in_ok-found.ensures.steps
