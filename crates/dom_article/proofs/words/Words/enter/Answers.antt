use Rattle.std.proofs.Common.{◌∙◌, ◌+◌, List, ℕ, ap, map, set}
use Rattle.dom_article.specs.Words.{pair_at, table}
use Rattle.dom_article.proofs.WordLemmas.{index_done}
use Rattle.dom_article.proofs.words.Words.enter.Goals as goal

pub returns : goal.returns
returns c = index_done (map pair_at table) c.args.self.now.starts.items c.args.self.now.ends.items _ _ c.args.at c.args.pair c.requires.is c.requires.pair c.requires.index
    c.begin.ensures.starts (c.set_number.ensures ∙ ap (λ (ks : List ℕ). set ks c.args.pair (c.args.at + 1)) c.begin.ensures.ends)
