use Rattle.std.proofs.Common.{List, ◌∙◌, ◌-◌, ap, map}
use Rattle.dom_article.specs.Words.{table}
use Rattle.dom_article.proofs.FoldLemmas.{TableWord, entry}
use Rattle.dom_article.proofs.WordLemmas.{part_mapped}
use Rattle.dom_article.proofs.words.words_between.Goals as goal

pub returns : goal.returns
unfolding table
returns c = ap (λ (words : List TableWord). map entry words) c.part.ensures ∙ part_mapped entry _ c.args.start (c.args.end - c.args.start)
