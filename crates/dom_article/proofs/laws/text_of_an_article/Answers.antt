use Rattle.dom_article.proofs.TextLemmas.{kept_is_part, kept_stands}
use Rattle.dom_article.proofs.laws.text_of_an_article.Goals as goal

pub returns : goal.returns
returns c = record { text = kept_is_part; nodes = kept_stands }
