use Rattle.dom_article.specs.Hidden.{frame_names}
use Rattle.dom_article.proofs.hidden.is_frame.Goals as goal

pub returns : goal.returns
unfolding frame_names
returns c = c.is_one_of.ensures
