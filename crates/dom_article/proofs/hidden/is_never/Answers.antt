use Rattle.std.proofs.Common.{◌∙◌, ap}
use Rattle.dom_nodes.specs.Words.{is_among}
use Rattle.dom_article.specs.Hidden.{never_names}
use Rattle.dom_article.proofs.LengthLemmas.{among_of_length}
use Rattle.dom_article.proofs.hidden.is_never.Goals as goal

pub returns : goal.returns
returns c =
    let name = c.args.name.now in
    c.is_one_of.ensures ∙ (ap (is_among name) c.never_of_length.ensures ∙ among_of_length name never_names)
