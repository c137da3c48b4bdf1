use Rattle.std.proofs.Common.{◌∙◌, List, ap, not, ℕ}
use Rattle.page_trees.specs.CharacterSteps.{has_no_null}
use Rattle.page_trees.proofs.NullsFound.{is_found}
use Rattle.page_trees.proofs.chars.has_null.Goals as goal

pub returns : goal.returns
returns c =
    c.is_some.ensures ∙ is_found c.as_bytes.result.now c.memchr.result c.memchr.ensures ∙ ap (λ (bytes : List ℕ). not (has_no_null bytes)) c.as_bytes.ensures.value
