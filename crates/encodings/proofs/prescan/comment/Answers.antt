use Rattle.std.proofs.Common.{◌∙◌, ap}
use Rattle.encodings.specs.Prescan.{next_byte}
use Rattle.encodings.proofs.prescan.comment.Goals as goal

pub returns : goal.returns
returns c = c.next_byte.ensures ∙ ap next_byte c.comment_end.ensures
