use Rattle.std.proofs.Common.{◌-◌, length, arith}
use Rattle.dom_nodes.proofs.WordLemmas.{same_ends}
use Rattle.dom_nodes.proofs.words.is_same_word.Goals as goal

pub returns-then-length-le8 : goal.returns-then-length-le8
returns-then-length-le8 c =
    same_ends _ _ 4 (length c.args.other.now - 4) _ _ (omega arith) (omega arith) (omega arith)
    c.is_same_four.ensures c.is_same_four-then-length-le8.ensures
