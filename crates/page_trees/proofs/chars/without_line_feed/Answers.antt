use Rattle.std.proofs.Common.{arith}
use Rattle.std.proofs.lemmas.Str.Pattern.{strip_prefix_char}
use Rattle.page_trees.proofs.SpacesApart.{without_feed, without_other}
use Rattle.page_trees.proofs.chars.without_line_feed.Goals as goal

pub returns-in_default : goal.returns-in_default
returns-in_default c =
    without_other c.args.text.now (rw c.in_default.is at (strip_prefix_char 10 c.args.text.now c.strip_prefix.result c.strip_prefix.ensures.cases (omega arith)))

pub returns : goal.returns
returns c =
    without_feed c.args.text.now _ (rw c.in-Some.is at (strip_prefix_char 10 c.args.text.now c.strip_prefix.result c.strip_prefix.ensures.cases (omega arith)))
