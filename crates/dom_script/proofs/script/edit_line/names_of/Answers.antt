use Rattle.std.proofs.Common.{lit<, Ok}
use Rattle.std.proofs.lemmas.Iterator.Consumers.{map_from_collect}
use Rattle.std.proofs.lemmas.Iterator.Splits.{YieldsList-from_str_split}
use Rattle.dom_script.proofs.script.edit_line.names_of.Goals as goal

pub returns : goal.returns
returns c =
    let s = c.split.ensures in
    map_from_collect {E = ⊥} (Ok c.in_ok-collect.field-0) c.in_ok-collect.ensures.ran (YieldsList-from_str_split 32 c.args.text.now (lit< tt) s.text s.has_more s.pattern)
