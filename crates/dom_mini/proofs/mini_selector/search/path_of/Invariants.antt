use Rattle.std.proofs.Common.{◌≡◌, map, take}
use Rattle.dom_selectors.specs.MiniSyntax.{named, texts_of}
use Rattle.dom_mini.proofs.mini_selector.search.path_of.Given as goal

abbrev pub invariant-loop-name : goal.invariant-loop-name
invariant-loop-name l = l.path.items ≡ map named (texts_of (take l.name-index l.names))
