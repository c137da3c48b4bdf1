use Rattle.std.proofs.Common.{◌≡◌, length}
use Rattle.std.specs.Str.{IsUtf8}
use Rattle.page_trees.specs.Constructs.{RemembersLimits}
use Rattle.page_trees.specs.PagesRead.{ReadsSome}
use Rattle.page_trees.proofs.reading.PageReader.read.Given as goal

-- what is read so far
abbrev pub invariant-loop-rest : goal.invariant-loop-rest
invariant-loop-rest l = record {
  options : l.self.options ≡ l.fn.self.options;
  limits : RemembersLimits l.fn.self.builder l.self.builder;
  reads : ReadsSome l.fn.piece l.rest l.fn.self l.self;
  utf8 : IsUtf8 l.rest;
}

abbrev pub decreases-loop-rest : goal.decreases-loop-rest
decreases-loop-rest l = length l.rest
