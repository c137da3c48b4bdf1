-- The trees of the examples, computed by the prover; made by tests/standard/trees/definition.py.
use Rattle.std.specs.Prelude.{refl}
use Rattle.standard_tokens.specs.Machine.{longest_name, step, taken as taken_entry, value_of}
use Rattle.standard_tokens.specs.NamedReferences.{named_references}
use Rattle.standard_tokens.specs.Table.{entries}
use Rattle.standard_trees.specs.QuirksTexts.{
  quirks_public_is,
  quirks_system_is,
  quirks_public_begins,
  either_quirks_public_begins,
  limited_quirks_public_begins,
}
use Rattle.standard_trees.specs.TreeRules.{rules}
use Rattle.standard_trees.specs.Building.{perform, run, taken, tree_step}
use Rattle.standard_trees.specs.Parsing.{parsed}
use Rattle.standard_trees.specs.Examples.{PagesAreParsed}

pub pages_are_parsed : PagesAreParsed
unfolding longest_name step taken_entry value_of named_references entries quirks_public_is quirks_system_is quirks_public_begins
    either_quirks_public_begins limited_quirks_public_begins rules perform run taken tree_step parsed
pages_are_parsed = record {
  page1 = refl;
  page2 = refl;
  page3 = refl;
  page4 = refl;
  page5 = refl;
  page6 = refl;
  page7 = refl;
  page8 = refl;
  page9 = refl;
  page10 = refl;
  page11 = refl;
  page12 = refl;
  page13 = refl;
  page14 = refl;
  page15 = refl;
  page16 = refl;
  page17 = refl;
  page18 = refl;
  page19 = refl;
  page20 = refl;
  page21 = refl;
  page22 = refl;
  page23 = refl;
  page24 = refl;
  page25 = refl;
  page26 = refl;
  page27 = refl;
  page28 = refl;
  page29 = refl;
  page30 = refl;
  page31 = refl;
  page32 = refl;
  page33 = refl;
  page34 = refl;
  page35 = refl;
  page36 = refl;
  page37 = refl;
  page38 = refl;
  page39 = refl;
  page40 = refl;
  page41 = refl;
  page42 = refl;
  page43 = refl;
  page44 = refl;
  page45 = refl;
  page46 = refl;
  page47 = refl;
  page48 = refl;
  page49 = refl;
  page50 = refl;
  page51 = refl;
  page52 = refl;
  page53 = refl;
  page54 = refl;
  page55 = refl;
  page56 = refl;
  page57 = refl;
  page58 = refl;
  page59 = refl;
  page60 = refl;
  page61 = refl;
  page62 = refl;
  page63 = refl;
  page64 = refl;
  page65 = refl;
  page66 = refl;
  page67 = refl;
  page68 = refl;
  page69 = refl;
  page70 = refl;
  page71 = refl;
  page72 = refl;
  page73 = refl;
  page74 = refl;
  page75 = refl;
  page76 = refl;
  page77 = refl;
  page78 = refl;
  page79 = refl;
  page80 = refl;
  page81 = refl;
  page82 = refl;
  page83 = refl;
  page84 = refl;
  page85 = refl;
  page86 = refl;
  page87 = refl;
  page88 = refl;
  page89 = refl;
  page90 = refl;
  page91 = refl;
  page92 = refl;
  page93 = refl;
  page94 = refl;
  page95 = refl;
  page96 = refl;
  page97 = refl;
  page98 = refl;
  page99 = refl;
  page100 = refl;
  page101 = refl;
  page102 = refl;
  page103 = refl;
  page104 = refl;
  page105 = refl;
  page106 = refl;
  page107 = refl;
  page108 = refl;
  page109 = refl;
  page110 = refl;
  page111 = refl;
  page112 = refl;
  page113 = refl;
  page114 = refl;
  page115 = refl;
  page116 = refl;
  page117 = refl;
  page118 = refl;
  page119 = refl;
  page120 = refl;
  page121 = refl;
  page122 = refl;
  page123 = refl;
  page124 = refl;
  page125 = refl;
  page126 = refl;
  page127 = refl;
  page128 = refl;
  page129 = refl;
  page130 = refl;
  page131 = refl;
  page132 = refl;
  page133 = refl;
  page134 = refl;
  page135 = refl;
  page136 = refl;
}
