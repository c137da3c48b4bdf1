-- What a place of the code stands for in the definition.
use Rattle.encodings.specs.declared.prescan.Place.{Place}
use Rattle.encodings.specs.declared.prescan.Place.TheVariants.{Declares, Ends, GoesOn}
use Rattle.encodings.specs.Prescan.{Step}
use Rattle.encodings.specs.Prescan.Step.{declares, ends, goes_on}

abbrev pub step_of : Place → Step
step_of (Declares encoding) = declares encoding
step_of (GoesOn rest) = goes_on rest.now
step_of Ends = ends
