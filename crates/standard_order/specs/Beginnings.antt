-- Where a text begins: the state in which the parser is before it.
use Rattle.std.specs.Prelude.{Bool}
use Rattle.standard_tokens.specs.States.{Data, State}
use Rattle.standard_trees.specs.Building.{Building, Surroundings, fragment_start, start}
use Rattle.standard_trees.specs.Parsing.{first_state}

-- the text is a page (13.2), or a fragment in those surroundings (13.4); the flag says whether scripting is enabled
pub data Beginning : Type 0 where
  OfPage : Bool → Beginning
  OfFragment : Bool → Surroundings → Beginning

-- tree construction before the first token
abbrev pub first_building : Beginning → Building
first_building (OfPage scripting) = start scripting
first_building (OfFragment scripting around) = fragment_start scripting around

-- the state of the tokenizer before the first character
abbrev pub first_state_of : Beginning → State
first_state_of (OfPage scripting) = Data
first_state_of (OfFragment scripting around) = first_state scripting around
