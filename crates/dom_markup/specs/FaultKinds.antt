-- The kinds of parse faults: of single tokens, of nesting, and of limits; and which characters some of them need.
use Rattle.std.specs.Prelude.{◌≡◌, ℕ, List, ◌++◌, codes}
use Rattle.dom_nodes.specs.declared.fault.MarkupFaultKind.{MarkupFaultKind}
use Rattle.dom_nodes.specs.declared.fault.MarkupFaultKind.TheVariants.{BadTag, Unclosed, MismatchedEnd, StrayEnd, SlashOnOpen, BadComment, BadDeclaration, MisplacedDoctype, Instruction, TooManyNodes, Memory}

-- the fault is that no token starts at some byte
abbrev pub IsTokenFault : MarkupFaultKind → Type 0
IsTokenFault BadTag = Unit {0}
IsTokenFault Unclosed = Unit {0}
IsTokenFault SlashOnOpen = Unit {0}
IsTokenFault BadComment = Unit {0}
IsTokenFault BadDeclaration = Unit {0}
IsTokenFault Instruction = Unit {0}
IsTokenFault _ = ⊥

-- the fault is a limit: too many nodes, or no memory
abbrev pub IsLimitFault : MarkupFaultKind → Type 0
IsLimitFault TooManyNodes = Unit {0}
IsLimitFault Memory = Unit {0}
IsLimitFault _ = ⊥

-- the fault is that tokens do not nest as a tree, or a limit
abbrev pub IsNestingFault : MarkupFaultKind → Type 0
IsNestingFault Unclosed = Unit {0}
IsNestingFault MismatchedEnd = Unit {0}
IsNestingFault StrayEnd = Unit {0}
IsNestingFault MisplacedDoctype = Unit {0}
IsNestingFault kind = IsLimitFault kind

-- the text contains the mark
abbrev pub Holds : List ℕ → List ℕ → Type 0
Holds mark text = (before after : List ℕ) × (text ≡ before ++ (mark ++ after))

-- a text with a fault of this kind contains these characters
abbrev pub HoldsMark : List ℕ → MarkupFaultKind → Type 0
HoldsMark text BadComment = Holds (codes "<!--") text
HoldsMark text Instruction = Holds (codes "<?") text
HoldsMark text StrayEnd = Holds (codes "</") text
HoldsMark text _ = Unit {0}
