-- What faults say of a text.
use Rattle.std.proofs.Common.{◌≡◌, ℕ, List, [], ◌∷◌, ◌++◌, sym, ap, ◌∙◌, append_assoc}
use Rattle.std.specs.Prelude.{codes}
use Rattle.dom_nodes.specs.declared.fault.MarkupFaultKind.{MarkupFaultKind}
use Rattle.dom_nodes.specs.declared.fault.MarkupFaultKind.TheVariants.{BadTag, MismatchedEnd, StrayEnd, SlashOnOpen, BadComment, BadDeclaration, MisplacedDoctype, Instruction, TooManyNodes, Memory}
use Rattle.dom_markup.specs.Names.{Mode, markup, text_of, raw_text_of}
use Rattle.dom_markup.specs.Markup.{Item, Begins, SpellsItemsUpTo, Spells, mode_after, mode_past}
use Rattle.dom_markup.specs.Markup.Item.{end_tag}
use Rattle.dom_markup.specs.ValueTrees.{ValueTrees}
use Rattle.dom_markup.specs.FaultKinds.{Holds, HoldsMark, IsLimitFault, IsNestingFault, IsTokenFault}
use Rattle.dom_markup.specs.Refusals.{BeginsNothingAt, EndsNothing, IsFaultAt, Refused, Cause, StopsBefore}
use Rattle.dom_markup.proofs.grammar.Items.{Begins-suffix}
use Rattle.dom_markup.proofs.grammar.Whole.{items_left, nothing_left}

-- ---- faults of tokens

pub token_fault : (mode : Mode) (left : List ℕ) (kind : MarkupFaultKind) → Cause mode left kind → IsTokenFault kind
token_fault mode left MismatchedEnd s = s
token_fault mode left StrayEnd s = s
token_fault mode left MisplacedDoctype s = s
token_fault mode left TooManyNodes s = s
token_fault mode left Memory s = s
token_fault mode left kind s = tt

-- a text that is items up to its end has no place where nothing begins
whole_items : (text : List ℕ) (at : ℕ) (kind : MarkupFaultKind) (items : List Item) → SpellsItemsUpTo markup text items [] → BeginsNothingAt text at kind → ⊥
whole_items text at kind items whole none =
    let left = items_left markup text none.items none.left items none.spelled whole in
    nothing_left (mode_past markup none.items) none.left left.0 none.some none.nothing left.2

pub nesting_fault : (text : List ℕ) (at : ℕ) (kind : MarkupFaultKind) (items : List Item) → SpellsItemsUpTo markup text items [] → IsFaultAt text at kind → IsNestingFault kind
nesting_fault text at BadTag items whole fault = whole_items text at BadTag items whole fault
nesting_fault text at SlashOnOpen items whole fault = whole_items text at SlashOnOpen items whole fault
nesting_fault text at BadComment items whole fault = whole_items text at BadComment items whole fault
nesting_fault text at BadDeclaration items whole fault = whole_items text at BadDeclaration items whole fault
nesting_fault text at Instruction items whole fault = whole_items text at Instruction items whole fault
nesting_fault text at kind items whole fault = tt

-- ---- marks

-- what is left behind some items ends the text
suffix_of : (mode : Mode) (text : List ℕ) (items : List Item) (rest : List ℕ) → SpellsItemsUpTo mode text items rest → (front : List ℕ) × (text ≡ front ++ rest)
suffix_of mode text [] rest s = ([], s)
suffix_of mode text (item ∷ items) rest s =
    let first = Begins-suffix mode text item s.0 s.1 in
    let more = suffix_of (mode_after mode item) s.0 items rest s.2 in
    (first.0 ++ more.0, first.1 ∙ (ap (λ t. first.0 ++ t) more.1 ∙ sym (append_assoc first.0 more.0 rest)))

mark_behind : (mark text front left more : List ℕ) → text ≡ front ++ left → left ≡ mark ++ more → Holds mark text
mark_behind mark text front left more whole is = (front, more, whole ∙ ap (λ t. front ++ t) is)

-- an end tag begins with `</`
end_mark : (mode : Mode) (left name rest : List ℕ) → Begins mode left (end_tag name) rest → (more : List ℕ) × (left ≡ codes "</" ++ more)
end_mark markup left name rest b = (b.written ++ (b.space ++ (62 ∷ rest)), b.is)
end_mark (text_of other) left name rest b = (b.1.written ++ (b.1.space ++ (62 ∷ rest)), b.1.is)
end_mark (raw_text_of other) left name rest b = (b.1.written ++ (b.1.space ++ (62 ∷ rest)), b.1.is)

stray_mark : (text : List ℕ) (at : ℕ) → (stops : StopsBefore text at StrayEnd) → Holds (codes "</") text
stray_mark text at stops = by_item stops.item stops.begins stops.cause
  where
    front : (f : List ℕ) × (text ≡ f ++ stops.left)
    front = suffix_of markup text stops.items stops.left stops.spelled

    by_item : (item : Item) → Begins (mode_past markup stops.items) stops.left item stops.rest → EndsNothing stops.items item → Holds (codes "</") text
    by_item (end_tag name) b cause =
        let mark = end_mark (mode_past markup stops.items) stops.left name stops.rest b in
        mark_behind (codes "</") text front.0 stops.left mark.0 front.1 mark.1
    by_item item b cause = absurd cause

pub fault_mark : (text : List ℕ) (at : ℕ) (kind : MarkupFaultKind) → IsFaultAt text at kind → HoldsMark text kind
fault_mark text at StrayEnd fault = stray_mark text at fault
fault_mark text at BadComment fault =
    let front = suffix_of markup text fault.items fault.left fault.spelled in
    mark_behind (codes "<!--") text front.0 fault.left fault.cause.1 front.1 fault.cause.2
fault_mark text at Instruction fault =
    let front = suffix_of markup text fault.items fault.left fault.spelled in
    mark_behind (codes "<?") text front.0 fault.left fault.cause.1 front.1 fault.cause.2
fault_mark text at kind fault = tt

-- ---- limits

-- a text that spells trees is refused for a limit alone
pub limit_fault : (text : List ℕ) (trees : ValueTrees) (kind : MarkupFaultKind) → Spells text trees → Refused text kind → IsLimitFault kind
limit_fault text trees TooManyNodes spells refused = tt
limit_fault text trees Memory spells refused = tt
limit_fault text trees kind spells refused = refused trees spells
