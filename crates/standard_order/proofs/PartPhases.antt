-- What is known of the parts of a page between two acts of a rule, and what each action makes of it; computed over the table of rules.
use Rattle.std.specs.Prelude.{◌≡◌, ◌&&◌, ◌||◌, ◌⊎◌, ℕ, zero, suc, Bool, true, false, not, List, [], ◌∷◌, ◌++◌, Option, None, Some, bytes_eq, codes, filter, length}
use Rattle.std.specs.List.{list_all, list_any}
use Rattle.std.specs.Option.{option_map_or}
use Rattle.standard_tokens.specs.Tokens.{AnEnd, Token}
use Rattle.standard_trees.specs.NameLists.{table_body_context, table_context, table_row_context}
use Rattle.standard_trees.specs.RuleWords.{Act, Action, AdjustForeignAttributes, AdjustMathmlAttributes, AdjustSvgAttributes, AdjustSvgName, AllImpliedEndTags}
use Rattle.standard_trees.specs.RuleWords.{AfterAfterFrameset, AfterFrameset, AfterHead, AnyOtherEndTag, Anything, BeforeHead, ClearListToMarker, CurrentNode, EndOfFile}
use Rattle.standard_trees.specs.RuleWords.{AddToPending, FosterOff, FosterOn, FramesetNotOk, InBody, InFrameset, InHead, InHeadNoscript, InRow, InScope, InTable, InTableBody}
use Rattle.standard_trees.specs.RuleWords.{InTableText, InTemplate, InsertCharacter, InsertComment, InsertCommentInDocument, InsertElement, InsertMathmlElement, InsertNamed}
use Rattle.standard_trees.specs.RuleWords.{InsertPending, InsertReplacement, InsertSvgElement, KeepMode, ListElement, ListMarker, MergeAttributesIntoHtml}
use Rattle.standard_trees.specs.RuleWords.{Mode, Names, Own, Pattern, Pop, PopForeignElements, PopTemplateMode, PopToTopmost, PopUntil, PopUntilOwnInAnyCase, PopUpTo}
use Rattle.standard_trees.specs.RuleWords.{PushTemplateMode, ReconstructFormatting, RemoveBody, Reprocess, ResetMode, Rule, Scope, ScopeKind, SecondElement}
use Rattle.standard_trees.specs.RuleWords.{SetFormPointer, SetHeadPointer, SkipNextLineFeed, Stop, StartTagOf, SwitchBack, SwitchTo, TableScope, TemplateModeSet, TemplateOpen}
use Rattle.standard_trees.specs.RuleWords.{Test, Text, These, TokenizerTo, Use, UseCurrentMode, UseForEachPending, does, goes, is, isnt, rule}
use Rattle.standard_trees.specs.GrowingTree.{GrowingTree, current, is_among, is_one, popped_until, second, topmost}
use Rattle.standard_trees.specs.Building.{Building}
use Rattle.standard_order.proofs.GoodTrees.{apart}
use Rattle.standard_order.proofs.StandingStacks.{cells}
use Rattle.standard_order.proofs.Levels.{Any, Before, Behind, End, EndBut, Exact, Fine, Foreign, Frames, In, Info, Late, Level, Never, Of, Opened, Prior, Scoped, Start, ends}
use Rattle.standard_order.proofs.Levels.{has_all, heads, info_after, info_of, is_after_head, is_carried, is_end_info, is_framed, is_in, is_inside_level, is_pending, is_table_text}
use Rattle.standard_order.proofs.Levels.{end_names, is_tabled, may_use, names_among, next_of, own_apart, own_within, prior_facts, prior_of, ruled_out, start_names, starts_one}
use Rattle.standard_order.proofs.Levels.{with_facts}
use Rattle.standard_order.proofs.NodeTags.{BodyC, CaptionC, CellC, Cls, Entry, GroupC, RowC, TableC, TemplateC, class_at, class_of, classes, name_class, tags}
use Rattle.standard_order.proofs.PartKids.{Emptied, is_body}
use Rattle.standard_order.proofs.Chains.{Site, at_most, first, has_body, is_plain, is_table, is_template, on}
use Rattle.standard_order.proofs.PartTrees.{In as InTree, Nodes, cls}
use Rattle.standard_order.proofs.PartTables.{is_opened, same_inner}
use Rattle.standard_order.proofs.PartRows.{is_bound}
use Rattle.standard_order.proofs.PartScopes.{home, is_cell_class}
use Rattle.standard_order.proofs.PartPops.{is_wide}
use Rattle.standard_order.proofs.PartAdoption.{OtherName}
use Rattle.standard_order.proofs.PartBegun.{Open, Plainly}
use Rattle.standard_order.proofs.PartStates.{Base, EarlyAt, FramedAt, Headless, OnHead, OnHtml}
use Rattle.standard_order.proofs.PartSteps.{is_ordinary, names_plain, odd_names, plain_names}
use Rattle.standard_order.proofs.PartTemplates.{Closing}

-- ---- where a turn may begin

abbrev pub Few : Site → Building → Type 0
Few c b = at_most c.templates (length b.template_modes) ≡ true

-- in a mode of the body
abbrev pub BodyAt : Mode → ℕ → Building → Type 0
BodyAt mode r b = (c : Site) × InTree r c b.tree × (home mode c.inner ≡ true) × Few c b

-- in "text", with that original insertion mode: the current node is an ordinary element
abbrev pub TextAt : Mode → ℕ → Building → Type 0
TextAt InHead r b = EarlyAt r OnHead 1 b.tree
TextAt InHeadNoscript r b = EarlyAt r OnHead 2 b.tree
TextAt AfterHead r b = EarlyAt r OnHtml 1 b.tree
TextAt InFrameset r b = FramedAt r b.tree
TextAt AfterFrameset r b = FramedAt r b.tree
TextAt AfterAfterFrameset r b = FramedAt r b.tree
TextAt mode r b =
    (c : Site) × InTree r c b.tree × (home mode c.inner ≡ true) × Few c b × (is_plain (class_at (tags b.tree.nodes) (current b.tree)) ≡ true)

-- what is known of the parts where a turn begins in that mode
abbrev pub HomeAt : Mode → ℕ → Building → Type 0
HomeAt BeforeHead r b = EarlyAt r Headless 0 b.tree
HomeAt InHead r b = EarlyAt r OnHead 0 b.tree
HomeAt InHeadNoscript r b = EarlyAt r OnHead 1 b.tree
HomeAt AfterHead r b = EarlyAt r OnHtml 0 b.tree
HomeAt InFrameset r b = FramedAt r b.tree
HomeAt AfterFrameset r b = FramedAt r b.tree
HomeAt AfterAfterFrameset r b = FramedAt r b.tree
HomeAt Text r b = TextAt b.original r b
HomeAt InTableText r b = BodyAt b.original r b
HomeAt mode r b = BodyAt mode r b

-- ---- phases

-- What is known of the innermost open element that isn't an ordinary one:
-- Told: the mode is one for it; Fitting: also, an end tag is none of such an element; Unknown: nothing;
-- ToldAmong: the mode is one for it, and it is one of these; Among: it is one of these.
pub data Range : Type 0 where
  Told Fitting Unknown : Range
  ToldAmong Among : List Cls → Range

-- What is known of the current node: nothing; it is an ordinary element; it is the innermost other element. Or the second element is `body`.
pub data Peak : Type 0 where
  NoPeak Ordinary Innermost BodySecond : Peak

-- Turning: a turn may begin;
-- Inner: in the body; if the first flag is true, the original insertion mode is the current one; if the second is, a body is open;
-- Outer: before the body, in this mode, with so many ordinary elements;
-- Framing: with framesets; if the first flag is true, the mode is one of framesets;
-- Texting, Tabling: in "text", in "in table text"; Returning: a turn may begin in the original mode;
-- Ending: once a template is popped, it is Ended: one is popped; and Shut: its mode is popped, too;
-- Opening: before a template is opened; if the flag is true, its mode is there; Lent: the mode of a template is popped;
-- Emptying: the body is removed; Cleared: then `html` alone is open.
pub data Phase : Type 0 where
  Turning Texting Tabling Returning Ending Ended Shut Lent Emptying Cleared : Phase
  Inner : Range → Peak → Bool → Bool → Phase
  Outer : Base → ℕ → Mode → Bool → Phase
  Framing : Bool → Bool → Phase
  Opening : Bool → Phase

abbrev pub has_class : List Cls → Cls → Bool
has_class cs c = list_any (λ d. same_inner d c) cs

abbrev pub inner_classes : List Cls
inner_classes = BodyC ∷ TemplateC ∷ TableC ∷ GroupC ∷ RowC ∷ CellC ∷ CaptionC ∷ []

abbrev pub classes_in : Range → List Cls
classes_in Told = inner_classes
classes_in Fitting = inner_classes
classes_in Unknown = inner_classes
classes_in (ToldAmong cs) = cs
classes_in (Among cs) = cs

-- an end tag, but for one of `body` or `template`, is none of an element of that class
abbrev pub Fits : Cls → Token → Type 0
Fits c (AnEnd name) = is_among name (codes "body" ∷ codes "template" ∷ []) ≡ false → OtherName name c
Fits c _ = Unit {0}

abbrev pub RangeIs : Range → Site → Building → Type 0
RangeIs Told c b = home b.mode c.inner ≡ true
RangeIs Fitting c b = (home b.mode c.inner ≡ true) × Fits c.inner b.token
RangeIs Unknown c b = Unit {0}
RangeIs (ToldAmong cs) c b = (home b.mode c.inner ≡ true) × (has_class cs c.inner ≡ true)
RangeIs (Among cs) c b = has_class cs c.inner ≡ true

abbrev pub PeakIs : Peak → Site → GrowingTree → Type 0
PeakIs NoPeak c t = Unit {0}
PeakIs Ordinary c t = is_plain (class_at (tags t.nodes) (current t)) ≡ true
PeakIs Innermost c t = first (cls t) ≡ c.inner
PeakIs BodySecond c t = option_map_or (is_one t (codes "body" ∷ [])) (second t.stack) false ≡ true

abbrev pub KeptIs : Bool → Building → Type 0
KeptIs kept b = kept ≡ true → b.original ≡ b.mode

abbrev pub SureIs : Bool → GrowingTree → Type 0
SureIs true t = has_body (cls t) ≡ true
SureIs false t = Unit {0}

abbrev pub InnerAt : ℕ → Range → Peak → Bool → Bool → Building → Type 0
InnerAt r range peak kept sure b =
    (c : Site) × InTree r c b.tree × RangeIs range c b × Few c b × PeakIs peak c b.tree × KeptIs kept b × SureIs sure b.tree

abbrev pub lent : Bool → ℕ → ℕ
lent true n = suc n
lent false n = n

-- a template may be opened
abbrev pub HostAt : Bool → ℕ → Building → Type 0
HostAt spare r b =
    ((c : Site) × InTree r c b.tree × (at_most (lent spare c.templates) (length b.template_modes) ≡ true))
    ⊎ (EarlyAt r OnHead 0 b.tree × (at_most (lent spare 0) (length b.template_modes) ≡ true))

-- another mode of the body is told; or the head is open; or `html` alone is
abbrev pub ShutAt : ℕ → Building → Type 0
ShutAt r b = ((c : Site) × InTree r c b.tree × Few c b) ⊎ (EarlyAt r OnHead 0 b.tree ⊎ EarlyAt r OnHtml 0 b.tree)

abbrev pub PhaseAt : ℕ → Phase → Building → Type 0
PhaseAt r Turning b = HomeAt b.mode r b
PhaseAt r Texting b = (b.mode ≡ Text) × TextAt b.original r b
PhaseAt r Tabling b = (b.mode ≡ InTableText) × BodyAt b.original r b
PhaseAt r Returning b = HomeAt b.original r b
PhaseAt r Ending b = (k : ℕ) × Closing r k (popped_until (codes "template" ∷ []) b.tree) × (at_most k (length b.template_modes) ≡ true)
PhaseAt r Ended b = (k : ℕ) × Closing r k b.tree × (at_most k (length b.template_modes) ≡ true)
PhaseAt r Shut b = ShutAt r b
PhaseAt r Lent b = (c : Site) × InTree r c b.tree × (c.inner ≡ TemplateC) × (at_most c.templates (suc (length b.template_modes)) ≡ true)
PhaseAt r Emptying b = Nodes r Emptied b.tree.nodes × (topmost b.tree.stack ≡ r) × Plainly b.tree
PhaseAt r Cleared b = Open r Emptied (r ∷ []) b.tree
PhaseAt r (Inner range peak kept sure) b = InnerAt r range peak kept sure b
PhaseAt r (Outer base k mode kept) b = EarlyAt r base k b.tree × (b.mode ≡ mode) × KeptIs kept b
PhaseAt r (Framing known kept) b = FramedAt r b.tree × (known ≡ true → is_framed b.mode ≡ true) × KeptIs kept b
PhaseAt r (Opening spare) b = (b.mode ≡ InTemplate) × HostAt spare r b

-- ---- what is done in the body

abbrev pub some_if : Bool → Phase → Option Phase
some_if true phase = Some phase
some_if false phase = None

abbrev pub is_told : Range → Bool
is_told Told = true
is_told Fitting = true
is_told (ToldAmong cs) = true
is_told Unknown = false
is_told (Among cs) = false

abbrev pub is_fitting : Range → Bool
is_fitting Fitting = true
is_fitting _ = false

-- of another token
abbrev pub unfitted : Range → Range
unfitted Fitting = Told
unfitted range = range

abbrev pub is_low : Peak → Bool
is_low Ordinary = true
is_low _ = false

abbrev pub is_innermost : Peak → Bool
is_innermost Innermost = true
is_innermost _ = false

abbrev pub is_second : Peak → Bool
is_second BodySecond = true
is_second _ = false

-- neither the open elements nor any nodes change
abbrev pub keeps_peak : Action → Bool
keeps_peak ListMarker = true
keeps_peak ListElement = true
keeps_peak SetFormPointer = true
keeps_peak FramesetNotOk = true
keeps_peak SkipNextLineFeed = true
keeps_peak (TokenizerTo state) = true
keeps_peak KeepMode = true
keeps_peak AdjustMathmlAttributes = true
keeps_peak AdjustSvgAttributes = true
keeps_peak AdjustForeignAttributes = true
keeps_peak AdjustSvgName = true
keeps_peak _ = false

abbrev pub peak_after : Peak → Action → Peak
peak_after peak action = elim (keeps_peak action) [ true ↦ peak | false ↦ NoPeak ]

abbrev pub kept_after : Bool → Action → List Test → Bool
kept_after kept KeepMode [] = true
kept_after kept FramesetNotOk tests = kept
kept_after kept _ tests = false

abbrev pub ordinary_next : Range → Peak → Bool → Info → Action → List Test → Option Phase
ordinary_next range peak kept info action tests =
    some_if (is_ordinary (is_low peak) info action) (Inner (unfitted range) (peak_after peak action) (kept_after kept action tests) false)

abbrev pub same_names : List (List ℕ) → List (List ℕ) → Bool
same_names [] [] = true
same_names (one ∷ some) (other ∷ others) = bytes_eq one other && same_names some others
same_names _ _ = false

-- the class of elements of these names
abbrev pub told_class : Info → Cls
told_class (Start (one ∷ more)) = elim (list_all (λ name. same_inner (name_class one) (name_class name)) (one ∷ more)) [
  | true ↦ name_class one
  | false ↦ Rattle.standard_order.proofs.NodeTags.NoC
]
told_class _ = Rattle.standard_order.proofs.NodeTags.NoC

abbrev pub may_open : Cls → Range → Peak → Bool
may_open d range peak =
    is_opened d && (not (is_template d) && (is_table d || (is_innermost peak && list_all (on d) (classes_in range))))

abbrev pub opened_next : Range → Peak → Info → Option Phase
opened_next range peak info = some_if (may_open (told_class info) range peak) (Inner (Among (told_class info ∷ [])) Innermost false false)

abbrev pub made_next : Range → Peak → Info → Option Phase
made_next range peak info = elim (own_apart odd_names info) [
  | true ↦ Some (Inner (unfitted range) Ordinary false false)
  | false ↦ opened_next range peak info
]

abbrev pub named_next : Range → Peak → List ℕ → Option Phase
named_next range peak name = elim (is_plain (name_class name)) [
  | true ↦ Some (Inner (unfitted range) Ordinary false false)
  | false ↦ opened_next range peak (Start (name ∷ []))
]

abbrev pub up_to_next : Range → List (List ℕ) → Option Phase
up_to_next range names =
    some_if ((same_names names table_context && list_all (home InTable) (classes_in range)) ||
    ((same_names names table_body_context && list_all (home InTableBody) (classes_in range)) ||
    (same_names names table_row_context && list_all (home InRow) (classes_in range)))) (Inner (unfitted range) Innermost false false)

-- the elements on which such a part of a table stands
abbrev pub under : Cls → List Cls
under c = filter (on c) inner_classes

abbrev pub part_of : List Cls → Cls
part_of (c ∷ []) = c
part_of _ = Rattle.standard_order.proofs.NodeTags.NoC

abbrev pub pop_next : Range → Peak → Bool → Info → Option Phase
pop_next range Ordinary kept info = Some (Inner (unfitted range) NoPeak false false)
pop_next range Innermost kept info = some_if (is_bound (part_of (classes_in range))) (Inner (Among (under (part_of (classes_in range)))) NoPeak false false)
pop_next range NoPeak kept info = None
pop_next range BodySecond kept info = None

abbrev pub pop_if_next : Range → Peak → List Test → Option Phase
pop_if_next range peak (is (CurrentNode (These names)) ∷ []) = some_if (plain_names names) (Inner (unfitted range) NoPeak false false)
pop_if_next range Ordinary tests = Some (Inner (unfitted range) NoPeak false false)
pop_if_next range _ tests = None

-- popped until such an element, which is in that scope
abbrev pub plainly_until : ScopeKind → Names → Info → Names → Bool
plainly_until kind wanted info names = names_among wanted names && (is_wide kind && names_plain info names)

abbrev pub these_are : Names → List (List ℕ) → Bool
these_are Own others = false
these_are (These names) others = same_names names others

abbrev pub tabular_until : Names → Info → Names → List (List ℕ) → Bool
tabular_until wanted info names others = names_among wanted names && these_are names others

abbrev pub own_cells : Names → Info → Names → Bool
own_cells Own info Own = own_within cells info
own_cells _ _ _ = false

abbrev pub scoped_until : Range → ScopeKind → Names → Info → Names → Option Phase
scoped_until range kind wanted info names = elim (plainly_until kind wanted info names) [
  | true ↦ Some (Inner (unfitted range) NoPeak false false)
  | false ↦ elim (is_wide kind) [
    | true ↦ None
    | false ↦ elim (tabular_until wanted info names (codes "table" ∷ [])) [
      | true ↦ Some (Inner Unknown NoPeak false false)
      | false ↦ elim (tabular_until wanted info names (codes "caption" ∷ [])) [
        | true ↦ Some (Inner (Among (under CaptionC)) NoPeak false false)
        | false ↦ some_if (own_cells wanted info names) (Inner (Among (under CellC)) NoPeak false false)
      ]
    ]
  ]
]

-- popped until the cell that is open
abbrev pub cell_until : Range → Names → Option Phase
cell_until range names =
    some_if (these_are names cells && list_all is_cell_class (classes_in range)) (Inner (Among (under CellC)) NoPeak false false)

abbrev pub or_else : Option Phase → Option Phase → Option Phase
or_else (Some phase) other = Some phase
or_else None other = other

abbrev pub until_next : Level → Range → Info → Names → Option Phase
until_next (Scoped place kind wanted) range info names = or_else (cell_until range names) (scoped_until range kind wanted info names)
until_next (Opened place) range info names = some_if (these_are names (codes "template" ∷ [])) Ended
until_next level range info names = cell_until range names

abbrev pub until_if_next : Range → Info → Names → List Test → Option Phase
until_if_next range info names (is (InScope kind wanted) ∷ []) = some_if (plainly_until kind wanted info names) (Inner (unfitted range) NoPeak false false)
until_if_next range info names tests = None

abbrev pub is_other_end : Range → Info → Bool
is_other_end range info = own_apart odd_names info || (is_fitting range && (is_end_info info && own_apart (codes "body" ∷ codes "template" ∷ []) info))

abbrev pub switched_next : Range → Peak → Bool → Mode → Option Phase
switched_next range peak kept InTemplate = Some (Opening false)
switched_next range peak kept Text = some_if (kept && (is_low peak && is_told range)) Turning
switched_next range peak kept mode = some_if (list_all (home mode) (classes_in range)) (Inner Told NoPeak false false)

abbrev pub is_opened_level : Level → Bool
is_opened_level (Opened place) = true
is_opened_level _ = false

abbrev pub is_foreign_level : Level → Bool
is_foreign_level (Foreign place) = true
is_foreign_level _ = false

abbrev pub inner_next : Level → Range → Peak → Bool → Info → Action → List Test → Option Phase
inner_next level range peak kept info (SwitchTo mode) [] = switched_next range peak kept mode
inner_next level range peak kept info InsertElement [] = made_next range peak info
inner_next level range peak kept info (InsertNamed name) [] = named_next range peak name
inner_next level range peak kept info InsertMathmlElement [] = Some (Inner (unfitted range) Ordinary false false)
inner_next level range peak kept info InsertSvgElement [] = Some (Inner (unfitted range) Ordinary false false)
inner_next level range peak kept info (PopUpTo (These names)) [] = up_to_next range names
inner_next level range peak kept info (PopUntil names) [] = until_next level range info names
inner_next level range peak kept info (PopUntil names) (test ∷ tests) = until_if_next range info names (test ∷ tests)
inner_next level range peak kept info Pop [] = pop_next range peak kept info
inner_next level range peak kept info Pop (test ∷ tests) = pop_if_next range peak (test ∷ tests)
inner_next level range peak kept info AnyOtherEndTag [] = some_if (is_other_end range info) (Inner (unfitted range) NoPeak false false)
inner_next level range peak kept info PopUntilOwnInAnyCase [] = some_if (is_foreign_level level) (Inner (unfitted range) NoPeak false false)
inner_next level range peak kept info ResetMode [] = Some Turning
inner_next level range peak kept info AllImpliedEndTags [] = some_if (is_opened_level level) Ending
inner_next level range peak kept info PopTemplateMode [] = some_if (list_all is_template (classes_in range)) Lent
inner_next level range peak kept info RemoveBody [] = some_if (is_second peak) Emptying
inner_next level range peak kept info action tests = ordinary_next range peak kept info action tests

-- ---- what is done before the body

abbrev pub outer_made : Base → ℕ → Mode → Info → Option Phase
outer_made Headless zero mode info = some_if (own_within (codes "head" ∷ []) info) (Outer OnHead 0 mode false)
outer_made OnHead k mode info = some_if (own_apart odd_names info) (Outer OnHead (suc k) mode false)
outer_made OnHtml zero mode info = elim (own_within (codes "body" ∷ []) info) [
  | true ↦ Some (Inner (Among (BodyC ∷ [])) NoPeak false false)
  | false ↦ some_if (own_within (codes "frameset" ∷ []) info) (Framing false false)
]
outer_made _ _ mode info = None

abbrev pub is_text_base : Mode → Base → ℕ → Bool
is_text_base InHead OnHead (suc zero) = true
is_text_base InHeadNoscript OnHead (suc (suc zero)) = true
is_text_base AfterHead OnHtml (suc zero) = true
is_text_base _ _ _ = false

abbrev pub outer_switched : Base → ℕ → Mode → Bool → Mode → Option Phase
outer_switched OnHead zero mode kept InTemplate = Some (Opening false)
outer_switched base k mode kept InTemplate = None
outer_switched base k mode kept Text = some_if (kept && is_text_base mode base k) Turning
outer_switched base k mode kept next = Some (Outer base k next false)

abbrev pub outer_popped : Base → ℕ → Mode → Option Phase
outer_popped base (suc k) mode = Some (Outer base k mode false)
outer_popped OnHead zero mode = Some (Outer OnHtml 0 mode false)
outer_popped _ zero mode = None

abbrev pub outer_next : Base → ℕ → Mode → Bool → Info → Action → List Test → Option Phase
outer_next base k mode kept info InsertCharacter [] = Some (Outer base k mode false)
outer_next base k mode kept info InsertComment [] = Some (Outer base k mode false)
outer_next base k mode kept info MergeAttributesIntoHtml [] = Some (Outer base k mode false)
outer_next base k mode kept info SetHeadPointer [] = Some (Outer base k mode false)
outer_next base k mode kept info ListMarker [] = Some (Outer base k mode false)
outer_next base k mode kept info FramesetNotOk [] = Some (Outer base k mode false)
outer_next base k mode kept info (TokenizerTo state) [] = Some (Outer base k mode false)
outer_next base k mode kept info KeepMode [] = Some (Outer base k mode true)
outer_next base k mode kept info InsertElement [] = outer_made base k mode info
outer_next base k mode kept info (InsertNamed name) [] = outer_made base k mode (Start (name ∷ []))
outer_next base k mode kept info Pop [] = outer_popped base k mode
outer_next base k mode kept info (SwitchTo next) [] = outer_switched base k mode kept next
outer_next base k mode kept info action tests = None

-- ---- what is done with framesets

abbrev pub unframed_names : List (List ℕ)
unframed_names = codes "html" ∷ codes "body" ∷ codes "table" ∷ codes "tbody" ∷ codes "tfoot" ∷ codes "thead" ∷ codes "tr" ∷ []

abbrev pub framed_turned : Bool → Bool → Mode → Option Phase
framed_turned known kept Text = some_if (known && kept) Turning
framed_turned known kept mode = some_if (is_framed mode) (Framing true false)

abbrev pub framed_switched : Bool → Bool → Mode → List Test → Option Phase
framed_switched known kept mode [] = framed_turned known kept mode
framed_switched known kept mode (test ∷ tests) = some_if (known && is_framed mode) (Framing true false)

abbrev pub framed_next : Bool → Bool → Info → Action → List Test → Option Phase
framed_next known kept info (SwitchTo mode) tests = framed_switched known kept mode tests
framed_next true kept info InsertCharacter [] = Some (Framing true false)
framed_next true kept info InsertReplacement [] = Some (Framing true false)
framed_next true kept info InsertComment [] = Some (Framing true false)
framed_next true kept info InsertCommentInDocument [] = Some (Framing true false)
framed_next true kept info MergeAttributesIntoHtml [] = Some (Framing true false)
framed_next true kept info InsertElement [] = some_if (own_apart unframed_names info) (Framing true false)
framed_next true kept info InsertMathmlElement [] = Some (Framing true false)
framed_next true kept info InsertSvgElement [] = Some (Framing true false)
framed_next true kept info Pop tests = Some (Framing true false)
framed_next true kept info PopForeignElements [] = Some (Framing true false)
framed_next true kept info PopUntilOwnInAnyCase [] = Some (Framing true false)
framed_next true kept info ReconstructFormatting [] = Some (Framing true false)
framed_next true kept info FramesetNotOk [] = Some (Framing true false)
framed_next true kept info (TokenizerTo state) [] = Some (Framing true false)
framed_next true kept info AdjustMathmlAttributes [] = Some (Framing true false)
framed_next true kept info AdjustSvgAttributes [] = Some (Framing true false)
framed_next true kept info AdjustForeignAttributes [] = Some (Framing true false)
framed_next true kept info AdjustSvgName [] = Some (Framing true false)
framed_next true kept info KeepMode [] = Some (Framing true true)
framed_next true kept info Stop [] = Some (Framing true false)
framed_next known kept info action tests = None

-- ---- actions

abbrev pub part_next : Level → Phase → Info → Action → List Test → Option Phase
part_next level (Inner range peak kept sure) info action tests = inner_next level range peak kept info action tests
part_next level (Outer base k mode kept) info action tests = outer_next base k mode kept info action tests
part_next level (Framing known kept) info action tests = framed_next known kept info action tests
part_next level Turning info FosterOff [] = Some Turning
part_next level Texting info InsertCharacter [] = Some Texting
part_next level Texting info Pop [] = Some Returning
part_next level Tabling info AddToPending [] = Some Tabling
part_next level Tabling info InsertPending [] = Some Tabling
part_next level Tabling info FosterOn [] = Some Tabling
part_next level Tabling info SwitchBack [] = Some Turning
part_next level Returning info FosterOff [] = Some Returning
part_next level Returning info SwitchBack [] = Some Turning
part_next level Ending info (PopUntil names) [] = some_if (these_are names (codes "template" ∷ [])) Ended
part_next level Ended info ClearListToMarker [] = Some Ended
part_next level Ended info PopTemplateMode [] = Some Shut
part_next level Shut info ResetMode [] = Some Turning
part_next level (Opening false) info (PushTemplateMode mode) [] = Some (Opening true)
part_next level (Opening true) info InsertElement [] = some_if (own_within (codes "template" ∷ []) info) Turning
part_next level Lent info (PushTemplateMode mode) [] = Some (Inner (Among (TemplateC ∷ [])) NoPeak false false)
part_next level Emptying info PopToTopmost [] = Some Cleared
part_next level Cleared info InsertElement [] = some_if (own_within (codes "frameset" ∷ []) info) (Framing false false)
part_next level phase info action tests = None

-- ---- where a token may go

abbrev pub is_home_of : Mode → Base → ℕ → Bool
is_home_of BeforeHead Headless zero = true
is_home_of InHead OnHead zero = true
is_home_of InHeadNoscript OnHead (suc zero) = true
is_home_of AfterHead OnHtml zero = true
is_home_of _ _ _ = false

-- a turn may begin there
abbrev pub part_ends : Phase → Bool
part_ends Turning = true
part_ends Texting = true
part_ends Tabling = true
part_ends (Inner range peak kept sure) = is_told range
part_ends (Outer base k mode kept) = is_home_of mode base k
part_ends (Framing known kept) = known
part_ends _ = false

-- the names of elements of these classes, but for `body` and `template`
abbrev pub names_for : List Cls → List Entry → List (List ℕ)
names_for cs [] = []
names_for cs (class_of names one ∷ more) = elim (has_class cs one && not (is_body one || is_template one)) [ true ↦ names ++ names_for cs more | false ↦ names_for cs more ]

abbrev pub fits_all : List Cls → Info → Bool
fits_all cs (End names) = apart names (names_for cs classes)
fits_all cs (EndBut names) = has_all (names_for cs classes) names
fits_all cs (Any starts ends_) = has_all (names_for cs classes) ends_
fits_all cs _ = true

-- start tags that have rules of their own in the modes below a table
abbrev pub table_starts : List (List ℕ)
table_starts = codes "caption" ∷ codes "col" ∷ codes "colgroup" ∷ codes "tbody" ∷ codes "tfoot" ∷ codes "thead" ∷ codes "td" ∷ codes "th" ∷ codes "tr" ∷ []

abbrev pub starts_no_part : Info → Bool
starts_no_part (Any starts ends_) = has_all table_starts starts
starts_no_part _ = false

abbrev pub may_use_part : Level → Phase → Info → Mode → Bool
may_use_part (Late (In cell) Of kept) (Inner range peak k sure) info InHead = is_told range
may_use_part (Late Frames Of kept) (Framing known k) info InHead = known
may_use_part (Late (Exact AfterHead) Of kept) (Outer OnHtml zero AfterHead k) info InHead = true
may_use_part (Late (Exact InHeadNoscript) Of kept) (Outer OnHead (suc zero) InHeadNoscript k) info InHead = true
may_use_part (Late place Of kept) (Inner range peak k sure) info InBody = is_in place && (is_told range && fits_all (classes_in range) info)
may_use_part Before (Outer Headless zero BeforeHead k) info InBody = true
may_use_part (Late (Exact InHead) Of kept) (Outer OnHead zero InHead k) info InBody = true
may_use_part (Late (Exact InHeadNoscript) Of kept) (Outer OnHead (suc zero) InHeadNoscript k) info InBody = true
may_use_part (Late (Exact AfterHead) Of kept) (Outer OnHtml zero AfterHead k) info InBody = true
may_use_part (Late Frames Of kept) (Framing known k) info InBody = known
may_use_part (Late (In false) Of kept) (Inner range peak k sure) info InTable = is_told range && starts_no_part info
may_use_part _ _ _ _ = false

abbrev pub is_tabling : Phase → Bool
is_tabling Tabling = true
is_tabling _ = false

abbrev pub acts_part : Level → Phase → Info → List Act → Bool
acts_part level phase info [] = part_ends phase
acts_part level phase info (does action tests ∷ acts) = elim (next_of level info action tests) [
  | Some new ↦ elim (part_next level phase info action tests) [ Some next ↦ acts_part new next (info_after action info) acts | None ↦ false ]
  | None ↦ false
]
acts_part level phase info (goes Reprocess ∷ acts) = (ends level && part_ends phase) && acts_part Fine Turning (Any [] []) acts
acts_part level phase info (goes UseCurrentMode ∷ acts) = (ends level && part_ends phase) && acts_part Fine Turning (Any [] []) acts
acts_part level phase info (goes (Use mode) ∷ acts) = (may_use level info mode && may_use_part level phase info mode) && acts_part Fine Turning (Any [] []) acts
acts_part level phase info (goes (UseForEachPending mode) ∷ acts) = (is_table_text level mode && is_tabling phase) && acts_part Behind Returning (Any [] []) acts

-- ---- rules

abbrev pub is_after_phase : Phase → Bool
is_after_phase (Outer OnHtml zero AfterHead kept) = true
is_after_phase _ = false

abbrev pub is_told_phase : Phase → Bool
is_told_phase (Inner range peak kept sure) = is_told range
is_told_phase _ = false

-- at the end of the page, the rules for "in template" are used
abbrev pub is_last_use : List Act → Bool
is_last_use (goes (Use InTemplate) ∷ []) = true
is_last_use _ = false

abbrev pub is_end : Pattern → Bool
is_end EndOfFile = true
is_end _ = false

abbrev pub may_end : Pattern → Bool
may_end EndOfFile = true
may_end Anything = true
may_end _ = false

abbrev pub are_none : List Act → Bool
are_none [] = true
are_none (act ∷ acts) = false

-- the last act says where the token goes, which no other act but one for pending characters does
abbrev pub goes_on : List Act → Bool
goes_on [] = false
goes_on (does action tests ∷ acts) = goes_on acts
goes_on (goes Reprocess ∷ acts) = are_none acts
goes_on (goes UseCurrentMode ∷ acts) = are_none acts
goes_on (goes (Use mode) ∷ acts) = are_none acts
goes_on (goes (UseForEachPending mode) ∷ acts) = goes_on acts

abbrev pub is_stop : List Act → Bool
is_stop (does Stop [] ∷ []) = true
is_stop _ = false

-- the page has its parts
abbrev pub is_whole_phase : Phase → Bool
is_whole_phase (Inner range peak kept sure) = sure || list_all is_body (classes_in range)
is_whole_phase (Framing known kept) = true
is_whole_phase _ = false

abbrev pub ends_well : Phase → List Act → Bool
ends_well phase acts = goes_on acts || (is_stop acts && is_whole_phase phase)

abbrev pub is_never : Level → Bool
is_never Never = true
is_never _ = false

abbrev pub acts_begin : Level → Phase → List Test → Info → Pattern → List Act → Bool
acts_begin level phase tests info pattern acts = elim (is_carried acts) [
  | true ↦ is_after_phase phase && (is_after_head level && starts_one heads info)
  | false ↦ elim (is_pending acts) [
    | true ↦ is_told_phase phase && (is_inside_level level && is_tabled tests)
    | false ↦ elim (is_last_use acts) [
      | true ↦ is_told_phase phase && (may_use level info InTemplate && is_end pattern)
      | false ↦ acts_part level phase info acts
    ]
  ]
]

-- ---- what is known at the beginning

-- a table or a part of one
abbrev pub tabular_names : List (List ℕ)
tabular_names = codes "table" ∷ codes "tbody" ∷ codes "tfoot" ∷ codes "thead" ∷ codes "tr" ∷ codes "td" ∷ codes "th" ∷ codes "caption" ∷ []

abbrev pub are_tabular : Info → Names → Bool
are_tabular info Own = own_within tabular_names info
are_tabular info (These names) = has_all names tabular_names

abbrev pub narrowed : Range → List Cls → Range
narrowed range cs = elim (is_told range) [ true ↦ ToldAmong cs | false ↦ Among cs ]

abbrev pub without_template : Range → Range
without_template range = narrowed range (filter (λ c. not (is_template c)) (classes_in range))

-- in that mode
abbrev pub told_in : Mode → Range
told_in mode = ToldAmong (filter (home mode) inner_classes)

abbrev pub inner_fact : Range → Peak → Bool → Bool → Info → Test → Phase
inner_fact range peak kept sure info (is (InScope TableScope names)) = elim (are_tabular info names) [
  | true ↦ Inner (without_template range) peak kept sure
  | false ↦ Inner range peak kept sure
]
inner_fact range peak kept sure info (is (InScope Scope (These names))) = elim (same_names names (codes "body" ∷ [])) [
  | true ↦ Inner (narrowed range (BodyC ∷ [])) peak kept sure
  | false ↦ Inner range peak kept sure
]
inner_fact range peak kept sure info (is (CurrentNode (These names))) = elim (plain_names names) [
  | true ↦ Inner range Ordinary kept sure
  | false ↦ elim (same_names names (codes "colgroup" ∷ [])) [ true ↦ Inner (narrowed range (CaptionC ∷ [])) Innermost kept sure | false ↦ Inner range peak kept sure ]
]
inner_fact range peak kept sure info (is (SecondElement (These names))) = elim (same_names names (codes "body" ∷ [])) [
  | true ↦ Inner range BodySecond kept sure
  | false ↦ Inner range peak kept sure
]
inner_fact range peak kept sure info (isnt TemplateModeSet) = Inner range peak kept true
inner_fact range peak kept sure info (isnt TemplateOpen) = Inner range peak kept true
inner_fact range peak kept sure info test = Inner range peak kept sure

abbrev pub part_fact : Info → Test → Phase → Phase
part_fact info test (Inner range peak kept sure) = inner_fact range peak kept sure info test
part_fact info test phase = phase

abbrev pub part_facts : Info → List Test → Phase → Phase
part_facts info [] phase = phase
part_facts info (test ∷ tests) phase = part_facts info tests (part_fact info test phase)

-- that rules before were not taken
abbrev pub all_facts : List Prior → Pattern → List Test
all_facts [] pattern = []
all_facts (prior ∷ priors) pattern = prior_facts prior pattern ++ all_facts priors pattern

abbrev pub pattern_begins : Level → Phase → List Test → Info → Bool → Pattern → List Act → Bool
pattern_begins level phase tests info out pattern acts =
    is_never level || (acts_begin level phase tests info pattern acts && (not (may_end pattern) || (out || ends_well phase acts)))

abbrev pub is_nil : List Test → Bool
is_nil [] = true
is_nil _ = false

-- The rules lead to where a turn may begin, for tokens that fit no pattern that the test skips; if the flag is true, the token isn't the end of
-- the page.
abbrev pub rules_part : (List (List ℕ) → List (List ℕ) → Pattern → Bool) → Level → Phase → List Prior → List (List ℕ) → List (List ℕ) → Bool → List Rule → Bool
rules_part skip level phase priors starts ends_ out [] = part_ends phase && out
rules_part skip level phase priors starts ends_ out (rule patterns tests acts ∷ more) =
    list_all (λ pattern. skip starts ends_ pattern
    || pattern_begins (with_facts (tests ++ all_facts priors pattern) level) (part_facts (info_of starts ends_ pattern) (tests ++ all_facts priors pattern) phase)
    tests (info_of starts ends_ pattern) out pattern acts) patterns &&
    rules_part skip level phase (prior_of patterns tests ∷ priors) (ruled_out tests (start_names patterns) starts) (ruled_out tests (end_names patterns) ends_)
    (out || (is_nil tests && list_any may_end patterns)) more

-- ---- which patterns are skipped

abbrev pub skips_none : List (List ℕ) → List (List ℕ) → Pattern → Bool
skips_none starts ends_ pattern = false

-- at the end of the page
abbrev pub skips_tokens : List (List ℕ) → List (List ℕ) → Pattern → Bool
skips_tokens starts ends_ pattern = not (may_end pattern)

-- for tokens that aren't such start tags
abbrev pub skips_starts : List (List ℕ) → List (List ℕ) → List (List ℕ) → Pattern → Bool
skips_starts names starts ends_ (StartTagOf some) = has_all some names
skips_starts names starts ends_ pattern = false
