-- What a reader's steps are on a text.
use Rattle.std.specs.Prelude.{slice_get, ◌⊎◌}
use Rattle.std.specs.Option.{option_map_or}
use Rattle.std.proofs.Common.{Vec, Global, Result, Option, Some, None, ◌≡◌, ◌≢◌, ◌<◌, ◌≤◌, ◌+◌, ◌-◌, ℕ, List, [], ◌∷◌, ◌++◌, length, map, true, false, refl, sym, ap, ◌∙◌, subst, arith, cond, append_assoc, append-nil, inl, inr}
use Rattle.std.proofs.lemmas.Bool.{true≢false, cases_Bool}
use Rattle.std.proofs.lemmas.List.{map-append}
use Rattle.dom_nodes.specs.declared.fault.EditFault.{EditFault}
use Rattle.dom_nodes.specs.declared.fault.EditFault.TheVariants as edit_faults
use Rattle.dom_nodes.specs.declared.fault.MarkupFaultKind.{MarkupFaultKind}
use Rattle.dom_nodes.specs.declared.fault.MarkupFaultKind.TheVariants as kinds
use Rattle.dom_nodes.specs.declared.node_data.NodeData.{NodeData}
use Rattle.dom_links.specs.Forest.{Forest}
use Rattle.dom_nodes.specs.declared.name.Attr.{Attr}
use Rattle.dom_links.specs.Growth.{DataCause, with_child, with_template}
use Rattle.dom_links.specs.Sound.{children_allowed_at}
use Rattle.dom_trees.specs.Refusals.{TemplateCause}
use Rattle.dom_trees.specs.NewNodes.{element_with}
use Rattle.dom_markup.specs.Bytes.{folded}
use Rattle.dom_nodes.specs.Words.{is_among}
use Rattle.dom_markup.specs.Names.{Mode, markup, is_template, void_names}
use Rattle.dom_markup.specs.ValueTrees.{Attribute, ValueTrees}
use Rattle.dom_markup.specs.Markup.{Item, AreInPlace, Begins, BeginsNothing, SpellsItemsUpTo, Spells, SpellsNothing, items_of, mode_after, mode_past}
use Rattle.dom_markup.specs.Markup.Item.{start_tag}
use Rattle.dom_trees.specs.NewNodes.{html_name}
use Rattle.dom_markup.specs.Numbered.{read_element, document_of}
use Rattle.dom_markup.specs.Refusals.{nodes_begun, Refused, Declines, StopsBefore, BeginsNothingAt, Cause, IsFaultAt, LeavesSomeOpen, StartCause}
use Rattle.dom_markup.specs.Lexeme.{BeginsLetter}
use Rattle.dom_markup.specs.Frames.{HasRead, Opened, opened, is_top, opened_size, with_element, children_place}
use Rattle.dom_markup.specs.TreeUnderConstruction.{MayGrowAt, plain_element}
use Rattle.dom_markup.specs.Limits.{IsLimit, IsPlainData, LacksNumbers}
use Rattle.dom_markup.specs.Reader.{AfterItems, Grows, IsReading, IsStarted, IsWhole, StopsAt, opened_by, parent_number, with_started}
use Rattle.dom_markup.specs.declared.document.reader.Open.{Open}
use Rattle.dom_markup.specs.declared.document.reader.Reader.{Reader}
use Rattle.dom_markup.specs.declared.document.reader.Started.{Started}
use Rattle.dom_markup.proofs.rows.Frames.{nodes_begun-append, nodes_read, IsLeaf, void_leaf, void_plain, reads_leaf, reads_start, last_none, last_split, parent_last, parent_none, no_trees_end, no_trees_stray, no_trees_inside, no_trees_open, parent_bears, parent_known}
use Rattle.dom_markup.proofs.grammar.Items.{Begins-shorter, start_cause}
use Rattle.dom_markup.proofs.grammar.OneReading.{SpellsItems}
use Rattle.dom_markup.proofs.grammar.Whole.{mode_past-push, SpellsItems-from_front, SpellsItemsUpTo-push, items_left, first_left, none_left, nothing_left}

-- ---- making a node

-- plain data under a known node that may have children is refused by a limit alone
pub only_limits : (forest : Forest) (t : ℕ) (content : NodeData) (fault : EditFault) → t < length forest.content → children_allowed_at forest t ≡ true → IsPlainData content → DataCause forest t content fault → IsLimit fault
only_limits forest t content edit_faults.UnknownNode known parents_allow plain cause = absurd (omega arith)
only_limits forest t content edit_faults.NoChildrenHere known parents_allow plain cause = true≢false (sym parents_allow ∙ cause)
only_limits forest t content edit_faults.RootOrFragment known parents_allow plain cause = true≢false (sym cause ∙ plain.no_top)
only_limits forest t content edit_faults.Cycle known parents_allow plain cause = cc (cause.1, plain.no_contents)
only_limits forest t content edit_faults.TooManyNodes known parents_allow plain cause = tt
only_limits forest t content edit_faults.Memory known parents_allow plain cause = tt
only_limits forest t content edit_faults.BadContents known parents_allow plain cause = cc (cause.1, plain.no_contents)
only_limits forest t content (edit_faults.Markup fault) known parents_allow plain cause = cause

-- so is an element with contents
pub template_limits : (forest : Forest) (t : ℕ) (fault : EditFault) → t < length forest.content → children_allowed_at forest t ≡ true → TemplateCause t forest fault → IsLimit fault
template_limits forest t edit_faults.UnknownNode known parents_allow cause = absurd (omega arith)
template_limits forest t edit_faults.NoChildrenHere known parents_allow cause = true≢false (sym parents_allow ∙ cause)
template_limits forest t edit_faults.RootOrFragment known parents_allow cause = cause
template_limits forest t edit_faults.Cycle known parents_allow cause = cause
template_limits forest t edit_faults.TooManyNodes known parents_allow cause = tt
template_limits forest t edit_faults.Memory known parents_allow cause = tt
template_limits forest t edit_faults.BadContents known parents_allow cause = cause
template_limits forest t (edit_faults.Markup fault) known parents_allow cause = cause

-- where no number is left, no node can begin
pub no_number : (items : List Item) (item : Item) (kind : MarkupFaultKind) (forest : Forest) (stack : List Opened) (count : ℕ) → HasRead items forest stack → 1 ≤ nodes_begun (item ∷ []) → count + 1 ≤ length forest.content + nodes_begun (item ∷ []) → LacksNumbers count kind → Declines items item kind
no_number items item kinds.TooManyNodes forest stack count h some few lacks =
    record { begins_some = some; many = omega (arith, nodes_read items forest stack h, nodes_begun-append items (item ∷ [])) }
no_number items item kinds.Memory forest stack count h some few lacks = tt
no_number items item kinds.BadTag forest stack count h some few lacks = absurd lacks
no_number items item kinds.Unclosed forest stack count h some few lacks = absurd lacks
no_number items item kinds.MismatchedEnd forest stack count h some few lacks = absurd lacks
no_number items item kinds.StrayEnd forest stack count h some few lacks = absurd lacks
no_number items item kinds.SlashOnOpen forest stack count h some few lacks = absurd lacks
no_number items item kinds.BadComment forest stack count h some few lacks = absurd lacks
no_number items item kinds.BadDeclaration forest stack count h some few lacks = absurd lacks
no_number items item kinds.MisplacedDoctype forest stack count h some few lacks = absurd lacks
no_number items item kinds.Instruction forest stack count h some few lacks = absurd lacks

-- the parent is the number below which the innermost frame's children stand
pub parent_is : (items : List Item) (reader : Reader) (h : AfterItems items reader) → parent_number reader ≡ opened_size h.frames
parent_is items reader h = by_last (slice_get stack (length stack - 1)) refl
  where
    stack : List Open
    stack = reader.stack.items

    by_last : (o : Option Open) → slice_get stack (length stack - 1) ≡ o → option_map_or (λ (x : Open). x.number) o 0 ≡ opened_size h.frames
    by_last None e = parent_none h.frames (sym (ap (map opened_by) (last_none stack e)) ∙ h.stack_is)
    by_last (Some o) e =
        let split = last_split stack o e in
        let shown : map opened_by split.0 ++ opened_by o ∷ [] ≡ opened h.frames =
        sym (ap (map opened_by) split.1 ∙ map-append opened_by split.0 (o ∷ [])) ∙ h.stack_is in
        parent_last (map opened_by split.0) (opened_by o) h.frames shown

-- a node may be made there, but for a limit
pub may_grow : (reader : Reader) (parent : ℕ) → parent ≡ parent_number reader → IsReading reader → MayGrowAt reader.tree parent
may_grow reader parent is reading =
    let place = sym (is ∙ parent_is reading.0 reader reading.1) in
    record {
      known = subst (λ (n : ℕ). n < length reader.tree.content) place (parent_known reading.0 _ _ reading.1);
      open_here = subst (λ (n : ℕ). children_allowed_at reader.tree n ≡ true) place (parent_bears reading.0 _ _ reading.1);
    }

pub leaf_read : (items : List Item) (old new : Reader) (item : Item) (made content : NodeData) (h : AfterItems items old) → IsLeaf item content (is_top h.frames) → new.tree ≡ with_child (parent_number old) made old.tree → made ≡ content → new.stack ≡ old.stack →
    AfterItems (items ++ item ∷ []) new
leaf_read items old new item made content h leaf grown is same =
    let tree : new.tree ≡ with_child (opened_size h.frames) content old.tree =
    grown ∙ ap (λ (p : ℕ). with_child p made old.tree) (parent_is items old h) ∙ ap (λ (c : NodeData). with_child (opened_size h.frames) c old.tree) is in
    subst (λ (os : List Open). HasRead (items ++ item ∷ []) new.tree (map opened_by os)) (sym (ap (λ (v : Vec Open Global). v.items) same))
    (subst (λ (f : Forest). HasRead (items ++ item ∷ []) f (map opened_by old.stack.items)) (sym tree)
    (reads_leaf items old.tree (map opened_by old.stack.items) item content h leaf))

pub start_read : (items : List Item) (old : Reader) (new : Forest) (before : Vec Open Global) (stack : List Open) (one : Open) (name : List ℕ) (all : List Attribute) (h : AfterItems items old) →
    new ≡ with_element (parent_number old) name all old.tree → before ≡ old.stack → stack ≡ before.items ++ one ∷ [] → one.number ≡ children_place name old.tree → folded one.name.now ≡ name → is_among name void_names ≡ false →
    HasRead (items ++ start_tag name all ∷ []) new (map opened_by stack)
start_read items old new before stack one name all h made kept pushed number named open_one =
    let opened : opened_by one ≡ record { number = children_place name old.tree; name = name } =
    ap (λ (n : ℕ). record { number = n; name = folded one.name.now }) number ∙ ap (λ (n : List ℕ). record { number = children_place name old.tree; name = n }) named in
    let shown : map opened_by stack ≡ map opened_by old.stack.items ++ record { number = children_place name old.tree; name = name } ∷ [] =
    ap (map opened_by) (pushed ∙ ap (λ (v : Vec Open Global). v.items ++ one ∷ []) kept) ∙ map-append opened_by old.stack.items (one ∷ []) ∙ ap (λ (o : Opened). map opened_by old.stack.items ++ o ∷ []) opened in
    let tree : new ≡ with_element (opened_size h.frames) name all old.tree = made ∙ ap (λ (p : ℕ). with_element p name all old.tree) (parent_is items old h) in
    subst (λ (os : List Opened). HasRead (items ++ start_tag name all ∷ []) new os) (sym shown)
    (subst (λ (f : Forest). HasRead (items ++ start_tag name all ∷ []) f (map opened_by old.stack.items ++ record { number = children_place name old.tree; name = name } ∷ [])) (sym tree)
    (reads_start items old.tree (map opened_by old.stack.items) name all h open_one))

-- an element without contents, and one with
pub plain_made : (old new : Reader) (result : Result ℕ MarkupFaultKind) (started : Started) (attrs : List Attr) → is_template (folded started.written.now) ≡ false →
    Grows old new result (length old.tree.content) (with_child (parent_number old) (plain_element (html_name started.local) attrs) old.tree) →
    Grows old new result (children_place (folded started.written.now) old.tree) (with_started (parent_number old) started attrs old.tree)
plain_made old new result started attrs plain grows = rw plain grows

pub template_made : (old new : Reader) (result : Result ℕ MarkupFaultKind) (started : Started) (attrs : List Attr) → is_template (folded started.written.now) ≡ true →
    Grows old new result (length old.tree.content + 1) (with_template (parent_number old) (element_with (html_name started.local) attrs (length old.tree.content + 1)) old.tree) →
    Grows old new result (children_place (folded started.written.now) old.tree) (with_started (parent_number old) started attrs old.tree)
template_made old new result started attrs template grows = rw template grows

-- what is made of a start tag is the element that it begins
pub started_is : (p : ℕ) (started : Started) (attrs : List Attr) (all : List Attribute) (forest : Forest) → IsStarted started attrs (folded started.written.now) all → with_started p started attrs forest ≡ with_element p (folded started.written.now) all forest
started_is p started attrs all forest same_attrs =
    let name = folded started.written.now in
    let more = length forest.content + 1 in
    ap (λ (n : List ℕ). cond (is_template name) (with_template p (element_with (html_name n) attrs more) forest) (with_child p (plain_element (html_name n) attrs) forest)) same_attrs.local
    ∙ ap (λ (as' : List Attr). cond (is_template name) (with_template p (element_with (html_name name) as' more) forest) (with_child p (plain_element (html_name name) as') forest)) same_attrs.attrs

-- a void element has no contents
pub void_read : (items : List Item) (old new : Reader) (name : List ℕ) (all : List Attribute) (h : AfterItems items old) →
    new.tree ≡ with_element (parent_number old) name all old.tree → new.stack ≡ old.stack → is_among name void_names ≡ true → AfterItems (items ++ start_tag name all ∷ []) new
void_read items old new name all h made same void =
    let plain : with_element (parent_number old) name all old.tree ≡ with_child (parent_number old) (read_element name all None) old.tree = rw (void_plain name void) refl in
    leaf_read items old new (start_tag name all) _ (read_element name all None) h (void_leaf (is_top h.frames) name all void) (made ∙ plain) refl same

-- a start tag that finds no number
pub start_declined : (items : List Item) (name : List ℕ) (all : List Attribute) (kind : MarkupFaultKind) (forest : Forest) (stack : List Opened) → HasRead items forest stack → LacksNumbers (children_place name forest) kind → Declines items (start_tag name all) kind
start_declined items name all kind forest stack h lacks =
    elim (cases_Bool (is_template name)) [
      | inl t ↦
          (let two : nodes_begun (start_tag name all ∷ []) ≡ 2 = rw t refl in
          let place : children_place name forest ≡ length forest.content + 1 = rw t refl in
          no_number items (start_tag name all) kind forest stack (children_place name forest) h (omega (arith, two)) (omega (arith, two, place)) lacks)
      | inr e ↦
          (let one : nodes_begun (start_tag name all ∷ []) ≡ 1 = rw e refl in
          let place : children_place name forest ≡ length forest.content = rw e refl in
          no_number items (start_tag name all) kind forest stack (children_place name forest) h (omega (arith, one)) (omega (arith, one, place)) lacks)
    ]

-- why a start tag isn't read, that may begin
pub tag_stops : (tag : List ℕ) (items : List Item) (kind : MarkupFaultKind) → BeginsLetter tag → (kind ≡ kinds.Memory) ⊎ StartCause (60 ∷ tag) kind → StopsAt markup (60 ∷ tag) items kind
tag_stops tag items kind letter (inl memory) = inl memory
tag_stops tag items kind letter (inr cause) = inr (inl (start_cause (60 ∷ tag) tag kind (refl, letter) cause))

-- ---- a text of which a front has been read

pub record Progress (source left : List ℕ) (mode : Mode) (reader : Reader) : Type 0 where
  pub items : List Item
  pub read : AfterItems items reader
  pub front : SpellsItemsUpTo markup source items left
  pub mode_is : mode ≡ mode_past markup items
  pub within : length left ≤ length source

-- before anything is read
pub progress_none : (source : List ℕ) (reader : Reader) → AfterItems [] reader → Progress source source markup reader
progress_none source reader h = record { items = []; read = h; front = refl; mode_is = refl; within = omega arith }

pub progress_step : (source left rest : List ℕ) (mode next : Mode) (old new : Reader) (p : Progress source left mode old) (item : Item) → Begins mode left item rest → next ≡ mode_after mode item → AfterItems (p.items ++ item ∷ []) new → Progress source rest next new
progress_step source left rest mode next old new p item begins goes r = record {
  items = p.items ++ item ∷ [];
  read = r;
  front = SpellsItemsUpTo-push markup source p.items left item rest p.front (subst (λ (m : Mode). Begins m left item rest) p.mode_is begins);
  mode_is = goes ∙ ap (λ (m : Mode). mode_after m item) p.mode_is ∙ sym (mode_past-push markup p.items item);
  within = omega (arith, Begins-shorter mode left item rest begins, p.within);
}

fault_there : (source left : List ℕ) (at : ℕ) (mode : Mode) (kind : MarkupFaultKind) → Cause mode left kind → BeginsNothingAt source at kind → IsFaultAt source at kind
fault_there source left at mode kinds.BadTag s h = h
fault_there source left at mode kinds.SlashOnOpen s h = h
fault_there source left at mode kinds.BadComment s h = h
fault_there source left at mode kinds.BadDeclaration s h = h
fault_there source left at mode kinds.Instruction s h = h
fault_there source left at mode kinds.Unclosed s h = inr h
fault_there source left at mode kinds.MismatchedEnd s h = absurd s
fault_there source left at mode kinds.StrayEnd s h = absurd s
fault_there source left at mode kinds.MisplacedDoctype s h = absurd s
fault_there source left at mode kinds.TooManyNodes s h = absurd s
fault_there source left at mode kinds.Memory s h = tt

fault_before : (source : List ℕ) (at : ℕ) (kind : MarkupFaultKind) → StopsBefore source at kind → IsFaultAt source at kind
fault_before source at kinds.MismatchedEnd s = s
fault_before source at kinds.StrayEnd s = s
fault_before source at kinds.TooManyNodes s = s
fault_before source at kinds.Memory s = tt
fault_before source at kinds.BadTag s = absurd s.cause
fault_before source at kinds.Unclosed s = absurd s.cause
fault_before source at kinds.SlashOnOpen s = absurd s.cause
fault_before source at kinds.BadComment s = absurd s.cause
fault_before source at kinds.BadDeclaration s = absurd s.cause
fault_before source at kinds.MisplacedDoctype s = s
fault_before source at kinds.Instruction s = absurd s.cause

-- what stands there isn't read
pub stopped : (source left : List ℕ) (mode : Mode) (reader : Reader) (kind : MarkupFaultKind) (at : ℕ) (p : Progress source left mode reader) → left ≢ [] → at + length left ≡ length source → StopsAt mode left p.items kind → IsFaultAt source at kind
stopped source left mode reader kind at p some place (inl memory) = subst (IsFaultAt source at) (sym memory) tt
stopped source left mode reader kind at p some place (inr (inl nothing)) =
    fault_there source left at mode kind nothing.1 record {
      items = p.items;
      left = left;
      spelled = p.front;
      place = place;
      some = some;
      nothing = subst (λ (m : Mode). BeginsNothing m left) p.mode_is nothing.0;
      cause = subst (λ (m : Mode). Cause m left kind) p.mode_is nothing.1;
    }
stopped source left mode reader kind at p some place (inr (inr declined)) =
    fault_before source at kind record { items = p.items; item = declined.0; left = left; rest = declined.1; spelled = p.front; place = place; begins = subst (λ (m : Mode). Begins m left declined.0 declined.1) p.mode_is declined.2; cause = declined.3 }

-- at the end memory was refused, or an element is open
pub unfinished : (source left : List ℕ) (mode : Mode) (reader : Reader) (kind : MarkupFaultKind) (p : Progress source left mode reader) → left ≡ [] →
    (kind ≡ kinds.Memory) ⊎ ((kind ≡ kinds.Unclosed) × LeavesSomeOpen p.items) → IsFaultAt source (length source) kind
unfinished source left mode reader kind p e (inl memory) = subst (IsFaultAt source (length source)) (sym memory) tt
unfinished source left mode reader kind p e (inr open_at_end) =
    subst (IsFaultAt source (length source)) (sym open_at_end.0)
    (inl record { items = p.items; spelled = subst (λ (t : List ℕ). SpellsItemsUpTo markup source p.items t) e p.front; place = refl; not_closed = open_at_end.1 })

-- ---- what a fault says of the whole text

-- nothing is spelled where the next item belongs to no trees
refuses : (source : List ℕ) (at : ℕ) (kind : MarkupFaultKind) (s : StopsBefore source at kind) → ((trees : ValueTrees) (more : List Item) → AreInPlace true trees → items_of trees ≡ (s.items ++ s.item ∷ []) ++ more → ⊥) → SpellsNothing source
refuses source at kind s r trees spells =
    let rest = items_left markup source s.items s.left (items_of trees) s.spelled spells.items in
    let first = first_left (mode_past markup s.items) s.left rest.0 s.item s.rest s.begins rest.2 in
    r trees first.0 spells.in_place (rest.1 ∙ ap (λ (x : List Item). s.items ++ x) first.1 ∙ sym (append_assoc s.items (s.item ∷ []) first.0))

spells_nothing : (source : List ℕ) (at : ℕ) (kind : MarkupFaultKind) → BeginsNothingAt source at kind → SpellsNothing source
spells_nothing source at kind h trees spells =
    let rest = items_left markup source h.items h.left (items_of trees) h.spelled spells.items in
    nothing_left (mode_past markup h.items) h.left rest.0 h.some h.nothing rest.2

pub refused : (source : List ℕ) (at : ℕ) (kind : MarkupFaultKind) → IsFaultAt source at kind → Refused source kind
refused source at kinds.BadTag h = spells_nothing source at kinds.BadTag h
refused source at kinds.Unclosed (inl h) = λ trees spells.
    let rest = items_left markup source h.items [] (items_of trees) h.spelled spells.items in
    no_trees_open h.items h.not_closed trees spells.in_place (rest.1 ∙ ap (λ (x : List Item). h.items ++ x) (none_left (mode_past markup h.items) [] rest.0 refl rest.2) ∙ append-nil h.items)
refused source at kinds.Unclosed (inr h) = spells_nothing source at kinds.Unclosed h
refused source at kinds.MismatchedEnd h = refuses source at kinds.MismatchedEnd h (no_trees_end h.items h.item h.cause)
refused source at kinds.StrayEnd h = refuses source at kinds.StrayEnd h (no_trees_stray h.items h.item h.cause)
refused source at kinds.TooManyNodes h =
    record { items = h.items ++ h.item ∷ []; rest = h.rest; spelled = SpellsItemsUpTo-push markup source h.items h.left h.item h.rest h.spelled h.begins; many = h.cause.many }
refused source at kinds.Memory h = tt
refused source at kinds.SlashOnOpen h = spells_nothing source at kinds.SlashOnOpen h
refused source at kinds.BadComment h = spells_nothing source at kinds.BadComment h
refused source at kinds.BadDeclaration h = spells_nothing source at kinds.BadDeclaration h
refused source at kinds.MisplacedDoctype h = refuses source at kinds.MisplacedDoctype h (no_trees_inside h.items h.item h.cause)
refused source at kinds.Instruction h = spells_nothing source at kinds.Instruction h

-- once all is read and nothing is open
pub whole_text : (source left : List ℕ) (mode : Mode) (reader : Reader) (forest : Forest) (p : Progress source left mode reader) → left ≡ [] → IsWhole p.items forest → (trees : ValueTrees) × Spells source trees × (forest ≡ document_of trees)
whole_text source left mode reader forest p e whole =
    (whole.0, record { items = subst (SpellsItems markup source) whole.1 (SpellsItems-from_front markup source p.items left p.front e); in_place = whole.2 }, whole.3)
