-- What comes of a tag by the rules for the modes of tables.
use Rattle.std.proofs.Common.{◌≡◌, ◌&&◌, ◌||◌, Bool, true, false, List, [], ◌∷◌, codes, refl, sym, ap, subst, ◌∙◌, true≢false}
use Rattle.std.specs.List.{list_all}
use Rattle.standard_trees.specs.Building.{Building, is_set, own_name, perform, taken, token_attrs, with_tree}
use Rattle.standard_trees.specs.GrowingTree.{GrowingTree, current, inserted_at, is_among, is_one, place}
use Rattle.standard_trees.specs.NameLists.{implied}
use Rattle.standard_trees.specs.RuleWords.{Act, Action, AdjustForeignAttributes, AdjustMathmlAttributes, AdjustSvgAttributes, AdjustSvgName, ClearListToMarker, ImpliedEndTags, InBody, InRow, InTable, InsertElement, Mode as StandardMode}
use Rattle.standard_trees.specs.RuleWords.{Own, Pop, PopUntil, Rename, SetFormPointer, SwitchTo, Use, goes}
use Rattle.standard_trees.specs.TreeRules.{rules}
use Rattle.standard_trees.specs.TreeStore.{Html}
use Rattle.page_tokens.specs.declared.token.Tag.{Tag}
use Rattle.page_tokens.specs.declared.token.TagKind.{TagKind}
use Rattle.page_trees.specs.BodyTags.{ProcessesInBody, covers_body, suits_body}
use Rattle.page_trees.specs.Constructs.{Constructs, HaveOneToken, IsCurrentTag, Outcome, WithinLimits, all_performed}
use Rattle.page_trees.specs.Groups.{is_cell_name, is_dropped_end_name, is_metadata_name, is_section_name}
use Rattle.page_trees.specs.LateMerges.{HasHtml, is_open}
use Rattle.page_trees.specs.Modes.{is_start_kind, next_of}
use Rattle.page_trees.specs.Names.{text_of}
use Rattle.page_trees.specs.Scopes.{is_name}
use Rattle.page_trees.specs.Stands.{Builds, with_form}
use Rattle.page_trees.specs.TableSteps.{closing_cell, closing_row, covers_cell, covers_content, ends_cell_name, if_found, is_again, is_in_table}
use Rattle.page_trees.specs.TableSteps.{is_hidden_content_name, is_hidden_input, names_form, names_table, names_template}
use Rattle.page_trees.specs.TreeState.{TreeState}
use Rattle.page_trees.specs.declared.builder.Next.{Next}
use Rattle.page_trees.specs.declared.builder.TreeBuilder.{TreeBuilder}
use Rattle.page_trees.specs.declared.name.Name.{Name}
use Rattle.page_trees.proofs.BuilderSteps.{moved}
use Rattle.page_trees.proofs.NamesAgree.{both}
use Rattle.page_trees.proofs.RulesRun.{outcome, outcome_by, plainly}
use Rattle.page_trees.proofs.RulesTaken.{are_of_names, chosen, plain_tag, taken_tag}
use Rattle.page_trees.proofs.TableRows.{form_start, row_known, section_end_in_row, table_known}
use Rattle.page_trees.proofs.TagKinds.{inserted_one}
use Rattle.page_trees.proofs.TableRules.{are_apart, choice, found_again, found_done, next_again, one_token, own_is}

-- ---- names

pub cell_is_known : (name : Name) → is_cell_name name ≡ true → is_name name Name.Other ≡ false
cell_is_known Name.Td h = refl
cell_is_known Name.Th h = refl
cell_is_known _ h = absurd (cc)

pub cell_apart : (name : Name) → is_cell_name name ≡ true → are_apart implied (text_of name ∷ []) ≡ true
cell_apart Name.Td h = refl
cell_apart Name.Th h = refl
cell_apart _ h = absurd (cc)

pub section_is_known : (name : Name) → is_section_name name ≡ true → is_name name Name.Other ≡ false
section_is_known Name.Tbody h = refl
section_is_known Name.Tfoot h = refl
section_is_known Name.Thead h = refl
section_is_known _ h = absurd (cc)

pub ending_is_known : (name : Name) → ends_cell_name name ≡ true → is_name name Name.Other ≡ false
ending_is_known Name.Table h = refl
ending_is_known Name.Tbody h = refl
ending_is_known Name.Tfoot h = refl
ending_is_known Name.Thead h = refl
ending_is_known Name.Tr h = refl
ending_is_known _ h = absurd (cc)

pub no_table : (name : Name) → (name ≡ Name.Table → ⊥) → names_table name ≡ false
no_table Name.Table h = absurd (h refl)
no_table _ h = refl

pub no_form : (name : Name) → (name ≡ Name.Form → ⊥) → names_form name ≡ false
no_form Name.Form h = absurd (h refl)
no_form _ h = refl

-- what is left of two tests
pub left_over : (x y : Bool) → x ≡ false → (x || y) ≡ true → y ≡ true
left_over true y e h = absurd (true≢false e)
left_over false y e h = h

pub no_template : (name : Name) → (name ≡ Name.Template → ⊥) → names_template name ≡ false
no_template Name.Template h = absurd (h refl)
no_template _ h = refl

pub no_hidden_input : (name : Name) (b : Building) → (name ≡ Name.Input → ⊥) → is_hidden_input name b ≡ false
no_hidden_input Name.Input b h = absurd (h refl)
no_hidden_input _ b h = refl

pub hidden_is_metadata : (name : Name) → is_hidden_content_name name ≡ true → is_metadata_name name ≡ true
hidden_is_metadata Name.Style h = refl
hidden_is_metadata Name.Script h = refl
hidden_is_metadata Name.Template h = refl
hidden_is_metadata _ h = absurd (cc)

-- the end tags that are left to the rules for "in body" in a cell
pub content_left : (name : Name) (b : Building) → is_cell_name name ≡ false → is_dropped_end_name name ≡ false → ends_cell_name name ≡ false → covers_cell false name b ≡ true → covers_content false name b ≡ true
content_left Name.Td b h i j k = absurd (true≢false h)
content_left Name.Th b h i j k = absurd (true≢false h)
content_left Name.Body b h i j k = absurd (true≢false i)
content_left Name.Caption b h i j k = absurd (true≢false i)
content_left Name.Col b h i j k = absurd (true≢false i)
content_left Name.Colgroup b h i j k = absurd (true≢false i)
content_left Name.Html b h i j k = absurd (true≢false i)
content_left Name.Table b h i j k = absurd (true≢false j)
content_left Name.Tbody b h i j k = absurd (true≢false j)
content_left Name.Tfoot b h i j k = absurd (true≢false j)
content_left Name.Thead b h i j k = absurd (true≢false j)
content_left Name.Tr b h i j k = absurd (true≢false j)
content_left _ b h i j k = k

-- these tags are covered by the rules for "in body", and the state suits them
pub content_of : (kind : TagKind) (start : Bool) (name : Name) (b : Building) → is_start_kind kind ≡ start → covers_content start name b ≡ true → (covers_body kind name ≡ true) × (suits_body kind name b ≡ true)
content_of TagKind.Start start name b e h = both (covers_body TagKind.Start name) (suits_body TagKind.Start name b) (ap (λ (s : Bool). covers_content s name b) e ∙ h)
content_of TagKind.End start name b e h = both (covers_body TagKind.End name) (suits_body TagKind.End name b) (ap (λ (s : Bool). covers_content s name b) e ∙ h)

-- ---- actions that leave the current token as it is

abbrev pub keeps_token : Action → Bool
keeps_token AdjustSvgName = false
keeps_token AdjustSvgAttributes = false
keeps_token AdjustMathmlAttributes = false
keeps_token AdjustForeignAttributes = false
keeps_token (Rename name) = false
keeps_token _ = true

one_kept : (action : Action) → keeps_token action ≡ true → (b : Building) → HaveOneToken b (perform action b)
unfolding perform
one_kept AdjustSvgName h b = absurd (true≢false (sym h))
one_kept AdjustSvgAttributes h b = absurd (true≢false (sym h))
one_kept AdjustMathmlAttributes h b = absurd (true≢false (sym h))
one_kept AdjustForeignAttributes h b = absurd (true≢false (sym h))
one_kept (Rename name) h b = absurd (true≢false (sym h))
one_kept _ h b = record { token = refl; attrs = refl }

pub all_kept : (actions : List Action) → list_all keeps_token actions ≡ true → (b : Building) → HaveOneToken b (all_performed actions b)
all_kept [] h b = one_token b
all_kept (action ∷ actions) h b =
    let parts = both (keeps_token action) (list_all keeps_token actions) h in
    let one = one_kept action parts.0 b in
    let rest = all_kept actions parts.1 (perform action b) in
    record { token = rest.token ∙ one.token; attrs = rest.attrs ∙ one.attrs }

pub current_kept : (action : Action) → keeps_token action ≡ true → (name : Name) (tag : Tag) (b : Building) → IsCurrentTag name tag b → IsCurrentTag name tag (perform action b)
current_kept action h name tag b c =
    let one = one_kept action h b in
    record {
      standard = c.standard;
      is = c.is;
      written = c.written;
      plain = c.plain;
      named = c.named;
      token = one.token ∙ c.token;
      attrs = one.attrs ∙ c.attrs ∙ ap token_attrs (sym one.token);
    }

-- ---- a rule of a mode

pub row_at : (mode : StandardMode) (b : Building) (start : Bool) (name known : Name) → name ≡ known → chosen (plain_tag start name) b (rules mode) ≡ chosen (plain_tag start known) b (rules mode)
row_at mode b start name known e = ap (λ (n : Name). chosen (plain_tag start n) b (rules mode)) e

-- the actions of a rule
pub tag_does : (mode : StandardMode) → are_of_names (rules mode) ≡ true → (name : Name) (tag : Tag) (start : Bool) (b : Building) (new : TreeBuilder) (actions : List Action) (next : Next) →
    IsCurrentTag name tag b → is_start_kind tag.kind ≡ start → list_all keeps_token actions ≡ true → chosen (plain_tag start name) b (rules mode) ≡ plainly actions next →
    Constructs new (all_performed actions b) → Outcome mode b new next
tag_does mode known name tag start b new actions next c e same row stands =
    outcome mode b new actions next stands (all_kept actions same b) (taken_tag name tag b c start e (rules mode) known ∙ row)

-- nothing
pub tag_ignored : (mode : StandardMode) → are_of_names (rules mode) ≡ true → (name : Name) (tag : Tag) (start : Bool) (b : Building) (new : TreeBuilder) →
    IsCurrentTag name tag b → is_start_kind tag.kind ≡ start → chosen (plain_tag start name) b (rules mode) ≡ [] → Constructs new b → Outcome mode b new Next.Done
tag_ignored mode known name tag start b new c e row stands = tag_does mode known name tag start b new [] Next.Done c e refl row stands

-- the rules for another mode
pub tag_uses : (mode other : StandardMode) → are_of_names (rules mode) ≡ true → (name : Name) (tag : Tag) (start : Bool) (b : Building) (new : TreeBuilder) (next : Next) →
    IsCurrentTag name tag b → is_start_kind tag.kind ≡ start → chosen (plain_tag start name) b (rules mode) ≡ goes (Use other) ∷ [] → Outcome other b new next → Outcome mode b new next
tag_uses mode other known name tag start b new next c e row o = outcome_by mode other b new next (taken_tag name tag b c start e (rules mode) known ∙ row) o

-- a tag that a mode leaves to the rules for "in body"
pub content_done : (mode : StandardMode) → are_of_names (rules mode) ≡ true → (name : Name) (tag : Tag) (start : Bool) (b : Building) (old new : TreeBuilder) (next : Next) →
    IsCurrentTag name tag b → is_start_kind tag.kind ≡ start → chosen (plain_tag start name) b (rules mode) ≡ goes (Use InBody) ∷ [] → covers_content start name b ≡ true →
    WithinLimits new → HasHtml b → Constructs old b → ProcessesInBody name tag old new next → Outcome mode b new next
content_done mode known name tag start b old new next c e row covered within html stands body =
    let two = content_of tag.kind start name b e covered in
    tag_uses mode InBody known name tag start b new next c e row (body two.0 within b c html stands two.1)

-- the actions of a rule, where an element is found; the token is done with, or reprocessed
pub tag_closes : (mode : StandardMode) → are_of_names (rules mode) ≡ true → (name : Name) (tag : Tag) (start : Bool) (b : Building) (new : TreeBuilder) (actions : List Action) (found test : Bool) →
    IsCurrentTag name tag b → is_start_kind tag.kind ≡ start → list_all keeps_token actions ≡ true → chosen (plain_tag start name) b (rules mode) ≡ choice test (plainly actions Next.Done) →
    found ≡ test → Constructs new (all_performed (if_found found actions) b) → Outcome mode b new Next.Done
tag_closes mode known name tag start b new actions found test c e same row is stands =
    found_done mode b new actions found test is (all_kept actions same b) (taken_tag name tag b c start e (rules mode) known ∙ row) stands

pub tag_leaves : (mode : StandardMode) → are_of_names (rules mode) ≡ true → (name : Name) (tag : Tag) (start : Bool) (b : Building) (new : TreeBuilder) (actions : List Action) (found test : Bool) →
    IsCurrentTag name tag b → is_start_kind tag.kind ≡ start → list_all keeps_token actions ≡ true → chosen (plain_tag start name) b (rules mode) ≡ choice test (plainly actions Next.Again) →
    found ≡ test → Constructs new (all_performed (if_found found actions) b) → Outcome mode b new (next_of found)
tag_leaves mode known name tag start b new actions found test c e same row is stands =
    found_again mode b new actions found test is (all_kept actions same b) (taken_tag name tag b c start e (rules mode) known ∙ row) stands

-- the same by what becomes of the token
pub tag_leaves_by : (mode : StandardMode) → are_of_names (rules mode) ≡ true → (name : Name) (tag : Tag) (start : Bool) (b : Building) (new : TreeBuilder) (actions : List Action) (next : Next) (test : Bool) →
    IsCurrentTag name tag b → is_start_kind tag.kind ≡ start → list_all keeps_token actions ≡ true → chosen (plain_tag start name) b (rules mode) ≡ choice test (plainly actions Next.Again) →
    is_again next ≡ test → Constructs new (all_performed (if_found (is_again next) actions) b) → Outcome mode b new next
tag_leaves_by mode known name tag start b new actions next test c e same row is stands =
    subst (λ (n : Next). Outcome mode b new n) (next_again next) (tag_leaves mode known name tag start b new actions (is_again next) test c e same row is stands)

-- ---- tests of the own name

pub own_in_table : (name : Name) (tag : Tag) (b : Building) → is_name name Name.Other ≡ false → IsCurrentTag name tag b →
    is_in_table (text_of name ∷ []) b.tree ≡ is_in_table (own_name b.token ∷ []) b.tree
own_in_table name tag b known c = ap (λ n. is_in_table (n ∷ []) b.tree) (sym (own_is name tag b known c))

-- "pop elements until an element with the same name has been popped"
pub own_cell_closed : (name : Name) (tag : Tag) (b : Building) (new : TreeBuilder) (found : Bool) → is_name name Name.Other ≡ false → IsCurrentTag name tag b →
    Constructs new (all_performed (if_found found (closing_cell (text_of name ∷ []))) b) →
    Constructs new (all_performed (if_found found (ImpliedEndTags ∷ PopUntil Own ∷ ClearListToMarker ∷ SwitchTo InRow ∷ [])) b)
unfolding perform
own_cell_closed name tag b new true known c stands =
    subst (λ n. Constructs new (all_performed (closing_cell (n ∷ [])) b)) (sym (own_is name tag b known c)) stands
own_cell_closed name tag b new false known c stands = stands

-- "if the stack of open elements does not have an element in table scope with the same name, ignore"
section_row : (name : Name) (tag : Tag) (b : Building) (found : Bool) → is_section_name name ≡ true → IsCurrentTag name tag b → is_start_kind tag.kind ≡ false →
    found ≡ is_in_table (text_of name ∷ []) b.tree → taken b (rules InRow) ≡ choice found (choice (is_in_table (codes "tr" ∷ []) b.tree) (plainly closing_row Next.Again))
section_row name tag b found section c e is =
    taken_tag name tag b c false e (rules InRow) row_known ∙ section_end_in_row b name section
    ∙ ap (λ f. choice f (choice (is_in_table (codes "tr" ∷ []) b.tree) (plainly closing_row Next.Again))) (sym (is ∙ own_in_table name tag b (section_is_known name section) c))

pub row_in_section : (name : Name) (tag : Tag) (b : Building) (new : TreeBuilder) (found : Bool) (next : Next) → is_section_name name ≡ true → IsCurrentTag name tag b → is_start_kind tag.kind ≡ false →
    found ≡ is_in_table (text_of name ∷ []) b.tree → found ≡ true → is_again next ≡ is_in_table (codes "tr" ∷ []) b.tree → Constructs new (all_performed (if_found (is_again next) closing_row) b) →
    Outcome InRow b new next
row_in_section name tag b new found next section c e is so test stands =
    subst (λ (n : Next). Outcome InRow b new n) (next_again next)
    (found_again InRow b new closing_row (is_again next) (is_in_table (codes "tr" ∷ []) b.tree) test (all_kept closing_row refl b)
    (section_row name tag b found section c e is ∙ ap (λ f. choice f (choice (is_in_table (codes "tr" ∷ []) b.tree) (plainly closing_row Next.Again))) so) stands)

pub no_section_in_row : (name : Name) (tag : Tag) (b : Building) (new : TreeBuilder) (found : Bool) → is_section_name name ≡ true → IsCurrentTag name tag b → is_start_kind tag.kind ≡ false →
    found ≡ is_in_table (text_of name ∷ []) b.tree → found ≡ false → Constructs new b → Outcome InRow b new Next.Done
no_section_in_row name tag b new found section c e is not_so stands =
    outcome InRow b new [] Next.Done stands (one_token b)
    (section_row name tag b found section c e is ∙ ap (λ f. choice f (choice (is_in_table (codes "tr" ∷ []) b.tree) (plainly closing_row Next.Again))) not_so)

-- ---- a form in a table

form_named : (tag : Tag) (b : Building) → IsCurrentTag Name.Form tag b → is_among (own_name b.token) (codes "form" ∷ []) ≡ true
form_named tag b c = ap (λ n. is_among n (codes "form" ∷ [])) (own_is Name.Form tag b refl c)

-- "set the form element pointer to point to the element created"
form_set : (old : TreeBuilder) (tree : TreeState) → ((t : GrowingTree) → is_one t (codes "form" ∷ []) (current t) ≡ true → Builds old.tree t → Builds tree (with_form t)) →
    (b : Building) → is_one b.tree (codes "form" ∷ []) (current b.tree) ≡ true → Constructs old b → Constructs (record old { tree = tree }) (perform SetFormPointer b)
unfolding perform
form_set old tree sets b is c = moved old (record old { tree = tree }) tree old.fault old.too_deep refl b (with_form b.tree) c (sets b.tree is c.tree) refl

pub form_of_tag : (tag : Tag) (old : TreeBuilder) (tree : TreeState) (b : Building) → is_start_kind tag.kind ≡ true → IsCurrentTag Name.Form tag b →
    ((t : GrowingTree) → is_one t (codes "form" ∷ []) (current t) ≡ true → Builds old.tree t → Builds tree (with_form t)) →
    Constructs old (perform InsertElement b) → Constructs (record old { tree = tree }) (perform SetFormPointer (perform InsertElement b))
unfolding perform
form_of_tag tag old tree b h c sets stands =
    form_set old tree sets (with_tree b (inserted_at (place b.tree) Html (own_name b.token) b.attrs b.tree))
    (inserted_one (codes "form" ∷ []) (place b.tree) Html (own_name b.token) b.attrs b.tree ∙ form_named tag b c) stands

-- nothing where a test is met
abbrev unless : Bool → List Act → List Act
unless test acts = elim test [ true ↦ [] | false ↦ acts ]

form_taken : (f t x : Bool) → x ≡ (f || t) → (acts : List Act) → unless (t && true) (unless (f && true) acts) ≡ unless x acts
form_taken true true x e acts = ap (λ y. unless y acts) (sym e)
form_taken true false x e acts = ap (λ y. unless y acts) (sym e)
form_taken false true x e acts = ap (λ y. unless y acts) (sym e)
form_taken false false x e acts = ap (λ y. unless y acts) (sym e)

abbrev form_actions : List Action
form_actions = InsertElement ∷ SetFormPointer ∷ Pop ∷ []

form_row : (tag : Tag) (b : Building) (ignores : Bool) → IsCurrentTag Name.Form tag b → is_start_kind tag.kind ≡ true →
    ignores ≡ (is_set b.tree.form || is_open (codes "template") b.tree) → taken b (rules InTable) ≡ unless ignores (plainly form_actions Next.Done)
form_row tag b ignores c e is =
    taken_tag Name.Form tag b c true e (rules InTable) table_known ∙ form_start b
    ∙ form_taken (is_set b.tree.form) (is_open (codes "template") b.tree) ignores is (plainly form_actions Next.Done)

pub form_ignored : (tag : Tag) (b : Building) (new : TreeBuilder) (ignores : Bool) → IsCurrentTag Name.Form tag b → is_start_kind tag.kind ≡ true →
    ignores ≡ (is_set b.tree.form || is_open (codes "template") b.tree) → ignores ≡ true → Constructs new b → Outcome InTable b new Next.Done
form_ignored tag b new ignores c e is so stands =
    outcome InTable b new [] Next.Done stands (one_token b)
    (form_row tag b ignores c e is ∙ ap (λ x. unless x (plainly form_actions Next.Done)) so)

pub form_inserted : (tag : Tag) (b : Building) (new : TreeBuilder) (ignores : Bool) → IsCurrentTag Name.Form tag b → is_start_kind tag.kind ≡ true →
    ignores ≡ (is_set b.tree.form || is_open (codes "template") b.tree) → ignores ≡ false → Constructs new (all_performed form_actions b) → Outcome InTable b new Next.Done
unfolding perform
form_inserted tag b new ignores c e is not_so stands =
    outcome InTable b new form_actions Next.Done stands (record { token = refl; attrs = refl })
    (form_row tag b ignores c e is ∙ ap (λ x. unless x (plainly form_actions Next.Done)) not_so)
