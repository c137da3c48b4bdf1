-- What the rules make of the end of the page.
use Rattle.std.proofs.Common.{◌≡◌, Bool, true, false, ◌&&◌, not, List, [], ◌∷◌, arith, codes, length, map, reverse, refl, sym, ap, subst, ◌∙◌, true≢false}
use Rattle.std.specs.Prelude.{IfSome}
use Rattle.std.proofs.lemmas.List.{length-map, length-reverse}
use Rattle.standard_tokens.specs.Tokens.{AnEof}
use Rattle.standard_trees.specs.Building.{Building, is_empty, perform, taken}
use Rattle.standard_trees.specs.GrowingTree.{adjusted_current}
use Rattle.standard_trees.specs.RuleWords.{Act, Action, Dispatcher, InBody, InTable, InTemplate, Mode as StandardMode, Pop, Stop, SwitchBack, SwitchTo, Use, UseCurrentMode, does, goes}
use Rattle.standard_trees.specs.TreeRules.{rules}
use Rattle.standard_trees.specs.TreeStore.{is_html, space_in}
use Rattle.page_trees.specs.Constructs.{Constructs, HaveOneToken, LeavesBy, Outcome, Performs, WithinLimits, all_performed, is_entered_plainly, leaving, returns_later}
use Rattle.page_trees.specs.HeadSteps.{closing_template}
use Rattle.page_trees.specs.LateMerges.{is_open}
use Rattle.page_trees.specs.Modes.{mode_of}
use Rattle.page_trees.specs.TokenSteps.{EndsPlainly, ProcessesBy, at_end, keeps_characters}
use Rattle.page_trees.specs.declared.builder.Mode.{Mode}
use Rattle.page_trees.specs.declared.builder.Next.{Next}
use Rattle.page_trees.specs.declared.builder.TreeBuilder.{TreeBuilder}
use Rattle.page_trees.specs.declared.modes.other_tokens.AtEnd.{AtEnd}
use Rattle.page_trees.proofs.Dispatching.{by_mode}
use Rattle.page_trees.proofs.RulesRun.{outcome, outcome_by, plainly}
use Rattle.page_trees.proofs.RulesTaken.{chosen}
use Rattle.page_trees.proofs.TokenRules.{taken_of}

-- ---- the dispatcher

one_rule : {A : Type 0} → (x y : Bool) (here : A) → elim (x && true) [ true ↦ here | false ↦ elim (y && true) [ true ↦ here | false ↦ here ] ] ≡ here
one_rule true y here = refl
one_rule false true here = refl
one_rule false false here = refl

end_dispatched : (b : Building) → b.token ≡ AnEof → taken b (rules Dispatcher) ≡ goes UseCurrentMode ∷ []
unfolding rules
end_dispatched b token =
    taken_of AnEof b token (rules Dispatcher) ∙ one_rule (is_empty b.tree.stack) (is_html (space_in (adjusted_current b.tree))) (goes UseCurrentMode ∷ [])

pub by_current : (m : Mode) (b : Building) (new : TreeBuilder) (next : Next) → b.token ≡ AnEof → b.mode ≡ mode_of m → Outcome (mode_of m) b new next → Outcome Dispatcher b new next
by_current m b new next token mode o =
    let here : Outcome b.mode b new next = subst (λ (x : StandardMode). Outcome x b new next) (sym mode) o in
    record { after = here.after; stands = here.stands; runs = by_mode b next here.after (end_dispatched b token) here.runs }

-- ---- the mode is left

left : (m : Mode) (actions : List Action) (old new : TreeBuilder) (next : Next) → ((b : Building) → HaveOneToken b (all_performed actions b)) →
    ((b : Building) → chosen AnEof b (rules (mode_of m)) ≡ plainly actions Next.Again) → LeavesBy actions old new next → WithinLimits new → (b : Building) → b.token ≡ AnEof →
    Constructs old b → Outcome (mode_of m) b new next
left m actions old new next same e by within b token stands =
    subst (λ (n : Next). Outcome (mode_of m) b new n) (sym by.again)
    (outcome (mode_of m) b new actions Next.Again (by.rule within b stands) (same b) (taken_of AnEof b token (rules (mode_of m)) ∙ e b))

left_in : (m : Mode) (old new : TreeBuilder) (next : Next) → at_end m ≡ AtEnd.Leave → IfSome (leaving m) (λ actions. LeavesBy actions old new next) → WithinLimits new →
    (b : Building) → b.token ≡ AnEof → Constructs old b → Outcome (mode_of m) b new next
unfolding rules perform
left_in Mode.Initial old new next e by = left Mode.Initial _ old new next (λ b. record { token = refl; attrs = refl }) (λ b. refl) by
left_in Mode.BeforeHtml old new next e by = left Mode.BeforeHtml _ old new next (λ b. record { token = refl; attrs = refl }) (λ b. refl) by
left_in Mode.BeforeHead old new next e by = left Mode.BeforeHead _ old new next (λ b. record { token = refl; attrs = refl }) (λ b. refl) by
left_in Mode.InHead old new next e by = left Mode.InHead _ old new next (λ b. record { token = refl; attrs = refl }) (λ b. refl) by
left_in Mode.InHeadNoscript old new next e by = left Mode.InHeadNoscript _ old new next (λ b. record { token = refl; attrs = refl }) (λ b. refl) by
left_in Mode.AfterHead old new next e by = left Mode.AfterHead _ old new next (λ b. record { token = refl; attrs = refl }) (λ b. refl) by
left_in _ old new next e by = absurd (cc)

pub end_leaves : (old new : TreeBuilder) (next : Next) → at_end old.mode ≡ AtEnd.Leave → IfSome (leaving old.mode) (λ actions. LeavesBy actions old new next) →
    ProcessesBy Dispatcher AnEof old new next
end_leaves old new next e by within b token stands = by_current old.mode b new next token stands.mode (left_in old.mode old new next e by within b token stands)

-- ---- the text of an element ends

text_mode : (m : Mode) → at_end m ≡ AtEnd.EndText → m ≡ Mode.Text
text_mode Mode.Text e = refl
text_mode _ e = absurd (cc)

pub end_of_text : (old new : TreeBuilder) (next : Next) → at_end old.mode ≡ AtEnd.EndText → EndsPlainly old → next ≡ Next.Again →
    (is_entered_plainly old.original ≡ true → Performs (Pop ∷ SwitchTo (mode_of old.original) ∷ []) old new) → ProcessesBy Dispatcher AnEof old new next
unfolding rules perform
end_of_text old new next e plain again by within b token stands =
    let text = text_mode old.mode e in
    let later : returns_later old.mode ≡ true = ap returns_later text in
    let back = by (plain.original later) within b stands in
    let stood = subst (λ (m : StandardMode). Constructs new (record (perform Pop b) { mode = m })) (sym (stands.original later)) back in
    subst (λ (n : Next). Outcome Dispatcher b new n) (sym again)
    (by_current Mode.Text b new Next.Again token (stands.mode ∙ ap mode_of text)
    (outcome (mode_of Mode.Text) b new (Pop ∷ SwitchBack ∷ []) Next.Again stood (record { token = refl; attrs = refl }) (taken_of AnEof b token (rules (mode_of Mode.Text)))))

-- ---- nothing is left to do

stopped : (mode : StandardMode) (b : Building) (new : TreeBuilder) → b.token ≡ AnEof → chosen AnEof b (rules mode) ≡ plainly (Stop ∷ []) Next.Done → Constructs new b →
    Outcome mode b new Next.Done
unfolding perform
stopped mode b new token e stands = outcome mode b new (Stop ∷ []) Next.Done stands (record { token = refl; attrs = refl }) (taken_of AnEof b token (rules mode) ∙ e)

stopped_in : (m : Mode) (b : Building) (new : TreeBuilder) → at_end m ≡ AtEnd.Stop → b.token ≡ AnEof → Constructs new b → Outcome (mode_of m) b new Next.Done
unfolding rules
stopped_in Mode.AfterBody b new e token stands = stopped (mode_of Mode.AfterBody) b new token refl stands
stopped_in Mode.AfterAfterBody b new e token stands = stopped (mode_of Mode.AfterAfterBody) b new token refl stands
stopped_in Mode.InFrameset b new e token stands = stopped (mode_of Mode.InFrameset) b new token refl stands
stopped_in Mode.AfterFrameset b new e token stands = stopped (mode_of Mode.AfterFrameset) b new token refl stands
stopped_in Mode.AfterAfterFrameset b new e token stands = stopped (mode_of Mode.AfterAfterFrameset) b new token refl stands
stopped_in _ b new e token stands = absurd (cc)

pub end_stops : (old : TreeBuilder) → at_end old.mode ≡ AtEnd.Stop → ProcessesBy Dispatcher AnEof old old Next.Done
end_stops old e within b token stands = by_current old.mode b old Next.Done token stands.mode (stopped_in old.mode b old e token stands)

-- ---- content that is in no template

in_no_template : (acts others : List Act) (modes : List StandardMode) → modes ≡ [] → elim (not (is_empty modes) && true) [ true ↦ others | false ↦ acts ] ≡ acts
in_no_template acts others modes e = ap (λ (ms : List StandardMode). elim (not (is_empty ms) && true) [ true ↦ others | false ↦ acts ]) e

body_stops : (b : Building) (new : TreeBuilder) → b.template_modes ≡ [] → b.token ≡ AnEof → Constructs new b → Outcome InBody b new Next.Done
unfolding rules
body_stops b new none token stands = stopped InBody b new token (in_no_template (does Stop [] ∷ []) (goes (Use InTemplate) ∷ []) b.template_modes none) stands

body_used : (mode : StandardMode) (b : Building) (new : TreeBuilder) (next : Next) → b.token ≡ AnEof → chosen AnEof b (rules mode) ≡ goes (Use InBody) ∷ [] → Outcome InBody b new next →
    Outcome mode b new next
body_used mode b new next token e o = outcome_by mode InBody b new next (taken_of AnEof b token (rules mode) ∙ e) o

table_used : (mode : StandardMode) (b : Building) (new : TreeBuilder) (next : Next) → b.token ≡ AnEof → chosen AnEof b (rules mode) ≡ goes (Use InTable) ∷ [] → Outcome InBody b new next →
    Outcome mode b new next
unfolding rules
table_used mode b new next token e o = outcome_by mode InTable b new next (taken_of AnEof b token (rules mode) ∙ e) (body_used InTable b new next token refl o)

content_ends : (m : Mode) (b : Building) (new : TreeBuilder) (next : Next) → at_end m ≡ AtEnd.EndContent → keeps_characters m ≡ false → b.token ≡ AnEof → Outcome InBody b new next →
    Outcome (mode_of m) b new next
unfolding rules
content_ends Mode.InTableText b new next e settled token o = absurd (true≢false settled)
content_ends Mode.InBody b new next e settled token o = o
content_ends Mode.InTable b new next e settled token o = body_used (mode_of Mode.InTable) b new next token refl o
content_ends Mode.InCaption b new next e settled token o = body_used (mode_of Mode.InCaption) b new next token refl o
content_ends Mode.InColumnGroup b new next e settled token o = body_used (mode_of Mode.InColumnGroup) b new next token refl o
content_ends Mode.InCell b new next e settled token o = body_used (mode_of Mode.InCell) b new next token refl o
content_ends Mode.InTableBody b new next e settled token o = table_used (mode_of Mode.InTableBody) b new next token refl o
content_ends Mode.InRow b new next e settled token o = table_used (mode_of Mode.InRow) b new next token refl o
content_ends _ b new next e settled token o = absurd (cc)

pub end_of_content : (old new : TreeBuilder) (next : Next) → at_end old.mode ≡ AtEnd.EndContent → EndsPlainly old → ProcessesBy InBody AnEof old new next →
    ProcessesBy Dispatcher AnEof old new next
end_of_content old new next e plain by within b token stands =
    by_current old.mode b new next token stands.mode (content_ends old.mode b new next e plain.settled token (by within b token stands))

no_items : {A : Type 0} → (xs : List A) → length xs ≡ 0 → xs ≡ []
no_items [] e = refl
no_items (x ∷ xs) e = absurd (omega (arith, e))

-- no template is open, so the page ends
pub no_template_ends : (old : TreeBuilder) (b : Building) → length old.template_modes.items ≡ 0 → b.token ≡ AnEof → Constructs old b → Outcome InBody b old Next.Done
no_template_ends old b none token stands =
    body_stops b old (stands.template_modes.0 ∙ ap (λ (ms : List Mode). map mode_of (reverse ms)) (no_items old.template_modes.items none)) token stands

-- ---- templates

abbrev end_acts : Bool → List Act
end_acts x = elim (not x && true) [ true ↦ plainly (Stop ∷ []) Next.Done | false ↦ plainly closing_template Next.Again ]

end_row : (b : Building) (x : Bool) → is_open (codes "template") b.tree ≡ x → chosen AnEof b (rules InTemplate) ≡ end_acts x
unfolding rules
end_row b x e = ap end_acts e

pub template_stops : (b : Building) (new : TreeBuilder) → b.token ≡ AnEof → is_open (codes "template") b.tree ≡ false → Constructs new b → Outcome InTemplate b new Next.Done
template_stops b new token e stands = stopped InTemplate b new token (end_row b false e) stands

pub template_ends : (b : Building) (new : TreeBuilder) → b.token ≡ AnEof → is_open (codes "template") b.tree ≡ true → Constructs new (all_performed closing_template b) →
    Outcome InTemplate b new Next.Again
unfolding perform
template_ends b new token e stands =
    outcome InTemplate b new closing_template Next.Again stands (record { token = refl; attrs = refl }) (taken_of AnEof b token (rules InTemplate) ∙ end_row b true e)

template_mode : (m : Mode) → at_end m ≡ AtEnd.EndTemplate → m ≡ Mode.InTemplate
template_mode Mode.InTemplate e = refl
template_mode _ e = absurd (cc)

pub end_of_template : (old new : TreeBuilder) (next : Next) → at_end old.mode ≡ AtEnd.EndTemplate → ProcessesBy InTemplate AnEof old new next → ProcessesBy Dispatcher AnEof old new next
end_of_template old new next e by within b token stands =
    by_current Mode.InTemplate b new next token (stands.mode ∙ ap mode_of (template_mode old.mode e)) (by within b token stands)

-- "if the stack of template insertion modes is not empty, then process the token using the rules for in template"
in_some_template : (acts others : List Act) (modes : List StandardMode) → (modes ≡ [] → ⊥) → elim (not (is_empty modes) && true) [ true ↦ others | false ↦ acts ] ≡ others
in_some_template acts others [] some = absurd (some refl)
in_some_template acts others (mode ∷ modes) some = refl

some_modes : (old : TreeBuilder) (b : Building) → (length old.template_modes.items ≡ 0 → ⊥) → Constructs old b → b.template_modes ≡ [] → ⊥
some_modes old b some stands none =
    some (sym (ap (λ (ms : List StandardMode). length ms) (sym none ∙ stands.template_modes.0) ∙ length-map (reverse old.template_modes.items) mode_of
    ∙ length-reverse old.template_modes.items))

pub body_in_template : (old new : TreeBuilder) (next : Next) → (length old.template_modes.items ≡ 0 → ⊥) → ProcessesBy InTemplate AnEof old new next → ProcessesBy InBody AnEof old new next
unfolding rules
body_in_template old new next some by within b token stands =
    outcome_by InBody InTemplate b new next
    (taken_of AnEof b token (rules InBody) ∙ in_some_template (does Stop [] ∷ []) (goes (Use InTemplate) ∷ []) b.template_modes (some_modes old b some stands)) (by within b token stands)

-- ---- pending table character tokens come first

pub text_at_end : (m : Mode) → at_end m ≡ AtEnd.EndTableText → keeps_characters m ≡ true
text_at_end Mode.InTableText e = refl
text_at_end _ e = absurd (cc)

abbrev pub is_text_end : AtEnd → Bool
is_text_end AtEnd.EndTableText = true
is_text_end _ = false

-- none are pending where something else is done with the end of the page
pub no_text_at_end : (m : Mode) (at : AtEnd) → at_end m ≡ at → is_text_end at ≡ false → keeps_characters m ≡ true → ⊥
no_text_at_end Mode.InTableText at e other keeps = true≢false (ap is_text_end e ∙ other)
no_text_at_end _ at e other keeps = true≢false (sym keeps)
