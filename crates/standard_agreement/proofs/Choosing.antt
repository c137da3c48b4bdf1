-- Which rules of both definitions say the same of a token, as a computation over the two tables.
use Rattle.std.specs.Prelude.{◌≡◌, refl, ℕ, Bool, true, false, cond, not, ◌&&◌, ◌||◌, ◌==◌, List, [], ◌∷◌, Option, None, Some, bytes_eq, codes, drop, take, zero, suc}
use Rattle.std.specs.List.{flat_map, list_all, list_any}
use Rattle.standard_tokens.specs.Reading.{switch_at}
use Rattle.standard_tokens.specs.States.{PLAINTEXT, RAWTEXT, RCDATA, ScriptData, State}
use Rattle.standard_tokens.specs.Machine.{no_doctype}
use Rattle.standard_tokens.specs.Tokens.{Token, AChar, AComment, ADoctype, AStart, AnEnd, AnEof}
use Rattle.standard_rules.specs.Building.{fits as old_fits, is_space, own_name}
use Rattle.standard_rules.specs.PlainTrees.{classes, flow_contexts, names_of}
use Rattle.standard_rules.specs.RuleWords as O
use Rattle.standard_rules.specs.TreeRules.{rules as old_rules}
use Rattle.standard_rules.specs.TreeTokens.{is_among}
use Rattle.standard_trees.specs.Building.{fits}
use Rattle.standard_trees.specs.RuleWords as N
use Rattle.standard_trees.specs.TreeRules.{rules}
use Rattle.standard_agreement.proofs.Names.{alike, known, same}

-- ---- words

abbrev pub to_mode : O.Mode → N.Mode
to_mode O.Initial = N.Initial
to_mode O.BeforeHtml = N.BeforeHtml
to_mode O.BeforeHead = N.BeforeHead
to_mode O.InHead = N.InHead
to_mode O.AfterHead = N.AfterHead
to_mode O.InBody = N.InBody
to_mode O.Text = N.Text
to_mode O.InTable = N.InTable
to_mode O.InCaption = N.InCaption
to_mode O.InColumnGroup = N.InColumnGroup
to_mode O.InTableBody = N.InTableBody
to_mode O.InRow = N.InRow
to_mode O.InCell = N.InCell
to_mode O.AfterBody = N.AfterBody
to_mode O.AfterAfterBody = N.AfterAfterBody

-- the modes behind the start tag of `head`
abbrev pub is_later : O.Mode → Bool
is_later O.Initial = false
is_later O.BeforeHtml = false
is_later O.BeforeHead = false
is_later _ = true

abbrev pub is_mode : O.Mode → N.Mode → Bool
is_mode O.InHead N.InHead = true
is_mode O.AfterHead N.AfterHead = true
is_mode O.InBody N.InBody = true
is_mode O.InTable N.InTable = true
is_mode O.InCaption N.InCaption = true
is_mode O.InColumnGroup N.InColumnGroup = true
is_mode O.InTableBody N.InTableBody = true
is_mode O.InRow N.InRow = true
is_mode O.InCell N.InCell = true
is_mode O.AfterBody N.AfterBody = true
is_mode O.AfterAfterBody N.AfterAfterBody = true
is_mode _ _ = false

abbrev pub is_scope : O.ScopeKind → N.ScopeKind → Bool
is_scope O.Scope N.Scope = true
is_scope O.ButtonScope N.ButtonScope = true
is_scope O.ListItemScope N.ListItemScope = true
is_scope O.TableScope N.TableScope = true
is_scope _ _ = false

abbrev pub same_lists : List (List ℕ) → List (List ℕ) → Bool
same_lists [] [] = true
same_lists (x ∷ xs) (y ∷ ys) = bytes_eq x y && same_lists xs ys
same_lists _ _ = false

-- two lists that hold the same ones of the known names
abbrev pub like_lists : List (List ℕ) → List (List ℕ) → Bool
like_lists names others = elim (same_lists names others) [ true ↦ true | false ↦ alike names others ]

abbrev pub old_list : List ℕ → O.Names → List (List ℕ)
old_list name O.Own = name ∷ []
old_list name (O.These names) = names

abbrev pub new_list : List ℕ → N.Names → List (List ℕ)
new_list name N.Own = name ∷ []
new_list name (N.These names) = names

abbrev pub like_names : List ℕ → N.Names → O.Names → Bool
like_names name names others = like_lists (new_list name names) (old_list name others)

-- ---- conditions

-- the condition of a rule, and whether it is met
pub record Case : Type 0 where
  pub condition : O.Condition
  pub met : Bool

abbrev pub case : O.Condition → Bool → Case
case condition met = record { condition = condition; met = met }

-- the one condition is the other (true), or its contrary (false)
abbrev pub likeness : List ℕ → O.Condition → N.Condition → Option Bool
likeness name O.NoForm N.FormPointerSet = Some false
likeness name (O.NoListed others) (N.Listed names) = cond (like_names name names others) (Some false) None
likeness name (O.CurrentNode others) (N.CurrentNode names) = cond (like_names name names others) (Some true) None
likeness name (O.InScope kind others) (N.InScope scope names) = cond (is_scope kind scope && like_names name names others) (Some true) None
likeness name _ _ = None

abbrev pub by_case : List ℕ → Option Case → N.Condition → Option Bool
by_case name None condition = None
by_case name (Some known) condition = elim (likeness name known.condition condition) [ None ↦ None | Some straight ↦ Some (same straight known.met) ]

abbrev pub none_among : List (List ℕ) → List (List ℕ) → Bool
none_among names others = list_all (λ name. not (is_among name others)) names

-- what is sure of a condition: no template is open, the document is in no-quirks mode, and only known elements are open
abbrev pub decided : Bool → List ℕ → Option Case → N.Condition → Option Bool
decided page name now N.TemplateOpen = Some false
decided page name now N.TemplateModeSet = Some false
decided page name now N.Quirks = Some false
decided page name now N.Fragment = cond page (Some false) None
decided page name now (N.Context names) = cond (none_among (new_list name names) flow_contexts) (Some false) None
decided page name now (N.InScope kind names) =
    cond (none_among (new_list name names) known) (Some false) (by_case name now (N.InScope kind names))
decided page name now condition = by_case name now condition

pub data Verdict : Type 0 where
  Ever Never Unsure : Verdict

abbrev pub tested : Bool → List ℕ → Option Case → N.Test → Option Bool
tested page name now (N.is condition) = decided page name now condition
tested page name now (N.isnt condition) = elim (decided page name now condition) [ None ↦ None | Some met ↦ Some (not met) ]

abbrev pub unsure_or : Verdict → Verdict
unsure_or Never = Never
unsure_or _ = Unsure

abbrev pub verdict : Bool → List ℕ → Option Case → List N.Test → Verdict
verdict page name now [] = Ever
verdict page name now (test ∷ tests) =
    elim (tested page name now test) [
      | None ↦ unsure_or (verdict page name now tests)
      | Some met ↦ elim met [ true ↦ verdict page name now tests | false ↦ Never ]
    ]

-- ---- actions

-- the element that was just inserted
abbrev pub is_fresh : Option (List ℕ) → Bool
is_fresh None = false
is_fresh (Some name) = true

abbrev pub is_form : Option (List ℕ) → Bool
is_form None = false
is_form (Some name) = bytes_eq name (codes "form")

abbrev pub fits_act : List ℕ → Option (List ℕ) → N.Action → O.Action → Bool
fits_act name fresh N.InsertCharacter O.InsertCharacter = true
fits_act name fresh N.InsertComment O.InsertComment = true
fits_act name fresh N.InsertElement O.InsertElement = is_among name known
fits_act name fresh (N.InsertNamed new) (O.InsertNamed old) = bytes_eq new old && is_among new known
fits_act name fresh N.Pop O.Pop = true
fits_act name fresh N.FramesetNotOk O.FramesetNotOk = true
fits_act name fresh N.ReconstructFormatting O.Reconstruct = true
fits_act name fresh N.CloseP O.CloseP = true
fits_act name fresh N.ImpliedEndTags O.ImpliedEndTags = true
fits_act name fresh (N.ImpliedEndTagsBut names) (O.ImpliedEndTagsBut others) = like_names name names others
fits_act name fresh N.ListElement O.ListElement = is_fresh fresh
fits_act name fresh N.ListMarker O.ListMarker = true
fits_act name fresh N.ClearListToMarker O.ClearToMarker = true
fits_act name fresh N.AdoptionAgency O.AdoptionAgency = true
fits_act name fresh N.SetFormPointer O.SetForm = is_form fresh
fits_act name fresh N.EndForm O.EndForm = true
fits_act name fresh N.AnyOtherEndTag O.AnyOtherEndTag = true
fits_act name fresh N.SkipNextLineFeed O.DropLineFeed = true
fits_act name fresh (N.PopUntil names) (O.PopUntil others) = like_names name names others
fits_act name fresh (N.PopUpTo names) (O.ClearStackTo others) = like_lists (new_list name names) (codes "html" ∷ codes "template" ∷ others)
fits_act name fresh (N.CloseItems names) (O.CloseItems others) = like_lists names others
fits_act name fresh _ _ = false

abbrev pub fresh_after : List ℕ → N.Action → Option (List ℕ)
fresh_after name N.InsertElement = Some name
fresh_after name (N.InsertNamed new) = Some new
fresh_after name _ = None

-- an action of which no later rule depends
abbrev pub is_idle : N.Action → Bool
is_idle N.FramesetNotOk = true
is_idle N.SetHeadPointer = true
is_idle _ = false

abbrev pub pops_if : List ℕ → N.Action → List N.Test → List O.Action → Bool
pops_if name N.Pop (N.is (N.CurrentNode names) ∷ []) (O.PopIf others ∷ acts) = like_lists (new_list name names) others
pops_if name _ _ _ = false

-- ---- what comes after the actions

abbrev pub is_none : {A : Type 0} → Option A → Bool
is_none None = true
is_none (Some a) = false

abbrev pub is_empty : {A : Type 0} → List A → Bool
is_empty [] = true
is_empty (a ∷ more) = false

abbrev pub is_text_state : Option State → N.TextState → Bool
is_text_state (Some RCDATA) N.RcdataText = true
is_text_state (Some RAWTEXT) N.RawText = true
is_text_state (Some ScriptData) N.ScriptText = true
is_text_state (Some PLAINTEXT) N.PlainText = true
is_text_state _ _ = false

abbrev pub only_text : List N.Act → Bool
only_text (N.does N.KeepMode [] ∷ N.does (N.SwitchTo N.Text) [] ∷ []) = true
only_text _ = false

abbrev pub only_reprocess : List N.Act → Bool
only_reprocess (N.goes N.Reprocess ∷ []) = true
only_reprocess _ = false

-- the last actions of the whole definition, where the other one has none left
abbrev pub last_act : List ℕ → O.Next → N.Action → List N.Act → Bool
last_act name O.ReadText (N.TokenizerTo state) more = is_text_state (switch_at name) state && only_text more
last_act name O.ResetMode N.ResetMode more = is_empty more
last_act name O.ResetAndReprocess N.ResetMode more = only_reprocess more
last_act name O.SwitchBack N.SwitchBack more = is_empty more
last_act name O.Stop N.Stop more = is_empty more
last_act name _ _ _ = false

abbrev pub ends : (O.Mode → Bool) → Option N.Mode → O.Next → Bool
ends ignored None O.Stay = true
ends ignored None (O.UseRulesFor mode) = ignored mode
ends ignored (Some new) (O.SwitchTo mode) = is_mode mode new
ends ignored _ _ = false

abbrev pub goes_fit : Option N.Mode → O.Next → N.Way → Bool
goes_fit None (O.UseRulesFor mode) (N.Use new) = is_mode mode new
goes_fit (Some new) (O.ReprocessIn mode) N.Reprocess = is_mode mode new
goes_fit _ _ _ = false

abbrev pub switch_of : N.Action → Option N.Mode
switch_of (N.SwitchTo mode) = Some mode
switch_of _ = None

abbrev pub without_first : List O.Action → List O.Action
without_first [] = []
without_first (a ∷ more) = more

abbrev pub without_idle : List O.Action → List O.Action
without_idle (O.FramesetNotOk ∷ more) = more
without_idle acts = acts

abbrev pub first_fits : List ℕ → Option (List ℕ) → N.Action → List O.Action → Bool
first_fits name fresh action [] = false
first_fits name fresh action (a ∷ more) = fits_act name fresh action a

-- what is done by the one definition is done by the other; `turn` is the mode to which has been switched so far
abbrev pub follows : Bool → List ℕ → (O.Mode → Bool) → O.Next → Option (List ℕ) → Option N.Mode → Option Case → List O.Action → List N.Act → Bool
follows page name ignored next fresh turn now old [] = is_empty old && ends ignored turn next
follows page name ignored next fresh turn now old (N.goes way ∷ more) = is_empty old && (is_empty more && goes_fit turn next way)
follows page name ignored next fresh turn now old (N.does action tests ∷ more) =
    elim (verdict page name now tests) [
      | Never ↦ follows page name ignored next fresh turn now old more
      | Unsure ↦ elim (is_idle action) [
        | true ↦ follows page name ignored next None turn None (without_idle old) more
        | false ↦ pops_if name action tests old && follows page name ignored next None turn None (without_first old) more
      ]
      | Ever ↦ elim (first_fits name fresh action old) [
        | true ↦ follows page name ignored next (fresh_after name action) turn None (without_first old) more
        | false ↦ elim (is_idle action) [
          | true ↦ follows page name ignored next None turn None old more
          | false ↦ elim (switch_of action) [
            | Some mode ↦ follows page name ignored next fresh (Some mode) None old more
            | None ↦ is_empty old && (is_none turn && last_act name next action more)
          ]
        ]
      ]
    ]

-- ---- rules

abbrev pub is_always : O.Condition → Bool
is_always O.Always = true
is_always _ = false

abbrev pub is_outside : O.Next → Bool
is_outside O.NoRule = true
is_outside _ = false

abbrev pub is_stay : O.Next → Bool
is_stay O.Stay = true
is_stay _ = false

-- the token is ignored in that mode
abbrev pub is_ignored : Token → List O.Rule → Bool
is_ignored t [] = false
is_ignored t (O.rule pattern condition acts next ∷ more) =
    elim (old_fits pattern t) [ true ↦ is_always condition && (is_empty acts && is_stay next) | false ↦ is_ignored t more ]

-- the rule that is taken, if that is sure
abbrev pub resolved : Bool → Token → Option Case → List N.Rule → Option (List N.Act)
resolved page t now [] = None
resolved page t now (N.rule patterns tests acts ∷ more) =
    elim (list_any (λ pattern. fits pattern t) patterns) [
      | false ↦ resolved page t now more
      | true ↦ elim (verdict page (own_name t) now tests) [ Ever ↦ Some acts | Never ↦ resolved page t now more | Unsure ↦ None ]
    ]

abbrev pub ignored_in : Token → O.Mode → Bool
ignored_in t mode = is_ignored t (old_rules mode)

abbrev pub agrees_on : Bool → Token → Option Case → List N.Rule → List O.Action → O.Next → Bool
agrees_on page t now news acts next =
    elim (is_outside next) [
      | true ↦ true
      | false ↦ elim (resolved page t now news) [ None ↦ false | Some more ↦ follows page (own_name t) (ignored_in t) next None None now acts more ]
    ]

abbrev pub agrees : Bool → Token → Option Case → List N.Rule → List O.Rule → Bool
agrees page t now news [] = true
agrees page t now news (O.rule pattern condition acts next ∷ more) =
    elim (old_fits pattern t) [
      | false ↦ agrees page t now news more
      | true ↦ elim (is_always condition) [
        | true ↦ agrees_on page t now news acts next
        | false ↦ is_none now && (agrees_on page t (Some (case condition true)) news acts next && agrees page t (Some (case condition false)) news more)
      ]
    ]

-- ---- tokens

abbrev pub char_like : ℕ → ℕ
char_like c = elim (c == 0) [ true ↦ 0 | false ↦ elim (is_space c) [ true ↦ 32 | false ↦ 97 ] ]

-- a token that the same rules are for
abbrev pub like : Token → Token
like (AStart name attrs closing) = AStart name [] false
like (AnEnd name) = AnEnd name
like (AChar c) = AChar (char_like c)
like (AComment text) = AComment []
like (ADoctype doctype) = ADoctype no_doctype
like AnEof = AnEof

-- the names of start tags behind that of `head`
abbrev pub start_names : List (List ℕ)
start_names = codes "body" ∷ flat_map names_of classes

abbrev pub agree_in : O.Mode → Token → Bool
agree_in mode t = agrees false t None (rules (to_mode mode)) (old_rules mode)

-- the end tag of `html` behind a body is ignored in fragments
abbrev pub end_agrees : O.Mode → List ℕ → Bool
end_agrees O.AfterBody name = bytes_eq name (codes "html") || agree_in O.AfterBody (AnEnd name)
end_agrees mode name = agree_in mode (AnEnd name)

abbrev pub start_agrees : O.Mode → List ℕ → Bool
start_agrees mode name = agree_in mode (AStart name [] false)

abbrev pub others_agree : O.Mode → Bool
others_agree O.InTable = list_all (agree_in O.InTable) (AComment [] ∷ AnEof ∷ [])
others_agree mode = list_all (agree_in mode) (AChar 0 ∷ AChar 32 ∷ AChar 97 ∷ AComment [] ∷ AnEof ∷ [])

pub in_halves : (test : List ℕ → Bool) (n : ℕ) (names : List (List ℕ)) → list_all test (take n names) ≡ true → list_all test (drop n names) ≡ true → list_all test names ≡ true
in_halves test zero names h k = k
in_halves test (suc n) [] h k = refl
in_halves test (suc n) (name ∷ names) h k = by_first (test name) h (λ j. in_halves test n names j k)
  where
    by_first : (x : Bool) → x && list_all test (take n names) ≡ true → (list_all test (take n names) ≡ true → list_all test names ≡ true) → x && list_all test names ≡ true
    by_first true j later = later j
    by_first false j later = cc
