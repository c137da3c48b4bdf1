-- Where the rules send a token. Of a token only its kind counts, and its tag's name where that is among `names`; of the building only
-- its mode. `ends` follows every rule that may then be taken.
use Rattle.std.specs.Prelude.{◌≡◌, ◌||◌, refl, ℕ, zero, suc, Bool, true, false, not, ◌==◌, ◌&&◌, List, [], ◌∷◌, Option, None, Some, bytes_eq, codes}
use Rattle.std.specs.List.{list_all, list_any}
use Rattle.standard_tokens.specs.Machine.{no_doctype}
use Rattle.standard_tokens.specs.Tokens.{Token, AChar, AComment, ADoctype, AStart, AnEnd, AnEof}
use Rattle.standard_trees.specs.RuleWords.{Act, Action, AdjustSvgName}
use Rattle.standard_trees.specs.RuleWords.{Dispatcher, EndTagOf, ForeignContent, InBody, InColumnGroup}
use Rattle.standard_trees.specs.RuleWords.{InRow, InTable, InTableBody, InTableText, InTemplate}
use Rattle.standard_trees.specs.RuleWords.{KeepMode, Mode, Pattern, PopForeignElements, PopTemplateMode, PushTemplateMode, Rename, Reprocess, ResetMode, Rule}
use Rattle.standard_trees.specs.RuleWords.{StartTagBut, StartTagOf, SwitchBack, SwitchTo, Test, Text, Use, UseCurrentMode, UseForEachPending, Way}
use Rattle.standard_trees.specs.RuleWords.{does, goes, rule}
use Rattle.standard_trees.specs.TreeRules.{rules}
use Rattle.standard_trees.specs.GrowingTree.{is_among}
use Rattle.standard_trees.specs.Building.{fits, is_empty, is_space, renamed}
use Rattle.standard_trees.specs.Laws.{is_plain, is_real}

-- ---- tokens

-- the names of tags that decide where a token goes
abbrev pub names : List (List ℕ)
names = codes "html" ∷ codes "head" ∷ codes "body" ∷ codes "br" ∷ codes "base" ∷ codes "basefont" ∷ codes "bgsound" ∷ codes "link" ∷ codes "meta"
    ∷ codes "title" ∷ codes "noscript" ∷ codes "noframes" ∷ codes "script" ∷ codes "style" ∷ codes "template" ∷ codes "frameset" ∷ codes "plaintext"
    ∷ codes "image" ∷ codes "textarea" ∷ codes "xmp" ∷ codes "iframe" ∷ codes "noembed" ∷ codes "caption" ∷ codes "colgroup" ∷ codes "col"
    ∷ codes "tbody" ∷ codes "tfoot" ∷ codes "thead" ∷ codes "td" ∷ codes "th" ∷ codes "tr" ∷ codes "table" ∷ codes "input" ∷ codes "form"
    ∷ codes "frame" ∷ []

abbrev pub known_name : List ℕ → List ℕ
known_name name = elim (is_among name names) [ true ↦ name | false ↦ [] ]

abbrev pub char_like : ℕ → ℕ
char_like c = elim (c == 0) [ true ↦ 0 | false ↦ elim (is_space c) [ true ↦ 32 | false ↦ 97 ] ]

-- a token that the same rules are for
abbrev pub like : Token → Token
like (AStart name attrs closing) = AStart (known_name name) [] false
like (AnEnd name) = AnEnd (known_name name)
like (AChar c) = AChar (char_like c)
like (AComment text) = AComment []
like (ADoctype doctype) = ADoctype no_doctype
like AnEof = AnEof

abbrev pub is_end_of_file : Token → Bool
is_end_of_file AnEof = true
is_end_of_file _ = false

-- ---- one act

-- the action leads to a mode that is meant for it; `now` is the mode before it, where that is sure
abbrev pub may_do : Token → Option Mode → Action → Bool
may_do t now (SwitchTo new) = is_real new
may_do t now (PushTemplateMode new) = is_plain new && not (is_end_of_file t)
may_do t now PopTemplateMode = not (is_end_of_file t)
may_do t None KeepMode = false
may_do t (Some now) KeepMode = is_plain now
may_do t now _ = true

-- what an action does to the mode and to the token
pub data Change : Type 0 where
  Same Unsure : Change
  To : Mode → Change
  Renames : List ℕ → Change

abbrev pub change : Action → Change
change (SwitchTo new) = To new
change (Rename name) = Renames name
change SwitchBack = Unsure
change ResetMode = Unsure
change AdjustSvgName = Unsure
change _ = Same

-- the mode after that, where it and the token are sure
abbrev pub mode_after : Change → List Test → Option Mode → Option Mode
mode_after one tests None = None
mode_after Same tests (Some now) = Some now
mode_after Unsure tests (Some now) = None
mode_after (To new) [] (Some now) = Some new
mode_after (To new) (test ∷ tests) (Some now) = None
mode_after (Renames name) [] (Some now) = Some now
mode_after (Renames name) (test ∷ tests) (Some now) = None

abbrev pub token_after : Change → Token → Token
token_after (Renames name) t = like (renamed name t)
token_after _ t = t

abbrev pub may_go : (Token → Mode → Mode → Bool) → Token → Option Mode → Way → Bool
may_go again t None way = false
may_go again t (Some now) Reprocess = again t now now
may_go again t (Some now) UseCurrentMode = again t now now
may_go again t (Some now) (Use mode) = again t mode now
may_go again t (Some now) (UseForEachPending mode) = false

-- ---- what a rule says

abbrev pub may_perform : (Token → Mode → Mode → Bool) → Token → Option Mode → List Act → Bool
may_perform again t now [] = true
may_perform again t now (does action tests ∷ acts) =
    elim (may_do t now action) [
      | true ↦ may_perform again (token_after (change action) t) (mode_after (change action) tests now) acts
      | false ↦ false
    ]
may_perform again t now (goes way ∷ acts) = elim (may_go again t now way) [ true ↦ may_perform again t None acts | false ↦ false ]

-- such an act is harmless whatever the mode
abbrev pub is_quiet : Act → Bool
is_quiet (does action tests) = may_do AnEof None action
is_quiet (goes way) = false

abbrev pub are_quiet : List Act → Bool
are_quiet acts = list_all is_quiet acts

-- of "in body" the rules that are only harmless are passed over: they send no token anywhere
abbrev pub passes_over : Mode → List Act → Bool
passes_over InBody acts = are_quiet acts
passes_over _ acts = false

-- what may be taken of a token like this passes the test
abbrev pub all_taken : (List Act → Bool) → (List Act → Bool) → Token → List Rule → Bool
all_taken over test t [] = true
all_taken over test t (rule patterns tests acts ∷ more) =
    elim (over acts) [
      | true ↦ all_taken over test t more
      | false ↦ elim (list_any (λ pattern. fits pattern t) patterns) [
        | false ↦ all_taken over test t more
        | true ↦ elim (test acts) [ false ↦ false | true ↦ elim (is_empty tests) [ true ↦ true | false ↦ all_taken over test t more ] ]
      ]
    ]

-- the rules for a mode come to an end with such a token where the insertion mode is `now`, rules using rules at most so deep; where `by_hand`
-- says so, it is shown in another way
abbrev pub ends : (Token → Mode → Bool) → ℕ → Token → Mode → Mode → Bool
ends by_hand zero t mode now = false
ends by_hand (suc n) t mode now =
    elim (by_hand t mode) [
      | true ↦ true
      | false ↦ elim (is_real mode) [
        | true ↦ all_taken (passes_over mode) (may_perform (ends by_hand n) t (Some now)) t (rules mode)
        | false ↦ false
      ]
    ]

abbrev pub never : Token → Mode → Bool
never t mode = false

-- at the end of the file the number of open templates counts
abbrev pub is_body_at_end : Token → Mode → Bool
is_body_at_end AnEof InBody = true
is_body_at_end t mode = false

-- the number of open elements counts for this tag
abbrev pub is_table_tag : Token → Bool
is_table_tag (AStart name attrs closing) = bytes_eq name (codes "table")
is_table_tag _ = false

abbrev pub is_among_tables : Mode → Bool
is_among_tables InTable = true
is_among_tables InTableBody = true
is_among_tables InRow = true
is_among_tables InColumnGroup = true
is_among_tables _ = false

abbrev pub is_template_mode : Mode → Bool
is_template_mode InTemplate = true
is_template_mode _ = false

-- ---- computed: they come to an end

abbrev pub depth : ℕ
depth = 9

-- the start tag `table` is left to `tables_end`
abbrev pub start_ends : Mode → List ℕ → Bool
start_ends now name = bytes_eq name (codes "table") || ends never depth (AStart name [] false) now now

pub starts_end : (now : Mode) → is_plain now ≡ true → list_all (start_ends now) ([] ∷ names) ≡ true
unfolding rules
starts_end Dispatcher h = cc
starts_end ForeignContent h = cc
starts_end Text h = cc
starts_end InTableText h = cc
starts_end _ h = refl

pub ends_end : (now : Mode) → is_plain now ≡ true → list_all (λ name. ends never depth (AnEnd name) now now) ([] ∷ names) ≡ true
unfolding rules
ends_end Dispatcher h = cc
ends_end ForeignContent h = cc
ends_end Text h = cc
ends_end InTableText h = cc
ends_end _ h = refl

abbrev pub others : List Token
others = AChar 0 ∷ AChar 32 ∷ AChar 97 ∷ AComment [] ∷ ADoctype no_doctype ∷ []

pub others_end : (now : Mode) → is_plain now ≡ true → list_all (λ t. ends never depth t now now) others ≡ true
unfolding rules
others_end Dispatcher h = cc
others_end ForeignContent h = cc
others_end Text h = cc
others_end InTableText h = cc
others_end _ h = refl

pub chars_end : (now : Mode) → is_real now ≡ true → list_all (λ c. ends never depth (AChar c) InBody now) (0 ∷ 32 ∷ 97 ∷ []) ≡ true
unfolding rules
chars_end Dispatcher h = cc
chars_end ForeignContent h = cc
chars_end _ h = refl

pub end_ends : (now : Mode) → is_plain now ≡ true → is_template_mode now ≡ false → ends is_body_at_end depth AnEof now now ≡ true
unfolding rules
end_ends Dispatcher h k = cc
end_ends ForeignContent h k = cc
end_ends Text h k = cc
end_ends InTableText h k = cc
end_ends InTemplate h k = cc
end_ends _ h k = refl

pub tables_end : (now : Mode) → is_plain now ≡ true → is_among_tables now ≡ false → ends never depth (AStart (codes "table") [] false) now now ≡ true
unfolding rules
tables_end Dispatcher h k = cc
tables_end ForeignContent h k = cc
tables_end Text h k = cc
tables_end InTableText h k = cc
tables_end InTable h k = cc
tables_end InTableBody h k = cc
tables_end InRow h k = cc
tables_end InColumnGroup h k = cc
tables_end _ h k = refl

-- ---- computed: the names that a mode's rules are for are known

abbrev pub is_known : Pattern → Bool
is_known (StartTagOf some) = list_all (λ name. is_among name names) some
is_known (StartTagBut some) = list_all (λ name. is_among name names) some
is_known (EndTagOf some) = list_all (λ name. is_among name names) some
is_known _ = true

abbrev pub is_known_rule : (List Act → Bool) → Rule → Bool
is_known_rule over (rule patterns tests acts) = elim (over acts) [ true ↦ true | false ↦ list_all is_known patterns ]

pub rules_known : (mode : Mode) → is_real mode ≡ true → list_all (is_known_rule (passes_over mode)) (rules mode) ≡ true
unfolding rules
rules_known Dispatcher h = cc
rules_known ForeignContent h = cc
rules_known _ h = refl

-- ---- computed: the dispatcher and foreign content

abbrev pub acts_pass : (List Act → Bool) → List Rule → Bool
acts_pass test [] = true
acts_pass test (rule patterns tests acts ∷ more) = test acts && acts_pass test more

abbrev pub dispatches : List Act → Bool
dispatches [] = true
dispatches (goes UseCurrentMode ∷ []) = true
dispatches (goes (Use ForeignContent) ∷ []) = true
dispatches _ = false

abbrev pub pops_foreign : Action → Bool
pops_foreign PopForeignElements = true
pops_foreign _ = false

abbrev pub leaves_foreign : List Act → Bool
leaves_foreign (goes UseCurrentMode ∷ []) = true
leaves_foreign (does action [] ∷ goes UseCurrentMode ∷ []) = pops_foreign action
leaves_foreign _ = false

abbrev pub is_foreign_or_quiet : List Act → Bool
is_foreign_or_quiet acts = are_quiet acts || leaves_foreign acts

pub dispatcher_passes : acts_pass dispatches (rules Dispatcher) ≡ true
unfolding rules
dispatcher_passes = refl

pub foreign_passes : acts_pass is_foreign_or_quiet (rules ForeignContent) ≡ true
unfolding rules
foreign_passes = refl
