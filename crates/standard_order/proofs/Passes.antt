-- Each rule of each mode's table leads from what is known there to where a turn may begin; computed.
use Rattle.std.specs.Prelude.{◌≡◌, refl, Bool, true, false, [], ◌∷◌, codes}
use Rattle.standard_trees.specs.RuleWords.{AfterAfterBody, AfterAfterFrameset, AfterBody, AfterFrameset}
use Rattle.standard_trees.specs.RuleWords.{AfterHead}
use Rattle.standard_trees.specs.RuleWords.{BeforeHead}
use Rattle.standard_trees.specs.RuleWords.{BeforeHtml}
use Rattle.standard_trees.specs.RuleWords.{ForeignContent}
use Rattle.standard_trees.specs.RuleWords.{InBody, InCaption, InCell, InColumnGroup, InFrameset, InHead}
use Rattle.standard_trees.specs.RuleWords.{InHeadNoscript, InRow, InTable, InTableBody, InTableText, InTemplate, Initial}
use Rattle.standard_trees.specs.RuleWords.{Text}
use Rattle.standard_trees.specs.TreeRules.{rules}
use Rattle.standard_order.proofs.GoodEnds.{}
use Rattle.standard_order.proofs.Levels.{Any, Before, End, Exact, Frames, In, Late, NoPrior, Of, Start, Where, has_root, heads}
use Rattle.standard_order.proofs.Levels.{light_heads, rules_pass, start_level}

-- ---- the table of a mode

pub passes_Initial : rules_pass (Any [] []) (start_level Initial) NoPrior [] [] (rules Initial) ≡ true
unfolding rules
passes_Initial = refl

pub passes_BeforeHtml : rules_pass (Any [] []) (start_level BeforeHtml) NoPrior [] [] (rules BeforeHtml) ≡ true
unfolding rules
passes_BeforeHtml = refl

pub passes_BeforeHead : rules_pass (Any [] []) (start_level BeforeHead) NoPrior [] [] (rules BeforeHead) ≡ true
unfolding rules
passes_BeforeHead = refl

pub passes_InHead : rules_pass (Any [] []) (start_level InHead) NoPrior [] [] (rules InHead) ≡ true
unfolding rules
passes_InHead = refl

pub passes_InHeadNoscript : rules_pass (Any [] []) (start_level InHeadNoscript) NoPrior [] [] (rules InHeadNoscript) ≡ true
unfolding rules
passes_InHeadNoscript = refl

pub passes_AfterHead : rules_pass (Any [] []) (start_level AfterHead) NoPrior [] [] (rules AfterHead) ≡ true
unfolding rules
passes_AfterHead = refl

pub passes_InBody : rules_pass (Any [] []) (start_level InBody) NoPrior [] [] (rules InBody) ≡ true
unfolding rules
passes_InBody = refl

pub passes_Text : rules_pass (Any [] []) (start_level Text) NoPrior [] [] (rules Text) ≡ true
unfolding rules
passes_Text = refl

pub passes_InTable : rules_pass (Any [] []) (start_level InTable) NoPrior [] [] (rules InTable) ≡ true
unfolding rules
passes_InTable = refl

pub passes_InTableText : rules_pass (Any [] []) (start_level InTableText) NoPrior [] [] (rules InTableText) ≡ true
unfolding rules
passes_InTableText = refl

pub passes_InCaption : rules_pass (Any [] []) (start_level InCaption) NoPrior [] [] (rules InCaption) ≡ true
unfolding rules
passes_InCaption = refl

pub passes_InColumnGroup : rules_pass (Any [] []) (start_level InColumnGroup) NoPrior [] [] (rules InColumnGroup) ≡ true
unfolding rules
passes_InColumnGroup = refl

pub passes_InTableBody : rules_pass (Any [] []) (start_level InTableBody) NoPrior [] [] (rules InTableBody) ≡ true
unfolding rules
passes_InTableBody = refl

pub passes_InRow : rules_pass (Any [] []) (start_level InRow) NoPrior [] [] (rules InRow) ≡ true
unfolding rules
passes_InRow = refl

pub passes_InCell : rules_pass (Any [] []) (start_level InCell) NoPrior [] [] (rules InCell) ≡ true
unfolding rules
passes_InCell = refl

pub passes_InTemplate : rules_pass (Any [] []) (start_level InTemplate) NoPrior [] [] (rules InTemplate) ≡ true
unfolding rules
passes_InTemplate = refl

pub passes_AfterBody : rules_pass (Any [] []) (start_level AfterBody) NoPrior [] [] (rules AfterBody) ≡ true
unfolding rules
passes_AfterBody = refl

pub passes_InFrameset : rules_pass (Any [] []) (start_level InFrameset) NoPrior [] [] (rules InFrameset) ≡ true
unfolding rules
passes_InFrameset = refl

pub passes_AfterFrameset : rules_pass (Any [] []) (start_level AfterFrameset) NoPrior [] [] (rules AfterFrameset) ≡ true
unfolding rules
passes_AfterFrameset = refl

pub passes_AfterAfterBody : rules_pass (Any [] []) (start_level AfterAfterBody) NoPrior [] [] (rules AfterAfterBody) ≡ true
unfolding rules
passes_AfterAfterBody = refl

pub passes_AfterAfterFrameset : rules_pass (Any [] []) (start_level AfterAfterFrameset) NoPrior [] [] (rules AfterAfterFrameset) ≡ true
unfolding rules
passes_AfterAfterFrameset = refl

pub passes_ForeignContent : rules_pass (Any [] []) (start_level ForeignContent) NoPrior [] [] (rules ForeignContent) ≡ true
unfolding rules
passes_ForeignContent = refl

-- ---- the rules for "in head" and "in body" where they are used for certain tokens

pub head_starts : (cell : Bool) → rules_pass (Start heads) (Late (In cell) Of false) NoPrior [] [] (rules InHead) ≡ true
unfolding rules
head_starts true = refl
head_starts false = refl

pub head_ends : (cell : Bool) → rules_pass (End (codes "template" ∷ [])) (Late (In cell) Of false) NoPrior [] [] (rules InHead) ≡ true
unfolding rules
head_ends true = refl
head_ends false = refl

pub head_in_frames : rules_pass (Start (codes "noframes" ∷ [])) (Late Frames Of false) NoPrior [] [] (rules InHead) ≡ true
unfolding rules
head_in_frames = refl

pub head_ends_after : rules_pass (End (codes "template" ∷ [])) (Late (Exact AfterHead) Of false) NoPrior [] [] (rules InHead) ≡ true
unfolding rules
head_ends_after = refl

pub head_in_noscript : rules_pass (Start light_heads) (Late (Exact InHeadNoscript) Of false) NoPrior [] [] (rules InHead) ≡ true
unfolding rules
head_in_noscript = refl

pub html_before : rules_pass (Start (codes "html" ∷ [])) Before NoPrior [] [] (rules InBody) ≡ true
unfolding rules
html_before = refl

pub html_in : (place : Where) → has_root place ≡ true → rules_pass (Start (codes "html" ∷ [])) (Late place Of false) NoPrior [] []
    (rules InBody) ≡ true
unfolding rules
html_in (Exact AfterHead) h = refl
html_in (Exact InHead) h = refl
html_in (Exact InHeadNoscript) h = refl
html_in Frames h = refl
html_in _ h = cc
