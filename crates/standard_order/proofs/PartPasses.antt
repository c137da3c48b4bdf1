-- Each rule of each mode's table leaves the parts of a page as a turn needs them; computed.
use Rattle.std.specs.Prelude.{◌≡◌, refl, Bool, true, false, [], ◌∷◌, codes}
use Rattle.standard_trees.specs.RuleWords.{AfterAfterBody, AfterAfterFrameset, AfterBody, AfterFrameset, AfterHead, BeforeHead, ForeignContent}
use Rattle.standard_trees.specs.RuleWords.{InBody, InCaption, InCell, InColumnGroup, InFrameset, InHead, InHeadNoscript, InRow, InTable, InTableBody}
use Rattle.standard_trees.specs.RuleWords.{InTableText, InTemplate, Text}
use Rattle.standard_trees.specs.TreeRules.{rules}
use Rattle.standard_order.proofs.Levels.{Before, End, Exact, Frames, In, Late, Of, Sorted, Start, TableText, TextMode, heads, light_heads, skips}
use Rattle.standard_order.proofs.PartStates.{Headless, OnHead, OnHtml}
use Rattle.standard_order.proofs.PartPhases.{Fitting, Framing, Inner, NoPeak, Outer, Tabling, Texting, Told, rules_part, skips_none, skips_starts, skips_tokens, table_starts, told_in}

pub parts_BeforeHead : rules_part skips_none Before (Outer Headless 0 BeforeHead false) [] [] [] false (rules BeforeHead) ≡ true
unfolding rules
parts_BeforeHead = refl

pub parts_InHead : rules_part skips_none (Late (Exact InHead) Of false) (Outer OnHead 0 InHead false) [] [] [] false (rules InHead) ≡ true
unfolding rules
parts_InHead = refl

pub parts_InHeadNoscript : rules_part skips_none (Late (Exact InHeadNoscript) Of false) (Outer OnHead 1 InHeadNoscript false) [] [] [] false (rules InHeadNoscript) ≡ true
unfolding rules
parts_InHeadNoscript = refl

pub parts_AfterHead : rules_part skips_none (Late (Exact AfterHead) Of false) (Outer OnHtml 0 AfterHead false) [] [] [] false (rules AfterHead) ≡ true
unfolding rules
parts_AfterHead = refl

pub parts_InBody : rules_part skips_none (Late (In true) Of false) (Inner Fitting NoPeak false false) [] [] [] false (rules InBody) ≡ true
unfolding rules
parts_InBody = refl

pub parts_Text : rules_part skips_none TextMode Texting [] [] [] false (rules Text) ≡ true
unfolding rules
parts_Text = refl

pub parts_InTable : rules_part skips_none (Late (In false) Of false) (Inner (told_in InTable) NoPeak false false) [] [] [] false (rules InTable) ≡ true
unfolding rules
parts_InTable = refl

pub parts_InTableText : rules_part skips_none TableText Tabling [] [] [] false (rules InTableText) ≡ true
unfolding rules
parts_InTableText = refl

pub parts_InCaption : rules_part skips_none (Late (In false) Of false) (Inner (told_in InCaption) NoPeak false false) [] [] [] false (rules InCaption) ≡ true
unfolding rules
parts_InCaption = refl

pub parts_InColumnGroup : rules_part skips_none (Late (In false) Of false) (Inner (told_in InColumnGroup) NoPeak false false) [] [] [] false (rules InColumnGroup) ≡ true
unfolding rules
parts_InColumnGroup = refl

pub parts_InTableBody : rules_part skips_none (Late (In false) Of false) (Inner (told_in InTableBody) NoPeak false false) [] [] [] false (rules InTableBody) ≡ true
unfolding rules
parts_InTableBody = refl

pub parts_InRow : rules_part skips_none (Late (In false) Of false) (Inner (told_in InRow) NoPeak false false) [] [] [] false (rules InRow) ≡ true
unfolding rules
parts_InRow = refl

pub parts_InCell : rules_part skips_none (Late (Exact InCell) Of false) (Inner (told_in InCell) NoPeak false false) [] [] [] false (rules InCell) ≡ true
unfolding rules
parts_InCell = refl

pub parts_InTemplate : rules_part skips_none (Late (In true) Of false) (Inner (told_in InTemplate) NoPeak false false) [] [] [] false (rules InTemplate) ≡ true
unfolding rules
parts_InTemplate = refl

pub parts_AfterBody : rules_part skips_none (Late (In false) Of false) (Inner (told_in AfterBody) NoPeak false false) [] [] [] false (rules AfterBody) ≡ true
unfolding rules
parts_AfterBody = refl

pub parts_AfterAfterBody : rules_part skips_none (Late (In false) Of false) (Inner (told_in AfterAfterBody) NoPeak false false) [] [] [] false (rules AfterAfterBody) ≡ true
unfolding rules
parts_AfterAfterBody = refl

pub parts_InFrameset : rules_part skips_none (Late Frames Of false) (Framing true false) [] [] [] false (rules InFrameset) ≡ true
unfolding rules
parts_InFrameset = refl

pub parts_AfterFrameset : rules_part skips_none (Late Frames Of false) (Framing true false) [] [] [] false (rules AfterFrameset) ≡ true
unfolding rules
parts_AfterFrameset = refl

pub parts_AfterAfterFrameset : rules_part skips_none (Late Frames Of false) (Framing true false) [] [] [] false (rules AfterAfterFrameset) ≡ true
unfolding rules
parts_AfterAfterFrameset = refl

pub parts_foreign : rules_part skips_none (Late Sorted Of false) (Inner Told NoPeak false false) [] [] [] true (rules ForeignContent) ≡ true
unfolding rules
parts_foreign = refl

pub parts_foreign_framed : rules_part skips_none (Late Sorted Of false) (Framing true false) [] [] [] true (rules ForeignContent) ≡ true
unfolding rules
parts_foreign_framed = refl

pub parts_table_below : rules_part (skips_starts table_starts) (Late (In false) Of false) (Inner Told NoPeak false false) [] [] [] false (rules InTable) ≡ true
unfolding rules
parts_table_below = refl

pub parts_template_end : rules_part skips_tokens (Late (In true) Of false) (Inner Told NoPeak false false) [] [] [] false (rules InTemplate) ≡ true
unfolding rules
parts_template_end = refl

pub parts_html_before : rules_part (skips (Start (codes "html" ∷ []))) Before (Outer Headless 0 BeforeHead false) [] [] [] false (rules InBody) ≡ true
unfolding rules
parts_html_before = refl

pub parts_html_in_head : rules_part (skips (Start (codes "html" ∷ []))) (Late (Exact InHead) Of false) (Outer OnHead 0 InHead false) [] [] [] false (rules InBody) ≡ true
unfolding rules
parts_html_in_head = refl

pub parts_html_in_noscript : rules_part (skips (Start (codes "html" ∷ []))) (Late (Exact InHeadNoscript) Of false) (Outer OnHead 1 InHeadNoscript false) [] [] [] false (rules InBody) ≡ true
unfolding rules
parts_html_in_noscript = refl

pub parts_html_after_head : rules_part (skips (Start (codes "html" ∷ []))) (Late (Exact AfterHead) Of false) (Outer OnHtml 0 AfterHead false) [] [] [] false (rules InBody) ≡ true
unfolding rules
parts_html_after_head = refl

pub parts_html_framed : rules_part (skips (Start (codes "html" ∷ []))) (Late Frames Of false) (Framing true false) [] [] [] false (rules InBody) ≡ true
unfolding rules
parts_html_framed = refl

pub parts_noframes : rules_part (skips (Start (codes "noframes" ∷ []))) (Late Frames Of false) (Framing true false) [] [] [] false (rules InHead) ≡ true
unfolding rules
parts_noframes = refl

pub parts_template_after : rules_part (skips (End (codes "template" ∷ []))) (Late (Exact AfterHead) Of false) (Outer OnHtml 0 AfterHead false) [] [] [] false (rules InHead) ≡ true
unfolding rules
parts_template_after = refl

pub parts_light : rules_part (skips (Start light_heads)) (Late (Exact InHeadNoscript) Of false) (Outer OnHead 1 InHeadNoscript false) [] [] [] false (rules InHead) ≡ true
unfolding rules
parts_light = refl

pub parts_head_starts : (cell : Bool) → rules_part (skips (Start heads)) (Late (In cell) Of false) (Inner Told NoPeak false false) [] [] [] false (rules InHead) ≡ true
unfolding rules
parts_head_starts true = refl
parts_head_starts false = refl

pub parts_head_ends : (cell : Bool) → rules_part (skips (End (codes "template" ∷ []))) (Late (In cell) Of false) (Inner Told NoPeak false false) [] [] [] false (rules InHead) ≡ true
unfolding rules
parts_head_ends true = refl
parts_head_ends false = refl
