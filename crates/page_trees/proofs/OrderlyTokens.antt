-- In an orderly state each character, comment and doctype, and the end of the page, is covered.
use Rattle.std.specs.Prelude.{◌≡◌, ◌||◌, ◌&&◌, refl, ℕ, zero, suc, Bool, true, false, not, List, [], ◌∷◌, Option, None, Some, drop, length}
use Rattle.std.specs.Prelude.{reverse}
use Rattle.std.specs.List.{list_all}
use mathlib.Core.Path.{◌∙◌, ap}
use Rattle.standard_tokens.specs.Tokens.{AChar, AComment, ADoctype, AStart, AnEnd, AnEof, Token}
use Rattle.standard_trees.specs.Building.{Building, is_empty, taken}
use Rattle.standard_trees.specs.Formatting.{attrs_of, closed_entries, local_of, reconstructed, reopened}
use Rattle.standard_trees.specs.GrowingTree.{Entry, Formatting, GrowingTree, Marker, adjusted_current, current, inserted, is_among}
use Rattle.standard_trees.specs.GrowingTree.{is_html_point, is_named, kind_of, place}
use Rattle.standard_trees.specs.NameLists.{text_points}
use Rattle.standard_trees.specs.RuleWords.{Act, TextState, UseCurrentMode, goes}
use Rattle.standard_trees.specs.RuleWords.{AfterAfterBody, AfterAfterFrameset, AfterBody, AfterFrameset, AfterHead, BeforeHead, BeforeHtml}
use Rattle.standard_trees.specs.RuleWords.{Dispatcher, ForeignContent, InBody, InCaption, InCell, InColumnGroup, InFrameset, InHead}
use Rattle.standard_trees.specs.RuleWords.{InHeadNoscript, InRow, InTable, InTableBody, InTableText, InTemplate, Initial, Mode, Text}
use Rattle.standard_trees.specs.TreeRules.{rules}
use Rattle.standard_trees.specs.TreeStore.{CommentNode, ContentsNode, DoctypeNode, DocumentNode, ElementNode, Html, Kind, MathMl, Node, Svg}
use Rattle.standard_trees.specs.TreeStore.{TextNode, is_html, key_in, node_at, space_in}
use Rattle.standard_order.specs.Begun.{is_begun, is_unswitched}
use Rattle.standard_order.specs.CurrentNodes.{has_current, has_open, is_in_html, is_insertion_mode, takes_text}
use Rattle.standard_order.specs.FormattingListed.{formatting_names, is_formatting, lists_formatting}
use Rattle.standard_order.specs.ListedOnce.{lists_each_once}
use Rattle.standard_order.specs.Order.{has_html, head_is_closed, is_after_head, is_before_html, is_in_order}
use Rattle.standard_order.specs.Pending.{without_nulls}
use Rattle.standard_order.proofs.Labels.{Is, kind_at, label_of, labels}
use Rattle.standard_order.proofs.StandingStacks.{both, named_apart}
use Rattle.standard_order.proofs.FormattingTrees.{AllFormat, Newly, closed_format, format_grown, format_turned, formatter, is_formatter}
use Rattle.standard_order.proofs.FormattingTrees.{keeps_inserted, local_formats, newly_inserted}
use Rattle.page_trees.specs.CharacterSteps.{covers_between, covers_characters, covers_closed, covers_in_mode, covers_in_table, covers_open}
use Rattle.page_trees.specs.CharacterSteps.{fosters_text, goes_to_mode, has_begun, has_no_null, is_nowhere, keeps_text, pending_names}
use Rattle.page_trees.specs.CharacterSteps.{takes_characters, with_foster}
use Rattle.page_trees.specs.CoveredTurns.{covers, covers_character, covers_comment, covers_doctype, covers_end, enters_plainly, is_in_mode}
use Rattle.page_trees.specs.CoveredTurns.{is_text_mode, keeps_plainly, returns, returns_plainly, suits_settling, uses_current_mode}
use Rattle.page_trees.specs.OrderlyTurns.{OthersAreCovered, is_orderly, is_tag}
use Rattle.standard_trees.specs.Laws.{is_plain}

-- ---- an orderly state

pub record Orderly (b : Building) : Type 0 where
  pub plain : is_plain b.original ≡ true
  pub returning : returns_plainly b ≡ true
  pub opened : is_before_html b.mode || has_html b ≡ true
  pub closed : not (is_after_head b.mode) || head_is_closed b ≡ true
  pub nulls : without_nulls b.pending ≡ true
  pub once : lists_each_once b ≡ true
  pub begun : is_begun b ≡ true
  pub insertion : is_insertion_mode b.mode ≡ true
  pub html : is_in_html b ≡ true
  pub some : has_open b ≡ true
  pub formats : lists_formatting b ≡ true

pub orderly : (b : Building) → is_orderly b ≡ true → Orderly b
orderly b h = record {
  plain = (both (is_plain b.original) (returns_plainly b) one.0).0;
  returning = (both (is_plain b.original) (returns_plainly b) one.0).1;
  opened = (both (is_before_html b.mode || has_html b) (not (is_after_head b.mode) || head_is_closed b) two.0).0;
  closed = (both (is_before_html b.mode || has_html b) (not (is_after_head b.mode) || head_is_closed b) two.0).1;
  nulls = three.0;
  once = (both (lists_each_once b) (is_begun b && last) three.1).0;
  begun = five.0;
  insertion = seven.0;
  html = eight.0;
  some = eight.1;
  formats = six.1;
}
  where
    last : Bool
    last = has_current b && lists_formatting b

    one : (keeps_plainly b ≡ true) × (is_in_order b && (without_nulls b.pending && (lists_each_once b && (is_begun b && last))) ≡ true)
    one = both (keeps_plainly b) (is_in_order b && (without_nulls b.pending && (lists_each_once b && (is_begun b && last)))) h

    two : (is_in_order b ≡ true) × (without_nulls b.pending && (lists_each_once b && (is_begun b && last)) ≡ true)
    two = both (is_in_order b) (without_nulls b.pending && (lists_each_once b && (is_begun b && last))) one.1

    three : (without_nulls b.pending ≡ true) × (lists_each_once b && (is_begun b && last) ≡ true)
    three = both (without_nulls b.pending) (lists_each_once b && (is_begun b && last)) two.1

    five : (is_begun b ≡ true) × (last ≡ true)
    five = both (is_begun b) last (both (lists_each_once b) (is_begun b && last) three.1).1

    six : (has_current b ≡ true) × (lists_formatting b ≡ true)
    six = both (has_current b) (lists_formatting b) five.1

    seven : (is_insertion_mode b.mode ≡ true) × (is_in_html b && has_open b ≡ true)
    seven = both (is_insertion_mode b.mode) (is_in_html b && has_open b) six.0

    eight : (is_in_html b ≡ true) × (has_open b ≡ true)
    eight = both (is_in_html b) (has_open b) seven.1

pub both_so : (x y : Bool) → x ≡ true → y ≡ true → x && y ≡ true
both_so true y e f = f
both_so false y e f = e

right_so : (x y : Bool) → y ≡ true → x || y ≡ true
right_so true y e = refl
right_so false y e = e

left_so : (x y : Bool) → x ≡ true → x || y ≡ true
left_so true y e = refl
left_so false y e = cc

-- ---- reconstructing opens formatting elements alone

named_formats : (kind : Kind) → is_among (key_in kind) formatting_names ≡ true → formatter (label_of kind) ≡ true
named_formats (ElementNode Html name attrs contents) h = h
named_formats (ElementNode Svg name attrs contents) h = cc
named_formats (ElementNode MathMl name attrs contents) h = cc
named_formats (TextNode text) h = cc
named_formats (CommentNode text) h = cc
named_formats (DoctypeNode d) h = cc
named_formats DocumentNode h = cc
named_formats ContentsNode h = cc

node_formats : (nodes : List Node) (n : ℕ) → is_among (key_in (node_at nodes n).kind) formatting_names ≡ true → Is formatter (labels nodes) n
node_formats [] n h = cc
node_formats (node ∷ nodes) zero h = named_formats node.kind h
node_formats (node ∷ nodes) (suc n) h = node_formats nodes n h

entries_format : (nodes : List Node) (es : List Entry) → list_all (is_formatting nodes) es ≡ true →
    list_all (is_formatter (labels nodes)) es ≡ true
entries_format nodes [] h = refl
entries_format nodes (Marker ∷ es) h = entries_format nodes es h
entries_format nodes (Formatting n ∷ es) h =
    let two : (is_among (key_in (node_at nodes n).kind) formatting_names ≡ true) × (list_all (is_formatting nodes) es ≡ true) =
    both (is_among (key_in (node_at nodes n).kind) formatting_names) (list_all (is_formatting nodes) es) h in
    both_so (is_formatter (labels nodes) (Formatting n)) (list_all (is_formatter (labels nodes)) es) (node_formats nodes n two.0)
    (entries_format nodes es two.1)

-- a formatting element is no part of a table
formats_out : (t : GrowingTree) → Newly t → keeps_text t ≡ false
formats_out t h = by (is_among (key_in kind) pending_names)
    (named_apart formatting_names pending_names refl (label_of kind)
    (both (is_html (space_in kind)) (is_among (key_in kind) formatting_names) (kind_at formatter t.nodes (current t) h)).1)
  where
    kind : Kind
    kind = kind_of t (current t)

    by : (x : Bool) → not x ≡ true → x ≡ false
    by true e = cc
    by false e = refl

reopened_out : (ns : List ℕ) (t : GrowingTree) → AllFormat (labels t.nodes) ns → keeps_text t ≡ false → keeps_text (reopened ns t) ≡ false
reopened_out [] t h out = out
reopened_out (n ∷ ns) t h out =
    reopened_out ns (record after { listed = Formatting (current after) ∷ after.listed })
    (format_grown t.nodes after.nodes (keeps_inserted (place t) Html (local_of t n) (attrs_of t n) t).grows ns two.1)
    (formats_out after (newly_inserted (place t) (local_of t n) (attrs_of t n) t (local_formats t n two.0)))
  where
    two : (is_formatter (labels t.nodes) (Formatting n) ≡ true) × AllFormat (labels t.nodes) ns
    two = both (is_formatter (labels t.nodes) (Formatting n)) (list_all (λ m. is_formatter (labels t.nodes) (Formatting m)) ns) h

    after : GrowingTree
    after = inserted Html (local_of t n) (attrs_of t n) t

reconstructed_out : (t : GrowingTree) → list_all (is_formatting t.nodes) t.listed ≡ true → keeps_text t ≡ false →
    keeps_text (reconstructed t) ≡ false
reconstructed_out t h out =
    reopened_out (reverse closed) (record t { listed = drop (length closed) t.listed })
    (format_turned (labels t.nodes) closed [] (closed_format (labels t.nodes) t.stack t.listed (entries_format t.nodes t.listed h)) refl) out
  where
    closed : List ℕ
    closed = closed_entries t.stack t.listed

-- ---- characters

table_covered : (t : GrowingTree) → list_all (is_formatting t.nodes) t.listed ≡ true → not (is_empty t.stack) ≡ true →
    covers_in_table t ≡ true
table_covered t h some = by (keeps_text t) refl
  where
    by : (x : Bool) → keeps_text t ≡ x → x || fosters_text t ≡ true
    by true e = refl
    by false e = both_so (not (is_empty t.stack)) (not (keeps_text (reconstructed (with_foster true t)))) some
        (ap not (reconstructed_out (with_foster true t) h e))

mode_covered : (b : Building) → Orderly b → covers_in_mode b ≡ true
mode_covered b o = by b.mode o.insertion o.some
  where
    table : not (is_empty b.tree.stack) ≡ true → covers_in_table b.tree ≡ true
    table some = table_covered b.tree o.formats some

    by : (m : Mode) → is_insertion_mode m ≡ true → is_before_html m || not (is_empty b.tree.stack) ≡ true →
        covers_closed m || ((covers_open m && not (is_empty b.tree.stack)) || covers_between m b) ≡ true
    by Dispatcher i some = cc
    by ForeignContent i some = cc
    by Initial i some = refl
    by BeforeHtml i some = refl
    by BeforeHead i some = refl
    by InHead i some = refl
    by InHeadNoscript i some = refl
    by AfterHead i some = refl
    by Text i some = refl
    by InTableText i some = refl
    by InColumnGroup i some = refl
    by InFrameset i some = refl
    by AfterFrameset i some = refl
    by InBody i some = left_so (not (is_empty b.tree.stack)) false some
    by InCaption i some = left_so (not (is_empty b.tree.stack)) false some
    by InCell i some = left_so (not (is_empty b.tree.stack)) false some
    by InTemplate i some = left_so (not (is_empty b.tree.stack)) false some
    by AfterBody i some = left_so (not (is_empty b.tree.stack)) false some
    by AfterAfterBody i some = left_so (not (is_empty b.tree.stack)) false some
    by AfterAfterFrameset i some = left_so (not (is_empty b.tree.stack)) false some
    by InTable i some = table some
    by InTableBody i some = table some
    by InRow i some = table some

begun_now : (b : Building) → is_begun b ≡ true → has_begun b ≡ true
begun_now b h = ap (λ x. not b.skip && x) (same b.tokenizer) ∙ h
  where
    same : (o : Option TextState) → is_nowhere o ≡ is_unswitched o
    same None = refl
    same (Some s) = refl

character_covered : (b : Building) → Orderly b → covers_character b ≡ true
character_covered b o =
    both_so (not (is_text_mode b.mode) || goes_to_mode b.tree) (covers_characters b) (by b.mode o.html)
    (both_so (has_begun b) (not (goes_to_mode b.tree) || covers_in_mode b) (begun_now b o.begun)
    (right_so (not (goes_to_mode b.tree)) (covers_in_mode b) (mode_covered b o)))
  where
    by : (m : Mode) → not (takes_text m) || is_html (space_in (adjusted_current b.tree)) ≡ true →
        not (is_text_mode m) || goes_to_mode b.tree ≡ true
    by Text h = right_so (is_empty b.tree.stack) (takes_characters (adjusted_current b.tree))
        (left_so (is_html (space_in (adjusted_current b.tree)))
        (is_named text_points (adjusted_current b.tree) || is_html_point (adjusted_current b.tree)) h)
    by _ h = refl

-- ---- comments, doctypes and the end

second_taken : (x y : Bool) (rest : List Act) → y ≡ true → uses_current_mode (elim (x && true) as (λ _. List Act) [
  | true ↦ goes UseCurrentMode ∷ []
  | false ↦ elim (y && true) as (λ _. List Act) [ true ↦ goes UseCurrentMode ∷ [] | false ↦ rest ]
]) ≡ true
second_taken true y rest e = refl
second_taken false true rest e = refl
second_taken false false rest e = cc

in_mode : (b : Building) → is_html (space_in (adjusted_current b.tree)) ≡ true → is_in_mode b ≡ true
unfolding rules taken
in_mode b h = second_taken (is_empty b.tree.stack) (is_html (space_in (adjusted_current b.tree))) _ h

settling : (b : Building) → without_nulls b.pending ≡ true → enters_plainly b.original ≡ true → suits_settling b ≡ true
settling b nulls plain = both_so (enters_plainly b.original) (has_no_null b.pending) plain nulls

comment_covered : (b : Building) → Orderly b → covers_comment b.mode b ≡ true
comment_covered b o = by b.mode o.returning o.opened o.html
  where
    by : (m : Mode) → not (returns m) || enters_plainly b.original ≡ true → is_before_html m || has_html b ≡ true →
        not (takes_text m) || is_html (space_in (adjusted_current b.tree)) ≡ true → covers_comment m b ≡ true
    by InTableText r h k = both_so (is_in_mode b) (suits_settling b) (in_mode b k) (settling b o.nulls r)
    by AfterBody r h k = h
    by _ r h k = refl

doctype_covered : (b : Building) → Orderly b → covers_doctype b.mode b ≡ true
doctype_covered b o = by b.mode o.returning o.html
  where
    by : (m : Mode) → not (returns m) || enters_plainly b.original ≡ true →
        not (takes_text m) || is_html (space_in (adjusted_current b.tree)) ≡ true → covers_doctype m b ≡ true
    by InTableText r k = both_so (is_in_mode b) (suits_settling b) (in_mode b k) (settling b o.nulls r)
    by _ r k = refl

end_covered : (b : Building) → Orderly b → covers_end b.mode b ≡ true
end_covered b o = by b.mode o.returning
  where
    by : (m : Mode) → not (returns m) || enters_plainly b.original ≡ true → covers_end m b ≡ true
    by InTableText r = settling b o.nulls r
    by _ r = o.returning

pub others_are_covered : OthersAreCovered
others_are_covered b h other = both_so (is_plain b.original) (covers b.token b) o.plain (by b.token other)
  where
    o : Orderly b
    o = orderly b h

    by : (t : Token) → is_tag t ≡ false → covers t b ≡ true
    by (AStart name attrs closing) e = cc
    by (AnEnd name) e = cc
    by (AComment text) e = comment_covered b o
    by (ADoctype doctype) e = doctype_covered b o
    by AnEof e = end_covered b o
    by (AChar c) e = character_covered b o
