-- In an orderly state each tag is covered, but where the list of active formatting elements is long.
use Rattle.std.specs.Prelude.{◌≡◌, ◌||◌, ◌&&◌, refl, ℕ, Bool, true, false, not, List, [], ◌∷◌, Option, None, Some, codes, length, nat_eq}
use Rattle.std.specs.List.{list_all}
use Rattle.std.specs.Option.{option_map_or}
use Rattle.std.specs.Str.{bytes_eq}
use Rattle.std.proofs.Common.{inl, inr}
use Rattle.std.proofs.lemmas.Slice.Eq.{bytes_eq-Decides}
use mathlib.Core.Path.{◌∙◌, ap, sym}
use Rattle.standard_tokens.specs.Tokens.{Attr, AStart, AnEnd, Token}
use Rattle.standard_trees.specs.Building.{Building, holds, is_empty, own_name, perform, taken}
use Rattle.standard_trees.specs.GrowingTree.{GrowingTree, adjusted_current, beyond, is_among, is_foreign, is_html_point, is_named, is_one}
use Rattle.standard_trees.specs.GrowingTree.{kind_of, topmost}
use Rattle.standard_trees.specs.NameLists.{text_points}
use Rattle.standard_trees.specs.RuleWords.{Act, AdjustForeignAttributes, AdjustMathmlAttributes, AdjustSvgAttributes, AdjustSvgName}
use Rattle.standard_trees.specs.RuleWords.{AttributeTypeHidden, InScope, InsertMathmlElement, InsertSvgElement, Listed, Pop, PopForeignElements}
use Rattle.standard_trees.specs.RuleWords.{ReconstructFormatting, Scope, SelfClosing, These, UseCurrentMode, does, goes, is}
use Rattle.standard_trees.specs.RuleWords.{AfterAfterBody, AfterAfterFrameset, AfterBody, AfterFrameset, AfterHead, BeforeHead, BeforeHtml}
use Rattle.standard_trees.specs.RuleWords.{Dispatcher, ForeignContent, InBody, InCaption, InCell, InColumnGroup, InFrameset, InHead}
use Rattle.standard_trees.specs.RuleWords.{InHeadNoscript, InRow, InTable, InTableBody, InTableText, InTemplate, Initial, Mode, Text, Use}
use Rattle.standard_trees.specs.TreeRules.{rules}
use Rattle.standard_trees.specs.TreeStore.{CommentNode, ContentsNode, DoctypeNode, DocumentNode, ElementNode, Html, Kind, MathMl, Svg}
use Rattle.standard_trees.specs.TreeStore.{TextNode, is_html, is_mathml, is_member, space_in}
use Rattle.standard_order.specs.CurrentNodes.{is_insertion_mode}
use Rattle.standard_order.specs.ListedOnce.{is_below, lists_once}
use Rattle.standard_order.specs.Order.{has_html, head_is_closed, is_after_head, is_before_html}
use Rattle.standard_order.specs.Pending.{without_nulls}
use Rattle.standard_order.proofs.ListedTrees.{Once, once_reconstructed}
use Rattle.standard_order.proofs.StandingStacks.{both}
use Rattle.page_trees.specs.BodyTags.{comes_back, covers_end_of, covers_in_body, covers_start, ends_in, is_body_mode, starts_in}
use Rattle.page_trees.specs.CharacterSteps.{goes_to_mode}
use Rattle.page_trees.specs.CoveredTurns.{covers_acts, covers_foreign_tag, covers_kind_in_body, covers_tag, covers_tag_in, enters_plainly}
use Rattle.page_trees.specs.CoveredTurns.{is_in_mode, is_start_tag, passes, returns, returns_plainly, suits_kind_in_body}
use Rattle.page_trees.specs.CoveredTurns.{tag_name, uses_current_mode}
use Rattle.page_trees.specs.FosteredTags.{acts_in_body, comes_to_table, ends_there, fosters_tag, is_fostering, is_image, is_table_mode}
use Rattle.page_trees.specs.FosteredTags.{names_image, suits_in_body}
use Rattle.page_trees.specs.Groups.{group_named, is_part_name}
use Rattle.page_trees.specs.Listing.{allows_agency, closes_nobr}
use Rattle.page_trees.specs.Names.{html_rows, name_of, rare_rows, text_of}
use Rattle.page_trees.specs.OrderlyTurns.{TagsAreCovered, is_tag, opens_none_early}
use Rattle.page_trees.specs.TableSteps.{covers_caption, covers_cell, covers_content, covers_input, covers_other, covers_row, covers_table}
use Rattle.page_trees.specs.TableSteps.{covers_table_body, is_hidden_content_name, is_hidden_input, is_ignored_end_name, names_form}
use Rattle.page_trees.specs.TableSteps.{names_table, names_template}
use Rattle.page_trees.specs.TableTexts.{with_fostering}
use Rattle.page_trees.specs.declared.modes.groups.Group.{Group}
use Rattle.page_trees.specs.declared.name.Name.{Name}
use Rattle.page_trees.proofs.BodyImages.{image_named}
use Rattle.page_trees.proofs.OrderlyTokens.{Orderly, orderly}
use Rattle.page_trees.proofs.StandingNames.{text_again}
use Rattle.page_trees.proofs.TagRules.{among_all, end_ends, end_fostered, input_fostered, none_among, start_ends, start_fostered}
use Rattle.page_trees.proofs.TagRules.{table_ends, table_starts}
use Rattle.page_trees.proofs.TokenRules.{taken_of}

-- ---- a state

-- each element is in the list once at most
abbrev pub Lists : Building → Type 0
Lists b = Once b.tree

-- what is known of the state in which a tag is processed by the rules for a mode
pub record Suits (b : Building) : Type 0 where
  pub returning : returns_plainly b ≡ true
  pub opened : is_before_html b.mode || has_html b ≡ true
  pub closed : not (is_after_head b.mode) || head_is_closed b ≡ true
  pub nulls : without_nulls b.pending ≡ true
  pub insertion : is_insertion_mode b.mode ≡ true
  pub tag : is_tag b.token ≡ true
  pub lists : Lists b

-- the start tag `image` comes to the rules for the current mode again
abbrev pub Again : Building → Type 0
Again b = is_image b.token ≡ true → goes_to_mode b.tree ≡ true

both_so : (x y : Bool) → x ≡ true → y ≡ true → x && y ≡ true
both_so true y e f = f
both_so false y e f = e

right_so : (x y : Bool) → y ≡ true → x || y ≡ true
right_so true y e = refl
right_so false y e = e

left_so : (x y : Bool) → x ≡ true → x || y ≡ true
left_so true y e = refl
left_so false y e = cc

-- ---- "in body"

starts_all : (group : Group) → covers_start group ≡ true
starts_all Group.Html = refl
starts_all _ = refl

ends_all : (group : Group) → covers_end_of group ≡ true
ends_all Group.Html = refl
ends_all _ = refl

agency_so : (b : Building) → Lists b → allows_agency b ≡ true
agency_so b lists = lists.0

nobr_so : (b : Building) → Lists b → closes_nobr b ≡ true
nobr_so b lists = right_so (not (holds (InScope Scope (These (codes "nobr" ∷ []))) b)) (allows_agency b) (agency_so b lists)

reconstructed_so : (b : Building) → Lists b → Lists (perform ReconstructFormatting b)
unfolding perform
reconstructed_so b lists = once_reconstructed b.tree lists

starts_suit : (group : Group) (b : Building) → Lists b → (group ≡ Group.Image → comes_back b ≡ true) → starts_in group b ≡ true
starts_suit Group.A b lists image =
    by (holds (Listed (These (codes "a" ∷ []))) b) (allows_agency b) (agency_so b lists)
  where
    by : (y z : Bool) → z ≡ true → not y || (y && z) ≡ true
    by true z f = f
    by false z f = refl
starts_suit Group.Nobr b lists image = nobr_so (perform ReconstructFormatting b) (reconstructed_so b lists)
starts_suit Group.Image b lists image = image refl
starts_suit _ b lists image = refl

ends_suit : (group : Group) (b : Building) → Lists b → ends_in group b ≡ true
ends_suit Group.A b lists = agency_so b lists
ends_suit Group.Formatting b lists = agency_so b lists
ends_suit Group.Nobr b lists = agency_so b lists
ends_suit _ b lists = refl

-- the start tag `image` suits the state
abbrev IfImage : Bool → Name → Building → Type 0
IfImage start name b = start ≡ true → name ≡ Name.Image → comes_back b ≡ true

kinds_so : (start : Bool) (name : Name) → covers_kind_in_body start name ≡ true
kinds_so true name = starts_all (group_named name)
kinds_so false name = ends_all (group_named name)

suits_so : (start : Bool) (name : Name) (b : Building) → Lists b → IfImage start name b → suits_kind_in_body start name b ≡ true
suits_so true name b lists image = starts_suit (group_named name) b lists (λ e. image refl (image_named name e))
suits_so false name b lists image = ends_suit (group_named name) b lists

content_so : (start : Bool) (name : Name) (b : Building) → Lists b → IfImage start name b → covers_content start name b ≡ true
content_so true name b lists image =
    both_so (covers_kind_in_body true name) (suits_kind_in_body true name b) (kinds_so true name) (suits_so true name b lists image)
content_so false name b lists image =
    both_so (covers_kind_in_body false name) (suits_kind_in_body false name b) (kinds_so false name) (suits_so false name b lists image)

image_token : (t : Token) → is_start_tag t ≡ true → name_of (own_name t) ≡ Name.Image → is_image t ≡ true
image_token (AStart w attrs closing) s e = ap names_image e
image_token _ s e = cc

if_image : (b : Building) → Again b → is_body_mode b.mode ≡ true → IfImage (is_start_tag b.token) (tag_name b) b
if_image b again body start name = both_so (is_body_mode b.mode) (goes_to_mode b.tree) body (again (image_token b.token start name))

-- ---- "in table"

fosters_so : (b : Building) → is_fostering (taken b (rules InTable)) ≡ true → acts_in_body (with_fostering true b) || comes_to_table b ≡ true →
    fosters_tag b ≡ true
fosters_so b h k = both_so (is_fostering (taken b (rules InTable))) (acts_in_body (with_fostering true b) || comes_to_table b) h k

not_image : (w : List ℕ) → names_image (name_of w) ≡ false → is_among w (codes "image" ∷ []) ≡ false
unfolding html_rows rare_rows
not_image w h = by (bytes_eq w (codes "image")) refl
  where
    by : (x : Bool) → bytes_eq w (codes "image") ≡ x → x || false ≡ false
    by true e = sym (ap (λ v. names_image (name_of v)) ((bytes_eq-Decides w (codes "image")).0 e)) ∙ h
    by false e = refl

start_acts : (w : List ℕ) (attrs : List Attr) (closing : Bool) (b : Building) → b.token ≡ AStart w attrs closing → Lists b → Again b →
    is_table_mode b.mode ≡ true → acts_in_body (with_fostering true b) || comes_to_table b ≡ true
start_acts w attrs closing b e lists again table = by (names_image (name_of w)) refl
  where
    on : Building
    on = with_fostering true b

    lists_on : Lists on
    lists_on = (lists.0, lists.1)

    by : (x : Bool) → names_image (name_of w) ≡ x → acts_in_body on || comes_to_table b ≡ true
    by true k = right_so (acts_in_body on) (comes_to_table b) (both_so (is_image b.token) (is_table_mode b.mode && goes_to_mode b.tree)
        (ap is_image e ∙ k) (both_so (is_table_mode b.mode) (goes_to_mode b.tree) table (again (ap is_image e ∙ k))))
    by false k = left_so (acts_in_body on) (comes_to_table b) (both_so (ends_there on) (covers_in_body b.token && suits_in_body b.token on)
        (start_ends w attrs closing on e (not_image w k)) (both_so (covers_in_body b.token) (suits_in_body b.token on)
        (ap covers_in_body e ∙ starts_all (group_named (name_of w)))
        (ap (λ t. suits_in_body t on) e ∙ starts_suit (group_named (name_of w)) on lists_on
        (λ g. (let image : names_image (name_of w) ≡ true = ap names_image (image_named (name_of w) g) in cc)))))

end_acts : (w : List ℕ) (b : Building) → b.token ≡ AnEnd w → Lists b → is_among w (codes "html" ∷ []) ≡ false →
    acts_in_body (with_fostering true b) || comes_to_table b ≡ true
end_acts w b e lists other =
    left_so (acts_in_body on) (comes_to_table b) (both_so (ends_there on) (covers_in_body b.token && suits_in_body b.token on)
    (end_ends w on e other) (both_so (covers_in_body b.token) (suits_in_body b.token on)
    (ap covers_in_body e ∙ ends_all (group_named (name_of w)))
    (ap (λ t. suits_in_body t on) e ∙ ends_suit (group_named (name_of w)) on lists_on)))
  where
    on : Building
    on = with_fostering true b

    lists_on : Lists on
    lists_on = (lists.0, lists.1)

-- the start tags that are in the rules for "in table" are covered, but for `input`, of which that depends on its attributes
abbrev starts_there : List ℕ → Bool
starts_there n =
    is_part_name (name_of n) || (names_form (name_of n) || (names_table (name_of n) || is_hidden_content_name (name_of n)))

abbrev starts_known : List ℕ → Bool
starts_known n = bytes_eq n (codes "input") || starts_there n

start_known : (w : List ℕ) → is_among w table_starts ≡ true → starts_known w ≡ true
unfolding rules html_rows rare_rows
start_known w h = among_all starts_known table_starts w refl h

hidden_input : (w : List ℕ) (b : Building) → w ≡ codes "input" → is_hidden_input (name_of w) b ≡ holds AttributeTypeHidden b
unfolding html_rows rare_rows
hidden_input w b e = ap (λ v. is_hidden_input (name_of v) b) e

start_in_table : (w : List ℕ) (attrs : List Attr) (closing : Bool) (b : Building) → b.token ≡ AStart w attrs closing → Lists b → Again b →
    is_table_mode b.mode ≡ true → covers_table true (name_of w) b ≡ true
start_in_table w attrs closing b e lists again table = by (is_among w table_starts) refl
  where
    name : Name
    name = name_of w

    input : covers_input name b ≡ true → covers_table true name b ≡ true
    input k = right_so (is_part_name name) (names_form name || covers_other name b) (right_so (names_form name) (covers_other name b)
        (right_so (names_table name) (is_hidden_content_name name || covers_input name b)
        (right_so (is_hidden_content_name name) (covers_input name b) k)))

    fostered : is_fostering (taken b (rules InTable)) ≡ true → covers_table true name b ≡ true
    fostered k = input (right_so (is_hidden_input name b) (fosters_tag b) (fosters_so b k
        (start_acts w attrs closing b e lists again table)))

    there : (p f t h rest : Bool) → p || (f || (t || h)) ≡ true → p || (f || (t || (h || rest))) ≡ true
    there true f t h rest k = refl
    there false true t h rest k = refl
    there false false true h rest k = refl
    there false false false true rest k = refl
    there false false false false rest k = cc

    shown : (y : Bool) → holds AttributeTypeHidden b ≡ y → w ≡ codes "input" → covers_table true name b ≡ true
    shown true k i = input (left_so (is_hidden_input name b) (fosters_tag b) (hidden_input w b i ∙ k))
    shown false k i = fostered (input_fostered attrs closing b (e ∙ ap (λ v. AStart v attrs closing) i) k)

    known : (y : Bool) → bytes_eq w (codes "input") ≡ y → y || starts_there w ≡ true → covers_table true name b ≡ true
    known true k h = shown (holds AttributeTypeHidden b) refl ((bytes_eq-Decides w (codes "input")).0 k)
    known false k h = there (is_part_name name) (names_form name) (names_table name) (is_hidden_content_name name) (covers_input name b) h

    by : (x : Bool) → is_among w table_starts ≡ x → covers_table true name b ≡ true
    by true k = known (bytes_eq w (codes "input")) refl (start_known w k)
    by false k = fostered (start_fostered w attrs closing b e k)

abbrev ends_known : List ℕ → Bool
ends_known n = is_ignored_end_name (name_of n) || (names_table (name_of n) || names_template (name_of n))

end_known : (w : List ℕ) → is_among w table_ends ≡ true → ends_known w ≡ true
unfolding rules html_rows rare_rows
end_known w h = among_all ends_known table_ends w refl h

no_html : (w : List ℕ) → is_among w table_ends ≡ false → is_among w (codes "html" ∷ []) ≡ false
unfolding rules
no_html w none = none_among table_ends (codes "html" ∷ []) w refl none

end_in_table : (w : List ℕ) (b : Building) → b.token ≡ AnEnd w → Lists b → covers_table false (name_of w) b ≡ true
end_in_table w b e lists = by (is_among w table_ends) refl
  where
    name : Name
    name = name_of w

    there : (i t m rest : Bool) → i || (t || m) ≡ true → i || (t || (m || rest)) ≡ true
    there true t m rest k = refl
    there false true m rest k = refl
    there false false true rest k = refl
    there false false false rest k = cc

    by : (x : Bool) → is_among w table_ends ≡ x → covers_table false name b ≡ true
    by true k = there (is_ignored_end_name name) (names_table name) (names_template name) (fosters_tag b) (end_known w k)
    by false k = right_so (is_ignored_end_name name) (names_table name || (names_template name || fosters_tag b))
        (right_so (names_table name) (names_template name || fosters_tag b) (right_so (names_template name) (fosters_tag b)
        (fosters_so b (end_fostered w b e k) (end_acts w b e lists (no_html w k)))))

table_so : (b : Building) → Suits b → Again b → is_table_mode b.mode ≡ true → covers_table (is_start_tag b.token) (tag_name b) b ≡ true
table_so b suits again table =
    by b.token refl suits.tag
  where
    by : (t : Token) → b.token ≡ t → is_tag t ≡ true → covers_table (is_start_tag t) (name_of (own_name t)) b ≡ true
    by (AStart w attrs closing) e i = start_in_table w attrs closing b e suits.lists again table
    by (AnEnd w) e i = end_in_table w b e suits.lists
    by _ e i = cc

-- ---- the other modes of tables

body_so : (start : Bool) (name : Name) (b : Building) → covers_table start name b ≡ true → covers_table_body start name b ≡ true
body_so true name b h = right_so (is_part_name name) (covers_table true name b) h
body_so false name b h = right_so (is_ignored_end_name name) (names_table name || covers_table false name b)
    (right_so (names_table name) (covers_table false name b) h)

caption_so : (start : Bool) (name : Name) (b : Building) → covers_content start name b ≡ true → covers_caption start name b ≡ true
caption_so true name b h = right_so (is_part_name name) (covers_content true name b) h
caption_so false name b h = right_so (is_ignored_end_name name) (names_table name || covers_content false name b)
    (right_so (names_table name) (covers_content false name b) h)

cell_so : (start : Bool) (name : Name) (b : Building) → covers_content start name b ≡ true → covers_cell start name b ≡ true
cell_so true name b h = right_so (is_part_name name) (covers_content true name b) h
cell_so false name b h = right_so (is_ignored_end_name name) (names_table name || covers_content false name b)
    (right_so (names_table name) (covers_content false name b) h)

-- ---- the rules for the current mode

mode_so : (b : Building) → Suits b → Again b → covers_tag_in b.mode b ≡ true
mode_so b suits again = by b.mode refl suits.insertion suits.opened suits.closed suits.returning
  where
    start : Bool
    start = is_start_tag b.token

    name : Name
    name = tag_name b

    body : (m : Mode) → b.mode ≡ m → is_body_mode m ≡ true → covers_content start name b ≡ true
    body m e h = content_so start name b suits.lists (if_image b again (ap is_body_mode e ∙ h))

    tabled : (m : Mode) → b.mode ≡ m → is_table_mode m ≡ true → covers_table start name b ≡ true
    tabled m e h = table_so b suits again (ap is_table_mode e ∙ h)

    by : (m : Mode) → b.mode ≡ m → is_insertion_mode m ≡ true → is_before_html m || has_html b ≡ true →
        not (is_after_head m) || head_is_closed b ≡ true → not (returns m) || enters_plainly b.original ≡ true → covers_tag_in m b ≡ true
    by Dispatcher e i h c r = cc
    by ForeignContent e i h c r = cc
    by Initial e i h c r = refl
    by BeforeHtml e i h c r = refl
    by InTemplate e i h c r = refl
    by BeforeHead e i h c r = h
    by InHead e i h c r = h
    by InHeadNoscript e i h c r = h
    by AfterHead e i h c r = both_so (has_html b) (head_is_closed b) h c
    by AfterBody e i h c r = h
    by AfterAfterBody e i h c r = h
    by InFrameset e i h c r = h
    by AfterFrameset e i h c r = h
    by AfterAfterFrameset e i h c r = h
    by Text e i h c r = r
    by InTableText e i h c r = both_so (enters_plainly b.original) (without_nulls b.pending) r suits.nulls
    by InBody e i h c r = both_so (passes covers_kind_in_body b) (suits_kind_in_body start name b)
        (both_so (has_html b) (covers_kind_in_body start name) h (kinds_so start name))
        (suits_so start name b suits.lists (if_image b again (ap is_body_mode e)))
    by InTable e i h c r = both_so (has_html b) (covers_table start name b) h (tabled InTable e refl)
    by InCaption e i h c r = both_so (has_html b) (covers_caption start name b) h (caption_so start name b (body InCaption e refl))
    by InColumnGroup e i h c r = both_so (has_html b) true h refl
    by InTableBody e i h c r = both_so (has_html b) (covers_table_body start name b) h (body_so start name b (tabled InTableBody e refl))
    by InRow e i h c r = both_so (has_html b) (covers_row start name b) h (body_so start name b (tabled InRow e refl))
    by InCell e i h c r = both_so (has_html b) (covers_cell start name b) h (cell_so start name b (body InCell e refl))

-- ---- foreign content

-- `html` is an HTML element
named_html : (kind : Kind) → is_named (codes "html" ∷ []) kind ≡ true → is_html (space_in kind) ≡ true
named_html (ElementNode Html name attrs contents) h = refl
named_html (ElementNode Svg name attrs contents) h = cc
named_html (ElementNode MathMl name attrs contents) h = cc
named_html (TextNode text) h = cc
named_html (CommentNode text) h = cc
named_html (DoctypeNode d) h = cc
named_html DocumentNode h = cc
named_html ContentsNode h = cc

html_not_foreign : (t : GrowingTree) (n : ℕ) → is_html (space_in (kind_of t n)) ≡ true → is_foreign t n ≡ false
html_not_foreign t n h = ap (λ x. not x && not (is_one t text_points n) && not (is_html_point (kind_of t n))) h

html_stays : (t : GrowingTree) (s : List ℕ) → is_one t (codes "html" ∷ []) (topmost s) ≡ true →
    is_one t (codes "html" ∷ []) (topmost (beyond (is_foreign t) s)) ≡ true
html_stays t [] h = h
html_stays t (n ∷ []) h = by (is_foreign t n) (html_not_foreign t n (named_html (kind_of t n) h))
  where
    by : (x : Bool) → x ≡ false →
        is_one t (codes "html" ∷ []) (topmost (elim x as (λ _. List ℕ) [ true ↦ [] | false ↦ n ∷ [] ])) ≡ true
    by true e = cc
    by false e = h
html_stays t (n ∷ m ∷ ns) h = by (is_foreign t n) (html_stays t (m ∷ ns) h)
  where
    by : (x : Bool) → is_one t (codes "html" ∷ []) (topmost (beyond (is_foreign t) (m ∷ ns))) ≡ true →
        is_one t (codes "html" ∷ []) (topmost (elim x as (λ _. List ℕ) [ true ↦ beyond (is_foreign t) (m ∷ ns) | false ↦ n ∷ m ∷ ns ])) ≡ true
    by true k = k
    by false k = h

member_stays : (test : ℕ → Bool) (n : ℕ) (s : List ℕ) → is_member n s ≡ false → is_member n (beyond test s) ≡ false
member_stays test n [] h = h
member_stays test n (m ∷ ms) h = by (test m) (member_stays test n ms (fewer h))
  where
    right : (x y : Bool) → x || y ≡ false → y ≡ false
    right true y e = cc
    right false y e = e

    fewer : is_member n (m ∷ ms) ≡ false → is_member n ms ≡ false
    fewer k = right (nat_eq n m) (is_member n ms) k

    by : (x : Bool) → is_member n (beyond test ms) ≡ false →
        is_member n (elim x as (λ _. List ℕ) [ true ↦ beyond test ms | false ↦ m ∷ ms ]) ≡ false
    by true k = k
    by false k = h

head_stays : (b : Building) → head_is_closed b ≡ true → (test : ℕ → Bool) →
    option_map_or (λ n. not (is_member n (beyond test b.tree.stack))) b.tree.head true ≡ true
head_stays b h test = by b.tree.head h
  where
    out : (x : Bool) → not x ≡ true → x ≡ false
    out true e = cc
    out false e = refl

    by : (o : Option ℕ) → option_map_or (λ n. not (is_member n b.tree.stack)) o true ≡ true →
        option_map_or (λ n. not (is_member n (beyond test b.tree.stack))) o true ≡ true
    by None k = refl
    by (Some n) k = ap not (member_stays test n b.tree.stack (out (is_member n b.tree.stack) k))

popped_so : (b : Building) → Suits b → Suits (perform PopForeignElements b)
unfolding perform
popped_so b suits = record {
  returning = suits.returning;
  opened = html_kept (is_before_html b.mode) suits.opened;
  closed = head_kept (not (is_after_head b.mode)) suits.closed;
  nulls = suits.nulls;
  insertion = suits.insertion;
  tag = suits.tag;
  lists = (suits.lists.0, suits.lists.1);
}
  where
    html_kept : (x : Bool) → x || has_html b ≡ true →
        x || is_one b.tree (codes "html" ∷ []) (topmost (beyond (is_foreign b.tree) b.tree.stack)) ≡ true
    html_kept true h = refl
    html_kept false h = html_stays b.tree b.tree.stack h

    head_kept : (x : Bool) → x || head_is_closed b ≡ true →
        x || option_map_or (λ n. not (is_member n (beyond (is_foreign b.tree) b.tree.stack))) b.tree.head true ≡ true
    head_kept true h = refl
    head_kept false h = head_stays b h (is_foreign b.tree)

popped_token : (b : Building) → is_image b.token ≡ false → is_image (perform PopForeignElements b).token ≡ false
unfolding perform
popped_token b h = h

acts_so : (acts : List Act) (b : Building) → Suits b → is_image b.token ≡ false → covers_acts acts b ≡ true
acts_so (does PopForeignElements [] ∷ acts) b suits other = acts_so acts (perform PopForeignElements b) (popped_so b suits) (popped_token b other)
acts_so (goes UseCurrentMode ∷ []) b suits other = mode_so b suits (λ e. cc)
acts_so _ b suits other = refl

-- ---- the start tag `image`

image_is : (name : Name) → names_image name ≡ true → name ≡ Name.Image
image_is Name.Image h = refl
image_is _ h = cc

image_written : (w : List ℕ) → names_image (name_of w) ≡ true → w ≡ codes "image"
image_written w h = elim (text_again w) [
  | inl other ↦ (let e : Name.Other ≡ Name.Image = sym other ∙ image_is (name_of w) h in cc)
  | inr same ↦ sym same ∙ ap text_of (image_is (name_of w) h)
]

image_in_mode : (attrs : List Attr) (closing : Bool) (b : Building) → b.token ≡ AStart (codes "image") attrs closing →
    is_in_mode b ≡ true → goes_to_mode b.tree ≡ true
unfolding rules
image_in_mode attrs closing b e h =
    by (is_empty b.tree.stack) (is_html (space_in (adjusted_current b.tree))) (is_named text_points (adjusted_current b.tree))
    (is_html_point (adjusted_current b.tree))
    (sym (ap uses_current_mode (taken_of (AStart (codes "image") attrs closing) b e (rules Dispatcher))) ∙ h)
  where
    by : (x y z v : Bool) → uses_current_mode (elim (x && true) as (λ _. List Act) [
      | true ↦ goes UseCurrentMode ∷ []
      | false ↦ elim (y && true) as (λ _. List Act) [
        | true ↦ goes UseCurrentMode ∷ []
        | false ↦ elim (z && true) as (λ _. List Act) [
          | true ↦ goes UseCurrentMode ∷ []
          | false ↦ elim (v && true) as (λ _. List Act) [ true ↦ goes UseCurrentMode ∷ [] | false ↦ goes (Use ForeignContent) ∷ [] ]
        ]
      ]
    ]) ≡ true → x || (y || (z || v)) ≡ true
    by true y z v k = refl
    by false true z v k = refl
    by false false true v k = refl
    by false false false true k = refl
    by false false false false k = cc

image_foreign : (attrs : List Attr) (closing : Bool) (b : Building) → b.token ≡ AStart (codes "image") attrs closing →
    covers_acts (taken b (rules ForeignContent)) b ≡ true
unfolding rules
image_foreign attrs closing b e =
    ap (λ acts. covers_acts acts b) (taken_of (AStart (codes "image") attrs closing) b e (rules ForeignContent))
    ∙ by (is_mathml (space_in (adjusted_current b.tree)))
  where
    by : (x : Bool) → covers_acts (elim (x && true) as (λ _. List Act) [
      | true ↦ does AdjustMathmlAttributes [] ∷ does AdjustForeignAttributes [] ∷ does InsertMathmlElement [] ∷ does Pop (is SelfClosing ∷ []) ∷ []
      | false ↦ does AdjustSvgName [] ∷ does AdjustSvgAttributes [] ∷ does AdjustForeignAttributes [] ∷ does InsertSvgElement [] ∷
          does Pop (is SelfClosing ∷ []) ∷ []
    ]) b ≡ true
    by true = refl
    by false = refl

image_token_is : (t : Token) → is_image t ≡ true → (attrs : List Attr) × (closing : Bool) × (t ≡ AStart (codes "image") attrs closing)
image_token_is (AStart w attrs closing) h = (attrs, closing, ap (λ v. AStart v attrs closing) (image_written w h))
image_token_is _ h = cc

-- ---- the dispatcher

first_taken : (x : Bool) (rest : List Act) → x ≡ true →
    uses_current_mode (elim (x && true) as (λ _. List Act) [ true ↦ goes UseCurrentMode ∷ [] | false ↦ rest ]) ≡ true
first_taken true rest e = refl
first_taken false rest e = cc

early_in_mode : (b : Building) → is_empty b.tree.stack ≡ true → is_in_mode b ≡ true
unfolding rules taken
early_in_mode b h = first_taken (is_empty b.tree.stack) _ h

html_open : (b : Building) → Suits b → opens_none_early b ≡ true → is_in_mode b ≡ false → has_html b ≡ true
html_open b suits early foreign = by (is_before_html b.mode) suits.opened early
  where
    by : (x : Bool) → x || has_html b ≡ true → not x || is_empty b.tree.stack ≡ true → has_html b ≡ true
    by true h k = (let e : is_in_mode b ≡ true = early_in_mode b k in cc)
    by false h k = h

acts_here : (b : Building) → Suits b → covers_acts (taken b (rules ForeignContent)) b ≡ true
acts_here b suits = by (is_image b.token) refl
  where
    by : (x : Bool) → is_image b.token ≡ x → covers_acts (taken b (rules ForeignContent)) b ≡ true
    by true e = (let image = image_token_is b.token e in image_foreign image.0 image.1 b image.2)
    by false e = acts_so (taken b (rules ForeignContent)) b suits e

again_so : (b : Building) → is_in_mode b ≡ true → Again b
again_so b here e = (let image = image_token_is b.token e in image_in_mode image.0 image.1 b image.2 here)

tag_so : (b : Building) → Suits b → opens_none_early b ≡ true → covers_tag b ≡ true
tag_so b suits early = by (is_in_mode b) refl
  where
    by : (x : Bool) → is_in_mode b ≡ x → elim x as (λ _. Bool) [ true ↦ covers_tag_in b.mode b | false ↦ covers_foreign_tag b ] ≡ true
    by true e = mode_so b suits (again_so b e)
    by false e = both_so (is_start_tag b.token || has_html b) (covers_acts (taken b (rules ForeignContent)) b)
        (right_so (is_start_tag b.token) (has_html b) (html_open b suits early e)) (acts_here b suits)

pub tags_are_covered : TagsAreCovered
tags_are_covered b h early tag = tag_so b (record {
  returning = o.returning;
  opened = o.opened;
  closed = o.closed;
  nulls = o.nulls;
  insertion = o.insertion;
  tag = tag;
  lists = both (lists_once b.tree.listed) (list_all (is_below (length b.tree.nodes)) b.tree.listed) o.once;
}) early
  where
    o : Orderly b
    o = orderly b h
