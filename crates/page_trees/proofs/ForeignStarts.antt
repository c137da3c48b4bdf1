-- What the rules for foreign content make of a start tag.
use Rattle.std.proofs.Common.{◌≡◌, ◌&&◌, ◌||◌, ℕ, zero, suc, Bool, true, false, List, [], ◌∷◌, Option, None, Some, codes, cond, map, not, refl, sym, ap, subst, ◌∙◌, true≢false}
use Rattle.std.specs.List.{find, list_any}
use Rattle.std.specs.Option.{is_some, option_and_then, option_map, option_map_or}
use Rattle.std.specs.Prelude.{encode_utf8_all, string_bytes}
use Rattle.std.specs.Str.{bytes_eq}
use lib.Utf8.{encode}
use Rattle.standard_tokens.specs.Tokens.{Attr}
use Rattle.standard_trees.specs.Building.{Building, is_empty, perform, performed, run, taken}
use Rattle.standard_trees.specs.GrowingTree.{GrowingTree, adjusted_current, in_foreign, is_among}
use Rattle.standard_trees.specs.NameLists.{breakouts}
use Rattle.standard_trees.specs.RuleWords.{Act, Dispatcher, ForeignContent, Mode as StandardMode, PopForeignElements, Use, UseCurrentMode, goes}
use Rattle.standard_trees.specs.TreeRules.{rules}
use Rattle.standard_trees.specs.TreeStore.{Kind, NodeAttr, Space, is_html, is_mathml, space_in}
use Rattle.page_tokens.specs.Standard.{AreAttrs}
use Rattle.page_tokens.specs.declared.attribute.TagAttr.{TagAttr}
use Rattle.page_tokens.specs.declared.token.Tag.{Tag}
use Rattle.page_trees.specs.Constructs.{ComesTo, Constructs, HaveOneToken, IsCurrentTag, Outcome, Runs, TakesTurn, WithinLimits}
use Rattle.page_trees.specs.CoveredTurns.{LeavesForeign, ProcessesForeign, covers_acts, covers_foreign_tag, covers_tag, covers_tag_in, is_start_tag, leaving_foreign, ProcessesCovered, uses_current_mode}
use Rattle.standard_order.specs.Order.{has_html}
use Rattle.page_trees.specs.Foreign.{ends_foreign, has_attr_named, names_font}
use Rattle.page_trees.specs.ForeignSteps.{InsertsForeign}
use Rattle.page_trees.specs.Modes.{is_start_kind, mode_of}
use Rattle.page_trees.specs.Names.{html_rows, rare_rows, text_of}
use Rattle.page_trees.specs.Sets.{space_of}
use Rattle.page_trees.specs.Stands.{Builds, Does, IsCurrent, without_foreign}
use Rattle.page_trees.specs.TagSteps.{way_for}
use Rattle.page_trees.specs.TreeState.{TreeState}
use Rattle.standard_order.specs.Turns.{run_while}
use Rattle.page_trees.specs.declared.builder.Next.{Next}
use Rattle.page_trees.specs.declared.builder.TreeBuilder.{TreeBuilder}
use Rattle.page_trees.specs.declared.name.Name.{Name}
use Rattle.page_trees.specs.declared.stack.ElementNamespace.{ElementNamespace}
use Rattle.page_trees.specs.declared.stack.Open.{Open}
use Rattle.page_trees.proofs.BodyRules.{outcome_of_acts}
use Rattle.page_trees.proofs.BodyStarts.{still, stepped}
use Rattle.page_trees.proofs.ForeignNames.{plain, spelled_eq}
use Rattle.page_trees.proofs.ForeignSteps.{attrs_of, foreign_svg_acts, foreign_svg_inserted, mathml_acts, mathml_inserted, start_attrs}
use Rattle.page_trees.proofs.NamesAgree.{both}
use Rattle.page_trees.proofs.RulesRun.{only_some, outcome_by, turn_of}
use Rattle.page_trees.proofs.RulesTaken.{are_of_names, chosen, plain_tag, taken_tag}
use Rattle.page_trees.proofs.TurnsPassed.{no_turn, while_next}

-- ---- a token is sent on

-- the rule that is taken does something, and then uses the rules for a mode
abbrev pub SendsOn : StandardMode → StandardMode → Building → Building → Type 0
SendsOn mode other b c = (again : StandardMode → Building → Option Building) → performed again (taken b (rules mode)) b ≡ option_and_then (λ x. Some x) (again other c)

comes_on : (mode other : StandardMode) (b c after : Building) → SendsOn mode other b c → ComesTo other c after → ComesTo mode b after
unfolding run
comes_on mode other b c after sends h = (suc h.0, sends (run h.0) ∙ ap (option_and_then (λ x. Some x)) h.1)

turn_on : (mode other : StandardMode) (b c after : Building) → SendsOn mode other b c → TakesTurn other c after → TakesTurn mode b after
turn_on mode other b c after sends turn test depth d h =
    by depth (only_some (run_while test depth other c) d (sym (sends (run_while test depth)) ∙ turn_of test depth mode b d (taken b (rules mode)) refl h))
  where
    by : (n : ℕ) → run_while test n other c ≡ Some d → run_while test n Dispatcher after ≡ Some d
    by zero e = absurd (no_turn test other c d e)
    by (suc n) e = while_next test n Dispatcher after d (turn test n d e)

runs_on : (mode other : StandardMode) (b c : Building) (next : Next) (after : Building) → HaveOneToken b c → SendsOn mode other b c → Runs other c next after → Runs mode b next after
runs_on mode other b c Next.Done after same sends h = comes_on mode other b c after sends h
runs_on mode other b c Next.Again after same sends h = (
  record { token = h.0.token ∙ same.token; attrs = h.0.attrs ∙ same.attrs },
  λ d k. comes_on mode other b c d sends (h.1 d k),
  turn_on mode other b c after sends h.2,
)

pub sent_on : (mode other : StandardMode) (b c : Building) (new : TreeBuilder) (next : Next) → HaveOneToken b c → SendsOn mode other b c → Outcome other c new next → Outcome mode b new next
sent_on mode other b c new next same sends o = record { after = o.after; stands = o.stands; runs = runs_on mode other b c next o.after same sends o.runs }

-- ---- the rules for start tags

pub foreign_known : are_of_names (rules ForeignContent) ≡ true
unfolding rules html_rows rare_rows
foreign_known = refl

abbrev staying_acts : Bool → List Act
staying_acts m = elim m [ true ↦ mathml_acts | false ↦ foreign_svg_acts ]

abbrev start_acts : Bool → Bool → Bool → Bool → List Act
start_acts e f a m = elim (e || false) [
  | true ↦ leaving_foreign
  | false ↦ elim (f || false) [ true ↦ elim (a && true) [ true ↦ leaving_foreign | false ↦ staying_acts (m && true) ] | false ↦ staying_acts (m && true) ]
]

breaks : (e f a m : Bool) → (e || (f && a)) ≡ true → start_acts e f a m ≡ leaving_foreign
breaks true f a m h = refl
breaks false true true m h = refl
breaks false true false m h = absurd (true≢false (sym h))
breaks false false a m h = absurd (true≢false (sym h))

stays : (e f a m : Bool) → (e || (f && a)) ≡ false → start_acts e f a m ≡ staying_acts m
stays true f a m h = absurd (true≢false h)
stays false true true m h = absurd (true≢false h)
stays false true false true h = refl
stays false true false false h = refl
stays false false a true h = refl
stays false false a false h = refl

abbrev font_attrs : List (List ℕ)
font_attrs = codes "color" ∷ codes "face" ∷ codes "size" ∷ []

abbrev in_mathml : Building → Bool
in_mathml b = is_mathml (space_in (adjusted_current b.tree))

start_row : (b : Building) (name : Name) → chosen (plain_tag true name) b (rules ForeignContent) ≡
    start_acts (is_among (text_of name) breakouts) (is_among (text_of name) (codes "font" ∷ [])) (list_any (λ a. is_among a.name font_attrs) b.attrs) (in_mathml b)
unfolding rules
start_row b name = refl

-- ---- `font`

font_is : (name : Name) → is_among (text_of name) (codes "font" ∷ []) ≡ names_font name
font_is Name.Font = refl
font_is _ = refl

has_is : (name : List ℕ) → encode_utf8_all name ≡ name → (ones : List TagAttr) (others : List Attr) → AreAttrs ones others →
    has_attr_named name ones ≡ list_any (λ a. bytes_eq a.name name) (map plain others)
has_is name low [] [] are = refl
has_is name low [] (other ∷ others) are = absurd are
has_is name low (one ∷ ones) [] are = absurd are
has_is name low (one ∷ ones) (other ∷ others) are =
    ap (λ b. is_some (option_map (λ attr. string_bytes attr.value) (cond b (Some one) (find (λ (attr : TagAttr). bytes_eq (string_bytes attr.name) name) ones))))
    (ap (λ (text : List ℕ). bytes_eq text name) are.0.name ∙ spelled_eq other.name name low)
    ∙ by (bytes_eq other.name name) (has_is name low ones others are.1)
  where
    by : (b : Bool) → has_attr_named name ones ≡ list_any (λ a. bytes_eq a.name name) (map plain others) →
        is_some (option_map (λ attr. string_bytes attr.value) (cond b (Some one) (find (λ (attr : TagAttr). bytes_eq (string_bytes attr.name) name) ones)))
        ≡ (b || list_any (λ a. bytes_eq a.name name) (map plain others))
    by true rest = refl
    by false rest = rest

any_of_three : (p q r : NodeAttr → Bool) (attrs : List NodeAttr) → list_any (λ a. p a || (q a || (r a || false))) attrs ≡ ((list_any p attrs || list_any q attrs) || list_any r attrs)
any_of_three p q r [] = refl
any_of_three p q r (a ∷ attrs) = ap (λ b. (p a || (q a || (r a || false))) || b) (any_of_three p q r attrs) ∙ by (p a) (q a) (r a) (list_any p attrs) (list_any q attrs) (list_any r attrs)
  where
    by : (x y z u v w : Bool) → ((x || (y || (z || false))) || ((u || v) || w)) ≡ (((x || u) || (y || v)) || (z || w))
    by true y z u v w = refl
    by false true z true v w = refl
    by false true z false v w = refl
    by false false true true v w = refl
    by false false true false true w = refl
    by false false true false false w = refl
    by false false false u v w = refl

color_low : encode_utf8_all (codes "color") ≡ codes "color"
unfolding encode
color_low = refl

face_low : encode_utf8_all (codes "face") ≡ codes "face"
unfolding encode
face_low = refl

size_low : encode_utf8_all (codes "size") ≡ codes "size"
unfolding encode
size_low = refl

font_attrs_are : (ones : List TagAttr) (others : List Attr) → AreAttrs ones others →
    ((has_attr_named (codes "color") ones || has_attr_named (codes "face") ones) || has_attr_named (codes "size") ones) ≡ list_any (λ a. is_among a.name font_attrs) (map plain others)
font_attrs_are ones others are =
    ap (λ b. (b || has_attr_named (codes "face") ones) || has_attr_named (codes "size") ones) (has_is (codes "color") color_low ones others are)
    ∙ ap (λ b. (list_any (λ a. bytes_eq a.name (codes "color")) (map plain others) || b) || has_attr_named (codes "size") ones) (has_is (codes "face") face_low ones others are)
    ∙ ap (λ b. (list_any (λ a. bytes_eq a.name (codes "color")) (map plain others) || list_any (λ a. bytes_eq a.name (codes "face")) (map plain others)) || b)
    (has_is (codes "size") size_low ones others are)
    ∙ sym (any_of_three (λ a. bytes_eq a.name (codes "color")) (λ a. bytes_eq a.name (codes "face")) (λ a. bytes_eq a.name (codes "size")) (map plain others))

-- the code and the definition have the same start tags end foreign content
ends_is : (name : Name) (tag : Tag) (b : Building) → is_start_kind tag.kind ≡ true → IsCurrentTag name tag b →
    ends_foreign name tag.attrs.items ≡ (is_among (text_of name) breakouts || (is_among (text_of name) (codes "font" ∷ []) && list_any (λ a. is_among a.name font_attrs) b.attrs))
ends_is name tag b starts c =
    ap (λ x. is_among (text_of name) breakouts || (names_font name && x)) (font_attrs_are tag.attrs.items (attrs_of c.standard) c.is.attrs)
    ∙ ap (λ x. is_among (text_of name) breakouts || (x && list_any (λ a. is_among a.name font_attrs) (map plain (attrs_of c.standard)))) (sym (font_is name))
    ∙ ap (λ (attrs : List NodeAttr). is_among (text_of name) breakouts || (is_among (text_of name) (codes "font" ∷ []) && list_any (λ a. is_among a.name font_attrs) attrs))
    (sym (start_attrs name tag b c starts))

-- ---- start tags that end foreign content

pub leaves_row : (name : Name) (tag : Tag) (b : Building) → is_start_kind tag.kind ≡ true → IsCurrentTag name tag b → ends_foreign name tag.attrs.items ≡ true →
    taken b (rules ForeignContent) ≡ leaving_foreign
leaves_row name tag b starts c ends =
    taken_tag name tag b c true starts (rules ForeignContent) foreign_known ∙ start_row b name
    ∙ breaks (is_among (text_of name) breakouts) (is_among (text_of name) (codes "font" ∷ [])) (list_any (λ a. is_among a.name font_attrs) b.attrs) (in_mathml b)
    (sym (ends_is name tag b starts c) ∙ ends)

-- elements are popped, and then the rules for the current mode process the tag
pub left_foreign : (name : Name) (tag : Tag) (old : TreeBuilder) (tree : TreeState) (new : TreeBuilder) (next : Next) → Does without_foreign old.tree tree →
    ProcessesCovered (mode_of old.mode) name tag (record old { tree = tree }) new next → LeavesForeign name tag old new next
unfolding perform
left_foreign name tag old tree new next pops rule within b current row covers stands =
    let c : Building = perform PopForeignElements b in
    let here : c.mode ≡ mode_of old.mode = stands.mode in
    sent_on ForeignContent c.mode b c new next (record { token = refl; attrs = refl }) (λ again. ap (λ acts. performed again acts b) row)
    (subst (λ (x : StandardMode). Outcome x c new next) (sym here)
    (rule within c (still name tag b c refl refl current) (subst (λ (x : StandardMode). covers_tag_in x c ≡ true) here covers)
    (stepped old tree without_foreign pops b refl stands)))

pub covered_parts : (b : Building) → covers_foreign_tag b ≡ true →
    ((is_start_tag b.token || has_html b) ≡ true) × (covers_acts (taken b (rules ForeignContent)) b ≡ true)
covered_parts b covered = both (is_start_tag b.token || has_html b) (covers_acts (taken b (rules ForeignContent)) b) covered

pub start_left : (name : Name) (tag : Tag) (old new : TreeBuilder) (next : Next) → ends_foreign name tag.attrs.items ≡ true → LeavesForeign name tag old new next →
    is_start_kind tag.kind ≡ true → ProcessesForeign name tag old new next
start_left name tag old new next ends rule starts within b current foreign covered stands =
    let row = leaves_row name tag b starts current ends in
    rule within b current row (sym (ap (λ acts. covers_acts acts b) row) ∙ (covered_parts b covered).1) stands

-- ---- other start tags

pub stays_row : (name : Name) (tag : Tag) (b : Building) → is_start_kind tag.kind ≡ true → IsCurrentTag name tag b → ends_foreign name tag.attrs.items ≡ false →
    taken b (rules ForeignContent) ≡ staying_acts (in_mathml b)
stays_row name tag b starts c ends =
    taken_tag name tag b c true starts (rules ForeignContent) foreign_known ∙ start_row b name
    ∙ stays (is_among (text_of name) breakouts) (is_among (text_of name) (codes "font" ∷ [])) (list_any (λ a. is_among a.name font_attrs) b.attrs) (in_mathml b)
    (sym (ends_is name tag b starts c) ∙ ends)

pub stayed_foreign : (ns : ElementNamespace) (name : Name) (tag : Tag) (old new : TreeBuilder) (next : Next) → next ≡ Next.Done → InsertsForeign ns name tag old new →
    is_start_kind tag.kind ≡ true → WithinLimits new → (b : Building) → IsCurrentTag name tag b → in_foreign b.tree ≡ true → space_of ns ≡ space_in (adjusted_current b.tree) →
    ends_foreign name tag.attrs.items ≡ false → Constructs old b → Outcome ForeignContent b new next
stayed_foreign ElementNamespace.Html name tag old new next done inserts starts within b current foreign space ends stands =
    absurd (true≢false (sym foreign ∙ ap (λ (s : Space). not (is_html s)) (sym space)))
stayed_foreign ElementNamespace.MathMl name tag old new next done inserts starts within b current foreign space ends stands =
    subst (λ (n : Next). Outcome ForeignContent b new n) (sym done)
    (outcome_of_acts ForeignContent b new mathml_acts refl (stays_row name tag b starts current ends ∙ ap (λ (s : Space). staying_acts (is_mathml s)) (sym space))
    (mathml_inserted name tag old new inserts starts within b current stands))
stayed_foreign ElementNamespace.Svg name tag old new next done inserts starts within b current foreign space ends stands =
    subst (λ (n : Next). Outcome ForeignContent b new n) (sym done)
    (outcome_of_acts ForeignContent b new foreign_svg_acts refl (stays_row name tag b starts current ends ∙ ap (λ (s : Space). staying_acts (is_mathml s)) (sym space))
    (foreign_svg_inserted name tag old new inserts starts within b current stands))

pub start_stays : (ns : ElementNamespace) (name : Name) (tag : Tag) (old new : TreeBuilder) (next : Next) → ends_foreign name tag.attrs.items ≡ false → next ≡ Next.Done →
    InsertsForeign ns name tag old new → ((t : GrowingTree) → Builds old.tree t → space_of ns ≡ space_in (adjusted_current t)) →
    is_start_kind tag.kind ≡ true → ProcessesForeign name tag old new next
start_stays ns name tag old new next ends done inserts space starts within b current foreign covered stands =
    stayed_foreign ns name tag old new next done inserts starts within b current foreign (space b.tree stands.tree) ends stands

-- ---- the adjusted current node

space_found : (r : Option Open) (kind : Kind) → IsCurrent r kind → (ns : ElementNamespace) → option_map_or (λ (o : Open). o.ns) r ElementNamespace.Html ≡ ns → space_of ns ≡ space_in kind
space_found None kind is ns e = sym (ap space_of e) ∙ sym (ap space_in is)
space_found (Some o) kind is ns e = sym (ap space_of e) ∙ sym (ap space_in is.kind)

pub some_space : (r : Option Open) (o : Open) (kind : Kind) → r ≡ Some o → IsCurrent r kind → space_of o.ns ≡ space_in kind
some_space r o kind e is = space_found r kind is o.ns (ap (λ (found : Option Open). option_map_or (λ (p : Open). p.ns) found ElementNamespace.Html) e)

pub none_space : (r : Option Open) (kind : Kind) → r ≡ None → IsCurrent r kind → space_of ElementNamespace.Html ≡ space_in kind
none_space r kind e is = space_found r kind is ElementNamespace.Html (ap (λ (found : Option Open). option_map_or (λ (p : Open). p.ns) found ElementNamespace.Html) e)

-- ---- the dispatcher

picked : (e h : Bool) (u f : List Act) → h ≡ true → elim (e && true) [ true ↦ u | false ↦ elim (h && true) [ true ↦ u | false ↦ f ] ] ≡ u
picked true h u f is = refl
picked false true u f is = refl
picked false false u f is = absurd (true≢false (sym is))

html_taken : (b : Building) → is_html (space_in (adjusted_current b.tree)) ≡ true → taken b (rules Dispatcher) ≡ goes UseCurrentMode ∷ []
unfolding rules taken
html_taken b is = picked (is_empty b.tree.stack) (is_html (space_in (adjusted_current b.tree))) (goes UseCurrentMode ∷ []) _ is

-- where the dispatcher has the rules for foreign content process a token, the adjusted current node is not an HTML element
pub is_in_foreign : (b : Building) → taken b (rules Dispatcher) ≡ goes (Use ForeignContent) ∷ [] → in_foreign b.tree ≡ true
is_in_foreign b way = by (is_html (space_in (adjusted_current b.tree))) refl
  where
    by : (x : Bool) → is_html (space_in (adjusted_current b.tree)) ≡ x → not x ≡ true
    by false e = refl
    by true e = absurd (true≢false (ap uses_current_mode (sym (html_taken b e) ∙ way)))

-- the dispatcher has them process it
pub foreign_dispatched : (new : TreeBuilder) (next : Next) (b : Building) (foreign : Bool) → foreign ≡ true → taken b (rules Dispatcher) ≡ goes (way_for foreign) ∷ [] →
    covers_tag b ≡ true → (in_foreign b.tree ≡ true → covers_foreign_tag b ≡ true → Outcome ForeignContent b new next) → Outcome Dispatcher b new next
foreign_dispatched new next b false e way covered rule = absurd (true≢false (sym e))
foreign_dispatched new next b true e way covered rule =
    outcome_by Dispatcher ForeignContent b new next way
    (rule (is_in_foreign b way) (sym (ap (λ acts. elim (uses_current_mode acts) [ true ↦ covers_tag_in b.mode b | false ↦ covers_foreign_tag b ]) way) ∙ covered))
