-- Elements that get their attributes later: the forest may grow meanwhile, and the list of attributes too.
use Rattle.std.proofs.Common.{◌≡◌, ◌<◌, ◌≤◌, ◌+◌, ◌-◌, ℕ, List, [], ◌∷◌, ◌++◌, length, take, drop, get_or, refl, sym, ap, ◌∙◌, arith}
use Rattle.std.proofs.lemmas.List.{take_all, take-append-le, drop-append-le, drop_at, length-append, length-drop}
use Rattle.std.proofs.lemmas.List.Elements.{All-head, All-tail, All-weaker}
use Rattle.std.proofs.lemmas.List.Sums.{fold_more}
use Rattle.dom_nodes.specs.Changes.{with_attrs, with_missing}
use Rattle.dom_nodes.specs.declared.name.Attr.{Attr}
use Rattle.dom_links.specs.Contents.{with_content}
use Rattle.dom_links.specs.Forest.{Forest}
use Rattle.dom_links.proofs.forest.Changing.{keeps_attrs}
use Rattle.dom_markup.specs.TreeUnderConstruction.{AreKnown, IsKnown, part_of, with_lists}
use Rattle.dom_markup.specs.declared.document.growing.PendingText.{PendingText}
use Rattle.dom_markup.proofs.rows.LateChanges.{changes_commute, CommutesWithGrowth}

abbrev with_list : List Attr → PendingText → Forest → Forest
with_list attrs w = with_content w.number (with_attrs (with_missing (part_of attrs w)))

-- the forest may grow while elements wait
pub lists_commute : (attrs : List Attr) (ws : List PendingText) (m : ℕ) (forest : Forest) → AreKnown (length forest.content) m ws → CommutesWithGrowth (with_lists attrs ws) forest
lists_commute attrs ws m forest known =
    changes_commute (λ (w : PendingText). w.number) (λ w. with_attrs (with_missing (part_of attrs w))) ws forest (λ w. keeps_attrs (with_missing (part_of attrs w)))
    (All-weaker (IsKnown (length forest.content) m) (λ w. w.number < length forest.content) (λ w is. is.0) ws known)

-- ---- the list of attributes

part-more : (attrs more : List Attr) (w : PendingText) → w.from ≤ w.to → w.to ≤ length attrs → part_of (attrs ++ more) w ≡ part_of attrs w
part-more attrs more w some within =
    ap (take (w.to - w.from)) (drop-append-le w.from attrs more (omega (arith, some, within)))
    ∙ take-append-le (w.to - w.from) (drop w.from attrs) more (omega (arith, length-drop w.from attrs, some, within))

-- attributes that come to its end
pub lists-more : (attrs more : List Attr) (ws : List PendingText) (n : ℕ) (forest : Forest) → AreKnown n (length attrs) ws → with_lists (attrs ++ more) ws forest ≡ with_lists attrs ws forest
lists-more attrs more [] n forest known = refl
lists-more attrs more (w ∷ ws) n forest known =
    let is = All-head (IsKnown n (length attrs)) w ws known in
    lists-more attrs more ws n (with_list (attrs ++ more) w forest) (All-tail (IsKnown n (length attrs)) w ws known)
    ∙ ap (λ (as' : List Attr). with_lists attrs ws (with_content w.number (with_attrs (with_missing as')) forest)) (part-more attrs more w is.1 is.2)

-- ---- a new element gets its attributes

pub all_missing : (attrs : List Attr) → with_missing attrs [] ≡ attrs
all_missing [] = refl
all_missing (a ∷ as') = ap (λ l. a ∷ l) (all_missing as')

-- of the attributes at the end
pub part-last : (attrs more : List Attr) (from to : ℕ) → from ≡ length attrs → to ≡ length (attrs ++ more) → take (to - from) (drop from (attrs ++ more)) ≡ more
part-last attrs more from to a b =
    ap (take (to - from)) (drop_at attrs more from (sym a)) ∙ take_all (to - from) more (omega (arith, a, b, length-append attrs more))

-- one element more has its attributes
pub given_one : (attrs part : List Attr) (ws : List PendingText) (i : ℕ) (w : PendingText) (first tree new : Forest) → i < length ws → w ≡ get_or ws i w → tree ≡ with_lists attrs (take i ws) first → part ≡ part_of attrs w → new ≡ with_content w.number (with_attrs (with_missing part)) tree →
    new ≡ with_lists attrs (take (i + 1) ws) first
given_one attrs part ws i w first tree new lt is so_far same made =
    made ∙ ap (λ (as' : List Attr). with_content w.number (with_attrs (with_missing as')) tree) same
    ∙ ap (with_list attrs w) so_far
    ∙ ap (λ (v : PendingText). with_list attrs v (with_lists attrs (take i ws) first)) is
    ∙ sym (fold_more (λ (forest : Forest) (v : PendingText). with_list attrs v forest) first ws i w lt)
