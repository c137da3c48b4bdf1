-- The list of active formatting elements without some of its entries.
use Rattle.std.proofs.Common.{◌≡◌, ℕ, ◌||◌, not, Bool, true, false, List, [], ◌∷◌, filter, refl, ap, ◌∙◌, if◌then◌else◌}
use Rattle.std.specs.List.{list_any}
use Rattle.standard_trees.specs.Formatting.{is_entry}
use Rattle.standard_trees.specs.GrowingTree.{Entry as StandardEntry, Formatting, Marker}
use Rattle.page_trees.specs.Listing.{lists_once}
use Rattle.page_trees.proofs.NamesAgree.{both}
use Rattle.page_trees.proofs.SplitLists.{neither, not_true, true_both}

none_left : (p : StandardEntry → Bool) (n : ℕ) (es : List StandardEntry) → list_any (is_entry n) es ≡ false → list_any (is_entry n) (filter p es) ≡ false
none_left p n [] h = refl
none_left p n (e ∷ es) h =
    let parts = neither (is_entry n e) (list_any (is_entry n) es) h in
    by (p e) parts.0 (none_left p n es parts.1)
  where
    by : (b : Bool) → is_entry n e ≡ false → list_any (is_entry n) (filter p es) ≡ false → list_any (is_entry n) (if b then e ∷ filter p es else filter p es) ≡ false
    by true here more = ap (λ c. c || list_any (is_entry n) (filter p es)) here ∙ more
    by false here more = more

pub left_once : (p : StandardEntry → Bool) (es : List StandardEntry) → lists_once es ≡ true → lists_once (filter p es) ≡ true
left_once p [] h = refl
left_once p (Marker ∷ es) h = by (p Marker) (left_once p es h)
  where
    by : (b : Bool) → lists_once (filter p es) ≡ true → lists_once (if b then Marker ∷ filter p es else filter p es) ≡ true
    by true more = more
    by false more = more
left_once p (Formatting n ∷ es) h =
    let parts = both (not (list_any (is_entry n) es)) (lists_once es) h in
    by (p (Formatting n)) (none_left p n es (not_true _ parts.0)) (left_once p es parts.1)
  where
    by : (b : Bool) → list_any (is_entry n) (filter p es) ≡ false → lists_once (filter p es) ≡ true → lists_once (if b then Formatting n ∷ filter p es else filter p es) ≡ true
    by true alone more = true_both (not (list_any (is_entry n) (filter p es))) (lists_once (filter p es)) (ap not alone) more
    by false alone more = more
