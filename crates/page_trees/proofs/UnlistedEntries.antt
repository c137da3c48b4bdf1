-- An element of the list of active formatting elements is removed.
use Rattle.std.proofs.Common.{◌≡◌, ℕ, ◌<◌, ◌==◌, ◌||◌, not, Bool, true, false, List, [], ◌∷◌, filter, map, reverse, refl, sym, ap, ◌∙◌, length, Option, Some, None, subst, suc, arith, true≢false, if◌then◌else◌}
use Rattle.std.specs.Prelude.{remove}
use Rattle.std.specs.List.{list_any}
use Rattle.std.specs.Option.{option_map_or}
use Rattle.std.proofs.lemmas.Bool.{eqb-true}
use Rattle.std.proofs.lemmas.List.{reverse-reverse}
use Rattle.standard_trees.specs.Formatting.{is_entry, unlisted}
use Rattle.standard_trees.specs.GrowingTree.{Entry as StandardEntry, Formatting, GrowingTree, Marker}
use Rattle.page_trees.specs.Formatting.{is_of, last_place, place_from_end}
use Rattle.page_trees.specs.Listing.{Unlists, lists_once}
use Rattle.page_trees.specs.Stands.{Builds, EntryStands, entry_of}
use Rattle.page_trees.specs.TreeState.{TreeState}
use Rattle.page_trees.specs.declared.formatting.Entry.{Entry}
use Rattle.page_trees.proofs.BuiltLists.{built_listed}
use Rattle.page_trees.proofs.HeldNumbers.{all_left}
use Rattle.page_trees.proofs.ListedEntries.{left_by, left_last, left_more}
use Rattle.page_trees.proofs.NamesAgree.{both}

abbrev stays : ℕ → StandardEntry → Bool
stays n entry = not (is_entry n entry)

none_gone : (n : ℕ) (es : List StandardEntry) → list_any (is_entry n) es ≡ false → filter (stays n) es ≡ es
none_gone n [] h = refl
none_gone n (e ∷ es) h = by (is_entry n e) h (none_gone n es)
  where
    by : (b : Bool) → (b || list_any (is_entry n) es) ≡ false → (list_any (is_entry n) es ≡ false → filter (stays n) es ≡ es) →
        (if not b then e ∷ filter (stays n) es else filter (stays n) es) ≡ e ∷ es
    by true h more = absurd (true≢false h)
    by false h more = ap (λ (xs : List StandardEntry). e ∷ xs) (more h)

next_bound : (b : Bool) (m : ℕ) (place : Option ℕ) (q : ℕ) → (place ≡ Some q → q < m) → (if b then Some m else place) ≡ Some q → q < suc m
next_bound true m place q more e = (let same : m ≡ q = cc in omega (arith, same))
next_bound false m place q more e = (let less = more e in omega (arith, less))

place_bound : (p : Entry → Bool) (es : List Entry) (q : ℕ) → place_from_end p es ≡ Some q → q < length es
place_bound p [] q e = cc
place_bound p (x ∷ es) q e = next_bound (p x) (length es) (place_from_end p es) q (place_bound p es q) e

not_true : (b : Bool) → not b ≡ true → b ≡ false
not_true true e = sym e
not_true false e = refl

gone_is : (n : ℕ) (es : List Entry) → lists_once (map entry_of es) ≡ true → filter (stays n) (map entry_of es) ≡ map entry_of (left_by (place_from_end (is_of n) es) es)
gone_is n [] h = refl
gone_is n (Entry.Marker ∷ es) h =
    ap (λ (xs : List StandardEntry). Marker ∷ xs) (gone_is n es h)
    ∙ ap (λ (xs : List Entry). map entry_of xs) (sym (left_more Entry.Marker es (place_from_end (is_of n) es) (place_bound (is_of n) es)))
gone_is n (Entry.Element o ∷ es) h =
    let parts = both (not (list_any (is_entry o.id) (map entry_of es))) (lists_once (map entry_of es)) h in
    by (o.id == n) refl (not_true (list_any (is_entry o.id) (map entry_of es)) parts.0) (gone_is n es parts.1)
  where
    by : (b : Bool) → (o.id == n) ≡ b → list_any (is_entry o.id) (map entry_of es) ≡ false →
        filter (stays n) (map entry_of es) ≡ map entry_of (left_by (place_from_end (is_of n) es) es) →
        (if not b then Formatting o.id ∷ filter (stays n) (map entry_of es) else filter (stays n) (map entry_of es))
        ≡ map entry_of (left_by (if b then Some (length es) else place_from_end (is_of n) es) (Entry.Element o ∷ es))
    by true e alone more =
        none_gone n (map entry_of es) (ap (λ m. list_any (is_entry m) (map entry_of es)) (sym (eqb-true o.id n e)) ∙ alone)
        ∙ ap (λ (xs : List Entry). map entry_of xs) (sym (left_last (Entry.Element o) es))
    by false e alone more =
        ap (λ (xs : List StandardEntry). Formatting o.id ∷ xs) more
        ∙ ap (λ (xs : List Entry). map entry_of xs) (sym (left_more (Entry.Element o) es (place_from_end (is_of n) es) (place_bound (is_of n) es)))

unlisted_built : (s : TreeState) (t : GrowingTree) (n : ℕ) (place : Option ℕ) → Builds s t → lists_once t.listed ≡ true → place ≡ last_place (is_of n) s.formatting →
    Builds (record s { formatting = option_map_or (remove s.formatting) place s.formatting }) (unlisted n t)
unlisted_built s t n place b once at =
    let entries : List Entry = option_map_or (remove s.formatting) place s.formatting in
    built_listed s t entries (filter (stays n) t.listed) b (record {
      list = ap (filter (stays n)) b.listed.list ∙ gone_is n (reverse s.formatting) (ap lists_once (sym b.listed.list) ∙ once)
          ∙ ap (λ (xs : List Entry). map entry_of (reverse (option_map_or (remove xs) (last_place (is_of n) s.formatting) xs))) (reverse-reverse s.formatting)
          ∙ ap (λ (p : Option ℕ). map entry_of (reverse (option_map_or (remove s.formatting) p s.formatting))) (sym at);
      elements = all_left (EntryStands t.nodes) s.formatting place b.listed.elements;
    })

-- by what the calls do
pub unlists_found : (old view new : TreeState) (n i : ℕ) (r : Option ℕ) → view ≡ old → r ≡ last_place (is_of n) view.formatting → r ≡ Some i →
    new ≡ record old { formatting = remove old.formatting i } → Unlists n old new
unlists_found old view new n i r same at found e t once b =
    let place = at ∙ ap (λ (s : TreeState). last_place (is_of n) s.formatting) same in
    subst (λ (s : TreeState). Builds s (unlisted n t)) (sym e) (unlisted_built old t n (Some i) b once (sym found ∙ place))

pub unlists_none : (old view : TreeState) (n : ℕ) (r : Option ℕ) → view ≡ old → r ≡ last_place (is_of n) view.formatting → r ≡ None → Unlists n old old
unlists_none old view n r same at none t once b =
    let place = at ∙ ap (λ (s : TreeState). last_place (is_of n) s.formatting) same in
    unlisted_built old t n None b once (sym none ∙ place)
