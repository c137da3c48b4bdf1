-- Whether the current node has a name, and is not in the list of active formatting elements.
use Rattle.std.proofs.Common.{◌≡◌, ℕ, ◌-◌, ◌==◌, ◌&&◌, ◌||◌, not, Bool, true, false, List, [], ◌∷◌, map, reverse, refl, sym, ap, ◌∙◌, length, Option, Some, subst, if◌then◌else◌}
use Rattle.std.specs.Prelude.{slice_get}
use Rattle.std.specs.List.{list_any}
use Rattle.std.specs.Option.{is_some, option_map_or}
use Rattle.standard_trees.specs.Formatting.{is_entry, is_listed}
use Rattle.standard_trees.specs.GrowingTree.{GrowingTree, current}
use Rattle.page_trees.specs.Formatting.{is_of, last_place, place_from_end}
use Rattle.page_trees.specs.Listing.{TellsBare}
use Rattle.page_trees.specs.Scopes.{has_name, is_name}
use Rattle.page_trees.specs.Stands.{Builds, entry_of}
use Rattle.page_trees.specs.TreeState.{TreeState}
use Rattle.page_trees.specs.declared.formatting.Entry.{Entry}
use Rattle.page_trees.specs.declared.name.Name.{Name}
use Rattle.page_trees.specs.declared.stack.Open.{Open}
use Rattle.page_trees.proofs.BuiltStacks.{current_id, current_tells}

some_entry : (n : ℕ) (es : List Entry) → is_some (place_from_end (is_of n) es) ≡ list_any (is_entry n) (map entry_of es)
some_entry n [] = refl
some_entry n (Entry.Marker ∷ es) = some_entry n es
some_entry n (Entry.Element o ∷ es) = by (o.id == n) (some_entry n es)
  where
    by : (b : Bool) → is_some (place_from_end (is_of n) es) ≡ list_any (is_entry n) (map entry_of es) →
        is_some (if b then Some (length es) else place_from_end (is_of n) es) ≡ (b || list_any (is_entry n) (map entry_of es))
    by true more = refl
    by false more = more

not_twice : (b c : Bool) → c ≡ not b → b ≡ not c
not_twice true c e = sym (ap not e)
not_twice false c e = sym (ap not e)

listed_tells : (view old : TreeState) (t : GrowingTree) (o : Open) (r : Option ℕ) (b : Bool) → view ≡ old → Builds old t →
    Some o ≡ slice_get view.stack (length view.stack - 1) → r ≡ last_place (is_of o.id) view.formatting → is_some r ≡ not b →
    b ≡ not (is_listed t (current t))
listed_tells view old t o r b same built here at none =
    let v : Builds view t = subst (λ (s : TreeState). Builds s t) (sym same) built in
    not_twice b (is_listed t (current t))
    (ap (λ n. list_any (is_entry n) t.listed) (current_id view t o v here) ∙ ap (list_any (is_entry o.id)) v.listed.list ∙ sym (some_entry o.id (reverse view.formatting))
    ∙ ap is_some (sym at) ∙ none)

pub bare_found : (view old : TreeState) (name : Name) (o : Open) (r : Option ℕ) (b x : Bool) → is_name name Name.Other ≡ false → view ≡ old →
    Some o ≡ slice_get view.stack (length view.stack - 1) → x ≡ true → x ≡ has_name name o → r ≡ last_place (is_of o.id) view.formatting →
    is_some r ≡ not b → TellsBare name old b
bare_found view old name o r b x known same here shows is at none t built =
    listed_tells view old t o r b same built here at none
    ∙ ap (λ c. c && not (is_listed t (current t)))
    (sym shows ∙ current_tells view old t name known same built x (is ∙ ap (λ (s : Option Open). option_map_or (has_name name) s false) here))

pub bare_other : (view old : TreeState) (name : Name) (o : Open) (x : Bool) → is_name name Name.Other ≡ false → view ≡ old →
    Some o ≡ slice_get view.stack (length view.stack - 1) → x ≡ false → x ≡ has_name name o → TellsBare name old false
bare_other view old name o x known same here lacks is t built =
    ap (λ c. c && not (is_listed t (current t)))
    (sym lacks ∙ current_tells view old t name known same built x (is ∙ ap (λ (s : Option Open). option_map_or (has_name name) s false) here))
