-- What is done to the list of active formatting elements is a step of the definition.
use Rattle.std.proofs.Common.{◌≡◌, List, [], ◌∷◌, ◌++◌, map, reverse, refl, sym, ap, subst, ◌∙◌, if◌then◌else◌}
use Rattle.std.specs.Prelude.{All}
use Rattle.std.proofs.lemmas.List.{reverse-append}
use Rattle.std.proofs.lemmas.List.Elements.{All-push}
use Rattle.standard_trees.specs.Formatting.{cleared}
use Rattle.standard_trees.specs.GrowingTree.{Entry as StandardEntry, GrowingTree, Marker}
use Rattle.page_trees.specs.Popping.{before_last, is_a_marker}
use Rattle.page_trees.specs.Stands.{Builds, EntryStands, IsListOf, entry_of, with_marker, without_marker}
use Rattle.page_trees.specs.TreeState.{TreeState}
use Rattle.page_trees.specs.declared.formatting.Entry.{Entry}
use Rattle.page_trees.proofs.PoppingLemmas.{all_before_last, before_last_push}
use Rattle.page_trees.proofs.ScopeLemmas.{by_ends}

pub built_listed : (s : TreeState) (t : GrowingTree) (entries : List Entry) (listed : List StandardEntry) → Builds s t → IsListOf t.nodes listed entries →
    Builds (record s { formatting = entries }) (record t { listed = listed })
built_listed s t entries listed b is = record {
  nodes = b.nodes;
  stack = record { ids = b.stack.ids; nodes = b.stack.nodes };
  numbered = b.numbered;
  listed = is;
  head = b.head;
  head_named = b.head_named;
  form = b.form;
  form_named = b.form_named;
  context = b.context;
  late = b.late;
  lone = b.lone;
}

-- ---- markers

pub marked_built : (s : TreeState) (t : GrowingTree) (entries : List Entry) → Builds s t → entries ≡ s.formatting ++ Entry.Marker ∷ [] → Builds (record s { formatting = entries }) (with_marker t)
marked_built s t entries b e =
    let turned : reverse entries ≡ Entry.Marker ∷ reverse s.formatting = ap (λ (es : List Entry). reverse es) e ∙ reverse-append s.formatting (Entry.Marker ∷ []) in
    built_listed s t entries (Marker ∷ t.listed) b (record {
      list = ap (λ (es : List StandardEntry). Marker ∷ es) b.listed.list ∙ ap (λ (es : List Entry). map entry_of es) (sym turned);
      elements = subst (All (EntryStands t.nodes)) (sym e) (All-push (EntryStands t.nodes) s.formatting Entry.Marker b.listed.elements tt);
    })

abbrev behind_marker : List Entry → List Entry
behind_marker [] = []
behind_marker (Entry.Marker ∷ es) = es
behind_marker (Entry.Element o ∷ es) = behind_marker es

turned_one : (ys : List Entry) (y : Entry) → reverse (before_last is_a_marker ys) ≡ behind_marker (reverse ys) →
    reverse (if is_a_marker y then ys else before_last is_a_marker ys) ≡ behind_marker (y ∷ reverse ys)
turned_one ys Entry.Marker e = refl
turned_one ys (Entry.Element o) e = e

outwards_marker : (es : List Entry) → reverse (before_last is_a_marker es) ≡ behind_marker (reverse es)
outwards_marker = by_ends (λ es. reverse (before_last is_a_marker es) ≡ behind_marker (reverse es)) refl (λ ys y e.
    ap (λ (es : List Entry). reverse es) (before_last_push is_a_marker ys y) ∙ turned_one ys y e ∙ ap behind_marker (sym (reverse-append ys (y ∷ []))))

cleared_is : (es : List Entry) → cleared (map entry_of es) ≡ map entry_of (behind_marker es)
cleared_is [] = refl
cleared_is (Entry.Marker ∷ es) = refl
cleared_is (Entry.Element o ∷ es) = cleared_is es

pub cleared_as : (s : TreeState) (t : GrowingTree) (entries : List Entry) → Builds s t → entries ≡ before_last is_a_marker s.formatting → Builds (record s { formatting = entries }) (without_marker t)
cleared_as s t entries b e =
    built_listed s t entries (cleared t.listed) b (record {
      list = ap cleared b.listed.list ∙ cleared_is (reverse s.formatting) ∙ ap (λ (es : List Entry). map entry_of es) (sym (ap (λ (es : List Entry). reverse es) e ∙ outwards_marker s.formatting));
      elements = subst (All (EntryStands t.nodes)) (sym e) (all_before_last (EntryStands t.nodes) is_a_marker s.formatting b.listed.elements);
    })
