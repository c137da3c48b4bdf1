-- What is still to be told of what is taken out, and what was.
use Rattle.std.proofs.Common.{ℕ, suc, ◌≡◌, ◌+◌, ◌<◌, ◌≤◌, ◌==◌, Bool, false, not, List, [], ◌∷◌, ◌++◌, Option, Some, None, refl, sym, ap, ◌∙◌, subst, length, arith, append_assoc, append-nil, slice_get, inl, inr, drop, get_or, take}
use Rattle.std.specs.List.{flat_map}
use Rattle.std.specs.Option.{option_map_or}
use Rattle.std.proofs.lemmas.Bool.{cases_Bool, eqb-true, false_from_ne_true}
use Rattle.std.proofs.lemmas.List.{drop_all, drop_more, take_more}
use Rattle.dom_nodes.specs.Words.{is_among}
use Rattle.dom_nodes.specs.declared.name.Attr.{Attr}
use Rattle.dom_nodes.specs.declared.node_data.NodeData.{NodeData}
use Rattle.dom_nodes.specs.declared.node_data.NodeData.TheVariants.{Document, Fragment, Doctype, Text, Comment, ProcessingInstruction, Element as AnElement}
use Rattle.dom_links.specs.Forest.{Forest, children_of, siblings}
use Rattle.dom_links.specs.Laws.{AreLines, AreTrees}
use Rattle.dom_links.specs.Lists.{after, first}
use Rattle.dom_links.specs.Trees.{trees, walk}
use Rattle.dom_links.specs.Walk.{row_on}
use Rattle.dom_markup.specs.Names.{void_names}
use Rattle.dom_markup.specs.ValueTrees.{Attribute}
use Rattle.dom_clean.specs.Ahead.{AreKnown, weight, with_below, with_row}
use Rattle.dom_clean.specs.Cleaned.{in_body}
use Rattle.dom_clean.specs.Fates.{fate_of, place_below}
use Rattle.dom_clean.specs.Policy.{Policy}
use Rattle.dom_clean.specs.Removals.{Notes, Removal, ahead_removed, is_left, removed, removed_attr, removed_behind, removed_below, removed_of, removed_under, row_removed}
use Rattle.dom_clean.specs.Written.{attribute_text}
use Rattle.dom_clean.specs.declared.fates.Fate.{Fate}
use Rattle.dom_clean.specs.declared.fates.Fate.TheVariants.{Stays, Unwrapped, Vanishes}
use Rattle.dom_clean.specs.declared.fates.Place.{Place}
use Rattle.dom_clean.specs.declared.writer.Entry.{Entry}
use Rattle.dom_clean.specs.declared.writer.Entry.TheVariants.{Row, End}
use Rattle.dom_clean.proofs.Writing.{known-with_below, known-with_row, length-numbers, row_is, weight-with_below, weight-with_row}

-- ---- attributes

-- what is still to be told after so many attributes
abbrev pub left_at : Policy → List ℕ → List Attr → ℕ → List Removal
left_at policy element attrs at = removed_behind policy element (take at attrs) (drop at attrs)

-- one attribute is told
pub step : (policy : Policy) (element : List ℕ) (attrs : List Attr) (at : ℕ) (d : Attr) (before : List Attr) (attr : Attr) (told now whole : List Removal) → at < length attrs →
    before ≡ take at attrs → attr ≡ get_or attrs at d → now ≡ told ++ removed_attr policy element before attr → told ++ left_at policy element attrs at ≡ whole → now ++ left_at policy element attrs (at + 1) ≡ whole
step policy element attrs at d before attr told now whole h before_is attr_is now_is is =
    let mine = removed_attr policy element (take at attrs) (get_or attrs at d) in
    let rest = removed_behind policy element (take (at + 1) attrs) (drop (at + 1) attrs) in
    let cut : left_at policy element attrs at ≡ mine ++ rest =
    ap (λ l. removed_behind policy element (take at attrs) l) (drop_more attrs at d h)
    ∙ ap (λ b. mine ++ removed_behind policy element b (drop (at + 1) attrs)) (sym (take_more attrs at d h)) in
    ap (λ t. t ++ rest) (now_is ∙ ap (λ b. told ++ removed_attr policy element b attr) before_is ∙ ap (λ a. told ++ removed_attr policy element (take at attrs) a) attr_is)
    ∙ append_assoc told mine rest ∙ ap (λ t. told ++ t) (sym cut) ∙ is

-- after all of them nothing is
pub left_none : (policy : Policy) (element : List ℕ) (attrs : List Attr) (at : ℕ) → length attrs ≤ at → left_at policy element attrs at ≡ []
left_none policy element attrs at all = ap (λ l. removed_behind policy element (take at attrs) l) (drop_all at attrs all)

-- ---- entries

module _ (policy : Policy) (forest : Forest) (are : AreTrees forest) (lines : AreLines forest) where
  removed-with_row : (first : Option ℕ) (place : Place) (entries : List Entry) → ahead_removed policy forest (with_row first place entries) ≡ row_removed policy forest first place ++ ahead_removed policy forest entries
  removed-with_row None place entries = ap (λ ts. removed policy forest place ts ++ ahead_removed policy forest entries) (sym are.no_trees)
  removed-with_row (Some n) place entries = refl

  removed-with_below : (fate : Fate) (content : NodeData) (n : ℕ) (below : Option ℕ) (place : Place) (entries : List Entry) →
      ahead_removed policy forest (with_below fate content n below place entries) ≡ removed_under fate content (row_removed policy forest below (place_below fate place content)) ++ ahead_removed policy forest entries
  removed-with_below Stays (AnElement e) n below place entries =
      let inside = place_below Stays place (AnElement e) in
      elim (cases_Bool (is_among e.name.local void_names)) as (λ t. ahead_removed policy forest (with_below Stays (AnElement e) n below place entries) ≡ removed_under Stays (AnElement e) (row_removed policy forest below inside) ++ ahead_removed policy forest entries) [
        | inl t ↦ rw t refl
        | inr f ↦ rw f (removed-with_row below inside (End n ∷ entries))
      ]
  removed-with_below Unwrapped content n below place entries = removed-with_row below place entries
  removed-with_below Vanishes content n below place entries = refl
  removed-with_below Stays (Text c) n below place entries = refl
  removed-with_below Stays Document n below place entries = refl
  removed-with_below Stays Fragment n below place entries = refl
  removed-with_below Stays (Doctype a b c) n below place entries = refl
  removed-with_below Stays (Comment c) n below place entries = refl
  removed-with_below Stays (ProcessingInstruction a b) n below place entries = refl

  -- a node is told
  pub node-noted : (fate : Fate) (content : NodeData) (n : ℕ) (place : Place) (old middle new : List Entry) (before now : List Removal) (next below : Option ℕ) → n < length forest.content → AreKnown forest old →
      slice_get forest.content n ≡ Some content → fate ≡ fate_of policy place content → next ≡ after (siblings forest n) n → below ≡ first (children_of forest n) → middle ≡ with_row next place old →
      new ≡ with_below fate content n below place middle → now ≡ before ++ removed_of policy fate content → Notes policy forest (Row n place) old new before now
  node-noted fate content n place old middle new before now next below known within read fate_is next_is below_is middle_is new_is now_is =
      let next_of : Option ℕ = after (siblings forest n) n in
      let first_of : Option ℕ = first (children_of forest n) in
      let outer = row_removed policy forest next_of place in
      let after_it = ahead_removed policy forest old in
      let own = removed_of policy fate content in
      let under = removed_under fate content (row_removed policy forest first_of (place_below fate place content)) in
      let middle_now : middle ≡ with_row next_of place old = middle_is ∙ ap (λ o. with_row o place old) next_is in
      let new_now : new ≡ with_below fate content n first_of place middle = new_is ∙ ap (λ o. with_below fate content n o place middle) below_is in
      let all : row_removed policy forest (Some n) place ≡ (own ++ under) ++ outer =
      ap (λ ts. removed policy forest place ts) (row_is policy forest are lines n known)
      ∙ ap (λ o. option_map_or (λ content. let fate = fate_of policy place content in removed_of policy fate content ++ removed_under fate content (row_removed policy forest first_of (place_below fate place content))) o [] ++ outer) read
      ∙ ap (λ f. (removed_of policy f content ++ removed_under f content (row_removed policy forest first_of (place_below f place content))) ++ outer) (sym fate_is) in
      record {
        known = subst (AreKnown forest) (sym new_now) (known-with_below policy forest are lines fate content n first_of place middle (lines.below_known false n)
            (subst (AreKnown forest) (sym middle_now) (known-with_row policy forest are lines next_of place old (lines.beside_known false n) within)));
        whole = ap (λ l. l ++ ahead_removed policy forest new) now_is ∙ append_assoc before own (ahead_removed policy forest new)
            ∙ ap (λ l. before ++ (own ++ l)) (ap (ahead_removed policy forest) new_now ∙ removed-with_below fate content n first_of place middle
            ∙ ap (λ l. under ++ l) (ap (ahead_removed policy forest) middle_now ∙ removed-with_row next_of place old))
            ∙ ap (λ l. before ++ l) (sym (append_assoc own under (outer ++ after_it)) ∙ sym (append_assoc (own ++ under) outer after_it) ∙ ap (λ l. l ++ after_it) (sym all));
        fewer = omega (
          arith,
          ap (weight forest) new_now,
          weight-with_below policy forest are lines fate content n first_of place middle,
          ap (weight forest) middle_now,
          weight-with_row policy forest are lines next_of place old,
          ap (λ ts. length (walk ts)) (row_is policy forest are lines n known),
          length-numbers (walk (trees forest (row_on forest false first_of))) (walk (trees forest (row_on forest false next_of))),
        );
      }

  -- nothing is told of an end tag
  pub end-noted : (n : ℕ) (old : List Entry) (before : List Removal) → AreKnown forest old → Notes policy forest (End n) old old before before
  end-noted n old before within = record { known = within; whole = refl; fewer = omega arith }

  -- at first the children of a node are to be told
  pub starts : (first_row : Option ℕ) (n : ℕ) (place : Place) (old entries : List Entry) → first_row ≡ first (children_of forest n) → place ≡ in_body policy → old ≡ [] → entries ≡ with_row first_row place old →
      AreKnown forest entries × (ahead_removed policy forest entries ≡ removed_below policy forest n)
  starts first_row n place old entries is there none entries_are =
      let first_of : Option ℕ = first (children_of forest n) in
      let all : entries ≡ with_row first_of (in_body policy) [] = entries_are ∙ ap (λ o. with_row o place old) is ∙ ap (λ p. with_row first_of p old) there ∙ ap (with_row first_of (in_body policy)) none in (
        subst (AreKnown forest) (sym all) (known-with_row policy forest are lines first_of (in_body policy) [] (lines.below_known false n) tt),
        ap (ahead_removed policy forest) all ∙ removed-with_row first_of (in_body policy) [] ∙ append-nil _ ∙ ap (λ ns. removed policy forest (in_body policy) (trees forest ns)) (sym (lines.below false n)),
      )

more_than_none : (n : ℕ) → (suc n == 0) ≡ false
more_than_none n = false_from_ne_true (suc n == 0) (λ same. absurd (omega (arith, eqb-true (suc n) 0 same)))

-- something is left of an attribute exactly where something is written of it
pub left_told : (left : List Attribute) (bytes : List ℕ) (is : Bool) → bytes ≡ flat_map attribute_text left → is ≡ (length bytes == 0) → not is ≡ is_left left
left_told [] bytes is written e = ap not e ∙ ap (λ t. not (length t == 0)) written
left_told (a ∷ left) bytes is written e = ap not (e ∙ ap (λ t. length t == 0) written ∙ more_than_none _)
