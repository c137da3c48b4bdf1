-- What is still to be written, and what was.
use Rattle.std.proofs.Common.{ℕ, ◌≡◌, ◌<◌, ◌≤◌, ◌+◌, Bool, true, false, cond, List, [], ◌∷◌, ◌++◌, Option, Some, None, refl, sym, ap, ◌∙◌, subst, length, arith, append_assoc, append-nil, slice_get, inl, inr}
use Rattle.std.specs.List.{flat_map}
use Rattle.std.specs.Option.{option_map_or}
use Rattle.std.proofs.lemmas.Str.{chars-nil}
use Rattle.std.proofs.lemmas.Bool.{cond_both, cases_Bool}
use Rattle.dom_nodes.specs.Words.{is_among}
use Rattle.dom_nodes.specs.declared.node_data.NodeData.{NodeData}
use Rattle.dom_nodes.specs.declared.node_data.NodeData.TheVariants.{Document, Fragment, Doctype, Text, Comment, ProcessingInstruction, Element as AnElement}
use Rattle.dom_links.specs.Forest.{Forest, children_of, siblings}
use Rattle.dom_links.specs.Laws.{AreLines, AreTrees}
use Rattle.dom_links.specs.Lists.{after, first}
use Rattle.dom_links.specs.Trees.{contents_list, NoTrees, Tree, Trees, trees, walk}
use Rattle.dom_links.specs.Walk.{IsWithin, later, row_on}
use Rattle.dom_markup.specs.Escaping.{escaped_text, text_char}
use Rattle.dom_markup.specs.Html.{closing, end_tag}
use Rattle.dom_markup.specs.Names.{void_names}
use Rattle.dom_markup.specs.ValueTrees.{ValueTrees}
use Rattle.dom_markup.specs.ValueTrees.ValueTrees.{no_trees, text_node, comment_node, doctype_node, element_node}
use Rattle.calm_pages.specs.Calm.{behind_text}
use Rattle.dom_clean.specs.Ahead.{AreKnown, Writes, ahead_text, front_after, front_past, is_nil, is_pre, opening, row_text, row_weight, seen, weight, with_below, with_row}
use Rattle.dom_clean.specs.Cleaned.{after_lines, cleaned, held_by, in_body, left_of, text_or, without_lines}
use Rattle.dom_clean.specs.Fates.{cleaned_attrs, fate_of, place_below, spellable}
use Rattle.dom_clean.specs.Policy.{Policy}
use Rattle.dom_clean.proofs.Lines.{lines_before_tag, lines_escaped, lines_seen}
use Rattle.dom_clean.proofs.Spellings.{spellable_utf8}
use Rattle.page_trees.specs.ElementKinds.{kind_of}
use Rattle.page_trees.specs.declared.element_kinds.ElementCategory.{ElementCategory}
use Rattle.page_trees.specs.declared.element_kinds.ElementCategory.TheVariants.{Pre}
use Rattle.std.specs.Prelude.{codes}
use Rattle.std.specs.Str.{IsUtf8}
use Rattle.dom_sanitize.specs.Written.{followed_by}
use Rattle.dom_clean.specs.Written.{start_of, text_of}
use Rattle.dom_clean.specs.declared.fates.Fate.{Fate}
use Rattle.dom_clean.specs.declared.fates.Fate.TheVariants.{Stays, Unwrapped, Vanishes}
use Rattle.dom_clean.specs.declared.fates.Place.{Place}
use Rattle.dom_clean.specs.declared.writer.Entry.{Entry}
use Rattle.dom_clean.specs.declared.writer.Entry.TheVariants.{Row, End}

pub length-numbers : (ms ns : List ℕ) → length (ms ++ ns) ≡ length ms + length ns
length-numbers [] ns = omega arith
length-numbers (m ∷ ms) ns = omega (arith, length-numbers ms ns)

text-followed : (a b : ValueTrees) → text_of (followed_by a b) ≡ text_of a ++ text_of b
text-followed no_trees b = refl
text-followed (text_node c later) b = ap (λ t. escaped_text c ++ t) (text-followed later b) ∙ sym (append_assoc (escaped_text c) (text_of later) (text_of b))
text-followed (comment_node c later) b =
    ap (λ t. codes "<!--" ++ (c ++ (codes "-->" ++ t))) (text-followed later b) ∙ ap (λ t. codes "<!--" ++ t) (sym (append_assoc c (codes "-->" ++ text_of later) (text_of b)))
text-followed (doctype_node n u s later) b =
    ap (λ t. codes "<!DOCTYPE " ++ (n ++ (codes ">" ++ t))) (text-followed later b) ∙ ap (λ t. codes "<!DOCTYPE " ++ t) (sym (append_assoc n (codes ">" ++ text_of later) (text_of b)))
text-followed (element_node n a children later) b =
    let front = start_of n a in
    let inner = cond (is_among n void_names) [] (text_of children ++ end_tag n) in
    ap (λ t. front ++ (inner ++ t)) (text-followed later b) ∙ ap (λ t. front ++ t) (sym (append_assoc inner (text_of later) (text_of b))) ∙ sym (append_assoc front (inner ++ text_of later) (text_of b))

text-behind : (text : List ℕ) → text_of (behind_text text no_trees) ≡ escaped_text text
text-behind [] = sym (ap (flat_map text_char) chars-nil)
text-behind (b ∷ text) = append-nil (escaped_text (b ∷ text))

-- ---- line feeds at the front

seen-tag : (in_front : Bool) (text : List ℕ) → seen in_front (60 ∷ text) ≡ 60 ∷ text
seen-tag true text = refl
seen-tag false text = refl

seen-nil : (in_front : Bool) → seen in_front [] ≡ []
seen-nil true = refl
seen-nil false = refl

-- the texts at the top are UTF-8
abbrev AreRead : ValueTrees → Type 0
AreRead no_trees = Unit {0}
AreRead (text_node contents later) = IsUtf8 contents × AreRead later
AreRead (comment_node contents later) = AreRead later
AreRead (doctype_node name public system later) = AreRead later
AreRead (element_node name attributes children later) = AreRead later

read-followed : (a b : ValueTrees) → AreRead a → AreRead b → AreRead (followed_by a b)
read-followed no_trees b p q = q
read-followed (text_node c later) b p q = (p.0, read-followed later b p.1 q)
read-followed (comment_node c later) b p q = read-followed later b p q
read-followed (doctype_node n u s later) b p q = read-followed later b p q
read-followed (element_node n a children later) b p q = read-followed later b p q

read-behind : (text : List ℕ) → IsUtf8 text → AreRead (behind_text text no_trees)
read-behind [] utf8 = tt
read-behind (b ∷ text) utf8 = (utf8, tt)

read-left : (policy : Policy) (fate : Fate) (content : NodeData) (below : ValueTrees) → AreRead below → AreRead (left_of policy fate content below)
read-left policy Stays (Text c) below is = read-behind (spellable c) (spellable_utf8 c)
read-left policy Stays (AnElement e) below is = tt
read-left policy Unwrapped content below is = is
read-left policy Vanishes content below is = tt
read-left policy Stays Document below is = tt
read-left policy Stays Fragment below is = tt
read-left policy Stays (Doctype a b c) below is = tt
read-left policy Stays (Comment c) below is = tt
read-left policy Stays (ProcessingInstruction a b) below is = tt

read-found : (policy : Policy) (place : Place) (found : Option NodeData) (below : NodeData → ValueTrees) → ((content : NodeData) → AreRead (below content)) →
    AreRead (option_map_or (λ content. left_of policy (fate_of policy place content) content (below content)) found no_trees)
read-found policy place None below are = tt
read-found policy place (Some content) below are = read-left policy (fate_of policy place content) content (below content) (are content)

cleaned-read : (policy : Policy) (forest : Forest) (place : Place) (ts : Trees) → AreRead (cleaned policy forest place ts)
cleaned-read policy forest place NoTrees = tt
cleaned-read policy forest place (Tree n contents children later) =
    read-followed (option_map_or (λ content. left_of policy (fate_of policy place content) content (cleaned policy forest (place_below (fate_of policy place content) place content) children)) (slice_get forest.content n) no_trees) (cleaned policy forest place later)
    (read-found policy place (slice_get forest.content n) (λ content. cleaned policy forest (place_below (fate_of policy place content) place content) children)
    (λ content. cleaned-read policy forest (place_below (fate_of policy place content) place content) children))
    (cleaned-read policy forest place later)

text-or : (left : List ℕ) (later others : ValueTrees) → text_of others ≡ after_lines (text_of later) → text_of (text_or left later others) ≡ escaped_text left ++ seen (is_nil left) (text_of later)
text-or [] later others is = is ∙ ap (λ t. flat_map text_char t ++ after_lines (text_of later)) (sym chars-nil)
text-or (b ∷ left) later others is = refl

text-lines : (ts : ValueTrees) → AreRead ts → text_of (without_lines ts) ≡ after_lines (text_of ts)
text-lines no_trees are = refl
text-lines (text_node c later) are = text-or (after_lines c) later (without_lines later) (text-lines later are.1) ∙ sym (lines_escaped c (text_of later) are.0)
text-lines (comment_node c later) are = refl
text-lines (doctype_node n u s later) are = refl
text-lines (element_node n a children later) are = refl

text-held : (kind : ElementCategory) (ts : ValueTrees) → AreRead ts → text_of (held_by kind ts) ≡ seen (is_pre kind) (text_of ts)
text-held Pre ts are = text-lines ts are
text-held _ ts are = refl

-- ---- entries

end-text : (in_front : Bool) (found : Option NodeData) (rest : List ℕ) →
    option_map_or closing found [] ++ seen (front_past in_front found) rest ≡ seen in_front (option_map_or closing found [] ++ rest)
end-text in_front (Some (AnElement e)) rest = sym (seen-tag in_front _)
end-text in_front None rest = refl
end-text in_front (Some (Text c)) rest = refl
end-text in_front (Some Document) rest = refl
end-text in_front (Some Fragment) rest = refl
end-text in_front (Some (Doctype a b c)) rest = refl
end-text in_front (Some (Comment c)) rest = refl
end-text in_front (Some (ProcessingInstruction a b)) rest = refl

module _ (policy : Policy) (forest : Forest) (are : AreTrees forest) (lines : AreLines forest) where
  abbrev next_of : ℕ → Option ℕ
  next_of n = after (siblings forest n) n

  abbrev first_of : ℕ → Option ℕ
  first_of n = first (children_of forest n)

  text-with_row : (first : Option ℕ) (place : Place) (entries : List Entry) → ahead_text policy forest (with_row first place entries) ≡ row_text policy forest first place ++ ahead_text policy forest entries
  text-with_row None place entries = ap (λ ts. text_of (cleaned policy forest place ts) ++ ahead_text policy forest entries) (sym are.no_trees)
  text-with_row (Some n) place entries = refl

  pub weight-with_row : (first : Option ℕ) (place : Place) (entries : List Entry) → weight forest (with_row first place entries) ≡ row_weight forest first + weight forest entries
  weight-with_row None place entries = omega (arith, ap (λ ts. length (walk ts)) are.no_trees)
  weight-with_row (Some n) place entries = refl

  pub known-with_row : (first : Option ℕ) (place : Place) (entries : List Entry) → IsWithin forest first → AreKnown forest entries → AreKnown forest (with_row first place entries)
  known-with_row None place entries known within = within
  known-with_row (Some n) place entries known within = (known, within)

  pub row_is : (n : ℕ) → n < length forest.content → trees forest (row_on forest false (Some n)) ≡ Tree n (trees forest (contents_list forest n)) (trees forest (row_on forest false (first_of n))) (trees forest (row_on forest false (next_of n)))
  row_is n known = lines.row_trees n known ∙ ap (λ ns. Tree n (trees forest (contents_list forest n)) (trees forest ns) (trees forest (later forest false n))) (lines.below false n)
      ∙ ap (λ ns. Tree n (trees forest (contents_list forest n)) (trees forest (row_on forest false (first_of n))) (trees forest ns)) (lines.beside false n)

  -- what is left of the children of node n, by its fate
  abbrev below_text : Place → Fate → NodeData → Option ℕ → ValueTrees
  below_text place fate content below = cleaned policy forest (place_below fate place content) (trees forest (row_on forest false below))

  -- a node's opening, and then what is to be written below it, is the text of what is left of it
  node-text : (fate : Fate) (in_front : Bool) (content : NodeData) (n : ℕ) (below : Option ℕ) (place : Place) (entries : List Entry) → slice_get forest.content n ≡ Some content →
      opening policy fate in_front content ++ seen (front_after fate in_front content) (ahead_text policy forest (with_below fate content n below place entries))
      ≡ seen in_front (text_of (left_of policy fate content (below_text place fate content below)) ++ ahead_text policy forest entries)
  node-text Stays in_front (Text c) n below place entries read =
      let rest = ahead_text policy forest entries in
      sym (ap (λ t. seen in_front (t ++ rest)) (text-behind (spellable c)) ∙ lines_seen in_front (spellable c) rest (spellable_utf8 c))
  node-text Stays in_front (AnElement e) n below place entries read =
      let front = start_of e.name.local (cleaned_attrs policy e) in
      let rest = ahead_text policy forest entries in
      let inside = place_below Stays place (AnElement e) in
      let kind = kind_of e.name.local in
      let ts = below_text place Stays (AnElement e) below in
      let inner = text_of ts in
      let void = is_among e.name.local void_names in
      let ends : List ℕ = end_tag e.name.local ++ rest in
      let closes : ahead_text policy forest (with_row below inside (End n ∷ entries)) ≡ inner ++ ends =
      text-with_row below inside (End n ∷ entries) ∙ ap (λ o. inner ++ (option_map_or closing o [] ++ rest)) read in
      let held : seen (is_pre kind) (ahead_text policy forest (with_row below inside (End n ∷ entries))) ≡ (text_of (held_by kind ts) ++ end_tag e.name.local) ++ rest =
      ap (seen (is_pre kind)) closes ∙ lines_before_tag (is_pre kind) inner _
      ∙ ap (λ t. t ++ ends) (sym (text-held kind ts (cleaned-read policy forest inside (trees forest (row_on forest false below)))))
      ∙ sym (append_assoc (text_of (held_by kind ts)) (end_tag e.name.local) rest) in
      elim (cases_Bool void) as (λ t. front ++ seen (front_after Stays in_front (AnElement e)) (ahead_text policy forest (with_below Stays (AnElement e) n below place entries)) ≡ seen in_front (text_of (left_of policy Stays (AnElement e) ts) ++ rest)) [
        | inl t ↦ rw t (ap (λ x. x ++ rest) (sym (append-nil front)) ∙ sym (seen-tag in_front _))
        | inr f ↦ rw f (ap (λ x. front ++ x) held ∙ sym (append_assoc front (text_of (held_by kind ts) ++ end_tag e.name.local) rest)
            ∙ ap (λ x. (front ++ x) ++ rest) (sym (append-nil (text_of (held_by kind ts) ++ end_tag e.name.local))) ∙ sym (seen-tag in_front _))
      ]
  node-text Unwrapped in_front content n below place entries read = ap (seen in_front) (text-with_row below place entries)
  node-text Vanishes in_front content n below place entries read = refl
  node-text Stays in_front Document n below place entries read = refl
  node-text Stays in_front Fragment n below place entries read = refl
  node-text Stays in_front (Doctype a b c) n below place entries read = refl
  node-text Stays in_front (Comment c) n below place entries read = refl
  node-text Stays in_front (ProcessingInstruction a b) n below place entries read = refl

  pub weight-with_below : (fate : Fate) (content : NodeData) (n : ℕ) (below : Option ℕ) (place : Place) (entries : List Entry) → weight forest (with_below fate content n below place entries) ≤ 1 + row_weight forest below + weight forest entries
  weight-with_below Stays (AnElement e) n below place entries =
      cond_both (is_among e.name.local void_names) entries _ (λ es. weight forest es ≤ 1 + row_weight forest below + weight forest entries) (λ _. omega arith)
      (λ _. omega (arith, weight-with_row below (place_below Stays place (AnElement e)) (End n ∷ entries)))
  weight-with_below Unwrapped content n below place entries = omega (arith, weight-with_row below place entries)
  weight-with_below Vanishes content n below place entries = omega arith
  weight-with_below Stays (Text c) n below place entries = omega arith
  weight-with_below Stays Document n below place entries = omega arith
  weight-with_below Stays Fragment n below place entries = omega arith
  weight-with_below Stays (Doctype a b c) n below place entries = omega arith
  weight-with_below Stays (Comment c) n below place entries = omega arith
  weight-with_below Stays (ProcessingInstruction a b) n below place entries = omega arith

  pub known-with_below : (fate : Fate) (content : NodeData) (n : ℕ) (below : Option ℕ) (place : Place) (entries : List Entry) → IsWithin forest below → AreKnown forest entries → AreKnown forest (with_below fate content n below place entries)
  known-with_below Stays (AnElement e) n below place entries known within =
      cond_both (is_among e.name.local void_names) entries _ (AreKnown forest) (λ _. within) (λ _. known-with_row below _ (End n ∷ entries) known within)
  known-with_below Unwrapped content n below place entries known within = known-with_row below place entries known within
  known-with_below Vanishes content n below place entries known within = within
  known-with_below Stays (Text c) n below place entries known within = within
  known-with_below Stays Document n below place entries known within = within
  known-with_below Stays Fragment n below place entries known within = within
  known-with_below Stays (Doctype a b c) n below place entries known within = within
  known-with_below Stays (Comment c) n below place entries known within = within
  known-with_below Stays (ProcessingInstruction a b) n below place entries known within = within

  -- a node is written
  pub node-written : (fate : Fate) (content : NodeData) (n : ℕ) (place : Place) (old middle new : List Entry) (before now : List ℕ) (was is : Bool) (next below : Option ℕ) → n < length forest.content → AreKnown forest old →
      slice_get forest.content n ≡ Some content → fate ≡ fate_of policy place content → next ≡ next_of n → below ≡ first_of n → middle ≡ with_row next place old → new ≡ with_below fate content n below place middle →
      now ≡ before ++ opening policy fate was content → is ≡ front_after fate was content → Writes policy forest (Row n place) old new before now was is
  node-written fate content n place old middle new before now was is next below known within read fate_is next_is below_is middle_is new_is now_is front_is =
      let outer = row_text policy forest (next_of n) place in
      let after_it = ahead_text policy forest old in
      let middle_now : middle ≡ with_row (next_of n) place old = middle_is ∙ ap (λ o. with_row o place old) next_is in
      let new_now : new ≡ with_below fate content n (first_of n) place middle = new_is ∙ ap (λ o. with_below fate content n o place middle) below_is in
      let mine = left_of policy fate content (below_text place fate content (first_of n)) in
      let all : row_text policy forest (Some n) place ≡ text_of mine ++ outer =
      ap (λ ts. text_of (cleaned policy forest place ts)) (row_is n known)
      ∙ text-followed (option_map_or (λ content. let fate = fate_of policy place content in left_of policy fate content (below_text place fate content (first_of n))) (slice_get forest.content n) no_trees) (cleaned policy forest place (trees forest (row_on forest false (next_of n))))
      ∙ ap (λ o. text_of (option_map_or (λ content. let fate = fate_of policy place content in left_of policy fate content (below_text place fate content (first_of n))) o no_trees) ++ outer) read
      ∙ ap (λ f. text_of (left_of policy f content (below_text place f content (first_of n))) ++ outer) (sym fate_is) in
      record {
        known = subst (AreKnown forest) (sym new_now) (known-with_below fate content n (first_of n) place middle (lines.below_known false n) (subst (AreKnown forest) (sym middle_now) (known-with_row (next_of n) place old (lines.beside_known false n) within)));
        whole = ap (λ t. t ++ seen is (ahead_text policy forest new)) now_is ∙ append_assoc before (opening policy fate was content) (seen is (ahead_text policy forest new))
            ∙ ap (λ b. before ++ (opening policy fate was content ++ seen b (ahead_text policy forest new))) front_is
            ∙ ap (λ es. before ++ (opening policy fate was content ++ seen (front_after fate was content) (ahead_text policy forest es))) new_now
            ∙ ap (λ t. before ++ t) (node-text fate was content n (first_of n) place middle read
            ∙ ap (seen was) (ap (λ es. text_of mine ++ ahead_text policy forest es) middle_now
            ∙ ap (λ t. text_of mine ++ t) (text-with_row (next_of n) place old)
            ∙ sym (append_assoc (text_of mine) outer after_it) ∙ ap (λ t. t ++ after_it) (sym all)));
        fewer = omega (
          arith,
          ap (weight forest) new_now,
          weight-with_below fate content n (first_of n) place middle,
          ap (weight forest) middle_now,
          weight-with_row (next_of n) place old,
          ap (λ ts. length (walk ts)) (row_is n known),
          length-numbers (walk (trees forest (row_on forest false (first_of n)))) (walk (trees forest (row_on forest false (next_of n)))),
        );
      }

  -- an end tag is written
  pub end-written : (n : ℕ) (old : List Entry) (before now : List ℕ) (was is : Bool) → AreKnown forest old → now ≡ before ++ option_map_or closing (slice_get forest.content n) [] →
      is ≡ front_past was (slice_get forest.content n) → Writes policy forest (End n) old old before now was is
  end-written n old before now was is within text_is front_is =
      let closes = option_map_or closing (slice_get forest.content n) [] in
      let rest = ahead_text policy forest old in
      record {
        known = within;
        whole = ap (λ t. t ++ seen is rest) text_is ∙ append_assoc before closes (seen is rest)
            ∙ ap (λ b. before ++ (closes ++ seen b rest)) front_is ∙ ap (λ t. before ++ t) (end-text was (slice_get forest.content n) rest);
        fewer = omega arith;
      }

  -- at first the children of a node are to be written
  pub starts : (first_row : Option ℕ) (n : ℕ) (place : Place) (old entries : List Entry) → first_row ≡ first_of n → place ≡ in_body policy → old ≡ [] → entries ≡ with_row first_row place old →
      AreKnown forest entries × (ahead_text policy forest entries ≡ text_of (cleaned policy forest (in_body policy) (trees forest (children_of forest n))))
  starts first_row n place old entries is there none entries_are =
      let all : entries ≡ with_row (first_of n) (in_body policy) [] = entries_are ∙ ap (λ o. with_row o place old) is ∙ ap (λ p. with_row (first_of n) p old) there ∙ ap (with_row (first_of n) (in_body policy)) none in (
        subst (AreKnown forest) (sym all) (known-with_row (first_of n) (in_body policy) [] (lines.below_known false n) tt),
        ap (ahead_text policy forest) all ∙ text-with_row (first_of n) (in_body policy) [] ∙ append-nil _ ∙ ap (λ ns. text_of (cleaned policy forest (in_body policy) (trees forest ns))) (sym (lines.below false n)),
      )
