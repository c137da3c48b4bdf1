-- What is left of trees can be written, and so can it where texts side by side are one.
use Rattle.std.proofs.Common.{◌≡◌, ◌≢◌, ℕ, Bool, true, false, ◌&&◌, cond, List, [], ◌∷◌, ◌++◌, Some, None, refl, ap, ◌∙◌, append_assoc, slice_get}
use Rattle.std.specs.Prelude.{Option, nat_lt}
use Rattle.std.specs.List.{flat_map}
use Rattle.std.specs.Option.{option_map_or}
use Rattle.std.specs.Str.{IsUtf8, chars}
use Rattle.std.proofs.lemmas.Bool.{cond_both, and_parts}
use Rattle.std.proofs.lemmas.Grind.{flat_map-append}
use Rattle.std.proofs.lemmas.Str.{IsUtf8-append, chars-append}
use Rattle.dom_nodes.specs.Elements.{Element}
use Rattle.dom_nodes.specs.Words.{is_among}
use Rattle.dom_nodes.specs.declared.node_data.NodeData.{NodeData}
use Rattle.dom_nodes.specs.declared.node_data.NodeData.TheVariants.{Document, Fragment, Doctype, Text, Comment, ProcessingInstruction, Element as AnElement}
use Rattle.dom_links.specs.Forest.{Forest}
use Rattle.dom_links.specs.Trees.{Trees, NoTrees, Tree}
use Rattle.dom_markup.specs.Escaping.{escaped_text, text_char}
use Rattle.dom_markup.specs.Html.{end_tag, is_html}
use Rattle.dom_markup.specs.Names.{mode_in, void_names}
use Rattle.dom_markup.specs.Plain.{ArePlain, IsPlainIn, IsPlainTrees}
use Rattle.dom_markup.specs.ValueTrees.{Attribute, ValueTrees}
use Rattle.dom_markup.specs.ValueTrees.ValueTrees.{no_trees, text_node, comment_node, doctype_node, element_node}
use Rattle.page_trees.specs.ElementKinds.{kind_of}
use Rattle.page_trees.specs.declared.element_kinds.ElementCategory.{ElementCategory}
use Rattle.page_trees.specs.declared.element_kinds.ElementCategory.TheVariants.{Pre}
use Rattle.calm_pages.specs.Calm.{admits, behind_text, may_hold_text}
use Rattle.dom_sanitize.specs.Written.{followed_by, joined, with_text}
use Rattle.dom_clean.specs.Cleaned.{after_lines, cleaned, held_by, left_of, text_or, without_lines}
use Rattle.dom_clean.specs.declared.fates.Fate.{Fate}
use Rattle.dom_clean.specs.declared.fates.Place.{Place}
use Rattle.dom_clean.specs.declared.fates.Fate.TheVariants.{Stays, Unwrapped, Vanishes}
use Rattle.dom_clean.specs.Fates.{fate_of, is_dropped, may_stay, place_below, spellable}
use Rattle.dom_clean.specs.Joined.{AreTidy, AreTidyAttributes, IsMarkupName, IsWritable}
use Rattle.dom_clean.specs.Policy.{Policy, is_sound}
use Rattle.dom_markup.specs.WrittenTrees.{safe_char, text_by}
use Rattle.dom_clean.specs.Spelled.{AreQuiet, IsSpellable}
use Rattle.dom_clean.specs.Written.{start_of, text_of}
use Rattle.dom_clean.proofs.Lines.{after_lines_writable}
use Rattle.dom_clean.proofs.TidyAttrs.{attrs_tidy, spellable_writable}
use Rattle.dom_clean.proofs.Writable.{writable_append}
use Rattle.dom_clean.proofs.SoundNames.{kept_markup, kept_quiet}

-- ---- texts side by side as one

some_more : (a b : List ℕ) → a ≢ [] → a ++ b ≢ []
some_more [] b some = absurd (some refl)
some_more (x ∷ a) b some = λ e. cc

tidy_with_text : (text : List ℕ) (later : ValueTrees) → text ≢ [] → IsWritable text → AreTidy later → AreTidy (with_text text later)
tidy_with_text text no_trees some is tidy = (some, is, tidy)
tidy_with_text text (text_node more later) some is tidy = (some_more text more some, writable_append text more is tidy.1, tidy.2)
tidy_with_text text (comment_node c later) some is tidy = absurd tidy
tidy_with_text text (doctype_node n u s later) some is tidy = absurd tidy
tidy_with_text text (element_node n a children later) some is tidy = (some, is, tidy)

pub tidy_joined : (ts : ValueTrees) → AreTidy ts → AreTidy (joined ts)
tidy_joined no_trees tidy = tt
tidy_joined (text_node c later) tidy = tidy_with_text c (joined later) tidy.0 tidy.1 (tidy_joined later tidy.2)
tidy_joined (comment_node c later) tidy = absurd tidy
tidy_joined (doctype_node n u s later) tidy = absurd tidy
tidy_joined (element_node n a children later) tidy = (tidy.0, tidy.1, (λ void. ap joined (tidy.2 void)), tidy_joined children tidy.3, tidy_joined later tidy.4)

-- the text is the same
escaped_append : (a b : List ℕ) → IsUtf8 a → escaped_text (a ++ b) ≡ escaped_text a ++ escaped_text b
escaped_append a b utf8 = ap (flat_map text_char) (chars-append a b utf8) ∙ flat_map-append text_char (chars a) (chars b)

text_with_text : (text : List ℕ) (later : ValueTrees) → IsUtf8 text → text_of (with_text text later) ≡ escaped_text text ++ text_of later
text_with_text text no_trees utf8 = refl
text_with_text text (text_node more later) utf8 = ap (λ t. t ++ text_of later) (escaped_append text more utf8) ∙ append_assoc (escaped_text text) (escaped_text more) (text_of later)
text_with_text text (comment_node c later) utf8 = refl
text_with_text text (doctype_node n u s later) utf8 = refl
text_with_text text (element_node n a children later) utf8 = refl

pub text_joined : (ts : ValueTrees) → AreTidy ts → text_of (joined ts) ≡ text_of ts
text_joined no_trees tidy = refl
text_joined (text_node c later) tidy = text_with_text c (joined later) tidy.1.utf8 ∙ ap (λ t. escaped_text c ++ t) (text_joined later tidy.2)
text_joined (comment_node c later) tidy = absurd tidy
text_joined (doctype_node n u s later) tidy = absurd tidy
text_joined (element_node n a children later) tidy =
    ap (λ t. start_of n a ++ ((cond (is_among n void_names) [] (t ++ end_tag n)) ++ text_of (joined later))) (text_joined children tidy.3)
    ∙ ap (λ t. start_of n a ++ ((cond (is_among n void_names) [] (text_of children ++ end_tag n)) ++ t)) (text_joined later tidy.4)

-- ---- tidy trees are plain, and can be spelled

plain_attrs : (attributes : List Attribute) → AreTidyAttributes attributes → ArePlain attributes
plain_attrs [] are = tt
plain_attrs (a ∷ later) are = (are.0, are.2.utf8, are.3, plain_attrs later are.4)

quiet_attrs : (attributes : List Attribute) → AreTidyAttributes attributes → AreQuiet attributes
quiet_attrs [] are = tt
quiet_attrs (a ∷ later) are = (are.1, are.2.spelled, quiet_attrs later are.4)

in_markup : (name : List ℕ) (children : ValueTrees) → IsMarkupName name → IsPlainIn (mode_in name) children
in_markup name children is = rw (is.2, is.3) tt

plain_with_text : (text : List ℕ) (later : ValueTrees) → text ≢ [] → IsUtf8 text → IsPlainTrees false later → IsPlainTrees false (with_text text later)
plain_with_text [] later some utf8 plain = absurd (some refl)
plain_with_text (b ∷ text) no_trees some utf8 plain = (some, utf8, refl, tt)
plain_with_text (b ∷ text) (text_node more later) some utf8 plain = ((λ e. cc), IsUtf8-append (b ∷ text) more utf8 plain.1, plain.2, plain.3)
plain_with_text (b ∷ text) (comment_node c later) some utf8 plain = (some, utf8, refl, plain)
plain_with_text (b ∷ text) (doctype_node n u s later) some utf8 plain = (some, utf8, refl, plain)
plain_with_text (b ∷ text) (element_node n a children later) some utf8 plain = (some, utf8, refl, plain)

pub plain_joined : (ts : ValueTrees) → AreTidy ts → IsPlainTrees false (joined ts)
plain_joined no_trees tidy = tt
plain_joined (text_node c later) tidy = plain_with_text c (joined later) tidy.0 tidy.1.utf8 (plain_joined later tidy.2)
plain_joined (comment_node c later) tidy = absurd tidy
plain_joined (doctype_node n u s later) tidy = absurd tidy
plain_joined (element_node n a children later) tidy =
    (tidy.0.0.0, tidy.0.0.1, plain_attrs a tidy.1, (λ void. ap joined (tidy.2 void)), in_markup n (joined children) tidy.0.0, plain_joined children tidy.3, plain_joined later tidy.4)

pub spelled_tidy : (ts : ValueTrees) → AreTidy ts → IsSpellable ts
spelled_tidy no_trees tidy = tt
spelled_tidy (text_node c later) tidy = (tidy.1.spelled, spelled_tidy later tidy.2)
spelled_tidy (comment_node c later) tidy = absurd tidy
spelled_tidy (doctype_node n u s later) tidy = absurd tidy
spelled_tidy (element_node n a children later) tidy = (tidy.0.1, quiet_attrs a tidy.1, spelled_tidy children tidy.3, spelled_tidy later tidy.4)

-- no text among them is written as it is
pub same_text : (ts : ValueTrees) → AreTidy ts → text_by safe_char false ts ≡ text_of ts
same_text no_trees tidy = refl
same_text (text_node c later) tidy = ap (λ t. escaped_text c ++ t) (same_text later tidy.2)
same_text (comment_node c later) tidy = absurd tidy
same_text (doctype_node n u s later) tidy = absurd tidy
same_text (element_node n a children later) tidy =
    let end = end_tag n in
    ap (λ b. start_of n a ++ ((cond (is_among n void_names) [] (text_by safe_char b children ++ end)) ++ text_by safe_char false later)) tidy.0.0.2
    ∙ ap (λ t. start_of n a ++ ((cond (is_among n void_names) [] (t ++ end)) ++ text_by safe_char false later)) (same_text children tidy.3)
    ∙ ap (λ t. start_of n a ++ ((cond (is_among n void_names) [] (text_of children ++ end)) ++ t)) (same_text later tidy.4)

-- ---- what is left

followed : (a b : ValueTrees) → AreTidy a → AreTidy b → AreTidy (followed_by a b)
followed no_trees b p q = q
followed (text_node c later) b p q = (p.0, p.1, followed later b p.2 q)
followed (comment_node c later) b p q = absurd p
followed (doctype_node n u s later) b p q = absurd p
followed (element_node n a children later) b p q = (p.0, p.1, p.2, p.3, followed later b p.4 q)

text_left : (text : List ℕ) → IsWritable text → AreTidy (behind_text text no_trees)
text_left [] is = tt
text_left (b ∷ text) is = ((λ e. cc), is, tt)

tidy_or : (left : List ℕ) (later others : ValueTrees) → IsWritable left → AreTidy later → AreTidy others → AreTidy (text_or left later others)
tidy_or [] later others is p q = q
tidy_or (b ∷ left) later others is p q = ((λ e. cc), is, p)

tidy_lines : (ts : ValueTrees) → AreTidy ts → AreTidy (without_lines ts)
tidy_lines no_trees tidy = tt
tidy_lines (text_node c later) tidy = tidy_or (after_lines c) later (without_lines later) (after_lines_writable c tidy.1) tidy.2 (tidy_lines later tidy.2)
tidy_lines (comment_node c later) tidy = absurd tidy
tidy_lines (doctype_node n u s later) tidy = absurd tidy
tidy_lines (element_node n a children later) tidy = tidy

tidy_held : (kind : ElementCategory) (ts : ValueTrees) → AreTidy ts → AreTidy (held_by kind ts)
tidy_held Pre ts tidy = tidy_lines ts tidy
tidy_held _ ts tidy = tidy

inner : (void : Bool) (below : ValueTrees) → AreTidy below → AreTidy (cond void no_trees below) × (void ≡ true → cond void no_trees below ≡ no_trees)
inner true below tidy = (tt, λ is. refl)
inner false below tidy = (tidy, λ is. cc)

module _ (policy : Policy) (forest : Forest) (sound : is_sound policy ≡ true) where
  abbrev Leaves : NodeData → Fate → Type 0
  Leaves content fate = (below : ValueTrees) → AreTidy below → AreTidy (left_of policy fate content below)

  element-left : (place : Place) (e : Element) → Leaves (AnElement e) (fate_of policy place (AnElement e))
  element-left place e =
      cond_both (is_dropped policy e) Vanishes _ (Leaves (AnElement e)) (λ _ below tidy. tt)
      (λ _. cond_both (may_stay policy place e) Stays Unwrapped (Leaves (AnElement e))
      (λ stay below tidy.
      let h = and_parts (is_html e.name.ns && is_among e.name.local policy.elements && admits place.scope (kind_of e.name.local)) (nat_lt 0 place.left) stay in
      let k = and_parts (is_html e.name.ns && is_among e.name.local policy.elements) (admits place.scope (kind_of e.name.local)) h.0 in
      let named = (and_parts (is_html e.name.ns) (is_among e.name.local policy.elements) k.0).1 in
      let held = inner (is_among e.name.local void_names) (held_by (kind_of e.name.local) below) (tidy_held (kind_of e.name.local) below tidy) in
      ((kept_markup policy e.name.local sound named, kept_quiet policy e.name.local sound named), attrs_tidy policy e sound, held.1, held.0, tt))
      (λ _ below tidy. tidy))

  node-left : (place : Place) (content : NodeData) → Leaves content (fate_of policy place content)
  node-left place (Text text) =
      cond_both (may_hold_text place.scope.parent (spellable text)) Stays Vanishes (Leaves (Text text))
      (λ _ below tidy. text_left (spellable text) (spellable_writable text)) (λ _ below tidy. tt)
  node-left place (AnElement e) = element-left place e
  node-left place Document = λ below tidy. tt
  node-left place Fragment = λ below tidy. tt
  node-left place (Doctype a b c) = λ below tidy. tt
  node-left place (Comment c) = λ below tidy. tt
  node-left place (ProcessingInstruction a b) = λ below tidy. tt

  found-left : (place : Place) (found : Option NodeData) (below : NodeData → ValueTrees) → ((content : NodeData) → AreTidy (below content)) →
      AreTidy (option_map_or (λ content. left_of policy (fate_of policy place content) content (below content)) found no_trees)
  found-left place None below tidy = tt
  found-left place (Some content) below tidy = node-left place content (below content) (tidy content)

  pub cleaned_tidy : (place : Place) (ts : Trees) → AreTidy (cleaned policy forest place ts)
  cleaned_tidy place NoTrees = tt
  cleaned_tidy place (Tree n contents children later) =
      followed (option_map_or (λ content. left_of policy (fate_of policy place content) content (cleaned policy forest (place_below (fate_of policy place content) place content) children)) (slice_get forest.content n) no_trees) (cleaned policy forest place later)
      (found-left place (slice_get forest.content n) (λ content. cleaned policy forest (place_below (fate_of policy place content) place content) children)
      (λ content. cleaned_tidy (place_below (fate_of policy place content) place content) children))
      (cleaned_tidy place later)
