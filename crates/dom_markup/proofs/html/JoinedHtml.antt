-- Where rows of texts were joined, the HTML is as it was.
use Rattle.std.proofs.Common.{ℕ, ◌≡◌, Bool, true, false, List, [], ◌∷◌, ◌++◌, Option, Some, None, refl, sym, ap, ◌∙◌, inl, inr, append-nil, cond}
use Rattle.std.specs.Prelude.{slice_get}
use Rattle.std.specs.List.{flat_map}
use Rattle.std.specs.Option.{option_map_or}
use Rattle.std.specs.Str.{IsUtf8, chars}
use Rattle.std.proofs.lemmas.Bool.{cases_Bool}
use Rattle.std.proofs.lemmas.List.Concat.{flat_map-append}
use Rattle.std.proofs.lemmas.Str.{chars-append, chars-nil}
use Rattle.dom_nodes.specs.Kinds.{is_text, children_allowed}
use Rattle.dom_nodes.specs.declared.node_data.NodeData.{NodeData}
use Rattle.dom_nodes.specs.declared.node_data.NodeData.TheVariants.{Text}
use Rattle.dom_links.specs.Forest.{Forest, children_of, parent}
use Rattle.dom_links.specs.Readings.{JoinsTexts, Reading, ReadsAlike, read_as}
use Rattle.dom_links.specs.SetTexts.{is_text_at}
use Rattle.dom_links.specs.Sound.{IsForest, children_allowed_at}
use Rattle.dom_links.specs.Texts.{text_at}
use Rattle.dom_links.specs.Trees.{NoTrees, Tree, Trees, trees}
use Rattle.dom_markup.specs.Escaping.{escaped_text, text_char}
use Rattle.dom_markup.specs.Html.{html_of, inner_html_of, is_bare, is_kept, is_void_node, keeps_below, keeps_texts, node_text, trees_text}
use Rattle.dom_markup.specs.Joining.{HasUtf8Texts, WritesAlike}

-- HTML as a reading of trees
pub html_reading : Reading
html_reading = record { node = node_text; below = keeps_texts }

written_node : (raw : Bool) (inner inner' : List ℕ) (below below' : Bool → List ℕ) → inner ≡ inner' → ((b : Bool) → below b ≡ below' b) → (o : Option NodeData) →
    option_map_or (λ content. node_text content raw inner (below (keeps_texts content))) o [] ≡ option_map_or (λ content. node_text content raw inner' (below' (keeps_texts content))) o []
written_node raw inner inner' below below' same all None = refl
written_node raw inner inner' below below' same all (Some content) = ap (λ ts. node_text content raw ts (below (keeps_texts content))) same ∙ ap (λ ts. node_text content raw inner' ts) (all (keeps_texts content))

written : (forest : Forest) (raw : Bool) (t : Trees) → trees_text forest raw t ≡ read_as html_reading forest raw t
unfolding html_reading
written forest raw NoTrees = refl
written forest raw (Tree n contents children later) =
    ap (λ ts. ts ++ trees_text forest raw later) (written_node raw _ _ (λ b. trees_text forest b children) (λ b. read_as html_reading forest b children) (written forest false contents) (λ b. written forest b children) (slice_get forest.content n))
    ∙ ap (λ ts. option_map_or (λ content. node_text content raw (read_as html_reading forest false contents) (read_as html_reading forest (keeps_texts content) children)) (slice_get forest.content n) [] ++ ts) (written forest raw later)

pub html_joins : (forest : Forest) → HasUtf8Texts forest → JoinsTexts html_reading forest
unfolding html_reading
html_joins forest utf8 = record {
  leaf = λ text place contents children. refl;
  none = λ place. none place;
  joins = λ n more place. joined (text_at forest n) more (utf8 n) place;
}
  where
    none : (place : Bool) → node_text (Text []) place [] [] ≡ []
    none true = refl
    none false = ap (λ cs. flat_map text_char cs ++ []) chars-nil

    joined : (text more : List ℕ) → IsUtf8 text → (place : Bool) → node_text (Text (text ++ more)) place [] [] ≡ node_text (Text text) place [] [] ++ node_text (Text more) place [] []
    joined text more utf8 true = append-nil (text ++ more) ∙ ap (λ ts. ts ++ more) (sym (append-nil text)) ∙ ap (λ ts. (text ++ []) ++ ts) (sym (append-nil more))
    joined text more utf8 false =
        append-nil (escaped_text (text ++ more)) ∙ ap (flat_map text_char) (chars-append text more utf8) ∙ flat_map-append text_char (chars text) (chars more)
        ∙ ap (λ ts. ts ++ escaped_text more) (sym (append-nil (escaped_text text))) ∙ ap (λ ts. (escaped_text text ++ []) ++ ts) (sym (append-nil (escaped_text more)))

-- a node that may have children is no text
bears_no_text : (forest : Forest) (n : ℕ) → children_allowed_at forest n ≡ true → is_text_at forest n ≡ false
bears_no_text forest n h = go (slice_get forest.content n) h
  where
    go : (o : Option NodeData) → option_map_or children_allowed o false ≡ true → option_map_or is_text o false ≡ false
    go (Some (Text a)) h = cc
    go o h = refl

-- a text keeps no texts below, and is no void element
text_is_none : (test : NodeData → Bool) → ((text : List ℕ) → test (Text text) ≡ false) → (forest : Forest) (n : ℕ) → is_text_at forest n ≡ true → option_map_or test (slice_get forest.content n) false ≡ false
text_is_none test none forest n text = go (slice_get forest.content n) text
  where
    go : (o : Option NodeData) → option_map_or is_text o false ≡ true → option_map_or test o false ≡ false
    go (Some (Text a)) h = none a
    go o h = cc

pub written_alike : (x : ℕ) (new old : Forest) → IsForest old → ReadsAlike html_reading x new old → WritesAlike x new old
unfolding html_of inner_html_of
written_alike x new old good alike = record {
  node = ap (λ raw. trees_text new raw (trees new (x ∷ []))) kept ∙ written new (is_kept old x) (trees new (x ∷ [])) ∙ alike.node (is_kept old x) ∙ sym (written old (is_kept old x) (trees old (x ∷ [])));
  children = ap (λ b. cond b [] (trees_text new (keeps_below new x) (trees new (children_of new x)))) (here is_void_node (λ text. refl))
      ∙ ap (λ raw. cond (is_bare old x) [] (trees_text new raw (trees new (children_of new x)))) (here keeps_texts (λ text. refl))
      ∙ ap (λ ts. cond (is_bare old x) [] ts) (written new (keeps_below old x) (trees new (children_of new x)) ∙ alike.children (keeps_below old x) ∙ sym (written old (keeps_below old x) (trees old (children_of old x))));
}
  where
    here : (test : NodeData → Bool) → ((text : List ℕ) → test (Text text) ≡ false) → option_map_or test (slice_get new.content x) false ≡ option_map_or test (slice_get old.content x) false
    here test none = elim (cases_Bool (is_text_at old x)) [
      | inl text ↦ text_is_none test none new x (alike.texts x ∙ text) ∙ sym (text_is_none test none old x text)
      | inr other ↦ ap (λ o. option_map_or test o false) (alike.others x other)
    ]

    above : (o : Option ℕ) → parent old x ≡ o → option_map_or (keeps_below new) o false ≡ option_map_or (keeps_below old) o false
    above None up = refl
    above (Some p) up = ap (λ o. option_map_or keeps_texts o false) (alike.others p (bears_no_text old p (good.parents_allow p x up)))

    kept : is_kept new x ≡ is_kept old x
    kept = ap (λ o. option_map_or (keeps_below new) o false) alike.above ∙ above (parent old x) refl
