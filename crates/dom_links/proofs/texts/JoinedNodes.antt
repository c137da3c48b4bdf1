-- A node whose text was changed, and lists without some nodes.
use Rattle.std.proofs.Common.{ℕ, zero, suc, ◌≡◌, ◌+◌, Bool, true, false, List, [], ◌∷◌, ◌++◌, Option, Some, None, refl, sym, ap, ◌∙◌, arith, length, append_assoc, append-nil, cond, reverse}
use Rattle.std.specs.Prelude.{◌==◌, ◌&&◌, slice_get}
use Rattle.std.specs.List.{flat_map}
use Rattle.std.specs.Option.{option_map, option_map_or}
use Rattle.std.proofs.lemmas.Bool.{eqb-true, true≢false}
use Rattle.std.proofs.lemmas.List.Concat.{flat_map-append}
use Rattle.dom_nodes.specs.Kinds.{is_text, children_allowed}
use Rattle.dom_nodes.specs.declared.node_data.NodeData.{NodeData}
use Rattle.dom_nodes.specs.declared.node_data.NodeData.TheVariants.{Document, Fragment, Text, Element}
use Rattle.dom_links.specs.Lists.{is_member, map_from, without}
use Rattle.dom_links.specs.Forest.{Forest, children_of}
use Rattle.dom_links.specs.Readings.{JoinsTexts, Reading, read_as}
use Rattle.dom_links.specs.SetTexts.{is_text_at, with_text_data}
use Rattle.dom_links.specs.Sound.{IsForest, children_allowed_at}
use Rattle.dom_links.specs.Texts.{text_at, text_in}
use Rattle.dom_links.specs.Trees.{contents_list, trees, trees_to, walk}
use Rattle.dom_links.proofs.forest.Depth.{here_stands}
use Rattle.dom_links.proofs.forest.Neighbours.{reverse_cons, without-append}

pub got_held : (i : ℕ) (F : ℕ → NodeData → NodeData) (cs : List NodeData) (n : ℕ) → slice_get (map_from i F cs) n ≡ option_map (F (i + n)) (slice_get cs n)
got_held i F [] n = refl
got_held i F (c ∷ cs) zero = (let z : i ≡ i + 0 = omega arith in ap (λ (k : ℕ). Some (F k c)) z)
got_held i F (c ∷ cs) (suc n) = got_held (i + 1) F cs n ∙ (let z : i + 1 + n ≡ i + suc n = omega arith in ap (λ (k : ℕ). option_map (F k) (slice_get cs n)) z)

pub length_held : (i : ℕ) (F : ℕ → NodeData → NodeData) (cs : List NodeData) → length (map_from i F cs) ≡ length cs
length_held i F [] = refl
length_held i F (c ∷ cs) = ap suc (length_held (i + 1) F cs)

pub text_kept : (text : List ℕ) (content : NodeData) → is_text (with_text_data text content) ≡ is_text content
text_kept text (Text a) = refl
text_kept text _ = refl

pub text_put : (text : List ℕ) (content : NodeData) → is_text content ≡ true → text_in (with_text_data text content) ≡ text
text_put text (Text a) is = refl
text_put text _ is = cc

pub no_text : (content : NodeData) → is_text content ≡ false → text_in content ≡ []
no_text (Text a) is = cc
no_text _ is = refl

pub no_bearing : (content : NodeData) → is_text content ≡ true → children_allowed content ≡ false
no_bearing Document is = cc
no_bearing Fragment is = cc
no_bearing (Element a) is = cc
no_bearing _ is = refl

pub no_text_at : (forest : Forest) (n : ℕ) → is_text_at forest n ≡ false → text_at forest n ≡ []
no_text_at forest n other = go (slice_get forest.content n) other
  where
    go : (o : Option NodeData) → option_map_or is_text o false ≡ false → option_map_or text_in o [] ≡ []
    go None h = refl
    go (Some c) h = no_text c h

-- a text has no children
pub text_leaf : (forest : Forest) (n : ℕ) → IsForest forest → is_text_at forest n ≡ true → children_of forest n ≡ []
text_leaf forest n good text = go (children_of forest n) refl
  where
    none : (o : Option NodeData) → option_map_or is_text o false ≡ true → option_map_or children_allowed o false ≡ false
    none None h = refl
    none (Some c) h = no_bearing c h

    go : (ks : List ℕ) → children_of forest n ≡ ks → ks ≡ []
    go [] is = refl
    go (k ∷ ks) is =
        let up = (good.once.in_children n k (ap (is_member k) is ∙ here_stands k ks)).1 in
        absurd (true≢false (sym (good.parents_allow n k up) ∙ none (slice_get forest.content n) text))

pub without_reverse : (out ns : List ℕ) → without out (reverse ns) ≡ reverse (without out ns)
without_reverse out [] = refl
without_reverse out (n ∷ ns) =
    ap (without out) (reverse_cons n ns) ∙ without-append out (reverse ns) (n ∷ []) ∙ ap (λ ms. ms ++ without out (n ∷ [])) (without_reverse out ns)
    ∙ last_part (is_member n out) refl
  where
    last_part : (b : Bool) → is_member n out ≡ b → reverse (without out ns) ++ without out (n ∷ []) ≡ reverse (without out (n ∷ ns))
    last_part true is = rw is (append-nil (reverse (without out ns)))
    last_part false is = rw is (sym (reverse_cons n (without out ns)))

pub bearing_kept : (text : List ℕ) (content : NodeData) → children_allowed (with_text_data text content) ≡ children_allowed content
bearing_kept text (Text a) = refl
bearing_kept text _ = refl

-- ---- Bools and lists

pub and-false : (a : Bool) → (a && false) ≡ false
and-false true = refl
and-false false = refl

pub either : (b c d : Bool) → c ≡ true → d ≡ true → cond b c d ≡ true
either true c d p q = p
either false c d p q = q

pub no_bytes : (ts : List ℕ) → (length ts == 0) ≡ true → ts ≡ []
no_bytes [] h = refl
no_bytes (c ∷ ts) h = (let e : length (c ∷ ts) ≡ 0 = eqb-true (length (c ∷ ts)) 0 h in absurd (omega (arith, e)))

-- ---- texts as a reading of trees

-- a node that may have no children has none
abbrev pub Leaves : Forest → Type 0
Leaves forest = (n : ℕ) → children_allowed_at forest n ≡ false → children_of forest n ≡ []

pub leaves : (forest : Forest) → IsForest forest → Leaves forest
leaves forest good n none = go (children_of forest n) refl
  where
    go : (ks : List ℕ) → children_of forest n ≡ ks → ks ≡ []
    go [] is = refl
    go (k ∷ ks) is =
        let up = (good.once.in_children n k (ap (is_member k) is ∙ here_stands k ks)).1 in
        absurd (true≢false (sym (good.parents_allow n k up) ∙ none))

-- what a text holds, and what is read of the children of another node
abbrev text_in_trees : NodeData → Bool → List ℕ → List ℕ → List ℕ
text_in_trees (Text text) place contents children = text
text_in_trees content place contents children = children

pub text_reading : Reading
text_reading = record { node = text_in_trees; below = λ content. false }

pub text_joins : (forest : Forest) → JoinsTexts text_reading forest
unfolding text_reading
text_joins forest = record { leaf = λ text place contents children. refl; none = λ place. refl; joins = λ n more place. refl }

-- the texts of a walk are what is read of its trees
walked_to : (forest : Forest) → Leaves forest → (most : ℕ) (place : Bool) (ns : List ℕ) → flat_map (text_at forest) (walk (trees_to forest most ns)) ≡ read_as text_reading forest place (trees_to forest most ns)
unfolding text_reading
walked_to forest leaf most place [] = refl
walked_to forest leaf zero place (n ∷ ns) = refl
walked_to forest leaf (suc most) place (n ∷ ns) =
    let kids = trees_to forest most (children_of forest n) in
    let rest = trees_to forest (suc most) ns in
    ap (λ ts. text_at forest n ++ ts) (flat_map-append (text_at forest) (walk kids) (walk rest))
    ∙ ap (λ ts. text_at forest n ++ (ts ++ flat_map (text_at forest) (walk rest))) (walked_to forest leaf most false (children_of forest n))
    ∙ ap (λ ts. text_at forest n ++ (read_as text_reading forest false kids ++ ts)) (walked_to forest leaf (suc most) place ns)
    ∙ sym (append_assoc (text_at forest n) (read_as text_reading forest false kids) (read_as text_reading forest place rest))
    ∙ ap (λ ts. ts ++ read_as text_reading forest place rest) (one place (read_as text_reading forest false (trees_to forest most (contents_list forest n))) (read_as text_reading forest false kids) (slice_get forest.content n)
    (λ none. ap (λ ks. read_as text_reading forest false (trees_to forest most ks)) (leaf n none)))
  where
    one : (place : Bool) (inner below : List ℕ) (o : Option NodeData) → (option_map_or children_allowed o false ≡ false → below ≡ []) →
        option_map_or text_in o [] ++ below ≡ option_map_or (λ content. text_in_trees content place inner below) o []
    one place inner below None none = none refl
    one place inner below (Some (Text a)) none = ap (λ ts. a ++ ts) (none refl) ∙ append-nil a
    one place inner below _ none = refl

pub text_walked : (forest : Forest) → Leaves forest → (place : Bool) (ns : List ℕ) → flat_map (text_at forest) (walk (trees forest ns)) ≡ read_as text_reading forest place (trees forest ns)
unfolding trees
text_walked forest leaf place ns = walked_to forest leaf (length forest.content) place ns
