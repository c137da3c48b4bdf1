-- The HTML of plain trees spells them.
use Rattle.std.proofs.Common.{◌≡◌, Bool, true, false, List, [], ◌∷◌, ◌++◌, ℕ, refl, sym, ap, ◌∙◌, subst, map}
use Rattle.std.specs.Prelude.{codes, if◌then◌else◌}
use Rattle.std.specs.List.{flat_map}
use Rattle.dom_nodes.specs.Escaping.{value_char}
use Rattle.dom_nodes.specs.Words.{is_among}
use Rattle.dom_markup.specs.Escaping.{escaped_text}
use Rattle.dom_markup.specs.Html.{attr_text, end_tag}
use Rattle.dom_markup.specs.Markup.{Spells}
use Rattle.dom_markup.specs.Names.{raw_names, void_names}
use Rattle.dom_markup.specs.Numbered.{read_attr}
use Rattle.dom_markup.specs.Plain.{IsPlainTrees, text_of_trees}
use Rattle.dom_markup.specs.ValueTrees.{Attribute, ValueTrees}
use Rattle.dom_markup.specs.ValueTrees.ValueTrees.{no_trees, text_node, comment_node, doctype_node, element_node}
use Rattle.dom_markup.specs.WrittenTrees.{attr_by, start_by, text_by}
use Rattle.dom_markup.proofs.html.InertLemmas.{no_quote}
use Rattle.dom_markup.proofs.html.ReadBack.{value_reads_back}
use Rattle.dom_markup.proofs.plain.WrittenTrees.{IsReadBack, written_spells}

escapes : IsReadBack value_char
escapes = record { quoteless = no_quote; read_back = value_reads_back }

-- ---- the HTML of trees is their text

attrs_same : (attributes : List Attribute) → flat_map attr_text (map read_attr attributes) ≡ flat_map (attr_by value_char) attributes
attrs_same [] = refl
attrs_same (attribute ∷ later) = ap (λ text. attr_by value_char attribute ++ text) (attrs_same later)

pub text_same : (raw : Bool) (trees : ValueTrees) → text_of_trees raw trees ≡ text_by value_char raw trees
text_same raw no_trees = refl
text_same raw (text_node contents later) = ap (λ text. (if raw then contents else escaped_text contents) ++ text) (text_same raw later)
text_same raw (comment_node contents later) = ap (λ text. codes "<!--" ++ (contents ++ (codes "-->" ++ text))) (text_same raw later)
text_same raw (doctype_node name public system later) = ap (λ text. codes "<!DOCTYPE " ++ (name ++ (codes ">" ++ text))) (text_same raw later)
text_same raw (element_node name attributes children later) =
    let own : Bool = is_among name raw_names in
    ap (λ attrs. (codes "<" ++ (name ++ (attrs ++ codes ">"))) ++ ((if is_among name void_names then [] else text_of_trees own children ++ end_tag name) ++ text_of_trees raw later)) (attrs_same attributes)
    ∙ ap (λ text. start_by value_char name attributes ++ ((if is_among name void_names then [] else text ++ end_tag name) ++ text_of_trees raw later)) (text_same own children)
    ∙ ap (λ text. start_by value_char name attributes ++ ((if is_among name void_names then [] else text_by value_char own children ++ end_tag name) ++ text)) (text_same raw later)

pub plain_spells : (trees : ValueTrees) → IsPlainTrees true trees → Spells (text_of_trees false trees) trees
plain_spells trees plain = subst (λ (t : List ℕ). Spells t trees) (sym (text_same false trees)) (written_spells value_char escapes trees plain)
