-- The HTML of a calm document begins with a doctype and `<html`, and ends with the end tags of `body` and `html`.
use Rattle.std.proofs.Common.{◌≡◌, ℕ, ◌+◌, ◌-◌, false, List, [], ◌∷◌, ◌++◌, length, map, drop, take, refl, sym, ap, ◌∙◌, subst, arith, append-nil, append_assoc, length-append}
use Rattle.std.specs.Prelude.{codes}
use Rattle.std.specs.Char.{to_ascii_lowercase}
use Rattle.std.specs.List.{flat_map}
use Rattle.std.proofs.Math.Seq.{drop-append_seam}
use Rattle.dom_markup.specs.Escaping.{escaped_text}
use Rattle.dom_markup.specs.Html.{attr_text}
use Rattle.dom_markup.specs.Names.{raw_names, void_names}
use Rattle.dom_markup.specs.Numbered.{read_attr}
use Rattle.dom_markup.specs.Plain.{start_text, text_of_trees}
use Rattle.dom_markup.specs.ValueTrees.{Attribute, ValueTrees}
use Rattle.dom_markup.specs.ValueTrees.ValueTrees.{no_trees, doctype_node, element_node}
use Rattle.page_trees.specs.Framed.{IsFramed}
use Rattle.calm_pages.specs.Calm.{IsCalmDocument, behind_text}

-- the text ends with that one
record Ends (text last : List ℕ) : Type 0 where
  front : List ℕ
  is : text ≡ front ++ last

ends_more : (before text last : List ℕ) → Ends text last → Ends (before ++ text) last
ends_more before text last e = record { front = before ++ e.front; is = ap (λ (t : List ℕ). before ++ t) e.is ∙ sym (append_assoc before e.front last) }

ends_nil : (text last : List ℕ) → Ends text last → Ends (text ++ []) last
ends_nil text last e = record { front = e.front; is = append-nil text ∙ e.is }

ends_both : (text last more : List ℕ) → Ends text last → Ends (text ++ more) (last ++ more)
ends_both text last more e = record { front = e.front; is = ap (λ (t : List ℕ). t ++ more) e.is ∙ append_assoc e.front last more }

ends_here : (text last : List ℕ) → Ends (text ++ last) last
ends_here text last = record { front = text; is = refl }

body_ends : (c : List Attribute) (body : ValueTrees) → Ends (text_of_trees false (element_node (codes "body") c body no_trees)) (codes "</body>")
unfolding void_names raw_names
body_ends c body = ends_more (start_text (codes "body") c) _ _ (ends_nil _ _ (ends_here (text_of_trees false body) (codes "</body>")))

behind_ends : (space : List ℕ) (c : List Attribute) (body : ValueTrees) → Ends (text_of_trees false (behind_text space (element_node (codes "body") c body no_trees))) (codes "</body>")
behind_ends [] c body = body_ends c body
behind_ends (s ∷ more) c body = ends_more (escaped_text (s ∷ more)) _ _ (body_ends c body)

parts_end : (b c : List Attribute) (head body : ValueTrees) (space : List ℕ) → Ends (text_of_trees false (element_node (codes "head") b head (behind_text space (element_node (codes "body") c body no_trees)))) (codes "</body>")
unfolding void_names raw_names
parts_end b c head body space = ends_more (start_text (codes "head") b) _ _ (ends_more (text_of_trees false head ++ codes "</head>") _ _ (behind_ends space c body))

-- what follows `<html`
abbrev rest_of : List Attribute → List ℕ → List ℕ
rest_of a parts = (flat_map attr_text (map read_attr a) ++ codes ">") ++ ((parts ++ codes "</html>") ++ [])

rest_ends : (a : List Attribute) (parts : List ℕ) → Ends parts (codes "</body>") → Ends (rest_of a parts) (codes "</body></html>")
rest_ends a parts e = ends_more (flat_map attr_text (map read_attr a) ++ codes ">") _ _ (ends_nil _ _ (ends_both parts (codes "</body>") (codes "</html>") e))

last_bytes : (text last : List ℕ) → length last ≡ 14 → Ends text last → drop (length text - 14) text ≡ last
last_bytes text last long e =
    let count : length text ≡ length e.front + length last = ap length e.is ∙ length-append e.front last in
    let place : length text - 14 ≡ length e.front = omega (arith, count, long) in
    ap (λ (k : ℕ). drop k text) place ∙ (ap (drop (length e.front)) e.is ∙ drop-append_seam e.front last)

framed_by : (rest : List ℕ) → Ends rest (codes "</body></html>") → IsFramed (codes "<!DOCTYPE html><html" ++ rest)
framed_by rest e =
    let count : length rest ≡ length e.front + 14 = ap length e.is ∙ length-append e.front (codes "</body></html>") in
    let all : length (codes "<!DOCTYPE html><html" ++ rest) ≡ 20 + length rest = length-append (codes "<!DOCTYPE html><html") rest in
    record {
      long = omega (arith, count, all);
      front = refl;
      back = ap (map to_ascii_lowercase) (last_bytes _ (codes "</body></html>") refl (ends_more (codes "<!DOCTYPE html><html") rest _ e));
    }

document_framed : (a b c : List Attribute) (head body : ValueTrees) (space : List ℕ) →
    IsFramed (text_of_trees false (doctype_node (codes "html") [] [] (element_node (codes "html") a (element_node (codes "head") b head (behind_text space (element_node (codes "body") c body no_trees))) no_trees)))
unfolding void_names raw_names
document_framed a b c head body space =
    let parts = text_of_trees false (element_node (codes "head") b head (behind_text space (element_node (codes "body") c body no_trees))) in
    framed_by (rest_of a parts) (rest_ends a parts (parts_end b c head body space))

pub calm_framed : (trees : ValueTrees) → IsCalmDocument trees → IsFramed (text_of_trees false trees)
calm_framed trees calm =
    subst (λ (ts : ValueTrees). IsFramed (text_of_trees false ts)) (sym calm.is)
    (document_framed calm.html_attributes calm.head_attributes calm.body_attributes calm.head calm.body calm.space)

-- a page with such a frame has no byte order mark
pub no_mark : (page rest : List ℕ) → page ≡ 239 ∷ 187 ∷ 191 ∷ rest → IsFramed page → ⊥
no_mark page rest e framed =
    let front : map to_ascii_lowercase (take 20 (239 ∷ 187 ∷ 191 ∷ rest)) ≡ codes "<!doctype html><html" = ap (λ (bs : List ℕ). map to_ascii_lowercase (take 20 bs)) (sym e) ∙ framed.front in
    cc
