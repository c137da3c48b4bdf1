-- The text of what was left is the text of its trees as standard_laws defines it.
use Rattle.std.proofs.Common.{◌≡◌, ℕ, true, false, cond, List, [], ◌++◌, refl, ap, ◌∙◌, append-nil, append_assoc}
use Rattle.std.specs.Prelude.{codes}
use Rattle.std.specs.Str.{IsUtf8, chars}
use Rattle.std.proofs.Math.Utf8.{encode}
use Rattle.std.proofs.lemmas.Str.{IsUtf8-append}
use Rattle.dom_nodes.specs.Words.{is_among}
use Rattle.dom_markup.specs.Escaping.{escaped_text}
use Rattle.dom_markup.specs.Html.{end_tag}
use Rattle.dom_markup.specs.Names.{raw_names, void_names}
use Rattle.dom_markup.specs.ValueTrees.{ValueTrees}
use Rattle.dom_markup.specs.ValueTrees.ValueTrees.{no_trees, text_node, comment_node, doctype_node, element_node}
use Rattle.dom_markup.specs.WrittenTrees.{safe_char, text_by}
use Rattle.dom_clean.specs.Laws.{AreAllowed, page_around, page_of}
use Rattle.dom_clean.specs.Policy.{Policy, is_sound}
use Rattle.dom_clean.specs.Written.{start_of, text_of}
use Rattle.dom_clean.proofs.SoundNames.{kept_markup}

-- no element of a sound policy has raw text
pub same_text : (policy : Policy) → is_sound policy ≡ true → (trees : ValueTrees) → AreAllowed policy trees → text_by safe_char false trees ≡ text_of trees
same_text policy sound no_trees p = refl
same_text policy sound (text_node contents later) p = ap (λ t. escaped_text contents ++ t) (same_text policy sound later p)
same_text policy sound (comment_node contents later) p = absurd p
same_text policy sound (doctype_node name public system later) p = absurd p
same_text policy sound (element_node name attributes children later) p =
    let end : List ℕ = end_tag name in
    ap (λ b. start_of name attributes ++ ((cond (is_among name void_names) [] (text_by safe_char b children ++ end)) ++ text_by safe_char false later)) (kept_markup policy name sound p.0).2
    ∙ ap (λ t. start_of name attributes ++ ((cond (is_among name void_names) [] (t ++ end)) ++ text_by safe_char false later)) (same_text policy sound children p.2)
    ∙ ap (λ t. start_of name attributes ++ ((cond (is_among name void_names) [] (text_of children ++ end)) ++ t)) (same_text policy sound later p.3)

abbrev pub front_of_page : List ℕ
front_of_page = codes "<!DOCTYPE html><html><head><meta charset=\"utf-8\"></head><body>"

abbrev pub end_of_page : List ℕ
end_of_page = codes "</body></html>"

pub page_text : (body : ValueTrees) → text_by safe_char false (page_of body) ≡ page_around (text_by safe_char false body)
unfolding void_names raw_names chars encode
page_text body =
    let text : List ℕ = text_by safe_char false body in
    ap (λ t. front_of_page ++ t) (append-nil (((text ++ codes "</body>") ++ []) ++ codes "</html>") ∙ ap (λ t. t ++ codes "</html>") (append-nil (text ++ codes "</body>"))
    ∙ append_assoc text (codes "</body>") (codes "</html>"))

-- the page around the text of what was left is the text of that page
pub same_page : (policy : Policy) → is_sound policy ≡ true → (trees : ValueTrees) → AreAllowed policy trees → text_by safe_char false (page_of trees) ≡ page_around (text_of trees)
same_page policy sound trees p = page_text trees ∙ ap page_around (same_text policy sound trees p)

front_utf8 : IsUtf8 front_of_page
unfolding encode
front_utf8 = (front_of_page, (refl, refl))

end_utf8 : IsUtf8 end_of_page
unfolding encode
end_utf8 = (end_of_page, (refl, refl))

pub page_utf8 : (text : List ℕ) → IsUtf8 text → IsUtf8 (page_around text)
page_utf8 text u = IsUtf8-append front_of_page (text ++ end_of_page) front_utf8 (IsUtf8-append text end_of_page u end_utf8)
