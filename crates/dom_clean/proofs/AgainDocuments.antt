-- The document of what was left is left as it is.
use Rattle.std.proofs.Common.{◌≡◌, ◌++◌, ◌∙◌, List, ap, append_assoc, refl, sym, true, ℕ}
use Rattle.dom_links.specs.Forest.{Forest}
use Rattle.dom_markup.specs.Numbered.{document_of}
use Rattle.dom_markup.specs.ValueTrees.{Attribute, ValueTrees}
use Rattle.dom_markup.specs.ValueTrees.ValueTrees.{no_trees, text_node, comment_node, doctype_node, element_node}
use Rattle.dom_sanitize.specs.Written.{joined, with_text}
use Rattle.dom_clean.specs.Again.{IsDocumentLeftBy}
use Rattle.dom_clean.specs.Cleaned.{body_of, cleaned_below}
use Rattle.dom_clean.specs.Laws.{left_below, page_of}
use Rattle.dom_clean.specs.Policy.{Policy, is_sound}
use Rattle.dom_clean.proofs.Again.{body_again, cleans_once}

-- ---- texts that were joined already

with_text-twice : (text more : List ℕ) (trees : ValueTrees) → with_text text (with_text more trees) ≡ with_text (text ++ more) trees
with_text-twice text more no_trees = refl
with_text-twice text more (text_node other later) = ap (λ (contents : List ℕ). text_node contents later) (sym (append_assoc text more other))
with_text-twice text more (comment_node contents later) = refl
with_text-twice text more (doctype_node name public system later) = refl
with_text-twice text more (element_node name attributes children later) = refl

joined-with_text : (text : List ℕ) (trees : ValueTrees) → joined (with_text text trees) ≡ with_text text (joined trees)
joined-with_text text no_trees = refl
joined-with_text text (text_node more later) = sym (with_text-twice text more (joined later))
joined-with_text text (comment_node contents later) = refl
joined-with_text text (doctype_node name public system later) = refl
joined-with_text text (element_node name attributes children later) = refl

joined-twice : (trees : ValueTrees) → joined (joined trees) ≡ joined trees
joined-twice no_trees = refl
joined-twice (text_node contents later) = joined-with_text contents (joined later) ∙ ap (with_text contents) (joined-twice later)
joined-twice (comment_node contents later) = ap (comment_node contents) (joined-twice later)
joined-twice (doctype_node name public system later) = ap (doctype_node name public system) (joined-twice later)
joined-twice (element_node name attributes children later) =
    ap (λ (c : ValueTrees). element_node name attributes c (joined (joined later))) (joined-twice children) ∙ ap (element_node name attributes (joined children)) (joined-twice later)

-- ---- documents

pub document_stays : (policy : Policy) → is_sound policy ≡ true → (tree : Forest) → IsDocumentLeftBy policy tree → document_of (page_of (left_below policy tree (body_of tree))) ≡ tree
document_stays policy sound tree (forest, n, is) =
    let left = left_below policy forest n in
    let page = document_of (page_of left) in
    let stays : left_below policy page (body_of page) ≡ left =
    ap joined (body_again policy left ∙ cleans_once policy sound forest n) ∙ joined-twice (cleaned_below policy forest n) in
    ap (λ (t : Forest). document_of (page_of (left_below policy t (body_of t)))) is ∙ (ap (λ (ts : ValueTrees). document_of (page_of ts)) stays ∙ sym is)
