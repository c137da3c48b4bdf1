-- Plain trees are built of their tokens, in every place where they may stand.
use Rattle.std.specs.Prelude.{◌≡◌, ℕ, Bool, true, false, not, cond, ◌&&◌, List, [], ◌∷◌, ◌++◌, map, Some, refl}
use Rattle.std.proofs.lemmas.Bool.{and_parts, true≢false}
use Rattle.std.proofs.lemmas.List.{append_assoc}
use mathlib.Core.Path.{◌∙◌, sym, ap, subst}
use Rattle.standard_rules.specs.Building.{Building, Open, with_stack}
use Rattle.standard_rules.specs.PlainTrees.{Class, ABlock, AList, ADescriptionList, AHeading, AParagraph, APhrase, AFormatting, AnAnchor, AVoid, AnItem, ADescription, AButton, ABreak, ASource, AnInput, AForm, APre, ARuby, ARubyText, ARawText, AMetadata, ATable, ACaption, AColumnGroup, AColumn}
use Rattle.standard_rules.specs.PlainTrees.{ARowGroup, ARow, ACell, Another, Within, admits, are_plain, begins_text, class_among, class_of, classes, inside, may_be_text, names_of}
use Rattle.standard_tokens.specs.Tokens.{Token, AChar, AComment, AStart}
use Rattle.standard_rules.specs.TreeTokens.{Trees, no_trees, text_node, comment_node, doctype_node, element_node, end_of, is_among, joined, tokens}
use Rattle.standard_rules.proofs.ElementSteps.{IsBuilt, no_and, one, then_built}
use Rattle.standard_rules.proofs.PlainElements.{ElementBuilt, anchor, block, button, description, description_list, formatting_element, heading, input, item, list, not_so, paragraph, phrase, ruby, ruby_text, source, thematic_break, void}
use Rattle.standard_rules.proofs.PlainParts.{caption_element, cell_element, column, column_group, form, metadata, pre, raw_text, row, row_group, table, text_in}
use Rattle.standard_rules.proofs.StackKeys.{Outer, Steady, key, keys, outer}
use Rattle.standard_rules.proofs.TextSteps.{Built, comment_built}
use Rattle.standard_rules.proofs.TreeLists.{ends_comment, ends_element, ends_text, joined_none}

of_class : (c : Class) (name : List ℕ) → is_among name (names_of c) ≡ true → ElementBuilt name c
of_class ABlock = block
of_class AList = list
of_class ADescriptionList = description_list
of_class AHeading = heading
of_class AParagraph = paragraph
of_class APhrase = phrase
of_class AFormatting = formatting_element
of_class AnAnchor = anchor
of_class AVoid = void
of_class AnItem = item
of_class ADescription = description
of_class AButton = button
of_class ABreak = thematic_break
of_class ASource = source
of_class AnInput = input
of_class AForm = form
of_class APre = pre
of_class ARuby = ruby
of_class ARubyText = ruby_text
of_class ARawText = raw_text
of_class AMetadata = metadata
of_class ATable = table
of_class ACaption = caption_element
of_class AColumnGroup = column_group
of_class AColumn = column
of_class ARowGroup = row_group
of_class ARow = row
of_class ACell = cell_element
of_class Another = λ name is attrs children w h. absurd (true≢false (sym h))

-- by the first class that has the name
of_first : (name : List ℕ) (cs : List Class) → ElementBuilt name (class_among name cs)
of_first name [] = λ attrs children w h. absurd (true≢false (sym h))
of_first name (c ∷ cs) = by_test (is_among name (names_of c)) (of_class c name) (of_first name cs)
  where
    by_test : (x : Bool) → (x ≡ true → ElementBuilt name c) → ElementBuilt name (class_among name cs) → ElementBuilt name (cond x c (class_among name cs))
    by_test true f g = f refl
    by_test false f g = g

element : (name : List ℕ) → ElementBuilt name (class_of name)
element name = of_first name classes

-- what comes after some nodes stands in the same
again : (w : Within) (b : Building) (o : Open) (os : List Open) (xs : List Token) (s t : Trees) → (first : Built b o os xs s) → Steady w (outer b) (key o ∷ keys os) →
    (begins_text t && ends_text (joined o.children s)) ≡ false → IsBuilt w t → Built b o os (xs ++ tokens t) (joined s t)
again w b o os xs s t first steady edge rest =
    then_built b o os xs (tokens t) s t first
    (rest first.after (record o { children = joined o.children s }) os edge (subst (λ (y : Outer). Steady w y (key o ∷ keys os)) (sym first.kept) steady) first.ready)

-- whatever is open, plain trees are built of their tokens
pub plain_built : (w : Within) (t : Trees) → are_plain w t ≡ true → IsBuilt w t
plain_built w no_trees h b o os edge s r =
    record { after = b; steps = ap (λ x. Some (with_stack b (record o { children = x } ∷ os))) (sym (joined_none o.children)); ready = r; kept = refl }
plain_built w (text_node contents later) h b o os edge s r =
    let parts : ((may_be_text w.place contents && not (begins_text later)) ≡ true) × (are_plain w later ≡ true) = and_parts (may_be_text w.place contents && not (begins_text later)) (are_plain w later) h in
    let more : (may_be_text w.place contents ≡ true) × (not (begins_text later) ≡ true) = and_parts (may_be_text w.place contents) (not (begins_text later)) parts.0 in
    again w b o os (map AChar contents) (text_node contents no_trees) later (text_in w.place b o os contents more.0 edge s.place r) s
    (ap (λ x. x && ends_text (joined o.children (text_node contents no_trees))) (not_so (begins_text later) more.1)) (plain_built w later parts.1)
plain_built w (comment_node contents later) h b o os edge s r =
    again w b o os (AComment contents ∷ []) (comment_node contents no_trees) later (comment_built b o os contents w s r) s
    (ap (λ x. begins_text later && x) (ends_comment o.children contents) ∙ no_and (begins_text later)) (plain_built w later h)
plain_built w (doctype_node name later) h b o os edge s r = absurd (true≢false (sym h))
plain_built w (element_node name attrs children later) h b o os edge s r =
    let parts : ((admits w (class_of name) children && are_plain (inside w (class_of name)) children) ≡ true) × (are_plain w later ≡ true) =
    and_parts (admits w (class_of name) children && are_plain (inside w (class_of name)) children) (are_plain w later) h in
    let more : (admits w (class_of name) children ≡ true) × (are_plain (inside w (class_of name)) children ≡ true) = and_parts (admits w (class_of name) children) (are_plain (inside w (class_of name)) children) parts.0 in
    let first : Built b o os (AStart name attrs false ∷ (tokens children ++ end_of name)) (one name attrs children) =
    element name attrs children w more.0 more.1 (plain_built (inside w (class_of name)) children more.1) b o os s r in
    let whole : Built b o os ((AStart name attrs false ∷ (tokens children ++ end_of name)) ++ tokens later) (element_node name attrs children later) =
    again w b o os (AStart name attrs false ∷ (tokens children ++ end_of name)) (one name attrs children) later first s
    (ap (λ x. begins_text later && x) (ends_element o.children name attrs children) ∙ no_and (begins_text later)) (plain_built w later parts.1) in
    subst (λ (xs : List Token). Built b o os (AStart name attrs false ∷ xs) (element_node name attrs children later)) (append_assoc (tokens children) (end_of name) (tokens later)) whole
