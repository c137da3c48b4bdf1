use Rattle.std.proofs.Common.{◌≡◌, ◌∙◌, ◌++◌, ℕ, List, refl, sym, ap, subst, true, false}
use Rattle.std.specs.Prelude.{codes}
use Rattle.dom_markup.specs.Bytes.{folded}
use Rattle.dom_markup.specs.References.{decoded}
use Rattle.dom_markup.specs.Markup.{BeginsEnd, begins_markup}
use Rattle.dom_markup.proofs.grammar.Items.{asks, some_text, no_comment, no_end_tag, no_instruction, no_slash}
use Rattle.dom_markup.proofs.document.front.markup_lexeme.Goals as goal

pub returns-then-not-begins_markup : goal.returns-then-not-begins_markup
returns-then-not-begins_markup c =
    let plain : begins_markup c.args.text.now ≡ false = search in
    let made = some_text c.args.text.now _ _ c.requires plain c.split_text.ensures.front c.split_text.ensures.whole in
    (made.1, made.2, ap decoded c.split_text.ensures.front)

pub returns-in-Some-strip_all : goal.returns-in-Some-strip_all
returns-in-Some-strip_all c =
    subst (λ (t : List ℕ). BeginsEnd t (folded c.in-Some-end_tag_end.name.now) c.in-Some-end_tag_end.rest.now) (sym c.in-Some-strip_all.ensures.some) c.in-Some-end_tag_end.ensures.some

pub returns-in_default-end_tag_end : goal.returns-in_default-end_tag_end
returns-in_default-end_tag_end c =
    let is = c.in-Some-strip_all.ensures.some in
    (no_end_tag c.args.text.now _ (search) is c.in_default-end_tag_end.ensures.none, (refl, (47, _, is, refl), no_slash c.args.text.now _ is))

pub returns-in-Some-strip_all-2 : goal.returns-in-Some-strip_all-2
returns-in-Some-strip_all-2 c = (c.in-Some-strip_all-2.comment.now, c.in-Some-strip_all-2.ensures.some, c.in-Some-comment_at.ensures.some)

pub returns-in_default-comment_at : goal.returns-in_default-comment_at
returns-in_default-comment_at c =
    let is = c.in-Some-strip_all-2.ensures.some in
    (no_comment c.args.text.now _ (search) is c.in_default-comment_at.ensures.none, (refl, _, is))

pub returns-in-Some-strip_all-3 : goal.returns-in-Some-strip_all-3
returns-in-Some-strip_all-3 c =
    let is = c.in-Some-strip_all-3.ensures.some in
    (refl, (is, λ more e. c.in_default-strip_all-2.ensures.none more (is ∙ ap (λ (t : List ℕ). codes "<!" ++ t) e)))

pub returns : goal.returns
returns c =
    let begins : begins_markup c.args.text.now ≡ true = search in
    let is = asks c.args.text.now begins c.in_default.ensures.none c.in_default-strip_all.ensures.none c.in_default-strip_all-3.ensures.none in
    (no_instruction c.args.text.now is.0 begins is.1, (refl, is.0, is.1))
