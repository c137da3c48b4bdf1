-- Attributes that are written one after another.
use Rattle.std.proofs.Common.{ℕ, ◌≡◌, ◌+◌, ◌<◌, ◌≤◌, List, [], ◌++◌, sym, ap, ◌∙◌, append_assoc, drop, get_or, length, take}
use Rattle.std.specs.List.{flat_map}
use Rattle.std.proofs.lemmas.Grind.{flat_map-append}
use Rattle.std.proofs.lemmas.List.{drop_all, drop_more, take_more}
use Rattle.dom_nodes.specs.declared.name.Attr.{Attr}
use Rattle.dom_markup.specs.ValueTrees.{Attribute}
use Rattle.dom_clean.specs.Fates.{attrs_behind, cleaned_attr}
use Rattle.dom_clean.specs.Policy.{Policy}
use Rattle.dom_clean.specs.Written.{attribute_text}

abbrev pub texts : List Attribute → List ℕ
texts attributes = flat_map attribute_text attributes

-- what is still to be written after so many attributes
abbrev pub left_at : Policy → List ℕ → List Attr → ℕ → List ℕ
left_at policy element attrs at = texts (attrs_behind policy element (take at attrs) (drop at attrs))

-- one attribute is written
pub step : (policy : Policy) (element : List ℕ) (attrs : List Attr) (at : ℕ) (d : Attr) (before : List Attr) (attr : Attr) (text now whole : List ℕ) → at < length attrs →
    before ≡ take at attrs → attr ≡ get_or attrs at d → now ≡ text ++ texts (cleaned_attr policy element before attr) → text ++ left_at policy element attrs at ≡ whole → now ++ left_at policy element attrs (at + 1) ≡ whole
step policy element attrs at d before attr text now whole h before_is attr_is now_is is =
    let mine = texts (cleaned_attr policy element (take at attrs) (get_or attrs at d)) in
    let rest = attrs_behind policy element (take (at + 1) attrs) (drop (at + 1) attrs) in
    let cut : left_at policy element attrs at ≡ mine ++ texts rest =
    ap (λ l. texts (attrs_behind policy element (take at attrs) l)) (drop_more attrs at d h)
    ∙ ap (λ b. texts (cleaned_attr policy element (take at attrs) (get_or attrs at d) ++ attrs_behind policy element b (drop (at + 1) attrs))) (sym (take_more attrs at d h))
    ∙ flat_map-append attribute_text (cleaned_attr policy element (take at attrs) (get_or attrs at d)) rest in
    ap (λ t. t ++ texts rest) (now_is ∙ ap (λ b. text ++ texts (cleaned_attr policy element b attr)) before_is ∙ ap (λ a. text ++ texts (cleaned_attr policy element (take at attrs) a)) attr_is)
    ∙ append_assoc text mine (texts rest) ∙ ap (λ t. text ++ t) (sym cut) ∙ is

-- after all of them nothing is
pub left_none : (policy : Policy) (element : List ℕ) (attrs : List Attr) (at : ℕ) → length attrs ≤ at → left_at policy element attrs at ≡ []
left_none policy element attrs at all = ap (λ l. texts (attrs_behind policy element (take at attrs) l)) (drop_all at attrs all)
