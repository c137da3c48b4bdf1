-- The set of the names of a tag's first attributes.
use Rattle.std.proofs.Common.{ℕ, ◌≡◌, ◌<◌, ◌+◌, Bool, true, false, cond, List, refl, sym, ap, ◌∙◌, ◌||◌, length, take, get_or}
use Rattle.std.specs.List.{list_any}
use Rattle.std.specs.Str.{bytes_eq}
use Rattle.std.proofs.lemmas.List.Folds.{list_any_more}
use Rattle.dom_nodes.specs.declared.name.Attr.{Attr}
use Rattle.dom_nodes.specs.Changes.{is_attr_named}

pub cond_or : (b c : Bool) → cond b true c ≡ (c || b)
cond_or true true = refl
cond_or true false = refl
cond_or false true = refl
cond_or false false = refl

-- one more name is that of one more attribute
pub one_more : (attrs : List Attr) (noted : ℕ) (x : Attr) (text name : List ℕ) (old new : Bool) → noted < length attrs → x ≡ get_or attrs noted x →
    text ≡ x.name.local → old ≡ list_any (is_attr_named name) (take noted attrs) → new ≡ (old || bytes_eq text name) →
    new ≡ list_any (is_attr_named name) (take (noted + 1) attrs)
one_more attrs noted x text name old new within is spelled had has =
    has ∙ ap (λ b. b || bytes_eq text name) had ∙ ap (λ (t : List ℕ). list_any (is_attr_named name) (take noted attrs) || bytes_eq t name) spelled
    ∙ ap (λ (a : Attr). list_any (is_attr_named name) (take noted attrs) || is_attr_named name a) is ∙ sym (list_any_more (is_attr_named name) attrs noted x within)
