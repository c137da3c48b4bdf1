-- The last element that ends a scope is the last of those that its list has.
use Rattle.std.proofs.Common.{◌≡◌, ap, max, ◌∙◌, List, Bool, ◌&&◌, ◌||◌, not, refl}
use Rattle.standard_trees.specs.NameLists.{button_scope, list_item_scope, scope, table_scope}
use Rattle.page_trees.specs.Names.{html_rows, rare_rows}
use Rattle.page_trees.specs.Scopes.{ends_in, is_name, is_named, last_place}
use Rattle.page_trees.specs.Sets.{ends_scope, is_in_html, is_one_in}
use Rattle.page_trees.specs.declared.name.Name.{Name}
use Rattle.page_trees.specs.declared.sets.Scope.TheVariants.{ListItem, Button, Table}
use Rattle.page_trees.specs.declared.stack.ElementNamespace.{ElementNamespace}
use Rattle.page_trees.specs.declared.stack.Open.{Open}
use Rattle.page_trees.proofs.NamesAgree.{agreed}
use Rattle.page_trees.proofs.ScopeLemmas.{last_place_or, last_place_same}

-- the same as `is_named` of an element with this namespace and name
abbrev named_in : Name → ElementNamespace → Name → Bool
named_in name ns other = not (is_name name Name.Other) && (is_in_html ns && is_name other name)

list_item_is : (o : Open) → ends_in ListItem o ≡ (ends_scope o || (is_named Name.Ol o || is_named Name.Ul o))
unfolding html_rows rare_rows
list_item_is o =
    agreed (is_one_in list_item_scope) (λ ns name. is_one_in scope ns name || (named_in Name.Ol ns name || named_in Name.Ul ns name)) refl refl refl o.ns o.name

button_is : (o : Open) → ends_in Button o ≡ (ends_scope o || is_named Name.Button o)
unfolding html_rows rare_rows
button_is o = agreed (is_one_in button_scope) (λ ns name. is_one_in scope ns name || named_in Name.Button ns name) refl refl refl o.ns o.name

table_is : (o : Open) → ends_in Table o ≡ (is_named Name.Html o || (is_named Name.Table o || is_named Name.Template o))
unfolding html_rows rare_rows
table_is o =
    agreed (is_one_in table_scope) (λ ns name. named_in Name.Html ns name || (named_in Name.Table ns name || named_in Name.Template ns name)) refl refl refl
    o.ns o.name

pub list_item_ends : (all : List Open) →
    last_place (ends_in ListItem) all ≡ max (last_place ends_scope all) (max (last_place (is_named Name.Ol) all) (last_place (is_named Name.Ul) all))
list_item_ends all =
    last_place_same (ends_in ListItem) (λ o. ends_scope o || (is_named Name.Ol o || is_named Name.Ul o)) list_item_is all
    ∙ last_place_or ends_scope (λ o. is_named Name.Ol o || is_named Name.Ul o) all
    ∙ ap (max (last_place ends_scope all)) (last_place_or (is_named Name.Ol) (is_named Name.Ul) all)

pub button_ends : (all : List Open) → last_place (ends_in Button) all ≡ max (last_place ends_scope all) (last_place (is_named Name.Button) all)
button_ends all =
    last_place_same (ends_in Button) (λ o. ends_scope o || is_named Name.Button o) button_is all ∙ last_place_or ends_scope (is_named Name.Button) all

pub table_ends : (all : List Open) →
    last_place (ends_in Table) all ≡ max (last_place (is_named Name.Html) all) (max (last_place (is_named Name.Table) all) (last_place (is_named Name.Template) all))
table_ends all =
    last_place_same (ends_in Table) (λ o. is_named Name.Html o || (is_named Name.Table o || is_named Name.Template o)) table_is all
    ∙ last_place_or (is_named Name.Html) (λ o. is_named Name.Table o || is_named Name.Template o) all
    ∙ ap (max (last_place (is_named Name.Html) all)) (last_place_or (is_named Name.Table) (is_named Name.Template) all)
