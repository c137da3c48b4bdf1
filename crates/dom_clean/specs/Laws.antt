-- What is true of all that a policy leaves.
use Rattle.std.specs.Prelude.{ℕ, ◌≡◌, ◌⊎◌, ◌++◌, true, nat_eq, List, [], ◌∷◌, Option, None, Some, MatchOption, IfOk, codes}
use Rattle.std.specs.List.{list_all, starts_with}
use Rattle.dom_nodes.specs.Words.{is_among, words_of}
use Rattle.dom_links.specs.Forest.{Forest}
use Rattle.dom_links.specs.Trees.{Trees}
use Rattle.dom_markup.specs.ValueTrees.{Attribute, ValueTrees}
use Rattle.dom_markup.specs.ValueTrees.ValueTrees.{no_trees, text_node, comment_node, doctype_node, element_node}
use Rattle.calm_pages.specs.Calm.{IsCalmPage, are_calm, behind}
use Rattle.dom_sanitize.specs.Written.{joined}
use Rattle.url.specs.Parser.{parse_url}
use Rattle.url.specs.Parts.{Parts}
use Rattle.dom_clean.specs.Addresses.{HasSchemeOf, scheme_of}
use Rattle.dom_clean.specs.Cleaned.{cleaned, cleaned_below}
use Rattle.dom_clean.specs.Fates.{has_attribute}
use Rattle.dom_clean.specs.declared.fates.Place.{Place}
use Rattle.dom_clean.specs.Policy.{Policy, address_names, link_names}
use Rattle.dom_clean.specs.Policy.Relative.{kept}
use Rattle.dom_clean.specs.Written.{text_of}

-- ---- what is allowed

-- against any base the address is a URL of an allowed scheme, or of that of the base
abbrev pub LeadsWell : Policy → List ℕ → Type 0
LeadsWell policy address = (base : Option Parts) → IfOk (parse_url base address) (λ url.
    MatchOption (scheme_of address) (HasSchemeOf base url) (λ scheme. is_among url.scheme policy.schemes ≡ true))

-- the `rel` that the policy gives links
abbrev pub IsLinkRel : Policy → List ℕ → Attribute → Type 0
IsLinkRel policy element attribute =
    (is_among element link_names ≡ true) × (attribute.name ≡ codes "rel") × (policy.rel ≡ Some attribute.value)

-- the classes in the value are among those that stay
abbrev pub HasAllowedClasses : Option (List (List ℕ)) → List ℕ → Type 0
HasAllowedClasses None value = Unit {0}
HasAllowedClasses (Some classes) value = list_all (λ class. is_among class classes) (words_of value) ≡ true

-- what the policy says of the value of an attribute of that name
pub record IsAllowedValue (policy : Policy) (name value : List ℕ) : Type 0 where
  -- an address leads well, and has a scheme unless the policy keeps those that have none
  pub leads : is_among name address_names ≡ true → LeadsWell policy value
  pub relative : is_among name address_names ≡ true → scheme_of value ≡ None → policy.relative ≡ kept
  pub classes : name ≡ codes "class" → HasAllowedClasses policy.classes value
  pub prefix : name ≡ codes "id" → starts_with nat_eq value policy.id_prefix ≡ true

-- the policy has the attribute with that value, or it is the `rel` of a link
pub record IsAllowedAttribute (policy : Policy) (element : List ℕ) (attribute : Attribute) : Type 0 where
  pub named : (has_attribute policy element attribute.name attribute.value ≡ true) ⊎ IsLinkRel policy element attribute
  pub value : IsAllowedValue policy attribute.name attribute.value

abbrev pub AreAllowedAttributes : Policy → List ℕ → List Attribute → Type 0
AreAllowedAttributes policy element [] = Unit {0}
AreAllowedAttributes policy element (attribute ∷ later) = IsAllowedAttribute policy element attribute
    × AreAllowedAttributes policy element later

-- texts and allowed elements, with allowed attributes
abbrev pub AreAllowed : Policy → ValueTrees → Type 0
AreAllowed policy no_trees = Unit {0}
AreAllowed policy (text_node contents later) = AreAllowed policy later
AreAllowed policy (comment_node contents later) = ⊥
AreAllowed policy (doctype_node name public system later) = ⊥
AreAllowed policy (element_node name attributes children later) =
    (is_among name policy.elements ≡ true) × AreAllowedAttributes policy name attributes × AreAllowed policy children
    × AreAllowed policy later

-- all that is left is allowed, and calm
pub record IsCleaned (policy : Policy) (place : Place) (trees : ValueTrees) : Type 0 where
  pub allowed : AreAllowed policy trees
  pub calm : are_calm place.scope trees ≡ true

-- it is so wherever a later sibling may stand
abbrev pub CleansWell : Policy → Type 0
CleansWell policy = (forest : Forest) (place : Place) (ts : Trees) → behind place.scope ≡ place.scope →
    IsCleaned policy place (cleaned policy forest place ts)

-- ---- what is read

-- a page in UTF-8, which it declares, with that text in its body
abbrev pub page_around : List ℕ → List ℕ
page_around text = codes "<!DOCTYPE html><html><head><meta charset=\"utf-8\"></head><body>" ++ (text ++ codes "</body></html>")

-- the element that declares the encoding of such a page
abbrev pub utf8_meta : ValueTrees
utf8_meta = element_node (codes "meta") (record { name = codes "charset"; value = codes "utf-8" } ∷ []) no_trees no_trees

-- the document of such a page
abbrev pub page_of : ValueTrees → ValueTrees
page_of body =
    doctype_node (codes "html") [] []
    (element_node (codes "html") [] (element_node (codes "head") [] utf8_meta (element_node (codes "body") [] body no_trees)) no_trees)

-- the text is that of trees that are allowed, and the page around it is read as exactly these
pub record IsSafe (policy : Policy) (text : List ℕ) (trees : ValueTrees) : Type 0 where
  pub is : text ≡ text_of trees
  pub allowed : AreAllowed policy trees
  pub page : IsCalmPage (page_around text) (page_of trees)

-- what a policy leaves of a forest below a node, with texts side by side as one
abbrev pub left_below : Policy → Forest → ℕ → ValueTrees
left_below policy forest n = joined (cleaned_below policy forest n)

abbrev pub CleansSafely : Policy → Type 0
CleansSafely policy = (forest : Forest) (n : ℕ) → IsSafe policy (text_of (cleaned_below policy forest n)) (left_below policy forest n)
