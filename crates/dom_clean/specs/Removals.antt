-- What a policy takes out of trees, in the order of the source.
use Rattle.std.specs.Prelude.{ℕ, ◌≡◌, ◌<◌, ◌&&◌, ◌||◌, Bool, true, false, is_none, List, [], ◌∷◌, ◌++◌, Option, Some, slice_get}
use Rattle.std.specs.Prelude.{codes, string_bytes, if◌then◌else◌}
use Rattle.std.specs.Option.{option_map_or}
use Rattle.std.specs.Str.{bytes_eq}
use Rattle.dom_nodes.specs.Words.{is_among}
use Rattle.dom_nodes.specs.declared.name.Attr.{Attr}
use Rattle.dom_nodes.specs.declared.node_data.NodeData.{NodeData}
use Rattle.dom_nodes.specs.declared.node_data.NodeData.TheVariants.{Element as AnElement}
use Rattle.dom_links.specs.Forest.{Forest, children_of}
use Rattle.dom_links.specs.Trees.{Trees, NoTrees, Tree, trees}
use Rattle.dom_links.specs.Walk.{row_on}
use Rattle.dom_markup.specs.Names.{void_names}
use Rattle.dom_markup.specs.ValueTrees.{Attribute as Left}
use Rattle.dom_clean.specs.Ahead.{AreKnown, weight}
use Rattle.dom_clean.specs.Cleaned.{in_body}
use Rattle.dom_clean.specs.Fates.{cleaned_address, cleaned_attr, fate_of, is_named, is_nowhere, place_below, spellable}
use Rattle.dom_clean.specs.Policy.{Policy, address_names, link_names}
use Rattle.dom_clean.specs.declared.fates.Fate.{Fate}
use Rattle.dom_clean.specs.declared.fates.Fate.TheVariants.{Stays, Unwrapped}
use Rattle.dom_clean.specs.declared.fates.Place.{Place}
use Rattle.dom_clean.specs.declared.removals.Removed.{Removed}
use Rattle.dom_clean.specs.declared.removals.Removed.TheVariants.{Element, Attribute, Address}
use Rattle.dom_clean.specs.declared.writer.Entry.{Entry}
use Rattle.dom_clean.specs.declared.writer.Entry.TheVariants.{Row, End}

pub data Removal : Type 0 where
  -- an element of that name, which is unwrapped or gone with all that is in it
  an_element : List ℕ → Removal
  -- an attribute of that name, of an element that stays
  an_attribute : List ℕ → Removal
  -- such an attribute, since its address is refused
  an_address : List ℕ → Removal

abbrev pub removal_of : Removed → Removal
removal_of (Element name) = an_element (string_bytes name)
removal_of (Attribute name) = an_attribute (string_bytes name)
removal_of (Address name) = an_address (string_bytes name)

-- ---- attributes

abbrev pub is_left : List Left → Bool
is_left [] = false
is_left (attribute ∷ attributes) = true

-- the value is an address, of which nothing is left
abbrev pub is_refused_address : Policy → Attr → Bool
is_refused_address policy attr = is_nowhere attr.name.ns
    && (is_among attr.name.local address_names && is_none (cleaned_address policy (spellable attr.value)))

-- a `rel` with the value that the policy gives to such an element: it is there afterwards, too
abbrev pub is_given_rel : Policy → List ℕ → Attr → Bool
is_given_rel policy element attr = is_named (codes "rel") attr
    && (is_among element link_names && option_map_or (λ rel. bytes_eq attr.value rel) policy.rel false)

-- an attribute after those, if nothing is left of it
abbrev pub removed_attr : Policy → List ℕ → List Attr → Attr → List Removal
removed_attr policy element before attr =
    if is_left (cleaned_attr policy element before attr) || is_given_rel policy element attr then []
    else (if is_refused_address policy attr then an_address attr.name.local else an_attribute attr.name.local) ∷ []

abbrev pub removed_behind : Policy → List ℕ → List Attr → List Attr → List Removal
removed_behind policy element before [] = []
removed_behind policy element before (attr ∷ later) =
    removed_attr policy element before attr ++ removed_behind policy element (before ++ attr ∷ []) later

-- ---- nodes

-- what is taken out of a node of that fate itself
abbrev pub removed_of : Policy → Fate → NodeData → List Removal
removed_of policy Stays (AnElement tag) = removed_behind policy tag.name.local [] tag.attrs
removed_of policy fate (AnElement tag) = an_element tag.name.local ∷ []
removed_of policy fate content = []

-- and what is taken out below it: what is in an element that vanishes isn't told by itself
abbrev pub removed_under : Fate → NodeData → List Removal → List Removal
removed_under Stays (AnElement tag) below = if is_among tag.name.local void_names then [] else below
removed_under Unwrapped content below = below
removed_under fate content below = []

-- what is taken out of trees that stand there
abbrev pub removed : Policy → Forest → Place → Trees → List Removal
removed policy forest place NoTrees = []
removed policy forest place (Tree n contents children later) =
    option_map_or (λ content. let fate = fate_of policy place content in
    removed_of policy fate content ++ removed_under fate content (removed policy forest (place_below fate place content) children))
    (slice_get forest.content n) [] ++ removed policy forest place later

-- what is taken out of what stands below a node
abbrev pub removed_below : Policy → Forest → ℕ → List Removal
removed_below policy forest n = removed policy forest (in_body policy) (trees forest (children_of forest n))

-- ---- what is still to be told

abbrev pub row_removed : Policy → Forest → Option ℕ → Place → List Removal
row_removed policy forest first place = removed policy forest place (trees forest (row_on forest false first))

abbrev pub ahead_removed : Policy → Forest → List Entry → List Removal
ahead_removed policy forest [] = []
ahead_removed policy forest (Row first place ∷ entries) =
    row_removed policy forest (Some first) place ++ ahead_removed policy forest entries
ahead_removed policy forest (End n ∷ entries) = ahead_removed policy forest entries

-- The next entry was told: what was, and what is left to tell, is the same as before, and less is left
pub record Notes (policy : Policy) (forest : Forest) (entry : Entry) (old new : List Entry) (before later : List Removal) : Type 0 where
  pub known : AreKnown forest new
  pub whole : later ++ ahead_removed policy forest new ≡ before ++ ahead_removed policy forest (entry ∷ old)
  pub fewer : weight forest new < weight forest (entry ∷ old)
