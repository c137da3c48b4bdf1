-- Joining adjacent text nodes.
use Rattle.std.specs.Prelude.{ℕ, ◌==◌, ◌&&◌, not, Bool, true, false, List, [], ◌∷◌, ◌++◌, Option, filter, find, length, map, if◌then◌else◌}
use Rattle.std.specs.Option.{option_map_or}
use Rattle.dom_links.specs.Forest.{Forest}
use Rattle.dom_links.specs.Lists.{is_member, without, map_from}
use Rattle.dom_links.specs.SetTexts.{is_text_at, with_text_data}
use Rattle.dom_links.specs.Texts.{text_at}
use Rattle.dom_links.specs.Trees.{descendants_in_order}
use Rattle.dom_links.specs.Walk.{later}

-- Whether the node is a text without contents.
abbrev pub is_empty_text : Forest → ℕ → Bool
is_empty_text forest n = is_text_at forest n && length (text_at forest n) == 0

-- The nearest earlier sibling of n that isn't an empty text.
abbrev pub nearest_before : Forest → ℕ → Option ℕ
nearest_before forest n = find (λ m. not (is_empty_text forest m)) (later forest true n)

-- Whether the node is the first text of a sequence of adjacent texts that isn't empty. This text
-- gets the contents of the whole sequence.
abbrev pub starts_text_run : Forest → ℕ → Bool
starts_text_run forest n =
    is_text_at forest n && not (is_empty_text forest n) && not (option_map_or (is_text_at forest) (nearest_before forest n) false)

-- The contents of the texts at the front of the list, joined.
abbrev pub front_texts : Forest → List ℕ → List ℕ
front_texts forest [] = []
front_texts forest (n ∷ ns) = if is_text_at forest n then text_at forest n ++ front_texts forest ns else []

-- What text n contains after its sequence is joined: the whole text if it is the first one,
-- otherwise nothing.
abbrev pub joined : Forest → ℕ → List ℕ
joined forest n = if starts_text_run forest n then text_at forest n ++ front_texts forest (later forest false n) else []

-- Those of the nodes that are texts and are removed, since they aren't the first of their sequence.
abbrev pub dropped : Forest → List ℕ → List ℕ
dropped forest ns = filter (λ n. is_text_at forest n && not (starts_text_run forest n)) ns

-- The forest with the texts among the nodes joined: each has its new contents, and those that
-- aren't the first of their sequence are detached.
abbrev pub joined_among : List ℕ → Forest → Forest
joined_among ns forest = record {
  content = map_from 0 (λ n content. if is_member n ns then with_text_data (joined forest n) content else content) forest.content;
  children = map (without (dropped forest ns)) forest.children;
  runs = map_from 0 (λ n run. if is_member n (dropped forest ns) then n ∷ [] else without (dropped forest ns) run) forest.runs;
}

-- The forest with adjacent texts joined among the descendants of x.
abbrev pub normalized : ℕ → Forest → Forest
normalized x forest = joined_among (descendants_in_order forest x) forest
