-- Cleaning what was cleaned.
use Rattle.std.specs.Prelude.{ℕ, ◌≡◌, List}
use Rattle.dom_links.specs.Forest.{Forest}
use Rattle.dom_markup.specs.Numbered.{document_of}
use Rattle.dom_clean.specs.Cleaned.{cleaned_below}
use Rattle.dom_clean.specs.Laws.{left_below, page_around, page_of}
use Rattle.dom_clean.specs.Policy.{Policy}
use Rattle.dom_clean.specs.Written.{text_of}

-- the text is that of what the policy leaves of some tree, below a node
abbrev pub IsLeftBy : Policy → List ℕ → Type 0
IsLeftBy policy text = (forest : Forest) × (n : ℕ) × (text ≡ text_of (cleaned_below policy forest n))

-- such a text in the body of a page
abbrev pub IsPageLeftBy : Policy → List ℕ → Type 0
IsPageLeftBy policy page = (text : List ℕ) × (page ≡ page_around text) × IsLeftBy policy text

-- the document of a page with what the policy leaves of some tree in its body
abbrev pub IsDocumentLeftBy : Policy → Forest → Type 0
IsDocumentLeftBy policy tree = (forest : Forest) × (n : ℕ) × (tree ≡ document_of (page_of (left_below policy forest n)))

-- what the policy leaves of any tree is left as it is when it is cleaned again, in the body of a page
abbrev pub CleansOnce : Policy → Type 0
CleansOnce policy = (forest : Forest) (n : ℕ) →
    cleaned_below policy (document_of (page_of (left_below policy forest n))) 5 ≡ left_below policy forest n
