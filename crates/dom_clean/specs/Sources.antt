-- What is promised of a text that was cleaned, and of its source.
use Rattle.std.specs.Prelude.{ℕ, ◌≡◌, List}
use Rattle.dom_markup.specs.Numbered.{document_of}
use Rattle.dom_markup.specs.ValueTrees.{ValueTrees}
use Rattle.calm_pages.specs.Calm.{IsCalmPage}
use Rattle.dom_clean.specs.Again.{IsLeftBy, IsPageLeftBy}
use Rattle.dom_clean.specs.Cleaned.{cleaned_below, cleaned_body}
use Rattle.dom_clean.specs.Laws.{page_around, page_of}
use Rattle.dom_clean.specs.Parsed.{IsCleanedPage, IsCleanedText}
use Rattle.dom_clean.specs.Policy.{Policy}
use Rattle.dom_clean.specs.Written.{text_of}

-- What `clean` promises of a fragment: the text is safe and parsed as it is written, it is that of what the policy leaves of some
-- tree, and of the fragment's own tree where the page with the fragment in its body is calm. What is such a text already stays as it is
pub record IsCleanOf (policy : Policy) (source text : List ℕ) : Type 0 where
  pub cleaned : IsCleanedText policy text
  pub calm : (body : ValueTrees) → IsCalmPage (page_around source) (page_of body) →
      text ≡ text_of (cleaned_below policy (document_of (page_of body)) 5)
  pub left : IsLeftBy policy text
  pub again : IsLeftBy policy source → text ≡ source

-- What `clean_page` promises of a page
pub record IsCleanPageOf (policy : Policy) (source page : List ℕ) : Type 0 where
  pub cleaned : IsCleanedPage policy page
  pub calm : (trees : ValueTrees) → IsCalmPage source trees → page ≡ page_around (text_of (cleaned_body policy (document_of trees)))
  pub left : IsPageLeftBy policy page
  pub again : IsPageLeftBy policy source → page ≡ source
