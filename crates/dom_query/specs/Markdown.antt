-- What writing a document's Markdown does to a writer that held the bytes `old` and now holds
-- `new`, and what its faults say. There is no definition of the layout of the Markdown.
use Rattle.std.specs.Prelude.{ℕ, List, [], Option}
use Rattle.std.specs.Io.KnownBytes.{Appends}
use Rattle.dom_links.specs.Forest.{Forest}
use Rattle.dom_query.specs.declared.runner.RunFault.{RunFault}
use Rattle.dom_query.specs.declared.runner.RunFault.TheVariants.{Write}
use Rattle.dom_query.specs.Faults.{IsMarkup, MarkupRefused}
use Rattle.dom_query.specs.Rendering.{line_of}

-- The text is markup, and some text and a line feed were written.
abbrev pub WroteMarkdown : List ℕ → Option (List ℕ) → Option (List ℕ) → Type 0
WroteMarkdown markup old new = ((forest : Forest) × IsMarkup markup forest) × (text : List ℕ) × Appends old new (line_of text)

-- What each fault says. Unless the writer failed, nothing was written.
abbrev pub MarkdownCause : List ℕ → Option (List ℕ) → Option (List ℕ) → RunFault → Type 0
MarkdownCause markup old new Write = ((forest : Forest) × IsMarkup markup forest) × (text : List ℕ) × Appends old new text
MarkdownCause markup old new fault = MarkupRefused markup fault × Appends old new []
