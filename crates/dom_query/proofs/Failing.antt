-- What a failed writer says of Markdown.
use Rattle.std.proofs.Common.{◌≡◌, ℕ, List, Option, sym, ◌∙◌, ap, subst}
use Rattle.dom_links.specs.Forest.{Forest}
use Rattle.dom_markup.specs.Writing.{AppendsBeginning}
use Rattle.dom_markup.specs.declared.serializing.WriteFault.{WriteFault}
use Rattle.dom_markup.specs.declared.serializing.WriteFault.TheVariants.{Write as NotWritten}
use Rattle.dom_query.specs.declared.runner.RunFault.{RunFault}
use Rattle.dom_query.specs.Faults.{IsMarkup, limit_of}
use Rattle.dom_query.specs.Markdown.{MarkdownCause}

pub not-written : (markup : List ℕ) (forest : Forest) (a b : Option (List ℕ)) (text : List ℕ) (fault : WriteFault) (run : RunFault)
    → IsMarkup markup forest → fault ≡ NotWritten → run ≡ limit_of fault → AppendsBeginning a b text → MarkdownCause markup a b run
not-written markup forest a b text fault run is failed so begun =
    subst (MarkdownCause markup a b) (sym (so ∙ ap limit_of failed)) ((forest, is), begun.front, begun.written)
