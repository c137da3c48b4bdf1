-- A run has one output at most.
use Rattle.std.proofs.Common.{◌≡◌, ℕ, List, [], ◌∷◌, Option, inl, inr, refl, sym, ◌∙◌, ap, subst}
use Rattle.std.specs.Str.{IsUtf8}
use Rattle.dom_links.specs.Forest.{Forest}
use Rattle.dom_markup.specs.Markup.{Spells}
use Rattle.dom_markup.specs.Numbered.{document_of}
use Rattle.dom_markup.specs.ValueTrees.{ValueTrees}
use Rattle.dom_script.specs.declared.script.Command.{Command}
use Rattle.dom_query.specs.Out.{DoesAll, Ending, IsNoMarkup, Out, Ran}
use Rattle.dom_query.specs.Out.Ending.{done, refused, bad_script, bad_markup}
use Rattle.dom_query.specs.Runs.{Began, DidAllBegin, IsEnding}
use Rattle.dom_script.specs.Script.{IsScript}
use Rattle.dom_query.proofs.Doing.{OneClean, OneSelection, does-all-once}
use Rattle.dom_script.proofs.Scripts.{OneReading, OneSelector, no-script-none, no-script-once, script-once}
use Rattle.dom_markup.proofs.html.WritingLemmas.{nothing-begun}

markup-none : (markup : List ℕ) (trees : ValueTrees) → IsUtf8 markup → Spells markup trees → IsNoMarkup markup → ⊥
markup-none markup trees utf8 spells (inl none) = none utf8
markup-none markup trees utf8 spells (inr nothing) = nothing trees spells

-- the commands that were read are those that ran
ran-does : OneReading → OneSelector → (markup script : List ℕ) (commands : List Command) (trees : ValueTrees)
    → IsScript script commands → Spells markup trees → (text : List ℕ) (ending : Ending) → Ran markup script text ending
    → DoesAll (document_of trees) (0 ∷ []) 1 commands text ending
ran-does reading selector markup script commands trees is spells text ending (others, forest, so, u, spelled, does) =
    subst (λ t. DoesAll (document_of t) (0 ∷ []) 1 commands text ending) (reading markup forest trees spelled spells)
    (subst (λ cs. DoesAll (document_of forest) (0 ∷ []) 1 cs text ending) (script-once reading selector script others commands so is) does)

-- the commands and the trees that were read are those of every output, and no limit ends it
pub output-does : OneReading → OneSelector → (markup script : List ℕ) (commands : List Command) (trees : ValueTrees)
    → IsScript script commands → IsUtf8 markup → Spells markup trees → (text : List ℕ) (ending : Ending) → Out markup script text ending
    → IsEnding ending × DoesAll (document_of trees) (0 ∷ []) 1 commands text ending
output-does reading selector markup script commands trees is utf8 spells text done out = (tt, ran-does reading selector markup script commands trees is spells text done out)
output-does reading selector markup script commands trees is utf8 spells text (refused line fault) out =
    (out.0, ran-does reading selector markup script commands trees is spells text (refused line fault) out.1)
output-does reading selector markup script commands trees is utf8 spells text (bad_script line) out = absurd (no-script-none script commands line is out.0)
output-does reading selector markup script commands trees is utf8 spells text bad_markup out = absurd (markup-none markup trees utf8 spells out.1)

-- what begins the text of the commands begins every output
pub began-from : OneReading → OneSelector → (markup script : List ℕ) (commands given : List Command) (trees : ValueTrees) (forest : Forest) (old new : Option (List ℕ))
    → IsScript script commands → IsUtf8 markup → Spells markup trees → given ≡ commands → forest ≡ document_of trees
    → DidAllBegin forest (0 ∷ []) given old new → Began markup script old new
began-from reading selector markup script commands given trees forest old new is utf8 spells same read begun = λ text ending out.
    let does = output-does reading selector markup script commands trees is utf8 spells text ending out in
    begun text ending does.0 (subst (λ f. DoesAll f (0 ∷ []) 1 given text ending) (sym read) (subst (λ cs. DoesAll (document_of trees) (0 ∷ []) 1 cs text ending) (sym same) does.1))

-- nothing was written
pub began-none : (markup script : List ℕ) (old : Option (List ℕ)) → Began markup script old old
began-none markup script old = λ text ending out. nothing-begun old text

-- the law
pub output-once : OneReading → OneSelector → OneSelection → OneClean → (markup script text other : List ℕ) (ending last : Ending)
    → Out markup script text ending → Out markup script other last → (text ≡ other) × (ending ≡ last)
output-once reading selector selection clean markup script text other done last (commands, trees, is, utf8, spells, does) b =
    let found = output-does reading selector markup script commands trees is utf8 spells other last b in
    does-all-once selection clean (document_of trees) (0 ∷ []) 1 commands text other done last tt found.0 does found.1
output-once reading selector selection clean markup script text other (refused line fault) last (refusal, (commands, trees, is, utf8, spells, does)) b =
    let found = output-does reading selector markup script commands trees is utf8 spells other last b in
    does-all-once selection clean (document_of trees) (0 ∷ []) 1 commands text other (refused line fault) last refusal found.0 does found.1
output-once reading selector selection clean markup script text other (bad_script n) done a (commands, trees, is, utf8, spells, does) = absurd (no-script-none script commands n is a.0)
output-once reading selector selection clean markup script text other (bad_script n) (refused line fault) a (refusal, (commands, trees, is, utf8, spells, does)) = absurd (no-script-none script commands n is a.0)
output-once reading selector selection clean markup script text other (bad_script n) (bad_script m) a b = (a.1 ∙ sym b.1, ap bad_script (no-script-once script n m a.0 b.0))
output-once reading selector selection clean markup script text other (bad_script n) bad_markup a b = absurd (no-script-none script b.0.0 n b.0.1 a.0)
output-once reading selector selection clean markup script text other bad_markup done a (commands, trees, is, utf8, spells, does) = absurd (markup-none markup trees utf8 spells a.1)
output-once reading selector selection clean markup script text other bad_markup (refused line fault) a (refusal, (commands, trees, is, utf8, spells, does)) = absurd (markup-none markup trees utf8 spells a.1)
output-once reading selector selection clean markup script text other bad_markup (bad_script m) a b = absurd (no-script-none script a.0.0 m a.0.1 b.0)
output-once reading selector selection clean markup script text other bad_markup bad_markup a b = (a.2 ∙ sym b.2, refl)
