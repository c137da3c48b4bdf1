-- A written document parses to the same document.
use Rattle.std.specs.Prelude.{◌≡◌, ℕ, List, [], ◌∷◌, ◌++◌, codes}
use Rattle.dom_links.specs.Forest.{Forest}
use Rattle.dom_links.specs.Sound.{IsForest}
use Rattle.dom_markup.specs.Markup.{Spells}
use Rattle.dom_markup.specs.Numbered.{document_of}
use Rattle.dom_markup.specs.Plain.{IsPlain}
use Rattle.dom_markup.specs.ReadingBack.{SpellsDocument}
use Rattle.dom_markup.specs.ValueTrees.{ValueTrees}
use Rattle.dom_script.specs.declared.script.Command.{Command}
use Rattle.dom_script.specs.declared.script.Command.TheVariants.{Render}
use Rattle.dom_script.specs.declared.script.Rendering.TheVariants.{Document}
use Rattle.dom_query.specs.Faults.{IsMarkup}
use Rattle.dom_query.specs.Out.{Does, Out}
use Rattle.dom_query.specs.Out.Ending.{done}
use Rattle.dom_query.specs.Rendering.{line_of}
use Rattle.dom_script.specs.Script.{IsScript}

-- If the script is the single line `document` and the document of the markup is plain, then a run
-- that succeeds writes a text that parses to the same tree, and a line feed.
abbrev pub ReadsBack : List ℕ → List ℕ → Type 0
ReadsBack markup text =
    (forest : Forest) → IsMarkup markup forest → IsPlain forest → Out markup (codes "document") text done
    → (html : List ℕ) × (text ≡ line_of html) × SpellsDocument html forest

-- With this selection, the commands write the text, one after another, and leave the forest `left`.
abbrev pub Leave : Forest → List ℕ → List Command → List ℕ → Forest → Type 0
Leave forest selection [] text left = (text ≡ []) × (left ≡ forest)
Leave forest selection (command ∷ commands) text left =
    (first rest selected : List ℕ) × (after : Forest) × (text ≡ first ++ rest)
    × Does forest selection command first after selected × Leave after selected commands rest left

-- If the script ends with the line `document`, then a run that succeeds writes the text of the
-- commands before it and then one more line. If those commands leave a plain document, the last
-- line parses to the same tree.
abbrev pub EndReadsBack : List ℕ → List ℕ → List Command → List ℕ → Type 0
EndReadsBack markup script commands text =
    IsScript script (commands ++ (Render Document ∷ [])) → Out markup script text done
    → (trees : ValueTrees) × (before html : List ℕ) × (left : Forest) × Spells markup trees
    × Leave (document_of trees) (0 ∷ []) commands before left × (text ≡ before ++ line_of html)
    × (IsForest left → IsPlain left → SpellsDocument html left)
