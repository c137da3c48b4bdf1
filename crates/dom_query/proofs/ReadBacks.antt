-- A document's text reads back as the document.
use Rattle.std.proofs.Common.{◌≡◌, ◌+◌, ℕ, List, [], ◌∷◌, ◌++◌, inl, inr, refl, sym, ◌∙◌, ap, append-nil, codes, subst}
use Rattle.std.proofs.lemmas.List.{append_assoc}
use Rattle.dom_links.specs.Forest.{Forest}
use Rattle.dom_links.specs.Sound.{IsForest}
use Rattle.dom_markup.specs.Html.{html_of}
use Rattle.dom_markup.specs.Numbered.{document_of}
use Rattle.dom_markup.specs.Plain.{IsPlain}
use Rattle.dom_markup.specs.ReadingBack.{SpellsDocument}
use Rattle.dom_markup.specs.ValueTrees.{ValueTrees}
use Rattle.dom_script.specs.declared.script.Command.{Command}
use Rattle.dom_script.specs.declared.script.Command.TheVariants.{Render}
use Rattle.dom_script.specs.declared.script.Rendering.TheVariants.{Document}
use Rattle.dom_query.specs.Out.{DoesAll, Ending}
use Rattle.dom_query.specs.Out.Ending.{done}
use Rattle.dom_query.specs.ReadBack.{EndReadsBack, Leave, ReadsBack}
use Rattle.dom_script.specs.Script.{AreCommands}
use Rattle.dom_query.specs.Rendering.{line_of}
use Rattle.dom_script.proofs.Scripts.{OneReading, OneSelector, command-once, script-once}

abbrev IsDone : Ending → Type 0
IsDone done = Unit {0}
IsDone _ = ⊥

-- the one command is done
renders : (forest : Forest) (selection : List ℕ) (line : ℕ) (text : List ℕ)
    → DoesAll forest selection line (Render Document ∷ []) text done → text ≡ line_of (html_of forest 0)
renders forest selection line text (inl (fault, fails, t, e)) = absurd (subst IsDone e tt)
renders forest selection line text (inr (first, rest, selected, after, t, does, later)) = t ∙ ap (λ r. first ++ r) later.0 ∙ append-nil first ∙ does.0

-- the script asks for the one command
asks : OneReading → OneSelector → (commands : List Command) → AreCommands (codes "document" ∷ []) commands → commands ≡ Render Document ∷ []
asks unique one [] are = absurd are
asks unique one (c ∷ []) are = ap (λ x. x ∷ []) (command-once unique one (codes "document") c (Render Document) are.0 refl)
asks unique one (c ∷ d ∷ cs) are = absurd are.1

pub reads-back : OneReading → OneSelector → ((trees : ValueTrees) → IsForest (document_of trees))
    → ((forest : Forest) → IsForest forest → IsPlain forest → SpellsDocument (html_of forest 0) forest)
    → (markup text : List ℕ) → ReadsBack markup text
reads-back unique one forests plain markup text = λ forest is_markup is_plain out. back forest is_markup is_plain out
  where
    back : ReadsBack markup text
    back forest (trees, utf8, spells, is) is_plain (commands, others, script, u, spelled, does) =
        let same : document_of others ≡ forest = ap document_of (unique markup others trees spelled spells) ∙ sym is in
        let said = subst (λ f. DoesAll f (0 ∷ []) 1 (Render Document ∷ []) text done) same (subst (λ cs. DoesAll (document_of others) (0 ∷ []) 1 cs text done) (asks unique one commands script.are_commands) does) in
        (html_of forest 0, renders forest (0 ∷ []) 1 text said, plain forest (subst IsForest (sym is) (forests trees)) is_plain)

-- the commands before the last are done, and then the last
splits : (forest : Forest) (selection : List ℕ) (line : ℕ) (commands : List Command) (text : List ℕ)
    → DoesAll forest selection line (commands ++ (Render Document ∷ [])) text done
    → (before : List ℕ) × (left : Forest) × (text ≡ before ++ line_of (html_of left 0)) × Leave forest selection commands before left
splits forest selection line [] text does = ([], forest, renders forest selection line text does, (refl, refl))
splits forest selection line (c ∷ cs) text (inl (fault, fails, t, e)) = absurd (subst IsDone e tt)
splits forest selection line (c ∷ cs) text (inr (first, rest, selected, after, t, does, later)) =
    let split = splits after selected (line + 1) cs rest later in (
      first ++ split.0,
      split.1,
      t ∙ ap (λ r. first ++ r) split.2 ∙ sym (append_assoc first split.0 (line_of (html_of split.1 0))),
      (first, split.0, selected, after, refl, does, split.3),
    )

pub end-reads-back : OneReading → OneSelector → ((forest : Forest) → IsForest forest → IsPlain forest → SpellsDocument (html_of forest 0) forest)
    → (markup script : List ℕ) (commands : List Command) (text : List ℕ) → EndReadsBack markup script commands text
end-reads-back unique one plain markup script commands text = λ is out. back is out
  where
    back : EndReadsBack markup script commands text
    back is (others, trees, so, utf8, spells, does) =
        let split = splits (document_of trees) (0 ∷ []) 1 commands text
        (subst (λ cs. DoesAll (document_of trees) (0 ∷ []) 1 cs text done) (script-once unique one script others (commands ++ (Render Document ∷ [])) so is) does) in
        (trees, split.0, html_of split.1 0, split.1, spells, split.3, split.2, plain split.1)
