-- Which lines are no edits.
use Rattle.std.proofs.Common.{◌≡◌, ◌<◌, ℕ, zero, suc, Bool, true, false, List, [], ◌∷◌, Option, Some, None, Result, Ok, Err, IfOk, MatchOption, refl, sym, ◌∙◌, ap, arith, length, get_or, subst, codes}
use Rattle.std.specs.List.{list_all}
use Rattle.std.specs.Prelude.{◌&&◌}
use Rattle.std.proofs.lemmas.Bool.{false≢true}
use Rattle.dom_script.specs.declared.script.edit_line.EditLine.TheVariants.{SetAttr, RemoveAttr, Rename, AddClass, RemoveClass, SetText, Strip, Put, Remove, Unwrap, Normalize}
use Rattle.dom_script.specs.EditLine.{HasNoPair, HasPair, IsNoBareEdit, IsNoEdit, IsNoNamedEdit, IsNoPut, IsNoSetAttr, IsNoStrip, IsNoTextEdit, HasMarkup, HasNoMarkup, names_in}
use Rattle.dom_script.specs.Words.{HasArgument, is_name}
use Rattle.dom_links.specs.Forest.{Forest}
use Rattle.dom_links.specs.declared.gap.Place.TheVariants.{After, Around, AtEnd, AtFront, Before, InsteadOfChildren, InsteadOfNode}
use Rattle.dom_markup.specs.Documents.{IsSpelled}
use Rattle.dom_markup.specs.Markup.{Spells, SpellsNothing}
use Rattle.dom_script.specs.Faults.{LineRefused, MarkupLimit}
use Rattle.dom_script.specs.declared.script.ScriptFault.{ScriptFault}
use Rattle.dom_script.specs.declared.script.ScriptFault.TheVariants.{BadLine, Memory as NoMemory, TooManyNodes as NoNumbers}
use Rattle.dom_script.proofs.Lines.{argument-once}

-- one of them doesn't pass
pub not-all : (test : List ℕ → Bool) (xs : List (List ℕ)) (n : ℕ) (x : List ℕ) → n < length xs → x ≡ get_or xs n x → test x ≡ false → false ≡ list_all test xs
not-all test [] n x within is out = absurd (omega (arith, within))
not-all test (y ∷ ys) zero x within is out = ap (λ t. t && list_all test ys) (sym out ∙ ap test is)
not-all test (y ∷ ys) (suc n) x within is out = later (test y) (not-all test ys n x (omega (arith, within)) is out)
  where
    later : (t : Bool) → false ≡ list_all test ys → false ≡ (t && list_all test ys)
    later true e = e
    later false e = refl

pub no-set-attr : (line argument : List ℕ) → HasArgument line (codes "set-attr") argument → HasNoPair argument → IsNoSetAttr line
no-set-attr line argument is none name value h =
    none name value (subst (λ text. HasPair text name value) (argument-once line (codes "set-attr") h.0 argument h.1 is) h.2)

pub no-strip : (line names : List ℕ) → HasArgument line (codes "strip") names → list_all is_name (names_in names) ≡ false → IsNoStrip line
no-strip line names is none other h =
    false≢true (sym none ∙ ap (λ text. list_all is_name (names_in text)) (argument-once line (codes "strip") names other is h.0) ∙ h.1)

pub no-edit : (line : List ℕ) → IsNoBareEdit line → IsNoNamedEdit line → IsNoTextEdit line → IsNoSetAttr line → IsNoStrip line → IsNoPut line → IsNoEdit line
no-edit line bare named text set strip put (SetAttr name value) h = set name value h
no-edit line bare named text set strip put (RemoveAttr name) h = named.0 name h
no-edit line bare named text set strip put (Rename name) h = named.1 name h
no-edit line bare named text set strip put (AddClass classes) h = text.0 classes h
no-edit line bare named text set strip put (RemoveClass classes) h = text.1 classes h
no-edit line bare named text set strip put (SetText contents) h = text.2 contents h
no-edit line bare named text set strip put (Strip names) h = strip names h
no-edit line bare named text set strip put (Put place read) h = put place read h
no-edit line bare named text set strip put Remove h = bare.0 h
no-edit line bare named text set strip put Unwrap h = bare.1 h
no-edit line bare named text set strip put Normalize h = bare.2 h

-- nothing is put
pub puts-nothing : (line : List ℕ) → HasNoMarkup line (codes "set-html") → HasNoMarkup line (codes "append-html") → HasNoMarkup line (codes "prepend-html")
    → HasNoMarkup line (codes "before-html") → HasNoMarkup line (codes "after-html") → HasNoMarkup line (codes "replace-html") → IsNoPut line
puts-nothing line set append prepend before after replace InsteadOfChildren = set
puts-nothing line set append prepend before after replace AtEnd = append
puts-nothing line set append prepend before after replace AtFront = prepend
puts-nothing line set append prepend before after replace Before = before
puts-nothing line set append prepend before after replace After = after
puts-nothing line set append prepend before after replace InsteadOfNode = replace
puts-nothing line set append prepend before after replace Around = λ read no. no

-- what stands behind the word was read as markup, or it is none, or a limit was met
pub no-markup : (line word argument : List ℕ) → HasArgument line word argument → SpellsNothing argument → HasNoMarkup line word
no-markup line word argument is none read h =
    none h.2.0 (subst (λ text. Spells text h.2.0) (argument-once line word h.0 argument h.1 is) h.2.1)

pub markup-read : {E : Type 0} (line word argument : List ℕ) (r : Result (Option Forest) E) → HasArgument line word argument
    → IfOk r (λ found. MatchOption found (SpellsNothing argument) (IsSpelled argument)) → IfOk r (λ found. MatchOption found (HasNoMarkup line word) (HasMarkup line word))
markup-read line word argument (Ok (Some read)) is spelled = (argument, is, spelled)
markup-read line word argument (Ok None) is none = no-markup line word argument is none
markup-read line word argument (Err e) is evidence = tt

pub line-limit : (line word argument : List ℕ) (fault : ScriptFault) → HasArgument line word argument → MarkupLimit argument fault → LineRefused line fault
line-limit line word argument NoNumbers is evidence = (word, argument, is, evidence)
line-limit line word argument NoMemory is evidence = tt
line-limit line word argument (BadLine number) is evidence = evidence
