-- What is done at one node after the other.
use Rattle.std.proofs.Common.{◌≡◌, ◌⊎◌, inr, ℕ, List, [], ◌∷◌, ◌++◌, Result, Ok, Err, OnOk, IfErr, ◌∙◌, ap, subst}
use Rattle.dom_links.specs.Forest.{Forest}
use Rattle.dom_trees.specs.Edits.{TreeEdit}
use Rattle.dom_links.specs.declared.gap.Place.{Place}
use Rattle.dom_markup.specs.Documents.{IsSpelled}
use Rattle.dom_edits.specs.declared.edit.SelectionFault.{SelectionFault}
use Rattle.dom_edits.specs.Edits.{Each, EditsEach, Stops, putting_known}
use Rattle.dom_edits.specs.Loans.{IsUnread, PutsEach, PutsSome}

-- one node more
pub each-more : (edit : ℕ → TreeEdit) (ns : List ℕ) (n : ℕ) (old now new : Forest) → Each edit ns old now → (edit n).Allowed now → new ≡ (edit n).after now → Each edit (ns ++ n ∷ []) old new
each-more edit [] n old now new done may is = (subst (λ f. (edit n).Allowed f) done may, is ∙ ap (λ f. (edit n).after f) done)
each-more edit (m ∷ ns) n old now new done may is = (done.0, each-more edit ns n ((edit m).after old) now new done.1 may is)

-- what was read is put at each of the nodes, or it stops at one
pub puts-selected : (r : Result Unit SelectionFault) (old new : Forest) (nodes sources : List ℕ) (text : List ℕ) (place : Place) (read : Forest) → sources ≡ nodes → IsSpelled text read
    → EditsEach r old new sources (putting_known place read) → OnOk r (PutsEach text place nodes old new) × IfErr r (λ stop. IsUnread text old new stop ⊎ PutsSome text place nodes old new stop)
puts-selected (Ok x) old new nodes sources text place read same spelled edits = ((read, spelled, subst (λ ns. Each (putting_known place read) ns old new) same edits.ok), tt)
puts-selected (Err stop) old new nodes sources text place read same spelled edits = (tt, inr (read, spelled, subst (λ ns. Stops (putting_known place read) ns old new stop) same edits.err))
