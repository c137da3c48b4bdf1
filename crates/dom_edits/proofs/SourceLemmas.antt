-- Nodes that are removed, and copies of them that are put at others.
use Rattle.std.proofs.Common.{◌≡◌, ◌≢◌, inr, ◌==◌, ◌<◌, ◌≤◌, arith, false, ℕ, zero, suc, List, [], ◌∷◌, Some, Result, Ok, Err, OnOk, IfErr, refl, sym, ◌∙◌, ap, subst, length, get_or, slice_get, take, reverse}
use Rattle.std.proofs.lemmas.Bool.{true≢false}
use Rattle.std.proofs.lemmas.List.{reverse-reverse}
use Rattle.std.proofs.lemmas.Option.{none-some, same_Some}
use Rattle.std.specs.Global.{Vec}
use Rattle.dom_nodes.specs.declared.fault.EditFault.{EditFault}
use Rattle.dom_nodes.specs.declared.fault.EditFault.TheVariants.{UnknownNode, NoChildrenHere, RootOrFragment, Cycle, TooManyNodes, Memory, BadContents, Markup}
use Rattle.dom_links.specs.Copying.{AreNodesOf}
use Rattle.dom_links.proofs.copies.CopiedForests.{stands_here}
use Rattle.dom_links.specs.Forest.{Forest}
use Rattle.dom_links.specs.Moves.{detach}
use Rattle.dom_links.specs.declared.gap.Place.{Place}
use Rattle.dom_trees.specs.Refusals.{KnownCause}
use Rattle.dom_edits.specs.declared.edit.Edit.TheVariants.{Remove}
use Rattle.dom_edits.specs.declared.edit.SelectionFault.{SelectionFault}
use Rattle.dom_edits.specs.declared.selection_mut.SelectionMut.{SelectionMut}
use Rattle.dom_edits.specs.Edits.{Each, EditsEach, Stops, copying_to, edit_at}
use Rattle.dom_edits.specs.Sources.{CopiesEach, CopiesSelected, CopiesSome, TransfersSelected, IsUnknownSource, DetachesSources, removed}

-- ---- tests that the code makes

pub some_of : (xs : List ℕ) (n : ℕ) → n ≡ length xs → false ≡ (n == 0) → xs ≢ []
some_of xs n counted some none = absurd (true≢false (ap (λ k. k == 0) (sym (counted ∙ ap (λ (ys : List ℕ). length ys) none)) ∙ sym some))

pub some_turned : (xs : List ℕ) → xs ≢ [] → reverse xs ≢ []
some_turned xs some none = some (sym (reverse-reverse xs) ∙ ap (λ (ys : List ℕ). reverse ys) none)

-- one that is unknown is reported
pub refused_at : (forest : Forest) (sources : List ℕ) (i n : ℕ) → i < length sources → n ≡ get_or sources i n → length forest.content ≤ n
    → IsUnknownSource sources forest forest (record { done = 0; fault = UnknownNode })
refused_at forest sources i n here is past = record {
  nothing_done = refl;
  same = refl;
  unknown = (n, stands_here sources i n here is, past);
  fault = refl;
}

-- ---- the source nodes are removed

removed_each : (ns : List ℕ) (old new : Forest) → Each (edit_at Remove) ns old new → new ≡ removed ns old
removed_each [] old new done = done
removed_each (n ∷ ns) old new done = removed_each ns (detach (n ∷ []) old) new done.1

length-removed : (ns : List ℕ) (old : Forest) → length (removed ns old).content ≡ length old.content
length-removed [] old = refl
length-removed (n ∷ ns) old = length-removed ns (detach (n ∷ []) old)

known_at : (forest : Forest) (ns : List ℕ) (i n : ℕ) → AreNodesOf forest ns → slice_get ns i ≡ Some n → n < length forest.content
known_at forest [] i n known is = absurd (none-some n is)
known_at forest (m ∷ ns) zero n known is = subst (λ (k : ℕ). k < length forest.content) (same_Some m n is) known.0
known_at forest (m ∷ ns) (suc i) n known is = known_at forest ns i n known.1 is

unknown_by : (n : ℕ) (forest : Forest) (fault : EditFault) → KnownCause n forest fault → length forest.content ≤ n
unknown_by n forest UnknownNode cause = cause
unknown_by n forest NoChildrenHere cause = absurd cause
unknown_by n forest RootOrFragment cause = absurd cause
unknown_by n forest Cycle cause = absurd cause
unknown_by n forest TooManyNodes cause = absurd cause
unknown_by n forest Memory cause = absurd cause
unknown_by n forest BadContents cause = absurd cause
unknown_by n forest (Markup fault) cause = absurd cause

-- a removal of known nodes isn't refused
removal_goes : (sources : List ℕ) (old new : Forest) (stop : SelectionFault) → AreNodesOf old sources → Stops (edit_at Remove) sources old new stop → ⊥
removal_goes sources old new stop known stops =
    let same = ap (λ (f : Forest). length f.content) (removed_each (take stop.done sources) old new stops.before) ∙ length-removed (take stop.done sources) old in
    let here = known_at old sources stop.done stops.node known stops.next in
    omega (arith, same, here, unknown_by stops.node new stop.fault stops.cause)

pub taken : (r : Result Unit SelectionFault) (old new : Forest) (sources : List ℕ) → AreNodesOf old sources → EditsEach r old new sources (edit_at Remove) → DetachesSources r old new sources
taken (Ok x) old new sources known edits = record { known = known; ok = removed_each sources old new edits.ok; err = tt }
taken (Err stop) old new sources known edits = absurd (removal_goes sources old new stop known edits.err)

-- ---- copies of them are put at others

pub copied_each : (r : Result Unit SelectionFault) (old new : Forest) (nodes sources ids : List ℕ) (place : Place) → sources ≡ nodes → ids ≢ [] → EditsEach r old new sources (copying_to place ids)
    → OnOk r (CopiesEach place ids nodes old new) × IfErr r (CopiesSome place ids nodes old new)
copied_each r old new nodes sources [] place same some edits = absurd (some refl)
copied_each (Ok x) old new nodes sources (n ∷ ids) place same some edits = (subst (λ ns. Each (copying_to place (n ∷ ids)) ns old new) same edits.ok, tt)
copied_each (Err stop) old new nodes sources (n ∷ ids) place same some edits = (tt, subst (λ ns. Stops (copying_to place (n ∷ ids)) ns old new stop) same edits.err)

-- there are no nodes, or none to be copied
pub to_none : (place : Place) (ids : List ℕ) (forest : Forest) → CopiesEach place ids [] forest forest
to_none place [] forest = refl
to_none place (n ∷ ids) forest = refl

-- no memory was found before the first
pub lacking : (place : Place) (ids nodes : List ℕ) (forest : Forest) → ids ≢ [] → nodes ≢ [] → CopiesSome place ids nodes forest forest (record { done = 0; fault = Memory })
lacking place [] nodes forest some here = absurd (some refl)
lacking place (n ∷ ids) [] forest some here = absurd (here refl)
lacking place (n ∷ ids) (m ∷ nodes) forest some here = record { node = m; next = refl; before = refl; cause = inr tt }

-- ---- both

pub gives : (r : Result Unit SelectionFault) (x : Unit {0}) (old mid new : SelectionMut) (sources ordered : List ℕ) (place : Place) → DetachesSources (Ok x) old.tree.now mid.tree.now sources → mid.nodes ≡ old.nodes → mid.tree.ghost_name ≡ old.tree.ghost_name
    → CopiesSelected r mid new ordered place → TransfersSelected r old new sources ordered place
gives (Ok y) x old mid new sources ordered place taken nodes loan copied = record {
  ok = (taken.known, subst (λ ns. CopiesEach place ordered ns (removed sources old.tree.now) new.tree.now) (ap (λ (v : Vec ℕ). v.items) nodes) (subst (λ forest. CopiesEach place ordered mid.nodes.items forest new.tree.now) taken.ok copied.ok));
  err = tt;
  same_nodes = copied.same_nodes ∙ nodes;
  same_tree = copied.same_tree ∙ loan;
}
gives (Err stop) x old mid new sources ordered place taken nodes loan copied = record {
  ok = tt;
  err = inr (taken.known, subst (λ ns. CopiesSome place ordered ns (removed sources old.tree.now) new.tree.now stop) (ap (λ (v : Vec ℕ). v.items) nodes) (subst (λ forest. CopiesSome place ordered mid.nodes.items forest new.tree.now stop) taken.ok copied.err));
  same_nodes = copied.same_nodes ∙ nodes;
  same_tree = copied.same_tree ∙ loan;
}
