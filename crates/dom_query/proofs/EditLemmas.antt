-- What an edit does as a line states it.
use Rattle.std.proofs.Common.{◌≡◌, ◌<◌, ◌≤◌, ◌⊎◌, inl, inr, ap, false, not, ℕ, zero, suc, List, [], ◌∷◌, Some, Result, Ok, Err, refl, sym, ◌∙◌, subst, take, length, arith}
use Rattle.std.specs.Prelude.{slice_get}
use Rattle.std.proofs.lemmas.Option.{none-some, same_Some}
use Rattle.dom_nodes.specs.Change.{changed}
use Rattle.dom_nodes.specs.declared.fault.EditFault.{EditFault}
use Rattle.dom_nodes.specs.declared.fault.EditFault.TheVariants.{UnknownNode, NoChildrenHere, RootOrFragment, Cycle, TooManyNodes, Memory, BadContents, Markup}
use Rattle.dom_nodes.specs.declared.node_data.NodeData.{NodeData}
use Rattle.dom_nodes.specs.declared.node_data.changing.Change.{Change}
use Rattle.dom_links.specs.Forest.{Forest}
use Rattle.dom_trees.specs.Edits.{TreeEdit, changing}
use Rattle.dom_trees.specs.Refusals.{ChangeCause, JoinCause, KnownCause, LacksChildren, LacksSiblings, SetCause}
use Rattle.dom_markup.specs.Setters.{IsOpenAt}
use Rattle.std.proofs.lemmas.Bool.{false≢true}
use Rattle.dom_links.specs.Insertions.{gap_at}
use Rattle.dom_links.specs.Sound.{is_open}
use Rattle.dom_links.specs.declared.gap.Place.{Place}
use Rattle.dom_links.specs.declared.gap.Place.TheVariants.{AtEnd, AtFront, InsteadOfChildren}
use Rattle.dom_edits.specs.Edits.{Each, PutKnownCause, putting_known}
use Rattle.dom_script.specs.declared.script.edit_line.EditLine.{EditLine}
use Rattle.dom_script.specs.declared.script.edit_line.EditLine.TheVariants.{SetText, Strip, Put, Remove, Unwrap}
use Rattle.dom_query.specs.Editing.{EditsOrFails, FailsAtOne, IsRefusal, line_edit, rewriting}

-- ---- changes of data

each-rewrites : (change : Change) (ns : List ℕ) (old new : Forest) → Each (λ n. changing n change) ns old new → Each (rewriting (changed change)) ns old new
each-rewrites change [] old new done = done
each-rewrites change (n ∷ ns) old new done = (done.0, each-rewrites change ns _ new done.1)

rewrite-cause : (n : ℕ) (change : Change) (forest : Forest) (fault : EditFault) → ChangeCause n change forest fault → JoinCause n forest fault
rewrite-cause n change forest Memory evidence = tt
rewrite-cause n change forest _ evidence = evidence

fails-rewrites : (change : Change) (ns : List ℕ) (old : Forest) (fault : EditFault) → FailsAtOne (λ n. changing n change) ns old fault → FailsAtOne (rewriting (changed change)) ns old fault
fails-rewrites change ns old fault (done, after, stops) = (
  done,
  after,
  record {
    node = stops.node;
    next = stops.next;
    before = each-rewrites change (take done ns) old after stops.before;
    cause = rewrite-cause stops.node change after fault stops.cause;
  },
)

-- a change leaves what the line states
pub line-rewrites : (r : Result Unit EditFault) (old new : Forest) (ns : List ℕ) (change : Change) (evidence : NodeData → NodeData) → changed change ≡ evidence
    → EditsOrFails r old new ns (λ n. changing n change) → EditsOrFails r old new ns (rewriting evidence)
line-rewrites (Ok x) old new ns change evidence is edits = record { ok = subst (λ f. Each (rewriting f) ns old new) is (each-rewrites change ns old new edits.ok); err = tt }
line-rewrites (Err fault) old new ns change evidence is edits = record {
  ok = tt;
  err = λ other. subst (λ f. FailsAtOne (rewriting f) ns old fault) is (fails-rewrites change ns old fault (edits.err other));
}

-- ---- refusals

known-unknown : (n : ℕ) (forest : Forest) (fault : EditFault) → IsRefusal fault → KnownCause n forest fault → (fault ≡ UnknownNode) × (length forest.content ≤ n)
known-unknown n forest UnknownNode is evidence = (refl, evidence)
known-unknown n forest _ is evidence = absurd evidence

join-unknown : (n : ℕ) (forest : Forest) (fault : EditFault) → IsRefusal fault → JoinCause n forest fault → (fault ≡ UnknownNode) × (length forest.content ≤ n)
join-unknown n forest UnknownNode is evidence = (refl, evidence)
join-unknown n forest Memory is evidence = absurd is
join-unknown n forest _ is evidence = absurd evidence

set-unknown : (n : ℕ) (forest : Forest) (fault : EditFault) → IsRefusal fault → SetCause n forest fault → (fault ≡ UnknownNode) × (length forest.content ≤ n)
set-unknown n forest UnknownNode is evidence = (refl, evidence)
set-unknown n forest Memory is evidence = absurd is
set-unknown n forest TooManyNodes is evidence = absurd is
set-unknown n forest _ is evidence = absurd evidence

-- ---- one refusal

-- where an edit is allowed it is refused by a limit alone, and it has one refusal at most
record HasOneRefusal (edit : ℕ → TreeEdit) : Type 0 where
  apart : (n : ℕ) (forest : Forest) (fault : EditFault) → (edit n).Allowed forest → (edit n).Cause forest fault → IsRefusal fault → ⊥
  once : (n : ℕ) (forest : Forest) (fault other : EditFault) → (edit n).Cause forest fault → (edit n).Cause forest other → IsRefusal fault → IsRefusal other → fault ≡ other

-- an edit that is refused only at an unknown node
record IsRefusedUnknown (edit : ℕ → TreeEdit) : Type 0 where
  known : (n : ℕ) (forest : Forest) → (edit n).Allowed forest → n < length forest.content
  unknown : (n : ℕ) (forest : Forest) (fault : EditFault) → IsRefusal fault → (edit n).Cause forest fault → (fault ≡ UnknownNode) × (length forest.content ≤ n)

unknown-once : (edit : ℕ → TreeEdit) → IsRefusedUnknown edit → HasOneRefusal edit
unknown-once edit only = record {
  apart = λ n forest fault may evidence is. omega (arith, only.known n forest may, (only.unknown n forest fault is evidence).1);
  once = λ n forest fault other evidence reports is so. (only.unknown n forest fault is evidence).0 ∙ sym (only.unknown n forest other so reports).0;
}

-- why what was read isn't put at a place, as a fault
abbrev fault_for : Place → EditFault
fault_for AtEnd = NoChildrenHere
fault_for AtFront = NoChildrenHere
fault_for InsteadOfChildren = NoChildrenHere
fault_for _ = RootOrFragment

lacks-children : (place : Place) (n : ℕ) (forest : Forest) → LacksChildren forest (gap_at place n) → (NoChildrenHere ≡ fault_for place) × (is_open (gap_at place n) forest ≡ false)
lacks-children AtEnd n forest lacks = (refl, lacks)
lacks-children AtFront n forest lacks = (refl, lacks)
lacks-children InsteadOfChildren n forest lacks = (refl, lacks)
lacks-children _ n forest lacks = absurd lacks

lacks-siblings : (place : Place) (n : ℕ) (forest : Forest) → LacksSiblings forest (gap_at place n) → (RootOrFragment ≡ fault_for place) × (is_open (gap_at place n) forest ≡ false)
lacks-siblings AtEnd n forest lacks = absurd lacks
lacks-siblings AtFront n forest lacks = absurd lacks
lacks-siblings InsteadOfChildren n forest lacks = absurd lacks
lacks-siblings _ n forest lacks = (refl, ap not lacks)

-- x is unknown, or known and closed there
abbrev PutRefusal : Place → ℕ → Forest → EditFault → Type 0
PutRefusal place n forest fault =
    ((fault ≡ UnknownNode) × (length forest.content ≤ n)) ⊎ ((fault ≡ fault_for place) × (n < length forest.content) × (is_open (gap_at place n) forest ≡ false))

put-cause : (place : Place) (read : Forest) (n : ℕ) (forest : Forest) (fault : EditFault) → IsRefusal fault → PutKnownCause place n read forest fault → PutRefusal place n forest fault
put-cause place read n forest UnknownNode is evidence = inl (refl, evidence)
put-cause place read n forest NoChildrenHere is evidence = let lacks = lacks-children place n forest evidence.1 in inr (lacks.0, evidence.0, lacks.1)
put-cause place read n forest RootOrFragment is evidence = let lacks = lacks-siblings place n forest evidence.1 in inr (lacks.0, evidence.0, lacks.1)
put-cause place read n forest Cycle is evidence = absurd evidence.1
put-cause place read n forest TooManyNodes is evidence = absurd is
put-cause place read n forest Memory is evidence = absurd is
put-cause place read n forest BadContents is evidence = absurd evidence.1
put-cause place read n forest (Markup fault) is evidence = absurd evidence.1

put-apart : (place : Place) (n : ℕ) (forest : Forest) (fault : EditFault) → IsOpenAt place n forest → PutRefusal place n forest fault → ⊥
put-apart place n forest fault may (inl p) = let no : ⊥ = omega (arith, may.0, p.1) in no
put-apart place n forest fault may (inr p) = false≢true (sym p.2 ∙ may.1)

put-same : (place : Place) (n : ℕ) (forest : Forest) (fault other : EditFault) → PutRefusal place n forest fault → PutRefusal place n forest other → fault ≡ other
put-same place n forest fault other (inl p) (inl q) = p.0 ∙ sym q.0
put-same place n forest fault other (inl p) (inr q) = let no : ⊥ = omega (arith, p.1, q.1) in absurd no
put-same place n forest fault other (inr p) (inl q) = let no : ⊥ = omega (arith, p.1, q.1) in absurd no
put-same place n forest fault other (inr p) (inr q) = p.0 ∙ sym q.0

puts-once : (place : Place) (read : Forest) → HasOneRefusal (putting_known place read)
puts-once place read = record {
  apart = λ n forest fault may evidence is. put-apart place n forest fault may (put-cause place read n forest fault is evidence);
  once = λ n forest fault other evidence reports is so. put-same place n forest fault other (put-cause place read n forest fault is evidence) (put-cause place read n forest other so reports);
}

line-refusal : (edit : EditLine) → HasOneRefusal (line_edit edit)
line-refusal (SetText text) = unknown-once _ (record { known = λ n forest may. may; unknown = set-unknown })
line-refusal (Strip names) = unknown-once _ (record { known = λ n forest may. may; unknown = known-unknown })
line-refusal (Put place read) = puts-once place read
line-refusal Remove = unknown-once _ (record { known = λ n forest may. may; unknown = known-unknown })
line-refusal Unwrap = unknown-once _ (record { known = λ n forest may. may; unknown = known-unknown })
line-refusal _ = unknown-once _ (record { known = λ n forest may. may; unknown = join-unknown })

-- what is done at each of the nodes leaves one forest
pub each-once : (edit : ℕ → TreeEdit) (ns : List ℕ) (old a b : Forest) → Each edit ns old a → Each edit ns old b → a ≡ b
each-once edit [] old a b p q = p ∙ sym q
each-once edit (n ∷ ns) old a b p q = each-once edit ns ((edit n).after old) a b p.1 q.1

-- nothing is refused where all was done
all-done : (edit : ℕ → TreeEdit) → HasOneRefusal edit → (ns : List ℕ) (old all after : Forest) (done n : ℕ) (fault : EditFault) → Each edit ns old all
    → slice_get ns done ≡ Some n → Each edit (take done ns) old after → (edit n).Cause after fault → IsRefusal fault → ⊥
all-done edit one [] old all after done n fault each next before cause is = none-some n next
all-done edit one (m ∷ ns) old all after zero n fault each next before cause is =
    one.apart m old fault each.0 (subst (λ f. (edit m).Cause f fault) before (subst (λ k. (edit k).Cause after fault) (sym (same_Some m n next)) cause)) is
all-done edit one (m ∷ ns) old all after (suc done) n fault each next before cause is = all-done edit one ns ((edit m).after old) all after done n fault each.1 next before.1 cause is

-- two refusals are one
one-stop : (edit : ℕ → TreeEdit) → HasOneRefusal edit → (ns : List ℕ) (old a b : Forest) (i j n m : ℕ) (fault other : EditFault)
    → slice_get ns i ≡ Some n → Each edit (take i ns) old a → (edit n).Cause a fault → IsRefusal fault
    → slice_get ns j ≡ Some m → Each edit (take j ns) old b → (edit m).Cause b other → IsRefusal other → fault ≡ other
one-stop edit one [] old a b i j n m fault other next before cause is again front reports so = absurd (none-some n next)
one-stop edit one (x ∷ ns) old a b zero zero n m fault other next before cause is again front reports so =
    one.once x old fault other (subst (λ f. (edit x).Cause f fault) before (subst (λ k. (edit k).Cause a fault) (sym (same_Some x n next)) cause))
    (subst (λ f. (edit x).Cause f other) front (subst (λ k. (edit k).Cause b other) (sym (same_Some x m again)) reports)) is so
one-stop edit one (x ∷ ns) old a b zero (suc j) n m fault other next before cause is again front reports so =
    absurd (one.apart x old fault front.0 (subst (λ f. (edit x).Cause f fault) before (subst (λ k. (edit k).Cause a fault) (sym (same_Some x n next)) cause)) is)
one-stop edit one (x ∷ ns) old a b (suc i) zero n m fault other next before cause is again front reports so =
    absurd (one.apart x old other before.0 (subst (λ f. (edit x).Cause f other) front (subst (λ k. (edit k).Cause b other) (sym (same_Some x m again)) reports)) so)
one-stop edit one (x ∷ ns) old a b (suc i) (suc j) n m fault other next before cause is again front reports so =
    one-stop edit one ns ((edit x).after old) a b i j n m fault other next before.1 cause is again front.1 reports so

pub done-not-refused : (edit : EditLine) (ns : List ℕ) (old all : Forest) (fault : EditFault) → Each (line_edit edit) ns old all → FailsAtOne (line_edit edit) ns old fault → IsRefusal fault → ⊥
done-not-refused edit ns old all fault each (done, after, stops) is =
    all-done (line_edit edit) (line-refusal edit) ns old all after done stops.node fault each stops.next stops.before stops.cause is

pub refused-once : (edit : EditLine) (ns : List ℕ) (old : Forest) (fault other : EditFault) → FailsAtOne (line_edit edit) ns old fault → FailsAtOne (line_edit edit) ns old other
    → IsRefusal fault → IsRefusal other → fault ≡ other
refused-once edit ns old fault other (i, a, p) (j, b, q) is so =
    one-stop (line_edit edit) (line-refusal edit) ns old a b i j p.node q.node fault other p.next p.before p.cause is q.next q.before q.cause so
