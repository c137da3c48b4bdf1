-- What was read goes to a place.
use Rattle.std.proofs.Common.{ℕ, ◌≡◌, Bool, true, false, List, [], ◌∷◌, refl, sym, ap, ◌∙◌, subst, arith, inl, inr, Result, Ok, Err}
use Rattle.std.specs.Prelude.{◌==◌, ◌||◌, filter, not, slice_get}
use Rattle.std.specs.Option.{option_map_or}
use Rattle.std.proofs.lemmas.Bool.{cases_Bool, true≢false}
use Rattle.dom_nodes.specs.Kinds.{is_doctype, is_top}
use Rattle.dom_nodes.specs.declared.fault.EditFault.{EditFault}
use Rattle.dom_nodes.specs.declared.fault.EditFault.TheVariants.{UnknownNode, NoChildrenHere, RootOrFragment, Cycle, TooManyNodes, Memory, BadContents, Markup}
use Rattle.dom_links.specs.Copies.{MayCopyOne}
use Rattle.dom_links.specs.Forest.{Forest, children_of}
use Rattle.dom_links.specs.Lists.{is_member}
use Rattle.dom_links.specs.Sound.{IsForest, stays}
use Rattle.dom_links.specs.declared.gap.Place.{Place}
use Rattle.dom_trees.specs.Edits.{Edits, inserting}
use Rattle.dom_trees.specs.Refusals.{InsertCause}
use Rattle.dom_trees.specs.Views.{node_is}
use Rattle.dom_markup.specs.Fragments.{top_nodes}
use Rattle.dom_markup.specs.Setters.{PutCause, putting}

-- the nodes at the top may be copied

filtered_in : (keep : ℕ → Bool) (ns : List ℕ) (n : ℕ) → is_member n (filter keep ns) ≡ true → is_member n ns ≡ true
filtered_in keep [] n s = s
filtered_in keep (m ∷ ns) n s = elim (cases_Bool (keep m)) [
  | inl t ↦ (let s' : is_member n (m ∷ filter keep ns) ≡ true = (rw t at s) in
      elim (cases_Bool (m == n)) [
        | inl u ↦ rw u refl
        | inr f ↦ (let deep : is_member n (filter keep ns) ≡ true = (rw f at s') in rw f (filtered_in keep ns n deep))
      ])
  | inr f ↦ (let deep : is_member n (filter keep ns) ≡ true = (rw f at s) in
      elim (cases_Bool (m == n)) [
        | inl u ↦ rw u refl
        | inr g ↦ rw g (filtered_in keep ns n deep)
      ])
]

-- a child is no document or fragment
child_may : (forest : Forest) (p n : ℕ) → IsForest forest → is_member n (children_of forest p) ≡ true → MayCopyOne forest n
child_may forest p n good s =
    let facts = good.once.in_children p n s in
    record {
      known = facts.0;
      no_top = elim (cases_Bool (option_map_or is_top (slice_get forest.content n) false)) [
        | inr f ↦ f
        | inl t ↦ (let put_there : stays forest n ≡ true = ap (λ b. (n == 0) || b) t ∙ elim (n == 0) as (λ b. (b || true) ≡ true) [ true ↦ refl | false ↦ refl ] in
            let none = (good.alone n facts.0 put_there).0 in
            let some = facts.1 in
            cc)
      ];
    }

top_may : (read : Forest) (n : ℕ) → IsForest read → is_member n (top_nodes read) ≡ true → MayCopyOne read n
top_may read n good s = child_may read 0 n good (filtered_in (λ m. not (node_is is_doctype read m)) (children_of read 0) n s)

-- so what was read is refused by the place, or by a limit

put_cause : (place : Place) (x : ℕ) (read forest : Forest) (fault : EditFault) → IsForest read → InsertCause read (top_nodes read) place x forest fault → PutCause place x read forest fault
put_cause place x read forest UnknownNode good (inl there) = there
put_cause place x read forest UnknownNode good (inr some) = (let may = top_may read some.0 good some.1 in let known = may.known in let far = some.2 in absurd (omega (arith, known, far)))
put_cause place x read forest NoChildrenHere good (inl there) = there
put_cause place x read forest NoChildrenHere good (inr some) = absurd some.2
put_cause place x read forest RootOrFragment good (inl there) = there
put_cause place x read forest RootOrFragment good (inr some) = (let may = top_may read some.0 good some.1 in absurd (true≢false (sym some.2 ∙ may.no_top)))
put_cause place x read forest Cycle good (inl there) = there
put_cause place x read forest Cycle good (inr some) = absurd some.2
put_cause place x read forest TooManyNodes good (inl there) = absurd there
put_cause place x read forest TooManyNodes good (inr many) = many
put_cause place x read forest Memory good cause = tt
put_cause place x read forest BadContents good (inl there) = there
put_cause place x read forest BadContents good (inr some) = absurd some.2
put_cause place x read forest (Markup m) good (inl there) = there
put_cause place x read forest (Markup m) good (inr some) = absurd some.2

pub puts : (result : Result Unit EditFault) (old new read : Forest) (place : Place) (x : ℕ) → IsForest read → Edits result old new (inserting read (top_nodes read) place x) → Edits result old new (putting place x read)
puts (Ok done) old new read place x good edits = record { ok = edits.ok; allowed = (edits.allowed.known, edits.allowed.open_here); err = edits.err; cause = tt }
puts (Err fault) old new read place x good edits = record { ok = tt; allowed = tt; err = edits.err; cause = put_cause place x read old fault good edits.cause }

pub puts_read : (result : Result Unit EditFault) (old new inside read : Forest) (top_ids : List ℕ) (place : Place) (x : ℕ) → IsForest inside → inside ≡ read → top_ids ≡ top_nodes inside → Edits result old new (inserting inside top_ids place x) → Edits result old new (putting place x read)
puts_read result old new inside read top_ids place x good is all edits =
    subst (λ (f : Forest). Edits result old new (putting place x f)) is
    (puts result old new inside place x good (subst (λ (ns : List ℕ). Edits result old new (inserting inside ns place x)) all edits))
