use Rattle.std.proofs.Common.{◌∙◌, [], ap, map, subst, OnOk, Bor, List, ℕ}
use Rattle.std.specs.Prelude.{slice_index_or}
use Rattle.dom_script.specs.NameLists.{listed_in}
use Rattle.dom_query.specs.Cleaning.{IsCleaned}
use Rattle.dom_query.proofs.ListLines.{same-lists}
use Rattle.dom_query.proofs.runner.cleaning.clean.Goals as goal

pub returns-clause-ok : goal.returns-clause-ok
returns-clause-ok c =
    let now : List (Bor (List ℕ)) → List (List ℕ) = map (λ (name : Bor (List ℕ)). name.now) in
    let at : ℕ → List (Bor (List ℕ)) → List (List ℕ) = λ n ls. listed_in (slice_index_or (now ls) n []) in
    let in_text : ℕ → List (List ℕ) → List (List ℕ) = λ n ls. listed_in (slice_index_or ls n []) in
    subst (λ allow. OnOk c.clean_by.result (IsCleaned allow c.args.tree.now c.clean_by.new.tree))
    (same-lists _ _
    (ap now c.deref-4.ensures.value ∙ c.in_ok-elements.ensures ∙ ap (at 0) c.deref.ensures.value ∙ ap (in_text 0) c.in_ok-lists.ensures)
    (ap now c.deref-5.ensures.value ∙ c.in_ok-attrs.ensures ∙ ap (at 1) c.deref-2.ensures.value ∙ ap (in_text 1) c.in_ok-lists.ensures)
    (ap now c.deref-6.ensures.value ∙ c.in_ok-dropped.ensures ∙ ap (at 2) c.deref-3.ensures.value ∙ ap (in_text 2) c.in_ok-lists.ensures))
    c.clean_by.ensures.ok
