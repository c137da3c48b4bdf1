-- The list of active formatting elements, as it is looked at from its end.
use Rattle.std.proofs.Common.{◌≡◌, inl, inr, Bool, true, false, List, [], ◌∷◌, ◌++◌, Some, length, refl, sym, ap, subst, ◌∙◌, reverse, if◌then◌else◌}
use Rattle.std.proofs.lemmas.List.{length-reverse, reverse-append}
use Rattle.std.proofs.lemmas.List.Elements.{All-cons, All-nil}
use Rattle.page_trees.specs.Formatting.{IsFirst, NoneHas, after_marker, last_place, place_from_end, up_to_marker}
use Rattle.page_trees.specs.declared.formatting.Entry.{Entry}
use Rattle.page_trees.specs.declared.formatting.Entry.TheVariants.{Element as AnEntry, Marker}
use Rattle.page_trees.specs.declared.stack.Open.{Open}

-- the last entry comes first
pub entry_first : (es before : List Entry) (e : Entry) → es ≡ before ++ e ∷ [] → reverse es ≡ e ∷ reverse before
entry_first es before e at = ap (λ (xs : List Entry). reverse xs) at ∙ reverse-append before (e ∷ [])

pub at_marker : (es before : List Entry) → es ≡ before ++ Marker ∷ [] → after_marker es ≡ []
at_marker es before at = ap up_to_marker (entry_first es before Marker at)

pub at_element : (es before : List Entry) (o : Open) → es ≡ before ++ AnEntry o ∷ [] → after_marker es ≡ o ∷ after_marker before
at_element es before o at = ap up_to_marker (entry_first es before (AnEntry o) at)

pub none_at_marker : (P : Open → Type 0) (es before : List Entry) → es ≡ before ++ Marker ∷ [] → NoneHas P (after_marker es)
none_at_marker P es before at = subst (NoneHas P) (sym (at_marker es before at)) (All-nil (λ x. P x → ⊥))

pub first_here : (P : Open → Type 0) (es before : List Entry) (o : Open) → es ≡ before ++ AnEntry o ∷ [] → P o → IsFirst P (after_marker es) o
first_here P es before o at has = subst (λ (os : List Open). IsFirst P os o) (sym (at_element es before o at)) (inl (has, refl))

pub none_before : (P : Open → Type 0) (es before : List Entry) (o : Open) → es ≡ before ++ AnEntry o ∷ [] → (P o → ⊥) → NoneHas P (after_marker before) → NoneHas P (after_marker es)
none_before P es before o at lacks none = subst (NoneHas P) (sym (at_element es before o at)) (All-cons (λ x. P x → ⊥) o (after_marker before) lacks none)

pub first_before : (P : Open → Type 0) (es before : List Entry) (o p : Open) → es ≡ before ++ AnEntry o ∷ [] → (P o → ⊥) → IsFirst P (after_marker before) p → IsFirst P (after_marker es) p
first_before P es before o p at lacks first = subst (λ (os : List Open). IsFirst P os p) (sym (at_element es before o at)) (inr (lacks, first))

-- ---- the index of an entry

pub place_here : (test : Entry → Bool) (es before : List Entry) (e : Entry) → es ≡ before ++ e ∷ [] → test e ≡ true → Some (length before) ≡ last_place test es
place_here test es before e at passes =
    sym (ap (place_from_end test) (entry_first es before e at) ∙ ap (λ b. if b then Some (length (reverse before)) else last_place test before) passes ∙ ap Some (length-reverse before))

pub place_before : (test : Entry → Bool) (es before : List Entry) (e : Entry) → es ≡ before ++ e ∷ [] → test e ≡ false → last_place test before ≡ last_place test es
place_before test es before e at fails =
    sym (ap (place_from_end test) (entry_first es before e at) ∙ ap (λ b. if b then Some (length (reverse before)) else last_place test before) fails)
