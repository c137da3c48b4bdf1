-- The parts take the two fields of a full slot over, and with them the box that it owns.
use Rattle.dom_query_c.proofs.Walking.{◌≡◌, refl, sym, subst, List, [], ◌∷◌, ◌++◌, Val, ent, id⊢, ftrue, fsep, fact, tables, WpFn, Item, ‵, raw, ◌⊛◌, ◌$◌, ◌∵◌, !, qed, by, move, drop, use1, join, split, rewrite, fsplit, fjoin, suffices, done, whole, sub, agg, stop, fld, no_more, and_then, of_opd, returns, enter, alloc_all, pass_all, free_all, look_at, get, get_in, sets, yes, heard, nothing, says, Stays, stay_dropped, walk_of, ends_at, Goes-dropped, proved_at, D, B, word, box_typed, box_out, box_in}
use mathlib.Core.Bool.{true≢false}
use types.Kit.{⋆}
use denote.Signature.{type_at}
use Rattle.std.specs.Prelude.{true, Option, Some, None}
use Rattle.std.specs.Option.{is_some}
use Rattle.dom_query_c.proofs.AsReaderBox.{E, TakesSlot}
use Rattle.c_state.specs.contracts.pages.Reader as Reader
use Rattle.dom_query_c.specs.contracts.reader_slot.ReaderSlot.{the_row}
use Rattle.dom_query_c.specs.contracts.reader_slot.ReaderSlot.into_parts as f
use Rattle.dom_query_c.proofs.reader_slot.ReaderSlot.into_parts.Statement.{statement}
use Rattle.dom_query_c.proofs.reader_slot.ReaderSlot.into_parts.Code as code

abbrev stayed : Stays f.ended.signature.params f.ended.kept
stayed = (stay_dropped TakesSlot yes, tt)

-- what is in a full slot
content : (held : Option Reader.the_row.Denot) → is_some held ≡ true → (x : Reader.the_row.Denot) × (held ≡ Some x)
content None full = absurd (true≢false (sym full))
content (Some x) full = (x, refl)

pub into_parts_spec : {M : Type 1} → statement M
into_parts_spec 𝓤 𝓛 𝓜 𝓡 wired =
    let c = f.clauses 𝓛 𝓜.mem 𝓡.returns in let W = walk_of 𝓛 f.ended stayed c in let 𝓣 = tables 𝓤 𝓛.H 𝓜 𝓡 𝓡.env in
    proved_at 𝓛 f.ended stayed c 𝓜 𝓡 (Goes-dropped 𝓛 0 TakesSlot yes (λ κs x w. refl), tt)
    f.Key.name code.function (code.unfolded 𝓤 𝓛.H 𝓜 𝓡 wired) (λ y are.
    let slot : the_row.Denot = y.0.3.0 in
    let To = type_at (f.signature).result tt in
    qed 𝓛 ((‵ ftrue ⊛ ‵ (fsep (the_row.own_val slot y.0.4.0) ftrue)) ∷ raw (fact 𝓤 (is_some slot.reader ≡ true)) ∷ []) ∵
    move ! (1 ∷ []) $ heard ! (is_some slot.reader ≡ true) (λ full.
    let in_it = content slot.reader full in
    let box : D E = record { ptr = slot.at; alloc = slot.alloc; value = in_it.0 } in
    let parts : To.Denot = record { ptr = box.ptr; alloc = box.alloc; value = box.value } in
    split ! $ drop ! $ fsplit ! $
    rewrite ! 0 (λ (held : Option Reader.the_row.Denot). ‵ (the_row.own_val (record slot { reader = held }) y.0.4.0)) in_it.1 refl $
    use1 𝓛 (‵ ((B E).own_val box y.0.4.0)) (id⊢ 𝓤 _) $
    box_out E ! box y.0.4.0 (λ b o handle at is fits.
    let w = word E handle b o in
    -- [what the slot owns; true]
    box_in E ! box b o box.value at refl $ use1 𝓛 (‵ (To.own_val parts (w ∷ []))) (id⊢ 𝓤 _) $ move ! (1 ∷ []) $ drop ! $
    let Γ : List (Item 𝓤) = ‵ (To.own_val parts (w ∷ [])) ∷ [] in
    by ! (subst (λ (vs : List Val). ent 𝓤 (⋆ 𝓛 Γ) (WpFn 𝓤 𝓛.H 𝓣.C 𝓣.Λ code.function (vs ++ []) (W.post y))) (sym is)
    (qed 𝓛 Γ ∵ enter ! _ _ _ (w ∷ []) _ $ alloc_all ! (λ l. pass_all ! refl (box_typed E handle b o fits, tt) $
    sets ! (of_opd ! (get_in ! (fld ! refl (stop !)) (sub ! 0 refl (whole !)))) refl (tt, tt) $
    sets ! (of_opd ! (get_in ! (fld ! refl (stop !)) (sub ! 1 refl (whole !)))) refl fits $
    sets ! (agg ! (and_then ! (get ! refl) (and_then ! (get ! refl) (no_more !)))) refl (box_typed E handle b o fits) $
    returns ! (look_at ! 0 refl) $ free_all ! refl $
    suffices ! _ (ends_at 𝓛 f.ended stayed c y w parts (tt, tt) (tt, tt)) $ says ! in_it.1 $
    nothing ! $ nothing ! $ fjoin ! $ join ! $ nothing ! $ join ! $ done !))))))
