-- A slot takes the two fields over, and with them the box that the parts own.
use Rattle.dom_query_c.proofs.Walking.{refl, sym, subst, List, [], ◌∷◌, ◌++◌, Val, ent, emp, id⊢, ftrue, fsep, tables, WpFn, Item, ‵, raw, ◌⊛◌, ◌$◌, ◌∵◌, !, qed, by, move, drop, use1, join, split, fsplit, fjoin, suffices, done, whole, sub, agg, stop, fld, no_more, and_then, of_opd, returns, enter, alloc_all, pass_all, free_all, look_at, get, get_in, sets, yes, nothing, says, Stays, stay_dropped, walk_of, ends_at, Goes-dropped, proved_at, D, B, word, box_typed, box_out, box_in}
use types.Kit.{⋆}
use Rattle.std.specs.Prelude.{Some}
use Rattle.dom_query_c.proofs.AsReaderBox.{E, TakesParts}
use Rattle.dom_query_c.specs.contracts.reader_slot.ReaderSlot.{the_row}
use Rattle.dom_query_c.specs.contracts.reader_slot.ReaderSlot.of as f
use Rattle.dom_query_c.proofs.reader_slot.ReaderSlot.of.Statement.{statement}
use Rattle.dom_query_c.proofs.reader_slot.ReaderSlot.of.Code as code

abbrev stayed : Stays f.ended.signature.params f.ended.kept
stayed = (stay_dropped TakesParts yes, tt)

pub of_spec : {M : Type 1} → statement M
of_spec 𝓤 𝓛 𝓜 𝓡 wired =
    let c = f.clauses 𝓛 𝓜.mem 𝓡.returns in let W = walk_of 𝓛 f.ended stayed c in let 𝓣 = tables 𝓤 𝓛.H 𝓜 𝓡 𝓡.env in
    proved_at 𝓛 f.ended stayed c 𝓜 𝓡 (Goes-dropped 𝓛 0 TakesParts yes (λ κs x w. refl), tt)
    f.Key.name code.function (code.unfolded 𝓤 𝓛.H 𝓜 𝓡 wired) (λ y are.
    let box : D E = record { ptr = y.0.3.0.ptr; alloc = y.0.3.0.alloc; value = y.0.3.0.value } in
    let slot : the_row.Denot = record { at = box.ptr; alloc = box.alloc; reader = Some box.value } in
    qed 𝓛 ((‵ ftrue ⊛ ‵ (fsep ((B E).own_val box y.0.4.0) ftrue)) ∷ raw (emp 𝓤) ∷ []) ∵ split ! $ drop ! $ fsplit ! $
    box_out E ! box y.0.4.0 (λ b o handle at is fits.
    let w = word E handle b o in
    -- [what the box owns; true; nothing]
    box_in E ! box b o box.value at refl $ use1 𝓛 (‵ (the_row.own_val slot (w ∷ []))) (id⊢ 𝓤 _) $ move ! (1 ∷ 2 ∷ []) $ drop ! $ drop ! $
    let Γ : List (Item 𝓤) = ‵ (the_row.own_val slot (w ∷ [])) ∷ [] in
    by ! (subst (λ (vs : List Val). ent 𝓤 (⋆ 𝓛 Γ) (WpFn 𝓤 𝓛.H 𝓣.C 𝓣.Λ code.function (vs ++ []) (W.post y))) (sym is)
    (qed 𝓛 Γ ∵ enter ! _ _ _ (w ∷ []) _ $ alloc_all ! (λ l. pass_all ! refl (box_typed E handle b o fits, tt) $
    sets ! (of_opd ! (get_in ! (fld ! refl (stop !)) (sub ! 0 refl (whole !)))) refl (tt, tt) $
    sets ! (of_opd ! (get_in ! (fld ! refl (stop !)) (sub ! 1 refl (whole !)))) refl fits $
    sets ! (agg ! (and_then ! (get ! refl) (and_then ! (get ! refl) (no_more !)))) refl (box_typed E handle b o fits) $
    returns ! (look_at ! 0 refl) $ free_all ! refl $
    suffices ! _ (ends_at 𝓛 f.ended stayed c y w slot (tt, tt) (tt, tt)) $ says ! refl $
    nothing ! $ nothing ! $ fjoin ! $ join ! $ nothing ! $ join ! $ done !)))))
