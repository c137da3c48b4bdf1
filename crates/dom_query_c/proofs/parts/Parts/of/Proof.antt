-- The box is taken apart by `Box::into_raw_with_allocator`, and the parts own what it owned.
use Rattle.dom_query_c.proofs.Walking.{◌≡◌, refl, sym, ap, subst, ◌∙◌, List, [], ◌∷◌, ◌++◌, Val, vstruct, of_list, bare, ent, id⊢, never, fst∗, ftrue, fsep, flft, fact, ◌⊑◌, tables, sem, WpFn, Item, ‵, raw, ◌⊛◌, some, later, ◌$◌, ◌∵◌, !, qed, by, move, drop, use1, join, split, split3, pick, rewrite, fsplit, fjoin, fpick, feq_l, suffices, await, done, whole, sub, agg, stop, fld, no_more, and_then, of_opd, returns, enter, alloc_all, pass_all, free_all, look_at, get, get_in, sets, lands_as, no, plain, heard, nothing, only, says, Stays, stay_dropped, walk_of, ends_at, proved_at, D, B, word, box_typed, box_out, box_in}
use types.Kit.{⋆}
use mir.MapTy.{inst_fn}
use mir.Syntax.{Fn, Args, Dict, a_type, dcons, dnil}
use denote.Param.{bounded}
use denote.RattleType.{RattleType}
use denote.RawPtr.{Ptr, RawPtr, block_ptr, null_ptr, ptr_val, in_a_block}
use denote.Struct.Tuple.{Tuple}
use denote.Triple.Call.{calls_at}
use denote.Triple.Clauses.{Ended}
use denote.Triple.Spec.{triple_of}
use denote.Triple.Table.{framed}
use Rattle.std.proofs.alloc.Calls.{token, handle_tells, Goes-blank}
use Rattle.std.specs.Box.Ownership.{box_owns}
use Rattle.std_alloc.proofs.BoxSteps.Form.{Bx, R, P, τ}
use Rattle.std_alloc.specs.contracts.boxed.Box.into_raw_with_allocator as into_raw
use Rattle.std_alloc.proofs.boxed.Box.into_raw_with_allocator.Met.{met}
use Rattle.dom_query_c.specs.contracts.parts.Parts as Parts
use Rattle.dom_query_c.specs.contracts.parts.Parts.of as f
use Rattle.dom_query_c.proofs.parts.Parts.of.Statement.{statement}
use Rattle.dom_query_c.proofs.parts.Parts.of.Code as code

module _ (E : Bx) (dx : Dict) where
  abbrev args : Args
  args = bounded (a_type ∷ a_type ∷ []) (E.row, (E.al.row, tt)) (dcons E.al.d (dcons E.al.drops (dcons dx dnil)))

  abbrev fn : Fn
  fn = inst_fn args code.function

  abbrev ended : Ended
  ended = f.ended E.row E.al.row E.al.g E.al.d E.al.drops dx

  abbrev stayed : Stays ended.signature.params ended.kept
  stayed = (stay_dropped (plain (λ _. B E)) no, tt)

  abbrev TheParts : RattleType
  TheParts = Parts.the_row (R E) (P E) E.al.g

pub of_spec : {M : Type 1} → statement M
of_spec 𝓤 𝓛 𝓜 𝓡 wired X Z LX LZ g d dd dx allocator md glue =
    let E : Bx = record { row = X; laws = LX; al = record { row = Z; laws = LZ; g = g; d = d; drops = dd } } in
    let c = f.clauses X Z g d dd dx 𝓛 𝓜.mem 𝓡.returns in let W = walk_of 𝓛 (ended E dx) (stayed E dx) c in let 𝓣 = tables 𝓤 𝓛.H 𝓜 𝓡 𝓡.env in
    let Opened = triple_of 𝓛 (into_raw.signature X Z g d dd dx) (into_raw.spec X Z g d dd dx 𝓛 𝓜.mem 𝓡.returns) in
    proved_at 𝓛 (ended E dx) (stayed E dx) c 𝓜 𝓡 (Goes-blank 𝓛 2 (plain (λ _. B E)) no (λ κs x w. tt), tt)
    (f.Key.name (args E dx)) (fn E dx) (code.unfolded 𝓤 𝓛.H 𝓜 𝓡 wired (X, (Z, tt)) d dd dx) (λ y are.
    let κs = y.0.0 in let qs = y.0.1 in let box : D E = y.0.3.0 in
    let tokens : Item 𝓤 = ‵ (flft κs.0 qs.0) ⊛ ‵ (flft κs.1.0 qs.1.0) ⊛ ‵ ftrue in
    let live : Item 𝓤 = raw (fact 𝓤 (κs.0 ⊑ X.lives)) ⊛ raw (fact 𝓤 (κs.1.0 ⊑ Z.lives)) ⊛ ‵ ftrue in
    let owns_at = λ (p : Ptr). box_owns (token E.al box.alloc) (R E) p box.value in
    qed 𝓛 ((tokens ⊛ ‵ (fsep ((B E).own_val box y.0.4.0) ftrue)) ∷ live ∷ []) ∵ split ! $ move ! (1 ∷ []) $ fsplit ! $
    box_out E ! box y.0.4.0 (λ b o handle at is fits. box_in E ! box b o box.value at refl $
    let w = word E handle b o in
    let z : Opened.Ghost = ((κs, qs, tt, (box, tt), (w ∷ [], tt)), tt) in
    let Γ : List (Item 𝓤) = ‵ ((B E).own_val box (w ∷ [])) ∷ ‵ ftrue ∷ tokens ∷ live ∷ [] in
    by ! (subst (λ (vs : List Val). ent 𝓤 (⋆ 𝓛 Γ) (WpFn 𝓤 𝓛.H 𝓣.C 𝓣.Λ (fn E dx) (vs ++ []) (W.post y))) (sym is)
    (qed 𝓛 Γ ∵ enter ! _ _ _ (w ∷ []) _ $ alloc_all ! (λ l. pass_all ! refl (box_typed E handle b o fits, tt) $
    sets ! (of_opd ! (get ! refl)) refl (box_typed E handle b o fits) $
    fjoin ! $ move ! (1 ∷ 0 ∷ []) $ join ! $ join ! $ use1 𝓛 (raw (Opened.pre z)) (id⊢ 𝓤 _) $
    calls_at ! (framed 𝓤 𝓛.H 𝓜 𝓣) Opened (met 𝓤 𝓛 𝓜 𝓡 (code.calls-std_alloc::boxed::Box::into_raw_with_allocator 𝓡.env wired) X Z LX LZ g d dd dx allocator md glue) z
    (and_then ! (get ! refl) (no_more !)) (λ v.
    use1 𝓛 (later (some (λ (pair : Ptr × E.al.row.Denot). (tokens ⊛ ‵ ((Tuple (RawPtr ∷ P E ∷ [])).own_val pair (v ∷ []))) ⊛ some (λ (_ : (Unit {0} × (Unit {0} × Unit {0})) × Unit {0}). ‵ (fsep (fsep ftrue (fsep ftrue ftrue)) ftrue) ⊛ (raw (fact 𝓤 (pair.1 ≡ box.alloc)) ⊛ ‵ (owns_at pair.0)))))) (id⊢ 𝓤 _) $
    await ! tt $ pick ! (λ pair. split ! $ move ! (1 ∷ []) $ pick ! (λ _. split3 ! $ drop ! $ heard ! (pair.1 ≡ box.alloc) (λ same.
    in_a_block ! pair.0 owns_at (fst∗ 𝓤 (never 𝓤) (sem 𝓛 (token E.al box.alloc (bare (τ E)) null_ptr))) (λ b' o' at'.
    -- the pair's two machine values
    move ! (1 ∷ []) $ split ! $ move ! (1 ∷ []) $ fpick ! (λ vss. fsplit ! $ feq_l ! (λ is_pair. fsplit ! $ feq_l ! (λ is_ptr. fsplit ! $
    rewrite ! 0 (λ (a : E.al.row.Denot). ‵ (E.al.row.own_val a vss.1.0)) same refl $ handle_tells E.al ! box.alloc vss.1.0 (λ handle' is_handle fits'.
    let left : D E = record { ptr = block_ptr b' o'; alloc = box.alloc; value = box.value } in
    let parts : (TheParts E dx).Denot = record { ptr = block_ptr b' o'; alloc = box.alloc; value = box.value } in
    let ptr_word = is_ptr ∙ ap (λ (p : Ptr). ptr_val p ∷ []) at' in
    lands_as ! (ap only (is_pair ∙ (λ i. vstruct (of_list (ptr_word i ++ (is_handle i ++ []))) ∷ []))) refl (box_typed E handle' b' o' fits') $
    sets ! (of_opd ! (get_in ! (fld ! refl (stop !)) (sub ! 0 refl (whole !)))) refl (tt, tt) $
    sets ! (of_opd ! (get_in ! (fld ! refl (stop !)) (sub ! 1 refl (whole !)))) refl fits' $
    sets ! (of_opd ! (get ! refl)) refl fits' $
    sets ! (agg ! (and_then ! (get ! refl) (and_then ! (get ! refl) (no_more !)))) refl (box_typed E handle' b' o' fits') $
    returns ! (look_at ! 0 refl) $ free_all ! refl $
    -- [the handle; true; the tokens; the value with its token]
    move ! (3 ∷ []) $ fsplit ! $ box_in E ! left b' o' box.value refl refl $
    use1 𝓛 (‵ ((TheParts E dx).own_val parts (word E handle' b' o' ∷ []))) (id⊢ 𝓤 _) $ move ! (1 ∷ []) $ drop ! $
    suffices ! _ (ends_at 𝓛 (ended E dx) (stayed E dx) c y (word E handle' b' o') parts ((tt, (tt, tt)), tt) (tt, tt)) $ says ! refl $
    nothing ! $ nothing ! $ fjoin ! $ join ! $ move ! (1 ∷ 0 ∷ []) $ join ! $ done !))))))))))))))
