-- The box is made anew from the two fields, by `Box::from_raw`.
use Rattle.dom_query_c.proofs.Walking.{◌≡◌, refl, sym, ap, subst, List, [], ◌∷◌, ◌++◌, T, Val, vptr, has_ty, WT, ent, id⊢, ftrue, fsep, flft, fact, ◌⊑◌, tables, WpFn, Item, at_ret, ‵, raw, ◌⊛◌, some, later, ◌$◌, ◌∵◌, !, qed, by, move, drop, use1, join, split, split3, pick, rewrite, fsplit, fjoin, feq_i, suffices, await, done, whole, sub, stop, fld, no_more, and_then, of_opd, returns, enter, first, blocks, exec, alloc_all, pass_all, free_all, look_at, get, get_in, sets, lands_last, env, no, plain, heard, nothing, only, says, Stays, stay_dropped, walk_of, ends_at, proved_at, D, B, word, box_typed, box_out, box_in}
use types.Kit.{⋆}
use mir.MapTy.{inst_fn}
use mir.Syntax.{Fn}
use denote.RattleType.{RattleType}
use denote.RawPtr.{block_ptr}
use denote.Triple.Call.{calls_at_last}
use denote.Triple.Clauses.{Ended}
use denote.Triple.Spec.{triple_of}
use denote.Triple.Table.{framed}
use Rattle.std.proofs.VecSteps.Shapes.{after}
use Rattle.std.proofs.alloc.Calls.{token, Goes-blank}
use Rattle.std.specs.Box.Ownership.{box_owns}
use Rattle.std_alloc.proofs.BoxSteps.Form.{Bx, R, P, args, box_ty}
use Rattle.std_alloc.specs.contracts.boxed.Box.from_raw as from_raw
use Rattle.std_alloc.proofs.boxed.Box.from_raw.Met.{met}
use Rattle.dom_query_c.specs.contracts.parts.Parts as Parts
use Rattle.dom_query_c.specs.contracts.parts.Parts.into_box as f
use Rattle.dom_query_c.proofs.parts.Parts.into_box.Statement.{statement}
use Rattle.dom_query_c.proofs.parts.Parts.into_box.Code as code

module _ (E : Bx) where
  abbrev fn : Fn
  fn = inst_fn (args E) code.function

  abbrev ended : Ended
  ended = f.ended E.row E.al.row E.al.g E.al.d E.al.drops

  abbrev TheParts : RattleType
  TheParts = Parts.the_row (R E) (P E) E.al.g

  abbrev stayed : Stays ended.signature.params ended.kept
  stayed = (stay_dropped (plain (λ _. TheParts)) no, tt)

pub into_box_spec : {M : Type 1} → statement M
into_box_spec 𝓤 𝓛 𝓜 𝓡 wired X Z LX LZ g d dd allocator md =
    let E : Bx = record { row = X; laws = LX; al = record { row = Z; laws = LZ; g = g; d = d; drops = dd } } in
    let c = f.clauses X Z g d dd 𝓛 𝓜.mem 𝓡.returns in let W = walk_of 𝓛 (ended E) (stayed E) c in let 𝓣 = tables 𝓤 𝓛.H 𝓜 𝓡 𝓡.env in
    let Made = triple_of 𝓛 (from_raw.signature X Z g d dd) (from_raw.spec X Z g d dd 𝓛 𝓜.mem 𝓡.returns) in
    proved_at 𝓛 (ended E) (stayed E) c 𝓜 𝓡 (Goes-blank 𝓛 2 (plain (λ _. TheParts E)) no (λ κs x w. tt), tt)
    (f.Key.name (args E)) (fn E) (code.unfolded 𝓤 𝓛.H 𝓜 𝓡 wired (X, (Z, tt)) d dd) (λ y are.
    let κs = y.0.0 in let qs = y.0.1 in let alloc = y.0.3.0.alloc in let x = y.0.3.0.value in
    let box : D E = record { ptr = y.0.3.0.ptr; alloc = alloc; value = x } in
    let tokens : Item 𝓤 = ‵ (flft κs.0 qs.0) ⊛ ‵ (flft κs.1.0 qs.1.0) ⊛ ‵ ftrue in
    let live_x : Item 𝓤 = raw (fact 𝓤 (κs.0 ⊑ X.lives)) in let live_z : Item 𝓤 = raw (fact 𝓤 (κs.1.0 ⊑ Z.lives)) in
    qed 𝓛 ((tokens ⊛ ‵ (fsep ((B E).own_val box y.0.4.0) ftrue)) ∷ (live_x ⊛ live_z ⊛ ‵ ftrue) ∷ []) ∵ split ! $ move ! (1 ∷ []) $ fsplit ! $
    box_out E ! box y.0.4.0 (λ b o handle at is fits. fjoin ! $
    let w = word E handle b o in
    let z : Made.Ghost = ((κs, qs, tt, (alloc, (block_ptr b o, tt)), (handle ∷ [], (vptr b o ∷ [], tt))), x) in
    let Γ : List (Item 𝓤) = ‵ (box_owns (token E.al alloc) (R E) (block_ptr b o) x) ∷ ‵ ((P E).own_val alloc (handle ∷ [])) ∷ ‵ ftrue ∷ tokens ∷ (live_x ⊛ live_z ⊛ ‵ ftrue) ∷ [] in
    by ! (subst (λ (vs : List Val). ent 𝓤 (⋆ 𝓛 Γ) (WpFn 𝓤 𝓛.H 𝓣.C 𝓣.Λ (fn E) (vs ++ []) (W.post y))) (sym is)
    (qed 𝓛 Γ ∵ enter ! _ _ _ (w ∷ []) _ $ alloc_all ! (λ l. pass_all ! refl (box_typed E handle b o fits, tt) $
    sets ! (of_opd ! (get_in ! (fld ! refl (stop !)) (sub ! 0 refl (whole !)))) refl (tt, tt) $
    sets ! (of_opd ! (get_in ! (fld ! refl (stop !)) (sub ! 1 refl (whole !)))) refl fits $
    first ! $ blocks ! $ sets ! (of_opd ! (get ! refl)) refl fits $
    -- what `from_raw` takes: the tokens with its two arguments, then the bounds with what the pointer owns
    move ! (4 ∷ []) $ split3 ! $ move ! (2 ∷ []) $ drop ! $ move ! (1 ∷ 2 ∷ []) $ join ! $ move ! (1 ∷ 0 ∷ []) $ join ! $
    move ! (2 ∷ []) $ feq_i ! _ (vptr b o ∷ []) (vptr b o ∷ []) refl $ fjoin ! $ move ! (2 ∷ 0 ∷ []) $ fjoin ! $ move ! (2 ∷ 0 ∷ []) $ join ! $ join ! $
    use1 𝓛 (raw (Made.pre z)) (id⊢ 𝓤 _) $
    calls_at_last ! (framed 𝓤 𝓛.H 𝓜 𝓣) Made (met 𝓤 𝓛 𝓜 𝓡 (code.calls-std_alloc::boxed::Box::from_raw 𝓡.env wired) X Z LX LZ g d dd allocator md) z
    (and_then ! (get ! refl) (and_then ! (get ! refl) (no_more !))) (λ v.
    use1 𝓛 (later (some (λ (made : D E). (tokens ⊛ ‵ ((B E).own_val made (v ∷ []))) ⊛ some (λ (_ : Unit {0} × (Unit {0} × Unit {0})). ‵ (fsep ftrue (fsep ftrue ftrue)) ⊛ (raw (fact 𝓤 (made.value ≡ x)) ⊛ raw (fact 𝓤 (made.alloc ≡ alloc))))))) (id⊢ 𝓤 _) $
    await ! tt $ pick ! (λ made. split ! $ move ! (1 ∷ []) $ pick ! (λ _. split3 ! $ drop ! $ heard ! (made.value ≡ x) (λ same. drop ! $ split ! $ move ! (1 ∷ []) $
    box_out E ! made (v ∷ []) (λ b' o' handle' at' is' fits'. box_in E ! made b' o' made.value at' refl $
    rewrite ! 0 (λ (vs : List Val). ‵ ((B E).own_val made vs)) (sym is') refl $
    let typed : T (has_ty (box_ty E) v) × WT v = subst (λ (u : Val). T (has_ty (box_ty E) u) × WT u) (sym (ap only is')) (box_typed E handle' b' o' fits') in
    lands_last ! refl typed $ exec ! 𝓣.C 𝓣.Λ (env (fn E).locals l) (after 3 (fn E).body) (at_ret (env (fn E).locals l) (W.post y)) $
    sets ! (of_opd ! (get ! refl)) refl typed $ returns ! (look_at ! 0 refl) $ free_all ! refl $
    suffices ! _ (ends_at 𝓛 (ended E) (stayed E) c y v made ((tt, (tt, tt)), tt) (tt, tt)) $ says ! same $
    nothing ! $ nothing ! $ fjoin ! $ join ! $ move ! (1 ∷ 0 ∷ []) $ join ! $ done !))))))))))
