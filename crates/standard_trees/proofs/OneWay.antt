-- Parsing has one result at most: more steps and a greater depth change nothing.
use Rattle.std.specs.Prelude.{◌≡◌, ℕ, zero, suc, Bool, true, false, Option, None, Some, option_map, refl}
use Rattle.std.proofs.lemmas.Option.{same_Some}
use mathlib.Core.Path.{◌∙◌, sym, ap}
use Rattle.standard_tokens.specs.Machine.{Step}
use Rattle.standard_trees.specs.Building.{Building, run, tree_steps}
use Rattle.standard_trees.specs.Laws.{DocumentsAreParsedOneWay, FragmentsAreParsedOneWay, FunctionsParse}
use Rattle.standard_trees.specs.Parsing.{Parser, after_step, behind, document_of, fragment_parser, nodes_of, page_parser, parsed, step_of}
use Rattle.standard_trees.specs.Parsing.{depth_for, steps_for}
use Rattle.standard_trees.proofs.MoreDepth.{BelowIn, more, run_left, run_right, steps_below, then_below}

behind_below : (f g : Parser → Option Building) → ((p : Parser) (c : Building) → f p ≡ Some c → g p ≡ Some c) → (s : Step) (b c : Building) →
    behind f s b ≡ Some c → behind g s b ≡ Some c
behind_below f g below s b c h = by_stop s.stopped h
  where
    by_stop : (x : Bool) → elim x [ true ↦ Some b | false ↦ f (after_step s b) ] ≡ Some c → elim x [ true ↦ Some b | false ↦ g (after_step s b) ] ≡ Some c
    by_stop true h = h
    by_stop false h = below (after_step s b) c h

-- a step more on both sides
step_more : (d e n m : ℕ) → BelowIn (run d) (run e) → ((p : Parser) (c : Building) → parsed d n p ≡ Some c → parsed e m p ≡ Some c) →
    (p : Parser) (c : Building) → parsed d (suc n) p ≡ Some c → parsed e (suc m) p ≡ Some c
unfolding parsed
step_more d e n m deeper below p c h =
    then_below (behind (parsed d n) (step_of p)) (behind (parsed e m) (step_of p)) (λ x y k. behind_below (parsed d n) (parsed e m) below (step_of p) x y k)
    (tree_steps d (record p.building { tokenizer = None }) (step_of p).tokens) (tree_steps e (record p.building { tokenizer = None }) (step_of p).tokens)
    (λ x k. steps_below d e deeper (step_of p).tokens (record p.building { tokenizer = None }) x k) c h

no_steps : (d : ℕ) (p : Parser) (c : Building) → parsed d zero p ≡ Some c → ⊥
unfolding parsed
no_steps d p c h = cc

left : (d e n m : ℕ) → BelowIn (run d) (run e) → (p : Parser) (c : Building) → parsed d n p ≡ Some c → parsed e (more n m) p ≡ Some c
left d e zero m deeper p c h = absurd (no_steps d p c h)
left d e (suc n) m deeper p c h = step_more d e n (more n m) deeper (left d e n m deeper) p c h

pub deeper_only : (d e n : ℕ) → BelowIn (run d) (run e) → (p : Parser) (c : Building) → parsed d n p ≡ Some c → parsed e n p ≡ Some c
deeper_only d e zero deeper p c h = absurd (no_steps d p c h)
deeper_only d e (suc n) deeper p c h = step_more d e n n deeper (deeper_only d e n deeper) p c h

next : (d n : ℕ) (p : Parser) (c : Building) → parsed d n p ≡ Some c → parsed d (suc n) p ≡ Some c
next d zero p c h = absurd (no_steps d p c h)
next d (suc n) p c h = step_more d d n (suc n) (λ mode b x k. k) (next d n) p c h

right : (d n m : ℕ) (p : Parser) (c : Building) → parsed d m p ≡ Some c → parsed d (more n m) p ≡ Some c
right d zero m p c h = h
right d (suc n) m p c h = next d (more n m) p c (right d n m p c h)

one_end : (d e n m : ℕ) (p : Parser) (b c : Building) → parsed d n p ≡ Some b → parsed e m p ≡ Some c → b ≡ c
one_end d e n m p b c h k =
    same_Some b c (sym (left d (more d e) n m (run_left d e) p b h) ∙ right (more d e) n m p c (deeper_only e (more d e) m (run_right d e) p c k))

-- what is made of the one end
one_result : {A : Type 0} → (of : Building → A) → (d e n m : ℕ) (p : Parser) (t u : A) → option_map of (parsed d n p) ≡ Some t →
    option_map of (parsed e m p) ≡ Some u → t ≡ u
one_result {A} of d e n m p t u h k = by_ends (parsed d n p) (parsed e m p) refl refl h k
  where
    by_ends : (x y : Option Building) → parsed d n p ≡ x → parsed e m p ≡ y → option_map of x ≡ Some t → option_map of y ≡ Some u → t ≡ u
    by_ends None y f g h k = cc
    by_ends (Some b) None f g h k = cc
    by_ends (Some b) (Some c) f g h k = sym (same_Some (of b) t h) ∙ ap of (one_end d e n m p b c f g) ∙ same_Some (of c) u k

pub documents_one_way : DocumentsAreParsedOneWay
documents_one_way scripting text one other h k =
    one_result document_of h.0 k.0 h.1 k.1 (page_parser scripting text) one other h.2 k.2

pub fragments_one_way : FragmentsAreParsedOneWay
fragments_one_way scripting around text one other h k =
    one_result nodes_of h.0 k.0 h.1 k.1 (fragment_parser scripting around text) one other h.2 k.2

pub functions_parse : FunctionsParse
functions_parse =
    (λ scripting text document h. (depth_for text, steps_for text, h), λ scripting around text nodes h. (depth_for text, steps_for text, h))
