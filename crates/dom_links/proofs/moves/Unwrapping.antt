-- A node that is wrapped in a bare element and then unwrapped is where it was.
use Rattle.std.proofs.Common.{ℕ, ◌≡◌, ◌<◌, true, false, List, [], ◌∷◌, ◌++◌, Some, refl, sym, ap, ◌∙◌, arith, cond, inl, inr, length, get_or}
use Rattle.std.specs.Prelude.{◌==◌}
use Rattle.std.proofs.lemmas.List.{get_or_past, get_or_default, same_lists, length-map}
use Rattle.std.proofs.lemmas.Bool.{cases_Bool, cases_lt, eq-eqb, ne_eqb, eqb-true, eqb-false, or_parts}
use Rattle.dom_nodes.specs.declared.node_data.NodeData.{NodeData}
use Rattle.dom_links.specs.Lists.{is_member, IsDistinct, without, put_before}
use Rattle.dom_links.specs.Forest.{Forest, children_of, run_of, parent, siblings}
use Rattle.dom_links.specs.Moves.{InsertionPoint, end_of, before_node, children_with, run_with, detach, moved_to}
use Rattle.dom_links.specs.Sound.{IsForest}
use Rattle.dom_nodes.specs.Kinds.{is_element}
use Rattle.dom_links.specs.ListMoves.{IsBare, element_at, wrapper, wrapped, unwrapped, without_wrapper}
use Rattle.dom_links.proofs.forest.Neighbours.{around, is_member-append, without-append, without_one-none}
use Rattle.dom_links.proofs.forest.Places.{siblings_once, get_or-map_all, get_or-map_past, length-map_from}
use Rattle.dom_links.proofs.moves.Cuts.{children-detach, no_other, one_here, parent-detach, run-detach, one-stands}
use Rattle.dom_links.proofs.moves.BlockCuts.{once-detach, one_node}
use Rattle.dom_links.proofs.moves.BlockFills.{once-put, parent-put_in, parent-put_out}
use Rattle.dom_links.proofs.moves.BlockGaps.{before_none_list, before_split_list, put-before, put-end_of}
use Rattle.dom_links.proofs.moves.BlockKept.{alone-cut_list}
use Rattle.dom_links.proofs.moves.Owners.{only_one, no_child}
use Rattle.dom_links.proofs.forest.Grown.{within}
use Rattle.dom_links.proofs.forest.Depth.{step_inside}
use Rattle.dom_links.proofs.moves.BlockLists.{not_front, not_back}
use Rattle.dom_links.proofs.moves.TwoSteps.{element_named, wrapper_found}

-- what one-node moves make of each list

children_beside : (forest : Forest) (t y q : ℕ) → children_of (moved_to (y ∷ []) (before_node t) forest) q ≡ put_before t (y ∷ []) (without (y ∷ []) (children_of forest q))
children_beside forest t y q =
    let middle = detach (y ∷ []) forest in
    (elim (cases_lt q (length middle.children)) [
      | inl here ↦ get_or-map_all (children_with (before_node t) (y ∷ [])) middle.children q here
      | inr past ↦ get_or-map_past (children_with (before_node t) (y ∷ [])) middle.children q past ∙ ap (put_before t (y ∷ [])) (sym (get_or_past middle.children q [] past))
    ]) ∙ ap (put_before t (y ∷ [])) (children-detach (y ∷ []) forest q)

children_into : (forest : Forest) (t y q : ℕ) → q < length forest.children → children_of (moved_to (y ∷ []) (end_of t) forest) q ≡ cond (q == t) (without (y ∷ []) (children_of forest q) ++ y ∷ []) (without (y ∷ []) (children_of forest q))
children_into forest t y q h =
    let middle = detach (y ∷ []) forest in
    let long : length middle.children ≡ length forest.children = length-map forest.children (without (y ∷ [])) in
    get_or-map_all (children_with (end_of t) (y ∷ [])) middle.children q (omega arith) ∙ ap (λ ns. cond (q == t) (ns ++ y ∷ []) ns) (children-detach (y ∷ []) forest q)

runs_count : (forest : Forest) (gap : InsertionPoint) (y : ℕ) → length ((moved_to (y ∷ []) gap forest).runs) ≡ length forest.runs
runs_count forest gap y =
    let middle = detach (y ∷ []) forest in
    let one : length ((moved_to (y ∷ []) gap forest).runs) ≡ length middle.runs = length-map_from 0 (λ n run. run_with gap (y ∷ []) middle n) middle.runs in
    one ∙ length-map_from 0 (λ k run. cond (is_member k (y ∷ [])) (y ∷ []) (without (y ∷ []) run)) forest.runs

children_count : (forest : Forest) (gap : InsertionPoint) (y : ℕ) → length ((moved_to (y ∷ []) gap forest).children) ≡ length forest.children
children_count forest gap y =
    let middle = detach (y ∷ []) forest in
    let one : length ((moved_to (y ∷ []) gap forest).children) ≡ length middle.children = length-map_from 0 (children_with gap (y ∷ [])) middle.children in
    one ∙ length-map forest.children (without (y ∷ []))

run_put : (forest : Forest) (gap : InsertionPoint) (y n : ℕ) → n < length forest.runs → run_of (moved_to (y ∷ []) gap forest) n ≡ run_with gap (y ∷ []) (detach (y ∷ []) forest) n
run_put forest gap y n h =
    let middle = detach (y ∷ []) forest in
    let long : length middle.runs ≡ length forest.runs = length-map_from 0 (λ k run. cond (is_member k (y ∷ [])) (y ∷ []) (without (y ∷ []) run)) forest.runs in
    get_or-map_all (λ n run. run_with gap (y ∷ []) middle n) middle.runs n (omega arith)

-- a node that isn't y, beside t
run_beside : (forest : Forest) (t y n : ℕ) → n < length forest.runs → (y ≡ n → ⊥) → run_of (moved_to (y ∷ []) (before_node t) forest) n ≡ put_before t (y ∷ []) (without (y ∷ []) (run_of forest n))
run_beside forest t y n h ne =
    let out : is_member n (y ∷ []) ≡ false = no_other n y ne in
    run_put forest (before_node t) y n h ∙ rw (out, run-detach (y ∷ []) forest n h, out) refl

-- y itself, beside t
run_beside_it : (forest : Forest) (t y : ℕ) → y < length forest.runs → t < length forest.runs → (y ≡ t → ⊥) → run_of (moved_to (y ∷ []) (before_node t) forest) y ≡ put_before t (y ∷ []) (without (y ∷ []) (run_of forest t))
run_beside_it forest t y h ht ne =
    let out : is_member t (y ∷ []) ≡ false = no_other t y ne in
    let here : is_member y (y ∷ []) ≡ true = one_here y in
    run_put forest (before_node t) y y h ∙ rw (here, run-detach (y ∷ []) forest t ht, out) refl

run_into : (forest : Forest) (t y n : ℕ) → n < length forest.runs → (y ≡ n → ⊥) → run_of (moved_to (y ∷ []) (end_of t) forest) n ≡ without (y ∷ []) (run_of forest n)
run_into forest t y n h ne =
    let out : is_member n (y ∷ []) ≡ false = no_other n y ne in
    run_put forest (end_of t) y n h ∙ rw (out, run-detach (y ∷ []) forest n h, out) refl

-- there and back

without_second : (front back : List ℕ) (y z : ℕ) → (y ≡ z → ⊥) → is_member y front ≡ false → is_member y back ≡ false → without (y ∷ []) (front ++ z ∷ y ∷ back) ≡ front ++ z ∷ back
without_second front back y z ne f b =
    let other : (y == z) ≡ false = ne_eqb y z ne in
    let same : (y == y) ≡ true = eq-eqb y y refl in
    without-append (y ∷ []) front (z ∷ y ∷ back) ∙ rw (without_one-none front y f, other, same, without_one-none back y b) refl

absent : (front back : List ℕ) (y z : ℕ) → (y ≡ z → ⊥) → is_member y front ≡ false → is_member y back ≡ false → is_member y (front ++ z ∷ back) ≡ false
absent front back y z ne f b =
    let other : (z == y) ≡ false = ne_eqb z y (λ e. ne (sym e)) in
    is_member-append front (z ∷ back) y ∙ rw (f, other, b) refl

-- the steps of wrapping x in w and unwrapping it, on a list without w
there_and_back : (x w : ℕ) (ns : List ℕ) → (x ≡ w → ⊥) → IsDistinct ns → is_member w ns ≡ false →
    without (w ∷ []) (put_before w (x ∷ []) (without (x ∷ []) (without (x ∷ []) (put_before x (w ∷ []) (without (w ∷ []) ns))))) ≡ ns
there_and_back x w ns ne once out = elim (cases_Bool (is_member x ns)) [
  | inr f ↦ rw (without_one-none ns w out, before_none_list ns x (w ∷ []) f, without_one-none ns x f, without_one-none ns x f, before_none_list ns w (x ∷ []) out, without_one-none ns w out) refl
  | inl t ↦ (let parts = around x ns once t in
      let front = parts.front in
      let back = parts.back in
      let out' : is_member w (front ++ x ∷ back) ≡ false = ap (is_member w) (sym parts.is) ∙ out in
      let w_front : is_member w front ≡ false = not_front front (x ∷ back) w out' in
      let w_rest : is_member w (x ∷ back) ≡ false = not_back front (x ∷ back) w out' in
      let w_back : is_member w back ≡ false = (or_parts (x == w) (is_member w back) w_rest).1 in
      let there : put_before x (w ∷ []) (front ++ x ∷ back) ≡ front ++ w ∷ x ∷ back = before_split_list front back x (w ∷ []) parts.not_front in
      let gone : without (x ∷ []) (front ++ w ∷ x ∷ back) ≡ front ++ w ∷ back = without_second front back x w ne parts.not_front parts.not_back in
      let still : without (x ∷ []) (front ++ w ∷ back) ≡ front ++ w ∷ back = without_one-none (front ++ w ∷ back) x (absent front back x w ne parts.not_front parts.not_back) in
      let again : put_before w (x ∷ []) (front ++ w ∷ back) ≡ front ++ x ∷ w ∷ back = before_split_list front back w (x ∷ []) w_front in
      let out_again : without (w ∷ []) (front ++ x ∷ w ∷ back) ≡ front ++ x ∷ back = without_second front back w x (λ e. ne (sym e)) w_front w_back in
      ap (λ ms. without (w ∷ []) (put_before w (x ∷ []) (without (x ∷ []) (without (x ∷ []) (put_before x (w ∷ []) ms))))) (without_one-none ns w out ∙ parts.is)
      ∙ ap (λ ms. without (w ∷ []) (put_before w (x ∷ []) (without (x ∷ []) (without (x ∷ []) ms)))) there
      ∙ ap (λ ms. without (w ∷ []) (put_before w (x ∷ []) (without (x ∷ []) ms))) gone
      ∙ ap (λ ms. without (w ∷ []) (put_before w (x ∷ []) ms)) still
      ∙ ap (without (w ∷ [])) again ∙ out_again ∙ sym parts.is)
]

-- the same, on a list without both
both_absent : (x w : ℕ) (ns : List ℕ) → is_member x ns ≡ false → is_member w ns ≡ false →
    without (w ∷ []) (put_before w (x ∷ []) (without (x ∷ []) (without (x ∷ []) (put_before x (w ∷ []) (without (w ∷ []) ns))))) ≡ ns
both_absent x w ns f out = rw (without_one-none ns w out, before_none_list ns x (w ∷ []) f, without_one-none ns x f, without_one-none ns x f, before_none_list ns w (x ∷ []) out, without_one-none ns w out) refl

same_forest : (one two : Forest) → one.content ≡ two.content → one.children ≡ two.children → one.runs ≡ two.runs → one ≡ two
same_forest one two e f g =
    let of : List NodeData → List (List ℕ) → List (List ℕ) → Forest = λ contents children runs. record { content = contents; children = children; runs = runs } in
    ap (λ contents. of contents one.children one.runs) e ∙ ap (λ children. of two.content children one.runs) f ∙ ap (λ runs. of two.content two.children runs) g

by_place : (lists others : List (List ℕ)) → length lists ≡ length others → ((n : ℕ) → n < length others → get_or lists n [] ≡ get_or others n []) → lists ≡ others
by_place lists others long each = same_lists lists others long (λ k d h. get_or_default lists k d [] h ∙ each k (omega (arith, long)) ∙ get_or_default others k [] d (omega (arith, long)))

-- what is known of x, its parent p and the bare element w
record Bare (forest : Forest) (x p w : ℕ) : Type 0 where
  good : IsForest forest
  above : parent forest x ≡ Some p
  element : element_at forest p ≡ true
  bare : IsBare forest w
  x_known : x < length forest.content
  w_known : w < length forest.content
  differ : x ≡ w → ⊥

known_bare : (forest : Forest) (x p w : ℕ) → IsForest forest → parent forest x ≡ Some p → element_at forest p ≡ true → IsBare forest w → Bare forest x p w
known_bare forest x p w good above element bare = record {
  good = good;
  above = above;
  element = element;
  bare = bare;
  x_known = step_inside forest p x good (inl above);
  w_known = within is_element forest.content w bare.element;
  differ = λ e. (let two = sym above ∙ ap (parent forest) e ∙ bare.no_parent in cc);
}

-- the parents once x is wrapped
record Above (forest : Forest) (x p w : ℕ) : Type 0 where
  of_x : parent (wrapped x w forest) x ≡ Some w
  of_w : parent (wrapped x w forest) w ≡ Some p

parents_wrapped : (forest : Forest) (x p w : ℕ) → Bare forest x p w → Above forest x p w
parents_wrapped forest x p w b =
    let once = b.good.once in
    let middle = detach (w ∷ []) forest in
    let beside = moved_to (w ∷ []) (before_node x) forest in
    let once' = once-detach forest w once b.w_known in
    let parts = around x (siblings middle x) (siblings_once middle x once') (once'.placed x b.x_known) in
    let out = no_other x w (λ e. b.differ (sym e)) in
    let fill = put-before middle (w ∷ []) x once' (alone-cut_list forest (w ∷ []) once (one_node forest w b.w_known)) out b.x_known parts in
    let beside_w : parent beside w ≡ Some p = parent-put_in middle beside (w ∷ []) (parent middle x) parts.front (x ∷ parts.back) w once' fill (one_here w) ∙ parent-detach (w ∷ []) forest x ∙ rw out b.above in
    let once'' = once-put middle beside (w ∷ []) (parent middle x) parts.front (x ∷ parts.back) once' fill in
    let between = detach (x ∷ []) beside in
    let inside = wrapped x w forest in
    let cut_once = once-detach beside x once'' b.x_known in
    let fill' = put-end_of between (x ∷ []) w cut_once (alone-cut_list beside (x ∷ []) once'' (one_node beside x b.x_known)) b.w_known in
    let out' = no_other w x b.differ in
    record {
      of_x = parent-put_in between inside (x ∷ []) (Some w) (children_of between w) [] x cut_once fill' (one_here x);
      of_w = parent-put_out between inside (x ∷ []) (Some w) (children_of between w) [] w fill' out' ∙ parent-detach (x ∷ []) beside w ∙ rw out' beside_w;
    }

wrapper_wrapped : (forest : Forest) (x p w : ℕ) → Bare forest x p w → wrapper (wrapped x w forest) x ≡ Some w
wrapper_wrapped forest x p w b =
    let up = parents_wrapped forest x p w b in
    let inside = wrapped x w forest in
    wrapper_found inside x w p (element_named inside x w up.of_x b.bare.element) (element_named inside w p up.of_w b.element)

-- the children of w are x alone
children_wrapped : (forest : Forest) (x p w : ℕ) → Bare forest x p w → children_of (wrapped x w forest) w ≡ x ∷ []
children_wrapped forest x p w b =
    let beside = moved_to (w ∷ []) (before_node x) forest in
    let none : children_of beside w ≡ [] = children_beside forest x w w ∙ ap (λ ns. put_before x (w ∷ []) (without (w ∷ []) ns)) b.bare.no_children in
    let here : (w == w) ≡ true = eq-eqb w w refl in
    children_into beside w x w (omega (arith, children_count forest (before_node x) w, b.good.once.children_each, b.w_known)) ∙ rw (here, none) refl

-- the forest after both
back : (x w : ℕ) (forest : Forest) → Forest
back x w forest = detach (w ∷ []) (moved_to (x ∷ []) (before_node w) (wrapped x w forest))

unwrapped_is : (forest : Forest) (x p w : ℕ) → Bare forest x p w → unwrapped x (wrapped x w forest) ≡ back x w forest
unfolding back
unwrapped_is forest x p w b =
    ap (λ o. without_wrapper o (wrapped x w forest)) (wrapper_wrapped forest x p w b)
    ∙ ap (λ ns. detach (w ∷ []) (moved_to ns (before_node w) (wrapped x w forest))) (children_wrapped forest x p w b)

children_back : (forest : Forest) (x p w q : ℕ) → Bare forest x p w → q < length forest.children → children_of (back x w forest) q ≡ children_of forest q
unfolding back
children_back forest x p w q b h =
    let beside = moved_to (w ∷ []) (before_node x) forest in
    let inside = wrapped x w forest in
    let all : children_of (back x w forest) q ≡ without (w ∷ []) (put_before w (x ∷ []) (without (x ∷ []) (children_of inside q))) =
    children-detach (w ∷ []) (moved_to (x ∷ []) (before_node w) inside) q ∙ ap (without (w ∷ [])) (children_beside inside w x q) in
    let into = children_into beside w x q (omega (arith, children_count forest (before_node x) w)) in
    let was = children_beside forest x w q in
    elim (cases_Bool (q == w)) [
      | inl t ↦ (let is : q ≡ w = eqb-true q w t in
          let empty : children_of forest q ≡ [] = ap (children_of forest) is ∙ b.bare.no_children in
          let here : (x == x) ≡ true = eq-eqb x x refl in
          let now : children_of inside q ≡ x ∷ [] = into ∙ rw (t, was, empty) refl in
          all ∙ ap (λ ns. without (w ∷ []) (put_before w (x ∷ []) (without (x ∷ []) ns))) now ∙ rw (here, empty) refl)
      | inr f ↦ (let now : children_of inside q ≡ without (x ∷ []) (put_before x (w ∷ []) (without (w ∷ []) (children_of forest q))) = into ∙ rw (f, was) refl in
          all ∙ ap (λ ns. without (w ∷ []) (put_before w (x ∷ []) (without (x ∷ []) ns))) now
          ∙ there_and_back x w (children_of forest q) b.differ (b.good.once.children_once q) (no_child forest w q b.good.once b.bare.no_parent))
    ]

run_back : (forest : Forest) (x p w n : ℕ) → Bare forest x p w → n < length forest.runs → run_of (back x w forest) n ≡ run_of forest n
unfolding back
run_back forest x p w n b h =
    let once = b.good.once in
    let beside = moved_to (w ∷ []) (before_node x) forest in
    let inside = wrapped x w forest in
    let after' = moved_to (x ∷ []) (before_node w) inside in
    let beside_long = runs_count forest (before_node x) w in
    let inside_long = runs_count beside (end_of w) x in
    let after_long = runs_count inside (before_node w) x in
    let x_here : x < length forest.runs = omega (arith, once.runs_each, b.x_known) in
    let w_here : w < length forest.runs = omega (arith, once.runs_each, b.w_known) in
    let all : run_of (back x w forest) n ≡ cond (is_member n (w ∷ [])) (w ∷ []) (without (w ∷ []) (run_of after' n)) = run-detach (w ∷ []) after' n (omega (arith, beside_long, inside_long, after_long)) in
    let apart : x ≡ w → ⊥ = b.differ in
    elim (cases_Bool (w == n)) [
      | inl t ↦ (let is : w ≡ n = eqb-true w n t in
          all ∙ rw (one-stands w n, t) (sym b.bare.alone ∙ ap (run_of forest) is))
      | inr f ↦ (let w_other : w ≡ n → ⊥ = eqb-false w n f in
          let rest : run_of (back x w forest) n ≡ without (w ∷ []) (run_of after' n) = all ∙ rw (one-stands w n, f) refl in
          elim (cases_Bool (x == n)) [
            | inl t ↦ (let is : x ≡ n = eqb-true x n t in
                let none : run_of forest x ≡ [] = once.no_run p x b.above in
                let in_beside : run_of beside w ≡ [] = run_beside_it forest x w w_here x_here (λ e. apart (sym e)) ∙ ap (λ ns. put_before x (w ∷ []) (without (w ∷ []) ns)) none in
                let in_inside : run_of inside w ≡ [] = run_into beside w x w (omega (arith, beside_long)) apart ∙ ap (without (x ∷ [])) in_beside in
                let in_after : run_of after' x ≡ [] = run_beside_it inside w x (omega (arith, beside_long, inside_long)) (omega (arith, beside_long, inside_long)) apart ∙ ap (λ ns. put_before w (x ∷ []) (without (x ∷ []) ns)) in_inside in
                rest ∙ ap (λ (k : ℕ). without (w ∷ []) (run_of after' k)) (sym is) ∙ ap (without (w ∷ [])) in_after ∙ sym none ∙ ap (run_of forest) is)
            | inr g ↦ (let x_other : x ≡ n → ⊥ = eqb-false x n g in
                let no_x : is_member x (run_of forest n) ≡ false = elim (cases_Bool (is_member x (run_of forest n))) [
                  | inr off ↦ off
                  | inl s ↦ (let two = sym (once.in_run n x s).1 ∙ b.above in cc)
                ] in
                let no_w : is_member w (run_of forest n) ≡ false = elim (cases_Bool (is_member w (run_of forest n))) [
                  | inr off ↦ off
                  | inl s ↦ (let its : run_of forest n ≡ w ∷ [] = sym (once.in_run n w s).2 ∙ b.bare.alone in
                      absurd (w_other (only_one forest w n once (omega (arith, once.runs_each)) its)))
                ] in
                rest ∙ ap (without (w ∷ [])) (run_beside inside w x n (omega (arith, beside_long, inside_long)) x_other
                ∙ ap (λ ns. put_before w (x ∷ []) (without (x ∷ []) ns)) (run_into beside w x n (omega (arith, beside_long)) x_other
                ∙ ap (without (x ∷ [])) (run_beside forest x w n h w_other)))
                ∙ both_absent x w (run_of forest n) no_x no_w)
          ])
    ]

children_count_back : (x w : ℕ) (forest : Forest) → length ((back x w forest).children) ≡ length forest.children
unfolding back
children_count_back x w forest =
    let inside = wrapped x w forest in
    let after' = moved_to (x ∷ []) (before_node w) inside in
    length-map after'.children (without (w ∷ [])) ∙ children_count inside (before_node w) x ∙ children_count (moved_to (w ∷ []) (before_node x) forest) (end_of w) x ∙ children_count forest (before_node x) w

runs_count_back : (x w : ℕ) (forest : Forest) → length ((back x w forest).runs) ≡ length forest.runs
unfolding back
runs_count_back x w forest =
    let inside = wrapped x w forest in
    let after' = moved_to (x ∷ []) (before_node w) inside in
    length-map_from 0 (λ k run. cond (is_member k (w ∷ [])) (w ∷ []) (without (w ∷ []) run)) after'.runs ∙ runs_count inside (before_node w) x ∙ runs_count (moved_to (w ∷ []) (before_node x) forest) (end_of w) x ∙ runs_count forest (before_node x) w

content_back : (x w : ℕ) (forest : Forest) → (back x w forest).content ≡ forest.content
unfolding back
content_back x w forest = refl

pub unwrapped-wrapped : (forest : Forest) (x p w : ℕ) → IsForest forest → parent forest x ≡ Some p → element_at forest p ≡ true → IsBare forest w → unwrapped x (wrapped x w forest) ≡ forest
unwrapped-wrapped forest x p w good above element bare =
    let b = known_bare forest x p w good above element bare in
    let it = back x w forest in
    unwrapped_is forest x p w b ∙ same_forest it forest (content_back x w forest)
    (by_place it.children forest.children (children_count_back x w forest) (λ q h. children_back forest x p w q b h))
    (by_place it.runs forest.runs (runs_count_back x w forest) (λ n h. run_back forest x p w n b h))
