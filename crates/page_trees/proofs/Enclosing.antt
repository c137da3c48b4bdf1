-- What all that stands at the top is put into.
use Rattle.std.proofs.Common.{ℕ, ◌≡◌, ◌<◌, ◌+◌, true, List, [], ◌∷◌, ◌++◌, Some, refl, sym, ap, ◌∙◌, arith, cond, length, Result, Ok, Err, OnOk}
use Rattle.std.specs.Prelude.{◌==◌, codes, filter, not, slice_get}
use Rattle.std.proofs.lemmas.List.{get_or_past, length-map, length_push}
use Rattle.std.proofs.lemmas.Bool.{eq-eqb, ne_eqb}
use Rattle.dom_nodes.specs.declared.node_data.NodeData.{NodeData}
use Rattle.dom_links.specs.Lists.{without}
use Rattle.dom_links.specs.Forest.{Forest, children_of}
use Rattle.dom_links.specs.Growth.{with_node}
use Rattle.dom_links.specs.ListMoves.{element_at, reparented}
use Rattle.dom_links.specs.Sound.{IsForest}
use Rattle.dom_nodes.specs.Kinds.{is_comment}
use Rattle.dom_trees.specs.NewNodes.{bare_element, html_name}
use Rattle.dom_trees.specs.Views.{node_is}
use Rattle.page_trees.specs.Shape.{IsPage, besides_comments, elements_of, is_html}
use Rattle.dom_links.specs.declared.gap.InsertionPoint.{InsertionPoint}
use Rattle.dom_links.specs.declared.gap.InsertionPoint.TheVariants.{EndOf}
use Rattle.dom_links.specs.Moves.{children_with, detach, moved_to}
use Rattle.dom_links.proofs.forest.Grown.{children-more, slice_get-before, slice_get-there}
use Rattle.dom_links.proofs.forest.Places.{get_or-map_all, length-map_from}
use Rattle.dom_links.proofs.moves.BlockLists.{without_all}
use Rattle.dom_links.proofs.moves.Cuts.{children-detach}

pub children_into : (forest : Forest) (t p : ℕ) (moved : List ℕ) → p < length forest.children →
    children_of (moved_to moved (EndOf t) forest) p ≡ cond (p == t) (without moved (children_of forest p) ++ moved) (without moved (children_of forest p))
children_into forest t p moved h =
    let middle = detach moved forest in
    let long : length middle.children ≡ length forest.children = length-map forest.children (without moved) in
    get_or-map_all (children_with (EndOf t) moved) middle.children p (omega arith) ∙ ap (λ ns. cond (p == t) (ns ++ moved) ns) (children-detach moved forest p)

pub children_count : (forest : Forest) (gap : InsertionPoint) (moved : List ℕ) → length ((moved_to moved gap forest).children) ≡ length forest.children
children_count forest gap moved =
    let middle = detach moved forest in
    let one : length ((moved_to moved gap forest).children) ≡ length middle.children = length-map_from 0 (children_with gap moved) middle.children in
    one ∙ length-map forest.children (without moved)

-- one node that isn't the other, detached
kept : (m n : ℕ) → (m ≡ n → ⊥) → without (m ∷ []) (n ∷ []) ≡ n ∷ []
kept m n h = rw (ne_eqb m n h) refl

-- The forest in which the nodes at the top stand in the body b of the page h, whose head is d
abbrev pub enclosed : NodeData → NodeData → NodeData → ℕ → Forest → Forest
enclosed body html head b forest =
    let alone = with_node body forest in
    let filled = moved_to (children_of alone 0) (EndOf b) alone in
    let made = with_node head (with_node html filled) in
    let top = moved_to ((b + 1) ∷ []) (EndOf 0) made in
    moved_to (b ∷ []) (EndOf (b + 1)) (moved_to ((b + 2) ∷ []) (EndOf (b + 1)) top)

pub record IsEnclosed (body html head : NodeData) (b : ℕ) (after : Forest) : Type 0 where
  pub top : children_of after 0 ≡ (b + 1) ∷ []
  pub parts : children_of after (b + 1) ≡ (b + 2) ∷ b ∷ []
  pub body_is : slice_get after.content b ≡ Some body
  pub html_is : slice_get after.content (b + 1) ≡ Some html
  pub head_is : slice_get after.content (b + 2) ≡ Some head

pub enclosed-is : (body html head : NodeData) (b : ℕ) (forest : Forest) → b ≡ length forest.content → length forest.children ≡ length forest.content → 0 < b →
    IsEnclosed body html head b (enclosed body html head b forest)
enclosed-is body html head b forest is each some =
    let alone = with_node body forest in
    let cs = children_of alone 0 in
    let filled = moved_to cs (EndOf b) alone in
    let with_html = with_node html filled in
    let made = with_node head with_html in
    let top = moved_to ((b + 1) ∷ []) (EndOf 0) made in
    let second = moved_to ((b + 2) ∷ []) (EndOf (b + 1)) top in
    let l1 : length alone.children ≡ b + 1 = length_push forest.children [] ∙ ap (λ n. n + 1) (each ∙ sym is) in
    let l2 : length filled.children ≡ b + 1 = children_count alone (EndOf b) cs ∙ l1 in
    let p3 : length with_html.children ≡ length filled.children + 1 = length_push filled.children [] in
    let p4 : length made.children ≡ length with_html.children + 1 = length_push with_html.children [] in
    let l4 : length made.children ≡ b + 3 = omega (arith, p3, p4, l2) in
    let l5 : length top.children ≡ b + 3 = children_count made (EndOf 0) ((b + 1) ∷ []) ∙ l4 in
    let l6 : length second.children ≡ b + 3 = children_count top (EndOf (b + 1)) ((b + 2) ∷ []) ∙ l5 in
    let more : (p : ℕ) → children_of made p ≡ children_of filled p = λ p. children-more head with_html p ∙ children-more html filled p in
    let none0 : children_of filled 0 ≡ [] = children_into alone b 0 cs (omega (arith, l1)) ∙ rw (ne_eqb 0 b (λ e. omega (arith, some, e))) (without_all cs cs (λ n h. h)) in
    let none1 : children_of filled (b + 1) ≡ [] = get_or_past filled.children (b + 1) [] (omega (arith, l2)) in
    let t0 : children_of top 0 ≡ (b + 1) ∷ [] = children_into made 0 0 ((b + 1) ∷ []) (omega (arith, l4)) ∙ rw (more 0, none0) refl in
    let t1 : children_of top (b + 1) ≡ [] = children_into made 0 (b + 1) ((b + 1) ∷ []) (omega (arith, l4)) ∙ rw (ne_eqb (b + 1) 0 (λ e. omega (arith, e)), more (b + 1), none1) refl in
    let s0 : children_of second 0 ≡ (b + 1) ∷ [] = children_into top (b + 1) 0 ((b + 2) ∷ []) (omega (arith, l5)) ∙ rw (ne_eqb 0 (b + 1) (λ e. omega (arith, e)), t0) (kept (b + 2) (b + 1) (λ e. omega (arith, e))) in
    let s1 : children_of second (b + 1) ≡ (b + 2) ∷ [] = children_into top (b + 1) (b + 1) ((b + 2) ∷ []) (omega (arith, l5)) ∙ rw (eq-eqb (b + 1) (b + 1) refl, t1) refl in
    let c1 : length alone.content ≡ b + 1 = length_push forest.content body ∙ ap (λ n. n + 1) (sym is) in
    let p5 : length with_html.content ≡ length alone.content + 1 = length_push alone.content html in
    let c2 : length with_html.content ≡ b + 2 = omega (arith, p5, c1) in
    record {
      top = children_into second (b + 1) 0 (b ∷ []) (omega (arith, l6)) ∙ rw (ne_eqb 0 (b + 1) (λ e. omega (arith, e)), s0) (kept b (b + 1) (λ e. omega (arith, e)));
      parts = children_into second (b + 1) (b + 1) (b ∷ []) (omega (arith, l6)) ∙ rw (eq-eqb (b + 1) (b + 1) refl, s1, kept b (b + 2) (λ e. omega (arith, e))) refl;
      body_is = slice_get-before with_html.content head b (omega (arith, c2)) ∙ slice_get-before alone.content html b (omega (arith, c1)) ∙ slice_get-there forest.content body b is;
      html_is = slice_get-before with_html.content head (b + 1) (omega (arith, c2)) ∙ slice_get-there alone.content html (b + 1) (sym c1);
      head_is = slice_get-there with_html.content head (b + 2) (sym c2);
    }

abbrev bare : List ℕ → NodeData
bare name = bare_element (html_name name)

-- such a forest has the shape of a page
page_enclosed : (f : Forest) (b : ℕ) → IsEnclosed (bare (codes "body")) (bare (codes "html")) (bare (codes "head")) b f → IsPage f
page_enclosed f b e =
    let tops : besides_comments f 0 ≡ (b + 1) ∷ [] = ap (filter (λ child. not (node_is is_comment f child))) e.top ∙ rw e.html_is refl in
    let parts : elements_of f (b + 1) ≡ (b + 2) ∷ b ∷ [] = ap (filter (element_at f)) e.parts ∙ rw (e.head_is, e.body_is) refl in
    let html : is_html f (b + 1) (codes "html") ≡ true = rw e.html_is refl in
    let head : is_html f (b + 2) (codes "head") ≡ true = rw e.head_is refl in
    let body : is_html f b (codes "body") ≡ true = rw e.body_is refl in
    rw (tops, html, parts, head, body) refl

-- the steps by which all that stands at the top is enclosed make a page
pub page_made : (f0 f1 f2 f3 f4 f5 f6 f7 : Forest) (b h d r : ℕ) → IsForest f0 → r ≡ 0 → f1 ≡ with_node (bare (codes "body")) f0 → b ≡ length f0.content →
    f2 ≡ reparented r (Some b) f1 → f3 ≡ with_node (bare (codes "html")) f2 → h ≡ length f2.content →
    f4 ≡ with_node (bare (codes "head")) f3 → d ≡ length f3.content →
    f5 ≡ moved_to (h ∷ []) (EndOf r) f4 → f6 ≡ moved_to (d ∷ []) (EndOf h) f5 → f7 ≡ moved_to (b ∷ []) (EndOf h) f6 → IsPage f7
page_made f0 f1 f2 f3 f4 f5 f6 f7 b h d r forest er e1 eb e2 e3 eh e4 ed e5 e6 e7 =
    let body = bare (codes "body") in
    let html = bare (codes "html") in
    let head = bare (codes "head") in
    let x1 = with_node body f0 in
    let x2 = reparented 0 (Some b) x1 in
    let x3 = with_node html x2 in
    let g2 : f2 ≡ x2 = e2 ∙ ap (λ n. reparented n (Some b) f1) er ∙ ap (reparented 0 (Some b)) e1 in
    let g3 : f3 ≡ x3 = e3 ∙ ap (with_node html) g2 in
    let g4 : f4 ≡ with_node head x3 = e4 ∙ ap (with_node head) g3 in
    let n1 : length x1.content ≡ length f0.content + 1 = length_push f0.content body in
    let n2 : length f2.content ≡ length x1.content = ap (λ (f : Forest). length f.content) g2 in
    let n3 : length f3.content ≡ length x3.content = ap (λ (f : Forest). length f.content) g3 in
    let n4 : length x3.content ≡ length x1.content + 1 = length_push x1.content html in
    let h1 : h ≡ b + 1 = omega (arith, eh, n2, n1, eb) in
    let d1 : d ≡ b + 2 = omega (arith, ed, n3, n4, n1, eb) in
    let at : ℕ → ℕ → Forest = λ n m. moved_to (b ∷ []) (EndOf n) (moved_to (m ∷ []) (EndOf n) (moved_to (n ∷ []) (EndOf 0) (with_node head x3))) in
    let g5 : f5 ≡ moved_to (h ∷ []) (EndOf 0) (with_node head x3) = e5 ∙ ap (λ n. moved_to (h ∷ []) (EndOf n) f4) er ∙ ap (moved_to (h ∷ []) (EndOf 0)) g4 in
    let g6 : f6 ≡ moved_to (d ∷ []) (EndOf h) (moved_to (h ∷ []) (EndOf 0) (with_node head x3)) = e6 ∙ ap (moved_to (d ∷ []) (EndOf h)) g5 in
    let g7 : f7 ≡ at h d = e7 ∙ ap (moved_to (b ∷ []) (EndOf h)) g6 in
    let all : f7 ≡ enclosed body html head b f0 = g7 ∙ ap (λ n. at n d) h1 ∙ ap (λ m. at (b + 1) m) d1 in
    rw all (page_enclosed _ b (enclosed-is body html head b f0 eb forest.once.children_each (omega (arith, eb, forest.rooted))))

-- what follows where a call went well
pub on_ok : {T E P Q : Type 0} (r : Result T E) → OnOk r P → (P → Q) → OnOk r Q
on_ok (Ok _) h then = then h
on_ok (Err _) h then = h
