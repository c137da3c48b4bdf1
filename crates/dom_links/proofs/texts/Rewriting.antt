-- What a normalisation writes joins the rows of texts.
use Rattle.std.proofs.Common.{ℕ, zero, suc, ◌≡◌, ◌<◌, ◌≤◌, ◌+◌, Bool, true, false, List, [], ◌∷◌, ◌++◌, Option, Some, None, refl, sym, ap, ◌∙◌, subst, arith, inl, inr, length, append_assoc, append-nil, cond, map}
use Rattle.std.specs.Prelude.{◌==◌, ◌&&◌, ◌||◌, filter, not, slice_get, if◌then◌else◌}
use Rattle.std.specs.Option.{option_map_or}
use Rattle.std.proofs.lemmas.Bool.{cases_Bool, eqb-true, eq-eqb, ne_eqb, or_parts, not-false}
use Rattle.dom_nodes.specs.Kinds.{is_text}
use Rattle.dom_nodes.specs.declared.node_data.NodeData.{NodeData}
use Rattle.dom_nodes.specs.declared.node_data.NodeData.TheVariants.{Text}
use Rattle.dom_nodes.specs.declared.node_data.TreeNode.{TreeNode}
use Rattle.dom_links.specs.Contents.{changed_at, with_content}
use Rattle.dom_links.specs.Lists.{is_member, after, map_from, without}
use Rattle.dom_links.specs.Forest.{Forest, forest_of, siblings}
use Rattle.dom_links.specs.Moves.{detach}
use Rattle.dom_links.specs.Normalized.{dropped, front_texts, joined, joined_among, starts_text_run, normalized}
use Rattle.dom_links.specs.Rewrites.{is_rewritten, is_text_after, listed, rewrite, rewrite_at, rewrites, rewritten}
use Rattle.dom_links.specs.SetTexts.{is_text_at, with_text_data}
use Rattle.dom_links.specs.Sound.{IsForest, IsSoundArena}
use Rattle.dom_links.specs.Texts.{text_at, text_in}
use Rattle.dom_links.specs.Trees.{descendants_in_order}
use Rattle.dom_links.specs.Walk.{later}
use Rattle.dom_links.specs.declared.ops.normalize.Rewrite.{Rewrite}
use Rattle.dom_links.proofs.moves.Cuts.{length-contents}
use Rattle.dom_links.proofs.forest.Grown.{within}
use Rattle.dom_links.proofs.walks.Later.{Follows, follows}
use Rattle.dom_links.proofs.forest.Depth.{here_stands}
use Rattle.dom_links.proofs.forest.Neighbours.{is_member-append}
use Rattle.dom_links.proofs.moves.Stripping.{is_member-filter}
use Rattle.dom_links.proofs.moves.TwoSteps.{without_nothing, map_without_nothing}

-- ---- what is found

found_of : (forest : Forest) (n : ℕ) (rest : List ℕ) → listed (rewrite_at forest n) ++ rewrites forest rest ≡ rewrites forest (n ∷ rest)
found_of forest n rest = elim (cases_Bool (is_rewritten forest n)) [
  | inl t ↦ rw t refl
  | inr f ↦ rw f refl
]

pub found_more : (forest : Forest) (n : ℕ) (left rest : List ℕ) (found more total : List Rewrite) (o : Option Rewrite) → o ≡ rewrite_at forest n → more ≡ found ++ listed o → left ≡ n ∷ rest →
    found ++ rewrites forest left ≡ total → more ++ rewrites forest rest ≡ total
found_more forest n left rest found more total o at added is whole =
    ap (λ ws. ws ++ rewrites forest rest) (added ∙ ap (λ p. found ++ listed p) at) ∙ append_assoc found (listed (rewrite_at forest n)) (rewrites forest rest)
    ∙ ap (λ ws. found ++ ws) (found_of forest n rest ∙ ap (rewrites forest) (sym is)) ∙ whole

-- ---- what is done

retexted_twice : (text : List ℕ) (content : NodeData) → with_text_data text (with_text_data text content) ≡ with_text_data text content
retexted_twice text (Text a) = refl
retexted_twice text _ = refl

map_alike : (i : ℕ) (F G : ℕ → NodeData → NodeData) (cs : List NodeData) → ((m : ℕ) (c : NodeData) → i ≤ m → F m c ≡ G m c) → map_from i F cs ≡ map_from i G cs
map_alike i F G [] same = refl
map_alike i F G (c ∷ cs) same = rw (same i c (omega arith), map_alike (i + 1) F G cs (λ m d h. same m d (omega (arith, h)))) refl

changed_map : (i n : ℕ) (change : NodeData → NodeData) (F G : ℕ → NodeData → NodeData) (cs : List NodeData) → ((c : NodeData) → change (F (i + n) c) ≡ G (i + n) c) → ((m : ℕ) (c : NodeData) → (m ≡ i + n → ⊥) → F m c ≡ G m c) →
    changed_at n change (map_from i F cs) ≡ map_from i G cs
changed_map i n change F G [] here others = refl
changed_map i zero change F G (c ∷ cs) here others =
    let z : i ≡ i + 0 = omega arith in
    let first_one : change (F i c) ≡ G i c = subst (λ (k : ℕ). change (F k c) ≡ G k c) (sym z) (here c) in
    let rest = map_alike (i + 1) F G cs (λ m d h. others m d (λ e. absurd (omega (arith, e, h)))) in
    rw (first_one, rest) refl
changed_map i (suc n) change F G (c ∷ cs) here others =
    let e : i + suc n ≡ i + 1 + n = omega arith in
    let first_one : F i c ≡ G i c = others i c (λ h. absurd (omega (arith, h))) in
    let rest = changed_map (i + 1) n change F G cs (λ d. subst (λ (k : ℕ). change (F k d) ≡ G k d) e (here d)) (λ m d ne. others m d (λ h. ne (h ∙ e))) in
    rw (first_one, rest) refl

-- what a node holds when these are joined
abbrev pub held : Forest → List ℕ → ℕ → NodeData → NodeData
held forest ns n content = if is_member n ns then with_text_data (joined forest n) content else content

content_more : (forest : Forest) (n : ℕ) (done : List ℕ) → changed_at n (with_text_data (joined forest n)) (map_from 0 (held forest done) forest.content) ≡ map_from 0 (held forest (n ∷ done)) forest.content
content_more forest n done =
    let z : n ≡ 0 + n = omega arith in
    changed_map 0 n (with_text_data (joined forest n)) (held forest done) (held forest (n ∷ done)) forest.content
    (λ c. subst (λ (k : ℕ). with_text_data (joined forest n) (held forest done k c) ≡ held forest (n ∷ done) k c) z (same c))
    (λ m c ne. sym (ap (λ t. cond (t || is_member m done) (with_text_data (joined forest m) c) c) (ne_eqb n m (λ e. ne (sym e ∙ z)))))
  where
    same : (c : NodeData) → with_text_data (joined forest n) (held forest done n c) ≡ held forest (n ∷ done) n c
    same c = elim (cases_Bool (is_member n done)) [
      | inl t ↦ rw (eq-eqb n n refl, t) (retexted_twice (joined forest n) c)
      | inr f ↦ rw (eq-eqb n n refl, f) refl
    ]

without_after : (n : ℕ) (moved ns : List ℕ) → without (n ∷ []) (without moved ns) ≡ without (n ∷ moved) ns
without_after n moved [] = refl
without_after n moved (m ∷ ns) = elim (cases_Bool (is_member m moved)) [
  | inl t ↦ elim (cases_Bool (n == m)) [ inl e ↦ rw (t, e) (without_after n moved ns) | inr f ↦ rw (t, f) (without_after n moved ns) ]
  | inr s ↦ elim (cases_Bool (n == m)) [ inl e ↦ rw (s, e) (without_after n moved ns) | inr f ↦ rw (s, f) (ap (λ ms. m ∷ ms) (without_after n moved ns)) ]
]

map_both : (f g h : List ℕ → List ℕ) (lists : List (List ℕ)) → ((ns : List ℕ) → f (g ns) ≡ h ns) → map f (map g lists) ≡ map h lists
map_both f g h [] same = refl
map_both f g h (ns ∷ lists) same = rw (same ns, map_both f g h lists same) refl

map_from_both : (i : ℕ) (f g h : ℕ → List ℕ → List ℕ) (lists : List (List ℕ)) → ((n : ℕ) (ns : List ℕ) → f n (g n ns) ≡ h n ns) → map_from i f (map_from i g lists) ≡ map_from i h lists
map_from_both i f g h [] same = refl
map_from_both i f g h (ns ∷ lists) same = rw (same i ns, map_from_both (i + 1) f g h lists same) refl

-- the run of m, once these were detached one by one
abbrev pub left_run : List ℕ → ℕ → List ℕ → List ℕ
left_run out m run = if is_member m out then m ∷ [] else without out run

runs_more : (n : ℕ) (out : List ℕ) (m : ℕ) (run : List ℕ) → cond (is_member m (n ∷ [])) (n ∷ []) (without (n ∷ []) (left_run out m run)) ≡ left_run (n ∷ out) m run
runs_more n out m run = elim (cases_Bool (n == m)) [
  | inl t ↦ rw t (ap (λ (k : ℕ). k ∷ []) (eqb-true n m t))
  | inr f ↦ elim (cases_Bool (is_member m out)) [
    | inl s ↦ rw (s, f) refl
    | inr s ↦ rw (f, s) (without_after n out run)
  ]
]

-- the forest where these hold what they then hold, and those are detached
abbrev pub shape : Forest → List ℕ → List ℕ → Forest
shape forest ns out = record {
  content = map_from 0 (held forest ns) forest.content;
  children = map (without out) forest.children;
  runs = map_from 0 (left_run out) forest.runs;
}

abbrev pub forest_with : List NodeData → List (List ℕ) → List (List ℕ) → Forest
forest_with content children runs = record { content = content; children = children; runs = runs }

stays_in : (forest : Forest) (n : ℕ) (done : List ℕ) → starts_text_run forest n ≡ true → dropped forest (n ∷ done) ≡ dropped forest done
stays_in forest n done t = ap (λ b. cond b (n ∷ dropped forest done) (dropped forest done)) (ap (λ b. is_text_at forest n && not b) t ∙ and-false (is_text_at forest n))
  where
    and-false : (a : Bool) → (a && false) ≡ false
    and-false true = refl
    and-false false = refl

goes_out : (forest : Forest) (n : ℕ) (done : List ℕ) → is_text_at forest n ≡ true → starts_text_run forest n ≡ false → dropped forest (n ∷ done) ≡ n ∷ dropped forest done
goes_out forest n done text f = ap (λ b. cond b (n ∷ dropped forest done) (dropped forest done)) (ap (λ b. is_text_at forest n && not b) f ∙ ap (λ b. b && true) text)

-- a text is joined with the others of its row
pub settles : (forest : Forest) (n : ℕ) (done : List ℕ) → is_text_at forest n ≡ true → rewritten (rewrite forest n) (joined_among done forest) ≡ joined_among (n ∷ done) forest
settles forest n done text =
    let now = joined_among done forest in
    let texts = with_content n (with_text_data (joined forest n)) now in
    let out = dropped forest done in
    let more = content_more forest n done in
    elim (cases_Bool (starts_text_run forest n)) [
      | inl t ↦ ap (λ b. cond b texts (detach (n ∷ []) texts)) t ∙ ap (λ cs. forest_with cs now.children now.runs) more ∙ sym (ap (shape forest (n ∷ done)) (stays_in forest n done t))
      | inr f ↦ (let children = map_both (without (n ∷ [])) (without out) (without (n ∷ out)) forest.children (without_after n out) in
          let runs = map_from_both 0 (λ m run. cond (is_member m (n ∷ [])) (n ∷ []) (without (n ∷ []) run)) (left_run out) (left_run (n ∷ out)) forest.runs (runs_more n out) in
          ap (λ b. cond b texts (detach (n ∷ []) texts)) f
          ∙ ap (λ cs. forest_with cs (detach (n ∷ []) texts).children (detach (n ∷ []) texts).runs) more
          ∙ ap (λ ls. forest_with (map_from 0 (held forest (n ∷ done)) forest.content) ls (detach (n ∷ []) texts).runs) children
          ∙ ap (λ ls. forest_with (map_from 0 (held forest (n ∷ done)) forest.content) (map (without (n ∷ out)) forest.children) ls) runs
          ∙ sym (ap (shape forest (n ∷ done)) (goes_out forest n done text f)))
    ]

-- nothing is done yet

pub map_from_none : {X : Type 0} (i : ℕ) (xs : List X) → map_from i (λ n x. x) xs ≡ xs
map_from_none i [] = refl
map_from_none i (x ∷ xs) = ap (λ ys. x ∷ ys) (map_from_none (i + 1) xs)

pub runs_nothing : (i : ℕ) (lists : List (List ℕ)) → map_from i (left_run []) lists ≡ lists
runs_nothing i [] = refl
runs_nothing i (ns ∷ lists) = rw (without_nothing ns, runs_nothing (i + 1) lists) refl

joined_none : (forest : Forest) → joined_among [] forest ≡ forest
joined_none forest =
    ap (λ cs. forest_with cs (map (without []) forest.children) (map_from 0 (left_run []) forest.runs)) (map_from_none 0 forest.content)
    ∙ ap (λ ls. forest_with forest.content ls (map_from 0 (left_run []) forest.runs)) (map_without_nothing forest.children)
    ∙ ap (λ ls. forest_with forest.content forest.children ls) (runs_nothing 0 forest.runs)

-- ---- what need not be done

no_front : (forest : Forest) (n : ℕ) → IsForest forest → is_text_after forest n ≡ false → front_texts forest (later forest false n) ≡ []
no_front forest n good other = go (after (siblings forest n) n) refl
  where
    go : (o : Option ℕ) → after (siblings forest n) n ≡ o → front_texts forest (later forest false n) ≡ []
    go None is = ap (front_texts forest) (Follows.rest (follows forest false n None good (sym is)))
    go (Some k) is =
        let off : is_text_at forest k ≡ false = ap (λ o. option_map_or (is_text_at forest) o false) (sym is) ∙ other in
        ap (front_texts forest) (Follows.rest (follows forest false n (Some k) good (sym is))) ∙ rw off refl

text_there : (forest : Forest) (n : ℕ) (t : List ℕ) → slice_get forest.content n ≡ Some (Text t) → (is_text_at forest n ≡ true) × (text_at forest n ≡ t)
text_there forest n t is = (ap (λ o. option_map_or is_text o false) is, ap (λ o. option_map_or text_in o []) is)

not_needed : (forest : Forest) (n : ℕ) (content : NodeData) → IsForest forest → slice_get forest.content n ≡ Some content → is_rewritten forest n ≡ false → with_text_data (joined forest n) content ≡ content
not_needed forest n (Text t) good is other =
    let there = text_there forest n t is in
    let both : (not (starts_text_run forest n) || is_text_after forest n) ≡ false = ap (λ b. b && (not (starts_text_run forest n) || is_text_after forest n)) (sym there.0) ∙ other in
    let two = or_parts (not (starts_text_run forest n)) (is_text_after forest n) both in
    let first_one : starts_text_run forest n ≡ true = not-false (starts_text_run forest n) two.0 in
    let none = no_front forest n good two.1 in
    let all : joined forest n ≡ t = ap (λ b. cond b (text_at forest n ++ front_texts forest (later forest false n)) []) first_one ∙ ap (λ ts. text_at forest n ++ ts) none ∙ append-nil (text_at forest n) ∙ there.1 in
    ap Text all
not_needed forest n _ good is other = refl

pub map_here : (i : ℕ) (F G : ℕ → NodeData → NodeData) (cs : List NodeData) → ((m : ℕ) (c : NodeData) → slice_get cs m ≡ Some c → F (i + m) c ≡ G (i + m) c) → map_from i F cs ≡ map_from i G cs
map_here i F G [] same = refl
map_here i F G (c ∷ cs) same =
    let z : i + 0 ≡ i = omega arith in
    let one : F i c ≡ G i c = subst (λ (k : ℕ). F k c ≡ G k c) z (same 0 c refl) in
    let rest = map_here (i + 1) F G cs (λ m d is. (let e : i + suc m ≡ i + 1 + m = omega arith in subst (λ (k : ℕ). F k d ≡ G k d) e (same (suc m) d is))) in
    rw (one, rest) refl

filter_twice : (test other : ℕ → Bool) (ns : List ℕ) → ((n : ℕ) → test n ≡ true → other n ≡ true) → filter test (filter other ns) ≡ filter test ns
filter_twice test other [] more = refl
filter_twice test other (n ∷ ns) more = elim (cases_Bool (other n)) [
  | inl t ↦ elim (cases_Bool (test n)) [ inl h ↦ rw (t, h) (ap (λ ms. n ∷ ms) (filter_twice test other ns more)) | inr f ↦ rw (t, f) (filter_twice test other ns more) ]
  | inr f ↦ elim (cases_Bool (test n)) [ inl h ↦ (let no = more n h in cc) | inr g ↦ rw (f, g) (filter_twice test other ns more) ]
]

-- what is left as it was would hold the same
all_joined : (forest : Forest) (ns : List ℕ) → IsForest forest → joined_among (filter (is_rewritten forest) ns) forest ≡ joined_among ns forest
all_joined forest ns good =
    let some = filter (is_rewritten forest) ns in
    let same : dropped forest some ≡ dropped forest ns = filter_twice (λ n. is_text_at forest n && not (starts_text_run forest n)) (is_rewritten forest) ns (λ n. is_among_them (is_text_at forest n) (not (starts_text_run forest n)) (is_text_after forest n)) in
    let content : map_from 0 (held forest some) forest.content ≡ map_from 0 (held forest ns) forest.content = map_here 0 (held forest some) (held forest ns) forest.content
    (λ m c is. (let z : 0 + m ≡ m = omega arith in subst (λ (k : ℕ). held forest some k c ≡ held forest ns k c) (sym z) (each m c is))) in
    ap (λ cs. forest_with cs (map (without (dropped forest some)) forest.children) (map_from 0 (left_run (dropped forest some)) forest.runs)) content
    ∙ ap (shape forest ns) same
  where
    is_among_them : (text follower after : Bool) → (text && follower) ≡ true → (text && (follower || after)) ≡ true
    is_among_them true true after h = refl
    is_among_them true false after h = cc
    is_among_them false follower after h = cc

    each : (m : ℕ) (c : NodeData) → slice_get forest.content m ≡ Some c → held forest (filter (is_rewritten forest) ns) m c ≡ held forest ns m c
    each m c is = elim (cases_Bool (is_member m ns)) [
      | inr f ↦ (let out : is_member m (filter (is_rewritten forest) ns) ≡ false = is_member-filter (is_rewritten forest) ns m ∙ ap (λ b. b && is_rewritten forest m) f in rw (f, out) refl)
      | inl t ↦ elim (cases_Bool (is_rewritten forest m)) [
        | inl h ↦ (let in_it : is_member m (filter (is_rewritten forest) ns) ≡ true = is_member-filter (is_rewritten forest) ns m ∙ ap (λ b. b && is_rewritten forest m) t ∙ h in
            ap (λ b. cond b (with_text_data (joined forest m) c) c) (in_it ∙ sym t))
        | inr h ↦ (let out : is_member m (filter (is_rewritten forest) ns) ≡ false = is_member-filter (is_rewritten forest) ns m ∙ ap (λ b. b && is_rewritten forest m) t ∙ h in
            ap (λ b. cond b (with_text_data (joined forest m) c) c) out ∙ sym (not_needed forest m c good is h) ∙ sym (ap (λ b. cond b (with_text_data (joined forest m) c) c) t))
      ]
    ]

-- ---- one after the other, from the last

pub record Rewriting (old now : List TreeNode) (x : ℕ) (todo : List Rewrite) : Type 0 where
  pub sound : IsSoundArena now
  front : List ℕ
  done : List ℕ
  whole : front ++ done ≡ filter (is_rewritten (forest_of old)) (descendants_in_order (forest_of old) x)
  todo_is : todo ≡ map (rewrite (forest_of old)) front
  is : forest_of now ≡ joined_among done (forest_of old)

pub rewriting_starts : (old : List TreeNode) (x : ℕ) (todo : List Rewrite) → IsSoundArena old → todo ≡ rewrites (forest_of old) (descendants_in_order (forest_of old) x) → Rewriting old old x todo
rewriting_starts old x todo sound is = record {
  sound = sound;
  front = filter (is_rewritten (forest_of old)) (descendants_in_order (forest_of old) x);
  done = [];
  whole = append-nil _;
  todo_is = is;
  is = sym (joined_none (forest_of old));
}

pub rewriting_ends : (old now : List TreeNode) (x : ℕ) (todo : List Rewrite) → IsSoundArena old → length todo ≡ 0 → Rewriting old now x todo → forest_of now ≡ normalized x (forest_of old)
rewriting_ends old now x todo sound empty h =
    let none = nothing_left todo empty in
    let front_none : h.front ≡ [] = nothing_mapped (rewrite (forest_of old)) h.front (sym h.todo_is ∙ none) in
    let all = ap (λ ns. ns ++ h.done) (sym front_none) ∙ h.whole in
    h.is ∙ ap (λ ns. joined_among ns (forest_of old)) all ∙ all_joined (forest_of old) (descendants_in_order (forest_of old) x) sound.forest
  where
    nothing_left : (ws : List Rewrite) → length ws ≡ 0 → ws ≡ []
    nothing_left [] e = refl
    nothing_left (w ∷ ws) e = absurd (omega (arith, e))

    nothing_mapped : (f : ℕ → Rewrite) (ns : List ℕ) → map f ns ≡ [] → ns ≡ []
    nothing_mapped f [] e = refl
    nothing_mapped f (n ∷ ns) e = cc

-- the last of a list that was mapped
record LastOf (f : ℕ → Rewrite) (ns : List ℕ) (ws : List Rewrite) (w : Rewrite) : Type 0 where
  front : List ℕ
  one : ℕ
  parts : ns ≡ front ++ one ∷ []
  rest_is : ws ≡ map f front
  one_is : w ≡ f one

last_mapped : (f : ℕ → Rewrite) (ns : List ℕ) (ws : List Rewrite) (w : Rewrite) → ws ++ w ∷ [] ≡ map f ns → LastOf f ns ws w
last_mapped f [] [] w e = cc
last_mapped f [] (v ∷ ws) w e = cc
last_mapped f (n ∷ []) [] w e = record { front = []; one = n; parts = refl; rest_is = refl; one_is = (let h = e in cc) }
last_mapped f (n ∷ m ∷ ns) [] w e = cc
last_mapped f (n ∷ ns) (v ∷ ws) w e =
    let tail : ws ++ w ∷ [] ≡ map f ns = (let h = e in cc) in
    let head : v ≡ f n = (let h = e in cc) in
    let rest = last_mapped f ns ws w tail in
    record { front = n ∷ rest.front; one = rest.one; parts = ap (λ ms. n ∷ ms) rest.parts; rest_is = ap (λ (u : Rewrite). u ∷ ws) head ∙ ap (λ us. f n ∷ us) rest.rest_is; one_is = rest.one_is }

-- the last one is a text of the arena
record Next (old : List TreeNode) (w : Rewrite) : Type 0 where
  text : is_text_at (forest_of old) w.id ≡ true
  known : w.id < length (forest_of old).content

next_known : (old : List TreeNode) (front done ns : List ℕ) (n : ℕ) → (front ++ n ∷ []) ++ done ≡ filter (is_rewritten (forest_of old)) ns → is_text_at (forest_of old) n ≡ true
next_known old front done ns n whole =
    let stands : is_member n ((front ++ n ∷ []) ++ done) ≡ true = ap (is_member n) (append_assoc front (n ∷ []) done) ∙ is_member-append front (n ∷ done) n ∙ or-true (is_member n front) (is_member n (n ∷ done)) (here_stands n done) in
    let both = sym (is_member-filter (is_rewritten (forest_of old)) ns n) ∙ sym (ap (is_member n) whole) ∙ stands in
    parts (is_member n ns) (is_text_at (forest_of old) n) _ both
  where
    or-true : (a b : Bool) → b ≡ true → (a || b) ≡ true
    or-true true b h = refl
    or-true false b h = h

    parts : (a b c : Bool) → (a && (b && c)) ≡ true → b ≡ true
    parts true true c h = refl
    parts true false c h = cc
    parts false b c h = cc

pub rewriting_known : (old now : List TreeNode) (x : ℕ) (todo rest : List Rewrite) (w : Rewrite) → rest ++ w ∷ [] ≡ todo → Rewriting old now x todo → w.id < length now
rewriting_known old now x todo rest w split h =
    let last_one = last_mapped (rewrite (forest_of old)) h.front rest w (split ∙ h.todo_is) in
    let text = next_known old last_one.front h.done (descendants_in_order (forest_of old) x) last_one.one (ap (λ ns. ns ++ h.done) (sym last_one.parts) ∙ h.whole) in
    let inside = within is_text (forest_of old).content last_one.one text in
    let long = length-contents (forest_of now) now h.sound.arena.links in
    let same = ap (λ (forest : Forest). length forest.content) h.is ∙ length-held 0 (held (forest_of old) h.done) (forest_of old).content in
    let number : w.id ≡ last_one.one = ap (λ (v : Rewrite). v.id) last_one.one_is in
    omega (arith, inside, long, same, number)
  where
    length-held : (i : ℕ) (F : ℕ → NodeData → NodeData) (cs : List NodeData) → length (map_from i F cs) ≡ length cs
    length-held i F [] = refl
    length-held i F (c ∷ cs) = ap suc (length-held (i + 1) F cs)

pub rewriting_on : (old now new : List TreeNode) (x : ℕ) (todo rest : List Rewrite) (w : Rewrite) → rest ++ w ∷ [] ≡ todo → Rewriting old now x todo → forest_of new ≡ rewritten w (forest_of now) → IsSoundArena new → Rewriting old new x rest
rewriting_on old now new x todo rest w split h made sound =
    let forest = forest_of old in
    let last_one = last_mapped (rewrite forest) h.front rest w (split ∙ h.todo_is) in
    let n = last_one.one in
    let whole = ap (λ ns. ns ++ h.done) (sym last_one.parts) ∙ h.whole in
    let text = next_known old last_one.front h.done (descendants_in_order forest x) n whole in
    record {
      sound = sound;
      front = last_one.front;
      done = n ∷ h.done;
      whole = sym (append_assoc last_one.front (n ∷ []) h.done) ∙ whole;
      todo_is = last_one.rest_is;
      is = made ∙ ap (λ (v : Rewrite). rewritten v (forest_of now)) last_one.one_is ∙ ap (rewritten (rewrite forest n)) h.is ∙ settles forest n h.done text;
    }
