-- Marking the nodes of a page that are shown.
use Rattle.std.proofs.Common.{◌≡◌, ◌<◌, ◌==◌, ◌⊎◌, ℕ, List, [], ◌∷◌, ◌++◌, Bool, true, false, true≢false, inl, inr, refl, sym, ap, ◌∙◌, subst, length, set, arith, append_assoc, append-nil}
use Rattle.std.specs.Prelude.{not}
use Rattle.std.specs.List.{list_any}
use Rattle.std.specs.Option.{option_map_or}
use Rattle.std.proofs.lemmas.Bool.{cases_Bool, eqb-true, or_right}
use Rattle.std.proofs.lemmas.List.{get_or-set_same, length-set}
use Rattle.dom_links.specs.Forest.{Forest, parent}
use Rattle.dom_links.specs.Laws.{AreLines}
use Rattle.dom_links.specs.Lists.{is_member}
use Rattle.dom_links.specs.Sound.{IsForest}
use Rattle.dom_links.specs.Trees.{descendants_in_order}
use Rattle.dom_links.proofs.forest.Depth.{here_stands}
use Rattle.dom_links.proofs.forest.Neighbours.{is_member-append}
use Rattle.dom_links.proofs.forest.Places.{cases_Option}
use Rattle.dom_links.proofs.walks.Apart.{walk-inside}
use Rattle.dom_article.specs.Hidden.{IsHidden, hidden_at, itself, inside}
use Rattle.dom_article.specs.Pruned.{Gains, HasMarkedParent, HasNone, is_below_marked, marked, with_shown}
use Rattle.dom_article.specs.Texts.{AreShown, ShowsNoText, is_kept_text_at, keeps_text, page_nodes}
use Rattle.dom_article.proofs.MarkLemmas.{gains_set, hidden_gained, none_hidden, none_pruned, not_hidden, pruned_gained, root_pruned, root_shown}
use Rattle.dom_article.proofs.OrderLemmas.{parent_visited}

-- A node whose parent is marked.
pub marked_above : (forest : Forest) (marks : List Bool) (n : ℕ) → is_below_marked forest n marks ≡ true → HasMarkedParent forest marks n
marked_above forest marks n is = elim (cases_Option (parent forest n)) [
  | inl none ↦ absurd (true≢false (sym is ∙ ap (λ o. option_map_or (marked marks) o false) none))
  | inr (p, up) ↦ (p, up, sym (ap (λ o. option_map_or (marked marks) o false) up) ∙ is)
]

-- The nodes visited so far, whose shown ones are marked, and those that are left.
pub record Visited (forest : Forest) (left : List ℕ) (marks : List Bool) : Type 0 where
  pub done : List ℕ
  pub split : descendants_in_order forest 0 ≡ done ++ left
  pub shown : AreShown forest (0 ∷ done) marks

one_more : (done : List ℕ) (n m r : ℕ) → is_member m (r ∷ (done ++ n ∷ [])) ≡ true → (is_member m (r ∷ done) ≡ true) ⊎ (n ≡ m)
one_more done n m r s = elim (cases_Bool (r == m)) [
  | inl t ↦ inl (rw t refl)
  | inr f ↦ elim (cases_Bool (is_member m done)) [
    | inl old ↦ inl (rw f old)
    | inr not ↦ elim (cases_Bool (n == m)) [
      | inl new ↦ inr (eqb-true n m new)
      | inr other ↦ absurd (true≢false (sym (rw f at s) ∙ (is_member-append done (n ∷ []) m ∙ rw (not, other) refl)))
    ]
  ]
]

-- a node that isn't marked, and is hidden
left_out : (forest : Forest) (done : List ℕ) (n : ℕ) (marks : List Bool) → AreShown forest (0 ∷ done) marks → IsHidden forest n → AreShown forest (0 ∷ (done ++ n ∷ [])) marks
left_out forest done n marks shown hidden = record {
  extract = shown.extract;
  each = λ m s. elim (one_more done n m 0 s) [ inl old ↦ shown.each m old | inr new ↦ inr (subst (IsHidden forest) new hidden) ];
  long = shown.long;
}

-- a node whose parent is marked, and that isn't hidden itself
taken_in : (forest : Forest) (done : List ℕ) (n : ℕ) (marks : List Bool) → AreLines forest → n < length forest.content → AreShown forest (0 ∷ done) marks → hidden_at forest n ≡ false → HasMarkedParent forest marks n →
    AreShown forest (0 ∷ (done ++ n ∷ [])) (set marks n true)
taken_in forest done n marks lines known shown clear above =
    let inside_it : n < length marks = (let e = shown.long in omega arith) in
    let gains : Gains n marks (set marks n true) = gains_set marks n inside_it in
    record {
      extract = record {
        pruned = pruned_gained forest 0 marks (set marks n true) n lines shown.extract.pruned above gains;
        shown = hidden_gained forest marks (set marks n true) n shown.extract.shown (not_hidden forest marks n shown.extract.shown clear above) gains;
      };
      each = λ m s. elim (one_more done n m 0 s) [
        | inl old ↦ elim (shown.each m old) [ inl was ↦ inl (gains.all m was) | inr hidden ↦ inr hidden ]
        | inr new ↦ inl (subst (λ (k : ℕ). marked (set marks n true) k ≡ true) new (get_or-set_same marks n true false inside_it))
      ];
      long = length-set marks n true ∙ shown.long;
    }

-- One node more.
pub visits : (forest : Forest) (n : ℕ) (left : List ℕ) (marks : List Bool) → IsForest forest → AreLines forest → Visited forest (n ∷ left) marks → Visited forest left (with_shown forest n marks)
visits forest n left marks good lines v =
    let split : descendants_in_order forest 0 ≡ (v.done ++ n ∷ []) ++ left = v.split ∙ sym (append_assoc v.done (n ∷ []) left) in
    let here : is_member n (descendants_in_order forest 0) ≡ true = ap (is_member n) v.split ∙ (is_member-append v.done (n ∷ left) n ∙ or_right (is_member n v.done) _ (here_stands n left)) in
    record { done = v.done ++ n ∷ []; split = split; shown = shown_now here }
  where
    shown_now : is_member n (descendants_in_order forest 0) ≡ true → AreShown forest (0 ∷ (v.done ++ n ∷ [])) (with_shown forest n marks)
    shown_now here = elim (cases_Bool (hidden_at forest n)) [
      | inl hidden ↦ rw hidden (left_out forest v.done n marks v.shown (itself n hidden))
      | inr clear ↦ elim (cases_Option (parent forest n)) [
        | inl none ↦ absurd (true≢false (sym (ap (is_member 0) (sym (lines.top n none)) ∙ (sym (lines.below_above 0 n) ∙ here))))
        | inr (p, up) ↦ elim (cases_Bool (marked marks p)) [
          | inl t ↦ rw (clear, up, t) (taken_in forest v.done n marks lines (walk-inside forest 0 n good here) v.shown clear (p, up, t))
          | inr f ↦ rw (clear, up, f) (left_out forest v.done n marks v.shown (elim (v.shown.each p (parent_visited forest 0 n p v.done left good lines v.split up)) [
            | inl t ↦ absurd (true≢false (sym t ∙ f))
            | inr hidden ↦ inside p n up hidden
          ]))
        ]
      ]
    ]

-- The root.
pub root_visited : (forest : Forest) (marks : List Bool) → AreShown forest (0 ∷ []) marks → Visited forest (descendants_in_order forest 0) marks
root_visited forest marks shown = record { done = []; split = refl; shown = shown }

-- All nodes.
pub all_visited : (forest : Forest) (left : List ℕ) (marks : List Bool) → left ≡ [] → Visited forest left marks → AreShown forest (page_nodes forest) marks
all_visited forest left marks none v =
    let is : v.done ≡ descendants_in_order forest 0 = sym (v.split ∙ (ap (λ ns. v.done ++ ns) none ∙ append-nil v.done)) in
    subst (λ (ns : List ℕ). AreShown forest (0 ∷ ns) marks) is v.shown

-- A root that isn't shown.
pub no_root : (forest : Forest) (marks : List Bool) → HasNone marks → length marks ≡ length forest.content → hidden_at forest 0 ≡ true → AreShown forest (0 ∷ []) marks
no_root forest marks none long hidden = record {
  extract = record { pruned = none_pruned forest 0 marks none; shown = none_hidden forest marks none };
  each = λ m s. inr (subst (IsHidden forest) (only_root m s) (itself 0 hidden));
  long = long;
}
  where
    only_root : (m : ℕ) → is_member m (0 ∷ []) ≡ true → 0 ≡ m
    only_root m s = elim (cases_Bool (0 == m)) [ inl t ↦ eqb-true 0 m t | inr f ↦ absurd (true≢false (sym (rw f at s))) ]

-- A root that is shown.
pub with_root : (forest : Forest) (old : List Bool) → IsForest forest → HasNone old → length old ≡ length forest.content → hidden_at forest 0 ≡ false → AreShown forest (0 ∷ []) (set old 0 true)
with_root forest old good none long clear =
    let inside_it : 0 < length old = (let e = long in let f = good.rooted in omega arith) in
    let gains : Gains 0 old (set old 0 true) = gains_set old 0 inside_it in
    record {
      extract = record {
        pruned = root_pruned forest 0 old (set old 0 true) none gains;
        shown = hidden_gained forest old (set old 0 true) 0 (none_hidden forest old none) (root_shown forest good clear) gains;
      };
      each = λ m s. inl (subst (λ (k : ℕ). marked (set old 0 true) k ≡ true) (only_root m s) (get_or-set_same old 0 true false inside_it));
      long = length-set old 0 true ∙ long;
    }
  where
    only_root : (m : ℕ) → is_member m (0 ∷ []) ≡ true → 0 ≡ m
    only_root m s = elim (cases_Bool (0 == m)) [ inl t ↦ eqb-true 0 m t | inr f ↦ absurd (true≢false (sym (rw f at s))) ]

none_of : (p : ℕ → Bool) (ns : List ℕ) (n : ℕ) → list_any p ns ≡ false → is_member n ns ≡ true → p n ≡ false
none_of p [] n none s = absurd (true≢false (sym s))
none_of p (m ∷ ms) n none s = elim (cases_Bool (p m)) [
  | inl t ↦ absurd (true≢false (rw t at none))
  | inr f ↦ elim (cases_Bool (m == n)) [
    | inl here ↦ subst (λ (k : ℕ). p k ≡ false) (eqb-true m n here) f
    | inr there ↦ none_of p ms n (rw f at none) (rw there at s)
  ]
]

-- If no shown node of a page is a text that leaves a mark, no text of it does that is shown.
pub shows_none : (forest : Forest) (marks : List Bool) → AreShown forest (page_nodes forest) marks → keeps_text forest marks ≡ false → ShowsNoText forest
shows_none forest marks shown none n stands visible = elim (shown.each n stands) [
  | inr hidden ↦ hidden
  | inl t ↦ absurd (true≢false (sym (rw (t, visible) refl) ∙ none_of (is_kept_text_at forest marks) (page_nodes forest) n none stands))
]
