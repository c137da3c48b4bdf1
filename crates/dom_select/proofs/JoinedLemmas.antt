-- What is sought in texts that follow each other.
use Rattle.std.proofs.Common.{ℕ, zero, suc, ◌+◌, ◌<◌, get_or, inl, inr, arith, ◌≡◌, List, [], ◌∷◌, ◌++◌, length, take, drop, Bool, true, false, ◌&&◌, ◌||◌, refl, sym, ap, ◌∙◌}
use Rattle.std.specs.Prelude.{◌==◌, Option, None, Some, slice_get}
use Rattle.std.specs.List.{flat_map, list_any}
use Rattle.std.proofs.lemmas.Bool.{cases_Bool, eqb-true, or_cases, or_left, or_right, true≢false}
use Rattle.std.proofs.Math.Seq.{drop-cons}
use Rattle.dom_nodes.specs.declared.case_sensitivity.CaseSensitivity.{CaseSensitivity}
use Rattle.dom_nodes.specs.declared.case_sensitivity.CaseSensitivity.TheVariants.{CaseSensitive}
use Rattle.dom_links.specs.Forest.{Forest}
use Rattle.dom_links.specs.Texts.{text_at, text_in, text_of}
use Rattle.dom_links.specs.Trees.{descendants_in_order}
use Rattle.dom_nodes.specs.declared.node_data.NodeData.{NodeData}
use Rattle.dom_nodes.specs.declared.node_data.NodeData.TheVariants.{Text}
use Rattle.std.specs.Option.{option_map_or}
use Rattle.dom_selectors.specs.Comparisons.{begins_with, has_within, same_byte}
use Rattle.dom_select.specs.Texts.{begins_among, contains_at, has_text_at, joined_contains_at, text_contains}

and_assoc : (a b c : Bool) → (a && (b && c)) ≡ ((a && b) && c)
and_assoc true b c = refl
and_assoc false b c = refl

or_assoc : (a b c : Bool) → (a || (b || c)) ≡ ((a || b) || c)
or_assoc true b c = refl
or_assoc false b c = refl

-- a text that begins in one text and goes on in the next
pub begins_with-append : (case : CaseSensitivity) (text next inner : List ℕ) →
    begins_with case (text ++ next) inner ≡ (begins_with case text (take (length text) inner) && begins_with case next (drop (length text) inner))
begins_with-append case [] next inner = refl
begins_with-append case (a ∷ more) next [] = refl
begins_with-append case (a ∷ more) next (b ∷ bs) =
    ap (λ t. same_byte case a b && t) (begins_with-append case more next bs)
    ∙ and_assoc (same_byte case a b) (begins_with case more (take (length more) bs)) (begins_with case next (drop (length more) bs))

-- a text within two others begins in the first or stands within the second
pub has_within-append : (text next inner : List ℕ) → has_within CaseSensitive (text ++ next) inner ≡ (begins_among text next inner || has_within CaseSensitive next inner)
has_within-append [] next inner = refl
has_within-append (a ∷ more) next inner =
    ap (λ t. begins_with CaseSensitive (a ∷ (more ++ next)) inner || t) (has_within-append more next inner)
    ∙ or_assoc (begins_with CaseSensitive (a ∷ (more ++ next)) inner) (begins_among more next inner) (has_within CaseSensitive next inner)

pub begins_nothing : (case : CaseSensitivity) (inner : List ℕ) → begins_with case [] inner ≡ (length inner == 0)
begins_nothing case [] = refl
begins_nothing case (b ∷ bs) =
    elim (cases_Bool (length (b ∷ bs) == 0)) [
      | inl t ↦ let none = eqb-true (length (b ∷ bs)) 0 t in absurd (omega arith)
      | inr f ↦ sym f
    ]

-- what goes on in the next text, or doesn't
pub begins_on : (text next inner left : List ℕ) → begins_with CaseSensitive text (take (length text) inner) ≡ true → left ≡ drop (length text) inner →
    begins_with CaseSensitive (text ++ next) inner ≡ begins_with CaseSensitive next left
begins_on text next inner left here is =
    begins_with-append CaseSensitive text next inner ∙ ap (λ t. t && begins_with CaseSensitive next (drop (length text) inner)) here ∙ ap (begins_with CaseSensitive next) (sym is)

pub begins_not : (text next inner : List ℕ) → begins_with CaseSensitive text (take (length text) inner) ≡ false → begins_with CaseSensitive (text ++ next) inner ≡ false
begins_not text next inner here =
    begins_with-append CaseSensitive text next inner ∙ ap (λ t. t && begins_with CaseSensitive next (drop (length text) inner)) here

module _ (forest : Forest) (n : ℕ) (ns ms text : List ℕ) (is : text ≡ text_at forest n) (step : ns ≡ n ∷ ms) where
  pub cut_off : (left : List ℕ) → begins_with CaseSensitive (flat_map (text_at forest) ns) left ≡ begins_with CaseSensitive (text ++ flat_map (text_at forest) ms) left
  cut_off left = ap (λ ks. begins_with CaseSensitive (flat_map (text_at forest) ks) left) step ∙ ap (λ t. begins_with CaseSensitive (t ++ flat_map (text_at forest) ms) left) (sym is)

  -- what is sought goes on behind this text
  pub goes_behind : (left behind : List ℕ) (found : Bool) → begins_with CaseSensitive text (take (length text) left) ≡ true → behind ≡ drop (length text) left →
      begins_with CaseSensitive (flat_map (text_at forest) ns) left ≡ found → begins_with CaseSensitive (flat_map (text_at forest) ms) behind ≡ found
  goes_behind left behind found here rest all = sym (begins_on text (flat_map (text_at forest) ms) left behind here rest) ∙ sym (cut_off left) ∙ all

  pub goes_nowhere : (left : List ℕ) (found : Bool) → begins_with CaseSensitive text (take (length text) left) ≡ false →
      begins_with CaseSensitive (flat_map (text_at forest) ns) left ≡ found → false ≡ found
  goes_nowhere left found here all = sym (begins_not text (flat_map (text_at forest) ms) left here) ∙ sym (cut_off left) ∙ all

-- nothing begins everywhere
pub begins_empty : (text inner : List ℕ) → inner ≡ [] → begins_with CaseSensitive text inner ≡ true
begins_empty text inner e = ap (begins_with CaseSensitive text) e

pub nothing_left : (ns left : List ℕ) (forest : Forest) (found empty : Bool) → ns ≡ [] → empty ≡ (length left == 0) → begins_with CaseSensitive (flat_map (text_at forest) ns) left ≡ found → empty ≡ found
nothing_left ns left forest found empty e is all = is ∙ sym (begins_nothing CaseSensitive left) ∙ sym (ap (λ ks. begins_with CaseSensitive (flat_map (text_at forest) ks) left) e) ∙ all

pub among_here : (a next inner : List ℕ) (n : ℕ) → n < length a → begins_with CaseSensitive (drop n a ++ next) inner ≡ true → begins_among (drop n a) next inner ≡ true
among_here [] next inner n low h = absurd (omega arith)
among_here (x ∷ xs) next inner zero low h = ap (λ b. b || begins_among xs next inner) h
among_here (x ∷ xs) next inner (suc n) low h = among_here xs next inner n (omega arith) h

pub among_later : (a next inner : List ℕ) (n : ℕ) → n < length a → begins_with CaseSensitive (drop n a ++ next) inner ≡ false →
    begins_among (drop (n + 1) a) next inner ≡ begins_among (drop n a) next inner
among_later a next inner n low h =
    let on : n + 1 ≡ suc n = omega arith in
    let cut = drop-cons a n 0 low in
    let here : begins_with CaseSensitive (get_or a n 0 ∷ (drop (suc n) a ++ next)) inner ≡ false = ap (λ t. begins_with CaseSensitive (t ++ next) inner) (sym cut) ∙ h in
    ap (λ k. begins_among (drop k a) next inner) on
    ∙ sym (ap (λ b. b || begins_among (drop (suc n) a) next inner) here)
    ∙ ap (λ t. begins_among t next inner) (sym cut)

-- the texts one after the other

pub within_first : (forest : Forest) (inner text : List ℕ) (n : ℕ) (ns ms : List ℕ) → text ≡ text_at forest n → ns ≡ n ∷ ms →
    has_within CaseSensitive (flat_map (text_at forest) ns) inner ≡ (begins_among text (flat_map (text_at forest) ms) inner || has_within CaseSensitive (flat_map (text_at forest) ms) inner)
within_first forest inner text n ns ms is step =
    ap (λ ks. has_within CaseSensitive (flat_map (text_at forest) ks) inner) step
    ∙ ap (λ t. has_within CaseSensitive (t ++ flat_map (text_at forest) ms) inner) (sym is)
    ∙ has_within-append text (flat_map (text_at forest) ms) inner

pub within_none : (forest : Forest) (inner : List ℕ) (ns : List ℕ) (empty : Bool) → ns ≡ [] → empty ≡ (length inner == 0) →
    empty ≡ has_within CaseSensitive (flat_map (text_at forest) ns) inner
within_none forest inner ns empty none is = is ∙ sym (begins_nothing CaseSensitive inner) ∙ sym (ap (λ ks. has_within CaseSensitive (flat_map (text_at forest) ks) inner) none)

module _ (forest : Forest) (inner text : List ℕ) (n : ℕ) (ns ms : List ℕ) (is : text ≡ text_at forest n) (step : ns ≡ n ∷ ms) (begins : Bool) (asked : begins ≡ begins_among text (flat_map (text_at forest) ms) inner) where
  pub found_first : begins ≡ true → has_within CaseSensitive (flat_map (text_at forest) ns) inner ≡ true
  found_first t = within_first forest inner text n ns ms is step ∙ ap (λ b. b || has_within CaseSensitive (flat_map (text_at forest) ms) inner) (sym asked ∙ t)

  pub passed_first : begins ≡ false → has_within CaseSensitive (flat_map (text_at forest) ns) inner ≡ has_within CaseSensitive (flat_map (text_at forest) ms) inner
  passed_first f = within_first forest inner text n ns ms is step ∙ ap (λ b. b || has_within CaseSensitive (flat_map (text_at forest) ms) inner) (sym asked ∙ f)

pub in_all : (forest : Forest) (n : ℕ) (wanted inner left : List ℕ) → left ≡ descendants_in_order forest n → wanted ≡ inner →
    has_within CaseSensitive (flat_map (text_at forest) (n ∷ left)) wanted ≡ joined_contains_at forest inner n
in_all forest n wanted inner left e w =
    ap (λ ks. has_within CaseSensitive (flat_map (text_at forest) (n ∷ ks)) wanted) e ∙ ap (has_within CaseSensitive (text_of forest n)) w

-- a text within one of the texts stands within the joined ones

begins_front : (text next inner : List ℕ) → begins_with CaseSensitive text inner ≡ true → begins_with CaseSensitive (text ++ next) inner ≡ true
begins_front [] next [] h = refl
begins_front [] next (b ∷ bs) h = absurd (true≢false (sym h))
begins_front (a ∷ more) next [] h = refl
begins_front (a ∷ more) next (b ∷ bs) h =
    elim (cases_Bool (same_byte CaseSensitive a b)) [
      | inl t ↦ ap (λ s. s && begins_with CaseSensitive (more ++ next) bs) t ∙ begins_front more next bs (sym (ap (λ s. s && begins_with CaseSensitive more bs) t) ∙ h)
      | inr f ↦ absurd (true≢false (sym h ∙ ap (λ s. s && begins_with CaseSensitive more bs) f))
    ]

nothing_within : (text : List ℕ) → has_within CaseSensitive text [] ≡ true
nothing_within [] = refl
nothing_within (a ∷ more) = refl

within_front : (text next inner : List ℕ) → has_within CaseSensitive text inner ≡ true → has_within CaseSensitive (text ++ next) inner ≡ true
within_front [] next [] h = nothing_within next
within_front [] next (b ∷ bs) h = absurd (true≢false (sym h))
within_front (a ∷ more) next inner h =
    elim (or_cases (begins_with CaseSensitive (a ∷ more) inner) (has_within CaseSensitive more inner) h) [
      | inl t ↦ or_left (begins_with CaseSensitive (a ∷ (more ++ next)) inner) (has_within CaseSensitive (more ++ next) inner) (begins_front (a ∷ more) next inner t)
      | inr t ↦ or_right (begins_with CaseSensitive (a ∷ (more ++ next)) inner) (has_within CaseSensitive (more ++ next) inner) (within_front more next inner t)
    ]

within_behind : (text next inner : List ℕ) → has_within CaseSensitive next inner ≡ true → has_within CaseSensitive (text ++ next) inner ≡ true
within_behind text next inner h = has_within-append text next inner ∙ or_right (begins_among text next inner) (has_within CaseSensitive next inner) h

one_within : (inner : List ℕ) (node : Option NodeData) → option_map_or (text_contains inner) node false ≡ true → has_within CaseSensitive (option_map_or text_in node []) inner ≡ true
one_within inner None h = absurd (true≢false (sym h))
one_within inner (Some (Text contents)) h = h
one_within inner (Some _) h = absurd (true≢false (sym h))

some_within : (forest : Forest) (inner ns : List ℕ) → list_any (contains_at forest inner) ns ≡ true → has_within CaseSensitive (flat_map (text_at forest) ns) inner ≡ true
some_within forest inner [] h = absurd (true≢false (sym h))
some_within forest inner (n ∷ ns) h =
    elim (or_cases (contains_at forest inner n) (list_any (contains_at forest inner) ns) h) [
      | inl t ↦ within_front (text_at forest n) (flat_map (text_at forest) ns) inner (one_within inner (slice_get forest.content n) t)
      | inr t ↦ within_behind (text_at forest n) (flat_map (text_at forest) ns) inner (some_within forest inner ns t)
    ]

pub joined_if_one : (forest : Forest) (inner : List ℕ) (n : ℕ) → has_text_at forest inner n ≡ true → joined_contains_at forest inner n ≡ true
joined_if_one forest inner n h = some_within forest inner (n ∷ descendants_in_order forest n) h
