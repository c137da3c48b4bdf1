-- Plain selectors: their tests, and what they mean.
use Rattle.std.proofs.Common.{◌≡◌, ◌↔◌, ◌⊎◌, ◌<◌, ◌≤◌, ◌+◌, ℕ, zero, suc, List, [], ◌∷◌, ◌++◌, Some, inl, inr, refl, sym, ap, ◌∙◌, subst, length, slice_get, set, take, map, arith}
use Rattle.std.specs.Option.{option_map}
use Rattle.dom_index.proofs.PlaceLemmas.{same_or_not}
use Rattle.std.proofs.Math.ListN.{get_or}
use Rattle.std.proofs.lemmas.Option.{none-some, same_Some, slice_get-map, slice_get-get_or, slice_get_cases, slice_get_past, slice_get_within, get_or_from_slice_get}
use Rattle.std.proofs.lemmas.Bool.{cases_lt}
use Rattle.std.proofs.lemmas.List.{get_or-set_other, get_or-set_same, length-set, take_more}
use Rattle.dom_links.specs.Forest.{Forest}
use Rattle.dom_selectors.specs.declared.syntax.Combinator.{Combinator}
use Rattle.dom_selectors.specs.declared.syntax.Compound.{Compound}
use Rattle.dom_selectors.specs.declared.syntax.Selector.{Selector, out-Selector}
use Rattle.dom_selectors.specs.declared.syntax.Step.{Step}
use Rattle.dom_selectors.specs.ListsAsTrees.{steps_of}
use Rattle.dom_selectors.specs.Syntax.{CompoundSelector, Steps}
use Rattle.dom_selectors.specs.ValuesAsTrees.{read_compound, read_list, read_step}
use Rattle.dom_selectors.proofs.Layers.{read_selector_is, read_step_is}
use Rattle.dom_select.specs.Meaning.{Holds, MatchesNode, StepsMatch}
use Rattle.dom_index.specs.declared.node_tests.NodeTest.{NodeTest}
use Rattle.dom_index.specs.declared.chains.Chain.{Chain}
use Rattle.dom_index.specs.declared.streaming.Rows.{Rows}
use Rattle.dom_index.specs.Tracks.{AreChainsOf, AreFollowing, ArePrepared, AreTracked, IsChainOf, IsFollowing, IsPrepared, IsTracked, Reaches, SomeReaches, first_in, steps_in}
use Rattle.dom_index.specs.FlagRows.{AreAlong, StepsReach, compound_at, is_sideways}
use Rattle.dom_index.specs.NodeTests.{ArePlain, IsPlain, IsReady}
use Rattle.dom_index.specs.CompoundCounts.{compound_count, selectors_count, steps_count}
use Rattle.dom_index.proofs.FlagLemmas.{read_there}
use Rattle.dom_index.proofs.ListLemmas.{selectors_cut}

-- an element of a list with one more at its end
pub old_or_last : {A : Type 0} (xs : List A) (y : A) (j : ℕ) (x : A) → slice_get (xs ++ y ∷ []) j ≡ Some x → (slice_get xs j ≡ Some x) ⊎ ((j ≡ length xs) × (y ≡ x))
old_or_last [] y zero x is = inr (refl, same_Some y x is)
old_or_last [] y (suc j) x is = inl is
old_or_last (z ∷ xs) y zero x is = inl is
old_or_last (z ∷ xs) y (suc j) x is = elim (old_or_last xs y j x is) [
  | inl old ↦ inl old
  | inr last ↦ inr (ap suc last.0, last.1)
]

-- the tests are those of the first compounds
abbrev pub AreTests : Compound → List Step → List NodeTest → Type 0
AreTests first steps tests = (j : ℕ) (test : NodeTest) → slice_get tests j ≡ Some test → IsReady test × (compound_at (read_compound first) (map read_step steps) j ≡ Some (read_compound test.compound.now))

pub tests_more : (first : Compound) (steps : List Step) (i : ℕ) (s : Step) (tests longer : List NodeTest) (test : NodeTest) → i < length steps → s ≡ get_or steps i s → length tests ≡ i + 1 → longer ≡ tests ++ test ∷ [] → IsReady test → test.compound.now ≡ s.compound →
    AreTests first steps tests → AreTests first steps longer
tests_more first steps i s tests longer test inside read long is ready of so_far = λ j t at. elim (old_or_last tests test j t (ap (λ (ts : List NodeTest). slice_get ts j) (sym is) ∙ at)) [
  | inl old ↦ so_far j t old
  | inr last ↦
      let here : slice_get (map read_step steps) i ≡ Some (read_step s) = slice_get-map read_step steps i ∙ ap (option_map read_step) (read_there steps i s inside read) in
      let compound : compound_at (read_compound first) (map read_step steps) (suc i) ≡ Some (read_compound s.compound) = ap (option_map (λ (r : Combinator × CompoundSelector). r.1)) here ∙ ap (λ (r : Combinator × CompoundSelector). Some r.1) (read_step_is s) in
      let place : j ≡ suc i = let end = last.0 in omega (arith, end, long) in
      (subst IsReady last.1 ready, ap (compound_at (read_compound first) (map read_step steps)) place ∙ (compound ∙ ap (λ (c : Compound). Some (read_compound c)) (sym of ∙ ap (λ (u : NodeTest). u.compound.now) last.1)))
]

-- what one selector means
pub reached_meant : (s : Selector) (first : CompoundSelector) (steps : List (Combinator × CompoundSelector)) → first ≡ read_compound (out-Selector s).first → steps ≡ map read_step (out-Selector s).rest.items → (forest : Forest) (n : ℕ) →
    StepsReach forest first steps n ↔ MatchesNode (read_list (s ∷ [])) forest n
reached_meant s first steps begins goes forest n =
    let P : Combinator × CompoundSelector × Steps → Type 0 = λ r. (w : ℕ) × Holds r.1 forest w × StepsMatch r.2 forest n w n in
    let lead = (out-Selector s).lead in (
      λ h. inl (subst P (sym (read_selector_is s)) (subst (λ (ss : List (Combinator × CompoundSelector)). P (lead, read_compound (out-Selector s).first, steps_of ss)) goes (subst (λ (c : CompoundSelector). P (lead, c, steps_of steps)) begins h))),
      λ m. elim m [
        | inl h ↦ subst (λ (c : CompoundSelector). P (lead, c, steps_of steps)) (sym begins) (subst (λ (ss : List (Combinator × CompoundSelector)). P (lead, read_compound (out-Selector s).first, steps_of ss)) (sym goes) (subst P (read_selector_is s) h))
        | inr none ↦ absurd none
      ],
    )

-- all steps go one way where each does
pub all_along : (way : Combinator) (steps : List Step) → ((j : ℕ) (s : Step) → j < length steps → slice_get steps j ≡ Some s → is_sideways s.combinator ≡ is_sideways way) → AreAlong way (map read_step steps)
all_along way steps each = λ j r at. elim (slice_get_cases steps j).1 [
  | inl some ↦
      let here : slice_get (map read_step steps) j ≡ Some (read_step some.0) = slice_get-map read_step steps j ∙ ap (option_map read_step) some.2 in
      let same : (some.0.combinator, read_compound some.0.compound) ≡ r = sym (read_step_is some.0) ∙ same_Some (read_step some.0) r (sym here ∙ at) in
      subst (λ (k : Combinator). is_sideways k ≡ is_sideways way) (ap (λ (q : Combinator × CompoundSelector). q.0) same) (each j some.0 some.1 some.2)
  | inr past ↦ absurd (none-some r (sym (slice_get-map read_step steps j ∙ ap (option_map read_step) past.1) ∙ at))
]

-- one step more goes that way
pub along_more : (way : Combinator) (steps : List Step) (i : ℕ) (one : Step) → ((j : ℕ) (s : Step) → j < i → slice_get steps j ≡ Some s → is_sideways s.combinator ≡ is_sideways way) → is_sideways (get_or steps i one).combinator ≡ is_sideways way →
    (j : ℕ) (s : Step) → j < i + 1 → slice_get steps j ≡ Some s → is_sideways s.combinator ≡ is_sideways way
along_more way steps i one so_far next j s below at = elim (cases_lt j i) [
  | inl less ↦ so_far j s less at
  | inr past ↦
      let same : j ≡ i = omega (arith, below, past) in
      let here : slice_get steps i ≡ Some s = ap (slice_get steps) (sym same) ∙ at in
      subst (λ (x : Step). is_sideways x.combinator ≡ is_sideways way) (get_or_from_slice_get steps i s one here) next
]

-- what the selectors of a list mean
pub some_meant : (selectors : List Selector) (chains : List Chain) → AreChainsOf selectors chains → (forest : Forest) (n : ℕ) → SomeReaches chains forest n ↔ MatchesNode (read_list selectors) forest n
some_meant [] chains are forest n = (λ h. subst (λ (cs : List Chain). SomeReaches cs forest n) are h, λ m. absurd m)
some_meant (s ∷ ss) [] are forest n = absurd are
some_meant (s ∷ ss) (chain ∷ chains) are forest n =
    let one = reached_meant s (first_in chain) (steps_in chain) are.0.first are.0.steps forest n in
    let more = some_meant ss chains are.1 forest n in (
      λ h. elim h [
        | inl here ↦ elim (one.0 here) [
          | inl m ↦ inl m
          | inr none ↦ absurd none
        ]
        | inr later ↦ inr (more.0 later)
      ],
      λ m. elim m [
        | inl here ↦ inl (one.1 (inl here))
        | inr later ↦ inr (more.1 later)
      ],
    )

-- one chain more
pub chains_more : (selectors : List Selector) (chains : List Chain) (s : Selector) (chain : Chain) → AreChainsOf selectors chains → IsChainOf s chain → AreChainsOf (selectors ++ s ∷ []) (chains ++ chain ∷ [])
chains_more [] chains s chain are is = subst (λ (cs : List Chain). AreChainsOf (s ∷ []) (cs ++ chain ∷ [])) (sym are) (is, refl)
chains_more (t ∷ ts) [] s chain are is = absurd are
chains_more (t ∷ ts) (c ∷ cs) s chain are is = (are.0, chains_more ts cs s chain are.1 is)

prepared_at : (c : Chain) (cs : List Chain) → IsPrepared c → ArePrepared cs → (i : ℕ) (chain : Chain) → slice_get (c ∷ cs) i ≡ Some chain → IsPrepared chain
prepared_at c cs here rest zero chain at = subst IsPrepared (same_Some c chain at) here
prepared_at c cs here rest (suc i) chain at = rest i chain at

pub chains_prepared : (selectors : List Selector) (chains : List Chain) → AreChainsOf selectors chains → ArePrepared chains
chains_prepared [] chains are = λ i chain at. absurd (none-some chain (sym (ap (λ (cs : List Chain). slice_get cs i) are ∙ slice_get_past [] i (omega arith)) ∙ at))
chains_prepared (s ∷ ss) [] are = absurd are
chains_prepared (s ∷ ss) (c ∷ cs) are = prepared_at c cs are.0.prepared (chains_prepared ss cs are.1)

-- one of several and one more
pub some_more : (chains : List Chain) (chain : Chain) (forest : Forest) (n : ℕ) → SomeReaches (chains ++ chain ∷ []) forest n ↔ (SomeReaches chains forest n ⊎ Reaches chain forest n)
some_more [] chain forest n = (
  λ h. elim h [
    | inl here ↦ inr here
    | inr none ↦ absurd none
  ],
  λ h. elim h [
    | inl none ↦ absurd none
    | inr here ↦ inl here
  ],
)
some_more (c ∷ cs) chain forest n =
    let rest = some_more cs chain forest n in (
      λ h. elim h [
        | inl here ↦ inl (inl here)
        | inr later ↦ elim (rest.0 later) [
          | inl some ↦ inl (inr some)
          | inr last ↦ inr last
        ]
      ],
      λ h. elim h [
        | inl some ↦ elim some [
          | inl here ↦ inl here
          | inr later ↦ inr (rest.1 (inl later))
        ]
        | inr last ↦ inr (rest.1 (inr last))
      ],
    )

-- rows more
pub tracked_more : (chains : List Chain) (forest : Forest) (all longer : List Rows) (rows : Rows) (i : ℕ) (one : Chain) → i < length chains → one ≡ get_or chains i one → length all ≡ i → longer ≡ all ++ rows ∷ [] →
    IsTracked one forest rows → AreTracked chains forest all → AreTracked chains forest longer
tracked_more chains forest all longer rows i one inside read long is here so_far = λ j chain r there at. elim (old_or_last all rows j r (ap (λ (rs : List Rows). slice_get rs j) (sym is) ∙ at)) [
  | inl old ↦ so_far j chain r there old
  | inr last ↦
      let same : one ≡ chain = same_Some one chain (sym (read_there chains i one inside read) ∙ (ap (slice_get chains) (sym (last.0 ∙ long)) ∙ there)) in
      subst (IsTracked chain forest) last.1 (subst (λ (k : Chain). IsTracked k forest rows) same here)
]

pub tracked_none : (chains : List Chain) (forest : Forest) (all : List Rows) → all ≡ [] → AreTracked chains forest all
tracked_none chains forest all is = λ i chain rows there at. absurd (none-some rows (sym (ap (λ (rs : List Rows). slice_get rs i) is ∙ slice_get_past [] i (omega arith)) ∙ at))

-- what is read with another default is the same
same_read : {A : Type 0} (xs : List A) (i : ℕ) (d e : A) → i < length xs → get_or xs i d ≡ get_or xs i e
same_read xs i d e inside = get_or_from_slice_get xs i (get_or xs i e) d (slice_get-get_or xs i e inside)

pub plain_here : (selectors : List Selector) (i : ℕ) (one : Selector) (rest : List Step) → ArePlain selectors → i < length selectors → rest ≡ (out-Selector (get_or selectors i one)).rest.items → IsPlain rest
plain_here selectors i one rest plain inside is = subst IsPlain (sym is) (plain i (get_or selectors i one) (slice_get-get_or selectors i one inside))

pub plain_next : (selectors : List Selector) (i : ℕ) (one : Selector) (rest : List Step) → ((j : ℕ) (s : Selector) → j < i → slice_get selectors j ≡ Some s → IsPlain (out-Selector s).rest.items) →
    rest ≡ (out-Selector (get_or selectors i one)).rest.items → IsPlain rest → (j : ℕ) (s : Selector) → j < i + 1 → slice_get selectors j ≡ Some s → IsPlain (out-Selector s).rest.items
plain_next selectors i one rest so_far is plain j s below at = elim (cases_lt j i) [
  | inl less ↦ so_far j s less at
  | inr past ↦
      let same : j ≡ i = omega (arith, below, past) in
      let here : slice_get selectors i ≡ Some s = ap (slice_get selectors) (sym same) ∙ at in
      subst IsPlain (is ∙ ap (λ (x : Selector). (out-Selector x).rest.items) (get_or_from_slice_get selectors i s one here)) plain
]

pub chains_next : (selectors : List Selector) (i : ℕ) (one other : Selector) (chains longer : List Chain) (chain : Chain) (rest : List Step) → i < length selectors → AreChainsOf (take i selectors) chains → longer ≡ chains ++ chain ∷ [] → IsPrepared chain →
    first_in chain ≡ read_compound (out-Selector (get_or selectors i one)).first → steps_in chain ≡ map read_step rest → rest ≡ (out-Selector (get_or selectors i other)).rest.items → AreChainsOf (take (i + 1) selectors) longer
chains_next selectors i one other chains longer chain rest inside are is prepared begins goes read =
    let of : IsChainOf (get_or selectors i one) chain = record {
      prepared = prepared;
      first = begins;
      steps = goes ∙ ap (λ (ss : List Step). map read_step ss) (read ∙ ap (λ (x : Selector). (out-Selector x).rest.items) (same_read selectors i other one inside));
    } in
    subst (λ (ss : List Selector). AreChainsOf ss longer) (sym (take_more selectors i one inside)) (subst (AreChainsOf (take i selectors ++ get_or selectors i one ∷ [])) (sym is) (chains_more (take i selectors) chains (get_or selectors i one) chain are of))

-- one path less to follow
pub following_set : (chains : List Chain) (all : List Rows) (i : ℕ) (one : Chain) (rows : Rows) (forest caches new : Forest) → i < length chains → AreFollowing chains all forest caches → IsFollowing (get_or chains i one) rows forest new → AreFollowing chains (set all i rows) forest new
following_set chains all i one rows forest caches new inside following here = record {
  prepared = following.prepared;
  long = length-set all i rows ∙ following.long;
  tracked = λ j chain r there read. elim (same_or_not j i) [
    | inl same ↦
        let known : i < length all = let long = following.long in omega (arith, inside, long) in
        let old : get_or chains i one ≡ chain = get_or_from_slice_get chains i chain one (ap (slice_get chains) (sym same) ∙ there) in
        let written : rows ≡ r = sym (get_or-set_same all i rows rows known) ∙ get_or_from_slice_get (set all i rows) i r rows (ap (slice_get (set all i rows)) (sym same) ∙ read) in
        subst (IsTracked chain forest) written (subst (λ (k : Chain). IsTracked k forest rows) old here.tracked)
    | inr other ↦
        let within : j < length all = let w = slice_get_within (set all i rows) j r read in let long = length-set all i rows in omega (arith, w, long) in
        let kept : get_or all j r ≡ r = sym (get_or-set_other all i j rows r other) ∙ get_or_from_slice_get (set all i rows) j r r read in
        following.tracked j chain r there (slice_get-get_or all j r within ∙ ap (λ (q : Rows). Some q) kept)
  ];
  caches_are = here.caches_are;
}

pub following_one : (chains : List Chain) (all : List Rows) (i : ℕ) (one : Chain) (rows : Rows) (forest caches : Forest) → i < length chains → rows ≡ get_or all i rows → AreFollowing chains all forest caches → IsFollowing (get_or chains i one) rows forest caches
following_one chains all i one rows forest caches inside read following = record {
  prepared = following.prepared i (get_or chains i one) (slice_get-get_or chains i one inside);
  tracked = following.tracked i (get_or chains i one) rows (slice_get-get_or chains i one inside) (read_there all i rows (let long = following.long in omega (arith, inside, long)) read);
  caches_are = following.caches_are;
}

-- one of the first selectors is one of them all
pub some_taken : (k : ℕ) (chains : List Chain) (forest : Forest) (n : ℕ) → SomeReaches (take k chains) forest n → SomeReaches chains forest n
some_taken zero chains forest n h = absurd h
some_taken (suc k) [] forest n h = absurd h
some_taken (suc k) (chain ∷ chains) forest n h = elim h [
  | inl here ↦ inl here
  | inr later ↦ inr (some_taken k chains forest n later)
]

-- one selector more
module _ (chains : List Chain) (i : ℕ) (one : Chain) (forest : Forest) (n : ℕ) (inside : i < length chains) where
  next_taken : SomeReaches (take (i + 1) chains) forest n ↔ (SomeReaches (take i chains) forest n ⊎ Reaches (get_or chains i one) forest n)
  next_taken = subst (λ (cs : List Chain). SomeReaches cs forest n ↔ (SomeReaches (take i chains) forest n ⊎ Reaches (get_or chains i one) forest n)) (sym (take_more chains i one inside)) (some_more (take i chains) (get_or chains i one) forest n)

  pub some_here : Reaches (get_or chains i one) forest n → SomeReaches chains forest n
  some_here h = some_taken (i + 1) chains forest n (next_taken.1 (inr h))

  pub none_here : (SomeReaches (take i chains) forest n → ⊥) → (Reaches (get_or chains i one) forest n → ⊥) → SomeReaches (take (i + 1) chains) forest n → ⊥
  none_here before here h = elim (next_taken.0 h) [
    | inl some ↦ before some
    | inr one ↦ here one
  ]

-- the only item of a list
pub one_item : (xs : List ℕ) (x : ℕ) → 1 ≤ length xs → length xs < 2 → x ≡ get_or xs 0 x → xs ≡ x ∷ []
one_item [] x least below is = absurd (omega (arith, least))
one_item (y ∷ []) x least below is = ap (λ (z : ℕ). z ∷ []) (sym is)
one_item (y ∷ z ∷ zs) x least below is = absurd (omega (arith, below))

-- the test that was read is that of the compound of its number
pub test_at : (chain : Chain) → IsPrepared chain → (i : ℕ) (test : NodeTest) → i ≤ length chain.steps.now → test ≡ get_or chain.tests.items i test → IsReady test × (compound_at (first_in chain) (steps_in chain) i ≡ Some (read_compound test.compound.now))
test_at chain prepared i test inside is = prepared.tests i test (read_there chain.tests.items i test (let count = prepared.count in omega (arith, count, inside)) is)
