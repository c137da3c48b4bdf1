-- Tree construction switches the tokenizer behind start tags with certain names alone, so what it answers is feedback as the tokenizer asks
-- for it.
use Rattle.std.proofs.Common.{◌≡◌, ◌∙◌, ◌∷◌, ◌++◌, ◌||◌, ◌⊎◌, Bool, List, [], ap, false, inl, inr, not, refl, reverse, subst, suc, sym, true, zero, ℕ, true≢false}
use Rattle.std.specs.List.{list_all, list_any}
use Rattle.std.specs.Option.{option_and_then}
use Rattle.std.specs.Prelude.{None, Option, Some, bytes_eq, cond, find, option_map, unwrap_or, ◌&&◌}
use Rattle.std.proofs.lemmas.Bool.{and_parts}
use Rattle.std.proofs.lemmas.Option.{same_Some}
use Rattle.std.proofs.lemmas.Slice.Eq.{bytes_eq-Decides}
use Rattle.standard_tokens.specs.Reading.{IsFeedback, is_switching, may_switch}
use Rattle.standard_tokens.specs.States.{State}
use Rattle.standard_tokens.specs.Tokens.{AChar, AComment, ADoctype, AStart, AnEnd, AnEof, Token}
use Rattle.standard_trees.specs.Building.{Building, adjusted, each_char, fits, gone, is_line_feed, is_met, own_name, perform, performed, renamed, run, taken, tree_step, tree_steps}
use Rattle.standard_trees.specs.Building.{with_next, with_token}
use Rattle.standard_trees.specs.GrowingTree.{is_among, lower}
use Rattle.standard_trees.specs.NameLists.{svg_names}
use Rattle.standard_trees.specs.Parsing.{state_of}
use Rattle.standard_trees.specs.RuleWords.{Act, Action, AdjustSvgName, Dispatcher, Mode, Pattern, Rename, Reprocess, Rule, StartTagOf, TokenizerTo, Use, UseCurrentMode}
use Rattle.standard_trees.specs.RuleWords.{Test, UseForEachPending, Way, does, goes, rule}
use Rattle.standard_trees.specs.RuleWords as M
use Rattle.standard_trees.specs.TreeRules.{rules}
use Rattle.standard_agreement.specs.TokensAndTrees.{feedback_of}

-- ---- the table

-- the tokenizer is not switched, and the token gets no name behind which it may be
abbrev quiet_act : Act → Bool
quiet_act (does (TokenizerTo state) tests) = false
quiet_act (does (Rename name) tests) = not (is_switching name)
quiet_act _ = true

abbrev only_switching : Pattern → Bool
only_switching (StartTagOf names) = list_all is_switching names
only_switching _ = false

abbrev honest_rule : Rule → Bool
honest_rule (rule patterns tests acts) = list_all quiet_act acts || list_all only_switching patterns

honest_rules : (mode : Mode) → list_all honest_rule (rules mode) ≡ true
unfolding rules
honest_rules M.Dispatcher = refl
honest_rules M.Initial = refl
honest_rules M.BeforeHtml = refl
honest_rules M.BeforeHead = refl
honest_rules M.InHead = refl
honest_rules M.InHeadNoscript = refl
honest_rules M.AfterHead = refl
honest_rules M.InBody = refl
honest_rules M.Text = refl
honest_rules M.InTable = refl
honest_rules M.InTableText = refl
honest_rules M.InCaption = refl
honest_rules M.InColumnGroup = refl
honest_rules M.InTableBody = refl
honest_rules M.InRow = refl
honest_rules M.InCell = refl
honest_rules M.InTemplate = refl
honest_rules M.AfterBody = refl
honest_rules M.InFrameset = refl
honest_rules M.AfterFrameset = refl
honest_rules M.AfterAfterBody = refl
honest_rules M.AfterAfterFrameset = refl
honest_rules M.ForeignContent = refl

either : (x y : Bool) → x || y ≡ true → (x ≡ true) ⊎ (y ≡ true)
either true y h = inl refl
either false y h = inr h

among_switching : (name : List ℕ) (names : List (List ℕ)) → list_all is_switching names ≡ true → is_among name names ≡ true → is_switching name ≡ true
among_switching name [] all h = absurd (true≢false (sym h))
among_switching name (one ∷ names) all h = elim (either (bytes_eq name one) (is_among name names) h) [
  | inl e ↦ subst (λ n. is_switching n ≡ true) (sym ((bytes_eq-Decides name one).0 e)) (and_parts (is_switching one) (list_all is_switching names) all).0
  | inr e ↦ among_switching name names (and_parts (is_switching one) (list_all is_switching names) all).1 e
]

fits_switching : (pattern : Pattern) (t : Token) → only_switching pattern ≡ true → fits pattern t ≡ true → may_switch t ≡ true
fits_switching (StartTagOf names) (AStart name attrs closing) only h = among_switching name names only h
fits_switching (StartTagOf names) (AnEnd name) only h = absurd (true≢false (sym h))
fits_switching (StartTagOf names) (AChar c) only h = absurd (true≢false (sym h))
fits_switching (StartTagOf names) (AComment text) only h = absurd (true≢false (sym h))
fits_switching (StartTagOf names) (ADoctype doctype) only h = absurd (true≢false (sym h))
fits_switching (StartTagOf names) AnEof only h = absurd (true≢false (sym h))
fits_switching _ t only h = absurd (true≢false (sym only))

any_switching : (patterns : List Pattern) (t : Token) → list_all only_switching patterns ≡ true → list_any (λ pattern. fits pattern t) patterns ≡ true → may_switch t ≡ true
any_switching [] t only h = absurd (true≢false (sym h))
any_switching (pattern ∷ more) t only h = elim (either (fits pattern t) (list_any (λ one. fits one t) more) h) [
  | inl e ↦ fits_switching pattern t (and_parts (only_switching pattern) (list_all only_switching more) only).0 e
  | inr e ↦ any_switching more t (and_parts (only_switching pattern) (list_all only_switching more) only).1 e
]

-- the rule that is taken for another token is quiet
taken_quiet : (b : Building) (rs : List Rule) → list_all honest_rule rs ≡ true → may_switch b.token ≡ false → list_all quiet_act (taken b rs) ≡ true
unfolding taken
taken_quiet b [] all other = refl
taken_quiet b (rule patterns tests acts ∷ more) all other =
    by (list_any (λ pattern. fits pattern b.token) patterns) (list_all (is_met b) tests) refl
    (taken_quiet b more (and_parts (honest_rule (rule patterns tests acts)) (list_all honest_rule more) all).1 other)
  where
    here : list_any (λ pattern. fits pattern b.token) patterns ≡ true → list_all quiet_act acts ≡ true
    here e = elim (either (list_all quiet_act acts) (list_all only_switching patterns) (and_parts (honest_rule (rule patterns tests acts)) (list_all honest_rule more) all).0) [
      | inl quiet ↦ quiet
      | inr only ↦ absurd (true≢false (sym (any_switching patterns b.token only e) ∙ other))
    ]

    by : (x y : Bool) → list_any (λ pattern. fits pattern b.token) patterns ≡ x → list_all quiet_act (taken b more) ≡ true →
        list_all quiet_act (elim x [ true ↦ elim y [ true ↦ acts | false ↦ taken b more ] | false ↦ taken b more ]) ≡ true
    by true true e rest = here e
    by true false e rest = rest
    by false y e rest = rest

-- ---- actions

-- the tokenizer stays where it was switched, and it is not switched behind the token
abbrev Stays : Building → Building → Type 0
Stays b c = (c.tokenizer ≡ b.tokenizer) × (may_switch c.token ≡ false)

stays_on : (b c d : Building) → Stays b c → Stays c d → Stays b d
stays_on b c d one other = (other.0 ∙ one.0, other.1)

-- SVG's names are others
svg_quiet : (names : List (List ℕ)) → list_all (λ one. not (is_switching one)) names ≡ true → (name : List ℕ) → is_switching name ≡ false →
    is_switching (adjusted names name) ≡ false
svg_quiet [] all name other = other
svg_quiet (one ∷ names) all name other =
    by (bytes_eq (lower one) name) (not_true (is_switching one) (and_parts (not (is_switching one)) (list_all (λ n. not (is_switching n)) names) all).0)
    (svg_quiet names (and_parts (not (is_switching one)) (list_all (λ n. not (is_switching n)) names) all).1 name other)
  where
    not_true : (x : Bool) → not x ≡ true → x ≡ false
    not_true true h = absurd (true≢false (sym h))
    not_true false h = refl

    by : (x : Bool) → is_switching one ≡ false → is_switching (adjusted names name) ≡ false →
        is_switching (unwrap_or (cond x (Some one) (find (λ n. bytes_eq (lower n) name) names)) name) ≡ false
    by true this rest = this
    by false this rest = rest

svg_renamed : (t : Token) → may_switch t ≡ false → may_switch (renamed (adjusted svg_names (own_name t)) t) ≡ false
svg_renamed (AStart name attrs closing) other = svg_quiet svg_names refl name other
svg_renamed (AnEnd name) other = refl
svg_renamed (AChar c) other = refl
svg_renamed (AComment text) other = refl
svg_renamed (ADoctype doctype) other = refl
svg_renamed AnEof other = refl

plain_renamed : (name : List ℕ) (t : Token) → not (is_switching name) ≡ true → may_switch (renamed name t) ≡ false
plain_renamed name (AStart old attrs closing) quiet = by (is_switching name) quiet
  where
    by : (x : Bool) → not x ≡ true → x ≡ false
    by true h = absurd (true≢false (sym h))
    by false h = refl
plain_renamed name (AnEnd old) quiet = refl
plain_renamed name (AChar c) quiet = refl
plain_renamed name (AComment text) quiet = refl
plain_renamed name (ADoctype doctype) quiet = refl
plain_renamed name AnEof quiet = refl

perform_quiet : (action : Action) (b : Building) → quiet_act (does action []) ≡ true → may_switch b.token ≡ false → Stays b (perform action b)
unfolding perform
perform_quiet (TokenizerTo state) b quiet other = absurd (true≢false (sym quiet))
perform_quiet (Rename name) b quiet other = (refl, plain_renamed name b.token quiet)
perform_quiet AdjustSvgName b quiet other = (refl, svg_renamed b.token other)
perform_quiet _ b quiet other = (refl, other)

quiet_without : (action : Action) (b : Building) (x : Bool) → Stays b (perform action b) → may_switch b.token ≡ false → Stays b (elim x [ true ↦ perform action b | false ↦ b ])
quiet_without action b true stays other = stays
quiet_without action b false stays other = (refl, other)

-- ---- rules

abbrev Quiet : (Building → Option Building) → Type 0
Quiet f = (b c : Building) → may_switch b.token ≡ false → f b ≡ Some c → Stays b c

no_result : {A : Type 0} → {c : A} → None ≡ Some c → ⊥
no_result h = cc

then_quiet : (f : Building → Option Building) → Quiet f → (b : Building) (o : Option Building) → ((x : Building) → o ≡ Some x → Stays b x) → (c : Building) →
    option_and_then f o ≡ Some c → Stays b c
then_quiet f quiet b None first c h = absurd (no_result h)
then_quiet f quiet b (Some x) first c h = stays_on b x c (first x refl) (quiet x c (first x refl).1 h)

each_quiet : (again : Building → Option Building) → Quiet again → (cs : List ℕ) (b c : Building) → each_char again cs b ≡ Some c → c.tokenizer ≡ b.tokenizer
each_quiet again quiet [] b c h = ap (λ (d : Building). d.tokenizer) (sym (same_Some b c h))
each_quiet again quiet (d ∷ cs) b c h = by (again (with_token (AChar d) [] b)) refl h (λ x k. each_quiet again quiet cs x c k)
  where
    by : (o : Option Building) → again (with_token (AChar d) [] b) ≡ o → option_and_then (each_char again cs) o ≡ Some c →
        ((x : Building) → each_char again cs x ≡ Some c → c.tokenizer ≡ x.tokenizer) → c.tokenizer ≡ b.tokenizer
    by None e k later = absurd (no_result k)
    by (Some x) e k later = later x k ∙ (quiet (with_token (AChar d) [] b) x refl e).0

gone_quiet : (again : Mode → Building → Option Building) → ((mode : Mode) → Quiet (again mode)) → (way : Way) → Quiet (gone again way)
gone_quiet again quiet Reprocess b c other h = quiet Dispatcher b c other h
gone_quiet again quiet UseCurrentMode b c other h = quiet b.mode b c other h
gone_quiet again quiet (Use mode) b c other h = quiet mode b c other h
gone_quiet again quiet (UseForEachPending mode) b c other h = by (each_char (again mode) (reverse b.pending) b) refl h
  where
    by : (o : Option Building) → each_char (again mode) (reverse b.pending) b ≡ o → option_map (with_token b.token b.attrs) o ≡ Some c → Stays b c
    by None e k = absurd (no_result k)
    by (Some x) e k = subst (Stays b) (same_Some (with_token b.token b.attrs x) c k) (each_quiet (again mode) (quiet mode) (reverse b.pending) b x e, other)

performed_quiet : (again : Mode → Building → Option Building) → ((mode : Mode) → Quiet (again mode)) → (acts : List Act) → list_all quiet_act acts ≡ true →
    Quiet (performed again acts)
performed_quiet again quiet [] all b c other h = subst (Stays b) (same_Some b c h) (refl, other)
performed_quiet again quiet (does action tests ∷ acts) all b c other h =
    let parts = and_parts (quiet_act (does action [])) (list_all quiet_act acts) (sym (ap (λ x. x && list_all quiet_act acts) (untested action tests)) ∙ all) in
    let stays = quiet_without action b (list_all (is_met b) tests) (perform_quiet action b parts.0 other) other in
    stays_on b (elim (list_all (is_met b) tests) [ true ↦ perform action b | false ↦ b ]) c stays (performed_quiet again quiet acts parts.1 (elim (list_all (is_met b) tests) [ true ↦ perform action b | false ↦ b ]) c stays.1 h)
  where
    untested : (action : Action) (tests : List Test) → quiet_act (does action tests) ≡ quiet_act (does action [])
    untested (TokenizerTo state) tests = refl
    untested (Rename name) tests = refl
    untested _ tests = refl
performed_quiet again quiet (goes way ∷ acts) all b c other h =
    then_quiet (performed again acts) (performed_quiet again quiet acts all) b (gone again way b) (λ x e. gone_quiet again quiet way b x other e) c h

run_quiet : (depth : ℕ) (mode : Mode) → Quiet (run depth mode)
unfolding run
run_quiet zero mode b c other h = absurd (no_result h)
run_quiet (suc depth) mode b c other h =
    performed_quiet (run depth) (run_quiet depth) (taken b (rules mode)) (taken_quiet b (rules mode) (honest_rules mode) other) b c other h

-- ---- steps

pub step_quiet : (depth : ℕ) (b : Building) (t : Token) (c : Building) → may_switch t ≡ false → tree_step depth b t ≡ Some c → c.tokenizer ≡ None
unfolding tree_step
step_quiet depth b t c other h = by (b.skip && is_line_feed t) h
  where
    by : (x : Bool) → elim x [ true ↦ Some (with_next t b) | false ↦ run depth Dispatcher (with_next t b) ] ≡ Some c → c.tokenizer ≡ None
    by true k = ap (λ (d : Building). d.tokenizer) (sym (same_Some (with_next t b) c k))
    by false k = (run_quiet depth Dispatcher (with_next t b) c other k).0

abbrev answer : Building → Option State
answer now = option_map state_of now.tokenizer

last_quiet : (depth : ℕ) (seen : List Token) (b : Building) (t : Token) → may_switch t ≡ false → option_and_then answer (tree_steps depth b (seen ++ t ∷ [])) ≡ None
last_quiet depth [] b t other = by (tree_step depth b t) refl
  where
    by : (o : Option Building) → tree_step depth b t ≡ o → option_and_then answer (option_and_then (λ (after : Building). Some after) o) ≡ None
    by None e = refl
    by (Some c) e = ap (option_map state_of) (step_quiet depth b t c other e)
last_quiet depth (x ∷ seen) b t other = by (tree_step depth b x) (λ d. last_quiet depth seen d t other)
  where
    by : (o : Option Building) → ((d : Building) → option_and_then answer (tree_steps depth d (seen ++ t ∷ [])) ≡ None) →
        option_and_then answer (option_and_then (λ after. tree_steps depth after (seen ++ t ∷ [])) o) ≡ None
    by None later = refl
    by (Some d) later = later d

pub honest : (depth : ℕ) (b : Building) → IsFeedback (feedback_of depth b)
honest depth b seen t other = last_quiet depth seen b t other
