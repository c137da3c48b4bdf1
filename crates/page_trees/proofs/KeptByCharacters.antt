-- The rules for a character neither switch the tokenizer nor have a line feed skipped.
use Rattle.std.proofs.Common.{◌≡◌, ℕ, zero, suc, Bool, true, false, ◌||◌, not, List, [], ◌∷◌, reverse, refl, sym, ap, subst, ◌∙◌, true≢false, Option, None, Some, inl, inr}
use Rattle.std.proofs.lemmas.Bool.{cases_Bool}
use Rattle.std.proofs.lemmas.Option.{same_Some}
use Rattle.std.specs.List.{list_all, list_any}
use Rattle.std.specs.Option.{option_and_then}
use Rattle.std.specs.Prelude.{option_map}
use Rattle.standard_tokens.specs.Tokens.{AChar, Token}
use Rattle.standard_trees.specs.Building.{Building, adjusted, each_char, fits, gone, is_met, own_name, perform, performed, renamed, run, taken, with_token}
use Rattle.standard_trees.specs.NameLists.{svg_names}
use Rattle.standard_trees.specs.RuleWords.{Act, Action, AdjustSvgName, Anything, Character, Dispatcher, Mode, Null, Pattern, Rename, Reprocess, Rule, SkipNextLineFeed, TokenizerTo}
use Rattle.standard_trees.specs.RuleWords.{Use, UseCurrentMode, UseForEachPending, Way, WhiteSpace, does, goes, rule}
use Rattle.standard_trees.specs.TreeRules.{rules}
use Rattle.page_trees.proofs.NamesAgree.{both}

abbrev pub is_char : Token → Bool
is_char (AChar c) = true
is_char _ = false

-- nothing is to be skipped, and the tokenizer is not switched; the token stays a character
pub record Keeps (b c : Building) : Type 0 where
  pub skip : c.skip ≡ b.skip
  pub tokenizer : c.tokenizer ≡ b.tokenizer
  pub char : is_char c.token ≡ true

then_keeps : (b c d : Building) → Keeps b c → Keeps c d → Keeps b d
then_keeps b c d one two = record { skip = two.skip ∙ one.skip; tokenizer = two.tokenizer ∙ one.tokenizer; char = two.char }

-- ---- actions

abbrev keeps_action : Action → Bool
keeps_action SkipNextLineFeed = false
keeps_action (TokenizerTo state) = false
keeps_action _ = true

renamed_char : (name : List ℕ) (t : Token) → is_char t ≡ true → is_char (renamed name t) ≡ true
renamed_char name (AChar c) e = refl
renamed_char name _ e = absurd (true≢false (sym e))

performs : (a : Action) → keeps_action a ≡ true → (b : Building) → is_char b.token ≡ true → Keeps b (perform a b)
unfolding perform
performs SkipNextLineFeed h b e = absurd (true≢false (sym h))
performs (TokenizerTo state) h b e = absurd (true≢false (sym h))
performs (Rename name) h b e = record { skip = refl; tokenizer = refl; char = renamed_char name b.token e }
performs AdjustSvgName h b e = record { skip = refl; tokenizer = refl; char = renamed_char (adjusted svg_names (own_name b.token)) b.token e }
performs _ h b e = record { skip = refl; tokenizer = refl; char = e }

-- ---- rules

abbrev keeps_act : Act → Bool
keeps_act (does action tests) = keeps_action action
keeps_act (goes way) = true

abbrev may_fit : Pattern → Bool
may_fit WhiteSpace = true
may_fit Null = true
may_fit Character = true
may_fit Anything = true
may_fit _ = false

abbrev keeps_rule : Rule → Bool
keeps_rule (rule patterns tests acts) = not (list_any may_fit patterns) || list_all keeps_act acts

table_keeps : (mode : Mode) → list_all keeps_rule (rules mode) ≡ true
unfolding rules
table_keeps Dispatcher = refl
table_keeps _ = refl

fits_may : (t : Token) → is_char t ≡ true → (p : Pattern) → fits p t ≡ true → may_fit p ≡ true
fits_may (AChar c) e WhiteSpace h = refl
fits_may (AChar c) e Null h = refl
fits_may (AChar c) e Character h = refl
fits_may (AChar c) e Anything h = refl
fits_may (AChar c) e _ h = absurd (true≢false (sym h))
fits_may _ e p h = absurd (true≢false (sym e))

any_may : (t : Token) → is_char t ≡ true → (ps : List Pattern) → list_any (λ p. fits p t) ps ≡ true → list_any may_fit ps ≡ true
any_may t e [] h = absurd (true≢false (sym h))
any_may t e (p ∷ ps) h = elim (cases_Bool (fits p t)) [
  | inl met ↦ ap (λ (x : Bool). x || list_any may_fit ps) (fits_may t e p met)
  | inr unmet ↦ or_right (may_fit p) (list_any may_fit ps) (any_may t e ps (sym (ap (λ (x : Bool). x || list_any (λ p. fits p t) ps) unmet) ∙ h))
]
  where
    or_right : (x y : Bool) → y ≡ true → (x || y) ≡ true
    or_right true y h = refl
    or_right false y h = h

said : (x y : Bool) → (not x || y) ≡ true → x ≡ true → y ≡ true
said true y h e = h
said false y h e = absurd (true≢false (sym e))

taken_keeps : (b : Building) → is_char b.token ≡ true → (rs : List Rule) → list_all keeps_rule rs ≡ true → list_all keeps_act (taken b rs) ≡ true
unfolding taken
taken_keeps b e [] h = refl
taken_keeps b e (rule patterns tests acts ∷ more) h =
    let two = both (keeps_rule (rule patterns tests acts)) (list_all keeps_rule more) h in
    elim (cases_Bool (list_any (λ pattern. fits pattern b.token) patterns)) [
      | inl met ↦
          ap (λ (x : Bool). list_all keeps_act (elim x [ true ↦ elim (list_all (is_met b) tests) [ true ↦ acts | false ↦ taken b more ] | false ↦ taken b more ])) met
          ∙ either (list_all (is_met b) tests) acts (taken b more) (said (list_any may_fit patterns) (list_all keeps_act acts) two.0 (any_may b.token e patterns met)) (taken_keeps b e more two.1)
      | inr unmet ↦
          ap (λ (x : Bool). list_all keeps_act (elim x [ true ↦ elim (list_all (is_met b) tests) [ true ↦ acts | false ↦ taken b more ] | false ↦ taken b more ])) unmet
          ∙ taken_keeps b e more two.1
    ]
  where
    either : (x : Bool) (one other : List Act) → list_all keeps_act one ≡ true → list_all keeps_act other ≡ true → list_all keeps_act (elim x [ true ↦ one | false ↦ other ]) ≡ true
    either true one other f g = f
    either false one other f g = g

-- ---- runs

abbrev AllKeep : (Mode → Building → Option Building) → Type 0
AllKeep again = (mode : Mode) (b c : Building) → is_char b.token ≡ true → again mode b ≡ Some c → Keeps b c

then_some : (f : Building → Option Building) (o : Option Building) (b c : Building) → ((x : Building) → o ≡ Some x → Keeps b x) → ((x : Building) → is_char x.token ≡ true → f x ≡ Some c → Keeps x c) →
    option_and_then f o ≡ Some c → Keeps b c
then_some f None b c first rest h = absurd (cc)
then_some f (Some x) b c first rest h = (let one = first x refl in then_keeps b x c one (rest x one.char h))

each_keeps : (again : Building → Option Building) → ((b c : Building) → is_char b.token ≡ true → again b ≡ Some c → Keeps b c) → (cs : List ℕ) (b c : Building) → is_char b.token ≡ true →
    each_char again cs b ≡ Some c → Keeps b c
each_keeps again keep [] b c e h = subst (λ (x : Building). Keeps b x) (same_Some _ _ h) (record { skip = refl; tokenizer = refl; char = e })
each_keeps again keep (d ∷ cs) b c e h =
    then_some (each_char again cs) (again (with_token (AChar d) [] b)) b c
    (λ x k. (let one = keep (with_token (AChar d) [] b) x refl k in record { skip = one.skip; tokenizer = one.tokenizer; char = one.char }))
    (λ x f k. each_keeps again keep cs x c f k) h

map_keeps : (o : Option Building) (b c : Building) → is_char b.token ≡ true → ((x : Building) → o ≡ Some x → Keeps b x) → option_map (with_token b.token b.attrs) o ≡ Some c → Keeps b c
map_keeps None b c e keep h = absurd (cc)
map_keeps (Some x) b c e keep h =
    let one = keep x refl in
    subst (λ (y : Building). Keeps b y) (same_Some _ _ h) (record { skip = one.skip; tokenizer = one.tokenizer; char = e })

gone_keeps : (again : Mode → Building → Option Building) → AllKeep again → (way : Way) (b c : Building) → is_char b.token ≡ true → gone again way b ≡ Some c → Keeps b c
gone_keeps again keep Reprocess b c e h = keep Dispatcher b c e h
gone_keeps again keep UseCurrentMode b c e h = keep b.mode b c e h
gone_keeps again keep (Use mode) b c e h = keep mode b c e h
gone_keeps again keep (UseForEachPending mode) b c e h =
    map_keeps (each_char (again mode) (reverse b.pending) b) b c e (λ x k. each_keeps (again mode) (keep mode) (reverse b.pending) b x e k) h

acts_keep : (again : Mode → Building → Option Building) → AllKeep again → (acts : List Act) → list_all keeps_act acts ≡ true → (b c : Building) → is_char b.token ≡ true →
    performed again acts b ≡ Some c → Keeps b c
acts_keep again keep [] all b c e h = subst (λ (x : Building). Keeps b x) (same_Some _ _ h) (record { skip = refl; tokenizer = refl; char = e })
acts_keep again keep (does action tests ∷ acts) all b c e h =
    let two = both (keeps_action action) (list_all keeps_act acts) all in
    let one : Keeps b (elim (list_all (is_met b) tests) [ true ↦ perform action b | false ↦ b ]) = by action two.0 b e (list_all (is_met b) tests) in
    then_keeps b _ c one (acts_keep again keep acts two.1 (elim (list_all (is_met b) tests) [ true ↦ perform action b | false ↦ b ]) c one.char h)
  where
    by : (a : Action) → keeps_action a ≡ true → (d : Building) → is_char d.token ≡ true → (x : Bool) → Keeps d (elim x [ true ↦ perform a d | false ↦ d ])
    by a f d g true = performs a f d g
    by a f d g false = record { skip = refl; tokenizer = refl; char = g }
acts_keep again keep (goes way ∷ acts) all b c e h =
    then_some (performed again acts) (gone again way b) b c (λ x k. gone_keeps again keep way b x e k) (λ x f k. acts_keep again keep acts all x c f k) h

pub char_keeps : (depth : ℕ) → AllKeep (run depth)
unfolding run
char_keeps zero mode b c e h = absurd (cc)
char_keeps (suc d) mode b c e h = acts_keep (run d) (char_keeps d) (taken b (rules mode)) (taken_keeps b e (rules mode) (table_keeps mode)) b c e h
