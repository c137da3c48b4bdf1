-- What comes of the characters of a text, one after the other.
use Rattle.std.proofs.Common.{◌≡◌, ℕ, Bool, true, false, ◌&&◌, ◌||◌, not, List, [], ◌∷◌, ◌++◌, map, refl, sym, ap, subst, ◌∙◌, true≢false, inl, inr, if◌then◌else◌, length, arith}
use Rattle.std.specs.Borrow.{Bor}
use Rattle.std.specs.List.{list_all}
use Rattle.std.specs.Option.{option_and_then}
use Rattle.std.specs.Prelude.{None, Option, Some, encode_utf8_all, option_map, ◌==◌}
use Rattle.std.proofs.lemmas.Bool.{cases_Bool, ne_eqb}
use Rattle.std.proofs.lemmas.List.{map-append}
use Rattle.std.proofs.lemmas.Option.{same_Some}
use Rattle.standard_tokens.specs.Tokens.{AChar, Token as StandardToken}
use Rattle.standard_trees.specs.Building.{Building, is_empty, is_line_feed, is_space, tree_steps, with_next}
use Rattle.standard_trees.specs.RuleWords.{Dispatcher, Mode as StandardMode, TextState}
use Rattle.page_trees.specs.CharacterSteps.{Inserts, fits_in, fits_mode, goes_to_mode, has_begun, has_no_null, is_nowhere, is_run}
use Rattle.page_trees.specs.CharacterTexts.{TakesCharacters, TakesNoNulls, TakesPiece, TakesText, fits_piece, front_spaces, is_text, past_spaces, unskipped}
use Rattle.page_trees.specs.Constructs.{Constructs, RemembersLimits, WithinLimits, state_for}
use Rattle.page_trees.specs.CoveredTurns.{ProcessesToken, TakesTokens, covered_turn, is_text_mode}
use Rattle.page_trees.specs.Modes.{drops_letters, joins_spaces, mode_of}
use Rattle.standard_order.specs.Turns.{run_while, tree_step_while, tree_steps_while}
use Rattle.page_trees.specs.declared.builder.Mode.{Mode}
use Rattle.page_trees.specs.declared.builder.TreeBuilder.{TreeBuilder}
use Rattle.page_trees.specs.declared.chars.Run.{Run}
use Rattle.page_trees.specs.declared.modes.Token.{Token}
use Rattle.page_trees.proofs.CharactersBehind.{no_skip, no_state}
use Rattle.page_trees.proofs.BoundedTurns.{covers_it}
use Rattle.page_trees.proofs.CoveredRuns.{is_covered}
use Rattle.page_trees.proofs.FollowingTurns.{in_turn}
use Rattle.page_trees.proofs.KeptByCharacters.{char_keeps}
use Rattle.page_trees.proofs.NamesAgree.{both}
use Rattle.page_trees.proofs.RunOutcomes.{put_in_text}
use Rattle.page_trees.proofs.SpacesApart.{all_front, all_past, front_encoded, joined, none_encoded, past_encoded, past_first, unskipped_encoded}
use Rattle.page_trees.proofs.TokenStates.{begun}
use Rattle.page_trees.proofs.TokenTurns.{fits_is}
use Rattle.page_trees.proofs.TurnsPassed.{first_steps, turn_passes, while_all_steps, while_runs}
use Rattle.page_trees.proofs.WordsApart.{past_plain}

-- the tokens of characters
abbrev pub chars_of : List ℕ → List StandardToken
chars_of cs = map (λ x. AChar x) cs

-- ---- one character

-- a character that is not skipped
begun_while : (depth : ℕ) (b : Building) (c : ℕ) → b.skip ≡ false → tree_step_while covered_turn depth b (AChar c) ≡ run_while covered_turn depth Dispatcher (with_next (AChar c) b)
unfolding tree_step_while
begun_while depth b c e =
    ap (λ (x : Bool). elim (x && is_line_feed (AChar c)) [ true ↦ Some (with_next (AChar c) b) | false ↦ run_while covered_turn depth Dispatcher (with_next (AChar c) b) ]) e

other_while : (depth : ℕ) (b : Building) (c : ℕ) → (c == 10) ≡ false → tree_step_while covered_turn depth b (AChar c) ≡ run_while covered_turn depth Dispatcher (with_next (AChar c) b)
unfolding tree_step_while
other_while depth b c e = by b.skip (c == 10) e
  where
    by : (x y : Bool) → y ≡ false → elim (x && y) [ true ↦ Some (with_next (AChar c) b) | false ↦ run_while covered_turn depth Dispatcher (with_next (AChar c) b) ]
        ≡ run_while covered_turn depth Dispatcher (with_next (AChar c) b)
    by x true h = absurd (true≢false h)
    by true false h = refl
    by false false h = refl

skipped_while : (depth : ℕ) (b : Building) (c : ℕ) → b.skip ≡ true → (c == 10) ≡ true → tree_step_while covered_turn depth b (AChar c) ≡ Some (with_next (AChar c) b)
unfolding tree_step_while
skipped_while depth b c e f =
    ap (λ (x : Bool). elim (x && (c == 10)) [ true ↦ Some (with_next (AChar c) b) | false ↦ run_while covered_turn depth Dispatcher (with_next (AChar c) b) ]) e
    ∙ ap (λ (x : Bool). elim x [ true ↦ Some (with_next (AChar c) b) | false ↦ run_while covered_turn depth Dispatcher (with_next (AChar c) b) ]) f

-- in a state in which nothing is to be skipped, the state stands with the next token as well
begun_again : (s : TreeBuilder) (b : Building) (c : ℕ) → has_begun b ≡ true → Constructs s b → Constructs s (with_next (AChar c) b)
begun_again s b c e stands = record {
  tree = stands.tree;
  foster = stands.foster;
  in_head = stands.in_head;
  mode = stands.mode;
  original = stands.original;
  template_modes = stands.template_modes;
  frameset_ok = stands.frameset_ok;
  scripting = stands.scripting;
  quirks = stands.quirks;
  unread = stands.unread;
  pending = stands.pending;
  skip = sym (no_skip b e) ∙ stands.skip;
  tokenizer = sym (ap (λ (o : Option TextState). option_map state_for o) (no_state b e)) ∙ stands.tokenizer;
}

-- nothing is to be skipped behind a character
begun_by : (b : Building) → b.skip ≡ false → b.tokenizer ≡ None → has_begun b ≡ true
begun_by b e f = ap (λ (x : Bool). not x && is_nowhere b.tokenizer) e ∙ ap (λ (o : Option TextState). is_nowhere o) f

turn_begun : (depth : ℕ) (b x : Building) (c : ℕ) → run_while covered_turn depth Dispatcher (with_next (AChar c) b) ≡ Some x → has_begun x ≡ true
turn_begun depth b x c h =
    let kept = char_keeps depth Dispatcher (with_next (AChar c) b) x refl (while_runs covered_turn depth Dispatcher (with_next (AChar c) b) x h) in
    begun_by x kept.skip kept.tokenizer

steps_begun : (depth : ℕ) (cs : List ℕ) (b x : Building) → has_begun b ≡ true → tree_steps_while covered_turn depth b (chars_of cs) ≡ Some x → has_begun x ≡ true
steps_begun depth [] b x e h = subst (λ (y : Building). has_begun y ≡ true) (same_Some _ _ h) e
steps_begun depth (c ∷ cs) b x e h =
    let parts = in_turn (tree_step_while covered_turn depth b (AChar c)) (λ after. tree_steps_while covered_turn depth after (chars_of cs)) x h in
    steps_begun depth cs parts.0 x (turn_begun depth b parts.0 c (sym (begun_while depth b c (no_skip b e)) ∙ parts.1)) parts.2

-- ---- several characters

pub take_none : (s : TreeBuilder) → TakesCharacters [] s s
take_none s within b e stands depth x h = subst (λ (y : Building). Constructs s y) (same_Some _ _ h) stands

pub take_both : (xs ys : List ℕ) (old mid new : TreeBuilder) → RemembersLimits mid new → TakesCharacters xs old mid → TakesCharacters ys mid new → TakesCharacters (xs ++ ys) old new
take_both xs ys old mid new limits first second within b e stands depth x h =
    let parts = first_steps covered_turn depth (chars_of xs) (chars_of ys) b x
    (sym (ap (tree_steps_while covered_turn depth b) (map-append (λ x. AChar x) xs ys)) ∙ h) in
    second within parts.0 (steps_begun depth xs b parts.0 e parts.1) (first (limits within) b e stands depth parts.0 parts.1) depth x parts.2

pub take_run : (kind : Run) (text : Bor (List ℕ)) (c : ℕ) (cs : List ℕ) (old new : TreeBuilder) → text.now ≡ encode_utf8_all (c ∷ cs) → is_run kind (c ∷ cs) ≡ true →
    fits_mode old.mode kind (c ∷ cs) ≡ true → ProcessesToken (Token.Run kind text) old new → TakesCharacters (c ∷ cs) old new
take_run kind text c cs old new spelt is fits rule within b e stands depth x h =
    rule within (chars_of cs) (with_next (AChar c) b) (record {
      first = c;
      rest = cs;
      spelt = spelt;
      run = is;
      fits = ap (λ (m : StandardMode). fits_in m kind (c ∷ cs)) stands.mode ∙ fits_is old.mode kind (c ∷ cs) ∙ fits;
      token = refl;
      attrs = refl;
      others_are = refl;
    }) (begun_again old b c e stands) depth x
    (sym (ap (option_and_then (λ after. tree_steps_while covered_turn depth after (chars_of cs))) (begun_while depth b c (no_skip b e))) ∙ h)

pub take_piece : (kind : Run) (text : Bor (List ℕ)) (old new : TreeBuilder) → ProcessesToken (Token.Run kind text) old new → is_empty text.now ≡ false → TakesPiece kind text.now old new
take_piece kind text old new rule some [] spelt fits = absurd (true≢false (sym (ap (λ (xs : List ℕ). is_empty xs) spelt) ∙ some))
take_piece kind text old new rule some (c ∷ cs) spelt fits =
    let two = both (is_run kind (c ∷ cs)) (fits_mode old.mode kind (c ∷ cs)) fits in
    take_run kind text c cs old new spelt two.0 two.1 rule

empty_is : (xs : List ℕ) → is_empty xs ≡ true → xs ≡ []
empty_is [] e = refl
empty_is (y ∷ ys) e = absurd (true≢false (sym e))

pub take_no_text : (text : List ℕ) (s : TreeBuilder) → is_empty text ≡ true → TakesText text s s
take_no_text text s none cs spelt = subst (λ (xs : List ℕ). TakesCharacters xs s s) (sym (none_encoded cs (sym spelt ∙ empty_is text none))) (take_none s)

pub is_empty_by : (xs : List ℕ) → (length xs == 0) ≡ is_empty xs
is_empty_by [] = refl
is_empty_by (x ∷ xs) = ne_eqb (length (x ∷ xs)) 0 (λ e. absurd (omega (arith, e)))

pub text_is : (m : Mode) → is_text m ≡ true → m ≡ Mode.Text
text_is Mode.Text e = refl
text_is _ e = absurd (true≢false (sym e))

-- a text in the mode "text"
pub take_in_text : (text : List ℕ) (old new : TreeBuilder) → old.mode ≡ Mode.Text → is_empty text ≡ false →
    ((c : ℕ) (cs : List ℕ) → text ≡ encode_utf8_all (c ∷ cs) → Inserts (c ∷ cs) old new) → TakesText text old new
take_in_text text old new is some rule [] spelt within b e stands depth x h = absurd (true≢false (sym (ap (λ (xs : List ℕ). is_empty xs) spelt) ∙ some))
take_in_text text old new is some rule (c ∷ cs) spelt within b e stands depth x h =
    let after : Building = with_next (AChar c) b in
    let begins : Constructs old after = begun_again old b c e stands in
    let parts = in_turn (tree_step_while covered_turn depth b (AChar c)) (λ after. tree_steps_while covered_turn depth after (chars_of cs)) x h in
    let turn = sym (begun_while depth b c (no_skip b e)) ∙ parts.1 in
    let covered = is_covered after (covers_it after (turn_passes covered_turn depth after parts.0 turn)) in
    let goes : goes_to_mode b.tree ≡ true =
    sym (ap (λ (m : StandardMode). not (is_text_mode m) || goes_to_mode b.tree) (stands.mode ∙ ap mode_of is)) ∙ covered.text in
    put_in_text old new c cs is after refl goes covered.covered begins (rule c cs spelt within after begins) depth x
    (ap (option_and_then (λ y. tree_steps depth y (chars_of cs))) (while_runs covered_turn depth Dispatcher after parts.0 turn)
    ∙ while_all_steps covered_turn depth (chars_of cs) parts.0 x parts.2)

-- ---- a text without nulls

joins_plainly : (m : Mode) → joins_spaces m ≡ true → drops_letters m ≡ false
joins_plainly Mode.InColumnGroup e = absurd (true≢false (sym e))
joins_plainly Mode.InFrameset e = absurd (true≢false (sym e))
joins_plainly Mode.AfterFrameset e = absurd (true≢false (sym e))
joins_plainly Mode.AfterAfterFrameset e = absurd (true≢false (sym e))
joins_plainly _ e = refl

fits_joined : (m : Mode) (c : ℕ) (cs : List ℕ) → joins_spaces m ≡ true → fits_mode m Run.Letters (c ∷ cs) ≡ true
fits_joined m c cs e =
    ap (λ (x : Bool). (x || not (is_space c)) && (not (drops_letters m) || list_all (λ c. not (is_space c)) cs)) e
    ∙ ap (λ (x : Bool). not x || list_all (λ c. not (is_space c)) cs) (joins_plainly m e)

fits_letter : (m : Mode) (c : ℕ) (cs : List ℕ) → is_space c ≡ false → drops_letters m ≡ false → fits_mode m Run.Letters (c ∷ cs) ≡ true
fits_letter m c cs letter keeps =
    ap (λ (x : Bool). (joins_spaces m || not x) && (not (drops_letters m) || list_all (λ c. not (is_space c)) cs)) letter
    ∙ ap (λ (x : Bool). (joins_spaces m || true) && (not x || list_all (λ c. not (is_space c)) cs)) keeps ∙ by (joins_spaces m)
  where
    by : (x : Bool) → ((x || true) && true) ≡ true
    by true = refl
    by false = refl

-- The text is a run of others.
pub is_letters : (cs : List ℕ) → has_no_null cs ≡ true → list_all is_space cs ≡ false → is_run Run.Letters cs ≡ true
is_letters cs all some = ap (λ (x : Bool). x && not (list_all is_space cs)) all ∙ ap not some

-- the whole text, where the mode treats white space like the others
pub take_joined : (text rest : List ℕ) (old new : TreeBuilder) → rest ≡ past_spaces text → is_empty rest ≡ false → joins_spaces old.mode ≡ true → TakesPiece Run.Letters text old new →
    TakesNoNulls text old new
take_joined text rest old new past some joins rule [] spelt all =
    absurd (true≢false (sym (ap (λ (xs : List ℕ). is_empty xs) (past ∙ ap (λ (xs : List ℕ). past_spaces xs) spelt)) ∙ some))
take_joined text rest old new past some joins rule (c ∷ cs) spelt all =
    rule (c ∷ cs) spelt (ap (λ (x : Bool). x && fits_mode old.mode Run.Letters (c ∷ cs)) (is_letters (c ∷ cs) all letters) ∙ fits_joined old.mode c cs joins)
  where
    behind : (ds : List ℕ) → rest ≡ encode_utf8_all ds → is_empty ds ≡ false
    behind [] e = absurd (true≢false (sym (ap (λ (xs : List ℕ). is_empty xs) e) ∙ some))
    behind (d ∷ ds) e = refl

    letters : list_all is_space (c ∷ cs) ≡ false
    letters = all_past (c ∷ cs) ∙ behind (past_spaces (c ∷ cs)) (past ∙ ap (λ (xs : List ℕ). past_spaces xs) spelt ∙ past_encoded (c ∷ cs))

-- the white space at the beginning
spaces_fit : (m : Mode) (cs : List ℕ) → list_all is_space cs ≡ true → fits_piece m Run.Spaces cs ≡ true
spaces_fit m [] e = refl
spaces_fit m (c ∷ cs) e = ap (λ (x : Bool). x && true) e

pub take_front : (text front : List ℕ) (old new : TreeBuilder) → front ≡ front_spaces text → TakesPiece Run.Spaces front old new → (cs : List ℕ) → text ≡ encode_utf8_all cs →
    TakesCharacters (front_spaces cs) old new
take_front text front old new is rule cs spelt =
    rule (front_spaces cs) (is ∙ ap (λ (xs : List ℕ). front_spaces xs) spelt ∙ front_encoded cs) (spaces_fit old.mode (front_spaces cs) (all_front cs))

rest_of : (text rest cs : List ℕ) → rest ≡ past_spaces text → text ≡ encode_utf8_all cs → rest ≡ encode_utf8_all (past_spaces cs)
rest_of text rest cs past spelt = past ∙ ap (λ (xs : List ℕ). past_spaces xs) spelt ∙ past_encoded cs

-- white space alone
pub take_spaces : (text front rest : List ℕ) (old new : TreeBuilder) → front ≡ front_spaces text → rest ≡ past_spaces text → is_empty rest ≡ true → TakesPiece Run.Spaces front old new → TakesNoNulls text old new
take_spaces text front rest old new is past none rule cs spelt all =
    subst (λ (xs : List ℕ). TakesCharacters xs old new)
    (sym (append_nil (front_spaces cs)) ∙ ap (λ (xs : List ℕ). front_spaces cs ++ xs) (sym (none_encoded (past_spaces cs) (sym (rest_of text rest cs past spelt) ∙ empty_is rest none))) ∙ joined cs)
    (take_front text front old new is rule cs spelt)
  where
    append_nil : (xs : List ℕ) → xs ++ [] ≡ xs
    append_nil [] = refl
    append_nil (x ∷ xs) = ap (λ (ys : List ℕ). x ∷ ys) (append_nil xs)

-- and others after it
pub take_apart : (text front rest : List ℕ) (old mid new : TreeBuilder) → front ≡ front_spaces text → rest ≡ past_spaces text → TakesPiece Run.Spaces front old mid → RemembersLimits mid new →
    ((d : ℕ) (ds : List ℕ) → is_space d ≡ false → has_no_null (d ∷ ds) ≡ true → rest ≡ encode_utf8_all (d ∷ ds) → TakesCharacters (d ∷ ds) mid new) → is_empty rest ≡ false → TakesNoNulls text old new
take_apart text front rest old mid new is past rule limits others some cs spelt all =
    subst (λ (xs : List ℕ). TakesCharacters xs old new) (joined cs)
    (take_both (front_spaces cs) (past_spaces cs) old mid new limits (take_front text front old mid is rule cs spelt)
    (behind (past_spaces cs) refl (past_plain cs all) (rest_of text rest cs past spelt)))
  where
    behind : (ds : List ℕ) → past_spaces cs ≡ ds → has_no_null ds ≡ true → rest ≡ encode_utf8_all ds → TakesCharacters ds mid new
    behind [] e all f = absurd (true≢false (sym (ap (λ (xs : List ℕ). is_empty xs) f) ∙ some))
    behind (d ∷ ds) e all f = others d ds (past_first cs d ds e) all f

pub take_letters : (rest : List ℕ) (mid new : TreeBuilder) → drops_letters mid.mode ≡ false → TakesPiece Run.Letters rest mid new → (d : ℕ) (ds : List ℕ) → is_space d ≡ false →
    has_no_null (d ∷ ds) ≡ true → rest ≡ encode_utf8_all (d ∷ ds) → TakesCharacters (d ∷ ds) mid new
take_letters rest mid new keeps rule d ds letter all spelt =
    rule (d ∷ ds) spelt (ap (λ (x : Bool). x && fits_mode mid.mode Run.Letters (d ∷ ds))
    (is_letters (d ∷ ds) all (ap (λ (x : Bool). x && list_all is_space ds) letter)) ∙ fits_letter mid.mode d ds letter keeps)

pub take_words : (rest : List ℕ) (mid new : TreeBuilder) → TakesNoNulls rest mid new → (d : ℕ) (ds : List ℕ) → is_space d ≡ false →
    has_no_null (d ∷ ds) ≡ true → rest ≡ encode_utf8_all (d ∷ ds) → TakesCharacters (d ∷ ds) mid new
take_words rest mid new rule d ds letter all spelt = rule (d ∷ ds) spelt all

-- ---- the characters between two tokens

nowhere : (o : Option TextState) → option_map state_for o ≡ None → o ≡ None
nowhere None e = refl
nowhere (Some state) e = absurd (cc)

-- the first character is not skipped
first_kept : (c : ℕ) (cs : List ℕ) (old mid new : TreeBuilder) → mid ≡ record old { skip_line_feed = false } → TakesCharacters (c ∷ cs) mid new → old.switch ≡ None → WithinLimits new →
    (b : Building) → Constructs old b → (depth : ℕ) (x : Building) →
    option_and_then (λ after. tree_steps_while covered_turn depth after (chars_of cs)) (run_while covered_turn depth Dispatcher (with_next (AChar c) b)) ≡ Some x → Constructs new x
first_kept c cs old mid new e rule quiet within b stands depth x h =
    rule within (with_next (AChar c) b) refl (begun old mid (AChar c) e quiet b stands) depth x
    (ap (option_and_then (λ after. tree_steps_while covered_turn depth after (chars_of cs))) (begun_while depth (with_next (AChar c) b) c refl) ∙ h)

pub take_tokens : (text rest : List ℕ) (old mid new : TreeBuilder) → is_empty text ≡ false → rest ≡ unskipped old.skip_line_feed text → mid ≡ record old { skip_line_feed = false } →
    TakesText rest mid new → (cs : List ℕ) → text ≡ encode_utf8_all cs → TakesTokens (chars_of cs) old new
take_tokens text rest old mid new some is e rule [] spelt quiet within b stands depth x h = absurd (true≢false (sym (ap (λ (xs : List ℕ). is_empty xs) spelt) ∙ some))
take_tokens text rest old mid new some is e rule (c ∷ cs) spelt quiet within b stands depth x h = elim (cases_Bool old.skip_line_feed) [
  | inr off ↦ first_kept c cs old mid new e (given false off) quiet within b stands depth x
      (sym (ap (option_and_then (λ after. tree_steps_while covered_turn depth after (chars_of cs))) (begun_while depth b c (stands.skip ∙ off))) ∙ h)
  | inl on ↦ elim (cases_Bool (c == 10)) [
    | inl feed ↦ subst (λ (xs : List ℕ). TakesCharacters xs mid new) (ap (λ (y : Bool). if y then cs else c ∷ cs) feed) (given true on) within (with_next (AChar c) b) refl
        (begun old mid (AChar c) e quiet b stands) depth x
        (sym (ap (option_and_then (λ after. tree_steps_while covered_turn depth after (chars_of cs))) (skipped_while depth b c (stands.skip ∙ on) feed)) ∙ h)
    | inr other ↦ first_kept c cs old mid new e (subst (λ (xs : List ℕ). TakesCharacters xs mid new) (ap (λ (y : Bool). if y then cs else c ∷ cs) other) (given true on)) quiet within b stands depth x
        (sym (ap (option_and_then (λ after. tree_steps_while covered_turn depth after (chars_of cs))) (other_while depth b c other)) ∙ h)
  ]
]
  where
    given : (skip : Bool) → old.skip_line_feed ≡ skip → TakesCharacters (unskipped skip (c ∷ cs)) mid new
    given skip f = rule (unskipped skip (c ∷ cs)) (is ∙ ap (λ (y : Bool). unskipped y text) f ∙ ap (λ (xs : List ℕ). unskipped skip xs) spelt ∙ unskipped_encoded skip (c ∷ cs))

pub take_no_tokens : (text : List ℕ) (s : TreeBuilder) → is_empty text ≡ true → (cs : List ℕ) → text ≡ encode_utf8_all cs → TakesTokens (chars_of cs) s s
take_no_tokens text s none cs spelt quiet within b stands depth x h =
    subst (λ (y : Building). Constructs s y)
    (same_Some _ _ (subst (λ (xs : List ℕ). tree_steps_while covered_turn depth b (chars_of xs) ≡ Some x) (none_encoded cs (sym spelt ∙ empty_is text none)) h)) stands
