-- In every mode every token comes to an end.
use Rattle.std.specs.Prelude.{◌≡◌, ◌≤◌, ◌+◌, ◌*◌, ◌||◌, ◌⊎◌, refl, ℕ, zero, suc, Bool, true, false, not, ◌==◌, ◌&&◌, List, [], ◌∷◌, Some, bytes_eq, codes, drop}
use Rattle.std.specs.Prelude.{length, option_map, reverse}
use Rattle.std.proofs.Common.{arith, inl, inr}
use Rattle.std.specs.List.{list_all}
use Rattle.std.proofs.lemmas.Slice.Eq.{bytes_eq-Decides}
use mathlib.Core.Path.{◌∙◌, sym, ap, subst}
use Rattle.standard_tokens.specs.Machine.{no_doctype}
use Rattle.standard_tokens.specs.Tokens.{Attr, Token, AChar, AComment, ADoctype, AStart, AnEnd, AnEof}
use Rattle.standard_trees.specs.RuleWords.{Act, Action, ClearListToMarker, Dispatcher, InBody, InColumnGroup, InRow, InTable, InTableBody}
use Rattle.standard_trees.specs.RuleWords.{InTableText, InTemplate, FosterOff, FosterOn, InsertPending, Mode, Pop, PopTemplateMode, PopUntil}
use Rattle.standard_trees.specs.RuleWords.{Reprocess, ResetMode, Stop, SwitchBack, SwitchTo, TableScope, TemplateOpen, Text, These, Use}
use Rattle.standard_trees.specs.RuleWords.{UseForEachPending, does, goes, isnt, CurrentNode}
use Rattle.standard_trees.specs.TreeRules.{rules}
use Rattle.standard_trees.specs.GrowingTree.{GrowingTree, beyond, ends_scope, in_scope, is_among, is_foreign, is_one, past}
use Rattle.standard_trees.specs.Building.{Building, each_char, is_empty, is_met, perform, reset_from, run, taken, with_token}
use Rattle.standard_trees.specs.Building.{is_line_feed, is_space, tree_step, tree_steps, with_next}
use Rattle.standard_trees.proofs.MoreDepth.{BelowIn, more, run_deeper, run_left, run_right, step_below, steps_below}
use Rattle.standard_trees.proofs.Routes.{acts_pass, are_quiet, char_like, depth, end_ends, ends, ends_end, is_among_tables, is_body_at_end}
use Rattle.standard_trees.proofs.Routes.{is_table_tag, is_template_mode, known_name, like, names, never, others_end, start_ends, starts_end, tables_end}
use Rattle.standard_trees.specs.Laws.{EveryTokenEnds, depth_at, is_plain, is_real}
use Rattle.standard_trees.proofs.KeptModes.{Good, Stands, both, dropped_plain, either, plain_real, plain_reset, reset_from_passes, taken_of_all}
use Rattle.standard_trees.proofs.Ending.{ActsEnd, Ends, IsShown, by_rules, computed, dispatch, go_on, levels, levels_end, more_end, only_goes, quiet_end}
use Rattle.standard_trees.proofs.Ending.{then_some, without_foreign}
use Rattle.standard_trees.proofs.TableTexts.{CharEnds, Holds, chars_run, chars_stack, room, room_below, stack_below}

-- ---- a building whose token is sure

abbrev pub at : Token → Building → Building
at t b = record b { token = t }

by_token : (P : Building → Type 0) (t : Token) (b : Building) → b.token ≡ t → P (at t b) → P b
by_token P t b e p = subst P (ap (λ u. at u b) (sym e)) p

none_shown : (d : ℕ) (modes : List Mode) → IsShown d modes never
none_shown d modes t mode now h b stands good = cc

-- ---- the end of the file

abbrev pub AtEnd : List Mode → Building → Type 0
AtEnd modes b = (b.token ≡ AnEof) × (b.template_modes ≡ modes) × Good b

-- with these template insertion modes
pub record EndsAtEnd (d : ℕ) (modes : List Mode) : Type 0 where
  pub body : (b : Building) → AtEnd modes b → Ends d InBody b
  pub template : (b : Building) → AtEnd modes b → Ends d InTemplate b

eof_shown : (d : ℕ) (modes : List Mode) → ((b : Building) → AtEnd modes b → Ends d InBody b) → IsShown d modes is_body_at_end
eof_shown d modes body AnEof InBody now h b stands good = body b (is_eof b.token stands.1, stands.2 refl, good)
  where
    is_eof : (t : Token) → like t ≡ AnEof → t ≡ AnEof
    is_eof AnEof e = refl
    is_eof _ e = cc
eof_shown d modes body _ _ now h b stands good = cc

-- in any other plain mode
eof_plain : (d : ℕ) (modes : List Mode) → ((b : Building) → AtEnd modes b → Ends d InBody b) → (b : Building) → AtEnd modes b → is_plain b.mode ≡ true →
    is_template_mode b.mode ≡ false → Ends (levels depth d) b.mode b
eof_plain d modes body b end plain other =
    computed d modes is_body_at_end (eof_shown d modes body) depth AnEof b.mode b.mode (end_ends b.mode plain other) b (refl, ap like end.0, λ e. end.1) end.2

-- where no template insertion mode is left, parsing stops
no_template_left : (d : ℕ) (b : Building) → AtEnd [] b → Ends (more 1 d) InBody b
unfolding rules taken
no_template_left d b end = by_token (λ c. Ends (more 1 d) InBody c) AnEof b end.0 (by_rules d InBody (at AnEof b) (by_set (not (is_empty b.template_modes) && true) (unset b.template_modes end.1)))
  where
    unset : (modes : List Mode) → modes ≡ [] → not (is_empty modes) && true ≡ false
    unset [] e = refl
    unset (mode ∷ modes) e = cc

    by_set : (x : Bool) → x ≡ false → ActsEnd d (elim x [ true ↦ goes (Use InTemplate) ∷ [] | false ↦ does Stop [] ∷ [] ]) (at AnEof b)
    by_set true h = cc
    by_set false h = quiet_end d (does Stop [] ∷ []) (at AnEof b) refl end.2

some_template_left : (d : ℕ) (modes : List Mode) → ((b : Building) → AtEnd modes b → Ends d InTemplate b) → ((b : Building) → AtEnd modes b → Ends (more 1 d) InBody b)
unfolding rules taken
some_template_left d modes template b end = by_token (λ c. Ends (more 1 d) InBody c) AnEof b end.0 (by_rules d InBody (at AnEof b) (by_set (not (is_empty b.template_modes) && true)))
  where
    by_set : (x : Bool) → ActsEnd d (elim x [ true ↦ goes (Use InTemplate) ∷ [] | false ↦ does Stop [] ∷ [] ]) (at AnEof b)
    by_set true = only_goes d (Use InTemplate) (at AnEof b) (template (at AnEof b) (refl, end.1, end.2))
    by_set false = quiet_end d (does Stop [] ∷ []) (at AnEof b) refl end.2

-- the template is closed, with its insertion mode
template_closed : Building → Building
template_closed b = perform PopTemplateMode (perform ClearListToMarker (perform (PopUntil (These (codes "template" ∷ []))) (at AnEof b)))

-- what the modes after that have to do
abbrev pub ThenEnds : ℕ → List Mode → Type 0
ThenEnds d modes =
    (b : Building) → AtEnd modes b → is_plain b.mode ≡ true → (is_empty modes ≡ true → is_template_mode b.mode ≡ false) → Ends d b.mode b

no_template_mode : (t : GrowingTree) (modes : List Mode) (stack : List ℕ) → is_empty modes ≡ true → is_template_mode (reset_from t modes stack) ≡ false
no_template_mode t [] stack e =
    turned (is_template_mode (reset_from t [] stack)) (reset_from_passes (λ mode. not (is_template_mode mode)) refl refl t [] refl stack)
  where
    turned : (x : Bool) → not x ≡ true → x ≡ false
    turned true h = cc
    turned false h = refl
no_template_mode t (mode ∷ modes) stack e = cc

template_ends : (d : ℕ) (modes : List Mode) → ThenEnds d (drop 1 modes) → (b : Building) → AtEnd modes b → Ends (more 3 d) InTemplate b
unfolding rules taken perform template_closed
template_ends d modes later b end =
    by_token (λ c. Ends (more 3 d) InTemplate c) AnEof b end.0 (by_rules (more 2 d) InTemplate (at AnEof b) (by_open (list_all (is_met (at AnEof b)) (isnt TemplateOpen ∷ []))))
  where
    closed : Building
    closed = template_closed b

    good : Good closed
    good = (end.2.0, end.2.1, dropped_plain b.template_modes end.2.2)

    end_of : (c : Building) → AtEnd (drop 1 modes) c → Unit {0}
    end_of c h = tt

    goes_on : (c : Building) → c.token ≡ AnEof → c.template_modes ≡ closed.template_modes → Good c → c.mode ≡ (perform ResetMode closed).mode → Ends d c.mode c
    goes_on c e f g h =
        later c (e, f ∙ ap (λ (ms : List Mode). drop 1 ms) end.1, g) (ap is_plain h ∙ plain_reset closed good)
        (λ none. ap is_template_mode h ∙ no_template_mode closed.tree closed.template_modes closed.tree.stack (ap (λ (ms : List Mode). is_empty (drop 1 ms)) end.1 ∙ none))

    by_open : (x : Bool) → ActsEnd (more 2 d) (elim x [
      | true ↦ does Stop [] ∷ []
      | false ↦ does (PopUntil (These (codes "template" ∷ []))) [] ∷ does ClearListToMarker [] ∷ does PopTemplateMode [] ∷ does ResetMode [] ∷ goes Reprocess ∷ []
    ]) (at AnEof b)
    by_open true = quiet_end (more 2 d) (does Stop [] ∷ []) (at AnEof b) refl end.2
    by_open false = only_goes (more 2 d) Reprocess (perform ResetMode closed)
        (dispatch d (perform ResetMode closed) (plain_real (perform ResetMode closed).mode (plain_reset closed good), good.1, good.2)
        (goes_on (perform ResetMode closed) refl refl (plain_real (perform ResetMode closed).mode (plain_reset closed good), good.1, good.2) refl)
        (goes_on (without_foreign (perform ResetMode closed)) refl refl (plain_real (perform ResetMode closed).mode (plain_reset closed good), good.1, good.2) refl))

-- how deep rules use rules at most, for each of the template insertion modes that are left
abbrev pub end_depth : List Mode → ℕ
end_depth [] = more 1 (levels 10 1)
end_depth (mode ∷ modes) = more 1 (levels 10 (end_depth modes))

at_end : (modes : List Mode) → EndsAtEnd (end_depth modes) modes
at_end [] = record {
  body = no_template_left (levels 10 1);
  template = λ b end. more_end 1 (levels 10 1) InTemplate b
      (template_ends (levels 9 1) [] (λ c e plain other. eof_plain 1 [] (no_template_left 0) c e plain (other refl)) b end);
}
at_end (mode ∷ modes) = record {
  body = some_template_left (levels 10 (end_depth modes)) (mode ∷ modes) (template_ends (levels 9 (end_depth modes)) (mode ∷ modes) (later (at_end modes)));
  template = λ b end. more_end 1 (levels 10 (end_depth modes)) InTemplate b
      (template_ends (levels 9 (end_depth modes)) (mode ∷ modes) (later (at_end modes)) b end);
}
  where
    later : EndsAtEnd (end_depth modes) modes → ThenEnds (levels 9 (end_depth modes)) modes
    later all b end plain other = by_mode (is_template_mode b.mode) refl
      where
        by_mode : (x : Bool) → is_template_mode b.mode ≡ x → Ends (levels 9 (end_depth modes)) b.mode b
        by_mode true e = subst (λ now. Ends (levels 9 (end_depth modes)) now b) (sym (is_template b.mode e))
            (levels_end 9 (end_depth modes) InTemplate b (all.template b end))
          where
            is_template : (now : Mode) → is_template_mode now ≡ true → now ≡ InTemplate
            is_template InTemplate h = refl
            is_template _ h = cc
        by_mode false e = eof_plain (end_depth modes) modes all.body b end plain e

-- ---- a start tag `table`

-- the list has at most so many numbers
abbrev pub Within : ℕ → List ℕ → Type 0
Within zero [] = Unit {0}
Within zero (m ∷ ms) = ⊥
Within (suc n) [] = Unit {0}
Within (suc n) (m ∷ ms) = Within n ms

pub looser : (n : ℕ) (ns : List ℕ) → Within n ns → Within (suc n) ns
looser zero [] h = tt
looser zero (m ∷ ms) h = absurd h
looser (suc n) [] h = tt
looser (suc n) (m ∷ ms) h = looser n ms h

none_within : (n : ℕ) → Within n []
none_within zero = tt
none_within (suc n) = tt

within_length : (n : ℕ) (ns : List ℕ) → length ns ≤ n → Within n ns
within_length zero [] h = tt
within_length zero (m ∷ ms) h = absurd (omega (arith, h))
within_length (suc n) [] h = tt
within_length (suc n) (m ∷ ms) h = within_length n ms (omega (arith, h))

pub size : List ℕ → ℕ
size [] = zero
size (n ∷ ns) = suc (size ns)

pub within_size : (ns : List ℕ) → Within (size ns) ns
unfolding size
within_size [] = tt
within_size (n ∷ ns) = within_size ns

past_within : (test : ℕ → Bool) (n : ℕ) (ns : List ℕ) → Within n ns → Within n (past test ns)
past_within test n [] h = h
past_within test zero (m ∷ ms) h = absurd h
past_within test (suc n) (m ∷ ms) h = by_test (test m) (past_within test n ms h)
  where
    by_test : (x : Bool) → Within n (past test ms) → Within (suc n) (elim x [ true ↦ ms | false ↦ past test ms ])
    by_test true rest = looser n ms h
    by_test false rest = looser n (past test ms) rest

beyond_within : (test : ℕ → Bool) (n : ℕ) (ns : List ℕ) → Within n ns → Within n (beyond test ns)
beyond_within test n [] h = h
beyond_within test zero (m ∷ ms) h = absurd h
beyond_within test (suc n) (m ∷ ms) h = by_test (test m) (beyond_within test n ms h)
  where
    by_test : (x : Bool) → Within n (beyond test ms) → Within (suc n) (elim x [ true ↦ beyond test ms | false ↦ m ∷ ms ])
    by_test true rest = looser n (beyond test ms) rest
    by_test false rest = h

dropped_within : (n : ℕ) (ns : List ℕ) → Within n ns → Within n (drop 1 ns)
dropped_within n [] h = h
dropped_within zero (m ∷ ms) h = absurd h
dropped_within (suc n) (m ∷ ms) h = looser n ms h

-- what is in scope is popped, so the stack is shorter
popped_within : (wanted ends test : ℕ → Bool) (n : ℕ) (ns : List ℕ) → in_scope wanted ends ns ≡ true → Within (suc n) ns → Within n (past test ns)
popped_within wanted ends test n [] scope h = cc
popped_within wanted ends test n (m ∷ ms) scope h = by_test (test m)
  where
    by_test : (x : Bool) → Within n (elim x [ true ↦ ms | false ↦ past test ms ])
    by_test true = h
    by_test false = past_within test n ms h

none_in_scope : (wanted ends : ℕ → Bool) (ns : List ℕ) → in_scope wanted ends ns ≡ true → Within zero ns → ⊥
none_in_scope wanted ends [] scope h = cc
none_in_scope wanted ends (m ∷ ms) scope h = h

abbrev pub table : List Attr → Bool → Token
table attrs closing = AStart (codes "table") attrs closing

by_table : (P : Building → Type 0) (b : Building) → is_table_tag b.token ≡ true → ((attrs : List Attr) (closing : Bool) → P (at (table attrs closing) b)) → P b
by_table P b tag all = by_kind b.token refl tag
  where
    by_kind : (t : Token) → b.token ≡ t → is_table_tag t ≡ true → P b
    by_kind (AStart name attrs closing) e h =
        by_token P (table attrs closing) b (e ∙ ap (λ n. AStart n attrs closing) ((bytes_eq-Decides name (codes "table")).0 h)) (all attrs closing)
    by_kind _ e h = cc

-- how deep rules use rules at most, for each of the open elements
abbrev pub table_depth : ℕ → ℕ
table_depth zero = 1
table_depth (suc n) = levels 10 (table_depth n)

-- with at most so many open elements
abbrev pub TablesEnd : ℕ → Type 0
TablesEnd n = (b : Building) → is_table_tag b.token ≡ true → Good b → Within n b.tree.stack → Ends (table_depth n) InTable b

abbrev pub TableTagsEnd : ℕ → Type 0
TableTagsEnd n =
    (b : Building) → is_table_tag b.token ≡ true → Good b → Within n b.tree.stack → is_plain b.mode ≡ true → Ends (levels 9 (table_depth n)) b.mode b

abbrev pub one_popped : Building → Building
one_popped b = perform (SwitchTo InTable) (perform Pop b)

among_tables : (n : ℕ) → TablesEnd n → (attrs : List Attr) (closing : Bool) (mode : Mode) → is_among_tables mode ≡ true → (b : Building) → Good b →
    Within n b.tree.stack → Ends (more 3 (table_depth n)) mode (at (table attrs closing) b)
unfolding rules taken perform
among_tables n tables attrs closing InTable h b good few =
    more_end 3 (table_depth n) InTable (at (table attrs closing) b) (tables (at (table attrs closing) b) refl good few)
among_tables n tables attrs closing InTableBody h b good few =
    by_rules (more 2 (table_depth n)) InTableBody (at (table attrs closing) b) (only_goes (more 2 (table_depth n)) (Use InTable) (at (table attrs closing) b)
    (more_end 2 (table_depth n) InTable (at (table attrs closing) b) (tables (at (table attrs closing) b) refl good few)))
among_tables n tables attrs closing InRow h b good few =
    by_rules (more 2 (table_depth n)) InRow (at (table attrs closing) b) (only_goes (more 2 (table_depth n)) (Use InTable) (at (table attrs closing) b)
    (more_end 2 (table_depth n) InTable (at (table attrs closing) b) (tables (at (table attrs closing) b) refl good few)))
among_tables n tables attrs closing InColumnGroup h b good few =
    by_rules (more 2 (table_depth n)) InColumnGroup (at (table attrs closing) b) (by_current (list_all (is_met (at (table attrs closing) b)) (isnt (CurrentNode (These (codes "colgroup" ∷ []))) ∷ [])))
  where
    c : Building
    c = one_popped (at (table attrs closing) b)

    by_current : (x : Bool) → ActsEnd (more 2 (table_depth n)) (elim x [ true ↦ [] | false ↦ does Pop [] ∷ does (SwitchTo InTable) [] ∷ goes Reprocess ∷ [] ]) (at (table attrs closing) b)
    by_current true = quiet_end (more 2 (table_depth n)) [] (at (table attrs closing) b) refl good
    by_current false = only_goes (more 2 (table_depth n)) Reprocess c (dispatch (table_depth n) c (refl, good.1, good.2)
        (tables c refl (refl, good.1, good.2) (dropped_within n b.tree.stack few))
        (tables (without_foreign c) refl (refl, good.1, good.2) (beyond_within (is_foreign c.tree) n c.tree.stack (dropped_within n b.tree.stack few))))
among_tables n tables attrs closing _ h b good few = cc

table_tags_end : (n : ℕ) → TablesEnd n → TableTagsEnd n
table_tags_end n tables b tag good few plain =
    by_table (λ c. Ends (levels 9 (table_depth n)) c.mode c) b tag (λ attrs closing. by_mode attrs closing (is_among_tables b.mode) refl)
  where
    by_mode : (attrs : List Attr) (closing : Bool) (x : Bool) → is_among_tables b.mode ≡ x → Ends (levels 9 (table_depth n)) b.mode (at (table attrs closing) b)
    by_mode attrs closing true e =
        levels_end 8 (more 3 (table_depth n)) b.mode (at (table attrs closing) b) (among_tables n tables attrs closing b.mode e b good few)
    by_mode attrs closing false e =
        computed (table_depth n) [] never (none_shown (table_depth n) []) depth (AStart (codes "table") [] false) b.mode b.mode (tables_end b.mode plain e) (at (table attrs closing) b)
        (refl, refl, λ h. cc) good

-- the innermost table is closed
table_closed : Building → Building
table_closed b = perform ResetMode (perform (PopUntil (These (codes "table" ∷ []))) b)

abbrev pub table_in_scope : Building → Bool
table_in_scope b = in_scope (is_one b.tree (codes "table" ∷ [])) (ends_scope TableScope b.tree) b.tree.stack

table_acts_end : (d : ℕ) (b : Building) → Good b → ((table_in_scope b ≡ true) → Ends d Dispatcher (table_closed b)) → (x : Bool) → table_in_scope b ≡ x → ActsEnd d (elim (not x && true) [
  | true ↦ []
  | false ↦ does (PopUntil (These (codes "table" ∷ []))) [] ∷ does ResetMode [] ∷ goes Reprocess ∷ []
]) b
unfolding perform table_closed
table_acts_end d b good later true e = only_goes d Reprocess (table_closed b) (later e)
table_acts_end d b good later false e = quiet_end d [] b refl good

in_table : (d : ℕ) (b : Building) (attrs : List Attr) (closing : Bool) → Good b → (table_in_scope b ≡ true → Ends d Dispatcher (table_closed (at (table attrs closing) b))) →
    Ends (more 1 d) InTable (at (table attrs closing) b)
unfolding rules taken
in_table d b attrs closing good later =
    by_rules d InTable (at (table attrs closing) b) (table_acts_end d (at (table attrs closing) b) good later (table_in_scope b) refl)

after_closing : (n : ℕ) → TableTagsEnd n → (b : Building) → is_table_tag b.token ≡ true → Good b → Within (suc n) b.tree.stack → table_in_scope b ≡ true →
    Ends (more 2 (levels 9 (table_depth n))) Dispatcher (table_closed b)
unfolding perform table_closed
after_closing n tags b tag good few scope =
    dispatch (levels 9 (table_depth n)) (table_closed b) good_now (tags (table_closed b) tag good_now fewer plain)
    (tags (without_foreign (table_closed b)) tag good_now (beyond_within (is_foreign b.tree) n (past (is_one b.tree (codes "table" ∷ [])) b.tree.stack) fewer) plain)
  where
    c : Building
    c = perform (PopUntil (These (codes "table" ∷ []))) b

    plain : is_plain (reset_from c.tree c.template_modes c.tree.stack) ≡ true
    plain = plain_reset c good

    good_now : Good (table_closed b)
    good_now = (plain_real (reset_from c.tree c.template_modes c.tree.stack) plain, good.1, good.2)

    fewer : Within n (past (is_one b.tree (codes "table" ∷ [])) b.tree.stack)
    fewer = popped_within (is_one b.tree (codes "table" ∷ [])) (ends_scope TableScope b.tree) (is_one b.tree (codes "table" ∷ [])) n b.tree.stack scope few

pub tables_end_within : (n : ℕ) → TablesEnd n
tables_end_within zero b tag good few =
    by_table (λ c. Ends 1 InTable c) b tag (λ attrs closing. in_table 0 b attrs closing good
    (λ scope. absurd (none_in_scope (is_one b.tree (codes "table" ∷ [])) (ends_scope TableScope b.tree) b.tree.stack scope few)))
tables_end_within (suc n) b tag good few =
    by_table (λ c. Ends (table_depth (suc n)) InTable c) b tag (λ attrs closing. in_table (more 2 (levels 9 (table_depth n))) b attrs closing good
    (λ scope. after_closing n (table_tags_end n (tables_end_within n)) (at (table attrs closing) b) refl good few scope))

-- ---- plain modes

among_passes : (test : List ℕ → Bool) (ns : List (List ℕ)) → list_all test ns ≡ true → (name : List ℕ) → is_among name ns ≡ true → test name ≡ true
among_passes test [] all name h = cc
among_passes test (n ∷ ns) all name h = by_first (bytes_eq name n) refl h (among_passes test ns (both (test n) (list_all test ns) all).1 name)
  where
    by_first : (x : Bool) → bytes_eq name n ≡ x → x || is_among name ns ≡ true → (is_among name ns ≡ true → test name ≡ true) → test name ≡ true
    by_first true e k later = ap test ((bytes_eq-Decides name n).0 e) ∙ (both (test n) (list_all test ns) all).0
    by_first false e k later = later k

known_passes : (test : List ℕ → Bool) → list_all test ([] ∷ names) ≡ true → (name : List ℕ) → test (known_name name) ≡ true
known_passes test all name = by_cases (is_among name names) refl
  where
    by_cases : (x : Bool) → is_among name names ≡ x → test (elim x [ true ↦ name | false ↦ [] ]) ≡ true
    by_cases true e = among_passes test names (both (test []) (list_all test names) all).1 name e
    by_cases false e = (both (test []) (list_all test names) all).0

char_passes : (test : ℕ → Bool) → list_all test (0 ∷ 32 ∷ 97 ∷ []) ≡ true → (c : ℕ) → test (char_like c) ≡ true
char_passes test all c = by_cases (c == 0) (is_space c)
  where
    rest : list_all test (32 ∷ 97 ∷ []) ≡ true
    rest = (both (test 0) (list_all test (32 ∷ 97 ∷ [])) all).1

    by_cases : (x y : Bool) → test (elim x [ true ↦ 0 | false ↦ elim y [ true ↦ 32 | false ↦ 97 ] ]) ≡ true
    by_cases true y = (both (test 0) (list_all test (32 ∷ 97 ∷ [])) all).0
    by_cases false true = (both (test 32) (list_all test (97 ∷ [])) rest).0
    by_cases false false = (both (test 97) true (both (test 32) (list_all test (97 ∷ [])) rest).1).0

-- how deep rules use rules at most, with so many open elements and these template insertion modes
pub plain_depth : ℕ → List Mode → ℕ
plain_depth m modes = more (levels 9 (table_depth m)) (levels 9 (end_depth modes))

-- for a tag, a character, a comment or a doctype; at the end of the file
plain_left : (m : ℕ) (b : Building) → Ends (levels 9 (table_depth m)) b.mode b → Ends (plain_depth m b.template_modes) b.mode b
unfolding plain_depth
plain_left m b end =
    (end.0, run_left (levels 9 (table_depth m)) (levels 9 (end_depth b.template_modes)) b.mode b end.0 end.1, end.2)

plain_right : (m : ℕ) (b : Building) → Ends (levels 9 (end_depth b.template_modes)) b.mode b → Ends (plain_depth m b.template_modes) b.mode b
unfolding plain_depth
plain_right m b end = more_end (levels 9 (table_depth m)) (levels 9 (end_depth b.template_modes)) b.mode b end

plain_ends : (m : ℕ) (b : Building) → Good b → Within m b.tree.stack → is_plain b.mode ≡ true → Ends (plain_depth m b.template_modes) b.mode b
plain_ends m b good few plain = by_kind b.token refl
  where
    stands : (t : Token) → b.token ≡ t → Stands b.template_modes (Some b.mode) (like t) b
    stands t e = (refl, ap like e, λ h. refl)

    by_none : (t : Token) → b.token ≡ t → ends never depth (like t) b.mode b.mode ≡ true → Ends (plain_depth m b.template_modes) b.mode b
    by_none t e h = plain_left m b
        (computed (table_depth m) b.template_modes never (none_shown (table_depth m) b.template_modes) depth (like t) b.mode b.mode h b (stands t e) good)

    rest : list_all (λ t. ends never depth t b.mode b.mode) (AComment [] ∷ ADoctype no_doctype ∷ []) ≡ true
    rest = (both (ends never depth (AChar 97) b.mode b.mode) (list_all (λ t. ends never depth t b.mode b.mode) (AComment [] ∷ ADoctype no_doctype ∷ []))
        (both (ends never depth (AChar 32) b.mode b.mode) (list_all (λ t. ends never depth t b.mode b.mode) (AChar 97 ∷ AComment [] ∷ ADoctype no_doctype ∷ []))
        (both (ends never depth (AChar 0) b.mode b.mode) (list_all (λ t. ends never depth t b.mode b.mode) (AChar 32 ∷ AChar 97 ∷ AComment [] ∷ ADoctype no_doctype ∷ []))
        (others_end b.mode plain)).1).1).1

    by_tag : (name : List ℕ) (attrs : List Attr) (closing : Bool) → b.token ≡ AStart name attrs closing → (x : Bool) → bytes_eq name (codes "table") ≡ x →
        start_ends b.mode (known_name name) ≡ true → Ends (plain_depth m b.template_modes) b.mode b
    by_tag name attrs closing e true is h = plain_left m b (table_tags_end m (tables_end_within m) b (ap is_table_tag e ∙ is) good few plain)
    by_tag name attrs closing e false is h =
        by_none (AStart name attrs closing) e (sym (ap (λ x. x || ends never depth (like (AStart name attrs closing)) b.mode b.mode) (unknown name is)) ∙ h)
      where
        unknown : (one : List ℕ) → bytes_eq one (codes "table") ≡ false → bytes_eq (known_name one) (codes "table") ≡ false
        unknown one k = by (is_among one names)
          where
            by : (x : Bool) → bytes_eq (elim x [ true ↦ one | false ↦ [] ]) (codes "table") ≡ false
            by true = k
            by false = refl

    by_kind : (t : Token) → b.token ≡ t → Ends (plain_depth m b.template_modes) b.mode b
    by_kind (AStart name attrs closing) e =
        by_tag name attrs closing e (bytes_eq name (codes "table")) refl (known_passes (start_ends b.mode) (starts_end b.mode plain) name)
    by_kind (AnEnd name) e = by_none (AnEnd name) e (known_passes (λ one. ends never depth (AnEnd one) b.mode b.mode) (ends_end b.mode plain) name)
    by_kind (AChar c) e = by_none (AChar c) e (char_passes (λ one. ends never depth (AChar one) b.mode b.mode) (first_three b.mode plain) c)
      where
        first_three : (now : Mode) → is_plain now ≡ true → list_all (λ one. ends never depth (AChar one) now now) (0 ∷ 32 ∷ 97 ∷ []) ≡ true
        first_three now h = three (ends never depth (AChar 0) now now) (ends never depth (AChar 32) now now) (ends never depth (AChar 97) now now)
            (list_all (λ t. ends never depth t now now) (AComment [] ∷ ADoctype no_doctype ∷ [])) (others_end now h)
          where
            three : (x y z w : Bool) → x && (y && (z && w)) ≡ true → x && (y && (z && true)) ≡ true
            three true true true w k = refl
            three true true false w k = cc
            three true false z w k = cc
            three false y z w k = cc
    by_kind (AComment text) e =
        by_none (AComment text) e (both (ends never depth (AComment []) b.mode b.mode) (list_all (λ t. ends never depth t b.mode b.mode) (ADoctype no_doctype ∷ [])) rest).0
    by_kind (ADoctype doctype) e =
        by_none (ADoctype doctype) e (both (ends never depth (ADoctype no_doctype) b.mode b.mode) true
        (both (ends never depth (AComment []) b.mode b.mode) (list_all (λ t. ends never depth t b.mode b.mode) (ADoctype no_doctype ∷ [])) rest).1).0
    by_kind AnEof e = plain_right m b (by_template (is_template_mode b.mode) refl)
      where
        by_template : (x : Bool) → is_template_mode b.mode ≡ x → Ends (levels 9 (end_depth b.template_modes)) b.mode b
        by_template true f = levels_end 9 (end_depth b.template_modes) b.mode b
            (subst (λ now. Ends (end_depth b.template_modes) now b) (sym (is_template b.mode f)) ((at_end b.template_modes).template b (e, refl, good)))
          where
            is_template : (now : Mode) → is_template_mode now ≡ true → now ≡ InTemplate
            is_template InTemplate h = refl
            is_template _ h = cc
        by_template false f = eof_plain (end_depth b.template_modes) b.template_modes (at_end b.template_modes).body b (e, refl, good) plain f

plain_dispatch : (m : ℕ) (b : Building) → Good b → Within m b.tree.stack → is_plain b.mode ≡ true → Ends (more 2 (plain_depth m b.template_modes)) Dispatcher b
unfolding perform
plain_dispatch m b good few plain = dispatch (plain_depth m b.template_modes) b good (plain_ends m b good few plain)
    (plain_ends m (without_foreign b) good (beyond_within (is_foreign b.tree) m b.tree.stack few) plain)

-- ---- "text" and "in table text": back to the original insertion mode

abbrev pub switches_back : Action → Bool
switches_back SwitchBack = true
switches_back _ = false

-- the stack of open elements has no more elements behind it
abbrev pub adds_none : Action → Bool
adds_none Pop = true
adds_none InsertPending = true
adds_none _ = false

-- the stack and the list of active formatting elements stay the same
abbrev pub fosters : Action → Bool
fosters FosterOn = true
fosters FosterOff = true
fosters _ = false

abbrev pub leaves : List Act → Bool
leaves (does one [] ∷ does other [] ∷ goes Reprocess ∷ []) = adds_none one && switches_back other
leaves (does one [] ∷ goes (UseForEachPending InBody) ∷ does two [] ∷ does three [] ∷ goes Reprocess ∷ []) =
    fosters one && (fosters two && switches_back three)
leaves _ = false

abbrev pub is_leaving_or_quiet : List Act → Bool
is_leaving_or_quiet acts = are_quiet acts || leaves acts

text_passes : acts_pass is_leaving_or_quiet (rules Text) ≡ true
unfolding rules
text_passes = refl

table_text_passes : acts_pass is_leaving_or_quiet (rules InTableText) ≡ true
unfolding rules
table_text_passes = refl

-- the depth behind that
abbrev pub back_depth : ℕ → List Mode → ℕ
back_depth m modes = more 2 (plain_depth m modes)

-- where so many elements are open
abbrev pub Stays : List Mode → ℕ → Building → Type 0
Stays modes m b = Good b × (b.template_modes ≡ modes) × Within m b.tree.stack

back : (modes : List Mode) (m : ℕ) (action : Action) (b : Building) → switches_back action ≡ true → Stays modes m b → ActsEnd (back_depth m modes) (does action [] ∷ goes Reprocess ∷ []) b
unfolding perform
back modes m SwitchBack b h stays = only_goes (back_depth m modes) Reprocess (perform SwitchBack b)
    (subst (λ ms. Ends (more 2 (plain_depth m ms)) Dispatcher (perform SwitchBack b)) stays.1
    (plain_dispatch m (perform SwitchBack b) (plain_real b.original stays.0.1, stays.0.1, stays.0.2) stays.2 stays.0.1))
back modes m _ b h stays = cc

-- as many elements fit
within_room : (m : ℕ) (t : GrowingTree) → room t ≤ m → Within m t.stack
within_room m t few = within_length m t.stack (omega (arith, few, stack_below t))

adding_none : (modes : List Mode) (m : ℕ) (action : Action) (b : Building) → adds_none action ≡ true → Holds modes m b → Stays modes m (perform action b)
unfolding perform
adding_none modes m Pop b h holds = (holds.good, holds.modes_are, dropped_within m b.tree.stack (within_room m b.tree holds.few))
adding_none modes m InsertPending b h holds =
    (holds.good, holds.modes_are, subst (λ s. Within m s) (sym (chars_stack (reverse b.pending) b.tree)) (within_room m b.tree holds.few))
adding_none modes m _ b h holds = cc

fostering : (modes : List Mode) (m : ℕ) (action : Action) (b : Building) → fosters action ≡ true → Holds modes m b → Holds modes m (perform action b)
unfolding perform
fostering modes m FosterOn b h holds = record { good = holds.good; modes_are = holds.modes_are; few = holds.few }
fostering modes m FosterOff b h holds = record { good = holds.good; modes_are = holds.modes_are; few = holds.few }
fostering modes m _ b h holds = cc

stays_there : (modes : List Mode) (m : ℕ) (b : Building) → Holds modes m b → Stays modes m b
stays_there modes m b holds = (holds.good, holds.modes_are, within_room m b.tree holds.few)

leaving_end : (modes : List Mode) (m : ℕ) (acts : List Act) (b : Building) → leaves acts ≡ true → Holds modes m b → ActsEnd (back_depth m modes) acts b
leaving_end modes m (does one [] ∷ does other [] ∷ goes Reprocess ∷ []) b h holds =
    back modes m other (perform one b) (both (adds_none one) (switches_back other) h).1
    (adding_none modes m one b (both (adds_none one) (switches_back other) h).0 holds)
leaving_end modes m (does one [] ∷ goes (UseForEachPending InBody) ∷ does two [] ∷ does three [] ∷ goes Reprocess ∷ []) b h holds =
    go_on (back_depth m modes) (UseForEachPending InBody) (does two [] ∷ does three [] ∷ goes Reprocess ∷ []) now
    (behind, ap (option_map (with_token now.token now.attrs)) chars.1, chars.2.good)
    (back modes m three (perform two behind) (both (fosters two) (switches_back three) later).1
    (stays_there modes m (perform two behind) (fostering modes m two behind (both (fosters two) (switches_back three) later).0
    (record { good = chars.2.good; modes_are = chars.2.modes_are; few = chars.2.few }))))
  where
    later : fosters two && switches_back three ≡ true
    later = (both (fosters one) (fosters two && switches_back three) h).1

    now : Building
    now = perform one b

    chars : CharEnds modes m (each_char (run (back_depth m modes) InBody) (reverse now.pending) now)
    chars = chars_run modes m (more 1 (plain_depth m modes)) (reverse now.pending) now
        (fostering modes m one b (both (fosters one) (fosters two && switches_back three) h).0 holds)

    behind : Building
    behind = with_token now.token now.attrs chars.0
leaving_end modes m _ b h holds = cc

by_leaving : (m : ℕ) (mode : Mode) → acts_pass is_leaving_or_quiet (rules mode) ≡ true → (b : Building) → Good b → room b.tree ≤ m →
    Ends (more 3 (plain_depth m b.template_modes)) mode b
by_leaving m mode all b good few =
    by_rules (back_depth m b.template_modes) mode b
    (by_kind (either (are_quiet acts) (leaves acts) (taken_of_all is_leaving_or_quiet refl b (rules mode) all)))
  where
    acts : List Act
    acts = taken b (rules mode)

    by_kind : (are_quiet acts ≡ true) ⊎ (leaves acts ≡ true) → ActsEnd (back_depth m b.template_modes) acts b
    by_kind (inl quiet) = quiet_end (back_depth m b.template_modes) acts b quiet good
    by_kind (inr leaving) = leaving_end b.template_modes m acts b leaving (record { good = good; modes_are = refl; few = few })

-- so many elements are open, or in the list of active formatting elements
abbrev HasFew : ℕ → GrowingTree → Type 0
HasFew m t = length t.stack + length t.listed ≤ m

-- in every insertion mode
mode_ends : (m : ℕ) (b : Building) → Good b → HasFew m b.tree → Ends (more 3 (plain_depth m b.template_modes)) b.mode b
mode_ends m b good few = by_plain (is_plain b.mode) refl
  where
    in_text : (mode : Mode) → is_real mode ≡ true → is_plain mode ≡ false → Ends (more 3 (plain_depth m b.template_modes)) mode b
    in_text Text h k = by_leaving m Text text_passes b good (omega (arith, few, room_below b.tree))
    in_text InTableText h k = by_leaving m InTableText table_text_passes b good (omega (arith, few, room_below b.tree))
    in_text _ h k = cc

    by_plain : (x : Bool) → is_plain b.mode ≡ x → Ends (more 3 (plain_depth m b.template_modes)) b.mode b
    by_plain true e = more_end 3 (plain_depth m b.template_modes) b.mode b (plain_ends m b good (within_length m b.tree.stack (omega (arith, few))) e)
    by_plain false e = in_text b.mode good.0 e

fewer_beyond : (test : ℕ → Bool) (ns : List ℕ) → length (beyond test ns) ≤ length ns
fewer_beyond test [] = omega arith
fewer_beyond test (n ∷ ns) = by (test n) (fewer_beyond test ns)
  where
    by : (x : Bool) → length (beyond test ns) ≤ length ns → length {A = ℕ} (elim x [ true ↦ beyond test ns | false ↦ n ∷ ns ]) ≤ suc (length ns)
    by true h = omega (arith, h)
    by false h = omega arith

dispatcher_ends : (m : ℕ) (b : Building) → Good b → HasFew m b.tree → Ends (more 5 (plain_depth m b.template_modes)) Dispatcher b
unfolding perform
dispatcher_ends m b good few =
    dispatch (more 3 (plain_depth m b.template_modes)) b good (mode_ends m b good few)
    (mode_ends m (without_foreign b) good (omega (arith, few, fewer_beyond (is_foreign b.tree) b.tree.stack)))

-- ---- the depth in numbers

levels_are : (n d : ℕ) → levels n d ≡ 3 * n + d
levels_are zero d = omega arith
levels_are (suc n) d = omega (arith, levels_are n d)

more_is : (k d : ℕ) → more k d ≡ k + d
more_is zero d = omega arith
more_is (suc k) d = omega (arith, more_is k d)

table_depth_is : (m : ℕ) → table_depth m ≡ 1 + 30 * m
table_depth_is zero = refl
table_depth_is (suc m) = omega (arith, levels_are 10 (table_depth m), table_depth_is m)

end_depth_is : (modes : List Mode) → end_depth modes ≡ 32 + 31 * length modes
end_depth_is [] = refl
end_depth_is (mode ∷ modes) = omega (arith, levels_are 10 (end_depth modes), end_depth_is modes)

plain_depth_is : (m : ℕ) (modes : List Mode) → plain_depth m modes ≡ 87 + 30 * m + 31 * length modes
unfolding plain_depth
plain_depth_is m modes =
    let first : levels 9 (table_depth m) ≡ 27 + table_depth m = levels_are 9 (table_depth m) in
    let second : levels 9 (end_depth modes) ≡ 27 + end_depth modes = levels_are 9 (end_depth modes) in
    omega (arith, more_is (levels 9 (table_depth m)) (levels 9 (end_depth modes)), first, second, table_depth_is m, end_depth_is modes)

pub token_ends : (b : Building) → Good b → Ends (depth_at b) Dispatcher b
token_ends b good =
    let m : ℕ = length b.tree.stack + length b.tree.listed in
    let end : Ends (more 5 (plain_depth m b.template_modes)) Dispatcher b = dispatcher_ends m b good (omega arith) in
    let few : more 5 (plain_depth m b.template_modes) ≤ depth_at b = omega (arith, more_is 5 (plain_depth m b.template_modes), plain_depth_is m b.template_modes) in
    (end.0, run_deeper (more 5 (plain_depth m b.template_modes)) (depth_at b) few Dispatcher b end.0 end.1, end.2)

pub every_token_ends : EveryTokenEnds
every_token_ends b mode original modes = let end : Ends (depth_at b) Dispatcher b = token_ends b (mode, original, modes) in (end.0, end.1)

-- ---- tokens

abbrev pub StepEnds : Building → Token → Type 0
StepEnds b token = (d : ℕ) × (c : Building) × (tree_step d b token ≡ Some c) × Good c

step_ends : (b : Building) (token : Token) → Good b → StepEnds b token
unfolding tree_step
step_ends b token good = by_skip (b.skip && is_line_feed token) refl
  where
    by_skip : (x : Bool) → (b.skip && is_line_feed token) ≡ x → (d : ℕ) × (c : Building) ×
        (elim x [ true ↦ Some (with_next token b) | false ↦ run d Dispatcher (with_next token b) ] ≡ Some c) × Good c
    by_skip true e = (zero, with_next token b, refl, good)
    by_skip false e =
        let end : Ends (depth_at (with_next token b)) Dispatcher (with_next token b) = token_ends (with_next token b) good in
        (depth_at (with_next token b), end.0, end.1, end.2)

abbrev pub StepsEnd : Building → List Token → Type 0
StepsEnd b tokens = (d : ℕ) × (c : Building) × (tree_steps d b tokens ≡ Some c) × Good c

pub steps_end : (tokens : List Token) (b : Building) → Good b → StepsEnd b tokens
steps_end [] b good = (zero, b, refl, good)
steps_end (token ∷ tokens) b good = joined (step_ends b token good) (steps_end tokens (step_ends b token good).1 (step_ends b token good).3)
  where
    joined : (first : StepEnds b token) → StepsEnd first.1 tokens → StepsEnd b (token ∷ tokens)
    joined first rest = (
      more first.0 rest.0,
      rest.1,
      then_some (λ after. tree_steps (more first.0 rest.0) after tokens) (tree_step (more first.0 rest.0) b token) first.1 (Some rest.1)
          (step_below first.0 (more first.0 rest.0) (deeper first.0 rest.0) token b first.1 first.2)
          (steps_below rest.0 (more first.0 rest.0) (run_right first.0 rest.0) tokens first.1 rest.1 rest.2),
      rest.3,
    )
      where
        deeper : (d e : ℕ) → BelowIn (run d) (run (more d e))
        deeper d e = run_left d e
