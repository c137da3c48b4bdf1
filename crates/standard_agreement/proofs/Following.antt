-- What the one definition does with a token, the other does.
use Rattle.std.specs.Prelude.{◌≡◌, refl, ℕ, Bool, true, false, not, ◌&&◌, ◌||◌, List, [], ◌∷◌, Option, None, Some, drop, option_map, reverse}
use Rattle.std.specs.List.{list_all, list_any}
use Rattle.std.specs.Option.{option_and_then}
use Rattle.std.proofs.lemmas.Bool.{true≢false}
use Rattle.std.proofs.lemmas.Option.{same_Some}
use mathlib.Core.Path.{◌∙◌, sym, ap, subst}
use Rattle.standard_tokens.specs.Reading.{switch_at, switch_behind}
use Rattle.standard_tokens.specs.States.{PLAINTEXT, RAWTEXT, RCDATA, ScriptData, State}
use Rattle.standard_tokens.specs.Tokens.{Token, AChar, AComment, ADoctype, AStart, AnEnd, AnEof}
use Rattle.standard_rules.specs.Building.{Building, act, all_acts, at_mode, goes_on, own_name, reset as old_reset, top_is, popped, on_stack}
use Rattle.standard_rules.specs.RuleWords as O
use Rattle.standard_trees.specs.Building.{Building as WholeBuilding, is_empty as nothing_open, is_met, is_space, names_for, perform, performed, reset, token_attrs, with_tree}
use Rattle.standard_trees.specs.GrowingTree.{adjusted_current, current, is_one, with_chars, with_stack}
use Rattle.standard_trees.specs.Parsing.{state_of}
use Rattle.standard_trees.specs.RuleWords as N
use Rattle.standard_trees.specs.TreeStore.{Kind, is_html, space_in}
use Rattle.standard_agreement.proofs.Names.{alike}
use Rattle.standard_agreement.proofs.Parts.{pop_op}
use Rattle.standard_agreement.proofs.Acting.{Stands, top_test}
use Rattle.standard_agreement.proofs.Acts.{Done, FreshIs, Quiet, act_sound, by_stack}
use Rattle.standard_agreement.proofs.Choosing.{Case, Ever, Never, Unsure, Verdict, ends, first_fits, fits_act, follows, fresh_after, goes_fit, is_empty, is_idle, is_later, is_mode, is_none, is_text_state, last_act, new_list, only_reprocess, only_text, pops_if, switch_of, to_mode}
use Rattle.standard_agreement.proofs.Choosing.{verdict, without_first, without_idle}
use Rattle.standard_agreement.proofs.Deciding.{CaseHolds, IsPage, VerdictIs, alike_lists, both, new_names, verdict_is}

-- ---- modes

-- the state to which tree construction switches the tokenizer behind the token, in that mode
abbrev pub answer_in : O.Mode → Token → Option State
answer_in O.Text t = switch_behind (t ∷ [])
answer_in _ t = None

-- the original insertion mode counts in the mode "text" alone
abbrev pub Original : O.Mode → O.Mode → N.Mode → Type 0
Original O.Text old new = (new ≡ to_mode old) × (is_later old ≡ true)
Original _ old new = Unit {0}

abbrev pub is_char : Token → Bool
is_char (AChar c) = true
is_char _ = false

-- behind the token the one state is the other
pub record Settled (around : Option Kind) (t : Token) (b : Building) (c : WholeBuilding) : Type 0 where
  pub stands : Stands around b c
  pub mode : c.mode ≡ to_mode b.mode
  pub original : Original b.mode b.original c.original
  pub later : is_later b.mode ≡ true
  pub answer : option_map state_of c.tokenizer ≡ answer_in b.mode t

abbrev pub is_table_mode : O.Mode → Bool
is_table_mode O.InTable = true
is_table_mode O.InTableBody = true
is_table_mode O.InRow = true
is_table_mode _ = false

-- the rules of these modes are used while the mode is another
abbrev pub allowed : O.Mode → O.Mode → Bool
allowed O.InHead now = true
allowed O.InBody now = true
allowed O.InTable now = is_table_mode now
allowed O.AfterHead O.AfterHead = true
allowed O.Text O.Text = true
allowed O.InCaption O.InCaption = true
allowed O.InColumnGroup O.InColumnGroup = true
allowed O.InTableBody O.InTableBody = true
allowed O.InRow O.InRow = true
allowed O.InCell O.InCell = true
allowed O.AfterBody O.AfterBody = true
allowed O.AfterAfterBody O.AfterAfterBody = true
allowed _ _ = false

abbrev pub flushed : WholeBuilding → WholeBuilding
flushed c = with_tree c (with_chars (reverse c.pending) c.tree)

-- or it will be, once the white space in a table has been inserted
pub record Lagging (around : Option Kind) (b : Building) (c : WholeBuilding) : Type 0 where
  pub stands : Stands around b (flushed c)
  pub mode : c.mode ≡ N.InTableText
  pub original : c.original ≡ to_mode b.mode
  pub table : is_table_mode b.mode ≡ true
  pub white : list_all is_space c.pending ≡ true
  pub html : is_html (space_in (adjusted_current c.tree)) ≡ true
  pub opened : nothing_open c.tree.stack ≡ false
  pub answer : c.tokenizer ≡ None

pub data Meets (around : Option Kind) (t : Token) (b : Building) (c : WholeBuilding) : Type 0 where
  settled : Settled around t b c → Meets around t b c
  lagging : is_char t ≡ true → Lagging around b c → Meets around t b c

abbrev pub turned : Option N.Mode → O.Mode → N.Mode
turned None mode = to_mode mode
turned (Some new) mode = new

-- while rules are used
pub record Run (around : Option Kind) (turn : Option N.Mode) (b : Building) (c : WholeBuilding) : Type 0 where
  pub stands : Stands around b c
  pub attrs : c.attrs ≡ token_attrs c.token
  pub quiet : c.tokenizer ≡ None
  pub mode : c.mode ≡ turned turn b.mode
  pub original : Original b.mode b.original c.original
  pub later : is_later b.mode ≡ true
  pub silent : answer_in b.mode c.token ≡ None

run_done : (around : Option Kind) (turn : Option N.Mode) (b after : Building) (c later : WholeBuilding) → Run around turn b c → Stands around after later → Quiet b after c later → Run around turn after later
run_done around turn b after c later r s q = record {
  stands = s;
  attrs = q.attrs ∙ r.attrs ∙ ap token_attrs (sym q.token);
  quiet = q.tokenizer ∙ r.quiet;
  mode = q.new_mode ∙ r.mode ∙ ap (turned turn) (sym q.mode);
  original = subst (λ m. Original m after.original later.original) (sym q.mode)
      (subst (λ o. Original b.mode o later.original) (sym q.original) (subst (λ o. Original b.mode b.original o) (sym q.new_original) r.original));
  later = ap is_later q.mode ∙ r.later;
  silent = ap (λ m. answer_in m later.token) q.mode ∙ ap (answer_in b.mode) q.token ∙ r.silent;
}

-- the rules of a mode come to the same
abbrev pub Outcome : Option Kind → (WholeBuilding → Option WholeBuilding) → Token → WholeBuilding → Building → Type 0
Outcome around f t c after = (later : WholeBuilding) × (f c ≡ Some later) × Meets around t after later

pub record Calls (around : Option Kind) (t : Token) (again : O.Mode → Building → Option Building) (more : N.Mode → WholeBuilding → Option WholeBuilding) : Type 0 where
  pub call : (mode : O.Mode) (b after : Building) (c : WholeBuilding) → c.token ≡ t → is_later mode ≡ true → allowed mode b.mode ≡ true → Run around None b c → again mode b ≡ Some after →
      Outcome around (more (to_mode mode)) t c after
  pub dispatch : (b after : Building) (c : WholeBuilding) → c.token ≡ t → Run around None b c → again b.mode b ≡ Some after → Outcome around (more N.Dispatcher) t c after

-- ---- comments

abbrev pub inserts_comment : O.Action → Bool
inserts_comment O.InsertComment = true
inserts_comment _ = false

abbrev pub is_comment : Token → Bool
is_comment (AComment text) = true
is_comment _ = false

abbrev pub CommentsAlone : List O.Action → Token → Type 0
CommentsAlone acts t = not (list_any inserts_comment acts) || is_comment t ≡ true

comment_is : (old : O.Action) (acts : List O.Action) (t : Token) → CommentsAlone (old ∷ acts) t → old ≡ O.InsertComment → (text : List ℕ) × (t ≡ AComment text)
comment_is old acts t h is = by_token t (sym (ap (λ a. not (inserts_comment a || list_any inserts_comment acts) || is_comment t) is) ∙ h)
  where
    by_token : (u : Token) → is_comment u ≡ true → (text : List ℕ) × (u ≡ AComment text)
    by_token (AComment text) k = (text, refl)
    by_token (AStart name attrs closing) k = cc
    by_token (AnEnd name) k = cc
    by_token (AChar c) k = cc
    by_token (ADoctype doctype) k = cc
    by_token AnEof k = cc

comments_first : (old : O.Action) (acts : List O.Action) (t : Token) → CommentsAlone (old ∷ acts) t → CommentsAlone acts t
comments_first old acts t h = by_first (inserts_comment old) (list_any inserts_comment acts) (is_comment t) h
  where
    by_first : (x y z : Bool) → not (x || y) || z ≡ true → not y || z ≡ true
    by_first true true true k = refl
    by_first true false true k = refl
    by_first false true true k = refl
    by_first false false true k = refl
    by_first true true false k = cc
    by_first true false false k = cc
    by_first false true false k = cc
    by_first false false false k = refl

-- ---- what comes after the actions

pub record ModeIs (mode : O.Mode) (new : N.Mode) : Type 0 where
  pub is : new ≡ to_mode mode
  pub later : is_later mode ≡ true
  pub silent : (t : Token) → answer_in mode t ≡ None
  pub original : (o : O.Mode) (n : N.Mode) → Original mode o n

pub mode_is : (mode : O.Mode) (new : N.Mode) → is_mode mode new ≡ true → ModeIs mode new
mode_is O.InHead N.InHead h = record { is = refl; later = refl; silent = λ t. refl; original = λ o n. tt }
mode_is O.AfterHead N.AfterHead h = record { is = refl; later = refl; silent = λ t. refl; original = λ o n. tt }
mode_is O.InBody N.InBody h = record { is = refl; later = refl; silent = λ t. refl; original = λ o n. tt }
mode_is O.InTable N.InTable h = record { is = refl; later = refl; silent = λ t. refl; original = λ o n. tt }
mode_is O.InCaption N.InCaption h = record { is = refl; later = refl; silent = λ t. refl; original = λ o n. tt }
mode_is O.InColumnGroup N.InColumnGroup h = record { is = refl; later = refl; silent = λ t. refl; original = λ o n. tt }
mode_is O.InTableBody N.InTableBody h = record { is = refl; later = refl; silent = λ t. refl; original = λ o n. tt }
mode_is O.InRow N.InRow h = record { is = refl; later = refl; silent = λ t. refl; original = λ o n. tt }
mode_is O.InCell N.InCell h = record { is = refl; later = refl; silent = λ t. refl; original = λ o n. tt }
mode_is O.AfterBody N.AfterBody h = record { is = refl; later = refl; silent = λ t. refl; original = λ o n. tt }
mode_is O.AfterAfterBody N.AfterAfterBody h = record { is = refl; later = refl; silent = λ t. refl; original = λ o n. tt }
mode_is _ _ h = cc

-- nothing more is done, and the mode may have been switched
stays : (around : Option Kind) (b : Building) (c : WholeBuilding) → Run around None b c → Settled around c.token b c
stays around b c r = record { stands = r.stands; mode = r.mode; original = r.original; later = r.later; answer = ap (option_map state_of) r.quiet ∙ sym r.silent }

switched_run : (around : Option Kind) (mode : O.Mode) (new : N.Mode) (b : Building) (c : WholeBuilding) → ModeIs mode new → Run around (Some new) b c → Run around None (at_mode mode b) c
switched_run around mode new b c m r = record {
  stands = record { parts = r.stands.parts; context = r.stands.context; templates = r.stands.templates; quirks = r.stands.quirks; skip = r.stands.skip };
  attrs = r.attrs;
  quiet = r.quiet;
  mode = r.mode ∙ m.is;
  original = m.original b.original c.original;
  later = m.later;
  silent = m.silent c.token;
}

-- the token is ignored in a mode
abbrev pub Ignores : (O.Mode → Bool) → (O.Mode → Building → Option Building) → Type 0
Ignores ignored again = (mode : O.Mode) → ignored mode ≡ true → (b after : Building) → again mode b ≡ Some after → after ≡ b

ends_sound : (around : Option Kind) (again : O.Mode → Building → Option Building) (more : N.Mode → WholeBuilding → Option WholeBuilding) (ignored : O.Mode → Bool) → Ignores ignored again →
    (turn : Option N.Mode) (next : O.Next) (b after : Building) (c : WholeBuilding) → ends ignored turn next ≡ true → Run around turn b c → goes_on again next b ≡ Some after →
    Meets around c.token after c
ends_sound around again more ignored ignores None O.Stay b after c e r h = subst (λ (x : Building). Meets around c.token x c) (same_Some b after h) (settled (stays around b c r))
ends_sound around again more ignored ignores None (O.UseRulesFor mode) b after c e r h =
    subst (λ (x : Building). Meets around c.token x c) (sym (ignores mode e b after h)) (settled (stays around b c r))
ends_sound around again more ignored ignores (Some new) (O.SwitchTo mode) b after c e r h =
    subst (λ (x : Building). Meets around c.token x c) (same_Some (at_mode mode b) after h)
    (settled (stays around (at_mode mode b) c (switched_run around mode new b c (mode_is mode new e) r)))
ends_sound around again more ignored ignores _ _ b after c e r h = cc

-- the token goes somewhere
goes_sound : (around : Option Kind) (t : Token) (again : O.Mode → Building → Option Building) (more : N.Mode → WholeBuilding → Option WholeBuilding) → Calls around t again more →
    (turn : Option N.Mode) (next : O.Next) (way : N.Way) (b after : Building) (c : WholeBuilding) → c.token ≡ t → goes_fit turn next way ≡ true → ((mode : O.Mode) → next ≡ O.UseRulesFor mode → allowed mode b.mode ≡ true) →
    Run around turn b c → goes_on again next b ≡ Some after → Outcome around (performed more (N.goes way ∷ [])) t c after
goes_sound around t again more calls None (O.UseRulesFor mode) (N.Use new) b after c same e uses r h =
    let m : ModeIs mode new = mode_is mode new e in
    let o : Outcome around (more (to_mode mode)) t c after = calls.call mode b after c same m.later (uses mode refl) r h in
    (o.0, ap (λ n. option_and_then (performed more []) (more n c)) m.is ∙ ap (option_and_then (performed more [])) o.1, o.2)
goes_sound around t again more calls (Some new) (O.ReprocessIn mode) N.Reprocess b after c same e uses r h =
    let m : ModeIs mode new = mode_is mode new e in
    let o : Outcome around (more N.Dispatcher) t c after = calls.dispatch (at_mode mode b) after c same (switched_run around mode new b c m r) h in
    (o.0, ap (option_and_then (performed more [])) o.1, o.2)
goes_sound around t again more calls _ _ _ b after c same e uses r h = cc

-- ---- reset the insertion mode

-- what is shown of that in another file
abbrev pub ResetsWell : Option Kind → Type 0
ResetsWell around = (turn : Option N.Mode) (b after : Building) (c : WholeBuilding) → Run around turn b c → old_reset b ≡ Some after → Run around None after (reset c)

-- ---- the last action

text_only : (more : List N.Act) → only_text more ≡ true → more ≡ N.does N.KeepMode [] ∷ N.does (N.SwitchTo N.Text) [] ∷ []
text_only (N.does N.KeepMode [] ∷ N.does (N.SwitchTo N.Text) [] ∷ []) h = refl
text_only _ h = cc

reprocess_only : (more : List N.Act) → only_reprocess more ≡ true → more ≡ N.goes N.Reprocess ∷ []
reprocess_only (N.goes N.Reprocess ∷ []) h = refl
reprocess_only _ h = cc

pub nothing_left : {A : Type 0} → (l : List A) → is_empty l ≡ true → l ≡ []
nothing_left [] h = refl
nothing_left (a ∷ l) h = cc

text_state_is : (found : Option State) (state : N.TextState) → is_text_state found state ≡ true → Some (state_of state) ≡ found
text_state_is (Some RCDATA) N.RcdataText h = refl
text_state_is (Some RAWTEXT) N.RawText h = refl
text_state_is (Some ScriptData) N.ScriptText h = refl
text_state_is (Some PLAINTEXT) N.PlainText h = refl
text_state_is _ _ h = cc

abbrev pub is_start : Token → Bool
is_start (AStart name attrs closing) = true
is_start _ = false

-- a text is read behind a start tag alone
abbrev pub ReadsAlone : O.Next → Token → Type 0
ReadsAlone next t = next ≡ O.ReadText → is_start t ≡ true

-- and the mode "text" is left by its own rules
abbrev pub LeavesAlone : O.Next → O.Mode → Type 0
LeavesAlone next mode = next ≡ O.SwitchBack → mode ≡ O.Text

start_switch : (t : Token) → is_start t ≡ true → switch_behind (t ∷ []) ≡ switch_at (own_name t)
start_switch (AStart name attrs closing) h = refl
start_switch (AnEnd name) h = cc
start_switch (AChar c) h = cc
start_switch (AComment text) h = cc
start_switch (ADoctype doctype) h = cc
start_switch AnEof h = cc

pub later_silent : (mode : O.Mode) (t : Token) → is_start t ≡ false → answer_in mode t ≡ None
later_silent O.Text (AnEnd name) h = refl
later_silent O.Text (AStart name attrs closing) h = cc
later_silent O.Text (AChar c) h = refl
later_silent O.Text (AComment text) h = refl
later_silent O.Text (ADoctype doctype) h = refl
later_silent O.Text AnEof h = refl
later_silent _ t h = refl

last_sound : (around : Option Kind) → ResetsWell around → (again : O.Mode → Building → Option Building) (more : N.Mode → WholeBuilding → Option WholeBuilding) (b after : Building) (c : WholeBuilding) →
    Calls around c.token again more → (next : O.Next) (action : N.Action) (acts : List N.Act) → last_act (own_name c.token) next action acts ≡ true → ReadsAlone next c.token →
    LeavesAlone next b.mode → (next ≡ O.SwitchBack → is_start c.token ≡ false) → Run around None b c → goes_on again next b ≡ Some after → Outcome around (performed more acts) c.token (perform action c) after
unfolding perform
last_sound around resets again more b after c calls O.ReadText (N.TokenizerTo state) acts e reads leaves ends_tag r h =
    let parts = both (is_text_state (switch_at (own_name c.token)) state) (only_text acts) e in
    let later : WholeBuilding = record c { tokenizer = Some state; original = c.mode; mode = N.Text } in (
      later,
      ap (λ l. performed more l (record c { tokenizer = Some state })) (text_only acts parts.1),
      subst (λ (x : Building). Meets around c.token x later) (same_Some (record b { original = b.mode; mode = O.Text }) after h) (settled (record {
        stands = record { parts = r.stands.parts; context = r.stands.context; templates = r.stands.templates; quirks = r.stands.quirks; skip = r.stands.skip };
        mode = refl;
        original = (r.mode, r.later);
        later = refl;
        answer = text_state_is (switch_at (own_name c.token)) state parts.0 ∙ sym (start_switch c.token (reads refl));
      })),
    )
last_sound around resets again more b after c calls O.ResetMode N.ResetMode acts e reads leaves ends_tag r h = (
  reset c,
  ap (λ l. performed more l (reset c)) (nothing_left acts e),
  settled (stays around after (reset c) (resets None b after c r h)),
)
last_sound around resets again more b after c calls O.ResetAndReprocess N.ResetMode acts e reads leaves ends_tag r h = by_reset (old_reset b) refl h
  where
    by_reset : (o : Option Building) → old_reset b ≡ o → option_and_then (λ x. again x.mode x) o ≡ Some after → Outcome around (performed more acts) c.token (reset c) after
    by_reset None is k = cc
    by_reset (Some x) is k =
        let o : Outcome around (more N.Dispatcher) c.token (reset c) after = calls.dispatch x after (reset c) refl (resets None b x c r is) k in
        (o.0, ap (λ l. performed more l (reset c)) (reprocess_only acts e) ∙ ap (option_and_then (performed more [])) o.1, o.2)
last_sound around resets again more b after c calls O.SwitchBack N.SwitchBack acts e reads leaves ends_tag r h =
    let back : (c.original ≡ to_mode b.original) × (is_later b.original ≡ true) = subst (λ m. Original m b.original c.original) (leaves refl) r.original in
    let later : WholeBuilding = record c { mode = c.original } in (
      later,
      ap (λ l. performed more l later) (nothing_left acts e),
      subst (λ (x : Building). Meets around c.token x later) (same_Some (at_mode b.original b) after h) (settled (record {
        stands = record { parts = r.stands.parts; context = r.stands.context; templates = r.stands.templates; quirks = r.stands.quirks; skip = r.stands.skip };
        mode = back.0;
        original = of_text b.original c.original back.0 back.1;
        later = back.1;
        answer = ap (option_map state_of) r.quiet ∙ sym (later_silent b.original c.token (ends_tag refl));
      })),
    )
  where
    -- should the original mode be "text" itself
    of_text : (old : O.Mode) (new : N.Mode) → new ≡ to_mode old → is_later old ≡ true → Original old old new
    of_text O.Text new f g = (f, g)
    of_text _ new f g = tt
last_sound around resets again more b after c calls O.Stop N.Stop acts e reads leaves ends_tag r h = (
  c,
  ap (λ l. performed more l c) (nothing_left acts e),
  subst (λ (x : Building). Meets around c.token x c) (same_Some b after h) (settled (stays around b c r)),
)
last_sound around resets again more b after c calls _ _ acts e reads leaves ends_tag r h = cc

-- ---- acts

idle_run : (around : Option Kind) (turn : Option N.Mode) (b : Building) (c : WholeBuilding) (action : N.Action) → is_idle action ≡ true → Run around turn b c →
    Run around turn b (perform action c) × ((perform action c).token ≡ c.token)
unfolding perform
idle_run around turn b c N.FramesetNotOk h r = (
  record {
    stands = record { parts = r.stands.parts; context = r.stands.context; templates = r.stands.templates; quirks = r.stands.quirks; skip = r.stands.skip };
    attrs = r.attrs;
    quiet = r.quiet;
    mode = r.mode;
    original = r.original;
    later = r.later;
    silent = r.silent;
  },
  refl,
)
idle_run around turn b c N.SetHeadPointer h r = (
  record {
    stands = record {
      parts = record {
        fits = r.stands.parts.fits;
        stack = r.stands.parts.stack;
        listed = r.stands.parts.listed;
        pointer = r.stands.parts.pointer;
        below = r.stands.parts.below;
        fostering = r.stands.parts.fostering;
        around = r.stands.parts.around;
      };
      context = r.stands.context;
      templates = r.stands.templates;
      quirks = r.stands.quirks;
      skip = r.stands.skip;
    };
    attrs = r.attrs;
    quiet = r.quiet;
    mode = r.mode;
    original = r.original;
    later = r.later;
    silent = r.silent;
  },
  refl,
)
idle_run around turn b c _ h r = cc

-- the frameset flag of the one definition is not looked at
bare_run : (around : Option Kind) (turn : Option N.Mode) (b : Building) (c : WholeBuilding) → Run around turn b c → Run around turn (record b { frameset_ok = false }) c
bare_run around turn b c r = record {
  stands = record { parts = r.stands.parts; context = r.stands.context; templates = r.stands.templates; quirks = r.stands.quirks; skip = r.stands.skip };
  attrs = r.attrs;
  quiet = r.quiet;
  mode = r.mode;
  original = r.original;
  later = r.later;
  silent = r.silent;
}

pub record Facts (around : Option Kind) (t : Token) (next : O.Next) (turn : Option N.Mode) (old : List O.Action) (b : Building) (c : WholeBuilding) : Type 0 where
  pub token : c.token ≡ t
  pub run : Run around turn b c
  pub comments : CommentsAlone old t
  pub leaves : LeavesAlone next b.mode
  pub uses : (mode : O.Mode) → next ≡ O.UseRulesFor mode → allowed mode b.mode ≡ true

fresh_moved : (fresh : Option (List ℕ)) (b : Building) (c : WholeBuilding) (mode : N.Mode) → FreshIs fresh b c → FreshIs fresh b (record c { mode = mode })
fresh_moved None b c mode f = tt
fresh_moved (Some name) b c mode f = f

-- what is left of the acts comes to the same
abbrev pub Rest : Option Kind → Bool → (O.Mode → Bool) → Token → (O.Mode → Building → Option Building) → (N.Mode → WholeBuilding → Option WholeBuilding) → O.Next → List N.Act → Building → Type 0
Rest around page ignored t again more next acts after =
    (fresh : Option (List ℕ)) (turn : Option N.Mode) (now : Option Case) (old : List O.Action) (b : Building) (c : WholeBuilding) →
    follows page (own_name t) ignored next fresh turn now old acts ≡ true → Facts around t next turn old b c → FreshIs fresh b c → CaseHolds now t b →
    option_and_then (goes_on again next) (all_acts old t b) ≡ Some after → Outcome around (performed more acts) t c after

-- where the one definition sets the frameset flag, and the other may
idle_sound : (around : Option Kind) (page : Bool) (ignored : O.Mode → Bool) (t : Token) (again : O.Mode → Building → Option Building) (more : N.Mode → WholeBuilding → Option WholeBuilding)
    (next : O.Next) (acts : List N.Act) (after : Building) → Rest around page ignored t again more next acts after → (turn : Option N.Mode) (old : List O.Action) (b : Building) (c : WholeBuilding) →
    follows page (own_name t) ignored next None turn None (without_idle old) acts ≡ true → Facts around t next turn old b c →
    option_and_then (goes_on again next) (all_acts old t b) ≡ Some after → Outcome around (performed more acts) t c after
unfolding act
idle_sound around page ignored t again more next acts after rest turn [] b c e f h = rest None turn None [] b c e f tt tt h
idle_sound around page ignored t again more next acts after rest turn (O.FramesetNotOk ∷ old) b c e f h =
    rest None turn None old (record b { frameset_ok = false }) c e
    (record { token = f.token; run = bare_run around turn b c f.run; comments = comments_first O.FramesetNotOk old t f.comments; leaves = f.leaves; uses = f.uses }) tt tt h
idle_sound around page ignored t again more next acts after rest turn (a ∷ old) b c e f h = rest None turn None (a ∷ old) b c e f tt tt h

-- the current node may be popped
pop_sound : (around : Option Kind) (page : Bool) (ignored : O.Mode → Bool) (t : Token) (again : O.Mode → Building → Option Building) (more : N.Mode → WholeBuilding → Option WholeBuilding)
    (next : O.Next) (acts : List N.Act) (after : Building) → Rest around page ignored t again more next acts after → (turn : Option N.Mode) (action : N.Action) (tests : List N.Test)
    (old : List O.Action) (b : Building) (c : WholeBuilding) → pops_if (own_name t) action tests old ≡ true →
    follows page (own_name t) ignored next None turn None (without_first old) acts ≡ true → Facts around t next turn old b c →
    option_and_then (goes_on again next) (all_acts old t b) ≡ Some after →
    Outcome around (performed more acts) t (elim (list_all (is_met c) tests) [ true ↦ perform action c | false ↦ c ]) after
unfolding act perform
pop_sound around page ignored t again more next acts after rest turn N.Pop (N.is (N.CurrentNode names) ∷ []) (O.PopIf others ∷ old) b c is e f h =
    by_tests (is_one c.tree (names_for names c.token) (current c.tree)) (top_is others b.stack)
    (top_test (names_for names c.token) others
    (subst (λ u. alike (names_for names u) others ≡ true) (sym f.token)
    (subst (λ l. alike l others ≡ true) (sym (new_names t names)) (alike_lists (new_list (own_name t) names) others is)))
    b.document b.stack b.listed b.form b.next around c.tree f.run.stands.parts) h
  where
    popped_one : (o : Option Building) → on_stack b (popped b.stack) ≡ o → option_and_then (goes_on again next) (option_and_then (all_acts old t) o) ≡ Some after →
        Outcome around (performed more acts) t (with_tree c (with_stack c.tree (drop 1 c.tree.stack))) after
    popped_one None g k = cc
    popped_one (Some mid) g k =
        let d : Done around None b mid c (with_tree c (with_stack c.tree (drop 1 c.tree.stack))) = by_stack around popped (λ u. with_stack u (drop 1 u.stack)) pop_op b mid c f.run.stands g in
        rest None turn None old mid (with_tree c (with_stack c.tree (drop 1 c.tree.stack))) e
        (record {
          token = f.token;
          run = run_done around turn b mid c (with_tree c (with_stack c.tree (drop 1 c.tree.stack))) f.run d.0 d.2;
          comments = comments_first (O.PopIf others) old t f.comments;
          leaves = λ k. d.2.mode ∙ f.leaves k;
          uses = λ m k. ap (allowed m) d.2.mode ∙ f.uses m k;
        }) tt tt k

    by_tests : (x y : Bool) → x ≡ y → option_and_then (goes_on again next) (option_and_then (all_acts old t) (elim y [ true ↦ on_stack b (popped b.stack) | false ↦ Some b ])) ≡ Some after →
        Outcome around (performed more acts) t (elim (x && true) [ true ↦ with_tree c (with_stack c.tree (drop 1 c.tree.stack)) | false ↦ c ]) after
    by_tests true true g k = popped_one (on_stack b (popped b.stack)) refl k
    by_tests true false g k = cc
    by_tests false true g k = cc
    by_tests false false g k =
        rest None turn None old b c e (record { token = f.token; run = f.run; comments = comments_first (O.PopIf others) old t f.comments; leaves = f.leaves; uses = f.uses }) tt tt k
pop_sound around page ignored t again more next acts after rest turn _ _ _ b c is e f h = cc

switch_is : (action : N.Action) (mode : N.Mode) → switch_of action ≡ Some mode → action ≡ N.SwitchTo mode
switch_is (N.SwitchTo new) mode h = ap N.SwitchTo (same_Some new mode h)
switch_is _ mode h = cc

turn_none : (turn : Option N.Mode) → is_none turn ≡ true → turn ≡ None
turn_none None h = refl
turn_none (Some mode) h = cc

-- the first act is done
act_first : (around : Option Kind) (page : Bool) (ignored : O.Mode → Bool) (t : Token) (again : O.Mode → Building → Option Building) (more : N.Mode → WholeBuilding → Option WholeBuilding)
    (next : O.Next) (acts : List N.Act) (after : Building) → Rest around page ignored t again more next acts after → (fresh : Option (List ℕ)) (turn : Option N.Mode) (action : N.Action)
    (old : List O.Action) (b : Building) (c : WholeBuilding) → first_fits (own_name t) fresh action old ≡ true →
    follows page (own_name t) ignored next (fresh_after (own_name t) action) turn None (without_first old) acts ≡ true → Facts around t next turn old b c → FreshIs fresh b c →
    option_and_then (goes_on again next) (all_acts old t b) ≡ Some after → Outcome around (performed more acts) t (perform action c) after
act_first around page ignored t again more next acts after rest fresh turn action [] b c is e f g h = cc
act_first around page ignored t again more next acts after rest fresh turn action (a ∷ old) b c is e f g h = by_act (act a t b) refl h
  where
    by_act : (o : Option Building) → act a t b ≡ o → option_and_then (goes_on again next) (option_and_then (all_acts old t) o) ≡ Some after → Outcome around (performed more acts) t (perform action c) after
    by_act None i k = cc
    by_act (Some mid) i k =
        let d : Done around (fresh_after (own_name c.token) action) b mid c (perform action c) =
        act_sound around fresh action a b mid c (ap (λ u. fits_act (own_name u) fresh action a) f.token ∙ is) f.run.stands g f.run.attrs
        (λ j. let w = comment_is a old t f.comments j in (w.0, f.token ∙ w.1)) (ap (λ u. act a u b) f.token ∙ i) in
        rest (fresh_after (own_name t) action) turn None old mid (perform action c) e
        (record {
          token = d.2.token ∙ f.token;
          run = run_done around turn b mid c (perform action c) f.run d.0 d.2;
          comments = comments_first a old t f.comments;
          leaves = λ k. d.2.mode ∙ f.leaves k;
          uses = λ m k. ap (allowed m) d.2.mode ∙ f.uses m k;
        })
        (subst (λ u. FreshIs (fresh_after (own_name u) action) mid (perform action c)) f.token d.1) tt k

pub follows_sound : (around : Option Kind) (page : Bool) → IsPage page around → ResetsWell around → (t : Token) (again : O.Mode → Building → Option Building)
    (more : N.Mode → WholeBuilding → Option WholeBuilding) → Calls around t again more → (ignored : O.Mode → Bool) → Ignores ignored again → (next : O.Next) → ReadsAlone next t →
    (next ≡ O.SwitchBack → is_start t ≡ false) → (after : Building) (acts : List N.Act) → Rest around page ignored t again more next acts after
unfolding perform
follows_sound around page is resets t again more calls ignored ignores next reads ends_tag after [] fresh turn now old b c e f g w h =
    let parts = both (is_empty old) (ends ignored turn next) e in (
      c,
      refl,
      subst (λ u. Meets around u after c) f.token
          (ends_sound around again more ignored ignores turn next b after c parts.1 f.run
          (sym (ap (λ l. option_and_then (goes_on again next) (all_acts l t b)) (nothing_left old parts.0)) ∙ h)),
    )
follows_sound around page is resets t again more calls ignored ignores next reads ends_tag after (N.goes way ∷ acts) fresh turn now old b c e f g w h =
    let parts = both (is_empty old) (is_empty acts && goes_fit turn next way) e in
    let others = both (is_empty acts) (goes_fit turn next way) parts.1 in
    let o : Outcome around (performed more (N.goes way ∷ [])) t c after =
    goes_sound around t again more calls turn next way b after c f.token others.1 f.uses f.run
    (sym (ap (λ l. option_and_then (goes_on again next) (all_acts l t b)) (nothing_left old parts.0)) ∙ h) in
    (o.0, ap (λ l. performed more (N.goes way ∷ l) c) (nothing_left acts others.0) ∙ o.1, o.2)
follows_sound around page is resets t again more calls ignored ignores next reads ends_tag after (N.does action tests ∷ acts) fresh turn now old b c e f g w h =
    by_verdict (verdict page (own_name t) now tests)
    (subst (λ u. VerdictIs (verdict page (own_name u) now tests) (list_all (is_met c) tests)) f.token
    (verdict_is page around is b c f.run.stands now (subst (λ u. CaseHolds now u b) (sym f.token) w) tests)) e
    (follows_sound around page is resets t again more calls ignored ignores next reads ends_tag after acts)
  where
    Then : Bool → Type 0
    Then x = Outcome around (performed more acts) t (elim x [ true ↦ perform action c | false ↦ c ]) after

    by_turn : (u : Option N.Mode) → u ≡ turn → is_empty old && (is_none u && last_act (own_name t) next action acts) ≡ true → Then true
    by_turn (Some mode) i k = let a = both (is_empty old) false k in absurd (true≢false (sym a.1))
    by_turn None i k =
        let a = both (is_empty old) (last_act (own_name t) next action acts) k in
        subst (λ u. Outcome around (performed more acts) u (perform action c) after) f.token
        (last_sound around resets again more b after c (subst (λ u. Calls around u again more) (sym f.token) calls) next action acts
        (ap (λ u. last_act (own_name u) next action acts) f.token ∙ a.1) (λ j. ap is_start f.token ∙ reads j) f.leaves (λ j. ap is_start f.token ∙ ends_tag j)
        (subst (λ v. Run around v b c) (sym i) f.run)
        (sym (ap (λ l. option_and_then (goes_on again next) (all_acts l t b)) (nothing_left old a.0)) ∙ h))

    by_switch : (o : Option N.Mode) → switch_of action ≡ o → elim o [
      | Some mode ↦ follows page (own_name t) ignored next fresh (Some mode) None old acts
      | None ↦ is_empty old && (is_none turn && last_act (own_name t) next action acts)
    ] ≡ true → Rest around page ignored t again more next acts after → Then true
    by_switch None i k rest = by_turn turn refl k
    by_switch (Some mode) i k rest =
        subst (λ a. Outcome around (performed more acts) t (perform a c) after) (sym (switch_is action mode i))
        (rest fresh (Some mode) None old b (record c { mode = mode }) k (record {
          token = f.token;
          run = record {
            stands = record { parts = f.run.stands.parts; context = f.run.stands.context; templates = f.run.stands.templates; quirks = f.run.stands.quirks; skip = f.run.stands.skip };
            attrs = f.run.attrs;
            quiet = f.run.quiet;
            mode = refl;
            original = f.run.original;
            later = f.run.later;
            silent = f.run.silent;
          };
          comments = f.comments;
          leaves = f.leaves;
          uses = f.uses;
        }) (fresh_moved fresh b c mode g) tt h)

    idle_facts : is_idle action ≡ true → Facts around t next turn old b (perform action c)
    idle_facts i = let r = idle_run around turn b c action i f.run in record { token = r.1 ∙ f.token; run = r.0; comments = f.comments; leaves = f.leaves; uses = f.uses }

    by_idle : (x : Bool) → is_idle action ≡ x → elim x [
      | true ↦ follows page (own_name t) ignored next None turn None old acts
      | false ↦ elim (switch_of action) [
        | Some mode ↦ follows page (own_name t) ignored next fresh (Some mode) None old acts
        | None ↦ is_empty old && (is_none turn && last_act (own_name t) next action acts)
      ]
    ] ≡ true → Rest around page ignored t again more next acts after → Then true
    by_idle true i k rest = rest None turn None old b (perform action c) k (idle_facts i) tt tt h
    by_idle false i k rest = by_switch (switch_of action) refl k rest

    by_first : (x : Bool) → first_fits (own_name t) fresh action old ≡ x → elim x [
      | true ↦ follows page (own_name t) ignored next (fresh_after (own_name t) action) turn None (without_first old) acts
      | false ↦ elim (is_idle action) [
        | true ↦ follows page (own_name t) ignored next None turn None old acts
        | false ↦ elim (switch_of action) [
          | Some mode ↦ follows page (own_name t) ignored next fresh (Some mode) None old acts
          | None ↦ is_empty old && (is_none turn && last_act (own_name t) next action acts)
        ]
      ]
    ] ≡ true → Rest around page ignored t again more next acts after → Then true
    by_first true i k rest = act_first around page ignored t again more next acts after rest fresh turn action old b c i k f g h
    by_first false i k rest = by_idle (is_idle action) refl k rest

    by_unsure : (x : Bool) → is_idle action ≡ x → elim x [
      | true ↦ follows page (own_name t) ignored next None turn None (without_idle old) acts
      | false ↦ pops_if (own_name t) action tests old && follows page (own_name t) ignored next None turn None (without_first old) acts
    ] ≡ true → Rest around page ignored t again more next acts after → (y : Bool) → list_all (is_met c) tests ≡ y → Then y
    by_unsure true i k rest true j = idle_sound around page ignored t again more next acts after rest turn old b (perform action c) k (idle_facts i) h
    by_unsure true i k rest false j = idle_sound around page ignored t again more next acts after rest turn old b c k f h
    by_unsure false i k rest y j =
        let a = both (pops_if (own_name t) action tests old) (follows page (own_name t) ignored next None turn None (without_first old) acts) k in
        subst Then j (pop_sound around page ignored t again more next acts after rest turn action tests old b c a.0 a.1 f h)

    by_verdict : (v : Verdict) → VerdictIs v (list_all (is_met c) tests) → elim v [
      | Never ↦ follows page (own_name t) ignored next fresh turn now old acts
      | Unsure ↦ elim (is_idle action) [
        | true ↦ follows page (own_name t) ignored next None turn None (without_idle old) acts
        | false ↦ pops_if (own_name t) action tests old && follows page (own_name t) ignored next None turn None (without_first old) acts
      ]
      | Ever ↦ elim (first_fits (own_name t) fresh action old) [
        | true ↦ follows page (own_name t) ignored next (fresh_after (own_name t) action) turn None (without_first old) acts
        | false ↦ elim (is_idle action) [
          | true ↦ follows page (own_name t) ignored next None turn None old acts
          | false ↦ elim (switch_of action) [
            | Some mode ↦ follows page (own_name t) ignored next fresh (Some mode) None old acts
            | None ↦ is_empty old && (is_none turn && last_act (own_name t) next action acts)
          ]
        ]
      ]
    ] ≡ true → Rest around page ignored t again more next acts after → Then (list_all (is_met c) tests)
    by_verdict Never i k rest = subst Then (sym i) (rest fresh turn now old b c k f g w h)
    by_verdict Unsure i k rest = by_unsure (is_idle action) refl k rest (list_all (is_met c) tests) refl
    by_verdict Ever i k rest = subst Then (sym i) (by_first (first_fits (own_name t) fresh action old) refl k rest)
