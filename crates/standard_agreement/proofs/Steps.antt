-- Steps of tree construction in both definitions.
use Rattle.std.specs.Prelude.{◌≡◌, refl, ℕ, suc, Bool, true, false, ◌&&◌, List, [], ◌∷◌, ◌++◌, Option, None, Some, reverse}
use Rattle.std.specs.List.{list_all}
use Rattle.std.specs.Option.{option_and_then}
use Rattle.std.proofs.lemmas.Option.{same_Some}
use mathlib.Core.List.{reverse-cons}
use mathlib.Core.Path.{◌∙◌, sym, ap, subst}
use Rattle.standard_tokens.specs.Tokens.{Attr, Token, AChar, AComment, ADoctype, AStart, AnEnd, AnEof}
use Rattle.standard_rules.specs.Building.{Building, act, at_top, is_line_feed as old_line_feed, is_space, run as old_run, taken as old_taken, tree_step as old_step, tree_steps as old_steps, with_text_char}
use Rattle.standard_rules.specs.RuleWords as O
use Rattle.standard_rules.specs.TreeRules.{rules as old_rules}
use Rattle.standard_trees.specs.Building.{Building as WholeBuilding, is_line_feed, perform, performed, run, taken, tree_step, tree_steps, with_next, with_tree}
use Rattle.standard_trees.specs.GrowingTree.{GrowingTree, with_char, with_chars}
use Rattle.standard_trees.specs.RuleWords as N
use Rattle.standard_trees.specs.TreeRules.{rules}
use Rattle.standard_trees.specs.TreeStore.{Kind}
use Rattle.standard_agreement.proofs.Acting.{Stands}
use Rattle.standard_agreement.proofs.Acts.{Done, char_act}
use Rattle.standard_agreement.proofs.Choosing.{is_later, to_mode}
use Rattle.standard_agreement.proofs.Deciding.{IsPage}
use Rattle.standard_agreement.proofs.Following.{Lagging, Meets, Original, Outcome, Run, answer_in, flushed, is_char, is_start, is_table_mode, lagging, later_silent, settled}
use Rattle.standard_agreement.proofs.Parts.{Parts}
use Rattle.standard_agreement.proofs.Stepping.{CharResult, IsPlainToken, allowed_self, dep, dispatched, html_now, old_char, rule_taken, rule_unfit, run_sound, some_again, space_not_zero, text_run}

-- rules use rules less deep than this
abbrev pub deep : ℕ
deep = 28

same_feed : (t : Token) → is_line_feed t ≡ old_line_feed t
same_feed (AStart name attrs closing) = refl
same_feed (AnEnd name) = refl
same_feed (AChar c) = refl
same_feed (AComment text) = refl
same_feed (ADoctype doctype) = refl
same_feed AnEof = refl

feed_char : (t : Token) → old_line_feed t ≡ true → (is_start t ≡ false) × (is_char t ≡ true)
feed_char (AChar c) h = (refl, refl)
feed_char (AStart name attrs closing) h = cc
feed_char (AnEnd name) h = cc
feed_char (AComment text) h = cc
feed_char (ADoctype doctype) h = cc
feed_char AnEof h = cc

-- in the mode "text" no start tag is processed
text_tags : (t : Token) (b after : Building) → old_run 12 t O.Text b ≡ Some after → is_start t ≡ false
unfolding old_run old_rules old_taken
text_tags (AStart name attrs closing) b after h = cc
text_tags (AnEnd name) b after h = refl
text_tags (AChar c) b after h = refl
text_tags (AComment text) b after h = refl
text_tags (ADoctype doctype) b after h = refl
text_tags AnEof b after h = refl

silent_in : (mode : O.Mode) (t : Token) (b after : Building) → old_run 12 t mode b ≡ Some after → answer_in mode t ≡ None
silent_in O.Text t b after h = later_silent O.Text t (text_tags t b after h)
silent_in _ t b after h = refl

-- ---- a table's white space

record TableMode (mode : O.Mode) : Type 0 where
  later : is_later mode ≡ true
  silent : (t : Token) → answer_in mode t ≡ None
  original : (o : O.Mode) (n : N.Mode) → Original mode o n

table_mode : (mode : O.Mode) → is_table_mode mode ≡ true → TableMode mode
table_mode O.InTable h = record { later = refl; silent = λ t. refl; original = λ o n. tt }
table_mode O.InTableBody h = record { later = refl; silent = λ t. refl; original = λ o n. tt }
table_mode O.InRow h = record { later = refl; silent = λ t. refl; original = λ o n. tt }
table_mode _ h = cc

chars_more : (xs ys : List ℕ) (t : GrowingTree) → with_chars (xs ++ ys) t ≡ with_chars ys (with_chars xs t)
chars_more [] ys t = refl
chars_more (x ∷ xs) ys t = chars_more xs ys (with_char x t)

lag_char : (mode : O.Mode) (d : ℕ) (b after : Building) → is_table_mode mode ≡ true → old_run 12 (AChar d) mode b ≡ Some after →
    (is_space d ≡ true) × (Some (at_top (with_text_char (AChar d)) b) ≡ Some after)
unfolding old_run old_rules old_taken act CharResult
lag_char O.InTable d b after t h = let k = old_char 11 d b after h in (k.0, k.2)
lag_char O.InTableBody d b after t h = let k = old_char 10 d b after h in (k.0, k.2)
lag_char O.InRow d b after t h = let k = old_char 10 d b after h in (k.0, k.2)
lag_char _ d b after t h = cc

-- the white space is inserted, and the token is processed again
abbrev inserted_now : WholeBuilding → WholeBuilding
inserted_now c = record (with_tree c (with_chars (reverse c.pending) c.tree)) { mode = c.original }

abbrev Reprocessed : Token → Type 0
Reprocessed t = (d : ℕ) (c : WholeBuilding) → list_all is_space c.pending ≡ true →
    run (suc d) N.InTableText (with_next t c) ≡ option_and_then (λ x. Some x) (run d N.Dispatcher (inserted_now (with_next t c)))

abbrev again_acts : List N.Act
again_acts = N.does N.InsertPending [] ∷ N.does N.SwitchBack [] ∷ N.goes N.Reprocess ∷ []

start_acts : (name : List ℕ) (attrs : List Attr) (closing : Bool) (c : WholeBuilding) → list_all is_space c.pending ≡ true →
    taken (with_next (AStart name attrs closing) c) (rules N.InTableText) ≡ again_acts
unfolding rules
start_acts name attrs closing c white =
    rule_unfit (with_next (AStart name attrs closing) c) (N.Null ∷ []) [] _ _ refl ∙ rule_unfit (with_next (AStart name attrs closing) c) (N.Character ∷ []) [] _ _ refl
    ∙ rule_taken (with_next (AStart name attrs closing) c) (N.Anything ∷ []) (N.is N.PendingAllWhiteSpace ∷ []) _ _ refl (ap (λ x. x && true) white)

end_acts : (name : List ℕ) (c : WholeBuilding) → list_all is_space c.pending ≡ true → taken (with_next (AnEnd name) c) (rules N.InTableText) ≡ again_acts
unfolding rules
end_acts name c white =
    rule_unfit (with_next (AnEnd name) c) (N.Null ∷ []) [] _ _ refl ∙ rule_unfit (with_next (AnEnd name) c) (N.Character ∷ []) [] _ _ refl ∙ rule_taken (with_next (AnEnd name) c) (N.Anything ∷ []) (N.is N.PendingAllWhiteSpace ∷ []) _ _ refl (ap (λ x. x && true) white)

comment_acts : (text : List ℕ) (c : WholeBuilding) → list_all is_space c.pending ≡ true → taken (with_next (AComment text) c) (rules N.InTableText) ≡ again_acts
unfolding rules
comment_acts text c white =
    rule_unfit (with_next (AComment text) c) (N.Null ∷ []) [] _ _ refl ∙ rule_unfit (with_next (AComment text) c) (N.Character ∷ []) [] _ _ refl ∙ rule_taken (with_next (AComment text) c) (N.Anything ∷ []) (N.is N.PendingAllWhiteSpace ∷ []) _ _ refl (ap (λ x. x && true) white)

eof_acts : (c : WholeBuilding) → list_all is_space c.pending ≡ true → taken (with_next AnEof c) (rules N.InTableText) ≡ again_acts
unfolding rules
eof_acts c white = rule_unfit (with_next AnEof c) (N.Null ∷ []) [] _ _ refl ∙ rule_unfit (with_next AnEof c) (N.Character ∷ []) [] _ _ refl ∙ rule_taken (with_next AnEof c) (N.Anything ∷ []) (N.is N.PendingAllWhiteSpace ∷ []) _ _ refl (ap (λ x. x && true) white)

by_acts : (t : Token) → ((c : WholeBuilding) → list_all is_space c.pending ≡ true → taken (with_next t c) (rules N.InTableText) ≡ again_acts) → Reprocessed t
unfolding run perform
by_acts t acts d c white = ap (λ l. performed (run d) l (with_next t c)) (acts c white)

again_is : (page : Bool) (t : Token) → IsPlainToken page t → is_char t ≡ false → Reprocessed t
again_is page (AStart name attrs closing) plain h = by_acts (AStart name attrs closing) (start_acts name attrs closing)
again_is page (AnEnd name) plain h = by_acts (AnEnd name) (end_acts name)
again_is page (AComment text) plain h = by_acts (AComment text) (comment_acts text)
again_is page AnEof plain h = by_acts AnEof eof_acts
again_is page (AChar c) plain h = cc
again_is page (ADoctype doctype) plain h = absurd plain

-- ---- one step

-- where a step begins
begun : (around : Option Kind) (t : Token) (b after : Building) (c : WholeBuilding) → Stands around b c → c.mode ≡ to_mode b.mode → Original b.mode b.original c.original → is_later b.mode ≡ true →
    answer_in b.mode t ≡ None → Run around None (record b { skip = false }) (with_next t c)
begun around t b after c s mode original later silent = record {
  stands = record { parts = s.parts; context = s.context; templates = s.templates; quirks = s.quirks; skip = refl };
  attrs = refl;
  quiet = refl;
  mode = mode;
  original = original;
  later = later;
  silent = silent;
}

settled_step : (page : Bool) (around : Option Kind) → IsPage page around → (t : Token) → IsPlainToken page t → (b after : Building) (c : WholeBuilding) → Stands around b c → c.mode ≡ to_mode b.mode →
    Original b.mode b.original c.original → is_later b.mode ≡ true → old_step b t ≡ Some after → Outcome around (λ x. tree_step deep x t) t c after
unfolding old_step tree_step
settled_step page around is t plain b after c s mode original later h =
    by_skip (c.skip && is_line_feed t) (b.skip && old_line_feed t) (ap (λ x. x && is_line_feed t) s.skip ∙ ap (λ x. b.skip && x) (same_feed t)) refl h
  where
    feed : (x y : Bool) → x && y ≡ true → y ≡ true
    feed true y k = k
    feed false y k = cc

    by_skip : (x y : Bool) → x ≡ y → (b.skip && old_line_feed t) ≡ y → elim y [ true ↦ Some (record b { skip = false }) | false ↦ old_run 12 t b.mode (record b { skip = false }) ] ≡ Some after →
        (later : WholeBuilding) × (elim x [ true ↦ Some (with_next t c) | false ↦ run deep N.Dispatcher (with_next t c) ] ≡ Some later) × Meets around t after later
    by_skip true true e f k =
        let g = feed_char t (feed b.skip (old_line_feed t) f) in (
          with_next t c,
          refl,
          subst (λ (x : Building). Meets around t x (with_next t c)) (same_Some (record b { skip = false }) after k) (settled (record {
            stands = record { parts = s.parts; context = s.context; templates = s.templates; quirks = s.quirks; skip = refl };
            mode = mode;
            original = original;
            later = later;
            answer = sym (later_silent b.mode t g.0);
          })),
        )
    by_skip true false e f k = cc
    by_skip false true e f k = cc
    by_skip false false e f k =
        let r : Run around None (record b { skip = false }) (with_next t c) = begun around t b after c s mode original later (silent_in b.mode t (record b { skip = false }) after k) in
        let o : Outcome around (run (dep 3 12) (to_mode b.mode)) t (with_next t c) after =
        run_sound page around is 12 2 b.mode (record b { skip = false }) after (with_next t c) plain later (allowed_self b.mode later) r k in
        let n = html_now around (record b { skip = false }) (with_next t c) r.stands in
        (o.0, dispatched 27 (with_next t c) n.0 n.1 ∙ some_again (run 27 c.mode (with_next t c)) o.0 (ap (λ m. run 27 m (with_next t c)) mode ∙ o.1), o.2)

lagging_step : (page : Bool) (around : Option Kind) → IsPage page around → (t : Token) → IsPlainToken page t → (b after : Building) (c : WholeBuilding) → Lagging around b c →
    old_step b t ≡ Some after → Outcome around (λ x. tree_step deep x t) t c after
unfolding old_step tree_step
lagging_step page around is t plain b after c l h =
    by_skip (c.skip && is_line_feed t) (b.skip && old_line_feed t) (ap (λ x. x && is_line_feed t) l.stands.skip ∙ ap (λ x. b.skip && x) (same_feed t)) refl h
  where
    feed : (x y : Bool) → x && y ≡ true → y ≡ true
    feed true y k = k
    feed false y k = cc

    b0 : Building
    b0 = record b { skip = false }

    m : TableMode b.mode
    m = table_mode b.mode l.table

    still : (x : WholeBuilding) → Stands around b (flushed c) → x.skip ≡ false → x.quirks ≡ c.quirks → x.template_modes ≡ c.template_modes → x.tree ≡ (flushed c).tree → Stands around b0 x
    still x s skip quirks modes tree =
        record {
          parts = subst (λ (u : GrowingTree). Parts b.document b.stack b.listed b.form b.next around u) (sym tree) s.parts;
          context = s.context;
          templates = modes ∙ s.templates;
          quirks = quirks ∙ s.quirks;
          skip = skip;
        }

    by_char : (d : ℕ) → old_run 12 (AChar d) b.mode b0 ≡ Some after → Outcome around (run deep N.Dispatcher) (AChar d) (with_next (AChar d) c) after
    by_char d k =
        let g = lag_char b.mode d b0 after l.table k in
        let c0 : WholeBuilding = with_next (AChar d) c in
        let c1 : WholeBuilding = flushed c0 in
        let last : WholeBuilding = record c0 { pending = d ∷ c.pending } in
        let done : Done around None b0 after c1 (with_tree c1 (with_chars (d ∷ []) c1.tree)) = char_act around b0 after c1 (still c1 l.stands refl refl refl refl) g.1 in
        let tree : with_chars (reverse (d ∷ c.pending)) c.tree ≡ with_chars (d ∷ []) (with_chars (reverse c.pending) c.tree) =
        ap (λ cs. with_chars cs c.tree) (reverse-cons d c.pending) ∙ chars_more (reverse c.pending) (d ∷ []) c.tree in (
          last,
          dispatched 27 c0 l.opened l.html
              ∙ some_again (run 27 c.mode c0) last (ap (λ n. run 27 n c0) l.mode ∙ text_run 26 d c0 (space_not_zero d g.0)),
          lagging refl (record {
            stands = record {
              parts = subst (λ (u : GrowingTree). Parts after.document after.stack after.listed after.form after.next around u) (sym tree) done.0.parts;
              context = done.0.context;
              templates = done.0.templates;
              quirks = done.0.quirks;
              skip = done.0.skip;
            };
            mode = l.mode;
            original = l.original ∙ ap to_mode (sym done.2.mode);
            table = ap is_table_mode done.2.mode ∙ l.table;
            white = ap (λ x. x && list_all is_space c.pending) g.0 ∙ l.white;
            html = l.html;
            opened = l.opened;
            answer = refl;
          }),
        )

    by_other : is_char t ≡ false → old_run 12 t b.mode b0 ≡ Some after → Outcome around (run deep N.Dispatcher) t (with_next t c) after
    by_other other k =
        let c0 : WholeBuilding = with_next t c in
        let c1 : WholeBuilding = inserted_now c0 in
        let r : Run around None b0 c1 =
        record { stands = still c1 l.stands refl refl refl refl; attrs = refl; quiet = refl; mode = l.original; original = m.original b.original c1.original; later = m.later; silent = m.silent t } in
        let o : Outcome around (run (dep 1 12) (to_mode b.mode)) t c1 after = run_sound page around is 12 0 b.mode b0 after c1 plain m.later (allowed_self b.mode m.later) r k in
        let n = html_now around b0 c1 r.stands in (
          o.0,
          dispatched 27 c0 l.opened l.html
              ∙ some_again (run 27 c.mode c0) o.0 (ap (λ q. run 27 q c0) l.mode ∙ again_is page t plain other 26 c l.white
              ∙ some_again (run 26 N.Dispatcher c1) o.0 (dispatched 25 c1 n.0 n.1 ∙ some_again (run 25 c.original c1) o.0 (ap (λ q. run 25 q c1) l.original ∙ o.1))),
          o.2,
        )

    by_token : (u : Token) → u ≡ t → (x : Bool) → is_char u ≡ x → old_run 12 t b.mode b0 ≡ Some after → Outcome around (run deep N.Dispatcher) t (with_next t c) after
    by_token (AChar d) e x f k = subst (λ v. Outcome around (run deep N.Dispatcher) v (with_next v c) after) e (by_char d (ap (λ v. old_run 12 v b.mode b0) e ∙ k))
    by_token (AStart name attrs closing) e x f k = by_other (ap is_char (sym e)) k
    by_token (AnEnd name) e x f k = by_other (ap is_char (sym e)) k
    by_token (AComment text) e x f k = by_other (ap is_char (sym e)) k
    by_token (ADoctype doctype) e x f k = by_other (ap is_char (sym e)) k
    by_token AnEof e x f k = by_other (ap is_char (sym e)) k

    by_skip : (x y : Bool) → x ≡ y → (b.skip && old_line_feed t) ≡ y → elim y [ true ↦ Some (record b { skip = false }) | false ↦ old_run 12 t b.mode (record b { skip = false }) ] ≡ Some after →
        (later : WholeBuilding) × (elim x [ true ↦ Some (with_next t c) | false ↦ run deep N.Dispatcher (with_next t c) ] ≡ Some later) × Meets around t after later
    by_skip true true e f k =
        let g = feed_char t (feed b.skip (old_line_feed t) f) in (
          with_next t c,
          refl,
          subst (λ (x : Building). Meets around t x (with_next t c)) (same_Some b0 after k) (lagging g.1 (record {
            stands = still (flushed (with_next t c)) l.stands refl refl refl refl;
            mode = l.mode;
            original = l.original;
            table = l.table;
            white = l.white;
            html = l.html;
            opened = l.opened;
            answer = refl;
          })),
        )
    by_skip true false e f k = cc
    by_skip false true e f k = cc
    by_skip false false e f k = by_token t refl (is_char t) refl k

pub step_sound : (page : Bool) (around : Option Kind) → IsPage page around → (t last : Token) → IsPlainToken page t → (b after : Building) (c : WholeBuilding) → Meets around last b c →
    old_step b t ≡ Some after → Outcome around (λ x. tree_step deep x t) t c after
step_sound page around is t last plain b after c (settled s) h = settled_step page around is t plain b after c s.stands s.mode s.original s.later h
step_sound page around is t last plain b after c (lagging char l) h = lagging_step page around is t plain b after c l h

-- ---- steps

abbrev pub ArePlain : Bool → List Token → Type 0
ArePlain page [] = Unit {0}
ArePlain page (t ∷ ts) = IsPlainToken page t × ArePlain page ts

abbrev pub last_token : Token → List Token → Token
last_token t [] = t
last_token t (u ∷ us) = last_token u us

pub steps_sound : (page : Bool) (around : Option Kind) → IsPage page around → (ts : List Token) → ArePlain page ts → (last : Token) (b after : Building) (c : WholeBuilding) → Meets around last b c →
    old_steps b ts ≡ Some after → (later : WholeBuilding) × (tree_steps deep c ts ≡ Some later) × Meets around (last_token last ts) after later
steps_sound page around is [] plain last b after c m h = (c, refl, subst (λ (x : Building). Meets around last x c) (same_Some b after h) m)
steps_sound page around is (t ∷ ts) plain last b after c m h =
    by_step (old_step b t) refl h (λ x y. steps_sound page around is ts plain.1 t x after y)
  where
    by_step : (o : Option Building) → old_step b t ≡ o → option_and_then (λ x. old_steps x ts) o ≡ Some after →
        ((x : Building) (y : WholeBuilding) → Meets around t x y → old_steps x ts ≡ Some after → (later : WholeBuilding) × (tree_steps deep y ts ≡ Some later) × Meets around (last_token t ts) after later) →
        (later : WholeBuilding) × (option_and_then (λ y. tree_steps deep y ts) (tree_step deep c t) ≡ Some later) × Meets around (last_token t ts) after later
    by_step None is_none k rest = cc
    by_step (Some x) is_some k rest =
        let o : Outcome around (λ y. tree_step deep y t) t c x = step_sound page around is t last plain.0 b x c m is_some in
        let r = rest x o.0 o.2 k in
        (r.0, ap (option_and_then (λ y. tree_steps deep y ts)) o.1 ∙ r.1, r.2)
