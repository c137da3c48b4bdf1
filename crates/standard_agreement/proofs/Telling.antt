-- What tree construction tells the tokenizer behind each token of plain trees: what the token's name says.
use Rattle.std.specs.Prelude.{◌≡◌, refl, ℕ, Bool, true, false, cond, not, ◌&&◌, List, [], ◌∷◌, ◌++◌, Option, None, Some, bytes_eq, codes, option_map}
use Rattle.std.specs.Option.{option_and_then}
use Rattle.std.proofs.lemmas.Bool.{or_parts, true≢false}
use Rattle.std.proofs.lemmas.Slice.Eq.{bytes_eq-Decides}
use mathlib.Core.Path.{◌∙◌, sym, ap}
use Rattle.standard_tokens.specs.Reading.{IsFeedback, is_switching, plain_feedback, switch_at, switch_behind}
use Rattle.standard_tokens.specs.States.{State}
use Rattle.standard_tokens.specs.Tokens.{Token, AChar, AComment, ADoctype, AStart, AnEnd, AnEof}
use Rattle.standard_rules.specs.Building.{Building, tree_step as old_step}
use Rattle.standard_rules.specs.RuleWords as O
use Rattle.standard_rules.proofs.TreeLists.{if_switched, is_switched, switched_steps, text_if}
use Rattle.standard_trees.specs.Building.{Building as WholeBuilding, is_empty as nothing_open, tree_step}
use Rattle.standard_trees.specs.GrowingTree.{adjusted_current}
use Rattle.standard_trees.specs.Parsing.{is_foreign_now, state_of}
use Rattle.standard_trees.specs.TreeStore.{Kind, is_html, space_in}
use Rattle.standard_agreement.proofs.Deciding.{IsPage}
use Rattle.standard_agreement.proofs.Following.{Meets, Outcome, answer_in, is_char, lagging, settled}
use Rattle.standard_agreement.proofs.Joined.{Answers, Says, answers_more, answers_none}
use Rattle.standard_agreement.proofs.Stepping.{html_now}
use Rattle.standard_agreement.proofs.Steps.{ArePlain, deep, step_sound}

-- ---- names

flip : (x y : List ℕ) → bytes_eq x y ≡ false → bytes_eq y x ≡ false
flip x y h = by_test (bytes_eq y x) refl
  where
    by_test : (z : Bool) → bytes_eq y x ≡ z → z ≡ false
    by_test true e = absurd (true≢false (sym ((bytes_eq-Decides x y).1 (sym ((bytes_eq-Decides y x).0 e))) ∙ h))
    by_test false e = refl

-- a name that has no state of its own
pub no_state : (name : List ℕ) → is_switching name ≡ false → switch_at name ≡ None
no_state name h =
    let title = or_parts (bytes_eq name (codes "title")) _ h in
    let textarea = or_parts (bytes_eq name (codes "textarea")) _ title.1 in
    let style = or_parts (bytes_eq name (codes "style")) _ textarea.1 in
    let xmp = or_parts (bytes_eq name (codes "xmp")) _ style.1 in
    let iframe = or_parts (bytes_eq name (codes "iframe")) _ xmp.1 in
    let noembed = or_parts (bytes_eq name (codes "noembed")) _ iframe.1 in
    let noframes = or_parts (bytes_eq name (codes "noframes")) _ noembed.1 in
    let script = or_parts (bytes_eq name (codes "script")) _ noframes.1 in
    let noscript = or_parts (bytes_eq name (codes "noscript")) _ script.1 in
    let plaintext = or_parts (bytes_eq name (codes "plaintext")) _ noscript.1 in
    rw (
      flip name (codes "title") title.0,
      flip name (codes "textarea") textarea.0,
      flip name (codes "style") style.0,
      flip name (codes "xmp") xmp.0,
      flip name (codes "iframe") iframe.0,
      flip name (codes "noembed") noembed.0,
      flip name (codes "noframes") noframes.0,
      flip name (codes "script") script.0,
      flip name (codes "plaintext") plaintext.0,
    ) refl

-- the last token decides
pub behind_last : (seen : List Token) (t : Token) → switch_behind (seen ++ t ∷ []) ≡ switch_behind (t ∷ [])
behind_last [] t = refl
behind_last (x ∷ []) t = refl
behind_last (x ∷ y ∷ seen) t = behind_last (y ∷ seen) t

pub honest : IsFeedback (plain_feedback false)
honest seen (AStart name attrs closing) h = behind_last seen (AStart name attrs closing) ∙ no_state name h
honest seen (AnEnd name) h = behind_last seen (AnEnd name)
honest seen (AChar c) h = behind_last seen (AChar c)
honest seen (AComment text) h = behind_last seen (AComment text)
honest seen (ADoctype doctype) h = behind_last seen (ADoctype doctype)
honest seen AnEof h = behind_last seen AnEof

-- ---- behind a token

-- where a name that has a state leads to the mode "text"
found_in : (mode : O.Mode) (t : Token) (found : Option State) → switch_behind (t ∷ []) ≡ found → text_if found mode ≡ true → answer_in mode t ≡ found
found_in O.Text t found is h = is
found_in _ t None is h = refl
found_in _ t (Some state) is h = cc

char_silent : (t : Token) → is_char t ≡ true → switch_behind (t ∷ []) ≡ None
char_silent (AChar c) h = refl
char_silent (AStart name attrs closing) h = cc
char_silent (AnEnd name) h = cc
char_silent (AComment text) h = cc
char_silent (ADoctype doctype) h = cc
char_silent AnEof h = cc

in_html : (c : WholeBuilding) → nothing_open c.tree.stack ≡ false → is_html (space_in (adjusted_current c.tree)) ≡ true → is_foreign_now c ≡ false
in_html c opened html = ap (λ x. not x && not (is_html (space_in (adjusted_current c.tree)))) opened ∙ ap not html

pub never_foreign : (around : Option Kind) (t : Token) (b : Building) (c : WholeBuilding) → Meets around t b c → is_foreign_now c ≡ false
never_foreign around t b c (settled s) = let n = html_now around b c s.stands in in_html c n.0 n.1
never_foreign around t b c (lagging char l) = in_html c l.opened l.html

told : (around : Option Kind) (t : Token) (b : Building) (c : WholeBuilding) → Meets around t b c → is_switched t b ≡ true → option_map state_of c.tokenizer ≡ switch_behind (t ∷ [])
told around t b c (settled s) h = s.answer ∙ found_in b.mode t (switch_behind (t ∷ [])) refl h
told around t b c (lagging char l) h = ap (option_map state_of) l.answer ∙ sym (char_silent t char)

says_behind : (around : Option Kind) (before : List Token) (t : Token) (b : Building) (c : WholeBuilding) → Meets around t b c → is_switched t b ≡ true → Says (plain_feedback false) (before ++ t ∷ []) c
says_behind around before t b c m h = record { foreign = never_foreign around t b c m; switch = told around t b c m h ∙ sym (behind_last before t) }

-- behind each of the tokens
pub answers_sound : (page : Bool) (around : Option Kind) → IsPage page around → (ts : List Token) → ArePlain page ts → (last : Token) (before : List Token) (b e : Building) (c : WholeBuilding) → Meets around last b c →
    Says (plain_feedback false) before c → switched_steps b ts ≡ Some e → Answers deep c (plain_feedback false) before ts
answers_sound page around is [] plain last before b e c m s h = answers_none deep c (plain_feedback false) before s
answers_sound page around is (t ∷ ts) plain last before b e c m s h =
    by_step (old_step b t) refl h (λ x y n k l. answers_sound page around is ts plain.1 t (before ++ t ∷ []) x e y n k l)
  where
    Later : Type 0
    Later = (x : Building) (y : WholeBuilding) → Meets around t x y → Says (plain_feedback false) (before ++ t ∷ []) y → switched_steps x ts ≡ Some e →
        Answers deep y (plain_feedback false) (before ++ t ∷ []) ts

    by_switch : (x : Building) → old_step b t ≡ Some x → (z : Bool) → is_switched t x ≡ z → option_and_then (λ after. switched_steps after ts) (cond z (Some x) None) ≡ Some e → Later →
        Answers deep c (plain_feedback false) before (t ∷ ts)
    by_switch x is_some false i k rest = cc
    by_switch x is_some true i k rest =
        let o : Outcome around (λ y. tree_step deep y t) t c x = step_sound page around is t last plain.0 b x c m is_some in
        answers_more deep c o.0 (plain_feedback false) before t ts o.1 s (rest x o.0 o.2 (says_behind around before t x o.0 o.2 i) k)

    by_step : (o : Option Building) → old_step b t ≡ o → option_and_then (λ after. switched_steps after ts) (option_and_then (if_switched t) o) ≡ Some e → Later →
        Answers deep c (plain_feedback false) before (t ∷ ts)
    by_step None is_none k rest = cc
    by_step (Some x) is_some k rest = by_switch x is_some (is_switched t x) refl k rest
