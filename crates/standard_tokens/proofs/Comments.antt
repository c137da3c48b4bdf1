-- Comments, as the tokenizer reads them.
use Rattle.std.specs.Prelude.{◌≡◌, ℕ, Bool, true, false, not, eqb, ◌==◌, ◌||◌, List, [], ◌∷◌, ◌++◌, codes, refl}
use Rattle.std.proofs.Common.{inl, inr}
use Rattle.std.specs.List.{list_all}
use Rattle.std.specs.Cmp.Derive.{both_true}
use Rattle.std.proofs.lemmas.Bool.{and_parts, cases_Bool, eqb-true, or_parts, true≢false}
use Rattle.std.proofs.lemmas.List.{append-nil, append_assoc}
use mathlib.Core.Path.{◌∙◌, sym, ap, subst}
use Rattle.standard_tokens.proofs.PlainParts.{IsRead}
use Rattle.standard_tokens.proofs.Steps.{behind_none, go_on, loud, other, silent, taking}
use Rattle.standard_tokens.proofs.WordFacts.{behind-lacks, from_not, front-lacks}
use Rattle.standard_tokens.specs.Entries.{Current, These, Stay, Switch, Reconsume, NewComment, Add, Comment, EmitComment}
use Rattle.standard_tokens.specs.Machine.{Machine, Taken, all_emitted, at_state, stops, taken}
use Rattle.standard_tokens.specs.PlainMarkup.{begins_with, contains_word, is_comment_text, is_raw_char}
use Rattle.standard_tokens.specs.Reading.{Feedback, IsFeedback, Reads, here, reader}
use Rattle.standard_tokens.specs.States.{State, Data, TagOpen, MarkupDeclarationOpen, CommentStart, CommentStartDash, CommentState, CommentLessThanSign, CommentLessThanSignBang, CommentLessThanSignBangDash, CommentLessThanSignBangDashDash, CommentEndDash, CommentEnd, CommentEndBang}
use Rattle.standard_tokens.specs.Table.{entries}
use Rattle.standard_tokens.specs.Tokens.{Token, AComment}

-- where reading is in a comment
data Mode : Type 0 where
  Start StartDash In Less LessBang LessBangDash LessBangDashDash Dash DashDash Bang : Mode

abbrev state_in : Mode → State
state_in Start = CommentStart
state_in StartDash = CommentStartDash
state_in In = CommentState
state_in Less = CommentLessThanSign
state_in LessBang = CommentLessThanSignBang
state_in LessBangDash = CommentLessThanSignBangDash
state_in LessBangDashDash = CommentLessThanSignBangDashDash
state_in Dash = CommentEndDash
state_in DashDash = CommentEnd
state_in Bang = CommentEndBang

-- what of the text was read, and isn't in the comment yet
abbrev held : Mode → List ℕ
held StartDash = codes "-"
held LessBangDash = codes "-"
held LessBangDashDash = codes "--"
held Dash = codes "-"
held DashDash = codes "--"
held Bang = codes "--!"
held _ = []

abbrev commenting : State → List ℕ → Machine → Machine
commenting state text m = record m { state = state; comment = text }

-- ---- what the text lacks

abbrev Front : Mode → List ℕ → Type 0
Front Start text = (begins_with eqb (codes ">") text ≡ false) × (begins_with eqb (codes "->") text ≡ false)
Front StartDash text = begins_with eqb (codes "->") (codes "-" ++ text) ≡ false
Front _ text = Unit {0}

record Lacks (mode : Mode) (text : List ℕ) : Type 0 where
  pub front : Front mode text
  pub ends : contains_word eqb (codes "-->") (held mode ++ text) ≡ false
  pub bangs : contains_word eqb (codes "--!>") (held mode ++ text) ≡ false

-- past the front of the comment
record LacksEnd (text : List ℕ) : Type 0 where
  pub ends : contains_word eqb (codes "-->") text ≡ false
  pub bangs : contains_word eqb (codes "--!>") text ≡ false

end_behind : (front text : List ℕ) → LacksEnd (front ++ text) → LacksEnd text
end_behind front text l = record { ends = behind-lacks eqb (codes "-->") front text l.ends; bangs = behind-lacks eqb (codes "--!>") front text l.bangs }

no_end : {mode : Mode} {text : List ℕ} → Lacks mode text → LacksEnd (held mode ++ text)
no_end l = record { ends = l.ends; bangs = l.bangs }

-- ---- steps

move : {f : Feedback} (s : State) (d : List ℕ) (s' : State) (d' : List ℕ) (m : Machine) (text text' : List ℕ) (seen : List Token) (t : Taken) →
    taken (f.in_foreign seen) (commenting s d m) text (entries s) ≡ t → stops t.goes ≡ false → all_emitted t.current t.acts (commenting s d m) ≡ [] →
    behind_none (reader (commenting s d m) text seen) t ≡ reader (commenting s' d' m) text' seen → Reads f (reader (commenting s d m) text seen) (reader (commenting s' d' m) text' seen)
move {f} s d s' d' m text text' seen t is runs none same = subst (λ q. Reads f (reader (commenting s d m) text seen) q) same (silent t is runs none)

-- what reading a character leads to
record Goes (f : Feedback) (mode : Mode) (d : List ℕ) (c : ℕ) (text : List ℕ) : Type 0 where
  pub mode' : Mode
  pub d' : List ℕ
  pub lacks : Lacks mode' text
  pub all : d' ++ held mode' ≡ d ++ held mode ++ c ∷ []
  pub reads : (m : Machine) (rest : List ℕ) (seen : List Token) → Reads f (reader (commenting (state_in mode) d m) (c ∷ rest) seen) (reader (commenting (state_in mode') d' m) rest seen)

char_taken : (foreign : Bool) (m : Machine) (c : ℕ) (text : List ℕ) → is_raw_char c ≡ true → (60 == c) ≡ false → (45 == c) ≡ false →
    taken foreign m (c ∷ text) (entries CommentState) ≡ taking (Add Comment Current ∷ []) Stay (c ∷ [])
unfolding taken entries
char_taken foreign m c text h less dash = rw (less, dash, other is_raw_char 0 c h refl) refl

-- in a comment
in_step : (f : Feedback) (d : List ℕ) (c : ℕ) (text : List ℕ) → is_raw_char c ≡ true → LacksEnd (c ∷ text) → Goes f In d c text
unfolding taken entries
in_step f d c text h l =
    elim (cases_Bool (60 == c)) [
      | inl less ↦ subst (λ e. LacksEnd (e ∷ text) → Goes f In d e text) (eqb-true 60 c less) at_less l
      | inr no_less ↦ elim (cases_Bool (45 == c)) [
        | inl dash ↦ subst (λ e. LacksEnd (e ∷ text) → Goes f In d e text) (eqb-true 45 c dash) at_dash l
        | inr no_dash ↦ record {
          mode' = In;
          d' = d ++ c ∷ [];
          lacks = let later : LacksEnd text = end_behind (c ∷ []) text l in record { front = tt; ends = later.ends; bangs = later.bangs };
          all = append-nil (d ++ c ∷ []) ∙ ap (λ e. e ++ c ∷ []) (sym (append-nil d));
          reads = λ m rest seen. silent (taking (Add Comment Current ∷ []) Stay (c ∷ [])) (char_taken (f.in_foreign seen) (commenting CommentState d m) c rest h no_less no_dash) refl refl;
        }
      ]
    ]
  where
    at_less : LacksEnd (60 ∷ text) → Goes f In d 60 text
    at_less l = record {
      mode' = Less;
      d' = d ++ 60 ∷ [];
      lacks = let later : LacksEnd text = end_behind (60 ∷ []) text l in record { front = tt; ends = later.ends; bangs = later.bangs };
      all = append-nil (d ++ 60 ∷ []) ∙ ap (λ e. e ++ 60 ∷ []) (sym (append-nil d));
      reads = λ m rest seen. silent (taking (Add Comment Current ∷ []) (Switch CommentLessThanSign) (60 ∷ [])) refl refl refl;
    }

    at_dash : LacksEnd (45 ∷ text) → Goes f In d 45 text
    at_dash l = record {
      mode' = Dash;
      d' = d;
      lacks = record { front = tt; ends = l.ends; bangs = l.bangs };
      all = ap (λ e. e ++ 45 ∷ []) (sym (append-nil d));
      reads = λ m rest seen. silent (taking [] (Switch CommentEndDash) (45 ∷ [])) refl refl refl;
    }

-- the mode doesn't go on with the character
abbrev Falls : Mode → ℕ → Type 0
Falls Start c = ((45 == c) ≡ false) × ((62 == c) ≡ false)
Falls StartDash c = ((45 == c) ≡ false) × ((62 == c) ≡ false)
Falls In c = Unit {0}
Falls Less c = ((33 == c) ≡ false) × ((60 == c) ≡ false)
Falls LessBang c = (45 == c) ≡ false
Falls LessBangDash c = (45 == c) ≡ false
Falls LessBangDashDash c = ((62 == c) ≡ false) × ((33 == c) ≡ false) × ((45 == c) ≡ false)
Falls Dash c = (45 == c) ≡ false
Falls DashDash c = ((62 == c) ≡ false) × ((33 == c) ≡ false) × ((45 == c) ≡ false)
Falls Bang c = ((45 == c) ≡ false) × ((62 == c) ≡ false)

-- `<!--` in a comment stands for itself
nested : (f : Feedback) (d : List ℕ) (c : ℕ) (m : Machine) (rest : List ℕ) (seen : List Token) →
    Reads f (reader (commenting CommentLessThanSignBangDashDash d m) (c ∷ rest) seen) (reader (commenting CommentEnd d m) (c ∷ rest) seen)
unfolding taken entries
nested f d c m rest seen =
    silent (taking [] (Reconsume CommentEnd) (c ∷ [])) (elim (cases_Bool (62 == c)) [ inl close ↦ rw close refl | inr no_close ↦ rw no_close refl ]) refl refl

falls : (f : Feedback) (mode : Mode) (d : List ℕ) (c : ℕ) → Falls mode c → (m : Machine) (rest : List ℕ) (seen : List Token) →
    Reads f (reader (commenting (state_in mode) d m) (c ∷ rest) seen) (reader (commenting CommentState (d ++ held mode) m) (c ∷ rest) seen)
unfolding taken entries
falls f Start d c h m rest seen = rw (append-nil d) (silent (taking [] (Reconsume CommentState) (c ∷ [])) (rw (h.0, h.1) refl) refl refl)
falls f StartDash d c h m rest seen = silent (taking (Add Comment (These (codes "-")) ∷ []) (Reconsume CommentState) (c ∷ [])) (rw (h.0, h.1) refl) refl refl
falls f In d c h m rest seen = rw (append-nil d) here
falls f Less d c h m rest seen = rw (append-nil d) (silent (taking [] (Reconsume CommentState) (c ∷ [])) (rw (h.0, h.1) refl) refl refl)
falls f LessBang d c h m rest seen = rw (append-nil d) (silent (taking [] (Reconsume CommentState) (c ∷ [])) (rw h refl) refl refl)
falls f LessBangDash d c h m rest seen =
    go_on (move CommentLessThanSignBangDash d CommentEndDash d m (c ∷ rest) (c ∷ rest) seen (taking [] (Reconsume CommentEndDash) (c ∷ [])) (rw h refl) refl refl refl)
    (move CommentEndDash d CommentState (d ++ codes "-") m (c ∷ rest) (c ∷ rest) seen (taking (Add Comment (These (codes "-")) ∷ []) (Reconsume CommentState) (c ∷ [])) (rw h refl) refl refl refl)
falls f LessBangDashDash d c h m rest seen =
    go_on (nested f d c m rest seen)
    (move CommentEnd d CommentState (d ++ codes "--") m (c ∷ rest) (c ∷ rest) seen (taking (Add Comment (These (codes "--")) ∷ []) (Reconsume CommentState) (c ∷ [])) (rw (h.0, h.1, h.2) refl) refl refl refl)
falls f Dash d c h m rest seen = silent (taking (Add Comment (These (codes "-")) ∷ []) (Reconsume CommentState) (c ∷ [])) (rw h refl) refl refl
falls f DashDash d c h m rest seen = silent (taking (Add Comment (These (codes "--")) ∷ []) (Reconsume CommentState) (c ∷ [])) (rw (h.0, h.1, h.2) refl) refl refl
falls f Bang d c h m rest seen = silent (taking (Add Comment (These (codes "--!")) ∷ []) (Reconsume CommentState) (c ∷ [])) (rw (h.0, h.1) refl) refl refl

-- where the mode falls, the character is read in the comment
fallen : (f : Feedback) (mode : Mode) (d : List ℕ) (c : ℕ) (text : List ℕ) → is_raw_char c ≡ true → LacksEnd (held mode ++ c ∷ text) → Falls mode c → Goes f mode d c text
fallen f mode d c text h l fails =
    let inside : Goes f In (d ++ held mode) c text = in_step f (d ++ held mode) c text h (end_behind (held mode) (c ∷ text) l) in
    record {
      mode' = inside.mode';
      d' = inside.d';
      lacks = inside.lacks;
      all = inside.all ∙ ap (λ e. e ++ c ∷ []) (append-nil (d ++ held mode));
      reads = λ m rest seen. go_on (falls f mode d c fails m rest seen) (inside.reads m rest seen);
    }

-- ---- a character

start_goes : (f : Feedback) (d : List ℕ) (c : ℕ) (text : List ℕ) → is_raw_char c ≡ true → Lacks Start (c ∷ text) → Goes f Start d c text
unfolding taken entries
start_goes f d c text h l =
    elim (cases_Bool (45 == c)) [
      | inl dash ↦ subst (λ e. Lacks Start (e ∷ text) → Goes f Start d e text) (eqb-true 45 c dash)
          (λ l. record {
            mode' = StartDash;
            d' = d;
            lacks = record { front = l.front.1; ends = l.ends; bangs = l.bangs };
            all = ap (λ e. e ++ 45 ∷ []) (sym (append-nil d));
            reads = λ m rest seen. silent (taking [] (Switch CommentStartDash) (45 ∷ [])) refl refl refl;
          }) l
      | inr no_dash ↦ elim (cases_Bool (62 == c)) [
        | inl close ↦ absurd (true≢false (sym (both_true close refl) ∙ l.front.0))
        | inr no_close ↦ fallen f Start d c text h (no_end l) (no_dash, no_close)
      ]
    ]

start_dash_goes : (f : Feedback) (d : List ℕ) (c : ℕ) (text : List ℕ) → is_raw_char c ≡ true → Lacks StartDash (c ∷ text) → Goes f StartDash d c text
unfolding taken entries
start_dash_goes f d c text h l =
    elim (cases_Bool (45 == c)) [
      | inl dash ↦ subst (λ e. Lacks StartDash (e ∷ text) → Goes f StartDash d e text) (eqb-true 45 c dash)
          (λ l. record {
            mode' = DashDash;
            d' = d;
            lacks = record { front = tt; ends = l.ends; bangs = l.bangs };
            all = sym (append_assoc d (45 ∷ []) (45 ∷ []));
            reads = λ m rest seen. silent (taking [] (Switch CommentEnd) (45 ∷ [])) refl refl refl;
          }) l
      | inr no_dash ↦ elim (cases_Bool (62 == c)) [
        | inl close ↦ absurd (true≢false (sym (both_true close refl) ∙ l.front))
        | inr no_close ↦ fallen f StartDash d c text h (no_end l) (no_dash, no_close)
      ]
    ]

less_goes : (f : Feedback) (d : List ℕ) (c : ℕ) (text : List ℕ) → is_raw_char c ≡ true → Lacks Less (c ∷ text) → Goes f Less d c text
unfolding taken entries
less_goes f d c text h l =
    elim (cases_Bool (33 == c)) [
      | inl bang ↦ subst (λ e. LacksEnd text → Goes f Less d e text) (eqb-true 33 c bang)
          (λ l. record {
            mode' = LessBang;
            d' = d ++ 33 ∷ [];
            lacks = record { front = tt; ends = l.ends; bangs = l.bangs };
            all = append-nil (d ++ 33 ∷ []) ∙ ap (λ e. e ++ 33 ∷ []) (sym (append-nil d));
            reads = λ m rest seen. silent (taking (Add Comment Current ∷ []) (Switch CommentLessThanSignBang) (33 ∷ [])) refl refl refl;
          }) (end_behind (c ∷ []) text (no_end l))
      | inr no_bang ↦ elim (cases_Bool (60 == c)) [
        | inl less ↦ subst (λ e. LacksEnd text → Goes f Less d e text) (eqb-true 60 c less)
            (λ l. record {
              mode' = Less;
              d' = d ++ 60 ∷ [];
              lacks = record { front = tt; ends = l.ends; bangs = l.bangs };
              all = append-nil (d ++ 60 ∷ []) ∙ ap (λ e. e ++ 60 ∷ []) (sym (append-nil d));
              reads = λ m rest seen. silent (taking (Add Comment Current ∷ []) Stay (60 ∷ [])) refl refl refl;
            }) (end_behind (c ∷ []) text (no_end l))
        | inr no_less ↦ fallen f Less d c text h (no_end l) (no_bang, no_less)
      ]
    ]

-- `-` goes on to another mode, and no other character does
dash_goes : (f : Feedback) (mode : Mode) (d : List ℕ) (c : ℕ) (text : List ℕ) → is_raw_char c ≡ true → Lacks mode (c ∷ text) →
    (Lacks mode (45 ∷ text) → Goes f mode d 45 text) → ((45 == c) ≡ false → Falls mode c) → Goes f mode d c text
dash_goes f mode d c text h l at_dash fails =
    elim (cases_Bool (45 == c)) [
      | inl dash ↦ subst (λ e. Lacks mode (e ∷ text) → Goes f mode d e text) (eqb-true 45 c dash) at_dash l
      | inr no_dash ↦ fallen f mode d c text h (no_end l) (fails no_dash)
    ]

dash_dash_goes : (f : Feedback) (d : List ℕ) (c : ℕ) (text : List ℕ) → is_raw_char c ≡ true → Lacks DashDash (c ∷ text) → Goes f DashDash d c text
unfolding taken entries
dash_dash_goes f d c text h l =
    elim (cases_Bool (33 == c)) [
      | inl bang ↦ subst (λ e. Lacks DashDash (e ∷ text) → Goes f DashDash d e text) (eqb-true 33 c bang)
          (λ l. record {
            mode' = Bang;
            d' = d;
            lacks = record { front = tt; ends = l.ends; bangs = l.bangs };
            all = sym (append_assoc d (codes "--") (33 ∷ []));
            reads = λ m rest seen. silent (taking [] (Switch CommentEndBang) (33 ∷ [])) refl refl refl;
          }) l
      | inr no_bang ↦ elim (cases_Bool (62 == c)) [
        | inl close ↦ absurd (true≢false (sym (both_true close refl) ∙ front-lacks eqb (codes "-->") 45 (45 ∷ c ∷ text) l.ends))
        | inr no_close ↦ dash_goes f DashDash d c text h l (λ l. record {
          mode' = DashDash;
          d' = d ++ 45 ∷ [];
          lacks = let later : LacksEnd (codes "--" ++ text) = end_behind (45 ∷ []) (codes "--" ++ text) (no_end l) in record { front = tt; ends = later.ends; bangs = later.bangs };
          all = append_assoc d (45 ∷ []) (codes "--") ∙ sym (append_assoc d (codes "--") (45 ∷ []));
          reads = λ m rest seen. silent (taking (Add Comment (These (codes "-")) ∷ []) Stay (45 ∷ [])) refl refl refl;
        }) (λ no_dash. (no_close, no_bang, no_dash))
      ]
    ]

-- `<!--` was read in the comment: as behind `--`
nested_goes : (f : Feedback) (d : List ℕ) (c : ℕ) (text : List ℕ) → is_raw_char c ≡ true → Lacks LessBangDashDash (c ∷ text) → Goes f LessBangDashDash d c text
nested_goes f d c text h l =
    let as_end : Goes f DashDash d c text = dash_dash_goes f d c text h (record { front = tt; ends = l.ends; bangs = l.bangs }) in
    record { mode' = as_end.mode'; d' = as_end.d'; lacks = as_end.lacks; all = as_end.all; reads = λ m rest seen. go_on (nested f d c m rest seen) (as_end.reads m rest seen) }

bang_goes : (f : Feedback) (d : List ℕ) (c : ℕ) (text : List ℕ) → is_raw_char c ≡ true → Lacks Bang (c ∷ text) → Goes f Bang d c text
unfolding taken entries
bang_goes f d c text h l =
    elim (cases_Bool (62 == c)) [
      | inl close ↦ absurd (true≢false (sym (both_true close refl) ∙ front-lacks eqb (codes "--!>") 45 (45 ∷ 33 ∷ c ∷ text) l.bangs))
      | inr no_close ↦ dash_goes f Bang d c text h l (λ l. record {
        mode' = Dash;
        d' = d ++ codes "--!";
        lacks = let later : LacksEnd (codes "-" ++ text) = end_behind (codes "--!") (codes "-" ++ text) (no_end l) in record { front = tt; ends = later.ends; bangs = later.bangs };
        all = refl;
        reads = λ m rest seen. silent (taking (Add Comment (These (codes "--!")) ∷ []) (Switch CommentEndDash) (45 ∷ [])) refl refl refl;
      }) (λ no_dash. (no_dash, no_close))
    ]

goes : (f : Feedback) (mode : Mode) (d : List ℕ) (c : ℕ) (text : List ℕ) → is_raw_char c ≡ true → Lacks mode (c ∷ text) → Goes f mode d c text
unfolding taken entries
goes f Start d c text h l = start_goes f d c text h l
goes f StartDash d c text h l = start_dash_goes f d c text h l
goes f In d c text h l = in_step f d c text h (no_end l)
goes f Less d c text h l = less_goes f d c text h l
goes f LessBang d c text h l = dash_goes f LessBang d c text h l (λ l. record {
  mode' = LessBangDash;
  d' = d;
  lacks = record { front = tt; ends = l.ends; bangs = l.bangs };
  all = ap (λ e. e ++ 45 ∷ []) (sym (append-nil d));
  reads = λ m rest seen. silent (taking [] (Switch CommentLessThanSignBangDash) (45 ∷ [])) refl refl refl;
}) (λ no_dash. no_dash)
goes f LessBangDash d c text h l = dash_goes f LessBangDash d c text h l (λ l. record {
  mode' = LessBangDashDash;
  d' = d;
  lacks = record { front = tt; ends = l.ends; bangs = l.bangs };
  all = sym (append_assoc d (45 ∷ []) (45 ∷ []));
  reads = λ m rest seen. silent (taking [] (Switch CommentLessThanSignBangDashDash) (45 ∷ [])) refl refl refl;
}) (λ no_dash. no_dash)
goes f LessBangDashDash d c text h l = nested_goes f d c text h l
goes f Dash d c text h l = dash_goes f Dash d c text h l (λ l. record {
  mode' = DashDash;
  d' = d;
  lacks = record { front = tt; ends = l.ends; bangs = l.bangs };
  all = sym (append_assoc d (45 ∷ []) (45 ∷ []));
  reads = λ m rest seen. silent (taking [] (Switch CommentEnd) (45 ∷ [])) refl refl refl;
}) (λ no_dash. no_dash)
goes f DashDash d c text h l = dash_dash_goes f d c text h l
goes f Bang d c text h l = bang_goes f d c text h l

-- ---- the end

abbrev IsEnd : Feedback → State → List ℕ → List ℕ → List ℕ → Type 0
IsEnd f state d text whole = (m : Machine) (rest : List ℕ) (seen : List Token) →
    Reads f (reader (commenting state d m) (text ++ rest) seen) (reader (commenting Data whole m) rest (seen ++ AComment whole ∷ []))

-- `>` behind `--`
end_closes : (f : Feedback) → IsFeedback f → (d : List ℕ) → IsEnd f CommentEnd d (codes ">") d
unfolding taken entries
end_closes f honest d m rest seen = loud honest (taking (EmitComment ∷ []) (Switch Data) (62 ∷ [])) (AComment d) refl refl refl refl

-- `->` behind `--`, and `-->`
end_once : (f : Feedback) → IsFeedback f → (d : List ℕ) → IsEnd f CommentEnd d (codes "->") (d ++ codes "-")
unfolding taken entries
end_once f honest d m rest seen =
    go_on (move CommentEnd d CommentEnd (d ++ codes "-") m (45 ∷ 62 ∷ rest) (62 ∷ rest) seen (taking (Add Comment (These (codes "-")) ∷ []) Stay (45 ∷ [])) refl refl refl refl)
    (end_closes f honest (d ++ codes "-") m rest seen)

end_twice : (f : Feedback) → IsFeedback f → (d : List ℕ) → IsEnd f CommentEnd d (codes "-->") (d ++ codes "--")
unfolding taken entries
end_twice f honest d m rest seen =
    subst (λ e. Reads f (reader (commenting CommentEnd d m) (45 ∷ 45 ∷ 62 ∷ rest) seen) (reader (commenting Data e m) rest (seen ++ AComment e ∷ []))) (append_assoc d (45 ∷ []) (45 ∷ []))
    (go_on (move CommentEnd d CommentEnd (d ++ codes "-") m (45 ∷ 45 ∷ 62 ∷ rest) (45 ∷ 62 ∷ rest) seen (taking (Add Comment (These (codes "-")) ∷ []) Stay (45 ∷ [])) refl refl refl refl)
    (end_once f honest (d ++ codes "-") m rest seen))

-- `->` behind `-`
dash_ends : (f : Feedback) → IsFeedback f → (d : List ℕ) → IsEnd f CommentEndDash d (codes "->") d
unfolding taken entries
dash_ends f honest d m rest seen =
    go_on (move CommentEndDash d CommentEnd d m (45 ∷ 62 ∷ rest) (62 ∷ rest) seen (taking [] (Switch CommentEnd) (45 ∷ [])) refl refl refl refl) (end_closes f honest d m rest seen)

-- `-->` in the comment
comment_ends : (f : Feedback) → IsFeedback f → (d : List ℕ) → IsEnd f CommentState d (codes "-->") d
unfolding taken entries
comment_ends f honest d m rest seen =
    go_on (move CommentState d CommentEndDash d m (45 ∷ 45 ∷ 62 ∷ rest) (45 ∷ 62 ∷ rest) seen (taking [] (Switch CommentEndDash) (45 ∷ [])) refl refl refl refl) (dash_ends f honest d m rest seen)

-- `-->` in each mode
ends : (f : Feedback) → IsFeedback f → (mode : Mode) (d : List ℕ) → IsEnd f (state_in mode) d (codes "-->") (d ++ held mode)
unfolding taken entries
ends f honest Start d m rest seen =
    rw (append-nil d)
    (go_on (move CommentStart d CommentStartDash d m (45 ∷ 45 ∷ 62 ∷ rest) (45 ∷ 62 ∷ rest) seen (taking [] (Switch CommentStartDash) (45 ∷ [])) refl refl refl refl)
    (go_on (move CommentStartDash d CommentEnd d m (45 ∷ 62 ∷ rest) (62 ∷ rest) seen (taking [] (Switch CommentEnd) (45 ∷ [])) refl refl refl refl) (end_closes f honest d m rest seen)))
ends f honest StartDash d m rest seen =
    go_on (move CommentStartDash d CommentEnd d m (45 ∷ 45 ∷ 62 ∷ rest) (45 ∷ 62 ∷ rest) seen (taking [] (Switch CommentEnd) (45 ∷ [])) refl refl refl refl) (end_once f honest d m rest seen)
ends f honest In d m rest seen = rw (append-nil d) (comment_ends f honest d m rest seen)
ends f honest Less d m rest seen =
    rw (append-nil d)
    (go_on (move CommentLessThanSign d CommentState d m (45 ∷ 45 ∷ 62 ∷ rest) (45 ∷ 45 ∷ 62 ∷ rest) seen (taking [] (Reconsume CommentState) (45 ∷ [])) refl refl refl refl) (comment_ends f honest d m rest seen))
ends f honest LessBang d m rest seen =
    rw (append-nil d)
    (go_on (move CommentLessThanSignBang d CommentLessThanSignBangDash d m (45 ∷ 45 ∷ 62 ∷ rest) (45 ∷ 62 ∷ rest) seen (taking [] (Switch CommentLessThanSignBangDash) (45 ∷ [])) refl refl refl refl)
    (go_on (move CommentLessThanSignBangDash d CommentLessThanSignBangDashDash d m (45 ∷ 62 ∷ rest) (62 ∷ rest) seen (taking [] (Switch CommentLessThanSignBangDashDash) (45 ∷ [])) refl refl refl refl)
    (go_on (nested f d 62 m rest seen) (end_closes f honest d m rest seen))))
ends f honest LessBangDash d m rest seen =
    go_on (move CommentLessThanSignBangDash d CommentLessThanSignBangDashDash d m (45 ∷ 45 ∷ 62 ∷ rest) (45 ∷ 62 ∷ rest) seen (taking [] (Switch CommentLessThanSignBangDashDash) (45 ∷ [])) refl refl refl refl)
    (go_on (nested f d 45 m (62 ∷ rest) seen) (end_once f honest d m rest seen))
ends f honest LessBangDashDash d m rest seen = go_on (nested f d 45 m (45 ∷ 62 ∷ rest) seen) (end_twice f honest d m rest seen)
ends f honest Dash d m rest seen =
    go_on (move CommentEndDash d CommentEnd d m (45 ∷ 45 ∷ 62 ∷ rest) (45 ∷ 62 ∷ rest) seen (taking [] (Switch CommentEnd) (45 ∷ [])) refl refl refl refl) (end_once f honest d m rest seen)
ends f honest DashDash d m rest seen = end_twice f honest d m rest seen
ends f honest Bang d m rest seen =
    go_on (move CommentEndBang d CommentEndDash (d ++ codes "--!") m (45 ∷ 45 ∷ 62 ∷ rest) (45 ∷ 62 ∷ rest) seen (taking (Add Comment (These (codes "--!")) ∷ []) (Switch CommentEndDash) (45 ∷ [])) refl refl refl refl)
    (dash_ends f honest (d ++ codes "--!") m rest seen)

-- ---- whole comments

text_read : (f : Feedback) → IsFeedback f → (mode : Mode) (d text : List ℕ) → list_all is_raw_char text ≡ true → Lacks mode text → (m : Machine) (rest : List ℕ) (seen : List Token) →
    Reads f (reader (commenting (state_in mode) d m) (text ++ (codes "-->" ++ rest)) seen)
    (reader (commenting Data (d ++ held mode ++ text) m) rest (seen ++ AComment (d ++ held mode ++ text) ∷ []))
text_read f honest mode d [] h l m rest seen = rw (append-nil (d ++ held mode)) (ends f honest mode d m rest seen)
text_read f honest mode d (c ∷ text) h l m rest seen =
    let parts : (is_raw_char c ≡ true) × (list_all is_raw_char text ≡ true) = and_parts (is_raw_char c) (list_all is_raw_char text) h in
    let first : Goes f mode d c text = goes f mode d c text parts.0 l in
    let same : first.d' ++ held first.mode' ++ text ≡ d ++ held mode ++ c ∷ text = ap (λ e. e ++ text) first.all ∙ append_assoc (d ++ held mode) (c ∷ []) text in
    subst (λ e. Reads f (reader (commenting (state_in mode) d m) (c ∷ (text ++ (codes "-->" ++ rest))) seen) (reader (commenting Data e m) rest (seen ++ AComment e ∷ []))) same
    (go_on (first.reads m (text ++ (codes "-->" ++ rest)) seen) (text_read f honest first.mode' first.d' text parts.1 first.lacks m rest seen))

-- `<!--`
opens : (f : Feedback) (m : Machine) (rest : List ℕ) (seen : List Token) → Reads f (reader (at_state m Data) (codes "<!--" ++ rest) seen) (reader (commenting CommentStart [] m) rest seen)
unfolding taken entries
opens f m rest seen =
    let one : Reads f (reader (at_state m Data) (codes "<!--" ++ rest) seen) (reader (at_state m TagOpen) (codes "!--" ++ rest) seen) = silent (taking [] (Switch TagOpen) (60 ∷ [])) refl refl refl in
    let two : Reads f (reader (at_state m TagOpen) (codes "!--" ++ rest) seen) (reader (at_state m MarkupDeclarationOpen) (codes "--" ++ rest) seen) =
    silent (taking [] (Switch MarkupDeclarationOpen) (33 ∷ [])) refl refl refl in
    let three : Reads f (reader (at_state m MarkupDeclarationOpen) (codes "--" ++ rest) seen) (reader (commenting CommentStart [] m) rest seen) =
    silent (taking (NewComment ∷ []) (Switch CommentStart) (codes "--")) refl refl refl in
    go_on one (go_on two three)

pub comment_read : (f : Feedback) → IsFeedback f → (text : List ℕ) → is_comment_text text ≡ true → IsRead f (codes "<!--" ++ (text ++ codes "-->")) (AComment text ∷ [])
comment_read f honest text h m rest seen =
    let a : Bool = begins_with eqb (codes ">") text in
    let b : Bool = begins_with eqb (codes "->") text in
    let c : Bool = contains_word eqb (codes "-->") text in
    let d : Bool = contains_word eqb (codes "--!>") text in
    let parts : (list_all is_raw_char text ≡ true) × (not (a || b || c || d) ≡ true) = and_parts (list_all is_raw_char text) (not (a || b || c || d)) h in
    let first : (a || b || c ≡ false) × (d ≡ false) = or_parts (a || b || c) d (from_not (a || b || c || d) parts.1) in
    let second : (a || b ≡ false) × (c ≡ false) = or_parts (a || b) c first.0 in
    let third : (a ≡ false) × (b ≡ false) = or_parts a b second.0 in
    let inside : Reads f (reader (commenting CommentStart [] m) (text ++ (codes "-->" ++ rest)) seen) (reader (commenting Data text m) rest (seen ++ AComment text ∷ [])) =
    text_read f honest Start [] text parts.0 (record { front = third; ends = second.1; bangs = first.1 }) m rest seen in
    (record m { comment = text }, rw (append_assoc text (codes "-->") rest) (go_on (opens f m (text ++ (codes "-->" ++ rest)) seen) inside))
