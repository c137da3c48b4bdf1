-- How the reader goes on: the tokenizer reads on, and tree construction is told what it read.
use Rattle.std.proofs.Common.{◌≡◌, ◌∙◌, ◌∷◌, ◌++◌, ◌&&◌, Bool, List, [], ap, false, length, map, not, refl, subst, sym, true, ℕ}
use Rattle.std.specs.List.{list_all}
use Rattle.std.specs.Option.{option_and_then}
use Rattle.std.specs.Prelude.{◌≢◌, ◌==◌, Err, None, Ok, OnOk, Option, Result, Some, encode_utf8_all, nat_eq, option_map, unwrap_or}
use Rattle.std.proofs.lemmas.Bool.{and_parts, eqb-true}
use Rattle.std.proofs.lemmas.List.{append-nil, append_assoc, nil_from_length}
use Rattle.std.proofs.lemmas.List.Folds.{list_all-append}
use Rattle.std.proofs.lemmas.Option.{same_Some}
use Rattle.std.proofs.lemmas.Str.{encodes-append, encodes_same}
use Rattle.standard_tokens.specs.Machine.{normalized, start_in, token_of}
use Rattle.standard_tokens.specs.Reading.{Feedback, ReadsText as ReadsWhole}
use Rattle.standard_tokens.specs.States.{State as StandardState}
use Rattle.standard_tokens.specs.Tokens.{AChar, AComment, ADoctype, AnEof, Token}
use Rattle.standard_trees.specs.Building.{Building, start, tree_steps}
use Rattle.standard_trees.specs.GrowingTree.{in_foreign}
use Rattle.standard_trees.specs.Parsing.{is_foreign_now, state_of as parsed_state}
use Rattle.standard_trees.specs.RuleWords.{PlainText, RawText, RcdataText, ScriptText, TextState}
use Rattle.page_tokens.specs.PageEnds.{EndsPage}
use Rattle.page_tokens.specs.PageLaws.{CharactersAreTold, IsAnswered, PagesBegin, PagesEnd, TextsAreRead, TokensAreRead}
use Rattle.page_tokens.specs.PlainNames.{NamesArePlain, has_plain_names}
use Rattle.page_tokens.specs.Reading.{text_of}
use Rattle.page_tokens.specs.Standard.{Holds, Told}
use Rattle.page_tokens.specs.StandardPages.{BeginsPage, HasRead, IsTextState, ReadsText, ReadsUpTo, told_or}
use Rattle.page_tokens.specs.StandardStates.{may_begin_cdata, state_of}
use Rattle.page_tokens.specs.TextStates.{wants_characters_of}
use Rattle.page_tokens.specs.declared.token.TokenKind.{TokenKind}
use Rattle.page_tokens.specs.declared.token.TokenKind.TheVariants as kind
use Rattle.page_tokens.specs.declared.tokenizer.Tokenizer.{Tokenizer}
use Rattle.page_tokens.specs.declared.tokenizer.state.State.{State}
use Rattle.page_trees.specs.Constructs.{Constructs, RemembersLimits, WithinLimits, state_for}
use Rattle.page_trees.specs.CoveredTurns.{TakesTokens, covered_turn}
use Rattle.page_trees.proofs.TurnsCovered.{turns_covered}
use Rattle.page_trees.specs.PagesRead.{HasBuilt, HasBuiltUpTo, HasEnded, IsAtEnd, IsBehind, IsRead, ReadsEnd, ReadsPiece, ReadsRest, ReadsSome, TellsAll, TellsLast}
use Rattle.page_trees.specs.PagesRead.{TellsRead, answered, page_feedback, page_steps}
use Rattle.page_trees.specs.Stands.{Tells}
use Rattle.standard_order.specs.Beginnings.{Beginning, OfFragment, OfPage, first_building, first_state_of}
use Rattle.standard_order.specs.Turns.{tree_step_while, tree_steps_while}
use Rattle.page_trees.specs.declared.builder.TreeBuilder.{TreeBuilder}
use Rattle.page_trees.specs.declared.reading.PageReader.{PageReader}
use Rattle.page_trees.proofs.PageFlags.{flag_told}
use Rattle.page_trees.proofs.PageFronts.{Later, front_of_all, one_list}
use Rattle.page_trees.proofs.TokenAnswers.{honest, step_quiet}
use Rattle.page_trees.proofs.TurnsPassed.{first_steps, while_all_steps, while_steps}

-- ---- what tree construction answers

none_of : (o : Option TextState) → option_map state_for o ≡ None → o ≡ None
none_of None e = refl
none_of (Some s) e = cc

-- its state once the answer is taken
taken : (s : TreeBuilder) (b : Building) → Constructs s b → Constructs (record s { switch = None }) (answered b)
taken s b c = record {
  tree = c.tree;
  foster = c.foster;
  in_head = c.in_head;
  mode = c.mode;
  original = c.original;
  template_modes = c.template_modes;
  frameset_ok = c.frameset_ok;
  scripting = c.scripting;
  quirks = c.quirks;
  unread = c.unread;
  pending = c.pending;
  skip = c.skip;
  tokenizer = refl;
}

-- the next token is processed alike
first_answered : (d : ℕ) (b : Building) (t : Token) (ts : List Token) → tree_steps_while covered_turn d (answered b) (t ∷ ts) ≡ tree_steps_while covered_turn d b (t ∷ ts)
unfolding tree_step_while
first_answered d b t ts = refl

-- behind characters the tokenizer is not switched
chars_quiet : (d : ℕ) (cs : List ℕ) (b c : Building) → b.tokenizer ≡ None → tree_steps_while covered_turn d b (map AChar cs) ≡ Some c → c.tokenizer ≡ None
chars_quiet d [] b c quiet h = ap (λ (x : Building). x.tokenizer) (sym (same_Some b c h)) ∙ quiet
chars_quiet d (char ∷ cs) b c quiet h = by (tree_step_while covered_turn d b (AChar char)) refl h (λ x k. chars_quiet d cs x c k)
  where
    by : (o : Option Building) → tree_step_while covered_turn d b (AChar char) ≡ o → option_and_then (λ after. tree_steps_while covered_turn d after (map AChar cs)) o ≡ Some c →
        ((x : Building) → x.tokenizer ≡ None → tree_steps_while covered_turn d x (map AChar cs) ≡ Some c → c.tokenizer ≡ None) → c.tokenizer ≡ None
    by None e k later = cc
    by (Some x) e k later = later x (step_quiet d b (AChar char) x refl (while_steps covered_turn d (AChar char) b x e)) k

-- characters, and then tokens behind them
pub both_taken : (a m n : TreeBuilder) (cs : List ℕ) (ts : List Token) → TakesTokens (map AChar cs) a m → RemembersLimits m n → TakesTokens ts m n →
    TakesTokens (map AChar cs ++ ts) a n
both_taken a m n cs ts one remembers other quiet within b stands depth c h =
    let f = first_steps covered_turn depth (map AChar cs) ts b c h in
    let first : Constructs m f.0 = one quiet (remembers within) b stands depth f.0 f.1 in
    let none : f.0.tokenizer ≡ None = chars_quiet depth cs b f.0 (none_of b.tokenizer (stands.tokenizer ∙ quiet)) f.1 in
    other (sym first.tokenizer ∙ ap (option_map state_for) none) within f.0 first depth c f.2

pub chars_alone : (a n : TreeBuilder) (cs : List ℕ) (ts : List Token) → ts ≡ [] → TakesTokens (map AChar cs) a n → TakesTokens (map AChar cs ++ ts) a n
chars_alone a n cs ts none takes = subst (λ all. TakesTokens all a n) (sym (ap (λ us. map AChar cs ++ us) none ∙ append-nil (map AChar cs))) takes

-- behind all that was told
all_stand : (depth : ℕ) (now c : Building) (ts : List Token) (a n : TreeBuilder) → TakesTokens ts a n → a.switch ≡ None → WithinLimits n → Constructs a (answered now) →
    tree_steps_while covered_turn depth now ts ≡ Some c → Constructs (record n { switch = None }) (answered c)
all_stand depth now c [] a n takes quiet within stands h =
    subst (λ (b : Building). Constructs (record n { switch = None }) (answered b)) (same_Some now c h)
    (taken n (answered now) (takes quiet within (answered now) stands depth (answered now) refl))
all_stand depth now c (t ∷ ts) a n takes quiet within stands h =
    taken n c (takes quiet within (answered now) stands depth c (first_answered depth now t ts ∙ h))

-- behind characters nothing is asked of the tokenizer
chars_ask : (depth : ℕ) (now c : Building) (cs : List ℕ) (a n : TreeBuilder) → TakesTokens (map AChar cs) a n → a.switch ≡ None → WithinLimits n →
    Constructs a (answered now) → tree_steps_while covered_turn depth now (map AChar cs) ≡ Some c → n.switch ≡ None
chars_ask depth now c [] a n takes quiet within stands h =
    sym (Constructs.tokenizer (takes quiet within (answered now) stands depth (answered now) refl))
chars_ask depth now c (char ∷ cs) a n takes quiet within stands h =
    let steps = first_answered depth now (AChar char) (map AChar cs) ∙ h in
    let built : Constructs n c = takes quiet within (answered now) stands depth c steps in
    sym built.tokenizer ∙ ap (option_map state_for) (chars_quiet depth (char ∷ cs) (answered now) c refl steps)

-- what a token asks for is what the definition answers
token_asks : (depth : ℕ) (now c : Building) (cs : List ℕ) (t : Token) (a n : TreeBuilder) → TakesTokens (map AChar cs ++ t ∷ []) a n → a.switch ≡ None → WithinLimits n →
    Constructs a (answered now) → tree_steps_while covered_turn depth now (map AChar cs ++ t ∷ []) ≡ Some c → option_map state_for c.tokenizer ≡ n.switch
token_asks depth now c [] t a n takes quiet within stands h =
    Constructs.tokenizer (takes quiet within (answered now) stands depth c (first_answered depth now t [] ∙ h))
token_asks depth now c (char ∷ cs) t a n takes quiet within stands h =
    Constructs.tokenizer (takes quiet within (answered now) stands depth c (first_answered depth now (AChar char) (map AChar cs ++ t ∷ []) ∙ h))

-- ---- the definition's side

same_state : (s : TextState) → state_of (state_for s) ≡ parsed_state s
same_state RcdataText = refl
same_state RawText = refl
same_state ScriptText = refl
same_state PlainText = refl

text_state : (s : TextState) → IsTextState (state_for s)
text_state RcdataText = tt
text_state RawText = tt
text_state ScriptText = tt
text_state PlainText = tt

is_answered : (o : Option TextState) (old new : Tokenizer) → new.state ≡ unwrap_or (option_map state_for o) old.state → IsAnswered (option_map parsed_state o) old new
is_answered None old new e = e
is_answered (Some s) old new e = (ap state_of e ∙ same_state s, subst IsTextState (sym e) (text_state s))

switch_is : (depth : ℕ) (beginning : Beginning) (told : List Token) (c : Building) → page_steps depth beginning told ≡ Some c →
    (page_feedback depth beginning).switch told ≡ option_map parsed_state c.tokenizer
switch_is depth beginning told c h =
    ap (option_and_then (λ (now : Building). option_map parsed_state now.tokenizer)) (while_all_steps covered_turn depth told (first_building beginning) c h)

-- whatever it answers
some_answer : (depth : ℕ) (beginning : Beginning) (told : List Token) → (o : Option TextState) × ((page_feedback depth beginning).switch told ≡ option_map parsed_state o)
some_answer depth beginning told = by (tree_steps depth (first_building beginning) told)
  where
    by : (r : Option Building) → (o : Option TextState) × (option_and_then (λ (now : Building). option_map parsed_state now.tokenizer) r ≡ option_map parsed_state o)
    by None = (None, refl)
    by (Some c) = (c.tokenizer, refl)

-- the tokens that were told are a front of all
told_front : (f : Feedback) (first : StandardState) (read rest : List ℕ) (told all : List Token) (t : Tokenizer) → HasRead f first read told t →
    ReadsWhole f first (read ++ rest) all → Later told all
told_front f first read rest told all t has whole =
    let at = has rest in
    let l : Later (told ++ map AChar at.kept) all = front_of_all f first (read ++ rest) all _ whole at.reads in
    record { more = map AChar at.kept ++ l.more; is = l.is ∙ append_assoc told (map AChar at.kept) l.more }

-- and their names are plain
told_plain : NamesArePlain → (f : Feedback) (first : StandardState) (read rest : List ℕ) (told : List Token) (t : Tokenizer) → HasRead f first read told t → list_all has_plain_names told ≡ true
told_plain names f first read rest told t has =
    let at = has rest in
    (and_parts (list_all has_plain_names told) (list_all has_plain_names (map AChar at.kept))
    (sym (list_all-append has_plain_names told (map AChar at.kept)) ∙ names f first (normalized (read ++ rest)) _ at.reads)).0

front_steps : (depth : ℕ) (beginning : Beginning) (told all : List Token) (end : Building) → page_steps depth beginning all ≡ Some end → Later told all →
    (c : Building) × (page_steps depth beginning told ≡ Some c)
front_steps depth beginning told all end h l =
    let f = first_steps covered_turn depth told l.more (first_building beginning) end (sym (ap (page_steps depth beginning) l.is) ∙ h) in (f.0, f.1)

next_steps : (depth : ℕ) (beginning : Beginning) (told more : List Token) (now c : Building) → page_steps depth beginning told ≡ Some now → page_steps depth beginning (told ++ more) ≡ Some c →
    tree_steps_while covered_turn depth now more ≡ Some c
next_steps depth beginning told more now c e h =
    let f = first_steps covered_turn depth told more (first_building beginning) c h in
    subst (λ (x : Building). tree_steps_while covered_turn depth x more ≡ Some c) (same_Some f.0 now (sym f.1 ∙ e)) f.2

last_of : (told chars : List Token) (token : Token) → list_all has_plain_names (told ++ chars ++ token ∷ []) ≡ true → list_all has_plain_names (token ∷ []) ≡ true
last_of told chars token h =
    (and_parts (list_all has_plain_names (told ++ chars)) (list_all has_plain_names (token ∷ [])) (sym (list_all-append has_plain_names (told ++ chars) (token ∷ [])) ∙ h)).1

-- ---- the answer is taken

pub record Answers (old mid new : PageReader) : Type 0 where
  pub builder : new.builder ≡ record mid.builder { switch = None }
  pub tokens : new.tokens ≡ record old.tokens { state = unwrap_or mid.builder.switch old.tokens.state; text = new.tokens.text; in_foreign = new.tokens.in_foreign }
  pub empty : text_of new.tokens ≡ []
  pub options : new.options ≡ old.options
  pub flag : Tells in_foreign mid.builder.tree new.tokens.in_foreign

pub answers_taken : (old mid between new : PageReader) → mid ≡ record old { builder = mid.builder; tokens = record old.tokens { text = mid.tokens.text } } → text_of mid.tokens ≡ [] →
    between ≡ record mid { builder = record mid.builder { switch = None }; tokens = record mid.tokens { state = unwrap_or mid.builder.switch mid.tokens.state } } →
    new ≡ record between { tokens = record between.tokens { in_foreign = new.tokens.in_foreign } } → Tells in_foreign between.builder.tree new.tokens.in_foreign → Answers old mid new
answers_taken old mid between new one empty two three flag =
    let flat : new.tokens ≡ record old.tokens { state = unwrap_or mid.builder.switch old.tokens.state; text = mid.tokens.text; in_foreign = new.tokens.in_foreign } =
    ap (λ (r : PageReader). r.tokens) three ∙ ap (λ (t : Tokenizer). record t { in_foreign = new.tokens.in_foreign })
    (ap (λ (r : PageReader). r.tokens) two ∙ ap (λ (t : Tokenizer). record t { state = unwrap_or mid.builder.switch t.state }) (ap (λ (r : PageReader). r.tokens) one)) in
    record {
      builder = ap (λ (r : PageReader). r.builder) three ∙ ap (λ (r : PageReader). r.builder) two;
      tokens = flat ∙ ap (λ text. record old.tokens { state = unwrap_or mid.builder.switch old.tokens.state; text = text; in_foreign = new.tokens.in_foreign })
          (sym (ap (λ (t : Tokenizer). t.text) flat));
      empty = ap text_of flat ∙ empty;
      options = ap (λ (r : PageReader). r.options) three ∙ ap (λ (r : PageReader). r.options) two ∙ ap (λ (r : PageReader). r.options) one;
      flag = subst (λ (s : TreeBuilder). Tells in_foreign s.tree new.tokens.in_foreign) (ap (λ (r : PageReader). r.builder) two) flag;
    }

pub within_before : (n : TreeBuilder) (new : TreeBuilder) → new ≡ record n { switch = None } → WithinLimits new → WithinLimits n
within_before n new e within = record {
  fault = sym (ap (λ (s : TreeBuilder). s.fault) e) ∙ within.fault;
  depth = sym (ap (λ (s : TreeBuilder). s.too_deep) e) ∙ within.depth;
}

-- where no characters are kept, none have to be told
wants_nothing : (t : Tokenizer) → text_of t ≡ [] → wants_characters_of t ≡ false
wants_nothing t empty = ap (λ (text : List ℕ). may_begin_cdata t.state && not (length text == 0)) empty ∙ by (may_begin_cdata t.state)
  where
    by : (b : Bool) → (b && false) ≡ false
    by true = refl
    by false = refl

-- ---- a token is told

pub token_told : (kind : TokenKind) (old mid new : PageReader) → NamesArePlain → RemembersLimits old.builder mid.builder → TellsAll (Some kind) old mid → Answers old mid new →
    TellsRead (Some kind) old new
token_told kind old mid new names remembers tells answers beginning read ended within = (
  wants_nothing new.tokens answers.empty,
  λ rest depth all end covered.
      let within_mid : WithinLimits mid.builder = within_before mid.builder new.builder answers.builder within in
      let e : HasEnded depth beginning read kind old = ended (remembers within_mid) rest depth all end covered in
      let f : Feedback = page_feedback depth beginning in
      let more : List Token = map AChar e.tokens.characters ++ e.tokens.token ∷ [] in
      let told : List Token = e.told ++ map AChar e.tokens.characters ++ e.tokens.token ∷ [] in
      let any = some_answer depth beginning told in
      let other : Tokenizer = record old.tokens { state = unwrap_or (option_map state_for any.0) old.tokens.state; text = new.tokens.text } in
      let has : HasRead f (first_state_of beginning) read told other = e.tokens.goes_on other (record {
        only = refl;
        empty = answers.empty;
        state = subst (λ answer. IsAnswered answer old.tokens other) (sym any.1) (is_answered any.0 old.tokens other refl);
      }) in
      let c = front_steps depth beginning told all end (turns_covered depth beginning all end covered.builds) (told_front f (first_state_of beginning) read rest told all other has covered.reads) in
      let plain = last_of e.told (map AChar e.tokens.characters) e.tokens.token (told_plain names f (first_state_of beginning) read rest told other has) in
      let takes : TakesTokens more old.builder mid.builder = tells e.tokens.characters e.tokens.text (e.tokens.token ∷ []) e.tokens.is plain in
      let steps = next_steps depth beginning e.told more e.now c.0 e.builds
      (ap (page_steps depth beginning) (sym (append_assoc e.told (map AChar e.tokens.characters) (e.tokens.token ∷ []))) ∙ c.1) in
      let asks = token_asks depth e.now c.0 e.tokens.characters e.tokens.token old.builder mid.builder takes e.switch within_mid e.stands steps in
      let stood : Constructs (record mid.builder { switch = None }) (answered c.0) =
      all_stand depth e.now c.0 more old.builder mid.builder takes e.switch within_mid e.stands steps in
      record {
        told = told;
        now = c.0;
        tokens = e.tokens.goes_on new.tokens (record {
          only = answers.tokens ∙ ap (λ (s : State). record old.tokens { state = s; text = new.tokens.text; in_foreign = new.tokens.in_foreign }) (sym (ap (λ (t : Tokenizer). t.state) answers.tokens));
          empty = answers.empty;
          state = subst (λ answer. IsAnswered answer old.tokens new.tokens) (sym (switch_is depth beginning told c.0 c.1))
              (is_answered c.0.tokenizer old.tokens new.tokens (ap (λ (t : Tokenizer). t.state) answers.tokens ∙ ap (λ s. unwrap_or s old.tokens.state) (sym asks)));
        });
        flag = flag_told depth beginning told c.0 c.1 mid.builder.tree stood.tree new.tokens.in_foreign answers.flag;
        builds = c.1;
        stands = subst (λ (s : TreeBuilder). Constructs s (answered c.0)) (sym answers.builder) stood;
        switch = ap (λ (s : TreeBuilder). s.switch) answers.builder;
      },
)

-- the characters before it, and then the token
one_told : (kind : TokenKind) (t : Tokenizer) (tokens : List Token) → Told (Some kind) t tokens → (token : Token) × (tokens ≡ token ∷ [])
one_told kind.Comment t tokens told = (AComment told.0, told.1)
one_told kind.Doctype t tokens told = (ADoctype told.0, told.1)
one_told kind.Tag t tokens told = (token_of told.0, told.1)

told_by : (kind : TokenKind) (t u : Tokenizer) (tokens : List Token) → Told (Some kind) t tokens → Told (Some kind) (record t { text = u.text }) tokens
told_by kind.Comment t u tokens told = told
told_by kind.Doctype t u tokens told = told
told_by kind.Tag t u tokens told = told

pub token_and_text : (kind : TokenKind) (old mid new : PageReader) → mid ≡ record old { builder = mid.builder; tokens = record old.tokens { text = mid.tokens.text } } →
    ((cs : List ℕ) → text_of old.tokens ≡ encode_utf8_all cs → TakesTokens (map AChar cs) old.builder mid.builder) → RemembersLimits mid.builder new.builder →
    ((token : Token) → Told (Some kind) mid.tokens (token ∷ []) → has_plain_names token ≡ true → TakesTokens (token ∷ []) mid.builder new.builder) → TellsAll (Some kind) old new
token_and_text kind old mid new only chars remembers builds cs text tokens told plain =
    let one = one_told kind old.tokens tokens told in
    let mid_told : Told (Some kind) mid.tokens (one.0 ∷ []) = subst (λ (t : Tokenizer). Told (Some kind) t (one.0 ∷ [])) (sym (ap (λ (r : PageReader). r.tokens) only))
    (told_by kind old.tokens mid.tokens (one.0 ∷ []) (subst (Told (Some kind) old.tokens) one.1 told)) in
    let named = (and_parts (has_plain_names one.0) true (subst (λ ts. list_all has_plain_names ts ≡ true) one.1 plain)).0 in
    subst (λ ts. TakesTokens (map AChar cs ++ ts) old.builder new.builder) (sym one.1)
    (both_taken old.builder mid.builder new.builder cs (one.0 ∷ []) (chars cs text) remembers (builds one.0 mid_told named))

-- ---- characters are told

pub characters_told : (old mid new : PageReader) → CharactersAreTold → RemembersLimits old.builder mid.builder →
    ((cs : List ℕ) → text_of old.tokens ≡ encode_utf8_all cs → TakesTokens (map AChar cs) old.builder mid.builder) → Answers old mid new → TellsRead None old new
characters_told old mid new law remembers tells answers beginning read has within = (
  wants_nothing new.tokens answers.empty,
  λ rest depth all end covered.
      let within_mid : WithinLimits mid.builder = within_before mid.builder new.builder answers.builder within in
      let e : IsBehind depth beginning read old = has (remembers within_mid) rest depth all end covered in
      let f : Feedback = page_feedback depth beginning in
      let at = e.tokens rest in
      let cs : List ℕ = at.kept in
      let told : List Token = e.told ++ map AChar cs in
      let c = front_steps depth beginning told all end (turns_covered depth beginning all end covered.builds) (front_of_all f (first_state_of beginning) (read ++ rest) all _ covered.reads at.reads) in
      let steps = next_steps depth beginning e.told (map AChar cs) e.now c.0 e.builds c.1 in
      let takes : TakesTokens (map AChar cs) old.builder mid.builder = tells cs at.text in
      let none : mid.builder.switch ≡ None = chars_ask depth e.now c.0 cs old.builder mid.builder takes e.switch within_mid e.stands steps in
      let stood : Constructs (record mid.builder { switch = None }) (answered c.0) =
      all_stand depth e.now c.0 (map AChar cs) old.builder mid.builder takes e.switch within_mid e.stands steps in
      record {
        told = told;
        now = c.0;
        tokens = law f (first_state_of beginning) read e.told old.tokens new.tokens e.tokens (record {
          only = answers.tokens ∙ ap (λ s. record old.tokens { state = unwrap_or s old.tokens.state; text = new.tokens.text; in_foreign = new.tokens.in_foreign }) none;
          empty = answers.empty;
        }) cs at.text;
        flag = flag_told depth beginning told c.0 c.1 mid.builder.tree stood.tree new.tokens.in_foreign answers.flag;
        builds = c.1;
        stands = subst (λ (s : TreeBuilder). Constructs s (answered c.0)) (sym answers.builder) stood;
        switch = ap (λ (s : TreeBuilder). s.switch) answers.builder;
      },
)

-- characters don't have to be told
pub none_told : (r : PageReader) → wants_characters_of r.tokens ≡ false → TellsRead None r r
none_told r wants beginning read has within = (wants, has within)

-- ---- the tokenizer reads on

ended_as : (told kind : Option TokenKind) → kind ≡ told_or told None → told ≡ kind
ended_as None kind e = sym e
ended_as (Some one) kind e = sym e

covered_on : (depth : ℕ) (beginning : Beginning) (read more rest : List ℕ) (all : List Token) (end : Building) →
    IsRead depth beginning ((read ++ more) ++ rest) all end → IsRead depth beginning (read ++ (more ++ rest)) all end
covered_on depth beginning read more rest all end covered = subst (λ text. IsRead depth beginning text all end) (append_assoc read more rest) covered

read_on : (kind : Option TokenKind) (old new : PageReader) → TextsAreRead → TokensAreRead → new.builder ≡ old.builder →
    (more : List ℕ) → ReadsText old.tokens new.tokens more kind →
    (beginning : Beginning) (read : List ℕ) → HasBuilt beginning read old → HasBuiltUpTo kind beginning (read ++ more) new
read_on None old new texts tokens builder more reads beginning read has = λ within rest depth all end covered.
    let whole = covered_on depth beginning read more rest all end covered in
    let built = has (subst WithinLimits builder within) in
    let e : IsBehind depth beginning read old = built.1 (more ++ rest) depth all end whole in
    record {
      told = e.told;
      now = e.now;
      tokens = texts (page_feedback depth beginning) (first_state_of beginning) read more e.told old.tokens new.tokens (honest depth (first_building beginning))
          (record { flag = e.flag; wants = built.0 }) e.tokens reads;
      flag = e.flag ∙ sym reads.in_foreign;
      builds = e.builds;
      stands = subst (λ (s : TreeBuilder). Constructs s (answered e.now)) (sym builder) e.stands;
      switch = ap (λ (s : TreeBuilder). s.switch) builder ∙ e.switch;
    }
read_on (Some kind) old new texts tokens builder more reads beginning read has = λ within rest depth all end covered.
    let whole = covered_on depth beginning read more rest all end covered in
    let built = has (subst WithinLimits builder within) in
    let e : IsBehind depth beginning read old = built.1 (more ++ rest) depth all end whole in
    record {
      told = e.told;
      now = e.now;
      tokens = tokens (page_feedback depth beginning) (first_state_of beginning) read more e.told old.tokens new.tokens kind (honest depth (first_building beginning))
          (record { flag = e.flag; wants = built.0 }) e.tokens reads;
      builds = e.builds;
      stands = subst (λ (s : TreeBuilder). Constructs s (answered e.now)) (sym builder) e.stands;
      switch = ap (λ (s : TreeBuilder). s.switch) builder ∙ e.switch;
    }

-- a call reads up to a token, and tells what it read
pub some_read : (kind : Option TokenKind) (old mid new : PageReader) (text rest : List ℕ) → TextsAreRead → TokensAreRead → mid ≡ record old { tokens = mid.tokens } →
    ReadsUpTo old.tokens mid.tokens text rest None kind → TellsRead kind mid new → ReadsPiece text rest old new
some_read kind old mid new text rest texts tokens only up tells = record {
  more = up.read;
  cut = up.cut;
  reads = λ beginning read has.
      tells beginning (read ++ up.read) (read_on kind old mid texts tokens (ap (λ (r : PageReader). r.builder) only) up.read
      (subst (λ k. ReadsText old.tokens mid.tokens up.read k) (ended_as up.told kind up.kind) up.reads) beginning read has);
}

-- nothing is read
pub none_read : (text : List ℕ) (r : PageReader) → ReadsPiece text text r r
none_read text r = record { more = []; cut = refl; reads = λ beginning read has. subst (λ all. HasBuilt beginning all r) (sym (append-nil read)) has }

-- one piece after another
pub pieces_read : (text mid rest : List ℕ) (a b c : PageReader) → ReadsPiece text mid a b → ReadsPiece mid rest b c → ReadsPiece text rest a c
pieces_read text mid rest a b c one other = record {
  more = one.more ++ other.more;
  cut = one.cut ∙ ap (λ t. encode_utf8_all one.more ++ t) other.cut ∙ sym (append_assoc (encode_utf8_all one.more) (encode_utf8_all other.more) rest)
      ∙ ap (λ t. t ++ rest) (sym (encodes-append one.more other.more));
  reads = λ beginning read has. subst (λ all. HasBuilt beginning all c) (append_assoc read one.more other.more) (other.reads beginning (read ++ one.more) (one.reads beginning read has));
}

-- the pieces of a call are those of the next one, too
pub some_on : (text mid rest : List ℕ) (a b c : PageReader) → ReadsSome text mid a b → RemembersLimits b.builder c.builder → ReadsSome mid rest b c → ReadsSome text rest a c
some_on text mid rest a b c one remembers other within = pieces_read text mid rest a b c (one (remembers within)) (other within)

-- nothing is left
pub none_left : (text rest : List ℕ) (a b : PageReader) → nat_eq (length rest) 0 ≡ true → ReadsSome text rest a b → ReadsSome text [] a b
none_left text rest a b e = subst (λ left. ReadsSome text left a b) (nil_from_length rest (eqb-true (length rest) 0 e))

pub piece_fed : (piece cs : List ℕ) (old new : PageReader) (beginning : Beginning) (read : List ℕ) → ReadsSome piece [] old new → RemembersLimits old.builder new.builder →
    piece ≡ encode_utf8_all cs → HasBuilt beginning read old → HasBuilt beginning (read ++ cs) new
piece_fed piece cs old new beginning read reads remembers spelt has within =
    let p : ReadsPiece piece [] old new = reads within in
    let same : p.more ≡ cs = encodes_same p.more cs (sym (append-nil (encode_utf8_all p.more)) ∙ sym p.cut ∙ spelt) in
    subst (λ more. HasBuilt beginning (read ++ more) new) same (p.reads beginning read has) within

pub on_ok : {T E : Type 0} → (r : Result T E) (A : Type 0) → A → OnOk r A
on_ok (Ok x) A a = a
on_ok (Err e) A a = tt

-- ---- the end of the page

comment_last : (old new : PageReader) → TellsAll (Some kind.Comment) old new → TellsLast (Some kind.Comment) old new
comment_last old new tells cs text tokens told = tells cs text tokens told (ap (list_all has_plain_names) told.1)

doctype_last : (old new : PageReader) → TellsAll (Some kind.Doctype) old new → TellsLast (Some kind.Doctype) old new
doctype_last old new tells cs text tokens told = tells cs text tokens told (ap (list_all has_plain_names) told.1)

pub none_last : (old new : PageReader) → ((cs : List ℕ) → text_of old.tokens ≡ encode_utf8_all cs → TakesTokens (map AChar cs) old.builder new.builder) → TellsLast None old new
none_last old new tells cs text tokens told = chars_alone old.builder new.builder cs tokens told (tells cs text)

-- a token that is no tag
pub token_last : (one : TokenKind) (old new : PageReader) → Some one ≢ Some kind.Tag → TellsAll (Some one) old new → TellsLast (Some one) old new
token_last kind.Comment old new other tells = comment_last old new tells
token_last kind.Doctype old new other tells = doctype_last old new tells
token_last kind.Tag old new other tells = absurd (other refl)

pub rest_told : (kind : Option TokenKind) (old mid last new : PageReader) → PagesEnd → mid ≡ record old { tokens = mid.tokens } → EndsPage old.tokens mid.tokens kind →
    RemembersLimits mid.builder last.builder → TellsLast kind mid last → new.builder ≡ record last.builder { switch = None } → ReadsRest old new
rest_told kind old mid last new law only ends remembers tells builder beginning read has within depth all end covered =
    let within_last : WithinLimits last.builder = within_before last.builder new.builder builder within in
    let same : mid.builder ≡ old.builder = ap (λ (r : PageReader). r.builder) only in
    let whole : IsRead depth beginning (read ++ []) all end = subst (λ text. IsRead depth beginning text all end) (sym (append-nil read)) covered in
    let e : IsBehind depth beginning read old = (has (subst WithinLimits same (remembers within_last))).1 [] depth all end whole in
    let f : Feedback = page_feedback depth beginning in
    let last_told = law f (first_state_of beginning) read e.told old.tokens mid.tokens kind (honest depth (first_building beginning)) e.tokens ends in
    let more : List Token = map AChar last_told.characters ++ last_told.tokens in
    let told : List Token = e.told ++ map AChar last_told.characters ++ last_told.tokens in
    let are : all ≡ told ++ AnEof ∷ [] = one_list f (first_state_of beginning) read (told ++ AnEof ∷ []) all last_told.whole covered.reads in
    let c = front_steps depth beginning told all end (turns_covered depth beginning all end covered.builds) (record { more = AnEof ∷ []; is = are }) in
    let takes : TakesTokens more mid.builder last.builder = tells last_told.characters last_told.text last_told.tokens last_told.is in
    record {
      told = told;
      now = c.0;
      are = are;
      builds = c.1;
      stands = subst (λ (s : TreeBuilder). Constructs s (answered c.0)) (sym builder)
          (all_stand depth e.now c.0 more mid.builder last.builder takes (ap (λ (s : TreeBuilder). s.switch) same ∙ e.switch) within_last
          (subst (λ (s : TreeBuilder). Constructs s (answered e.now)) (sym same) e.stands) (next_steps depth beginning e.told more e.now c.0 e.builds
          (ap (page_steps depth beginning) (sym (append_assoc e.told (map AChar last_told.characters) last_told.tokens)) ∙ c.1)));
      switch = ap (λ (s : TreeBuilder). s.switch) builder;
    }

-- and then the end of the file
pub end_told : (old mid new : PageReader) → ReadsRest old mid → RemembersLimits mid.builder new.builder → TakesTokens (AnEof ∷ []) mid.builder new.builder → ReadsEnd old new
end_told old mid new rest remembers takes beginning read has within depth all end covered =
    let b = rest beginning read has (remembers within) depth all end covered in
    let steps = next_steps depth beginning b.told (AnEof ∷ []) b.now end b.builds (sym (ap (page_steps depth beginning) b.are) ∙ turns_covered depth beginning all end covered.builds) in
    record {
      told = b.told;
      are = b.are;
      stands = takes b.switch within (answered b.now) b.stands depth end (first_answered depth b.now AnEof [] ∙ steps);
    }

-- and then parse errors are noted, which change nothing within the limits
pub ended_noted : (old mid new : PageReader) → (WithinLimits new.builder → new.builder ≡ mid.builder) → ReadsEnd old mid → ReadsEnd old new
ended_noted old mid new same ends beginning read has within depth all end covered =
    subst (λ (s : TreeBuilder). IsAtEnd all end s) (sym (same within)) (ends beginning read has (subst WithinLimits (same within) within) depth all end covered)

-- ---- the beginning

-- where a text begins, the tokenizer isn't switched
first_answered_is : (beginning : Beginning) → first_building beginning ≡ answered (first_building beginning)
first_answered_is (OfPage scripting) = refl
first_answered_is (OfFragment scripting around) = refl

pub text_begun : (beginning : Beginning) (r : PageReader) → PagesBegin → r.tokens.after_return ≡ false → text_of r.tokens ≡ [] →
    Holds r.tokens [] (start_in (first_state_of beginning)) → is_foreign_now (first_building beginning) ≡ r.tokens.in_foreign →
    r.builder.switch ≡ None → Constructs r.builder (first_building beginning) → HasBuilt beginning [] r
text_begun beginning r law after_return empty holds flag switch stands within = (
  wants_nothing r.tokens empty,
  λ rest depth all end covered. record {
    told = [];
    now = first_building beginning;
    tokens = law (page_feedback depth beginning) (first_state_of beginning) r.tokens after_return empty holds;
    flag = flag;
    builds = refl;
    stands = subst (Constructs r.builder) (first_answered_is beginning) stands;
    switch = switch;
  },
)

pub page_begun : (scripting : Bool) (r : PageReader) → PagesBegin → BeginsPage r.tokens → text_of r.tokens ≡ [] → r.builder.switch ≡ None →
    Constructs r.builder (start scripting) → HasBuilt (OfPage scripting) [] r
page_begun scripting r law begins empty switch stands =
    text_begun (OfPage scripting) r law begins.after_return empty begins.holds (sym begins.in_foreign) switch stands
