-- Characters as they stand in a page: line ends, and one text after another.
use Rattle.std.specs.Prelude.{◌≡◌, ℕ, ◌==◌, ◌&&◌, Bool, true, false, cond, not, List, [], ◌∷◌, ◌++◌, ◌⊎◌, map, Option, None, Some, Result, Ok, Err, encode_utf8, refl}
use Rattle.std.specs.List.{list_all}
use Rattle.std.specs.Str.{encode_utf8_all}
use Rattle.std.proofs.Common.{inl, inr}
use Rattle.std.proofs.lemmas.Bool.{and_parts, eqb-true, true≢false}
use Rattle.std.proofs.lemmas.List.{append-nil, append_assoc}
use Rattle.std.proofs.lemmas.Str.{encodes-append}
use mathlib.Core.Path.{◌∙◌, sym, ap, subst}
use Rattle.standard_tokens.specs.Machine.{Machine, normalized_behind, step, token_of}
use Rattle.standard_tokens.specs.Tokens.{Token as StandardToken, AChar, AComment, ADoctype}
use Rattle.page_tokens.specs.Reading.{text_of}
use Rattle.page_tokens.specs.Standard.{AllowsReference, AsksFlag, Behind, Holds, Stands, StepsAsked, Told}
use Rattle.page_tokens.specs.StandardPages.{BehindText, Comes, here, Finishes, FollowsAnywhere, FollowsText, ReadsAlike, ReadsAnywhere, ReadsOn, ReadsText, ReadsUpTo, line_end_of, told_or}
use Rattle.page_tokens.specs.StandardStates.{may_begin_cdata}
use Rattle.page_tokens.specs.TextStates.{wants_characters_of}
use Rattle.page_tokens.specs.declared.token.TokenKind.{TokenKind}
use Rattle.page_tokens.specs.declared.token.TokenKind.TheVariants as token
use Rattle.page_tokens.specs.declared.tokenizer.Tokenizer.{Tokenizer}
use Rattle.page_tokens.specs.declared.tokenizer.state.State.{State}
use Rattle.page_tokens.specs.declared.tokenizer.state.State.TheVariants as state
use Rattle.page_tokens.proofs.FlagAsked.{asked, finish_behind, from_goes, none_kept}
use Rattle.page_tokens.proofs.LastSteps.{EmitsBy, IsOne, last_step, tag_is}
use Rattle.page_tokens.proofs.Placed.{holds_on}
use Rattle.page_tokens.proofs.ReadAhead.{ahead_lacks}

-- ---- one character

second_skipped : (b : Bool) (c : ℕ) (rest : List ℕ) → (b && c == 10) ≡ true → normalized_behind b (c ∷ rest) ≡ normalized_behind false rest
second_skipped true c rest e = subst (λ d. normalized_behind true (d ∷ rest) ≡ normalized_behind false rest) (sym (eqb-true c 10 e)) refl
second_skipped false c rest e = absurd (cc)

letter_kept : (b : Bool) (c : ℕ) (rest : List ℕ) → (b && c == 10) ≡ false → normalized_behind b (c ∷ rest) ≡ line_end_of c ∷ normalized_behind (c == 13) rest
letter_kept b c rest e =
    subst (λ y. cond (c == 13) (10 ∷ normalized_behind true rest) (cond y (normalized_behind false rest) (c ∷ normalized_behind false rest)) ≡ line_end_of c ∷ normalized_behind (c == 13) rest) (sym e) (pick (c == 13))
  where
    pick : (x : Bool) → cond x (10 ∷ normalized_behind true rest) (c ∷ normalized_behind false rest) ≡ cond x 10 c ∷ normalized_behind x rest
    pick true = refl
    pick false = refl

-- the line feed of a line end whose carriage return was read
pub pair_arm : (old : Tokenizer) (letter : ℕ) → (old.after_return && letter == 10) ≡ true → old.refused ≡ false → ReadsText old (record old { after_return = false }) (letter ∷ []) None
pair_arm old letter second memory = record {
  memory = memory;
  in_foreign = refl;
  reads = λ wants flag flag_is kept spelled m ahead rest holds. record {
    machine = m;
    ahead' = ahead;
    all = kept;
    tokens = [];
    goes = subst (λ text. Comes flag kept m (ahead ++ text) kept m (ahead ++ normalized_behind false rest)) (sym (second_skipped old.after_return letter rest second)) here;
    holds = holds_on old (record old { after_return = false }) ahead m refl holds;
    text = spelled;
    ends = refl;
  };
}

-- a token that ends is one, and no character
pub told_one : (kind : TokenKind) (t : Tokenizer) (tokens : List StandardToken) → Told (Some kind) t tokens → IsOne tokens
told_one token.Comment t tokens told = record { token = AComment told.0; are = told.1; no_char = refl }
told_one token.Doctype t tokens told = record { token = ADoctype told.0; are = told.1; no_char = refl }
told_one token.Tag t tokens told = record { token = token_of told.0; are = told.1; no_char = tag_is told.0 }

-- the characters that are emitted are kept
all_kept : (before after : List ℕ) (kept cs : List ℕ) → before ≡ encode_utf8_all kept → after ≡ before ++ encode_utf8_all cs → after ≡ encode_utf8_all (kept ++ cs)
all_kept before after kept cs one other = other ∙ ap (λ e. e ++ encode_utf8_all cs) one ∙ sym (encodes-append kept cs)

-- no token ends
come_behind : (flag : List ℕ → Bool) (kept : List ℕ) (old new : Tokenizer) (read : List ℕ) (m : Machine) (ahead rest : List ℕ) (to : Behind old new read None m ahead rest) →
    Finishes flag kept m (ahead ++ read ++ rest) (kept ++ to.characters) to.tokens to.machine (to.ahead' ++ rest)
come_behind flag kept old new read m ahead rest to =
    subst (λ ts. Finishes flag kept m (ahead ++ read ++ rest) (kept ++ to.characters) ts to.machine (to.ahead' ++ rest)) (sym to.ends)
    (from_goes flag kept to.characters to.goes (ap (λ ts. map AChar to.characters ++ ts) to.ends ∙ append-nil (map AChar to.characters)))

-- it is emitted by the last step, where one character is read
last_of : (flag : List ℕ → Bool) (kept : List ℕ) (old new : Tokenizer) (c : ℕ) (told : Option TokenKind) (m : Machine) (ahead rest : List ℕ) → Holds old ahead m → (to : Behind old new (c ∷ []) told m ahead rest) →
    Finishes flag kept m (ahead ++ (c ∷ []) ++ rest) (kept ++ to.characters) to.tokens to.machine (to.ahead' ++ rest)
last_of flag kept old new c None m ahead rest holds to = come_behind flag kept old new (c ∷ []) m ahead rest to
last_of flag kept old new c (Some kind) m ahead rest holds to =
    let one : IsOne to.tokens = told_one kind new to.tokens to.ends in
    let all : List ℕ = kept ++ to.characters in
    let last : EmitsBy (flag all) m (ahead ++ (c ∷ []) ++ rest) to.characters one.token to.machine (to.ahead' ++ rest) =
    last_step ahead c rest to.ahead' to.characters one.token to.goes (ap (λ ts. map AChar to.characters ++ ts) one.are) one.no_char (ahead_lacks old ahead m holds) in
    subst (λ ts. Finishes flag kept m (ahead ++ (c ∷ []) ++ rest) all ts to.machine (to.ahead' ++ rest)) (sym one.are) (record {
      before = last.before;
      left = last.left;
      comes = from_goes flag kept to.characters last.goes refl;
      runs = last.runs;
      tokens = last.tokens;
      machine = last.machine;
      rest_is = last.rest_is;
      leads = last.leads;
    })

-- a character in front of what follows, as it stands in the page
in_page : (after_return : Bool) (letter c : ℕ) (ahead rest : List ℕ) → (after_return && letter == 10) ≡ false → c ≡ line_end_of letter →
    ahead ++ (c ∷ []) ++ normalized_behind (letter == 13) rest ≡ ahead ++ normalized_behind after_return (letter ∷ rest)
in_page after_return letter c ahead rest second c_is =
    let later : List ℕ = normalized_behind (letter == 13) rest in
    append_assoc ahead (c ∷ []) later ∙ ap (λ d. ahead ++ d ∷ later) c_is ∙ ap (λ t. ahead ++ t) (sym (letter_kept after_return letter rest second))

letter_read : (old new : Tokenizer) (letter c : ℕ) (told : Option TokenKind) → (old.after_return && letter == 10) ≡ false → c ≡ line_end_of letter → FollowsAnywhere (record old { after_return = letter == 13 }) new (c ∷ []) told →
    ReadsOn old new (letter ∷ []) told
letter_read old new letter c told second c_is follows =
    record { memory = follows.memory; in_foreign = follows.leaves.in_foreign; reads = λ flag flag_is kept spelled m ahead rest holds. go flag kept spelled m ahead rest holds }
  where
    mid : Tokenizer
    mid = record old { after_return = letter == 13 }

    go : (flag : List ℕ → Bool) (kept : List ℕ) → text_of old ≡ encode_utf8_all kept → (m : Machine) (ahead rest : List ℕ) → Holds old ahead m → BehindText flag kept old new (letter ∷ []) told m ahead rest
    go flag kept spelled m ahead rest holds =
        let later : List ℕ = normalized_behind (letter == 13) rest in
        let held : Holds mid ahead m = holds_on old mid ahead m refl holds in
        let to : Behind mid new (c ∷ []) told m ahead later = follows.reads m ahead later held in
        let all : List ℕ = kept ++ to.characters in
        record {
          machine = to.machine;
          ahead' = to.ahead';
          all = all;
          tokens = to.tokens;
          goes = subst (λ x. Finishes flag kept m (ahead ++ normalized_behind old.after_return (letter ∷ rest)) all to.tokens to.machine (to.ahead' ++ normalized_behind x rest)) (sym follows.leaves.after_return)
              (subst (λ t. Finishes flag kept m t all to.tokens to.machine (to.ahead' ++ later)) (in_page old.after_return letter c ahead rest second c_is) (last_of flag kept mid new c told m ahead later held to));
          holds = to.holds;
          text = all_kept (text_of old) (text_of new) kept to.characters spelled to.text;
          ends = to.ends;
        }

-- where `[CDATA[` may be being read, the tokenizer stands in no reference
no_reference : (s : State) → may_begin_cdata s ≡ true → AllowsReference s → ⊥
no_reference state.Data begun allows = true≢false (sym begun)
no_reference state.Rcdata begun allows = true≢false (sym begun)
no_reference (state.Attribute inner) begun allows = true≢false (sym begun)
no_reference (state.Declaration seen) begun allows = allows
no_reference state.Rawtext begun allows = allows
no_reference state.Script begun allows = allows
no_reference state.Plaintext begun allows = allows
no_reference (state.Cdata inner) begun allows = allows
no_reference (state.Tag inner) begun allows = allows
no_reference (state.EndTag raw inner) begun allows = allows
no_reference (state.ScriptData inner) begun allows = allows
no_reference (state.Comment inner) begun allows = allows
no_reference (state.Doctype inner) begun allows = allows

stands_there : (t : Tokenizer) (ahead : List ℕ) (m : Machine) → may_begin_cdata t.state ≡ true → Holds t ahead m → Stands t ahead m
stands_there t ahead m begun (inl stands) = stands
stands_there t ahead m begun (inr inside) = absurd (no_reference t.state begun inside.place)

-- the flag is asked: no characters are kept, so that it is tree construction's
asked_read : (old new : Tokenizer) (letter c : ℕ) (told : Option TokenKind) → (old.after_return && letter == 10) ≡ false → c ≡ line_end_of letter → AsksFlag (record old { after_return = letter == 13 }) new (c ∷ []) told →
    ReadsText old new (letter ∷ []) told
asked_read old new letter c told second c_is asks =
    record { memory = asks.memory; in_foreign = asks.leaves.in_foreign; reads = λ wants flag flag_is kept spelled m ahead rest holds. go wants flag flag_is kept spelled m ahead rest holds }
  where
    mid : Tokenizer
    mid = record old { after_return = letter == 13 }

    go : wants_characters_of old ≡ false → (flag : List ℕ → Bool) → flag [] ≡ old.in_foreign → (kept : List ℕ) → text_of old ≡ encode_utf8_all kept → (m : Machine) (ahead rest : List ℕ) → Holds old ahead m →
        BehindText flag kept old new (letter ∷ []) told m ahead rest
    go wants flag flag_is kept spelled m ahead rest holds =
        let later : List ℕ = normalized_behind (letter == 13) rest in
        let stands : Stands mid ahead m = stands_there mid ahead m asks.begun (holds_on old mid ahead m refl holds) in
        let at : StepsAsked old.in_foreign new m (ahead ++ (c ∷ []) ++ later) later = asks.steps m ahead later stands in
        let n : Machine = (step old.in_foreign m (ahead ++ (c ∷ []) ++ later)).machine in
        let comes : Comes flag kept m (ahead ++ (c ∷ []) ++ later) kept n later = asked flag old.in_foreign kept new (none_kept old kept asks.begun wants spelled) flag_is at in
        record {
          machine = n;
          ahead' = [];
          all = kept;
          tokens = [];
          goes = subst (λ x. Comes flag kept m (ahead ++ normalized_behind old.after_return (letter ∷ rest)) kept n (normalized_behind x rest)) (sym asks.leaves.after_return)
              (subst (λ t. Comes flag kept m t kept n later) (in_page old.after_return letter c ahead rest second c_is) comes);
          holds = inl at.stands;
          text = asks.text ∙ spelled;
          ends = subst (λ k. Told k new []) (sym asks.told_is) refl;
        }

pub of_any : (old new : Tokenizer) (read : List ℕ) (told : Option TokenKind) → ReadsOn old new read told → ReadsText old new read told
of_any old new read told on = record { memory = on.memory; in_foreign = on.in_foreign; reads = λ wants. on.reads }

-- any other character
pub letter_arm : {E : Type 0} (old new : Tokenizer) (letter c : ℕ) (result : Result (Option TokenKind) E) → (old.after_return && letter == 10) ≡ false → c ≡ line_end_of letter →
    ReadsAnywhere (record old { after_return = letter == 13 }) new (c ∷ []) result → FollowsText old new (letter ∷ []) result
letter_arm old new letter c (Ok told) second c_is follows = λ memory. go (follows memory)
  where
    go : FollowsAnywhere (record old { after_return = letter == 13 }) new (c ∷ []) told ⊎ AsksFlag (record old { after_return = letter == 13 }) new (c ∷ []) told → ReadsText old new (letter ∷ []) told
    go (inl one) = of_any old new (letter ∷ []) told (letter_read old new letter c told second c_is one)
    go (inr asks) = asked_read old new letter c told second c_is asks
letter_arm old new letter c (Err e) second c_is follows = tt

-- ---- one text after another

pub no_text : (old : Tokenizer) → old.refused ≡ false → ReadsOn old old [] None
no_text old memory = record {
  memory = memory;
  in_foreign = refl;
  reads = λ flag flag_is kept spelled m ahead rest holds.
      record { machine = m; ahead' = ahead; all = kept; tokens = []; goes = here; holds = holds; text = spelled; ends = refl };
}

-- a text in which no token ends, and then another one
then_alike : (a b c : Tokenizer) (read more : List ℕ) (told : Option TokenKind) → b.in_foreign ≡ a.in_foreign → ReadsAlike a b read None → ReadsAlike b c more told → ReadsAlike a c (read ++ more) told
then_alike a b c read more told same first second flag flag_is kept spelled m ahead rest holds =
    let to : BehindText flag kept a b read None m ahead (more ++ rest) = first flag flag_is kept spelled m ahead (more ++ rest) holds in
    let on : BehindText flag to.all b c more told to.machine to.ahead' rest = second flag (flag_is ∙ sym same) to.all to.text to.machine to.ahead' rest to.holds in
    let mid : List ℕ = to.ahead' ++ normalized_behind b.after_return (more ++ rest) in
    let last : List ℕ = on.ahead' ++ normalized_behind c.after_return rest in
    let begins : Comes flag kept m (ahead ++ normalized_behind a.after_return (read ++ (more ++ rest))) to.all to.machine mid =
    subst (λ ts. Finishes flag kept m (ahead ++ normalized_behind a.after_return (read ++ (more ++ rest))) to.all ts to.machine mid) to.ends to.goes in
    record {
      machine = on.machine;
      ahead' = on.ahead';
      all = on.all;
      tokens = on.tokens;
      goes = subst (λ t. Finishes flag kept m (ahead ++ normalized_behind a.after_return t) on.all on.tokens on.machine last) (sym (append_assoc read more rest)) (finish_behind on.all on.machine last on.tokens begins on.goes);
      holds = on.holds;
      text = on.text;
      ends = on.ends;
    }

pub then_on_text : (a b c : Tokenizer) (read more : List ℕ) (told : Option TokenKind) → ReadsOn a b read None → ReadsOn b c more told → ReadsOn a c (read ++ more) told
then_on_text a b c read more told first second =
    record { memory = first.memory; in_foreign = second.in_foreign ∙ first.in_foreign; reads = then_alike a b c read more told first.in_foreign first.reads second.reads }

-- where characters don't have to be told between them, if that is so before
pub then_text_if : (a b c : Tokenizer) (read more : List ℕ) (told : Option TokenKind) → ReadsText a b read None → (wants_characters_of a ≡ false → wants_characters_of b ≡ false) → ReadsText b c more told → ReadsText a c (read ++ more) told
then_text_if a b c read more told first between second =
    record { memory = first.memory; in_foreign = second.in_foreign ∙ first.in_foreign; reads = λ wants. then_alike a b c read more told first.in_foreign (first.reads wants) (second.reads (between wants)) }

pub then_text : (a b c : Tokenizer) (read more : List ℕ) (told : Option TokenKind) → ReadsText a b read None → wants_characters_of b ≡ false → ReadsText b c more told → ReadsText a c (read ++ more) told
then_text a b c read more told first between second = then_text_if a b c read more told first (λ wants. between) second

-- the second call stops itself where characters have to be told
pub then_any : (a b c : Tokenizer) (read more : List ℕ) (told : Option TokenKind) → ReadsText a b read None → ReadsOn b c more told → ReadsText a c (read ++ more) told
then_any a b c read more told first second =
    record { memory = first.memory; in_foreign = second.in_foreign ∙ first.in_foreign; reads = λ wants. then_alike a b c read more told first.in_foreign (first.reads wants) second.reads }

-- ---- texts without a carriage return

as_it_stands : (cs rest : List ℕ) → list_all (λ c. not (c == 13)) cs ≡ true → normalized_behind false (cs ++ rest) ≡ cs ++ normalized_behind false rest
as_it_stands [] rest none = refl
as_it_stands (c ∷ cs) rest none =
    let parts : (not (c == 13) ≡ true) × (list_all (λ c. not (c == 13)) cs ≡ true) = and_parts (not (c == 13)) (list_all (λ c. not (c == 13)) cs) none in
    subst (λ x. cond x (10 ∷ normalized_behind true (cs ++ rest)) (c ∷ normalized_behind false (cs ++ rest)) ≡ c ∷ (cs ++ normalized_behind false rest)) (sym (no_true (c == 13) parts.0)) (ap (λ t. c ∷ t) (as_it_stands cs rest parts.1))
  where
    no_true : (x : Bool) → not x ≡ true → x ≡ false
    no_true true e = absurd (cc)
    no_true false e = refl

-- one character is read so
pub alone_read : (old new : Tokenizer) (c : ℕ) (told : Option TokenKind) → old.after_return ≡ false → (c == 13) ≡ false → FollowsAnywhere old new (c ∷ []) told → ReadsOn old new (c ∷ []) told
alone_read old new c told plain other follows =
    letter_read old new c c told (ap (λ x. x && c == 10) plain) (sym (ap (λ x. cond x 10 c) other))
    (subst (λ (t : Tokenizer). FollowsAnywhere t new (c ∷ []) told) (ap (λ x. record old { after_return = x }) (plain ∙ sym other)) follows)

pub without_returns : (old new : Tokenizer) (read : List ℕ) → old.after_return ≡ false → list_all (λ c. not (c == 13)) read ≡ true → FollowsAnywhere old new read None → ReadsOn old new read None
without_returns old new read plain none follows =
    record { memory = follows.memory; in_foreign = follows.leaves.in_foreign; reads = λ flag flag_is kept spelled m ahead rest holds. go flag kept spelled m ahead rest holds }
  where
    go : (flag : List ℕ → Bool) (kept : List ℕ) → text_of old ≡ encode_utf8_all kept → (m : Machine) (ahead rest : List ℕ) → Holds old ahead m → BehindText flag kept old new read None m ahead rest
    go flag kept spelled m ahead rest holds =
        let later : List ℕ = normalized_behind false rest in
        let to : Behind old new read None m ahead later = follows.reads m ahead later holds in
        let all : List ℕ = kept ++ to.characters in
        let text : ahead ++ read ++ later ≡ ahead ++ normalized_behind old.after_return (read ++ rest) =
        append_assoc ahead read later ∙ ap (λ t. ahead ++ t) (sym (as_it_stands read rest none)) ∙ ap (λ x. ahead ++ normalized_behind x (read ++ rest)) (sym plain) in
        record {
          machine = to.machine;
          ahead' = to.ahead';
          all = all;
          tokens = to.tokens;
          goes = subst (λ x. Finishes flag kept m (ahead ++ normalized_behind old.after_return (read ++ rest)) all to.tokens to.machine (to.ahead' ++ normalized_behind x rest)) (sym (follows.leaves.after_return ∙ plain))
              (subst (λ t. Finishes flag kept m t all to.tokens to.machine (to.ahead' ++ later)) text (come_behind flag kept old new read m ahead later to));
          holds = to.holds;
          text = all_kept (text_of old) (text_of new) kept to.characters spelled to.text;
          ends = to.ends;
        }

-- ---- calls

-- only the place in the page changed
abbrev pub MovesOn : Tokenizer → Tokenizer → Type 0
MovesOn old new = new ≡ record old { offset = new.offset }

moved_alike : (old mid : Tokenizer) (read : List ℕ) (told : Option TokenKind) (place : ℕ) → ReadsAlike old mid read told → ReadsAlike old (record mid { offset = place }) read told
moved_alike old mid read told place reads flag flag_is kept spelled m ahead rest holds = go told (reads flag flag_is kept spelled m ahead rest holds)
  where
    made : Tokenizer
    made = record mid { offset = place }

    told_on : (told : Option TokenKind) (tokens : List StandardToken) → Told told mid tokens → Told told made tokens
    told_on None tokens ends = ends
    told_on (Some token.Comment) tokens ends = ends
    told_on (Some token.Doctype) tokens ends = ends
    told_on (Some token.Tag) tokens ends = ends

    go : (told : Option TokenKind) → BehindText flag kept old mid read told m ahead rest → BehindText flag kept old made read told m ahead rest
    go told to = record {
      machine = to.machine;
      ahead' = to.ahead';
      all = to.all;
      tokens = to.tokens;
      goes = to.goes;
      holds = holds_on mid made to.ahead' to.machine refl to.holds;
      text = to.text;
      ends = told_on told to.tokens to.ends;
    }

pub moved_on : (old mid new : Tokenizer) (read : List ℕ) (told : Option TokenKind) → MovesOn mid new → ReadsOn old mid read told → ReadsOn old new read told
moved_on old mid new read told moves on = subst (λ t. ReadsOn old t read told) (sym moves) (record { memory = on.memory; in_foreign = on.in_foreign; reads = moved_alike old mid read told new.offset on.reads })

moved_text : (old mid new : Tokenizer) (read : List ℕ) (told : Option TokenKind) → MovesOn mid new → ReadsText old mid read told → ReadsText old new read told
moved_text old mid new read told moves reads =
    subst (λ t. ReadsText old t read told) (sym moves) (record { memory = reads.memory; in_foreign = reads.in_foreign; reads = λ wants. moved_alike old mid read told new.offset (reads.reads wants) })

told_alone : (told : Option TokenKind) → told ≡ told_or told None
told_alone None = refl
told_alone (Some kind) = refl

-- no text is left
pub nothing_arm : (old : Tokenizer) (text : List ℕ) (kind : Option TokenKind) → text ≡ [] → old.refused ≡ false → ReadsUpTo old old text text kind kind
nothing_arm old text kind empty memory = record { read = []; told = None; cut = refl; reads = of_any old old [] None (no_text old memory); kind = refl }

-- one character
pub character_arm : (old mid new : Tokenizer) (text rest : List ℕ) (c : ℕ) (told before after : Option TokenKind) → before ≡ None → text ≡ encode_utf8 c ++ rest → (mid.refused ≡ false → ReadsText old mid (c ∷ []) told) → MovesOn mid new → after ≡ told →
    new.refused ≡ false → ReadsUpTo old new text rest before after
character_arm old mid new text rest c told before after none cut reads moves after_is memory = record {
  read = c ∷ [];
  told = told;
  cut = cut ∙ ap (λ e. e ++ rest) (sym (append-nil (encode_utf8 c)));
  reads = moved_text old mid new (c ∷ []) told moves (reads (sym (ap (λ t. t.refused) moves) ∙ memory));
  kind = after_is ∙ told_alone told ∙ ap (told_or told) (sym none);
}
