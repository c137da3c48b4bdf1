-- The tokenizer reads what stands behind `<!` as the standard does.
use Rattle.std.specs.Prelude.{◌≡◌, ℕ, ◌+◌, ◌==◌, ◌||◌, Bool, true, false, cond, codes, List, [], ◌∷◌, ◌++◌, map, Option, None, Result, Ok, Err, IfOk, OnOk, string_bytes, encode_utf8, refl}
use Rattle.std.proofs.Common.{inl, inr}
use Rattle.std.specs.Char.{to_ascii_lowercase}
use Rattle.std.specs.Str.{encode_utf8_all}
use Rattle.std.proofs.lemmas.Bool.{true≢false}
use Rattle.std.proofs.lemmas.List.{append-nil, append_assoc}
use Rattle.std.proofs.lemmas.Str.{encodes-append}
use mathlib.Core.Path.{◌∙◌, sym, ap, subst}
use Rattle.standard_tokens.specs.Machine.{Machine, at_state}
use Rattle.standard_tokens.specs.States as there
use Rattle.standard_tokens.specs.Tokens.{AChar}
use Rattle.page_tokens.specs.Changes.{CommentGoesOn, Remembers}
use Rattle.page_tokens.specs.Declarations.{declared_of, letter_is}
use Rattle.page_tokens.specs.Reading.{text_of}
use Rattle.page_tokens.specs.Standard.{AsksFlag, Behind, Follows, FollowsAsking, FollowsStandard, Goes, stays, Held, IsNoDoctype, IsSeen, Leaves, Spells, Stands}
use Rattle.page_tokens.specs.StandardStates.{may_begin_cdata, state_of}
use Rattle.page_tokens.specs.declared.token.Doctype.{Doctype}
use Rattle.page_tokens.specs.declared.token.TokenKind.{TokenKind}
use Rattle.page_tokens.specs.declared.tokenizer.Tokenizer.{Tokenizer}
use Rattle.page_tokens.specs.declared.tokenizer.declarations.Declared.{Declared}
use Rattle.page_tokens.specs.declared.tokenizer.declarations.Declared.TheVariants as it
use Rattle.page_tokens.specs.declared.tokenizer.state.CdataState.TheVariants as cdata
use Rattle.page_tokens.specs.declared.tokenizer.state.CommentState.TheVariants as comment
use Rattle.page_tokens.specs.declared.tokenizer.state.DoctypeState.TheVariants as doctype
use Rattle.page_tokens.specs.declared.tokenizer.state.Seen.{Seen}
use Rattle.page_tokens.specs.declared.tokenizer.state.Seen.TheVariants as seen
use Rattle.page_tokens.specs.declared.tokenizer.state.State.TheVariants as state
use Rattle.page_tokens.proofs.CommentSteps.{commenting}
use Rattle.page_tokens.proofs.DeclarationSteps.{Declares, StepsTo, behind_cdata, declares}
use Rattle.page_tokens.proofs.StandardSteps.{then_on}

-- ---- where the machine stands

record InDeclaration (t : Tokenizer) (s : Seen) (ahead : List ℕ) (m : Machine) : Type 0 where
  pub comment : Spells t.comment ahead
  pub seen : IsSeen s ahead
  pub at : m.state ≡ there.MarkupDeclarationOpen
  pub machine : at_state m there.MarkupDeclarationOpen ≡ m

in_declaration : (t : Tokenizer) (s : Seen) (ahead : List ℕ) (m : Machine) → t.state ≡ state.Declaration s → Stands t ahead m → InDeclaration t s ahead m
in_declaration t s ahead m is stands =
    let held : Held (state.Declaration s) t ahead m = subst (λ s. Held s t ahead m) is stands.held in
    let at : m.state ≡ there.MarkupDeclarationOpen = stands.state ∙ ap state_of is in
    record { comment = held.0; seen = held.1; at = at; machine = ap (at_state m) (sym at) }

pub one_more : (bytes old_bytes ahead : List ℕ) (c : ℕ) → bytes ≡ old_bytes ++ encode_utf8 c → old_bytes ≡ encode_utf8_all ahead → bytes ≡ encode_utf8_all (ahead ++ c ∷ [])
one_more bytes old_bytes ahead c is old_is =
    is ∙ ap (λ e. e ++ encode_utf8 c) old_is ∙ ap (λ e. encode_utf8_all ahead ++ e) (sym (append-nil (encode_utf8 c))) ∙ sym (encodes-append ahead (c ∷ []))

-- a character in front of what follows
in_front : (ahead : List ℕ) (c : ℕ) (rest : List ℕ) → ahead ++ c ∷ rest ≡ (ahead ++ c ∷ []) ++ rest
in_front ahead c rest = sym (append_assoc ahead (c ∷ []) rest)

-- ---- more of the word

declared : (old other : Tokenizer) (s next : Seen) (c : ℕ) → old.state ≡ state.Declaration s → old.refused ≡ false → string_bytes other.comment ≡ string_bytes old.comment ++ encode_utf8 c →
    it.More next ≡ declared_of s c → FollowsStandard old (record old { state = state.Declaration next; comment = other.comment }) (c ∷ []) None
declared old other s next c is memory bytes goes = record {
  memory = memory;
  leaves = record { in_foreign = refl; after_return = refl };
  reads = λ m ahead rest stands.
      let at : InDeclaration old s ahead m = in_declaration old s ahead m is stands in
      record {
        machine = m;
        ahead' = ahead ++ c ∷ [];
        characters = [];
        tokens = [];
        goes = stays;
        holds = inl (record {
          reference = stands.reference;
          state = at.at;
          last_start = stands.last_start;
          held = (
            one_more (string_bytes other.comment) (string_bytes old.comment) ahead c bytes at.comment,
            subst (Declares old.in_foreign m ahead rest c) (sym goes) (declares old.in_foreign m ahead rest c s at.seen),
          );
        });
        text = sym (append-nil (text_of old));
        ends = refl;
      };
}

pub declared_follows : (old new : Tokenizer) (s next : Seen) (c : ℕ) (told : Option TokenKind) → old.state ≡ state.Declaration s → new ≡ record old { state = state.Declaration next; comment = new.comment } →
    string_bytes new.comment ≡ string_bytes old.comment ++ encode_utf8 c → it.More next ≡ declared_of s c → told ≡ None → new.refused ≡ false → FollowsStandard old new (c ∷ []) told
declared_follows old new s next c told is only bytes goes told_is none =
    let made : Tokenizer = record old { state = state.Declaration next; comment = new.comment } in
    let memory : old.refused ≡ false = sym (ap (λ t. t.refused) only) ∙ none in
    subst (λ t. FollowsStandard old t (c ∷ []) told) (sym only) (subst (λ k. FollowsStandard old made (c ∷ []) k) (sym told_is) (declared old new s next c is memory bytes goes))

-- ---- something begins: the machine goes to a place in which it stands with the tokenizer

-- where the machine goes from here
pub record Leads (old new : Tokenizer) (m : Machine) (text rest : List ℕ) : Type 0 where
  pub machine : Machine
  pub goes : Goes m text [] machine rest
  pub stands : Stands new [] machine

-- the character is read, and nothing is emitted
pub led : (old new : Tokenizer) (read : List ℕ) → old.refused ≡ false → Leaves old new → text_of new ≡ text_of old →
    ((m : Machine) (ahead rest : List ℕ) → Stands old ahead m → Leads old new m (ahead ++ read ++ rest) rest) → FollowsStandard old new read None
led old new read memory leaves text leads = record {
  memory = memory;
  leaves = leaves;
  reads = λ m ahead rest stands.
      let to : Leads old new m (ahead ++ read ++ rest) rest = leads m ahead rest stands in
      record {
        machine = to.machine;
        ahead' = [];
        characters = [];
        tokens = [];
        goes = to.goes;
        holds = inl to.stands;
        text = text ∙ sym (append-nil (text_of old));
        ends = refl;
      };
}

-- the character is not read yet, and then read in another state
pub through : (old mid new : Tokenizer) (read : List ℕ) (told : Option TokenKind) → Remembers old mid → Leaves old mid → text_of mid ≡ text_of old →
    ((m : Machine) (ahead rest : List ℕ) → Stands old ahead m → Leads old mid m (ahead ++ read ++ rest) (read ++ rest)) → FollowsStandard mid new read told → FollowsStandard old new read told
through old mid new read told remembers leaves text leads follows = record {
  memory = remembers follows.memory;
  leaves = record { in_foreign = follows.leaves.in_foreign ∙ leaves.in_foreign; after_return = follows.leaves.after_return ∙ leaves.after_return };
  reads = λ m ahead rest stands.
      let to : Leads old mid m (ahead ++ read ++ rest) (read ++ rest) = leads m ahead rest stands in
      let more : Behind mid new read told to.machine [] rest = follows.reads to.machine [] rest to.stands in
      record {
        machine = more.machine;
        ahead' = more.ahead';
        characters = more.characters;
        tokens = more.tokens;
        goes = then_on to.goes (subst (λ b. Goes to.machine (read ++ rest) (map AChar more.characters ++ more.tokens) more.machine (more.ahead' ++ rest)) leaves.in_foreign more.goes);
        holds = more.holds;
        text = more.text ∙ ap (λ e. e ++ encode_utf8_all more.characters) text;
        ends = more.ends;
      };
}

-- the end of `<!--`
pub comment_begins : (old new : Tokenizer) (s : Seen) (c : ℕ) (told : Option TokenKind) → old.state ≡ state.Declaration s → new ≡ record old { state = state.Comment comment.Start; comment = new.comment } →
    string_bytes new.comment ≡ [] → it.Comment ≡ declared_of s c → told ≡ None → new.refused ≡ false → FollowsStandard old new (c ∷ []) told
comment_begins old new s c told is only bytes goes told_is none =
    let made : Tokenizer = record old { state = state.Comment comment.Start; comment = new.comment } in
    let memory : old.refused ≡ false = sym (ap (λ t. t.refused) only) ∙ none in
    subst (λ t. FollowsStandard old t (c ∷ []) told) (sym only) (subst (λ k. FollowsStandard old made (c ∷ []) k) (sym told_is)
    (led old made (c ∷ []) memory (record { in_foreign = refl; after_return = refl }) refl (λ m ahead rest stands.
    let at : InDeclaration old s ahead m = in_declaration old s ahead m is stands in
    let b : Bool = old.in_foreign in
    let n : Machine = commenting m there.CommentStart [] in
    let steps : Goes (at_state m there.MarkupDeclarationOpen) (ahead ++ (c ∷ []) ++ rest) [] n rest = subst (λ text. Goes (at_state m there.MarkupDeclarationOpen) text [] n rest) (in_front ahead c rest) (subst (Declares b m ahead rest c) (sym goes) (declares b m ahead rest c s at.seen)) in
    record {
      machine = n;
      goes = subst (λ k. Goes k (ahead ++ (c ∷ []) ++ rest) [] n rest) at.machine steps;
      stands = record { reference = stands.reference; state = refl; last_start = stands.last_start; held = (refl, bytes) };
    })))

-- the end of `<!doctype`
pub doctype_begins : (old new : Tokenizer) (s : Seen) (c : ℕ) (told : Option TokenKind) → old.state ≡ state.Declaration s → new ≡ record old { state = state.Doctype doctype.Begin; doctype = new.doctype } →
    IsNoDoctype new.doctype → it.Doctype ≡ declared_of s c → told ≡ None → new.refused ≡ false → FollowsStandard old new (c ∷ []) told
doctype_begins old new s c told is only no_doctype goes told_is none =
    let made : Tokenizer = record old { state = state.Doctype doctype.Begin; doctype = new.doctype } in
    let memory : old.refused ≡ false = sym (ap (λ t. t.refused) only) ∙ none in
    subst (λ t. FollowsStandard old t (c ∷ []) told) (sym only) (subst (λ k. FollowsStandard old made (c ∷ []) k) (sym told_is)
    (led old made (c ∷ []) memory (record { in_foreign = refl; after_return = refl }) refl (λ m ahead rest stands.
    let at : InDeclaration old s ahead m = in_declaration old s ahead m is stands in
    let b : Bool = old.in_foreign in
    let n : Machine = at_state m there.DOCTYPEState in
    let steps : Goes (at_state m there.MarkupDeclarationOpen) (ahead ++ (c ∷ []) ++ rest) [] n rest = subst (λ text. Goes (at_state m there.MarkupDeclarationOpen) text [] n rest) (in_front ahead c rest) (subst (Declares b m ahead rest c) (sym goes) (declares b m ahead rest c s at.seen)) in
    record {
      machine = n;
      goes = subst (λ k. Goes k (ahead ++ (c ∷ []) ++ rest) [] n rest) at.machine steps;
      stands = record { reference = stands.reference; state = refl; last_start = stands.last_start; held = (refl, no_doctype) };
    })))

abbrev is_cdata : Declared → Bool
is_cdata it.Cdata = true
is_cdata _ = false

-- the end of `<![CDATA[`: that is all that leads to such a beginning
cdata_seen : (s : Seen) (c : ℕ) → it.Cdata ≡ declared_of s c → may_begin_cdata (state.Declaration s) ≡ true
cdata_seen seen.Nothing c e = absurd (true≢false (ap is_cdata e ∙ none (c == 45) (c == 100 || c == 68) (c == 91)))
  where
    none : (x y z : Bool) → is_cdata (cond x (it.More seen.Dash) (cond y (it.More (seen.Doctype 1)) (cond z (it.More (seen.Cdata 1)) it.Bogus))) ≡ false
    none true y z = refl
    none false true z = refl
    none false false true = refl
    none false false false = refl
cdata_seen seen.Dash c e = absurd (true≢false (ap is_cdata e ∙ none (c == 45)))
  where
    none : (x : Bool) → is_cdata (cond x it.Comment it.Bogus) ≡ false
    none true = refl
    none false = refl
cdata_seen (seen.Doctype n) c e = absurd (true≢false (ap is_cdata e ∙ none (letter_is (codes "doctype") n (to_ascii_lowercase c)) (n == 6)))
  where
    none : (x y : Bool) → is_cdata (cond x (cond y it.Doctype (it.More (seen.Doctype (n + 1)))) it.Bogus) ≡ false
    none true true = refl
    none true false = refl
    none false y = refl
cdata_seen (seen.Cdata n) c e = refl

-- the flag is asked
cdata_asks : (old made : Tokenizer) (s : Seen) (c : ℕ) (n : Machine → List ℕ → Machine) → old.state ≡ state.Declaration s → old.refused ≡ false → Leaves old made → text_of made ≡ text_of old → it.Cdata ≡ declared_of s c →
    ((m : Machine) (ahead : List ℕ) → Stands old ahead m → behind_cdata old.in_foreign m (ahead ++ c ∷ []) ≡ n m ahead) → ((m : Machine) (ahead : List ℕ) → Stands old ahead m → Stands made [] (n m ahead)) → AsksFlag old made (c ∷ []) None
cdata_asks old made s c n is memory leaves text goes leads stand = record {
  memory = memory;
  told_is = refl;
  leaves = leaves;
  begun = ap may_begin_cdata is ∙ cdata_seen s c goes;
  text = text;
  steps = λ m ahead rest stands.
      let at : InDeclaration old s ahead m = in_declaration old s ahead m is stands in
      let b : Bool = old.in_foreign in
      let to : StepsTo b m (ahead ++ (c ∷ []) ++ rest) (behind_cdata b m (ahead ++ c ∷ [])) rest =
      subst (λ k. StepsTo b k (ahead ++ (c ∷ []) ++ rest) (behind_cdata b m (ahead ++ c ∷ [])) rest) at.machine
      (subst (λ text. StepsTo b (at_state m there.MarkupDeclarationOpen) text (behind_cdata b m (ahead ++ c ∷ [])) rest) (in_front ahead c rest) (subst (Declares b m ahead rest c) (sym goes) (declares b m ahead rest c s at.seen))) in
      record {
        runs = to.runs;
        tokens = to.tokens;
        rest_is = to.rest_is;
        stands = subst (Stands made []) (sym (to.machine ∙ leads m ahead stands)) (stand m ahead stands);
      };
}

-- in foreign content
cdata_begins : (old new : Tokenizer) (s : Seen) (c : ℕ) (told : Option TokenKind) → old.state ≡ state.Declaration s → old.in_foreign ≡ true → new ≡ record old { state = state.Cdata cdata.Section } →
    it.Cdata ≡ declared_of s c → told ≡ None → new.refused ≡ false → AsksFlag old new (c ∷ []) told
cdata_begins old new s c told is foreign only goes told_is none =
    let made : Tokenizer = record old { state = state.Cdata cdata.Section } in
    let memory : old.refused ≡ false = sym (ap (λ t. t.refused) only) ∙ none in
    subst (λ t. AsksFlag old t (c ∷ []) told) (sym only) (subst (λ k. AsksFlag old made (c ∷ []) k) (sym told_is)
    (cdata_asks old made s c (λ m ahead. at_state m there.CDATASection) is memory (record { in_foreign = refl; after_return = refl }) refl goes
    (λ m ahead stands. ap (λ b. behind_cdata b m (ahead ++ c ∷ [])) foreign)
    (λ m ahead stands. record { reference = stands.reference; state = refl; last_start = stands.last_start; held = refl })))

-- in HTML content
no_cdata_begins : (old new : Tokenizer) (s : Seen) (c : ℕ) (told : Option TokenKind) → old.state ≡ state.Declaration s → old.in_foreign ≡ false → CommentGoesOn old new comment.Bogus (encode_utf8 c) →
    it.Cdata ≡ declared_of s c → told ≡ None → AsksFlag old new (c ∷ []) told
no_cdata_begins old new s c told is html goes_on goes told_is =
    let made : Tokenizer = record old { state = state.Comment comment.Bogus; comment = new.comment; errors = new.errors; refused = new.refused } in
    subst (λ t. AsksFlag old t (c ∷ []) told) (sym goes_on.only) (subst (λ k. AsksFlag old made (c ∷ []) k) (sym told_is)
    (cdata_asks old made s c (λ m ahead. commenting m there.BogusComment (ahead ++ c ∷ [])) is goes_on.memory (record { in_foreign = refl; after_return = refl }) refl goes
    (λ m ahead stands. ap (λ b. behind_cdata b m (ahead ++ c ∷ [])) html)
    (λ m ahead stands.
    let at : InDeclaration old s ahead m = in_declaration old s ahead m is stands in
    record {
      reference = stands.reference;
      state = refl;
      last_start = stands.last_start;
      held = (refl, one_more (string_bytes new.comment) (string_bytes old.comment) ahead c goes_on.comment at.comment);
    })))

-- nothing of the three begins: what was read is a bogus comment
pub bogus_begins : (old mid new : Tokenizer) (s : Seen) (c : ℕ) (told : Option TokenKind) → old.state ≡ state.Declaration s →
    mid ≡ record old { state = state.Comment comment.Bogus; errors = mid.errors; refused = mid.refused } → Remembers old mid → it.Bogus ≡ declared_of s c →
    FollowsStandard mid new (c ∷ []) told → FollowsStandard old new (c ∷ []) told
bogus_begins old mid new s c told is only remembers goes follows =
    through old mid new (c ∷ []) told remembers (record { in_foreign = ap (λ t. t.in_foreign) only; after_return = ap (λ t. t.after_return) only }) (ap text_of only) (λ m ahead rest stands.
    let at : InDeclaration old s ahead m = in_declaration old s ahead m is stands in
    let b : Bool = old.in_foreign in
    let n : Machine = commenting m there.BogusComment ahead in
    let steps : Goes (at_state m there.MarkupDeclarationOpen) (ahead ++ (c ∷ []) ++ rest) [] n (c ∷ rest) =
    subst (λ text. Goes (at_state m there.MarkupDeclarationOpen) text [] n (c ∷ rest)) (in_front ahead c rest) (subst (Declares b m ahead rest c) (sym goes) (declares b m ahead rest c s at.seen)) in
    record {
      machine = n;
      goes = subst (λ k. Goes k (ahead ++ (c ∷ []) ++ rest) [] n (c ∷ rest)) at.machine steps;
      stands = subst (λ t. Stands t [] n) (sym only) (record { reference = stands.reference; state = refl; last_start = stands.last_start; held = (refl, at.comment) });
    }) follows

-- ---- the same of a call's result

pub more_arm : {E : Type 0} (old new : Tokenizer) (s next : Seen) (c : ℕ) (r : Result (Option TokenKind) E) → old.state ≡ state.Declaration s → it.More next ≡ declared_of s c →
    new ≡ record old { state = state.Declaration next; comment = new.comment } → OnOk r (string_bytes new.comment ≡ string_bytes old.comment ++ encode_utf8 c) → IfOk r (λ told. told ≡ None) → FollowsAsking old new (c ∷ []) r
more_arm old new s next c (Ok told) is goes only bytes told_is = λ none. inl (declared_follows old new s next c told is only bytes goes told_is none)
more_arm old new s next c (Err e) is goes only bytes told_is = tt

pub comment_arm : {E : Type 0} (old mid new : Tokenizer) (s : Seen) (c : ℕ) (r : Result (Option TokenKind) E) → old.state ≡ state.Declaration s → it.Comment ≡ declared_of s c →
    mid ≡ record old { comment = mid.comment } → string_bytes mid.comment ≡ [] → new ≡ record mid { state = state.Comment comment.Start } → IfOk r (λ told. told ≡ None) → FollowsAsking old new (c ∷ []) r
comment_arm old mid new s c (Ok told) is goes cleared bytes only told_is = λ none.
    let e : mid.comment ≡ new.comment = sym (ap (λ t. t.comment) only) in
    let all : new ≡ record old { state = state.Comment comment.Start; comment = mid.comment } = only ∙ ap {A = Tokenizer} (λ t. record t { state = state.Comment comment.Start }) cleared in
    let all_new : new ≡ record old { state = state.Comment comment.Start; comment = new.comment } =
    subst (λ text. new ≡ record old { state = state.Comment comment.Start; comment = text }) e all in
    inl (comment_begins old new s c told is all_new (subst (λ text. string_bytes text ≡ []) e bytes) goes told_is none)
comment_arm old mid new s c (Err e) is goes cleared bytes only told_is = tt

pub doctype_arm : {E : Type 0} (old new : Tokenizer) (fresh : Doctype) (s : Seen) (c : ℕ) (r : Result (Option TokenKind) E) → old.state ≡ state.Declaration s → it.Doctype ≡ declared_of s c →
    new ≡ record old { state = state.Doctype doctype.Begin; doctype = fresh } → IsNoDoctype fresh → IfOk r (λ told. told ≡ None) → FollowsAsking old new (c ∷ []) r
doctype_arm old new fresh s c (Ok told) is goes only empty told_is = λ none.
    let e : new.doctype ≡ fresh = ap (λ t. t.doctype) only in
    inl (doctype_begins old new s c told is (only ∙ ap {A = Doctype} (λ d. record old { state = state.Doctype doctype.Begin; doctype = d }) (sym e)) (subst IsNoDoctype (sym e) empty) goes told_is none)
doctype_arm old new fresh s c (Err e) is goes only empty told_is = tt

pub cdata_arm : {E : Type 0} (old new : Tokenizer) (s : Seen) (c : ℕ) (r : Result (Option TokenKind) E) → old.state ≡ state.Declaration s → it.Cdata ≡ declared_of s c →
    (old.in_foreign ≡ true → new ≡ record old { state = state.Cdata cdata.Section }) → (old.in_foreign ≡ false → OnOk r (new.refused ≡ false → CommentGoesOn old new comment.Bogus (encode_utf8 c))) →
    IfOk r (λ told. told ≡ None) → FollowsAsking old new (c ∷ []) r
cdata_arm {E} old new s c r is goes foreign html told_is = go old.in_foreign refl
  where
    of : (r : Result (Option TokenKind) E) → OnOk r (new.refused ≡ false → CommentGoesOn old new comment.Bogus (encode_utf8 c)) → IfOk r (λ told. told ≡ None) → old.in_foreign ≡ false → FollowsAsking old new (c ∷ []) r
    of (Ok told) goes_on told_is flag = λ none. inr (no_cdata_begins old new s c told is flag (goes_on none) goes told_is)
    of (Err e) goes_on told_is flag = tt

    section : (r : Result (Option TokenKind) E) → IfOk r (λ told. told ≡ None) → old.in_foreign ≡ true → FollowsAsking old new (c ∷ []) r
    section (Ok told) told_is flag = λ none. inr (cdata_begins old new s c told is flag (foreign flag) goes told_is none)
    section (Err e) told_is flag = tt

    go : (b : Bool) → old.in_foreign ≡ b → FollowsAsking old new (c ∷ []) r
    go true flag = section r told_is flag
    go false flag = of r (html flag) told_is flag

pub bogus_arm : {E : Type 0} (old mid new : Tokenizer) (s : Seen) (c : ℕ) (r : Result (Option TokenKind) E) → old.state ≡ state.Declaration s → it.Bogus ≡ declared_of s c →
    mid ≡ record old { state = state.Comment comment.Bogus; errors = mid.errors; refused = mid.refused } → Remembers old mid → Follows mid new (c ∷ []) r → FollowsAsking old new (c ∷ []) r
bogus_arm old mid new s c (Ok told) is goes only remembers follows = λ none. inl (bogus_begins old mid new s c told is only remembers goes (follows none))
bogus_arm old mid new s c (Err e) is goes only remembers follows = tt
