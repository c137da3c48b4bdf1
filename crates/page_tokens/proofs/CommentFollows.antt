-- The tokenizer reads comments as the standard does.
use Rattle.std.specs.Prelude.{◌≡◌, ℕ, Bool, true, false, ◌==◌, cond, List, [], ◌∷◌, ◌++◌, Option, None, Some, Result, Ok, Err, IfOk, OnOk, string_bytes, refl}
use Rattle.std.proofs.Common.{inl}
use Rattle.std.specs.Char.{encode_utf8}
use Rattle.std.specs.Str.{encode_utf8_all}
use Rattle.std.proofs.lemmas.List.{append-nil, append_assoc}
use Rattle.std.proofs.lemmas.Str.{encodes-append}
use mathlib.Core.Path.{◌∙◌, sym, ap, subst}
use Rattle.standard_tokens.specs.Machine.{Machine}
use Rattle.standard_tokens.specs.States as there
use Rattle.standard_tokens.specs.Tokens.{AComment}
use Rattle.page_tokens.specs.Changes.{Gains, CommentGoesOn, Remembers}
use Rattle.page_tokens.specs.Comments.{Came, Finishes, Adds, Appends, Resumes, came, came_of, shown_of, state_again, added_again}
use Rattle.page_tokens.specs.Reading.{text_of}
use Rattle.page_tokens.specs.Standard.{FollowsStandard, Follows, Goes, Held, Spells, Stands}
use Rattle.page_tokens.specs.StandardStates.{comment_state_of, state_of}
use Rattle.page_tokens.specs.declared.token.TokenKind.{TokenKind}
use Rattle.page_tokens.specs.declared.token.TokenKind.TheVariants as token
use Rattle.page_tokens.specs.declared.tokenizer.Tokenizer.{Tokenizer}
use Rattle.page_tokens.specs.declared.tokenizer.state.CommentState.{CommentState}
use Rattle.page_tokens.specs.declared.tokenizer.state.CommentState.TheVariants.{Bogus, Start, StartDash, Comment, LessThan, LessThanBang, LessThanBangDash, LessThanBangDashDash, EndDash, End, EndBang}
use Rattle.page_tokens.specs.declared.tokenizer.state.Place.TheVariants as place
use Rattle.page_tokens.specs.declared.tokenizer.state.State.{State}
use Rattle.page_tokens.specs.declared.tokenizer.state.State.TheVariants as state
use Rattle.page_tokens.proofs.CommentSteps.{Comes, again, came_comes, commenting}
use Rattle.page_tokens.proofs.StandardSteps.{then_on}

-- ---- the texts of the steps are ASCII

abbrev Plain : Came → Type 0
Plain Finishes = Unit {0}
Plain Adds = Unit {0}
Plain (Appends text next) = encode_utf8_all text ≡ text
Plain (Resumes text) = encode_utf8_all text ≡ text

plain_if : (b : Bool) (x y : Came) → Plain x → Plain y → Plain (cond b x y)
plain_if true x y p q = p
plain_if false x y p q = q

plain : (inner : CommentState) (c : ℕ) → Plain (came_of inner c)
unfolding encode_utf8
plain Bogus c = plain_if (c == 62) _ _ tt tt
plain Start c = plain_if (c == 62) _ _ tt (plain_if (c == 45) _ _ refl refl)
plain StartDash c = plain_if (c == 62) _ _ tt (plain_if (c == 45) _ _ refl refl)
plain Comment c = refl
plain LessThan c = plain_if (c == 33) _ _ refl (plain_if (c == 60) _ _ refl refl)
plain LessThanBang c = plain_if (c == 45) _ _ refl refl
plain LessThanBangDash c = plain_if (c == 45) _ _ refl refl
plain LessThanBangDashDash c = plain_if (c == 62) _ _ tt (plain_if (c == 33) _ _ refl (plain_if (c == 45) _ _ refl refl))
plain EndDash c = plain_if (c == 45) _ _ refl refl
plain End c = plain_if (c == 62) _ _ tt (plain_if (c == 33) _ _ refl (plain_if (c == 45) _ _ refl refl))
plain EndBang c = plain_if (c == 62) _ _ tt (plain_if (c == 45) _ _ refl refl)

-- ---- where the machine stands in a comment

pub record InComment (t : Tokenizer) (inner : CommentState) (ahead : List ℕ) (m : Machine) : Type 0 where
  pub nothing : ahead ≡ []
  pub comment : Spells t.comment m.comment
  pub machine : commenting m (comment_state_of inner) m.comment ≡ m

pub in_comment : (t : Tokenizer) (inner : CommentState) (ahead : List ℕ) (m : Machine) → t.state ≡ state.Comment inner → Stands t ahead m → InComment t inner ahead m
in_comment t inner ahead m is stands =
    let held : Held (state.Comment inner) t ahead m = subst (λ s. Held s t ahead m) is stands.held in
    let at : m.state ≡ comment_state_of inner = stands.state ∙ ap state_of is in
    record { nothing = held.0; comment = held.1; machine = ap (λ s. record m { state = s }) (sym at) }

-- ---- the comment ends

ended : (old other : Tokenizer) (inner : CommentState) (c : ℕ) → old.state ≡ state.Comment inner → old.refused ≡ false → came_of inner c ≡ Finishes →
    FollowsStandard old (record old { state = state.Data; errors = other.errors; refused = other.refused }) (c ∷ []) (Some token.Comment)
ended old other inner c is memory came = record {
  memory = memory;
  leaves = record { in_foreign = refl; after_return = refl };
  reads = λ m ahead rest stands.
      let at : InComment old inner ahead m = in_comment old inner ahead m is stands in
      let b : Bool = old.in_foreign in
      let goes : Goes (commenting m (comment_state_of inner) m.comment) (c ∷ rest) (AComment m.comment ∷ []) (commenting m there.Data m.comment) rest =
      subst (Comes b inner m m.comment rest c) came (came_comes inner b m m.comment rest c) in
      record {
        machine = commenting m there.Data m.comment;
        ahead' = [];
        characters = [];
        tokens = AComment m.comment ∷ [];
        goes = subst (λ front. Goes m (front ++ (c ∷ []) ++ rest) (AComment m.comment ∷ []) (commenting m there.Data m.comment) rest) (sym at.nothing)
            (subst (λ n. Goes n (c ∷ rest) (AComment m.comment ∷ []) (commenting m there.Data m.comment) rest) at.machine goes);
        holds = inl (record { reference = stands.reference; state = refl; last_start = stands.last_start; held = refl });
        text = sym (append-nil (text_of old));
        ends = (m.comment, refl, at.comment);
      };
}

-- ---- the comment goes on

-- a machine in a comment that has read this
went_on : (old other : Tokenizer) (inner next : CommentState) (c : ℕ) (more : List ℕ) → old.state ≡ state.Comment inner → old.refused ≡ false →
    string_bytes other.comment ≡ string_bytes old.comment ++ encode_utf8_all more →
    ((m : Machine) (rest : List ℕ) → Goes (commenting m (comment_state_of inner) m.comment) (c ∷ rest) [] (commenting m (comment_state_of next) (m.comment ++ more)) rest) →
    FollowsStandard old (record old { state = state.Comment next; comment = other.comment; errors = other.errors; refused = other.refused }) (c ∷ []) None
went_on old other inner next c more is memory bytes steps = record {
  memory = memory;
  leaves = record { in_foreign = refl; after_return = refl };
  reads = λ m ahead rest stands.
      let at : InComment old inner ahead m = in_comment old inner ahead m is stands in
      let b : Bool = old.in_foreign in
      let n : Machine = commenting m (comment_state_of next) (m.comment ++ more) in
      record {
        machine = n;
        ahead' = [];
        characters = [];
        tokens = [];
        goes = subst (λ front. Goes m (front ++ (c ∷ []) ++ rest) [] n rest) (sym at.nothing) (subst (λ k. Goes k (c ∷ rest) [] n rest) at.machine (steps m rest));
        holds = inl (record {
          reference = stands.reference;
          state = refl;
          last_start = stands.last_start;
          held = (refl, bytes ∙ ap (λ e. e ++ encode_utf8_all more) at.comment ∙ sym (encodes-append m.comment more));
        });
        text = sym (append-nil (text_of old));
        ends = refl;
      };
}

-- ---- what the arms of `in_comment` do; the errors changed before

abbrev pub OnlyErrors : Tokenizer → Tokenizer → Type 0
OnlyErrors old mid = mid ≡ record old { errors = mid.errors; refused = mid.refused }

refused_of : (old mid new : Tokenizer) → Remembers old mid → mid.refused ≡ new.refused → new.refused ≡ false → old.refused ≡ false
refused_of old mid new remembers same none = remembers (same ∙ none)

pub ends_follow : (old mid new : Tokenizer) (inner : CommentState) (c : ℕ) (told : Option TokenKind) → old.state ≡ state.Comment inner → OnlyErrors old mid → Remembers old mid →
    Finishes ≡ came_of inner c → new ≡ record mid { state = state.Data } → told ≡ Some token.Comment → new.refused ≡ false → FollowsStandard old new (c ∷ []) told
ends_follow old mid new inner c told is only remembers comes new_is told_is none =
    let new_of : new ≡ record old { state = state.Data; errors = mid.errors; refused = mid.refused } = new_is ∙ ap {A = Tokenizer} (λ t. record t { state = state.Data }) only in
    let memory : old.refused ≡ false = remembers (sym (ap (λ t. t.refused) new_is) ∙ none) in
    subst (λ t. FollowsStandard old t (c ∷ []) told) (sym new_of)
    (subst (λ k. FollowsStandard old (record old { state = state.Data; errors = mid.errors; refused = mid.refused }) (c ∷ []) k) (sym told_is) (ended old mid inner c is memory (sym comes)))

-- in each other case the comment goes on
pub goes_on_follow : (old mid new : Tokenizer) (inner next : CommentState) (c : ℕ) (more bytes : List ℕ) (told : Option TokenKind) → old.state ≡ state.Comment inner → OnlyErrors old mid →
    Remembers old mid → CommentGoesOn mid new next bytes → bytes ≡ encode_utf8_all more →
    ((b : Bool) (m : Machine) (rest : List ℕ) → Goes (commenting m (comment_state_of inner) m.comment) (c ∷ rest) [] (commenting m (comment_state_of next) (m.comment ++ more)) rest) →
    told ≡ None → FollowsStandard old new (c ∷ []) told
goes_on_follow old mid new inner next c more bytes told is only remembers goes bytes_are steps told_is =
    let made : Tokenizer = record old { state = state.Comment next; comment = new.comment; errors = new.errors; refused = new.refused } in
    let new_of : new ≡ made = goes.only ∙ ap {A = Tokenizer} (λ t. record t { state = state.Comment next; comment = new.comment; errors = new.errors; refused = new.refused }) only in
    let text : string_bytes new.comment ≡ string_bytes old.comment ++ encode_utf8_all more =
    goes.comment ∙ ap (λ t. string_bytes t.comment ++ bytes) only ∙ ap (λ e. string_bytes old.comment ++ e) bytes_are in
    subst (λ t. FollowsStandard old t (c ∷ []) told) (sym new_of)
    (subst (λ k. FollowsStandard old made (c ∷ []) k) (sym told_is) (went_on old new inner next c more is (remembers goes.memory) text (steps old.in_foreign)))

-- the character itself is added
pub letter_follows : (old mid new : Tokenizer) (inner : CommentState) (c : ℕ) (told : Option TokenKind) → old.state ≡ state.Comment inner → OnlyErrors old mid → Remembers old mid →
    Adds ≡ came_of inner c → Gains place.Comment mid new (encode_utf8 (shown_of c)) → Remembers mid new → told ≡ None → new.refused ≡ false → FollowsStandard old new (c ∷ []) told
letter_follows old mid new inner c told is only remembers came gains keeps told_is none =
    let mid_state : mid.state ≡ state.Comment inner = ap (λ t. t.state) only ∙ is in
    goes_on_follow old mid new inner inner c (shown_of c ∷ []) (encode_utf8 (shown_of c)) told is only remembers (record {
      memory = keeps none;
      only = gains.0 ∙ ap {A = State} (λ s. record mid { state = s; comment = new.comment; errors = new.errors; refused = new.refused }) mid_state;
      comment = gains.1;
    }) (sym (append-nil (encode_utf8 (shown_of c))))
    (λ b m rest. subst (Comes b inner m m.comment rest c) (sym came) (came_comes inner b m m.comment rest c)) told_is

-- a text is added
pub then_follows : (old mid new : Tokenizer) (inner next : CommentState) (c : ℕ) (text : List ℕ) (told : Option TokenKind) → old.state ≡ state.Comment inner → OnlyErrors old mid →
    Remembers old mid → Appends text next ≡ came_of inner c → CommentGoesOn mid new next text → told ≡ None → FollowsStandard old new (c ∷ []) told
then_follows old mid new inner next c text told is only remembers came goes told_is =
    goes_on_follow old mid new inner next c text text told is only remembers goes (sym (subst Plain (sym came) (plain inner c)))
    (λ b m rest. subst (Comes b inner m m.comment rest c) (sym came) (came_comes inner b m m.comment rest c)) told_is

-- a text is added, and the character is read in the comment
pub again_follows : (old mid new : Tokenizer) (inner : CommentState) (c : ℕ) (text : List ℕ) (told : Option TokenKind) → old.state ≡ state.Comment inner → OnlyErrors old mid →
    Remembers old mid → Resumes text ≡ came_of inner c → CommentGoesOn mid new (state_again c) (text ++ encode_utf8_all (added_again c)) → told ≡ None → FollowsStandard old new (c ∷ []) told
again_follows old mid new inner c text told is only remembers came goes told_is =
    let ascii : encode_utf8_all text ≡ text = subst Plain (sym came) (plain inner c) in
    goes_on_follow old mid new inner (state_again c) c (text ++ added_again c) (text ++ encode_utf8_all (added_again c)) told is only remembers goes
    (ap (λ e. e ++ encode_utf8_all (added_again c)) (sym ascii) ∙ sym (encodes-append text (added_again c)))
    (λ b m rest.
    let front : Comes b inner m m.comment rest c (Resumes text) = subst (Comes b inner m m.comment rest c) (sym came) (came_comes inner b m m.comment rest c) in
    subst (λ e. Goes (commenting m (comment_state_of inner) m.comment) (c ∷ rest) [] (commenting m (comment_state_of (state_again c)) e) rest)
    (append_assoc m.comment text (added_again c)) (then_on front (again b m (m.comment ++ text) rest c))) told_is

-- ---- the same of a call's result

pub ends_arm : {E : Type 0} (old mid new : Tokenizer) (inner : CommentState) (c : ℕ) (r : Result (Option TokenKind) E) → old.state ≡ state.Comment inner → OnlyErrors old mid → Remembers old mid →
    Finishes ≡ came_of inner c → new ≡ record mid { state = state.Data } → IfOk r (λ told. told ≡ Some token.Comment) → Follows old new (c ∷ []) r
ends_arm old mid new inner c (Ok told) is only remembers comes new_is told_is = λ none. ends_follow old mid new inner c told is only remembers comes new_is told_is none
ends_arm old mid new inner c (Err e) is only remembers comes new_is told_is = tt

pub letter_arm : {E : Type 0} (old mid new : Tokenizer) (inner : CommentState) (c : ℕ) (r : Result (Option TokenKind) E) → old.state ≡ state.Comment inner → OnlyErrors old mid → Remembers old mid →
    Adds ≡ came_of inner c → OnOk r (Gains place.Comment mid new (encode_utf8 (shown_of c))) → Remembers mid new → IfOk r (λ told. told ≡ None) → Follows old new (c ∷ []) r
letter_arm old mid new inner c (Ok told) is only remembers comes gains keeps told_is = λ none. letter_follows old mid new inner c told is only remembers comes gains keeps told_is none
letter_arm old mid new inner c (Err e) is only remembers comes gains keeps told_is = tt

pub then_arm : {E : Type 0} (old mid new : Tokenizer) (inner next : CommentState) (c : ℕ) (text : List ℕ) (r : Result (Option TokenKind) E) → old.state ≡ state.Comment inner → OnlyErrors old mid →
    Remembers old mid → Appends text next ≡ came_of inner c → (new.refused ≡ false → CommentGoesOn mid new next text) → IfOk r (λ told. told ≡ None) → Follows old new (c ∷ []) r
then_arm old mid new inner next c text (Ok told) is only remembers comes goes told_is = λ none. then_follows old mid new inner next c text told is only remembers comes (goes none) told_is
then_arm old mid new inner next c text (Err e) is only remembers comes goes told_is = tt

pub again_arm : {E : Type 0} (old mid new : Tokenizer) (inner : CommentState) (c : ℕ) (text : List ℕ) (r : Result (Option TokenKind) E) → old.state ≡ state.Comment inner → OnlyErrors old mid →
    Remembers old mid → Resumes text ≡ came_of inner c → OnOk r (new.refused ≡ false → CommentGoesOn mid new (state_again c) (text ++ encode_utf8_all (added_again c))) → IfOk r (λ told. told ≡ None) →
    Follows old new (c ∷ []) r
again_arm old mid new inner c text (Ok told) is only remembers comes goes told_is = λ none. again_follows old mid new inner c text told is only remembers comes (goes none) told_is
again_arm old mid new inner c text (Err e) is only remembers comes goes told_is = tt
