-- The end of the page in a comment, or behind `<!`.
use Rattle.std.specs.Prelude.{◌≡◌, ℕ, Bool, true, List, [], ◌∷◌, Some, refl}
use Rattle.std.proofs.lemmas.List.{append-nil}
use mathlib.Core.Path.{◌∙◌, sym, ap, subst}
use Rattle.standard_tokens.specs.Entries.{Reconsume}
use Rattle.standard_tokens.specs.Machine.{Machine, step, taken}
use Rattle.standard_tokens.specs.States as there
use Rattle.standard_tokens.specs.Table.{entries}
use Rattle.standard_tokens.specs.Tokens.{AComment, AnEof}
use Rattle.page_tokens.specs.Reading.{text_of}
use Rattle.page_tokens.specs.Standard.{Goes, stays, Spells, StopsAsStandard}
use Rattle.page_tokens.specs.StandardStates.{comment_state_of}
use Rattle.page_tokens.specs.declared.token.TokenKind.TheVariants as token
use Rattle.page_tokens.specs.declared.tokenizer.Tokenizer.{Tokenizer}
use Rattle.page_tokens.specs.declared.tokenizer.state.CommentState.{CommentState}
use Rattle.page_tokens.specs.declared.tokenizer.state.CommentState.TheVariants.{Bogus, Start, StartDash, Comment, LessThan, LessThanBang, LessThanBangDash, LessThanBangDashDash, EndDash, End, EndBang}
use Rattle.page_tokens.specs.declared.tokenizer.state.State.TheVariants as state
use Rattle.page_tokens.proofs.CommentFollows.{InComment, in_comment}
use Rattle.page_tokens.proofs.CommentSteps.{commenting}
use Rattle.page_tokens.proofs.StandardSteps.{by_entry, taking}

-- where the machine stops
record Stopping (b : Bool) (m : Machine) (text : List ℕ) (d : List ℕ) : Type 0 where
  pub machine : Machine
  pub goes : Goes m text [] machine []
  pub stops : (step b machine []).stopped ≡ true
  pub emits : (step b machine []).tokens ≡ AComment d ∷ AnEof ∷ []

comment_stops : (inner : CommentState) (b : Bool) (m : Machine) (d : List ℕ) → Stopping b (commenting m (comment_state_of inner) d) [] d
unfolding step taken entries
comment_stops Bogus b m d = record { machine = commenting m there.BogusComment d; goes = stays; stops = refl; emits = refl }
comment_stops Start b m d =
    record { machine = commenting m there.CommentState d; goes = by_entry (commenting m there.CommentStart d) [] (taking [] (Reconsume there.CommentState) []) (λ x. refl) refl; stops = refl; emits = refl }
comment_stops StartDash b m d = record { machine = commenting m there.CommentStartDash d; goes = stays; stops = refl; emits = refl }
comment_stops Comment b m d = record { machine = commenting m there.CommentState d; goes = stays; stops = refl; emits = refl }
comment_stops LessThan b m d =
    record { machine = commenting m there.CommentState d; goes = by_entry (commenting m there.CommentLessThanSign d) [] (taking [] (Reconsume there.CommentState) []) (λ x. refl) refl; stops = refl; emits = refl }
comment_stops LessThanBang b m d =
    record { machine = commenting m there.CommentState d; goes = by_entry (commenting m there.CommentLessThanSignBang d) [] (taking [] (Reconsume there.CommentState) []) (λ x. refl) refl; stops = refl; emits = refl }
comment_stops LessThanBangDash b m d =
    record { machine = commenting m there.CommentEndDash d; goes = by_entry (commenting m there.CommentLessThanSignBangDash d) [] (taking [] (Reconsume there.CommentEndDash) []) (λ x. refl) refl; stops = refl; emits = refl }
comment_stops LessThanBangDashDash b m d =
    record { machine = commenting m there.CommentEnd d; goes = by_entry (commenting m there.CommentLessThanSignBangDashDash d) [] (taking [] (Reconsume there.CommentEnd) []) (λ x. refl) refl; stops = refl; emits = refl }
comment_stops EndDash b m d = record { machine = commenting m there.CommentEndDash d; goes = stays; stops = refl; emits = refl }
comment_stops End b m d = record { machine = commenting m there.CommentEnd d; goes = stays; stops = refl; emits = refl }
comment_stops EndBang b m d = record { machine = commenting m there.CommentEndBang d; goes = stays; stops = refl; emits = refl }

-- the page ends in a comment
pub comment_end : (old new : Tokenizer) (inner : CommentState) → old.state ≡ state.Comment inner → new ≡ record old { state = state.Data } → StopsAsStandard old new (Some token.Comment)
comment_end old new inner is only m ahead stands =
    let at : InComment old inner ahead m = in_comment old inner ahead m is stands in
    let b : Bool = old.in_foreign in
    let stopping : Stopping b (commenting m (comment_state_of inner) m.comment) [] m.comment = comment_stops inner b m m.comment in
    record {
      machine = stopping.machine;
      characters = [];
      last = [];
      tokens = AComment m.comment ∷ [];
      goes = subst (λ text. Goes m text [] stopping.machine []) (sym at.nothing) (subst (λ k. Goes k [] [] stopping.machine []) at.machine stopping.goes);
      stops = stopping.stops;
      emits = stopping.emits;
      text = ap text_of only ∙ sym (append-nil (text_of old));
      ends = (m.comment, refl, subst (λ (t : Tokenizer). Spells t.comment m.comment) (sym only) at.comment);
    }
