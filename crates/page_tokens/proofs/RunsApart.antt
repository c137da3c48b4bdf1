-- No run is read where a CDATA section may begin.
use Rattle.std.specs.Prelude.{◌≡◌, ℕ, false, List, Some, refl}
use Rattle.std.proofs.Common.{inl, inr}
use Rattle.std.proofs.lemmas.Option.{none-some}
use mathlib.Core.Path.{◌∙◌, ap}
use Rattle.page_tokens.specs.FastPaths.{CopiesRun, IsApart}
use Rattle.page_tokens.specs.RunEnds.{run_in}
use Rattle.page_tokens.specs.StandardStates.{may_begin_cdata}
use Rattle.page_tokens.specs.TextStates.{wants_characters_of}
use Rattle.page_tokens.specs.declared.tokenizer.Tokenizer.{Tokenizer}
use Rattle.page_tokens.specs.declared.tokenizer.runs.Run.{Run}
use Rattle.page_tokens.specs.declared.tokenizer.runs.Run.TheVariants as run
use Rattle.page_tokens.specs.declared.tokenizer.state.Id.TheVariants as id
use Rattle.page_tokens.specs.declared.tokenizer.state.Seen.TheVariants as seen
use Rattle.page_tokens.specs.declared.tokenizer.state.State.{State}
use Rattle.page_tokens.specs.declared.tokenizer.state.State.TheVariants as state

state_apart : (s : State) (kind : Run) → run_in s ≡ Some kind → may_begin_cdata s ≡ false
state_apart state.Data kind e = refl
state_apart state.Rcdata kind e = refl
state_apart state.Rawtext kind e = refl
state_apart state.Script kind e = refl
state_apart state.Plaintext kind e = refl
state_apart (state.Cdata inner) kind e = refl
state_apart (state.Tag inner) kind e = refl
state_apart (state.EndTag raw inner) kind e = refl
state_apart (state.ScriptData inner) kind e = refl
state_apart (state.Attribute inner) kind e = refl
state_apart (state.Declaration seen.Nothing) kind e = refl
state_apart (state.Declaration seen.Dash) kind e = refl
state_apart (state.Declaration (seen.Doctype n)) kind e = refl
state_apart (state.Declaration (seen.Cdata n)) kind e = absurd (none-some kind e)
state_apart (state.Comment inner) kind e = refl
state_apart (state.Doctype inner) kind e = refl

same_state : (kind : Run) (old new : Tokenizer) (more : List ℕ) → CopiesRun kind old new more → new.state ≡ old.state
same_state run.Text old new more copies = ap (λ t. t.state) copies.0
same_state run.Raw old new more copies = ap (λ t. t.state) copies.0
same_state run.Plaintext old new more copies = ap (λ t. t.state) copies.0
same_state run.Escaped old new more copies = ap (λ t. t.state) copies.0
same_state run.Comment old new more copies = ap (λ t. t.state) copies.0
same_state run.BogusComment old new more copies = ap (λ t. t.state) copies.0
same_state run.TagName old new more copies = ap (λ t. t.state) copies.0
same_state run.AttrName old new more copies = ap (λ t. t.state) copies.0
same_state (run.AttrValue mark) old new more copies = ap (λ t. t.state) copies.0
same_state run.UnquotedValue old new more copies = ap (λ t. t.state) copies.0
same_state (run.DoctypeId id.Public mark) old new more copies = ap (λ t. t.state) copies.0
same_state (run.DoctypeId id.System mark) old new more copies = ap (λ t. t.state) copies.0
same_state run.Cdata old new more copies = ap (λ t. t.state) copies.0

pub run_apart : (old mid new : Tokenizer) (kind : Run) (front : List ℕ) → run_in old.state ≡ Some kind → CopiesRun kind old mid front → new.state ≡ mid.state → IsApart old new
run_apart old mid new kind front copied copies same = inr (ap may_begin_cdata (same ∙ same_state kind old mid front copies) ∙ state_apart old.state kind copied)

-- characters don't have to be told behind it, if they don't have to be told before
pub wants_none : (old new : Tokenizer) → IsApart old new → wants_characters_of old ≡ false → wants_characters_of new ≡ false
wants_none old new (inl same) wants = ap wants_characters_of same ∙ wants
wants_none old new (inr apart) wants = rw apart refl
