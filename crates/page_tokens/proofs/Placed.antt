-- Where a tokenizer stands does not depend on the text before the next token, the flags, the errors or the last tag.
use Rattle.std.specs.Prelude.{◌≡◌, ℕ, List, []}
use Rattle.std.proofs.Common.{inl, inr}
use mathlib.Core.Path.{sym, subst}
use Rattle.standard_tokens.specs.Machine.{Machine}
use Rattle.page_tokens.specs.Standard.{Held, Holds, ReferenceHeld, Stands}
use Rattle.page_tokens.specs.declared.tokenizer.Tokenizer.{Tokenizer}
use Rattle.page_tokens.specs.declared.tokenizer.references.Reference.{Reference}
use Rattle.page_tokens.specs.declared.tokenizer.references.Reference.TheVariants as reference
use Rattle.page_tokens.specs.declared.tokenizer.state.AttrState.TheVariants as attr
use Rattle.page_tokens.specs.declared.tokenizer.state.DoctypeState.TheVariants as doctype
use Rattle.page_tokens.specs.declared.tokenizer.state.DoubleState.TheVariants as double
use Rattle.page_tokens.specs.declared.tokenizer.state.EndTagState.TheVariants as end_tag
use Rattle.page_tokens.specs.declared.tokenizer.state.ScriptState.TheVariants as script
use Rattle.page_tokens.specs.declared.tokenizer.state.State.{State}
use Rattle.page_tokens.specs.declared.tokenizer.state.State.TheVariants as state
use Rattle.page_tokens.specs.declared.tokenizer.state.TagState.TheVariants as tag

-- the first tokenizer, with what says nothing of its place taken from the second
abbrev pub beside : Tokenizer → Tokenizer → Tokenizer
beside t u = record t {
  after_return = u.after_return;
  in_foreign = u.in_foreign;
  text = u.text;
  ended = u.ended;
  offset = u.offset;
  errors = u.errors;
  refused = u.refused;
}

held_beside : (s : State) (t u : Tokenizer) (ahead : List ℕ) (m : Machine) → Held s t ahead m → Held s (beside t u) ahead m
held_beside state.Data t u ahead m held = held
held_beside state.Rcdata t u ahead m held = held
held_beside state.Rawtext t u ahead m held = held
held_beside state.Script t u ahead m held = held
held_beside state.Plaintext t u ahead m held = held
held_beside (state.Cdata inner) t u ahead m held = held
held_beside (state.Tag tag.Open) t u ahead m held = held
held_beside (state.Tag tag.EndOpen) t u ahead m held = held
held_beside (state.Tag tag.Name) t u ahead m held = held
held_beside (state.Tag tag.SelfClosing) t u ahead m held = held
held_beside (state.EndTag raw end_tag.LessThan) t u ahead m held = held
held_beside (state.EndTag raw end_tag.Open) t u ahead m held = held
held_beside (state.EndTag raw end_tag.Name) t u ahead m held = held
held_beside (state.ScriptData script.EscapeStart) t u ahead m held = held
held_beside (state.ScriptData script.EscapeStartDash) t u ahead m held = held
held_beside (state.ScriptData script.Escaped) t u ahead m held = held
held_beside (state.ScriptData script.EscapedDash) t u ahead m held = held
held_beside (state.ScriptData script.EscapedDashDash) t u ahead m held = held
held_beside (state.ScriptData script.DoubleStart) t u ahead m held = held
held_beside (state.ScriptData (script.Double double.Escaped)) t u ahead m held = held
held_beside (state.ScriptData (script.Double double.Dash)) t u ahead m held = held
held_beside (state.ScriptData (script.Double double.DashDash)) t u ahead m held = held
held_beside (state.ScriptData (script.Double double.LessThan)) t u ahead m held = held
held_beside (state.ScriptData (script.Double double.End)) t u ahead m held = held
held_beside (state.Attribute attr.BeforeName) t u ahead m held = held
held_beside (state.Attribute attr.Name) t u ahead m held = held
held_beside (state.Attribute attr.AfterName) t u ahead m held = held
held_beside (state.Attribute attr.BeforeValue) t u ahead m held = held
held_beside (state.Attribute attr.Unquoted) t u ahead m held = held
held_beside (state.Attribute attr.AfterQuoted) t u ahead m held = held
held_beside (state.Attribute (attr.Quoted quote)) t u ahead m held = held
held_beside (state.Declaration seen) t u ahead m held = held
held_beside (state.Comment inner) t u ahead m held = held
held_beside (state.Doctype doctype.Begin) t u ahead m held = held
held_beside (state.Doctype doctype.BeforeName) t u ahead m held = held
held_beside (state.Doctype doctype.Name) t u ahead m held = held
held_beside (state.Doctype doctype.AfterName) t u ahead m held = held
held_beside (state.Doctype doctype.BetweenIds) t u ahead m held = held
held_beside (state.Doctype doctype.Bogus) t u ahead m held = held
held_beside (state.Doctype (doctype.Keyword which count)) t u ahead m held = held
held_beside (state.Doctype (doctype.AfterKeyword which)) t u ahead m held = held
held_beside (state.Doctype (doctype.BeforeId which)) t u ahead m held = held
held_beside (state.Doctype (doctype.Quoted which quote)) t u ahead m held = held
held_beside (state.Doctype (doctype.AfterId which)) t u ahead m held = held

inside_beside : (r : Reference) (t u : Tokenizer) (ahead : List ℕ) (m : Machine) → ReferenceHeld r t ahead m → ReferenceHeld r (beside t u) ahead m
inside_beside reference.None t u ahead m held = held
inside_beside reference.Begun t u ahead m held = held
inside_beside (reference.Named found) t u ahead m held = held
inside_beside reference.Ambiguous t u ahead m held = held
inside_beside reference.Number t u ahead m held = held
inside_beside reference.HexStart t u ahead m held = held
inside_beside (reference.Hex number) t u ahead m held = held
inside_beside (reference.Decimal number) t u ahead m held = held

pub stands_beside : (t u : Tokenizer) (ahead : List ℕ) (m : Machine) → Stands t ahead m → Stands (beside t u) ahead m
stands_beside t u ahead m stands = record { reference = stands.reference; state = stands.state; last_start = stands.last_start; held = held_beside t.state t u ahead m stands.held }

holds_beside : (t u : Tokenizer) (ahead : List ℕ) (m : Machine) → Holds t ahead m → Holds (beside t u) ahead m
holds_beside t u ahead m (inl stands) = inl (stands_beside t u ahead m stands)
holds_beside t u ahead m (inr inside) = inr (record {
  state = inside.state;
  back = inside.back;
  last_start = inside.last_start;
  place = inside.place;
  outside = held_beside t.state t u [] m inside.outside;
  inside = inside_beside t.reference t u ahead m inside.inside;
})

-- a machine that stands where the one tokenizer stands stands where the other stands
pub holds_on : (t u : Tokenizer) (ahead : List ℕ) (m : Machine) → u ≡ beside t u → Holds t ahead m → Holds u ahead m
holds_on t u ahead m is holds = subst (λ v. Holds v ahead m) (sym is) (holds_beside t u ahead m holds)
