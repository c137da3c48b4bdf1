-- The run at the front of a text is read as the standard reads it.
use Rattle.std.specs.Prelude.{◌≡◌, ℕ, suc, ◌+◌, ◌<◌, Bool, true, false, not, ◌==◌, List, [], ◌∷◌, ◌++◌, length, take, drop, Option, None, Some, refl}
use Rattle.std.proofs.Common.{arith, inl, inr}
use Rattle.std.specs.List.{list_all, prefix_len}
use Rattle.std.specs.Str.{IsUtf8, encode_utf8_all}
use Rattle.std.proofs.lemmas.Bool.{cases_Bool}
use Rattle.std.proofs.lemmas.List.{take-append-drop}
use mathlib.Core.Path.{◌∙◌, sym, ap, subst}
use Rattle.standard_tokens.specs.Tokens.{Token as StandardToken}
use Rattle.page_tokens.specs.FastPaths.{CopiesRun, ReadsAny}
use Rattle.page_tokens.specs.RunEnds.{ends_run, run_in, run_len_of}
use Rattle.page_tokens.specs.Standard.{Behind, FollowsStandard, Told}
use Rattle.page_tokens.specs.declared.token.TokenKind.{TokenKind}
use Rattle.page_tokens.specs.declared.token.TokenKind.TheVariants as token
use Rattle.page_tokens.specs.declared.tokenizer.Tokenizer.{Tokenizer}
use Rattle.page_tokens.specs.declared.tokenizer.references.Reference.TheVariants as reference
use Rattle.page_tokens.specs.declared.tokenizer.runs.Run.{Run}
use Rattle.page_tokens.specs.declared.tokenizer.runs.Run.TheVariants as run
use Rattle.page_tokens.specs.declared.tokenizer.state.Id.TheVariants as id
use Rattle.page_tokens.specs.declared.tokenizer.state.Quote.TheVariants as quote
use Rattle.page_tokens.proofs.Placed.{holds_on}
use Rattle.page_tokens.proofs.RunFollows.{NoneEnds, each, is_other}
use Rattle.page_tokens.proofs.RunStates.{run_follows}
use Rattle.page_tokens.proofs.RunSteps.{characters_of_run}

-- ---- where a run ends

-- what ends a run is ASCII
pub low : (kind : Run) (c : ℕ) → ends_run kind c ≡ true → c < 128
low run.Text c h = grind arith
low run.Raw c h = grind arith
low run.Plaintext c h = grind arith
low run.Escaped c h = grind arith
low run.Comment c h = grind arith
low run.BogusComment c h = grind arith
low run.TagName c h = grind arith
low run.AttrName c h = grind arith
low (run.AttrValue quote.Double) c h = grind arith
low (run.AttrValue quote.Single) c h = grind arith
low run.UnquotedValue c h = grind arith
low (run.DoctypeId which quote.Double) c h = grind arith
low (run.DoctypeId which quote.Single) c h = grind arith
low run.Cdata c h = grind arith

pub return_ends : (kind : Run) → ends_run kind 13 ≡ true
return_ends run.Text = refl
return_ends run.Raw = refl
return_ends run.Plaintext = refl
return_ends run.Escaped = refl
return_ends run.Comment = refl
return_ends run.BogusComment = refl
return_ends run.TagName = refl
return_ends run.AttrName = refl
return_ends (run.AttrValue quote.Double) = refl
return_ends (run.AttrValue quote.Single) = refl
return_ends run.UnquotedValue = refl
return_ends (run.DoctypeId which quote.Double) = refl
return_ends (run.DoctypeId which quote.Single) = refl
return_ends run.Cdata = refl

-- no character of a run is a carriage return
pub no_return : (ends : ℕ → Bool) (cs : List ℕ) → ends 13 ≡ true → NoneEnds ends cs → list_all (λ c. not (c == 13)) cs ≡ true
no_return ends [] stops all = refl
no_return ends (c ∷ cs) stops all =
    let parts : (ends c ≡ false) × NoneEnds ends cs = each ends c cs all in
    rw (is_other ends c 13 parts.0 stops, no_return ends cs stops parts.1) refl

-- each element before the first that fails passes
pub front_passes : (p : ℕ → Bool) (xs : List ℕ) → list_all p (take (prefix_len p xs) xs) ≡ true
front_passes p [] = refl
front_passes p (x ∷ xs) = elim (cases_Bool (p x)) [
  | inl t ↦ (
      let one : 1 + prefix_len p xs ≡ suc (prefix_len p xs) = omega arith in
      let more : list_all p (x ∷ take (prefix_len p xs) xs) ≡ true = rw (t, front_passes p xs) refl in
      rw (t, one) more)
  | inr f ↦ rw f refl
]

pub some_characters : (cs front : List ℕ) → encode_utf8_all cs ≡ front → 0 < length front → 0 < length cs
some_characters [] front spelled some = let none : 0 < 0 = subst (λ (bytes : List ℕ). 0 < length bytes) (sym spelled) some in absurd (omega (arith, none))
some_characters (c ∷ cs) front spelled some = omega arith

-- ---- the place in the page

told_same : (told : Option TokenKind) (t : Tokenizer) (place : ℕ) (tokens : List StandardToken) → Told told t tokens → Told told (record t { offset = place }) tokens
told_same None t place tokens ends = ends
told_same (Some token.Comment) t place tokens ends = ends
told_same (Some token.Doctype) t place tokens ends = ends
told_same (Some token.Tag) t place tokens ends = ends

-- what is read does not depend on it
pub placed : (old mid new : Tokenizer) (read : List ℕ) (told : Option TokenKind) → new ≡ record mid { offset = new.offset } → FollowsStandard old mid read told → FollowsStandard old new read told
placed old mid new read told is follows = subst (λ t. FollowsStandard old t read told) (sym is) (record {
  memory = follows.memory;
  leaves = record { in_foreign = follows.leaves.in_foreign; after_return = follows.leaves.after_return };
  reads = λ m ahead rest stands.
      let made : Tokenizer = record mid { offset = new.offset } in
      let to : Behind old mid read told m ahead rest = follows.reads m ahead rest stands in
      record {
        machine = to.machine;
        ahead' = to.ahead';
        characters = to.characters;
        tokens = to.tokens;
        goes = to.goes;
        holds = holds_on mid made to.ahead' to.machine refl to.holds;
        text = to.text;
        ends = told_same told mid new.offset to.tokens to.ends;
      };
})

-- ---- the run

same_memory : (kind : Run) (old new : Tokenizer) (more : List ℕ) → CopiesRun kind old new more → new.refused ≡ old.refused
same_memory run.Text old new more copies = ap (λ t. t.refused) copies.0
same_memory run.Raw old new more copies = ap (λ t. t.refused) copies.0
same_memory run.Plaintext old new more copies = ap (λ t. t.refused) copies.0
same_memory run.Escaped old new more copies = ap (λ t. t.refused) copies.0
same_memory run.Comment old new more copies = ap (λ t. t.refused) copies.0
same_memory run.BogusComment old new more copies = ap (λ t. t.refused) copies.0
same_memory run.TagName old new more copies = ap (λ t. t.refused) copies.0
same_memory run.AttrName old new more copies = ap (λ t. t.refused) copies.0
same_memory (run.AttrValue mark) old new more copies = ap (λ t. t.refused) copies.0
same_memory run.UnquotedValue old new more copies = ap (λ t. t.refused) copies.0
same_memory (run.DoctypeId id.Public mark) old new more copies = ap (λ t. t.refused) copies.0
same_memory (run.DoctypeId id.System mark) old new more copies = ap (λ t. t.refused) copies.0
same_memory run.Cdata old new more copies = ap (λ t. t.refused) copies.0

pub front_read : (old mid new : Tokenizer) (kind : Run) (text front rest : List ℕ) (n : ℕ) → old.reference ≡ reference.None → old.after_return ≡ false → run_in old.state ≡ Some kind → IsUtf8 front → front ≡ take n text →
    rest ≡ drop n text → n ≡ run_len_of kind text → 0 < length front → CopiesRun kind old mid front → new ≡ record mid { offset = new.offset } → ReadsAny old new text rest None
front_read old mid new kind text front rest n outside fresh copied utf8 front_is rest_is len some copies new_is =
    let ends : ℕ → Bool = ends_run kind in
    let cs : List ℕ = utf8.0 in
    let spelled : encode_utf8_all cs ≡ front = utf8.1.1 in
    let bytes : list_all (λ b. not (ends b)) (encode_utf8_all cs) ≡ true =
    ap (list_all (λ b. not (ends b))) (spelled ∙ front_is ∙ ap (λ k. take k text) len) ∙ front_passes (λ b. not (ends b)) text in
    let all : NoneEnds ends cs = characters_of_run ends (low kind) cs bytes in
    inr (record {
      outside = outside;
      fresh = fresh;
      read = cs;
      some = some_characters cs front spelled some;
      cut = sym (take-append-drop n text) ∙ ap (λ e. e ++ drop n text) (sym front_is ∙ sym spelled) ∙ ap (λ e. encode_utf8_all cs ++ e) (sym rest_is);
      no_return = no_return ends cs (return_ends kind) all;
      follows = λ free.
          placed old mid new cs None new_is
          (run_follows old.state kind copied old mid cs refl (subst (CopiesRun kind old mid) (sym spelled) copies) (some_characters cs front spelled some)
          (sym (same_memory kind old mid front copies) ∙ sym (ap (λ t. t.refused) new_is) ∙ free) all);
      last = λ free. tt;
    })
