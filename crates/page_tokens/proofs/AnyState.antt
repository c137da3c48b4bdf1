-- A character is read as the standard reads it, in a reference or outside of one.
use Rattle.std.specs.Prelude.{◌≡◌, ℕ, zero, suc, Bool, true, false, List, [], ◌∷◌, ◌++◌, ◌⊎◌, codes, map, take, Option, None, Result, Ok, Err}
use Rattle.std.proofs.Common.{arith, inl, inr}
use Rattle.std.specs.Str.{encode_utf8_all}
use Rattle.std.proofs.lemmas.Bool.{true≢false}
use Rattle.std.proofs.lemmas.List.{append_assoc}
use Rattle.std.proofs.lemmas.Str.{encodes-append}
use mathlib.Core.Path.{◌∙◌, sym, ap, subst}
use Rattle.standard_tokens.specs.Machine.{Machine}
use Rattle.standard_tokens.specs.Tokens.{Token as StandardToken, AChar}
use Rattle.page_tokens.specs.Reading.{text_of}
use Rattle.page_tokens.specs.References.{FollowsInReference, InFront, ReadsReference}
use Rattle.page_tokens.specs.Standard.{AsksFlag, Behind, Follows, FollowsAsking, FollowsStandard, Goes, Held, Holds, ReferenceHeld}
use Rattle.page_tokens.specs.StandardPages.{FollowsAnywhere, ReadsAnywhere}
use Rattle.page_tokens.specs.StandardStates.{may_begin_cdata}
use Rattle.page_tokens.specs.declared.token.TokenKind.{TokenKind}
use Rattle.page_tokens.specs.declared.tokenizer.Tokenizer.{Tokenizer}
use Rattle.page_tokens.specs.declared.tokenizer.references.Reference.TheVariants as reference
use Rattle.page_tokens.specs.declared.tokenizer.state.Seen.TheVariants as seen
use Rattle.page_tokens.specs.declared.tokenizer.state.State.{State}
use Rattle.page_tokens.specs.declared.tokenizer.state.State.TheVariants as state
use Rattle.page_tokens.proofs.LastSteps.{nil_cons}
use Rattle.page_tokens.proofs.StandardSteps.{then_on}
use Rattle.page_tokens.proofs.TextFollows.{map_append}

-- characters, and then characters and a token
pub joined : (cs ds : List ℕ) (tokens : List StandardToken) → map AChar cs ++ (map AChar ds ++ tokens) ≡ map AChar (cs ++ ds) ++ tokens
joined cs ds tokens = sym (append_assoc (map AChar cs) (map AChar ds) tokens) ∙ ap (λ ts. ts ++ tokens) (sym (map_append AChar cs ds))

pub joined_text : (a b c cs ds : List ℕ) → b ≡ a ++ encode_utf8_all cs → c ≡ b ++ encode_utf8_all ds → c ≡ a ++ encode_utf8_all (cs ++ ds)
joined_text a b c cs ds first second =
    second ∙ ap (λ e. e ++ encode_utf8_all ds) first ∙ append_assoc a (encode_utf8_all cs) (encode_utf8_all ds) ∙ ap (λ e. a ++ e) (sym (encodes-append cs ds))

-- ---- outside of references

pub outside : (old new : Tokenizer) (read : List ℕ) (told : Option TokenKind) → old.reference ≡ reference.None → FollowsStandard old new read told → FollowsAnywhere old new read told
outside old new read told none follows = record { memory = follows.memory; leaves = follows.leaves; reads = λ m ahead rest holds. go m ahead rest holds }
  where
    go : (m : Machine) (ahead rest : List ℕ) → Holds old ahead m → Behind old new read told m ahead rest
    go m ahead rest (inl stands) = follows.reads m ahead rest stands
    go m ahead rest (inr inside) = absurd (subst (λ r. ReferenceHeld r old ahead m) none inside.inside)

-- a character is read in a state in which the flag isn't asked
pub asks_nothing : {E : Type 0} (old new : Tokenizer) (read : List ℕ) (result : Result (Option TokenKind) E) → Follows old new read result → FollowsAsking old new read result
asks_nothing old new read (Ok told) follows = λ memory. inl (follows memory)
asks_nothing old new read (Err e) follows = tt

pub outside_arm : {E : Type 0} (old new : Tokenizer) (read : List ℕ) (result : Result (Option TokenKind) E) → old.reference ≡ reference.None → FollowsAsking old new read result → ReadsAnywhere old new read result
outside_arm old new read (Ok told) none follows = λ memory. go (follows memory)
  where
    go : FollowsStandard old new read told ⊎ AsksFlag old new read told → FollowsAnywhere old new read told ⊎ AsksFlag old new read told
    go (inl one) = inl (outside old new read told none one)
    go (inr asks) = inr asks
outside_arm old new read (Err e) none follows = tt

-- ---- in a reference

pub some_reference : (old : Tokenizer) (inside : Bool) → inside ≡ true → (old.reference ≡ reference.None → inside ≡ false) → old.reference ≡ reference.None → ⊥
some_reference old inside is none e = true≢false (sym is ∙ none e)

-- the character is part of the reference
pub part_arm : (old new : Tokenizer) (c : ℕ) (is_part : Bool) → is_part ≡ true → (old.reference ≡ reference.None → ⊥) → FollowsInReference old new c is_part → new.refused ≡ false → FollowsAnywhere old new (c ∷ []) None ⊎ AsksFlag old new (c ∷ []) None
part_arm old new c is_part part inside follows memory = inl (record { memory = reads.memory; leaves = reads.leaves; reads = λ m ahead rest holds. go m ahead rest holds })
  where
    reads : ReadsReference old new c true
    reads = subst (ReadsReference old new c) part (follows memory)

    go : (m : Machine) (ahead rest : List ℕ) → Holds old ahead m → Behind old new (c ∷ []) None m ahead rest
    go m ahead rest (inl stands) = absurd (inside stands.reference)
    go m ahead rest (inr stands) = reads.reads m ahead rest stands

-- the reference ends in front of the character
in_front : (old mid new : Tokenizer) (c : ℕ) (told : Option TokenKind) → (old.reference ≡ reference.None → ⊥) → ReadsReference old mid c false → FollowsStandard mid new (c ∷ []) told → FollowsAnywhere old new (c ∷ []) told
in_front old mid new c told inside reads follows = record {
  memory = reads.memory;
  leaves = record { in_foreign = follows.leaves.in_foreign ∙ reads.leaves.in_foreign; after_return = follows.leaves.after_return ∙ reads.leaves.after_return };
  reads = λ m ahead rest holds. go m ahead rest holds;
}
  where
    behind : (m : Machine) (ahead rest : List ℕ) → InFront old mid m ahead (c ∷ rest) → Behind old new (c ∷ []) told m ahead rest
    behind m ahead rest front =
        let more : Behind mid new (c ∷ []) told front.machine [] rest = follows.reads front.machine [] rest front.stands in
        record {
          machine = more.machine;
          ahead' = more.ahead';
          characters = front.characters ++ more.characters;
          tokens = more.tokens;
          goes = subst (λ text. Goes m text (map AChar (front.characters ++ more.characters) ++ more.tokens) more.machine (more.ahead' ++ rest)) (sym (append_assoc ahead (c ∷ []) rest))
              (subst (λ ts. Goes m (ahead ++ c ∷ rest) ts more.machine (more.ahead' ++ rest)) (joined front.characters more.characters more.tokens) (then_on front.goes more.goes));
          holds = more.holds;
          text = joined_text (text_of old) (text_of mid) (text_of new) front.characters more.characters front.text more.text;
          ends = more.ends;
        }

    go : (m : Machine) (ahead rest : List ℕ) → Holds old ahead m → Behind old new (c ∷ []) told m ahead rest
    go m ahead rest (inl stands) = absurd (inside stands.reference)
    go m ahead rest (inr stands) = behind m ahead rest (reads.reads m ahead (rest) stands)

-- there the tokenizer has read nothing ahead, so that it doesn't stand where the flag may be asked
nothing_begun : (s : State) (t : Tokenizer) (m : Machine) → may_begin_cdata s ≡ true → Held s t [] m → ⊥
nothing_begun (state.Declaration (seen.Cdata zero)) t m begun held = absurd (omega (arith, held.1.0))
nothing_begun (state.Declaration (seen.Cdata (suc n))) t m begun held = nil_cons 91 (take n (codes "CDATA[")) held.1.2
nothing_begun (state.Declaration seen.Nothing) t m begun held = true≢false (sym begun)
nothing_begun (state.Declaration seen.Dash) t m begun held = true≢false (sym begun)
nothing_begun (state.Declaration (seen.Doctype n)) t m begun held = true≢false (sym begun)
nothing_begun state.Data t m begun held = true≢false (sym begun)
nothing_begun state.Rcdata t m begun held = true≢false (sym begun)
nothing_begun state.Rawtext t m begun held = true≢false (sym begun)
nothing_begun state.Script t m begun held = true≢false (sym begun)
nothing_begun state.Plaintext t m begun held = true≢false (sym begun)
nothing_begun (state.Cdata inner) t m begun held = true≢false (sym begun)
nothing_begun (state.Tag inner) t m begun held = true≢false (sym begun)
nothing_begun (state.EndTag kind inner) t m begun held = true≢false (sym begun)
nothing_begun (state.ScriptData inner) t m begun held = true≢false (sym begun)
nothing_begun (state.Attribute inner) t m begun held = true≢false (sym begun)
nothing_begun (state.Comment inner) t m begun held = true≢false (sym begun)
nothing_begun (state.Doctype inner) t m begun held = true≢false (sym begun)

never_asked : (old mid new : Tokenizer) (c : ℕ) (told : Option TokenKind) → (old.reference ≡ reference.None → ⊥) → ReadsReference old mid c false → AsksFlag mid new (c ∷ []) told → FollowsAnywhere old new (c ∷ []) told
never_asked old mid new c told inside reads asks = record {
  memory = reads.memory;
  leaves = record { in_foreign = asks.leaves.in_foreign ∙ reads.leaves.in_foreign; after_return = asks.leaves.after_return ∙ reads.leaves.after_return };
  reads = λ m ahead rest holds. go m ahead rest holds;
}
  where
    go : (m : Machine) (ahead rest : List ℕ) → Holds old ahead m → Behind old new (c ∷ []) told m ahead rest
    go m ahead rest (inl stands) = absurd (inside stands.reference)
    go m ahead rest (inr stands) = let front : InFront old mid m ahead (c ∷ rest) = reads.reads m ahead rest stands in absurd (nothing_begun mid.state mid front.machine asks.begun front.stands.held)

pub front_arm : {E : Type 0} (old mid new : Tokenizer) (c : ℕ) (is_part : Bool) (result : Result (Option TokenKind) E) → is_part ≡ false → (old.reference ≡ reference.None → ⊥) → FollowsInReference old mid c is_part →
    FollowsAsking mid new (c ∷ []) result → ReadsAnywhere old new (c ∷ []) result
front_arm old mid new c is_part (Ok told) part inside first second = λ memory. go (second memory)
  where
    go : FollowsStandard mid new (c ∷ []) told ⊎ AsksFlag mid new (c ∷ []) told → FollowsAnywhere old new (c ∷ []) told ⊎ AsksFlag old new (c ∷ []) told
    go (inl follows) = inl (in_front old mid new c told inside (subst (ReadsReference old mid c) part (first follows.memory)) follows)
    go (inr asks) = inl (never_asked old mid new c told inside (subst (ReadsReference old mid c) part (first asks.memory)) asks)
front_arm old mid new c is_part (Err e) part inside first second = tt
