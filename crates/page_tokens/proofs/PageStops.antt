-- The end of the page, wherever the tokenizer stands.
use Rattle.std.specs.Prelude.{◌≡◌, ℕ, Bool, true, false, List, [], ◌∷◌, ◌++◌, map, Option, Result, Ok, Err, IfOk, refl}
use Rattle.std.proofs.Common.{inl, inr}
use Rattle.std.specs.Str.{encode_utf8_all}
use Rattle.std.proofs.lemmas.List.{append-nil, append_assoc}
use mathlib.Core.Path.{◌∙◌, sym, ap, subst}
use Rattle.standard_tokens.specs.Machine.{Machine, step}
use Rattle.standard_tokens.specs.Tokens.{AChar, AnEof}
use Rattle.page_tokens.specs.Changes.{Remembers}
use Rattle.page_tokens.specs.PageEnds.{EndsAsStandard, EndsInReference, EndsMark, EndsPage}
use Rattle.page_tokens.specs.Reading.{text_of}
use Rattle.page_tokens.specs.References.{InFront}
use Rattle.page_tokens.specs.Standard.{Goes, stays, Holds, Stands, Stops}
use Rattle.page_tokens.specs.declared.token.TokenKind.{TokenKind}
use Rattle.page_tokens.specs.declared.tokenizer.Tokenizer.{Tokenizer}
use Rattle.page_tokens.specs.declared.tokenizer.references.Reference.TheVariants as reference
use Rattle.page_tokens.proofs.AnyState.{joined_text}
use Rattle.page_tokens.proofs.Placed.{beside, stands_beside}
use Rattle.page_tokens.proofs.StandardSteps.{then_on}
use Rattle.page_tokens.proofs.TextFollows.{OnlyErrors, map_append}

-- characters are emitted first
behind_characters : (old mid new : Tokenizer) (told : Option TokenKind) (m n : Machine) (ahead more cs : List ℕ) → mid.in_foreign ≡ old.in_foreign → text_of mid ≡ text_of old ++ encode_utf8_all cs →
    Goes m ahead (map AChar cs) n more → Stops mid new told n more → Stops old new told m ahead
behind_characters old mid new told m n ahead more cs same text goes s =
    let b : Bool = old.in_foreign in
    let later : Goes n more (map AChar s.characters) s.machine [] = subst (λ x. Goes n more (map AChar s.characters) s.machine []) same s.goes in
    record {
      machine = s.machine;
      characters = cs ++ s.characters;
      last = s.last;
      tokens = s.tokens;
      goes = subst (λ ts. Goes m ahead ts s.machine []) (sym (map_append AChar cs s.characters)) (then_on goes later);
      stops = subst (λ x. (step x s.machine []).stopped ≡ true) same s.stops;
      emits = subst (λ x. (step x s.machine []).tokens ≡ map AChar s.last ++ s.tokens ++ AnEof ∷ []) same s.emits;
      text = joined_text (text_of old) (text_of mid) (text_of new) cs (s.characters ++ s.last) text s.text ∙ ap (λ e. text_of old ++ encode_utf8_all e) (sym (append_assoc cs s.characters s.last));
      ends = s.ends;
    }

-- errors are collected first
behind_errors : (mid erred : Tokenizer) (ahead : List ℕ) (m : Machine) → OnlyErrors mid erred → Stands mid ahead m → Stands erred ahead m
behind_errors mid erred ahead m only stands =
    let is : erred ≡ beside mid erred = subst (λ x. x ≡ beside mid x) (sym only) refl in
    subst (λ t. Stands t ahead m) (sym is) (stands_beside mid erred ahead m stands)

-- the errors of the end are collected behind the reference, if there is one
ends_page : (old mid erred new : Tokenizer) (told : Option TokenKind) → (old.reference ≡ reference.None → mid ≡ old) → (mid.refused ≡ false → EndsInReference old mid) → OnlyErrors mid erred → Remembers mid erred →
    EndsMark erred new told → EndsPage old new told
ends_page old mid erred new told outside inside only remembers mark = record { memory = (inside memory).memory; stops = λ m ahead holds. go m ahead holds }
  where
    memory : mid.refused ≡ false
    memory = remembers mark.memory

    same : mid.in_foreign ≡ old.in_foreign → erred.in_foreign ≡ old.in_foreign
    same e = ap (λ t. t.in_foreign) only ∙ e

    go : (m : Machine) (ahead : List ℕ) → Holds old ahead m → Stops old new told m ahead
    go m ahead (inl stands) =
        let is : mid ≡ old = outside stands.reference in
        let here : Stands erred ahead m = behind_errors mid erred ahead m only (subst (λ t. Stands t ahead m) (sym is) stands) in
        behind_characters old erred new told m m ahead ahead [] (same (ap (λ t. t.in_foreign) is)) (ap text_of only ∙ ap text_of is ∙ sym (append-nil (text_of old))) stays (mark.stops m ahead here)
    go m ahead (inr stands) =
        let ends : EndsInReference old mid = inside memory in
        let front : InFront old mid m ahead [] = ends.ends m ahead stands in
        let here : Stands erred [] front.machine = behind_errors mid erred [] front.machine only front.stands in
        behind_characters old erred new told m front.machine ahead [] front.characters (same ends.leaves.in_foreign) (ap text_of only ∙ front.text)
        (subst (λ text. Goes m text (map AChar front.characters) front.machine []) (append-nil ahead) front.goes) (mark.stops front.machine [] here)

pub end_arm : {E : Type 0} (old mid erred new : Tokenizer) (told : Option TokenKind) (result : Result (Option TokenKind) E) → (old.reference ≡ reference.None → mid ≡ old) → (mid.refused ≡ false → EndsInReference old mid) →
    OnlyErrors mid erred → Remembers mid erred → (new.refused ≡ false → EndsMark erred new told) → IfOk result (λ kind. kind ≡ told) → IfOk result (λ kind. new.refused ≡ false) → EndsAsStandard old new result
end_arm old mid erred new told (Ok kind) outside inside only remembers mark is memory =
    subst (λ k. EndsPage old new k) (sym is) (ends_page old mid erred new told outside inside only remembers (mark memory))
end_arm old mid erred new told (Err e) outside inside only remembers mark is memory = tt
