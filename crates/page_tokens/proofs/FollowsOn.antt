-- What is read by one call and then by another.
use Rattle.std.specs.Prelude.{◌≡◌, ℕ, Bool, List, [], ◌∷◌, ◌++◌, map, Option, None, refl}
use Rattle.std.proofs.Common.{inl, inr}
use Rattle.std.specs.Str.{encode_utf8_all}
use Rattle.std.proofs.lemmas.List.{append-nil, append_assoc}
use Rattle.std.proofs.lemmas.Str.{encodes-append}
use mathlib.Core.Path.{◌∙◌, sym, ap, subst}
use Rattle.standard_tokens.specs.Machine.{Machine}
use Rattle.standard_tokens.specs.Tokens.{AChar}
use Rattle.page_tokens.specs.Reading.{text_of}
use Rattle.page_tokens.specs.Standard.{Behind, FollowsStandard, Goes, Holds, ReferenceHeld, Stands}
use Rattle.page_tokens.specs.declared.token.TokenKind.{TokenKind}
use Rattle.page_tokens.specs.declared.tokenizer.Tokenizer.{Tokenizer}
use Rattle.page_tokens.specs.declared.tokenizer.references.Reference.TheVariants as reference
use Rattle.page_tokens.proofs.StandardSteps.{then_on}

chars_append : (xs ys : List ℕ) → map AChar (xs ++ ys) ≡ map AChar xs ++ map AChar ys
chars_append [] ys = refl
chars_append (x ∷ xs) ys = ap (λ t. AChar x ∷ t) (chars_append xs ys)

-- outside of references, the machine stands where the tokenizer stands
stands_outside : (t : Tokenizer) (ahead : List ℕ) (m : Machine) → t.reference ≡ reference.None → Holds t ahead m → Stands t ahead m
stands_outside t ahead m outside (inl stands) = stands
stands_outside t ahead m outside (inr inside) = absurd (subst (λ r. ReferenceHeld r t ahead m) outside inside.inside)

pub follows_on : (old mid new : Tokenizer) (front back : List ℕ) (told : Option TokenKind) → mid.reference ≡ old.reference → FollowsStandard old mid front None → FollowsStandard mid new back told →
    FollowsStandard old new (front ++ back) told
follows_on old mid new front back told same first second = record {
  memory = first.memory;
  leaves = record { in_foreign = second.leaves.in_foreign ∙ first.leaves.in_foreign; after_return = second.leaves.after_return ∙ first.leaves.after_return };
  reads = λ m ahead rest stands.
      let b : Bool = old.in_foreign in
      let to : Behind old mid front None m ahead (back ++ rest) = first.reads m ahead (back ++ rest) stands in
      let at : Stands mid to.ahead' to.machine = stands_outside mid to.ahead' to.machine (same ∙ stands.reference) to.holds in
      let more : Behind mid new back told to.machine to.ahead' rest = second.reads to.machine to.ahead' rest at in
      let none : map AChar to.characters ++ to.tokens ≡ map AChar to.characters = ap (λ ts. map AChar to.characters ++ ts) to.ends ∙ append-nil (map AChar to.characters) in
      let one : Goes m (ahead ++ front ++ (back ++ rest)) (map AChar to.characters) to.machine (to.ahead' ++ (back ++ rest)) =
      subst (λ ts. Goes m (ahead ++ front ++ (back ++ rest)) ts to.machine (to.ahead' ++ (back ++ rest))) none to.goes in
      let two : Goes to.machine (to.ahead' ++ (back ++ rest)) (map AChar more.characters ++ more.tokens) more.machine (more.ahead' ++ rest) =
      subst (λ text. Goes to.machine text (map AChar more.characters ++ more.tokens) more.machine (more.ahead' ++ rest)) (append_assoc to.ahead' back rest)
      (subst (λ f. Goes to.machine (to.ahead' ++ back ++ rest) (map AChar more.characters ++ more.tokens) more.machine (more.ahead' ++ rest)) first.leaves.in_foreign more.goes) in
      let all : map AChar to.characters ++ (map AChar more.characters ++ more.tokens) ≡ map AChar (to.characters ++ more.characters) ++ more.tokens =
      sym (append_assoc (map AChar to.characters) (map AChar more.characters) more.tokens) ∙ ap (λ ts. ts ++ more.tokens) (sym (chars_append to.characters more.characters)) in
      let read : ahead ++ front ++ (back ++ rest) ≡ ahead ++ (front ++ back) ++ rest =
      sym (append_assoc (ahead ++ front) back rest) ∙ ap (λ e. e ++ rest) (append_assoc ahead front back) in
      record {
        machine = more.machine;
        ahead' = more.ahead';
        characters = to.characters ++ more.characters;
        tokens = more.tokens;
        goes = subst (λ ts. Goes m (ahead ++ (front ++ back) ++ rest) ts more.machine (more.ahead' ++ rest)) all
            (subst (λ text. Goes m text (map AChar to.characters ++ (map AChar more.characters ++ more.tokens)) more.machine (more.ahead' ++ rest)) read (then_on one two));
        holds = more.holds;
        text = more.text ∙ ap (λ e. e ++ encode_utf8_all more.characters) to.text ∙ append_assoc (text_of old) (encode_utf8_all to.characters) (encode_utf8_all more.characters)
            ∙ ap (λ e. text_of old ++ e) (sym (encodes-append to.characters more.characters));
        ends = more.ends;
      };
}
