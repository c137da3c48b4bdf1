-- A text whose front is written, and whose rest is cut at a character that is written by a name.
use Rattle.std.proofs.Common.{◌≡◌, ℕ, List, ◌++◌, Option, sym, ◌∙◌, ap, subst, append_assoc}
use Rattle.std.specs.Io.KnownBytes.{Appends}
use Rattle.std.specs.Str.{IsUtf8}
use Rattle.dom_markup.specs.Writing.{AppendsBeginning}
use Rattle.dom_markup.proofs.html.WritingLemmas.{written-then, beginning-then, beginning-more, fault-inside}

-- what was put of a text that is written so, where the rest of it is left
pub record HasPut (escaped : List ℕ → List ℕ) (old new : Option (List ℕ)) (text rest : List ℕ) : Type 0 where
  pub front : List ℕ
  pub whole : front ++ escaped rest ≡ escaped text
  pub written : Appends old new front
  pub utf8 : IsUtf8 rest

module _ (front before name after rest all : List ℕ) (whole : front ++ rest ≡ all) (cut : rest ≡ before ++ (name ++ after)) where
  -- a fault in what stands before the character
  pub fault_before : (a b c : Option (List ℕ)) → Appends a b front → AppendsBeginning b c before → AppendsBeginning a c all
  fault_before a b c first second = fault-inside a b c front rest all first (subst (AppendsBeginning b c) (sym cut) (beginning-more b c before (name ++ after) second)) whole

  -- a fault in the name
  pub fault_name : (a b c d : Option (List ℕ)) → Appends a b front → Appends b c before → AppendsBeginning c d name → AppendsBeginning a d all
  fault_name a b c d first second third = fault-inside a b d front rest all first (subst (AppendsBeginning b d) (sym cut) (beginning-then b c d before (name ++ after) second (beginning-more c d name after third))) whole

  pub cut_whole : ((front ++ before) ++ name) ++ after ≡ all
  cut_whole = append_assoc (front ++ before) name after ∙ (append_assoc front before (name ++ after) ∙ (ap (λ t. front ++ t) (sym cut) ∙ whole))

  pub cut_written : (a b c d : Option (List ℕ)) → Appends a b front → Appends b c before → Appends c d name → Appends a d ((front ++ before) ++ name)
  cut_written a b c d first second third = written-then a c d (front ++ before) name (written-then a b c front before first second) third
