-- What calls on a policy answer, what they leave, and what is cleaned.
use Rattle.std.specs.Prelude.{ℕ, ◌≡◌, true, false, List, [], Ok, Result, IfErr, IfOk, length, string_bytes, take}
use Rattle.dom_markup.specs.Numbered.{document_of}
use Rattle.dom_markup.specs.ValueTrees.{ValueTrees}
use Rattle.dom_links.specs.Forest.{Forest}
use Rattle.calm_pages.specs.Calm.{IsCalmPage}
use Rattle.dom_clean.specs.Cleaned.{cleaned_below, cleaned_body}
use Rattle.dom_clean.specs.Laws.{left_below, page_around, page_of}
use Rattle.dom_clean.specs.Parsed.{IsCleanedAs, IsCleanedPage, IsCleanedText}
use Rattle.dom_clean.specs.Policy.{Policy, is_sound}
use Rattle.dom_clean.specs.Written.{text_of}
use Rattle.c_state.specs.declared.fault.Fault.{Fault}
use Rattle.c_state.specs.declared.policies.PolicyState.{PolicyState}
use Rattle.c_state.specs.declared.policies.Stage.{Stage}
use Rattle.c_state.specs.declared.policies.Stage.TheVariants.{Draft, Ready, Refused}

-- ---- how a policy is made

abbrev pub IsDraft : Stage → Type 0
IsDraft (Draft rules) = Unit {0}
IsDraft stage = ⊥

-- A draft stays one, and its rules become others that the relation allows
abbrev pub IsRedrafted : Stage → Stage → (Policy → Policy → Type 0) → Type 0
IsRedrafted (Draft old) (Draft new) Becomes = Becomes old new
IsRedrafted old new Becomes = ⊥

-- The rules of a draft become others; or the call is refused, and so is the policy from then on
pub record ChangesRules (result : Result ℕ Fault) (old new : PolicyState) (Becomes : Policy → Policy → Type 0) : Type 0 where
  pub ok : IfOk result (λ _. IsRedrafted old.stage new.stage Becomes)
  pub answer : IfOk result (λ count. count ≡ 0)
  pub err : IfErr result (λ fault. new.stage ≡ Refused fault)

-- The policy is that of the rules, which are sound
abbrev pub IsFinished : Stage → Stage → Type 0
IsFinished (Draft rules) (Ready policy) = (policy ≡ rules) × (is_sound rules ≡ true)
IsFinished old new = ⊥

-- If these are rules, they aren't sound
abbrev pub IsUnsound : Stage → Type 0
IsUnsound (Draft rules) = is_sound rules ≡ false
IsUnsound stage = Unit {0}

-- Sound rules become a policy; or the call is refused, and so is the policy from then on
pub record Finishes (result : Result ℕ Fault) (old new : PolicyState) : Type 0 where
  pub ok : IfOk result (λ _. IsFinished old.stage new.stage)
  pub answer : IfOk result (λ count. count ≡ 0)
  pub unsound : IfErr result (λ _. IsUnsound old.stage)
  pub err : IfErr result (λ fault. new.stage ≡ Refused fault)

-- ---- what is cleaned, in the words of the library's own contracts

-- The text of what the policy leaves of a fragment
pub record IsCleanFragment (policy : Policy) (source text : List ℕ) : Type 0 where
  pub cleaned : IsCleanedText policy text
  pub calm : (body : ValueTrees) → IsCalmPage (page_around source) (page_of body) → text ≡ text_of (cleaned_below policy (document_of (page_of body)) 5)

-- The page with what the policy leaves of the body of a page
pub record IsCleanPage (policy : Policy) (source page : List ℕ) : Type 0 where
  pub cleaned : IsCleanedPage policy page
  pub calm : (trees : ValueTrees) → IsCalmPage source trees → page ≡ page_around (text_of (cleaned_body policy (document_of trees)))

-- The text of what the policy leaves of the children of the root
pub record IsCleanTree (policy : Policy) (forest : Forest) (text : List ℕ) : Type 0 where
  pub is : text ≡ text_of (cleaned_below policy forest 0)
  pub cleaned : IsCleanedAs policy text (left_below policy forest 0)

-- The policy is ready, and this is true of it
abbrev pub IfReady : Stage → (Policy → Type 0) → Type 0
IfReady (Ready policy) Holds = Holds policy
IfReady stage Holds = ⊥

-- A text is kept of which this is true by the policy, its length is the answer, and as much of it is written as there is room for.
-- The policy stays
pub record Cleans (result : Result ℕ Fault) (old new : PolicyState) (before after : List ℕ) (IsIt : Policy → List ℕ → Type 0) : Type 0 where
  pub policy : new.stage ≡ old.stage
  pub kept : IfOk result (λ _. IfReady old.stage (λ policy. IsIt policy (string_bytes new.text)))
  pub count : IfOk result (λ count. count ≡ length (string_bytes new.text))
  pub written : IfOk result (λ count. take count after ≡ take (length before) (string_bytes new.text))

-- No text is kept any more. The policy stays
pub record ForgetsText (result : Result ℕ Fault) (old new : PolicyState) : Type 0 where
  pub answer : result ≡ Ok 0
  pub policy : new.stage ≡ old.stage
  pub text : string_bytes new.text ≡ []
