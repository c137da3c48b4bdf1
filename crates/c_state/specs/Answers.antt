-- What questions and edits of a document answer, and what they leave.
use Rattle.std.specs.Prelude.{ℕ, ◌≡◌, ◌<◌, ◌⊎◌, List, [], Ok, Result, String, IfOk, OnErr, OnOk, length, string_bytes, take}
use Rattle.std.specs.Global.{Global}
use Rattle.dom_links.specs.Forest.{Forest}
use Rattle.dom_trees.specs.Edits.{TreeEdit}
use Rattle.c_state.specs.declared.fault.Fault.{Fault}
use Rattle.c_state.specs.declared.state.State.{State}

-- ---- questions

-- The text is kept, its length is the answer, and as much of it is written as there is room for. The document stays
pub record GivesText (result : Result ℕ Fault) (old new : State) (before after text : List ℕ) : Type 0 where
  pub document : new.document ≡ old.document
  pub kept : IfOk result (λ _. string_bytes new.text ≡ text)
  pub count : IfOk result (λ count. count ≡ length text)
  pub written : IfOk result (λ count. take count after ≡ take (length before) text)

-- A text of which this holds is kept, its length is the answer, and as much of it is written as there is room for. The document stays
pub record GivesTextThat (result : Result ℕ Fault) (old new : State) (before after : List ℕ) (IsIt : String Global → Type 0) : Type 0 where
  pub document : new.document ≡ old.document
  pub kept : IfOk result (λ _. IsIt new.text)
  pub count : IfOk result (λ count. count ≡ length (string_bytes new.text))
  pub written : IfOk result (λ count. take count after ≡ take (length before) (string_bytes new.text))

-- Nodes of which this holds are kept, how many there are is the answer, and as many are written as there is room for. The document stays
pub record GivesNodes (result : Result ℕ Fault) (old new : State) (before after : List ℕ) (AreThey : List ℕ → Type 0) : Type 0 where
  pub document : new.document ≡ old.document
  pub kept : IfOk result (λ _. AreThey new.ids.items)
  pub count : IfOk result (λ count. count ≡ length new.ids.items)
  pub written : IfOk result (λ count. take count after ≡ take (length before) new.ids.items)

-- Nothing is kept any more of what was found. The document stays
pub record Forgets (result : Result ℕ Fault) (old new : State) : Type 0 where
  pub answer : result ≡ Ok 0
  pub document : new.document ≡ old.document
  pub text : string_bytes new.text ≡ []
  pub ids : new.ids.items ≡ []
  pub lengths : new.lengths.items ≡ []

-- The answer is 1 if the statement holds, and 0 if it doesn't
abbrev pub SaysWhether : ℕ → Type 0 → Type 0
SaysWhether answer P = ((answer ≡ 1) × P) ⊎ ((answer ≡ 0) × (P → ⊥))

-- ---- edits

-- The tree is edited, and that was allowed; or the call is refused, and the tree is as it was
pub record EditsTree (result : Result ℕ Fault) (old new : State) (edit : TreeEdit) : Type 0 where
  pub ok : OnOk result (new.document.tree ≡ edit.after old.document.tree)
  pub answer : IfOk result (λ count. count ≡ 0)
  pub allowed : OnOk result (edit.Allowed old.document.tree)
  pub err : OnErr result (new.document.tree ≡ old.document.tree)

-- A node is made, whose number is the answer; or the call is refused, and the tree is as it was
pub record MakesNode (result : Result ℕ Fault) (old new : State) (edit : TreeEdit) : Type 0 where
  pub ok : OnOk result (new.document.tree ≡ edit.after old.document.tree)
  pub answer : IfOk result (λ made. made ≡ length old.document.tree.content)
  pub err : OnErr result (new.document.tree ≡ old.document.tree)

-- The tree becomes one that the relation allows; or the call is refused, and the tree is as it was
pub record ChangesTree (result : Result ℕ Fault) (old new : State) (Becomes : Forest → Forest → Type 0) : Type 0 where
  pub ok : OnOk result (Becomes old.document.tree new.document.tree)
  pub answer : IfOk result (λ count. count ≡ 0)
  pub err : OnErr result (new.document.tree ≡ old.document.tree)
