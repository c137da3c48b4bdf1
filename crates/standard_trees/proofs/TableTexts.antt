-- The pending characters of a table, processed using the rules for "in body": how many elements are open behind them.
use Rattle.std.specs.Prelude.{◌≡◌, ◌+◌, ◌≤◌, ◌==◌, ◌||◌, ◌++◌, refl, ℕ, suc, Bool, true, false, List, [], ◌∷◌, Option, None, Some, drop, length, nat_eq}
use Rattle.std.specs.Prelude.{reverse}
use Rattle.std.specs.Option.{option_and_then}
use Rattle.std.proofs.Common.{arith}
use Rattle.std.proofs.lemmas.List.{length-reverse}
use mathlib.Core.Path.{◌∙◌, sym, ap, subst}
use Rattle.standard_tokens.specs.Tokens.{AChar}
use Rattle.standard_trees.specs.RuleWords.{Act, FramesetNotOk, InBody, InsertCharacter, Mode, ReconstructFormatting, does}
use Rattle.standard_trees.specs.TreeRules.{rules}
use Rattle.standard_trees.specs.TreeStore.{ContentsNode, ElementNode, Html, NodeAttr, Space, TextNode, is_member, node_before, text_in}
use Rattle.standard_trees.specs.GrowingTree.{Entry, Formatting, GrowingTree, Marker, created, created_at, created_element, current, fresh, inserted, is_template, kind_of}
use Rattle.standard_trees.specs.GrowingTree.{place, place_is_document, text_behind, top, with_char, with_chars, with_text}
use Rattle.standard_trees.specs.Formatting.{attrs_of, closed_entries, local_of, reconstructed, reopened}
use Rattle.standard_trees.specs.Building.{Building, char_of, each_char, is_space, perform, performed, run, taken, with_token, with_tree}
use Rattle.standard_trees.proofs.KeptModes.{Good}

-- ---- how many elements may be open

-- the elements that reconstructing the active formatting elements opens
abbrev pub closed : GrowingTree → List ℕ
closed t = closed_entries t.stack t.listed

-- the open elements, and those
abbrev pub room : GrowingTree → ℕ
room t = length (closed t) + length t.stack

few_closed : (stack : List ℕ) (es : List Entry) → length (closed_entries stack es) ≤ length es
few_closed stack [] = omega arith
few_closed stack (Marker ∷ es) = omega arith
few_closed stack (Formatting n ∷ es) = by (is_member n stack) (few_closed stack es)
  where
    by : (x : Bool) → length (closed_entries stack es) ≤ length es → length {A = ℕ} (elim x [ true ↦ [] | false ↦ n ∷ closed_entries stack es ]) ≤ suc (length es)
    by true h = omega arith
    by false h = omega (arith, h)

pub room_below : (t : GrowingTree) → room t ≤ length t.stack + length t.listed
room_below t = omega (arith, few_closed t.stack t.listed)

pub stack_below : (t : GrowingTree) → length t.stack ≤ room t
stack_below t = omega arith

-- ---- an element is inserted

created_stack : (space : Space) (name : List ℕ) (attrs : List NodeAttr) (t : GrowingTree) → (created_element space name attrs t).stack ≡ t.stack
created_stack space name attrs t = by (is_template space name)
  where
    by : (x : Bool) → (elim x as (λ _. GrowingTree) [
      | true ↦ created ContentsNode (created (ElementNode space name attrs (Some (suc (fresh t)))) t)
      | false ↦ created (ElementNode space name attrs None) t
    ]).stack ≡ t.stack
    by true = refl
    by false = refl

inserted_stack : (space : Space) (name : List ℕ) (attrs : List NodeAttr) (t : GrowingTree) → (inserted space name attrs t).stack ≡ fresh t ∷ t.stack
inserted_stack space name attrs t = ap (λ (s : List ℕ). fresh t ∷ s) (created_stack space name attrs t)

-- ---- reconstructing

opened : ℕ → GrowingTree → GrowingTree
opened n t = inserted Html (local_of t n) (attrs_of t n) t

listed_again : ℕ → GrowingTree → GrowingTree
listed_again n t = record (opened n t) { listed = Formatting (current (opened n t)) ∷ (opened n t).listed }

again_stack : (n : ℕ) (t : GrowingTree) → (listed_again n t).stack ≡ fresh t ∷ t.stack
unfolding opened listed_again
again_stack n t = inserted_stack Html (local_of t n) (attrs_of t n) t

reopened_next : (n : ℕ) (ns : List ℕ) (t : GrowingTree) → reopened (n ∷ ns) t ≡ reopened ns (listed_again n t)
unfolding opened listed_again
reopened_next n ns t = refl

reopened_length : (ns : List ℕ) (t : GrowingTree) → length (reopened ns t).stack ≡ length ns + length t.stack
reopened_length [] t = omega arith
reopened_length (n ∷ ns) t =
    let k : length (reopened ns (listed_again n t)).stack ≡ length ns + length (listed_again n t).stack = reopened_length ns (listed_again n t) in
    let e : length (listed_again n t).stack ≡ suc (length t.stack) = ap length (again_stack n t) in
    ap (λ (u : GrowingTree). length u.stack) (reopened_next n ns t) ∙ omega (arith, k, e)

itself : (n : ℕ) (ns : List ℕ) → is_member n (n ∷ ns) ≡ true
itself n ns = ap (λ x. x || is_member n ns) (same n)
  where
    same : (m : ℕ) → nat_eq m m ≡ true
    same m = grind arith

-- the last one is open
none_closed : (n m : ℕ) (s stack : List ℕ) (es : List Entry) → stack ≡ m ∷ s → n ≡ m → closed_entries stack (Formatting n ∷ es) ≡ []
none_closed n m s stack es e same =
    ap (λ (x : Bool). elim x as (λ _. List ℕ) [ true ↦ [] | false ↦ n ∷ closed_entries stack es ])
    (ap (is_member n) e ∙ ap (λ k. is_member k (m ∷ s)) same ∙ itself m s)

again_closed : (n : ℕ) (t : GrowingTree) → closed (listed_again n t) ≡ []
unfolding opened listed_again
again_closed n t =
    let e : (listed_again n t).stack ≡ fresh t ∷ t.stack = again_stack n t in
    none_closed (current (opened n t)) (fresh t) t.stack (listed_again n t).stack (opened n t).listed e (ap top e)

reopened_closed : (n : ℕ) (ns : List ℕ) (t : GrowingTree) → closed (reopened (n ∷ ns) t) ≡ []
reopened_closed n [] t = ap closed (reopened_next n [] t) ∙ again_closed n t
reopened_closed n (m ∷ ms) t = ap closed (reopened_next n (m ∷ ms) t) ∙ reopened_closed m ms (listed_again n t)

pub reconstructed_closed : (t : GrowingTree) → closed (reconstructed t) ≡ []
reconstructed_closed t = by (closed t) refl
  where
    over : List ℕ → GrowingTree
    over ns = record t { listed = drop (length ns) t.listed }

    turned : (n : ℕ) (ns : List ℕ) (ms : List ℕ) → reverse (n ∷ ns) ≡ ms → closed (reopened ms (over (n ∷ ns))) ≡ []
    turned n ns [] e = (let k : suc (length ns) ≡ 0 = sym (length-reverse (n ∷ ns)) ∙ ap length e in absurd (omega (arith, k)))
    turned n ns (m ∷ ms) e = reopened_closed m ms (over (n ∷ ns))

    by : (ns : List ℕ) → closed t ≡ ns → closed (reopened (reverse ns) (over ns)) ≡ []
    by [] e = e
    by (n ∷ ns) e = turned n ns (reverse (n ∷ ns)) refl

pub room_reconstructed : (t : GrowingTree) → room (reconstructed t) ≡ room t
room_reconstructed t =
    let none : length (closed (reconstructed t)) ≡ 0 = ap length (reconstructed_closed t) in
    let all : length (reconstructed t).stack ≡ length (reverse (closed t)) + length t.stack = reopened_length (reverse (closed t)) (record t { listed = drop (length (closed t)) t.listed }) in
    let same : length (reverse (closed t)) ≡ length (closed t) = length-reverse (closed t) in
    omega (arith, none, all, same)

-- ---- a character

-- the stack and the list stay the same
abbrev SameLists : GrowingTree → GrowingTree → Type 0
SameLists t u = (u.stack ≡ t.stack) × (u.listed ≡ t.listed)

room_same : (t u : GrowingTree) → SameLists t u → room u ≡ room t
room_same t u same =
    ap (λ (s : List ℕ). length (closed_entries s u.listed) + length s) same.0 ∙ ap (λ (l : List Entry). length (closed_entries t.stack l) + length t.stack) same.1

char_lists : (c : ℕ) (t : GrowingTree) → SameLists t (with_char c t)
char_lists c t = by_place (place_is_document t (place t))
  where
    by_text : (n : ℕ) (o : Option (List ℕ)) → SameLists t (elim o as (λ _. GrowingTree) [
      | Some text ↦ with_text t n (text ++ c ∷ [])
      | None ↦ created_at (place t) (TextNode (c ∷ [])) t
    ])
    by_text n (Some text) = (refl, refl)
    by_text n None = (refl, refl)

    by_node : (o : Option ℕ) → SameLists t (text_behind o (place t) c t)
    by_node None = (refl, refl)
    by_node (Some n) = by_text n (text_in (kind_of t n))

    by_place : (x : Bool) → SameLists t (elim x as (λ _. GrowingTree) [ true ↦ t | false ↦ text_behind (node_before t.nodes (place t)) (place t) c t ])
    by_place true = (refl, refl)
    by_place false = by_node (node_before t.nodes (place t))

pub chars_stack : (cs : List ℕ) (t : GrowingTree) → (with_chars cs t).stack ≡ t.stack
chars_stack [] t = refl
chars_stack (c ∷ cs) t = chars_stack cs (with_char c t) ∙ (char_lists c t).0

-- reconstructed, and with a character
abbrev written : ℕ → GrowingTree → GrowingTree
written c t = with_char c (reconstructed t)

room_written : (c : ℕ) (t : GrowingTree) → room (written c t) ≡ room t
room_written c t = room_same (reconstructed t) (written c t) (char_lists c (reconstructed t)) ∙ room_reconstructed t

-- ---- the pending characters

-- the building is good, has these template insertion modes, and so many elements may be open
pub record Holds (modes : List Mode) (m : ℕ) (b : Building) : Type 0 where
  pub good : Good b
  pub modes_are : b.template_modes ≡ modes
  pub few : room b.tree ≤ m

abbrev body_acts : ℕ → List Act
body_acts x = elim (x == 0 || false) [
  | true ↦ []
  | false ↦ elim (is_space x || false) [
    | true ↦ does ReconstructFormatting [] ∷ does InsertCharacter [] ∷ []
    | false ↦ does ReconstructFormatting [] ∷ does InsertCharacter [] ∷ does FramesetNotOk [] ∷ []
  ]
]

body_taken : (x : ℕ) (b : Building) → taken (with_token (AChar x) [] b) (rules InBody) ≡ body_acts x
unfolding rules taken
body_taken x b = refl

abbrev pub CharEnds : List Mode → ℕ → Option Building → Type 0
CharEnds modes m o = (c : Building) × (o ≡ Some c) × Holds modes m c

body_char : (modes : List Mode) (m : ℕ) (again : Mode → Building → Option Building) (x : ℕ) (b : Building) → b.token ≡ AChar x → Holds modes m b →
    CharEnds modes m (performed again (body_acts x) b)
unfolding perform
body_char modes m again x b char h = by (x == 0 || false) (is_space x || false)
  where
    new : Building
    new = with_tree b (with_chars (char_of b.token) (reconstructed b.tree))

    room_new : room new.tree ≡ room b.tree
    room_new = ap (λ t. room (with_chars (char_of t) (reconstructed b.tree))) char ∙ room_written x b.tree

    by : (y z : Bool) → CharEnds modes m (performed again (elim y [
      | true ↦ []
      | false ↦ elim z [
        | true ↦ does ReconstructFormatting [] ∷ does InsertCharacter [] ∷ []
        | false ↦ does ReconstructFormatting [] ∷ does InsertCharacter [] ∷ does FramesetNotOk [] ∷ []
      ]
    ]) b)
    by true z = (b, refl, h)
    by false true = (new, refl, record { good = h.good; modes_are = h.modes_are; few = omega (arith, room_new, h.few) })
    by false false = (record new { frameset_ok = false }, refl, record { good = h.good; modes_are = h.modes_are; few = omega (arith, room_new, h.few) })

run_char : (modes : List Mode) (m d : ℕ) (x : ℕ) (b : Building) → Holds modes m b → CharEnds modes m (run (suc d) InBody (with_token (AChar x) [] b))
unfolding run
run_char modes m d x b h =
    let now : Building = with_token (AChar x) [] b in
    subst (λ acts. CharEnds modes m (performed (run d) acts now)) (sym (body_taken x b))
    (body_char modes m (run d) x now refl (record { good = h.good; modes_are = h.modes_are; few = h.few }))

-- each of them
pub chars_run : (modes : List Mode) (m d : ℕ) (xs : List ℕ) (b : Building) → Holds modes m b → CharEnds modes m (each_char (run (suc d) InBody) xs b)
chars_run modes m d [] b h = (b, refl, h)
chars_run modes m d (x ∷ xs) b h =
    let first : CharEnds modes m (run (suc d) InBody (with_token (AChar x) [] b)) = run_char modes m d x b h in
    let rest : CharEnds modes m (each_char (run (suc d) InBody) xs first.0) = chars_run modes m d xs first.0 first.2 in
    (rest.0, ap (option_and_then (each_char (run (suc d) InBody) xs)) first.1 ∙ rest.1, rest.2)
