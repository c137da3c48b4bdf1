-- A text of which a front has been read.
use Rattle.std.proofs.Common.{◌≡◌, ◌≢◌, ℕ, List, [], ◌∷◌, ◌++◌, refl, sym, ap, subst}
use Rattle.dom_markup.specs.Names.{Mode}
use Rattle.dom_markup.specs.Markup.{Item, Begins, BeginsNothing, SpellsItemsUpTo, mode_after, mode_past}
use Rattle.dom_markup.proofs.grammar.OneReading.{Begins-same, nothing_begins, SpellsItems}

pub mode_past-push : (mode : Mode) (items : List Item) (item : Item) → mode_past mode (items ++ item ∷ []) ≡ mode_after (mode_past mode items) item
mode_past-push mode [] item = refl
mode_past-push mode (i ∷ items) item = mode_past-push (mode_after mode i) items item

pub SpellsItemsUpTo-push : (mode : Mode) (text : List ℕ) (items : List Item) (rest : List ℕ) (item : Item) (later : List ℕ) → SpellsItemsUpTo mode text items rest → Begins (mode_past mode items) rest item later → SpellsItemsUpTo mode text (items ++ item ∷ []) later
SpellsItemsUpTo-push mode text [] rest item later s b = (later, subst (λ (t : List ℕ). Begins mode t item later) (sym s) b, refl)
SpellsItemsUpTo-push mode text (i ∷ items) rest item later s b = (s.0, s.1, SpellsItemsUpTo-push (mode_after mode i) s.0 items rest item later s.2 b)

pub SpellsItems-from_front : (mode : Mode) (text : List ℕ) (items : List Item) (rest : List ℕ) → SpellsItemsUpTo mode text items rest → rest ≡ [] → SpellsItems mode text items
SpellsItems-from_front mode text items rest s e = subst (λ (t : List ℕ). SpellsItemsUpTo mode text items t) e s

-- what the whole text spells goes on from there
pub items_left : (mode : Mode) (text : List ℕ) (items : List Item) (rest : List ℕ) (all : List Item) → SpellsItemsUpTo mode text items rest → SpellsItems mode text all → (more : List Item) × (all ≡ items ++ more) × SpellsItems (mode_past mode items) rest more
items_left mode text [] rest all s a = (all, refl, subst (λ (t : List ℕ). SpellsItems mode t all) s a)
items_left mode text (i ∷ items) rest [] s a = absurd (nothing_begins mode text i s.0 a s.1)
items_left mode text (i ∷ items) rest (j ∷ all) s a =
    let same = Begins-same mode text i j s.0 a.0 s.1 a.1 in
    let moved : SpellsItems (mode_after mode i) s.0 all = subst (λ (t : List ℕ). SpellsItems (mode_after mode i) t all) (sym same.1) (subst (λ (k : Item). SpellsItems (mode_after mode k) a.0 all) (sym same.0) a.2) in
    let inner = items_left (mode_after mode i) s.0 items rest all s.2 moved in
    (inner.0, cc (same.0, inner.1), inner.2)

-- where nothing begins and something is left, no items are spelled
pub nothing_left : (mode : Mode) (rest : List ℕ) (more : List Item) → rest ≢ [] → BeginsNothing mode rest → SpellsItems mode rest more → ⊥
nothing_left mode rest [] some none s = some s
nothing_left mode rest (i ∷ more) some none s = none i s.0 s.1

-- the first item left is the one that begins there
pub first_left : (mode : Mode) (rest : List ℕ) (more : List Item) (item : Item) (later : List ℕ) → Begins mode rest item later → SpellsItems mode rest more → (others : List Item) × (more ≡ item ∷ others)
first_left mode rest [] item later b s = absurd (nothing_begins mode rest item later s b)
first_left mode rest (i ∷ more) item later b s = (more, ap (λ (x : Item). x ∷ more) (Begins-same mode rest i item s.0 later s.1 b).0)

pub none_left : (mode : Mode) (rest : List ℕ) (more : List Item) → rest ≡ [] → SpellsItems mode rest more → more ≡ []
none_left mode rest [] e s = refl
none_left mode rest (i ∷ more) e s = absurd (nothing_begins mode rest i s.0 e s.1)
