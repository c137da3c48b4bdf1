-- The table of the kinds of known names.
use Rattle.std.proofs.Common.{◌≡◌, ℕ, zero, suc, ◌+◌, ◌<◌, List, [], ◌∷◌, get_or, refl, sym, ap, ◌∙◌, arith}
use Rattle.dom_nodes.specs.KnownNames.{known_name}
use Rattle.page_trees.specs.ElementKinds.{kind_of, names_of}
use Rattle.page_trees.specs.declared.element_kinds.ElementCategory.{ElementCategory}
use Rattle.page_trees.specs.declared.name.Name.{Name}
use Rattle.page_trees.specs.declared.name.TheConstants.{KNOWN}

-- the values of a function at so many numbers from i on
abbrev values : (ℕ → ElementCategory) → ℕ → ℕ → List ElementCategory
values f i zero = []
values f i (suc count) = f i ∷ values f (i + 1) count

value_at : (f : ℕ → ElementCategory) (i count n : ℕ) (else_is : ElementCategory) → n < count → get_or (values f i count) n else_is ≡ f (i + n)
value_at f i zero n else_is h = absurd (omega arith)
value_at f i (suc count) zero else_is h = ap f (omega arith)
value_at f i (suc count) (suc n) else_is h = value_at f (i + 1) count n else_is (omega arith) ∙ ap f (omega arith)

-- the kinds of a table of names and kinds
abbrev kinds_in : List (Name × ElementCategory) → List ElementCategory
kinds_in [] = []
kinds_in (e ∷ es) = e.1 ∷ kinds_in es

kind_in : (es : List (Name × ElementCategory)) (n : ℕ) (else_is : Name × ElementCategory) → (get_or es n else_is).1 ≡ get_or (kinds_in es) n else_is.1
kind_in [] n else_is = refl
kind_in (e ∷ es) zero else_is = refl
kind_in (e ∷ es) (suc n) else_is = kind_in es n else_is

-- computed
table_is : values (λ n. kind_of (known_name n)) 0 247 ≡ kinds_in KNOWN
unfolding known_name kind_of names_of
table_is = refl

pub kind_at : (n : ℕ) (else_is : Name × ElementCategory) → n < 247 → (get_or KNOWN n else_is).1 ≡ kind_of (known_name n)
kind_at n else_is h =
    let plain : 0 + n ≡ n = omega arith in
    kind_in KNOWN n else_is
    ∙ (ap (λ (kinds : List ElementCategory). get_or kinds n else_is.1) (sym table_is) ∙ (value_at (λ n. kind_of (known_name n)) 0 247 n else_is.1 h ∙ ap (λ k. kind_of (known_name k)) plain))
