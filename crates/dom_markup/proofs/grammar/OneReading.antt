-- A text spells one list of trees at most.
use Rattle.std.proofs.Common.{◌≡◌, ◌≢◌, ◌≤◌, ℕ, List, [], ◌∷◌, ◌++◌, length, true, refl, sym, ap, ◌∙◌, subst, arith}
use Rattle.std.specs.Prelude.{codes}
use Rattle.dom_markup.specs.Names.{Mode, markup, text_of, raw_text_of}
use Rattle.dom_markup.specs.References.{decoded}
use Rattle.dom_markup.specs.ValueTrees.{Attribute, ValueTrees}
use Rattle.dom_markup.specs.Markup.{Item, BeginsStart, BeginsEnd, BeginsDoctype, EndsAtMark, EndsAtTag, Begins, SpellsItemsUpTo, mode_after, text_front, items_of, Spells}
use Rattle.dom_markup.specs.Markup.Item.{start_tag, end_tag, characters, comment, doctype}
use Rattle.dom_markup.proofs.grammar.Nesting.{items_of-same}
use Rattle.dom_markup.proofs.grammar.Reading.{start_same, end_same, start_end, start_markup, end_markup, behind_same, behind_first, other_second, no_letter, comment_markup, comment_start, comment_end, comment_behind, mark_same, behind_less}
use Rattle.dom_markup.proofs.grammar.Items.{Begins-suffix}
use Rattle.dom_markup.proofs.grammar.Doctypes.{doctype_same, doctype_markup, doctype_first}
use Rattle.dom_markup.proofs.grammar.Texts.{no_front}

-- what begins with an item isn't empty
pub nothing_begins : (mode : Mode) (text : List ℕ) (i : Item) (r : List ℕ) → text ≡ [] → Begins mode text i r → ⊥
nothing_begins mode text i r e p =
    let front = Begins-suffix mode text i r p in
    let is : front.0 ++ r ≡ [] = sym front.1 ∙ e in
    front.2 (nil front.0 r is)
  where
    nil : (xs ys : List ℕ) → xs ++ ys ≡ [] → xs ≡ []
    nil [] ys e = refl
    nil (x ∷ xs) ys e = cc

pub doctype_start : (text n m p s : List ℕ) (a : List Attribute) (r u : List ℕ) → BeginsStart text n a r → BeginsDoctype text m p s u → ⊥
doctype_start text n m p s a r u h k = no_letter 33 h.written h.more _ refl h.names.0 (behind_first 60 text _ _ k.is h.is)

pub doctype_end : (text n m p s r u : List ℕ) → BeginsEnd text n r → BeginsDoctype text m p s u → ⊥
doctype_end text n m p s r u h k = other_second text 47 33 _ _ h.is k.is refl

markup_same : (text : List ℕ) (i j : Item) (r s : List ℕ) → Begins markup text i r → Begins markup text j s → (i ≡ j) × (r ≡ s)
markup_same text (start_tag n a) (start_tag m b) r s p q = let same = start_same text n m a b r s p q in (cc (same.0, same.1), same.2)
markup_same text (start_tag n a) (end_tag m) r s p q = absurd (start_end text n m a r s p q)
markup_same text (start_tag n a) (characters d) r s p q = absurd (q.0 (no_front text (start_markup text n a r p)))
markup_same text (start_tag n a) (comment d) r s p q = absurd (comment_start text n d a r s p q)
markup_same text (end_tag n) (start_tag m b) r s p q = absurd (start_end text m n b s r q p)
markup_same text (end_tag n) (end_tag m) r s p q = let same = end_same text n m r s p q in (ap end_tag same.0, same.1)
markup_same text (end_tag n) (characters d) r s p q = absurd (q.0 (no_front text (end_markup text n r p)))
markup_same text (end_tag n) (comment d) r s p q = absurd (comment_end text n d r s p q)
markup_same text (characters c) (start_tag m b) r s p q = absurd (p.0 (no_front text (start_markup text m b s q)))
markup_same text (characters c) (end_tag m) r s p q = absurd (p.0 (no_front text (end_markup text m s q)))
markup_same text (characters c) (characters d) r s p q = (ap characters (p.2 ∙ sym q.2), behind_same (text_front text) r s (sym p.1 ∙ q.1))
markup_same text (characters c) (comment d) r s p q = absurd (p.0 (no_front text (comment_markup text d s q)))
markup_same text (comment c) (start_tag m b) r s p q = absurd (comment_start text m c b s r q p)
markup_same text (comment c) (end_tag m) r s p q = absurd (comment_end text m c s r q p)
markup_same text (comment c) (characters d) r s p q = absurd (q.0 (no_front text (comment_markup text c r p)))
markup_same text (comment c) (comment d) r s p q =
    let more : p.0 ≡ q.0 = comment_behind text p.0 q.0 p.1 q.1 in
    let same = mark_same (codes "-->") p.0 c d r s p.2 (subst (λ (t : List ℕ). EndsAtMark (codes "-->") t d s) (sym more) q.2) in
    (ap comment same.0, same.1)
markup_same text (doctype n p s) (start_tag m a) r u h k = absurd (doctype_start text m n p s a u r k h)
markup_same text (doctype n p s) (end_tag m) r u h k = absurd (doctype_end text m n p s u r k h)
markup_same text (doctype n p s) (characters c) r u h k = absurd (k.0 (no_front text (doctype_markup text n p s r h)))
markup_same text (doctype n p s) (comment c) r u h k = absurd (doctype_first text _ n p s r k.1 h)
markup_same text (doctype n p s) (doctype m q t) r u h k =
    let same = doctype_same text n m p q s t r u h k in
    (cc (same.0, same.1, same.2), same.3)
markup_same text (start_tag n a) (doctype m p s) r t h k = absurd (doctype_start text n m p s a r t h k)
markup_same text (end_tag n) (doctype m p s) r t h k = absurd (doctype_end text n m p s r t h k)
markup_same text (characters c) (doctype m p s) r t h k = absurd (h.0 (no_front text (doctype_markup text m p s t k)))
markup_same text (comment c) (doctype m p s) r t h k = absurd (doctype_first text _ m p s t h.1 k)

-- ---- the texts of elements

end_first : (text n r : List ℕ) → BeginsEnd text n r → (front rest : List ℕ) → front ≢ [] → EndsAtTag n text front rest → ⊥
end_first text n r h front rest some e =
    let none = e.first [] text r refl h in
    some (nil front (omega arith))
  where
    nil : (xs : List ℕ) → length xs ≤ 0 → xs ≡ []
    nil [] l = refl
    nil (x ∷ xs) l = absurd (omega arith)

pub tag_same : (n text a b r s : List ℕ) → EndsAtTag n text a r → EndsAtTag n text b s → (a ≡ b) × (r ≡ s)
tag_same n text a b r s p q =
    let one = p.first b s q.after q.is q.ends in
    let two = q.first a r p.after p.is p.ends in
    behind_less a r b s (sym p.is ∙ q.is) (omega arith)

text_same : (n text : List ℕ) (i j : Item) (r s : List ℕ) → Begins (text_of n) text i r → Begins (text_of n) text j s → (i ≡ j) × (r ≡ s)
text_same n text (end_tag x) (end_tag y) r s p q = (ap end_tag (p.0 ∙ sym q.0), (end_same text n n r s p.1 q.1).1)
text_same n text (end_tag x) (characters c) r s p q = absurd (end_first text n r p.1 q.0 s q.1 q.2)
text_same n text (characters c) (end_tag y) r s p q = absurd (end_first text n s q.1 p.0 r p.1 p.2)
text_same n text (characters c) (characters d) r s p q =
    let same = tag_same n text p.0 q.0 r s p.2 q.2 in
    (ap characters (p.3 ∙ ap decoded same.0 ∙ sym q.3), same.1)
text_same n text (end_tag x) j r s p q = absurd q
text_same n text (characters x) j r s p q = absurd q
text_same n text i j r s p q = absurd p

raw_same : (n text : List ℕ) (i j : Item) (r s : List ℕ) → Begins (raw_text_of n) text i r → Begins (raw_text_of n) text j s → (i ≡ j) × (r ≡ s)
raw_same n text (end_tag x) (end_tag y) r s p q = (ap end_tag (p.0 ∙ sym q.0), (end_same text n n r s p.1 q.1).1)
raw_same n text (end_tag x) (characters c) r s p q = absurd (end_first text n r p.1 c s q.0 q.1)
raw_same n text (characters c) (end_tag y) r s p q = absurd (end_first text n s q.1 c r p.0 p.1)
raw_same n text (characters c) (characters d) r s p q =
    let same = tag_same n text c d r s p.1 q.1 in
    (ap characters same.0, same.1)
raw_same n text (end_tag x) j r s p q = absurd q
raw_same n text (characters x) j r s p q = absurd q
raw_same n text i j r s p q = absurd p

pub Begins-same : (mode : Mode) (text : List ℕ) (i j : Item) (r s : List ℕ) → Begins mode text i r → Begins mode text j s → (i ≡ j) × (r ≡ s)
Begins-same markup text i j r s p q = markup_same text i j r s p q
Begins-same (text_of n) text i j r s p q = text_same n text i j r s p q
Begins-same (raw_text_of n) text i j r s p q = raw_same n text i j r s p q

-- text is these items to its end
abbrev pub SpellsItems : Mode → List ℕ → List Item → Type 0
SpellsItems mode text items = SpellsItemsUpTo mode text items []

-- a text spells one list of items at most
pub SpellsItems-same : (mode : Mode) (text : List ℕ) (is js : List Item) → SpellsItems mode text is → SpellsItems mode text js → is ≡ js
SpellsItems-same mode text [] [] p q = refl
SpellsItems-same mode text [] (j ∷ js) p q = absurd (nothing_begins mode text j q.0 p q.1)
SpellsItems-same mode text (i ∷ is) [] p q = absurd (nothing_begins mode text i p.0 q p.1)
SpellsItems-same mode text (i ∷ is) (j ∷ js) p q =
    let first = Begins-same mode text i j p.0 q.0 p.1 q.1 in
    let moved : SpellsItems (mode_after mode i) p.0 js = subst (λ (t : List ℕ). SpellsItems (mode_after mode i) t js) (sym first.1) (subst (λ (k : Item). SpellsItems (mode_after mode k) q.0 js) (sym first.0) q.2) in
    let more = SpellsItems-same (mode_after mode i) p.0 is js p.2 moved in
    cc (first.0, more)

-- a text spells one list of trees at most
pub Spells-same : (text : List ℕ) (t u : ValueTrees) → Spells text t → Spells text u → t ≡ u
Spells-same text t u p q =
    let items = SpellsItems-same markup text (items_of t) (items_of u) p.items q.items in
    let ended : items_of t ++ [] ≡ items_of u ++ [] = ap (λ (x : List Item). x ++ []) items in
    (items_of-same true true t u [] [] p.in_place q.in_place tt tt ended).0
