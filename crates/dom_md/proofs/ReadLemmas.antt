-- Words that are added one after the other, and what they resolve to.
use Rattle.std.proofs.Common.{◌≡◌, ℕ, Bool, true, false, List, [], ◌∷◌, ◌++◌, codes, refl, sym, ◌∙◌, ap, subst, append_assoc, append-nil, inl, inr}
use Rattle.std.specs.Prelude.{◌||◌}
use Rattle.std.specs.Str.{bytes_eq}
use Rattle.std.proofs.lemmas.Bool.{cases_Bool}
use Rattle.std.proofs.lemmas.Slice.Eq.{bytes_eq-Decides}
use Rattle.dom_nodes.specs.Ascii.{backslash, space}
use Rattle.dom_nodes.specs.Classes.{words_joined}
use Rattle.dom_nodes.specs.Words.{words_of}
use Rattle.dom_md.specs.Chunks.{escaped}
use Rattle.dom_md.specs.Resolved.{Reads, resolved}
use Rattle.dom_md.specs.Words.{spaced}
use Rattle.dom_md.proofs.ChunkLemmas.{resolved-chunk}

pub reads-none : (old : List ℕ) → Reads old old []
reads-none old = record { added = []; is = sym (append-nil old); resolves = λ more. refl }

pub reads-both : (old now new some more : List ℕ) → Reads old now some → Reads now new more → Reads old new (some ++ more)
reads-both old now new some more p q = record {
  added = p.added ++ q.added;
  is = q.is ∙ ap (λ t. t ++ q.added) p.is ∙ append_assoc old p.added q.added;
  resolves = λ rest. ap resolved (append_assoc p.added q.added rest) ∙ p.resolves (q.added ++ rest)
      ∙ ap (λ t. some ++ t) (q.resolves rest) ∙ sym (append_assoc some more (resolved rest));
}

pub reads-space : (old new : List ℕ) → new ≡ old ++ space ∷ [] → Reads old new (space ∷ [])
reads-space old new is = record { added = space ∷ []; is = is; resolves = λ more. refl }

pub reads-chunk : (old new chunk : List ℕ) (line_start : Bool) → new ≡ old ++ escaped line_start chunk → Reads old new chunk
reads-chunk old new chunk line_start is = record { added = escaped line_start chunk; is = is; resolves = resolved-chunk line_start chunk }

-- a `.` or `)` behind a backslash
pub reads-stop : (old new word : List ℕ) → (bytes_eq word (codes ".") || bytes_eq word (codes ")")) ≡ true → new ≡ (old ++ backslash ∷ []) ++ word → Reads old new word
reads-stop old new word stop is = record {
  added = backslash ∷ word;
  is = is ∙ append_assoc old (backslash ∷ []) word;
  resolves = elim (cases_Bool (bytes_eq word (codes "."))) [
    | inl t ↦ (λ more. rw ((bytes_eq-Decides word (codes ".")).0 t) refl)
    | inr f ↦ (λ more. rw ((bytes_eq-Decides word (codes ")")).0 (rw f at stop)) refl)
  ];
}

-- what is added to an empty text is all that it reads as
pub reads-whole : (old new text whole : List ℕ) → old ≡ [] → text ≡ whole → Reads old new (words_joined (words_of text)) → resolved new ≡ words_joined (words_of whole)
reads-whole old new text whole empty same r =
    ap resolved (r.is ∙ ap (λ t. t ++ r.added) empty ∙ sym (append-nil r.added)) ∙ r.resolves []
    ∙ append-nil (words_joined (words_of text)) ∙ ap (λ t. words_joined (words_of t)) same

-- ---- words, one after the other

-- some of the words were added, and the others are still to come
pub record IsUnderWay (old now : List ℕ) (parted : Bool) (left : List (List ℕ)) (whole : List ℕ) : Type 0 where
  pub some : List ℕ
  pub reads : Reads old now some
  pub is : some ++ spaced parted left ≡ whole

pub spaced-first : (word : List ℕ) (words : List (List ℕ)) → words_joined (word ∷ words) ≡ word ++ spaced true words
spaced-first word [] = sym (append-nil word)
spaced-first word (next ∷ words) = ap (λ t. word ++ space ∷ t) (spaced-first next words)

pub way-begun : (old : List ℕ) (parted : Bool) (words left : List (List ℕ)) → left ≡ words → IsUnderWay old old parted left (spaced parted words)
way-begun old parted words left same = record { some = []; reads = reads-none old; is = ap (spaced parted) same }

pub way-first : (old now new word whole : List ℕ) (words left : List (List ℕ)) (parted : Bool) → parted ≡ false → left ≡ word ∷ words → Reads now new word → IsUnderWay old now parted left whole → IsUnderWay old new true words whole
way-first old now new word whole words left parted at same r way =
    let here : spaced parted left ≡ word ++ spaced true words = ap (λ p. spaced p left) at ∙ ap (spaced false) same ∙ spaced-first word words in
    record {
      some = way.some ++ word;
      reads = reads-both old now new way.some word way.reads r;
      is = append_assoc way.some word (spaced true words) ∙ ap (λ t. way.some ++ t) (sym here) ∙ way.is;
    }

pub way-next : (old now new word whole : List ℕ) (words left : List (List ℕ)) (parted : Bool) → parted ≡ true → left ≡ word ∷ words → Reads now new (space ∷ word) → IsUnderWay old now parted left whole → IsUnderWay old new parted words whole
way-next old now new word whole words left parted at same r way =
    let here : spaced parted left ≡ (space ∷ word) ++ spaced parted words = ap (spaced parted) same ∙ ap (λ p. spaced p (word ∷ words)) at ∙ ap (λ p. (space ∷ word) ++ spaced p words) (sym at) in
    record {
      some = way.some ++ space ∷ word;
      reads = reads-both old now new way.some (space ∷ word) way.reads r;
      is = append_assoc way.some (space ∷ word) (spaced parted words) ∙ ap (λ t. way.some ++ t) (sym here) ∙ way.is;
    }

pub spaced-none : (parted : Bool) → spaced parted [] ≡ []
spaced-none true = refl
spaced-none false = refl

pub way-ended : (old now whole : List ℕ) (left : List (List ℕ)) (parted : Bool) → left ≡ [] → IsUnderWay old now parted left whole → Reads old now whole
way-ended old now whole left parted none way =
    subst (Reads old now) (sym (append-nil way.some) ∙ ap (λ t. way.some ++ t) (sym (ap (spaced parted) none ∙ spaced-none parted)) ∙ way.is) way.reads
