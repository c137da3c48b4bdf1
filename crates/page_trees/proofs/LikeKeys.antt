-- The numbers of the entries of a list, as the list, the tree and the numbers of texts change.
use Rattle.std.specs.Prelude.{◌≡◌, ◌∷◌, [], ℕ, zero, suc, List, None, Option, Some, insert, remove, slice_get, slice_set, take}
use mathlib.Core.Path.{sym, ap, subst}
use Rattle.dom_nodes.specs.Elements.{Element}
use Rattle.dom_links.specs.Forest.{Forest}
use Rattle.dom_trees.specs.Views.{node_element}
use Rattle.page_trees.specs.Likeness.{AreKeysOf, AreLikesOf, HasNumber, IsKeyOf, KeepsNumbers, Likes, element_text}
use Rattle.page_trees.specs.ListIndex.{likes_in}
use Rattle.page_trees.specs.NameNumbers.{numbers_of}
use Rattle.page_trees.specs.declared.formatting.Entry.{Entry}
use Rattle.page_trees.specs.declared.formatting.Entry.TheVariants.{Element as AnEntry, Marker}
use Rattle.page_trees.specs.declared.formatting.index.FormattingIndex.{FormattingIndex}
use Rattle.page_trees.proofs.IndexedLists.{inserted_next}

-- ---- elements stay as they are

abbrev pub KeepsElements : Forest → Forest → Type 0
KeepsElements f g = (n : ℕ) (e : Element) → node_element f n ≡ Some e → node_element g n ≡ Some e

key_kept : (f g : Forest) → KeepsElements f g → (ns : List (List ℕ × ℕ)) (entry : Entry) (k : ℕ) → IsKeyOf f ns entry k → IsKeyOf g ns entry k
key_kept f g same ns Marker k is = tt
key_kept f g same ns (AnEntry o) k is = record { element = is.element; there = same o.id is.element is.there; known = is.known }

keys_kept : (f g : Forest) → KeepsElements f g → (ns : List (List ℕ × ℕ)) (es : List Entry) (ks : List ℕ) → AreKeysOf f ns es ks → AreKeysOf g ns es ks
keys_kept f g same ns [] [] are = tt
keys_kept f g same ns (e ∷ es) (k ∷ ks) are = (key_kept f g same ns e k are.0, keys_kept f g same ns es ks are.1)
keys_kept f g same ns [] (k ∷ ks) are = absurd are
keys_kept f g same ns (e ∷ es) [] are = absurd are

pub likes_kept : (f g : Forest) → KeepsElements f g → (es : List Entry) (l : Option Likes) → AreLikesOf f es l → AreLikesOf g es l
likes_kept f g same es None are = tt
likes_kept f g same es (Some l) are = keys_kept f g same l.numbers es l.keys are

-- ---- texts keep their numbers

pub number_more : (f : Forest) (old new : List (List ℕ × ℕ)) (id k : ℕ) → KeepsNumbers old new → HasNumber f old id k → HasNumber f new id k
number_more f old new id k keeps is = record { element = is.element; there = is.there; known = keeps (element_text is.element) k is.known }

key_more : (f : Forest) (old new : List (List ℕ × ℕ)) → KeepsNumbers old new → (entry : Entry) (k : ℕ) → IsKeyOf f old entry k → IsKeyOf f new entry k
key_more f old new keeps Marker k is = tt
key_more f old new keeps (AnEntry o) k is = number_more f old new o.id k keeps is

pub keys_more : (f : Forest) (old new : List (List ℕ × ℕ)) → KeepsNumbers old new → (es : List Entry) (ks : List ℕ) → AreKeysOf f old es ks →
    AreKeysOf f new es ks
keys_more f old new keeps [] [] are = tt
keys_more f old new keeps (e ∷ es) (k ∷ ks) are = (key_more f old new keeps e k are.0, keys_more f old new keeps es ks are.1)
keys_more f old new keeps [] (k ∷ ks) are = absurd are
keys_more f old new keeps (e ∷ es) [] are = absurd are

-- ---- the list

pub keys_with : (f : Forest) (ns : List (List ℕ × ℕ)) (es : List Entry) (ks : List ℕ) (n : ℕ) (e : Entry) (k : ℕ) → IsKeyOf f ns e k →
    AreKeysOf f ns es ks → AreKeysOf f ns (insert es n e) (insert ks n k)
keys_with f ns [] [] zero e k one are = (one, tt)
keys_with f ns [] [] (suc n) e k one are = (one, tt)
keys_with f ns (x ∷ es) (y ∷ ks) zero e k one are = (one, are)
keys_with f ns (x ∷ es) (y ∷ ks) (suc n) e k one are = (are.0, keys_with f ns es ks n e k one are.1)
keys_with f ns [] (y ∷ ks) n e k one are = absurd are
keys_with f ns (x ∷ es) [] n e k one are = absurd are

keys_without : (f : Forest) (ns : List (List ℕ × ℕ)) (es : List Entry) (ks : List ℕ) (n : ℕ) → AreKeysOf f ns es ks →
    AreKeysOf f ns (remove es n) (remove ks n)
keys_without f ns [] [] zero are = tt
keys_without f ns [] [] (suc n) are = tt
keys_without f ns (x ∷ es) (y ∷ ks) zero are = are.1
keys_without f ns (x ∷ es) (y ∷ ks) (suc n) are = (are.0, keys_without f ns es ks n are.1)
keys_without f ns [] (y ∷ ks) n are = absurd are
keys_without f ns (x ∷ es) [] n are = absurd are

keys_set : (f : Forest) (ns : List (List ℕ × ℕ)) (es : List Entry) (ks : List ℕ) (n : ℕ) (e : Entry) (k : ℕ) → IsKeyOf f ns e k →
    AreKeysOf f ns es ks → AreKeysOf f ns (slice_set es n e) (slice_set ks n k)
keys_set f ns [] [] n e k one are = tt
keys_set f ns (x ∷ es) (y ∷ ks) zero e k one are = (one, are.1)
keys_set f ns (x ∷ es) (y ∷ ks) (suc n) e k one are = (are.0, keys_set f ns es ks n e k one are.1)
keys_set f ns [] (y ∷ ks) n e k one are = absurd are
keys_set f ns (x ∷ es) [] n e k one are = absurd are

-- ---- the index

-- the numbers of texts are those of another index
numbers_as : (f : Forest) (es : List Entry) (ks : List ℕ) (old new : FormattingIndex) → new.numbers ≡ old.numbers → new.likes ≡ ks →
    AreKeysOf f (likes_in old).numbers es ks → AreKeysOf f (likes_in new).numbers es new.likes
numbers_as f es ks old new numbers likes are =
    subst (λ ns. AreKeysOf f ns es new.likes) (ap (λ m. numbers_of m.entries) (sym numbers)) (subst (AreKeysOf f (likes_in old).numbers es) (sym likes) are)

pub likes_with : (f : Forest) (es : List Entry) (n : ℕ) (e : Entry) (k : ℕ) (old new : FormattingIndex) → new.likes ≡ insert old.likes n k →
    new.numbers ≡ old.numbers → IsKeyOf f (likes_in old).numbers e k → AreKeysOf f (likes_in old).numbers es old.likes →
    AreKeysOf f (likes_in new).numbers (insert es n e) new.likes
likes_with f es n e k old new likes numbers one are =
    numbers_as f (insert es n e) (insert old.likes n k) old new numbers likes (keys_with f (likes_in old).numbers es old.likes n e k one are)

pub likes_without : (f : Forest) (es : List Entry) (n : ℕ) (old new : FormattingIndex) → new.likes ≡ remove old.likes n →
    new.numbers ≡ old.numbers → AreKeysOf f (likes_in old).numbers es old.likes → AreKeysOf f (likes_in new).numbers (remove es n) new.likes
likes_without f es n old new likes numbers are =
    numbers_as f (remove es n) (remove old.likes n) old new numbers likes (keys_without f (likes_in old).numbers es old.likes n are)

pub likes_set : (f : Forest) (es : List Entry) (n : ℕ) (e : Entry) (k : ℕ) (old new : FormattingIndex) → new.likes ≡ slice_set old.likes n k →
    new.numbers ≡ old.numbers → IsKeyOf f (likes_in old).numbers e k → AreKeysOf f (likes_in old).numbers es old.likes →
    AreKeysOf f (likes_in new).numbers (slice_set es n e) new.likes
likes_set f es n e k old new likes numbers one are =
    numbers_as f (slice_set es n e) (slice_set old.likes n k) old new numbers likes (keys_set f (likes_in old).numbers es old.likes n e k one are)

-- the next entry of a list is indexed
pub keys_next : (f : Forest) (entries : List Entry) (place : ℕ) (entry : Entry) (key : ℕ) (old mid new : FormattingIndex) → slice_get entries place ≡ Some entry →
    AreKeysOf f (likes_in old).numbers (take place entries) old.likes → mid.likes ≡ old.likes → KeepsNumbers (likes_in old).numbers (likes_in mid).numbers →
    IsKeyOf f (likes_in mid).numbers entry key → new.likes ≡ insert mid.likes place key → new.numbers ≡ mid.numbers →
    AreKeysOf f (likes_in new).numbers (take (suc place) entries) new.likes
keys_next f entries place entry key old mid new got are same keeps one likes numbers =
    subst (λ (es : List Entry). AreKeysOf f (likes_in new).numbers es new.likes) (inserted_next entries place entry got)
    (likes_with f (take place entries) place entry key mid new likes numbers one
    (keys_more f (likes_in old).numbers (likes_in mid).numbers keeps (take place entries) mid.likes
    (subst (AreKeysOf f (likes_in old).numbers (take place entries)) (sym same) are)))

-- texts get numbers
pub likes_more : (f : Forest) (es : List Entry) (old new : FormattingIndex) → new.likes ≡ old.likes →
    KeepsNumbers (likes_in old).numbers (likes_in new).numbers → AreKeysOf f (likes_in old).numbers es old.likes →
    AreKeysOf f (likes_in new).numbers es new.likes
likes_more f es old new same keeps are =
    keys_more f (likes_in old).numbers (likes_in new).numbers keeps es new.likes (subst (AreKeysOf f (likes_in old).numbers es) (sym same) are)

pub number_as : (f : Forest) (id k : ℕ) (old new : FormattingIndex) → new.numbers ≡ old.numbers → HasNumber f (likes_in old).numbers id k →
    HasNumber f (likes_in new).numbers id k
number_as f id k old new numbers is = subst (λ ns. HasNumber f ns id k) (ap (λ m. numbers_of m.entries) (sym numbers)) is
