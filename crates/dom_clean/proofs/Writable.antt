-- Texts that can be written, one after the other.
use Rattle.std.proofs.Common.{ℕ, List, [], ◌∷◌, ◌++◌, sym, subst}
use Rattle.std.specs.Str.{chars}
use Rattle.std.proofs.lemmas.Str.{IsUtf8-append, chars-append}
use Rattle.dom_clean.specs.Joined.{IsWritable}
use Rattle.dom_clean.specs.Spelled.{AreSpelled}

spelled_append : (cs ds : List ℕ) → AreSpelled cs → AreSpelled ds → AreSpelled (cs ++ ds)
spelled_append [] ds p q = q
spelled_append (c ∷ cs) ds p q = (p.0, spelled_append cs ds p.1 q)

pub writable_append : (a b : List ℕ) → IsWritable a → IsWritable b → IsWritable (a ++ b)
writable_append a b p q = record {
  utf8 = IsUtf8-append a b p.utf8 q.utf8;
  spelled = subst AreSpelled (sym (chars-append a b p.utf8)) (spelled_append (chars a) (chars b) p.spelled q.spelled);
}
