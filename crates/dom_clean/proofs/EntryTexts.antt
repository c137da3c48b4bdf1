-- A text that is written entry by entry.
use Rattle.std.proofs.Common.{ℕ, ◌≡◌, ◌++◌, Bool, true, false, List, [], ◌∷◌, Option, refl, sym, ap, ◌∙◌, subst, append_assoc, append-nil}
use Rattle.std.specs.Io.KnownBytes.{Appends}
use Rattle.dom_links.specs.Forest.{Forest}
use Rattle.dom_markup.specs.Writing.{AppendsBeginning}
use Rattle.dom_markup.proofs.html.WritingLemmas.{fault-inside, fault-first, written-then}
use Rattle.dom_clean.specs.Ahead.{AreKnown, Writes, ahead_text, seen}
use Rattle.dom_clean.specs.Policy.{Policy}
use Rattle.dom_clean.specs.declared.writer.Entry.{Entry}

-- a front of the text was written, and the entries are the rest of it
pub record HasWritten (policy : Policy) (forest : Forest) (old new : Option (List ℕ)) (text : List ℕ) (in_front : Bool) (entries : List Entry) (all : List ℕ) : Type 0 where
  pub front : List ℕ
  pub written : Appends old new front
  pub emptied : text ≡ []
  pub known : AreKnown forest entries
  pub whole : front ++ seen in_front (ahead_text policy forest entries) ≡ all

seen-nothing : (in_front : Bool) → seen in_front [] ≡ []
seen-nothing true = refl
seen-nothing false = refl

module _ (policy : Policy) (forest : Forest) (all : List ℕ) where
  -- what an entry adds, and the rest
  entry-then : (front before piece : List ℕ) (was is : Bool) (entry : Entry) (entries rest later : List Entry) → before ≡ [] → entries ≡ entry ∷ rest →
      front ++ seen was (ahead_text policy forest entries) ≡ all → Writes policy forest entry rest later before piece was is → front ++ (piece ++ seen is (ahead_text policy forest later)) ≡ all
  entry-then front before piece was is entry entries rest later none are whole did =
      ap (λ t. front ++ t) (did.whole ∙ ap (λ b. b ++ seen was (ahead_text policy forest (entry ∷ rest))) none ∙ ap (λ es. seen was (ahead_text policy forest es)) (sym are)) ∙ whole

  -- an entry was written
  pub written-entry : (a b c : Option (List ℕ)) (before piece after : List ℕ) (was is now : Bool) (entry : Entry) (entries rest later : List Entry) → entries ≡ entry ∷ rest →
      HasWritten policy forest a b before was entries all → Writes policy forest entry rest later before piece was is → Appends b c piece → after ≡ [] → now ≡ is → HasWritten policy forest a c after now later all
  written-entry a b c before piece after was is now entry entries rest later are at did more none same = record {
    front = at.front ++ piece;
    written = written-then a b c at.front piece at.written more;
    emptied = none;
    known = did.known;
    whole = append_assoc at.front piece (seen now (ahead_text policy forest later)) ∙ ap (λ b. at.front ++ (piece ++ seen b (ahead_text policy forest later))) same
        ∙ entry-then at.front before piece was is entry entries rest later at.emptied are at.whole did;
  }

  -- a fault while an entry was written
  pub written-fault : (a b c : Option (List ℕ)) (before piece : List ℕ) (was is : Bool) (entry : Entry) (entries rest later : List Entry) → entries ≡ entry ∷ rest →
      HasWritten policy forest a b before was entries all → Writes policy forest entry rest later before piece was is → AppendsBeginning b c piece → AppendsBeginning a c all
  written-fault a b c before piece was is entry entries rest later are at did fault =
      let tail = seen is (ahead_text policy forest later) in
      fault-inside a b c at.front (piece ++ tail) all at.written (fault-first b c piece tail (piece ++ tail) fault refl) (entry-then at.front before piece was is entry entries rest later at.emptied are at.whole did)

  -- what was written so far is a beginning
  pub written-beginning : (a b : Option (List ℕ)) (before : List ℕ) (was : Bool) (entries : List Entry) → HasWritten policy forest a b before was entries all → AppendsBeginning a b all
  written-beginning a b before was entries at = record { front = at.front; back = seen was (ahead_text policy forest entries); whole = at.whole; written = at.written }

  -- all is written
  pub written-all : (a b : Option (List ℕ)) (before : List ℕ) (was : Bool) (entries : List Entry) → entries ≡ [] → HasWritten policy forest a b before was entries all → Appends a b all
  written-all a b before was entries none at =
      subst (Appends a b) (sym (append-nil at.front) ∙ ap (λ t. at.front ++ t) (sym (seen-nothing was)) ∙ ap (λ es. at.front ++ seen was (ahead_text policy forest es)) (sym none) ∙ at.whole) at.written
