-- Rows of texts are joined.
use Rattle.std.proofs.Common.{ℕ, ◌≡◌, ◌<◌, Bool, true, false, List, [], ◌++◌, Option, Some, None, refl, sym, ap, ◌∙◌, arith, length, append_assoc, append-nil, cond}
use Rattle.std.specs.Prelude.{find, not}
use Rattle.dom_links.specs.Lists.{after}
use Rattle.dom_links.specs.Forest.{Forest, siblings}
use Rattle.dom_links.specs.Normalized.{front_texts, is_empty_text, nearest_before}
use Rattle.dom_links.specs.SetTexts.{is_text_at}
use Rattle.dom_links.specs.Sound.{IsForest}
use Rattle.dom_links.specs.Texts.{text_at}
use Rattle.dom_links.specs.Trees.{in_order}
use Rattle.dom_links.specs.Walk.{IsWithin, later, row_on}
use Rattle.dom_links.proofs.walks.Later.{Follows, follows}

-- the way back from n over empty texts is at `next`
pub record GoesBack (forest : Forest) (n : ℕ) (next : Option ℕ) : Type 0 where
  pub same : nearest_before forest n ≡ find (λ m. not (is_empty_text forest m)) (row_on forest true next)
  pub within : IsWithin forest next

pub back_starts : (forest : Forest) (n : ℕ) (next : Option ℕ) → IsForest forest → next ≡ after (in_order true (siblings forest n)) n → GoesBack forest n next
back_starts forest n next good is =
    let rest = follows forest true n next good is in
    record { same = ap (find (λ m. not (is_empty_text forest m))) (Follows.rest rest); within = Follows.within rest }

pub record PassesCheck (Goes : Option ℕ → Type 0) (forest : Forest) (rev : Bool) (next beyond : Option ℕ) : Type 0 where
  pub goes : Goes beyond
  pub fewer : length (row_on forest rev beyond) < length (row_on forest rev next)

pub back_on : (forest : Forest) (n at : ℕ) (next beyond : Option ℕ) → IsForest forest → GoesBack forest n next → next ≡ Some at → is_empty_text forest at ≡ true → beyond ≡ after (in_order true (siblings forest at)) at →
    PassesCheck (GoesBack forest n) forest true next beyond
back_on forest n at next beyond good h is empty on =
    let rest = follows forest true at beyond good on in
    let test : ℕ → Bool = λ m. not (is_empty_text forest m) in
    record {
      goes = record {
        same = h.same ∙ ap (λ o. find test (row_on forest true o)) is ∙ ap (λ t. cond (not t) (Some at) (find test (later forest true at))) empty ∙ ap (find test) (Follows.rest rest);
        within = Follows.within rest;
      };
      fewer = omega (arith, ap (λ o. length (row_on forest true o)) is, ap length (Follows.rest rest));
    }

pub back_found : (forest : Forest) (n at : ℕ) (next : Option ℕ) → GoesBack forest n next → next ≡ Some at → is_empty_text forest at ≡ false → Some at ≡ nearest_before forest n
back_found forest n at next h is full =
    let test : ℕ → Bool = λ m. not (is_empty_text forest m) in
    sym (h.same ∙ ap (λ o. find test (row_on forest true o)) is ∙ ap (λ t. cond (not t) (Some at) (find test (later forest true at))) full)

pub back_none : (forest : Forest) (n : ℕ) (next : Option ℕ) → GoesBack forest n next → next ≡ None → None ≡ nearest_before forest n
back_none forest n next h none = sym (h.same ∙ ap (λ o. find (λ m. not (is_empty_text forest m)) (row_on forest true o)) none)

-- the texts after n up to `next` were joined
pub record GoesOver (forest : Forest) (n : ℕ) (before joined : List ℕ) (next : Option ℕ) : Type 0 where
  pub same : joined ++ front_texts forest (row_on forest false next) ≡ before ++ front_texts forest (later forest false n)
  pub within : IsWithin forest next

pub over_starts : (forest : Forest) (n : ℕ) (before : List ℕ) (next : Option ℕ) → IsForest forest → next ≡ after (siblings forest n) n → GoesOver forest n before before next
over_starts forest n before next good is =
    let rest = follows forest false n next good is in
    record { same = ap (λ ns. before ++ front_texts forest ns) (sym (Follows.rest rest)); within = Follows.within rest }

pub over_on : (forest : Forest) (n at : ℕ) (before joined more : List ℕ) (next beyond : Option ℕ) → IsForest forest → GoesOver forest n before joined next → next ≡ Some at → is_text_at forest at ≡ true → more ≡ joined ++ text_at forest at →
    beyond ≡ after (siblings forest at) at → PassesCheck (GoesOver forest n before more) forest false next beyond
over_on forest n at before joined more next beyond good h is text added on =
    let rest = follows forest false at beyond good on in
    let here : front_texts forest (row_on forest false next) ≡ text_at forest at ++ front_texts forest (row_on forest false beyond) =
    ap (λ o. front_texts forest (row_on forest false o)) is ∙ rw text (ap (λ ns. text_at forest at ++ front_texts forest ns) (Follows.rest rest)) in
    record {
      goes = record {
        same = ap (λ t. t ++ front_texts forest (row_on forest false beyond)) added ∙ append_assoc joined (text_at forest at) (front_texts forest (row_on forest false beyond)) ∙ ap (λ t. joined ++ t) (sym here) ∙ h.same;
        within = Follows.within rest;
      };
      fewer = omega (arith, ap (λ o. length (row_on forest false o)) is, ap length (Follows.rest rest));
    }

pub over_other : (forest : Forest) (n at : ℕ) (before joined : List ℕ) (next : Option ℕ) → GoesOver forest n before joined next → next ≡ Some at → is_text_at forest at ≡ false → joined ≡ before ++ front_texts forest (later forest false n)
over_other forest n at before joined next h is other =
    let none : front_texts forest (row_on forest false next) ≡ [] = ap (λ o. front_texts forest (row_on forest false o)) is ∙ rw other refl in
    sym (append-nil joined) ∙ ap (λ t. joined ++ t) (sym none) ∙ h.same

pub over_end : (forest : Forest) (n : ℕ) (before joined : List ℕ) (next : Option ℕ) → GoesOver forest n before joined next → next ≡ None → joined ≡ before ++ front_texts forest (later forest false n)
over_end forest n before joined next h none =
    let rest : front_texts forest (row_on forest false next) ≡ [] = ap (λ o. front_texts forest (row_on forest false o)) none in
    sym (append-nil joined) ∙ ap (λ t. joined ++ t) (sym rest) ∙ h.same
