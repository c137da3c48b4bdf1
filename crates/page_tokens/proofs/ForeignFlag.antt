-- Where `[CDATA[` doesn't come next, the flag for foreign content doesn't matter.
use Rattle.std.specs.Prelude.{◌≡◌, ℕ, Bool, true, false, cond, eqb, bytes_eq, List, [], ◌∷◌, codes, take, length, Option, None, Some, refl}
use Rattle.std.specs.List.{list_all, starts_with}
use Rattle.std.proofs.lemmas.Bool.{and_parts, true≢false}
use Rattle.std.proofs.lemmas.Slice.Eq.{bytes_eq-Decides}
use mathlib.Core.Path.{◌∙◌, sym, ap}
use Rattle.standard_tokens.specs.Entries.{Act, On, Next, Word, AnyCase, Name, Else, Guard, Always, Appropriate, IsScript, InForeign, InAttribute, Historical}
use Rattle.standard_tokens.specs.Entries.{Then, Entry, entry}
use Rattle.standard_tokens.specs.Machine.{Machine, Taken, consumed, step, step_by, taken, taken_if}
use Rattle.standard_tokens.specs.States.{State as StandardState}
use Rattle.standard_tokens.specs.Table.{entries}
use Rattle.page_tokens.proofs.EveryState.{every_state}

abbrev is_cdata : On → Bool
is_cdata (Word word) = bytes_eq word (codes "[CDATA[")
is_cdata _ = false

-- the flag is asked where `[CDATA[` is read alone
abbrev asks_there : Guard → On → Bool
asks_there InForeign on = is_cdata on
asks_there _ on = true

abbrev asks_well : Entry → Bool
asks_well (entry on guard acts goes) = asks_there guard on

asks_in : (s : StandardState) → list_all asks_well (entries s) ≡ true
unfolding entries
asks_in = every_state (λ s. list_all asks_well (entries s)) refl

abbrev pub NoCdata : List ℕ → Type 0
NoCdata text = starts_with eqb text (codes "[CDATA[") ≡ false

not_consumed : (on : On) (text : List ℕ) → is_cdata on ≡ true → NoCdata text → consumed on text ≡ None
not_consumed (Word word) text is none =
    let same : word ≡ codes "[CDATA[" = (bytes_eq-Decides word (codes "[CDATA[")).0 is in
    ap (λ (w : List ℕ). cond (starts_with eqb text w) (Some (take (length w) text)) None) same ∙ ap (λ x. cond x (Some (take (length (codes "[CDATA[")) text)) None) none
not_consumed (Next marks) text is none = absurd (true≢false (sym is))
not_consumed (AnyCase word) text is none = absurd (true≢false (sym is))
not_consumed Name text is none = absurd (true≢false (sym is))
not_consumed Else text is none = absurd (true≢false (sym is))

same_met : (b x : Bool) (guard : Guard) (on : On) (acts : List Act) (goes : Then) (m : Machine) (text : List ℕ) (other : Taken) → asks_there guard on ≡ true → NoCdata text →
    taken_if b (consumed on text) guard acts goes m text other ≡ taken_if x (consumed on text) guard acts goes m text other
same_met b x InForeign on acts goes m text other asks none =
    let no : consumed on text ≡ None = not_consumed on text asks none in
    ap (λ o. taken_if b o InForeign acts goes m text other) no ∙ sym (ap (λ o. taken_if x o InForeign acts goes m text other) no)
same_met b x Always on acts goes m text other asks none = go (consumed on text)
  where
    go : (o : Option (List ℕ)) → taken_if b o Always acts goes m text other ≡ taken_if x o Always acts goes m text other
    go None = refl
    go (Some cur) = refl
same_met b x Appropriate on acts goes m text other asks none = go (consumed on text)
  where
    go : (o : Option (List ℕ)) → taken_if b o Appropriate acts goes m text other ≡ taken_if x o Appropriate acts goes m text other
    go None = refl
    go (Some cur) = refl
same_met b x IsScript on acts goes m text other asks none = go (consumed on text)
  where
    go : (o : Option (List ℕ)) → taken_if b o IsScript acts goes m text other ≡ taken_if x o IsScript acts goes m text other
    go None = refl
    go (Some cur) = refl
same_met b x InAttribute on acts goes m text other asks none = go (consumed on text)
  where
    go : (o : Option (List ℕ)) → taken_if b o InAttribute acts goes m text other ≡ taken_if x o InAttribute acts goes m text other
    go None = refl
    go (Some cur) = refl
same_met b x Historical on acts goes m text other asks none = go (consumed on text)
  where
    go : (o : Option (List ℕ)) → taken_if b o Historical acts goes m text other ≡ taken_if x o Historical acts goes m text other
    go None = refl
    go (Some cur) = refl

same_taken : (b x : Bool) (m : Machine) (text : List ℕ) (es : List Entry) → list_all asks_well es ≡ true → NoCdata text → taken b m text es ≡ taken x m text es
unfolding taken
same_taken b x m text [] all none = refl
same_taken b x m text (entry on guard acts goes ∷ es) all none =
    let parts : (asks_there guard on ≡ true) × (list_all asks_well es ≡ true) = and_parts (asks_there guard on) (list_all asks_well es) all in
    ap (λ other. taken_if b (consumed on text) guard acts goes m text other) (same_taken b x m text es parts.1 none) ∙ same_met b x guard on acts goes m text (taken x m text es) parts.0 none

pub same_step : (b x : Bool) (m : Machine) (text : List ℕ) → NoCdata text → step b m text ≡ step x m text
unfolding step
same_step b x m text none = ap (step_by m text) (same_taken b x m text (entries m.state) (asks_in m.state) none)
