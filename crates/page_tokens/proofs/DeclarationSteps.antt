-- What a character behind `<!` does, in the standard.
use Rattle.std.specs.Prelude.{◌≡◌, ℕ, zero, suc, ◌<◌, ◌+◌, Bool, true, false, eqb, ◌==◌, ◌||◌, cond, List, [], ◌∷◌, ◌++◌, map, take, codes, refl}
use Rattle.std.proofs.Common.{arith}
use Rattle.std.specs.Char.{to_ascii_lowercase}
use Rattle.std.specs.List.{starts_with}
use Rattle.std.proofs.Math.Seq.{drop-append_seam}
use Rattle.std.proofs.lemmas.Bool.{eqb-true, eqb-false}
use Rattle.std.proofs.lemmas.List.{append-nil, append_assoc}
use mathlib.Core.Path.{◌∙◌, sym, ap, subst}
use Rattle.standard_tokens.specs.Entries.{NewComment, Add, Comment as TheComment, Current, Stay, Switch, Reconsume}
use Rattle.standard_tokens.specs.Machine.{Machine, Taken, all_emitted, at_state, same_case_less, step, step_by, stops, taken}
use Rattle.standard_tokens.specs.States as there
use Rattle.standard_tokens.specs.Table.{entries}
use Rattle.page_tokens.specs.Declarations.{letter_is, declared_of}
use Rattle.page_tokens.specs.Standard.{Goes, stays, IsSeen}
use Rattle.page_tokens.specs.declared.tokenizer.declarations.Declared.{Declared}
use Rattle.page_tokens.specs.declared.tokenizer.declarations.Declared.TheVariants as it
use Rattle.page_tokens.specs.declared.tokenizer.state.Seen.{Seen}
use Rattle.page_tokens.specs.declared.tokenizer.state.Seen.TheVariants as seen
use Rattle.page_tokens.proofs.CommentSteps.{commenting}
use Rattle.page_tokens.proofs.StandardSteps.{by_bool, by_entry, by_test, taking, then_on}
use Rattle.page_tokens.proofs.WordSteps.{begins, extends, fails, map_snoc, taken_word}

abbrev opening : Machine → Machine
opening m = at_state m there.MarkupDeclarationOpen

-- ---- the entries of the markup declaration open state

abbrev pub dashes : List ℕ → Bool
dashes text = starts_with eqb text (codes "--")

abbrev pub doctypes : List ℕ → Bool
doctypes text = starts_with same_case_less text (codes "DOCTYPE")

abbrev pub cdatas : List ℕ → Bool
cdatas text = starts_with eqb text (codes "[CDATA[")

doctype_taken : (b : Bool) (m : Machine) (text : List ℕ) → dashes text ≡ false → doctypes text ≡ true → taken b m text (entries there.MarkupDeclarationOpen) ≡ taking [] (Switch there.DOCTYPEState) (take 7 text)
unfolding taken entries
doctype_taken b m text one two = rw (one, two) refl

cdata_taken : (m : Machine) (text : List ℕ) → dashes text ≡ false → doctypes text ≡ false → cdatas text ≡ true → taken true m text (entries there.MarkupDeclarationOpen) ≡ taking [] (Switch there.CDATASection) (take 7 text)
unfolding taken entries
cdata_taken m text one two three = rw (one, two, three) refl

no_cdata_taken : (m : Machine) (text : List ℕ) → dashes text ≡ false → doctypes text ≡ false → cdatas text ≡ true →
    taken false m text (entries there.MarkupDeclarationOpen) ≡ taking (NewComment ∷ Add TheComment Current ∷ []) (Switch there.BogusComment) (take 7 text)
unfolding taken entries
no_cdata_taken m text one two three = rw (one, two, three) refl

pub bogus_taken : (b : Bool) (m : Machine) (text : List ℕ) → dashes text ≡ false → doctypes text ≡ false → cdatas text ≡ false →
    taken b m text (entries there.MarkupDeclarationOpen) ≡ taking (NewComment ∷ []) (Reconsume there.BogusComment) (take 1 text)
unfolding taken entries
bogus_taken b m text one two three = rw (one, two, three) refl

-- ---- letters of a bogus comment

-- a character that stands for itself there
pub record Itself (c : ℕ) : Type 0 where
  pub no_end : (62 == c) ≡ false
  pub no_null : (0 == c) ≡ false

abbrev pub AllThemselves : List ℕ → Type 0
AllThemselves [] = Unit {0}
AllThemselves (c ∷ cs) = Itself c × AllThemselves cs

itself_taken : (b : Bool) (m : Machine) (c : ℕ) (text : List ℕ) → Itself c → taken b m (c ∷ text) (entries there.BogusComment) ≡ taking (Add TheComment Current ∷ []) Stay (c ∷ [])
unfolding taken entries
itself_taken b m c text is = rw (is.no_end, is.no_null) refl

pub bogus_run : (b : Bool) (m : Machine) (d front rest : List ℕ) → AllThemselves front → Goes (commenting m there.BogusComment d) (front ++ rest) [] (commenting m there.BogusComment (d ++ front)) rest
bogus_run b m d [] rest all = subst (λ e. Goes (commenting m there.BogusComment d) rest [] (commenting m there.BogusComment e) rest) (sym (append-nil d)) stays
bogus_run b m d (c ∷ front) rest all =
    let M : Machine = commenting m there.BogusComment d in
    let one : Goes M (c ∷ (front ++ rest)) [] (commenting m there.BogusComment (d ++ c ∷ [])) (front ++ rest) =
    by_entry M (c ∷ (front ++ rest)) (taking (Add TheComment Current ∷ []) Stay (c ∷ [])) (λ x. itself_taken x M c (front ++ rest) all.0) refl in
    subst (λ e. Goes M (c ∷ (front ++ rest)) [] (commenting m there.BogusComment e) rest) (append_assoc d (c ∷ []) front) (then_on one (bogus_run b m (d ++ c ∷ []) front rest all.1))

-- nothing else begins, and what was read is a bogus comment
bogus : (b : Bool) (m : Machine) (ahead rest : List ℕ) (c : ℕ) → dashes (ahead ++ c ∷ rest) ≡ false → doctypes (ahead ++ c ∷ rest) ≡ false → cdatas (ahead ++ c ∷ rest) ≡ false → AllThemselves ahead →
    Goes (opening m) (ahead ++ c ∷ rest) [] (commenting m there.BogusComment ahead) (c ∷ rest)
bogus b m ahead rest c one two three all =
    let text : List ℕ = ahead ++ c ∷ rest in
    then_on (by_entry (opening m) text (taking (NewComment ∷ []) (Reconsume there.BogusComment) (take 1 text)) (λ x. bogus_taken x (opening m) text one two three) refl) (bogus_run b m [] ahead (c ∷ rest) all)

-- ---- the step for which it is asked whether this is foreign content

-- where one step leads that emits nothing
pub record StepsTo (b : Bool) (m : Machine) (text : List ℕ) (n : Machine) (rest : List ℕ) : Type 0 where
  pub runs : (step b m text).stopped ≡ false
  pub tokens : (step b m text).tokens ≡ []
  pub machine : (step b m text).machine ≡ n
  pub rest_is : (step b m text).rest ≡ rest

asked_entry : (b : Bool) (m : Machine) (text : List ℕ) (t : Taken) → taken b m text (entries m.state) ≡ t → stops t.goes ≡ false → all_emitted t.current t.acts m ≡ [] →
    StepsTo b m text (step_by m text t).machine (step_by m text t).rest
unfolding step
asked_entry b m text t is runs silent = record {
  runs = ap (λ (k : Taken). stops k.goes) is ∙ runs;
  tokens = ap (λ (k : Taken). all_emitted k.current k.acts m) is ∙ silent;
  machine = ap (λ (k : Taken). (step_by m text k).machine) is;
  rest_is = ap (λ (k : Taken). (step_by m text k).rest) is;
}

-- ---- what each state comes to

abbrev pub behind_cdata : Bool → Machine → List ℕ → Machine
behind_cdata true m front = at_state m there.CDATASection
behind_cdata false m front = commenting m there.BogusComment front

abbrev pub Declares : Bool → Machine → List ℕ → List ℕ → ℕ → Declared → Type 0
Declares b m ahead rest c (it.More next) = IsSeen next (ahead ++ c ∷ [])
Declares b m ahead rest c it.Comment = Goes (opening m) (ahead ++ c ∷ rest) [] (commenting m there.CommentStart []) rest
Declares b m ahead rest c it.Bogus = Goes (opening m) (ahead ++ c ∷ rest) [] (commenting m there.BogusComment ahead) (c ∷ rest)
Declares b m ahead rest c it.Doctype = Goes (opening m) (ahead ++ c ∷ rest) [] (at_state m there.DOCTYPEState) rest
Declares b m ahead rest c it.Cdata = StepsTo b (opening m) (ahead ++ c ∷ rest) (behind_cdata b m (ahead ++ c ∷ [])) rest

-- nothing was seen
no_d : (c : ℕ) → (100 == c) ≡ false → (68 == c) ≡ false → (100 == to_ascii_lowercase c) ≡ false
no_d c one two = grind arith

opens : (b : Bool) (m : Machine) (rest : List ℕ) (c : ℕ) → Declares b m [] rest c (declared_of seen.Nothing c)
opens b m rest c =
    by_test (Declares b m [] rest) c 45 (it.More seen.Dash) _ refl
    (λ h45. by_bool (λ e x. Declares b m [] rest e (cond (x || e == 68) (it.More (seen.Doctype 1)) (cond (e == 91) (it.More (seen.Cdata 1)) it.Bogus))) c 100
    (omega arith, omega arith, refl)
    (λ h100. by_bool (λ e x. Declares b m [] rest e (cond x (it.More (seen.Doctype 1)) (cond (e == 91) (it.More (seen.Cdata 1)) it.Bogus))) c 68
    (omega arith, omega arith, refl)
    (λ h68. by_test (Declares b m [] rest) c 91 (it.More (seen.Cdata 1)) it.Bogus
    (omega arith, omega arith, refl)
    (λ h91. bogus b m [] rest c (rw h45 refl) (rw (no_d c h100 h68) refl) (rw h91 refl) tt))))

-- a dash was seen
dash : (b : Bool) (m : Machine) (rest : List ℕ) (c : ℕ) → Declares b m (codes "-") rest c (declared_of seen.Dash c)
unfolding taken entries
dash b m rest c =
    by_test (Declares b m (codes "-") rest) c 45 it.Comment it.Bogus
    (by_entry (opening m) (45 ∷ 45 ∷ rest) (taking (NewComment ∷ []) (Switch there.CommentStart) (45 ∷ 45 ∷ [])) (λ x. refl) refl)
    (λ h45. bogus b m (codes "-") rest c (rw h45 refl) refl refl (record { no_end = refl; no_null = refl }, tt))

-- ---- words

is_lower : (a x : ℕ) → to_ascii_lowercase a ≡ x → 90 < x → 62 < a
is_lower a x is high = grind arith

itself : (a : ℕ) → 62 < a → Itself a
itself a high = record { no_end = grind arith; no_null = grind arith }

abbrev pub High : List ℕ → Type 0
High [] = Unit {0}
High (x ∷ xs) = (90 < x) × High xs

pub high_taken : (n : ℕ) (xs : List ℕ) → High xs → High (take n xs)
high_taken zero xs all = tt
high_taken (suc n) [] all = tt
high_taken (suc n) (x ∷ xs) all = (all.0, high_taken n xs all.1)

pub lower_themselves : (ahead xs : List ℕ) → map to_ascii_lowercase ahead ≡ xs → High xs → AllThemselves ahead
lower_themselves [] xs is all = tt
lower_themselves (a ∷ ahead) [] is all = absurd (cc)
lower_themselves (a ∷ ahead) (x ∷ xs) is all = (itself a (is_lower a x (cc) all.0), lower_themselves ahead xs (cc) all.1)

pub letters_high : High (codes "doctype")
letters_high = (omega arith, (omega arith, (omega arith, (omega arith, (omega arith, (omega arith, (omega arith, tt)))))))

-- the first letter
d_first : (ahead : List ℕ) (n : ℕ) → 0 < n → map to_ascii_lowercase ahead ≡ take n (codes "doctype") → (c : ℕ) (rest : List ℕ) → (dashes (ahead ++ c ∷ rest) ≡ false) × (cdatas (ahead ++ c ∷ rest) ≡ false)
d_first ahead zero some is c rest = absurd (omega (arith, some))
d_first [] (suc n) some is c rest = absurd (cc)
d_first (a ∷ ahead) (suc n) some is c rest =
    let low : to_ascii_lowercase a ≡ 100 = cc in
    (rw (no_dash a low) refl, rw (no_bracket a low) refl)
  where
    no_dash : (a : ℕ) → to_ascii_lowercase a ≡ 100 → (45 == a) ≡ false
    no_dash a is = grind arith

    no_bracket : (a : ℕ) → to_ascii_lowercase a ≡ 100 → (91 == a) ≡ false
    no_bracket a is = grind arith

not_six : (n : ℕ) → ((n ≡ 6) → ⊥) → n < 7 → n + 1 < 7
not_six n other low = omega (arith, other, low)

in_doctype : (b : Bool) (m : Machine) (ahead rest : List ℕ) (n c : ℕ) → IsSeen (seen.Doctype n) ahead → Declares b m ahead rest c (declared_of (seen.Doctype n) c)
in_doctype b m ahead rest n c is = go (letter_is (codes "doctype") n (to_ascii_lowercase c)) refl
  where
    whole : (m : Machine) (front rest : List ℕ) → map to_ascii_lowercase front ≡ codes "doctype" → dashes (front ++ rest) ≡ false → Goes (opening m) (front ++ rest) [] (at_state m there.DOCTYPEState) rest
    whole m front rest same one =
        let text : List ℕ = front ++ rest in
        let cut : take 7 text ≡ front = taken_word to_ascii_lowercase (codes "DOCTYPE") front rest same in
        subst (λ t. Goes (opening m) text [] (at_state m there.DOCTYPEState) t) (drop-append_seam front rest)
        (by_entry (opening m) text (taking [] (Switch there.DOCTYPEState) front)
        (λ x. doctype_taken x (opening m) text one (begins to_ascii_lowercase (codes "DOCTYPE") front rest same) ∙ ap (taking [] (Switch there.DOCTYPEState)) cut) refl)

    longer : letter_is (codes "doctype") n (to_ascii_lowercase c) ≡ true → map to_ascii_lowercase (ahead ++ c ∷ []) ≡ take (suc n) (codes "doctype")
    longer h = map_snoc to_ascii_lowercase ahead c ∙ ap (λ t. t ++ to_ascii_lowercase c ∷ []) is.2 ∙ sym (extends (codes "doctype") n (to_ascii_lowercase c) h)

    at : letter_is (codes "doctype") n (to_ascii_lowercase c) ≡ true → (x : Bool) → (n == 6) ≡ x → Declares b m ahead rest c (cond x it.Doctype (it.More (seen.Doctype (n + 1))))
    at h true six =
        let n_is : n ≡ 6 = eqb-true n 6 six in
        let same : map to_ascii_lowercase (ahead ++ c ∷ []) ≡ codes "doctype" = longer h ∙ ap (λ k. take (suc k) (codes "doctype")) n_is in
        let joined : (ahead ++ c ∷ []) ++ rest ≡ ahead ++ c ∷ rest = append_assoc ahead (c ∷ []) rest in
        subst (λ t. Goes (opening m) t [] (at_state m there.DOCTYPEState) rest) joined
        (whole m (ahead ++ c ∷ []) rest same (ap dashes joined ∙ (d_first ahead n is.0 is.2 c rest).0))
    at h false no_six =
        let e : suc n ≡ n + 1 = omega arith in
        (omega arith, not_six n (eqb-false n 6 no_six) is.1, longer h ∙ ap (λ k. take k (codes "doctype")) e)

    go : (x : Bool) → letter_is (codes "doctype") n (to_ascii_lowercase c) ≡ x →
        Declares b m ahead rest c (cond x (cond (n == 6) it.Doctype (it.More (seen.Doctype (n + 1)))) it.Bogus)
    go true h = at h (n == 6) refl
    go false h = bogus b m ahead rest c (d_first ahead n is.0 is.2 c rest).0 (fails to_ascii_lowercase (codes "DOCTYPE") ahead n c rest is.2 is.1 h) (d_first ahead n is.0 is.2 c rest).1
        (lower_themselves ahead (take n (codes "doctype")) is.2 (high_taken n (codes "doctype") letters_high))

pub themselves_taken : (n : ℕ) (xs : List ℕ) → AllThemselves xs → AllThemselves (take n xs)
themselves_taken zero xs all = tt
themselves_taken (suc n) [] all = tt
themselves_taken (suc n) (x ∷ xs) all = (all.0, themselves_taken n xs all.1)

pub cdata_themselves : AllThemselves (codes "[CDATA[")
cdata_themselves =
    let one : (c : ℕ) → (62 == c) ≡ false → (0 == c) ≡ false → Itself c = λ c a b. record { no_end = a; no_null = b } in
    (one 91 refl refl, (one 67 refl refl, (one 68 refl refl, (one 65 refl refl, (one 84 refl refl, (one 65 refl refl, (one 91 refl refl, tt)))))))

abbrev pub same : ℕ → ℕ
same x = x

pub map_same : (xs : List ℕ) → map same xs ≡ xs
map_same [] = refl
map_same (x ∷ xs) = ap (λ t. x ∷ t) (map_same xs)

bracket_first : (n : ℕ) → 0 < n → (c : ℕ) (rest : List ℕ) → (dashes (take n (codes "[CDATA[") ++ c ∷ rest) ≡ false) × (doctypes (take n (codes "[CDATA[") ++ c ∷ rest) ≡ false)
bracket_first zero some c rest = absurd (omega (arith, some))
bracket_first (suc n) some c rest = (refl, refl)

in_cdata_word : (b : Bool) (m : Machine) (rest : List ℕ) (n c : ℕ) → 0 < n → n < 7 → Declares b m (take n (codes "[CDATA[")) rest c (declared_of (seen.Cdata n) c)
in_cdata_word b m rest n c some low = go (letter_is (codes "[CDATA[") n c) refl
  where
    behind : (b : Bool) (m : Machine) (front rest : List ℕ) → front ≡ codes "[CDATA[" → dashes (front ++ rest) ≡ false → doctypes (front ++ rest) ≡ false → StepsTo b (opening m) (front ++ rest) (behind_cdata b m front) rest
    behind true m front rest is one two =
        let text : List ℕ = front ++ rest in
        let e : map same front ≡ codes "[CDATA[" = map_same front ∙ is in
        let cut : take 7 text ≡ front = taken_word same (codes "[CDATA[") front rest e in
        subst (λ t. StepsTo true (opening m) text (at_state m there.CDATASection) t) (drop-append_seam front rest)
        (asked_entry true (opening m) text (taking [] (Switch there.CDATASection) front)
        (cdata_taken (opening m) text one two (begins same (codes "[CDATA[") front rest e) ∙ ap (taking [] (Switch there.CDATASection)) cut) refl refl)
    behind false m front rest is one two =
        let text : List ℕ = front ++ rest in
        let e : map same front ≡ codes "[CDATA[" = map_same front ∙ is in
        let cut : take 7 text ≡ front = taken_word same (codes "[CDATA[") front rest e in
        subst (λ t. StepsTo false (opening m) text (commenting m there.BogusComment front) t) (drop-append_seam front rest)
        (asked_entry false (opening m) text (taking (NewComment ∷ Add TheComment Current ∷ []) (Switch there.BogusComment) front)
        (no_cdata_taken (opening m) text one two (begins same (codes "[CDATA[") front rest e) ∙ ap (taking (NewComment ∷ Add TheComment Current ∷ []) (Switch there.BogusComment)) cut) refl refl)

    at : letter_is (codes "[CDATA[") n c ≡ true → (x : Bool) → (n == 6) ≡ x → Declares b m (take n (codes "[CDATA[")) rest c (cond x it.Cdata (it.More (seen.Cdata (n + 1))))
    at h true six =
        let ahead : List ℕ = take n (codes "[CDATA[") in
        let n_is : n ≡ 6 = eqb-true n 6 six in
        let is : ahead ++ c ∷ [] ≡ codes "[CDATA[" = sym (extends (codes "[CDATA[") n c h) ∙ ap (λ k. take (suc k) (codes "[CDATA[")) n_is in
        let joined : (ahead ++ c ∷ []) ++ rest ≡ ahead ++ c ∷ rest = append_assoc ahead (c ∷ []) rest in
        subst (λ t. StepsTo b (opening m) t (behind_cdata b m (ahead ++ c ∷ [])) rest) joined
        (behind b m (ahead ++ c ∷ []) rest is (ap dashes joined ∙ (bracket_first n some c rest).0) (ap doctypes joined ∙ (bracket_first n some c rest).1))
    at h false no_six =
        let e : suc n ≡ n + 1 = omega arith in
        (omega arith, not_six n (eqb-false n 6 no_six) low, sym (extends (codes "[CDATA[") n c h) ∙ ap (λ k. take k (codes "[CDATA[")) e)

    go : (x : Bool) → letter_is (codes "[CDATA[") n c ≡ x →
        Declares b m (take n (codes "[CDATA[")) rest c (cond x (cond (n == 6) it.Cdata (it.More (seen.Cdata (n + 1)))) it.Bogus)
    go true h = at h (n == 6) refl
    go false h = bogus b m (take n (codes "[CDATA[")) rest c (bracket_first n some c rest).0 (bracket_first n some c rest).1
        (fails same (codes "[CDATA[") (take n (codes "[CDATA[")) n c rest (map_same (take n (codes "[CDATA["))) low h) (themselves_taken n (codes "[CDATA[") cdata_themselves)

pub declares : (b : Bool) (m : Machine) (ahead rest : List ℕ) (c : ℕ) (s : Seen) → IsSeen s ahead → Declares b m ahead rest c (declared_of s c)
declares b m ahead rest c seen.Nothing is = subst (λ t. Declares b m t rest c (declared_of seen.Nothing c)) (sym is) (opens b m rest c)
declares b m ahead rest c seen.Dash is = subst (λ t. Declares b m t rest c (declared_of seen.Dash c)) (sym is) (dash b m rest c)
declares b m ahead rest c (seen.Doctype n) is = in_doctype b m ahead rest n c is
declares b m ahead rest c (seen.Cdata n) is = subst (λ t. Declares b m t rest c (declared_of (seen.Cdata n) c)) (sym is.2) (in_cdata_word b m rest n c is.0 is.1)
