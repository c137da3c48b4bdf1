-- The names of tags and attributes contain no white space, `/`, `>` or upper-case letter.
use Rattle.std.specs.Prelude.{◌≡◌, ℕ, ◌==◌, Bool, true, false, cond, ◌&&◌, ◌||◌, nat_le, bytes_eq, List, [], ◌∷◌, ◌++◌, ◌⊎◌, map, take, drop, length, reverse, Option, None, Some, refl}
use Rattle.std.specs.Char.{char_set_contains, is_ascii_uppercase, to_ascii_lowercase}
use Rattle.std.specs.List.{list_all, list_any}
use Rattle.std.proofs.lemmas.Bool.{and_from, and_parts, cases_Bool, eqb-true, true≢false}
use Rattle.std.proofs.Common.{arith, inl, inr}
use Rattle.std.proofs.lemmas.List.{reverse-append}
use Rattle.std.proofs.lemmas.List.Folds.{list_all-append}
use Rattle.std.proofs.lemmas.Option.{none-some, same_Some}
use mathlib.Core.Path.{◌∙◌, sym, ap, subst}
use Rattle.standard_tokens.specs.Entries.{Act, Emit, EmitTag, EmitComment, EmitDoctype, EmitEndOfFile, NewTag, NewAttr, NewComment, NewDoctype}
use Rattle.standard_tokens.specs.Entries.{SelfClosing, ForceQuirks, Add, SetEmpty, ReturnTo, CodeZero, CodeDigit, BufferNumber, BufferName, Flush}
use Rattle.standard_tokens.specs.Entries.{On, Next, Word, AnyCase, Name, Else, Mark, OneOf, Range, End, Guard, Then, Entry, entry, Starting, Ending}
use Rattle.standard_tokens.specs.Entries.{What, Current, Lower, TheBuffer, These, TheTagName, AttrName, AttrValue, Comment, DoctypeName, PublicId}
use Rattle.standard_tokens.specs.Entries.{SystemId, Buffer, TagKind as StandardKind}
use Rattle.standard_tokens.specs.Machine.{Machine, Step, Tag as StandardTag, Taken, added, all_done, all_emitted, at_state, characters, consumed, distinct, distinct_behind}
use Rattle.standard_tokens.specs.Machine.{done, emitted, fits_mark, is_met, is_value, start_in, step, taken, taken_if, token_of, with_name, with_value}
use Rattle.standard_tokens.specs.Reading.{Feedback, Reader, Reads, here, next, answered, switched}
use Rattle.standard_tokens.specs.States as there
use Rattle.standard_tokens.specs.States.{State as StandardState}
use Rattle.standard_tokens.specs.Table.{entries}
use Rattle.standard_tokens.specs.Tokens.{Attr, Token as StandardToken, AChar, AStart, AnEnd}
use Rattle.page_tokens.proofs.EveryState.{every_state, is_state, same_state, third}
use Rattle.page_tokens.specs.PlainNames.{NamesArePlain, are_plain, has_plain_names, is_name_char, is_plain}

-- ---- the table: what an entry adds to a name is plain

abbrev is_lower_mark : Mark → Bool
is_lower_mark (OneOf cs) = is_plain cs
is_lower_mark (Range low high) = low == 97 && high == 122
is_lower_mark End = true

abbrev is_upper_mark : Mark → Bool
is_upper_mark (Range low high) = low == 65 && high == 90
is_upper_mark (OneOf cs) = false
is_upper_mark End = false

abbrev what_fits : What → On → Bool
what_fits (These cs) on = is_plain cs
what_fits Current (Next marks) = list_all is_lower_mark marks
what_fits Lower (Next marks) = list_all is_upper_mark marks
what_fits _ _ = false

abbrev act_fits : On → Act → Bool
act_fits on (Add TheTagName what) = what_fits what on
act_fits on (Add AttrName what) = what_fits what on
act_fits on _ = true

abbrev entry_fits : Entry → Bool
entry_fits (entry on guard acts goes) = list_all (act_fits on) acts

-- ---- what is consumed

abbrev plain_what : List ℕ → What → Bool
plain_what cur Current = is_plain cur
plain_what cur Lower = is_plain (map to_ascii_lowercase cur)
plain_what cur TheBuffer = false
plain_what cur (These cs) = is_plain cs

-- with these characters consumed, the act adds nothing to a name that is not plain
abbrev fits : List ℕ → Act → Bool
fits cur (Add TheTagName what) = plain_what cur what
fits cur (Add AttrName what) = plain_what cur what
fits cur _ = true

abbrev Fits : Taken → Type 0
Fits t = list_all (fits t.current) t.acts ≡ true

lower_plain : (c : ℕ) → (nat_le 97 c && nat_le c 122) ≡ true → is_name_char c ≡ true
lower_plain c h = grind arith

upper_plain : (c : ℕ) → (nat_le 65 c && nat_le c 90) ≡ true → is_name_char (to_ascii_lowercase c) ≡ true
upper_plain c h = grind arith

among_plain : (cs : List ℕ) (c : ℕ) → is_plain cs ≡ true → char_set_contains cs c ≡ true → is_name_char c ≡ true
among_plain [] c all is = absurd (true≢false (sym is))
among_plain (d ∷ cs) c all is =
    let parts : (is_name_char d ≡ true) × (is_plain cs ≡ true) = and_parts (is_name_char d) (is_plain cs) all in
    go (d == c) refl parts.0 (λ among. among_plain cs c parts.1 among) is
  where
    go : (x : Bool) → (d == c) ≡ x → is_name_char d ≡ true → (char_set_contains cs c ≡ true → is_name_char c ≡ true) → (x || char_set_contains cs c) ≡ true → is_name_char c ≡ true
    go true e first others is = ap is_name_char (sym (eqb-true d c e)) ∙ first
    go false e first others is = others is

between : (low high from to c : ℕ) → (low == from && high == to) ≡ true → (nat_le low c && nat_le c high) ≡ true → (nat_le from c && nat_le c to) ≡ true
between low high from to c is within =
    let parts : ((low == from) ≡ true) × ((high == to) ≡ true) = and_parts (low == from) (high == to) is in
    ap (λ k. nat_le k c && nat_le c to) (sym (eqb-true low from parts.0)) ∙ ap (λ k. nat_le low c && nat_le c k) (sym (eqb-true high to parts.1)) ∙ within

lower_mark : (mark : Mark) (c : ℕ) (rest : List ℕ) → is_lower_mark mark ≡ true → fits_mark mark (c ∷ rest) ≡ true → is_name_char c ≡ true
lower_mark (OneOf cs) c rest is h = among_plain cs c is h
lower_mark (Range low high) c rest is h = lower_plain c (between low high 97 122 c is h)
lower_mark End c rest is h = absurd (true≢false (sym h))

upper_mark : (mark : Mark) (c : ℕ) (rest : List ℕ) → is_upper_mark mark ≡ true → fits_mark mark (c ∷ rest) ≡ true → is_name_char (to_ascii_lowercase c) ≡ true
upper_mark (Range low high) c rest is h = upper_plain c (between low high 65 90 c is h)
upper_mark (OneOf cs) c rest is h = absurd (true≢false (sym is))
upper_mark End c rest is h = absurd (true≢false (sym h))

some_mark : (P : Mark → Bool) (good : ℕ → Bool) (marks : List Mark) (c : ℕ) (rest : List ℕ) → ((mark : Mark) → P mark ≡ true → fits_mark mark (c ∷ rest) ≡ true → good c ≡ true) → list_all P marks ≡ true →
    list_any (λ mark. fits_mark mark (c ∷ rest)) marks ≡ true → good c ≡ true
some_mark P good [] c rest each all h = absurd (true≢false (sym h))
some_mark P good (mark ∷ marks) c rest each all h =
    let parts : (P mark ≡ true) × (list_all P marks ≡ true) = and_parts (P mark) (list_all P marks) all in
    go (fits_mark mark (c ∷ rest)) refl parts.0 (λ some. some_mark P good marks c rest each parts.1 some) h
  where
    go : (x : Bool) → fits_mark mark (c ∷ rest) ≡ x → P mark ≡ true → (list_any (λ mark. fits_mark mark (c ∷ rest)) marks ≡ true → good c ≡ true) → (x || list_any (λ mark. fits_mark mark (c ∷ rest)) marks) ≡ true → good c ≡ true
    go true e first others h = each mark first e
    go false e first others h = others h

record TookNext (marks : List Mark) (text cur : List ℕ) : Type 0 where
  pub is : cur ≡ take 1 text
  pub some : list_any (λ mark. fits_mark mark text) marks ≡ true

took_next : (marks : List Mark) (text cur : List ℕ) → consumed (Next marks) text ≡ Some cur → TookNext marks text cur
took_next marks text cur took = go (list_any (λ mark. fits_mark mark text) marks) refl took
  where
    go : (x : Bool) → list_any (λ mark. fits_mark mark text) marks ≡ x → cond x (Some (take 1 text)) None ≡ Some cur → TookNext marks text cur
    go true e took = record { is = sym (same_Some (take 1 text) cur took); some = e }
    go false e took = absurd (none-some cur took)

next_lower : (marks : List Mark) (text cur : List ℕ) → list_all is_lower_mark marks ≡ true → TookNext marks text cur → is_plain cur ≡ true
next_lower marks [] cur all at = ap is_plain at.is
next_lower marks (c ∷ rest) cur all at =
    ap is_plain at.is ∙ and_from (is_name_char c) true (some_mark is_lower_mark is_name_char marks c rest (λ mark is h. lower_mark mark c rest is h) all at.some) refl

next_upper : (marks : List Mark) (text cur : List ℕ) → list_all is_upper_mark marks ≡ true → TookNext marks text cur → is_plain (map to_ascii_lowercase cur) ≡ true
next_upper marks [] cur all at = ap (λ cs. is_plain (map to_ascii_lowercase cs)) at.is
next_upper marks (c ∷ rest) cur all at =
    ap (λ cs. is_plain (map to_ascii_lowercase cs)) at.is
    ∙ and_from (is_name_char (to_ascii_lowercase c)) true (some_mark is_upper_mark (λ d. is_name_char (to_ascii_lowercase d)) marks c rest (λ mark is h. upper_mark mark c rest is h) all at.some) refl

what_took : (what : What) (on : On) (text cur : List ℕ) → what_fits what on ≡ true → consumed on text ≡ Some cur → plain_what cur what ≡ true
what_took (These cs) on text cur h took = h
what_took Current (Next marks) text cur h took = next_lower marks text cur h (took_next marks text cur took)
what_took Lower (Next marks) text cur h took = next_upper marks text cur h (took_next marks text cur took)
what_took Current (Word word) text cur h took = absurd (true≢false (sym h))
what_took Current (AnyCase word) text cur h took = absurd (true≢false (sym h))
what_took Current Name text cur h took = absurd (true≢false (sym h))
what_took Current Else text cur h took = absurd (true≢false (sym h))
what_took Lower (Word word) text cur h took = absurd (true≢false (sym h))
what_took Lower (AnyCase word) text cur h took = absurd (true≢false (sym h))
what_took Lower Name text cur h took = absurd (true≢false (sym h))
what_took Lower Else text cur h took = absurd (true≢false (sym h))
what_took TheBuffer on text cur h took = absurd (true≢false (sym h))

act_took : (on : On) (act : Act) (text cur : List ℕ) → act_fits on act ≡ true → consumed on text ≡ Some cur → fits cur act ≡ true
act_took on (Add TheTagName what) text cur h took = what_took what on text cur h took
act_took on (Add AttrName what) text cur h took = what_took what on text cur h took
act_took on (Add AttrValue what) text cur h took = refl
act_took on (Add Comment what) text cur h took = refl
act_took on (Add DoctypeName what) text cur h took = refl
act_took on (Add PublicId what) text cur h took = refl
act_took on (Add SystemId what) text cur h took = refl
act_took on (Add Buffer what) text cur h took = refl
act_took on (Emit what) text cur h took = refl
act_took on EmitTag text cur h took = refl
act_took on EmitComment text cur h took = refl
act_took on EmitDoctype text cur h took = refl
act_took on EmitEndOfFile text cur h took = refl
act_took on (NewTag kind) text cur h took = refl
act_took on NewAttr text cur h took = refl
act_took on NewComment text cur h took = refl
act_took on NewDoctype text cur h took = refl
act_took on SelfClosing text cur h took = refl
act_took on ForceQuirks text cur h took = refl
act_took on (SetEmpty place) text cur h took = refl
act_took on (ReturnTo state) text cur h took = refl
act_took on CodeZero text cur h took = refl
act_took on (CodeDigit base less) text cur h took = refl
act_took on BufferNumber text cur h took = refl
act_took on BufferName text cur h took = refl
act_took on Flush text cur h took = refl

acts_took : (on : On) (acts : List Act) (text cur : List ℕ) → list_all (act_fits on) acts ≡ true → consumed on text ≡ Some cur → list_all (fits cur) acts ≡ true
acts_took on [] text cur h took = refl
acts_took on (act ∷ acts) text cur h took =
    let parts : (act_fits on act ≡ true) × (list_all (act_fits on) acts ≡ true) = and_parts (act_fits on act) (list_all (act_fits on) acts) h in
    and_from (fits cur act) (list_all (fits cur) acts) (act_took on act text cur parts.0 took) (acts_took on acts text cur parts.1 took)

-- ---- the entry that is taken

picked : (b : Bool) (m : Machine) (text : List ℕ) (on : On) (guard : Guard) (acts : List Act) (goes : Then) (other : Taken) → entry_fits (entry on guard acts goes) ≡ true → Fits other →
    (o : Option (List ℕ)) → consumed on text ≡ o → Fits (taken_if b o guard acts goes m text other)
picked b m text on guard acts goes other h rest None is = rest
picked b m text on guard acts goes other h rest (Some cur) is = go (is_met b guard m cur (drop (length cur) text))
  where
    go : (x : Bool) → Fits (cond x (record { acts = acts; goes = goes; current = cur }) other)
    go true = acts_took on acts text cur h is
    go false = rest

taken_fits : (b : Bool) (m : Machine) (text : List ℕ) (es : List Entry) → list_all entry_fits es ≡ true → Fits (taken b m text es)
unfolding taken
taken_fits b m text [] all = refl
taken_fits b m text (entry on guard acts goes ∷ es) all =
    let parts : (entry_fits (entry on guard acts goes) ≡ true) × (list_all entry_fits es ≡ true) = and_parts (entry_fits (entry on guard acts goes)) (list_all entry_fits es) all in
    picked b m text on guard acts goes (taken b m text es) parts.0 (taken_fits b m text es parts.1) (consumed on text) refl

abbrev FitsIn : StandardState → Type 0
FitsIn s = (b : Bool) (m : Machine) (text : List ℕ) → Fits (taken b (at_state m s) text (entries s))

in_general : (s : StandardState) → list_all entry_fits (entries s) ≡ true → FitsIn s
in_general s all b m text = taken_fits b (at_state m s) text (entries s) all

-- a character that is no other
any_other : (c : ℕ) → (9 == c) ≡ false → (10 == c) ≡ false → (12 == c) ≡ false → (32 == c) ≡ false → (47 == c) ≡ false → (62 == c) ≡ false → (nat_le 65 c && nat_le c 90) ≡ false → is_name_char c ≡ true
any_other c h9 h10 h12 h32 h47 h62 upper = rw (h9, h10, h12, h32, h47, h62, no_upper c upper) refl
  where
    no_upper : (c : ℕ) → (nat_le 65 c && nat_le c 90) ≡ false → is_ascii_uppercase c ≡ false
    no_upper c h = grind arith

plain_alone : (c : ℕ) → is_name_char c ≡ true → ((is_name_char c && true) && true) ≡ true
plain_alone c h = and_from (is_name_char c && true) true (and_from (is_name_char c) true h refl) refl

tag_name_fits : FitsIn there.TagName
unfolding taken entries
tag_name_fits b m [] = refl
tag_name_fits b m (c ∷ rest) = elim (cases_Bool (9 == c)) [
  | inl t ↦ rw t refl
  | inr h9 ↦ elim (cases_Bool (10 == c)) [
    | inl t ↦ rw (h9, t) refl
    | inr h10 ↦ elim (cases_Bool (12 == c)) [
      | inl t ↦ rw (h9, h10, t) refl
      | inr h12 ↦ elim (cases_Bool (32 == c)) [
        | inl t ↦ rw (h9, h10, h12, t) refl
        | inr h32 ↦ elim (cases_Bool (47 == c)) [
          | inl t ↦ rw (h9, h10, h12, h32, t) refl
          | inr h47 ↦ elim (cases_Bool (62 == c)) [
            | inl t ↦ rw (h9, h10, h12, h32, h47, t) refl
            | inr h62 ↦ elim (cases_Bool (nat_le 65 c && nat_le c 90)) [
              | inl t ↦ rw (h9, h10, h12, h32, h47, h62, t, upper_plain c t) refl
              | inr up ↦ elim (cases_Bool (0 == c)) [
                | inl t ↦ rw (h9, h10, h12, h32, h47, h62, up, t) refl
                | inr h0 ↦ rw (h9, h10, h12, h32, h47, h62, up, h0) (plain_alone c (any_other c h9 h10 h12 h32 h47 h62 up))
              ]
            ]
          ]
        ]
      ]
    ]
  ]
]

attr_name_fits : FitsIn there.AttributeName
unfolding taken entries
attr_name_fits b m [] = refl
attr_name_fits b m (c ∷ rest) = elim (cases_Bool (9 == c)) [
  | inl t ↦ rw t refl
  | inr h9 ↦ elim (cases_Bool (10 == c)) [
    | inl t ↦ rw (h9, t) refl
    | inr h10 ↦ elim (cases_Bool (12 == c)) [
      | inl t ↦ rw (h9, h10, t) refl
      | inr h12 ↦ elim (cases_Bool (32 == c)) [
        | inl t ↦ rw (h9, h10, h12, t) refl
        | inr h32 ↦ elim (cases_Bool (47 == c)) [
          | inl t ↦ rw (h9, h10, h12, h32, t) refl
          | inr h47 ↦ elim (cases_Bool (62 == c)) [
            | inl t ↦ rw (h9, h10, h12, h32, h47, t) refl
            | inr h62 ↦ elim (cases_Bool (61 == c)) [
              | inl t ↦ rw (h9, h10, h12, h32, h47, h62, t) refl
              | inr h61 ↦ elim (cases_Bool (nat_le 65 c && nat_le c 90)) [
                | inl t ↦ rw (h9, h10, h12, h32, h47, h62, h61, t, upper_plain c t) refl
                | inr up ↦ elim (cases_Bool (0 == c)) [
                  | inl t ↦ rw (h9, h10, h12, h32, h47, h62, h61, up, t) refl
                  | inr h0 ↦ rw (h9, h10, h12, h32, h47, h62, h61, up, h0) (plain_alone c (any_other c h9 h10 h12 h32 h47 h62 up))
                ]
              ]
            ]
          ]
        ]
      ]
    ]
  ]
]

-- Only in the two states in which names are read, that isn't seen of each entry by itself.
entry_or_name : (s : StandardState) → (list_all entry_fits (entries s) || (is_state s there.TagName || is_state s there.AttributeName)) ≡ true
unfolding entries
entry_or_name = every_state (λ s. list_all entry_fits (entries s) || (is_state s there.TagName || is_state s there.AttributeName)) refl

fits_in : (s : StandardState) → FitsIn s
fits_in s = go (third (list_all entry_fits (entries s)) (is_state s there.TagName) (is_state s there.AttributeName) (entry_or_name s))
  where
    go : (list_all entry_fits (entries s) ≡ true) ⊎ ((is_state s there.TagName ≡ true) ⊎ (is_state s there.AttributeName ≡ true)) → FitsIn s
    go (inl all) = in_general s all
    go (inr (inl is)) = subst FitsIn (sym (same_state s there.TagName is)) tag_name_fits
    go (inr (inr is)) = subst FitsIn (sym (same_state s there.AttributeName is)) attr_name_fits

-- ---- the machine

record IsPlain (m : Machine) : Type 0 where
  pub name : is_plain m.tag.name ≡ true
  pub attrs : are_plain m.tag.attrs ≡ true

named_plain : (attrs : List Attr) (cs : List ℕ) → are_plain attrs ≡ true → is_plain cs ≡ true → are_plain (with_name attrs cs) ≡ true
named_plain [] cs all more = refl
named_plain (a ∷ attrs) cs all more =
    let parts : (is_plain a.name ≡ true) × (are_plain attrs ≡ true) = and_parts (is_plain a.name) (are_plain attrs) all in
    and_from (is_plain (a.name ++ cs)) (are_plain attrs) (list_all-append is_name_char a.name cs ∙ and_from (is_plain a.name) (is_plain cs) parts.0 more) parts.1

valued_plain : (attrs : List Attr) (cs : List ℕ) → are_plain attrs ≡ true → are_plain (with_value attrs cs) ≡ true
valued_plain [] cs all = refl
valued_plain (a ∷ attrs) cs all = all

what_plain : (what : What) (m : Machine) (cur : List ℕ) → plain_what cur what ≡ true → is_plain (characters what m cur) ≡ true
what_plain Current m cur h = h
what_plain Lower m cur h = h
what_plain TheBuffer m cur h = absurd (true≢false (sym h))
what_plain (These cs) m cur h = h

done_plain : (act : Act) (cur : List ℕ) (m : Machine) → fits cur act ≡ true → IsPlain m → IsPlain (done cur act m)
done_plain (Add TheTagName what) cur m h plain =
    record { name = list_all-append is_name_char m.tag.name (characters what m cur) ∙ and_from (is_plain m.tag.name) (is_plain (characters what m cur)) plain.name (what_plain what m cur h); attrs = plain.attrs }
done_plain (Add AttrName what) cur m h plain = record { name = plain.name; attrs = named_plain m.tag.attrs (characters what m cur) plain.attrs (what_plain what m cur h) }
done_plain (Add AttrValue what) cur m h plain = record { name = plain.name; attrs = valued_plain m.tag.attrs (characters what m cur) plain.attrs }
done_plain (Add Comment what) cur m h plain = record { name = plain.name; attrs = plain.attrs }
done_plain (Add DoctypeName what) cur m h plain = record { name = plain.name; attrs = plain.attrs }
done_plain (Add PublicId what) cur m h plain = record { name = plain.name; attrs = plain.attrs }
done_plain (Add SystemId what) cur m h plain = record { name = plain.name; attrs = plain.attrs }
done_plain (Add Buffer what) cur m h plain = record { name = plain.name; attrs = plain.attrs }
done_plain (SetEmpty TheTagName) cur m h plain = plain
done_plain (SetEmpty AttrName) cur m h plain = plain
done_plain (SetEmpty AttrValue) cur m h plain = plain
done_plain (SetEmpty Comment) cur m h plain = plain
done_plain (SetEmpty DoctypeName) cur m h plain = plain
done_plain (SetEmpty PublicId) cur m h plain = record { name = plain.name; attrs = plain.attrs }
done_plain (SetEmpty SystemId) cur m h plain = record { name = plain.name; attrs = plain.attrs }
done_plain (SetEmpty Buffer) cur m h plain = record { name = plain.name; attrs = plain.attrs }
done_plain (Emit what) cur m h plain = plain
done_plain EmitTag cur m h plain = record { name = plain.name; attrs = plain.attrs }
done_plain EmitComment cur m h plain = plain
done_plain EmitDoctype cur m h plain = plain
done_plain EmitEndOfFile cur m h plain = plain
done_plain (NewTag kind) cur m h plain = record { name = refl; attrs = refl }
done_plain NewAttr cur m h plain = record { name = plain.name; attrs = plain.attrs }
done_plain NewComment cur m h plain = record { name = plain.name; attrs = plain.attrs }
done_plain NewDoctype cur m h plain = record { name = plain.name; attrs = plain.attrs }
done_plain SelfClosing cur m h plain = record { name = plain.name; attrs = plain.attrs }
done_plain ForceQuirks cur m h plain = record { name = plain.name; attrs = plain.attrs }
done_plain (ReturnTo state) cur m h plain = record { name = plain.name; attrs = plain.attrs }
done_plain CodeZero cur m h plain = record { name = plain.name; attrs = plain.attrs }
done_plain (CodeDigit base less) cur m h plain = record { name = plain.name; attrs = plain.attrs }
done_plain BufferNumber cur m h plain = record { name = plain.name; attrs = plain.attrs }
done_plain BufferName cur m h plain = record { name = plain.name; attrs = plain.attrs }
done_plain Flush cur m h plain = go (is_value m.return_state)
  where
    go : (x : Bool) → IsPlain (cond x (added AttrValue m.buffer m) m)
    go true = record { name = plain.name; attrs = valued_plain m.tag.attrs m.buffer plain.attrs }
    go false = plain

-- ---- the tokens

reversed_plain : (attrs : List Attr) → are_plain attrs ≡ true → are_plain (reverse attrs) ≡ true
reversed_plain [] all = refl
reversed_plain (a ∷ attrs) all =
    let parts : (is_plain a.name ≡ true) × (are_plain attrs ≡ true) = and_parts (is_plain a.name) (are_plain attrs) all in
    ap are_plain (reverse-append (a ∷ []) attrs) ∙ list_all-append (λ (a : Attr). is_plain a.name) (reverse attrs) (a ∷ [])
    ∙ and_from (are_plain (reverse attrs)) (is_plain a.name && true) (reversed_plain attrs parts.1) (and_from (is_plain a.name) true parts.0 refl)

distinct_plain : (before attrs : List Attr) → are_plain attrs ≡ true → are_plain (distinct_behind before attrs) ≡ true
distinct_plain before [] all = refl
distinct_plain before (a ∷ attrs) all =
    let parts : (is_plain a.name ≡ true) × (are_plain attrs ≡ true) = and_parts (is_plain a.name) (are_plain attrs) all in
    go (list_any (λ b. bytes_eq b.name a.name) before) parts.0 (distinct_plain before attrs parts.1) (distinct_plain (a ∷ before) attrs parts.1)
  where
    go : (x : Bool) → is_plain a.name ≡ true → are_plain (distinct_behind before attrs) ≡ true → are_plain (distinct_behind (a ∷ before) attrs) ≡ true →
        are_plain (cond x (distinct_behind before attrs) (a ∷ distinct_behind (a ∷ before) attrs)) ≡ true
    go true one older newer = older
    go false one older newer = and_from (is_plain a.name) (are_plain (distinct_behind (a ∷ before) attrs)) one newer

token_plain : (tag : StandardTag) → is_plain tag.name ≡ true → are_plain tag.attrs ≡ true → has_plain_names (token_of tag) ≡ true
token_plain tag name attrs = go tag.kind
  where
    go : (kind : StandardKind) → has_plain_names (elim kind [ Starting ↦ AStart tag.name (distinct (reverse tag.attrs)) tag.self_closing | Ending ↦ AnEnd tag.name ]) ≡ true
    go Starting = and_from (is_plain tag.name) (are_plain (distinct (reverse tag.attrs))) name (distinct_plain [] (reverse tag.attrs) (reversed_plain tag.attrs attrs))
    go Ending = name

chars_plain : (cs : List ℕ) → list_all has_plain_names (map AChar cs) ≡ true
chars_plain [] = refl
chars_plain (c ∷ cs) = chars_plain cs

emitted_plain : (act : Act) (cur : List ℕ) (m : Machine) → IsPlain m → list_all has_plain_names (emitted cur act m) ≡ true
emitted_plain (Emit what) cur m plain = chars_plain (characters what m cur)
emitted_plain EmitTag cur m plain = and_from (has_plain_names (token_of m.tag)) true (token_plain m.tag plain.name plain.attrs) refl
emitted_plain Flush cur m plain = go (is_value m.return_state)
  where
    go : (x : Bool) → list_all has_plain_names (cond x [] (map AChar m.buffer)) ≡ true
    go true = refl
    go false = chars_plain m.buffer
emitted_plain EmitComment cur m plain = refl
emitted_plain EmitDoctype cur m plain = refl
emitted_plain EmitEndOfFile cur m plain = refl
emitted_plain (NewTag kind) cur m plain = refl
emitted_plain NewAttr cur m plain = refl
emitted_plain NewComment cur m plain = refl
emitted_plain NewDoctype cur m plain = refl
emitted_plain SelfClosing cur m plain = refl
emitted_plain ForceQuirks cur m plain = refl
emitted_plain (Add place what) cur m plain = refl
emitted_plain (SetEmpty place) cur m plain = refl
emitted_plain (ReturnTo state) cur m plain = refl
emitted_plain CodeZero cur m plain = refl
emitted_plain (CodeDigit base less) cur m plain = refl
emitted_plain BufferNumber cur m plain = refl
emitted_plain BufferName cur m plain = refl

record ArePlain (m : Machine) (ts : List StandardToken) : Type 0 where
  pub machine : IsPlain m
  pub tokens : list_all has_plain_names ts ≡ true

acts_plain : (acts : List Act) (cur : List ℕ) (m : Machine) → list_all (fits cur) acts ≡ true → IsPlain m → ArePlain (all_done cur acts m) (all_emitted cur acts m)
acts_plain [] cur m all plain = record { machine = plain; tokens = refl }
acts_plain (act ∷ acts) cur m all plain =
    let parts : (fits cur act ≡ true) × (list_all (fits cur) acts ≡ true) = and_parts (fits cur act) (list_all (fits cur) acts) all in
    let more : ArePlain (all_done cur acts (done cur act m)) (all_emitted cur acts (done cur act m)) = acts_plain acts cur (done cur act m) parts.1 (done_plain act cur m parts.0 plain) in
    record {
      machine = more.machine;
      tokens = list_all-append has_plain_names (emitted cur act m) (all_emitted cur acts (done cur act m))
          ∙ and_from (list_all has_plain_names (emitted cur act m)) (list_all has_plain_names (all_emitted cur acts (done cur act m))) (emitted_plain act cur m plain) more.tokens;
    }

-- ---- reading

same_tag : (m : Machine) (s : StandardState) → IsPlain m → IsPlain (at_state m s)
same_tag m s plain = record { name = plain.name; attrs = plain.attrs }

step_plain : (b : Bool) (m : Machine) (text : List ℕ) → IsPlain m → ArePlain (step b m text).machine (step b m text).tokens
unfolding step
step_plain b m text plain =
    let t : Taken = taken b m text (entries m.state) in
    let all : ArePlain (all_done t.current t.acts m) (all_emitted t.current t.acts m) = acts_plain t.acts t.current m (fits_in m.state b m text) plain in
    record { machine = record { name = all.machine.name; attrs = all.machine.attrs }; tokens = all.tokens }

answered_plain : (f : Feedback) (seen tokens : List StandardToken) (m : Machine) → IsPlain m → IsPlain (answered f seen tokens m)
answered_plain f seen [] m plain = plain
answered_plain f seen (token ∷ tokens) m plain = go (f.switch (seen ++ token ∷ tokens))
  where
    go : (o : Option StandardState) → IsPlain (switched o m)
    go None = plain
    go (Some s) = same_tag m s plain

reads_plain : {f : Feedback} {r q : Reader} → Reads f r q → ArePlain r.machine r.seen → ArePlain q.machine q.seen
reads_plain here plain = plain
reads_plain {f} {r} {q} (next s is runs reads) plain =
    let one : ArePlain s.machine s.tokens = subst (λ (s : Step). ArePlain s.machine s.tokens) is (step_plain (f.in_foreign r.seen) r.machine r.text plain.machine) in
    reads_plain reads (record {
      machine = answered_plain f r.seen s.tokens s.machine one.machine;
      tokens = list_all-append has_plain_names r.seen s.tokens ∙ and_from (list_all has_plain_names r.seen) (list_all has_plain_names s.tokens) plain.tokens one.tokens;
    })

pub names_plain : NamesArePlain
names_plain f first text r reads =
    let begun : ArePlain (start_in first) [] = record { machine = record { name = refl; attrs = refl }; tokens = refl } in
    (reads_plain reads begun).tokens
