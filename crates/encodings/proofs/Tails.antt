-- Each step goes on with a tail of the bytes behind the first one.
use Rattle.std.proofs.Common.{◌≡◌, ℕ, zero, suc, ◌+◌, ◌-◌, ◌≤◌, List, [], ◌∷◌, ◌++◌, Bool, true, false, cond, not, ◌==◌, length, drop, arith, refl, sym, ap, subst, ◌∙◌, append_assoc, length-append, Option, Some, None, take, take-append-drop}
use Rattle.std.proofs.lemmas.Option.{none-some}
use Rattle.encodings.specs.Attributes.{Got, Meta, and_more, at_equals, at_name, at_value, attributes, bare_value, get_attribute, noted, quoted_value}
use Rattle.encodings.specs.Bytes.{after_while, begins, behind_front, cut_at, ends_name, ends_value as is_end, front_while, in_quotes, is_quote, is_space, is_space_or_slash}
use Rattle.encodings.proofs.Cuts.{parts}

abbrev in_name : ℕ → Bool
in_name byte = not (ends_name byte)

-- the second list is a tail of the first
abbrev pub IsTail : List ℕ → List ℕ → Type 0
IsTail bytes tail = (front : List ℕ) × (bytes ≡ front ++ tail)

pub tail_self : (bytes : List ℕ) → IsTail bytes bytes
tail_self bytes = ([], refl)

pub tail_more : (byte : ℕ) (bytes tail : List ℕ) → IsTail bytes tail → IsTail (byte ∷ bytes) tail
tail_more byte bytes tail is = (byte ∷ is.0, ap (λ r. byte ∷ r) is.1)

pub tail_then : (a b c : List ℕ) → IsTail a b → IsTail b c → IsTail a c
tail_then a b c first second = (first.0 ++ second.0, first.1 ∙ ap (λ r. first.0 ++ r) second.1 ∙ sym (append_assoc first.0 second.0 c))

pub tail_drop : (n : ℕ) (bytes : List ℕ) → IsTail bytes (drop n bytes)
tail_drop n bytes = (take n bytes, sym (take-append-drop n bytes))

pub tail_after : (p : ℕ → Bool) (bytes : List ℕ) → IsTail bytes (after_while p bytes)
tail_after p bytes = (front_while p bytes, parts p bytes)

-- what is behind the first byte of a tail is a tail of what is behind the first byte
pub tail_behind : (byte : ℕ) (rest : List ℕ) (head : ℕ) (tail : List ℕ) → IsTail (byte ∷ rest) (head ∷ tail) → IsTail rest tail
tail_behind byte rest head tail ([], is) = ([], cc)
tail_behind byte rest head tail (first ∷ front, is) =
    let same : rest ≡ front ++ (head ∷ tail) = cc in
    tail_then rest (head ∷ tail) tail (front, same) ((head ∷ []), refl)

pub tail_length : (bytes tail : List ℕ) → IsTail bytes tail → length tail ≤ length bytes
tail_length bytes tail is = omega (arith, ap length is.1, length-append is.0 tail)

pub distance : (bytes tail : List ℕ) (is : IsTail bytes tail) → length bytes - length tail ≡ length is.0
distance bytes tail is = omega (arith, ap length is.1, length-append is.0 tail)

-- ---- cuts

abbrev pub CutsIn : List ℕ → Option (List ℕ × List ℕ) → Type 0
CutsIn bytes None = Unit {0}
CutsIn bytes (Some (front, behind)) = IsTail bytes behind

cuts_behind : (bytes front rest : List ℕ) → IsTail bytes rest → CutsIn bytes (behind_front front rest)
cuts_behind bytes front [] is = tt
cuts_behind bytes front (byte ∷ behind) is = tail_then bytes (byte ∷ behind) behind is ((byte ∷ []), refl)

cuts_cut : (byte : ℕ) (bytes : List ℕ) → CutsIn bytes (cut_at byte bytes)
unfolding cut_at
cuts_cut byte bytes = cuts_behind bytes _ _ (tail_after _ bytes)

cuts_more : (byte : ℕ) (bytes : List ℕ) (cut : Option (List ℕ × List ℕ)) → CutsIn bytes cut → CutsIn (byte ∷ bytes) cut
cuts_more byte bytes None is = tt
cuts_more byte bytes (Some (front, behind)) is = tail_more byte bytes behind is

pub cuts_quotes : (bytes : List ℕ) → CutsIn bytes (in_quotes bytes)
unfolding in_quotes
cuts_quotes [] = tt
cuts_quotes (quote ∷ rest) =
    elim (is_quote quote) as (λ b. CutsIn (quote ∷ rest) (cond b (cut_at quote rest) None)) [ true ↦ cuts_more quote rest (cut_at quote rest) (cuts_cut quote rest) | false ↦ tt ]

-- ---- attributes

abbrev pub EndsIn : List ℕ → Got → Type 0
EndsIn bytes None = Unit {0}
EndsIn bytes (Some (attribute, behind)) = IsTail bytes behind

-- behind an attribute
abbrev pub EndsBehind : List ℕ → Got → Type 0
EndsBehind rest None = Unit {0}
EndsBehind rest (Some (None, here)) = Unit {0}
EndsBehind rest (Some (Some attribute, behind)) = IsTail rest behind

ends_then : (bytes tail : List ℕ) (got : Got) → IsTail bytes tail → EndsIn tail got → EndsIn bytes got
ends_then bytes tail None is ends = tt
ends_then bytes tail (Some (attribute, behind)) is ends = tail_then bytes tail behind is ends

ends_quoted : (name bytes : List ℕ) (cut : Option (List ℕ × List ℕ)) → CutsIn bytes cut → EndsIn bytes (quoted_value name cut)
ends_quoted name bytes None is = tt
ends_quoted name bytes (Some (value, behind)) is = is

ends_bare : (name bytes value rest : List ℕ) → IsTail bytes rest → EndsIn bytes (bare_value name value rest)
ends_bare name bytes value [] is = tt
ends_bare name bytes value (byte ∷ rest) is = is

ends_value : (name bytes : List ℕ) → EndsIn bytes (at_value name bytes)
unfolding at_value
ends_value name bytes =
    elim (begins is_quote bytes) as (λ b. EndsIn bytes (cond b (quoted_value name (in_quotes bytes)) (bare_value name (front_while (λ byte. not (is_end byte)) bytes) (after_while (λ byte. not (is_end byte)) bytes))))
    [ true ↦ ends_quoted name bytes (in_quotes bytes) (cuts_quotes bytes) | false ↦ ends_bare name bytes _ _ (tail_after _ bytes) ]

ends_equals : (name bytes : List ℕ) → EndsIn bytes (at_equals name bytes)
unfolding at_equals
ends_equals name [] = tt
ends_equals name (byte ∷ rest) =
    elim (byte == 0x3D) as (λ b. EndsIn (byte ∷ rest) (cond b (at_value name (after_while is_space rest)) (Some (Some (name, []), byte ∷ rest))))
    [ true ↦ ends_then (byte ∷ rest) (after_while is_space rest) _ (tail_more byte rest _ (tail_after is_space rest)) (ends_value name (after_while is_space rest)) | false ↦ tail_self (byte ∷ rest) ]

-- behind the name, whose first byte is passed over
ends_name_at : (name rest : List ℕ) (p : ℕ → Bool) → EndsIn rest (at_equals name (after_while is_space (after_while p rest)))
ends_name_at name rest p =
    ends_then rest (after_while is_space (after_while p rest)) _ (tail_then rest (after_while p rest) _ (tail_after p rest) (tail_after is_space (after_while p rest))) (ends_equals name _)

to_behind : (rest : List ℕ) (got : Got) → EndsIn rest got → EndsBehind rest got
to_behind rest None ends = tt
to_behind rest (Some (None, here)) ends = tt
to_behind rest (Some (Some attribute, behind)) ends = ends

behind_then : (bytes tail : List ℕ) (got : Got) → IsTail bytes tail → EndsBehind tail got → EndsBehind bytes got
behind_then bytes tail None is ends = tt
behind_then bytes tail (Some (None, here)) is ends = tt
behind_then bytes tail (Some (Some attribute, behind)) is ends = tail_then bytes tail behind is ends

behind_name : (byte : ℕ) (rest : List ℕ) → EndsBehind rest (at_name (byte ∷ rest))
unfolding at_name
behind_name byte rest =
    elim (byte == 0x3E) as (λ b. EndsBehind rest (cond b (Some (None, byte ∷ rest)) (at_equals (byte ∷ front_while in_name rest) (after_while is_space (after_while in_name rest)))))
    [ true ↦ tt | false ↦ to_behind rest _ (ends_name_at _ rest in_name) ]

ends_at_name : (bytes : List ℕ) → EndsIn bytes (at_name bytes)
unfolding at_name
ends_at_name [] = tt
ends_at_name (byte ∷ rest) =
    elim (byte == 0x3E) as (λ b. EndsIn (byte ∷ rest) (cond b (Some (None, byte ∷ rest)) (at_equals (byte ∷ front_while in_name rest) (after_while is_space (after_while in_name rest)))))
    [ true ↦ tail_self (byte ∷ rest) | false ↦ ends_then (byte ∷ rest) rest _ (tail_more byte rest rest (tail_self rest)) (ends_name_at _ rest in_name) ]

behind_spaces : (byte : ℕ) (rest later : List ℕ) → IsTail (byte ∷ rest) later → EndsBehind rest (at_name later)
unfolding at_name
behind_spaces byte rest [] is = tt
behind_spaces byte rest (head ∷ tail) is = behind_then rest tail _ (tail_behind byte rest head tail is) (behind_name head tail)

pub behind_attribute : (byte : ℕ) (rest : List ℕ) → EndsBehind rest (get_attribute (byte ∷ rest))
unfolding get_attribute
behind_attribute byte rest = behind_spaces byte rest _ (tail_after is_space_or_slash (byte ∷ rest))

pub ends_attribute : (bytes : List ℕ) → EndsIn bytes (get_attribute bytes)
unfolding get_attribute
ends_attribute bytes = ends_then bytes (after_while is_space_or_slash bytes) _ (tail_after is_space_or_slash bytes) (ends_at_name _)

-- ---- all attributes

abbrev pub ReadIn : List ℕ → Option (Meta × List ℕ) → Type 0
ReadIn bytes None = Unit {0}
ReadIn bytes (Some (meta, here)) = IsTail bytes here

read_more : (byte : ℕ) (bytes : List ℕ) (read : Option (Meta × List ℕ)) → ReadIn bytes read → ReadIn (byte ∷ bytes) read
read_more byte bytes None is = tt
read_more byte bytes (Some (meta, here)) is = tail_more byte bytes here is

and_more_in : (meta : Meta) (bytes : List ℕ) (got : Got) (later : Meta → List ℕ → Option (Meta × List ℕ)) → EndsIn bytes got → ((more : Meta) (behind : List ℕ) → ReadIn bytes (later more behind)) →
    ReadIn bytes (and_more meta got later)
and_more_in meta bytes None later ends more = tt
and_more_in meta bytes (Some (None, here)) later ends more = ends
and_more_in meta bytes (Some (Some one, behind)) later ends more = more (noted meta one) behind

pub read_in : (meta : Meta) (ahead : ℕ) (bytes : List ℕ) → ReadIn bytes (attributes meta ahead bytes)
unfolding attributes
read_in meta ahead [] = tt
read_in meta (suc ahead) (byte ∷ rest) = read_more byte rest _ (read_in meta ahead rest)
read_in meta zero (byte ∷ rest) =
    and_more_in meta (byte ∷ rest) (get_attribute (byte ∷ rest)) _ (ends_attribute (byte ∷ rest)) (λ more behind. read_more byte rest _ (read_in more (length rest - length behind) rest))

skipped : (meta : Meta) (front tail : List ℕ) → attributes meta (length front) (front ++ tail) ≡ attributes meta 0 tail
unfolding attributes
skipped meta [] tail = refl
skipped meta (byte ∷ front) tail = skipped meta front tail

more_at : (meta : Meta) (rest behind : List ℕ) → IsTail rest behind → attributes meta (length rest - length behind) rest ≡ attributes meta 0 behind
more_at meta rest behind is =
    ap (λ n. attributes meta n rest) (distance rest behind is) ∙ ap (attributes meta (length is.0)) is.1 ∙ skipped meta is.0 behind

next_at : (meta : Meta) (byte : ℕ) (rest behind : List ℕ) (one : List ℕ × List ℕ) → get_attribute (byte ∷ rest) ≡ Some (Some one, behind) → EndsBehind rest (Some (Some one, behind)) →
    attributes meta 0 (byte ∷ rest) ≡ attributes (noted meta one) 0 behind
unfolding attributes
next_at meta byte rest behind one is ends =
    ap (λ got. and_more meta got (λ more behind. attributes more (length rest - length behind) rest)) is ∙ more_at (noted meta one) rest behind ends

nothing_there : (got : Option (List ℕ × List ℕ) × List ℕ) → Some got ≡ get_attribute [] → ⊥
unfolding get_attribute after_while at_name
nothing_there got is = none-some got (sym is)

-- an attribute is read, and as many bytes are left at most as before without one
pub attribute_read : (meta : Meta) (bytes behind : List ℕ) (one : List ℕ × List ℕ) → Some (Some one, behind) ≡ get_attribute bytes →
    (attributes meta 0 bytes ≡ attributes (noted meta one) 0 behind) × (length behind + 1 ≤ length bytes)
attribute_read meta [] behind one is = absurd (nothing_there _ is)
attribute_read meta (byte ∷ rest) behind one is =
    let ends : EndsBehind rest (Some (Some one, behind)) = subst (EndsBehind rest) (sym is) (behind_attribute byte rest) in
    (next_at meta byte rest behind one (sym is) ends, omega (arith, tail_length rest behind ends))

pub attributes_end : (meta : Meta) (bytes here : List ℕ) → Some (None, here) ≡ get_attribute bytes → attributes meta 0 bytes ≡ Some (meta, here)
unfolding attributes
attributes_end meta [] here is = absurd (nothing_there _ is)
attributes_end meta (byte ∷ rest) here is = ap (λ got. and_more meta got (λ more behind. attributes more (length rest - length behind) rest)) (sym is)

pub attributes_cut : (meta : Meta) (bytes : List ℕ) → None ≡ get_attribute bytes → attributes meta 0 bytes ≡ None
unfolding attributes
attributes_cut meta [] is = refl
attributes_cut meta (byte ∷ rest) is = ap (λ got. and_more meta got (λ more behind. attributes more (length rest - length behind) rest)) (sym is)

pub attributes_none : (meta : Meta) (bytes : List ℕ) → length bytes ≡ 0 → attributes meta 0 bytes ≡ None
unfolding attributes
attributes_none meta [] h = refl
attributes_none meta (byte ∷ rest) h = absurd (omega arith)
