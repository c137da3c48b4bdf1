-- Plain tags, as the tokenizer reads them.
use Rattle.std.specs.Prelude.{Option, None, Some, ◌≡◌, ℕ, Bool, true, false, ◌&&◌, nat_le, List, [], ◌∷◌, ◌++◌, map, flat_map, drop, length, reverse, codes, refl}
use Rattle.std.specs.Char.{is_ascii_lowercase}
use Rattle.std.specs.List.{list_all}
use Rattle.std.proofs.lemmas.Bool.{and_parts}
use Rattle.std.proofs.lemmas.List.{append-nil, append_assoc}
use mathlib.Core.List.{reverse-cons}
use mathlib.Core.Path.{◌∙◌, sym, ap, subst}
use native.Mathlib.Omega.{arith}
use Rattle.standard_tokens.proofs.PlainParts.{IsRead, IsReference, amp_is, behind_name, gt_is, lt_is, named_taken, nbsp_is, quot_is}
use Rattle.standard_tokens.proofs.Steps.{go_on, other, silent, step_to, taking}
use Rattle.standard_tokens.specs.Entries.{Current, These, Stay, Switch, Reconsume, SwitchBack, ReturnTo, SetEmpty, Add, Buffer, BufferName, Flush, NewTag, NewAttr, TheTagName, AttrName, AttrValue, EmitTag, TagKind, Starting, Ending}
use Rattle.standard_tokens.specs.Machine.{Machine, Tag, at_state, distinct, last_start_of, token_of, taken, value_of}
use Rattle.standard_tokens.specs.PlainMarkup.{Piece, PlainAttr, attr_of, is_name, is_plain_attr, is_tag_name, start_token, written_attr, written_end, written_start, Itself, Amp, Lt, Gt, Quot, Nbsp, character, is_name_char, is_value_char, is_plain_piece, written_piece}
use Rattle.standard_tokens.specs.Reading.{Feedback, IsFeedback, Reads, here, reader, switched}
use Rattle.standard_tokens.specs.States.{State, Data, TagOpen, EndTagOpen, TagName, BeforeAttributeName, AttributeName, BeforeAttributeValue, AttributeValueDoubleQuoted, AfterAttributeValueQuoted, CharacterReference, NamedCharacterReference}
use Rattle.standard_tokens.specs.Table.{entries}
use Rattle.standard_tokens.specs.Tokens.{Attr, Token, AStart, AnEnd}

-- ---- letters

pub name_char_is_no_upper : (c : ℕ) → is_name_char c ≡ true → (nat_le 65 c && nat_le c 90) ≡ false
name_char_is_no_upper c h = grind arith

pub lower_is_name_char : (c : ℕ) → is_ascii_lowercase c ≡ true → is_name_char c ≡ true
lower_is_name_char c h = grind arith

name_taken : (foreign : Bool) (m : Machine) (c : ℕ) (text : List ℕ) → is_name_char c ≡ true →
    taken foreign m (c ∷ text) (entries TagName) ≡ taking (Add TheTagName Current ∷ []) Stay (c ∷ [])
unfolding taken entries
name_taken foreign m c text h =
    rw (
      other is_name_char 9 c h refl,
      other is_name_char 10 c h refl,
      other is_name_char 12 c h refl,
      other is_name_char 32 c h refl,
      other is_name_char 47 c h refl,
      other is_name_char 62 c h refl,
      name_char_is_no_upper c h,
      other is_name_char 0 c h refl,
    ) refl

open_taken : (foreign : Bool) (m : Machine) (c : ℕ) (text : List ℕ) → is_ascii_lowercase c ≡ true →
    taken foreign m (c ∷ text) (entries TagOpen) ≡ taking (NewTag Starting ∷ []) (Reconsume TagName) (c ∷ [])
unfolding taken entries
open_taken foreign m c text h =
    rw (other is_ascii_lowercase 33 c h refl, other is_ascii_lowercase 47 c h refl, name_char_is_no_upper c (lower_is_name_char c h), h) refl

end_taken : (foreign : Bool) (m : Machine) (c : ℕ) (text : List ℕ) → is_ascii_lowercase c ≡ true →
    taken foreign m (c ∷ text) (entries EndTagOpen) ≡ taking (NewTag Ending ∷ []) (Reconsume TagName) (c ∷ [])
unfolding taken entries
end_taken foreign m c text h = rw (name_char_is_no_upper c (lower_is_name_char c h), h) refl

begin_taken : (foreign : Bool) (m : Machine) (c : ℕ) (text : List ℕ) → is_name_char c ≡ true →
    taken foreign m (c ∷ text) (entries BeforeAttributeName) ≡ taking (NewAttr ∷ []) (Reconsume AttributeName) (c ∷ [])
unfolding taken entries
begin_taken foreign m c text h =
    rw (
      other is_name_char 9 c h refl,
      other is_name_char 10 c h refl,
      other is_name_char 12 c h refl,
      other is_name_char 32 c h refl,
      other is_name_char 47 c h refl,
      other is_name_char 62 c h refl,
      other is_name_char 61 c h refl,
    ) refl

attr_taken : (foreign : Bool) (m : Machine) (c : ℕ) (text : List ℕ) → is_name_char c ≡ true →
    taken foreign m (c ∷ text) (entries AttributeName) ≡ taking (Add AttrName Current ∷ []) Stay (c ∷ [])
unfolding taken entries
attr_taken foreign m c text h =
    rw (
      other is_name_char 9 c h refl,
      other is_name_char 10 c h refl,
      other is_name_char 12 c h refl,
      other is_name_char 32 c h refl,
      other is_name_char 47 c h refl,
      other is_name_char 62 c h refl,
      other is_name_char 61 c h refl,
      name_char_is_no_upper c h,
      other is_name_char 0 c h refl,
    ) refl

value_taken : (foreign : Bool) (m : Machine) (c : ℕ) (text : List ℕ) → is_value_char c ≡ true →
    taken foreign m (c ∷ text) (entries AttributeValueDoubleQuoted) ≡ taking (Add AttrValue Current ∷ []) Stay (c ∷ [])
unfolding taken entries
value_taken foreign m c text h = rw (other is_value_char 34 c h refl, other is_value_char 38 c h refl, other is_value_char 0 c h refl) refl

-- ---- inside a tag

-- the machine reads that tag, in that state
abbrev pub tagging : Machine → State → Tag → Machine
tagging m state tag = record m { state = state; tag = tag }

-- the text is read up to the rest, with no token: from one state and tag to others
abbrev pub IsPart : Feedback → State → Tag → List ℕ → State → Tag → Type 0
IsPart f state tag written state' tag' = (m : Machine) (rest : List ℕ) (seen : List Token) →
    (n : Machine) × Reads f (reader (tagging m state tag) (written ++ rest) seen) (reader (tagging n state' tag') rest seen)

pub part_on : (f : Feedback) (s t u : State) (x y z : Tag) (front back : List ℕ) → IsPart f s x front t y → IsPart f t y back u z →
    IsPart f s x (front ++ back) u z
part_on f s t u x y z front back first second m rest seen =
    let a : (n : Machine) × Reads f (reader (tagging m s x) (front ++ (back ++ rest)) seen) (reader (tagging n t y) (back ++ rest) seen) = first m (back ++ rest) seen in
    let b : (n : Machine) × Reads f (reader (tagging a.0 t y) (back ++ rest) seen) (reader (tagging n u z) rest seen) = second a.0 rest seen in
    (b.0, rw (append_assoc front back rest) (go_on a.1 b.1))

abbrev pub named : Tag → List ℕ → Tag
named tag cs = record tag { name = tag.name ++ cs }

pub name_part : (f : Feedback) (tag : Tag) (name : List ℕ) → list_all is_name_char name ≡ true → IsPart f TagName tag name TagName (named tag name)
name_part f tag [] h = λ m rest seen. (m, rw (append-nil tag.name) here)
name_part f tag (c ∷ name) h =
    let parts : (is_name_char c ≡ true) × (list_all is_name_char name ≡ true) = and_parts (is_name_char c) (list_all is_name_char name) h in
    let first : IsPart f TagName tag (c ∷ []) TagName (named tag (c ∷ [])) =
    λ m rest seen. (m, silent (taking (Add TheTagName Current ∷ []) Stay (c ∷ [])) (name_taken (f.in_foreign seen) (tagging m TagName tag) c rest parts.0) refl refl) in
    let all : IsPart f TagName tag (c ∷ name) TagName (named (named tag (c ∷ [])) name) =
    part_on f TagName TagName TagName tag (named tag (c ∷ [])) (named (named tag (c ∷ [])) name) (c ∷ []) name first (name_part f (named tag (c ∷ [])) name parts.1) in
    subst (λ (n : List ℕ). IsPart f TagName tag (c ∷ name) TagName (record tag { name = n })) (append_assoc tag.name (c ∷ []) name) all

-- ---- attributes

abbrev pub at_attr : Tag → List ℕ → List ℕ → Tag
at_attr tag name value = record tag { attrs = record { name = name; value = value } ∷ tag.attrs }

attr_name_part : (f : Feedback) (tag : Tag) (before name : List ℕ) → list_all is_name_char name ≡ true →
    IsPart f AttributeName (at_attr tag before []) name AttributeName (at_attr tag (before ++ name) [])
attr_name_part f tag before [] h = λ m rest seen. (m, rw (append-nil before) here)
attr_name_part f tag before (c ∷ name) h =
    let parts : (is_name_char c ≡ true) × (list_all is_name_char name ≡ true) = and_parts (is_name_char c) (list_all is_name_char name) h in
    let first : IsPart f AttributeName (at_attr tag before []) (c ∷ []) AttributeName (at_attr tag (before ++ c ∷ []) []) =
    λ m rest seen. (m, silent (taking (Add AttrName Current ∷ []) Stay (c ∷ [])) (attr_taken (f.in_foreign seen) (tagging m AttributeName (at_attr tag before [])) c rest parts.0) refl refl) in
    let all : IsPart f AttributeName (at_attr tag before []) (c ∷ name) AttributeName (at_attr tag (before ++ c ∷ [] ++ name) []) =
    part_on f AttributeName AttributeName AttributeName (at_attr tag before []) (at_attr tag (before ++ c ∷ []) []) (at_attr tag (before ++ c ∷ [] ++ name) []) (c ∷ []) name
    first (attr_name_part f tag (before ++ c ∷ []) name parts.1) in
    subst (λ (n : List ℕ). IsPart f AttributeName (at_attr tag before []) (c ∷ name) AttributeName (at_attr tag n [])) (append_assoc before (c ∷ []) name) all

ref_part : (f : Feedback) (tag : Tag) (attr before : List ℕ) (c v : ℕ) (name : List ℕ) → IsReference c name v →
    IsPart f AttributeValueDoubleQuoted (at_attr tag attr before) (38 ∷ c ∷ name) AttributeValueDoubleQuoted (at_attr tag attr (before ++ v ∷ []))
unfolding taken entries
ref_part f tag attr before c v name is m rest seen =
    let t : Tag = at_attr tag attr before in
    let m1 : Machine = record m { state = CharacterReference; return_state = AttributeValueDoubleQuoted; tag = t } in
    let m2 : Machine = record m { state = NamedCharacterReference; return_state = AttributeValueDoubleQuoted; tag = t; buffer = 38 ∷ [] } in
    let n : Machine = record m { return_state = AttributeValueDoubleQuoted; buffer = value_of (c ∷ name) } in
    let a : Reads f (reader (tagging m AttributeValueDoubleQuoted t) (38 ∷ c ∷ (name ++ rest)) seen) (reader m1 (c ∷ (name ++ rest)) seen) =
    silent (taking (ReturnTo AttributeValueDoubleQuoted ∷ []) (Switch CharacterReference) (38 ∷ [])) refl refl refl in
    let b : Reads f (reader m1 (c ∷ (name ++ rest)) seen) (reader m2 (c ∷ (name ++ rest)) seen) =
    silent (taking (SetEmpty Buffer ∷ Add Buffer (These (codes "&")) ∷ []) (Reconsume NamedCharacterReference) (c ∷ [])) (is.begins (f.in_foreign seen) m1 (name ++ rest)) refl refl in
    let d : Reads f (reader m2 (c ∷ (name ++ rest)) seen)
    (reader (tagging n AttributeValueDoubleQuoted (at_attr tag attr (before ++ value_of (c ∷ name)))) (drop (length (c ∷ name)) (c ∷ (name ++ rest))) seen) =
    silent (taking (BufferName ∷ Flush ∷ []) SwitchBack (c ∷ name)) (named_taken (f.in_foreign seen) m2 c v name rest is) refl refl in
    let e : Reads f (reader m2 (c ∷ (name ++ rest)) seen)
    (reader (tagging n AttributeValueDoubleQuoted (at_attr tag attr (before ++ value_of (c ∷ name)))) rest seen) =
    subst (λ text. Reads f (reader m2 (c ∷ (name ++ rest)) seen) (reader (tagging n AttributeValueDoubleQuoted (at_attr tag attr (before ++ value_of (c ∷ name)))) text seen))
    (behind_name c name rest) d in
    (n, go_on a (go_on b (subst (λ cs. Reads f (reader m2 (c ∷ (name ++ rest)) seen) (reader (tagging n AttributeValueDoubleQuoted (at_attr tag attr (before ++ cs))) rest seen)) is.value e)))

piece_part : (f : Feedback) → (tag : Tag) (attr before : List ℕ) (piece : Piece) → is_plain_piece is_value_char piece ≡ true →
    IsPart f AttributeValueDoubleQuoted (at_attr tag attr before) (written_piece piece) AttributeValueDoubleQuoted (at_attr tag attr (before ++ character piece ∷ []))
piece_part f tag attr before (Itself c) h = λ m rest seen. (
  m,
  silent (taking (Add AttrValue Current ∷ []) Stay (c ∷ [])) (value_taken (f.in_foreign seen) (tagging m AttributeValueDoubleQuoted (at_attr tag attr before)) c rest h) refl refl,
)
piece_part f tag attr before Amp h = ref_part f tag attr before 97 38 (codes "mp;") amp_is
piece_part f tag attr before Lt h = ref_part f tag attr before 108 60 (codes "t;") lt_is
piece_part f tag attr before Gt h = ref_part f tag attr before 103 62 (codes "t;") gt_is
piece_part f tag attr before Quot h = ref_part f tag attr before 113 34 (codes "uot;") quot_is
piece_part f tag attr before Nbsp h = ref_part f tag attr before 110 160 (codes "bsp;") nbsp_is

value_part : (f : Feedback) → (tag : Tag) (attr before : List ℕ) (value : List Piece) → list_all (is_plain_piece is_value_char) value ≡ true →
    IsPart f AttributeValueDoubleQuoted (at_attr tag attr before) (flat_map written_piece value) AttributeValueDoubleQuoted (at_attr tag attr (before ++ map character value))
value_part f tag attr before [] h = λ m rest seen. (m, rw (append-nil before) here)
value_part f tag attr before (piece ∷ value) h =
    let S : State = AttributeValueDoubleQuoted in
    let more : List ℕ = before ++ character piece ∷ [] in
    let parts : (is_plain_piece is_value_char piece ≡ true) × (list_all (is_plain_piece is_value_char) value ≡ true) = and_parts (is_plain_piece is_value_char piece) (list_all (is_plain_piece is_value_char) value) h in
    let all : IsPart f S (at_attr tag attr before) (written_piece piece ++ flat_map written_piece value) S (at_attr tag attr (more ++ map character value)) =
    part_on f S S S (at_attr tag attr before) (at_attr tag attr more) (at_attr tag attr (more ++ map character value)) (written_piece piece) (flat_map written_piece value)
    (piece_part f tag attr before piece parts.0) (value_part f tag attr more value parts.1) in
    subst (λ (n : List ℕ). IsPart f S (at_attr tag attr before) (written_piece piece ++ flat_map written_piece value) S (at_attr tag attr n)) (append_assoc before (character piece ∷ []) (map character value)) all

-- behind a tag's name, or behind a value
abbrev pub place : Bool → State
place false = TagName
place true = AfterAttributeValueQuoted

-- a space, and the first letter of an attribute's name, which stays
begin_attr : (f : Feedback) (b : Bool) (tag : Tag) (c : ℕ) → is_name_char c ≡ true → (m : Machine) (rest : List ℕ) (seen : List Token) →
    Reads f (reader (tagging m (place b) tag) (32 ∷ c ∷ rest) seen) (reader (tagging m AttributeName (at_attr tag [] [])) (c ∷ rest) seen)
unfolding taken entries
begin_attr f true tag c h m rest seen =
    let a : Reads f (reader (tagging m AfterAttributeValueQuoted tag) (32 ∷ c ∷ rest) seen) (reader (tagging m BeforeAttributeName tag) (c ∷ rest) seen) =
    silent (taking [] (Switch BeforeAttributeName) (32 ∷ [])) refl refl refl in
    go_on a (silent (taking (NewAttr ∷ []) (Reconsume AttributeName) (c ∷ [])) (begin_taken (f.in_foreign seen) (tagging m BeforeAttributeName tag) c rest h) refl refl)
begin_attr f false tag c h m rest seen =
    let a : Reads f (reader (tagging m TagName tag) (32 ∷ c ∷ rest) seen) (reader (tagging m BeforeAttributeName tag) (c ∷ rest) seen) =
    silent (taking [] (Switch BeforeAttributeName) (32 ∷ [])) refl refl refl in
    go_on a (silent (taking (NewAttr ∷ []) (Reconsume AttributeName) (c ∷ [])) (begin_taken (f.in_foreign seen) (tagging m BeforeAttributeName tag) c rest h) refl refl)

-- a space, and an attribute's name
begun_part : (f : Feedback) (b : Bool) (tag : Tag) (name : List ℕ) → is_name name ≡ true →
    IsPart f (place b) tag (32 ∷ name) AttributeName (at_attr tag name [])
begun_part f b tag [] h = cc
begun_part f b tag (c ∷ name) h = λ m rest seen.
    let parts : (is_name_char c ≡ true) × (list_all is_name_char name ≡ true) = and_parts (is_name_char c) (list_all is_name_char name) h in
    let all : list_all is_name_char (c ∷ name) ≡ true = h in
    let a : (n : Machine) × Reads f (reader (tagging m AttributeName (at_attr tag [] [])) (c ∷ (name ++ rest)) seen) (reader (tagging n AttributeName (at_attr tag (c ∷ name) [])) rest seen) =
    attr_name_part f tag [] (c ∷ name) all m rest seen in
    (a.0, go_on (begin_attr f b tag c parts.0 m (name ++ rest) seen) a.1)

equals_part : (f : Feedback) (tag : Tag) (name : List ℕ) → IsPart f AttributeName (at_attr tag name []) (61 ∷ 34 ∷ []) AttributeValueDoubleQuoted (at_attr tag name [])
unfolding taken entries
equals_part f tag name m rest seen =
    let a : Reads f (reader (tagging m AttributeName (at_attr tag name [])) (61 ∷ 34 ∷ rest) seen) (reader (tagging m BeforeAttributeValue (at_attr tag name [])) (34 ∷ rest) seen) =
    silent (taking [] (Switch BeforeAttributeValue) (61 ∷ [])) refl refl refl in
    (m, go_on a (silent (taking [] (Switch AttributeValueDoubleQuoted) (34 ∷ [])) refl refl refl))

quote_part : (f : Feedback) (tag : Tag) → IsPart f AttributeValueDoubleQuoted tag (34 ∷ []) AfterAttributeValueQuoted tag
unfolding taken entries
quote_part f tag m rest seen = (m, silent (taking [] (Switch AfterAttributeValueQuoted) (34 ∷ [])) refl refl refl)

abbrev pub with_attr : Tag → PlainAttr → Tag
with_attr tag a = record tag { attrs = attr_of a ∷ tag.attrs }

attr_part : (f : Feedback) → (b : Bool) (tag : Tag) (a : PlainAttr) → is_plain_attr a ≡ true →
    IsPart f (place b) tag (written_attr a) AfterAttributeValueQuoted (with_attr tag a)
attr_part f b tag a h =
    let parts : (is_name a.name ≡ true) × (list_all (is_plain_piece is_value_char) a.value ≡ true) = and_parts (is_name a.name) (list_all (is_plain_piece is_value_char) a.value) h in
    let D : State = AttributeValueDoubleQuoted in
    let t0 : Tag = at_attr tag a.name [] in
    let t1 : Tag = at_attr tag a.name (map character a.value) in
    let value : IsPart f D t0 (flat_map written_piece a.value ++ 34 ∷ []) AfterAttributeValueQuoted t1 =
    part_on f D D AfterAttributeValueQuoted t0 t1 t1 (flat_map written_piece a.value) (34 ∷ []) (value_part f tag a.name [] a.value parts.1) (quote_part f t1) in
    let behind : IsPart f AttributeName t0 (61 ∷ 34 ∷ (flat_map written_piece a.value ++ 34 ∷ [])) AfterAttributeValueQuoted t1 =
    part_on f AttributeName D AfterAttributeValueQuoted t0 t0 t1 (61 ∷ 34 ∷ []) (flat_map written_piece a.value ++ 34 ∷ []) (equals_part f tag a.name) value in
    part_on f (place b) AttributeName AfterAttributeValueQuoted tag t0 t1 (32 ∷ a.name) (61 ∷ 34 ∷ (flat_map written_piece a.value ++ 34 ∷ []))
    (begun_part f b tag a.name parts.0) behind

-- the attributes in front of those, the last first
abbrev pub stacked : List PlainAttr → List Attr → List Attr
stacked [] old = old
stacked (a ∷ attrs) old = stacked attrs (attr_of a ∷ old)

reverse-stacked : (attrs : List PlainAttr) (old : List Attr) → reverse (stacked attrs old) ≡ reverse old ++ map attr_of attrs
reverse-stacked [] old = sym (append-nil (reverse old))
reverse-stacked (a ∷ attrs) old = reverse-stacked attrs (attr_of a ∷ old) ∙ ap (λ bs. bs ++ map attr_of attrs) (reverse-cons (attr_of a) old) ∙ append_assoc (reverse old) (attr_of a ∷ []) (map attr_of attrs)

attrs_part : (f : Feedback) → (b : Bool) (tag : Tag) (attrs : List PlainAttr) → list_all is_plain_attr attrs ≡ true →
    (d : Bool) × IsPart f (place b) tag (flat_map written_attr attrs) (place d) (record tag { attrs = stacked attrs tag.attrs })
attrs_part f b tag [] h = (b, λ m rest seen. (m, here))
attrs_part f b tag (a ∷ attrs) h =
    let parts : (is_plain_attr a ≡ true) × (list_all is_plain_attr attrs ≡ true) = and_parts (is_plain_attr a) (list_all is_plain_attr attrs) h in
    let more : (d : Bool) × IsPart f AfterAttributeValueQuoted (with_attr tag a) (flat_map written_attr attrs) (place d) (record tag { attrs = stacked attrs (attr_of a ∷ tag.attrs) }) =
    attrs_part f true (with_attr tag a) attrs parts.1 in (
      more.0,
      part_on f (place b) AfterAttributeValueQuoted (place more.0) tag (with_attr tag a) (record tag { attrs = stacked attrs (attr_of a ∷ tag.attrs) })
          (written_attr a) (flat_map written_attr attrs) (attr_part f b tag a parts.0) more.1,
    )

-- ---- whole tags

abbrev pub fresh : TagKind → Tag
fresh kind = record { kind = kind; name = []; attrs = []; self_closing = false }

start_opens : (f : Feedback) (c : ℕ) → is_ascii_lowercase c ≡ true → (m : Machine) (rest : List ℕ) (seen : List Token) →
    Reads f (reader (at_state m Data) (60 ∷ c ∷ rest) seen) (reader (tagging m TagName (fresh Starting)) (c ∷ rest) seen)
unfolding taken entries
start_opens f c h m rest seen =
    let a : Reads f (reader (at_state m Data) (60 ∷ c ∷ rest) seen) (reader (at_state m TagOpen) (c ∷ rest) seen) =
    silent (taking [] (Switch TagOpen) (60 ∷ [])) refl refl refl in
    go_on a (silent (taking (NewTag Starting ∷ []) (Reconsume TagName) (c ∷ [])) (open_taken (f.in_foreign seen) (at_state m TagOpen) c rest h) refl refl)

end_opens : (f : Feedback) (c : ℕ) → is_ascii_lowercase c ≡ true → (m : Machine) (rest : List ℕ) (seen : List Token) →
    Reads f (reader (at_state m Data) (60 ∷ 47 ∷ c ∷ rest) seen) (reader (tagging m TagName (fresh Ending)) (c ∷ rest) seen)
unfolding taken entries
end_opens f c h m rest seen =
    let a : Reads f (reader (at_state m Data) (60 ∷ 47 ∷ c ∷ rest) seen) (reader (at_state m TagOpen) (47 ∷ c ∷ rest) seen) =
    silent (taking [] (Switch TagOpen) (60 ∷ [])) refl refl refl in
    let b : Reads f (reader (at_state m TagOpen) (47 ∷ c ∷ rest) seen) (reader (at_state m EndTagOpen) (c ∷ rest) seen) =
    silent (taking [] (Switch EndTagOpen) (47 ∷ [])) refl refl refl in
    go_on a (go_on b (silent (taking (NewTag Ending ∷ []) (Reconsume TagName) (c ∷ [])) (end_taken (f.in_foreign seen) (at_state m EndTagOpen) c rest h) refl refl))

-- `>` ends the tag, behind which tree construction answers
closes : (f : Feedback) (b : Bool) (tag : Tag) (answer : Option State) (m : Machine) (rest : List ℕ) (seen : List Token) → f.switch (seen ++ token_of tag ∷ []) ≡ answer →
    Reads f (reader (tagging m (place b) tag) (62 ∷ rest) seen)
    (reader (switched answer (record m { state = Data; tag = tag; last_start = last_start_of tag m.last_start })) rest (seen ++ token_of tag ∷ []))
unfolding taken entries
closes f true tag answer m rest seen h =
    let n : Machine = record m { state = Data; tag = tag; last_start = last_start_of tag m.last_start } in
    step_to (taking (EmitTag ∷ []) (Switch Data) (62 ∷ [])) (token_of tag ∷ []) (switched answer n) refl refl refl (ap (λ state. switched state n) h)
closes f false tag answer m rest seen h =
    let n : Machine = record m { state = Data; tag = tag; last_start = last_start_of tag m.last_start } in
    step_to (taking (EmitTag ∷ []) (Switch Data) (62 ∷ [])) (token_of tag ∷ []) (switched answer n) refl refl refl (ap (λ state. switched state n) h)

-- behind the start tag of this name, and tree construction's answer
abbrev pub started : Machine → Option State → List ℕ → Machine
started m answer name = switched answer (record m { state = Data; last_start = Some name })

-- `name`, the attributes and `>`, behind `<`
start_behind : (f : Feedback) (name : List ℕ) (attrs : List PlainAttr) (answer : Option State) → list_all is_name_char name ≡ true →
    list_all is_plain_attr attrs ≡ true → (m : Machine) (rest : List ℕ) (seen : List Token) → f.switch (seen ++ start_token name attrs ∷ []) ≡ answer →
    (n : Machine) × Reads f (reader (tagging m TagName (fresh Starting)) (name ++ (flat_map written_attr attrs ++ 62 ∷ []) ++ rest) seen)
    (reader (started n answer name) rest (seen ++ start_token name attrs ∷ []))
start_behind f name attrs answer letters plain m rest seen h =
    let t1 : Tag = named (fresh Starting) name in
    let inner : (d : Bool) × IsPart f TagName t1 (flat_map written_attr attrs) (place d) (record t1 { attrs = stacked attrs [] }) = attrs_part f false t1 attrs plain in
    let t2 : Tag = record t1 { attrs = stacked attrs [] } in
    let tail : List ℕ = 62 ∷ rest in
    let a : (n : Machine) × Reads f (reader (tagging m TagName (fresh Starting)) (name ++ (flat_map written_attr attrs ++ tail)) seen) (reader (tagging n TagName t1) (flat_map written_attr attrs ++ tail) seen) =
    name_part f (fresh Starting) name letters m (flat_map written_attr attrs ++ tail) seen in
    let b : (n : Machine) × Reads f (reader (tagging a.0 TagName t1) (flat_map written_attr attrs ++ tail) seen) (reader (tagging n (place inner.0) t2) tail seen) = inner.1 a.0 tail seen in
    let is : token_of t2 ≡ start_token name attrs = ap (λ list. AStart name (distinct list) false) (reverse-stacked attrs []) in
    let n : Machine = record b.0 { tag = t2 } in
    let d : Reads f (reader (tagging b.0 (place inner.0) t2) tail seen) (reader (started n answer name) rest (seen ++ token_of t2 ∷ [])) =
    closes f inner.0 t2 answer b.0 rest seen (ap (λ token. f.switch (seen ++ token ∷ [])) is ∙ h) in
    let all : Reads f (reader (tagging m TagName (fresh Starting)) (name ++ (flat_map written_attr attrs ++ tail)) seen) (reader (started n answer name) rest (seen ++ token_of t2 ∷ [])) =
    go_on a.1 (go_on b.1 d) in
    let same : name ++ (flat_map written_attr attrs ++ tail) ≡ name ++ (flat_map written_attr attrs ++ 62 ∷ []) ++ rest =
    ap (λ text. name ++ text) (sym (append_assoc (flat_map written_attr attrs) (62 ∷ []) rest)) ∙ sym (append_assoc name (flat_map written_attr attrs ++ 62 ∷ []) rest) in (
      n,
      subst (λ text. Reads f (reader (tagging m TagName (fresh Starting)) text seen) (reader (started n answer name) rest (seen ++ start_token name attrs ∷ []))) same
          (subst (λ token. Reads f (reader (tagging m TagName (fresh Starting)) (name ++ (flat_map written_attr attrs ++ tail)) seen) (reader (started n answer name) rest (seen ++ token ∷ []))) is all),
    )

-- a start tag, and tree construction's answer
pub start_read : (f : Feedback) (name : List ℕ) (attrs : List PlainAttr) (answer : Option State) → is_tag_name name ≡ true → list_all is_plain_attr attrs ≡ true →
    (m : Machine) (rest : List ℕ) (seen : List Token) → f.switch (seen ++ start_token name attrs ∷ []) ≡ answer →
    (n : Machine) × Reads f (reader (at_state m Data) (written_start name attrs ++ rest) seen) (reader (started n answer name) rest (seen ++ start_token name attrs ∷ []))
start_read f [] attrs answer h plain = cc
start_read f (c ∷ name) attrs answer h plain = λ m rest seen answers.
    let whole : List ℕ = c ∷ name in
    let letters : (is_ascii_lowercase c ≡ true) × (list_all is_name_char name ≡ true) = and_parts (is_ascii_lowercase c) (list_all is_name_char name) h in
    let all : list_all is_name_char whole ≡ true = rw (lower_is_name_char c letters.0, letters.1) refl in
    let a : (n : Machine) × Reads f (reader (tagging m TagName (fresh Starting)) (whole ++ (flat_map written_attr attrs ++ 62 ∷ []) ++ rest) seen)
    (reader (started n answer whole) rest (seen ++ start_token whole attrs ∷ [])) =
    start_behind f whole attrs answer all plain m rest seen answers in
    (a.0, go_on (start_opens f c letters.0 m (name ++ (flat_map written_attr attrs ++ 62 ∷ []) ++ rest) seen) a.1)

pub end_read : (f : Feedback) → IsFeedback f → (name : List ℕ) → is_tag_name name ≡ true → IsRead f (written_end name) (AnEnd name ∷ [])
end_read f honest [] h = cc
end_read f honest (c ∷ name) h = λ m rest seen.
    let whole : List ℕ = c ∷ name in
    let letters : (is_ascii_lowercase c ≡ true) × (list_all is_name_char name ≡ true) = and_parts (is_ascii_lowercase c) (list_all is_name_char name) h in
    let all : list_all is_name_char whole ≡ true = rw (lower_is_name_char c letters.0, letters.1) refl in
    let t1 : Tag = named (fresh Ending) whole in
    let a : (n : Machine) × Reads f (reader (tagging m TagName (fresh Ending)) (whole ++ 62 ∷ rest) seen) (reader (tagging n TagName t1) (62 ∷ rest) seen) =
    name_part f (fresh Ending) whole all m (62 ∷ rest) seen in
    let b : Reads f (reader (tagging a.0 TagName t1) (62 ∷ rest) seen) (reader (record a.0 { state = Data; tag = t1 }) rest (seen ++ AnEnd whole ∷ [])) =
    closes f false t1 None a.0 rest seen (honest seen (AnEnd whole) refl) in
    let d : Reads f (reader (tagging m TagName (fresh Ending)) (whole ++ 62 ∷ rest) seen) (reader (record a.0 { state = Data; tag = t1 }) rest (seen ++ AnEnd whole ∷ [])) = go_on a.1 b in (
      record a.0 { tag = t1 },
      go_on (end_opens f c letters.0 m (name ++ 62 ∷ [] ++ rest) seen)
          (subst (λ text. Reads f (reader (tagging m TagName (fresh Ending)) text seen) (reader (record a.0 { state = Data; tag = t1 }) rest (seen ++ AnEnd whole ∷ []))) (sym (append_assoc whole (62 ∷ []) rest)) d),
    )
