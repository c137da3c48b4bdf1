-- Start tags and end tags that are spelled in any way, as the tokenizer reads them.
use Rattle.std.specs.Prelude.{◌≡◌, ℕ, Bool, true, false, not, ◌==◌, ◌&&◌, ◌||◌, List, [], ◌∷◌, ◌++◌, map, flat_map, reverse, Option, None, refl}
use Rattle.std.specs.List.{list_all}
use Rattle.std.proofs.lemmas.Bool.{and_parts}
use Rattle.std.proofs.lemmas.List.{append-nil, append_assoc}
use mathlib.Core.List.{reverse-cons}
use mathlib.Core.Path.{◌∙◌, sym, ap, subst}
use Rattle.dom_markup.specs.Bytes.{is_letter}
use Rattle.standard_tokens.proofs.PlainTags.{at_attr, fresh, named, tagging}
use Rattle.standard_tokens.proofs.Steps.{go_on, other, silent, step_to, taking}
use Rattle.standard_tokens.specs.Entries.{Switch, Reconsume, EmitTag, SelfClosing, Starting, Ending}
use Rattle.standard_tokens.specs.Machine.{Machine, Tag, at_state, distinct, last_start_of, taken, token_of}
use Rattle.standard_tokens.specs.PlainMarkup.{Piece, Itself, Amp, Lt, Gt, Quot, Nbsp, character, written_piece}
use Rattle.standard_tokens.specs.Reading.{Feedback, Reader, Reads, here, reader, switched}
use Rattle.standard_tokens.specs.States.{State, Data, TagName, BeforeAttributeName, AttributeName, AfterAttributeName, BeforeAttributeValue}
use Rattle.standard_tokens.specs.States.{AttributeValueDoubleQuoted, AttributeValueSingleQuoted, AttributeValueUnquoted}
use Rattle.standard_tokens.specs.States.{AfterAttributeValueQuoted, SelfClosingStartTag}
use Rattle.standard_tokens.specs.Table.{entries}
use Rattle.standard_tokens.specs.Tokens.{Attr, Token, AStart, AnEnd}
use Rattle.standard_laws.specs.SpelledLaws.{SpelledEndsAreRead, SpelledStartsAreRead, behind_start}
use Rattle.standard_laws.specs.SpelledMarkup.{Quoting, Double, Single, Unquoted, NoValue, Valued, SpelledAttr, SpelledTag, SpelledValue}
use Rattle.standard_laws.specs.SpelledMarkup.{are_pieces, are_spelled_attrs, attr_of, begins_unquoted, closing, ends_unquoted, ends_value}
use Rattle.standard_laws.specs.SpelledMarkup.{is_gap_char, is_quoted, is_spelled_attr, is_spelled_char, is_spelled_name, is_spelled_tag_name}
use Rattle.standard_laws.specs.SpelledMarkup.{is_spelled_value, is_value_at, lowered, quoted, start_token, value_of, written_attr}
use Rattle.standard_laws.specs.SpelledMarkup.{written_value}
use Rattle.standard_laws.proofs.SpelledNames.{Goes, Place, AtName, AtAttr, AtQuoted, AtBare, attr_name_goes, behind_name, end_opens, gap_goes}
use Rattle.standard_laws.proofs.SpelledNames.{gap_state, goes_on, letter_is_spelled, name_goes, spaces_go, start_opens, state_at, value_stays}
use Rattle.standard_laws.proofs.SpelledValues.{pieces_go}

-- ---- the value of an attribute

-- `=`, with white space before it
equals_goes : (f : Feedback) (seen : List Token) (t : Tag) (before rest : List ℕ) → list_all is_gap_char before ≡ true →
    Goes f seen AttributeName t (before ++ (61 ∷ rest)) BeforeAttributeValue t rest
unfolding taken entries
equals_goes f seen t [] rest h = λ m. (m, silent (taking [] (Switch BeforeAttributeValue) (61 ∷ [])) refl refl refl)
equals_goes f seen t (c ∷ before) rest h =
    let parts : (is_gap_char c ≡ true) × (list_all is_gap_char before ≡ true) = and_parts (is_gap_char c) (list_all is_gap_char before) h in
    goes_on f seen AttributeName AfterAttributeName BeforeAttributeValue t t t (c ∷ (before ++ (61 ∷ rest))) (61 ∷ rest) rest
    (gap_goes f seen AtAttr t c before (61 ∷ rest) parts.0 parts.1) (λ m. (m, silent (taking [] (Switch BeforeAttributeValue) (61 ∷ [])) refl refl refl))

-- the first character of a value without quotes stays
begins_bare : (f : Feedback) (seen : List Token) (t : Tag) (pieces : List Piece) (rest : List ℕ) → begins_unquoted pieces ≡ true → are_pieces (is_value_at Unquoted) pieces rest ≡ true →
    Goes f seen BeforeAttributeValue t (flat_map written_piece pieces ++ rest) AttributeValueUnquoted t (flat_map written_piece pieces ++ rest)
unfolding taken entries
begins_bare f seen t [] rest h k = cc
begins_bare f seen t (Itself c ∷ pieces) rest h k = λ m.
    let text : List ℕ = flat_map written_piece pieces ++ rest in
    let parts : (is_value_at Unquoted c text ≡ true) × (are_pieces (is_value_at Unquoted) pieces rest ≡ true) = and_parts (is_value_at Unquoted c text) (are_pieces (is_value_at Unquoted) pieces rest) k in
    let test : ℕ → Bool = λ c. not (0 == c || 13 == c || ends_value Unquoted c) in
    let stands : test c ≡ true = (and_parts (test c) _ parts.0).0 in
    let unquoted : ℕ → Bool = λ c. not (34 == c || 39 == c) in
    let is : taken (f.in_foreign seen) (tagging m BeforeAttributeValue t) (c ∷ text) (entries BeforeAttributeValue) ≡ taking [] (Reconsume AttributeValueUnquoted) (c ∷ []) =
    rw (
      other test 9 c stands refl,
      other test 10 c stands refl,
      other test 12 c stands refl,
      other test 32 c stands refl,
      other unquoted 34 c h refl,
      other unquoted 39 c h refl,
      other test 62 c stands refl,
    ) refl in
    (m, silent (taking [] (Reconsume AttributeValueUnquoted) (c ∷ [])) is refl refl)
begins_bare f seen t (Amp ∷ pieces) rest h k = λ m. (m, silent (taking [] (Reconsume AttributeValueUnquoted) (38 ∷ [])) refl refl refl)
begins_bare f seen t (Lt ∷ pieces) rest h k = λ m. (m, silent (taking [] (Reconsume AttributeValueUnquoted) (38 ∷ [])) refl refl refl)
begins_bare f seen t (Gt ∷ pieces) rest h k = λ m. (m, silent (taking [] (Reconsume AttributeValueUnquoted) (38 ∷ [])) refl refl refl)
begins_bare f seen t (Quot ∷ pieces) rest h k = λ m. (m, silent (taking [] (Reconsume AttributeValueUnquoted) (38 ∷ [])) refl refl refl)
begins_bare f seen t (Nbsp ∷ pieces) rest h k = λ m. (m, silent (taking [] (Reconsume AttributeValueUnquoted) (38 ∷ [])) refl refl refl)

-- where a value ends
abbrev place_of : Quoting → Place
place_of Double = AtQuoted
place_of Single = AtQuoted
place_of Unquoted = AtBare

quoted_goes : (f : Feedback) (seen : List Token) (tag : Tag) (attr : List ℕ) (q : Quoting) (pieces : List Piece) (rest : List ℕ) → is_quoted q pieces rest ≡ true →
    Goes f seen BeforeAttributeValue (at_attr tag attr []) (quoted q (flat_map written_piece pieces) ++ rest) (state_at (place_of q)) (at_attr tag attr (map character pieces)) rest
unfolding taken entries
quoted_goes f seen tag attr Double pieces rest h =
    let text : List ℕ = flat_map written_piece pieces in
    let D : State = AttributeValueDoubleQuoted in
    let x : Tag = at_attr tag attr [] in
    let y : Tag = at_attr tag attr (map character pieces) in
    let inner : Goes f seen D x (text ++ (34 ∷ rest)) AfterAttributeValueQuoted y rest =
    goes_on f seen D D AfterAttributeValueQuoted x y y (text ++ (34 ∷ rest)) (34 ∷ rest) rest (pieces_go f seen Double tag attr [] pieces (34 ∷ rest) h)
    (λ m. (m, silent (taking [] (Switch AfterAttributeValueQuoted) (34 ∷ [])) refl refl refl)) in
    let all : Goes f seen BeforeAttributeValue x (34 ∷ (text ++ (34 ∷ rest))) AfterAttributeValueQuoted y rest =
    goes_on f seen BeforeAttributeValue D AfterAttributeValueQuoted x x y (34 ∷ (text ++ (34 ∷ rest))) (text ++ (34 ∷ rest)) rest
    (λ m. (m, silent (taking [] (Switch D) (34 ∷ [])) refl refl refl)) inner in
    subst (λ text. Goes f seen BeforeAttributeValue x (34 ∷ text) AfterAttributeValueQuoted y rest) (sym (append_assoc text (34 ∷ []) rest)) all
quoted_goes f seen tag attr Single pieces rest h =
    let text : List ℕ = flat_map written_piece pieces in
    let D : State = AttributeValueSingleQuoted in
    let x : Tag = at_attr tag attr [] in
    let y : Tag = at_attr tag attr (map character pieces) in
    let inner : Goes f seen D x (text ++ (39 ∷ rest)) AfterAttributeValueQuoted y rest =
    goes_on f seen D D AfterAttributeValueQuoted x y y (text ++ (39 ∷ rest)) (39 ∷ rest) rest (pieces_go f seen Single tag attr [] pieces (39 ∷ rest) h)
    (λ m. (m, silent (taking [] (Switch AfterAttributeValueQuoted) (39 ∷ [])) refl refl refl)) in
    let all : Goes f seen BeforeAttributeValue x (39 ∷ (text ++ (39 ∷ rest))) AfterAttributeValueQuoted y rest =
    goes_on f seen BeforeAttributeValue D AfterAttributeValueQuoted x x y (39 ∷ (text ++ (39 ∷ rest))) (text ++ (39 ∷ rest)) rest
    (λ m. (m, silent (taking [] (Switch D) (39 ∷ [])) refl refl refl)) inner in
    subst (λ text. Goes f seen BeforeAttributeValue x (39 ∷ text) AfterAttributeValueQuoted y rest) (sym (append_assoc text (39 ∷ []) rest)) all
quoted_goes f seen tag attr Unquoted pieces rest h =
    let text : List ℕ = flat_map written_piece pieces ++ rest in
    let x : Tag = at_attr tag attr [] in
    let y : Tag = at_attr tag attr (map character pieces) in
    let parts : (begins_unquoted pieces ≡ true) × ((ends_unquoted rest && are_pieces (is_value_at Unquoted) pieces rest) ≡ true) =
    and_parts (begins_unquoted pieces) (ends_unquoted rest && are_pieces (is_value_at Unquoted) pieces rest) h in
    let more : (ends_unquoted rest ≡ true) × (are_pieces (is_value_at Unquoted) pieces rest ≡ true) = and_parts (ends_unquoted rest) (are_pieces (is_value_at Unquoted) pieces rest) parts.1 in
    goes_on f seen BeforeAttributeValue AttributeValueUnquoted AttributeValueUnquoted x x y text text rest (begins_bare f seen x pieces rest parts.0 more.1)
    (pieces_go f seen Unquoted tag attr [] pieces rest more.1)

abbrev end_of : SpelledValue → Place
end_of NoValue = AtAttr
end_of (Valued before after q pieces) = place_of q

value_goes : (f : Feedback) (seen : List Token) (tag : Tag) (attr : List ℕ) (value : SpelledValue) (rest : List ℕ) → is_spelled_value value rest ≡ true →
    Goes f seen AttributeName (at_attr tag attr []) (written_value value ++ rest) (state_at (end_of value)) (at_attr tag attr (value_of value)) rest
value_goes f seen tag attr NoValue rest h = λ m. (m, here)
value_goes f seen tag attr (Valued before after q pieces) rest h =
    let x : Tag = at_attr tag attr [] in
    let y : Tag = at_attr tag attr (map character pieces) in
    let text : List ℕ = quoted q (flat_map written_piece pieces) in
    let one : (list_all is_gap_char before ≡ true) × ((list_all is_gap_char after && is_quoted q pieces rest) ≡ true) = and_parts (list_all is_gap_char before) (list_all is_gap_char after && is_quoted q pieces rest) h in
    let two : (list_all is_gap_char after ≡ true) × (is_quoted q pieces rest ≡ true) = and_parts (list_all is_gap_char after) (is_quoted q pieces rest) one.1 in
    let S : State = state_at (place_of q) in
    let last : Goes f seen BeforeAttributeValue x (after ++ (text ++ rest)) S y rest =
    goes_on f seen BeforeAttributeValue BeforeAttributeValue S x x y (after ++ (text ++ rest)) (text ++ rest) rest
    (spaces_go f seen BeforeAttributeValue x after (text ++ rest) value_stays two.0) (quoted_goes f seen tag attr q pieces rest two.1) in
    let all : Goes f seen AttributeName x (before ++ (61 ∷ (after ++ (text ++ rest)))) S y rest =
    goes_on f seen AttributeName BeforeAttributeValue S x x y (before ++ (61 ∷ (after ++ (text ++ rest)))) (after ++ (text ++ rest)) rest
    (equals_goes f seen x before (after ++ (text ++ rest)) one.0) last in
    let same : (before ++ (61 ∷ (after ++ text))) ++ rest ≡ before ++ (61 ∷ (after ++ (text ++ rest))) =
    append_assoc before (61 ∷ (after ++ text)) rest ∙ ap (λ t. before ++ (61 ∷ t)) (append_assoc after text rest) in
    subst (λ t. Goes f seen AttributeName x t S y rest) (sym same) all

-- ---- attributes

abbrev with_attr : Tag → SpelledAttr → Tag
with_attr tag a = record tag { attrs = attr_of a ∷ tag.attrs }

attr_goes : (f : Feedback) (seen : List Token) (p : Place) (tag : Tag) (a : SpelledAttr) (rest : List ℕ) → is_spelled_attr a rest ≡ true →
    Goes f seen (state_at p) tag (written_attr a ++ rest) (state_at (end_of a.value)) (with_attr tag a) rest
attr_goes f seen p tag a rest h =
    let one : ((is_gap_char a.gap && list_all is_gap_char a.space) ≡ true) × ((is_spelled_name a.name && is_spelled_value a.value rest) ≡ true) =
    and_parts (is_gap_char a.gap && list_all is_gap_char a.space) (is_spelled_name a.name && is_spelled_value a.value rest) h in
    let gap : (is_gap_char a.gap ≡ true) × (list_all is_gap_char a.space ≡ true) = and_parts (is_gap_char a.gap) (list_all is_gap_char a.space) one.0 in
    let parts : (is_spelled_name a.name ≡ true) × (is_spelled_value a.value rest ≡ true) = and_parts (is_spelled_name a.name) (is_spelled_value a.value rest) one.1 in
    let value : List ℕ = written_value a.value ++ rest in
    let named : List ℕ = a.name ++ value in
    let G : State = gap_state (behind_name p) in
    let S : State = state_at (end_of a.value) in
    let x : Tag = at_attr tag (lowered a.name) [] in
    let y : Tag = at_attr tag (lowered a.name) (value_of a.value) in
    let last : Goes f seen G tag named S y rest =
    goes_on f seen G AttributeName S tag x y named value rest (attr_name_goes f seen (behind_name p) tag a.name value parts.0) (value_goes f seen tag (lowered a.name) a.value rest parts.1) in
    let all : Goes f seen (state_at p) tag (a.gap ∷ (a.space ++ named)) S y rest =
    goes_on f seen (state_at p) G S tag tag y (a.gap ∷ (a.space ++ named)) named rest (gap_goes f seen p tag a.gap a.space named gap.0 gap.1) last in
    let same : (a.space ++ (a.name ++ written_value a.value)) ++ rest ≡ a.space ++ named =
    append_assoc a.space (a.name ++ written_value a.value) rest ∙ ap (λ t. a.space ++ t) (append_assoc a.name (written_value a.value) rest) in
    subst (λ t. Goes f seen (state_at p) tag (a.gap ∷ t) S y rest) (sym same) all

-- a value without quotes is as long as possible
abbrev stands_before : Place → List ℕ → Bool
stands_before AtBare rest = ends_unquoted rest
stands_before _ rest = true

value_stands : (value : SpelledValue) (rest : List ℕ) → is_spelled_value value rest ≡ true → stands_before (end_of value) rest ≡ true
value_stands NoValue rest h = refl
value_stands (Valued before after Double pieces) rest h = refl
value_stands (Valued before after Single pieces) rest h = refl
value_stands (Valued before after Unquoted pieces) rest h =
    let one : (list_all is_gap_char before ≡ true) × ((list_all is_gap_char after && is_quoted Unquoted pieces rest) ≡ true) = and_parts (list_all is_gap_char before) (list_all is_gap_char after && is_quoted Unquoted pieces rest) h in
    let two : (list_all is_gap_char after ≡ true) × (is_quoted Unquoted pieces rest ≡ true) = and_parts (list_all is_gap_char after) (is_quoted Unquoted pieces rest) one.1 in
    let three : (begins_unquoted pieces ≡ true) × ((ends_unquoted rest && are_pieces (is_value_at Unquoted) pieces rest) ≡ true) =
    and_parts (begins_unquoted pieces) (ends_unquoted rest && are_pieces (is_value_at Unquoted) pieces rest) two.1 in
    (and_parts (ends_unquoted rest) (are_pieces (is_value_at Unquoted) pieces rest) three.1).0

attr_stands : (a : SpelledAttr) (rest : List ℕ) → is_spelled_attr a rest ≡ true → stands_before (end_of a.value) rest ≡ true
attr_stands a rest h =
    let one : ((is_gap_char a.gap && list_all is_gap_char a.space) ≡ true) × ((is_spelled_name a.name && is_spelled_value a.value rest) ≡ true) =
    and_parts (is_gap_char a.gap && list_all is_gap_char a.space) (is_spelled_name a.name && is_spelled_value a.value rest) h in
    value_stands a.value rest (and_parts (is_spelled_name a.name) (is_spelled_value a.value rest) one.1).1

-- the attributes in front of those, the last first
abbrev stacked : List SpelledAttr → List Attr → List Attr
stacked [] old = old
stacked (a ∷ attrs) old = stacked attrs (attr_of a ∷ old)

reverse-stacked : (attrs : List SpelledAttr) (old : List Attr) → reverse (stacked attrs old) ≡ reverse old ++ map attr_of attrs
reverse-stacked [] old = sym (append-nil (reverse old))
reverse-stacked (a ∷ attrs) old = reverse-stacked attrs (attr_of a ∷ old) ∙ ap (λ bs. bs ++ map attr_of attrs) (reverse-cons (attr_of a) old) ∙ append_assoc (reverse old) (attr_of a ∷ []) (map attr_of attrs)

-- where reading is behind the attributes of a tag
record Behind (f : Feedback) (seen : List Token) (s : State) (tag : Tag) (text : List ℕ) (attrs : List Attr) (rest : List ℕ) : Type 0 where
  pub place : Place
  pub stands : stands_before place rest ≡ true
  pub goes : Goes f seen s tag text (state_at place) (record tag { attrs = attrs }) rest

attrs_go : (f : Feedback) (seen : List Token) (p : Place) (tag : Tag) (attrs : List SpelledAttr) (rest : List ℕ) → stands_before p (flat_map written_attr attrs ++ rest) ≡ true →
    are_spelled_attrs attrs rest ≡ true → Behind f seen (state_at p) tag (flat_map written_attr attrs ++ rest) (stacked attrs tag.attrs) rest
attrs_go f seen p tag [] rest k h = record { place = p; stands = k; goes = λ m. (m, here) }
attrs_go f seen p tag (a ∷ attrs) rest k h =
    let tail : List ℕ = flat_map written_attr attrs ++ rest in
    let parts : (is_spelled_attr a tail ≡ true) × (are_spelled_attrs attrs rest ≡ true) = and_parts (is_spelled_attr a tail) (are_spelled_attrs attrs rest) h in
    let more : Behind f seen (state_at (end_of a.value)) (with_attr tag a) tail (stacked attrs (attr_of a ∷ tag.attrs)) rest =
    attrs_go f seen (end_of a.value) (with_attr tag a) attrs rest (attr_stands a tail parts.0) parts.1 in
    let y : Tag = record tag { attrs = stacked attrs (attr_of a ∷ tag.attrs) } in
    let all : Goes f seen (state_at p) tag (written_attr a ++ tail) (state_at more.place) y rest =
    goes_on f seen (state_at p) (state_at (end_of a.value)) (state_at more.place) tag (with_attr tag a) y (written_attr a ++ tail) tail rest (attr_goes f seen p tag a tail parts.0) more.goes in
    record {
      place = more.place;
      stands = more.stands;
      goes = subst (λ t. Goes f seen (state_at p) tag t (state_at more.place) y rest) (sym (append_assoc (written_attr a) (flat_map written_attr attrs) rest)) all;
    }

-- ---- the ends of tags

abbrev closed : Bool → Tag → Tag
closed true tag = record tag { self_closing = true }
closed false tag = tag

-- the tag is emitted, and tree construction answers
abbrev pub ended : Feedback → List Token → Tag → List ℕ → Option State → Machine → Reader
ended f seen tag rest answer n = reader (switched answer (record n { state = Data; last_start = last_start_of tag n.last_start })) rest (seen ++ token_of tag ∷ [])

abbrev pub Ends : Feedback → List Token → State → Tag → List ℕ → Tag → List ℕ → Option State → Type 0
Ends f seen s x text y rest answer = (m : Machine) → (n : Machine) × Reads f (reader (tagging m s x) text seen) (ended f seen y rest answer n)

pub ends_behind : (f : Feedback) (seen : List Token) (s t : State) (x y z : Tag) (text middle rest : List ℕ) (answer : Option State) → Goes f seen s x text t y middle →
    Ends f seen t y middle z rest answer → Ends f seen s x text z rest answer
ends_behind f seen s t x y z text middle rest answer one two m =
    let a : (n : Machine) × Reads f (reader (tagging m s x) text seen) (reader (tagging n t y) middle seen) = one m in
    let b : (n : Machine) × Reads f (reader (tagging a.0 t y) middle seen) (ended f seen z rest answer n) = two a.0 in
    (b.0, go_on a.1 b.1)

slash_goes : (f : Feedback) (seen : List Token) (s : State) (tag : Tag) (rest : List ℕ) (answer : Option State) → f.switch (seen ++ token_of (closed true tag) ∷ []) ≡ answer →
    ((foreign : Bool) (m : Machine) (text : List ℕ) → taken foreign m (47 ∷ text) (entries s) ≡ taking [] (Switch SelfClosingStartTag) (47 ∷ [])) →
    Ends f seen s tag (47 ∷ 62 ∷ rest) (closed true tag) rest answer
unfolding taken entries
slash_goes f seen s tag rest answer h is m =
    let a : Reads f (reader (tagging m s tag) (47 ∷ 62 ∷ rest) seen) (reader (tagging m SelfClosingStartTag tag) (62 ∷ rest) seen) =
    silent (taking [] (Switch SelfClosingStartTag) (47 ∷ [])) (is (f.in_foreign seen) (tagging m s tag) (62 ∷ rest)) refl refl in
    let n : Machine = record m { tag = closed true tag } in
    let k : Machine = record n { state = Data; last_start = last_start_of (closed true tag) n.last_start } in
    (n, go_on a (step_to (taking (SelfClosing ∷ EmitTag ∷ []) (Switch Data) (62 ∷ [])) (token_of (closed true tag) ∷ []) (switched answer k) refl refl refl (ap (λ state. switched state k) h)))

end_goes : (f : Feedback) (seen : List Token) (s : State) (tag : Tag) (rest : List ℕ) (answer : Option State) → f.switch (seen ++ token_of tag ∷ []) ≡ answer →
    ((foreign : Bool) (m : Machine) (text : List ℕ) → taken foreign m (62 ∷ text) (entries s) ≡ taking (EmitTag ∷ []) (Switch Data) (62 ∷ [])) →
    Ends f seen s tag (62 ∷ rest) tag rest answer
unfolding taken entries
end_goes f seen s tag rest answer h is m =
    let n : Machine = record m { tag = tag } in
    let k : Machine = record n { state = Data; last_start = last_start_of tag n.last_start } in
    (n, step_to (taking (EmitTag ∷ []) (Switch Data) (62 ∷ [])) (token_of tag ∷ []) (switched answer k) (is (f.in_foreign seen) (tagging m s tag) rest) refl refl (ap (λ state. switched state k) h))

-- from the state behind an attribute's name
after_ends : (f : Feedback) (seen : List Token) (tag : Tag) (slash : Bool) (rest : List ℕ) (answer : Option State) → f.switch (seen ++ token_of (closed slash tag) ∷ []) ≡ answer →
    Ends f seen AfterAttributeName tag (closing slash ++ rest) (closed slash tag) rest answer
unfolding taken entries
after_ends f seen tag true rest answer h = slash_goes f seen AfterAttributeName tag rest answer h (λ foreign m text. refl)
after_ends f seen tag false rest answer h = end_goes f seen AfterAttributeName tag rest answer h (λ foreign m text. refl)

-- also from a state that leads there
by_after : (f : Feedback) (seen : List Token) (s : State) (tag : Tag) (slash : Bool) (rest : List ℕ) (answer : Option State) → f.switch (seen ++ token_of (closed slash tag) ∷ []) ≡ answer →
    ((foreign : Bool) (m : Machine) (text : List ℕ) → taken foreign m (47 ∷ text) (entries s) ≡ taking [] (Reconsume AfterAttributeName) (47 ∷ [])) →
    ((foreign : Bool) (m : Machine) (text : List ℕ) → taken foreign m (62 ∷ text) (entries s) ≡ taking [] (Reconsume AfterAttributeName) (62 ∷ [])) →
    Ends f seen s tag (closing slash ++ rest) (closed slash tag) rest answer
by_after f seen s tag true rest answer h slash end =
    ends_behind f seen s AfterAttributeName tag tag (closed true tag) (47 ∷ 62 ∷ rest) (47 ∷ 62 ∷ rest) rest answer
    (λ m. (m, silent (taking [] (Reconsume AfterAttributeName) (47 ∷ [])) (slash (f.in_foreign seen) (tagging m s tag) (62 ∷ rest)) refl refl)) (after_ends f seen tag true rest answer h)
by_after f seen s tag false rest answer h slash end =
    ends_behind f seen s AfterAttributeName tag tag tag (62 ∷ rest) (62 ∷ rest) rest answer
    (λ m. (m, silent (taking [] (Reconsume AfterAttributeName) (62 ∷ [])) (end (f.in_foreign seen) (tagging m s tag) rest) refl refl)) (after_ends f seen tag false rest answer h)

pub gap_ends : (f : Feedback) (seen : List Token) (b : Bool) (tag : Tag) (slash : Bool) (rest : List ℕ) (answer : Option State) → f.switch (seen ++ token_of (closed slash tag) ∷ []) ≡ answer →
    Ends f seen (gap_state b) tag (closing slash ++ rest) (closed slash tag) rest answer
unfolding taken entries
gap_ends f seen true tag slash rest answer h = after_ends f seen tag slash rest answer h
gap_ends f seen false tag slash rest answer h = by_after f seen BeforeAttributeName tag slash rest answer h (λ foreign m text. refl) (λ foreign m text. refl)

place_ends : (f : Feedback) (seen : List Token) (p : Place) (tag : Tag) (slash : Bool) (rest : List ℕ) (answer : Option State) → f.switch (seen ++ token_of (closed slash tag) ∷ []) ≡ answer →
    stands_before p (closing slash ++ rest) ≡ true → Ends f seen (state_at p) tag (closing slash ++ rest) (closed slash tag) rest answer
unfolding taken entries
place_ends f seen AtName tag true rest answer h k = slash_goes f seen TagName tag rest answer h (λ foreign m text. refl)
place_ends f seen AtName tag false rest answer h k = end_goes f seen TagName tag rest answer h (λ foreign m text. refl)
place_ends f seen AtQuoted tag true rest answer h k = slash_goes f seen AfterAttributeValueQuoted tag rest answer h (λ foreign m text. refl)
place_ends f seen AtQuoted tag false rest answer h k = end_goes f seen AfterAttributeValueQuoted tag rest answer h (λ foreign m text. refl)
place_ends f seen AtBare tag true rest answer h k = cc
place_ends f seen AtBare tag false rest answer h k = end_goes f seen AttributeValueUnquoted tag rest answer h (λ foreign m text. refl)
place_ends f seen AtAttr tag slash rest answer h k = by_after f seen AttributeName tag slash rest answer h (λ foreign m text. refl) (λ foreign m text. refl)

-- the end of a tag, with white space before it
tail_ends : (f : Feedback) (seen : List Token) (p : Place) (tag : Tag) (space : List ℕ) (slash : Bool) (rest : List ℕ) (answer : Option State) →
    f.switch (seen ++ token_of (closed slash tag) ∷ []) ≡ answer → list_all is_gap_char space ≡ true → stands_before p (space ++ (closing slash ++ rest)) ≡ true →
    Ends f seen (state_at p) tag (space ++ (closing slash ++ rest)) (closed slash tag) rest answer
tail_ends f seen p tag [] slash rest answer h g k = place_ends f seen p tag slash rest answer h k
tail_ends f seen p tag (c ∷ space) slash rest answer h g k =
    let parts : (is_gap_char c ≡ true) × (list_all is_gap_char space ≡ true) = and_parts (is_gap_char c) (list_all is_gap_char space) g in
    let tail : List ℕ = closing slash ++ rest in
    ends_behind f seen (state_at p) (gap_state (behind_name p)) tag tag (closed slash tag) (c ∷ (space ++ tail)) tail rest answer
    (gap_goes f seen p tag c space tail parts.0 parts.1) (gap_ends f seen (behind_name p) tag slash rest answer h)

-- ---- whole tags

-- the tag that was read
abbrev read_tag : SpelledTag → Tag
read_tag tag = record { kind = Starting; name = lowered tag.name; attrs = stacked tag.attrs []; self_closing = false }

read_token : (tag : SpelledTag) (slash : Bool) → tag.slash ≡ slash → token_of (closed slash (read_tag tag)) ≡ start_token tag
read_token tag true h = ap (λ list. AStart (lowered tag.name) (distinct list) true) (reverse-stacked tag.attrs []) ∙ ap (AStart (lowered tag.name) (distinct (map attr_of tag.attrs))) (sym h)
read_token tag false h = ap (λ list. AStart (lowered tag.name) (distinct list) false) (reverse-stacked tag.attrs []) ∙ ap (AStart (lowered tag.name) (distinct (map attr_of tag.attrs))) (sym h)

-- behind it
read_behind : (f : Feedback) (seen : List Token) (tag : SpelledTag) (slash : Bool) (rest : List ℕ) (answer : Option State) (n : Machine) → tag.slash ≡ slash →
    (k : Machine) × (ended f seen (closed slash (read_tag tag)) rest answer n ≡ reader (behind_start k answer (lowered tag.name)) rest (seen ++ start_token tag ∷ []))
read_behind f seen tag true rest answer n h = (n, ap (λ token. reader (behind_start n answer (lowered tag.name)) rest (seen ++ token ∷ [])) (read_token tag true h))
read_behind f seen tag false rest answer n h = (n, ap (λ token. reader (behind_start n answer (lowered tag.name)) rest (seen ++ token ∷ [])) (read_token tag false h))

letters : (name : List ℕ) → is_spelled_tag_name name ≡ true → list_all is_spelled_char name ≡ true
letters [] h = cc
letters (c ∷ name) h =
    let parts : (is_letter c ≡ true) × (list_all is_spelled_char name ≡ true) = and_parts (is_letter c) (list_all is_spelled_char name) h in
    rw (letter_is_spelled c parts.0, parts.1) refl

-- `<` and a name
opened : (f : Feedback) (seen : List Token) (name rest : List ℕ) → is_spelled_tag_name name ≡ true → (m : Machine) →
    (n : Machine) × Reads f (reader (at_state m Data) (60 ∷ (name ++ rest)) seen) (reader (tagging n TagName (named (fresh Starting) (lowered name))) rest seen)
opened f seen [] rest h = cc
opened f seen (c ∷ name) rest h = λ m.
    let parts : (is_letter c ≡ true) × (list_all is_spelled_char name ≡ true) = and_parts (is_letter c) (list_all is_spelled_char name) h in
    let all : list_all is_spelled_char (c ∷ name) ≡ true = letters (c ∷ name) h in
    let a : (n : Machine) × Reads f (reader (tagging m TagName (fresh Starting)) (c ∷ (name ++ rest)) seen) (reader (tagging n TagName (named (fresh Starting) (lowered (c ∷ name)))) rest seen) =
    name_goes f seen (fresh Starting) (c ∷ name) rest all m in
    (a.0, go_on (start_opens f c parts.0 m (name ++ rest) seen) a.1)

-- `</` and a name
opened_end : (f : Feedback) (seen : List Token) (name rest : List ℕ) → is_spelled_tag_name name ≡ true → (m : Machine) →
    (n : Machine) × Reads f (reader (at_state m Data) (60 ∷ 47 ∷ (name ++ rest)) seen) (reader (tagging n TagName (named (fresh Ending) (lowered name))) rest seen)
opened_end f seen [] rest h = cc
opened_end f seen (c ∷ name) rest h = λ m.
    let parts : (is_letter c ≡ true) × (list_all is_spelled_char name ≡ true) = and_parts (is_letter c) (list_all is_spelled_char name) h in
    let all : list_all is_spelled_char (c ∷ name) ≡ true = letters (c ∷ name) h in
    let a : (n : Machine) × Reads f (reader (tagging m TagName (fresh Ending)) (c ∷ (name ++ rest)) seen) (reader (tagging n TagName (named (fresh Ending) (lowered (c ∷ name)))) rest seen) =
    name_goes f seen (fresh Ending) (c ∷ name) rest all m in
    (a.0, go_on (end_opens f c parts.0 m (name ++ rest) seen) a.1)

pub starts_read : SpelledStartsAreRead
starts_read f seen tag rest answer h switches before =
    let tail : List ℕ = tag.space ++ (closing tag.slash ++ rest) in
    let text : List ℕ = flat_map written_attr tag.attrs ++ tail in
    let one : (is_spelled_tag_name tag.name ≡ true) × ((list_all is_gap_char tag.space && are_spelled_attrs tag.attrs tail) ≡ true) =
    and_parts (is_spelled_tag_name tag.name) (list_all is_gap_char tag.space && are_spelled_attrs tag.attrs tail) h in
    let two : (list_all is_gap_char tag.space ≡ true) × (are_spelled_attrs tag.attrs tail ≡ true) = and_parts (list_all is_gap_char tag.space) (are_spelled_attrs tag.attrs tail) one.1 in
    let x : Tag = named (fresh Starting) (lowered tag.name) in
    let y : Tag = read_tag tag in
    let a : (n : Machine) × Reads f (reader (at_state before Data) (60 ∷ (tag.name ++ text)) seen) (reader (tagging n TagName x) text seen) = opened f seen tag.name text one.0 before in
    let b : Behind f seen TagName x text (stacked tag.attrs []) tail = attrs_go f seen AtName x tag.attrs tail refl two.1 in
    let answers : f.switch (seen ++ token_of (closed tag.slash y) ∷ []) ≡ answer = ap (λ token. f.switch (seen ++ token ∷ [])) (read_token tag tag.slash refl) ∙ switches in
    let d : Ends f seen TagName x text (closed tag.slash y) rest answer =
    ends_behind f seen TagName (state_at b.place) x y (closed tag.slash y) text tail rest answer b.goes (tail_ends f seen b.place y tag.space tag.slash rest answer answers two.0 b.stands) in
    let e : (n : Machine) × Reads f (reader (tagging a.0 TagName x) text seen) (ended f seen (closed tag.slash y) rest answer n) = d a.0 in
    let k : (k : Machine) × (ended f seen (closed tag.slash y) rest answer e.0 ≡ reader (behind_start k answer (lowered tag.name)) rest (seen ++ start_token tag ∷ [])) =
    read_behind f seen tag tag.slash rest answer e.0 refl in
    let all : Reads f (reader (at_state before Data) (60 ∷ (tag.name ++ text)) seen) (reader (behind_start k.0 answer (lowered tag.name)) rest (seen ++ start_token tag ∷ [])) =
    go_on a.1 (subst (Reads f (reader (tagging a.0 TagName x) text seen)) k.1 e.1) in
    let inner : (flat_map written_attr tag.attrs ++ (tag.space ++ closing tag.slash)) ++ rest ≡ text =
    append_assoc (flat_map written_attr tag.attrs) (tag.space ++ closing tag.slash) rest ∙ ap (λ t. flat_map written_attr tag.attrs ++ t) (append_assoc tag.space (closing tag.slash) rest) in
    let same : (tag.name ++ (flat_map written_attr tag.attrs ++ (tag.space ++ closing tag.slash))) ++ rest ≡ tag.name ++ text =
    append_assoc tag.name (flat_map written_attr tag.attrs ++ (tag.space ++ closing tag.slash)) rest ∙ ap (λ t. tag.name ++ t) inner in
    (k.0, subst (λ t. Reads f (reader (at_state before Data) (60 ∷ t) seen) (reader (behind_start k.0 answer (lowered tag.name)) rest (seen ++ start_token tag ∷ []))) (sym same) all)

pub ends_read : SpelledEndsAreRead
ends_read f honest seen name space h g before rest =
    let tail : List ℕ = space ++ (62 ∷ rest) in
    let x : Tag = named (fresh Ending) (lowered name) in
    let a : (n : Machine) × Reads f (reader (at_state before Data) (60 ∷ 47 ∷ (name ++ tail)) seen) (reader (tagging n TagName x) tail seen) = opened_end f seen name tail h before in
    let b : (n : Machine) × Reads f (reader (tagging a.0 TagName x) tail seen) (ended f seen x rest None n) =
    tail_ends f seen AtName x space false rest None (honest seen (AnEnd (lowered name)) refl) g refl a.0 in
    let same : (name ++ (space ++ 62 ∷ [])) ++ rest ≡ name ++ tail = append_assoc name (space ++ 62 ∷ []) rest ∙ ap (λ t. name ++ t) (append_assoc space (62 ∷ []) rest) in
    (b.0, subst (λ t. Reads f (reader (at_state before Data) (60 ∷ 47 ∷ t) seen) (ended f seen x rest None b.0)) (sym same) (go_on a.1 b.1))
