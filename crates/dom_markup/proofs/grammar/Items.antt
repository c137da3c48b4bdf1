-- What a look at the first bytes says of the item that begins there.
use Rattle.std.proofs.Common.{◌≡◌, ◌≢◌, ◌<◌, ℕ, List, [], ◌∷◌, ◌++◌, length, length-append, true, false, refl, sym, ap, ◌∙◌, subst, arith, append_assoc, inl, inr}
use Rattle.std.specs.Prelude.{Bool, codes, ◌==◌, ◌||◌, ◌&&◌}
use Rattle.std.proofs.lemmas.Bool.{false≢true, eqb-true}
use Rattle.dom_markup.specs.Bytes.{folded}
use Rattle.dom_nodes.specs.Words.{is_among}
use Rattle.dom_markup.specs.Names.{Mode, markup, text_of, raw_text_of, mode_in, void_names}
use Rattle.dom_nodes.specs.declared.fault.MarkupFaultKind.{MarkupFaultKind}
use Rattle.dom_nodes.specs.declared.fault.MarkupFaultKind.TheVariants as fault_kinds
use Rattle.dom_markup.specs.Lexeme.{OpensTag}
use Rattle.dom_markup.specs.Refusals.{BeginsTag, Cause, EndsInSlash, StartCause}
use Rattle.dom_markup.specs.Token.{BeginsKind, IsTextIn, contents_in, kind_of, kind_of_text}
use Rattle.dom_markup.specs.declared.document.tokens.TokenKind.{TokenKind}
use Rattle.dom_markup.specs.declared.document.tokens.TokenKind.TheVariants as kinds
use Rattle.dom_markup.specs.ValueTrees.{Attribute}
use Rattle.dom_markup.specs.Markup.{Item, Closes, IsTagName, NamesElement, EndsTag, BeginsStart, BeginsEnd, BeginsQuoted, BeginsWord, BeginsIdentifiers, BeginsDoctype, Begins, BeginsNothing, EndsAtTag, begins_markup, text_front, kept_after, mode_after, LacksEnd}
use Rattle.dom_markup.specs.Markup.Item.{start_tag, end_tag, characters, comment, doctype}
use Rattle.dom_markup.specs.ByteClasses.{ClosesNothing, PastAttributes, Splits}
use Rattle.dom_markup.specs.Bytes.{is_letter, is_name_byte, is_whitespace}
use Rattle.dom_markup.proofs.grammar.Reading.{no_letter, behind_first, other_second, second_same, comment_behind, EndsTag-suffix, no_slashed_start, no_start, slash_shape, slashed_start, start_shape}
use Rattle.dom_markup.proofs.grammar.Doctypes.{doctype_first}
use Rattle.dom_markup.proofs.grammar.Texts.{no_front, begins_less, some_front}

pub some_text : (text front rest : List ℕ) → text ≢ [] → begins_markup text ≡ false → front ≡ text_front text → text ≡ front ++ rest → (item : Item) × (text_front text ≢ []) × (text ≡ text_front text ++ rest)
some_text text front rest some plain is whole = (characters front, some_front text some plain, whole ∙ ap (λ t. t ++ rest) is)

-- where markup begins, no text does
pub no_text : (text : List ℕ) (c : List ℕ) (r : List ℕ) → begins_markup text ≡ true → Begins markup text (characters c) r → ⊥
no_text text c r h b = b.0 (no_front text h)

pub no_end_tag : (text tag : List ℕ) → begins_markup text ≡ true → text ≡ 60 ∷ 47 ∷ tag → ((n : List ℕ) (r : List ℕ) → BeginsEnd (60 ∷ 47 ∷ tag) n r → ⊥) → BeginsNothing markup text
no_end_tag text tag m e never (start_tag n a) r h =
    let is : 47 ∷ tag ≡ h.written ++ h.more = behind_first 60 text _ _ e h.is in
    no_letter 47 h.written h.more tag refl h.names.0 is
no_end_tag text tag m e never (end_tag n) r h = never n r (subst (λ (t : List ℕ). BeginsEnd t n r) e h)
no_end_tag text tag m e never (characters d) r h = no_text text d r m h
no_end_tag text tag m e never (comment d) r h = other_second text 47 33 _ _ e h.1 refl
no_end_tag text tag m e never (doctype n p s) r h = other_second text 47 33 _ _ e h.is refl

pub no_start_tag : (text : List ℕ) → begins_markup text ≡ true → ((r : List ℕ) → text ≡ 60 ∷ 47 ∷ r → ⊥) → ((r : List ℕ) → text ≡ 60 ∷ 33 ∷ r → ⊥) → ((n : List ℕ) (a : List Attribute) (r : List ℕ) → BeginsStart text n a r → ⊥) → BeginsNothing markup text
no_start_tag text m slash mark never (start_tag n a) r h = never n a r h
no_start_tag text m slash mark never (end_tag n) r h = slash _ h.is
no_start_tag text m slash mark never (characters d) r h = no_text text d r m h
no_start_tag text m slash mark never (comment d) r h = mark _ h.1
no_start_tag text m slash mark never (doctype n p s) r h = mark _ h.is

-- a comment that doesn't end
pub no_comment : (text more : List ℕ) → begins_markup text ≡ true → text ≡ codes "<!--" ++ more → ((front rest : List ℕ) → more ≡ front ++ (codes "-->" ++ rest) → ⊥) → BeginsNothing markup text
no_comment text more m e never (start_tag n a) r h =
    let is : 33 ∷ 45 ∷ 45 ∷ more ≡ h.written ++ h.more = behind_first 60 text _ _ e h.is in
    no_letter 33 h.written h.more _ refl h.names.0 is
no_comment text more m e never (end_tag n) r h = other_second text 33 47 _ _ e h.is refl
no_comment text more m e never (characters d) r h = no_text text d r m h
no_comment text more m e never (comment d) r h =
    let same : h.0 ≡ more = comment_behind text h.0 more h.1 e in
    never d r (sym same ∙ h.2.is)
no_comment text more m e never (doctype n p s) r h = doctype_first text _ n p s r e h

-- a declaration that is no doctype, and an instruction
pub no_declaration : (text more : List ℕ) → begins_markup text ≡ true → text ≡ 60 ∷ 33 ∷ more → ((r : List ℕ) → text ≡ codes "<!--" ++ r → ⊥) → ((n p s r : List ℕ) → BeginsDoctype (60 ∷ 33 ∷ more) n p s r → ⊥) → BeginsNothing markup text
no_declaration text more m e mark never (start_tag n a) r h =
    let is : 33 ∷ more ≡ h.written ++ h.more = behind_first 60 text _ _ e h.is in
    no_letter 33 h.written h.more more refl h.names.0 is
no_declaration text more m e mark never (end_tag n) r h = other_second text 33 47 _ _ e h.is refl
no_declaration text more m e mark never (characters d) r h = no_text text d r m h
no_declaration text more m e mark never (comment d) r h = mark h.0 h.1
no_declaration text more m e mark never (doctype n p s) r h = never n p s r (subst (λ (t : List ℕ). BeginsDoctype t n p s r) e h)

pub no_instruction : (text more : List ℕ) → begins_markup text ≡ true → text ≡ 60 ∷ 63 ∷ more → BeginsNothing markup text
no_instruction text more m e (start_tag n a) r h =
    let is : 63 ∷ more ≡ h.written ++ h.more = behind_first 60 text _ _ e h.is in
    no_letter 63 h.written h.more more refl h.names.0 is
no_instruction text more m e (end_tag n) r h = other_second text 63 47 _ _ e h.is refl
no_instruction text more m e (characters d) r h = no_text text d r m h
no_instruction text more m e (comment d) r h = other_second text 63 33 _ _ e h.1 refl
no_instruction text more m e (doctype n p s) r h = other_second text 63 33 _ _ e h.is refl

pub no_less : (text : List ℕ) → begins_markup text ≡ true → ((r : List ℕ) → text ≡ 60 ∷ r → ⊥) → ⊥
no_less text m none = let is = begins_less text m in none is.0 is.1

-- no markup begins where no `<` stands
pub no_markup : (text : List ℕ) → ((r : List ℕ) → text ≡ 60 ∷ r → ⊥) → begins_markup text ≡ false
no_markup text none = go (begins_markup text) refl
  where
    go : (b : Bool) → begins_markup text ≡ b → begins_markup text ≡ false
    go false e = e
    go true e = absurd (no_less text e none)

-- ---- what is found at the front of markup

-- an item that markup follows
pub found_item : (mode : Mode) (text : List ℕ) (item : Item) (rest behind : List ℕ) (kind found_kind : TokenKind) (next : Mode) → Begins mode text item rest → behind ≡ rest → found_kind ≡ kind → kind ≡ kind_of mode item → next ≡ markup → mode_after mode item ≡ markup → BeginsKind mode text found_kind behind next
found_item mode text item rest behind kind found_kind next begins e f is after goes =
    record { item = item; begins = subst (λ (r : List ℕ). Begins mode text item r) (sym e) begins; is_kind = f ∙ is; goes_on = after ∙ sym goes }

-- a text, which is read on as it was
pub found_characters : (mode : Mode) (text c rest : List ℕ) (kind : TokenKind) → Begins mode text (characters c) rest → kind ≡ kind_of_text mode → BeginsKind mode text kind rest mode
found_characters mode text c rest kind begins is = record { item = characters c; begins = begins; is_kind = is; goes_on = refl }

pub found_start : (text n : List ℕ) (a : List Attribute) (rest : List ℕ) (kind : TokenKind) (next : Mode) → BeginsStart text n a rest → kind ≡ kinds.StartTag → next ≡ mode_in n → BeginsKind markup text kind rest next
found_start text n a rest kind next begins is goes = record { item = start_tag n a; begins = begins; is_kind = is; goes_on = goes }

-- ---- why none is found

-- an end tag is no start tag
pub no_slash : (text tag : List ℕ) → text ≡ 60 ∷ 47 ∷ tag → EndsInSlash text → ⊥
no_slash text tag e h = no_letter 47 h.written h.more tag refl h.names (behind_first 60 text _ _ e h.is)

-- where a start tag may begin, markup begins, and nothing else
pub opens_markup : (text rest : List ℕ) → OpensTag text rest → begins_markup text ≡ true
opens_markup text rest (is, (b, more, e, letter)) = rw (is, e, letter) refl

second_is : (text rest : List ℕ) (x : ℕ) (r : List ℕ) → OpensTag text rest → is_letter x ≡ false → text ≡ 60 ∷ x ∷ r → ⊥
second_is text rest x r (is, (b, more, e, letter)) other h =
    let same : b ≡ x = second_same text b x more r (is ∙ ap (λ t. 60 ∷ t) e) h in
    false≢true (sym other ∙ ap is_letter (sym same) ∙ letter)

-- where markup begins with neither a letter nor a slash nor an exclamation mark, it begins with a question mark
pub asks : (text : List ℕ) → begins_markup text ≡ true → ((rest : List ℕ) → OpensTag text rest → ⊥) → ((r : List ℕ) → text ≡ 60 ∷ 47 ∷ r → ⊥) → ((r : List ℕ) → text ≡ 60 ∷ 33 ∷ r → ⊥) → (more : List ℕ) × (text ≡ 60 ∷ 63 ∷ more)
asks [] m start slash mark = absurd (false≢true m)
asks (a ∷ []) m start slash mark = absurd (false≢true m)
asks (a ∷ b ∷ bs) m start slash mark = by_byte (a == 60) (is_letter b) (b == 47) (b == 33) (b == 63) refl refl refl refl refl m
  where
    by_byte : (x l y z w : Bool) → (a == 60) ≡ x → is_letter b ≡ l → (b == 47) ≡ y → (b == 33) ≡ z → (b == 63) ≡ w → (x && (l || y || z || w)) ≡ true → (more : List ℕ) × (a ∷ b ∷ bs ≡ 60 ∷ 63 ∷ more)
    by_byte false l y z w p q s r t h = absurd (false≢true h)
    by_byte true true y z w p q s r t h = absurd (start (b ∷ bs) (ap (λ n. n ∷ b ∷ bs) (eqb-true a 60 p), (b, bs, refl, q)))
    by_byte true false true z w p q s r t h = absurd (slash bs (cc (eqb-true a 60 p, eqb-true b 47 s)))
    by_byte true false false true w p q s r t h = absurd (mark bs (cc (eqb-true a 60 p, eqb-true b 33 r)))
    by_byte true false false false true p q s r t h = (bs, cc (eqb-true a 60 p, eqb-true b 63 t))
    by_byte true false false false false p q s r t h = absurd (false≢true h)

opens_tag : (text rest : List ℕ) → OpensTag text rest → BeginsTag text
opens_tag text rest (is, (b, more, e, letter)) = (b, more, is ∙ ap (λ t. 60 ∷ t) e, rw letter refl)

-- why nothing is found where a start tag may begin
pub start_cause : (text rest : List ℕ) (kind : MarkupFaultKind) → OpensTag text rest → StartCause text kind → BeginsNothing markup text × Cause markup text kind
start_cause text rest fault_kinds.BadTag opens h = (no_start_tag text (opens_markup text rest opens) (λ r. second_is text rest 47 r opens refl) (λ r. second_is text rest 33 r opens refl) h.0, (refl, opens_tag text rest opens, h.1))
start_cause text rest fault_kinds.SlashOnOpen opens h = (no_start_tag text (opens_markup text rest opens) (λ r. second_is text rest 47 r opens refl) (λ r. second_is text rest 33 r opens refl) h.0, (refl, h.1))
start_cause text rest fault_kinds.Unclosed opens h = absurd h
start_cause text rest fault_kinds.MismatchedEnd opens h = absurd h
start_cause text rest fault_kinds.StrayEnd opens h = absurd h
start_cause text rest fault_kinds.BadComment opens h = absurd h
start_cause text rest fault_kinds.BadDeclaration opens h = absurd h
start_cause text rest fault_kinds.MisplacedDoctype opens h = absurd h
start_cause text rest fault_kinds.Instruction opens h = absurd h
start_cause text rest fault_kinds.TooManyNodes opens h = absurd h
start_cause text rest fault_kinds.Memory opens h = absurd h

-- ---- the text of an element

-- neither a text nor an end tag begins
pub no_end_left : (mode : Mode) (name text : List ℕ) → IsTextIn mode name → LacksEnd name text → BeginsNothing mode text
no_end_left markup name text m lacks item rest b = absurd m
no_end_left (text_of o) name text m lacks (start_tag n a) rest b = b
no_end_left (text_of o) name text m lacks (end_tag n) rest b = lacks [] text rest refl (subst (λ (x : List ℕ). BeginsEnd text x rest) m b.1)
no_end_left (text_of o) name text m lacks (characters c) rest b = lacks b.0 rest b.2.after b.2.is (subst (λ (x : List ℕ). BeginsEnd rest x b.2.after) m b.2.ends)
no_end_left (text_of o) name text m lacks (comment c) rest b = b
no_end_left (text_of o) name text m lacks (doctype n p s) rest b = b
no_end_left (raw_text_of o) name text m lacks (start_tag n a) rest b = b
no_end_left (raw_text_of o) name text m lacks (end_tag n) rest b = lacks [] text rest refl (subst (λ (x : List ℕ). BeginsEnd text x rest) m b.1)
no_end_left (raw_text_of o) name text m lacks (characters c) rest b = lacks c rest b.1.after b.1.is (subst (λ (x : List ℕ). BeginsEnd rest x b.1.after) m b.1.ends)
no_end_left (raw_text_of o) name text m lacks (comment c) rest b = b
no_end_left (raw_text_of o) name text m lacks (doctype n p s) rest b = b

pub unclosed_cause : (mode : Mode) (name text : List ℕ) → IsTextIn mode name → LacksEnd name text → Cause mode text fault_kinds.Unclosed
unclosed_cause markup name text m lacks = absurd m
unclosed_cause (text_of o) name text m lacks = subst (λ (x : List ℕ). LacksEnd x text) (sym m) lacks
unclosed_cause (raw_text_of o) name text m lacks = subst (λ (x : List ℕ). LacksEnd x text) (sym m) lacks

-- the end tag stands at the front
pub found_end : (mode : Mode) (name text rest : List ℕ) → IsTextIn mode name → BeginsEnd text name rest → Begins mode text (end_tag name) rest
found_end markup name text rest m b = absurd m
found_end (text_of o) name text rest m b = (sym m, subst (λ (x : List ℕ). BeginsEnd text x rest) (sym m) b)
found_end (raw_text_of o) name text rest m b = (sym m, subst (λ (x : List ℕ). BeginsEnd text x rest) (sym m) b)

no_front_end : (name text front rest : List ℕ) → EndsAtTag name text front rest → ((r : List ℕ) → BeginsEnd text name r → ⊥) → front ≢ []
no_front_end name text [] rest h none = λ e. none h.after (subst (λ (t : List ℕ). BeginsEnd t name h.after) (sym h.is) h.ends)
no_front_end name text (x ∷ front) rest h none = λ e. cc

-- a text stands before it
pub found_text : (mode : Mode) (name text front rest : List ℕ) → IsTextIn mode name → EndsAtTag name text front rest → ((r : List ℕ) → BeginsEnd text name r → ⊥) → Begins mode text (characters (contents_in mode front)) rest
found_text markup name text front rest m h none = absurd m
found_text (text_of o) name text front rest m h none = (front, no_front_end name text front rest h none, subst (λ (x : List ℕ). EndsAtTag x text front rest) (sym m) h, refl)
found_text (raw_text_of o) name text front rest m h none = (no_front_end name text front rest h none, subst (λ (x : List ℕ). EndsAtTag x text front rest) (sym m) h)

-- ---- tags

pub start_made : (tag name behind rest : List ℕ) → Splits is_name_byte tag name behind → NamesElement name (folded name) → (all : List Attribute) → EndsTag (is_among (folded name) void_names) behind all rest → BeginsStart (60 ∷ tag) (folded name) (kept_after [] all) rest
start_made tag name behind rest s names all ends = record {
  written = name;
  more = behind;
  all = all;
  is = ap (λ t. 60 ∷ t) s.is;
  names = names;
  ends = ends;
  kept = refl;
}

-- where its attributes end, the tag ends too, or it is none
pub start_closes : (tag name behind close rest : List ℕ) (void : Bool) → Splits is_name_byte tag name behind → NamesElement name (folded name) → void ≡ is_among (folded name) void_names → PastAttributes behind close → Closes void close rest →
    (all : List Attribute) × EndsTag (is_among (folded name) void_names) behind all rest × BeginsStart (60 ∷ tag) (folded name) (kept_after [] all) rest
start_closes tag name behind close rest void splits names is past closes =
    let ends = past.same.back (is_among (folded name) void_names) [] rest (subst (λ (b : Bool). Closes b close rest) is closes) in
    (ends.0, ends.1, start_made tag name behind rest splits names ends.0 ends.1)

pub start_fails : (tag name behind close : List ℕ) (void : Bool) (kind : MarkupFaultKind) → Splits is_name_byte tag name behind → IsTagName name → void ≡ is_among (folded name) void_names → PastAttributes behind close → ClosesNothing void close kind → StartCause (60 ∷ tag) kind
start_fails tag name behind close void fault_kinds.BadTag splits names is past h =
    (no_start tag name behind close void splits is past.same past.none h.0, no_slashed_start tag name behind close splits past.same past.none h.1)
start_fails tag name behind close void fault_kinds.SlashOnOpen splits names is past h =
    (no_start tag name behind close void splits is past.same past.none h.0, slashed_start tag name behind close h.1 void splits names is past.same h.0 h.2)
start_fails tag name behind close void fault_kinds.Unclosed splits names is past h = absurd h
start_fails tag name behind close void fault_kinds.MismatchedEnd splits names is past h = absurd h
start_fails tag name behind close void fault_kinds.StrayEnd splits names is past h = absurd h
start_fails tag name behind close void fault_kinds.BadComment splits names is past h = absurd h
start_fails tag name behind close void fault_kinds.BadDeclaration splits names is past h = absurd h
start_fails tag name behind close void fault_kinds.MisplacedDoctype splits names is past h = absurd h
start_fails tag name behind close void fault_kinds.Instruction splits names is past h = absurd h
start_fails tag name behind close void fault_kinds.TooManyNodes splits names is past h = absurd h
start_fails tag name behind close void fault_kinds.Memory splits names is past h = absurd h

-- a run of name bytes that names no element begins no start tag
pub start_unnamed : (tag name behind : List ℕ) → Splits is_name_byte tag name behind → ((element : List ℕ) → NamesElement name element → ⊥) → StartCause (60 ∷ tag) fault_kinds.BadTag
start_unnamed tag name behind splits none =
    (λ n attributes rest h. none n (start_shape _ _ _ _ refl splits n attributes rest h).0, λ slashed. none _ ((slash_shape _ _ _ _ refl splits slashed).0, refl))

pub end_made : (tag name inner space behind rest : List ℕ) → Splits is_name_byte tag name inner → Splits is_whitespace inner space behind → NamesElement name (folded name) → behind ≡ 62 ∷ rest → BeginsEnd (60 ∷ 47 ∷ tag) (folded name) rest
end_made tag name inner space behind rest s w names e = record {
  written = name;
  space = space;
  is = ap (λ t. 60 ∷ 47 ∷ t) (s.is ∙ ap (λ t. name ++ t) (w.is ∙ ap (λ t. space ++ t) e));
  names = names;
  is_space = w.passes;
}

four : (a b c d rest : List ℕ) → a ++ (b ++ (c ++ (d ++ rest))) ≡ (a ++ (b ++ (c ++ d))) ++ rest
four a b c d rest = simp append_assoc

quoted_suffix : (text v r : List ℕ) → BeginsQuoted text v r → (front : List ℕ) × (text ≡ front ++ r)
quoted_suffix text v r q = (q.space ++ (q.quote ∷ (v ++ (q.quote ∷ []))), q.is ∙ (simp append_assoc))

word_suffix : (word text r : List ℕ) → BeginsWord word text r → (front : List ℕ) × (text ≡ front ++ r)
word_suffix word text r q = (q.space ++ q.written, q.is ∙ sym (append_assoc q.space q.written r))

two_fronts : (text mid rest a b : List ℕ) → text ≡ a ++ mid → mid ≡ b ++ rest → text ≡ (a ++ b) ++ rest
two_fronts text mid rest a b e f = e ∙ ap (λ t. a ++ t) f ∙ sym (append_assoc a b rest)

ends_suffix : (text p s close : List ℕ) → BeginsIdentifiers text p s close → (front : List ℕ) × (text ≡ front ++ close)
ends_suffix text p s close (inl none) = ([], sym none.2)
ends_suffix text p s close (inr (inl one)) =
    let a = word_suffix _ text one.0 one.1 in
    let b = quoted_suffix one.0 p close one.2 in
    (a.0 ++ b.0, two_fronts text one.0 close a.0 b.0 a.1 b.1)
ends_suffix text p s close (inr (inr (inl two))) =
    let a = word_suffix _ text two.0 two.2 in
    let b = quoted_suffix two.0 p two.1 two.3 in
    let c = quoted_suffix two.1 s close two.4 in
    (a.0 ++ (b.0 ++ c.0), two_fronts text two.0 close a.0 (b.0 ++ c.0) a.1 (two_fronts two.0 two.1 close b.0 c.0 b.1 c.1))
ends_suffix text p s close (inr (inr (inr sys))) =
    let a = word_suffix _ text sys.0 sys.1 in
    let b = quoted_suffix sys.0 s close sys.2 in
    (a.0 ++ b.0, two_fronts text sys.0 close a.0 b.0 a.1 b.1)

end_suffix : (text n rest : List ℕ) → BeginsEnd text n rest → (front : List ℕ) × (text ≡ front ++ rest) × (front ≢ [])
end_suffix text n rest h =
    (60 ∷ 47 ∷ (h.written ++ (h.space ++ (62 ∷ []))), h.is ∙ ap (λ t. 60 ∷ 47 ∷ t) (ap (λ t. h.written ++ t) (sym (append_assoc h.space (62 ∷ []) rest)) ∙ sym (append_assoc h.written (h.space ++ (62 ∷ [])) rest)), λ e. cc)

-- what follows an item is the rest of the text, and shorter
pub Begins-suffix : (mode : Mode) (text : List ℕ) (item : Item) (rest : List ℕ) → Begins mode text item rest → (front : List ℕ) × (text ≡ front ++ rest) × (front ≢ [])
Begins-suffix markup text (start_tag n a) rest h =
    let inner = EndsTag-suffix _ h.more h.all rest h.ends in
    (60 ∷ (h.written ++ inner.0), h.is ∙ ap (λ t. 60 ∷ t) (ap (λ t. h.written ++ t) inner.1 ∙ sym (append_assoc h.written inner.0 rest)), λ e. cc)
Begins-suffix markup text (end_tag n) rest h = end_suffix text n rest h
Begins-suffix markup text (characters c) rest h = (text_front text, h.1, h.0)
Begins-suffix markup text (comment c) rest h =
    (codes "<!--" ++ (c ++ codes "-->"), h.1 ∙ ap (λ t. codes "<!--" ++ t) (h.2.is ∙ sym (append_assoc c (codes "-->") rest)), λ e. cc)
Begins-suffix markup text (doctype n p s) rest h =
    let inner = ends_suffix h.more p s h.close h.identifiers in
    let close = EndsTag-suffix false h.close [] rest h.closes in
    let behind : h.more ≡ (inner.0 ++ close.0) ++ rest = inner.1 ∙ ap (λ t. inner.0 ++ t) close.1 ∙ sym (append_assoc inner.0 close.0 rest) in
    let whole : h.word ++ (h.space ++ (h.written ++ h.more)) ≡ (h.word ++ (h.space ++ (h.written ++ (inner.0 ++ close.0)))) ++ rest =
    ap (λ t. h.word ++ (h.space ++ (h.written ++ t))) behind ∙ four h.word h.space h.written (inner.0 ++ close.0) rest in
    (60 ∷ 33 ∷ (h.word ++ (h.space ++ (h.written ++ (inner.0 ++ close.0)))), h.is ∙ ap (λ t. 60 ∷ 33 ∷ t) whole, λ e. cc)
Begins-suffix (text_of name) text (start_tag n a) rest h = absurd h
Begins-suffix (text_of name) text (end_tag n) rest h = end_suffix text name rest h.1
Begins-suffix (text_of name) text (characters c) rest h = (h.0, h.2.is, h.1)
Begins-suffix (text_of name) text (comment c) rest h = absurd h
Begins-suffix (text_of name) text (doctype n p s) rest h = absurd h
Begins-suffix (raw_text_of name) text (start_tag n a) rest h = absurd h
Begins-suffix (raw_text_of name) text (end_tag n) rest h = end_suffix text name rest h.1
Begins-suffix (raw_text_of name) text (characters c) rest h = (c, h.1.is, h.0)
Begins-suffix (raw_text_of name) text (comment c) rest h = absurd h
Begins-suffix (raw_text_of name) text (doctype n p s) rest h = absurd h

pub Begins-shorter : (mode : Mode) (text : List ℕ) (item : Item) (rest : List ℕ) → Begins mode text item rest → length rest < length text
Begins-shorter mode text item rest h =
    let front = Begins-suffix mode text item rest h in
    let some = nonempty front.0 front.2 in
    rw front.1 (simp length-append (omega arith))
  where
    nonempty : (xs : List ℕ) → xs ≢ [] → 0 < length xs
    nonempty [] some = absurd (some refl)
    nonempty (x ∷ xs) some = omega arith
