-- The markup of calm trees, item by item: it is spelled as the tokens of the trees.
use Rattle.std.specs.Prelude.{◌≡◌, ◌≢◌, ◌⊎◌, ℕ, Bool, true, false, not, ◌==◌, ◌&&◌, ◌||◌, List, [], ◌∷◌, ◌++◌, Some, codes, encode_utf8, flat_map, length, map, refl, if◌then◌else◌}
use Rattle.std.specs.List.{list_all}
use Rattle.std.specs.Str.{IsUtf8, chars, encode_utf8_all}
use Rattle.std.specs.Cmp.Derive.{both_true}
use Rattle.std.proofs.Common.{arith}
use Rattle.std.proofs.Math.Utf8.{encode}
use Rattle.std.proofs.lemmas.Bool.{and_parts, eqb-true, or_parts, true≢false}
use Rattle.std.proofs.lemmas.Grind.{flat_map-append}
use Rattle.std.proofs.lemmas.List.{append_assoc, append-nil, map-append}
use Rattle.std.proofs.lemmas.Slice.Eq.{bytes_eq-Decides}
use Rattle.std.proofs.lemmas.Str.{chars_from_encodes, encodes-chars}
use mathlib.Core.Path.{◌∙◌, sym, ap, subst}
use Rattle.calm_pages.proofs.FramedPages.{all_letters}
use Rattle.calm_pages.specs.Calm.{begins_close, has_close}
use Rattle.dom_nodes.specs.Words.{is_among}
use Rattle.dom_markup.specs.Bytes.{is_letter}
use Rattle.dom_markup.specs.Markup.{BeginsEnd, EndsAtTag, begins_markup, text_front}
use Rattle.dom_markup.specs.Names.{Mode, markup, mode_in, raw_text_of, text_of, void_names}
use Rattle.dom_markup.specs.References.{decoded}
use Rattle.dom_markup.specs.ValueTrees.{Attribute, ValueTrees}
use Rattle.dom_markup.specs.ValueTrees.ValueTrees.{text_node}
use Rattle.dom_markup.proofs.plain.PlainRead.{front_ends}
use Rattle.dom_markup.proofs.plain.PlainUtf8.{AsciiFirst}
use Rattle.standard_tokens.specs.PlainMarkup.{Piece, TextKind, Rcdata, Rawtext, Script, Itself, Amp, Lt, Gt, Quot, Nbsp, character, state_of, written_piece}
use Rattle.standard_tokens.specs.Reading.{Feedback, is_switching, plain_feedback, switch_at}
use Rattle.standard_tokens.specs.Tokens.{Token, AChar, AComment, AStart, AnEnd}
use Rattle.standard_agreement.proofs.Telling.{behind_last, no_state}
use Rattle.standard_laws.specs.SpelledMarkup.{SpelledTag, are_letters, are_own, are_pieces, is_lone_in_own, is_own_at, is_own_piece, is_piece, is_spelled_start, is_text_at, lowered, start_token, written_end, written_start}
use Rattle.standard_laws.specs.SpelledPages.{AreAnswered, CommentOf, EndOf, IsAnswered, OwnOf, SpelledItem, StartOf, TextOf, are_spelled, is_spelled, tokens, written}
use Rattle.standard_laws.specs.SpelledParsing.{unslashed}
use Rattle.standard_laws.specs.TreeTokens.{attr_token, start_of}
use Rattle.standard_laws.proofs.ByteChars.{Cut, cut, past}
use Rattle.standard_laws.proofs.CalmChars.{Pieced, Tested, are_calm_chars, front_chars, is_calm_char, pieced, stops, tested_text}
use Rattle.standard_laws.proofs.CalmTags.{IsCalm, SpellsEnd, SpellsStart, calm_cut, calm_is, calm_past, chars_calm}
use Rattle.standard_laws.proofs.Encodings.{chars_are, encodes_chars}
use Rattle.standard_laws.proofs.Kept.{calm_kept, comment_kept, is_kept, kept_parts}

-- ---- items, one after the other

-- the text is spelled as these tokens and then the rest
pub record Spelt (text rest : List ℕ) (ts : List Token) : Type 0 where
  pub items : List SpelledItem
  pub is : chars text ≡ flat_map written items ++ chars rest
  pub passes : are_spelled items (chars rest) ≡ true
  pub answered : (seen : List Token) → AreAnswered (plain_feedback false) seen items
  pub means : map unslashed (flat_map tokens items) ≡ ts
  pub calm : IsCalm rest

pub spelt_none : (text : List ℕ) → IsCalm text → Spelt text text []
spelt_none text calm = record { items = []; is = refl; passes = refl; answered = λ seen. tt; means = refl; calm = calm }

pub spelt_one : (text rest : List ℕ) (item : SpelledItem) (ts : List Token) → chars text ≡ written item ++ chars rest → is_spelled item (chars rest) ≡ true →
    ((seen : List Token) → IsAnswered (plain_feedback false) seen item) → map unslashed (tokens item) ≡ ts → IsCalm rest → Spelt text rest ts
spelt_one text rest item ts is passes answered means calm = record {
  items = item ∷ [];
  is = is ∙ ap (λ (cs : List ℕ). cs ++ chars rest) (sym (append-nil (written item)));
  passes = both_true passes refl;
  answered = λ seen. (answered seen, tt);
  means = ap (map unslashed) (append-nil (tokens item)) ∙ means;
  calm = calm;
}

spelled_both : (xs ys : List SpelledItem) (rest : List ℕ) → are_spelled xs (flat_map written ys ++ rest) ≡ true → are_spelled ys rest ≡ true → are_spelled (xs ++ ys) rest ≡ true
spelled_both [] ys rest h k = k
spelled_both (x ∷ xs) ys rest h k =
    let parts : (is_spelled x (flat_map written xs ++ (flat_map written ys ++ rest)) ≡ true) × (are_spelled xs (flat_map written ys ++ rest) ≡ true) =
    and_parts (is_spelled x (flat_map written xs ++ (flat_map written ys ++ rest))) (are_spelled xs (flat_map written ys ++ rest)) h in
    both_true (subst (λ (cs : List ℕ). is_spelled x cs ≡ true) (sym (append_assoc (flat_map written xs) (flat_map written ys) rest) ∙ ap (λ (cs : List ℕ). cs ++ rest) (sym (flat_map-append written xs ys))) parts.0)
    (spelled_both xs ys rest parts.1 k)

answered_both : (f : Feedback) (seen : List Token) (xs ys : List SpelledItem) → AreAnswered f seen xs → ((before : List Token) → AreAnswered f before ys) → AreAnswered f seen (xs ++ ys)
answered_both f seen [] ys h k = k seen
answered_both f seen (x ∷ xs) ys h k = (h.0, answered_both f (seen ++ tokens x) xs ys h.1 k)

pub spelt_both : (a b c : List ℕ) (ts us : List Token) → Spelt a b ts → Spelt b c us → Spelt a c (ts ++ us)
spelt_both a b c ts us x y = record {
  items = x.items ++ y.items;
  is = x.is ∙ ap (λ (cs : List ℕ). flat_map written x.items ++ cs) y.is ∙ sym (append_assoc (flat_map written x.items) (flat_map written y.items) (chars c))
      ∙ ap (λ (cs : List ℕ). cs ++ chars c) (sym (flat_map-append written x.items y.items));
  passes = spelled_both x.items y.items (chars c) (subst (λ (cs : List ℕ). are_spelled x.items cs ≡ true) y.is x.passes) y.passes;
  answered = λ seen. answered_both (plain_feedback false) seen x.items y.items (x.answered seen) y.answered;
  means = ap (map unslashed) (flat_map-append tokens x.items y.items) ∙ map-append unslashed (flat_map tokens x.items) (flat_map tokens y.items)
      ∙ ap (λ (zs : List Token). zs ++ map unslashed (flat_map tokens y.items)) x.means ∙ ap (λ (zs : List Token). ts ++ zs) y.means;
  calm = y.calm;
}

-- other tokens
pub spelt_as : (a b : List ℕ) (ts us : List Token) → ts ≡ us → Spelt a b ts → Spelt a b us
spelt_as a b ts us is x = subst (Spelt a b) is x

chars_unslashed : (cs : List ℕ) → map unslashed (map AChar cs) ≡ map AChar cs
chars_unslashed [] = refl
chars_unslashed (c ∷ cs) = ap (λ (ts : List Token). AChar c ∷ ts) (chars_unslashed cs)

-- ---- texts

-- a text that is not empty and its tokens
pub record SpeltText (text rest contents : List ℕ) : Type 0 where
  pub spelt : Spelt text rest (map AChar (chars contents))
  pub clean : list_all (λ c. not (c == 0)) (chars contents) ≡ true

-- what follows a text begins markup
record AtMarkup (rest : List ℕ) : Type 0 where
  ascii : AsciiFirst rest
  stop : IsUtf8 rest → stops (chars rest) ≡ true

at_markup : (rest : List ℕ) → rest ≢ [] → text_front rest ≡ [] → AtMarkup rest
at_markup [] some front = absurd (some refl)
at_markup (b ∷ rest) some front = by_markup (begins_markup (b ∷ rest)) refl front
  where
    less : (bs : List ℕ) → begins_markup (b ∷ bs) ≡ true → b ≡ 60
    less [] h = absurd (true≢false (sym h))
    less (c ∷ bs) h = eqb-true b 60 (and_parts (b == 60) _ h).0

    by_markup : (x : Bool) → begins_markup (b ∷ rest) ≡ x → (if x then [] else b ∷ text_front rest) ≡ [] → AtMarkup (b ∷ rest)
    by_markup true m e =
        let is : b ≡ 60 = less rest m in
        record {
          ascii = omega (arith, is);
          stop = λ utf8. subst (λ (cs : List ℕ). stops cs ≡ true) (sym (past b rest (omega (arith, is)) utf8).chars) (subst (λ d. stops (d ∷ chars rest) ≡ true) (sym is) refl);
        }
    by_markup false m e = cc

pub text_spelt : (text rest contents : List ℕ) → text ≡ text_front text ++ rest → contents ≡ decoded (text_front text) → rest ≢ [] → IsCalm text → SpeltText text rest contents
text_spelt text rest contents is reads some calm =
    let front : List ℕ = text_front text in
    let at : AtMarkup rest = at_markup rest some (front_ends text rest is) in
    let whole : IsCalm (front ++ rest) = calm_is text (front ++ rest) is calm in
    let k : Cut front rest = cut front rest whole.utf8 at.ascii in
    let both : chars text ≡ chars front ++ chars rest = ap chars is ∙ k.both in
    let bytes : encode_utf8_all (text_front (chars text)) ≡ front = sym (front_chars (chars text)) ∙ ap text_front (encodes-chars text calm.utf8) in
    let fronts : text_front (chars front ++ chars rest) ≡ chars front = ap text_front (sym both) ∙ chars_from_encodes (text_front (chars text)) front k.own bytes in
    let some_chars : chars rest ≢ [] = λ e. some (sym (encodes-chars rest k.rest) ∙ ap encode_utf8_all e) in
    let calm_both : are_calm_chars (chars front ++ chars rest) ≡ true = ap are_calm_chars (sym both) ∙ chars_calm text calm in
    let p : Pieced is_text_at (chars front) (chars rest) =
    pieced is_text_at (λ after bare. bare) (chars rest) (at.stop k.rest) (length (chars front)) (chars front) (omega arith) (encodes_chars front k.own).scalars calm_both
    (tested_text (chars front) (chars rest) some_chars fronts calm_both) in
    let means : map character p.pieces ≡ chars contents = sym (ap chars reads ∙ ap (λ (bs : List ℕ). chars (decoded bs)) (sym (encodes-chars front k.own)) ∙ chars_are p.means) in
    record {
      spelt = spelt_one text rest (TextOf p.pieces) (map AChar (chars contents)) (both ∙ ap (λ (cs : List ℕ). cs ++ chars rest) (sym p.written)) p.passes (λ seen. tt)
          (chars_unslashed (map character p.pieces) ∙ ap (map AChar) means) (calm_cut front rest whole at.ascii);
      clean = ap (list_all (λ c. not (c == 0))) (sym means) ∙ p.some;
    }

-- ---- comments

pub comment_spelt : (text more contents rest : List ℕ) → text ≡ codes "<!--" ++ more → more ≡ contents ++ (codes "-->" ++ rest) → list_all (λ b. not (b == 62)) contents ≡ true → IsCalm text →
    Spelt text rest (AComment (chars contents) ∷ [])
comment_spelt text more contents rest is ends free calm =
    let a : IsCalm (60 ∷ 33 ∷ 45 ∷ 45 ∷ more) = calm_is text (codes "<!--" ++ more) is calm in
    let b : IsCalm (33 ∷ 45 ∷ 45 ∷ more) = calm_past 60 (33 ∷ 45 ∷ 45 ∷ more) (omega arith) a in
    let c : IsCalm (45 ∷ 45 ∷ more) = calm_past 33 (45 ∷ 45 ∷ more) (omega arith) b in
    let d : IsCalm (45 ∷ more) = calm_past 45 (45 ∷ more) (omega arith) c in
    let e : IsCalm more = calm_past 45 more (omega arith) d in
    let begins : chars text ≡ codes "<!--" ++ chars more =
    ap chars is ∙ (past 60 (33 ∷ 45 ∷ 45 ∷ more) (omega arith) a.utf8).chars
    ∙ ap (λ (cs : List ℕ). 60 ∷ cs) ((past 33 (45 ∷ 45 ∷ more) (omega arith) b.utf8).chars
    ∙ ap (λ (cs : List ℕ). 33 ∷ cs) ((past 45 (45 ∷ more) (omega arith) c.utf8).chars ∙ ap (λ (cs : List ℕ). 45 ∷ cs) (past 45 more (omega arith) d.utf8).chars)) in
    let inner : IsCalm (contents ++ (codes "-->" ++ rest)) = calm_is more (contents ++ (codes "-->" ++ rest)) ends e in
    let k : Cut contents (codes "-->" ++ rest) = cut contents (codes "-->" ++ rest) inner.utf8 (omega arith) in
    let f : IsCalm (45 ∷ 45 ∷ 62 ∷ rest) = calm_cut contents (codes "-->" ++ rest) inner (omega arith) in
    let g : IsCalm (45 ∷ 62 ∷ rest) = calm_past 45 (45 ∷ 62 ∷ rest) (omega arith) f in
    let h : IsCalm (62 ∷ rest) = calm_past 45 (62 ∷ rest) (omega arith) g in
    let close : chars (codes "-->" ++ rest) ≡ codes "-->" ++ chars rest =
    (past 45 (45 ∷ 62 ∷ rest) (omega arith) f.utf8).chars ∙ ap (λ (cs : List ℕ). 45 ∷ cs) ((past 45 (62 ∷ rest) (omega arith) g.utf8).chars ∙ ap (λ (cs : List ℕ). 45 ∷ cs) (past 62 rest (omega arith) h.utf8).chars) in
    let kept : list_all is_kept contents ≡ true = (kept_parts contents (codes "-->" ++ rest) (calm_kept (contents ++ (codes "-->" ++ rest)) inner.calm)).0 in
    spelt_one text rest (CommentOf (chars contents)) (AComment (chars contents) ∷ [])
    (begins ∙ ap (λ (cs : List ℕ). codes "<!--" ++ cs) (ap chars ends ∙ k.both ∙ ap (λ (cs : List ℕ). chars contents ++ cs) close ∙ sym (append_assoc (chars contents) (codes "-->") (chars rest))))
    (comment_kept contents k.own kept free) (λ seen. tt) refl (calm_past 62 rest (omega arith) h)

pub comment_utf8 : (text more contents rest : List ℕ) → text ≡ codes "<!--" ++ more → more ≡ contents ++ (codes "-->" ++ rest) → IsCalm text → IsUtf8 contents
comment_utf8 text more contents rest is ends calm =
    let a : IsCalm (60 ∷ 33 ∷ 45 ∷ 45 ∷ more) = calm_is text (codes "<!--" ++ more) is calm in
    let b : IsCalm (45 ∷ 45 ∷ more) = calm_past 33 (45 ∷ 45 ∷ more) (omega arith) (calm_past 60 (33 ∷ 45 ∷ 45 ∷ more) (omega arith) a) in
    let c : IsCalm more = calm_past 45 more (omega arith) (calm_past 45 (45 ∷ more) (omega arith) b) in
    (cut contents (codes "-->" ++ rest) (calm_is more (contents ++ (codes "-->" ++ rest)) ends c).utf8 (omega arith)).own

-- ---- names

abbrev pub own_mode : TextKind → List ℕ → Mode
own_mode Rcdata name = text_of name
own_mode Rawtext name = raw_text_of name
own_mode Script name = raw_text_of name

-- the text of such an element is read in a state of its own
pub record OwnName (name : List ℕ) : Type 0 where
  pub kind : TextKind
  pub mode : mode_in name ≡ own_mode kind name
  pub switch : switch_at name ≡ Some (state_of kind)
  pub letters : list_all is_letter name ≡ true
  pub some : name ≢ []
  pub unvoid : is_among name void_names ≡ false

-- no end tag and no declaration stands in the text
abbrev pub IsShut : ValueTrees → Type 0
IsShut (text_node contents later) = has_close contents ≡ false
IsShut _ = Unit {0}

-- the content of an element is markup, or a text of its own kind
abbrev pub IsReadAs : List ℕ → ValueTrees → Type 0
IsReadAs name children = ((mode_in name ≡ markup) × (is_switching name ≡ false)) ⊎ (OwnName name × IsShut children)

-- an element of that name
pub record IsFine (name : List ℕ) (children : ValueTrees) : Type 0 where
  pub ascii : chars name ≡ name
  pub read : IsReadAs name children

-- ---- tags

start_unslashed : (name : List ℕ) (attributes : List Attribute) (slash : Bool) → chars name ≡ name → (slash ≡ true → is_among name void_names ≡ true) →
    unslashed (AStart (chars name) (map attr_token attributes) slash) ≡ start_of name attributes
start_unslashed name attributes false ascii h = refl
start_unslashed name attributes true ascii h = ap (λ x. AStart (chars name) (map attr_token attributes) (not x)) (ap (λ n. is_among n void_names) ascii ∙ h refl)

switch_of : (seen : List Token) (name : List ℕ) (tag : SpelledTag) → lowered tag.name ≡ name → (plain_feedback false).switch (seen ++ start_token tag ∷ []) ≡ switch_at name
switch_of seen name tag is = behind_last seen (start_token tag) ∙ ap switch_at is

-- a start tag in markup
pub start_spelt : (text name : List ℕ) (attributes : List Attribute) (rest : List ℕ) → chars name ≡ name → is_switching name ≡ false → SpellsStart text name attributes rest → Spelt text rest (start_of name attributes ∷ [])
start_spelt text name attributes rest ascii still s =
    spelt_one text rest (StartOf s.tag) (start_of name attributes ∷ []) s.is s.passes (λ seen. switch_of seen name s.tag (s.named ∙ ascii) ∙ no_state name still)
    (ap (λ t. unslashed t ∷ []) s.means ∙ ap (λ t. t ∷ []) (start_unslashed name attributes s.tag.slash ascii s.slashed)) s.calm

pub end_spelt : (text name rest : List ℕ) → SpellsEnd text name rest → Spelt text rest (AnEnd (chars name) ∷ [])
end_spelt text name rest s =
    spelt_one text rest (EndOf s.written s.space) (AnEnd (chars name) ∷ []) s.is (both_true s.is_name s.gaps) (λ seen. tt) (ap (λ n. AnEnd n ∷ []) s.named) s.calm

-- ---- texts of their own kind

close_behind : (xs ys : List ℕ) → has_close (xs ++ ys) ≡ false → has_close ys ≡ false
close_behind [] ys h = h
close_behind (x ∷ xs) ys h = close_behind xs ys (or_parts (x == 60 && begins_close (xs ++ ys)) (has_close (xs ++ ys)) h).1

neither : (x y : Bool) → x ≡ false → y ≡ false → (x || y) ≡ false
neither true y h k = h
neither false y h k = k

close_next : (cs : List ℕ) → begins_close (encode_utf8_all cs) ≡ false → begins_close cs ≡ false
unfolding encode
close_next [] h = refl
close_next (d ∷ ds) h = neither (d == 47) (d == 33) (by_slash (d == 47) refl) (by_mark (d == 33) refl)
  where
    by_slash : (x : Bool) → (d == 47) ≡ x → x ≡ false
    by_slash true e = absurd (true≢false (subst (λ c. begins_close (encode_utf8_all (c ∷ ds)) ≡ false) (eqb-true d 47 e) h))
    by_slash false e = refl

    by_mark : (x : Bool) → (d == 33) ≡ x → x ≡ false
    by_mark true e = absurd (true≢false (subst (λ c. begins_close (encode_utf8_all (c ∷ ds)) ≡ false) (eqb-true d 33 e) h))
    by_mark false e = refl

close_chars : (cs : List ℕ) → has_close (encode_utf8_all cs) ≡ false → has_close cs ≡ false
unfolding encode
close_chars [] h = refl
close_chars (c ∷ cs) h = neither (c == 60 && begins_close cs) (has_close cs) (by_less (c == 60) refl) (close_chars cs (close_behind (encode_utf8 c) (encode_utf8_all cs) h))
  where
    by_less : (x : Bool) → (c == 60) ≡ x → (x && begins_close cs) ≡ false
    by_less true e = close_next cs (or_parts (begins_close (encode_utf8_all cs)) (has_close (encode_utf8_all cs)) (subst (λ d. has_close (encode_utf8_all (d ∷ cs)) ≡ false) (eqb-true c 60 e) h)).0
    by_less false e = refl

-- what a text contains as written, it contains as read
begins_read : (pieces : List Piece) → begins_close (map character pieces) ≡ false → begins_close (flat_map written_piece pieces) ≡ false
begins_read [] h = refl
begins_read (Itself c ∷ pieces) h = h
begins_read (Amp ∷ pieces) h = refl
begins_read (Lt ∷ pieces) h = refl
begins_read (Gt ∷ pieces) h = refl
begins_read (Quot ∷ pieces) h = refl
begins_read (Nbsp ∷ pieces) h = refl

close_read : (pieces : List Piece) → has_close (map character pieces) ≡ false → has_close (flat_map written_piece pieces) ≡ false
close_read [] h = refl
close_read (Itself c ∷ pieces) h =
    let parts : ((c == 60 && begins_close (map character pieces)) ≡ false) × (has_close (map character pieces) ≡ false) = or_parts (c == 60 && begins_close (map character pieces)) (has_close (map character pieces)) h in
    neither (c == 60 && begins_close (flat_map written_piece pieces)) (has_close (flat_map written_piece pieces)) (by_less (c == 60) parts.0) (close_read pieces parts.1)
  where
    by_less : (x : Bool) → (x && begins_close (map character pieces)) ≡ false → (x && begins_close (flat_map written_piece pieces)) ≡ false
    by_less true k = begins_read pieces k
    by_less false k = refl
close_read (Amp ∷ pieces) h = close_read pieces h
close_read (Lt ∷ pieces) h = close_read pieces (or_parts (begins_close (map character pieces)) (has_close (map character pieces)) h).1
close_read (Gt ∷ pieces) h = close_read pieces h
close_read (Quot ∷ pieces) h = close_read pieces h
close_read (Nbsp ∷ pieces) h = close_read pieces h

-- a `<` in such a text is itself
lone_own : (cs rest : List ℕ) → begins_close cs ≡ false → is_lone_in_own (cs ++ 60 ∷ rest) ≡ true
lone_own [] rest h = refl
lone_own (c ∷ cs) rest h = let parts : ((c == 47) ≡ false) × ((c == 33) ≡ false) = or_parts (c == 47) (c == 33) h in rw (parts.0, parts.1) refl

tested_own : (kind : TextKind) (cs rest : List ℕ) → has_close cs ≡ false → are_calm_chars (cs ++ 60 ∷ rest) ≡ true → Tested (is_own_at kind) cs (60 ∷ rest)
tested_own kind [] rest shut calm = tt
tested_own kind (c ∷ cs) rest shut calm =
    let k : (is_calm_char c (cs ++ 60 ∷ rest) ≡ true) × (are_calm_chars (cs ++ 60 ∷ rest) ≡ true) = and_parts (is_calm_char c (cs ++ 60 ∷ rest)) (are_calm_chars (cs ++ 60 ∷ rest)) calm in
    let parts : ((c == 60 && begins_close cs) ≡ false) × (has_close cs ≡ false) = or_parts (c == 60 && begins_close cs) (has_close cs) shut in
    ((λ other. by_less (60 == c) refl parts.0 other (rw other at k.0)), tested_own kind cs rest parts.1 k.1)
  where
    by_less : (x : Bool) → (60 == c) ≡ x → (c == 60 && begins_close cs) ≡ false → (38 == c) ≡ false → not (0 == c || 13 == c) ≡ true → is_own_at kind c (cs ++ 60 ∷ rest) ≡ true
    by_less true e h other kept = rw e (lone_own cs rest (subst (λ d. (d == 60 && begins_close cs) ≡ false) (sym (eqb-true 60 c e)) h))
    by_less false e h other kept = rw (e, other) kept

-- such a text, and its characters
record OwnText (kind : TextKind) (cs contents rest : List ℕ) : Type 0 where
  pieces : List Piece
  written : flat_map written_piece pieces ≡ cs
  means : map character pieces ≡ contents
  passes : are_own kind pieces (60 ∷ rest) ≡ true
  clean : list_all (λ c. not (c == 0)) contents ≡ true

-- with references
own_same : (pieces : List Piece) (rest : List ℕ) → are_pieces (is_own_at Rcdata) pieces rest ≡ true → are_own Rcdata pieces rest ≡ true
own_same [] rest h = refl
own_same (piece ∷ pieces) rest h =
    let after : List ℕ = flat_map written_piece pieces ++ rest in
    let parts : (is_piece (is_own_at Rcdata) piece after ≡ true) × (are_pieces (is_own_at Rcdata) pieces rest ≡ true) = and_parts (is_piece (is_own_at Rcdata) piece after) (are_pieces (is_own_at Rcdata) pieces rest) h in
    both_true (one piece after parts.0) (own_same pieces rest parts.1)
  where
    one : (p : Piece) (after : List ℕ) → is_piece (is_own_at Rcdata) p after ≡ true → is_own_piece Rcdata p after ≡ true
    one (Itself c) after h = h
    one Amp after h = refl
    one Lt after h = refl
    one Gt after h = refl
    one Quot after h = refl
    one Nbsp after h = refl

any_passes : (cs rest : List ℕ) → Tested (λ c after. true) cs rest
any_passes [] rest = tt
any_passes (c ∷ cs) rest = ((λ e. refl), any_passes cs rest)

text_own : (front rest : List ℕ) → IsUtf8 front → has_close (decoded front) ≡ false → IsUtf8 (decoded front) → are_calm_chars (chars front ++ 60 ∷ rest) ≡ true → OwnText Rcdata (chars front) (chars (decoded front)) rest
text_own front rest utf8 shut decoded_utf8 calm =
    let cs : List ℕ = chars front in
    let scalars = (encodes_chars front utf8).scalars in
    let reads : decoded (encode_utf8_all cs) ≡ decoded front = ap decoded (encodes-chars front utf8) in
    let any : Pieced (λ c after. true) cs (60 ∷ rest) = pieced (λ c after. true) (λ after bare. refl) (60 ∷ rest) refl (length cs) cs (omega arith) scalars calm (any_passes cs (60 ∷ rest)) in
    let read : map character any.pieces ≡ chars (decoded front) = sym (ap chars (sym reads) ∙ chars_are any.means) in
    let shut_read : has_close (map character any.pieces) ≡ false = ap has_close read ∙ close_chars (chars (decoded front)) (ap has_close (encodes-chars (decoded front) decoded_utf8) ∙ shut) in
    let shut_written : has_close cs ≡ false = ap has_close (sym any.written) ∙ close_read any.pieces shut_read in
    let p : Pieced (is_own_at Rcdata) cs (60 ∷ rest) = pieced (is_own_at Rcdata) (λ after bare. bare) (60 ∷ rest) refl (length cs) cs (omega arith) scalars calm (tested_own Rcdata cs rest shut_written calm) in
    let means : map character p.pieces ≡ chars (decoded front) = sym (ap chars (sym reads) ∙ chars_are p.means) in
    record { pieces = p.pieces; written = p.written; means = means; passes = own_same p.pieces (60 ∷ rest) p.passes; clean = ap (list_all (λ c. not (c == 0))) (sym means) ∙ p.some }

-- without references
itself_written : (cs : List ℕ) → flat_map written_piece (map Itself cs) ≡ cs
itself_written [] = refl
itself_written (c ∷ cs) = ap (λ (ds : List ℕ). c ∷ ds) (itself_written cs)

itself_means : (cs : List ℕ) → map character (map Itself cs) ≡ cs
itself_means [] = refl
itself_means (c ∷ cs) = ap (λ (ds : List ℕ). c ∷ ds) (itself_means cs)

abbrev IsRaw : TextKind → Type 0
IsRaw kind = (after : List ℕ) → is_own_at kind 38 after ≡ true

raw_passes : (kind : TextKind) → IsRaw kind → (cs rest : List ℕ) → Tested (is_own_at kind) cs rest → are_own kind (map Itself cs) rest ≡ true
raw_passes kind raw [] rest tested = refl
raw_passes kind raw (c ∷ cs) rest tested = both_true (subst (λ (ds : List ℕ). is_own_at kind c (ds ++ rest) ≡ true) (sym (itself_written cs)) (by_amp (38 == c) refl)) (raw_passes kind raw cs rest tested.1)
  where
    by_amp : (x : Bool) → (38 == c) ≡ x → is_own_at kind c (cs ++ rest) ≡ true
    by_amp true e = subst (λ d. is_own_at kind d (cs ++ rest) ≡ true) (eqb-true 38 c e) (raw (cs ++ rest))
    by_amp false e = tested.0 e

calm_clean : (cs rest : List ℕ) → are_calm_chars (cs ++ rest) ≡ true → list_all (λ c. not (c == 0)) cs ≡ true
calm_clean [] rest h = refl
calm_clean (c ∷ cs) rest h = both_true (by_null (c == 0) refl) (calm_clean cs rest (and_parts (is_calm_char c (cs ++ rest)) (are_calm_chars (cs ++ rest)) h).1)
  where
    by_null : (x : Bool) → (c == 0) ≡ x → not x ≡ true
    by_null true e = absurd (true≢false (sym (subst (λ d. is_calm_char d (cs ++ rest) ≡ true) (eqb-true c 0 e) (and_parts (is_calm_char c (cs ++ rest)) (are_calm_chars (cs ++ rest)) h).0)))
    by_null false e = refl

raw_own : (kind : TextKind) → IsRaw kind → (front rest : List ℕ) → IsUtf8 front → has_close front ≡ false → are_calm_chars (chars front ++ 60 ∷ rest) ≡ true → OwnText kind (chars front) (chars front) rest
raw_own kind raw front rest utf8 shut calm =
    let shut_chars : has_close (chars front) ≡ false = close_chars (chars front) (ap has_close (encodes-chars front utf8) ∙ shut) in
    record {
      pieces = map Itself (chars front);
      written = itself_written (chars front);
      means = itself_means (chars front);
      passes = raw_passes kind raw (chars front) (60 ∷ rest) (tested_own kind (chars front) rest shut_chars calm);
      clean = calm_clean (chars front) (60 ∷ rest) calm;
    }

-- ---- elements with such a text

letters_of : (written name : List ℕ) → lowered written ≡ name → list_all is_letter name ≡ true → name ≢ [] → are_letters written ≡ true
letters_of [] name is h some = absurd (some (sym is))
letters_of (c ∷ cs) name is h some = all_letters (c ∷ cs) (ap (list_all is_letter) is ∙ h)

-- the start tag, the text and the end tag
pub own_spelt : (text name : List ℕ) (attributes : List Attribute) (middle close rest : List ℕ) (contents : List ℕ) → chars name ≡ name → (o : OwnName name) → SpellsStart text name attributes middle →
    SpellsEnd close name rest → (pieces : List Piece) → chars middle ≡ flat_map written_piece pieces ++ chars close → map character pieces ≡ contents → are_own o.kind pieces (chars close) ≡ true →
    Spelt text rest (start_of name attributes ∷ (map AChar contents ++ AnEnd (chars name) ∷ []))
own_spelt text name attributes middle close rest contents ascii o s e pieces is means passes =
    let more : List ℕ = written_end e.written e.space ++ chars rest in
    let whole : chars middle ≡ flat_map written_piece pieces ++ more = is ∙ ap (λ (cs : List ℕ). flat_map written_piece pieces ++ cs) e.is in
    spelt_one text rest (OwnOf o.kind s.tag pieces e.written e.space) (start_of name attributes ∷ (map AChar contents ++ AnEnd (chars name) ∷ []))
    (s.is ∙ ap (λ (cs : List ℕ). written_start s.tag ++ cs) (whole ∙ sym (append_assoc (flat_map written_piece pieces) (written_end e.written e.space) (chars rest)))
    ∙ sym (append_assoc (written_start s.tag) (flat_map written_piece pieces ++ written_end e.written e.space) (chars rest)))
    (both_true (subst (λ (cs : List ℕ). is_spelled_start s.tag cs ≡ true) whole s.passes)
    (both_true (both_true ((bytes_eq-Decides (lowered e.written) (lowered s.tag.name)).1 (e.named ∙ sym s.named)) (letters_of e.written name (e.named ∙ ascii) o.letters o.some))
    (both_true e.gaps (subst (λ (cs : List ℕ). are_own o.kind pieces cs ≡ true) e.is passes))))
    (λ seen. switch_of seen name s.tag (s.named ∙ ascii) ∙ o.switch)
    (ap (λ t. unslashed t ∷ map unslashed (map AChar (map character pieces) ++ AnEnd (lowered e.written) ∷ [])) s.means
    ∙ ap (λ t. t ∷ map unslashed (map AChar (map character pieces) ++ AnEnd (lowered e.written) ∷ [])) (start_unslashed name attributes s.tag.slash ascii s.slashed)
    ∙ ap (λ ts. start_of name attributes ∷ ts) (map-append unslashed (map AChar (map character pieces)) (AnEnd (lowered e.written) ∷ [])
    ∙ ap (λ ts. ts ++ AnEnd (lowered e.written) ∷ []) (chars_unslashed (map character pieces) ∙ ap (map AChar) means) ∙ ap (λ n. map AChar contents ++ AnEnd n ∷ []) e.named))
    e.calm

-- an end tag begins with `<`
pub record AtEnd (rest : List ℕ) : Type 0 where
  pub more : List ℕ
  pub is : rest ≡ 60 ∷ more
  pub chars : chars rest ≡ 60 ∷ chars more

pub at_end : (rest name after : List ℕ) → BeginsEnd rest name after → IsUtf8 rest → AtEnd rest
at_end rest name after b utf8 =
    let more : List ℕ = 47 ∷ (b.written ++ (b.space ++ (62 ∷ after))) in
    record { more = more; is = b.is; chars = ap chars b.is ∙ (past 60 more (omega arith) (subst IsUtf8 b.is utf8)).chars }

-- what stands between the tags: the text in front of the end tag
pub record OwnContent (kind : TextKind) (middle contents close : List ℕ) : Type 0 where
  pub pieces : List Piece
  pub is : chars middle ≡ flat_map written_piece pieces ++ chars close
  pub means : map character pieces ≡ chars contents
  pub passes : are_own kind pieces (chars close) ≡ true
  pub clean : list_all (λ c. not (c == 0)) (chars contents) ≡ true
  pub calm : IsCalm close

content_of : (kind : TextKind) (middle front contents close name after : List ℕ) → EndsAtTag name middle front close → IsCalm middle →
    ((more : List ℕ) → IsUtf8 front → are_calm_chars (chars front ++ 60 ∷ chars more) ≡ true → OwnText kind (chars front) (chars contents) (chars more)) → OwnContent kind middle contents close
content_of kind middle front contents close name after at calm made =
    let whole : IsCalm (front ++ close) = calm_is middle (front ++ close) at.is calm in
    let ascii : AsciiFirst close = subst AsciiFirst (sym at.ends.is) (omega arith) in
    let k : Cut front close = cut front close whole.utf8 ascii in
    let e : AtEnd close = at_end close name at.after at.ends k.rest in
    let both : chars middle ≡ chars front ++ chars close = ap chars at.is ∙ k.both in
    let o : OwnText kind (chars front) (chars contents) (chars e.more) = made e.more k.own (ap are_calm_chars (ap (λ (cs : List ℕ). chars front ++ cs) (sym e.chars) ∙ sym both) ∙ chars_calm middle calm) in
    record {
      pieces = o.pieces;
      is = both ∙ ap (λ (cs : List ℕ). cs ++ chars close) (sym o.written);
      means = o.means;
      passes = subst (λ (cs : List ℕ). are_own kind o.pieces cs ≡ true) (sym e.chars) o.passes;
      clean = o.clean;
      calm = calm_cut front close whole ascii;
    }

pub text_content : (middle front close name : List ℕ) → EndsAtTag name middle front close → IsCalm middle → has_close (decoded front) ≡ false → IsUtf8 (decoded front) → OwnContent Rcdata middle (decoded front) close
text_content middle front close name at calm shut utf8 =
    content_of Rcdata middle front (decoded front) close name [] at calm (λ more own calm_both. text_own front (chars more) own shut utf8 calm_both)

pub raw_content : (kind : TextKind) → IsRaw kind → (middle front close name : List ℕ) → EndsAtTag name middle front close → IsCalm middle → has_close front ≡ false → OwnContent kind middle front close
raw_content kind raw middle front close name at calm shut =
    content_of kind middle front front close name [] at calm (λ more own calm_both. raw_own kind raw front (chars more) own shut calm_both)
