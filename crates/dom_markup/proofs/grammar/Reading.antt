-- A text begins with one item at most.
use Rattle.std.proofs.Common.{◌≡◌, ◌≢◌, ◌<◌, ℕ, List, [], ◌∷◌, ◌++◌, Bool, true, false, not, drop, length, length-append, refl, sym, ap, ◌∙◌, subst, arith, append_assoc, inl, inr}
use Rattle.std.specs.Prelude.{codes, ◌==◌, ◌||◌, MatchBool, ◌⊎◌}
use Rattle.std.specs.List.{list_all}
use Rattle.std.proofs.lemmas.Bool.{true≢false, and_parts, eqb-true, eq-eqb, ne_eqb}
use Rattle.dom_markup.specs.Bytes.{is_whitespace, is_letter, is_name_byte, folded}
use Rattle.dom_nodes.specs.Words.{is_among}
use Rattle.dom_markup.specs.Names.{markup, void_names}
use Rattle.dom_markup.specs.References.{decoded}
use Rattle.dom_markup.specs.ValueTrees.{Attribute}
use Rattle.dom_markup.specs.Markup.{IsSpace, EndsAtByte, after_space, is_bare_byte, Fails, BeginsValue, begins_equals, HasValue, IsTagName, NamesElement, BeginsAttribute, BeginsNoAttribute, Closes, EndsTag, BeginsStart, BeginsEnd, EndsAtMark, Begins, begins_markup, kept_after}
use Rattle.dom_markup.specs.Markup.Item.{comment}
use Rattle.dom_markup.specs.Refusals.{BeginsNoStart, EndsInSlash}
use Rattle.dom_markup.specs.ByteClasses.{Splits, SameEnd, begins_space}
use Rattle.dom_markup.proofs.grammar.Spans.{span_same, letter-name, space-name, name-space}

-- a non-empty front of name bytes begins with no whitespace
pub name_no_space : (name rest : List ℕ) → name ≢ [] → list_all is_name_byte name ≡ true → Fails is_whitespace (name ++ rest)
name_no_space [] rest some all = absurd (some refl)
name_no_space (b ∷ bs) rest some all = name-space b (and_parts (is_name_byte b) (list_all is_name_byte bs) all).0

-- a non-empty front of whitespace begins with no name byte
pub space_no_name : (space rest : List ℕ) → space ≢ [] → list_all is_whitespace space ≡ true → Fails is_name_byte (space ++ rest)
space_no_name [] rest some all = absurd (some refl)
space_no_name (b ∷ bs) rest some all = space-name b (and_parts (is_whitespace b) (list_all is_whitespace bs) all).0

-- the whitespace at the front and what follows it
pub after_span : (space behind : List ℕ) → IsSpace space → Fails is_whitespace behind → after_space (space ++ behind) ≡ behind
after_span [] [] a f = refl
after_span [] (b ∷ bs) a f = rw f refl
after_span (x ∷ xs) behind a f =
    let parts = and_parts (is_whitespace x) (list_all is_whitespace xs) a in
    rw parts.0 (after_span xs behind parts.1 f)

pub after_split : (text space behind : List ℕ) → Splits is_whitespace text space behind → after_space text ≡ behind
after_split text space behind s = ap after_space s.is ∙ after_span space behind s.passes s.fails

pub space_before : (text : List ℕ) → (space : List ℕ) × (text ≡ space ++ after_space text)
space_before [] = ([], refl)
space_before (b ∷ bs) = go (space_before bs) (is_whitespace b) refl
  where
    go : (space : List ℕ) × (bs ≡ space ++ after_space bs) → (c : Bool) → is_whitespace b ≡ c → (space : List ℕ) × (b ∷ bs ≡ space ++ after_space (b ∷ bs))
    go more true e = (b ∷ more.0, rw e (ap (λ t. b ∷ t) more.1))
    go more false e = ([], rw e refl)

pub equals_first : (text : List ℕ) → begins_equals text ≡ true → text ≡ 61 ∷ drop 1 text
equals_first [] h = cc
equals_first (b ∷ bs) h = ap (λ (x : ℕ). x ∷ bs) (eqb-true b 61 h)

pub not_itself : (c : ℕ) → not (c == c) ≡ false
not_itself c = rw (eq-eqb c c refl) refl

value_same : (text w v r s : List ℕ) → BeginsValue text w r → BeginsValue text v s → (w ≡ v) × (r ≡ s)
value_same [] w v r s p q = absurd p
value_same (c ∷ more) w v r s p q = go (c == 34 || c == 39) p q
  where
    go : (b : Bool) →
        MatchBool b ((list_all (λ b. not (b == c)) w ≡ true) × (more ≡ w ++ c ∷ r)) ((c ∷ more ≡ w ++ r) × (w ≢ []) × (list_all is_bare_byte w ≡ true) × Fails is_bare_byte r) →
        MatchBool b ((list_all (λ b. not (b == c)) v ≡ true) × (more ≡ v ++ c ∷ s)) ((c ∷ more ≡ v ++ s) × (v ≢ []) × (list_all is_bare_byte v ≡ true) × Fails is_bare_byte s) → (w ≡ v) × (r ≡ s)
    go true p q =
        let same = span_same (λ b. not (b == c)) w (c ∷ r) v (c ∷ s) p.0 (not_itself c) q.0 (not_itself c) (sym p.1 ∙ q.1) in
        (same.0, cc (same.1))
    go false p q = span_same is_bare_byte w r v s p.2 p.3 q.2 q.3 (sym p.0 ∙ q.0)

has_value_same : (after a b r s : List ℕ) → HasValue after a r → HasValue after b s → (a ≡ b) × (r ≡ s)
has_value_same after a b r s p q = go (begins_equals (after_space after)) p q
  where
    go : (t : Bool) →
        MatchBool t ((w : List ℕ) × BeginsValue (after_space (drop 1 (after_space after))) w r × (a ≡ decoded w)) ((a ≡ []) × (r ≡ after)) →
        MatchBool t ((w : List ℕ) × BeginsValue (after_space (drop 1 (after_space after))) w s × (b ≡ decoded w)) ((b ≡ []) × (s ≡ after)) → (a ≡ b) × (r ≡ s)
    go true p q =
        let same = value_same (after_space (drop 1 (after_space after))) p.0 q.0 r s p.1 q.1 in
        (p.2 ∙ ap decoded same.0 ∙ sym q.2, same.1)
    go false p q = (p.0 ∙ sym q.0, p.1 ∙ sym q.1)

-- a byte that is no quote
unquoted : (c : ℕ) (more : List ℕ) → ((r : List ℕ) → c ∷ more ≡ 34 ∷ r → ⊥) → ((r : List ℕ) → c ∷ more ≡ 39 ∷ r → ⊥) → (c == 34 || c == 39) ≡ false
unquoted c more a b =
    let one : (c == 34) ≡ false = ne_eqb c 34 (λ e. a more (ap (λ (x : ℕ). x ∷ more) e)) in
    let two : (c == 39) ≡ false = ne_eqb c 39 (λ e. b more (ap (λ (x : ℕ). x ∷ more) e)) in
    rw (one, two) refl

-- where a value stands, and where none can
no_equals : (text : List ℕ) → ((r : List ℕ) → text ≡ 61 ∷ r → ⊥) → begins_equals text ≡ false
no_equals [] h = refl
no_equals (b ∷ bs) h = go (b == 61) refl
  where
    go : (c : Bool) → (b == 61) ≡ c → c ≡ false
    go true e = absurd (h bs (ap (λ (x : ℕ). x ∷ bs) (eqb-true b 61 e)))
    go false e = refl

pub value_none : (after space equals : List ℕ) → Splits is_whitespace after space equals → ((r : List ℕ) → equals ≡ 61 ∷ r → ⊥) → HasValue after [] after
value_none after space equals s none = rw (after_split after space equals s, no_equals equals none) (refl, refl)

pub value_some : (after space equals behind gap text w r : List ℕ) → Splits is_whitespace after space equals → equals ≡ 61 ∷ behind → Splits is_whitespace behind gap text → BeginsValue text w r → HasValue after (decoded w) r
value_some after space equals behind gap text w r s is g b = rw (after_split after space equals s, is, after_split behind gap text g) (w, b, refl)

pub value_from : (after space equals behind gap text v r : List ℕ) → Splits is_whitespace after space equals → equals ≡ 61 ∷ behind → Splits is_whitespace behind gap text → HasValue after v r → (w : List ℕ) × BeginsValue text w r
value_from after space equals behind gap text v r s is g h =
    let moved = rw (after_split after space equals s, is, after_split behind gap text g) at h in
    (moved.0, moved.1)

-- a value that no quote begins is bare
pub bare_none : (text bare rest : List ℕ) → ((r : List ℕ) → text ≡ 34 ∷ r → ⊥) → ((r : List ℕ) → text ≡ 39 ∷ r → ⊥) → Splits is_bare_byte text bare rest → bare ≡ [] → (w r : List ℕ) → BeginsValue text w r → ⊥
bare_none [] bare rest a b s e w r h = h
bare_none (c ∷ more) bare rest a b s e w r h =
    let plain = unquoted c more a b in
    let moved = rw plain at h in
    let same = span_same is_bare_byte bare rest w r s.passes s.fails moved.2 moved.3 (sym s.is ∙ moved.0) in
    moved.1 (sym same.0 ∙ e)

pub bare_some : (text bare rest : List ℕ) → ((r : List ℕ) → text ≡ 34 ∷ r → ⊥) → ((r : List ℕ) → text ≡ 39 ∷ r → ⊥) → Splits is_bare_byte text bare rest → bare ≢ [] → BeginsValue text bare rest
bare_some [] bare rest a b s some = absurd (some (none bare rest s.is))
  where
    none : (xs ys : List ℕ) → [] ≡ xs ++ ys → xs ≡ []
    none [] ys e = refl
    none (x ∷ xs) ys e = cc
bare_some (c ∷ more) bare rest a b s some = rw (unquoted c more a b) (s.is, some, s.passes, s.fails)

attribute_is : (a b : Attribute) → a.name ≡ b.name → a.value ≡ b.value → a ≡ b
attribute_is a b e f = ap (λ (n : List ℕ). record { name = n; value = a.value }) e ∙ ap (λ (v : List ℕ). record { name = b.name; value = v }) f

pub attribute_same : (text : List ℕ) (a b : Attribute) (r s : List ℕ) → BeginsAttribute text a r → BeginsAttribute text b s → (a ≡ b) × (r ≡ s)
attribute_same text a b r s p q =
    let space = span_same is_whitespace p.space _ q.space _ p.is_space (name_no_space p.name _ p.some_name p.is_name) q.is_space (name_no_space q.name _ q.some_name q.is_name) (sym p.is ∙ q.is) in
    let name = span_same is_name_byte p.name p.after q.name q.after p.is_name p.whole_name q.is_name q.whole_name space.1 in
    let moved : HasValue p.after b.value s = subst (λ (t : List ℕ). HasValue t b.value s) (sym name.1) q.valued in
    let value = has_value_same p.after a.value b.value r s p.valued moved in
    let names : a.name ≡ b.name = p.folds ∙ ap folded name.0 ∙ sym q.folds in
    (attribute_is a b names value.0, value.1)

-- ---- the end of a tag

pub close_same : (slash : Bool) (text r s : List ℕ) → Closes slash text r → Closes slash text s → r ≡ s
close_same slash text r s (a, p, inl e) (b, q, inl f) = let same = span_same is_whitespace a (62 ∷ r) b (62 ∷ s) p refl q refl (sym e ∙ f) in cc (same.1)
close_same slash text r s (a, p, inl e) (b, q, inr f) = let same = span_same is_whitespace a (62 ∷ r) b (47 ∷ 62 ∷ s) p refl q refl (sym e ∙ f.1) in cc (same.1)
close_same slash text r s (a, p, inr e) (b, q, inl f) = let same = span_same is_whitespace a (47 ∷ 62 ∷ r) b (62 ∷ s) p refl q refl (sym e.1 ∙ f) in cc (same.1)
close_same slash text r s (a, p, inr e) (b, q, inr f) = let same = span_same is_whitespace a (47 ∷ 62 ∷ r) b (47 ∷ 62 ∷ s) p refl q refl (sym e.1 ∙ f.1) in cc (same.1)

-- no name begins with another byte
pub name_first : (x : ℕ) (r name rest : List ℕ) → is_name_byte x ≡ false → name ≢ [] → list_all is_name_byte name ≡ true → x ∷ r ≡ name ++ rest → ⊥
name_first x r [] rest other some all e = some refl
name_first x r (n ∷ ns) rest other some all e =
    let is : x ≡ n = cc in
    true≢false (sym (and_parts (is_name_byte n) (list_all is_name_byte ns) all).0 ∙ ap is_name_byte (sym is) ∙ other)

no_end : (slash : Bool) (text r : List ℕ) (b : Attribute) (s : List ℕ) → Closes slash text r → BeginsAttribute text b s → ⊥
no_end slash text r b s (a, p, inl e) q =
    let space = span_same is_whitespace a (62 ∷ r) q.space _ p refl q.is_space (name_no_space q.name _ q.some_name q.is_name) (sym e ∙ q.is) in
    name_first 62 r q.name q.after refl q.some_name q.is_name space.1
no_end slash text r b s (a, p, inr e) q =
    let space = span_same is_whitespace a (47 ∷ 62 ∷ r) q.space _ p refl q.is_space (name_no_space q.name _ q.some_name q.is_name) (sym e.1 ∙ q.is) in
    name_first 47 (62 ∷ r) q.name q.after refl q.some_name q.is_name space.1

pub EndsTag-same : (slash : Bool) (text : List ℕ) (cs ds : List Attribute) (r s : List ℕ) → EndsTag slash text cs r → EndsTag slash text ds s → (cs ≡ ds) × (r ≡ s)
EndsTag-same slash text [] [] r s p q = (refl, close_same slash text r s p q)
EndsTag-same slash text [] (b ∷ ds) r s p q = absurd (no_end slash text r b q.0 p q.1)
EndsTag-same slash text (a ∷ cs) [] r s p q = absurd (no_end slash text s a p.0 q p.1)
EndsTag-same slash text (a ∷ cs) (b ∷ ds) r s p q =
    let first = attribute_same text a b p.0 q.0 p.1 q.1 in
    let moved : EndsTag slash p.0 ds s = subst (λ (t : List ℕ). EndsTag slash t ds s) (sym first.1) q.2 in
    let more = EndsTag-same slash p.0 cs ds r s p.2 moved in
    (cc (first.0, more.0), more.1)

space_then : (space : List ℕ) (x : ℕ) (r : List ℕ) → IsSpace space → is_name_byte x ≡ false → Fails is_name_byte (space ++ (x ∷ r))
space_then [] x r all other = other
space_then (b ∷ bs) x r all other = space_no_name (b ∷ bs) (x ∷ r) (λ e. cc) all

close_fails : (slash : Bool) (text r : List ℕ) → Closes slash text r → Fails is_name_byte text
close_fails slash text r (a, p, inl e) = subst (Fails is_name_byte) (sym e) (space_then a 62 r p refl)
close_fails slash text r (a, p, inr e) = subst (Fails is_name_byte) (sym e.1) (space_then a 47 (62 ∷ r) p refl)

pub EndsTag-fails : (slash : Bool) (text : List ℕ) (cs : List Attribute) (r : List ℕ) → EndsTag slash text cs r → Fails is_name_byte text
EndsTag-fails slash text [] r p = close_fails slash text r p
EndsTag-fails slash text (a ∷ cs) r p = subst (Fails is_name_byte) (sym p.1.is) (space_no_name p.1.space _ p.1.some_space p.1.is_space)

tag_name_bytes : (w : List ℕ) → IsTagName w → list_all is_name_byte w ≡ true
tag_name_bytes [] h = absurd h
tag_name_bytes (b ∷ bs) h = rw (letter-name b h.0) h.1

-- no tag name begins with a byte that is no letter
pub no_letter : (x : ℕ) (w more rest : List ℕ) → is_letter x ≡ false → IsTagName w → x ∷ rest ≡ w ++ more → ⊥
no_letter x [] more rest other h e = absurd h
no_letter x (b ∷ bs) more rest other h e =
    let is : x ≡ b = cc in
    true≢false (sym h.0 ∙ ap is_letter (sym is) ∙ other)

pub start_markup : (text n : List ℕ) (a : List Attribute) (r : List ℕ) → BeginsStart text n a r → begins_markup text ≡ true
start_markup text n a r h = rw h.is (go h.written h.names.0)
  where
    go : (w : List ℕ) → IsTagName w → begins_markup (60 ∷ (w ++ h.more)) ≡ true
    go [] t = absurd t
    go (b ∷ bs) t = rw t.0 refl

pub end_markup : (text n r : List ℕ) → BeginsEnd text n r → begins_markup text ≡ true
end_markup text n r h = rw h.is refl

-- the bytes at the front
pub behind_first : (x : ℕ) (text xs ys : List ℕ) → text ≡ x ∷ xs → text ≡ x ∷ ys → xs ≡ ys
behind_first x text xs ys e f = let g : x ∷ xs ≡ x ∷ ys = sym e ∙ f in cc

pub second_same : (text : List ℕ) (x y : ℕ) (xs ys : List ℕ) → text ≡ 60 ∷ x ∷ xs → text ≡ 60 ∷ y ∷ ys → x ≡ y
second_same text x y xs ys e f = let g : x ∷ xs ≡ y ∷ ys = behind_first 60 text (x ∷ xs) (y ∷ ys) e f in cc

pub other_second : (text : List ℕ) (x y : ℕ) (xs ys : List ℕ) → text ≡ 60 ∷ x ∷ xs → text ≡ 60 ∷ y ∷ ys → (x == y) ≡ false → ⊥
other_second text x y xs ys e f differ = true≢false (sym (eq-eqb x y (second_same text x y xs ys e f)) ∙ differ)

pub start_same : (text n m : List ℕ) (a b : List Attribute) (r s : List ℕ) → BeginsStart text n a r → BeginsStart text m b s → (n ≡ m) × (a ≡ b) × (r ≡ s)
start_same text n m a b r s p q =
    let both : p.written ++ p.more ≡ q.written ++ q.more = behind_first 60 text _ _ p.is q.is in
    let name = span_same is_name_byte p.written p.more q.written q.more (tag_name_bytes p.written p.names.0) (EndsTag-fails _ p.more p.all r p.ends) (tag_name_bytes q.written q.names.0) (EndsTag-fails _ q.more q.all s q.ends) both in
    let names : n ≡ m = p.names.1 ∙ ap folded name.0 ∙ sym q.names.1 in
    let slash = is_among n void_names in
    let moved : EndsTag slash p.more q.all s = subst (λ (t : List ℕ). EndsTag slash t q.all s) (sym name.1) (subst (λ (k : List ℕ). EndsTag (is_among k void_names) q.more q.all s) (sym names) q.ends) in
    let more = EndsTag-same slash p.more p.all q.all r s p.ends moved in
    (names, p.kept ∙ ap (kept_after []) more.0 ∙ sym q.kept, more.1)

pub end_same : (text n m r s : List ℕ) → BeginsEnd text n r → BeginsEnd text m s → (n ≡ m) × (r ≡ s)
end_same text n m r s p q =
    let both : p.written ++ (p.space ++ (62 ∷ r)) ≡ q.written ++ (q.space ++ (62 ∷ s)) = behind_first 47 _ _ _ refl (behind_first 60 text _ _ p.is q.is) in
    let name = span_same is_name_byte p.written _ q.written _ (tag_name_bytes p.written p.names.0) (space_then p.space 62 r p.is_space refl) (tag_name_bytes q.written q.names.0) (space_then q.space 62 s q.is_space refl) both in
    let space = span_same is_whitespace p.space _ q.space _ p.is_space refl q.is_space refl name.1 in
    (p.names.1 ∙ ap folded name.0 ∙ sym q.names.1, cc (space.1))

pub start_end : (text n m : List ℕ) (a : List Attribute) (r s : List ℕ) → BeginsStart text n a r → BeginsEnd text m s → ⊥
start_end text n m a r s p q =
    let e : 47 ∷ (q.written ++ (q.space ++ (62 ∷ s))) ≡ p.written ++ p.more = behind_first 60 text _ _ q.is p.is in
    no_letter 47 p.written p.more _ refl p.names.0 e

pub behind_same : (xs r s : List ℕ) → xs ++ r ≡ xs ++ s → r ≡ s
behind_same [] r s e = e
behind_same (x ∷ xs) r s e = behind_same xs r s (cc)

-- ---- comments

pub behind_less : (xs ys zs ws : List ℕ) → xs ++ ys ≡ zs ++ ws → length xs ≡ length zs → (xs ≡ zs) × (ys ≡ ws)
behind_less [] ys [] ws e l = (refl, e)
behind_less [] ys (z ∷ zs) ws e l = absurd (omega arith)
behind_less (x ∷ xs) ys [] ws e l = absurd (omega arith)
behind_less (x ∷ xs) ys (z ∷ zs) ws e l =
    let more = behind_less xs ys zs ws (cc) (omega arith) in
    let first : x ≡ z = cc in
    (cc (first, more.0), more.1)

pub mark_same : (mark text a b r s : List ℕ) → EndsAtMark mark text a r → EndsAtMark mark text b s → (a ≡ b) × (r ≡ s)
mark_same mark text a b r s p q =
    let one = p.first b s q.is in
    let two = q.first a r p.is in
    let same = behind_less a (mark ++ r) b (mark ++ s) (sym p.is ∙ q.is) (omega arith) in
    (same.0, behind_same mark r s same.1)

pub comment_behind : (text xs ys : List ℕ) → text ≡ codes "<!--" ++ xs → text ≡ codes "<!--" ++ ys → xs ≡ ys
comment_behind text xs ys e f = let g : codes "<!--" ++ xs ≡ codes "<!--" ++ ys = sym e ∙ f in behind_same (codes "<!--") xs ys g

pub comment_markup : (text c r : List ℕ) → Begins markup text (comment c) r → begins_markup text ≡ true
comment_markup text c r h = rw h.1 refl

pub comment_start : (text n c : List ℕ) (a : List Attribute) (r s : List ℕ) → BeginsStart text n a r → Begins markup text (comment c) s → ⊥
comment_start text n c a r s p q =
    let e : 33 ∷ 45 ∷ 45 ∷ q.0 ≡ p.written ++ p.more = behind_first 60 text _ _ q.1 p.is in
    no_letter 33 p.written p.more _ refl p.names.0 e

pub comment_end : (text n c r s : List ℕ) → BeginsEnd text n r → Begins markup text (comment c) s → ⊥
comment_end text n c r s p q = other_second text 47 33 _ _ p.is q.1 refl

-- ---- what the splits of a text show

-- what a split of the text's front says of the attribute there
pub record Shape (space name behind : List ℕ) (attribute : Attribute) (rest : List ℕ) : Type 0 where
  pub some_space : space ≢ []
  pub some_name : name ≢ []
  pub valued : HasValue behind attribute.value rest

pub attribute_shape : (text space inner name behind : List ℕ) (a : Attribute) (rest : List ℕ) → Splits is_whitespace text space inner → Splits is_name_byte inner name behind → BeginsAttribute text a rest → Shape space name behind a rest
attribute_shape text space inner name behind a rest s n h =
    let first = span_same is_whitespace space inner h.space _ s.passes s.fails h.is_space (name_no_space h.name _ h.some_name h.is_name) (sym s.is ∙ h.is) in
    let second = span_same is_name_byte name behind h.name h.after n.passes n.fails h.is_name h.whole_name (sym n.is ∙ first.1) in
    record { some_space = λ e. h.some_space (sym first.0 ∙ e); some_name = λ e. h.some_name (sym second.0 ∙ e); valued = subst (λ (t : List ℕ). HasValue t a.value rest) (sym second.1) h.valued }

-- an attribute of a name and a value stands there
pub attribute_made : (text space inner name behind value rest : List ℕ) → Splits is_whitespace text space inner → Splits is_name_byte inner name behind → space ≢ [] → name ≢ [] → HasValue behind value rest →
    BeginsAttribute text (record { name = folded name; value = value }) rest
attribute_made text space inner name behind value rest s n some_space some_name valued = record {
  space = space;
  name = name;
  after = behind;
  is = s.is ∙ ap (λ t. space ++ t) n.is;
  is_space = s.passes;
  some_space = some_space;
  is_name = n.passes;
  some_name = some_name;
  whole_name = n.fails;
  folds = refl;
  valued = valued;
}

spaced : (space more text : List ℕ) → text ≡ space ++ more → IsSpace space → space ≢ [] → begins_space text ≡ false → ⊥
spaced [] more text is all some plain = some refl
spaced (b ∷ bs) more text is all some plain =
    true≢false (sym (and_parts (is_whitespace b) (list_all is_whitespace bs) all).0 ∙ sym (ap begins_space is) ∙ plain)

-- where no whitespace stands, no attribute does
pub no_space_begins : (text : List ℕ) → begins_space text ≡ false → BeginsNoAttribute text
no_space_begins text plain a rest h = spaced h.space _ text h.is h.is_space h.some_space plain

-- a value in double quotes right behind `=`
pub quoted_value : (after inner written rest : List ℕ) → after ≡ 61 ∷ 34 ∷ inner → EndsAtByte 34 inner written rest → HasValue after (decoded written) rest
quoted_value after inner written rest is ends = rw is (written, ends, refl)

-- ---- how far attributes go

pub SameEnd-refl : (text : List ℕ) → SameEnd text text
SameEnd-refl text = record { back = λ slash all r h. (all, h); forth = λ slash all r h. (all, h) }

-- the first of the attributes is the one that begins there
pub one_first : (slash : Bool) (rest after : List ℕ) (a : Attribute) → BeginsAttribute rest a after → (all : List Attribute) (r : List ℕ) → EndsTag slash rest all r → (more : List Attribute) × EndsTag slash after more r × (all ≡ a ∷ more)
one_first slash rest after a b [] r h = absurd (no_end slash rest r a after h b)
one_first slash rest after a b (c ∷ cs) r h =
    let same = attribute_same rest a c after h.0 b h.1 in
    (cs, subst (λ (t : List ℕ). EndsTag slash t cs r) (sym same.1) h.2, ap (λ (x : Attribute). x ∷ cs) (sym same.0))

pub SameEnd-step : (text rest after : List ℕ) (a : Attribute) → SameEnd text rest → BeginsAttribute rest a after → SameEnd text after
SameEnd-step text rest after a s b = record {
  back = λ slash all r h. s.back slash (a ∷ all) r (after, b, h);
  forth = λ slash all r h.
      let inner = s.forth slash all r h in
      let one = one_first slash rest after a b inner.0 r inner.1 in
      (one.0, one.1);
}

-- where no attribute begins, the tag's end stands
pub no_attributes : (slash : Bool) (rest : List ℕ) → ((a : Attribute) (after : List ℕ) → BeginsAttribute rest a after → ⊥) → (all : List Attribute) (r : List ℕ) → EndsTag slash rest all r → Closes slash rest r
no_attributes slash rest none [] r h = h
no_attributes slash rest none (a ∷ all) r h = absurd (none a h.0 h.1)

-- what a split of the whitespace shows of the end
pub close_shape : (slash : Bool) (text space behind r : List ℕ) → Splits is_whitespace text space behind → Closes slash text r → (behind ≡ 62 ∷ r) ⊎ ((slash ≡ true) × (behind ≡ 47 ∷ 62 ∷ r))
close_shape slash text space behind r s (a, p, inl e) = inl (span_same is_whitespace space behind a (62 ∷ r) s.passes s.fails p refl (sym s.is ∙ e)).1
close_shape slash text space behind r s (a, p, inr e) = inr (e.0, (span_same is_whitespace space behind a (47 ∷ 62 ∷ r) s.passes s.fails p refl (sym s.is ∙ e.1)).1)

-- what follows a value, an attribute or a tag's end is the rest of the text
pub value_suffix : (text w r : List ℕ) → BeginsValue text w r → (front : List ℕ) × (text ≡ front ++ r)
value_suffix [] w r h = absurd h
value_suffix (c ∷ more) w r h = go (c == 34 || c == 39) h
  where
    go : (b : Bool) → MatchBool b ((list_all (λ b. not (b == c)) w ≡ true) × (more ≡ w ++ c ∷ r)) ((c ∷ more ≡ w ++ r) × (w ≢ []) × (list_all is_bare_byte w ≡ true) × Fails is_bare_byte r) → (front : List ℕ) × (c ∷ more ≡ front ++ r)
    go true h = (c ∷ (w ++ c ∷ []), ap (λ t. c ∷ t) (h.1 ∙ sym (append_assoc w (c ∷ []) r)))
    go false h = (w, h.0)

has_value_suffix : (after v r : List ℕ) → HasValue after v r → (front : List ℕ) × (after ≡ front ++ r)
has_value_suffix after v r h = go (begins_equals (after_space after)) refl h
  where
    go : (t : Bool) → begins_equals (after_space after) ≡ t → MatchBool t ((w : List ℕ) × BeginsValue (after_space (drop 1 (after_space after))) w r × (v ≡ decoded w)) ((v ≡ []) × (r ≡ after)) → (front : List ℕ) × (after ≡ front ++ r)
    go true e h =
        let outer = space_before after in
        let inner = space_before (drop 1 (after_space after)) in
        let value = value_suffix (after_space (drop 1 (after_space after))) h.0 r h.1 in
        let behind : drop 1 (after_space after) ≡ (inner.0 ++ value.0) ++ r = inner.1 ∙ ap (λ t. inner.0 ++ t) value.1 ∙ sym (append_assoc inner.0 value.0 r) in
        let whole : after ≡ outer.0 ++ (61 ∷ ((inner.0 ++ value.0) ++ r)) = outer.1 ∙ ap (λ t. outer.0 ++ t) (equals_first (after_space after) e ∙ ap (λ t. 61 ∷ t) behind) in
        (outer.0 ++ (61 ∷ (inner.0 ++ value.0)), whole ∙ sym (append_assoc outer.0 (61 ∷ (inner.0 ++ value.0)) r))
    go false e h = ([], sym h.1)

attribute_suffix : (rest : List ℕ) (a : Attribute) (after : List ℕ) → BeginsAttribute rest a after → (front : List ℕ) × (rest ≡ front ++ after) × (front ≢ [])
attribute_suffix rest a after b =
    let value = has_value_suffix b.after a.value after b.valued in
    let whole : rest ≡ b.space ++ (b.name ++ (value.0 ++ after)) = b.is ∙ ap (λ t. b.space ++ (b.name ++ t)) value.1 in
    (b.space ++ (b.name ++ value.0), whole ∙ simp append_assoc, some b.space (b.name ++ value.0) b.some_space)
  where
    some : (xs ys : List ℕ) → xs ≢ [] → xs ++ ys ≢ []
    some [] ys h e = h refl
    some (x ∷ xs) ys h e = cc

nonempty : (xs : List ℕ) → xs ≢ [] → 0 < length xs
nonempty [] some = absurd (some refl)
nonempty (x ∷ xs) some = omega arith

pub length_after : (rest : List ℕ) (a : Attribute) (after : List ℕ) → BeginsAttribute rest a after → length after < length rest
length_after rest a after b =
    let is = attribute_suffix rest a after b in
    omega (arith, nonempty is.0 is.2, ap length is.1, length-append is.0 after)

pub EndsTag-suffix : (slash : Bool) (text : List ℕ) (all : List Attribute) (r : List ℕ) → EndsTag slash text all r → (front : List ℕ) × (text ≡ front ++ r)
EndsTag-suffix slash text [] r (a, p, inl e) = (a ++ 62 ∷ [], e ∙ sym (append_assoc a (62 ∷ []) r))
EndsTag-suffix slash text [] r (a, p, inr e) = (a ++ 47 ∷ 62 ∷ [], e.1 ∙ sym (append_assoc a (47 ∷ 62 ∷ []) r))
EndsTag-suffix slash text (a ∷ all) r h =
    let one = attribute_suffix text a h.0 h.1 in
    let more = EndsTag-suffix slash h.0 all r h.2 in
    (one.0 ++ more.0, one.1 ∙ ap (λ t. one.0 ++ t) more.1 ∙ sym (append_assoc one.0 more.0 r))

-- ---- what the splits of a tag show

pub start_shape : (text tag name behind : List ℕ) → text ≡ 60 ∷ tag → Splits is_name_byte tag name behind → (n : List ℕ) (attributes : List Attribute) (r : List ℕ) → BeginsStart text n attributes r → NamesElement name n × (all : List Attribute) × EndsTag (is_among n void_names) behind all r × (attributes ≡ kept_after [] all)
start_shape text tag name behind e s n attributes r h =
    let both : name ++ behind ≡ h.written ++ h.more = sym s.is ∙ behind_first 60 text _ _ e h.is in
    let same = span_same is_name_byte name behind h.written h.more s.passes s.fails (tag_name_bytes h.written h.names.0) (EndsTag-fails _ h.more h.all r h.ends) both in
    (subst (λ (t : List ℕ). NamesElement t n) (sym same.0) h.names, h.all, subst (λ (t : List ℕ). EndsTag (is_among n void_names) t h.all r) (sym same.1) h.ends, h.kept)

pub slash_shape : (text tag name behind : List ℕ) → text ≡ 60 ∷ tag → Splits is_name_byte tag name behind → EndsInSlash text → IsTagName name × (is_among (folded name) void_names ≡ false) × (all : List Attribute) × (r : List ℕ) × EndsTag true behind all r
slash_shape text tag name behind e s h =
    let both : name ++ behind ≡ h.written ++ h.more = sym s.is ∙ behind_first 60 text _ _ e h.is in
    let same = span_same is_name_byte name behind h.written h.more s.passes s.fails (tag_name_bytes h.written h.names) (EndsTag-fails _ h.more h.all h.rest h.ends) both in
    (subst IsTagName (sym same.0) h.names, subst (λ (t : List ℕ). is_among (folded t) void_names ≡ false) (sym same.0) h.open_element, h.all, h.rest, subst (λ (t : List ℕ). EndsTag true t h.all h.rest) (sym same.1) h.ends)

-- what stands behind the attributes closes no tag
pub no_start : (tag name behind close : List ℕ) (void : Bool) → Splits is_name_byte tag name behind → void ≡ is_among (folded name) void_names → SameEnd behind close → ((a : Attribute) (r : List ℕ) → BeginsAttribute close a r → ⊥) → ((r : List ℕ) → Closes void close r → ⊥) →
    BeginsNoStart (60 ∷ tag)
no_start tag name behind close void splits is same none closes n attributes rest h =
    let shape = start_shape _ _ _ _ refl splits n attributes rest h in
    let slash : is_among n void_names ≡ void = ap (λ (m : List ℕ). is_among m void_names) shape.0.1 ∙ sym is in
    let ends = same.forth (is_among n void_names) shape.1 rest shape.2 in
    closes rest (subst (λ (b : Bool). Closes b close rest) slash (no_attributes (is_among n void_names) close none ends.0 rest ends.1))

pub no_slashed_start : (tag name behind close : List ℕ) → Splits is_name_byte tag name behind → SameEnd behind close → ((a : Attribute) (r : List ℕ) → BeginsAttribute close a r → ⊥) → ((r : List ℕ) → Closes true close r → ⊥) → EndsInSlash (60 ∷ tag) → ⊥
no_slashed_start tag name behind close splits same none closes h =
    let shape = slash_shape _ _ _ _ refl splits h in
    let ends = same.forth true shape.2 shape.3 shape.4 in
    closes shape.3 (no_attributes true close none ends.0 shape.3 ends.1)

pub slashed_start : (tag name behind close rest : List ℕ) (void : Bool) → Splits is_name_byte tag name behind → IsTagName name → void ≡ is_among (folded name) void_names → SameEnd behind close → ((r : List ℕ) → Closes void close r → ⊥) → Closes true close rest → EndsInSlash (60 ∷ tag)
slashed_start tag name behind close rest void splits names is same open_here closes =
    let ends = same.back true [] rest closes in
    record {
      written = name;
      more = behind;
      all = ends.0;
      rest = rest;
      is = ap (λ t. 60 ∷ t) splits.is;
      names = names;
      open_element = sym is ∙ by_void void open_here;
      ends = ends.1;
    }
  where
    by_void : (b : Bool) → ((r : List ℕ) → Closes b close r → ⊥) → b ≡ false
    by_void true none = absurd (none rest closes)
    by_void false none = refl

pub end_tag_shape : (text tag name inner space behind : List ℕ) → text ≡ 60 ∷ 47 ∷ tag → Splits is_name_byte tag name inner → Splits is_whitespace inner space behind → (n : List ℕ) (r : List ℕ) → BeginsEnd text n r → NamesElement name n × (behind ≡ 62 ∷ r)
end_tag_shape text tag name inner space behind e s w n r h =
    let both : name ++ inner ≡ h.written ++ (h.space ++ (62 ∷ r)) = sym s.is ∙ behind_first 47 _ _ _ refl (behind_first 60 text _ _ e h.is) in
    let same = span_same is_name_byte name inner h.written _ s.passes s.fails (tag_name_bytes h.written h.names.0) (space_then h.space 62 r h.is_space refl) both in
    let after = span_same is_whitespace space behind h.space (62 ∷ r) w.passes w.fails h.is_space refl (sym w.is ∙ same.1) in
    (subst (λ (t : List ℕ). NamesElement t n) (sym same.0) h.names, after.1)

pub end_parts : (text tag name inner : List ℕ) → text ≡ 60 ∷ 47 ∷ tag → Splits is_name_byte tag name inner → (n : List ℕ) (r : List ℕ) → BeginsEnd text n r → folded name ≡ n
end_parts text tag name inner e s n r h =
    let both : name ++ inner ≡ h.written ++ (h.space ++ (62 ∷ r)) = sym s.is ∙ behind_first 47 _ _ _ refl (behind_first 60 text _ _ e h.is) in
    let same = span_same is_name_byte name inner h.written _ s.passes s.fails (tag_name_bytes h.written h.names.0) (space_then h.space 62 r h.is_space refl) both in
    ap folded same.0 ∙ sym h.names.1
