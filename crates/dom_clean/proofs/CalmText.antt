-- What is written is calm byte by byte.
use Rattle.std.proofs.Common.{◌≡◌, ℕ, ◌==◌, Bool, true, false, not, List, [], ◌∷◌, ◌++◌, refl, ap, ◌∙◌, arith, append_assoc}
use Rattle.std.specs.Prelude.{codes}
use Rattle.std.specs.Char.{encode_utf8}
use Rattle.std.specs.List.{flat_map}
use Rattle.std.specs.Str.{chars}
use Rattle.std.proofs.lemmas.Bool.{and_parts, cond_both}
use Rattle.dom_nodes.specs.Words.{is_among}
use Rattle.dom_nodes.specs.Escaping.{spaced_char}
use Rattle.dom_markup.specs.Escaping.{escaped_text, lacks, text_char}
use Rattle.dom_markup.specs.Html.{end_tag}
use Rattle.dom_markup.specs.Names.{void_names}
use Rattle.dom_markup.specs.ValueTrees.{Attribute, ValueTrees}
use Rattle.dom_markup.specs.ValueTrees.ValueTrees.{no_trees, text_node, comment_node, doctype_node, element_node}
use Rattle.dom_markup.proofs.html.InertLemmas.{encode_lacks}
use Rattle.calm_pages.specs.Calm.{begins_other_tag, is_calm_byte, is_calm_text}
use Rattle.dom_clean.specs.Spelled.{AreQuiet, AreSpelled, Front, IsQuietName, IsSpellable, IsSpelled}
use Rattle.dom_markup.specs.WrittenTrees.{safe_char}
use Rattle.dom_clean.specs.Written.{attribute_text, safe_value, start_of, text_of}

both : (a b : List ℕ) → Front a → Front b → Front (a ++ b)
both a b p q = record { front = λ rest calm. ap is_calm_text (append_assoc a b rest) ∙ p.front (b ++ rest) (q.front rest calm) }

not-false : (b : Bool) → not b ≡ true → b ≡ false
not-false true h = cc
not-false false h = refl

quiet : (b : ℕ) (rest : List ℕ) → (b == 38) ≡ false → (b == 60) ≡ false → (b == 0) ≡ false → (b == 13) ≡ false → is_calm_byte b rest ≡ true
quiet b rest p q r s = rw (p, q, r, s) refl

pub quiet-front : (bytes : List ℕ) → lacks 38 bytes ≡ true → lacks 60 bytes ≡ true → lacks 0 bytes ≡ true → lacks 13 bytes ≡ true → Front bytes
quiet-front [] p q r s = record { front = λ rest calm. calm }
quiet-front (b ∷ bytes) p q r s =
    let p2 = and_parts (not (b == 38)) (lacks 38 bytes) p in
    let q2 = and_parts (not (b == 60)) (lacks 60 bytes) q in
    let r2 = and_parts (not (b == 0)) (lacks 0 bytes) r in
    let s2 = and_parts (not (b == 13)) (lacks 13 bytes) s in
    let later = quiet-front bytes p2.1 q2.1 r2.1 s2.1 in
    record { front = λ rest calm. rw (quiet b (bytes ++ rest) (not-false _ p2.0) (not-false _ q2.0) (not-false _ r2.0) (not-false _ s2.0)) (later.front rest calm) }

spaced-front : (c : ℕ) → IsSpelled c → (c == 38) ≡ false → (c == 60) ≡ false → Front (spaced_char c)
spaced-front c is p q = cond_both (c == 160) (codes "&nbsp;") (encode_utf8 c) Front (λ _. record { front = λ rest calm. calm })
    (λ _. quiet-front (encode_utf8 c) (encode_lacks 38 c (omega arith) p) (encode_lacks 60 c (omega arith) q) (encode_lacks 0 c (omega arith) is.0) (encode_lacks 13 c (omega arith) is.1))

pub text-char-front : (c : ℕ) → IsSpelled c → Front (text_char c)
text-char-front c is =
    cond_both (c == 38) (codes "&amp;") _ Front (λ _. record { front = λ rest calm. calm })
    (λ p. cond_both (c == 60) (codes "&lt;") _ Front (λ _. record { front = λ rest calm. calm })
    (λ q. cond_both (c == 62) (codes "&gt;") _ Front (λ _. record { front = λ rest calm. calm }) (λ _. spaced-front c is p q)))

pub safe-char-front : (c : ℕ) → IsSpelled c → Front (safe_char c)
safe-char-front c is = cond_both (c == 34) (codes "&quot;") _ Front (λ _. record { front = λ rest calm. calm }) (λ _. text-char-front c is)

map-front : (f : ℕ → List ℕ) → ((c : ℕ) → IsSpelled c → Front (f c)) → (cs : List ℕ) → AreSpelled cs → Front (flat_map f cs)
map-front f each [] are = record { front = λ rest calm. calm }
map-front f each (c ∷ cs) are = both (f c) (flat_map f cs) (each c are.0) (map-front f each cs are.1)

attribute-front : (attribute : Attribute) → Front attribute.name → AreSpelled (chars attribute.value) → Front (attribute_text attribute)
attribute-front attribute named spelled =
    both (codes " ") _ (record { front = λ rest calm. calm })
    (both attribute.name _ named (both (codes "=\"") _ (record { front = λ rest calm. calm }) (both (safe_value attribute.value) (codes "\"") (map-front safe_char safe-char-front (chars attribute.value) spelled) (record { front = λ rest calm. calm }))))

attributes-front : (attributes : List Attribute) → AreQuiet attributes → Front (flat_map attribute_text attributes)
attributes-front [] are = record { front = λ rest calm. calm }
attributes-front (a ∷ later) are = both (attribute_text a) _ (attribute-front a are.0 are.1) (attributes-front later are.2)

-- a `<` in front of no other tag
less-front : (text : List ℕ) → Front text → ((rest : List ℕ) → begins_other_tag (text ++ rest) ≡ false) → Front (60 ∷ text)
less-front text front no_tag = record { front = λ rest calm. rw (no_tag rest) (front.front rest calm) }

start-front : (name : List ℕ) (attributes : List Attribute) → IsQuietName name → AreQuiet attributes → Front (start_of name attributes)
start-front name [] is are = less-front (name ++ codes ">") (both name (codes ">") is.quiet (record { front = λ rest calm. calm })) (λ rest. ap begins_other_tag (append_assoc name (codes ">") rest) ∙ is.tag rest)
start-front name (a ∷ later) is are =
    let more = flat_map attribute_text (a ∷ later) ++ codes ">" in
    less-front (name ++ more) (both name more is.quiet (both (flat_map attribute_text (a ∷ later)) (codes ">") (attributes-front (a ∷ later) are) (record { front = λ rest calm. calm })))
    (λ rest. ap begins_other_tag (append_assoc name more rest) ∙ is.spaced_tag _)

end-front : (name : List ℕ) → Front name → Front (end_tag name)
end-front name is = both (codes "</") _ (record { front = λ rest calm. calm }) (both name (codes ">") is (record { front = λ rest calm. calm }))

-- the text of trees that can be spelled is calm
pub text-front : (trees : ValueTrees) → IsSpellable trees → Front (text_of trees)
text-front no_trees is = record { front = λ rest calm. calm }
text-front (text_node c later) is = both (escaped_text c) (text_of later) (map-front text_char text-char-front (chars c) is.0) (text-front later is.1)
text-front (comment_node c later) is = absurd is
text-front (doctype_node n u s later) is = absurd is
text-front (element_node n a children later) is =
    both (start_of n a) _ (start-front n a is.0 is.1)
    (both _ (text_of later) (cond_both (is_among n void_names) [] (text_of children ++ end_tag n) Front (λ _. record { front = λ rest calm. calm })
    (λ _. both (text_of children) (end_tag n) (text-front children is.2) (end-front n is.0.quiet)))
    (text-front later is.3))
