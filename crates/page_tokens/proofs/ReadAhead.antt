-- Among the characters that the tokenizer has read ahead of the standard's machine is no `>`.
use Rattle.std.specs.Prelude.{◌≡◌, ℕ, zero, suc, ◌==◌, Bool, true, false, not, cond, List, [], ◌∷◌, ◌++◌, map, take, drop, length, codes, Option, None, Some, unwrap_or, eqb, nat_lt, refl}
use Rattle.std.proofs.Common.{arith, inl, inr}
use Rattle.std.specs.Char.{is_ascii_alphanumeric, to_ascii_lowercase}
use Rattle.std.specs.List.{list_all, starts_with}
use Rattle.std.specs.Option.{option_map}
use Rattle.std.proofs.lemmas.Bool.{and_from, and_parts}
use Rattle.std.proofs.lemmas.List.Folds.{list_all-append}
use Rattle.std.proofs.lemmas.Option.{none-some, same_Some}
use mathlib.Core.Path.{◌∙◌, sym, ap, subst}
use Rattle.standard_tokens.specs.Machine.{Machine, longer_of, longest_among, longest_name}
use Rattle.standard_tokens.specs.NamedReferences.{NamedReference, named_references}
use Rattle.page_tokens.specs.NamedReferences.{after_name, read_of}
use Rattle.page_tokens.specs.Standard.{Held, Holds, IsKeyword, IsSeen, ReferenceHeld}
use Rattle.page_tokens.specs.declared.named_references.Names.{Names}
use Rattle.page_tokens.specs.declared.tokenizer.Tokenizer.{Tokenizer}
use Rattle.page_tokens.specs.declared.tokenizer.references.Reference.{Reference}
use Rattle.page_tokens.specs.declared.tokenizer.references.Reference.TheVariants as reference
use Rattle.page_tokens.specs.declared.tokenizer.state.AttrState.TheVariants as attr
use Rattle.page_tokens.specs.declared.tokenizer.state.DoctypeState.TheVariants as doctype
use Rattle.page_tokens.specs.declared.tokenizer.state.DoubleState.TheVariants as double
use Rattle.page_tokens.specs.declared.tokenizer.state.EndTagState.TheVariants as end_tag
use Rattle.page_tokens.specs.declared.tokenizer.state.Id.{Id}
use Rattle.page_tokens.specs.declared.tokenizer.state.Id.TheVariants as id
use Rattle.page_tokens.specs.declared.tokenizer.state.ScriptState.TheVariants as script
use Rattle.page_tokens.specs.declared.tokenizer.state.Seen.{Seen}
use Rattle.page_tokens.specs.declared.tokenizer.state.Seen.TheVariants as seen
use Rattle.page_tokens.specs.declared.tokenizer.state.State.{State}
use Rattle.page_tokens.specs.declared.tokenizer.state.State.TheVariants as state
use Rattle.page_tokens.specs.declared.tokenizer.state.TagState.TheVariants as tag
use Rattle.page_tokens.proofs.LastSteps.{lacks_greater}
use Rattle.page_tokens.proofs.LongestNames.{after_letters, longest_parts}

lacks_none : (cs : List ℕ) → cs ≡ [] → lacks_greater cs ≡ true
lacks_none cs e = ap lacks_greater e

-- ---- names of references

letters_lack : (cs : List ℕ) → list_all is_ascii_alphanumeric cs ≡ true → lacks_greater cs ≡ true
letters_lack [] h = refl
letters_lack (c ∷ cs) h =
    let parts : (is_ascii_alphanumeric c ≡ true) × (list_all is_ascii_alphanumeric cs ≡ true) = and_parts (is_ascii_alphanumeric c) (list_all is_ascii_alphanumeric cs) h in
    and_from (not (c == 62)) (lacks_greater cs) (other c parts.0) (letters_lack cs parts.1)
  where
    other : (c : ℕ) → is_ascii_alphanumeric c ≡ true → not (c == 62) ≡ true
    other c h = grind arith

names_lack : list_all (λ (one : NamedReference). lacks_greater one.name) named_references ≡ true
unfolding named_references
names_lack = refl

longer_lacks : (b : Bool) (one : NamedReference) (o : Option NamedReference) → lacks_greater one.name ≡ true → ((other : NamedReference) → o ≡ Some other → lacks_greater other.name ≡ true) →
    (found : NamedReference) → longer_of b one o ≡ Some found → lacks_greater found.name ≡ true
longer_lacks false one o h others found e = others found e
longer_lacks true one None h others found e = subst (λ (k : NamedReference). lacks_greater k.name ≡ true) (same_Some one found e) h
longer_lacks true one (Some other) h others found e = go (nat_lt (length one.name) (length other.name)) e
  where
    go : (x : Bool) → cond x (Some other) (Some one) ≡ Some found → lacks_greater found.name ≡ true
    go true e = others found e
    go false e = subst (λ (k : NamedReference). lacks_greater k.name ≡ true) (same_Some one found e) h

longest_lacks : (names : List NamedReference) (text : List ℕ) → list_all (λ (one : NamedReference). lacks_greater one.name) names ≡ true → (found : NamedReference) → longest_among names text ≡ Some found → lacks_greater found.name ≡ true
longest_lacks [] text all found e = absurd (none-some found e)
longest_lacks (one ∷ names) text all found e =
    let parts : (lacks_greater one.name ≡ true) × (list_all (λ (one : NamedReference). lacks_greater one.name) names ≡ true) =
    and_parts (lacks_greater one.name) (list_all (λ (one : NamedReference). lacks_greater one.name) names) all in
    longer_lacks (starts_with eqb text one.name) one (longest_among names text) parts.0 (λ other e. longest_lacks names text parts.1 other e) found e

name_lacks : (text name : List ℕ) → longest_name text ≡ Some name → lacks_greater name ≡ true
unfolding longest_name
name_lacks text name e = go (longest_among named_references text) (longest_lacks named_references text names_lack) e
  where
    go : (o : Option NamedReference) → ((found : NamedReference) → o ≡ Some found → lacks_greater found.name ≡ true) → option_map (λ one. one.name) o ≡ Some name → lacks_greater name ≡ true
    go None lack e = absurd (none-some name e)
    go (Some found) lack e = subst (λ (k : List ℕ). lacks_greater k ≡ true) (same_Some found.name name e) (lack found refl)

read_lacks : (text : List ℕ) → list_all is_ascii_alphanumeric (after_name text) ≡ true → lacks_greater text ≡ true
read_lacks text letters = go (longest_name text) refl
  where
    go : (o : Option (List ℕ)) → longest_name text ≡ o → lacks_greater text ≡ true
    go None e = subst (λ k. lacks_greater k ≡ true) (ap (λ (o : Option (List ℕ)). drop (length (unwrap_or o [])) text) e) (letters_lack (after_name text) letters)
    go (Some name) e =
        let is : text ≡ name ++ after_name text = (longest_parts text name e).0 in
        subst (λ k. lacks_greater k ≡ true) (sym is) (list_all-append (λ c. not (c == 62)) name (after_name text) ∙ rw (name_lacks text name e, letters_lack (after_name text) letters) refl)

named_lacks : (names : Names) → lacks_greater (read_of names) ≡ true
named_lacks names = read_lacks (read_of names) (after_letters names.low names.high names.place names.exactly)

-- ---- words

take_lacks : (n : ℕ) (cs : List ℕ) → lacks_greater cs ≡ true → lacks_greater (take n cs) ≡ true
take_lacks zero cs h = refl
take_lacks (suc n) [] h = refl
take_lacks (suc n) (c ∷ cs) h =
    let parts : (not (c == 62) ≡ true) × (lacks_greater cs ≡ true) = and_parts (not (c == 62)) (lacks_greater cs) h in
    and_from (not (c == 62)) (lacks_greater (take n cs)) parts.0 (take_lacks n cs parts.1)

lower_lacks : (cs : List ℕ) → lacks_greater (map to_ascii_lowercase cs) ≡ true → lacks_greater cs ≡ true
lower_lacks [] h = refl
lower_lacks (c ∷ cs) h =
    let parts : (not (to_ascii_lowercase c == 62) ≡ true) × (lacks_greater (map to_ascii_lowercase cs) ≡ true) = and_parts (not (to_ascii_lowercase c == 62)) (lacks_greater (map to_ascii_lowercase cs)) h in
    and_from (not (c == 62)) (lacks_greater cs) (same c parts.0) (lower_lacks cs parts.1)
  where
    same : (c : ℕ) → not (to_ascii_lowercase c == 62) ≡ true → not (c == 62) ≡ true
    same c h = grind arith

word_lacks : (n : ℕ) (word ahead : List ℕ) → lacks_greater word ≡ true → map to_ascii_lowercase ahead ≡ take n word → lacks_greater ahead ≡ true
word_lacks n word ahead h is = lower_lacks ahead (ap lacks_greater is ∙ take_lacks n word h)

seen_lacks : (s : Seen) (ahead : List ℕ) → IsSeen s ahead → lacks_greater ahead ≡ true
seen_lacks seen.Nothing ahead is = lacks_none ahead is
seen_lacks seen.Dash ahead is = ap lacks_greater is
seen_lacks (seen.Doctype count) ahead is = word_lacks count (codes "doctype") ahead refl is.2
seen_lacks (seen.Cdata count) ahead is = ap lacks_greater is.2 ∙ take_lacks count (codes "[CDATA[") refl

keyword_lacks : (which : Id) (count : ℕ) (ahead : List ℕ) → IsKeyword which count ahead → lacks_greater ahead ≡ true
keyword_lacks id.Public count ahead is = word_lacks count (codes "public") ahead refl is.2
keyword_lacks id.System count ahead is = word_lacks count (codes "system") ahead refl is.2

-- ---- by the state

held_lacks : (s : State) (t : Tokenizer) (ahead : List ℕ) (m : Machine) → Held s t ahead m → lacks_greater ahead ≡ true
held_lacks state.Data t ahead m held = lacks_none ahead held
held_lacks state.Rcdata t ahead m held = lacks_none ahead held
held_lacks state.Rawtext t ahead m held = lacks_none ahead held
held_lacks state.Script t ahead m held = lacks_none ahead held
held_lacks state.Plaintext t ahead m held = lacks_none ahead held
held_lacks (state.Cdata inner) t ahead m held = lacks_none ahead held
held_lacks (state.Tag tag.Open) t ahead m held = lacks_none ahead held
held_lacks (state.Tag tag.EndOpen) t ahead m held = lacks_none ahead held
held_lacks (state.Tag tag.Name) t ahead m held = lacks_none ahead held.0
held_lacks (state.Tag tag.SelfClosing) t ahead m held = lacks_none ahead held.0
held_lacks (state.EndTag raw end_tag.LessThan) t ahead m held = lacks_none ahead held
held_lacks (state.EndTag raw end_tag.Open) t ahead m held = lacks_none ahead held.0
held_lacks (state.EndTag raw end_tag.Name) t ahead m held = lacks_none ahead held.0
held_lacks (state.ScriptData script.EscapeStart) t ahead m held = lacks_none ahead held
held_lacks (state.ScriptData script.EscapeStartDash) t ahead m held = lacks_none ahead held
held_lacks (state.ScriptData script.Escaped) t ahead m held = lacks_none ahead held
held_lacks (state.ScriptData script.EscapedDash) t ahead m held = lacks_none ahead held
held_lacks (state.ScriptData script.EscapedDashDash) t ahead m held = lacks_none ahead held
held_lacks (state.ScriptData script.DoubleStart) t ahead m held = lacks_none ahead held.0
held_lacks (state.ScriptData (script.Double double.Escaped)) t ahead m held = lacks_none ahead held
held_lacks (state.ScriptData (script.Double double.Dash)) t ahead m held = lacks_none ahead held
held_lacks (state.ScriptData (script.Double double.DashDash)) t ahead m held = lacks_none ahead held
held_lacks (state.ScriptData (script.Double double.LessThan)) t ahead m held = lacks_none ahead held
held_lacks (state.ScriptData (script.Double double.End)) t ahead m held = lacks_none ahead held.0
held_lacks (state.Attribute attr.BeforeName) t ahead m held = lacks_none ahead held.0
held_lacks (state.Attribute attr.Name) t ahead m held = lacks_none ahead held.0
held_lacks (state.Attribute attr.AfterName) t ahead m held = lacks_none ahead held.0
held_lacks (state.Attribute attr.BeforeValue) t ahead m held = lacks_none ahead held.0
held_lacks (state.Attribute attr.Unquoted) t ahead m held = lacks_none ahead held.0
held_lacks (state.Attribute attr.AfterQuoted) t ahead m held = lacks_none ahead held.0
held_lacks (state.Attribute (attr.Quoted quote)) t ahead m held = lacks_none ahead held.0
held_lacks (state.Declaration s) t ahead m held = seen_lacks s ahead held.1
held_lacks (state.Comment inner) t ahead m held = lacks_none ahead held.0
held_lacks (state.Doctype doctype.Begin) t ahead m held = lacks_none ahead held.0
held_lacks (state.Doctype doctype.BeforeName) t ahead m held = lacks_none ahead held.0
held_lacks (state.Doctype doctype.Name) t ahead m held = lacks_none ahead held.0
held_lacks (state.Doctype doctype.AfterName) t ahead m held = lacks_none ahead held.0
held_lacks (state.Doctype doctype.BetweenIds) t ahead m held = lacks_none ahead held.0
held_lacks (state.Doctype doctype.Bogus) t ahead m held = lacks_none ahead held.0
held_lacks (state.Doctype (doctype.Keyword which count)) t ahead m held = keyword_lacks which count ahead held.0
held_lacks (state.Doctype (doctype.AfterKeyword which)) t ahead m held = lacks_none ahead held.0
held_lacks (state.Doctype (doctype.BeforeId which)) t ahead m held = lacks_none ahead held.0
held_lacks (state.Doctype (doctype.Quoted which quote)) t ahead m held = lacks_none ahead held.0
held_lacks (state.Doctype (doctype.AfterId which)) t ahead m held = lacks_none ahead held.0

inside_lacks : (r : Reference) (t : Tokenizer) (ahead : List ℕ) (m : Machine) → ReferenceHeld r t ahead m → lacks_greater ahead ≡ true
inside_lacks reference.None t ahead m held = absurd held
inside_lacks reference.Begun t ahead m held = lacks_none ahead held.0
inside_lacks (reference.Named found) t ahead m held = ap lacks_greater held.0 ∙ named_lacks found.names
inside_lacks reference.Ambiguous t ahead m held = lacks_none ahead held
inside_lacks reference.Number t ahead m held = lacks_none ahead held.0
inside_lacks reference.HexStart t ahead m held = lacks_none ahead held.0
inside_lacks (reference.Hex number) t ahead m held = lacks_none ahead held.0
inside_lacks (reference.Decimal number) t ahead m held = lacks_none ahead held.0

pub ahead_lacks : (t : Tokenizer) (ahead : List ℕ) (m : Machine) → Holds t ahead m → lacks_greater ahead ≡ true
ahead_lacks t ahead m (inl stands) = held_lacks t.state t ahead m stands.held
ahead_lacks t ahead m (inr inside) = inside_lacks t.reference t ahead m inside.inside
