-- Counting under a name: names that compare as equal are the same.
use Rattle.std.proofs.Common.{ℕ, ◌≡◌, Bool, true, false, cond, List, Option, Some, None, refl, ap, ◌∙◌, Bor, nat_cmp, is_eq}
use Rattle.std.specs.Prelude.{◌&&◌, if◌then◌else◌}
use Rattle.std.specs.BTreeMap.{BTreeMap, get}
use Rattle.std.specs.Cmp.Lexicographic.{slice_cmp}
use Rattle.std.specs.Option.{option_cmp, option_copied, unwrap_or}
use Rattle.std.specs.Ordering.{ordering_then}
use Rattle.std.specs.declared.cmp.Ordering.{Ordering}
use Rattle.std.specs.declared.cmp.Ordering.TheVariants.{Less, Equal, Greater}
use Rattle.std.proofs.lemmas.Map.Text.{is_eq-slice_cmp}
use Rattle.std.proofs.Math.Bool.{and_comm}
use Rattle.dom_nodes.specs.Names.{same_name, same_namespace, same_prefix}
use Rattle.dom_select.specs.TypeCounts.{count_of, name_of, namespace_in, type_cmp}
use Rattle.dom_select.specs.contracts.matcher.type_counts.TypeNamespaceOrd.TheImpl as derived
use Rattle.dom_select.specs.declared.matcher.type_counts.TypeName.{TypeName}
use Rattle.dom_select.specs.declared.matcher.type_counts.TypeNamespace.{TypeNamespace}
use Rattle.dom_select.specs.declared.matcher.type_counts.TypeNamespace.TheVariants as lent

then_eq : (o p : Ordering) → is_eq (ordering_then o p) ≡ (is_eq o && is_eq p)
then_eq Less p = refl
then_eq Equal p = refl
then_eq Greater p = refl

namespaces_same : (a b : TypeNamespace) → is_eq (derived.cmp-value.it a b) ≡ same_namespace (namespace_in a) (namespace_in b)
namespaces_same lent.None lent.None = refl
namespaces_same lent.Html lent.Html = refl
namespaces_same lent.Svg lent.Svg = refl
namespaces_same lent.MathMl lent.MathMl = refl
namespaces_same lent.XLink lent.XLink = refl
namespaces_same lent.Xml lent.Xml = refl
namespaces_same lent.XmlNs lent.XmlNs = refl
namespaces_same (lent.Other a) (lent.Other b) = is_eq-slice_cmp a.now b.now
namespaces_same _ _ = refl

prefixes_same : (a b : Option (Bor (List ℕ))) → is_eq (option_cmp (λ x y. slice_cmp nat_cmp x.now y.now) a b) ≡ same_prefix (option_copied a) (option_copied b)
prefixes_same None None = refl
prefixes_same (Some a) (Some b) = is_eq-slice_cmp a.now b.now
prefixes_same _ _ = refl

turned : (l n p : Bool) → (l && (n && p)) ≡ (p && n && l)
turned l n p = and_comm l (n && p) ∙ ap (λ t. t && l) (and_comm n p)

all_same : (a b c l n p : Bool) → a ≡ l → b ≡ n → c ≡ p → (a && (b && c)) ≡ (p && n && l)
all_same a b c l n p h i j = ap (λ t. t && (b && c)) h ∙ ap (λ t. l && (t && c)) i ∙ ap (λ t. l && (n && t)) j ∙ turned l n p

names_same : (a b : TypeName) → is_eq (type_cmp a b) ≡ same_name (name_of a) (name_of b)
names_same a b =
    then_eq (slice_cmp nat_cmp a.local.now b.local.now) _
    ∙ ap (λ t. is_eq (slice_cmp nat_cmp a.local.now b.local.now) && t) (then_eq (derived.cmp-value.it a.namespace b.namespace) _)
    ∙ all_same _ _ _ _ _ _ (is_eq-slice_cmp a.local.now b.local.now) (namespaces_same a.namespace b.namespace) (prefixes_same a.prefix b.prefix)

count_or : (b : Bool) (count : ℕ) (o : Option ℕ) → unwrap_or (cond b (Some count) o) 0 ≡ (if b then count else unwrap_or o 0)
count_or true count o = refl
count_or false count o = refl

-- what is counted under each name once a count was set under one
pub count_set : (old new : BTreeMap TypeName ℕ) (name other : TypeName) (count : ℕ) → get type_cmp new other ≡ cond (is_eq (type_cmp name other)) (Some count) (get type_cmp old other) →
    count_of new other ≡ (if same_name (name_of name) (name_of other) then count else count_of old other)
count_set old new name other count h =
    ap (λ o. unwrap_or o 0) h ∙ count_or (is_eq (type_cmp name other)) count (get type_cmp old other)
    ∙ ap (λ (b : Bool). if b then count else count_of old other) (names_same name other)
