-- The attributes of an element that was cleaned stay as they are when it is cleaned again.
use Rattle.std.proofs.Common.{◌≡◌, ℕ, Bool, true, false, ◌&&◌, ◌||◌, not, cond, List, [], ◌∷◌, ◌++◌, Some, None, refl, sym, ap, ◌∙◌, subst}
use Rattle.std.specs.Prelude.{Option, codes}
use Rattle.std.specs.List.{list_any}
use Rattle.std.specs.Str.{bytes_eq}
use Rattle.std.proofs.lemmas.Bool.{and_from, and_right, cond_both, false_from_ne_true, not_from_false, or_from, or_parts}
use Rattle.std.proofs.lemmas.List.Folds.{list_any-append}
use Rattle.dom_nodes.specs.Elements.{Element}
use Rattle.dom_nodes.specs.Words.{is_among}
use Rattle.dom_nodes.specs.declared.name.Attr.{Attr}
use Rattle.dom_nodes.specs.declared.name.Namespace.TheVariants.{None as NoNamespace}
use Rattle.dom_markup.specs.Markup.{has_name}
use Rattle.dom_markup.specs.Plain.{StandForAttributes}
use Rattle.dom_markup.specs.ValueTrees.{Attribute}
use Rattle.dom_clean.specs.Fates.{allowed_attr, attrs_behind, cleaned_attr, cleaned_attrs, cleaned_value, has_attribute, is_named, is_nowhere, kept_attr, link_rel, spellable, with_name}
use Rattle.dom_clean.specs.Joined.{AreTidyAttributes, IsWritable}
use Rattle.dom_clean.specs.Policy.{Policy, is_sound, link_names}
use Rattle.dom_clean.proofs.AgainValues.{spellable_stays, value-again}
use Rattle.dom_markup.proofs.plain.WrittenTrees.{bytes_eq-swapped}
use Rattle.dom_clean.proofs.SoundNames.{no_rel}

-- the policy has these attributes, and leaves their values as they are
abbrev pub AreSettled : Policy → List ℕ → List Attribute → Type 0
AreSettled policy element [] = Unit {0}
AreSettled policy element (a ∷ later) =
    (cleaned_value policy a.name a.value ≡ Some a.value) × (has_attribute policy element a.name a.value ≡ true) × AreSettled policy element later

-- the policy has none of these attributes, whatever their values are
abbrev AreGone : Policy → List ℕ → List Attribute → Type 0
AreGone policy element [] = Unit {0}
AreGone policy element (a ∷ later) = ((value : List ℕ) → has_attribute policy element a.name value ≡ false) × AreGone policy element later

-- the attributes of an element that was cleaned: its own ones, and the `rel` of links
pub record AreStaying (policy : Policy) (element : List ℕ) (attributes : List Attribute) : Type 0 where
  pub own : List Attribute
  pub are : attributes ≡ own ++ link_rel policy element
  pub settled : AreSettled policy element own

-- ---- what is left of attributes is settled

both-settled : (policy : Policy) (element : List ℕ) (ones others : List Attribute) → AreSettled policy element ones → AreSettled policy element others → AreSettled policy element (ones ++ others)
both-settled policy element [] others p q = q
both-settled policy element (a ∷ ones) others p q = (p.0, p.1, both-settled policy element ones others p.2 q)

kept-settled : (policy : Policy) (element name value : List ℕ) (found : Option (List ℕ)) → cleaned_value policy name value ≡ found → AreSettled policy element (kept_attr policy element name found)
kept-settled policy element name value None is = tt
kept-settled policy element name value (Some left) is =
    cond_both (has_attribute policy element name left) _ [] (AreSettled policy element) (λ has. (value-again policy name value left is, has, tt)) (λ _. tt)

attr-settled : (policy : Policy) (element : List ℕ) (before : List Attr) (attr : Attr) → AreSettled policy element (cleaned_attr policy element before attr)
attr-settled policy element before attr =
    cond_both (is_nowhere attr.name.ns && not (list_any (is_named attr.name.local) before)) _ [] (AreSettled policy element)
    (λ _. kept-settled policy element attr.name.local (spellable attr.value) _ refl) (λ _. tt)

attrs-settled : (policy : Policy) (element : List ℕ) (before attrs : List Attr) → AreSettled policy element (attrs_behind policy element before attrs)
attrs-settled policy element before [] = tt
attrs-settled policy element before (attr ∷ attrs) =
    both-settled policy element (cleaned_attr policy element before attr) _ (attr-settled policy element before attr) (attrs-settled policy element (before ++ attr ∷ []) attrs)

pub attrs-staying : (policy : Policy) (e : Element) → AreStaying policy e.name.local (cleaned_attrs policy e)
attrs-staying policy e = record { own = attrs_behind policy e.name.local [] e.attrs; are = refl; settled = attrs-settled policy e.name.local [] e.attrs }

-- ---- the `rel` of a link goes, and comes again

rel-gone : (policy : Policy) (element : List ℕ) (rel : Option (List ℕ)) → is_sound policy ≡ true → policy.rel ≡ rel → AreGone policy element (with_name (codes "rel") rel)
rel-gone policy element None sound is = tt
rel-gone policy element (Some rel) sound is = ((λ value. false_from_ne_true (has_attribute policy element (codes "rel") value) (no_rel policy rel element value sound is)), tt)

link-gone : (policy : Policy) (element : List ℕ) → is_sound policy ≡ true → AreGone policy element (link_rel policy element)
link-gone policy element sound =
    cond_both (is_among element link_names) (with_name (codes "rel") policy.rel) [] (AreGone policy element) (λ _. rel-gone policy element policy.rel sound refl) (λ _. tt)

kept-gone : (policy : Policy) (element name : List ℕ) (found : Option (List ℕ)) → ((value : List ℕ) → has_attribute policy element name value ≡ false) → kept_attr policy element name found ≡ []
kept-gone policy element name None never = refl
kept-gone policy element name (Some value) never =
    cond_both (has_attribute policy element name value) _ [] (λ (l : List Attribute). l ≡ []) (λ has. absurd (true_false has (never value))) (λ _. refl)
  where
    true_false : {b : Bool} → b ≡ true → b ≡ false → ⊥
    true_false p q = cc

attr-gone : (policy : Policy) (element name : List ℕ) (before : List Attr) (attr : Attr) → attr.name.local ≡ name → ((value : List ℕ) → has_attribute policy element name value ≡ false) → cleaned_attr policy element before attr ≡ []
attr-gone policy element name before attr is never =
    cond_both (is_nowhere attr.name.ns && not (list_any (is_named attr.name.local) before)) _ [] (λ (l : List Attribute). l ≡ [])
    (λ _. kept-gone policy element attr.name.local _ (λ value. ap (λ n. has_attribute policy element n value) is ∙ never value)) (λ _. refl)

behind-gone : (policy : Policy) (element : List ℕ) (before attrs : List Attr) (gone : List Attribute) → StandForAttributes attrs gone → AreGone policy element gone → attrs_behind policy element before attrs ≡ []
behind-gone policy element before [] gone stand are = refl
behind-gone policy element before (attr ∷ attrs) [] stand are = absurd stand
behind-gone policy element before (attr ∷ attrs) (a ∷ gone) stand are =
    let later = attrs_behind policy element (before ++ attr ∷ []) attrs in
    ap (λ (l : List Attribute). l ++ later) (attr-gone policy element a.name before attr stand.1 are.0) ∙ behind-gone policy element (before ++ attr ∷ []) attrs gone stand.3 are.1

-- ---- the others stay

-- none of the attributes has been met
abbrev AreNew : List Attr → List Attribute → Type 0
AreNew before [] = Unit {0}
AreNew before (a ∷ later) = (list_any (is_named a.name) before ≡ false) × AreNew before later

none-met : (attributes : List Attribute) → AreNew [] attributes
none-met [] = tt
none-met (a ∷ later) = (refl, none-met later)

-- one more is met, whose name the others don't have
one-met : (before : List Attr) (attr : Attr) (name : List ℕ) (later : List Attribute) → attr.name.local ≡ name → has_name name later ≡ false → AreNew before later → AreNew (before ++ attr ∷ []) later
one-met before attr name [] is other new = tt
one-met before attr name (b ∷ later) is other new =
    let h = or_parts (bytes_eq b.name name) (has_name name later) other in
    let differs : bytes_eq attr.name.local b.name ≡ false = ap (λ n. bytes_eq n b.name) is ∙ bytes_eq-swapped name b.name ∙ h.0 in
    let here : is_named b.name attr ≡ false = and_right (is_nowhere attr.name.ns) (bytes_eq attr.name.local b.name) differs in (
      list_any-append (is_named b.name) before (attr ∷ [])
          ∙ or_from (list_any (is_named b.name) before) (is_named b.name attr || false) new.0 (or_from (is_named b.name attr) false here refl),
      one-met before attr name later is h.1 new.1,
    )

attr-again : (policy : Policy) (element : List ℕ) (before : List Attr) (attr : Attr) (a : Attribute) →
    attr.name.ns ≡ NoNamespace → attr.name.local ≡ a.name → attr.value ≡ a.value → IsWritable a.value → list_any (is_named a.name) before ≡ false →
    cleaned_value policy a.name a.value ≡ Some a.value → has_attribute policy element a.name a.value ≡ true → cleaned_attr policy element before attr ≡ a ∷ []
attr-again policy element before attr a ns local value is new stays has =
    let nowhere : is_nowhere attr.name.ns ≡ true = ap is_nowhere ns in
    let fresh : not (list_any (is_named attr.name.local) before) ≡ true = ap (λ n. not (list_any (is_named n) before)) local ∙ not_from_false (list_any (is_named a.name) before) new in
    let test : (is_nowhere attr.name.ns && not (list_any (is_named attr.name.local) before)) ≡ true = and_from (is_nowhere attr.name.ns) _ nowhere fresh in
    ap (λ b. cond b (allowed_attr policy element attr.name.local (spellable attr.value)) []) test
    ∙ ap (λ n. allowed_attr policy element n (spellable attr.value)) local
    ∙ ap (λ v. allowed_attr policy element a.name (spellable v)) value
    ∙ ap (allowed_attr policy element a.name) (spellable_stays a.value is)
    ∙ ap (kept_attr policy element a.name) stays
    ∙ ap (λ b. cond b (a ∷ []) []) has

has_name-front : (name : List ℕ) (xs ys : List Attribute) → has_name name (xs ++ ys) ≡ false → has_name name xs ≡ false
has_name-front name xs ys none = (or_parts (has_name name xs) (has_name name ys) (sym (list_any-append (λ (a : Attribute). bytes_eq a.name name) xs ys) ∙ none)).0

own-again : (policy : Policy) (element : List ℕ) (own gone : List Attribute) (before attrs : List Attr) → StandForAttributes attrs (own ++ gone) → AreTidyAttributes (own ++ gone) →
    AreSettled policy element own → AreGone policy element gone → AreNew before own → attrs_behind policy element before attrs ≡ own
own-again policy element [] gone before attrs stand tidy settled go new = behind-gone policy element before attrs gone stand go
own-again policy element (a ∷ own) gone before [] stand tidy settled go new = absurd stand
own-again policy element (a ∷ own) gone before (attr ∷ attrs) stand tidy settled go new =
    let later = attrs_behind policy element (before ++ attr ∷ []) attrs in
    ap (λ (l : List Attribute). l ++ later) (attr-again policy element before attr a stand.0 stand.1 stand.2 tidy.2 new.0 settled.0 settled.1)
    ∙ ap (λ (l : List Attribute). a ∷ l)
    (own-again policy element own gone (before ++ attr ∷ []) attrs stand.3 tidy.4 settled.2 go (one-met before attr a.name own stand.1 (has_name-front a.name own gone tidy.3) new.1))

pub attrs-again : (policy : Policy) (e : Element) (attributes : List Attribute) → is_sound policy ≡ true → StandForAttributes e.attrs attributes → AreTidyAttributes attributes → AreStaying policy e.name.local attributes →
    cleaned_attrs policy e ≡ attributes
attrs-again policy e attributes sound stand tidy staying =
    let element = e.name.local in
    let rel = link_rel policy element in
    let own = staying.own in
    ap (λ (l : List Attribute). l ++ rel)
    (own-again policy element own rel [] e.attrs (subst (StandForAttributes e.attrs) staying.are stand) (subst AreTidyAttributes staying.are tidy) staying.settled (link-gone policy element sound) (none-met own))
    ∙ sym staying.are
