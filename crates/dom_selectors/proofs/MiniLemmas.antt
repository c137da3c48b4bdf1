-- Mini selectors have one reading, and none where a bad value is met.
use Rattle.std.proofs.Common.{◌≡◌, ℕ, List, [], ◌∷◌, ◌++◌, false, refl, sym, ap, ◌∙◌, subst, true≢false, MatchBool, Option, Some, None}
use Rattle.std.proofs.lemmas.List.{append-nil}
use Rattle.dom_nodes.specs.Ascii.{right_bracket}
use Rattle.dom_selectors.specs.declared.syntax.Combinator.{Combinator}
use Rattle.dom_selectors.specs.declared.syntax.AttrOperator.{AttrOperator}
use Rattle.dom_selectors.specs.Attributes.{SpellsOperator}
use Rattle.dom_selectors.specs.Characters.{begins}
use Rattle.dom_selectors.specs.MiniLetters.{after_blanks}
use Rattle.dom_selectors.specs.MiniSyntax.{Asked, Mini, has_part}
use Rattle.dom_selectors.specs.MiniGrammar.{Excludes, Maybe, AsMany, MeetsBad, SpellsWord, SpellsMarked, SpellsId, SpellsClass, SpellsLead, SpellsQuoted, SpellsBare, SpellsValue, SpellsTest, SpellsAttr, IsBadTest, IsBadAttr, SpellsClasses, SpellsAttrs, SpellsFront, SpellsMini, IsBadMini, SpellsStep, IsBadStep, SpellsPath, IsBadPath}
use Rattle.dom_selectors.specs.Spelling.{Many, SpellsNone}
use Rattle.dom_selectors.specs.Strings.{is_quote}
use Rattle.dom_selectors.proofs.Runs.{IsOnce}
use Rattle.dom_selectors.proofs.NameLemmas.{both}
use Rattle.dom_selectors.proofs.AttributeLemmas.{operator_once}

module _ {A : Type 0} (S : A → List ℕ → List ℕ → Type 0) (once : IsOnce S) where
  pub maybe_once : IsOnce (Maybe S)
  maybe_once None None text r s h k = (refl, h.1 ∙ sym k.1)
  maybe_once None (Some w) text r s h k = absurd (h.0 w s k)
  maybe_once (Some v) None text r s h k = absurd (k.0 v r h)
  maybe_once (Some v) (Some w) text r s h k = (let same = once v w text r s h k in (ap Some same.0, same.1))

  -- those up to a place where none can be read are those to another place and more
  through : (vs ws : List A) (text mid rest : List ℕ) → Many S vs text mid → Many S ws text rest → SpellsNone S rest → (more : List A) × (ws ≡ vs ++ more) × Many S more mid rest
  through [] ws text mid rest h k none = (ws, refl, subst (λ t. Many S ws t rest) (sym h) k)
  through (v ∷ vs) [] text mid rest h k none = absurd (none v h.0 (subst (λ t. S v t h.0) (sym k) h.1))
  through (v ∷ vs) (w ∷ ws) text mid rest h k none =
      let same = once v w text h.0 k.0 h.1 k.1 in
      let first : Many S vs k.0 mid = subst (λ t. Many S vs t mid) same.1 h.2 in
      let later = through vs ws k.0 mid rest first k.2 none in
      (later.0, ap (λ u. u ∷ ws) (sym same.0) ∙ ap (λ us. v ∷ us) later.1, later.2)

  module _ (Bad : List ℕ → Type 0) where
    pub as_many_once : IsOnce (AsMany S Bad)
    as_many_once vs ws text r s h k =
        let found = through vs ws text r s h.each k.each k.ends in
        elim found.0 as (λ more. ws ≡ vs ++ more → Many S more r s → (vs ≡ ws) × (r ≡ s)) [
          | [] ↦ λ e run. (sym (e ∙ append-nil vs), sym run)
          | v ∷ more ↦ λ e run. absurd (h.ends v run.0 run.1)
        ] found.1 found.2

    pub as_many_not_bad : Excludes S Bad → Excludes (AsMany S Bad) (MeetsBad S Bad)
    as_many_not_bad apart vs text rest h bad =
        let found = through bad.read vs text bad.at rest bad.each h.each h.ends in
        elim found.0 as (λ more. Many S more bad.at rest → ⊥) [
          | [] ↦ λ run. h.sound (subst Bad (sym run) bad.bad)
          | v ∷ more ↦ λ run. apart v bad.at run.0 run.1 bad.bad
        ] found.2

pub word_once : IsOnce SpellsWord
word_once v w text r s h k = (h.1 ∙ sym k.1, h.2 ∙ sym k.2)

pub marked_once : (mark : ℕ) → IsOnce (SpellsMarked mark)
marked_once mark v w [] r s h k = absurd h
marked_once mark v w (c ∷ more) r s h k = word_once v w more r s h.1 k.1

pub lead_once : IsOnce SpellsLead
lead_once v w text r s h k = let a = h.0 in let b = k.0 in let same : v ≡ w = cc in (same, h.1 ∙ sym k.1)

pub quoted_once : IsOnce SpellsQuoted
quoted_once v w [] r s h k = absurd h
quoted_once v w (q ∷ inside) r s h k = let a = h.3 in let b = k.3 in let rest : r ≡ s = cc in (h.2 ∙ sym k.2, rest)

pub value_once : IsOnce SpellsValue
value_once v w text r s h k =
    both (begins is_quote text) _ _ _ _ _ (λ _ p q. quoted_once v w text r s p q) (λ _ p q. (p.1 ∙ sym q.1, p.2 ∙ sym q.2)) h k

pub test_once : IsOnce SpellsTest
test_once v w text r s h k =
    let operator = operator_once v.0 w.0 (after_blanks text) h.after_operator k.after_operator h.operator k.operator in
    let value = value_once v.1 w.1 (after_blanks h.after_operator) r s h.value (subst (λ t. SpellsValue w.1 (after_blanks t) s) (sym operator.1) k.value) in
    let of : AttrOperator → List ℕ → AttrOperator × List ℕ = λ o t. (o, t) in
    (ap (λ o. of o v.1) operator.0 ∙ ap (λ t. of w.0 t) value.0, value.1)

pub attr_once : IsOnce SpellsAttr
attr_once v w text r s h k =
    let a = h.opens in let b = k.opens in
    let inside : h.inside ≡ k.inside = cc in
    let key = word_once v.key w.key h.inside h.after_key k.after_key h.key (subst (λ t. SpellsWord w.key t k.after_key) (sym inside) k.key) in
    let test = maybe_once SpellsTest test_once v.test w.test h.after_key (right_bracket ∷ r) (right_bracket ∷ s) h.test (subst (λ t. Maybe SpellsTest w.test t (right_bracket ∷ s)) (sym key.1) k.test) in
    let of : List ℕ → Option (AttrOperator × List ℕ) → Asked = λ n t. record { key = n; test = t } in
    let behind = test.1 in
    let rest : r ≡ s = cc in
    (ap (λ n. of n v.test) key.0 ∙ ap (λ t. of w.key t) test.0, rest)

-- where a test with a bad value stands, no other value is read
pub test_not_bad : Excludes SpellsTest IsBadTest
test_not_bad v text r h bad =
    let operator = operator_once v.0 bad.operator (after_blanks text) h.after_operator bad.after_operator h.operator bad.compares in
    let value : SpellsValue v.1 (after_blanks bad.after_operator) r = subst (λ t. SpellsValue v.1 (after_blanks t) r) operator.1 h.value in
    let quoted : SpellsQuoted v.1 (after_blanks bad.after_operator) r = subst (λ b. MatchBool b (SpellsQuoted v.1 (after_blanks bad.after_operator) r) (SpellsBare v.1 (after_blanks bad.after_operator) r)) bad.quoted value in
    bad.bad v.1 r quoted

pub closed_not_bad : (rest : List ℕ) → IsBadTest (right_bracket ∷ rest) → ⊥
closed_not_bad rest bad = let compares : SpellsOperator bad.operator (right_bracket ∷ rest) bad.after_operator = bad.compares in let no = compares.0 in cc

pub maybe_not_bad : (v : Option (AttrOperator × List ℕ)) (text rest : List ℕ) → Maybe SpellsTest v text (right_bracket ∷ rest) → IsBadTest text → ⊥
maybe_not_bad None text rest h bad = closed_not_bad rest (subst IsBadTest (sym h.1) bad)
maybe_not_bad (Some v) text rest h bad = test_not_bad v text (right_bracket ∷ rest) h bad

pub attr_not_bad : Excludes SpellsAttr IsBadAttr
attr_not_bad v text r h bad =
    let a = h.opens in let b = bad.opens in
    let inside : h.inside ≡ bad.inside = cc in
    let key = word_once v.key bad.key h.inside h.after_key bad.after_key h.key (subst (λ t. SpellsWord bad.key t bad.after_key) (sym inside) bad.named) in
    maybe_not_bad v.test h.after_key r h.test (subst IsBadTest (sym key.1) bad.test)

pub class_once : IsOnce SpellsClass
class_once v w text r s h k = marked_once _ v w text r s h k

pub id_once : IsOnce SpellsId
id_once v w text r s h k = marked_once _ v w text r s h k

pub classes_once : IsOnce SpellsClasses
classes_once v w text r s h k = as_many_once SpellsClass class_once (λ _. ⊥) v w text r s h k

pub attrs_once : IsOnce SpellsAttrs
attrs_once v w text r s h k = as_many_once SpellsAttr attr_once IsBadAttr v w text r s h k

pub record SameFront (lead lead' : Option Combinator) (name name' id id' : Option (List ℕ)) (classes classes' : List (List ℕ)) (rest rest' : List ℕ) : Type 0 where
  pub lead_is : lead ≡ lead'
  pub name_is : name ≡ name'
  pub id_is : id ≡ id'
  pub classes_is : classes ≡ classes'
  pub rest_is : rest ≡ rest'

pub front_once : (a a' : Option Combinator) (b b' c c' : Option (List ℕ)) (d d' : List (List ℕ)) (text r s : List ℕ) → SpellsFront a b c d text r → SpellsFront a' b' c' d' text s → SameFront a a' b b' c c' d d' r s
front_once a a' b b' c c' d d' text r s h k =
    let lead = maybe_once SpellsLead lead_once a a' text h.after_lead k.after_lead h.leads k.leads in
    let name = maybe_once SpellsWord word_once b b' h.after_lead h.after_name k.after_name h.names (subst (λ t. Maybe SpellsWord b' t k.after_name) (sym lead.1) k.names) in
    let id = maybe_once SpellsId id_once c c' h.after_name h.after_id k.after_id h.ids (subst (λ t. Maybe SpellsId c' t k.after_id) (sym name.1) k.ids) in
    let marks = classes_once d d' h.after_id r s h.marks (subst (λ t. SpellsClasses d' t s) (sym id.1) k.marks) in
    record { lead_is = lead.0; name_is = name.0; id_is = id.0; classes_is = marks.0; rest_is = marks.1 }

-- the parts that can be read, maybe none
-- one part behind the other
pub spelled_front : {lead : Option Combinator} {name id : Option (List ℕ)} {classes : List (List ℕ)} {text rest : List ℕ} (after_lead after_name after_id : List ℕ) → Maybe SpellsLead lead text after_lead →
    Maybe SpellsWord name after_lead after_name → Maybe SpellsId id after_name after_id → SpellsClasses classes after_id rest → SpellsFront lead name id classes text rest
spelled_front after_lead after_name after_id leads names ids marks = record { after_lead = after_lead; leads = leads; after_name = after_name; names = names; after_id = after_id; ids = ids; marks = marks }

pub record SpellsParts (v : Mini) (text rest : List ℕ) : Type 0 where
  pub after_front : List ℕ
  pub front : SpellsFront v.lead v.name v.id v.classes text after_front
  pub attrs : SpellsAttrs v.attrs after_front rest

pub parts_once : IsOnce SpellsParts
parts_once v w text r s h k =
    let front = front_once v.lead w.lead v.name w.name v.id w.id v.classes w.classes text h.after_front k.after_front h.front k.front in
    let attrs = attrs_once v.attrs w.attrs h.after_front r s h.attrs (subst (λ t. SpellsAttrs w.attrs t s) (sym front.rest_is) k.attrs) in
    let of : Option Combinator → Option (List ℕ) → Option (List ℕ) → List (List ℕ) → List Asked → Mini = λ l n i c a. record { lead = l; name = n; id = i; classes = c; attrs = a } in (
      ap (λ x. of x v.name v.id v.classes v.attrs) front.lead_is ∙ ap (λ x. of w.lead x v.id v.classes v.attrs) front.name_is ∙ ap (λ x. of w.lead w.name x v.classes v.attrs) front.id_is
          ∙ ap (λ x. of w.lead w.name w.id x v.attrs) front.classes_is ∙ ap (λ x. of w.lead w.name w.id w.classes x) attrs.0,
      attrs.1,
    )

pub parts_not_bad : Excludes SpellsParts IsBadMini
parts_not_bad v text r h bad =
    let front = front_once v.lead bad.lead v.name bad.name v.id bad.id v.classes bad.classes text h.after_front bad.after_front h.front bad.front in
    as_many_not_bad SpellsAttr attr_once IsBadAttr attr_not_bad v.attrs h.after_front r h.attrs (subst (MeetsBad SpellsAttr IsBadAttr) (sym front.rest_is) bad.bad)

pub parts_of : (v : Mini) (text r : List ℕ) → SpellsMini v text r → SpellsParts v text r
parts_of v text r h = record { after_front = h.after_front; front = h.front; attrs = h.attrs }

pub mini_once : IsOnce SpellsMini
mini_once v w text r s h k = parts_once v w text r s (parts_of v text r h) (parts_of w text s k)

pub mini_not_bad : Excludes SpellsMini IsBadMini
mini_not_bad v text r h bad = parts_not_bad v text r (parts_of v text r h) bad

-- where no part can be read
pub no_part : (v : Mini) (text r : List ℕ) → SpellsParts v text r → has_part v ≡ false → SpellsNone SpellsMini text
no_part v text r h none w s k =
    let same = parts_once v w text r s h (parts_of w text s k) in
    true≢false (sym k.some ∙ ap has_part (sym same.0) ∙ none)

pub step_once : IsOnce SpellsStep
step_once v w text r s h k =
    let same = mini_once v w (after_blanks text) h.0 k.0 h.1 k.1 in
    (same.0, h.2 ∙ ap after_blanks same.1 ∙ sym k.2)

pub step_not_bad : Excludes SpellsStep IsBadStep
step_not_bad v text r h bad = mini_not_bad v (after_blanks text) h.0 h.1 bad

pub path_once : IsOnce SpellsPath
path_once v w text r s h k = as_many_once SpellsStep step_once IsBadStep v w text r s h k

pub path_not_bad : Excludes SpellsPath IsBadPath
path_not_bad v text r h bad = as_many_not_bad SpellsStep step_once IsBadStep step_not_bad v text r h bad
