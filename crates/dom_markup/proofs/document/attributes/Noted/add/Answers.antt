use Rattle.std.proofs.Common.{◌≡◌, ◌∷◌, ◌++◌, ℕ, List, Bool, [], None, refl, sym, ◌∙◌, ap}
use Rattle.std.specs.List.{list_any}
use Rattle.std.proofs.lemmas.Result.{on_ok_weaker}
use Rattle.dom_nodes.specs.declared.name.Attr.{Attr}
use Rattle.dom_nodes.specs.declared.name.NameParts.{NameParts}
use Rattle.dom_nodes.specs.declared.name.Namespace.TheVariants.{None as NoNamespace}
use Rattle.dom_nodes.specs.Changes.{is_attr_named}
use Rattle.dom_markup.specs.Bytes.{folded}
use Rattle.dom_markup.specs.References.{decoded}
use Rattle.dom_markup.specs.Numbered.{read_attr}
use Rattle.dom_markup.specs.ByteClasses.{attribute_of}
use Rattle.dom_markup.proofs.rows.AttrLemmas.{left_out, added}
use Rattle.dom_markup.proofs.document.attributes.Noted.add.Goals as goal

-- the test was made on the attributes, with the folded name
tested : (attrs seen : List Attr) (name local folds : List ℕ) (found answer : Bool) → seen ≡ attrs → name ≡ local → local ≡ folds →
    found ≡ list_any (is_attr_named name) seen → found ≡ answer → list_any (is_attr_named folds) attrs ≡ answer
tested attrs seen name local folds found answer s f g h i =
    ap (λ (n : List ℕ). list_any (is_attr_named n) attrs) (sym (f ∙ g)) ∙ ap (list_any (is_attr_named name)) (sym s) ∙ sym h ∙ i

abbrev with_value : NameParts → List ℕ → Attr
with_value name value = record { name = name; value = value }

abbrev of : List ℕ → List ℕ → Attr
of local value = record { name = record { prefix = None; ns = NoNamespace; local = local }; value = value }

attr_of_read : (local value name text : List ℕ) → local ≡ folded name → value ≡ decoded text → of local value ≡ read_attr (attribute_of name text)
attr_of_read local value name text e f = ap (λ (l : List ℕ). of l value) e ∙ ap (λ (v : List ℕ). of (folded name) v) f

pub returns-then-has-clause-added : goal.returns-then-has-clause-added
returns-then-has-clause-added c =
    left_out c.args.attrs.now.items (attribute_of c.args.written.name.now c.args.written.value.now)
    (tested _ _ _ _ _ _ _ c.as_slice.ensures.value refl c.in_ok-local.ensures c.has.ensures c.if-has.true)

pub returns-clause-added : goal.returns-clause-added
returns-clause-added c =
    let new = tested _ _ _ _ _ _ _ c.as_slice.ensures.value refl c.in_ok-local.ensures c.has.ensures c.if-has.false in
    let attr = attr_of_read c.in_ok-local.local c.in_ok-value.value c.args.written.name.now c.args.written.value.now c.in_ok-local.ensures c.in_ok-value.ensures in
    let made : Attr = record { name = c.plain-name.result; value = c.in_ok-value.value } in
    let named : made ≡ of c.in_ok-local.local c.in_ok-value.value = ap (λ (name : NameParts). with_value name c.in_ok-value.value) c.plain-name.ensures in
    let grown = c.in_ok-push.ensures.items ∙ ap (λ (a : Attr). c.args.attrs.now.items ++ a ∷ []) named ∙ ap (λ (a : Attr). c.args.attrs.now.items ++ a ∷ []) attr in
    on_ok_weaker c.note.result (λ _ kept e. grown ∙ added c.args.attrs.now.items (attribute_of c.args.written.name.now c.args.written.value.now) new kept e) c.note.ensures
