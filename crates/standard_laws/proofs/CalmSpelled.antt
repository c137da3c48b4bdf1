-- The markup of calm trees is spelled as their tokens.
use Rattle.std.specs.Prelude.{◌≡◌, ◌≢◌, ◌⊎◌, ℕ, Bool, true, false, not, ◌==◌, List, [], ◌∷◌, ◌++◌, map, refl, if◌then◌else◌}
use Rattle.std.specs.List.{list_all}
use Rattle.std.specs.Str.{IsUtf8, chars}
use Rattle.std.specs.Cmp.Derive.{both_true}
use Rattle.std.proofs.Common.{inl, inr}
use Rattle.std.proofs.lemmas.List.{append_assoc, append-nil}
use mathlib.Core.Path.{◌∙◌, sym, ap, subst}
use Rattle.calm_pages.specs.Calm.{has_close}
use Rattle.dom_nodes.specs.Words.{is_among}
use Rattle.dom_markup.specs.Markup.{BeginsEnd, EndsAtTag, Item, SpellsItemsUpTo, end_tag, items_of}
use Rattle.dom_markup.specs.Names.{Mode, markup, mode_in, raw_text_of, text_of, void_names}
use Rattle.dom_markup.specs.Plain.{IsPlainIn, IsPlainTrees}
use Rattle.dom_markup.specs.ValueTrees.{Attribute, ValueTrees}
use Rattle.dom_markup.specs.ValueTrees.ValueTrees.{no_trees, text_node, comment_node, doctype_node, element_node}
use Rattle.dom_markup.proofs.grammar.Items.{Begins-suffix}
use Rattle.standard_tokens.specs.PlainMarkup.{TextKind, Rcdata, Rawtext, Script}
use Rattle.standard_tokens.specs.Reading.{is_switching}
use Rattle.standard_tokens.specs.Tokens.{Token, AChar, AComment, AnEnd}
use Rattle.standard_laws.specs.CalmTrees.{have_no_null}
use Rattle.standard_laws.specs.TreeTokens.{start_of, tokens_in}
use Rattle.standard_laws.proofs.CalmItems.{IsFine, IsShut, OwnContent, OwnName, Spelt, SpeltText, comment_spelt, comment_utf8, end_spelt, own_mode, own_spelt, raw_content, spelt_as, spelt_both, spelt_none, start_spelt, text_content, text_spelt}
use Rattle.standard_laws.proofs.CalmReadable.{AreUtf8, HaveUtf8Names}
use Rattle.standard_laws.proofs.CalmTags.{IsCalm, SpellsEnd, SpellsStart, spells_end, spells_start}

-- the names, the comments and the texts of these trees are as in calm documents
abbrev pub AreFine : ValueTrees → Type 0
AreFine no_trees = Unit {0}
AreFine (text_node contents later) = AreFine later
AreFine (comment_node contents later) = (list_all (λ b. not (b == 62)) contents ≡ true) × AreFine later
AreFine (doctype_node name public system later) = ⊥
AreFine (element_node name attributes children later) = IsFine name children × AreFine children × AreFine later

-- the trees were read, as their tokens, and other items are left
pub record Gone (t : ValueTrees) (text : List ℕ) (left : List Item) (last : List ℕ) : Type 0 where
  pub rest : List ℕ
  pub items : SpellsItemsUpTo markup rest left last
  pub spelt : Spelt text rest (tokens_in t)
  pub clean : have_no_null t ≡ true
  pub utf8 : AreUtf8 t

-- where items are left, so is text
items_some : (mode : Mode) (text : List ℕ) (item : Item) (items : List Item) (last : List ℕ) → SpellsItemsUpTo mode text (item ∷ items) last → text ≢ []
items_some mode text item items last spelled e = let s = Begins-suffix mode text item spelled.0 spelled.1 in s.2 (front_none s.0 (sym s.1 ∙ e))
  where
    front_none : (front : List ℕ) → front ++ spelled.0 ≡ [] → front ≡ []
    front_none [] e = refl
    front_none (x ∷ front) e = cc

joined_some : (xs : List Item) (item : Item) (items : List Item) → (first : Item) × (more : List Item) × (xs ++ item ∷ items ≡ first ∷ more)
joined_some [] item items = (item, items, refl)
joined_some (x ∷ xs) item items = (x, xs ++ item ∷ items, refl)

rest_some : (rest : List ℕ) (xs : List Item) (item : Item) (items : List Item) (last : List ℕ) → SpellsItemsUpTo markup rest (xs ++ item ∷ items) last → rest ≢ []
rest_some rest xs item items last spelled =
    let j = joined_some xs item items in items_some markup rest j.0 j.1 last (subst (λ (is : List Item). SpellsItemsUpTo markup rest is last) j.2 spelled)

-- ---- elements

-- what the end tag leaves
after_own : (name text : List ℕ) (attributes : List Attribute) (children : ValueTrees) (middle close contents : List ℕ) → (fine : IsFine name children) → (o : OwnName name) → SpellsStart text name attributes middle →
    OwnContent o.kind middle contents close → (rest : List ℕ) → BeginsEnd close name rest → Spelt text rest (start_of name attributes ∷ (map AChar (chars contents) ++ AnEnd (chars name) ∷ []))
after_own name text attributes children middle close contents fine o s content rest ends =
    own_spelt text name attributes middle close rest (chars contents) fine.ascii o s (spells_end close name rest ends content.calm) content.pieces content.is content.means content.passes

-- an element without a text
own_empty : (name text : List ℕ) (attributes : List Attribute) (middle rest : List ℕ) → chars name ≡ name → (o : OwnName name) → SpellsStart text name attributes middle → BeginsEnd middle name rest →
    Spelt text rest (start_of name attributes ∷ AnEnd (chars name) ∷ [])
own_empty name text attributes middle rest ascii o s ends =
    own_spelt text name attributes middle middle rest [] ascii o s (spells_end middle name rest ends s.calm) [] refl refl refl

-- the end of an element whose text is of its own kind, and what follows it
pub record OwnGone (text name : List ℕ) (attributes : List Attribute) (children : ValueTrees) (left : List Item) (last : List ℕ) : Type 0 where
  pub rest : List ℕ
  pub items : SpellsItemsUpTo markup rest left last
  pub spelt : Spelt text rest (start_of name attributes ∷ (tokens_in children ++ AnEnd (chars name) ∷ []))
  pub clean : have_no_null children ≡ true
  pub utf8 : AreUtf8 children

one_text : (name contents : List ℕ) (attributes : List Attribute) → (start_of name attributes ∷ (map AChar (chars contents) ++ AnEnd (chars name) ∷ [])) ≡
    (start_of name attributes ∷ (tokens_in (text_node contents no_trees) ++ AnEnd (chars name) ∷ []))
one_text name contents attributes = ap (λ (ts : List Token). start_of name attributes ∷ (ts ++ AnEnd (chars name) ∷ [])) (sym (append-nil (map AChar (chars contents))))

-- with references
text_gone : (name text : List ℕ) (attributes : List Attribute) (children : ValueTrees) (middle : List ℕ) (left : List Item) (last : List ℕ) → chars name ≡ name → (o : OwnName name) → o.kind ≡ Rcdata →
    IsShut children → IsPlainIn (text_of name) children → IsPlainTrees false children → SpellsStart text name attributes middle →
    SpellsItemsUpTo (text_of name) middle (items_of children ++ end_tag name ∷ left) last → OwnGone text name attributes children left last
text_gone name text attributes no_trees middle left last ascii o kind shut inner plain s spelled =
    record { rest = spelled.0; items = spelled.2; spelt = own_empty name text attributes middle spelled.0 ascii o s spelled.1.1; clean = refl; utf8 = tt }
text_gone name text attributes (text_node contents no_trees) middle left last ascii o kind shut inner plain s spelled =
    let b = spelled.1 in
    let front : List ℕ = b.0 in
    let close : List ℕ = spelled.0 in
    let ends = spelled.2 in
    let c : OwnContent Rcdata middle contents close =
    subst (λ (cs : List ℕ). OwnContent Rcdata middle cs close) (sym b.3) (text_content middle front close name b.2 s.calm (subst (λ (cs : List ℕ). has_close cs ≡ false) b.3 shut) (subst IsUtf8 b.3 plain.1)) in
    let k : OwnContent o.kind middle contents close = subst (λ (x : TextKind). OwnContent x middle contents close) (sym kind) c in
    record {
      rest = ends.0;
      items = ends.2;
      spelt = spelt_as text ends.0 _ _ (one_text name contents attributes)
          (own_spelt text name attributes middle close ends.0 (chars contents) ascii o s (spells_end close name ends.0 ends.1.1 k.calm) k.pieces k.is k.means k.passes);
      clean = both_true k.clean refl;
      utf8 = tt;
    }
text_gone name text attributes (text_node contents (text_node more later)) middle left last ascii o kind shut inner plain s spelled = absurd inner
text_gone name text attributes (text_node contents (comment_node more later)) middle left last ascii o kind shut inner plain s spelled = absurd inner
text_gone name text attributes (text_node contents (doctype_node n public system later)) middle left last ascii o kind shut inner plain s spelled = absurd inner
text_gone name text attributes (text_node contents (element_node n attrs below later)) middle left last ascii o kind shut inner plain s spelled = absurd inner
text_gone name text attributes (comment_node contents later) middle left last ascii o kind shut inner plain s spelled = absurd inner
text_gone name text attributes (doctype_node n public system later) middle left last ascii o kind shut inner plain s spelled = absurd inner
text_gone name text attributes (element_node n attrs below later) middle left last ascii o kind shut inner plain s spelled = absurd inner

-- without references
abbrev ReadsRaw : TextKind → Type 0
ReadsRaw kind = (middle front close name : List ℕ) → EndsAtTag name middle front close → IsCalm middle → has_close front ≡ false → OwnContent kind middle front close

raw_gone : (name text : List ℕ) (attributes : List Attribute) (children : ValueTrees) (middle : List ℕ) (left : List Item) (last : List ℕ) → chars name ≡ name → (o : OwnName name) → ReadsRaw o.kind →
    IsShut children → IsPlainIn (raw_text_of name) children → SpellsStart text name attributes middle →
    SpellsItemsUpTo (raw_text_of name) middle (items_of children ++ end_tag name ∷ left) last → OwnGone text name attributes children left last
raw_gone name text attributes no_trees middle left last ascii o raw shut inner s spelled =
    record { rest = spelled.0; items = spelled.2; spelt = own_empty name text attributes middle spelled.0 ascii o s spelled.1.1; clean = refl; utf8 = tt }
raw_gone name text attributes (text_node contents no_trees) middle left last ascii o raw shut inner s spelled =
    let close : List ℕ = spelled.0 in
    let ends = spelled.2 in
    let k : OwnContent o.kind middle contents close = raw middle contents close name spelled.1.1 s.calm shut in
    record {
      rest = ends.0;
      items = ends.2;
      spelt = spelt_as text ends.0 _ _ (one_text name contents attributes)
          (own_spelt text name attributes middle close ends.0 (chars contents) ascii o s (spells_end close name ends.0 ends.1.1 k.calm) k.pieces k.is k.means k.passes);
      clean = both_true k.clean refl;
      utf8 = tt;
    }
raw_gone name text attributes (text_node contents (text_node more later)) middle left last ascii o raw shut inner s spelled = absurd inner
raw_gone name text attributes (text_node contents (comment_node more later)) middle left last ascii o raw shut inner s spelled = absurd inner
raw_gone name text attributes (text_node contents (doctype_node n public system later)) middle left last ascii o raw shut inner s spelled = absurd inner
raw_gone name text attributes (text_node contents (element_node n attrs below later)) middle left last ascii o raw shut inner s spelled = absurd inner
raw_gone name text attributes (comment_node contents later) middle left last ascii o raw shut inner s spelled = absurd inner
raw_gone name text attributes (doctype_node n public system later) middle left last ascii o raw shut inner s spelled = absurd inner
raw_gone name text attributes (element_node n attrs below later) middle left last ascii o raw shut inner s spelled = absurd inner

own_gone : (name text : List ℕ) (attributes : List Attribute) (children : ValueTrees) (middle : List ℕ) (left : List Item) (last : List ℕ) → chars name ≡ name → (o : OwnName name) → IsShut children →
    IsPlainIn (mode_in name) children → IsPlainTrees false children → SpellsStart text name attributes middle →
    SpellsItemsUpTo (mode_in name) middle (items_of children ++ end_tag name ∷ left) last → OwnGone text name attributes children left last
own_gone name text attributes children middle left last ascii o shut inner plain s spelled = by_kind o.kind refl
  where
    by_kind : (kind : TextKind) → o.kind ≡ kind → OwnGone text name attributes children left last
    by_kind Rcdata is =
        let mode : mode_in name ≡ text_of name = o.mode ∙ ap (λ k. own_mode k name) is in
        text_gone name text attributes children middle left last ascii o is shut (subst (λ m. IsPlainIn m children) mode inner) plain s
        (subst (λ m. SpellsItemsUpTo m middle (items_of children ++ end_tag name ∷ left) last) mode spelled)
    by_kind Rawtext is =
        let mode : mode_in name ≡ raw_text_of name = o.mode ∙ ap (λ k. own_mode k name) is in
        raw_gone name text attributes children middle left last ascii o (subst ReadsRaw (sym is) (raw_content Rawtext (λ after. refl))) shut (subst (λ m. IsPlainIn m children) mode inner) s
        (subst (λ m. SpellsItemsUpTo m middle (items_of children ++ end_tag name ∷ left) last) mode spelled)
    by_kind Script is =
        let mode : mode_in name ≡ raw_text_of name = o.mode ∙ ap (λ k. own_mode k name) is in
        raw_gone name text attributes children middle left last ascii o (subst ReadsRaw (sym is) (raw_content Script (λ after. refl))) shut (subst (λ m. IsPlainIn m children) mode inner) s
        (subst (λ m. SpellsItemsUpTo m middle (items_of children ++ end_tag name ∷ left) last) mode spelled)

-- ---- any element

abbrev pub Inner : ValueTrees → List ℕ → List ℕ → Type 0
Inner children name last = (text : List ℕ) (left : List Item) → IsCalm text → SpellsItemsUpTo markup text (items_of children ++ end_tag name ∷ left) last → Gone children text (end_tag name ∷ left) last

abbrev pub Outer : ValueTrees → List Item → List ℕ → Type 0
Outer later left last = (text : List ℕ) → IsCalm text → SpellsItemsUpTo markup text (items_of later ++ left) last → Gone later text left last

abbrev Tail : List ℕ → ValueTrees → ValueTrees → List Token
Tail name children later = (if is_among name void_names then [] else tokens_in children ++ AnEnd (chars name) ∷ []) ++ tokens_in later

-- behind the element
element_done : (name : List ℕ) (attributes : List Attribute) (children later : ValueTrees) (text middle : List ℕ) (left : List Item) (last : List ℕ) (ts : List Token) →
    (if is_among name void_names then [] else tokens_in children ++ AnEnd (chars name) ∷ []) ≡ ts → Spelt text middle (start_of name attributes ∷ ts) → have_no_null children ≡ true → HaveUtf8Names attributes → AreUtf8 children →
    Gone later middle left last → Gone (element_node name attributes children later) text left last
element_done name attributes children later text middle left last ts is spelt clean names inner g = record {
  rest = g.rest;
  items = g.items;
  spelt = spelt_as text g.rest (start_of name attributes ∷ (ts ++ tokens_in later)) (tokens_in (element_node name attributes children later)) (ap (λ (us : List Token). start_of name attributes ∷ (us ++ tokens_in later)) (sym is))
      (spelt_both text middle g.rest (start_of name attributes ∷ ts) (tokens_in later) spelt g.spelt);
  clean = both_true clean g.clean;
  utf8 = (names, inner, g.utf8);
}

pub element_gone : (name : List ℕ) (attributes : List Attribute) (children later : ValueTrees) (text : List ℕ) (left : List Item) (last : List ℕ) → IsFine name children →
    (is_among name void_names ≡ true → children ≡ no_trees) → IsPlainIn (mode_in name) children → IsPlainTrees false children → Inner children name last → Outer later left last → IsCalm text →
    SpellsItemsUpTo markup text (items_of (element_node name attributes children later) ++ left) last → Gone (element_node name attributes children later) text left last
element_gone name attributes children later text left last fine void inner plain below outer calm spelled =
    by_read fine.read (is_among name void_names) refl
  where
    middle : List ℕ
    middle = spelled.0

    s : SpellsStart text name attributes middle
    s = spells_start text name attributes middle spelled.1 calm

    -- the items behind the start tag
    void_items : is_among name void_names ≡ true → SpellsItemsUpTo (mode_in name) middle (items_of later ++ left) last
    void_items e = rw e at spelled.2

    other_items : is_among name void_names ≡ false → SpellsItemsUpTo (mode_in name) middle (items_of children ++ end_tag name ∷ (items_of later ++ left)) last
    other_items e =
        let more : SpellsItemsUpTo (mode_in name) middle ((items_of children ++ end_tag name ∷ items_of later) ++ left) last = rw e at spelled.2 in
        subst (λ (is : List Item). SpellsItemsUpTo (mode_in name) middle is last) (append_assoc (items_of children) (end_tag name ∷ items_of later) left) more

    in_markup : (mode_in name ≡ markup) → is_switching name ≡ false → (x : Bool) → is_among name void_names ≡ x → Gone (element_node name attributes children later) text left last
    in_markup mode still true e =
        let g : Gone later middle left last = outer middle s.calm (subst (λ m. SpellsItemsUpTo m middle (items_of later ++ left) last) mode (void_items e)) in
        element_done name attributes children later text middle left last [] (rw e refl) (start_spelt text name attributes middle fine.ascii still s) (subst (λ t. have_no_null t ≡ true) (sym (void e)) refl) s.utf8_names (subst AreUtf8 (sym (void e)) tt) g
    in_markup mode still false e =
        let c : Gone children middle (end_tag name ∷ (items_of later ++ left)) last =
        below middle (items_of later ++ left) s.calm (subst (λ m. SpellsItemsUpTo m middle (items_of children ++ end_tag name ∷ (items_of later ++ left)) last) mode (other_items e)) in
        let ends = c.items in
        let end : SpellsEnd c.rest name ends.0 = spells_end c.rest name ends.0 ends.1 c.spelt.calm in
        let g : Gone later ends.0 left last = outer ends.0 end.calm ends.2 in
        element_done name attributes children later text ends.0 left last (tokens_in children ++ AnEnd (chars name) ∷ []) (rw e refl)
        (spelt_both text middle ends.0 (start_of name attributes ∷ []) (tokens_in children ++ AnEnd (chars name) ∷ []) (start_spelt text name attributes middle fine.ascii still s)
        (spelt_both middle c.rest ends.0 (tokens_in children) (AnEnd (chars name) ∷ []) c.spelt (end_spelt c.rest name ends.0 end))) c.clean s.utf8_names c.utf8 g

    in_own : (o : OwnName name) → IsShut children → Gone (element_node name attributes children later) text left last
    in_own o shut =
        let w : OwnGone text name attributes children (items_of later ++ left) last = own_gone name text attributes children middle (items_of later ++ left) last fine.ascii o shut inner plain s (other_items o.unvoid) in
        element_done name attributes children later text w.rest left last (tokens_in children ++ AnEnd (chars name) ∷ []) (rw o.unvoid refl) w.spelt w.clean s.utf8_names w.utf8 (outer w.rest w.spelt.calm w.items)

    by_read : ((mode_in name ≡ markup) × (is_switching name ≡ false)) ⊎ (OwnName name × IsShut children) → (x : Bool) → is_among name void_names ≡ x → Gone (element_node name attributes children later) text left last
    by_read (inl m) x e = in_markup m.0 m.1 x e
    by_read (inr o) x e = in_own o.0 o.1

-- ---- trees

pub text_gone_on : (contents : List ℕ) (later : ValueTrees) (text : List ℕ) (item : Item) (left : List Item) (last : List ℕ) → Outer later (item ∷ left) last → IsCalm text →
    SpellsItemsUpTo markup text (items_of (text_node contents later) ++ item ∷ left) last → Gone (text_node contents later) text (item ∷ left) last
text_gone_on contents later text item left last outer calm spelled =
    let b = spelled.1 in
    let t : SpeltText text spelled.0 contents = text_spelt text spelled.0 contents b.1 b.2 (rest_some spelled.0 (items_of later) item left last spelled.2) calm in
    let g : Gone later spelled.0 (item ∷ left) last = outer spelled.0 t.spelt.calm spelled.2 in
    record { rest = g.rest; items = g.items; spelt = spelt_both text spelled.0 g.rest (map AChar (chars contents)) (tokens_in later) t.spelt g.spelt; clean = both_true t.clean g.clean; utf8 = g.utf8 }

pub trees_gone : (t : ValueTrees) → AreFine t → IsPlainTrees false t → (text : List ℕ) (item : Item) (left : List Item) (last : List ℕ) → IsCalm text → SpellsItemsUpTo markup text (items_of t ++ item ∷ left) last →
    Gone t text (item ∷ left) last
trees_gone no_trees fine plain text item left last calm spelled = record { rest = text; items = spelled; spelt = spelt_none text calm; clean = refl; utf8 = tt }
trees_gone (text_node contents later) fine plain text item left last calm spelled =
    text_gone_on contents later text item left last (λ rest c s. trees_gone later fine plain.3 rest item left last c s) calm spelled
trees_gone (comment_node contents later) fine plain text item left last calm spelled =
    let b = spelled.1 in
    let c : Spelt text spelled.0 (AComment (chars contents) ∷ []) = comment_spelt text b.0 contents spelled.0 b.1 b.2.is fine.0 calm in
    let g : Gone later spelled.0 (item ∷ left) last = trees_gone later fine.1 plain.1 spelled.0 item left last c.calm spelled.2 in
    record { rest = g.rest; items = g.items; spelt = spelt_both text spelled.0 g.rest (AComment (chars contents) ∷ []) (tokens_in later) c g.spelt; clean = g.clean; utf8 = (comment_utf8 text b.0 contents spelled.0 b.1 b.2.is calm, g.utf8) }
trees_gone (doctype_node name public system later) fine plain text item left last calm spelled = absurd fine
trees_gone (element_node name attributes children later) fine plain text item left last calm spelled =
    element_gone name attributes children later text (item ∷ left) last fine.0 plain.3 plain.4 plain.5 (λ rest more c s. trees_gone children fine.1 plain.5 rest (end_tag name) more last c s)
    (λ rest c s. trees_gone later fine.2 plain.6 rest item left last c s) calm spelled
