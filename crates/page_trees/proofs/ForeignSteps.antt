-- What the rules make of the start tags of elements of SVG and MathML.
use Rattle.std.proofs.Common.{◌≡◌, ◌&&◌, ℕ, Bool, true, false, List, [], ◌∷◌, codes, map, reverse, refl, sym, ap, subst, ◌∙◌, true≢false}
use Rattle.standard_tokens.specs.Entries.{Ending, Starting}
use Rattle.standard_tokens.specs.Machine.{Tag as StandardTag, distinct, token_of}
use Rattle.standard_tokens.specs.Tokens.{Attr, AStart, AnEnd, Token}
use Rattle.standard_trees.specs.Building.{Building, adjusted, is_self_closing, own_name, perform, renamed, token_attrs, with_names, with_space, with_tree}
use Rattle.standard_trees.specs.GrowingTree.{GrowingTree, inserted}
use Rattle.standard_trees.specs.NameLists.{mathml_attributes, svg_attributes, svg_names}
use Rattle.standard_trees.specs.RuleWords.{Act, AdjustForeignAttributes, AdjustMathmlAttributes, AdjustSvgAttributes, AdjustSvgName, InsertMathmlElement, InsertSvgElement}
use Rattle.standard_trees.specs.RuleWords.{Pop, ReconstructFormatting, SelfClosing, does, is}
use Rattle.standard_trees.specs.TreeRules.{rules}
use Rattle.standard_trees.specs.TreeStore.{MathMl, NodeAttr, Svg}
use Rattle.std.proofs.lemmas.Bool.{and_parts}
use Rattle.page_tokens.specs.PlainNames.{are_plain, has_plain_names, is_plain}
use Rattle.page_tokens.specs.Standard.{kind_of}
use Rattle.page_tokens.specs.declared.token.Tag.{Tag}
use Rattle.page_tokens.specs.declared.token.TagKind.{TagKind}
use Rattle.page_trees.specs.BodyTags.{ActsFor, Continues}
use Rattle.page_trees.specs.Constructs.{Constructs, IsCurrentTag, RemembersLimits}
use Rattle.page_trees.specs.ForeignSteps.{InsertsForeign, closed_if}
use Rattle.page_trees.specs.Groups.{body_rules_for, example_of, group_named}
use Rattle.page_trees.specs.Modes.{is_start_kind}
use Rattle.page_trees.specs.Stands.{Does, IsTagOf, popped}
use Rattle.page_trees.specs.TreeState.{TreeState}
use Rattle.page_trees.specs.declared.builder.Next.{Next}
use Rattle.page_trees.specs.declared.builder.TreeBuilder.{TreeBuilder}
use Rattle.page_trees.specs.declared.modes.groups.Group.{Group}
use Rattle.page_trees.specs.declared.name.Name.{Name}
use Rattle.page_trees.specs.declared.stack.ElementNamespace.{ElementNamespace}
use Rattle.page_trees.proofs.BodyRules.{choice, own_of_start}
use Rattle.page_trees.proofs.BodyStarts.{by_name, continues, still, stepped}
use Rattle.page_trees.proofs.ForeignNames.{mathml_tag, plain, svg_tag}

-- ---- the current tag

kind_start : (k : TagKind) → is_start_kind k ≡ true → kind_of k ≡ Starting
kind_start TagKind.Start h = refl
kind_start TagKind.End h = absurd (true≢false (sym h))

token_start : (standard : StandardTag) → standard.kind ≡ Starting → token_of standard ≡ AStart standard.name (distinct (reverse standard.attrs)) standard.self_closing
token_start standard e =
    ap (λ k. elim k [ Starting ↦ AStart standard.name (distinct (reverse standard.attrs)) standard.self_closing | Ending ↦ AnEnd standard.name ]) e

-- the tag with its attributes as the definition has it
abbrev pub attrs_of : StandardTag → List Attr
attrs_of standard = distinct (reverse standard.attrs)

pub start_token : (name : Name) (tag : Tag) (b : Building) (c : IsCurrentTag name tag b) → is_start_kind tag.kind ≡ true →
    b.token ≡ AStart c.standard.name (attrs_of c.standard) c.standard.self_closing
start_token name tag b c starts = c.token ∙ token_start c.standard (sym c.is.kind ∙ kind_start tag.kind starts)

pub start_attrs : (name : Name) (tag : Tag) (b : Building) (c : IsCurrentTag name tag b) → is_start_kind tag.kind ≡ true → b.attrs ≡ map plain (attrs_of c.standard)
start_attrs name tag b c starts = c.attrs ∙ ap token_attrs (start_token name tag b c starts)

start_plain : (name : Name) (tag : Tag) (b : Building) (c : IsCurrentTag name tag b) → is_start_kind tag.kind ≡ true → are_plain (attrs_of c.standard) ≡ true
start_plain name tag b c starts =
    (and_parts (is_plain c.standard.name) (are_plain (attrs_of c.standard)) (sym (ap has_plain_names (token_start c.standard (sym c.is.kind ∙ kind_start tag.kind starts))) ∙ c.plain)).1

closing_is : (name : Name) (tag : Tag) (b : Building) → IsCurrentTag name tag b → is_start_kind tag.kind ≡ true → is_self_closing b.token ≡ tag.self_closing
closing_is name tag b c starts = ap is_self_closing (start_token name tag b c starts) ∙ sym c.is.self_closing

still_closing : (name : List ℕ) (token : Token) → is_self_closing (renamed name token) ≡ is_self_closing token
still_closing name (AStart own attrs closing) = refl
still_closing name _ = refl

-- the element of MathML that the tag makes
mathml_element : (name : Name) (tag : Tag) (b : Building) → is_start_kind tag.kind ≡ true → IsCurrentTag name tag b →
    IsTagOf ElementNamespace.MathMl name tag (own_name b.token) (map with_space (with_names mathml_attributes b.attrs))
mathml_element name tag b starts c =
    subst (λ (written : List ℕ). IsTagOf ElementNamespace.MathMl name tag written (map with_space (with_names mathml_attributes b.attrs))) (sym (ap own_name (start_token name tag b c starts)))
    (subst (λ (attrs : List NodeAttr). IsTagOf ElementNamespace.MathMl name tag c.standard.name (map with_space (with_names mathml_attributes attrs))) (sym (start_attrs name tag b c starts))
    (mathml_tag name tag c.standard.name (attrs_of c.standard) c.written c.named c.is.name c.is.attrs (start_plain name tag b c starts)))

-- the element of SVG
svg_element : (name : Name) (tag : Tag) (b : Building) → is_start_kind tag.kind ≡ true → IsCurrentTag name tag b →
    IsTagOf ElementNamespace.Svg name tag (own_name b.token) (map with_space (with_names svg_attributes b.attrs))
svg_element name tag b starts c =
    subst (λ (written : List ℕ). IsTagOf ElementNamespace.Svg name tag written (map with_space (with_names svg_attributes b.attrs))) (sym (ap own_name (start_token name tag b c starts)))
    (subst (λ (attrs : List NodeAttr). IsTagOf ElementNamespace.Svg name tag c.standard.name (map with_space (with_names svg_attributes attrs))) (sym (start_attrs name tag b c starts))
    (svg_tag name tag c.standard.name (attrs_of c.standard) c.written c.named c.is.name c.is.attrs (start_plain name tag b c starts)))

-- ---- the element is inserted

-- the state with another current token
retold : (s : TreeBuilder) (b : Building) (t : GrowingTree) (token : Token) (attrs : List NodeAttr) → Constructs s (with_tree b t) → Constructs s (record b { tree = t; token = token; attrs = attrs })
retold s b t token attrs c = record {
  tree = c.tree;
  foster = c.foster;
  in_head = c.in_head;
  mode = c.mode;
  original = c.original;
  template_modes = c.template_modes;
  frameset_ok = c.frameset_ok;
  scripting = c.scripting;
  quirks = c.quirks;
  unread = c.unread;
  pending = c.pending;
  skip = c.skip;
  tokenizer = c.tokenizer;
}

abbrev told : Building → Token → List NodeAttr → GrowingTree → Building
told b token attrs t = record b { tree = t; token = token; attrs = attrs }

pub closed_element : (old : TreeBuilder) (tree : TreeState) (closing : Bool) (b : Building) (t : GrowingTree) → closing ≡ true → Does popped old.tree tree → Constructs old (with_tree b t) →
    Constructs (record old { tree = tree }) (with_tree b (closed_if closing t))
closed_element old tree closing b t e pops stands =
    subst (λ x. Constructs (record old { tree = tree }) (with_tree b (closed_if x t))) (sym e) (stepped old tree popped pops (with_tree b t) refl stands)

-- it is popped if the tag is self-closing
popped_by : (s : TreeBuilder) (b : Building) (t : GrowingTree) (token : Token) (attrs : List NodeAttr) (x y : Bool) → x ≡ y → Constructs s (with_tree b (closed_if y t)) →
    Constructs s (elim (x && true) [ true ↦ perform Pop (told b token attrs t) | false ↦ told b token attrs t ])
unfolding perform
popped_by s b t token attrs true true e c = retold s b (popped t) token attrs c
popped_by s b t token attrs false false e c = retold s b t token attrs c
popped_by s b t token attrs true false e c = absurd (true≢false e)
popped_by s b t token attrs false true e c = absurd (true≢false (sym e))

abbrev pub mathml_acts : List Act
mathml_acts = does AdjustMathmlAttributes [] ∷ does AdjustForeignAttributes [] ∷ does InsertMathmlElement [] ∷ does Pop (is SelfClosing ∷ []) ∷ []

pub mathml_inserted : (name : Name) (tag : Tag) (old new : TreeBuilder) → InsertsForeign ElementNamespace.MathMl name tag old new → ActsFor name tag mathml_acts old new
unfolding perform
mathml_inserted name tag old new inserts starts within b current stands =
    let attrs : List NodeAttr = map with_space (with_names mathml_attributes b.attrs) in
    popped_by new b (inserted MathMl (own_name b.token) attrs b.tree) b.token attrs (is_self_closing b.token) tag.self_closing (closing_is name tag b current starts)
    (inserts (own_name b.token) attrs (mathml_element name tag b starts current) within b stands)

-- `svg` itself is in no other case
abbrev svg_acts : List Act
svg_acts = does AdjustSvgAttributes [] ∷ does AdjustForeignAttributes [] ∷ does InsertSvgElement [] ∷ does Pop (is SelfClosing ∷ []) ∷ []

svg_inserted : (tag : Tag) (old new : TreeBuilder) → InsertsForeign ElementNamespace.Svg Name.Svg tag old new → ActsFor Name.Svg tag svg_acts old new
unfolding perform
svg_inserted tag old new inserts starts within b current stands =
    let attrs : List NodeAttr = map with_space (with_names svg_attributes b.attrs) in
    let own : own_name b.token ≡ codes "svg" = own_of_start Name.Svg tag b current starts (λ e. cc) in
    let same : adjusted svg_names (own_name b.token) ≡ own_name b.token = ap (adjusted svg_names) own ∙ sym own in
    popped_by new b (inserted Svg (own_name b.token) attrs b.tree) b.token attrs (is_self_closing b.token) tag.self_closing (closing_is Name.Svg tag b current starts)
    (subst (λ (local : List ℕ). Constructs new (with_tree b (closed_if tag.self_closing (inserted Svg local attrs b.tree)))) same
    (inserts (own_name b.token) attrs (svg_element Name.Svg tag b starts current) within b stands))

abbrev pub foreign_svg_acts : List Act
foreign_svg_acts = does AdjustSvgName [] ∷ svg_acts

own_renamed : (name : List ℕ) (token : Token) (own : List ℕ) (attrs : List Attr) (closing : Bool) → token ≡ AStart own attrs closing → own_name (renamed name token) ≡ name
own_renamed name token own attrs closing e = ap (λ t. own_name (renamed name t)) e

pub foreign_svg_inserted : (name : Name) (tag : Tag) (old new : TreeBuilder) → InsertsForeign ElementNamespace.Svg name tag old new → ActsFor name tag foreign_svg_acts old new
unfolding perform
foreign_svg_inserted name tag old new inserts starts within b current stands =
    let attrs : List NodeAttr = map with_space (with_names svg_attributes b.attrs) in
    let local : List ℕ = adjusted svg_names (own_name b.token) in
    let token : Token = renamed local b.token in
    let own : own_name token ≡ local = own_renamed local b.token _ _ _ (start_token name tag b current starts) in
    popped_by new b (inserted Svg (own_name token) attrs b.tree) token attrs (is_self_closing token) tag.self_closing
    (still_closing local b.token ∙ closing_is name tag b current starts)
    (subst (λ (text : List ℕ). Constructs new (with_tree b (closed_if tag.self_closing (inserted Svg text attrs b.tree)))) (sym own)
    (inserts (own_name b.token) attrs (svg_element name tag b starts current) within b stands))

-- ---- "in body"

math_row : (b : Building) → choice b (body_rules_for (example_of Group.Math)) ≡ does ReconstructFormatting [] ∷ mathml_acts
unfolding rules
math_row b = refl

svg_row : (b : Building) → choice b (body_rules_for (example_of Group.Svg)) ≡ does ReconstructFormatting [] ∷ svg_acts
unfolding rules
svg_row b = refl

still_begun : (name : Name) (tag : Tag) (b : Building) → IsCurrentTag name tag b → IsCurrentTag name tag (perform ReconstructFormatting b)
unfolding perform
still_begun name tag b current = still name tag b (perform ReconstructFormatting b) refl refl current

pub math_started : (group : Group) (name : Name) (tag : Tag) (old new : TreeBuilder) (next : Next) → group ≡ Group.Math → next ≡ Next.Done → RemembersLimits old new →
    InsertsForeign ElementNamespace.MathMl name tag old new → Continues group name tag old new next
math_started group name tag old new next e done remembers inserts =
    subst (λ g. Continues g name tag old new next) (sym e)
    (continues Group.Math (does ReconstructFormatting [] ∷ mathml_acts) name tag old new next math_row refl done remembers
    (λ b starts within current stands. mathml_inserted name tag old new inserts starts within (perform ReconstructFormatting b) (still_begun name tag b current) stands))

svg_named : (name : Name) → group_named name ≡ Group.Svg → name ≡ Name.Svg
svg_named Name.Svg e = refl
svg_named _ e = absurd (cc)

svg_continued : (tag : Tag) (old new : TreeBuilder) (next : Next) → next ≡ Next.Done → RemembersLimits old new →
    InsertsForeign ElementNamespace.Svg Name.Svg tag old new → Continues Group.Svg Name.Svg tag old new next
svg_continued tag old new next done remembers inserts =
    continues Group.Svg (does ReconstructFormatting [] ∷ svg_acts) Name.Svg tag old new next svg_row refl done remembers
    (λ b starts within current stands. svg_inserted tag old new inserts starts within (perform ReconstructFormatting b) (still_begun Name.Svg tag b current) stands)

pub svg_started : (group : Group) (name : Name) (tag : Tag) (old new : TreeBuilder) (next : Next) → group ≡ Group.Svg → next ≡ Next.Done → RemembersLimits old new →
    InsertsForeign ElementNamespace.Svg name tag old new → Continues group name tag old new next
svg_started group name tag old new next e done remembers inserts covers named =
    by_name group Group.Svg name Name.Svg tag old new next e (svg_named name)
    (svg_continued tag old new next done remembers (subst (λ (n : Name). InsertsForeign ElementNamespace.Svg n tag old new) (svg_named name (named ∙ e)) inserts)) covers named
