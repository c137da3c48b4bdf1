-- What the rules for "in body" make of the start tag of `image`: it is processed as one of `img`.
use Rattle.std.proofs.Common.{◌≡◌, ℕ, Bool, true, List, [], ◌∷◌, codes, map, reverse, refl, sym, ap, subst, suc, ◌∙◌, true≢false}
use Rattle.standard_tokens.specs.Machine.{distinct}
use Rattle.standard_tokens.specs.Tokens.{AStart, Attr}
use Rattle.standard_trees.specs.Building.{Building, is_empty, own_name, perform, performed, renamed, run, taken, token_attrs, with_tree}
use Rattle.standard_trees.specs.GrowingTree.{adjusted_current, inserted_at, is_html_point, is_named, place}
use Rattle.standard_trees.specs.NameLists.{text_points}
use Rattle.standard_trees.specs.RuleWords.{Dispatcher, ForeignContent, InBody, InCaption, InCell, Mode as StandardMode, Pop, Rename, Use}
use Rattle.standard_trees.specs.RuleWords.{UseCurrentMode, goes}
use Rattle.standard_trees.specs.TreeRules.{rules}
use Rattle.standard_trees.specs.TreeStore.{Html, NodeAttr, is_html, space_in}
use Rattle.page_tokens.specs.declared.token.Tag.{Tag}
use Rattle.page_trees.specs.BodyTags.{Continues, begun, comes_back, is_body_mode}
use Rattle.page_trees.specs.CharacterSteps.{goes_to_mode}
use Rattle.page_trees.specs.Constructs.{ComesTo, Constructs, IsCurrentTag, RemembersLimits}
use Rattle.page_trees.specs.Groups.{body_rules_for, group_named}
use Rattle.page_trees.specs.Images.{StartsImage, as_img, img_acts}
use Rattle.page_trees.specs.Modes.{is_start_kind}
use Rattle.page_trees.specs.Names.{html_rows, rare_rows}
use Rattle.page_trees.specs.SameNodes.{attr_for}
use Rattle.page_trees.specs.Stands.{Does, IsTagOf, popped}
use Rattle.page_trees.specs.TagInsertions.{InsertsTag}
use Rattle.page_trees.specs.TreeState.{TreeState}
use Rattle.page_trees.specs.declared.builder.Next.{Next}
use Rattle.page_trees.specs.declared.builder.TreeBuilder.{TreeBuilder}
use Rattle.page_trees.specs.declared.modes.groups.Group.{Group}
use Rattle.page_trees.specs.declared.name.Name.{Name}
use Rattle.page_trees.specs.declared.stack.ElementNamespace.{ElementNamespace}
use Rattle.page_trees.proofs.BodyRules.{choice, comes_of_acts, current_start, kind_start, rules_for_token, start_rows}
use Rattle.page_trees.proofs.BuilderSteps.{popped_one}
use Rattle.page_trees.proofs.CharacterRules.{picked}
use Rattle.page_trees.proofs.Dispatching.{comes_by_mode}
use Rattle.page_trees.proofs.NamesAgree.{both}
use Rattle.page_trees.proofs.RulesRun.{comes_by, plain_again, plainly}
use Rattle.page_trees.proofs.TagKinds.{token_tag}
use Rattle.page_trees.proofs.TokenRules.{taken_of}

pub image_named : (name : Name) → group_named name ≡ Group.Image → name ≡ Name.Image
image_named Name.Image e = refl
image_named _ e = absurd (cc)

-- ---- the element

-- `img` is in `Name`
img_known : Name.Img ≡ Name.Other → ⊥
img_known e = cc

-- the tag makes an element `img`
img_tag : (tag : Tag) (b : Building) → IsCurrentTag Name.Image tag b → is_start_kind tag.kind ≡ true → IsTagOf ElementNamespace.Html Name.Img tag (codes "img") b.attrs
unfolding html_rows rare_rows lib.Utf8.encode
img_tag tag b c starts =
    let of_image = token_tag c.standard Name.Image tag c.is c.written c.named (sym c.is.kind ∙ kind_start tag.kind starts) in
    record {
      tag_name = record { lower_case = refl; unspaced = refl };
      known = refl;
      local = refl;
      spelt = λ other. absurd (img_known other);
      same_attrs = of_image.same_attrs ∙ ap (λ (attrs : List NodeAttr). map attr_for attrs) (sym (c.attrs ∙ ap token_attrs c.token));
      point = refl;
    }

-- ---- the rules

pub image_row : (b : Building) → choice b (body_rules_for Name.Image) ≡ plainly (Rename (codes "img") ∷ []) Next.Again
unfolding rules
image_row b = refl

pub img_row : (b : Building) (attrs : List Attr) (closing : Bool) → b.token ≡ AStart (codes "img") attrs closing → taken b (rules InBody) ≡ img_acts
unfolding rules
img_row b attrs closing e = rules_for_token b (AStart (codes "img") attrs closing) e

-- the dispatcher leaves `img` to the current mode, as it left `image`
pub img_dispatched : (b : Building) (attrs : List Attr) (closing : Bool) → b.token ≡ AStart (codes "img") attrs closing → goes_to_mode b.tree ≡ true →
    taken b (rules Dispatcher) ≡ goes UseCurrentMode ∷ []
unfolding rules
img_dispatched b attrs closing token e =
    taken_of (AStart (codes "img") attrs closing) b token (rules Dispatcher)
    ∙ picked (is_empty b.tree.stack) (is_html (space_in (adjusted_current b.tree))) (is_named text_points (adjusted_current b.tree)) (is_html_point (adjusted_current b.tree))
    (goes UseCurrentMode ∷ []) (goes (Use ForeignContent) ∷ []) e

-- and its rules are those for "in body"
img_in : (m : StandardMode) (b c : Building) (attrs : List Attr) (closing : Bool) → is_body_mode m ≡ true → b.token ≡ AStart (codes "img") attrs closing → ComesTo InBody b c → ComesTo m b c
unfolding rules
img_in InBody b c attrs closing h token comes = comes
img_in InCaption b c attrs closing h token comes = comes_by InCaption InBody b c (taken_of (AStart (codes "img") attrs closing) b token (rules InCaption)) comes
img_in InCell b c attrs closing h token comes = comes_by InCell InBody b c (taken_of (AStart (codes "img") attrs closing) b token (rules InCell)) comes
img_in _ b c attrs closing h token comes = absurd (true≢false (sym h))

pub renamed_token : (tag : Tag) (b : Building) (c : IsCurrentTag Name.Image tag b) → is_start_kind tag.kind ≡ true →
    renamed (codes "img") b.token ≡ AStart (codes "img") (distinct (reverse c.standard.attrs)) c.standard.self_closing
renamed_token tag b c starts = ap (renamed (codes "img")) (current_start Name.Image tag b c starts)

comes_to : (tag : Tag) (b : Building) → IsCurrentTag Name.Image tag b → is_start_kind tag.kind ≡ true → comes_back b ≡ true → ComesTo InBody b (as_img b)
unfolding run perform
comes_to tag b c starts back =
    let parts = both (is_body_mode b.mode) (goes_to_mode b.tree) back in
    let img : Building = perform (Rename (codes "img")) b in
    let attrs : List Attr = distinct (reverse c.standard.attrs) in
    let token = renamed_token tag b c starts in
    let here : ComesTo InBody img (as_img b) = comes_of_acts InBody img img_acts refl (img_row img attrs c.standard.self_closing token) in
    let again : ComesTo Dispatcher img (as_img b) =
    comes_by_mode img (as_img b) (img_dispatched img attrs c.standard.self_closing token parts.1)
    (img_in b.mode img (as_img b) attrs c.standard.self_closing parts.0 token here) in (
      suc again.0,
      ap (λ acts. performed (run again.0) acts b) (start_rows Name.Image tag b c starts ∙ image_row b) ∙ plain_again (Rename (codes "img") ∷ []) b again.0 (as_img b) again.1,
    )

-- ---- the state

-- it doesn't depend on the current token
other_token : (s : TreeBuilder) (b c : Building) → c ≡ record b { token = c.token } → Constructs s b → Constructs s c
other_token s b c e stands = subst (Constructs s) (sym e) (record {
  tree = stands.tree;
  foster = stands.foster;
  in_head = stands.in_head;
  mode = stands.mode;
  original = stands.original;
  template_modes = stands.template_modes;
  frameset_ok = stands.frameset_ok;
  scripting = stands.scripting;
  quirks = stands.quirks;
  unread = stands.unread;
  pending = stands.pending;
  skip = stands.skip;
  tokenizer = stands.tokenizer;
})

abbrev inserted_in : List ℕ → Building → Building
inserted_in name b = with_tree b (inserted_at (place b.tree) Html name b.attrs b.tree)

after_is : (b : Building) → own_name (renamed (codes "img") b.token) ≡ codes "img" →
    as_img b ≡ record (perform Pop (inserted_in (codes "img") (begun Group.Image b))) { token = (as_img b).token }
unfolding perform
after_is b e = ap (λ name. record (perform Pop (inserted_in name (begun Group.Image b))) { token = renamed (codes "img") b.token }) e

pub image_made : (tag : Tag) (old mid : TreeBuilder) (tree : TreeState) → InsertsTag ElementNamespace.Html Name.Img tag old mid → Does popped mid.tree tree → StartsImage tag old (record mid { tree = tree })
unfolding perform
image_made tag old mid tree inserts pops starts within b current stands =
    let new : TreeBuilder = record mid { tree = tree } in
    let made = inserts (codes "img") b.attrs (img_tag tag b current starts) (record { fault = within.fault; depth = within.depth }) (begun Group.Image b) stands in
    let there = popped_one mid tree pops (inserted_in (codes "img") (begun Group.Image b)) made in
    other_token new (perform Pop (inserted_in (codes "img") (begun Group.Image b))) (as_img b) (after_is b (ap own_name (renamed_token tag b current starts))) there

pub image_started : (tag : Tag) (old mid : TreeBuilder) (tree : TreeState) → RemembersLimits old (record mid { tree = tree }) → InsertsTag ElementNamespace.Html Name.Img tag old mid → Does popped mid.tree tree →
    Continues Group.Image Name.Image tag old (record mid { tree = tree }) Next.Done
unfolding perform
image_started tag old mid tree remembers inserts pops covers named = record {
  limits = remembers;
  rule = λ starts within b current html stands test.
      record { after = as_img b; stands = image_made tag old mid tree inserts pops starts within b current stands; runs = comes_to tag b current starts test };
}
