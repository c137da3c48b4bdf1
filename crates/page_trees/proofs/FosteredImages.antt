-- What comes of the start tag `image` "in table": it is processed as one of `img`, with foster parenting.
use Rattle.std.proofs.Common.{◌≡◌, Bool, true, false, ◌&&◌, ◌||◌, List, [], ◌∷◌, codes, reverse, refl, sym, ap, subst, suc, ◌∙◌, true≢false}
use Rattle.std.specs.Option.{option_and_then}
use Rattle.standard_tokens.specs.Machine.{distinct}
use Rattle.standard_tokens.specs.Tokens.{AStart, Attr}
use Rattle.standard_trees.specs.Building.{Building, perform, performed, run, taken}
use Rattle.standard_trees.specs.RuleWords.{Dispatcher, FosterOff, InBody, InHead, InRow, InTable, InTableBody, Mode as StandardMode, Rename, does}
use Rattle.standard_trees.specs.TreeRules.{rules}
use Rattle.page_tokens.specs.declared.token.Tag.{Tag}
use Rattle.page_trees.specs.BodyTags.{Begins, covers_in_body}
use Rattle.page_trees.specs.CharacterSteps.{goes_to_mode}
use Rattle.page_trees.specs.Constructs.{ComesTo, IsCurrentTag, Outcome, RemembersLimits, WithinLimits}
use Rattle.page_trees.specs.FosteredTags.{FostersTag, acts_alone, acts_in_body, comes_to_table, is_fostering, is_image, is_image_start, is_table_mode, names_image, suits_in_body, uses_head}
use Rattle.page_trees.specs.Images.{FostersImage, StartsImage, as_img, img_acts, img_fostered}
use Rattle.page_trees.specs.Modes.{is_start_kind}
use Rattle.page_trees.specs.TableTexts.{with_fostering}
use Rattle.page_trees.specs.declared.builder.Next.{Next}
use Rattle.page_trees.specs.declared.builder.TreeBuilder.{TreeBuilder}
use Rattle.page_trees.specs.declared.modes.groups.Group.{Group}
use Rattle.page_trees.specs.declared.name.Name.{Name}
use Rattle.page_trees.proofs.BodyImages.{image_row, img_dispatched, img_row, renamed_token}
use Rattle.page_trees.proofs.BodyRules.{comes_of_acts, start_rows}
use Rattle.page_trees.proofs.Dispatching.{comes_by_mode}
use Rattle.page_trees.proofs.FosteredTags.{fostering_acts, fostering_is}
use Rattle.page_trees.proofs.NamesAgree.{both}
use Rattle.page_trees.proofs.RulesRun.{comes_by, plain_again}
use Rattle.page_trees.proofs.TableTexts.{fostering_limits, fostering_set}
use Rattle.page_trees.proofs.TokenRules.{taken_of}

-- ---- the rules

img_in_table : (b : Building) (attrs : List Attr) (closing : Bool) → b.token ≡ AStart (codes "img") attrs closing → taken b (rules InTable) ≡ fostering_acts
unfolding rules
img_in_table b attrs closing token = taken_of (AStart (codes "img") attrs closing) b token (rules InTable)

table_used : (m : StandardMode) (b c : Building) (attrs : List Attr) (closing : Bool) → is_table_mode m ≡ true → b.token ≡ AStart (codes "img") attrs closing → ComesTo InTable b c → ComesTo m b c
unfolding rules
table_used InTable b c attrs closing h token comes = comes
table_used InTableBody b c attrs closing h token comes = comes_by InTableBody InTable b c (taken_of (AStart (codes "img") attrs closing) b token (rules InTableBody)) comes
table_used InRow b c attrs closing h token comes = comes_by InRow InTable b c (taken_of (AStart (codes "img") attrs closing) b token (rules InRow)) comes
table_used _ b c attrs closing h token comes = absurd (true≢false (sym h))

comes_fostered : (b c : Building) → taken b (rules InTable) ≡ fostering_acts → ComesTo InBody (with_fostering true b) c → ComesTo InTable b (with_fostering false c)
unfolding run perform
comes_fostered b c e h = (
  suc h.0,
  ap (λ acts. performed (run h.0) acts b) e ∙ ap (option_and_then (performed (run h.0) (does FosterOff [] ∷ []))) h.1,
)

with_foster_parenting : (name : Name) (tag : Tag) (b : Building) → IsCurrentTag name tag b → IsCurrentTag name tag (with_fostering true b)
with_foster_parenting name tag b current = record {
  standard = current.standard;
  is = current.is;
  written = current.written;
  plain = current.plain;
  named = current.named;
  token = current.token;
  attrs = current.attrs;
}

image_comes : (tag : Tag) (b : Building) → IsCurrentTag Name.Image tag b → is_start_kind tag.kind ≡ true → taken b (rules InTable) ≡ fostering_acts → is_table_mode b.mode ≡ true →
    goes_to_mode b.tree ≡ true → ComesTo InTable b (img_fostered b)
unfolding run perform
image_comes tag b current starts fosters table goes =
    let on : Building = with_fostering true b in
    let here = with_foster_parenting Name.Image tag b current in
    let img : Building = perform (Rename (codes "img")) on in
    let attrs : List Attr = distinct (reverse here.standard.attrs) in
    let closing : Bool = here.standard.self_closing in
    let token = renamed_token tag on here starts in
    let end : Building = with_fostering false (as_img on) in
    let inner : ComesTo InBody img (as_img on) = comes_of_acts InBody img img_acts refl (img_row img attrs closing token) in
    let around : ComesTo InTable img end = comes_fostered img (as_img on) (img_in_table img attrs closing token) inner in
    let again : ComesTo Dispatcher img end =
    comes_by_mode img end (img_dispatched img attrs closing token goes) (table_used img.mode img end attrs closing table token around) in
    comes_fostered b end fosters (
      suc again.0,
      ap (λ acts. performed (run again.0) acts on) (start_rows Name.Image tag on here starts ∙ image_row on) ∙ plain_again (Rename (codes "img") ∷ []) on again.0 end again.1,
    )

-- ---- the test of the state

is_named_image : (name : Name) → names_image name ≡ true → name ≡ Name.Image
is_named_image Name.Image e = refl
is_named_image _ e = absurd (true≢false (sym e))

-- the token is reprocessed, so it isn't done with in "in body"
not_there : (tag : Tag) (b : Building) → IsCurrentTag Name.Image tag b → is_start_kind tag.kind ≡ true → acts_in_body b ≡ false
not_there tag b current starts =
    ap (λ acts. (acts_alone acts || (uses_head acts && acts_alone (taken b (rules InHead)))) && (covers_in_body b.token && suits_in_body b.token b))
    (start_rows Name.Image tag b current starts ∙ image_row b)

right_of : (x y : Bool) → x ≡ false → (x || y) ≡ true → y ≡ true
right_of true y e h = absurd (true≢false e)
right_of false y e h = h

-- ---- what the code shows

pub image_brought : (tag : Tag) (old first mid last new : TreeBuilder) → first ≡ record old { placing = record old.placing { foster = true } } →
    new ≡ record last { placing = record last.placing { foster = false } } → Begins Group.Image first mid → RemembersLimits mid last → StartsImage tag mid last → FostersImage tag old new
image_brought tag old first mid last new e f begins limits inserts starts within b current stands =
    let on : Building = with_fostering true b in
    let done : WithinLimits last = fostering_limits last new false f within in
    fostering_set last new false f (as_img on)
    (inserts starts done on (with_foster_parenting Name.Image tag b current) (begins (limits done) on (fostering_set old first true e b stands)))

image_there : (tag : Tag) (old new : TreeBuilder) (next : Next) → is_start_kind tag.kind ≡ true → next ≡ Next.Done → FostersImage tag old new → FostersTag Name.Image tag old new next
image_there tag old new next starts done rule within b current html fosters stands =
    let on : Building = with_fostering true b in
    let two = both (is_fostering (taken b (rules InTable))) (acts_in_body on || comes_to_table b) fosters in
    let back = right_of (acts_in_body on) (comes_to_table b) (not_there tag on (with_foster_parenting Name.Image tag b current) starts) two.1 in
    let three = both (is_image b.token) (is_table_mode b.mode && goes_to_mode b.tree) back in
    let four = both (is_table_mode b.mode) (goes_to_mode b.tree) three.1 in
    subst (λ (n : Next). Outcome InTable b new n) (sym done) (record {
      after = img_fostered b;
      stands = rule starts within b current stands;
      runs = image_comes tag b current starts (fostering_is (taken b (rules InTable)) two.0) four.0 four.1;
    })

pub image_fostered : (name : Name) (tag : Tag) (old new : TreeBuilder) (next : Next) → is_image_start name tag.kind ≡ true → next ≡ Next.Done → FostersImage tag old new →
    FostersTag name tag old new next
image_fostered name tag old new next is done rule =
    let parts = both (names_image name) (is_start_kind tag.kind) is in
    subst (λ (n : Name). FostersTag n tag old new next) (sym (is_named_image name parts.0)) (image_there tag old new next parts.1 done rule)
