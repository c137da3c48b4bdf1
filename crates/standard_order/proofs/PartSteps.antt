-- In the modes of the body, what is done to ordinary elements leaves the parts of the page and the innermost other element.
use Rattle.std.specs.Prelude.{◌≡◌, ◌&&◌, ◌||◌, refl, ℕ, zero, suc, Bool, true, false, not, List, [], ◌∷◌, ◌++◌, Option, None, Some, bytes_eq, nat_eq, reverse}
use Rattle.std.specs.List.{list_all}
use Rattle.std.proofs.lemmas.Slice.Eq.{bytes_eq-Decides}
use mathlib.Core.Path.{◌∙◌, sym, ap, subst}
use Rattle.standard_tokens.specs.Tokens.{AStart, AnEnd, Token}
use Rattle.standard_trees.specs.RuleWords.{Action, AdjustForeignAttributes, AdjustMathmlAttributes, AdjustSvgAttributes, AdjustSvgName, AdoptionAgency, ClearListToMarker}
use Rattle.standard_trees.specs.RuleWords.{CloseItems, CloseP, DropFound, EndForm, FindListed, FosterOff, FosterOn, FramesetNotOk, ImpliedEndTags, ImpliedEndTagsBut}
use Rattle.standard_trees.specs.RuleWords.{InsertCharacter, InsertComment, InsertCommentInDocument, InsertCommentInHtml, InsertElement, InsertMathmlElement, InsertNamed}
use Rattle.standard_trees.specs.RuleWords.{InsertPending, InsertReplacement, InsertSvgElement, KeepMode, ListElement, ListMarker, MergeAttributesIntoBody}
use Rattle.standard_trees.specs.RuleWords.{MergeAttributesIntoHtml, Names, Own, Pop, PopForeignElements, ReconstructFormatting, Rename}
use Rattle.standard_trees.specs.RuleWords.{SetFormPointer, SkipNextLineFeed, Stop, Test, These, TokenizerTo, EmptyPending, AddToPending}
use Rattle.standard_trees.specs.TreeStore.{CommentNode, ContentsNode, DoctypeNode, DocumentNode, ElementNode, EndOf, Html, Kind, MathMl, Node, Svg, TextNode, key_in, node_at}
use Rattle.standard_trees.specs.GrowingTree.{Entry, FormAt, Formatting, GrowingTree, Marker, NoForm, current, ends_scope, in_scope, is_among, is_one, place, popped_until, topmost}
use Rattle.standard_trees.specs.Formatting.{are_alike, cleared, last_listed, without_third}
use Rattle.standard_trees.specs.Building.{Building, char_of, comment_of, names_for, own_name, perform}
use Rattle.standard_order.proofs.Labels.{labels}
use Rattle.standard_order.proofs.StandingStacks.{both, never}
use Rattle.standard_order.proofs.GoodTrees.{AllListed, among_more}
use Rattle.standard_order.proofs.Levels.{End, Info, Late, Level, Never, Scoped, Start, is_cell, names_among, next_of, own_apart}
use Rattle.standard_order.proofs.LevelFacts.{At}
use Rattle.standard_order.proofs.LevelTrees.{holds_of, own_apart_so}
use Rattle.standard_order.proofs.NodeTags.{Cls, Entry as ClassEntry, PlainC, Tag, class_at, class_in, class_of, classes, kind_class, name_class, tags}
use Rattle.standard_order.proofs.NodeTops.{Rooted}
use Rattle.standard_order.proofs.TreeTops.{element_off}
use Rattle.standard_order.proofs.TopSteps.{good_at, topmost_element}
use Rattle.standard_order.proofs.AdoptionTops.{is_not}
use Rattle.standard_order.proofs.Chains.{Site, is_plain}
use Rattle.standard_order.proofs.PartTrees.{In, PlainFound, PlainListed}
use Rattle.standard_order.proofs.PartPlaces.{current_place, in_inserted, stack_filled}
use Rattle.standard_order.proofs.PartOps.{in_char, in_chars, in_comment, in_form, in_found, in_listed, in_merged, in_remark}
use Rattle.standard_order.proofs.PartPops.{OnlyPlain, in_form_ended, in_implied, in_reconstructed, in_without_found, in_without_p}
use Rattle.standard_order.proofs.PartAdoption.{last_plain}
use Rattle.standard_order.proofs.PartEnds.{in_adoption, in_closed_items, in_foreign_popped, in_popped}

-- ---- names of ordinary elements

abbrev pub names_of : List ClassEntry → List (List ℕ)
names_of [] = []
names_of (class_of names one ∷ more) = names ++ names_of more

-- the names of all others
abbrev pub odd_names : List (List ℕ)
odd_names = names_of classes

apart_joined : (name : List ℕ) (xs ys : List (List ℕ)) → is_among name (xs ++ ys) ≡ false → (is_among name xs ≡ false) × (is_among name ys ≡ false)
apart_joined name [] ys h = (refl, h)
apart_joined name (x ∷ xs) ys h = by (bytes_eq name x) h (λ k. apart_joined name xs ys k)
  where
    by : (b : Bool) → b || is_among name (xs ++ ys) ≡ false → (is_among name (xs ++ ys) ≡ false → (is_among name xs ≡ false) × (is_among name ys ≡ false)) →
        (b || is_among name xs ≡ false) × (is_among name ys ≡ false)
    by true k go = never (sym k)
    by false k go = go k

class_apart : (es : List ClassEntry) (name : List ℕ) → is_among name (names_of es) ≡ false → class_in es name ≡ PlainC
class_apart [] name h = refl
class_apart (class_of names one ∷ more) name h =
    let two : (is_among name names ≡ false) × (is_among name (names_of more) ≡ false) = apart_joined name names (names_of more) h in
    ap (λ x. elim x as (λ _. Cls) [ true ↦ one | false ↦ class_in more name ]) two.0 ∙ class_apart more name two.1

pub name_plain : (name : List ℕ) → not (is_among name odd_names) ≡ true → is_plain (name_class name) ≡ true
name_plain name h = ap is_plain (class_apart classes name (is_not (is_among name odd_names) h))

pub own_plain : (info : Info) (token : Token) → own_apart odd_names info ≡ true → holds_of info token ≡ true → is_plain (name_class (own_name token)) ≡ true
own_plain info token a h = name_plain (own_name token) (own_apart_so odd_names info token refl a h)

abbrev pub plain_names : List (List ℕ) → Bool
plain_names names = list_all (λ one. is_plain (name_class one)) names && not (is_among [] names)

plain_kind : (names : List (List ℕ)) → plain_names names ≡ true → (kind : Kind) → is_among (key_in kind) names ≡ true → is_plain (kind_class kind) ≡ true
plain_kind names p (ElementNode Html name attrs contents) h =
    Rattle.standard_order.proofs.PartTrees.named_class is_plain name names (both (list_all (λ one. is_plain (name_class one)) names) (not (is_among [] names)) p).0 h
plain_kind names p (ElementNode Svg name attrs contents) h = refl
plain_kind names p (ElementNode MathMl name attrs contents) h = refl
plain_kind names p kind h = none kind h
  where
    empty : is_among [] names ≡ false
    empty = is_not (is_among [] names) (both (list_all (λ one. is_plain (name_class one)) names) (not (is_among [] names)) p).1

    none : (kind : Kind) → is_among (key_in kind) names ≡ true → is_plain (kind_class kind) ≡ true
    none (ElementNode Html name attrs contents) k =
        Rattle.standard_order.proofs.PartTrees.named_class is_plain name names (both (list_all (λ one. is_plain (name_class one)) names) (not (is_among [] names)) p).0 k
    none (ElementNode Svg name attrs contents) k = refl
    none (ElementNode MathMl name attrs contents) k = refl
    none (TextNode text) k = never (sym empty ∙ k)
    none (CommentNode text) k = never (sym empty ∙ k)
    none (DoctypeNode d) k = never (sym empty ∙ k)
    none DocumentNode k = never (sym empty ∙ k)
    none ContentsNode k = never (sym empty ∙ k)

plain_node : (names : List (List ℕ)) → plain_names names ≡ true → (nodes : List Node) (n : ℕ) → is_among (key_in (node_at nodes n).kind) names ≡ true →
    is_plain (class_at (tags nodes) n) ≡ true
plain_node names p [] n h = never (sym (is_not (is_among [] names) (both (list_all (λ one. is_plain (name_class one)) names) (not (is_among [] names)) p).1) ∙ h)
plain_node names p (node ∷ nodes) zero h = plain_kind names p node.kind h
plain_node names p (node ∷ nodes) (suc n) h = plain_node names p nodes n h

pub only_these : (names : List (List ℕ)) → plain_names names ≡ true → (t : GrowingTree) → OnlyPlain t (is_one t names)
only_these names p t n h = plain_node names p t.nodes n h

-- of a tag whose name isn't empty
abbrev pub is_real : Info → Bool
is_real (Start names) = not (is_among [] names)
is_real (End names) = not (is_among [] names)
is_real _ = false

real_so : (info : Info) (token : Token) → is_real info ≡ true → holds_of info token ≡ true → is_among [] (own_name token ∷ []) ≡ false
real_so info token r h = by (bytes_eq [] (own_name token)) refl
  where
    none : (names : List (List ℕ)) (name : List ℕ) → not (is_among [] names) ≡ true → is_among name names ≡ true → [] ≡ name → ⊥
    none names name a b e = never (sym (is_not (is_among [] names) a) ∙ subst (λ n. is_among n names ≡ true) (sym e) b)

    real : (info : Info) (token : Token) → is_real info ≡ true → holds_of info token ≡ true → [] ≡ own_name token → ⊥
    real (Start names) (AStart name attrs closing) a b e = none names name a b e
    real (End names) (AnEnd name) a b e = none names name a b e
    real (Start names) _ a b e = never b
    real (End names) _ a b e = never b
    real _ _ a b e = never a

    by : (x : Bool) → bytes_eq [] (own_name token) ≡ x → x || false ≡ false
    by true e = absurd (real info token r h ((bytes_eq-Decides [] (own_name token)).0 e))
    by false e = refl

abbrev pub names_plain : Info → Names → Bool
names_plain info Own = own_apart odd_names info && is_real info
names_plain info (These names) = plain_names names

pub names_plain_so : (info : Info) (names : Names) (token : Token) → holds_of info token ≡ true → names_plain info names ≡ true →
    plain_names (names_for names token) ≡ true
names_plain_so info Own token h p =
    let two : (own_apart odd_names info ≡ true) × (is_real info ≡ true) = both (own_apart odd_names info) (is_real info) p in
    ap (λ x. (x && true) && not (is_among [] (own_name token ∷ []))) (own_plain info token two.0 h) ∙ ap not (real_so info token two.1 h)
names_plain_so info (These names) token h p = p

-- ---- popped until one in scope

pub in_scope_more : (some others ends : ℕ → Bool) → ((n : ℕ) → some n ≡ true → others n ≡ true) → (s : List ℕ) → in_scope some ends s ≡ true →
    in_scope others ends s ≡ true
in_scope_more some others ends more [] h = h
in_scope_more some others ends more (n ∷ ns) h = by (some n) (others n) (ends n) refl refl h (λ k. in_scope_more some others ends more ns k)
  where
    by : (x y z : Bool) → some n ≡ x → others n ≡ y → x || (not z && in_scope some ends ns) ≡ true →
        (in_scope some ends ns ≡ true → in_scope others ends ns ≡ true) → y || (not z && in_scope others ends ns) ≡ true
    by true true z e f k go = refl
    by true false z e f k go = never (sym f ∙ more n e)
    by false true z e f k go = refl
    by false false true e f k go = k
    by false false false e f k go = go k

pub names_more : (t : GrowingTree) (wanted names : Names) (token : Token) → names_among wanted names ≡ true → (n : ℕ) →
    is_one t (names_for wanted token) n ≡ true → is_one t (names_for names token) n ≡ true
names_more t Own Own token h n k = k
names_more t (These some) (These others) token h n k = among_more _ some others h k
names_more t Own (These others) token h n k = never h
names_more t (These some) Own token h n k = never h

-- ---- the list of active formatting elements

cleared_plain : (ts : List Tag) (es : List Entry) → PlainListed ts es → PlainListed ts (cleared es)
cleared_plain ts [] h = h
cleared_plain ts (Marker ∷ es) h = h
cleared_plain ts (Formatting n ∷ es) h = cleared_plain ts es h.1

third_plain : (ts : List Tag) (t : GrowingTree) (n count : ℕ) (es : List Entry) → PlainListed ts es → PlainListed ts (without_third t n count es)
third_plain ts t n count [] h = h
third_plain ts t n count (Marker ∷ es) h = h
third_plain ts t n count (Formatting m ∷ es) h =
    by (are_alike t n m) (nat_eq count 2) (third_plain ts t n (suc count) es h.1) (third_plain ts t n count es h.1)
  where
    by : (x y : Bool) → PlainListed ts (without_third t n (suc count) es) → PlainListed ts (without_third t n count es) →
        PlainListed ts (elim x as (λ _. List Entry) [
          | true ↦ elim y as (λ _. List Entry) [ true ↦ es | false ↦ Formatting m ∷ without_third t n (suc count) es ]
          | false ↦ Formatting m ∷ without_third t n count es
        ])
    by true true a b = h.1
    by true false a b = (h.0, a)
    by false y a b = (h.0, b)

found_plain : (ts : List Tag) (t : GrowingTree) (names : List (List ℕ)) (es : List Entry) → PlainListed ts es → PlainFound ts (last_listed t names es)
found_plain ts t names es h = by (last_listed t names es) (λ n e. last_plain ts t names es h n e)
  where
    by : (o : Option ℕ) → ((n : ℕ) → o ≡ Some n → is_plain (class_at ts n) ≡ true) → PlainFound ts o
    by None go = tt
    by (Some n) go = go n refl

none_some : {A P : Type 0} {x : A} → None ≡ Some x → P
none_some e = cc

pub entries_at : (level : Level) (info : Info) (tests : List Test) (new : Level) (b : Building) → next_of level info ReconstructFormatting tests ≡ Some new → At level b →
    AllListed (labels b.tree.nodes) b.tree.listed
entries_at (Late place rel kept) info tests new b e at = at.2.1.entries
entries_at (Scoped place kind Own) info tests new b e at = at.1.2.1.entries
entries_at (Scoped place kind (These names)) info tests new b e at = at.1.2.1.entries
entries_at Never info tests new b e at = absurd at
entries_at _ info tests new b e at = none_some e

-- ---- actions

-- Such an action is one on ordinary elements; if the flag is true, the current node is one.
abbrev pub is_ordinary : Bool → Info → Action → Bool
is_ordinary now info InsertCharacter = true
is_ordinary now info InsertReplacement = true
is_ordinary now info InsertComment = true
is_ordinary now info InsertCommentInDocument = true
is_ordinary now info InsertCommentInHtml = true
is_ordinary now info InsertPending = true
is_ordinary now info InsertElement = own_apart odd_names info
is_ordinary now info InsertMathmlElement = true
is_ordinary now info InsertSvgElement = true
is_ordinary now info (InsertNamed name) = is_plain (name_class name)
is_ordinary now info MergeAttributesIntoHtml = true
is_ordinary now info MergeAttributesIntoBody = true
is_ordinary now info SetFormPointer = now
is_ordinary now info ListElement = now
is_ordinary now info Pop = now
is_ordinary now info ListMarker = true
is_ordinary now info ClearListToMarker = true
is_ordinary now info ReconstructFormatting = true
is_ordinary now info AdoptionAgency = own_apart odd_names info
is_ordinary now info DropFound = true
is_ordinary now info (FindListed names) = true
is_ordinary now info CloseP = true
is_ordinary now info (CloseItems names) = plain_names names
is_ordinary now info ImpliedEndTags = true
is_ordinary now info (ImpliedEndTagsBut names) = true
is_ordinary now info EndForm = true
is_ordinary now info PopForeignElements = true
is_ordinary now info FosterOn = true
is_ordinary now info FosterOff = true
is_ordinary now info FramesetNotOk = true
is_ordinary now info SkipNextLineFeed = true
is_ordinary now info (TokenizerTo state) = true
is_ordinary now info AdjustMathmlAttributes = true
is_ordinary now info AdjustSvgAttributes = true
is_ordinary now info AdjustForeignAttributes = true
is_ordinary now info AdjustSvgName = true
is_ordinary now info (Rename name) = true
is_ordinary now info KeepMode = true
is_ordinary now info EmptyPending = true
is_ordinary now info AddToPending = true
is_ordinary now info Stop = true
is_ordinary now info action = false

pub same_in : (r : ℕ) (c : Site) (t : GrowingTree) (fostering : Bool) → In r c t → In r c (record t { fostering = fostering })
same_in r c t fostering i = record {
  nodes = i.nodes;
  open_ = i.open_;
  chained = i.chained;
  within = i.within;
  few = i.few;
  inner = i.inner;
  listed = i.listed;
  form = i.form;
  page = i.page;
  found = i.found;
}

pub in_performed : (r : ℕ) (c : Site) (now : Bool) (level : Level) (info : Info) (action : Action) (tests : List Test) (b : Building) (new : Level) →
    is_ordinary now info action ≡ true → (now ≡ true → is_plain (class_at (tags b.tree.nodes) (current b.tree)) ≡ true) → holds_of info b.token ≡ true →
    next_of level info action tests ≡ Some new → At level b → In r c b.tree → In r c (perform action b).tree
unfolding perform
in_performed r c now level info InsertCharacter tests b new o top_ h e at i = in_chars r c (char_of b.token) b.tree i
in_performed r c now level info InsertReplacement tests b new o top_ h e at i = in_char r c 0xfffd b.tree i
in_performed r c now level info InsertComment tests b new o top_ h e at i =
    in_comment r c (comment_of b.token) (place b.tree) b.tree (current_place r c b.tree i).0 i
in_performed r c now level info InsertCommentInDocument tests b new o top_ h e at i = in_remark r c (comment_of b.token) b.tree i
in_performed r c now level info InsertCommentInHtml tests b new o top_ h e at i =
    in_comment r c (comment_of b.token) (EndOf (topmost b.tree.stack)) b.tree
    (element_off Rooted b.tree.nodes (topmost b.tree.stack) i.nodes.top (topmost_element b b.tree.stack (stack_filled r c b.tree i) i.open_)) i
in_performed r c now level info InsertPending tests b new o top_ h e at i = in_chars r c (reverse b.pending) b.tree i
in_performed r c now level info InsertElement tests b new o top_ h e at i =
    in_inserted r c Html (own_name b.token) b.attrs b.tree (λ contents. own_plain info b.token o h) i
in_performed r c now level info InsertMathmlElement tests b new o top_ h e at i = in_inserted r c MathMl (own_name b.token) b.attrs b.tree (λ contents. refl) i
in_performed r c now level info InsertSvgElement tests b new o top_ h e at i = in_inserted r c Svg (own_name b.token) b.attrs b.tree (λ contents. refl) i
in_performed r c now level info (InsertNamed name) tests b new o top_ h e at i = in_inserted r c Html name [] b.tree (λ contents. o) i
in_performed r c now level info MergeAttributesIntoHtml tests b new o top_ h e at i = in_merged r c (Some (topmost b.tree.stack)) b.attrs b.tree i
in_performed r c now level info MergeAttributesIntoBody tests b new o top_ h e at i =
    in_merged r c (Rattle.standard_trees.specs.GrowingTree.second b.tree.stack) b.attrs b.tree i
in_performed r c now level info SetFormPointer tests b new o top_ h e at i = in_form r c b.tree (FormAt (current b.tree)) (top_ o) i
in_performed r c now level info ListElement tests b new o top_ h e at i =
    in_listed r c b.tree (Formatting (current b.tree) ∷ without_third b.tree (current b.tree) 0 b.tree.listed)
    (top_ o, third_plain (tags b.tree.nodes) b.tree (current b.tree) 0 b.tree.listed i.listed) i
in_performed r c now level info Pop tests b new o top_ h e at i = in_popped r c b.tree (top_ o) i
in_performed r c now level info ListMarker tests b new o top_ h e at i = in_listed r c b.tree (Marker ∷ b.tree.listed) i.listed i
in_performed r c now level info ClearListToMarker tests b new o top_ h e at i =
    in_listed r c b.tree (cleared b.tree.listed) (cleared_plain (tags b.tree.nodes) b.tree.listed i.listed) i
in_performed r c now level info ReconstructFormatting tests b new o top_ h e at i = in_reconstructed r c b.tree (entries_at level info tests new b e at) i
in_performed r c now level info AdoptionAgency tests b new o top_ h e at i =
    in_adoption r c (is_cell b.mode) (own_name b.token) b.tree (own_plain info b.token o h) (good_at level info tests new b e at) i
in_performed r c now level info DropFound tests b new o top_ h e at i = in_without_found r c b.tree.found b.tree i.found i
in_performed r c now level info (FindListed names) tests b new o top_ h e at i =
    in_found r c b.tree (last_listed b.tree (names_for names b.token) b.tree.listed)
    (found_plain (tags b.tree.nodes) b.tree (names_for names b.token) b.tree.listed i.listed) i
in_performed r c now level info CloseP tests b new o top_ h e at i = in_without_p r c b.tree i
in_performed r c now level info (CloseItems names) tests b new o top_ h e at i = in_closed_items r c names b.tree (only_these names o b.tree) i
in_performed r c now level info ImpliedEndTags tests b new o top_ h e at i = in_implied r c b.tree [] i
in_performed r c now level info (ImpliedEndTagsBut names) tests b new o top_ h e at i = in_implied r c b.tree (names_for names b.token) i
in_performed r c now level info EndForm tests b new o top_ h e at i =
    in_form_ended r c (record b.tree { form = NoForm }) b.tree.form i.form (in_form r c b.tree NoForm tt i)
in_performed r c now level info PopForeignElements tests b new o top_ h e at i = in_foreign_popped r c b.tree i
in_performed r c now level info FosterOn tests b new o top_ h e at i = same_in r c b.tree true i
in_performed r c now level info FosterOff tests b new o top_ h e at i = same_in r c b.tree false i
in_performed r c now level info FramesetNotOk tests b new o top_ h e at i = i
in_performed r c now level info SkipNextLineFeed tests b new o top_ h e at i = i
in_performed r c now level info (TokenizerTo state) tests b new o top_ h e at i = i
in_performed r c now level info AdjustMathmlAttributes tests b new o top_ h e at i = i
in_performed r c now level info AdjustSvgAttributes tests b new o top_ h e at i = i
in_performed r c now level info AdjustForeignAttributes tests b new o top_ h e at i = i
in_performed r c now level info AdjustSvgName tests b new o top_ h e at i = i
in_performed r c now level info (Rename name) tests b new o top_ h e at i = i
in_performed r c now level info KeepMode tests b new o top_ h e at i = i
in_performed r c now level info EmptyPending tests b new o top_ h e at i = i
in_performed r c now level info AddToPending tests b new o top_ h e at i = i
in_performed r c now level info Stop tests b new o top_ h e at i = i
in_performed r c now level info action tests b new o top_ h e at i = never o
