-- In "after head" the rules for "in head" are used with the head element on the stack, which is removed then: what comes of it.
use Rattle.std.specs.Prelude.{◌≡◌, ◌||◌, ◌⊎◌, refl, ℕ, Bool, true, false, not, List, [], ◌∷◌, Option, None, Some, bytes_eq, codes, cond, drop}
use Rattle.std.specs.Prelude.{nat_eq}
use Rattle.std.proofs.Common.{inl, inr}
use Rattle.std.specs.Option.{option_map_or}
use Rattle.std.proofs.lemmas.Bool.Decides.{Decides-eqb}
use Rattle.std.proofs.lemmas.Slice.Eq.{bytes_eq-Decides}
use Rattle.std.proofs.lemmas.Option.{same_Some}
use mathlib.Core.Path.{◌∙◌, sym, ap, subst}
use Rattle.standard_tokens.specs.Tokens.{AChar, AComment, ADoctype, AStart, AnEnd, AnEof, Attr, Token}
use Rattle.standard_trees.specs.RuleWords.{Act, AfterHead, FramesetNotOk, InHead, InTemplate, InsertElement, KeepMode, ListMarker, Mode}
use Rattle.standard_trees.specs.RuleWords.{Pop, RawText, RcdataText, ScriptText, PushTemplateMode, RemoveHeadFromStack, SwitchTo, Text}
use Rattle.standard_trees.specs.RuleWords.{TextState, TokenizerTo, does}
use Rattle.standard_trees.specs.TreeRules.{rules}
use Rattle.standard_trees.specs.TreeStore.{Html, Node, NodeAttr, without}
use Rattle.standard_trees.specs.GrowingTree.{GrowingTree, Marker, created_element, fresh, inserted, is_among, place, put, pushed, unstacked}
use Rattle.standard_trees.specs.GrowingTree.{with_stack}
use Rattle.standard_trees.specs.Building.{Building, own_name, perform, performed, taken, with_head, with_tree}
use Rattle.standard_order.proofs.Labels.{Grows, Is as IsAt, Label, Makes, grows_at, labels, never_at}
use Rattle.standard_order.proofs.StandingStacks.{Closed, Inside, Stands, allowed, both, fixed, head, html, never, opposite}
use Rattle.standard_order.proofs.StandingStacks.{pushed_on, same_number, stands_grown}
use Rattle.standard_order.proofs.GoodTrees.{PointersOf, held, label_for, makes_inserted, pointers_grown}
use Rattle.standard_order.proofs.Levels.{Held, Start, heads, own}
use Rattle.standard_order.proofs.LevelFacts.{Content, Stk, TreeIs, Turn, stands_weaker}
use Rattle.standard_order.proofs.LevelTrees.{holds_of}
use Rattle.standard_order.proofs.Follows.{Follows}
use Rattle.standard_order.proofs.RulesUsed.{of_turn, with_tok}
use Rattle.standard_order.proofs.StandingStacks.{named_apart, fewer, framing}

-- ---- the head element is taken from the stack

differs : (ls : List Label) (test : Label → Bool) (m n : ℕ) → ((l : Label) → test l ≡ true → head l ≡ true → ⊥) → IsAt test ls m →
    IsAt head ls n → nat_eq m n ≡ false
differs ls test m n off at h = by (nat_eq m n) refl
  where
    by : (x : Bool) → nat_eq m n ≡ x → x ≡ false
    by true e = absurd (never_at test head off ls m at (subst (λ i. IsAt head ls i) (sym (same_number m n e)) h))
    by false e = refl

without_itself : (n : ℕ) (s : List ℕ) → without n (n ∷ s) ≡ without n s
without_itself n s = ap (λ x. cond (not x) (n ∷ without n s) (without n s)) ((Decides-eqb n n).1 refl)

without_other : (m n : ℕ) (s : List ℕ) → nat_eq m n ≡ false → without n (m ∷ s) ≡ m ∷ without n s
without_other m n s e = ap (λ x. cond (not x) (m ∷ without n s) (without n s)) e

pub html_not_head : (l : Label) → html l ≡ true → head l ≡ true → ⊥
html_not_head l h k = opposite (head l) (named_apart (codes "html" ∷ []) (codes "head" ∷ []) refl l h) k

pub closed_not_head : (l : Label) → allowed Closed l ≡ true → head l ≡ true → ⊥
closed_not_head l h k = opposite (head l) (fewer l.name (codes "head" ∷ []) framing refl h) k

pub without_closed : (ls : List Label) (n : ℕ) → IsAt head ls n → (s : List ℕ) → Stands Closed ls s → without n s ≡ s
without_closed ls n h [] st = refl
without_closed ls n h (m ∷ ms) (inl root) =
    subst (λ q. without n (m ∷ q) ≡ m ∷ q) (sym root.1) (without_other m n [] (differs ls html m n html_not_head root.0 h))
without_closed ls n h (m ∷ ms) (inr (inl a)) = never a.0
without_closed ls n h (m ∷ ms) (inr (inr a)) =
    without_other m n ms (differs ls (allowed Closed) m n closed_not_head a.0 h) ∙ ap (λ q. m ∷ q) (without_closed ls n h ms a.1)

-- the stack without the head element, if there is one
abbrev pub without_head : Option ℕ → List ℕ → List ℕ
without_head None s = s
without_head (Some n) s = without n s

removed : (P : GrowingTree → Type 0) (t : GrowingTree) (o : Option ℕ) (rest : List ℕ) → t.head ≡ o → without_head o t.stack ≡ rest →
    P (with_stack t rest) → P (option_map_or (λ m. unstacked m t) t.head t)
removed P t o rest e f h = subst (λ q. P (option_map_or (λ m. unstacked m t) q t)) (sym e) (by o f)
  where
    by : (o : Option ℕ) → without_head o t.stack ≡ rest → P (option_map_or (λ m. unstacked m t) o t)
    by None g = subst (λ q. P (with_stack t q)) (sym g) h
    by (Some n) g = subst (λ q. P (with_stack t q)) (sym g) h

-- ---- an element is inserted

pub record Inserts (name : List ℕ) (attrs : List NodeAttr) (t : GrowingTree) : Type 0 where
  pub nodes : List Node
  pub grows : Grows t.nodes nodes
  pub made : (test : Label → Bool) → test (label_for Html name) ≡ true → IsAt test (labels nodes) (fresh t)
  pub gives : inserted Html name attrs t ≡ record t { nodes = nodes; stack = fresh t ∷ t.stack }

inserts : (name : List ℕ) (attrs : List NodeAttr) (t : GrowingTree) → Inserts name attrs t
inserts name attrs t = record {
  nodes = made.nodes;
  grows = makes.grows;
  made = makes.made;
  gives = ap (pushed (fresh t)) makes.only;
}
  where
    made : GrowingTree
    made = put (fresh t) (place t) (created_element Html name attrs t)

    makes : Makes (label_for Html name) t made
    makes = makes_inserted (place t) Html name attrs t

-- ---- with the head element on the stack

-- the head element, if there is one
abbrev pub IsHeadIn : List Label → Option ℕ → Type 0
IsHeadIn ls None = Unit {0}
IsHeadIn ls (Some n) = IsAt head ls n

head_in_grown : (old new : List Node) → Grows old new → (o : Option ℕ) → IsHeadIn (labels old) o → IsHeadIn (labels new) o
head_in_grown old new grows None h = tt
head_in_grown old new grows (Some n) h = grows_at head old new grows n h

pub record Carries (o : Option ℕ) (s : List ℕ) (b : Building) : Type 0 where
  pub mode_is : b.mode ≡ AfterHead
  pub modes : Content b.template_modes
  pub head_at : b.tree.head ≡ o
  pub stack_is : b.tree.stack ≡ with_head o s
  pub is_head : IsHeadIn (labels b.tree.nodes) o
  pub below : Stands Closed (labels b.tree.nodes) s
  pub pointers : PointersOf b.tree

-- once the head element is removed from it, a turn may begin
abbrev pub Carried : Building → Type 0
Carried b = Turn (perform RemoveHeadFromStack b)

pointers_with : (t : GrowingTree) (nodes : List Node) (s : List ℕ) → Grows t.nodes nodes → PointersOf t →
    PointersOf (record t { nodes = nodes; stack = s })
pointers_with t nodes s grows p = pointers_grown t.nodes nodes grows t.listed t.form t.found t.head t.context p

removed_head : (o : Option ℕ) (s : List ℕ) (ls : List Label) → IsHeadIn ls o → Stands Closed ls s → without_head o (with_head o s) ≡ s
removed_head None s ls h st = refl
removed_head (Some n) s ls h st = without_itself n s ∙ without_closed ls n h s st

removed_below : (test : Label → Bool) (m : ℕ) (o : Option ℕ) (s : List ℕ) (ls : List Label) →
    ((l : Label) → test l ≡ true → head l ≡ true → ⊥) → IsAt test ls m → IsHeadIn ls o → Stands Closed ls s →
    without_head o (m ∷ with_head o s) ≡ m ∷ s
removed_below test m None s ls off at h st = refl
removed_below test m (Some n) s ls off at h st =
    without_other m n (n ∷ s) (differs ls test m n off at h) ∙ ap (λ q. m ∷ q) (removed_head (Some n) s ls h st)

-- a void element
void_carried : (o : Option ℕ) (s : List ℕ) (b : Building) → Carries o s b → Carried (perform Pop (perform InsertElement b))
unfolding perform
void_carried o s b c = subst (λ (u : GrowingTree). Carried (with_tree b (with_stack u (drop 1 u.stack)))) (sym ins.gives)
    (removed (λ t. Turn (with_tree b t)) w o s c.head_at (subst (λ q. without_head o q ≡ s) (sym c.stack_is) (removed_head o s (labels ins.nodes)
    (head_in_grown b.tree.nodes ins.nodes ins.grows o c.is_head) st))
    (of_turn (with_tree b (with_stack w s)) c.modes (subst (λ m. TreeIs (own m) (with_stack w s)) (sym c.mode_is) (
      (st, λ k. never k),
      pointers_with b.tree ins.nodes s ins.grows c.pointers,
    ))))
  where
    ins : Inserts (own_name b.token) b.attrs b.tree
    ins = inserts (own_name b.token) b.attrs b.tree

    w : GrowingTree
    w = record b.tree { nodes = ins.nodes; stack = b.tree.stack }

    st : Stands Closed (labels ins.nodes) s
    st = stands_grown Closed b.tree.nodes ins.nodes ins.grows s c.below

held_not_head : (l : Label) → held l ≡ true → head l ≡ true → ⊥
held_not_head l h k = opposite (head l) (fewer l.name (codes "head" ∷ []) fixed refl (both l.html (not (is_among l.name fixed)) h).1) k

-- an element with text
text_carried : (o : Option ℕ) (s : List ℕ) (state : TextState) (b : Building) → not (is_among (own_name b.token) fixed) ≡ true → Carries o s b →
    Carried (perform (SwitchTo Text) (perform KeepMode (perform (TokenizerTo state) (perform InsertElement b))))
unfolding perform
text_carried o s state b ok c = subst (λ (u : GrowingTree). Carried (record (with_tree b u) {
  tokenizer = Some state;
  original = b.mode;
  mode = Text;
})) (sym ins.gives)
    (removed (λ t. Turn (record (with_tree b t) { tokenizer = Some state; original = b.mode; mode = Text })) w o (fresh b.tree ∷ s)
    c.head_at
    (subst (λ q. without_head o (fresh b.tree ∷ q) ≡ fresh b.tree ∷ s) (sym c.stack_is)
    (removed_below held (fresh b.tree) o s (labels ins.nodes) held_not_head at is_head st)) (
      c.modes,
      (
        subst (λ m. Stk (Held (own m)) (labels ins.nodes) (fresh b.tree ∷ s)) (sym c.mode_is) (at, (st, λ k. never k)),
        pointers_with b.tree ins.nodes (fresh b.tree ∷ s) ins.grows c.pointers,
      ),
    ))
  where
    ins : Inserts (own_name b.token) b.attrs b.tree
    ins = inserts (own_name b.token) b.attrs b.tree

    w : GrowingTree
    w = record b.tree { nodes = ins.nodes; stack = fresh b.tree ∷ b.tree.stack }

    st : Stands Closed (labels ins.nodes) s
    st = stands_grown Closed b.tree.nodes ins.nodes ins.grows s c.below

    at : IsAt held (labels ins.nodes) (fresh b.tree)
    at = ins.made held ok

    is_head : IsHeadIn (labels ins.nodes) o
    is_head = head_in_grown b.tree.nodes ins.nodes ins.grows o c.is_head

inside_not_head : (l : Label) → allowed Inside l ≡ true → head l ≡ true → ⊥
inside_not_head l h k = opposite (head l) (fewer l.name (codes "head" ∷ []) (codes "html" ∷ codes "head" ∷ codes "frameset" ∷ []) refl h) k

marked : (t : GrowingTree) → PointersOf t → PointersOf (record t { listed = Marker ∷ t.listed })
marked t p = record {
  entries = p.entries;
  form_is = p.form_is;
  found_is = p.found_is;
  head_is = p.head_is;
}

-- a template
template_carried : (o : Option ℕ) (s : List ℕ) (b : Building) → allowed Inside (label_for Html (own_name b.token)) ≡ true → Carries o s b →
    Carried (perform InsertElement (perform (PushTemplateMode InTemplate)
    (perform (SwitchTo InTemplate) (perform FramesetNotOk (perform ListMarker b)))))
unfolding perform
template_carried o s b ok c = subst (λ (u : GrowingTree). Carried (record (with_tree b u) {
  frameset_ok = false;
  mode = InTemplate;
  template_modes = InTemplate ∷ b.template_modes;
})) (sym ins.gives)
    (removed (λ t. Turn (record (with_tree b t) { frameset_ok = false; mode = InTemplate; template_modes = InTemplate ∷ b.template_modes }))
    w o (fresh b.tree ∷ s) c.head_at
    (subst (λ q. without_head o (fresh b.tree ∷ q) ≡ fresh b.tree ∷ s) (sym c.stack_is)
    (removed_below (allowed Inside) (fresh b.tree) o s (labels ins.nodes) inside_not_head at is_head st)) (
      c.modes,
      (
        (pushed_on Inside (labels ins.nodes) (fresh b.tree) s at (stands_weaker Closed Inside refl (labels ins.nodes) s st), λ k. never k),
        pointers_with t ins.nodes (fresh b.tree ∷ s) ins.grows (marked b.tree c.pointers),
      ),
    ))
  where
    t : GrowingTree
    t = record b.tree { listed = Marker ∷ b.tree.listed }

    ins : Inserts (own_name b.token) b.attrs t
    ins = inserts (own_name b.token) b.attrs t

    w : GrowingTree
    w = record t { nodes = ins.nodes; stack = fresh b.tree ∷ b.tree.stack }

    st : Stands Closed (labels ins.nodes) s
    st = stands_grown Closed b.tree.nodes ins.nodes ins.grows s c.below

    at : IsAt (allowed Inside) (labels ins.nodes) (fresh b.tree)
    at = ins.made (allowed Inside) ok

    is_head : IsHeadIn (labels ins.nodes) o
    is_head = head_in_grown b.tree.nodes ins.nodes ins.grows o c.is_head

-- ---- which acts are taken

abbrev pub void_acts : List Act
void_acts = does InsertElement [] ∷ does Pop [] ∷ []

abbrev pub text_acts : TextState → List Act
text_acts state = does InsertElement [] ∷ does (TokenizerTo state) [] ∷ does KeepMode [] ∷ does (SwitchTo Text) [] ∷ []

abbrev pub template_acts : List Act
template_acts =
    does ListMarker [] ∷ does FramesetNotOk [] ∷ does (SwitchTo InTemplate) [] ∷ does (PushTemplateMode InTemplate) [] ∷ does InsertElement
    [] ∷ []

abbrev pub HeadActs : List ℕ → List Act → Type 0
HeadActs name acts =
    (acts ≡ void_acts) ⊎ (((state : TextState) × (acts ≡ text_acts state) × (not (is_among name fixed) ≡ true))
    ⊎ ((acts ≡ template_acts) × (allowed Inside (label_for Html name) ≡ true)))

abbrev pub EachName : (List ℕ → Type 0) → List (List ℕ) → Type 0
EachName P [] = Unit {0}
EachName P (one ∷ more) = P one × EachName P more

pub each_name : (P : List ℕ → Type 0) (names : List (List ℕ)) → EachName P names → (name : List ℕ) → is_among name names ≡ true → P name
each_name P [] all name h = never h
each_name P (one ∷ more) all name h = by (bytes_eq name one) refl h (λ k. each_name P more all.1 name k)
  where
    by : (x : Bool) → bytes_eq name one ≡ x → x || is_among name more ≡ true → (is_among name more ≡ true → P name) → P name
    by true e k go = subst P (sym ((bytes_eq-Decides name one).0 e)) all.0
    by false e k go = go k

named_acts : (attrs : List Attr) (closing : Bool) (u : Building) (name : List ℕ) → is_among name heads ≡ true →
    HeadActs name (taken (with_tok (AStart name attrs closing) u) (rules InHead))
unfolding rules taken
named_acts attrs closing u = each_name (λ name. HeadActs name (taken (with_tok (AStart name attrs closing) u) (rules InHead))) heads (
  inl refl,
  (
    inl refl,
    (
      inl refl,
      (
        inl refl,
        (
          inl refl,
          (
            inr (inl (RawText, refl, refl)),
            (
              inr (inl (ScriptText, refl, refl)),
              (
                inr (inl (RawText, refl, refl)),
                (
                  inr (inr (refl, refl)),
                  (inr (inl (RcdataText, refl, refl)), tt),
                ),
              ),
            ),
          ),
        ),
      ),
    ),
  ),
)

token_acts : (t : Token) (u : Building) → holds_of (Start heads) t ≡ true → HeadActs (own_name t) (taken (with_tok t u) (rules InHead))
token_acts (AStart name attrs closing) u h = named_acts attrs closing u name h
token_acts (AnEnd name) u h = never h
token_acts (AChar c) u h = never h
token_acts (AComment text) u h = never h
token_acts (ADoctype d) u h = never h
token_acts AnEof u h = never h

pub head_acts : (b : Building) → holds_of (Start heads) b.token ≡ true → HeadActs (own_name b.token) (taken b (rules InHead))
head_acts b h = token_acts b.token b h

pub acts_carried : (f g : Mode → Building → Option Building) (o : Option ℕ) (s : List ℕ) (b : Building) (acts : List Act) →
    HeadActs (own_name b.token) acts → Carries o s b →
    Follows Carried (performed f acts b) (performed g acts b)
unfolding perform
acts_carried f g o s b acts (inl e) c = subst (λ a. Follows Carried (performed f a b) (performed g a b)) (sym e)
    (λ d h. (h, subst Carried (same_Some _ d h) (void_carried o s b c)))
acts_carried f g o s b acts (inr (inl one)) c = subst (λ a. Follows Carried (performed f a b) (performed g a b)) (sym one.1)
    (λ d h. (h, subst Carried (same_Some _ d h) (text_carried o s one.0 b one.2 c)))
acts_carried f g o s b acts (inr (inr one)) c = subst (λ a. Follows Carried (performed f a b) (performed g a b)) (sym one.0)
    (λ d h. (h, subst Carried (same_Some _ d h) (template_carried o s b one.1 c)))
