-- Each action of the one definition does what its like does in the other.
use Rattle.std.specs.Prelude.{◌≡◌, refl, ℕ, Bool, true, false, not, ◌&&◌, List, [], ◌∷◌, Option, None, Some, bytes_eq, codes, drop}
use Rattle.std.proofs.lemmas.Option.{same_Some}
use Rattle.std.proofs.lemmas.Slice.Eq.{bytes_eq-Decides}
use mathlib.Core.Path.{◌∙◌, sym, ap, subst}
use Rattle.standard_tokens.specs.Tokens.{Attr, Token, AChar, AComment, ADoctype, AStart, AnEnd, AnEof}
use Rattle.standard_rules.specs.Building.{Building, Entry as OldEntry, Marker as OldMarker, Open, act, adopted, at_top, closed_item as old_closed_item, closed_p as old_closed_p, ended_other, enlisted as old_enlisted}
use Rattle.standard_rules.specs.Building.{form_ended as old_form_ended, implied_but, inserted as old_inserted, names_for as old_names_for, needs_none, on_stack, open_item as item_name, own_attrs, own_name, popped}
use Rattle.standard_rules.specs.Building.{popped_until as old_popped_until, popped_while, top_is, top_number, with_comment as old_with_comment, with_stack as old_with_stack, with_text_char, adopted_by, is_number, unlisted, top_unlisted, last_listed, cleared as old_cleared}
use Rattle.standard_rules.specs.RuleWords as O
use Rattle.standard_rules.specs.TreeTokens.{Trees, is_among}
use Rattle.standard_trees.specs.Building.{Building as WholeBuilding, char_of, comment_of, names_for, own_name as new_own_name, perform, token_attrs, with_tree}
use Rattle.standard_trees.specs.Formatting.{adoption, cleared, closed_item, enlisted, open_item, reconstructed, any_other_end, without_p}
use Rattle.standard_trees.specs.GrowingTree.{FormAt, GrowingTree, Marker, current, implied_of, inserted, place, popped_until, popped_up_to, top, with_chars, with_comment, with_stack}
use Rattle.standard_trees.specs.NameLists.{implied}
use Rattle.standard_trees.specs.RuleWords as N
use Rattle.standard_trees.specs.TreeStore.{Html, Kind}
use Rattle.standard_agreement.proofs.Names.{IsKnown, alike, known}
use Rattle.standard_agreement.proofs.Preorder.{node_attrs}
use Rattle.standard_agreement.proofs.Store.{free}
use Rattle.standard_agreement.proofs.Listing.{Linked, cleared_is}
use Rattle.standard_agreement.proofs.Parts.{Parts, StackOp, implied_op, item_op, other_op, p_op, pop_op, until_op, up_to_op}
use Rattle.standard_agreement.proofs.Writing.{IsNewest, char_op, comment_op, current_linked, insert_newest, insert_op, list_op, nothing_reopened}
use Rattle.standard_agreement.proofs.Acting.{Stands, adoption_act, end_form_act, stack_act}
use Rattle.standard_agreement.proofs.Choosing.{fits_act, fresh_after, is_form, is_fresh, new_list}
use Rattle.standard_agreement.proofs.Deciding.{alike_lists, alike_names, both, new_names}

-- the element that was just inserted is the current node, and comes behind all that are listed
abbrev pub TopNamed : List ℕ → List Open → Type 0
TopNamed name [] = ⊥
TopNamed name (o ∷ os) = o.name ≡ name

abbrev pub FreshIs : Option (List ℕ) → Building → WholeBuilding → Type 0
FreshIs None b c = Unit {0}
FreshIs (Some name) b c = IsNewest b.document b.stack c.tree × TopNamed name b.stack

-- an action changes the tree and the list alone
pub record Quiet (b after : Building) (c later : WholeBuilding) : Type 0 where
  pub mode : after.mode ≡ b.mode
  pub original : after.original ≡ b.original
  pub new_mode : later.mode ≡ c.mode
  pub new_original : later.original ≡ c.original
  pub token : later.token ≡ c.token
  pub attrs : later.attrs ≡ c.attrs
  pub tokenizer : later.tokenizer ≡ c.tokenizer

abbrev pub Done : Option Kind → Option (List ℕ) → Building → Building → WholeBuilding → WholeBuilding → Type 0
Done around fresh b after c later = Stands around after later × FreshIs fresh after later × Quiet b after c later

attrs_are : (t : Token) → token_attrs t ≡ node_attrs (own_attrs t)
attrs_are (AStart name attrs closing) = refl
attrs_are (AnEnd name) = refl
attrs_are (AChar c) = refl
attrs_are (AComment text) = refl
attrs_are (ADoctype doctype) = refl
attrs_are AnEof = refl

own_is : (t : Token) → new_own_name t ≡ own_name t
own_is (AStart name attrs closing) = refl
own_is (AnEnd name) = refl
own_is (AChar c) = refl
own_is (AComment text) = refl
own_is (ADoctype doctype) = refl
own_is AnEof = refl

-- ---- what stays

some_after : {A : Type 0} (of : Building → A) (x after : Building) → Some x ≡ Some after → of after ≡ of x
some_after of x after h = ap of (sym (same_Some x after h))

stack_after : {A : Type 0} (of : Building → A) (b after : Building) → ((os : List Open) → of (old_with_stack b os) ≡ of b) → (o : Option (List Open)) → on_stack b o ≡ Some after → of after ≡ of b
stack_after of b after same None h = cc
stack_after of b after same (Some os) h = some_after of (old_with_stack b os) after h ∙ same os

-- an action on the stack
pub by_stack : (around : Option Kind) (f : List Open → Option (List Open)) (g : GrowingTree → GrowingTree) → StackOp f g → (b after : Building) (c : WholeBuilding) → Stands around b c →
    on_stack b (f b.stack) ≡ Some after → Done around None b after c (with_tree c (g c.tree))
by_stack around f g op b after c s h = (
  stack_act f g op around b after c s h,
  tt,
  record {
    mode = stack_after (λ (x : Building). x.mode) b after (λ os. refl) (f b.stack) h;
    original = stack_after (λ (x : Building). x.original) b after (λ os. refl) (f b.stack) h;
    new_mode = refl;
    new_original = refl;
    token = refl;
    attrs = refl;
    tokenizer = refl;
  },
)

-- an action that is told whole
by_some : (around : Option Kind) (fresh : Option (List ℕ)) (b x after : Building) (c : WholeBuilding) (t : GrowingTree) → Some x ≡ Some after → Stands around x (with_tree c t) →
    FreshIs fresh x (with_tree c t) → x.mode ≡ b.mode → x.original ≡ b.original → Done around fresh b after c (with_tree c t)
by_some around fresh b x after c t h s f mode original =
    subst (λ (y : Building). Done around fresh b y c (with_tree c t)) (same_Some x after h)
    (s, f, record { mode = mode; original = original; new_mode = refl; new_original = refl; token = refl; attrs = refl; tokenizer = refl })

-- ---- insertions

insert_act : (around : Option Kind) (b after : Building) (c : WholeBuilding) (name : List ℕ) (attrs : List Attr) → IsKnown name → Stands around b c → Some (old_inserted name attrs b) ≡ Some after →
    Done around (Some name) b after c (with_tree c (inserted Html name (node_attrs attrs) c.tree))
insert_act around b after c name attrs known s h =
    by_some around (Some name) b (old_inserted name attrs b) after c (inserted Html name (node_attrs attrs) c.tree) h
    (record {
      parts = insert_op b.document b.stack b.listed b.form b.next around c.tree name attrs known s.parts;
      context = s.context;
      templates = s.templates;
      quirks = s.quirks;
      skip = s.skip;
    }) (insert_newest b.document b.stack b.listed b.form b.next around c.tree name attrs known s.parts, refl) refl refl

-- something at the end of the current node's children
top_act : (around : Option Kind) (b after : Building) (c : WholeBuilding) (f : Trees → Trees) (t : GrowingTree) →
    ((o : Open) (os : List Open) → Parts b.document (o ∷ os) b.listed b.form b.next around c.tree → Parts b.document (record o { children = f o.children } ∷ os) b.listed b.form b.next around t) →
    Stands around b c → Some (at_top f b) ≡ Some after → Done around None b after c (with_tree c t)
top_act around b after c f t op s h = by_some around None b (at_top f b) after c t h (here b.stack s.parts) tt (mode_kept b.stack) (original_kept b.stack)
  where
    here : (os : List Open) → Parts b.document os b.listed b.form b.next around c.tree →
        Stands around (elim os [ [] ↦ record b { document = f b.document } | o ∷ ps ↦ record b { stack = record o { children = f o.children } ∷ ps } ]) (with_tree c t)
    here [] p = absurd p.fits.3
    here (o ∷ os) p = record { parts = op o os p; context = s.context; templates = s.templates; quirks = s.quirks; skip = s.skip }

    mode_kept : (os : List Open) →
        (elim os as (λ x. Building) [ [] ↦ record b { document = f b.document } | o ∷ ps ↦ record b { stack = record o { children = f o.children } ∷ ps } ]).mode ≡ b.mode
    mode_kept [] = refl
    mode_kept (o ∷ os) = refl

    original_kept : (os : List Open) →
        (elim os as (λ x. Building) [ [] ↦ record b { document = f b.document } | o ∷ ps ↦ record b { stack = record o { children = f o.children } ∷ ps } ]).original ≡ b.original
    original_kept [] = refl
    original_kept (o ∷ os) = refl

no_child : (o : Open) (t : Trees) → t ≡ o.children → record o { children = t } ≡ o
no_child o t h = ap (λ x. record o { children = x }) h

pub char_act : (around : Option Kind) (b after : Building) (c : WholeBuilding) → Stands around b c → Some (at_top (with_text_char c.token) b) ≡ Some after →
    Done around None b after c (with_tree c (with_chars (char_of c.token) c.tree))
char_act around b after c s h =
    top_act around b after c (with_text_char c.token) (with_chars (char_of c.token) c.tree) (λ o os p. by_token c.token o os p) s h
  where
    by_token : (t : Token) (o : Open) (os : List Open) → Parts b.document (o ∷ os) b.listed b.form b.next around c.tree →
        Parts b.document (record o { children = with_text_char t o.children } ∷ os) b.listed b.form b.next around (with_chars (char_of t) c.tree)
    by_token (AChar d) o os p = char_op b.document o os b.listed b.form b.next around c.tree d p
    by_token (AStart name attrs closing) o os p = p
    by_token (AnEnd name) o os p = p
    by_token (AComment text) o os p = p
    by_token (ADoctype doctype) o os p = p
    by_token AnEof o os p = p

-- a comment is inserted for a comment alone
comment_act : (around : Option Kind) (b after : Building) (c : WholeBuilding) → (text : List ℕ) → c.token ≡ AComment text → Stands around b c →
    Some (at_top (old_with_comment c.token) b) ≡ Some after → Done around None b after c (with_tree c (with_comment (comment_of c.token) (place c.tree) c.tree))
comment_act around b after c text is s h =
    top_act around b after c (old_with_comment c.token) (with_comment (comment_of c.token) (place c.tree) c.tree)
    (λ o os p. subst (λ t. Parts b.document (record o { children = old_with_comment t o.children } ∷ os) b.listed b.form b.next around (with_comment (comment_of t) (place c.tree) c.tree)) (sym is)
    (comment_op b.document o os b.listed b.form b.next around c.tree text p)) s h

-- ---- the list

list_act : (around : Option Kind) (fresh : Option (List ℕ)) (b after : Building) (c : WholeBuilding) → is_fresh fresh ≡ true → FreshIs fresh b c → Stands around b c →
    Some (record b { listed = old_enlisted b.stack b.listed }) ≡ Some after → Done around None b after c (with_tree c (enlisted c.tree))
list_act around None b after c is f s h = cc
list_act around (Some name) b after c is f s h =
    by_some around None b (record b { listed = old_enlisted b.stack b.listed }) after c (enlisted c.tree) h (record {
      parts = list_op b.document b.stack b.listed b.form b.next around c.tree s.parts f.0;
      context = s.context;
      templates = s.templates;
      quirks = s.quirks;
      skip = s.skip;
    }) tt refl refl

set_form_act : (around : Option Kind) (fresh : Option (List ℕ)) (b after : Building) (c : WholeBuilding) → is_form fresh ≡ true → FreshIs fresh b c → Stands around b c →
    Some (record b { form = top_number b.stack }) ≡ Some after → Done around None b after c (with_tree c (record c.tree { form = FormAt (current c.tree) }))
set_form_act around None b after c is f s h = cc
set_form_act around (Some name) b after c is f s h =
    by_some around None b (record b { form = top_number b.stack }) after c (record c.tree { form = FormAt (current c.tree) }) h (record {
      parts = by_top b.stack f.1 s.parts;
      context = s.context;
      templates = s.templates;
      quirks = s.quirks;
      skip = s.skip;
    }) tt refl refl
  where
    by_top : (os : List Open) → TopNamed name os → Parts b.document os b.listed b.form b.next around c.tree →
        Parts b.document os b.listed (top_number os) b.next around (record c.tree { form = FormAt (current c.tree) })
    by_top [] n p = absurd n
    by_top (o ∷ os) n p =
        subst (λ m. Parts b.document (o ∷ os) b.listed (Some o.number) b.next around (record c.tree { form = FormAt m })) (sym (ap top p.stack)) (record {
          fits = p.fits;
          stack = p.stack;
          listed = p.listed;
          pointer = (
            o.attrs,
            subst (λ other. Linked c.tree.nodes b.next b.document (o ∷ os) o.number other o.attrs (free b.document os))
                (n ∙ (bytes_eq-Decides name (codes "form")).0 is) (current_linked b.document o os b.listed b.form b.next around c.tree p),
          );
          below = p.below;
          fostering = p.fostering;
          around = p.around;
        })

relisted : (around : Option Kind) (b after : Building) (c : WholeBuilding) (es : List OldEntry) (t : GrowingTree) → Parts b.document b.stack es b.form b.next around t → Stands around b c →
    Some (record b { listed = es }) ≡ Some after → Done around None b after c (with_tree c t)
relisted around b after c es t p s h =
    by_some around None b (record b { listed = es }) after c t h (record { parts = p; context = s.context; templates = s.templates; quirks = s.quirks; skip = s.skip }) tt refl refl

-- ---- what stays at the adoption agency and at the end of a form

adopted_after : {A : Type 0} (of : Building → A) → ((b : Building) (os : List Open) (es : List OldEntry) → of (record b { stack = os; listed = es }) ≡ of b) → (name : List ℕ) (b after : Building) →
    adopted name b ≡ Some after → of after ≡ of b
adopted_after of same name b after h =
    by_top (top_is (name ∷ []) b.stack && top_unlisted b) h
  where
    by_number : (x : Bool) (k : ℕ) → elim x [ true ↦ on_stack (record b { listed = unlisted k b.listed }) (popped b.stack) | false ↦ None ] ≡ Some after → of after ≡ of b
    by_number false k e = cc
    by_number true k e =
        stack_after of (record b { listed = unlisted k b.listed }) after (λ os. same b os (unlisted k b.listed) ∙ sym (same b b.stack (unlisted k b.listed))) (popped b.stack) e
        ∙ same b b.stack (unlisted k b.listed)

    by_found : (o : Option ℕ) → adopted_by name o b ≡ Some after → of after ≡ of b
    by_found None e = stack_after of b after (λ os. same b os b.listed) (ended_other name b.stack) e
    by_found (Some k) e = by_number (is_number (top_number b.stack) k) k e

    by_top : (x : Bool) → elim x [ true ↦ on_stack b (popped b.stack) | false ↦ adopted_by name (last_listed (name ∷ []) b.listed) b ] ≡ Some after → of after ≡ of b
    by_top true e = stack_after of b after (λ os. same b os b.listed) (popped b.stack) e
    by_top false e = by_found (last_listed (name ∷ []) b.listed) e

form_after : {A : Type 0} (of : Building → A) → ((b : Building) (os : List Open) (form : Option ℕ) → of (record b { stack = os; form = form }) ≡ of b) → (o : Option ℕ) (b after : Building) →
    old_form_ended o b ≡ Some after → of after ≡ of b
form_after of same None b after h = some_after of b after h
form_after of same (Some k) b after h = by_number (is_number (top_number b.stack) k) h
  where
    by_number : (x : Bool) → elim x [ true ↦ on_stack (record b { form = None }) (popped b.stack) | false ↦ None ] ≡ Some after → of after ≡ of b
    by_number false e = cc
    by_number true e = stack_after of (record b { form = None }) after (λ os. same b os None ∙ sym (same b b.stack None)) (popped b.stack) e ∙ same b b.stack None

-- ---- every action

bare_done : (around : Option Kind) (b after : Building) (c later : WholeBuilding) → Stands around after later → Quiet b after c later → Done around None b after c later
bare_done around b after c later s q = (s, tt, q)

pub act_sound : (around : Option Kind) (fresh : Option (List ℕ)) (new : N.Action) (old : O.Action) (b after : Building) (c : WholeBuilding) → fits_act (own_name c.token) fresh new old ≡ true →
    Stands around b c → FreshIs fresh b c → c.attrs ≡ token_attrs c.token → ((old ≡ O.InsertComment) → (text : List ℕ) × (c.token ≡ AComment text)) → act old c.token b ≡ Some after →
    Done around (fresh_after (own_name c.token) new) b after c (perform new c)
unfolding act perform
act_sound around fresh N.InsertCharacter O.InsertCharacter b after c fit s f attrs comment h = char_act around b after c s h
act_sound around fresh N.InsertComment O.InsertComment b after c fit s f attrs comment h =
    let k = comment refl in comment_act around b after c k.0 k.1 s h
act_sound around fresh N.InsertElement O.InsertElement b after c fit s f attrs comment h =
    subst (λ name. Done around (Some (own_name c.token)) b after c (with_tree c (inserted Html name c.attrs c.tree))) (sym (own_is c.token))
    (subst (λ l. Done around (Some (own_name c.token)) b after c (with_tree c (inserted Html (own_name c.token) l c.tree))) (sym (attrs ∙ attrs_are c.token))
    (insert_act around b after c (own_name c.token) (own_attrs c.token) fit s h))
act_sound around fresh (N.InsertNamed new) (O.InsertNamed old) b after c fit s f attrs comment h =
    let k = both (bytes_eq new old) (is_among new known) fit in
    insert_act around b after c new [] k.1 s (ap (λ name. Some (old_inserted name [] b)) ((bytes_eq-Decides new old).0 k.0) ∙ h)
act_sound around fresh N.Pop O.Pop b after c fit s f attrs comment h = by_stack around popped (λ t. with_stack t (drop 1 t.stack)) pop_op b after c s h
act_sound around fresh N.FramesetNotOk O.FramesetNotOk b after c fit s f attrs comment h =
    subst (λ (y : Building). Done around None b y c (record c { frameset_ok = false })) (same_Some (record b { frameset_ok = false }) after h) (
      record { parts = s.parts; context = s.context; templates = s.templates; quirks = s.quirks; skip = s.skip },
      tt,
      record { mode = refl; original = refl; new_mode = refl; new_original = refl; token = refl; attrs = refl; tokenizer = refl },
    )
act_sound around fresh N.ReconstructFormatting O.Reconstruct b after c fit s f attrs comment h = by_need (needs_none b.listed b.stack) refl h
  where
    by_need : (x : Bool) → needs_none b.listed b.stack ≡ x → elim x [ true ↦ Some b | false ↦ None ] ≡ Some after → Done around None b after c (with_tree c (reconstructed c.tree))
    by_need false e k = cc
    by_need true e k =
        subst (λ (t : GrowingTree). Done around None b after c (with_tree c t)) (sym (nothing_reopened b.document b.stack b.listed b.form b.next around c.tree s.parts e))
        (by_some around None b b after c c.tree k s tt refl refl)
act_sound around fresh N.CloseP O.CloseP b after c fit s f attrs comment h = by_stack around old_closed_p without_p p_op b after c s h
act_sound around fresh N.ImpliedEndTags O.ImpliedEndTags b after c fit s f attrs comment h =
    by_stack around (λ os. Some (implied_but [] os)) (implied_of implied []) (implied_op [] [] refl) b after c s h
act_sound around fresh (N.ImpliedEndTagsBut names) (O.ImpliedEndTagsBut others) b after c fit s f attrs comment h =
    by_stack around (λ os. Some (implied_but (old_names_for others c.token) os)) (implied_of implied (names_for names c.token))
    (implied_op (names_for names c.token) (old_names_for others c.token) (alike_names c.token names others fit)) b after c s h
act_sound around fresh N.ListElement O.ListElement b after c fit s f attrs comment h = list_act around fresh b after c fit f s h
act_sound around fresh N.ListMarker O.ListMarker b after c fit s f attrs comment h =
    relisted around b after c (OldMarker ∷ b.listed) (record c.tree { listed = Marker ∷ c.tree.listed }) (record {
      fits = s.parts.fits;
      stack = s.parts.stack;
      listed = s.parts.listed;
      pointer = s.parts.pointer;
      below = s.parts.below;
      fostering = s.parts.fostering;
      around = s.parts.around;
    }) s h
act_sound around fresh N.ClearListToMarker O.ClearToMarker b after c fit s f attrs comment h =
    relisted around b after c (old_cleared b.listed) (record c.tree { listed = cleared c.tree.listed }) (record {
      fits = s.parts.fits;
      stack = s.parts.stack;
      listed = cleared_is c.tree.nodes b.next b.document b.stack b.listed c.tree.listed s.parts.listed;
      pointer = s.parts.pointer;
      below = s.parts.below;
      fostering = s.parts.fostering;
      around = s.parts.around;
    }) s h
act_sound around fresh N.AdoptionAgency O.AdoptionAgency b after c fit s f attrs comment h =
    subst (λ name. Done around None b after c (with_tree c (adoption name c.tree))) (sym (own_is c.token)) (
      adoption_act around (own_name c.token) b after c s h,
      tt,
      record {
        mode = adopted_after (λ (x : Building). x.mode) (λ x os es. refl) (own_name c.token) b after h;
        original = adopted_after (λ (x : Building). x.original) (λ x os es. refl) (own_name c.token) b after h;
        new_mode = refl;
        new_original = refl;
        token = refl;
        attrs = refl;
        tokenizer = refl;
      },
    )
act_sound around fresh N.SetFormPointer O.SetForm b after c fit s f attrs comment h = set_form_act around fresh b after c fit f s h
act_sound around fresh N.EndForm O.EndForm b after c fit s f attrs comment h = (
  end_form_act around b after c s h,
  tt,
  record {
    mode = form_after (λ (x : Building). x.mode) (λ x os form. refl) b.form b after h;
    original = form_after (λ (x : Building). x.original) (λ x os form. refl) b.form b after h;
    new_mode = refl;
    new_original = refl;
    token = refl;
    attrs = refl;
    tokenizer = refl;
  },
)
act_sound around fresh N.AnyOtherEndTag O.AnyOtherEndTag b after c fit s f attrs comment h =
    subst (λ name. Done around None b after c (with_tree c (any_other_end name c.tree))) (sym (own_is c.token))
    (by_stack around (ended_other (own_name c.token)) (any_other_end (own_name c.token)) (other_op (own_name c.token)) b after c s h)
act_sound around fresh N.SkipNextLineFeed O.DropLineFeed b after c fit s f attrs comment h =
    subst (λ (y : Building). Done around None b y c (record c { skip = true })) (same_Some (record b { skip = true }) after h) (
      record { parts = s.parts; context = s.context; templates = s.templates; quirks = s.quirks; skip = refl },
      tt,
      record { mode = refl; original = refl; new_mode = refl; new_original = refl; token = refl; attrs = refl; tokenizer = refl },
    )
act_sound around fresh (N.PopUntil names) (O.PopUntil others) b after c fit s f attrs comment h =
    by_stack around (old_popped_until (old_names_for others c.token)) (popped_until (names_for names c.token))
    (until_op (names_for names c.token) (old_names_for others c.token) (alike_names c.token names others fit)) b after c s h
act_sound around fresh (N.PopUpTo names) (O.ClearStackTo others) b after c fit s f attrs comment h =
    by_stack around (λ os. Some (popped_while (λ name. not (is_among name (codes "html" ∷ codes "template" ∷ others))) os)) (popped_up_to (names_for names c.token))
    (up_to_op (names_for names c.token) (codes "html" ∷ codes "template" ∷ others)
    (subst (λ l. alike l (codes "html" ∷ codes "template" ∷ others) ≡ true) (sym (new_names c.token names))
    (alike_lists (new_list (own_name c.token) names) (codes "html" ∷ codes "template" ∷ others) fit)) refl) b after c s h
act_sound around fresh (N.CloseItems names) (O.CloseItems others) b after c fit s f attrs comment h =
    by_stack around (λ os. old_closed_item (item_name others os) os) (λ t. closed_item (open_item t names t.stack) t) (item_op names others (alike_lists names others fit)) b after c s h
act_sound around fresh _ _ b after c fit s f attrs comment h = cc
