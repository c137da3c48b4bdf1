-- The adoption agency algorithm has a copy of the formatting element take the children of the furthest block, and its places on the stack and in the list.
use Rattle.std.proofs.Common.{◌≡◌, ℕ, ◌+◌, ◌<◌, ◌≤◌, ◌||◌, arith, inl, inr, Bool, true, false, List, [], ◌∷◌, ◌++◌, not, reverse, refl, sym, ap, ◌∙◌, length, Option, Some, None, subst, suc, zero, drop, take, true≢false}
use Rattle.std.specs.Prelude.{Err, Ok, OnOk, Result, codes, insert, nat_lt, remove, slice_get}
use Rattle.std.specs.List.{list_any}
use Rattle.std.proofs.lemmas.Bool.{cases_Bool, ltb-false, ltb-true}
use Rattle.std.proofs.lemmas.List.{append_assoc, length-append, reverse-append}
use Rattle.std.proofs.lemmas.Option.{none-some}
use Rattle.dom_links.specs.Forest.{Forest}
use Rattle.dom_links.specs.Sound.{IsForest, contents_at}
use Rattle.standard_trees.specs.Formatting.{Climb, behind_in, copied, stacked_below, wrapped}
use Rattle.standard_trees.specs.GrowingTree.{Entry as StandardEntry, GrowingTree, place_in, put, top, with_stack}
use Rattle.standard_trees.specs.NameLists.{scope}
use Rattle.standard_trees.specs.TreeStore.{Node, Place, contents_in, is_member, node_at, put_at, without}
use Rattle.page_trees.specs.Adopting.{AdoptsChildren, AdoptsOnce, ArePassed, Climbs, FindsAt, IsClimbing, IsIndexLeft, Ladder, PutsBelow, above, climbed, entry_place, ids_of, last_in, with_children_adopted}
use Rattle.page_trees.specs.Elements.{AreOpen, IsElement, IsInOrder}
use Rattle.page_trees.specs.declared.fault.PageFault.{PageFault}
use Rattle.page_trees.specs.declared.growing.adopting.Bookmark.{Bookmark}
use Rattle.page_trees.specs.Formatting.{is_of, last_place}
use Rattle.page_trees.specs.Insertions.{MakesNext}
use Rattle.page_trees.specs.Insertions.{with_copy_inside as copied_inside}
use Rattle.page_trees.specs.Listing.{LeadsTo}
use Rattle.page_trees.specs.NameNumbers.{AreNumbered}
use Rattle.page_trees.specs.Names.{html_rows, rare_rows}
use Rattle.page_trees.specs.Placing.{is_a_template}
use Rattle.page_trees.specs.Reopening.{copy_open}
use Rattle.page_trees.specs.SameNodes.{with_copy_inside, wrapped_by}
use Rattle.page_trees.specs.Sets.{ends_scope, is_one, is_one_in}
use Rattle.page_trees.specs.Stands.{AllStand, Builds, EntryStands, StandsFor}
use Rattle.page_trees.specs.TreeState.{TreeState, completed}
use Rattle.page_trees.specs.declared.formatting.Entry.{Entry}
use Rattle.page_trees.specs.declared.stack.ElementNamespace.{ElementNamespace}
use Rattle.page_trees.specs.declared.stack.Open.{Open}
use Rattle.page_trees.proofs.Bookmarks.{bookmark_is, bookmarked_list, list_at}
use Rattle.page_trees.proofs.BuiltLists.{built_listed}
use Rattle.page_trees.proofs.BuiltStacks.{built_on}
use Rattle.page_trees.proofs.CopiedElements.{formatting_numbered, no_table, no_template}
use Rattle.page_trees.proofs.EntryPlaces.{fresh_unlisted, inserted_at, last_place_is, removed_at}
use Rattle.page_trees.proofs.InnerLoop.{climb_at, copied_is}
use Rattle.page_trees.proofs.KeptElements.{Keeps, keeps_put, stands_kept}
use Rattle.page_trees.proofs.LateNodes.{late_contents}
use Rattle.page_trees.proofs.ListedEntries.{all_turned}
use Rattle.page_trees.proofs.NamesAgree.{for_all, passes_all}
use Rattle.page_trees.proofs.NumberedNames.{inserted_numbered}
use Rattle.page_trees.proofs.SplitLists.{behind_one, lists, neither, once_there, stacked_one, without_one}
use Rattle.page_trees.proofs.StackOrder.{element_there}
use Rattle.page_trees.proofs.StackRungs.{above_is, any_in, dropped_front, get_at, get_next, ids_around, left_numbered, more_stand, one_stands, others_stand, stacked_around, stand_apart, taken_front, turned_around}
use Rattle.page_trees.proofs.StandingNames.{are_known, one_agrees}
use Rattle.page_trees.proofs.StandingNodes.{contents_is}
use Rattle.page_trees.proofs.StandingPlaces.{template_known}
use Rattle.page_trees.proofs.TakenOut.{opens_once, order_once, stack_once}
use Rattle.page_trees.proofs.WrappedElements.{ids_joined, inside_built}

-- ---- the furthest block

-- the block holds its children itself
holds_own : (s : TreeState) (t : GrowingTree) (block : Open) → Builds s t → StandsFor t.nodes block → is_a_template block ≡ false → contents_at s.forest block.id ≡ None
holds_own s t block b stands plain =
    sym (late_contents s.late s.forest block.id) ∙ sym (contents_is t.nodes (completed s.late s.forest) b.nodes block.id) ∙ ap contents_in stands.kind ∙ stands.plain plain

-- ---- the stack

pub record IsCarried (t : GrowingTree) (l : Ladder) (new : ℕ) : Type 0 where
  pub once : opens_once t.stack ≡ true
  pub ids : t.stack ≡ ids_of (above l) ++ l.element.id ∷ ids_of l.low
  pub apart : is_member l.element.id (ids_of (above l)) ≡ false
  pub result : stacked_below new l.block.id (without l.element.id t.stack) ≡ ids_of l.up ++ new ∷ l.block.id ∷ (ids_of l.copies ++ ids_of l.low)

carried_ids : (t : GrowingTree) (l : Ladder) (new : ℕ) → opens_once t.stack ≡ true → t.stack ≡ ids_of (above l) ++ l.element.id ∷ ids_of l.low → IsCarried t l new
carried_ids t l new once split =
    let alone = once_there l.element.id (ids_of (above l)) (ids_of l.low) (ap opens_once (sym split) ∙ once) in
    let up : ids_of (above l) ≡ ids_of l.up ++ l.block.id ∷ ids_of l.copies = ids_around l.copies l.block l.up in
    let rest : ids_of (above l) ++ l.element.id ∷ ids_of l.low ≡ ids_of l.up ++ l.block.id ∷ (ids_of l.copies ++ l.element.id ∷ ids_of l.low) =
    ap (λ (ns : List ℕ). ns ++ l.element.id ∷ ids_of l.low) up ∙ append_assoc (ids_of l.up) (l.block.id ∷ ids_of l.copies) (l.element.id ∷ ids_of l.low) in
    let here = once_there l.block.id (ids_of l.up) (ids_of l.copies ++ l.element.id ∷ ids_of l.low) (ap opens_once (sym (split ∙ rest)) ∙ once) in
    record {
      once = once;
      ids = split;
      apart = alone.before;
      result = ap (λ (ns : List ℕ). stacked_below new l.block.id (without l.element.id ns)) split
          ∙ ap (stacked_below new l.block.id) (without_one l.element.id (ids_of (above l)) (ids_of l.low) alone.before alone.behind
          ∙ ap (λ (ns : List ℕ). ns ++ ids_of l.low) up ∙ append_assoc (ids_of l.up) (l.block.id ∷ ids_of l.copies) (ids_of l.low))
          ∙ stacked_one new l.block.id (ids_of l.up) (ids_of l.copies ++ ids_of l.low) here.before;
    }

-- the stack afterwards, up to the furthest block
abbrev below_copy : Ladder → List Open
below_copy l = (l.low ++ l.copies) ++ l.block ∷ []

ids_below : (l : Ladder) → ids_of (below_copy l) ≡ l.block.id ∷ (ids_of l.copies ++ ids_of l.low)
ids_below l = ids_joined (l.low ++ l.copies) (l.block ∷ []) ∙ ap (λ (ns : List ℕ). l.block.id ∷ ns) (ids_joined l.low l.copies)

below_is : (l : Ladder) → l.low ++ above l ≡ below_copy l ++ l.up
below_is l = sym (append_assoc l.low l.copies (l.block ∷ l.up)) ∙ sym (append_assoc (l.low ++ l.copies) (l.block ∷ []) l.up)

long_below : (l : Ladder) → length (below_copy l) ≡ length l.low + length l.copies + 1
long_below l =
    let one = length-append (l.low ++ l.copies) (l.block ∷ []) in
    let two = length-append l.low l.copies in
    omega (arith, one, two)

pub carried_built : (s : TreeState) (t : GrowingTree) (l : Ladder) (copy : Open) → Builds s t → s.stack ≡ l.low ++ l.element ∷ above l → IsCarried t l copy.id → EntryStands t.nodes (Entry.Element copy) →
    Builds (record s { stack = below_copy l ++ copy ∷ l.up }) (with_stack t (stacked_below copy.id l.block.id (without l.element.id t.stack)))
carried_built s t l copy b e carried stands =
    let all = others_stand t.nodes l.low l.element (above l) (subst (λ (os : List Open). AllStand t.nodes (reverse os)) e b.stack.nodes) in
    let left = left_numbered s t l.low l.element (above l) b e in
    built_on s t (below_copy l ++ copy ∷ l.up) (stacked_below copy.id l.block.id (without l.element.id t.stack)) b
    (record {
      ids = carried.result ∙ ap (λ (ns : List ℕ). ids_of l.up ++ copy.id ∷ ns) (sym (ids_below l)) ∙ sym (ids_around (below_copy l) copy l.up);
      nodes = more_stand t.nodes (below_copy l) copy l.up (subst (λ (os : List Open). AllStand t.nodes (reverse os)) (below_is l) all) stands.0;
    })
    (subst (AreNumbered s.numbers t.nodes) (inserted_at (below_copy l) copy l.up)
    (inserted_numbered s.numbers t.nodes (below_copy l ++ l.up) (length (below_copy l)) copy (formatting_numbered s.numbers copy (node_at t.nodes copy.id).kind stands.1)
    (subst (AreNumbered s.numbers t.nodes) (below_is l) left)))

pub carried_there : (os : List Open) (l : Ladder) (copy : Open) (place : ℕ) → os ≡ l.low ++ l.element ∷ above l → length l.low ≡ place →
    insert (remove os place) (place + length l.copies + 1) copy ≡ below_copy l ++ copy ∷ l.up
carried_there os l copy place e long =
    let at = long_below l in
    ap (λ (k : ℕ). insert (remove os k) (place + length l.copies + 1) copy) (sym long)
    ∙ ap (λ (ps : List Open). insert ps (place + length l.copies + 1) copy) (ap (λ (ps : List Open). remove ps (length l.low)) e ∙ removed_at l.low l.element (above l) ∙ below_is l)
    ∙ ap (λ (k : ℕ). insert (below_copy l ++ l.up) k copy) (number place (length l.low) (length l.copies) (length (below_copy l)) long at) ∙ inserted_at (below_copy l) copy l.up
  where
    number : (place low copies below : ℕ) → low ≡ place → below ≡ low + copies + 1 → place + copies + 1 ≡ below
    number place low copies below e f = omega (arith, e, f)

-- ---- elements that end no scope

never_both : (a b : Bool) → (not a || b) ≡ true → b ≡ false → a ≡ false
never_both true b h e = absurd (true≢false (sym h ∙ e))
never_both false b h e = refl

no_scope : (names : List (List ℕ)) → ((ns : ElementNamespace) → passes_all (λ n. not (is_one_in names ns n) || is_one_in scope ns n) ≡ true) → (o : Open) → ends_scope o ≡ false → is_one names o ≡ false
no_scope names all o h = never_both (is_one names o) (ends_scope o) (for_all (λ n. not (is_one_in names o.ns n) || is_one_in scope o.ns n) (all o.ns) o.name) h

pub scope_template : (o : Open) → ends_scope o ≡ false → is_one (codes "template" ∷ []) o ≡ false
unfolding html_rows rare_rows
scope_template = no_scope (codes "template" ∷ []) by
  where
    by : (ns : ElementNamespace) → passes_all (λ n. not (is_one_in (codes "template" ∷ []) ns n) || is_one_in scope ns n) ≡ true
    by ElementNamespace.Html = refl
    by ElementNamespace.Svg = refl
    by ElementNamespace.MathMl = refl

pub scope_table : (o : Open) → ends_scope o ≡ false → is_one (codes "table" ∷ []) o ≡ false
unfolding html_rows rare_rows
scope_table = no_scope (codes "table" ∷ []) by
  where
    by : (ns : ElementNamespace) → passes_all (λ n. not (is_one_in (codes "table" ∷ []) ns n) || is_one_in scope ns n) ≡ true
    by ElementNamespace.Html = refl
    by ElementNamespace.Svg = refl
    by ElementNamespace.MathMl = refl

-- ---- the tree afterwards

adopted_is : (mark : Option ℕ) (t : GrowingTree) (x : Open) (y n : ℕ) → EntryStands t.nodes (Entry.Element x) → n ≡ length t.nodes → with_children_adopted mark x.id y t
    ≡ record t { nodes = with_copy_inside x.id y t.nodes; listed = list_at mark x.id n t.listed; stack = stacked_below n y (without x.id t.stack) }
adopted_is mark t x y n entry e =
    let new : ℕ = length t.nodes in
    ap (λ (u : GrowingTree). record u { stack = stacked_below new y (without x.id u.stack) }) (bookmark_is mark x.id new (wrapped y new (copied x.id t)))
    ∙ ap (λ (u : GrowingTree). record u { nodes = wrapped_by y new u.nodes; listed = list_at mark x.id new u.listed; stack = stacked_below new y (without x.id u.stack) }) (copied_is x t entry)
    ∙ ap (λ (k : ℕ). record t { nodes = with_copy_inside x.id y t.nodes; listed = list_at mark x.id k t.listed; stack = stacked_below k y (without x.id t.stack) }) (sym e)

entry_kept : (old new : List Node) → Keeps old new → (o : Open) → EntryStands old (Entry.Element o) → EntryStands new (Entry.Element o)
entry_kept old new keeps o is = (stands_kept old new keeps o is.0, is.1)

pub children_adopted : (s : TreeState) (h : Forest) (place gone left : ℕ) (b : Bookmark) (t : GrowingTree) (l : Ladder) (c : Climb) (copy : Open) → IsClimbing place b s t l c → s.stack ≡ l.low ++ l.element ∷ above l →
    IsForest s.forest → IsInOrder s.forest s.stack → IsElement s.forest l.element.id → IsElement s.forest l.block.id → MakesNext copy.id s.forest h (copied_inside l.element.id l.block.id s.forest) → copy ≡ copy_open l.element copy.id →
    entry_place l.element.id c.tree.listed ≡ Some gone → IsIndexLeft gone b.index left →
    LeadsTo t (with_children_adopted c.mark l.element.id l.block.id c.tree) (record s {
      forest = h;
      stack = insert (remove s.stack place) (place + length l.copies + 1) copy;
      formatting = insert (remove s.formatting gone) left (Entry.Element copy);
    })
children_adopted s h place gone left b t l c copy w stack good order is_element is_block next shape found is_left =
    let built = w.leads.built in
    let all = subst (λ (os : List Open). AllStand c.tree.nodes (reverse os)) stack built.stack.nodes in
    let rest = others_stand c.tree.nodes l.low l.element (above l) all in
    let block_stands = one_stands c.tree.nodes (l.low ++ l.copies) l.block l.up (subst (λ (os : List Open). AllStand c.tree.nodes (reverse os)) (sym (append_assoc l.low l.copies (l.block ∷ l.up))) rest) in
    let plain = holds_own s c.tree l.block built block_stands (scope_template l.block (inside_block l w.inside)) in
    let it = inside_built s c.tree h l.element copy l.block.id built good is_element is_block plain w.stands next shape in
    let nodes : List Node = with_copy_inside l.element.id l.block.id c.tree.nodes in
    let carried = carried_ids c.tree l copy.id (stack_once s c.tree order built) (stacked_around s c.tree l.low l.element (above l) built stack) in
    let id = it.id in
    let absent : lists copy.id c.tree.listed ≡ false =
    ap (lists copy.id) built.listed.list ∙ fresh_unlisted c.tree.nodes (reverse s.formatting) copy.id (all_turned (EntryStands c.tree.nodes) s.formatting built.listed.elements) (omega (arith, id)) in
    let marked = bookmarked_list nodes c.tree.listed s.formatting l.element.id gone left (ids_of (above l)) c.mark b copy it.built.listed w.leads.well found w.mark carried.apart is_left it.stands absent in
    let entries : List Entry = insert (remove s.formatting gone) left (Entry.Element copy) in
    let listed : List StandardEntry = list_at c.mark l.element.id copy.id c.tree.listed in
    let grown : TreeState = record s { forest = h } in
    let tree : GrowingTree = record c.tree { nodes = nodes; listed = listed } in
    let two : Builds (record grown { formatting = entries }) tree = built_listed grown (record c.tree { nodes = nodes }) entries listed it.built marked.list in
    let three = carried_built (record grown { formatting = entries }) tree l copy two stack (record { once = carried.once; ids = carried.ids; apart = carried.apart; result = carried.result }) it.stands in
    let after : GrowingTree = record c.tree { nodes = nodes; listed = listed; stack = stacked_below copy.id l.block.id (without l.element.id c.tree.stack) } in
    let now : LeadsTo t after (record s { forest = h; stack = below_copy l ++ copy ∷ l.up; formatting = entries }) = record {
      built = three;
      well = marked.once;
      alike = record { fosters = w.leads.alike.fosters; found = w.leads.alike.found; stands = λ o is. entry_kept c.tree.nodes nodes it.keeps o (w.leads.alike.stands o is) };
    } in
    subst (λ (os : List Open). LeadsTo t (with_children_adopted c.mark l.element.id l.block.id c.tree) (record s { forest = h; stack = os; formatting = entries })) (sym (carried_there s.stack l copy place stack w.long))
    (subst (λ (u : GrowingTree). LeadsTo t u (record s { forest = h; stack = below_copy l ++ copy ∷ l.up; formatting = entries })) (sym (adopted_is c.mark c.tree l.element l.block.id copy.id w.stands id)) now)
  where
    inside_block : (l : Ladder) → list_any ends_scope (l.mid ++ above l) ≡ false → ends_scope l.block ≡ false
    inside_block l h =
        let first = neither (list_any ends_scope l.mid) (list_any ends_scope (above l)) (sym (any_in ends_scope l.mid (above l)) ∙ h) in
        let second = neither (list_any ends_scope l.copies) (list_any ends_scope (l.block ∷ l.up)) (sym (any_in ends_scope l.copies (l.block ∷ l.up)) ∙ first.1) in
        (neither (ends_scope l.block) (list_any ends_scope l.up) second.1).0

-- ---- by what the calls do

-- the entry of an element is taken out
pub entry_taken : (view old new : TreeState) (n found : ℕ) (b left : Bookmark) (r : Option ℕ) → view ≡ old → r ≡ last_place (is_of n) view.formatting → r ≡ Some found →
    new ≡ record old { formatting = remove old.formatting found } → (found < b.index → left.index + 1 ≡ b.index) → (b.index ≤ found → left ≡ b) → (gone : ℕ) → FindsAt n gone old.formatting →
    IsIndexLeft gone b.index left.index × (new ≡ record old { formatting = remove old.formatting gone })
entry_taken view old new n found b left r same at some e before behind gone finds =
    let both : Some found ≡ Some gone =
    sym some ∙ at ∙ ap (λ (s : TreeState). last_place (is_of n) s.formatting) same ∙ sym finds in
    let one : found ≡ gone = cc in
    (subst (λ (k : ℕ). IsIndexLeft k b.index left.index) one (before, λ le. ap (λ (m : Bookmark). m.index) (behind le)), e ∙ ap (λ (k : ℕ). record old { formatting = remove old.formatting k }) one)

pub entry_lacking : {A : Type 0} (view old : TreeState) (n i : ℕ) (r : Option ℕ) → view ≡ old → r ≡ last_place (is_of n) view.formatting → r ≡ None →
    FindsAt n i old.formatting → A
entry_lacking view old n i r same at none finds =
    absurd (none-some i (sym none ∙ at ∙ ap (λ (s : TreeState). last_place (is_of n) s.formatting) same ∙ sym finds))

pub some_left : (gone i : ℕ) → (left : ℕ) × IsIndexLeft gone i left
some_left gone zero = (zero, ((λ less. absurd (omega (arith, less))), λ le. refl))
some_left gone (suc i) = elim (cases_Bool (nat_lt gone (suc i))) [
  | inl t ↦ (i, ((λ less. omega arith), λ le. absurd (clash gone i t le)))
  | inr f ↦ (suc i, ((λ less. absurd (apart gone i f less)), λ le. refl))
]
  where
    clash : (gone i : ℕ) → nat_lt gone (suc i) ≡ true → suc i ≤ gone → ⊥
    clash gone i t le = (let less = ltb-true gone (suc i) t in omega (arith, less, le))

    apart : (gone i : ℕ) → nat_lt gone (suc i) ≡ false → gone < suc i → ⊥
    apart gone i f less = (let le = ltb-false gone (suc i) f in omega (arith, less, le))

-- the entry of the formatting element is found
pub element_found : (place : ℕ) (b : Bookmark) (s : TreeState) (t : GrowingTree) (l : Ladder) (c : Climb) (w : IsClimbing place b s t l c) → FindsAt l.element.id w.index s.formatting
element_found place b s t l c w = sym (last_place_is c.tree.nodes l.element.id c.tree.listed s.formatting w.leads.built.listed ∙ w.listed)

with_none : (s : TreeState) (l : Ladder) (stack : List Open) → stack ≡ (l.low ++ l.element ∷ l.mid) ++ above l → l.mid ≡ [] → stack ≡ l.low ++ l.element ∷ above l
with_none s l stack e none = e ∙ ap (λ (os : List Open). (l.low ++ l.element ∷ os) ++ above l) none ∙ append_assoc l.low (l.element ∷ []) (above l)

pub adopts_children : (view old new : TreeState) (h : Forest) (place furthest : ℕ) (b : Bookmark) (element block copy : Open) (stack : List Open) (r : Result Unit PageFault) → view ≡ old → IsForest view.forest → AreOpen view.forest view.stack →
    IsInOrder view.forest view.stack → Some element ≡ slice_get view.stack place → Some block ≡ slice_get view.stack furthest → MakesNext copy.id view.forest h (copied_inside element.id block.id view.forest) → copy ≡ copy_open element copy.id →
    stack ≡ insert (remove view.stack place) furthest copy →
    ((gone left : ℕ) → FindsAt element.id gone view.formatting → IsIndexLeft gone b.index left →
    OnOk r (new ≡ record view { forest = h; stack = stack; formatting = insert (remove view.formatting gone) left (Entry.Element copy) })) → OnOk r (AdoptsChildren place furthest b old new)
adopts_children view old new h place furthest b element block copy stack (Err fault) same good are order first second next shape carried put = tt
adopts_children view old new h place furthest b element block copy stack (Ok done) same good are order first second next shape carried put = λ t l c given none e.
    let w : IsClimbing place b view t l c = subst (λ (s : TreeState). IsClimbing place b s t l c) (sym same) given in
    let split : view.stack ≡ l.low ++ l.element ∷ above l = with_none view l view.stack w.stack none in
    let one : element ≡ l.element = same_some element l.element (first ∙ ap (λ (k : ℕ). slice_get view.stack k) (sym w.long) ∙ ap (λ (os : List Open). slice_get os (length l.low)) split ∙ get_at l.low l.element (above l)) in
    let two : block ≡ l.block = same_some block l.block (second ∙ block_at view.stack l split (furthest) (count furthest place (length l.low) (length l.copies) e w.long)) in
    let is_element = subst (λ (o : Open). IsElement view.forest o.id) one (element_there view.forest view.stack place element are (sym first)) in
    let is_block = subst (λ (o : Open). IsElement view.forest o.id) two (element_there view.forest view.stack furthest block are (sym second)) in
    let left = some_left w.index b.index in
    let makes = subst (λ (o : Open). MakesNext copy.id view.forest h (copied_inside l.element.id o.id view.forest)) two (subst (λ (o : Open). MakesNext copy.id view.forest h (copied_inside o.id block.id view.forest)) one next) in
    let made = children_adopted view h place w.index left.0 b t l c copy w split good order is_element is_block makes (shape ∙ ap (λ (o : Open). copy_open o copy.id) one) w.listed left.1 in
    let finds = subst (λ (o : Open). FindsAt o.id w.index view.formatting) (sym one) (element_found place b view t l c w) in
    subst (LeadsTo t (with_children_adopted c.mark l.element.id l.block.id c.tree))
    (sym (put w.index left.0 finds left.1 ∙ ap (λ (os : List Open). record view { forest = h; stack = os; formatting = insert (remove view.formatting w.index) left.0 (Entry.Element copy) })
    (carried ∙ ap (λ (k : ℕ). insert (remove view.stack place) k copy) e))) made
  where
    same_some : (x y : Open) → Some x ≡ Some y → x ≡ y
    same_some x y e = cc

    count : (furthest place low copies : ℕ) → furthest ≡ place + copies + 1 → low ≡ place → furthest ≡ low + copies + 1
    count furthest place low copies e f = omega (arith, e, f)

    block_at : (os : List Open) (l : Ladder) → os ≡ l.low ++ l.element ∷ above l → (n : ℕ) → n ≡ length l.low + length l.copies + 1 → slice_get os n ≡ Some l.block
    block_at os l split n e =
        let long = length-append l.low (l.element ∷ l.copies) in
        let at : n ≡ length (l.low ++ l.element ∷ l.copies) = omega (arith, e, long) in
        ap (λ (k : ℕ). slice_get os k) at ∙ ap (λ (ps : List Open). slice_get ps (length (l.low ++ l.element ∷ l.copies))) (split ∙ sym (append_assoc l.low (l.element ∷ l.copies) (l.block ∷ l.up)))
        ∙ get_at (l.low ++ l.element ∷ l.copies) l.block l.up

-- where one of the two isn't open, nothing is asked
pub none_at : (view old : TreeState) (place : ℕ) (b : Bookmark) (furthest : ℕ) → view ≡ old → None ≡ slice_get view.stack place → AdoptsChildren place furthest b old old
none_at view old place b furthest same none t l c w no_mid e =
    absurd (none-some l.element (none ∙ ap (λ (s : TreeState). slice_get s.stack place) same ∙ ap (λ (k : ℕ). slice_get old.stack k) (sym w.long)
    ∙ ap (λ (os : List Open). slice_get os (length l.low)) (w.stack ∙ append_assoc l.low (l.element ∷ l.mid) (above l)) ∙ get_at l.low l.element (l.mid ++ above l)))

pub no_block_at : (view old : TreeState) (place : ℕ) (b : Bookmark) (furthest : ℕ) → view ≡ old → None ≡ slice_get view.stack furthest → AdoptsChildren place furthest b old old
no_block_at view old place b furthest same none t l c w no_mid e =
    let long = length-append l.low (l.element ∷ l.copies) in
    let low = w.long in
    let at : furthest ≡ length (l.low ++ l.element ∷ l.copies) = omega (arith, e, long, low) in
    absurd (none-some l.block (none ∙ ap (λ (s : TreeState). slice_get s.stack furthest) same ∙ ap (λ (k : ℕ). slice_get old.stack k) at
    ∙ ap (λ (ps : List Open). slice_get ps (length (l.low ++ l.element ∷ l.copies))) (with_none old l old.stack w.stack no_mid ∙ sym (append_assoc l.low (l.element ∷ l.copies) (l.block ∷ l.up)))
    ∙ get_at (l.low ++ l.element ∷ l.copies) l.block l.up))

-- ---- one round

passed_joined : (t : GrowingTree) (xs ys : List ℕ) → ArePassed t xs → ArePassed t ys → ArePassed t (xs ++ ys)
passed_joined t [] ys one two = two
passed_joined t (x ∷ xs) ys one two = (one.0, one.1, passed_joined t xs ys one.2 two)

table_known : are_known (codes "table" ∷ []) ≡ true
unfolding html_rows rare_rows
table_known = refl

passed_inside : (t : GrowingTree) (os : List Open) → AllStand t.nodes (reverse os) → list_any ends_scope os ≡ false → ArePassed t (ids_of os)
passed_inside t [] all none = tt
passed_inside t (o ∷ os) all none =
    let parts = stand_apart t.nodes (reverse os) (o ∷ []) (subst (AllStand t.nodes) (reverse-append (o ∷ []) os) all) in
    let here = neither (ends_scope o) (list_any ends_scope os) none in
    subst (ArePassed t) (sym (ids_joined (o ∷ []) os))
    (passed_joined t (ids_of os) (o.id ∷ []) (passed_inside t os parts.0 here.1) (
      sym (one_agrees (codes "template" ∷ []) template_known t o parts.1.0) ∙ scope_template o here.0,
      sym (one_agrees (codes "table" ∷ []) table_known t o parts.1.0) ∙ scope_table o here.0,
      tt,
    ))

passed_element : (t : GrowingTree) (o : Open) → EntryStands t.nodes (Entry.Element o) → ArePassed t (o.id ∷ [])
passed_element t o stands = (
  sym (one_agrees (codes "template" ∷ []) template_known t o stands.0) ∙ no_template o stands.1,
  sym (one_agrees (codes "table" ∷ []) table_known t o stands.0) ∙ no_table o stands.1,
  tt,
)

passed_from : (t : GrowingTree) (o : Open) (os : List Open) → EntryStands t.nodes (Entry.Element o) → AllStand t.nodes (reverse os) → list_any ends_scope os ≡ false → ArePassed t (ids_of (o ∷ os))
passed_from t o os stands all none =
    subst (ArePassed t) (sym (ids_joined (o ∷ []) os)) (passed_joined t (ids_of os) (o.id ∷ []) (passed_inside t os all none) (passed_element t o stands))

-- the last node is moved
moved_last : (s before : TreeState) (place : ℕ) (foster : Bool) (b : Bookmark) (t : GrowingTree) (l : Ladder) (c : Climb) → IsInOrder before.forest before.stack → IsClimbing place b s t l c → l.mid ≡ [] →
    t.fostering ≡ foster → PutsBelow place foster s before → before ≡ record s { forest = before.forest } →
    IsClimbing place b before t l (climb_at c.last c.mark (put c.last (place_in c.tree (top (behind_in l.element.id c.tree.stack))) c.tree))
moved_last s before place foster b t l c order w none fosters puts rest =
    let built = w.leads.built in
    let split : s.stack ≡ l.low ++ l.element ∷ above l = with_none s l s.stack w.stack none in
    let up = above_is l.copies l.block l.up in
    let last : Open = last_in l.copies l.block in
    let there : slice_get s.stack (place + 1) ≡ Some last =
    ap (λ (k : ℕ). slice_get s.stack (k + 1)) (sym w.long) ∙ ap (λ (os : List Open). slice_get os (length l.low + 1)) (split ∙ ap (λ (os : List Open). l.low ++ l.element ∷ os) up.1)
    ∙ get_next l.low l.element last up.0 in
    let dropped : drop place s.stack ≡ l.element ∷ above l =
    ap (λ (k : ℕ). drop k s.stack) (sym w.long) ∙ ap (λ (os : List Open). drop (length l.low) os) split ∙ dropped_front l.low (l.element ∷ above l) in
    let taken : take place s.stack ≡ l.low =
    ap (λ (k : ℕ). take k s.stack) (sym w.long) ∙ ap (λ (os : List Open). take (length l.low) os) split ∙ taken_front l.low (l.element ∷ above l) in
    let all = subst (λ (os : List Open). AllStand c.tree.nodes (reverse os)) split built.stack.nodes in
    let high = (stand_apart c.tree.nodes (reverse (above l)) (l.element ∷ reverse l.low) (subst (AllStand c.tree.nodes) (turned_around l.low l.element (above l)) all)).0 in
    let inside : list_any ends_scope (above l) ≡ false = (neither (list_any ends_scope l.mid) (list_any ends_scope (above l)) (sym (any_in ends_scope l.mid (above l)) ∙ w.inside)).1 in
    let passed : ArePassed c.tree (ids_of (drop place s.stack)) = subst (λ (os : List Open). ArePassed c.tree (ids_of os)) (sym dropped) (passed_from c.tree l.element (above l) w.stands high inside) in
    let ids = stacked_around s c.tree l.low l.element (above l) built split in
    let once : opens_once c.tree.stack ≡ true =
    ap opens_once built.stack.ids ∙ order_once before.forest s.stack (subst (IsInOrder before.forest) (ap (λ (q : TreeState). q.stack) rest) order) in
    let alone = once_there l.element.id (ids_of (above l)) (ids_of l.low) (ap opens_once (sym ids) ∙ once) in
    let low : behind_in l.element.id c.tree.stack ≡ ids_of l.low = ap (behind_in l.element.id) ids ∙ behind_one l.element.id (ids_of (above l)) (ids_of l.low) alone.before in
    let spot : Place = place_in c.tree (top (behind_in l.element.id c.tree.stack)) in
    let moved : Builds before (put c.last spot c.tree) =
    subst (λ (k : ℕ). Builds before (put k spot c.tree)) w.last
    (subst (λ (ns : List ℕ). Builds before (put last.id (place_in c.tree (top ns)) c.tree)) (ap ids_of taken ∙ sym low)
    (puts last there c.tree passed (w.leads.alike.fosters ∙ fosters) built)) in
    let kept : Keeps c.tree.nodes (put_at c.last spot c.tree.nodes) = keeps_put c.last spot c.tree.nodes in
    record {
      leads = record {
        built = moved;
        well = w.leads.well;
        alike = record { fosters = w.leads.alike.fosters; found = w.leads.alike.found; stands = λ o is. entry_kept c.tree.nodes (put_at c.last spot c.tree.nodes) kept o (w.leads.alike.stands o is) };
      };
      stack = ap (λ (q : TreeState). q.stack) rest ∙ w.stack;
      long = w.long;
      last = w.last;
      stands = entry_kept c.tree.nodes (put_at c.last spot c.tree.nodes) kept l.element w.stands;
      index = w.index;
      listed = w.listed;
      mark = w.mark;
      inside = w.inside;
    }

-- how far the furthest block went down
abbrev pub GoesDown : ℕ → ℕ → ℕ → List Open → List Open → Type 0
GoesDown place furthest later old new =
    (mids copies : ℕ) → copies ≤ mids → length old + copies ≡ length new + mids → furthest ≡ place + mids + 1 → later ≡ place + copies + 1

pub adopts_once : (old mid before new : TreeState) (place furthest later : ℕ) (b after : Bookmark) (foster : Bool) (r : Result Unit PageFault) → IsInOrder before.forest before.stack → Climbs place furthest b after old mid →
    PutsBelow place foster mid before → before ≡ record mid { forest = before.forest } → GoesDown place furthest later old.stack before.stack → OnOk r (AdoptsChildren place later after before new) →
    OnOk r (AdoptsOnce place furthest b foster old new)
adopts_once old mid before new place furthest later b after foster (Err fault) order climbs puts rest down adopts = tt
adopts_once old mid before new place furthest later b after foster (Ok done) order climbs puts rest down adopts = λ t l starts fosters.
    let p = climbs t l starts in
    let w = p.climbing in
    let less : length p.copies ≤ length l.mid = short (length p.copies) (length l.copies) (length l.mid) p.less (ap (λ (os : List Open). length os) starts.1) in
    let now = moved_last mid before place foster after t (record l { mid = []; copies = p.copies }) (climbed l t) order w refl fosters puts rest in
    let first : length old.stack ≡ length l.low + length l.mid + length l.copies + length l.up + 2 = ap (λ (os : List Open). length os) starts.0.stack ∙ long l.low l.element l.mid l.copies l.block l.up in
    let second : length before.stack ≡ length l.low + 0 + length p.copies + length l.up + 2 = ap (λ (os : List Open). length os) now.stack ∙ long l.low l.element [] p.copies l.block l.up in
    let none : length l.copies ≡ 0 = ap (λ (os : List Open). length os) starts.1 in
    adopts t (record l { mid = []; copies = p.copies }) _ now refl (down (length l.mid) (length p.copies) less (omega (arith, first, second, none)) starts.2)
  where
    short : (new old count : ℕ) → new ≤ old + count → old ≡ 0 → new ≤ count
    short new old count le none = omega (arith, le, none)

    long : (low : List Open) (x : Open) (mid copies : List Open) (y : Open) (up : List Open) → length ((low ++ x ∷ mid) ++ (copies ++ y ∷ up)) ≡ length low + length mid + length copies + length up + 2
    long low x mid copies y up =
        let one = length-append (low ++ x ∷ mid) (copies ++ y ∷ up) in
        let two = length-append low (x ∷ mid) in
        let three = length-append copies (y ∷ up) in
        omega (arith, one, two, three)
