-- The furthest block of the adoption agency algorithm, and where the inner loop starts.
use Rattle.std.proofs.Common.{◌≡◌, ℕ, ◌≤◌, ◌+◌, ◌||◌, Bool, true, false, List, [], ◌∷◌, ◌++◌, drop, reverse, refl, sym, ap, ◌∙◌, length, Option, Some, None, subst, suc, zero, arith, true≢false, if◌then◌else◌}
use Rattle.std.specs.Prelude.{nat_eq}
use Rattle.std.specs.List.{list_any}
use Rattle.std.proofs.lemmas.Bool.{eq-eqb, eqb-true}
use Rattle.std.proofs.lemmas.List.{append_assoc, length-append}
use Rattle.standard_trees.specs.Formatting.{before_in, behind_in, is_entry, last_listed, last_special}
use Rattle.standard_trees.specs.GrowingTree.{Entry as StandardEntry, Formatting, GrowingTree, Marker}
use Rattle.standard_trees.specs.GrowingTree.{is_one as is_one_of}
use Rattle.standard_trees.specs.NameLists.{special}
use Rattle.standard_trees.specs.TreeStore.{is_member}
use Rattle.page_trees.specs.Adopting.{FindsAt, IsClimbing, Ladder, Starts, entry_place, ids_of}
use Rattle.page_trees.specs.Elements.{IsInOrder}
use Rattle.page_trees.specs.Listing.{listed_named, lists_well}
use Rattle.page_trees.specs.Popping.{first_from, up_to_last}
use Rattle.page_trees.specs.Reopening.{is_this}
use Rattle.page_trees.specs.Scopes.{last_place}
use Rattle.page_trees.specs.Sets.{ends_scope, is_special_element}
use Rattle.page_trees.specs.Stands.{AllStand, Builds, EntryStands, StandsFor, formatting_names}
use Rattle.page_trees.specs.TreeState.{TreeState}
use Rattle.page_trees.specs.declared.formatting.Entry.{Entry}
use Rattle.page_trees.specs.declared.growing.adopting.Bookmark.{Bookmark}
use Rattle.page_trees.specs.declared.stack.Open.{Open}
use Rattle.page_trees.proofs.AgencyEnds.{any_turned, none_placed, special_known, specials_are, this_is}
use Rattle.page_trees.proofs.EntryPlaces.{last_place_is}
use Rattle.page_trees.proofs.InnerLoop.{climb_at}
use Rattle.page_trees.proofs.ListedEntries.{formatting_known}
use Rattle.page_trees.proofs.SplitLists.{absent_in, before_one, behind_one, lists, neither, once_there}
use Rattle.page_trees.proofs.StackRungs.{dropped_front, ids_around, one_stands, stacked_around, stand_apart, turned_around}
use Rattle.page_trees.proofs.StandingNames.{one_agrees}
use Rattle.page_trees.proofs.TakenOut.{opens_once, stack_once}

-- ---- searches

-- the element that a search finds
pub record IsFoundAt (test : Open → Bool) (n : ℕ) (xs : List Open) : Type 0 where
  pub low : List Open
  pub element : Open
  pub rest : List Open
  pub split : xs ≡ low ++ element ∷ rest
  pub long : length low ≡ n
  pub is : test element ≡ true

or_left : (a b : Bool) → (a || b) ≡ true → b ≡ false → a ≡ true
or_left true b h e = refl
or_left false b h e = absurd (true≢false (sym h ∙ e))

found_at : (test : Open → Bool) (n : ℕ) (xs : List Open) → last_place test xs ≡ n + 1 → IsFoundAt test n xs
found_at test n [] e = absurd (omega (arith, e))
found_at test n (x ∷ xs) e = by (list_any test (x ∷ xs)) refl e (λ m f. found_at test m xs f)
  where
    next : (n : ℕ) → suc n ≡ n + 1
    next n = omega arith

    here : (n : ℕ) → list_any test (x ∷ xs) ≡ true → last_place test xs ≡ n → ((m : ℕ) → last_place test xs ≡ m + 1 → IsFoundAt test m xs) → IsFoundAt test n (x ∷ xs)
    here zero any e more = record { low = []; element = x; rest = xs; split = refl; long = refl; is = or_left (test x) (list_any test xs) any (none_placed test xs e) }
    here (suc n) any e more =
        let it = more n (e ∙ next n) in
        record { low = x ∷ it.low; element = it.element; rest = it.rest; split = ap (λ (ys : List Open). x ∷ ys) it.split; long = ap suc it.long; is = it.is }

    by : (b : Bool) → list_any test (x ∷ xs) ≡ b → length (if b then x ∷ up_to_last test xs else []) ≡ n + 1 → ((m : ℕ) → last_place test xs ≡ m + 1 → IsFoundAt test m xs) → IsFoundAt test n (x ∷ xs)
    by true any e more = here n any (omega (arith, e)) more
    by false any e more = absurd (omega (arith, e))

none_last : (test : Open → Bool) (xs : List Open) → list_any test xs ≡ false → last_place test xs ≡ 0
none_last test [] e = refl
none_last test (x ∷ xs) e = ap (λ b. length (if b then x ∷ up_to_last test xs else [])) e

none_after : (test : Open → Bool) (n : ℕ) (xs : List Open) → last_place test xs ≤ n → list_any test (drop n xs) ≡ false
none_after test zero [] le = refl
none_after test (suc n) [] le = refl
none_after test zero (x ∷ xs) le = none_placed test (x ∷ xs) (omega (arith, le))
none_after test (suc n) (x ∷ xs) le = none_after test n xs (by (list_any test (x ∷ xs)) refl le)
  where
    by : (b : Bool) → list_any test (x ∷ xs) ≡ b → length (if b then x ∷ up_to_last test xs else []) ≤ suc n → last_place test xs ≤ n
    by true any le = omega (arith, le)
    by false any le = (let none = none_last test xs (neither (test x) (list_any test xs) any).1 in omega (arith, none))

-- the first that passes
pub record IsFirstAt (test : Open → Bool) (n q : ℕ) (xs : List Open) : Type 0 where
  pub mid : List Open
  pub block : Open
  pub up : List Open
  pub split : xs ≡ mid ++ block ∷ up
  pub none : list_any test mid ≡ false
  pub is : test block ≡ true
  pub long : q ≡ n + length mid

first_at : (test : Open → Bool) (n q : ℕ) (xs : List Open) → Some q ≡ first_from test n xs → IsFirstAt test n q xs
first_at test n q [] e = cc
first_at test n q (x ∷ xs) e = by (test x) refl e (first_at test (n + 1) q xs)
  where
    by : (b : Bool) → test x ≡ b → Some q ≡ (if b then Some n else first_from test (n + 1) xs) → (Some q ≡ first_from test (n + 1) xs → IsFirstAt test (n + 1) q xs) → IsFirstAt test n q (x ∷ xs)
    by true is e more =
        let same : q ≡ n = cc in
        record { mid = []; block = x; up = xs; split = refl; none = refl; is = is; long = omega (arith, same) }
    by false is e more =
        let rest = more e in
        let long = rest.long in
        record { mid = x ∷ rest.mid; block = rest.block; up = rest.up; split = ap (λ (ys : List Open). x ∷ ys) rest.split; none = ap (λ b. b || list_any test rest.mid) is ∙ rest.none; is = rest.is; long = omega (arith, long) }

-- ---- the list

self_listed : (n : ℕ) (es : List StandardEntry) → lists n (Formatting n ∷ es) ≡ true
self_listed n es = ap (λ b. b || lists n es) (eq-eqb n n refl)

named_listed : (t : GrowingTree) (names : List (List ℕ)) (n : ℕ) (es : List StandardEntry) → last_listed t names es ≡ Some n → lists n es ≡ true
named_listed t names n [] e = cc
named_listed t names n (Marker ∷ es) e = cc
named_listed t names n (Formatting m ∷ es) e = by (is_one_of t names m) e (named_listed t names n es)
  where
    later : (b : Bool) → lists n es ≡ true → (b || lists n es) ≡ true
    later true h = refl
    later false h = h

    by : (b : Bool) → (let found : Option ℕ = elim b [ true ↦ Some m | false ↦ last_listed t names es ] in found) ≡ Some n → (last_listed t names es ≡ Some n → lists n es ≡ true) → lists n (Formatting m ∷ es) ≡ true
    by true e more = (let same : m ≡ n = cc in ap (λ k. lists n (Formatting k ∷ es)) same ∙ self_listed n es)
    by false e more = later (nat_eq m n) (more e)

some_place : (n : ℕ) (es : List StandardEntry) → lists n es ≡ true → (i : ℕ) × (entry_place n es ≡ Some i)
some_place n [] h = absurd (true≢false (sym h))
some_place n (e ∷ es) h = by (is_entry n e) h (some_place n es)
  where
    by : (b : Bool) → (b || lists n es) ≡ true → (lists n es ≡ true → (i : ℕ) × (entry_place n es ≡ Some i)) → (i : ℕ) × ((if b then Some (length es) else entry_place n es) ≡ Some i)
    by true h more = (length es, refl)
    by false h more = more h

-- ---- the block

last_block : (t : GrowingTree) (seen : Option ℕ) (ns : List ℕ) (n : ℕ) (ms : List ℕ) → is_one_of t special n ≡ true → list_any (is_one_of t special) ms ≡ false → last_special t seen (ns ++ n ∷ ms) ≡ Some n
last_block t seen (m ∷ ns) n ms is none = last_block t (elim (is_one_of t special m) [ true ↦ Some m | false ↦ seen ]) ns n ms is none
last_block t seen [] n ms is none = ap (λ b. last_special t (elim b [ true ↦ Some n | false ↦ seen ]) ms) is ∙ kept (Some n) ms none
  where
    kept : (seen : Option ℕ) (ms : List ℕ) → list_any (is_one_of t special) ms ≡ false → last_special t seen ms ≡ seen
    kept seen [] none = refl
    kept seen (m ∷ ms) none =
        let parts = neither (is_one_of t special m) (list_any (is_one_of t special) ms) none in
        ap (λ b. last_special t (elim b [ true ↦ Some m | false ↦ seen ]) ms) parts.0 ∙ kept seen ms parts.1

pub record IsBlockFound (s : TreeState) (t : GrowingTree) (x : Open) (p q : ℕ) (b : Bookmark) : Type 0 where
  pub ladder : Ladder
  pub starts : Starts p q b s t ladder
  pub special : last_special t None (before_in x.id t.stack) ≡ Some ladder.block.id
  pub between : before_in x.id (behind_in ladder.block.id t.stack) ≡ ids_of ladder.mid
  pub id : x.id ≡ ladder.element.id

pub block_found : (s : TreeState) (t : GrowingTree) (x : Open) (p q : ℕ) (b : Bookmark) → Builds s t → lists_well t ≡ true → EntryStands t.nodes (Entry.Element x) → IsInOrder s.forest s.stack →
    last_place (is_this x.name x.id) s.stack ≡ p + 1 → last_place ends_scope s.stack ≤ p + 1 → Some q ≡ first_from is_special_element (p + 1) (drop (p + 1) s.stack) →
    (name : List ℕ) → listed_named name t ≡ Some x.id → ((i : ℕ) → FindsAt x.id i s.formatting → b.index ≡ i) → b.renewed ≡ false → IsBlockFound s t x p q b
block_found s t x p q b built well stands order place within block name named marks renewed =
    let at = found_at (is_this x.name x.id) p s.stack place in
    let all = subst (λ (os : List Open). AllStand t.nodes (reverse os)) at.split built.stack.nodes in
    let here : StandsFor t.nodes at.element = one_stands t.nodes at.low at.element at.rest all in
    let id : x.id ≡ at.element.id = eqb-true x.id at.element.id (sym (this_is t x stands at.element here) ∙ at.is) in
    let long = at.long in
    let more = length-append at.low (at.element ∷ []) in
    let rest : drop (p + 1) s.stack ≡ at.rest =
    ap (λ (k : ℕ). drop k s.stack) (count p (length at.low) (length (at.low ++ at.element ∷ [])) long more)
    ∙ ap (λ (os : List Open). drop (length (at.low ++ at.element ∷ [])) os) (at.split ∙ sym (append_assoc at.low (at.element ∷ []) at.rest)) ∙ dropped_front (at.low ++ at.element ∷ []) at.rest in
    let first = first_at is_special_element (p + 1) q at.rest (block ∙ ap (first_from is_special_element (p + 1)) rest) in
    let l : Ladder = record { low = at.low; element = at.element; mid = first.mid; copies = []; block = first.block; up = first.up } in
    let split : s.stack ≡ l.low ++ l.element ∷ (l.mid ++ l.block ∷ l.up) = at.split ∙ ap (λ (os : List Open). at.low ++ at.element ∷ os) first.split in
    let grouped : s.stack ≡ (l.low ++ l.element ∷ l.mid) ++ l.block ∷ l.up = split ∙ sym (append_assoc l.low (l.element ∷ l.mid) (l.block ∷ l.up)) in
    let element : EntryStands t.nodes (Entry.Element at.element) =
    (here, one_agrees formatting_names formatting_known t at.element here ∙ ap (is_one_of t formatting_names) (sym id) ∙ sym (one_agrees formatting_names formatting_known t x stands.0) ∙ stands.1) in
    let spot = some_place x.id t.listed (named_listed t (name ∷ []) x.id t.listed named) in
    let index : b.index ≡ spot.0 = marks spot.0 (sym (last_place_is t.nodes x.id t.listed s.formatting built.listed ∙ spot.1)) in
    let listed : entry_place at.element.id t.listed ≡ Some spot.0 = ap (λ (k : ℕ). entry_place k t.listed) (sym id) ∙ spot.1 in
    let climbing : IsClimbing p b s t l (climb_at l.block.id None t) = record {
      leads = record { built = built; well = well; alike = record { fosters = refl; found = refl; stands = λ o is. is } };
      stack = grouped;
      long = at.long;
      last = refl;
      stands = element;
      index = spot.0;
      listed = listed;
      mark = (renewed, listed ∙ ap (λ (k : ℕ). Some k) (sym index));
      inside = ap (list_any ends_scope) (sym (rest ∙ first.split)) ∙ none_after ends_scope (p + 1) s.stack within;
    } in
    let once = stack_once s t order built in
    let ids : t.stack ≡ ids_of (l.mid ++ l.block ∷ l.up) ++ l.element.id ∷ ids_of l.low = stacked_around s t l.low l.element (l.mid ++ l.block ∷ l.up) built split in
    let up : ids_of (l.mid ++ l.block ∷ l.up) ≡ ids_of l.up ++ l.block.id ∷ ids_of l.mid = ids_around l.mid l.block l.up in
    let whole : t.stack ≡ ids_of l.up ++ l.block.id ∷ (ids_of l.mid ++ l.element.id ∷ ids_of l.low) =
    ids ∙ ap (λ (ns : List ℕ). ns ++ l.element.id ∷ ids_of l.low) up ∙ append_assoc (ids_of l.up) (l.block.id ∷ ids_of l.mid) (l.element.id ∷ ids_of l.low) in
    let alone = once_there l.element.id (ids_of (l.mid ++ l.block ∷ l.up)) (ids_of l.low) (ap opens_once (sym ids) ∙ once) in
    let single = once_there l.block.id (ids_of l.up) (ids_of l.mid ++ l.element.id ∷ ids_of l.low) (ap opens_once (sym whole) ∙ once) in
    let apart = absent_in l.element.id (ids_of l.up) (l.block.id ∷ ids_of l.mid) (ap (is_member l.element.id) (sym up) ∙ alone.before) in
    let not_mid = (neither (nat_eq l.element.id l.block.id) (is_member l.element.id (ids_of l.mid)) apart.1).1 in
    let outer = subst (λ (os : List Open). AllStand t.nodes (reverse os)) grouped built.stack.nodes in
    let outer_parts = stand_apart t.nodes (reverse l.up) (l.block ∷ reverse (l.low ++ l.element ∷ l.mid)) (subst (AllStand t.nodes) (turned_around (l.low ++ l.element ∷ l.mid) l.block l.up) outer) in
    let mid_stand = (stand_apart t.nodes (reverse l.mid) (l.element ∷ reverse l.low) (subst (AllStand t.nodes) (turned_around l.low l.element l.mid) outer_parts.1.1)).0 in
    let is : is_one_of t special l.block.id ≡ true = sym (one_agrees special special_known t l.block outer_parts.1.0) ∙ first.is in
    let none : list_any (is_one_of t special) (ids_of l.mid) ≡ false = specials_are t (reverse l.mid) mid_stand ∙ any_turned is_special_element l.mid ∙ first.none in
    let far = first.long in
    record {
      ladder = l;
      starts = (climbing, refl, omega (arith, far));
      special = ap (λ (n : ℕ). last_special t None (before_in n t.stack)) id
          ∙ ap (last_special t None) (ap (before_in l.element.id) ids ∙ before_one l.element.id (ids_of (l.mid ++ l.block ∷ l.up)) (ids_of l.low) alone.before ∙ up)
          ∙ last_block t None (ids_of l.up) l.block.id (ids_of l.mid) is none;
      between = ap (λ (n : ℕ). before_in n (behind_in l.block.id t.stack)) id
          ∙ ap (before_in l.element.id) (ap (behind_in l.block.id) whole ∙ behind_one l.block.id (ids_of l.up) (ids_of l.mid ++ l.element.id ∷ ids_of l.low) single.before)
          ∙ before_one l.element.id (ids_of l.mid) (ids_of l.low) not_mid;
      id = id;
    }
  where
    count : (p low more : ℕ) → low ≡ p → more ≡ low + 1 → p + 1 ≡ more
    count p low more e f = omega (arith, e, f)
