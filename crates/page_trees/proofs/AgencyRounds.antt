-- The outer loop of the adoption agency algorithm.
use Rattle.std.proofs.Common.{◌≡◌, ℕ, ◌≤◌, ◌+◌, ◌&&◌, not, nat_eq, Bool, true, false, List, [], ◌∷◌, drop, take, refl, reverse, sym, ap, ◌∙◌, Option, Some, None, subst, suc, arith, inl, inr, true≢false}
use Rattle.std.specs.Prelude.{All, Err, IfOk, MatchOption, Ok, Result}
use Rattle.std.specs.Option.{option_map}
use Rattle.std.proofs.lemmas.List.Elements.{All-head, All-tail}
use Rattle.standard_trees.specs.Formatting.{adopt, adopted_by, adopted_for, adopted_once, adoption, before_in, climb, is_entry, is_listed, last_special, unlisted}
use Rattle.standard_trees.specs.GrowingTree.{Entry as StandardEntry, GrowingTree, current, ends_scope as ends_scope_of, in_scope, past, with_stack}
use Rattle.standard_trees.specs.GrowingTree.{is_one as is_one_of}
use Rattle.standard_trees.specs.RuleWords.{Scope as DefaultScope}
use Rattle.standard_trees.specs.TreeStore.{is_member}
use Rattle.page_trees.specs.Adopting.{AdoptsOnce, FindsAt, climbed}
use Rattle.page_trees.specs.Elements.{IsInOrder}
use Rattle.page_trees.specs.Formatting.{IsFirst, IsNamed, NoneHas, after_marker, up_to_marker}
use Rattle.page_trees.specs.Listing.{AdoptsBy, IsAdopted, LeadsTo, RoundEnd, RoundEnds, StaysAlike, Unlists, listed_named, lists_well}
use Rattle.page_trees.specs.Names.{text_of}
use Rattle.page_trees.specs.Popping.{first_from}
use Rattle.page_trees.specs.Reopening.{index_at, is_this}
use Rattle.page_trees.specs.Scopes.{is_name, last_place}
use Rattle.page_trees.specs.Sets.{ends_scope, is_special_element}
use Rattle.page_trees.specs.Stands.{Builds, Does, EntryStands, popped}
use Rattle.page_trees.specs.TreeState.{TreeState}
use Rattle.page_trees.specs.declared.formatting.Entry.{Entry}
use Rattle.page_trees.specs.declared.fault.PageFault.{PageFault}
use Rattle.page_trees.specs.declared.growing.adopting.Bookmark.{Bookmark}
use Rattle.page_trees.specs.declared.name.Name.{Name}
use Rattle.page_trees.specs.declared.stack.Open.{Open}
use Rattle.page_trees.proofs.AgencyEnds.{cut_built, index_some, is_open, no_block, not_open, not_scoped, scoped}
use Rattle.page_trees.proofs.FoundEntries.{finds}
use Rattle.page_trees.proofs.ListedEntries.{all_turned}
use Rattle.page_trees.proofs.FurthestBlocks.{block_found}
use Rattle.page_trees.proofs.ShorterLists.{left_once}

-- ---- the element that was found

first_stands : (P : Entry → Type 0) (Q : Open → Type 0) (es : List Entry) (x : Open) → All P es → IsFirst Q (up_to_marker es) x → P (Entry.Element x)
first_stands P Q [] x all is = absurd is
first_stands P Q (Entry.Marker ∷ es) x all is = absurd is
first_stands P Q (Entry.Element o ∷ es) x all (inl here) = subst (λ (p : Open). P (Entry.Element p)) here.1 (All-head P (Entry.Element o) es all)
first_stands P Q (Entry.Element o ∷ es) x all (inr later) = first_stands P Q es x (All-tail P (Entry.Element o) es all) later.1

-- what the search for a name in the list returns
abbrev pub Named : Name → TreeState → Option Open → Type 0
Named name s r = MatchOption r (NoneHas (IsNamed name) (after_marker s.formatting)) (IsFirst (IsNamed name) (after_marker s.formatting))

pub found_stands : (name : Name) (s : TreeState) (t : GrowingTree) (r : Option Open) (x : Open) → Named name s r → r ≡ Some x → Builds s t → EntryStands t.nodes (Entry.Element x)
found_stands name s t r x is some b =
    first_stands (EntryStands t.nodes) (IsNamed name) (reverse s.formatting) x (all_turned (EntryStands t.nodes) s.formatting b.listed.elements)
    (subst (λ (q : Option Open). MatchOption q (NoneHas (IsNamed name) (after_marker s.formatting)) (IsFirst (IsNamed name) (after_marker s.formatting))) some is)

pub found_listed : (name : Name) (s : TreeState) (t : GrowingTree) (r : Option Open) (x : Open) → is_name name Name.Other ≡ false → Named name s r → r ≡ Some x → Builds s t →
    listed_named (text_of name) t ≡ Some x.id
found_listed name s t r x known is some b = sym (finds s s name r refl known is t b) ∙ ap (option_map (λ o. o.id)) some

pub none_listed : (name : Name) (s : TreeState) (t : GrowingTree) (r : Option Open) → is_name name Name.Other ≡ false → Named name s r → r ≡ None → Builds s t →
    listed_named (text_of name) t ≡ None
none_listed name s t r known is none b = sym (finds s s name r refl known is t b) ∙ ap (option_map (λ o. o.id)) none

-- ---- one round

abbrev by_open : Bool → GrowingTree → GrowingTree → GrowingTree
by_open b x y = elim b [ false ↦ x | true ↦ y ]

abbrev by_block : ℕ → GrowingTree → (GrowingTree → GrowingTree) → Option ℕ → GrowingTree
by_block n t again block = adopted_once n block again t

round_is : (name : List ℕ) (n : ℕ) (t : GrowingTree) (again : GrowingTree → GrowingTree) → listed_named name t ≡ Some n → adopted_for (listed_named name t) name again t
    ≡ by_open (is_member n t.stack) (unlisted n t) (by_open (in_scope (nat_eq n) (ends_scope_of DefaultScope t) t.stack) t (by_block n t again (last_special t None (before_in n t.stack))))
round_is name n t again e = ap (λ (o : Option ℕ). adopted_for o name again t) e

-- the tree is left as it is, or entries and open elements are taken out
left_alike : (t : GrowingTree) (stack : List ℕ) (listed : List StandardEntry) → StaysAlike t (record t { stack = stack; listed = listed })
left_alike t stack listed = record { fosters = refl; found = refl; stands = λ o is. is }

unlisted_well : (n : ℕ) (t : GrowingTree) → lists_well t ≡ true → lists_well (unlisted n t) ≡ true
unlisted_well n t well = left_once (λ entry. not (is_entry n entry)) t.listed well

-- it is not open
pub round_unlisted : (name : Name) (foster : Bool) (s new : TreeState) (r : Option Open) (x : Open) → is_name name Name.Other ≡ false → Named name s r → r ≡ Some x →
    None ≡ index_at (last_place (is_this x.name x.id) s.stack) → Unlists x.id s new → RoundEnds name foster s new (Some true)
round_unlisted name foster s new r x known is some closed unlists t well fosters b =
    let stands = found_stands name s t r x is some b in
    record {
      after = unlisted x.id t;
      leads = record { built = unlists t well b; well = unlisted_well x.id t well; alike = left_alike t t.stack (unlisted x.id t).listed };
      result = λ again. round_is (text_of name) x.id t again (found_listed name s t r x known is some b)
          ∙ ap (λ c. by_open c (unlisted x.id t) (by_open (in_scope (nat_eq x.id) (ends_scope_of DefaultScope t) t.stack) t (by_block x.id t again (last_special t None (before_in x.id t.stack)))))
          (not_open s t x b stands closed);
    }

-- it is not in scope
pub round_out_of_scope : (name : Name) (foster : Bool) (s : TreeState) (r : Option Open) (x : Open) (p : ℕ) → is_name name Name.Other ≡ false → Named name s r → r ≡ Some x →
    last_place (is_this x.name x.id) s.stack ≡ p + 1 → (last_place ends_scope s.stack ≤ p + 1 → ⊥) → RoundEnds name foster s s (Some true)
round_out_of_scope name foster s r x p known is some place out t well fosters b =
    let stands = found_stands name s t r x is some b in
    record {
      after = t;
      leads = record { built = b; well = well; alike = left_alike t t.stack t.listed };
      result = λ again. round_is (text_of name) x.id t again (found_listed name s t r x known is some b)
          ∙ ap (λ c. by_open c (unlisted x.id t) (by_open (in_scope (nat_eq x.id) (ends_scope_of DefaultScope t) t.stack) t (by_block x.id t again (last_special t None (before_in x.id t.stack)))))
          (is_open s t x p b stands place)
          ∙ ap (λ c. by_open c t (by_block x.id t again (last_special t None (before_in x.id t.stack)))) (not_scoped s t x p b stands place out);
    }

-- there is no furthest block
pub round_popped : (name : Name) (foster : Bool) (s cut new : TreeState) (r : Option Open) (x : Open) (p : ℕ) → is_name name Name.Other ≡ false → Named name s r → r ≡ Some x →
    last_place (is_this x.name x.id) s.stack ≡ p + 1 → last_place ends_scope s.stack ≤ p + 1 → None ≡ first_from is_special_element (p + 1) (drop (p + 1) s.stack) →
    cut ≡ record s { stack = take p s.stack } → Unlists x.id cut new → RoundEnds name foster s new (Some true)
round_popped name foster s cut new r x p known is some place within none e unlists t well fosters b =
    let stands = found_stands name s t r x is some b in
    let popped_there : GrowingTree = with_stack t (past (nat_eq x.id) t.stack) in
    record {
      after = unlisted x.id popped_there;
      leads = record {
        built = unlists popped_there well (subst (λ (u : TreeState). Builds u popped_there) (sym e) (cut_built s t x p b stands place));
        well = unlisted_well x.id popped_there well;
        alike = left_alike t popped_there.stack (unlisted x.id t).listed;
      };
      result = λ again. round_is (text_of name) x.id t again (found_listed name s t r x known is some b)
          ∙ ap (λ c. by_open c (unlisted x.id t) (by_open (in_scope (nat_eq x.id) (ends_scope_of DefaultScope t) t.stack) t (by_block x.id t again (last_special t None (before_in x.id t.stack)))))
          (is_open s t x p b stands place)
          ∙ ap (λ c. by_open c t (by_block x.id t again (last_special t None (before_in x.id t.stack)))) (scoped s t x p b stands place within)
          ∙ ap (by_block x.id t again) (no_block s t x p b stands place none);
    }

-- there is one
pub round_goes_on : (name : Name) (foster : Bool) (s new : TreeState) (r : Option Open) (x : Open) (p q : ℕ) (b : Bookmark) → is_name name Name.Other ≡ false → Named name s r → r ≡ Some x → IsInOrder s.forest s.stack →
    last_place (is_this x.name x.id) s.stack ≡ p + 1 → last_place ends_scope s.stack ≤ p + 1 → Some q ≡ first_from is_special_element (p + 1) (drop (p + 1) s.stack) →
    ((i : ℕ) → FindsAt x.id i s.formatting → b.index ≡ i) → b.renewed ≡ false → AdoptsOnce p q b foster s new → RoundEnds name foster s new None
round_goes_on name foster s new r x p q b known is some order place within block marks renewed adopts t well fosters built =
    let stands = found_stands name s t r x is some built in
    let named = found_listed name s t r x known is some built in
    let it = block_found s t x p q b built well stands order place within block (text_of name) named marks renewed in
    record {
      after = adopted_by it.ladder.element.id it.ladder.block.id (climbed it.ladder t);
      leads = adopts t it.ladder it.starts fosters;
      result = λ again. round_is (text_of name) x.id t again named
          ∙ ap (λ c. by_open c (unlisted x.id t) (by_open (in_scope (nat_eq x.id) (ends_scope_of DefaultScope t) t.stack) t (by_block x.id t again (last_special t None (before_in x.id t.stack)))))
          (is_open s t x p built stands place)
          ∙ ap (λ c. by_open c t (by_block x.id t again (last_special t None (before_in x.id t.stack)))) (scoped s t x p built stands place within)
          ∙ ap (by_block x.id t again) it.special
          ∙ ap (λ (ns : List ℕ). again (adopted_by x.id it.ladder.block.id (climb ns 1 it.ladder.block.id None t))) it.between
          ∙ ap (λ (n : ℕ). again (adopted_by n it.ladder.block.id (climbed it.ladder t))) it.id;
    }

pub round_none : (name : Name) (foster : Bool) (s : TreeState) (r : Option Open) → is_name name Name.Other ≡ false → Named name s r → r ≡ None → RoundEnds name foster s s (Some false)
round_none name foster s r known is none t well fosters b = (none_listed name s t r known is none b, record { built = b; well = well; alike = left_alike t t.stack t.listed })

-- ---- all rounds

abbrev is_bare : Name → GrowingTree → Bool
is_bare name t = is_one_of t (text_of name ∷ []) (current t) && not (is_listed t (current t))

abbrev by_current : Bool → GrowingTree → GrowingTree → GrowingTree
by_current b x y = elim b [ true ↦ x | false ↦ y ]

-- the current node has the name, and is not in the list
pub adopts_current : (name : Name) (foster : Bool) (old new : TreeState) (bare : Bool) → is_name name Name.Other ≡ false →
    ((t : GrowingTree) → Builds old t → bare ≡ is_bare name t) → bare ≡ true → Does popped old new → AdoptsBy adoption name foster old new true
adopts_current name foster old new bare known tells is does t well fosters b =
    let same : adoption (text_of name) t ≡ popped t = ap (λ c. by_current c (popped t) (adopt 8 (text_of name) t)) (sym (tells t b) ∙ is) in
    record { after = popped t; leads = record { built = does t b; well = well; alike = left_alike t (popped t).stack t.listed }; result = same }

pub leads_both : (t u after : GrowingTree) (mid new : TreeState) → LeadsTo t u mid → LeadsTo u after new → LeadsTo t after new
leads_both t u after mid new one two = record {
  built = two.built;
  well = two.well;
  alike = record { fosters = two.alike.fosters ∙ one.alike.fosters; found = two.alike.found ∙ one.alike.found; stands = λ o is. two.alike.stands o (one.alike.stands o is) };
}

-- the rounds that are left give what the algorithm does
pub record IsHalfway (name : List ℕ) (left : ℕ) (t made : GrowingTree) (s : TreeState) : Type 0 where
  pub tree : GrowingTree
  pub leads : LeadsTo t tree s
  pub result : made ≡ adopt left name tree

abbrev pub Halfway : (List ℕ → GrowingTree → GrowingTree) → Name → Bool → ℕ → TreeState → TreeState → Type 0
Halfway algorithm name foster left old new =
    (t : GrowingTree) → lists_well t ≡ true → t.fostering ≡ foster → Builds old t → IsHalfway (text_of name) left t (algorithm (text_of name) t) new

pub halfway_here : (name : Name) (foster : Bool) (times : ℕ) (s : TreeState) → Halfway (adopt times) name foster times s s
halfway_here name foster times s t well fosters b = record { tree = t; leads = record { built = b; well = well; alike = left_alike t t.stack t.listed }; result = refl }

-- the first of eight rounds
pub halfway_first : (name : Name) (foster : Bool) (s : TreeState) (bare : Bool) → ((t : GrowingTree) → Builds s t → bare ≡ is_bare name t) → bare ≡ false → Halfway adoption name foster 8 s s
halfway_first name foster s bare tells is t well fosters b = record {
  tree = t;
  leads = record { built = b; well = well; alike = left_alike t t.stack t.listed };
  result = ap (λ c. by_current c (popped t) (adopt 8 (text_of name) t)) (sym (tells t b) ∙ is);
}

-- a round ends the algorithm
pub halfway_done : (algorithm : List ℕ → GrowingTree → GrowingTree) (name : Name) (foster : Bool) (before left : ℕ) (old mid new : TreeState) (end : Option Bool) (done : Bool) → before ≡ left + 1 → Halfway algorithm name foster before old mid →
    RoundEnds name foster mid new end → end ≡ Some done → AdoptsBy algorithm name foster old new done
halfway_done algorithm name foster before left old mid new end done less halfway round is t well fosters b =
    let h = halfway t well fosters b in
    by done h (subst (RoundEnd (text_of name) h.tree new) is (round h.tree h.leads.well (h.leads.alike.fosters ∙ fosters) h.leads.built)) (h.result ∙ ap (λ (n : ℕ). adopt n (text_of name) h.tree) (less ∙ next left))
  where
    next : (n : ℕ) → n + 1 ≡ suc n
    next n = omega arith

    by : (done : Bool) (h : IsHalfway (text_of name) before t (algorithm (text_of name) t) mid) → RoundEnd (text_of name) h.tree new (Some done) → algorithm (text_of name) t ≡ adopt (suc left) (text_of name) h.tree →
        IsAdopted (text_of name) t (algorithm (text_of name) t) new done
    by true h r e = record { after = r.after; leads = leads_both t h.tree r.after mid new h.leads r.leads; result = e ∙ r.result (adopt left (text_of name)) }
    by false h r e =
        record { after = h.tree; leads = leads_both t h.tree h.tree mid new h.leads r.1; result = e ∙ ap (λ (o : Option ℕ). adopted_for o (text_of name) (adopt left (text_of name)) h.tree) r.0 }

-- it goes on after a round
pub halfway_more : (algorithm : List ℕ → GrowingTree → GrowingTree) (name : Name) (foster : Bool) (before left : ℕ) (old mid new : TreeState) (end : Option Bool) → before ≡ left + 1 → Halfway algorithm name foster before old mid →
    RoundEnds name foster mid new end → end ≡ None → Halfway algorithm name foster left old new
halfway_more algorithm name foster before left old mid new end less halfway round is t well fosters b =
    let h = halfway t well fosters b in
    let r = subst (RoundEnd (text_of name) h.tree new) is (round h.tree h.leads.well (h.leads.alike.fosters ∙ fosters) h.leads.built) in
    record {
      tree = r.after;
      leads = leads_both t h.tree r.after mid new h.leads r.leads;
      result = h.result ∙ ap (λ (n : ℕ). adopt n (text_of name) h.tree) (less ∙ next left) ∙ r.result (adopt left (text_of name));
    }
  where
    next : (n : ℕ) → n + 1 ≡ suc n
    next n = omega arith

-- no round is left
pub halfway_over : (algorithm : List ℕ → GrowingTree → GrowingTree) (name : Name) (foster : Bool) (left : ℕ) (old new : TreeState) → Halfway algorithm name foster left old new → left ≡ 0 →
    AdoptsBy algorithm name foster old new true
halfway_over algorithm name foster left old new halfway none t well fosters b =
    let h = halfway t well fosters b in
    record { after = h.tree; leads = h.leads; result = h.result ∙ ap (λ (n : ℕ). adopt n (text_of name) h.tree) none }

-- the first round, and then seven more
pub adopts_again : (name : Name) (foster : Bool) (old mid new : TreeState) (end : Option Bool) (r : Result Bool PageFault) → Halfway adoption name foster 8 old old → RoundEnds name foster old mid end → end ≡ None →
    IfOk r (AdoptsBy (adopt 7) name foster mid new) → IfOk r (AdoptsBy adoption name foster old new)
adopts_again name foster old mid new end (Err fault) first round is again = tt
adopts_again name foster old mid new end (Ok done) first round is again = λ t well fosters b.
    let h = halfway_more adoption name foster 8 7 old old mid end refl first round is t well fosters b in
    let a = again h.tree h.leads.well (h.leads.alike.fosters ∙ fosters) h.leads.built in
    record { after = a.after; leads = leads_both t h.tree a.after mid new h.leads a.leads; result = h.result ∙ a.result }

-- ---- by what the calls of a round tell of the state that is seen

pub ends_unnamed : (name : Name) (foster : Bool) (view old : TreeState) (r : Option Open) → view ≡ old → is_name name Name.Other ≡ false → Named name view r → r ≡ None → RoundEnds name foster old old (Some false)
ends_unnamed name foster view old r same known is none = round_none name foster old r known (subst (λ (s : TreeState). Named name s r) same is) none

pub ends_unlisted : (name : Name) (foster : Bool) (view old new : TreeState) (r : Option Open) (x : Open) → view ≡ old → is_name name Name.Other ≡ false → Named name view r → r ≡ Some x →
    None ≡ index_at (last_place (is_this x.name x.id) view.stack) → Unlists x.id old new → RoundEnds name foster old new (Some true)
ends_unlisted name foster view old new r x same known is some closed unlists =
    round_unlisted name foster old new r x known (subst (λ (s : TreeState). Named name s r) same is) some
    (subst (λ (s : TreeState). None ≡ index_at (last_place (is_this x.name x.id) s.stack)) same closed) unlists

pub ends_unscoped : (name : Name) (foster : Bool) (view old : TreeState) (r : Option Open) (x : Open) (p : ℕ) (b : Bool) → view ≡ old → is_name name Name.Other ≡ false → Named name view r → r ≡ Some x →
    Some p ≡ index_at (last_place (is_this x.name x.id) view.stack) → (last_place ends_scope view.stack ≤ p + 1 → b ≡ true) → b ≡ false → RoundEnds name foster old old (Some true)
ends_unscoped name foster view old r x p b same known is some place scope lacks =
    subst (λ (s : TreeState). RoundEnds name foster s s (Some true)) same
    (round_out_of_scope name foster view r x p known is some (index_some _ p place) (λ within. true≢false (sym (scope within) ∙ lacks)))

pub ends_popped : (name : Name) (foster : Bool) (view old cut new : TreeState) (r : Option Open) (x : Open) (p : ℕ) (b : Bool) → view ≡ old → is_name name Name.Other ≡ false → Named name view r → r ≡ Some x →
    Some p ≡ index_at (last_place (is_this x.name x.id) view.stack) → (b ≡ true → last_place ends_scope view.stack ≤ p + 1) → b ≡ true →
    None ≡ first_from is_special_element (p + 1) (drop (p + 1) view.stack) → cut ≡ record old { stack = take p old.stack } → Unlists x.id cut new → RoundEnds name foster old new (Some true)
ends_popped name foster view old cut new r x p b same known is some place scope shows none e unlists =
    subst (λ (s : TreeState). RoundEnds name foster s new (Some true)) same
    (round_popped name foster view cut new r x p known is some (index_some _ p place) (scope shows) none
    (subst (λ (s : TreeState). cut ≡ record s { stack = take p s.stack }) (sym same) e) unlists)

pub goes_on : (name : Name) (foster : Bool) (view old new : TreeState) (r : Option Open) (x : Open) (p q : ℕ) (b : Bool) (mark : Bookmark) → view ≡ old → is_name name Name.Other ≡ false → Named name view r → r ≡ Some x →
    IsInOrder view.forest view.stack → Some p ≡ index_at (last_place (is_this x.name x.id) view.stack) → (b ≡ true → last_place ends_scope view.stack ≤ p + 1) → b ≡ true →
    Some q ≡ first_from is_special_element (p + 1) (drop (p + 1) view.stack) → ((i : ℕ) → FindsAt x.id i old.formatting → mark.index ≡ i) → mark.renewed ≡ false →
    AdoptsOnce p q mark foster old new → RoundEnds name foster old new None
goes_on name foster view old new r x p q b mark same known is some order place scope shows block marks renewed adopts =
    subst (λ (s : TreeState). RoundEnds name foster s new None) same
    (round_goes_on name foster view new r x p q mark known is some order (index_some _ p place) (scope shows) block
    (subst (λ (s : TreeState). (i : ℕ) → FindsAt x.id i s.formatting → mark.index ≡ i) (sym same) marks) renewed (subst (λ (s : TreeState). AdoptsOnce p q mark foster s new) (sym same) adopts))
