-- The parents of a run are set one after the other.
use Rattle.std.proofs.Common.{ℕ, suc, ◌≡◌, ◌<◌, ◌≤◌, ◌+◌, ◌-◌, false, true, List, [], ◌∷◌, ◌++◌, Option, Some, None, refl, sym, ap, ◌∙◌, subst, arith, cond, length, get_or, append_assoc}
use Rattle.std.specs.Prelude.{◌==◌, ◌||◌, slice_set}
use Rattle.std.specs.Option.{IfSome}
use Rattle.std.proofs.lemmas.List.{length-set, append-nil}
use Rattle.dom_nodes.specs.declared.node_data.TreeNode.{TreeNode}
use Rattle.dom_links.specs.Lists.{is_member, last}
use Rattle.dom_links.specs.Forest.{parent_link, next_link, chain}
use Rattle.dom_links.specs.ListWrites.{NextsKnown, ParentsSet, next_chain}
use Rattle.dom_links.proofs.forest.Neighbours.{is_member-append, last-append, last-cons_cons}
use Rattle.dom_links.proofs.moves.Cuts.{one-stands}
use Rattle.dom_links.proofs.forest.Written.{link-set, link-kept, map-kept, link-read}
use Rattle.dom_links.proofs.forest.Chains.{chain_empty}

none_set : (nodes : List TreeNode) (owner : Option ℕ) → ParentsSet nodes nodes [] owner
none_set nodes owner = record { same_length = refl; contents = refl; ids = refl; parents = λ n. refl; prevs = λ n. refl; nexts = λ n. refl; firsts = λ n. refl; lasts = λ n. refl }

one_more_set : (old nodes : List TreeNode) (met : List ℕ) (owner : Option ℕ) (i at : ℕ) (d : TreeNode) → ParentsSet old nodes met owner → i < length nodes → i ≡ at →
    ParentsSet old (slice_set nodes i (record (get_or nodes i d) { parent = owner })) (met ++ at ∷ []) owner
one_more_set old nodes met owner i at d set h e =
    let node : TreeNode = record (get_or nodes i d) { parent = owner } in
    record {
      same_length = length-set nodes i node ∙ set.same_length;
      contents = map-kept (λ x. x.content) nodes i node d h refl ∙ set.contents;
      ids = map-kept (λ x. x.id) nodes i node d h refl ∙ set.ids;
      parents = λ n. link-set (λ x. x.parent) nodes i node h n ∙ rw (set.parents n, is_member-append met (at ∷ []) n, one-stands at n, e)
          (elim (at == n) as (λ t. cond t owner (cond (is_member n met) owner (parent_link old n)) ≡ cond (is_member n met || t) owner (parent_link old n)) [
            | true ↦ (elim (is_member n met) as (λ u. owner ≡ cond (u || true) owner (parent_link old n)) [ true ↦ refl | false ↦ refl ])
            | false ↦ (elim (is_member n met) as (λ u. cond u owner (parent_link old n) ≡ cond (u || false) owner (parent_link old n)) [ true ↦ refl | false ↦ refl ])
          ]);
      prevs = λ n. link-kept (λ x. x.prev_sibling) nodes i node d h refl n ∙ set.prevs n;
      nexts = λ n. link-kept (λ x. x.next_sibling) nodes i node d h refl n ∙ set.nexts n;
      firsts = λ n. link-kept (λ x. x.first_child) nodes i node d h refl n ∙ set.firsts n;
      lasts = λ n. link-kept (λ x. x.last_child) nodes i node d h refl n ∙ set.lasts n;
    }

-- so many steps from x on, the nodes met so far have the parent, and `next` leads to the rest
pub record Setting (old now : List TreeNode) (x : ℕ) (owner : Option ℕ) (steps end : ℕ) (next : Option ℕ) : Type 0 where
  pub met : List ℕ
  pub set : ParentsSet old now met owner
  pub whole : met ++ chain (next_link old) (length old - steps) next ≡ next_chain old x
  pub next_known : IfSome next (λ m. m < length old)
  pub end_known : end < length old
  pub ends : last (x ∷ met) ≡ Some end

pub setting_starts : (nodes : List TreeNode) (x : ℕ) (owner : Option ℕ) → x < length nodes → Setting nodes nodes x owner 0 x (Some x)
setting_starts nodes x owner h =
    let all : length nodes - 0 ≡ length nodes = omega arith in
    record { met = []; set = none_set nodes owner; whole = rw all refl; next_known = h; end_known = h; ends = refl }

pub setting_goes_on : (old now : List TreeNode) (x : ℕ) (owner : Option ℕ) (steps end : ℕ) (next : Option ℕ) (at i : ℕ) (d : TreeNode) → NextsKnown old → Setting old now x owner steps end next → next ≡ Some at → steps < length old → i ≡ at →
    Setting old (slice_set now i (record (get_or now i d) { parent = owner })) x owner (steps + 1) at (get_or now i d).next_sibling
setting_goes_on old now x owner steps end next at i d known so is more e =
    let same = so.set.same_length in
    let at_known : at < length old = subst (λ o. IfSome o (λ m. m < length old)) is so.next_known in
    let here : i < length now = omega arith in
    let left : length old - steps ≡ suc (length old - (steps + 1)) = omega arith in
    let to : (get_or now i d).next_sibling ≡ next_link old at = link-read (λ node. node.next_sibling) now i d here ∙ so.set.nexts i ∙ ap (next_link old) e in
    record {
      met = so.met ++ at ∷ [];
      set = one_more_set old now so.met owner i at d so.set here e;
      whole = append_assoc so.met (at ∷ []) (chain (next_link old) (length old - (steps + 1)) (get_or now i d).next_sibling)
          ∙ ap (λ o. so.met ++ at ∷ chain (next_link old) (length old - (steps + 1)) o) to
          ∙ ap (λ k. so.met ++ chain (next_link old) k (Some at)) (sym left)
          ∙ ap (λ o. so.met ++ chain (next_link old) (length old - steps) o) (sym is) ∙ so.whole;
      next_known = subst (λ o. IfSome o (λ m. m < length old)) (sym to) (known at at_known);
      end_known = at_known;
      ends = last-append (x ∷ so.met) (at ∷ []);
    }

following_some : (nodes : List TreeNode) (x : ℕ) → x < length nodes → next_chain nodes x ≡ x ∷ chain (next_link nodes) (length nodes - 1) (next_link nodes x)
following_some nodes x h =
    let left : length nodes ≡ suc (length nodes - 1) = omega arith in
    ap (λ k. chain (next_link nodes) k (Some x)) left

-- the chain has come to its end
all_set : (old now : List TreeNode) (x : ℕ) (owner : Option ℕ) (steps end : ℕ) (next : Option ℕ) → x < length old → Setting old now x owner steps end next → chain (next_link old) (length old - steps) next ≡ [] →
    ParentsSet old now (next_chain old x) owner × (last (next_chain old x) ≡ Some end)
all_set old now x owner steps end next h so none =
    let all : so.met ≡ next_chain old x = sym (append-nil so.met) ∙ ap (λ ns. so.met ++ ns) (sym none) ∙ so.whole in
    let starts = following_some old x h in (
      subst (λ ns. ParentsSet old now ns owner) all so.set,
      ap last starts ∙ sym (last-cons_cons x x (chain (next_link old) (length old - 1) (next_link old x))) ∙ ap (λ ns. last (x ∷ ns)) (sym starts ∙ sym all) ∙ so.ends,
    )

pub set_at_end : (old now : List TreeNode) (x : ℕ) (owner : Option ℕ) (steps end : ℕ) (next : Option ℕ) → x < length old → Setting old now x owner steps end next → next ≡ None →
    ParentsSet old now (next_chain old x) owner × (last (next_chain old x) ≡ Some end)
set_at_end old now x owner steps end next h so none = all_set old now x owner steps end next h so (ap (chain (next_link old) (length old - steps)) none ∙ chain_empty (next_link old) (length old - steps))

pub set_in_all : (old now : List TreeNode) (x : ℕ) (owner : Option ℕ) (steps end : ℕ) (next : Option ℕ) → x < length old → Setting old now x owner steps end next → length old ≤ steps →
    ParentsSet old now (next_chain old x) owner × (last (next_chain old x) ≡ Some end)
set_in_all old now x owner steps end next h so done =
    let no_more : length old - steps ≡ 0 = omega arith in
    all_set old now x owner steps end next h so (ap (λ k. chain (next_link old) k next) no_more)
