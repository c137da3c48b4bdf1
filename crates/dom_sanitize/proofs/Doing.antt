-- Steps that are done one after the other, the last one first.
use Rattle.std.proofs.Common.{ℕ, ◌≡◌, ◌<◌, ◌+◌, zero, suc, List, [], ◌∷◌, ◌++◌, Option, Some, None, refl, sym, ap, ◌∙◌, subst, length, arith}
use Rattle.dom_nodes.specs.declared.node_data.NodeData.{NodeData}
use Rattle.dom_links.specs.Contents.{changed_at}
use Rattle.dom_links.specs.Forest.{Forest}
use Rattle.dom_sanitize.specs.Plan.{EachStep, IsKnown, MayPut, MayPutAll, all_done, clear_one, cut_one, put_one}
use Rattle.dom_sanitize.specs.declared.plan.Step.{Step}
use Rattle.dom_sanitize.proofs.MovedNodes.{content-all_cut}

-- the steps that are left come before those that were done
pub record Doing (move : Step → Forest → Forest) (all rest : List Step) (before now : Forest) : Type 0 where
  pub done : List Step
  pub split : all ≡ rest ++ done
  pub is : now ≡ all_done move done before

pub doing-starts : (move : Step → Forest → Forest) (all : List Step) (before : Forest) → Doing move all all before before
doing-starts move all before = record { done = []; split = sym (nothing_more all); is = refl }
  where
    nothing_more : (ss : List Step) → ss ++ [] ≡ ss
    nothing_more [] = refl
    nothing_more (s ∷ ss) = ap (λ ts. s ∷ ts) (nothing_more ss)

joined : (front : List Step) (last : Step) (done : List Step) → (front ++ last ∷ []) ++ done ≡ front ++ last ∷ done
joined [] last done = refl
joined (s ∷ ss) last done = ap (λ ts. s ∷ ts) (joined ss last done)

pub doing-split : (move : Step → Forest → Forest) (all rest front : List Step) (last : Step) (before now : Forest) → rest ≡ front ++ last ∷ [] → (d : Doing move all rest before now) → all ≡ front ++ last ∷ d.done
doing-split move all rest front last before now e d = d.split ∙ ap (λ ss. ss ++ d.done) e ∙ joined front last d.done

pub doing-more : (move : Step → Forest → Forest) (all rest front : List Step) (last : Step) (before now next : Forest) → rest ≡ front ++ last ∷ [] → next ≡ move last now → Doing move all rest before now → Doing move all front before next
doing-more move all rest front last before now next e made d = record {
  done = last ∷ d.done;
  split = doing-split move all rest front last before now e d;
  is = made ∙ ap (move last) d.is;
}

pub doing-ends : (move : Step → Forest → Forest) (all rest : List Step) (before now : Forest) → rest ≡ [] → Doing move all rest before now → now ≡ all_done move all before
doing-ends move all rest before now none d = d.is ∙ ap (λ ss. all_done move ss before) (sym (d.split ∙ ap (λ ss. ss ++ d.done) none))

pub no_rest : (ss : List Step) → length ss ≡ 0 → ss ≡ []
no_rest [] e = refl
no_rest (s ∷ ss) e = absurd (omega (arith, e))

pub shorter : (rest front : List Step) (last : Step) → rest ≡ front ++ last ∷ [] → length front < length rest
shorter rest front last e = omega (arith, ap length e, one_more front)
  where
    one_more : (ss : List Step) → length (ss ++ last ∷ []) ≡ length ss + 1
    one_more [] = refl
    one_more (s ∷ ss) = omega (arith, one_more ss)

each-last : (P : Step → Type 0) (front : List Step) (last : Step) (done : List Step) → EachStep P (front ++ last ∷ done) → P last
each-last P [] last done each = each.0
each-last P (s ∷ ss) last done each = each-last P ss last done each.1

may-last : (start : Forest) (front : List Step) (last : Step) (done : List Step) → MayPutAll start (front ++ last ∷ done) → MayPut (all_done put_one done start) last
may-last start [] last done may = may.0
may-last start (s ∷ ss) last done may = may-last start ss last done may.1

pub cut_known : (all rest front : List Step) (last : Step) (before now : Forest) → rest ≡ front ++ last ∷ [] → EachStep (IsKnown before) all → Doing cut_one all rest before now → IsKnown now last
cut_known all rest front last before now e each d =
    let known = each-last (IsKnown before) front last d.done (subst (EachStep (IsKnown before)) (doing-split cut_one all rest front last before now e d) each) in
    subst (λ (c : List NodeData). last.id < length c) (sym (ap (λ (f : Forest). f.content) d.is ∙ content-all_cut d.done before)) known

pub put_may : (all rest front : List Step) (last : Step) (before now : Forest) → rest ≡ front ++ last ∷ [] → MayPutAll before all → Doing put_one all rest before now → MayPut now last
put_may all rest front last before now e may d =
    subst (λ f. MayPut f last) (sym d.is) (may-last before front last d.done (subst (MayPutAll before) (doing-split put_one all rest front last before now e d) may))

length-changed : (x : ℕ) (change : NodeData → NodeData) (cs : List NodeData) → length (changed_at x change cs) ≡ length cs
length-changed x change [] = refl
length-changed zero change (c ∷ cs) = refl
length-changed (suc x) change (c ∷ cs) = ap suc (length-changed x change cs)

length-cleared : (names : List (List ℕ)) (ss : List Step) (forest : Forest) → length (all_done (clear_one names) ss forest).content ≡ length forest.content
length-cleared names [] forest = refl
length-cleared names (s ∷ ss) forest = one s.home s.id (all_done (clear_one names) ss forest) ∙ length-cleared names ss forest
  where
    one : (home : Option ℕ) (x : ℕ) (f : Forest) → length (clear_one names (record { id = x; home = home }) f).content ≡ length f.content
    one None x f = refl
    one (Some p) x f = length-changed x _ f.content

pub clear_known : (names : List (List ℕ)) (all rest front : List Step) (last : Step) (before now : Forest) → rest ≡ front ++ last ∷ [] → EachStep (IsKnown before) all → Doing (clear_one names) all rest before now → IsKnown now last
clear_known names all rest front last before now e each d =
    let known = each-last (IsKnown before) front last d.done (subst (EachStep (IsKnown before)) (doing-split (clear_one names) all rest front last before now e d) each) in
    subst (λ (n : ℕ). last.id < n) (sym (ap (λ (f : Forest). length f.content) d.is ∙ length-cleared names d.done before)) known
