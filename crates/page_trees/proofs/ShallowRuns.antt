-- What turns that pass a test come to at some depth, they come to at each depth at which the rules come to anything.
use Rattle.std.specs.Prelude.{◌≡◌, ℕ, zero, suc, Bool, true, false, List, [], ◌∷◌, reverse, Option, None, Some, option_map, refl}
use Rattle.std.specs.List.{list_all}
use Rattle.std.specs.Option.{option_and_then}
use Rattle.std.proofs.lemmas.Option.{same_Some}
use mathlib.Core.Path.{◌∙◌, sym, ap, subst}
use Rattle.standard_tokens.specs.Tokens.{AChar}
use Rattle.standard_trees.specs.Building.{Building, each_char, gone, is_met, perform, performed, run, taken, with_token}
use Rattle.standard_trees.specs.RuleWords.{Mode, Dispatcher, Way, Reprocess, Use, UseCurrentMode, UseForEachPending, Act, does, goes}
use Rattle.standard_trees.specs.TreeRules.{rules}
use Rattle.standard_order.specs.Turns.{is_barred, run_while}

-- where the first and the second both come to something, it is the same, and the third comes to it
abbrev pub Meet : Option Building → Option Building → Option Building → Type 0
Meet o p q = (x y : Building) → o ≡ Some x → p ≡ Some y → (x ≡ y) × (q ≡ Some x)

abbrev pub MeetIn : (one other third : Mode → Building → Option Building) → Type 0
MeetIn one other third = (mode : Mode) (b : Building) → Meet (one mode b) (other mode b) (third mode b)

then_meet : (f g h : Building → Option Building) → ((x : Building) → Meet (f x) (g x) (h x)) → (o p q : Option Building) → Meet o p q →
    Meet (option_and_then f o) (option_and_then g p) (option_and_then h q)
then_meet f g h later None p q meet x y e k = cc
then_meet f g h later (Some u) None q meet x y e k = cc
then_meet f g h later (Some u) (Some v) q meet x y e k =
    let first : (u ≡ v) × (q ≡ Some u) = meet u v refl refl in
    let rest : (x ≡ y) × (h u ≡ Some x) = later u x y e (ap g first.0 ∙ k) in
    (rest.0, ap (option_and_then h) first.1 ∙ rest.1)

map_meet : (f : Building → Building) (o p q : Option Building) → Meet o p q → Meet (option_map f o) (option_map f p) (option_map f q)
map_meet f None p q meet x y e k = cc
map_meet f (Some u) None q meet x y e k = cc
map_meet f (Some u) (Some v) q meet x y e k =
    let first : (u ≡ v) × (q ≡ Some u) = meet u v refl refl in
    (sym (same_Some (f u) x e) ∙ ap f first.0 ∙ same_Some (f v) y k, ap (option_map f) first.1 ∙ e)

each_meet : (f g h : Building → Option Building) → ((x : Building) → Meet (f x) (g x) (h x)) → (cs : List ℕ) (b : Building) →
    Meet (each_char f cs b) (each_char g cs b) (each_char h cs b)
each_meet f g h all [] b = λ x y e k. (sym (same_Some b x e) ∙ same_Some b y k, e)
each_meet f g h all (c ∷ cs) b =
    then_meet (each_char f cs) (each_char g cs) (each_char h cs) (λ u. each_meet f g h all cs u) (f (with_token (AChar c) [] b)) (g (with_token (AChar c) [] b))
    (h (with_token (AChar c) [] b)) (all (with_token (AChar c) [] b))

gone_meet : (f g h : Mode → Building → Option Building) → MeetIn f g h → (way : Way) (b : Building) → Meet (gone f way b) (gone g way b) (gone h way b)
gone_meet f g h meet Reprocess b = meet Dispatcher b
gone_meet f g h meet UseCurrentMode b = meet b.mode b
gone_meet f g h meet (Use mode) b = meet mode b
gone_meet f g h meet (UseForEachPending mode) b =
    map_meet (with_token b.token b.attrs) (each_char (f mode) (reverse b.pending) b) (each_char (g mode) (reverse b.pending) b) (each_char (h mode) (reverse b.pending) b)
    (each_meet (f mode) (g mode) (h mode) (meet mode) (reverse b.pending) b)

performed_meet : (f g h : Mode → Building → Option Building) → MeetIn f g h → (acts : List Act) (b : Building) →
    Meet (performed f acts b) (performed g acts b) (performed h acts b)
performed_meet f g h meet [] b = λ x y e k. (sym (same_Some b x e) ∙ same_Some b y k, e)
performed_meet f g h meet (does action tests ∷ acts) b =
    performed_meet f g h meet acts (elim (list_all (is_met b) tests) [ true ↦ perform action b | false ↦ b ])
performed_meet f g h meet (goes way ∷ acts) b =
    then_meet (performed f acts) (performed g acts) (performed h acts) (λ u. performed_meet f g h meet acts u) (gone f way b) (gone g way b) (gone h way b)
    (gone_meet f g h meet way b)

barred_meet : (z : Bool) (o p q : Option Building) → Meet o p q → Meet (elim z [ true ↦ None | false ↦ o ]) p (elim z [ true ↦ None | false ↦ q ])
barred_meet true o p q meet x y e k = cc
barred_meet false o p q meet x y e k = meet x y e k

depths_meet : (test : Building → Bool) (d e : ℕ) → MeetIn (run_while test d) (run e) (run_while test e)
unfolding run run_while
depths_meet test zero e mode b x y h k = cc
depths_meet test (suc d) zero mode b x y h k = cc
depths_meet test (suc d) (suc e) mode b x y h k =
    barred_meet (is_barred test mode b) (performed (run_while test d) (taken b (rules mode)) b) (performed (run e) (taken b (rules mode)) b)
    (performed (run_while test e) (taken b (rules mode)) b) (performed_meet (run_while test d) (run e) (run_while test e) (depths_meet test d e) (taken b (rules mode)) b)
    x y h k

pub at_that_depth : (test : Building → Bool) (d e : ℕ) (mode : Mode) (b x y : Building) → run_while test d mode b ≡ Some x → run e mode b ≡ Some y →
    run_while test e mode b ≡ Some x
at_that_depth test d e mode b x y h k = (depths_meet test d e mode b x y h k).1
