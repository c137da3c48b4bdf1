-- "Reset the insertion mode appropriately" in both definitions.
use Rattle.std.specs.Prelude.{◌≡◌, refl, ℕ, Bool, true, false, List, [], ◌∷◌, Option, None, Some, unwrap_or}
use Rattle.std.specs.List.{list_all}
use Rattle.std.proofs.lemmas.Option.{same_Some}
use mathlib.Core.Path.{◌∙◌, sym, ap, subst}
use Rattle.standard_rules.specs.Building.{Below, Building, Gives, Open, Outside, Verdict, at_mode, in_found_mode, mode_of, names_of_stack, verdict}
use Rattle.standard_rules.specs.PlainTrees.{flow_contexts}
use Rattle.standard_rules.specs.RuleWords as O
use Rattle.standard_rules.specs.TreeTokens.{Trees, is_among}
use Rattle.standard_rules.proofs.TreeLists.{of_each}
use Rattle.standard_trees.specs.Building.{reset, reset_by, reset_from}
use Rattle.standard_trees.specs.GrowingTree.{GrowingTree, key, kind_of}
use Rattle.standard_trees.specs.RuleWords as N
use Rattle.standard_trees.specs.TreeRules.{resets}
use Rattle.standard_trees.specs.TreeStore.{Kind, key_in}
use Rattle.standard_agreement.proofs.Names.{for_each, known}
use Rattle.standard_agreement.proofs.Store.{Held, free, numbers}
use Rattle.standard_agreement.proofs.Stack.{AreKnown, IsRooted, kind_now}
use Rattle.standard_agreement.proofs.Acting.{ContextIs}
use Rattle.standard_agreement.proofs.Choosing.{is_mode}
use Rattle.standard_agreement.proofs.Following.{ModeIs, ResetsWell, Run, mode_is}

abbrev verdict_fits : Verdict → Option N.Mode → Bool
verdict_fits Outside found = true
verdict_fits Below None = true
verdict_fits Below (Some new) = false
verdict_fits (Gives mode) None = false
verdict_fits (Gives mode) (Some new) = is_mode mode new

-- of an element that is not the lowest
each_name : (head : Option ℕ) (m : ℕ) (ns : List ℕ) → list_all (λ name. verdict_fits (verdict false name) (reset_by resets name [] head (m ∷ ns))) known ≡ true
each_name head m ns = refl

body_mode : (mode : O.Mode) → Some O.InBody ≡ Some mode → ModeIs mode N.InBody
body_mode mode h = subst (λ m. ModeIs m N.InBody) (same_Some O.InBody mode h) (mode_is O.InBody N.InBody refl)

-- of the lowest, whose place the context element takes
Lowest : List ℕ → Type 0
Lowest name = (head : Option ℕ) (mode : O.Mode) → elim (verdict true name) [ Gives m ↦ Some m | Below ↦ Some O.InBody | Outside ↦ None ] ≡ Some mode →
    ModeIs mode (unwrap_or (reset_by resets name [] head []) N.InBody)

each_context : (name : List ℕ) → is_among name flow_contexts ≡ true → Lowest name
unfolding Lowest
each_context =
    of_each Lowest flow_contexts
    (λ head mode h. body_mode mode h, (λ head mode h. body_mode mode h, (λ head mode h. body_mode mode h, (λ head mode h. body_mode mode h, (λ head mode h. body_mode mode h, tt)))))

mode_found : (around : Option Kind) (context : Option (List ℕ)) → ContextIs context around → (t : GrowingTree) → t.context ≡ around → (document : Trees) (os : List Open) (kids : List ℕ) →
    Held t.nodes document os kids → AreKnown os → IsRooted os → (mode : O.Mode) → mode_of context (names_of_stack os) ≡ Some mode → ModeIs mode (reset_from t [] (numbers document os))
unfolding Lowest
mode_found around context is t same document [] kids held are rooted mode h = absurd rooted
mode_found around None is t same document (o ∷ []) kids held are rooted mode h = absurd (outside (sym (ap (λ name. elim (verdict true name) [ Gives m ↦ Some m | Below ↦ Some O.InBody | Outside ↦ None ]) rooted) ∙ h))
  where
    outside : None ≡ Some mode → ⊥
    outside e = cc
mode_found None (Some name) is t same document (o ∷ []) kids held are rooted mode h = absurd is
mode_found (Some kind) (Some name) is t same document (o ∷ []) kids held are rooted mode h =
    subst (λ k. ModeIs mode (unwrap_or (reset_by resets (key_in (unwrap_or k (kind_of t (free document [])))) [] t.head []) N.InBody)) (sym same)
    (subst (λ k. ModeIs mode (unwrap_or (reset_by resets (key_in k) [] t.head []) N.InBody)) (sym is.1) (each_context name is.2 t.head mode h))
mode_found around context is t same document (o ∷ p ∷ os) kids held are rooted mode h =
    subst (ModeIs mode) (sym named) (by_verdict (verdict false o.name) (reset_by resets o.name [] t.head (numbers document (p ∷ os)))
    (for_each (λ name. verdict_fits (verdict false name) (reset_by resets name [] t.head (numbers document (p ∷ os)))) known (each_name t.head (free document os) (numbers document os)) o.name are.0) h
    (λ k. mode_found around context is t same document (p ∷ os) (free document (p ∷ os) ∷ []) held.2 are.1 rooted mode k))
  where
    n : ℕ
    n = free document (p ∷ os)

    here : Option N.Mode → N.Mode
    here found = elim found [ Some new ↦ new | None ↦ reset_from t [] (numbers document (p ∷ os)) ]

    named : here (reset_by resets (key t n) [] t.head (numbers document (p ∷ os))) ≡ here (reset_by resets o.name [] t.head (numbers document (p ∷ os)))
    named = ap (λ k. here (reset_by resets (key_in k) [] t.head (numbers document (p ∷ os)))) (kind_now t document o (p ∷ os) kids held)

    by_verdict : (v : Verdict) (found : Option N.Mode) → verdict_fits v found ≡ true →
        elim v [ Gives m ↦ Some m | Below ↦ mode_of context (names_of_stack (p ∷ os)) | Outside ↦ None ] ≡ Some mode →
        (mode_of context (names_of_stack (p ∷ os)) ≡ Some mode → ModeIs mode (reset_from t [] (numbers document (p ∷ os)))) → ModeIs mode (here found)
    by_verdict Outside found f k later = cc
    by_verdict Below None f k later = later k
    by_verdict Below (Some new) f k later = cc
    by_verdict (Gives m) None f k later = cc
    by_verdict (Gives m) (Some new) f k later = subst (λ x. ModeIs x new) (same_Some m mode k) (mode_is m new f)

pub resets_well : (around : Option Kind) → ResetsWell around
resets_well around turn b after c r h = by_mode (mode_of b.context (names_of_stack b.stack)) refl h
  where
    by_mode : (x : Option O.Mode) → mode_of b.context (names_of_stack b.stack) ≡ x → in_found_mode b x ≡ Some after → Run around None after (reset c)
    by_mode None is k = cc
    by_mode (Some mode) is k =
        let m : ModeIs mode (reset_from c.tree [] (numbers b.document b.stack)) =
        mode_found around b.context r.stands.context c.tree r.stands.parts.around b.document b.stack [] r.stands.parts.fits.0 r.stands.parts.fits.2 r.stands.parts.fits.3 mode is in
        subst (λ (x : Building). Run around None x (reset c)) (same_Some (at_mode mode b) after k) (record {
          stands = record { parts = r.stands.parts; context = r.stands.context; templates = r.stands.templates; quirks = r.stands.quirks; skip = r.stands.skip };
          attrs = r.attrs;
          quiet = r.quiet;
          mode = ap (λ modes. reset_from c.tree modes c.tree.stack) r.stands.templates ∙ ap (reset_from c.tree []) r.stands.parts.stack ∙ m.is;
          original = m.original b.original c.original;
          later = m.later;
          silent = m.silent c.token;
        })
