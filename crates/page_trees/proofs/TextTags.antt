-- What the rules for "text" make of a tag, and the dispatcher of one that it leaves to the current mode.
use Rattle.std.proofs.Common.{◌≡◌, Bool, true, false, ◌||◌, List, [], ◌∷◌, codes, refl, sym, ap, subst, ◌∙◌}
use Rattle.standard_trees.specs.Building.{Building, perform, taken}
use Rattle.standard_trees.specs.GrowingTree.{is_among}
use Rattle.standard_trees.specs.RuleWords.{Act, Dispatcher, Mode as StandardMode, Pop, SwitchBack, SwitchTo, Text, UseCurrentMode, goes}
use Rattle.standard_trees.specs.TreeRules.{rules}
use Rattle.page_tokens.specs.declared.token.Tag.{Tag}
use Rattle.page_trees.specs.Constructs.{Constructs, IsCurrentTag, Outcome, all_performed, returns_later}
use Rattle.page_trees.specs.Modes.{is_start_kind, mode_of}
use Rattle.page_trees.specs.Names.{html_rows, rare_rows, text_of}
use Rattle.page_trees.specs.declared.builder.Mode.{Mode}
use Rattle.page_trees.specs.declared.builder.Next.{Next}
use Rattle.page_trees.specs.declared.builder.TreeBuilder.{TreeBuilder}
use Rattle.page_trees.specs.declared.name.Name.{Name}
use Rattle.page_trees.proofs.Dispatching.{by_mode}
use Rattle.page_trees.proofs.RulesRun.{outcome, plainly}
use Rattle.page_trees.proofs.RulesTaken.{are_of_names, chosen, plain_tag, taken_tag}

text_known : are_of_names (rules Text) ≡ true
unfolding rules html_rows rare_rows
text_known = refl

either : (x : Bool) (acts : List Act) → elim (x || false) [ true ↦ acts | false ↦ acts ] ≡ acts
either true acts = refl
either false acts = refl

start_ignored : (b : Building) (name : Name) → chosen (plain_tag true name) b (rules Text) ≡ plainly [] Next.Done
unfolding rules
start_ignored b name = refl

end_pops : (b : Building) (name : Name) → chosen (plain_tag false name) b (rules Text) ≡ plainly (Pop ∷ SwitchBack ∷ []) Next.Done
unfolding rules
end_pops b name = either (is_among (text_of name) (codes "script" ∷ [])) (plainly (Pop ∷ SwitchBack ∷ []) Next.Done)

pub start_in_text : (name : Name) (tag : Tag) (b : Building) (new : TreeBuilder) → IsCurrentTag name tag b → is_start_kind tag.kind ≡ true → Constructs new b → Outcome Text b new Next.Done
start_in_text name tag b new c e stands =
    outcome Text b new [] Next.Done stands (record { token = refl; attrs = refl }) (taken_tag name tag b c true e (rules Text) text_known ∙ start_ignored b name)

pub end_in_text : (name : Name) (tag : Tag) (b : Building) (old new : TreeBuilder) → IsCurrentTag name tag b → is_start_kind tag.kind ≡ false → old.mode ≡ Mode.Text → Constructs old b →
    Constructs new (all_performed (Pop ∷ SwitchTo (mode_of old.original) ∷ []) b) → Outcome Text b new Next.Done
unfolding perform
end_in_text name tag b old new c e text stands back =
    let stood = subst (λ (m : StandardMode). Constructs new (record (perform Pop b) { mode = m })) (sym (stands.original (ap returns_later text))) back in
    outcome Text b new (Pop ∷ SwitchBack ∷ []) Next.Done stood (record { token = refl; attrs = refl }) (taken_tag name tag b c false e (rules Text) text_known ∙ end_pops b name)

-- ---- the dispatcher

pub tag_in_mode : (m : Mode) (b : Building) (new : TreeBuilder) (next : Next) → taken b (rules Dispatcher) ≡ goes UseCurrentMode ∷ [] → b.mode ≡ mode_of m →
    Outcome (mode_of m) b new next → Outcome Dispatcher b new next
tag_in_mode m b new next e mode o =
    let here : Outcome b.mode b new next = subst (λ (x : StandardMode). Outcome x b new next) (sym mode) o in
    record { after = here.after; stands = here.stands; runs = by_mode b next here.after e here.runs }
