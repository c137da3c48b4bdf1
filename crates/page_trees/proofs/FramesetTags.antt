-- What the rules for the modes of framesets make of a tag.
use Rattle.std.proofs.Common.{◌≡◌, Bool, true, false, ◌&&◌, not, List, [], ◌∷◌, ◌-◌, ◌<◌, ◌≤◌, ℕ, zero, suc, arith, length, reverse, codes, refl, sym, ap, subst, ◌∙◌, true≢false}
use Rattle.std.specs.Prelude.{slice_get}
use Rattle.std.specs.Option.{option_map_or}
use Rattle.std.specs.List.{list_all}
use Rattle.std.proofs.lemmas.List.{length-map, length-reverse}
use Rattle.standard_trees.specs.Building.{Building, is_met, perform, performed, run, taken}
use Rattle.standard_trees.specs.GrowingTree.{GrowingTree, current, is_one, is_single}
use Rattle.standard_trees.specs.RuleWords.{Act, AfterAfterFrameset, AfterFrameset, InBody, InFrameset, InHead, InsertElement, Mode as StandardMode, Pop, SwitchTo, Use, does, goes}
use Rattle.standard_trees.specs.TreeRules.{rules}
use Rattle.page_tokens.specs.declared.token.Tag.{Tag}
use Rattle.page_trees.specs.Constructs.{ComesTo, Constructs, IsCurrentTag, Outcome, all_performed}
use Rattle.page_trees.specs.Framesets.{frameset_ended, framesets_left, is_behind_framesets, no_frameset_left}
use Rattle.page_trees.specs.LateMerges.{HasHtml}
use Rattle.page_trees.specs.Modes.{is_start_kind}
use Rattle.page_trees.specs.Names.{html_rows, rare_rows, text_of}
use Rattle.page_trees.specs.Scopes.{has_name, is_name}
use Rattle.page_trees.specs.Stands.{Builds, is_fragment}
use Rattle.page_trees.specs.TreeState.{TreeState}
use Rattle.page_trees.specs.declared.builder.Next.{Next}
use Rattle.page_trees.specs.declared.builder.TreeBuilder.{TreeBuilder}
use Rattle.page_trees.specs.declared.name.Name.{Name}
use Rattle.page_trees.specs.declared.stack.Open.{Open}
use Rattle.page_trees.proofs.BuiltStacks.{current_tells}
use Rattle.page_trees.proofs.HeadModes.{by_other, by_row, same_token}
use Rattle.page_trees.proofs.OpenNames.{nothing_below}
use Rattle.page_trees.proofs.RulesRun.{plainly}
use Rattle.page_trees.proofs.RulesTaken.{are_of_names, chosen, plain_tag, taken_tag}

-- ---- in frameset

in_frameset_known : are_of_names (rules InFrameset) ≡ true
unfolding rules html_rows rare_rows
in_frameset_known = refl

html_row : (b : Building) → chosen (plain_tag true Name.Html) b (rules InFrameset) ≡ goes (Use InBody) ∷ []
unfolding rules
html_row b = refl

frameset_row : (b : Building) → chosen (plain_tag true Name.Frameset) b (rules InFrameset) ≡ plainly (InsertElement ∷ []) Next.Done
unfolding rules
frameset_row b = refl

frame_row : (b : Building) → chosen (plain_tag true Name.Frame) b (rules InFrameset) ≡ plainly (InsertElement ∷ Pop ∷ []) Next.Done
unfolding rules
frame_row b = refl

noframes_row : (b : Building) → chosen (plain_tag true Name.Noframes) b (rules InFrameset) ≡ goes (Use InHead) ∷ []
unfolding rules
noframes_row b = refl

other_row : (b : Building) (name : Name) → (name ≡ Name.Html → ⊥) → (name ≡ Name.Frameset → ⊥) → (name ≡ Name.Frame → ⊥) → (name ≡ Name.Noframes → ⊥) →
    chosen (plain_tag true name) b (rules InFrameset) ≡ plainly [] Next.Done
unfolding rules
other_row b Name.Html h i j k = absurd (h refl)
other_row b Name.Frameset h i j k = absurd (i refl)
other_row b Name.Frame h i j k = absurd (j refl)
other_row b Name.Noframes h i j k = absurd (k refl)
other_row b _ h i j k = refl

abbrev end_acts : Bool → List Act
end_acts x = elim (x && true) [ true ↦ [] | false ↦ does Pop [] ∷ does (SwitchTo AfterFrameset) no_frameset_left ∷ [] ]

end_row : (b : Building) → chosen (plain_tag false Name.Frameset) b (rules InFrameset) ≡ end_acts (is_single b.tree.stack)
unfolding rules
end_row b = refl

other_end_row : (b : Building) (name : Name) → (name ≡ Name.Frameset → ⊥) → chosen (plain_tag false name) b (rules InFrameset) ≡ plainly [] Next.Done
unfolding rules
other_end_row b Name.Frameset h = absurd (h refl)
other_end_row b _ h = refl

pub html_in_frameset : (tag : Tag) (b : Building) (new : TreeBuilder) (next : Next) → IsCurrentTag Name.Html tag b → is_start_kind tag.kind ≡ true → Outcome InBody b new next →
    Outcome InFrameset b new next
html_in_frameset tag b new next c e o = by_other InFrameset InBody Name.Html tag b new true next c e in_frameset_known (html_row b) o

pub frameset_in_frameset : (tag : Tag) (b : Building) (new : TreeBuilder) → IsCurrentTag Name.Frameset tag b → is_start_kind tag.kind ≡ true →
    Constructs new (all_performed (InsertElement ∷ []) b) → Outcome InFrameset b new Next.Done
unfolding perform
frameset_in_frameset tag b new c e stands =
    by_row InFrameset Name.Frameset tag b new true (InsertElement ∷ []) Next.Done c e in_frameset_known (frameset_row b) (record { token = refl; attrs = refl }) stands

pub frame_in_frameset : (tag : Tag) (b : Building) (new : TreeBuilder) → IsCurrentTag Name.Frame tag b → is_start_kind tag.kind ≡ true →
    Constructs new (all_performed (InsertElement ∷ Pop ∷ []) b) → Outcome InFrameset b new Next.Done
unfolding perform
frame_in_frameset tag b new c e stands =
    by_row InFrameset Name.Frame tag b new true (InsertElement ∷ Pop ∷ []) Next.Done c e in_frameset_known (frame_row b) (record { token = refl; attrs = refl }) stands

pub noframes_in_frameset : (tag : Tag) (b : Building) (new : TreeBuilder) (next : Next) → IsCurrentTag Name.Noframes tag b → is_start_kind tag.kind ≡ true → Outcome InHead b new next →
    Outcome InFrameset b new next
noframes_in_frameset tag b new next c e o = by_other InFrameset InHead Name.Noframes tag b new true next c e in_frameset_known (noframes_row b) o

pub ignored_in_frameset : (name : Name) (tag : Tag) (b : Building) (new : TreeBuilder) → IsCurrentTag name tag b → is_start_kind tag.kind ≡ true → (name ≡ Name.Html → ⊥) →
    (name ≡ Name.Frameset → ⊥) → (name ≡ Name.Frame → ⊥) → (name ≡ Name.Noframes → ⊥) → Constructs new b → Outcome InFrameset b new Next.Done
ignored_in_frameset name tag b new c e h i j k stands = by_row InFrameset name tag b new true [] Next.Done c e in_frameset_known (other_row b name h i j k) (same_token b) stands

end_comes : (b : Building) (x : Bool) → taken b (rules InFrameset) ≡ end_acts x → ComesTo InFrameset b (elim x [ true ↦ b | false ↦ framesets_left (perform Pop b) ])
unfolding run
end_comes b true e = (suc zero, ap (λ acts. performed (run zero) acts b) e)
end_comes b false e = (suc zero, ap (λ acts. performed (run zero) acts b) e)

pub end_in_frameset : (tag : Tag) (b : Building) (new : TreeBuilder) → IsCurrentTag Name.Frameset tag b → is_start_kind tag.kind ≡ false → Constructs new (frameset_ended b) →
    Outcome InFrameset b new Next.Done
end_in_frameset tag b new c e stands = record {
  after = frameset_ended b;
  stands = stands;
  runs = end_comes b (is_single b.tree.stack) (taken_tag Name.Frameset tag b c false e (rules InFrameset) in_frameset_known ∙ end_row b);
}

pub end_ignored_in_frameset : (name : Name) (tag : Tag) (b : Building) (new : TreeBuilder) → IsCurrentTag name tag b → is_start_kind tag.kind ≡ false → (name ≡ Name.Frameset → ⊥) →
    Constructs new b → Outcome InFrameset b new Next.Done
end_ignored_in_frameset name tag b new c e h stands = by_row InFrameset name tag b new false [] Next.Done c e in_frameset_known (other_end_row b name h) (same_token b) stands

-- whether only one element is open
single_or : (ns : List ℕ) → (ns ≡ [] → ⊥) → (n : ℕ) → n ≡ length ns → (n ≤ 1 → is_single ns ≡ true) × (1 < n → is_single ns ≡ false)
single_or [] none n e = absurd (none refl)
single_or (k ∷ []) none n e = (λ le. refl, λ lt. absurd (omega (arith, lt, e)))
single_or (k ∷ m ∷ ns) none n e = (λ le. absurd (omega (arith, le, e)), λ lt. refl)

pub single_tells : (s : TreeState) (b : Building) → HasHtml b → Builds s b.tree → (n : ℕ) → n ≡ length s.stack →
    (n ≤ 1 → is_single b.tree.stack ≡ true) × (1 < n → is_single b.tree.stack ≡ false)
single_tells s b html built n e =
    single_or b.tree.stack (λ none. nothing_below s b.tree built none html) n
    (e ∙ sym (ap (λ (ns : List ℕ). length ns) built.stack.ids ∙ length-map (reverse s.stack) (λ (o : Open). o.id) ∙ length-reverse s.stack))

-- ---- after the framesets

after_frameset_known : are_of_names (rules AfterFrameset) ≡ true
unfolding rules html_rows rare_rows
after_frameset_known = refl

after_after_frameset_known : are_of_names (rules AfterAfterFrameset) ≡ true
unfolding rules html_rows rare_rows
after_after_frameset_known = refl

behind_known : (mode : StandardMode) → is_behind_framesets mode ≡ true → are_of_names (rules mode) ≡ true
behind_known AfterFrameset h = after_frameset_known
behind_known AfterAfterFrameset h = after_after_frameset_known
behind_known _ h = absurd (cc)

html_behind_row : (mode : StandardMode) (b : Building) → is_behind_framesets mode ≡ true → chosen (plain_tag true Name.Html) b (rules mode) ≡ goes (Use InBody) ∷ []
unfolding rules
html_behind_row AfterFrameset b h = refl
html_behind_row AfterAfterFrameset b h = refl
html_behind_row _ b h = absurd (cc)

noframes_behind_row : (mode : StandardMode) (b : Building) → is_behind_framesets mode ≡ true → chosen (plain_tag true Name.Noframes) b (rules mode) ≡ goes (Use InHead) ∷ []
unfolding rules
noframes_behind_row AfterFrameset b h = refl
noframes_behind_row AfterAfterFrameset b h = refl
noframes_behind_row _ b h = absurd (cc)

after_other_row : (b : Building) (name : Name) → (name ≡ Name.Html → ⊥) → (name ≡ Name.Noframes → ⊥) → chosen (plain_tag true name) b (rules AfterFrameset) ≡ plainly [] Next.Done
unfolding rules
after_other_row b Name.Html i j = absurd (i refl)
after_other_row b Name.Noframes i j = absurd (j refl)
after_other_row b _ i j = refl

after_after_other_row : (b : Building) (name : Name) → (name ≡ Name.Html → ⊥) → (name ≡ Name.Noframes → ⊥) →
    chosen (plain_tag true name) b (rules AfterAfterFrameset) ≡ plainly [] Next.Done
unfolding rules
after_after_other_row b Name.Html i j = absurd (i refl)
after_after_other_row b Name.Noframes i j = absurd (j refl)
after_after_other_row b _ i j = refl

other_behind_row : (mode : StandardMode) (b : Building) (name : Name) → is_behind_framesets mode ≡ true → (name ≡ Name.Html → ⊥) → (name ≡ Name.Noframes → ⊥) →
    chosen (plain_tag true name) b (rules mode) ≡ plainly [] Next.Done
other_behind_row AfterFrameset b name h i j = after_other_row b name i j
other_behind_row AfterAfterFrameset b name h i j = after_after_other_row b name i j
other_behind_row _ b name h i j = absurd (cc)

html_end_row : (b : Building) → chosen (plain_tag false Name.Html) b (rules AfterFrameset) ≡ plainly (SwitchTo AfterAfterFrameset ∷ []) Next.Done
unfolding rules
html_end_row b = refl

after_end_row : (b : Building) (name : Name) → (name ≡ Name.Html → ⊥) → chosen (plain_tag false name) b (rules AfterFrameset) ≡ plainly [] Next.Done
unfolding rules
after_end_row b Name.Html i = absurd (i refl)
after_end_row b _ i = refl

after_after_end_row : (b : Building) (name : Name) → chosen (plain_tag false name) b (rules AfterAfterFrameset) ≡ plainly [] Next.Done
unfolding rules
after_after_end_row b name = refl

pub html_behind : (mode : StandardMode) (tag : Tag) (b : Building) (new : TreeBuilder) (next : Next) → is_behind_framesets mode ≡ true → IsCurrentTag Name.Html tag b →
    is_start_kind tag.kind ≡ true → Outcome InBody b new next → Outcome mode b new next
html_behind mode tag b new next behind c e o = by_other mode InBody Name.Html tag b new true next c e (behind_known mode behind) (html_behind_row mode b behind) o

pub noframes_behind : (mode : StandardMode) (tag : Tag) (b : Building) (new : TreeBuilder) (next : Next) → is_behind_framesets mode ≡ true → IsCurrentTag Name.Noframes tag b →
    is_start_kind tag.kind ≡ true → Outcome InHead b new next → Outcome mode b new next
noframes_behind mode tag b new next behind c e o = by_other mode InHead Name.Noframes tag b new true next c e (behind_known mode behind) (noframes_behind_row mode b behind) o

pub ignored_behind : (mode : StandardMode) (name : Name) (tag : Tag) (b : Building) (new : TreeBuilder) → is_behind_framesets mode ≡ true → IsCurrentTag name tag b →
    is_start_kind tag.kind ≡ true → (name ≡ Name.Html → ⊥) → (name ≡ Name.Noframes → ⊥) → Constructs new b → Outcome mode b new Next.Done
ignored_behind mode name tag b new behind c e i j stands =
    by_row mode name tag b new true [] Next.Done c e (behind_known mode behind) (other_behind_row mode b name behind i j) (same_token b) stands

pub html_end_after : (tag : Tag) (b : Building) (new : TreeBuilder) → IsCurrentTag Name.Html tag b → is_start_kind tag.kind ≡ false →
    Constructs new (all_performed (SwitchTo AfterAfterFrameset ∷ []) b) → Outcome AfterFrameset b new Next.Done
unfolding perform
html_end_after tag b new c e stands =
    by_row AfterFrameset Name.Html tag b new false (SwitchTo AfterAfterFrameset ∷ []) Next.Done c e after_frameset_known (html_end_row b) (record { token = refl; attrs = refl }) stands

pub end_ignored_after : (name : Name) (tag : Tag) (b : Building) (new : TreeBuilder) → IsCurrentTag name tag b → is_start_kind tag.kind ≡ false → (name ≡ Name.Html → ⊥) →
    Constructs new b → Outcome AfterFrameset b new Next.Done
end_ignored_after name tag b new c e i stands = by_row AfterFrameset name tag b new false [] Next.Done c e after_frameset_known (after_end_row b name i) (same_token b) stands

pub end_ignored_behind_all : (name : Name) (tag : Tag) (b : Building) (new : TreeBuilder) → IsCurrentTag name tag b → is_start_kind tag.kind ≡ false → Constructs new b →
    Outcome AfterAfterFrameset b new Next.Done
end_ignored_behind_all name tag b new c e stands =
    by_row AfterAfterFrameset name tag b new false [] Next.Done c e after_after_frameset_known (after_after_end_row b name) (same_token b) stands

-- ---- the end tag of a frameset

pub kept_frameset : (s : TreeBuilder) (b : Building) → is_single b.tree.stack ≡ true → Constructs s b → Constructs s (frameset_ended b)
kept_frameset s b e stands = subst (λ x. Constructs s (elim x [ true ↦ b | false ↦ framesets_left (perform Pop b) ])) (sym e) stands

pub popped_frameset : (s : TreeBuilder) (b : Building) → is_single b.tree.stack ≡ false → Constructs s (framesets_left (perform Pop b)) → Constructs s (frameset_ended b)
popped_frameset s b e stands = subst (λ x. Constructs s (elim x [ true ↦ b | false ↦ framesets_left (perform Pop b) ])) (sym e) stands

-- the tests of the context element and of the current node
tests_are : (b : Building) (x y : Bool) → is_fragment b.tree ≡ x → is_one b.tree (codes "frameset" ∷ []) (current b.tree) ≡ y →
    list_all (is_met b) no_frameset_left ≡ (not x && (not y && true))
tests_are b x y e f = ap (λ z. not z && (not (is_one b.tree (codes "frameset" ∷ []) (current b.tree)) && true)) e ∙ ap (λ z. not x && (not z && true)) f

either : (x y : Bool) → y ≡ true → (not x && (not y && true)) ≡ false
either true y e = refl
either false true e = refl
either false false e = absurd (true≢false (sym e))

pub stays_fragment : (s : TreeBuilder) (b : Building) → is_fragment b.tree ≡ true → Constructs s b → Constructs s (framesets_left b)
stays_fragment s b e stands =
    subst (λ x. Constructs s (elim x [ true ↦ perform (SwitchTo AfterFrameset) b | false ↦ b ])) (sym (tests_are b true _ e refl)) stands

pub stays_frameset : (s : TreeBuilder) (b : Building) → is_one b.tree (codes "frameset" ∷ []) (current b.tree) ≡ true → Constructs s b → Constructs s (framesets_left b)
stays_frameset s b e stands =
    subst (λ x. Constructs s (elim x [ true ↦ perform (SwitchTo AfterFrameset) b | false ↦ b ])) (sym (tests_are b _ true refl e ∙ either (is_fragment b.tree) true refl)) stands

pub left_none : (old new : TreeBuilder) (b : Building) → is_fragment b.tree ≡ false → is_one b.tree (codes "frameset" ∷ []) (current b.tree) ≡ false →
    Constructs new (perform (SwitchTo AfterFrameset) b) → Constructs new (framesets_left b)
left_none old new b e f stands =
    subst (λ x. Constructs new (elim x [ true ↦ perform (SwitchTo AfterFrameset) b | false ↦ b ])) (sym (tests_are b false false e f)) stands

-- the test of the current node
pub open_current : (s : TreeState) (t : GrowingTree) (os : List Open) (name : Name) → is_name name Name.Other ≡ false → os ≡ s.stack → Builds s t → (r : Bool) →
    r ≡ option_map_or (has_name name) (slice_get os (length os - 1)) false → r ≡ is_one t (text_of name ∷ []) (current t)
open_current s t os name known e built r f =
    current_tells s s t name known refl built r (f ∙ ap (λ (xs : List Open). option_map_or (has_name name) (slice_get xs (length xs - 1)) false) e)
