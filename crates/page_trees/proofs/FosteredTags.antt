-- What comes of a tag that "in table" processes by the rules for "in body", with foster parenting.
use Rattle.std.proofs.Common.{◌≡◌, ℕ, zero, suc, Bool, true, false, ◌&&◌, ◌||◌, List, [], ◌∷◌, refl, reverse, sym, ap, subst, ◌∙◌, Some, true≢false, inl, inr}
use Rattle.std.specs.List.{list_all}
use Rattle.std.proofs.lemmas.Bool.{cases_Bool}
use Rattle.std.specs.Option.{option_and_then}
use Rattle.std.specs.Prelude.{Option}
use Rattle.standard_tokens.specs.Entries.{Ending, Starting, TagKind as StandardKind}
use Rattle.standard_tokens.specs.Machine.{Tag as StandardTag, distinct, token_of}
use Rattle.standard_tokens.specs.Tokens.{AStart, AnEnd, Token as StandardToken}
use Rattle.standard_trees.specs.Building.{Building, is_met, perform, performed, run, taken}
use Rattle.standard_trees.specs.RuleWords.{Act, FosterOff, FosterOn, InBody, InHead, InTable, Mode as StandardMode, Use, does, goes}
use Rattle.standard_trees.specs.TreeRules.{rules}
use Rattle.page_tokens.specs.Standard.{kind_of}
use Rattle.page_tokens.specs.declared.token.Tag.{Tag}
use Rattle.page_tokens.specs.declared.token.TagKind.{TagKind}
use Rattle.page_trees.specs.BodyTags.{ProcessesInBody, acted, covers_body, covers_end, covers_in_body, covers_start, ends_in, starts_in, suits_body}
use Rattle.page_trees.specs.Constructs.{Constructs, IsCurrentTag, Outcome, TakesTurn}
use Rattle.page_trees.specs.CharacterSteps.{goes_to_mode}
use Rattle.page_trees.specs.FosteredTags.{FostersTag, acts_alone, acts_in_body, comes_to_table, ends_there, fosters_tag, is_action, is_fostering, is_image, is_image_start, is_table_mode, names_image, suits_in_body, uses_head}
use Rattle.page_trees.specs.Groups.{group_named}
use Rattle.page_trees.specs.Names.{name_of}
use Rattle.page_trees.specs.TableTexts.{with_fostering}
use Rattle.standard_order.specs.Turns.{run_while}
use Rattle.page_trees.specs.declared.builder.Next.{Next}
use Rattle.page_trees.specs.declared.builder.TreeBuilder.{TreeBuilder}
use Rattle.page_trees.specs.declared.name.Name.{Name}
use Rattle.page_trees.proofs.NamesAgree.{both}
use Rattle.page_trees.proofs.TableTexts.{fostering_limits, fostering_set}
use Rattle.page_trees.proofs.TurnsPassed.{turn_passes}

-- ---- the rules that are taken

abbrev pub fostering_acts : List Act
fostering_acts = does FosterOn [] ∷ goes (Use InBody) ∷ does FosterOff [] ∷ []

pub fostering_is : (acts : List Act) → is_fostering acts ≡ true → acts ≡ fostering_acts
fostering_is (does FosterOn [] ∷ goes (Use InBody) ∷ does FosterOff [] ∷ []) e = refl
fostering_is _ e = absurd (true≢false (sym e))

-- actions alone come to something
acts_come : (again : StandardMode → Building → Option Building) (acts : List Act) (b : Building) → list_all is_action acts ≡ true → performed again acts b ≡ Some (acted acts b)
acts_come again [] b e = refl
acts_come again (does action tests ∷ acts) b e = acts_come again acts (elim (list_all (is_met b) tests) [ true ↦ perform action b | false ↦ b ]) e
acts_come again (goes way ∷ acts) b e = absurd (true≢false (sym e))

-- a test that no turn passes
abbrev never : Building → Bool
never b = false

head_used : (acts : List Act) → uses_head acts ≡ true → acts ≡ goes (Use InHead) ∷ []
head_used (goes (Use InHead) ∷ []) e = refl
head_used _ e = absurd (true≢false (sym e))

-- without another turn, the rules come to something
body_alone : (b : Building) → acts_alone (taken b (rules InBody)) ≡ true → (depth : ℕ) × (c : Building) × (run_while never (suc depth) InBody b ≡ Some c)
unfolding run_while
body_alone b e = (zero, acted (taken b (rules InBody)) b, acts_come (run_while never zero) (taken b (rules InBody)) b e)

head_alone : (b : Building) → uses_head (taken b (rules InBody)) ≡ true → acts_alone (taken b (rules InHead)) ≡ true →
    (depth : ℕ) × (c : Building) × (run_while never (suc depth) InBody b ≡ Some c)
unfolding run_while
head_alone b e f = (
  suc zero,
  acted (taken b (rules InHead)) b,
  ap (λ acts. performed (run_while never (suc zero)) acts b) (head_used (taken b (rules InBody)) e)
      ∙ ap (option_and_then (λ x. Some x)) (acts_come (run_while never zero) (taken b (rules InHead)) b f),
)

comes_alone : (b : Building) → ends_there b ≡ true → (depth : ℕ) × (c : Building) × (run_while never (suc depth) InBody b ≡ Some c)
comes_alone b e = elim (cases_Bool (acts_alone (taken b (rules InBody)))) [
  | inl alone ↦ body_alone b alone
  | inr other ↦ (let two = both (uses_head (taken b (rules InBody))) (acts_alone (taken b (rules InHead)))
      (sym (ap (λ (x : Bool). x || (uses_head (taken b (rules InBody)) && acts_alone (taken b (rules InHead)))) other) ∙ e) in
      head_alone b two.0 two.1)
]

-- so the token is not reprocessed
never_again : (b after : Building) → ends_there b ≡ true → TakesTurn InBody b after → ⊥
never_again b after e turn =
    let alone = comes_alone b e in
    true≢false (sym (turn_passes never alone.0 after alone.1 (turn never alone.0 alone.1 alone.2)))

done_there : (b : Building) (new : TreeBuilder) (next : Next) → ends_there b ≡ true → Outcome InBody b new next → next ≡ Next.Done
done_there b new Next.Done e o = refl
done_there b new Next.Again e o = absurd (never_again b o.after e o.runs.2)

-- ---- foster parenting

fostered_done : (b : Building) (mid new : TreeBuilder) → taken b (rules InTable) ≡ fostering_acts → (o : Outcome InBody (with_fostering true b) mid Next.Done) →
    Constructs new (with_fostering false o.after) → Outcome InTable b new Next.Done
unfolding run perform
fostered_done b mid new e o stands = record {
  after = with_fostering false o.after;
  stands = stands;
  runs = (
    suc o.runs.0,
    ap (λ acts. performed (run o.runs.0) acts b) e
        ∙ ap (option_and_then (performed (run o.runs.0) (does FosterOff [] ∷ []))) o.runs.1,
  );
}

-- the token of a tag of that kind
abbrev token_by : StandardKind → StandardTag → StandardToken
token_by k standard = elim k [ Starting ↦ AStart standard.name (distinct (reverse standard.attrs)) standard.self_closing | Ending ↦ AnEnd standard.name ]

covered_is : (kind : TagKind) (standard : StandardTag) (name : Name) → kind_of kind ≡ standard.kind → name ≡ name_of standard.name → covers_in_body (token_of standard) ≡ covers_body kind name
covered_is TagKind.Start standard name e f =
    ap (λ (k : StandardKind). covers_in_body (token_by k standard)) (sym e) ∙ ap (λ (n : Name). covers_start (group_named n)) (sym f)
covered_is TagKind.End standard name e f = ap (λ (k : StandardKind). covers_in_body (token_by k standard)) (sym e) ∙ ap covers_end (sym f)

suited_is : (kind : TagKind) (standard : StandardTag) (name : Name) (b : Building) → kind_of kind ≡ standard.kind → name ≡ name_of standard.name →
    suits_in_body (token_of standard) b ≡ suits_body kind name b
suited_is TagKind.Start standard name b e f =
    ap (λ (k : StandardKind). suits_in_body (token_by k standard) b) (sym e) ∙ ap (λ (n : Name). starts_in (group_named n) b) (sym f)
suited_is TagKind.End standard name b e f =
    ap (λ (k : StandardKind). suits_in_body (token_by k standard) b) (sym e) ∙ ap (λ (n : Name). ends_in (group_named n) b) (sym f)

-- what the test of the state says
record IsFostered (name : Name) (tag : Tag) (b : Building) : Type 0 where
  pub acts : taken b (rules InTable) ≡ fostering_acts
  pub alone : ends_there (with_fostering true b) ≡ true
  pub covered : covers_body tag.kind name ≡ true
  pub suits : suits_body tag.kind name (with_fostering true b) ≡ true

and_true : (x : Bool) → (x && true) ≡ x
and_true true = refl
and_true false = refl

and_false : (x : Bool) → (x && false) ≡ false
and_false true = refl
and_false false = refl

-- whether it is the start tag `image`
image_is : (kind : TagKind) (standard : StandardTag) (name : Name) → kind_of kind ≡ standard.kind → name ≡ name_of standard.name → is_image (token_of standard) ≡ is_image_start name kind
image_is TagKind.Start standard name e f =
    ap (λ (k : StandardKind). is_image (token_by k standard)) (sym e) ∙ ap (λ (n : Name). names_image n) (sym f) ∙ sym (and_true (names_image name))
image_is TagKind.End standard name e f = ap (λ (k : StandardKind). is_image (token_by k standard)) (sym e) ∙ sym (and_false (names_image name))

left_of : (x y : Bool) → y ≡ false → (x || y) ≡ true → x ≡ true
left_of true y e h = refl
left_of false y e h = absurd (true≢false (sym h ∙ e))

fostered_by : (name : Name) (tag : Tag) (b : Building) → is_image_start name tag.kind ≡ false → IsCurrentTag name tag b → fosters_tag b ≡ true → IsFostered name tag b
fostered_by name tag b other current e =
    let on : Building = with_fostering true b in
    let two = both (is_fostering (taken b (rules InTable))) (acts_in_body on || comes_to_table b) e in
    let no_image : comes_to_table b ≡ false = ap (λ (x : Bool). x && (is_table_mode b.mode && goes_to_mode b.tree))
    (ap is_image current.token ∙ image_is tag.kind current.standard name current.is.kind current.named ∙ other) in
    let three = both (ends_there on) (covers_in_body on.token && suits_in_body on.token on) (left_of (acts_in_body on) (comes_to_table b) no_image two.1) in
    let four = both (covers_in_body on.token) (suits_in_body on.token on) three.1 in
    record {
      acts = fostering_is (taken b (rules InTable)) two.0;
      alone = three.0;
      covered = sym (ap covers_in_body current.token ∙ covered_is tag.kind current.standard name current.is.kind current.named) ∙ four.0;
      suits = sym (ap (λ (t : StandardToken). suits_in_body t on) current.token ∙ suited_is tag.kind current.standard name on current.is.kind current.named) ∙ four.1;
    }

pub tag_fostered : (name : Name) (tag : Tag) (old first mid new : TreeBuilder) (next : Next) → first ≡ record old { placing = record old.placing { foster = true } } →
    new ≡ record mid { placing = record mid.placing { foster = false } } → is_image_start name tag.kind ≡ false → ProcessesInBody name tag first mid next →
    FostersTag name tag old new next
tag_fostered name tag old first mid new next e f other by within b current html fosters stands =
    let is = fostered_by name tag b other current fosters in
    let on : Building = with_fostering true b in
    let here : IsCurrentTag name tag on = record {
      standard = current.standard;
      is = current.is;
      written = current.written;
      plain = current.plain;
      named = current.named;
      token = current.token;
      attrs = current.attrs;
    } in
    let o = by is.covered (fostering_limits mid new false f within) on here html (fostering_set old first true e b stands) is.suits in
    let done = done_there on mid next is.alone o in
    let last = subst (λ (n : Next). Outcome InBody on mid n) done o in
    subst (λ (n : Next). Outcome InTable b new n) (sym done) (fostered_done b mid new is.acts last (fostering_set mid new false f last.after last.stands))
