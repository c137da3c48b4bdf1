-- Which rules are taken for a token that is no tag, and what comes of it.
use Rattle.std.proofs.Common.{◌≡◌, ℕ, Bool, true, false, ◌&&◌, not, List, [], ◌∷◌, refl, sym, ap, subst, ◌∙◌, true≢false, inl, inr}
use Rattle.std.specs.List.{list_all, list_any}
use Rattle.std.specs.Prelude.{Some, cond, unwrap_or}
use Rattle.std.proofs.lemmas.Bool.{cases_Bool}
use Rattle.standard_tokens.specs.Tokens.{AComment, ADoctype, Doctype as StandardDoctype, Token}
use Rattle.standard_trees.specs.Building.{Building, fits, is_empty, is_line_feed, is_met, perform, run, taken, tree_step, with_next}
use Rattle.standard_trees.specs.GrowingTree.{GrowingTree, adjusted_current, in_foreign, is_single, kind_of, top}
use Rattle.standard_trees.specs.RuleWords.{Action, AppendDoctype, BeforeHtml, Dispatcher, ForeignContent, InBody, InHead, InTable, InsertComment, InsertCommentInDocument}
use Rattle.standard_trees.specs.RuleWords.{InsertCommentInHtml, Mode as StandardMode, Rule, SetQuirksByDoctype, SwitchTo, Use, goes, rule}
use Rattle.standard_trees.specs.TreeRules.{rules}
use Rattle.standard_trees.specs.TreeStore.{DocumentNode, is_html, node_at, space_in}
use Rattle.page_trees.specs.Constructs.{Constructs, HaveOneToken, Outcome, all_performed}
use Rattle.page_trees.specs.Modes.{mode_of}
use Rattle.page_trees.specs.TokenSteps.{Processed, comment_place, is_initial, keeps_characters}
use Rattle.page_trees.specs.declared.builder.Mode.{Mode}
use Rattle.page_trees.specs.declared.builder.Next.{Next}
use Rattle.page_trees.specs.declared.builder.TreeBuilder.{TreeBuilder}
use Rattle.page_trees.specs.declared.modes.other_tokens.CommentPlace.{CommentPlace}
use Rattle.page_trees.proofs.Dispatching.{dispatched}
use Rattle.page_trees.proofs.RulesRun.{outcome, outcome_by, plainly}
use Rattle.page_trees.proofs.RulesTaken.{chosen}

-- ---- a step

step_is : (depth : ℕ) (b : Building) (token : Token) → is_line_feed token ≡ false → tree_step depth b token ≡ run depth Dispatcher (with_next token b)
unfolding tree_step
step_is depth b token plain = by b.skip (is_line_feed token) plain
  where
    by : (x y : Bool) → y ≡ false → elim (x && y) [ true ↦ Some (with_next token b) | false ↦ run depth Dispatcher (with_next token b) ] ≡ run depth Dispatcher (with_next token b)
    by true true e = absurd (true≢false e)
    by true false e = refl
    by false y e = refl

pub processed : (token : Token) (b : Building) (new : TreeBuilder) → is_line_feed token ≡ false → Outcome Dispatcher (with_next token b) new Next.Done → Processed token b new
processed token b new plain o = record { after = o.after; stands = o.stands; steps = (o.runs.0, step_is o.runs.0 b token plain ∙ o.runs.1) }

-- ---- the rule that is taken

pub taken_of : (t : Token) (b : Building) → b.token ≡ t → (rs : List Rule) → taken b rs ≡ chosen t b rs
unfolding taken
taken_of t b e [] = refl
taken_of t b e (rule patterns tests acts ∷ more) =
    ap (λ v. elim (list_any (λ pattern. fits pattern v) patterns) [
      | true ↦ elim (list_all (is_met b) tests) [ true ↦ acts | false ↦ taken b more ]
      | false ↦ taken b more
    ]) e
    ∙ ap (λ rest. elim (list_any (λ pattern. fits pattern t) patterns) [
      | true ↦ elim (list_all (is_met b) tests) [ true ↦ acts | false ↦ rest ]
      | false ↦ rest
    ]) (taken_of t b e more)

-- ---- foreign content

last_of_three : {A : Type 0} → (x y : Bool) (here other : A) → x ≡ false → y ≡ false →
    elim (x && true) [ true ↦ here | false ↦ elim (y && true) [ true ↦ here | false ↦ other ] ] ≡ other
last_of_three true y here other e f = absurd (true≢false e)
last_of_three false true here other e f = absurd (true≢false f)
last_of_three false false here other e f = refl

negated : (x : Bool) → not x ≡ true → x ≡ false
negated true e = absurd (true≢false (sym e))
negated false e = refl

pub no_foreign : (x : Bool) → not x ≡ false → x ≡ true
no_foreign true e = refl
no_foreign false e = absurd (true≢false e)

-- where nothing is open, the Document is the adjusted current node
some_open : (t : GrowingTree) → (node_at t.nodes 0).kind ≡ DocumentNode → in_foreign t ≡ true → is_empty t.stack ≡ false
some_open t root e = by t.stack refl
  where
    by : (s : List ℕ) → t.stack ≡ s → is_empty s ≡ false
    by (n ∷ ns) is = refl
    by [] is = absurd (true≢false (sym e
        ∙ ap (λ (s : List ℕ). not (is_html (space_in (cond (is_single s) (unwrap_or t.context (kind_of t (top s))) (kind_of t (top s)))))) is
        ∙ ap (λ kind. not (is_html (space_in kind))) root))

pub foreign_comment : (b : Building) (new : TreeBuilder) (cs : List ℕ) → b.token ≡ AComment cs → (node_at b.tree.nodes 0).kind ≡ DocumentNode → in_foreign b.tree ≡ true →
    Constructs new (all_performed (InsertComment ∷ []) b) → Outcome Dispatcher b new Next.Done
unfolding rules perform
foreign_comment b new cs token root e stands =
    outcome_by Dispatcher ForeignContent b new Next.Done
    (taken_of (AComment cs) b token (rules Dispatcher)
    ∙ last_of_three (is_empty b.tree.stack) (is_html (space_in (adjusted_current b.tree))) _ (goes (Use ForeignContent) ∷ []) (some_open b.tree root e) (negated _ e))
    (outcome ForeignContent b new (InsertComment ∷ []) Next.Done stands (record { token = refl; attrs = refl }) (taken_of (AComment cs) b token (rules ForeignContent)))

pub foreign_doctype : (b : Building) (new : TreeBuilder) (d : StandardDoctype) → b.token ≡ ADoctype d → (node_at b.tree.nodes 0).kind ≡ DocumentNode → in_foreign b.tree ≡ true →
    Constructs new b → Outcome Dispatcher b new Next.Done
unfolding rules
foreign_doctype b new d token root e stands =
    outcome_by Dispatcher ForeignContent b new Next.Done
    (taken_of (ADoctype d) b token (rules Dispatcher)
    ∙ last_of_three (is_empty b.tree.stack) (is_html (space_in (adjusted_current b.tree))) _ (goes (Use ForeignContent) ∷ []) (some_open b.tree root e) (negated _ e))
    (outcome ForeignContent b new [] Next.Done stands (record { token = refl; attrs = refl }) (taken_of (ADoctype d) b token (rules ForeignContent)))

-- ---- the rules for a mode

-- what comes of the token by those for the current mode comes of it
pub in_mode : (m : Mode) (b : Building) (new : TreeBuilder) (next : Next) → in_foreign b.tree ≡ false → b.mode ≡ mode_of m → Outcome (mode_of m) b new next → Outcome Dispatcher b new next
in_mode m b new next html mode o =
    dispatched b new next (no_foreign _ html) (subst (λ (x : StandardMode). Outcome x b new next) (sym mode) o)

abbrev pub comment_actions : CommentPlace → List Action
comment_actions CommentPlace.Here = InsertComment ∷ []
comment_actions CommentPlace.Html = InsertCommentInHtml ∷ []
comment_actions CommentPlace.Document = InsertCommentInDocument ∷ []
comment_actions CommentPlace.Nowhere = []

same_token : (place : CommentPlace) (b : Building) → HaveOneToken b (all_performed (comment_actions place) b)
unfolding perform
same_token CommentPlace.Here b = record { token = refl; attrs = refl }
same_token CommentPlace.Html b = record { token = refl; attrs = refl }
same_token CommentPlace.Document b = record { token = refl; attrs = refl }
same_token CommentPlace.Nowhere b = record { token = refl; attrs = refl }

-- the rules for the mode put the comment there
put_by : (mode : StandardMode) (place : CommentPlace) (b : Building) (new : TreeBuilder) (cs : List ℕ) → b.token ≡ AComment cs →
    chosen (AComment cs) b (rules mode) ≡ plainly (comment_actions place) Next.Done → Constructs new (all_performed (comment_actions place) b) → Outcome mode b new Next.Done
put_by mode place b new cs token e stands =
    outcome mode b new (comment_actions place) Next.Done stands (same_token place b) (taken_of (AComment cs) b token (rules mode) ∙ e)

-- the rules for the mode use those for another one
put_in : (mode other : StandardMode) (b : Building) (new : TreeBuilder) (cs : List ℕ) → b.token ≡ AComment cs → chosen (AComment cs) b (rules mode) ≡ goes (Use other) ∷ [] →
    chosen (AComment cs) b (rules other) ≡ plainly (InsertComment ∷ []) Next.Done → Constructs new (all_performed (InsertComment ∷ []) b) → Outcome mode b new Next.Done
put_in mode other b new cs token e f stands =
    outcome_by mode other b new Next.Done (taken_of (AComment cs) b token (rules mode) ∙ e) (put_by other CommentPlace.Here b new cs token f stands)

commented : (m : Mode) (b : Building) (new : TreeBuilder) (cs : List ℕ) → keeps_characters m ≡ false → b.token ≡ AComment cs →
    Constructs new (all_performed (comment_actions (comment_place m)) b) → Outcome (mode_of m) b new Next.Done
unfolding rules
commented Mode.InTableText b new cs early token stands = absurd (true≢false early)
commented Mode.InHeadNoscript b new cs early token stands = put_in (mode_of Mode.InHeadNoscript) InHead b new cs token refl refl stands
commented Mode.InCaption b new cs early token stands = put_in (mode_of Mode.InCaption) InBody b new cs token refl refl stands
commented Mode.InCell b new cs early token stands = put_in (mode_of Mode.InCell) InBody b new cs token refl refl stands
commented Mode.InTemplate b new cs early token stands = put_in (mode_of Mode.InTemplate) InBody b new cs token refl refl stands
commented Mode.InTableBody b new cs early token stands = put_in (mode_of Mode.InTableBody) InTable b new cs token refl refl stands
commented Mode.InRow b new cs early token stands = put_in (mode_of Mode.InRow) InTable b new cs token refl refl stands
commented Mode.Initial b new cs early token stands = put_by (mode_of Mode.Initial) CommentPlace.Document b new cs token refl stands
commented Mode.BeforeHtml b new cs early token stands = put_by (mode_of Mode.BeforeHtml) CommentPlace.Document b new cs token refl stands
commented Mode.AfterAfterBody b new cs early token stands = put_by (mode_of Mode.AfterAfterBody) CommentPlace.Document b new cs token refl stands
commented Mode.AfterAfterFrameset b new cs early token stands = put_by (mode_of Mode.AfterAfterFrameset) CommentPlace.Document b new cs token refl stands
commented Mode.AfterBody b new cs early token stands = put_by (mode_of Mode.AfterBody) CommentPlace.Html b new cs token refl stands
commented Mode.Text b new cs early token stands = put_by (mode_of Mode.Text) CommentPlace.Nowhere b new cs token refl stands
commented Mode.BeforeHead b new cs early token stands = put_by (mode_of Mode.BeforeHead) CommentPlace.Here b new cs token refl stands
commented Mode.InHead b new cs early token stands = put_by (mode_of Mode.InHead) CommentPlace.Here b new cs token refl stands
commented Mode.AfterHead b new cs early token stands = put_by (mode_of Mode.AfterHead) CommentPlace.Here b new cs token refl stands
commented Mode.InBody b new cs early token stands = put_by (mode_of Mode.InBody) CommentPlace.Here b new cs token refl stands
commented Mode.InTable b new cs early token stands = put_by (mode_of Mode.InTable) CommentPlace.Here b new cs token refl stands
commented Mode.InColumnGroup b new cs early token stands = put_by (mode_of Mode.InColumnGroup) CommentPlace.Here b new cs token refl stands
commented Mode.InFrameset b new cs early token stands = put_by (mode_of Mode.InFrameset) CommentPlace.Here b new cs token refl stands
commented Mode.AfterFrameset b new cs early token stands = put_by (mode_of Mode.AfterFrameset) CommentPlace.Here b new cs token refl stands

pub comment_taken : (m : Mode) (place : CommentPlace) (b : Building) (new : TreeBuilder) (cs : List ℕ) → keeps_characters m ≡ false → comment_place m ≡ place → in_foreign b.tree ≡ false →
    b.mode ≡ mode_of m → b.token ≡ AComment cs → Constructs new (all_performed (comment_actions place) b) → Outcome Dispatcher b new Next.Done
comment_taken m place b new cs early here html mode token stands =
    in_mode m b new Next.Done html mode
    (commented m b new cs early token (subst (λ (p : CommentPlace). Constructs new (all_performed (comment_actions p) b)) (sym here) stands))

pub html_mode : (m : Mode) → comment_place m ≡ CommentPlace.Html → m ≡ Mode.AfterBody
html_mode Mode.AfterBody e = refl
html_mode _ e = absurd (cc)

-- ---- doctypes

left_by : (mode : StandardMode) (b : Building) (new : TreeBuilder) (d : StandardDoctype) → b.token ≡ ADoctype d → chosen (ADoctype d) b (rules mode) ≡ [] → Constructs new b →
    Outcome mode b new Next.Done
left_by mode b new d token e stands =
    outcome mode b new [] Next.Done stands (record { token = refl; attrs = refl }) (taken_of (ADoctype d) b token (rules mode) ∙ e)

left_in : (mode other : StandardMode) (b : Building) (new : TreeBuilder) (d : StandardDoctype) → b.token ≡ ADoctype d → chosen (ADoctype d) b (rules mode) ≡ goes (Use other) ∷ [] →
    chosen (ADoctype d) b (rules other) ≡ [] → Constructs new b → Outcome mode b new Next.Done
left_in mode other b new d token e f stands =
    outcome_by mode other b new Next.Done (taken_of (ADoctype d) b token (rules mode) ∙ e) (left_by other b new d token f stands)

-- a doctype after the beginning is ignored
ignored : (m : Mode) (b : Building) (new : TreeBuilder) (d : StandardDoctype) → keeps_characters m ≡ false → is_initial m ≡ false → b.token ≡ ADoctype d → Constructs new b →
    Outcome (mode_of m) b new Next.Done
unfolding rules
ignored Mode.InTableText b new d early late token stands = absurd (true≢false early)
ignored Mode.Initial b new d early late token stands = absurd (true≢false late)
ignored Mode.InCaption b new d early late token stands = left_in (mode_of Mode.InCaption) InBody b new d token refl refl stands
ignored Mode.InCell b new d early late token stands = left_in (mode_of Mode.InCell) InBody b new d token refl refl stands
ignored Mode.InTemplate b new d early late token stands = left_in (mode_of Mode.InTemplate) InBody b new d token refl refl stands
ignored Mode.AfterAfterBody b new d early late token stands = left_in (mode_of Mode.AfterAfterBody) InBody b new d token refl refl stands
ignored Mode.AfterAfterFrameset b new d early late token stands = left_in (mode_of Mode.AfterAfterFrameset) InBody b new d token refl refl stands
ignored Mode.InTableBody b new d early late token stands = left_in (mode_of Mode.InTableBody) InTable b new d token refl refl stands
ignored Mode.InRow b new d early late token stands = left_in (mode_of Mode.InRow) InTable b new d token refl refl stands
ignored Mode.BeforeHtml b new d early late token stands = left_by (mode_of Mode.BeforeHtml) b new d token refl stands
ignored Mode.BeforeHead b new d early late token stands = left_by (mode_of Mode.BeforeHead) b new d token refl stands
ignored Mode.InHead b new d early late token stands = left_by (mode_of Mode.InHead) b new d token refl stands
ignored Mode.InHeadNoscript b new d early late token stands = left_by (mode_of Mode.InHeadNoscript) b new d token refl stands
ignored Mode.AfterHead b new d early late token stands = left_by (mode_of Mode.AfterHead) b new d token refl stands
ignored Mode.InBody b new d early late token stands = left_by (mode_of Mode.InBody) b new d token refl stands
ignored Mode.Text b new d early late token stands = left_by (mode_of Mode.Text) b new d token refl stands
ignored Mode.InTable b new d early late token stands = left_by (mode_of Mode.InTable) b new d token refl stands
ignored Mode.InColumnGroup b new d early late token stands = left_by (mode_of Mode.InColumnGroup) b new d token refl stands
ignored Mode.AfterBody b new d early late token stands = left_by (mode_of Mode.AfterBody) b new d token refl stands
ignored Mode.InFrameset b new d early late token stands = left_by (mode_of Mode.InFrameset) b new d token refl stands
ignored Mode.AfterFrameset b new d early late token stands = left_by (mode_of Mode.AfterFrameset) b new d token refl stands

pub doctype_ignored : (m : Mode) (b : Building) (new : TreeBuilder) (d : StandardDoctype) → keeps_characters m ≡ false → is_initial m ≡ false → b.mode ≡ mode_of m →
    (node_at b.tree.nodes 0).kind ≡ DocumentNode → b.token ≡ ADoctype d → Constructs new b → Outcome Dispatcher b new Next.Done
doctype_ignored m b new d early late mode root token stands = elim (cases_Bool (in_foreign b.tree)) [
  | inl foreign ↦ foreign_doctype b new d token root foreign stands
  | inr html ↦ in_mode m b new Next.Done html mode (ignored m b new d early late token stands)
]

pub initial_is : (m : Mode) → is_initial m ≡ true → m ≡ Mode.Initial
initial_is Mode.Initial e = refl
initial_is _ e = absurd (cc)

pub doctype_first : (b : Building) (new : TreeBuilder) (d : StandardDoctype) → in_foreign b.tree ≡ false → b.mode ≡ mode_of Mode.Initial → b.token ≡ ADoctype d →
    Constructs new (all_performed (AppendDoctype ∷ SetQuirksByDoctype ∷ SwitchTo BeforeHtml ∷ []) b) → Outcome Dispatcher b new Next.Done
unfolding rules perform
doctype_first b new d html mode token stands =
    in_mode Mode.Initial b new Next.Done html mode
    (outcome (mode_of Mode.Initial) b new (AppendDoctype ∷ SetQuirksByDoctype ∷ SwitchTo BeforeHtml ∷ []) Next.Done stands (record { token = refl; attrs = refl })
    (taken_of (ADoctype d) b token (rules (mode_of Mode.Initial))))
