-- The rules of a mode, and a whole step.
use Rattle.std.specs.Prelude.{◌≡◌, refl, ℕ, zero, suc, Bool, true, false, cond, not, ◌&&◌, ◌||◌, ◌==◌, List, [], ◌∷◌, ◌++◌, Option, None, Some, bytes_eq, codes, unwrap_or}
use Rattle.std.specs.List.{flat_map, list_all, list_any}
use Rattle.std.specs.Option.{option_and_then}
use Rattle.std.proofs.lemmas.Bool.{eqb-true, true≢false}
use Rattle.std.proofs.lemmas.Option.{same_Some}
use Rattle.std.proofs.lemmas.Slice.Eq.{bytes_eq-Decides}
use mathlib.Core.Path.{◌∙◌, sym, ap, subst}
use Rattle.standard_tokens.specs.Tokens.{Token, AChar, AComment, ADoctype, AStart, AnEnd, AnEof}
use Rattle.standard_rules.specs.Building.{Building, Open, Taken, act, all_acts, at_top, done as old_done, fits as old_fits, goes_on, holds as old_holds, is_space, run as old_run, taken as old_taken, top_is, with_text_char}
use Rattle.standard_rules.specs.PlainTrees.{classes, names_of}
use Rattle.standard_rules.specs.RuleWords as O
use Rattle.standard_rules.specs.TreeRules.{groups, rules as old_rules}
use Rattle.standard_rules.specs.TreeTokens.{is_among}
use Rattle.standard_trees.specs.Building.{Building as WholeBuilding, fits, is_empty as nothing_open, is_met, perform, performed, run, taken, with_tree}
use Rattle.standard_trees.specs.GrowingTree.{adjusted_current, current, is_one, is_single, kind_of, top, with_chars}
use Rattle.standard_trees.specs.RuleWords as N
use Rattle.standard_trees.specs.TreeRules.{rules}
use Rattle.standard_trees.specs.TreeStore.{Kind, is_html, space_in}
use Rattle.standard_agreement.proofs.Names.{for_each, known}
use Rattle.standard_agreement.proofs.Stack.{kind_now}
use Rattle.standard_agreement.proofs.Parts.{Parts}
use Rattle.standard_agreement.proofs.Acting.{ContextIs, Stands, top_test}
use Rattle.standard_agreement.proofs.Acts.{Done, char_act}
use Rattle.standard_agreement.proofs.Choosing.{agree_in, agrees, end_agrees, ignored_in, is_always, is_empty, is_ignored, is_later, is_stay, like, others_agree, start_agrees, start_names, to_mode}
use Rattle.standard_agreement.proofs.Computed.{all_ends, all_others, all_starts, html_ends}
use Rattle.standard_agreement.proofs.Deciding.{Agreed, IsPage, agreed, alike_acts, both, is_doctype, old_fits_like, outside}
use Rattle.standard_agreement.proofs.Following.{Calls, CommentsAlone, Ignores, LeavesAlone, Outcome, ReadsAlone, Run, allowed, follows_sound, inserts_comment, is_comment, is_start, is_table_mode, lagging, nothing_left}
use Rattle.standard_agreement.proofs.Resetting.{resets_well}

-- ---- what is so of each rule

abbrev is_comment_pattern : O.Pattern → Bool
is_comment_pattern O.Comment = true
is_comment_pattern _ = false

abbrev is_start_pattern : O.Pattern → Bool
is_start_pattern (O.StartOf names) = true
is_start_pattern _ = false

abbrev is_end_pattern : O.Pattern → Bool
is_end_pattern O.AnyEnd = true
is_end_pattern _ = false

abbrev is_text_mode : O.Mode → Bool
is_text_mode O.Text = true
is_text_mode _ = false

abbrev used_fine : O.Mode → O.Mode → Bool
used_fine mode O.InHead = true
used_fine mode O.InBody = true
used_fine O.InTableBody O.InTable = true
used_fine O.InRow O.InTable = true
used_fine _ _ = false

abbrev next_fine : O.Mode → O.Pattern → O.Next → Bool
next_fine mode pattern O.ReadText = is_start_pattern pattern
next_fine mode pattern O.SwitchBack = is_text_mode mode && is_end_pattern pattern
next_fine mode pattern (O.UseRulesFor used) = used_fine mode used
next_fine mode pattern _ = true

abbrev rule_fine : O.Mode → O.Rule → Bool
rule_fine mode (O.rule pattern condition acts next) = (not (list_any inserts_comment acts) || is_comment_pattern pattern) && next_fine mode pattern next

all_fine : (mode : O.Mode) → list_all (rule_fine mode) (old_rules mode) ≡ true
unfolding old_rules
all_fine O.Initial = refl
all_fine _ = refl

used_is : (mode used now : O.Mode) → used_fine mode used ≡ true → allowed mode now ≡ true → allowed used now ≡ true
used_is mode O.InHead now h k = refl
used_is mode O.InBody now h k = refl
used_is O.InTableBody O.InTable O.InTableBody h k = refl
used_is O.InTableBody O.InTable _ h k = cc
used_is O.InRow O.InTable O.InRow h k = refl
used_is O.InRow O.InTable _ h k = cc
used_is _ _ now h k = cc

fits_comment : (pattern : O.Pattern) (t : Token) → is_comment_pattern pattern ≡ true → old_fits pattern t ≡ true → is_comment t ≡ true
fits_comment O.Comment (AComment text) h k = refl
fits_comment O.Comment _ h k = cc
fits_comment _ t h k = cc

fits_start : (pattern : O.Pattern) (t : Token) → is_start_pattern pattern ≡ true → old_fits pattern t ≡ true → is_start t ≡ true
fits_start (O.StartOf names) (AStart name attrs closing) h k = refl
fits_start (O.StartOf names) _ h k = cc
fits_start _ t h k = cc

fits_end : (pattern : O.Pattern) (t : Token) → is_end_pattern pattern ≡ true → old_fits pattern t ≡ true → is_start t ≡ false
fits_end O.AnyEnd (AnEnd name) h k = refl
fits_end O.AnyEnd _ h k = cc
fits_end _ t h k = cc

text_mode : (mode now : O.Mode) → is_text_mode mode ≡ true → allowed mode now ≡ true → now ≡ O.Text
text_mode O.Text O.Text h k = refl
text_mode O.Text _ h k = cc
text_mode _ now h k = cc

record Fine (t : Token) (now : O.Mode) (one : Taken) : Type 0 where
  comments : CommentsAlone one.acts t
  reads : ReadsAlone one.goes t
  ends_tag : one.goes ≡ O.SwitchBack → is_start t ≡ false
  leaves : LeavesAlone one.goes now
  uses : (used : O.Mode) → one.goes ≡ O.UseRulesFor used → allowed used now ≡ true

rule_is_fine : (mode now : O.Mode) → allowed mode now ≡ true → (t : Token) (pattern : O.Pattern) (condition : O.Condition) (acts : List O.Action) (next : O.Next) → old_fits pattern t ≡ true →
    rule_fine mode (O.rule pattern condition acts next) ≡ true → Fine t now (record { acts = acts; goes = next })
rule_is_fine mode now ok t pattern condition acts next fit h =
    let parts = both (not (list_any inserts_comment acts) || is_comment_pattern pattern) (next_fine mode pattern next) h in
    record {
      comments = of_comments (list_any inserts_comment acts) (is_comment_pattern pattern) refl parts.0;
      reads = λ e. fits_start pattern t (sym (ap (next_fine mode pattern) e) ∙ parts.1) fit;
      ends_tag = λ e. fits_end pattern t (both (is_text_mode mode) (is_end_pattern pattern) (sym (ap (next_fine mode pattern) e) ∙ parts.1)).1 fit;
      leaves = λ e. text_mode mode now (both (is_text_mode mode) (is_end_pattern pattern) (sym (ap (next_fine mode pattern) e) ∙ parts.1)).0 ok;
      uses = λ used e. used_is mode used now (sym (ap (next_fine mode pattern) e) ∙ parts.1) ok;
    }
  where
    of_comments : (x y : Bool) → is_comment_pattern pattern ≡ y → not x || y ≡ true → not x || is_comment t ≡ true
    of_comments false y e k = refl
    of_comments true true e k = fits_comment pattern t e fit
    of_comments true false e k = cc

taken_fine : (mode now : O.Mode) → allowed mode now ≡ true → (t : Token) (b : Building) (rs : List O.Rule) → list_all (rule_fine mode) rs ≡ true → Fine t now (old_taken t b rs)
unfolding old_taken
taken_fine mode now ok t b [] h = record { comments = refl; reads = λ e. cc; ends_tag = λ e. cc; leaves = λ e. cc; uses = λ used e. cc }
taken_fine mode now ok t b (O.rule pattern condition acts next ∷ rs) h =
    by_fits (old_fits pattern t) refl (old_holds condition t b) (both (rule_fine mode (O.rule pattern condition acts next)) (list_all (rule_fine mode) rs) h).0
    (taken_fine mode now ok t b rs (both (rule_fine mode (O.rule pattern condition acts next)) (list_all (rule_fine mode) rs) h).1)
  where
    by_fits : (x : Bool) → old_fits pattern t ≡ x → (y : Bool) → rule_fine mode (O.rule pattern condition acts next) ≡ true → Fine t now (old_taken t b rs) →
        Fine t now (elim x [ true ↦ elim y [ true ↦ record { acts = acts; goes = next } | false ↦ old_taken t b rs ] | false ↦ old_taken t b rs ])
    by_fits true e true k later = rule_is_fine mode now ok t pattern condition acts next e k
    by_fits true e false k later = later
    by_fits false e y k later = later

-- white space in a table is put off
abbrev pub is_put_off : O.Mode → Token → Bool
is_put_off O.InTable (AChar c) = true
is_put_off _ _ = false

-- ---- tokens of plain trees

abbrev pub end_names : Bool → List (List ℕ)
end_names page = cond page known (flat_map names_of classes)

abbrev pub IsPlainToken : Bool → Token → Type 0
IsPlainToken page (AStart name attrs closing) = is_among name start_names ≡ true
IsPlainToken page (AnEnd name) = is_among name (end_names page) ≡ true
IsPlainToken page (ADoctype doctype) = ⊥
IsPlainToken page _ = Unit {0}

not_doctype : (page : Bool) (t : Token) → IsPlainToken page t → is_doctype t ≡ false
not_doctype page (AStart name attrs closing) h = refl
not_doctype page (AnEnd name) h = refl
not_doctype page (AChar c) h = refl
not_doctype page (AComment text) h = refl
not_doctype page (ADoctype doctype) h = absurd h
not_doctype page AnEof h = refl

abbrev Agreeing : Option Kind → O.Mode → Token → Type 0
Agreeing around mode t = (page : Bool) × IsPage page around × (agrees page (like t) None (rules (to_mode mode)) (old_rules mode) ≡ true)

no_page : (around : Option Kind) → IsPage false around
no_page around e = cc

end_agreeing : (around : Option Kind) (mode : O.Mode) (name : List ℕ) → end_agrees mode name ≡ true → (bytes_eq name (codes "html") ≡ true → around ≡ None) → Agreeing around mode (AnEnd name)
end_agreeing around O.AfterBody name h html = by_name (bytes_eq name (codes "html")) refl h
  where
    by_name : (x : Bool) → bytes_eq name (codes "html") ≡ x → x || agree_in O.AfterBody (AnEnd name) ≡ true → Agreeing around O.AfterBody (AnEnd name)
    by_name true e k = (
      true,
      λ p. html e,
      ap (λ n. agrees true (AnEnd n) None (rules N.AfterBody) (old_rules O.AfterBody)) ((bytes_eq-Decides name (codes "html")).0 e) ∙ html_ends,
    )
    by_name false e k = (false, no_page around, k)
end_agreeing around _ name h html = (false, no_page around, h)

no_html : (name : List ℕ) → is_among name (flat_map names_of classes) ≡ true → bytes_eq name (codes "html") ≡ true → ⊥
no_html name is e = clash (bytes_eq name (codes "html")) e (for_each (λ n. not (bytes_eq n (codes "html"))) (flat_map names_of classes) refl name is)
  where
    clash : (x : Bool) → x ≡ true → not x ≡ true → ⊥
    clash true a b = cc
    clash false a b = cc

pub inner_known : (name : List ℕ) → is_among name (flat_map names_of classes) ≡ true → is_among name known ≡ true
inner_known name is = for_each (λ n. is_among n known) (flat_map names_of classes) refl name is

three : (a b c d e : Bool) → a && (b && (c && (d && (e && true)))) ≡ true → (a ≡ true) × (b ≡ true) × (c ≡ true) × (d ≡ true) × (e ≡ true)
three true true true true true h = (refl, refl, refl, refl, refl)
three true true true true false h = cc
three true true true false e h = cc
three true true false d e h = cc
three true false c d e h = cc
three false b c d e h = cc

-- the tokens that are no tags
record OthersAgree (mode : O.Mode) : Type 0 where
  chars : (c : ℕ) → is_put_off mode (AChar c) ≡ false → (agree_in mode (AChar 0) ≡ true) × (agree_in mode (AChar 32) ≡ true) × (agree_in mode (AChar 97) ≡ true)
  comment : agree_in mode (AComment []) ≡ true
  eof : agree_in mode AnEof ≡ true

five_agree : (mode : O.Mode) → list_all (agree_in mode) (AChar 0 ∷ AChar 32 ∷ AChar 97 ∷ AComment [] ∷ AnEof ∷ []) ≡ true → OthersAgree mode
five_agree mode h =
    let k = three (agree_in mode (AChar 0)) (agree_in mode (AChar 32)) (agree_in mode (AChar 97)) (agree_in mode (AComment [])) (agree_in mode AnEof) h in
    record { chars = λ c e. (k.0, k.1, k.2); comment = k.3; eof = k.4 }

others : (mode : O.Mode) → others_agree mode ≡ true → OthersAgree mode
others O.InTable h =
    let k = both (agree_in O.InTable (AComment [])) (agree_in O.InTable AnEof && true) h in record { chars = λ c e. cc; comment = k.0; eof = (both (agree_in O.InTable AnEof) true k.1).0 }
others O.InHead h = five_agree O.InHead h
others O.AfterHead h = five_agree O.AfterHead h
others O.InBody h = five_agree O.InBody h
others O.Text h = five_agree O.Text h
others O.InCaption h = five_agree O.InCaption h
others O.InColumnGroup h = five_agree O.InColumnGroup h
others O.InTableBody h = five_agree O.InTableBody h
others O.InRow h = five_agree O.InRow h
others O.InCell h = five_agree O.InCell h
others O.AfterBody h = five_agree O.AfterBody h
others O.AfterAfterBody h = five_agree O.AfterAfterBody h
others O.Initial h = five_agree O.Initial h
others O.BeforeHtml h = five_agree O.BeforeHtml h
others O.BeforeHead h = five_agree O.BeforeHead h

agreeing : (page : Bool) (around : Option Kind) → IsPage page around → (mode : O.Mode) → is_later mode ≡ true → (t : Token) → IsPlainToken page t → is_put_off mode t ≡ false → Agreeing around mode t
agreeing page around is mode later (AStart name attrs closing) plain off = (false, no_page around, for_each (start_agrees mode) start_names (all_starts mode later) name plain)
agreeing true around is mode later (AnEnd name) plain off =
    end_agreeing around mode name (for_each (end_agrees mode) known (all_ends mode later) name plain) (λ e. is refl)
agreeing false around is mode later (AnEnd name) plain off =
    end_agreeing around mode name (for_each (end_agrees mode) known (all_ends mode later) name (inner_known name plain)) (λ e. absurd (no_html name plain e))
agreeing page around is mode later (AChar c) plain off = (false, no_page around, by_char (c == 0) (is_space c))
  where
    chars : (agree_in mode (AChar 0) ≡ true) × (agree_in mode (AChar 32) ≡ true) × (agree_in mode (AChar 97) ≡ true)
    chars = (others mode (all_others mode later)).chars c off

    by_char : (x y : Bool) → agree_in mode (AChar (elim x [ true ↦ 0 | false ↦ elim y [ true ↦ 32 | false ↦ 97 ] ])) ≡ true
    by_char true y = chars.0
    by_char false true = chars.1
    by_char false false = chars.2
agreeing page around is mode later (AComment text) plain off = (false, no_page around, (others mode (all_others mode later)).comment)
agreeing page around is mode later (ADoctype doctype) plain off = absurd plain
agreeing page around is mode later AnEof plain off = (false, no_page around, (others mode (all_others mode later)).eof)

-- ---- ignored tokens

stay_is : (next : O.Next) → is_stay next ≡ true → next ≡ O.Stay
stay_is O.Stay h = refl
stay_is _ h = cc

always_holds : (condition : O.Condition) (t : Token) (b : Building) → is_always condition ≡ true → old_holds condition t b ≡ true
always_holds O.Always t b h = refl
always_holds _ t b h = cc

abbrev IsIgnored : Taken → Type 0
IsIgnored one = one ≡ record { acts = []; goes = O.Stay }

ignored_taken : (t : Token) (b : Building) → is_doctype t ≡ false → (rs : List O.Rule) → is_ignored (like t) rs ≡ true → IsIgnored (old_taken t b rs)
unfolding old_taken
ignored_taken t b plain [] h = cc
ignored_taken t b plain (O.rule pattern condition acts next ∷ rs) h =
    subst (λ x. IsIgnored (elim x [ true ↦ elim (old_holds condition t b) [ true ↦ record { acts = acts; goes = next } | false ↦ old_taken t b rs ] | false ↦ old_taken t b rs ]))
    (sym (old_fits_like pattern t plain)) (by_fits (old_fits pattern (like t)) h (ignored_taken t b plain rs))
  where
    here : Taken
    here = record { acts = acts; goes = next }

    by_fits : (x : Bool) → elim x [ true ↦ is_always condition && (is_empty acts && is_stay next) | false ↦ is_ignored (like t) rs ] ≡ true →
        (is_ignored (like t) rs ≡ true → IsIgnored (old_taken t b rs)) →
        IsIgnored (elim x [ true ↦ elim (old_holds condition t b) [ true ↦ here | false ↦ old_taken t b rs ] | false ↦ old_taken t b rs ])
    by_fits false k later = later k
    by_fits true k later =
        let parts = both (is_always condition) (is_empty acts && is_stay next) k in
        let rest = both (is_empty acts) (is_stay next) parts.1 in
        subst (λ x. IsIgnored (elim x [ true ↦ here | false ↦ old_taken t b rs ])) (sym (always_holds condition t b parts.0))
        (subst (λ l. IsIgnored (record { acts = l; goes = next })) (sym (nothing_left acts rest.0))
        (subst (λ n. IsIgnored (record { acts = []; goes = n })) (sym (stay_is next rest.1)) refl))

ignores : (t : Token) → is_doctype t ≡ false → (fuel : ℕ) → Ignores (ignored_in (like t)) (λ mode b. old_run fuel t mode b)
unfolding old_run
ignores t plain zero mode h b after k = cc
ignores t plain (suc fuel) mode h b after k =
    sym (same_Some b after (sym (ap (λ (one : Taken). old_done (old_run fuel t) one t b) (ignored_taken t b plain (old_rules mode) h)) ∙ k))

-- ---- depths

abbrev pub dep : ℕ → ℕ → ℕ
dep e zero = e
dep e (suc fuel) = suc (suc (dep e fuel))

deeper : (e fuel : ℕ) → dep (suc e) fuel ≡ suc (dep e fuel)
deeper e zero = refl
deeper e (suc fuel) = ap (λ d. suc (suc d)) (deeper e fuel)

-- ---- the dispatcher

-- the first rule is taken, or not
pub rule_taken : (c : WholeBuilding) (patterns : List N.Pattern) (tests : List N.Test) (acts : List N.Act) (more : List N.Rule) → list_any (λ pattern. fits pattern c.token) patterns ≡ true →
    list_all (is_met c) tests ≡ true → taken c (N.rule patterns tests acts ∷ more) ≡ acts
unfolding taken
rule_taken c patterns tests acts more fit met = by_tests (list_any (λ pattern. fits pattern c.token) patterns) (list_all (is_met c) tests) fit met
  where
    by_tests : (x y : Bool) → x ≡ true → y ≡ true → elim x as (λ z. List N.Act) [ true ↦ elim y [ true ↦ acts | false ↦ taken c more ] | false ↦ taken c more ] ≡ acts
    by_tests true true e f = refl
    by_tests true false e f = cc
    by_tests false y e f = cc

pub rule_unmet : (c : WholeBuilding) (patterns : List N.Pattern) (tests : List N.Test) (acts : List N.Act) (more : List N.Rule) → list_all (is_met c) tests ≡ false →
    taken c (N.rule patterns tests acts ∷ more) ≡ taken c more
unfolding taken
rule_unmet c patterns tests acts more met = by_tests (list_any (λ pattern. fits pattern c.token) patterns) (list_all (is_met c) tests) met
  where
    by_tests : (x y : Bool) → y ≡ false → elim x as (λ z. List N.Act) [ true ↦ elim y [ true ↦ acts | false ↦ taken c more ] | false ↦ taken c more ] ≡ taken c more
    by_tests true true e = cc
    by_tests true false e = refl
    by_tests false y e = refl

pub rule_unfit : (c : WholeBuilding) (patterns : List N.Pattern) (tests : List N.Test) (acts : List N.Act) (more : List N.Rule) → list_any (λ pattern. fits pattern c.token) patterns ≡ false →
    taken c (N.rule patterns tests acts ∷ more) ≡ taken c more
unfolding taken
rule_unfit c patterns tests acts more fit = by_tests (list_any (λ pattern. fits pattern c.token) patterns) (list_all (is_met c) tests) fit
  where
    by_tests : (x y : Bool) → x ≡ false → elim x as (λ z. List N.Act) [ true ↦ elim y [ true ↦ acts | false ↦ taken c more ] | false ↦ taken c more ] ≡ taken c more
    by_tests true y e = cc
    by_tests false y e = refl

dispatch_acts : (c : WholeBuilding) → nothing_open c.tree.stack ≡ false → is_html (space_in (adjusted_current c.tree)) ≡ true → taken c (rules N.Dispatcher) ≡ N.goes N.UseCurrentMode ∷ []
unfolding rules
dispatch_acts c opened html = rule_unmet c (N.Anything ∷ []) (N.is N.NoOpenElements ∷ []) _ _ (ap (λ x. x && true) opened)
    ∙ rule_taken c (N.Anything ∷ []) (N.is N.AdjustedCurrentNodeInHtml ∷ []) _ _ refl (ap (λ x. x && true) html)

pub dispatched : (d : ℕ) (c : WholeBuilding) → nothing_open c.tree.stack ≡ false → is_html (space_in (adjusted_current c.tree)) ≡ true →
    run (suc d) N.Dispatcher c ≡ option_and_then (λ x. Some x) (run d c.mode c)
unfolding run
dispatched d c opened html = ap (λ l. performed (run d) l c) (dispatch_acts c opened html)

pub some_again : (o : Option WholeBuilding) (x : WholeBuilding) → o ≡ Some x → option_and_then (λ y. Some y) o ≡ Some x
some_again o x h = ap (option_and_then (λ y. Some y)) h

-- elements of the HTML namespace alone are open
pub html_now : (around : Option Kind) (b : Building) (c : WholeBuilding) → Stands around b c →
    (nothing_open c.tree.stack ≡ false) × (is_html (space_in (adjusted_current c.tree)) ≡ true)
html_now around b c s = by_stack b.stack s.parts
  where
    by_context : (x : Option (List ℕ)) → ContextIs x around → (k : Kind) → is_html (space_in k) ≡ true → (single : Bool) → is_html (space_in (cond single (unwrap_or around k) k)) ≡ true
    by_context x h k e false = e
    by_context x h k e true = of_around x around h
      where
        of_around : (x : Option (List ℕ)) (y : Option Kind) → ContextIs x y → is_html (space_in (unwrap_or y k)) ≡ true
        of_around None None h = e
        of_around (Some name) (Some kind) h = ap (λ one. is_html (space_in one)) h.1
        of_around None (Some kind) h = absurd h
        of_around (Some name) None h = absurd h

    by_stack : (os : List Open) → Parts b.document os b.listed b.form b.next around c.tree → (nothing_open c.tree.stack ≡ false) × (is_html (space_in (adjusted_current c.tree)) ≡ true)
    by_stack [] p = absurd p.fits.3
    by_stack (o ∷ os) p = (
      ap nothing_open p.stack,
      ap (λ x. is_html (space_in (cond (is_single c.tree.stack) (unwrap_or x (kind_of c.tree (current c.tree))) (kind_of c.tree (current c.tree))))) p.around
          ∙ by_context b.context s.context (kind_of c.tree (current c.tree))
          (ap (λ l. is_html (space_in (kind_of c.tree (top l)))) p.stack ∙ ap (λ k. is_html (space_in k)) (kind_now c.tree b.document o os [] p.fits.0)) (is_single c.tree.stack),
    )

pub allowed_self : (mode : O.Mode) → is_later mode ≡ true → allowed mode mode ≡ true
allowed_self O.Initial h = cc
allowed_self O.BeforeHtml h = cc
allowed_self O.BeforeHead h = cc
allowed_self _ h = refl

-- ---- the rules of a mode

abbrev RunSound : Bool → Option Kind → ℕ → ℕ → Type 0
RunSound page around fuel e = (mode : O.Mode) (b after : Building) (c : WholeBuilding) → IsPlainToken page c.token → is_later mode ≡ true → allowed mode b.mode ≡ true →
    Run around None b c → old_run fuel c.token mode b ≡ Some after → Outcome around (run (dep (suc e) fuel) (to_mode mode)) c.token c after

calls_of : (page : Bool) (around : Option Kind) (fuel e : ℕ) → ((x : ℕ) → RunSound page around fuel x) → (t : Token) → IsPlainToken page t →
    Calls around t (old_run fuel t) (run (suc (dep (suc e) fuel)))
calls_of page around fuel e lower t plain = record {
  call = λ mode b after c same later ok r h.
      subst (λ d. Outcome around (run d (to_mode mode)) t c after) (deeper (suc e) fuel)
      (subst (λ u. Outcome around (run (dep (suc (suc e)) fuel) (to_mode mode)) u c after) same
      (lower (suc e) mode b after c (subst (IsPlainToken page) (sym same) plain) later ok r (ap (λ u. old_run fuel u mode b) same ∙ h)));
  dispatch = λ b after c same r h.
      let o : Outcome around (run (dep (suc e) fuel) (to_mode b.mode)) t c after =
      subst (λ u. Outcome around (run (dep (suc e) fuel) (to_mode b.mode)) u c after) same
      (lower e b.mode b after c (subst (IsPlainToken page) (sym same) plain) r.later (allowed_self b.mode r.later) r (ap (λ u. old_run fuel u b.mode b) same ∙ h)) in
      let n = html_now around b c r.stands in
      (o.0, dispatched (dep (suc e) fuel) c n.0 n.1 ∙ some_again (run (dep (suc e) fuel) c.mode c) o.0 (ap (λ m. run (dep (suc e) fuel) m c) r.mode ∙ o.1), o.2);
}

no_outcome : (again : O.Mode → Building → Option Building) (o : Option Building) (after : Building) → option_and_then (goes_on again O.NoRule) o ≡ Some after → ⊥
no_outcome again None after h = cc
no_outcome again (Some x) after h = cc

-- ---- characters in a table

abbrev table_names : List (List ℕ)
table_names = groups ++ codes "table" ∷ codes "tr" ∷ []

unfoldable pub CharResult : ℕ → Building → Building → Type 0
CharResult d b after = (is_space d ≡ true) × (top_is table_names b.stack ≡ true) × (Some (at_top (with_text_char (AChar d)) b) ≡ Some after)

pub old_char : (fuel d : ℕ) (b after : Building) → old_run (suc fuel) (AChar d) O.InTable b ≡ Some after → CharResult d b after
unfolding old_run old_rules old_taken act CharResult
old_char fuel d b after h = by_tests (is_space d) refl (top_is table_names b.stack) refl h
  where
    by_tests : (x : Bool) → is_space d ≡ x → (y : Bool) → top_is table_names b.stack ≡ y →
        old_done (old_run fuel (AChar d)) (elim x [
          | true ↦ elim y [ true ↦ record { acts = O.InsertCharacter ∷ []; goes = O.Stay } | false ↦ record { acts = []; goes = O.NoRule } ]
          | false ↦ record { acts = []; goes = O.NoRule }
        ]) (AChar d) b ≡ Some after → (is_space d ≡ true) × (top_is table_names b.stack ≡ true) × (Some (at_top (with_text_char (AChar d)) b) ≡ Some after)
    by_tests true e true f k = (e, f, k)
    by_tests true e false f k = cc
    by_tests false e y f k = cc

pub space_not_zero : (d : ℕ) → is_space d ≡ true → (d == 0) ≡ false
space_not_zero d h = by_zero (d == 0) refl
  where
    by_zero : (x : Bool) → (d == 0) ≡ x → x ≡ false
    by_zero true e = absurd (true≢false (sym h ∙ ap is_space (eqb-true d 0 e)))
    by_zero false e = refl

abbrev pub at_char : ℕ → WholeBuilding → WholeBuilding
at_char d c = record c { token = AChar d }

-- put off until the next token
abbrev put_off : ℕ → WholeBuilding → WholeBuilding
put_off d c = record c { token = AChar d; pending = d ∷ []; original = c.mode; mode = N.InTableText }

text_acts : (d : ℕ) (c : WholeBuilding) → (d == 0) ≡ false → taken (at_char d c) (rules N.InTableText) ≡ N.does N.AddToPending [] ∷ []
unfolding rules
text_acts d c h = rule_unfit (at_char d c) (N.Null ∷ []) [] _ _ (ap (λ x. x || false) h) ∙ rule_taken (at_char d c) (N.Character ∷ []) [] _ _ refl refl

pub text_run : (depth d : ℕ) (c : WholeBuilding) → (d == 0) ≡ false → run (suc depth) N.InTableText (at_char d c) ≡ Some (record (at_char d c) { pending = d ∷ c.pending })
unfolding run perform
text_run depth d c h = ap (λ l. performed (run depth) l (at_char d c)) (text_acts d c h)

table_acts : (d : ℕ) (c : WholeBuilding) → is_one c.tree (codes "table" ∷ codes "tbody" ∷ codes "template" ∷ codes "tfoot" ∷ codes "thead" ∷ codes "tr" ∷ []) (current c.tree) ≡ true →
    taken (at_char d c) (rules N.InTable) ≡ N.does N.EmptyPending [] ∷ N.does N.KeepMode [] ∷ N.does (N.SwitchTo N.InTableText) [] ∷ N.goes N.Reprocess ∷ []
unfolding rules
table_acts d c h =
    rule_taken (at_char d c) (N.Character ∷ [])
    (N.is (N.CurrentNode (N.These (codes "table" ∷ codes "tbody" ∷ codes "template" ∷ codes "tfoot" ∷ codes "thead" ∷ codes "tr" ∷ []))) ∷ []) _ _ refl (ap (λ x. x && true) h)

table_run : (depth d : ℕ) (c : WholeBuilding) → is_one c.tree (codes "table" ∷ codes "tbody" ∷ codes "template" ∷ codes "tfoot" ∷ codes "thead" ∷ codes "tr" ∷ []) (current c.tree) ≡ true →
    run (suc depth) N.InTable (at_char d c) ≡
    option_and_then (λ x. Some x) (run depth N.Dispatcher (record (at_char d c) { pending = []; original = c.mode; mode = N.InTableText }))
unfolding run perform
table_run depth d c h = ap (λ l. performed (run depth) l (at_char d c)) (table_acts d c h)

table_sound : (page : Bool) (around : Option Kind) (fuel e d : ℕ) (b after : Building) (c : WholeBuilding) → is_table_mode b.mode ≡ true → Run around None b (at_char d c) →
    old_run (suc fuel) (AChar d) O.InTable b ≡ Some after → Outcome around (run (dep (suc e) (suc fuel)) N.InTable) (AChar d) (at_char d c) after
unfolding CharResult
table_sound page around fuel e d b after c table r h =
    let k = old_char fuel d b after h in
    let n = html_now around b (at_char d c) r.stands in
    let done : Done around None b after (at_char d c) (with_tree (at_char d c) (with_chars (d ∷ []) c.tree)) = char_act around b after (at_char d c) r.stands k.2 in
    let tests : is_one c.tree (codes "table" ∷ codes "tbody" ∷ codes "template" ∷ codes "tfoot" ∷ codes "thead" ∷ codes "tr" ∷ []) (current c.tree) ≡ true =
    top_test (codes "table" ∷ codes "tbody" ∷ codes "template" ∷ codes "tfoot" ∷ codes "thead" ∷ codes "tr" ∷ []) table_names refl b.document b.stack b.listed b.form b.next around c.tree r.stands.parts
    ∙ k.1 in
    let mid : WholeBuilding = record (at_char d c) { pending = []; original = c.mode; mode = N.InTableText } in
    let last : run (dep (suc e) fuel) N.InTableText mid ≡ Some (put_off d c) =
    ap (λ x. run x N.InTableText mid) (deeper e fuel) ∙ text_run (dep e fuel) d mid (space_not_zero d k.0) in (
      put_off d c,
      table_run (suc (dep (suc e) fuel)) d c tests
          ∙ some_again (run (suc (dep (suc e) fuel)) N.Dispatcher mid) (put_off d c)
          (dispatched (dep (suc e) fuel) mid n.0 n.1 ∙ some_again (run (dep (suc e) fuel) N.InTableText mid) (put_off d c) last),
      lagging refl (record {
        stands = record { parts = done.0.parts; context = done.0.context; templates = done.0.templates; quirks = done.0.quirks; skip = done.0.skip };
        mode = refl;
        original = r.mode ∙ ap to_mode (sym done.2.mode);
        table = ap is_table_mode done.2.mode ∙ table;
        white = ap (λ x. x && true) k.0;
        html = n.1;
        opened = n.0;
        answer = r.quiet;
      }),
    )

record PutOff (mode : O.Mode) (t : Token) : Type 0 where
  table : mode ≡ O.InTable
  char : ℕ
  token : t ≡ AChar char

put_off_is : (mode : O.Mode) (t : Token) → is_put_off mode t ≡ true → PutOff mode t
put_off_is O.InTable (AChar d) h = record { table = refl; char = d; token = refl }
put_off_is _ _ h = cc

pub run_sound : (page : Bool) (around : Option Kind) → IsPage page around → (fuel e : ℕ) → RunSound page around fuel e
unfolding old_run run
run_sound page around is zero e mode b after c plain later ok r h = cc
run_sound page around is (suc fuel) e mode b after c plain later ok r h = by_off (is_put_off mode c.token) refl (λ x. run_sound page around is fuel x)
  where
    one : Taken
    one = old_taken c.token b (old_rules mode)

    fine : Fine c.token b.mode one
    fine = taken_fine mode b.mode ok c.token b (old_rules mode) (all_fine mode)

    by_agreed : (p : Bool) → IsPage p around → ((x : ℕ) → RunSound page around fuel x) → Agreed p b c one (rules (to_mode mode)) → Outcome around (run (dep (suc e) (suc fuel)) (to_mode mode)) c.token c after
    by_agreed p ip lower (outside g) =
        absurd (no_outcome (old_run fuel c.token) (all_acts one.acts c.token b) after (sym (ap (λ n. option_and_then (goes_on (old_run fuel c.token) n) (all_acts one.acts c.token b)) g) ∙ h))
    by_agreed p ip lower (alike_acts now w k) =
        follows_sound around p ip (resets_well around) c.token (old_run fuel c.token) (run (suc (dep (suc e) fuel))) (calls_of page around fuel e lower c.token plain) (ignored_in (like c.token))
        (ignores c.token (not_doctype page c.token plain) fuel) one.goes fine.reads fine.ends_tag after (taken c (rules (to_mode mode))) None None now one.acts b c k
        (record { token = refl; run = r; comments = fine.comments; leaves = fine.leaves; uses = fine.uses }) tt w h

    by_off : (x : Bool) → is_put_off mode c.token ≡ x → ((x : ℕ) → RunSound page around fuel x) → Outcome around (run (dep (suc e) (suc fuel)) (to_mode mode)) c.token c after
    by_off false off lower =
        let a = agreeing page around is mode later c.token plain off in
        by_agreed a.0 a.1 lower (agreed a.0 around a.1 b c r.stands (not_doctype page c.token plain) None tt (rules (to_mode mode)) (old_rules mode) a.2)
    by_off true off lower =
        let p : PutOff mode c.token = put_off_is mode c.token off in
        let same : at_char p.char c ≡ c = ap (λ u. record c { token = u }) (sym p.token) in
        subst (λ m. Outcome around (run (dep (suc e) (suc fuel)) (to_mode m)) c.token c after) (sym p.table)
        (subst (λ u. Outcome around (run (dep (suc e) (suc fuel)) N.InTable) u c after) (sym p.token)
        (subst (λ (x : WholeBuilding). Outcome around (run (dep (suc e) (suc fuel)) N.InTable) (AChar p.char) x after) same
        (table_sound page around fuel e p.char b after c (subst (λ m. allowed m b.mode ≡ true) p.table ok) (subst (λ (x : WholeBuilding). Run around None b x) (sym same) r)
        (ap (λ u. old_run (suc fuel) u O.InTable b) (sym p.token) ∙ ap (λ m. old_run (suc fuel) c.token m b) (sym p.table) ∙ h))))
