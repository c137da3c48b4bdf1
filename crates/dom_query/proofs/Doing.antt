-- The commands that were done so far, and those that are left.
use Rattle.std.proofs.Common.{◌≡◌, ℕ, List, [], ◌∷◌, ◌++◌, Option, inl, inr, refl, sym, ◌∙◌, ap, append_assoc, append-nil, subst, ◌+◌, ◌<◌, ◌≤◌, length, get_or, drop}
use Rattle.std.proofs.lemmas.List.{at_drop_more, drop_all}
use Rattle.std.specs.Io.KnownBytes.{Appends}
use Rattle.dom_nodes.specs.declared.fault.EditFault.{EditFault}
use Rattle.dom_nodes.specs.declared.fault.EditFault.TheVariants.{TooManyNodes as TooMany}
use Rattle.dom_links.specs.Forest.{Forest}
use Rattle.dom_markup.specs.Writing.{AppendsBeginning}
use Rattle.dom_selectors.specs.Syntax.{SelectorList}
use Rattle.dom_links.specs.Lists.{without}
use Rattle.dom_links.specs.Sound.{IsForest}
use Rattle.dom_select.specs.Meaning.{MatchesNode}
use Rattle.dom_select.specs.Selected.{Selected}
use Rattle.dom_sanitize.specs.Clean.{Lists}
use Rattle.dom_sanitize.specs.Laws.{HasOneClean}
use Rattle.dom_script.specs.declared.script.Command.{Command}
use Rattle.dom_script.specs.declared.script.Command.TheVariants.{Query, Edit, Sanitize}
use Rattle.dom_script.specs.declared.script.QueryKind.{QueryKind}
use Rattle.dom_script.specs.declared.script.QueryKind.TheVariants.{Select, Find, Filter, Add}
use Rattle.dom_query.specs.Cleaning.{allow_of}
use Rattle.dom_query.specs.Editing.{IsRefusal, line_edit, targets}
use Rattle.dom_query.specs.Out.{Does, DoesAll, Ending, Fails}
use Rattle.dom_query.specs.Out.Ending.{done, refused}
use Rattle.dom_query.specs.Queries.{QueryResult}
use Rattle.dom_query.specs.Runs.{CommandCause, CommandsCause, DidBegin, IsEnding}
use Rattle.dom_query.specs.declared.runner.RunFault.{RunFault}
use Rattle.dom_query.specs.declared.runner.RunFault.TheVariants.{BadScript, BadMarkup, TooManyNodes, Memory, Write, Edit as RunEdit}
use Rattle.dom_query.proofs.EditLemmas.{done-not-refused, each-once, refused-once}
use Rattle.dom_query.proofs.QueryLemmas.{filtered-once}
use Rattle.dom_markup.proofs.html.WritingLemmas.{beginning-then, beginning-more, written-then}

-- a selector selects one list of nodes at most
abbrev pub OneSelection : Type 0
OneSelection = (forest : Forest) (roots : List ℕ) (selector : SelectorList) (a b : List ℕ) → Selected forest roots selector a → Selected forest roots selector b → a ≡ b

-- what is left of a forest by the same lists is one forest
abbrev pub OneClean : Type 0
OneClean = (allow : Lists) (forest : Forest) → IsForest forest → HasOneClean allow forest

-- a line of each kind selects one list of nodes at most
queried-once : OneSelection → (forest : Forest) (selection : List ℕ) (kind : QueryKind) (selector : SelectorList) (a b : List ℕ)
    → QueryResult forest selection kind selector a → QueryResult forest selection kind selector b → a ≡ b
queried-once one forest selection Select selector a b p q = one forest _ selector a b p q
queried-once one forest selection Find selector a b p q = one forest _ selector a b p q
queried-once one forest selection Filter selector a b p q = filtered-once (MatchesNode selector forest) selection a b p q
queried-once one forest [] Add selector a b p q = p ∙ sym q
queried-once one forest (n ∷ ns) Add selector a b (more, p, is) (others, q, so) =
    is ∙ ap (λ ms. (n ∷ ns) ++ without (n ∷ ns) ms) (one forest _ selector more others p q) ∙ sym so

-- a command writes one text and leaves one selection and one forest at most
pub does-once : OneSelection → OneClean → (forest : Forest) (selection : List ℕ) (command : Command) (text other selected others : List ℕ) (after last : Forest)
    → Does forest selection command text after selected → Does forest selection command other last others → (text ≡ other) × (selected ≡ others) × (after ≡ last)
does-once one clean forest selection (Query kind selector) text other selected others after last a b =
    (a.0 ∙ sym b.0, queried-once one forest selection kind selector selected others a.1 b.1, a.2 ∙ sym b.2)
does-once one clean forest selection (Edit edit) text other selected others after last a b =
    (a.0 ∙ sym b.0, a.1 ∙ sym b.1, each-once (line_edit edit) (targets edit selection) forest after last a.2 b.2)
does-once one clean forest selection (Sanitize lists) text other selected others after last a b =
    (a.0 ∙ sym b.0, a.1 ∙ sym b.1, clean (allow_of lists) forest a.2.was after last a.2.is b.2.is a.2.cleaned b.2.cleaned)
does-once one clean forest selection _ text other selected others after last a b = (a.0 ∙ sym b.0, a.1 ∙ sym b.1, a.2 ∙ sym b.2)

-- a command that is done isn't refused
does-not-fail : (forest : Forest) (selection : List ℕ) (command : Command) (text selected : List ℕ) (after : Forest) (fault : EditFault)
    → Does forest selection command text after selected → Fails forest selection command fault → IsRefusal fault → ⊥
does-not-fail forest selection (Edit edit) text selected after fault does fails is = done-not-refused edit (targets edit selection) forest after fault does.2 fails is
does-not-fail forest selection _ text selected after fault does fails is = fails

fails-once : (forest : Forest) (selection : List ℕ) (command : Command) (fault other : EditFault)
    → Fails forest selection command fault → Fails forest selection command other → IsRefusal fault → IsRefusal other → fault ≡ other
fails-once forest selection (Edit edit) fault other p q is so = refused-once edit (targets edit selection) forest fault other p q is so
fails-once forest selection _ fault other p q is so = absurd p

-- commands write one text and end in one way at most
pub does-all-once : OneSelection → OneClean → (forest : Forest) (selection : List ℕ) (line : ℕ) (commands : List Command) (text other : List ℕ) (ending last : Ending) → IsEnding ending → IsEnding last
    → DoesAll forest selection line commands text ending → DoesAll forest selection line commands other last → (text ≡ other) × (ending ≡ last)
does-all-once one clean forest selection line [] text other ending last is so a b = (a.0 ∙ sym b.0, a.1 ∙ sym b.1)
does-all-once one clean forest selection line (command ∷ commands) text other ending last is so (inl (f, p, t, e)) (inl (g, q, u, d)) =
    (t ∙ sym u, e ∙ ap (refused line) (fails-once forest selection command f g p q (subst IsEnding e is) (subst IsEnding d so)) ∙ sym d)
does-all-once one clean forest selection line (command ∷ commands) text other ending last is so (inl (f, p, t, e)) (inr (y, ys, ss, c, isb, dob, restb)) =
    absurd (does-not-fail forest selection command y ss c f dob p (subst IsEnding e is))
does-all-once one clean forest selection line (command ∷ commands) text other ending last is so (inr (x, xs, s, b, isa, doa, resta)) (inl (g, q, u, d)) =
    absurd (does-not-fail forest selection command x s b g doa q (subst IsEnding d so))
does-all-once one clean forest selection line (command ∷ commands) text other ending last is so (inr (x, xs, s, b, isa, doa, resta)) (inr (y, ys, ss, c, isb, dob, restb)) =
    let same = does-once one clean forest selection command x y s ss b c doa dob in
    let later = does-all-once one clean c ss (line + 1) commands xs ys ending last is so
    (subst (λ f. DoesAll f ss (line + 1) commands xs ending) same.2 (subst (λ ns. DoesAll b ns (line + 1) commands xs ending) same.1 resta)) restb in
    (isa ∙ (ap (λ zs. zs ++ xs) same.0 ∙ (ap (λ zs. y ++ zs) later.0 ∙ sym isb)), later.1)

-- All the commands write a text and end so just where it begins with `front` and those that are left, from this line on, write
-- the rest and end so, with the forest and the selection that stand now
pub record Reaches (forest : Forest) (at_first : List ℕ) (all left : List Command) (now : Forest) (selection : List ℕ) (line : ℕ) (front : List ℕ) : Type 0 where
  pub forth : (rest : List ℕ) (ending : Ending) → DoesAll now selection line left rest ending → DoesAll forest at_first 1 all (front ++ rest) ending
  pub back : (text : List ℕ) (ending : Ending) → IsEnding ending → DoesAll forest at_first 1 all text ending → (rest : List ℕ) × (text ≡ front ++ rest) × DoesAll now selection line left rest ending

pub reaches-none : (forest : Forest) (at_first : List ℕ) (all : List Command) → Reaches forest at_first all all forest at_first 1 []
reaches-none forest at_first all = record { forth = λ rest ending d. d; back = λ text ending is d. (text, refl, d) }

-- the next of those that are left
pub reaches-next : (forest : Forest) (at_first : List ℕ) (all : List Command) (i : ℕ) (command : Command) (now : Forest) (selection : List ℕ) (line : ℕ) (front : List ℕ)
    → i < length all → command ≡ get_or all i command → Reaches forest at_first all (drop i all) now selection line front
    → Reaches forest at_first all (command ∷ drop (i + 1) all) now selection line front
reaches-next forest at_first all i command now selection line front within is r =
    let next : drop i all ≡ get_or all i command ∷ drop (i + 1) all = at_drop_more (λ left. left) all i command within in
    subst (λ left. Reaches forest at_first all left now selection line front) (next ∙ ap (λ c. c ∷ drop (i + 1) all) (sym is)) r

-- one more command is done
pub reaches-more : OneSelection → OneClean → (forest : Forest) (at_first : List ℕ) (all : List Command) (command : Command) (left : List Command) (now : Forest) (selection : List ℕ) (line : ℕ) (front text selected : List ℕ) (after : Forest)
    → Reaches forest at_first all (command ∷ left) now selection line front → Does now selection command text after selected
    → Reaches forest at_first all left after selected (line + 1) (front ++ text)
reaches-more one clean forest at_first all command left now selection line front text selected after r does = record {
  forth = λ rest ending d. subst (λ t. DoesAll forest at_first 1 all t ending) (sym (append_assoc front text rest)) (r.forth (text ++ rest) ending (inr (text, rest, selected, after, refl, does, d)));
  back = λ whole ending is d. back-more whole ending is (r.back whole ending is d);
}
  where
    back-more : (whole : List ℕ) (ending : Ending) → IsEnding ending → (more : List ℕ) × (whole ≡ front ++ more) × DoesAll now selection line (command ∷ left) more ending
        → (rest : List ℕ) × (whole ≡ (front ++ text) ++ rest) × DoesAll after selected (line + 1) left rest ending
    back-more whole ending is (more, so, inl (f, fails, t, e)) = absurd (does-not-fail now selection command text selected after f does fails (subst IsEnding e is))
    back-more whole ending is (more, same_whole, inr (x, xs, s, b, so, did, later)) =
        let same = does-once one clean now selection command x text s selected b after did does in (
          xs,
          same_whole ∙ (ap (λ zs. front ++ zs) (so ∙ ap (λ zs. zs ++ xs) same.0) ∙ sym (append_assoc front text xs)),
          subst (λ f. DoesAll f selected (line + 1) left xs ending) same.2 (subst (λ ns. DoesAll b ns (line + 1) left xs ending) same.1 later),
        )

-- all are done
pub reaches-all : (forest : Forest) (at_first : List ℕ) (all : List Command) (i : ℕ) (now : Forest) (selection : List ℕ) (line : ℕ) (front : List ℕ)
    → length all ≤ i → Reaches forest at_first all (drop i all) now selection line front → DoesAll forest at_first 1 all front done
reaches-all forest at_first all i now selection line front past r =
    subst (λ t. DoesAll forest at_first 1 all t done) (append-nil front) (r.forth [] done (subst (λ left. DoesAll now selection line left [] done) (sym (drop_all i all past)) (refl, refl)))

-- the next command fails
pub reaches-refused : (forest : Forest) (at_first : List ℕ) (all : List Command) (command : Command) (left : List Command) (now : Forest) (selection : List ℕ) (line : ℕ) (front : List ℕ) (fault : EditFault)
    → Reaches forest at_first all (command ∷ left) now selection line front → Fails now selection command fault → DoesAll forest at_first 1 all front (refused line fault)
reaches-refused forest at_first all command left now selection line front fault r fails =
    subst (λ t. DoesAll forest at_first 1 all t (refused line fault)) (append-nil front) (r.forth [] (refused line fault) (inl (fault, fails, refl, refl)))

-- a fault in the next command
pub reaches-fault : (forest : Forest) (at_first : List ℕ) (all : List Command) (command : Command) (left : List Command) (now : Forest) (selection : List ℕ) (line : ℕ) (front : List ℕ) (a b c : Option (List ℕ))
    → Reaches forest at_first all (command ∷ left) now selection line front → Appends a b front
    → DidBegin now selection command b c
    → (text : List ℕ) (ending : Ending) → IsEnding ending → DoesAll forest at_first 1 all text ending → AppendsBeginning a c text
reaches-fault forest at_first all command left now selection line front a b c r written begun text ending is d = at-fault (r.back text ending is d)
  where
    at-fault : (more : List ℕ) × (text ≡ front ++ more) × DoesAll now selection line (command ∷ left) more ending → AppendsBeginning a c text
    at-fault (more, so, inl (f, fails, t, e)) = subst (AppendsBeginning a c) (sym (so ∙ ap (λ zs. front ++ zs) t)) (beginning-then a b c front [] written (begun.1 f fails))
    at-fault (more, same_whole, inr (x, xs, s, after, so, did, later)) =
        subst (AppendsBeginning a c) (sym (same_whole ∙ ap (λ zs. front ++ zs) so))
        (beginning-then a b c front (x ++ xs) written (beginning-more b c x xs (begun.0 x s after did)))

-- what a fault of the next command says of all
pub commands-cause : (forest : Forest) (at_first : List ℕ) (all : List Command) (command : Command) (left : List Command) (now : Forest) (selection : List ℕ) (line : ℕ) (front : List ℕ) (a b c : Option (List ℕ)) (fault : RunFault)
    → Reaches forest at_first all (command ∷ left) now selection line front → Appends a b front → CommandCause now selection command line b c fault → CommandsCause forest at_first all a c fault
commands-cause forest at_first all command left now selection line front a b c (RunEdit place fault) r written (is, refusal, fails, none) = (
  refusal,
  (
    front,
    subst (λ k. DoesAll forest at_first 1 all front (refused k fault)) (sym is) (reaches-refused forest at_first all command left now selection line front fault r fails),
    subst (Appends a c) (append-nil front) (written-then a b c front [] written none),
  ),
)
commands-cause forest at_first all command left now selection line front a b c TooManyNodes r written (fails, none) =
    (line, (front, reaches-refused forest at_first all command left now selection line front TooMany r fails, subst (Appends a c) (append-nil front) (written-then a b c front [] written none)))
commands-cause forest at_first all command left now selection line front a b c Memory r written cause = tt
commands-cause forest at_first all command left now selection line front a b c Write r written cause = tt
commands-cause forest at_first all command left now selection line front a b c (BadScript place) r written cause = absurd cause
commands-cause forest at_first all command left now selection line front a b c BadMarkup r written cause = absurd cause
