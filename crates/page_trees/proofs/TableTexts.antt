-- Pending table character tokens, as the code keeps them, and characters that it inserts with foster parenting.
use Rattle.std.proofs.Common.{◌≡◌, ℕ, Bool, Global, true, false, ◌&&◌, ◌||◌, ◌++◌, ◌-◌, not, List, [], ◌∷◌, length, Option, None, Some, refl, reverse, sym, ap, subst, ◌∙◌, true≢false}
use Rattle.std.specs.List.{list_all}
use Rattle.std.specs.Prelude.{OnOk, Result, String, bytes_eq, codes, encode_utf8_all, slice_get, string_bytes}
use Rattle.std.proofs.lemmas.Str.{encodes-append}
use Rattle.standard_trees.specs.Building.{Building, is_empty, is_space, perform}
use Rattle.standard_trees.specs.GrowingTree.{GrowingTree, current, is_named, kind_of}
use Rattle.standard_trees.specs.RuleWords.{EmptyPending, InTableText, KeepMode, SwitchTo}
use Rattle.standard_trees.specs.TreeStore.{Kind}
use Rattle.page_trees.specs.CharacterSteps.{Inserts, InsertsInBody, has_no_null, is_null, is_run, keeps_text, pending_names}
use Rattle.page_trees.specs.Constructs.{Constructs, IsPending, Performs, RemembersLimits, first_fault, is_entered_plainly, returns_later}
use Rattle.page_trees.specs.Modes.{holds_table_text}
use Rattle.page_trees.specs.Names.{html_rows, rare_rows}
use Rattle.page_trees.specs.Sets.{is_one, rule_name}
use Rattle.page_trees.specs.Stands.{Builds, IsCurrent}
use Rattle.page_trees.specs.TableTexts.{AddsToPending, FostersRun, PlacesText, SettlesText, added, holds_letters, text_placed, with_fostering}
use Rattle.page_trees.specs.TokenSteps.{keeps_characters}
use Rattle.page_trees.specs.TreeState.{TreeState}
use Rattle.page_trees.specs.declared.builder.Mode.{Mode}
use Rattle.page_trees.specs.declared.builder.TreeBuilder.{TreeBuilder}
use Rattle.page_trees.specs.declared.chars.Run.{Run}
use Rattle.page_trees.specs.declared.fault.PageFault.{PageFault}
use Rattle.page_trees.specs.declared.stack.Open.{Open}
use Rattle.page_trees.proofs.BuilderSteps.{limits_kept, was_ok}
use Rattle.page_trees.proofs.BuiltStacks.{current_node}
use Rattle.page_trees.proofs.NamesAgree.{both}
use Rattle.page_trees.proofs.PendingTexts.{added_reversed, all_added, all_reversed}
use Rattle.page_trees.proofs.RunOutcomes.{negated}
use Rattle.page_trees.proofs.SpacesApart.{none_encoded}
use Rattle.page_trees.proofs.StandingNames.{are_known, kind_agrees}

-- ---- the elements in which characters are pending table character tokens

known_names : are_known pending_names ≡ true
unfolding html_rows rare_rows
known_names = refl

-- the template stands apart in the code
moved_up : (a b p c d e : Bool) → ((p || false) || (a || (b || (c || (d || (e || false)))))) ≡ (a || (b || (p || (c || (d || (e || false))))))
moved_up true true true c d e = refl
moved_up true false true c d e = refl
moved_up false true true c d e = refl
moved_up false false true c d e = refl
moved_up a b false c d e = refl

holds_is : (o : Open) → holds_table_text o ≡ is_one pending_names o
holds_is o =
    moved_up (bytes_eq (rule_name o) (codes "table")) (bytes_eq (rule_name o) (codes "tbody")) (bytes_eq (rule_name o) (codes "template"))
    (bytes_eq (rule_name o) (codes "tfoot")) (bytes_eq (rule_name o) (codes "thead")) (bytes_eq (rule_name o) (codes "tr"))

current_is : (s : TreeState) (t : GrowingTree) (elements : List Open) (r : Option Open) → elements ≡ s.stack → r ≡ slice_get elements (length elements - 1) → Builds s t →
    IsCurrent r (kind_of t (current t))
current_is s t elements r e f built =
    subst (λ (found : Option Open). IsCurrent found (kind_of t (current t))) (sym (f ∙ ap (λ (os : List Open). slice_get os (length os - 1)) e)) (current_node s t built)

pub text_kept : (s : TreeState) (t : GrowingTree) (elements : List Open) (r : Option Open) (o : Open) → elements ≡ s.stack → r ≡ slice_get elements (length elements - 1) → r ≡ Some o →
    Builds s t → holds_table_text o ≡ keeps_text t
text_kept s t elements r o e f some built =
    holds_is o ∙ kind_agrees pending_names known_names o (kind_of t (current t))
    (subst (λ (found : Option Open). IsCurrent found (kind_of t (current t))) some (current_is s t elements r e f built))

pub text_not_kept : (s : TreeState) (t : GrowingTree) (elements : List Open) (r : Option Open) → elements ≡ s.stack → r ≡ slice_get elements (length elements - 1) → r ≡ None →
    Builds s t → false ≡ keeps_text t
text_not_kept s t elements r e f none built =
    sym (ap (λ (kind : Kind). is_named pending_names kind)
    (subst (λ (found : Option Open). IsCurrent found (kind_of t (current t))) none (current_is s t elements r e f built)))

-- ---- characters become pending

pub text_begins : (old new : TreeBuilder) (text : String Global) →
    new ≡ record old { table_text = text; table_text_has_letters = false; original = old.mode; mode = Mode.InTableText } → string_bytes text ≡ [] →
    Performs (EmptyPending ∷ KeepMode ∷ SwitchTo InTableText ∷ []) old new
unfolding perform
text_begins old new text e empty within b c = subst (λ (s : TreeBuilder). Constructs s (record b { pending = []; original = b.mode; mode = InTableText })) (sym e) (record {
  tree = c.tree;
  foster = c.foster;
  in_head = c.in_head;
  mode = refl;
  original = λ h. c.mode;
  template_modes = c.template_modes;
  frameset_ok = c.frameset_ok;
  scripting = c.scripting;
  quirks = c.quirks;
  unread = λ h. absurd (true≢false (ap keeps_characters h));
  pending = λ h. (empty, refl);
  skip = c.skip;
  tokenizer = c.tokenizer;
})

-- a run without nulls has letters, or is white space alone
has_letters : (kind : Run) (cs : List ℕ) → is_run kind cs ≡ true → has_no_null cs ≡ true → holds_letters kind ≡ not (list_all is_space cs)
has_letters Run.Letters cs is plain = sym (both (has_no_null cs) (not (list_all is_space cs)) is).1
has_letters Run.Spaces cs is plain = sym (ap not is)
has_letters Run.Nulls [] is plain = absurd (true≢false (sym is))
has_letters Run.Nulls (c ∷ []) is plain = absurd (true≢false (sym is ∙ negated (is_null c) (both (not (is_null c)) true plain).0))
has_letters Run.Nulls (c ∷ d ∷ cs) is plain = absurd (true≢false (sym is))

has_some : (x y : Bool) → (not x || not y) ≡ not (y && x)
has_some true true = refl
has_some true false = refl
has_some false true = refl
has_some false false = refl

still_pending : (was now : String Global) (letters : Bool) (kind : Run) (cs pending : List ℕ) → string_bytes now ≡ string_bytes was ++ encode_utf8_all cs → is_run kind cs ≡ true →
    has_no_null cs ≡ true → IsPending was letters pending → IsPending now (letters || holds_letters kind) (added cs pending)
still_pending was now letters kind cs pending longer is plain held = (
  longer ∙ ap (λ (bytes : List ℕ). bytes ++ encode_utf8_all cs) held.0 ∙ sym (encodes-append (reverse pending) cs) ∙ ap encode_utf8_all (sym (added_reversed cs pending)),
  ap (λ (x : Bool). x || holds_letters kind) held.1 ∙ ap (λ (x : Bool). not (list_all is_space pending) || x) (has_letters kind cs is plain)
      ∙ has_some (list_all is_space pending) (list_all is_space cs) ∙ ap not (sym (all_added is_space cs pending)),
)

pub keeps_is : (m : Mode) → keeps_characters m ≡ true → m ≡ Mode.InTableText
keeps_is Mode.InTableText e = refl
keeps_is _ e = absurd (true≢false (sym e))

pub text_added : (old new : TreeBuilder) (longer : String Global) (done : Result Unit PageFault) (letters : Bool) (kind : Run) (text cs : List ℕ) →
    new ≡ record old { table_text = longer; table_text_has_letters = old.table_text_has_letters || letters; fault = first_fault old.fault done } → letters ≡ holds_letters kind →
    OnOk done (string_bytes longer ≡ string_bytes old.table_text ++ text) → text ≡ encode_utf8_all cs → is_run kind cs ≡ true → has_no_null cs ≡ true → AddsToPending cs old new
text_added old new longer done letters kind text cs e lettered more spelt is plain keeps within b c =
    let no : first_fault old.fault done ≡ None = sym (ap (λ (s : TreeBuilder). s.fault) e) ∙ within.fault in
    let bytes = was_ok old.fault done (string_bytes longer ≡ string_bytes old.table_text ++ text) no more ∙ ap (λ (bytes : List ℕ). string_bytes old.table_text ++ bytes) spelt in
    subst (λ (s : TreeBuilder). Constructs s (record b { pending = added cs b.pending })) (sym e) (record {
      tree = c.tree;
      foster = c.foster;
      in_head = c.in_head;
      mode = c.mode;
      original = c.original;
      template_modes = c.template_modes;
      frameset_ok = c.frameset_ok;
      scripting = c.scripting;
      quirks = c.quirks;
      unread = c.unread;
      pending = λ h. subst (λ (x : Bool). IsPending longer (old.table_text_has_letters || x) (added cs b.pending)) (sym lettered)
          (still_pending old.table_text longer old.table_text_has_letters kind cs b.pending bytes is plain (c.pending h));
      skip = c.skip;
      tokenizer = c.tokenizer;
    })

pub text_limits : (old new : TreeBuilder) (longer : String Global) (done : Result Unit PageFault) (letters : Bool) →
    new ≡ record old { table_text = longer; table_text_has_letters = letters; fault = first_fault old.fault done } → RemembersLimits old new
text_limits old new longer done letters e = limits_kept old new new done (ap (λ (s : TreeBuilder). s.fault) e) (ap (λ (s : TreeBuilder). s.too_deep) e) refl (λ h. h)

-- ---- foster parenting

fostering_built : (s : TreeState) (t : GrowingTree) (on : Bool) → Builds s t → Builds s (record t { fostering = on })
fostering_built s t on c = record {
  nodes = c.nodes;
  stack = record { ids = c.stack.ids; nodes = c.stack.nodes };
  numbered = c.numbered;
  listed = c.listed;
  head = c.head;
  head_named = c.head_named;
  form = c.form;
  form_named = c.form_named;
  context = c.context;
  late = c.late;
  lone = c.lone;
}

pub fostering_set : (old new : TreeBuilder) (on : Bool) → new ≡ record old { placing = record old.placing { foster = on } } → (b : Building) → Constructs old b →
    Constructs new (with_fostering on b)
fostering_set old new on e b c = subst (λ (s : TreeBuilder). Constructs s (with_fostering on b)) (sym e) (record {
  tree = fostering_built old.tree b.tree on c.tree;
  foster = refl;
  in_head = c.in_head;
  mode = c.mode;
  original = c.original;
  template_modes = c.template_modes;
  frameset_ok = c.frameset_ok;
  scripting = c.scripting;
  quirks = c.quirks;
  unread = c.unread;
  pending = c.pending;
  skip = c.skip;
  tokenizer = c.tokenizer;
})

pub fostering_limits : (old new : TreeBuilder) (on : Bool) → new ≡ record old { placing = record old.placing { foster = on } } → RemembersLimits old new
fostering_limits old new on e within = record {
  fault = sym (ap (λ (s : TreeBuilder). s.fault) e) ∙ within.fault;
  depth = sym (ap (λ (s : TreeBuilder). s.too_deep) e) ∙ within.depth;
}

pub run_fostered : (old first second new : TreeBuilder) (kind : Run) (cs : List ℕ) → first ≡ record old { placing = record old.placing { foster = true } } →
    new ≡ record second { placing = record second.placing { foster = false } } → InsertsInBody kind cs first second → FostersRun kind cs old new
run_fostered old first second new kind cs e f by within b c =
    fostering_set second new false f _ (by (fostering_limits second new false f within) (with_fostering true b) (fostering_set old first true e b c))

-- ---- another token comes

no_text_placed : (s : TreeBuilder) (cs : List ℕ) → cs ≡ [] → PlacesText cs s s
no_text_placed s cs none flag within b c = subst (λ (letters : Bool). Constructs s (text_placed letters cs b)) (sym (flag ∙ ap (λ (xs : List ℕ). not (list_all is_space xs)) none))
    (subst (λ (xs : List ℕ). Constructs s (text_placed false xs b)) (sym none) c)

no_bytes : (bytes : List ℕ) → is_empty bytes ≡ true → bytes ≡ []
no_bytes [] e = refl
no_bytes (x ∷ xs) e = absurd (true≢false (sym e))

pub nothing_placed : (s : TreeBuilder) (text cs : List ℕ) → is_empty text ≡ true → text ≡ encode_utf8_all cs → PlacesText cs s s
nothing_placed s text cs none spelt = no_text_placed s cs (none_encoded cs (sym spelt ∙ no_bytes text none))

-- the text holds some character
some_character : (text : List ℕ) (R : Type 0) → is_empty text ≡ false → text ≡ encode_utf8_all [] → R
some_character text R some spelt = absurd (true≢false (sym (ap (λ (bytes : List ℕ). is_empty bytes) spelt) ∙ some))

pub spaces_placed : (old new : TreeBuilder) (text cs : List ℕ) → is_empty text ≡ false → text ≡ encode_utf8_all cs → old.table_text_has_letters ≡ false →
    ((x : ℕ) (xs : List ℕ) → text ≡ encode_utf8_all (x ∷ xs) → Inserts (x ∷ xs) old new) → PlacesText cs old new
spaces_placed old new text [] some spelt off rule flag within b stands = some_character text (Constructs new (text_placed old.table_text_has_letters [] b)) some spelt
spaces_placed old new text (x ∷ xs) some spelt off rule flag within b stands =
    subst (λ (letters : Bool). Constructs new (text_placed letters (x ∷ xs) b)) (sym off) (rule x xs spelt within b stands)

pub letters_placed : (old new : TreeBuilder) (text cs : List ℕ) → is_empty text ≡ false → text ≡ encode_utf8_all cs → old.table_text_has_letters ≡ true →
    ((x : ℕ) (xs : List ℕ) → text ≡ encode_utf8_all (x ∷ xs) → FostersRun Run.Letters (x ∷ xs) old new) → PlacesText cs old new
letters_placed old new text [] some spelt on rule flag within b stands = some_character text (Constructs new (text_placed old.table_text_has_letters [] b)) some spelt
letters_placed old new text (x ∷ xs) some spelt on rule flag within b stands =
    subst (λ (letters : Bool). Constructs new (text_placed letters (x ∷ xs) b)) (sym on) (rule x xs spelt within b stands)

-- the mode is switched back before the text is placed
pub text_taken : (old first new : TreeBuilder) (left : String Global) → first ≡ record old { mode = old.original; table_text = left } → ((cs : List ℕ) → string_bytes old.table_text ≡ encode_utf8_all cs → PlacesText cs first new) →
    SettlesText old new
text_taken old first new left e by keeps plain within b c =
    let in_text : old.mode ≡ Mode.InTableText = keeps_is old.mode keeps in
    let was = c.pending in_text in
    let flag : old.table_text_has_letters ≡ not (list_all is_space b.pending) = was.1 in
    let turned : not (list_all is_space (reverse b.pending)) ≡ not (list_all is_space b.pending) = ap not (all_reversed is_space b.pending) in
    let kept : first.table_text_has_letters ≡ old.table_text_has_letters = ap (λ (s : TreeBuilder). s.table_text_has_letters) e in
    subst (λ (letters : Bool). Constructs new (text_placed letters (reverse b.pending) (record b { mode = b.original }))) (kept ∙ flag)
    (by (reverse b.pending) was.0 (kept ∙ flag ∙ sym turned) within (record b { mode = b.original })
    (subst (λ (s : TreeBuilder). Constructs s (record b { mode = b.original })) (sym e) (record {
      tree = c.tree;
      foster = c.foster;
      in_head = c.in_head;
      mode = c.original (ap returns_later in_text);
      original = λ h. absurd (not_returning old.original plain h);
      template_modes = c.template_modes;
      frameset_ok = c.frameset_ok;
      scripting = c.scripting;
      quirks = c.quirks;
      unread = λ h. absurd (true≢false (sym plain ∙ ap is_entered_plainly h));
      pending = λ h. absurd (true≢false (sym plain ∙ ap is_entered_plainly h));
      skip = c.skip;
      tokenizer = c.tokenizer;
    })))
  where
    not_returning : (m : Mode) → is_entered_plainly m ≡ true → returns_later m ≡ true → ⊥
    not_returning Mode.Initial e h = true≢false (sym e)
    not_returning Mode.Text e h = true≢false (sym e)
    not_returning Mode.InTableText e h = true≢false (sym e)
    not_returning _ e h = true≢false (sym h)
