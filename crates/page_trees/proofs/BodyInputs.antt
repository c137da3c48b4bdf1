-- What the rules for "in body" make of the start tags of `input` and `select`.
use Rattle.std.proofs.Common.{◌≡◌, ℕ, Bool, true, false, ◌&&◌, ◌||◌, not, List, [], ◌∷◌, codes, map, refl, sym, ap, subst, ◌∙◌, true≢false}
use Rattle.std.specs.Option.{option_map_or}
use Rattle.std.specs.Prelude.{Some, encode_utf8_all, find, if◌then◌else◌, option_map, reverse, string_bytes}
use Rattle.std.specs.Str.{bytes_eq, str_eq_ignore_ascii_case}
use Rattle.standard_tokens.specs.Entries.{Ending, Starting, TagKind}
use Rattle.standard_tokens.specs.Machine.{Tag as StandardTag, distinct, token_of}
use Rattle.standard_tokens.specs.Tokens.{AStart, AnEnd, Attr}
use Rattle.standard_trees.specs.Building.{Building, is_text, perform, token_attrs, with_tree}
use Rattle.standard_trees.specs.GrowingTree.{GrowingTree, has_in_scope, has_value, is_among, is_named, lower, popped_until, value_of}
use Rattle.standard_trees.specs.RuleWords.{Act, Action, AttributeTypeHidden, FramesetNotOk, InBody, InScope, InsertElement, Pop, PopUntil, ReconstructFormatting, Scope as DefaultScope, These, does, is, isnt}
use Rattle.standard_trees.specs.TreeRules.{rules}
use Rattle.standard_trees.specs.TreeStore.{NoSpace, NodeAttr}
use Rattle.page_tokens.specs.Standard.{AreAttrs}
use Rattle.page_tokens.specs.declared.attribute.TagAttr.{TagAttr}
use Rattle.page_tokens.specs.declared.token.Tag.{Tag}
use Rattle.page_trees.specs.BodyTags.{ActsFor, ChangesTree, Continues, acted}
use Rattle.page_trees.specs.Constructs.{Constructs, IsCurrentTag, Outcome, Performs, PerformsFor, RemembersLimits, WithinLimits}
use Rattle.page_trees.specs.Foreign.{is_hidden_by}
use Rattle.page_trees.specs.Groups.{body_rules_for, example_of, group_named}
use Rattle.page_trees.specs.Modes.{is_start_kind}
use Rattle.page_trees.specs.Stands.{Tells, closed_in}
use Rattle.page_trees.specs.declared.builder.Next.{Next}
use Rattle.page_trees.specs.declared.builder.TreeBuilder.{TreeBuilder}
use Rattle.page_trees.specs.declared.modes.groups.Group.{Group}
use Rattle.page_trees.specs.declared.name.Name.{Name}
use Rattle.page_trees.proofs.BodyRules.{choice, kind_start, started_by}
use Rattle.page_trees.proofs.BodyStarts.{still}
use Rattle.page_trees.proofs.ClosedEntries.{no_frameset}
use Rattle.page_trees.proofs.DoctypeTexts.{same_bytes, same_text}

-- ---- whether an `input` is hidden

abbrev plain : Attr → NodeAttr
plain a = record { space = NoSpace; name = a.name; value = a.value }

type_bytes : codes "type" ≡ encode_utf8_all (codes "type")
unfolding lib.Utf8.encode
type_bytes = refl

abbrev hides : List ℕ → Bool
hides value = is_text value (codes "hidden")

or_false : (b : Bool) → b ≡ (b || false)
or_false true = refl
or_false false = refl

value_hides : (bytes value : List ℕ) → bytes ≡ encode_utf8_all value → hides bytes ≡ (hides value || false)
value_hides bytes value e = ap hides e ∙ same_text (codes "hidden") refl value ∙ or_false (hides value)

attrs_hide : (ones : List TagAttr) (others : List Attr) → AreAttrs ones others → is_hidden_by ones ≡ has_value (codes "type") (codes "hidden" ∷ []) (map plain others)
attrs_hide [] [] are = refl
attrs_hide [] (other ∷ others) are = absurd are
attrs_hide (one ∷ ones) [] are = absurd are
attrs_hide (one ∷ ones) (other ∷ others) are =
    by (bytes_eq (string_bytes one.name) (codes "type")) (bytes_eq other.name (codes "type"))
    (same_bytes (string_bytes one.name) (codes "type") other.name (codes "type") are.0.name type_bytes) (attrs_hide ones others are.1)
  where
    by : (x y : Bool) → x ≡ y → is_hidden_by ones ≡ has_value (codes "type") (codes "hidden" ∷ []) (map plain others) →
        option_map_or (λ kind. str_eq_ignore_ascii_case kind (codes "hidden"))
        (option_map (λ (attr : TagAttr). string_bytes attr.value) (if x then Some one else find (λ (attr : TagAttr). bytes_eq (string_bytes attr.name) (codes "type")) ones)) false
        ≡ option_map_or (λ value. is_among (lower value) (codes "hidden" ∷ [])) (elim y [ true ↦ Some other.value | false ↦ value_of (codes "type") (map plain others) ]) false
    by true true e rest = value_hides (string_bytes one.value) other.value are.0.value
    by false false e rest = rest
    by true false e rest = absurd (true≢false e)
    by false true e rest = absurd (true≢false (sym e))

token_hides : (standard : StandardTag) (tag : Tag) → AreAttrs tag.attrs.items (distinct (reverse standard.attrs)) → standard.kind ≡ Starting →
    is_hidden_by tag.attrs.items ≡ has_value (codes "type") (codes "hidden" ∷ []) (token_attrs (token_of standard))
token_hides standard tag are starts =
    attrs_hide tag.attrs.items (distinct (reverse standard.attrs)) are
    ∙ sym (ap (λ (kind : TagKind). has_value (codes "type") (codes "hidden" ∷ [])
    (token_attrs (elim kind [ Starting ↦ AStart standard.name (distinct (reverse standard.attrs)) standard.self_closing | Ending ↦ AnEnd standard.name ]))) starts)

abbrev is_hidden : Building → Bool
is_hidden b = has_value (codes "type") (codes "hidden" ∷ []) b.attrs

pub hidden_is : (name : Name) (tag : Tag) (b : Building) → IsCurrentTag name tag b → is_start_kind tag.kind ≡ true → is_hidden_by tag.attrs.items ≡ has_value (codes "type") (codes "hidden" ∷ []) b.attrs
hidden_is name tag b c starts =
    token_hides c.standard tag c.is.attrs (sym c.is.kind ∙ kind_start tag.kind starts)
    ∙ ap (has_value (codes "type") (codes "hidden" ∷ [])) (sym (c.attrs ∙ ap token_attrs c.token))

-- ---- the flag of framesets

abbrev flag : Act
flag = does FramesetNotOk (isnt AttributeTypeHidden ∷ [])

abbrev flag_if : Bool → Building → Building
flag_if h b = elim (not h && true) [ true ↦ perform FramesetNotOk b | false ↦ b ]

pub input_flagged : (tag : Tag) (old : TreeBuilder) (h : Bool) → h ≡ is_hidden_by tag.attrs.items → h ≡ false → ActsFor Name.Input tag (flag ∷ []) old (record old { frameset_ok = false })
input_flagged tag old h e f starts within b current stands =
    subst (λ y. Constructs (record old { frameset_ok = false }) (flag_if y b)) (sym f ∙ e ∙ hidden_is Name.Input tag b current starts) (no_frameset old b stands)

pub input_unflagged : (tag : Tag) (s : TreeBuilder) (h : Bool) → h ≡ is_hidden_by tag.attrs.items → h ≡ true → ActsFor Name.Input tag (flag ∷ []) s s
input_unflagged tag s h e t starts within b current stands =
    subst (λ y. Constructs s (flag_if y b)) (sym t ∙ e ∙ hidden_is Name.Input tag b current starts) stands

-- it may as well be set before the element is inserted
flag_first : (h : Bool) (b : Building) →
    perform Pop (perform InsertElement (perform ReconstructFormatting (flag_if h b))) ≡ flag_if h (perform Pop (perform InsertElement (perform ReconstructFormatting b)))
unfolding perform
flag_first true b = refl
flag_first false b = refl

-- ---- `input`

pub input_named : (name : Name) → group_named name ≡ Group.Input → name ≡ Name.Input
input_named Name.Input e = refl
input_named _ e = absurd (cc)

abbrev tree_if : Bool → GrowingTree → GrowingTree → GrowingTree
tree_if x t u = elim x [ true ↦ t | false ↦ u ]

abbrev act_if : Bool → Action → Building → Building
act_if x action b = elim x [ true ↦ perform action b | false ↦ b ]

abbrev select : List (List ℕ)
select = codes "select" ∷ []

abbrev input_rest : List Act
input_rest = does ReconstructFormatting [] ∷ does InsertElement [] ∷ does Pop [] ∷ flag ∷ []

abbrev input_acts : List Act
input_acts = does (PopUntil (These select)) (is (InScope DefaultScope (These select)) ∷ []) ∷ input_rest

abbrev unless : Bool → List Act → List Act
unless x acts = elim (x && true) [ true ↦ [] | false ↦ acts ]

abbrev is_context : GrowingTree → Bool
is_context t = option_map_or (is_named select) t.context false

input_row : (b : Building) → choice b (body_rules_for (example_of Group.Input)) ≡ unless (is_context b.tree) input_acts
unfolding rules
input_row b = refl

-- the `select` is closed, the flag is set, and the element is inserted
input_done : (b : Building) (new : TreeBuilder) (x : Bool) →
    Constructs new (perform Pop (perform InsertElement (perform ReconstructFormatting (flag_if (is_hidden b) (with_tree b (tree_if x (popped_until select b.tree) b.tree)))))) →
    Constructs new (acted input_rest (act_if (x && true) (PopUntil (These select)) b))
unfolding perform
input_done b new true c = subst (Constructs new) (flag_first (is_hidden b) (with_tree b (popped_until select b.tree))) c
input_done b new false c = subst (Constructs new) (flag_first (is_hidden b) (with_tree b b.tree)) c

still_flagged : (name : Name) (tag : Tag) (b : Building) (h : Bool) → IsCurrentTag name tag b → IsCurrentTag name tag (flag_if h b)
unfolding perform
still_flagged name tag b true c = c
still_flagged name tag b false c = still name tag b (perform FramesetNotOk b) refl refl c

-- what the test of the context element answers
abbrev pub TellsOfContext : TreeBuilder → Bool → Type 0
TellsOfContext s x = Tells is_context s.tree x

pub input_left : (tag : Tag) (s : TreeBuilder) (x : Bool) → TellsOfContext s x → x ≡ true → Continues Group.Input Name.Input tag s s Next.Done
input_left tag s x tells so covers named = record {
  limits = λ within. within;
  rule = λ starts within b current html stands test.
      started_by Group.Input Name.Input tag b s [] refl current starts (input_row b ∙ ap (λ y. unless y input_acts) (sym (tells b.tree stands.tree) ∙ so)) refl stands;
}

pub input_started : (tag : Tag) (old closed flagged new : TreeBuilder) (next : Next) (x : Bool) → TellsOfContext old x → x ≡ false → next ≡ Next.Done →
    ChangesTree (closed_in DefaultScope select) old closed → ActsFor Name.Input tag (flag ∷ []) closed flagged →
    PerformsFor Name.Input tag (ReconstructFormatting ∷ InsertElement ∷ Pop ∷ []) flagged new →
    RemembersLimits old closed → RemembersLimits closed flagged → RemembersLimits flagged new → Continues Group.Input Name.Input tag old new next
unfolding perform
input_started tag old closed flagged new next x tells so done closes flags inserts first second third covers named = record {
  limits = λ within. first (second (third within));
  rule = λ starts within b current html stands test.
      let after : Building = with_tree b (closed_in DefaultScope select b.tree) in
      let now = still Name.Input tag b after refl refl current in
      let one = closes (second (third within)) b stands in
      let two = flags starts (third within) after now one in
      let three = inserts starts within (flag_if (is_hidden b) after) (still_flagged Name.Input tag after (is_hidden b) now) two in
      subst (λ (n : Next). Outcome InBody b new n) (sym done)
      (started_by Group.Input Name.Input tag b new input_acts refl current starts (input_row b ∙ ap (λ y. unless y input_acts) (sym (tells b.tree stands.tree) ∙ so)) refl
      (input_done b new (has_in_scope DefaultScope select b.tree) three));
}

pub reconstructed_then : (tag : Tag) (old mid new : TreeBuilder) (actions : List Action) → Performs (ReconstructFormatting ∷ []) old mid → RemembersLimits mid new →
    PerformsFor Name.Input tag actions mid new → PerformsFor Name.Input tag (ReconstructFormatting ∷ actions) old new
unfolding perform
reconstructed_then tag old mid new actions opens before inserts starts within b current stands =
    inserts starts within (perform ReconstructFormatting b) (still Name.Input tag b (perform ReconstructFormatting b) refl refl current) (opens (before within) b stands)

-- ---- `select`

pub select_named : (name : Name) → group_named name ≡ Group.Select → name ≡ Name.Select
select_named Name.Select e = refl
select_named _ e = absurd (cc)

abbrev select_made : List Act
select_made = does ReconstructFormatting [] ∷ does InsertElement [] ∷ does FramesetNotOk [] ∷ []

abbrev select_acts : Bool → List Act
select_acts x = elim (x && true) [ true ↦ does (PopUntil (These select)) [] ∷ [] | false ↦ select_made ]

select_row : (b : Building) → choice b (body_rules_for (example_of Group.Select)) ≡ unless (is_context b.tree) (select_acts (has_in_scope DefaultScope select b.tree))
unfolding rules
select_row b = refl

pub select_left : (tag : Tag) (s : TreeBuilder) (x : Bool) → TellsOfContext s x → x ≡ true → Continues Group.Select Name.Select tag s s Next.Done
select_left tag s x tells so covers named = record {
  limits = λ within. within;
  rule = λ starts within b current html stands test.
      started_by Group.Select Name.Select tag b s [] refl current starts
      (select_row b ∙ ap (λ y. unless y (select_acts (has_in_scope DefaultScope select b.tree))) (sym (tells b.tree stands.tree) ∙ so)) refl stands;
}

-- the rule where this is no context element
select_choice : (tag : Tag) (b : Building) (x y : Bool) → x ≡ is_context b.tree → x ≡ false → y ≡ has_in_scope DefaultScope select b.tree → choice b (body_rules_for (example_of Group.Select)) ≡ select_acts y
select_choice tag b x y e f g =
    select_row b ∙ ap (λ z. unless z (select_acts (has_in_scope DefaultScope select b.tree))) (sym e ∙ f) ∙ ap select_acts (sym g)

select_closed : (b : Building) (new : TreeBuilder) (y : Bool) → y ≡ has_in_scope DefaultScope select b.tree → y ≡ true → Constructs new (with_tree b (closed_in DefaultScope select b.tree)) →
    Constructs new (perform (PopUntil (These select)) b)
unfolding perform
select_closed b new y e t c = subst (λ z. Constructs new (with_tree b (tree_if z (popped_until select b.tree) b.tree))) (sym e ∙ t) c

pub select_ended : (tag : Tag) (old new : TreeBuilder) (x y : Bool) → TellsOfContext old x → x ≡ false → Tells (has_in_scope DefaultScope select) old.tree y → y ≡ true → RemembersLimits old new →
    ChangesTree (closed_in DefaultScope select) old new → Continues Group.Select Name.Select tag old new Next.Done
select_ended tag old new x y tells so finds there remembers closes covers named = record {
  limits = remembers;
  rule = λ starts within b current html stands test.
      started_by Group.Select Name.Select tag b new (does (PopUntil (These select)) [] ∷ []) refl current starts
      (select_choice tag b x y (tells b.tree stands.tree) so (finds b.tree stands.tree) ∙ ap select_acts there) refl
      (select_closed b new y (finds b.tree stands.tree) there (closes within b stands));
}

same_tree : (s : TreeBuilder) (b : Building) → Constructs s (with_tree b b.tree) → Constructs s b
same_tree s b c = record {
  tree = c.tree;
  foster = c.foster;
  in_head = c.in_head;
  mode = c.mode;
  original = c.original;
  template_modes = c.template_modes;
  frameset_ok = c.frameset_ok;
  scripting = c.scripting;
  quirks = c.quirks;
  unread = c.unread;
  pending = c.pending;
  skip = c.skip;
  tokenizer = c.tokenizer;
}

-- where no `select` is in scope nothing is closed
none_closed : (b : Building) (s : TreeBuilder) (y : Bool) → y ≡ has_in_scope DefaultScope select b.tree → y ≡ false → Constructs s (with_tree b (closed_in DefaultScope select b.tree)) → Constructs s b
none_closed b s y e f c = same_tree s b (subst (λ z. Constructs s (with_tree b (tree_if z (popped_until select b.tree) b.tree))) (sym e ∙ f) c)

pub select_started : (tag : Tag) (old mid new : TreeBuilder) (next : Next) (x y : Bool) → TellsOfContext old x → x ≡ false → Tells (has_in_scope DefaultScope select) old.tree y → y ≡ false → next ≡ Next.Done →
    ChangesTree (closed_in DefaultScope select) old mid → RemembersLimits old mid → RemembersLimits (record mid { frameset_ok = false }) new →
    PerformsFor Name.Select tag (ReconstructFormatting ∷ InsertElement ∷ []) (record mid { frameset_ok = false }) new → Continues Group.Select Name.Select tag old new next
unfolding perform
select_started tag old mid new next x y tells so finds lacks done closes first second inserts covers named =
    let limits : WithinLimits new → WithinLimits mid = λ within. (let w = second within in record { fault = w.fault; depth = w.depth }) in
    record {
      limits = λ within. first (limits within);
      rule = λ starts within b current html stands test.
          let one = none_closed b mid y (finds b.tree stands.tree) lacks (closes (limits within) b stands) in
          let two = inserts starts within (perform FramesetNotOk b) (still Name.Select tag b (perform FramesetNotOk b) refl refl current) (no_frameset mid b one) in
          subst (λ (n : Next). Outcome InBody b new n) (sym done)
          (started_by Group.Select Name.Select tag b new select_made refl current starts
          (select_choice tag b x y (tells b.tree stands.tree) so (finds b.tree stands.tree) ∙ ap select_acts lacks) refl two);
    }
