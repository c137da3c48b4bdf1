-- What the builder's calls come to, each for one token.
use Rattle.std.proofs.Common.{◌≡◌, Bool, true, false, ◌||◌, [], ◌∷◌, List, ℕ, refl, reverse, sym, ap, ◌∙◌, subst, true≢false}
use Rattle.std.specs.Option.{option_and_then, option_or}
use Rattle.std.specs.Prelude.{Err, None, Option, Some, string_bytes}
use Rattle.std.specs.Borrow.{Bor}
use Rattle.standard_tokens.specs.Entries.{Ending, Starting, TagKind as StandardKind}
use Rattle.standard_tokens.specs.Machine.{Tag as StandardTag, distinct, token_of}
use Rattle.standard_tokens.specs.Tokens.{AComment, ADoctype, AnEof, AStart, AnEnd, Doctype as StandardDoctype, Token as StandardToken}
use Rattle.standard_trees.specs.Building.{Building, is_line_feed, token_attrs}
use Rattle.standard_trees.specs.RuleWords.{AfterBody, Dispatcher, Mode as StandardMode}
use Rattle.page_tokens.specs.PlainNames.{has_plain_names}
use Rattle.page_tokens.specs.Standard.{IsTag}
use Rattle.page_tokens.specs.declared.token.Tag.{Tag}
use Rattle.page_trees.specs.Constructs.{IsCurrentTag, RemembersLimits, WithinLimits, first_fault}
use Rattle.page_trees.specs.CoveredTurns.{ProcessesToken, TakesTokens, covered_turn, covers, covers_comment, covers_doctype}
use Rattle.standard_order.specs.Order.{has_html}
use Rattle.page_trees.specs.Names.{name_of}
use Rattle.page_trees.specs.TableTexts.{SettlesText}
use Rattle.page_trees.specs.TokenSteps.{ProcessesBy, TakesComment, keeps_characters}
use Rattle.page_trees.specs.declared.builder.Met.{Met}
use Rattle.page_trees.specs.declared.builder.Next.{Next}
use Rattle.page_trees.specs.declared.builder.TreeBuilder.{TreeBuilder}
use Rattle.page_trees.specs.declared.fault.PageFault.{PageFault}
use Rattle.page_trees.specs.declared.modes.Token.{Token}
use Rattle.page_trees.proofs.BoundedTurns.{covers_it}
use Rattle.page_trees.proofs.BuilderSteps.{was_ok}
use Rattle.page_trees.proofs.NamesSpelled.{name_spelled}
use Rattle.page_trees.proofs.ToldTokens.{tag_named}
use Rattle.page_trees.proofs.SettledTokens.{taken_settled}
use Rattle.page_trees.proofs.TokenTurns.{taken_alone, taken_at_once}
use Rattle.page_trees.proofs.TurnsPassed.{turn_passes}

-- ---- limits that were met

abbrev pub met_by : TreeBuilder → Met
met_by s = record { fault = s.fault; too_deep = s.too_deep }

-- noted again
abbrev pub noting : Met → TreeBuilder → TreeBuilder
noting met s = record s { fault = option_or met.fault s.fault; too_deep = s.too_deep || met.too_deep }

no_fault : (one other : Option PageFault) → option_or one other ≡ None → (one ≡ None) × (other ≡ None)
no_fault None other e = (refl, e)
no_fault (Some fault) other e = absurd (cc)

not_deep : (x y : Bool) → x || y ≡ false → (x ≡ false) × (y ≡ false)
not_deep false y e = (refl, e)
not_deep true y e = absurd (true≢false e)

-- what is noted again is what was met by the old state
pub noted_then : (old mid new : TreeBuilder) (met : Met) → met ≡ met_by old → new ≡ noting met mid → new ≡ noting (met_by old) mid
noted_then old mid new met is e = e ∙ ap (λ (m : Met). noting m mid) is

pub noted_before : (old mid new : TreeBuilder) → new ≡ noting (met_by old) mid → RemembersLimits old new
noted_before old mid new e within = record {
  fault = (no_fault old.fault mid.fault (sym (ap (λ (s : TreeBuilder). s.fault) e) ∙ within.fault)).0;
  depth = (not_deep mid.too_deep old.too_deep (sym (ap (λ (s : TreeBuilder). s.too_deep) e) ∙ within.depth)).1;
}

-- within the limits, nothing is noted
noting_none : (met : Met) (s : TreeBuilder) → met.fault ≡ None → met.too_deep ≡ false → s.too_deep ≡ false → noting met s ≡ s
noting_none met s fault deep shallow = let
    one : noting met s ≡ record s { fault = option_or None s.fault; too_deep = s.too_deep || false } =
    ap (λ (f : Option PageFault). record s { fault = option_or f s.fault; too_deep = s.too_deep || met.too_deep }) fault
    ∙ ap (λ (b : Bool). record s { fault = s.fault; too_deep = s.too_deep || b }) deep
    in one ∙ ap (λ (b : Bool). record s { fault = s.fault; too_deep = b }) (or_false s.too_deep)
  where
    or_false : (x : Bool) → x || false ≡ x
    or_false true = refl
    or_false false = refl

pub noted_after : (old mid new : TreeBuilder) → new ≡ noting (met_by old) mid → WithinLimits new → new ≡ mid
noted_after old mid new e within =
    let faults = no_fault old.fault mid.fault (sym (ap (λ (s : TreeBuilder). s.fault) e) ∙ within.fault) in
    let deeps = not_deep mid.too_deep old.too_deep (sym (ap (λ (s : TreeBuilder). s.too_deep) e) ∙ within.depth) in
    e ∙ noting_none (met_by old) mid faults.0 deeps.1 deeps.0

same_again : (o : Option PageFault) → option_or o o ≡ o
same_again None = refl
same_again (Some fault) = refl

twice : (x : Bool) → x || x ≡ x
twice true = refl
twice false = refl

pub noted_same : (old mid new : TreeBuilder) → mid ≡ old → new ≡ noting (met_by old) mid → new ≡ old
noted_same old mid new same e =
    e ∙ ap (noting (met_by old)) same ∙ ap (λ (f : Option PageFault). record old { fault = f; too_deep = old.too_deep || old.too_deep }) (same_again old.fault)
    ∙ ap (λ (b : Bool). record old { fault = old.fault; too_deep = b }) (twice old.too_deep)

-- ---- tags

no_line_feed : (standard : StandardTag) → is_line_feed (token_of standard) ≡ false
no_line_feed standard = by standard.kind
  where
    by : (k : StandardKind) → is_line_feed (elim k [ Starting ↦ AStart standard.name (distinct (reverse standard.attrs)) standard.self_closing | Ending ↦ AnEnd standard.name ]) ≡ false
    by Starting = refl
    by Ending = refl

pub tag_taken : (standard : StandardTag) (tag : Bor Tag) (old mid new : TreeBuilder) → IsTag standard tag.now → has_plain_names (token_of standard) ≡ true →
    mid ≡ record old { skip_line_feed = false } → ProcessesToken (Token.Tag (name_of (string_bytes tag.now.name)) tag) mid new → TakesTokens (token_of standard ∷ []) old new
tag_taken standard tag old mid new is plain e rule =
    taken_alone (token_of standard) old mid new (no_line_feed standard) (λ b stands covered. e)
    (λ within b token attrs stands depth c runs. rule within [] b (current b token attrs, refl) stands depth c (ap (option_and_then (λ x. Some x)) runs))
  where
    current : (b : Building) → b.token ≡ token_of standard → b.attrs ≡ token_attrs (token_of standard) → IsCurrentTag (name_of (string_bytes tag.now.name)) tag.now b
    current b token attrs = record {
      standard = standard;
      is = is;
      written = tag_named standard plain;
      plain = plain;
      named = ap name_of is.name ∙ name_spelled standard.name;
      token = token;
      attrs = attrs ∙ ap token_attrs (sym token);
    }

-- no memory for the name of the tag
pub none_kept : (old new : TreeBuilder) (fault : PageFault) (token : Token) → new ≡ record old { fault = first_fault old.fault (Err fault) } → ProcessesToken token old new
none_kept old new fault token e within others b current stands depth c h =
    absurd (was_ok old.fault (Err fault) ⊥ (sym (ap (λ (s : TreeBuilder). s.fault) e) ∙ within.fault) tt)

-- ---- the end of the page

pub end_taken : (old mid new : TreeBuilder) → mid ≡ record old { skip_line_feed = false } → ProcessesToken Token.End mid new → TakesTokens (AnEof ∷ []) old new
end_taken old mid new e rule =
    taken_alone AnEof old mid new refl (λ b stands covered. e)
    (λ within b token attrs stands depth c runs. rule within [] b (token, refl) stands depth c (ap (option_and_then (λ x. Some x)) runs))

-- ---- comments and doctypes

in_html : (m : StandardMode) (b : Building) → covers_comment m b ≡ true → m ≡ AfterBody → has_html b ≡ true
in_html m b covered e = subst (λ (x : StandardMode). covers_comment x b ≡ true) e covered

-- pending table character tokens come first
pub comment_whole : (cs : List ℕ) (old first mid new : TreeBuilder) → first ≡ record old { skip_line_feed = false } → (keeps_characters first.mode ≡ false → mid ≡ first) → SettlesText first mid →
    RemembersLimits mid new → (keeps_characters mid.mode ≡ false → TakesComment cs mid new) → TakesTokens (AComment cs ∷ []) old new
comment_whole cs old first mid new e same settles limits rule =
    taken_settled (AComment cs) old first mid new refl refl e same settles limits
    (λ b keeps covered. subst (λ (m : StandardMode). covers_comment m b ≡ true) keeps covered)
    (λ early within b token stands depth c runs.
    let covered : covers_comment b.mode b ≡ true = sym (ap (λ (t : StandardToken). covers t b) token) ∙ covers_it b (turn_passes covered_turn depth b c runs) in
    taken_at_once b c new depth (rule early within b (in_html b.mode b covered) token stands) runs)

pub doctype_whole : (d : StandardDoctype) (old first mid new : TreeBuilder) → first ≡ record old { skip_line_feed = false } → (keeps_characters first.mode ≡ false → mid ≡ first) →
    SettlesText first mid → RemembersLimits mid new → (keeps_characters mid.mode ≡ false → ProcessesBy Dispatcher (ADoctype d) mid new Next.Done) → TakesTokens (ADoctype d ∷ []) old new
doctype_whole d old first mid new e same settles limits rule =
    taken_settled (ADoctype d) old first mid new refl refl e same settles limits
    (λ b keeps covered. subst (λ (m : StandardMode). covers_doctype m b ≡ true) keeps covered)
    (λ early within b token stands depth c runs. taken_at_once b c new depth (rule early within b token stands) runs)
