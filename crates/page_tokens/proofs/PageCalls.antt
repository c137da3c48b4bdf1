-- One call after another, in a page.
use Rattle.std.specs.Prelude.{◌≡◌, ℕ, ◌+◌, ◌<◌, ◌≤◌, ◌==◌, ◌&&◌, Bool, true, false, not, List, [], ◌∷◌, ◌++◌, length, Option, None, Some, Result, Ok, Err, encode_utf8, refl}
use Rattle.std.proofs.Common.{arith, inl, inr}
use Rattle.std.specs.Borrow.{Bor}
use Rattle.std.specs.List.{list_all}
use Rattle.std.specs.Option.{is_some}
use Rattle.std.specs.Str.{encode_utf8_all}
use Rattle.std.proofs.lemmas.Bool.{and_parts, true≢false}
use Rattle.std.proofs.lemmas.List.{append_assoc, length-append}
use Rattle.std.proofs.lemmas.List.Folds.{list_all-append}
use Rattle.std.proofs.lemmas.Option.{none-some}
use Rattle.std.proofs.lemmas.Str.{encodes-append}
use mathlib.Core.Path.{◌∙◌, sym, ap, subst}
use Rattle.page_tokens.specs.FastPaths.{IsApart, ReadsAny, ToldLast}
use Rattle.page_tokens.specs.Standard.{FollowsStandard}
use Rattle.page_tokens.specs.StandardPages.{ReadsAsStandard, ReadsOn, ReadsOnAsStandard, ReadsUpTo, UpTo, told_or}
use Rattle.page_tokens.specs.TextStates.{wants_characters_of}
use Rattle.page_tokens.specs.declared.token.TokenKind.{TokenKind}
use Rattle.page_tokens.specs.declared.tokenizer.Tokenizer.{Tokenizer}
use Rattle.page_tokens.specs.declared.tokenizer.references.Reference.TheVariants as reference
use Rattle.page_tokens.proofs.AnyState.{outside}
use Rattle.page_tokens.proofs.AttrFollows.{longer, some_bytes}
use Rattle.page_tokens.proofs.PageTexts.{MovesOn, alone_read, moved_on, no_text, of_any, then_any, then_on_text, then_text_if, without_returns}
use Rattle.page_tokens.proofs.RunsApart.{wants_none}

-- ---- the kind of the token

told_alone : (told : Option TokenKind) → told ≡ told_or told None
told_alone None = refl
told_alone (Some kind) = refl

none_ends : (told : Option TokenKind) → None ≡ told_or told None → told ≡ None
none_ends None e = refl
none_ends (Some kind) e = absurd (none-some kind e)

-- a call that found no kind stored leaves one that is stored
pub same_kind : {R : List ℕ → Option TokenKind → Type 0} (text rest : List ℕ) (before : Option TokenKind) → UpTo R text rest None None → UpTo R text rest before before
same_kind text rest before up = record { read = up.read; told = up.told; cut = up.cut; reads = up.reads; kind = sym (ap (λ k. told_or k before) (none_ends up.told up.kind)) }

pub kept_kind : {R : List ℕ → Option TokenKind → Type 0} (text rest : List ℕ) (before after : Option TokenKind) → after ≡ before → UpTo R text rest None None → UpTo R text rest before after
kept_kind {R} text rest before after kept up = subst (λ k. UpTo R text rest before k) (sym kept) (same_kind text rest before up)

-- and replaces it when a token ended
pub new_kind : {R : List ℕ → Option TokenKind → Type 0} (text rest : List ℕ) (made before : Option TokenKind) (some : Bool) → some ≡ is_some made → some ≡ true → UpTo R text rest None made → UpTo R text rest before made
new_kind text rest None before some is ended up = absurd (true≢false (sym ended ∙ is))
new_kind text rest (Some kind) before some is ended up = record { read = up.read; told = up.told; cut = up.cut; reads = up.reads; kind = up.kind ∙ of up.told up.kind }
  where
    of : (told : Option TokenKind) → Some kind ≡ told_or told None → told_or told None ≡ told_or told before
    of None e = absurd (none-some kind (sym e))
    of (Some other) e = refl

pub no_kind : (made : Option TokenKind) (some : Bool) → some ≡ is_some made → some ≡ false → made ≡ None
no_kind None some is no_some = refl
no_kind (Some kind) some is no_some = absurd (true≢false (sym is ∙ no_some))

-- ---- one call after another

joined_cut : (text mid rest first second : List ℕ) → text ≡ encode_utf8_all first ++ mid → mid ≡ encode_utf8_all second ++ rest → text ≡ encode_utf8_all (first ++ second) ++ rest
joined_cut text mid rest first second one other =
    one ∙ ap (λ e. encode_utf8_all first ++ e) other ∙ sym (append_assoc (encode_utf8_all first) (encode_utf8_all second) rest) ∙ ap (λ e. e ++ rest) (sym (encodes-append first second))

-- what was read by a call that told nothing
untold : {R : List ℕ → Option TokenKind → Type 0} (text rest : List ℕ) (up : UpTo R text rest None None) → R up.read None
untold {R} text rest up = subst (R up.read) (none_ends up.told up.kind) up.reads

-- where memory may run out
pub on_up_to : (a b c : Tokenizer) (text mid rest : List ℕ) (before after : Option TokenKind) → (b.refused ≡ false → UpTo (ReadsOn a b) text mid None None) → (c.refused ≡ false → UpTo (ReadsOn b c) mid rest before after) →
    c.refused ≡ false → UpTo (ReadsOn a c) text rest before after
on_up_to a b c text mid rest before after first second free =
    let other : UpTo (ReadsOn b c) mid rest before after = second free in
    let one : UpTo (ReadsOn a b) text mid None None = first other.reads.memory in
    record {
      read = one.read ++ other.read;
      told = other.told;
      cut = joined_cut text mid rest one.read other.read one.cut other.cut;
      reads = then_on_text a b c one.read other.read other.told (untold text mid one) other.reads;
      kind = other.kind;
    }

-- the second call stops itself where characters have to be told
any_up_to_on : (a b c : Tokenizer) (text mid rest : List ℕ) (before after : Option TokenKind) → (b.refused ≡ false → ReadsUpTo a b text mid None None) → (c.refused ≡ false → UpTo (ReadsOn b c) mid rest before after) →
    c.refused ≡ false → ReadsUpTo a c text rest before after
any_up_to_on a b c text mid rest before after first second free =
    let other : UpTo (ReadsOn b c) mid rest before after = second free in
    let one : ReadsUpTo a b text mid None None = first other.reads.memory in
    record {
      read = one.read ++ other.read;
      told = other.told;
      cut = joined_cut text mid rest one.read other.read one.cut other.cut;
      reads = then_any a b c one.read other.read other.told (untold text mid one) other.reads;
      kind = other.kind;
    }

-- the first one is a run
run_up_to_on : (a b c : Tokenizer) (text mid rest : List ℕ) (before after : Option TokenKind) → IsApart a b → (b.refused ≡ false → UpTo (ReadsOn a b) text mid None None) → (c.refused ≡ false → ReadsUpTo b c mid rest before after) →
    c.refused ≡ false → ReadsUpTo a c text rest before after
run_up_to_on a b c text mid rest before after apart first second free =
    let other : ReadsUpTo b c mid rest before after = second free in
    let one : UpTo (ReadsOn a b) text mid None None = first other.reads.memory in
    record {
      read = one.read ++ other.read;
      told = other.told;
      cut = joined_cut text mid rest one.read other.read one.cut other.cut;
      reads = then_text_if a b c one.read other.read other.told (of_any a b one.read None (untold text mid one)) (wants_none a b apart) other.reads;
      kind = other.kind;
    }

pub nothing_up_to : (old : Tokenizer) (text : List ℕ) → old.refused ≡ false → UpTo (ReadsOn old old) text text None None
nothing_up_to old text free = record { read = []; told = None; cut = refl; reads = no_text old free; kind = refl }

pub of_any_up_to : (old new : Tokenizer) (text rest : List ℕ) (before after : Option TokenKind) → UpTo (ReadsOn old new) text rest before after → ReadsUpTo old new text rest before after
of_any_up_to old new text rest before after up = record { read = up.read; told = up.told; cut = up.cut; reads = of_any old new up.read up.told up.reads; kind = up.kind }

-- characters don't have to be told
any_of_up_to : (old new : Tokenizer) (text rest : List ℕ) (before after : Option TokenKind) → wants_characters_of old ≡ false → ReadsUpTo old new text rest before after → UpTo (ReadsOn old new) text rest before after
any_of_up_to old new text rest before after wants up =
    record { read = up.read; told = up.told; cut = up.cut; reads = record { memory = up.reads.memory; in_foreign = up.reads.in_foreign; reads = up.reads.reads wants }; kind = up.kind }

-- ---- what is read at once

front_text : (old new : Tokenizer) (read : List ℕ) (told : Option TokenKind) → old.reference ≡ reference.None → old.after_return ≡ false → list_all (λ c. not (c == 13)) read ≡ true → FollowsStandard old new read told → ToldLast told old new read →
    ReadsOn old new read told
front_text old new read None none plain all follows last = without_returns old new read plain all (outside old new read None none follows)
front_text old new read (Some kind) none plain all follows last =
    let each : (list_all (λ c. not (c == 13)) last.front && list_all (λ c. not (c == 13)) (last.last ∷ [])) ≡ true =
    sym (list_all-append (λ c. not (c == 13)) last.front (last.last ∷ [])) ∙ ap (list_all (λ c. not (c == 13))) (sym last.is) ∙ all in
    let parts : (list_all (λ c. not (c == 13)) last.front ≡ true) × (list_all (λ c. not (c == 13)) (last.last ∷ []) ≡ true) =
    and_parts (list_all (λ c. not (c == 13)) last.front) (list_all (λ c. not (c == 13)) (last.last ∷ [])) each in
    let begins : ReadsOn old last.mid last.front None = without_returns old last.mid last.front plain parts.0 (outside old last.mid last.front None none last.begins) in
    let ends : ReadsOn last.mid new (last.last ∷ []) (Some kind) =
    alone_read last.mid new last.last (Some kind) (last.begins.leaves.after_return ∙ plain) (no_return last.last parts.1) (outside last.mid new (last.last ∷ []) (Some kind) last.outside last.ends) in
    subst (λ r. ReadsOn old new r (Some kind)) (sym last.is) (then_on_text old last.mid new last.front (last.last ∷ []) (Some kind) begins ends)
  where
    no_true : (x : Bool) → (not x && true) ≡ true → x ≡ false
    no_true true e = absurd (true≢false (sym e))
    no_true false e = refl

    no_return : (c : ℕ) → list_all (λ c. not (c == 13)) (c ∷ []) ≡ true → (c == 13) ≡ false
    no_return c h = no_true (c == 13) h

pub any_up_to : (old mid new : Tokenizer) (text rest : List ℕ) (told before after : Option TokenKind) → MovesOn mid new → before ≡ None → after ≡ told → ReadsAny old mid text rest told → new.refused ≡ false → UpTo (ReadsOn old new) text rest before after
any_up_to old mid new text rest told before after moves none after_is (inl same) free =
    let memory : old.refused ≡ false = sym (ap (λ t. t.refused) moves ∙ ap (λ t. t.refused) same.1) ∙ free in
    record {
      read = [];
      told = None;
      cut = sym same.0;
      reads = moved_on old mid new [] None moves (subst (λ t. ReadsOn old t [] None) (sym same.1) (no_text old memory));
      kind = after_is ∙ same.2 ∙ sym none;
    }
any_up_to old mid new text rest told before after moves none after_is (inr front) free = record {
  read = front.read;
  told = told;
  cut = front.cut;
  reads = moved_on old mid new front.read told moves (let memory : mid.refused ≡ false = sym (ap (λ t. t.refused) moves) ∙ free in front_text old mid front.read told front.outside front.fresh front.no_return (front.follows memory) (front.last memory));
  kind = after_is ∙ told_alone told ∙ ap (told_or told) (sym none);
}

pub run_up_to : (old new : Tokenizer) (text rest : List ℕ) → ReadsAny old new text rest None → new.refused ≡ false → UpTo (ReadsOn old new) text rest None None
run_up_to old new text rest any free = any_up_to old new new text rest None None None refl refl refl any free

-- where nothing was read, nothing changed
pub unread : (old new : Tokenizer) (text rest : List ℕ) (told : Option TokenKind) → length text ≤ length rest → ReadsAny old new text rest told → (new ≡ old) × (told ≡ None)
unread old new text rest told long (inl same) = (same.1, same.2)
unread old new text rest told long (inr front) = absurd (omega (arith, long, shorter))
  where
    some : (cs : List ℕ) → 0 < length cs → 0 < length (encode_utf8_all cs)
    some [] h = absurd (omega (arith, h))
    some (c ∷ cs) h = longer (encode_utf8 c) (encode_utf8_all cs) (some_bytes c)

    shorter : length rest < length text
    shorter =
        let h : 0 < length (encode_utf8_all front.read) = some front.read front.some in
        let e : length text ≡ length (encode_utf8_all front.read) + length rest = ap length front.cut ∙ length-append (encode_utf8_all front.read) rest in
        omega (arith, h, e)

-- a call that reads one character where nothing was read at once
pub unread_up_to : (old mid new : Tokenizer) (text left rest : List ℕ) (told before between after : Option TokenKind) → length text ≤ length left → ReadsAny old mid text left told → before ≡ None → between ≡ told →
    (between ≡ None → new.refused ≡ false → ReadsUpTo mid new text rest between after) → new.refused ≡ false → ReadsUpTo old new text rest before after
unread_up_to old mid new text left rest told before between after long any none between_is reads free =
    let same : (mid ≡ old) × (told ≡ None) = unread old mid text left told long any in
    subst (λ t. ReadsUpTo t new text rest before after) same.0
    (subst (λ k. ReadsUpTo mid new text rest k after) (between_is ∙ same.1 ∙ sym none) (reads (between_is ∙ same.1) free))

-- ---- of a call's result

pub unread_arm : {E : Type 0} (old mid new : Tokenizer) (text left : List ℕ) (told before between after : Option TokenKind) (r : Result (Bor (List ℕ)) E) → length text ≤ length left → ReadsAny old mid text left told → before ≡ None →
    between ≡ told → (between ≡ None → ReadsAsStandard mid new text between after r) → ReadsAsStandard old new text before after r
unread_arm old mid new text left told before between after (Ok rest) long any none between_is reads = unread_up_to old mid new text left rest.now told before between after long any none between_is reads
unread_arm old mid new text left told before between after (Err e) long any none between_is reads = tt

-- a call that reads on, where no token was told before
pub then_arm : {E : Type 0} (a b c : Tokenizer) (text mid : List ℕ) (made before after : Option TokenKind) (r : Result (Bor (List ℕ)) E) → made ≡ None → (b.refused ≡ false → ReadsUpTo a b text mid None made) → ReadsOnAsStandard b c mid before after r →
    ReadsAsStandard a c text before after r
then_arm a b c text mid made before after (Ok rest) none first second = any_up_to_on a b c text mid rest.now before after (λ free. subst (λ k. ReadsUpTo a b text mid None k) none (first free)) second
then_arm a b c text mid made before after (Err e) none first second = tt

-- a run, and then a call that reads on
pub run_arm : {E : Type 0} (a b c : Tokenizer) (text mid : List ℕ) (before after : Option TokenKind) (r : Result (Bor (List ℕ)) E) → IsApart a b → (b.refused ≡ false → UpTo (ReadsOn a b) text mid None None) → ReadsAsStandard b c mid before after r →
    ReadsAsStandard a c text before after r
run_arm a b c text mid before after (Ok rest) apart first second = run_up_to_on a b c text mid rest.now before after apart first second
run_arm a b c text mid before after (Err e) apart first second = tt

-- what is told where a run was read, and no characters have to be told
pub front_up_to : (a b c : Tokenizer) (text mid rest : List ℕ) (was made : Option TokenKind) → was ≡ None → wants_characters_of b ≡ false → (b.refused ≡ false → UpTo (ReadsOn a b) text mid None None) →
    (c.refused ≡ false → ReadsUpTo b c mid rest was made) → c.refused ≡ false → UpTo (ReadsOn a c) text rest None made
front_up_to a b c text mid rest was made none wants first second =
    on_up_to a b c text mid rest None made first (λ free. any_of_up_to b c mid rest None made wants (subst (λ k. ReadsUpTo b c mid rest k made) none (second free)))

pub none_made : {R : List ℕ → Option TokenKind → Type 0} (text rest : List ℕ) (made : Option TokenKind) → made ≡ None → UpTo R text rest None made → UpTo R text rest None None
none_made {R} text rest made none up = subst (λ k. UpTo R text rest None k) none up
