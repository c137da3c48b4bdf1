-- A tag without attributes is read at once as the standard reads it.
use Rattle.std.specs.Prelude.{◌≡◌, ℕ, suc, ◌+◌, ◌<◌, Bool, true, false, not, ◌==◌, List, [], ◌∷◌, ◌++◌, map, length, take, drop, get_or, Option, None, string_bytes, refl}
use Rattle.std.proofs.Common.{arith, inr}
use Rattle.std.specs.Char.{encode_utf8, is_ascii_alphabetic, to_ascii_lowercase}
use Rattle.std.specs.List.{list_all, prefix_len}
use Rattle.std.specs.Str.{IsUtf8, encode_utf8_all}
use Rattle.std.proofs.lemmas.Bool.{true≢false}
use Rattle.std.proofs.lemmas.List.{append_assoc, take-append-drop}
use Rattle.std.proofs.lemmas.Str.{char_from_byte, encode_ascii}
use mathlib.Core.Path.{◌∙◌, sym, ap, subst}
use Rattle.standard_tokens.specs.Entries.{NewTag, Reconsume, Switch}
use Rattle.standard_tokens.specs.Machine.{Machine, at_state, taken}
use Rattle.standard_tokens.specs.States as there
use Rattle.standard_tokens.specs.Table.{entries}
use Rattle.page_tokens.specs.FastPaths.{IsOutside, ReadsAny, ReadsFront}
use Rattle.page_tokens.specs.Runs.{ends_tag_name, tag_name_len_of}
use Rattle.page_tokens.specs.Standard.{EmitsTag, FollowsStandard, Goes, Held, IsDraft, Keeps, kind_of}
use Rattle.page_tokens.specs.StandardStates.{state_of}
use Rattle.page_tokens.specs.Tags.{opening}
use Rattle.page_tokens.specs.declared.token.TagKind.{TagKind}
use Rattle.page_tokens.specs.declared.token.TagKind.TheVariants as kind
use Rattle.page_tokens.specs.declared.token.TokenKind.{TokenKind}
use Rattle.page_tokens.specs.declared.tokenizer.Tokenizer.{Tokenizer}
use Rattle.page_tokens.specs.declared.tokenizer.draft.TagDraft.{TagDraft}
use Rattle.page_tokens.specs.declared.tokenizer.state.State.TheVariants as state
use Rattle.page_tokens.specs.declared.tokenizer.state.TagState.TheVariants as tag
use Rattle.page_tokens.proofs.DeclarationFollows.{led}
use Rattle.page_tokens.proofs.Fronts.{front_on, one_read}
use Rattle.page_tokens.proofs.RunFollows.{NoneEnds, all_lowered, gathered_by}
use Rattle.page_tokens.proofs.RunRead.{front_passes, no_return}
use Rattle.page_tokens.proofs.RunStates.{name_step}
use Rattle.page_tokens.proofs.RunSteps.{characters_of_run}
use Rattle.page_tokens.proofs.StandardSteps.{by_entry, in_its_state, taking, then_on}
use Rattle.page_tokens.proofs.TagNames.{emitted_tag}
use Rattle.page_tokens.proofs.TagOpens.{end_entry, fresh, no_attrs, start_entry}
use Rattle.page_tokens.proofs.TagSteps.{naming}

-- ---- the machine's steps

-- `<` or `</` before a letter
opens : (which : TagKind) (b : Bool) (m : Machine) (c : ℕ) (rest : List ℕ) → is_ascii_alphabetic c ≡ true → Goes (at_state m there.Data) (opening which ++ (c ∷ rest)) [] (naming (fresh m (kind_of which)) []) (c ∷ rest)
unfolding taken entries
opens kind.Start b m c rest letter =
    then_on (by_entry (at_state m there.Data) (60 ∷ c ∷ rest) (taking [] (Switch there.TagOpen) (60 ∷ [])) (λ x. refl) refl)
    (by_entry (at_state m there.TagOpen) (c ∷ rest) (taking (NewTag (kind_of kind.Start) ∷ []) (Reconsume there.TagName) (c ∷ [])) (λ x. start_entry c letter x m rest) refl)
opens kind.End b m c rest letter =
    then_on (by_entry (at_state m there.Data) (60 ∷ 47 ∷ c ∷ rest) (taking [] (Switch there.TagOpen) (60 ∷ [])) (λ x. refl) refl)
    (then_on (by_entry (at_state m there.TagOpen) (47 ∷ c ∷ rest) (taking [] (Switch there.EndTagOpen) (47 ∷ [])) (λ x. refl) refl)
    (by_entry (at_state m there.EndTagOpen) (c ∷ rest) (taking (NewTag (kind_of kind.End) ∷ []) (Reconsume there.TagName) (c ∷ [])) (λ x. end_entry c letter x m rest) refl))

-- the name begins with a letter, and nothing in it ends it
record IsName (cs : List ℕ) : Type 0 where
  pub first : ℕ
  pub others : List ℕ
  pub are : cs ≡ first ∷ others
  pub letter : is_ascii_alphabetic first ≡ true
  pub all : NoneEnds ends_tag_name cs

named : (which : TagKind) (b : Bool) (m : Machine) (cs rest : List ℕ) → IsName cs →
    Goes (at_state m there.Data) (opening which ++ (cs ++ rest)) [] (naming (fresh m (kind_of which)) (map to_ascii_lowercase cs)) rest
named which b m cs rest is =
    let n : Machine = fresh m (kind_of which) in
    let begun : Goes (at_state m there.Data) (opening which ++ (cs ++ rest)) [] (naming n []) (cs ++ rest) =
    subst (λ t. Goes (at_state m there.Data) (opening which ++ (t ++ rest)) [] (naming n []) (t ++ rest)) (sym is.are) (opens which b m is.first (is.others ++ rest) is.letter) in
    then_on begun (gathered_by to_ascii_lowercase ends_tag_name (naming n) (λ d c rest goes_on. name_step b n d c rest goes_on) [] cs rest is.all)

-- ---- the tag

-- a tag of this kind with this name is being read, without attributes
pub record IsNewTag (draft : TagDraft) (which : TagKind) (bytes : List ℕ) : Type 0 where
  pub kind : draft.kind ≡ which
  pub name : string_bytes draft.name ≡ bytes
  pub attrs : draft.attrs.kept.items ≡ []
  pub attr_name : string_bytes draft.attr_name ≡ []
  pub attr_value : string_bytes draft.attr_value ≡ []
  pub self_closing : draft.self_closing ≡ false

some_bytes : (cs : List ℕ) → IsName cs → 0 < length (encode_utf8_all cs)
some_bytes cs is =
    let one : encode_utf8_all (is.first ∷ is.others) ≡ is.first ∷ encode_utf8_all is.others = ap (λ e. e ++ encode_utf8_all is.others) (encode_ascii is.first (letter_low is.first is.letter)) in
    let more : 0 < length (is.first ∷ encode_utf8_all is.others) = omega arith in
    subst (λ (e : List ℕ). 0 < length e) (sym (ap encode_utf8_all is.are ∙ one)) more
  where
    letter_low : (c : ℕ) → is_ascii_alphabetic c ≡ true → c < 128
    letter_low c h = grind arith

tag_begins : (old mid : Tokenizer) (which : TagKind) (cs : List ℕ) → old.state ≡ state.Data → old.refused ≡ false → mid ≡ record old { state = state.Tag tag.Name; tag = mid.tag } → IsNewTag mid.tag which (encode_utf8_all cs) → IsName cs →
    FollowsStandard old mid (opening which ++ cs) None
tag_begins old mid which cs is none only new_tag name =
    let made : Tokenizer = record old { state = state.Tag tag.Name; tag = mid.tag } in
    subst (λ t. FollowsStandard old t (opening which ++ cs) None) (sym only)
    (led old made (opening which ++ cs) none (record { in_foreign = refl; after_return = refl }) refl (λ m ahead rest stands.
    let b : Bool = old.in_foreign in
    let empty : ahead ≡ [] = subst (λ s. Held s old ahead m) is stands.held in
    let n : Machine = naming (fresh m (kind_of which)) (map to_ascii_lowercase cs) in
    let at : m.state ≡ there.Data = stands.state ∙ ap state_of is in
    let goes : Goes m (opening which ++ (cs ++ rest)) [] n rest = subst (λ k. Goes k (opening which ++ (cs ++ rest)) [] n rest) (in_its_state m there.Data at) (named which b m cs rest name) in
    let draft : IsDraft mid.tag n.tag = record {
      kind = ap kind_of new_tag.kind;
      named = subst (λ (e : List ℕ). 0 < length e) (sym new_tag.name) (some_bytes cs name);
      name = ap (map to_ascii_lowercase) new_tag.name ∙ all_lowered cs;
      attrs = no_attrs mid.tag.attrs.kept.items (string_bytes mid.tag.attr_name) (string_bytes mid.tag.attr_value) new_tag.attrs new_tag.attr_name new_tag.attr_value;
      self_closing = new_tag.self_closing;
    } in
    record {
      machine = n;
      goes = subst (λ front. Goes m (front ++ (opening which ++ cs) ++ rest) [] n rest) (sym empty) (subst (λ t. Goes m t [] n rest) (sym (append_assoc (opening which) cs rest)) goes);
      stands = record { reference = stands.reference; state = refl; last_start = stands.last_start; held = (refl, draft) };
    }))

-- the tag is emitted as it is where its name is being read
emits_named : (mid new : Tokenizer) (told : Option TokenKind) → Keeps mid new → (0 < length (string_bytes mid.tag.name) → EmitsTag mid new told) → FollowsStandard (record mid { state = state.Tag tag.Name }) new (62 ∷ []) told
unfolding taken entries
emits_named mid new told keeps emits =
    emitted_tag (record mid { state = state.Tag tag.Name }) new (state.Tag tag.Name) told refl (record { memory = keeps.memory; leaves = record { in_foreign = keeps.leaves.in_foreign; after_return = keeps.leaves.after_return } })
    (λ some. let e : EmitsTag mid new told = emits some in record {
      memory = e.memory;
      told_is = e.told_is;
      leaves = record { in_foreign = e.leaves.in_foreign; after_return = e.leaves.after_return };
      now_state = e.now_state;
      same_reference = e.same_reference;
      text = e.text;
      last_tag = e.last_tag;
      last_start = e.last_start;
    }) (λ b m rest. refl) (λ t ahead m held. held.0) (λ t ahead m held. held.1)

-- ---- the bytes

opening_spelled : (which : TagKind) (cs : List ℕ) → encode_utf8_all (opening which ++ cs) ≡ opening which ++ encode_utf8_all cs
unfolding encode_utf8
opening_spelled kind.Start cs = refl
opening_spelled kind.End cs = refl

low : (c : ℕ) → ends_tag_name c ≡ true → c < 128
low c h = grind arith

letter_low : (c : ℕ) → is_ascii_alphabetic c ≡ true → c < 128
letter_low c h = grind arith

name_of : (cs name : List ℕ) → encode_utf8_all cs ≡ name → 0 < length name → is_ascii_alphabetic (get_or name 0 0) ≡ true → NoneEnds ends_tag_name cs → IsName cs
name_of [] name spelled some letter all = let none : 0 < 0 = subst (λ (bytes : List ℕ). 0 < length bytes) (sym spelled) some in absurd (omega (arith, none))
name_of (c ∷ cs) name spelled some letter all =
    let first : c ≡ get_or name 0 0 = char_from_byte name (encode_utf8_all cs) c (sym spelled) (letter_low (get_or name 0 0) letter) some in
    record { first = c; others = cs; are = refl; letter = ap is_ascii_alphabetic first ∙ letter; all = all }

no_return_in : (which : TagKind) (cs : List ℕ) → list_all (λ c. not (c == 13)) cs ≡ true → list_all (λ c. not (c == 13)) (opening which ++ cs) ≡ true
no_return_in kind.Start cs all = all
no_return_in kind.End cs all = all

some_opening : (which : TagKind) (cs : List ℕ) → 0 < length (opening which ++ cs)
some_opening kind.Start cs = omega arith
some_opening kind.End cs = omega arith

-- the name at the front of a text that begins with a letter
record IsFront (front : List ℕ) (first : ℕ) : Type 0 where
  pub some : 0 < length front
  pub first_is : get_or front 0 0 ≡ first

letter_goes_on : (b : ℕ) → is_ascii_alphabetic b ≡ true → not (ends_tag_name b) ≡ true
letter_goes_on b h = grind arith

is_front : (text : List ℕ) → is_ascii_alphabetic (get_or text 0 0) ≡ true → IsFront (take (tag_name_len_of text) text) (get_or text 0 0)
is_front [] letter = absurd (true≢false (sym letter))
is_front (b ∷ text) letter =
    let one : 1 + prefix_len (λ b. not (ends_tag_name b)) text ≡ suc (prefix_len (λ b. not (ends_tag_name b)) text) = omega arith in
    let begun : IsFront (b ∷ take (prefix_len (λ b. not (ends_tag_name b)) text) text) b = record { some = omega arith; first_is = refl } in
    rw (letter_goes_on b letter, one) begun

-- a tag that begins here is read up to the end of its name
pub tag_front : (old mid : Tokenizer) (which : TagKind) (text front rest : List ℕ) (n : ℕ) → old.state ≡ state.Data → IsOutside old → is_ascii_alphabetic (get_or text 0 0) ≡ true → IsUtf8 front → front ≡ take n text →
    rest ≡ drop n text → n ≡ tag_name_len_of text → mid ≡ record old { tag = mid.tag } → IsNewTag mid.tag which front → ReadsFront old (record mid { state = state.Tag tag.Name }) (opening which ++ text) rest None
tag_front old mid which text front rest n is outside letter utf8 front_is rest_is len only new_tag =
    let cs : List ℕ = utf8.0 in
    let spelled : encode_utf8_all cs ≡ front = utf8.1.1 in
    let front_of : front ≡ take (tag_name_len_of text) text = front_is ∙ ap (λ k. take k text) len in
    let at : IsFront front (get_or text 0 0) = subst (λ (f : List ℕ). IsFront f (get_or text 0 0)) (sym front_of) (is_front text letter) in
    let bytes : list_all (λ b. not (ends_tag_name b)) (encode_utf8_all cs) ≡ true = ap (list_all (λ b. not (ends_tag_name b))) (spelled ∙ front_of) ∙ front_passes (λ b. not (ends_tag_name b)) text in
    let all : NoneEnds ends_tag_name cs = characters_of_run ends_tag_name low cs bytes in
    let name : IsName cs = name_of cs front spelled at.some (ap is_ascii_alphabetic at.first_is ∙ letter) all in
    let tagged : IsNewTag mid.tag which (encode_utf8_all cs) = subst (IsNewTag mid.tag which) (sym spelled) new_tag in
    let begun : Tokenizer = record mid { state = state.Tag tag.Name } in
    let begun_is : begun ≡ record old { state = state.Tag tag.Name; tag = mid.tag } = ap {A = Tokenizer} (λ t. record t { state = state.Tag tag.Name }) only in
    record {
      outside = outside.reference;
      fresh = outside.after_return;
      read = opening which ++ cs;
      some = some_opening which cs;
      cut = ap (λ e. opening which ++ e) (sym (take-append-drop n text) ∙ ap (λ e. e ++ drop n text) (sym front_is) ∙ ap (λ e. front ++ e) (sym rest_is)) ∙ sym (append_assoc (opening which) front rest)
          ∙ ap (λ e. e ++ rest) (sym (opening_spelled which cs ∙ ap (λ e. opening which ++ e) spelled));
      no_return = no_return_in which cs (no_return ends_tag_name cs refl all);
      follows = λ free. tag_begins old begun which cs is (sym (ap (λ t. t.refused) only) ∙ free) begun_is tagged name;
      last = λ free. tt;
    }

-- the `>` behind the name
pub named_end : (mid new : Tokenizer) (text rest : List ℕ) (told : Option TokenKind) → IsOutside mid → text ≡ 62 ∷ rest → (new.refused ≡ false → Keeps mid new) →
    (0 < length (string_bytes mid.tag.name) → new.refused ≡ false → EmitsTag mid new told) → ReadsAny (record mid { state = state.Tag tag.Name }) new text rest told
named_end mid new text rest told outside cut keeps emits =
    one_read (record mid { state = state.Tag tag.Name }) new 62 text rest told (record { reference = outside.reference; after_return = outside.after_return }) (omega arith) refl cut
    (λ free. emits_named mid new told (keeps free) (λ some. emits some free))

-- a tag whose name `>` follows
pub bare_read : (old mid new : Tokenizer) (which : TagKind) (text front left rest : List ℕ) (n : ℕ) (told : Option TokenKind) → old.state ≡ state.Data → IsOutside old → is_ascii_alphabetic (get_or text 0 0) ≡ true → IsUtf8 front → front ≡ take n text →
    left ≡ drop n text → n ≡ tag_name_len_of text → mid ≡ record old { tag = mid.tag } → IsNewTag mid.tag which front → left ≡ 62 ∷ rest → (new.refused ≡ false → Keeps mid new) →
    (0 < length (string_bytes mid.tag.name) → new.refused ≡ false → EmitsTag mid new told) → ReadsAny old new (opening which ++ text) rest told
bare_read old mid new which text front left rest n told is outside letter utf8 front_is left_is len only new_tag cut keeps emits =
    inr (front_on old (record mid { state = state.Tag tag.Name }) new (opening which ++ text) left rest told (tag_front old mid which text front left n is outside letter utf8 front_is left_is len only new_tag)
    (named_end mid new left rest told (outside_on only) cut keeps emits))
  where
    outside_on : mid ≡ record old { tag = mid.tag } → IsOutside mid
    outside_on e = record { reference = ap (λ t. t.reference) e ∙ outside.reference; after_return = ap (λ t. t.after_return) e ∙ outside.after_return }
