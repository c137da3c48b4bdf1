-- The frequent references are read at once as the standard reads them.
use Rattle.std.specs.Prelude.{◌≡◌, ℕ, Bool, true, false, not, ◌==◌, ◌&&◌, cond, List, [], ◌∷◌, ◌++◌, map, length, take, drop, codes, None, Some, refl}
use Rattle.std.proofs.Common.{arith, inl, inr}
use Rattle.std.specs.Char.{encode_utf8}
use Rattle.std.specs.List.{list_all}
use Rattle.std.specs.Str.{encode_utf8_all}
use Rattle.std.proofs.lemmas.List.{append-nil, drop_at}
use mathlib.Core.Path.{◌∙◌, sym, ap, subst}
use Rattle.standard_tokens.specs.Entries.{Add, Buffer, BufferName, Flush, Reconsume, ReturnTo, SetEmpty, Switch, SwitchBack, These}
use Rattle.standard_tokens.specs.Machine.{Machine, at_state, emitted, ends_open, goes_on, is_value, longest_name, taken, value_of}
use Rattle.standard_tokens.specs.NamedReferences.{named_references}
use Rattle.standard_tokens.specs.States as there
use Rattle.standard_tokens.specs.States.{State as StandardState}
use Rattle.standard_tokens.specs.Table.{entries}
use Rattle.standard_tokens.specs.Tokens.{AChar}
use Rattle.page_tokens.specs.Changes.{Gains}
use Rattle.page_tokens.specs.FastPaths.{BeginsFrequent, IsFrequent, PutsMeant, ReadsAny, amp, gt, lt, nbsp, quot}
use Rattle.page_tokens.specs.References.{EndsReference}
use Rattle.page_tokens.specs.Standard.{AllowsReference, FollowsStandard, Goes, Held, Leaves}
use Rattle.page_tokens.specs.StandardStates.{state_of}
use Rattle.page_tokens.specs.declared.tokenizer.Tokenizer.{Tokenizer}
use Rattle.page_tokens.specs.declared.tokenizer.references.Reference.{Reference}
use Rattle.page_tokens.specs.declared.tokenizer.references.Reference.TheVariants as reference
use Rattle.page_tokens.specs.declared.tokenizer.state.AttrState.TheVariants as attr
use Rattle.page_tokens.specs.declared.tokenizer.state.Place.TheVariants as place
use Rattle.page_tokens.specs.declared.tokenizer.state.Quote.TheVariants as quote
use Rattle.page_tokens.specs.declared.tokenizer.state.State.{State}
use Rattle.page_tokens.specs.declared.tokenizer.state.State.TheVariants as state
use Rattle.page_tokens.proofs.ReferenceEnds.{Flushed, Outside, flushed, flushing, place_of_reference}
use Rattle.page_tokens.proofs.StandardSteps.{by_entry, in_its_state, taking, then_on}
use Rattle.page_tokens.proofs.Switches.{ReadsNothingAhead}
use Rattle.page_tokens.proofs.TagMoves.{Entry}

-- ---- where a reference may begin

record Opens (s : State) : Type 0 where
  pub nothing : ReadsNothingAhead s
  pub entry : Entry (state_of s) 38 (ReturnTo (state_of s) ∷ []) (Switch there.CharacterReference)

opens : (s : State) → AllowsReference s → Opens s
unfolding taken entries
opens state.Data allows = record { nothing = λ t ahead m held. held; entry = λ b m rest. refl }
opens state.Rcdata allows = record { nothing = λ t ahead m held. held; entry = λ b m rest. refl }
opens (state.Attribute (attr.Quoted quote.Double)) allows = record { nothing = λ t ahead m held. held.0; entry = λ b m rest. refl }
opens (state.Attribute (attr.Quoted quote.Single)) allows = record { nothing = λ t ahead m held. held.0; entry = λ b m rest. refl }
opens (state.Attribute attr.Unquoted) allows = record { nothing = λ t ahead m held. held.0; entry = λ b m rest. refl }
opens (state.Attribute attr.BeforeName) allows = absurd allows
opens (state.Attribute attr.Name) allows = absurd allows
opens (state.Attribute attr.AfterName) allows = absurd allows
opens (state.Attribute attr.BeforeValue) allows = absurd allows
opens (state.Attribute attr.AfterQuoted) allows = absurd allows
opens state.Rawtext allows = absurd allows
opens state.Script allows = absurd allows
opens state.Plaintext allows = absurd allows
opens (state.Cdata inner) allows = absurd allows
opens (state.Tag inner) allows = absurd allows
opens (state.EndTag kind inner) allows = absurd allows
opens (state.ScriptData inner) allows = absurd allows
opens (state.Declaration seen) allows = absurd allows
opens (state.Comment inner) allows = absurd allows
opens (state.Doctype inner) allows = absurd allows

-- ---- the names

-- what the machine finds of a name
pub record IsNamed (name : List ℕ) (c : ℕ) : Type 0 where
  pub longest : (rest : List ℕ) → longest_name (name ++ rest) ≡ Some name
  pub means : value_of name ≡ c ∷ []
  pub closed : ends_open name ≡ false
  pub begins : (b : Bool) (m : Machine) (rest : List ℕ) → taken b (at_state m there.CharacterReference) (name ++ rest) (entries there.CharacterReference)
      ≡ taking (SetEmpty Buffer ∷ Add Buffer (These (codes "&")) ∷ []) (Reconsume there.NamedCharacterReference) (take 1 name)
  pub spelled : encode_utf8_all (38 ∷ name) ≡ 38 ∷ name
  pub no_return : list_all (λ c. not (c == 13)) (38 ∷ name) ≡ true

is_named : (name : List ℕ) (c : ℕ) → IsFrequent name c → IsNamed name c
unfolding longest_name value_of named_references taken entries encode_utf8
is_named name c amp = record { longest = λ rest. refl; means = refl; closed = refl; begins = λ b m rest. refl; spelled = refl; no_return = refl }
is_named name c gt = record { longest = λ rest. refl; means = refl; closed = refl; begins = λ b m rest. refl; spelled = refl; no_return = refl }
is_named name c lt = record { longest = λ rest. refl; means = refl; closed = refl; begins = λ b m rest. refl; spelled = refl; no_return = refl }
is_named name c quot = record { longest = λ rest. refl; means = refl; closed = refl; begins = λ b m rest. refl; spelled = refl; no_return = refl }
is_named name c nbsp = record { longest = λ rest. refl; means = refl; closed = refl; begins = λ b m rest. refl; spelled = refl; no_return = refl }

-- ---- the machine's steps

no_part : (x y : Bool) → (x && false && y) ≡ false
no_part true y = refl
no_part false y = refl

-- in the named character reference state, with this buffer
abbrev in_name : StandardState → Machine → List ℕ → Machine
in_name back m buffer = record m { state = there.NamedCharacterReference; return_state = back; buffer = buffer }

to_name : (b : Bool) (m : Machine) (s : StandardState) (name : List ℕ) (c : ℕ) (rest : List ℕ) → Entry s 38 (ReturnTo s ∷ []) (Switch there.CharacterReference) → IsNamed name c →
    Goes (at_state m s) (38 ∷ (name ++ rest)) [] (in_name s m (codes "&")) (name ++ rest)
to_name b m s name c rest entry is =
    let n : Machine = record m { state = there.CharacterReference; return_state = s } in
    then_on (by_entry (at_state m s) (38 ∷ (name ++ rest)) (taking (ReturnTo s ∷ []) (Switch there.CharacterReference) (38 ∷ [])) (λ x. entry x m (name ++ rest)) refl)
    (by_entry n (name ++ rest) (taking (SetEmpty Buffer ∷ Add Buffer (These (codes "&")) ∷ []) (Reconsume there.NamedCharacterReference) (take 1 name)) (λ x. is.begins x n rest) refl)

over_name : (b : Bool) (m : Machine) (s : StandardState) (name : List ℕ) (c : ℕ) (rest : List ℕ) → IsNamed name c →
    Goes (in_name s m (codes "&")) (name ++ rest) (emitted [] Flush (in_name s m (c ∷ [])) ++ []) (flushing (in_name s m (c ∷ []))) rest
unfolding taken entries
over_name b m s name c rest is =
    let n : Machine = in_name s m (codes "&") in
    let test : (is_value s && ends_open name && goes_on (drop (length name) (name ++ rest))) ≡ false =
    ap (λ x. is_value s && x && goes_on (drop (length name) (name ++ rest))) is.closed ∙ no_part (is_value s) (goes_on (drop (length name) (name ++ rest))) in
    let step : Goes n (name ++ rest) (emitted [] Flush (in_name s m (value_of name)) ++ []) (flushing (in_name s m (value_of name))) (drop (length name) (name ++ rest)) =
    by_entry n (name ++ rest) (taking (BufferName ∷ Flush ∷ []) SwitchBack name) (λ x. rw (is.longest rest, test) refl) refl in
    subst (λ t. Goes n (name ++ rest) (emitted [] Flush (in_name s m (c ∷ [])) ++ []) (flushing (in_name s m (c ∷ []))) t) (drop_at name rest (length name) refl)
    (subst (λ v. Goes n (name ++ rest) (emitted [] Flush (in_name s m v) ++ []) (flushing (in_name s m v)) (drop (length name) (name ++ rest))) is.means step)

-- ---- what the tokenizer puts in its place

-- a text is appended where a reference ends
record Put (old new : Tokenizer) (more : List ℕ) : Type 0 where
  pub ends : EndsReference old new more
  pub leaves : Leaves old new

put_meant : (old new : Tokenizer) (more : List ℕ) (value : Bool) → is_value (state_of old.state) ≡ value → old.reference ≡ reference.None → old.refused ≡ false → PutsMeant value old new more → Put old new more
put_meant old new more true at outside none puts =
    let same : old ≡ record old { reference = reference.None; written = new.written } =
    ap {A = Reference} (λ r. record old { reference = r }) outside ∙ ap (λ w. record old { reference = reference.None; written = w }) (sym (ap (λ t. t.written) puts.0)) in
    let gains : Gains place.AttrValue (record old { reference = reference.None; written = new.written }) new more = (
      puts.0 ∙ ap (λ t. record old { tag = record old.tag { attr_value = new.tag.attr_value }; errors = t.errors; refused = t.refused }) (sym puts.0)
          ∙ ap {A = Tokenizer} (λ t. record t { tag = record old.tag { attr_value = new.tag.attr_value }; errors = new.errors; refused = new.refused }) same,
      puts.1,
    ) in
    record {
      ends = record { memory = none; gains = subst (λ x. Gains (cond x place.AttrValue place.Text) (record old { reference = reference.None; written = new.written }) new more) (sym at) gains };
      leaves = record { in_foreign = ap (λ t. t.in_foreign) puts.0; after_return = ap (λ t. t.after_return) puts.0 };
    }
put_meant old new more false at outside none puts =
    let same : old ≡ record old { reference = reference.None; written = new.written } =
    ap {A = Reference} (λ r. record old { reference = r }) outside ∙ ap (λ w. record old { reference = reference.None; written = w }) (sym (ap (λ t. t.written) puts.0)) in
    let gains : Gains place.Text (record old { reference = reference.None; written = new.written }) new more = (
      puts.0 ∙ ap (λ t. record old { text = new.text; errors = t.errors; refused = t.refused }) (sym puts.0)
          ∙ ap {A = Tokenizer} (λ t. record t { text = new.text; errors = new.errors; refused = new.refused }) same,
      puts.1,
    ) in
    record {
      ends = record { memory = none; gains = subst (λ x. Gains (cond x place.AttrValue place.Text) (record old { reference = reference.None; written = new.written }) new more) (sym at) gains };
      leaves = record { in_foreign = ap (λ t. t.in_foreign) puts.0; after_return = ap (λ t. t.after_return) puts.0 };
    }

-- ---- the reference

pub reference_follows : (old new : Tokenizer) (name : List ℕ) (c : ℕ) → IsFrequent name c → AllowsReference old.state → old.reference ≡ reference.None → old.refused ≡ false →
    PutsMeant (is_value (state_of old.state)) old new (encode_utf8 c) → FollowsStandard old new (38 ∷ name) None
reference_follows old new name c frequent allows outside none puts =
    let is : IsNamed name c = is_named name c frequent in
    let at : Opens old.state = opens old.state allows in
    let put : Put old new (encode_utf8_all (c ∷ [])) =
    put_meant old new (encode_utf8_all (c ∷ [])) (is_value (state_of old.state)) refl outside none (subst (PutsMeant (is_value (state_of old.state)) old new) (sym (append-nil (encode_utf8 c))) puts) in
    record {
      memory = none;
      leaves = put.leaves;
      reads = λ m ahead rest stands.
          let b : Bool = old.in_foreign in
          let s : StandardState = state_of old.state in
          let empty : ahead ≡ [] = at.nothing old ahead m stands.held in
          let n : Machine = in_name s m (codes "&") in
          let k : Machine = in_name s m (c ∷ []) in
          let place : Outside old k = record { back = refl; last_start = stands.last_start; place = place_of_reference old.state old m allows (subst (λ a. Held old.state old a m) empty stands.held) } in
          let to : Flushed old new (λ tokens machine. Goes n (name ++ rest) tokens machine rest) =
          flushed old new k (λ tokens machine. Goes n (name ++ rest) tokens machine rest) place put.ends (over_name b m s name c rest is) in
          let all : Goes (at_state m s) (38 ∷ (name ++ rest)) (map AChar to.characters) to.machine rest = then_on (to_name b m s name c rest at.entry is) to.goes in
          record {
            machine = to.machine;
            ahead' = [];
            characters = to.characters;
            tokens = [];
            goes = subst (λ ts. Goes m (ahead ++ (38 ∷ name) ++ rest) ts to.machine rest) (sym (append-nil (map AChar to.characters)))
                (subst (λ front. Goes m (front ++ (38 ∷ name) ++ rest) (map AChar to.characters) to.machine rest) (sym empty)
                (subst (λ j. Goes j (38 ∷ (name ++ rest)) (map AChar to.characters) to.machine rest) (in_its_state m s stands.state) all));
            holds = inl to.stands;
            text = to.text;
            ends = refl;
          };
    }

pub front_follows : (old new : Tokenizer) (text meant rest : List ℕ) → BeginsFrequent text meant rest → AllowsReference old.state → old.reference ≡ reference.None → old.after_return ≡ false → new.refused ≡ old.refused →
    PutsMeant (is_value (state_of old.state)) old new meant → ReadsAny old new text rest None
front_follows old new text meant rest begins allows outside fresh same puts =
    let is : IsNamed begins.name begins.c = is_named begins.name begins.c begins.is in
    inr (record {
      outside = outside;
      fresh = fresh;
      read = 38 ∷ begins.name;
      some = omega arith;
      cut = begins.cut ∙ ap (λ e. e ++ rest) (sym is.spelled);
      no_return = is.no_return;
      follows = λ free. reference_follows old new begins.name begins.c begins.is allows outside (sym same ∙ free) (subst (PutsMeant (is_value (state_of old.state)) old new) begins.means puts);
      last = λ free. tt;
    })

same_memory : (value : Bool) (old new : Tokenizer) (more : List ℕ) → PutsMeant value old new more → new.refused ≡ old.refused
same_memory true old new more puts = ap (λ t. t.refused) puts.0
same_memory false old new more puts = ap (λ t. t.refused) puts.0

-- what `read_plain_reference` does
pub plain_read : (old new : Tokenizer) (text meant rest : List ℕ) → BeginsFrequent text meant rest → AllowsReference old.state → old.reference ≡ reference.None → old.after_return ≡ false →
    PutsMeant (is_value (state_of old.state)) old new meant → ReadsAny old new text rest None
plain_read old new text meant rest begins allows outside fresh puts =
    front_follows old new text meant rest begins allows outside fresh (same_memory (is_value (state_of old.state)) old new meant puts) puts

-- ---- as they are written

means_amp : codes "&" ≡ encode_utf8 38
unfolding encode_utf8
means_amp = refl

means_gt : codes ">" ≡ encode_utf8 62
unfolding encode_utf8
means_gt = refl

means_lt : codes "<" ≡ encode_utf8 60
unfolding encode_utf8
means_lt = refl

means_quot : (34 ∷ []) ≡ encode_utf8 34
unfolding encode_utf8
means_quot = refl

means_nbsp : (0xc2 ∷ 0xa0 ∷ []) ≡ encode_utf8 0xa0
unfolding encode_utf8
means_nbsp = refl

-- the text begins with such a reference
pub begins_amp : (text rest : List ℕ) → text ≡ codes "&amp;" ++ rest → BeginsFrequent text (codes "&") rest
begins_amp text rest is = record { name = codes "amp;"; c = 38; is = amp; cut = is; means = means_amp }

pub begins_gt : (text rest : List ℕ) → text ≡ codes "&gt;" ++ rest → BeginsFrequent text (codes ">") rest
begins_gt text rest is = record { name = codes "gt;"; c = 62; is = gt; cut = is; means = means_gt }

pub begins_lt : (text rest : List ℕ) → text ≡ codes "&lt;" ++ rest → BeginsFrequent text (codes "<") rest
begins_lt text rest is = record { name = codes "lt;"; c = 60; is = lt; cut = is; means = means_lt }

pub begins_quot : (text rest : List ℕ) → text ≡ codes "&quot;" ++ rest → BeginsFrequent text (34 ∷ []) rest
begins_quot text rest is = record { name = codes "quot;"; c = 34; is = quot; cut = is; means = means_quot }

pub begins_nbsp : (text rest : List ℕ) → text ≡ codes "&nbsp;" ++ rest → BeginsFrequent text (0xc2 ∷ 0xa0 ∷ []) rest
begins_nbsp text rest is = record { name = codes "nbsp;"; c = 0xa0; is = nbsp; cut = is; means = means_nbsp }
