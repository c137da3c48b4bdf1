-- Where a fragment begins, the reader stands where the definitions begin (13.4).
use Rattle.std.proofs.Common.{◌≡◌, ◌∙◌, [], Bool, ap, inl, inr, refl, subst, sym, ℕ, ◌⊎◌}
use Rattle.standard_tokens.specs.Machine.{start, start_in}
use Rattle.standard_tokens.specs.States.{Data}
use Rattle.standard_trees.specs.Building.{Building, Surroundings, fragment_start}
use Rattle.standard_trees.specs.GrowingTree.{in_foreign}
use Rattle.standard_trees.specs.Parsing.{first_state}
use Rattle.standard_order.specs.Beginnings.{OfFragment}
use Rattle.page_tokens.specs.PageLaws.{PagesBegin}
use Rattle.page_tokens.specs.Reading.{text_of}
use Rattle.page_tokens.specs.Standard.{Held, Holds, ReferenceHeld, Stands}
use Rattle.page_tokens.specs.StandardPages.{IsTextState}
use Rattle.page_tokens.specs.StandardStates.{state_in, state_of}
use Rattle.page_tokens.specs.declared.tokenizer.Tokenizer.{Tokenizer}
use Rattle.page_tokens.specs.declared.tokenizer.references.Reference.{Reference}
use Rattle.page_tokens.specs.declared.tokenizer.references.Reference.TheVariants as reference
use Rattle.page_tokens.specs.declared.tokenizer.state.State.{State}
use Rattle.page_tokens.specs.declared.tokenizer.state.State.TheVariants as state
use Rattle.page_trees.specs.Constructs.{Constructs, WithinLimits}
use Rattle.page_trees.specs.Contexts.{state_in_context}
use Rattle.page_trees.specs.PagesRead.{HasBuilt, IsNew}
use Rattle.page_trees.specs.Stands.{Tells}
use Rattle.page_trees.specs.declared.reading.PageReader.{PageReader}
use Rattle.page_trees.proofs.PageFlags.{foreign_alike}
use Rattle.page_trees.proofs.PageTurns.{text_begun}

-- ---- the tokenizer

-- at the beginning it is in no reference
in_none : (t : Tokenizer) (r : Reference) (outer : State) → Data ≡ state_in r outer → ReferenceHeld r t [] start → ⊥
in_none t reference.None outer e held = held
in_none t reference.Begun outer e held = cc
in_none t (reference.Named found) outer e held = cc
in_none t reference.Ambiguous outer e held = cc
in_none t reference.Number outer e held = cc
in_none t reference.HexStart outer e held = cc
in_none t (reference.Hex number) outer e held = cc
in_none t (reference.Decimal number) outer e held = cc

stands_first : (t : Tokenizer) → Holds t [] start → Stands t [] start
stands_first t (inl stands) = stands
stands_first t (inr inside) = absurd (in_none t t.reference t.state inside.state inside.inside)

text_held : (t : Tokenizer) (s : State) → IsTextState s → Held s t [] (start_in (state_of s))
text_held t state.Data is = refl
text_held t state.Rcdata is = refl
text_held t state.Rawtext is = refl
text_held t state.Script is = refl
text_held t state.Plaintext is = refl
text_held t _ is = absurd is

stands_in : (t : Tokenizer) (s : State) (foreign : Bool) → IsTextState s → Stands t [] start →
    Stands (record t { state = s; in_foreign = foreign }) [] (start_in (state_of s))
stands_in t s foreign is stands = record {
  reference = stands.reference;
  state = refl;
  last_start = stands.last_start;
  held = text_held (record t { state = s; in_foreign = foreign }) s is;
}

-- ---- the reader

pub fragment_begun : (scripting : Bool) (around : Surroundings) (old new : PageReader) (s : State) → PagesBegin → IsNew scripting old →
    new.tokens ≡ record old.tokens { state = s; in_foreign = new.tokens.in_foreign } → IsTextState s →
    ((b : Building) → Constructs new.builder b → state_of s ≡ state_in_context b) → Tells in_foreign new.builder.tree new.tokens.in_foreign →
    (WithinLimits new.builder → Constructs new.builder (fragment_start scripting around)) → HasBuilt (OfFragment scripting around) [] new
fragment_begun scripting around old new s law fresh tokens text first flag builds within =
    text_begun (OfFragment scripting around) new law (ap (λ (t : Tokenizer). t.after_return) tokens ∙ fresh.tokens.after_return)
    (ap text_of tokens ∙ fresh.empty) (inl holds) (foreign_alike new.builder.tree _ stands.tree ∙ sym (flag _ stands.tree)) (sym stands.tokenizer)
    stands within
  where
    stands : Constructs new.builder (fragment_start scripting around)
    stands = builds within

    holds : Stands new.tokens [] (start_in (first_state scripting around))
    holds = subst (λ one. Stands new.tokens [] (start_in one)) (first (fragment_start scripting around) stands)
        (subst (λ (t : Tokenizer). Stands t [] (start_in (state_of s))) (sym tokens)
        (stands_in old.tokens s new.tokens.in_foreign text (stands_first old.tokens fresh.tokens.holds)))
