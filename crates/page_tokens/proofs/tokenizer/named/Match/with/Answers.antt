use Rattle.std.proofs.Common.{◌++◌, ◌∷◌, [], ◌∙◌, subst, ap}
use Rattle.page_tokens.specs.NamedReferences.{read_of, BeginsNoName}
use Rattle.page_tokens.proofs.LongestNames.{is_longest_all, is_longest_on, longest_is_all, longest_stays, settles}
use Rattle.page_tokens.proofs.NameLemmas.{no_name_past_bytes, past_from_not}
use Rattle.page_tokens.proofs.tokenizer.named.Match.with.Goals as goal

pub returns-in_default : goal.returns-in_default
returns-in_default c =
    settles _ c.args.c (no_name_past_bytes (read_of c.args.self.names) c.args.c (past_from_not c.args.c c.in_default.ensures))

pub returns-in_default-with : goal.returns-in_default-with
returns-in_default-with c =
    settles _ c.args.c (subst (λ n. BeginsNoName (read_of c.args.self.names ++ n ∷ [])) c.in-Ok.ensures.1 c.in_default-with.ensures)

pub invariant_of-result : goal.invariant_of-result
invariant_of-result c = record {
  longest =
      is_longest_all _ (read_of c.args.self.names) c.args.c _ (c.in-Some.ensures ∙ ap (λ n. read_of c.args.self.names ++ n ∷ []) c.in-Ok.ensures.1)
      c.in-Some-value.ensures;
}

pub invariant_of-result-in-None : goal.invariant_of-result-in-None
invariant_of-result-in-None c = record {
  longest =
      is_longest_on (read_of c.args.self.names) _ _ _
      (longest_stays _ _ c.args.c (c.in-Some.ensures ∙ ap (λ n. read_of c.args.self.names ++ n ∷ []) c.in-Ok.ensures.1) c.in-None.ensures) c.args.self.longest;
}

pub returns-in-Some-value : goal.returns-in-Some-value
returns-in-Some-value c = record {
  read = c.in-Some.ensures ∙ ap (λ n. read_of c.args.self.names ++ n ∷ []) c.in-Ok.ensures.1;
  longest = longest_is_all _ _ c.in-Some-value.ensures;
}

pub returns-in-None : goal.returns-in-None
returns-in-None c = record {
  read = c.in-Some.ensures ∙ ap (λ n. read_of c.args.self.names ++ n ∷ []) c.in-Ok.ensures.1;
  longest = longest_stays _ _ c.args.c (c.in-Some.ensures ∙ ap (λ n. read_of c.args.self.names ++ n ∷ []) c.in-Ok.ensures.1) c.in-None.ensures;
}
