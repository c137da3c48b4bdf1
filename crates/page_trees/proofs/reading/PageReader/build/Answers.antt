use Rattle.std.proofs.Common.{subst}
use Rattle.std.specs.Prelude.{Some, [], ◌∷◌}
use Rattle.page_tokens.specs.Standard.{Told}
use Rattle.page_trees.proofs.ToldTokens.{comment_told, doctype_told}
use Rattle.page_trees.proofs.reading.PageReader.build.Goals as goal

pub returns-in-Tag-clause-builds : goal.returns-in-Tag-clause-builds
returns-in-Tag-clause-builds c token told plain =
    c.build_tag.ensures.builds token (subst (λ k. Told (Some k) c.args.self.now.tokens (token ∷ [])) c.in-Tag.is told) plain

pub returns-in-Comment-clause-builds : goal.returns-in-Comment-clause-builds
returns-in-Comment-clause-builds c token told plain =
    comment_told c.args.self.now.tokens _ token _ _ c.comment.ensures c.comment-in-Comment.ensures.tokens
    (subst (λ k. Told (Some k) c.args.self.now.tokens (token ∷ [])) c.in-Comment.is told)

pub returns-in-Doctype-clause-builds : goal.returns-in-Doctype-clause-builds
returns-in-Doctype-clause-builds c token told plain =
    doctype_told c.args.self.now.tokens _ token _ _ c.doctype.ensures c.doctype-in-Doctype.ensures.tokens
    (subst (λ k. Told (Some k) c.args.self.now.tokens (token ∷ [])) c.in-Doctype.is told)
