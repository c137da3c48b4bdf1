use Rattle.std.proofs.Common.{ap, sym, ◌∙◌}
use Rattle.page_trees.specs.Modes.{mode_of}
use Rattle.page_trees.specs.declared.modes.other_tokens.CommentPlace.{CommentPlace}
use Rattle.page_trees.proofs.TokenRules.{comment_taken, foreign_comment, html_mode}
use Rattle.page_trees.proofs.builder.TreeBuilder.insert_comment.Goals as goal

pub returns-then-is_current_foreign-clause-rule : goal.returns-then-is_current_foreign-clause-rule
returns-then-is_current_foreign-clause-rule c cs spelt early within b ends token stands =
    foreign_comment b _ cs token stands.tree.nodes.root (sym (c.is_current_foreign.ensures b.tree stands.tree) ∙ c.if-is_current_foreign.true)
    (c.put_comment.ensures.rule cs spelt within b token stands)

pub returns-in-Here-clause-rule : goal.returns-in-Here-clause-rule
returns-in-Here-clause-rule c cs spelt early within b ends token stands =
    comment_taken c.args.self.now.mode CommentPlace.Here b _ cs early (sym c.comment_place.ensures ∙ c.in-Here.is)
    (sym (c.is_current_foreign.ensures b.tree stands.tree) ∙ c.if-is_current_foreign.false) stands.mode token
    (c.put_comment-in-Here.ensures.rule cs spelt within b token stands)

pub returns-in-Html-clause-rule : goal.returns-in-Html-clause-rule
returns-in-Html-clause-rule c cs spelt early within b ends token stands =
    comment_taken c.args.self.now.mode CommentPlace.Html b _ cs early (sym c.comment_place.ensures ∙ c.in-Html.is)
    (sym (c.is_current_foreign.ensures b.tree stands.tree) ∙ c.if-is_current_foreign.false) stands.mode token
    (c.put_comment_in_html.ensures.rule cs spelt within b (ends (stands.mode ∙ ap mode_of (html_mode c.args.self.now.mode (sym c.comment_place.ensures ∙ c.in-Html.is)))) token stands)

pub returns-in-Document-clause-rule : goal.returns-in-Document-clause-rule
returns-in-Document-clause-rule c cs spelt early within b ends token stands =
    comment_taken c.args.self.now.mode CommentPlace.Document b _ cs early (sym c.comment_place.ensures ∙ c.in-Document.is)
    (sym (c.is_current_foreign.ensures b.tree stands.tree) ∙ c.if-is_current_foreign.false) stands.mode token
    (c.put_comment_at_top.ensures.rule cs spelt within b token stands)

pub returns-in-Nowhere-clause-rule : goal.returns-in-Nowhere-clause-rule
returns-in-Nowhere-clause-rule c cs spelt early within b ends token stands =
    comment_taken c.args.self.now.mode CommentPlace.Nowhere b _ cs early (sym c.comment_place.ensures ∙ c.in-Nowhere.is)
    (sym (c.is_current_foreign.ensures b.tree stands.tree) ∙ c.if-is_current_foreign.false) stands.mode token stands
