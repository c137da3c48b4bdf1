-- What a character in a comment does.
use Rattle.std.specs.Prelude.{ℕ, ◌==◌, cond, List, [], ◌∷◌, codes}
use Rattle.page_tokens.specs.declared.tokenizer.comments.CommentStep.{CommentStep}
use Rattle.page_tokens.specs.declared.tokenizer.comments.CommentStep.TheVariants as its
use Rattle.page_tokens.specs.declared.tokenizer.state.CommentState.{CommentState}
use Rattle.page_tokens.specs.declared.tokenizer.state.CommentState.TheVariants.{Bogus, Start, StartDash, Comment, LessThan, LessThanBang}
use Rattle.page_tokens.specs.declared.tokenizer.state.CommentState.TheVariants.{LessThanBangDash, LessThanBangDashDash, EndDash, End}
use Rattle.page_tokens.specs.declared.tokenizer.state.CommentState.TheVariants.{EndBang}

-- the part of a comment's end that was read
abbrev pub begun_end_of : CommentState → List ℕ
begun_end_of StartDash = codes "-"
begun_end_of LessThanBangDash = codes "-"
begun_end_of EndDash = codes "-"
begun_end_of LessThanBangDashDash = codes "--"
begun_end_of End = codes "--"
begun_end_of EndBang = codes "--!"
begun_end_of _ = []

-- what a character comes to
pub data Came : Type 0 where
  Finishes : Came
  Adds : Came  -- the character is added
  Appends : List ℕ → CommentState → Came  -- the text is added
  Resumes : List ℕ → Came  -- the text is added, and the character is read in the comment

abbrev pub came : CommentStep → Came
came its.Ends = Finishes
came its.Letter = Adds
came (its.Then text next) = Appends text.now next
came (its.Again text) = Resumes text.now

abbrev pub came_of : CommentState → ℕ → Came
came_of Bogus c = cond (c == 62) Finishes Adds
came_of Start c = cond (c == 62) Finishes (cond (c == 45) (Appends [] StartDash) (Resumes []))
came_of StartDash c = cond (c == 62) Finishes (cond (c == 45) (Appends [] End) (Resumes (codes "-")))
came_of Comment c = Resumes []
came_of LessThan c = cond (c == 33) (Appends (codes "!") LessThanBang) (cond (c == 60) (Appends (codes "<") LessThan) (Resumes []))
came_of LessThanBang c = cond (c == 45) (Appends [] LessThanBangDash) (Resumes [])
came_of LessThanBangDash c = cond (c == 45) (Appends [] LessThanBangDashDash) (Resumes (codes "-"))
came_of LessThanBangDashDash c =
    cond (c == 62) Finishes (cond (c == 33) (Appends [] EndBang) (cond (c == 45) (Appends (codes "-") End) (Resumes (codes "--"))))
came_of EndDash c = cond (c == 45) (Appends [] End) (Resumes (codes "-"))
came_of End c =
    cond (c == 62) Finishes (cond (c == 33) (Appends [] EndBang) (cond (c == 45) (Appends (codes "-") End) (Resumes (codes "--"))))
came_of EndBang c = cond (c == 62) Finishes (cond (c == 45) (Appends (codes "--!") EndDash) (Resumes (codes "--!")))

-- a null is replaced
abbrev pub shown_of : ℕ → ℕ
shown_of c = cond (c == 0) 0xfffd c

-- in the comment, outside of what may be its end: the state behind a character, and what is added
abbrev pub state_again : ℕ → CommentState
state_again c = cond (c == 60) LessThan (cond (c == 45) EndDash Comment)

abbrev pub added_again : ℕ → List ℕ
added_again c = cond (c == 60) (codes "<") (cond (c == 45) [] (shown_of c ∷ []))
