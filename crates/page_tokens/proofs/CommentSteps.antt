-- What a character in a comment does, in the standard.
use Rattle.std.specs.Prelude.{◌≡◌, ℕ, Bool, true, false, ◌==◌, cond, List, [], ◌∷◌, ◌++◌, codes, refl}
use Rattle.std.proofs.lemmas.List.{append-nil}
use mathlib.Core.Path.{sym, subst}
use Rattle.standard_tokens.specs.Entries.{EmitComment, Add, Comment as TheComment, Current, These, replacement, Stay, Switch, Reconsume}
use Rattle.standard_tokens.specs.Machine.{Machine, taken}
use Rattle.standard_tokens.specs.States as there
use Rattle.standard_tokens.specs.States.{State as StandardState}
use Rattle.standard_tokens.specs.Table.{entries}
use Rattle.standard_tokens.specs.Tokens.{Token as StandardToken, AComment}
use Rattle.page_tokens.specs.Comments.{Came, Finishes, Adds, Appends, Resumes, came_of, shown_of, state_again, added_again}
use Rattle.page_tokens.specs.Standard.{Goes, stays}
use Rattle.page_tokens.specs.StandardStates.{comment_state_of}
use Rattle.page_tokens.specs.declared.tokenizer.state.CommentState.{CommentState}
use Rattle.page_tokens.specs.declared.tokenizer.state.CommentState.TheVariants.{Bogus, Start, StartDash, Comment, LessThan, LessThanBang, LessThanBangDash, LessThanBangDashDash, EndDash, End, EndBang}
use Rattle.page_tokens.proofs.StandardSteps.{by_bool, by_entry, by_test, taking, then_on}

abbrev pub commenting : Machine → StandardState → List ℕ → Machine
commenting m state text = record m { state = state; comment = text }

-- from the machine in the comment state, with this comment, in front of c
abbrev From : Bool → Machine → CommentState → List ℕ → ℕ → List ℕ → List StandardToken → Machine → List ℕ → Type 0
From b m state d c rest tokens n behind = Goes (commenting m (comment_state_of state) d) (c ∷ rest) tokens n behind

abbrev pub Comes : Bool → CommentState → Machine → List ℕ → List ℕ → ℕ → Came → Type 0
Comes b state m d rest c Finishes = From b m state d c rest (AComment d ∷ []) (commenting m there.Data d) rest
Comes b state m d rest c Adds = From b m state d c rest [] (commenting m (comment_state_of state) (d ++ shown_of c ∷ [])) rest
Comes b state m d rest c (Appends text next) = From b m state d c rest [] (commenting m (comment_state_of next) (d ++ text)) rest
Comes b state m d rest c (Resumes text) = From b m state d c rest [] (commenting m there.CommentState (d ++ text)) (c ∷ rest)

-- nothing is added
none : {m : Machine} {text rest : List ℕ} {s : StandardState} (n : Machine) (d : List ℕ) → Goes m text [] (commenting n s d) rest → Goes m text [] (commenting n s (d ++ [])) rest
none {m} {text} {rest} {s} n d goes = subst (λ e. Goes m text [] (commenting n s e) rest) (sym (append-nil d)) goes

bogus_letter : (b : Bool) (m : Machine) (d rest : List ℕ) (c : ℕ) → (62 == c) ≡ false → Comes b Bogus m d rest c Adds
unfolding taken entries
bogus_letter b m d rest c h62 =
    by_bool (λ e x. Goes (commenting m there.BogusComment d) (e ∷ rest) [] (commenting m there.BogusComment (d ++ cond x 0xfffd e ∷ [])) rest) c 0
    (by_entry (commenting m there.BogusComment d) (0 ∷ rest) (taking (Add TheComment replacement ∷ []) Stay (0 ∷ [])) (λ x. refl) refl)
    (λ h0. by_entry (commenting m there.BogusComment d) (c ∷ rest) (taking (Add TheComment Current ∷ []) Stay (c ∷ [])) (λ x. rw (h62, h0) refl) refl)

dash_dash : (b : Bool) (m : Machine) (d rest : List ℕ) (c : ℕ) → (45 == c) ≡ false → From b m LessThanBangDash d c rest [] (commenting m there.CommentEndDash d) (c ∷ rest)
unfolding taken entries
dash_dash b m d rest c h45 = by_entry (commenting m there.CommentLessThanSignBangDash d) (c ∷ rest) (taking [] (Reconsume there.CommentEndDash) (c ∷ [])) (λ x. rw h45 refl) refl

to_end : (b : Bool) (m : Machine) (d rest : List ℕ) (c : ℕ) → From b m LessThanBangDashDash d c rest [] (commenting m there.CommentEnd d) (c ∷ rest)
unfolding taken entries
to_end b m d rest c = go (62 == c) refl
  where
    go : (x : Bool) → (62 == c) ≡ x → From b m LessThanBangDashDash d c rest [] (commenting m there.CommentEnd d) (c ∷ rest)
    go true e = by_entry (commenting m there.CommentLessThanSignBangDashDash d) (c ∷ rest) (taking [] (Reconsume there.CommentEnd) (c ∷ [])) (λ x. rw e refl) refl
    go false e = by_entry (commenting m there.CommentLessThanSignBangDashDash d) (c ∷ rest) (taking [] (Reconsume there.CommentEnd) (c ∷ [])) (λ x. rw e refl) refl

-- the end of a comment
at_end : (b : Bool) (m : Machine) (d rest : List ℕ) (c : ℕ) → Comes b End m d rest c (came_of End c)
unfolding taken entries
at_end b m d rest c =
    let M : Machine = commenting m there.CommentEnd d in
    by_test (Comes b End m d rest) c 62 Finishes (cond (c == 33) (Appends [] EndBang) (cond (c == 45) (Appends (codes "-") End) (Resumes (codes "--"))))
    (by_entry M (62 ∷ rest) (taking (EmitComment ∷ []) (Switch there.Data) (62 ∷ [])) (λ x. refl) refl)
    (λ h62. by_test (Comes b End m d rest) c 33 (Appends [] EndBang) (cond (c == 45) (Appends (codes "-") End) (Resumes (codes "--")))
    (none m d (by_entry M (33 ∷ rest) (taking [] (Switch there.CommentEndBang) (33 ∷ [])) (λ x. refl) refl))
    (λ h33. by_test (Comes b End m d rest) c 45 (Appends (codes "-") End) (Resumes (codes "--"))
    (by_entry M (45 ∷ rest) (taking (Add TheComment (These (codes "-")) ∷ []) Stay (45 ∷ [])) (λ x. refl) refl)
    (λ h45. by_entry M (c ∷ rest) (taking (Add TheComment (These (codes "--")) ∷ []) (Reconsume there.CommentState) (c ∷ [])) (λ x. rw (h62, h33, h45) refl) refl)))

pub came_comes : (state : CommentState) (b : Bool) (m : Machine) (d rest : List ℕ) (c : ℕ) → Comes b state m d rest c (came_of state c)
unfolding taken entries
came_comes Comment b m d rest c = none m d stays
came_comes Bogus b m d rest c =
    by_test (Comes b Bogus m d rest) c 62 Finishes Adds
    (by_entry (commenting m there.BogusComment d) (62 ∷ rest) (taking (EmitComment ∷ []) (Switch there.Data) (62 ∷ [])) (λ x. refl) refl)
    (λ h62. bogus_letter b m d rest c h62)
came_comes Start b m d rest c =
    let M : Machine = commenting m there.CommentStart d in
    by_test (Comes b Start m d rest) c 62 Finishes (cond (c == 45) (Appends [] StartDash) (Resumes []))
    (by_entry M (62 ∷ rest) (taking (EmitComment ∷ []) (Switch there.Data) (62 ∷ [])) (λ x. refl) refl)
    (λ h62. by_test (Comes b Start m d rest) c 45 (Appends [] StartDash) (Resumes [])
    (none m d (by_entry M (45 ∷ rest) (taking [] (Switch there.CommentStartDash) (45 ∷ [])) (λ x. refl) refl))
    (λ h45. none m d (by_entry M (c ∷ rest) (taking [] (Reconsume there.CommentState) (c ∷ [])) (λ x. rw (h45, h62) refl) refl)))
came_comes StartDash b m d rest c =
    let M : Machine = commenting m there.CommentStartDash d in
    by_test (Comes b StartDash m d rest) c 62 Finishes (cond (c == 45) (Appends [] End) (Resumes (codes "-")))
    (by_entry M (62 ∷ rest) (taking (EmitComment ∷ []) (Switch there.Data) (62 ∷ [])) (λ x. refl) refl)
    (λ h62. by_test (Comes b StartDash m d rest) c 45 (Appends [] End) (Resumes (codes "-"))
    (none m d (by_entry M (45 ∷ rest) (taking [] (Switch there.CommentEnd) (45 ∷ [])) (λ x. refl) refl))
    (λ h45. by_entry M (c ∷ rest) (taking (Add TheComment (These (codes "-")) ∷ []) (Reconsume there.CommentState) (c ∷ [])) (λ x. rw (h45, h62) refl) refl))
came_comes LessThan b m d rest c =
    let M : Machine = commenting m there.CommentLessThanSign d in
    by_test (Comes b LessThan m d rest) c 33 (Appends (codes "!") LessThanBang) (cond (c == 60) (Appends (codes "<") LessThan) (Resumes []))
    (by_entry M (33 ∷ rest) (taking (Add TheComment Current ∷ []) (Switch there.CommentLessThanSignBang) (33 ∷ [])) (λ x. refl) refl)
    (λ h33. by_test (Comes b LessThan m d rest) c 60 (Appends (codes "<") LessThan) (Resumes [])
    (by_entry M (60 ∷ rest) (taking (Add TheComment Current ∷ []) Stay (60 ∷ [])) (λ x. refl) refl)
    (λ h60. none m d (by_entry M (c ∷ rest) (taking [] (Reconsume there.CommentState) (c ∷ [])) (λ x. rw (h33, h60) refl) refl)))
came_comes LessThanBang b m d rest c =
    let M : Machine = commenting m there.CommentLessThanSignBang d in
    by_test (Comes b LessThanBang m d rest) c 45 (Appends [] LessThanBangDash) (Resumes [])
    (none m d (by_entry M (45 ∷ rest) (taking [] (Switch there.CommentLessThanSignBangDash) (45 ∷ [])) (λ x. refl) refl))
    (λ h45. none m d (by_entry M (c ∷ rest) (taking [] (Reconsume there.CommentState) (c ∷ [])) (λ x. rw h45 refl) refl))
came_comes LessThanBangDash b m d rest c =
    let M : Machine = commenting m there.CommentLessThanSignBangDash d in
    by_test (Comes b LessThanBangDash m d rest) c 45 (Appends [] LessThanBangDashDash) (Resumes (codes "-"))
    (none m d (by_entry M (45 ∷ rest) (taking [] (Switch there.CommentLessThanSignBangDashDash) (45 ∷ [])) (λ x. refl) refl))
    (λ h45. then_on (dash_dash b m d rest c h45) (by_entry (commenting m there.CommentEndDash d) (c ∷ rest) (taking (Add TheComment (These (codes "-")) ∷ []) (Reconsume there.CommentState) (c ∷ [])) (λ x. rw h45 refl) refl))
came_comes EndDash b m d rest c =
    let M : Machine = commenting m there.CommentEndDash d in
    by_test (Comes b EndDash m d rest) c 45 (Appends [] End) (Resumes (codes "-"))
    (none m d (by_entry M (45 ∷ rest) (taking [] (Switch there.CommentEnd) (45 ∷ [])) (λ x. refl) refl))
    (λ h45. by_entry M (c ∷ rest) (taking (Add TheComment (These (codes "-")) ∷ []) (Reconsume there.CommentState) (c ∷ [])) (λ x. rw h45 refl) refl)
came_comes End b m d rest c = at_end b m d rest c
came_comes EndBang b m d rest c =
    let M : Machine = commenting m there.CommentEndBang d in
    by_test (Comes b EndBang m d rest) c 62 Finishes (cond (c == 45) (Appends (codes "--!") EndDash) (Resumes (codes "--!")))
    (by_entry M (62 ∷ rest) (taking (EmitComment ∷ []) (Switch there.Data) (62 ∷ [])) (λ x. refl) refl)
    (λ h62. by_test (Comes b EndBang m d rest) c 45 (Appends (codes "--!") EndDash) (Resumes (codes "--!"))
    (by_entry M (45 ∷ rest) (taking (Add TheComment (These (codes "--!")) ∷ []) (Switch there.CommentEndDash) (45 ∷ [])) (λ x. refl) refl)
    (λ h45. by_entry M (c ∷ rest) (taking (Add TheComment (These (codes "--!")) ∷ []) (Reconsume there.CommentState) (c ∷ [])) (λ x. rw (h45, h62) refl) refl))
came_comes LessThanBangDashDash b m d rest c =
    let M : Machine = commenting m there.CommentEnd d in
    by_test (Comes b LessThanBangDashDash m d rest) c 62 Finishes (cond (c == 33) (Appends [] EndBang) (cond (c == 45) (Appends (codes "-") End) (Resumes (codes "--"))))
    (then_on (to_end b m d rest 62) (by_entry M (62 ∷ rest) (taking (EmitComment ∷ []) (Switch there.Data) (62 ∷ [])) (λ x. refl) refl))
    (λ h62. by_test (Comes b LessThanBangDashDash m d rest) c 33 (Appends [] EndBang) (cond (c == 45) (Appends (codes "-") End) (Resumes (codes "--")))
    (then_on (to_end b m d rest 33) (none m d (by_entry M (33 ∷ rest) (taking [] (Switch there.CommentEndBang) (33 ∷ [])) (λ x. refl) refl)))
    (λ h33. by_test (Comes b LessThanBangDashDash m d rest) c 45 (Appends (codes "-") End) (Resumes (codes "--"))
    (then_on (to_end b m d rest 45) (by_entry M (45 ∷ rest) (taking (Add TheComment (These (codes "-")) ∷ []) Stay (45 ∷ [])) (λ x. refl) refl))
    (λ h45. then_on (to_end b m d rest c) (by_entry M (c ∷ rest) (taking (Add TheComment (These (codes "--")) ∷ []) (Reconsume there.CommentState) (c ∷ [])) (λ x. rw (h62, h33, h45) refl) refl))))

-- a character inside the comment
pub again : (b : Bool) (m : Machine) (d rest : List ℕ) (c : ℕ) →
    Goes (commenting m there.CommentState d) (c ∷ rest) [] (commenting m (comment_state_of (state_again c)) (d ++ added_again c)) rest
unfolding taken entries
again b m d rest c =
    let M : Machine = commenting m there.CommentState d in
    by_bool (λ e x. Goes M (e ∷ rest) [] (commenting m (comment_state_of (cond x LessThan (cond (e == 45) EndDash Comment))) (d ++ cond x (codes "<") (cond (e == 45) [] (shown_of e ∷ [])))) rest) c 60
    (by_entry M (60 ∷ rest) (taking (Add TheComment Current ∷ []) (Switch there.CommentLessThanSign) (60 ∷ [])) (λ x. refl) refl)
    (λ h60. by_bool (λ e x. Goes M (e ∷ rest) [] (commenting m (comment_state_of (cond x EndDash Comment)) (d ++ cond x [] (shown_of e ∷ []))) rest) c 45
    (none m d (by_entry M (45 ∷ rest) (taking [] (Switch there.CommentEndDash) (45 ∷ [])) (λ x. refl) refl))
    (λ h45. by_bool (λ e x. Goes M (e ∷ rest) [] (commenting m there.CommentState (d ++ cond x 0xfffd e ∷ [])) rest) c 0
    (by_entry M (0 ∷ rest) (taking (Add TheComment replacement ∷ []) Stay (0 ∷ [])) (λ x. refl) refl)
    (λ h0. by_entry M (c ∷ rest) (taking (Add TheComment Current ∷ []) Stay (c ∷ [])) (λ x. rw (h60, h45, h0) refl) refl)))
