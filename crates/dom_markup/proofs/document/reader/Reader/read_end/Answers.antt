use Rattle.std.proofs.Common.{◌≡◌, ◌-◌, sym, take, ℕ, List, [], ◌∷◌, ◌++◌, ◌∙◌, ap, subst, map, refl}
use Rattle.std.proofs.lemmas.List.{map-append}
use Rattle.std.proofs.lemmas.Bool.{false≢true}
use Rattle.std.proofs.lemmas.Slice.Eq.{bytes_eq-Decides}
use Rattle.dom_markup.specs.Bytes.{folded}
use Rattle.dom_markup.specs.Markup.Item.{end_tag}
use Rattle.dom_markup.specs.declared.document.reader.Open.{Open}
use Rattle.dom_markup.specs.Frames.{HasRead, Opened}
use Rattle.dom_markup.specs.Reader.{opened_by}
use Rattle.dom_markup.proofs.rows.Frames.{reads_end, ends_another, ends_nothing}
use Rattle.dom_markup.proofs.document.reader.Reader.read_end.Goals as goal

pub returns-in_default : goal.returns-in_default
returns-in_default c = λ items h.
    let after : c.pop.new.self.items ≡ [] = c.in_default.ensures.rest ∙ ap (λ (n : ℕ). take (n - 1) c.args.self.now.stack.items) c.in_default.ensures.cases.0 in
    let nil : c.args.self.now.stack.items ≡ [] = c.in_default.ensures.items ∙ ap (λ (os : List Open). os ++ []) after in
    ends_nothing items _ (folded c.args.name.now) (subst (λ (os : List Open). HasRead items (c.args.self.now.tree) (map opened_by os)) nil h)

pub returns-then-not-eq_ignore_ascii_case : goal.returns-then-not-eq_ignore_ascii_case
returns-then-not-eq_ignore_ascii_case c = λ items h.
    let stack = map opened_by c.pop.new.self.items in
    let shown : map opened_by c.args.self.now.stack.items ≡ stack ++ opened_by c.in-Some.innermost ∷ [] =
    ap (map opened_by) c.in-Some.ensures.items ∙ map-append opened_by c.pop.new.self.items _ in
    let before = subst (λ (os : List Opened). HasRead items (c.args.self.now.tree) os) shown h in
    ends_another items _ stack (opened_by c.in-Some.innermost) (folded c.args.name.now) before
    (λ e. false≢true (c.if-not-eq_ignore_ascii_case.ensures.test.1 e))

pub returns : goal.returns
returns c = λ items h.
    let stack = map opened_by c.pop.new.self.items in
    let shown : map opened_by c.args.self.now.stack.items ≡ stack ++ opened_by c.in-Some.innermost ∷ [] =
    ap (map opened_by) c.in-Some.ensures.items ∙ map-append opened_by c.pop.new.self.items _ in
    let before = subst (λ (os : List Opened). HasRead items (c.args.self.now.tree) os) shown h in
    let same : folded c.in-Some.innermost.name.now ≡ folded c.args.name.now = c.if-not-eq_ignore_ascii_case.ensures.test.0 refl in
    subst (λ (n : List ℕ). HasRead (items ++ end_tag n ∷ []) (c.args.self.now.tree) stack) same (reads_end items _ stack (opened_by c.in-Some.innermost) before)

pub returns-then-is_same_word : goal.returns-then-is_same_word
returns-then-is_same_word c = λ items h.
    let stack = map opened_by c.pop.new.self.items in
    let shown : map opened_by c.args.self.now.stack.items ≡ stack ++ opened_by c.in-Some.innermost ∷ [] =
    ap (map opened_by) c.in-Some.ensures.items ∙ map-append opened_by c.pop.new.self.items _ in
    let before = subst (λ (os : List Opened). HasRead items (c.args.self.now.tree) os) shown h in
    let same : folded c.in-Some.innermost.name.now ≡ folded c.args.name.now = ap folded (sym c.as_bytes.ensures.value ∙ (bytes_eq-Decides _ _).0 (sym c.is_same_word.ensures ∙ c.if-is_same_word.true) ∙ c.as_bytes-2.ensures.value) in
    subst (λ (n : List ℕ). HasRead (items ++ end_tag n ∷ []) (c.args.self.now.tree) stack) same (reads_end items _ stack (opened_by c.in-Some.innermost) before)
