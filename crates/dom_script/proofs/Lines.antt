-- What stands behind a word in a line, and which line asks for no command.
use Rattle.std.proofs.Common.{◌≡◌, ◌≢◌, ℕ, List, [], ◌∷◌, ◌++◌, Option, Some, None, Bor, MatchOption, IfOk, Result, Ok, Err, inl, inr, refl, sym, ◌∙◌, ap, append-nil, codes, false, subst}
use Rattle.std.proofs.lemmas.Bool.{false≢true}
use Rattle.std.specs.List.{list_all}
use Rattle.std.specs.Str.{chars}
use Rattle.dom_markup.specs.Bytes.{is_name_byte}
use Rattle.std.specs.Str.Pattern.{FindsTextPrefix, StripsPrefix}
use Rattle.std.proofs.lemmas.List.{append_cancel_left}
use Rattle.dom_selectors.specs.Grammar.{StandsFor, StandsForNothing}
use Rattle.dom_selectors.specs.Syntax.{SelectorList}
use Rattle.dom_script.specs.declared.script.Command.TheVariants.{Nothing, Query, Navigate, Render, Attr, Edit, Sanitize}
use Rattle.dom_script.specs.declared.script.Navigation.{Navigation}
use Rattle.dom_script.specs.declared.script.QueryKind.TheVariants.{Select, Find, Filter, Add}
use Rattle.dom_script.specs.declared.script.Rendering.{Rendering}
use Rattle.dom_script.specs.NameLists.{IsNoSanitize, are_lists}
use Rattle.dom_script.specs.EditLine.{IsNoEdit}
use Rattle.dom_script.specs.Script.{HasNoSelector, HasSelector, IsBad, IsNoQuery, navigation_word, rendering_word}
use Rattle.dom_script.specs.Words.{HasArgument, HasNoName, is_name}

pub argument-none : (line word : List ℕ) → FindsTextPrefix word line None → (argument : List ℕ) → HasArgument line word argument → ⊥
argument-none line word lacks argument (inl is) = lacks (32 ∷ argument) is
argument-none line word lacks argument (inr p) = lacks [] (p.0 ∙ sym (append-nil word))

pub stripped-is : (line word behind : List ℕ) → StripsPrefix (FindsTextPrefix word) line behind → line ≡ word ++ behind
stripped-is line word behind s = s.1.1 ∙ ap (λ b. word ++ b) (sym s.2)

-- nothing stands behind the word
pub argument-empty : (line word behind : List ℕ) → line ≡ word ++ behind → behind ≡ [] → HasArgument line word behind
argument-empty line word behind is none = inr (is ∙ (ap (λ b. word ++ b) none ∙ append-nil word), none)

behind-is : (line word behind other : List ℕ) → line ≡ word ++ behind → line ≡ word ++ other → behind ≡ other
behind-is line word behind other is so = append_cancel_left word behind other (sym is ∙ so)

-- something stands behind the word
pub argument-behind : (line word behind : List ℕ) (r : Option (Bor (List ℕ))) → line ≡ word ++ behind → behind ≢ []
    → MatchOption r ((rest : List ℕ) → behind ≢ 32 ∷ rest) (λ x. behind ≡ 32 ∷ x.now)
    → MatchOption r ((argument : List ℕ) → HasArgument line word argument → ⊥) (λ argument. HasArgument line word argument.now)
argument-behind line word behind (Some x) is some spaced = inl (is ∙ ap (λ b. word ++ b) spaced)
argument-behind line word behind None is some lacks = λ argument h. neither argument h
  where
    neither : (argument : List ℕ) → HasArgument line word argument → ⊥
    neither argument (inl so) = lacks argument (behind-is line word behind (32 ∷ argument) is so)
    neither argument (inr p) = some (behind-is line word behind [] is (p.0 ∙ sym (append-nil word)))

-- a line has one argument at most behind a word
pub argument-once : (line word a b : List ℕ) → HasArgument line word a → HasArgument line word b → a ≡ b
argument-once line word a b (inl p) (inl q) = let e : 32 ∷ a ≡ 32 ∷ b = behind-is line word (32 ∷ a) (32 ∷ b) p q in cc
argument-once line word a b (inl p) (inr q) = let e : 32 ∷ a ≡ [] = behind-is line word (32 ∷ a) [] p (q.0 ∙ sym (append-nil word)) in cc
argument-once line word a b (inr p) (inl q) = let e : 32 ∷ b ≡ [] = behind-is line word (32 ∷ b) [] q (p.0 ∙ sym (append-nil word)) in cc
argument-once line word a b (inr p) (inr q) = p.1 ∙ sym q.1

-- the line is no query
pub no-query : (line : List ℕ) → HasNoSelector line (codes "select") → HasNoSelector line (codes "find") → HasNoSelector line (codes "filter") → HasNoSelector line (codes "add") → IsNoQuery line
no-query line select find filter add Select = select
no-query line select find filter add Find = find
no-query line select find filter add Filter = filter
no-query line select find filter add Add = add

-- a line that has another argument behind the word, or none
pub no-selector : (line word argument : List ℕ) → HasArgument line word argument → StandsForNothing (chars argument) → HasNoSelector line word
no-selector line word argument is none = λ selector h. none selector (subst (λ (text : List ℕ). StandsFor (chars text) selector) (argument-once line word h.0 argument h.1 is) h.2)

-- what stands behind the word was read as a selector
pub selector-read : {E : Type 0} (line word argument : List ℕ) (r : Result (Option SelectorList) E) → HasArgument line word argument
    → IfOk r (λ found. MatchOption found (StandsForNothing (chars argument)) (StandsFor (chars argument)))
    → IfOk r (λ found. MatchOption found (HasNoSelector line word) (HasSelector line word))
selector-read line word argument (Ok (Some selector)) is stands = (argument, is, stands)
selector-read line word argument (Ok None) is none = no-selector line word argument is none
selector-read line word argument (Err e) is evidence = tt

pub no-name : (line word argument : List ℕ) → HasArgument line word argument → is_name argument ≡ false → HasNoName line word
no-name line word argument is none = λ name h. false≢true (sym none ∙ ap is_name (argument-once line word argument name is h.0) ∙ h.1)

pub no-sanitize : (line lists : List ℕ) → HasArgument line (codes "sanitize") lists → are_lists lists ≡ false → IsNoSanitize line
no-sanitize line lists is none other h = false≢true (sym none ∙ ap are_lists (argument-once line (codes "sanitize") lists other is h.0) ∙ h.1)

-- the line asks for nothing
pub record AsksForNothing (line : List ℕ) : Type 0 where
  pub full : line ≢ []
  pub navigates : (navigation : Navigation) → line ≢ navigation_word navigation
  pub renders : (rendering : Rendering) → line ≢ rendering_word rendering
  pub attr : HasNoName line (codes "attr")
  pub edits : IsNoEdit line
  pub sanitizes : IsNoSanitize line
  pub queries : IsNoQuery line

pub bad-line : (line : List ℕ) → AsksForNothing line → IsBad line
bad-line line none Nothing h = none.full h
bad-line line none (Query kind selector) h = none.queries kind selector h
bad-line line none (Navigate navigation) h = none.navigates navigation h
bad-line line none (Render rendering) h = none.renders rendering h
bad-line line none (Attr name) h = none.attr name h
bad-line line none (Edit edit) h = none.edits edit h
bad-line line none (Sanitize lists) h = none.sanitizes lists h

pub some-name : (text : List ℕ) → text ≢ [] → list_all is_name_byte text ≡ is_name text
some-name [] some = absurd (some refl)
some-name (b ∷ bs) some = refl
