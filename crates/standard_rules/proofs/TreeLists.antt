-- Lists of siblings that grow at their end, tokens one after the other, and facts about each of several names.
use Rattle.std.specs.Prelude.{◌≡◌, ℕ, Bool, true, false, cond, ◌||◌, ◌==◌, List, [], ◌∷◌, ◌++◌, Option, None, Some, bytes_eq, refl}
use Rattle.std.specs.Option.{option_and_then}
use Rattle.std.proofs.lemmas.Bool.{eqb-true, true≢false}
use Rattle.std.proofs.lemmas.Slice.Eq.{bytes_eq-Decides}
use mathlib.Core.Path.{◌∙◌, sym, ap, subst}
use Rattle.standard_rules.specs.Building.{Building, children_of, is_space, tree_of, tree_step, tree_steps}
use Rattle.standard_rules.specs.RuleWords.{Mode, Text}
use Rattle.standard_tokens.specs.Reading.{switch_at, switch_behind}
use Rattle.standard_tokens.specs.States.{State}
use Rattle.standard_tokens.specs.Tokens.{Attr, Token, AStart}
use Rattle.standard_rules.specs.TreeTokens.{Trees, no_trees, text_node, comment_node, doctype_node, element_node, joined, with_char, is_among}

pub joined_none : (t : Trees) → joined t no_trees ≡ t
joined_none no_trees = refl
joined_none (text_node contents later) = ap (text_node contents) (joined_none later)
joined_none (comment_node contents later) = ap (comment_node contents) (joined_none later)
joined_none (doctype_node name later) = ap (doctype_node name) (joined_none later)
joined_none (element_node name attrs children later) = ap (element_node name attrs children) (joined_none later)

pub joined_joined : (s t u : Trees) → joined (joined s t) u ≡ joined s (joined t u)
joined_joined no_trees t u = refl
joined_joined (text_node contents later) t u = ap (text_node contents) (joined_joined later t u)
joined_joined (comment_node contents later) t u = ap (comment_node contents) (joined_joined later t u)
joined_joined (doctype_node name later) t u = ap (doctype_node name) (joined_joined later t u)
joined_joined (element_node name attrs children later) t u = ap (element_node name attrs children) (joined_joined later t u)

-- a text stands at the end
abbrev pub ends_text : Trees → Bool
ends_text no_trees = false
ends_text (text_node contents no_trees) = true
ends_text (text_node contents (text_node more later)) = ends_text (text_node more later)
ends_text (text_node contents (comment_node more later)) = ends_text (comment_node more later)
ends_text (text_node contents (doctype_node name later)) = ends_text (doctype_node name later)
ends_text (text_node contents (element_node name attrs children later)) = ends_text (element_node name attrs children later)
ends_text (comment_node contents later) = ends_text later
ends_text (doctype_node name later) = ends_text later
ends_text (element_node name attrs children later) = ends_text later

-- a first character behind what is no text
pub new_char : (t : Trees) (c : ℕ) → ends_text t ≡ false → with_char t c ≡ joined t (text_node (c ∷ []) no_trees)
new_char no_trees c h = refl
new_char (text_node contents no_trees) c h = absurd (true≢false h)
new_char (text_node contents (text_node more later)) c h = ap (text_node contents) (new_char (text_node more later) c h)
new_char (text_node contents (comment_node more later)) c h = ap (text_node contents) (new_char (comment_node more later) c h)
new_char (text_node contents (doctype_node name later)) c h = ap (text_node contents) (new_char (doctype_node name later) c h)
new_char (text_node contents (element_node name attrs children later)) c h = ap (text_node contents) (new_char (element_node name attrs children later) c h)
new_char (comment_node contents later) c h = ap (comment_node contents) (new_char later c h)
new_char (doctype_node name later) c h = ap (doctype_node name) (new_char later c h)
new_char (element_node name attrs children later) c h = ap (element_node name attrs children) (new_char later c h)

-- and one more
pub more_char : (t : Trees) (cs : List ℕ) (c : ℕ) → with_char (joined t (text_node cs no_trees)) c ≡ joined t (text_node (cs ++ c ∷ []) no_trees)
more_char no_trees cs c = refl
more_char (text_node contents no_trees) cs c = refl
more_char (text_node contents (text_node more later)) cs c = ap (text_node contents) (more_char (text_node more later) cs c)
more_char (text_node contents (comment_node more later)) cs c = ap (text_node contents) (more_char (comment_node more later) cs c)
more_char (text_node contents (doctype_node name later)) cs c = ap (text_node contents) (more_char (doctype_node name later) cs c)
more_char (text_node contents (element_node name attrs children later)) cs c = ap (text_node contents) (more_char (element_node name attrs children later) cs c)
more_char (comment_node contents later) cs c = ap (comment_node contents) (more_char later cs c)
more_char (doctype_node name later) cs c = ap (doctype_node name) (more_char later cs c)
more_char (element_node name attrs children later) cs c = ap (element_node name attrs children) (more_char later cs c)

-- behind an element or a comment no text stands
pub ends_element : (t : Trees) (name : List ℕ) (attrs : List Attr) (children : Trees) → ends_text (joined t (element_node name attrs children no_trees)) ≡ false
ends_element no_trees name attrs children = refl
ends_element (text_node contents no_trees) name attrs children = refl
ends_element (text_node contents (text_node more later)) name attrs children = ends_element (text_node more later) name attrs children
ends_element (text_node contents (comment_node more later)) name attrs children = ends_element (comment_node more later) name attrs children
ends_element (text_node contents (doctype_node m later)) name attrs children = ends_element (doctype_node m later) name attrs children
ends_element (text_node contents (element_node m bs inner later)) name attrs children = ends_element (element_node m bs inner later) name attrs children
ends_element (comment_node contents later) name attrs children = ends_element later name attrs children
ends_element (doctype_node m later) name attrs children = ends_element later name attrs children
ends_element (element_node m bs inner later) name attrs children = ends_element later name attrs children

pub ends_comment : (t : Trees) (text : List ℕ) → ends_text (joined t (comment_node text no_trees)) ≡ false
ends_comment no_trees text = refl
ends_comment (text_node contents no_trees) text = refl
ends_comment (text_node contents (text_node more later)) text = ends_comment (text_node more later) text
ends_comment (text_node contents (comment_node more later)) text = ends_comment (comment_node more later) text
ends_comment (text_node contents (doctype_node m later)) text = ends_comment (doctype_node m later) text
ends_comment (text_node contents (element_node m bs inner later)) text = ends_comment (element_node m bs inner later) text
ends_comment (comment_node contents later) text = ends_comment later text
ends_comment (doctype_node m later) text = ends_comment later text
ends_comment (element_node m bs inner later) text = ends_comment later text

-- ---- steps

-- the mode is "text", if the tokenizer has such a state
abbrev pub text_if : Option State → Mode → Bool
text_if None mode = true
text_if (Some state) Text = true
text_if (Some state) mode = false

-- if the name of the token has a state of the tokenizer, the mode behind the token is "text", so that tree construction switches the tokenizer to that state
abbrev pub is_switched : Token → Building → Bool
is_switched token b = text_if (switch_behind (token ∷ [])) b.mode

abbrev pub if_switched : Token → Building → Option Building
if_switched token b = cond (is_switched token b) (Some b) None

-- steps of tree construction, in which each token whose name has a state switches the tokenizer
abbrev pub switched_steps : Building → List Token → Option Building
switched_steps b [] = Some b
switched_steps b (token ∷ more) = option_and_then (λ after. switched_steps after more) (option_and_then (if_switched token) (tree_step b token))

abbrev pub Steps : Building → List Token → Building → Type 0
Steps b tokens c = switched_steps b tokens ≡ Some c

pub steps_append : (b : Building) (xs ys : List Token) → switched_steps b (xs ++ ys) ≡ option_and_then (λ c. switched_steps c ys) (switched_steps b xs)
steps_append b [] ys = refl
steps_append b (x ∷ xs) ys = by_first (λ c. steps_append c xs ys) (option_and_then (if_switched x) (tree_step b x))
  where
    by_first : ((c : Building) → switched_steps c (xs ++ ys) ≡ option_and_then (λ d. switched_steps d ys) (switched_steps c xs)) → (o : Option Building) → option_and_then (λ c. switched_steps c (xs ++ ys)) o ≡ option_and_then (λ c. switched_steps c ys) (option_and_then (λ c. switched_steps c xs) o)
    by_first each None = refl
    by_first each (Some c) = each c

pub steps_on : (b c d : Building) (xs ys : List Token) → Steps b xs c → Steps c ys d → Steps b (xs ++ ys) d
steps_on b c d xs ys first second = steps_append b xs ys ∙ ap (option_and_then (λ c. switched_steps c ys)) first ∙ second

pub step_on : (b c d : Building) (x : Token) (ys : List Token) → is_switched x c ≡ true → tree_step b x ≡ Some c → Steps c ys d → Steps b (x ∷ ys) d
step_on b c d x ys passes first second =
    ap (λ o. option_and_then (λ c. switched_steps c ys) (option_and_then (if_switched x) o)) first ∙ ap (λ h. option_and_then (λ c. switched_steps c ys) (cond h (Some c) None)) passes ∙ second

-- a start tag whose name has no state of its own
pub plain_start : (name : List ℕ) (attrs : List Attr) (c : Building) → switch_at name ≡ None → is_switched (AStart name attrs false) c ≡ true
plain_start name attrs c unswitched = ap (λ s. text_if s c.mode) unswitched

-- a start tag behind which the mode is "text"
pub text_start : (name : List ℕ) (attrs : List Attr) (c : Building) → c.mode ≡ Text → is_switched (AStart name attrs false) c ≡ true
text_start name attrs c is = ap (text_if (switch_at name)) is ∙ by_state (switch_at name)
  where
    by_state : (s : Option State) → text_if s Text ≡ true
    by_state None = refl
    by_state (Some state) = refl

-- they are steps of tree construction
pub switched_are_steps : (b e : Building) (ts : List Token) → Steps b ts e → tree_steps b ts ≡ Some e
switched_are_steps b e [] h = h
switched_are_steps b e (t ∷ more) h = by_step (λ c. switched_are_steps c e more) (tree_step b t) h
  where
    by_switch : (x : Bool) (c : Building) → (Steps c more e → tree_steps c more ≡ Some e) → option_and_then (λ after. switched_steps after more) (cond x (Some c) None) ≡ Some e → tree_steps c more ≡ Some e
    by_switch true c each k = each k
    by_switch false c each k = cc

    by_step : ((c : Building) → Steps c more e → tree_steps c more ≡ Some e) → (o : Option Building) → option_and_then (λ after. switched_steps after more) (option_and_then (if_switched t) o) ≡ Some e →
        option_and_then (λ after. tree_steps after more) o ≡ Some e
    by_step each None k = cc
    by_step each (Some c) k = by_switch (is_switched t c) c (each c) k

pub switched_tree : (b : Building) (ts : List Token) (t : Trees) → tree_of (switched_steps b ts) ≡ Some t → tree_of (tree_steps b ts) ≡ Some t
switched_tree b ts t h = by_end (switched_steps b ts) refl h
  where
    by_end : (o : Option Building) → switched_steps b ts ≡ o → tree_of o ≡ Some t → tree_of (tree_steps b ts) ≡ Some t
    by_end None is k = cc
    by_end (Some e) is k = ap tree_of (switched_are_steps b e ts is) ∙ k

pub switched_children : (o : Option Building) (ts : List Token) (t : Trees) → children_of (option_and_then (λ b. switched_steps b ts) o) ≡ Some t → children_of (option_and_then (λ b. tree_steps b ts) o) ≡ Some t
switched_children None ts t h = cc
switched_children (Some b) ts t h = by_end (switched_steps b ts) refl h
  where
    by_end : (p : Option Building) → switched_steps b ts ≡ p → children_of p ≡ Some t → children_of (tree_steps b ts) ≡ Some t
    by_end None is k = cc
    by_end (Some e) is k = ap children_of (switched_are_steps b e ts is) ∙ k

-- ---- names

-- each of these names
abbrev pub Each : (List ℕ → Type 0) → List (List ℕ) → Type 0
Each P [] = Unit {0}
Each P (n ∷ ns) = P n × Each P ns

pub of_each : (P : List ℕ → Type 0) (names : List (List ℕ)) → Each P names → (n : List ℕ) → is_among n names ≡ true → P n
of_each P [] each n h = absurd (true≢false (sym h))
of_each P (m ∷ names) each n h = by_test (of_each P names each.1 n) (bytes_eq n m) refl h
  where
    by_test : (is_among n names ≡ true → P n) → (b : Bool) → bytes_eq n m ≡ b → (b || is_among n names) ≡ true → P n
    by_test others true e k = subst P (sym ((bytes_eq-Decides n m).0 e)) each.0
    by_test others false e k = others k

-- ---- white space

one_of : (P : ℕ → Type 0) (c d : ℕ) (others : Bool) → (others ≡ true → P c) → P d → (others || c == d) ≡ true → P c
one_of P c d others first p h = by_test others refl h
  where
    by_test : (x : Bool) → others ≡ x → (x || c == d) ≡ true → P c
    by_test true e k = first e
    by_test false e k = subst P (sym (eqb-true c d k)) p

-- what is so of the five characters is so of white space
pub each_space : (P : ℕ → Type 0) → P 9 → P 10 → P 12 → P 13 → P 32 → (c : ℕ) → is_space c ≡ true → P c
each_space P tab feed page return space c =
    one_of P c 32 (c == 9 || c == 10 || c == 12 || c == 13)
    (one_of P c 13 (c == 9 || c == 10 || c == 12)
    (one_of P c 12 (c == 9 || c == 10)
    (one_of P c 10 (c == 9) (λ h. subst P (sym (eqb-true c 9 h)) tab) feed) page) return) space
