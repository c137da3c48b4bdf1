-- The page around a text that was cleaned.
use Rattle.std.proofs.Common.{◌≡◌, ◌+◌, ◌-◌, ◌&&◌, ℕ, Bool, true, false, List, [], ◌++◌, length, map, drop, refl, sym, ap, ◌∙◌, subst, arith, append-nil, append_assoc, length-append}
use Rattle.std.specs.Prelude.{codes}
use Rattle.std.specs.Char.{to_ascii_lowercase}
use Rattle.std.specs.Str.{IsUtf8, chars}
use Rattle.std.proofs.Math.Utf8.{encode}
use Rattle.std.proofs.Math.Seq.{drop-append_seam}
use Rattle.dom_links.specs.Forest.{Forest, children_of}
use Rattle.dom_links.specs.Trees.{trees}
use Rattle.dom_markup.specs.Markup.{Spells}
use Rattle.dom_markup.specs.Names.{raw_names, text_names, void_names}
use Rattle.dom_markup.specs.Plain.{IsPlainTrees}
use Rattle.dom_markup.specs.ValueTrees.{ValueTrees}
use Rattle.dom_markup.specs.ValueTrees.ValueTrees.{no_trees, text_node, comment_node, doctype_node, element_node}
use Rattle.page_trees.specs.ElementKinds.{kind_of, names_of}
use Rattle.page_trees.specs.Framed.{IsFramed}
use Rattle.calm_pages.specs.Calm.{IsCalmDocument, are_calm, is_calm_text}
use Rattle.dom_sanitize.specs.Written.{joined, with_text}
use Rattle.dom_clean.specs.Cleaned.{cleaned_below, in_body}
use Rattle.dom_clean.specs.Joined.{AreTidy}
use Rattle.dom_clean.specs.Laws.{AreAllowed, CleansSafely, IsSafe, left_below, page_around, page_of, utf8_meta}
use Rattle.dom_clean.specs.Policy.{Policy, is_sound}
use Rattle.dom_markup.proofs.plain.WrittenTrees.{written_spells}
use Rattle.dom_markup.specs.WrittenTrees.{safe_char, text_by}
use Rattle.dom_clean.specs.Spelled.{Front, IsSpellable}
use Rattle.dom_clean.specs.Written.{text_of}
use Rattle.dom_clean.proofs.CalmJoined.{calm_joined}
use Rattle.dom_clean.proofs.CalmText.{text-front}
use Rattle.dom_clean.proofs.CleanedText.{end_of_page, front_of_page, page_text}
use Rattle.dom_clean.proofs.Left.{cleans}
use Rattle.dom_clean.proofs.SafeValues.{safe_is_read_back}
use Rattle.dom_clean.proofs.Tidy.{cleaned_tidy, plain_joined, same_text, spelled_tidy, text_joined, tidy_joined}

-- ---- its text

page_framed : (text : List ℕ) → IsFramed (page_around text)
page_framed text =
    let front = front_of_page ++ text in
    let all : page_around text ≡ front ++ end_of_page = sym (append_assoc front_of_page text end_of_page) in
    let count : length (page_around text) ≡ length front + 14 = ap length all ∙ length-append front end_of_page in
    let count_front : length front ≡ 62 + length text = length-append front_of_page text in
    let place : length (page_around text) - 14 ≡ length front = omega (arith, count) in
    record {
      long = omega (arith, count, count_front);
      front = refl;
      back = ap (map to_ascii_lowercase) (ap (λ (k : ℕ). drop k (page_around text)) place ∙ (ap (drop (length front)) all ∙ drop-append_seam front end_of_page));
    }

page_front : Front front_of_page
page_front = record { front = λ rest calm. calm }

page_calm : (body : ValueTrees) → IsSpellable body → is_calm_text (page_around (text_of body)) ≡ true
page_calm body is = page_front.front (text_of body ++ end_of_page) ((text-front body is).front end_of_page refl)

-- ---- its document

label_utf8 : IsUtf8 (codes "utf-8")
unfolding encode
label_utf8 = (codes "utf-8", (refl, refl))

meta_plain : IsPlainTrees false utf8_meta
unfolding void_names raw_names text_names
meta_plain = ((refl, refl), refl, (((λ e. cc), refl, refl), label_utf8, refl, tt), (λ v. refl), tt, tt, tt)

page_plain : (body : ValueTrees) → IsPlainTrees false body → IsPlainTrees true (page_of body)
unfolding void_names raw_names text_names
page_plain body plain = (
  refl,
  ((λ e. cc), refl, refl),
  refl,
  refl,
  (
    (refl, refl),
    refl,
    tt,
    (λ v. cc),
    tt,
    (
      (refl, refl),
      refl,
      tt,
      (λ v. cc),
      tt,
      meta_plain,
      ((refl, refl), refl, tt, (λ v. cc), tt, plain, tt),
    ),
    tt,
  ),
)

page_document : (policy : Policy) (body : ValueTrees) → are_calm (in_body policy).scope body ≡ true → IsCalmDocument (page_of body)
unfolding kind_of names_of
page_document policy body calm = record {
  html_attributes = [];
  head_attributes = [];
  body_attributes = [];
  head = utf8_meta;
  space = [];
  body = body;
  is = refl;
  calm = ap (λ (b : Bool). (b && true) && true) calm;
}

-- ---- joined texts are allowed

allowed_with_text : (policy : Policy) (text : List ℕ) (later : ValueTrees) → AreAllowed policy later → AreAllowed policy (with_text text later)
allowed_with_text policy text no_trees p = tt
allowed_with_text policy text (text_node more later) p = p
allowed_with_text policy text (comment_node c later) p = absurd p
allowed_with_text policy text (doctype_node n u s later) p = absurd p
allowed_with_text policy text (element_node n a children later) p = p

allowed_joined : (policy : Policy) (ts : ValueTrees) → AreAllowed policy ts → AreAllowed policy (joined ts)
allowed_joined policy no_trees p = tt
allowed_joined policy (text_node c later) p = allowed_with_text policy c (joined later) (allowed_joined policy later p)
allowed_joined policy (comment_node c later) p = absurd p
allowed_joined policy (doctype_node n u s later) p = absurd p
allowed_joined policy (element_node n a children later) p = (p.0, p.1, allowed_joined policy children p.2, allowed_joined policy later p.3)

-- ---- the law

pub safe : (policy : Policy) → is_sound policy ≡ true → CleansSafely policy
safe policy sound forest n =
    let ts = cleaned_below policy forest n in
    let below = trees forest (children_of forest n) in
    let tidy : AreTidy ts = cleaned_tidy policy forest sound (in_body policy) below in
    let is = cleans policy forest (in_body policy) below refl in
    let body = joined ts in
    let tidy_body : AreTidy body = tidy_joined ts tidy in
    let same : text_of body ≡ text_of ts = text_joined ts tidy in
    let text : text_by safe_char false (page_of body) ≡ page_around (text_of ts) = page_text body ∙ ap page_around (same_text body tidy_body ∙ same) in
    record {
      is = sym same;
      allowed = allowed_joined policy ts is.allowed;
      page = record {
        spelled = subst (λ (t : List ℕ). Spells t (page_of body)) text (written_spells safe_char safe_is_read_back (page_of body) (page_plain body (plain_joined ts tidy)));
        framed = page_framed (text_of ts);
        bytes = ap (λ t. is_calm_text (page_around t)) (sym same) ∙ page_calm body (spelled_tidy body tidy_body);
        document = page_document policy body (calm_joined (in_body policy).scope ts tidy refl is.calm);
      };
    }

-- the text of what is left is safe
pub safe_text : (policy : Policy) → is_sound policy ≡ true → (forest : Forest) (n : ℕ) (text : List ℕ) → text ≡ text_of (cleaned_below policy forest n) → IsSafe policy text (left_below policy forest n)
safe_text policy sound forest n text is = subst (λ (t : List ℕ). IsSafe policy t (left_below policy forest n)) (sym is) (safe policy sound forest n)
