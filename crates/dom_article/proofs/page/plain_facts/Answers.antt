use Rattle.std.proofs.Common.{◌≡◌, ◌∙◌, Bool, true, false, pos, inl, inr, refl}
use Rattle.std.specs.Prelude.{◌&&◌, ◌||◌, not}
use Rattle.std.proofs.lemmas.Bool.{cases_Bool}
use Rattle.dom_article.specs.Facts.{has_letters, in_either, is_outer_tag, is_link_tag, is_unlikely, points_of_words, role_names}
use Rattle.dom_article.specs.Words.{no_words}
use Rattle.dom_article.specs.declared.kinds.Kind.{Kind}
use Rattle.dom_article.proofs.page.plain_facts.Goals as goal

or_nothing : (b : Bool) → b ≡ (b || false)
or_nothing true = refl
or_nothing false = refl

and_nothing : (b : Bool) → false ≡ (b && false)
and_nothing true = refl
and_nothing false = refl

never_hidden : (a b : Bool) → a ≡ (a || b && false)
never_hidden true b = refl
never_hidden false true = refl
never_hidden false false = refl

and_all : (b : Bool) → b ≡ (b && true)
and_all true = refl
and_all false = refl

no_points : (kind : Kind) → pos 0 ≡ points_of_words kind no_words no_words
no_points kind = elim (cases_Bool kind.is_place) [ inl t ↦ rw t refl | inr f ↦ rw f refl ]

likely : (kind : Kind) → false ≡ is_unlikely kind no_words no_words
likely kind = elim (cases_Bool kind.stays) [
  | inl t ↦ rw t refl
  | inr f ↦ elim (cases_Bool kind.is_place) [ inl t ↦ rw (f, t) refl | inr g ↦ rw (f, g) refl ]
]

pub returns : goal.returns
unfolding role_names
returns c =
    let kind = c.args.kind in
    record {
      kind_is = refl;
      text = refl;
      weight = no_points kind;
      is_main = c.is_main_tag.ensures ∙ or_nothing _;
      is_hidden = never_hidden kind.is_never (not (is_outer_tag kind.tag));
      has_role = and_nothing (not (is_outer_tag kind.tag));
      is_unlikely_is = likely kind;
      has_class = refl;
      is_raised = refl;
      is_link = and_nothing (is_link_tag kind.tag);
      is_input = c.is_input_tag.ensures ∙ and_all _;
    }
