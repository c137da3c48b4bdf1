-- What the rules for "in body" make of the tags of formatting elements, among the tags of the other groups.
use Rattle.std.proofs.Common.{◌≡◌, true, refl, sym, ap, subst, ◌∙◌, true≢false}
use Rattle.standard_trees.specs.Building.{Building}
use Rattle.standard_trees.specs.RuleWords.{InBody}
use Rattle.page_tokens.specs.declared.token.Tag.{Tag}
use Rattle.page_trees.specs.BodyTags.{Continues, EndsInBody, IsContinued, ends_in}
use Rattle.page_trees.specs.Constructs.{RemembersLimits}
use Rattle.page_trees.specs.Groups.{group_named}
use Rattle.page_trees.specs.Listing.{ProcessesEndWhere, ProcessesStart, ProcessesStartWhere, allows_agency, formats, starts_a, starts_nobr}
use Rattle.page_trees.specs.declared.builder.Next.{Next}
use Rattle.page_trees.specs.declared.builder.TreeBuilder.{TreeBuilder}
use Rattle.page_trees.specs.declared.modes.groups.Group.{Group}
use Rattle.page_trees.specs.declared.name.Name.{Name}

pub a_named : (name : Name) → group_named name ≡ Group.A → name ≡ Name.A
a_named Name.A e = refl
a_named _ e = absurd (cc)

pub a_continued : (tag : Tag) (old new : TreeBuilder) (next : Next) → RemembersLimits old new → ProcessesStartWhere starts_a InBody Name.A tag old new next →
    Continues Group.A Name.A tag old new next
a_continued tag old new next remembers rule covers named = record {
  limits = remembers;
  rule = λ starts within b current html stands test. rule starts within b test current stands;
}

pub nobr_named : (name : Name) → group_named name ≡ Group.Nobr → name ≡ Name.Nobr
nobr_named Name.Nobr e = refl
nobr_named _ e = absurd (cc)

pub nobr_continued : (tag : Tag) (old new : TreeBuilder) (next : Next) → RemembersLimits old new → ProcessesStartWhere starts_nobr InBody Name.Nobr tag old new next →
    Continues Group.Nobr Name.Nobr tag old new next
nobr_continued tag old new next remembers rule covers named = record {
  limits = remembers;
  rule = λ starts within b current html stands test. rule starts within b test current stands;
}

formatting_rest : (name : Name) (tag : Tag) (old new : TreeBuilder) (next : Next) → RemembersLimits old new → ProcessesStart InBody name tag old new next →
    IsContinued Group.Formatting name tag old new next
formatting_rest name tag old new next remembers rule = record {
  limits = remembers;
  rule = λ starts within b current html stands test. rule starts within b current stands;
}

pub formatting_continued : (group : Group) (name : Name) (tag : Tag) (old new : TreeBuilder) (next : Next) → group ≡ Group.Formatting → RemembersLimits old new →
    (group_named name ≡ Group.Formatting → ProcessesStart InBody name tag old new next) → Continues group name tag old new next
formatting_continued group name tag old new next e remembers rule covers named =
    subst (λ g. IsContinued g name tag old new next) (sym e) (formatting_rest name tag old new next remembers (rule (named ∙ e)))

in_agency : (group : Group) (b : Building) → formats group ≡ true → ends_in group b ≡ true → allows_agency b ≡ true
in_agency Group.A b h test = test
in_agency Group.Formatting b h test = test
in_agency Group.Nobr b h test = test
in_agency _ b h test = absurd (true≢false (sym h))

pub formatting_closed : (group : Group) (name : Name) (tag : Tag) (old new : TreeBuilder) (next : Next) → group_named name ≡ group → formats group ≡ true →
    (formats (group_named name) ≡ true → ProcessesEndWhere allows_agency InBody name tag old new next) → EndsInBody name tag old new next
formatting_closed group name tag old new next e h rule covers ends within b current stands test =
    rule (ap formats e ∙ h) ends within b (in_agency (group_named name) b (ap formats e ∙ h) test) current stands
