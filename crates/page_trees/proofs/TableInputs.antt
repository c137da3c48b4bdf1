-- A hidden `input` in a table.
use Rattle.std.proofs.Common.{◌≡◌, ◌&&◌, Bool, true, false, List, [], ◌∷◌, codes, refl, sym, ap, ◌∙◌}
use Rattle.standard_trees.specs.Building.{Building}
use Rattle.standard_trees.specs.GrowingTree.{has_value}
use Rattle.standard_trees.specs.RuleWords.{Act, FosterOff, FosterOn, InBody, InTable, InsertElement, Pop, Use, does, goes}
use Rattle.standard_trees.specs.TreeRules.{rules}
use Rattle.page_tokens.specs.declared.token.Tag.{Tag}
use Rattle.page_trees.specs.Constructs.{Constructs, IsCurrentTag, Outcome, all_performed}
use Rattle.page_trees.specs.Foreign.{is_hidden_by}
use Rattle.page_trees.specs.Modes.{is_start_kind}
use Rattle.page_trees.specs.TableSteps.{is_hidden_input}
use Rattle.page_trees.specs.declared.builder.Next.{Next}
use Rattle.page_trees.specs.declared.builder.TreeBuilder.{TreeBuilder}
use Rattle.page_trees.specs.declared.name.Name.{Name}
use Rattle.page_trees.proofs.BodyInputs.{hidden_is}
use Rattle.page_trees.proofs.RulesRun.{plainly}
use Rattle.page_trees.proofs.RulesTaken.{chosen, plain_tag}
use Rattle.page_trees.proofs.TableRows.{table_known}
use Rattle.page_trees.proofs.TableTags.{tag_does}

abbrev if_hidden : Bool → List Act
if_hidden x = elim (x && true) [ true ↦ plainly (InsertElement ∷ Pop ∷ []) Next.Done | false ↦ does FosterOn [] ∷ goes (Use InBody) ∷ does FosterOff [] ∷ [] ]

input_row : (b : Building) → chosen (plain_tag true Name.Input) b (rules InTable) ≡ if_hidden (has_value (codes "type") (codes "hidden" ∷ []) b.attrs)
unfolding rules
input_row b = refl

hidden_row : (name : Name) (b : Building) → is_hidden_input name b ≡ true → chosen (plain_tag true name) b (rules InTable) ≡ plainly (InsertElement ∷ Pop ∷ []) Next.Done
hidden_row Name.Input b h = input_row b ∙ ap if_hidden h
hidden_row _ b h = absurd (cc)

pub input_inserted : (name : Name) (tag : Tag) (b : Building) (new : TreeBuilder) → IsCurrentTag name tag b → is_start_kind tag.kind ≡ true → is_hidden_input name b ≡ true →
    Constructs new (all_performed (InsertElement ∷ Pop ∷ []) b) → Outcome InTable b new Next.Done
input_inserted name tag b new current starts hidden stands =
    tag_does InTable table_known name tag true b new (InsertElement ∷ Pop ∷ []) Next.Done current starts refl (hidden_row name b hidden) stands

-- the code finds it hidden where the rules do
pub input_is : (name : Name) (tag : Tag) (b : Building) (x : Bool) → name ≡ Name.Input → IsCurrentTag name tag b → is_start_kind tag.kind ≡ true → x ≡ is_hidden_by tag.attrs.items →
    is_hidden_input name b ≡ x
input_is name tag b x named current starts e = ap (λ (n : Name). is_hidden_input n b) named ∙ sym (hidden_is name tag b current starts) ∙ sym e
