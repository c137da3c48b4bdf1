-- The text of a pseudo-class.
use Rattle.std.specs.Prelude.{ℕ, List, ◌++◌, codes}
use Rattle.dom_selectors.specs.Css.{css_text}
use Rattle.dom_selectors.specs.declared.pseudo_class.NonTSPseudoClass.{NonTSPseudoClass}
use Rattle.dom_selectors.specs.declared.pseudo_class.NonTSPseudoClass.TheVariants.{AnyLink, Link, Visited, Active, Focus, Hover, Enabled, Disabled, Checked, Indeterminate, OnlyText, HasText, Contains}

-- a colon and its name, with `(` if it has an argument
abbrev pub pseudo_name : NonTSPseudoClass → List ℕ
pseudo_name pseudo = elim pseudo [
  | AnyLink ↦ codes ":any-link"
  | Link ↦ codes ":link"
  | Visited ↦ codes ":visited"
  | Active ↦ codes ":active"
  | Focus ↦ codes ":focus"
  | Hover ↦ codes ":hover"
  | Enabled ↦ codes ":enabled"
  | Disabled ↦ codes ":disabled"
  | Checked ↦ codes ":checked"
  | Indeterminate ↦ codes ":indeterminate"
  | OnlyText ↦ codes ":only-text"
  | HasText text ↦ codes ":has-text("
  | Contains text ↦ codes ":contains("
]

-- its argument as a string, and `)`
abbrev pub pseudo_rest : NonTSPseudoClass → List ℕ
pseudo_rest (HasText text) = css_text text.0 ++ codes ")"
pseudo_rest (Contains text) = css_text text.0 ++ codes ")"
pseudo_rest _ = codes ""

abbrev pub pseudo_css : NonTSPseudoClass → List ℕ
pseudo_css pseudo = pseudo_name pseudo ++ pseudo_rest pseudo
