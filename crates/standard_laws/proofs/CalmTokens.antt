-- The names of calm elements: they are ASCII, and the two lists of void elements agree on them. So the tokens of calm trees are those of their nodes.
use Rattle.std.specs.Prelude.{◌≡◌, ◌≢◌, ℕ, Bool, true, false, not, ◌&&◌, ◌⊎◌, List, [], ◌∷◌, ◌++◌, map, codes, refl, if◌then◌else◌}
use Rattle.std.specs.Str.{IsUtf8, bytes_eq, chars}
use Rattle.std.proofs.Common.{inl, inr}
use Rattle.std.proofs.Math.Utf8.{encode}
use Rattle.std.proofs.lemmas.Bool.{and_parts, true≢false}
use Rattle.std.proofs.lemmas.List.{append_assoc}
use mathlib.Core.Path.{◌∙◌, sym, ap, subst}
use Rattle.dom_nodes.specs.Words.{is_among}
use Rattle.dom_markup.specs.Names.{raw_names, void_names}
use Rattle.dom_markup.specs.Plain.{IsPlainTrees}
use Rattle.dom_markup.specs.ValueTrees.{Attribute, ValueTrees}
use Rattle.dom_markup.specs.ValueTrees.ValueTrees.{no_trees, text_node, comment_node, doctype_node, element_node}
use Rattle.calm_pages.specs.Calm.{IsCalmDocument, admits, are_calm, bars, behind, behind_text, inside, may_hold_comment, may_hold_text, top}
use Rattle.calm_pages.specs.declared.nesting.Scope.{Scope}
use Rattle.page_trees.specs.ElementKinds.{kind_among, kind_of, may_hold, named_kinds, names_of}
use Rattle.page_trees.specs.declared.element_kinds.ElementCategory.{ElementCategory}
use Rattle.page_trees.specs.declared.element_kinds.ElementCategory.TheVariants.{Document, Html, Head, Body, Metadata, Verbatim, Phrase, Anchor, Button, Paragraph, Block, Heading, Form, Pre, ItemList, Item, DescriptionList, Description, Ruby, RubyText, Table, Caption, ColumnGroup, Column, RowGroup}
use Rattle.page_trees.specs.declared.element_kinds.ElementCategory.TheVariants.{TableRow, Cell, Other}
use Rattle.standard_rules.specs.TreeTokens.{doctype_named, end_of, tokens}
use Rattle.standard_rules.proofs.TreeLists.{Each}
use Rattle.standard_tokens.specs.Tokens.{Token, AChar, AComment, ADoctype, AStart, AnEnd}
use Rattle.standard_laws.proofs.PlainNodes.{plain_attrs, plain_nodes}
use Rattle.standard_laws.proofs.CategoryPlaces.{is_inner, holds_no_Document, holds_no_Html, holds_no_Other}
use Rattle.standard_laws.proofs.CalmPlain.{inner_behind, of_names}
use Rattle.standard_laws.proofs.CalmDocuments.{body_kind, calm_parts, head_kind, html_kind}
use Rattle.standard_laws.specs.TreeTokens.{doctype_of, start_of, tokens_in}

-- ---- names

pub record Known (name : List ℕ) : Type 0 where
  pub ascii : chars name ≡ name
  pub ends : end_of name ≡ (if is_among name void_names then [] else AnEnd name ∷ [])
  pub utf8 : IsUtf8 name
  pub read : (is_among name raw_names ≡ false) ⊎ ((kind_of name ≡ Verbatim) × (bytes_eq name (codes "plaintext") ≡ false))

html_known : Each Known (names_of Html)
unfolding names_of kind_of chars void_names raw_names encode
html_known = (record { ascii = refl; ends = refl; utf8 = (codes "html", (refl, refl)); read = inl refl }, tt)

head_known : Each Known (names_of Head)
unfolding names_of kind_of chars void_names raw_names encode
head_known = (record { ascii = refl; ends = refl; utf8 = (codes "head", (refl, refl)); read = inl refl }, tt)

body_known : Each Known (names_of Body)
unfolding names_of kind_of chars void_names raw_names encode
body_known = (record { ascii = refl; ends = refl; utf8 = (codes "body", (refl, refl)); read = inl refl }, tt)

metadata_known : Each Known (names_of Metadata)
unfolding names_of kind_of chars void_names raw_names encode
metadata_known =
    (record { ascii = refl; ends = refl; utf8 = (codes "base", (refl, refl)); read = inl refl }, (record { ascii = refl; ends = refl; utf8 = (codes "link", (refl, refl)); read = inl refl }, (record { ascii = refl; ends = refl; utf8 = (codes "meta", (refl, refl)); read = inl refl }, tt)))

verbatim_known : Each Known (names_of Verbatim)
unfolding names_of kind_of chars void_names raw_names encode
verbatim_known = (
  record { ascii = refl; ends = refl; utf8 = (codes "script", (refl, refl)); read = inr (refl, refl) },
  (record { ascii = refl; ends = refl; utf8 = (codes "style", (refl, refl)); read = inr (refl, refl) }, (record { ascii = refl; ends = refl; utf8 = (codes "title", (refl, refl)); read = inl refl }, tt)),
)

phrase_known : Each Known (names_of Phrase)
unfolding names_of kind_of chars void_names raw_names encode
phrase_known = (
  record { ascii = refl; ends = refl; utf8 = (codes "abbr", (refl, refl)); read = inl refl },
  (
    record { ascii = refl; ends = refl; utf8 = (codes "acronym", (refl, refl)); read = inl refl },
    (
      record { ascii = refl; ends = refl; utf8 = (codes "area", (refl, refl)); read = inl refl },
      (
        record { ascii = refl; ends = refl; utf8 = (codes "audio", (refl, refl)); read = inl refl },
        (
          record { ascii = refl; ends = refl; utf8 = (codes "b", (refl, refl)); read = inl refl },
          (
            record { ascii = refl; ends = refl; utf8 = (codes "bdi", (refl, refl)); read = inl refl },
            (
              record { ascii = refl; ends = refl; utf8 = (codes "bdo", (refl, refl)); read = inl refl },
              (
                record { ascii = refl; ends = refl; utf8 = (codes "big", (refl, refl)); read = inl refl },
                (
                  record { ascii = refl; ends = refl; utf8 = (codes "br", (refl, refl)); read = inl refl },
                  (
                    record { ascii = refl; ends = refl; utf8 = (codes "canvas", (refl, refl)); read = inl refl },
                    (
                      record { ascii = refl; ends = refl; utf8 = (codes "cite", (refl, refl)); read = inl refl },
                      (
                        record { ascii = refl; ends = refl; utf8 = (codes "code", (refl, refl)); read = inl refl },
                        (
                          record { ascii = refl; ends = refl; utf8 = (codes "data", (refl, refl)); read = inl refl },
                          (
                            record { ascii = refl; ends = refl; utf8 = (codes "datalist", (refl, refl)); read = inl refl },
                            (
                              record { ascii = refl; ends = refl; utf8 = (codes "del", (refl, refl)); read = inl refl },
                              (
                                record { ascii = refl; ends = refl; utf8 = (codes "dfn", (refl, refl)); read = inl refl },
                                (
                                  record { ascii = refl; ends = refl; utf8 = (codes "em", (refl, refl)); read = inl refl },
                                  (
                                    record { ascii = refl; ends = refl; utf8 = (codes "embed", (refl, refl)); read = inl refl },
                                    (
                                      record { ascii = refl; ends = refl; utf8 = (codes "font", (refl, refl)); read = inl refl },
                                      (
                                        record { ascii = refl; ends = refl; utf8 = (codes "i", (refl, refl)); read = inl refl },
                                        (
                                          record { ascii = refl; ends = refl; utf8 = (codes "img", (refl, refl)); read = inl refl },
                                          (
                                            record { ascii = refl; ends = refl; utf8 = (codes "input", (refl, refl)); read = inl refl },
                                            (
                                              record { ascii = refl; ends = refl; utf8 = (codes "ins", (refl, refl)); read = inl refl },
                                              (
                                                record { ascii = refl; ends = refl; utf8 = (codes "kbd", (refl, refl)); read = inl refl },
                                                (
                                                  record { ascii = refl; ends = refl; utf8 = (codes "label", (refl, refl)); read = inl refl },
                                                  (
                                                    record { ascii = refl; ends = refl; utf8 = (codes "legend", (refl, refl)); read = inl refl },
                                                    (
                                                      record { ascii = refl; ends = refl; utf8 = (codes "map", (refl, refl)); read = inl refl },
                                                      (
                                                        record { ascii = refl; ends = refl; utf8 = (codes "mark", (refl, refl)); read = inl refl },
                                                        (
                                                          record { ascii = refl; ends = refl; utf8 = (codes "meter", (refl, refl)); read = inl refl },
                                                          (
                                                            record { ascii = refl; ends = refl; utf8 = (codes "output", (refl, refl)); read = inl refl },
                                                            (
                                                              record { ascii = refl; ends = refl; utf8 = (codes "picture", (refl, refl)); read = inl refl },
                                                              (
                                                                record { ascii = refl; ends = refl; utf8 = (codes "progress", (refl, refl)); read = inl refl },
                                                                (
                                                                  record { ascii = refl; ends = refl; utf8 = (codes "q", (refl, refl)); read = inl refl },
                                                                  (
                                                                    record { ascii = refl; ends = refl; utf8 = (codes "s", (refl, refl)); read = inl refl },
                                                                    (
                                                                      record { ascii = refl; ends = refl; utf8 = (codes "samp", (refl, refl)); read = inl refl },
                                                                      (
                                                                        record { ascii = refl; ends = refl; utf8 = (codes "slot", (refl, refl)); read = inl refl },
                                                                        (
                                                                          record { ascii = refl; ends = refl; utf8 = (codes "small", (refl, refl)); read = inl refl },
                                                                          (
                                                                            record { ascii = refl; ends = refl; utf8 = (codes "source", (refl, refl)); read = inl refl },
                                                                            (
                                                                              record { ascii = refl; ends = refl; utf8 = (codes "span", (refl, refl)); read = inl refl },
                                                                              (
                                                                                record { ascii = refl; ends = refl; utf8 = (codes "strike", (refl, refl)); read = inl refl },
                                                                                (
                                                                                  record { ascii = refl; ends = refl; utf8 = (codes "strong", (refl, refl)); read = inl refl },
                                                                                  (
                                                                                    record { ascii = refl; ends = refl; utf8 = (codes "sub", (refl, refl)); read = inl refl },
                                                                                    (
                                                                                      record { ascii = refl; ends = refl; utf8 = (codes "sup", (refl, refl)); read = inl refl },
                                                                                      (
                                                                                        record { ascii = refl; ends = refl; utf8 = (codes "time", (refl, refl)); read = inl refl },
                                                                                        (
                                                                                          record { ascii = refl; ends = refl; utf8 = (codes "track", (refl, refl)); read = inl refl },
                                                                                          (
                                                                                            record { ascii = refl; ends = refl; utf8 = (codes "tt", (refl, refl)); read = inl refl },
                                                                                            (
                                                                                              record { ascii = refl; ends = refl; utf8 = (codes "u", (refl, refl)); read = inl refl },
                                                                                              (
                                                                                                record { ascii = refl; ends = refl; utf8 = (codes "var", (refl, refl)); read = inl refl },
                                                                                                (record { ascii = refl; ends = refl; utf8 = (codes "video", (refl, refl)); read = inl refl }, (record { ascii = refl; ends = refl; utf8 = (codes "wbr", (refl, refl)); read = inl refl }, tt)),
                                                                                              ),
                                                                                            ),
                                                                                          ),
                                                                                        ),
                                                                                      ),
                                                                                    ),
                                                                                  ),
                                                                                ),
                                                                              ),
                                                                            ),
                                                                          ),
                                                                        ),
                                                                      ),
                                                                    ),
                                                                  ),
                                                                ),
                                                              ),
                                                            ),
                                                          ),
                                                        ),
                                                      ),
                                                    ),
                                                  ),
                                                ),
                                              ),
                                            ),
                                          ),
                                        ),
                                      ),
                                    ),
                                  ),
                                ),
                              ),
                            ),
                          ),
                        ),
                      ),
                    ),
                  ),
                ),
              ),
            ),
          ),
        ),
      ),
    ),
  ),
)

anchor_known : Each Known (names_of Anchor)
unfolding names_of kind_of chars void_names raw_names encode
anchor_known = (record { ascii = refl; ends = refl; utf8 = (codes "a", (refl, refl)); read = inl refl }, tt)

button_known : Each Known (names_of Button)
unfolding names_of kind_of chars void_names raw_names encode
button_known = (record { ascii = refl; ends = refl; utf8 = (codes "button", (refl, refl)); read = inl refl }, tt)

paragraph_known : Each Known (names_of Paragraph)
unfolding names_of kind_of chars void_names raw_names encode
paragraph_known = (record { ascii = refl; ends = refl; utf8 = (codes "p", (refl, refl)); read = inl refl }, tt)

block_known : Each Known (names_of Block)
unfolding names_of kind_of chars void_names raw_names encode
block_known = (
  record { ascii = refl; ends = refl; utf8 = (codes "address", (refl, refl)); read = inl refl },
  (
    record { ascii = refl; ends = refl; utf8 = (codes "article", (refl, refl)); read = inl refl },
    (
      record { ascii = refl; ends = refl; utf8 = (codes "aside", (refl, refl)); read = inl refl },
      (
        record { ascii = refl; ends = refl; utf8 = (codes "blockquote", (refl, refl)); read = inl refl },
        (
          record { ascii = refl; ends = refl; utf8 = (codes "center", (refl, refl)); read = inl refl },
          (
            record { ascii = refl; ends = refl; utf8 = (codes "details", (refl, refl)); read = inl refl },
            (
              record { ascii = refl; ends = refl; utf8 = (codes "dialog", (refl, refl)); read = inl refl },
              (
                record { ascii = refl; ends = refl; utf8 = (codes "div", (refl, refl)); read = inl refl },
                (
                  record { ascii = refl; ends = refl; utf8 = (codes "fieldset", (refl, refl)); read = inl refl },
                  (
                    record { ascii = refl; ends = refl; utf8 = (codes "figcaption", (refl, refl)); read = inl refl },
                    (
                      record { ascii = refl; ends = refl; utf8 = (codes "figure", (refl, refl)); read = inl refl },
                      (
                        record { ascii = refl; ends = refl; utf8 = (codes "footer", (refl, refl)); read = inl refl },
                        (
                          record { ascii = refl; ends = refl; utf8 = (codes "header", (refl, refl)); read = inl refl },
                          (
                            record { ascii = refl; ends = refl; utf8 = (codes "hgroup", (refl, refl)); read = inl refl },
                            (
                              record { ascii = refl; ends = refl; utf8 = (codes "hr", (refl, refl)); read = inl refl },
                              (
                                record { ascii = refl; ends = refl; utf8 = (codes "main", (refl, refl)); read = inl refl },
                                (
                                  record { ascii = refl; ends = refl; utf8 = (codes "nav", (refl, refl)); read = inl refl },
                                  (
                                    record { ascii = refl; ends = refl; utf8 = (codes "search", (refl, refl)); read = inl refl },
                                    (record { ascii = refl; ends = refl; utf8 = (codes "section", (refl, refl)); read = inl refl }, (record { ascii = refl; ends = refl; utf8 = (codes "summary", (refl, refl)); read = inl refl }, tt)),
                                  ),
                                ),
                              ),
                            ),
                          ),
                        ),
                      ),
                    ),
                  ),
                ),
              ),
            ),
          ),
        ),
      ),
    ),
  ),
)

heading_known : Each Known (names_of Heading)
unfolding names_of kind_of chars void_names raw_names encode
heading_known = (
  record { ascii = refl; ends = refl; utf8 = (codes "h1", (refl, refl)); read = inl refl },
  (
    record { ascii = refl; ends = refl; utf8 = (codes "h2", (refl, refl)); read = inl refl },
    (
      record { ascii = refl; ends = refl; utf8 = (codes "h3", (refl, refl)); read = inl refl },
      (record { ascii = refl; ends = refl; utf8 = (codes "h4", (refl, refl)); read = inl refl }, (record { ascii = refl; ends = refl; utf8 = (codes "h5", (refl, refl)); read = inl refl }, (record { ascii = refl; ends = refl; utf8 = (codes "h6", (refl, refl)); read = inl refl }, tt))),
    ),
  ),
)

form_known : Each Known (names_of Form)
unfolding names_of kind_of chars void_names raw_names encode
form_known = (record { ascii = refl; ends = refl; utf8 = (codes "form", (refl, refl)); read = inl refl }, tt)

pre_known : Each Known (names_of Pre)
unfolding names_of kind_of chars void_names raw_names encode
pre_known = (record { ascii = refl; ends = refl; utf8 = (codes "pre", (refl, refl)); read = inl refl }, tt)

itemlist_known : Each Known (names_of ItemList)
unfolding names_of kind_of chars void_names raw_names encode
itemlist_known = (
  record { ascii = refl; ends = refl; utf8 = (codes "dir", (refl, refl)); read = inl refl },
  (record { ascii = refl; ends = refl; utf8 = (codes "menu", (refl, refl)); read = inl refl }, (record { ascii = refl; ends = refl; utf8 = (codes "ol", (refl, refl)); read = inl refl }, (record { ascii = refl; ends = refl; utf8 = (codes "ul", (refl, refl)); read = inl refl }, tt))),
)

item_known : Each Known (names_of Item)
unfolding names_of kind_of chars void_names raw_names encode
item_known = (record { ascii = refl; ends = refl; utf8 = (codes "li", (refl, refl)); read = inl refl }, tt)

descriptionlist_known : Each Known (names_of DescriptionList)
unfolding names_of kind_of chars void_names raw_names encode
descriptionlist_known = (record { ascii = refl; ends = refl; utf8 = (codes "dl", (refl, refl)); read = inl refl }, tt)

description_known : Each Known (names_of Description)
unfolding names_of kind_of chars void_names raw_names encode
description_known = (record { ascii = refl; ends = refl; utf8 = (codes "dd", (refl, refl)); read = inl refl }, (record { ascii = refl; ends = refl; utf8 = (codes "dt", (refl, refl)); read = inl refl }, tt))

ruby_known : Each Known (names_of Ruby)
unfolding names_of kind_of chars void_names raw_names encode
ruby_known = (record { ascii = refl; ends = refl; utf8 = (codes "ruby", (refl, refl)); read = inl refl }, tt)

rubytext_known : Each Known (names_of RubyText)
unfolding names_of kind_of chars void_names raw_names encode
rubytext_known = (record { ascii = refl; ends = refl; utf8 = (codes "rp", (refl, refl)); read = inl refl }, (record { ascii = refl; ends = refl; utf8 = (codes "rt", (refl, refl)); read = inl refl }, tt))

table_known : Each Known (names_of Table)
unfolding names_of kind_of chars void_names raw_names encode
table_known = (record { ascii = refl; ends = refl; utf8 = (codes "table", (refl, refl)); read = inl refl }, tt)

caption_known : Each Known (names_of Caption)
unfolding names_of kind_of chars void_names raw_names encode
caption_known = (record { ascii = refl; ends = refl; utf8 = (codes "caption", (refl, refl)); read = inl refl }, tt)

columngroup_known : Each Known (names_of ColumnGroup)
unfolding names_of kind_of chars void_names raw_names encode
columngroup_known = (record { ascii = refl; ends = refl; utf8 = (codes "colgroup", (refl, refl)); read = inl refl }, tt)

column_known : Each Known (names_of Column)
unfolding names_of kind_of chars void_names raw_names encode
column_known = (record { ascii = refl; ends = refl; utf8 = (codes "col", (refl, refl)); read = inl refl }, tt)

rowgroup_known : Each Known (names_of RowGroup)
unfolding names_of kind_of chars void_names raw_names encode
rowgroup_known =
    (record { ascii = refl; ends = refl; utf8 = (codes "tbody", (refl, refl)); read = inl refl }, (record { ascii = refl; ends = refl; utf8 = (codes "tfoot", (refl, refl)); read = inl refl }, (record { ascii = refl; ends = refl; utf8 = (codes "thead", (refl, refl)); read = inl refl }, tt)))

tablerow_known : Each Known (names_of TableRow)
unfolding names_of kind_of chars void_names raw_names encode
tablerow_known = (record { ascii = refl; ends = refl; utf8 = (codes "tr", (refl, refl)); read = inl refl }, tt)

cell_known : Each Known (names_of Cell)
unfolding names_of kind_of chars void_names raw_names encode
cell_known = (record { ascii = refl; ends = refl; utf8 = (codes "td", (refl, refl)); read = inl refl }, (record { ascii = refl; ends = refl; utf8 = (codes "th", (refl, refl)); read = inl refl }, tt))

of_category : (kind : ElementCategory) (name : List ℕ) → is_among name (names_of kind) ≡ true → Known name
unfolding names_of
of_category Document name is = absurd (true≢false (sym is))
of_category Html name is = of_names Known (names_of Html) html_known name is
of_category Head name is = of_names Known (names_of Head) head_known name is
of_category Body name is = of_names Known (names_of Body) body_known name is
of_category Metadata name is = of_names Known (names_of Metadata) metadata_known name is
of_category Verbatim name is = of_names Known (names_of Verbatim) verbatim_known name is
of_category Phrase name is = of_names Known (names_of Phrase) phrase_known name is
of_category Anchor name is = of_names Known (names_of Anchor) anchor_known name is
of_category Button name is = of_names Known (names_of Button) button_known name is
of_category Paragraph name is = of_names Known (names_of Paragraph) paragraph_known name is
of_category Block name is = of_names Known (names_of Block) block_known name is
of_category Heading name is = of_names Known (names_of Heading) heading_known name is
of_category Form name is = of_names Known (names_of Form) form_known name is
of_category Pre name is = of_names Known (names_of Pre) pre_known name is
of_category ItemList name is = of_names Known (names_of ItemList) itemlist_known name is
of_category Item name is = of_names Known (names_of Item) item_known name is
of_category DescriptionList name is = of_names Known (names_of DescriptionList) descriptionlist_known name is
of_category Description name is = of_names Known (names_of Description) description_known name is
of_category Ruby name is = of_names Known (names_of Ruby) ruby_known name is
of_category RubyText name is = of_names Known (names_of RubyText) rubytext_known name is
of_category Table name is = of_names Known (names_of Table) table_known name is
of_category Caption name is = of_names Known (names_of Caption) caption_known name is
of_category ColumnGroup name is = of_names Known (names_of ColumnGroup) columngroup_known name is
of_category Column name is = of_names Known (names_of Column) column_known name is
of_category RowGroup name is = of_names Known (names_of RowGroup) rowgroup_known name is
of_category TableRow name is = of_names Known (names_of TableRow) tablerow_known name is
of_category Cell name is = of_names Known (names_of Cell) cell_known name is
of_category Other name is = absurd (true≢false (sym is))

-- a name of some category
by_category : (name : List ℕ) (kinds : List ElementCategory) → kind_among name kinds ≢ Other → Known name
by_category name [] h = absurd (h refl)
by_category name (kind ∷ kinds) h = by_test (is_among name (names_of kind)) (of_category kind name) (by_category name kinds) h
  where
    by_test : (x : Bool) → (x ≡ true → Known name) → (kind_among name kinds ≢ Other → Known name) → (if x then kind else kind_among name kinds) ≢ Other → Known name
    by_test true f g h = f refl
    by_test false f g h = g h

pub known_name : (name : List ℕ) → kind_of name ≢ Other → Known name
unfolding kind_of
known_name name h = by_category name named_kinds h

-- what a parent in a head or a body holds has a category
pub held : (parent kind : ElementCategory) → is_inner parent ≡ true → may_hold parent kind ≡ true → kind ≢ Other
held parent kind i h e = true≢false (sym (holds_no_Other parent i (subst (λ (k : ElementCategory). may_hold parent k ≡ true) e h)))

-- ---- tokens

tail_same : (name : List ℕ) → Known name → (children later : ValueTrees) → (is_among name void_names ≡ true → children ≡ no_trees) → tokens_in children ≡ tokens (plain_nodes children) →
    (more : List Token) → (if is_among name void_names then [] else tokens_in children ++ AnEnd (chars name) ∷ []) ++ more ≡ tokens (plain_nodes children) ++ (end_of name ++ more)
tail_same name known children later void below more = by_test (is_among name void_names) refl known.ends
  where
    by_test : (x : Bool) → is_among name void_names ≡ x → end_of name ≡ (if x then [] else AnEnd name ∷ []) →
        (if x then [] else tokens_in children ++ AnEnd (chars name) ∷ []) ++ more ≡ tokens (plain_nodes children) ++ (end_of name ++ more)
    by_test true is ends = sym (ap (λ t. tokens (plain_nodes t) ++ (end_of name ++ more)) (void is) ∙ ap (λ ts. ts ++ more) ends)
    by_test false is ends =
        ap (λ n. (tokens_in children ++ AnEnd n ∷ []) ++ more) known.ascii ∙ append_assoc (tokens_in children) (AnEnd name ∷ []) more
        ∙ ap (λ ts. ts ++ (AnEnd name ∷ more)) below ∙ ap (λ ts. tokens (plain_nodes children) ++ (ts ++ more)) (sym ends)

element_same : (name : List ℕ) → Known name → (attributes : List Attribute) (children later : ValueTrees) → (is_among name void_names ≡ true → children ≡ no_trees) →
    tokens_in children ≡ tokens (plain_nodes children) → tokens_in later ≡ tokens (plain_nodes later) →
    tokens_in (element_node name attributes children later) ≡ tokens (plain_nodes (element_node name attributes children later))
element_same name known attributes children later void below after =
    ap (λ ts. start_of name attributes ∷ ((if is_among name void_names then [] else tokens_in children ++ AnEnd (chars name) ∷ []) ++ ts)) after
    ∙ ap (λ ts. start_of name attributes ∷ ts) (tail_same name known children later void below (tokens (plain_nodes later)))
    ∙ ap (λ n. AStart n (plain_attrs attributes) false ∷ (tokens (plain_nodes children) ++ (end_of name ++ tokens (plain_nodes later)))) known.ascii

-- what an element is held in has a category that is not the document's and not that of `html`
pub inner_inside : (scope : Scope) (kind : ElementCategory) → is_inner scope.parent ≡ true → may_hold scope.parent kind ≡ true → is_inner (inside scope kind).parent ≡ true
inner_inside scope Document i h = absurd (true≢false (sym (holds_no_Document scope.parent i h)))
inner_inside scope Html i h = absurd (true≢false (sym (holds_no_Html scope.parent i h)))
inner_inside scope Head i h = refl
inner_inside scope Body i h = refl
inner_inside scope Metadata i h = refl
inner_inside scope Verbatim i h = refl
inner_inside scope Phrase i h = refl
inner_inside scope Anchor i h = refl
inner_inside scope Button i h = refl
inner_inside scope Paragraph i h = refl
inner_inside scope Block i h = refl
inner_inside scope Heading i h = refl
inner_inside scope Form i h = refl
inner_inside scope Pre i h = refl
inner_inside scope ItemList i h = refl
inner_inside scope Item i h = refl
inner_inside scope DescriptionList i h = refl
inner_inside scope Description i h = refl
inner_inside scope Ruby i h = refl
inner_inside scope RubyText i h = refl
inner_inside scope Table i h = refl
inner_inside scope Caption i h = refl
inner_inside scope ColumnGroup i h = refl
inner_inside scope Column i h = refl
inner_inside scope RowGroup i h = refl
inner_inside scope TableRow i h = refl
inner_inside scope Cell i h = refl
inner_inside scope Other i h = refl

-- inside a head or a body
pub calm_tokens : (scope : Scope) (t : ValueTrees) → is_inner scope.parent ≡ true → IsPlainTrees false t → are_calm scope t ≡ true → tokens_in t ≡ tokens (plain_nodes t)
calm_tokens scope no_trees i p c = refl
calm_tokens scope (text_node contents later) i p c =
    let h : (may_hold_text scope.parent contents ≡ true) × (are_calm (behind scope) later ≡ true) = and_parts (may_hold_text scope.parent contents) (are_calm (behind scope) later) c in
    ap (λ ts. map AChar (chars contents) ++ ts) (calm_tokens (behind scope) later (inner_behind scope.parent i) p.3 h.1)
calm_tokens scope (comment_node contents later) i p c =
    let h : (may_hold_comment scope.parent contents ≡ true) × (are_calm (behind scope) later ≡ true) = and_parts (may_hold_comment scope.parent contents) (are_calm (behind scope) later) c in
    ap (λ ts. AComment (chars contents) ∷ ts) (calm_tokens (behind scope) later (inner_behind scope.parent i) p.1 h.1)
calm_tokens scope (doctype_node name public system later) i p c = absurd (true≢false (sym p.0))
calm_tokens scope (element_node name attributes children later) i p c =
    let kind : ElementCategory = kind_of name in
    let h : ((admits scope kind && are_calm (inside scope kind) children) ≡ true) × (are_calm (behind scope) later ≡ true) = and_parts (admits scope kind && are_calm (inside scope kind) children) (are_calm (behind scope) later) c in
    let k : (admits scope kind ≡ true) × (are_calm (inside scope kind) children ≡ true) = and_parts (admits scope kind) (are_calm (inside scope kind) children) h.0 in
    let may : may_hold scope.parent kind ≡ true = (and_parts (may_hold scope.parent kind) (not (bars scope kind)) k.0).0 in
    element_same name (known_name name (held scope.parent kind i may)) attributes children later p.3
    (calm_tokens (inside scope kind) children (inner_inside scope kind i may) p.5 k.1) (calm_tokens (behind scope) later (inner_behind scope.parent i) p.6 h.1)

-- ---- documents

pub html_name : Known (codes "html")
unfolding names_of kind_of chars void_names raw_names encode
html_name = record { ascii = refl; ends = refl; utf8 = (codes "html", (refl, refl)); read = inl refl }

pub head_name : Known (codes "head")
unfolding names_of kind_of chars void_names raw_names encode
head_name = record { ascii = refl; ends = refl; utf8 = (codes "head", (refl, refl)); read = inl refl }

pub body_name : Known (codes "body")
unfolding names_of kind_of chars void_names raw_names encode
body_name = record { ascii = refl; ends = refl; utf8 = (codes "body", (refl, refl)); read = inl refl }

body_tokens : (attributes : List Attribute) (body : ValueTrees) → are_calm (inside top Html) (element_node (codes "body") attributes body no_trees) ≡ true →
    IsPlainTrees false (element_node (codes "body") attributes body no_trees) → tokens_in (element_node (codes "body") attributes body no_trees) ≡ tokens (plain_nodes (element_node (codes "body") attributes body no_trees))
body_tokens attributes body c p =
    let inner : are_calm (inside (inside top Html) Body) body ≡ true = (calm_parts (inside top Html) (codes "body") Body attributes body no_trees body_kind c).0 in
    element_same (codes "body") body_name attributes body no_trees p.3 (calm_tokens (inside (inside top Html) Body) body refl p.5 inner) refl

-- white space, if any, and the body
rest_tokens : (space : List ℕ) (attributes : List Attribute) (body : ValueTrees) → are_calm (inside top Html) (behind_text space (element_node (codes "body") attributes body no_trees)) ≡ true →
    IsPlainTrees false (behind_text space (element_node (codes "body") attributes body no_trees)) →
    tokens_in (behind_text space (element_node (codes "body") attributes body no_trees)) ≡ tokens (plain_nodes (behind_text space (element_node (codes "body") attributes body no_trees)))
rest_tokens [] attributes body c p = body_tokens attributes body c p
rest_tokens (b ∷ space) attributes body c p =
    let e : ValueTrees = element_node (codes "body") attributes body no_trees in
    let h : (may_hold_text Html (b ∷ space) ≡ true) × (are_calm (inside top Html) e ≡ true) = and_parts (may_hold_text Html (b ∷ space)) (are_calm (inside top Html) e) c in
    ap (λ ts. map AChar (chars (b ∷ space)) ++ ts) (body_tokens attributes body h.1 p.3)

whole_tokens : (html head_attributes body_attributes : List Attribute) (head : ValueTrees) (space : List ℕ) (body : ValueTrees) → (t : ValueTrees) →
    t ≡ doctype_node (codes "html") [] [] (element_node (codes "html") html (element_node (codes "head") head_attributes head (behind_text space (element_node (codes "body") body_attributes body no_trees))) no_trees) →
    are_calm top (doctype_node (codes "html") [] [] (element_node (codes "html") html (element_node (codes "head") head_attributes head (behind_text space (element_node (codes "body") body_attributes body no_trees))) no_trees)) ≡ true →
    IsPlainTrees true (doctype_node (codes "html") [] [] (element_node (codes "html") html (element_node (codes "head") head_attributes head (behind_text space (element_node (codes "body") body_attributes body no_trees))) no_trees)) →
    tokens_in t ≡ tokens (plain_nodes t)
whole_tokens html head_attributes body_attributes head space body t is c p =
    let rest : ValueTrees = behind_text space (element_node (codes "body") body_attributes body no_trees) in
    let inner : ValueTrees = element_node (codes "head") head_attributes head rest in
    let root : ValueTrees = element_node (codes "html") html inner no_trees in
    let outer : (are_calm (inside top Html) inner ≡ true) × (are_calm top no_trees ≡ true) = calm_parts top (codes "html") Html html inner no_trees html_kind c in
    let parts : (are_calm (inside (inside top Html) Head) head ≡ true) × (are_calm (inside top Html) rest ≡ true) = calm_parts (inside top Html) (codes "head") Head head_attributes head rest head_kind outer.0 in
    let first : tokens_in head ≡ tokens (plain_nodes head) = calm_tokens (inside (inside top Html) Head) head refl p.4.5.5 parts.0 in
    let below : tokens_in inner ≡ tokens (plain_nodes inner) =
    element_same (codes "head") head_name head_attributes head rest p.4.5.3 first (rest_tokens space body_attributes body parts.1 p.4.5.6) in
    let all : tokens_in root ≡ tokens (plain_nodes root) = element_same (codes "html") html_name html inner no_trees p.4.3 below refl in
    subst (λ (x : ValueTrees). tokens_in x ≡ tokens (plain_nodes x)) (sym is) (ap (λ ts. doctype_of (codes "html") ∷ ts) all ∙ ap (λ n. ADoctype (doctype_named n) ∷ tokens (plain_nodes root)) html_name.ascii)

pub document_tokens : (t : ValueTrees) → IsCalmDocument t → IsPlainTrees true t → tokens_in t ≡ tokens (plain_nodes t)
document_tokens t d p =
    whole_tokens d.html_attributes d.head_attributes d.body_attributes d.head d.space d.body t d.is (ap (are_calm top) (sym d.is) ∙ d.calm) (subst (IsPlainTrees true) d.is p)
