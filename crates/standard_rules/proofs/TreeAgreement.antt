-- The trees of the rows of rows.jsonl, computed from the rules; written by generate.py.
use Rattle.std.specs.Prelude.{◌≡◌, false, [], ◌∷◌, None, Some, codes, refl}
use Rattle.standard_rules.specs.Building.{built, built_fragment, tree_step, run, taken, act, in_scope}
use Rattle.standard_rules.specs.TreeRules.{rules}
use Rattle.standard_rules.specs.TreeTokens.{no_trees, text_node, comment_node, doctype_named, doctype_node, element_node}
use Rattle.standard_tokens.specs.Tokens.{AChar, AComment, ADoctype, AStart, AnEnd}

row1 : built
    (ADoctype (doctype_named (codes "html")) ∷ AChar 97 ∷ AChar 32 ∷ AChar 98 ∷ AStart (codes "form") [] false ∷ AnEnd (codes "form") ∷ AStart (codes "dd") [] false ∷ AStart (codes "form") [] false ∷ AStart (codes "dl") [] false ∷ AStart (codes "p") [] false ∷ AnEnd (codes "p")
    ∷ AStart (codes "a") [] false ∷ AnEnd (codes "rtc") ∷ AStart (codes "rp") [] false ∷ AnEnd (codes "rp") ∷ []) ≡ Some
    (doctype_node (codes "html")
    (element_node (codes "html") []
    (element_node (codes "head") [] no_trees
    (element_node (codes "body") []
    (text_node (codes "a b")
    (element_node (codes "form") [] no_trees (element_node (codes "dd") [] (element_node (codes "form") [] (element_node (codes "dl") [] (element_node (codes "p") [] no_trees (element_node (codes "a") [] (element_node (codes "rp") [] no_trees no_trees) no_trees)) no_trees) no_trees) no_trees)))
    no_trees)) no_trees))
unfolding tree_step run taken act in_scope rules
row1 = refl

row2 : built (ADoctype (doctype_named (codes "html")) ∷ AStart (codes "html") [] false ∷ AStart (codes "head") [] false ∷ AnEnd (codes "head") ∷ AStart (codes "body") [] false ∷ AStart (codes "table") [] false ∷ AnEnd (codes "table") ∷ AStart (codes "i") [] false ∷ []) ≡ Some
    (doctype_node (codes "html") (element_node (codes "html") [] (element_node (codes "head") [] no_trees (element_node (codes "body") [] (element_node (codes "table") [] no_trees (element_node (codes "i") [] no_trees no_trees)) no_trees)) no_trees))
unfolding tree_step run taken act in_scope rules
row2 = refl

row3 : built (ADoctype (doctype_named (codes "html")) ∷ AStart (codes "table") [] false ∷ AStart (codes "colgroup") [] false ∷ AStart (codes "caption") [] false ∷ AComment (codes "c") ∷ AStart (codes "a") [] false ∷ AChar 120 ∷ []) ≡ Some
    (doctype_node (codes "html")
    (element_node (codes "html") []
    (element_node (codes "head") [] no_trees
    (element_node (codes "body") [] (element_node (codes "table") [] (element_node (codes "colgroup") [] no_trees (element_node (codes "caption") [] (comment_node (codes "c") (element_node (codes "a") [] (text_node (codes "x") no_trees) no_trees)) no_trees)) no_trees) no_trees)) no_trees))
unfolding tree_step run taken act in_scope rules
row3 = refl

row4 : built
    (ADoctype (doctype_named (codes "html")) ∷ AStart (codes "html") [] false ∷ AStart (codes "head") [] false ∷ AnEnd (codes "head") ∷ AStart (codes "body") [] false ∷ AStart (codes "title") [] false ∷ AChar 113 ∷ AnEnd (codes "title") ∷ AChar 32 ∷ AStart (codes "title") [] false ∷ AChar 113
    ∷ AnEnd (codes "title") ∷ AChar 120 ∷ AStart (codes "title") [] false ∷ AChar 113 ∷ AnEnd (codes "title") ∷ []) ≡ Some
    (doctype_node (codes "html")
    (element_node (codes "html") []
    (element_node (codes "head") [] no_trees
    (element_node (codes "body") [] (element_node (codes "title") [] (text_node (codes "q") no_trees) (text_node (codes " ") (element_node (codes "title") [] (text_node (codes "q") no_trees) (text_node (codes "x") (element_node (codes "title") [] (text_node (codes "q") no_trees) no_trees)))))
    no_trees)) no_trees))
unfolding tree_step run taken act in_scope rules
row4 = refl

row5 : built
    (ADoctype (doctype_named (codes "html")) ∷ AStart (codes "html") [] false ∷ AStart (codes "head") [] false ∷ AnEnd (codes "head") ∷ AStart (codes "body") [] false ∷ AStart (codes "dl") [] false ∷ AStart (codes "dd") [] false
    ∷ AStart (codes "input") (record { name = (codes "type"); value = (codes "x") } ∷ []) false ∷ AChar 10 ∷ AnEnd (codes "dd") ∷ AChar 120 ∷ []) ≡ Some
    (doctype_node (codes "html")
    (element_node (codes "html") []
    (element_node (codes "head") [] no_trees
    (element_node (codes "body") [] (element_node (codes "dl") [] (element_node (codes "dd") [] (element_node (codes "input") (record { name = (codes "type"); value = (codes "x") } ∷ []) no_trees (text_node (10 ∷ []) no_trees)) (text_node (codes "x") no_trees)) no_trees) no_trees)) no_trees))
unfolding tree_step run taken act in_scope rules
row5 = refl

row6 : built (ADoctype (doctype_named (codes "html")) ∷ AStart (codes "html") [] false ∷ AStart (codes "head") [] false ∷ AnEnd (codes "head") ∷ AStart (codes "body") [] false ∷ AnEnd (codes "body") ∷ AnEnd (codes "html") ∷ ADoctype (doctype_named (codes "html")) ∷ []) ≡ Some
    (doctype_node (codes "html") (element_node (codes "html") [] (element_node (codes "head") [] no_trees (element_node (codes "body") [] no_trees no_trees)) no_trees))
unfolding tree_step run taken act in_scope rules
row6 = refl

row7 : built (ADoctype (doctype_named (codes "html")) ∷ AStart (codes "html") [] false ∷ AStart (codes "head") [] false ∷ AnEnd (codes "head") ∷ AStart (codes "body") [] false ∷ AStart (codes "meta") [] false ∷ AChar 10 ∷ AStart (codes "source") [] false ∷ AStart (codes "hr") [] false ∷ []) ≡ Some
    (doctype_node (codes "html")
    (element_node (codes "html") [] (element_node (codes "head") [] no_trees (element_node (codes "body") [] (element_node (codes "meta") [] no_trees (text_node (10 ∷ []) (element_node (codes "source") [] no_trees (element_node (codes "hr") [] no_trees no_trees)))) no_trees)) no_trees))
unfolding tree_step run taken act in_scope rules
row7 = refl

row8 : built (ADoctype (doctype_named (codes "html")) ∷ AStart (codes "head") [] false ∷ AnEnd (codes "head") ∷ AStart (codes "rtc") [] false ∷ AStart (codes "meta") [] false ∷ []) ≡ Some
    (doctype_node (codes "html") (element_node (codes "html") [] (element_node (codes "head") [] no_trees (element_node (codes "body") [] (element_node (codes "rtc") [] (element_node (codes "meta") [] no_trees no_trees) no_trees) no_trees)) no_trees))
unfolding tree_step run taken act in_scope rules
row8 = refl

row9 : built
    (ADoctype (doctype_named (codes "html")) ∷ AStart (codes "html") [] false ∷ AStart (codes "head") [] false ∷ AnEnd (codes "head") ∷ AStart (codes "body") [] false ∷ AStart (codes "template") [] false ∷ AStart (codes "a") [] false ∷ AStart (codes "template") [] false ∷ AnEnd (codes "template")
    ∷ AStart (codes "pre") [] false ∷ []) ≡ None
unfolding tree_step run taken act in_scope rules
row9 = refl

row10 : built (ADoctype (doctype_named (codes "html")) ∷ AStart (codes "html") [] false ∷ AStart (codes "head") [] false ∷ AnEnd (codes "head") ∷ AStart (codes "body") [] false ∷ AStart (codes "ul") [] false ∷ AStart (codes "li") [] false ∷ AnEnd (codes "li") ∷ AnEnd (codes "input") ∷ []) ≡ Some
    (doctype_node (codes "html") (element_node (codes "html") [] (element_node (codes "head") [] no_trees (element_node (codes "body") [] (element_node (codes "ul") [] (element_node (codes "li") [] no_trees no_trees) no_trees) no_trees)) no_trees))
unfolding tree_step run taken act in_scope rules
row10 = refl

row11 : built
    (ADoctype (doctype_named (codes "html")) ∷ AStart (codes "html") [] false ∷ AStart (codes "head") [] false ∷ AnEnd (codes "head") ∷ AStart (codes "body") [] false ∷ AChar 120 ∷ AComment (codes "c") ∷ AStart (codes "td") [] false ∷ AStart (codes "table") [] false
    ∷ ADoctype (doctype_named (codes "html")) ∷ []) ≡ Some
    (doctype_node (codes "html") (element_node (codes "html") [] (element_node (codes "head") [] no_trees (element_node (codes "body") [] (text_node (codes "x") (comment_node (codes "c") (element_node (codes "table") [] no_trees no_trees))) no_trees)) no_trees))
unfolding tree_step run taken act in_scope rules
row11 = refl

row12 : built (ADoctype (doctype_named (codes "html")) ∷ AComment (codes "c") ∷ AStart (codes "br") [] false ∷ []) ≡ Some
    (doctype_node (codes "html") (comment_node (codes "c") (element_node (codes "html") [] (element_node (codes "head") [] no_trees (element_node (codes "body") [] (element_node (codes "br") [] no_trees no_trees) no_trees)) no_trees)))
unfolding tree_step run taken act in_scope rules
row12 = refl

row13 : built_fragment (codes "caption") (AStart (codes "pre") [] false ∷ []) ≡ Some (element_node (codes "pre") [] no_trees no_trees)
unfolding tree_step run taken act in_scope rules
row13 = refl

row14 : built
    (ADoctype (doctype_named (codes "html")) ∷ AStart (codes "html") [] false ∷ AStart (codes "head") [] false ∷ AnEnd (codes "head") ∷ AStart (codes "body") [] false ∷ AStart (codes "body") [] false ∷ AnEnd (codes "body") ∷ AStart (codes "p") [] false ∷ AnEnd (codes "p")
    ∷ AStart (codes "object") [] false ∷ AnEnd (codes "object") ∷ AStart (codes "ruby") [] false ∷ AStart (codes "th") [] false ∷ []) ≡ None
unfolding tree_step run taken act in_scope rules
row14 = refl

row15 : built_fragment (codes "td") ([]) ≡ Some no_trees
unfolding tree_step run taken act in_scope rules
row15 = refl

row16 : built_fragment (codes "div") ([]) ≡ Some no_trees
unfolding tree_step run taken act in_scope rules
row16 = refl

row17 : built (ADoctype (doctype_named (codes "html")) ∷ AStart (codes "html") [] false ∷ AStart (codes "head") [] false ∷ AnEnd (codes "head") ∷ AStart (codes "body") [] false ∷ AStart (codes "table") [] false ∷ AStart (codes "tr") [] false ∷ []) ≡ Some
    (doctype_node (codes "html") (element_node (codes "html") [] (element_node (codes "head") [] no_trees (element_node (codes "body") [] (element_node (codes "table") [] (element_node (codes "tbody") [] (element_node (codes "tr") [] no_trees no_trees) no_trees) no_trees) no_trees)) no_trees))
unfolding tree_step run taken act in_scope rules
row17 = refl

row18 : built (ADoctype (doctype_named (codes "html")) ∷ AStart (codes "ul") [] false ∷ AStart (codes "li") [] false ∷ AnEnd (codes "li") ∷ AStart (codes "title") [] false ∷ AChar 113 ∷ AnEnd (codes "title") ∷ AnEnd (codes "ul") ∷ AStart (codes "thead") [] false ∷ []) ≡ Some
    (doctype_node (codes "html")
    (element_node (codes "html") [] (element_node (codes "head") [] no_trees (element_node (codes "body") [] (element_node (codes "ul") [] (element_node (codes "li") [] no_trees (element_node (codes "title") [] (text_node (codes "q") no_trees) no_trees)) no_trees) no_trees)) no_trees))
unfolding tree_step run taken act in_scope rules
row18 = refl

row19 : built (ADoctype (doctype_named (codes "html")) ∷ AStart (codes "tbody") [] false ∷ AStart (codes "head") [] false ∷ AnEnd (codes "h2") ∷ AnEnd (codes "head") ∷ AStart (codes "dl") [] false ∷ AChar 32 ∷ ADoctype (doctype_named (codes "html")) ∷ AChar 97 ∷ AChar 32 ∷ AChar 98 ∷ []) ≡ Some
    (doctype_node (codes "html") (element_node (codes "html") [] (element_node (codes "head") [] no_trees (element_node (codes "body") [] (element_node (codes "dl") [] (text_node (codes " a b") no_trees) no_trees) no_trees)) no_trees))
unfolding tree_step run taken act in_scope rules
row19 = refl

row20 : built
    (ADoctype (doctype_named (codes "html")) ∷ AStart (codes "html") [] false ∷ AStart (codes "head") [] false ∷ AnEnd (codes "head") ∷ AStart (codes "body") [] false ∷ AStart (codes "table") [] false ∷ AStart (codes "tbody") [] false ∷ AStart (codes "tr") [] false ∷ AStart (codes "td") [] false
    ∷ AnEnd (codes "td") ∷ []) ≡ Some
    (doctype_node (codes "html")
    (element_node (codes "html") [] (element_node (codes "head") [] no_trees (element_node (codes "body") [] (element_node (codes "table") [] (element_node (codes "tbody") [] (element_node (codes "tr") [] (element_node (codes "td") [] no_trees no_trees) no_trees) no_trees) no_trees) no_trees))
    no_trees))
unfolding tree_step run taken act in_scope rules
row20 = refl

row21 : built (ADoctype (doctype_named (codes "html")) ∷ AStart (codes "html") [] false ∷ AStart (codes "head") [] false ∷ AnEnd (codes "head") ∷ AStart (codes "body") [] false ∷ AnEnd (codes "body") ∷ AnEnd (codes "body") ∷ []) ≡ Some
    (doctype_node (codes "html") (element_node (codes "html") [] (element_node (codes "head") [] no_trees (element_node (codes "body") [] no_trees no_trees)) no_trees))
unfolding tree_step run taken act in_scope rules
row21 = refl

row22 : built
    (ADoctype (doctype_named (codes "html")) ∷ AStart (codes "html") [] false ∷ AStart (codes "head") [] false ∷ AnEnd (codes "head") ∷ AStart (codes "body") [] false ∷ AStart (codes "table") [] false ∷ AnEnd (codes "table") ∷ AStart (codes "span") [] false ∷ AStart (codes "dt") [] false
    ∷ AStart (codes "li") [] false ∷ []) ≡ Some
    (doctype_node (codes "html")
    (element_node (codes "html") [] (element_node (codes "head") [] no_trees (element_node (codes "body") [] (element_node (codes "table") [] no_trees (element_node (codes "span") [] (element_node (codes "dt") [] (element_node (codes "li") [] no_trees no_trees) no_trees) no_trees)) no_trees))
    no_trees))
unfolding tree_step run taken act in_scope rules
row22 = refl

row23 : built
    (ADoctype (doctype_named (codes "html")) ∷ AStart (codes "html") [] false ∷ AStart (codes "head") [] false ∷ AnEnd (codes "head") ∷ AStart (codes "body") [] false ∷ AStart (codes "param") [] false ∷ AChar 10 ∷ AStart (codes "rp") [] false ∷ AChar 120 ∷ AStart (codes "em") [] false
    ∷ AnEnd (codes "em") ∷ AnEnd (codes "ruby") ∷ AChar 97 ∷ AChar 32 ∷ AChar 98 ∷ []) ≡ Some
    (doctype_node (codes "html")
    (element_node (codes "html") []
    (element_node (codes "head") [] no_trees (element_node (codes "body") [] (element_node (codes "param") [] no_trees (text_node (10 ∷ []) (element_node (codes "rp") [] (text_node (codes "x") (element_node (codes "em") [] no_trees (text_node (codes "a b") no_trees))) no_trees))) no_trees))
    no_trees))
unfolding tree_step run taken act in_scope rules
row23 = refl

row24 : built_fragment (codes "caption") (AStart (codes "td") [] false ∷ AComment (codes "c") ∷ AChar 32 ∷ AStart (codes "hr") [] false ∷ AStart (codes "dl") [] false ∷ AChar 97 ∷ AChar 32 ∷ AChar 98 ∷ []) ≡ Some
    (comment_node (codes "c") (text_node (codes " ") (element_node (codes "hr") [] no_trees (element_node (codes "dl") [] (text_node (codes "a b") no_trees) no_trees))))
unfolding tree_step run taken act in_scope rules
row24 = refl

row25 : built
    (ADoctype (doctype_named (codes "html")) ∷ AStart (codes "html") [] false ∷ AStart (codes "head") [] false ∷ AnEnd (codes "head") ∷ AStart (codes "body") [] false ∷ AStart (codes "h1") [] false ∷ AStart (codes "p") [] false ∷ AChar 121 ∷ AStart (codes "a") [] false ∷ AnEnd (codes "a")
    ∷ AChar 120 ∷ AnEnd (codes "p") ∷ AStart (codes "img") [] false ∷ AStart (codes "source") [] false ∷ AnEnd (codes "h1") ∷ AStart (codes "rb") [] false ∷ AnEnd (codes "rb") ∷ []) ≡ Some
    (doctype_node (codes "html")
    (element_node (codes "html") []
    (element_node (codes "head") [] no_trees
    (element_node (codes "body") []
    (element_node (codes "h1") [] (element_node (codes "p") [] (text_node (codes "y") (element_node (codes "a") [] no_trees (text_node (codes "x") no_trees))) (element_node (codes "img") [] no_trees (element_node (codes "source") [] no_trees no_trees)))
    (element_node (codes "rb") [] no_trees no_trees)) no_trees)) no_trees))
unfolding tree_step run taken act in_scope rules
row25 = refl

row26 : built
    (ADoctype (doctype_named (codes "html")) ∷ AStart (codes "html") [] false ∷ AStart (codes "head") [] false ∷ AnEnd (codes "head") ∷ AStart (codes "body") [] false ∷ AStart (codes "table") [] false ∷ AStart (codes "caption") [] false ∷ AnEnd (codes "caption") ∷ AnEnd (codes "table") ∷ AChar 32
    ∷ AChar 97 ∷ AChar 32 ∷ AChar 98 ∷ []) ≡ Some
    (doctype_node (codes "html") (element_node (codes "html") [] (element_node (codes "head") [] no_trees (element_node (codes "body") [] (element_node (codes "table") [] (element_node (codes "caption") [] no_trees no_trees) (text_node (codes " a b") no_trees)) no_trees)) no_trees))
unfolding tree_step run taken act in_scope rules
row26 = refl

row27 : built_fragment (codes "li") ([]) ≡ Some no_trees
unfolding tree_step run taken act in_scope rules
row27 = refl

row28 : built_fragment (codes "blockquote") (AChar 97 ∷ AChar 32 ∷ AChar 98 ∷ []) ≡ Some (text_node (codes "a b") no_trees)
unfolding tree_step run taken act in_scope rules
row28 = refl

row29 : built (ADoctype (doctype_named (codes "html")) ∷ AStart (codes "html") [] false ∷ AStart (codes "head") [] false ∷ AnEnd (codes "head") ∷ AStart (codes "body") [] false ∷ ADoctype (doctype_named (codes "html")) ∷ AnEnd (codes "html") ∷ AComment (codes "c") ∷ []) ≡ None
unfolding tree_step run taken act in_scope rules
row29 = refl

row30 : built (ADoctype (doctype_named (codes "html")) ∷ AStart (codes "html") [] false ∷ AStart (codes "head") [] false ∷ AnEnd (codes "head") ∷ AStart (codes "body") [] false ∷ AStart (codes "table") [] false ∷ AChar 32 ∷ []) ≡ Some
    (doctype_node (codes "html") (element_node (codes "html") [] (element_node (codes "head") [] no_trees (element_node (codes "body") [] (element_node (codes "table") [] (text_node (codes " ") no_trees) no_trees) no_trees)) no_trees))
unfolding tree_step run taken act in_scope rules
row30 = refl

row31 : built
    (ADoctype (doctype_named (codes "html")) ∷ AStart (codes "html") [] false ∷ AStart (codes "head") [] false ∷ AnEnd (codes "head") ∷ AStart (codes "body") [] false ∷ AComment (codes "c") ∷ AnEnd (codes "body") ∷ AnEnd (codes "html") ∷ AChar 32 ∷ AnEnd (codes "body") ∷ AChar 120
    ∷ ADoctype (doctype_named (codes "html")) ∷ AChar 32 ∷ []) ≡ Some (doctype_node (codes "html") (element_node (codes "html") [] (element_node (codes "head") [] no_trees (element_node (codes "body") [] (comment_node (codes "c") (text_node (codes " x ") no_trees)) no_trees)) no_trees))
unfolding tree_step run taken act in_scope rules
row31 = refl

row32 : built_fragment (codes "colgroup") (AStart (codes "tr") [] false ∷ AnEnd (codes "tbody") ∷ AnEnd (codes "td") ∷ AStart (codes "td") [] false ∷ AnEnd (codes "td") ∷ AStart (codes "td") [] false ∷ AChar 32 ∷ AStart (codes "tr") [] false ∷ []) ≡ Some (text_node (codes " ") no_trees)
unfolding tree_step run taken act in_scope rules
row32 = refl

row33 : built (ADoctype (doctype_named (codes "html")) ∷ AStart (codes "html") [] false ∷ AStart (codes "head") [] false ∷ AnEnd (codes "head") ∷ AStart (codes "body") [] false ∷ AnEnd (codes "colgroup") ∷ AChar 120 ∷ AnEnd (codes "colgroup") ∷ AnEnd (codes "col") ∷ AnEnd (codes "template") ∷ []) ≡
    None
unfolding tree_step run taken act in_scope rules
row33 = refl

row34 : built
    (ADoctype (doctype_named (codes "html")) ∷ AStart (codes "html") [] false ∷ AStart (codes "head") [] false ∷ AnEnd (codes "head") ∷ AStart (codes "body") [] false ∷ AStart (codes "p") [] false ∷ AComment (codes "c") ∷ AStart (codes "p") [] false ∷ AStart (codes "br") [] false ∷ AnEnd (codes "p")
    ∷ AnEnd (codes "p") ∷ AChar 121 ∷ AChar 120 ∷ AStart (codes "i") [] false ∷ AnEnd (codes "img") ∷ AStart (codes "tr") [] false ∷ AnEnd (codes "tr") ∷ []) ≡ Some
    (doctype_node (codes "html")
    (element_node (codes "html") []
    (element_node (codes "head") [] no_trees
    (element_node (codes "body") [] (element_node (codes "p") [] (comment_node (codes "c") no_trees) (element_node (codes "p") [] (element_node (codes "br") [] no_trees no_trees) (element_node (codes "p") [] no_trees (text_node (codes "yx") (element_node (codes "i") [] no_trees no_trees)))))
    no_trees)) no_trees))
unfolding tree_step run taken act in_scope rules
row34 = refl

row35 : built_fragment (codes "colgroup") (AStart (codes "li") [] false ∷ AComment (codes "c") ∷ AStart (codes "div") [] false ∷ AStart (codes "table") [] false ∷ AComment (codes "c") ∷ AnEnd (codes "table") ∷ AStart (codes "rtc") [] false ∷ []) ≡ Some
    (comment_node (codes "c") (comment_node (codes "c") no_trees))
unfolding tree_step run taken act in_scope rules
row35 = refl

row36 : built
    (ADoctype (doctype_named (codes "html")) ∷ AStart (codes "html") [] false ∷ AStart (codes "head") [] false ∷ AnEnd (codes "head") ∷ AStart (codes "body") [] false ∷ AStart (codes "h1") [] false ∷ AStart (codes "button") [] false ∷ AnEnd (codes "button") ∷ AnEnd (codes "h1") ∷ AChar 121
    ∷ AStart (codes "i") [] false ∷ AStart (codes "dl") [] false ∷ AnEnd (codes "dl") ∷ []) ≡ Some
    (doctype_node (codes "html")
    (element_node (codes "html") []
    (element_node (codes "head") [] no_trees (element_node (codes "body") [] (element_node (codes "h1") [] (element_node (codes "button") [] no_trees no_trees) (text_node (codes "y") (element_node (codes "i") [] (element_node (codes "dl") [] no_trees no_trees) no_trees))) no_trees)) no_trees))
unfolding tree_step run taken act in_scope rules
row36 = refl

row37 : built_fragment (codes "caption") (AChar 120 ∷ AnEnd (codes "body") ∷ []) ≡ Some (text_node (codes "x") no_trees)
unfolding tree_step run taken act in_scope rules
row37 = refl

row38 : built (ADoctype (doctype_named (codes "html")) ∷ AStart (codes "html") [] false ∷ AStart (codes "head") [] false ∷ AnEnd (codes "head") ∷ AStart (codes "body") [] false ∷ AnEnd (codes "html") ∷ []) ≡ Some
    (doctype_node (codes "html") (element_node (codes "html") [] (element_node (codes "head") [] no_trees (element_node (codes "body") [] no_trees no_trees)) no_trees))
unfolding tree_step run taken act in_scope rules
row38 = refl

row39 : built
    (ADoctype (doctype_named (codes "html")) ∷ ADoctype (doctype_named (codes "html")) ∷ AStart (codes "dl") [] false ∷ AStart (codes "div") [] false ∷ AnEnd (codes "div") ∷ AChar 32 ∷ AChar 120 ∷ AnEnd (codes "caption") ∷ AStart (codes "title") [] false ∷ AChar 113 ∷ AnEnd (codes "title")
    ∷ AStart (codes "em") [] false ∷ AnEnd (codes "em") ∷ AStart (codes "caption") [] false ∷ AStart (codes "col") [] false ∷ []) ≡ Some
    (doctype_node (codes "html")
    (element_node (codes "html") []
    (element_node (codes "head") [] no_trees
    (element_node (codes "body") [] (element_node (codes "dl") [] (element_node (codes "div") [] no_trees (text_node (codes " x") (element_node (codes "title") [] (text_node (codes "q") no_trees) (element_node (codes "em") [] no_trees no_trees)))) no_trees) no_trees)) no_trees))
unfolding tree_step run taken act in_scope rules
row39 = refl

row40 : built
    (ADoctype (doctype_named (codes "html")) ∷ AStart (codes "html") [] false ∷ AStart (codes "head") [] false ∷ AnEnd (codes "head") ∷ AStart (codes "body") [] false ∷ ADoctype (doctype_named (codes "html")) ∷ AComment (codes "c") ∷ AnEnd (codes "body") ∷ ADoctype (doctype_named (codes "html"))
    ∷ AComment (codes "c") ∷ AComment (codes "c") ∷ AnEnd (codes "body") ∷ AnEnd (codes "html") ∷ []) ≡ None
unfolding tree_step run taken act in_scope rules
row40 = refl

row41 : built
    (ADoctype (doctype_named (codes "html")) ∷ AStart (codes "address") [] false ∷ AnEnd (codes "address") ∷ AStart (codes "input") (record { name = (codes "type"); value = (codes "hidden") } ∷ []) false ∷ AStart (codes "p") [] false ∷ AChar 97 ∷ AChar 32 ∷ AChar 98
    ∷ AStart (codes "address") [] false ∷ AStart (codes "param") [] false ∷ AStart (codes "caption") [] false ∷ []) ≡ Some
    (doctype_node (codes "html")
    (element_node (codes "html") []
    (element_node (codes "head") [] no_trees
    (element_node (codes "body") []
    (element_node (codes "address") [] no_trees
    (element_node (codes "input") (record { name = (codes "type"); value = (codes "hidden") } ∷ []) no_trees (element_node (codes "p") [] (text_node (codes "a b") no_trees) (element_node (codes "address") [] (element_node (codes "param") [] no_trees no_trees) no_trees)))) no_trees)) no_trees))
unfolding tree_step run taken act in_scope rules
row41 = refl

row42 : built
    (ADoctype (doctype_named (codes "html")) ∷ AStart (codes "html") [] false ∷ AStart (codes "head") [] false ∷ AnEnd (codes "head") ∷ AStart (codes "body") [] false ∷ AStart (codes "td") [] false ∷ AnEnd (codes "td") ∷ AnEnd (codes "td") ∷ AStart (codes "table") [] false
    ∷ AStart (codes "td") [] false ∷ []) ≡ Some
    (doctype_node (codes "html")
    (element_node (codes "html") [] (element_node (codes "head") [] no_trees (element_node (codes "body") [] (element_node (codes "table") [] (element_node (codes "tbody") [] (element_node (codes "tr") [] (element_node (codes "td") [] no_trees no_trees) no_trees) no_trees) no_trees) no_trees))
    no_trees))
unfolding tree_step run taken act in_scope rules
row42 = refl

row43 : built
    (ADoctype (doctype_named (codes "html")) ∷ AStart (codes "html") [] false ∷ AStart (codes "head") [] false ∷ AnEnd (codes "head") ∷ AStart (codes "body") [] false ∷ AnEnd (codes "caption") ∷ AStart (codes "tr") [] false ∷ AStart (codes "table") [] false ∷ AnEnd (codes "tfoot")
    ∷ AStart (codes "table") [] false ∷ AnEnd (codes "th") ∷ AnEnd (codes "tfoot") ∷ AnEnd (codes "table") ∷ []) ≡ Some
    (doctype_node (codes "html") (element_node (codes "html") [] (element_node (codes "head") [] no_trees (element_node (codes "body") [] (element_node (codes "table") [] no_trees (element_node (codes "table") [] no_trees no_trees)) no_trees)) no_trees))
unfolding tree_step run taken act in_scope rules
row43 = refl

row44 : built
    (ADoctype (doctype_named (codes "html")) ∷ AStart (codes "html") [] false ∷ AStart (codes "head") [] false ∷ AnEnd (codes "head") ∷ AStart (codes "body") [] false ∷ AStart (codes "br") [] false ∷ ADoctype (doctype_named (codes "html")) ∷ AStart (codes "object") [] false ∷ AnEnd (codes "object")
    ∷ []) ≡ Some (doctype_node (codes "html") (element_node (codes "html") [] (element_node (codes "head") [] no_trees (element_node (codes "body") [] (element_node (codes "br") [] no_trees (element_node (codes "object") [] no_trees no_trees)) no_trees)) no_trees))
unfolding tree_step run taken act in_scope rules
row44 = refl

row45 : built (ADoctype (doctype_named (codes "html")) ∷ AStart (codes "html") [] false ∷ AStart (codes "head") [] false ∷ AnEnd (codes "head") ∷ AStart (codes "body") [] false ∷ AStart (codes "table") [] false ∷ AStart (codes "tbody") [] false ∷ AChar 10 ∷ []) ≡ Some
    (doctype_node (codes "html") (element_node (codes "html") [] (element_node (codes "head") [] no_trees (element_node (codes "body") [] (element_node (codes "table") [] (element_node (codes "tbody") [] (text_node (10 ∷ []) no_trees) no_trees) no_trees) no_trees)) no_trees))
unfolding tree_step run taken act in_scope rules
row45 = refl

row46 : built
    (ADoctype (doctype_named (codes "html")) ∷ AStart (codes "html") [] false ∷ AStart (codes "head") [] false ∷ AnEnd (codes "head") ∷ AStart (codes "body") [] false ∷ AStart (codes "table") [] false ∷ AStart (codes "tr") [] false ∷ AnEnd (codes "tr") ∷ AnEnd (codes "table") ∷ AChar 120
    ∷ ADoctype (doctype_named (codes "html")) ∷ []) ≡ Some
    (doctype_node (codes "html")
    (element_node (codes "html") [] (element_node (codes "head") [] no_trees (element_node (codes "body") [] (element_node (codes "table") [] (element_node (codes "tbody") [] (element_node (codes "tr") [] no_trees no_trees) no_trees) (text_node (codes "x") no_trees)) no_trees)) no_trees))
unfolding tree_step run taken act in_scope rules
row46 = refl

row47 : built (ADoctype (doctype_named (codes "html")) ∷ AStart (codes "html") [] false ∷ AStart (codes "html") [] false ∷ []) ≡ None
unfolding tree_step run taken act in_scope rules
row47 = refl

row48 : built
    (ADoctype (doctype_named (codes "html")) ∷ AStart (codes "html") [] false ∷ AStart (codes "head") [] false ∷ AnEnd (codes "head") ∷ AStart (codes "body") [] false ∷ AChar 120 ∷ AStart (codes "table") [] false ∷ AnEnd (codes "td") ∷ AStart (codes "td") [] false ∷ AStart (codes "td") [] false
    ∷ []) ≡ Some
    (doctype_node (codes "html")
    (element_node (codes "html") []
    (element_node (codes "head") [] no_trees
    (element_node (codes "body") [] (text_node (codes "x") (element_node (codes "table") [] (element_node (codes "tbody") [] (element_node (codes "tr") [] (element_node (codes "td") [] no_trees (element_node (codes "td") [] no_trees no_trees)) no_trees) no_trees) no_trees)) no_trees)) no_trees))
unfolding tree_step run taken act in_scope rules
row48 = refl

row49 : built (ADoctype (doctype_named (codes "html")) ∷ AStart (codes "html") [] false ∷ AStart (codes "head") [] false ∷ AnEnd (codes "head") ∷ AStart (codes "body") [] false ∷ AStart (codes "table") [] false ∷ AComment (codes "c") ∷ []) ≡ Some
    (doctype_node (codes "html") (element_node (codes "html") [] (element_node (codes "head") [] no_trees (element_node (codes "body") [] (element_node (codes "table") [] (comment_node (codes "c") no_trees) no_trees) no_trees)) no_trees))
unfolding tree_step run taken act in_scope rules
row49 = refl

row50 : built (ADoctype (doctype_named (codes "html")) ∷ AChar 32 ∷ AStart (codes "html") [] false ∷ []) ≡ Some (doctype_node (codes "html") (element_node (codes "html") [] (element_node (codes "head") [] no_trees (element_node (codes "body") [] no_trees no_trees)) no_trees))
unfolding tree_step run taken act in_scope rules
row50 = refl

row51 : built (ADoctype (doctype_named (codes "html")) ∷ AStart (codes "table") [] false ∷ AStart (codes "tbody") [] false ∷ AStart (codes "tr") [] false ∷ AStart (codes "tr") [] false ∷ []) ≡ Some
    (doctype_node (codes "html")
    (element_node (codes "html") [] (element_node (codes "head") [] no_trees (element_node (codes "body") [] (element_node (codes "table") [] (element_node (codes "tbody") [] (element_node (codes "tr") [] no_trees (element_node (codes "tr") [] no_trees no_trees)) no_trees) no_trees) no_trees))
    no_trees))
unfolding tree_step run taken act in_scope rules
row51 = refl

row52 : built
    (ADoctype (doctype_named (codes "html")) ∷ AStart (codes "html") [] false ∷ AStart (codes "head") [] false ∷ AnEnd (codes "head") ∷ AStart (codes "body") [] false ∷ AStart (codes "table") [] false ∷ AStart (codes "tbody") [] false ∷ AnEnd (codes "tbody") ∷ AnEnd (codes "table")
    ∷ AStart (codes "span") [] false ∷ AComment (codes "c") ∷ AnEnd (codes "span") ∷ AStart (codes "rb") [] false ∷ AStart (codes "col") [] false ∷ AStart (codes "param") [] false ∷ []) ≡ Some
    (doctype_node (codes "html")
    (element_node (codes "html") []
    (element_node (codes "head") [] no_trees
    (element_node (codes "body") [] (element_node (codes "table") [] (element_node (codes "tbody") [] no_trees no_trees) (element_node (codes "span") [] (comment_node (codes "c") no_trees) (element_node (codes "rb") [] (element_node (codes "param") [] no_trees no_trees) no_trees))) no_trees))
    no_trees))
unfolding tree_step run taken act in_scope rules
row52 = refl

row53 : built (ADoctype (doctype_named (codes "html")) ∷ AStart (codes "html") [] false ∷ AStart (codes "head") [] false ∷ AnEnd (codes "head") ∷ AStart (codes "body") [] false ∷ AStart (codes "table") [] false ∷ AStart (codes "tbody") [] false ∷ AStart (codes "colgroup") [] false ∷ AChar 32 ∷ []) ≡
    Some
    (doctype_node (codes "html")
    (element_node (codes "html") [] (element_node (codes "head") [] no_trees (element_node (codes "body") [] (element_node (codes "table") [] (element_node (codes "tbody") [] no_trees (element_node (codes "colgroup") [] (text_node (codes " ") no_trees) no_trees)) no_trees) no_trees)) no_trees))
unfolding tree_step run taken act in_scope rules
row53 = refl

row54 : built_fragment (codes "tr") (AStart (codes "colgroup") [] false ∷ []) ≡ Some no_trees
unfolding tree_step run taken act in_scope rules
row54 = refl

row55 : built (ADoctype (doctype_named (codes "html")) ∷ AStart (codes "style") [] false ∷ AChar 113 ∷ AnEnd (codes "style") ∷ ADoctype (doctype_named (codes "html")) ∷ AStart (codes "title") [] false ∷ AChar 113 ∷ AnEnd (codes "title") ∷ AStart (codes "b") [] false ∷ []) ≡ Some
    (doctype_node (codes "html")
    (element_node (codes "html") []
    (element_node (codes "head") [] (element_node (codes "style") [] (text_node (codes "q") no_trees) (element_node (codes "title") [] (text_node (codes "q") no_trees) no_trees)) (element_node (codes "body") [] (element_node (codes "b") [] no_trees no_trees) no_trees)) no_trees))
unfolding tree_step run taken act in_scope rules
row55 = refl

row56 : built (ADoctype (doctype_named (codes "html")) ∷ ADoctype (doctype_named (codes "html")) ∷ AnEnd (codes "p") ∷ []) ≡ Some (doctype_node (codes "html") (element_node (codes "html") [] (element_node (codes "head") [] no_trees (element_node (codes "body") [] no_trees no_trees)) no_trees))
unfolding tree_step run taken act in_scope rules
row56 = refl

row57 : built_fragment (codes "li") (AnEnd (codes "caption") ∷ AStart (codes "td") [] false ∷ AStart (codes "caption") [] false ∷ AStart (codes "caption") [] false ∷ AStart (codes "table") [] false ∷ AnEnd (codes "td") ∷ AStart (codes "td") [] false ∷ AnEnd (codes "table") ∷ []) ≡ Some
    (element_node (codes "table") [] (element_node (codes "tbody") [] (element_node (codes "tr") [] (element_node (codes "td") [] no_trees no_trees) no_trees) no_trees) no_trees)
unfolding tree_step run taken act in_scope rules
row57 = refl

row58 : built_fragment (codes "tbody") ([]) ≡ Some no_trees
unfolding tree_step run taken act in_scope rules
row58 = refl

row59 : built
    (ADoctype (doctype_named (codes "html")) ∷ AStart (codes "html") [] false ∷ AStart (codes "head") [] false ∷ AnEnd (codes "head") ∷ AStart (codes "body") [] false ∷ AnEnd (codes "body") ∷ AChar 120 ∷ AnEnd (codes "html") ∷ AnEnd (codes "body") ∷ ADoctype (doctype_named (codes "html")) ∷ []) ≡
    Some (doctype_node (codes "html") (element_node (codes "html") [] (element_node (codes "head") [] no_trees (element_node (codes "body") [] (text_node (codes "x") no_trees) no_trees)) no_trees))
unfolding tree_step run taken act in_scope rules
row59 = refl

row60 : built
    (ADoctype (doctype_named (codes "html")) ∷ AStart (codes "html") [] false ∷ AStart (codes "head") [] false ∷ AnEnd (codes "head") ∷ AStart (codes "body") [] false ∷ AnEnd (codes "br") ∷ AStart (codes "html") [] false ∷ AnEnd (codes "body") ∷ AStart (codes "frameset") [] false
    ∷ AStart (codes "rb") [] false ∷ []) ≡ None
unfolding tree_step run taken act in_scope rules
row60 = refl

row61 : built_fragment (codes "body") (AnEnd (codes "td") ∷ AnEnd (codes "caption") ∷ AStart (codes "td") [] false ∷ AnEnd (codes "table") ∷ AStart (codes "caption") [] false ∷ AStart (codes "td") [] false ∷ AChar 120 ∷ AStart (codes "td") [] false ∷ []) ≡ Some (text_node (codes "x") no_trees)
unfolding tree_step run taken act in_scope rules
row61 = refl

row62 : built_fragment (codes "table") (AStart (codes "tbody") [] false ∷ AStart (codes "tr") [] false ∷ []) ≡ Some (element_node (codes "tbody") [] (element_node (codes "tr") [] no_trees no_trees) no_trees)
unfolding tree_step run taken act in_scope rules
row62 = refl

row63 : built (ADoctype (doctype_named (codes "html")) ∷ AStart (codes "html") [] false ∷ AStart (codes "head") [] false ∷ AnEnd (codes "head") ∷ AStart (codes "body") [] false ∷ AStart (codes "ruby") [] false ∷ AStart (codes "rp") [] false ∷ []) ≡ Some
    (doctype_node (codes "html") (element_node (codes "html") [] (element_node (codes "head") [] no_trees (element_node (codes "body") [] (element_node (codes "ruby") [] (element_node (codes "rp") [] no_trees no_trees) no_trees) no_trees)) no_trees))
unfolding tree_step run taken act in_scope rules
row63 = refl

row64 : built (ADoctype (doctype_named (codes "html")) ∷ AStart (codes "col") [] false ∷ AStart (codes "colgroup") [] false ∷ AStart (codes "table") [] false ∷ AStart (codes "style") [] false ∷ AChar 113 ∷ AnEnd (codes "style") ∷ []) ≡ Some
    (doctype_node (codes "html") (element_node (codes "html") [] (element_node (codes "head") [] no_trees (element_node (codes "body") [] (element_node (codes "table") [] (element_node (codes "style") [] (text_node (codes "q") no_trees) no_trees) no_trees) no_trees)) no_trees))
unfolding tree_step run taken act in_scope rules
row64 = refl

row65 : built_fragment (codes "table") (AStart (codes "tr") [] false ∷ AnEnd (codes "td") ∷ AStart (codes "td") [] false ∷ []) ≡ Some (element_node (codes "tbody") [] (element_node (codes "tr") [] (element_node (codes "td") [] no_trees no_trees) no_trees) no_trees)
unfolding tree_step run taken act in_scope rules
row65 = refl

row66 : built
    (ADoctype (doctype_named (codes "html")) ∷ AStart (codes "html") [] false ∷ AStart (codes "head") [] false ∷ AnEnd (codes "head") ∷ AStart (codes "body") [] false ∷ AStart (codes "table") [] false ∷ AStart (codes "tbody") [] false ∷ AStart (codes "tr") [] false ∷ AStart (codes "td") [] false
    ∷ AStart (codes "title") [] false ∷ AChar 113 ∷ AnEnd (codes "title") ∷ AComment (codes "c") ∷ AComment (codes "c") ∷ AStart (codes "div") [] false ∷ AStart (codes "p") [] false ∷ AnEnd (codes "html") ∷ AStart (codes "li") [] false ∷ AnEnd (codes "p") ∷ []) ≡ Some
    (doctype_node (codes "html")
    (element_node (codes "html") []
    (element_node (codes "head") [] no_trees
    (element_node (codes "body") []
    (element_node (codes "table") []
    (element_node (codes "tbody") []
    (element_node (codes "tr") []
    (element_node (codes "td") []
    (element_node (codes "title") [] (text_node (codes "q") no_trees) (comment_node (codes "c") (comment_node (codes "c") (element_node (codes "div") [] (element_node (codes "p") [] no_trees (element_node (codes "li") [] (element_node (codes "p") [] no_trees no_trees) no_trees)) no_trees))))
    no_trees) no_trees) no_trees) no_trees) no_trees)) no_trees))
unfolding tree_step run taken act in_scope rules
row66 = refl

row67 : built_fragment (codes "colgroup") (AChar 32 ∷ AStart (codes "html") [] false ∷ AStart (codes "html") [] false ∷ []) ≡ None
unfolding tree_step run taken act in_scope rules
row67 = refl

row68 : built (ADoctype (doctype_named (codes "html")) ∷ AnEnd (codes "html") ∷ []) ≡ Some (doctype_node (codes "html") (element_node (codes "html") [] (element_node (codes "head") [] no_trees (element_node (codes "body") [] no_trees no_trees)) no_trees))
unfolding tree_step run taken act in_scope rules
row68 = refl

row69 : built
    (ADoctype (doctype_named (codes "html")) ∷ AStart (codes "html") [] false ∷ AStart (codes "head") [] false ∷ AnEnd (codes "head") ∷ AStart (codes "body") [] false ∷ AChar 32 ∷ AStart (codes "colgroup") [] false ∷ AStart (codes "table") [] false ∷ AChar 32 ∷ AStart (codes "col") [] false
    ∷ AnEnd (codes "col") ∷ AStart (codes "colgroup") [] false ∷ AChar 32 ∷ []) ≡ Some
    (doctype_node (codes "html")
    (element_node (codes "html") []
    (element_node (codes "head") [] no_trees
    (element_node (codes "body") [] (text_node (codes " ") (element_node (codes "table") [] (text_node (codes " ") (element_node (codes "colgroup") [] (element_node (codes "col") [] no_trees no_trees) (element_node (codes "colgroup") [] (text_node (codes " ") no_trees) no_trees))) no_trees))
    no_trees)) no_trees))
unfolding tree_step run taken act in_scope rules
row69 = refl

row70 : built (ADoctype (doctype_named (codes "html")) ∷ AStart (codes "html") [] false ∷ AChar 32 ∷ []) ≡ Some (doctype_node (codes "html") (element_node (codes "html") [] (element_node (codes "head") [] no_trees (element_node (codes "body") [] no_trees no_trees)) no_trees))
unfolding tree_step run taken act in_scope rules
row70 = refl

row71 : built (AComment (codes "c") ∷ AComment (codes "c") ∷ AChar 32 ∷ ADoctype (doctype_named (codes "html")) ∷ ADoctype (doctype_named (codes "html")) ∷ []) ≡ Some
    (comment_node (codes "c") (comment_node (codes "c") (doctype_node (codes "html") (element_node (codes "html") [] (element_node (codes "head") [] no_trees (element_node (codes "body") [] no_trees no_trees)) no_trees))))
unfolding tree_step run taken act in_scope rules
row71 = refl

row72 : built
    (ADoctype (doctype_named (codes "html")) ∷ AStart (codes "html") [] false ∷ AStart (codes "head") [] false ∷ AnEnd (codes "head") ∷ AStart (codes "body") [] false ∷ AStart (codes "table") [] false ∷ AStart (codes "colgroup") [] false ∷ AStart (codes "colgroup") [] false
    ∷ AnEnd (codes "colgroup") ∷ AnEnd (codes "colgroup") ∷ AnEnd (codes "table") ∷ AStart (codes "tr") [] false ∷ AStart (codes "col") [] false ∷ AnEnd (codes "tr") ∷ AStart (codes "rp") [] false ∷ AnEnd (codes "rp") ∷ AStart (codes "ul") [] false ∷ AnEnd (codes "th") ∷ AnEnd (codes "ul") ∷ []) ≡
    Some
    (doctype_node (codes "html")
    (element_node (codes "html") []
    (element_node (codes "head") [] no_trees
    (element_node (codes "body") [] (element_node (codes "table") [] (element_node (codes "colgroup") [] no_trees (element_node (codes "colgroup") [] no_trees no_trees)) (element_node (codes "rp") [] no_trees (element_node (codes "ul") [] no_trees no_trees))) no_trees)) no_trees))
unfolding tree_step run taken act in_scope rules
row72 = refl

row73 : built
    (ADoctype (doctype_named (codes "html")) ∷ AStart (codes "html") [] false ∷ AStart (codes "head") [] false ∷ AnEnd (codes "head") ∷ AStart (codes "body") [] false ∷ AnEnd (codes "td") ∷ AStart (codes "table") [] false ∷ AStart (codes "table") [] false ∷ AStart (codes "caption") [] false
    ∷ AStart (codes "caption") [] false ∷ AStart (codes "td") [] false ∷ AnEnd (codes "td") ∷ AnEnd (codes "table") ∷ []) ≡ Some
    (doctype_node (codes "html")
    (element_node (codes "html") []
    (element_node (codes "head") [] no_trees
    (element_node (codes "body") []
    (element_node (codes "table") [] no_trees
    (element_node (codes "table") [] (element_node (codes "caption") [] no_trees (element_node (codes "caption") [] no_trees (element_node (codes "tbody") [] (element_node (codes "tr") [] (element_node (codes "td") [] no_trees no_trees) no_trees) no_trees))) no_trees)) no_trees)) no_trees))
unfolding tree_step run taken act in_scope rules
row73 = refl

row74 : built
    (ADoctype (doctype_named (codes "html")) ∷ AStart (codes "html") [] false ∷ AStart (codes "head") [] false ∷ AnEnd (codes "head") ∷ AStart (codes "body") [] false ∷ AChar 121 ∷ AChar 97 ∷ AChar 32 ∷ AChar 98 ∷ AStart (codes "table") [] false ∷ AnEnd (codes "table") ∷ AStart (codes "b") [] false
    ∷ AnEnd (codes "b") ∷ AStart (codes "p") [] false ∷ AComment (codes "c") ∷ AnEnd (codes "body") ∷ AChar 10 ∷ AStart (codes "rt") [] false ∷ AnEnd (codes "rt") ∷ []) ≡ Some
    (doctype_node (codes "html")
    (element_node (codes "html") []
    (element_node (codes "head") [] no_trees
    (element_node (codes "body") [] (text_node (codes "ya b") (element_node (codes "table") [] no_trees (element_node (codes "b") [] no_trees (element_node (codes "p") [] (comment_node (codes "c") (text_node (10 ∷ []) (element_node (codes "rt") [] no_trees no_trees))) no_trees)))) no_trees))
    no_trees))
unfolding tree_step run taken act in_scope rules
row74 = refl

row75 : built (ADoctype (doctype_named (codes "html")) ∷ AStart (codes "html") [] false ∷ AStart (codes "head") [] false ∷ AnEnd (codes "head") ∷ AStart (codes "body") [] false ∷ AChar 0 ∷ []) ≡ Some
    (doctype_node (codes "html") (element_node (codes "html") [] (element_node (codes "head") [] no_trees (element_node (codes "body") [] no_trees no_trees)) no_trees))
unfolding tree_step run taken act in_scope rules
row75 = refl

row76 : built (ADoctype (doctype_named (codes "html")) ∷ ADoctype (doctype_named (codes "html")) ∷ AnEnd (codes "head") ∷ AComment (codes "c") ∷ AChar 32 ∷ []) ≡ Some
    (doctype_node (codes "html") (element_node (codes "html") [] (element_node (codes "head") [] no_trees (comment_node (codes "c") (text_node (codes " ") (element_node (codes "body") [] no_trees no_trees)))) no_trees))
unfolding tree_step run taken act in_scope rules
row76 = refl

row77 : built_fragment (codes "table") (AnEnd (codes "td") ∷ AnEnd (codes "table") ∷ []) ≡ Some no_trees
unfolding tree_step run taken act in_scope rules
row77 = refl

row78 : built (ADoctype (doctype_named (codes "html")) ∷ AChar 10 ∷ AStart (codes "head") [] false ∷ AnEnd (codes "colgroup") ∷ AComment (codes "c") ∷ []) ≡ Some
    (doctype_node (codes "html") (element_node (codes "html") [] (element_node (codes "head") [] (comment_node (codes "c") no_trees) (element_node (codes "body") [] no_trees no_trees)) no_trees))
unfolding tree_step run taken act in_scope rules
row78 = refl

row79 : built
    (ADoctype (doctype_named (codes "html")) ∷ AStart (codes "meta") [] false ∷ AStart (codes "html") [] false ∷ AStart (codes "col") [] false ∷ AStart (codes "tr") [] false ∷ AnEnd (codes "input") ∷ AStart (codes "button") [] false ∷ ADoctype (doctype_named (codes "html"))
    ∷ AStart (codes "rtc") [] false ∷ []) ≡ None
unfolding tree_step run taken act in_scope rules
row79 = refl

row80 : built_fragment (codes "tbody") (AnEnd (codes "html") ∷ AnEnd (codes "html") ∷ []) ≡ Some no_trees
unfolding tree_step run taken act in_scope rules
row80 = refl

row81 : built (AChar 32 ∷ ADoctype (doctype_named (codes "html")) ∷ AStart (codes "html") [] false ∷ AChar 32 ∷ AComment (codes "c") ∷ []) ≡ Some
    (doctype_node (codes "html") (element_node (codes "html") [] (comment_node (codes "c") (element_node (codes "head") [] no_trees (element_node (codes "body") [] no_trees no_trees))) no_trees))
unfolding tree_step run taken act in_scope rules
row81 = refl

row82 : built
    (ADoctype (doctype_named (codes "html")) ∷ AStart (codes "html") [] false ∷ AStart (codes "head") [] false ∷ AnEnd (codes "head") ∷ AStart (codes "body") [] false ∷ AStart (codes "table") [] false ∷ AStart (codes "tbody") [] false ∷ AStart (codes "tr") [] false ∷ AStart (codes "td") [] false
    ∷ AComment (codes "c") ∷ AnEnd (codes "thead") ∷ []) ≡ Some
    (doctype_node (codes "html")
    (element_node (codes "html") []
    (element_node (codes "head") [] no_trees (element_node (codes "body") [] (element_node (codes "table") [] (element_node (codes "tbody") [] (element_node (codes "tr") [] (element_node (codes "td") [] (comment_node (codes "c") no_trees) no_trees) no_trees) no_trees) no_trees) no_trees)) no_trees))
unfolding tree_step run taken act in_scope rules
row82 = refl

row83 : built (ADoctype (doctype_named (codes "html")) ∷ AStart (codes "html") [] false ∷ ADoctype (doctype_named (codes "html")) ∷ []) ≡ Some
    (doctype_node (codes "html") (element_node (codes "html") [] (element_node (codes "head") [] no_trees (element_node (codes "body") [] no_trees no_trees)) no_trees))
unfolding tree_step run taken act in_scope rules
row83 = refl

row84 : built
    (ADoctype (doctype_named (codes "html")) ∷ AStart (codes "html") [] false ∷ AStart (codes "head") [] false ∷ AnEnd (codes "head") ∷ AStart (codes "body") [] false ∷ AStart (codes "a") [] false ∷ AStart (codes "ruby") [] false ∷ AStart (codes "a") [] false ∷ AStart (codes "html") [] false
    ∷ AnEnd (codes "template") ∷ AStart (codes "frameset") [] false ∷ AnEnd (codes "template") ∷ AStart (codes "a") [] false ∷ []) ≡ None
unfolding tree_step run taken act in_scope rules
row84 = refl

row85 : built
    (ADoctype (doctype_named (codes "html")) ∷ AStart (codes "html") [] false ∷ AStart (codes "head") [] false ∷ AnEnd (codes "head") ∷ AStart (codes "body") [] false ∷ AStart (codes "table") [] false ∷ AnEnd (codes "tr") ∷ AStart (codes "tr") [] false ∷ AnEnd (codes "tbody") ∷ AnEnd (codes "tbody")
    ∷ []) ≡ None
unfolding tree_step run taken act in_scope rules
row85 = refl

row86 : built
    (ADoctype (doctype_named (codes "html")) ∷ AStart (codes "html") [] false ∷ AStart (codes "head") [] false ∷ AnEnd (codes "head") ∷ AStart (codes "body") [] false ∷ AStart (codes "table") [] false ∷ AStart (codes "caption") [] false ∷ AnEnd (codes "caption") ∷ AStart (codes "caption") [] false
    ∷ AnEnd (codes "table") ∷ AChar 120 ∷ AStart (codes "td") [] false ∷ AnEnd (codes "caption") ∷ []) ≡ Some
    (doctype_node (codes "html")
    (element_node (codes "html") [] (element_node (codes "head") [] no_trees (element_node (codes "body") [] (element_node (codes "table") [] (element_node (codes "caption") [] no_trees (element_node (codes "caption") [] no_trees no_trees)) (text_node (codes "x") no_trees)) no_trees)) no_trees))
unfolding tree_step run taken act in_scope rules
row86 = refl

row87 : built (AComment (codes "c") ∷ ADoctype (doctype_named (codes "html")) ∷ AnEnd (codes "head") ∷ AStart (codes "html") [] false ∷ AnEnd (codes "head") ∷ []) ≡ None
unfolding tree_step run taken act in_scope rules
row87 = refl

row88 : built (ADoctype (doctype_named (codes "html")) ∷ AnEnd (codes "head") ∷ AnEnd (codes "p") ∷ []) ≡ Some (doctype_node (codes "html") (element_node (codes "html") [] (element_node (codes "head") [] no_trees (element_node (codes "body") [] no_trees no_trees)) no_trees))
unfolding tree_step run taken act in_scope rules
row88 = refl

row89 : built
    (ADoctype (doctype_named (codes "html")) ∷ AStart (codes "html") [] false ∷ AStart (codes "head") [] false ∷ AnEnd (codes "head") ∷ AStart (codes "body") [] false ∷ AnEnd (codes "td") ∷ AStart (codes "table") [] false ∷ AStart (codes "td") [] false ∷ AnEnd (codes "th") ∷ AnEnd (codes "table")
    ∷ []) ≡ Some
    (doctype_node (codes "html")
    (element_node (codes "html") [] (element_node (codes "head") [] no_trees (element_node (codes "body") [] (element_node (codes "table") [] (element_node (codes "tbody") [] (element_node (codes "tr") [] (element_node (codes "td") [] no_trees no_trees) no_trees) no_trees) no_trees) no_trees))
    no_trees))
unfolding tree_step run taken act in_scope rules
row89 = refl

row90 : built
    (ADoctype (doctype_named (codes "html")) ∷ AStart (codes "html") [] false ∷ AStart (codes "head") [] false ∷ AnEnd (codes "head") ∷ AStart (codes "body") [] false ∷ AnEnd (codes "colgroup") ∷ AChar 120 ∷ AStart (codes "table") [] false ∷ AStart (codes "colgroup") [] false
    ∷ ADoctype (doctype_named (codes "html")) ∷ []) ≡ Some
    (doctype_node (codes "html") (element_node (codes "html") [] (element_node (codes "head") [] no_trees (element_node (codes "body") [] (text_node (codes "x") (element_node (codes "table") [] (element_node (codes "colgroup") [] no_trees no_trees) no_trees)) no_trees)) no_trees))
unfolding tree_step run taken act in_scope rules
row90 = refl

row91 : built (ADoctype (doctype_named (codes "html")) ∷ AStart (codes "head") [] false ∷ AnEnd (codes "head") ∷ AnEnd (codes "head") ∷ ADoctype (doctype_named (codes "html")) ∷ []) ≡ Some
    (doctype_node (codes "html") (element_node (codes "html") [] (element_node (codes "head") [] no_trees (element_node (codes "body") [] no_trees no_trees)) no_trees))
unfolding tree_step run taken act in_scope rules
row91 = refl

row92 : built
    (ADoctype (doctype_named (codes "html")) ∷ AStart (codes "html") [] false ∷ AStart (codes "head") [] false ∷ AnEnd (codes "head") ∷ AStart (codes "body") [] false ∷ AStart (codes "button") [] false ∷ AStart (codes "rtc") [] false ∷ AStart (codes "em") [] false ∷ AChar 97 ∷ AChar 32 ∷ AChar 98
    ∷ AStart (codes "ruby") [] false ∷ AStart (codes "br") [] false ∷ AStart (codes "p") [] false ∷ AStart (codes "rb") [] false ∷ []) ≡ Some
    (doctype_node (codes "html")
    (element_node (codes "html") []
    (element_node (codes "head") [] no_trees
    (element_node (codes "body") []
    (element_node (codes "button") []
    (element_node (codes "rtc") [] (element_node (codes "em") [] (text_node (codes "a b") (element_node (codes "ruby") [] (element_node (codes "br") [] no_trees (element_node (codes "p") [] no_trees (element_node (codes "rb") [] no_trees no_trees))) no_trees)) no_trees) no_trees) no_trees)
    no_trees)) no_trees))
unfolding tree_step run taken act in_scope rules
row92 = refl

row93 : built (AComment (codes "c") ∷ ADoctype (doctype_named (codes "html")) ∷ AStart (codes "html") [] false ∷ AnEnd (codes "p") ∷ AnEnd (codes "p") ∷ []) ≡ Some
    (comment_node (codes "c") (doctype_node (codes "html") (element_node (codes "html") [] (element_node (codes "head") [] no_trees (element_node (codes "body") [] no_trees no_trees)) no_trees)))
unfolding tree_step run taken act in_scope rules
row93 = refl

row94 : built
    (ADoctype (doctype_named (codes "html")) ∷ AStart (codes "html") [] false ∷ AStart (codes "head") [] false ∷ AnEnd (codes "head") ∷ AStart (codes "body") [] false ∷ AStart (codes "source") [] false ∷ AStart (codes "button") [] false ∷ AStart (codes "button") [] false
    ∷ AStart (codes "td") [] false ∷ []) ≡ Some
    (doctype_node (codes "html") (element_node (codes "html") [] (element_node (codes "head") [] no_trees (element_node (codes "body") [] (element_node (codes "source") [] no_trees (element_node (codes "button") [] no_trees (element_node (codes "button") [] no_trees no_trees))) no_trees)) no_trees))
unfolding tree_step run taken act in_scope rules
row94 = refl

row95 : built
    (ADoctype (doctype_named (codes "html")) ∷ AStart (codes "html") [] false ∷ AStart (codes "head") [] false ∷ AnEnd (codes "head") ∷ AStart (codes "body") [] false ∷ AStart (codes "table") [] false ∷ AStart (codes "table") [] false ∷ AStart (codes "col") [] false
    ∷ AStart (codes "colgroup") [] false ∷ AnEnd (codes "template") ∷ AStart (codes "colgroup") [] false ∷ AChar 120 ∷ AChar 32 ∷ []) ≡ None
unfolding tree_step run taken act in_scope rules
row95 = refl

row96 : built (ADoctype (doctype_named (codes "html")) ∷ AStart (codes "link") [] false ∷ AnEnd (codes "template") ∷ AChar 32 ∷ AnEnd (codes "p") ∷ []) ≡ None
unfolding tree_step run taken act in_scope rules
row96 = refl

row97 : built
    (ADoctype (doctype_named (codes "html")) ∷ AComment (codes "c") ∷ AStart (codes "title") [] false ∷ AChar 113 ∷ AnEnd (codes "title") ∷ ADoctype (doctype_named (codes "html")) ∷ AStart (codes "head") [] false ∷ ADoctype (doctype_named (codes "html")) ∷ AStart (codes "head") [] false
    ∷ AStart (codes "head") [] false ∷ []) ≡ Some
    (doctype_node (codes "html") (comment_node (codes "c") (element_node (codes "html") [] (element_node (codes "head") [] (element_node (codes "title") [] (text_node (codes "q") no_trees) no_trees) (element_node (codes "body") [] no_trees no_trees)) no_trees)))
unfolding tree_step run taken act in_scope rules
row97 = refl

row98 : built
    (ADoctype (doctype_named (codes "html")) ∷ AStart (codes "table") [] false ∷ AStart (codes "caption") [] false ∷ AnEnd (codes "caption") ∷ AnEnd (codes "table") ∷ AStart (codes "form") [] false ∷ AStart (codes "ruby") [] false ∷ AnEnd (codes "ruby") ∷ AStart (codes "form") [] false
    ∷ AStart (codes "rp") [] false ∷ AnEnd (codes "rp") ∷ []) ≡ Some
    (doctype_node (codes "html")
    (element_node (codes "html") []
    (element_node (codes "head") [] no_trees
    (element_node (codes "body") [] (element_node (codes "table") [] (element_node (codes "caption") [] no_trees no_trees) (element_node (codes "form") [] (element_node (codes "ruby") [] no_trees (element_node (codes "rp") [] no_trees no_trees)) no_trees)) no_trees)) no_trees))
unfolding tree_step run taken act in_scope rules
row98 = refl

row99 : built
    (ADoctype (doctype_named (codes "html")) ∷ AStart (codes "html") [] false ∷ AStart (codes "head") [] false ∷ AnEnd (codes "head") ∷ AStart (codes "body") [] false ∷ AStart (codes "td") [] false ∷ AStart (codes "caption") [] false ∷ AnEnd (codes "td") ∷ AStart (codes "caption") [] false
    ∷ AnEnd (codes "td") ∷ AStart (codes "table") [] false ∷ AStart (codes "tbody") [] false ∷ AnEnd (codes "tfoot") ∷ []) ≡ Some
    (doctype_node (codes "html") (element_node (codes "html") [] (element_node (codes "head") [] no_trees (element_node (codes "body") [] (element_node (codes "table") [] (element_node (codes "tbody") [] no_trees no_trees) no_trees) no_trees)) no_trees))
unfolding tree_step run taken act in_scope rules
row99 = refl

row100 : built_fragment (codes "tbody") (AStart (codes "colgroup") [] false ∷ []) ≡ Some no_trees
unfolding tree_step run taken act in_scope rules
row100 = refl

row101 : built (ADoctype (doctype_named (codes "html")) ∷ AnEnd (codes "head") ∷ AStart (codes "head") [] false ∷ AComment (codes "c") ∷ AnEnd (codes "template") ∷ AnEnd (codes "p") ∷ ADoctype (doctype_named (codes "html")) ∷ AnEnd (codes "template") ∷ []) ≡ None
unfolding tree_step run taken act in_scope rules
row101 = refl

row102 : built (ADoctype (doctype_named (codes "html")) ∷ AStart (codes "head") [] false ∷ ADoctype (doctype_named (codes "html")) ∷ ADoctype (doctype_named (codes "html")) ∷ AChar 32 ∷ []) ≡ Some
    (doctype_node (codes "html") (element_node (codes "html") [] (element_node (codes "head") [] (text_node (codes " ") no_trees) (element_node (codes "body") [] no_trees no_trees)) no_trees))
unfolding tree_step run taken act in_scope rules
row102 = refl

row103 : built (AChar 32 ∷ ADoctype (doctype_named (codes "html")) ∷ AnEnd (codes "p") ∷ AnEnd (codes "head") ∷ AChar 32 ∷ AStart (codes "head") [] false ∷ ADoctype (doctype_named (codes "html")) ∷ AStart (codes "p") [] false ∷ []) ≡ Some
    (doctype_node (codes "html") (element_node (codes "html") [] (element_node (codes "head") [] no_trees (text_node (codes " ") (element_node (codes "body") [] (element_node (codes "p") [] no_trees no_trees) no_trees))) no_trees))
unfolding tree_step run taken act in_scope rules
row103 = refl

row104 : built (ADoctype (doctype_named (codes "html")) ∷ AStart (codes "html") [] false ∷ AStart (codes "head") [] false ∷ AnEnd (codes "head") ∷ AStart (codes "body") [] false ∷ AStart (codes "p") [] false ∷ AStart (codes "button") [] false ∷ AStart (codes "p") [] false ∷ AChar 120 ∷ []) ≡ Some
    (doctype_node (codes "html")
    (element_node (codes "html") [] (element_node (codes "head") [] no_trees (element_node (codes "body") [] (element_node (codes "p") [] (element_node (codes "button") [] (element_node (codes "p") [] (text_node (codes "x") no_trees) no_trees) no_trees) no_trees) no_trees)) no_trees))
unfolding tree_step run taken act in_scope rules
row104 = refl
