-- Pages and fragments with their trees by tests/standard/trees/construction.py; made by tests/standard/trees/definition.py.
use Rattle.std.specs.Prelude.{Bool, List, None, Some, [], codes, false, true, ℕ, ◌∷◌, ◌≡◌}
use Rattle.standard_tokens.specs.Tokens.{Doctype}
use Rattle.standard_trees.specs.TreeStore.{AttrSpace, Html, MathMl, NoSpace, NodeAttr, Space, Svg, Trees, XLink, Xml, comment_tree}
use Rattle.standard_trees.specs.TreeStore.{doctype_tree, element_tree, no_trees, text_tree}
use Rattle.standard_trees.specs.Building.{FullQuirks, NoQuirks, QuirksMode, Surroundings}
use Rattle.standard_trees.specs.Parsing.{Document, parse, parse_fragment}

abbrev pub plain_doctype : List ℕ → Doctype
plain_doctype name = record { name = Some name; public_id = None; system_id = None; force_quirks = false }

abbrev pub attr : AttrSpace → List ℕ → List ℕ → NodeAttr
attr of name value = record { space = of; name = name; value = value }

-- an element without attributes: its children, and the siblings after it
abbrev pub element : List ℕ → Trees → Trees → Trees
element name below later = element_tree Html name [] no_trees below later

abbrev pub svg_element : List ℕ → Trees → Trees → Trees
svg_element name below later = element_tree Svg name [] no_trees below later

abbrev pub math_element : List ℕ → Trees → Trees → Trees
math_element name below later = element_tree MathMl name [] no_trees below later

abbrev pub document : QuirksMode → Trees → Document
document mode nodes = record { quirks = mode; children = nodes }

abbrev pub surroundings : Space → List ℕ → List NodeAttr → Bool → QuirksMode → Surroundings
surroundings around name attrs is_in_form mode =
    record { space = around; name = name; attrs = attrs; in_form = is_in_form; quirks = mode }

-- an element without attributes, in a document that is not in quirks mode, and in no form
abbrev pub plain_context : Space → List ℕ → Surroundings
plain_context around name = surroundings around name [] false NoQuirks

pub record PagesAreParsed : Type 0 where
  pub page1 : parse false (codes "<table><td></tbody>A") ≡ Some (document FullQuirks (element (codes "html")
      (element (codes "head") no_trees (element (codes "body") (text_tree (codes "A") (element (codes "table")
      (element (codes "tbody") (element (codes "tr") (element (codes "td") no_trees no_trees) no_trees) no_trees) no_trees))
      no_trees)) no_trees))
  pub page2 : parse false (codes "</html>") ≡ Some (document FullQuirks (element (codes "html") (element (codes "head") no_trees
      (element (codes "body") no_trees no_trees)) no_trees))
  pub page3 : parse_fragment false (plain_context Html (codes "template")) (codes "<tbody><math></caption></col>") ≡ Some
      (element (codes "tbody") no_trees (math_element (codes "math") no_trees no_trees))
  pub page4 : parse_fragment false (plain_context Html (codes "table")) (codes "<td>1<tr>2<caption>3") ≡ Some
      (element (codes "tbody") (element (codes "tr") (element (codes "td") (text_tree (codes "1") no_trees) no_trees)
      (element (codes "tr") no_trees no_trees)) (text_tree (codes "2") (element (codes "caption")
      (text_tree (codes "3") no_trees) no_trees)))
  pub page5 : parse false (codes "<body><template><col>Hello") ≡ Some (document FullQuirks (element (codes "html")
      (element (codes "head") no_trees (element (codes "body") (element_tree Html (codes "template") []
      (element (codes "col") no_trees no_trees) no_trees no_trees) no_trees)) no_trees))
  pub page6 : parse_fragment false (plain_context Svg (codes "title")) (60 ∷ 98 ∷ 111 ∷ 100 ∷ 121 ∷ 62 ∷ 32 ∷ 0 ∷ 113 ∷ 60 ∷ 47 ∷
      102 ∷ 111 ∷ 111 ∷ 62 ∷ []) ≡ Some (text_tree (codes " q") no_trees)
  pub page7 : parse_fragment false (plain_context MathMl (codes "math")) (codes "<b>1</b><mi>2") ≡ Some (element (codes "b")
      (text_tree (codes "1") no_trees) (math_element (codes "mi") (text_tree (codes "2") no_trees) no_trees))
  pub page8 : parse false (codes "<!doctype html><frameset></frameset></html> <frame><noframes>z") ≡ Some (document NoQuirks
      (doctype_tree (plain_doctype (codes "html")) (element (codes "html") (element (codes "head") no_trees
      (element (codes "frameset") no_trees (text_tree (codes " ") (element (codes "noframes")
      (text_tree (codes "z") no_trees) no_trees)))) no_trees)))
  pub page9 : parse false (60 ∷ 115 ∷ 118 ∷ 103 ∷ 62 ∷ 0 ∷ 32 ∷ 60 ∷ 47 ∷ 115 ∷ 118 ∷ 103 ∷ 62 ∷ 60 ∷ 102 ∷ 114 ∷ 97 ∷ 109 ∷ 101 ∷
      115 ∷ 101 ∷ 116 ∷ 62 ∷ []) ≡ Some (document FullQuirks (element (codes "html") (element (codes "head") no_trees
      (element (codes "frameset") no_trees no_trees)) no_trees))
  pub page10 : parse_fragment false (plain_context Html (codes "template"))
      (codes "<form>1<form>2<a>3<a>4<head><frameset>5") ≡ Some (element (codes "form") (text_tree (codes "12")
      (element (codes "a") (text_tree (codes "3") no_trees) (element (codes "a") (text_tree (codes "45") no_trees) no_trees)))
      no_trees)
  pub page11 : parse false (codes "<!doctype html><head><noscript> <meta><p>z") ≡ Some (document NoQuirks
      (doctype_tree (plain_doctype (codes "html")) (element (codes "html") (element (codes "head") (element (codes "noscript")
      (text_tree (codes " ") (element (codes "meta") no_trees no_trees)) no_trees) (element (codes "body") (element (codes "p")
      (text_tree (codes "z") no_trees) no_trees) no_trees)) no_trees)))
  pub page12 : parse_fragment false (plain_context Svg (codes "g")) (codes "</p>1") ≡ Some (element (codes "p") no_trees
      (text_tree (codes "1") no_trees))
  pub page13 : parse false (codes "<body><template><link><td></td></template>") ≡ Some (document FullQuirks
      (element (codes "html") (element (codes "head") no_trees (element (codes "body") (element_tree Html (codes "template") []
      (element (codes "link") no_trees (element (codes "td") no_trees no_trees)) no_trees no_trees) no_trees)) no_trees))
  pub page14 : parse true (codes "</foo><foo></foo><br>") ≡ Some (document FullQuirks (element (codes "html")
      (element (codes "head") no_trees (element (codes "body") (element (codes "foo") no_trees
      (element (codes "br") no_trees no_trees)) no_trees)) no_trees))
  pub page15 : parse_fragment false (plain_context Html (codes "tbody"))
      (codes "<body></hgroup><search face><h6><rp><dt><pre><!--c--></h1>") ≡ Some
      (element_tree Html (codes "search") (attr NoSpace (codes "face") ([]) ∷ []) no_trees (element (codes "h6")
      (element (codes "rp") (element (codes "dt") (element (codes "pre")
      (comment_tree (codes "c") no_trees) no_trees) no_trees) no_trees) no_trees) no_trees)
  pub page16 : parse_fragment false (plain_context Html (codes "html")) (codes "</html>1<!--2--></html>") ≡ Some
      (element (codes "head") no_trees (element (codes "body") (text_tree (codes "1") (comment_tree (codes "2") no_trees))
      no_trees))
  pub page17 : parse false (codes "<!doctype html><head></head><script>1</script> <title>2</title>3") ≡ Some (document NoQuirks
      (doctype_tree (plain_doctype (codes "html")) (element (codes "html") (element (codes "head") (element (codes "script")
      (text_tree (codes "1") no_trees) (element (codes "title") (text_tree (codes "2") no_trees) no_trees)) (text_tree (codes " ")
      (element (codes "body") (text_tree (codes "3") no_trees) no_trees))) no_trees)))
  pub page18 : parse_fragment false (plain_context Html (codes "template"))
      (codes "</tfoot></br><table></thead>y z<col></col><colgroup>") ≡ Some (text_tree (codes "y z") (element (codes "table")
      (element (codes "colgroup") (element (codes "col") no_trees no_trees) (element (codes "colgroup") no_trees no_trees))
      no_trees))
  pub page19 : parse false (codes "<table><form><input type=hidden><input></form><div></div></table>") ≡ Some (document FullQuirks
      (element (codes "html") (element (codes "head") no_trees (element (codes "body") (element (codes "input") no_trees
      (element (codes "div") no_trees (element (codes "table") (element (codes "form") no_trees
      (element_tree Html (codes "input") (attr NoSpace (codes "type") (codes "hidden") ∷ []) no_trees no_trees no_trees))
      no_trees))) no_trees)) no_trees))
  pub page20 : parse false (codes " <!--1--> <!doctype html> <!--2-->3") ≡ Some (document NoQuirks (comment_tree (codes "1")
      (doctype_tree (plain_doctype (codes "html")) (comment_tree (codes "2") (element (codes "html")
      (element (codes "head") no_trees (element (codes "body") (text_tree (codes "3") no_trees) no_trees)) no_trees)))))
  pub page21 : parse false (codes "<!doctype html>1</body></html> <!--2--> 3") ≡ Some (document NoQuirks
      (doctype_tree (plain_doctype (codes "html")) (element (codes "html") (element (codes "head") no_trees
      (element (codes "body") (text_tree (codes "1  3") no_trees) no_trees)) (comment_tree (codes "2") no_trees))))
  pub page22 : parse_fragment false (plain_context Html (codes "frameset")) (60 ∷ 63 ∷ 112 ∷ 104 ∷ 112 ∷ 63 ∷ 62 ∷ 9 ∷ []) ≡ Some
      (comment_tree (codes "?php?") (text_tree (9 ∷ []) no_trees))
  pub page23 : parse false (codes "<!doctype html><frameset><html a=1>y<frame>") ≡ Some (document NoQuirks
      (doctype_tree (plain_doctype (codes "html")) (element_tree Html (codes "html") (attr NoSpace (codes "a") (codes "1") ∷
      []) no_trees (element (codes "head") no_trees (element (codes "frameset")
      (element (codes "frame") no_trees no_trees) no_trees)) no_trees)))
  pub page24 : parse false (60 ∷ 102 ∷ 114 ∷ 97 ∷ 109 ∷ 101 ∷ 115 ∷ 101 ∷ 116 ∷ 62 ∷ 60 ∷ 47 ∷ 102 ∷ 114 ∷ 97 ∷ 109 ∷ 101 ∷ 115 ∷
      101 ∷ 116 ∷ 62 ∷ 10 ∷ 60 ∷ 100 ∷ 105 ∷ 118 ∷ 62 ∷ []) ≡ Some (document FullQuirks (element (codes "html")
      (element (codes "head") no_trees (element (codes "frameset") no_trees (text_tree (10 ∷ []) no_trees))) no_trees))
  pub page25 : parse false (codes "<!doctype html><select><optgroup><option><applet a=1>y<option>z<p>") ≡ Some (document NoQuirks
      (doctype_tree (plain_doctype (codes "html")) (element (codes "html") (element (codes "head") no_trees
      (element (codes "body") (element (codes "select") (element (codes "optgroup") (element (codes "option")
      (element_tree Html (codes "applet") (attr NoSpace (codes "a") (codes "1") ∷ []) no_trees (text_tree (codes "y")
      (element (codes "option") (text_tree (codes "z") (element (codes "p") no_trees no_trees)) no_trees))
      no_trees) no_trees) no_trees) no_trees) no_trees)) no_trees)))
  pub page26 : parse false (codes "<html> a <frameset></frameset>") ≡ Some (document FullQuirks (element (codes "html")
      (element (codes "head") no_trees (element (codes "body") (text_tree (codes "a ") no_trees) no_trees)) no_trees))
  pub page27 : parse false (codes "<!doctype html><ul><li>1<hr>2</li>3") ≡ Some (document NoQuirks
      (doctype_tree (plain_doctype (codes "html")) (element (codes "html") (element (codes "head") no_trees
      (element (codes "body") (element (codes "ul") (element (codes "li") (text_tree (codes "1") (element (codes "hr") no_trees
      (text_tree (codes "2") no_trees))) (text_tree (codes "3") no_trees)) no_trees) no_trees)) no_trees)))
  pub page28 : parse_fragment false (plain_context Html (codes "tr")) (codes "<td>1</tr><tr>2") ≡ Some (element (codes "td")
      (text_tree (codes "1") no_trees) (text_tree (codes "2") no_trees))
  pub page29 : parse false (codes "<button><button>") ≡ Some (document FullQuirks (element (codes "html")
      (element (codes "head") no_trees (element (codes "body") (element (codes "button") no_trees
      (element (codes "button") no_trees no_trees)) no_trees)) no_trees))
  pub page30 : parse_fragment false (plain_context Html (codes "caption")) (codes "1</caption>2<td>3") ≡ Some
      (text_tree (codes "123") no_trees)
  pub page31 : parse_fragment false (plain_context MathMl (codes "mtext"))
      (codes "<em><!doctype html></em><!doctype html>") ≡ Some (element (codes "em") no_trees no_trees)
  pub page32 : parse_fragment false (plain_context Html (codes "html")) (codes "<![CDATA[d]]></small>") ≡ Some
      (comment_tree (codes "[CDATA[d]]") (element (codes "head") no_trees (element (codes "body") no_trees no_trees)))
  pub page33 : parse_fragment false (plain_context Html (codes "thead")) (codes "<svg><thead><title><tbody>") ≡ Some
      (svg_element (codes "svg") (svg_element (codes "thead") (svg_element (codes "title") no_trees no_trees) no_trees) no_trees)
  pub page34 : parse false (codes "<head><noscript><!doctype html><!--foo--></noscript>") ≡ Some (document FullQuirks
      (element (codes "html") (element (codes "head") (element (codes "noscript") (comment_tree (codes "foo") no_trees) no_trees)
      (element (codes "body") no_trees no_trees)) no_trees))
  pub page35 : parse false (60 ∷ 33 ∷ 100 ∷ 111 ∷ 99 ∷ 116 ∷ 121 ∷ 112 ∷ 101 ∷ 32 ∷ 104 ∷ 116 ∷ 109 ∷ 108 ∷ 62 ∷ 60 ∷ 116 ∷ 97 ∷
      98 ∷ 108 ∷ 101 ∷ 62 ∷ 0 ∷ 60 ∷ 116 ∷ 100 ∷ 62 ∷ 122 ∷ []) ≡ Some (document NoQuirks
      (doctype_tree (plain_doctype (codes "html")) (element (codes "html") (element (codes "head") no_trees
      (element (codes "body") (element (codes "table") (element (codes "tbody") (element (codes "tr") (element (codes "td")
      (text_tree (codes "z") no_trees) no_trees) no_trees) no_trees) no_trees) no_trees)) no_trees)))
  pub page36 : parse false (codes "<html a=b><template><col></col><html b=c><col></col></template>") ≡ Some (document FullQuirks
      (element_tree Html (codes "html") (attr NoSpace (codes "a") (codes "b") ∷ []) no_trees (element (codes "head")
      (element_tree Html (codes "template") [] (element (codes "col") no_trees (element (codes "col") no_trees no_trees))
      no_trees no_trees) (element (codes "body") no_trees no_trees)) no_trees))
  pub page37 : parse false (codes "<!doctype html>1</body> <!--2--> 3") ≡ Some (document NoQuirks
      (doctype_tree (plain_doctype (codes "html")) (element (codes "html") (element (codes "head") no_trees
      (element (codes "body") (text_tree (codes "1  3") no_trees) (comment_tree (codes "2") no_trees))) no_trees)))
  pub page38 : parse_fragment false (plain_context Html (codes "colgroup")) (60 ∷ 98 ∷ 111 ∷ 100 ∷ 121 ∷ 62 ∷ 60 ∷ 63 ∷ 112 ∷
      104 ∷ 112 ∷ 63 ∷ 62 ∷ 60 ∷ 110 ∷ 111 ∷ 115 ∷ 99 ∷ 114 ∷ 105 ∷ 112 ∷ 116 ∷ 62 ∷ 60 ∷ 47 ∷ 110 ∷ 111 ∷ 115 ∷ 99 ∷ 114 ∷ 105 ∷
      112 ∷ 116 ∷ 62 ∷ 10 ∷ []) ≡ Some (comment_tree (codes "?php?") (text_tree (10 ∷ []) no_trees))
  pub page39 : parse_fragment false (plain_context Html (codes "template")) (codes "</template>1<col>2<body a=1><p>3</p>") ≡ Some
      (text_tree (codes "1") (element (codes "col") no_trees no_trees))
  pub page40 : parse false (codes "<!doctype html><dl><dt>1</dd>2</dt>3") ≡ Some (document NoQuirks
      (doctype_tree (plain_doctype (codes "html")) (element (codes "html") (element (codes "head") no_trees
      (element (codes "body") (element (codes "dl") (element (codes "dt") (text_tree (codes "12") no_trees)
      (text_tree (codes "3") no_trees)) no_trees) no_trees)) no_trees)))
  pub page41 : parse false (codes "<!doctype html><template><tr><table>1") ≡ Some (document NoQuirks
      (doctype_tree (plain_doctype (codes "html")) (element (codes "html") (element (codes "head")
      (element_tree Html (codes "template") [] (element (codes "tr") no_trees (text_tree (codes "1") no_trees)) no_trees no_trees)
      (element (codes "body") no_trees no_trees)) no_trees)))
  pub page42 : parse_fragment false (plain_context MathMl (codes "annotation-xml")) (codes "<svg>1") ≡ Some
      (svg_element (codes "svg") (text_tree (codes "1") no_trees) no_trees)
  pub page43 : parse false (codes "<!doctype html><ruby>1<body>2<rt>3<rb>4") ≡ Some (document NoQuirks
      (doctype_tree (plain_doctype (codes "html")) (element (codes "html") (element (codes "head") no_trees
      (element (codes "body") (element (codes "ruby") (text_tree (codes "12") (element (codes "rt")
      (text_tree (codes "3") no_trees) (element (codes "rb") (text_tree (codes "4") no_trees) no_trees))) no_trees) no_trees))
      no_trees)))
  pub page44 : parse_fragment false (plain_context Html (codes "div")) (codes "</body>1") ≡ Some (text_tree (codes "1") no_trees)
  pub page45 : parse false (codes "<svg><![") ≡ Some (document FullQuirks (element (codes "html") (element (codes "head") no_trees
      (element (codes "body") (svg_element (codes "svg") (comment_tree (codes "[") no_trees) no_trees) no_trees)) no_trees))
  pub page46 : parse_fragment false (plain_context Html (codes "caption")) (32 ∷ 0 ∷ 113 ∷ 60 ∷ 47 ∷ 104 ∷ 50 ∷ 62 ∷ []) ≡ Some
      (text_tree (codes " q") no_trees)
  pub page47 : parse false (codes "<head><noscript></br><!--foo--></noscript>") ≡ Some (document FullQuirks
      (element (codes "html") (element (codes "head") (element (codes "noscript") no_trees no_trees) (element (codes "body")
      (element (codes "br") no_trees (comment_tree (codes "foo") no_trees)) no_trees)) no_trees))
  pub page48 : parse false (codes "<!doctype html><head></head></p><!--foo-->") ≡ Some (document NoQuirks
      (doctype_tree (plain_doctype (codes "html")) (element (codes "html") (element (codes "head") no_trees
      (comment_tree (codes "foo") (element (codes "body") no_trees no_trees))) no_trees)))
  pub page49 : parse false (codes "<!doctype html><table><caption></li>y<td>z") ≡ Some (document NoQuirks
      (doctype_tree (plain_doctype (codes "html")) (element (codes "html") (element (codes "head") no_trees
      (element (codes "body") (element (codes "table") (element (codes "caption") (text_tree (codes "y") no_trees)
      (element (codes "tbody") (element (codes "tr") (element (codes "td")
      (text_tree (codes "z") no_trees) no_trees) no_trees) no_trees)) no_trees) no_trees)) no_trees)))
  pub page50 : parse_fragment false (plain_context Html (codes "tr")) (codes "</tr><td>") ≡ Some
      (element (codes "td") no_trees no_trees)
  pub page51 : parse_fragment false (plain_context Html (codes "table")) (codes "</table><tr>") ≡ Some (element (codes "tbody")
      (element (codes "tr") no_trees no_trees) no_trees)
  pub page52 : parse false (codes "<plaintext>x") ≡ Some (document FullQuirks (element (codes "html")
      (element (codes "head") no_trees (element (codes "body") (element (codes "plaintext")
      (text_tree (codes "x") no_trees) no_trees) no_trees)) no_trees))
  pub page53 : parse true (codes "<noscript><!--</noscript>X<noscript>--></noscript>") ≡ Some (document FullQuirks
      (element (codes "html") (element (codes "head") (element (codes "noscript") (text_tree (codes "<!--") no_trees) no_trees)
      (element (codes "body") (text_tree (codes "X") (element (codes "noscript") (text_tree (codes "-->") no_trees) no_trees))
      no_trees)) no_trees))
  pub page54 : parse false (codes "<table><colgroup><!DOCTYPE html></colgroup></table>") ≡ Some (document FullQuirks
      (element (codes "html") (element (codes "head") no_trees (element (codes "body") (element (codes "table")
      (element (codes "colgroup") no_trees no_trees) no_trees) no_trees)) no_trees))
  pub page55 : parse_fragment false (plain_context Html (codes "p")) (9 ∷ 60 ∷ 47 ∷ 62 ∷ 121 ∷ 32 ∷ 122 ∷ 60 ∷ 110 ∷ 111 ∷ 98 ∷
      114 ∷ 62 ∷ []) ≡ Some (text_tree (9 ∷ 121 ∷ 32 ∷ 122 ∷ []) (element (codes "nobr") no_trees no_trees))
  pub page56 : parse false (codes "<p><image></p>") ≡ Some (document FullQuirks (element (codes "html")
      (element (codes "head") no_trees (element (codes "body") (element (codes "p")
      (element (codes "img") no_trees no_trees) no_trees) no_trees)) no_trees))
  pub page57 : parse false (codes "<p><xmp></xmp>") ≡ Some (document FullQuirks (element (codes "html")
      (element (codes "head") no_trees (element (codes "body") (element (codes "p") no_trees
      (element (codes "xmp") no_trees no_trees)) no_trees)) no_trees))
  pub page58 : parse false (codes "<table><table>") ≡ Some (document FullQuirks (element (codes "html")
      (element (codes "head") no_trees (element (codes "body") (element (codes "table") no_trees
      (element (codes "table") no_trees no_trees)) no_trees)) no_trees))
  pub page59 : parse_fragment false (plain_context Html (codes "select")) (codes "<input><option>") ≡ Some
      (element (codes "option") no_trees no_trees)
  pub page60 : parse_fragment false (plain_context Html (codes "head")) (codes "<html>x</html> ") ≡ Some
      (text_tree (codes "x ") no_trees)
  pub page61 : parse_fragment false (plain_context Html (codes "colgroup")) (codes "</colgroup><col>") ≡ Some
      (element (codes "col") no_trees no_trees)
  pub page62 : parse_fragment false (plain_context Html (codes "select")) (codes "<body></applet> ") ≡ Some
      (text_tree (codes " ") no_trees)
  pub page63 : parse_fragment false (plain_context Html (codes "select")) (60 ∷ 98 ∷ 111 ∷ 100 ∷ 121 ∷ 62 ∷ 60 ∷ 47 ∷ 109 ∷ 116 ∷
      101 ∷ 120 ∷ 116 ∷ 62 ∷ 10 ∷ 60 ∷ 47 ∷ 103 ∷ 62 ∷ 60 ∷ 47 ∷ 115 ∷ 118 ∷ 103 ∷ 62 ∷ 9 ∷ 60 ∷ 116 ∷ 114 ∷ 97 ∷ 99 ∷ 107 ∷ 62 ∷
      60 ∷ 105 ∷ 109 ∷ 103 ∷ 32 ∷ 99 ∷ 111 ∷ 108 ∷ 111 ∷ 114 ∷ 61 ∷ 49 ∷ 62 ∷ 60 ∷ 116 ∷ 101 ∷ 120 ∷ 116 ∷ 97 ∷ 114 ∷ 101 ∷ 97 ∷
      32 ∷ 97 ∷ 61 ∷ 49 ∷ 62 ∷ []) ≡ Some (text_tree (10 ∷ 9 ∷ []) (element (codes "track") no_trees
      (element_tree Html (codes "img") (attr NoSpace (codes "color") (codes "1") ∷ []) no_trees no_trees
      (element_tree Html (codes "textarea") (attr NoSpace (codes "a") (codes "1") ∷ []) no_trees no_trees no_trees))))
  pub page64 : parse_fragment false (plain_context Html (codes "frameset")) (codes "</frameset><frame>") ≡ Some
      (element (codes "frame") no_trees no_trees)
  pub page65 : parse false (codes "<!doctype html><frameset></frameset><!--1--><frame><noframes>z") ≡ Some (document NoQuirks
      (doctype_tree (plain_doctype (codes "html")) (element (codes "html") (element (codes "head") no_trees
      (element (codes "frameset") no_trees (comment_tree (codes "1") (element (codes "noframes")
      (text_tree (codes "z") no_trees) no_trees)))) no_trees)))
  pub page66 : parse false (codes "<head></p><meta><p>") ≡ Some (document FullQuirks (element (codes "html")
      (element (codes "head") (element (codes "meta") no_trees no_trees) (element (codes "body")
      (element (codes "p") no_trees no_trees) no_trees)) no_trees))
  pub page67 : parse_fragment false (plain_context Html (codes "caption")) (codes "<body><td a=1></td>") ≡ Some no_trees
  pub page68 : parse false (codes "<table><tr><td></th>") ≡ Some (document FullQuirks (element (codes "html")
      (element (codes "head") no_trees (element (codes "body") (element (codes "table") (element (codes "tbody")
      (element (codes "tr") (element (codes "td") no_trees no_trees) no_trees) no_trees) no_trees) no_trees)) no_trees))
  pub page69 : parse_fragment false (plain_context Html (codes "tr")) (codes "</tbody><tbody><td>1") ≡ Some (element (codes "td")
      (text_tree (codes "1") no_trees) no_trees)
  pub page70 : parse_fragment false (plain_context Html (codes "tbody")) (codes "x</tbody><div></div>") ≡ Some
      (text_tree (codes "x") (element (codes "div") no_trees no_trees))
  pub page71 : parse false (codes "<html><!DOCTYPE html>") ≡ Some (document FullQuirks (element (codes "html")
      (element (codes "head") no_trees (element (codes "body") no_trees no_trees)) no_trees))
  pub page72 : parse false (codes "<frameset><frame><frameset><frame></frameset><noframes></noframes></frameset>") ≡ Some
      (document FullQuirks (element (codes "html") (element (codes "head") no_trees (element (codes "frameset")
      (element (codes "frame") no_trees (element (codes "frameset") (element (codes "frame") no_trees no_trees)
      (element (codes "noframes") no_trees no_trees))) no_trees)) no_trees))
  pub page73 : parse_fragment false (plain_context Html (codes "template")) (codes "<dt>y z<marquee></marquee>") ≡ Some
      (element (codes "dt") (text_tree (codes "y z") (element (codes "marquee") no_trees no_trees)) no_trees)
  pub page74 : parse_fragment false (plain_context Html (codes "tr")) (codes "<td><table><a><tr></tr><tr>") ≡ Some
      (element (codes "td") (element (codes "a") no_trees (element (codes "table") (element (codes "tbody")
      (element (codes "tr") no_trees (element (codes "tr") no_trees no_trees)) no_trees) no_trees)) no_trees)
  pub page75 : parse_fragment false (plain_context Html (codes "select")) (codes "<select>1</select>2<option>") ≡ Some
      (text_tree (codes "12") (element (codes "option") no_trees no_trees))
  pub page76 : parse false (codes "<svg><script></script><path>") ≡ Some (document FullQuirks (element (codes "html")
      (element (codes "head") no_trees (element (codes "body") (svg_element (codes "svg") (svg_element (codes "script") no_trees
      (svg_element (codes "path") no_trees no_trees)) no_trees) no_trees)) no_trees))
  pub page77 : parse false (codes "<!doctype html><p>1<iframe>2") ≡ Some (document NoQuirks
      (doctype_tree (plain_doctype (codes "html")) (element (codes "html") (element (codes "head") no_trees
      (element (codes "body") (element (codes "p") (text_tree (codes "1") (element (codes "iframe")
      (text_tree (codes "2") no_trees) no_trees)) no_trees) no_trees)) no_trees)))
  pub page78 : parse false (codes "<!doctype html><!doctype x>1") ≡ Some (document NoQuirks
      (doctype_tree (plain_doctype (codes "html")) (element (codes "html") (element (codes "head") no_trees
      (element (codes "body") (text_tree (codes "1") no_trees) no_trees)) no_trees)))
  pub page79 : parse false (codes "<!doctype html><p>1<noembed>2") ≡ Some (document NoQuirks
      (doctype_tree (plain_doctype (codes "html")) (element (codes "html") (element (codes "head") no_trees
      (element (codes "body") (element (codes "p") (text_tree (codes "1") (element (codes "noembed")
      (text_tree (codes "2") no_trees) no_trees)) no_trees) no_trees)) no_trees)))
  pub page80 : parse false (codes "<table><!DOCTYPE html></table>") ≡ Some (document FullQuirks (element (codes "html")
      (element (codes "head") no_trees (element (codes "body") (element (codes "table") no_trees no_trees) no_trees)) no_trees))
  pub page81 : parse false (codes "<table><caption><div></caption>") ≡ Some (document FullQuirks (element (codes "html")
      (element (codes "head") no_trees (element (codes "body") (element (codes "table") (element (codes "caption")
      (element (codes "div") no_trees no_trees) no_trees) no_trees) no_trees)) no_trees))
  pub page82 : parse false (codes "<!doctype html><head><html a=1>") ≡ Some (document NoQuirks
      (doctype_tree (plain_doctype (codes "html")) (element_tree Html (codes "html") (attr NoSpace (codes "a") (codes "1") ∷
      []) no_trees (element (codes "head") no_trees (element (codes "body") no_trees no_trees)) no_trees)))
  pub page83 : parse false (codes "<!doctype html><select><select>X") ≡ Some (document NoQuirks
      (doctype_tree (plain_doctype (codes "html")) (element (codes "html") (element (codes "head") no_trees
      (element (codes "body") (element (codes "select") no_trees (text_tree (codes "X") no_trees)) no_trees)) no_trees)))
  pub page84 : parse false (codes "<!doctype html>1</body><html a=1>") ≡ Some (document NoQuirks
      (doctype_tree (plain_doctype (codes "html")) (element_tree Html (codes "html") (attr NoSpace (codes "a") (codes "1") ∷
      []) no_trees (element (codes "head") no_trees (element (codes "body") (text_tree (codes "1") no_trees) no_trees))
      no_trees)))
  pub page85 : parse false (codes "<html><head></head><!DOCTYPE html>") ≡ Some (document FullQuirks (element (codes "html")
      (element (codes "head") no_trees (element (codes "body") no_trees no_trees)) no_trees))
  pub page86 : parse false (codes "<svg><font color=red></font></svg>") ≡ Some (document FullQuirks (element (codes "html")
      (element (codes "head") no_trees (element (codes "body") (svg_element (codes "svg") no_trees
      (element_tree Html (codes "font") (attr NoSpace (codes "color") (codes "red") ∷ []) no_trees no_trees no_trees)) no_trees))
      no_trees))
  pub page87 : parse false (codes "<!doctype html><table><form><form>") ≡ Some (document NoQuirks
      (doctype_tree (plain_doctype (codes "html")) (element (codes "html") (element (codes "head") no_trees
      (element (codes "body") (element (codes "table") (element (codes "form") no_trees no_trees) no_trees) no_trees)) no_trees)))
  pub page88 : parse false (codes "<!doctype html><table><td></body>1") ≡ Some (document NoQuirks
      (doctype_tree (plain_doctype (codes "html")) (element (codes "html") (element (codes "head") no_trees
      (element (codes "body") (element (codes "table") (element (codes "tbody") (element (codes "tr") (element (codes "td")
      (text_tree (codes "1") no_trees) no_trees) no_trees) no_trees) no_trees) no_trees)) no_trees)))
  pub page89 : parse false (codes "<!doctype html></body><!doctype x>1") ≡ Some (document NoQuirks
      (doctype_tree (plain_doctype (codes "html")) (element (codes "html") (element (codes "head") no_trees
      (element (codes "body") (text_tree (codes "1") no_trees) no_trees)) no_trees)))
  pub page90 : parse false (codes "<frameset></frameset><!DOCTYPE html>") ≡ Some (document FullQuirks (element (codes "html")
      (element (codes "head") no_trees (element (codes "frameset") no_trees no_trees)) no_trees))
  pub page91 : parse false (codes "<!doctype html><html><html a=1>y<p>z") ≡ Some (document NoQuirks
      (doctype_tree (plain_doctype (codes "html")) (element_tree Html (codes "html") (attr NoSpace (codes "a") (codes "1") ∷
      []) no_trees (element (codes "head") no_trees (element (codes "body") (text_tree (codes "y") (element (codes "p")
      (text_tree (codes "z") no_trees) no_trees)) no_trees)) no_trees)))
  pub page92 : parse false (codes "<!doctype html><table><tr></td>y<td>z") ≡ Some (document NoQuirks
      (doctype_tree (plain_doctype (codes "html")) (element (codes "html") (element (codes "head") no_trees
      (element (codes "body") (text_tree (codes "y") (element (codes "table") (element (codes "tbody") (element (codes "tr")
      (element (codes "td") (text_tree (codes "z") no_trees) no_trees) no_trees) no_trees) no_trees)) no_trees)) no_trees)))
  pub page93 : parse false (codes "<!DOCTYPE html><frameset><!DOCTYPE html>") ≡ Some (document NoQuirks
      (doctype_tree (plain_doctype (codes "html")) (element (codes "html") (element (codes "head") no_trees
      (element (codes "frameset") no_trees no_trees)) no_trees)))
  pub page94 : parse false (codes "<!doctype html><head></head></template>1") ≡ Some (document NoQuirks
      (doctype_tree (plain_doctype (codes "html")) (element (codes "html") (element (codes "head") no_trees
      (element (codes "body") (text_tree (codes "1") no_trees) no_trees)) no_trees)))
  pub page95 : parse false (codes "<div><sarcasm><div></div></sarcasm></div>") ≡ Some (document FullQuirks (element (codes "html")
      (element (codes "head") no_trees (element (codes "body") (element (codes "div") (element (codes "sarcasm")
      (element (codes "div") no_trees no_trees) no_trees) no_trees) no_trees)) no_trees))
  pub page96 : parse false (codes "<!doctype html><head><!doctype x><meta><p>z") ≡ Some (document NoQuirks
      (doctype_tree (plain_doctype (codes "html")) (element (codes "html") (element (codes "head")
      (element (codes "meta") no_trees no_trees) (element (codes "body") (element (codes "p")
      (text_tree (codes "z") no_trees) no_trees) no_trees)) no_trees)))
  pub page97 : parse false (codes "<!doctype html><head><noscript></a>y<meta><p>z") ≡ Some (document NoQuirks
      (doctype_tree (plain_doctype (codes "html")) (element (codes "html") (element (codes "head")
      (element (codes "noscript") no_trees no_trees) (element (codes "body") (text_tree (codes "y")
      (element (codes "meta") no_trees (element (codes "p") (text_tree (codes "z") no_trees) no_trees))) no_trees)) no_trees)))
  pub page98 : parse false (codes "<!doctype html><template><form><object></form>1") ≡ Some (document NoQuirks
      (doctype_tree (plain_doctype (codes "html")) (element (codes "html") (element (codes "head")
      (element_tree Html (codes "template") [] (element (codes "form") (element (codes "object")
      (text_tree (codes "1") no_trees) no_trees) no_trees) no_trees no_trees) (element (codes "body") no_trees no_trees))
      no_trees)))
  pub page99 : parse false (codes "<!doctype html><template><form><button></form>1") ≡ Some (document NoQuirks
      (doctype_tree (plain_doctype (codes "html")) (element (codes "html") (element (codes "head")
      (element_tree Html (codes "template") [] (element (codes "form") (element (codes "button") no_trees no_trees)
      (text_tree (codes "1") no_trees)) no_trees no_trees) (element (codes "body") no_trees no_trees)) no_trees)))
  pub page100 : parse false (codes "<!doctype html><template><table><form a=1><td>1") ≡ Some (document NoQuirks
      (doctype_tree (plain_doctype (codes "html")) (element (codes "html") (element (codes "head")
      (element_tree Html (codes "template") [] (element (codes "table") (element (codes "tbody") (element (codes "tr")
      (element (codes "td") (text_tree (codes "1") no_trees) no_trees) no_trees) no_trees) no_trees) no_trees no_trees)
      (element (codes "body") no_trees no_trees)) no_trees)))
  pub page101 : parse false (codes "<!doctype html><head></head><html a=1>y<meta><p>z") ≡ Some (document NoQuirks
      (doctype_tree (plain_doctype (codes "html")) (element_tree Html (codes "html") (attr NoSpace (codes "a") (codes "1") ∷
      []) no_trees (element (codes "head") no_trees (element (codes "body") (text_tree (codes "y")
      (element (codes "meta") no_trees (element (codes "p") (text_tree (codes "z") no_trees) no_trees))) no_trees)) no_trees)))
  pub page102 : parse false (codes "<!doctype html><head><noscript><html a=1><!--1-->") ≡ Some (document NoQuirks
      (doctype_tree (plain_doctype (codes "html")) (element_tree Html (codes "html") (attr NoSpace (codes "a") (codes "1") ∷
      []) no_trees (element (codes "head") (element (codes "noscript") (comment_tree (codes "1") no_trees) no_trees)
      (element (codes "body") no_trees no_trees)) no_trees)))
  pub page103 : parse false (60 ∷ 33 ∷ 100 ∷ 111 ∷ 99 ∷ 116 ∷ 121 ∷ 112 ∷ 101 ∷ 32 ∷ 104 ∷ 116 ∷ 109 ∷ 108 ∷ 62 ∷ 60 ∷ 102 ∷ 114 ∷
      97 ∷ 109 ∷ 101 ∷ 115 ∷ 101 ∷ 116 ∷ 62 ∷ 60 ∷ 47 ∷ 102 ∷ 114 ∷ 97 ∷ 109 ∷ 101 ∷ 115 ∷ 101 ∷ 116 ∷ 62 ∷ 60 ∷ 47 ∷ 104 ∷ 116 ∷
      109 ∷ 108 ∷ 62 ∷ 9 ∷ 49 ∷ 9 ∷ 50 ∷ 9 ∷ 60 ∷ 33 ∷ 45 ∷ 45 ∷ 51 ∷ 45 ∷ 45 ∷ 62 ∷ []) ≡ Some (document NoQuirks
      (doctype_tree (plain_doctype (codes "html")) (element (codes "html") (element (codes "head") no_trees
      (element (codes "frameset") no_trees (text_tree (9 ∷ 9 ∷ 9 ∷ []) no_trees))) (comment_tree (codes "3") no_trees))))
  pub page104 : parse false (codes "<!doctype html><frameset></frameset><html a=1></html><html b=2>") ≡ Some (document NoQuirks
      (doctype_tree (plain_doctype (codes "html")) (element_tree Html (codes "html") (attr NoSpace (codes "a") (codes "1") ∷
      attr NoSpace (codes "b") (codes "2") ∷ []) no_trees (element (codes "head") no_trees
      (element (codes "frameset") no_trees no_trees)) no_trees)))
  pub page105 : parse false (codes "<body><template><body a=1>x") ≡ Some (document FullQuirks (element (codes "html")
      (element (codes "head") no_trees (element (codes "body") (element_tree Html (codes "template") []
      (text_tree (codes "x") no_trees) no_trees no_trees) no_trees)) no_trees))
  pub page106 : parse false (codes "<p><b><i></p>x") ≡ Some (document FullQuirks (element (codes "html")
      (element (codes "head") no_trees (element (codes "body") (element (codes "p") (element (codes "b")
      (element (codes "i") no_trees no_trees) no_trees) (element (codes "b") (element (codes "i")
      (text_tree (codes "x") no_trees) no_trees) no_trees)) no_trees)) no_trees))
  pub page107 : parse false (codes "<template><div><template><td></template><td>x") ≡ Some (document FullQuirks
      (element (codes "html") (element (codes "head") (element_tree Html (codes "template") [] (element (codes "div")
      (element_tree Html (codes "template") [] (element (codes "td") no_trees no_trees) no_trees (text_tree (codes "x") no_trees))
      no_trees) no_trees no_trees) (element (codes "body") no_trees no_trees)) no_trees))
  pub page108 : parse false (codes "<p><b><b><b><b></p>x") ≡ Some (document FullQuirks (element (codes "html")
      (element (codes "head") no_trees (element (codes "body") (element (codes "p") (element (codes "b") (element (codes "b")
      (element (codes "b") (element (codes "b") no_trees no_trees) no_trees) no_trees) no_trees) (element (codes "b")
      (element (codes "b") (element (codes "b") (text_tree (codes "x") no_trees) no_trees) no_trees) no_trees)) no_trees))
      no_trees))
  pub page109 : parse false (codes "<a><div><div><div><div><div><div><div><div><div><div>x</a>y") ≡ Some (document FullQuirks
      (element (codes "html") (element (codes "head") no_trees (element (codes "body") (element (codes "a") no_trees
      (element (codes "div") (element (codes "a") no_trees (element (codes "div") (element (codes "a") no_trees
      (element (codes "div") (element (codes "a") no_trees (element (codes "div") (element (codes "a") no_trees
      (element (codes "div") (element (codes "a") no_trees (element (codes "div") (element (codes "a") no_trees
      (element (codes "div") (element (codes "a") no_trees (element (codes "div") (element (codes "a") (element (codes "div")
      (element (codes "div") (text_tree (codes "xy") no_trees) no_trees) no_trees) no_trees) no_trees)) no_trees)) no_trees))
      no_trees)) no_trees)) no_trees)) no_trees)) no_trees)) no_trees)) no_trees))
  pub page110 : parse false (codes "<b><i><u><s><em><div>x</b>y") ≡ Some (document FullQuirks (element (codes "html")
      (element (codes "head") no_trees (element (codes "body") (element (codes "b") (element (codes "i") (element (codes "u")
      (element (codes "s") (element (codes "em") no_trees no_trees) no_trees) no_trees) no_trees) (element (codes "u")
      (element (codes "s") (element (codes "em") (element (codes "div") (element (codes "b") (text_tree (codes "x") no_trees)
      (text_tree (codes "y") no_trees)) no_trees) no_trees) no_trees) no_trees)) no_trees)) no_trees))
  pub page111 : parse false (codes "<p>1<b>2<i>3</b>4</i>5</p>6") ≡ Some (document FullQuirks (element (codes "html")
      (element (codes "head") no_trees (element (codes "body") (element (codes "p") (text_tree (codes "1") (element (codes "b")
      (text_tree (codes "2") (element (codes "i") (text_tree (codes "3") no_trees) no_trees)) (element (codes "i")
      (text_tree (codes "4") no_trees) (text_tree (codes "5") no_trees)))) (text_tree (codes "6") no_trees)) no_trees)) no_trees))
  pub page112 : parse false (codes "<b>1<p>2</b>3</p>4") ≡ Some (document FullQuirks (element (codes "html")
      (element (codes "head") no_trees (element (codes "body") (element (codes "b") (text_tree (codes "1") no_trees)
      (element (codes "p") (element (codes "b") (text_tree (codes "2") no_trees) (text_tree (codes "3") no_trees))
      (text_tree (codes "4") no_trees))) no_trees)) no_trees))
  pub page113 : parse false (codes "<table><b>x<tr><td>y</table>z") ≡ Some (document FullQuirks (element (codes "html")
      (element (codes "head") no_trees (element (codes "body") (element (codes "b") (text_tree (codes "x") no_trees)
      (element (codes "table") (element (codes "tbody") (element (codes "tr") (element (codes "td")
      (text_tree (codes "y") no_trees) no_trees) no_trees) no_trees) (element (codes "b")
      (text_tree (codes "z") no_trees) no_trees))) no_trees)) no_trees))
  pub page114 : parse false (codes "<form><div></form><input>") ≡ Some (document FullQuirks (element (codes "html")
      (element (codes "head") no_trees (element (codes "body") (element (codes "form") (element (codes "div")
      (element (codes "input") no_trees no_trees) no_trees) no_trees) no_trees)) no_trees))
  pub page115 : parse false (60 ∷ 112 ∷ 114 ∷ 101 ∷ 62 ∷ 10 ∷ 10 ∷ 120 ∷ []) ≡ Some (document FullQuirks (element (codes "html")
      (element (codes "head") no_trees (element (codes "body") (element (codes "pre") (text_tree (10 ∷ 120 ∷
      []) no_trees) no_trees) no_trees)) no_trees))
  pub page116 : parse false (codes "<svg viewbox=1 definitionurl=2 xlink:href=3 xml:lang=4><foreignobject><p>x") ≡ Some
      (document FullQuirks (element (codes "html") (element (codes "head") no_trees (element (codes "body")
      (element_tree Svg (codes "svg") (attr NoSpace (codes "viewBox") (codes "1") ∷
      attr NoSpace (codes "definitionurl") (codes "2") ∷ attr XLink (codes "href") (codes "3") ∷
      attr Xml (codes "lang") (codes "4") ∷ []) no_trees (svg_element (codes "foreignObject") (element (codes "p")
      (text_tree (codes "x") no_trees) no_trees) no_trees) no_trees) no_trees)) no_trees))
  pub page117 : parse false (codes "<math definitionurl=1 viewbox=2><mi>x<annotation-xml encoding=text/html><p>y") ≡ Some
      (document FullQuirks (element (codes "html") (element (codes "head") no_trees (element (codes "body")
      (element_tree MathMl (codes "math") (attr NoSpace (codes "definitionURL") (codes "1") ∷
      attr NoSpace (codes "viewbox") (codes "2") ∷ []) no_trees (math_element (codes "mi") (text_tree (codes "x")
      (element_tree Html (codes "annotation-xml") (attr NoSpace (codes "encoding") (codes "text/html") ∷ []) no_trees
      (element (codes "p") (text_tree (codes "y") no_trees) no_trees) no_trees)) no_trees) no_trees) no_trees)) no_trees))
  pub page118 : parse false (codes "<select><option>1<optgroup><option>2<hr><input>3") ≡ Some (document FullQuirks
      (element (codes "html") (element (codes "head") no_trees (element (codes "body") (element (codes "select")
      (element (codes "option") (text_tree (codes "1") no_trees) (element (codes "optgroup") (element (codes "option")
      (text_tree (codes "2") no_trees) no_trees) (element (codes "hr") no_trees no_trees))) (element (codes "input") no_trees
      (text_tree (codes "3") no_trees))) no_trees)) no_trees))
  pub page119 : parse false (codes "<svg><desc><p><b></p>x<![CDATA[y]]>") ≡ Some (document FullQuirks (element (codes "html")
      (element (codes "head") no_trees (element (codes "body") (svg_element (codes "svg") (svg_element (codes "desc")
      (element (codes "p") (element (codes "b") no_trees no_trees) (element (codes "b") (text_tree (codes "x")
      (comment_tree (codes "[CDATA[y]]") no_trees)) no_trees)) no_trees) no_trees) no_trees)) no_trees))
  pub page120 : parse false (codes "<a href=1>1<p>2<a>3") ≡ Some (document FullQuirks (element (codes "html")
      (element (codes "head") no_trees (element (codes "body")
      (element_tree Html (codes "a") (attr NoSpace (codes "href") (codes "1") ∷ []) no_trees (text_tree (codes "1") no_trees)
      (element (codes "p") (element_tree Html (codes "a") (attr NoSpace (codes "href") (codes "1") ∷ []) no_trees
      (text_tree (codes "2") no_trees) (element (codes "a") (text_tree (codes "3") no_trees) no_trees)) no_trees)) no_trees))
      no_trees))
  pub page121 : parse false (codes "<nobr>1<nobr>2") ≡ Some (document FullQuirks (element (codes "html")
      (element (codes "head") no_trees (element (codes "body") (element (codes "nobr") (text_tree (codes "1") no_trees)
      (element (codes "nobr") (text_tree (codes "2") no_trees) no_trees)) no_trees)) no_trees))
  pub page122 : parse false (codes "<button>1<button>2") ≡ Some (document FullQuirks (element (codes "html")
      (element (codes "head") no_trees (element (codes "body") (element (codes "button") (text_tree (codes "1") no_trees)
      (element (codes "button") (text_tree (codes "2") no_trees) no_trees)) no_trees)) no_trees))
  pub page123 : parse false (codes "<table><tr><td><select><td>x</table>") ≡ Some (document FullQuirks (element (codes "html")
      (element (codes "head") no_trees (element (codes "body") (element (codes "table") (element (codes "tbody")
      (element (codes "tr") (element (codes "td") (element (codes "select") no_trees no_trees) (element (codes "td")
      (text_tree (codes "x") no_trees) no_trees)) no_trees) no_trees) no_trees) no_trees)) no_trees))
  pub page124 : parse false (codes "<ul><li>1<ul><li>2</ul><li>3</ul><dl><dd>4<dt>5") ≡ Some (document FullQuirks
      (element (codes "html") (element (codes "head") no_trees (element (codes "body") (element (codes "ul") (element (codes "li")
      (text_tree (codes "1") (element (codes "ul") (element (codes "li") (text_tree (codes "2") no_trees) no_trees) no_trees))
      (element (codes "li") (text_tree (codes "3") no_trees) no_trees)) (element (codes "dl") (element (codes "dd")
      (text_tree (codes "4") no_trees) (element (codes "dt") (text_tree (codes "5") no_trees) no_trees)) no_trees)) no_trees))
      no_trees))
  pub page125 : parse_fragment false (surroundings Html (codes "div") [] true NoQuirks) (codes "<form>x</form>") ≡ Some
      (text_tree (codes "x") no_trees)
  pub page126 : parse_fragment false (surroundings Html (codes "div") [] false NoQuirks) (codes "<form>x</form>") ≡ Some
      (element (codes "form") (text_tree (codes "x") no_trees) no_trees)
  pub page127 : parse_fragment false (surroundings Html (codes "form") [] false NoQuirks) (codes "<form>x</form>") ≡ Some
      (text_tree (codes "x") no_trees)
  pub page128 : parse_fragment false (surroundings Html (codes "p") [] true NoQuirks) (codes "<div></form><form>x") ≡ Some
      (element (codes "div") (element (codes "form") (text_tree (codes "x") no_trees) no_trees) no_trees)
  pub page129 : parse_fragment false (surroundings Html (codes "div") [] true NoQuirks) (codes "<table><form><tr><td>x") ≡ Some
      (element (codes "table") (element (codes "tbody") (element (codes "tr") (element (codes "td")
      (text_tree (codes "x") no_trees) no_trees) no_trees) no_trees) no_trees)
  pub page130 : parse_fragment false (surroundings Html (codes "div") [] false FullQuirks) (codes "<p>x<table>") ≡ Some
      (element (codes "p") (text_tree (codes "x") (element (codes "table") no_trees no_trees)) no_trees)
  pub page131 : parse_fragment false (surroundings Html (codes "div") [] false NoQuirks) (codes "<p>x<table>") ≡ Some
      (element (codes "p") (text_tree (codes "x") no_trees) (element (codes "table") no_trees no_trees))
  pub page132 : parse_fragment false (surroundings MathMl (codes "annotation-xml") (attr NoSpace (codes "encoding") (codes "Text/HTML") ∷
      []) false NoQuirks) (codes "<q>x<br>y") ≡ Some (element (codes "q") (text_tree (codes "x") (element (codes "br") no_trees
      (text_tree (codes "y") no_trees))) no_trees)
  pub page133 : parse_fragment false (surroundings MathMl (codes "annotation-xml") [] false NoQuirks) (codes "<q>x<br>y") ≡ Some
      (math_element (codes "q") (text_tree (codes "x") no_trees) (element (codes "br") no_trees (text_tree (codes "y") no_trees)))
  pub page134 : parse_fragment false (surroundings MathMl (codes "annotation-xml") (attr NoSpace (codes "encoding") (codes "text") ∷
      []) false NoQuirks) (codes "<svg>x") ≡ Some (svg_element (codes "svg") (text_tree (codes "x") no_trees) no_trees)
  pub page135 : parse_fragment false (surroundings MathMl (codes "mi") [] false NoQuirks) (codes "<q>x<mglyph>y") ≡ Some
      (element (codes "q") (text_tree (codes "x") (element (codes "mglyph") (text_tree (codes "y") no_trees) no_trees)) no_trees)
  pub page136 : parse_fragment false (surroundings Svg (codes "desc") [] true FullQuirks) (codes "<q>x") ≡ Some
      (element (codes "q") (text_tree (codes "x") no_trees) no_trees)
