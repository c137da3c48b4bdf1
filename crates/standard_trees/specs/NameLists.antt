-- The lists of names of docs/standard/tree_construction.txt; made by tests/standard/trees/definition.py.
use Rattle.std.specs.Prelude.{ℕ, List, [], ◌∷◌, codes}

abbrev pub headings : List (List ℕ)
headings = codes "h1" ∷ codes "h2" ∷ codes "h3" ∷ codes "h4" ∷ codes "h5" ∷ codes "h6" ∷ []

abbrev pub special : List (List ℕ)
special = codes "address" ∷ codes "applet" ∷ codes "area" ∷ codes "article" ∷ codes "aside" ∷ codes "base" ∷ codes "basefont" ∷
    codes "bgsound" ∷ codes "blockquote" ∷ codes "body" ∷ codes "br" ∷ codes "button" ∷ codes "caption" ∷ codes "center" ∷ codes "col" ∷
    codes "colgroup" ∷ codes "dd" ∷ codes "details" ∷ codes "dir" ∷ codes "div" ∷ codes "dl" ∷ codes "dt" ∷ codes "embed" ∷
    codes "fieldset" ∷ codes "figcaption" ∷ codes "figure" ∷ codes "footer" ∷ codes "form" ∷ codes "frame" ∷ codes "frameset" ∷ codes "h1" ∷
    codes "h2" ∷ codes "h3" ∷ codes "h4" ∷ codes "h5" ∷ codes "h6" ∷ codes "head" ∷ codes "header" ∷ codes "hgroup" ∷ codes "hr" ∷
    codes "html" ∷ codes "iframe" ∷ codes "img" ∷ codes "input" ∷ codes "keygen" ∷ codes "li" ∷ codes "link" ∷ codes "listing" ∷
    codes "main" ∷ codes "marquee" ∷ codes "menu" ∷ codes "meta" ∷ codes "nav" ∷ codes "noembed" ∷ codes "noframes" ∷ codes "noscript" ∷
    codes "object" ∷ codes "ol" ∷ codes "p" ∷ codes "param" ∷ codes "plaintext" ∷ codes "pre" ∷ codes "script" ∷ codes "search" ∷
    codes "section" ∷ codes "select" ∷ codes "source" ∷ codes "style" ∷ codes "summary" ∷ codes "table" ∷ codes "tbody" ∷ codes "td" ∷
    codes "template" ∷ codes "textarea" ∷ codes "tfoot" ∷ codes "th" ∷ codes "thead" ∷ codes "title" ∷ codes "tr" ∷ codes "track" ∷
    codes "ul" ∷ codes "wbr" ∷ codes "xmp" ∷ codes "math mi" ∷ codes "math mo" ∷ codes "math mn" ∷ codes "math ms" ∷ codes "math mtext" ∷
    codes "math annotation-xml" ∷ codes "svg foreignObject" ∷ codes "svg desc" ∷ codes "svg title" ∷ []

abbrev pub scope : List (List ℕ)
scope = codes "applet" ∷ codes "caption" ∷ codes "html" ∷ codes "table" ∷ codes "td" ∷ codes "th" ∷ codes "marquee" ∷ codes "object" ∷
    codes "select" ∷ codes "template" ∷ codes "math mi" ∷ codes "math mo" ∷ codes "math mn" ∷ codes "math ms" ∷ codes "math mtext" ∷
    codes "math annotation-xml" ∷ codes "svg foreignObject" ∷ codes "svg desc" ∷ codes "svg title" ∷ []

abbrev pub list_item_scope : List (List ℕ)
list_item_scope = codes "applet" ∷ codes "caption" ∷ codes "html" ∷ codes "table" ∷ codes "td" ∷ codes "th" ∷ codes "marquee" ∷
    codes "object" ∷ codes "select" ∷ codes "template" ∷ codes "math mi" ∷ codes "math mo" ∷ codes "math mn" ∷ codes "math ms" ∷
    codes "math mtext" ∷ codes "math annotation-xml" ∷ codes "svg foreignObject" ∷ codes "svg desc" ∷ codes "svg title" ∷ codes "ol" ∷
    codes "ul" ∷ []

abbrev pub button_scope : List (List ℕ)
button_scope = codes "applet" ∷ codes "caption" ∷ codes "html" ∷ codes "table" ∷ codes "td" ∷ codes "th" ∷ codes "marquee" ∷
    codes "object" ∷ codes "select" ∷ codes "template" ∷ codes "math mi" ∷ codes "math mo" ∷ codes "math mn" ∷ codes "math ms" ∷
    codes "math mtext" ∷ codes "math annotation-xml" ∷ codes "svg foreignObject" ∷ codes "svg desc" ∷ codes "svg title" ∷ codes "button" ∷
    []

abbrev pub table_scope : List (List ℕ)
table_scope = codes "html" ∷ codes "table" ∷ codes "template" ∷ []

abbrev pub implied : List (List ℕ)
implied = codes "dd" ∷ codes "dt" ∷ codes "li" ∷ codes "optgroup" ∷ codes "option" ∷ codes "p" ∷ codes "rb" ∷ codes "rp" ∷ codes "rt" ∷
    codes "rtc" ∷ []

abbrev pub thoroughly_implied : List (List ℕ)
thoroughly_implied = codes "caption" ∷ codes "colgroup" ∷ codes "dd" ∷ codes "dt" ∷ codes "li" ∷ codes "optgroup" ∷ codes "option" ∷
    codes "p" ∷ codes "rb" ∷ codes "rp" ∷ codes "rt" ∷ codes "rtc" ∷ codes "tbody" ∷ codes "td" ∷ codes "tfoot" ∷ codes "th" ∷
    codes "thead" ∷ codes "tr" ∷ []

abbrev pub fostering_names : List (List ℕ)
fostering_names = codes "table" ∷ codes "tbody" ∷ codes "tfoot" ∷ codes "thead" ∷ codes "tr" ∷ []

abbrev pub crossed_by_items : List (List ℕ)
crossed_by_items = codes "address" ∷ codes "div" ∷ codes "p" ∷ []

abbrev pub text_points : List (List ℕ)
text_points = codes "math mi" ∷ codes "math mo" ∷ codes "math mn" ∷ codes "math ms" ∷ codes "math mtext" ∷ []

abbrev pub html_points : List (List ℕ)
html_points = codes "svg foreignObject" ∷ codes "svg desc" ∷ codes "svg title" ∷ []

abbrev pub html_encodings : List (List ℕ)
html_encodings = codes "text/html" ∷ codes "application/xhtml+xml" ∷ []

abbrev pub table_context : List (List ℕ)
table_context = codes "table" ∷ codes "template" ∷ codes "html" ∷ []

abbrev pub table_body_context : List (List ℕ)
table_body_context = codes "tbody" ∷ codes "tfoot" ∷ codes "thead" ∷ codes "template" ∷ codes "html" ∷ []

abbrev pub table_row_context : List (List ℕ)
table_row_context = codes "tr" ∷ codes "template" ∷ codes "html" ∷ []

abbrev pub breakouts : List (List ℕ)
breakouts = codes "b" ∷ codes "big" ∷ codes "blockquote" ∷ codes "body" ∷ codes "br" ∷ codes "center" ∷ codes "code" ∷ codes "dd" ∷
    codes "div" ∷ codes "dl" ∷ codes "dt" ∷ codes "em" ∷ codes "embed" ∷ codes "h1" ∷ codes "h2" ∷ codes "h3" ∷ codes "h4" ∷ codes "h5" ∷
    codes "h6" ∷ codes "head" ∷ codes "hr" ∷ codes "i" ∷ codes "img" ∷ codes "li" ∷ codes "listing" ∷ codes "menu" ∷ codes "meta" ∷
    codes "nobr" ∷ codes "ol" ∷ codes "p" ∷ codes "pre" ∷ codes "ruby" ∷ codes "s" ∷ codes "small" ∷ codes "span" ∷ codes "strong" ∷
    codes "strike" ∷ codes "sub" ∷ codes "sup" ∷ codes "table" ∷ codes "tt" ∷ codes "u" ∷ codes "ul" ∷ codes "var" ∷ []

abbrev pub svg_names : List (List ℕ)
svg_names = codes "altGlyph" ∷ codes "altGlyphDef" ∷ codes "altGlyphItem" ∷ codes "animateColor" ∷ codes "animateMotion" ∷
    codes "animateTransform" ∷ codes "clipPath" ∷ codes "feBlend" ∷ codes "feColorMatrix" ∷ codes "feComponentTransfer" ∷
    codes "feComposite" ∷ codes "feConvolveMatrix" ∷ codes "feDiffuseLighting" ∷ codes "feDisplacementMap" ∷ codes "feDistantLight" ∷
    codes "feDropShadow" ∷ codes "feFlood" ∷ codes "feFuncA" ∷ codes "feFuncB" ∷ codes "feFuncG" ∷ codes "feFuncR" ∷
    codes "feGaussianBlur" ∷ codes "feImage" ∷ codes "feMerge" ∷ codes "feMergeNode" ∷ codes "feMorphology" ∷ codes "feOffset" ∷
    codes "fePointLight" ∷ codes "feSpecularLighting" ∷ codes "feSpotLight" ∷ codes "feTile" ∷ codes "feTurbulence" ∷
    codes "foreignObject" ∷ codes "glyphRef" ∷ codes "linearGradient" ∷ codes "radialGradient" ∷ codes "textPath" ∷ []

abbrev pub svg_attributes : List (List ℕ)
svg_attributes = codes "attributeName" ∷ codes "attributeType" ∷ codes "baseFrequency" ∷ codes "baseProfile" ∷ codes "calcMode" ∷
    codes "clipPathUnits" ∷ codes "diffuseConstant" ∷ codes "edgeMode" ∷ codes "filterUnits" ∷ codes "glyphRef" ∷
    codes "gradientTransform" ∷ codes "gradientUnits" ∷ codes "kernelMatrix" ∷ codes "kernelUnitLength" ∷ codes "keyPoints" ∷
    codes "keySplines" ∷ codes "keyTimes" ∷ codes "lengthAdjust" ∷ codes "limitingConeAngle" ∷ codes "markerHeight" ∷ codes "markerUnits" ∷
    codes "markerWidth" ∷ codes "maskContentUnits" ∷ codes "maskUnits" ∷ codes "numOctaves" ∷ codes "pathLength" ∷
    codes "patternContentUnits" ∷ codes "patternTransform" ∷ codes "patternUnits" ∷ codes "pointsAtX" ∷ codes "pointsAtY" ∷
    codes "pointsAtZ" ∷ codes "preserveAlpha" ∷ codes "preserveAspectRatio" ∷ codes "primitiveUnits" ∷ codes "refX" ∷ codes "refY" ∷
    codes "repeatCount" ∷ codes "repeatDur" ∷ codes "requiredExtensions" ∷ codes "requiredFeatures" ∷ codes "specularConstant" ∷
    codes "specularExponent" ∷ codes "spreadMethod" ∷ codes "startOffset" ∷ codes "stdDeviation" ∷ codes "stitchTiles" ∷
    codes "surfaceScale" ∷ codes "systemLanguage" ∷ codes "tableValues" ∷ codes "targetX" ∷ codes "targetY" ∷ codes "textLength" ∷
    codes "viewBox" ∷ codes "viewTarget" ∷ codes "xChannelSelector" ∷ codes "yChannelSelector" ∷ codes "zoomAndPan" ∷ []

abbrev pub mathml_attributes : List (List ℕ)
mathml_attributes = codes "definitionURL" ∷ []

abbrev pub foreign_attributes : List (List ℕ)
foreign_attributes = codes "xlink:actuate" ∷ codes "xlink:arcrole" ∷ codes "xlink:href" ∷ codes "xlink:role" ∷ codes "xlink:show" ∷
    codes "xlink:title" ∷ codes "xlink:type" ∷ codes "xml:lang" ∷ codes "xml:space" ∷ codes "xmlns" ∷ codes "xmlns:xlink" ∷ []
