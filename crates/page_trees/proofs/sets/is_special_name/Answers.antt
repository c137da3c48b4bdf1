use Rattle.std.proofs.Common.{refl, sym}
use Rattle.standard_trees.specs.NameLists.{special}
use Rattle.page_trees.specs.Names.{html_rows, rare_rows}
use Rattle.page_trees.proofs.NamesAgree.{none_of, ◌and◌}
use Rattle.page_trees.proofs.sets.is_special_name.Goals as goal

pub returns-in_default : goal.returns-in_default
unfolding html_rows rare_rows
returns-in_default c =
    let d = c.in_default in
    sym (none_of special c.args.name refl (d.not-Listing and tt) (
    d.not-Address and d.not-Applet and d.not-Area and d.not-Article and d.not-Aside and d.not-Base and d.not-Basefont and
    d.not-Bgsound and d.not-Blockquote and d.not-Body and d.not-Br and d.not-Button and d.not-Caption and d.not-Center and d.not-Col
    and d.not-Colgroup and d.not-Dd and d.not-Details and d.not-Dir and d.not-Div and d.not-Dl and d.not-Dt and d.not-Embed and
    d.not-Fieldset and d.not-Figcaption and d.not-Figure and d.not-Footer and d.not-Form and d.not-Frame and d.not-Frameset and
    d.not-H1 and d.not-H2 and d.not-H3 and d.not-H4 and d.not-H5 and d.not-H6 and d.not-Head and d.not-Header and d.not-Hgroup and
    d.not-Hr and d.not-Html and d.not-Iframe and d.not-Img and d.not-Input and d.not-Keygen and d.not-Li and d.not-Link and d.not-Main
    and d.not-Marquee and d.not-Menu and d.not-Meta and d.not-Nav and d.not-Noembed and d.not-Noframes and d.not-Noscript and
    d.not-Object and d.not-Ol and d.not-P and d.not-Param and d.not-Plaintext and d.not-Pre and d.not-Script and d.not-Search and
    d.not-Section and d.not-Select and d.not-Source and d.not-Style and d.not-Summary and d.not-Table and d.not-Tbody and d.not-Td and
    d.not-Template and d.not-Textarea and d.not-Tfoot and d.not-Th and d.not-Thead and d.not-Title and d.not-Tr and d.not-Track and
    d.not-Ul and d.not-Wbr and d.not-Xmp and tt))
