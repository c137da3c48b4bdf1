-- What the rules do with each name of a class, computed by the prover; written by generate.py.
use Rattle.std.specs.Prelude.{◌≡◌, false, ◌∷◌, codes, refl}
use mathlib.Core.Path.{ap}
use Rattle.standard_rules.specs.Building.{act, in_found_mode, in_scope, run, taken, with_stack}
use Rattle.standard_rules.specs.PlainTrees.{AList, ADescriptionList, ABlock, AHeading, AParagraph, APhrase, AFormatting, AnAnchor, AVoid, AnItem, ADescription, AButton, ABreak, ASource, AForm, APre, ARuby, ARubyText, ARawText, AMetadata, ATable, ACaption, AColumnGroup, AColumn, ARowGroup, ARow}
use Rattle.standard_rules.specs.PlainTrees.{ACell, names_of}
use Rattle.standard_rules.specs.RuleWords.{InCaption, InCell, InColumnGroup, InHead, InRow, InTable, InTableBody}
use Rattle.standard_rules.specs.TreeRules.{headings, rules}
use Rattle.standard_rules.specs.TreeTokens.{is_among}
use Rattle.standard_tokens.specs.Tokens.{AChar}
use Rattle.standard_rules.proofs.FormSteps.{form_closes, form_opens}
use Rattle.standard_rules.proofs.RuleShapes.{Formatting, HoldsItems, IsBreak, IsForm, IsLeafIn, IsMarkedPart, IsPart, IsRawText, IsSource, IsTable, IsVoid, KeepsSpace, OpensBlock, OpensFormatting, OpensHeading, OpensItem, OpensPhrase, OpensPre, OpensRubyText, Ordinary, RunsIn, grown, open_of}
use Rattle.standard_rules.proofs.RuleShapes.{with_one}
use Rattle.standard_rules.proofs.StackKeys.{Barless}
use Rattle.standard_rules.proofs.TreeLists.{Each, each_space}

pub block_opens : Each (OpensBlock) (names_of ABlock)
unfolding run rules taken act in_scope
block_opens = (
  λ attrs b h. (rw h refl, rw h refl, rw h refl),
  (
    λ attrs b h. (rw h refl, rw h refl, rw h refl),
    (
      λ attrs b h. (rw h refl, rw h refl, rw h refl),
      (
        λ attrs b h. (rw h refl, rw h refl, rw h refl),
        (
          λ attrs b h. (rw h refl, rw h refl, rw h refl),
          (
            λ attrs b h. (rw h refl, rw h refl, rw h refl),
            (
              λ attrs b h. (rw h refl, rw h refl, rw h refl),
              (
                λ attrs b h. (rw h refl, rw h refl, rw h refl),
                (
                  λ attrs b h. (rw h refl, rw h refl, rw h refl),
                  (
                    λ attrs b h. (rw h refl, rw h refl, rw h refl),
                    (
                      λ attrs b h. (rw h refl, rw h refl, rw h refl),
                      (
                        λ attrs b h. (rw h refl, rw h refl, rw h refl),
                        (
                          λ attrs b h. (rw h refl, rw h refl, rw h refl),
                          (
                            λ attrs b h. (rw h refl, rw h refl, rw h refl),
                            (
                              λ attrs b h. (rw h refl, rw h refl, rw h refl),
                              (
                                λ attrs b h. (rw h refl, rw h refl, rw h refl),
                                (
                                  λ attrs b h. (rw h refl, rw h refl, rw h refl),
                                  (
                                    λ attrs b h. (rw h refl, rw h refl, rw h refl),
                                    (
                                      λ attrs b h. (rw h refl, rw h refl, rw h refl),
                                      (λ attrs b h. (rw h refl, rw h refl, rw h refl), (λ attrs b h. (rw h refl, rw h refl, rw h refl), (λ attrs b h. (rw h refl, rw h refl, rw h refl), (λ attrs b h. (rw h refl, rw h refl, rw h refl), (λ attrs b h. (rw h refl, rw h refl, rw h refl), tt))))),
                                    ),
                                  ),
                                ),
                              ),
                            ),
                          ),
                        ),
                      ),
                    ),
                  ),
                ),
              ),
            ),
          ),
        ),
      ),
    ),
  ),
)

pub block_ordinary : Each (Ordinary) (names_of ABlock)
unfolding run rules taken act in_scope
block_ordinary = (
  record { closes = λ b number attrs children o os. (refl, refl, refl); ends = refl; unswitched = refl; unlisted = (refl, refl); passes = λ c m ms. refl },
  (
    record { closes = λ b number attrs children o os. (refl, refl, refl); ends = refl; unswitched = refl; unlisted = (refl, refl); passes = λ c m ms. refl },
    (
      record { closes = λ b number attrs children o os. (refl, refl, refl); ends = refl; unswitched = refl; unlisted = (refl, refl); passes = λ c m ms. refl },
      (
        record { closes = λ b number attrs children o os. (refl, refl, refl); ends = refl; unswitched = refl; unlisted = (refl, refl); passes = λ c m ms. refl },
        (
          record { closes = λ b number attrs children o os. (refl, refl, refl); ends = refl; unswitched = refl; unlisted = (refl, refl); passes = λ c m ms. refl },
          (
            record { closes = λ b number attrs children o os. (refl, refl, refl); ends = refl; unswitched = refl; unlisted = (refl, refl); passes = λ c m ms. refl },
            (
              record { closes = λ b number attrs children o os. (refl, refl, refl); ends = refl; unswitched = refl; unlisted = (refl, refl); passes = λ c m ms. refl },
              (
                record { closes = λ b number attrs children o os. (refl, refl, refl); ends = refl; unswitched = refl; unlisted = (refl, refl); passes = λ c m ms. refl },
                (
                  record { closes = λ b number attrs children o os. (refl, refl, refl); ends = refl; unswitched = refl; unlisted = (refl, refl); passes = λ c m ms. refl },
                  (
                    record { closes = λ b number attrs children o os. (refl, refl, refl); ends = refl; unswitched = refl; unlisted = (refl, refl); passes = λ c m ms. refl },
                    (
                      record { closes = λ b number attrs children o os. (refl, refl, refl); ends = refl; unswitched = refl; unlisted = (refl, refl); passes = λ c m ms. refl },
                      (
                        record { closes = λ b number attrs children o os. (refl, refl, refl); ends = refl; unswitched = refl; unlisted = (refl, refl); passes = λ c m ms. refl },
                        (
                          record { closes = λ b number attrs children o os. (refl, refl, refl); ends = refl; unswitched = refl; unlisted = (refl, refl); passes = λ c m ms. refl },
                          (
                            record { closes = λ b number attrs children o os. (refl, refl, refl); ends = refl; unswitched = refl; unlisted = (refl, refl); passes = λ c m ms. refl },
                            (
                              record { closes = λ b number attrs children o os. (refl, refl, refl); ends = refl; unswitched = refl; unlisted = (refl, refl); passes = λ c m ms. refl },
                              (
                                record { closes = λ b number attrs children o os. (refl, refl, refl); ends = refl; unswitched = refl; unlisted = (refl, refl); passes = λ c m ms. refl },
                                (
                                  record { closes = λ b number attrs children o os. (refl, refl, refl); ends = refl; unswitched = refl; unlisted = (refl, refl); passes = λ c m ms. refl },
                                  (
                                    record { closes = λ b number attrs children o os. (refl, refl, refl); ends = refl; unswitched = refl; unlisted = (refl, refl); passes = λ c m ms. refl },
                                    (
                                      record { closes = λ b number attrs children o os. (refl, refl, refl); ends = refl; unswitched = refl; unlisted = (refl, refl); passes = λ c m ms. refl },
                                      (
                                        record { closes = λ b number attrs children o os. (refl, refl, refl); ends = refl; unswitched = refl; unlisted = (refl, refl); passes = λ c m ms. refl },
                                        (
                                          record { closes = λ b number attrs children o os. (refl, refl, refl); ends = refl; unswitched = refl; unlisted = (refl, refl); passes = λ c m ms. refl },
                                          (
                                            record { closes = λ b number attrs children o os. (refl, refl, refl); ends = refl; unswitched = refl; unlisted = (refl, refl); passes = λ c m ms. refl },
                                            (
                                              record { closes = λ b number attrs children o os. (refl, refl, refl); ends = refl; unswitched = refl; unlisted = (refl, refl); passes = λ c m ms. refl },
                                              (record { closes = λ b number attrs children o os. (refl, refl, refl); ends = refl; unswitched = refl; unlisted = (refl, refl); passes = λ c m ms. refl }, tt),
                                            ),
                                          ),
                                        ),
                                      ),
                                    ),
                                  ),
                                ),
                              ),
                            ),
                          ),
                        ),
                      ),
                    ),
                  ),
                ),
              ),
            ),
          ),
        ),
      ),
    ),
  ),
)

pub block_no_heading : Each (λ name. is_among name headings ≡ false) (names_of ABlock)
block_no_heading = (refl, (refl, (refl, (refl, (refl, (refl, (refl, (refl, (refl, (refl, (refl, (refl, (refl, (refl, (refl, (refl, (refl, (refl, (refl, (refl, (refl, (refl, (refl, (refl, tt))))))))))))))))))))))))

pub block_barless : Each (Barless) (names_of ABlock)
block_barless = (
  record { no_p = refl; no_a = refl; no_button = refl },
  (
    record { no_p = refl; no_a = refl; no_button = refl },
    (
      record { no_p = refl; no_a = refl; no_button = refl },
      (
        record { no_p = refl; no_a = refl; no_button = refl },
        (
          record { no_p = refl; no_a = refl; no_button = refl },
          (
            record { no_p = refl; no_a = refl; no_button = refl },
            (
              record { no_p = refl; no_a = refl; no_button = refl },
              (
                record { no_p = refl; no_a = refl; no_button = refl },
                (
                  record { no_p = refl; no_a = refl; no_button = refl },
                  (
                    record { no_p = refl; no_a = refl; no_button = refl },
                    (
                      record { no_p = refl; no_a = refl; no_button = refl },
                      (
                        record { no_p = refl; no_a = refl; no_button = refl },
                        (
                          record { no_p = refl; no_a = refl; no_button = refl },
                          (
                            record { no_p = refl; no_a = refl; no_button = refl },
                            (
                              record { no_p = refl; no_a = refl; no_button = refl },
                              (
                                record { no_p = refl; no_a = refl; no_button = refl },
                                (
                                  record { no_p = refl; no_a = refl; no_button = refl },
                                  (
                                    record { no_p = refl; no_a = refl; no_button = refl },
                                    (
                                      record { no_p = refl; no_a = refl; no_button = refl },
                                      (
                                        record { no_p = refl; no_a = refl; no_button = refl },
                                        (record { no_p = refl; no_a = refl; no_button = refl }, (record { no_p = refl; no_a = refl; no_button = refl }, (record { no_p = refl; no_a = refl; no_button = refl }, (record { no_p = refl; no_a = refl; no_button = refl }, tt)))),
                                      ),
                                    ),
                                  ),
                                ),
                              ),
                            ),
                          ),
                        ),
                      ),
                    ),
                  ),
                ),
              ),
            ),
          ),
        ),
      ),
    ),
  ),
)

pub list_opens : Each (OpensBlock) (names_of AList)
unfolding run rules taken act in_scope
list_opens = (λ attrs b h. (rw h refl, rw h refl, rw h refl), (λ attrs b h. (rw h refl, rw h refl, rw h refl), (λ attrs b h. (rw h refl, rw h refl, rw h refl), (λ attrs b h. (rw h refl, rw h refl, rw h refl), tt))))

pub list_ordinary : Each (Ordinary) (names_of AList)
unfolding run rules taken act in_scope
list_ordinary = (
  record { closes = λ b number attrs children o os. (refl, refl, refl); ends = refl; unswitched = refl; unlisted = (refl, refl); passes = λ c m ms. refl },
  (
    record { closes = λ b number attrs children o os. (refl, refl, refl); ends = refl; unswitched = refl; unlisted = (refl, refl); passes = λ c m ms. refl },
    (
      record { closes = λ b number attrs children o os. (refl, refl, refl); ends = refl; unswitched = refl; unlisted = (refl, refl); passes = λ c m ms. refl },
      (record { closes = λ b number attrs children o os. (refl, refl, refl); ends = refl; unswitched = refl; unlisted = (refl, refl); passes = λ c m ms. refl }, tt),
    ),
  ),
)

pub list_no_heading : Each (λ name. is_among name headings ≡ false) (names_of AList)
list_no_heading = (refl, (refl, (refl, (refl, tt))))

pub list_barless : Each (Barless) (names_of AList)
list_barless = (record { no_p = refl; no_a = refl; no_button = refl }, (record { no_p = refl; no_a = refl; no_button = refl }, (record { no_p = refl; no_a = refl; no_button = refl }, (record { no_p = refl; no_a = refl; no_button = refl }, tt))))

pub description_list_opens : Each (OpensBlock) (names_of ADescriptionList)
unfolding run rules taken act in_scope
description_list_opens = (λ attrs b h. (rw h refl, rw h refl, rw h refl), tt)

pub description_list_ordinary : Each (Ordinary) (names_of ADescriptionList)
unfolding run rules taken act in_scope
description_list_ordinary = (record { closes = λ b number attrs children o os. (refl, refl, refl); ends = refl; unswitched = refl; unlisted = (refl, refl); passes = λ c m ms. refl }, tt)

pub description_list_no_heading : Each (λ name. is_among name headings ≡ false) (names_of ADescriptionList)
description_list_no_heading = (refl, tt)

pub description_list_barless : Each (Barless) (names_of ADescriptionList)
description_list_barless = (record { no_p = refl; no_a = refl; no_button = refl }, tt)

pub paragraph_opens : Each (OpensBlock) (names_of AParagraph)
unfolding run rules taken act in_scope
paragraph_opens = (λ attrs b h. (rw h refl, rw h refl, rw h refl), tt)

pub paragraph_ordinary : Each (Ordinary) (names_of AParagraph)
unfolding run rules taken act in_scope
paragraph_ordinary = (record { closes = λ b number attrs children o os. (refl, refl, refl); ends = refl; unswitched = refl; unlisted = (refl, refl); passes = λ c m ms. refl }, tt)

pub paragraph_no_heading : Each (λ name. is_among name headings ≡ false) (names_of AParagraph)
paragraph_no_heading = (refl, tt)

pub heading_opens : Each (OpensHeading) (names_of AHeading)
unfolding run rules taken act in_scope
heading_opens = (
  λ attrs b h k. (rw (h, k, act) refl, rw (h, k, act) refl, rw (h, k, act) refl),
  (
    λ attrs b h k. (rw (h, k, act) refl, rw (h, k, act) refl, rw (h, k, act) refl),
    (
      λ attrs b h k. (rw (h, k, act) refl, rw (h, k, act) refl, rw (h, k, act) refl),
      (λ attrs b h k. (rw (h, k, act) refl, rw (h, k, act) refl, rw (h, k, act) refl), (λ attrs b h k. (rw (h, k, act) refl, rw (h, k, act) refl, rw (h, k, act) refl), (λ attrs b h k. (rw (h, k, act) refl, rw (h, k, act) refl, rw (h, k, act) refl), tt))),
    ),
  ),
)

pub heading_ordinary : Each (Ordinary) (names_of AHeading)
unfolding run rules taken act in_scope
heading_ordinary = (
  record { closes = λ b number attrs children o os. (refl, refl, refl); ends = refl; unswitched = refl; unlisted = (refl, refl); passes = λ c m ms. refl },
  (
    record { closes = λ b number attrs children o os. (refl, refl, refl); ends = refl; unswitched = refl; unlisted = (refl, refl); passes = λ c m ms. refl },
    (
      record { closes = λ b number attrs children o os. (refl, refl, refl); ends = refl; unswitched = refl; unlisted = (refl, refl); passes = λ c m ms. refl },
      (
        record { closes = λ b number attrs children o os. (refl, refl, refl); ends = refl; unswitched = refl; unlisted = (refl, refl); passes = λ c m ms. refl },
        (
          record { closes = λ b number attrs children o os. (refl, refl, refl); ends = refl; unswitched = refl; unlisted = (refl, refl); passes = λ c m ms. refl },
          (record { closes = λ b number attrs children o os. (refl, refl, refl); ends = refl; unswitched = refl; unlisted = (refl, refl); passes = λ c m ms. refl }, tt),
        ),
      ),
    ),
  ),
)

pub heading_barless : Each (Barless) (names_of AHeading)
heading_barless = (
  record { no_p = refl; no_a = refl; no_button = refl },
  (record { no_p = refl; no_a = refl; no_button = refl }, (record { no_p = refl; no_a = refl; no_button = refl }, (record { no_p = refl; no_a = refl; no_button = refl }, (record { no_p = refl; no_a = refl; no_button = refl }, (record { no_p = refl; no_a = refl; no_button = refl }, tt))))),
)

pub phrase_opens : Each (OpensPhrase) (names_of APhrase)
unfolding run rules taken act in_scope
phrase_opens = (
  λ attrs b h. (rw (h, act) refl, rw (h, act) refl, rw (h, act) refl),
  (
    λ attrs b h. (rw (h, act) refl, rw (h, act) refl, rw (h, act) refl),
    (
      λ attrs b h. (rw (h, act) refl, rw (h, act) refl, rw (h, act) refl),
      (
        λ attrs b h. (rw (h, act) refl, rw (h, act) refl, rw (h, act) refl),
        (
          λ attrs b h. (rw (h, act) refl, rw (h, act) refl, rw (h, act) refl),
          (
            λ attrs b h. (rw (h, act) refl, rw (h, act) refl, rw (h, act) refl),
            (
              λ attrs b h. (rw (h, act) refl, rw (h, act) refl, rw (h, act) refl),
              (
                λ attrs b h. (rw (h, act) refl, rw (h, act) refl, rw (h, act) refl),
                (
                  λ attrs b h. (rw (h, act) refl, rw (h, act) refl, rw (h, act) refl),
                  (
                    λ attrs b h. (rw (h, act) refl, rw (h, act) refl, rw (h, act) refl),
                    (
                      λ attrs b h. (rw (h, act) refl, rw (h, act) refl, rw (h, act) refl),
                      (
                        λ attrs b h. (rw (h, act) refl, rw (h, act) refl, rw (h, act) refl),
                        (
                          λ attrs b h. (rw (h, act) refl, rw (h, act) refl, rw (h, act) refl),
                          (
                            λ attrs b h. (rw (h, act) refl, rw (h, act) refl, rw (h, act) refl),
                            (
                              λ attrs b h. (rw (h, act) refl, rw (h, act) refl, rw (h, act) refl),
                              (
                                λ attrs b h. (rw (h, act) refl, rw (h, act) refl, rw (h, act) refl),
                                (
                                  λ attrs b h. (rw (h, act) refl, rw (h, act) refl, rw (h, act) refl),
                                  (
                                    λ attrs b h. (rw (h, act) refl, rw (h, act) refl, rw (h, act) refl),
                                    (
                                      λ attrs b h. (rw (h, act) refl, rw (h, act) refl, rw (h, act) refl),
                                      (
                                        λ attrs b h. (rw (h, act) refl, rw (h, act) refl, rw (h, act) refl),
                                        (
                                          λ attrs b h. (rw (h, act) refl, rw (h, act) refl, rw (h, act) refl),
                                          (
                                            λ attrs b h. (rw (h, act) refl, rw (h, act) refl, rw (h, act) refl),
                                            (
                                              λ attrs b h. (rw (h, act) refl, rw (h, act) refl, rw (h, act) refl),
                                              (
                                                λ attrs b h. (rw (h, act) refl, rw (h, act) refl, rw (h, act) refl),
                                                (
                                                  λ attrs b h. (rw (h, act) refl, rw (h, act) refl, rw (h, act) refl),
                                                  (
                                                    λ attrs b h. (rw (h, act) refl, rw (h, act) refl, rw (h, act) refl),
                                                    (
                                                      λ attrs b h. (rw (h, act) refl, rw (h, act) refl, rw (h, act) refl),
                                                      (λ attrs b h. (rw (h, act) refl, rw (h, act) refl, rw (h, act) refl), (λ attrs b h. (rw (h, act) refl, rw (h, act) refl, rw (h, act) refl), (λ attrs b h. (rw (h, act) refl, rw (h, act) refl, rw (h, act) refl), tt))),
                                                    ),
                                                  ),
                                                ),
                                              ),
                                            ),
                                          ),
                                        ),
                                      ),
                                    ),
                                  ),
                                ),
                              ),
                            ),
                          ),
                        ),
                      ),
                    ),
                  ),
                ),
              ),
            ),
          ),
        ),
      ),
    ),
  ),
)

pub phrase_ordinary : Each (Ordinary) (names_of APhrase)
unfolding run rules taken act in_scope
phrase_ordinary = (
  record { closes = λ b number attrs children o os. (refl, refl, refl); ends = refl; unswitched = refl; unlisted = (refl, refl); passes = λ c m ms. refl },
  (
    record { closes = λ b number attrs children o os. (refl, refl, refl); ends = refl; unswitched = refl; unlisted = (refl, refl); passes = λ c m ms. refl },
    (
      record { closes = λ b number attrs children o os. (refl, refl, refl); ends = refl; unswitched = refl; unlisted = (refl, refl); passes = λ c m ms. refl },
      (
        record { closes = λ b number attrs children o os. (refl, refl, refl); ends = refl; unswitched = refl; unlisted = (refl, refl); passes = λ c m ms. refl },
        (
          record { closes = λ b number attrs children o os. (refl, refl, refl); ends = refl; unswitched = refl; unlisted = (refl, refl); passes = λ c m ms. refl },
          (
            record { closes = λ b number attrs children o os. (refl, refl, refl); ends = refl; unswitched = refl; unlisted = (refl, refl); passes = λ c m ms. refl },
            (
              record { closes = λ b number attrs children o os. (refl, refl, refl); ends = refl; unswitched = refl; unlisted = (refl, refl); passes = λ c m ms. refl },
              (
                record { closes = λ b number attrs children o os. (refl, refl, refl); ends = refl; unswitched = refl; unlisted = (refl, refl); passes = λ c m ms. refl },
                (
                  record { closes = λ b number attrs children o os. (refl, refl, refl); ends = refl; unswitched = refl; unlisted = (refl, refl); passes = λ c m ms. refl },
                  (
                    record { closes = λ b number attrs children o os. (refl, refl, refl); ends = refl; unswitched = refl; unlisted = (refl, refl); passes = λ c m ms. refl },
                    (
                      record { closes = λ b number attrs children o os. (refl, refl, refl); ends = refl; unswitched = refl; unlisted = (refl, refl); passes = λ c m ms. refl },
                      (
                        record { closes = λ b number attrs children o os. (refl, refl, refl); ends = refl; unswitched = refl; unlisted = (refl, refl); passes = λ c m ms. refl },
                        (
                          record { closes = λ b number attrs children o os. (refl, refl, refl); ends = refl; unswitched = refl; unlisted = (refl, refl); passes = λ c m ms. refl },
                          (
                            record { closes = λ b number attrs children o os. (refl, refl, refl); ends = refl; unswitched = refl; unlisted = (refl, refl); passes = λ c m ms. refl },
                            (
                              record { closes = λ b number attrs children o os. (refl, refl, refl); ends = refl; unswitched = refl; unlisted = (refl, refl); passes = λ c m ms. refl },
                              (
                                record { closes = λ b number attrs children o os. (refl, refl, refl); ends = refl; unswitched = refl; unlisted = (refl, refl); passes = λ c m ms. refl },
                                (
                                  record { closes = λ b number attrs children o os. (refl, refl, refl); ends = refl; unswitched = refl; unlisted = (refl, refl); passes = λ c m ms. refl },
                                  (
                                    record { closes = λ b number attrs children o os. (refl, refl, refl); ends = refl; unswitched = refl; unlisted = (refl, refl); passes = λ c m ms. refl },
                                    (
                                      record { closes = λ b number attrs children o os. (refl, refl, refl); ends = refl; unswitched = refl; unlisted = (refl, refl); passes = λ c m ms. refl },
                                      (
                                        record { closes = λ b number attrs children o os. (refl, refl, refl); ends = refl; unswitched = refl; unlisted = (refl, refl); passes = λ c m ms. refl },
                                        (
                                          record { closes = λ b number attrs children o os. (refl, refl, refl); ends = refl; unswitched = refl; unlisted = (refl, refl); passes = λ c m ms. refl },
                                          (
                                            record { closes = λ b number attrs children o os. (refl, refl, refl); ends = refl; unswitched = refl; unlisted = (refl, refl); passes = λ c m ms. refl },
                                            (
                                              record { closes = λ b number attrs children o os. (refl, refl, refl); ends = refl; unswitched = refl; unlisted = (refl, refl); passes = λ c m ms. refl },
                                              (
                                                record { closes = λ b number attrs children o os. (refl, refl, refl); ends = refl; unswitched = refl; unlisted = (refl, refl); passes = λ c m ms. refl },
                                                (
                                                  record { closes = λ b number attrs children o os. (refl, refl, refl); ends = refl; unswitched = refl; unlisted = (refl, refl); passes = λ c m ms. refl },
                                                  (
                                                    record { closes = λ b number attrs children o os. (refl, refl, refl); ends = refl; unswitched = refl; unlisted = (refl, refl); passes = λ c m ms. refl },
                                                    (
                                                      record { closes = λ b number attrs children o os. (refl, refl, refl); ends = refl; unswitched = refl; unlisted = (refl, refl); passes = λ c m ms. refl },
                                                      (
                                                        record { closes = λ b number attrs children o os. (refl, refl, refl); ends = refl; unswitched = refl; unlisted = (refl, refl); passes = λ c m ms. refl },
                                                        (
                                                          record { closes = λ b number attrs children o os. (refl, refl, refl); ends = refl; unswitched = refl; unlisted = (refl, refl); passes = λ c m ms. refl },
                                                          (record { closes = λ b number attrs children o os. (refl, refl, refl); ends = refl; unswitched = refl; unlisted = (refl, refl); passes = λ c m ms. refl }, tt),
                                                        ),
                                                      ),
                                                    ),
                                                  ),
                                                ),
                                              ),
                                            ),
                                          ),
                                        ),
                                      ),
                                    ),
                                  ),
                                ),
                              ),
                            ),
                          ),
                        ),
                      ),
                    ),
                  ),
                ),
              ),
            ),
          ),
        ),
      ),
    ),
  ),
)

pub phrase_no_heading : Each (λ name. is_among name headings ≡ false) (names_of APhrase)
phrase_no_heading = (refl, (refl, (refl, (refl, (refl, (refl, (refl, (refl, (refl, (refl, (refl, (refl, (refl, (refl, (refl, (refl, (refl, (refl, (refl, (refl, (refl, (refl, (refl, (refl, (refl, (refl, (refl, (refl, (refl, (refl, tt))))))))))))))))))))))))))))))

pub phrase_barless : Each (Barless) (names_of APhrase)
phrase_barless = (
  record { no_p = refl; no_a = refl; no_button = refl },
  (
    record { no_p = refl; no_a = refl; no_button = refl },
    (
      record { no_p = refl; no_a = refl; no_button = refl },
      (
        record { no_p = refl; no_a = refl; no_button = refl },
        (
          record { no_p = refl; no_a = refl; no_button = refl },
          (
            record { no_p = refl; no_a = refl; no_button = refl },
            (
              record { no_p = refl; no_a = refl; no_button = refl },
              (
                record { no_p = refl; no_a = refl; no_button = refl },
                (
                  record { no_p = refl; no_a = refl; no_button = refl },
                  (
                    record { no_p = refl; no_a = refl; no_button = refl },
                    (
                      record { no_p = refl; no_a = refl; no_button = refl },
                      (
                        record { no_p = refl; no_a = refl; no_button = refl },
                        (
                          record { no_p = refl; no_a = refl; no_button = refl },
                          (
                            record { no_p = refl; no_a = refl; no_button = refl },
                            (
                              record { no_p = refl; no_a = refl; no_button = refl },
                              (
                                record { no_p = refl; no_a = refl; no_button = refl },
                                (
                                  record { no_p = refl; no_a = refl; no_button = refl },
                                  (
                                    record { no_p = refl; no_a = refl; no_button = refl },
                                    (
                                      record { no_p = refl; no_a = refl; no_button = refl },
                                      (
                                        record { no_p = refl; no_a = refl; no_button = refl },
                                        (
                                          record { no_p = refl; no_a = refl; no_button = refl },
                                          (
                                            record { no_p = refl; no_a = refl; no_button = refl },
                                            (
                                              record { no_p = refl; no_a = refl; no_button = refl },
                                              (
                                                record { no_p = refl; no_a = refl; no_button = refl },
                                                (
                                                  record { no_p = refl; no_a = refl; no_button = refl },
                                                  (
                                                    record { no_p = refl; no_a = refl; no_button = refl },
                                                    (record { no_p = refl; no_a = refl; no_button = refl }, (record { no_p = refl; no_a = refl; no_button = refl }, (record { no_p = refl; no_a = refl; no_button = refl }, (record { no_p = refl; no_a = refl; no_button = refl }, tt)))),
                                                  ),
                                                ),
                                              ),
                                            ),
                                          ),
                                        ),
                                      ),
                                    ),
                                  ),
                                ),
                              ),
                            ),
                          ),
                        ),
                      ),
                    ),
                  ),
                ),
              ),
            ),
          ),
        ),
      ),
    ),
  ),
)

pub ruby_opens : Each (OpensPhrase) (names_of ARuby)
unfolding run rules taken act in_scope
ruby_opens = (λ attrs b h. (rw (h, act) refl, rw (h, act) refl, rw (h, act) refl), tt)

pub ruby_ordinary : Each (Ordinary) (names_of ARuby)
unfolding run rules taken act in_scope
ruby_ordinary = (record { closes = λ b number attrs children o os. (refl, refl, refl); ends = refl; unswitched = refl; unlisted = (refl, refl); passes = λ c m ms. refl }, tt)

pub ruby_no_heading : Each (λ name. is_among name headings ≡ false) (names_of ARuby)
ruby_no_heading = (refl, tt)

pub ruby_barless : Each (Barless) (names_of ARuby)
ruby_barless = (record { no_p = refl; no_a = refl; no_button = refl }, tt)

pub ruby_text_opens : Each (OpensRubyText (codes "ruby")) (names_of ARubyText)
unfolding run rules taken act in_scope
ruby_text_opens = (λ attrs b number bs children o os. (refl, refl, refl), (λ attrs b number bs children o os. (refl, refl, refl), tt))

pub ruby_text_ordinary : Each (Ordinary) (names_of ARubyText)
unfolding run rules taken act in_scope
ruby_text_ordinary = (
  record { closes = λ b number attrs children o os. (refl, refl, refl); ends = refl; unswitched = refl; unlisted = (refl, refl); passes = λ c m ms. refl },
  (record { closes = λ b number attrs children o os. (refl, refl, refl); ends = refl; unswitched = refl; unlisted = (refl, refl); passes = λ c m ms. refl }, tt),
)

pub ruby_text_no_heading : Each (λ name. is_among name headings ≡ false) (names_of ARubyText)
ruby_text_no_heading = (refl, (refl, tt))

pub ruby_text_barless : Each (Barless) (names_of ARubyText)
ruby_text_barless = (record { no_p = refl; no_a = refl; no_button = refl }, (record { no_p = refl; no_a = refl; no_button = refl }, tt))

pub item_opens : Each (OpensItem (names_of AnItem)) (names_of AnItem)
unfolding run rules taken act in_scope
item_opens = (λ attrs b h k. (rw (h, k) refl, rw (h, k) refl, rw (h, k) refl), tt)

pub item_ordinary : Each (Ordinary) (names_of AnItem)
unfolding run rules taken act in_scope
item_ordinary = (record { closes = λ b number attrs children o os. (refl, refl, refl); ends = refl; unswitched = refl; unlisted = (refl, refl); passes = λ c m ms. refl }, tt)

pub item_no_heading : Each (λ name. is_among name headings ≡ false) (names_of AnItem)
item_no_heading = (refl, tt)

pub item_barless : Each (Barless) (names_of AnItem)
item_barless = (record { no_p = refl; no_a = refl; no_button = refl }, tt)

pub description_opens : Each (OpensItem (names_of ADescription)) (names_of ADescription)
unfolding run rules taken act in_scope
description_opens = (λ attrs b h k. (rw (h, k) refl, rw (h, k) refl, rw (h, k) refl), (λ attrs b h k. (rw (h, k) refl, rw (h, k) refl, rw (h, k) refl), tt))

pub description_ordinary : Each (Ordinary) (names_of ADescription)
unfolding run rules taken act in_scope
description_ordinary = (
  record { closes = λ b number attrs children o os. (refl, refl, refl); ends = refl; unswitched = refl; unlisted = (refl, refl); passes = λ c m ms. refl },
  (record { closes = λ b number attrs children o os. (refl, refl, refl); ends = refl; unswitched = refl; unlisted = (refl, refl); passes = λ c m ms. refl }, tt),
)

pub description_no_heading : Each (λ name. is_among name headings ≡ false) (names_of ADescription)
description_no_heading = (refl, (refl, tt))

pub description_barless : Each (Barless) (names_of ADescription)
description_barless = (record { no_p = refl; no_a = refl; no_button = refl }, (record { no_p = refl; no_a = refl; no_button = refl }, tt))

pub pre_opens : Each (OpensPre) (names_of APre)
unfolding run rules taken act in_scope
pre_opens = (λ attrs b h. (rw h refl, rw h refl, rw h refl), tt)

pub pre_ordinary : Each (Ordinary) (names_of APre)
unfolding run rules taken act in_scope
pre_ordinary = (record { closes = λ b number attrs children o os. (refl, refl, refl); ends = refl; unswitched = refl; unlisted = (refl, refl); passes = λ c m ms. refl }, tt)

pub pre_no_heading : Each (λ name. is_among name headings ≡ false) (names_of APre)
pre_no_heading = (refl, tt)

pub pre_barless : Each (Barless) (names_of APre)
pre_barless = (record { no_p = refl; no_a = refl; no_button = refl }, tt)

pub button_ordinary : Each (Ordinary) (names_of AButton)
unfolding run rules taken act in_scope
button_ordinary = (record { closes = λ b number attrs children o os. (refl, refl, refl); ends = refl; unswitched = refl; unlisted = (refl, refl); passes = λ c m ms. refl }, tt)

pub button_no_heading : Each (λ name. is_among name headings ≡ false) (names_of AButton)
button_no_heading = (refl, tt)

pub formatting_opens : Each (OpensFormatting) (names_of AFormatting)
unfolding run rules taken act in_scope
formatting_opens = (
  λ attrs b h. (rw (h, act) refl, rw (h, act) refl, rw (h, act) refl),
  (
    λ attrs b h. (rw (h, act) refl, rw (h, act) refl, rw (h, act) refl),
    (
      λ attrs b h. (rw (h, act) refl, rw (h, act) refl, rw (h, act) refl),
      (
        λ attrs b h. (rw (h, act) refl, rw (h, act) refl, rw (h, act) refl),
        (
          λ attrs b h. (rw (h, act) refl, rw (h, act) refl, rw (h, act) refl),
          (
            λ attrs b h. (rw (h, act) refl, rw (h, act) refl, rw (h, act) refl),
            (
              λ attrs b h. (rw (h, act) refl, rw (h, act) refl, rw (h, act) refl),
              (
                λ attrs b h. (rw (h, act) refl, rw (h, act) refl, rw (h, act) refl),
                (λ attrs b h. (rw (h, act) refl, rw (h, act) refl, rw (h, act) refl), (λ attrs b h. (rw (h, act) refl, rw (h, act) refl, rw (h, act) refl), (λ attrs b h. (rw (h, act) refl, rw (h, act) refl, rw (h, act) refl), (λ attrs b h. (rw (h, act) refl, rw (h, act) refl, rw (h, act) refl), tt)))),
              ),
            ),
          ),
        ),
      ),
    ),
  ),
)

pub formatting_is : Each (Formatting) (names_of AFormatting)
unfolding run rules taken act in_scope
formatting_is = (
  record { closes = λ b c h. (rw h refl, rw h refl, rw h refl); ends = refl; unswitched = refl; listed = (refl, refl); passes = λ c m ms. refl },
  (
    record { closes = λ b c h. (rw h refl, rw h refl, rw h refl); ends = refl; unswitched = refl; listed = (refl, refl); passes = λ c m ms. refl },
    (
      record { closes = λ b c h. (rw h refl, rw h refl, rw h refl); ends = refl; unswitched = refl; listed = (refl, refl); passes = λ c m ms. refl },
      (
        record { closes = λ b c h. (rw h refl, rw h refl, rw h refl); ends = refl; unswitched = refl; listed = (refl, refl); passes = λ c m ms. refl },
        (
          record { closes = λ b c h. (rw h refl, rw h refl, rw h refl); ends = refl; unswitched = refl; listed = (refl, refl); passes = λ c m ms. refl },
          (
            record { closes = λ b c h. (rw h refl, rw h refl, rw h refl); ends = refl; unswitched = refl; listed = (refl, refl); passes = λ c m ms. refl },
            (
              record { closes = λ b c h. (rw h refl, rw h refl, rw h refl); ends = refl; unswitched = refl; listed = (refl, refl); passes = λ c m ms. refl },
              (
                record { closes = λ b c h. (rw h refl, rw h refl, rw h refl); ends = refl; unswitched = refl; listed = (refl, refl); passes = λ c m ms. refl },
                (
                  record { closes = λ b c h. (rw h refl, rw h refl, rw h refl); ends = refl; unswitched = refl; listed = (refl, refl); passes = λ c m ms. refl },
                  (
                    record { closes = λ b c h. (rw h refl, rw h refl, rw h refl); ends = refl; unswitched = refl; listed = (refl, refl); passes = λ c m ms. refl },
                    (
                      record { closes = λ b c h. (rw h refl, rw h refl, rw h refl); ends = refl; unswitched = refl; listed = (refl, refl); passes = λ c m ms. refl },
                      (record { closes = λ b c h. (rw h refl, rw h refl, rw h refl); ends = refl; unswitched = refl; listed = (refl, refl); passes = λ c m ms. refl }, tt),
                    ),
                  ),
                ),
              ),
            ),
          ),
        ),
      ),
    ),
  ),
)

pub formatting_no_heading : Each (λ name. is_among name headings ≡ false) (names_of AFormatting)
formatting_no_heading = (refl, (refl, (refl, (refl, (refl, (refl, (refl, (refl, (refl, (refl, (refl, (refl, tt))))))))))))

pub anchor_is : Each (Formatting) (names_of AnAnchor)
unfolding run rules taken act in_scope
anchor_is = (record { closes = λ b c h. (rw h refl, rw h refl, rw h refl); ends = refl; unswitched = refl; listed = (refl, refl); passes = λ c m ms. refl }, tt)

pub anchor_no_heading : Each (λ name. is_among name headings ≡ false) (names_of AnAnchor)
anchor_no_heading = (refl, tt)

pub formatting_barless : Each (Barless) (names_of AFormatting)
formatting_barless = (
  record { no_p = refl; no_a = refl; no_button = refl },
  (
    record { no_p = refl; no_a = refl; no_button = refl },
    (
      record { no_p = refl; no_a = refl; no_button = refl },
      (
        record { no_p = refl; no_a = refl; no_button = refl },
        (
          record { no_p = refl; no_a = refl; no_button = refl },
          (
            record { no_p = refl; no_a = refl; no_button = refl },
            (
              record { no_p = refl; no_a = refl; no_button = refl },
              (record { no_p = refl; no_a = refl; no_button = refl }, (record { no_p = refl; no_a = refl; no_button = refl }, (record { no_p = refl; no_a = refl; no_button = refl }, (record { no_p = refl; no_a = refl; no_button = refl }, (record { no_p = refl; no_a = refl; no_button = refl }, tt))))),
            ),
          ),
        ),
      ),
    ),
  ),
)

pub list_holds : Each (HoldsItems (names_of AnItem)) (names_of AList)
list_holds = (λ number attrs children os. refl, (λ number attrs children os. refl, (λ number attrs children os. refl, (λ number attrs children os. refl, tt))))

pub description_list_holds : Each (HoldsItems (names_of ADescription)) (names_of ADescriptionList)
description_list_holds = (λ number attrs children os. refl, tt)

pub void_is : Each (IsVoid) (names_of AVoid)
unfolding run rules taken act in_scope
void_is = (
  record { made = λ attrs b o os h. (rw (h, act) refl, rw (h, act) refl, rw (h, act) refl); ends = refl; unswitched = refl },
  (
    record { made = λ attrs b o os h. (rw (h, act) refl, rw (h, act) refl, rw (h, act) refl); ends = refl; unswitched = refl },
    (
      record { made = λ attrs b o os h. (rw (h, act) refl, rw (h, act) refl, rw (h, act) refl); ends = refl; unswitched = refl },
      (record { made = λ attrs b o os h. (rw (h, act) refl, rw (h, act) refl, rw (h, act) refl); ends = refl; unswitched = refl }, (record { made = λ attrs b o os h. (rw (h, act) refl, rw (h, act) refl, rw (h, act) refl); ends = refl; unswitched = refl }, tt)),
    ),
  ),
)

pub break_is : Each (IsBreak) (names_of ABreak)
unfolding run rules taken act in_scope
break_is = (record { made = λ attrs b o os h. (rw h refl, rw h refl, rw h refl); ends = refl; unswitched = refl }, tt)

pub source_is : Each (IsSource) (names_of ASource)
unfolding run rules taken act in_scope
source_is = (record { made = λ attrs b o os. (refl, refl, refl); ends = refl; unswitched = refl }, (record { made = λ attrs b o os. (refl, refl, refl); ends = refl; unswitched = refl }, tt))

pub raw_text_is : Each (IsRawText) (names_of ARawText)
unfolding run rules taken act in_scope
raw_text_is = (
  record { opens = λ attrs b. (refl, refl, refl); opens_in_head = λ attrs b. refl; closes = λ b number attrs children o os. refl; ends = refl },
  (record { opens = λ attrs b. (refl, refl, refl); opens_in_head = λ attrs b. refl; closes = λ b number attrs children o os. refl; ends = refl }, (record { opens = λ attrs b. (refl, refl, refl); opens_in_head = λ attrs b. refl; closes = λ b number attrs children o os. refl; ends = refl }, tt)),
)

pub metadata_is : Each (IsLeafIn InHead) (names_of AMetadata)
unfolding run rules taken act in_scope
metadata_is = (record { made = λ attrs b o os. refl; ends = refl; unswitched = refl }, (record { made = λ attrs b o os. refl; ends = refl; unswitched = refl }, (record { made = λ attrs b o os. refl; ends = refl; unswitched = refl }, tt)))

pub column_is : Each (IsLeafIn InColumnGroup) (names_of AColumn)
unfolding run rules taken act in_scope
column_is = (record { made = λ attrs b o os. refl; ends = refl; unswitched = refl }, tt)

pub caption_is : Each (IsMarkedPart InTable (codes "table") InCaption) (names_of ACaption)
unfolding run rules taken act in_scope
caption_is = (record { opens = λ b attrs bs n children o os. refl; closes = λ b attrs n children o os. refl; ends = refl; unswitched = refl; gives = λ c m ms. refl; marker = refl; unlisted = refl }, tt)

pub cell_is : Each (IsMarkedPart InRow (codes "tr") InCell) (names_of ACell)
unfolding run rules taken act in_scope
cell_is = (
  record { opens = λ b attrs bs n children o os. refl; closes = λ b attrs n children o os. refl; ends = refl; unswitched = refl; gives = λ c m ms. refl; marker = refl; unlisted = refl },
  (record { opens = λ b attrs bs n children o os. refl; closes = λ b attrs n children o os. refl; ends = refl; unswitched = refl; gives = λ c m ms. refl; marker = refl; unlisted = refl }, tt),
)

pub column_group_is : Each (IsPart InTable (codes "table") InColumnGroup) (names_of AColumnGroup)
unfolding run rules taken act in_scope
column_group_is = (record { opens = λ b attrs bs n children o os. refl; closes = λ b attrs n children o os. refl; ends = refl; unswitched = refl; unlisted = (refl, refl) }, tt)

pub row_group_is : Each (IsPart InTable (codes "table") InTableBody) (names_of ARowGroup)
unfolding run rules taken act in_scope
row_group_is = (
  record { opens = λ b attrs bs n children o os. refl; closes = λ b attrs n children o os. refl; ends = refl; unswitched = refl; unlisted = (refl, refl) },
  (
    record { opens = λ b attrs bs n children o os. refl; closes = λ b attrs n children o os. refl; ends = refl; unswitched = refl; unlisted = (refl, refl) },
    (record { opens = λ b attrs bs n children o os. refl; closes = λ b attrs n children o os. refl; ends = refl; unswitched = refl; unlisted = (refl, refl) }, tt),
  ),
)

pub row_is : Each (λ parent. IsPart InTableBody parent InRow (codes "tr")) (names_of ARowGroup)
unfolding run rules taken act in_scope
row_is = (
  record { opens = λ b attrs bs n children o os. refl; closes = λ b attrs n children o os. refl; ends = refl; unswitched = refl; unlisted = (refl, refl) },
  (
    record { opens = λ b attrs bs n children o os. refl; closes = λ b attrs n children o os. refl; ends = refl; unswitched = refl; unlisted = (refl, refl) },
    (record { opens = λ b attrs bs n children o os. refl; closes = λ b attrs n children o os. refl; ends = refl; unswitched = refl; unlisted = (refl, refl) }, tt),
  ),
)

pub table_is : Each (IsTable) (names_of ATable)
unfolding run rules taken act in_scope
table_is = (record { opens = λ attrs b h. (rw h refl, rw h refl, rw h refl); ends = refl; unswitched = refl; unlisted = (refl, refl); closes = λ b attrs n children o os mode h. ap (in_found_mode (with_stack b (grown o (codes "table") attrs children ∷ os))) h }, tt)

pub form_is : Each (IsForm) (names_of AForm)
form_is = (record { opens = form_opens; closes = form_closes; ends = refl; unswitched = refl; unlisted = (refl, refl); passes = λ c m ms. refl }, tt)

pub table_barless : Each (Barless) (names_of ATable)
table_barless = (record { no_p = refl; no_a = refl; no_button = refl }, tt)

pub caption_barless : Each (Barless) (names_of ACaption)
caption_barless = (record { no_p = refl; no_a = refl; no_button = refl }, tt)

pub column_group_barless : Each (Barless) (names_of AColumnGroup)
column_group_barless = (record { no_p = refl; no_a = refl; no_button = refl }, tt)

pub row_group_barless : Each (Barless) (names_of ARowGroup)
row_group_barless = (record { no_p = refl; no_a = refl; no_button = refl }, (record { no_p = refl; no_a = refl; no_button = refl }, (record { no_p = refl; no_a = refl; no_button = refl }, tt)))

pub row_barless : Each (Barless) (names_of ARow)
row_barless = (record { no_p = refl; no_a = refl; no_button = refl }, tt)

pub cell_barless : Each (Barless) (names_of ACell)
cell_barless = (record { no_p = refl; no_a = refl; no_button = refl }, (record { no_p = refl; no_a = refl; no_button = refl }, tt))

pub form_barless : Each (Barless) (names_of AForm)
form_barless = (record { no_p = refl; no_a = refl; no_button = refl }, tt)

pub caption_no_heading : Each (λ name. is_among name headings ≡ false) (names_of ACaption)
caption_no_heading = (refl, tt)

pub cell_no_heading : Each (λ name. is_among name headings ≡ false) (names_of ACell)
cell_no_heading = (refl, (refl, tt))

pub form_no_heading : Each (λ name. is_among name headings ≡ false) (names_of AForm)
form_no_heading = (refl, tt)

pub table_space : Each (KeepsSpace InTable) (names_of ATable)
unfolding run rules taken act in_scope
table_space = (λ b n attrs children os c h. each_space (λ c. RunsIn InTable (AChar c) (with_stack b (open_of n (codes "table") attrs children ∷ os)) (with_stack b (with_one (open_of n (codes "table") attrs children) c ∷ os))) refl refl refl refl refl c h, tt)

pub column_group_space : Each (KeepsSpace InColumnGroup) (names_of AColumnGroup)
unfolding run rules taken act in_scope
column_group_space = (λ b n attrs children os c h. each_space (λ c. RunsIn InColumnGroup (AChar c) (with_stack b (open_of n (codes "colgroup") attrs children ∷ os)) (with_stack b (with_one (open_of n (codes "colgroup") attrs children) c ∷ os))) refl refl refl refl refl c h, tt)

pub row_group_space : Each (KeepsSpace InTableBody) (names_of ARowGroup)
unfolding run rules taken act in_scope
row_group_space = (
  λ b n attrs children os c h. each_space (λ c. RunsIn InTableBody (AChar c) (with_stack b (open_of n (codes "tbody") attrs children ∷ os)) (with_stack b (with_one (open_of n (codes "tbody") attrs children) c ∷ os))) refl refl refl refl refl c h,
  (
    λ b n attrs children os c h. each_space (λ c. RunsIn InTableBody (AChar c) (with_stack b (open_of n (codes "tfoot") attrs children ∷ os)) (with_stack b (with_one (open_of n (codes "tfoot") attrs children) c ∷ os))) refl refl refl refl refl c h,
    (λ b n attrs children os c h. each_space (λ c. RunsIn InTableBody (AChar c) (with_stack b (open_of n (codes "thead") attrs children ∷ os)) (with_stack b (with_one (open_of n (codes "thead") attrs children) c ∷ os))) refl refl refl refl refl c h, tt),
  ),
)

pub row_space : Each (KeepsSpace InRow) (names_of ARow)
unfolding run rules taken act in_scope
row_space = (λ b n attrs children os c h. each_space (λ c. RunsIn InRow (AChar c) (with_stack b (open_of n (codes "tr") attrs children ∷ os)) (with_stack b (with_one (open_of n (codes "tr") attrs children) c ∷ os))) refl refl refl refl refl c h, tt)
