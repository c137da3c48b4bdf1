-- That the examples are read so, by computing. Made from tests/standard/texts.jsonl by tests/standard/definitions.py.
use Rattle.std.specs.Prelude.{refl}
use Rattle.standard_tokens.specs.Examples.{example0, example1, example2, example3, example4, example5, example6, example7, example8, example9, example10, example11, example12, example13, example14, example15, example16, example17, example18, example19, example20, example21, example22, example23}
use Rattle.standard_tokens.specs.Examples.{example24, example25, example26, example27, example28, example29, example30, example31, example32, example33, example34, example35, example36, example37, example38, example39, example40, example41, example42, example43, example44, example45, example46}
use Rattle.standard_tokens.specs.Examples.{example47, example48, example49, example50, example51, example52, example53, example54, example55, example56, example57, example58, example59, example60, example61, example62, example63, example64, example65, example66, example67, example68, example69}
use Rattle.standard_tokens.specs.Examples.{example70, example71, example72, example73, example74, example75, example76, example77, example78, example79, example80, example81}
use Rattle.standard_tokens.specs.Laws.{ExamplesAreRead, IsExampleRead}
use Rattle.standard_tokens.specs.Machine.{longest_name, value_of}
use Rattle.standard_tokens.specs.Reading.{run}
use Rattle.standard_tokens.proofs.Running.{by_running}

read0 : IsExampleRead example0
unfolding run longest_name value_of
read0 = by_running 300 example0 refl

read1 : IsExampleRead example1
unfolding run longest_name value_of
read1 = by_running 300 example1 refl

read2 : IsExampleRead example2
unfolding run longest_name value_of
read2 = by_running 300 example2 refl

read3 : IsExampleRead example3
unfolding run longest_name value_of
read3 = by_running 300 example3 refl

read4 : IsExampleRead example4
unfolding run longest_name value_of
read4 = by_running 300 example4 refl

read5 : IsExampleRead example5
unfolding run longest_name value_of
read5 = by_running 300 example5 refl

read6 : IsExampleRead example6
unfolding run longest_name value_of
read6 = by_running 300 example6 refl

read7 : IsExampleRead example7
unfolding run longest_name value_of
read7 = by_running 300 example7 refl

read8 : IsExampleRead example8
unfolding run longest_name value_of
read8 = by_running 300 example8 refl

read9 : IsExampleRead example9
unfolding run longest_name value_of
read9 = by_running 300 example9 refl

read10 : IsExampleRead example10
unfolding run longest_name value_of
read10 = by_running 300 example10 refl

read11 : IsExampleRead example11
unfolding run longest_name value_of
read11 = by_running 300 example11 refl

read12 : IsExampleRead example12
unfolding run longest_name value_of
read12 = by_running 300 example12 refl

read13 : IsExampleRead example13
unfolding run longest_name value_of
read13 = by_running 300 example13 refl

read14 : IsExampleRead example14
unfolding run longest_name value_of
read14 = by_running 300 example14 refl

read15 : IsExampleRead example15
unfolding run longest_name value_of
read15 = by_running 300 example15 refl

read16 : IsExampleRead example16
unfolding run longest_name value_of
read16 = by_running 300 example16 refl

read17 : IsExampleRead example17
unfolding run longest_name value_of
read17 = by_running 300 example17 refl

read18 : IsExampleRead example18
unfolding run longest_name value_of
read18 = by_running 300 example18 refl

read19 : IsExampleRead example19
unfolding run longest_name value_of
read19 = by_running 300 example19 refl

read20 : IsExampleRead example20
unfolding run longest_name value_of
read20 = by_running 300 example20 refl

read21 : IsExampleRead example21
unfolding run longest_name value_of
read21 = by_running 300 example21 refl

read22 : IsExampleRead example22
unfolding run longest_name value_of
read22 = by_running 300 example22 refl

read23 : IsExampleRead example23
unfolding run longest_name value_of
read23 = by_running 300 example23 refl

read24 : IsExampleRead example24
unfolding run longest_name value_of
read24 = by_running 300 example24 refl

read25 : IsExampleRead example25
unfolding run longest_name value_of
read25 = by_running 300 example25 refl

read26 : IsExampleRead example26
unfolding run longest_name value_of
read26 = by_running 300 example26 refl

read27 : IsExampleRead example27
unfolding run longest_name value_of
read27 = by_running 300 example27 refl

read28 : IsExampleRead example28
unfolding run longest_name value_of
read28 = by_running 300 example28 refl

read29 : IsExampleRead example29
unfolding run longest_name value_of
read29 = by_running 300 example29 refl

read30 : IsExampleRead example30
unfolding run longest_name value_of
read30 = by_running 300 example30 refl

read31 : IsExampleRead example31
unfolding run longest_name value_of
read31 = by_running 300 example31 refl

read32 : IsExampleRead example32
unfolding run longest_name value_of
read32 = by_running 300 example32 refl

read33 : IsExampleRead example33
unfolding run longest_name value_of
read33 = by_running 300 example33 refl

read34 : IsExampleRead example34
unfolding run longest_name value_of
read34 = by_running 300 example34 refl

read35 : IsExampleRead example35
unfolding run longest_name value_of
read35 = by_running 300 example35 refl

read36 : IsExampleRead example36
unfolding run longest_name value_of
read36 = by_running 300 example36 refl

read37 : IsExampleRead example37
unfolding run longest_name value_of
read37 = by_running 300 example37 refl

read38 : IsExampleRead example38
unfolding run longest_name value_of
read38 = by_running 300 example38 refl

read39 : IsExampleRead example39
unfolding run longest_name value_of
read39 = by_running 300 example39 refl

read40 : IsExampleRead example40
unfolding run longest_name value_of
read40 = by_running 300 example40 refl

read41 : IsExampleRead example41
unfolding run longest_name value_of
read41 = by_running 300 example41 refl

read42 : IsExampleRead example42
unfolding run longest_name value_of
read42 = by_running 300 example42 refl

read43 : IsExampleRead example43
unfolding run longest_name value_of
read43 = by_running 300 example43 refl

read44 : IsExampleRead example44
unfolding run longest_name value_of
read44 = by_running 300 example44 refl

read45 : IsExampleRead example45
unfolding run longest_name value_of
read45 = by_running 300 example45 refl

read46 : IsExampleRead example46
unfolding run longest_name value_of
read46 = by_running 300 example46 refl

read47 : IsExampleRead example47
unfolding run longest_name value_of
read47 = by_running 300 example47 refl

read48 : IsExampleRead example48
unfolding run longest_name value_of
read48 = by_running 300 example48 refl

read49 : IsExampleRead example49
unfolding run longest_name value_of
read49 = by_running 300 example49 refl

read50 : IsExampleRead example50
unfolding run longest_name value_of
read50 = by_running 300 example50 refl

read51 : IsExampleRead example51
unfolding run longest_name value_of
read51 = by_running 300 example51 refl

read52 : IsExampleRead example52
unfolding run longest_name value_of
read52 = by_running 300 example52 refl

read53 : IsExampleRead example53
unfolding run longest_name value_of
read53 = by_running 300 example53 refl

read54 : IsExampleRead example54
unfolding run longest_name value_of
read54 = by_running 300 example54 refl

read55 : IsExampleRead example55
unfolding run longest_name value_of
read55 = by_running 300 example55 refl

read56 : IsExampleRead example56
unfolding run longest_name value_of
read56 = by_running 300 example56 refl

read57 : IsExampleRead example57
unfolding run longest_name value_of
read57 = by_running 300 example57 refl

read58 : IsExampleRead example58
unfolding run longest_name value_of
read58 = by_running 300 example58 refl

read59 : IsExampleRead example59
unfolding run longest_name value_of
read59 = by_running 300 example59 refl

read60 : IsExampleRead example60
unfolding run longest_name value_of
read60 = by_running 300 example60 refl

read61 : IsExampleRead example61
unfolding run longest_name value_of
read61 = by_running 300 example61 refl

read62 : IsExampleRead example62
unfolding run longest_name value_of
read62 = by_running 300 example62 refl

read63 : IsExampleRead example63
unfolding run longest_name value_of
read63 = by_running 300 example63 refl

read64 : IsExampleRead example64
unfolding run longest_name value_of
read64 = by_running 300 example64 refl

read65 : IsExampleRead example65
unfolding run longest_name value_of
read65 = by_running 300 example65 refl

read66 : IsExampleRead example66
unfolding run longest_name value_of
read66 = by_running 300 example66 refl

read67 : IsExampleRead example67
unfolding run longest_name value_of
read67 = by_running 300 example67 refl

read68 : IsExampleRead example68
unfolding run longest_name value_of
read68 = by_running 300 example68 refl

read69 : IsExampleRead example69
unfolding run longest_name value_of
read69 = by_running 300 example69 refl

read70 : IsExampleRead example70
unfolding run longest_name value_of
read70 = by_running 300 example70 refl

read71 : IsExampleRead example71
unfolding run longest_name value_of
read71 = by_running 300 example71 refl

read72 : IsExampleRead example72
unfolding run longest_name value_of
read72 = by_running 300 example72 refl

read73 : IsExampleRead example73
unfolding run longest_name value_of
read73 = by_running 300 example73 refl

read74 : IsExampleRead example74
unfolding run longest_name value_of
read74 = by_running 300 example74 refl

read75 : IsExampleRead example75
unfolding run longest_name value_of
read75 = by_running 300 example75 refl

read76 : IsExampleRead example76
unfolding run longest_name value_of
read76 = by_running 300 example76 refl

read77 : IsExampleRead example77
unfolding run longest_name value_of
read77 = by_running 300 example77 refl

read78 : IsExampleRead example78
unfolding run longest_name value_of
read78 = by_running 300 example78 refl

read79 : IsExampleRead example79
unfolding run longest_name value_of
read79 = by_running 300 example79 refl

read80 : IsExampleRead example80
unfolding run longest_name value_of
read80 = by_running 300 example80 refl

read81 : IsExampleRead example81
unfolding run longest_name value_of
read81 = by_running 300 example81 refl

pub all_read : ExamplesAreRead
all_read = (
  read0,
  (
    read1,
    (
      read2,
      (
        read3,
        (
          read4,
          (
            read5,
            (
              read6,
              (
                read7,
                (
                  read8,
                  (
                    read9,
                    (
                      read10,
                      (
                        read11,
                        (
                          read12,
                          (
                            read13,
                            (
                              read14,
                              (
                                read15,
                                (
                                  read16,
                                  (
                                    read17,
                                    (
                                      read18,
                                      (
                                        read19,
                                        (
                                          read20,
                                          (
                                            read21,
                                            (
                                              read22,
                                              (
                                                read23,
                                                (
                                                  read24,
                                                  (
                                                    read25,
                                                    (
                                                      read26,
                                                      (
                                                        read27,
                                                        (
                                                          read28,
                                                          (
                                                            read29,
                                                            (
                                                              read30,
                                                              (
                                                                read31,
                                                                (
                                                                  read32,
                                                                  (
                                                                    read33,
                                                                    (
                                                                      read34,
                                                                      (
                                                                        read35,
                                                                        (
                                                                          read36,
                                                                          (
                                                                            read37,
                                                                            (
                                                                              read38,
                                                                              (
                                                                                read39,
                                                                                (
                                                                                  read40,
                                                                                  (
                                                                                    read41,
                                                                                    (
                                                                                      read42,
                                                                                      (
                                                                                        read43,
                                                                                        (
                                                                                          read44,
                                                                                          (
                                                                                            read45,
                                                                                            (
                                                                                              read46,
                                                                                              (
                                                                                                read47,
                                                                                                (
                                                                                                  read48,
                                                                                                  (
                                                                                                    read49,
                                                                                                    (
                                                                                                      read50,
                                                                                                      (
                                                                                                        read51,
                                                                                                        (
                                                                                                          read52,
                                                                                                          (
                                                                                                            read53,
                                                                                                            (
                                                                                                              read54,
                                                                                                              (
                                                                                                                read55,
                                                                                                                (
                                                                                                                  read56,
                                                                                                                  (
                                                                                                                    read57,
                                                                                                                    (
                                                                                                                      read58,
                                                                                                                      (read59, (read60, (read61, (read62, (read63, (read64, (read65, (read66, (read67, (read68, (read69, (read70, (read71, (read72, (read73, (read74, (read75, (read76, (read77, (read78, (read79, (read80, (read81, tt))))))))))))))))))))))),
                                                                                                                    ),
                                                                                                                  ),
                                                                                                                ),
                                                                                                              ),
                                                                                                            ),
                                                                                                          ),
                                                                                                        ),
                                                                                                      ),
                                                                                                    ),
                                                                                                  ),
                                                                                                ),
                                                                                              ),
                                                                                            ),
                                                                                          ),
                                                                                        ),
                                                                                      ),
                                                                                    ),
                                                                                  ),
                                                                                ),
                                                                              ),
                                                                            ),
                                                                          ),
                                                                        ),
                                                                      ),
                                                                    ),
                                                                  ),
                                                                ),
                                                              ),
                                                            ),
                                                          ),
                                                        ),
                                                      ),
                                                    ),
                                                  ),
                                                ),
                                              ),
                                            ),
                                          ),
                                        ),
                                      ),
                                    ),
                                  ),
                                ),
                              ),
                            ),
                          ),
                        ),
                      ),
                    ),
                  ),
                ),
              ),
            ),
          ),
        ),
      ),
    ),
  ),
)
