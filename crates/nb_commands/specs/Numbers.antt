-- The program's numbers, written out. Each has a name in the code, by which the other definitions speak of it.
use Rattle.std.specs.Prelude.{◌≡◌, [], ◌∷◌}
use Rattle.nb_commands.specs.declared.ending.TheConstants.{CLEAN, BAD_WORDS, SOURCE_FAILED, SINK_FAILED, BAD_INPUT, OUT_OF_MEMORY, DISK_FAILED, NO_JOURNAL, NOT_MADE, UNPAID, FRAME_LIMIT, LINK_FAILED, PORT_FAILED, JOURNAL_FULL, NO_ACCOUNT, NO_PLACE}

-- the statuses: clean, words, source, sink, input, memory, disk, journal, not made, unpaid, frame limit, link, port, full, account, place
abbrev pub StatusesAre : Type 0
StatusesAre =
    CLEAN ∷ BAD_WORDS ∷ SOURCE_FAILED ∷ SINK_FAILED ∷ BAD_INPUT ∷ OUT_OF_MEMORY ∷ DISK_FAILED ∷ NO_JOURNAL ∷ NOT_MADE ∷ UNPAID ∷ FRAME_LIMIT ∷ LINK_FAILED ∷ PORT_FAILED ∷ JOURNAL_FULL ∷ NO_ACCOUNT ∷ NO_PLACE ∷ []
    ≡ 0 ∷ 2 ∷ 3 ∷ 4 ∷ 5 ∷ 6 ∷ 7 ∷ 8 ∷ 9 ∷ 10 ∷ 11 ∷ 12 ∷ 13 ∷ 14 ∷ 15 ∷ 16 ∷ []
