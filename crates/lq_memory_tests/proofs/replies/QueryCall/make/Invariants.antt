use Rattle.lq_memory_tests.proofs.replies.QueryCall.make.Given as goal

-- the ledger is that of the blank
abbrev pub ghosts-row_count : goal.ghosts-row_count
ghosts-row_count a = record { name = a.blank.name; parts = a.blank.parts }
