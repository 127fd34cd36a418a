use Rattle.lq_tests.proofs.history.Asked.assert_told.Given as goal

-- the ledger is that of the blank
abbrev pub ghosts-told : goal.ghosts-told
ghosts-told g a = record { name = a.blank.name; parts = a.blank.parts }
