use Rattle.lq_query.proofs.reply.seen_reply.Given as goal

-- the ledger is that of the blank
abbrev pub ghosts-seen_rows : goal.ghosts-seen_rows
ghosts-seen_rows a = record { name = a.blank.name; parts = a.blank.parts }
