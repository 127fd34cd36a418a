-- The queries of a workload. Each keeps the connection, and ends at an empty line.
use Rattle.std.specs.Prelude.{ℕ, ◌+◌, ◌*◌, List, [], ◌∷◌, ◌++◌, codes}
use Rattle.std.specs.Fmt.{decimal}
use Rattle.std.specs.List.{concat}
use Rattle.lq_workload.specs.Draws.{after_draws, drawn_after}
use Rattle.lq_workload.specs.Objects.{contact_name, host_name}
use Rattle.lq_workload.specs.Texts.{texts_below}

unfoldable pub services_query : List ℕ
services_query =
    concat (codes "GET services\n" ∷ codes "Columns: state\n" ∷ codes "Stats: state >= 0\n"
    ∷ codes "KeepAlive: on\n" ∷ codes "\n" ∷ [])

unfoldable pub hosts_query : ℕ → List ℕ
hosts_query contact =
    concat (codes "GET hosts\n" ∷ codes "Columns: name num_services_crit\n"
    ∷ codes "AuthUser: " ∷ contact_name contact ∷ codes "\n"
    ∷ codes "KeepAlive: on\n" ∷ codes "\n" ∷ [])

unfoldable pub log_query : ℕ → List ℕ
log_query second =
    concat (codes "GET log\n" ∷ codes "Columns: time message\n"
    ∷ codes "Filter: time >= " ∷ decimal second ∷ codes "\n" ∷ codes "Limit: 10\n"
    ∷ codes "KeepAlive: on\n" ∷ codes "\n" ∷ [])

unfoldable pub history_query : ℕ → List ℕ
history_query host =
    concat (codes "GET statehist\n" ∷ codes "Columns: state\n" ∷ codes "Stats: sum duration\n"
    ∷ codes "Filter: time >= 1000\n" ∷ codes "Filter: host_name = " ∷ host_name host ∷ codes "\n"
    ∷ codes "KeepAlive: on\n" ∷ codes "\n" ∷ [])

-- one query of each kind; all but the first draw what they ask for
abbrev pub four_queries : ℕ → List ℕ
four_queries number =
    services_query ++ hosts_query (drawn_after 0 5 number)
    ++ log_query (1000 + drawn_after 1 30000 number) ++ history_query (drawn_after 2 100 number)

-- 20 queries, the four kinds in turn
abbrev pub queries_text : ℕ → List ℕ
queries_text number = texts_below 5 (λ turn. four_queries (after_draws (turn * 3) number))
