-- The object file of a workload.
use Rattle.std.specs.Prelude.{ℕ, ◌+◌, ◌*◌, List, [], ◌∷◌, ◌++◌, codes}
use Rattle.std.specs.Fmt.{decimal}
use Rattle.std.specs.List.{concat}
use Rattle.lq_workload.specs.Draws.{after_draws, drawn_after}
use Rattle.lq_workload.specs.Texts.{texts_below}

-- ---- names

abbrev pub contact_name : ℕ → List ℕ
contact_name contact = codes "c" ++ decimal contact

abbrev pub host_name : ℕ → List ℕ
host_name host = codes "h" ++ decimal host

abbrev pub service_description : ℕ → List ℕ
service_description service = codes "s" ++ decimal service

abbrev pub group_name : ℕ → List ℕ
group_name group = codes "g" ++ decimal group

-- ---- blocks

-- the pieces of a directive's line
abbrev pub directive_line : List ℕ → List ℕ → List (List ℕ)
directive_line name value = name ∷ codes " " ∷ value ∷ codes "\n" ∷ []

-- a block with the pieces of its directives
abbrev pub block : List ℕ → List (List ℕ) → List ℕ
block kind directives =
    concat (codes "define " ∷ kind ∷ codes " {\n" ∷ directives ++ codes "}\n" ∷ [])

unfoldable pub contact_block : ℕ → List ℕ
contact_block contact =
    block (codes "contact") (directive_line (codes "contact_name") (contact_name contact))

-- a host with its one contact
unfoldable pub host_block : ℕ → ℕ → List ℕ
host_block host contact =
    block (codes "host")
    (directive_line (codes "host_name") (host_name host)
    ++ directive_line (codes "alias") (codes "Host " ++ decimal host)
    ++ directive_line (codes "address") (codes "10.0.0." ++ decimal host)
    ++ directive_line (codes "contacts") (contact_name contact))

-- a service of a host, with the most attempts of its checks and its one contact
unfoldable pub service_block : ℕ → ℕ → ℕ → ℕ → List ℕ
service_block host service attempts contact =
    block (codes "service")
    (directive_line (codes "host_name") (host_name host)
    ++ directive_line (codes "service_description") (service_description service)
    ++ directive_line (codes "max_check_attempts") (decimal attempts)
    ++ directive_line (codes "contacts") (contact_name contact))

-- the hosts from 10 to 99 whose last digit is the group's number
abbrev pub further_members : ℕ → List ℕ
further_members group = texts_below 9 (λ tens. codes "," ++ host_name ((tens + 1) * 10 + group))

-- the hosts whose last digit is the group's number
abbrev pub members : ℕ → List ℕ
members group = host_name group ++ further_members group

unfoldable pub group_block : ℕ → List ℕ
group_block group =
    block (codes "hostgroup")
    (directive_line (codes "hostgroup_name") (group_name group)
    ++ directive_line (codes "members") (members group))

-- ---- the whole

abbrev pub contacts_text : List ℕ
contacts_text = texts_below 5 contact_block

-- each of the 100 hosts draws its contact
abbrev pub hosts_text : ℕ → List ℕ
hosts_text number = texts_below 100 (λ host. host_block host (drawn_after host 5 number))

-- a service draws the most attempts and then its contact
abbrev pub drawn_service : ℕ → ℕ → ℕ → List ℕ
drawn_service host service number =
    service_block host service (drawn_after 0 3 number + 1) (drawn_after 1 5 number)

-- the ten services of a host
abbrev pub host_services : ℕ → ℕ → List ℕ
host_services host number =
    texts_below 10 (λ service. drawn_service host service (after_draws (service * 2) number))

abbrev pub services_text : ℕ → List ℕ
services_text number =
    texts_below 100 (λ host. host_services host (after_draws (host * 20) number))

abbrev pub groups_text : List ℕ
groups_text = texts_below 10 group_block

-- The object file. The hosts draw 100 times before the services draw 2,000 times.
unfoldable pub objects_text : ℕ → List ℕ
objects_text number =
    contacts_text ++ hosts_text number ++ services_text (after_draws 100 number) ++ groups_text
