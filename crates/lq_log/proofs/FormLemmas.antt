-- What the text of a form says, where it says the form's own fields.
use Rattle.std.proofs.Common.{◌≡◌, ℕ, ℤ, pos, ◌+◌, ◌<◌, ◌≤◌, ◌==◌, ◌&&◌, Bool, true, false, not, Some, List, [], ◌∷◌, ◌++◌, length, take, drop, refl, sym, ap, ◌∙◌, arith, append_assoc, codes, decimal, unwrap_or, if◌then◌else◌, nat_lt}
use Rattle.std.proofs.lemmas.Bool.{and_parts, and_from, le-leb, lt-ltb, true≢false}
use Rattle.std.proofs.lemmas.Bool.Decides.{Decides-int_eq, nat_tests}
use Rattle.std.proofs.lemmas.Fmt.{decimal_nonempty, length-decimal-le}
use Rattle.std.proofs.lemmas.List.Folds.{list_any-append}
use Rattle.std.proofs.Math.Seq.{drop-append-add, take-append_seam}
use Rattle.std.specs.Char.{is_ascii_digit}
use Rattle.std.specs.List.{list_all, position_or_len, before_first, after_first}
use Rattle.std.specs.Ordering.{int_eq}
use Rattle.lq_text.specs.Numbers.{number_of}
use Rattle.lq_events.specs.declared.log_entry.Kind.{Kind}
use Rattle.lq_events.specs.declared.log_entry.Kind.TheVariants as kind
use Rattle.lq_events.specs.declared.log_entry.LogEntry.{LogEntry}
use Rattle.lq_log.specs.Entries.{blank, entry_of_text, parts_at_colon}
use Rattle.lq_log.specs.Fields.{entry_where, has_semicolon, host_states, is_attempt, is_separator, name_of_state, service_states, with_field, with_fields}
use Rattle.lq_log.specs.Said.{kind_of_alert, downtime_comment, kind_of_downtime, downtime_word, is_plain_result, says_own_fields}
use Rattle.lq_log.specs.Written.{downtime_fields, form_text, has_no_service, next_field, object_text, state_word, states_of, type_word}
use Rattle.lq_log.specs.declared.field.Field.{Field}
use Rattle.lq_log.specs.declared.field.Field.TheVariants as field
use Rattle.lq_log.specs.declared.written.DowntimeChange.{DowntimeChange}
use Rattle.lq_log.specs.declared.written.DowntimeChange.TheVariants as change
use Rattle.lq_log.specs.declared.written.Form.TheVariants as form
use Rattle.lq_log.proofs.ReadLemmas.{said_by_form}
use Rattle.lq_log.proofs.StampLemmas.{Says, decimal_says}

pub external_says : (text : List ℕ) → blank 5 kind.ExternalCommand ≡ entry_of_text (form_text (form.External text))
unfolding form_text parts_at_colon
external_says text = said_by_form _ _ refl

-- ---- a field, and those after it

place_step : (byte : ℕ) (front rest : List ℕ) (test : Bool) → is_separator byte ≡ test → has_semicolon (byte ∷ front) ≡ false
    → (has_semicolon front ≡ false → position_or_len is_separator (front ++ next_field rest) ≡ length front)
    → position_or_len is_separator (byte ∷ front ++ next_field rest) ≡ length (byte ∷ front)
place_step byte front rest true is lacks later = absurd (true≢false (rw is at lacks))
place_step byte front rest false is lacks later = rw is (omega (arith, later (rw is at lacks)))

-- the first `;` stands after the field
separator_place : (front rest : List ℕ) → has_semicolon front ≡ false → position_or_len is_separator (front ++ next_field rest) ≡ length front
separator_place [] rest lacks = refl
separator_place (byte ∷ front) rest lacks = place_step byte front rest (is_separator byte) refl lacks (separator_place front rest)

has_separator : (front rest : List ℕ) → has_semicolon front ≡ false → has_semicolon (front ++ next_field rest) ≡ true
has_separator front rest lacks = list_any-append is_separator front (next_field rest) ∙ rw lacks refl

front_of : (front rest : List ℕ) → has_semicolon front ≡ false → before_first is_separator (front ++ next_field rest) ≡ front
front_of front rest lacks =
    ap (λ place. take place (front ++ next_field rest)) (separator_place front rest lacks) ∙ take-append_seam front (next_field rest)

rest_of : (front rest : List ℕ) → has_semicolon front ≡ false → after_first is_separator (front ++ next_field rest) ≡ rest
rest_of front rest lacks =
    ap (λ place. drop (place + 1) (front ++ next_field rest)) (separator_place front rest lacks) ∙ drop-append-add front (next_field rest) 1

field_then : (field next : Field) (fields : List Field) (front rest : List ℕ) (entry filled : LogEntry) → has_semicolon front ≡ false
    → with_field entry field front ≡ Some filled → with_fields (field ∷ next ∷ fields) (front ++ next_field rest) entry ≡ with_fields (next ∷ fields) rest filled
field_then field next fields front rest entry filled lacks is =
    rw (has_separator front rest lacks, front_of front rest lacks, rest_of front rest lacks, is) refl

-- ---- hosts and services

has_service : (byte : ℕ) (service : List ℕ) → has_no_service (byte ∷ service) ≡ false
has_service byte service = grind (arith, nat_tests)

-- one of a host's value and a service's
of_service : {A : Type 0} (byte : ℕ) (more : List ℕ) (host service : A) → (if has_no_service (byte ∷ more) then host else service) ≡ service
of_service byte more host service = ap (λ test. if test then host else service) (has_service byte more)

service_object : (host : List ℕ) (byte : ℕ) (more rest : List ℕ)
    → object_text host (byte ∷ more) ++ next_field rest ≡ host ++ next_field ((byte ∷ more) ++ next_field rest)
unfolding object_text
service_object host byte more rest =
    ap (λ object. object ++ next_field rest) (of_service byte more host (host ++ codes ";" ++ byte ∷ more))
    ∙ append_assoc (host ++ codes ";") (byte ∷ more) (next_field rest)
    ∙ append_assoc host (codes ";") ((byte ∷ more) ++ next_field rest)

service_then : (next : Field) (fields : List Field) (host service rest : List ℕ) (entry : LogEntry) → has_semicolon host ≡ false → has_semicolon service ≡ false
    → with_fields (field.HostName ∷ field.ServiceDescription ∷ next ∷ fields) (host ++ next_field (service ++ next_field rest)) entry
    ≡ with_fields (next ∷ fields) rest (record entry { host = host; service = service })
service_then next fields host service rest entry plain plain_service =
    field_then field.HostName field.ServiceDescription (next ∷ fields) host (service ++ next_field rest) entry (record entry { host = host }) plain refl
    ∙ field_then field.ServiceDescription next fields service rest (record entry { host = host }) (record entry { host = host; service = service }) plain_service refl

not_true : (test : Bool) → not test ≡ true → test ≡ false
not_true false is = refl
not_true true is = absurd (true≢false (sym is))

record Plain (host service : List ℕ) : Type 0 where
  of_host : has_semicolon host ≡ false
  of_service : has_semicolon service ≡ false

plain : (host service : List ℕ) → (not (has_semicolon host) && not (has_semicolon service)) ≡ true → Plain host service
plain host service is =
    let parts = and_parts (not (has_semicolon host)) (not (has_semicolon service)) is in
    record { of_host = not_true (has_semicolon host) parts.0; of_service = not_true (has_semicolon service) parts.1 }

-- ---- downtimes

-- the entry of a host or a service, with what happens to its downtime
downtime_entry : LogEntry → DowntimeChange → List ℕ → LogEntry
downtime_entry entry change comment = record entry { word = downtime_word change; comment = comment }

change_says : (change : DowntimeChange) (comment : List ℕ) (entry : LogEntry)
    → with_fields (field.DowntimeWord ∷ field.Comment ∷ []) (downtime_word change ++ next_field comment) entry ≡ Some (downtime_entry entry change comment)
unfolding downtime_entry
change_says change.Started comment entry = field_then field.DowntimeWord field.Comment [] (codes "STARTED") comment entry _ refl refl
change_says change.Stopped comment entry = field_then field.DowntimeWord field.Comment [] (codes "STOPPED") comment entry _ refl refl
change_says change.Cancelled comment entry = field_then field.DowntimeWord field.Comment [] (codes "CANCELLED") comment entry _ refl refl

-- both fields of a change in a text
change_text : List ℕ → DowntimeChange → List ℕ
change_text service change = downtime_word change ++ next_field (downtime_comment service change)

parted_change : (service : List ℕ) (change : DowntimeChange) → downtime_fields service change ≡ change_text service change
unfolding change_text
parted_change [] change.Started = refl
parted_change [] change.Stopped = refl
parted_change [] change.Cancelled = refl
parted_change (byte ∷ service) change.Started = rw (has_service byte service) refl
parted_change (byte ∷ service) change.Stopped = rw (has_service byte service) refl
parted_change (byte ∷ service) change.Cancelled = rw (has_service byte service) refl

-- an entry of a host or a service that says nothing more
object_entry : Kind → List ℕ → List ℕ → LogEntry
object_entry kind host service = record (blank 1 kind) { host = host; service = service }

host_downtime_says : (host : List ℕ) (change : DowntimeChange) → has_semicolon host ≡ false
    → downtime_entry (object_entry kind.HostDowntimeAlert host []) change (downtime_comment [] change)
    ≡ entry_of_text (codes "HOST DOWNTIME ALERT: " ++ host ++ next_field (change_text [] change))
unfolding parts_at_colon object_entry change_text
host_downtime_says host change plain_host =
    said_by_form _ _ (sym (
    field_then field.HostName field.DowntimeWord (field.Comment ∷ []) host (change_text [] change) (blank 1 kind.HostDowntimeAlert) (object_entry kind.HostDowntimeAlert host []) plain_host refl
    ∙ change_says change (downtime_comment [] change) (object_entry kind.HostDowntimeAlert host [])))

service_downtime_says : (host service : List ℕ) (change : DowntimeChange) → Plain host service
    → downtime_entry (object_entry kind.ServiceDowntimeAlert host service) change (downtime_comment service change)
    ≡ entry_of_text (codes "SERVICE DOWNTIME ALERT: " ++ host ++ next_field (service ++ next_field (change_text service change)))
unfolding parts_at_colon object_entry change_text
service_downtime_says host service change of =
    said_by_form _ _ (sym (
    service_then field.DowntimeWord (field.Comment ∷ []) host service (change_text service change) (blank 1 kind.ServiceDowntimeAlert) of.of_host of.of_service
    ∙ change_says change (downtime_comment service change) (object_entry kind.ServiceDowntimeAlert host service)))

downtime_says : (host service : List ℕ) (change : DowntimeChange) → Plain host service
    → downtime_entry (object_entry (kind_of_downtime service) host service) change (downtime_comment service change)
    ≡ entry_of_text (form_text (form.Downtime host service change))
unfolding form_text object_text
downtime_says host [] change of =
    host_downtime_says host change of.of_host
    ∙ ap (λ fields. entry_of_text (codes "HOST DOWNTIME ALERT: " ++ host ++ next_field fields)) (sym (parted_change [] change))
downtime_says host (byte ∷ more) change of =
    let service : List ℕ = byte ∷ more in
    ap (λ kind. downtime_entry (object_entry kind host service) change (downtime_comment service change)) (of_service byte more kind.HostDowntimeAlert kind.ServiceDowntimeAlert)
    ∙ service_downtime_says host service change of
    ∙ ap (λ object. entry_of_text (codes "SERVICE DOWNTIME ALERT: " ++ object)) (sym (service_object host byte more (change_text service change)))
    ∙ ap (λ fields. entry_of_text (codes "SERVICE DOWNTIME ALERT: " ++ object_text host service ++ next_field fields)) (sym (parted_change service change))
    ∙ ap (λ name. entry_of_text (name ++ object_text host service ++ next_field (downtime_fields service change)))
    (sym (of_service byte more (codes "HOST DOWNTIME ALERT: ") (codes "SERVICE DOWNTIME ALERT: ")))

pub downtime_said : (host service word comment : List ℕ) (change : DowntimeChange) (entry : LogEntry) → says_own_fields (form.Downtime host service change) ≡ true
    → entry ≡ record (blank 1 (kind_of_downtime service)) { host = host; service = service } → word ≡ downtime_word change → comment ≡ downtime_comment service change
    → record entry { word = word; comment = comment } ≡ entry_of_text (form_text (form.Downtime host service change))
unfolding downtime_entry object_entry
downtime_said host service word comment change entry own is word_is comment_is =
    rw (is, word_is, comment_is) (downtime_says host service change (plain host service own))

-- ---- the state of an alert

-- the name of a state as a field
record Named (field : Field) (name : List ℕ) (state : ℤ) : Type 0 where
  reads : (entry : LogEntry) → with_field entry field name ≡ Some (record entry { state = state })
  one_field : has_semicolon name ≡ false

abbrev name_of : List (List ℕ × ℤ) → ℤ → List ℕ
name_of states state = unwrap_or (name_of_state states state) []

host_named_by : (state : ℤ) (up down unreachable : Bool) → int_eq state (pos 0) ≡ up → int_eq state (pos 1) ≡ down → int_eq state (pos 2) ≡ unreachable
    → (length (name_of host_states state) == 0) ≡ false → Named field.HostState (name_of host_states state) state
host_named_by state true down unreachable is_0 is_1 is_2 has =
    rw ((Decides-int_eq state (pos 0)).0 is_0) (record { reads = λ entry. refl; one_field = refl })
host_named_by state false true unreachable is_0 is_1 is_2 has =
    rw ((Decides-int_eq state (pos 1)).0 is_1) (record { reads = λ entry. refl; one_field = refl })
host_named_by state false false true is_0 is_1 is_2 has =
    rw ((Decides-int_eq state (pos 2)).0 is_2) (record { reads = λ entry. refl; one_field = refl })
host_named_by state false false false is_0 is_1 is_2 has = absurd (true≢false (rw (is_0, is_1, is_2) at has))

host_named : (state : ℤ) → (length (name_of host_states state) == 0) ≡ false → Named field.HostState (name_of host_states state) state
host_named state has = host_named_by state (int_eq state (pos 0)) (int_eq state (pos 1)) (int_eq state (pos 2)) refl refl refl has

service_named_by : (state : ℤ) (ok warning critical unknown : Bool)
    → int_eq state (pos 0) ≡ ok → int_eq state (pos 1) ≡ warning → int_eq state (pos 2) ≡ critical → int_eq state (pos 3) ≡ unknown
    → (length (name_of service_states state) == 0) ≡ false → Named field.ServiceState (name_of service_states state) state
service_named_by state true warning critical unknown is_0 is_1 is_2 is_3 has =
    rw ((Decides-int_eq state (pos 0)).0 is_0) (record { reads = λ entry. refl; one_field = refl })
service_named_by state false true critical unknown is_0 is_1 is_2 is_3 has =
    rw ((Decides-int_eq state (pos 1)).0 is_1) (record { reads = λ entry. refl; one_field = refl })
service_named_by state false false true unknown is_0 is_1 is_2 is_3 has =
    rw ((Decides-int_eq state (pos 2)).0 is_2) (record { reads = λ entry. refl; one_field = refl })
service_named_by state false false false true is_0 is_1 is_2 is_3 has =
    rw ((Decides-int_eq state (pos 3)).0 is_3) (record { reads = λ entry. refl; one_field = refl })
service_named_by state false false false false is_0 is_1 is_2 is_3 has = absurd (true≢false (rw (is_0, is_1, is_2, is_3) at has))

service_named : (state : ℤ) → (length (name_of service_states state) == 0) ≡ false → Named field.ServiceState (name_of service_states state) state
service_named state has =
    service_named_by state (int_eq state (pos 0)) (int_eq state (pos 1)) (int_eq state (pos 2)) (int_eq state (pos 3)) refl refl refl refl has

-- ---- its attempt

digits_lack : (digits : List ℕ) → list_all is_ascii_digit digits ≡ true → has_semicolon digits ≡ false
digits_lack [] all = refl
digits_lack (digit ∷ digits) all =
    let parts = and_parts (is_ascii_digit digit) (list_all is_ascii_digit digits) all in
    let digit_lacks : is_separator digit ≡ false = grind (arith, nat_tests, parts.0) in
    rw digit_lacks (digits_lack digits parts.1)

attempt_reads : (attempt : ℕ) (entry : LogEntry) → attempt < 1000000000 → with_field entry field.Attempt (decimal attempt) ≡ Some (record entry { attempt = attempt })
attempt_reads attempt entry small =
    let says : Says attempt (decimal attempt) = decimal_says attempt (omega (arith, small)) in
    let some : 0 < length (decimal attempt) = decimal_nonempty attempt (omega (arith, small)) in
    let short : length (decimal attempt) ≤ 9 = length-decimal-le 9 attempt (omega arith) (omega (arith, small)) (omega (arith, small)) in
    let is : is_attempt (decimal attempt) ≡ true
    = and_from _ _ (and_from _ _ says.all (lt-ltb 0 (length (decimal attempt)) some)) (le-leb (length (decimal attempt)) 9 short) in
    ap (λ test. entry_where test (record entry { attempt = number_of (decimal attempt) })) is
    ∙ ap (λ number. Some (record entry { attempt = number })) says.value

-- ---- an alert

-- the fields that follow a state
abbrev result_fields : List Field
result_fields = field.StateType ∷ field.Attempt ∷ field.PluginOutput ∷ []

-- what follows the object of an alert
result_text : List ℕ → Bool → ℕ → List ℕ → List ℕ
result_text name hard attempt output = name ++ next_field (type_word hard ++ next_field (decimal attempt ++ next_field output))

-- the entry of a host or a service, with the result of its check
result_entry : LogEntry → ℤ → Bool → ℕ → List ℕ → LogEntry
result_entry entry state hard attempt output = record entry { state = state; word = type_word hard; attempt = attempt; output = output }

type_reads : (hard : Bool) (entry : LogEntry) → with_field entry field.StateType (type_word hard) ≡ Some (record entry { word = type_word hard })
type_reads true entry = refl
type_reads false entry = refl

type_lacks : (hard : Bool) → has_semicolon (type_word hard) ≡ false
type_lacks true = refl
type_lacks false = refl

result_says : (state_field : Field) (name : List ℕ) (state : ℤ) (hard : Bool) (attempt : ℕ) (output : List ℕ) (entry : LogEntry)
    → Named state_field name state → attempt < 1000000000
    → with_fields (state_field ∷ result_fields) (result_text name hard attempt output) entry
    ≡ Some (result_entry entry state hard attempt output)
unfolding result_text result_entry
result_says state_field name state hard attempt output entry named small =
    let stated : LogEntry = record entry { state = state } in
    let typed : LogEntry = record stated { word = type_word hard } in
    let digits_lack : has_semicolon (decimal attempt) ≡ false = digits_lack (decimal attempt) (decimal_says attempt (omega (arith, small))).all in
    field_then state_field field.StateType (field.Attempt ∷ field.PluginOutput ∷ []) name _ entry stated named.one_field (named.reads entry)
    ∙ field_then field.StateType field.Attempt (field.PluginOutput ∷ []) (type_word hard) _ stated typed (type_lacks hard) (type_reads hard stated)
    ∙ field_then field.Attempt field.PluginOutput [] (decimal attempt) output typed (record typed { attempt = attempt }) digits_lack (attempt_reads attempt typed small)

host_alert_says : (host name : List ℕ) (state : ℤ) (hard : Bool) (attempt : ℕ) (output : List ℕ)
    → has_semicolon host ≡ false → Named field.HostState name state → attempt < 1000000000
    → result_entry (object_entry kind.HostAlert host []) state hard attempt output
    ≡ entry_of_text (codes "HOST ALERT: " ++ (host ++ next_field (result_text name hard attempt output)))
unfolding parts_at_colon object_entry
host_alert_says host name state hard attempt output plain_host named small =
    said_by_form _ _ (sym (
    field_then field.HostName field.HostState result_fields host (result_text name hard attempt output) (blank 1 kind.HostAlert) (object_entry kind.HostAlert host []) plain_host refl
    ∙ result_says field.HostState name state hard attempt output (object_entry kind.HostAlert host []) named small))

service_alert_says : (host service name : List ℕ) (state : ℤ) (hard : Bool) (attempt : ℕ) (output : List ℕ)
    → Plain host service → Named field.ServiceState name state → attempt < 1000000000
    → result_entry (object_entry kind.ServiceAlert host service) state hard attempt output
    ≡ entry_of_text (codes "SERVICE ALERT: " ++ (host ++ next_field (service ++ next_field (result_text name hard attempt output))))
unfolding parts_at_colon object_entry
service_alert_says host service name state hard attempt output of named small =
    said_by_form _ _ (sym (
    service_then field.ServiceState result_fields host service (result_text name hard attempt output) (blank 1 kind.ServiceAlert) of.of_host of.of_service
    ∙ result_says field.ServiceState name state hard attempt output (object_entry kind.ServiceAlert host service) named small))

alert_text : (name object state : List ℕ) (hard : Bool) (attempt : ℕ) (output : List ℕ)
    → name ++ object ++ next_field state ++ next_field (type_word hard) ++ next_field (decimal attempt) ++ next_field output
    ≡ name ++ (object ++ next_field (result_text state hard attempt output))
unfolding result_text
alert_text name object state hard attempt output = simp append_assoc

alert_says : (host service : List ℕ) (state : ℤ) (hard : Bool) (attempt : ℕ) (output : List ℕ) → Plain host service
    → (length (state_word service state) == 0) ≡ false → attempt < 1000000000
    → result_entry (object_entry (kind_of_alert service) host service) state hard attempt output
    ≡ entry_of_text (form_text (form.Alert host service state hard attempt output))
unfolding form_text object_text
alert_says host [] state hard attempt output of named small =
    host_alert_says host (name_of host_states state) state hard attempt output of.of_host (host_named state named) small
    ∙ ap entry_of_text (sym (alert_text (codes "HOST ALERT: ") host (name_of host_states state) hard attempt output))
alert_says host (byte ∷ more) state hard attempt output of named small =
    let service : List ℕ = byte ∷ more in
    let states : states_of service ≡ service_states = of_service byte more host_states service_states in
    let name : List ℕ = name_of service_states state in
    let name_is : state_word service state ≡ name = ap (λ states. name_of states state) states in
    ap (λ kind. result_entry (object_entry kind host service) state hard attempt output) (of_service byte more kind.HostAlert kind.ServiceAlert)
    ∙ service_alert_says host service name state hard attempt output of (service_named state (rw name_is at named)) small
    ∙ ap (λ object. entry_of_text (codes "SERVICE ALERT: " ++ object)) (sym (service_object host byte more (result_text name hard attempt output)))
    ∙ ap entry_of_text (sym (alert_text (codes "SERVICE ALERT: ") (object_text host service) name hard attempt output))
    ∙ ap (λ said. entry_of_text (codes "SERVICE ALERT: " ++ object_text host service ++ next_field said ++ next_field (type_word hard) ++ next_field (decimal attempt) ++ next_field output))
    (sym name_is)
    ∙ ap (λ front. entry_of_text (front ++ object_text host service ++ next_field (state_word service state) ++ next_field (type_word hard) ++ next_field (decimal attempt) ++ next_field output))
    (sym (of_service byte more (codes "HOST ALERT: ") (codes "SERVICE ALERT: ")))

pub alert_said : (host service word output out : List ℕ) (state told : ℤ) (hard : Bool) (attempt : ℕ) (entry : LogEntry)
    → says_own_fields (form.Alert host service state hard attempt output) ≡ true
    → entry ≡ record (blank 1 (kind_of_alert service)) { host = host; service = service } → told ≡ state → word ≡ type_word hard → out ≡ output
    → record entry { state = told; word = word; attempt = attempt; output = out } ≡ entry_of_text (form_text (form.Alert host service state hard attempt output))
unfolding result_entry object_entry
alert_said host service word output out state told hard attempt entry own is told_is word_is out_is =
    let parts = and_parts (not (has_semicolon host) && not (has_semicolon service)) (is_plain_result service state attempt) own in
    let result = and_parts (not (length (state_word service state) == 0)) (nat_lt attempt 1000000000) parts.1 in
    let small : attempt < 1000000000 = grind (arith, nat_tests, result.1) in
    rw (is, told_is, word_is, out_is) (alert_says host service state hard attempt output (plain host service parts.0) (not_true _ result.0) small)
