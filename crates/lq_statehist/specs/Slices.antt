-- The slices of the history of all objects.
use Rattle.std.specs.Prelude.{ℕ, List, ◌++◌, map, filter}
use Rattle.std.specs.List.{enumerate_from, flat_map}
use Rattle.lq_records.specs.declared.base.Base.{Base}
use Rattle.lq_records.specs.declared.base.Host.{Host}
use Rattle.lq_records.specs.declared.base.Service.{Service}
use Rattle.lq_records.specs.declared.object.Object.TheVariants as object
use Rattle.lq_events.specs.declared.log_entry.LogEntry.{LogEntry}
use Rattle.lq_auth.specs.Rights.{sees_object}
use Rattle.lq_auth.specs.declared.view.View.{View}
use Rattle.lq_statehist.specs.Facts.{Subject}
use Rattle.lq_statehist.specs.History.{history}
use Rattle.lq_statehist.specs.Notes.{notes_of}
use Rattle.lq_statehist.specs.declared.slice.Slice.{Slice}

-- ---- the objects of a base

abbrev pub host_subject : ℕ × Host → Subject
host_subject (place, host) = record {
  object = object.Host (record { 0 = place });
  host = record { 0 = place };
  period = host.fields.notification_period;
}

abbrev pub service_subject : ℕ × Service → Subject
service_subject (place, service) = record {
  object = object.Service (record { 0 = place });
  host = service.host;
  period = service.fields.notification_period;
}

-- the hosts, then the services, each in the order of the base
abbrev pub subjects_of : Base → List Subject
subjects_of base =
    map host_subject (enumerate_from 0 base.hosts)
    ++ map service_subject (enumerate_from 0 base.services)

-- those that are seen
abbrev pub seen_subjects : Base → View → List Subject
seen_subjects base view = filter (λ about. sees_object view about.object) (subjects_of base)

-- the histories of objects, one after the other
abbrev pub histories : Base → List LogEntry → ℕ → ℕ → List Subject → List Slice
histories base log from until subjects =
    flat_map (λ about. history about (notes_of base log) from until) subjects

-- those of all objects that are seen
abbrev pub slices_of : Base → View → List LogEntry → ℕ → ℕ → List Slice
slices_of base view log from until = histories base log from until (seen_subjects base view)

-- the most slices that are given; where there would be more, none is
abbrev pub most_slices : ℕ
most_slices = 1000000
