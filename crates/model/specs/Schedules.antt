-- Schedules: the window to which a database may be taken back, when a snapshot is due, how far the history may be cut,
-- and what retention still needs. Times in ticks, periods in minutes.
use Rattle.std.specs.Prelude.{ℕ, ◌≤◌, ◌<◌, Bool, List, [], ◌∷◌, Option, Some, None, ◌+◌, ◌-◌, ◌*◌, max, min, nat_le, nat_lt, ◌&&◌, if◌then◌else◌, find}
use Rattle.model.specs.Cluster.{Id, same, minute, second, end_of_time, Schedule, ScheduledNamespace, SnapshotRecord}

-- the retention of a namespace without a schedule, and of catalog records: 900 seconds
abbrev pub history_retention : ℕ
history_retention = 900 * second

-- whether a schedule may have these periods
abbrev pub is_period : ℕ → ℕ → Bool
is_period interval retention = nat_le 1 interval && (nat_lt interval retention && nat_le retention 525600)

abbrev pub least_with : Option ℕ → ℕ → ℕ
least_with None n = n
least_with (Some to) n = min to n

-- the low end of a schedule's window at a stamp
abbrev pub low : Schedule → ℕ → ℕ
low s now = max s.kept_low (now - s.retention * minute)

-- the least low end of the windows of a namespace's schedules, where it has one
abbrev pub least_low : List Schedule → Id → ℕ → Option ℕ
least_low [] ns now = None
least_low (s ∷ ss) ns now =
    if same s.namespace ns then Some (least_with (least_low ss ns now) (low s now)) else least_low ss ns now

-- the window from a low end at a stamp: the times to which a restore may go
abbrev pub IsInWindow : ℕ → ℕ → ℕ → Type 0
IsInWindow least now t = (least ≤ t) × (t < now)

-- other periods, from a stamp on: what is out of the window stays out
abbrev pub edited : ℕ → ℕ → ℕ → Schedule → Schedule
edited interval retention now s = record s { interval = interval; retention = retention; kept_low = low s now }

-- the stamp from which the schedule's next snapshot is due
abbrev pub next_after : Option ℕ → Schedule → ℕ
next_after None s = s.made
next_after (Some last) s = min (last + s.interval * minute) end_of_time

abbrev pub next_due : Schedule → ℕ
next_due s = next_after s.last s

abbrev pub is_due : Schedule → ℕ → Bool
is_due s now = nat_le (next_due s) now

-- a time since a stamp, or just before it where there is none
abbrev pub or_before : Option ℕ → ℕ → ℕ
or_before None since = since - 1
or_before (Some at) since = at

-- the time of the namespace's last complete snapshot, kept or removed, or just before it was scheduled
abbrev pub complete_to : ScheduledNamespace → ℕ
complete_to k = or_before k.complete k.since

-- the time of the namespace's snapshot before the next one
abbrev pub after_of : ScheduledNamespace → ℕ
after_of k = or_before k.last k.since

-- the same of a namespace by its id; before the first snapshot of one that isn't scheduled lies all time
abbrev pub after_in : List ScheduledNamespace → Id → ℕ
after_in [] ns = 0
after_in (k ∷ ks) ns = if same k.namespace ns then after_of k else after_in ks ns

-- how far an event may raise the cutoff of a tablet: in a scheduled namespace, past its last complete snapshot
abbrev pub allowed_cutoff : Option ℕ → Option ℕ → ℕ → ℕ
allowed_cutoff None last_complete now = now - history_retention
allowed_cutoff (Some since) last_complete now = or_before last_complete since + 1

-- the floor of a namespace: what is below it, retention doesn't need. The time of an unfinished operation lowers it
abbrev pub floor : Option ℕ → Option ℕ → ℕ → ℕ
floor None unfinished_to now = now
floor (Some least) unfinished_to now = least_with unfinished_to least

-- the snapshot that serves a time: the namespace's first complete, kept one at or after it, in order of time
abbrev pub serving : List SnapshotRecord → Id → ℕ → Option SnapshotRecord
serving rs ns to = find (λ r. (same r.namespace ns && r.complete) && nat_le to r.at) rs
