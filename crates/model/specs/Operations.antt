-- The unfinished operation of a namespace: a restoration of it, or a clone. It holds the namespace that it restores or
-- makes; it uses the namespace that it holds, and a clone its source too.
use Rattle.std.specs.Prelude.{ℕ, not, ◌&&◌, ◌||◌, List, Option, option_map, find}
use Rattle.model.specs.Cluster.{option_or, Id, same, RestorationRecord, CloneRecord, is_restored, is_cloned, Master}

-- the unfinished restoration of a namespace
abbrev pub restoration_of : List RestorationRecord → Id → Option RestorationRecord
restoration_of rs ns = find (λ r. same r.namespace ns && not (is_restored r.state)) rs

-- the unfinished clone that makes the namespace
abbrev pub clone_to : List CloneRecord → Id → Option CloneRecord
clone_to rs ns = find (λ r. same r.target_id ns && not (is_cloned r.state)) rs

-- the unfinished clone that makes the namespace, or has it as its source
abbrev pub clone_with : List CloneRecord → Id → Option CloneRecord
clone_with rs ns = find (λ r. (same r.target_id ns || same r.source ns) && not (is_cloned r.state)) rs

-- the operation that holds a namespace
abbrev pub holder : Master → Id → Option Id
holder m ns =
    option_or
    (option_map (λ r. r.id) (restoration_of m.restorations ns))
    (option_map (λ r. r.id) (clone_to m.clones ns))

-- the operation that uses a namespace
abbrev pub user : Master → Id → Option Id
user m ns =
    option_or
    (option_map (λ r. r.id) (restoration_of m.restorations ns))
    (option_map (λ r. r.id) (clone_with m.clones ns))

-- the time to which the operation that uses a namespace goes
abbrev pub time_of_user : Master → Id → Option ℕ
time_of_user m ns =
    option_or
    (option_map (λ r. r.to) (restoration_of m.restorations ns))
    (option_map (λ r. r.to) (clone_with m.clones ns))
