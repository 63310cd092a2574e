-- What comes once, of a restore and of the one that undoes it: each restored its namespace once, to the time that was asked; no tablet did
-- a command twice; each record entered its states once; the numbers were drawn in turn.
use Rattle.std.proofs.Common.{◌≡◌, ℕ, true, false, [], ◌∷◌, Some, inl, inr, refl, sym, subst, ◌∙◌, List, map, ◌-◌, Option, None, ◌+◌, ◌⊎◌, arith}
use Rattle.row_values.specs.Ids.{Id, same}
use Rattle.row_values.specs.Elements.{In}
use Rattle.model.specs.Drawn.{DrawsInTurn, given_to, SchemasDrawn, version_by}
use Rattle.model.specs.Entering.{Entering, entered, states_of, EntersAt, EntersOnce, IsAfterOwn, states_to, states_of_snapshot}
use Rattle.model.specs.History.{replay, journal_of, snapshots_taken}
use Rattle.std.specs.List.{filter}
use Rattle.model.specs.Once.{RestoreAsked, RestoresOnce, NoneAgain, Once, is_whole, restores_asked, clones_asked, changes_asked, changes_by, commands_done}
use Rattle.model.specs.Catalog.{TableRecord, latest}
use Rattle.row_values.specs.Schema.{Schema}
use Rattle.std.proofs.lemmas.Bool.{cases_Bool}
use Rattle.std.proofs.lemmas.Bool.Decides.{nat_tests}
use Rattle.model.specs.Tablets.{Freeze}
use Rattle.model.specs.Records.{RestorationRecord, Restored, IsCreating, IsSnapshot, SnapshotRecord, point_of}
use Rattle.model_rows.proofs.Turns.{drawn_in_turn, none_done_again, at_place, in_at}
use Rattle.model_rows.specs.Computed.{the_book}
use Rattle.model_rows.specs.Scripts.{N, R, P, S, early, B, T, v_alone, t}
use Rattle.model_rows.specs.UndoneRestore.{all_changes, been_read, restored_to}

in_turn : DrawsInTurn 64 been_read.entries
unfolding the_book
in_turn = drawn_in_turn been_read.entries 64 refl

none_twice : NoneAgain (commands_done 64 been_read.entries)
unfolding the_book
none_twice = none_done_again (commands_done 64 been_read.entries) refl

-- Restores

abbrev pub asked_to : ℕ → ℕ → RestoreAsked
asked_to number logical = record { operation = R number; schedule = S 1; namespace = Some (N 1); to = early logical }

-- a restoration that is finished; the snapshot that served its time
abbrev pub finished : ℕ → ℕ → ℕ → ℕ → RestorationRecord
finished number to point serving =
    record { id = R number; schedule = S 1; namespace = N 1; to = early to; listed = []; state = Restored (early point) (P serving) }

abbrev first : RestorationRecord
first = finished 1 3 11 1

-- the snapshot that the first one made serves the second one
abbrev second : RestorationRecord
second = finished 2 10 32 1

both_asked : restores_asked 64 been_read.entries ≡ asked_to 2 10 ∷ asked_to 1 3 ∷ []
unfolding the_book
both_asked = refl

both_kept : (replay 64 been_read.entries).master.restorations ≡ first ∷ second ∷ []
unfolding the_book
both_kept = refl

first_restored : changes_by 64 (R 1) been_read.entries ≡ restored_to 11 3 ∷ []
unfolding the_book
first_restored = refl

second_restored : changes_by 64 (R 2) been_read.entries ≡ restored_to 32 10 ∷ []
unfolding the_book
second_restored = refl

abbrev enters : ℕ → ℕ → Entering
enters number logical = record { operation = R number; state = IsSnapshot; at = early logical }

first_snapshot : at_place 13 (entered 64 been_read.entries) ≡ Some (enters 1 10)
unfolding the_book
first_snapshot = refl

second_snapshot : at_place 5 (entered 64 been_read.entries) ≡ Some (enters 2 31)
unfolding the_book
second_snapshot = refl

first_point : IsAfterOwn (entered 64 been_read.entries) (R 1) (Some (early 11))
first_point = (early 10, (in_at 13 (entered 64 been_read.entries) (enters 1 10) first_snapshot, refl))

second_point : IsAfterOwn (entered 64 been_read.entries) (R 2) (Some (early 32))
second_point = (early 31, (in_at 5 (entered 64 been_read.entries) (enters 2 31) second_snapshot, refl))

kept : (r : RestorationRecord) → In r (first ∷ second ∷ []) → In r (replay 64 been_read.entries).master.restorations
kept r isin = subst (In r) (sym both_kept) isin

first_once : RestoresOnce 64 been_read.entries (asked_to 1 3)
first_once = record {
  restoration = first;
  kept = kept first (inl refl);
  id_is = refl;
  schedule_is = refl;
  namespace_is = refl;
  to_is = refl;
  restored = first_restored;
}

second_once : RestoresOnce 64 been_read.entries (asked_to 2 10)
second_once = record {
  restoration = second;
  kept = kept second (inr (inl refl));
  id_is = refl;
  schedule_is = refl;
  namespace_is = refl;
  to_is = refl;
  restored = second_restored;
}

each_once : (asked : RestoreAsked) → In asked (asked_to 2 10 ∷ asked_to 1 3 ∷ []) → RestoresOnce 64 been_read.entries asked
each_once asked (inl e) = subst (RestoresOnce 64 been_read.entries) e second_once
each_once asked (inr (inl e)) = subst (RestoresOnce 64 been_read.entries) e first_once
each_once asked (inr (inr h)) = absurd h

-- the journal has these, in the order of their moves, and no clone

both_restores : filter (λ c. is_whole c.act) (journal_of 64 been_read.entries) ≡ restored_to 32 10 ∷ restored_to 11 3 ∷ []
unfolding the_book
both_restores = refl

both_moved : changes_asked 64 been_read.entries ≡ restored_to 32 10 ∷ restored_to 11 3 ∷ []
unfolding the_book
both_moved = refl

none_asked : clones_asked 64 been_read.entries ≡ []
unfolding the_book
none_asked = refl

all_once : Once 64 been_read.entries
all_once = record {
  restores = λ asked isin. each_once asked (subst (In asked) both_asked isin);
  clones = λ asked isin. absurd (subst (In asked) none_asked isin);
  journal = both_restores ∙ sym both_moved;
  commands = none_twice;
}

-- Records

-- a snapshot that an operation made for itself, complete
abbrev pub own : ℕ → ℕ → ℕ → SnapshotRecord
own number after at = record {
  id = P number;
  complete = true;
  listed = record { tablet = B 1; slot = 1; body = Freeze (P number) (early at); acked = false } ∷ [];
  schedule = S 1;
  namespace = N 1;
  after = after;
  at = early at;
}

-- the first one comes after all that the schedule was made after
abbrev own_snapshots : List SnapshotRecord
own_snapshots = own 1 (early 3 - 1) 10 ∷ own 2 (early 10) 31 ∷ []

snapshots_kept : (replay 64 been_read.entries).master.snapshots ≡ own_snapshots
unfolding the_book
snapshots_kept = refl

states_of_first : states_of (R 1) (entered 64 been_read.entries) ≡ states_to first.state
unfolding the_book
states_of_first = refl

states_of_second : states_of (R 2) (entered 64 been_read.entries) ≡ states_to second.state
unfolding the_book
states_of_second = refl

states_of_its_snapshots : states_of (P 1) (entered 64 been_read.entries) ≡ states_of_snapshot true
unfolding the_book
states_of_its_snapshots = refl

states_of_other : states_of (P 2) (entered 64 been_read.entries) ≡ states_of_snapshot true
unfolding the_book
states_of_other = refl

no_clone_kept : (replay 64 been_read.entries).master.clones ≡ []
unfolding the_book
no_clone_kept = refl

each_snapshot_enters : (r : SnapshotRecord) → In r own_snapshots → states_of r.id (entered 64 been_read.entries) ≡ states_of_snapshot r.complete
each_snapshot_enters r (inl e) = subst (λ q. states_of q.id (entered 64 been_read.entries) ≡ states_of_snapshot q.complete) e states_of_its_snapshots
each_snapshot_enters r (inr (inl e)) = subst (λ q. states_of q.id (entered 64 been_read.entries) ≡ states_of_snapshot q.complete) e states_of_other
each_snapshot_enters r (inr (inr h)) = absurd h

each_restoration_enters : (r : RestorationRecord) → In r (first ∷ second ∷ []) → states_of r.id (entered 64 been_read.entries) ≡ states_to r.state
each_restoration_enters r (inl e) = subst (λ q. states_of q.id (entered 64 been_read.entries) ≡ states_to q.state) e states_of_first
each_restoration_enters r (inr (inl e)) = subst (λ q. states_of q.id (entered 64 been_read.entries) ≡ states_to q.state) e states_of_second
each_restoration_enters r (inr (inr h)) = absurd h

enters_once : EntersOnce (replay 64 been_read.entries) (entered 64 been_read.entries)
enters_once = record {
  snapshots = λ r isin. each_snapshot_enters r (subst (In r) snapshots_kept isin);
  restorations = λ r isin. each_restoration_enters r (subst (In r) both_kept isin);
  clones = λ c isin. absurd (subst (In c) no_clone_kept isin);
}

-- at the stamps that they keep

first_taken : at_place 14 (entered 64 been_read.entries) ≡ Some (record { operation = P 1; state = IsCreating; at = early 10 })
unfolding the_book
first_taken = refl

second_taken : at_place 6 (entered 64 been_read.entries) ≡ Some (record { operation = P 2; state = IsCreating; at = early 31 })
unfolding the_book
second_taken = refl

each_snapshot_at : (r : SnapshotRecord) → In r own_snapshots → In (record { operation = r.id; state = IsCreating; at = r.at }) (entered 64 been_read.entries)
each_snapshot_at r (inl e) = subst (λ (q : SnapshotRecord). In (record { operation = q.id; state = IsCreating; at = q.at }) (entered 64 been_read.entries)) e (in_at 14 (entered 64 been_read.entries) _ first_taken)
each_snapshot_at r (inr (inl e)) = subst (λ (q : SnapshotRecord). In (record { operation = q.id; state = IsCreating; at = q.at }) (entered 64 been_read.entries)) e (in_at 6 (entered 64 been_read.entries) _ second_taken)
each_snapshot_at r (inr (inr h)) = absurd h

each_point : (r : RestorationRecord) → In r (first ∷ second ∷ []) → IsAfterOwn (entered 64 been_read.entries) r.id (point_of r.state)
each_point r (inl e) = subst (λ (q : RestorationRecord). IsAfterOwn (entered 64 been_read.entries) q.id (point_of q.state)) e first_point
each_point r (inr (inl e)) = subst (λ (q : RestorationRecord). IsAfterOwn (entered 64 been_read.entries) q.id (point_of q.state)) e second_point
each_point r (inr (inr h)) = absurd h

enters_at : EntersAt (replay 64 been_read.entries) (entered 64 been_read.entries)
enters_at = record {
  taken = λ r isin. each_snapshot_at r (subst (In r) snapshots_kept isin);
  points = λ r isin. each_point r (subst (In r) both_kept isin);
  copied = λ c at isin is. absurd (subst (In c) no_clone_kept isin);
  released = λ c l cutoff isin listed is. absurd (subst (In c) no_clone_kept isin);
}

-- as they were taken

snapshots_made : map {A = SnapshotRecord} (λ r. record r { listed = []; complete = false }) (snapshots_taken 64 been_read.entries)
    ≡ map {A = SnapshotRecord} (λ r. record r { listed = []; complete = false }) own_snapshots
unfolding the_book
snapshots_made = refl

-- Schemas

abbrev schema : ℕ → Schema
schema version = record { version = version; next = 2; columns = v_alone }

abbrev stood : ℕ → ℕ → Option ℕ → TableRecord
stood version from to = record { id = T 1; namespace = N 1; name = t; schema = schema version; from = early from; to = to }

-- each restore gave the table a new version
abbrev its_records : List TableRecord
its_records = stood 1 2 (Some (early 11)) ∷ stood 2 11 (Some (early 32)) ∷ stood 3 32 None ∷ []

its_tables : (replay 64 been_read.entries).master.catalog.tables ≡ its_records
unfolding the_book
its_tables = refl

newest : (table : Id) (s : Schema) → latest its_records table ≡ Some s
    → (s.next ≡ given_to all_changes table + 1) × (s.version ≡ version_by all_changes table)
newest table s e = by (cases_Bool (same (T 1) table))
  where
    by : (same (T 1) table ≡ true) ⊎ (same (T 1) table ≡ false) → (s.next ≡ given_to all_changes table + 1) × (s.version ≡ version_by all_changes table)
    by (inl is) = (grind (arith, nat_tests), grind (arith, nat_tests))
    by (inr other) = absurd (let q : None ≡ Some s = grind (arith, nat_tests) in grind arith)

its_schemas : SchemasDrawn (replay 64 been_read.entries).master all_changes
its_schemas = record {
  columns = (((((((tt, tt), (refl, tt)), tt), tt), tt), tt), tt);
  next = λ table s e. (newest table s (subst (λ rs. latest rs table ≡ Some s) its_tables e)).0;
  version = λ table s e. (newest table s (subst (λ rs. latest rs table ≡ Some s) its_tables e)).1;
}
