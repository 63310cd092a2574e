-- What doesn't come once, and numbers that are not drawn in turn: answers and parts that are refused.
use Rattle.std.proofs.Common.{◌≡◌, ◌<◌, ℕ, true, false, List, [], ◌∷◌, Some, None, if◌then◌else◌, inl, inr, refl, sym, ap, subst, arith, length, map, ◌∙◌}
use Rattle.std.proofs.lemmas.Bool.{true≢false}
use Rattle.row_values.specs.Ids.{Id, Namespace, Tablet, same}
use Rattle.std.specs.List.{filter}
use Rattle.model.specs.Catalog.{NamespaceRecord}
use Rattle.row_values.specs.Elements.{In}
use Rattle.model.specs.Acts.{Act, Advance, Advanced, Change, CreateNamespace, CreateTable, Split, Done, NotDone, Ok, Process, Refused, TooMany}
use Rattle.model.specs.Activity.{Interval}
use Rattle.model.specs.Drawn.{ColumnsNew, DrawsInTurn, DrawsNext, IsPartOf, as_taken}
use Rattle.model.specs.Entering.{ClocksAfter, Entering, EntersAt, entered, states_of, states_to}
use Rattle.model.specs.Entries.{Entry}
use Rattle.model.specs.History.{RefusedTicks, replay}
use Rattle.model.specs.Journal as made
use Rattle.model.specs.Journal.{ColumnAdded, ColumnDropped, NamespaceCloned, is_in}
use Rattle.model.specs.Once.{CloneAsked, ClonesOnce, NoneAgain, Obeyed, RestoresOnce, changes_asked, commands_done, is_paired, is_whole}
use Rattle.model.specs.Parts.{Master, Parts}
use Rattle.model.specs.Records.{CloneRecord, IsCreating, IsFencing, IsSnapshot, IsSwitching, RestorationRecord, SnapshotRecord, Snapshotting, State}
use Rattle.model.specs.Stands.{was_given}
use Rattle.model.specs.Tablets.{FenceKind}
use Rattle.model_rows.proofs.ClonesComeOnce.{asked, its_record}
use Rattle.model_rows.proofs.ComesOnce.{asked_to, finished, own}
use Rattle.model_rows.proofs.RightClones.{cloned}
use Rattle.model_rows.specs.Computed.{the_book}
use Rattle.model_rows.specs.FirstRead.{table_made}
use Rattle.model_rows.specs.Runs.{Run, after, answered, coordinated, done}
use Rattle.model_rows.specs.Scripts.{since, B, N, P, R, T, a, b, c, create_namespace, early, int_column, new_int, planned_change, ready, t, u, v, w}
use Rattle.model_rows.specs.UndoneRestore.{restored, restored_to, restoring}

-- Commands

-- a tablet that has done its fence answers that it did it once more
abbrev again : Run
again = done (Process 1 1) (coordinated 2 restoring)

abbrev fenced : Obeyed
fenced = record { operation = R 1; kind = FenceKind; tablet = B 1 }

its_commands : commands_done 64 (answered (Done (R 1) FenceKind) again.entries) ≡ fenced ∷ fenced ∷ []
unfolding the_book
its_commands = refl

done_again : NoneAgain (commands_done 64 (answered (Done (R 1) FenceKind) again.entries)) → ⊥
done_again once = (subst NoneAgain its_commands once).1 (inl refl)

-- Numbers

-- a refusal by which a number was drawn all the same
abbrev made_one : Run
made_one = after (create_namespace c) ready

refused_and_drawn : DrawsInTurn 64 (answered (Refused (TooMany 64)) made_one.entries) → ⊥
unfolding the_book
refused_and_drawn turn = let e : ◌≡◌ {A = ℕ} 2 1 = turn.1.count Namespace in omega arith

-- nor are all but clocks as they were
abbrev made_refused : Entry
made_refused = record { number = 9; event = record { caller = 1; reading = 0; act = Change (CreateNamespace c) [] }; stamp = early 9; reply = Refused (TooMany 64) }

refused_and_made : RefusedTicks made_refused ready.parts → ⊥
unfolding the_book
refused_and_made ticks =
    let h = (ticks (TooMany 64) refl (λ e. let q : TooMany 64 ≡ NotDone = e in grind arith)).master in
    let e : ◌≡◌ {A = ℕ} 2 1 = ap (λ m. m.drawn.namespaces) h in omega arith

-- a reply that gives the number after the next
skipped_in_reply : DrawsInTurn 64 (answered (Ok (N 3 ∷ [])) made_one.entries) → ⊥
unfolding the_book
skipped_in_reply turn = let e : ◌≡◌ {A = List Id} (N 3 ∷ []) (N 2 ∷ []) = turn.1.named in grind arith

-- a record that has the number after the one that the reply shows
abbrev renumbered : Master
renumbered = record made_one.parts.master {
  catalog = record made_one.parts.master.catalog {
    namespaces = map {A = NamespaceRecord} (λ r. record r { id = if same r.id (N 2) then N 3 else r.id }) made_one.parts.master.catalog.namespaces;
  };
}

record_skips : DrawsNext (Change (CreateNamespace c) []) (Ok (N 2 ∷ [])) (early 5) ready.parts.master renumbered → ⊥
unfolding the_book
record_skips draws = let e : ◌≡◌ {A = ℕ} 3 2 = ap (λ i. i.number) (draws.next Namespace).0 in omega arith

-- a number is drawn, and no record has it
abbrev unmade : Master
unmade = record made_one.parts.master { catalog = ready.parts.master.catalog }

no_record : DrawsNext (Change (CreateNamespace c) []) (Ok (N 2 ∷ [])) (early 5) ready.parts.master unmade → ⊥
unfolding the_book
no_record draws = let e : ◌≡◌ {A = ℕ} 0 1 = draws.given Namespace in omega arith

-- a new table with two tablets, whose numbers no reply shows
abbrev two_tablets : Run
two_tablets = after (planned_change (CreateTable a u 2 (new_int v ∷ [])) (2 ∷ 3 ∷ [])) ready

abbrev u_made : Act
u_made = Change (CreateTable a u 2 (new_int v ∷ [])) (2 ∷ 3 ∷ [])

abbrev half : ℕ → ℕ → ℕ → ℕ → Interval
half slot number low high = record { slot = slot; tablet = B number; table = T 2; low = low; high = high; from = early 5; to = None }

-- the lower range has the later number
abbrev swapped : Master
swapped = record two_tablets.parts.master { activity = since 2 ∷ half 2 3 0 32768 ∷ half 3 2 32768 65536 ∷ [] }

out_of_order : DrawsNext u_made (Ok (T 2 ∷ [])) (early 5) ready.parts.master swapped → ⊥
unfolding the_book
out_of_order draws = let e : ◌≡◌ {A = ℕ} 3 2 = ap (λ i. i.number) (draws.next Tablet).0 in omega arith

-- a split whose children have each other's range
abbrev split_one : Run
split_one = after (planned_change (Split a t 32768) (1 ∷ 2 ∷ 3 ∷ [])) ready

abbrev child : ℕ → ℕ → ℕ → ℕ → Interval
child slot number low high = record { slot = slot; tablet = B number; table = T 1; low = low; high = high; from = early 5; to = None }

abbrev crossed : Master
crossed = record split_one.parts.master {
  activity = record (since 2) { to = Some (early 5) } ∷ child 2 2 32768 65536 ∷ child 3 3 0 32768 ∷ [];
}

crossed_children : DrawsNext (Change (Split a t 32768) (1 ∷ 2 ∷ 3 ∷ [])) (Ok (B 2 ∷ B 3 ∷ [])) (early 5) ready.parts.master crossed → ⊥
unfolding the_book
crossed_children draws = let e : ◌≡◌ {A = ℕ} 3 2 = ap (λ i. i.number) (draws.next Tablet).0 in omega arith

-- one more number is drawn than there are tablets
abbrev one_lost : Master
one_lost = record two_tablets.parts.master { drawn = record two_tablets.parts.master.drawn { tablets = 4 } }

a_number_lost : DrawsNext u_made (Ok (T 2 ∷ [])) (early 5) ready.parts.master one_lost → ⊥
unfolding the_book
a_number_lost draws = let e : ◌≡◌ {A = ℕ} 4 3 = draws.count Tablet in omega arith

-- a restore names another snapshot as its own than the one that was made
abbrev fenced_all : Run
fenced_all = coordinated 3 restoring

abbrev own_taken : Run
own_taken = coordinated 4 restoring

abbrev other_own : Master
other_own = record own_taken.parts.master {
  restorations = map {A = RestorationRecord} (λ r. record r { state = Snapshotting (early 11) (P 2) }) own_taken.parts.master.restorations;
}

own_skips : DrawsNext (Advance (R 1)) (Advanced IsSnapshot) (early 10) fenced_all.parts.master other_own → ⊥
unfolding the_book
own_skips draws = let e : ◌≡◌ {A = List Id} (P 2 ∷ []) (P 1 ∷ []) = draws.named in grind arith

-- Columns

abbrev column_added : ℕ → ℕ → ℕ → made.Change
column_added logical table id = record { stamp = early logical; act = ColumnAdded (T table) (int_column id w) }

-- a column takes the id of one that was dropped
abbrev taken_again : List made.Change
taken_again = column_added 5 1 1 ∷ record { stamp = early 4; act = ColumnDropped (T 1) 1 } ∷ table_made ∷ []

id_again : ColumnsNew taken_again → ⊥
id_again new = let e : ◌≡◌ {A = ℕ} 1 2 = new.1 in omega arith

-- a column of a clone's table takes an id that the source gave after the clone's time, before the target was current
abbrev taken_in_clone : List made.Change
taken_in_clone =
    column_added 9 2 2
    ∷ record { stamp = early 8; act = NamespaceCloned (N 1) (N 2) b (early 3) (record { source = T 1; target = T 2 } ∷ []) }
    ∷ column_added 5 1 2
    ∷ table_made
    ∷ []

id_of_source : ColumnsNew taken_in_clone → ⊥
id_of_source new = let e : ◌≡◌ {A = ℕ} 2 3 = new.1 in omega arith

-- Snapshots

-- a kept snapshot that names another one before it than the one that was taken, and one that lists a tablet less

is_taken : SnapshotRecord → SnapshotRecord → Type 0
is_taken r taken = IsPartOf (as_taken r ∷ []) (as_taken taken ∷ [])

other_before : is_taken (own 1 (early 3) 10) (own 1 (early 2) 10) → ⊥
unfolding is_taken
other_before (inl e) = let q : early 3 ≡ early 2 = ap (λ r. r.after) e.0 in omega arith
other_before (inr none) = none

lists_less : is_taken (record (own 1 (early 2) 10) { listed = [] }) (own 1 (early 2) 10) → ⊥
unfolding is_taken
lists_less (inl e) = let q = ap (λ r. length r.listed) e.0 in let is : ◌≡◌ {A = ℕ} 0 1 = q in omega arith
lists_less (inr none) = none

-- kept ones in another order
turned_round : IsPartOf (as_taken (own 2 (early 10) 31) ∷ as_taken (own 1 (early 2) 10) ∷ []) (as_taken (own 1 (early 2) 10) ∷ as_taken (own 2 (early 10) 31) ∷ []) → ⊥
turned_round (inl e) = let q : early 31 ≡ early 10 = ap (λ r. r.at) e.0 in omega arith
turned_round (inr (inl e)) = e.1
turned_round (inr (inr none)) = none

-- States

-- a tablet that is fenced has a clock above the time of the restore, and below the stamp at which it was accepted
abbrev fencing : Run
fencing = coordinated 2 restoring

abbrev behind : Parts
behind = record fencing.parts { tablet = λ slot. record (fencing.parts.tablet slot) { clock = early 5 } }

abbrev accepted_at : Entering
accepted_at = record { operation = R 1; state = IsFencing; at = early 6 }

its_enterings : entered 64 fencing.entries ≡ accepted_at ∷ []
unfolding the_book
its_enterings = refl

was_fenced : was_given (behind.tablet 1) (R 1) FenceKind ≡ true
unfolding the_book
was_fenced = refl

given_behind : ClocksAfter behind (accepted_at ∷ []) → ⊥
given_behind after = let given = after 1 (R 1) FenceKind was_fenced in by given.at given.was_entered given.below
  where
    by : (at : ℕ) → In (record { operation = R 1; state = IsFencing; at = at }) (accepted_at ∷ []) → at < early 5 → ⊥
    by at (inl e) below = let is : early 6 ≡ at = ap (λ k. k.at) e in omega arith
    by at (inr h) below = h

-- a snapshot that keeps another time than the stamp at which it began
abbrev begun_at : Entering
begun_at = record { operation = P 1; state = IsCreating; at = early 10 }

abbrev of_other_time : Parts
of_other_time = record own_taken.parts {
  master = record own_taken.parts.master { snapshots = record (own 1 (early 3) 9) { complete = false } ∷ [] };
}

taken_earlier : EntersAt of_other_time (begun_at ∷ []) → ⊥
unfolding the_book
taken_earlier enters = elim (enters.taken (record (own 1 (early 3) 9) { complete = false }) (inl refl)) [
  | inl e ↦ (let is : early 10 ≡ early 9 = ap (λ k. k.at) e in omega arith)
  | inr h ↦ h
]

-- a move that answers another state than the record entered
entered_other : states_of (R 1) (entered 64 (answered (Advanced IsSwitching) own_taken.entries)) ≡ states_to (Snapshotting (early 11) (P 1)) → ⊥
unfolding the_book
entered_other e = let q : ◌≡◌ {A = List State} (IsSwitching ∷ IsFencing ∷ []) (IsSnapshot ∷ IsFencing ∷ []) = e in grind arith

-- Restores and clones

-- an accepted command whose time is another one than its record's
its_kept : (replay 64 restored.entries).master.restorations ≡ finished 1 3 11 1 ∷ []
unfolding the_book
its_kept = refl

other_time : RestoresOnce 64 restored.entries (asked_to 1 4) → ⊥
other_time once = by once.restoration (subst (In once.restoration) its_kept once.kept) once.to_is
  where
    by : (r : RestorationRecord) → In r (finished 1 3 11 1 ∷ []) → r.to ≡ early 4 → ⊥
    by r (inl e) to = let is : early 3 ≡ early 4 = ap (λ q. q.to) e ∙ to in omega arith
    by r (inr h) to = h

-- a journal that has the restore twice, or another one
the_move : changes_asked 64 restored.entries ≡ restored_to 11 3 ∷ []
unfolding the_book
the_move = refl

restored_twice : filter (λ c. is_whole c.act) (restored_to 11 3 ∷ restored_to 11 3 ∷ []) ≡ changes_asked 64 restored.entries → ⊥
restored_twice e = let q : ◌≡◌ {A = List made.Change} (restored_to 11 3 ∷ restored_to 11 3 ∷ []) (restored_to 11 3 ∷ []) = e ∙ the_move in grind arith

restored_other : filter (λ c. is_whole c.act) (restored_to 11 4 ∷ []) ≡ changes_asked 64 restored.entries → ⊥
restored_other e = let q : ◌≡◌ {A = List made.Change} (restored_to 11 4 ∷ []) (restored_to 11 3 ∷ []) = e ∙ the_move in grind arith

-- a clone to another time, under another name, or without a table that its source had

clones_kept : (replay 64 cloned.entries).master.clones ≡ its_record ∷ []
unfolding the_book
clones_kept = refl

the_clone : (command : CloneAsked) (once : ClonesOnce 64 cloned.entries command) → its_record ≡ once.clone
the_clone command once = by once.clone (subst (In once.clone) clones_kept once.kept)
  where
    by : (c : CloneRecord) → In c (its_record ∷ []) → its_record ≡ c
    by c (inl e) = e
    by c (inr h) = absurd h

cloned_to_other : ClonesOnce 64 cloned.entries (record asked { to = early 5 }) → ⊥
cloned_to_other once = let is : early 4 ≡ early 5 = ap (λ c. c.to) (the_clone _ once) ∙ once.to_is in omega arith

cloned_as_other : ClonesOnce 64 cloned.entries (record asked { target = c }) → ⊥
cloned_as_other once = let is : b ≡ c = ap (λ r. r.target) (the_clone _ once) ∙ once.target_is in grind arith

cloned_other_tables : ClonesOnce 64 cloned.entries (record asked { before = [] }) → ⊥
cloned_other_tables once = true≢false (subst (λ r. is_paired r.tables (T 1) ≡ is_in r.source None) (sym (the_clone _ once)) (once.tables (T 1)))
