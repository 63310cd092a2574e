-- Answers to looks and to reads that are not right.
use Rattle.std.proofs.Common.{inl, inr, refl, ◌≡◌, ◌<◌, ◌++◌, ℕ, [], List, Some, None, arith, Option, ◌∷◌, true≢false, sym, ap, length}
use Rattle.model.specs.Acts.{At, Look, AskTable, CreateTable, Rows, Reply, Future, Refused, Refusal, TooOld, CrossTablet, Place, ListSchedules, Placed, Present, Schedules, UnknownTable}
use Rattle.model.specs.Answers.{NotYet, KeysRefused, Faulty, NotKept, Apart, NoTable, KeysPlaced, TablePlaced, GivesRows}
use Rattle.model.specs.Entries.{Entry}
use Rattle.model.specs.Replies.{Right}
use Rattle.std.proofs.lemmas.Bool.Decides.{nat_tests}
use Rattle.model.specs.Activity.{Interval}
use Rattle.model.specs.Looks.{place_of}
use Rattle.model_rows.specs.Computed.{the_book}
use Rattle.model_rows.specs.FirstRead.{written}
use Rattle.model_rows.specs.Runs.{Run, Do, after, answered, begun, done}
use Rattle.model_rows.specs.Scripts.{create_namespace, kept_v, new_int, planned_change, reading, row, tick, v, a, t, x, early, look_for, u, asked, place, v_alone, B, change, look_present, ready, since}

-- Looks for the tablet of a key

-- a look for a key, now or at a time, with an answer
abbrev looking : List ℕ → Option ℕ → Reply → List Entry
looking table time reply = answered reply (after (look_for a table x [] time) written).entries

no_fault : (why : Refusal) → None ≡ Some why → ⊥
no_fault why e = cc

no_code : (code : ℕ) → None ≡ Some code → ⊥
no_code code e = cc

-- a time to come is refused with another stamp than the look's own

another_stamp : Right 64 (looking t (Some (early 9)) (Refused (Future (early 7)))) → ⊥
unfolding the_book
another_stamp right = elim (right.1.0) [
  | KeysRefused why refused ↦ elim refused [ NotYet now ns later now_is ↦ (let same : early 7 ≡ early 4 = now_is in omega arith) ]
  | Faulty why table fault ↦ no_fault _ fault
]

-- a time that is over is refused as one to come

time_over : Right 64 (looking t (Some (early 2)) (Refused (Future (early 4)))) → ⊥
unfolding the_book
time_over right = elim (right.1.0) [
  | KeysRefused why refused ↦ elim refused [ NotYet now ns later now_is ↦ true≢false (sym later) ]
  | Faulty why table fault ↦ no_fault _ fault
]

-- the catalog is kept from the namespace's making on: another end is named, and a time at which it is kept is refused

another_end : Right 64 (looking t (Some 7) (Refused (TooOld 7 (early 2)))) → ⊥
unfolding the_book
another_end right = elim (right.1.0) [
  | KeysRefused why refused ↦ elim refused [ NotKept asked cutoff ns over below asked_is cutoff_is ↦ grind (arith, nat_tests, cutoff_is) ]
  | Faulty why table fault ↦ no_fault _ fault
]

time_kept : Right 64 (looking t (Some (early 2)) (Refused (TooOld (early 2) (early 0)))) → ⊥
unfolding the_book
time_kept right = elim (right.1.0) [
  | KeysRefused why refused ↦ elim refused [ NotKept asked cutoff ns over below asked_is cutoff_is ↦ grind (arith, nat_tests, below) ]
  | Faulty why table fault ↦ no_fault _ fault
]

-- at a time to come there is no such table, but the time is refused first

out_of_order : Right 64 (looking u (Some (early 9)) (Refused UnknownTable)) → ⊥
unfolding the_book
out_of_order right = elim (right.1.0) [
  | KeysRefused why refused ↦ elim refused [ NoTable ns reach missing ↦ true≢false reach.over ]
  | Faulty why table fault ↦ no_fault _ fault
]

-- one key is in no two tablets

one_key_apart : Right 64 (looking t None (Refused (CrossTablet 120 120))) → ⊥
unfolding the_book
one_key_apart right = elim (right.1.0) [
  | KeysRefused why refused ↦ elim refused [ ]
  | Faulty why table fault ↦ no_fault _ fault
  | Apart first other table sound home first_is outside ↦ no_code 120 (rw home.holds at outside)
]

-- the table under another version of its schema, and its one place named twice

abbrev the_place : Place
the_place = place 1 (B 1) 0 65536

another_version : Right 64 (looking t None (Placed (the_place ∷ []) 2 v_alone)) → ⊥
unfolding the_book
another_version right = elim (right.1.0) [ KeysPlaced places version columns table sound shown home inside placed ↦ grind (arith, nat_tests, shown.version_is) ]

one_place_twice : Right 64 (looking t None (Placed (the_place ∷ the_place ∷ []) 1 v_alone)) → ⊥
unfolding the_book
one_place_twice right = elim (right.1.0) [
  | KeysPlaced places version columns table sound shown home inside placed ↦ (let count : ◌≡◌ {A = ℕ} 2 1 = ap length placed in omega arith)
]

-- Looks for all tablets of a table

-- a table of two tablets
abbrev pair : Run
pair = after (tick 1000000 ++ create_namespace a ++ planned_change (CreateTable a t 2 (new_int v ∷ [])) (1 ∷ 2 ∷ [])) (begun 64)

abbrev looking_wide : Reply → List Entry
looking_wide reply = answered reply (after (Do (Look (AskTable a t None)) ∷ []) pair).entries

abbrev low_half : Interval
low_half = record (since 2) { high = 32768 }

abbrev high_half : Interval
high_half = record (since 2) { slot = 2; tablet = B 2; low = 32768 }

abbrev backwards : List Place
backwards = place_of high_half ∷ place_of low_half ∷ []

places_backwards : Right 64 (looking_wide (Placed backwards 1 v_alone)) → ⊥
unfolding the_book
places_backwards right = elim (right.1.0) [
  | TablePlaced places version columns table shown placed ↦ (let rises : 32768 < 0 = placed.rising.0.0 in omega arith)
]

-- Reads

-- a read of another tablet than the one in the slot

abbrev another_tablet : At
another_tablet = record { slot = 1; tablet = B 9 }

abbrev reading_another : List Entry
reading_another = answered (Rows (row x (kept_v 1) ∷ [])) (done (reading another_tablet 1 x (1 ∷ [])) written).entries

tablet_elsewhere : Right 64 reading_another → ⊥
unfolding the_book
tablet_elsewhere right = elim (right.1.0) [ GivesRows rows may reached right ↦ true≢false (sym may.may.served.0.0) ]

-- a look for the present slots leaves none out, and lists show each record

none_present : Right 64 (answered (Present []) (after look_present written).entries) → ⊥
unfolding the_book
none_present right = (let e = right.1.0 in cc)

none_listed : Right 64 (answered (Schedules []) (after (change ListSchedules) ready).entries) → ⊥
unfolding the_book
none_listed right = elim right.1.0 [ inl stale ↦ stale.0 refl | inr exact ↦ (let e = exact.1 in cc) ]
