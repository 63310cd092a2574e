-- Parts in the middle of a restore and after it stand for the journal, and their ranges cover the codes.
use Rattle.std.proofs.Common.{◌≡◌, ◌≤◌, ◌<◌, ◌⊎◌, inl, inr, ℕ, List, true, false, [], ◌∷◌, Option, Some, None, refl, arith, subst, sym, ap, leb}
use Rattle.std.proofs.lemmas.Bool.{cases_Bool, true≢false, ltb-true}
use Rattle.std.proofs.lemmas.Bool.Decides.{leb_tells, nat_tests}
use Rattle.std.specs.Option.{is_some}
use Rattle.row_values.specs.declared.value.RowOp.TheVariants.{Upsert}
use Rattle.row_values.specs.Codes.{code_of}
use Rattle.row_values.specs.Ids.{Id, same}
use Rattle.row_values.specs.Elements.{In}
use Rattle.model.specs.Activity.{Interval}
use Rattle.model.specs.Journal.{TableView, row_at, table_at}
use Rattle.row_values.specs.Store.{Version, read_of}
use Rattle.row_values.specs.Ranges.{in_range}
use Rattle.model.specs.Stands.{AreRowsAt, Cover, FrozenStands, LiveStands, holders}
use Rattle.model.specs.Tablets.{FrozenSet}
use Rattle.model_rows.proofs.Numbers.{first_cell, two_is_not_one}
use Rattle.model_rows.specs.Computed.{the_book}
use Rattle.model_rows.specs.Runs.{Run, coordinated}
use Rattle.model_rows.specs.Scripts.{since, B, T, early, kept_v, x}
use Rattle.model_rows.specs.UndoneRestore.{one_restore, restored, restoring}

-- the tablet was active before the restore's point, and is from it on

abbrev until_point : Interval
until_point = record { slot = 1; tablet = B 1; table = T 1; low = 0; high = 65536; from = early 2; to = Some (early 11) }

its_activity : restored.parts.master.activity ≡ until_point ∷ since 11 ∷ []
unfolding the_book
its_activity = refl

not_there : (at : Option TableView) → is_some at ≡ true → at ≡ None → ⊥
not_there at there none = true≢false (subst (λ found. true ≡ is_some found) none (sym there))

no_other_table : (table : Id) (time : ℕ) → same (T 1) table ≡ false → table_at one_restore time table ≡ None
no_other_table table time other = grind (arith, nat_tests)

none_before : (table : Id) (time : ℕ) → time < early 2 → table_at one_restore time table ≡ None
none_before table time soon = grind (arith, nat_tests)

held_once : (table : Id) (code time : ℕ) → code < 65536 → same (T 1) table ≡ true → early 2 ≤ time
    → holders (until_point ∷ since 11 ∷ []) table code time ≡ 1
held_once table code time below it later = grind (arith, nat_tests)

restored_covers : Cover restored.parts.master.activity one_restore
unfolding the_book
restored_covers = λ table code time below there. by table code time below there (cases_Bool (same (T 1) table)) (leb_tells (early 2) time)
  where
    by : (table : Id) (code time : ℕ) → code < 65536 → is_some (table_at one_restore time table) ≡ true
        → (same (T 1) table ≡ true) ⊎ (same (T 1) table ≡ false) → ((leb (early 2) time ≡ true) × (early 2 ≤ time)) ⊎ ((leb (early 2) time ≡ false) × (time < early 2))
        → holders (until_point ∷ since 11 ∷ []) table code time ≡ 1
    by table code time below there (inr other) when = absurd (not_there _ there (no_other_table table time other))
    by table code time below there (inl it) (inr (e, soon)) = absurd (not_there _ there (none_before table time soon))
    by table code time below there (inl it) (inl (e, later)) = held_once table code time below it later

-- rows before the point, and from it on

abbrev version : ℕ → ℕ → Version
version logical n = record { key = x; stamp = early logical; op = Upsert (kept_v n) }

abbrev first_versions : List Version
first_versions = version 3 1 ∷ version 4 2 ∷ []

reads_before : (key : List ℕ) (time : ℕ) → early 2 ≤ time → time < early 11 → read_of first_versions key time ≡ row_at one_restore time (T 1) key
reads_before key time from to = grind (arith, nat_tests)

reads_since : (key : List ℕ) (time : ℕ) → early 11 ≤ time → read_of (version 11 1 ∷ []) key time ≡ row_at one_restore time (T 1) key
reads_since key time from = grind (arith, nat_tests)

restored_stands : LiveStands restored.parts one_restore 1
unfolding the_book
restored_stands = record { reads = λ i key time last inside from to before point there. reads_since key time from }

-- after the switch a tablet still has its old rows until it takes those of the restore
abbrev waiting : Run
waiting = coordinated 10 restoring

waiting_stands : LiveStands waiting.parts one_restore 1
unfolding the_book
waiting_stands = record { reads = λ i key time last inside from to before point there. reads_before key time from (ltb-true time (early 11) point) }

-- the old rows aren't those of the journal from the point on
old_rows : read_of first_versions x (early 12) ≡ row_at one_restore (early 12) (T 1) x → ⊥
old_rows e = two_is_not_one (ap (λ r. first_cell r.cells) e)

soon : (time : ℕ) → time ≤ early 10 → time < early 11
soon time to = omega arith

-- the frozen set of the restore's own snapshot keeps what was undone
frozen_stands : (f : FrozenSet) → In f (restored.parts.tablet 1).frozen → FrozenStands restored.parts one_restore 1 f
unfolding the_book
frozen_stands f (inl e) = subst (λ set. FrozenStands restored.parts one_restore 1 set) e (record {
  reads = λ i key time listed its active inside from to there. reads_before key time from (soon time to);
})
-- the tablet took the rows of the restore's time
frozen_stands f (inr h) = absurd h

restored_versions : (restored.parts.tablet 1).versions ≡ version 11 1 ∷ []
unfolding the_book
restored_versions = refl

same_version : (v : Version) → In v (version 11 1 ∷ []) → version 11 1 ≡ v
same_version v (inl e) = e
same_version v (inr h) = absurd h

restored_rows : AreRowsAt (version 11 1 ∷ []) 0 65536 (early 11) one_restore (early 3) (T 1)
restored_rows = record {
  stamps = λ v listed. ap (λ w. w.stamp) (sym (same_version v listed));
  upserts = refl;
  rows = λ key inside. grind (arith, nat_tests);
  inside = λ v listed. subst (λ w. in_range 0 65536 (code_of w.key) ≡ true) (same_version v listed) refl;
}
