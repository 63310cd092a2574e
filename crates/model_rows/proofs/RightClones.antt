-- The history of a clone of a source that goes on is right.
use Rattle.std.proofs.Common.{◌≡◌, ℕ, Bool, true, false, ◌&&◌, ◌++◌, List, [], ◌∷◌, Some, None, is_some, if◌then◌else◌, refl, sym, ap, subst, arith, inl, inr, eqb, eqb-true}
use Rattle.std.proofs.lemmas.Bool.{leb-true, ltb-true, true≢false}
use Rattle.std.proofs.lemmas.Bool.Decides.{nat_tests}
use Rattle.row_values.specs.Ids.{Id, Kind, Namespace, same, same_kind}
use Rattle.row_values.specs.Elements.{In}
use Rattle.model.specs.Acts.{At, CloneNamespace, DropTable, Split}
use Rattle.model.specs.Activity.{Interval}
use Rattle.model.specs.Replies.{Right}
use Rattle.model.specs.History.{journal_of}
use Rattle.model.specs.Journal.{Change, NamespaceCloned, TableDropped}
use Rattle.model.specs.Right.{SameThen, FixedStays}
use Rattle.model.specs.Windows.{HasName, CloneAccepted}
use Rattle.model_rows.proofs.RightEntries.{look_right, nothing_fixed, plain_stays, read_right}
use Rattle.model_rows.proofs.RightReads.{made_stays, ready_right}
use Rattle.model_rows.proofs.WrongWindows.{first_letter, only_one}
use Rattle.model_rows.specs.Computed.{the_book}
use Rattle.model_rows.specs.FirstRead.{namespace_made, table_made}
use Rattle.model_rows.specs.Runs.{Run, after, coordinated, done}
use Rattle.model_rows.specs.Scripts.{v_alone, asking, reading, since, B, N, T, a, b, change, early, home, int_column, kept_v, place, planned_change, put, ready, t, v, v_is, x}
use Rattle.model_rows.specs.UndoneRestore.{row_of}

-- a row is written, and the clone is accepted; the source's table is split, written and dropped; then the clone is finished

abbrev pub accepted : Run
accepted = after (put a t (home 1) x (v_is 1) ++ change (CloneNamespace a b (Some (early 4))) ++ planned_change (Split a t 1000) (1 ∷ 3 ∷ 4 ∷ [])) ready

abbrev pub gone_on : Run
gone_on = after
    (put a t (record { places = place 3 (B 3) 0 1000 ∷ []; version = 1; columns = int_column 1 v ∷ [] }) x (v_is 9) ++ planned_change (DropTable a t) (3 ∷ 4 ∷ []))
    accepted

abbrev pub cloned : Run
cloned = coordinated 60 gone_on

abbrev pub target_place : At
target_place = record { slot = 2; tablet = B 2 }

abbrev pub been_read : Run
been_read = done (reading target_place 1 x (1 ∷ [])) (done (asking b x []) cloned)

abbrev pub one_row : List Change
one_row = row_of 3 1 ∷ table_made ∷ namespace_made ∷ []

abbrev pub dropped : List Change
dropped = record { stamp = early 10; act = TableDropped (T 1) } ∷ row_of 8 9 ∷ one_row

abbrev pub all_changes : List Change
all_changes =
    record { stamp = early 26; act = NamespaceCloned (N 1) (N 2) b (early 4) (record { source = T 1; target = T 2 } ∷ []) } ∷ dropped

its_journal : journal_of 64 been_read.entries ≡ all_changes
unfolding the_book
its_journal = refl

row_stays : FixedStays one_row
row_stays = plain_stays one_row (refl, (refl, (refl, tt)))

rows_stay : FixedStays (row_of 8 9 ∷ one_row)
rows_stay = plain_stays (row_of 8 9 ∷ one_row) (refl, (refl, (refl, (refl, tt))))

dropped_stays : FixedStays dropped
dropped_stays = plain_stays dropped (refl, (refl, (refl, (refl, (refl, tt)))))

-- what the clone took of its source stays
all_stay : FixedStays all_changes
all_stay = record {
  none_late = (dropped_stays.none_late, λ ns to fixed of_it. absurd (true≢false (sym fixed)));
  same = (
    nothing_fixed all_changes dropped (refl, (refl, (refl, (refl, (refl, tt))))),
    λ ns to fixed. let time : early 4 ≡ to = grind (arith, nat_tests) in
        subst (SameThen all_changes dropped ns) time (record { name = refl; tables = λ id inside. refl; rows = λ id key inside. refl }),
  );
}

-- a child of the split, and the clone's target
abbrev child : Interval
child = record { slot = 3; tablet = B 3; table = T 1; low = 0; high = 1000; from = early 7; to = None }

abbrev target : Interval
target = record { slot = 2; tablet = B 2; table = T 2; low = 0; high = 65536; from = early 26; to = None }

-- the one namespace of the view

first_is : (id : Id) → same (N 1) id ≡ true → N 1 ≡ id
first_is id e = by id.kind id.number e
  where
    by : (k : Kind) (n : ℕ) → (eqb 1 n && same_kind Namespace k) ≡ true → N 1 ≡ record { kind = k; number = n }
    by Namespace n e = let number : 1 ≡ n = eqb-true 1 n (one (eqb 1 n) e) in ap (λ i. record { kind = Namespace; number = i }) number
      where
        one : (b : Bool) → (b && true) ≡ true → b ≡ true
        one true e = refl
        one false e = e
    by _ n e = absurd (none (eqb 1 n) e)
      where
        none : (b : Bool) → (b && false) ≡ true → ⊥
        none true e = true≢false (sym e)
        none false e = true≢false (sym e)

only_first : (id : Id) → is_some (if same (N 1) id then Some a else None) ≡ true → In id (N 1 ∷ [])
only_first id some = inl (first_is id (only_one id some))

not_named : (found : Bool) → (if found then Some a else None) ≡ Some b → ⊥
not_named true e = let letter : ◌≡◌ {A = ℕ} 97 98 = ap first_letter e in omega arith
not_named false e = cc

free_name : (id : Id) → HasName one_row (early 5) [] b id → ⊥
free_name id (inl named) = not_named (same (N 1) id) named
free_name id (inr reserved) = absurd reserved.listed

accepted_right : Right 64 accepted.entries
unfolding the_book
accepted_right = (
  (
    (
      (
        look_right 64 ready a (N 1) (T 1) x (v_is 1) (since 2) 1 v_alone ready_right refl refl refl refl refl (inl refl) refl refl refl refl made_stays,
        (inl refl, row_stays),
      ),
      (
        inr (
          refl,
          CloneAccepted _
              (record {
                from = record { source = record { id = N 1; named = refl }; unused = refl; least = _; scheduled = refl };
                free = free_name;
                count = 1;
                counted = record { current = N 1 ∷ []; are = record { once = (tt, tt); each = (refl, tt); all = only_first }; count_is = refl };
                room = λ full. (let clash : ◌≡◌ {A = ℕ} 1 64 = full in omega arith);
              })
              (leb-true (early 3) (early 4) refl, ltb-true (early 4) (early 5) refl)
              (leb-true 1 63 refl),
        ),
        row_stays,
      ),
    ),
    (refl, row_stays),
  ),
  (inr (refl, inl (B 3, B 4, refl)), row_stays),
)

gone_on_right : Right 64 gone_on.entries
unfolding the_book
gone_on_right = (
  (
    (
      look_right 64 accepted a (N 1) (T 1) x (v_is 9) child 1 v_alone accepted_right refl refl refl refl refl (inr (inl refl)) refl refl refl refl row_stays,
      (inl refl, rows_stay),
    ),
    (refl, rows_stay),
  ),
  (inr (refl, inl refl), dropped_stays),
)

-- the clone takes a snapshot, of which each tablet of the source freezes; it copies, becomes current, and releases its tablet

cloned_right : Right 64 cloned.entries
unfolding the_book
cloned_right = ((((((((((((((((((((gone_on_right, (inl (_, refl), dropped_stays)), (inl refl, dropped_stays)), (inl (_, _, refl), dropped_stays)), (inl refl, dropped_stays)), (inl refl, dropped_stays)), (inl (_, _, refl), dropped_stays)), (inl refl, dropped_stays)), (inl refl, dropped_stays)), (inl (_, _, refl), dropped_stays)), (inl refl, dropped_stays)), (inl (_, refl), dropped_stays)), (inl (_, refl), dropped_stays)), (inl refl, dropped_stays)), (inl (_, _, refl), dropped_stays)), (inl refl, dropped_stays)), (inl (_, refl), all_stay)), (inl refl, all_stay)), (inl (_, _, refl), all_stay)), (inl refl, all_stay)), (inl (_, refl), all_stay))

-- the clone gives the row as it was, though the source's table is gone
been_read_right : Right 64 been_read.entries
unfolding the_book
been_read_right =
    read_right 64 (done (asking b x []) cloned) target_place 1 x (1 ∷ []) (kept_v 1)
    (look_right 64 cloned b (N 2) (T 2) x [] target 1 v_alone cloned_right refl refl refl refl refl (inr (inr (inr (inl refl)))) refl refl refl refl all_stay)
    refl refl refl refl refl refl all_stay
