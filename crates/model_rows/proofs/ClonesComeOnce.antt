-- What comes once, of a clone whose source goes on: it cloned its source once, under the name, to the time and with the tables of the
-- accepted command; no tablet did a command twice; the numbers were drawn in turn.
use Rattle.std.proofs.Common.{◌≡◌, [], ◌∷◌, Some, inl, inr, refl, sym, subst, ◌∙◌, arith}
use Rattle.std.specs.List.{filter}
use Rattle.std.proofs.lemmas.Bool.Decides.{nat_tests}
use Rattle.row_values.specs.Ids.{Id}
use Rattle.row_values.specs.Elements.{In}
use Rattle.model.specs.Drawn.{DrawsInTurn}
use Rattle.model.specs.Entering.{Entering, entered}
use Rattle.model.specs.History.{replay, journal_of}
use Rattle.model.specs.Journal.{Change, NamespaceCloned, is_in, table_at}
use Rattle.model.specs.Once.{CloneAsked, ClonesOnce, NoneAgain, Once, is_whole, restores_asked, clones_asked, changes_asked, changes_by, commands_done, is_paired}
use Rattle.model.specs.Records.{CloneRecord, CloneComplete, IsReleasing}
use Rattle.model_rows.proofs.RightClones.{been_read, one_row}
use Rattle.model_rows.proofs.Turns.{drawn_in_turn, none_done_again, at_place, in_at}
use Rattle.model_rows.specs.Computed.{the_book}
use Rattle.model_rows.specs.Scripts.{B, K, N, P, T, a, b, early}

in_turn : DrawsInTurn 64 been_read.entries
unfolding the_book
in_turn = drawn_in_turn been_read.entries 64 refl

none_twice : NoneAgain (commands_done 64 been_read.entries)
unfolding the_book
none_twice = none_done_again (commands_done 64 been_read.entries) refl

abbrev pub asked : CloneAsked
asked = record { operation = K 1; source = Some (N 1); target = b; to = early 4; before = one_row }

its_asked : clones_asked 64 been_read.entries ≡ asked ∷ []
unfolding the_book
its_asked = refl

abbrev pub its_record : CloneRecord
its_record = record {
  id = K 1;
  source = N 1;
  source_name = a;
  target = b;
  target_id = N 2;
  tables = record { source = T 1; target = T 2 } ∷ [];
  tablets = record { source = B 1; source_slot = 1; target = B 2; slot = 2; table = T 2; low = 0; high = 65536 } ∷ [];
  to = early 4;
  listed = [];
  state = CloneComplete (P 1) (early 22);
}

its_kept : (replay 64 been_read.entries).master.clones ≡ its_record ∷ []
unfolding the_book
its_kept = refl

abbrev its_change : Change
its_change = record { stamp = early 26; act = NamespaceCloned (N 1) (N 2) b (early 4) (record { source = T 1; target = T 2 } ∷ []) }

it_cloned : changes_by 64 (K 1) been_read.entries ≡ its_change ∷ []
unfolding the_book
it_cloned = refl

abbrev became_current : Entering
became_current = record { operation = K 1; state = IsReleasing; at = early 26 }

its_release : at_place 1 (entered 64 been_read.entries) ≡ Some became_current
unfolding the_book
its_release = refl

its_tables : (table : Id) → is_paired its_record.tables table ≡ is_in (N 1) (table_at one_row (early 4) table)
its_tables table = grind (arith, nat_tests)

clone_once : ClonesOnce 64 been_read.entries asked
clone_once = record {
  clone = its_record;
  kept = subst (In its_record) (sym its_kept) (inl refl);
  id_is = refl;
  source_is = refl;
  target_is = refl;
  to_is = refl;
  tables = its_tables;
  cloned = record { at = early 26; current = in_at 1 (entered 64 been_read.entries) became_current its_release; alone = it_cloned };
}

one_clone : filter (λ c. is_whole c.act) (journal_of 64 been_read.entries) ≡ its_change ∷ []
unfolding the_book
one_clone = refl

one_moved : changes_asked 64 been_read.entries ≡ its_change ∷ []
unfolding the_book
one_moved = refl

none_asked : restores_asked 64 been_read.entries ≡ []
unfolding the_book
none_asked = refl

each_once : (command : CloneAsked) → In command (asked ∷ []) → ClonesOnce 64 been_read.entries command
each_once command (inl e) = subst (ClonesOnce 64 been_read.entries) e clone_once
each_once command (inr h) = absurd h

all_once : Once 64 been_read.entries
all_once = record {
  restores = λ command isin. absurd (subst (In command) none_asked isin);
  clones = λ command isin. each_once command (subst (In command) its_asked isin);
  journal = one_clone ∙ sym one_moved;
  commands = none_twice;
}
