-- The text of every act, reply and refusal.
use Rattle.std.proofs.Common.{◌≡◌, [], ◌∷◌, ◌++◌, map, None, Some, codes, negsuc, refl}
use Rattle.row_values.specs.declared.value.Value.TheVariants.{Int, Text, Null}
use Rattle.row_values.specs.declared.value.RowOp.TheVariants.{Upsert, Delete}
use Rattle.row_values.specs.Schema.{TextColumn}
use Rattle.model.specs.Tablets.{Empty, Serving, Hidden, FenceKind, FreezeKind, RestoreFromKind, HideKind, CopyKind, ReleaseKind}
use Rattle.model.specs.Records.{IsCreating, IsComplete, IsFencing, IsSnapshot, IsSwitching, IsRestoring, IsReleasing, IsRestored, IsAccepted, IsCopying}
use Rattle.model.specs.Acts as acts
use Rattle.model.specs.Acts.{NamedUpsert, NamedDelete, AskPlan, AskKeys, AskTable, AskWork, AskRemovable, AskPresent, Look, Act, Command, Refusal, Reply, SendWork, CollectWork, AdvanceWork}
use Rattle.model_runs.specs.Texts.{refusal_text, reply_text, history_gap, line_gap}
use Rattle.model_runs.specs.HistoryTexts.{command_text, act_text}
use Rattle.model_rows.specs.Computed.{the_book}
use Rattle.model_rows.specs.Scripts.{B, K, N, P, R, S, T, a, b, cell, early, new_int, new_text, int_column, number, q, row, set, t, text_column, u, v, w, x, zz}
use Rattle.model_rows.specs.ScriptLines.{uuid}

-- commands, as a script writes them

commands_told : map command_text
    (acts.CreateNamespace a
    ∷ acts.DropNamespace a
    ∷ acts.CreateTable a t 4 (new_text v ∷ new_int w ∷ [])
    ∷ acts.AddColumn a t w TextColumn
    ∷ acts.DropColumn a t w
    ∷ acts.RenameTable a t u
    ∷ acts.DropTable a t
    ∷ acts.Split a t 1000
    ∷ acts.CreateSchedule 1 10 a
    ∷ acts.EditSchedule (S 1) 5 60
    ∷ acts.DeleteSchedule (S 1)
    ∷ acts.TakeSnapshot (S 1)
    ∷ acts.Restore (S 1) 4096000003
    ∷ acts.CloneNamespace a b None
    ∷ acts.CloneNamespace a b (Some 5)
    ∷ acts.ListSchedules
    ∷ acts.ListSnapshots
    ∷ acts.ListRestorations
    ∷ acts.ListClones
    ∷ acts.ListTablets a
    ∷ [])
    ≡ codes "create_namespace a"
    ∷ codes "drop_namespace a"
    ∷ codes "create_table a t tablets 4 v:text w:int"
    ∷ codes "add_column a t w:text"
    ∷ codes "drop_column a t w"
    ∷ codes "rename_table a t u"
    ∷ codes "drop_table a t"
    ∷ codes "split a t 1000"
    ∷ codes "create_snapshot_schedule 1 10 a"
    ∷ (codes "edit_snapshot_schedule" ++ uuid (S 1) ++ codes " 5 60")
    ∷ (codes "delete_snapshot_schedule" ++ uuid (S 1))
    ∷ (codes "take_snapshot" ++ uuid (S 1))
    ∷ (codes "restore_snapshot_schedule" ++ uuid (S 1) ++ codes " ht 4096000003")
    ∷ codes "clone_namespace a b"
    ∷ codes "clone_namespace a b ht 5"
    ∷ codes "list_snapshot_schedules"
    ∷ codes "list_snapshots"
    ∷ codes "list_snapshot_restorations"
    ∷ codes "list_clones"
    ∷ codes "list_tablets a"
    ∷ []
unfolding the_book
commands_told = refl

acts_told : map act_text
    (Look (AskPlan (acts.DropTable a t))
    ∷ Look (AskKeys a t (record { key = x; op = NamedUpsert (set v (number 1) ∷ set w (Text q) ∷ []) } ∷ record { key = zz; op = NamedDelete } ∷ []) None)
    ∷ Look (AskKeys a t (record { key = x; op = NamedUpsert [] } ∷ []) (Some 5))
    ∷ Look (AskTable a t None)
    ∷ Look (AskTable a t (Some 5))
    ∷ Look AskWork
    ∷ Look AskRemovable
    ∷ Look AskPresent
    ∷ acts.Change (acts.DropTable a t) (1 ∷ 2 ∷ [])
    ∷ acts.Write (record { slot = 1; tablet = B 2 }) 3 (record { key = x; op = Upsert (cell 1 (Int (negsuc 4)) ∷ cell 2 Null ∷ []) } ∷ record { key = zz; op = Delete } ∷ [])
    ∷ acts.Read (record { slot = 1; tablet = B 2 } ∷ record { slot = 3; tablet = B 4 } ∷ []) 5 None (Some 6) (1 ∷ 2 ∷ [])
    ∷ acts.Read (record { slot = 1; tablet = B 2 } ∷ []) 5 (Some x) None []
    ∷ acts.Cutoff 1
    ∷ acts.Compact 1
    ∷ acts.Send (R 1) 2
    ∷ acts.Process 1 2
    ∷ acts.Ack (K 1) 2
    ∷ acts.Advance (P 1)
    ∷ acts.Remove (P 1) (1 ∷ 2 ∷ [])
    ∷ acts.Prune
    ∷ acts.Restart 0
    ∷ acts.Stats 3
    ∷ [])
    ≡ codes "look drop_table a t"
    ∷ codes "look_keys a t x v=1 w='q' / zz delete"
    ∷ codes "look_keys a t x at 5"
    ∷ codes "look_table a t"
    ∷ codes "look_table a t at 5"
    ∷ codes "look_work"
    ∷ codes "look_removable"
    ∷ codes "look_present"
    ∷ codes "change [1,2] drop_table a t"
    ∷ (codes "write 1" ++ uuid (B 2) ++ codes " v3 x 1=-5 2=null / zz delete")
    ∷ codes "read 1/00000003-0000-4000-8000-000000000002,3/00000003-0000-4000-8000-000000000004 v5 * 1,2 at 6"
    ∷ codes "read 1/00000003-0000-4000-8000-000000000002 v5 x -"
    ∷ codes "cutoff 1"
    ∷ codes "compact 1"
    ∷ (codes "send" ++ uuid (R 1) ++ codes " 2")
    ∷ codes "process 1 2"
    ∷ (codes "ack" ++ uuid (K 1) ++ codes " 2")
    ∷ (codes "advance" ++ uuid (P 1))
    ∷ (codes "remove" ++ uuid (P 1) ++ codes " [1,2]")
    ∷ codes "prune"
    ∷ codes "restart 0"
    ∷ codes "stats 3"
    ∷ []
unfolding the_book
acts_told = refl

-- replies, as a history tells them

replies_told : map (reply_text history_gap [])
    (acts.Ok []
    ∷ acts.Ok (B 2 ∷ B 3 ∷ [])
    ∷ acts.Planned []
    ∷ acts.Planned (1 ∷ 2 ∷ [])
    ∷ acts.Placed (record { slot = 1; tablet = B 1; low = 0; high = 1000 } ∷ record { slot = 2; tablet = B 2; low = 1000; high = 65536 } ∷ []) 3 (int_column 1 v ∷ text_column 4 w ∷ [])
    ∷ acts.Work None
    ∷ acts.Work (Some (SendWork (P 1) 2))
    ∷ acts.Work (Some (CollectWork (P 1) 2 3))
    ∷ acts.Work (Some (AdvanceWork (P 1)))
    ∷ acts.Removable []
    ∷ acts.Removable (record { target = B 1; slots = 1 ∷ [] } ∷ record { target = P 1; slots = 2 ∷ 3 ∷ [] } ∷ [])
    ∷ acts.Present (1 ∷ 2 ∷ [])
    ∷ acts.Rows []
    ∷ acts.Rows (row x (cell 1 (number 7) ∷ cell 2 (Text q) ∷ []) ∷ row zz (cell 1 Null ∷ []) ∷ [])
    ∷ acts.CutoffAt (early 5)
    ∷ acts.Compacted 12 3
    ∷ acts.SentTo
    ∷ acts.Done (R 1) FenceKind
    ∷ acts.Done (P 1) FreezeKind
    ∷ acts.Done (R 1) RestoreFromKind
    ∷ acts.Done (R 1) HideKind
    ∷ acts.Done (K 1) CopyKind
    ∷ acts.Done (K 1) ReleaseKind
    ∷ acts.Acked
    ∷ acts.Advanced IsRestored
    ∷ acts.Removed
    ∷ acts.Pruned 2
    ∷ acts.Counts (early 5) 1 2 3
    ∷ acts.NoTablet
    ∷ acts.Schedules (record { id = S 1; namespace = a; interval = 1; retention = 10; low = early 3 } ∷ [])
    ∷ acts.Snapshots []
    ∷ acts.Snapshots (record { id = P 1; schedule = S 1; state = IsCreating; after = early 2; at = early 3 } ∷ record { id = P 2; schedule = S 1; state = IsComplete; after = early 3; at = early 9 } ∷ [])
    ∷ acts.Restorations (record { id = R 1; schedule = S 1; state = IsFencing; to = early 3; point = None } ∷ record { id = R 2; schedule = S 1; state = IsSwitching; to = early 3; point = Some (early 9) } ∷ [])
    ∷ acts.Clones (record { id = K 1; source = a; target = b; state = IsCopying; to = early 3 } ∷ [])
    ∷ acts.Tablets (record { tablet = B 1; table = T 1; slot = 1; low = 0; high = 65536; ended = None } ∷ record { tablet = B 2; table = T 1; slot = 2; low = 0; high = 1000; ended = Some (early 7) } ∷ [])
    ∷ acts.Refused acts.Idle
    ∷ [])
    ≡ codes "ok"
    ∷ (codes "ok" ++ uuid (B 2) ++ uuid (B 3))
    ∷ codes "planned []"
    ∷ codes "planned [1,2]"
    ∷ (codes "placed 1" ++ uuid (B 1) ++ codes " 0..1000 2" ++ uuid (B 2) ++ codes " 1000..65536 v3 1:v:int 4:w:text")
    ∷ codes "work none"
    ∷ (codes "work send" ++ uuid (P 1) ++ codes " 2")
    ∷ (codes "work collect" ++ uuid (P 1) ++ codes " 2 3")
    ∷ (codes "work advance" ++ uuid (P 1))
    ∷ codes "removable"
    ∷ (codes "removable" ++ uuid (B 1) ++ codes " [1]" ++ uuid (P 1) ++ codes " [2,3]")
    ∷ codes "present [1,2]"
    ∷ codes "rows 0"
    ∷ codes "rows 2 | x 1=7 2='q' | zz 1=null"
    ∷ codes "cutoff_at 1000000.5"
    ∷ codes "compacted 12 3"
    ∷ codes "sent"
    ∷ (codes "done" ++ uuid (R 1) ++ codes " fence")
    ∷ (codes "done" ++ uuid (P 1) ++ codes " freeze")
    ∷ (codes "done" ++ uuid (R 1) ++ codes " restore_from")
    ∷ (codes "done" ++ uuid (R 1) ++ codes " hide")
    ∷ (codes "done" ++ uuid (K 1) ++ codes " copy")
    ∷ (codes "done" ++ uuid (K 1) ++ codes " release")
    ∷ codes "acked"
    ∷ codes "advanced RESTORED"
    ∷ codes "removed"
    ∷ codes "pruned 2"
    ∷ codes "stats cutoff 1000000.5 versions 1 frozen 2 inbox 3"
    ∷ codes "empty"
    ∷ (codes "1 schedules |" ++ uuid (S 1) ++ codes " a interval 1 retention 10 low 1000000.3")
    ∷ codes "0 snapshots"
    ∷ (codes "2 snapshots |" ++ uuid (P 1) ++ uuid (S 1) ++ codes " CREATING after 1000000.2 at 1000000.3 |" ++ uuid (P 2) ++ uuid (S 1) ++ codes " COMPLETE after 1000000.3 at 1000000.9")
    ∷ (codes "2 restorations |" ++ uuid (R 1) ++ uuid (S 1) ++ codes " FENCING to 1000000.3 at - |" ++ uuid (R 2) ++ uuid (S 1) ++ codes " SWITCHING to 1000000.3 at 1000000.9")
    ∷ (codes "1 clones |" ++ uuid (K 1) ++ codes " a b COPYING to 1000000.3")
    ∷ (codes "2 tablets |" ++ uuid (B 1) ++ uuid (T 1) ++ codes " slot 1 0..65536 active |" ++ uuid (B 2) ++ uuid (T 1) ++ codes " slot 2 0..1000 hidden 1000000.7")
    ∷ codes "refused idle"
    ∷ []
unfolding the_book
replies_told = refl

states_told : map (λ state. reply_text line_gap [] (acts.Advanced state))
    (IsCreating ∷ IsComplete ∷ IsFencing ∷ IsSnapshot ∷ IsSwitching ∷ IsRestoring ∷ IsReleasing ∷ IsRestored ∷ IsAccepted ∷ IsCopying ∷ [])
    ≡ codes "advanced CREATING" ∷ codes "advanced COMPLETE" ∷ codes "advanced FENCING" ∷ codes "advanced SNAPSHOT" ∷ codes "advanced SWITCHING"
    ∷ codes "advanced RESTORING" ∷ codes "advanced RELEASING" ∷ codes "advanced RESTORED" ∷ codes "advanced ACCEPTED" ∷ codes "advanced COPYING" ∷ []
unfolding the_book
states_told = refl

refusals_told : map refusal_text
    (acts.UnknownNamespace
    ∷ acts.UnknownTable
    ∷ acts.UnknownColumn
    ∷ acts.UnknownSchedule
    ∷ acts.UnknownSnapshot
    ∷ acts.WrongKind
    ∷ acts.BadPeriod 10 10
    ∷ acts.NameTaken (N 1)
    ∷ acts.NotEmpty (T 1)
    ∷ acts.UnderSchedule (S 1)
    ∷ acts.NoSchedule (N 2)
    ∷ acts.TooMany 64
    ∷ acts.SlotsFull 2 3
    ∷ acts.TooEarly (early 3)
    ∷ acts.Future (early 4)
    ∷ acts.Busy (K 1)
    ∷ acts.Fenced (R 1)
    ∷ acts.Moved 1 Empty
    ∷ acts.Moved 1 (Serving (B 1) 0 65536)
    ∷ acts.Moved 1 (Hidden (B 1) (early 7))
    ∷ acts.StaleSchema 2
    ∷ acts.StalePlan (1 ∷ 2 ∷ [])
    ∷ acts.CrossTablet 120 55610
    ∷ acts.TooNarrow 0
    ∷ acts.TooOld (early 4) (early 5)
    ∷ acts.NotDue (early 6)
    ∷ acts.NotPending (P 1)
    ∷ acts.Idle
    ∷ acts.OtherSlot 2
    ∷ acts.NotDone
    ∷ acts.Waiting (P 1)
    ∷ acts.InWindow (early 7) (early 8)
    ∷ acts.IsListed (R 1)
    ∷ [])
    ≡ codes "unknown_namespace"
    ∷ codes "unknown_table"
    ∷ codes "unknown_column"
    ∷ codes "unknown_schedule"
    ∷ codes "unknown_snapshot"
    ∷ codes "wrong_kind"
    ∷ codes "bad_period 10 10"
    ∷ (codes "name_taken" ++ uuid (N 1))
    ∷ (codes "not_empty" ++ uuid (T 1))
    ∷ (codes "under_schedule" ++ uuid (S 1))
    ∷ (codes "no_schedule" ++ uuid (N 2))
    ∷ codes "too_many 64"
    ∷ codes "slots_full 2 3"
    ∷ codes "too_early 1000000.3"
    ∷ codes "future 1000000.4"
    ∷ (codes "busy" ++ uuid (K 1))
    ∷ (codes "fenced" ++ uuid (R 1))
    ∷ codes "moved 1 empty"
    ∷ (codes "moved 1 serving" ++ uuid (B 1) ++ codes " 0..65536")
    ∷ (codes "moved 1 hidden" ++ uuid (B 1) ++ codes " 1000000.7")
    ∷ codes "stale_schema 2"
    ∷ codes "stale_plan [1,2]"
    ∷ codes "cross_tablet 120 55610"
    ∷ codes "too_narrow 0"
    ∷ codes "too_old 1000000.4 1000000.5"
    ∷ codes "not_due 1000000.6"
    ∷ (codes "not_pending" ++ uuid (P 1))
    ∷ codes "idle"
    ∷ codes "other_slot 2"
    ∷ codes "not_done"
    ∷ (codes "waiting" ++ uuid (P 1))
    ∷ codes "in_window 1000000.7 1000000.8"
    ∷ (codes "listed" ++ uuid (R 1))
    ∷ []
unfolding the_book
refusals_told = refl
