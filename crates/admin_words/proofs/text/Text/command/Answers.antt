use Rattle.std.proofs.Common.{append_assoc}
use Rattle.admin_words.proofs.text.Text.command.Goals as goal

pub returns-in-CreateTable-clause-added : goal.returns-in-CreateTable-clause-added
returns-in-CreateTable-clause-added c = rw c.in-CreateTable.is c.new_table.ensures.added

pub returns-in-DropColumn-clause-added : goal.returns-in-DropColumn-clause-added
returns-in-DropColumn-clause-added c = rw c.in-DropColumn.is c.named_in_table.ensures.added

pub returns-in-RenameTable-clause-added : goal.returns-in-RenameTable-clause-added
returns-in-RenameTable-clause-added c = rw c.in-RenameTable.is c.named_in_table-in-RenameTable.ensures.added

pub returns-in_ok-period_words-in-CreateSnapshotSchedule-clause-added : goal.returns-in_ok-period_words-in-CreateSnapshotSchedule-clause-added
returns-in_ok-period_words-in-CreateSnapshotSchedule-clause-added c =
    rw c.in-CreateSnapshotSchedule.is
    (simp append_assoc (simp (c.in_ok-add-in-CreateSnapshotSchedule.ensures.added, c.in_ok-period_words-in-CreateSnapshotSchedule.ensures.added, c.as_slice.ensures.same, append_assoc) at c.word.ensures.added))

pub returns-in_ok-of_id-in-EditSnapshotSchedule-clause-added : goal.returns-in_ok-of_id-in-EditSnapshotSchedule-clause-added
returns-in_ok-of_id-in-EditSnapshotSchedule-clause-added c =
    rw c.in-EditSnapshotSchedule.is
    (simp append_assoc (simp (c.in_ok-of_id-in-EditSnapshotSchedule.ensures.added, append_assoc) at c.period_words-in-EditSnapshotSchedule.ensures.added))

pub returns-in-DeleteSnapshotSchedule-clause-added : goal.returns-in-DeleteSnapshotSchedule-clause-added
returns-in-DeleteSnapshotSchedule-clause-added c =
    rw c.in-DeleteSnapshotSchedule.is c.of_id-in-DeleteSnapshotSchedule.ensures.added

pub returns-in-TakeSnapshot-clause-added : goal.returns-in-TakeSnapshot-clause-added
returns-in-TakeSnapshot-clause-added c = rw c.in-TakeSnapshot.is c.of_id-in-TakeSnapshot.ensures.added

pub returns-in_ok-of_id-in-RestoreSnapshotSchedule-clause-added : goal.returns-in_ok-of_id-in-RestoreSnapshotSchedule-clause-added
returns-in_ok-of_id-in-RestoreSnapshotSchedule-clause-added c =
    rw c.in-RestoreSnapshotSchedule.is
    (simp append_assoc (simp (c.in_ok-of_id-in-RestoreSnapshotSchedule.ensures.added, append_assoc) at c.exact_words.ensures.added))

pub returns-in-None-clause-added : goal.returns-in-None-clause-added
returns-in-None-clause-added c =
    rw (c.in-CloneNamespace.is, c.in-None.is) c.in_ok-in_table-in-CloneNamespace.ensures.added

pub returns-in-Some-clause-added : goal.returns-in-Some-clause-added
returns-in-Some-clause-added c =
    rw (c.in-CloneNamespace.is, c.in-Some.is)
    (simp append_assoc (simp (c.in_ok-in_table-in-CloneNamespace.ensures.added, append_assoc) at c.exact_words-in-Some.ensures.added))

pub returns-in-ListSnapshotSchedules-clause-added : goal.returns-in-ListSnapshotSchedules-clause-added
returns-in-ListSnapshotSchedules-clause-added c =
    rw c.in-ListSnapshotSchedules.is c.add-in-ListSnapshotSchedules.ensures.added

pub returns-in-ListSnapshots-clause-added : goal.returns-in-ListSnapshots-clause-added
returns-in-ListSnapshots-clause-added c = rw c.in-ListSnapshots.is c.add-in-ListSnapshots.ensures.added

pub returns-in-ListSnapshotRestorations-clause-added : goal.returns-in-ListSnapshotRestorations-clause-added
returns-in-ListSnapshotRestorations-clause-added c =
    rw c.in-ListSnapshotRestorations.is c.add-in-ListSnapshotRestorations.ensures.added
