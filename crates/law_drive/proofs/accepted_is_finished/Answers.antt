-- By the bound on what is left, and by what comes once.
use Rattle.law_drive.proofs.Kept.{snapshot_finished}
use Rattle.law_drive.proofs.Settled.{clone_finished, restore_finished, settle_follows, snapshots_finished}
use Rattle.law_drive.proofs.accepted_is_finished.Goals as goal

pub returns : goal.returns
returns c = record {
  legal = λ slots reading history legal less runs. (settle_follows slots reading history legal less runs).legal;
  leaves = λ slots reading history legal less runs. (settle_follows slots reading history legal less runs).leaves;
  complete = λ slots reading history r legal less runs isin. snapshots_finished slots reading history legal less runs r isin;
  snapshots = λ slots reading history r legal less runs isin. snapshot_finished slots reading history r legal less runs isin;
  restores = λ slots reading history asked legal less runs isin. restore_finished slots reading history asked legal less runs isin;
  clones = λ slots reading history asked legal less runs isin. clone_finished slots reading history asked legal less runs isin;
}
